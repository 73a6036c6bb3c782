use Rattle.std.proofs.Common.{◌≡◌, arith}
use Rattle.std.proofs.lemmas.Grind.{common_steps}
use Rattle.zb_model.specs.Packing.{packed_by}
use Rattle.zb_model.specs.PackingLaws.{packed_database, packed_fewer}
use Rattle.mapping_store.proofs.packing.pack_list.Goals as goal

pub returns-clause-fewer : goal.returns-clause-fewer
returns-clause-fewer c =
    let same : c.loop-transaction.packed.items ≡ packed_by c.args.tid c.args.keep.now c.args.list.now = grind (arith, common_steps) in
    rw same (packed_fewer c.args.tid c.args.keep.now c.args.list.now)

pub returns-clause-database : goal.returns-clause-database
returns-clause-database c =
    let same : c.loop-transaction.packed.items ≡ packed_by c.args.tid c.args.keep.now c.args.list.now = grind (arith, common_steps) in
    rw same (packed_database c.args.tid c.args.keep.now c.args.list.now)
