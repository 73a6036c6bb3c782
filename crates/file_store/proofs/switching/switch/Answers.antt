use Rattle.std.proofs.Common.{arith}
use Rattle.zb_volume.specs.declared.areas.Area.TheVariants.{Main, Side}
use Rattle.zb_volume.specs.Disk.{seen}
use Rattle.fs_records.specs.Listed.{listed}
use Rattle.pack_copy.specs.CopiedLaws.{copied_counts}
use Rattle.file_store.proofs.Switches.{listed_database, old_or_side}
use Rattle.file_store.proofs.switching.switch.Goals as goal

pub returns-in_err-sync_and_replace-clause-any_moment : goal.returns-in_err-sync_and_replace-clause-any_moment
returns-in_err-sync_and_replace-clause-any_moment g c = λ told settled. old_or_side _ _ settled (c.sync_and_replace.ensures.any_moment told)

pub returns-clause-kept : goal.returns-clause-kept
returns-clause-kept g c = λ told.
    let side = seen (g.V.Volume.state c.args.volume.now).log Side in
    let k = copied_counts side c.args.copy (c.requires.copied told) in
    c.changes-kept.ensures (listed side) k.0 k.1

pub returns-clause-dropped : goal.returns-clause-dropped
returns-clause-dropped g c = λ told.
    let main = seen (g.V.Volume.state c.args.volume.now).log Main in
    let side = seen (g.V.Volume.state c.args.volume.now).log Side in
    let k = copied_counts side c.args.copy (c.requires.copied told) in
    let kept = c.changes-kept.ensures (listed side) k.0 k.1 in
    let all = c.changes_of.ensures (listed main) (listed_database main) (c.requires.counted told) in
    omega (arith, kept, all, c.saturating_sub-dropped.ensures)

pub returns-clause-any_moment : goal.returns-clause-any_moment
returns-clause-any_moment g c = λ told settled. old_or_side _ _ settled (c.sync_and_replace.ensures.any_moment told)
