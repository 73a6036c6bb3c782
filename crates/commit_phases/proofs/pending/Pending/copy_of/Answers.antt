-- The object's store is that of its entry in the table.
use Rattle.std.proofs.Common.{arith}
use Rattle.std.proofs.lemmas.Grind.{common_steps}
use Rattle.commit_phases.proofs.Storing.{store_found}
use Rattle.commit_phases.proofs.pending.Pending.copy_of.Goals as goal

pub returns : goal.returns
returns c = grind (arith, common_steps, c.in_ok-store.ensures, store_found c.self.inside.stores.entries c.args.oid)
