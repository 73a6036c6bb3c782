-- What was found so far, and what the rest gives, are the whole.
use Rattle.std.proofs.Common.{◌≡◌, drop}
use Rattle.bucket_state.specs.States.{found_all}
use Rattle.bucket_state.specs.Trees.{branch_at}
use Rattle.bucket_state.proofs.Loops.{behind}
use Rattle.bucket_state.proofs.tree.read_branches.Given as goal

abbrev pub invariant-loop-entry : goal.invariant-loop-entry
invariant-loop-entry l = behind l.branches.items (found_all (branch_at l.kind l.nodes) (drop l.entry-index l.entries)) ≡ found_all (branch_at l.kind l.nodes) l.entries
