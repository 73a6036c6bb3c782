-- What was found so far, and what the rest gives, are the whole.
use Rattle.std.proofs.Common.{◌≡◌, drop}
use Rattle.btree_family.specs.Classes.{class_seen}
use Rattle.bucket_state.specs.States.{found_all, entry_item}
use Rattle.bucket_state.proofs.Loops.{behind}
use Rattle.bucket_state.proofs.items.read_all.Given as goal

abbrev pub invariant-loop-entry : goal.invariant-loop-entry
invariant-loop-entry l = behind l.items.items (found_all (entry_item (class_seen l.row) l.pickle.nodes) (drop l.entry-index l.entries)) ≡ found_all (entry_item (class_seen l.row) l.pickle.nodes) l.entries
