-- What is wanted isn't known, and a walk comes to it.
use Rattle.std.specs.Prelude.{◌≡◌, ◌≤◌, ◌-◌, ℕ, Option, Some, None, All}
use Rattle.btree_family.specs.Classes.{class_seen}
use Rattle.btree_shapes.specs.Nodes.{class_held}
use Rattle.tree_attempts.specs.declared.known.Seen.{Seen}
use Rattle.tree_attempts.specs.Calls.{contents_of}
use Rattle.tree_attempts.specs.Known.{Agrees, known_at}
use Rattle.tree_attempts.proofs.Looking.{IsAtLevel}
use Rattle.tree_attempts.proofs.ahead.ahead_of.Given as goal

abbrev pub invariant-levels : goal.invariant-levels
invariant-levels l = record {
  unknown : All (λ oid. known_at l.known oid ≡ None) l.wanted;
  within : l.depth ≤ l.levels;
  met : (objects : ℕ → Option Seen) → Agrees l.known objects → class_held (contents_of objects l.fn.root) ≡ Some (class_seen l.row) → IsAtLevel (contents_of objects) l.fn.root l.span l.depth l.level.items l.wanted;
}

abbrev pub decreases-levels : goal.decreases-levels
decreases-levels l = l.levels - l.depth
