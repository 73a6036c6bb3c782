-- What is wanted isn't known, and a walk comes to it.
use Rattle.std.specs.Prelude.{◌≡◌, ◌≤◌, ◌^◌, ℕ, Option, Some, None, All}
use Rattle.btree_family.specs.Classes.{class_seen}
use Rattle.btree_shapes.specs.Nodes.{class_held}
use Rattle.tree_attempts.specs.declared.known.Seen.{Seen}
use Rattle.tree_attempts.specs.Ahead.{AreAhead, IsMet}
use Rattle.tree_attempts.specs.Calls.{contents_of}
use Rattle.tree_attempts.specs.Known.{Agrees, known_at}
use Rattle.tree_attempts.proofs.ahead.open_level.Given as goal

abbrev pub invariant-loop-oid : goal.invariant-loop-oid
invariant-loop-oid l = record {
  unknown : All (λ oid. known_at l.known oid ≡ None) l.wanted;
  met : (objects : ℕ → Option Seen) (root room : ℕ) → Agrees l.known objects → class_held (contents_of objects root) ≡ Some (class_seen l.row) → room ≤ 2 ^ 64
      → All (IsMet (contents_of objects) root l.span room) l.fn.level
      → AreAhead (contents_of objects) root l.span room l.fn.below.items l.fn.wanted → AreAhead (contents_of objects) root l.span room l.below.items l.wanted;
}
