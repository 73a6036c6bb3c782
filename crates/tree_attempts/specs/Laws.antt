-- Laws of calls on trees. Own.
use Rattle.std.specs.Prelude.{◌≡◌, ℕ, List, Option, length}
use Rattle.tree_attempts.specs.declared.put.TreePut.{TreePut}
use Rattle.zb_model.specs.declared.refusal.Refusal.{Refusal}
use Rattle.tree_attempts.specs.declared.known.Seen.{Seen}
use Rattle.tree_attempts.specs.declared.operation.TreeAnswer.{TreeAnswer}
use Rattle.tree_attempts.specs.declared.operation.TreeOperation.{TreeOperation}
use Rattle.tree_attempts.specs.Calls.{IsMade, IsRefused, NeedsNumbers, contents_of}

-- a call over these objects needs so many numbers and no other count, draws as many where it is made, and isn't refused by the tree
pub record DrawsSoMany (objects : ℕ → Option Seen) (root : ℕ) (op : TreeOperation) (count : ℕ) : Type 0 where
  pub needed : (other : ℕ) → NeedsNumbers (contents_of objects) root op other → other ≡ count
  pub drawn : (numbers : List ℕ) (a : TreeAnswer) (puts : List TreePut) → IsMade objects root op numbers a puts → length numbers ≡ count
  pub unrefused : (why : Refusal) → IsRefused objects root op why → ⊥

-- a call that is made again over the same objects draws as many numbers
abbrev pub CallsDrawAlike : Type 0
CallsDrawAlike = (objects : ℕ → Option Seen) (root : ℕ) (op : TreeOperation) (count : ℕ) → NeedsNumbers (contents_of objects) root op count → DrawsSoMany objects root op count
