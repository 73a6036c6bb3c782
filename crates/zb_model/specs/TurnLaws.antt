-- What is copied of a packed list is a front of it still behind a turn. For the proofs of those who keep stores or pack them.
use Rattle.std.proofs.Common.{ℕ, ◌+◌, Bool, true, false, cond, List, [], ◌∷◌, ◌++◌, length, refl, sym, ap, ◌∙◌, append_assoc}
use Rattle.std.specs.Prelude.{nat_le}
use Rattle.zb_model.specs.declared.data.Transaction.{Transaction}
use Rattle.zb_model.specs.declared.packs.Copied.{Copied}
use Rattle.zb_model.specs.Packs.{IsCopyTurn, IsPrefixOf, changes_a_turn, turn_from}
use Rattle.zb_model.specs.Stores.{BegunPack}

one_more : (over : Bool) (x : Transaction) (rest turn : List Transaction) → IsPrefixOf rest turn → IsPrefixOf (x ∷ rest) (cond over [] (x ∷ turn))
one_more true x rest turn front = (x ∷ rest, refl)
one_more false x rest turn front = (front.0, ap (λ (l : List Transaction). x ∷ l) front.1)

-- a turn copies a front of what is left
pub turn_is_front : (count : ℕ) (list : List Transaction) → IsPrefixOf list (turn_from count list)
turn_is_front count [] = ([], refl)
turn_is_front count (x ∷ rest) = one_more (nat_le changes_a_turn count) x rest (turn_from (count + length x.changes) rest) (turn_is_front (count + length x.changes) rest)

-- so all that is copied is one of the packed list
pub copied_is_front : (packed : List Transaction) (old new : BegunPack) (copied : Copied) → IsCopyTurn packed old new copied → IsPrefixOf packed new.copied
copied_is_front packed old new copied turn =
    let front = turn_is_front 0 turn.rest in (
      front.0,
      turn.left ∙ ap (λ (l : List Transaction). old.copied ++ l) front.1 ∙ sym (append_assoc old.copied (turn_from 0 turn.rest) front.0) ∙ ap (λ (l : List Transaction). l ++ front.0) (sym turn.grown),
    )
