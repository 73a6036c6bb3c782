-- What the calls of a pack do to a store. Source: `pack` of ZODB's FileStorage; copying in turns is own.
use Rattle.std.specs.Prelude.{◌≡◌, ℕ, ◌+◌, ◌⊎◌, List, [], ◌∷◌, ◌++◌, Bool, true, false, length, nat_le, if◌then◌else◌}
use Rattle.std.specs.List.{sum_by}
use Rattle.std.specs.Ordering.{nat_cmp}
use Rattle.std.specs.FinSet.{FinSet}
use Rattle.zb_model.specs.declared.data.Transaction.{Transaction}
use Rattle.zb_model.specs.declared.packs.Copied.{Copied}
use Rattle.zb_model.specs.declared.packs.Packed.{Packed}
use Rattle.zb_model.specs.Packing.{packed_by}
use Rattle.zb_model.specs.Stores.{BegunPack}

-- how many changes these transactions have
abbrev pub change_count : List Transaction → ℕ
change_count list = sum_by (λ (x : Transaction). length x.changes) list

-- a list begins with these transactions
abbrev pub IsPrefixOf : List Transaction → List Transaction → Type 0
IsPrefixOf list prefix = (rest : List Transaction) × (list ≡ prefix ++ rest)

-- nothing is copied yet
abbrev pub new_pack : ℕ → BegunPack
new_pack tid = record { tid = tid; copied = [] }

-- what is copied is a prefix of the list as it is packed where these objects are kept
abbrev pub IsCopyOf : FinSet nat_cmp → List Transaction → BegunPack → Type 0
IsCopyOf keep list pack = IsPrefixOf (packed_by pack.tid keep list) pack.copied

-- a turn ends once it has copied so many changes, or nothing is left
abbrev pub changes_a_turn : ℕ
changes_a_turn = 64

-- Of these transactions, those that a turn copies still which has copied so many changes: each whole, until the turn ends. One without changes counts nothing, and ends no turn.
abbrev pub turn_from : ℕ → List Transaction → List Transaction
turn_from count [] = []
turn_from count (x ∷ rest) = if nat_le changes_a_turn count then [] else x ∷ turn_from (count + length x.changes) rest

-- whether all is copied
abbrev pub IsAllCopied : List Transaction → List Transaction → Bool → Type 0
IsAllCopied packed copied true = copied ≡ packed
IsAllCopied packed copied false = copied ≡ packed → ⊥

-- The next transactions of the packed list are copied, those of one turn. The count is that of all that are copied.
pub record IsCopyTurn (packed : List Transaction) (old new : BegunPack) (copied : Copied) : Type 0 where
  pub rest : List Transaction
  pub left : packed ≡ old.copied ++ rest
  pub tid : new.tid ≡ old.tid
  pub grown : new.copied ≡ old.copied ++ turn_from 0 rest
  pub count : copied.count ≡ change_count new.copied
  pub whole : IsAllCopied packed new.copied copied.whole

-- the changes that stay are those of the packed list, and the others went
pub record IsPackCount (list packed : List Transaction) (counts : Packed) : Type 0 where
  pub kept : counts.kept ≡ change_count packed
  pub all : counts.kept + counts.dropped ≡ change_count list

-- bytes stand for a list, or for another
abbrev pub StandsForOneOfTwo : (List ℕ → List Transaction → Type 0) → List Transaction → List Transaction → List ℕ → Type 0
StandsForOneOfTwo stands list other bytes = stands bytes list ⊎ stands bytes other
