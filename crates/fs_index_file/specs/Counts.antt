-- What the data records of an index file change. Source: own.
use Rattle.std.specs.Prelude.{◌≡◌, ℕ, ◌+◌, ◌-◌, ◌<◌, ◌^◌, Bool, true, ◌==◌, ◌&&◌, not, if◌then◌else◌, List, [], ◌∷◌, length, map, max, min, drop}
use Rattle.zb_model.specs.declared.data.Transaction.{Transaction}
use Rattle.zb_model.specs.Queries.{greatest_of, oids_of}
use Rattle.fs_index.specs.declared.place.Place.{Place}
use Rattle.fs_index.specs.declared.place.Placed.{Placed}
use Rattle.fs_recovery.specs.declared.counted.Counted.{Counted}
use Rattle.fs_recovery.specs.Numbers.{NumbersKept, AreNumbersOf}
use Rattle.fs_index_file.specs.declared.entries.Head.{Head}
use Rattle.fs_index_file.specs.Hints.{after, first_record, records_in}
use Rattle.fs_index_file.specs.Scans.{records_by}

-- ---- what is to be counted

-- a data record is of the object and the transaction of the one before it
abbrev pub is_again : Placed → Placed → Bool
is_again last r = last.oid == r.oid && last.place.serial == r.place.serial

-- a data record is another object's of this transaction than the one before it
abbrev pub is_more : ℕ → Placed → Placed → Bool
is_more tid last r = r.place.serial == tid && not (is_again last r)

-- the objects of the data records of a transaction among these, which stand in order behind one; each once
abbrev pub oids_at : ℕ → Placed → List Placed → List ℕ
oids_at tid last [] = []
oids_at tid last (r ∷ rs) = if is_more tid last r then r.oid ∷ oids_at tid (after r) rs else oids_at tid (after r) rs

-- how many objects these are, and the greatest of them
abbrev pub counted_of : List ℕ → Counted
counted_of oids = record { changes = length oids; greatest = greatest_of oids }

-- what the data records change by the transaction at a place
abbrev pub counted_at : List Placed → Place → Counted
counted_at records p = counted_of (oids_at p.serial first_record records)

-- what a transaction changes
abbrev pub counted_in : Transaction → Counted
counted_in t = record { changes = length t.changes; greatest = greatest_of (oids_of t) }

-- these are the numbers of each list whose transactions have these places' tids, were packed or not, and change so much
abbrev pub AreCounted : List Place → List Bool → List Counted → NumbersKept → Type 0
AreCounted starts packed counted numbers = (list : List Transaction) → map (λ t. t.tid) list ≡ map (λ p. p.serial) starts → map (λ t. t.packed) list ≡ packed → map counted_in list ≡ counted → AreNumbersOf list numbers

-- ---- what was counted so far

-- the tids rise, from above this one on
abbrev pub RisesFrom : ℕ → List Place → Type 0
RisesFrom tid [] = Unit {0}
RisesFrom tid (p ∷ ps) = (tid < p.serial) × RisesFrom p.serial ps

-- nothing was counted of any of these
abbrev pub nothing_counted : List Place → List Counted
nothing_counted [] = []
nothing_counted (p ∷ ps) = record { changes = 0; greatest = 0 } ∷ nothing_counted ps

-- with one object more
abbrev pub with_object : ℕ → Counted → Counted
with_object oid c = record { changes = min (c.changes + 1) (2 ^ 64 - 1); greatest = max c.greatest oid }

-- with one data record more behind another, each of these transactions
abbrev pub with_record : Placed → Placed → List Place → List Counted → List Counted
with_record last r [] counted = counted
with_record last r (p ∷ ps) [] = []
with_record last r (p ∷ ps) (c ∷ cs) = (if is_more p.serial last r then with_object r.oid c else c) ∷ with_record last r ps cs

-- what was counted of a transaction, and what the rest has of it, are what all have of it
pub record IsCountedSoFar (all : List Placed) (last : Placed) (rest : List Placed) (p : Place) (c : Counted) : Type 0 where
  pub changes : c.changes + length (oids_at p.serial last rest) ≡ length (oids_at p.serial first_record all)
  pub greatest : max c.greatest (greatest_of (oids_at p.serial last rest)) ≡ greatest_of (oids_at p.serial first_record all)

abbrev pub AreCountedSoFar : List Placed → Placed → List Placed → List Place → List Counted → Type 0
AreCountedSoFar all last rest [] [] = Unit {0}
AreCountedSoFar all last rest [] (c ∷ cs) = ⊥
AreCountedSoFar all last rest (p ∷ ps) [] = ⊥
AreCountedSoFar all last rest (p ∷ ps) (c ∷ cs) = IsCountedSoFar all last rest p c × AreCountedSoFar all last rest ps cs

-- k data records were read, up to q, the last before `last`
abbrev pub CountsSoFar : List ℕ → Head → ℕ → ℕ → Placed → List Place → List Counted → Type 0
CountsSoFar bytes h k q last starts counted = AreCountedSoFar (records_by bytes h) last (records_in (h.records - k) (drop q bytes)) starts counted

-- all were read, and so much is counted
abbrev pub CountsGive : List ℕ → Head → List Place → List Counted → Bool → Type 0
CountsGive bytes h starts counted all = all ≡ true → RisesFrom 0 starts → counted ≡ map (counted_at (records_by bytes h)) starts
