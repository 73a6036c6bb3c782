-- What a change of a client cache may leave of its entries. Own.
use Rattle.std.specs.Prelude.{◌≡◌, ◌⊎◌, ℕ, ◌≤◌, Option, Some, None}
use Rattle.zeo_cache.specs.declared.interval.Interval.{Interval}
use Rattle.zeo_cache.specs.Intervals.{Intervals, interval_of}

-- a front is at or before an end, where there is one
abbrev pub IsUpTo : ℕ → Option ℕ → Type 0
IsUpTo front None = Unit {0}
IsUpTo front (Some end) = front ≤ end

-- the entries are among those before: memory, and the room of the cache, may lose any
abbrev pub AreAmong : Intervals → Intervals → Type 0
AreAmong now before = (oid : ℕ) (e : Interval) → interval_of now oid ≡ Some e → interval_of before oid ≡ Some e

-- and that of an object may be this one
abbrev pub AreAmongOr : ℕ → Interval → Intervals → Intervals → Type 0
AreAmongOr this kept now before = (oid : ℕ) (e : Interval) → interval_of now oid ≡ Some e → (interval_of before oid ≡ Some e) ⊎ ((oid ≡ this) × (e ≡ kept))

-- the entry that one became by a change of entries
pub record CameBy (change : ℕ → Interval → Interval) (before : Intervals) (oid : ℕ) (e : Interval) : Type 0 where
  pub was : Interval
  pub there : interval_of before oid ≡ Some was
  pub is : e ≡ change oid was

-- each entry came of one before by this change
abbrev pub Changes : (ℕ → Interval → Interval) → Intervals → Intervals → Type 0
Changes change now before = (oid : ℕ) (e : Interval) → interval_of now oid ≡ Some e → CameBy change before oid e
