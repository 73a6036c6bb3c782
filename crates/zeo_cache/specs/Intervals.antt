-- What the cache of a remote client holds. Source: the client cache of ZEO, whose entries hold from their serial to an end; that it forgets by last use is own.
use Rattle.std.specs.Prelude.{◌≡◌, ◌≢◌, ◌⊎◌, ◌≤◌, ℕ, List, Option, Some, None, Bool, true, false, nat_eq, nat_lt, nat_le, length, ◌&&◌, ◌==◌, if◌then◌else◌}
use Rattle.std.specs.Map.{lookup}
use Rattle.std.specs.Option.{option_map}
use Rattle.zeo_cache.specs.declared.interval.Interval.{Interval}

-- objects, each with its entry
abbrev pub Intervals : Type 0
Intervals = List (ℕ × Interval)

-- objects, each with its entry, and how many may have one
pub record CachedIntervals : Type 0 where
  pub entries : Intervals
  pub capacity : ℕ

-- the entry of an object, if it has one
abbrev pub interval_of : Intervals → ℕ → Option Interval
interval_of entries oid = lookup (nat_eq oid) entries

-- a front is at or before an end, where there is one
abbrev pub is_up_to : ℕ → Option ℕ → Bool
is_up_to front None = true
is_up_to front (Some end) = nat_le front end

-- what an entry answers at a front
abbrev pub found_in : Option Interval → ℕ → Option (ℕ × List ℕ)
found_in None front = None
found_in (Some kept) front = if nat_lt kept.serial front && is_up_to front kept.end then Some (kept.serial, kept.bytes) else None

-- what is found of an object at a front
abbrev pub found_at : Intervals → ℕ → ℕ → Option (ℕ × List ℕ)
found_at entries oid front = found_in (interval_of entries oid) front

-- the end of an answer that speaks of the fronts up to one, where the client knows the fronts up to another one
abbrev pub kept_end : Option ℕ → ℕ → ℕ → Option ℕ
kept_end (Some end) upto known = Some end
kept_end None upto known = if nat_lt upto known then Some upto else None

-- an entry without an end that began before it ends at a tid
abbrev pub end_at : ℕ → ℕ → Option ℕ → Option ℕ
end_at tid serial (Some end) = Some end
end_at tid serial None = if nat_lt serial tid then Some tid else None

abbrev pub closed_at : ℕ → Interval → Interval
closed_at tid kept = record kept { end = end_at tid kept.serial kept.end }

-- the entry of an object once another one, or the same, was closed at a tid
abbrev pub closed_one : ℕ → ℕ → ℕ → Interval → Interval
closed_one closed tid oid kept = if oid == closed then closed_at tid kept else kept

-- each object has the entry that it had
pub record HoldsSame (old new : Intervals) : Type 0 where
  pub each : (oid : ℕ) → interval_of new oid ≡ interval_of old oid

-- an object has this entry; each other one the entry that it had, or none where there was no room left
pub record HoldsAlso (old : CachedIntervals) (oid : ℕ) (kept : Interval) (new : CachedIntervals) : Type 0 where
  pub one : interval_of new.entries oid ≡ Some kept
  pub others : (o : ℕ) → o ≢ oid → (interval_of new.entries o ≡ interval_of old.entries o) ⊎ ((interval_of new.entries o ≡ None) × (old.capacity ≤ length old.entries))

-- an object's entry is closed at a tid; each other object has the entry that it had
pub record HoldsClosed (old : Intervals) (oid tid : ℕ) (new : Intervals) : Type 0 where
  pub each : (o : ℕ) → interval_of new o ≡ option_map (closed_one oid tid o) (interval_of old o)

-- an object has no entry; each other one the entry that it had
pub record HoldsAllBut (old : Intervals) (oid : ℕ) (new : Intervals) : Type 0 where
  pub one : interval_of new oid ≡ None
  pub others : (o : ℕ) → o ≢ oid → interval_of new o ≡ interval_of old o
