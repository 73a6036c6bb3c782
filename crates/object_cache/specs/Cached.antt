-- What a cache of objects holds. Source: the object cache of a ZODB connection, which is bounded; that it holds records and no objects is own.
use Rattle.std.specs.Prelude.{◌≡◌, ◌≢◌, ◌⊎◌, ◌≤◌, ℕ, List, Option, Some, None, nat_eq, nat_lt, length, if◌then◌else◌}
use Rattle.std.specs.Map.{lookup}
use Rattle.object_cache.specs.declared.cache.CachedRevision.{CachedRevision}

-- objects, each with its cached revision, and of how many objects one may be cached
pub record CachedObjects : Type 0 where
  pub objects : List (ℕ × CachedRevision)
  pub capacity : ℕ

-- the cached revision of an object, if it has one
abbrev pub cached_of : List (ℕ × CachedRevision) → ℕ → Option CachedRevision
cached_of objects oid = lookup (nat_eq oid) objects

-- the serial and the bytes of a revision, if the serial is below a front
abbrev pub if_below : ℕ → Option CachedRevision → Option (ℕ × List ℕ)
if_below front None = None
if_below front (Some cached) = if nat_lt cached.serial front then Some (cached.serial, cached.bytes) else None

-- what is found of an object at a front
abbrev pub found_at : List (ℕ × CachedRevision) → ℕ → ℕ → Option (ℕ × List ℕ)
found_at objects oid front = if_below front (cached_of objects oid)

-- of each object the same is cached as before, or nothing as before
pub record CachesSame (old new : List (ℕ × CachedRevision)) : Type 0 where
  pub each : (oid : ℕ) → cached_of new oid ≡ cached_of old oid

-- this revision is cached of an object; of each other one the same as before, or nothing where there was no room left
pub record CachesAlso (old : CachedObjects) (oid : ℕ) (cached : CachedRevision) (new : CachedObjects) : Type 0 where
  pub one : cached_of new.objects oid ≡ Some cached
  pub others : (o : ℕ) → o ≢ oid → (cached_of new.objects o ≡ cached_of old.objects o) ⊎ ((cached_of new.objects o ≡ None) × (old.capacity ≤ length old.objects))

-- nothing is cached of an object; of each other one the same as before
pub record CachesAllBut (old : List (ℕ × CachedRevision)) (oid : ℕ) (new : List (ℕ × CachedRevision)) : Type 0 where
  pub one : cached_of new oid ≡ None
  pub others : (o : ℕ) → o ≢ oid → cached_of new o ≡ cached_of old o
