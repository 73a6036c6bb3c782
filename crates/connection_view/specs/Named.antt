-- Objects that are named, and what stays cached beside them. Own.
use Rattle.std.specs.Prelude.{◌≡◌, ℕ, List, Some, Bool, false, ◌||◌}
use Rattle.object_cache.specs.declared.cache.CachedRevision.{CachedRevision}
use Rattle.object_cache.specs.Cached.{cached_of}
use Rattle.connection_view.specs.declared.named.Named.{Named}
use Rattle.connection_view.specs.Views.{is_one_of}

-- the object is named
abbrev pub names : Named → ℕ → Bool
names named oid = named.all || is_one_of named.oids oid

-- what isn't named now wasn't named before, and is none of these objects
pub record CoversNamed (objects : ℕ → Bool) (old new : Named) : Type 0 where
  pub kept : (oid : ℕ) → names new oid ≡ false → names old oid ≡ false
  pub added : (oid : ℕ) → names new oid ≡ false → objects oid ≡ false

-- what is cached now was cached before, and is of no object that is named
pub record KeepsUnnamed (named : Named) (old new : List (ℕ × CachedRevision)) : Type 0 where
  pub kept : (oid : ℕ) (cached : CachedRevision) → cached_of new oid ≡ Some cached → cached_of old oid ≡ Some cached
  pub unnamed : (oid : ℕ) (cached : CachedRevision) → cached_of new oid ≡ Some cached → names named oid ≡ false
