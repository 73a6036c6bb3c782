-- What a client has when it begins, and what its views, votes and commits leave of it. Own.
use Rattle.std.specs.Prelude.{◌≡◌, ◌⊎◌, ℕ, List, [], ◌∷◌, ◌++◌, Option, Some, None, Bool, true, false, map, if◌then◌else◌, nat_le}
use Rattle.zb_model.specs.declared.news.News.{News}
use Rattle.zb_model.specs.declared.pending.PendingStore.{PendingStore}
use Rattle.zeo_frames.specs.Frames.{Reading}
use Rattle.zeo_cache.specs.declared.interval.Interval.{Interval}
use Rattle.zeo_cache.specs.Intervals.{CachedIntervals, HoldsSame, Intervals, found_at, interval_of}
use Rattle.zeo_serving.specs.declared.standing.MayChange.{MayChange}
use Rattle.zeo_serving.specs.declared.standing.Standing.{Standing}
use Rattle.zeo_client.specs.Hearing.{Held}
use Rattle.zeo_client.specs.Taking.{ClientState}

abbrev pub no_news : News
no_news = record { forget = false; packed = false; commits = [] }

abbrev pub nothing : MayChange
nothing = record { all = false; oids = [] }

-- a client that was told nothing and has asked nothing, whose cache has room for so many entries
abbrev pub new_client : ℕ → ClientState
new_client capacity = record {
  held = record { cache = record { entries = []; capacity = capacity }; standing = record { known = 0; switches = 0; news = no_news; asked = nothing } };
  reading = record { rest = []; ended = None };
  number = 0;
  last = None;
  ended = None;
}

-- with another standing
abbrev pub standing_as : ClientState → Standing → ClientState
standing_as client standing = record client { held = record { cache = client.held.cache; standing = standing } }

-- all but what is cached is as it was
abbrev pub IsButCache : ClientState → ClientState → Type 0
IsButCache old new = (new ≡ record old { held = record { cache = new.held.cache; standing = old.held.standing } }) × (new.held.cache.capacity ≡ old.held.cache.capacity)

-- what is found at a front, where that is known
abbrev pub found_known : Held → ℕ → ℕ → Option (ℕ × List ℕ)
found_known held oid front = if nat_le front held.standing.known then found_at held.cache.entries oid front else None

-- each object has the entry that it had, but those that pass a test have none
pub record HoldsUnless (test : ℕ → Bool) (old new : Intervals) : Type 0 where
  pub each : (oid : ℕ) → interval_of new oid ≡ (if test oid then None else interval_of old oid)

-- the objects of some stores may be changed beside, or, where there was no memory to keep that, all
abbrev pub IsAskedBeside : List PendingStore → MayChange → MayChange → Type 0
IsAskedBeside stores old new = (new ≡ record old { oids = old.oids ++ map (λ p. p.oid) stores }) ⊎ (new.all ≡ true)
