-- What a client makes of a message. Source: the client of ZEO; what it knows of fronts is own.
use Rattle.std.specs.Prelude.{◌≡◌, ◌⊎◌, ℕ, ◌+◌, ◌-◌, ◌^◌, List, [], ◌∷◌, ◌++◌, Option, Some, None, Bool, true, false, max, nat_lt, nat_le, if◌then◌else◌}
use Rattle.std.specs.Option.{option_map}
use Rattle.zb_model.specs.declared.news.News.{News}
use Rattle.connection_view.specs.Views.{is_one_of}
use Rattle.zeo_messages.specs.declared.answer.Answer.{Answer}
use Rattle.zeo_messages.specs.declared.answer.Answer.TheVariants as answers
use Rattle.zeo_messages.specs.declared.call.Call.{Call}
use Rattle.zeo_messages.specs.declared.call.Call.TheVariants as calls
use Rattle.zeo_messages.specs.declared.message.Message.{Message}
use Rattle.zeo_messages.specs.declared.message.Message.TheVariants.{Asked, Answered, Told}
use Rattle.zeo_messages.specs.declared.message.Notice.{Notice}
use Rattle.zeo_messages.specs.declared.message.Notice.TheVariants.{Invalidate, Forget, Packed}
use Rattle.zeo_cache.specs.declared.interval.Interval.{Interval}
use Rattle.zeo_cache.specs.Intervals.{CachedIntervals, HoldsAlso, Intervals, closed_at, interval_of, kept_end}
use Rattle.zeo_serving.specs.declared.standing.Standing.{Standing}

-- what a client has cached, and what it was told
pub record Held : Type 0 where
  pub cache : CachedIntervals
  pub standing : Standing

-- ---- notices

-- each object's entry is what the one before became by a change
pub record ChangedBy (change : ℕ → Interval → Interval) (old new : Intervals) : Type 0 where
  pub each : (oid : ℕ) → interval_of new oid ≡ option_map (change oid) (interval_of old oid)

-- the entries of some objects are closed at a tid
abbrev pub closed_all : List ℕ → ℕ → ℕ → Interval → Interval
closed_all oids tid oid kept = if is_one_of oids oid then closed_at tid kept else kept

-- what is left of a cache
abbrev pub IsCacheTold : Notice → CachedIntervals → CachedIntervals → Type 0
IsCacheTold (Invalidate tid oids) old new = ChangedBy (closed_all oids tid) old.entries new.entries × (new.capacity ≡ old.capacity)
IsCacheTold (Forget front) old new = (new.entries ≡ []) × (new.capacity ≡ old.capacity)
IsCacheTold (Packed tid) old new = (new.entries ≡ []) × (new.capacity ≡ old.capacity)

-- the front behind a tid, where a number has one behind it
abbrev pub front_behind : ℕ → ℕ
front_behind tid = if nat_lt tid (2 ^ 64 - 1) then tid + 1 else tid

-- the greatest front that is known; a pack tells of none
abbrev pub known_told : Notice → ℕ → ℕ
known_told (Invalidate tid oids) known = max known (front_behind tid)
known_told (Forget front) known = max known front
known_told (Packed tid) known = known

-- the news since views were renewed last
abbrev pub news_told : Notice → News → News
news_told (Invalidate tid oids) news = if news.forget then news else record news { commits = news.commits ++ record { tid = tid; oids = oids } ∷ [] }
news_told (Forget front) news = record news { forget = true; commits = [] }
news_told (Packed tid) news = record news { packed = true }

-- or, where there was no memory to keep that, that more happened than is kept
abbrev pub IsNewsKept : News → News → Type 0
IsNewsKept told kept = (kept ≡ told) ⊎ (kept ≡ record told { forget = true; commits = [] })

pub record IsNoticed (notice : Notice) (old new : Held) : Type 0 where
  pub cache : IsCacheTold notice old.cache new.cache
  pub known : new.standing.known ≡ known_told notice old.standing.known
  pub news : IsNewsKept (news_told notice old.standing.news) new.standing.news
  pub switches : new.standing.switches ≡ old.standing.switches
  pub asked : new.standing.asked ≡ old.standing.asked

-- ---- answers

-- an answer is kept as an entry, or, where there was no memory, it isn't
abbrev pub IsEntryKept : ℕ → Interval → CachedIntervals → CachedIntervals → Type 0
IsEntryKept oid kept old new = (HoldsAlso old oid kept new × (new.capacity ≡ old.capacity)) ⊎ (new ≡ old)

-- where the front that was asked for is known
abbrev pub IsEntryKeptIf : Bool → ℕ → Interval → CachedIntervals → CachedIntervals → Type 0
IsEntryKeptIf true oid kept old new = IsEntryKept oid kept old new
IsEntryKeptIf false oid kept old new = new ≡ old

-- a revision is kept
abbrev pub IsRevisionHeard : ℕ → ℕ → ℕ → Answer → CachedIntervals → CachedIntervals → Type 0
IsRevisionHeard oid front known (answers.Loaded bytes serial end upto) old new =
    IsEntryKeptIf (nat_le front known) oid (record { serial = serial; bytes = bytes; end = kept_end end upto known }) old new
IsRevisionHeard oid front known answer old new = new ≡ old

-- the front and the number of packs are known
abbrev pub front_heard : Answer → Standing → Standing
front_heard (answers.TidAndCount front switches) standing = record standing { known = max standing.known front; switches = switches }
front_heard answer standing = standing

-- an answer to the last call: what was loaded is kept, and what a `sync` gives is known
abbrev pub IsAnswerHeard : Option Call → Answer → Held → Held → Type 0
IsAnswerHeard (Some (calls.LoadBefore oid front)) answer old new = IsRevisionHeard oid front old.standing.known answer old.cache new.cache × (new.standing ≡ old.standing)
IsAnswerHeard (Some calls.Sync) answer old new = (new.cache ≡ old.cache) × (new.standing ≡ front_heard answer old.standing)
IsAnswerHeard last answer old new = new ≡ old

-- ---- messages

abbrev pub IsHeard : Option Call → Message → Held → Held → Type 0
IsHeard last (Told notice) old new = IsNoticed notice old new
IsHeard last (Answered number answer) old new = IsAnswerHeard last answer old new
IsHeard last (Asked number call) old new = new ≡ old
