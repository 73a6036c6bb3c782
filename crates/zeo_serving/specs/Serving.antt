-- A remote client and the machine that serves it: the one relation between them. Source: ZEO; MVCC of ZODB.
use Rattle.std.specs.Prelude.{◌≡◌, ℕ, ◌+◌, ◌<◌, ◌≤◌, ◌^◌, List, [], ◌∷◌, ◌++◌, Option, Some, None, Bool, true, false, ◌||◌, if◌then◌else◌, length}
use Rattle.std.specs.List.{AllByRecursion, list_any}
use Rattle.zb_model.specs.declared.data.Transaction.{Transaction}
use Rattle.zb_model.specs.declared.news.News.{News}
use Rattle.zb_model.specs.declared.news.NewsCommit.{NewsCommit}
use Rattle.zb_model.specs.Database.{newest_tid}
use Rattle.zb_model.specs.Queries.{oids_of}
use Rattle.connection_view.specs.Views.{Client, Later, Quiet, Server, View, current, is_one_of, read_below}
use Rattle.local_loads.specs.Local.{server_unless}
use Rattle.zodb_core.specs.declared.journal.JournalEntry.{JournalEntry}
use Rattle.zodb_core.specs.declared.journal.JournalEntry.TheVariants as journal
use Rattle.zodb_core.specs.Machine.{Machine, MachineVote, is_open_in, is_switch, switches_of, told_of, untold}
use Rattle.zodb_core.specs.Sound.{IsSoundMachine}
use Rattle.zeo_cache.specs.declared.interval.Interval.{Interval}
use Rattle.zeo_cache.specs.Intervals.{Intervals, closed_at, interval_of}
use Rattle.zeo_serving.specs.Entries.{CameBy, Changes, IsUpTo}
use Rattle.zeo_serving.specs.declared.standing.MayChange.{MayChange}
use Rattle.zeo_serving.specs.declared.standing.Standing.{Standing}

-- ---- the machine, as its clients see it

-- what stands in a machine; of one that failed nothing is known
abbrev pub server_at : Machine → Server
server_at m = server_unless m.failed m.list m.journal m.greatest

abbrev pub view_at : Machine → View
view_at m = record { front = newest_tid m.list + 1; list = m.list; switches = switches_of m.journal }

-- ---- entries

-- An entry holds in the client's view for each front above its serial and up to its end, or without an end up to the known front. Where its revision still stands in
-- the list, it holds so there; no end is past the list's front.
pub record Holds (known now : View) (oid : ℕ) (e : Interval) : Type 0 where
  pub in_view : (front : ℕ) → e.serial < front → IsUpTo front e.end → front ≤ known.front → read_below oid front known.list ≡ Some (e.serial, e.bytes)
  pub in_list : read_below oid (e.serial + 1) now.list ≡ Some (e.serial, e.bytes) → (front : ℕ) → e.serial < front → IsUpTo front e.end → (e.end ≡ None → front ≤ known.front)
      → read_below oid front now.list ≡ Some (e.serial, e.bytes)
  pub early : e.serial < known.front
  pub within : (end : ℕ) → e.end ≡ Some end → end ≤ now.front

abbrev pub EachHolds : View → View → Intervals → Type 0
EachHolds known now entries = (oid : ℕ) (e : Interval) → interval_of entries oid ≡ Some e → Holds known now oid e

-- ---- what a session wasn't told yet

-- none of these is a pack, and each commit of the object is at or behind a front
abbrev pub IsUntil : ℕ → ℕ → List JournalEntry → Type 0
IsUntil front oid [] = Unit {0}
IsUntil front oid (journal.Commit session tid oids ∷ rest) = (is_one_of oids oid ≡ true → front ≤ tid) × IsUntil front oid rest
IsUntil front oid (journal.Packed tid ∷ rest) = ⊥

-- commits rise, from a front on, and stay below another
abbrev pub AreBetween : ℕ → ℕ → List JournalEntry → Type 0
AreBetween front end [] = Unit {0}
AreBetween front end (journal.Commit session tid oids ∷ rest) = (front ≤ tid) × (tid < end) × AreBetween (tid + 1) end rest
AreBetween front end (journal.Packed tid ∷ rest) = AreBetween front end rest

-- ---- the relation

abbrev pub asks_for : MayChange → ℕ → Bool
asks_for asked oid = asked.all || is_one_of asked.oids oid

-- what the vote of a session will write is of these objects
abbrev pub VotesFor : Machine → ℕ → (ℕ → Bool) → Type 0
VotesFor m n objects = (v : MachineVote) (t : Transaction) → m.vote ≡ Some v → v.session ≡ n → v.writes ≡ Some t → (oid : ℕ) → is_one_of (oids_of t) oid ≡ true → objects oid ≡ true

-- A session of a machine, and the view that its client knows: the list came of that view; what the session wasn't told yet are commits from that front on; an object
-- that they don't name is in the list as in the view, and a commit that names it is at or behind each front up to which that holds.
pub record Knows (m : Machine) (n : ℕ) (own : ℕ → Bool) (known : View) : Type 0 where
  pub told : told_of n m.sessions ≤ length m.journal
  pub later : Later known (view_at m)
  pub between : AreBetween known.front (newest_tid m.list + 1) (untold m n)
  pub quiet : (oid front : ℕ) → own oid ≡ false → known.front ≤ front → IsUntil front oid (untold m n) → read_below oid front m.list ≡ current known oid
  pub packs : list_any is_switch (untold m n) ≡ false → known.switches ≡ switches_of m.journal

-- A remote client may be the one at a session.
pub record IsServed (m : Machine) (n : ℕ) (z : Standing) (entries : Intervals) (c : Client) : Type 0 where
  pub knows : Knows m n (λ oid. false) c.known
  pub front : z.known ≡ c.known.front
  pub switches : z.switches ≡ c.known.switches
  pub told : Later c.told c.known
  pub quiet : Quiet c.told c.known z.news c.own
  pub votes : VotesFor m n c.voted
  pub asked : (oid : ℕ) → asks_for z.asked oid ≡ false → c.voted oid ≡ false
  pub each : EachHolds c.known (view_at m) entries

-- And behind a commit of its own, before it takes a front: the view that it knows is that of before, and what it voted on may differ from that.
pub record IsServedBehind (m : Machine) (n : ℕ) (z : Standing) (entries : Intervals) (c : Client) : Type 0 where
  pub knows : Knows m n c.voted c.known
  pub told : Later c.told c.known
  pub quiet : Quiet c.told c.known z.news c.own
  pub free : (v : MachineVote) → m.vote ≡ Some v → v.session ≡ n → ⊥
  pub asked : (oid : ℕ) → asks_for z.asked oid ≡ false → c.voted oid ≡ false
  pub each : EachHolds c.known (view_at m) entries

-- And so at a machine that may have failed: then it was the one there just before, and the session isn't open any more.
pub record MayBeServed (m : Machine) (n : ℕ) (z : Standing) (entries : Intervals) (c : Client) : Type 0 where
  pub at : Machine
  pub sound : IsSoundMachine at
  pub served : IsServed at n z entries c
  pub whole : m.failed ≡ false → at ≡ m
  pub shut : m.failed ≡ true → is_open_in m.sessions n ≡ false
  pub front : c.known.front < 2 ^ 64
  pub switches : c.known.switches < 2 ^ 64

-- ---- news

-- the news closes an entry at each commit of its object, and a pack, or more than is told, empties the cache
abbrev pub closed_by : List NewsCommit → ℕ → Interval → Interval
closed_by [] oid e = e
closed_by (c ∷ commits) oid e = closed_by commits oid (if is_one_of c.oids oid then closed_at c.tid e else e)

abbrev pub IsDelivered : News → Intervals → Intervals → Type 0
IsDelivered news now before = (news.forget || news.packed ≡ false → Changes (closed_by news.commits) now before) × (news.forget || news.packed ≡ true → now ≡ [])

-- news behind news: once more happened than is told, just that is
abbrev pub news_behind : News → News → News
news_behind old news =
    let forget = old.forget || news.forget in
    record { forget = forget; packed = old.packed || news.packed; commits = if forget then [] else old.commits ++ news.commits }

-- just after a Front step: the client knows the list as it stood there
abbrev pub synced : View → Client → Client
synced v c = record c { known = v }

abbrev pub told_client : Standing → ℕ → ℕ → News → Standing
told_client z front switches news = record z { known = front; switches = switches; news = news_behind z.news news }
