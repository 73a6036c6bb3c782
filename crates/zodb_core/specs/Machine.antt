-- The plain database: a list of transactions, and the sessions that read it and add to it. Source: the storages of ZODB; sessions and news after ZEO.
use Rattle.std.specs.Prelude.{ℕ, ◌+◌, List, [], ◌∷◌, ◌++◌, Option, Some, None, Bool, true, false, not, ◌==◌, nat_lt, if◌then◌else◌, length, drop, filter, count_by, slice_get}
use Rattle.std.specs.List.{filter_map, list_any}
use Rattle.std.specs.Option.{option_map_or}
use Rattle.std.specs.Ordering.{nat_cmp}
use Rattle.std.specs.FinSet.{FinSet}
use Rattle.zb_model.specs.declared.data.Transaction.{Transaction}
use Rattle.zb_model.specs.declared.news.News.{News}
use Rattle.zb_model.specs.declared.news.NewsCommit.{NewsCommit}
use Rattle.zb_model.specs.Database.{newest_tid}
use Rattle.zb_model.specs.Queries.{greatest_oid}
use Rattle.zb_model.specs.Rules.{MergeRules}
use Rattle.zodb_core.specs.declared.journal.JournalEntry.{JournalEntry}
use Rattle.zodb_core.specs.declared.journal.JournalEntry.TheVariants.{Commit, Packed}

-- What a database is told of the bytes that it keeps: how changes are merged, and which objects a record names, or None where it can't be read.
pub record Rules : Type 0 where
  pub merging : MergeRules
  pub named : List ℕ → Option (List ℕ)

-- ---- the state

-- a session: whether its requests are served, and how many entries of the journal it was told, or had been made when it was opened
pub record MachineSession : Type 0 where
  pub is_open : Bool
  pub told : ℕ

-- the vote that is held: the session that holds it, and what its finish will append, if anything
pub record MachineVote : Type 0 where
  pub session : ℕ
  pub writes : Option Transaction

-- the copying of an open pack: the objects that are kept, how long the list was when it began, how many transactions of the packed list are
-- copied, and whether it was answered that all are
pub record PackCopying : Type 0 where
  pub kept : FinSet nat_cmp
  pub began : ℕ
  pub copied : ℕ
  pub is_whole : Bool

-- an open pack: its session, how far it goes, whether objects that nothing leads to go too, how many objects are marked, and its copying, once
-- that has begun
pub record OpenPack : Type 0 where
  pub session : ℕ
  pub tid : ℕ
  pub collects : Bool
  pub marked : ℕ
  pub copying : Option PackCopying

-- The list; what happened to it; the greatest number of an object that stood in it at any moment or was handed out; the sessions, by their
-- numbers; the vote; the open pack; and whether the store failed.
pub record Machine : Type 0 where
  pub list : List Transaction
  pub journal : List JournalEntry
  pub greatest : ℕ
  pub sessions : List MachineSession
  pub vote : Option MachineVote
  pub pack : Option OpenPack
  pub failed : Bool

-- a list without sessions
abbrev pub machine_over : List Transaction → Machine
machine_over list = record { list = list; journal = []; greatest = greatest_oid list; sessions = []; vote = None; pack = None; failed = false }

-- ---- sessions

-- how many sessions there can be
abbrev pub session_limit : ℕ
session_limit = 64

abbrev pub is_open_in : List MachineSession → ℕ → Bool
is_open_in sessions n = option_map_or (λ x. x.is_open) (slice_get sessions n) false

-- a session holds the vote
abbrev pub holds_vote : ℕ → Option MachineVote → Bool
holds_vote n vote = option_map_or (λ v. v.session == n) vote false

-- a session has the open pack
abbrev pub has_pack : ℕ → Option OpenPack → Bool
has_pack n pack = option_map_or (λ p. p.session == n) pack false

-- the next session: it was told nothing that happened before it, and it is closed from the start where the store failed
abbrev pub new_session : Machine → MachineSession
new_session m = record { is_open = not m.failed; told = length m.journal }

abbrev pub with_session : Machine → Machine
with_session m = record m { sessions = m.sessions ++ new_session m ∷ [] }

-- ---- fronts and news

-- the front of a view of the list as it stands
abbrev pub front_of : List Transaction → ℕ
front_of list = newest_tid list + 1

abbrev pub is_switch : JournalEntry → Bool
is_switch (Commit session tid oids) = false
is_switch (Packed tid) = true

-- how often the list was packed
abbrev pub switches_of : List JournalEntry → ℕ
switches_of journal = count_by is_switch journal

-- a session is to be told of each pack, and of each commit of another session
abbrev pub is_news_for : ℕ → JournalEntry → Bool
is_news_for n (Commit session tid oids) = not (session == n)
is_news_for n (Packed tid) = true

abbrev pub told_of : ℕ → List MachineSession → ℕ
told_of n sessions = option_map_or (λ x. x.told) (slice_get sessions n) 0

-- what a session wasn't told yet
abbrev pub untold : Machine → ℕ → List JournalEntry
untold m n = filter (is_news_for n) (drop (told_of n m.sessions) m.journal)

-- how much a session can be told at once
abbrev pub news_limit : ℕ
news_limit = 1000

abbrev pub commit_in : JournalEntry → Option NewsCommit
commit_in (Commit session tid oids) = Some (record { tid = tid; oids = oids })
commit_in (Packed tid) = None

-- the news of these: where they are too many, just that there were
abbrev pub news_of : List JournalEntry → News
news_of entries =
    let forget = nat_lt news_limit (length entries) in
    record { forget = forget; packed = list_any is_switch entries; commits = if forget then [] else filter_map commit_in entries }
