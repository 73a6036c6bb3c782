-- What sessions are still to be told of the journal, as the hub keeps it. Source: the invalidation queue of a ZEO server; its bound is own.
use Rattle.std.specs.Prelude.{◌≡◌, ℕ, suc, ◌+◌, ◌≤◌, List, [], ◌∷◌, Option, Some, None, Bool, true, false, if◌then◌else◌, drop, length, slice_get, ◌&&◌}
use Rattle.std.specs.List.{list_any}
use Rattle.invalidation_queue.specs.Queued.{Queued, pushed, queued}
use Rattle.zb_model.specs.declared.news.NewsCommit.{NewsCommit}
use Rattle.zodb_core.specs.declared.journal.JournalEntry.{JournalEntry}
use Rattle.zodb_core.specs.declared.session.HubSession.{HubSession}
use Rattle.zodb_core.specs.Machine.{MachineSession, commit_in, is_news_for, is_switch, news_limit, session_limit}

-- what contracts see of the journal with its sessions: its entries, for how many it has room, and the sessions of the machine
pub record JournalState : Type 0 where
  pub entries : List JournalEntry
  pub capacity : ℕ
  pub sessions : List MachineSession

-- the session of the machine that one is which is kept
abbrev pub session_seen : HubSession → MachineSession
session_seen s = record { is_open = s.is_open; told = s.told }

-- the places of the entries that are news for a session, where the first one has this place
abbrev pub places_from : ℕ → ℕ → List JournalEntry → List ℕ
places_from n place [] = []
places_from n place (e ∷ entries) = if is_news_for n e then place ∷ places_from n (suc place) entries else places_from n (suc place) entries

-- the places of the entries behind the first ones that are news for a session
abbrev pub untold_places : ℕ → ℕ → List JournalEntry → List ℕ
untold_places n told entries = places_from n told (drop told entries)

-- What is kept of an open session: its queue has the places of all entries of which it is to be told, or, where they are more than 1,000, just that; and
-- from how many entries on there is none of which it is to be told.
pub record KeepsUntold (n : ℕ) (entries : List JournalEntry) (s : HubSession) : Type 0 where
  pub within : s.told ≤ length entries
  pub queue : s.untold ≡ queued news_limit (untold_places n s.told entries)
  pub newest : s.newest ≤ length entries
  pub quiet : list_any (is_news_for n) (drop s.newest entries) ≡ false

-- and so of all sessions; one that is closed is told nothing
abbrev pub EachKeepsUntold : List JournalEntry → List HubSession → Type 0
EachKeepsUntold entries sessions = (n : ℕ) (s : HubSession) → slice_get sessions n ≡ Some s → s.is_open ≡ true → KeepsUntold n entries s

-- how many entries there are up to the last pack
abbrev pub switched_up_to : List JournalEntry → ℕ
switched_up_to [] = 0
switched_up_to (e ∷ entries) = if list_any is_switch (e ∷ entries) then suc (switched_up_to entries) else 0

-- what the hub keeps of its journal and its sessions
pub record JournalKeeps (entries : List JournalEntry) (switched : ℕ) (sessions : List HubSession) : Type 0 where
  pub few : length sessions ≤ session_limit
  pub each : EachKeepsUntold entries sessions
  pub last : switched ≡ switched_up_to entries

-- a session that is kept, once an entry was made at a place: where it is open and the entry is news for it, its queue has the place, too, and its last news is there
abbrev pub noted : ℕ → ℕ → JournalEntry → HubSession → HubSession
noted n place e s = if s.is_open && is_news_for n e then record s { untold = pushed s.untold place; newest = place + 1 } else s

-- what a session is told of the entry at a place
abbrev pub commit_of_entry : Option JournalEntry → Option NewsCommit
commit_of_entry None = None
commit_of_entry (Some e) = commit_in e

abbrev pub commit_at : List JournalEntry → ℕ → Option NewsCommit
commit_at entries place = commit_of_entry (slice_get entries place)
