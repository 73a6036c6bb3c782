-- How savepoints are kept: marks in a log of what changes replaced. Own.
use Rattle.std.specs.Prelude.{◌≡◌, ℕ, ◌+◌, ◌≤◌, List, [], ◌∷◌, ◌++◌, Option, Some, None, Bool, true, false, ◌==◌, if◌then◌else◌, length, map, nat_eq, take, drop}
use Rattle.std.specs.Map.{lookup}
use Rattle.std.specs.Option.{option_map}
use Rattle.zb_model.specs.declared.data.Content.{Content}
use Rattle.zb_model.specs.declared.data.Content.TheVariants.{Held, Absent}
use Rattle.zb_model.specs.declared.pending.PendingStore.{PendingStore}
use Rattle.commit_phases.specs.Pending.{PendingChanges, AreStores, pending_of, size_of_stores}
use Rattle.savepoints.specs.declared.replaced.Earlier.{Earlier}
use Rattle.savepoints.specs.declared.replaced.Earlier.TheVariants.{Whole, Cut}
use Rattle.savepoints.specs.declared.replaced.Replaced.{Replaced}
use Rattle.savepoints.specs.declared.replaced.Mark.{Mark}
use Rattle.savepoints.specs.declared.noting.Noted.{Noted}

-- the content before this one
abbrev pub undone : Earlier → Content → Content
undone (Whole content) now = content
undone (Cut at length gone) (Held bytes) = Held (take at bytes ++ (gone ++ drop (at + length) bytes))
undone (Cut at length gone) Absent = Absent

-- the stores with the earlier content of an object's store, if it has one
abbrev pub taken_back : List PendingStore → Replaced → List PendingStore
taken_back [] r = []
taken_back (p ∷ stores) r =
    if r.oid == p.oid then (record { oid = p.oid; base = p.base; content = undone r.earlier p.content }) ∷ stores else p ∷ taken_back stores r

-- the stores with all these earlier contents, of which the last one is taken back first
abbrev pub all_taken_back : List PendingStore → List Replaced → List PendingStore
all_taken_back stores [] = stores
all_taken_back stores (r ∷ log) = taken_back (all_taken_back stores log) r

-- what was pending at a mark: of what is pending the front that stood then, with what the log has behind the mark taken back
abbrev pub saved_at : PendingChanges → List Replaced → Mark → PendingChanges
saved_at pending log mark = record {
  stores = all_taken_back (take mark.extent.stores pending.stores) (drop mark.log log);
  checks = take mark.extent.checks pending.checks;
}

abbrev pub saved_all : PendingChanges → List Replaced → List Mark → List PendingChanges
saved_all pending log marks = map (saved_at pending log) marks

-- ---- marks

-- what a mark counts is no more than what the other one does
pub record IsBefore (a b : Mark) : Type 0 where
  pub log : a.log ≤ b.log
  pub stores : a.extent.stores ≤ b.extent.stores
  pub checks : a.extent.checks ≤ b.extent.checks

-- marks one after another, from the one up to the other
abbrev pub AreRising : Mark → List Mark → Mark → Type 0
AreRising low [] top = IsBefore low top
AreRising low (mark ∷ marks) top = IsBefore low mark × AreRising mark marks top

abbrev pub first_mark : Mark
first_mark = record { log = 0; extent = record { stores = 0; checks = 0; size = 0 } }

abbrev pub end_mark : PendingChanges → List Replaced → Mark
end_mark pending log = record { log = length log; extent = record { stores = length pending.stores; checks = length pending.checks; size = 0 } }

-- what was pending at a mark may be pending, and the mark has its size
pub record IsMarked (mark : Mark) (saved : PendingChanges) : Type 0 where
  pub are : AreStores saved.stores
  pub size : mark.extent.size ≡ size_of_stores saved.stores

abbrev pub AreMarked : List Mark → List PendingChanges → Type 0
AreMarked [] saved = Unit {0}
AreMarked (mark ∷ marks) [] = ⊥
AreMarked (mark ∷ marks) (saved ∷ more) = IsMarked mark saved × AreMarked marks more

-- marks in what is pending and in a log
pub record AreMarks (pending : PendingChanges) (log : List Replaced) (marks : List Mark) : Type 0 where
  pub rising : AreRising first_mark marks (end_mark pending log)
  pub marked : AreMarked marks (saved_all pending log marks)

-- ---- what is noted

-- what a store or delete is going to replace: nothing where its object has none, else the content of that one and what leads back to it
abbrev pub IsNoted : List PendingStore → PendingStore → Option Noted → Type 0
IsNoted stores store None = pending_of stores store.oid ≡ None
IsNoted stores store (Some n) = (p : PendingStore) × (pending_of stores store.oid ≡ Some p) × (n.content ≡ p.content) × (n.replaced.oid ≡ store.oid) × (undone n.replaced.earlier store.content ≡ p.content)

abbrev pub notes_of : Option Noted → List Replaced
notes_of None = []
notes_of (Some n) = n.replaced ∷ []

abbrev pub contents_of : Option Noted → List (ℕ × Content)
contents_of None = []
contents_of (Some n) = (n.replaced.oid, n.content) ∷ []

-- the log goes on, and with what it has more each front of the stores is as it was
pub record Notes (old new : List PendingStore) (before after : List Replaced) : Type 0 where
  pub more : List Replaced
  pub is : after ≡ before ++ more
  pub longer : length old ≤ length new
  pub back : (count : ℕ) → count ≤ length old → all_taken_back (take count new) more ≡ take count old

-- where something is saved
abbrev pub NotesIf : Bool → List PendingStore → List PendingStore → List Replaced → List Replaced → Type 0
NotesIf true old new before after = Notes old new before after
NotesIf false old new before after = Unit {0}

-- ---- whole contents

abbrev pub whole : ℕ × Content → Replaced
whole e = record { oid = e.0; earlier = Whole e.1 }

abbrev pub all_whole : List (ℕ × Content) → List Replaced
all_whole contents = map whole contents

-- the content that is pending for an object, if one is
abbrev pub pending_content : List PendingStore → ℕ → Option Content
pending_content stores oid = option_map (λ p. p.content) (pending_of stores oid)

abbrev pub content_or : Option Content → Option Content → Option Content
content_or (Some content) other = Some content
content_or None other = other

-- the content that these contents give an object, or else the one that is pending
abbrev pub content_in : List PendingStore → List (ℕ × Content) → ℕ → Option Content
content_in stores contents oid = content_or (lookup (nat_eq oid) contents) (pending_content stores oid)
