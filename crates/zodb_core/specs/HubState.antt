-- What contracts see of a hub, and the machines that it stands for. Own.
use Rattle.std.specs.Prelude.{◌≡◌, ℕ, ◌<◌, ◌≤◌, ◌+◌, ◌-◌, ◌⊎◌, ◌==◌, List, [], ◌∷◌, ◌++◌, Option, Some, None, Bool, true, false, IfSome, length, map, is_some}
use Rattle.std.specs.List.{AllByRecursion}
use Rattle.std.specs.Option.{ForSome, option_map, option_map_or}
use Rattle.zb_ids.specs.declared.stamp.Stamp.{Stamp}
use Rattle.zb_ids.specs.Tids.{stamp_number}
use Rattle.zb_model.specs.declared.data.Transaction.{Transaction}
use Rattle.zb_model.specs.Queries.{oids_of}
use Rattle.zb_model.specs.Rules.{MergeRules}
use Rattle.zb_model.specs.Packs.{IsCopyOf, new_pack}
use Rattle.zb_model.specs.Stores.{BegunPack, StoreState}
use Rattle.zb_outside.specs.Stamps.{stamps_after}
use Rattle.zodb_core.specs.declared.errors.SessionRefusal.{SessionRefusal}
use Rattle.zodb_core.specs.declared.errors.SessionRefusal.TheVariants as session_refusal
use Rattle.zodb_core.specs.declared.journal.JournalEntry.{JournalEntry}
use Rattle.zodb_core.specs.declared.reply.Reply.{Reply}
use Rattle.zodb_core.specs.declared.reply.Reply.TheVariants as reply
use Rattle.zb_model.specs.declared.refusal.Refusal.TheVariants as refusal
use Rattle.pack_reach.specs.Marking.{IsMarkedWhole, MarkerState, MayMark}
use Rattle.pack_reach.specs.Packed.{kept}
use Rattle.zodb_core.specs.declared.open_pack.HubCopying.{HubCopying}
use Rattle.zodb_core.specs.declared.open_pack.HubPack.{HubPack}
use Rattle.zodb_core.specs.declared.request.Request.{Request}
use Rattle.zodb_core.specs.declared.request.Request.TheVariants as request
use Rattle.zodb_core.specs.declared.vote.HubVote.{HubVote}
use Rattle.zodb_core.specs.declared.vote.VotedEntry.{VotedEntry}
use Rattle.zodb_core.specs.Machine.{Machine, MachineSession, MachineVote, OpenPack, PackCopying, Rules, session_limit, switches_of}
use Rattle.zodb_core.specs.Outcomes.{AreLaterCounts, FaultCounts, IsStepMade, StepOutcome, Answered, ReadingFailed, NoMemory, StoreFailed, closed_session, outcome_of}
use Rattle.zodb_core.specs.Stamps.{IsStampNumber}
use Rattle.zb_base.specs.Counts.{Rose}
use Rattle.zodb_core.specs.Steps.{changes_in_journal, journal_limit, step_of}

-- what contracts see of a hub: its store, its rules and references, and what it keeps beside the store
pub record HubState (R F : Type 0) : Type 0 where
  pub store : StoreState
  pub resolver : R
  pub refs : F
  pub journal : List JournalEntry
  pub greatest : ℕ
  pub sessions : List MachineSession
  pub vote : Option HubVote
  pub pack : Option HubPack

-- how many commits there were since copying began: a pack is open, so the journal got no other entries
abbrev pub commits_since_marked : ℕ → HubCopying → ℕ
commits_since_marked entries k = entries - k.entries

-- the copying of the open pack, with what the store has copied
abbrev pub copying_of_hub : List Transaction → Option BegunPack → ℕ → MarkerState → HubCopying → PackCopying
copying_of_hub list begun entries marks k = record {
  kept = marks.set;
  began = length list - commits_since_marked entries k;
  copied = option_map_or (λ b. length b.copied) begun 0;
  is_whole = k.is_whole;
}

abbrev pub pack_of_hub : List Transaction → Option BegunPack → ℕ → HubPack → OpenPack
pack_of_hub list begun entries p = record {
  session = p.session;
  tid = p.tid;
  collects = p.collects;
  marked = p.marker.counted;
  copying = option_map (copying_of_hub list begun entries p.marker) p.copying;
}

-- no pack is open once the store has failed
abbrev pub unless_broken : Bool → Option OpenPack → Option OpenPack
unless_broken false pack = pack
unless_broken true pack = None

abbrev pub pack_with : StoreState → ℕ → Option HubPack → Option OpenPack
pack_with store entries pack = unless_broken store.broken (option_map (pack_of_hub store.list store.begun entries) pack)

-- the vote writes what the store has voted
abbrev pub vote_of_hub : Option Transaction → HubVote → MachineVote
vote_of_hub voted v = record { session = v.session; writes = voted }

-- no session is open once the store has failed
abbrev pub sessions_with : Bool → List MachineSession → List MachineSession
sessions_with false sessions = sessions
sessions_with true sessions = map closed_session sessions

-- The hub stands for a machine. Once its store has failed, nothing is known of the store's list.
pub record StandsForMachine {R F : Type 0} (hub : HubState R F) (m : Machine) : Type 0 where
  pub journal : m.journal ≡ hub.journal
  pub greatest : m.greatest ≡ hub.greatest
  pub sessions : m.sessions ≡ sessions_with hub.store.broken hub.sessions
  pub pack : m.pack ≡ pack_with hub.store (length hub.journal) hub.pack
  pub failed : m.failed ≡ hub.store.broken
  pub list : hub.store.broken ≡ false → m.list ≡ hub.store.list
  pub vote : hub.store.broken ≡ false → m.vote ≡ option_map (vote_of_hub hub.store.voted) hub.vote

-- the rules that a hub was given, as functions on bytes
abbrev pub rules_of : {R F : Type 0} → (R → MergeRules) → (F → List ℕ → Option (List ℕ)) → HubState R F → Rules
rules_of rules named hub = record { merging = rules hub.resolver; named = named hub.refs }

abbrev pub counts_of : StoreState → FaultCounts
counts_of s = record { reads = s.read_faults; others = s.faults }

-- a fault comes only where its count rose, and any other answer only where neither count has moved
abbrev pub IsCauseOf : FaultCounts → FaultCounts → StepOutcome → Type 0
IsCauseOf before now Answered = now ≡ before
IsCauseOf before now ReadingFailed = Rose before.reads now.reads
IsCauseOf before now NoMemory = now ≡ before
IsCauseOf before now StoreFailed = Rose before.others now.others

-- ---- what a request is to keep

-- texts have lengths of 16 bits, and numbers are asked for one to a hundred at once
abbrev pub IsFitting : Request → Type 0
IsFitting (request.NewOids count) = (0 < count) × (count ≤ 100)
IsFitting (request.Vote user description extension pending) = (length user ≤ 65535) × (length description ≤ 65535) × (length extension ≤ 65535)
IsFitting (request.Undo user description tids) = (length user ≤ 65535) × (length description ≤ 65535)
IsFitting _ = Unit {0}

-- ---- the opening of a session

-- no session is opened where there were 64; memory is free to run out
abbrev pub MayRefuseSession : ℕ → SessionRefusal → Type 0
MayRefuseSession count (session_refusal.TooManySessions n) = (n ≡ session_limit) × (count ≡ session_limit)
MayRefuseSession count session_refusal.StepsSpent = ⊥
MayRefuseSession count session_refusal.Memory = Unit {0}

-- ---- a step of a hub

-- a clock that was read gave its first stamp, or, where it doesn't tell, some stamp, whose number this is; one that wasn't is as it was
abbrev pub IsClockRead : ℕ → Option (List Stamp) → Option (List Stamp) → Type 0
IsClockRead stamp None after = IsStampNumber stamp × (after ≡ None)
IsClockRead stamp (Some []) after = ⊥
IsClockRead stamp (Some (s ∷ stamps)) after = (stamp ≡ stamp_number s) × (after ≡ Some (stamps_after (s ∷ stamps)))

abbrev pub HasTicked : Bool → ℕ → Option (List Stamp) → Option (List Stamp) → Type 0
HasTicked false stamp before after = after ≡ before
HasTicked true stamp before after = IsClockRead stamp before after

-- A hub made a step of this machine with this reply: the clock gave a stamp where it was read, and the hub then stands for the machine that is left.
pub record MakesStep {R F : Type 0} (rules : Rules) (m : Machine) (n : ℕ) (q : Request) (reply : Reply) (old new : HubState R F) (before after : Option (List Stamp)) : Type 0 where
  pub stamp : ℕ
  pub left : Machine
  pub ticks : Bool
  pub made : IsStepMade rules m n q stamp (record { reply = reply; machine = left; ticks = ticks }) (counts_of old.store) (counts_of new.store)
  pub clock : HasTicked ticks stamp before after
  pub stands : StandsForMachine new left

-- The same of a step of which it is known whether the clock was read (`ticks`), and which stamp it gave then.
pub record MakesStepAt {R F : Type 0} (stamp : ℕ) (ticks : Bool) (rules : Rules) (m : Machine) (n : ℕ) (q : Request) (reply : Reply) (old new : HubState R F) : Type 0 where
  pub left : Machine
  pub made : IsStepMade rules m n q stamp (record { reply = reply; machine = left; ticks = ticks }) (counts_of old.store) (counts_of new.store)
  pub stands : StandsForMachine new left

-- Whatever the store tells, the clock was read and gave a stamp, or wasn't; where the store tells, that stamp is the one by which each machine that the hub stands for makes the step.
pub record StepsByClock {R F : Type 0} (told : Type 0) (rules : Rules) (n : ℕ) (q : Request) (reply : Reply) (old new : HubState R F) (before after : Option (List Stamp)) : Type 0 where
  pub stamp : ℕ
  pub ticks : Bool
  pub clock : HasTicked ticks stamp before after
  pub step : told → (m : Machine) → StandsForMachine old m → MakesStepAt stamp ticks rules m n q reply old new

-- Replies of steps that may have changed the store's volume; any other reply, each refusal but a store fault among them, leaves it. But a pack that isn't made for a
-- failed read or for want of memory may have been copied in part.
abbrev pub may_write : Bool → Reply → Bool
may_write packs reply.Voted = true
may_write packs (reply.Committed tid) = true
may_write packs reply.Aborted = true
may_write packs (reply.Packed kept dropped) = true
may_write packs (reply.Packing tid) = packs
may_write packs (reply.Copying count) = packs
may_write packs (reply.Copied count) = packs
may_write packs reply.Closed = true
may_write packs (reply.Refused refusal.StoreFault) = true
may_write packs (reply.Refused refusal.ReadFault) = packs
may_write packs (reply.Refused refusal.Memory) = packs
may_write packs _ = false

-- the store failed
abbrev pub is_store_failed : StepOutcome → Bool
is_store_failed StoreFailed = true
is_store_failed _ = false

-- Whatever the store tells: neither count of faults has fallen, a fault is answered only where its count rose and anything else only where neither moved; the count
-- of other faults moves only where the store failed; the hub keeps its rules; its store is broken exactly where the reply says so; and a refusal, but for a store
-- fault, has changed no volume, unless it is one of a pack.
pub record StepsSafely {R F : Type 0} (packs : Bool) (reply : Reply) (old new : HubState R F) : Type 0 where
  pub resolver : new.resolver ≡ old.resolver
  pub refs : new.refs ≡ old.refs
  pub sessions : length new.sessions ≡ length old.sessions
  pub later : AreLaterCounts (counts_of old.store) (counts_of new.store)
  pub cause : IsCauseOf (counts_of old.store) (counts_of new.store) (outcome_of reply)
  pub others : is_store_failed (outcome_of reply) ≡ false → new.store.faults ≡ old.store.faults
  pub broken : old.store.broken ≡ false → new.store.broken ≡ is_store_failed (outcome_of reply)
  pub log : may_write packs reply ≡ false → new.store.log ≡ old.store.log

-- bytes stand for the list before a step, or for the one behind it
abbrev pub IsBeforeOrBehind : (List ℕ → List Transaction → Type 0) → Rules → Machine → ℕ → Request → List ℕ → Type 0
IsBeforeOrBehind stands rules m n q bytes = stands bytes m.list ⊎ ((stamp : ℕ) → stands bytes (step_of rules m n q stamp).machine.list)

-- ---- what holds of a hub between two calls

-- a session has the open pack
abbrev pub owns_pack : ℕ → Option HubPack → Bool
owns_pack n pack = option_map_or (λ p. p.session == n) pack false

-- a session holds the vote
abbrev pub has_vote : ℕ → Option HubVote → Bool
has_vote n vote = option_map_or (λ v. v.session == n) vote false

-- the store has voted what the vote is to write, and else nothing
abbrev pub HasVotedWrites : Option HubVote → Option Transaction → Type 0
HasVotedWrites None voted = voted ≡ None
HasVotedWrites (Some v) voted = is_some voted ≡ is_some v.writes

abbrev pub writes_of : Option HubVote → Option VotedEntry
writes_of None = None
writes_of (Some v) = v.writes

-- what is kept of the voted transaction is its number and its objects
abbrev pub IsEntryOf : Option VotedEntry → Option Transaction → Type 0
IsEntryOf (Some e) (Some t) = (e.tid ≡ t.tid) × (e.oids ≡ oids_of t)
IsEntryOf _ _ = Unit {0}

-- A pack that is copied: all was marked over a front of the list, behind which commits stand that the journal has too, and what the store has copied is of these marks.
pub record IsCopied (named : List ℕ → Option (List ℕ)) (list : List Transaction) (begun : Option BegunPack) (entries : ℕ) (p : HubPack) (k : HubCopying) : Type 0 where
  pub front : List Transaction
  pub commits : List Transaction
  pub split : list ≡ front ++ commits
  pub counted : length commits ≡ commits_since_marked entries k
  pub later : AllByRecursion (λ x. p.tid < x.tid) commits
  pub set : p.marker.set ≡ kept p.collects named p.tid front
  pub whole : p.collects ≡ true → IsMarkedWhole named front p.marker
  pub copied : ForSome begun (IsCopyOf p.marker.set list)

-- one whose objects are being marked
pub record IsBeingMarked (named : List ℕ → Option (List ℕ)) (list : List Transaction) (begun : Option BegunPack) (p : HubPack) : Type 0 where
  pub marks : MayMark named list p.marker
  pub fresh : begun ≡ Some (new_pack p.tid)

abbrev pub IsPackAt : (List ℕ → Option (List ℕ)) → List Transaction → Option BegunPack → ℕ → HubPack → Option HubCopying → Type 0
IsPackAt named list begun entries p None = IsBeingMarked named list begun p
IsPackAt named list begun entries p (Some k) = IsCopied named list begun entries p k

abbrev pub tid_begun : Option BegunPack → Option ℕ
tid_begun begun = option_map (λ (b : BegunPack). b.tid) begun

-- copying began within the journal
abbrev pub IsWithin : Option HubPack → ℕ → Type 0
IsWithin pack entries = IfSome pack (λ p. IfSome p.copying (λ k. k.entries ≤ entries))

-- What a hub keeps of the pack that is open: the store has begun it, and it goes less far than the newest transaction.
pub record KeepsPack (told : Type 0) (named : List ℕ → Option (List ℕ)) (list : List Transaction) (begun : Option BegunPack) (newest entries : ℕ) (p : HubPack) : Type 0 where
  pub tid : p.marker.tid ≡ p.tid
  pub started : tid_begun begun ≡ Some p.tid
  pub early : p.tid < newest
  pub at : told → IsPackAt named list begun entries p p.copying

-- What a hub keeps beside its store: sessions, the journal with the numbers of its changes and of its packs and with room for what is voted, and the vote. `told` says
-- whether the store tells its list.
pub record HubKeeps (told : Type 0) (store : StoreState) (journal : List JournalEntry) (capacity changes switches : ℕ) (sessions : List MachineSession) (vote : Option HubVote) (pack : Option HubPack) (has_failed : Bool) (named : List ℕ → Option (List ℕ)) : Type 0 where
  pub failed : has_failed ≡ store.broken
  pub few : length sessions ≤ session_limit
  pub counted : changes ≡ changes_in_journal journal
  pub bounded : changes ≤ journal_limit
  pub switched : switches ≡ switches_of journal
  pub room : IfSome (writes_of vote) (λ e. (length journal < capacity) × (changes + length e.oids ≤ journal_limit))
  pub voted : store.broken ≡ false → HasVotedWrites vote store.voted
  pub entry : told → store.broken ≡ false → IsEntryOf (writes_of vote) store.voted
  pub later : store.broken ≡ false → ForSome store.voted (λ t. store.newest < t.tid)
  pub within : IsWithin pack (length journal)
  pub open_pack : store.broken ≡ false → IfSome pack (KeepsPack told named store.list store.begun store.newest (length journal))
