-- What the contract of a vote says of its answer. Own.
use Rattle.std.specs.Prelude.{◌≡◌, ℕ, ◌<◌, ◌≤◌, List, Option, Some, None, Result, Ok, Err, IfErr, OnOk, length, map, nat_eq, All}
use Rattle.std.specs.List.{IsDistinct}
use Rattle.zb_base.specs.Counts.{Rose}
use Rattle.zb_model.specs.declared.data.Change.{Change}
use Rattle.zb_model.specs.declared.data.Content.{Content}
use Rattle.zb_model.specs.declared.data.Content.TheVariants.{Held, Absent}
use Rattle.zb_model.specs.declared.data.Transaction.{Transaction}
use Rattle.zb_model.specs.declared.new_transaction.NewChange.{NewChange}
use Rattle.zb_model.specs.declared.new_transaction.NewContent.{NewContent}
use Rattle.zb_model.specs.declared.new_transaction.NewContent.TheVariants as new_content
use Rattle.zb_model.specs.declared.pending.PendingStore.{PendingStore}
use Rattle.zb_model.specs.declared.refusal.Refusal.{Refusal}
use Rattle.zb_model.specs.declared.refusal.Refusal.TheVariants as refusal
use Rattle.zb_model.specs.Database.{serial_of}
use Rattle.zb_model.specs.Stores.{StoreState, ReadKeepsRest}
use Rattle.zb_model.specs.Voting.{IsFilled, IsHeld, NamesRevision, voted_change}
use Rattle.commit_phases.specs.declared.errors.VoteRefusal.{VoteRefusal}
use Rattle.commit_phases.specs.declared.errors.VoteRefusal.TheVariants as vote_refusal
use Rattle.commit_phases.specs.Decision.{current_record}
use Rattle.commit_phases.specs.Pending.{PendingChanges}

-- the refusal is the one that was decided; a failed read and want of memory say nothing of it
abbrev pub IsVoteRefusal : {T : Type 0} → Result T Refusal → VoteRefusal → Type 0
IsVoteRefusal decided (vote_refusal.Conflict oid base current why) = decided ≡ Err (refusal.Conflict oid base current why)
IsVoteRefusal decided (vote_refusal.NothingToDelete oid current) = decided ≡ Err (refusal.NothingToDelete oid current)
IsVoteRefusal decided (vote_refusal.ReadConflict oid base current) = decided ≡ Err (refusal.ReadConflict oid base current)
IsVoteRefusal decided (vote_refusal.TooLong n) = decided ≡ Err (refusal.TooLong n)
IsVoteRefusal decided vote_refusal.ReadFault = Unit {0}
IsVoteRefusal decided vote_refusal.Memory = Unit {0}

-- the answer is what was decided, each new change seen over the list
abbrev pub IsDecision : List Transaction → Result (List Change) Refusal → Result (List NewChange) VoteRefusal → Type 0
IsDecision list decided (Ok changes) = decided ≡ Ok (map (voted_change list) changes)
IsDecision list decided (Err why) = IsVoteRefusal decided why

-- the same of one change
abbrev pub IsOneDecision : List Transaction → Result Change Refusal → Result NewChange VoteRefusal → Type 0
IsOneDecision list decided (Ok change) = decided ≡ Ok (voted_change list change)
IsOneDecision list decided (Err why) = IsVoteRefusal decided why

-- a read fault is answered only where the count of failed reads rose, and any other refusal only where it has not moved
abbrev pub HasVoteCause : ℕ → ℕ → VoteRefusal → Type 0
HasVoteCause before now (vote_refusal.Conflict oid base current why) = now ≡ before
HasVoteCause before now (vote_refusal.NothingToDelete oid current) = now ≡ before
HasVoteCause before now (vote_refusal.ReadConflict oid base current) = now ≡ before
HasVoteCause before now (vote_refusal.TooLong n) = now ≡ before
HasVoteCause before now vote_refusal.ReadFault = Rose before now
HasVoteCause before now vote_refusal.Memory = now ≡ before

-- a vote only reads: all of the store but its count of failed reads is as before, and that moves only where a read fault is answered
pub record VoteOnlyReads {T : Type 0} (old new : StoreState) (result : Result T VoteRefusal) : Type 0 where
  pub same : ReadKeepsRest old new
  pub counted : old.read_faults ≤ new.read_faults
  pub cause : IfErr result (HasVoteCause old.read_faults new.read_faults)
  pub answered : OnOk result (new.read_faults ≡ old.read_faults)

-- each is a store that was made from its object's last revision, and none is a delete
abbrev pub AreCurrentRecords : List Transaction → List PendingStore → Type 0
AreCurrentRecords list stores = All (λ p. IsHeld p.content × (p.base ≡ serial_of p.oid list)) stores

-- a record that isn't empty, or none
abbrev pub IsNewRecord : NewContent → Type 0
IsNewRecord (new_content.Bytes bytes) = 0 < length bytes
IsNewRecord new_content.Absent = Unit {0}
IsNewRecord (new_content.AsOf serial) = ⊥

-- changes that a store may vote over a list: each names its object once, none has empty bytes, and what they take over was there
pub record MayBeVoted (list : List Transaction) (changes : List NewChange) : Type 0 where
  pub distinct : IsDistinct nat_eq (map (λ c. c.oid) changes)
  pub filled : All (λ c. IsFilled c.content) changes
  pub sound : All (λ c. NamesRevision list c.oid c.content) changes

-- the refusal is that of the first check that fails
abbrev pub IsFailedCheck : Option Refusal → VoteRefusal → Type 0
IsFailedCheck failed (vote_refusal.ReadConflict oid base current) = failed ≡ Some (refusal.ReadConflict oid base current)
IsFailedCheck failed (vote_refusal.Conflict oid base current why) = ⊥
IsFailedCheck failed (vote_refusal.NothingToDelete oid current) = ⊥
IsFailedCheck failed (vote_refusal.TooLong n) = ⊥
IsFailedCheck failed vote_refusal.ReadFault = ⊥
IsFailedCheck failed vote_refusal.Memory = ⊥

-- what is to be deleted is there
abbrev pub MayBeDeleted : Content → Option (List ℕ) → Type 0
MayBeDeleted (Held bytes) now = Unit {0}
MayBeDeleted Absent None = ⊥
MayBeDeleted Absent (Some held) = Unit {0}

-- all of it may go in: stores and deletes were made from their objects' last revisions, objects that are deleted are there, and the checks hold
pub record MayGoIn (list : List Transaction) (pending : PendingChanges) : Type 0 where
  pub current : All (λ p. p.base ≡ serial_of p.oid list) pending.stores
  pub there : All (λ p. MayBeDeleted p.content (current_record p.oid list)) pending.stores
  pub checked : All (λ c. c.serial ≡ serial_of c.oid list) pending.checks

-- a vote failed: a read did, or there was no memory
abbrev pub IsFailure : VoteRefusal → Type 0
IsFailure (vote_refusal.Conflict oid base current why) = ⊥
IsFailure (vote_refusal.NothingToDelete oid current) = ⊥
IsFailure (vote_refusal.ReadConflict oid base current) = ⊥
IsFailure (vote_refusal.TooLong n) = ⊥
IsFailure vote_refusal.ReadFault = Unit {0}
IsFailure vote_refusal.Memory = Unit {0}
