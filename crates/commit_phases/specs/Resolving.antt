-- What the code of a vote says of one store. Own.
use Rattle.std.specs.Prelude.{◌≡◌, ℕ, ◌≤◌, List, ◌++◌, length, Option, Some, None, Result, Ok, Err, IfErr, OnOk, ◌==◌, if◌then◌else◌}
use Rattle.zb_base.specs.Counts.{Rose}
use Rattle.zb_model.specs.declared.data.Change.{Change}
use Rattle.zb_model.specs.declared.data.Content.{Content}
use Rattle.zb_model.specs.declared.data.Content.TheVariants.{Held, Absent}
use Rattle.zb_model.specs.declared.data.Transaction.{Transaction}
use Rattle.zb_model.specs.declared.found.Found.{Found}
use Rattle.zb_model.specs.declared.found.Found.TheVariants as found
use Rattle.zb_model.specs.declared.new_transaction.NewContent.{NewContent}
use Rattle.zb_model.specs.declared.new_transaction.NewContent.TheVariants as new_content
use Rattle.zb_model.specs.declared.refusal.Refusal.{Refusal}
use Rattle.zb_model.specs.declared.refusal.Why.{Why}
use Rattle.zb_model.specs.declared.store_error.StoreError.{StoreError}
use Rattle.zb_model.specs.declared.store_error.StoreError.TheVariants as store_error
use Rattle.zb_model.specs.Database.{serial_of}
use Rattle.zb_model.specs.Stores.{StoreState, ReadKeepsRest}
use Rattle.commit_phases.specs.declared.errors.VoteRefusal.{VoteRefusal}
use Rattle.commit_phases.specs.declared.errors.VoteRefusal.TheVariants as vote_refusal
use Rattle.commit_phases.specs.declared.resolving.HeldRecord.{HeldRecord}
use Rattle.commit_phases.specs.declared.resolving.Unresolved.{Unresolved}
use Rattle.commit_phases.specs.declared.resolving.Unresolved.TheVariants as unresolved

-- the bytes that were found, with their serial
abbrev pub held_of : Found → Option HeldRecord
held_of (found.Held serial bytes end) = Some (record { serial = serial; bytes = bytes })
held_of (found.Absent serial) = None
held_of found.Nothing = None

abbrev pub bytes_alone : Option HeldRecord → Option (List ℕ)
bytes_alone None = None
bytes_alone (Some r) = Some r.bytes

-- the bytes, where they have this serial
abbrev pub bytes_with : ℕ → Option HeldRecord → Option (List ℕ)
bytes_with serial None = None
bytes_with serial (Some r) = if r.serial == serial then Some r.bytes else None

-- why a read wasn't answered
abbrev pub unread_as : StoreError → Unresolved
unread_as store_error.StoreFault = unresolved.ReadFault
unread_as store_error.ReadFault = unresolved.ReadFault
unread_as store_error.Memory = unresolved.Memory

-- the answer is this; a failed read and want of memory say nothing of it
abbrev pub IsResolved : {T : Type 0} → Result T Why → Result T Unresolved → Type 0
IsResolved is (Ok x) = is ≡ Ok x
IsResolved is (Err (unresolved.Refused why)) = is ≡ Err why
IsResolved is (Err unresolved.ReadFault) = Unit {0}
IsResolved is (Err unresolved.Memory) = Unit {0}

-- a read fault is answered only where the count of failed reads rose, and any other refusal only where it has not moved
abbrev pub HasCauseIn : ℕ → ℕ → Unresolved → Type 0
HasCauseIn before now (unresolved.Refused why) = now ≡ before
HasCauseIn before now unresolved.ReadFault = Rose before now
HasCauseIn before now unresolved.Memory = now ≡ before

-- a store was only read: all but the count of failed reads is as before, and that moves only where a read fault is answered
pub record ResolvingOnlyReads {T : Type 0} (old new : StoreState) (result : Result T Unresolved) : Type 0 where
  pub same : ReadKeepsRest old new
  pub counted : old.read_faults ≤ new.read_faults
  pub cause : IfErr result (HasCauseIn old.read_faults new.read_faults)
  pub answered : OnOk result (new.read_faults ≡ old.read_faults)

-- the refusal that an answer without bytes becomes, over a list
abbrev pub refusal_as : List Transaction → ℕ → ℕ → Unresolved → VoteRefusal
refusal_as list oid base (unresolved.Refused why) = vote_refusal.Conflict oid base (serial_of oid list) why
refusal_as list oid base unresolved.ReadFault = vote_refusal.ReadFault
refusal_as list oid base unresolved.Memory = vote_refusal.Memory

-- the refusal that a failed read becomes
abbrev pub unread_vote : StoreError → VoteRefusal
unread_vote store_error.StoreFault = vote_refusal.ReadFault
unread_vote store_error.ReadFault = vote_refusal.ReadFault
unread_vote store_error.Memory = vote_refusal.Memory

-- changes that are known already, ahead of those of the stores that are left
abbrev pub behind_changes : List Change → Result (List Change) Refusal → Result (List Change) Refusal
behind_changes done (Err r) = Err r
behind_changes done (Ok changes) = Ok (done ++ changes)

-- how many bytes a new content has by itself
abbrev pub length_of_new : NewContent → ℕ
length_of_new (new_content.Bytes bytes) = length bytes
length_of_new new_content.Absent = 0
length_of_new (new_content.AsOf serial) = 0

-- one for a record, and none where there is none
abbrev pub held_count : Content → ℕ
held_count (Held bytes) = 1
held_count Absent = 0

-- the same of a new content that has its own bytes
abbrev pub record_count : NewContent → ℕ
record_count (new_content.Bytes bytes) = 1
record_count new_content.Absent = 0
record_count (new_content.AsOf serial) = 0
