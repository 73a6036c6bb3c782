-- What the hub answers from what it reads. Own.
use Rattle.std.specs.Prelude.{ℕ}
use Rattle.zb_model.specs.declared.found.Found.{Found}
use Rattle.zb_model.specs.declared.found.Found.TheVariants as found
use Rattle.zb_model.specs.declared.refusal.Refusal.TheVariants as refusal
use Rattle.zb_model.specs.declared.store_error.StoreError.{StoreError}
use Rattle.zb_model.specs.declared.store_error.StoreError.TheVariants as store_error
use Rattle.commit_phases.specs.declared.errors.VoteRefusal.{VoteRefusal}
use Rattle.commit_phases.specs.declared.errors.VoteRefusal.TheVariants as vote_refusal
use Rattle.undo_records.specs.declared.refusal.UndoRefusal.{UndoRefusal}
use Rattle.undo_records.specs.declared.refusal.UndoRefusal.TheVariants as undo_refusal
use Rattle.pack_reach.specs.declared.refusal.PackRefusal.{PackRefusal}
use Rattle.pack_reach.specs.declared.refusal.PackRefusal.TheVariants as pack_refusal
use Rattle.zodb_core.specs.declared.reply.Reply.{Reply}
use Rattle.zodb_core.specs.declared.reply.Reply.TheVariants as reply

-- where the store answered an error
abbrev pub fault_reply : StoreError → Reply
fault_reply store_error.StoreFault = reply.Refused refusal.StoreFault
fault_reply store_error.ReadFault = reply.Refused refusal.ReadFault
fault_reply store_error.Memory = reply.Refused refusal.Memory

-- where the list was packed so often, and the front of a view is this
abbrev pub loaded_reply : ℕ → Found → ℕ → ℕ → Reply
loaded_reply oid (found.Held serial bytes end) upto switches = reply.Loaded serial bytes end upto
loaded_reply oid (found.Absent serial) upto switches = reply.Nothing oid switches
loaded_reply oid found.Nothing upto switches = reply.Nothing oid switches

-- where a vote is refused
abbrev pub vote_reply : VoteRefusal → Reply
vote_reply (vote_refusal.Conflict oid base current why) = reply.Refused (refusal.Conflict oid base current why)
vote_reply (vote_refusal.NothingToDelete oid current) = reply.Refused (refusal.NothingToDelete oid current)
vote_reply (vote_refusal.ReadConflict oid base current) = reply.Refused (refusal.ReadConflict oid base current)
vote_reply (vote_refusal.TooLong n) = reply.Refused (refusal.TooLong n)
vote_reply vote_refusal.ReadFault = reply.Refused refusal.ReadFault
vote_reply vote_refusal.Memory = reply.Refused refusal.Memory

-- where an undo is refused
abbrev pub undo_reply : UndoRefusal → Reply
undo_reply (undo_refusal.UndoUnknown tid) = reply.Refused (refusal.UndoUnknown tid)
undo_reply (undo_refusal.UndoPacked tid) = reply.Refused (refusal.UndoPacked tid)
undo_reply (undo_refusal.UndoConflict oid later) = reply.Refused (refusal.UndoConflict oid later)
undo_reply undo_refusal.ReadFault = reply.Refused refusal.ReadFault
undo_reply undo_refusal.Memory = reply.Refused refusal.Memory

-- where the marks of a pack are refused
abbrev pub pack_reply : PackRefusal → Reply
pack_reply (pack_refusal.Unreadable oid tid) = reply.Refused (refusal.Unreadable oid tid)
pack_reply pack_refusal.ReadFault = reply.Refused refusal.ReadFault
pack_reply pack_refusal.Memory = reply.Refused refusal.Memory
