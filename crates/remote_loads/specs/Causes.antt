-- Why a remote client is refused. From: ZEO; which refusals a server never answers is own.
use Rattle.std.specs.Prelude.{◌≡◌, ℕ, Bool, true, false, Option, Some, Result, Ok, Err}
use Rattle.zb_base.specs.Counts.{Rose}
use Rattle.zb_model.specs.declared.refusal.Refusal.{Refusal}
use Rattle.zb_model.specs.declared.refusal.Refusal.TheVariants as refusal
use Rattle.connection_view.specs.Loading.{Abort, Finish, Front, IsServerRefusal, Load, LoadsCall, NewOid, Undo, Vote}
use Rattle.zeo_client.specs.declared.asking.AskError.{AskError}
use Rattle.zeo_client.specs.declared.asking.AskError.TheVariants as asking
use Rattle.zeo_client.specs.declared.error.ClientError.{ClientError}
use Rattle.zeo_client.specs.declared.error.ClientError.TheVariants as client
use Rattle.zeo_client.specs.Asking.{IsTooLong}
use Rattle.zeo_messages.specs.declared.call.Call.{Call}

-- ---- carriers

-- why nothing was carried: the link failed in this call, or its stream has ended, or there was no memory
abbrev pub IsCarryCause : ℕ → ℕ → Bool → ClientError → Type 0
IsCarryCause before now closed client.LinkFault = Rose before now
IsCarryCause before now closed client.Closed = closed ≡ true
IsCarryCause before now closed client.Memory = Unit {0}
IsCarryCause before now closed _ = ⊥

-- ---- refusals

abbrev pub refusal_of : ClientError → Refusal
refusal_of (client.FrameTooLong length) = refusal.FrameTooLong length
refusal_of client.BadMessage = refusal.BadMessage
refusal_of client.LinkFault = refusal.LinkFault
refusal_of client.Closed = refusal.Closed
refusal_of client.Memory = refusal.Memory

abbrev pub unasked : AskError → Refusal
unasked (asking.TooLong length) = refusal.TooLong length
unasked asking.Memory = refusal.Memory

-- a server's refusal: one that a connection or a link has of its own no server answers
abbrev pub far_refusal : Refusal → Refusal
far_refusal (refusal.Missing oid packed) = refusal.BadMessage
far_refusal refusal.NoTransaction = refusal.BadMessage
far_refusal refusal.InTransaction = refusal.BadMessage
far_refusal (refusal.NoSavepoint number) = refusal.BadMessage
far_refusal (refusal.Mixed stores) = refusal.BadMessage
far_refusal (refusal.NotATree oid) = refusal.BadMessage
far_refusal (refusal.NodeMissing oid) = refusal.BadMessage
far_refusal refusal.BadKey = refusal.BadMessage
far_refusal refusal.LinkFault = refusal.BadMessage
far_refusal refusal.Closed = refusal.BadMessage
far_refusal (refusal.FrameTooLong length) = refusal.BadMessage
far_refusal (refusal.Connected session) = refusal.BadMessage
far_refusal r = r

-- what is refused behind a commit leaves it open what the client knows
abbrev pub behind_commit : Refusal → Refusal
behind_commit refusal.StoreFault = refusal.StoreFault
behind_commit refusal.Memory = refusal.Memory
behind_commit refusal.LinkFault = refusal.LinkFault
behind_commit refusal.Closed = refusal.Closed
behind_commit (refusal.FrameTooLong length) = refusal.FrameTooLong length
behind_commit _ = refusal.BadMessage

-- a refusal's cause, where it is one of a link: the link failed since, or its stream has ended, or that length was met
abbrev pub HasLinkCause : ℕ → ℕ → Bool → Option ClientError → Refusal → Type 0
HasLinkCause before now closed ended refusal.LinkFault = Rose before now
HasLinkCause before now closed ended refusal.Closed = closed ≡ true
HasLinkCause before now closed ended (refusal.FrameTooLong length) = ended ≡ Some (client.FrameTooLong length)
HasLinkCause before now closed ended _ = Unit {0}

-- why a call of a remote client is refused: as a server may, or a link, and then with its cause
abbrev pub IsRemoteRefusal : ℕ → ℕ → Bool → Option ClientError → Refusal → Type 0
IsRemoteRefusal before now closed ended r = IsServerRefusal r × HasLinkCause before now closed ended r

-- and so of each call that is refused
abbrev pub HasCauseIfErr : {T : Type 0} → (Refusal → Type 0) → Result T Refusal → Type 0
HasCauseIfErr cause (Ok x) = Unit {0}
HasCauseIfErr cause (Err r) = cause r

abbrev pub IsCallCaused : (Refusal → Type 0) → LoadsCall → Type 0
IsCallCaused cause (Front result) = HasCauseIfErr cause result
IsCallCaused cause (Load oid front result) = HasCauseIfErr cause result
IsCallCaused cause (NewOid result) = HasCauseIfErr cause result
IsCallCaused cause (Vote user description stores checks result) = HasCauseIfErr cause result
IsCallCaused cause (Undo user description tids result) = HasCauseIfErr cause result
IsCallCaused cause (Finish result) = HasCauseIfErr cause result
IsCallCaused cause (Abort result) = HasCauseIfErr cause result

-- an undo isn't asked for: its tids don't fall, or there is none; or there was no memory
abbrev pub IsUndoRefused : Call → Bool → Refusal → Type 0
IsUndoRefused call falling refusal.BadMessage = falling ≡ false
IsUndoRefused call falling (refusal.TooLong n) = IsTooLong call n
IsUndoRefused call falling refusal.Memory = Unit {0}
IsUndoRefused call falling _ = ⊥
