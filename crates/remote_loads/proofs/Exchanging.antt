-- What is exchanged, of what is carried and taken.
use Rattle.std.proofs.Common.{◌≡◌, ℕ, List, [], ◌∷◌, Bool, Some, None, Result, Ok, Err, refl, sym, subst, ◌∙◌}
use Rattle.std.proofs.lemmas.List.{append-nil}
use Rattle.zb_model.specs.declared.refusal.Refusal.{Refusal}
use Rattle.zodb_core.specs.declared.reply.Reply.{Reply}
use Rattle.zodb_core.specs.declared.request.Request.{Request}
use Rattle.zeo_frames.specs.Frames.{frame, frames}
use Rattle.zeo_messages.specs.declared.answer.Answer.{Answer}
use Rattle.zeo_messages.specs.declared.call.Call.{Call}
use Rattle.zeo_messages.specs.declared.message.Message.{Message}
use Rattle.zeo_messages.specs.declared.message.Message.TheVariants.{Asked}
use Rattle.zeo_messages.specs.Messages.{payload_of}
use Rattle.zeo_desk.specs.Desks.{DeskState}
use Rattle.zeo_client.specs.declared.asking.AskError.{AskError}
use Rattle.zeo_client.specs.declared.asking.AskError.TheVariants as ask_error
use Rattle.zeo_client.specs.declared.error.ClientError.{ClientError}
use Rattle.zeo_client.specs.declared.error.ClientError.TheVariants as error
use Rattle.zeo_client.specs.Asking.{IsTooLong, call_frame, next_number}
use Rattle.zeo_client.specs.Taking.{ClientState, IsFed}
use Rattle.remote_loads.specs.Carrying.{BreaksOff, Carries}
use Rattle.remote_loads.specs.Causes.{IsCarryCause, refusal_of, unasked}
use Rattle.remote_loads.specs.Talking.{Exchanges, IsAsked, IsUnsent, IsWayLost, Talks, answer_in, broke_off, came, not_sent, refused_so, talk_answered, talk_failed, talk_waited, waiting_for, was_sent}

carry_way : (before after : ℕ) (closed : Bool) (e : ClientError) → IsCarryCause before after closed e → IsWayLost (refusal_of e)
carry_way before after closed error.LinkFault cause = tt
carry_way before after closed error.Closed cause = tt
carry_way before after closed error.Memory cause = tt
carry_way before after closed error.BadMessage cause = absurd cause
carry_way before after closed (error.FrameTooLong n) cause = absurd cause

module _ {S : Type 0} (steps : Request → Reply → S → S → Type 0) (before : S) (d : DeskState) (old : ClientState) where
  -- nothing was carried
  pub breaks : (bytes : List ℕ) (faults more : ℕ) (closed : Bool) (e : ClientError) (now : S) (left : DeskState) → BreaksOff steps before d bytes now left → IsCarryCause faults more closed e
      → Exchanges steps before d old bytes (Err (refusal_of e)) old now left
  breaks bytes faults more closed e now left off cause first rest is = broke_off (refusal_of e) now left (carry_way faults more closed e cause) (off first rest is)

  -- what was carried is taken
  pub takes : (bytes given : List ℕ) (result : Result (List Message) ClientError) (new : ClientState) (now : S) (left : DeskState) → Carries steps before d bytes given now left → IsFed old given result new
      → Exchanges steps before d old bytes (refused_so result) new now left
  takes bytes given result new now left carries fed first rest is =
      let got = carries first rest is in
      came got.0 result new now left got.2 (subst (λ (x : List ℕ). IsFed old x result new) got.1 fed)

  -- what was carried is refused
  pub refuses : (bytes given : List ℕ) (e : ClientError) (r : Refusal) (new : ClientState) (now : S) (left : DeskState) → Carries steps before d bytes given now left → IsFed old given (Err e) new → r ≡ refusal_of e
      → Exchanges steps before d old bytes (Err r) new now left
  refuses bytes given e r new now left carries fed is = subst (λ (k : Refusal). Exchanges steps before d old bytes (Err k) new now left) (sym is) (takes bytes given (Err e) new now left carries fed)

  -- an answer that is waited for
  pub fails : (bytes : List ℕ) (r : Refusal) (new : ClientState) (now : S) (left : DeskState) → Exchanges steps before d old bytes (Err r) new now left → Talks steps before d old bytes (Err r) new now left
  fails bytes r new now left ex first rest is = talk_failed r new now left (ex first rest is)

  pub answers : (bytes : List ℕ) (messages : List Message) (answer : Answer) (new : ClientState) (now : S) (left : DeskState) → Exchanges steps before d old bytes (Ok messages) new now left
      → answer_in messages ≡ Some answer → Talks steps before d old bytes (Ok answer) new now left
  answers bytes messages answer new now left ex there first rest is = talk_answered messages answer new now left (ex first rest is) there

  waits : (bytes : List ℕ) (messages : List Message) (result : Result Answer Refusal) (mid new : ClientState) (middle now : S) (between left : DeskState) → Exchanges steps before d old bytes (Ok messages) mid middle between
      → answer_in messages ≡ None → Talks steps before d old bytes result new now left
  waits bytes messages result mid new middle now between left ex none first rest is = talk_waited messages result mid new middle now between left (ex first rest is) none

  pub waits_for : (text bytes : List ℕ) (messages : List Message) (result : Result Answer Refusal) (mid new : ClientState) (middle now : S) (between left : DeskState) → bytes ≡ text
      → Exchanges steps before d old bytes (Ok messages) mid middle between → None ≡ answer_in messages → Talks steps before d old text result new now left
  waits_for text bytes messages result mid new middle now between left same ex none =
      subst (λ (t : List ℕ). Talks steps before d old t result new now left) same (waits bytes messages result mid new middle now between left ex (sym none))

-- why a call isn't sent
unsent_why : (call : Call) (e : AskError) → ((n : ℕ) → ◌≡◌ {A = Result (List ℕ) AskError} (Err e) (Err (ask_error.TooLong n)) → IsTooLong call n) → IsUnsent call e
unsent_why call (ask_error.TooLong n) long = long n refl
unsent_why call ask_error.Memory long = tt

one_frame : (p : List ℕ) → frame p ≡ frames (p ∷ [])
one_frame p = sym (append-nil (frame p))

module _ {S : Type 0} (steps : Request → Reply → S → S → Type 0) (before : S) (d : DeskState) (old : ClientState) (call : Call) where
  pub is_unsent : (e : AskError) → ((n : ℕ) → ◌≡◌ {A = Result (List ℕ) AskError} (Err e) (Err (ask_error.TooLong n)) → IsTooLong call n) → IsAsked steps before d old call (Err (unasked e)) old before d
  is_unsent e long = not_sent e (unsent_why call e long)

  pub is_sent : (text : List ℕ) (mid : ClientState) (result : Result Answer Refusal) (new : ClientState) (now : S) (left : DeskState) → text ≡ call_frame (next_number old.number) call → mid ≡ waiting_for old call
      → Talks steps before d mid text result new now left → IsAsked steps before d old call result new now left
  is_sent text mid result new now left spelled waits talks =
      was_sent result new now left
      (subst (λ (k : ClientState). Talks steps before d k text result new now left) waits talks
      (payload_of (Asked (next_number old.number) call)) [] (spelled ∙ one_frame (payload_of (Asked (next_number old.number) call))))
