-- A call that names one step is made so, whatever came.
use Rattle.std.proofs.Common.{◌≡◌, ◌⊎◌, inl, inr, ℕ, ◌<◌, ◌^◌, Bool, true, false, cond, List, [], ◌∷◌, ◌++◌, Option, Some, None, Result, Ok, Err, refl, sym, ap, subst, ◌∙◌, arith}
use Rattle.std.specs.Prelude.{map, nat_lt, ◌+◌, ◌-◌}
use Rattle.std.specs.List.{concat}
use Rattle.std.proofs.lemmas.Bool.{ltb-true}
use Rattle.zb_model.specs.declared.refusal.Refusal.{Refusal}
use Rattle.zb_model.specs.declared.refusal.Refusal.TheVariants as refusal
use Rattle.zodb_core.specs.declared.reply.Reply.{Reply}
use Rattle.zodb_core.specs.declared.request.Request.{Request}
use Rattle.zeo_frames.specs.Frames.{frames}
use Rattle.zeo_messages.specs.declared.answer.Answer.{Answer}
use Rattle.zeo_messages.specs.declared.call.Call.{Call}
use Rattle.zeo_messages.specs.declared.message.Message.{Message}
use Rattle.zeo_messages.specs.declared.message.Message.TheVariants.{Answered, Asked, Told}
use Rattle.zeo_messages.specs.declared.message.Notice.{Notice}
use Rattle.zeo_messages.specs.Calls.{HoldsCall, fits_call}
use Rattle.zeo_messages.specs.Messages.{payload_of}
use Rattle.zeo_reading.specs.Reading.{AreReadBack}
use Rattle.zeo_desk.specs.Answering.{answer_to, asked_of, reply_answer, reply_frames, sent_answer}
use Rattle.zeo_desk.specs.Desks.{DeskState, asks, called}
use Rattle.zeo_client.specs.declared.error.ClientError.{ClientError}
use Rattle.zeo_client.specs.declared.error.ClientError.TheVariants as error
use Rattle.zeo_client.specs.Asking.{next_number}
use Rattle.zeo_client.specs.Hearing.{Held, IsAnswerHeard}
use Rattle.zeo_client.specs.Rows.{answers_call}
use Rattle.zeo_client.specs.Taking.{ClientState, IsFed, IsFedIf}
use Rattle.zeo_client.specs.Whole.{AreCutShort, AreHeard, HearsFront, MayBeSent, WholePiecesAreHeard, ready}
use Rattle.remote_loads.specs.Sending.{HoldsReply, messages_of, notices_before}
use Rattle.remote_loads.specs.Served.{IsAnsweredAtOnce, MaySteps, Serves, ServesFront, no_step, one_step}
use Rattle.remote_loads.specs.Standing.{IsAtRest, IsWayEnd}
use Rattle.remote_loads.specs.Talking.{IsAsked, IsCalled, IsExchanged, IsTalked, MayBeHeard, answer_given, answer_in, answered, broke_off, came, not_sent, refused_so, talk_answered, talk_failed, talk_waited, unheard, unmade, unsent, waiting_for, was_sent}
use Rattle.remote_loads.proofs.BrokenCall.{one_call_breaks}
use Rattle.remote_loads.proofs.OneCall.{one_call}
use Rattle.remote_loads.proofs.Sendings.{answer_comes, frames_are}

-- a call that names one step whatever the desk keeps, and may be sent
pub record NamesOne (call : Call) (request : Request) : Type 0 where
  pub held : HoldsCall call
  pub row : fits_call call ≡ true
  pub once : IsAnsweredAtOnce request
  pub names : (d : DeskState) (number : ℕ) → called d number call ≡ asks d number (asked_of request) request

-- its reply tells no news, and is answered by its row
pub record HasRow (request : Request) (call : Call) (reply : Reply) : Type 0 where
  pub none : notices_before reply ≡ []
  pub row : answers_call call (reply_answer (asked_of request) reply) ≡ true

pub next_low : (number : ℕ) → next_number number < 2 ^ 31
next_low number = by_cases (nat_lt number (2 ^ 31 - 1)) refl
  where
    by_cases : (b : Bool) → nat_lt number (2 ^ 31 - 1) ≡ b → cond b (number + 1) 1 < 2 ^ 31
    by_cases true is = let a = ltb-true number (2 ^ 31 - 1) is in omega (arith, a)
    by_cases false is = omega arith

-- a step was made for a call of this number, whose reply was sent
pub record IsServedAt {S : Type 0} (steps : Request → Reply → S → S → Type 0) (number : ℕ) (request : Request) (before : S) (out : List (List ℕ)) (left : DeskState) (now : S) : Type 0 where
  pub reply : Reply
  pub step : steps request reply before now
  pub held : HoldsReply reply
  pub sent : out ≡ reply_frames number (asked_of request) reply
  pub registered : left.registered ≡ true

module _ {S : Type 0} (steps : Request → Reply → S → S → Type 0) (whole : WholePiecesAreHeard) (call : Call) (request : Request) (rows : (reply : Reply) (s t : S) → steps request reply s t → HasRow request call reply) (once : IsAnsweredAtOnce request) where
  -- a client that waits for the answer of a call, whose payloads are sent to a desk that makes its step for them
  module _ (before : S) (d : DeskState) (mid : ClientState) (payloads : List (List ℕ)) (rest : IsAtRest d mid) (low : mid.number < 2 ^ 31) (last : mid.last ≡ Some call)
      (breaks : (now : S) (left : DeskState) → ServesFront steps d payloads before left now → MaySteps steps request before now × (left.registered ≡ true))
      (serves : (out : List (List ℕ)) (now : S) (left : DeskState) → Serves steps d payloads before out left now → IsServedAt steps mid.number request before out left now) where
    abbrev said : Reply → Message
    said reply = Answered mid.number (answer_given request reply)

    -- what came for the reply
    abbrev Came : Reply → DeskState → Result (List Message) ClientError → ClientState → Type 0
    Came reply left result new =
        ((result ≡ Err error.Memory) × MayBeHeard call (answer_given request reply) mid.held new.held × IsAtRest left new)
        ⊎ ((result ≡ Ok (said reply ∷ [])) × IsAnswerHeard (Some call) (answer_given request reply) mid.held new.held × IsAtRest left new)

    some_none : ◌≡◌ {A = Option ClientError} (Some error.Memory) None → ⊥
    some_none is = absurd cc

    comes : (reply : Reply) (left : DeskState) (result : Result (List Message) ClientError) (new : ClientState) → HasRow request call reply → HoldsReply reply → left.registered ≡ true
        → IsFed mid (concat (reply_frames mid.number (asked_of request) reply)) result new → Came reply left result new
    comes reply left result new row holds registered fed = by_ended mid.ended refl rest.end fed
      where
        messages_are : messages_of mid.number (asked_of request) reply ≡ said reply ∷ []
        messages_are =
            ap (λ (ns : List Notice). map (λ n. Told n) ns ++ Answered mid.number (sent_answer (asked_of request) (answer_to (asked_of request) reply)) ∷ []) row.none
            ∙ ap (λ (a : Answer). Answered mid.number (sent_answer (asked_of request) a) ∷ []) (once.answer reply)

        sent : MayBeSent mid.number mid.last (said reply)
        sent = subst (λ (l : Option Call). MayBeSent mid.number l (said reply)) (sym last) (answer_comes mid.number call (asked_of request) (reply_answer (asked_of request) reply) once.long low (holds.answer (asked_of request)) row.row)

        piece : concat (reply_frames mid.number (asked_of request) reply) ≡ frames (map payload_of (said reply ∷ []))
        piece = frames_are mid.number (asked_of request) reply ∙ ap (λ (ms : List Message). frames (map payload_of ms)) messages_are

        here : (h : Held) → IsAnswerHeard mid.last (answer_given request reply) mid.held h → IsAnswerHeard (Some call) (answer_given request reply) mid.held h
        here h heard = subst (λ (l : Option Call). IsAnswerHeard l (answer_given request reply) mid.held h) last heard

        by_front : HearsFront mid.last (said reply ∷ []) mid.held new.held → MayBeHeard call (answer_given request reply) mid.held new.held
        by_front (inl same) = inl same
        by_front (inr some) = inr (here new.held (subst (λ (h : Held). IsAnswerHeard mid.last (answer_given request reply) mid.held h) (sym some.2) some.1))

        by_whole : AreCutShort (said reply ∷ []) mid result new ⊎ AreHeard (said reply ∷ []) mid result new → Came reply left result new
        by_whole (inl cut) = inl (
          cut.given,
          by_front cut.heard,
          record {
            registered = registered;
            end = subst (λ (e : Option ClientError). IsWayEnd e) (sym cut.ended) tt;
            reading = λ none. absurd (some_none (sym cut.ended ∙ none));
          },
        )
        by_whole (inr all) = inr (
          all.given,
          here new.held (subst (λ (h : Held). IsAnswerHeard mid.last (answer_given request reply) mid.held h) (sym all.heard.2) all.heard.1),
          record { registered = registered; end = subst (λ (e : Option ClientError). IsWayEnd e) (sym all.ended) tt; reading = λ none. all.reading },
        )

        by_ended : (e : Option ClientError) → mid.ended ≡ e → IsWayEnd e → IsFedIf mid.ended mid (concat (reply_frames mid.number (asked_of request) reply)) result new → Came reply left result new
        by_ended None is way got = by_whole (whole (said reply ∷ []) mid new result (sent, tt) (rest.reading is) is (subst (λ (p : List ℕ). IsFed mid p result new) piece got))
        by_ended (Some error.Memory) is way got =
            let both : (result ≡ Err error.Memory) × (new ≡ mid) = subst (λ (e : Option ClientError). IsFedIf e mid (concat (reply_frames mid.number (asked_of request) reply)) result new) is got in
            inl (
              both.0,
              inl (ap (λ (k : ClientState). k.held) both.1),
              record {
                registered = registered;
                end = subst (λ (k : ClientState). IsWayEnd k.ended) (sym both.1) rest.end;
                reading = subst (λ (k : ClientState). k.ended ≡ None → k.reading ≡ ready) (sym both.1) rest.reading;
              },
            )
        by_ended (Some error.BadMessage) is way got = absurd way
        by_ended (Some error.LinkFault) is way got = absurd way
        by_ended (Some error.Closed) is way got = absurd way
        by_ended (Some (error.FrameTooLong n)) is way got = absurd way

    -- an exchange
    abbrev Exchanged : Result (List Message) Refusal → ClientState → S → DeskState → Type 0
    Exchanged (Err r) new now left = IsCalled steps request call before mid.held (Err r) new.held now × IsAtRest left new
    Exchanged (Ok messages) new now left =
        (reply : Reply) × steps request reply before now × (messages ≡ said reply ∷ []) × IsAnswerHeard (Some call) (answer_given request reply) mid.held new.held × IsAtRest left new

    came_so : (reply : Reply) (now : S) (left : DeskState) (result : Result (List Message) ClientError) (new : ClientState) → steps request reply before now → Came reply left result new → Exchanged (refused_so result) new now left
    came_so reply now left result new step (inl lost) =
        subst (λ (x : Result (List Message) ClientError). Exchanged (refused_so x) new now left) (sym lost.0) (unheard refusal.Memory reply new.held now tt step lost.1, lost.2)
    came_so reply now left result new step (inr all) =
        subst (λ (x : Result (List Message) ClientError). Exchanged (refused_so x) new now left) (sym all.0) (reply, step, refl, all.1, all.2)

    exchanged_so : (result : Result (List Message) Refusal) (new : ClientState) (now : S) (left : DeskState) → IsExchanged steps before d mid payloads result new now left → Exchanged result new now left
    exchanged_so _ _ _ _ (broke_off r now left way front) =
        let made = breaks now left front in
        (by_steps now made.0, record { registered = made.1; end = rest.end; reading = rest.reading })
      where
        by_steps : (s : S) → MaySteps steps request before s → IsCalled steps request call before mid.held (Err r) mid.held s
        by_steps _ no_step = unmade r way
        by_steps _ (one_step reply s step) = unheard r reply mid.held s way step (inl refl)
    exchanged_so _ _ _ _ (came out result new now left serves_so fed) =
        let by = serves out now left serves_so in
        let row = rows by.reply before now by.step in
        came_so by.reply now left result new by.step (comes by.reply left result new row by.held by.registered (subst (λ (x : List (List ℕ)). IsFed mid (concat x) result new) by.sent fed))

    said_in : (messages : List Message) (reply : Reply) → messages ≡ said reply ∷ [] → answer_in messages ≡ Some (answer_given request reply)
    said_in messages reply is = ap answer_in is

    answer_none : (answer : Answer) → ◌≡◌ {A = Option Answer} (Some answer) None → ⊥
    answer_none answer is = absurd cc

    pub talked_so : (result : Result Answer Refusal) (new : ClientState) (now : S) (left : DeskState) → IsTalked steps before d mid payloads result new now left
        → IsCalled steps request call before mid.held result new.held now × IsAtRest left new
    talked_so _ _ _ _ (talk_failed r new now left ex) = exchanged_so (Err r) new now left ex
    talked_so _ _ _ _ (talk_answered messages answer new now left ex is) =
        let got = exchanged_so (Ok messages) new now left ex in
        let same : answer ≡ answer_given request got.0 = let e : ◌≡◌ {A = Option Answer} (Some answer) (Some (answer_given request got.0)) = sym is ∙ said_in messages got.0 got.2 in cc in
        (subst (λ (x : Answer). IsCalled steps request call before mid.held (Ok x) new.held now) (sym same) (answered got.0 new.held now got.1 got.3), got.4)
    talked_so _ _ _ _ (talk_waited messages result between_client new middle now between left ex is) =
        let got = exchanged_so (Ok messages) between_client middle between ex in
        absurd (answer_none (answer_given request got.0) (sym (said_in messages got.0 got.2) ∙ is))

  -- a call of a client at rest that goes out by its own message
  pub asked_so : AreReadBack → NamesOne call request → (before : S) (d : DeskState) (old : ClientState) → IsAtRest d old → (result : Result Answer Refusal) (new : ClientState) (now : S) (left : DeskState)
      → IsAsked steps before d old call result new now left → IsCalled steps request call before old.held result new.held now × IsAtRest left new
  asked_so read_back names before d old rest _ _ _ _ (not_sent e why) = (unsent e why, rest)
  asked_so read_back names before d old rest _ _ _ _ (was_sent result new now left talked) =
      talked_so before d (waiting_for old call) (payload_of (Asked (next_number old.number) call) ∷ []) (record { registered = rest.registered; end = rest.end; reading = rest.reading }) (next_low old.number) refl
      (λ t k front. one_call_breaks steps read_back d k (next_number old.number) call request before t rest.registered (next_low old.number) names.held names.row names.once (names.names d (next_number old.number)) front)
      (λ out t k served.
      let by = one_call steps read_back d k (next_number old.number) call request before t out rest.registered (next_low old.number) names.held names.row names.once (names.names d (next_number old.number)) served in
      record { reply = by.reply; step = by.step; held = by.held; sent = by.sent; registered = ap (λ (x : DeskState). x.registered) by.desk ∙ rest.registered })
      result new now left talked
