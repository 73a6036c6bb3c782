-- What a desk may have done for one call of which nothing comes.
use Rattle.std.proofs.Common.{◌≡◌, ℕ, ◌<◌, ◌^◌, List, [], ◌∷◌, Option, Some, None, Bool, true, cond, refl, sym, ap, subst, ◌∙◌}
use Rattle.std.specs.Prelude.{IsTrue, ◌&&◌, nat_lt}
use Rattle.std.proofs.lemmas.Bool.{lt-ltb}
use Rattle.zodb_core.specs.declared.reply.Reply.{Reply}
use Rattle.zodb_core.specs.declared.request.Request.{Request}
use Rattle.zeo_messages.specs.declared.call.Call.{Call}
use Rattle.zeo_messages.specs.declared.message.Message.{Message}
use Rattle.zeo_messages.specs.declared.message.Message.TheVariants.{Asked}
use Rattle.zeo_messages.specs.Calls.{HoldsCall, fits_call}
use Rattle.zeo_messages.specs.Messages.{payload_of}
use Rattle.zeo_reading.specs.Reading.{AreReadBack, message_in}
use Rattle.zeo_desk.specs.declared.next.Next.{Next}
use Rattle.zeo_desk.specs.declared.next.Next.TheVariants.{Send, Step}
use Rattle.zeo_desk.specs.Answering.{asked_of, reply_frames}
use Rattle.zeo_desk.specs.Desks.{DeskState, Turn, asks, call_in, called, called_early, replied, taken, taken_if}
use Rattle.remote_loads.specs.Served.{Does, DoesFront, IsAnsweredAtOnce, MaySteps, OneCallBreaksOff, ServesFront, begins, no_step, one_step, serves_none, serves_on, steps_off, steps_on, stops}
use Rattle.remote_loads.proofs.OneCall.{one_none, replied_once, sent_once, step_send, was_asked}

-- what the desk makes of the payload of a call of a client that has registered
pub call_taken : AreReadBack → (d : DeskState) (number : ℕ) (call : Call) → d.registered ≡ true → number < 2 ^ 31 → HoldsCall call → fits_call call ≡ true
    → taken d (payload_of (Asked number call)) ≡ Some (called d number call)
call_taken read_back d number call registered low held fits =
    ap (λ (m : Option Message). taken_if d (call_in m)) read ∙ ap (λ (b : Bool). Some (cond b (called d number call) (called_early d number call))) registered
  where
    numbered : IsTrue (nat_lt number (2 ^ 31) && fits_call call)
    numbered = rw (lt-ltb number (2 ^ 31) low) fits

    read : message_in (payload_of (Asked number call)) ≡ Some (Asked number call)
    read = read_back (Asked number call) held numbered

module _ {S : Type 0} (steps : Request → Reply → S → S → Type 0) where
  -- nothing is made where frames are sent
  pub record FrontSent (d : DeskState) (before : S) (left : DeskState) (now : S) : Type 0 where
    pub desk : left ≡ d
    pub state : now ≡ before

  pub front_sent : (d left : DeskState) (next : Next) (before now : S) (frames : List (List ℕ)) → DoesFront steps d next before left now → next ≡ Send frames → FrontSent d before left now
  front_sent _ _ _ _ _ frames (stops d next s) is = record { desk = refl; state = refl }
  front_sent _ _ _ _ _ frames (steps_off d request reply s behind step) is = absurd (step_send steps frames request is)
  front_sent _ _ _ _ _ frames (steps_on d request reply s between behind left step rest) is = absurd (step_send steps frames request is)

  -- and so behind a reply that is answered at once
  front_once : (d left : DeskState) (number : ℕ) (q : Request) → IsAnsweredAtOnce q → (r : Reply) (before now : S)
      → DoesFront steps (replied (asks d number (asked_of q) q).desk r).desk (replied (asks d number (asked_of q) q).desk r).next before left now → FrontSent (record d { awaited = None }) before left now
  front_once d left number q at_once r before now does =
      front_sent (record d { awaited = None }) left (Send (reply_frames number (asked_of q) r)) before now (reply_frames number (asked_of q) r)
      (subst (λ (t : Turn). DoesFront steps t.desk t.next before left now) (replied_once d number q at_once r) does) refl

  -- a step whose reply is answered at once
  abbrev Left : DeskState → Request → S → DeskState → S → Type 0
  Left d q before left now = MaySteps steps q before now × (left.registered ≡ true)

  front_asked : (d desk left : DeskState) (number : ℕ) (next : Next) (q : Request) (before now : S) → d.registered ≡ true → IsAnsweredAtOnce q → DoesFront steps desk next before left now → next ≡ Step q
      → desk ≡ (asks d number (asked_of q) q).desk → Left d q before left now
  front_asked d _ _ number _ q _ _ registered at_once (stops desk next s) is there = (no_step, ap (λ (k : DeskState). k.registered) there ∙ registered)
  front_asked d _ _ number _ q _ _ registered at_once (steps_off desk request reply s behind step) is there =
      let same : request ≡ q = cc in (one_step reply behind (subst (λ (r : Request). steps r reply s behind) same step), ap (λ (k : DeskState). k.registered) there ∙ registered)
  front_asked d _ _ number _ q _ _ registered at_once (steps_on desk request reply s between behind left step rest) is there =
      let same : request ≡ q = cc in
      let desk_is : desk ≡ (asks d number (asked_of q) q).desk = there in
      let rest_is : DoesFront steps (replied (asks d number (asked_of q) q).desk reply).desk (replied (asks d number (asked_of q) q).desk reply).next between left behind =
      subst (λ (k : DeskState). DoesFront steps (replied k reply).desk (replied k reply).next between left behind) desk_is rest in
      let sent = front_once d left number q at_once reply between behind rest_is in
      let made : steps q reply s behind = subst (λ (x : S). steps q reply s x) (sym sent.state) (subst (λ (r : Request). steps r reply s between) same step) in
      (one_step reply behind made, ap (λ (k : DeskState). k.registered) sent.desk ∙ registered)

  pub front_none : (d left : DeskState) (ps : List (List ℕ)) (before now : S) → ServesFront steps d ps before left now → ps ≡ [] → FrontSent d before left now
  front_none _ _ _ _ _ (serves_none d ps s) is = record { desk = refl; state = refl }
  front_none _ _ _ _ _ (begins d left payload rest turn s behind takes does) is = absurd (one_none steps payload rest is)
  front_none _ _ _ _ _ (serves_on d between left payload rest turn s middle behind frames takes does more) is = absurd (one_none steps payload rest is)

  front_one : (d left : DeskState) (ps : List (List ℕ)) (p : List ℕ) (number : ℕ) (q : Request) (before now : S) → d.registered ≡ true → IsAnsweredAtOnce q → taken d p ≡ Some (asks d number (asked_of q) q)
      → ServesFront steps d ps before left now → ps ≡ p ∷ [] → Left d q before left now
  front_one _ _ _ p number q _ _ registered at_once takes (serves_none d ps s) is = (no_step, registered)
  front_one _ _ _ p number q _ _ registered at_once takes (begins d left payload rest turn s behind was does) is =
      let head : payload ≡ p = cc in
      let turn_is : turn ≡ asks d number (asked_of q) q =
      let e : ◌≡◌ {A = Option Turn} (Some turn) (Some (asks d number (asked_of q) q)) = sym was ∙ ap (λ (x : List ℕ). taken d x) head ∙ takes in cc in
      let front : DoesFront steps (asks d number (asked_of q) q).desk (Step q) s left behind = subst (λ (t : Turn). DoesFront steps t.desk t.next s left behind) turn_is does in
      front_asked d (asks d number (asked_of q) q).desk left number (Step q) q s behind registered at_once front refl refl
  front_one _ _ _ p number q _ _ registered at_once takes (serves_on d between left payload rest turn s middle behind frames was does more) is =
      let head : payload ≡ p = cc in
      let tail : rest ≡ [] = cc in
      let turn_is : turn ≡ asks d number (asked_of q) q =
      let e : ◌≡◌ {A = Option Turn} (Some turn) (Some (asks d number (asked_of q) q)) = sym was ∙ ap (λ (x : List ℕ). taken d x) head ∙ takes in cc in
      let all : Does steps (asks d number (asked_of q) q).desk (Step q) s frames between middle = subst (λ (t : Turn). Does steps t.desk t.next s frames between middle) turn_is does in
      let made = was_asked steps (asks d number (asked_of q) q).desk between (Step q) s middle frames q all refl in
      let told = sent_once steps d between number q at_once made.reply made.between middle frames made.rest in
      let last = front_none between left rest middle behind more tail in
      let step : steps q made.reply s behind = subst (λ (x : S). steps q made.reply s x) (sym (last.state ∙ told.state)) made.step in
      (one_step made.reply behind step, ap (λ (k : DeskState). k.registered) (last.desk ∙ told.desk) ∙ registered)

  pub one_call_breaks : AreReadBack → OneCallBreaksOff steps
  one_call_breaks read_back d left number call request before now registered low held fits at_once is serves =
      front_one d left (payload_of (Asked number call) ∷ []) (payload_of (Asked number call)) number request before now registered at_once
      (call_taken read_back d number call registered low held fits ∙ ap (λ (t : Turn). Some t) is) serves refl
