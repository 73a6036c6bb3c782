-- What a desk sends for one call.
use Rattle.std.proofs.Common.{◌≡◌, ℕ, ◌^◌, List, [], ◌∷◌, ◌++◌, Option, Some, None, Bool, cond, refl, sym, ap, subst, ◌∙◌}
use Rattle.std.specs.Prelude.{IsTrue, ◌&&◌, nat_lt}
use Rattle.std.proofs.lemmas.Bool.{lt-ltb}
use Rattle.std.proofs.lemmas.List.{append-nil}
use Rattle.zodb_core.specs.declared.reply.Reply.{Reply}
use Rattle.zodb_core.specs.declared.request.Request.{Request}
use Rattle.zeo_messages.specs.declared.message.Message.{Message}
use Rattle.zeo_messages.specs.declared.message.Message.TheVariants.{Asked}
use Rattle.zeo_messages.specs.Calls.{fits_call}
use Rattle.zeo_messages.specs.Messages.{payload_of}
use Rattle.zeo_reading.specs.Reading.{AreReadBack, message_in}
use Rattle.zeo_desk.specs.declared.next.Next.{Next}
use Rattle.zeo_desk.specs.declared.next.Next.TheVariants.{Send, Step}
use Rattle.zeo_desk.specs.Answering.{asked_of, reply_frames}
use Rattle.zeo_desk.specs.Desks.{DeskState, Turn, answered, asks, call_in, called, called_early, replied, sends, taken, taken_if}
use Rattle.remote_loads.specs.Sending.{HoldsReply}
use Rattle.remote_loads.specs.Served.{Does, IsAnsweredAtOnce, IsServedBy, OneCallIsServed, Serves, asked_on, done, goes_on, sent}

-- what the desk makes of the reply to a request that is answered at once
pub replied_once : (d : DeskState) (number : ℕ) (request : Request) → IsAnsweredAtOnce request → (r : Reply) → replied (asks d number (asked_of request) request).desk r ≡ sends d (reply_frames number (asked_of request) r)
replied_once d number request at_once r = ap (λ (o : Option ℕ). answered (asks d number (asked_of request) request).desk number (asked_of request) r o) (at_once.last r)

module _ {S : Type 0} (steps : Request → Reply → S → S → Type 0) where
  -- what was done where frames are sent, and where a step is made
  pub record WasSent (d : DeskState) (sends : List (List ℕ)) (before : S) (frames : List (List ℕ)) (left : DeskState) (now : S) : Type 0 where
    pub frames_are : frames ≡ sends
    pub desk : left ≡ d
    pub state : now ≡ before

  pub record WasAsked (d : DeskState) (request : Request) (before : S) (frames : List (List ℕ)) (left : DeskState) (now : S) : Type 0 where
    pub reply : Reply
    pub between : S
    pub step : steps request reply before between
    pub held : HoldsReply reply
    pub rest : Does steps (replied d reply).desk (replied d reply).next between frames left now

  pub send_step : (frames : List (List ℕ)) (q : Request) → Send frames ≡ Step q → ⊥
  send_step frames q is = absurd cc

  pub step_send : (frames : List (List ℕ)) (q : Request) → Step q ≡ Send frames → ⊥
  step_send frames q is = absurd cc

  pub was_asked : (d left : DeskState) (next : Next) (before now : S) (frames : List (List ℕ)) (q : Request) → Does steps d next before frames left now → next ≡ Step q → WasAsked d q before frames left now
  was_asked _ _ _ _ _ _ q (sent d frames s) is = absurd (send_step frames q is)
  was_asked _ _ _ _ _ _ q (asked_on d request reply s between behind frames left step held rest) is =
      let same : request ≡ q = cc in
      record { reply = reply; between = between; step = subst (λ (r : Request). steps r reply s between) same step; held = held; rest = rest }

  pub was_sent : (d left : DeskState) (next : Next) (before now : S) (frames sends : List (List ℕ)) → Does steps d next before frames left now → next ≡ Send sends → WasSent d sends before frames left now
  was_sent _ _ _ _ _ _ sends (sent d frames s) is = let same : frames ≡ sends = cc in record { frames_are = same; desk = refl; state = refl }
  was_sent _ _ _ _ _ _ sends (asked_on d request reply s between behind frames left step held rest) is = absurd (step_send sends request is)

  -- the frames of a reply that is answered at once
  pub sent_once : (d left : DeskState) (number : ℕ) (request : Request) → IsAnsweredAtOnce request → (r : Reply) (before now : S) (out : List (List ℕ))
      → Does steps (replied (asks d number (asked_of request) request).desk r).desk (replied (asks d number (asked_of request) request).desk r).next before out left now
      → WasSent (record d { awaited = None }) (reply_frames number (asked_of request) r) before out left now
  sent_once d left number request at_once r before now out does =
      was_sent (record d { awaited = None }) left (Send (reply_frames number (asked_of request) r)) before now out (reply_frames number (asked_of request) r)
      (subst (λ (t : Turn). Does steps t.desk t.next before out left now) (replied_once d number request at_once r) does) refl

  -- no payload, and one
  pub record ServesNone (d : DeskState) (before : S) (out : List (List ℕ)) (left : DeskState) (now : S) : Type 0 where
    pub nothing : out ≡ []
    pub desk : left ≡ d
    pub state : now ≡ before

  pub record ServesOne (d : DeskState) (payload : List ℕ) (before : S) (out : List (List ℕ)) (left : DeskState) (now : S) : Type 0 where
    pub turn : Turn
    pub takes : taken d payload ≡ Some turn
    pub does : Does steps turn.desk turn.next before out left now

  pub none_one : (p : List ℕ) (ps : List (List ℕ)) → (let o : List (List ℕ) = [] in o) ≡ p ∷ ps → ⊥
  none_one p ps is = absurd cc

  pub one_none : (p : List ℕ) (ps : List (List ℕ)) → p ∷ ps ≡ [] → ⊥
  one_none p ps is = absurd cc

  serves_none : (d left : DeskState) (ps : List (List ℕ)) (before now : S) (out : List (List ℕ)) → Serves steps d ps before out left now → ps ≡ [] → ServesNone d before out left now
  serves_none _ _ _ _ _ _ (done d s) is = record { nothing = refl; desk = refl; state = refl }
  serves_none _ _ _ _ _ _ (goes_on d between left payload rest turn s middle behind frames more takes does serves) is = absurd (one_none payload rest is)

  pub serves_one : (d left : DeskState) (ps : List (List ℕ)) (p : List ℕ) (before now : S) (out : List (List ℕ)) → Serves steps d ps before out left now → ps ≡ p ∷ [] → ServesOne d p before out left now
  serves_one _ _ _ p _ _ _ (done d s) is = absurd (none_one p [] is)
  serves_one _ _ _ p _ _ _ (goes_on d between left payload rest turn s middle behind frames more takes does serves) is =
      let head : payload ≡ p = cc in
      let tail : rest ≡ [] = cc in
      let last = serves_none between left rest middle behind more serves tail in
      let all : frames ++ more ≡ frames = ap (λ (xs : List (List ℕ)). frames ++ xs) last.nothing ∙ append-nil frames in
      record {
        turn = turn;
        takes = subst (λ (x : List ℕ). taken d x ≡ Some turn) head takes;
        does =
            subst (λ (xs : List (List ℕ)). Does steps turn.desk turn.next s xs left behind) (sym all)
            (subst (λ (x : DeskState). Does steps turn.desk turn.next s frames x behind) (sym last.desk)
            (subst (λ (x : S). Does steps turn.desk turn.next s frames between x) (sym last.state) does));
      }

  pub one_call : AreReadBack → OneCallIsServed steps
  one_call read_back d left number call request before now out registered low held fits at_once is serves = by_turn (serves_one d left (payload_of (Asked number call) ∷ []) (payload_of (Asked number call)) before now out serves refl)
    where
      numbered : IsTrue (nat_lt number (2 ^ 31) && fits_call call)
      numbered = rw (lt-ltb number (2 ^ 31) low) fits

      read : message_in (payload_of (Asked number call)) ≡ Some (Asked number call)
      read = read_back (Asked number call) held numbered

      takes : taken d (payload_of (Asked number call)) ≡ Some (asks d number (asked_of request) request)
      takes = ap (λ (m : Option Message). taken_if d (call_in m)) read ∙ ap (λ (b : Bool). Some (cond b (called d number call) (called_early d number call))) registered ∙ ap (λ (t : Turn). Some t) is

      by_turn : ServesOne d (payload_of (Asked number call)) before out left now → IsServedBy steps d number request before out left now
      by_turn one =
          let same : one.turn ≡ asks d number (asked_of request) request = let e : ◌≡◌ {A = Option Turn} (Some one.turn) (Some (asks d number (asked_of request) request)) = sym one.takes ∙ takes in cc in
          let does : Does steps (asks d number (asked_of request) request).desk (Step request) before out left now = subst (λ (t : Turn). Does steps t.desk t.next before out left now) same one.does in
          let made = was_asked (asks d number (asked_of request) request).desk left (Step request) before now out request does refl in
          let told = sent_once d left number request at_once made.reply made.between now out made.rest in
          record { reply = made.reply; step = subst (λ (x : S). steps request made.reply before x) (sym told.state) made.step; held = made.held; sent = told.frames_are; desk = told.desk }
