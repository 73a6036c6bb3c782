-- Messages that are served one after another.
use Rattle.std.proofs.Common.{◌≡◌, ℕ, List, [], ◌∷◌, ◌++◌, Option, Some, None, Result, Ok, Err, ap, sym, ◌∙◌, subst, append-nil, append_assoc}
use Rattle.std.specs.List.{concat}
use Rattle.std.proofs.lemmas.List.Folds.{concat-append}
use Rattle.zodb_core.specs.declared.reply.Reply.{Reply}
use Rattle.zodb_core.specs.declared.request.Request.{Request}
use Rattle.zeo_frames.specs.Frames.{frames}
use Rattle.zeo_desk.specs.declared.asked.Asked.{Asked}
use Rattle.zeo_desk.specs.declared.asked.Asked.TheVariants as asked
use Rattle.zeo_desk.specs.declared.asked.Awaited.{Awaited}
use Rattle.zeo_desk.specs.declared.next.Next.{Next}
use Rattle.zeo_desk.specs.declared.next.Next.TheVariants.{Send, Step}
use Rattle.zeo_desk.specs.Desks.{DeskState, Turn, answered, committed, replied, replied_to, taken}
use Rattle.zeo_client.specs.declared.error.ClientError.{ClientError}
use Rattle.remote_loads.specs.Carrying.{BreaksOff, Carries}
use Rattle.remote_loads.specs.Served.{Does, DoesFront, Serves, ServesFront, asked_on, begins, done, goes_on, sent, serves_none, serves_on as front_on, steps_off, steps_on, stops}
use Rattle.hub_carrier.specs.Cutting.{AreItsPayloads}
use Rattle.hub_carrier.specs.Served.{AreSentFor, HasDone, IsSend, IsStepReplied}

-- ---- a desk asks for at most two steps one after the other

-- the news behind a commit is all that a reply asks for
abbrev asks_no_more : Option Awaited → Type 0
asks_no_more awaited = (d : DeskState) (r : Reply) → IsSend (replied_to d awaited r).next

news_last : (number tid : ℕ) → asks_no_more (Some (record { number = number; asked = asked.NewsBehind tid }))
news_last number tid d r = tt

pub second_sends : (d : DeskState) (one two : Reply) → IsSend (replied (replied d one).desk two).next
second_sends d one two = by_awaited d.awaited
  where
    by_commit : (number : ℕ) (a : Asked) (tid : Option ℕ) → IsSend (replied_to (answered d number a one tid).desk (answered d number a one tid).desk.awaited two).next
    by_commit number a (Some tid) = news_last number tid (answered d number a one (Some tid)).desk two
    by_commit number a None = tt

    by_awaited : (awaited : Option Awaited) → IsSend (replied_to (replied_to d awaited one).desk (replied_to d awaited one).desk.awaited two).next
    by_awaited None = tt
    by_awaited (Some w) = by_commit w.number w.asked (committed w.asked one)

module _ {S : Type 0} (steps : Request → Reply → S → S → Type 0) where
  -- ---- what was done whole was done in part

  pub does_front : (d left : DeskState) (next : Next) (s t : S) (out : List (List ℕ)) → Does steps d next s out left t → DoesFront steps d next s left t
  does_front d left next s t out (sent at frames same) = stops at next same
  does_front d left next s t out (asked_on at q r before between behind frames last step held rest) =
      steps_on at q r before between behind last step (does_front (replied at r).desk last (replied at r).next between behind frames rest)

  pub serves_front : (d left : DeskState) (payloads : List (List ℕ)) (s t : S) (out : List (List ℕ)) → Serves steps d payloads s out left t → ServesFront steps d payloads s left t
  serves_front d left payloads s t out (done at same) = serves_none at [] same
  serves_front d left payloads s t out (goes_on at between last payload rest turn before middle behind frames more takes does serves) =
      front_on at between last payload rest turn before middle behind frames takes does (serves_front between last rest middle behind more serves)

  -- ---- what is done next

  module _ (q : Request) (s t : S) (d desk : DeskState) where
    asked_more : (next : Next) (left : DeskState) (u : S) (out : List (List ℕ)) → IsStepReplied steps q s t d desk next → Does steps desk next t out left u → Does steps d (Step q) s out left u
    asked_more next left u out a does =
        asked_on d q a.reply s t u out left a.step a.held (subst (λ (turn : Turn). Does steps turn.desk turn.next t out left u) (sym a.turn) does)

    -- frames are sent behind it
    pub asked_frames : (next : Next) (frames : List (List ℕ)) → IsStepReplied steps q s t d desk next → next ≡ Send frames → Does steps d (Step q) s frames desk t
    asked_frames next frames a is = asked_more next desk t frames a (subst (λ (n : Next). Does steps desk n t frames desk t) (sym is) (sent desk frames t))

    -- another one is made behind it
    pub asked_again : (next : Next) (further : Request) (u : S) (left : DeskState) (r : Result (List (List ℕ)) ClientError) → IsStepReplied steps q s t d desk next → next ≡ Step further
        → HasDone steps desk (Step further) t u left r → HasDone steps d (Step q) s u left r
    asked_again next further u left (Ok frames) a is does = asked_more next left u frames a (subst (λ (n : Next). Does steps desk n t frames left u) (sym is) does)
    asked_again next further u left (Err error) a is front = (
      steps_on d q a.reply s t u left a.step
          (subst (λ (turn : Turn). DoesFront steps turn.desk turn.next t left u) (sym a.turn) (subst (λ (n : Next). DoesFront steps desk n t left u) (sym is) front.0)),
      front.1,
    )

    -- behind the first step no more than one is made
    pub last_behind : (next : Next) → IsStepReplied steps q s t d desk next → (reply : Reply) → IsSend (replied desk reply).next
    last_behind next a reply = subst (λ (turn : Turn). IsSend (replied turn.desk reply).next) a.turn (second_sends d a.reply reply)

    -- and behind the last one none
    pub none_behind : (next : Next) → IsStepReplied steps q s t d desk next → ((reply : Reply) → IsSend (replied d reply).next) → IsSend next
    none_behind next a last = subst (λ (turn : Turn). IsSend turn.next) a.turn (last a.reply)

  -- frames are sent at once
  pub sent_at_once : (d : DeskState) (next : Next) (s : S) (frames : List (List ℕ)) → next ≡ Send frames → Does steps d next s frames d s
  sent_at_once d next s frames is = subst (λ (n : Next). Does steps d n s frames d s) (sym is) (sent d frames s)

  -- no step was made
  pub none_made : (d : DeskState) (q : Request) (s : S) → DoesFront steps d (Step q) s d s
  none_made d q s = stops d (Step q) s

  -- a step that was made, and whose reply wasn't handed on
  pub step_off : (d : DeskState) (q : Request) (r : Reply) (s t : S) → steps q r s t → DoesFront steps d (Step q) s d t
  step_off d q r s t step = steps_off d q r s t step

  pub step_alone : (d left : DeskState) (q : Request) (r : Reply) (s t : S) → steps q r s t → left ≡ d → DoesFront steps d (Step q) s left t
  step_alone d left q r s t step same = subst (λ (k : DeskState). DoesFront steps d (Step q) s k t) (sym same) (steps_off d q r s t step)

  -- ---- messages

  serves_after : (d between left : DeskState) (ps qs : List (List ℕ)) (s middle behind : S) (fs gs : List (List ℕ))
      → Serves steps d ps s fs between middle → Serves steps between qs middle gs left behind → Serves steps d (ps ++ qs) s (fs ++ gs) left behind
  serves_after _ _ left _ qs _ _ behind _ gs (done d s) again = again
  serves_after _ _ left _ qs _ _ behind _ gs (goes_on d first between p ps turn s second middle frames more takes does rest) again =
      subst (λ (bs : List (List ℕ)). Serves steps d (p ∷ (ps ++ qs)) s bs left behind) (sym (append_assoc frames more gs))
      (goes_on d first left p (ps ++ qs) turn s second behind frames (more ++ gs) takes does (serves_after first between left ps qs second middle behind more gs rest again))

  front_after : (d between left : DeskState) (ps qs : List (List ℕ)) (s middle behind : S) (fs : List (List ℕ))
      → Serves steps d ps s fs between middle → ServesFront steps between qs middle left behind → ServesFront steps d (ps ++ qs) s left behind
  front_after _ _ left _ qs _ _ behind _ (done d s) again = again
  front_after _ _ left _ qs _ _ behind _ (goes_on d first between p ps turn s second middle frames more takes does rest) again =
      front_on d first left p (ps ++ qs) turn s second behind frames takes does (front_after first between left ps qs second middle behind more rest again)

  front_wider : (d left : DeskState) (ps qs : List (List ℕ)) (s t : S) → ServesFront steps d ps s left t → ServesFront steps d (ps ++ qs) s left t
  front_wider _ _ _ qs _ _ (serves_none d ps s) = serves_none d (ps ++ qs) s
  front_wider _ _ _ qs _ _ (begins d left p ps turn s t takes does) = begins d left p (ps ++ qs) turn s t takes does
  front_wider _ _ _ qs _ _ (front_on d between left p ps turn s middle t frames takes does more) =
      front_on d between left p (ps ++ qs) turn s middle t frames takes does (front_wider between left ps qs middle t more)

  one_served : (d left : DeskState) (payload : List ℕ) (turn : Turn) (s t : S) (out : List (List ℕ)) → taken d payload ≡ Some turn → Does steps turn.desk turn.next s out left t
      → Serves steps d (payload ∷ []) s out left t
  one_served d left payload turn s t out takes does =
      subst (λ (fs : List (List ℕ)). Serves steps d (payload ∷ []) s fs left t) (append-nil out)
      (goes_on d left left payload [] turn s t t out [] takes does (done left t))

  -- nothing is sent for no payload
  pub none_sent : (d : DeskState) (s : S) (bytes : List ℕ) → AreSentFor steps d [] s s d bytes bytes
  none_sent d s bytes = record { out = []; serves = done d s; bytes = sym (append-nil bytes) }

  one_sent : (d left : DeskState) (payload : List ℕ) (turn : Turn) (s t : S) (out : List (List ℕ)) (before after : List ℕ) → taken d payload ≡ Some turn
      → Does steps turn.desk turn.next s out left t → after ≡ before ++ concat out → AreSentFor steps d (payload ∷ []) s t left before after
  one_sent d left payload turn s t out before after takes does bytes = record { out = out; serves = one_served d left payload turn s t out takes does; bytes = bytes }

  -- a message wasn't taken
  pub message_refused : (d left : DeskState) (payloads : List (List ℕ)) (s : S) → left ≡ d → ServesFront steps d payloads s left s
  message_refused d left payloads s same = subst (λ (k : DeskState). ServesFront steps d payloads s k s) (sym same) (serves_none d payloads s)

  module _ (d mid left : DeskState) (payload : List ℕ) (next : Next) (s t : S) (r : Result (List (List ℕ)) ClientError) (takes : taken d payload ≡ Some (record { desk = mid; next = next })) (does : HasDone steps mid next s t left r) where
    -- it was, and some first steps of it were made, or all
    pub message_begun : (error : ClientError) → r ≡ Err error → ServesFront steps d (payload ∷ []) s left t
    message_begun error is = begins d left payload [] (record { desk = mid; next = next }) s t takes (subst (λ (x : Result (List (List ℕ)) ClientError). HasDone steps mid next s t left x) is does).0

    pub message_lost : (frames : List (List ℕ)) → r ≡ Ok frames → ServesFront steps d (payload ∷ []) s left t
    message_lost frames is =
        begins d left payload [] (record { desk = mid; next = next }) s t takes
        (does_front mid left next s t frames (subst (λ (x : Result (List (List ℕ)) ClientError). HasDone steps mid next s t left x) is does))

    -- and its frames were put behind others
    pub message_sent : (frames given : List (List ℕ)) (before after : List ℕ) → r ≡ Ok frames → given ≡ frames → after ≡ before ++ concat given → AreSentFor steps d (payload ∷ []) s t left before after
    message_sent frames given before after is same bytes =
        one_sent d left payload (record { desk = mid; next = next }) s t frames before after takes (subst (λ (x : Result (List (List ℕ)) ClientError). HasDone steps mid next s t left x) is does)
        (bytes ∙ ap (λ (fs : List (List ℕ)). before ++ concat fs) same)

  pub sent_on : (d between left : DeskState) (ps qs : List (List ℕ)) (s middle behind : S) (a b c : List ℕ) → AreSentFor steps d ps s middle between a b
      → AreSentFor steps between qs middle behind left b c → AreSentFor steps d (ps ++ qs) s behind left a c
  sent_on d between left ps qs s middle behind a b c one other = record {
    out = one.out ++ other.out;
    serves = serves_after d between left ps qs s middle behind one.out other.out one.serves other.serves;
    bytes = other.bytes ∙ (ap (λ (bs : List ℕ). bs ++ concat other.out) one.bytes ∙ (append_assoc a (concat one.out) (concat other.out)
        ∙ ap (λ (bs : List ℕ). a ++ bs) (sym (concat-append one.out other.out))));
  }

  -- ---- a piece

  pub piece_carried : (piece given text before : List ℕ) (payloads : List (List ℕ)) (d left : DeskState) (s t : S) → AreItsPayloads piece payloads → AreSentFor steps d payloads s t left before text
      → before ≡ [] → given ≡ text → Carries steps s d piece given t left
  piece_carried piece given text before payloads d left s t its all none same first rest is =
      let payloads_are = its.only (first ∷ rest) is in (
        all.out,
        same ∙ (all.bytes ∙ ap (λ (bs : List ℕ). bs ++ concat all.out) none),
        subst (λ (ps : List (List ℕ)). Serves steps d ps s all.out left t) payloads_are all.serves,
      )

  -- nothing comes for it
  pub piece_broken : (piece : List ℕ) (payloads : List (List ℕ)) (d left : DeskState) (s t : S) → AreItsPayloads piece payloads → ServesFront steps d payloads s left t → BreaksOff steps s d piece t left
  piece_broken piece payloads d left s t its front first rest is = subst (λ (ps : List (List ℕ)). ServesFront steps d ps s left t) (its.only (first ∷ rest) is) front

  pub piece_lost : (piece : List ℕ) (payloads : List (List ℕ)) (d left : DeskState) (s t : S) (before after : List ℕ) → AreItsPayloads piece payloads → AreSentFor steps d payloads s t left before after
      → BreaksOff steps s d piece t left
  piece_lost piece payloads d left s t before after its all = piece_broken piece payloads d left s t its (serves_front d left payloads s t all.out all.serves)

  pub piece_kept : (piece : List ℕ) (d : DeskState) (s : S) → BreaksOff steps s d piece s d
  piece_kept piece d s first rest is = serves_none d (first ∷ rest) s

  -- ---- what holds along steps

  module _ (L : S → S → Type 0) (once : (s : S) → L s s) (on : (s t u : S) → L s t → L t u → L s u) (step_along : (q : Request) (r : Reply) (s t : S) → steps q r s t → L s t) where
    does_along : (d left : DeskState) (next : Next) (s t : S) (out : List (List ℕ)) → Does steps d next s out left t → L s t
    does_along _ _ _ _ _ _ (sent d frames s) = once s
    does_along _ _ _ _ _ _ (asked_on d q r s between behind frames left step held rest) =
        on s between behind (step_along q r s between step) (does_along (replied d r).desk left (replied d r).next between behind frames rest)

    front_along : (d left : DeskState) (next : Next) (s t : S) → DoesFront steps d next s left t → L s t
    front_along _ _ _ _ _ (stops d next s) = once s
    front_along _ _ _ _ _ (steps_off d q r s behind step) = step_along q r s behind step
    front_along _ _ _ _ _ (steps_on d q r s between behind left step rest) =
        on s between behind (step_along q r s between step) (front_along (replied d r).desk left (replied d r).next between behind rest)

    pub serves_along : (d left : DeskState) (ps : List (List ℕ)) (s t : S) → ServesFront steps d ps s left t → L s t
    serves_along _ _ _ _ _ (serves_none d ps s) = once s
    serves_along _ _ _ _ _ (begins d left p ps turn s t takes does) = front_along turn.desk left turn.next s t does
    serves_along _ _ _ _ _ (front_on d between left p ps turn s middle t frames takes does more) =
        on s middle t (does_along turn.desk between turn.next s middle frames does) (serves_along between left ps middle t more)

-- ---- payloads one after another

-- some first ones of payloads were served, and these are left
pub record IsSentSoFar {S : Type 0} (steps : Request → Reply → S → S → Type 0) (d : DeskState) (payloads rest : List (List ℕ)) (s t : S) (left : DeskState) (before after : List ℕ) : Type 0 where
  pub done : List (List ℕ)
  pub split : payloads ≡ done ++ rest
  pub sent : AreSentFor steps d done s t left before after

module _ {S : Type 0} (steps : Request → Reply → S → S → Type 0) (d : DeskState) (payloads : List (List ℕ)) (s : S) (before : List ℕ) where
  pub none_yet : (rest : List (List ℕ)) → rest ≡ payloads → IsSentSoFar steps d payloads rest s s d before before
  none_yet rest is = record { done = []; split = sym is; sent = none_sent steps d s before }

  module _ (rest : List (List ℕ)) (t : S) (desk : DeskState) (after : List ℕ) (so : IsSentSoFar steps d payloads rest s t desk before after) where
    pub one_more : (payload again : List ℕ) (more : List (List ℕ)) (u : S) (left : DeskState) (bytes : List ℕ) → rest ≡ payload ∷ more → again ≡ payload
        → AreSentFor steps desk (again ∷ []) t u left after bytes → IsSentSoFar steps d payloads more s u left before bytes
    one_more payload again more u left bytes is same told = record {
      done = so.done ++ payload ∷ [];
      split = so.split ∙ (ap (λ (ps : List (List ℕ)). so.done ++ ps) is ∙ sym (append_assoc so.done (payload ∷ []) more));
      sent = sent_on steps d desk left so.done (payload ∷ []) s t u before after bytes so.sent (subst (λ (p : List ℕ). AreSentFor steps desk (p ∷ []) t u left after bytes) same told);
    }

    pub all_sent : rest ≡ [] → AreSentFor steps d payloads s t desk before after
    all_sent none = subst (λ (ps : List (List ℕ)). AreSentFor steps d ps s t desk before after) (sym (so.split ∙ (ap (λ (ps : List (List ℕ)). so.done ++ ps) none ∙ append-nil so.done))) so.sent

    pub stopped : (payload again : List ℕ) (more : List (List ℕ)) (u : S) (left : DeskState) → rest ≡ payload ∷ more → again ≡ payload → ServesFront steps desk (again ∷ []) t left u
        → ServesFront steps d payloads s left u
    stopped payload again more u left is same front =
        let here : ServesFront steps desk (payload ∷ []) t left u = subst (λ (p : List ℕ). ServesFront steps desk (p ∷ []) t left u) same front in
        subst (λ (ps : List (List ℕ)). ServesFront steps d ps s left u) (sym (so.split ∙ ap (λ (ps : List (List ℕ)). so.done ++ ps) is))
        (front_after steps d desk left so.done (payload ∷ more) s t u so.sent.out so.sent.serves (front_wider steps desk left (payload ∷ []) more t u here))
