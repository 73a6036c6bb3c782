-- The steps of one message, up to the frames that answer it.
use Rattle.std.proofs.Common.{◌≡◌, ℕ, List, [], ◌∷◌, ◌++◌, Option, None, Some, Result, Ok, Err, sym, refl, subst, inl, inr}
use Rattle.std.specs.Prelude.{IfErr, OnOk}
use Rattle.std.specs.Io.KnownBytes.{Appends}
use Rattle.std.specs.List.{concat}
use Rattle.std.proofs.KnownBytes.{Appends-nil}
use Rattle.zb_model.specs.declared.data.Transaction.{Transaction}
use Rattle.zodb_core.specs.declared.reply.Reply.{Reply}
use Rattle.zodb_core.specs.declared.request.Request.{Request}
use Rattle.zodb_core.specs.Machine.{Rules}
use Rattle.zodb_core.specs.Outcomes.{FaultCounts}
use Rattle.zeo_desk.specs.declared.next.Next.{Next}
use Rattle.zeo_desk.specs.declared.next.Next.TheVariants.{Step, Send}
use Rattle.zeo_desk.specs.Desks.{DeskState, Turn, replied, taken}
use Rattle.hub_shared.specs.Calls.{HasCalled}
use Rattle.hub_shared.specs.Seats.{Known}
use Rattle.zeo_session.specs.declared.ending.SessionEnd.{SessionEnd}
use Rattle.zeo_session.specs.declared.ending.SessionEnd.TheVariants.{Ended, LinkFault, BadMessage, FrameTooLong, Memory}
use Rattle.zeo_session.specs.Served.{Asks, Does, DoesFront, Progress, asked_on, sent, steps_on, stops}
use Rattle.zeo_session.specs.Serving.{HasAsked, HasDone, HasTaken, IsNotSent}

module _ (told : Type 0) (rules : Rules) (list : List Transaction) (counts : FaultCounts) where
  abbrev Steps : Request → Reply → Progress → Progress → Type 0
  Steps = Asks told rules list counts

  -- What was done so far led to where something else is done next: what that comes to, the whole comes to.
  pub record LeadsTo (s : Progress) (d : DeskState) (next : Next) (w : Known) (desk : DeskState) (further : Next) : Type 0 where
    pub behind : Progress
    pub knows : behind.known ≡ w
    pub does : (frames : List (List ℕ)) (left : DeskState) (t : Progress) → Does Steps desk further behind frames left t → Does Steps d next s frames left t
    pub front : (t : Progress) → DoesFront Steps desk further behind t → DoesFront Steps d next s t

  pub leads_first : (s : Progress) (d : DeskState) (next : Next) (w : Known) → s.known ≡ w → LeadsTo s d next w d next
  leads_first s d next w knows = record { behind = s; knows = knows; does = λ frames left t it. it; front = λ t it. it }

  -- what is known behind a step
  abbrev after_step : (s : Progress) (q : Request) (r : Reply) (w : Known) → Progress
  after_step s q r w = record { known = w; asked = s.asked ++ record { request = q; reply = r } ∷ [] }

  step_made : {E : Type 0} (s : Progress) (q : Request) (v w : Known) (d left : DeskState) (result : Result Next E) → s.known ≡ v → (a : HasAsked told rules list counts q v w d left result)
      → Steps q a.reply s (after_step s q a.reply w)
  step_made s q v w d left result knows a = record {
    called = subst (λ (k : Known). HasCalled told rules list counts q a.reply k w) (sym knows) a.called;
    free = a.free;
    asked = refl;
  }

  pub leads_on : {E : Type 0} (s : Progress) (d : DeskState) (next : Next) (v w : Known) (desk left : DeskState) (q : Request) (further : Next)
      → LeadsTo s d next v desk (Step q) → HasAsked {E = E} told rules list counts q v w desk left (Ok further) → LeadsTo s d next w left further
  leads_on {E = E} s d next v w desk left q further l a =
      let at = after_step l.behind q a.reply w in
      let step = step_made {E = E} l.behind q v w desk left (Ok further) l.knows a in
      record {
        behind = at;
        knows = refl;
        does = λ frames last t it. l.does frames last t (asked_on desk q a.reply l.behind at t frames last step (subst (λ (turn : Turn). Does Steps turn.desk turn.next at frames last t) (sym a.next) it));
        front = λ t it. l.front t (steps_on desk q a.reply l.behind at t step (subst (λ (turn : Turn). DoesFront Steps turn.desk turn.next at t) (sym a.next) it));
      }

  pub leads_nowhere : {E : Type 0} (s : Progress) (d : DeskState) (next : Next) (v w : Known) (desk left : DeskState) (q : Request) (error : E)
      → LeadsTo s d next v desk (Step q) → HasAsked told rules list counts q v w desk left (Err error) → HasDone told rules list counts s w d next left (Err error)
  leads_nowhere s d next v w desk left q error l a =
      let at = after_step l.behind q a.reply w in
      record {
        behind = at;
        knows = refl;
        done = l.front at (steps_on desk q a.reply l.behind at at (step_made l.behind q v w desk left (Err error) l.knows a) (stops (replied desk a.reply).desk (replied desk a.reply).next at));
      }

  pub leads_home : {E : Type 0} (s : Progress) (d : DeskState) (next : Next) (w : Known) (desk : DeskState) (frames : List (List ℕ))
      → LeadsTo s d next w desk (Send frames) → HasDone {E = E} told rules list counts s w d next desk (Ok frames)
  leads_home s d next w desk frames l = record { behind = l.behind; knows = l.knows; done = l.does frames desk l.behind (sent desk frames l.behind) }

  -- ---- a message

  module _ {E : Type 0} (s : Progress) (w : Known) (d left : DeskState) (payload : List ℕ) (before after : Option (List ℕ)) where
    abbrev Result_is : Result E SessionEnd → Type 0
    Result_is r = HasTaken told rules list counts s w d left payload before after r

    pub message_bad : (end : SessionEnd) → end ≡ BadMessage → s.known ≡ w → taken d payload ≡ None → after ≡ before → Result_is (Err end)
    message_bad end is knows none same =
        subst (λ (e : SessionEnd). Result_is (Err e)) (sym is)
        (record { behind = s; knows = knows; taken = (none, refl, subst (λ (a : Option (List ℕ)). Appends before a []) (sym same) (Appends-nil before)) })

    pub message_unread : (end : SessionEnd) → end ≡ Memory → s.known ≡ w → after ≡ before → Result_is (Err end)
    message_unread end is knows same =
        subst (λ (e : SessionEnd). Result_is (Err e)) (sym is)
        (record { behind = s; knows = knows; taken = (inl refl, subst (λ (a : Option (List ℕ)). Appends before a []) (sym same) (Appends-nil before)) })

    pub message_begun : {F : Type 0} (turn : Turn) (r : Result (List (List ℕ)) F) (error : F) → taken d payload ≡ Some turn → r ≡ Err error
        → HasDone told rules list counts s w turn.desk turn.next left r → after ≡ before → Result_is (Err Memory)
    message_begun {F = F} turn r error takes is all same =
        let did = subst (λ (x : Result (List (List ℕ)) F). HasDone told rules list counts s w turn.desk turn.next left x) is all in
        record {
          behind = did.behind;
          knows = did.knows;
          taken = (inr (record { turn = turn; takes = takes; does = did.done }), subst (λ (a : Option (List ℕ)). Appends before a []) (sym same) (Appends-nil before));
        }

    message_sent : {F : Type 0} (turn : Turn) (frames : List (List ℕ)) (ok : E) → taken d payload ≡ Some turn → HasDone {E = F} told rules list counts s w turn.desk turn.next left (Ok frames)
        → Appends before after (concat frames) → Result_is (Ok ok)
    message_sent turn frames ok takes did all = record {
      behind = did.behind;
      knows = did.knows;
      taken = (frames, record { turn = turn; takes = takes; does = did.done }, all);
    }

    message_unsent : {F : Type 0} (turn : Turn) (frames : List (List ℕ)) (end : SessionEnd) → taken d payload ≡ Some turn → HasDone {E = F} told rules list counts s w turn.desk turn.next left (Ok frames)
        → IsNotSent end before after (concat frames) → Result_is (Err end)
    message_unsent turn frames LinkFault takes did some = record {
      behind = did.behind;
      knows = did.knows;
      taken = record { left = left; frames = frames; served = record { turn = turn; takes = takes; does = did.done }; taken = some };
    }
    message_unsent turn frames Memory takes did none = record {
      behind = did.behind;
      knows = did.knows;
      taken = (inr (record { turn = turn; takes = takes; does = whole_front did.done }), none);
    }
      where
        whole_front : {d left : DeskState} {next : Next} {s t : Progress} {frames : List (List ℕ)} → Does Steps d next s frames left t → DoesFront Steps d next s t
        whole_front (sent d frames s) = stops d (Send frames) s
        whole_front (asked_on d q r s between behind frames left step more) = steps_on d q r s between behind step (whole_front more)
    message_unsent turn frames Ended takes did none = absurd none
    message_unsent turn frames BadMessage takes did none = absurd none
    message_unsent turn frames FrameTooLong takes did none = absurd none

    -- its frames were handed on, and sent or not
    pub message_answered : {F : Type 0} (turn : Turn) (r : Result (List (List ℕ)) F) (frames given : List (List ℕ)) (sent_all : Result E SessionEnd) → taken d payload ≡ Some turn → r ≡ Ok frames
        → HasDone told rules list counts s w turn.desk turn.next left r → given ≡ frames → OnOk sent_all (Appends before after (concat given))
        → IfErr sent_all (λ end. IsNotSent end before after (concat given)) → Result_is sent_all
    message_answered {F = F} turn r frames given (Ok ok) takes is all same whole part =
        message_sent {F = F} turn frames ok takes (subst (λ (x : Result (List (List ℕ)) F). HasDone told rules list counts s w turn.desk turn.next left x) is all)
        (subst (λ (fs : List (List ℕ)). Appends before after (concat fs)) same whole)
    message_answered {F = F} turn r frames given (Err end) takes is all same whole part =
        message_unsent {F = F} turn frames end takes (subst (λ (x : Result (List (List ℕ)) F). HasDone told rules list counts s w turn.desk turn.next left x) is all)
        (subst (λ (fs : List (List ℕ)). IsNotSent end before after (concat fs)) same part)
