-- What a session asked, up to its end.
use Rattle.std.proofs.Common.{◌≡◌, ℕ, List, [], ◌∷◌, ◌++◌, Option, sym, refl, subst, inl, inr, ◌⊎◌}
use mathlib.Core.List.{IsPrefix}
use Rattle.zb_model.specs.declared.data.Transaction.{Transaction}
use Rattle.zodb_core.specs.declared.reply.Reply.{Reply}
use Rattle.zodb_core.specs.declared.request.Request.{Request}
use Rattle.zodb_core.specs.declared.request.Request.TheVariants as request
use Rattle.zodb_core.specs.History.{IsLegalOver}
use Rattle.zodb_core.specs.Machine.{Rules}
use Rattle.zodb_core.specs.Outcomes.{FaultCounts}
use Rattle.zeo_desk.specs.declared.next.Next.{Next}
use Rattle.zeo_desk.specs.Desks.{DeskState, new_desk}
use Rattle.hub_shared.specs.Calls.{HasCalled, IsNotBusy}
use Rattle.hub_shared.specs.Seats.{Known}
use Rattle.zeo_session.specs.declared.ending.SessionEnd.{SessionEnd}
use Rattle.zeo_session.specs.declared.ending.SessionEnd.TheVariants.{Ended, LinkFault, BadMessage, FrameTooLong, Memory}
use Rattle.zeo_session.specs.Served.{Asking, Asks, Does, DoesFront, HasServed, IsBegun, IsCutShort, IsEndedBehind, IsEndedBy, IsSessionOver, Progress, Serves, asked_on, done, goes_on, sent, started, steps_on, stops}
use Rattle.zeo_session.proofs.Asked.{Follows, follows_more, follows_seen, follows_start}

module _ (told : Type 0) (rules : Rules) (list : List Transaction) (counts : FaultCounts) (start : Known) where
  abbrev Steps : Request → Reply → Progress → Progress → Type 0
  Steps = Asks told rules list counts

  -- what was asked so far stands in the history
  abbrev Stands : Progress → Type 0
  Stands s = Follows told start s.asked s.known

  step_follows : (q : Request) (r : Reply) (s t : Progress) → Stands s → Steps q r s t → Stands t
  step_follows q r s t f a = subst (λ (which : List Asking). Follows told start which t.known) (sym a.asked) (follows_more told rules list counts start s.asked q r s.known t.known f a.called)

  does_follow : (d : DeskState) (next : Next) (s : Progress) (frames : List (List ℕ)) (left : DeskState) (t : Progress) → Stands s → Does Steps d next s frames left t → Stands t
  does_follow _ _ _ _ _ _ f (sent d frames s) = f
  does_follow _ _ _ _ _ _ f (asked_on d q r s between behind frames left step more) = does_follow _ _ between frames left behind (step_follows q r s between f step) more

  front_follows : (d : DeskState) (next : Next) (s t : Progress) → Stands s → DoesFront Steps d next s t → Stands t
  front_follows _ _ _ _ f (stops d next s) = f
  front_follows _ _ _ _ f (steps_on d q r s between behind step more) = front_follows _ _ between behind (step_follows q r s between f step) more

  serves_follow : (d : DeskState) (payloads : List (List ℕ)) (s : Progress) (frames : List (List ℕ)) (left : DeskState) (t : Progress) → Stands s → Serves Steps d payloads s frames left t → Stands t
  serves_follow _ _ _ _ _ _ f (done d s) = f
  serves_follow _ _ _ _ _ _ f (goes_on d between left payload rest turn s middle behind frames more takes does again) =
      serves_follow between rest middle more left behind (does_follow turn.desk turn.next s frames between middle f does) again

  begun_follows : (d : DeskState) (payload : List ℕ) (s t : Progress) → Stands s → (t ≡ s) ⊎ IsBegun Steps d payload s t → Stands t
  begun_follows d payload s t f (inl same) = subst Stands (sym same) f
  begun_follows d payload s t f (inr begun) = front_follows begun.turn.desk begun.turn.next s t f begun.does

  short_follows : (end : SessionEnd) (d : DeskState) (payload : List ℕ) (s t : Progress) (before after : Option (List ℕ)) → Stands s → IsCutShort Steps d payload s t before after end → Stands t
  short_follows BadMessage d payload s t before after f short = subst Stands (sym short.1) f
  short_follows Memory d payload s t before after f short = begun_follows d payload s t f short.0
  short_follows LinkFault d payload s t before after f short = does_follow short.served.turn.desk short.served.turn.next s short.frames short.left t f short.served.does
  short_follows Ended d payload s t before after f short = absurd short
  short_follows FrameTooLong d payload s t before after f short = absurd short

  all_follow : (end : SessionEnd) (s t : Progress) (unread left before after : Option (List ℕ)) → Stands s → HasServed Steps end s t unread left before after → Stands t
  all_follow end s t unread left before after f all = by_end all.ends
    where
      here : Stands all.between
      here = serves_follow new_desk all.payloads s all.frames all.desk all.between f all.serves

      by_end : IsEndedBehind end all.rest left all.between t all.middle after ⊎ IsEndedBy Steps end all.desk all.rest all.between t all.middle after → Stands t
      by_end (inl ended) = subst Stands (sym ended.same) here
      by_end (inr ended) = short_follows end all.desk ended.payload all.between t all.middle after here ended.short

module _ (told : Type 0) (rules : Rules) (list : List Transaction) (counts : FaultCounts) (end : SessionEnd) (v middle w : Known) (unread left before after : Option (List ℕ)) (t : Progress) (r : Reply) where
  served_stands : HasServed (Asks told rules list counts) end (started v) t unread left before after → Follows told v t.asked t.known
  served_stands served = all_follow told rules list counts v end (started v) t unread left before after (follows_start told v) served

  -- a session that has served its link was closed
  pub session_over : HasServed (Asks told rules list counts) end (started v) t unread left before after → t.known ≡ middle → HasCalled told rules list counts request.Close r middle w
      → (told → IsNotBusy request.Close r) → IsSessionOver told rules list counts end v w unread left before after
  session_over served knows called free =
      let last : HasCalled told rules list counts request.Close r t.known w = subst (λ (k : Known). HasCalled told rules list counts request.Close r k w) (sym knows) called in
      record {
        behind = t;
        served = served;
        reply = r;
        closed = record { known = w; asked = t.asked ++ record { request = request.Close; reply = r } ∷ [] };
        closes = record { called = last; free = free; asked = refl };
        knows = refl;
        history = follows_seen told rules list counts v t.asked request.Close r t.known w (served_stands served) last;
      }

  pub session_follows : HasServed (Asks told rules list counts) end (started v) t unread left before after → t.known ≡ middle → HasCalled told rules list counts request.Close r middle w
      → (w.session ≡ v.session) × IsPrefix v.seen w.seen × (told → IsLegalOver rules list counts w.seen)
  session_follows served knows called =
      let last : HasCalled told rules list counts request.Close r t.known w = subst (λ (k : Known). HasCalled told rules list counts request.Close r k w) (sym knows) called in
      let f = follows_more told rules list counts v t.asked request.Close r t.known w (served_stands served) last in
      (f.session_is, f.begins, called.legal)
