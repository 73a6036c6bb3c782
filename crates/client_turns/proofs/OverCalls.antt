-- What a call of a connection promises over loads is what it leaves over a carrier, by the ends of the link.
use Rattle.std.proofs.Common.{◌≡◌, ◌≢◌, ◌⊎◌, ◌≤◌, ℕ, Bool, true, Option, Some, None, Result, Ok, Err, refl, sym, ap, subst, ◌∙◌, inl, inr}
use Rattle.std.specs.Prelude.{IfErr, IfOk, MatchOption, OnErr, OnOk, length}
use Rattle.zb_model.specs.declared.refusal.Refusal.{Refusal}
use Rattle.zb_model.specs.declared.refusal.Refusal.TheVariants as refusal
use Rattle.zb_answers.specs.declared.answer.Answer.{Answer}
use Rattle.zb_answers.specs.declared.answer.Answer.TheVariants as answer
use Rattle.zb_script.specs.declared.line.Line.{Line}
use Rattle.zb_script.specs.declared.line.Line.TheVariants as line
use Rattle.zodb_core.specs.declared.reply.Reply.{Reply}
use Rattle.zodb_core.specs.declared.request.Request.{Request}
use Rattle.zodb_core.specs.Machine.{Machine}
use Rattle.connection_view.specs.declared.connection.Connection.{Connection}
use Rattle.connection_view.specs.Works.{Work}
use Rattle.connection_view.specs.Connections.{Between, InView, IsFrontBy, IsNewWork, LeavesWork, begin_refusal, changeable, followed_by, saved, work_of}
use Rattle.connection_view.specs.Loading.{Abort, Finish, IsNothingDone, LoadsCall}
use Rattle.connection_view.specs.ViewLaws.{unopened}
use Rattle.connection_view.specs.Views.{Client, View, committed, renewed, unvoted, view_of}
use Rattle.remote_loads.specs.Causes.{HasLinkCause, IsCallCaused}
use Rattle.zeo_client.specs.Taking.{ClientState}
use Rattle.zeo_desk.specs.Desks.{DeskState}
use Rattle.client_turns.specs.Asking.{delivered_with, is_plain_call, saved_as}
use Rattle.client_turns.specs.Calls as lines
use Rattle.client_turns.specs.OverCarrier.{AbortOver, BeginOver, CalledOver, ChangeOver, DeliverOver, FinishOver, HearsAt, LineOver, LinkAt, MakesAt, MayBeAt, SaveOver, ToldOver, called, heard, link_at, server_there, uncalled, unheard}

-- Over a carrier of which this is known, by what loads over it have: the carrier, and the client at this end.
module _ {S W E : Type 0} (carrier : S → W) (client : S → ClientState) (faults : W → ℕ) (closed : W → Bool) (told : Type 0) (end : W → E) (desk : W → DeskState) (session : W → ℕ) (machine : E → Machine) (steps : ℕ → Request → Reply → E → E → Type 0) (later : W → W → Type 0) where
  abbrev ends : S → LinkAt E
  ends s = link_at (end (carrier s)) (session (carrier s)) (desk (carrier s)) (client s)

  -- a call as such loads make it
  abbrev Calls : S → LoadsCall → S → Type 0
  Calls o call n = IsCallCaused (HasLinkCause (faults (carrier o)) (faults (carrier n)) (closed (carrier n)) (client n).ended) call × ((client o).held.standing.known ≤ (client n).held.standing.known) × later (carrier o) (carrier n) × MakesAt told steps machine (ends o) call (ends n)

  abbrev Here : S → Client → Type 0
  Here s v = MayBeAt told steps machine (ends s) v

  front_by : (a b : S) (result : Result ℕ Refusal) → IsFrontBy Calls a b result → IsFrontBy (MakesAt told steps machine) (ends a) (ends b) result
  front_by a b result is = (is.0, is.1.3, is.2)

  module _ (x y : Connection) (a b : S) where
    kept_at : b ≡ a → ends b ≡ ends a
    kept_at is = ap ends is

    -- what a plain line leaves
    abbrev Made : Line → Answer → Type 0
    Made l reply = lines.Calls Here (λ s v. v.known) Calls (λ s. server_there told steps machine (ends s)) x a l reply y b

    change_called : {T : Type 0} → (f : Work → Result Work Refusal) (said : Result T Refusal → Answer) (reply : Answer) → lines.CallsChange Here (λ s v. v.known) Calls (λ s. server_there told steps machine (ends s)) x a f said reply y b
        → ChangeOver told steps machine x (ends a) f said reply y (ends b)
    change_called f said reply o = record { result = o.result; answer = o.answer; leaves = o.leaves; kept = kept_at o.kept; view = o.view; between = o.between }

    pub plain_called : (l : Line) (reply : Answer) → is_plain_call l ≡ true → Made l reply → CalledOver told steps machine l x (ends a) reply y (ends b)
    unfolding change_called
    plain_called line.Begin reply plain o = record {
      result = o.result;
      answer = o.answer;
      front = o.front;
      begun = o.begun;
      view = o.view;
      stands = o.stands;
      refused = λ r why. let so = o.refused r why in (so.0, kept_at so.1);
      makes = λ free. front_by a b o.result (o.makes free);
      err = o.err;
    }
    plain_called (line.Store oid base bytes) reply plain o = change_called _ _ reply o
    plain_called (line.Check oid serial) reply plain o = change_called _ _ reply o
    plain_called (line.Delete oid base) reply plain o = change_called _ _ reply o
    plain_called line.Savepoint reply plain o = record { change = change_called saved saved_as reply o.change; number = o.number }
    plain_called (line.Rollback number) reply plain o = change_called _ _ reply o
    plain_called line.Finish reply plain o = record {
      result = o.result;
      answer = o.answer;
      ended = o.ended;
      left = o.left;
      refused = λ r why. let so = o.refused r why in (so.0, kept_at so.1);
      makes = λ w works. (o.makes w works).3;
      err = o.err;
      same = o.same;
    }
    plain_called line.Abort reply plain o = record {
      result = o.result;
      answer = o.answer;
      ended = o.ended;
      dropped = o.dropped;
      refused = λ r why. let so = o.refused r why in (so.0, kept_at so.1);
      makes = λ w works. (o.makes w works).3;
      err = o.err;
      same = o.same;
    }
    plain_called _ reply plain o = absurd cc

    pub plain_line : (l : Line) (reply : Answer) → is_plain_call l ≡ true → lines.CallsLine Here (λ s v. v.known) Calls (λ s. server_there told steps machine (ends s)) x a l reply y b → LineOver told steps machine l x (ends a) reply y (ends b)
    plain_line l reply plain (lines.is_unmade answers same kept) = uncalled answers same (kept_at kept)
    plain_line l reply plain (lines.is_made o) = called (plain_called l reply plain o)

    pub told_called : (result : Result ℕ Refusal) → IfOk result (λ front. (v : Client) → Here a v → front ≡ v.known.front) → OnOk result ((u : View) (v : Client) → Here a v → InView x u v → InView y u (renewed v.known v))
        → OnOk result ((v : Client) → Here a v → Between x v → Between y (renewed v.known v)) → OnOk result ((v : Client) → Here a v → Here b (renewed v.known v)) → (work_of x ≡ Err refusal.NotOpen → (result ≡ Err refusal.NotOpen) × (b ≡ a))
        → ((work_of x ≢ Err refusal.NotOpen) → IsFrontBy Calls a b result) → work_of y ≡ work_of x → OnErr result (y ≡ x) → (reply : Answer) → reply ≡ delivered_with result → ToldOver told steps machine x (ends a) reply y (ends b)
    told_called result front view between stands refused make work err reply is = record {
      result = result;
      answer = is;
      front = front;
      view = view;
      between = between;
      stands = stands;
      refused = λ shut. let so = refused shut in (so.0, kept_at so.1);
      makes = λ is_open. front_by a b result (make is_open);
      work = work;
      err = err;
    }

  -- a delivery, of which the sync was refused, or behind which the connection was told
  pub unheard_called : (x : Connection) (a b : S) (result : Result ℕ Refusal) (r : Refusal) → result ≡ Err r → HearsAt told steps machine (ends a) result (ends b) → DeliverOver told steps machine x (ends a) (answer.Refused r) x (ends b)
  unheard_called x a b result r is hears = unheard r (subst (λ (z : Result ℕ Refusal). HearsAt told steps machine (ends a) z (ends b)) is hears) refl refl

  pub heard_called : (x y : Connection) (a m b : S) (result : Result ℕ Refusal) (f : ℕ) → result ≡ Ok f → HearsAt told steps machine (ends a) result (ends m) → session (carrier m) ≡ session (carrier a) → (reply : Answer) → ToldOver told steps machine x (ends m) reply y (ends b)
      → DeliverOver told steps machine x (ends a) reply y (ends b)
  heard_called x y a m b result f is hears number reply o = heard f (ends m) (subst (λ (z : Result ℕ Refusal). HearsAt told steps machine (ends a) z (ends m)) is hears) number o

  -- ---- what holds of the carrier later on

  module _ (at_once : (w : W) → later w w) (a b : S) where
    abbrev Later : Type 0
    Later = later (carrier a) (carrier b)

    pub same_later : b ≡ a → Later
    same_later is = subst (λ (s : S). later (carrier a) (carrier s)) (sym is) (at_once (carrier a))

    -- a call was made, or none, by what is open
    pub call_later : {T : Type 0} → (w : Result Work Refusal) (call : LoadsCall) (result : Result T Refusal) → ((r : Refusal) → w ≡ Err r → (result ≡ Err r) × (b ≡ a)) → ((v : Work) → w ≡ Ok v → Calls a call b) → Later
    call_later w call result refused make = by_work w refl
      where
        by_work : (z : Result Work Refusal) → w ≡ z → Later
        by_work (Err r) is = same_later (refused r is).1
        by_work (Ok v) is = (make v is).2

    pub begin_later : (x : Connection) (result : Result ℕ Refusal) → ((r : Refusal) → begin_refusal (work_of x) ≡ Some r → (result ≡ Err r) × (b ≡ a)) → (begin_refusal (work_of x) ≡ None → IsFrontBy Calls a b result) → Later
    begin_later x result refused make = by_refusal (begin_refusal (work_of x)) refl
      where
        by_refusal : (o : Option Refusal) → begin_refusal (work_of x) ≡ o → Later
        by_refusal (Some r) is = same_later (refused r is).1
        by_refusal None is = (make is).1.2

    pub told_later : (x : Connection) (result : Result ℕ Refusal) → (work_of x ≡ Err refusal.NotOpen → (result ≡ Err refusal.NotOpen) × (b ≡ a)) → ((work_of x ≢ Err refusal.NotOpen) → IsFrontBy Calls a b result) → Later
    told_later x result refused make = by_work (work_of x) refl
      where
        made_so : (work_of x ≢ Err refusal.NotOpen) → Later
        made_so is_open = (make is_open).1.2

        by_refusal : (r : Refusal) → work_of x ≡ Err r → (r ≡ refusal.NotOpen) ⊎ (r ≡ refusal.NoTransaction) → Later
        by_refusal r is (inl e) = same_later (refused (is ∙ ap (λ (z : Refusal). let w : Result Work Refusal = Err z in w) e)).1
        by_refusal r is (inr e) = made_so (λ shut. other (sym shut ∙ is ∙ ap (λ (z : Refusal). let w : Result Work Refusal = Err z in w) e))
          where
            other : (let w : Result Work Refusal = Err refusal.NotOpen in w) ≡ Err refusal.NoTransaction → ⊥
            other e = absurd cc

        by_work : (wr : Result Work Refusal) → work_of x ≡ wr → Later
        by_work (Ok w) is = made_so (λ shut. other (sym is ∙ shut))
          where
            other : (let z : Result Work Refusal = Ok w in z) ≡ Err refusal.NotOpen → ⊥
            other e = absurd cc
        by_work (Err r) is = by_refusal r is (unopened x r is)

    later_of : (x y : Connection) (l : Line) (reply : Answer) → is_plain_call l ≡ true → lines.Calls Here (λ s v. v.known) Calls (λ s. server_there told steps machine (ends s)) x a l reply y b → Later
    later_of x y line.Begin reply plain o = begin_later x o.result o.refused o.makes
    later_of x y (line.Store oid base bytes) reply plain o = same_later o.kept
    later_of x y (line.Check oid serial) reply plain o = same_later o.kept
    later_of x y (line.Delete oid base) reply plain o = same_later o.kept
    later_of x y line.Savepoint reply plain o = same_later o.change.kept
    later_of x y (line.Rollback number) reply plain o = same_later o.kept
    later_of x y line.Finish reply plain o = call_later (work_of x) (Finish o.result) o.result o.refused o.makes
    later_of x y line.Abort reply plain o = call_later (work_of x) (Abort o.result) o.result o.refused o.makes
    later_of x y _ reply plain o = absurd cc

    pub plain_later : (x y : Connection) (l : Line) (reply : Answer) → is_plain_call l ≡ true → lines.CallsLine Here (λ s v. v.known) Calls (λ s. server_there told steps machine (ends s)) x a l reply y b → Later
    plain_later x y l reply plain (lines.is_unmade answers same kept) = same_later kept
    plain_later x y l reply plain (lines.is_made o) = later_of x y l reply plain o

-- ---- any line

pub line_called : {E : Type 0} (told : Type 0) (steps : ℕ → Request → Reply → E → E → Type 0) (machine : E → Machine) (l k : Line) (x y : Connection) (a b : LinkAt E) (reply : Answer) → l ≡ k → CalledOver told steps machine k x a reply y b → LineOver told steps machine l x a reply y b
line_called {E} told steps machine l k x y a b reply is over = called (subst (λ (z : Line). CalledOver told steps machine z x a reply y b) (sym is) over)

pub line_uncalled : {E : Type 0} (told : Type 0) (steps : ℕ → Request → Reply → E → E → Type 0) (machine : E → Machine) (l : Line) (x : Connection) (a : LinkAt E) → LineOver told steps machine l x a (answer.Refused refusal.Memory) x a
line_uncalled {E} told steps machine l x a = uncalled refl refl refl
