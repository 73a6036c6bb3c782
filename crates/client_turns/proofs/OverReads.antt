-- What the reads, votes and undos of a connection promise over loads is what they leave over a carrier, by the ends of the link.
use Rattle.std.proofs.Common.{◌≡◌, ◌⊎◌, ◌≤◌, ℕ, Bool, true, List, [], Option, Some, None, Result, Ok, Err, refl, sym, ap, subst, ◌∙◌, inl, inr}
use Rattle.std.specs.Prelude.{IsOk, OnErr, OnOk}
use Rattle.zb_model.specs.declared.data.Content.TheVariants.{Held}
use Rattle.zb_model.specs.declared.pending.PendingStore.{PendingStore}
use Rattle.zb_model.specs.declared.refusal.Refusal.{Refusal}
use Rattle.zb_model.specs.declared.refusal.Refusal.TheVariants as refusal
use Rattle.zb_answers.specs.declared.answer.Answer.{Answer}
use Rattle.zb_answers.specs.declared.answer.Answer.TheVariants as answer
use Rattle.commit_phases.specs.Pending.{pending_of}
use Rattle.zodb_core.specs.declared.reply.Reply.{Reply}
use Rattle.zodb_core.specs.declared.request.Request.{Request}
use Rattle.zodb_core.specs.Machine.{Machine}
use Rattle.connection_view.specs.declared.connection.Connection.{Connection}
use Rattle.connection_view.specs.Works.{Work}
use Rattle.connection_view.specs.Connections.{Between, InView, IsReadBy, LeavesWork, base_read, changeable, followed_by, stored_all, stored_in_work, unmixed, waiting_read, work_of}
use Rattle.connection_view.specs.Connections as connections
use Rattle.connection_view.specs.Loading.{LoadsCall, Reads, Undo, Vote}
use Rattle.connection_view.specs.Views.{Client, View, each_object, stored_in, voting}
use Rattle.remote_loads.specs.Causes.{HasLinkCause, IsCallCaused}
use Rattle.zeo_client.specs.Taking.{ClientState}
use Rattle.zeo_desk.specs.Desks.{DeskState}
use Rattle.client_turns.specs.Asking.{answered}
use Rattle.client_turns.specs.Lines.{data_of}
use Rattle.client_turns.specs.OverCarrier.{FittingOver, LinkAt, LoadOver, MakesAt, MayBeAt, MayChangeOver, PutOver, UndoOver, VoteOver, fitting, heard_of, link_at, put_read, put_refused, put_unread, server_there}

-- Over a carrier of which this is known, by what loads over it have: the carrier, and the client at this end.
module _ {S W E : Type 0} (carrier : S → W) (client : S → ClientState) (faults : W → ℕ) (closed : W → Bool) (told : Type 0) (end : W → E) (desk : W → DeskState) (session : W → ℕ) (machine : E → Machine) (steps : ℕ → Request → Reply → E → E → Type 0) (later : W → W → Type 0) where
  abbrev ends : S → LinkAt E
  ends s = link_at (end (carrier s)) (session (carrier s)) (desk (carrier s)) (client s)

  -- a call as such loads make it
  abbrev Calls : S → LoadsCall → S → Type 0
  Calls o call n = IsCallCaused (HasLinkCause (faults (carrier o)) (faults (carrier n)) (closed (carrier n)) (client n).ended) call × ((client o).held.standing.known ≤ (client n).held.standing.known) × later (carrier o) (carrier n) × MakesAt told steps machine (ends o) call (ends n)

  abbrev Here : S → Client → Type 0
  Here s v = MayBeAt told steps machine (ends s) v

  read_by : (a b : S) (oid front switches : ℕ) (result : Result (ℕ × List ℕ) Refusal) → IsReadBy Calls a b oid front switches result → IsReadBy (MakesAt told steps machine) (ends a) (ends b) oid front switches result
  read_by a b oid front switches result (inl un) = inl (ap ends un.0, un.1)
  read_by a b oid front switches result (inr made) = inr (made.0, made.1.3, made.2)

  made_by : {T : Type 0} (a b : S) (call : LoadsCall) (result : Result T Refusal) → connections.IsCallMade Calls a b call result → connections.IsCallMade (MakesAt told steps machine) (ends a) (ends b) call result
  made_by a b call result (inl made) = inl made.3
  made_by a b call result (inr none) = inr (ap ends none.0, none.1)

  module _ (x y : Connection) (a b : S) where
    pub load_called : (oid : ℕ) (result : Result (ℕ × List ℕ) Refusal) → ((u : View) (v : Client) → Here a v → InView x u v → Reads u (server_there told steps machine (ends a)) oid result) → ((u : View) (v : Client) → Here a v → InView x u v → InView y u v)
        → ((v : Client) → Between x v → Between y v) → ((v : Client) → Here a v → Here b v) → ((r : Refusal) → work_of x ≡ Err r → (result ≡ Err r) × (b ≡ a)) → ((w : Work) → work_of x ≡ Ok w → IsReadBy Calls a b oid w.front w.switches result) → work_of y ≡ work_of x
        → (fit : Result (ℕ × List ℕ) Refusal) → fit ≡ fitting result → (reply : Answer) → reply ≡ data_of fit → LoadOver told steps machine x (ends a) oid reply y (ends b)
    load_called oid result reads view between stands refused make work fit fits reply is = (
      result,
      is ∙ ap data_of fits,
      record {
        reads = reads;
        view = view;
        between = between;
        stands = stands;
        refused = λ r why. let so = refused r why in (so.0, ap ends so.1);
        makes = λ w works. read_by a b oid w.front w.switches result (make w works);
        work = work;
      },
    )

    pub got_called : (oid : ℕ) (result : Result (ℕ × List ℕ) Refusal) → ((w : Work) (p : PendingStore) → work_of x ≡ Ok w → pending_of w.pending.stores oid ≡ Some p → ((result ≡ waiting_read oid p) ⊎ (result ≡ Err refusal.Memory)) × (b ≡ a))
        → ((w : Work) → work_of x ≡ Ok w → pending_of w.pending.stores oid ≡ None → (u : View) (v : Client) → Here a v → InView x u v → Reads u (server_there told steps machine (ends a)) oid result) → ((u : View) (v : Client) → Here a v → InView x u v → InView y u v)
        → ((v : Client) → Between x v → Between y v) → ((v : Client) → Here a v → Here b v) → ((r : Refusal) → work_of x ≡ Err r → (result ≡ Err r) × (b ≡ a))
        → ((w : Work) → work_of x ≡ Ok w → pending_of w.pending.stores oid ≡ None → IsReadBy Calls a b oid w.front w.switches result) → work_of y ≡ work_of x
        → (fit : Result (ℕ × List ℕ) Refusal) → fit ≡ fitting result → FittingOver told steps machine x (ends a) oid fit y (ends b)
    got_called oid result waiting reads view between stands refused make work fit fits = (
      result,
      fits,
      record {
        waiting = λ w p works is. let so = waiting w p works is in (so.0, ap ends so.1);
        reads = reads;
        view = view;
        between = between;
        stands = stands;
        refused = λ r why. let so = refused r why in (so.0, ap ends so.1);
        makes = λ w works is. read_by a b oid w.front w.switches result (make w works is);
        work = work;
      },
    )

    pub vote_called : (user description : List ℕ) (result : Result (Unit {0}) Refusal) → OnOk result ((w : Work) → work_of x ≡ Ok w → work_of y ≡ Ok (record w { is_voted = true })) → OnErr result (work_of y ≡ work_of x)
        → ((u : View) (v : Client) (w : Work) → work_of x ≡ Ok w → Here a v → InView x u v → (now : Client) × (Here b now) × (InView y u now) × ((now ≡ v) ⊎ (now ≡ voting (stored_in w.pending.stores) v)))
        → ((r : Refusal) → changeable (work_of x) ≡ Err r → (result ≡ Err r) × (b ≡ a) × (y ≡ x)) → ((w : Work) → changeable (work_of x) ≡ Ok w → connections.IsCallMade Calls a b (Vote user description w.pending.stores w.pending.checks result) result)
        → (heard : Result (Unit {0}) Refusal) → heard ≡ heard_of result → (reply : Answer) → reply ≡ answered heard answer.Voted → VoteOver told steps machine x (ends a) user description reply y (ends b)
    vote_called user description result voted err view refused make heard hears reply is = record {
      result = result;
      answer = is ∙ ap (λ (z : Result (Unit {0}) Refusal). answered z answer.Voted) hears;
      voted = voted;
      err = err;
      view = view;
      refused = λ r why. let so = refused r why in (so.0, ap ends so.1, so.2);
      makes = λ w works. made_by a b (Vote user description w.pending.stores w.pending.checks result) result (make w works);
    }

    pub undo_called : (user description tids : List ℕ) (result : Result (Unit {0}) Refusal)
        → OnOk result ((w : Work) → work_of x ≡ Ok w → work_of y ≡ Ok (record w { is_voted = true })) → OnErr result (work_of y ≡ work_of x)
        → ((u : View) (v : Client) → IsOk (followed_by (changeable (work_of x)) unmixed) → Here a v → InView x u v → (Here b (voting each_object v)) × (InView y u (voting each_object v)))
        → ((r : Refusal) → followed_by (changeable (work_of x)) unmixed ≡ Err r → (result ≡ Err r) × (b ≡ a) × (y ≡ x)) → (IsOk (followed_by (changeable (work_of x)) unmixed) → Calls a (Undo user description tids result) b)
        → (heard : Result (Unit {0}) Refusal) → heard ≡ heard_of result → (reply : Answer) → reply ≡ answered heard answer.Voted → UndoOver told steps machine x (ends a) user description tids reply y (ends b)
    undo_called user description tids result voted err view refused make heard hears reply is = record {
      result = result;
      answer = is ∙ ap (λ (z : Result (Unit {0}) Refusal). answered z answer.Voted) hears;
      voted = voted;
      err = err;
      view = view;
      refused = λ r why. let so = refused r why in (so.0, ap ends so.1, so.2);
      makes = λ goes. (make goes).3;
    }

  -- ---- puts

  pub may_called : (x k : Connection) (a : S) (stores : List PendingStore) (result : Result (Unit {0}) Refusal) → stores ≡ [] → LeavesWork (followed_by (changeable (work_of x)) (stored_all stores)) (work_of x) (work_of k) result
      → ((u : View) (v : Client) → InView x u v → InView k u v) → ((v : Client) → Between x v → Between k v) → MayChangeOver told steps machine x (ends a) result k
  may_called x k a stores result none leaves view between =
      record { leaves = subst (λ (z : List PendingStore). LeavesWork (followed_by (changeable (work_of x)) (stored_all z)) (work_of x) (work_of k) result) none leaves; view = view; between = between }

  pub put_refused_called : (x k : Connection) (a : S) (oid : ℕ) (bytes : List ℕ) (r : Refusal) → MayChangeOver told steps machine x (ends a) (let e : Result (Unit {0}) Refusal = Err r in e) k → PutOver told steps machine x (ends a) oid bytes (answer.Refused r) k (ends a)
  put_refused_called x k a oid bytes r may = put_refused r may refl refl

  pub put_unread_called : (x k y : Connection) (a b : S) (oid : ℕ) (bytes : List ℕ) (result : Result (ℕ × List ℕ) Refusal) (based : Result ℕ Refusal) (r : Refusal) → MayChangeOver told steps machine x (ends a) (let e : Result (Unit {0}) Refusal = Ok tt in e) k
      → FittingOver told steps machine k (ends a) oid result y (ends b) → based ≡ base_read result → based ≡ Err r → PutOver told steps machine x (ends a) oid bytes (answer.Refused r) y (ends b)
  put_unread_called x k y a b oid bytes result based r may got reads is = put_unread k result r may got (sym reads ∙ is) refl

  pub put_read_called : (x k j y : Connection) (a b n : S) (oid : ℕ) (bytes : List ℕ) (result : Result (ℕ × List ℕ) Refusal) (based : Result ℕ Refusal) (base : ℕ) → MayChangeOver told steps machine x (ends a) (let e : Result (Unit {0}) Refusal = Ok tt in e) k
      → FittingOver told steps machine k (ends a) oid result j (ends b) → based ≡ base_read result → based ≡ Ok base → (done : Result (Unit {0}) Refusal) → LeavesWork (followed_by (changeable (work_of j)) (stored_in_work (record { oid = oid; base = base; content = Held bytes }))) (work_of j) (work_of y) done
      → ((u : View) (v : Client) → InView j u v → InView y u v) → ((v : Client) → Between j v → Between y v) → n ≡ b → (reply : Answer) → reply ≡ answered done answer.Stored → PutOver told steps machine x (ends a) oid bytes reply y (ends n)
  put_read_called x k j y a b n oid bytes result based base may got reads is done leaves view between kept reply answers =
      subst (λ (s : S). PutOver told steps machine x (ends a) oid bytes reply y (ends s)) (sym kept)
      (put_read k result base j may got (sym reads ∙ is) (record { result = done; answer = answers; leaves = leaves; kept = refl; view = view; between = between }))

  -- ---- what holds of the carrier later on

  module _ (at_once : (w : W) → later w w) (a b : S) where
    abbrev Later : Type 0
    Later = later (carrier a) (carrier b)

    stays : b ≡ a → Later
    stays is = subst (λ (s : S). later (carrier a) (carrier s)) (sym is) (at_once (carrier a))

    read_so : (oid front switches : ℕ) (result : Result (ℕ × List ℕ) Refusal) → IsReadBy Calls a b oid front switches result → Later
    read_so oid front switches result (inl un) = stays un.0
    read_so oid front switches result (inr made) = made.1.2

    made_so : {T : Type 0} (call : LoadsCall) (result : Result T Refusal) → connections.IsCallMade Calls a b call result → Later
    made_so call result (inl made) = made.2
    made_so call result (inr none) = stays none.0

    pub load_later : (work : Result Work Refusal) (oid : ℕ) (result : Result (ℕ × List ℕ) Refusal) → ((r : Refusal) → work ≡ Err r → (result ≡ Err r) × (b ≡ a)) → ((w : Work) → work ≡ Ok w → IsReadBy Calls a b oid w.front w.switches result) → Later
    load_later work oid result refused make = by_work work refl
      where
        by_work : (z : Result Work Refusal) → work ≡ z → Later
        by_work (Err r) is = stays (refused r is).1
        by_work (Ok w) is = read_so oid w.front w.switches result (make w is)

    pub got_later : (work : Result Work Refusal) (oid : ℕ) (result : Result (ℕ × List ℕ) Refusal) → ((w : Work) (p : PendingStore) → work ≡ Ok w → pending_of w.pending.stores oid ≡ Some p → ((result ≡ waiting_read oid p) ⊎ (result ≡ Err refusal.Memory)) × (b ≡ a))
        → ((r : Refusal) → work ≡ Err r → (result ≡ Err r) × (b ≡ a)) → ((w : Work) → work ≡ Ok w → pending_of w.pending.stores oid ≡ None → IsReadBy Calls a b oid w.front w.switches result) → Later
    got_later work oid result waiting refused make = by_work work refl
      where
        by_pending : (w : Work) → work ≡ Ok w → (p : Option PendingStore) → pending_of w.pending.stores oid ≡ p → Later
        by_pending w works (Some p) is = stays (waiting w p works is).1
        by_pending w works None is = read_so oid w.front w.switches result (make w works is)

        by_work : (z : Result Work Refusal) → work ≡ z → Later
        by_work (Err r) is = stays (refused r is).1
        by_work (Ok w) is = by_pending w is (pending_of w.pending.stores oid) refl

    pub vote_later : (x y : Connection) (user description : List ℕ) (result : Result (Unit {0}) Refusal) (work : Result Work Refusal) → ((r : Refusal) → work ≡ Err r → (result ≡ Err r) × (b ≡ a) × (y ≡ x))
        → ((w : Work) → work ≡ Ok w → connections.IsCallMade Calls a b (Vote user description w.pending.stores w.pending.checks result) result) → Later
    vote_later x y user description result work refused make = by_work work refl
      where
        by_work : (z : Result Work Refusal) → work ≡ z → Later
        by_work (Err r) is = stays (refused r is).1
        by_work (Ok w) is = made_so (Vote user description w.pending.stores w.pending.checks result) result (make w is)

    pub undo_later : (x y : Connection) (user description tids : List ℕ) (result : Result (Unit {0}) Refusal) (work : Result Work Refusal) → ((r : Refusal) → work ≡ Err r → (result ≡ Err r) × (b ≡ a) × (y ≡ x)) → (IsOk work → Calls a (Undo user description tids result) b) → Later
    undo_later x y user description tids result work refused make = by_work work refl
      where
        by_work : (z : Result Work Refusal) → work ≡ z → Later
        by_work (Err r) is = stays (refused r is).1
        by_work (Ok w) is = (make (subst IsOk (sym is) refl)).2
