-- What a client's connection reads over the hub.
use Rattle.std.proofs.Common.{Bool, Err, List, None, Ok, Option, Result, Some, ap, arith, false, inl, inr, refl, subst, sym, true, ℕ, ◌∙◌, ◌≡◌, ◌⊎◌}
use Rattle.std.specs.Option.{option_map}
use Rattle.zb_ids.specs.declared.stamp.Stamp.{Stamp}
use Rattle.zb_model.specs.declared.data.Transaction.{Transaction}
use Rattle.zb_model.specs.declared.pending.PendingStore.{PendingStore}
use Rattle.zb_model.specs.declared.refusal.Refusal.{Refusal}
use Rattle.zb_model.specs.declared.refusal.Refusal.TheVariants as refusal
use Rattle.zb_model.specs.Rules.{MergeRules}
use Rattle.zb_answers.specs.declared.answer.Answer.{Answer}
use Rattle.zb_script.specs.declared.line.Line.TheVariants as line
use Rattle.commit_phases.specs.Pending.{pending_of}
use Rattle.zodb_core.specs.declared.request.Request.TheVariants as request
use Rattle.zodb_core.specs.HubState.{HubState, StandsForMachine, counts_of, rules_of}
use Rattle.zodb_core.specs.Machine.{Rules, is_open_in}
use Rattle.zodb_core.specs.Sound.{IsPackWithin}
use Rattle.connection_view.specs.declared.connection.Connection.{Connection}
use Rattle.connection_view.specs.declared.loads.Loaded.{Loaded}
use Rattle.connection_view.specs.Works.{Work}
use Rattle.connection_view.specs.Connections.{Between, InView, IsReadAnswered, IsReadBy, IsUnasked, work_of, waiting_read}
use Rattle.connection_view.specs.Loading.{Load, LoadsCall, Reads}
use Rattle.connection_view.specs.ViewLaws.{IsSeenFrom, later_later, seen_from}
use Rattle.connection_view.specs.Views.{Later, Server, View, view_of}
use Rattle.connection_view.specs.Views as views
use Rattle.local_loads.specs.Answers.{load_answer}
use Rattle.local_loads.specs.Local as local
use Rattle.local_loads.specs.Local.{LocalState, MayBeTold}
use Rattle.local_loads.specs.LocalLaws.{view_whole}
use Rattle.local_loads.specs.Making.{IsHubStep, IsLocalCall, IsOneStep}
use Rattle.client_turns.specs.declared.client.Client.{Client}
use Rattle.client_turns.specs.Asking.{IsSameBut}
use Rattle.client_turns.specs.Clients.{Changes, Moment, OpenTransaction}
use Rattle.client_turns.specs.Clients as seen
use Rattle.client_turns.specs.Lines.{data_of, object_of, request_of}
use Rattle.client_turns.specs.Refusing.{line_refusal}
use Rattle.client_turns.specs.Standing.{IsClientOf, IsGotAs, IsGotWhere, IsLineOpen, IsOpenAs, IsWorkOf, MayTakeAt, OneLeadsTo}
use Rattle.client_turns.specs.Steps.{IsReadAt, IsStepAt}
use Rattle.client_turns.specs.Turns.{IsGet}
use Rattle.client_turns.specs.Views.{server_of}
use Rattle.client_turns.proofs.Hubs.{open_whole}
use Rattle.client_turns.proofs.Loading.{load_reads}
use Rattle.client_turns.specs.Others.{KeepsOthers}
use Rattle.client_turns.proofs.Others.{others_same, others_step}
use Rattle.client_turns.proofs.One.{keeps_at, StepsTo, client_kept, own_open, refused_open, set_there, starved_open, stays, steps_to, weaken_one, within_on, writes_on}
use Rattle.client_turns.specs.Reads.{EndsReading}

-- what there is at a client's end
abbrev pub end_of_client : {R F : Type 0} → HubState R F → Option (List Stamp) → Client → LocalState R F
end_of_client hub stamps x = record { hub = hub; stamps = stamps; last = x.told }

-- a client that may be at this end
abbrev pub MayStand : {R F : Type 0} → Type 0 → HubState R F → Client → views.Client → Type 0
MayStand told hub x v = told × MayBeTold x.told hub v.told v.known

-- ---- the transaction that is read in

same_open : {a b : OpenTransaction} → Some a ≡ Some b → a ≡ b
same_open e = cc

-- a transaction that is open as this one
pub record IsOpened (k : Connection) (told : views.Client) (w : Work) (c : seen.Client) : Type 0 where
  pub transaction : OpenTransaction
  pub begun : c.transaction ≡ Some transaction
  pub is : IsWorkOf k told w transaction

pub opened_of : (k : Connection) (told : views.Client) (wr : Result Work Refusal) (w : Work) (c : seen.Client) → IsOpenAs k told wr c.transaction → wr ≡ Ok w → IsOpened k told w c
opened_of k told wr w c is works = by_open c.transaction refl (subst (λ (x : Result Work Refusal). IsOpenAs k told x c.transaction) works is)
  where
    by_open : (o : Option OpenTransaction) → c.transaction ≡ o → IsOpenAs k told (Ok w) o → IsOpened k told w c
    by_open None begun is = absurd is
    by_open (Some t) begun is = record { transaction = t; begun = begun; is = is }

-- that none is open
pub none_of : (k : Connection) (told : views.Client) (wr : Result Work Refusal) (r : Refusal) (c : seen.Client) → IsOpenAs k told wr c.transaction → wr ≡ Err r → (r ≡ refusal.NoTransaction) × (c.transaction ≡ None) × Between k told
none_of k told wr r c is works = by_open c.transaction refl (subst (λ (x : Result Work Refusal). IsOpenAs k told x c.transaction) works is)
  where
    by_open : (o : Option OpenTransaction) → c.transaction ≡ o → IsOpenAs k told (Err r) o → (r ≡ refusal.NoTransaction) × (c.transaction ≡ None) × Between k told
    by_open None begun is = (is.0, begun, is.1)
    by_open (Some t) begun is = absurd is

-- ---- a read

cached_read : (m : Moment) (t : OpenTransaction) (s : Server) (oid : ℕ) (result : Result (ℕ × List ℕ) Refusal) → t.framed ≡ false → IsUnasked result → Reads t.view s oid result → IsReadAt m t oid result m
cached_read m t s oid (Ok d) near un reads =
    record { later = record { reads = omega arith; others = omega arith }; ends = subst (λ (far : Bool). EndsReading far m.machine t.view oid m.counts m.counts (Ok d)) (sym near) reads; counts = refl; rest = refl }
cached_read m t s oid (Err r) near un reads =
    subst (λ (w : Refusal). IsReadAt m t oid (Err w) m) (sym un)
    (record { later = record { reads = omega arith; others = omega arith }; ends = subst (λ (far : Bool). EndsReading far m.machine t.view oid m.counts m.counts (Err refusal.Memory)) (sym near) refl; counts = refl; rest = refl })

-- a read, and what there is behind it, but for the client
pub record ReadsTo {R F : Type 0} (t : OpenTransaction) (oid : ℕ) (result : Result (ℕ × List ℕ) Refusal) (m : Moment) (h g : HubState R F) (x y : Client) (after : Option (List Stamp)) : Type 0 where
  pub now : Moment
  pub read : IsReadAt m t oid result now
  pub hub : StandsForMachine g now.machine
  pub vote : local.WritesLater now.machine.list now.machine.vote
  pub within : IsPackWithin now.machine.list now.machine.pack
  pub counts : now.counts ≡ counts_of g.store
  pub stamps : now.stamps ≡ after
  pub last : y.told ≡ x.told
  pub others : KeepsOthers x.session h g

module _ {R F S : Type 0} (told lasts : Type 0) (stands : List ℕ → List Transaction → Type 0) (rules_in : R → MergeRules) (named_in : F → List ℕ → Option (List ℕ)) (tells : told) (m : Moment) (at : ℕ) (x y : Client) (c : seen.Client) (h g : HubState R F) (before after : Option (List Stamp)) (takes : MayTakeAt h before m at x c) (makes : S → LoadsCall → S → Type 0) (a b : S) (calls : (call : LoadsCall) → makes a call b → IsLocalCall (IsHubStep told lasts stands rules_in named_in x.session) call (end_of_client h before x) (end_of_client g after y)) (same : b ≡ a → end_of_client g after y ≡ end_of_client h before x) (name : y.name ≡ x.name) (session : y.session ≡ x.session) where
  abbrev pub mine : IsClientOf h x c
  mine = takes.stands.client

  abbrev pub may : MayStand told h x mine.told
  may = (tells, mine.may)

  pub whole : h.store.broken ≡ false
  whole = open_whole h m.machine c.session takes.stands.hub takes.may

  pub session_open : is_open_in m.machine.sessions x.session ≡ true
  session_open = ap (λ (n : ℕ). is_open_in m.machine.sessions n) (sym mine.session) ∙ takes.may

  -- the list came of the view of the open transaction
  pub later_now : (u : View) (w : Work) → InView x.connection u mine.told → work_of x.connection ≡ Ok w → Later u (view_of (server_of m.machine))
  later_now u w view works =
      let from : IsSeenFrom w u mine.told = seen_from x.connection u mine.told w view works in
      later_later u mine.told.told (view_of (server_of m.machine)) from.later (subst (Later mine.told.told) (view_whole h m.machine takes.stands.hub whole) mine.may.later)

  pub same_hub : b ≡ a → g ≡ h
  same_hub is = ap (λ (l : LocalState R F). l.hub) (same is)

  pub same_stamps : b ≡ a → after ≡ before
  same_stamps is = ap (λ (l : LocalState R F). l.stamps) (same is)

  pub same_told : b ≡ a → y.told ≡ x.told
  same_told is = ap (λ (l : LocalState R F). l.last) (same is)

  pub same_but : y.told ≡ x.told → IsSameBut x y
  same_but last = record { name = name; session = session; told = last }

  -- the client, with nothing done
  pub kept_same : b ≡ a → work_of y.connection ≡ work_of x.connection → ((u : View) → InView x.connection u mine.told → InView y.connection u mine.told) → (Between x.connection mine.told → Between y.connection mine.told) → IsClientOf h y c
  kept_same is work view between = client_kept h h x y c mine (same_but (same_told is)) mine.may work view between

  -- a read in an open transaction
  pub read_to : (oid : ℕ) (result : Result (ℕ × List ℕ) Refusal) (w : Work) → work_of x.connection ≡ Ok w → (o : IsOpened x.connection mine.told w c)
      → Reads o.transaction.view (local.server_of h) oid result → IsReadBy makes a b oid w.front w.switches result → ReadsTo o.transaction oid result m h g x y after
  read_to oid result w works o reads (inl unasked) =
      subst (λ (z : HubState R F). ReadsTo o.transaction oid result m h z x y after) (sym (same_hub unasked.0)) (record {
        now = m;
        read = cached_read m o.transaction (local.server_of h) oid result o.is.near unasked.1 reads;
        hub = takes.stands.hub;
        vote = takes.stands.vote;
        within = takes.stands.within;
        counts = takes.stands.counts;
        stamps = takes.stands.stamps ∙ sym (same_stamps unasked.0);
        last = same_told unasked.0;
        others = others_same x.session h;
      })
  read_to oid result w works o reads (inr loaded) =
      let v : View = o.transaction.view in
      let from : IsSeenFrom w v mine.told = seen_from x.connection v mine.told w o.is.view works in
      let made : IsOneStep (IsHubStep told lasts stands rules_in named_in x.session) (request.LoadBefore oid w.front) load_answer (end_of_client h before x) (end_of_client g after y) loaded.0 = calls (Load oid w.front loaded.0) loaded.1 in
      let s : StepsTo (rules_of rules_in named_in h) m x.session (request.LoadBefore oid w.front) made.reply g after =
      steps_to told lasts stands rules_in named_in tells m x.session (request.LoadBefore oid w.front) made.reply h g before after made.step takes.stands.hub takes.stands.counts takes.stands.stamps in
      record {
        now = s.now;
        read = load_reads (rules_of rules_in named_in h) m x.session oid o.transaction made.reply result s.now o.is.near (later_now v w o.is.view works) session_open
            (subst (λ (f : ℕ). IsStepAt (rules_of rules_in named_in h) m x.session (request.LoadBefore oid f) made.reply s.now) from.front s.holds)
            (subst (λ (k : ℕ). IsReadAnswered oid k (load_answer made.reply) result) from.switches (subst (λ (z : Result Loaded Refusal). IsReadAnswered oid w.switches z result) made.answer loaded.2));
        hub = s.hub;
        vote = writes_on _ m x.session (request.LoadBefore oid w.front) made.reply s.now s.holds takes.stands.vote;
        within = within_on _ m x.session (request.LoadBefore oid w.front) made.reply s.now s.holds takes.stands.vote takes.stands.within;
        counts = s.counts;
        stamps = s.stamps;
        last = made.last;
        others = others_step told lasts stands rules_in named_in tells x.session (request.LoadBefore oid w.front) made.reply h g before after made.step tt;
      }

  pub read_one : (oid : ℕ) (result : Result (ℕ × List ℕ) Refusal) (v : OpenTransaction) → ReadsTo v oid result m h g x y after
      → work_of y.connection ≡ work_of x.connection → ((u : View) → InView x.connection u mine.told → InView y.connection u mine.told) → (Between x.connection mine.told → Between y.connection mine.told)
      → OneLeadsTo (IsReadAt m v oid result) m at h g y after
  read_one oid result v r work view between = record {
    now = r.now;
    holds = r.read;
    client = c;
    placed = ap (λ (z : Moment). z.clients) r.read.rest ∙ set_there m.clients at c takes.there;
    stands = record { hub = r.hub; vote = r.vote; within = r.within; counts = r.counts; stamps = r.stamps; client = client_kept h g x y c mine (same_but r.last) (r.others.near x.told mine.told.told mine.told.known mine.may) work view between };
    others = keeps_at m at x.session c h g takes.there (sym mine.session) r.others;
  }

  -- `load`
  pub load_leads : (oid : ℕ) (result : Result (ℕ × List ℕ) Refusal) → ((u : View) (v : views.Client) → MayStand told h x v → InView x.connection u v → Reads u (local.server_of h) oid result)
      → ((r : Refusal) → work_of x.connection ≡ Err r → (result ≡ Err r) × (b ≡ a)) → ((w : Work) → work_of x.connection ≡ Ok w → IsReadBy makes a b oid w.front w.switches result)
      → work_of y.connection ≡ work_of x.connection → ((u : View) (v : views.Client) → MayStand told h x v → InView x.connection u v → InView y.connection u v) → ((v : views.Client) → Between x.connection v → Between y.connection v)
      → (reply : Answer) → reply ≡ data_of result → OneLeadsTo (IsLineOpen (rules_of rules_in named_in h) m at c (line.Load oid) reply) m at h g y after
  load_leads oid result reads refused made work view between reply answers = by_work (work_of x.connection) refl
    where
      by_work : (wr : Result Work Refusal) → work_of x.connection ≡ wr → OneLeadsTo (IsLineOpen (rules_of rules_in named_in h) m at c (line.Load oid) reply) m at h g y after
      by_work (Err r) works =
          let none = none_of x.connection mine.told (work_of x.connection) r c mine.transaction works in
          let said = refused r works in
          stays _ m at h g x y c before after takes (same_hub said.1) (same_stamps said.1) (kept_same said.1 work (λ u. view u mine.told may) (between mine.told))
          (refused_open (rules_of rules_in named_in h) m at c (line.Load oid) reply m refusal.NoTransaction (ap (λ (o : Option OpenTransaction). line_refusal (option_map (λ (t : OpenTransaction). t.changes) o) (line.Load oid)) none.1)
          (answers ∙ ap data_of (said.0 ∙ ap (λ (z : Refusal). Err z) none.0)) refl)
      by_work (Ok w) works =
          let o : IsOpened x.connection mine.told w c = opened_of x.connection mine.told (work_of x.connection) w c mine.transaction works in
          weaken_one (read_one oid result o.transaction (read_to oid result w works o (reads o.transaction.view mine.told may o.is.view) (made w works)) work (λ u. view u mine.told may) (between mine.told))
          (λ now read. own_open (rules_of rules_in named_in h) m at c (line.Load oid) reply now o.transaction o.begun (ap (λ (z : Option OpenTransaction). line_refusal (option_map (λ (t : OpenTransaction). t.changes) z) (line.Load oid)) o.begun) (ap (λ (z : Option OpenTransaction). request_of c.standing (option_map (λ (t : OpenTransaction). t.changes) z) (line.Load oid)) o.begun) (result, read, answers))

  -- what a transaction has of an object
  pub get_leads : (oid : ℕ) (result : Result (ℕ × List ℕ) Refusal) → ((w : Work) (p : PendingStore) → work_of x.connection ≡ Ok w → pending_of w.pending.stores oid ≡ Some p → ((result ≡ waiting_read oid p) ⊎ (result ≡ Err refusal.Memory)) × (b ≡ a))
      → ((w : Work) → work_of x.connection ≡ Ok w → pending_of w.pending.stores oid ≡ None → (u : View) (v : views.Client) → MayStand told h x v → InView x.connection u v → Reads u (local.server_of h) oid result)
      → ((r : Refusal) → work_of x.connection ≡ Err r → (result ≡ Err r) × (b ≡ a)) → ((w : Work) → work_of x.connection ≡ Ok w → pending_of w.pending.stores oid ≡ None → IsReadBy makes a b oid w.front w.switches result)
      → work_of y.connection ≡ work_of x.connection → ((u : View) (v : views.Client) → MayStand told h x v → InView x.connection u v → InView y.connection u v) → ((v : views.Client) → Between x.connection v → Between y.connection v)
      → OneLeadsTo (IsGotWhere m c.transaction oid result) m at h g y after
  get_leads oid result waiting reads refused made work view between = by_work (work_of x.connection) refl
    where
      by_work : (wr : Result Work Refusal) → work_of x.connection ≡ wr → OneLeadsTo (IsGotWhere m c.transaction oid result) m at h g y after
      by_work (Err r) works =
          let none = none_of x.connection mine.told (work_of x.connection) r c mine.transaction works in
          let said = refused r works in
          stays _ m at h g x y c before after takes (same_hub said.1) (same_stamps said.1) (kept_same said.1 work (λ u. view u mine.told may) (between mine.told))
          (subst (λ (o : Option OpenTransaction). IsGotWhere m o oid result m) (sym none.1) (said.0 ∙ ap (λ (z : Refusal). Err z) none.0, refl))
      by_work (Ok w) works = by_pending (pending_of w.pending.stores oid) refl
        where
          o : IsOpened x.connection mine.told w c
          o = opened_of x.connection mine.told (work_of x.connection) w c mine.transaction works

          where_is : (p : Option PendingStore) → pending_of w.pending.stores oid ≡ p → (now : Moment) → IsGotAs m o.transaction oid p result now → IsGotWhere m c.transaction oid result now
          where_is p is now got =
              subst (λ (z : Option OpenTransaction). IsGotWhere m z oid result now) (sym o.begun)
              (subst (λ (z : Option PendingStore). IsGotAs m o.transaction oid z result now) (sym (ap (λ (ch : Changes). pending_of ch.pending.stores oid) o.is.changes ∙ is)) got)

          by_pending : (p : Option PendingStore) → pending_of w.pending.stores oid ≡ p → OneLeadsTo (IsGotWhere m c.transaction oid result) m at h g y after
          by_pending (Some p) is =
              let said = waiting w p works is in
              stays _ m at h g x y c before after takes (same_hub said.1) (same_stamps said.1) (kept_same said.1 work (λ u. view u mine.told may) (between mine.told)) (where_is (Some p) is m (said.0, refl))
          by_pending None is =
              weaken_one (read_one oid result o.transaction (read_to oid result w works o (reads w works is o.transaction.view mine.told may o.is.view) (made w works is)) work (λ u. view u mine.told may) (between mine.told)) (λ now read. where_is None is now read)

-- ---- what is got is answered

same_store : {a b : PendingStore} → Some a ≡ Some b → a ≡ b
same_store e = cc

got_open : (rules : Rules) (m : Moment) (at oid : ℕ) (c : seen.Client) (t : OpenTransaction) (result : Result (ℕ × List ℕ) Refusal) (reply : Answer) (now : Moment) (p : Option PendingStore) → c.transaction ≡ Some t → pending_of t.changes.pending.stores oid ≡ p
    → reply ≡ object_of result → IsGotAs m t oid p result now → IsLineOpen rules m at c (line.Get oid) reply now
got_open rules m at oid c t result reply now None begun is answers read =
    own_open rules m at c (line.Get oid) reply now t begun (ap (λ (z : Option OpenTransaction). line_refusal (option_map (λ (u : OpenTransaction). u.changes) z) (line.Get oid)) begun) (ap (λ (z : Option OpenTransaction). request_of c.standing (option_map (λ (u : OpenTransaction). u.changes) z) (line.Get oid)) begun)
    (subst (λ (z : Option PendingStore). IsGet m t oid z reply now) (sym is) (result, read, answers))
got_open rules m at oid c t result reply now (Some p) begun is answers (inl got, same) =
    own_open rules m at c (line.Get oid) reply now t begun (ap (λ (z : Option OpenTransaction). line_refusal (option_map (λ (u : OpenTransaction). u.changes) z) (line.Get oid)) begun) (ap (λ (z : Option OpenTransaction). request_of c.standing (option_map (λ (u : OpenTransaction). u.changes) z) (line.Get oid)) begun)
    (subst (λ (z : Option PendingStore). IsGet m t oid z reply now) (sym is) (answers ∙ ap object_of got, same))
got_open rules m at oid c t result reply now (Some p) begun is answers (inr starved, same) = starved_open rules m at c (line.Get oid) reply now (answers ∙ ap object_of starved) same

pub got_where : (rules : Rules) (m : Moment) (at oid : ℕ) (c : seen.Client) (o : Option OpenTransaction) (result : Result (ℕ × List ℕ) Refusal) (reply : Answer) (now : Moment) → c.transaction ≡ o → reply ≡ object_of result → IsGotWhere m o oid result now
    → IsLineOpen rules m at c (line.Get oid) reply now
got_where rules m at oid c None result reply now begun answers got =
    refused_open rules m at c (line.Get oid) reply now refusal.NoTransaction (ap (λ (z : Option OpenTransaction). line_refusal (option_map (λ (u : OpenTransaction). u.changes) z) (line.Get oid)) begun) (answers ∙ ap object_of got.0) got.1
got_where rules m at oid c (Some t) result reply now begun answers got = got_open rules m at oid c t result reply now (pending_of t.changes.pending.stores oid) begun refl answers got

-- `get`
pub get_answered : {R F : Type 0} (rules : Rules) (m : Moment) (at oid : ℕ) (c : seen.Client) (result : Result (ℕ × List ℕ) Refusal) (reply : Answer) (h g : HubState R F) (y : Client) (after : Option (List Stamp)) → reply ≡ object_of result
    → OneLeadsTo (IsGotWhere m c.transaction oid result) m at h g y after → OneLeadsTo (IsLineOpen rules m at c (line.Get oid) reply) m at h g y after
get_answered rules m at oid c result reply h g y after answers leads = weaken_one leads (λ now got. got_where rules m at oid c c.transaction result reply now refl answers got)
