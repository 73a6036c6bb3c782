-- Lines of a client with a link that read, and puts.
use Rattle.std.proofs.Common.{◌≡◌, ◌⊎◌, ℕ, Bool, true, false, List, Option, Some, None, Result, Ok, Err, if◌then◌else◌, refl, sym, ap, subst, ◌∙◌, inl, inr}
use Rattle.zb_ids.specs.declared.stamp.Stamp.{Stamp}
use Rattle.zb_model.specs.declared.data.Content.{Content}
use Rattle.zb_model.specs.declared.data.Content.TheVariants.{Held, Absent}
use Rattle.zb_model.specs.declared.data.Transaction.{Transaction}
use Rattle.zb_model.specs.declared.pending.PendingStore.{PendingStore}
use Rattle.zb_model.specs.declared.refusal.Refusal.{Refusal}
use Rattle.zb_model.specs.declared.refusal.Refusal.TheVariants as refusal
use Rattle.zb_model.specs.Rules.{MergeRules}
use Rattle.zb_answers.specs.declared.answer.Answer.{Answer}
use Rattle.zb_script.specs.declared.line.Line.{Line}
use Rattle.zb_script.specs.declared.line.Line.TheVariants as line
use Rattle.commit_phases.specs.Pending.{pending_of}
use Rattle.zodb_core.specs.declared.reply.Reply.{Reply}
use Rattle.zodb_core.specs.declared.request.Request.{Request}
use Rattle.zodb_core.specs.HubState.{HubState, rules_of}
use Rattle.zodb_core.specs.Machine.{Machine, Rules}
use Rattle.connection_view.specs.declared.connection.Connection.{Connection}
use Rattle.connection_view.specs.Works.{Work}
use Rattle.connection_view.specs.Connections.{Between, InView, base_read, waiting_read, work_of}
use Rattle.connection_view.specs.Views.{View}
use Rattle.connection_view.specs.Views as views
use Rattle.hub_carrier.specs.declared.trouble.Trouble.{Trouble}
use Rattle.hub_carrier.specs.declared.trouble.Trouble.TheVariants as trouble
use Rattle.hub_carrier.specs.Ends.{HubEnd, StepsThere, end_at, machine_at}
use Rattle.remote_loads.specs.Standing.{Stands}
use Rattle.client_turns.specs.declared.linked.LinkedClient.{LinkedClient}
use Rattle.client_turns.specs.declared.errors.TurnError.{TurnError}
use Rattle.client_turns.specs.declared.errors.TurnError.TheVariants as error
use Rattle.client_turns.specs.Clients.{Changes, Moment, OpenTransaction}
use Rattle.client_turns.specs.Clients as seen
use Rattle.client_turns.specs.Lines.{data_of, end_of, object_of, request_of}
use Rattle.client_turns.specs.Linked.{IsLinkedOf, IsLinkedOpen, LinkedEnds, LinkedGives, MayTakeLinked, StandsForHub, TakesLinked, TakesLinkedRead, end_of_result}
use Rattle.client_turns.specs.Others.{KeepsOthers}
use Rattle.client_turns.specs.OverCarrier.{FittingOver, GetOver, GotOver, LinkAt, LoadOver, ReadOver, fitting, is_fitting, link_at}
use Rattle.client_turns.specs.Refusing.{line_refusal}
use Rattle.client_turns.specs.Settling.{calm_result, settled, settled_result}
use Rattle.client_turns.specs.Standing.{IsGotAs, IsGotWhere, IsLineOpen, IsReadWhere}
use Rattle.client_turns.specs.Steps.{IsReadAt}
use Rattle.client_turns.proofs.Asked.{got_where}
use Rattle.client_turns.proofs.LinkEnds.{IsLinkedOpened, linked_none, linked_opened, taken_as}
use Rattle.client_turns.proofs.LinkReads.{ReadsFar, read_far}
use Rattle.client_turns.proofs.One.{own_open, refused_open, set_there}
use Rattle.client_turns.proofs.Others.{others_same}

-- ---- what is settled

pub data_settled : (z : Result (ℕ × List ℕ) Refusal) (t : Trouble) → settled (data_of z) t ≡ data_of (settled_result z t)
data_settled z trouble.StoreFault = refl
data_settled z trouble.ReadFault = refl
data_settled (Ok d) trouble.NoFault = refl
data_settled (Err why) trouble.NoFault = refl

pub object_settled : (z : Result (ℕ × List ℕ) Refusal) (t : Trouble) → settled (object_of z) t ≡ object_of (settled_result z t)
object_settled z trouble.StoreFault = refl
object_settled z trouble.ReadFault = refl
object_settled (Ok d) trouble.NoFault = refl
object_settled (Err why) trouble.NoFault = refl

-- what waits is answered, or there was no memory
waiting_settled : (oid : ℕ) (p : PendingStore) (raw : Result (ℕ × List ℕ) Refusal) → (raw ≡ waiting_read oid p) ⊎ (raw ≡ Err refusal.Memory) → (calm_result (fitting raw) ≡ waiting_read oid p) ⊎ (calm_result (fitting raw) ≡ Err refusal.Memory)
waiting_settled oid p raw (inr lost) = inr (ap (λ (z : Result (ℕ × List ℕ) Refusal). calm_result (fitting z)) lost)
waiting_settled oid p raw (inl got) = by_content p.content refl
  where
    by_content : (k : Content) → p.content ≡ k → (calm_result (fitting raw) ≡ waiting_read oid p) ⊎ (calm_result (fitting raw) ≡ Err refusal.Memory)
    by_content (Held bytes) is = by_test (is_fitting bytes) refl
      where
        got_held : raw ≡ Ok (p.base, bytes)
        got_held = got ∙ ap (λ (k : Content). waiting_read oid (record { oid = p.oid; base = p.base; content = k })) is

        by_test : (b : Bool) → is_fitting bytes ≡ b → (calm_result (fitting raw) ≡ waiting_read oid p) ⊎ (calm_result (fitting raw) ≡ Err refusal.Memory)
        by_test true fits =
            inl (ap (λ (z : Result (ℕ × List ℕ) Refusal). calm_result (fitting z)) got_held ∙ ap (λ (b : Bool). calm_result (if b then (let e : Result (ℕ × List ℕ) Refusal = Ok (p.base, bytes) in e) else Err refusal.Memory)) fits ∙ sym got_held ∙ got)
        by_test false fits =
            inr (ap (λ (z : Result (ℕ × List ℕ) Refusal). calm_result (fitting z)) got_held ∙ ap (λ (b : Bool). calm_result (if b then (let e : Result (ℕ × List ℕ) Refusal = Ok (p.base, bytes) in e) else Err refusal.Memory)) fits)
    by_content Absent is =
        let got_none : raw ≡ Err (refusal.Missing oid false) = got ∙ ap (λ (k : Content). waiting_read oid (record { oid = p.oid; base = p.base; content = k })) is in
        inl (ap (λ (z : Result (ℕ × List ℕ) Refusal). calm_result (fitting z)) got_none ∙ sym got_none ∙ got)

-- ---- a connection behind a read

opened_on : (k j : Connection) (v : views.Client) (w : Result Work Refusal) (o : Option OpenTransaction) → ((u : View) → InView k u v → InView j u v) → (Between k v → Between j v) → IsLinkedOpen k v w o → IsLinkedOpen j v w o
opened_on k j v (Ok w) (Some t) view between is = record { changes = is.changes; far = is.far; view = view t.view is.view }
opened_on k j v (Ok w) None view between is = absurd is
opened_on k j v (Err r) (Some t) view between is = absurd is
opened_on k j v (Err r) None view between is = (is.0, between is.1)

pub opened_at : (k j : Connection) (v : views.Client) (o : Option OpenTransaction) → work_of j ≡ work_of k → ((u : View) → InView k u v → InView j u v) → (Between k v → Between j v) → IsLinkedOpen k v (work_of k) o → IsLinkedOpen j v (work_of j) o
opened_at k j v o work view between is = subst (λ (w : Result Work Refusal). IsLinkedOpen j v w o) (sym work) (opened_on k j v (work_of k) o view between is)

module _ {R F : Type 0} (told lasts : Type 0) (stands : List ℕ → List Transaction → Type 0) (rules_in : R → MergeRules) (named_in : F → List ℕ → Option (List ℕ)) (x y : LinkedClient) (h g : HubState R F) (before after : Option (List Stamp)) (packs : Bool) (t : Trouble) (name : y.name ≡ x.name) (number : y.session ≡ x.session) where
  abbrev Steps : ℕ → Request → Reply → HubEnd R F → HubEnd R F → Type 0
  Steps n q r s u = StepsThere told lasts stands rules_in named_in n q r s u

  abbrev machine : HubEnd R F → Machine
  machine e = machine_at e.hub

  abbrev a : LinkAt (HubEnd R F)
  a = link_at (end_at h before false trouble.NoFault) x.session x.desk x.client

  abbrev b : LinkAt (HubEnd R F)
  b = link_at (end_at g after packs t) y.session y.desk y.client

  abbrev rules : Rules
  rules = rules_of rules_in named_in h

  quiet : b ≡ a → t ≡ trouble.NoFault
  quiet is = ap (λ (l : LinkAt (HubEnd R F)). l.there.trouble) is

  module _ (tells : told) (m : Moment) (at : ℕ) (c : seen.Client) (takes : MayTakeLinked h before m at x c) where
    abbrev v : views.Client
    v = takes.client.told

    -- the hub behind what left it alone
    still : b ≡ a → StandsForHub g after m
    still is = subst (λ (l : LinkAt (HubEnd R F)). StandsForHub l.there.hub l.there.stamps m) (sym is) takes.stands

    still_others : b ≡ a → KeepsOthers c.session h g
    still_others is = subst (λ (l : LinkAt (HubEnd R F)). KeepsOthers c.session h l.there.hub) (sym is) (others_same c.session h)

    still_stands : b ≡ a → Stands (machine_at g) y.session y.desk y.client v
    still_stands is = subst (λ (l : LinkAt (HubEnd R F)). Stands (machine_at l.there.hub) l.session l.desk l.client v) (sym is) takes.client.stands

    -- ---- what is read

    -- a moment of which this holds, which differs by its counts alone, and the client there, whose connection this is
    pub record Reaches (Q : Moment → Type 0) (j : Connection) : Type 0 where
      pub now : Moment
      pub holds : Q now
      pub rest : now ≡ record m { counts = now.counts }
      pub stood : StandsForHub g after now
      pub others : KeepsOthers c.session h g
      pub there : Stands (machine_at g) y.session y.desk y.client v
      pub opened : IsLinkedOpen j v (work_of j) c.transaction

    pub client_of : (d : seen.Client) → d.name ≡ c.name → d.session ≡ c.session → d.standing ≡ c.standing → Stands (machine_at g) y.session y.desk y.client v → IsLinkedOpen y.connection v (work_of y.connection) d.transaction → IsLinkedOf g y d
    client_of d named numbered standing there opened = record {
      name = named ∙ takes.client.name ∙ sym name;
      session = numbered ∙ takes.client.session ∙ sym number;
      told = v;
      linked = standing ∙ takes.client.linked;
      stands = there;
      transaction = opened;
    }

    unplaced : (now : Moment) → now ≡ record m { counts = now.counts } → now.clients ≡ m.clients
    unplaced now rest = ap (λ (z : Moment). z.clients) rest

    pub gives : (Q : Moment → Type 0) (e : Option TurnError) → Reaches Q y.connection → LinkedGives e Q m at c.session h g y after
    gives Q None r = record {
      now = r.now;
      holds = r.holds;
      stands = r.stood;
      client = c;
      placed = unplaced r.now r.rest ∙ set_there m.clients at c takes.there;
      is = client_of c refl refl refl r.there r.opened;
      others = r.others;
    }
    gives Q (Some why) r = record { now = r.now; holds = r.holds; stands = r.stood; clients = unplaced r.now r.rest; others = r.others }

    pub ends : (l : Line) (reply : Answer) (e : Option TurnError) → Reaches (IsLineOpen rules m at c l reply) y.connection → LinkedEnds e rules m at c l reply h g y after
    ends l reply None r = gives (IsLineOpen rules m at c l reply) None r
    ends l reply (Some error.StoreFault) r = record { now = r.now; holds = r.holds; stands = r.stood; clients = unplaced r.now r.rest; others = r.others }
    ends l reply (Some error.Memory) r = record { now = r.now; holds = inl r.holds; stands = r.stood; clients = unplaced r.now r.rest; others = r.others }

    weaker : {P Q : Moment → Type 0} {j : Connection} → Reaches P j → ((now : Moment) → P now → Q now) → Reaches Q j
    weaker r less = record { now = r.now; holds = less r.now r.holds; rest = r.rest; stood = r.stood; others = r.others; there = r.there; opened = r.opened }

    -- nothing was done
    pub reached : (Q : Moment → Type 0) (k j : Connection) → b ≡ a → IsLinkedOpen k v (work_of k) c.transaction → work_of j ≡ work_of k → ((u : View) → InView k u v → InView j u v) → (Between k v → Between j v) → Q m → Reaches Q j
    reached Q k j is opened work view between holds =
        record { now = m; holds = holds; rest = refl; stood = still is; others = still_others is; there = still_stands is; opened = opened_at k j v c.transaction work view between opened }

    -- behind a read
    behind_read : (Q : Moment → Type 0) (k j : Connection) (u : OpenTransaction) (oid : ℕ) (raw result : Result (ℕ × List ℕ) Refusal) → ReadsFar u oid raw result t m c.session h g after → ((l : views.Client) → told × Stands (machine_at h) x.session x.desk x.client l → told × Stands (machine_at g) y.session y.desk y.client l)
        → IsLinkedOpen k v (work_of k) c.transaction → work_of j ≡ work_of k → ((u : View) → InView k u v → InView j u v) → (Between k v → Between j v) → ((now : Moment) → IsReadAt m u oid result now → Q now) → Reaches Q j
    behind_read Q k j u oid raw result r same opened work view between holds = record {
      now = r.now;
      holds = holds r.now r.read;
      rest = r.read.rest;
      stood = r.stands;
      others = r.others;
      there = (same v (tells, takes.client.stands)).1;
      opened = opened_at k j v c.transaction work view between opened;
    }

    -- that no transaction is open
    none_at : (k : Connection) (r : Refusal) (raw : Result (ℕ × List ℕ) Refusal) → IsLinkedOpen k v (work_of k) c.transaction → work_of k ≡ Err r → raw ≡ Err r → b ≡ a → (c.transaction ≡ None) × (settled_result (fitting raw) t ≡ Err refusal.NoTransaction)
    none_at k r raw opened works said is =
        let none = linked_none k v (work_of k) r c opened works in
        (none.1, ap (λ (z : Result (ℕ × List ℕ) Refusal). settled_result (fitting z) t) (said ∙ ap (λ (z : Refusal). let e : Result (ℕ × List ℕ) Refusal = Err z in e) none.0) ∙ ap (λ (z : Trouble). settled_result (let e : Result (ℕ × List ℕ) Refusal = Err refusal.NoTransaction in e) z) (quiet is))

    -- a read, in the transaction that is open
    pub load_reaches : (oid : ℕ) (raw : Result (ℕ × List ℕ) Refusal) → ReadOver told Steps machine x.connection a oid raw y.connection b → Reaches (IsReadWhere m c.transaction oid (settled_result (fitting raw) t)) y.connection
    load_reaches oid raw o = by_work (work_of x.connection) refl
      where
        final : Result (ℕ × List ℕ) Refusal
        final = settled_result (fitting raw) t

        mine : told × Stands (machine_at h) x.session x.desk x.client v
        mine = (tells, takes.client.stands)

        by_work : (wr : Result Work Refusal) → work_of x.connection ≡ wr → Reaches (IsReadWhere m c.transaction oid final) y.connection
        by_work (Err r) works =
            let said = o.refused r works in
            let none = none_at x.connection r raw takes.client.transaction works said.0 said.1 in
            reached (IsReadWhere m c.transaction oid final) x.connection y.connection said.1 takes.client.transaction o.work (λ u. o.view u v mine) (o.between v)
            (subst (λ (z : Option OpenTransaction). IsReadWhere m z oid final m) (sym none.0) (none.1, refl))
        by_work (Ok w) works =
            let p : IsLinkedOpened x.connection v w c = linked_opened x.connection v (work_of x.connection) w c takes.client.transaction works in
            behind_read (IsReadWhere m c.transaction oid final) x.connection y.connection p.transaction oid raw final
            (read_far told lasts stands rules_in named_in tells m at x c h before takes oid raw x.connection w works p (o.reads p.transaction.view v mine p.is.view) b (o.makes w works))
            o.stands takes.client.transaction o.work (λ u. o.view u v mine) (o.between v) (λ now read. subst (λ (z : Option OpenTransaction). IsReadWhere m z oid final now) (sym p.begun) read)

    -- what waits, or else that; of a connection that has the client's transaction
    pub got_reaches : (k j : Connection) → IsLinkedOpen k v (work_of k) c.transaction → (oid : ℕ) (raw : Result (ℕ × List ℕ) Refusal) → GotOver told Steps machine k a oid raw j b
        → Reaches (λ now. IsGotWhere m c.transaction oid (settled_result (fitting raw) t) now × ((base : ℕ) → base_read raw ≡ Ok base → t ≡ trouble.NoFault)) j
    got_reaches k j opened oid raw o = by_work (work_of k) refl
      where
        final : Result (ℕ × List ℕ) Refusal
        final = settled_result (fitting raw) t

        mine : told × Stands (machine_at h) x.session x.desk x.client v
        mine = (tells, takes.client.stands)

        Q : Moment → Type 0
        Q now = IsGotWhere m c.transaction oid final now × ((base : ℕ) → base_read raw ≡ Ok base → t ≡ trouble.NoFault)

        by_work : (wr : Result Work Refusal) → work_of k ≡ wr → Reaches Q j
        by_work (Err r) works =
            let said = o.refused r works in
            let none = none_at k r raw opened works said.0 said.1 in
            reached Q k j said.1 opened o.work (λ u. o.view u v mine) (o.between v) (subst (λ (z : Option OpenTransaction). IsGotWhere m z oid final m) (sym none.0) (none.1, refl), λ base got. quiet said.1)
        by_work (Ok w) works = by_pending (pending_of w.pending.stores oid) refl
          where
            p : IsLinkedOpened k v w c
            p = linked_opened k v (work_of k) w c opened works

            where_is : (q : Option PendingStore) → pending_of w.pending.stores oid ≡ q → (now : Moment) → IsGotAs m p.transaction oid q final now → IsGotWhere m c.transaction oid final now
            where_is q is now got =
                subst (λ (z : Option OpenTransaction). IsGotWhere m z oid final now) (sym p.begun)
                (subst (λ (z : Option PendingStore). IsGotAs m p.transaction oid z final now) (sym (ap (λ (ch : Changes). pending_of ch.pending.stores oid) p.is.changes ∙ is)) got)

            by_pending : (q : Option PendingStore) → pending_of w.pending.stores oid ≡ q → Reaches Q j
            by_pending (Some q) is =
                let said = o.waiting w q works is in
                let calm : final ≡ calm_result (fitting raw) = ap (λ (z : Trouble). settled_result (fitting raw) z) (quiet said.1) in
                reached Q k j said.1 opened o.work (λ u. o.view u v mine) (o.between v)
                (where_is (Some q) is m (subst (λ (z : Result (ℕ × List ℕ) Refusal). (z ≡ waiting_read oid q) ⊎ (z ≡ Err refusal.Memory)) (sym calm) (waiting_settled oid q raw said.0), refl), λ base got. quiet said.1)
            by_pending None is =
                let r : ReadsFar p.transaction oid raw final t m c.session h g after =
                read_far told lasts stands rules_in named_in tells m at x c h before takes oid raw k w works p (o.reads w works is p.transaction.view v mine p.is.view) b (o.makes w works is) in
                behind_read Q k j p.transaction oid raw final r o.stands opened o.work (λ u. o.view u v mine) (o.between v) (λ now read. (where_is None is now read, r.calm))

    read_open : (oid : ℕ) (result : Result (ℕ × List ℕ) Refusal) (o : Option OpenTransaction) → c.transaction ≡ o → (now : Moment) → IsReadWhere m o oid result now → IsLineOpen rules m at c (line.Load oid) (data_of result) now
    read_open oid result None begun now got =
        refused_open rules m at c (line.Load oid) (data_of result) now refusal.NoTransaction (taken_as (λ ch. line_refusal ch (line.Load oid)) c None begun) (ap data_of got.0) got.1
    read_open oid result (Some u) begun now got =
        own_open rules m at c (line.Load oid) (data_of result) now u begun (taken_as (λ ch. line_refusal ch (line.Load oid)) c (Some u) begun) (taken_as (λ ch. request_of c.standing ch (line.Load oid)) c (Some u) begun) (result, got, refl)

  -- ---- `load`, and what a transaction has

  pub load_law : (oid : ℕ) (raw given : Answer) → LoadOver told Steps machine x.connection a oid raw y.connection b → given ≡ settled raw t → TakesLinked told rules (line.Load oid) given h g x y before after
  load_law oid raw given (result, is, o) answers tells m at c takes =
      let r = load_reaches tells m at c takes oid result o in
      let final : Result (ℕ × List ℕ) Refusal = settled_result (fitting result) t in
      subst (λ (z : Answer). LinkedEnds (end_of z) rules m at c (line.Load oid) z h g y after) (sym (answers ∙ ap (λ (z : Answer). settled z t) is ∙ data_settled (fitting result) t))
      (ends tells m at c takes (line.Load oid) (data_of final) (end_of (data_of final)) (weaker tells m at c takes r (λ now got. read_open tells m at c takes oid final c.transaction refl now got)))

  pub got_law : (oid : ℕ) (result given : Result (ℕ × List ℕ) Refusal) → FittingOver told Steps machine x.connection a oid result y.connection b → given ≡ settled_result result t → TakesLinkedRead told IsGotWhere oid given h g x y before after
  got_law oid result given (raw, is, o) answers tells m at c takes =
      let r = got_reaches tells m at c takes x.connection y.connection takes.client.transaction oid raw o in
      subst (λ (z : Result (ℕ × List ℕ) Refusal). LinkedGives (end_of_result z) (IsGotWhere m c.transaction oid z) m at c.session h g y after) (sym (answers ∙ ap (λ (z : Result (ℕ × List ℕ) Refusal). settled_result z t) is))
      (gives tells m at c takes (IsGotWhere m c.transaction oid (settled_result (fitting raw) t)) (end_of_result (settled_result (fitting raw) t)) (weaker tells m at c takes r (λ now got. got.0)))

  pub get_law : (oid : ℕ) (raw given : Answer) → GetOver told Steps machine x.connection a oid raw y.connection b → given ≡ settled raw t → TakesLinked told rules (line.Get oid) given h g x y before after
  get_law oid raw given (result, is, (read, fits, o)) answers tells m at c takes =
      let r = got_reaches tells m at c takes x.connection y.connection takes.client.transaction oid read o in
      let final : Result (ℕ × List ℕ) Refusal = settled_result (fitting read) t in
      subst (λ (z : Answer). LinkedEnds (end_of z) rules m at c (line.Get oid) z h g y after) (sym (answers ∙ ap (λ (z : Answer). settled z t) (is ∙ ap object_of fits) ∙ object_settled (fitting read) t))
      (ends tells m at c takes (line.Get oid) (object_of final) (end_of (object_of final)) (weaker tells m at c takes r (λ now got. got_where rules m at oid c c.transaction final (object_of final) now refl refl got.0)))
