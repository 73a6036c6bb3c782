-- `put` of a client with a link.
use Rattle.std.proofs.Common.{◌≡◌, ◌⊎◌, ℕ, ◌==◌, Bool, true, false, List, [], ◌∷◌, Option, Some, None, Result, Ok, Err, if◌then◌else◌, refl, sym, ap, subst, ◌∙◌, inl, inr}
use Rattle.std.specs.Prelude.{IsOk, nat_lt, slice_get, slice_set}
use Rattle.zb_ids.specs.declared.stamp.Stamp.{Stamp}
use Rattle.zb_model.specs.declared.data.Content.{Content}
use Rattle.zb_model.specs.declared.data.Content.TheVariants.{Held, Absent}
use Rattle.zb_model.specs.declared.data.Transaction.{Transaction}
use Rattle.zb_model.specs.declared.pending.PendingStore.{PendingStore}
use Rattle.zb_model.specs.declared.refusal.Refusal.{Refusal}
use Rattle.zb_model.specs.declared.refusal.Refusal.TheVariants as refusal
use Rattle.zb_model.specs.Rules.{MergeRules}
use Rattle.zb_answers.specs.declared.answer.Answer.{Answer}
use Rattle.zb_answers.specs.declared.answer.Answer.TheVariants as answer
use Rattle.zb_script.specs.declared.line.Line.{Line}
use Rattle.zb_script.specs.declared.line.Line.TheVariants as line
use Rattle.commit_phases.specs.Pending.{excess_with, length_of_content, object_limit, pending_of, size_of_stores, transaction_limit, with_pending}
use Rattle.zodb_core.specs.declared.reply.Reply.{Reply}
use Rattle.zodb_core.specs.declared.request.Request.{Request}
use Rattle.zodb_core.specs.HubState.{HubState, rules_of}
use Rattle.zodb_core.specs.Machine.{Machine, Rules}
use Rattle.zodb_core.specs.Steps.{refuse_if}
use Rattle.connection_view.specs.declared.connection.Connection.{Connection}
use Rattle.connection_view.specs.Works.{Work}
use Rattle.connection_view.specs.Connections.{InView, LeavesWork, base_read, changeable, followed_by, stored_all, stored_in_work, stored_unless, waiting_read, work_of}
use Rattle.connection_view.specs.Views as views
use Rattle.hub_carrier.specs.declared.trouble.Trouble.{Trouble}
use Rattle.hub_carrier.specs.declared.trouble.Trouble.TheVariants as trouble
use Rattle.hub_carrier.specs.Ends.{HubEnd, StepsThere, end_at, machine_at}
use Rattle.client_turns.specs.declared.linked.LinkedClient.{LinkedClient}
use Rattle.client_turns.specs.declared.errors.TurnError.{TurnError}
use Rattle.client_turns.specs.Asking.{answered}
use Rattle.client_turns.specs.Clients.{Changes, Moment, OpenTransaction, changes_of, with_client}
use Rattle.client_turns.specs.Clients as seen
use Rattle.client_turns.specs.Lines as lines
use Rattle.client_turns.specs.Lines.{Changed, end_of, request_of, unchanged, with_changes}
use Rattle.client_turns.specs.Linked.{IsLinkedOpen, IsLinkedWork, LinkedEnds, LinkedLeadsTo, MayTakeLinked, StandsForHub, TakesLinked}
use Rattle.client_turns.specs.Calls.{done_as}
use Rattle.client_turns.specs.OverCarrier.{ChangeOver, FittingOver, LinkAt, MayChangeOver, PutOver, fitting, is_fitting, link_at, put_read, put_refused, put_unread}
use Rattle.client_turns.specs.Refusing.{line_refusal}
use Rattle.client_turns.specs.Settling.{calm, calm_answer, calm_result, settled, settled_result}
use Rattle.client_turns.specs.Standing.{IsGotAs, IsGotWhere, IsLineOpen, changes_kept, with_kept}
use Rattle.client_turns.specs.Steps.{IsChange, IsReadAt}
use Rattle.client_turns.specs.Turns.{IsPut}
use Rattle.client_turns.proofs.Changing.{AgreesAs, stored_agrees, stored_done}
use Rattle.client_turns.proofs.Hubs.{counts_same}
use Rattle.client_turns.proofs.LinkEnds.{IsLinkedOpened, linked_none, linked_opened, taken_as}
use Rattle.client_turns.proofs.LinkReading.{Reaches, client_of, ends, got_reaches, opened_at, reached}
use Rattle.client_turns.proofs.One.{own_open, refused_open, set_there, starved_open}

-- ---- what waits keeps its base

same_some : {A : Type 0} {a b : A} → Some a ≡ Some b → a ≡ b
same_some e = cc

with_base : (stores : List PendingStore) (oid base : ℕ) (k : Content) (p : PendingStore) → pending_of stores oid ≡ Some p → with_pending stores (record { oid = oid; base = base; content = k }) ≡ with_pending stores (record { oid = oid; base = p.base; content = k })
with_base [] oid base k p is = absurd cc
with_base (q ∷ stores) oid base k p is = by_place (oid == q.oid) refl is (λ here. with_base stores oid base k p here)
  where
    with_at : ℕ → List PendingStore
    with_at n = with_pending stores (record { oid = oid; base = n; content = k })

    kept : PendingStore
    kept = record { oid = q.oid; base = q.base; content = k }

    by_place : (b : Bool) → (oid == q.oid) ≡ b → (if b then Some q else pending_of stores oid) ≡ Some p → (pending_of stores oid ≡ Some p → with_at base ≡ with_at p.base)
        → (if oid == q.oid then kept ∷ stores else q ∷ with_at base) ≡ (if oid == q.oid then kept ∷ stores else q ∷ with_at p.base)
    by_place true at is more = ap (λ (b : Bool). if b then kept ∷ stores else q ∷ with_at base) at ∙ sym (ap (λ (b : Bool). if b then kept ∷ stores else q ∷ with_at p.base) at)
    by_place false at is more =
        ap (λ (b : Bool). if b then kept ∷ stores else q ∷ with_at base) at ∙ ap (λ (xs : List PendingStore). q ∷ xs) (more is) ∙ sym (ap (λ (b : Bool). if b then kept ∷ stores else q ∷ with_at p.base) at)

same_unless : (t : Changes) (p q : PendingStore) (e : Option ℕ) → with_pending t.pending.stores p ≡ with_pending t.pending.stores q → lines.store_unless t p e ≡ lines.store_unless t q e
same_unless t p q (Some n) is = refl
same_unless t p q None is = ap (λ (xs : List PendingStore). let z : Changed = record { answer = answer.Stored; changes = record t { pending = record { stores = xs; checks = t.pending.checks } } } in z) is

pub stored_base : (t : Changes) (oid base : ℕ) (k : Content) (p : PendingStore) → pending_of t.pending.stores oid ≡ Some p → lines.stored t (record { oid = oid; base = base; content = k }) ≡ lines.stored t (record { oid = oid; base = p.base; content = k })
stored_base t oid base k p is =
    let same = with_base t.pending.stores oid base k p is in
    let one : PendingStore = record { oid = oid; base = base; content = k } in
    let other : PendingStore = record { oid = oid; base = p.base; content = k } in
    same_unless t one other (excess_with t.pending.stores one) same
    ∙ ap (λ (xs : List PendingStore). lines.store_unless t other (if nat_lt object_limit (length_of_content k) then Some (length_of_content k) else if nat_lt transaction_limit (size_of_stores xs) then Some (size_of_stores xs) else None)) same

-- ---- by what is read

same_ok : {a b : ℕ} → (let z : Result ℕ Refusal = Ok a in z) ≡ Ok b → a ≡ b
same_ok e = cc

same_err : {T : Type 0} {r s : Refusal} → (let z : Result T Refusal = Err r in z) ≡ Err s → r ≡ s
same_err e = cc

put_as_read : (t : Changes) (oid base : ℕ) (bytes : List ℕ) (z : Result (ℕ × List ℕ) Refusal) → base_read z ≡ Ok base → lines.put t oid bytes z ≡ lines.stored t (record { oid = oid; base = base; content = Held bytes })
put_as_read t oid base bytes (Ok d) is = ap (λ (n : ℕ). lines.stored t (record { oid = oid; base = n; content = Held bytes })) (same_ok is)
put_as_read t oid base bytes (Err (refusal.Missing o false)) is = ap (λ (n : ℕ). lines.stored t (record { oid = oid; base = n; content = Held bytes })) (same_ok is)
put_as_read t oid base bytes (Err (refusal.Missing o true)) is = absurd cc
put_as_read t oid base bytes (Err _) is = absurd cc

put_unread_as : (t : Changes) (oid : ℕ) (bytes : List ℕ) (z : Result (ℕ × List ℕ) Refusal) (r : Refusal) → base_read z ≡ Err r → lines.put t oid bytes z ≡ unchanged t (answer.Refused r)
put_unread_as t oid bytes (Ok d) r is = absurd cc
put_unread_as t oid bytes (Err (refusal.Missing o false)) r is = absurd cc
put_unread_as t oid bytes (Err (refusal.Missing o true)) r is = ap (λ (w : Refusal). unchanged t (answer.Refused w)) (same_err is)
put_unread_as t oid bytes (Err _) r is = ap (λ (w : Refusal). unchanged t (answer.Refused w)) (same_err is)

calm_base : (z : Result (ℕ × List ℕ) Refusal) (base : ℕ) → base_read z ≡ Ok base → calm_result z ≡ z
calm_base (Ok d) base is = refl
calm_base (Err (refusal.Missing o false)) base is = refl
calm_base (Err (refusal.Missing o true)) base is = absurd cc
calm_base (Err _) base is = absurd cc

fitting_base : (z : Result (ℕ × List ℕ) Refusal) (base : ℕ) → base_read (fitting z) ≡ Ok base → base_read z ≡ Ok base
fitting_base (Err r) base is = is
fitting_base (Ok d) base is = by_test (is_fitting d.1) is
  where
    by_test : (b : Bool) → base_read (if b then (let k : Result (ℕ × List ℕ) Refusal = Ok d in k) else Err refusal.Memory) ≡ Ok base → base_read (let k : Result (ℕ × List ℕ) Refusal = Ok d in k) ≡ Ok base
    by_test true is = is
    by_test false is = absurd cc

-- what isn't read, with what went wrong
pub record IsUnreadAs (z : Result (ℕ × List ℕ) Refusal) (r : Refusal) (t : Trouble) : Type 0 where
  pub why : Refusal
  pub unread : base_read (settled_result z t) ≡ Err why
  pub said : settled (answer.Refused r) t ≡ answer.Refused why

unread_so : (why r : Refusal) → why ≡ r → base_read (Err (calm why)) ≡ Err (calm why) → IsUnreadAs (Err why) r trouble.NoFault
unread_so why r same is = record { why = calm why; unread = is; said = ap (λ (z : Refusal). answer.Refused (calm z)) (sym same) }

unread_as : (z : Result (ℕ × List ℕ) Refusal) (r : Refusal) (t : Trouble) → base_read z ≡ Err r → IsUnreadAs z r t
unread_as z r trouble.StoreFault is = record { why = refusal.StoreFault; unread = refl; said = refl }
unread_as z r trouble.ReadFault is = record { why = refusal.ReadFault; unread = refl; said = refl }
unread_as (Ok d) r trouble.NoFault is = absurd cc
unread_as (Err (refusal.Missing o false)) r trouble.NoFault is = absurd cc
unread_as (Err (refusal.Missing o true)) r trouble.NoFault is = unread_so (refusal.Missing o true) r (same_err is) refl
unread_as (Err w) r trouble.NoFault is = other w is
  where
    other : (w : Refusal) → base_read (Err w) ≡ Err r → IsUnreadAs (Err w) r trouble.NoFault
    other (refusal.Missing o false) is = absurd cc
    other (refusal.Missing o true) is = unread_so (refusal.Missing o true) r (same_err is) refl
    other _ is = unread_so _ r (same_err is) refl

-- what waits is read
waiting_based : (oid : ℕ) (p : PendingStore) (r : Refusal) → base_read (waiting_read oid p) ≡ Err r → ⊥
waiting_based oid p r is = by_content p.content is
  where
    by_content : (k : Content) → base_read (waiting_read oid (record { oid = p.oid; base = p.base; content = k })) ≡ Err r → ⊥
    by_content (Held bytes) is = absurd cc
    by_content Absent is = absurd cc

-- only a length refuses a store
too_long_unless : (w : Work) (p : PendingStore) (e : Option ℕ) (r : Refusal) → stored_unless w p e ≡ Err r → (n : ℕ) × (r ≡ refusal.TooLong n)
too_long_unless w p None r is = absurd cc
too_long_unless w p (Some n) r is = (n, sym (same_err is))

too_long_so : (w : Work) (p : PendingStore) (r : Refusal) → stored_in_work p w ≡ Err r → (n : ℕ) × (r ≡ refusal.TooLong n)
too_long_so w p r is = too_long_unless w p (excess_with w.pending.stores p) r is

not_ok : (r : Refusal) → IsOk (let e : Result Work Refusal = Err r in e) → ⊥
not_ok r e = absurd cc

-- a read that is a base moved no count
read_still : (m now : Moment) (u : OpenTransaction) (oid base : ℕ) (z : Result (ℕ × List ℕ) Refusal) → base_read z ≡ Ok base → IsReadAt m u oid z now → now ≡ m
read_still m now u oid base (Ok d) got is = counts_same m now is.counts is.rest
read_still m now u oid base (Err (refusal.Missing o false)) got is = counts_same m now is.counts is.rest
read_still m now u oid base (Err (refusal.Missing o true)) got is = absurd cc
read_still m now u oid base (Err _) got is = absurd cc

module _ {R F : Type 0} (told lasts : Type 0) (stands : List ℕ → List Transaction → Type 0) (rules_in : R → MergeRules) (named_in : F → List ℕ → Option (List ℕ)) (x y : LinkedClient) (h g : HubState R F) (before after : Option (List Stamp)) (packs : Bool) (t : Trouble) (name : y.name ≡ x.name) (number : y.session ≡ x.session) where
  abbrev Steps : ℕ → Request → Reply → HubEnd R F → HubEnd R F → Type 0
  Steps n q r s u = StepsThere told lasts stands rules_in named_in n q r s u

  abbrev machine : HubEnd R F → Machine
  machine e = machine_at e.hub

  abbrev a : LinkAt (HubEnd R F)
  a = link_at (end_at h before false trouble.NoFault) x.session x.desk x.client

  abbrev b : LinkAt (HubEnd R F)
  b = link_at (end_at g after packs t) y.session y.desk y.client

  abbrev rules : Rules
  rules = rules_of rules_in named_in h

  quiet : b ≡ a → t ≡ trouble.NoFault
  quiet is = ap (λ (l : LinkAt (HubEnd R F)). l.there.trouble) is

  -- ---- what may be changed

  -- an open transaction that isn't voted, and stays as it is
  pub record IsUnvoted (k : Connection) : Type 0 where
    pub work : Work
    pub works : work_of x.connection ≡ Ok work
    pub unvoted : work.is_voted ≡ false
    pub same : work_of k ≡ work_of x.connection

  may_change : (k : Connection) → MayChangeOver told Steps machine x.connection a (Ok tt) k → IsUnvoted k
  may_change k may = by_work (work_of x.connection) refl may.leaves
    where
      by_work : (wr : Result Work Refusal) → work_of x.connection ≡ wr → (work_of k ≡ followed_by (changeable wr) (stored_all [])) × IsOk (followed_by (changeable wr) (stored_all [])) → IsUnvoted k
      by_work (Err r) works leaves = absurd (not_ok r leaves.1)
      by_work (Ok w) works leaves = by_voted w.is_voted refl
          (subst (λ (b : Bool). (work_of k ≡ followed_by (if b then (let e : Result Work Refusal = Err refusal.Voted in e) else Ok w) (stored_all [])) × IsOk (followed_by (if b then (let e : Result Work Refusal = Err refusal.Voted in e) else Ok w) (stored_all []))) refl leaves)
        where
          by_voted : (b : Bool) → w.is_voted ≡ b → (work_of k ≡ followed_by (if b then (let e : Result Work Refusal = Err refusal.Voted in e) else Ok w) (stored_all [])) × IsOk (followed_by (if b then (let e : Result Work Refusal = Err refusal.Voted in e) else Ok w) (stored_all [])) → IsUnvoted k
          by_voted true voted leaves = absurd (not_ok refusal.Voted leaves.1)
          by_voted false voted leaves = record { work = w; works = works; unvoted = voted; same = leaves.0 ∙ sym works }

  module _ (tells : told) (m : Moment) (at : ℕ) (c : seen.Client) (takes : MayTakeLinked h before m at x c) (oid : ℕ) (bytes : List ℕ) where
    abbrev v : views.Client
    v = takes.client.told

    abbrev l : Line
    l = line.Put oid bytes

    abbrev Open : Answer → Moment → Type 0
    Open given now = IsLineOpen rules m at c l given now

    abbrev Goal : Answer → Type 0
    Goal given = LinkedEnds (end_of given) rules m at c l given h g y after

    ended : (given : Answer) → Reaches told lasts stands rules_in named_in x y h g before after packs t name number tells m at c takes (Open given) y.connection → Goal given
    ended given r = ends told lasts stands rules_in named_in x y h g before after packs t name number tells m at c takes l given (end_of given) r

    -- nothing was read
    unread_ends : (given : Answer) → b ≡ a → (may : (r : Refusal) × MayChangeOver told Steps machine x.connection a (Err r) y.connection) → Open given m → Goal given
    unread_ends given is may holds =
        ended given (reached told lasts stands rules_in named_in x y h g before after packs t name number tells m at c takes (Open given) x.connection y.connection is takes.client.transaction may.1.leaves.1 (λ u. may.1.view u v) (may.1.between v) holds)

    refused_put : (given : Answer) (r why : Refusal) → b ≡ a → MayChangeOver told Steps machine x.connection a (Err r) y.connection → given ≡ settled (answer.Refused r) t → r ≡ why → calm why ≡ why → line_refusal (changes_of c) l ≡ Some why → Goal given
    refused_put given r why is may answers same calm_is refuses =
        let said : given ≡ answer.Refused why = answers ∙ ap (λ (z : Trouble). settled (answer.Refused r) z) (quiet is) ∙ ap (λ (z : Refusal). answer.Refused (calm z)) same ∙ ap (λ (z : Refusal). answer.Refused z) calm_is in
        unread_ends given is (r, may) (refused_open rules m at c l given m why refuses said refl)

    unchanged_put : (given : Answer) (r : Refusal) → b ≡ a → MayChangeOver told Steps machine x.connection a (Err r) y.connection → given ≡ settled (answer.Refused r) t → Goal given
    unchanged_put given r is may answers = by_why may.leaves.0
      where
        by_work : (wr : Result Work Refusal) → work_of x.connection ≡ wr → followed_by (changeable wr) (stored_all []) ≡ Err r → Goal given
        by_work (Err e) works err =
            let none = linked_none x.connection v (work_of x.connection) e c takes.client.transaction works in
            refused_put given r refusal.NoTransaction is may answers (sym (same_err err) ∙ none.0) refl (taken_as (λ ch. line_refusal ch l) c None none.1)
        by_work (Ok w) works err = by_voted w.is_voted refl err
          where
            o : IsLinkedOpened x.connection v w c
            o = linked_opened x.connection v (work_of x.connection) w c takes.client.transaction works

            by_voted : (b : Bool) → w.is_voted ≡ b → followed_by (if b then (let e : Result Work Refusal = Err refusal.Voted in e) else Ok w) (stored_all []) ≡ Err r → Goal given
            by_voted true voted err =
                refused_put given r refusal.Voted is may answers (sym (same_err err)) refl
                (taken_as (λ ch. line_refusal ch l) c (Some o.transaction) o.begun ∙ ap (λ (ch : Changes). refuse_if ch.is_voted refusal.Voted) o.is.changes ∙ ap (λ (b : Bool). refuse_if b refusal.Voted) voted)
            by_voted false voted err = absurd (other w r err)
              where
                other : (w : Work) (r : Refusal) → (let z : Result Work Refusal = Ok w in z) ≡ Err r → ⊥
                other w r e = absurd cc

        by_why : (followed_by (changeable (work_of x.connection)) (stored_all []) ≡ Err r) ⊎ (r ≡ refusal.Memory) → Goal given
        by_why (inl err) = by_work (work_of x.connection) refl err
        by_why (inr starved) =
            let said : given ≡ answer.Refused refusal.Memory = answers ∙ ap (λ (z : Trouble). settled (answer.Refused r) z) (quiet is) ∙ ap (λ (z : Refusal). answer.Refused (calm z)) starved in
            unread_ends given is (r, may) (starved_open rules m at c l given m said refl)

    -- ---- behind a read

    module _ (k : Connection) (may : MayChangeOver told Steps machine x.connection a (Ok tt) k) (given : Answer) where
      fresh : IsUnvoted k
      fresh = may_change k may

      abbrev w : Work
      w = fresh.work

      o : IsLinkedOpened x.connection v w c
      o = linked_opened x.connection v (work_of x.connection) w c takes.client.transaction fresh.works

      abbrev u : OpenTransaction
      u = o.transaction

      opened_mid : IsLinkedOpen k v (work_of k) c.transaction
      opened_mid = opened_at x.connection k v c.transaction fresh.same (λ z. may.view z v) (may.between v) takes.client.transaction

      free : line_refusal (changes_of c) l ≡ None
      free = taken_as (λ ch. line_refusal ch l) c (Some u) o.begun ∙ ap (λ (ch : Changes). refuse_if ch.is_voted refusal.Voted) o.is.changes ∙ ap (λ (b : Bool). refuse_if b refusal.Voted) fresh.unvoted

      asks : request_of c.standing (changes_of c) l ≡ None
      asks = taken_as (λ ch. request_of c.standing ch l) c (Some u) o.begun

      got_as : (final : Result (ℕ × List ℕ) Refusal) (now : Moment) → IsGotWhere m c.transaction oid final now → IsGotAs m u oid (pending_of u.changes.pending.stores oid) final now
      got_as final now got = subst (λ (z : Option OpenTransaction). IsGotWhere m z oid final now) o.begun got

      put_open : (now : Moment) → IsPut m at c u oid bytes (pending_of u.changes.pending.stores oid) given now → Open given now
      put_open now is = own_open rules m at c l given now u o.begun free asks is

      -- the client as it is, in its place
      unmoved : (now : Moment) → now ≡ record m { counts = now.counts } → now ≡ with_client now at (with_changes c u u.changes)
      unmoved now rest =
          let there : slice_get now.clients at ≡ Some c = ap (λ (z : Moment). slice_get z.clients at) rest ∙ takes.there in
          let same : c ≡ with_changes c u u.changes = ap (λ (z : Option OpenTransaction). let d : seen.Client = record { name = c.name; session = c.session; transaction = z; standing = c.standing } in d) o.begun in
          ap (λ (cs : List seen.Client). let z : Moment = record { machine = now.machine; clients = cs; stamps = now.stamps; counts = now.counts } in z) (set_there now.clients at c there ∙ ap (λ (d : seen.Client). slice_set now.clients at d) same)

      -- where it can't be read
      unread_put : (result : Result (ℕ × List ℕ) Refusal) (r : Refusal) → FittingOver told Steps machine k a oid result y.connection b → base_read result ≡ Err r → given ≡ settled (answer.Refused r) t → Goal given
      unread_put result r (raw, fits, got) err answers =
          let read = got_reaches told lasts stands rules_in named_in x y h g before after packs t name number tells m at c takes k y.connection opened_mid oid raw got in
          let un : IsUnreadAs (fitting raw) r t = unread_as (fitting raw) r t (ap base_read (sym fits) ∙ err) in
          ended given (record {
            now = read.now;
            holds = open_so un read.now read.rest (pending_of u.changes.pending.stores oid) refl (got_as (settled_result (fitting raw) t) read.now read.holds.0);
            rest = read.rest;
            stood = read.stood;
            others = read.others;
            there = read.there;
            opened = read.opened;
          })
        where
          open_so : (un : IsUnreadAs (fitting raw) r t) (now : Moment) → now ≡ record m { counts = now.counts } → (q : Option PendingStore) → pending_of u.changes.pending.stores oid ≡ q → IsGotAs m u oid q (settled_result (fitting raw) t) now → Open given now
          open_so un now rest None is got =
              put_open now (subst (λ (z : Option PendingStore). IsPut m at c u oid bytes z given now) (sym is) (
                settled_result (fitting raw) t,
                now,
                got,
                subst (λ (z : Changed). IsChange now at c u z given now) (sym (put_unread_as u.changes oid bytes (settled_result (fitting raw) t) un.why un.unread)) (answers ∙ un.said, unmoved now rest),
              ))
          open_so un now rest (Some q) is (inl got, same) = absurd (waiting_based oid q un.why (ap base_read (sym got) ∙ un.unread))
          open_so un now rest (Some q) is (inr lost, same) = starved_open rules m at c l given now (answers ∙ un.said ∙ ap (λ (z : Refusal). answer.Refused z) (sym (same_err (ap base_read (sym lost) ∙ un.unread)))) same

      -- where it is
      module _ (result : Result (ℕ × List ℕ) Refusal) (base : ℕ) (j : Connection) (got : FittingOver told Steps machine k a oid result j b) (based : base_read result ≡ Ok base) (reply : Answer) (change : ChangeOver told Steps machine j b (stored_in_work (record { oid = oid; base = base; content = Held bytes })) (done_as answer.Stored) reply y.connection b) (answers : given ≡ settled reply t) where
        abbrev p : PendingStore
        p = record { oid = oid; base = base; content = Held bytes }

        abbrev raw : Result (ℕ × List ℕ) Refusal
        raw = got.0

        abbrev final : Result (ℕ × List ℕ) Refusal
        final = settled_result (fitting raw) t

        fitted : base_read (fitting raw) ≡ Ok base
        fitted = ap base_read (sym got.1) ∙ based

        abbrev read : Reaches told lasts stands rules_in named_in x y h g before after packs t name number tells m at c takes (λ now. IsGotWhere m c.transaction oid final now × ((base : ℕ) → base_read raw ≡ Ok base → t ≡ trouble.NoFault)) j
        read = got_reaches told lasts stands rules_in named_in x y h g before after packs t name number tells m at c takes k j opened_mid oid raw got.2

        right : t ≡ trouble.NoFault
        right = read.holds.1 base (fitting_base raw base fitted)

        based_final : base_read final ≡ Ok base
        based_final = ap (λ (z : Trouble). base_read (settled_result (fitting raw) z)) right ∙ ap base_read (calm_base (fitting raw) base fitted) ∙ fitted

        settles : given ≡ calm_answer reply
        settles = answers ∙ ap (λ (z : Trouble). settled reply z) right

        works_read : work_of j ≡ Ok w
        works_read = got.2.work ∙ fresh.same ∙ fresh.works

        still_here : read.now ≡ m
        still_here = by_pending (pending_of u.changes.pending.stores oid) (got_as final read.now read.holds.0)
          where
            by_pending : (q : Option PendingStore) → IsGotAs m u oid q final read.now → read.now ≡ m
            by_pending None is = read_still m read.now u oid base final based_final is
            by_pending (Some q) is = is.1

        put_so : (now : Moment) → IsChange m at c u (lines.stored u.changes p) given now → Open given now
        put_so now change = by_pending (pending_of u.changes.pending.stores oid) refl (got_as final read.now read.holds.0)
          where
            by_pending : (q : Option PendingStore) → pending_of u.changes.pending.stores oid ≡ q → IsGotAs m u oid q final read.now → Open given now
            by_pending None is got =
                put_open now (subst (λ (z : Option PendingStore). IsPut m at c u oid bytes z given now) (sym is) (
                  final,
                  m,
                  subst (λ (z : Moment). IsReadAt m u oid final z) still_here got,
                  subst (λ (z : Changed). IsChange m at c u z given now) (sym (put_as_read u.changes oid base bytes final based_final)) change,
                ))
            by_pending (Some q) is got =
                put_open now (subst (λ (z : Option PendingStore). IsPut m at c u oid bytes z given now) (sym is)
                (subst (λ (z : Changed). IsChange m at c u z given now) (stored_base u.changes oid base (Held bytes) q is) change))

        view_read : InView j u.view v
        view_read = by_open c.transaction o.begun (subst (λ (z : Result Work Refusal). IsLinkedOpen j v z c.transaction) works_read read.opened)
          where
            by_open : (z : Option OpenTransaction) → z ≡ Some u → IsLinkedOpen j v (Ok w) z → InView j u.view v
            by_open None is opened = absurd opened
            by_open (Some d) is opened = subst (λ (e : OpenTransaction). InView j e.view v) (same_some is) opened.view

        -- the transaction with this change
        stored_to : (n : Work) → work_of y.connection ≡ Ok n → (lines.stored u.changes p).changes ≡ changes_kept n → given ≡ (lines.stored u.changes p).answer → end_of given ≡ None → Goal given
        stored_to n works changes says goes_on =
            let d : seen.Client = with_changes c u (lines.stored u.changes p).changes in
            let kept : IsLinkedWork y.connection v n (record u { changes = (lines.stored u.changes p).changes }) = record { changes = changes; far = o.is.far; view = change.view u.view v view_read } in
            let s : StandsForHub g after m = subst (λ (z : Moment). StandsForHub g after z) still_here read.stood in
            subst (λ (e : Option TurnError). LinkedEnds e rules m at c l given h g y after) (sym goes_on)
            (let leads : LinkedLeadsTo (Open given) m at c.session h g y after = record {
              now = with_client m at d;
              holds = put_so (with_client m at d) (says, refl);
              stands = record { hub = s.hub; vote = s.vote; within = s.within; counts = s.counts; stamps = s.stamps };
              client = d;
              placed = refl;
              is = client_of told lasts stands rules_in named_in x y h g before after packs t name number tells m at c takes d refl refl refl read.there
                  (subst (λ (z : Result Work Refusal). IsLinkedOpen y.connection v z d.transaction) (sym works) kept);
              others = read.others;
            } in
            leads)

        agreed : AgreesAs w (stored_in_work p w) (lines.stored (changes_kept w) p)
        agreed = stored_agrees p w

        abbrev Leaves : Result Work Refusal → Result (Unit {0}) Refusal → Type 0
        Leaves next z = LeavesWork next (work_of j) (work_of y.connection) z

        leaves_next : Leaves (stored_in_work p w) change.result
        leaves_next =
            subst (λ (b : Bool). Leaves (followed_by (if b then (let e : Result Work Refusal = Err refusal.Voted in e) else Ok w) (stored_in_work p)) change.result) fresh.unvoted
            (subst (λ (z : Result Work Refusal). Leaves (followed_by (changeable z) (stored_in_work p)) change.result) works_read change.leaves)

        says_done : (z : Result (Unit {0}) Refusal) → change.result ≡ z → given ≡ calm_answer (answered z answer.Stored)
        says_done z is = settles ∙ ap calm_answer (change.answer ∙ ap (λ (e : Result (Unit {0}) Refusal). answered e answer.Stored) is)

        read_put : Goal given
        read_put = by_result change.result refl (stored_in_work p w) refl leaves_next
          where
            by_result : (z : Result (Unit {0}) Refusal) → change.result ≡ z → (next : Result Work Refusal) → stored_in_work p w ≡ next → Leaves next z → Goal given
            by_result (Ok done) said (Ok n) ok leaves =
                let to : n ≡ with_kept w (lines.stored (changes_kept w) p).changes = subst (λ (z : Result Work Refusal). AgreesAs w z (lines.stored (changes_kept w) p)) ok agreed in
                let says : given ≡ answer.Stored = says_done (Ok done) said in
                stored_to n leaves.0 (ap (λ (ch : Changes). (lines.stored ch p).changes) o.is.changes ∙ ap changes_kept (sym to)) (says ∙ stored_done p w n ok ∙ ap (λ (ch : Changes). (lines.stored ch p).answer) (sym o.is.changes)) (ap end_of says)
            by_result (Ok done) said (Err r) ok leaves = absurd (not_ok r leaves.1)
            by_result (Err r) said next ok (inl err, stayed) =
                let so = subst (λ (z : Result Work Refusal). AgreesAs w z (lines.stored (changes_kept w) p)) (ok ∙ err) agreed in
                let long = too_long_so w p r (ok ∙ err) in
                let says : given ≡ answer.Refused r = says_done (Err r) said ∙ ap (λ (z : Refusal). answer.Refused (calm z)) long.1 ∙ ap (λ (z : Refusal). answer.Refused z) (sym long.1) in
                stored_to w (stayed ∙ works_read) (ap (λ (ch : Changes). (lines.stored ch p).changes) o.is.changes ∙ so.1) (says ∙ sym so.0 ∙ ap (λ (ch : Changes). (lines.stored ch p).answer) (sym o.is.changes)) (ap end_of says ∙ ap (λ (z : Refusal). end_of (answer.Refused z)) long.1)
            by_result (Err r) said next ok (inr starved, stayed) =
                let says : given ≡ answer.Refused refusal.Memory = says_done (Err r) said ∙ ap (λ (z : Refusal). answer.Refused (calm z)) starved in
                ended given (record {
                  now = read.now;
                  holds = starved_open rules m at c l given read.now says still_here;
                  rest = read.rest;
                  stood = read.stood;
                  others = read.others;
                  there = read.there;
                  opened = opened_at j y.connection v c.transaction stayed (λ z. change.view z v) (change.between v) read.opened;
                })

  -- ---- `put`

  pub put_law : (oid : ℕ) (bytes : List ℕ) (reply given : Answer) → PutOver told Steps machine x.connection a oid bytes reply y.connection b → given ≡ settled reply t → TakesLinked told rules (line.Put oid bytes) given h g x y before after
  put_law oid bytes reply given (put_refused r may is said) answers tells m at c takes = unchanged_put tells m at c takes oid bytes given r is may (answers ∙ ap (λ (z : Answer). settled z t) said)
  put_law oid bytes reply given (put_unread mid result r may got err said) answers tells m at c takes = unread_put tells m at c takes oid bytes mid may given result r got err (answers ∙ ap (λ (z : Answer). settled z t) said)
  put_law oid bytes reply given (put_read mid result base read may got based change) answers tells m at c takes = read_put tells m at c takes oid bytes mid may given result base read got based reply change answers
