-- Lines of a client with a link that change what waits in its transaction.
use Rattle.std.proofs.Common.{◌≡◌, ◌⊎◌, ℕ, Bool, true, false, List, Option, Some, None, Result, Ok, Err, if◌then◌else◌, refl, sym, ap, subst, ◌∙◌, inl, inr}
use Rattle.std.specs.Prelude.{IsOk}
use Rattle.std.specs.Option.{option_map}
use Rattle.zb_ids.specs.declared.stamp.Stamp.{Stamp}
use Rattle.zb_model.specs.declared.data.Transaction.{Transaction}
use Rattle.zb_model.specs.declared.refusal.Refusal.{Refusal}
use Rattle.zb_model.specs.declared.refusal.Refusal.TheVariants as refusal
use Rattle.zb_model.specs.Rules.{MergeRules}
use Rattle.zb_answers.specs.declared.answer.Answer.{Answer}
use Rattle.zb_answers.specs.declared.answer.Answer.TheVariants as answer
use Rattle.zb_script.specs.declared.line.Line.{Line}
use Rattle.zodb_core.specs.HubState.{HubState, rules_of}
use Rattle.zodb_core.specs.Machine.{Rules}
use Rattle.zodb_core.specs.Steps.{refuse_if}
use Rattle.connection_view.specs.Works.{Work}
use Rattle.connection_view.specs.Connections.{Between, InView, LeavesWork, changeable, followed_by, work_of}
use Rattle.connection_view.specs.Views.{View}
use Rattle.connection_view.specs.Views as views
use Rattle.hub_carrier.specs.declared.trouble.Trouble.{Trouble}
use Rattle.hub_carrier.specs.declared.trouble.Trouble.TheVariants as trouble
use Rattle.hub_carrier.specs.Ends.{end_at, machine_at}
use Rattle.remote_loads.specs.Standing.{Stands}
use Rattle.client_turns.specs.declared.linked.LinkedClient.{LinkedClient}
use Rattle.client_turns.specs.Clients.{Changes, Moment, OpenTransaction, changes_of, with_client}
use Rattle.client_turns.specs.Clients as seen
use Rattle.client_turns.specs.Lines.{Changed, end_of, request_of, with_changes}
use Rattle.client_turns.specs.Linked.{IsLinkedOf, IsLinkedOpen, IsLinkedWork, LinkLeadsTo, LinkedEnds, LinkedLeadsTo, TakesLinked}
use Rattle.client_turns.specs.Refusing.{line_refusal}
use Rattle.client_turns.specs.Settling.{calm_answer, settled}
use Rattle.client_turns.specs.Standing.{IsLineOpen, changes_kept, with_kept}
use Rattle.client_turns.specs.Turns.{IsCutAt}
use Rattle.client_turns.proofs.Changing.{AgreesAs, IsChanging}
use Rattle.client_turns.proofs.LinkEnds.{IsLinkedOpened, LinkEnd, client_at, link_end, linked_none, linked_opened, same_end, stays_so}
use Rattle.client_turns.proofs.One.{own_open, refused_open, starved_open}
use Rattle.client_turns.proofs.Others.{others_same}

-- ---- what a change leaves, whatever client it is of

-- a line was refused, or there was no memory for it, or it made its change of what is kept so
pub data ChangeLeaves (l : Line) (change : Changes → Changed) (ch : Option Changes) (wx wy : Result Work Refusal) (reply : Answer) : Type 0 where
  change_refused : (why : Refusal) → line_refusal ch l ≡ Some why → (why ≡ refusal.NoTransaction) ⊎ (why ≡ refusal.Voted) → reply ≡ answer.Refused why → wy ≡ wx → ChangeLeaves l change ch wx wy reply
  change_starved : reply ≡ answer.Refused refusal.Memory → wy ≡ wx → ChangeLeaves l change ch wx wy reply
  change_made : (w v : Work) → wx ≡ Ok w → ch ≡ Some (changes_kept w) → line_refusal ch l ≡ None → wy ≡ Ok v → (change (changes_kept w)).changes ≡ changes_kept v → reply ≡ (change (changes_kept w)).answer
      → ChangeLeaves l change ch wx wy reply

module _ {T : Type 0} (l : Line) (change : Changes → Changed) (f : Work → Result Work Refusal) (is : IsChanging l change) (agrees : (w : Work) → AgreesAs w (f w) (change (changes_kept w))) (wx wy : Result Work Refusal) (result : Result T Refusal) (reply : Answer)
    (leaves : LeavesWork (followed_by (changeable wx) f) wx wy result) (done : (w v : Work) (z : T) → wx ≡ Ok w → result ≡ Ok z → f w ≡ Ok v → reply ≡ (change (changes_kept w)).answer) (refused : (r : Refusal) → result ≡ Err r → reply ≡ answer.Refused r) where
  same_refusal : {r s : Refusal} → (let z : Result Work Refusal = Err r in z) ≡ Err s → r ≡ s
  same_refusal e = cc

  ok_err : (r : Refusal) → IsOk (let e : Result Work Refusal = Err r in e) → ⊥
  ok_err r e = absurd cc

  -- what should be refused is refused, or there was no memory
  not_done : (r : Refusal) (z : Result T Refusal) → followed_by (changeable wx) f ≡ Err r → LeavesWork (followed_by (changeable wx) f) wx wy z → (s : Refusal) × (z ≡ Err s) × ((s ≡ r) ⊎ (s ≡ refusal.Memory)) × (wy ≡ wx)
  not_done r (Ok z) err leaves = absurd (ok_err r (subst IsOk err leaves.1))
  not_done r (Err s) err (inl so, stayed) = (s, refl, inl (same_refusal (sym so ∙ err)), stayed)
  not_done r (Err s) err (inr starved, stayed) = (s, refl, inr starved, stayed)

  refuses : (ch : Option Changes) (r : Refusal) → followed_by (changeable wx) f ≡ Err r → line_refusal ch l ≡ Some r → (r ≡ refusal.NoTransaction) ⊎ (r ≡ refusal.Voted) → ChangeLeaves l change ch wx wy reply
  refuses ch r err told early = by_refusal (not_done r result err leaves)
    where
      by_refusal : (s : Refusal) × (result ≡ Err s) × ((s ≡ r) ⊎ (s ≡ refusal.Memory)) × (wy ≡ wx) → ChangeLeaves l change ch wx wy reply
      by_refusal (s, said, inl so, stayed) = change_refused r told early (refused s said ∙ ap (λ (z : Refusal). answer.Refused z) so) stayed
      by_refusal (s, said, inr starved, stayed) = change_starved (refused s said ∙ ap (λ (z : Refusal). answer.Refused z) starved) stayed

  -- where no transaction is open
  pub closed_leaves : wx ≡ Err refusal.NoTransaction → ChangeLeaves l change None wx wy reply
  closed_leaves works = refuses None refusal.NoTransaction (ap (λ (z : Result Work Refusal). followed_by (changeable z) f) works) is.unvoted.closed (inl refl)

  pub made_leaves : (w : Work) (next : Result Work Refusal) (z : Result T Refusal) → wx ≡ Ok w → result ≡ z → f w ≡ next → line_refusal (Some (changes_kept w)) l ≡ None → LeavesWork next wx wy z → ChangeLeaves l change (Some (changes_kept w)) wx wy reply
  made_leaves w (Ok v) (Ok z) works said ok free leaves =
      let to : v ≡ with_kept w (change (changes_kept w)).changes = subst (λ (n : Result Work Refusal). AgreesAs w n (change (changes_kept w))) ok (agrees w) in
      change_made w v works refl free leaves.0 (ap changes_kept (sym to)) (done w v z works said ok)
  made_leaves w (Err r) (Ok z) works said ok free leaves = absurd (ok_err r leaves.1)
  made_leaves w next (Err r) works said ok free (inl err, stayed) =
      let so = subst (λ (n : Result Work Refusal). AgreesAs w n (change (changes_kept w))) (ok ∙ err) (agrees w) in
      change_made w w works refl free (stayed ∙ works) so.1 (refused r said ∙ sym so.0)
  made_leaves w next (Err r) works said ok free (inr starved, stayed) = change_starved (refused r said ∙ ap (λ (z : Refusal). answer.Refused z) starved) stayed

  -- where one is
  pub open_leaves : (w : Work) → wx ≡ Ok w → ChangeLeaves l change (Some (changes_kept w)) wx wy reply
  open_leaves w works = by_voted w.is_voted refl
    where
      next : (b : Bool) → w.is_voted ≡ b → followed_by (changeable wx) f ≡ followed_by (if b then (let e : Result Work Refusal = Err refusal.Voted in e) else Ok w) f
      next b voted = ap (λ (z : Result Work Refusal). followed_by (changeable z) f) works ∙ ap (λ (b : Bool). followed_by (if b then (let e : Result Work Refusal = Err refusal.Voted in e) else Ok w) f) voted

      by_voted : (b : Bool) → w.is_voted ≡ b → ChangeLeaves l change (Some (changes_kept w)) wx wy reply
      by_voted true voted = refuses (Some (changes_kept w)) refusal.Voted (next true voted) (is.unvoted.voted (changes_kept w) ∙ ap (λ (b : Bool). refuse_if b refusal.Voted) voted) (inr refl)
      by_voted false voted =
          made_leaves w (f w) result works refl refl (is.unvoted.voted (changes_kept w) ∙ ap (λ (b : Bool). refuse_if b refusal.Voted) voted) (subst (λ (n : Result Work Refusal). LeavesWork n wx wy result) (next false voted) leaves)

-- ---- over a link

-- an answer that doesn't end the run, and is given as it is
pub record IsGiven (a : Answer) : Type 0 where
  pub goes_on : end_of a ≡ None
  pub calm : calm_answer a ≡ a

module _ {R F S : Type 0} (told lasts : Type 0) (stands : List ℕ → List Transaction → Type 0) (rules_in : R → MergeRules) (named_in : F → List ℕ → Option (List ℕ)) (x y : LinkedClient) (h g : HubState R F) (before after : Option (List Stamp)) (packs : Bool) (t : Trouble) (state : S → LinkEnd R F) (a b : S) (begins : state a ≡ link_end (end_at h before false trouble.NoFault) x) (ends : state b ≡ link_end (end_at g after packs t) y) (name : y.name ≡ x.name) (number : y.session ≡ x.session) where
  pub change_over : {T : Type 0} → (l : Line) (change : Changes → Changed) (f : Work → Result Work Refusal) (result : Result T Refusal) → IsChanging l change → ((w : Work) → AgreesAs w (f w) (change (changes_kept w))) → ((ch : Changes) → IsGiven (change ch).answer)
      → LeavesWork (followed_by (changeable (work_of x.connection)) f) (work_of x.connection) (work_of y.connection) result → b ≡ a
      → ((u : View) (v : views.Client) → InView x.connection u v → InView y.connection u v) → ((v : views.Client) → Between x.connection v → Between y.connection v) → (raw : Answer)
      → ((w v : Work) (z : T) → work_of x.connection ≡ Ok w → result ≡ Ok z → f w ≡ Ok v → raw ≡ (change (changes_kept w)).answer) → ((r : Refusal) → result ≡ Err r → raw ≡ answer.Refused r)
      → (reply : Answer) → reply ≡ settled raw t → TakesLinked told (rules_of rules_in named_in h) l reply h g x y before after
  change_over {T} l change f result is agrees given leaves kept view between raw done refused reply answers tells m at c takes = by_work (work_of x.connection) refl
    where
      rules : Rules
      rules = rules_of rules_in named_in h

      k : views.Client
      k = takes.client.told

      Goal : Type 0
      Goal = LinkedEnds (end_of reply) rules m at c l reply h g y after

      same : link_end (end_at g after packs t) y ≡ link_end (end_at h before false trouble.NoFault) x
      same = same_end told lasts stands rules_in named_in x y h g before after packs t state a b begins ends name tells m at c takes number kept

      quiet : t ≡ trouble.NoFault
      quiet = ap (λ (z : LinkEnd R F). z.there.trouble) same

      there : LinkedEnds (end_of reply) rules m at c l reply h h y before → Goal
      there goal = subst (λ (z : LinkEnd R F). LinkedEnds (end_of reply) rules m at c l reply h z.there.hub y z.there.stamps) (sym same) goal

      says : (z : Answer) → raw ≡ z → calm_answer z ≡ z → reply ≡ z
      says z is calm = answers ∙ ap (λ (w : Answer). settled w t) is ∙ ap (λ (w : Trouble). settled z w) quiet ∙ calm

      client_so : (d : seen.Client) → d.name ≡ c.name → d.session ≡ c.session → d.standing ≡ c.standing → IsLinkedOpen y.connection k (work_of y.connection) d.transaction → IsLinkedOf h y d
      client_so d named numbered standing opened =
          client_at told lasts stands rules_in named_in x y h g before after packs t state a b begins ends name tells m at c takes number (end_at h before false trouble.NoFault) d k named numbered (standing ∙ takes.client.linked)
          (subst (λ (z : LinkEnd R F). Stands (machine_at h) z.session z.desk z.client k) (sym same) takes.client.stands) opened

      -- the transaction as it was
      still : work_of y.connection ≡ work_of x.connection → IsLinkedOf h y c
      still stayed = client_so c refl refl refl (subst (λ (w : Result Work Refusal). IsLinkedOpen y.connection k w c.transaction) (sym stayed) (opened_as (work_of x.connection) c.transaction takes.client.transaction))
        where
          opened_as : (w : Result Work Refusal) (o : Option OpenTransaction) → IsLinkedOpen x.connection k w o → IsLinkedOpen y.connection k w o
          opened_as (Ok w) (Some t) is = record { changes = is.changes; far = is.far; view = view t.view k is.view }
          opened_as (Ok w) None is = absurd is
          opened_as (Err r) (Some t) is = absurd is
          opened_as (Err r) None is = (is.0, between k is.1)

      refuses : (why : Refusal) → line_refusal (changes_of c) l ≡ Some why → raw ≡ answer.Refused why → work_of y.connection ≡ work_of x.connection → calm_answer (answer.Refused why) ≡ answer.Refused why → end_of (answer.Refused why) ≡ None → Goal
      refuses why told_so is stayed calm goes_on =
          let said : reply ≡ answer.Refused why = says (answer.Refused why) is calm in
          stays_so told lasts stands rules_in named_in x y h g before after packs t state a b begins ends name tells m at c takes number l reply kept (still stayed) (ap end_of said ∙ goes_on) (refused_open rules m at c l reply m why told_so said refl)

      starves : raw ≡ answer.Refused refusal.Memory → Goal
      starves is =
          let said : reply ≡ answer.Refused refusal.Memory = says (answer.Refused refusal.Memory) is refl in
          there (subst (λ (z : Answer). LinkedEnds (end_of z) rules m at c l z h h y before) (sym said)
          (let leads : LinkLeadsTo (λ now. IsLineOpen rules m at c l (answer.Refused refusal.Memory) now ⊎ IsCutAt rules m c l now) m c.session h h before = record {
            now = m;
            holds = inl (starved_open rules m at c l (answer.Refused refusal.Memory) m refl refl);
            stands = takes.stands;
            clients = refl;
            others = others_same c.session h;
          } in
          leads))

      by_leaves : (ch : Option Changes) → changes_of c ≡ ch → ChangeLeaves l change ch (work_of x.connection) (work_of y.connection) raw → Goal
      by_leaves ch has (change_refused why told_so early is stayed) = by_early early
        where
          refused_as : line_refusal (changes_of c) l ≡ Some why
          refused_as = ap (λ (z : Option Changes). line_refusal z l) has ∙ told_so

          by_early : (why ≡ refusal.NoTransaction) ⊎ (why ≡ refusal.Voted) → Goal
          by_early (inl none) = refuses refusal.NoTransaction (refused_as ∙ ap (λ (z : Refusal). Some z) none) (is ∙ ap (λ (z : Refusal). answer.Refused z) none) stayed refl refl
          by_early (inr voted) = refuses refusal.Voted (refused_as ∙ ap (λ (z : Refusal). Some z) voted) (is ∙ ap (λ (z : Refusal). answer.Refused z) voted) stayed refl refl
      by_leaves ch has (change_starved is stayed) = starves is
      by_leaves ch has (change_made w v works is_kept free wy to said_so) =
          let o : IsLinkedOpened x.connection k w c = linked_opened x.connection k (work_of x.connection) w c takes.client.transaction works in
          let u : OpenTransaction = o.transaction in
          let said : reply ≡ (change (changes_kept w)).answer = says (change (changes_kept w)).answer said_so (given (changes_kept w)).calm in
          let d : seen.Client = with_changes c u (change u.changes).changes in
          let now : Moment = with_client m at d in
          let works_as : IsLinkedWork y.connection k v (record u { changes = (change u.changes).changes }) = record { changes = ap (λ (z : Changes). (change z).changes) o.is.changes ∙ to; far = o.is.far; view = view u.view k o.is.view } in
          let client : IsLinkedOf h y d = client_so d refl refl refl (subst (λ (wr : Result Work Refusal). IsLinkedOpen y.connection k wr (Some (record u { changes = (change u.changes).changes }))) (sym wy) works_as) in
          let holds : IsLineOpen rules m at c l reply now =
          own_open rules m at c l reply now u o.begun (ap (λ (z : Option Changes). line_refusal z l) has ∙ free)
          (ap (λ (z : Option Changes). request_of c.standing z l) (has ∙ is_kept) ∙ is.unvoted.asks c.standing (changes_kept w))
          (is.within m at c u reply now (said ∙ ap (λ (z : Changes). (change z).answer) (sym o.is.changes), refl)) in
          there (subst (λ (e : _). LinkedEnds e rules m at c l reply h h y before) (sym (ap end_of said ∙ (given (changes_kept w)).goes_on))
          (let leads : LinkedLeadsTo (IsLineOpen rules m at c l reply) m at c.session h h y before = record {
            now = now;
            holds = holds;
            stands = let b = takes.stands in record { hub = b.hub; vote = b.vote; within = b.within; counts = b.counts; stamps = b.stamps };
            client = d;
            placed = refl;
            is = client;
            others = others_same c.session h;
          } in
          leads))

      by_work : (wr : Result Work Refusal) → work_of x.connection ≡ wr → Goal
      by_work (Err r) works =
          let none = linked_none x.connection k (work_of x.connection) r c takes.client.transaction works in
          by_leaves None (ap (λ (z : Option OpenTransaction). option_map (λ (u : OpenTransaction). u.changes) z) none.1)
          (closed_leaves l change f is agrees (work_of x.connection) (work_of y.connection) result raw leaves done refused (works ∙ ap (λ (z : Refusal). let e : Result Work Refusal = Err z in e) none.0))
      by_work (Ok w) works =
          let o : IsLinkedOpened x.connection k w c = linked_opened x.connection k (work_of x.connection) w c takes.client.transaction works in
          by_leaves (Some (changes_kept w)) (ap (λ (z : Option OpenTransaction). option_map (λ (u : OpenTransaction). u.changes) z) o.begun ∙ ap (λ (z : Changes). Some z) o.is.changes)
          (open_leaves l change f is agrees (work_of x.connection) (work_of y.connection) result raw leaves done refused w works)
