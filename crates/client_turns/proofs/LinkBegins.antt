-- A transaction of a client with a link begins with what is known there.
use Rattle.std.proofs.Common.{◌≡◌, ℕ, Bool, false, List, [], Option, Some, None, Result, Ok, Err, refl, sym, ap, subst, ◌∙◌, inl}
use Rattle.std.specs.Prelude.{IfOk, IsOk, OnErr, OnOk}
use Rattle.zb_ids.specs.declared.stamp.Stamp.{Stamp}
use Rattle.zb_model.specs.declared.data.Transaction.{Transaction}
use Rattle.zb_model.specs.declared.pending.PendingCheck.{PendingCheck}
use Rattle.zb_model.specs.declared.pending.PendingStore.{PendingStore}
use Rattle.zb_model.specs.declared.refusal.Refusal.{Refusal}
use Rattle.zb_model.specs.declared.refusal.Refusal.TheVariants as refusal
use Rattle.zb_model.specs.Rules.{MergeRules}
use Rattle.zb_answers.specs.declared.answer.Answer.{Answer}
use Rattle.zb_answers.specs.declared.answer.Answer.TheVariants as answer
use Rattle.zb_script.specs.declared.line.Line.TheVariants as line
use Rattle.commit_phases.specs.Pending.{PendingChanges}
use Rattle.zodb_core.specs.declared.request.Request.{Request}
use Rattle.zodb_core.specs.HubState.{HubState, rules_of}
use Rattle.zodb_core.specs.Machine.{Rules}
use Rattle.connection_view.specs.declared.loads.FrontView.{FrontView}
use Rattle.connection_view.specs.Works.{Work}
use Rattle.connection_view.specs.Connections.{Between, InView, IsFrontBy, IsNewWork, begin_refusal, front_answer, work_of}
use Rattle.connection_view.specs.Loading.{Front, LoadsCall}
use Rattle.connection_view.specs.Views.{View, renewed}
use Rattle.connection_view.specs.Views as views
use Rattle.hub_carrier.specs.declared.trouble.Trouble.{Trouble}
use Rattle.hub_carrier.specs.declared.trouble.Trouble.TheVariants as trouble
use Rattle.hub_carrier.specs.Ends.{HubEnd, end_at}
use Rattle.client_turns.specs.declared.linked.LinkedClient.{LinkedClient}
use Rattle.client_turns.specs.Asking.{begun_as}
use Rattle.client_turns.specs.Clients.{Changes, Moment, OpenTransaction, begun_far, changes_of, no_changes, with_client, with_transaction}
use Rattle.client_turns.specs.Clients as seen
use Rattle.client_turns.specs.Lines.{end_of, request_of}
use Rattle.client_turns.specs.Linked.{IsLinkedOf, IsLinkedOpen, IsLinkedWork, LinkedEnds, LinkedLeadsTo, TakesLinked}
use Rattle.client_turns.specs.Refusing.{line_refusal}
use Rattle.client_turns.specs.Settling.{settled}
use Rattle.client_turns.specs.Standing.{IsLineOpen, changes_kept}
use Rattle.client_turns.specs.Turns.{IsLineTaken, IsLineUnless, IsOutside, IsOwnLine}
use Rattle.client_turns.proofs.LinkEnds.{IsLinkedOpened, LinkEnd, Makes, Stood, behind, call_made, client_at, link_end, linked_none, linked_opened, refused_so, stood, taken_as}
use Rattle.client_turns.proofs.Others.{others_same}

new_changes : (w : Work) (front : ℕ) → IsNewWork front w → no_changes ≡ changes_kept w
new_changes w front new =
    ap (λ (z : List PendingStore). let ch : Changes = record { pending = record { stores = z; checks = [] }; savepoints = []; is_voted = false } in ch) (sym new.stores)
    ∙ ap (λ (z : List PendingCheck). let ch : Changes = record { pending = record { stores = w.pending.stores; checks = z }; savepoints = []; is_voted = false } in ch) (sym new.checks)
    ∙ ap (λ (z : List PendingChanges). let ch : Changes = record { pending = w.pending; savepoints = z; is_voted = false } in ch) (sym new.savepoints)
    ∙ ap (λ (z : Bool). let ch : Changes = record { pending = w.pending; savepoints = w.savepoints; is_voted = z } in ch) (sym new.unvoted)

-- a line that is no step, where no transaction is open
outside_open : (rules : Rules) (m : Moment) (at : ℕ) (c : seen.Client) (known : View) (a : Answer) (now : Moment) → c.transaction ≡ None → c.standing ≡ seen.Linked known → a ≡ answer.Begun known.front
    → now ≡ with_client m at (with_transaction c (begun_far known)) → IsLineOpen rules m at c line.Begin a now
outside_open rules m at c known a now none linked answers left =
    inl (subst (λ (o : Option Refusal). IsLineUnless rules m at c line.Begin o a now) (sym (taken_as (λ ch. line_refusal ch line.Begin) c None none))
    (subst (λ (o : Option Request). IsLineTaken rules m at c line.Begin o a now) (sym (ap (λ (s : seen.Standing). request_of s (changes_of c) line.Begin) linked))
    (subst (λ (o : Option OpenTransaction). IsOwnLine m at c o line.Begin a now) (sym none)
    (subst (λ (s : seen.Standing). IsOutside m at c s a now) (sym linked) (answers, left)))))

module _ {R F S : Type 0} (told lasts : Type 0) (stands : List ℕ → List Transaction → Type 0) (rules_in : R → MergeRules) (named_in : F → List ℕ → Option (List ℕ)) (x y : LinkedClient) (h g : HubState R F) (before after : Option (List Stamp)) (packs : Bool) (t : Trouble) (state : S → LinkEnd R F) (a b : S) (begins : state a ≡ link_end (end_at h before false trouble.NoFault) x) (ends : state b ≡ link_end (end_at g after packs t) y) (name : y.name ≡ x.name) (number : y.session ≡ x.session) where
  abbrev MakesSo : S → LoadsCall → S → Type 0
  MakesSo o call n = Makes told lasts stands rules_in named_in x y h g before after packs t state a b begins ends name o call n

  abbrev StoodSo : S → views.Client → Type 0
  StoodSo s v = Stood told lasts stands rules_in named_in x y h g before after packs t state a b begins ends name s v

  pub begin_over : (result : Result ℕ Refusal) → IfOk result (λ front. (v : views.Client) → StoodSo a v → front ≡ v.known.front) → IfOk result (λ front. (w : Work) × (work_of y.connection ≡ Ok w) × IsNewWork front w)
      → OnOk result ((v : views.Client) → StoodSo a v → Between x.connection v → InView y.connection v.known (renewed v.known v)) → OnOk result ((v : views.Client) → StoodSo a v → StoodSo b (renewed v.known v))
      → ((r : Refusal) → begin_refusal (work_of x.connection) ≡ Some r → (result ≡ Err r) × (b ≡ a)) → (begin_refusal (work_of x.connection) ≡ None → IsFrontBy MakesSo a b result) → OnErr result (y.connection ≡ x.connection)
      → (given : Answer) → given ≡ settled (begun_as result) t → TakesLinked told (rules_of rules_in named_in h) line.Begin given h g x y before after
  begin_over result fronted opened view be refused made err given answers tells m at c takes = by_work (work_of x.connection) refl
    where
      rules : Rules
      rules = rules_of rules_in named_in h

      k : views.Client
      k = takes.client.told

      start : HubEnd R F
      start = end_at h before false trouble.NoFault

      finish : HubEnd R F
      finish = end_at g after packs t

      Goal : Type 0
      Goal = LinkedEnds (end_of given) rules m at c line.Begin given h g y after

      mine : StoodSo a k
      mine = stood told lasts stands rules_in named_in x y h g before after packs t state a b begins ends name tells m at c takes number

      by_work : (wr : Result Work Refusal) → work_of x.connection ≡ wr → Goal
      by_work (Ok w) works =
          let o : IsLinkedOpened x.connection k w c = linked_opened x.connection k (work_of x.connection) w c takes.client.transaction works in
          let said = refused refusal.InTransaction (ap begin_refusal works) in
          refused_so told lasts stands rules_in named_in x y h g before after packs t state a b begins ends name tells m at c takes number line.Begin given refusal.InTransaction said.1
          (subst (λ (z : Result ℕ Refusal). OnErr z (y.connection ≡ x.connection)) said.0 err) (taken_as (λ ch. line_refusal ch line.Begin) c (Some o.transaction) o.begun)
          (answers ∙ ap (λ (z : Result ℕ Refusal). settled (begun_as z) t) said.0) refl refl
      by_work (Err r) works = by_front told_by.0 told_by.2 (call_made told lasts stands rules_in named_in x y h g before after packs t state a b begins ends name tells m at c takes number (Front told_by.0) told_by.1)
        where
          none : (r ≡ refusal.NoTransaction) × (c.transaction ≡ None) × Between x.connection k
          none = linked_none x.connection k (work_of x.connection) r c takes.client.transaction works

          told_by : IsFrontBy MakesSo a b result
          told_by = made (ap begin_refusal (works ∙ ap (λ (z : Refusal). let e : Result Work Refusal = Err z in e) none.0))

          by_front : (f : Result FrontView Refusal) → result ≡ front_answer f → (finish ≡ start) × IsOk f → Goal
          by_front (Err r) is so = absurd (not_ok so.1)
            where
              not_ok : IsOk (let e : Result FrontView Refusal = Err r in e) → ⊥
              not_ok e = absurd cc
          by_front (Ok f) is so =
              let quiet : t ≡ trouble.NoFault = ap (λ (z : HubEnd R F). z.trouble) so.0 in
              let front : f.front ≡ k.known.front = subst (λ (z : Result ℕ Refusal). IfOk z (λ front. (v : views.Client) → StoodSo a v → front ≡ v.known.front)) is fronted k mine in
              let says : given ≡ answer.Begun k.known.front = answers ∙ ap (λ (z : Result ℕ Refusal). settled (begun_as z) t) is ∙ ap (λ (z : Trouble). settled (answer.Begun f.front) z) quiet ∙ ap (λ (z : ℕ). answer.Begun z) front in
              let work = subst (λ (z : Result ℕ Refusal). IfOk z (λ front. (w : Work) × (work_of y.connection ≡ Ok w) × IsNewWork front w)) is opened in
              let sees = subst (λ (z : Result ℕ Refusal). OnOk z ((v : views.Client) → StoodSo a v → Between x.connection v → InView y.connection v.known (renewed v.known v))) is view k mine none.2 in
              let still = subst (λ (z : Result ℕ Refusal). OnOk z ((v : views.Client) → StoodSo a v → StoodSo b (renewed v.known v))) is be k mine in
              let d : seen.Client = with_transaction c (begun_far k.known) in
              let works_as : IsLinkedWork y.connection (renewed k.known k) work.0 (begun_far k.known) = record { changes = new_changes work.0 f.front work.2; far = refl; view = sees } in
              let client : IsLinkedOf finish.hub y d =
              client_at told lasts stands rules_in named_in x y h g before after packs t state a b begins ends name tells m at c takes number finish d (renewed k.known k) refl refl takes.client.linked
              (behind told lasts stands rules_in named_in x y h g before after packs t state a b begins ends name tells m at c takes number (renewed k.known k) still)
              (subst (λ (wr : Result Work Refusal). IsLinkedOpen y.connection (renewed k.known k) wr (Some (begun_far k.known))) (sym work.1) works_as) in
              let there : IsLinkedOf h y d = subst (λ (z : HubEnd R F). IsLinkedOf z.hub y d) so.0 client in
              subst (λ (z : HubEnd R F). LinkedEnds (end_of given) rules m at c line.Begin given h z.hub y z.stamps) (sym so.0)
              (subst (λ (e : _). LinkedEnds e rules m at c line.Begin given h h y before) (sym (ap end_of says))
              (let leads : LinkedLeadsTo (IsLineOpen rules m at c line.Begin given) m at c.session h h y before = record {
                now = with_client m at d;
                holds = outside_open rules m at c k.known given (with_client m at d) none.1 takes.client.linked says refl;
                stands = let s = takes.stands in record { hub = s.hub; vote = s.vote; within = s.within; counts = s.counts; stamps = s.stamps };
                client = d;
                placed = refl;
                is = there;
                others = others_same c.session h;
              } in
              leads))
