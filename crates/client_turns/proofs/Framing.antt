-- What lines and their parts do to a hub, whatever its store tells.
use Rattle.std.proofs.Common.{◌≡◌, ◌==◌, ◌⊎◌, ℕ, length, Bool, true, false, List, [], Option, Some, None, Result, Ok, Err, if◌then◌else◌, refl, sym, ap, subst, ◌∙◌, arith, inl, inr}
use Rattle.std.specs.Prelude.{IsOk, slice_get}
use Rattle.zb_ids.specs.declared.stamp.Stamp.{Stamp}
use Rattle.zb_volume.specs.declared.areas.Area.TheVariants.{Main, Side}
use Rattle.zb_volume.specs.Moments.{Leaves, LeavesOnly}
use Rattle.zb_volume.specs.Runs.{along_now, joined}
use Rattle.zb_model.specs.declared.data.Content.TheVariants.{Held}
use Rattle.zb_model.specs.StayLaws.{stays_same, stays_then}
use Rattle.zb_model.specs.declared.data.Transaction.{Transaction}
use Rattle.zb_model.specs.declared.pending.PendingStore.{PendingStore}
use Rattle.zb_model.specs.declared.refusal.Refusal.{Refusal}
use Rattle.zb_model.specs.declared.refusal.Refusal.TheVariants as refusal
use Rattle.zb_model.specs.Rules.{MergeRules}
use Rattle.zb_model.specs.Stores.{StoreState}
use Rattle.zb_answers.specs.declared.answer.Answer.{Answer}
use Rattle.zb_answers.specs.declared.answer.Answer.TheVariants as answer
use Rattle.zb_script.specs.declared.line.Line.{Line}
use Rattle.zb_script.specs.declared.line.Line.TheVariants as line
use Rattle.commit_phases.specs.Pending.{excess_with, pending_of}
use Rattle.zodb_core.specs.declared.reply.Reply.{Reply}
use Rattle.zodb_core.specs.declared.reply.Reply.TheVariants as reply
use Rattle.zodb_core.specs.declared.request.Request.{Request}
use Rattle.zodb_core.specs.declared.request.Request.TheVariants as request
use Rattle.zodb_core.specs.HubState.{HubState, IsBeforeOrBehind, counts_of, is_store_failed, rules_of}
use Rattle.zodb_core.specs.Machine.{Machine, Rules}
use Rattle.zodb_core.specs.Steps.{step_of}
use Rattle.zodb_core.specs.Outcomes.{Answered, AreLaterCounts, FaultCounts, NoMemory, ReadingFailed, StepOutcome, StoreFailed, is_pack, keeps_store, outcome_of, outcome_of_refusal}
use Rattle.connection_view.specs.declared.connection.Connection.{Connection}
use Rattle.connection_view.specs.declared.loads.Loaded.{Loaded}
use Rattle.connection_view.specs.Works.{Work}
use Rattle.connection_view.specs.Connections.{IsCallMade, IsFrontBy, IsPutAsRead, IsReadAnswered, IsReadBy, IsUnasked, LeavesWork, base_read, begin_refusal, changeable, followed_by, open_work, stored_in_work, stored_unless, unmixed, waiting_count, waiting_read, work_of}
use Rattle.connection_view.specs.Connections as connections
use Rattle.connection_view.specs.Loading.{Abort, Finish, Front, Load, LoadsCall, Undo, Vote}
use Rattle.connection_view.specs.Views.{Server}
use Rattle.connection_view.specs.Views as views
use Rattle.connection_view.specs.ViewLaws.{unopened}
use Rattle.local_loads.specs.declared.told.Told.{Told}
use Rattle.local_loads.specs.Answers.{load_answer, refusal_in, server_refusal}
use Rattle.local_loads.specs.Answers as locals
use Rattle.local_loads.specs.LocalLaws.{machine_of, stands_for}
use Rattle.local_loads.specs.Local.{LocalState}
use Rattle.local_loads.specs.Making.{IsFinishStep, IsFrontBehind, IsFrontStep, IsHubStep, IsLocalCall, IsOneStep, IsStarved}
use Rattle.client_turns.specs.Asking.{IsCalm, answered, begun_as, delivered_with, finished_as, plain_request}
use Rattle.client_turns.specs.Clients.{Local, Moment}
use Rattle.client_turns.specs.CountLaws.{waiting_outcome}
use Rattle.client_turns.specs.declared.errors.TurnError.{TurnError}
use Rattle.client_turns.specs.declared.errors.TurnError.TheVariants as error
use Rattle.client_turns.specs.Lines.{IsCountedBy, answer_of, end_in, end_of, outcome_of_answer, outcome_of_end, outcome_of_read, outcome_of_result, request_of}
use Rattle.client_turns.specs.declared.client.Client.{Client}
use Rattle.client_turns.specs.declared.member.Member.{Member}
use Rattle.client_turns.specs.declared.member.Member.TheVariants.{Near}
use Rattle.client_turns.specs.Members.{session_of}
use Rattle.client_turns.specs.Standing.{IsEndListOf, IsStepListOf, KeepsHub, LeavesHub, ReadsHub}
use Rattle.client_turns.specs.Steps.{IsStepAt}
use Rattle.client_turns.specs.TurnLaws.{step_at_left, step_left}
use Rattle.client_turns.proofs.Causes.{calm_step, closed_counts, counted_of, ended_so}
use Rattle.client_turns.proofs.Crashes.{asked_no_pack, in_step, kept_moments, left_moments, unmoved_in}
use Rattle.client_turns.proofs.Hubs.{not_failed}
use Rattle.client_turns.proofs.One.{StepsTo, steps_to}

-- ---- answers that move no count

pub calm_counts : (o : StepOutcome) (counts : FaultCounts) → IsCalm o → IsCountedBy counts counts o
calm_counts Answered counts calm = refl
calm_counts NoMemory counts calm = refl
calm_counts ReadingFailed counts (inl e) = absurd cc
calm_counts ReadingFailed counts (inr e) = absurd cc
calm_counts StoreFailed counts (inl e) = absurd cc
calm_counts StoreFailed counts (inr e) = absurd cc

pub calm_whole : (o : StepOutcome) → IsCalm o → is_store_failed o ≡ false
calm_whole Answered calm = refl
calm_whole NoMemory calm = refl
calm_whole ReadingFailed calm = refl
calm_whole StoreFailed (inl e) = absurd cc
calm_whole StoreFailed (inr e) = absurd cc

-- a count that stands as it stood where nothing failed
pub calm_same : (before now : FaultCounts) (o : StepOutcome) → IsCalm o → IsCountedBy before now o → now ≡ before
calm_same before now Answered calm counts = counts
calm_same before now NoMemory calm counts = counts
calm_same before now ReadingFailed (inl e) counts = absurd cc
calm_same before now ReadingFailed (inr e) counts = absurd cc
calm_same before now StoreFailed (inl e) counts = absurd cc
calm_same before now StoreFailed (inr e) counts = absurd cc

-- and the other way round, whichever of the two it is
pub calm_other : (before now : FaultCounts) (o p : StepOutcome) → IsCalm o → IsCalm p → IsCountedBy before now o → IsCountedBy before now p
calm_other before now o p calm also counts = subst (λ (k : FaultCounts). IsCountedBy before k p) (sym (calm_same before now o calm counts)) (calm_counts p before also)

pub server_outcome : (why : Refusal) → outcome_of_refusal (server_refusal why) ≡ outcome_of_refusal why
server_outcome refusal.ReadFault = refl
server_outcome refusal.Memory = refl
server_outcome refusal.StoreFault = refl
server_outcome _ = refl

pub reply_outcome : (r : Reply) → outcome_of_refusal (refusal_in r) ≡ outcome_of r
reply_outcome (reply.Refused why) = server_outcome why
reply_outcome _ = refl

-- ---- what the connection refuses by itself

pub closed_calm : (k : Connection) (r : Refusal) → work_of k ≡ Err r → IsCalm (outcome_of_refusal r)
closed_calm k r is = by_refusal (unopened k r is)
  where
    by_refusal : (r ≡ refusal.NotOpen) ⊎ (r ≡ refusal.NoTransaction) → IsCalm (outcome_of_refusal r)
    by_refusal (inl e) = inl (ap outcome_of_refusal e)
    by_refusal (inr e) = inl (ap outcome_of_refusal e)

-- of a transaction that may be changed, or why it may not
pub unchanged_calm : (k : Connection) (f : Work → Result Work Refusal) (r : Refusal) → ((w : Work) → f w ≡ Err r → IsCalm (outcome_of_refusal r)) → followed_by (changeable (work_of k)) f ≡ Err r → IsCalm (outcome_of_refusal r)
unchanged_calm k f r calm is = by_work (work_of k) refl is
  where
    same_refusal : (a b : Refusal) → (let e : Result Work Refusal = Err a in e) ≡ Err b → a ≡ b
    same_refusal a b e = cc

    by_voted : (w : Work) (b : Bool) → followed_by (if b then (let e : Result Work Refusal = Err refusal.Voted in e) else Ok w) f ≡ Err r → IsCalm (outcome_of_refusal r)
    by_voted w true is = inl (ap outcome_of_refusal (sym (same_refusal refusal.Voted r is)))
    by_voted w false is = calm w is

    by_work : (wr : Result Work Refusal) → work_of k ≡ wr → followed_by (changeable wr) f ≡ Err r → IsCalm (outcome_of_refusal r)
    by_work (Err s) works is = closed_calm k r (works ∙ is)
    by_work (Ok w) works is = by_voted w w.is_voted is

-- what such a change is answered
pub leaves_calm : {T : Type 0} (k l : Connection) (f : Work → Result Work Refusal) (result : Result T Refusal) → ((w : Work) (r : Refusal) → f w ≡ Err r → IsCalm (outcome_of_refusal r)) → LeavesWork (followed_by (changeable (work_of k)) f) (work_of k) (work_of l) result → IsCalm (outcome_of_result result)
leaves_calm k l f (Ok x) calm leaves = inl refl
leaves_calm k l f (Err r) calm (inl is, stayed) = unchanged_calm k f r (λ w. calm w r) is
leaves_calm k l f (Err r) calm (inr starved, stayed) = inr (ap outcome_of_refusal starved)

-- ---- a hub to which nothing was done

module _ {R F : Type 0} (told lasts : Type 0) (stands : List ℕ → List Transaction → Type 0) (rules : Rules) (h g : HubState R F) where
  pub none_leaves : (x : Option Member) (l : Line) (o : StepOutcome) → IsCalm o → g ≡ h → LeavesHub told lasts stands rules x l o h g
  none_leaves x l o calm same = subst (λ (z : HubState R F). LeavesHub told lasts stands rules x l o h z) (sym same) (record {
    resolver = refl;
    refs = refl;
    later = record { reads = omega arith; others = omega arith };
    cause = calm_counts o (counts_of h.store) calm;
    broken = λ whole. whole ∙ sym (calm_whole o calm);
    side = λ lasts packs. stays_same Side h.store.log h.store.log refl;
    moments = λ lasts told whole m stands_for leaves. unmoved_in stands rules x l m h.store.log h.store.log refl leaves;
  })

  pub none_reads : (o : StepOutcome) → IsCalm o → g ≡ h → ReadsHub told lasts stands o h g
  none_reads o calm same = record { keeps = none_leaves None line.Savepoint o calm same; list = λ told whole. ap (λ (z : HubState R F). z.store.list) same; whole = calm_whole o calm }

  -- or none to its store
  pub store_leaves : (x : Option Member) (l : Line) (o : StepOutcome) → IsCalm o → g.store ≡ h.store → g.resolver ≡ h.resolver → g.refs ≡ h.refs → LeavesHub told lasts stands rules x l o h g
  store_leaves x l o calm store resolver refs = record {
    resolver = resolver;
    refs = refs;
    later = subst (λ (s : StoreState). AreLaterCounts (counts_of h.store) (counts_of s)) (sym store) (record { reads = omega arith; others = omega arith });
    cause = subst (λ (s : StoreState). IsCountedBy (counts_of h.store) (counts_of s) o) (sym store) (calm_counts o (counts_of h.store) calm);
    broken = λ whole. ap (λ (s : StoreState). s.broken) store ∙ whole ∙ sym (calm_whole o calm);
    side = λ lasts packs. stays_same Side h.store.log g.store.log (ap (λ (s : StoreState). s.log) store);
    moments = λ lasts told whole m stands_for leaves. unmoved_in stands rules x l m h.store.log g.store.log (ap (λ (s : StoreState). s.log) store) leaves;
  }

  -- what ended otherwise, with the same counts
  pub leaves_as : (x : Option Member) (l : Line) (o p : StepOutcome) → (IsCountedBy (counts_of h.store) (counts_of g.store) o → IsCountedBy (counts_of h.store) (counts_of g.store) p) → is_store_failed p ≡ is_store_failed o → LeavesHub told lasts stands rules x l o h g
      → LeavesHub told lasts stands rules x l p h g
  leaves_as x l o p counts failed leaves = record {
    resolver = leaves.resolver;
    refs = leaves.refs;
    later = leaves.later;
    cause = counts leaves.cause;
    broken = λ whole. leaves.broken whole ∙ sym failed;
    side = leaves.side;
    moments = leaves.moments;
  }

  pub reads_as : (o p : StepOutcome) → (IsCountedBy (counts_of h.store) (counts_of g.store) o → IsCountedBy (counts_of h.store) (counts_of g.store) p) → is_store_failed p ≡ false → ReadsHub told lasts stands o h g → ReadsHub told lasts stands p h g
  reads_as o p counts failed reads = record { keeps = leaves_as None line.Savepoint o p counts (failed ∙ sym reads.whole) reads.keeps; list = reads.list; whole = failed }

-- ---- a step

module _ {R F : Type 0} (told lasts : Type 0) (stands : List ℕ → List Transaction → Type 0) (rules_in : R → MergeRules) (named_in : F → List ℕ → Option (List ℕ)) (n : ℕ) (q : Request) (r : Reply) (h g : HubState R F) (before after : Option (List Stamp)) (step : IsHubStep told lasts stands rules_in named_in n q r h g before after) where
  pub step_counts : IsCountedBy (counts_of h.store) (counts_of g.store) (outcome_of r)
  step_counts = counted_of (counts_of h.store) (counts_of g.store) (outcome_of r) step.safe.cause step.safe.others

  pub step_keeps : KeepsHub told lasts stands (is_pack q) (λ m. IsBeforeOrBehind stands (rules_of rules_in named_in h) m n q) (outcome_of r) h g
  step_keeps = record {
    resolver = step.safe.resolver;
    refs = step.safe.refs;
    later = step.safe.later;
    cause = step_counts;
    broken = step.safe.broken;
    side = step.side;
    moments = λ on tells whole m stands_for leaves. step.any_moment on tells whole m stands_for;
  }

  -- a step that leaves the list
  pub step_keeps_list : ((m : Machine) → (step_of (rules_of rules_in named_in h) m n q 0).machine.list ≡ m.list) → KeepsHub told lasts stands (is_pack q) (λ m bytes. stands bytes m.list) (outcome_of r) h g
  step_keeps_list same = record {
    resolver = step_keeps.resolver;
    refs = step_keeps.refs;
    later = step_keeps.later;
    cause = step_keeps.cause;
    broken = step_keeps.broken;
    side = step_keeps.side;
    moments = λ on tells whole m stands_for leaves. kept_moments stands (rules_of rules_in named_in h) m n q h.store.log g.store.log (same m) (step.any_moment on tells whole m stands_for);
  }

  -- a step by which no list is changed, whatever it holds
  pub step_reads : keeps_store q ≡ true → KeepsHub told lasts stands false (λ m bytes. stands bytes m.list) (outcome_of r) h g → ((rules : Rules) (m : Moment) (now : Moment) → IsStepAt rules m n q r now → now.machine.list ≡ m.machine.list) → ReadsHub told lasts stands (outcome_of r) h g
  step_reads kept keeps left = record {
    keeps = keeps;
    whole = not_failed (outcome_of r) (step.unwritten kept);
    list = λ tells whole.
        let m : Moment = record { machine = machine_of h; clients = []; stamps = before; counts = counts_of h.store } in
        let s : StepsTo (rules_of rules_in named_in h) m n q r g after = steps_to told lasts stands rules_in named_in tells m n q r h g before after step (stands_for h) refl refl in
        sym (s.hub.list (step.safe.broken whole ∙ not_failed (outcome_of r) (step.unwritten kept))) ∙ left (rules_of rules_in named_in h) m s.now s.holds;
  }

pub front_reads : {R F : Type 0} (told lasts : Type 0) (stands : List ℕ → List Transaction → Type 0) (rules_in : R → MergeRules) (named_in : F → List ℕ → Option (List ℕ)) (n : ℕ) (r : Reply) (h g : HubState R F) (before after : Option (List Stamp)) → IsHubStep told lasts stands rules_in named_in n request.Front r h g before after
    → ReadsHub told lasts stands (outcome_of r) h g
front_reads told lasts stands rules_in named_in n r h g before after step =
    step_reads told lasts stands rules_in named_in n request.Front r h g before after step refl (step_keeps_list told lasts stands rules_in named_in n request.Front r h g before after step (λ m. step_left (rules_of rules_in named_in h) m n request.Front 0))
    (λ rules m now is. step_at_left rules m n request.Front r now is)

pub load_reads_hub : {R F : Type 0} (told lasts : Type 0) (stands : List ℕ → List Transaction → Type 0) (rules_in : R → MergeRules) (named_in : F → List ℕ → Option (List ℕ)) (n oid front : ℕ) (r : Reply) (h g : HubState R F) (before after : Option (List Stamp))
    → IsHubStep told lasts stands rules_in named_in n (request.LoadBefore oid front) r h g before after → ReadsHub told lasts stands (outcome_of r) h g
load_reads_hub told lasts stands rules_in named_in n oid front r h g before after step =
    step_reads told lasts stands rules_in named_in n (request.LoadBefore oid front) r h g before after step refl (step_keeps_list told lasts stands rules_in named_in n (request.LoadBefore oid front) r h g before after step (λ m. step_left (rules_of rules_in named_in h) m n (request.LoadBefore oid front) 0))
    (λ rules m now is. step_at_left rules m n (request.LoadBefore oid front) r now is)

pub draw_reads : {R F : Type 0} (told lasts : Type 0) (stands : List ℕ → List Transaction → Type 0) (rules_in : R → MergeRules) (named_in : F → List ℕ → Option (List ℕ)) (n : ℕ) (r : Reply) (h g : HubState R F) (before after : Option (List Stamp)) → IsHubStep told lasts stands rules_in named_in n (request.NewOids 1) r h g before after
    → ReadsHub told lasts stands (outcome_of r) h g
draw_reads told lasts stands rules_in named_in n r h g before after step =
    step_reads told lasts stands rules_in named_in n (request.NewOids 1) r h g before after step refl (step_keeps_list told lasts stands rules_in named_in n (request.NewOids 1) r h g before after step (λ m. step_left (rules_of rules_in named_in h) m n (request.NewOids 1) 0))
    (λ rules m now is. step_at_left rules m n (request.NewOids 1) r now is)

-- ---- one part behind another

module _ {R F : Type 0} (told lasts : Type 0) (stands : List ℕ → List Transaction → Type 0) (h g k : HubState R F) where
  abbrev Keeps : StepOutcome → HubState R F → HubState R F → Type 0
  Keeps o old new = KeepsHub told lasts stands false (λ m bytes. stands bytes m.list) o old new

  pub keeps_then : (o : StepOutcome) → Keeps Answered h g → (told → h.store.broken ≡ false → g.store.list ≡ h.store.list) → Keeps o g k → Keeps o h k
  keeps_then o one list two = record {
    resolver = two.resolver ∙ one.resolver;
    refs = two.refs ∙ one.refs;
    later = record { reads = omega (arith, one.later.reads, two.later.reads); others = omega (arith, one.later.others, two.later.others) };
    cause = subst (λ (c : FaultCounts). IsCountedBy c (counts_of k.store) o) one.cause two.cause;
    broken = λ whole. two.broken (one.broken whole);
    side = λ on packs. stays_then Side h.store.log g.store.log k.store.log (one.side on packs) (two.side on packs);
    moments = λ on tells whole m is leaves.
        let whole_then : g.store.broken ≡ false = one.broken whole in
        let same : g.store.list ≡ m.list = list tells whole ∙ sym (is.list whole) in
        let first = one.moments on tells whole m is leaves in
        joined (Leaves Main (λ bytes. stands bytes m.list)) h.store.log g.store.log k.store.log first
        (subst (λ (l : List Transaction). LeavesOnly Main (λ bytes. stands bytes l) g.store.log k.store.log) same
        (two.moments on tells whole_then (machine_of g) (stands_for g)
        (subst (λ (l : List Transaction). Leaves Main (λ bytes. stands bytes l) g.store.log) (sym same) (along_now (Leaves Main (λ bytes. stands bytes m.list)) h.store.log g.store.log first))));
  }

  pub reads_then : (o : StepOutcome) → ReadsHub told lasts stands Answered h g → ReadsHub told lasts stands o g k → ReadsHub told lasts stands o h k
  reads_then o one two = record {
    keeps = keeps_then o one.keeps one.list two.keeps;
    list = λ tells whole. two.list tells (one.keeps.broken whole) ∙ one.list tells whole;
    whole = two.whole;
  }

-- ---- reads of a connection

read_outcome : (oid switches : ℕ) (r : Reply) (before now : FaultCounts) (result : Result (ℕ × List ℕ) Refusal) → IsReadAnswered oid switches (load_answer r) result → is_store_failed (outcome_of r) ≡ false → IsCountedBy before now (outcome_of r)
    → IsCountedBy before now (outcome_of_read result) × (is_store_failed (outcome_of_read result) ≡ false)
read_outcome oid switches (reply.Loaded serial bytes end upto) before now result (inl so) whole counts = subst (λ (z : Result (ℕ × List ℕ) Refusal). IsCountedBy before now (outcome_of_read z) × (is_store_failed (outcome_of_read z) ≡ false)) (sym so) (counts, refl)
read_outcome oid switches (reply.Loaded serial bytes end upto) before now result (inr so) whole counts = subst (λ (z : Result (ℕ × List ℕ) Refusal). IsCountedBy before now (outcome_of_read z) × (is_store_failed (outcome_of_read z) ≡ false)) (sym so) (counts, refl)
read_outcome oid switches (reply.Nothing o packed) before now result so whole counts = subst (λ (z : Result (ℕ × List ℕ) Refusal). IsCountedBy before now (outcome_of_read z) × (is_store_failed (outcome_of_read z) ≡ false)) (sym so) (counts, refl)
read_outcome oid switches (reply.Refused why) before now result so whole counts =
    subst (λ (z : Result (ℕ × List ℕ) Refusal). IsCountedBy before now (outcome_of_read z) × (is_store_failed (outcome_of_read z) ≡ false)) (sym so.0)
    (subst (λ (o : StepOutcome). IsCountedBy before now o × (is_store_failed o ≡ false)) (sym (server_outcome why)) (counts, whole))
read_outcome oid switches _ before now result so whole counts = subst (λ (z : Result (ℕ × List ℕ) Refusal). IsCountedBy before now (outcome_of_read z) × (is_store_failed (outcome_of_read z) ≡ false)) (sym so.0) (counts, refl)

unasked_calm : (result : Result (ℕ × List ℕ) Refusal) → IsUnasked result → IsCalm (outcome_of_read result)
unasked_calm (Ok d) un = inl refl
unasked_calm (Err r) un = inr (ap outcome_of_refusal un)

-- what waits is told without a call
waiting_calm : (oid : ℕ) (p : PendingStore) (result : Result (ℕ × List ℕ) Refusal) → (result ≡ waiting_read oid p) ⊎ (result ≡ Err refusal.Memory) → IsCalm (outcome_of_read result)
waiting_calm oid p result (inl is) = inl (ap outcome_of_read is ∙ waiting_outcome oid p.base p.content)
waiting_calm oid p result (inr starved) = inr (ap outcome_of_read starved)

module _ {R F S : Type 0} (told lasts : Type 0) (stands : List ℕ → List Transaction → Type 0) (rules_in : R → MergeRules) (named_in : F → List ℕ → Option (List ℕ)) (n : ℕ) (old new : LocalState R F) (makes : S → LoadsCall → S → Type 0) (a b : S) (calls : (call : LoadsCall) → makes a call b → IsLocalCall (IsHubStep told lasts stands rules_in named_in n) call old new) (same : b ≡ a → new ≡ old) where
  pub read_hub : (oid front switches : ℕ) (result : Result (ℕ × List ℕ) Refusal) → IsReadBy makes a b oid front switches result → ReadsHub told lasts stands (outcome_of_read result) old.hub new.hub
  read_hub oid front switches result (inl unasked) =
      none_reads told lasts stands (rules_of rules_in named_in old.hub) old.hub new.hub (outcome_of_read result) (unasked_calm result unasked.1) (ap (λ (l : LocalState R F). l.hub) (same unasked.0))
  read_hub oid front switches result (inr loaded) =
      let one : IsOneStep (IsHubStep told lasts stands rules_in named_in n) (request.LoadBefore oid front) load_answer old new loaded.0 = calls (Load oid front loaded.0) loaded.1 in
      let reads : ReadsHub told lasts stands (outcome_of one.reply) old.hub new.hub = load_reads_hub told lasts stands rules_in named_in n oid front one.reply old.hub new.hub old.stamps new.stamps one.step in
      let so = read_outcome oid switches one.reply (counts_of old.hub.store) (counts_of new.hub.store) result (subst (λ (z : Result Loaded Refusal). IsReadAnswered oid switches z result) one.answer loaded.2) reads.whole reads.keeps.cause in
      reads_as told lasts stands (rules_of rules_in named_in old.hub) old.hub new.hub (outcome_of one.reply) (outcome_of_read result) (λ counts. so.0) so.1 reads

  -- of a connection, whatever is open
  pub read_any : (k : Connection) (oid : ℕ) (result : Result (ℕ × List ℕ) Refusal) → ((r : Refusal) → work_of k ≡ Err r → (result ≡ Err r) × (b ≡ a)) → ((w : Work) → work_of k ≡ Ok w → IsReadBy makes a b oid w.front w.switches result)
      → ReadsHub told lasts stands (outcome_of_read result) old.hub new.hub
  read_any k oid result refused made = by_work (work_of k) refl
    where
      by_work : (wr : Result Work Refusal) → work_of k ≡ wr → ReadsHub told lasts stands (outcome_of_read result) old.hub new.hub
      by_work (Ok w) works = read_hub oid w.front w.switches result (made w works)
      by_work (Err r) works =
          let said = refused r works in
          none_reads told lasts stands (rules_of rules_in named_in old.hub) old.hub new.hub (outcome_of_read result) (subst (λ (z : Result (ℕ × List ℕ) Refusal). IsCalm (outcome_of_read z)) (sym said.0) (closed_calm k r works)) (ap (λ (l : LocalState R F). l.hub) (same said.1))

  -- and of what waits, or else a read
  pub get_any : (k : Connection) (oid : ℕ) (result : Result (ℕ × List ℕ) Refusal) → ((w : Work) (p : PendingStore) → work_of k ≡ Ok w → pending_of w.pending.stores oid ≡ Some p → ((result ≡ waiting_read oid p) ⊎ (result ≡ Err refusal.Memory)) × (b ≡ a))
      → ((r : Refusal) → work_of k ≡ Err r → (result ≡ Err r) × (b ≡ a)) → ((w : Work) → work_of k ≡ Ok w → pending_of w.pending.stores oid ≡ None → IsReadBy makes a b oid w.front w.switches result) → ReadsHub told lasts stands (outcome_of_read result) old.hub new.hub
  get_any k oid result waiting refused made = by_work (work_of k) refl
    where
      by_pending : (w : Work) → work_of k ≡ Ok w → (p : Option PendingStore) → pending_of w.pending.stores oid ≡ p → ReadsHub told lasts stands (outcome_of_read result) old.hub new.hub
      by_pending w works None is = read_hub oid w.front w.switches result (made w works is)
      by_pending w works (Some p) is =
          let said = waiting w p works is in
          none_reads told lasts stands (rules_of rules_in named_in old.hub) old.hub new.hub (outcome_of_read result) (waiting_calm oid p result said.0) (ap (λ (l : LocalState R F). l.hub) (same said.1))

      by_work : (wr : Result Work Refusal) → work_of k ≡ wr → ReadsHub told lasts stands (outcome_of_read result) old.hub new.hub
      by_work (Ok w) works = by_pending w works (pending_of w.pending.stores oid) refl
      by_work (Err r) works =
          let said = refused r works in
          none_reads told lasts stands (rules_of rules_in named_in old.hub) old.hub new.hub (outcome_of_read result) (subst (λ (z : Result (ℕ × List ℕ) Refusal). IsCalm (outcome_of_read z)) (sym said.0) (closed_calm k r works)) (ap (λ (l : LocalState R F). l.hub) (same said.1))

-- ---- lines that ask nothing of the connection

pub answer_outcome : (r : Reply) → outcome_of_answer (answer_of r) ≡ outcome_of r
answer_outcome (reply.Refused why) = refl
answer_outcome (reply.Nothing oid switches) = refl
answer_outcome _ = refl

plain_asks : (l : Line) (q : Request) → Some q ≡ plain_request l → Some q ≡ request_of Local None l
plain_asks line.New q is = is
plain_asks (line.History oid) q is = is
plain_asks line.UndoLog q is = is
plain_asks (line.Pack tid collect) q is = is
plain_asks (line.PackBegin tid collect) q is = is
plain_asks line.PackTurn q is = is
plain_asks line.Close q is = is
plain_asks _ q is = absurd cc

-- the closing of a session ends a run where its store failed
close_failed : (r : Reply) → is_store_failed (outcome_of_end (end_of (answer_of r))) ≡ is_store_failed (outcome_of r)
close_failed (reply.Refused why) = by_refusal why
  where
    by_refusal : (why : Refusal) → is_store_failed (outcome_of_end (end_in why)) ≡ is_store_failed (outcome_of_refusal why)
    by_refusal refusal.StoreFault = refl
    by_refusal refusal.Memory = refl
    by_refusal refusal.ReadFault = refl
    by_refusal _ = refl
close_failed (reply.Nothing oid switches) = refl
close_failed _ = refl

module _ {R F : Type 0} (told lasts : Type 0) (stands : List ℕ → List Transaction → Type 0) (rules : Rules) (h g : HubState R F) where
  -- a step is its line
  pub line_keeps : (x : Option Member) (l : Line) (q : Request) (o : StepOutcome) → Some q ≡ plain_request l → KeepsHub told lasts stands (is_pack q) (IsStepListOf stands rules x q) o h g → LeavesHub told lasts stands rules x l o h g
  line_keeps x l q o asks keeps = record {
    resolver = keeps.resolver;
    refs = keeps.refs;
    later = keeps.later;
    cause = keeps.cause;
    broken = keeps.broken;
    side = λ on packs. keeps.side on (asked_no_pack Local None l q (plain_asks l q asks) packs);
    moments = λ on tells whole m stands_for leaves. in_step stands rules x l q m h.store.log g.store.log asks (keeps.moments on tells whole m stands_for leaves);
  }

-- a step of a client, as its line is answered
pub plain_keeps : {R F : Type 0} (told lasts : Type 0) (stands : List ℕ → List Transaction → Type 0) (rules_in : R → MergeRules) (named_in : F → List ℕ → Option (List ℕ)) (q : Request) (r : Reply) (a : Answer) (h g k : HubState R F) (before after : Option (List Stamp)) (xs : List Member) (at : ℕ) (x : Member)
    → slice_get xs at ≡ Some x → IsHubStep told lasts stands rules_in named_in (session_of x) q r h g before after → k ≡ g → a ≡ answer_of r
    → KeepsHub told lasts stands (is_pack q) (IsStepListOf stands (rules_of rules_in named_in h) (slice_get xs at) q) (outcome_of_answer a) h k
plain_keeps {R} {F} told lasts stands rules_in named_in q r a h g k before after xs at x there step same answers =
    subst (λ (o : Option Member). KeepsHub told lasts stands (is_pack q) (IsStepListOf stands (rules_of rules_in named_in h) o q) (outcome_of_answer a) h k) (sym there)
    (subst (λ (o : StepOutcome). KeepsHub told lasts stands (is_pack q) (λ m. IsBeforeOrBehind stands (rules_of rules_in named_in h) m (session_of x) q) o h k) (sym (ap outcome_of_answer answers ∙ answer_outcome r))
    (subst (λ (z : HubState R F). KeepsHub told lasts stands (is_pack q) (λ m. IsBeforeOrBehind stands (rules_of rules_in named_in h) m (session_of x) q) (outcome_of r) h z) (sym same) (step_keeps told lasts stands rules_in named_in (session_of x) q r h g before after step)))

-- the closing of a session, as it ends a run
pub close_keeps : {R F : Type 0} (told lasts : Type 0) (stands : List ℕ → List Transaction → Type 0) (rules_in : R → MergeRules) (named_in : F → List ℕ → Option (List ℕ)) (n : ℕ) (r : Reply) (a : Answer) (ended : Option TurnError) (h g : HubState R F) (before after : Option (List Stamp))
    → IsHubStep told lasts stands rules_in named_in n request.Close r h g before after → ended ≡ end_of a → a ≡ answer_of r → KeepsHub told lasts stands false (λ m bytes. stands bytes m.list) (outcome_of_end ended) h g
close_keeps told lasts stands rules_in named_in n r a ended h g before after step ends answers =
    let keeps = step_keeps_list told lasts stands rules_in named_in n request.Close r h g before after step (λ m. step_left (rules_of rules_in named_in h) m n request.Close 0) in
    record {
      resolver = keeps.resolver;
      refs = keeps.refs;
      later = keeps.later;
      cause = closed_counts (counts_of h.store) (counts_of g.store) r a ended ends answers keeps.cause (step.unread refl);
      broken = λ whole. keeps.broken whole ∙ sym (close_failed r) ∙ ap (λ (e : Option TurnError). is_store_failed (outcome_of_end e)) (sym (ends ∙ ap end_of answers));
      side = keeps.side;
      moments = keeps.moments;
    }

-- it doesn't end it for want of memory
pub closed_fed : (r : Reply) (a : Answer) (ended : Option TurnError) → ended ≡ end_of a → a ≡ answer_of r → (outcome_of r ≡ NoMemory → ⊥) → ended ≡ Some error.Memory → ⊥
closed_fed r a ended ends answers fed is = fed (sym (answer_outcome r) ∙ ap outcome_of_answer (sym answers) ∙ ended_so a error.Memory (sym ends ∙ is))

-- nothing was done behind a line
pub none_closed : {R F : Type 0} (told lasts : Type 0) (stands : List ℕ → List Transaction → Type 0) (rules : Rules) (h : HubState R F) → KeepsHub told lasts stands false (λ m bytes. stands bytes m.list) Answered h h
none_closed told lasts stands rules h = none_leaves told lasts stands rules h h None line.Close Answered (inl refl) refl

-- ---- what a connection refuses before it asks for anything

same_in_err : (r s : Refusal) → (let e : Result Work Refusal = Err r in e) ≡ Err s → r ≡ s
same_in_err r s e = cc

same_in_some : (r s : Refusal) → Some r ≡ Some s → r ≡ s
same_in_some r s e = cc

pub changeable_calm : (k : Connection) (r : Refusal) → changeable (work_of k) ≡ Err r → IsCalm (outcome_of_refusal r)
changeable_calm k r is = by_work (work_of k) refl is
  where
    by_voted : (w : Work) (b : Bool) → (if b then (let e : Result Work Refusal = Err refusal.Voted in e) else Ok w) ≡ Err r → IsCalm (outcome_of_refusal r)
    by_voted w true is = inl (ap outcome_of_refusal (sym (same_in_err refusal.Voted r is)))
    by_voted w false is = absurd cc

    by_work : (wr : Result Work Refusal) → work_of k ≡ wr → changeable wr ≡ Err r → IsCalm (outcome_of_refusal r)
    by_work (Err s) works is = closed_calm k r (works ∙ is)
    by_work (Ok w) works is = by_voted w w.is_voted is

pub mixed_calm : (w : Work) (r : Refusal) → unmixed w ≡ Err r → IsCalm (outcome_of_refusal r)
mixed_calm w r is = by_count (waiting_count w.pending == 0) is
  where
    by_count : (b : Bool) → (if b then Ok w else (let e : Result Work Refusal = Err (refusal.Mixed (waiting_count w.pending)) in e)) ≡ Err r → IsCalm (outcome_of_refusal r)
    by_count true is = absurd cc
    by_count false is = inl (ap outcome_of_refusal (sym (same_in_err (refusal.Mixed (waiting_count w.pending)) r is)))

pub begin_calm : (k : Connection) (r : Refusal) → begin_refusal (work_of k) ≡ Some r → IsCalm (outcome_of_refusal r)
begin_calm k r is = by_work (work_of k) refl is
  where
    by_closed : (s : Refusal) → (s ≡ refusal.NotOpen) ⊎ (s ≡ refusal.NoTransaction) → begin_refusal (Err s) ≡ Some r → IsCalm (outcome_of_refusal r)
    by_closed s (inl e) is = inl (ap outcome_of_refusal (sym (same_in_some refusal.NotOpen r (ap (λ (z : Refusal). begin_refusal (Err z)) (sym e) ∙ is))))
    by_closed s (inr e) is = absurd (none (ap (λ (z : Refusal). begin_refusal (Err z)) (sym e) ∙ is))
      where
        none : None ≡ Some r → ⊥
        none e = absurd cc

    by_work : (wr : Result Work Refusal) → work_of k ≡ wr → begin_refusal wr ≡ Some r → IsCalm (outcome_of_refusal r)
    by_work (Ok w) works is = inl (ap outcome_of_refusal (sym (same_in_some refusal.InTransaction r is)))
    by_work (Err s) works is = by_closed s (unopened k s works) is

pub stored_calm : (p : PendingStore) (w : Work) (r : Refusal) → stored_in_work p w ≡ Err r → IsCalm (outcome_of_refusal r)
stored_calm p w r is = by_excess (excess_with w.pending.stores p) is
  where
    by_excess : (o : Option ℕ) → stored_unless w p o ≡ Err r → IsCalm (outcome_of_refusal r)
    by_excess None is = absurd cc
    by_excess (Some length) is = inl (ap outcome_of_refusal (sym (same_in_err (refusal.TooLong length) r is)))

pub work_calm : {T : Type 0} (next old new : Result Work Refusal) (result : Result T Refusal) → ((r : Refusal) → next ≡ Err r → IsCalm (outcome_of_refusal r)) → LeavesWork next old new result → IsCalm (outcome_of_result result)
work_calm next old new (Ok x) calm leaves = inl refl
work_calm next old new (Err r) calm (inl is, stayed) = calm r is
work_calm next old new (Err r) calm (inr starved, stayed) = inr (ap outcome_of_refusal starved)

-- ---- how the answer of a call says what its step did

pub answered_outcome : {T : Type 0} (result : Result T Refusal) (a : Answer) → outcome_of_answer a ≡ Answered → outcome_of_answer (answered result a) ≡ outcome_of_result result
answered_outcome (Ok x) a fine = fine
answered_outcome (Err why) a fine = refl

begun_outcome : (t : Option Told) (r : Reply) → outcome_of_answer (begun_as (connections.front_answer (locals.front_answer t r))) ≡ outcome_of r
begun_outcome t (reply.Front front news switches) = refl
begun_outcome t (reply.Refused why) = server_outcome why
begun_outcome t _ = refl

told_alike : (r : Result ℕ Refusal) → outcome_of_answer (delivered_with r) ≡ outcome_of_answer (begun_as r)
told_alike (Ok front) = refl
told_alike (Err why) = refl

voted_outcome : (r : Reply) → outcome_of_answer (answered (locals.vote_answer r) answer.Voted) ≡ outcome_of r
voted_outcome reply.Voted = refl
voted_outcome (reply.Refused why) = server_outcome why
voted_outcome _ = refl

aborted_outcome : (r : Reply) → outcome_of_answer (answered (locals.abort_answer r) answer.Aborted) ≡ outcome_of r
aborted_outcome reply.Aborted = refl
aborted_outcome (reply.Refused why) = server_outcome why
aborted_outcome _ = refl

finished_outcome : (r : Reply) → outcome_of_answer (finished_as (locals.finish_answer r)) ≡ outcome_of r
finished_outcome (reply.Committed tid) = refl
finished_outcome reply.Empty = refl
finished_outcome (reply.Refused why) = server_outcome why
finished_outcome _ = refl

-- ---- a finish, and the front behind it

module _ {R F : Type 0} (told lasts : Type 0) (stands : List ℕ → List Transaction → Type 0) (rules_in : R → MergeRules) (named_in : F → List ℕ → Option (List ℕ)) (n : ℕ) (h g k : HubState R F) (before between after : Option (List Stamp)) where
  -- what a finish of the session that ended so leaves
  abbrev Ends : StepOutcome → HubState R F → Type 0
  Ends o z = KeepsHub told lasts stands false (λ m. IsBeforeOrBehind stands (rules_of rules_in named_in h) m n request.Finish) o h z

  front_behind_finish : (r p : Reply) → IsHubStep told lasts stands rules_in named_in n request.Finish r h g before between → outcome_of r ≡ Answered → IsHubStep told lasts stands rules_in named_in n request.Front p g k between after
      → Ends (outcome_of r) k
  front_behind_finish r p finish fine front =
      let one = step_keeps told lasts stands rules_in named_in n request.Finish r h g before between finish in
      let two : ReadsHub told lasts stands (outcome_of p) g k = front_reads told lasts stands rules_in named_in n p g k between after front in
      let calm : counts_of k.store ≡ counts_of g.store = calm_step (counts_of g.store) (counts_of k.store) (outcome_of p) two.keeps.cause (front.unread refl) (front.unwritten refl) in
      record {
        resolver = two.keeps.resolver ∙ one.resolver;
        refs = two.keeps.refs ∙ one.refs;
        later = record { reads = omega (arith, one.later.reads, two.keeps.later.reads); others = omega (arith, one.later.others, two.keeps.later.others) };
        cause = subst (λ (c : FaultCounts). IsCountedBy (counts_of h.store) c (outcome_of r)) (sym calm) one.cause;
        broken = λ whole. two.keeps.broken (one.broken whole ∙ ap is_store_failed fine) ∙ two.whole ∙ sym (ap is_store_failed fine);
        side = λ on packs. stays_then Side h.store.log g.store.log k.store.log (one.side on packs) (two.keeps.side on packs);
        moments = λ on tells whole m is leaves.
            let m' : Moment = record { machine = m; clients = []; stamps = before; counts = counts_of h.store } in
            let s : StepsTo (rules_of rules_in named_in h) m' n request.Finish r g between = steps_to told lasts stands rules_in named_in tells m' n request.Finish r h g before between finish is refl refl in
            joined (Leaves Main (IsBeforeOrBehind stands (rules_of rules_in named_in h) m n request.Finish)) h.store.log g.store.log k.store.log (one.moments on tells whole m is leaves)
            (left_moments stands (rules_of rules_in named_in h) m' s.now n request.Finish r g.store.log k.store.log s.holds
            (kept_moments stands (rules_of rules_in named_in g) s.now.machine n request.Front g.store.log k.store.log (step_left (rules_of rules_in named_in g) s.now.machine n request.Front 0)
            (front.any_moment on tells (one.broken whole ∙ ap is_store_failed fine) s.now.machine s.hub)));
      }

  finish_told : (r : Reply) → IsHubStep told lasts stands rules_in named_in n request.Finish r h g before between → IsFrontBehind (IsHubStep told lasts stands rules_in named_in n) (locals.is_committed r) g k between after
      → Ends (outcome_of r) k
  finish_told r finish behind = by_committed (locals.is_committed r) refl behind
    where
      fine : (p : Reply) → locals.is_committed p ≡ true → outcome_of p ≡ Answered
      fine (reply.Committed tid) so = refl
      fine _ so = absurd cc

      by_committed : (b : Bool) → locals.is_committed r ≡ b → IsFrontBehind (IsHubStep told lasts stands rules_in named_in n) b g k between after → Ends (outcome_of r) k
      by_committed false so same = subst (Ends (outcome_of r)) (sym same.0) (step_keeps told lasts stands rules_in named_in n request.Finish r h g before between finish)
      by_committed true so front = front_behind_finish r front.0 finish (fine r so) front.1

-- ---- calls of a connection

module _ {R F S : Type 0} (told lasts : Type 0) (stands : List ℕ → List Transaction → Type 0) (rules_in : R → MergeRules) (named_in : F → List ℕ → Option (List ℕ)) (n : ℕ) (x : Client) (old new : LocalState R F) (makes : S → LoadsCall → S → Type 0) (a b : S) (calls : (call : LoadsCall) → makes a call b → IsLocalCall (IsHubStep told lasts stands rules_in named_in n) call old new) (same : b ≡ a → new ≡ old) where
  -- what a line of this answer leaves
  abbrev Left : Line → Answer → Type 0
  Left l said = LeavesHub told lasts stands (rules_of rules_in named_in old.hub) (Some (Near x)) l (outcome_of_answer said) old.hub new.hub

  abbrev LeftAs : Line → StepOutcome → Type 0
  LeftAs l o = LeavesHub told lasts stands (rules_of rules_in named_in old.hub) (Some (Near x)) l o old.hub new.hub

  -- nothing was done
  pub none_left : (l : Line) (said : Answer) → IsCalm (outcome_of_answer said) → new ≡ old → Left l said
  none_left l said calm is = none_leaves told lasts stands (rules_of rules_in named_in old.hub) old.hub new.hub (Some (Near x)) l (outcome_of_answer said) calm (ap (λ (z : LocalState R F). z.hub) is)

  refused_left : {T : Type 0} (l : Line) (to : Result T Refusal → Answer) (result : Result T Refusal) (r : Refusal) (said : Answer) → to (Err r) ≡ answer.Refused r → said ≡ to result → result ≡ Err r → IsCalm (outcome_of_refusal r) → new ≡ old → Left l said
  refused_left l to result r said errs answers is calm still =
      none_left l said (subst (λ (z : Answer). IsCalm (outcome_of_answer z)) (sym (answers ∙ ap to is ∙ errs)) calm) still

  -- whatever was done, it ended so
  step_left_as : (l : Line) (said : Answer) (o : StepOutcome) → outcome_of_answer said ≡ o → LeftAs l o → Left l said
  step_left_as l said o is left = subst (LeftAs l) (sym is) left

  -- `begin`
  pub begin_hub : (k : Connection) (result : Result ℕ Refusal) (said : Answer) → ((r : Refusal) → begin_refusal (work_of k) ≡ Some r → (result ≡ Err r) × (b ≡ a)) → (begin_refusal (work_of k) ≡ None → IsFrontBy makes a b result)
      → said ≡ begun_as result → LeavesHub told lasts stands (rules_of rules_in named_in old.hub) (Some (Near x)) line.Begin (outcome_of_answer said) old.hub new.hub
  begin_hub k result said refused made answers = by_refusal (begin_refusal (work_of k)) refl
    where
      by_refusal : (o : Option Refusal) → begin_refusal (work_of k) ≡ o → Left line.Begin said
      by_refusal (Some r) is = refused_left line.Begin begun_as result r said refl answers (refused r is).0 (begin_calm k r is) (same (refused r is).1)
      by_refusal None is =
          let f = made is in
          let one : IsFrontStep (IsHubStep told lasts stands rules_in named_in n) old new f.0 = calls (Front f.0) f.1 in
          step_left_as line.Begin said (outcome_of one.reply) (ap outcome_of_answer (answers ∙ ap begun_as (f.2 ∙ ap connections.front_answer one.answer)) ∙ begun_outcome old.last one.reply)
          (front_reads told lasts stands rules_in named_in n one.reply old.hub new.hub old.stamps new.stamps one.step).keeps

  -- `deliver`
  pub deliver_hub : (k : Connection) (result : Result ℕ Refusal) (said : Answer) → (work_of k ≡ Err refusal.NotOpen → (result ≡ Err refusal.NotOpen) × (b ≡ a)) → ((work_of k ≡ Err refusal.NotOpen → ⊥) → IsFrontBy makes a b result)
      → said ≡ delivered_with result → LeavesHub told lasts stands (rules_of rules_in named_in old.hub) (Some (Near x)) line.Deliver (outcome_of_answer said) old.hub new.hub
  deliver_hub k result said refused made answers = by_open k.is_open refl
    where
      not_so : (w : Option Work) → open_work true w ≡ Err refusal.NotOpen → ⊥
      not_so None e = absurd cc
      not_so (Some w) e = absurd cc

      by_open : (open_as : Bool) → k.is_open ≡ open_as → Left line.Deliver said
      by_open false is =
          let so = refused (ap (λ (z : Bool). open_work z k.work) is) in
          refused_left line.Deliver delivered_with result refusal.NotOpen said refl answers so.0 (inl refl) (same so.1)
      by_open true is =
          let f = made (λ e. not_so k.work (sym (ap (λ (z : Bool). open_work z k.work) is) ∙ e)) in
          let one : IsFrontStep (IsHubStep told lasts stands rules_in named_in n) old new f.0 = calls (Front f.0) f.1 in
          step_left_as line.Deliver said (outcome_of one.reply)
          (ap outcome_of_answer (answers ∙ ap delivered_with (f.2 ∙ ap connections.front_answer one.answer)) ∙ told_alike (connections.front_answer (locals.front_answer old.last one.reply)) ∙ begun_outcome old.last one.reply)
          (front_reads told lasts stands rules_in named_in n one.reply old.hub new.hub old.stamps new.stamps one.step).keeps

  -- `vote`
  pub vote_hub : (k l : Connection) (user description : List ℕ) (result : Result (Unit {0}) Refusal) (reply : Answer) → ((r : Refusal) → changeable (work_of k) ≡ Err r → (result ≡ Err r) × (b ≡ a) × (l ≡ k))
      → ((w : Work) → changeable (work_of k) ≡ Ok w → IsCallMade makes a b (Vote user description w.pending.stores w.pending.checks result) result) → reply ≡ answered result answer.Voted
      → LeavesHub told lasts stands (rules_of rules_in named_in old.hub) (Some (Near x)) (line.Vote user description) (outcome_of_answer reply) old.hub new.hub
  vote_hub k l user description result reply refused made answers = by_work (changeable (work_of k)) refl
    where
      starved : result ≡ Err refusal.Memory → new ≡ old → Left (line.Vote user description) reply
      starved is still = refused_left (line.Vote user description) (λ z. answered z answer.Voted) result refusal.Memory reply refl answers is (inr refl) still

      by_step : (w : Work) → IsStarved old new result ⊎ IsOneStep (IsHubStep told lasts stands rules_in named_in n) (request.Vote user description [] (record { stores = w.pending.stores; checks = w.pending.checks })) locals.vote_answer old new result → Left (line.Vote user description) reply
      by_step w (inl none) = starved none.1 none.0
      by_step w (inr one) =
          step_left_as (line.Vote user description) reply (outcome_of one.reply) (ap outcome_of_answer (answers ∙ ap (λ (z : Result (Unit {0}) Refusal). answered z answer.Voted) one.answer) ∙ voted_outcome one.reply)
          (step_keeps_list told lasts stands rules_in named_in n (request.Vote user description [] (record { stores = w.pending.stores; checks = w.pending.checks })) one.reply old.hub new.hub old.stamps new.stamps one.step
          (λ m. step_left (rules_of rules_in named_in old.hub) m n (request.Vote user description [] (record { stores = w.pending.stores; checks = w.pending.checks })) 0))

      by_call : (w : Work) → IsCallMade makes a b (Vote user description w.pending.stores w.pending.checks result) result → Left (line.Vote user description) reply
      by_call w (inl call) = by_step w (calls (Vote user description w.pending.stores w.pending.checks result) call)
      by_call w (inr none) = starved none.1 (same none.0)

      by_work : (c : Result Work Refusal) → changeable (work_of k) ≡ c → Left (line.Vote user description) reply
      by_work (Err r) is = refused_left (line.Vote user description) (λ z. answered z answer.Voted) result r reply refl answers (refused r is).0 (changeable_calm k r is) (same (refused r is).1)
      by_work (Ok w) is = by_call w (made w is)

  -- `undo`
  pub undo_hub : (k l : Connection) (user description tids : List ℕ) (result : Result (Unit {0}) Refusal) (reply : Answer) → ((r : Refusal) → followed_by (changeable (work_of k)) unmixed ≡ Err r → (result ≡ Err r) × (b ≡ a) × (l ≡ k))
      → (IsOk (followed_by (changeable (work_of k)) unmixed) → makes a (Undo user description tids result) b) → reply ≡ answered result answer.Voted
      → LeavesHub told lasts stands (rules_of rules_in named_in old.hub) (Some (Near x)) (line.Undo user description tids) (outcome_of_answer reply) old.hub new.hub
  undo_hub k l user description tids result reply refused made answers = by_work (followed_by (changeable (work_of k)) unmixed) refl
    where
      by_step : IsStarved old new result ⊎ IsOneStep (IsHubStep told lasts stands rules_in named_in n) (request.Undo user description tids) locals.vote_answer old new result → Left (line.Undo user description tids) reply
      by_step (inl none) = refused_left (line.Undo user description tids) (λ z. answered z answer.Voted) result refusal.Memory reply refl answers none.1 (inr refl) none.0
      by_step (inr one) =
          step_left_as (line.Undo user description tids) reply (outcome_of one.reply) (ap outcome_of_answer (answers ∙ ap (λ (z : Result (Unit {0}) Refusal). answered z answer.Voted) one.answer) ∙ voted_outcome one.reply)
          (step_keeps_list told lasts stands rules_in named_in n (request.Undo user description tids) one.reply old.hub new.hub old.stamps new.stamps one.step
          (λ m. step_left (rules_of rules_in named_in old.hub) m n (request.Undo user description tids) 0))

      by_work : (c : Result Work Refusal) → followed_by (changeable (work_of k)) unmixed ≡ c → Left (line.Undo user description tids) reply
      by_work (Err r) is = refused_left (line.Undo user description tids) (λ z. answered z answer.Voted) result r reply refl answers (refused r is).0 (unchanged_calm k unmixed r (λ w. mixed_calm w r) is) (same (refused r is).1)
      by_work (Ok w) is = by_step (calls (Undo user description tids result) (made (subst IsOk (sym is) refl)))

  -- `abort`
  pub abort_hub : (k : Connection) (result : Result (Unit {0}) Refusal) (reply : Answer) → ((r : Refusal) → work_of k ≡ Err r → (result ≡ Err r) × (b ≡ a)) → ((w : Work) → work_of k ≡ Ok w → makes a (Abort result) b)
      → reply ≡ answered result answer.Aborted → LeavesHub told lasts stands (rules_of rules_in named_in old.hub) (Some (Near x)) line.Abort (outcome_of_answer reply) old.hub new.hub
  abort_hub k result reply refused made answers = by_work (work_of k) refl
    where
      by_work : (c : Result Work Refusal) → work_of k ≡ c → Left line.Abort reply
      by_work (Err r) is = refused_left line.Abort (λ z. answered z answer.Aborted) result r reply refl answers (refused r is).0 (closed_calm k r is) (same (refused r is).1)
      by_work (Ok w) is =
          let one : IsOneStep (IsHubStep told lasts stands rules_in named_in n) request.Abort locals.abort_answer old new result = calls (Abort result) (made w is) in
          step_left_as line.Abort reply (outcome_of one.reply) (ap outcome_of_answer (answers ∙ ap (λ (z : Result (Unit {0}) Refusal). answered z answer.Aborted) one.answer) ∙ aborted_outcome one.reply)
          (step_keeps_list told lasts stands rules_in named_in n request.Abort one.reply old.hub new.hub old.stamps new.stamps one.step
          (λ m. step_left (rules_of rules_in named_in old.hub) m n request.Abort 0))

  -- `finish`
  pub finish_hub : x.session ≡ n → (result : Result (Option ℕ) Refusal) (reply : Answer) → ((r : Refusal) → work_of x.connection ≡ Err r → (result ≡ Err r) × (b ≡ a)) → ((w : Work) → work_of x.connection ≡ Ok w → makes a (Finish result) b)
      → reply ≡ finished_as result → LeavesHub told lasts stands (rules_of rules_in named_in old.hub) (Some (Near x)) line.Finish (outcome_of_answer reply) old.hub new.hub
  finish_hub session result reply refused made answers = by_work (work_of x.connection) refl
    where
      over : (w : Work) → work_of x.connection ≡ Ok w → (o : StepOutcome) → KeepsHub told lasts stands false (λ m. IsBeforeOrBehind stands (rules_of rules_in named_in old.hub) m n request.Finish) o old.hub new.hub → LeftAs line.Finish o
      over w is o keeps =
          subst (λ (c : Result Work Refusal). KeepsHub told lasts stands false (IsEndListOf stands (rules_of rules_in named_in old.hub) x.session c) o old.hub new.hub) (sym is)
          (subst (λ (s : ℕ). KeepsHub told lasts stands false (λ m. IsBeforeOrBehind stands (rules_of rules_in named_in old.hub) m s request.Finish) o old.hub new.hub) (sym session) keeps)

      by_work : (c : Result Work Refusal) → work_of x.connection ≡ c → Left line.Finish reply
      by_work (Err r) is = refused_left line.Finish finished_as result r reply refl answers (refused r is).0 (closed_calm x.connection r is) (same (refused r is).1)
      by_work (Ok w) is =
          let f : IsFinishStep (IsHubStep told lasts stands rules_in named_in n) old new result = calls (Finish result) (made w is) in
          step_left_as line.Finish reply (outcome_of f.reply) (ap outcome_of_answer (answers ∙ ap finished_as f.answer) ∙ finished_outcome f.reply)
          (over w is (outcome_of f.reply) (finish_told told lasts stands rules_in named_in n old.hub f.behind new.hub old.stamps f.left new.stamps f.reply f.step f.front))

  -- `put`
  pub put_hub : (k l : Connection) (stands_for : views.Client → Type 0) (state : Server) (oid : ℕ) (bytes : List ℕ) (result : Result (Unit {0}) Refusal) (reply : Answer)
      → ((w : Work) (p : PendingStore) → changeable (work_of k) ≡ Ok w → pending_of w.pending.stores oid ≡ Some p → LeavesWork (stored_in_work (record { oid = oid; base = p.base; content = Held bytes }) w) (work_of k) (work_of l) result × (b ≡ a))
      → ((w : Work) → changeable (work_of k) ≡ Ok w → pending_of w.pending.stores oid ≡ None → IsPutAsRead makes stands_for state a b k l w oid bytes result)
      → ((r : Refusal) → changeable (work_of k) ≡ Err r → (result ≡ Err r) × (b ≡ a) × (work_of l ≡ work_of k)) → reply ≡ answered result answer.Stored
      → LeavesHub told lasts stands (rules_of rules_in named_in old.hub) (Some (Near x)) (line.Put oid bytes) (outcome_of_answer reply) old.hub new.hub
  put_hub k l stands_for state oid bytes result reply waiting reads refused answers = by_work (changeable (work_of k)) refl
    where
      so : outcome_of_answer reply ≡ outcome_of_result result
      so = ap outcome_of_answer answers ∙ answered_outcome result answer.Stored refl

      -- what is put behind a read that was answered
      behind : (w : Work) (base : ℕ) → LeavesWork (stored_in_work (record { oid = oid; base = base; content = Held bytes }) w) (work_of k) (work_of l) result → ReadsHub told lasts stands Answered old.hub new.hub → ReadsHub told lasts stands (outcome_of_result result) old.hub new.hub
      behind w base leaves read =
          let calm : IsCalm (outcome_of_result result) = work_calm (stored_in_work (record { oid = oid; base = base; content = Held bytes }) w) (work_of k) (work_of l) result (stored_calm (record { oid = oid; base = base; content = Held bytes }) w) leaves in
          reads_as told lasts stands (rules_of rules_in named_in old.hub) old.hub new.hub Answered (outcome_of_result result)
          (calm_other (counts_of old.hub.store) (counts_of new.hub.store) Answered (outcome_of_result result) (inl refl) calm) (calm_whole (outcome_of_result result) calm) read

      by_missing : (w : Work) (r : Refusal) → (base_read (Err r) ≡ Err r) ⊎ ((base_read (Err r) ≡ Ok 0) × (outcome_of_refusal r ≡ Answered))
          → LeavesWork (followed_by (base_read (Err r)) (λ base. stored_in_work (record { oid = oid; base = base; content = Held bytes }) w)) (work_of k) (work_of l) result → ((s : Refusal) → base_read (Err r) ≡ Err s → result ≡ Err s)
          → ReadsHub told lasts stands (outcome_of_refusal r) old.hub new.hub → ReadsHub told lasts stands (outcome_of_result result) old.hub new.hub
      by_missing w r (inl is) leaves refuses read = subst (λ (z : Result (Unit {0}) Refusal). ReadsHub told lasts stands (outcome_of_result z) old.hub new.hub) (sym (refuses r is)) read
      by_missing w r (inr is) leaves refuses read =
          behind w 0 (subst (λ (z : Result ℕ Refusal). LeavesWork (followed_by z (λ base. stored_in_work (record { oid = oid; base = base; content = Held bytes }) w)) (work_of k) (work_of l) result) is.0 leaves) (subst (λ (o : StepOutcome). ReadsHub told lasts stands o old.hub new.hub) is.1 read)

      base_of : (r : Refusal) → (base_read (Err r) ≡ Err r) ⊎ ((base_read (Err r) ≡ Ok 0) × (outcome_of_refusal r ≡ Answered))
      base_of (refusal.Missing o false) = inr (refl, refl)
      base_of (refusal.Missing o true) = inl refl
      base_of _ = inl refl

      by_read : (w : Work) (read : Result (ℕ × List ℕ) Refusal) → LeavesWork (followed_by (base_read read) (λ base. stored_in_work (record { oid = oid; base = base; content = Held bytes }) w)) (work_of k) (work_of l) result → ((s : Refusal) → base_read read ≡ Err s → result ≡ Err s)
          → ReadsHub told lasts stands (outcome_of_read read) old.hub new.hub → ReadsHub told lasts stands (outcome_of_result result) old.hub new.hub
      by_read w (Ok d) leaves refuses read = behind w d.0 leaves read
      by_read w (Err r) leaves refuses read = by_missing w r (base_of r) leaves refuses read

      by_pending : (w : Work) → changeable (work_of k) ≡ Ok w → (o : Option PendingStore) → pending_of w.pending.stores oid ≡ o → Left (line.Put oid bytes) reply
      by_pending w is (Some p) there =
          let said = waiting w p is there in
          none_left (line.Put oid bytes) reply (subst IsCalm (sym so) (work_calm (stored_in_work (record { oid = oid; base = p.base; content = Held bytes }) w) (work_of k) (work_of l) result (stored_calm (record { oid = oid; base = p.base; content = Held bytes }) w) said.0)) (same said.1)
      by_pending w is None there =
          let r : IsPutAsRead makes stands_for state a b k l w oid bytes result = reads w is there in
          step_left_as (line.Put oid bytes) reply (outcome_of_result result) so (by_read w r.read r.leaves r.refused (read_hub told lasts stands rules_in named_in n old new makes a b calls same oid w.front w.switches r.read r.made)).keeps

      by_work : (c : Result Work Refusal) → changeable (work_of k) ≡ c → Left (line.Put oid bytes) reply
      by_work (Err r) is = refused_left (line.Put oid bytes) (λ z. answered z answer.Stored) result r reply refl answers (refused r is).0 (changeable_calm k r is) (same (refused r is).1)
      by_work (Ok w) is = by_pending w is (pending_of w.pending.stores oid) refl
