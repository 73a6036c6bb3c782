-- The hub behind what a client with a link reads, and behind numbers that it draws.
use Rattle.std.proofs.Common.{◌≡◌, ◌⊎◌, ℕ, Bool, false, List, Option, Some, None, Result, Ok, Err, refl, sym, ap, subst, ◌∙◌, inl, inr}
use Rattle.zb_ids.specs.declared.stamp.Stamp.{Stamp}
use Rattle.zb_volume.specs.declared.areas.Area.TheVariants.{Main}
use Rattle.zb_volume.specs.Moments.{Leaves, LeavesOnly, here}
use Rattle.zb_model.specs.declared.data.Transaction.{Transaction}
use Rattle.zb_model.specs.declared.pending.PendingStore.{PendingStore}
use Rattle.zb_model.specs.declared.refusal.Refusal.{Refusal}
use Rattle.zb_model.specs.Rules.{MergeRules}
use Rattle.zb_answers.specs.declared.answer.Answer.TheVariants as answer
use Rattle.commit_phases.specs.Pending.{pending_of}
use Rattle.zodb_core.specs.declared.reply.Reply.{Reply}
use Rattle.zodb_core.specs.declared.request.Request.{Request}
use Rattle.zodb_core.specs.declared.request.Request.TheVariants as request
use Rattle.zodb_core.specs.HubState.{HubState, StandsForMachine, counts_of, is_store_failed}
use Rattle.zodb_core.specs.Machine.{Machine}
use Rattle.zodb_core.specs.Outcomes.{Answered, NoMemory, ReadingFailed, StepOutcome, StoreFailed, outcome_of}
use Rattle.connection_view.specs.declared.connection.Connection.{Connection}
use Rattle.connection_view.specs.Works.{Work}
use Rattle.connection_view.specs.Connections.{IsReadBy, work_of}
use Rattle.connection_view.specs.Views as views
use Rattle.zeo_client.specs.Hearing.{Held}
use Rattle.hub_carrier.specs.declared.trouble.Trouble.{Trouble}
use Rattle.hub_carrier.specs.declared.trouble.Trouble.TheVariants as trouble
use Rattle.hub_carrier.specs.Ends.{HubEnd, StepsThere, end_at, machine_at, worse}
use Rattle.hub_carrier.specs.Later.{IsLaterEnd, is_store_fault}
use Rattle.hub_carrier.specs.LaterLaws.{later_is}
use Rattle.remote_loads.specs.Making.{IsRemoteLoad, cached, missed, starved}
use Rattle.remote_loads.specs.Standing.{Stands}
use Rattle.client_turns.specs.declared.linked.LinkedClient.{LinkedClient}
use Rattle.client_turns.specs.Asking.{answered}
use Rattle.client_turns.specs.Lines.{IsCountedBy, outcome_of_answer, outcome_of_result}
use Rattle.client_turns.specs.Linked.{MayStand}
use Rattle.client_turns.specs.OverCarrier.{FittingOver, LinkAt, MakesAt, link_at}
use Rattle.client_turns.specs.OverQuestions.{NumberOver, ReadsLinked}
use Rattle.client_turns.specs.Settling.{settled, settled_result}
use Rattle.client_turns.specs.Standing.{ReadsHub}
use Rattle.client_turns.proofs.Framing.{draw_reads, load_reads_hub}
use Rattle.client_turns.proofs.LinkAskHub.{one_cases}
use Rattle.client_turns.proofs.LinkHub.{settled_counts, settled_failed}

-- a load makes one step, or none
load_once : {S : Type 0} (steps : Request → Reply → S → S → Type 0) (s : S) (old : Held) (oid front : ℕ) (result : _) (u : S) → IsRemoteLoad steps s old oid front result u → (u ≡ s) ⊎ ((r : Reply) × steps (request.LoadBefore oid front) r s u)
load_once steps s old oid front _ _ (cached found is) = inl refl
load_once steps s old oid front _ _ starved = inl refl
load_once steps s old oid front _ _ (missed result u is made) = one_cases steps (request.LoadBefore oid front) _ _ s result u made

-- a result, as a line that gives nothing would say it
said_so : {T : Type 0} (z : Result T Refusal) (t : Trouble) → outcome_of_answer (settled (answered z answer.Voted) t) ≡ outcome_of_result (settled_result z t)
said_so z trouble.StoreFault = refl
said_so z trouble.ReadFault = refl
said_so (Ok x) trouble.NoFault = refl
said_so (Err why) trouble.NoFault = refl

fault_of : (o : StepOutcome) → is_store_fault (worse trouble.NoFault o) ≡ is_store_failed o
fault_of Answered = refl
fault_of ReadingFailed = refl
fault_of NoMemory = refl
fault_of StoreFailed = refl

module _ {R F : Type 0} (told lasts : Type 0) (stands : List ℕ → List Transaction → Type 0) (rules_in : R → MergeRules) (named_in : F → List ℕ → Option (List ℕ)) (x y : LinkedClient) (h g : HubState R F) (before after : Option (List Stamp)) (left : Bool) (t : Trouble) where
  abbrev All : ℕ → Request → Reply → HubEnd R F → HubEnd R F → Type 0
  All n q r s u = StepsThere told lasts stands rules_in named_in n q r s u

  abbrev machine : HubEnd R F → Machine
  machine e = machine_at e.hub

  abbrev start : HubEnd R F
  start = end_at h before false trouble.NoFault

  abbrev finish : HubEnd R F
  finish = end_at g after left t

  abbrev old : LinkAt (HubEnd R F)
  old = link_at start x.session x.desk x.client

  abbrev new : LinkAt (HubEnd R F)
  new = link_at finish y.session y.desk y.client

  -- nothing was done, or one step that changes no list
  abbrev ReadsOnce : Type 0
  ReadsOnce = (finish ≡ start) ⊎ ((r : Reply) × (ReadsHub told lasts stands (outcome_of r) h g) × (t ≡ worse trouble.NoFault (outcome_of r)))

  pub reads_hub : {T : Type 0} → (result given : Result T Refusal) → (told → (v : views.Client) → Stands (machine_at h) x.session x.desk x.client v → ReadsOnce) → given ≡ settled_result result t → IsLaterEnd lasts start finish
      → ReadsLinked (told × MayStand h x) lasts stands (outcome_of_result given) h g
  reads_hub {T} result given once is later = subst (λ (z : Result T Refusal). ReadsLinked (told × MayStand h x) lasts stands (outcome_of_result z) h g) (sym is) (record {
    keeps = record {
      resolver = later.resolver;
      refs = later.refs;
      later = later.later;
      cause = subst (λ (o : StepOutcome). IsCountedBy (counts_of h.store) (counts_of g.store) o) (said_so result t) (settled_counts (counts_of h.store) (counts_of g.store) (answered result answer.Voted) t (later.counts (counts_of h.store) refl));
      broken = λ whole. later.broken whole ∙ sym failed_so;
      side = λ on none. later.side on refl;
      moments = λ on may whole m there leaves. moments_so on may.0 whole m there leaves (once may.0 may.1.0 may.1.1);
    };
    list = λ may whole. list_so may.0 whole (once may.0 may.1.0 may.1.1);
    whole = λ may. failed_so ∙ whole_so (once may.0 may.1.0 may.1.1);
  })
    where
      failed_so : is_store_failed (outcome_of_result (settled_result result t)) ≡ is_store_fault t
      failed_so = sym (ap is_store_failed (said_so result t)) ∙ settled_failed (answered result answer.Voted) t

      moments_so : lasts → told → h.store.broken ≡ false → (m : Machine) → StandsForMachine h m → Leaves Main (λ bytes. stands bytes m.list) h.store.log → ReadsOnce → LeavesOnly Main (λ bytes. stands bytes m.list) h.store.log g.store.log
      moments_so on tells whole m there leaves (inl same) = subst (λ (e : HubEnd R F). LeavesOnly Main (λ bytes. stands bytes m.list) h.store.log e.hub.store.log) (sym same) (here leaves)
      moments_so on tells whole m there leaves (inr (r, reads, wrong)) = reads.keeps.moments on tells whole m there leaves

      list_so : told → h.store.broken ≡ false → ReadsOnce → g.store.list ≡ h.store.list
      list_so tells whole (inl same) = ap (λ (e : HubEnd R F). e.hub.store.list) same
      list_so tells whole (inr (r, reads, wrong)) = reads.list tells whole

      whole_so : ReadsOnce → is_store_fault t ≡ false
      whole_so (inl same) = ap (λ (e : HubEnd R F). is_store_fault e.trouble) same
      whole_so (inr (r, reads, wrong)) = ap is_store_fault wrong ∙ fault_of (outcome_of r) ∙ reads.whole

  load_reads : (oid front : ℕ) (r : Reply) → All x.session (request.LoadBefore oid front) r start finish → ReadsOnce
  load_reads oid front r step = inr (r, load_reads_hub told lasts stands rules_in named_in x.session oid front r h g before after step.step, step.trouble)

  pub number_hub : (result given : Result ℕ Refusal) → NumberOver told All machine old result new → given ≡ settled_result result t → IsLaterEnd lasts start finish → ReadsLinked (told × MayStand h x) lasts stands (outcome_of_result given) h g
  number_hub result given o is later = reads_hub result given (λ tells v stood. by_made (one_cases (All x.session) (request.NewOids 1) _ _ start result finish (o.makes tells v stood))) is later
    where
      by_made : (finish ≡ start) ⊎ ((r : Reply) × All x.session (request.NewOids 1) r start finish) → ReadsOnce
      by_made (inl same) = inl same
      by_made (inr (r, step)) = inr (r, draw_reads told lasts stands rules_in named_in x.session r h g before after step.step, step.trouble)

  pub got_hub : (k j : Connection) (oid : ℕ) (result given : Result (ℕ × List ℕ) Refusal) → FittingOver told All machine k old oid result j new → given ≡ settled_result result t → IsLaterEnd lasts start finish → ReadsLinked (told × MayStand h x) lasts stands (outcome_of_result given) h g
  got_hub k j oid result given (raw, fits, o) is later = reads_hub result given (λ tells v stood. by_work tells v stood (work_of k) refl) is later
    where
      unmoved : new ≡ old → ReadsOnce
      unmoved same = inl (ap (λ (l : LinkAt (HubEnd R F)). l.there) same)

      by_load : (front : ℕ) → (finish ≡ start) ⊎ ((r : Reply) × All x.session (request.LoadBefore oid front) r start finish) → ReadsOnce
      by_load front (inl same) = inl same
      by_load front (inr (r, step)) = load_reads oid front r step

      by_read : told → (v : views.Client) → Stands (machine_at h) x.session x.desk x.client v → (front switches : ℕ) → IsReadBy (MakesAt told All machine) old new oid front switches raw → ReadsOnce
      by_read tells v stood front switches (inl none) = unmoved none.0
      by_read tells v stood front switches (inr loads) = by_load front (load_once (All x.session) start x.client.held oid front loads.0 finish (loads.1 tells v stood))

      by_pending : told → (v : views.Client) → Stands (machine_at h) x.session x.desk x.client v → (w : Work) → work_of k ≡ Ok w → (p : Option PendingStore) → pending_of w.pending.stores oid ≡ p → ReadsOnce
      by_pending tells v stood w works (Some p) waits = unmoved (o.waiting w p works waits).1
      by_pending tells v stood w works None waits = by_read tells v stood w.front w.switches (o.makes w works waits)

      by_work : told → (v : views.Client) → Stands (machine_at h) x.session x.desk x.client v → (wr : Result Work Refusal) → work_of k ≡ wr → ReadsOnce
      by_work tells v stood (Err r) works = unmoved (o.refused r works).1
      by_work tells v stood (Ok w) works = by_pending tells v stood w works (pending_of w.pending.stores oid) refl

  -- for callers that know the parts
  module _ (a b : LinkAt (HubEnd R F)) (begins : a ≡ old) (ends : b ≡ new) where
    later_so : IsLaterEnd lasts a.there b.there → IsLaterEnd lasts start finish
    later_so later = later_is lasts a.there b.there start finish (ap (λ (l : LinkAt (HubEnd R F)). l.there) begins) (ap (λ (l : LinkAt (HubEnd R F)). l.there) ends) later

    pub number_hub_at : (result given : Result ℕ Refusal) → NumberOver told All machine a result b → given ≡ settled_result result t → IsLaterEnd lasts a.there b.there → ReadsLinked (told × MayStand h x) lasts stands (outcome_of_result given) h g
    number_hub_at result given o is later =
        number_hub result given (subst (λ (l : LinkAt (HubEnd R F)). NumberOver told All machine l result new) begins (subst (λ (l : LinkAt (HubEnd R F)). NumberOver told All machine a result l) ends o)) is (later_so later)

    pub got_hub_at : (k j : Connection) (oid : ℕ) (result given : Result (ℕ × List ℕ) Refusal) → FittingOver told All machine k a oid result j b → given ≡ settled_result result t → IsLaterEnd lasts a.there b.there → ReadsLinked (told × MayStand h x) lasts stands (outcome_of_result given) h g
    got_hub_at k j oid result given o is later =
        got_hub k j oid result given (subst (λ (l : LinkAt (HubEnd R F)). FittingOver told All machine k l oid result j new) begins (subst (λ (l : LinkAt (HubEnd R F)). FittingOver told All machine k a oid result j l) ends o)) is (later_so later)
