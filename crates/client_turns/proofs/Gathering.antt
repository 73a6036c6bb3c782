-- How a call on a tree gathers what it needs.
use Rattle.std.proofs.Common.{◌≡◌, ℕ, ◌<◌, Bool, true, false, eqb, List, [], ◌∷◌, ◌++◌, Option, Some, None, Result, Ok, Err, nat_lt, refl, sym, ap, subst, ◌∙◌, arith, inl, inr}
use Rattle.std.specs.Prelude.{IsSome, if◌then◌else◌, nat_eq, slice_get}
use Rattle.std.specs.Option.{option_map}
use Rattle.std.proofs.lemmas.Bool.{eqb-true, ltb-true, ltb-false}
use Rattle.zb_ids.specs.declared.stamp.Stamp.{Stamp}
use Rattle.zb_model.specs.declared.data.Transaction.{Transaction}
use Rattle.zb_model.specs.declared.pending.PendingStore.{PendingStore}
use Rattle.zb_model.specs.declared.refusal.Refusal.{Refusal}
use Rattle.zb_model.specs.declared.data.Content.{Content}
use Rattle.zb_model.specs.declared.data.Content.TheVariants.{Held, Absent}
use Rattle.zb_model.specs.declared.refusal.Refusal.TheVariants as refusal
use Rattle.commit_phases.specs.Pending.{pending_of}
use Rattle.zodb_core.specs.declared.reply.Reply.{Reply}
use Rattle.zodb_core.specs.declared.reply.Reply.TheVariants as reply
use Rattle.zodb_core.specs.declared.request.Request.TheVariants as request
use Rattle.zodb_core.specs.Machine.{Machine, Rules, switches_of}
use Rattle.zodb_core.specs.HubState.{HubState}
use Rattle.zodb_core.specs.Outcomes.{FaultCounts, StepOutcome, outcome_of}
use Rattle.zodb_core.specs.Steps.{early_refusal, oids_step, unless_early}
use Rattle.tree_attempts.specs.declared.known.Seen.{Seen}
use Rattle.tree_attempts.specs.Known.{Agrees, known_at}
use Rattle.client_turns.specs.declared.member.Member.{Member}
use Rattle.client_turns.specs.Members.{changes_kept, session_of}
use Rattle.connection_view.specs.Works.{Work}
use Rattle.client_turns.specs.Clients.{Changes, Moment, OpenTransaction}
use Rattle.client_turns.specs.Clients as seen
use Rattle.client_turns.specs.DrawLaws.{new_reply}
use Rattle.client_turns.specs.Gathering.{IsDrawIn, IsDrawOf, IsSightIn, IsSightOf, number_in, objects_kept, objects_of, objects_over, over_known, seen_as, seen_or, seen_read}
use Rattle.client_turns.specs.Lines.{outcome_of_result}
use Rattle.connection_view.specs.Loading.{IsMissing}
use Rattle.client_turns.specs.OverQuestions.{ReadsLinked}
use Rattle.client_turns.specs.Standing.{ClientsState, IsGotAs, IsGotOf, IsGotWhere, LeadsTo, MayReadAt, ReadsHub, StandsForMoment}
use Rattle.client_turns.specs.Steps.{IsReadAt, IsStepAt}
use Rattle.client_turns.specs.Reads.{EndsReading}
use Rattle.client_turns.specs.Trees.{CameWhole, Draws, IsDrawn, IsInView, IsSeen, IsSeenIn, seen_waiting}
use Rattle.connection_view.specs.declared.connection.Connection.{Connection}
use Rattle.connection_view.specs.Connections.{InView, work_of, waiting_as}
use Rattle.connection_view.specs.ViewLaws.{IsSeenFrom, seen_from}
use Rattle.connection_view.specs.Views.{Later, View, read_below, view_of}
use Rattle.connection_view.specs.Views as views
use Rattle.client_turns.specs.Views.{server_of}
use Rattle.client_turns.proofs.Hubs.{counts_same}
use Rattle.client_turns.proofs.Placing.{IsClientAt, client_at, member_session}
use Rattle.client_turns.specs.TurnLaws.{read_current, read_missing}

-- ---- what is known

-- what a transaction has, but for what is known, agrees with what is known
pub over_agrees : (known : List (ℕ × Option Seen)) (list : List Transaction) (work : Result Work Refusal) → Agrees known (objects_over known list work)
over_agrees known list work oid x is = ap (λ (o : Option (Option Seen)). over_known o (objects_of list work oid)) is

same_seen : (a b : Option Seen) → Some a ≡ Some b → a ≡ b
same_seen a b e = cc

-- one more object is known
pub known_more : (P : ℕ → Option Seen → Type 0) (before now : List (ℕ × Option Seen)) (oid : ℕ) (seen : Option Seen) → ((other : ℕ) → known_at now other ≡ (if nat_eq oid other then Some seen else known_at before other))
    → ((o : ℕ) (x : Option Seen) → known_at before o ≡ Some x → P o x) → P oid seen → (o : ℕ) (x : Option Seen) → known_at now o ≡ Some x → P o x
known_more P before now oid seen learned all one o x there = by_number (eqb oid o) refl (sym (learned o) ∙ there)
  where
    by_number : (b : Bool) → eqb oid o ≡ b → (if b then Some seen else known_at before o) ≡ Some x → P o x
    by_number true same is = subst (λ (y : Option Seen). P o y) (same_seen seen x is) (subst (λ (n : ℕ). P n seen) (eqb-true oid o same) one)
    by_number false other is = all o x is

-- ---- what a transaction has

in_view : (m : Machine) (v : View) (oid : ℕ) (o : Option (ℕ × List ℕ)) → Later v (view_of (server_of m)) → read_below oid v.front m.list ≡ o → IsInView m v oid (option_map seen_as o)
in_view m v oid (Some got) later is = later.held oid v.front got (omega arith) is
in_view m v oid None later is = by_switches (nat_lt v.switches (switches_of m.journal)) refl
  where
    by_switches : (b : Bool) → nat_lt v.switches (switches_of m.journal) ≡ b → (packed : Bool) × IsMissing v (server_of m) oid packed
    by_switches true less = (true, (ltb-true v.switches (switches_of m.journal) less, is))
    by_switches false not =
        let same : v.switches ≡ switches_of m.journal = omega (arith, ltb-false v.switches (switches_of m.journal) not, later.switches) in
        (false, (sym same, sym (later.same same oid v.front (omega arith)) ∙ is))

waiting_seen : (m : Machine) (v : View) (oid : ℕ) (p : Option PendingStore) (o : Option (ℕ × List ℕ)) → Later v (view_of (server_of m)) → read_below oid v.front m.list ≡ o → IsSeen m v oid p (seen_or p o)
waiting_seen m v oid (Some p) o later is = refl
waiting_seen m v oid None o later is = in_view m v oid o later is

-- what a connection keeps of a transaction has of an object what the transaction has
pub seen_kept : (m : Machine) (k : Connection) (told : views.Client) (w : Work) (t : OpenTransaction) (list : List Transaction) (oid : ℕ) → t.changes ≡ changes_kept w → InView k t.view told → work_of k ≡ Ok w → Later t.view (view_of (server_of m)) → m.list ≡ list → IsSeenIn m t oid (objects_kept list w oid)
seen_kept m k told w t list oid changes view works later same =
    let from : IsSeenFrom w t.view told = seen_from k t.view told w view works in
    subst (λ (l : List Transaction). IsSeenIn m t oid (objects_kept l w oid)) same
    (subst (λ (f : ℕ). IsSeenIn m t oid (seen_or (pending_of w.pending.stores oid) (read_below oid f m.list))) (sym from.front)
    (subst (λ (ch : Changes). IsSeenIn m t oid (seen_or (pending_of ch.pending.stores oid) (read_below oid t.view.front m.list))) changes
    (waiting_seen m t.view oid (pending_of t.changes.pending.stores oid) (read_below oid t.view.front m.list) later refl)))

pub seen_over : (m : Machine) (t : OpenTransaction) (oid : ℕ) (o : Option (Option Seen)) (x : Option Seen) → ((y : Option Seen) → o ≡ Some y → IsSeenIn m t oid y) → IsSeenIn m t oid x → IsSeenIn m t oid (over_known o x)
seen_over m t oid (Some y) x known kept = known y refl
seen_over m t oid None x known kept = kept

-- a machine with the same list and journal, for reads
in_same : (a b : Machine) (v : View) (oid : ℕ) (x : Option Seen) → b.list ≡ a.list → b.journal ≡ a.journal → IsInView a v oid x → IsInView b v oid x
in_same a b v oid (Some x) list journal is = is
in_same a b v oid None list journal (true, (less, none)) = (true, (subst (λ j. v.switches < switches_of j) (sym journal) less, ap (λ (l : List Transaction). read_below oid v.front l) list ∙ none))
in_same a b v oid None list journal (false, (same, none)) = (false, (ap switches_of journal ∙ same, none))

pub seen_same : (a b : Machine) (v : View) (oid : ℕ) (p : Option PendingStore) (x : Option Seen) → b.list ≡ a.list → b.journal ≡ a.journal → IsSeen a v oid p x → IsSeen b v oid p x
seen_same a b v oid (Some p) x list journal is = is
seen_same a b v oid None x list journal is = in_same a b v oid x list journal is

-- ---- sights

-- what is missing came in no frame, nor did what waits
whole_none : (far : Bool) (p : Option PendingStore) → CameWhole far p None
whole_none true None = tt
whole_none true (Some p) = tt
whole_none false None = tt
whole_none false (Some p) = tt

whole_waiting : (far : Bool) (p : PendingStore) (x : Option Seen) → CameWhole far (Some p) x
whole_waiting true p None = tt
whole_waiting true p (Some x) = tt
whole_waiting false p None = tt
whole_waiting false p (Some x) = tt

whole_read : (far : Bool) (m : Machine) (v : View) (oid : ℕ) (before now : FaultCounts) (got : ℕ × List ℕ) → EndsReading far m v oid before now (Ok got) → CameWhole far None (Some (seen_as got))
whole_read true m v oid before now got ends = ends.1
whole_read false m v oid before now got ends = tt

read_sight : (m now : Moment) (t : OpenTransaction) (oid : ℕ) (read : Result (ℕ × List ℕ) Refusal) → pending_of t.changes.pending.stores oid ≡ None → IsReadAt m t oid read now → IsSightIn m (Some t) oid (seen_read read) now
read_sight m now t oid (Ok got) none read = (
  counts_same m now read.counts read.rest,
  subst (λ (p : Option PendingStore). IsSeen m.machine t.view oid p (Some (seen_as got))) (sym none) (read_current t.framed m.machine t.view oid m.counts now.counts got read.ends),
  subst (λ (p : Option PendingStore). CameWhole t.framed p (Some (seen_as got))) (sym none) (whole_read t.framed m.machine t.view oid m.counts now.counts got read.ends),
)
read_sight m now t oid (Err (refusal.Missing o packed)) none read = (
  counts_same m now read.counts read.rest,
  subst (λ (p : Option PendingStore). IsSeen m.machine t.view oid p None) (sym none) (packed, (read_missing t.framed m.machine t.view oid m.counts now.counts o packed read.ends).1),
  whole_none t.framed (pending_of t.changes.pending.stores oid),
)
read_sight m now t oid (Err _) none read = inl (read, refl)

seen_got : (oid base : ℕ) (content : Content) → seen_read (waiting_as oid base content) ≡ Ok (seen_waiting base content)
seen_got oid base (Held bytes) = refl
seen_got oid base Absent = refl

-- what the transaction has, as a call on a tree wants it
got_sight : (m now : Moment) (t : OpenTransaction) (oid : ℕ) (got : Result (ℕ × List ℕ) Refusal) (p : Option PendingStore) → pending_of t.changes.pending.stores oid ≡ p → IsGotAs m t oid p got now → IsSightIn m (Some t) oid (seen_read got) now
got_sight m now t oid got None is read = read_sight m now t oid got is read
got_sight m now t oid got (Some p) is (inl so, same) =
    subst (λ (z : Result (Option Seen) Refusal). IsSightIn m (Some t) oid z now) (sym (ap seen_read so ∙ seen_got oid p.base p.content)) (
      same,
      subst (λ (z : Option PendingStore). IsSeen m.machine t.view oid z (seen_waiting p.base p.content)) (sym is) refl,
      subst (λ (z : Option PendingStore). CameWhole t.framed z (seen_waiting p.base p.content)) (sym is) (whole_waiting t.framed p (seen_waiting p.base p.content)),
    )
got_sight m now t oid got (Some p) is (inr starved, same) = subst (λ (z : Result (ℕ × List ℕ) Refusal). IsSightIn m (Some t) oid (seen_read z) now) (sym starved) (inr (refl, same))

got_where : (m now : Moment) (o : Option OpenTransaction) (oid : ℕ) (got : Result (ℕ × List ℕ) Refusal) → IsSome o → IsGotWhere m o oid got now → IsSightIn m o oid (seen_read got) now
got_where m now None oid got some is = absurd cc
got_where m now (Some t) oid got some is = got_sight m now t oid got (pending_of t.changes.pending.stores oid) refl is

same_client : (a b : seen.Client) → Some a ≡ Some b → a ≡ b
same_client a b e = cc

pub sees_got : {R F : Type 0} (m : Moment) (at oid : ℕ) (got : Result (ℕ × List ℕ) Refusal) (result : Result (Option Seen) Refusal) (new : ClientsState R F) (after : Option (List Stamp)) → MayReadAt m at → result ≡ seen_read got
    → LeadsTo (IsGotOf m at oid got) new after → LeadsTo (IsSightOf m at oid result) new after
sees_got m at oid got result new after may is leads = record {
  now = leads.now;
  holds = (
    leads.holds.0,
    leads.holds.1,
    subst (λ (z : Result (Option Seen) Refusal). IsSightIn m leads.holds.0.transaction oid z leads.now) (sym is)
        (got_where m leads.now leads.holds.0.transaction oid got (subst (λ (c : seen.Client). IsSome c.transaction) (same_client may.0 leads.holds.0 (sym may.1 ∙ leads.holds.1)) may.3) leads.holds.2),
  );
  stands = leads.stands;
}

seen_outcome : (read : Result (ℕ × List ℕ) Refusal) → outcome_of_result (seen_read read) ≡ outcome_of_result read
seen_outcome (Ok got) = refl
seen_outcome (Err (refusal.Missing o packed)) = refl
seen_outcome (Err _) = refl

-- what was read says how a sight ended
pub seen_reads : {R F : Type 0} (told lasts : Type 0) (stands : List ℕ → List Transaction → Type 0) (read : Result (ℕ × List ℕ) Refusal) (result : Result (Option Seen) Refusal) (h g : HubState R F) → result ≡ seen_read read
    → ReadsLinked told lasts stands (outcome_of_result read) h g → ReadsLinked told lasts stands (outcome_of_result result) h g
seen_reads told lasts stands read result h g is reads = subst (λ (o : StepOutcome). ReadsLinked told lasts stands o h g) (sym (ap outcome_of_result is ∙ seen_outcome read)) reads

-- ---- draws

draw_by : (rules : Rules) (m : Moment) (n : ℕ) (now : Moment) (o : Option Refusal) (r : Reply) → (unless_early o m.machine (oids_step m.machine 1)).reply ≡ r → IsStepAt rules m n (request.NewOids 1) r now → IsDrawIn m n (number_in r) now
draw_by rules m n now None r is step = subst (λ (x : Reply). IsStepAt rules m n (request.NewOids 1) x now → IsDrawIn m n (number_in x) now) is (λ s. (rules, s)) step
draw_by rules m n now (Some why) r is step = subst (λ (x : Reply). IsStepAt rules m n (request.NewOids 1) x now → IsDrawIn m n (number_in x) now) is (λ s. inl (rules, s)) step

pub draw_done : {R F : Type 0} (rules : Rules) (m : Moment) (at : ℕ) (x : Member) (r : Reply) (result : Result ℕ Refusal) (old new : ClientsState R F) (before after : Option (List Stamp)) → StandsForMoment old before m → slice_get old.clients at ≡ Some x
    → result ≡ number_in r → LeadsTo (IsStepAt rules m (session_of x) (request.NewOids 1) r) new after → LeadsTo (IsDrawOf m at result) new after
draw_done rules m at x r result old new before after stands there is leads =
    let k : IsClientAt old.hub m.clients at x = client_at old.hub old.clients m.clients at x stands.clients there in
    let here : session_of x ≡ k.client.session = sym (member_session old.hub x k.client k.is) in
    record {
      now = leads.now;
      holds = (
        k.client,
        k.there,
        subst (λ (s : ℕ). IsDrawIn m s result leads.now) here
            (subst (λ (z : Result ℕ Refusal). IsDrawIn m (session_of x) z leads.now) (sym is)
            (draw_by rules m (session_of x) leads.now (early_refusal m.machine (session_of x) (request.NewOids 1)) r (new_reply rules m (session_of x) r leads.now leads.holds) leads.holds)),
      );
      stands = leads.stands;
    }

number_outcome : (r : Reply) → outcome_of_result (number_in r) ≡ outcome_of r
number_outcome (reply.Oids first count) = refl
number_outcome (reply.Refused why) = refl
number_outcome _ = refl

-- what was replied says how a draw ended
pub number_reads : {R F : Type 0} (told lasts : Type 0) (stands : List ℕ → List Transaction → Type 0) (r : Reply) (result : Result ℕ Refusal) (h g : HubState R F) → result ≡ number_in r
    → ReadsHub told lasts stands (outcome_of r) h g → ReadsHub told lasts stands (outcome_of_result result) h g
number_reads told lasts stands r result h g is reads = subst (λ (o : StepOutcome). ReadsHub told lasts stands o h g) (sym (ap outcome_of_result is ∙ number_outcome r)) reads

pub draws_more : (m : Moment) (n : ℕ) (oids : List ℕ) (oid : ℕ) (mid now : Moment) → Draws m n oids mid → IsDrawn mid n oid now → Draws m n (oids ++ oid ∷ []) now
draws_more m n [] oid mid now draws drawn = (now, subst (λ (x : Moment). IsDrawn x n oid now) draws drawn, refl)
draws_more m n (first ∷ oids) oid mid now (next, one, rest) drawn = (next, one, draws_more next n oids oid mid now rest drawn)
