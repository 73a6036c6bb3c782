-- How a load of the hub is a read in a view.
use Rattle.std.proofs.Common.{Bool, Err, IsTrue, List, None, Option, Result, Some, ap, arith, false, inl, inr, not, refl, subst, sym, true, ℕ, ◌<◌, ◌==◌, ◌∙◌, ◌≡◌, ◌≤◌}
use Rattle.std.specs.Option.{option_and_then, option_or}
use Rattle.std.proofs.lemmas.Bool.{eqb-true, eqb-false}
use Rattle.zb_base.specs.Counts.{Rose}
use Rattle.zb_ids.specs.declared.stamp.Stamp.{Stamp}
use Rattle.zb_model.specs.declared.data.Content.{Content}
use Rattle.zb_model.specs.declared.data.Content.TheVariants.{Held, Absent}
use Rattle.zb_model.specs.declared.refusal.Refusal.{Refusal}
use Rattle.zb_model.specs.declared.refusal.Refusal.TheVariants as refusal
use Rattle.zb_model.specs.Database.{ObjectRevision, revision_below}
use Rattle.zb_model.specs.Queries.{end_of, found_as, found_below, found_of}
use Rattle.zodb_core.specs.declared.reply.Reply.{Reply}
use Rattle.zodb_core.specs.declared.reply.Reply.TheVariants as reply
use Rattle.zodb_core.specs.declared.request.Request.TheVariants as request
use Rattle.zodb_core.specs.HubState.{HasTicked}
use Rattle.zodb_core.specs.Machine.{Machine, Rules, is_open_in, switches_of}
use Rattle.zodb_core.specs.Outcomes.{Answered, EndsFor, FaultCounts, NoMemory, ReadingFailed, StepOutcome, StoreFailed, machine_left, outcome_of, outcome_of_refusal}
use Rattle.zodb_core.specs.Steps.{Stepped, loaded, refuse_if, replied, step_of, unless_early}
use Rattle.connection_view.specs.Connections.{IsReadAnswered}
use Rattle.connection_view.specs.Loading.{IsMissing}
use Rattle.connection_view.specs.Views.{Later, View, read_as, read_from, view_of}
use Rattle.local_loads.specs.Answers.{load_answer, server_refusal}
use Rattle.client_turns.specs.Clients.{Moment, OpenTransaction}
use Rattle.client_turns.specs.Clients as clients
use Rattle.client_turns.specs.Lines.{IsCountedBy, outcome_of_read}
use Rattle.client_turns.specs.Reads.{EndsNear, EndsReading}
use Rattle.client_turns.specs.Steps.{IsReadAt, IsStepAt}
use Rattle.client_turns.specs.Views.{server_of}

-- ---- what a load of an open session is

load_step : (rules : Rules) (m : Machine) (n oid front stamp : ℕ) → is_open_in m.sessions n ≡ true
    → step_of rules m n (request.LoadBefore oid front) stamp ≡ replied m (loaded m oid (found_below oid front m.list))
load_step rules m n oid front stamp is_open =
    ap (λ (b : Bool). unless_early (option_or (refuse_if (not b) refusal.NotOpen) None) m (replied m (loaded m oid (found_below oid front m.list)))) is_open

-- a reply with a record
held_content : (m : Machine) (oid serial : ℕ) (bytes : List ℕ) (end : Option ℕ) (upto : ℕ) (s : ℕ) (c : Content) (e : Option ℕ)
    → reply.Loaded serial bytes end upto ≡ loaded m oid (found_as c s e) → read_as s c ≡ Some (serial, bytes)
held_content m oid serial bytes end upto s (Held b) e is = cc
held_content m oid serial bytes end upto s Absent e is = absurd cc

held_found : (m : Machine) (oid serial : ℕ) (bytes : List ℕ) (end : Option ℕ) (upto : ℕ) (r : Option ObjectRevision) (e : Option ℕ)
    → reply.Loaded serial bytes end upto ≡ loaded m oid (found_of r e) → option_and_then read_from r ≡ Some (serial, bytes)
held_found m oid serial bytes end upto None e is = absurd cc
held_found m oid serial bytes end upto (Some r) e is = held_content m oid serial bytes end upto r.serial r.content e is

-- a reply without one
pub record IsNothing (m : Machine) (oid o packed : ℕ) (r : Option ObjectRevision) : Type 0 where
  pub object : o ≡ oid
  pub switches : packed ≡ switches_of m.journal
  pub none : option_and_then read_from r ≡ None

none_content : (m : Machine) (oid o packed s : ℕ) (c : Content) (e : Option ℕ) → reply.Nothing o packed ≡ loaded m oid (found_as c s e)
    → (o ≡ oid) × (packed ≡ switches_of m.journal) × (read_as s c ≡ None)
none_content m oid o packed s (Held b) e is = absurd cc
none_content m oid o packed s Absent e is = (cc, cc, refl)

none_found : (m : Machine) (oid o packed : ℕ) (r : Option ObjectRevision) (e : Option ℕ) → reply.Nothing o packed ≡ loaded m oid (found_of r e) → IsNothing m oid o packed r
none_found m oid o packed None e is = record { object = cc; switches = cc; none = refl }
none_found m oid o packed (Some r) e is =
    let both : (o ≡ oid) × (packed ≡ switches_of m.journal) × (read_as r.serial r.content ≡ None) = none_content m oid o packed r.serial r.content e is in
    record { object = both.0; switches = both.1; none = both.2 }

-- any other reply is none of a load
no_content : (m : Machine) (oid s : ℕ) (c : Content) (e : Option ℕ) (P : Reply → Type 0) → ((serial : ℕ) (bytes : List ℕ) (end : Option ℕ) (upto : ℕ) → P (reply.Loaded serial bytes end upto))
    → ((o packed : ℕ) → P (reply.Nothing o packed)) → P (loaded m oid (found_as c s e))
no_content m oid s (Held b) e P held none = held _ _ _ _
no_content m oid s Absent e P held none = none _ _

pub each_load : (m : Machine) (oid : ℕ) (r : Option ObjectRevision) (e : Option ℕ) (P : Reply → Type 0) → ((serial : ℕ) (bytes : List ℕ) (end : Option ℕ) (upto : ℕ) → P (reply.Loaded serial bytes end upto))
    → ((o packed : ℕ) → P (reply.Nothing o packed)) → P (loaded m oid (found_of r e))
each_load m oid None e P held none = none _ _
each_load m oid (Some r) e P held none = no_content m oid r.serial r.content e P held none

-- ---- how a read ends

-- how a read ends, and what it does to the counts
pub record EndsSo (m : Machine) (v : View) (oid : ℕ) (before now : FaultCounts) (result : Result (ℕ × List ℕ) Refusal) : Type 0 where
  pub ends : EndsNear m v oid before now result
  pub counts : IsCountedBy before now (outcome_of_read result)

missing_as : (m : Machine) (v : View) (oid o packed : ℕ) (b : Bool) → (packed == v.switches) ≡ b → Later v (view_of (server_of m)) → IsNothing m oid o packed (revision_below oid v.front m.list)
    → IsMissing v (server_of m) oid (not b)
missing_as m v oid o packed true is later none =
    let unpacked : v.switches ≡ switches_of m.journal = omega (arith, eqb-true packed v.switches is, none.switches) in
    (sym unpacked, sym (later.same unpacked oid v.front (omega arith)) ∙ none.none)
missing_as m v oid o packed false is later none =
    (less v.switches (switches_of m.journal) later.switches (λ e. eqb-false packed v.switches is (none.switches ∙ sym e)), none.none)
  where
    less : (a b : ℕ) → a ≤ b → (a ≡ b → ⊥) → a < b
    less a b within other = omega (arith, within, other)

refused_so : (m : Machine) (v : View) (oid : ℕ) (before now : FaultCounts) (why : Refusal) → (outcome_of_refusal why ≡ Answered → ⊥) → (outcome_of_refusal why ≡ ReadingFailed → Rose before.reads now.reads)
    → (outcome_of_refusal why ≡ StoreFailed → ⊥) → IsCountedBy before now (outcome_of_refusal why) → EndsSo m v oid before now (Err (server_refusal why))
refused_so m v oid before now refusal.ReadFault answered failed broke counts = record { ends = failed refl; counts = counts }
refused_so m v oid before now refusal.Memory answered failed broke counts = record { ends = counts; counts = counts }
refused_so m v oid before now refusal.StoreFault answered failed broke counts = absurd (broke refl)
refused_so m v oid before now _ answered failed broke counts = absurd (answered refl)

module _ (rules : Rules) (m : Moment) (n oid stamp : ℕ) (v : View) (made : Stepped) (now : FaultCounts) (later : Later v (view_of (server_of m.machine))) (is_open : is_open_in m.machine.sessions n ≡ true) where
  abbrev Ends : StepOutcome → Type 0
  Ends o = EndsFor rules m.machine n (request.LoadBefore oid v.front) stamp made m.counts now o

  answered_reply : made ≡ step_of rules m.machine n (request.LoadBefore oid v.front) stamp → made.reply ≡ loaded m.machine oid (found_below oid v.front m.machine.list)
  answered_reply is = ap (λ (s : Stepped). s.reply) (is ∙ load_step rules m.machine n oid v.front stamp is_open)

  failed_rose : (o : StepOutcome) → o ≡ ReadingFailed → Ends o → Rose m.counts.reads now.reads
  failed_rose ReadingFailed is ends = ends.1
  failed_rose Answered is ends = absurd cc
  failed_rose NoMemory is ends = absurd cc
  failed_rose StoreFailed is ends = absurd cc

  never_broke : (o : StepOutcome) → o ≡ StoreFailed → Ends o → ⊥
  never_broke StoreFailed is ends = absurd (false_true ends.0.one)
    where
      false_true : false ≡ true → ⊥
      false_true e = absurd cc
  never_broke Answered is ends = absurd cc
  never_broke NoMemory is ends = absurd cc
  never_broke ReadingFailed is ends = absurd cc

  never_answered : (why : Refusal) (o : StepOutcome) → made.reply ≡ reply.Refused why → o ≡ Answered → Ends o → ⊥
  never_answered why Answered is same ends = no_refusal (sym is ∙ answered_reply ends)
    where
      no_refusal : reply.Refused why ≡ loaded m.machine oid (found_below oid v.front m.machine.list) → ⊥
      no_refusal e = each_load m.machine oid (revision_below oid v.front m.machine.list) (end_of oid v.front m.machine.list) (λ r. reply.Refused why ≡ r → ⊥) (λ serial bytes end upto f. absurd cc) (λ o packed f. absurd cc) e
  never_answered why ReadingFailed is same ends = absurd cc
  never_answered why NoMemory is same ends = absurd cc
  never_answered why StoreFailed is same ends = absurd cc

  other_reply : (r : Reply) → ((serial : ℕ) (bytes : List ℕ) (end : Option ℕ) (upto : ℕ) → r ≡ reply.Loaded serial bytes end upto → ⊥) → ((o packed : ℕ) → r ≡ reply.Nothing o packed → ⊥)
      → made.reply ≡ r → made ≡ step_of rules m.machine n (request.LoadBefore oid v.front) stamp → ⊥
  other_reply r held none is ends =
      each_load m.machine oid (revision_below oid v.front m.machine.list) (end_of oid v.front m.machine.list) (λ x. r ≡ x → ⊥) held none (sym is ∙ answered_reply ends)

  reply_so : (r : Reply) (result : Result (ℕ × List ℕ) Refusal) → made.reply ≡ r → IsCountedBy m.counts now (outcome_of r) → Ends (outcome_of r) → IsReadAnswered oid v.switches (load_answer r) result → EndsSo m.machine v oid m.counts now result
  reply_so (reply.Loaded serial bytes end upto) result is counts ends (inl so) =
      subst (EndsSo m.machine v oid m.counts now) (sym so) (record {
        ends = later.held oid v.front (serial, bytes) (omega arith)
            (held_found m.machine oid serial bytes end upto (revision_below oid v.front m.machine.list) (end_of oid v.front m.machine.list) (sym is ∙ answered_reply ends));
        counts = counts;
      })
  reply_so (reply.Loaded serial bytes end upto) result is counts ends (inr so) = subst (EndsSo m.machine v oid m.counts now) (sym so) (record { ends = counts; counts = counts })
  reply_so (reply.Nothing o packed) result is counts ends so =
      subst (EndsSo m.machine v oid m.counts now) (sym so) (record {
        ends = (
          refl,
          missing_as m.machine v oid o packed (packed == v.switches) refl later
              (none_found m.machine oid o packed (revision_below oid v.front m.machine.list) (end_of oid v.front m.machine.list) (sym is ∙ answered_reply ends)),
        );
        counts = counts;
      })
  reply_so (reply.Refused why) result is counts ends so =
      subst (EndsSo m.machine v oid m.counts now) (sym so.0)
      (refused_so m.machine v oid m.counts now why (λ o. never_answered why (outcome_of_refusal why) is o ends) (λ o. failed_rose (outcome_of_refusal why) o ends) (λ o. never_broke (outcome_of_refusal why) o ends) counts)
  reply_so _ result is counts ends so = absurd (other_reply _ (λ serial bytes end upto e. absurd cc) (λ o packed e. absurd cc) is ends)

-- the machine is as it was
load_left : (rules : Rules) (m : Machine) (n oid front stamp : ℕ) (made : Stepped) (before now : FaultCounts) (o : StepOutcome) → is_open_in m.sessions n ≡ true
    → EndsFor rules m n (request.LoadBefore oid front) stamp made before now o → machine_left rules m n (request.LoadBefore oid front) stamp o ≡ m
load_left rules m n oid front stamp made before now Answered is_open ends = ap (λ (s : Stepped). s.machine) (load_step rules m n oid front stamp is_open)
load_left rules m n oid front stamp made before now ReadingFailed is_open ends = refl
load_left rules m n oid front stamp made before now NoMemory is_open ends = refl
load_left rules m n oid front stamp made before now StoreFailed is_open ends = absurd (false_true ends.0.one)
  where
    false_true : false ≡ true → ⊥
    false_true e = absurd cc

-- the clock wasn't read
pub unread_clock : (b : Bool) (stamp : ℕ) (before after : Option (List Stamp)) → (IsTrue b → ⊥) → HasTicked b stamp before after → after ≡ before
unread_clock true stamp before after never ticked = absurd (never refl)
unread_clock false stamp before after never ticked = ticked

load_quiet : (rules : Rules) (m : Machine) (n oid front stamp : ℕ) → is_open_in m.sessions n ≡ true → IsTrue (step_of rules m n (request.LoadBefore oid front) stamp).ticks → ⊥
load_quiet rules m n oid front stamp is_open ticks = false_true (subst IsTrue (ap (λ (s : Stepped). s.ticks) (load_step rules m n oid front stamp is_open)) ticks)
  where
    false_true : false ≡ true → ⊥
    false_true e = absurd cc

pub moment_is : (m now : Moment) → now.machine ≡ m.machine → now.clients ≡ m.clients → now.stamps ≡ m.stamps → now ≡ record { machine = m.machine; clients = m.clients; stamps = m.stamps; counts = now.counts }
moment_is m now machine others stamps =
    ap (λ (x : Machine). let n : Moment = record { machine = x; clients = now.clients; stamps = now.stamps; counts = now.counts } in n) machine
    ∙ ap (λ (x : List clients.Client). let n : Moment = record { machine = m.machine; clients = x; stamps = now.stamps; counts = now.counts } in n) others
    ∙ ap (λ (x : Option (List Stamp)). let n : Moment = record { machine = m.machine; clients = m.clients; stamps = x; counts = now.counts } in n) stamps

-- but for the counts a load in an open session leaves all as it was
pub load_rest : (rules : Rules) (m : Moment) (n oid front : ℕ) (r : Reply) (now : Moment) → is_open_in m.machine.sessions n ≡ true → IsStepAt rules m n (request.LoadBefore oid front) r now → now ≡ record m { counts = now.counts }
load_rest rules m n oid front r now is_open step =
    moment_is m now (step.made.left ∙ load_left rules m.machine n oid front step.stamp (record { reply = r; machine = now.machine; ticks = step.ticks }) m.counts now.counts (outcome_of r) is_open step.made.cause) step.clients
    (unread_clock step.ticks step.stamp m.stamps now.stamps (λ ticks. load_quiet rules m.machine n oid front step.stamp is_open (step.made.ticks ticks)) step.clock)

-- and where it is answered, it is so as the machine stands
pub load_said : (rules : Rules) (m : Moment) (n oid front : ℕ) (r : Reply) (now : Moment) → is_open_in m.machine.sessions n ≡ true → IsStepAt rules m n (request.LoadBefore oid front) r now → outcome_of r ≡ Answered → r ≡ loaded m.machine oid (found_below oid front m.machine.list)
load_said rules m n oid front r now is_open step said = by_outcome (outcome_of r) said step.made.cause
  where
    by_outcome : (o : StepOutcome) → o ≡ Answered → EndsFor rules m.machine n (request.LoadBefore oid front) step.stamp (record { reply = r; machine = now.machine; ticks = step.ticks }) m.counts now.counts o → r ≡ loaded m.machine oid (found_below oid front m.machine.list)
    by_outcome Answered is ends = ap (λ (s : Stepped). s.reply) (ends ∙ load_step rules m.machine n oid front step.stamp is_open)
    by_outcome ReadingFailed is ends = absurd cc
    by_outcome NoMemory is ends = absurd cc
    by_outcome StoreFailed is ends = absurd cc

-- a load in an open session is a read of a local client, in a view of which the list came
pub load_reads : (rules : Rules) (m : Moment) (n oid : ℕ) (t : OpenTransaction) (r : Reply) (result : Result (ℕ × List ℕ) Refusal) (now : Moment) → t.framed ≡ false → Later t.view (view_of (server_of m.machine)) → is_open_in m.machine.sessions n ≡ true
    → IsStepAt rules m n (request.LoadBefore oid t.view.front) r now → IsReadAnswered oid t.view.switches (load_answer r) result → IsReadAt m t oid result now
load_reads rules m n oid t r result now near later is_open step answered =
    let so : EndsSo m.machine t.view oid m.counts now.counts result =
    reply_so rules m n oid step.stamp t.view (record { reply = r; machine = now.machine; ticks = step.ticks }) now.counts later is_open r result refl step.counts step.made.cause answered in
    record {
      later = step.made.later;
      ends = subst (λ (far : Bool). EndsReading far m.machine t.view oid m.counts now.counts result) (sym near) so.ends;
      counts = so.counts;
      rest = load_rest rules m n oid t.view.front r now is_open step;
    }
