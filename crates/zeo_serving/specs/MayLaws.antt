-- What steps of its own session keep of a client at a machine that may have failed, and what its loads are answered. For the proofs of those who carry calls.
use Rattle.std.proofs.Common.{◌≡◌, ℕ, zero, suc, ◌+◌, ◌<◌, ◌≤◌, ◌^◌, Bool, true, false, not, List, [], ◌∷◌, map, Option, Some, None, refl, sym, ap, subst, ◌∙◌, arith}
use Rattle.std.specs.Option.{option_and_then, option_or}
use Rattle.std.proofs.lemmas.Bool.{true≢false}
use Rattle.zb_model.specs.declared.data.Content.{Content}
use Rattle.zb_model.specs.declared.data.Content.TheVariants.{Held, Absent}
use Rattle.zb_model.specs.declared.refusal.Refusal.{Refusal}
use Rattle.zb_model.specs.declared.refusal.Refusal.TheVariants as refusal
use Rattle.zb_model.specs.Database.{ObjectRevision, newest_tid, revision_below}
use Rattle.zb_model.specs.Queries.{end_of, found_as, found_below, found_of}
use Rattle.zodb_core.specs.declared.reply.Reply.{Reply}
use Rattle.zodb_core.specs.declared.reply.Reply.TheVariants as reply
use Rattle.zodb_core.specs.declared.request.Request.{Request}
use Rattle.zodb_core.specs.declared.request.Request.TheVariants as request
use Rattle.zodb_core.specs.Machine.{Machine, MachineSession, Rules, holds_vote, is_open_in, switches_of}
use Rattle.zodb_core.specs.Outcomes.{Answered, EndsFor, FaultCounts, IsStepMade, NoMemory, ReadingFailed, StepOutcome, StoreFailed, closed_session, machine_left, outcome_of, unanswered}
use Rattle.zodb_core.specs.Sound.{IsSoundMachine, IsWellFormedRequest}
use Rattle.zodb_core.specs.SoundLaws.{left_sound}
use Rattle.zodb_core.specs.StepCases.{by_step, by_unanswered}
use Rattle.zodb_core.specs.Steps.{Stepped, early_refusal, loaded, refuse_if, replied, replied_refusal, request_refusal, request_step, step_of, unless_early}
use Rattle.connection_view.specs.declared.loads.Loaded.TheVariants as answer
use Rattle.connection_view.specs.Loading.{IsLoaded}
use Rattle.connection_view.specs.ViewLaws.{later_later}
use Rattle.connection_view.specs.Views.{Client, Later, Server, View, read_as, read_below, read_from, view_of}
use Rattle.local_loads.specs.Local.{lost_server, server_unless}
use Rattle.local_loads.specs.LocalLaws.{later_lost}
use Rattle.zeo_cache.specs.Intervals.{Intervals, found_in, interval_of}
use Rattle.zeo_serving.specs.declared.standing.Standing.{Standing}
use Rattle.zeo_serving.specs.Serving.{IsServed, MayBeServed, server_at, view_at}
use Rattle.zeo_serving.specs.OtherLaws.{IsOther, failed_other, same, voteless}
use Rattle.zeo_serving.specs.ServingLaws.{entries_are_answers, own_early, served_on}

-- ---- sessions that aren't open

some_none : (r : Refusal) → ◌≡◌ {A = Option Refusal} (Some r) None → ⊥
some_none r is = absurd cc

-- a step of such a session is refused, and leaves the machine as it was
pub record IsNotOpen (m : Machine) (made : Stepped) : Type 0 where
  pub reply : made.reply ≡ reply.Refused refusal.NotOpen
  pub machine : made.machine ≡ m

pub shut_step : (rules : Rules) (m : Machine) (n : ℕ) (q : Request) (stamp : ℕ) (made : Stepped) (before now : FaultCounts) → is_open_in m.sessions n ≡ false
    → IsStepMade rules m n q stamp made before now → IsNotOpen m made
shut_step rules m n q stamp made before now shut step = by_outcome (outcome_of made.reply) step.cause
  where
    early : early_refusal m n q ≡ Some refusal.NotOpen
    early = ap (λ (b : Bool). option_or (refuse_if (not b) refusal.NotOpen) (request_refusal m n q)) shut

    is : step_of rules m n q stamp ≡ replied_refusal m refusal.NotOpen
    is = ap (λ (o : Option Refusal). unless_early o m (request_step rules m n q stamp)) early

    by_outcome : (o : StepOutcome) → EndsFor rules m n q stamp made before now o → IsNotOpen m made
    by_outcome Answered cause = record { reply = ap (λ (s : Stepped). s.reply) (cause ∙ is); machine = ap (λ (s : Stepped). s.machine) (cause ∙ is) }
    by_outcome ReadingFailed cause = absurd (some_none refusal.NotOpen (sym early ∙ cause.0.allowed))
    by_outcome NoMemory cause = absurd (some_none refusal.NotOpen (sym early ∙ cause.allowed))
    by_outcome StoreFailed cause = absurd (some_none refusal.NotOpen (sym early ∙ cause.0.allowed))

closed_shut : (xs : List MachineSession) (n : ℕ) → is_open_in (map closed_session xs) n ≡ false
closed_shut [] n = refl
closed_shut (x ∷ xs) zero = refl
closed_shut (x ∷ xs) (suc n) = closed_shut xs n

-- ---- steps that fail the machine

pub step_failed : (rules : Rules) (m : Machine) (n : ℕ) (q : Request) (stamp : ℕ) → (step_of rules m n q stamp).machine.failed ≡ m.failed
step_failed rules m n q stamp = by_step (λ s. s.machine.failed ≡ m.failed) rules m n q stamp (record {
  refused = λ r is. refl;
  full = λ count. refl;
  spent = refl;
  told = refl;
  found = λ oid f. refl;
  numbers = λ count. refl;
  nothing = refl;
  written = λ texts changes tid each above bounded. refl;
  emptied = refl;
  committed = λ v t is of. refl;
  dropped = refl;
  listed = λ revisions. refl;
  logged = λ lines. refl;
  begun = λ is t collects none below. refl;
  marking = λ is p count there. refl;
  marked = λ is p keep there. refl;
  copying = λ is p k copied count there copying. refl;
  copied = λ is p k copied count there copying. refl;
  lost = λ is r answers. refl;
  packed = λ is t keep free below. refl;
  last = refl;
  since = λ tid changes. refl;
  closed = refl;
})

-- a step that fails the machine closes the session
left_shut : (rules : Rules) (m : Machine) (n : ℕ) (q : Request) (stamp : ℕ) (o : StepOutcome) → m.failed ≡ false → (machine_left rules m n q stamp o).failed ≡ true → is_open_in (machine_left rules m n q stamp o).sessions n ≡ false
left_shut rules m n q stamp Answered whole broke = absurd (true≢false (sym broke ∙ step_failed rules m n q stamp ∙ whole))
left_shut rules m n q stamp ReadingFailed whole broke = absurd (true≢false (sym broke ∙ by_unanswered (λ k. k.failed ≡ m.failed) q m refl refl ∙ whole))
left_shut rules m n q stamp NoMemory whole broke = absurd (true≢false (sym broke ∙ by_unanswered (λ k. k.failed ≡ m.failed) q m refl refl ∙ whole))
left_shut rules m n q stamp StoreFailed whole broke = closed_shut m.sessions n

-- ---- what is kept

-- What a step of the session makes of a client, where the machine is whole, and what it makes of it by itself where it isn't.
pub record KeepsAt (rules : Rules) (m : Machine) (n : ℕ) (q : Request) (stamp : ℕ) (made : Stepped) (z y : Standing) (before now : Intervals) (c d : Client) : Type 0 where
  pub formed : IsWellFormedRequest q
  pub whole : IsSoundMachine m → IsServed m n z before c → IsServed (machine_left rules m n q stamp (outcome_of made.reply)) n y now d
  pub lost : made.reply ≡ reply.Refused refusal.NotOpen → (at : Machine) → IsSoundMachine at → IsServed at n z before c → IsServed at n y now d
  pub front : d.known.front < 2 ^ 64
  pub switches : d.known.switches < 2 ^ 64

pub may_step : (rules : Rules) (m : Machine) (n : ℕ) (q : Request) (stamp : ℕ) (made : Stepped) (counts behind : FaultCounts) (z y : Standing) (before now : Intervals) (c d : Client)
    → IsStepMade rules m n q stamp made counts behind → MayBeServed m n z before c → KeepsAt rules m n q stamp made z y before now c d → MayBeServed made.machine n y now d
may_step rules m n q stamp made counts behind z y before now c d step may keeps = by_failed m.failed refl
  where
    by_failed : (b : Bool) → m.failed ≡ b → MayBeServed made.machine n y now d
    by_failed true broke =
        let same = shut_step rules m n q stamp made counts behind (may.shut broke) step in
        record {
          at = may.at;
          sound = may.sound;
          served = keeps.lost same.reply may.at may.sound may.served;
          whole = λ is. absurd (true≢false (sym broke ∙ sym (ap (λ (k : Machine). k.failed) same.machine) ∙ is));
          shut = λ is. subst (λ (k : Machine). is_open_in k.sessions n ≡ false) (sym same.machine) (may.shut broke);
          front = keeps.front;
          switches = keeps.switches;
        }
    by_failed false is_whole =
        let at : may.at ≡ m = may.whole is_whole in
        let sound : IsSoundMachine m = subst (λ (k : Machine). IsSoundMachine k) at may.sound in
        let served : IsServed m n z before c = subst (λ (k : Machine). IsServed k n z before c) at may.served in
        record {
          at = machine_left rules m n q stamp (outcome_of made.reply);
          sound = left_sound rules m n q stamp (outcome_of made.reply) sound keeps.formed;
          served = keeps.whole sound served;
          whole = λ is. sym step.left;
          shut = λ broke.
              subst (λ (k : Machine). is_open_in k.sessions n ≡ false) (sym step.left)
              (left_shut rules m n q stamp (outcome_of made.reply) is_whole (subst (λ (k : Machine). k.failed ≡ true) step.left broke));
          front = keeps.front;
          switches = keeps.switches;
        }

-- what a client does by itself
pub may_alone : (m : Machine) (n : ℕ) (z y : Standing) (before now : Intervals) (c d : Client) → d.known.front < 2 ^ 64 → d.known.switches < 2 ^ 64
    → ((at : Machine) → IsSoundMachine at → IsServed at n z before c → IsServed at n y now d) → MayBeServed m n z before c → MayBeServed m n y now d
may_alone m n z y before now c d front switches keeps may =
    record { at = may.at; sound = may.sound; served = keeps may.at may.sound may.served; whole = may.whole; shut = may.shut; front = front; switches = switches }

-- ---- aborts

abort_other : (m : Machine) (n : ℕ) (rules : Rules) (stamp : ℕ) (o : StepOutcome) → IsOther m (machine_left rules m n request.Abort stamp o) n
abort_other m n rules stamp Answered = own_early m n (early_refusal m n request.Abort) (request_step rules m n request.Abort stamp) (voteless m n (holds_vote n m.vote))
abort_other m n rules stamp ReadingFailed = same m n
abort_other m n rules stamp NoMemory = same m n
abort_other m n rules stamp StoreFailed = failed_other m n

-- an abort keeps the client as it was, however it ends
pub abort_stays : (rules : Rules) (m : Machine) (n stamp : ℕ) (o : StepOutcome) → IsSoundMachine m → (z : Standing) (entries : Intervals) (c : Client) → IsServed m n z entries c
    → IsServed (machine_left rules m n request.Abort stamp o) n z entries c
abort_stays rules m n stamp o sound z entries c x = served_on m (machine_left rules m n request.Abort stamp o) n sound (abort_other m n rules stamp o) z entries c x

-- ---- what stands there is later than the view that the client was told of

told_bounds : (m : Machine) (n : ℕ) (z : Standing) (entries : Intervals) (c : Client) → MayBeServed m n z entries c → (c.told.front < 2 ^ 64) × (c.told.switches < 2 ^ 64)
told_bounds m n z entries c may =
    let a = may.served.told.front in
    let b = may.served.told.switches in
    let f = may.front in
    let s = may.switches in
    (omega (arith, a, f), omega (arith, b, s))

pub server_whole : (m : Machine) → m.failed ≡ false → server_at m ≡ record { list = m.list; switches = switches_of m.journal; greatest = m.greatest }
server_whole m whole = ap (λ (b : Bool). server_unless b m.list m.journal m.greatest) whole

server_lost : (m : Machine) → m.failed ≡ true → server_at m ≡ lost_server
server_lost m broke = ap (λ (b : Bool). server_unless b m.list m.journal m.greatest) broke

told_at : (m : Machine) (n : ℕ) (z : Standing) (entries : Intervals) (c : Client) → m.failed ≡ false → MayBeServed m n z entries c → Later c.told (view_at m)
told_at m n z entries c whole may =
    let at : Later c.known (view_at m) = subst (λ (k : Machine). Later c.known (view_at k)) (may.whole whole) may.served.knows.later in
    later_later c.told c.known (view_at m) may.served.told at

pub told_before : (m : Machine) (n : ℕ) (z : Standing) (entries : Intervals) (c : Client) → MayBeServed m n z entries c → Later c.told (view_of (server_at m))
told_before m n z entries c may = by_failed m.failed refl
  where
    by_failed : (b : Bool) → m.failed ≡ b → Later c.told (view_of (server_at m))
    by_failed true broke =
        let bounds = told_bounds m n z entries c may in
        subst (λ (s : Server). Later c.told (view_of s)) (sym (server_lost m broke)) (later_lost c.told bounds.0 bounds.1)
    by_failed false whole = subst (λ (s : Server). Later c.told (view_of s)) (sym (server_whole m whole)) (told_at m n z entries c whole may)

-- ---- loads

-- what the cache answers
pub hit_is_loaded : (m : Machine) (n : ℕ) (z : Standing) (entries : Intervals) (c : Client) (oid front : ℕ) (d : ℕ × List ℕ) → MayBeServed m n z entries c → front ≤ z.known
    → found_in (interval_of entries oid) front ≡ Some d → front ≤ c.told.front → IsLoaded oid front c.told (server_at m) (answer.Held d.0 d.1)
hit_is_loaded m n z entries c oid front d may low found within =
    let known : read_below oid front c.known.list ≡ Some d = entries_are_answers may.at n z entries c oid front d may.served low found in
    may.served.told.held oid front d within known

held_content : (m : Machine) (oid serial : ℕ) (bytes : List ℕ) (end : Option ℕ) (upto s : ℕ) (c : Content) (e : Option ℕ)
    → loaded m oid (found_as c s e) ≡ reply.Loaded serial bytes end upto → read_as s c ≡ Some (serial, bytes)
held_content m oid serial bytes end upto s (Held b) e is = cc
held_content m oid serial bytes end upto s Absent e is = absurd cc

held_found : (m : Machine) (oid serial : ℕ) (bytes : List ℕ) (end : Option ℕ) (upto : ℕ) (r : Option ObjectRevision) (e : Option ℕ)
    → loaded m oid (found_of r e) ≡ reply.Loaded serial bytes end upto → option_and_then read_from r ≡ Some (serial, bytes)
held_found m oid serial bytes end upto None e is = absurd cc
held_found m oid serial bytes end upto (Some r) e is = held_content m oid serial bytes end upto r.serial r.content e is

none_content : (m : Machine) (oid o packed s : ℕ) (c : Content) (e : Option ℕ) → loaded m oid (found_as c s e) ≡ reply.Nothing o packed → (packed ≡ switches_of m.journal) × (read_as s c ≡ None)
none_content m oid o packed s (Held b) e is = absurd cc
none_content m oid o packed s Absent e is = (cc, refl)

none_found : (m : Machine) (oid o packed : ℕ) (r : Option ObjectRevision) (e : Option ℕ) → loaded m oid (found_of r e) ≡ reply.Nothing o packed → (packed ≡ switches_of m.journal) × (option_and_then read_from r ≡ None)
none_found m oid o packed None e is = (cc, refl)
none_found m oid o packed (Some r) e is = none_content m oid o packed r.serial r.content e is

held_early : (early : Option Refusal) (m : Machine) (oid front serial : ℕ) (bytes : List ℕ) (end : Option ℕ) (upto : ℕ)
    → (unless_early early m (replied m (loaded m oid (found_below oid front m.list)))).reply ≡ reply.Loaded serial bytes end upto → read_below oid front m.list ≡ Some (serial, bytes)
held_early (Some r) m oid front serial bytes end upto is = absurd cc
held_early None m oid front serial bytes end upto is = held_found m oid serial bytes end upto (revision_below oid front m.list) (end_of oid front m.list) is

none_early : (early : Option Refusal) (m : Machine) (oid front o packed : ℕ) → (unless_early early m (replied m (loaded m oid (found_below oid front m.list)))).reply ≡ reply.Nothing o packed
    → (packed ≡ switches_of m.journal) × (read_below oid front m.list ≡ None)
none_early (Some r) m oid front o packed is = absurd cc
none_early None m oid front o packed is = none_found m oid o packed (revision_below oid front m.list) (end_of oid front m.list) is

-- what an answered reply says is what the machine says
pub answered_step : (rules : Rules) (m : Machine) (n : ℕ) (q : Request) (stamp : ℕ) (made : Stepped) (counts behind : FaultCounts) (r : Reply) → IsStepMade rules m n q stamp made counts behind
    → made.reply ≡ r → outcome_of r ≡ Answered → made ≡ step_of rules m n q stamp
answered_step rules m n q stamp made counts behind r step is answered = subst (λ (o : StepOutcome). EndsFor rules m n q stamp made counts behind o) (ap outcome_of is ∙ answered) step.cause

not_open_is : (r : Reply) → r ≡ reply.Refused refusal.NotOpen → ((x : Refusal) → r ≡ reply.Refused x → ⊥) → ⊥
not_open_is r is not = not refusal.NotOpen is

-- what a step that loads answers
pub held_is_loaded : (rules : Rules) (m : Machine) (n oid front stamp : ℕ) (made : Stepped) (counts behind : FaultCounts) (z : Standing) (entries : Intervals) (c : Client) (serial upto : ℕ) (bytes : List ℕ) (end : Option ℕ)
    → IsStepMade rules m n (request.LoadBefore oid front) stamp made counts behind → MayBeServed m n z entries c → made.reply ≡ reply.Loaded serial bytes end upto → front ≤ c.told.front
    → IsLoaded oid front c.told (server_at m) (answer.Held serial bytes)
held_is_loaded rules m n oid front stamp made counts behind z entries c serial upto bytes end step may is within = by_failed m.failed refl
  where
    never : reply.Loaded serial bytes end upto ≡ reply.Refused refusal.NotOpen → ⊥
    never same = absurd cc

    by_failed : (b : Bool) → m.failed ≡ b → read_below oid front c.told.list ≡ Some (serial, bytes)
    by_failed true broke = absurd (never (sym is ∙ (shut_step rules m n (request.LoadBefore oid front) stamp made counts behind (may.shut broke) step).reply))
    by_failed false whole =
        let as_said : made ≡ step_of rules m n (request.LoadBefore oid front) stamp = answered_step rules m n (request.LoadBefore oid front) stamp made counts behind (reply.Loaded serial bytes end upto) step is refl in
        let there : read_below oid front m.list ≡ Some (serial, bytes) =
        held_early (early_refusal m n (request.LoadBefore oid front)) m oid front serial bytes end upto (sym (ap (λ (s : Stepped). s.reply) as_said) ∙ is) in
        (told_at m n z entries c whole may).held oid front (serial, bytes) within there

pub none_is_loaded : (rules : Rules) (m : Machine) (n oid front stamp : ℕ) (made : Stepped) (counts behind : FaultCounts) (z : Standing) (entries : Intervals) (c : Client) (o switches : ℕ)
    → IsStepMade rules m n (request.LoadBefore oid front) stamp made counts behind → MayBeServed m n z entries c → made.reply ≡ reply.Nothing o switches → front ≤ c.told.front
    → IsLoaded oid front c.told (server_at m) (answer.Nothing switches)
none_is_loaded rules m n oid front stamp made counts behind z entries c o switches step may is within = by_failed m.failed refl
  where
    never : reply.Nothing o switches ≡ reply.Refused refusal.NotOpen → ⊥
    never same = absurd cc

    by_failed : (b : Bool) → m.failed ≡ b → IsLoaded oid front c.told (server_at m) (answer.Nothing switches)
    by_failed true broke = absurd (never (sym is ∙ (shut_step rules m n (request.LoadBefore oid front) stamp made counts behind (may.shut broke) step).reply))
    by_failed false whole =
        let as_said : made ≡ step_of rules m n (request.LoadBefore oid front) stamp = answered_step rules m n (request.LoadBefore oid front) stamp made counts behind (reply.Nothing o switches) step is refl in
        let both = none_early (early_refusal m n (request.LoadBefore oid front)) m oid front o switches (sym (ap (λ (s : Stepped). s.reply) as_said) ∙ is) in
        let later = told_at m n z entries c whole may in
        subst (λ (s : Server). IsLoaded oid front c.told s (answer.Nothing switches)) (sym (server_whole m whole))
        (both.0, later.switches, both.1, (λ same. sym (later.same same oid front within) ∙ both.1))
