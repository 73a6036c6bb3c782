-- What steps are answered along a history: fronts never fall, numbers are new, counts never fall. For the proofs of those who follow the machine.
use Rattle.std.proofs.Common.{◌≡◌, ℕ, ◌+◌, ◌≤◌, List, [], ◌∷◌, ◌++◌, Option, Some, None, refl, sym, ap, subst, ◌∙◌, arith}
use Rattle.std.specs.List.{AllByRecursion, AllPairs, filter_map}
use Rattle.std.proofs.lemmas.List.Elements.{All-from_recursion}
use Rattle.std.proofs.lemmas.List.Kept.{AllPairs-cons}
use Rattle.std.proofs.lemmas.Option.{same_Some}
use Rattle.zb_model.specs.declared.found.Found.{Found}
use Rattle.zb_model.specs.declared.found.Found.TheVariants as found
use Rattle.zb_model.specs.Queries.{greatest_oid}
use Rattle.zodb_core.specs.declared.reply.Reply.{Reply}
use Rattle.zodb_core.specs.declared.reply.Reply.TheVariants as reply
use Rattle.zodb_core.specs.declared.request.Request.{Request}
use Rattle.zodb_core.specs.Handed.{NumberRange, all_numbers, end_of_range, front_in, front_told, fronts_told, numbers_handed, numbers_in}
use Rattle.zodb_core.specs.History.{Entry, HistoryStep, IsLegal, IsNextEntry, Made, Opened, counts_after, counts_behind, machine_after, machine_behind, made_by, stamp_of_step}
use Rattle.zodb_core.specs.Laws.{AreNewNumbers, ComeBehindGreatest}
use Rattle.zodb_core.specs.Machine.{Machine, Rules, front_of}
use Rattle.zodb_core.specs.Outcomes.{Answered, AreLaterCounts, EndsFor, FaultCounts, NoMemory, ReadingFailed, StepOutcome, StoreFailed, machine_left, outcome_of}
use Rattle.zodb_core.specs.Sound.{AreWellFormedRequests, IsSoundMachine}
use Rattle.zodb_core.specs.SoundLaws.{behind_becomes, behind_sound, front_later, history_sound}
use Rattle.zodb_core.specs.StepCases.{StepCases, by_ending, by_step}
use Rattle.zodb_core.specs.Steps.{Stepped, loaded, step_of}

-- ---- steps are answered

-- a step that was made and is answered is the machine's
made_as : (rules : Rules) (m : Machine) (n : ℕ) (q : Request) (stamp : ℕ) (made : Stepped) (a b : FaultCounts) (o : StepOutcome) → o ≡ Answered → EndsFor rules m n q stamp made a b o → made ≡ step_of rules m n q stamp
made_as rules m n q stamp made a b Answered is ends = ends
made_as rules m n q stamp made a b ReadingFailed is ends = absurd cc
made_as rules m n q stamp made a b NoMemory is ends = absurd cc
made_as rules m n q stamp made a b StoreFailed is ends = absurd cc

pub made_is : (rules : Rules) (m : Machine) (counts : FaultCounts) (e : HistoryStep) → IsNextEntry rules m counts (Made e) → outcome_of e.reply ≡ Answered
    → made_by rules m e ≡ step_of rules m e.session e.request (stamp_of_step e)
made_is rules m counts e next is = made_as rules m e.session e.request (stamp_of_step e) (made_by rules m e) counts e.counts (outcome_of e.reply) is next.0.cause

-- ---- fronts

abbrev TellsFront : Machine → Stepped → Type 0
TellsFront m s = (f : ℕ) → front_in s.reply ≡ Some f → f ≡ front_of m.list

no_front : (m : Machine) (oid : ℕ) (x : Found) (f : ℕ) → front_in (loaded m oid x) ≡ Some f → f ≡ front_of m.list
no_front m oid (found.Held serial bytes end) f e = absurd cc
no_front m oid (found.Absent serial) f e = absurd cc
no_front m oid found.Nothing f e = absurd cc

front_cases : (m : Machine) (n : ℕ) (q : Request) → StepCases (TellsFront m) m n q
front_cases m n q = record {
  refused = λ r is f e. absurd cc;
  full = λ count f e. absurd cc;
  spent = λ f e. absurd cc;
  told = λ f e. sym (same_Some (front_of m.list) f e);
  found = no_front m;
  numbers = λ count f e. absurd cc;
  nothing = λ f e. absurd cc;
  written = λ texts changes tid each later bounded f e. absurd cc;
  emptied = λ f e. absurd cc;
  committed = λ v t is writes f e. absurd cc;
  dropped = λ f e. absurd cc;
  listed = λ revisions f e. absurd cc;
  logged = λ lines f e. absurd cc;
  begun = λ is t collects none below f e. absurd cc;
  marking = λ is p count there f e. absurd cc;
  marked = λ is p keep there f e. absurd cc;
  copying = λ is p k copied count there copying f e. absurd cc;
  copied = λ is p k copied count there copying f e. absurd cc;
  lost = λ is r answers f e. absurd cc;
  packed = λ is t keep free below f e. absurd cc;
  last = λ f e. absurd cc;
  since = λ tid changes f e. absurd cc;
  closed = λ f e. absurd cc;
}

-- a front that is told is the list's
pub step_front : (rules : Rules) (m : Machine) (n : ℕ) (q : Request) (stamp f : ℕ) → front_in (step_of rules m n q stamp).reply ≡ Some f → f ≡ front_of m.list
step_front rules m n q stamp f e = by_step (TellsFront m) rules m n q stamp (front_cases m n q) f e

front_answered : (r : Reply) (f : ℕ) → front_in r ≡ Some f → outcome_of r ≡ Answered
front_answered (reply.Front front news switches) f e = refl
front_answered (reply.Loaded serial bytes end upto) f e = absurd cc
front_answered (reply.Nothing oid switches) f e = absurd cc
front_answered (reply.Oids first count) f e = absurd cc
front_answered reply.Voted f e = absurd cc
front_answered (reply.Committed tid) f e = absurd cc
front_answered reply.Empty f e = absurd cc
front_answered reply.Aborted f e = absurd cc
front_answered (reply.History list) f e = absurd cc
front_answered (reply.UndoLog list) f e = absurd cc
front_answered (reply.Packed kept dropped) f e = absurd cc
front_answered (reply.Packing tid) f e = absurd cc
front_answered (reply.Marking count) f e = absurd cc
front_answered (reply.Marked count) f e = absurd cc
front_answered (reply.Copying count) f e = absurd cc
front_answered (reply.Copied count) f e = absurd cc
front_answered (reply.Last tid changes) f e = absurd cc
front_answered (reply.Since keep commits) f e = absurd cc
front_answered reply.Closed f e = absurd cc
front_answered (reply.Refused r) f e = absurd cc

pub entry_front : (rules : Rules) (m : Machine) (counts : FaultCounts) (e : Entry) (f : ℕ) → IsNextEntry rules m counts e → front_told e ≡ Some f → f ≡ front_of m.list
entry_front rules m counts (Opened n) f next is = absurd cc
entry_front rules m counts (Made e) f next is =
    step_front rules m e.session e.request (stamp_of_step e) f
    (sym (ap (λ (s : Stepped). front_in s.reply) (made_is rules m counts e next (front_answered e.reply f is))) ∙ is)

-- the fronts of a history are no lower than a bound that the list's front has reached
fronts_from : (rules : Rules) (m : Machine) (counts : FaultCounts) (entries : List Entry) (low : ℕ) → IsSoundMachine m → AreWellFormedRequests entries → IsLegal rules m counts entries → low ≤ front_of m.list
    → AllByRecursion (λ f. low ≤ f) (fronts_told entries)
fronts_from rules m counts [] low sound formed legal up = tt
fronts_from rules m counts (e ∷ entries) low sound formed legal up =
    by_cases (front_told e) refl
    (fronts_from rules (machine_behind rules m e) (counts_behind counts e) entries low (behind_sound rules m e sound formed.0) formed.1 legal.1
    (omega (arith, up, front_later m.list (machine_behind rules m e).list (behind_becomes rules m e sound))))
  where
    by_cases : (o : Option ℕ) → front_told e ≡ o → AllByRecursion (λ f. low ≤ f) (fronts_told entries) → AllByRecursion (λ f. low ≤ f) (filter_map front_told (e ∷ entries))
    by_cases None is rest = rw is rest
    by_cases (Some f) is rest = rw is (omega (arith, up, entry_front rules m counts e f legal.0 is), rest)

none_paired : AllPairs (λ (x y : ℕ). x ≤ y) []
none_paired = λ i j d before within. absurd (omega arith)

pub fronts_rise : (rules : Rules) (m : Machine) (counts : FaultCounts) (entries : List Entry) → IsSoundMachine m → AreWellFormedRequests entries → IsLegal rules m counts entries
    → AllPairs (λ earlier later. earlier ≤ later) (fronts_told entries)
fronts_rise rules m counts [] sound formed legal = none_paired
fronts_rise rules m counts (e ∷ entries) sound formed legal =
    by_cases (front_told e) refl (fronts_rise rules (machine_behind rules m e) (counts_behind counts e) entries (behind_sound rules m e sound formed.0) formed.1 legal.1)
  where
    rest_from : (f : ℕ) → front_told e ≡ Some f → AllByRecursion (λ g. f ≤ g) (fronts_told entries)
    rest_from f is =
        fronts_from rules (machine_behind rules m e) (counts_behind counts e) entries f (behind_sound rules m e sound formed.0) formed.1 legal.1
        (omega (arith, entry_front rules m counts e f legal.0 is, front_later m.list (machine_behind rules m e).list (behind_becomes rules m e sound)))

    by_cases : (o : Option ℕ) → front_told e ≡ o → AllPairs (λ earlier later. earlier ≤ later) (fronts_told entries) → AllPairs (λ earlier later. earlier ≤ later) (filter_map front_told (e ∷ entries))
    by_cases None is rest = rw is rest
    by_cases (Some f) is rest =
        rw is (AllPairs-cons (λ (x y : ℕ). x ≤ y) f (fronts_told entries) (All-from_recursion (λ (g : ℕ). f ≤ g) (fronts_told entries) (rest_from f is)) rest)

-- ---- new numbers

greatest_cases : (m : Machine) (n : ℕ) (q : Request) → StepCases (λ s. m.greatest ≤ s.machine.greatest) m n q
greatest_cases m n q = record {
  refused = λ r is. omega arith;
  full = λ count. omega arith;
  spent = omega arith;
  told = omega arith;
  found = λ oid f. omega arith;
  numbers = λ count. omega arith;
  nothing = omega arith;
  written = λ texts changes tid each later bounded. omega arith;
  emptied = omega arith;
  committed = λ v t is writes. omega arith;
  dropped = omega arith;
  listed = λ revisions. omega arith;
  logged = λ lines. omega arith;
  begun = λ is t collects none below. omega arith;
  marking = λ is p count there. omega arith;
  marked = λ is p keep there. omega arith;
  copying = λ is p k copied count there copying. omega arith;
  copied = λ is p k copied count there copying. omega arith;
  lost = λ is r answers. omega arith;
  packed = λ is t keep free below. omega arith;
  last = omega arith;
  since = λ tid changes. omega arith;
  closed = omega arith;
}

pub left_greatest : (rules : Rules) (m : Machine) (n : ℕ) (q : Request) (stamp : ℕ) (outcome : StepOutcome) → m.greatest ≤ (machine_left rules m n q stamp outcome).greatest
left_greatest rules m n q stamp outcome = by_ending (λ x. m.greatest ≤ x.greatest) rules m n q stamp outcome (omega arith) (omega arith) (omega arith) (greatest_cases m n q)

pub behind_greatest : (rules : Rules) (m : Machine) (e : Entry) → m.greatest ≤ (machine_behind rules m e).greatest
behind_greatest rules m (Opened n) = omega arith
behind_greatest rules m (Made e) = left_greatest rules m e.session e.request (stamp_of_step e) (outcome_of e.reply)

pub history_greatest : (rules : Rules) (m : Machine) (entries : List Entry) → m.greatest ≤ (machine_after rules m entries).greatest
history_greatest rules m [] = omega arith
history_greatest rules m (e ∷ entries) = omega (arith, behind_greatest rules m e, history_greatest rules (machine_behind rules m e) entries)

abbrev HandsBehind : Machine → Stepped → Type 0
HandsBehind m s = (range : NumberRange) → numbers_in s.reply ≡ Some range → (range.first ≡ m.greatest + 1) × (s.machine.greatest + 1 ≡ end_of_range range)

no_numbers : (m : Machine) (oid : ℕ) (x : Found) (range : NumberRange) → numbers_in (loaded m oid x) ≡ Some range → (range.first ≡ m.greatest + 1) × (m.greatest + 1 ≡ end_of_range range)
no_numbers m oid (found.Held serial bytes end) range e = absurd cc
no_numbers m oid (found.Absent serial) range e = absurd cc
no_numbers m oid found.Nothing range e = absurd cc

new_numbers : (m : Machine) (count : ℕ) (range : NumberRange) → Some (record { first = m.greatest + 1; count = count }) ≡ Some range → (range.first ≡ m.greatest + 1) × (m.greatest + count + 1 ≡ end_of_range range)
new_numbers m count range e =
    let given : NumberRange = record { first = m.greatest + 1; count = count } in
    let is : given ≡ range = same_Some given range e in
    (sym (ap (λ (r : NumberRange). r.first) is), omega (arith, ap (λ (r : NumberRange). r.first) is, ap (λ (r : NumberRange). r.count) is))

numbers_cases : (m : Machine) (n : ℕ) (q : Request) → StepCases (HandsBehind m) m n q
numbers_cases m n q = record {
  refused = λ r is range e. absurd cc;
  full = λ count range e. absurd cc;
  spent = λ range e. absurd cc;
  told = λ range e. absurd cc;
  found = no_numbers m;
  numbers = new_numbers m;
  nothing = λ range e. absurd cc;
  written = λ texts changes tid each later bounded range e. absurd cc;
  emptied = λ range e. absurd cc;
  committed = λ v t is writes range e. absurd cc;
  dropped = λ range e. absurd cc;
  listed = λ revisions range e. absurd cc;
  logged = λ lines range e. absurd cc;
  begun = λ is t collects none below range e. absurd cc;
  marking = λ is p count there range e. absurd cc;
  marked = λ is p keep there range e. absurd cc;
  copying = λ is p k copied count there copying range e. absurd cc;
  copied = λ is p k copied count there copying range e. absurd cc;
  lost = λ is r answers range e. absurd cc;
  packed = λ is t keep free below range e. absurd cc;
  last = λ range e. absurd cc;
  since = λ tid changes range e. absurd cc;
  closed = λ range e. absurd cc;
}

pub step_numbers : (rules : Rules) (m : Machine) (n : ℕ) (q : Request) (stamp : ℕ) (range : NumberRange) → numbers_in (step_of rules m n q stamp).reply ≡ Some range
    → (range.first ≡ m.greatest + 1) × ((step_of rules m n q stamp).machine.greatest + 1 ≡ end_of_range range)
step_numbers rules m n q stamp range e = by_step (HandsBehind m) rules m n q stamp (numbers_cases m n q) range e

numbers_answered : (r : Reply) (range : NumberRange) → numbers_in r ≡ Some range → outcome_of r ≡ Answered
numbers_answered (reply.Front front news switches) range e = refl
numbers_answered (reply.Loaded serial bytes end upto) range e = refl
numbers_answered (reply.Nothing oid switches) range e = refl
numbers_answered (reply.Oids first count) range e = refl
numbers_answered reply.Voted range e = refl
numbers_answered (reply.Committed tid) range e = refl
numbers_answered reply.Empty range e = refl
numbers_answered reply.Aborted range e = refl
numbers_answered (reply.History list) range e = refl
numbers_answered (reply.UndoLog list) range e = refl
numbers_answered (reply.Packed kept dropped) range e = refl
numbers_answered (reply.Packing tid) range e = refl
numbers_answered (reply.Marking count) range e = refl
numbers_answered (reply.Marked count) range e = refl
numbers_answered (reply.Copying count) range e = refl
numbers_answered (reply.Copied count) range e = refl
numbers_answered (reply.Last tid changes) range e = refl
numbers_answered (reply.Since keep commits) range e = refl
numbers_answered reply.Closed range e = refl
numbers_answered (reply.Refused r) range e = absurd cc

pub entry_numbers : (rules : Rules) (m : Machine) (counts : FaultCounts) (e : Entry) (range : NumberRange) → IsNextEntry rules m counts e → numbers_handed e ≡ Some range → ComeBehindGreatest rules m e range
entry_numbers rules m counts (Opened n) range next is = absurd cc
entry_numbers rules m counts (Made e) range next is =
    let same : made_by rules m e ≡ step_of rules m e.session e.request (stamp_of_step e) = made_is rules m counts e next (numbers_answered e.reply range is) in
    let both : (range.first ≡ m.greatest + 1) × ((step_of rules m e.session e.request (stamp_of_step e)).machine.greatest + 1 ≡ end_of_range range) =
    step_numbers rules m e.session e.request (stamp_of_step e) range (sym (ap (λ (s : Stepped). numbers_in s.reply) same) ∙ is) in
    record { above = both.0; last = ap (λ (s : Stepped). s.machine.greatest + 1) same ∙ both.1 }

-- numbers that a history handed out end before the greatest behind it
handed_below : (rules : Rules) (m : Machine) (counts : FaultCounts) (entries : List Entry) → IsLegal rules m counts entries
    → AllByRecursion (λ range. end_of_range range ≤ (machine_after rules m entries).greatest + 1) (all_numbers entries)
handed_below rules m counts [] legal = tt
handed_below rules m counts (e ∷ entries) legal = by_cases (numbers_handed e) refl (handed_below rules (machine_behind rules m e) (counts_behind counts e) entries legal.1)
  where
    by_cases : (o : Option NumberRange) → numbers_handed e ≡ o → AllByRecursion (λ range. end_of_range range ≤ (machine_after rules m (e ∷ entries)).greatest + 1) (all_numbers entries)
        → AllByRecursion (λ range. end_of_range range ≤ (machine_after rules m (e ∷ entries)).greatest + 1) (filter_map numbers_handed (e ∷ entries))
    by_cases None is rest = rw is rest
    by_cases (Some range) is rest =
        rw is (omega (arith, (entry_numbers rules m counts e range legal.0 is).last, history_greatest rules (machine_behind rules m e) entries), rest)

-- ---- histories in two parts

pub after_append : (rules : Rules) (m : Machine) (front rest : List Entry) → machine_after rules m (front ++ rest) ≡ machine_after rules (machine_after rules m front) rest
after_append rules m [] rest = refl
after_append rules m (e ∷ front) rest = after_append rules (machine_behind rules m e) front rest

pub legal_front : (rules : Rules) (m : Machine) (counts : FaultCounts) (front rest : List Entry) → IsLegal rules m counts (front ++ rest) → IsLegal rules m counts front
legal_front rules m counts [] rest legal = tt
legal_front rules m counts (e ∷ front) rest legal = (legal.0, legal_front rules (machine_behind rules m e) (counts_behind counts e) front rest legal.1)

pub legal_rest : (rules : Rules) (m : Machine) (counts : FaultCounts) (front rest : List Entry) → IsLegal rules m counts (front ++ rest) → IsLegal rules (machine_after rules m front) (counts_after counts front) rest
legal_rest rules m counts [] rest legal = legal
legal_rest rules m counts (e ∷ front) rest legal = legal_rest rules (machine_behind rules m e) (counts_behind counts e) front rest legal.1

formed_front : (front rest : List Entry) → AreWellFormedRequests (front ++ rest) → AreWellFormedRequests front
formed_front [] rest all = tt
formed_front (e ∷ front) rest all = (all.0, formed_front front rest all.1)

listed_below : (rules : Rules) (m : Machine) (front rest : List Entry) → IsSoundMachine m → AreWellFormedRequests (front ++ rest) → greatest_oid (machine_after rules m front).list ≤ (machine_after rules m (front ++ rest)).greatest
listed_below rules m front rest sound formed =
    let kept : IsSoundMachine (machine_after rules m front) = history_sound rules m front sound (formed_front front rest formed) in
    omega (arith, kept.numbered, history_greatest rules (machine_after rules m front) rest, ap (λ (x : Machine). x.greatest) (after_append rules m front rest))

below_more : (high more : ℕ) (ranges : List NumberRange) → high ≤ more → AllByRecursion (λ range. end_of_range range ≤ high) ranges → AllByRecursion (λ range. end_of_range range ≤ more) ranges
below_more high more [] up all = tt
below_more high more (r ∷ ranges) up all = (omega (arith, up, all.0), below_more high more ranges up all.1)

pub numbers_new : (rules : Rules) (m : Machine) (counts : FaultCounts) (entries : List Entry) (e : Entry) (range : NumberRange)
    → IsSoundMachine m → AreWellFormedRequests entries → IsLegal rules m counts (entries ++ e ∷ []) → numbers_handed e ≡ Some range → AreNewNumbers rules m entries range
numbers_new rules m counts entries e range sound formed legal is =
    let next : ComeBehindGreatest rules (machine_after rules m entries) e range =
    entry_numbers rules (machine_after rules m entries) (counts_after counts entries) e range (legal_rest rules m counts entries (e ∷ []) legal).0 is in
    record {
      above = omega (arith, next.above, history_greatest rules m entries);
      unlisted = λ front rest parts.
          let below : greatest_oid (machine_after rules m front).list ≤ (machine_after rules m (front ++ rest)).greatest =
          listed_below rules m front rest sound (subst AreWellFormedRequests parts formed) in
          omega (arith, below, ap (λ (es : List Entry). (machine_after rules m es).greatest) parts, next.above);
      unhanded =
          All-from_recursion (λ (earlier : NumberRange). end_of_range earlier ≤ range.first) (all_numbers entries)
          (below_more ((machine_after rules m entries).greatest + 1) range.first (all_numbers entries) (omega (arith, next.above))
          (handed_below rules m counts entries (legal_front rules m counts entries (e ∷ []) legal)));
    }

-- ---- counts

pub entry_counts : (rules : Rules) (m : Machine) (counts : FaultCounts) (e : Entry) → IsNextEntry rules m counts e → AreLaterCounts counts (counts_behind counts e)
entry_counts rules m counts (Opened n) next = record { reads = omega arith; others = omega arith }
entry_counts rules m counts (Made e) next = next.0.later

later_on : (a b c : FaultCounts) → AreLaterCounts a b → AreLaterCounts b c → AreLaterCounts a c
later_on a b c one two = record { reads = omega (arith, one.reads, two.reads); others = omega (arith, one.others, two.others) }

pub history_counts : (rules : Rules) (m : Machine) (counts : FaultCounts) (entries : List Entry) → IsLegal rules m counts entries → AreLaterCounts counts (counts_after counts entries)
history_counts rules m counts [] legal = record { reads = omega arith; others = omega arith }
history_counts rules m counts (e ∷ entries) legal =
    later_on counts (counts_behind counts e) (counts_after counts (e ∷ entries)) (entry_counts rules m counts e legal.0)
    (history_counts rules (machine_behind rules m e) (counts_behind counts e) entries legal.1)
