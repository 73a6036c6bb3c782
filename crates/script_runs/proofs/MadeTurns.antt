-- Turns of a script that is made, one after another.
use Rattle.std.proofs.Common.{◌≡◌, ℕ, ◌+◌, ◌≤◌, Bool, true, false, List, [], ◌∷◌, ◌++◌, Option, Some, None, Ok, Err, append-nil, inl, inr, length, refl, sym, ap, subst, ◌∙◌, arith}
use Rattle.std.specs.Prelude.{filter, if◌then◌else◌}
use Rattle.zb_ids.specs.declared.stamp.Stamp.{Stamp}
use Rattle.zb_model.specs.declared.data.Transaction.{Transaction}
use Rattle.zb_answers.specs.declared.answer.Answer.{Answer}
use Rattle.zb_answers.specs.declared.answer.Answer.TheVariants as answer
use Rattle.zb_volume.specs.declared.areas.Area.TheVariants.{Main}
use Rattle.zb_volume.specs.Calls.{Event}
use Rattle.zb_volume.specs.Moments.{Leaves, LeavesOnly, here}
use Rattle.zb_volume.specs.Runs.{along_now, joined as along_joined, leaves_less}
use Rattle.client_turns.specs.declared.errors.TurnError.{TurnError}
use Rattle.client_turns.specs.declared.errors.TurnError.TheVariants as turn_error
use Rattle.client_turns.specs.Clients.{Moment}
use Rattle.client_turns.specs.Output.{FlaggedTurn, TurnAnswer}
use Rattle.client_turns.specs.Standing.{ClientsState, IsListIn, LeadsTo, StandsForMoment}
use Rattle.client_turns.specs.Turns.{IsTurn}
use Rattle.side_by_side.specs.Runs.{IsOfRun, stock}
use Rattle.side_by_side.specs.RunLaws.{of_run_first, of_run_more, of_run_next, of_run_now, out_push}
use Rattle.gen_script.specs.declared.line.GenLine.{GenLine}
use Rattle.gen_script.specs.declared.turns.GenTurn.{GenTurn}
use Rattle.gen_script.specs.Left.{GivesNext}
use Rattle.gen_script.specs.Lengths.{gen_length}
use Rattle.gen_script.specs.Script.{IsTurnOf, gen_lines, is_last_before}
use Rattle.script_runs.specs.declared.tally.Tally.{Tally}
use Rattle.script_runs.specs.Made.{AreTurnsOf, MadeInPart, MadeSoFar, MadeUntil, tally_of}
use Rattle.script_runs.specs.Summary.{count_of, is_commit, is_conflict, is_conflicted, is_refused}
use Rattle.script_runs.specs.Tallies.{no_replies, tally_more}
use Rattle.script_runs.specs.Turning.{turn_keeps}

-- ---- one answer more

longer_if : (b : Bool) (p : TurnAnswer) (some more : List TurnAnswer) (n : ℕ) → length more ≡ length some + n → length (if b then p ∷ more else more) ≡ length (if b then p ∷ some else some) + n
longer_if true p some more n is = omega (arith, is)
longer_if false p some more n is = is

one_if : (b : Bool) (o : TurnAnswer) → length (if b then o ∷ [] else []) ≡ (if b then 1 else 0)
one_if true o = refl
one_if false o = refl

count_push : (is : Answer → Bool) (answers : List TurnAnswer) (o : TurnAnswer) → count_of is (answers ++ o ∷ []) ≡ count_of is answers + (if is o.answer then 1 else 0)
count_push is [] o = omega (arith, one_if (is o.answer) o)
count_push is (p ∷ answers) o = longer_if (is p.answer) p (filter (λ x. is x.answer) answers) (filter (λ x. is x.answer) (answers ++ o ∷ [])) (if is o.answer then 1 else 0) (count_push is answers o)

more_if : (b : Bool) (n : ℕ) → (if b then n + 1 else n) ≡ n + (if b then 1 else 0)
more_if true n = refl
more_if false n = omega arith

add_zero : (n : ℕ) → n ≡ n + 0
add_zero n = omega arith

abbrev tally : ℕ → ℕ → ℕ → Tally
tally committed conflicts refused = record { committed = committed; conflicts = conflicts; refused = refused }

three : (a b c x y z : ℕ) → a ≡ x → b ≡ y → c ≡ z → tally a b c ≡ tally x y z
three a b c x y z p q r = ap (λ (n : ℕ). tally n b c) p ∙ ap (λ (n : ℕ). tally x n c) q ∙ ap (λ (n : ℕ). tally x y n) r

tally_so : (t : Tally) (a : Answer) → tally_more t a ≡ tally (t.committed + (if is_commit a then 1 else 0)) (t.conflicts + (if is_conflicted a then 1 else 0)) (t.refused + (if is_refused a then 1 else 0))
tally_so t (answer.Committed tid) = three (t.committed + 1) t.conflicts t.refused (t.committed + 1) (t.conflicts + 0) (t.refused + 0) refl (add_zero t.conflicts) (add_zero t.refused)
tally_so t (answer.Refused why) =
    three t.committed (if is_conflict why then t.conflicts + 1 else t.conflicts) (t.refused + 1) (t.committed + 0) (t.conflicts + (if is_conflict why then 1 else 0)) (t.refused + 1) (add_zero t.committed) (more_if (is_conflict why) t.conflicts) refl
tally_so t _ = three t.committed t.conflicts t.refused (t.committed + 0) (t.conflicts + 0) (t.refused + 0) (add_zero t.committed) (add_zero t.conflicts) (add_zero t.refused)

tally_push : (before : Tally) (answers : List TurnAnswer) (o : TurnAnswer) → before ≡ tally_of answers → tally_more before o.answer ≡ tally_of (answers ++ o ∷ [])
tally_push before answers o is =
    tally_so before o.answer
    ∙ ap (λ (s : Tally). tally (s.committed + (if is_commit o.answer then 1 else 0)) (s.conflicts + (if is_conflicted o.answer then 1 else 0)) (s.refused + (if is_refused o.answer then 1 else 0))) is
    ∙ three _ _ _ _ _ _ (sym (count_push is_commit answers o)) (sym (count_push is_conflicted answers o)) (sym (count_push is_refused answers o))

-- ---- one turn more

are_push : (lines : List GenLine) (taken : List FlaggedTurn) (l : GenLine) (rest : List GenLine) (t : FlaggedTurn) → AreTurnsOf lines taken (l ∷ rest) → IsTurnOf l t.turn → t.is_last ≡ is_last_before l.client rest → AreTurnsOf lines (taken ++ t ∷ []) rest
are_push lines [] l rest t are says last = subst (λ (ls : List GenLine). AreTurnsOf ls (t ∷ []) rest) are (says, last, refl)
are_push [] (u ∷ taken) l rest t are says last = absurd are
are_push (k ∷ lines) (u ∷ taken) l rest t are says last = (are.0, are.1, are_push lines taken l rest t are.2 says last)

module _ {R F : Type 0} (lasts : Type 0) (stands : List ℕ → List Transaction → Type 0) (m : Moment) (lines : List GenLine) where
  pub made_start : (clients : ClientsState R F) (left : Option (List Stamp)) → StandsForMoment clients left m → m.machine.failed ≡ false → (lasts → Leaves Main (λ bytes. stands bytes clients.hub.store.list) clients.hub.store.log)
      → MadeSoFar lasts stands m lines lines no_replies clients.hub.store.log clients left
  made_start clients left is whole lasting = record {
    now = m;
    taken = [];
    are = refl;
    answers = [];
    answered = refl;
    counted = refl;
    stands_for = is;
    whole = whole;
    moments = λ known. here (λ image left. of_run_first stands m [] image
        (subst (λ (list : List Transaction). stands image list) (sym (is.hub.list (sym is.hub.failed ∙ whole))) (lasting known image left)));
  }

  module _ (l : GenLine) (rest : List GenLine) (t : FlaggedTurn) (tally : Tally) (log : List Event) (before clients : ClientsState R F) (stamps left : Option (List Stamp)) (says : IsTurnOf l t.turn) (last : t.is_last ≡ is_last_before l.client rest)
      (came : MadeSoFar lasts stands m lines (l ∷ rest) tally log before stamps) (moments : lasts → LeavesOnly Main (IsListIn stands stock came.now t.turn) before.hub.store.log clients.hub.store.log) where
    all_moments : lasts → LeavesOnly Main (IsOfRun stands m came.taken (t ∷ []) came.answers came.now) log clients.hub.store.log
    all_moments known = along_joined (Leaves Main (IsOfRun stands m came.taken (t ∷ []) came.answers came.now)) log before.hub.store.log clients.hub.store.log
        (leaves_less Main (IsOfRun stands m came.taken [] came.answers came.now) (IsOfRun stands m came.taken (t ∷ []) came.answers came.now) log before.hub.store.log (of_run_next stands m came.now came.taken t came.answers) (came.moments known))
        (leaves_less Main (IsListIn stands stock came.now t.turn) (IsOfRun stands m came.taken (t ∷ []) came.answers came.now) before.hub.store.log clients.hub.store.log
        (λ bytes is. of_run_now stands m came.now came.taken (t ∷ []) came.answers bytes came.answered is) (moments known))

    pub made_more : (a : Answer) → LeadsTo (IsTurn stock came.now t.turn t.is_last (Ok a)) clients left → MadeSoFar lasts stands m lines rest (tally_more tally a) log clients left
    made_more a leads =
        let o : TurnAnswer = record { client = t.turn.client; answer = a } in
        record {
          now = leads.now;
          taken = came.taken ++ t ∷ [];
          are = are_push lines came.taken l rest t came.are says last;
          answers = came.answers ++ o ∷ [];
          answered = out_push stock m came.now leads.now came.taken t came.answers a came.answered leads.holds;
          counted = tally_push tally came.answers o came.counted;
          stands_for = leads.stands;
          whole = (turn_keeps stock came.now t.turn t.is_last a leads.now leads.holds).failed ∙ came.whole;
          moments = λ known. leaves_less Main (IsOfRun stands m came.taken (t ∷ []) came.answers came.now) (IsOfRun stands m (came.taken ++ t ∷ []) [] (came.answers ++ o ∷ []) leads.now) log clients.hub.store.log
              (of_run_more stands m came.now leads.now came.taken t [] came.answers a leads.holds) (all_moments known);
        }

    pub made_broken : (why : TurnError) → LeadsTo (IsTurn stock came.now t.turn t.is_last (Err why)) clients left → MadeInPart lasts stands (Some why) m lines log clients left
    made_broken why leads = record {
      now = leads.now;
      taken = came.taken;
      broken = t ∷ [];
      rest = rest;
      are = are_push lines came.taken l rest t came.are says last;
      answers = came.answers;
      behind = came.now;
      answered = came.answered;
      ends = (t, refl, leads.holds);
      stands_for = leads.stands;
      around = λ is known. along_now (Leaves Main (IsListIn stands stock came.now t.turn)) before.hub.store.log clients.hub.store.log (moments known);
      moments = all_moments;
    }

  pub made_starved : (rest : List GenLine) (tally : Tally) (log : List Event) (clients : ClientsState R F) (left : Option (List Stamp)) → MadeSoFar lasts stands m lines rest tally log clients left → MadeInPart lasts stands None m lines log clients left
  made_starved rest tally log clients left came = record {
    now = came.now;
    taken = came.taken;
    broken = [];
    rest = rest;
    are = subst (λ (ts : List FlaggedTurn). AreTurnsOf lines ts rest) (sym (append-nil came.taken)) came.are;
    answers = came.answers;
    behind = came.now;
    answered = came.answered;
    ends = (refl, refl);
    stands_for = came.stands_for;
    around = λ none. absurd cc;
    moments = came.moments;
  }

  -- as a turn that broke off, or one that couldn't be made, ends the run
  pub until_broken : (why : TurnError) (log : List Event) (clients : ClientsState R F) (left : Option (List Stamp)) → MadeInPart lasts stands (Some why) m lines log clients left → MadeUntil lasts stands why m lines log clients left
  until_broken turn_error.Memory log clients left part = inr part
  until_broken turn_error.StoreFault log clients left part = part

  pub until_starved : (rest : List GenLine) (tally : Tally) (log : List Event) (clients : ClientsState R F) (left : Option (List Stamp)) → MadeSoFar lasts stands m lines rest tally log clients left → MadeUntil lasts stands turn_error.Memory m lines log clients left
  until_starved rest tally log clients left came = inl (made_starved rest tally log clients left came)

  -- ---- the turn that was made

  module _ (old new : List GenLine) (t : GenTurn) (gives : GivesNext old (Some t) new) (tally : Tally) (log : List Event) (before clients : ClientsState R F) (stamps left : Option (List Stamp)) where
    abbrev flagged : FlaggedTurn
    flagged = record { turn = t.turn; is_last = t.is_last }

    abbrev Moments : {rest : List GenLine} → MadeSoFar lasts stands m lines rest tally log before stamps → Type 0
    Moments came = lasts → LeavesOnly Main (IsListIn stands stock came.now t.turn) before.hub.store.log clients.hub.store.log

    pub answered : (came : MadeSoFar lasts stands m lines old tally log before stamps) → Moments came → (a : Answer) → LeadsTo (IsTurn stock came.now t.turn t.is_last (Ok a)) clients left → MadeSoFar lasts stands m lines new (tally_more tally a) log clients left
    answered =
        subst (λ (ls : List GenLine). (came : MadeSoFar lasts stands m lines ls tally log before stamps) → Moments came → (a : Answer) → LeadsTo (IsTurn stock came.now t.turn t.is_last (Ok a)) clients left → MadeSoFar lasts stands m lines new (tally_more tally a) log clients left)
        (sym gives.1) (λ came moments a leads. made_more gives.0 new flagged tally log before clients stamps left gives.2 gives.3 came moments a leads)

    pub broken_off : (came : MadeSoFar lasts stands m lines old tally log before stamps) → Moments came → (why : TurnError) → LeadsTo (IsTurn stock came.now t.turn t.is_last (Err why)) clients left → MadeUntil lasts stands why m lines log clients left
    broken_off =
        subst (λ (ls : List GenLine). (came : MadeSoFar lasts stands m lines ls tally log before stamps) → Moments came → (why : TurnError) → LeadsTo (IsTurn stock came.now t.turn t.is_last (Err why)) clients left → MadeUntil lasts stands why m lines log clients left)
        (sym gives.1) (λ came moments why leads. until_broken why log clients left (made_broken gives.0 new flagged tally log before clients stamps left gives.2 gives.3 came moments why leads))

-- what is given, where it is a turn, and where it is none
pub gives_some : (old new : List GenLine) (o : Option GenTurn) (t : GenTurn) → o ≡ Some t → GivesNext old o new → GivesNext old (Some t) new
gives_some old new o t is gives = subst (λ (x : Option GenTurn). GivesNext old x new) is gives

pub gives_none : (old new : List GenLine) (o : Option GenTurn) → o ≡ None → GivesNext old o new → old ≡ []
gives_none old new o is gives = (subst (λ (x : Option GenTurn). GivesNext old x new) is gives).0

-- ---- how many more replies there can be

pub few_more : (lines : List GenLine) (rounds : ℕ) → lines ≡ gen_lines rounds → rounds ≤ 8000 → length lines ≤ 104010
few_more lines rounds is few = omega (arith, ap (length {A = GenLine}) is, gen_length rounds, few)

pub one_less : (old new : List GenLine) (t : GenTurn) → GivesNext old (Some t) new → length old ≡ length new + 1
one_less old new t gives = omega (arith, ap (length {A = GenLine}) gives.1)

-- and how much a reply adds
at_most_one : (b : Bool) → (if b then 1 else 0) ≤ 1
at_most_one true = omega arith
at_most_one false = omega arith

-- so many replies may still be counted
pub record MayCount (t : Tally) (lines : List GenLine) : Type 0 where
  pub committed : t.committed + length lines ≤ 104010
  pub conflicts : t.conflicts + length lines ≤ 104010
  pub refused : t.refused + length lines ≤ 104010

pub may_start : (t : Tally) (lines : List GenLine) (rounds : ℕ) → t ≡ no_replies → lines ≡ gen_lines rounds → rounds ≤ 8000 → MayCount t lines
may_start t lines rounds is are few = subst (λ (s : Tally). MayCount s lines) (sym is) (record {
  committed = omega (arith, few_more lines rounds are few);
  conflicts = omega (arith, few_more lines rounds are few);
  refused = omega (arith, few_more lines rounds are few);
})

pub may_more : (t : Tally) (a : Answer) (old new : List GenLine) (turn : GenTurn) → GivesNext old (Some turn) new → MayCount t old → MayCount (tally_more t a) new
may_more t a old new turn gives may = subst (λ (s : Tally). MayCount s new) (sym (tally_so t a)) (record {
  committed = omega (arith, may.committed, one_less old new turn gives, at_most_one (is_commit a));
  conflicts = omega (arith, may.conflicts, one_less old new turn gives, at_most_one (is_conflicted a));
  refused = omega (arith, may.refused, one_less old new turn gives, at_most_one (is_refused a));
})
