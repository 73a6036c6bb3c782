-- Runs with one turn more. For the proofs of those who follow runs.
use Rattle.std.proofs.Common.{ℕ, List, [], ◌∷◌, ◌++◌, append-nil, append_assoc, refl, sym, ap, subst, ◌∙◌}
use Rattle.std.specs.Prelude.{Ok}
use Rattle.zb_model.specs.declared.data.Transaction.{Transaction}
use Rattle.zb_answers.specs.declared.answer.Answer.{Answer}
use Rattle.zodb_core.specs.Machine.{Rules}
use Rattle.client_turns.specs.Clients.{Moment}
use Rattle.client_turns.specs.ListLaws.{turn_kept}
use Rattle.client_turns.specs.Output.{FlaggedTurn, Out, TurnAnswer}
use Rattle.client_turns.specs.Turns.{IsTurn}
use Rattle.side_by_side.specs.Runs.{IsListNext, IsOfRun, stock}

-- what stands for the list may be left before a turn
pub next_kept : (stands : List ℕ → List Transaction → Type 0) (m : Moment) (later : List FlaggedTurn) (bytes : List ℕ) → stands bytes m.machine.list → IsListNext stands m later bytes
next_kept stands m [] bytes left = left
next_kept stands m (t ∷ later) bytes left = turn_kept stands stock m t.turn bytes left

pub out_push : (rules : Rules) (m mid now : Moment) (turns : List FlaggedTurn) (t : FlaggedTurn) (answers : List TurnAnswer) (a : Answer)
    → Out rules m turns answers mid → IsTurn rules mid t.turn t.is_last (Ok a) now
    → Out rules m (turns ++ t ∷ []) (answers ++ record { client = t.turn.client; answer = a } ∷ []) now
out_push rules m mid now [] t [] a out turn = (now, refl, subst (λ (x : Moment). IsTurn rules x t.turn t.is_last (Ok a) now) out turn, refl)
out_push rules m mid now [] t (o ∷ answers) a out turn = absurd out
out_push rules m mid now (u ∷ turns) t [] a out turn = absurd out
out_push rules m mid now (u ∷ turns) t (o ∷ answers) a (next, named, first, rest) turn =
    (next, named, first, out_push rules next mid now turns t answers a rest turn)

-- what was of the run so far is of the run with one turn more
pub of_run_more : (stands : List ℕ → List Transaction → Type 0) (m mid now : Moment) (turns : List FlaggedTurn) (t : FlaggedTurn) (later : List FlaggedTurn) (answers : List TurnAnswer) (a : Answer)
    → IsTurn stock mid t.turn t.is_last (Ok a) now
    → (bytes : List ℕ) → IsOfRun stands m turns (t ∷ later) answers mid bytes → IsOfRun stands m (turns ++ t ∷ []) later (answers ++ record { client = t.turn.client; answer = a } ∷ []) now bytes
of_run_more stands m mid now turns t later answers a turn bytes is =
    let o : TurnAnswer = record { client = t.turn.client; answer = a } in
    let came = is.came in
    record {
      given = is.given;
      more = is.more ++ o ∷ [];
      parts = ap (λ (os : List TurnAnswer). os ++ o ∷ []) is.parts ∙ append_assoc is.given is.more (o ∷ []);
      came = record {
        front = came.front;
        rest = came.rest ++ t ∷ [];
        parts = ap (λ (ts : List FlaggedTurn). ts ++ t ∷ []) came.parts ∙ append_assoc came.front came.rest (t ∷ []);
        at = came.at;
        before = came.before;
        after = out_push stock came.at mid now came.rest t is.more a came.after turn;
      };
      list = subst (λ (ts : List FlaggedTurn). IsListNext stands came.at ts bytes) (sym (append_assoc came.rest (t ∷ []) later)) is.list;
    }

-- the moment at which a run begins is of it
pub of_run_first : (stands : List ℕ → List Transaction → Type 0) (m : Moment) (later : List FlaggedTurn) (bytes : List ℕ) → IsListNext stands m later bytes → IsOfRun stands m [] later [] m bytes
of_run_first stands m later bytes is = record {
  given = [];
  more = [];
  parts = refl;
  came = record { front = []; rest = []; parts = refl; at = m; before = refl; after = refl };
  list = is;
}

-- the moment that it is now is of the run
pub of_run_now : (stands : List ℕ → List Transaction → Type 0) (m now : Moment) (turns later : List FlaggedTurn) (answers : List TurnAnswer) (bytes : List ℕ) → Out stock m turns answers now → IsListNext stands now later bytes
    → IsOfRun stands m turns later answers now bytes
of_run_now stands m now turns later answers bytes out is = record {
  given = answers;
  more = [];
  parts = sym (append-nil answers);
  came = record { front = turns; rest = []; parts = sym (append-nil turns); at = now; before = out; after = refl };
  list = is;
}

-- what was of a run is of it when a turn is to be taken
pub of_run_next : (stands : List ℕ → List Transaction → Type 0) (m now : Moment) (turns : List FlaggedTurn) (t : FlaggedTurn) (answers : List TurnAnswer) (bytes : List ℕ) → IsOfRun stands m turns [] answers now bytes → IsOfRun stands m turns (t ∷ []) answers now bytes
of_run_next stands m now turns t answers bytes is = record {
  given = is.given;
  more = is.more;
  parts = is.parts;
  came = is.came;
  list = list_next is.came.at is.came.rest is.list;
}
  where
    list_next : (at : Moment) (rest : List FlaggedTurn) → IsListNext stands at (rest ++ []) bytes → IsListNext stands at (rest ++ t ∷ []) bytes
    list_next at [] left = turn_kept stands stock at t.turn bytes left
    list_next at (u ∷ rest) left = left
