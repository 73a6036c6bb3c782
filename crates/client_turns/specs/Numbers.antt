-- The numbers of new objects that turns are given: by `new`, and by the calls on trees that make objects. Own.
use Rattle.std.specs.Prelude.{ℕ, List, [], ◌∷◌, ◌++◌, Option, Some, None, Result, Ok, Err}
use Rattle.zb_model.specs.declared.refusal.Refusal.{Refusal}
use Rattle.zb_answers.specs.declared.answer.Answer.{Answer}
use Rattle.zb_answers.specs.declared.answer.Answer.TheVariants as answer
use Rattle.zb_script.specs.declared.line.Line.{Line}
use Rattle.zb_script.specs.declared.line.Line.TheVariants as line
use Rattle.zb_script.specs.declared.tree_call.TreeCall.{TreeCall}
use Rattle.tree_attempts.specs.declared.attempt.Made.{Made}
use Rattle.tree_attempts.specs.declared.operation.TreeOperation.{TreeOperation}
use Rattle.zodb_core.specs.Machine.{Rules}
use Rattle.client_turns.specs.Clients.{Client, Moment, OpenTransaction, place_of_client}
use Rattle.client_turns.specs.Output.{FlaggedTurn, Out, TurnAnswer}
use Rattle.client_turns.specs.Refusing.{connection_refusal}
use Rattle.client_turns.specs.Trees.{CallEnds, IsUncalled, by_draw, by_read, by_tree, by_want, operation_of}
use Rattle.client_turns.specs.Turns.{IsLine, IsLineOf, IsLineUnless, IsOwnLine}

-- what a call drew that isn't answered: nothing, where its tree refused it or a read failed
abbrev pub drawn_uncalled : {m : Moment} {n : ℕ} {t : OpenTransaction} {root : ℕ} {op : TreeOperation} {why : Refusal} {now : Moment} → IsUncalled m n t root op why now → List ℕ
drawn_uncalled (by_tree objects sees refused whole same) = []
drawn_uncalled (by_read oid asked read found) = []
drawn_uncalled (by_draw numbers behind lacks draws refused) = numbers
drawn_uncalled (by_want numbers may draws is) = numbers

-- what a call drew
abbrev pub drawn_by_call : (m : Moment) (n : ℕ) (t : OpenTransaction) (root : ℕ) (op : TreeOperation) (result : Result Made Refusal) (now : Moment) → CallEnds m n t root op result now → List ℕ
drawn_by_call m n t root op (Ok made) now ends = ends.numbers
drawn_by_call m n t root op (Err why) now ends = drawn_uncalled ends

-- and so a line of a tree: nothing, where it is refused before
abbrev pub drawn_within : (m : Moment) (at : ℕ) (c : Client) (t : Option OpenTransaction) (root : ℕ) (call : TreeCall) (a : Answer) (now : Moment) → IsOwnLine m at c t (line.Tree root call) a now → List ℕ
drawn_within m at c None root call a now outside = []
drawn_within m at c (Some t) root call a now called = drawn_by_call m c.session t root (operation_of call) called.result called.behind called.ends

abbrev pub drawn_unless : (rules : Rules) (m : Moment) (at : ℕ) (c : Client) (why : Option Refusal) (root : ℕ) (call : TreeCall) (a : Answer) (now : Moment) → IsLineUnless rules m at c (line.Tree root call) why a now → List ℕ
drawn_unless rules m at c (Some why) root call a now refused = []
drawn_unless rules m at c None root call a now taken = drawn_within m at c c.transaction root call a now taken

abbrev pub drawn_at : (rules : Rules) (m : Moment) (at : Option ℕ) (root : ℕ) (call : TreeCall) (a : Answer) (now : Moment) → IsLineOf rules m at (line.Tree root call) a now → List ℕ
drawn_at rules m None root call a now refused = []
drawn_at rules m (Some at) root call a now is = drawn_unless rules m at is.0 (connection_refusal m.machine is.0 (line.Tree root call)) root call a now is.2

-- the number that an answer gives, if it gives one
abbrev pub number_given : Answer → Option ℕ
number_given (answer.Oid oid) = Some oid
number_given _ = None

abbrev pub number_listed : Option ℕ → List ℕ
number_listed (Some n) = n ∷ []
number_listed None = []

-- the numbers that a line is given: the one that it is answered, or those that its call on a tree drew
abbrev pub given_in_line : (rules : Rules) (m : Moment) (name : List ℕ) (l : Line) (a : Answer) (now : Moment) → IsLine rules m name l a now → List ℕ
given_in_line rules m name (line.Tree root call) a now is = drawn_at rules m (place_of_client name m.clients) root call a now is
given_in_line rules m name _ a now is = number_listed (number_given a)

-- the numbers that turns are given, in their order
abbrev pub numbers_given : (rules : Rules) (m : Moment) (turns : List FlaggedTurn) (out : List TurnAnswer) (now : Moment) → Out rules m turns out now → List ℕ
numbers_given rules m (t ∷ turns) (o ∷ out) now is = given_in_line rules m t.turn.client t.turn.line o.answer is.2.behind is.2.line ++ numbers_given rules is.0 turns out now is.3
numbers_given rules m _ _ now is = []
