-- What readers do in states that are alike.
use Rattle.std.proofs.Common.{◌≡◌, ℕ, zero, suc, ℤ, Bool, true, false, cond, List, [], ◌∷◌, ◌++◌, length, Option, Some, None, Result, Ok, Err, refl, sym, ◌∙◌, ap, subst, inl, inr, arith}
use Rattle.std.specs.Prelude.{slice_get, slice_set, nat_lt}
use Rattle.std.specs.Int.RustNames.{unsigned_abs}
use Rattle.pickle_ops.specs.declared.table.Op.{Op}
use Rattle.pickle_ops.specs.declared.table.Op.TheVariants as ops
use Rattle.pickle_reading.specs.declared.error.PickleError.{PickleError}
use Rattle.pickle_reading.specs.declared.error.PickleError.TheVariants as errors
use Rattle.pickle_graph.specs.declared.node.Node.{Node}
use Rattle.pickle_graph.specs.declared.node.Node.TheVariants as kinds
use Rattle.pickle_graph.specs.declared.pickle.Pickle.{Pickle}
use Rattle.pickle_graph.specs.Graph.{is_tuple}
use Rattle.pickle_reading.specs.Stacks.{TakenValues, node_at}
use Rattle.pickle_reading.specs.Leaves.{leaf_of}
use Rattle.pickle_reading.specs.Additions.{pairs_of, added}
use Rattle.pickle_reading.specs.Steps.{make, popped, unmarked, doubled, changed, put_of, get_of, leaf_or}
use Rattle.pickle_reading.specs.Nodes.{tuple_of, add_to, append_to, set_pairs, set_in, build_of, object_of, reference_of, act_of, step}
use Rattle.pickle_reading.specs.Reading.{graphs, root_of}
use Rattle.pickle_references.specs.References.{oid_in, oid_of, named_first, named_by, named_on, named_by_token, find, Left, left_of, parts}
use Rattle.pickle_references.specs.Naming.{noted, noted_in}
use Rattle.zb_record.specs.Alike.{NodeAlike, NodesAlike}
use Rattle.zb_record.proofs.Alike.{HeldAlike, BothOr}
use Rattle.zb_record.proofs.Names.{State, Finding, Item, Addition, Named, value, mark, weak, bad}
use Rattle.zb_record.proofs.Pieces.{OptAlike, as_many, get_alike}

-- the same state but for its nodes, which are alike
pub record StatesAlike (s other : State) : Type 0 where
  pub nodes : NodesAlike s.nodes other.nodes
  pub rest : other ≡ record s { nodes = other.nodes }

abbrev with : State → List Node → State
with s ms = record s { nodes = ms }

abbrev Both : Result State PickleError → Result State PickleError → Type 0
Both = BothOr StatesAlike

-- ---- nodes

more_alike : (ns ms : List Node) (x y : Node) → NodesAlike ns ms → NodeAlike x y → NodesAlike (ns ++ x ∷ []) (ms ++ y ∷ [])
more_alike [] [] x y h g = (g, tt)
more_alike (a ∷ ns) (b ∷ ms) x y h g = (h.0, more_alike ns ms x y h.1 g)
more_alike [] (b ∷ ms) x y h g = absurd h
more_alike (a ∷ ns) [] x y h g = absurd h

set_alike : (ns ms : List Node) (n : ℕ) (x y : Node) → NodesAlike ns ms → NodeAlike x y → NodesAlike (slice_set ns n x) (slice_set ms n y)
set_alike [] [] n x y h g = tt
set_alike (a ∷ ns) (b ∷ ms) zero x y h g = (g, h.1)
set_alike (a ∷ ns) (b ∷ ms) (suc n) x y h g = (h.0, set_alike ns ms n x y h.1 g)
set_alike [] (b ∷ ms) n x y h g = absurd h
set_alike (a ∷ ns) [] n x y h g = absurd h

opt_same : (o : Option Node) → OptAlike o o
opt_same None = tt
opt_same (Some x) = inl refl

none_added : (a : Addition) (bytes : List ℕ) → added a (Some (kinds.Bytes bytes)) ≡ None
none_added a bytes = grind arith

none_to : (a : Addition) → added a None ≡ None
none_to a = grind arith

both_none : (o p : Option Node) → o ≡ None → p ≡ None → OptAlike o p
both_none None None e f = tt
both_none None (Some y) e f = cc
both_none (Some x) p e f = cc

added_alike : (a : Addition) (o p : Option Node) → OptAlike o p → OptAlike (added a o) (added a p)
added_alike a None None h = both_none (added a None) (added a None) (none_to a) (none_to a)
added_alike a (Some x) (Some y) (inl e) = subst (λ (z : Node). OptAlike (added a (Some x)) (added a (Some z))) e (opt_same (added a (Some x)))
added_alike a (Some x) (Some y) (inr e) =
    both_none (added a (Some x)) (added a (Some y)) (ap (λ (z : Node). added a (Some z)) e.first ∙ none_added a e.one) (ap (λ (z : Node). added a (Some z)) e.second ∙ none_added a e.other)
added_alike a None (Some y) h = absurd h
added_alike a (Some x) None h = absurd h

pub tuple_alike : (o p : Option Node) → OptAlike o p → is_tuple o ≡ is_tuple p
tuple_alike None None h = refl
tuple_alike (Some x) (Some y) (inl e) = ap (λ (z : Node). is_tuple (Some z)) e
tuple_alike (Some x) (Some y) (inr e) = ap (λ (z : Node). is_tuple (Some z)) e.first ∙ sym (ap (λ (z : Node). is_tuple (Some z)) e.second)
tuple_alike None (Some y) h = absurd h
tuple_alike (Some x) None h = absurd h

-- ---- what a token does

module _ (at to : ℕ) where
  make_by : (b : Bool) (x y : Node) (s : State) (ms : List Node) (n : ℕ) → n ≡ length s.nodes → NodesAlike s.nodes ms → NodeAlike x y →
      Both (cond b (Ok (record s { nodes = s.nodes ++ x ∷ []; stack = value (length s.nodes) ∷ s.stack })) (Err (errors.TooLarge at)))
      (cond b (Ok (record s { nodes = ms ++ y ∷ []; stack = value n ∷ s.stack })) (Err (errors.TooLarge to)))
  make_by true x y s ms n e h g = record { nodes = more_alike s.nodes ms x y h g; rest = ap (λ (k : ℕ). record s { nodes = ms ++ y ∷ []; stack = value k ∷ s.stack }) e }
  make_by false x y s ms n e h g = tt

  makes : (x y : Node) (s : State) (ms : List Node) → NodesAlike s.nodes ms → NodeAlike x y → Both (make at x s) (make to y (with s ms))
  makes x y s ms h g =
      let many : length ms ≡ length s.nodes = sym (as_many s.nodes ms h) in
      let b : nat_lt (length ms) s.limit ≡ nat_lt (length s.nodes) s.limit = ap (λ (n : ℕ). nat_lt n s.limit) many in
      subst (λ (t : Bool). Both (make at x s) (cond t (Ok (record s { nodes = ms ++ y ∷ []; stack = value (length ms) ∷ s.stack })) (Err (errors.TooLarge to)))) (sym b)
      (make_by (nat_lt (length s.nodes) s.limit) x y s ms (length ms) many h g)

  kept : (s : State) (ms : List Node) → NodesAlike s.nodes ms → StatesAlike s (with s ms)
  kept s ms h = record { nodes = h; rest = refl }

  pops : (s : State) (ms : List Node) (stack : List Item) → NodesAlike s.nodes ms → Both (popped at s stack) (popped to (with s ms) stack)
  pops s ms [] h = tt
  pops s ms (item ∷ below) h = record { nodes = h; rest = refl }

  unmarks : (s : State) (ms : List Node) (found : TakenValues) → NodesAlike s.nodes ms → Both (unmarked at s found) (unmarked to (with s ms) found)
  unmarks s ms None h = tt
  unmarks s ms (Some found) h = record { nodes = h; rest = refl }

  doubles : (s : State) (ms : List Node) (stack : List Item) → NodesAlike s.nodes ms → Both (doubled at s stack) (doubled to (with s ms) stack)
  doubles s ms [] h = tt
  doubles s ms (value v ∷ below) h = record { nodes = h; rest = refl }
  doubles s ms (mark ∷ below) h = tt

  tuples : (s : State) (ms : List Node) (found : TakenValues) → NodesAlike s.nodes ms → Both (tuple_of at s found) (tuple_of to (with s ms) found)
  tuples s ms None h = tt
  tuples s ms (Some found) h = makes (kinds.Tuple found.0) (kinds.Tuple found.0) (record s { stack = found.1 }) ms h (inl refl)

  changes : (s : State) (ms : List Node) (n : ℕ) (below : List Item) (o p : Option Node) → NodesAlike s.nodes ms → OptAlike o p → Both (changed at s n below o) (changed to (with s ms) n below p)
  changes s ms n below None None h g = tt
  changes s ms n below (Some x) (Some y) h g = record { nodes = set_alike s.nodes ms n x y h g; rest = refl }
  changes s ms n below None (Some y) h g = absurd g
  changes s ms n below (Some x) None h g = absurd g

  adds : (s : State) (ms : List Node) (a : Addition) (stack : List Item) → NodesAlike s.nodes ms → Both (add_to at s a stack) (add_to to (with s ms) a stack)
  adds s ms a [] h = tt
  adds s ms a (value n ∷ below) h = changes s ms n below (added a (slice_get s.nodes n)) (added a (slice_get ms n)) h (added_alike a (slice_get s.nodes n) (slice_get ms n) (get_alike s.nodes ms n h))
  adds s ms a (mark ∷ below) h = tt

  appends : (s : State) (ms : List Node) (found : TakenValues) → NodesAlike s.nodes ms → Both (append_to at s found) (append_to to (with s ms) found)
  appends s ms None h = tt
  appends s ms (Some found) h = search (adds, h)

  sets_pairs : (s : State) (ms : List Node) (pairs : Option (List (ℕ × ℕ))) (stack : List Item) → NodesAlike s.nodes ms → Both (set_pairs at s pairs stack) (set_pairs to (with s ms) pairs stack)
  sets_pairs s ms None stack h = tt
  sets_pairs s ms (Some pairs) stack h = search (adds, h)

  sets : (s : State) (ms : List Node) (found : TakenValues) → NodesAlike s.nodes ms → Both (set_in at s found) (set_in to (with s ms) found)
  sets s ms None h = tt
  sets s ms (Some found) h = sets_pairs s ms (pairs_of found.0) found.1 h

  builds : (s : State) (ms : List Node) (stack : List Item) → NodesAlike s.nodes ms → Both (build_of at s stack) (build_of to (with s ms) stack)
  builds s ms [] h = tt
  builds s ms (value state ∷ below) h = search (adds, h)
  builds s ms (mark ∷ below) h = tt

  object_by : (b : Bool) (x : Node) (s : State) (ms : List Node) → NodesAlike s.nodes ms → Both (cond b (make at x s) (Err (errors.Stack at))) (cond b (make to x (with s ms)) (Err (errors.Stack to)))
  object_by true x s ms h = makes x x s ms h (inl refl)
  object_by false x s ms h = tt

  objects : (by_new : Bool) (s : State) (ms : List Node) (stack : List Item) → NodesAlike s.nodes ms → Both (object_of by_new at s stack) (object_of by_new to (with s ms) stack)
  objects by_new s ms [] h = tt
  objects by_new s ms (mark ∷ below) h = tt
  objects by_new s ms (value arguments ∷ []) h = tt
  objects by_new s ms (value arguments ∷ mark ∷ below) h = tt
  objects by_new s ms (value arguments ∷ value callee ∷ below) h =
      let same : is_tuple (slice_get s.nodes arguments) ≡ is_tuple (slice_get ms arguments) = tuple_alike (slice_get s.nodes arguments) (slice_get ms arguments) (get_alike s.nodes ms arguments h) in
      subst (λ (t : Bool). Both (object_of by_new at s (value arguments ∷ value callee ∷ below)) (cond t (make to (kinds.Object callee arguments by_new []) (record s { nodes = ms; stack = below })) (Err (errors.Stack to)))) same
      (object_by (is_tuple (slice_get s.nodes arguments)) (kinds.Object callee arguments by_new []) (record s { stack = below }) ms h)

  refers : (s : State) (ms : List Node) (stack : List Item) → NodesAlike s.nodes ms → Both (reference_of at s stack) (reference_of to (with s ms) stack)
  refers s ms [] h = tt
  refers s ms (value id ∷ below) h = makes (kinds.Reference id) (kinds.Reference id) (record s { stack = below }) ms h (inl refl)
  refers s ms (mark ∷ below) h = tt

  puts : (n : ℕ) (s : State) (ms : List Node) (stack : List Item) → NodesAlike s.nodes ms → Both (put_of at n s stack) (put_of to n (with s ms) stack)
  puts n s ms [] h = tt
  puts n s ms (value v ∷ below) h = record { nodes = h; rest = refl }
  puts n s ms (mark ∷ below) h = tt

  gets : (s : State) (ms : List Node) (o : Option ℕ) → NodesAlike s.nodes ms → Both (get_of at s o) (get_of to (with s ms) o)
  gets s ms None h = tt
  gets s ms (Some v) h = record { nodes = h; rest = refl }

  acts : (op : Op) (number : ℤ) (s : State) (ms : List Node) → NodesAlike s.nodes ms → Both (act_of op at number s) (act_of op to number (with s ms))
  acts ops.Proto number s ms h = record { nodes = h; rest = refl }
  acts ops.Mark number s ms h = record { nodes = h; rest = refl }
  acts ops.Pop number s ms h = pops s ms s.stack h
  acts ops.PopMark number s ms h = unmarks s ms _ h
  acts ops.Dup number s ms h = doubles s ms s.stack h
  acts ops.Tuple number s ms h = tuples s ms _ h
  acts ops.Tuple1 number s ms h = tuples s ms _ h
  acts ops.Tuple2 number s ms h = tuples s ms _ h
  acts ops.Tuple3 number s ms h = tuples s ms _ h
  acts ops.Append number s ms h = appends s ms _ h
  acts ops.Appends number s ms h = appends s ms _ h
  acts ops.SetItem number s ms h = search (sets, h)
  acts ops.SetItems number s ms h = search (sets, h)
  acts ops.Reduce number s ms h = objects false s ms s.stack h
  acts ops.NewObj number s ms h = objects true s ms s.stack h
  acts ops.Build number s ms h = builds s ms s.stack h
  acts ops.BinPersid number s ms h = refers s ms s.stack h
  acts ops.BinPut number s ms h = puts (unsigned_abs number) s ms s.stack h
  acts ops.LongBinPut number s ms h = puts (unsigned_abs number) s ms s.stack h
  acts ops.BinGet number s ms h = gets s ms (node_at s.memo (unsigned_abs number)) h
  acts ops.LongBinGet number s ms h = gets s ms (node_at s.memo (unsigned_abs number)) h
  acts _ number s ms h = tt

  leaf_by : (s : State) (ms : List Node) (o : Option Node) (one other : Result State PickleError) → NodesAlike s.nodes ms → Both one other → Both (leaf_or at s o one) (leaf_or to (with s ms) o other)
  leaf_by s ms None one other h g = g
  leaf_by s ms (Some x) one other h g = makes x x s ms h (inl refl)

  -- a token of the same bytes, or of eight bytes
  steps_by : (op : Op) (number : ℤ) (one other : List ℕ) (s : State) (ms : List Node) → HeldAlike op one other → NodesAlike s.nodes ms → Both (step op at number one s) (step op to number other (with s ms))
  steps_by op number one other s ms (inl e) h =
      subst (λ (bytes : List ℕ). Both (step op at number one s) (step op to number bytes (with s ms))) e
      (leaf_by s ms (leaf_of op number one) (act_of op at number s) (act_of op to number (with s ms)) h (acts op number s ms h))
  steps_by op number one other s ms (inr e) h =
      subst (λ (o : Op). Both (step o at number one s) (step o to number other (with s ms))) (sym e.op_is)
      (makes (kinds.Bytes one) (kinds.Bytes other) s ms h (inr (record { one = one; other = other; first = refl; second = refl; first_long = e.first; second_long = e.second })))

  pub steps_alike : (op : Op) (number : ℤ) (one other : List ℕ) (s s' : State) → HeldAlike op one other → StatesAlike s s' → Both (step op at number one s) (step op to number other s')
  steps_alike op number one other s s' e h =
      subst (λ (t : State). Both (step op at number one s) (step op to number other t)) (sym h.rest) (steps_by op number one other s s'.nodes e h.nodes)

-- ---- the reader of graphs

-- nodes that are alike, and the same root
abbrev pub GraphsEnd : Pickle × ℕ → Pickle × ℕ → Type 0
GraphsEnd a b = NodesAlike a.0.nodes b.0.nodes × (a.0.root ≡ b.0.root)

roots_by : (at to next next' : ℕ) (s : State) (ms : List Node) (stack : List Item) → NodesAlike s.nodes ms → BothOr GraphsEnd (root_of at next s stack) (root_of to next' (with s ms) stack)
roots_by at to next next' s ms [] h = tt
roots_by at to next next' s ms (value v ∷ below) h = (h, refl)
roots_by at to next next' s ms (mark ∷ below) h = tt

pub graphs_end : (at to next next' : ℕ) (s s' : State) → StatesAlike s s' → BothOr GraphsEnd (graphs.finish at next s) (graphs.finish to next' s')
graphs_end at to next next' s s' h =
    subst (λ (t : State). BothOr GraphsEnd (graphs.finish at next s) (graphs.finish to next' t)) (sym h.rest) (roots_by at to next next' s s'.nodes s.stack h.nodes)

-- ---- the reader of what a pickle says

abbrev pub FindingsAlike : Finding → Finding → Type 0
FindingsAlike f g = StatesAlike f.state g.state

-- an oid, nothing that is followed, or no form
abbrev form_of : Named → ℕ
form_of weak = 0
form_of bad = 1
form_of _ = 2

abbrev NamedAlike : Named → Named → Type 0
NamedAlike m n = form_of m ≡ form_of n

named_same : (n : Named) → NamedAlike n n
named_same n = refl

eight_named : (bytes : List ℕ) → length bytes ≡ 8 → form_of (oid_in bytes) ≡ 2
eight_named bytes e = rw e refl

oid_alike : (o p : Option Node) → OptAlike o p → NamedAlike (oid_of o) (oid_of p)
oid_alike None None h = refl
oid_alike (Some x) (Some y) (inl e) = subst (λ (z : Node). NamedAlike (oid_of (Some x)) (oid_of (Some z))) e (named_same (oid_of (Some x)))
oid_alike (Some x) (Some y) (inr e) =
    (ap (λ (z : Node). form_of (oid_of (Some z))) e.first ∙ eight_named e.one e.first_long) ∙ sym (ap (λ (z : Node). form_of (oid_of (Some z))) e.second ∙ eight_named e.other e.second_long)
oid_alike None (Some y) h = absurd h
oid_alike (Some x) None h = absurd h

first_alike : (ns ms : List Node) (items : List ℕ) → NodesAlike ns ms → NamedAlike (named_first ns items) (named_first ms items)
first_alike ns ms [] h = refl
first_alike ns ms (first ∷ rest) h = oid_alike (slice_get ns first) (slice_get ms first) (get_alike ns ms first h)

same_by : (ns ms : List Node) (x : Node) → NodesAlike ns ms → NamedAlike (named_by ns (Some x)) (named_by ms (Some x))
same_by ns ms (kinds.Tuple items) h = first_alike ns ms items h
same_by ns ms (kinds.List items) h = refl
same_by ns ms (kinds.Bytes bytes) h = named_same (oid_in bytes)
same_by ns ms (kinds.OldText bytes) h = named_same (oid_in bytes)
same_by ns ms kinds.None h = refl
same_by ns ms (kinds.Bool b) h = refl
same_by ns ms (kinds.Number n) h = refl
same_by ns ms (kinds.Wide b) h = refl
same_by ns ms (kinds.Float b) h = refl
same_by ns ms (kinds.Text b) h = refl
same_by ns ms (kinds.Dict b) h = refl
same_by ns ms (kinds.Global a b) h = refl
same_by ns ms (kinds.Reference id) h = refl
same_by ns ms (kinds.Object a b c d) h = refl

by_alike : (ns ms : List Node) (o p : Option Node) → NodesAlike ns ms → OptAlike o p → NamedAlike (named_by ns o) (named_by ms p)
by_alike ns ms None None h g = refl
by_alike ns ms (Some x) (Some y) h (inl e) = subst (λ (z : Node). NamedAlike (named_by ns (Some x)) (named_by ms (Some z))) e (same_by ns ms x h)
by_alike ns ms (Some x) (Some y) h (inr e) =
    (ap (λ (z : Node). form_of (named_by ns (Some z))) e.first ∙ eight_named e.one e.first_long) ∙ sym (ap (λ (z : Node). form_of (named_by ms (Some z))) e.second ∙ eight_named e.other e.second_long)
by_alike ns ms None (Some y) h g = absurd g
by_alike ns ms (Some x) None h g = absurd g

on_alike : (ns ms : List Node) (stack : List Item) → NodesAlike ns ms → NamedAlike (named_on ns stack) (named_on ms stack)
on_alike ns ms [] h = refl
on_alike ns ms (value v ∷ below) h = by_alike ns ms (slice_get ns v) (slice_get ms v) h (get_alike ns ms v h)
on_alike ns ms (mark ∷ below) h = refl

token_alike : (op : Op) (ns ms : List Node) (stack : List Item) → NodesAlike ns ms → NamedAlike (named_by_token op ns stack) (named_by_token op ms stack)
token_alike ops.BinPersid ns ms stack h = on_alike ns ms stack h
token_alike _ ns ms stack h = refl

notes : (at to : ℕ) (s s' : State) (oids oids' : List ℕ) (m n : Named) → StatesAlike s s' → NamedAlike m n → BothOr FindingsAlike (noted at s oids m) (noted to s' oids' n)
notes at to s s' oids oids' weak weak h g = h
notes at to s s' oids oids' bad bad h g = tt
notes at to s s' oids oids' weak bad h g = cc
notes at to s s' oids oids' bad weak h g = cc
notes at to s s' oids oids' weak n h g = cc
notes at to s s' oids oids' bad n h g = cc
notes at to s s' oids oids' m weak h g = cc
notes at to s s' oids oids' m bad h g = cc
notes at to s s' oids oids' _ _ h g = h

notes_in : (at to : ℕ) (oids oids' : List ℕ) (m n : Named) (a b : Result State PickleError) → NamedAlike m n → Both a b → BothOr FindingsAlike (noted_in at oids m a) (noted_in to oids' n b)
notes_in at to oids oids' m n (Ok s) (Ok s') g h = notes at to s s' oids oids' m n h g
notes_in at to oids oids' m n (Err d) (Err e) g h = tt
notes_in at to oids oids' m n (Ok s) (Err e) g h = absurd h
notes_in at to oids oids' m n (Err d) (Ok s') g h = absurd h

pub finds_alike : (op : Op) (at to : ℕ) (number : ℤ) (one other : List ℕ) (f g : Finding) → HeldAlike op one other → FindingsAlike f g → BothOr FindingsAlike (find op at number one f) (find op to number other g)
finds_alike op at to number one other f g e h =
    let stack : g.state.stack ≡ f.state.stack = ap (λ (s : State). s.stack) h.rest in
    let named : NamedAlike (named_by_token op f.state.nodes f.state.stack) (named_by_token op g.state.nodes g.state.stack) =
    subst (λ (st : List Item). NamedAlike (named_by_token op f.state.nodes f.state.stack) (named_by_token op g.state.nodes st)) (sym stack) (token_alike op f.state.nodes g.state.nodes f.state.stack h.nodes) in
    notes_in at to f.oids g.oids (named_by_token op f.state.nodes f.state.stack) (named_by_token op g.state.nodes g.state.stack) (step op at number one f.state) (step op to number other g.state) named (steps_alike at to op number one other f.state g.state e h)

abbrev pub PartsEnd : Left → Left → Type 0
PartsEnd a b = Unit {0}

ends_by : (at to next next' : ℕ) (f g : Finding) (stack : List Item) → BothOr PartsEnd (left_of at next f stack) (left_of to next' g stack)
ends_by at to next next' f g [] = tt
ends_by at to next next' f g (value v ∷ below) = tt
ends_by at to next next' f g (mark ∷ below) = tt

pub parts_end : (at to next next' : ℕ) (f g : Finding) → FindingsAlike f g → BothOr PartsEnd (parts.finish at next f) (parts.finish to next' g)
parts_end at to next next' f g h =
    let stack : g.state.stack ≡ f.state.stack = ap (λ (s : State). s.stack) h.rest in
    subst (λ (st : List Item). BothOr PartsEnd (left_of at next f f.state.stack) (left_of to next' g st)) (sym stack) (ends_by at to next next' f g f.state.stack)
