-- What is spelled so is read.
use Rattle.std.proofs.Common.{◌≡◌, ℕ, zero, suc, ◌<◌, ◌≢◌, Bool, true, false, cond, eqb, ltb, List, [], ◌∷◌, ◌++◌, length, Option, Some, None, is_some, refl, sym, ap, subst, ◌∙◌, append_assoc, append-nil, arith, flat_map}
use Rattle.std.specs.Prelude.{codes}
use Rattle.std.proofs.lemmas.Bool.{eqb-true, ne_eqb, le-ltb}
use Rattle.std.specs.Fmt.{signed_decimal}
use Rattle.std.proofs.lemmas.Bool.Decides.{nat_tests}
use Rattle.std.proofs.lemmas.List.{length-append}
use Rattle.std.proofs.lemmas.Option.{same_Some, cond_some}
use Rattle.zb_ids.specs.Hex.{hex_text}
use Rattle.zb_ids.specs.HexLaws.{from_bind}
use Rattle.pickle_graph.specs.declared.node.Node.{Node}
use Rattle.pickle_graph.specs.declared.node.Node.TheVariants as kinds
use Rattle.literal_reading.specs.declared.form.Form.{Form}
use Rattle.zb_literals.specs.Texts.{leaf_literal, global_text, name_byte_text}
use Rattle.zb_literals.specs.Values.{Value, leaf, tuple, list, dict, reference, Values, no_values, value, Pairs, no_pairs, pair, oid_of_value, global_of_value, short_of, leaf_oid, leaf_global, digits_of, with_global, reference_text, literal_text, more_text, more_pairs, IsLeaf, IsValue, AreValues, ArePairs, AreAllSmall}
use Rattle.zb_literals.specs.Graphs.{last_of, with_value, with_values, with_pairs, named_values, named_pairs}
use Rattle.literal_reading.specs.Reading.{rest_behind, begins_number, is_float_size, plain_form, leaf_found, item_at, pair_at, values_at, pairs_at, many_at, tuple_rest_at, tuple_at, list_at, dict_at, reference_at, address_at, shape_at, value_at, literal_at}
use Rattle.literal_reading.proofs.Steps.{behind_again}
use Rattle.literal_reading.proofs.NumberLaws.{Closed, is_closing, counted_again, counted_before, number_begins}
use Rattle.literal_reading.proofs.LeafLaws.{leaf_again, global_again}
use Rattle.literal_reading.proofs.TreeLaws.{form_of, leaf_forms, tuple_form, tuple_regroup, list_regroup, dict_regroup, long_reference, address_text, class_text, value_takes}

-- a value is read where what follows closes it
abbrev pub Again : ℕ → Value → Type 0
Again levels v = (nodes : List Node) (rest : List ℕ) → Closed rest → value_at levels nodes (literal_text v ++ rest) ≡ Some (with_value nodes v, form_of v, rest)

-- what follows closes it and is no comma
abbrev pub Ends : List ℕ → Type 0
Ends [] = Unit {0}
Ends (b ∷ rest) = (is_closing b ≡ true) × (b ≢ 44)

ends_closed : (rest : List ℕ) → Ends rest → Closed rest
ends_closed [] h = tt
ends_closed (b ∷ rest) h = h.0

no_comma : (rest : List ℕ) → Ends rest → rest_behind (codes ",") rest ≡ None
unfolding rest_behind
no_comma [] h = refl
no_comma (b ∷ rest) h = rw (ne_eqb b 44 h.1) refl

more_closed : (vs : Values) (rest : List ℕ) → Ends rest → Closed (more_text vs ++ rest)
more_closed no_values rest h = ends_closed rest h
more_closed (value v vs) rest h = refl

more_pairs_closed : (ps : Pairs) (rest : List ℕ) → Ends rest → Closed (more_pairs ps ++ rest)
more_pairs_closed no_pairs rest h = ends_closed rest h
more_pairs_closed (pair k v ps) rest h = refl

-- ---- further items

abbrev pub MoreAgain : ℕ → Values → Type 0
MoreAgain levels vs = (n : ℕ) (nodes : List Node) (items rest : List ℕ) → Ends rest → length (more_text vs ++ rest) < n
    → many_at (item_at (value_at levels)) n nodes items (more_text vs ++ rest) ≡ Some (with_values nodes vs, items ++ named_values nodes vs, rest)

none_again : (levels : ℕ) → MoreAgain levels no_values
none_again levels zero nodes items rest h k = absurd (omega (arith, k))
none_again levels (suc n) nodes items rest h k = rw (no_comma rest h) (ap (λ (xs : List ℕ). Some (nodes, xs, rest)) (sym (append-nil items)))

one_item : (levels : ℕ) (v : Value) → Again levels v → (nodes : List Node) (items rest : List ℕ) → Closed rest
    → item_at (value_at levels) nodes items (literal_text v ++ rest) ≡ Some (with_value nodes v, items ++ last_of (with_value nodes v) ∷ [], rest)
unfolding item_at
one_item levels v again nodes items rest h = rw (again nodes rest h) refl

more_again : (levels : ℕ) (v : Value) (vs : Values) → Again levels v → MoreAgain levels vs → MoreAgain levels (value v vs)
more_again levels v vs again later zero nodes items rest h k = absurd (omega (arith, k))
more_again levels v vs again later (suc n) nodes items rest h k =
    let whole = append_assoc (literal_text v) (more_text vs) rest in
    let comma : rest_behind (codes ",") (44 ∷ (literal_text v ++ (more_text vs ++ rest))) ≡ Some (literal_text v ++ (more_text vs ++ rest)) = behind_again (codes ",") (literal_text v ++ (more_text vs ++ rest)) in
    let item = one_item levels v again nodes items (more_text vs ++ rest) (more_closed vs rest h) in
    let short : length (more_text vs ++ rest) < n = omega (arith, k, ap length whole, length-append (literal_text v) (more_text vs ++ rest)) in
    let read = later n (with_value nodes v) (items ++ last_of (with_value nodes v) ∷ []) rest h short in
    ap (λ (x : List ℕ). many_at (item_at (value_at levels)) (suc n) nodes items (44 ∷ x)) whole
    ∙ rw (comma, item) (read ∙ ap (λ (xs : List ℕ). Some (with_values (with_value nodes v) vs, xs, rest)) (append_assoc items (last_of (with_value nodes v) ∷ []) (named_values (with_value nodes v) vs)))

items_again : (levels : ℕ) (vs : Values) → MoreAgain levels vs → (nodes : List Node) (items rest : List ℕ) → Ends rest
    → values_at (value_at levels) nodes items (more_text vs ++ rest) ≡ Some (with_values nodes vs, items ++ named_values nodes vs, rest)
unfolding values_at
items_again levels vs again nodes items rest h = again (suc (length (more_text vs ++ rest))) nodes items rest h (omega arith)

-- ---- further keys and values

abbrev pub PairsAgain : ℕ → Pairs → Type 0
PairsAgain levels ps = (n : ℕ) (nodes : List Node) (items : List (ℕ × ℕ)) (rest : List ℕ) → Ends rest → length (more_pairs ps ++ rest) < n
    → many_at (pair_at (value_at levels)) n nodes items (more_pairs ps ++ rest) ≡ Some (with_pairs nodes ps, items ++ named_pairs nodes ps, rest)

no_pairs_again : (levels : ℕ) → PairsAgain levels no_pairs
no_pairs_again levels zero nodes items rest h k = absurd (omega (arith, k))
no_pairs_again levels (suc n) nodes items rest h k = rw (no_comma rest h) (ap (λ (xs : List (ℕ × ℕ)). Some (nodes, xs, rest)) (sym (append-nil items)))

one_pair : (levels : ℕ) (key v : Value) → Again levels key → Again levels v → (nodes : List Node) (items : List (ℕ × ℕ)) (rest : List ℕ) → Closed rest
    → pair_at (value_at levels) nodes items (literal_text key ++ 58 ∷ (literal_text v ++ rest))
    ≡ Some (with_value (with_value nodes key) v, items ++ (last_of (with_value nodes key), last_of (with_value (with_value nodes key) v)) ∷ [], rest)
unfolding pair_at
one_pair levels key v again_key again_value nodes items rest h =
    let colon : rest_behind (codes ":") (58 ∷ (literal_text v ++ rest)) ≡ Some (literal_text v ++ rest) = behind_again (codes ":") (literal_text v ++ rest) in
    rw (again_key nodes (58 ∷ (literal_text v ++ rest)) refl, colon, again_value (with_value nodes key) rest h) refl

pair_regroup : (k v ps rest : List ℕ) → (k ++ 58 ∷ (v ++ ps)) ++ rest ≡ k ++ 58 ∷ (v ++ (ps ++ rest))
pair_regroup k v ps rest = append_assoc k (58 ∷ (v ++ ps)) rest ∙ ap (λ (x : List ℕ). k ++ 58 ∷ x) (append_assoc v ps rest)

more_pairs_again : (levels : ℕ) (key v : Value) (ps : Pairs) → Again levels key → Again levels v → PairsAgain levels ps → PairsAgain levels (pair key v ps)
more_pairs_again levels key v ps again_key again_value later zero nodes items rest h k = absurd (omega (arith, k))
more_pairs_again levels key v ps again_key again_value later (suc n) nodes items rest h k =
    let whole = pair_regroup (literal_text key) (literal_text v) (more_pairs ps) rest in
    let comma : rest_behind (codes ",") (44 ∷ (literal_text key ++ 58 ∷ (literal_text v ++ (more_pairs ps ++ rest)))) ≡ Some (literal_text key ++ 58 ∷ (literal_text v ++ (more_pairs ps ++ rest))) =
    behind_again (codes ",") (literal_text key ++ 58 ∷ (literal_text v ++ (more_pairs ps ++ rest))) in
    let item = one_pair levels key v again_key again_value nodes items (more_pairs ps ++ rest) (more_pairs_closed ps rest h) in
    let short : length (more_pairs ps ++ rest) < n =
    omega (arith, k, ap length whole, length-append (literal_text key) (58 ∷ (literal_text v ++ (more_pairs ps ++ rest))), length-append (literal_text v) (more_pairs ps ++ rest)) in
    let named : ℕ × ℕ = (last_of (with_value nodes key), last_of (with_value (with_value nodes key) v)) in
    let read = later n (with_value (with_value nodes key) v) (items ++ named ∷ []) rest h short in
    ap (λ (x : List ℕ). many_at (pair_at (value_at levels)) (suc n) nodes items (44 ∷ x)) whole
    ∙ rw (comma, item) (read ∙ ap (λ (xs : List (ℕ × ℕ)). Some (with_pairs (with_value (with_value nodes key) v) ps, xs, rest)) (append_assoc items (named ∷ []) (named_pairs (with_value (with_value nodes key) v) ps)))

pairs_again : (levels : ℕ) (ps : Pairs) → PairsAgain levels ps → (nodes : List Node) (items : List (ℕ × ℕ)) (rest : List ℕ) → Ends rest
    → pairs_at (value_at levels) nodes items (more_pairs ps ++ rest) ≡ Some (with_pairs nodes ps, items ++ named_pairs nodes ps, rest)
unfolding pairs_at
pairs_again levels ps again nodes items rest h = again (suc (length (more_pairs ps ++ rest))) nodes items rest h (omega arith)

-- ---- heads

-- no literal begins with a bracket that closes
pub record Opens (text : List ℕ) : Type 0 where
  pub paren : (rest : List ℕ) → rest_behind (codes ")") (text ++ rest) ≡ None
  pub square : (rest : List ℕ) → rest_behind (codes "]") (text ++ rest) ≡ None
  pub brace : (rest : List ℕ) → rest_behind (codes "}") (text ++ rest) ≡ None

digit_opens : (b : ℕ) (text : List ℕ) → begins_number (b ∷ text) ≡ true → Opens (b ∷ text)
unfolding rest_behind
digit_opens b text e =
    let p : eqb b 41 ≡ false = grind (arith, nat_tests) in
    let s : eqb b 93 ≡ false = grind (arith, nat_tests) in
    let c : eqb b 125 ≡ false = grind (arith, nat_tests) in
    record { paren = λ rest. rw p refl; square = λ rest. rw s refl; brace = λ rest. rw c refl }

number_opens : (text : List ℕ) → begins_number (text ++ []) ≡ true → Opens text
number_opens [] e = absurd cc
number_opens (b ∷ text) e = digit_opens b text e

leaf_opens : (node : Node) → IsLeaf node → Opens (leaf_literal node)
unfolding rest_behind
leaf_opens kinds.None h = record { paren = λ rest. refl; square = λ rest. refl; brace = λ rest. refl }
leaf_opens (kinds.Bool true) h = record { paren = λ rest. refl; square = λ rest. refl; brace = λ rest. refl }
leaf_opens (kinds.Bool false) h = record { paren = λ rest. refl; square = λ rest. refl; brace = λ rest. refl }
leaf_opens (kinds.Number z) h = number_opens (signed_decimal z) (number_begins z [] h)
leaf_opens (kinds.Wide bytes) h = record { paren = λ rest. refl; square = λ rest. refl; brace = λ rest. refl }
leaf_opens (kinds.Float bytes) h = record { paren = λ rest. refl; square = λ rest. refl; brace = λ rest. refl }
leaf_opens (kinds.Bytes bytes) h = record { paren = λ rest. refl; square = λ rest. refl; brace = λ rest. refl }
leaf_opens (kinds.OldText bytes) h = record { paren = λ rest. refl; square = λ rest. refl; brace = λ rest. refl }
leaf_opens (kinds.Text bytes) h = record { paren = λ rest. refl; square = λ rest. refl; brace = λ rest. refl }
leaf_opens (kinds.Tuple items) h = absurd h
leaf_opens (kinds.List items) h = absurd h
leaf_opens (kinds.Dict pairs) h = absurd h
leaf_opens (kinds.Global a b) h = record { paren = λ rest. refl; square = λ rest. refl; brace = λ rest. refl }
leaf_opens (kinds.Reference id) h = absurd h
leaf_opens (kinds.Object a b c d) h = absurd h

value_opens : (levels : ℕ) (v : Value) → IsValue levels v → Opens (literal_text v)
unfolding rest_behind
value_opens zero v h = absurd h
value_opens (suc levels) (leaf node) h = leaf_opens node h
value_opens (suc levels) (tuple no_values) h = record { paren = λ rest. refl; square = λ rest. refl; brace = λ rest. refl }
value_opens (suc levels) (tuple (value v no_values)) h = record { paren = λ rest. refl; square = λ rest. refl; brace = λ rest. refl }
value_opens (suc levels) (tuple (value v (value w vs))) h = record { paren = λ rest. refl; square = λ rest. refl; brace = λ rest. refl }
value_opens (suc levels) (list no_values) h = record { paren = λ rest. refl; square = λ rest. refl; brace = λ rest. refl }
value_opens (suc levels) (list (value v vs)) h = record { paren = λ rest. refl; square = λ rest. refl; brace = λ rest. refl }
value_opens (suc levels) (dict no_pairs) h = record { paren = λ rest. refl; square = λ rest. refl; brace = λ rest. refl }
value_opens (suc levels) (dict (pair k v ps)) h = record { paren = λ rest. refl; square = λ rest. refl; brace = λ rest. refl }
value_opens (suc levels) (reference v) h = by_short (short_of v)
  where
    by_short : (short : Option (List ℕ)) → Opens (reference_text short (literal_text v))
    by_short (Some s) = record { paren = λ rest. refl; square = λ rest. refl; brace = λ rest. refl }
    by_short None = record { paren = λ rest. refl; square = λ rest. refl; brace = λ rest. refl }

-- ---- shapes

leaf_is : (node : Node) → IsLeaf node → (nodes : List Node) (rest : List ℕ) → Closed rest → leaf_found nodes (leaf_literal node ++ rest) ≡ Some (nodes ++ node ∷ [], form_of (leaf node), rest)
unfolding leaf_found
leaf_is node h nodes rest closed = rw (leaf_again node rest h closed) (ap (λ (f : Form). Some (nodes ++ node ∷ [], f, rest)) (leaf_forms node))

leaf_value : (levels : ℕ) (node : Node) → IsLeaf node → Again (suc levels) (leaf node)
unfolding value_at shape_at rest_behind
leaf_value levels kinds.None h nodes rest closed = leaf_is kinds.None h nodes rest closed
leaf_value levels (kinds.Bool true) h nodes rest closed = leaf_is (kinds.Bool true) h nodes rest closed
leaf_value levels (kinds.Bool false) h nodes rest closed = leaf_is (kinds.Bool false) h nodes rest closed
leaf_value levels (kinds.Number z) h nodes rest closed = rw (number_begins z rest h) (leaf_is (kinds.Number z) h nodes rest closed)
leaf_value levels (kinds.Wide bytes) h nodes rest closed = leaf_is (kinds.Wide bytes) h nodes rest closed
leaf_value levels (kinds.Float bytes) h nodes rest closed = leaf_is (kinds.Float bytes) h nodes rest closed
leaf_value levels (kinds.Bytes bytes) h nodes rest closed = leaf_is (kinds.Bytes bytes) h nodes rest closed
leaf_value levels (kinds.OldText bytes) h nodes rest closed = leaf_is (kinds.OldText bytes) h nodes rest closed
leaf_value levels (kinds.Text bytes) h nodes rest closed = leaf_is (kinds.Text bytes) h nodes rest closed
leaf_value levels (kinds.Tuple items) h nodes rest closed = absurd h
leaf_value levels (kinds.List items) h nodes rest closed = absurd h
leaf_value levels (kinds.Dict pairs) h nodes rest closed = absurd h
leaf_value levels (kinds.Global a b) h nodes rest closed = leaf_is (kinds.Global a b) h nodes rest closed
leaf_value levels (kinds.Reference id) h nodes rest closed = absurd h
leaf_value levels (kinds.Object a b c d) h nodes rest closed = absurd h

tuple_none : (levels : ℕ) → Again (suc levels) (tuple no_values)
unfolding value_at shape_at rest_behind tuple_at
tuple_none levels nodes rest closed = refl

tuple_one_text : (a rest : List ℕ) → (40 ∷ (a ++ 44 ∷ 41 ∷ [])) ++ rest ≡ 40 ∷ (a ++ 44 ∷ 41 ∷ rest)
tuple_one_text a rest = ap (λ (x : List ℕ). 40 ∷ x) (append_assoc a (44 ∷ 41 ∷ []) rest)

tuple_one_at : (levels : ℕ) (v : Value) → IsValue levels v → Again levels v → (nodes : List Node) (rest : List ℕ)
    → tuple_at (value_at levels) nodes (literal_text v ++ 44 ∷ 41 ∷ rest) ≡ Some (with_value nodes (tuple (value v no_values)), form_of (tuple (value v no_values)), rest)
unfolding tuple_at tuple_rest_at
tuple_one_at levels v is again nodes rest =
    let comma : rest_behind (codes ",") (44 ∷ 41 ∷ rest) ≡ Some (41 ∷ rest) = behind_again (codes ",") (41 ∷ rest) in
    let end : rest_behind (codes ")") (41 ∷ rest) ≡ Some rest = behind_again (codes ")") rest in
    rw ((value_opens levels v is).paren (44 ∷ 41 ∷ rest), again nodes (44 ∷ 41 ∷ rest) refl, comma, end) refl

tuple_rest_again : (levels : ℕ) (v w : Value) (vs : Values) → IsValue levels w → Again levels w → MoreAgain levels vs → (nodes : List Node) (rest : List ℕ)
    → tuple_rest_at (value_at levels) (with_value nodes v) (form_of v) (literal_text w ++ (more_text vs ++ 41 ∷ rest))
    ≡ Some (with_value nodes (tuple (value v (value w vs))), form_of (tuple (value v (value w vs))), rest)
unfolding tuple_rest_at
tuple_rest_again levels v w vs is again later nodes rest =
    let end : rest_behind (codes ")") (41 ∷ rest) ≡ Some rest = behind_again (codes ")") rest in
    let items = items_again levels vs later (with_value (with_value nodes v) w) (last_of (with_value nodes v) ∷ last_of (with_value (with_value nodes v) w) ∷ []) (41 ∷ rest) (refl, λ e. absurd (omega (arith, e))) in
    rw ((value_opens levels w is).paren (more_text vs ++ 41 ∷ rest), again (with_value nodes v) (more_text vs ++ 41 ∷ rest) (more_closed vs (41 ∷ rest) (refl, λ e. absurd (omega (arith, e)))), items, end)
    (ap (λ (f : Form). Some (with_value nodes (tuple (value v (value w vs))), f, rest))
    (tuple_form (with_value (with_value nodes v) w) v w vs (last_of (with_value nodes v)) (last_of (with_value (with_value nodes v) w))))

tuple_many_at : (levels : ℕ) (v w : Value) (vs : Values) → IsValue levels v → IsValue levels w → Again levels v → Again levels w → MoreAgain levels vs → (nodes : List Node) (rest : List ℕ)
    → tuple_at (value_at levels) nodes (literal_text v ++ 44 ∷ (literal_text w ++ (more_text vs ++ 41 ∷ rest)))
    ≡ Some (with_value nodes (tuple (value v (value w vs))), form_of (tuple (value v (value w vs))), rest)
unfolding tuple_at
tuple_many_at levels v w vs is_v is_w again_v again_w later nodes rest =
    let text : List ℕ = literal_text w ++ (more_text vs ++ 41 ∷ rest) in
    let comma : rest_behind (codes ",") (44 ∷ text) ≡ Some text = behind_again (codes ",") text in
    rw ((value_opens levels v is_v).paren (44 ∷ text), again_v nodes (44 ∷ text) refl, comma) (tuple_rest_again levels v w vs is_w again_w later nodes rest)

-- by the bracket, what stands first decides
at_paren : (levels : ℕ) (nodes : List Node) (bytes : List ℕ) → value_at (suc levels) nodes (40 ∷ bytes) ≡ tuple_at (value_at levels) nodes bytes
unfolding value_at shape_at rest_behind
at_paren levels nodes bytes = refl

at_square : (levels : ℕ) (nodes : List Node) (bytes : List ℕ) → value_at (suc levels) nodes (91 ∷ bytes) ≡ list_at (value_at levels) nodes bytes
unfolding value_at shape_at rest_behind
at_square levels nodes bytes = refl

at_brace : (levels : ℕ) (nodes : List Node) (bytes : List ℕ) → value_at (suc levels) nodes (123 ∷ bytes) ≡ dict_at (value_at levels) nodes bytes
unfolding value_at shape_at rest_behind
at_brace levels nodes bytes = refl

at_ref : (levels : ℕ) (nodes : List Node) (bytes : List ℕ) → value_at (suc levels) nodes (codes "ref(" ++ bytes) ≡ reference_at (value_at levels) nodes bytes
unfolding value_at shape_at rest_behind
at_ref levels nodes bytes = refl

at_address : (levels : ℕ) (nodes : List Node) (bytes : List ℕ) → value_at (suc levels) nodes (64 ∷ bytes) ≡ address_at levels nodes bytes
unfolding value_at shape_at rest_behind
at_address levels nodes bytes = refl

tuple_one : (levels : ℕ) (v : Value) → IsValue levels v → Again levels v → Again (suc levels) (tuple (value v no_values))
tuple_one levels v is again nodes rest closed =
    ap (value_at (suc levels) nodes) (tuple_one_text (literal_text v) rest) ∙ at_paren levels nodes (literal_text v ++ 44 ∷ 41 ∷ rest) ∙ tuple_one_at levels v is again nodes rest

tuple_many : (levels : ℕ) (v w : Value) (vs : Values) → IsValue levels v → IsValue levels w → Again levels v → Again levels w → MoreAgain levels vs → Again (suc levels) (tuple (value v (value w vs)))
tuple_many levels v w vs is_v is_w again_v again_w later nodes rest closed =
    ap (value_at (suc levels) nodes) (tuple_regroup (literal_text v) (literal_text w) (more_text vs) rest)
    ∙ at_paren levels nodes (literal_text v ++ 44 ∷ (literal_text w ++ (more_text vs ++ 41 ∷ rest)))
    ∙ tuple_many_at levels v w vs is_v is_w again_v again_w later nodes rest

list_none : (levels : ℕ) → Again (suc levels) (list no_values)
unfolding value_at shape_at rest_behind list_at
list_none levels nodes rest closed = refl

list_many_at : (levels : ℕ) (v : Value) (vs : Values) → IsValue levels v → Again levels v → MoreAgain levels vs → (nodes : List Node) (rest : List ℕ)
    → list_at (value_at levels) nodes (literal_text v ++ (more_text vs ++ 93 ∷ rest)) ≡ Some (with_value nodes (list (value v vs)), form_of (list (value v vs)), rest)
unfolding list_at
list_many_at levels v vs is again later nodes rest =
    let end : rest_behind (codes "]") (93 ∷ rest) ≡ Some rest = behind_again (codes "]") rest in
    let ends : Ends (93 ∷ rest) = (refl, λ e. absurd (omega (arith, e))) in
    rw (
      (value_opens levels v is).square (more_text vs ++ 93 ∷ rest),
      one_item levels v again nodes [] (more_text vs ++ 93 ∷ rest) (more_closed vs (93 ∷ rest) ends),
      items_again levels vs later (with_value nodes v) (last_of (with_value nodes v) ∷ []) (93 ∷ rest) ends,
      end,
    ) refl

list_many : (levels : ℕ) (v : Value) (vs : Values) → IsValue levels v → Again levels v → MoreAgain levels vs → Again (suc levels) (list (value v vs))
list_many levels v vs is again later nodes rest closed =
    ap (value_at (suc levels) nodes) (list_regroup 91 (literal_text v) (more_text vs) 93 rest) ∙ at_square levels nodes (literal_text v ++ (more_text vs ++ 93 ∷ rest))
    ∙ list_many_at levels v vs is again later nodes rest

dict_none : (levels : ℕ) → Again (suc levels) (dict no_pairs)
unfolding value_at shape_at rest_behind dict_at
dict_none levels nodes rest closed = refl

dict_many_at : (levels : ℕ) (k v : Value) (ps : Pairs) → IsValue levels k → Again levels k → Again levels v → PairsAgain levels ps → (nodes : List Node) (rest : List ℕ)
    → dict_at (value_at levels) nodes (literal_text k ++ 58 ∷ (literal_text v ++ (more_pairs ps ++ 125 ∷ rest))) ≡ Some (with_value nodes (dict (pair k v ps)), form_of (dict (pair k v ps)), rest)
unfolding dict_at
dict_many_at levels k v ps is again_k again_v later nodes rest =
    let end : rest_behind (codes "}") (125 ∷ rest) ≡ Some rest = behind_again (codes "}") rest in
    let ends : Ends (125 ∷ rest) = (refl, λ e. absurd (omega (arith, e))) in
    let named : ℕ × ℕ = (last_of (with_value nodes k), last_of (with_value (with_value nodes k) v)) in
    rw (
      (value_opens levels k is).brace (58 ∷ (literal_text v ++ (more_pairs ps ++ 125 ∷ rest))),
      one_pair levels k v again_k again_v nodes [] (more_pairs ps ++ 125 ∷ rest) (more_pairs_closed ps (125 ∷ rest) ends),
      pairs_again levels ps later (with_value (with_value nodes k) v) (named ∷ []) (125 ∷ rest) ends,
      end,
    ) refl

dict_many : (levels : ℕ) (k v : Value) (ps : Pairs) → IsValue levels k → Again levels k → Again levels v → PairsAgain levels ps → Again (suc levels) (dict (pair k v ps))
dict_many levels k v ps is again_k again_v later nodes rest closed =
    ap (value_at (suc levels) nodes) (dict_regroup (literal_text k) (literal_text v) (more_pairs ps) rest) ∙ at_brace levels nodes (literal_text k ++ 58 ∷ (literal_text v ++ (more_pairs ps ++ 125 ∷ rest)))
    ∙ dict_many_at levels k v ps is again_k again_v later nodes rest

-- ---- references

long_at : (levels : ℕ) (v : Value) → Again levels v → is_some (short_of v) ≡ false → (nodes : List Node) (rest : List ℕ)
    → reference_at (value_at levels) nodes (literal_text v ++ 41 ∷ rest) ≡ Some (with_value nodes (reference v), plain_form, rest)
unfolding reference_at
long_at levels v again long nodes rest =
    let end : rest_behind (codes ")") (41 ∷ rest) ≡ Some rest = behind_again (codes ")") rest in
    rw (again nodes (41 ∷ rest) refl, end, long) refl

long_again : (levels : ℕ) (v : Value) → Again levels v → is_some (short_of v) ≡ false → Again (suc levels) (reference v)
long_again levels v again long nodes rest closed =
    ap (λ (t : List ℕ). value_at (suc levels) nodes (t ++ rest)) (long_reference (short_of v) (literal_text v) long)
    ∙ ap (λ (t : List ℕ). value_at (suc levels) nodes (codes "ref(" ++ t)) (append_assoc (literal_text v) (41 ∷ []) rest)
    ∙ at_ref levels nodes (literal_text v ++ 41 ∷ rest) ∙ long_at levels v again long nodes rest

not_angle : (rest : List ℕ) → Closed rest → rest_behind (codes "<") rest ≡ None
unfolding rest_behind
not_angle [] h = refl
not_angle (b ∷ rest) h =
    let apart : eqb b 60 ≡ false = grind (arith, nat_tests) in
    rw apart refl

deep_one : (levels : ℕ) (v : Value) → IsValue levels v → ltb levels 1 ≡ false
deep_one zero v h = absurd h
deep_one (suc levels) v h = le-ltb (suc levels) 1 (omega arith)

address_again : (levels : ℕ) (oid : List ℕ) → IsValue levels (leaf (kinds.Bytes oid)) → AreAllSmall oid → eqb (length oid) 8 ≡ true → (nodes : List Node) (rest : List ℕ) → Closed rest
    → address_at levels nodes (hex_text oid ++ rest) ≡ Some (with_value nodes (reference (leaf (kinds.Bytes oid))), plain_form, rest)
unfolding address_at
address_again levels oid is are size nodes rest closed =
    rw (counted_again is_float_size oid rest are size closed, not_angle rest closed, deep_one levels (leaf (kinds.Bytes oid)) is) refl

short_leaf : (levels : ℕ) (oid : List ℕ) → IsValue levels (leaf (kinds.Bytes oid)) → AreAllSmall oid → eqb (length oid) 8 ≡ true → Again (suc levels) (reference (leaf (kinds.Bytes oid)))
short_leaf levels oid is are size nodes rest closed =
    ap (λ (t : List ℕ). value_at (suc levels) nodes (t ++ rest)) (address_text oid size) ∙ at_address levels nodes (hex_text oid ++ rest)
    ∙ address_again levels oid is are size nodes rest closed

deep_two : (levels : ℕ) (v : Value) (vs : Values) → IsValue levels (tuple (value v vs)) → ltb levels 2 ≡ false
deep_two zero v vs h = absurd h
deep_two (suc zero) v vs h = absurd h.0
deep_two (suc (suc levels)) v vs h = le-ltb (suc (suc levels)) 2 (omega arith)

class_at : (levels : ℕ) (oid first second : List ℕ) → ltb levels 2 ≡ false → AreAllSmall oid → eqb (length oid) 8 ≡ true → IsLeaf (kinds.Global first second) → (nodes : List Node) (rest : List ℕ)
    → address_at levels nodes (hex_text oid ++ (global_text first second ++ rest))
    ≡ Some (with_value nodes (reference (tuple (value (leaf (kinds.Bytes oid)) (value (leaf (kinds.Global first second)) no_values)))), plain_form, rest)
unfolding address_at
class_at levels oid first second deep are size is nodes rest =
    let body : List ℕ = (flat_map name_byte_text first ++ 58 ∷ (flat_map name_byte_text second ++ 62 ∷ [])) ++ rest in
    let angle : rest_behind (codes "<") (60 ∷ body) ≡ Some body = behind_again (codes "<") body in
    rw (counted_before is_float_size oid body are size, angle, deep, global_again first second rest is) refl

short_class : (levels : ℕ) (oid first second : List ℕ) → IsValue levels (tuple (value (leaf (kinds.Bytes oid)) (value (leaf (kinds.Global first second)) no_values)))
    → AreAllSmall oid → eqb (length oid) 8 ≡ true → IsLeaf (kinds.Global first second) → Again (suc levels) (reference (tuple (value (leaf (kinds.Bytes oid)) (value (leaf (kinds.Global first second)) no_values))))
short_class levels oid first second deep are size is nodes rest closed =
    ap (λ (t : List ℕ). value_at (suc levels) nodes (t ++ rest)) (class_text oid first second size)
    ∙ ap (λ (t : List ℕ). value_at (suc levels) nodes (64 ∷ t)) (append_assoc (hex_text oid) (global_text first second) rest)
    ∙ at_address levels nodes (hex_text oid ++ (global_text first second ++ rest))
    ∙ class_at levels oid first second (deep_two levels (leaf (kinds.Bytes oid)) (value (leaf (kinds.Global first second)) no_values) deep) are size is nodes rest

-- which values are an oid, and which are a global
pub record IsOid (v : Value) (oid : List ℕ) : Type 0 where
  pub is : v ≡ leaf (kinds.Bytes oid)
  pub size : eqb (length oid) 8 ≡ true

oid_node : (node : Node) (oid : List ℕ) → leaf_oid node ≡ Some oid → IsOid (leaf node) oid
oid_node (kinds.Bytes bytes) oid e = by_test (eqb (length bytes) 8) refl e
  where
    by_test : (t : Bool) → eqb (length bytes) 8 ≡ t → cond t (Some bytes) None ≡ Some oid → IsOid (leaf (kinds.Bytes bytes)) oid
    by_test true size e1 = subst (IsOid (leaf (kinds.Bytes bytes))) (same_Some bytes oid e1) (record { is = refl; size = size })
    by_test false size e1 = absurd cc
oid_node kinds.None oid e = absurd cc
oid_node (kinds.Bool b) oid e = absurd cc
oid_node (kinds.Number n) oid e = absurd cc
oid_node (kinds.Wide bytes) oid e = absurd cc
oid_node (kinds.Float bytes) oid e = absurd cc
oid_node (kinds.OldText bytes) oid e = absurd cc
oid_node (kinds.Text bytes) oid e = absurd cc
oid_node (kinds.Tuple items) oid e = absurd cc
oid_node (kinds.List items) oid e = absurd cc
oid_node (kinds.Dict items) oid e = absurd cc
oid_node (kinds.Global a b) oid e = absurd cc
oid_node (kinds.Reference id) oid e = absurd cc
oid_node (kinds.Object a b c d) oid e = absurd cc

oid_value : (v : Value) (oid : List ℕ) → oid_of_value v ≡ Some oid → IsOid v oid
oid_value (leaf node) oid e = oid_node node oid e
oid_value (tuple vs) oid e = absurd cc
oid_value (list vs) oid e = absurd cc
oid_value (dict ps) oid e = absurd cc
oid_value (reference v) oid e = absurd cc

pub record IsClass (v : Value) : Type 0 where
  pub first : List ℕ
  pub second : List ℕ
  pub is : v ≡ leaf (kinds.Global first second)

class_node : (node : Node) (text : List ℕ) → leaf_global node ≡ Some text → IsClass (leaf node)
class_node (kinds.Global a b) text e = record { first = a; second = b; is = refl }
class_node kinds.None text e = absurd cc
class_node (kinds.Bool b) text e = absurd cc
class_node (kinds.Number n) text e = absurd cc
class_node (kinds.Wide bytes) text e = absurd cc
class_node (kinds.Float bytes) text e = absurd cc
class_node (kinds.Bytes bytes) text e = absurd cc
class_node (kinds.OldText bytes) text e = absurd cc
class_node (kinds.Text bytes) text e = absurd cc
class_node (kinds.Tuple items) text e = absurd cc
class_node (kinds.List items) text e = absurd cc
class_node (kinds.Dict items) text e = absurd cc
class_node (kinds.Reference id) text e = absurd cc
class_node (kinds.Object a b c d) text e = absurd cc

class_value : (v : Value) (text : List ℕ) → global_of_value v ≡ Some text → IsClass v
class_value (leaf node) text e = class_node node text e
class_value (tuple vs) text e = absurd cc
class_value (list vs) text e = absurd cc
class_value (dict ps) text e = absurd cc
class_value (reference v) text e = absurd cc

leaf_in : (levels : ℕ) (node : Node) → IsValue levels (leaf node) → IsLeaf node
leaf_in zero node h = absurd h
leaf_in (suc levels) node h = h

leaf_reference : (levels : ℕ) (node : Node) → IsValue levels (leaf node) → Again levels (leaf node) → Again (suc levels) (reference (leaf node))
leaf_reference levels node is again = by_short (leaf_oid node) refl
  where
    by_short : (o : Option (List ℕ)) → leaf_oid node ≡ o → Again (suc levels) (reference (leaf node))
    by_short None e = long_again levels (leaf node) again (ap (λ (o : Option (List ℕ)). is_some (digits_of o)) e)
    by_short (Some oid) e =
        let t = oid_node node oid e in
        let held = subst (IsValue levels) t.is is in
        subst (λ (v : Value). Again (suc levels) (reference v)) (sym t.is) (short_leaf levels oid held (leaf_in levels (kinds.Bytes oid) held).0 t.size)

pair_reference : (levels : ℕ) (a b : Value) → IsValue levels (tuple (value a (value b no_values))) → Again levels (tuple (value a (value b no_values)))
    → Again (suc levels) (reference (tuple (value a (value b no_values))))
pair_reference levels a b is again = by_parts (oid_of_value a) (global_of_value b) refl refl
  where
    long : with_global (oid_of_value a) (global_of_value b) ≡ None → Again (suc levels) (reference (tuple (value a (value b no_values))))
    long e = long_again levels (tuple (value a (value b no_values))) again (ap (λ (o : Option (List ℕ)). is_some o) e)

    inner : (n : ℕ) (x y : Value) → IsValue n (tuple (value x (value y no_values))) → (oid first second : List ℕ) → x ≡ leaf (kinds.Bytes oid) → y ≡ leaf (kinds.Global first second)
        → AreAllSmall oid × IsLeaf (kinds.Global first second)
    inner zero x y h oid first second e f = absurd h
    inner (suc n) x y h oid first second e f = ((leaf_in n (kinds.Bytes oid) (subst (IsValue n) e h.0)).0, leaf_in n (kinds.Global first second) (subst (IsValue n) f h.1.0))

    by_parts : (o g : Option (List ℕ)) → oid_of_value a ≡ o → global_of_value b ≡ g → Again (suc levels) (reference (tuple (value a (value b no_values))))
    by_parts None g e f = long (ap (λ (o : Option (List ℕ)). with_global o (global_of_value b)) e)
    by_parts (Some oid) None e f = long (ap (λ (o : Option (List ℕ)). with_global o (global_of_value b)) e ∙ ap (with_global (Some oid)) f)
    by_parts (Some oid) (Some text) e f =
        let t = oid_value a oid e in
        let c = class_value b text f in
        let held = inner levels a b is oid c.first c.second t.is c.is in
        let is-then : IsValue levels (tuple (value (leaf (kinds.Bytes oid)) (value (leaf (kinds.Global c.first c.second)) no_values))) =
        subst (λ (y : Value). IsValue levels (tuple (value (leaf (kinds.Bytes oid)) (value y no_values)))) c.is (subst (λ (x : Value). IsValue levels (tuple (value x (value b no_values)))) t.is is) in
        subst (λ (x : Value). Again (suc levels) (reference (tuple (value x (value b no_values))))) (sym t.is)
        (subst (λ (y : Value). Again (suc levels) (reference (tuple (value (leaf (kinds.Bytes oid)) (value y no_values))))) (sym c.is)
        (short_class levels oid c.first c.second is-then held.0 t.size held.1))

reference_again : (levels : ℕ) (v : Value) → IsValue levels v → Again levels v → Again (suc levels) (reference v)
reference_again levels (leaf node) is again = leaf_reference levels node is again
reference_again levels (tuple no_values) is again = long_again levels (tuple no_values) again refl
reference_again levels (tuple (value a no_values)) is again = long_again levels (tuple (value a no_values)) again refl
reference_again levels (tuple (value a (value b no_values))) is again = pair_reference levels a b is again
reference_again levels (tuple (value a (value b (value c vs)))) is again = long_again levels (tuple (value a (value b (value c vs)))) again refl
reference_again levels (list vs) is again = long_again levels (list vs) again refl
reference_again levels (dict ps) is again = long_again levels (dict ps) again refl
reference_again levels (reference v) is again = long_again levels (reference v) again refl

-- ---- all values

mutual
  pub value_again : (v : Value) (levels : ℕ) → IsValue levels v → Again levels v
  value_again v zero h = absurd h
  value_again (leaf node) (suc levels) h = leaf_value levels node h
  value_again (tuple no_values) (suc levels) h = tuple_none levels
  value_again (tuple (value v no_values)) (suc levels) h = tuple_one levels v h.0 (value_again v levels h.0)
  value_again (tuple (value v (value w vs))) (suc levels) h = tuple_many levels v w vs h.0 h.1.0 (value_again v levels h.0) (value_again w levels h.1.0) (values_again vs levels h.1.1)
  value_again (list no_values) (suc levels) h = list_none levels
  value_again (list (value v vs)) (suc levels) h = list_many levels v vs h.0 (value_again v levels h.0) (values_again vs levels h.1)
  value_again (dict no_pairs) (suc levels) h = dict_none levels
  value_again (dict (pair k v ps)) (suc levels) h = dict_many levels k v ps h.0 (value_again k levels h.0) (value_again v levels h.1) (all_pairs_again ps levels h.2)
  value_again (reference v) (suc levels) h = reference_again levels v h (value_again v levels h)

  pub values_again : (vs : Values) (levels : ℕ) → AreValues levels vs → MoreAgain levels vs
  values_again no_values levels h = none_again levels
  values_again (value v vs) levels h = more_again levels v vs (value_again v levels h.0) (values_again vs levels h.1)

  pub all_pairs_again : (ps : Pairs) (levels : ℕ) → ArePairs levels ps → PairsAgain levels ps
  all_pairs_again no_pairs levels h = no_pairs_again levels
  all_pairs_again (pair k v ps) levels h = more_pairs_again levels k v ps (value_again k levels h.0) (value_again v levels h.1) (all_pairs_again ps levels h.2)

-- ---- whole literals

pub literal_again : (levels : ℕ) (v : Value) → IsValue levels v → literal_at levels (literal_text v) ≡ Some (with_value [] v)
unfolding literal_at
literal_again levels v is =
    let read : value_at levels [] (literal_text v) ≡ Some (with_value [] v, form_of v, []) = ap (value_at levels []) (sym (append-nil (literal_text v))) ∙ value_again v levels is [] [] tt in
    rw read refl

pub record TakesLiteral (levels : ℕ) (bytes : List ℕ) (nodes : List Node) : Type 0 where
  pub tree : Value
  pub is : IsValue levels tree
  pub text : bytes ≡ literal_text tree
  pub nodes_are : nodes ≡ with_value [] tree

nothing_left : (rest : List ℕ) → eqb (length rest) 0 ≡ true → rest ≡ []
nothing_left [] e = refl
nothing_left (b ∷ rest) e = absurd (omega (arith, eqb-true (length (b ∷ rest)) 0 e))

pub literal_takes : (levels : ℕ) (bytes : List ℕ) (nodes : List Node) → literal_at levels bytes ≡ Some nodes → TakesLiteral levels bytes nodes
unfolding literal_at
literal_takes levels bytes nodes e =
    from_bind (value_at levels [] bytes) _ nodes e (λ read at e1.
    let p = cond_some (eqb (length read.2) 0) read.0 nodes e1 in
    let t = value_takes levels [] bytes read at in
    let end = nothing_left read.2 p.0 in
    record { tree = t.tree; is = t.is; text = t.text ∙ ap (λ (x : List ℕ). literal_text t.tree ++ x) end ∙ append-nil (literal_text t.tree); nodes_are = sym p.1 ∙ t.nodes_are })
