-- The laws of values: what is read is spelled so, and what is spelled so is read.
use Rattle.std.proofs.Common.{◌≡◌, ℕ, zero, suc, ◌≤◌, Bool, true, false, cond, ◌&&◌, eqb, ltb, List, [], ◌∷◌, ◌++◌, length, Option, Some, None, is_some, refl, sym, ap, subst, ◌∙◌, append_assoc, append-nil, arith}
use Rattle.std.specs.Prelude.{codes}
use Rattle.std.proofs.lemmas.Bool.{eqb-true, ne_eqb}
use Rattle.std.proofs.lemmas.Option.{same_Some}
use Rattle.std.proofs.lemmas.List.{length-append}
use Rattle.zb_ids.specs.Hex.{◌>>=◌, hex_text}
use Rattle.zb_ids.specs.HexLaws.{from_bind}
use Rattle.pickle_graph.specs.declared.node.Node.{Node}
use Rattle.pickle_graph.specs.declared.node.Node.TheVariants as kinds
use Rattle.literal_reading.specs.declared.form.Form.{Form}
use Rattle.zb_literals.specs.Texts.{global_text}
use Rattle.zb_literals.specs.Values.{Value, leaf, tuple, list, dict, reference, Values, no_values, value, Pairs, no_pairs, pair, oid_of_value, global_of_value, short_of, leaf_oid, digits_of, with_global, reference_text, literal_text, more_text, more_pairs, IsLeaf, IsValue, AreValues, ArePairs, AreAllSmall}
use Rattle.zb_literals.specs.Graphs.{last_of, with_value, with_values, with_pairs, named_values, named_pairs}
use Rattle.literal_reading.specs.Reading.{rest_behind, begins_number, counted_at, is_float_size, leaf_at, leaf_form, plain_form, pair_form, leaf_found, item_at, pair_at, values_at, pairs_at, many_at, tuple_rest_at, tuple_at, list_at, dict_at, reference_at, address_at, shape_at, value_at, global_at, ReadPiece}
use Rattle.literal_reading.proofs.Steps.{from_if, behind_takes, cond_false}
use Rattle.literal_reading.proofs.NumberLaws.{counted_takes}
use Rattle.literal_reading.proofs.LeafLaws.{leaf_takes, global_takes}

-- what a value can be in a reference
abbrev pub form_of : Value → Form
form_of v = record { oid = is_some (oid_of_value v); global = is_some (global_of_value v); short = is_some (short_of v) }

abbrev pub form : Bool → Bool → Bool → Form
form oid global short = record { oid = oid; global = global; short = short }

-- the value that was read
pub record Takes (levels : ℕ) (nodes : List Node) (bytes : List ℕ) (read : List Node × Form × List ℕ) : Type 0 where
  pub tree : Value
  pub is : IsValue levels tree
  pub text : bytes ≡ literal_text tree ++ read.2
  pub nodes_are : read.0 ≡ with_value nodes tree
  pub form_is : read.1 ≡ form_of tree

abbrev pub PieceTakes : ℕ → ReadPiece → Type 0
PieceTakes levels piece = (nodes : List Node) (bytes : List ℕ) (read : List Node × Form × List ℕ) → piece nodes bytes ≡ Some read → Takes levels nodes bytes read

pub leaf_forms : (node : Node) → leaf_form node ≡ form_of (leaf node)
leaf_forms kinds.None = refl
leaf_forms (kinds.Bool b) = refl
leaf_forms (kinds.Number n) = refl
leaf_forms (kinds.Wide bytes) = refl
leaf_forms (kinds.Float bytes) = refl
leaf_forms (kinds.Bytes bytes) = by_test (eqb (length bytes) 8)
  where
    by_test : (t : Bool) → form t false t ≡ form (is_some (cond t (Some bytes) None)) false (is_some (digits_of (cond t (Some bytes) None)))
    by_test true = refl
    by_test false = refl
leaf_forms (kinds.OldText bytes) = refl
leaf_forms (kinds.Text bytes) = refl
leaf_forms (kinds.Tuple items) = refl
leaf_forms (kinds.List items) = refl
leaf_forms (kinds.Dict pairs) = refl
leaf_forms (kinds.Global a b) = refl
leaf_forms (kinds.Reference id) = refl
leaf_forms (kinds.Object a b c d) = refl

found_takes : (levels : ℕ) (nodes : List Node) (bytes : List ℕ) (read : List Node × Form × List ℕ) → leaf_found nodes bytes ≡ Some read → Takes (suc levels) nodes bytes read
unfolding leaf_found
found_takes levels nodes bytes read e =
    from_bind (leaf_at bytes) _ read e (λ one at is.
    let t = leaf_takes bytes one at in
    subst (Takes (suc levels) nodes bytes) (same_Some (nodes ++ one.0 ∷ [], leaf_form one.0, one.1) read is)
    (record { tree = leaf one.0; is = t.is; text = t.text; nodes_are = refl; form_is = leaf_forms one.0 }))

-- ---- items

pub record TakesItems (levels : ℕ) (nodes : List Node) (items : List ℕ) (spelled : Values → List ℕ) (bytes : List ℕ) (read : List Node × List ℕ × List ℕ) : Type 0 where
  pub trees : Values
  pub are : AreValues levels trees
  pub text : bytes ≡ spelled trees ++ read.2
  pub nodes_are : read.0 ≡ with_values nodes trees
  pub named : read.1 ≡ items ++ named_values nodes trees

-- one item was read
pub record TakesItem (levels : ℕ) (nodes : List Node) (items : List ℕ) (bytes : List ℕ) (read : List Node × List ℕ × List ℕ) : Type 0 where
  pub tree : Value
  pub is : IsValue levels tree
  pub text : bytes ≡ literal_text tree ++ read.2
  pub nodes_are : read.0 ≡ with_value nodes tree
  pub named : read.1 ≡ items ++ last_of (with_value nodes tree) ∷ []

item_takes : (levels : ℕ) (piece : ReadPiece) → PieceTakes levels piece → (nodes : List Node) (items bytes : List ℕ) (read : List Node × List ℕ × List ℕ)
    → item_at piece nodes items bytes ≡ Some read → TakesItem levels nodes items bytes read
unfolding item_at
item_takes levels piece takes nodes items bytes read e =
    from_bind (piece nodes bytes) _ read e (λ one at is.
    let t = takes nodes bytes one at in
    subst (TakesItem levels nodes items bytes) (same_Some (one.0, items ++ last_of one.0 ∷ [], one.2) read is)
    (record { tree = t.tree; is = t.is; text = t.text; nodes_are = t.nodes_are; named = ap (λ (ns : List Node). items ++ last_of ns ∷ []) t.nodes_are }))

-- an item was read, and then more
then_more : (levels : ℕ) (nodes : List Node) (items bytes rest : List ℕ) (one read : List Node × List ℕ × List ℕ) → bytes ≡ 44 ∷ rest
    → TakesItem levels nodes items rest one → TakesItems levels one.0 one.1 more_text one.2 read → TakesItems levels nodes items more_text bytes read
then_more levels nodes items bytes rest one read comma t m = record {
  trees = value t.tree m.trees;
  are = (t.is, m.are);
  text = comma ∙ ap (λ (x : List ℕ). 44 ∷ x) (t.text ∙ ap (λ (x : List ℕ). literal_text t.tree ++ x) m.text ∙ sym (append_assoc (literal_text t.tree) (more_text m.trees) read.2));
  nodes_are = m.nodes_are ∙ ap (λ (ns : List Node). with_values ns m.trees) t.nodes_are;
  named = m.named ∙ ap (λ (x : List ℕ). x ++ named_values one.0 m.trees) t.named
      ∙ append_assoc items (last_of (with_value nodes t.tree) ∷ []) (named_values one.0 m.trees)
      ∙ ap (λ (ns : List Node). items ++ last_of (with_value nodes t.tree) ∷ named_values ns m.trees) t.nodes_are;
}

many_takes : (levels : ℕ) (piece : ReadPiece) → PieceTakes levels piece → (n : ℕ) (nodes : List Node) (items bytes : List ℕ) (read : List Node × List ℕ × List ℕ)
    → many_at (item_at piece) n nodes items bytes ≡ Some read → TakesItems levels nodes items more_text bytes read
many_takes levels piece takes zero nodes items bytes read e = absurd cc
many_takes levels piece takes (suc n) nodes items bytes read e =
    from_if (rest_behind (codes ",") bytes) (λ rest. item_at piece nodes items rest >>= λ more. many_at (item_at piece) n more.0 more.1 more.2) (Some (nodes, items, bytes)) read e
    (λ rest at_rest e1.
    from_bind (item_at piece nodes items rest) (λ more. many_at (item_at piece) n more.0 more.1 more.2) read e1 (λ one at e2.
    then_more levels nodes items bytes rest one read (behind_takes (codes ",") bytes rest at_rest) (item_takes levels piece takes nodes items rest one at) (many_takes levels piece takes n one.0 one.1 one.2 read e2)))
    (λ is. subst (TakesItems levels nodes items more_text bytes) (same_Some (nodes, items, bytes) read is)
    (record { trees = no_values; are = tt; text = refl; nodes_are = refl; named = sym (append-nil items) }))

pub items_take : (levels : ℕ) (piece : ReadPiece) → PieceTakes levels piece → (nodes : List Node) (items bytes : List ℕ) (read : List Node × List ℕ × List ℕ)
    → values_at piece nodes items bytes ≡ Some read → TakesItems levels nodes items more_text bytes read
unfolding values_at
items_take levels piece takes nodes items bytes read e = many_takes levels piece takes (suc (length bytes)) nodes items bytes read e

-- ---- keys and values

pub record TakesPairs (levels : ℕ) (nodes : List Node) (items : List (ℕ × ℕ)) (bytes : List ℕ) (read : List Node × List (ℕ × ℕ) × List ℕ) : Type 0 where
  pub trees : Pairs
  pub are : ArePairs levels trees
  pub text : bytes ≡ more_pairs trees ++ read.2
  pub nodes_are : read.0 ≡ with_pairs nodes trees
  pub named : read.1 ≡ items ++ named_pairs nodes trees

pub record TakesPair (levels : ℕ) (nodes : List Node) (items : List (ℕ × ℕ)) (bytes : List ℕ) (read : List Node × List (ℕ × ℕ) × List ℕ) : Type 0 where
  pub key : Value
  pub held : Value
  pub is_key : IsValue levels key
  pub is_held : IsValue levels held
  pub text : bytes ≡ literal_text key ++ 58 ∷ (literal_text held ++ read.2)
  pub nodes_are : read.0 ≡ with_value (with_value nodes key) held
  pub named : read.1 ≡ items ++ (last_of (with_value nodes key), last_of (with_value (with_value nodes key) held)) ∷ []

pair_takes : (levels : ℕ) (piece : ReadPiece) → PieceTakes levels piece → (nodes : List Node) (items : List (ℕ × ℕ)) (bytes : List ℕ) (read : List Node × List (ℕ × ℕ) × List ℕ)
    → pair_at piece nodes items bytes ≡ Some read → TakesPair levels nodes items bytes read
unfolding pair_at
pair_takes levels piece takes nodes items bytes read e =
    from_bind (piece nodes bytes) _ read e (λ key at_key e1.
    from_bind (rest_behind (codes ":") key.2) _ read e1 (λ rest at_rest e2.
    from_bind (piece key.0 rest) _ read e2 (λ one at_one is.
    let k = takes nodes bytes key at_key in
    let v = takes key.0 rest one at_one in
    let nodes_then : one.0 ≡ with_value (with_value nodes k.tree) v.tree = v.nodes_are ∙ ap (λ (ns : List Node). with_value ns v.tree) k.nodes_are in
    subst (TakesPair levels nodes items bytes) (same_Some (one.0, items ++ (last_of key.0, last_of one.0) ∷ [], one.2) read is)
    (record {
      key = k.tree;
      held = v.tree;
      is_key = k.is;
      is_held = v.is;
      text = k.text ∙ ap (λ (x : List ℕ). literal_text k.tree ++ x) (behind_takes (codes ":") key.2 rest at_rest ∙ ap (λ (x : List ℕ). 58 ∷ x) v.text);
      nodes_are = nodes_then;
      named = ap (λ (ns : List Node). items ++ (last_of ns, last_of one.0) ∷ []) k.nodes_are ∙ ap (λ (ns : List Node). items ++ (last_of (with_value nodes k.tree), last_of ns) ∷ []) nodes_then;
    }))))

pairs_then_more : (levels : ℕ) (nodes : List Node) (items : List (ℕ × ℕ)) (bytes rest : List ℕ) (one read : List Node × List (ℕ × ℕ) × List ℕ) → bytes ≡ 44 ∷ rest
    → TakesPair levels nodes items rest one → TakesPairs levels one.0 one.1 one.2 read → TakesPairs levels nodes items bytes read
pairs_then_more levels nodes items bytes rest one read comma t m = record {
  trees = pair t.key t.held m.trees;
  are = (t.is_key, t.is_held, m.are);
  text = comma ∙ ap (λ (x : List ℕ). 44 ∷ x) (t.text ∙ ap (λ (x : List ℕ). literal_text t.key ++ 58 ∷ (literal_text t.held ++ x)) m.text
      ∙ ap (λ (x : List ℕ). literal_text t.key ++ 58 ∷ x) (sym (append_assoc (literal_text t.held) (more_pairs m.trees) read.2))
      ∙ sym (append_assoc (literal_text t.key) (58 ∷ (literal_text t.held ++ more_pairs m.trees)) read.2));
  nodes_are = m.nodes_are ∙ ap (λ (ns : List Node). with_pairs ns m.trees) t.nodes_are;
  named = m.named ∙ ap (λ (x : List (ℕ × ℕ)). x ++ named_pairs one.0 m.trees) t.named
      ∙ append_assoc items ((last_of (with_value nodes t.key), last_of (with_value (with_value nodes t.key) t.held)) ∷ []) (named_pairs one.0 m.trees)
      ∙ ap (λ (ns : List Node). items ++ (last_of (with_value nodes t.key), last_of (with_value (with_value nodes t.key) t.held)) ∷ named_pairs ns m.trees) t.nodes_are;
}

many_pairs_take : (levels : ℕ) (piece : ReadPiece) → PieceTakes levels piece → (n : ℕ) (nodes : List Node) (items : List (ℕ × ℕ)) (bytes : List ℕ) (read : List Node × List (ℕ × ℕ) × List ℕ)
    → many_at (pair_at piece) n nodes items bytes ≡ Some read → TakesPairs levels nodes items bytes read
many_pairs_take levels piece takes zero nodes items bytes read e = absurd cc
many_pairs_take levels piece takes (suc n) nodes items bytes read e =
    from_if (rest_behind (codes ",") bytes) (λ rest. pair_at piece nodes items rest >>= λ more. many_at (pair_at piece) n more.0 more.1 more.2) (Some (nodes, items, bytes)) read e
    (λ rest at_rest e1.
    from_bind (pair_at piece nodes items rest) (λ more. many_at (pair_at piece) n more.0 more.1 more.2) read e1 (λ one at e2.
    pairs_then_more levels nodes items bytes rest one read (behind_takes (codes ",") bytes rest at_rest) (pair_takes levels piece takes nodes items rest one at) (many_pairs_take levels piece takes n one.0 one.1 one.2 read e2)))
    (λ is. subst (TakesPairs levels nodes items bytes) (same_Some (nodes, items, bytes) read is)
    (record { trees = no_pairs; are = tt; text = refl; nodes_are = refl; named = sym (append-nil items) }))

pub pairs_take : (levels : ℕ) (piece : ReadPiece) → PieceTakes levels piece → (nodes : List Node) (items : List (ℕ × ℕ)) (bytes : List ℕ) (read : List Node × List (ℕ × ℕ) × List ℕ)
    → pairs_at piece nodes items bytes ≡ Some read → TakesPairs levels nodes items bytes read
unfolding pairs_at
pairs_take levels piece takes nodes items bytes read e = many_pairs_take levels piece takes (suc (length bytes)) nodes items bytes read e

-- ---- shapes

abbrev pub two_form : ℕ → Form → Form
two_form count form = cond (eqb count 2) form plain_form

pair_short_form : (v w : Value) → pair_form (form_of v) (form_of w) ≡ form_of (tuple (value v (value w no_values)))
pair_short_form v w = by_parts (oid_of_value v) (global_of_value w)
  where
    by_parts : (oid class : Option (List ℕ)) → form false false (is_some oid && is_some class) ≡ form false false (is_some (with_global oid class))
    by_parts (Some a) (Some b) = refl
    by_parts (Some a) None = refl
    by_parts None (Some b) = refl
    by_parts None None = refl

abbrev pub is_none_left : Values → Bool
is_none_left no_values = true
is_none_left (value v vs) = false

pub tuple_regroup : (a b c rest : List ℕ) → (40 ∷ (a ++ 44 ∷ (b ++ (c ++ 41 ∷ [])))) ++ rest ≡ 40 ∷ (a ++ 44 ∷ (b ++ (c ++ 41 ∷ rest)))
tuple_regroup a b c rest = ap (λ (x : List ℕ). 40 ∷ x) (append_assoc a (44 ∷ (b ++ (c ++ 41 ∷ []))) rest
    ∙ ap (λ (x : List ℕ). a ++ 44 ∷ x) (append_assoc b (c ++ 41 ∷ []) rest ∙ ap (λ (x : List ℕ). b ++ x) (append_assoc c (41 ∷ []) rest)))

pub list_regroup : (head : ℕ) (a b : List ℕ) (end : ℕ) (rest : List ℕ) → (head ∷ (a ++ (b ++ end ∷ []))) ++ rest ≡ head ∷ (a ++ (b ++ end ∷ rest))
list_regroup head a b end rest = ap (λ (x : List ℕ). head ∷ x) (append_assoc a (b ++ end ∷ []) rest ∙ ap (λ (x : List ℕ). a ++ x) (append_assoc b (end ∷ []) rest))

pub dict_regroup : (k v ps rest : List ℕ) → (123 ∷ (k ++ 58 ∷ (v ++ (ps ++ 125 ∷ [])))) ++ rest ≡ 123 ∷ (k ++ 58 ∷ (v ++ (ps ++ 125 ∷ rest)))
dict_regroup k v ps rest = ap (λ (x : List ℕ). 123 ∷ x) (append_assoc k (58 ∷ (v ++ (ps ++ 125 ∷ []))) rest
    ∙ ap (λ (x : List ℕ). k ++ 58 ∷ x) (append_assoc v (ps ++ 125 ∷ []) rest ∙ ap (λ (x : List ℕ). v ++ x) (append_assoc ps (125 ∷ []) rest)))

length_named : (nodes : List Node) (vs : Values) (a b : ℕ) → eqb (length (a ∷ b ∷ named_values nodes vs)) 2 ≡ is_none_left vs
length_named nodes no_values a b = refl
length_named nodes (value v vs) a b = ne_eqb _ 2 (λ e. absurd (omega (arith, e)))

-- what a tuple of two items and more can be in a reference
pub tuple_form : (nodes : List Node) (v w : Value) (vs : Values) (a b : ℕ)
    → two_form (length (a ∷ b ∷ named_values nodes vs)) (pair_form (form_of v) (form_of w)) ≡ form_of (tuple (value v (value w vs)))
tuple_form nodes v w no_values a b = pair_short_form v w
tuple_form nodes v w (value x vs) a b = rw (length_named nodes (value x vs) a b) refl

tuple_rest_takes : (levels : ℕ) (piece : ReadPiece) → PieceTakes levels piece → (start : List Node) (first : Value) → IsValue levels first
    → (nodes : List Node) (form : Form) (bytes : List ℕ) (read : List Node × Form × List ℕ)
    → nodes ≡ with_value start first → form ≡ form_of first → tuple_rest_at piece nodes form bytes ≡ Some read
    → Takes (suc levels) start (40 ∷ (literal_text first ++ 44 ∷ bytes)) read
unfolding tuple_rest_at
tuple_rest_takes levels piece takes start first is nodes form bytes read nodes_are form_is e =
    from_if (rest_behind (codes ")") bytes) (λ rest. Some (nodes ++ kinds.Tuple (last_of nodes ∷ []) ∷ [], plain_form, rest)) _ read e
    (λ rest at e1.
    subst (Takes (suc levels) start (40 ∷ (literal_text first ++ 44 ∷ bytes))) (same_Some (nodes ++ kinds.Tuple (last_of nodes ∷ []) ∷ [], plain_form, rest) read e1)
    (record {
      tree = tuple (value first no_values);
      is = (is, tt);
      text = ap (λ (x : List ℕ). 40 ∷ (literal_text first ++ 44 ∷ x)) (behind_takes (codes ")") bytes rest at) ∙ ap (λ (x : List ℕ). 40 ∷ x) (sym (append_assoc (literal_text first) (44 ∷ 41 ∷ []) rest));
      nodes_are = ap (λ (ns : List Node). ns ++ kinds.Tuple (last_of ns ∷ []) ∷ []) nodes_are;
      form_is = refl;
    }))
    (λ e1.
    from_bind (piece nodes bytes) _ read e1 (λ second at_second e2.
    from_bind (values_at piece second.0 (last_of nodes ∷ last_of second.0 ∷ []) second.2) _ read e2 (λ more at_more e3.
    from_bind (rest_behind (codes ")") more.2) _ read e3 (λ rest at_rest e4.
    let w = takes nodes bytes second at_second in
    let m = items_take levels piece takes second.0 (last_of nodes ∷ last_of second.0 ∷ []) second.2 more at_more in
    let second_nodes : second.0 ≡ with_value (with_value start first) w.tree = w.nodes_are ∙ ap (λ (ns : List Node). with_value ns w.tree) nodes_are in
    let items_are : more.1 ≡ named_values start (value first (value w.tree m.trees)) =
    m.named ∙ ap (λ (ns : List Node). last_of ns ∷ last_of second.0 ∷ named_values second.0 m.trees) nodes_are
    ∙ ap (λ (ns : List Node). last_of (with_value start first) ∷ last_of ns ∷ named_values ns m.trees) second_nodes in
    let all_nodes : more.0 ≡ with_values start (value first (value w.tree m.trees)) = m.nodes_are ∙ ap (λ (ns : List Node). with_values ns m.trees) second_nodes in
    let form_then : two_form (length more.1) (pair_form form second.1) ≡ form_of (tuple (value first (value w.tree m.trees))) =
    ap (λ (x : Form). two_form (length more.1) (pair_form x second.1)) form_is
    ∙ ap (λ (x : Form). two_form (length more.1) (pair_form (form_of first) x)) w.form_is
    ∙ ap (λ (x : List ℕ). two_form (length x) (pair_form (form_of first) (form_of w.tree))) items_are
    ∙ tuple_form (with_value (with_value start first) w.tree) first w.tree m.trees (last_of (with_value start first)) (last_of (with_value (with_value start first) w.tree)) in
    subst (Takes (suc levels) start (40 ∷ (literal_text first ++ 44 ∷ bytes)))
    (same_Some (more.0 ++ kinds.Tuple more.1 ∷ [], two_form (length more.1) (pair_form form second.1), rest) read e4)
    (record {
      tree = tuple (value first (value w.tree m.trees));
      is = (is, (w.is, m.are));
      text = ap (λ (x : List ℕ). 40 ∷ (literal_text first ++ 44 ∷ x))
          (w.text ∙ ap (λ (x : List ℕ). literal_text w.tree ++ x) (m.text ∙ ap (λ (x : List ℕ). more_text m.trees ++ x) (behind_takes (codes ")") more.2 rest at_rest)))
          ∙ sym (tuple_regroup (literal_text first) (literal_text w.tree) (more_text m.trees) rest);
      nodes_are = ap (λ (ns : List Node). ns ++ kinds.Tuple more.1 ∷ []) all_nodes ∙ ap (λ (xs : List ℕ). with_values start (value first (value w.tree m.trees)) ++ kinds.Tuple xs ∷ []) items_are;
      form_is = form_then;
    })))))

tuple_takes : (levels : ℕ) (piece : ReadPiece) → PieceTakes levels piece → (nodes : List Node) (bytes : List ℕ) (read : List Node × Form × List ℕ)
    → tuple_at piece nodes bytes ≡ Some read → Takes (suc levels) nodes (40 ∷ bytes) read
unfolding tuple_at
tuple_takes levels piece takes nodes bytes read e =
    from_if (rest_behind (codes ")") bytes) (λ rest. Some (nodes ++ kinds.Tuple [] ∷ [], plain_form, rest)) _ read e
    (λ rest at e1.
    subst (Takes (suc levels) nodes (40 ∷ bytes)) (same_Some (nodes ++ kinds.Tuple [] ∷ [], plain_form, rest) read e1)
    (record { tree = tuple no_values; is = tt; text = ap (λ (x : List ℕ). 40 ∷ x) (behind_takes (codes ")") bytes rest at); nodes_are = refl; form_is = refl }))
    (λ e1.
    from_bind (piece nodes bytes) _ read e1 (λ first at_first e2.
    from_bind (rest_behind (codes ",") first.2) _ read e2 (λ rest at_rest e3.
    let v = takes nodes bytes first at_first in
    let whole : bytes ≡ literal_text v.tree ++ 44 ∷ rest = v.text ∙ ap (λ (x : List ℕ). literal_text v.tree ++ x) (behind_takes (codes ",") first.2 rest at_rest) in
    subst (λ (x : List ℕ). Takes (suc levels) nodes (40 ∷ x) read) (sym whole) (tuple_rest_takes levels piece takes nodes v.tree v.is first.0 first.1 rest read v.nodes_are v.form_is e3))))

list_takes : (levels : ℕ) (piece : ReadPiece) → PieceTakes levels piece → (nodes : List Node) (bytes : List ℕ) (read : List Node × Form × List ℕ)
    → list_at piece nodes bytes ≡ Some read → Takes (suc levels) nodes (91 ∷ bytes) read
unfolding list_at
list_takes levels piece takes nodes bytes read e =
    from_if (rest_behind (codes "]") bytes) (λ rest. Some (nodes ++ kinds.List [] ∷ [], plain_form, rest)) _ read e
    (λ rest at e1.
    subst (Takes (suc levels) nodes (91 ∷ bytes)) (same_Some (nodes ++ kinds.List [] ∷ [], plain_form, rest) read e1)
    (record { tree = list no_values; is = tt; text = ap (λ (x : List ℕ). 91 ∷ x) (behind_takes (codes "]") bytes rest at); nodes_are = refl; form_is = refl }))
    (λ e1.
    from_bind (item_at piece nodes [] bytes) _ read e1 (λ first at_first e2.
    from_bind (values_at piece first.0 first.1 first.2) _ read e2 (λ more at_more e3.
    from_bind (rest_behind (codes "]") more.2) _ read e3 (λ rest at_rest e4.
    let v = item_takes levels piece takes nodes [] bytes first at_first in
    let m = items_take levels piece takes first.0 first.1 first.2 more at_more in
    let items_are : more.1 ≡ named_values nodes (value v.tree m.trees) =
    m.named ∙ ap (λ (x : List ℕ). x ++ named_values first.0 m.trees) v.named ∙ ap (λ (ns : List Node). last_of (with_value nodes v.tree) ∷ named_values ns m.trees) v.nodes_are in
    let all_nodes : more.0 ≡ with_values nodes (value v.tree m.trees) = m.nodes_are ∙ ap (λ (ns : List Node). with_values ns m.trees) v.nodes_are in
    subst (Takes (suc levels) nodes (91 ∷ bytes)) (same_Some (more.0 ++ kinds.List more.1 ∷ [], plain_form, rest) read e4)
    (record {
      tree = list (value v.tree m.trees);
      is = (v.is, m.are);
      text = ap (λ (x : List ℕ). 91 ∷ x) (v.text ∙ ap (λ (x : List ℕ). literal_text v.tree ++ x) (m.text ∙ ap (λ (x : List ℕ). more_text m.trees ++ x) (behind_takes (codes "]") more.2 rest at_rest)))
          ∙ sym (list_regroup 91 (literal_text v.tree) (more_text m.trees) 93 rest);
      nodes_are = ap (λ (ns : List Node). ns ++ kinds.List more.1 ∷ []) all_nodes ∙ ap (λ (xs : List ℕ). with_values nodes (value v.tree m.trees) ++ kinds.List xs ∷ []) items_are;
      form_is = refl;
    })))))

dict_takes : (levels : ℕ) (piece : ReadPiece) → PieceTakes levels piece → (nodes : List Node) (bytes : List ℕ) (read : List Node × Form × List ℕ)
    → dict_at piece nodes bytes ≡ Some read → Takes (suc levels) nodes (123 ∷ bytes) read
unfolding dict_at
dict_takes levels piece takes nodes bytes read e =
    from_if (rest_behind (codes "}") bytes) (λ rest. Some (nodes ++ kinds.Dict [] ∷ [], plain_form, rest)) _ read e
    (λ rest at e1.
    subst (Takes (suc levels) nodes (123 ∷ bytes)) (same_Some (nodes ++ kinds.Dict [] ∷ [], plain_form, rest) read e1)
    (record { tree = dict no_pairs; is = tt; text = ap (λ (x : List ℕ). 123 ∷ x) (behind_takes (codes "}") bytes rest at); nodes_are = refl; form_is = refl }))
    (λ e1.
    from_bind (pair_at piece nodes [] bytes) _ read e1 (λ first at_first e2.
    from_bind (pairs_at piece first.0 first.1 first.2) _ read e2 (λ more at_more e3.
    from_bind (rest_behind (codes "}") more.2) _ read e3 (λ rest at_rest e4.
    let v = pair_takes levels piece takes nodes [] bytes first at_first in
    let m = pairs_take levels piece takes first.0 first.1 first.2 more at_more in
    let items_are : more.1 ≡ named_pairs nodes (pair v.key v.held m.trees) =
    m.named ∙ ap (λ (x : List (ℕ × ℕ)). x ++ named_pairs first.0 m.trees) v.named
    ∙ ap (λ (ns : List Node). (last_of (with_value nodes v.key), last_of (with_value (with_value nodes v.key) v.held)) ∷ named_pairs ns m.trees) v.nodes_are in
    let all_nodes : more.0 ≡ with_pairs nodes (pair v.key v.held m.trees) = m.nodes_are ∙ ap (λ (ns : List Node). with_pairs ns m.trees) v.nodes_are in
    subst (Takes (suc levels) nodes (123 ∷ bytes)) (same_Some (more.0 ++ kinds.Dict more.1 ∷ [], plain_form, rest) read e4)
    (record {
      tree = dict (pair v.key v.held m.trees);
      is = (v.is_key, v.is_held, m.are);
      text = ap (λ (x : List ℕ). 123 ∷ x) (v.text ∙ ap (λ (x : List ℕ). literal_text v.key ++ 58 ∷ (literal_text v.held ++ x)) (m.text ∙ ap (λ (x : List ℕ). more_pairs m.trees ++ x) (behind_takes (codes "}") more.2 rest at_rest)))
          ∙ sym (dict_regroup (literal_text v.key) (literal_text v.held) (more_pairs m.trees) rest);
      nodes_are = ap (λ (ns : List Node). ns ++ kinds.Dict more.1 ∷ []) all_nodes ∙ ap (λ (xs : List (ℕ × ℕ)). with_pairs nodes (pair v.key v.held m.trees) ++ kinds.Dict xs ∷ []) items_are;
      form_is = refl;
    })))))

pub long_reference : (short : Option (List ℕ)) (literal : List ℕ) → is_some short ≡ false → reference_text short literal ≡ codes "ref(" ++ (literal ++ 41 ∷ [])
long_reference (Some s) literal e = absurd cc
long_reference None literal e = refl

reference_takes : (levels : ℕ) (piece : ReadPiece) → PieceTakes levels piece → (nodes : List Node) (bytes : List ℕ) (read : List Node × Form × List ℕ)
    → reference_at piece nodes bytes ≡ Some read → Takes (suc levels) nodes (codes "ref(" ++ bytes) read
unfolding reference_at
reference_takes levels piece takes nodes bytes read e =
    from_bind (piece nodes bytes) _ read e (λ id at_id e1.
    from_bind (rest_behind (codes ")") id.2) _ read e1 (λ rest at_rest e2.
    let p = cond_false id.1.short _ read e2 in
    let v = takes nodes bytes id at_id in
    let long : is_some (short_of v.tree) ≡ false = sym (ap (λ (x : Form). x.short) v.form_is) ∙ p.0 in
    let literal = long_reference (short_of v.tree) (literal_text v.tree) long in
    subst (Takes (suc levels) nodes (codes "ref(" ++ bytes)) (same_Some (id.0 ++ kinds.Reference (last_of id.0) ∷ [], plain_form, rest) read p.1)
    (record {
      tree = reference v.tree;
      is = v.is;
      text = ap (λ (x : List ℕ). codes "ref(" ++ x) (v.text ∙ ap (λ (x : List ℕ). literal_text v.tree ++ x) (behind_takes (codes ")") id.2 rest at_rest) ∙ sym (append_assoc (literal_text v.tree) (41 ∷ []) rest))
          ∙ ap (λ (x : List ℕ). x ++ rest) (sym literal);
      nodes_are = ap (λ (ns : List Node). ns ++ kinds.Reference (last_of ns) ∷ []) v.nodes_are;
      form_is = refl;
    })))

-- an oid, and a global behind it
oid_node : (oid : List ℕ) → eqb (length oid) 8 ≡ true → leaf_oid (kinds.Bytes oid) ≡ Some oid
oid_node oid e = rw e refl

pub oid_leaf : (oid : List ℕ) → AreAllSmall oid → eqb (length oid) 8 ≡ true → IsLeaf (kinds.Bytes oid)
oid_leaf oid are e = (are, omega (arith, eqb-true (length oid) 8 e))

pub address_text : (oid : List ℕ) → eqb (length oid) 8 ≡ true → literal_text (reference (leaf (kinds.Bytes oid))) ≡ 64 ∷ hex_text oid
address_text oid e = rw e refl

pub class_text : (oid first second : List ℕ) → eqb (length oid) 8 ≡ true
    → literal_text (reference (tuple (value (leaf (kinds.Bytes oid)) (value (leaf (kinds.Global first second)) no_values)))) ≡ 64 ∷ (hex_text oid ++ global_text first second)
class_text oid first second e = rw e refl

one_level : (levels : ℕ) (oid : List ℕ) → ltb levels 1 ≡ false → IsLeaf (kinds.Bytes oid) → IsValue (suc levels) (reference (leaf (kinds.Bytes oid)))
one_level zero oid e h = absurd cc
one_level (suc levels) oid e h = h

two_levels : (levels : ℕ) (oid first second : List ℕ) → ltb levels 2 ≡ false → IsLeaf (kinds.Bytes oid) → IsLeaf (kinds.Global first second)
    → IsValue (suc levels) (reference (tuple (value (leaf (kinds.Bytes oid)) (value (leaf (kinds.Global first second)) no_values))))
two_levels zero oid first second e h k = absurd cc
two_levels (suc zero) oid first second e h k = absurd cc
two_levels (suc (suc levels)) oid first second e h k = (h, (k, tt))

address_takes : (levels : ℕ) (nodes : List Node) (bytes : List ℕ) (read : List Node × Form × List ℕ)
    → address_at levels nodes bytes ≡ Some read → Takes (suc levels) nodes (64 ∷ bytes) read
unfolding address_at
address_takes levels nodes bytes read e =
    from_bind (counted_at is_float_size bytes) _ read e (λ oid at_oid e1.
    let t = counted_takes is_float_size bytes oid at_oid in
    let is_oid = oid_leaf oid.0 t.are t.size in
    from_if (rest_behind (codes "<") oid.1) _ _ read e1
    (λ rest at_rest e2.
    let p = cond_false (ltb levels 2) _ read e2 in
    from_bind (global_at rest) _ read p.1 (λ class at_class e3.
    let g = global_takes rest class at_class in
    subst (Takes (suc levels) nodes (64 ∷ bytes))
    (same_Some (with_value nodes (reference (tuple (value (leaf (kinds.Bytes oid.0)) (value (leaf class.0) no_values)))), plain_form, class.1) read e3)
    (record {
      tree = reference (tuple (value (leaf (kinds.Bytes oid.0)) (value (leaf (kinds.Global g.first g.second)) no_values)));
      is = two_levels levels oid.0 g.first g.second p.0 is_oid g.is;
      text = ap (λ (x : List ℕ). 64 ∷ x) (t.text ∙ ap (λ (x : List ℕ). hex_text oid.0 ++ x) (behind_takes (codes "<") oid.1 rest at_rest ∙ g.text) ∙ sym (append_assoc (hex_text oid.0) (global_text g.first g.second) class.1))
          ∙ ap (λ (x : List ℕ). x ++ class.1) (sym (class_text oid.0 g.first g.second t.size));
      nodes_are = ap (λ (n : Node). with_value nodes (reference (tuple (value (leaf (kinds.Bytes oid.0)) (value (leaf n) no_values))))) g.node;
      form_is = refl;
    })))
    (λ e2.
    let p = cond_false (ltb levels 1) _ read e2 in
    subst (Takes (suc levels) nodes (64 ∷ bytes)) (same_Some (with_value nodes (reference (leaf (kinds.Bytes oid.0))), plain_form, oid.1) read p.1)
    (record {
      tree = reference (leaf (kinds.Bytes oid.0));
      is = one_level levels oid.0 p.0 is_oid;
      text = ap (λ (x : List ℕ). 64 ∷ x) t.text ∙ ap (λ (x : List ℕ). x ++ oid.1) (sym (address_text oid.0 t.size));
      nodes_are = refl;
      form_is = refl;
    })))

shape_takes : (levels : ℕ) (piece : ReadPiece) → PieceTakes levels piece → (nodes : List Node) (bytes : List ℕ) (read : List Node × Form × List ℕ)
    → shape_at levels piece nodes bytes ≡ Some read → Takes (suc levels) nodes bytes read
unfolding shape_at
shape_takes levels piece takes nodes bytes read e =
    let goal : List ℕ → Type 0 = λ x. Takes (suc levels) nodes x read in
    from_if (rest_behind (codes "(") bytes) (tuple_at piece nodes) _ read e
    (λ rest at e1. subst goal (sym (behind_takes (codes "(") bytes rest at)) (tuple_takes levels piece takes nodes rest read e1)) (λ e1.
    from_if (rest_behind (codes "[") bytes) (list_at piece nodes) _ read e1
    (λ rest at e2. subst goal (sym (behind_takes (codes "[") bytes rest at)) (list_takes levels piece takes nodes rest read e2)) (λ e2.
    from_if (rest_behind (codes "{") bytes) (dict_at piece nodes) _ read e2
    (λ rest at e3. subst goal (sym (behind_takes (codes "{") bytes rest at)) (dict_takes levels piece takes nodes rest read e3)) (λ e3.
    from_if (rest_behind (codes "ref(") bytes) (reference_at piece nodes) _ read e3
    (λ rest at e4. subst goal (sym (behind_takes (codes "ref(") bytes rest at)) (reference_takes levels piece takes nodes rest read e4)) (λ e4.
    from_if (rest_behind (codes "@") bytes) (address_at levels nodes) (leaf_found nodes bytes) read e4
    (λ rest at e5. subst goal (sym (behind_takes (codes "@") bytes rest at)) (address_takes levels nodes rest read e5)) (λ e5.
    found_takes levels nodes bytes read e5)))))

pub value_takes : (levels : ℕ) (nodes : List Node) (bytes : List ℕ) (read : List Node × Form × List ℕ) → value_at levels nodes bytes ≡ Some read → Takes levels nodes bytes read
unfolding value_at
value_takes zero nodes bytes read e = absurd cc
value_takes (suc levels) nodes bytes read e =
    by_begin (begins_number bytes) e (λ ns bs r h. value_takes levels ns bs r h)
  where
    by_begin : (t : Bool) → cond t (leaf_found nodes bytes) (shape_at levels (value_at levels) nodes bytes) ≡ Some read → PieceTakes levels (value_at levels) → Takes (suc levels) nodes bytes read
    by_begin true e1 takes = found_takes levels nodes bytes read e1
    by_begin false e1 takes = shape_takes levels (value_at levels) takes nodes bytes read e1

pub value_stays : (levels : ℕ) (nodes : List Node) (bytes : List ℕ) (read : List Node × Form × List ℕ) → value_at levels nodes bytes ≡ Some read → length read.2 ≤ length bytes
value_stays levels nodes bytes read e =
    let t = value_takes levels nodes bytes read e in
    omega (arith, ap length t.text, length-append (literal_text t.tree) read.2)
