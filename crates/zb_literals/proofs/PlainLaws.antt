-- The literal of a graph without sharing and objects is that of its tree.
use Rattle.std.proofs.Common.{◌≡◌, ℕ, zero, suc, ◌+◌, true, false, List, [], ◌∷◌, ◌++◌, Option, Some, None, Ok, refl, sym, ap, subst, ◌∙◌, append_assoc, append-nil}
use Rattle.std.specs.Prelude.{slice_get, codes}
use Rattle.std.specs.List.{AllByRecursion}
use Rattle.std.proofs.lemmas.Option.{same_Some}
use Rattle.zb_ids.specs.Hex.{◌>>=◌}
use Rattle.zb_ids.specs.HexLaws.{from_bind}
use Rattle.pickle_ops.specs.Fits.{IsShortText}
use Rattle.pickle_graph.specs.declared.node.Node.{Node}
use Rattle.pickle_graph.specs.declared.node.Node.TheVariants as kinds
use Rattle.pickle_writing.specs.declared.depth.TheConstants.{WALK_LIMIT}
use Rattle.pickle_graph.specs.Graph.{Graph, AreNodes, IsNode}
use Rattle.zb_literals.specs.declared.parts.Part.{Part}
use Rattle.zb_literals.specs.declared.parts.Part.TheVariants.{Byte, Item}
use Rattle.zb_literals.specs.Texts.{leaf_literal, text_literal, quoted_text, global_text}
use Rattle.zb_literals.specs.Values.{Value, leaf, tuple, list, dict, reference, Values, no_values, value, Pairs, no_pairs, pair, leaf_oid, oid_of_value, global_of_value, digits_of, with_global, values_short, short_of, reference_text, literal_text, more_text, more_pairs, IsLeaf, IsValue, AreValues, ArePairs}
use Rattle.zb_literals.specs.Printing.{Printed, only, printed_behind, bytes_parts, more_parts, more_pair_parts, tuple_marks, list_marks, dict_marks, reference_parts, parts_print, node_print, print_of, oid_at, class_at, both_texts, pair_short, id_short}
use Rattle.zb_literals.specs.Plain.{values_of, pairs_in_tree, node_tree, tree_of, HoldsBytes, IsPlain, IsScriptLiteral}

-- ---- parts, where nothing stood before

-- so many bytes are printed
bytes_print : (piece : ℕ → List (ℕ × ℕ) → Printed) (bytes : List ℕ) (parts : List Part) (text : List ℕ) → parts_print piece parts [] ≡ only text []
    → parts_print piece (bytes_parts bytes ++ parts) [] ≡ only (bytes ++ text) []
bytes_print piece [] parts text h = h
bytes_print piece (b ∷ bytes) parts text h = ap (λ (p : Printed). printed_behind (only (b ∷ []) []) p) (bytes_print piece bytes parts text h)

-- an item is printed, and then what follows
item_print : (piece : ℕ → List (ℕ × ℕ) → Printed) (m : ℕ) (parts : List Part) (one text : List ℕ) → piece m [] ≡ only one [] → parts_print piece parts [] ≡ only text []
    → parts_print piece (Item m ∷ parts) [] ≡ only (one ++ text) []
item_print piece m parts one text e h = rw (e, h) refl

byte_print : (piece : ℕ → List (ℕ × ℕ) → Printed) (b : ℕ) (parts : List Part) (text : List ℕ) → parts_print piece parts [] ≡ only text []
    → parts_print piece (Byte b ∷ parts) [] ≡ only (b ∷ text) []
byte_print piece b parts text h = rw h refl

-- each item's tree is printed by its literal
abbrev Prints : (ℕ → Option Value) → (ℕ → List (ℕ × ℕ) → Printed) → Type 0
Prints tree piece = (m : ℕ) (v : Value) → tree m ≡ Some v → piece m [] ≡ only (literal_text v) []

more_print : (tree : ℕ → Option Value) (piece : ℕ → List (ℕ × ℕ) → Printed) → Prints tree piece → (items : List ℕ) (vs : Values) (end : List Part) (text : List ℕ)
    → values_of tree items ≡ Some vs → parts_print piece end [] ≡ only text [] → parts_print piece (more_parts items ++ end) [] ≡ only (more_text vs ++ text) []
more_print tree piece prints [] vs end text e h = subst (λ (x : Values). parts_print piece end [] ≡ only (more_text x ++ text) []) (same_Some no_values vs e) h
more_print tree piece prints (x ∷ items) vs end text e h =
    from_bind (tree x) _ vs e (λ v at e1.
    from_bind (values_of tree items) _ vs e1 (λ rest at_rest is.
    subst (λ (y : Values). parts_print piece (more_parts (x ∷ items) ++ end) [] ≡ only (more_text y ++ text) []) (same_Some (value v rest) vs is)
    (byte_print piece 44 (Item x ∷ (more_parts items ++ end)) (literal_text v ++ (more_text rest ++ text))
    (item_print piece x (more_parts items ++ end) (literal_text v) (more_text rest ++ text) (prints x v at) (more_print tree piece prints items rest end text at_rest h))
    ∙ ap (λ (t : List ℕ). only (44 ∷ t) []) (sym (append_assoc (literal_text v) (more_text rest) text)))))

more_pair_print : (tree : ℕ → Option Value) (piece : ℕ → List (ℕ × ℕ) → Printed) → Prints tree piece → (items : List (ℕ × ℕ)) (ps : Pairs) (end : List Part) (text : List ℕ)
    → pairs_in_tree tree items ≡ Some ps → parts_print piece end [] ≡ only text [] → parts_print piece (more_pair_parts items ++ end) [] ≡ only (more_pairs ps ++ text) []
more_pair_print tree piece prints [] ps end text e h = subst (λ (x : Pairs). parts_print piece end [] ≡ only (more_pairs x ++ text) []) (same_Some no_pairs ps e) h
more_pair_print tree piece prints (x ∷ items) ps end text e h =
    from_bind (tree x.0) _ ps e (λ k at_key e1.
    from_bind (tree x.1) _ ps e1 (λ v at e2.
    from_bind (pairs_in_tree tree items) _ ps e2 (λ rest at_rest is.
    subst (λ (y : Pairs). parts_print piece (more_pair_parts (x ∷ items) ++ end) [] ≡ only (more_pairs y ++ text) []) (same_Some (pair k v rest) ps is)
    (byte_print piece 44 (Item x.0 ∷ Byte 58 ∷ Item x.1 ∷ (more_pair_parts items ++ end)) (literal_text k ++ 58 ∷ (literal_text v ++ (more_pairs rest ++ text)))
    (item_print piece x.0 (Byte 58 ∷ Item x.1 ∷ (more_pair_parts items ++ end)) (literal_text k) (58 ∷ (literal_text v ++ (more_pairs rest ++ text))) (prints x.0 k at_key)
    (byte_print piece 58 (Item x.1 ∷ (more_pair_parts items ++ end)) (literal_text v ++ (more_pairs rest ++ text))
    (item_print piece x.1 (more_pair_parts items ++ end) (literal_text v) (more_pairs rest ++ text) (prints x.1 v at) (more_pair_print tree piece prints items rest end text at_rest h))))
    ∙ ap (λ (t : List ℕ). only (44 ∷ t) []) (sym (append_assoc (literal_text k) (58 ∷ (literal_text v ++ more_pairs rest)) text
    ∙ ap (λ (t : List ℕ). literal_text k ++ 58 ∷ t) (append_assoc (literal_text v) (more_pairs rest) text)))))))

end_print : (piece : ℕ → List (ℕ × ℕ) → Printed) (b : ℕ) → parts_print piece (Byte b ∷ []) [] ≡ only (b ∷ []) []
end_print piece b = refl

tuple_print : (tree : ℕ → Option Value) (piece : ℕ → List (ℕ × ℕ) → Printed) → Prints tree piece → (items : List ℕ) (vs : Values) → values_of tree items ≡ Some vs
    → parts_print piece (tuple_marks items) [] ≡ only (literal_text (tuple vs)) []
tuple_print tree piece prints [] vs e = subst (λ (x : Values). only (codes "()") [] ≡ only (literal_text (tuple x)) []) (same_Some no_values vs e) refl
tuple_print tree piece prints (a ∷ []) vs e =
    from_bind (tree a) _ vs e (λ v at is.
    subst (λ (x : Values). parts_print piece (tuple_marks (a ∷ [])) [] ≡ only (literal_text (tuple x)) []) (same_Some (value v no_values) vs is)
    (byte_print piece 40 (Item a ∷ Byte 44 ∷ Byte 41 ∷ []) (literal_text v ++ 44 ∷ 41 ∷ []) (item_print piece a (Byte 44 ∷ Byte 41 ∷ []) (literal_text v) (44 ∷ 41 ∷ []) (prints a v at) refl)))
tuple_print tree piece prints (a ∷ b ∷ items) vs e =
    from_bind (tree a) _ vs e (λ v at e1.
    from_bind (tree b >>= λ w. values_of tree items >>= λ ws. Some (value w ws)) _ vs e1 (λ rest at_rest is.
    from_bind (tree b) _ rest at_rest (λ w at_w e2.
    from_bind (values_of tree items) _ rest e2 (λ ws at_ws is_rest.
    let rest_is : value w ws ≡ rest = same_Some (value w ws) rest is_rest in
    let whole : value v (value w ws) ≡ vs = ap (λ (x : Values). value v x) rest_is ∙ same_Some (value v rest) vs is in
    let more = more_print tree piece prints (b ∷ items) (value w ws) (Byte 41 ∷ []) (41 ∷ []) (at_rest ∙ ap (λ (x : Values). Some x) (sym rest_is)) refl in
    subst (λ (x : Values). parts_print piece (tuple_marks (a ∷ b ∷ items)) [] ≡ only (literal_text (tuple x)) []) whole
    (byte_print piece 40 (Item a ∷ (more_parts (b ∷ items) ++ Byte 41 ∷ [])) (literal_text v ++ ((44 ∷ (literal_text w ++ more_text ws)) ++ 41 ∷ []))
    (item_print piece a (more_parts (b ∷ items) ++ Byte 41 ∷ []) (literal_text v) ((44 ∷ (literal_text w ++ more_text ws)) ++ 41 ∷ []) (prints a v at) more)
    ∙ ap (λ (t : List ℕ). only (40 ∷ (literal_text v ++ 44 ∷ t)) []) (append_assoc (literal_text w) (more_text ws) (41 ∷ [])))))))

list_print : (tree : ℕ → Option Value) (piece : ℕ → List (ℕ × ℕ) → Printed) → Prints tree piece → (items : List ℕ) (vs : Values) → values_of tree items ≡ Some vs
    → parts_print piece (list_marks items) [] ≡ only (literal_text (list vs)) []
list_print tree piece prints [] vs e = subst (λ (x : Values). only (codes "[]") [] ≡ only (literal_text (list x)) []) (same_Some no_values vs e) refl
list_print tree piece prints (a ∷ items) vs e =
    from_bind (tree a) _ vs e (λ v at e1.
    from_bind (values_of tree items) _ vs e1 (λ rest at_rest is.
    subst (λ (x : Values). parts_print piece (list_marks (a ∷ items)) [] ≡ only (literal_text (list x)) []) (same_Some (value v rest) vs is)
    (byte_print piece 91 (Item a ∷ (more_parts items ++ Byte 93 ∷ [])) (literal_text v ++ (more_text rest ++ 93 ∷ []))
    (item_print piece a (more_parts items ++ Byte 93 ∷ []) (literal_text v) (more_text rest ++ 93 ∷ []) (prints a v at) (more_print tree piece prints items rest (Byte 93 ∷ []) (93 ∷ []) at_rest refl)))))

dict_print : (tree : ℕ → Option Value) (piece : ℕ → List (ℕ × ℕ) → Printed) → Prints tree piece → (items : List (ℕ × ℕ)) (ps : Pairs) → pairs_in_tree tree items ≡ Some ps
    → parts_print piece (dict_marks items) [] ≡ only (literal_text (dict ps)) []
dict_print tree piece prints [] ps e = subst (λ (x : Pairs). only (codes "{}") [] ≡ only (literal_text (dict x)) []) (same_Some no_pairs ps e) refl
dict_print tree piece prints (a ∷ items) ps e =
    from_bind (tree a.0) _ ps e (λ k at_key e1.
    from_bind (tree a.1) _ ps e1 (λ v at e2.
    from_bind (pairs_in_tree tree items) _ ps e2 (λ rest at_rest is.
    subst (λ (x : Pairs). parts_print piece (dict_marks (a ∷ items)) [] ≡ only (literal_text (dict x)) []) (same_Some (pair k v rest) ps is)
    (byte_print piece 123 (Item a.0 ∷ Byte 58 ∷ Item a.1 ∷ (more_pair_parts items ++ Byte 125 ∷ [])) (literal_text k ++ 58 ∷ (literal_text v ++ (more_pairs rest ++ 125 ∷ [])))
    (item_print piece a.0 (Byte 58 ∷ Item a.1 ∷ (more_pair_parts items ++ Byte 125 ∷ [])) (literal_text k) (58 ∷ (literal_text v ++ (more_pairs rest ++ 125 ∷ []))) (prints a.0 k at_key)
    (byte_print piece 58 (Item a.1 ∷ (more_pair_parts items ++ Byte 125 ∷ [])) (literal_text v ++ (more_pairs rest ++ 125 ∷ []))
    (item_print piece a.1 (more_pair_parts items ++ Byte 125 ∷ []) (literal_text v) (more_pairs rest ++ 125 ∷ []) (prints a.1 v at) (more_pair_print tree piece prints items rest (Byte 125 ∷ []) (125 ∷ []) at_rest refl))))))))

-- ---- references

oid_tree : (piece : ℕ → Option Value) (o : Option Node) (w : Value) → node_tree piece o ≡ Some w → oid_at o ≡ oid_of_value w
oid_tree piece None w e = absurd cc
oid_tree piece (Some (kinds.Tuple items)) w e = from_bind (values_of piece items) _ w e (λ vs at is. subst (λ (x : Value). None ≡ oid_of_value x) (same_Some (tuple vs) w is) refl)
oid_tree piece (Some (kinds.List items)) w e = from_bind (values_of piece items) _ w e (λ vs at is. subst (λ (x : Value). None ≡ oid_of_value x) (same_Some (list vs) w is) refl)
oid_tree piece (Some (kinds.Dict items)) w e = from_bind (pairs_in_tree piece items) _ w e (λ vs at is. subst (λ (x : Value). None ≡ oid_of_value x) (same_Some (dict vs) w is) refl)
oid_tree piece (Some (kinds.Reference id)) w e = from_bind (piece id) _ w e (λ v at is. subst (λ (x : Value). None ≡ oid_of_value x) (same_Some (reference v) w is) refl)
oid_tree piece (Some (kinds.Object a b c d)) w e = absurd cc
oid_tree piece (Some kinds.None) w e = subst (λ (x : Value). None ≡ oid_of_value x) (same_Some (leaf kinds.None) w e) refl
oid_tree piece (Some (kinds.Bool b)) w e = subst (λ (x : Value). None ≡ oid_of_value x) (same_Some (leaf (kinds.Bool b)) w e) refl
oid_tree piece (Some (kinds.Number n)) w e = subst (λ (x : Value). None ≡ oid_of_value x) (same_Some (leaf (kinds.Number n)) w e) refl
oid_tree piece (Some (kinds.Wide b)) w e = subst (λ (x : Value). None ≡ oid_of_value x) (same_Some (leaf (kinds.Wide b)) w e) refl
oid_tree piece (Some (kinds.Float b)) w e = subst (λ (x : Value). None ≡ oid_of_value x) (same_Some (leaf (kinds.Float b)) w e) refl
oid_tree piece (Some (kinds.Bytes b)) w e = subst (λ (x : Value). leaf_oid (kinds.Bytes b) ≡ oid_of_value x) (same_Some (leaf (kinds.Bytes b)) w e) refl
oid_tree piece (Some (kinds.OldText b)) w e = subst (λ (x : Value). None ≡ oid_of_value x) (same_Some (leaf (kinds.OldText b)) w e) refl
oid_tree piece (Some (kinds.Text b)) w e = subst (λ (x : Value). None ≡ oid_of_value x) (same_Some (leaf (kinds.Text b)) w e) refl
oid_tree piece (Some (kinds.Global a b)) w e = subst (λ (x : Value). None ≡ oid_of_value x) (same_Some (leaf (kinds.Global a b)) w e) refl

class_tree : (piece : ℕ → Option Value) (o : Option Node) (w : Value) → node_tree piece o ≡ Some w → class_at o ≡ global_of_value w
class_tree piece None w e = absurd cc
class_tree piece (Some (kinds.Tuple items)) w e = from_bind (values_of piece items) _ w e (λ vs at is. subst (λ (x : Value). None ≡ global_of_value x) (same_Some (tuple vs) w is) refl)
class_tree piece (Some (kinds.List items)) w e = from_bind (values_of piece items) _ w e (λ vs at is. subst (λ (x : Value). None ≡ global_of_value x) (same_Some (list vs) w is) refl)
class_tree piece (Some (kinds.Dict items)) w e = from_bind (pairs_in_tree piece items) _ w e (λ vs at is. subst (λ (x : Value). None ≡ global_of_value x) (same_Some (dict vs) w is) refl)
class_tree piece (Some (kinds.Reference id)) w e = from_bind (piece id) _ w e (λ v at is. subst (λ (x : Value). None ≡ global_of_value x) (same_Some (reference v) w is) refl)
class_tree piece (Some (kinds.Object a b c d)) w e = absurd cc
class_tree piece (Some kinds.None) w e = subst (λ (x : Value). None ≡ global_of_value x) (same_Some (leaf kinds.None) w e) refl
class_tree piece (Some (kinds.Bool b)) w e = subst (λ (x : Value). None ≡ global_of_value x) (same_Some (leaf (kinds.Bool b)) w e) refl
class_tree piece (Some (kinds.Number n)) w e = subst (λ (x : Value). None ≡ global_of_value x) (same_Some (leaf (kinds.Number n)) w e) refl
class_tree piece (Some (kinds.Wide b)) w e = subst (λ (x : Value). None ≡ global_of_value x) (same_Some (leaf (kinds.Wide b)) w e) refl
class_tree piece (Some (kinds.Float b)) w e = subst (λ (x : Value). None ≡ global_of_value x) (same_Some (leaf (kinds.Float b)) w e) refl
class_tree piece (Some (kinds.Bytes b)) w e = subst (λ (x : Value). None ≡ global_of_value x) (same_Some (leaf (kinds.Bytes b)) w e) refl
class_tree piece (Some (kinds.OldText b)) w e = subst (λ (x : Value). None ≡ global_of_value x) (same_Some (leaf (kinds.OldText b)) w e) refl
class_tree piece (Some (kinds.Text b)) w e = subst (λ (x : Value). None ≡ global_of_value x) (same_Some (leaf (kinds.Text b)) w e) refl
class_tree piece (Some (kinds.Global a b)) w e = subst (λ (x : Value). Some (global_text a b) ≡ global_of_value x) (same_Some (leaf (kinds.Global a b)) w e) refl

oid_of_tree : (levels : ℕ) (ns : List Node) (m : ℕ) (w : Value) → tree_of levels ns m ≡ Some w → oid_at (slice_get ns m) ≡ oid_of_value w
unfolding tree_of
oid_of_tree zero ns m w e = absurd cc
oid_of_tree (suc levels) ns m w e = oid_tree (tree_of levels ns) (slice_get ns m) w e

class_of_tree : (levels : ℕ) (ns : List Node) (m : ℕ) (w : Value) → tree_of levels ns m ≡ Some w → class_at (slice_get ns m) ≡ global_of_value w
unfolding tree_of
class_of_tree zero ns m w e = absurd cc
class_of_tree (suc levels) ns m w e = class_tree (tree_of levels ns) (slice_get ns m) w e

joined_is : (oid class : Option (List ℕ)) → both_texts (digits_of oid) class ≡ with_global oid class
joined_is None None = refl
joined_is None (Some b) = refl
joined_is (Some a) None = refl
joined_is (Some a) (Some b) = refl

pair_is : (levels : ℕ) (ns : List Node) (items : List ℕ) (vs : Values) → values_of (tree_of levels ns) items ≡ Some vs → pair_short ns None items ≡ values_short vs
pair_is levels ns [] vs e = subst (λ (x : Values). None ≡ values_short x) (same_Some no_values vs e) refl
pair_is levels ns (a ∷ []) vs e = from_bind (tree_of levels ns a) _ vs e (λ v at is. subst (λ (x : Values). None ≡ values_short x) (same_Some (value v no_values) vs is) refl)
pair_is levels ns (a ∷ b ∷ []) vs e =
    from_bind (tree_of levels ns a) _ vs e (λ v at e1.
    from_bind (tree_of levels ns b >>= λ w. Some no_values >>= λ ws. Some (value w ws)) _ vs e1 (λ rest at_rest is.
    from_bind (tree_of levels ns b) _ rest at_rest (λ w at_w is_rest.
    let whole : value v (value w no_values) ≡ vs = ap (λ (x : Values). value v x) (same_Some (value w no_values) rest is_rest) ∙ same_Some (value v rest) vs is in
    subst (λ (x : Values). pair_short ns None (a ∷ b ∷ []) ≡ values_short x) whole
    (ap (λ (o : Option (List ℕ)). both_texts (digits_of o) (class_at (slice_get ns b))) (oid_of_tree levels ns a v at)
    ∙ ap (both_texts (digits_of (oid_of_value v))) (class_of_tree levels ns b w at_w) ∙ joined_is (oid_of_value v) (global_of_value w)))))
pair_is levels ns (a ∷ b ∷ c ∷ items) vs e =
    from_bind (tree_of levels ns a) _ vs e (λ v at e1.
    from_bind (values_of (tree_of levels ns) (b ∷ c ∷ items)) _ vs e1 (λ rest at_rest is.
    from_bind (tree_of levels ns b) _ rest at_rest (λ w at_w e2.
    from_bind (values_of (tree_of levels ns) (c ∷ items)) _ rest e2 (λ others at_others is_rest.
    from_bind (tree_of levels ns c) _ others at_others (λ x at_x e3.
    from_bind (values_of (tree_of levels ns) items) _ others e3 (λ more at_more is_others.
    let whole : value v (value w (value x more)) ≡ vs =
    ap (λ (y : Values). value v (value w y)) (same_Some (value x more) others is_others) ∙ ap (λ (y : Values). value v y) (same_Some (value w others) rest is_rest) ∙ same_Some (value v rest) vs is in
    subst (λ (y : Values). None ≡ values_short y) whole refl))))))

short_tree : (levels : ℕ) (ns : List Node) (o : Option Node) (w : Value) → node_tree (tree_of levels ns) o ≡ Some w → id_short ns None o ≡ short_of w
short_tree levels ns None w e = absurd cc
short_tree levels ns (Some (kinds.Tuple items)) w e =
    from_bind (values_of (tree_of levels ns) items) _ w e (λ vs at is. subst (λ (x : Value). pair_short ns None items ≡ short_of x) (same_Some (tuple vs) w is) (pair_is levels ns items vs at))
short_tree levels ns (Some (kinds.List items)) w e = from_bind (values_of (tree_of levels ns) items) _ w e (λ vs at is. subst (λ (x : Value). None ≡ short_of x) (same_Some (list vs) w is) refl)
short_tree levels ns (Some (kinds.Dict items)) w e = from_bind (pairs_in_tree (tree_of levels ns) items) _ w e (λ vs at is. subst (λ (x : Value). None ≡ short_of x) (same_Some (dict vs) w is) refl)
short_tree levels ns (Some (kinds.Reference id)) w e = from_bind (tree_of levels ns id) _ w e (λ v at is. subst (λ (x : Value). None ≡ short_of x) (same_Some (reference v) w is) refl)
short_tree levels ns (Some (kinds.Object a b c d)) w e = absurd cc
short_tree levels ns (Some kinds.None) w e = subst (λ (x : Value). None ≡ short_of x) (same_Some (leaf kinds.None) w e) refl
short_tree levels ns (Some (kinds.Bool b)) w e = subst (λ (x : Value). None ≡ short_of x) (same_Some (leaf (kinds.Bool b)) w e) refl
short_tree levels ns (Some (kinds.Number n)) w e = subst (λ (x : Value). None ≡ short_of x) (same_Some (leaf (kinds.Number n)) w e) refl
short_tree levels ns (Some (kinds.Wide b)) w e = subst (λ (x : Value). None ≡ short_of x) (same_Some (leaf (kinds.Wide b)) w e) refl
short_tree levels ns (Some (kinds.Float b)) w e = subst (λ (x : Value). None ≡ short_of x) (same_Some (leaf (kinds.Float b)) w e) refl
short_tree levels ns (Some (kinds.Bytes b)) w e = subst (λ (x : Value). digits_of (leaf_oid (kinds.Bytes b)) ≡ short_of x) (same_Some (leaf (kinds.Bytes b)) w e) refl
short_tree levels ns (Some (kinds.OldText b)) w e = subst (λ (x : Value). None ≡ short_of x) (same_Some (leaf (kinds.OldText b)) w e) refl
short_tree levels ns (Some (kinds.Text b)) w e = subst (λ (x : Value). None ≡ short_of x) (same_Some (leaf (kinds.Text b)) w e) refl
short_tree levels ns (Some (kinds.Global a b)) w e = subst (λ (x : Value). None ≡ short_of x) (same_Some (leaf (kinds.Global a b)) w e) refl

short_of_tree : (levels : ℕ) (ns : List Node) (m : ℕ) (w : Value) → tree_of levels ns m ≡ Some w → id_short ns None (slice_get ns m) ≡ short_of w
unfolding tree_of
short_of_tree zero ns m w e = absurd cc
short_of_tree (suc levels) ns m w e = short_tree levels ns (slice_get ns m) w e

reference_print : (piece : ℕ → List (ℕ × ℕ) → Printed) (short : Option (List ℕ)) (id : ℕ) (literal : List ℕ) → piece id [] ≡ only literal []
    → parts_print piece (reference_parts short id) [] ≡ only (reference_text short literal) []
reference_print piece (Some short) id literal h =
    byte_print piece 64 (bytes_parts short) short (ap (λ (ps : List Part). parts_print piece ps []) (sym (append-nil (bytes_parts short))) ∙ bytes_print piece short [] [] refl ∙ ap (λ (t : List ℕ). only t []) (append-nil short))
reference_print piece None id literal h =
    bytes_print piece (codes "ref(") (Item id ∷ Byte 41 ∷ []) (literal ++ 41 ∷ []) (item_print piece id (Byte 41 ∷ []) literal (41 ∷ []) h refl)

-- ---- what the leaves hold

values_are : (levels : ℕ) (tree : ℕ → Option Value) → ((m : ℕ) (v : Value) → tree m ≡ Some v → IsValue levels v) → (items : List ℕ) (vs : Values) → values_of tree items ≡ Some vs → AreValues levels vs
values_are levels tree are [] vs e = subst (AreValues levels) (same_Some no_values vs e) tt
values_are levels tree are (x ∷ items) vs e =
    from_bind (tree x) _ vs e (λ v at e1.
    from_bind (values_of tree items) _ vs e1 (λ rest at_rest is. subst (AreValues levels) (same_Some (value v rest) vs is) (are x v at, values_are levels tree are items rest at_rest)))

pairs_are : (levels : ℕ) (tree : ℕ → Option Value) → ((m : ℕ) (v : Value) → tree m ≡ Some v → IsValue levels v) → (items : List (ℕ × ℕ)) (ps : Pairs) → pairs_in_tree tree items ≡ Some ps → ArePairs levels ps
pairs_are levels tree are [] ps e = subst (ArePairs levels) (same_Some no_pairs ps e) tt
pairs_are levels tree are (x ∷ items) ps e =
    from_bind (tree x.0) _ ps e (λ k at_key e1.
    from_bind (tree x.1) _ ps e1 (λ v at e2.
    from_bind (pairs_in_tree tree items) _ ps e2 (λ rest at_rest is. subst (ArePairs levels) (same_Some (pair k v rest) ps is) (are x.0 k at_key, are x.1 v at, pairs_are levels tree are items rest at_rest))))

node_in : (ns xs : List Node) (m : ℕ) (x : Node) → AreNodes ns xs → slice_get xs m ≡ Some x → IsNode ns x
node_in ns [] m x h e = absurd cc
node_in ns (y ∷ xs) zero x h e = subst (IsNode ns) (same_Some y x e) h.0
node_in ns (y ∷ xs) (suc m) x h e = node_in ns xs m x h.1 e

held_in : (xs : List Node) (m : ℕ) (x : Node) → AllByRecursion HoldsBytes xs → slice_get xs m ≡ Some x → HoldsBytes x
held_in [] m x h e = absurd cc
held_in (y ∷ xs) zero x h e = subst HoldsBytes (same_Some y x e) h.0
held_in (y ∷ xs) (suc m) x h e = held_in xs m x h.1 e

text_is : (bytes : List ℕ) → IsShortText bytes → text_literal bytes ≡ quoted_text bytes
text_is bytes h = rw (h.utf8) refl

-- ---- all nodes

-- a node's tree is printed by its literal, and is a value
pub record PrintsNode (levels : ℕ) (v : Value) (print : Printed) : Type 0 where
  pub text : print ≡ only (literal_text v) []
  pub is : IsValue levels v

abbrev AllPrint : ℕ → List Node → Type 0
AllPrint levels ns = (m : ℕ) (v : Value) → tree_of levels ns m ≡ Some v → PrintsNode levels v (print_of levels ns [] m [])

leaf_prints : (levels : ℕ) (x : Node) (v : Value) (print : Printed) → print ≡ only (leaf_literal x) [] → IsLeaf x → Some (leaf x) ≡ Some v → PrintsNode (suc levels) v print
leaf_prints levels x v print text is e = subst (λ (y : Value). PrintsNode (suc levels) y print) (same_Some (leaf x) v e) (record { text = text; is = is })

one_node : (levels : ℕ) (ns : List Node) (m : ℕ) → AllPrint levels ns → (x : Node) (v : Value) → IsNode ns x → HoldsBytes x → node_tree (tree_of levels ns) (Some x) ≡ Some v
    → PrintsNode (suc levels) v (node_print ns [] (print_of levels ns []) m [] (Some x))
one_node levels ns m all kinds.None v h k e = leaf_prints levels kinds.None v _ refl tt e
one_node levels ns m all (kinds.Bool true) v h k e = leaf_prints levels (kinds.Bool true) v _ refl tt e
one_node levels ns m all (kinds.Bool false) v h k e = leaf_prints levels (kinds.Bool false) v _ refl tt e
one_node levels ns m all (kinds.Number n) v h k e = leaf_prints levels (kinds.Number n) v _ refl h e
one_node levels ns m all (kinds.Wide b) v h k e = leaf_prints levels (kinds.Wide b) v _ refl (k, h) e
one_node levels ns m all (kinds.Float b) v h k e = leaf_prints levels (kinds.Float b) v _ refl (k, h) e
one_node levels ns m all (kinds.Bytes b) v h k e = leaf_prints levels (kinds.Bytes b) v _ refl (k, h) e
one_node levels ns m all (kinds.OldText b) v h k e = leaf_prints levels (kinds.OldText b) v _ refl (k, h) e
one_node levels ns m all (kinds.Text b) v h k e = leaf_prints levels (kinds.Text b) v _ (ap (λ (t : List ℕ). only t []) (text_is b h)) h e
one_node levels ns m all (kinds.Global a b) v h k e = leaf_prints levels (kinds.Global a b) v _ refl (k.0, k.1, h) e
one_node levels ns m all (kinds.Tuple items) v h k e =
    from_bind (values_of (tree_of levels ns) items) _ v e (λ vs at is.
    subst (λ (y : Value). PrintsNode (suc levels) y (node_print ns [] (print_of levels ns []) m [] (Some (kinds.Tuple items)))) (same_Some (tuple vs) v is)
    (record { text = tuple_print (tree_of levels ns) (print_of levels ns []) (λ n w at_w. (all n w at_w).text) items vs at; is = values_are levels (tree_of levels ns) (λ n w at_w. (all n w at_w).is) items vs at }))
one_node levels ns m all (kinds.List items) v h k e =
    from_bind (values_of (tree_of levels ns) items) _ v e (λ vs at is.
    subst (λ (y : Value). PrintsNode (suc levels) y (node_print ns [] (print_of levels ns []) m [] (Some (kinds.List items)))) (same_Some (list vs) v is)
    (record { text = list_print (tree_of levels ns) (print_of levels ns []) (λ n w at_w. (all n w at_w).text) items vs at; is = values_are levels (tree_of levels ns) (λ n w at_w. (all n w at_w).is) items vs at }))
one_node levels ns m all (kinds.Dict items) v h k e =
    from_bind (pairs_in_tree (tree_of levels ns) items) _ v e (λ vs at is.
    subst (λ (y : Value). PrintsNode (suc levels) y (node_print ns [] (print_of levels ns []) m [] (Some (kinds.Dict items)))) (same_Some (dict vs) v is)
    (record { text = dict_print (tree_of levels ns) (print_of levels ns []) (λ n w at_w. (all n w at_w).text) items vs at; is = pairs_are levels (tree_of levels ns) (λ n w at_w. (all n w at_w).is) items vs at }))
one_node levels ns m all (kinds.Reference id) v h k e =
    from_bind (tree_of levels ns id) _ v e (λ w at is.
    let p = all id w at in
    subst (λ (y : Value). PrintsNode (suc levels) y (node_print ns [] (print_of levels ns []) m [] (Some (kinds.Reference id)))) (same_Some (reference w) v is)
    (record {
      text = reference_print (print_of levels ns []) (id_short ns None (slice_get ns id)) id (literal_text w) p.text
          ∙ ap (λ (o : Option (List ℕ)). only (reference_text o (literal_text w)) []) (short_of_tree levels ns id w at);
      is = p.is;
    }))
one_node levels ns m all (kinds.Object a b c d) v h k e = absurd cc

pub all_print : (levels : ℕ) (ns : List Node) → AreNodes ns ns → AllByRecursion HoldsBytes ns → AllPrint levels ns
unfolding tree_of print_of
all_print zero ns are held m v e = absurd cc
all_print (suc levels) ns are held m v e = by_node (slice_get ns m) refl e (all_print levels ns are held)
  where
    by_node : (o : Option Node) → slice_get ns m ≡ o → node_tree (tree_of levels ns) o ≡ Some v → AllPrint levels ns → PrintsNode (suc levels) v (node_print ns [] (print_of levels ns []) m [] o)
    by_node None at e1 all = absurd cc
    by_node (Some x) at e1 all = one_node levels ns m all x v (node_in ns ns m x are at) (held_in ns m x held at) e1

pub plain_is_literal : (g : Graph) (tree : Value) → IsPlain g tree → IsScriptLiteral g tree
plain_is_literal g tree h =
    let p = all_print (WALK_LIMIT + 1) g.nodes h.nodes h.held g.root tree h.unfolds in
    record { is = p.is; text = rw (h.unshared) (ap (λ (x : Printed). Ok x.text) p.text) }
