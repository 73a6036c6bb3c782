-- The graph of a tree unfolds into the tree.
use Rattle.std.proofs.Common.{◌≡◌, ℕ, zero, suc, List, [], ◌∷◌, ◌++◌, Option, Some, refl, sym, ap, ◌∙◌, append_assoc, append-nil}
use Rattle.std.specs.Prelude.{slice_get}
use Rattle.zb_ids.specs.Hex.{◌>>=◌}
use Rattle.pickle_graph.specs.declared.node.Node.{Node}
use Rattle.pickle_graph.specs.declared.node.Node.TheVariants as kinds
use Rattle.zb_literals.specs.Values.{Value, leaf, tuple, list, dict, reference, Values, no_values, value, Pairs, no_pairs, pair, IsLeaf, IsValue, AreValues, ArePairs}
use Rattle.zb_literals.specs.Graphs.{last_of, with_value, with_values, with_pairs, named_values, named_pairs}
use Rattle.zb_literals.specs.Plain.{values_of, pairs_in_tree, node_tree, tree_of}
use Rattle.zb_literals.specs.GraphLaws.{Grows, value_grows, values_grow, pairs_grow, grows_all, node_at}

at_node : (levels : ℕ) (ns : List Node) (m : ℕ) (o : Option Node) (v : Value) → slice_get ns m ≡ o → node_tree (tree_of levels ns) o ≡ Some v → tree_of (suc levels) ns m ≡ Some v
unfolding tree_of
at_node levels ns m o v e h = rw e h

leaf_tree : (piece : ℕ → Option Value) (x : Node) → IsLeaf x → node_tree piece (Some x) ≡ Some (leaf x)
leaf_tree piece kinds.None h = refl
leaf_tree piece (kinds.Bool b) h = refl
leaf_tree piece (kinds.Number z) h = refl
leaf_tree piece (kinds.Wide bytes) h = refl
leaf_tree piece (kinds.Float bytes) h = refl
leaf_tree piece (kinds.Bytes bytes) h = refl
leaf_tree piece (kinds.OldText bytes) h = refl
leaf_tree piece (kinds.Text bytes) h = refl
leaf_tree piece (kinds.Tuple items) h = absurd h
leaf_tree piece (kinds.List items) h = absurd h
leaf_tree piece (kinds.Dict pairs) h = absurd h
leaf_tree piece (kinds.Global a b) h = refl
leaf_tree piece (kinds.Reference id) h = absurd h
leaf_tree piece (kinds.Object a b c d) h = absurd h

-- the same nodes, put together otherwise
regroup : {A : Type 0} (f : List Node → A) (xs more : List Node) (x : Node) (y : A) → f (xs ++ (x ∷ more)) ≡ y → f ((xs ++ x ∷ []) ++ more) ≡ y
regroup f xs more x y h = ap f (append_assoc xs (x ∷ []) more) ∙ h

in_grown : (levels : ℕ) (xs all more : List Node) (m : ℕ) (v : Value) (g : Grows xs all) → tree_of levels (xs ++ (g.more ++ more)) m ≡ Some v → tree_of levels (all ++ more) m ≡ Some v
in_grown levels xs all more m v g h = ap (λ (ns : List Node). tree_of levels ns m) (ap (λ (x : List Node). x ++ more) g.is ∙ append_assoc xs g.more more) ∙ h

values_more : (piece : ℕ → Option Value) (m : ℕ) (items : List ℕ) (v : Value) (vs : Values) → piece m ≡ Some v → values_of piece items ≡ Some vs → values_of piece (m ∷ items) ≡ Some (value v vs)
values_more piece m items v vs e h = rw (e, h) refl

pairs_more : (piece : ℕ → Option Value) (m n : ℕ) (items : List (ℕ × ℕ)) (k v : Value) (ps : Pairs) → piece m ≡ Some k → piece n ≡ Some v → pairs_in_tree piece items ≡ Some ps → pairs_in_tree piece ((m, n) ∷ items) ≡ Some (pair k v ps)
pairs_more piece m n items k v ps e f h = rw (e, f, h) refl

mutual
  value_unfolds : (v : Value) (levels : ℕ) (nodes more : List Node) → IsValue levels v → tree_of levels (with_value nodes v ++ more) (last_of (with_value nodes v)) ≡ Some v
  value_unfolds v zero nodes more is = absurd is
  value_unfolds (leaf x) (suc levels) nodes more is = at_node levels _ _ (Some x) (leaf x) (node_at nodes more x) (leaf_tree _ x is)
  value_unfolds (tuple vs) (suc levels) nodes more is =
      let x : Node = kinds.Tuple (named_values nodes vs) in
      at_node levels _ _ (Some x) (tuple vs) (node_at (with_values nodes vs) more x)
      (ap (λ (o : Option Values). o >>= λ ws. Some (tuple ws)) (regroup (λ ns. values_of (tree_of levels ns) (named_values nodes vs)) (with_values nodes vs) more x (Some vs) (values_unfold vs levels nodes (x ∷ more) is)))
  value_unfolds (list vs) (suc levels) nodes more is =
      let x : Node = kinds.List (named_values nodes vs) in
      at_node levels _ _ (Some x) (list vs) (node_at (with_values nodes vs) more x)
      (ap (λ (o : Option Values). o >>= λ ws. Some (list ws)) (regroup (λ ns. values_of (tree_of levels ns) (named_values nodes vs)) (with_values nodes vs) more x (Some vs) (values_unfold vs levels nodes (x ∷ more) is)))
  value_unfolds (dict ps) (suc levels) nodes more is =
      let x : Node = kinds.Dict (named_pairs nodes ps) in
      at_node levels _ _ (Some x) (dict ps) (node_at (with_pairs nodes ps) more x)
      (ap (λ (o : Option Pairs). o >>= λ ws. Some (dict ws)) (regroup (λ ns. pairs_in_tree (tree_of levels ns) (named_pairs nodes ps)) (with_pairs nodes ps) more x (Some ps) (pairs_unfold ps levels nodes (x ∷ more) is)))
  value_unfolds (reference v) (suc levels) nodes more is =
      let x : Node = kinds.Reference (last_of (with_value nodes v)) in
      at_node levels _ _ (Some x) (reference v) (node_at (with_value nodes v) more x)
      (ap (λ (o : Option Value). o >>= λ w. Some (reference w)) (regroup (λ ns. tree_of levels ns (last_of (with_value nodes v))) (with_value nodes v) more x (Some v) (value_unfolds v levels nodes (x ∷ more) is)))

  values_unfold : (vs : Values) (levels : ℕ) (nodes more : List Node) → AreValues levels vs → values_of (tree_of levels (with_values nodes vs ++ more)) (named_values nodes vs) ≡ Some vs
  values_unfold no_values levels nodes more are = refl
  values_unfold (value v vs) levels nodes more are =
      let g = values_grow vs (with_value nodes v) in
      values_more (tree_of levels (with_values (with_value nodes v) vs ++ more)) (last_of (with_value nodes v)) (named_values (with_value nodes v) vs) v vs
      (in_grown levels (with_value nodes v) (with_values (with_value nodes v) vs) more (last_of (with_value nodes v)) v g (value_unfolds v levels nodes (g.more ++ more) are.0))
      (values_unfold vs levels (with_value nodes v) more are.1)

  pairs_unfold : (ps : Pairs) (levels : ℕ) (nodes more : List Node) → ArePairs levels ps → pairs_in_tree (tree_of levels (with_pairs nodes ps ++ more)) (named_pairs nodes ps) ≡ Some ps
  pairs_unfold no_pairs levels nodes more are = refl
  pairs_unfold (pair k v ps) levels nodes more are =
      let held = with_value (with_value nodes k) v in
      let g = pairs_grow ps held in
      let f = grows_all (with_value nodes k) held (with_pairs held ps) (value_grows v (with_value nodes k)) g in
      pairs_more (tree_of levels (with_pairs held ps ++ more)) (last_of (with_value nodes k)) (last_of held) (named_pairs held ps) k v ps
      (in_grown levels (with_value nodes k) (with_pairs held ps) more (last_of (with_value nodes k)) k f (value_unfolds k levels nodes (f.more ++ more) are.0))
      (in_grown levels held (with_pairs held ps) more (last_of held) v g (value_unfolds v levels (with_value nodes k) (g.more ++ more) are.1))
      (pairs_unfold ps levels held more are.2)

pub tree_unfolds : (levels : ℕ) (v : Value) → IsValue levels v → tree_of levels (with_value [] v) (last_of (with_value [] v)) ≡ Some v
tree_unfolds levels v is = ap (λ (ns : List Node). tree_of levels ns (last_of (with_value [] v))) (sym (append-nil (with_value [] v))) ∙ value_unfolds v levels [] [] is
