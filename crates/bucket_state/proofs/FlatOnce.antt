-- Graphs laid side by side in which no edge leads to a node to which another leads.
use Rattle.std.proofs.Common.{◌≡◌, ℕ, zero, suc, ◌+◌, ◌-◌, ◌<◌, ◌≤◌, Bool, true, false, cond, List, [], ◌∷◌, ◌++◌, map, length, Some, inl, inr, refl, sym, ◌∙◌, ap, subst, arith, eqb, eq-eqb, append_assoc, append-nil, length-append}
use Rattle.std.specs.Cmp.{both_ways}
use Rattle.std.proofs.lemmas.Bool.{cases_lt, le-ltb, eqb-true, ne_eqb}
use Rattle.pickle_graph.specs.declared.node.Node.{Node}
use Rattle.pickle_graph.specs.declared.node.Node.TheVariants as nodes
use Rattle.pickle_graph.specs.declared.node.Act.{Act}
use Rattle.pickle_graph.specs.declared.node.Act.TheVariants.{Append, Set, Build}
use Rattle.pickle_graph.specs.declared.parts.Part.TheVariants.{Byte}
use Rattle.pickle_writing.specs.declared.depth.TheConstants.{WALK_LIMIT}
use Rattle.pickle_graph.specs.Graph.{Graph, AllBelow}
use Rattle.pickle_graph.specs.Parts.{items_in, items_of, pair_parts, act_parts, list_parts, dict_parts}
use Rattle.pickle_graph.specs.Walks.{leads}
use Rattle.pickle_writing.specs.Shared.{times, ends_from, is_shared}
use Rattle.pickle_writing.specs.SharedLaws.{times-append}
use Rattle.bucket_state.specs.Written.{shifted, shifted_act, shifted_pair, Laid, no_graphs, laid_on, laid_all, closed, tuple_graph, link_graph}
use Rattle.bucket_state.proofs.Graphs.{below_more, below_shifted, length_laid, below_append}
use Rattle.bucket_state.proofs.Depths.{items_many, tuple_items}

-- ---- the ends of all edges

abbrev pub ends : List Node → List ℕ
ends [] = []
ends (x ∷ xs) = items_of (Some x) ++ ends xs

picked : (t : Bool) (m : ℕ) (xs : List ℕ) → times m (cond t xs []) ≤ times m xs
picked true m xs = omega arith
picked false m xs = omega arith

-- those of chosen nodes are among them
chosen_few : (chosen : ℕ → Bool) (i m : ℕ) (ns : List Node) → times m (ends_from chosen i ns) ≤ times m (ends ns)
chosen_few chosen i m [] = omega arith
chosen_few chosen i m (x ∷ xs) =
    let rest = chosen_few chosen (i + 1) m xs in
    let a = times-append m (cond (chosen i) (items_of (Some x)) []) (ends_from chosen (i + 1) xs) in
    let b = times-append m (items_of (Some x)) (ends xs) in
    let c = picked (chosen i) m (items_of (Some x)) in
    omega (arith, a, b, c, rest)

ends_append : (xs ys : List Node) → ends (xs ++ ys) ≡ ends xs ++ ends ys
ends_append [] ys = refl
ends_append (x ∷ xs) ys = ap (λ (ms : List ℕ). items_of (Some x) ++ ms) (ends_append xs ys) ∙ sym (append_assoc (items_of (Some x)) (ends xs) (ends ys))

-- ---- shifted nodes

abbrev pub raised : ℕ → List ℕ → List ℕ
raised by ms = map (λ n. by + n) ms

raised_append : (by : ℕ) (xs ys : List ℕ) → raised by (xs ++ ys) ≡ raised by xs ++ raised by ys
raised_append by [] ys = refl
raised_append by (x ∷ xs) ys = ap (λ (ms : List ℕ). (by + x) ∷ ms) (raised_append by xs ys)

list_items : (ms : List ℕ) → items_in (list_parts ms) ≡ ms
list_items [] = refl
list_items (a ∷ []) = refl
list_items (a ∷ b ∷ ms) = items_many (a ∷ b ∷ ms) 0x65

abbrev in_pairs : List (ℕ × ℕ) → List ℕ
in_pairs [] = []
in_pairs (pair ∷ pairs) = pair.0 ∷ pair.1 ∷ in_pairs pairs

pairs_many : (pairs : List (ℕ × ℕ)) (byte : ℕ) → items_in (pair_parts pairs ++ Byte byte ∷ []) ≡ in_pairs pairs
pairs_many [] byte = refl
pairs_many (pair ∷ pairs) byte = ap (λ (ms : List ℕ). pair.0 ∷ pair.1 ∷ ms) (pairs_many pairs byte)

dict_items : (pairs : List (ℕ × ℕ)) → items_in (dict_parts pairs) ≡ in_pairs pairs
dict_items [] = refl
dict_items (a ∷ []) = refl
dict_items (a ∷ b ∷ pairs) = pairs_many (a ∷ b ∷ pairs) 0x75

pairs_raised : (by : ℕ) (pairs : List (ℕ × ℕ)) → in_pairs (map (shifted_pair by) pairs) ≡ raised by (in_pairs pairs)
pairs_raised by [] = refl
pairs_raised by (pair ∷ pairs) = ap (λ (ms : List ℕ). (by + pair.0) ∷ (by + pair.1) ∷ ms) (pairs_raised by pairs)

acts_raised : (by : ℕ) (acts : List Act) → items_in (act_parts (map (shifted_act by) acts)) ≡ raised by (items_in (act_parts acts))
acts_raised by [] = refl
acts_raised by (Append n ∷ acts) = ap (λ (ms : List ℕ). (by + n) ∷ ms) (acts_raised by acts)
acts_raised by (Set n m ∷ acts) = ap (λ (ms : List ℕ). (by + n) ∷ (by + m) ∷ ms) (acts_raised by acts)
acts_raised by (Build n ∷ acts) = ap (λ (ms : List ℕ). (by + n) ∷ ms) (acts_raised by acts)

items_raised : (by : ℕ) (x : Node) → items_of (Some (shifted by x)) ≡ raised by (items_of (Some x))
items_raised by nodes.None = refl
items_raised by (nodes.Bool b) = refl
items_raised by (nodes.Number n) = refl
items_raised by (nodes.Wide b) = refl
items_raised by (nodes.Float b) = refl
items_raised by (nodes.Bytes b) = refl
items_raised by (nodes.OldText b) = refl
items_raised by (nodes.Text b) = refl
items_raised by (nodes.Global a b) = refl
items_raised by (nodes.Reference n) = refl
items_raised by (nodes.Tuple ms) = tuple_items (raised by ms) ∙ ap (raised by) (sym (tuple_items ms))
items_raised by (nodes.List ms) = list_items (raised by ms) ∙ ap (raised by) (sym (list_items ms))
items_raised by (nodes.Dict pairs) = dict_items (map (shifted_pair by) pairs) ∙ pairs_raised by pairs ∙ ap (raised by) (sym (dict_items pairs))
items_raised by (nodes.Object a b by_new acts) = ap (λ (ms : List ℕ). (by + a) ∷ (by + b) ∷ ms) (acts_raised by acts)

ends_raised : (by : ℕ) (xs : List Node) → ends (map (shifted by) xs) ≡ raised by (ends xs)
ends_raised by [] = refl
ends_raised by (x ∷ xs) = (λ k. items_raised by x k ++ ends_raised by xs k) ∙ sym (raised_append by (items_of (Some x)) (ends xs))

-- ---- how often a number stands among others

times_high : (m n : ℕ) (xs : List ℕ) → AllBelow n xs → n ≤ m → times m xs ≡ 0
times_high m n [] h l = refl
times_high m n (x ∷ xs) h l =
    let apart : eqb x m ≡ false = ne_eqb x m (λ e. omega (arith, h.0, l, e)) in
    let none : ◌≡◌ {A = ℕ} (cond (eqb x m) 1 0) 0 = ap (λ (t : Bool). cond t 1 0) apart in
    let rest = times_high m n xs h.1 l in
    omega (arith, none, rest)

times_low : (m by : ℕ) (xs : List ℕ) → m < by → times m (raised by xs) ≡ 0
times_low m by [] l = refl
times_low m by (x ∷ xs) l =
    let apart : eqb (by + x) m ≡ false = ne_eqb (by + x) m (λ e. omega (arith, l, e)) in
    let none : ◌≡◌ {A = ℕ} (cond (eqb (by + x) m) 1 0) 0 = ap (λ (t : Bool). cond t 1 0) apart in
    let rest = times_low m by xs l in
    omega (arith, none, rest)

same_raised : (by x k : ℕ) → eqb (by + x) (by + k) ≡ eqb x k
same_raised by x k = both_ways (eqb (by + x) (by + k)) (eqb x k)
    (λ e. eq-eqb x k (let f = eqb-true (by + x) (by + k) e in omega (arith, f)))
    (λ e. eq-eqb (by + x) (by + k) (let f = eqb-true x k e in omega (arith, f)))

times_raised : (by k : ℕ) (xs : List ℕ) → times (by + k) (raised by xs) ≡ times k xs
times_raised by k [] = refl
times_raised by k (x ∷ xs) = λ i. cond (same_raised by x k i) 1 0 + times_raised by k xs i

-- ---- each node once

-- no edge leads to the root, and one at most to each other node
pub record IsOnce (g : Graph) : Type 0 where
  pub once : (m : ℕ) → times m (g.root ∷ ends g.nodes) ≤ 1
  pub below : AllBelow (length g.nodes) (g.root ∷ ends g.nodes)

record AreOnce (laid : Laid) : Type 0 where
  once : (m : ℕ) → times m laid.roots + times m (ends laid.nodes) ≤ 1
  roots : AllBelow (length laid.nodes) laid.roots
  below : AllBelow (length laid.nodes) (ends laid.nodes)

abbrev pub EachOnce : List Graph → Type 0
EachOnce [] = Unit {0}
EachOnce (g ∷ gs) = IsOnce g × EachOnce gs

all_below_append : (n : ℕ) (xs ys : List ℕ) → AllBelow n xs → AllBelow n ys → AllBelow n (xs ++ ys)
all_below_append n [] ys h g = g
all_below_append n (x ∷ xs) ys h g = (h.0, all_below_append n xs ys h.1 g)

laid_ends : (laid : Laid) (g : Graph) → ends (laid_on laid g).nodes ≡ ends laid.nodes ++ raised (length laid.nodes) (ends g.nodes)
laid_ends laid g =
    ends_append laid.nodes (map (shifted (length laid.nodes)) g.nodes) ∙ ap (λ (ms : List ℕ). ends laid.nodes ++ ms) (ends_raised (length laid.nodes) g.nodes)

once_at : (laid : Laid) (g : Graph) → AreOnce laid → IsOnce g → (m : ℕ) → times m (laid_on laid g).roots + times m (ends (laid_on laid g).nodes) ≤ 1
once_at laid g h f m = elim (cases_lt m (length laid.nodes)) [
  | inl l ↦
      let n : ℕ = length laid.nodes in
      let a = times-append m laid.roots (raised n (g.root ∷ [])) in
      let b = ap (times m) (laid_ends laid g) ∙ times-append m (ends laid.nodes) (raised n (ends g.nodes)) in
      let c = times_low m n (g.root ∷ []) l in
      let d = times_low m n (ends g.nodes) l in
      let e = h.once m in
      omega (arith, a, b, c, d, e)
  | inr r ↦
      let n : ℕ = length laid.nodes in
      let k : ℕ = m - n in
      let is : n + k ≡ m = omega (arith, r) in
      let high : n ≤ n + k = omega arith in
      let a = times-append (n + k) laid.roots (raised n (g.root ∷ [])) in
      let b = ap (times (n + k)) (laid_ends laid g) ∙ times-append (n + k) (ends laid.nodes) (raised n (ends g.nodes)) in
      let c = times_raised n k (g.root ∷ []) in
      let d = times_raised n k (ends g.nodes) in
      let e = times_high (n + k) n laid.roots h.roots high in
      let i = times_high (n + k) n (ends laid.nodes) h.below high in
      let j = f.once k in
      subst (λ (x : ℕ). times x (laid_on laid g).roots + times x (ends (laid_on laid g).nodes) ≤ 1) is (omega (arith, a, b, c, d, e, i, j))
]

once_more : (laid : Laid) (g : Graph) → AreOnce laid → IsOnce g → AreOnce (laid_on laid g)
once_more laid g h f =
    let n : ℕ = length laid.nodes in
    let all : ℕ = length (laid_on laid g).nodes in
    let size : all ≡ n + length g.nodes = length_laid laid.nodes g.nodes in
    let more : n ≤ all = omega (arith, size) in
    let behind : AllBelow (n + length g.nodes) (raised n (g.root ∷ ends g.nodes)) = below_shifted n (length g.nodes) (g.root ∷ ends g.nodes) f.below in
    let after : AllBelow all (raised n (g.root ∷ ends g.nodes)) = subst (λ (k : ℕ). AllBelow k (raised n (g.root ∷ ends g.nodes))) (sym size) behind in
    record {
      once = once_at laid g h f;
      roots = below_append all laid.roots (n + g.root) (below_more n all laid.roots more h.roots) after.0;
      below = subst (AllBelow all) (sym (laid_ends laid g)) (all_below_append all (ends laid.nodes) (raised n (ends g.nodes)) (below_more n all (ends laid.nodes) more h.below) after.1);
    }

all_once : (laid : Laid) (gs : List Graph) → AreOnce laid → EachOnce gs → AreOnce (laid_all laid gs)
all_once laid [] h f = h
all_once laid (g ∷ gs) h f = all_once (laid_on laid g) gs (once_more laid g h f.0) f.1

none_once : AreOnce no_graphs
none_once = record { once = λ m. omega arith; roots = tt; below = tt }

closed_ends : (laid : Laid) → ends (closed laid).nodes ≡ ends laid.nodes ++ laid.roots
closed_ends laid =
    ends_append laid.nodes (nodes.Tuple laid.roots ∷ []) ∙ ap (λ (ms : List ℕ). ends laid.nodes ++ ms) (append-nil (items_of (Some (nodes.Tuple laid.roots))) ∙ tuple_items laid.roots)

at_most_one : (t : Bool) → cond t 1 0 ≤ 1
at_most_one true = omega arith
at_most_one false = omega arith

closed_at : (laid : Laid) → AreOnce laid → (m : ℕ) → times m (length laid.nodes ∷ ends (closed laid).nodes) ≤ 1
closed_at laid h m = elim (cases_lt m (length laid.nodes)) [
  | inl l ↦
      let n : ℕ = length laid.nodes in
      let a = ap (times m) (closed_ends laid) ∙ times-append m (ends laid.nodes) laid.roots in
      let apart : eqb n m ≡ false = ne_eqb n m (λ e. omega (arith, l, e)) in
      let b : ◌≡◌ {A = ℕ} (cond (eqb n m) 1 0) 0 = ap (λ (t : Bool). cond t 1 0) apart in
      let e = h.once m in
      omega (arith, a, b, e)
  | inr r ↦
      let n : ℕ = length laid.nodes in
      let a = ap (times m) (closed_ends laid) ∙ times-append m (ends laid.nodes) laid.roots in
      let b = at_most_one (eqb n m) in
      let c = times_high m n laid.roots h.roots r in
      let d = times_high m n (ends laid.nodes) h.below r in
      omega (arith, a, b, c, d)
]

closed_once : (laid : Laid) → AreOnce laid → IsOnce (closed laid)
closed_once laid h =
    let n : ℕ = length laid.nodes in
    let all : ℕ = length (closed laid).nodes in
    let size : all ≡ n + 1 = length-append laid.nodes (nodes.Tuple laid.roots ∷ []) in
    let more : n ≤ all = omega (arith, size) in
    record {
      once = closed_at laid h;
      below = (omega (arith, size), subst (AllBelow all) (sym (closed_ends laid)) (all_below_append all (ends laid.nodes) laid.roots (below_more n all (ends laid.nodes) more h.below) (below_more n all laid.roots more h.roots)));
    }

pub tuple_once : (gs : List Graph) → EachOnce gs → IsOnce (tuple_graph gs)
tuple_once gs f = closed_once (laid_all no_graphs gs) (all_once no_graphs gs none_once f)

-- ---- leaves and links

-- a graph without edges
pub edgeless_once : (g : Graph) → g.root < length g.nodes → ends g.nodes ≡ [] → IsOnce g
edgeless_once g low none = record {
  once = λ m. (let a = ap (times m) none in let b = at_most_one (eqb g.root m) in omega (arith, a, b));
  below = (low, subst (AllBelow (length g.nodes)) (sym none) tt);
}

link_times : (m : ℕ) → times m (3 ∷ 0 ∷ 1 ∷ 2 ∷ []) ≤ 1
link_times zero = omega arith
link_times (suc zero) = omega arith
link_times (suc (suc zero)) = omega arith
link_times (suc (suc (suc zero))) = omega arith
link_times (suc (suc (suc (suc m)))) =
    let none : times (suc (suc (suc (suc m)))) (3 ∷ 0 ∷ 1 ∷ 2 ∷ []) ≡ 0 = times_high (suc (suc (suc (suc m)))) 4 (3 ∷ 0 ∷ 1 ∷ 2 ∷ []) (omega arith, (omega arith, (omega arith, (omega arith, tt)))) (omega arith) in
    omega (arith, none)

pub link_once : (oid : ℕ) (m k : List ℕ) → IsOnce (link_graph oid m k)
unfolding link_graph
link_once oid m k = record { once = link_times; below = (omega arith, (omega arith, (omega arith, (omega arith, tt)))) }

-- ---- nothing is shared

pub none_shared : (g : Graph) → IsOnce g → (m : ℕ) → is_shared g.nodes g.root m ≡ false
none_shared g h m =
    let few = chosen_few (leads WALK_LIMIT g.nodes g.root) 0 m g.nodes in
    let one = h.once m in
    le-ltb 1 (times m (g.root ∷ ends_from (leads WALK_LIMIT g.nodes g.root) 0 g.nodes)) (omega (arith, few, one))
