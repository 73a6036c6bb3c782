-- A link of a bucket stands apart from its items; and what is written of an object with others below it reads back.
use Rattle.std.proofs.Common.{◌≡◌, ℕ, ◌+◌, Bool, true, false, cond, List, [], ◌∷◌, ◌++◌, length, Option, Some, None, inl, inr, refl, sym, ◌∙◌, ap, subst, arith, append_assoc, append-nil}
use Rattle.std.specs.Prelude.{slice_get}
use Rattle.std.specs.Option.{option_map, option_and_then}
use Rattle.std.proofs.lemmas.Bool.{cases_lt}
use Rattle.byteorder.specs.Endian.{big_bytes}
use Rattle.pickle_graph.specs.declared.node.Node.{Node}
use Rattle.pickle_graph.specs.declared.node.Node.TheVariants as nodes
use Rattle.pickle_reading.specs.declared.reading.TheConstants.{NODE_LIMIT}
use Rattle.pickle_graph.specs.Graph.{Graph}
use Rattle.pickle_round_trip.specs.Laws.{WrittenReadsBack}
use Rattle.pickle_references.specs.Named.{with_name}
use Rattle.pickle_references.specs.References.{named_by, oid_of}
use Rattle.pickle_graph.specs.Same.{IsSame}
use Rattle.pickle_writing.specs.Spelling.{spelling_of, pickled, root_piece}
use Rattle.btree_family.specs.declared.key.Key.{Key}
use Rattle.btree_family.specs.declared.key.Key.TheVariants as keys
use Rattle.btree_family.specs.declared.table.KeyKind.{KeyKind}
use Rattle.btree_family.specs.declared.table.ValueKind.{ValueKind}
use Rattle.btree_family.specs.declared.bucket.Item.{Item}
use Rattle.btree_family.specs.Classes.{Class}
use Rattle.btree_family.specs.Families.{key_fits}
use Rattle.btree_family.specs.Buckets.{IsSpelling, IsValue, AreValues}
use Rattle.bucket_state.specs.declared.entries.Entry.{Entry}
use Rattle.bucket_state.specs.declared.tree.Branch.{Branch}
use Rattle.bucket_state.specs.declared.tree.TreeState.TheVariants.{Children}
use Rattle.bucket_state.specs.States.{found_both, found_all, tuple_in, key_in, fitting_key, key_at, value_fits, spelled_text, fitting_value, family_value_at, pair_entries, member_items, state_items, one_oid, link_in, link_at, with_next, linked, bucket_in}
use Rattle.bucket_state.specs.Trees.{branch_at, standing_branches, branches_in, children_in, tree_in}
use Rattle.bucket_state.specs.Written.{shifted, key_node, key_graph, link_graph, value_pickle, value_graph, graph_found, leaf_graph, Laid, no_graphs, laid_on, laid_all, closed, tuple_graph, with_value, item_graphs, child_graphs}
use Rattle.bucket_state.specs.Laws.{oid_back, with_link, LinkStandsApart, branch_back, branches_back, WrittenInnerReadsBack}
use Rattle.bucket_state.proofs.Back.{Extends, laid_extends, laid_within, first_extends, closed_extends, closed_root, tuple_last}
use Rattle.bucket_state.proofs.Graphs.{get_front}
use Rattle.bucket_state.proofs.Members.{EachPair, members_same}
use Rattle.bucket_state.proofs.Parts.{copied}
use Rattle.bucket_state.proofs.Shifts.{AllNameBelow, Within, copies_below, as_many, spelled_within}
use Rattle.bucket_state.proofs.Sound.{in_range}

-- ---- graphs that name their own nodes

record IsOwn (g : Graph) : Type 0 where
  below : AllNameBelow (length g.nodes) g.nodes
  root : Node
  rooted : slice_get g.nodes g.root ≡ Some root

abbrev EachOwn : List Graph → Type 0
EachOwn [] = Unit {0}
EachOwn (g ∷ gs) = IsOwn g × EachOwn gs

key_own : (key : Key) → IsOwn (key_graph key)
key_own (keys.Text text) = record { below = (tt, tt); root = nodes.Text text; rooted = refl }
key_own (keys.Bytes bytes) = record { below = (tt, tt); root = nodes.Bytes bytes; rooted = refl }
key_own (keys.Number n) = record { below = (tt, tt); root = nodes.Number n; rooted = refl }

none_own : IsOwn (leaf_graph nodes.None)
none_own = record { below = (tt, tt); root = nodes.None; rooted = refl }

-- what a spelling is read as
value_own : WrittenReadsBack → (text : List ℕ) → IsSpelling text → IsOwn (value_graph text)
unfolding value_graph
value_own law text s =
    let back = law s.graph (value_pickle text) s.sound (ap pickled s.spelled) in
    elim (cases_lt NODE_LIMIT (root_piece s.graph.nodes s.graph.root).made) [
      | inl l ↦
          let refused = back.beyond l in
          let is : value_graph text ≡ leaf_graph nodes.None = ap graph_found refused.refused in
          subst IsOwn (sym is) none_own
      | inr g ↦
          let read = back.within g in
          let copy : Graph = read.copy in
          let is : value_graph text ≡ copy = ap graph_found read.reads in
          let same : IsSame s.graph copy = read.same in
          let root = copied same.origin s.graph.nodes copy.nodes same.origin copy.root s.graph.root same.each same.root in
          let many = as_many same.origin s.graph.nodes copy.nodes same.origin same.each in
          let own : IsOwn copy = record {
            below = subst (λ (k : ℕ). AllNameBelow k copy.nodes) many (copies_below same.origin s.graph.nodes copy.nodes same.origin same.each);
            root = root.0;
            rooted = root.1;
          } in
          subst IsOwn (sym is) own
    ]

with_own : (o : Option (List ℕ)) (gs : List Graph) → WrittenReadsBack → IsValue o → EachOwn gs → EachOwn (with_value o gs)
with_own None gs law v h = h
with_own (Some text) gs law v h = (value_own law text v, h)

items_own : WrittenReadsBack → (items : List Item) → AreValues items → EachOwn (item_graphs items)
items_own law [] v = tt
items_own law (item ∷ items) v = (key_own item.key, with_own item.value (item_graphs items) law v.0 (items_own law items v.1))

-- ---- roots of graphs that lie in two lists

-- the same node, spelled alike
record Agree (big other : List Node) (x y : ℕ) : Type 0 where
  one : x ≡ y
  node : slice_get big x ≡ slice_get other x
  spelled : spelling_of big x ≡ spelling_of other x

pair_append : (R : ℕ → ℕ → Type 0) (xs : List ℕ) (x : ℕ) → EachPair R xs xs → R x x → EachPair R (xs ++ x ∷ []) (xs ++ x ∷ [])
pair_append R [] x h g = (g, tt)
pair_append R (y ∷ ys) x h g = (h.0, pair_append R ys x h.1 g)

all_extends : (laid : Laid) (gs : List Graph) → Extends laid.nodes (laid_all laid gs).nodes
all_extends laid [] n x h = h
all_extends laid (g ∷ gs) n x h = all_extends (laid_on laid g) gs n x (laid_extends laid g n x h)

module _ (big other : List Node) where
  root_agrees : (laid : Laid) (g : Graph) → IsOwn g → Extends (laid_on laid g).nodes big → Extends (laid_on laid g).nodes other → Agree big other (length laid.nodes + g.root) (length laid.nodes + g.root)
  root_agrees laid g own one two =
      let by : ℕ = length laid.nodes in
      let here : Within big g.nodes by = laid_within laid g big one in
      let there : Within other g.nodes by = laid_within laid g other two in
      let low = in_range g.nodes g.root own.root own.rooted in
      record {
        one = refl;
        node = here g.root own.root own.rooted ∙ sym (there g.root own.root own.rooted);
        spelled = spelled_within big g.nodes by g.root here own.below low ∙ sym (spelled_within other g.nodes by g.root there own.below low);
      }

  roots_agree : (laid : Laid) (gs : List Graph) → EachOwn gs → Extends (laid_all laid gs).nodes big → Extends (laid_all laid gs).nodes other → EachPair (Agree big other) laid.roots laid.roots → EachPair (Agree big other) (laid_all laid gs).roots (laid_all laid gs).roots
  roots_agree laid [] own one two h = h
  roots_agree laid (g ∷ gs) own one two h =
      let a : Extends (laid_on laid g).nodes big = λ n x e. one n x (all_extends (laid_on laid g) gs n x e) in
      let b : Extends (laid_on laid g).nodes other = λ n x e. two n x (all_extends (laid_on laid g) gs n x e) in
      roots_agree (laid_on laid g) gs own.1 one two (pair_append (Agree big other) laid.roots (length laid.nodes + g.root) h (root_agrees laid g own.0 a b))

  agree_key : (kind : KeyKind) (x y : ℕ) → Agree big other x y → key_at kind big x ≡ key_at kind other y
  agree_key kind x y a = ap (λ (o : Option Node). option_and_then (fitting_key kind) (key_in o)) a.node ∙ ap (key_at kind other) a.one

  agree_value : (kind : ValueKind) (x y : ℕ) → Agree big other x y → family_value_at kind big x ≡ family_value_at kind other y
  agree_value kind x y a = by_node (slice_get big x) (slice_get other x) a.node ∙ ap (family_value_at kind other) a.one
    where
      one_node : (o : Option Node) → option_and_then (fitting_value kind big x) o ≡ option_and_then (fitting_value kind other x) o
      one_node None = refl
      one_node (Some node) = ap (λ s. cond (value_fits kind node) (spelled_text s) None) a.spelled

      by_node : (o p : Option Node) → o ≡ p → option_and_then (fitting_value kind big x) o ≡ option_and_then (fitting_value kind other x) p
      by_node o p e = one_node o ∙ ap (option_and_then (fitting_value kind other x)) e

  -- the tuple of items holds the same in both
  tuples_agree : (class : Class) (gs : List Graph) → EachOwn gs → Extends (tuple_graph gs).nodes big → Extends (tuple_graph gs).nodes other → state_items class big (0 + (tuple_graph gs).root) ≡ state_items class other (0 + (tuple_graph gs).root)
  tuples_agree class gs own one two =
      let fin : Laid = laid_all no_graphs gs in
      let place : 0 + length fin.nodes ≡ length fin.nodes = omega arith in
      let here : slice_get big (0 + length fin.nodes) ≡ Some (nodes.Tuple fin.roots) = ap (slice_get big) place ∙ one (length fin.nodes) (nodes.Tuple fin.roots) (tuple_last fin.nodes fin.roots) in
      let there : slice_get other (0 + length fin.nodes) ≡ Some (nodes.Tuple fin.roots) = ap (slice_get other) place ∙ two (length fin.nodes) (nodes.Tuple fin.roots) (tuple_last fin.nodes fin.roots) in
      let a : Extends fin.nodes big = λ n x h. one n x (get_front fin.nodes (nodes.Tuple fin.roots ∷ []) n x h) in
      let b : Extends fin.nodes other = λ n x h. two n x (get_front fin.nodes (nodes.Tuple fin.roots ∷ []) n x h) in
      ap (λ (o : Option Node). option_and_then (member_items class big) (tuple_in o)) here
      ∙ members_same big other (Agree big other) agree_key agree_value class fin.roots fin.roots (roots_agree no_graphs gs own a b tt)
      ∙ sym (ap (λ (o : Option Node). option_and_then (member_items class other) (tuple_in o)) there)

-- ---- links

-- a link that lies within gives the number that its eight bytes give
link_back : (oid : ℕ) (m n : List ℕ) (laid : Laid) (big : List Node) → Extends (laid_on laid (link_graph oid m n)).nodes big → link_at big (length laid.nodes + (link_graph oid m n).root) ≡ Some (oid_back oid)
unfolding link_graph
link_back oid m n laid big ext =
    let by : ℕ = length laid.nodes in
    let within : Within big (link_graph oid m n).nodes by = laid_within laid (link_graph oid m n) big ext in
    let at3 : slice_get big (by + 3) ≡ Some (nodes.Reference (by + 2)) = within 3 (nodes.Reference 2) refl in
    let at2 : slice_get big (by + 2) ≡ Some (nodes.Tuple ((by + 0) ∷ (by + 1) ∷ [])) = within 2 (nodes.Tuple (0 ∷ 1 ∷ [])) refl in
    let at0 : slice_get big (by + 0) ≡ Some (nodes.Bytes (big_bytes 8 oid)) = within 0 (nodes.Bytes (big_bytes 8 oid)) refl in
    ap (link_in big) at3
    ∙ ap (λ (o : Option Node). one_oid (with_name (named_by big o) (Some []))) at2
    ∙ ap (λ (o : Option Node). one_oid (with_name (oid_of o) (Some []))) at0

link_so : (oid : ℕ) (found : Option (List Item)) → linked (Some oid) found ≡ with_link oid (with_next None found)
link_so oid None = refl
link_so oid (Some items) = refl

pub links_apart : WrittenReadsBack → LinkStandsApart
links_apart law class leaf items oid v =
    let t : Graph = tuple_graph (item_graphs items) in
    let outer : Laid = laid_on no_graphs t in
    let g : Graph = link_graph oid leaf.module_name leaf.class_name in
    let both : Laid = laid_on outer g in
    let big : List Node = (closed both).nodes in
    let plain : List Node = (closed outer).nodes in
    let one : Extends t.nodes big = λ n x h. closed_extends both n x (laid_extends outer g n x (first_extends t n x h)) in
    let two : Extends t.nodes plain = λ n x h. closed_extends outer n x (first_extends t n x h) in
    let same = tuples_agree big plain class (item_graphs items) (items_own law items v) one two in
    let link = link_back oid leaf.module_name leaf.class_name outer big (closed_extends both) in
    ap (λ (o : Option Node). option_and_then (bucket_in class big) (tuple_in o)) (closed_root both)
    ∙ (λ i. linked (link i) (same i))
    ∙ link_so (oid_back oid) (state_items class plain (0 + t.root))
    ∙ ap (with_link (oid_back oid)) (sym (ap (λ (o : Option Node). option_and_then (bucket_in class plain) (tuple_in o)) (closed_root outer)))

-- ---- objects with others below them

key_shifted : (by : ℕ) (key : Key) → key_in (Some (shifted by (key_node key))) ≡ Some key
key_shifted by (keys.Text text) = refl
key_shifted by (keys.Bytes bytes) = refl
key_shifted by (keys.Number n) = refl

key_back : (kind : KeyKind) (key : Key) (laid : Laid) (big : List Node) → Extends (laid_on laid (key_graph key)).nodes big → key_at kind big (length laid.nodes + 0) ≡ fitting_key kind key
key_back kind key laid big ext =
    let there : slice_get big (length laid.nodes + 0) ≡ Some (shifted (length laid.nodes) (key_node key)) = laid_within laid (key_graph key) big ext 0 (key_node key) refl in
    ap (λ (o : Option Node). option_and_then (fitting_key kind) (key_in o)) there ∙ ap (option_and_then (fitting_key kind)) (key_shifted (length laid.nodes) key)

fit_branch : (kind : KeyKind) (branch : Branch) → found_both (λ key child. record { key = key; child = child }) (fitting_key kind branch.key) (Some (oid_back branch.child)) ≡ branch_back kind branch
fit_branch kind branch = by_test (key_fits kind branch.key)
  where
    by_test : (t : Bool) → found_both (λ key child. record { key = key; child = child }) (cond t (Some branch.key) None) (Some (oid_back branch.child)) ≡ cond {A = Option Branch} t (Some (record { key = branch.key; child = oid_back branch.child })) None
    by_test true = refl
    by_test false = refl

-- the roots that branches add, and what they are read as wherever the nodes lie
record Rooted (kind : KeyKind) (start end : Laid) (branches : List Branch) : Type 0 where
  roots : List ℕ
  added : end.roots ≡ start.roots ++ roots
  kept : Extends start.nodes end.nodes
  entries : List Entry
  told : pair_entries roots ≡ Some entries
  read : (big : List Node) → Extends end.nodes big → found_all (branch_at kind big) entries ≡ branches_back kind branches

tail_back : (kind : KeyKind) (child : Class) (laid : Laid) (branches : List Branch) → Rooted kind laid (laid_all laid (child_graphs child branches)) branches
tail_back kind child laid [] = record { roots = []; added = sym (append-nil laid.roots); kept = λ n x h. h; entries = []; told = refl; read = λ big ext. refl }
tail_back kind child laid (branch ∷ branches) =
    let one : Laid = laid_on laid (key_graph branch.key) in
    let g : Graph = link_graph branch.child child.module_name child.class_name in
    let two : Laid = laid_on one g in
    let rest = tail_back kind child two branches in
    let at : ℕ = length laid.nodes + 0 in
    let to : ℕ = length one.nodes + g.root in
    record {
      roots = at ∷ to ∷ rest.roots;
      added = rest.added ∙ append_assoc (laid.roots ++ at ∷ []) (to ∷ []) rest.roots ∙ append_assoc laid.roots (at ∷ []) (to ∷ rest.roots);
      kept = λ n x h. rest.kept n x (laid_extends one g n x (laid_extends laid (key_graph branch.key) n x h));
      entries = record { key = at; value = Some to } ∷ rest.entries;
      told = ap (option_map (λ (es : List Entry). record { key = at; value = Some to } ∷ es)) rest.told;
      read = λ big ext.
          let wide : Extends two.nodes big = λ n x h. ext n x (rest.kept n x h) in
          let first = key_back kind branch.key laid big (λ n x h. wide n x (laid_extends one g n x h)) in
          let second = link_back branch.child child.module_name child.class_name one big wide in
          let later = rest.read big ext in
          (λ i. found_both (λ y ys. y ∷ ys) (found_both (λ k c. record { key = k; child = c }) (first i) (second i)) (later i))
          ∙ ap (λ (b : Option Branch). found_both (λ y ys. y ∷ ys) b (branches_back kind branches)) (fit_branch kind branch);
    }

found_tail : (head first : ℕ) (o : Option (List Branch)) →
    found_both (λ (found : ℕ × List Branch) oid. Children (record { head = found.0; tail = found.1; first = oid })) (found_both (λ oid branches. (oid, branches)) (Some head) o) (Some first)
    ≡ option_map (λ tail. Children (record { head = head; tail = tail; first = first })) o
found_tail head first None = refl
found_tail head first (Some branches) = refl

pub written_inner : WrittenInnerReadsBack
written_inner class child leaf inner =
    let head : Graph = link_graph inner.head child.module_name child.class_name in
    let first : Graph = link_graph inner.first leaf.module_name leaf.class_name in
    let start : Laid = laid_on no_graphs head in
    let fin : Laid = laid_all start (child_graphs child inner.tail) in
    let t : Graph = closed fin in
    let outer : Laid = laid_on no_graphs t in
    let both : Laid = laid_on outer first in
    let big : List Node = (closed both).nodes in
    let inside : Extends t.nodes big = λ n x h. closed_extends both n x (laid_extends outer first n x (first_extends t n x h)) in
    let all : Extends fin.nodes big = λ n x h. inside n x (closed_extends fin n x h) in
    let tail = tail_back class.key child start inner.tail in
    let head_at : link_at big (0 + head.root) ≡ Some (oid_back inner.head) = link_back inner.head child.module_name child.class_name no_graphs big (λ n x h. all n x (tail.kept n x h)) in
    let first_at : link_at big (length outer.nodes + first.root) ≡ Some (oid_back inner.first) = link_back inner.first leaf.module_name leaf.class_name outer big (closed_extends both) in
    let place : 0 + length fin.nodes ≡ length fin.nodes = omega arith in
    let there : slice_get big (0 + length fin.nodes) ≡ Some (nodes.Tuple fin.roots) = ap (slice_get big) place ∙ inside (length fin.nodes) (nodes.Tuple fin.roots) (tuple_last fin.nodes fin.roots) in
    let members : option_and_then (children_in class.key big) (tuple_in (slice_get big (0 + length fin.nodes))) ≡ found_both (λ oid branches. (oid, branches)) (Some (oid_back inner.head)) (option_and_then standing_branches (branches_back class.key inner.tail)) =
    ap (λ (o : Option Node). option_and_then (children_in class.key big) (tuple_in o)) there
    ∙ ap (children_in class.key big) tail.added
    ∙ (λ i. found_both (λ oid branches. (oid, branches)) (head_at i) (branches_in class.key big tail.roots))
    ∙ ap (λ (o : Option (List Entry)). found_both (λ oid branches. (oid, branches)) (Some (oid_back inner.head)) (option_and_then standing_branches (option_and_then (found_all (branch_at class.key big)) o))) tail.told
    ∙ ap (λ (o : Option (List Branch)). found_both (λ oid branches. (oid, branches)) (Some (oid_back inner.head)) (option_and_then standing_branches o)) (tail.read big all) in
    ap (tree_in class big) (closed_root both)
    ∙ (λ i. found_both (λ (found : ℕ × List Branch) oid. Children (record { head = found.0; tail = found.1; first = oid })) (members i) (first_at i))
    ∙ found_tail (oid_back inner.head) (oid_back inner.first) (option_and_then standing_branches (branches_back class.key inner.tail))
