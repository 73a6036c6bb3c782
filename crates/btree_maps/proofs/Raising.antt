-- What a set makes of a subtree, from the leaf up.
use Rattle.std.proofs.Common.{◌≡◌, ℕ, ◌/◌, ◌≤◌, ◌<◌, Bool, true, false, List, [], ◌∷◌, ◌++◌, Option, Some, None, refl, arith, sym, ◌∙◌, ap, subst, zero, suc, inl, inr}
use Rattle.std.specs.Prelude.{map, length, nat_lt, ◌&&◌}
use Rattle.std.proofs.lemmas.Grind.{common_steps}
use Rattle.btree_family.specs.declared.key.Key.{Key}
use Rattle.btree_family.specs.Keys.{rank_of}
use Rattle.btree_family.specs.Rising.{Rises}
use Rattle.bucket_state.specs.declared.tree.Branch.{Branch}
use Rattle.bucket_state.specs.declared.tree.Inner.{Inner}
use Rattle.bucket_state.specs.Trees.{separators_of}
use Rattle.btree_shapes.specs.declared.node.Node.{Node}
use Rattle.btree_shapes.specs.declared.node.Node.TheVariants as node
use Rattle.btree_shapes.specs.Nodes.{Held}
use Rattle.btree_shapes.specs.Ways.{stands_in}
use Rattle.btree_shapes.specs.Shapes.{Shape, Limb, oid_of, branch_of, IsFrom, IsUpTo, Bounded, nodes_in, links_of, first_leaf}
use Rattle.btree_putting.specs.declared.puts.Put.{Put}
use Rattle.btree_setting.specs.Types.{Bottom, Place, Sprout, Change, Terms, Rung}
use Rattle.btree_setting.specs.Types as place
use Rattle.btree_setting.specs.Inserting.{set_item, insert_branch}
use Rattle.btree_putting.specs.Puts.{put_oid, leaf_node, inner_node}
use Rattle.btree_setting.specs.Changes.{leaf_grows, IsSet, IsLeafSet, Rise, grown, branch_up, seam_first, BranchesCut}
use Rattle.btree_shapes.specs.ChainLaws.{Avoids, Distinct}
use Rattle.btree_maps.proofs.Limbs.{sprout_of, sprouts_of, keys_up, insert_sprout, insert_up, branches_up, separators_up, insert_branches, sprouts_append, sprouts_length, branches_length, Fine, OldShape, old_head, old_tail}
use Rattle.btree_maps.proofs.Seams.{SeamRight}
use Rattle.btree_maps.proofs.Rungs.{inner_of, RungsIn, rungs_there, grown_length}
use Rattle.btree_maps.proofs.Growing.{Grown, grow_limbs, grow_fits, grow_splits, grow_whole, grow_leaf}
use Rattle.btree_maps.proofs.Putting.{AllPut, all_parts}
use Rattle.btree_maps.proofs.Onways.{not_below}

-- ---- lists in parts

-- a list in parts, by what a function gives
pub record MapCut {X Y : Type 0} (p : X → Y) (xs : List X) (left : List Y) (y : Y) (right : List Y) : Type 0 where
  pub front : List X
  pub at : X
  pub behind : List X
  pub cut : xs ≡ front ++ at ∷ behind
  pub left_is : map p front ≡ left
  pub at_is : p at ≡ y
  pub right_is : map p behind ≡ right

pub map_cut : {X Y : Type 0} (p : X → Y) (xs : List X) (left : List Y) (y : Y) (right : List Y) → map p xs ≡ left ++ y ∷ right → MapCut p xs left y right
map_cut p [] [] y right e = absurd cc
map_cut p [] (z ∷ zs) y right e = absurd cc
map_cut p (x ∷ xs) [] y right e = record { front = []; at = x; behind = xs; cut = refl; left_is = refl; at_is = (let q : p x ≡ y = cc in q); right_is = (let q : map p xs ≡ right = cc in q) }
map_cut p (x ∷ xs) (z ∷ zs) y right e =
    let q : map p xs ≡ zs ++ y ∷ right = cc in
    let h : p x ≡ z = cc in
    let r = map_cut p xs zs y right q in
    record { front = x ∷ r.front; at = r.at; behind = r.behind; cut = ap (λ ys. x ∷ ys) r.cut; left_is = ap (λ z. z ∷ map p r.front) h ∙ ap (λ zs. z ∷ zs) r.left_is; at_is = r.at_is; right_is = r.right_is }

lt_holds : (a b : ℕ) → nat_lt a b ≡ true → a < b
lt_holds a b e = grind (arith, common_steps)

and_right : (a b : Bool) → (a && b) ≡ true → b ≡ true
and_right true b e = e
and_right false b e = absurd cc

-- a leaf that grows has more items than it may
pub grows_more : (max : ℕ) (b : Bottom) → leaf_grows max b ≡ true → max < length b.leaf.items
grows_more max b e = lt_holds max (length b.leaf.items) (and_right b.adds (nat_lt max (length b.leaf.items)) e)

-- ---- what a split of an object above makes

-- the children of an object in two parts, with the first leaf of the second
pub record InParts (h : ℕ) (tail : List (Limb (Shape h))) (left : List Branch) (middle : Branch) (right : List Branch) (first : ℕ) : Type 0 where
  pub front : List (Limb (Shape h))
  pub at : Limb (Shape h)
  pub behind : List (Limb (Shape h))
  pub cut : tail ≡ front ++ at ∷ behind
  pub left_is : map (branch_of h) front ≡ left
  pub at_is : branch_of h at ≡ middle
  pub right_is : map (branch_of h) behind ≡ right
  pub some : 0 < length front
  pub first_is : first ≡ first_leaf h at.child

pub in_parts : (max : ℕ) (key : Key) (h : ℕ) (old tail : List (Limb (Shape h))) (x : Rung) (up : Sprout) (left : List Branch) (middle : Branch) (right : List Branch) → 3 ≤ max → x.inner.tail ≡ map (branch_of h) old → sprouts_of h tail ≡ insert_sprout up key (sprouts_of h old) → max ≤ length (grown key x up) → BranchesCut (grown key x up) left middle right → SeamRight key (sprouts_of h old) x.seam → InParts h tail left middle right (seam_first x.seam up)
in_parts max key h old tail x up left middle right three olds news more c seam =
    let whole : map (branch_of h) tail ≡ left ++ middle ∷ right =
    branches_up h tail ∙ ap (map branch_up) news ∙ insert_branches up key (sprouts_of h old) ∙ ap (insert_branch (branch_up up) key) (sym (branches_up h old)) ∙ ap (insert_branch (branch_up up) key) (sym olds) ∙ c.cut in
    let m = map_cut (branch_of h) tail left middle right whole in
    let len : length m.front ≡ length left = sym (branches_length h m.front) ∙ ap length m.left_is in
    let all : length (grown key x up) ≡ suc (length old) = grown_length key x up ∙ ap (λ (bs : List Branch). suc (length bs)) olds ∙ ap suc (branches_length h old) in
    let ups : length (sprouts_of h m.front) ≡ length m.front = sprouts_length h m.front in
    let olds' : length (sprouts_of h old) ≡ length old = sprouts_length h old in
    let half : length (sprouts_of h m.front) ≡ length (sprouts_of h old) / 2 = omega (arith, len, all, ups, olds', c.half) in
    let cut : insert_sprout up key (sprouts_of h old) ≡ sprouts_of h m.front ++ sprout_of h m.at ∷ sprouts_of h m.behind = sym news ∙ ap (sprouts_of h) m.cut ∙ sprouts_append h m.front (m.at ∷ m.behind) in
    record {
      front = m.front;
      at = m.at;
      behind = m.behind;
      cut = m.cut;
      left_is = m.left_is;
      at_is = m.at_is;
      right_is = m.right_is;
      some = omega (arith, len, all, ups, olds', c.half, more, three);
      first_is = seam up (sprouts_of h m.front) (sprout_of h m.at) (sprouts_of h m.behind) cut half;
    }

pub up_sprouts : (h : ℕ) (tail : List (Limb (Shape h))) (key : Key) (old : List Sprout) (u : Option Sprout) (up : Sprout) → u ≡ Some up → sprouts_of h tail ≡ insert_up u key old → sprouts_of h tail ≡ insert_sprout up key old
up_sprouts h tail key old u up e s = s ∙ ap (λ z. insert_up z key old) e

pub none_some : (u : Option Sprout) (up : Sprout) → u ≡ None → u ≡ Some up → ⊥
none_some u up n s = cc

-- ---- subtrees

module _ (objects : ℕ → Held) (nodes' : ℕ → Option Node) (kind : ℕ) (value : Option (List ℕ)) (terms : Terms) (bottom : Bottom) (oids : List ℕ) (rank : rank_of terms.key ≡ kind) (two : 2 ≤ terms.leaf) (three : 3 ≤ terms.inner)
    (rising : (oid : ℕ) (i : Inner) → nodes_in objects oid ≡ Some (node.Inner i) → Rises None (separators_of i.tail))
    (keep : (h : ℕ) (t : Shape h) → OldShape (nodes_in objects) oids kind h t → Avoids bottom.oid (links_of h t) → Fine nodes' kind h t) where
  abbrev pub G : (h : ℕ) → Option Key → Option Key → Option Sprout → Shape h → List (Limb (Shape h)) → Type 0
  G h low high u c ls = Grown nodes' kind terms.key value bottom.oid h low high u c ls

  abbrev pub In' : (h : ℕ) → Shape h → List Rung → Type 0
  In' h s rungs = RungsIn objects value terms bottom h s rungs

  abbrev pub OldShape' : (h : ℕ) → Shape h → Type 0
  OldShape' h s = OldShape (nodes_in objects) oids kind h s

  -- without a new child above, all other nodes stay
  abbrev pub Rest : Change → Type 0
  Rest c = c.up ≡ None → (p : ℕ) → stands_in oids p ≡ false → stands_in (map put_oid c.olds) p ≡ false → nodes' p ≡ nodes_in objects p

  -- one object, once its children are grown
  risen : (h : ℕ) (low high : Option Key) (s : Shape (suc h)) (x : Rung) (xs : List Rung) (b c : Change) → OldShape' (suc h) s → In' (suc h) s (x ∷ xs) → (sb : IsSet terms bottom xs b)
      → (AllPut nodes' b.news → AllPut nodes' b.olds → Rest b → G h low high b.up s.head s.tail)
      → Rise terms.inner terms.key terms.plain x b c → AllPut nodes' c.news → AllPut nodes' c.olds → Rest c → G (suc h) low high c.up s []
  risen h low high s x xs b c o r sb kids (inl a) pn po rs =
      let up : c.up ≡ None = ap (λ (y : Change). y.up) a.is ∙ a.none in
      let k = kids (subst (λ (y : Change). AllPut nodes' y.news) a.is pn) (subst (λ (y : Change). AllPut nodes' y.olds) a.is po) (subst Rest a.is rs) in
      let out : stands_in (map put_oid c.olds) s.oid ≡ false = ap (λ (y : Change). stands_in (map put_oid y.olds) s.oid) a.is ∙ not_below objects kind value terms bottom oids h s x xs b o r sb in
      let stay : nodes' s.oid ≡ Some (inner_node (oid_of h s.head) (map (branch_of h) s.tail) s.first) = rs up s.oid o.1.0 out ∙ o.0.0.0 in
      let e : nodes' s.oid ≡ Some (inner_node (oid_of h s.head) (map branch_up (insert_up b.up terms.key (sprouts_of h s.tail))) s.first) =
      stay ∙ ap (λ bs. Some (inner_node (oid_of h s.head) bs s.first)) (branches_up h s.tail ∙ ap (λ u. map branch_up (insert_up u terms.key (sprouts_of h s.tail))) (sym a.none)) in
      subst (λ u. G (suc h) low high u s []) (sym up) (grow_fits nodes' kind terms.key value bottom.oid h low high s b.up k e o.0.1.0)
  risen h low high s x xs b c o r sb kids (inr (inl a)) pn po rs =
      let up : c.up ≡ None = ap (λ (y : Change). y.up) a.is in
      let put : Put = record { oid = x.oid; class = x.class; leaves = x.leaves; node = inner_node x.inner.head (grown terms.key x a.up) x.inner.first } in
      let po' : AllPut nodes' (b.olds ++ put ∷ []) = subst (λ (y : Change). AllPut nodes' y.olds) a.is po in
      let pp = all_parts nodes' b.olds (put ∷ []) po' in
      let k = kids (subst (λ (y : Change). AllPut nodes' y.news) a.is pn) pp.0 (λ none. absurd (none_some b.up a.up none a.some)) in
      let bs : insert_branch (branch_up a.up) terms.key (map (branch_of h) s.tail) ≡ map branch_up (insert_up b.up terms.key (sprouts_of h s.tail)) =
      ap (insert_branch (branch_up a.up) terms.key) (branches_up h s.tail) ∙ sym (insert_branches a.up terms.key (sprouts_of h s.tail)) ∙ ap (λ u. map branch_up (insert_up u terms.key (sprouts_of h s.tail))) (sym a.some) in
      let e : nodes' s.oid ≡ Some (inner_node (oid_of h s.head) (map branch_up (insert_up b.up terms.key (sprouts_of h s.tail))) s.first) =
      ap nodes' (sym r.0) ∙ pp.1.0 ∙ ap (λ (i : Inner). Some (inner_node i.head (insert_branch (branch_up a.up) terms.key i.tail) i.first)) r.1 ∙ ap (λ ts. Some (inner_node (oid_of h s.head) ts s.first)) bs in
      subst (λ u. G (suc h) low high u s []) (sym up) (grow_fits nodes' kind terms.key value bottom.oid h low high s b.up k e o.0.1.0)
  risen h low high s x xs b c o r sb kids (inr (inr a)) pn po rs =
      let sp = a.split in
      let first : ℕ = seam_first x.seam a.up in
      let up : c.up ≡ Some (record { key = sp.middle.key; child = sp.new; first = first }) = ap (λ (y : Change). y.up) sp.is in
      let old : Put = record { oid = x.oid; class = x.class; leaves = x.leaves; node = inner_node x.inner.head sp.left x.inner.first } in
      let new : Put = record { oid = sp.new; class = terms.plain.inner; leaves = x.leaves; node = inner_node sp.middle.child sp.right first } in
      let pp = all_parts nodes' b.olds (old ∷ []) (subst (λ (y : Change). AllPut nodes' y.olds) sp.is po) in
      let qq = all_parts nodes' b.news (new ∷ []) (subst (λ (y : Change). AllPut nodes' y.news) sp.is pn) in
      let k = kids qq.0 pp.0 (λ none. absurd (none_some b.up a.up none a.some)) in
      let m = in_parts terms.inner terms.key h s.tail k.tail x a.up sp.left sp.middle sp.right three (ap (λ (i : Inner). i.tail) r.1) (up_sprouts h k.tail terms.key (sprouts_of h s.tail) b.up a.up a.some k.sprouts) a.more sp.cut (r.3 b a.up sb a.some a.more) in
      let e : nodes' s.oid ≡ Some (inner_node (oid_of h s.head) (map (branch_of h) m.front) s.first) =
      ap nodes' (sym r.0) ∙ pp.1.0 ∙ ap (λ (i : Inner). Some (inner_node i.head sp.left i.first)) r.1 ∙ ap (λ ts. Some (inner_node (oid_of h s.head) ts s.first)) (sym m.left_is) in
      let e' : nodes' sp.new ≡ Some (inner_node (oid_of h m.at.child) (map (branch_of h) m.behind) first) =
      qq.1.0 ∙ ap (λ (y : Branch). Some (inner_node y.child sp.right first)) (sym m.at_is) ∙ ap (λ ts. Some (inner_node (oid_of h m.at.child) ts first)) (sym m.right_is) in
      let t = grow_splits nodes' kind terms.key value bottom.oid h low high s b.up sp.new first m.front m.at m.behind k m.cut m.some m.first_is e e' o.0.1.0 in
      subst (λ u. G (suc h) low high u s []) (ap (λ (y : Branch). Some (record { key = y.key; child = sp.new; first = first })) m.at_is ∙ sym up) t

  -- a leaf below others
  leaf_grown : (low high : Option Key) (s : Shape 0) (c : Change) → OldShape' 0 s → Bounded 0 low high s → IsFrom low terms.key → IsUpTo high terms.key → In' 0 s [] → IsLeafSet place.Below terms.leaf terms.plain bottom c → AllPut nodes' c.news → AllPut nodes' c.olds → G 0 low high c.up s []
  leaf_grown low high s c o b f t r (inl a) pn po =
      let up : c.up ≡ None = ap (λ (y : Change). y.up) a.1 in
      let put : Put = record { oid = bottom.oid; class = bottom.class; leaves = false; node = leaf_node bottom.leaf.items bottom.leaf.next } in
      let po' : AllPut nodes' (put ∷ []) = subst (λ (y : Change). AllPut nodes' y.olds) a.1 po in
      let e : nodes' s.oid ≡ Some (leaf_node (set_item s.items terms.key value) s.next) = ap nodes' (sym r.0) ∙ po'.0 ∙ ap (λ is. Some (leaf_node is bottom.leaf.next)) r.2 ∙ ap (λ n. Some (leaf_node (set_item s.items terms.key value) n)) r.3 in
      subst (λ u. G 0 low high u s []) (sym up) (grow_whole nodes' kind terms.key value bottom.oid low high s b o.0.2 f t rank e)
  leaf_grown low high s c o b f t r (inr a) pn po =
      let sp = a.1 in
      let up : c.up ≡ Some (record { key = sp.key; child = sp.new; first = sp.new }) = ap (λ (y : Change). y.up) sp.is in
      let old : Put = record { oid = bottom.oid; class = bottom.class; leaves = false; node = leaf_node sp.left (Some sp.new) } in
      let new : Put = record { oid = sp.new; class = terms.plain.leaf; leaves = false; node = leaf_node sp.right bottom.leaf.next } in
      let po' : AllPut nodes' (old ∷ []) = subst (λ (y : Change). AllPut nodes' y.olds) sp.is po in
      let pn' : AllPut nodes' (new ∷ []) = subst (λ (y : Change). AllPut nodes' y.news) sp.is pn in
      let here : nodes' s.oid ≡ Some (leaf_node sp.left (Some sp.new)) = ap nodes' (sym r.0) ∙ po'.0 in
      let there : nodes' sp.new ≡ Some (leaf_node (sp.cut.item ∷ sp.cut.more) s.next) = pn'.0 ∙ ap (λ is. Some (leaf_node is bottom.leaf.next)) sp.cut.right_is ∙ ap (λ n. Some (leaf_node (sp.cut.item ∷ sp.cut.more) n)) r.3 in
      let cut : set_item s.items terms.key value ≡ sp.left ++ sp.cut.item ∷ sp.cut.more = sym r.2 ∙ sp.cut.cut in
      let more = grows_more terms.leaf bottom a.0 in
      let some : 0 < length sp.left = omega (arith, sp.cut.half_is, more, two) in
      let g = grow_leaf nodes' kind terms.key value bottom.oid low high s sp.new sp.left sp.cut.item sp.cut.more b o.0.2 f t rank cut some here there (sym r.0) in
      subst (λ u. G 0 low high u s []) (ap (λ k. Some (record { key = k; child = sp.new; first = sp.new })) (sym sp.cut.key_is) ∙ sym up) g

  -- the separators of an object rise
  pub old_rises : (h : ℕ) (s : Shape (suc h)) → OldShape' (suc h) s → Rises None (keys_up (sprouts_of h s.tail))
  old_rises h s o = subst (Rises None) (separators_up h s.tail) (rising s.oid (inner_of h s) o.0.0.0)

  pub grow : (h : ℕ) (low high : Option Key) (s : Shape h) (rungs : List Rung) (c : Change) → OldShape' h s → Bounded h low high s → IsFrom low terms.key → IsUpTo high terms.key → Distinct (links_of h s) → In' h s rungs → IsSet terms bottom rungs c → AllPut nodes' c.news → AllPut nodes' c.olds → Rest c → G h low high c.up s []
  grow zero low high s [] c o b f t d r i pn po rs = leaf_grown low high s c o b f t r (subst (λ p. IsLeafSet p terms.leaf terms.plain bottom c) r.1 i) pn po
  grow zero low high s (x ∷ xs) c o b f t d r i pn po rs = absurd r
  grow (suc h) low high s [] c o b f t d r i pn po rs = absurd r
  grow (suc h) low high s (x ∷ xs) c o b f t d r (e, sb, rise) pn po rs =
      risen h low high s x xs e c o r sb
      (λ pn' po' rs'. grow_limbs nodes' kind terms.key value bottom.oid h e.up (OldShape' h) (λ u. In' h u xs) (λ u i. rungs_there objects value terms bottom h u xs i) (keep h)
      (λ low' high' u o' b' f' t' d' r'. grow h low' high' u xs e o' b' f' t' d' r' sb pn' po' rs')
      low high s.head s.tail (old_head (nodes_in objects) oids kind h s o) (old_tail (nodes_in objects) oids kind h s o) b (old_rises h s o) f t d r.4)
      rise pn po rs

  -- the children of the root
  pub grow_children : (h : ℕ) (s : Shape (suc h)) (x : Rung) (xs : List Rung) (e : Change) → OldShape' (suc h) s → Bounded (suc h) None None s → Distinct (links_of (suc h) s) → In' (suc h) s (x ∷ xs) → IsSet terms bottom xs e → AllPut nodes' e.news → AllPut nodes' e.olds → Rest e → G h None None e.up s.head s.tail
  grow_children h s x xs e o b d r sb pn po rs =
      grow_limbs nodes' kind terms.key value bottom.oid h e.up (OldShape' h) (λ u. In' h u xs) (λ u i. rungs_there objects value terms bottom h u xs i) (keep h)
      (λ low' high' u o' b' f' t' d' r'. grow h low' high' u xs e o' b' f' t' d' r' sb pn po rs)
      None None s.head s.tail (old_head (nodes_in objects) oids kind h s o) (old_tail (nodes_in objects) oids kind h s o) b (old_rises h s o) tt tt d r.4
