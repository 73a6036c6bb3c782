-- Ways through sound trees, and the objects on them that a set may split.
use Rattle.std.proofs.Common.{◌≡◌, ℕ, ◌+◌, ◌≤◌, ◌<◌, Bool, true, false, List, [], ◌∷◌, ◌++◌, Option, Some, None, Result, Ok, Err, refl, arith, sym, ◌∙◌, ap, subst, zero, suc, inl, inr, ◌⊎◌}
use Rattle.std.specs.Prelude.{map, length, if◌then◌else◌, nat_lt, ◌&&◌}
use Rattle.std.proofs.lemmas.Grind.{common_steps}
use Rattle.pickle_graph.specs.Graph.{Graph}
use Rattle.btree_family.specs.declared.key.Key.{Key}
use Rattle.bucket_state.specs.declared.tree.Branch.{Branch}
use Rattle.bucket_state.specs.declared.tree.Inner.{Inner}
use Rattle.btree_shapes.specs.declared.error.TreeError.{TreeError}
use Rattle.btree_shapes.specs.declared.error.TreeError.TheVariants.{NotATree, BadKey}
use Rattle.btree_shapes.specs.declared.node.Node.{Node}
use Rattle.btree_shapes.specs.declared.node.Node.TheVariants as node
use Rattle.btree_shapes.specs.declared.path.Step.{Step}
use Rattle.btree_family.specs.Keys.{is_below}
use Rattle.btree_shapes.specs.Nodes.{Held, Nothing, Foreign, Holds, node_suits}
use Rattle.btree_shapes.specs.Ways.{stands_in}
use Rattle.btree_shapes.specs.Shapes.{Shape, Limb, oid_of, branch_of, EachLimb, first_leaf, nodes_in, links_of}
use Rattle.btree_setting.specs.Types.{Bottom, Place, Sprout, Change, Terms, Rung, Seam, New, Old, Beside}
use Rattle.btree_setting.specs.Types as place
use Rattle.btree_setting.specs.Inserting.{set_item, insert_branch}
use Rattle.btree_setting.specs.Changes.{IsSet, IsLeafSet, grown, branch_up, leaf_grows}
use Rattle.btree_setting.specs.Rungs.{is_full, grows, first_below, put_first, with_first, seam_for, seam_if, rung_of, rungs_of, settled_by, settled, then_rungs, settle}
use Rattle.btree_putting.specs.Firsts.{is_none, first_of, first_held}
use Rattle.btree_setting.specs.Tasks.{splits}
use Rattle.btree_shapes.specs.ChainLaws.{In}
use Rattle.btree_maps.proofs.Limbs.{ForKey, in_for_key, chosen, for_key_both, for_key_map, sprouts_of, Fine, OldShape, old_head, old_tail}
use Rattle.btree_maps.proofs.Seams.{SeamRight, SeamSettled, LeavesAt, seam_is_right}

-- ---- ways

abbrev pub inner_of : (h : ℕ) → Shape (suc h) → Inner
inner_of h s = record { head = oid_of h s.head; tail = map (branch_of h) s.tail; first = s.first }

-- these objects lead from the top of the shape to the leaf for a key, which is this one
abbrev pub PathIn : (ℕ → Held) → Key → (h : ℕ) → Shape h → List Step → ℕ → Graph → Node → Type 0
PathIn objects key zero s [] oid class n = (oid ≡ s.oid) × (n ≡ node.Leaf (record { items = s.items; next = s.next })) × (objects oid ≡ Holds class n)
PathIn objects key zero s (x ∷ xs) oid class n = ⊥
PathIn objects key (suc h) s [] oid class n = ⊥
PathIn objects key (suc h) s (x ∷ xs) oid class n =
    (x.oid ≡ s.oid) × (x.inner ≡ inner_of h s) × (objects x.oid ≡ Holds x.class (node.Inner x.inner)) × ForKey (λ c. PathIn objects key h c xs oid class n) key s.head s.tail

-- ---- the objects on a way, as a set is given them

-- what begins the second half of an object is right, where it is split
abbrev pub SeamFits : Terms → Bottom → List Rung → List Sprout → Rung → Type 0
SeamFits terms bottom below ss x = (b : Change) (up : Sprout) → IsSet terms bottom below b → b.up ≡ Some up → terms.inner ≤ length (grown terms.key x up) → SeamRight terms.key ss x.seam

-- these objects, and the leaf with its new item, are those of the shape
abbrev pub RungsIn : (ℕ → Held) → Option (List ℕ) → Terms → Bottom → (h : ℕ) → Shape h → List Rung → Type 0
RungsIn objects value terms bottom zero s [] =
    (bottom.oid ≡ s.oid) × (bottom.place ≡ place.Below) × (bottom.leaf.items ≡ set_item s.items terms.key value) × (bottom.leaf.next ≡ s.next) × ((n : Node) × (objects bottom.oid ≡ Holds bottom.class n))
RungsIn objects value terms bottom zero s (x ∷ xs) = ⊥
RungsIn objects value terms bottom (suc h) s [] = ⊥
RungsIn objects value terms bottom (suc h) s (x ∷ xs) =
    (x.oid ≡ s.oid) × (x.inner ≡ inner_of h s) × (objects x.oid ≡ Holds x.class (node.Inner x.inner)) × SeamFits terms bottom xs (sprouts_of h s.tail) x
    × ForKey (λ c. RungsIn objects value terms bottom h c xs) terms.key s.head s.tail

pub rungs_there : (objects : ℕ → Held) (value : Option (List ℕ)) (terms : Terms) (bottom : Bottom) (h : ℕ) (s : Shape h) (rungs : List Rung) → RungsIn objects value terms bottom h s rungs → In bottom.oid (links_of h s)
rungs_there objects value terms bottom zero s [] r = inl (sym r.0)
rungs_there objects value terms bottom zero s (x ∷ xs) r = absurd r
rungs_there objects value terms bottom (suc h) s [] r = absurd r
rungs_there objects value terms bottom (suc h) s (x ∷ xs) r = in_for_key (λ c. RungsIn objects value terms bottom h c xs) (links_of h) bottom.oid terms.key s.head s.tail (λ t i. rungs_there objects value terms bottom h t xs i) r.4

-- ---- what a split asks for

-- the objects hold the same
abbrev pub SameInner : List Step → List Rung → Type 0
SameInner [] [] = Unit {0}
SameInner [] (y ∷ ys) = ⊥
SameInner (x ∷ xs) [] = ⊥
SameInner (x ∷ xs) (y ∷ ys) = (y.inner ≡ x.inner) × SameInner xs ys

pub grown_length : (key : Key) (x : Rung) (up : Sprout) → length (grown key x up) ≡ suc (length x.inner.tail)
grown_length key x up = inserted x.inner.tail where
  by_test : (b : Bool) (y : Branch) (ys zs : List Branch) → length zs ≡ suc (length ys) → length (if b then branch_up up ∷ y ∷ ys else y ∷ zs) ≡ suc (suc (length ys))
  by_test true y ys zs e = refl
  by_test false y ys zs e = ap suc e

  inserted : (xs : List Branch) → length (insert_branch (branch_up up) key xs) ≡ suc (length xs)
  inserted [] = refl
  inserted (y ∷ ys) = by_test (is_below key y.key) y ys (insert_branch (branch_up up) key ys) (inserted ys)

lt_is : (a b : ℕ) → a < b → nat_lt a b ≡ true
lt_is a b l = grind (arith, common_steps)

place_splits : (max : ℕ) (bottom : Bottom) → bottom.place ≡ place.Below → leaf_grows max bottom ≡ true → splits max bottom ≡ true
place_splits max bottom p g = rw (p, g) refl

-- a leaf from which a new one goes up is one below others, and is split
bottom_splits : (terms : Terms) (bottom : Bottom) (p : Place) (b : Change) (up : Sprout) → bottom.place ≡ p → IsLeafSet p terms.leaf terms.plain bottom b → b.up ≡ Some up → splits terms.leaf bottom ≡ true
bottom_splits terms bottom place.Alone b up p s e = let n : b.up ≡ None = ap (λ (x : Change). x.up) s in absurd cc
bottom_splits terms bottom place.Below b up p (inl s) e = let n : b.up ≡ None = ap (λ (x : Change). x.up) s.1 in absurd cc
bottom_splits terms bottom place.Below b up p (inr s) e = place_splits terms.leaf bottom p s.0
bottom_splits terms bottom place.Lone b up p (inl s) e = let n : b.up ≡ None = ap (λ (x : Change). x.up) s.1 in absurd cc
bottom_splits terms bottom place.Lone b up p (inr s) e = let n : b.up ≡ None = ap (λ (x : Change). x.up) s.1.is in absurd cc

-- where a new child goes up, all below were split
up_grows : (terms : Terms) (bottom : Bottom) (path : List Step) (rungs : List Rung) (b : Change) (up : Sprout) → SameInner path rungs → IsSet terms bottom rungs b → b.up ≡ Some up → grows terms.inner (splits terms.leaf bottom) path ≡ true
up_grows terms bottom [] [] b up i s e = bottom_splits terms bottom bottom.place b up refl s e
up_grows terms bottom [] (y ∷ ys) b up i s e = absurd i
up_grows terms bottom (x ∷ xs) [] b up i s e = absurd i
up_grows terms bottom (x ∷ xs) (y ∷ ys) b up i (c, s, inl r) e = let n : b.up ≡ None = ap (λ (z : Change). z.up) r.is ∙ r.none in absurd cc
up_grows terms bottom (x ∷ xs) (y ∷ ys) b up i (c, s, inr (inl r)) e = let n : b.up ≡ None = ap (λ (z : Change). z.up) r.is in absurd cc
up_grows terms bottom (x ∷ xs) (y ∷ ys) b up i (c, s, inr (inr r)) e =
    let below = up_grows terms bottom xs ys c r.up i.1 s r.some in
    let l = grown_length terms.key y r.up in
    let n : length y.inner.tail ≡ length x.inner.tail = ap (λ (z : Inner). length z.tail) i.0 in
    let full : is_full terms.inner x.inner ≡ true = lt_is terms.inner (length x.inner.tail + 2) (omega (arith, r.more, l, n)) in
    rw (below, full) refl

-- ---- children besides the way

both_cases : (b : Bool) → (b ≡ true) ⊎ (b ≡ false)
both_cases true = inl refl
both_cases false = inr refl

-- an object is as before, but for its seam
pub record Settled (objects : ℕ → Held) (rung rung' : Rung) : Type 0 where
  pub oid : rung'.oid ≡ rung.oid
  pub class : rung'.class ≡ rung.class
  pub inner : rung'.inner ≡ rung.inner
  pub seam : SeamSettled objects rung.seam rung'.seam

held_first : (fits : Bool) (key : Key) (child : ℕ) (held : Held) (first : ℕ) → first_held fits key child held ≡ Ok first → (class : Graph) × (n : Node) × (held ≡ Holds class n) × (first_of child n ≡ first)
held_first fits key child Nothing first e = absurd cc
held_first fits key child Foreign first e = absurd cc
held_first fits key child (Holds class n) first e = (class, n, refl, suits (fits && node_suits key n) e) where
  suits : (b : Bool) → (if b then Ok (first_of child n) else Err BadKey) ≡ Ok first → first_of child n ≡ first
  suits true e = cc
  suits false e = absurd cc

put_is : (rung rung' : Rung) (r : Result ℕ TreeError) → put_first rung r ≡ Ok rung' → (first : ℕ) × (r ≡ Ok first) × (with_first rung first ≡ rung')
put_is rung rung' (Ok first) e = (first, refl, (let q : with_first rung first ≡ rung' = cc in q))
put_is rung rung' (Err x) e = absurd cc

settled_is : (objects : ℕ → Held) (fits : Bool) (key : Key) (above : List ℕ) (rung rung' : Rung) (seam : Seam) → rung.seam ≡ seam → settled_by objects fits key above rung seam ≡ Ok rung' → Settled objects rung rung'
settled_is objects fits key above rung rung' New e s =
    let same : rung ≡ rung' = cc in
    record { oid = ap (λ (r : Rung). r.oid) (sym same); class = ap (λ (r : Rung). r.class) (sym same); inner = ap (λ (r : Rung). r.inner) (sym same); seam = rw e (ap (λ (r : Rung). r.seam) (sym same) ∙ e) }
settled_is objects fits key above rung rung' (Old first) e s =
    let same : rung ≡ rung' = cc in
    record { oid = ap (λ (r : Rung). r.oid) (sym same); class = ap (λ (r : Rung). r.class) (sym same); inner = ap (λ (r : Rung). r.inner) (sym same); seam = rw e (ap (λ (r : Rung). r.seam) (sym same) ∙ e) }
settled_is objects fits key above rung rung' (Beside child) e s = by_test (stands_in above child) s where
  by_test : (b : Bool) → (if b then Err (NotATree child) else put_first rung (first_held fits key child (objects child))) ≡ Ok rung' → Settled objects rung rung'
  by_test true s = absurd cc
  by_test false s =
      let p = put_is rung rung' (first_held fits key child (objects child)) s in
      let f = held_first fits key child (objects child) p.0 p.1 in
      record {
        oid = ap (λ (r : Rung). r.oid) (sym p.2);
        class = ap (λ (r : Rung). r.class) (sym p.2);
        inner = ap (λ (r : Rung). r.inner) (sym p.2);
        seam = rw e (f.0, f.1, f.2, ap (λ (r : Rung). r.seam) (sym p.2) ∙ ap Old (sym f.3));
      }

then_is : (r : Result Rung TreeError) (rest : Result (List Rung) TreeError) (rungs : List Rung) → then_rungs r rest ≡ Ok rungs → (rung : Rung) × (others : List Rung) × (r ≡ Ok rung) × (rest ≡ Ok others) × (rungs ≡ rung ∷ others)
then_is (Ok rung) (Ok others) rungs e = (rung, others, refl, refl, (let q : rungs ≡ rung ∷ others = cc in q))
then_is (Ok rung) (Err x) rungs e = absurd cc
then_is (Err x) rest rungs e = absurd cc

pub nothing_left : (r : Result (List Rung) TreeError) (rungs : List Rung) → r ≡ Ok [] → r ≡ Ok rungs → rungs ≡ []
nothing_left (Ok xs) rungs n e = let a : xs ≡ [] = cc in let b : xs ≡ rungs = cc in sym b ∙ a
nothing_left (Err x) rungs n e = absurd cc

-- ---- the objects of a way in a sound tree

leaves_at : (objects : ℕ → Held) (key : Key) (h : ℕ) (t : Shape h) (xs : List Step) (oid : ℕ) (class : Graph) (n : Node) → PathIn objects key h t xs oid class n → LeavesAt h (is_none xs)
leaves_at objects key zero t [] oid class n p = refl
leaves_at objects key zero t (x ∷ xs) oid class n p = absurd p
leaves_at objects key (suc h) t [] oid class n p = absurd p
leaves_at objects key (suc h) t (x ∷ xs) oid class n p = refl

first_is : (objects : ℕ → Held) (kind : ℕ) (key : Key) (h : ℕ) (t : Shape h) (xs : List Step) (oid : ℕ) (class : Graph) (n : Node) → PathIn objects key h t xs oid class n → Fine (nodes_in objects) kind h t → first_below oid xs ≡ first_leaf h t
first_is objects kind key zero t [] oid class n p f = p.0
first_is objects kind key zero t (x ∷ xs) oid class n p f = absurd p
first_is objects kind key (suc h) t [] oid class n p f = absurd p
first_is objects kind key (suc h) t (x ∷ xs) oid class n p f = ap (λ (i : Inner). i.first) p.1 ∙ f.1.0

module _ (objects : ℕ → Held) (kind : ℕ) (value : Option (List ℕ)) (terms : Terms) (bottom : Bottom) (oids : List ℕ) (fits : Bool) (end : ℕ) (class : Graph) (n : Node) (here : bottom.oid ≡ end) (below : bottom.place ≡ place.Below) (holds : objects bottom.oid ≡ Holds bottom.class n)
    (leaf : (s : Shape 0) → n ≡ node.Leaf (record { items = s.items; next = s.next }) → (bottom.leaf.items ≡ set_item s.items terms.key value) × (bottom.leaf.next ≡ s.next)) where
  abbrev rungs_for : List Step → List Rung
  rungs_for path = rungs_of terms.inner terms.key (splits terms.leaf bottom) end path

  pub rungs_same : (above : List ℕ) (path : List Step) (rungs : List Rung) → settle objects fits terms.key above (rungs_for path) ≡ Ok rungs → SameInner path rungs
  rungs_same above [] rungs e = subst (SameInner []) (sym (nothing_left (settle objects fits terms.key above []) rungs refl e)) tt
  rungs_same above (x ∷ xs) rungs e =
      let x' = rung_of terms.inner terms.key (splits terms.leaf bottom) end x xs in
      let above' = above ++ x'.oid ∷ [] in
      let t = then_is (settled objects fits terms.key above' x') (settle objects fits terms.key above' (rungs_for xs)) rungs e in
      let s = settled_is objects fits terms.key above' x' t.0 x'.seam refl t.2 in
      subst (SameInner (x ∷ xs)) (sym t.4) (s.inner, rungs_same above' xs t.1 t.3)

  seam_when : (b : Bool) (seam seam' : Seam) → b ≡ true → SeamSettled objects (seam_if b seam) seam' → SeamSettled objects seam seam'
  seam_when true seam seam' e s = s
  seam_when false seam seam' e s = absurd cc

  pub rungs_in : (h : ℕ) (s : Shape h) (above : List ℕ) (path : List Step) (rungs : List Rung) → PathIn objects terms.key h s path end class n → OldShape (nodes_in objects) oids kind h s → settle objects fits terms.key above (rungs_for path) ≡ Ok rungs → RungsIn objects value terms bottom h s rungs
  rungs_in zero s above [] rungs p o e =
      let l = leaf s p.1 in
      subst (RungsIn objects value terms bottom 0 s) (sym (nothing_left (settle objects fits terms.key above []) rungs refl e)) (here ∙ p.0, below, l.0, l.1, (n, holds))
  rungs_in zero s above (x ∷ xs) rungs p o e = absurd p
  rungs_in (suc h) s above [] rungs p o e = absurd p
  rungs_in (suc h) s above (x ∷ xs) rungs p o e =
      let x' = rung_of terms.inner terms.key (splits terms.leaf bottom) end x xs in
      let above' = above ++ x'.oid ∷ [] in
      let t = then_is (settled objects fits terms.key above' x') (settle objects fits terms.key above' (rungs_for xs)) rungs e in
      let st = settled_is objects fits terms.key above' x' t.0 x'.seam refl t.2 in
      let same = rungs_same above' xs t.1 t.3 in
      let oh = old_head (nodes_in objects) oids kind h s o in
      let ot = old_tail (nodes_in objects) oids kind h s o in
      let ways : ForKey (λ c. PathIn objects terms.key h c xs end class n × OldShape (nodes_in objects) oids kind h c) terms.key s.head s.tail = for_key_both (λ c. PathIn objects terms.key h c xs end class n) (OldShape (nodes_in objects) oids kind h) kind terms.key s.head s.tail p.3 oh ot in
      let deeper : ForKey (λ c. RungsIn objects value terms bottom h c t.1) terms.key s.head s.tail = for_key_map (λ c. PathIn objects terms.key h c xs end class n × OldShape (nodes_in objects) oids kind h c) (λ c. RungsIn objects value terms bottom h c t.1) terms.key s.head s.tail (λ c q. rungs_in h c above' xs t.1 q.0 q.1 t.3) ways in
      let known : ForKey (λ c. first_below end xs ≡ first_leaf h c) terms.key s.head s.tail = for_key_map (λ c. PathIn objects terms.key h c xs end class n × OldShape (nodes_in objects) oids kind h c) (λ c. first_below end xs ≡ first_leaf h c) terms.key s.head s.tail (λ c q. first_is objects kind terms.key h c xs end class n q.0 q.1.0) ways in
      let one = chosen (λ c. PathIn objects terms.key h c xs end class n) (OldShape (nodes_in objects) oids kind h) kind terms.key s.head s.tail p.3 oh ot in
      let at = leaves_at objects terms.key h one.0 xs end class n one.1 in
      let inner : t.0.inner ≡ inner_of h s = st.inner ∙ p.1 in
      let seams : SeamFits terms bottom t.1 (sprouts_of h s.tail) t.0 = λ b up set some more.
      let l = grown_length terms.key t.0 up in
      let k : length t.0.inner.tail ≡ length x.inner.tail = ap (λ (z : Inner). length z.tail) st.inner in
      let full : is_full terms.inner x.inner ≡ true = lt_is terms.inner (length x.inner.tail + 2) (omega (arith, more, l, k)) in
      let all : grows terms.inner (splits terms.leaf bottom) (x ∷ xs) ≡ true = rw (up_grows terms bottom xs t.1 b up same set some, full) refl in
      let seam : SeamSettled objects (seam_for x.inner.tail terms.key (is_none xs) (first_below end xs)) t.0.seam = seam_when (grows terms.inner (splits terms.leaf bottom) (x ∷ xs)) (seam_for x.inner.tail terms.key (is_none xs) (first_below end xs)) t.0.seam all st.seam in
      let seam' : SeamSettled objects (seam_for (map (branch_of h) s.tail) terms.key (is_none xs) (first_below end xs)) t.0.seam = subst (λ (i : Inner). SeamSettled objects (seam_for i.tail terms.key (is_none xs) (first_below end xs)) t.0.seam) p.1 seam in
      seam_is_right objects kind h terms.key s.head s.tail (is_none xs) (first_below end xs) t.0.seam at (fine_of h s.tail ot) known seam' in
      let held : objects t.0.oid ≡ Holds t.0.class (node.Inner t.0.inner) = ap objects st.oid ∙ p.2 ∙ ap (λ g. Holds g (node.Inner x.inner)) (sym st.class) ∙ ap (λ i. Holds t.0.class (node.Inner i)) (sym st.inner) in
      subst (RungsIn objects value terms bottom (suc h) s) (sym t.4) (st.oid ∙ p.0, inner, held, seams, deeper) where
        fine_of : (h : ℕ) (ls : List (Limb (Shape h))) → EachLimb kind (OldShape (nodes_in objects) oids kind h) ls → EachLimb kind (Fine (nodes_in objects) kind h) ls
        fine_of h [] q = tt
        fine_of h (l ∷ ls) q = (q.0, q.1.0, fine_of h ls q.2)
