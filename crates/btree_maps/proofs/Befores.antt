-- The leaf before the one on a way, and the first leaf below the child that is the first once that leaf has left.
use Rattle.std.proofs.Common.{◌≡◌, ℕ, ◌+◌, ◌<◌, ◌^◌, Bool, true, false, List, [], ◌∷◌, ◌++◌, length, Option, Some, None, Ok, Err, refl, arith, sym, ◌∙◌, ap, subst, zero, suc, inl, inr, ◌⊎◌, append_assoc, append-nil}
use Rattle.std.specs.Prelude.{map, if◌then◌else◌, ◌&&◌}
use Rattle.pickle_graph.specs.Graph.{Graph}
use Rattle.btree_family.specs.declared.key.Key.{Key}
use Rattle.btree_family.specs.Buckets.{BucketContents}
use Rattle.bucket_state.specs.declared.tree.Inner.{Inner}
use Rattle.btree_shapes.specs.declared.error.TreeError.TheVariants.{NotATree, BadKey}
use Rattle.btree_shapes.specs.declared.node.Node.{Node}
use Rattle.btree_shapes.specs.declared.node.Node.TheVariants as node
use Rattle.btree_shapes.specs.declared.path.Step.{Step}
use Rattle.btree_family.specs.Keys.{is_below}
use Rattle.btree_shapes.specs.Nodes.{Held, Nothing, Foreign, Holds, node_suits}
use Rattle.btree_shapes.specs.Ways.{stands_in}
use Rattle.btree_shapes.specs.Shapes.{LeafShape, Shape, Limb, oid_of, branch_of, EachLimb, joined, node_held, nodes_in, Stands, Link, links_of, first_leaf}
use Rattle.btree_putting.specs.Firsts.{is_none, first_of, first_held}
use Rattle.btree_removing.specs.Types.{Loss, Gone, Rung, Sides, Start}
use Rattle.btree_removing.specs.Rungs.{rungs_of}
use Rattle.btree_removing.specs.Sides.{left_child, head_child, start_at, or_start, head_start, side, sides_from}
use Rattle.btree_removing.specs.Losses.{first_or}
use Rattle.btree_removing.specs.Plans.{known_first, first_head}
use Rattle.btree_maps.proofs.Reaching.{Higher, higher_less, higher_last}
use Rattle.btree_maps.proofs.Dropping.{link}
use Rattle.btree_maps.proofs.Limbs.{ForKey, for_key_both, for_key_map, chosen, sprouts_of, Fine}
use Rattle.btree_maps.proofs.Seams.{LeavesAt}
use Rattle.btree_maps.proofs.Rungs.{PathIn, inner_of}
use Rattle.btree_maps.proofs.Losing.{HeadKnown, WayIn, fine_head, fine_tail, Single, raise_gone}

-- ---- children to the left of a way

-- these links end with those below the child
pub record LeftOf (nodes : ℕ → Option Node) (start : Start) (front : List Link) : Type 0 where
  pub height : ℕ
  pub shape : Shape height
  pub is : oid_of height shape ≡ start.child
  pub stands : Stands nodes height shape
  pub above : Higher nodes start.above height
  pub room : length start.above + height < 2 ^ 64
  pub more : List Link
  pub cut : front ≡ more ++ links_of height shape

-- these links end with those below the child, or there is none and no link
abbrev pub Comes : (ℕ → Option Node) → Option Start → List Link → Type 0
Comes nodes None front = front ≡ []
Comes nodes (Some start) front = LeftOf nodes start front

-- a child, or another one with links in front
abbrev Precedes : (ℕ → Option Node) → ℕ → Option ℕ → Option ℕ → List Link → Type 0
Precedes nodes h left found front =
    ((found ≡ left) × (front ≡ [])) ⊎ ((u : Shape h) × Stands nodes h u × (found ≡ Some (oid_of h u)) × ((more : List Link) × (front ≡ more ++ links_of h u)))

-- the child for a key among its links
record Among (nodes : ℕ → Option Node) (h : ℕ) (P : Shape h → Type 0) (left found : Option ℕ) (links : List Link) : Type 0 where
  child : Shape h
  has : P child
  front : List Link
  behind : List Link
  cut : links ≡ front ++ (links_of h child ++ behind)
  before : Precedes nodes h left found front

precedes_more : (nodes : ℕ → Option Node) (h : ℕ) (c : Shape h) (left found found' : Option ℕ) (front : List Link) → Stands nodes h c → found ≡ found' → Precedes nodes h (Some (oid_of h c)) found' front → Precedes nodes h left found (links_of h c ++ front)
precedes_more nodes h c left found found' front st e (inl p) = inr (c, st, e ∙ p.0, ([], ap (λ ys. links_of h c ++ ys) p.1 ∙ append-nil (links_of h c)))
precedes_more nodes h c left found found' front st e (inr (u, su, q, (more, z))) = inr (u, su, e ∙ q, (links_of h c ++ more, ap (λ ys. links_of h c ++ ys) z ∙ sym (append_assoc (links_of h c) more (links_of h u))))

among : (nodes : ℕ → Option Node) (kind h : ℕ) (key : Key) (P : Shape h → Type 0) (left : Option ℕ) (c : Shape h) (ls : List (Limb (Shape h))) → Fine nodes kind h c → EachLimb kind (Fine nodes kind h) ls → ForKey P key c ls → Among nodes h P left (left_child left (oid_of h c) (map (branch_of h) ls) key) (joined (links_of h) c ls)
among nodes kind h key P left c [] f fs fk = record { child = c; has = fk; front = []; behind = []; cut = sym (append-nil (links_of h c)); before = inl (refl, refl) }
among nodes kind h key P left c (x ∷ xs) f fs (inl fk) =
    let e : left_child left (oid_of h c) (map (branch_of h) (x ∷ xs)) key ≡ left = ap (λ b. if b then left else left_child (Some (oid_of h c)) (oid_of h x.child) (map (branch_of h) xs) key) fk.0 in
    record { child = c; has = fk.1; front = []; behind = joined (links_of h) x.child xs; cut = refl; before = inl (e, refl) }
among nodes kind h key P left c (x ∷ xs) f fs (inr fk) =
    let e : left_child left (oid_of h c) (map (branch_of h) (x ∷ xs)) key ≡ left_child (Some (oid_of h c)) (oid_of h x.child) (map (branch_of h) xs) key = ap (λ b. if b then left else left_child (Some (oid_of h c)) (oid_of h x.child) (map (branch_of h) xs) key) fk.0 in
    let r = among nodes kind h key P (Some (oid_of h c)) x.child xs fs.1 fs.2 fk.1 in
    record {
      child = r.child;
      has = r.has;
      front = links_of h c ++ r.front;
      behind = r.behind;
      cut = ap (λ ys. links_of h c ++ ys) r.cut ∙ sym (append_assoc (links_of h c) r.front (links_of h r.child ++ r.behind));
      before = precedes_more nodes h c left (left_child left (oid_of h c) (map (branch_of h) (x ∷ xs)) key) (left_child (Some (oid_of h c)) (oid_of h x.child) (map (branch_of h) xs) key) r.front f.0 e r.before;
    }

next_comes : (nodes : ℕ → Option Node) (h : ℕ) (above : List ℕ) (found : Option ℕ) (o : Option Start) (front more : List Link) → Comes nodes o front → Higher nodes above h → length above + h < 2 ^ 64 → Precedes nodes h None found more → Comes nodes (or_start (start_at above found) o) (front ++ more)
next_comes nodes h above found o front more c hi l (inl p) =
    subst (λ x. Comes nodes (or_start (start_at above x) o) (front ++ more)) (sym p.0) (subst (Comes nodes o) (sym (ap (λ ys. front ++ ys) p.1 ∙ append-nil front)) c)
next_comes nodes h above found o front more c hi l (inr (u, su, q, (ms, z))) =
    let start : Start = record { above = above; child = oid_of h u } in
    let left : LeftOf nodes start (front ++ more) = record { height = h; shape = u; is = refl; stands = su; above = hi; room = l; more = front ++ ms; cut = ap (λ ys. front ++ ys) z ∙ sym (append_assoc front ms (links_of h u)) } in
    subst (λ x. Comes nodes (or_start (start_at above x) o) (front ++ more)) (sym q) left

-- ---- children that may become the first

-- the child stands below the objects of its way
abbrev pub HeadStands : (ℕ → Option Node) → Option Start → Type 0
HeadStands nodes None = Unit {0}
HeadStands nodes (Some start) = (h : ℕ) × (t : Shape h) × (oid_of h t ≡ start.child) × Stands nodes h t × Higher nodes start.above h

next_head : (nodes : ℕ → Option Node) (kind h : ℕ) (key : Key) (above : List ℕ) (leaves : Bool) (o : Option Start) (ls : List (Limb (Shape h))) → EachLimb kind (Fine nodes kind h) ls → Higher nodes above h → HeadStands nodes o → HeadStands nodes (head_start (map (branch_of h) ls) (start_at above (head_child leaves (map (branch_of h) ls) key)) o)
next_head nodes kind h key above leaves o [] fs hi s = s
next_head nodes kind h key above leaves o (x ∷ xs) fs hi s = by_test leaves (is_below key x.key) where
  by_test : (a b : Bool) → HeadStands nodes (start_at above (if a then None else (if b then Some (oid_of h x.child) else None)))
  by_test true b = tt
  by_test false true = (h, x.child, refl, fs.1.0, hi)
  by_test false false = tt

-- ---- the place of a leaf

-- the leaf stands among the links, behind those of the child to its left
pub record Placed (nodes : ℕ → Option Node) (leaf : LeafShape) (sides : Sides) (whole : List Link) : Type 0 where
  pub front : List Link
  pub behind : List Link
  pub comes : Comes nodes sides.left front
  pub cut : whole ≡ front ++ link leaf.oid leaf.next ∷ behind
  pub head : HeadStands nodes sides.head

length_last : (xs : List ℕ) (x : ℕ) → length (xs ++ x ∷ []) ≡ suc (length xs)
length_last [] x = refl
length_last (y ∷ ys) x = ap suc (length_last ys x)

-- with no object above
pub from_start : (n : ℕ) → n < 2 ^ 64 → 0 + n < 2 ^ 64
from_start n l = omega (arith, l)

module _ (nodes : ℕ → Option Node) (kind : ℕ) (key : Key) (known : Option ℕ) (base : Loss) (leaf : LeafShape) (whole : List Link) where
  abbrev Way : (h : ℕ) → Shape h → List Rung → Type 0
  Way h s rungs = WayIn key known base leaf h s rungs

  pub place_in : (h : ℕ) (s : Shape h) (above : List ℕ) (found : Sides) (rungs : List Rung) (front behind : List Link) → Fine nodes kind h s → Higher nodes above h → length above + h < 2 ^ 64 → Way h s rungs
      → Comes nodes found.left front → HeadStands nodes found.head → whole ≡ front ++ (links_of h s ++ behind) → Placed nodes leaf (sides_from above key found rungs) whole
  place_in zero s above found [] front behind f hi l w c hs cut = record { front = front; behind = behind; comes = c; cut = cut ∙ ap (λ (z : LeafShape). front ++ link z.oid z.next ∷ behind) (sym w); head = hs }
  place_in zero s above found (x ∷ xs) front behind f hi l w c hs cut = absurd w
  place_in (suc h) s above found [] front behind f hi l w c hs cut = absurd w
  place_in (suc h) s above found (x ∷ xs) front behind f hi l w c hs cut =
      let above' = above ++ x.oid ∷ [] in
      let fh = fine_head nodes kind h s f in
      let ft = fine_tail nodes kind h s f in
      let n = length_last above x.oid in
      let l' : length above' + h < 2 ^ 64 = omega (arith, n, l) in
      let hi' : Higher nodes above' h = higher_last nodes above h (suc h) x.oid s (higher_less nodes above (suc h) h (omega arith) hi) (sym w.0) f.0 (omega arith) in
      let both = for_key_both (λ t. Way h t xs) (Fine nodes kind h) kind key s.head s.tail w.3 fh ft in
      let a = among nodes kind h key (λ t. Way h t xs × Fine nodes kind h t) None s.head s.tail fh ft both in
      let c' : Comes nodes (or_start (start_at above' (left_child None (oid_of h s.head) (map (branch_of h) s.tail) key)) found.left) (front ++ a.front) = next_comes nodes h above' (left_child None (oid_of h s.head) (map (branch_of h) s.tail) key) found.left front a.front c hi' l' a.before in
      let c2 : Comes nodes (side above' key found x).left (front ++ a.front) = subst (λ (i : Inner). Comes nodes (or_start (start_at above' (left_child None i.head i.tail key)) found.left) (front ++ a.front)) (sym w.1) c' in
      let h' = next_head nodes kind h key above' x.leaves found.head s.tail ft hi' hs in
      let h2 : HeadStands nodes (side above' key found x).head = subst (λ (i : Inner). HeadStands nodes (head_start i.tail (start_at above' (head_child x.leaves i.tail key)) found.head)) (sym w.1) h' in
      let e : whole ≡ (front ++ a.front) ++ (links_of h a.child ++ (a.behind ++ behind)) =
      cut ∙ ap (λ ys. front ++ (ys ++ behind)) a.cut
      ∙ ap (λ ys. front ++ ys) (append_assoc a.front (links_of h a.child ++ a.behind) behind ∙ ap (λ ys. a.front ++ ys) (append_assoc (links_of h a.child) a.behind behind))
      ∙ sym (append_assoc front a.front (links_of h a.child ++ (a.behind ++ behind))) in
      place_in h a.child above' (side above' key found x) xs (front ++ a.front) (a.behind ++ behind) a.has.1 hi' l' a.has.0 c2 h2 e

-- ---- the first leaf that is read

held_known : (key : Key) (child : ℕ) (held : Held) (known : Option ℕ) → known_first (first_held true key child held) ≡ Ok known → (class : Graph) × (n : Node) × (held ≡ Holds class n) × (known ≡ Some (first_of child n))
held_known key child Nothing known e = absurd cc
held_known key child Foreign known e = absurd cc
held_known key child (Holds class n) known e = (class, n, refl, by_test (true && node_suits key n) e) where
  by_test : (b : Bool) → known_first (if b then Ok (first_of child n) else Err BadKey) ≡ Ok known → known ≡ Some (first_of child n)
  by_test true e = cc
  by_test false e = absurd cc

-- the first leaf below an object that is none itself
inner_known : (objects : ℕ → Held) (kind h : ℕ) (key : Key) (t : Shape (suc h)) (above : List ℕ) (known : Option ℕ) → Fine (nodes_in objects) kind (suc h) t → first_head key objects (Some (record { above = above; child = t.oid })) ≡ Ok known → first_or t.oid known ≡ first_leaf (suc h) t
inner_known objects kind h key t above known f e = by_test (stands_in above t.oid) e where
  by_test : (b : Bool) → (if b then Err (NotATree t.oid) else known_first (first_held true key t.oid (objects t.oid))) ≡ Ok known → first_or t.oid known ≡ first_leaf (suc h) t
  by_test true e = absurd cc
  by_test false e =
      let k = held_known key t.oid (objects t.oid) known e in
      let some : Some k.1 ≡ Some (node.Inner (inner_of h t)) = sym (ap node_held k.2) ∙ f.0.0 in
      let same : k.1 ≡ node.Inner (inner_of h t) = cc in
      ap (first_or t.oid) (k.3 ∙ ap (λ n. Some (first_of t.oid n)) same) ∙ f.1.0

head_known : (objects : ℕ → Held) (kind h : ℕ) (key : Key) (ls : List (Limb (Shape h))) (above : List ℕ) (leaves : Bool) (o : Option Start) (known : Option ℕ) → LeavesAt h leaves → EachLimb kind (Fine (nodes_in objects) kind h) ls → first_head key objects (head_start (map (branch_of h) ls) (start_at above (head_child leaves (map (branch_of h) ls) key)) o) ≡ Ok known
    → HeadKnown key known (sprouts_of h ls)
head_known objects kind h key [] above leaves o known at fs e = tt
head_known objects kind zero key (x ∷ xs) above true o known at fs e = λ less. let none : None ≡ known = cc in ap (first_or x.child.oid) (sym none)
head_known objects kind zero key (x ∷ xs) above false o known at fs e = absurd cc
head_known objects kind (suc h) key (x ∷ xs) above true o known at fs e = absurd cc
head_known objects kind (suc h) key (x ∷ xs) above false o known at fs e = λ less.
    let child : first_head key objects (Some (record { above = above; child = x.child.oid })) ≡ Ok known = sym (ap (λ b. first_head key objects (start_at above (if b then Some x.child.oid else None))) less) ∙ e in
    inner_known objects kind h key x.child above known fs.1 child

sides_single : (above : List ℕ) (key : Key) (found : Sides) (rungs : List Rung) → Single rungs → (sides_from above key found rungs).head ≡ found.head
sides_single above key found [] s = refl
sides_single above key found (x ∷ xs) s =
    let above' = above ++ x.oid ∷ [] in
    sides_single above' key (side above' key found x) xs s.1 ∙ ap (λ bs. head_start bs (start_at above' (head_child x.leaves x.inner.tail key)) found.head) s.0

-- ---- the way that was found

abbrev pub leaf_of : ℕ → BucketContents → LeafShape
leaf_of oid bucket = record { oid = oid; items = bucket.items; next = bucket.next }

module _ (objects : ℕ → Held) (kind : ℕ) (key : Key) (known : Option ℕ) (base : Loss) (oid : ℕ) (class : Graph) (n : Node) (bucket : BucketContents) (is : n ≡ node.Leaf bucket) where
  leaves_at : (h : ℕ) (t : Shape h) (xs : List Step) → PathIn objects key h t xs oid class n → LeavesAt h (true && is_none xs)
  leaves_at zero t [] p = refl
  leaves_at zero t (x ∷ xs) p = absurd p
  leaves_at (suc h) t [] p = absurd p
  leaves_at (suc h) t (x ∷ xs) p = refl

  pub way_of_path : (h : ℕ) (s : Shape h) (above : List ℕ) (found : Sides) (path : List Step) → PathIn objects key h s path oid class n → Fine (nodes_in objects) kind h s → (base.rest ≡ Gone → first_head key objects (sides_from above key found (rungs_of true path)).head ≡ Ok known) → WayIn key known base (leaf_of oid bucket) h s (rungs_of true path)
  way_of_path zero s above found [] p f k =
      let same : bucket ≡ record { items = s.items; next = s.next } = cc (is, p.1) in
      ap (λ o. leaf_of o bucket) p.0 ∙ ap (leaf_of s.oid) same
  way_of_path zero s above found (x ∷ xs) p f k = absurd p
  way_of_path (suc h) s above found [] p f k = absurd p
  way_of_path (suc h) s above found (x ∷ xs) p f k =
      let above' = above ++ x.oid ∷ [] in
      let rung : Rung = record { oid = x.oid; class = x.class; inner = x.inner; leaves = true && is_none xs } in
      let fh = fine_head (nodes_in objects) kind h s f in
      let ft = fine_tail (nodes_in objects) kind h s f in
      let P : Shape h → Type 0 = λ t. PathIn objects key h t xs oid class n in
      let ways = for_key_both P (Fine (nodes_in objects) kind h) kind key s.head s.tail p.3 fh ft in
      let one = chosen P (Fine (nodes_in objects) kind h) kind key s.head s.tail p.3 fh ft in
      let at = leaves_at h one.0 xs one.1 in
      let deeper = for_key_map (λ t. P t × Fine (nodes_in objects) kind h t) (λ t. WayIn key known base (leaf_of oid bucket) h t (rungs_of true xs)) key s.head s.tail (λ t q. way_of_path h t above' (side above' key found rung) xs q.0 q.1 k) ways in (
        p.0,
        p.1,
        λ g.
            let r = raise_gone key known base (rungs_of true xs) g in
            let e = sym (ap (first_head key objects) (sides_single above' key (side above' key found rung) (rungs_of true xs) r.1)) ∙ k r.0 in
            let e' : first_head key objects (head_start (map (branch_of h) s.tail) (start_at above' (head_child (true && is_none xs) (map (branch_of h) s.tail) key)) found.head) ≡ Ok known =
            ap (λ (i : Inner). first_head key objects (head_start i.tail (start_at above' (head_child (true && is_none xs) i.tail key)) found.head)) (sym p.1) ∙ e in
            head_known objects kind h key s.tail above' (true && is_none xs) found.head known at ft e',
        deeper,
      )
