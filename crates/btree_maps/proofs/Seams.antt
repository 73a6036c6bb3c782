-- The first leaf of a second half.
use Rattle.std.proofs.Common.{◌≡◌, ℕ, ◌-◌, ◌/◌, ◌<◌, Bool, true, false, List, [], ◌∷◌, ◌++◌, Option, Some, None, refl, arith, sym, ◌∙◌, ap, subst, zero, suc, inl, inr, ◌⊎◌}
use Rattle.std.specs.Prelude.{map, length, slice_get, nat_lt, ◌==◌, ◌&&◌, if◌then◌else◌}
use Rattle.std.specs.Option.{option_map}
use Rattle.std.proofs.lemmas.Grind.{common_steps}
use Rattle.pickle_graph.specs.Graph.{Graph}
use Rattle.btree_family.specs.declared.key.Key.{Key}
use Rattle.btree_shapes.specs.declared.node.Node.{Node}
use Rattle.btree_shapes.specs.declared.node.Node.TheVariants as node
use Rattle.btree_family.specs.Keys.{is_below}
use Rattle.btree_shapes.specs.Nodes.{Held, Holds, place_for}
use Rattle.btree_shapes.specs.Shapes.{Shape, Limb, oid_of, branch_of, EachLimb, first_leaf, node_held, nodes_in}
use Rattle.btree_setting.specs.Types.{Sprout, Seam, New, Old, Beside}
use Rattle.btree_setting.specs.Changes.{branch_up, seam_first}
use Rattle.btree_setting.specs.Rungs.{child_in, seam_of, seam_for}
use Rattle.btree_putting.specs.Firsts.{first_of}
use Rattle.btree_family.specs.OrderLaws.{below_or}
use Rattle.btree_maps.proofs.Limbs.{ForKey, sprout_of, sprouts_of, insert_sprout, branches_up, Fine}

-- ---- places of a new child

abbrev pub place_up : List Sprout → Key → ℕ
place_up ss key = place_for (map branch_up ss) key

place_end : (x : Sprout) (xs : List Sprout) (key : Key) → is_below key x.key ≡ true → place_up (x ∷ xs) key ≡ 0
place_end x xs key l = ap (λ b. if b then 0 else suc (place_up xs key)) l

place_more : (x : Sprout) (xs : List Sprout) (key : Key) → is_below key x.key ≡ false → place_up (x ∷ xs) key ≡ suc (place_up xs key)
place_more x xs key l = ap (λ b. if b then 0 else suc (place_up xs key)) l

get_front : (xs ys : List Sprout) (m : Sprout) (zs : List Sprout) → xs ≡ ys ++ m ∷ zs → slice_get xs (length ys) ≡ Some m
get_front xs [] m zs e = ap (λ l. slice_get l 0) e
get_front [] (y ∷ ys) m zs e = absurd cc
get_front (x ∷ xs) (y ∷ ys) m zs e = get_front xs ys m zs (let q : xs ≡ ys ++ m ∷ zs = cc in q)

get_less : (xs : List Sprout) (n : ℕ) → slice_get xs (suc n - 1) ≡ slice_get xs n
get_less xs n = let e : suc n - 1 ≡ n = omega arith in ap (slice_get xs) e

get_behind : (x : Sprout) (xs : List Sprout) (n : ℕ) → 0 < n → slice_get (x ∷ xs) n ≡ slice_get xs (n - 1)
get_behind x xs zero l = absurd (omega arith)
get_behind x xs (suc n) l = sym (get_less xs n)

-- what stands at a place once a child was put in: that one, or one of the others
abbrev pub StandsAt : List Sprout → Key → Sprout → ℕ → Sprout → Type 0
StandsAt ss key up n m =
    ((n ≡ place_up ss key) × (m ≡ up)) ⊎ (((n < place_up ss key) × (slice_get ss n ≡ Some m)) ⊎ ((place_up ss key < n) × (slice_get ss (n - 1) ≡ Some m)))

stands_later : (x : Sprout) (xs : List Sprout) (key : Key) (up : Sprout) (n : ℕ) (m : Sprout) → is_below key x.key ≡ false → StandsAt xs key up n m → StandsAt (x ∷ xs) key up (suc n) m
stands_later x xs key up n m l (inl (e, s)) = inl (ap suc e ∙ sym (place_more x xs key l), s)
stands_later x xs key up n m l (inr (inl (b, g))) = let p = place_more x xs key l in inr (inl (omega (arith, b, p), g))
stands_later x xs key up n m l (inr (inr (b, g))) =
    let p = place_more x xs key l in
    inr (inr (omega (arith, b, p), get_less (x ∷ xs) n ∙ get_behind x xs n (omega (arith, b)) ∙ g))

pub stands_at : (up : Sprout) (key : Key) (ss left : List Sprout) (m : Sprout) (right : List Sprout) → insert_sprout up key ss ≡ left ++ m ∷ right → StandsAt ss key up (length left) m
stands_at up key [] [] m right e = inl (refl, (let q : m ≡ up = cc in q))
stands_at up key [] (y ∷ []) m right e = absurd cc
stands_at up key [] (y ∷ z ∷ zs) m right e = absurd cc
stands_at up key (x ∷ xs) left m right e = elim (below_or key x.key) [
  | inl l ↦ at_end left m right (sym (ap (λ b. if b then up ∷ x ∷ xs else x ∷ insert_sprout up key xs) l) ∙ e) l
  | inr l ↦ at_more (λ ys q. stands_at up key xs ys m right q) left (sym (ap (λ b. if b then up ∷ x ∷ xs else x ∷ insert_sprout up key xs) l) ∙ e) l
] where
  at_end : (left : List Sprout) (m : Sprout) (right : List Sprout) → up ∷ x ∷ xs ≡ left ++ m ∷ right → is_below key x.key ≡ true → StandsAt (x ∷ xs) key up (length left) m
  at_end [] m right e l = inl (sym (place_end x xs key l), (let q : m ≡ up = cc in q))
  at_end (y ∷ ys) m right e l =
      let q : x ∷ xs ≡ ys ++ m ∷ right = cc in
      let p = place_end x xs key l in
      inr (inr (omega (arith, p), get_less (x ∷ xs) (length ys) ∙ get_front (x ∷ xs) ys m right q))

  at_more : ((ys : List Sprout) → insert_sprout up key xs ≡ ys ++ m ∷ right → StandsAt xs key up (length ys) m) → (left : List Sprout) → x ∷ insert_sprout up key xs ≡ left ++ m ∷ right → is_below key x.key ≡ false → StandsAt (x ∷ xs) key up (length left) m
  at_more deeper [] e l =
      let q : x ≡ m = cc in
      let p = place_more x xs key l in
      inr (inl (omega (arith, p), ap Some q))
  at_more deeper (y ∷ ys) e l =
      let q : insert_sprout up key xs ≡ ys ++ m ∷ right = cc in
      stands_later x xs key up (length ys) m l (deeper ys q)

-- ---- the first leaf that is known

-- it is the one of the child in the middle, once one more was put in
abbrev pub SeamRight : Key → List Sprout → Seam → Type 0
SeamRight key ss seam = (up : Sprout) (left : List Sprout) (m : Sprout) (right : List Sprout) → insert_sprout up key ss ≡ left ++ m ∷ right → length left ≡ length ss / 2 → seam_first seam up ≡ m.first

-- the one of those that stood there which comes to the middle, where it isn't the new one
abbrev middle_old : List Sprout → Key → Option Sprout
middle_old ss key = slice_get ss (if nat_lt (length ss / 2) (place_up ss key) then length ss / 2 else length ss / 2 - 1)

lt_is : (a b : ℕ) → a < b → nat_lt a b ≡ true
lt_is a b l = grind (arith, common_steps)

lt_not : (a b : ℕ) → b < a → nat_lt a b ≡ false
lt_not a b l = grind (arith, common_steps)

middle_below : (ss : List Sprout) (key : Key) (n : ℕ) (m : Sprout) → n ≡ length ss / 2 → n < place_up ss key → slice_get ss n ≡ Some m → middle_old ss key ≡ Some m
middle_below ss key n m e l g =
    ap (λ b. slice_get ss (if b then length ss / 2 else length ss / 2 - 1)) (lt_is (length ss / 2) (place_up ss key) (omega (arith, e, l))) ∙ ap (slice_get ss) (sym e) ∙ g

middle_above : (ss : List Sprout) (key : Key) (n : ℕ) (m : Sprout) → n ≡ length ss / 2 → place_up ss key < n → slice_get ss (n - 1) ≡ Some m → middle_old ss key ≡ Some m
middle_above ss key n m e l g =
    ap (λ b. slice_get ss (if b then length ss / 2 else length ss / 2 - 1)) (lt_not (length ss / 2) (place_up ss key) (omega (arith, e, l))) ∙ ap (λ k. slice_get ss (k - 1)) (sym e) ∙ g

new_right : (key : Key) (ss : List Sprout) → length ss / 2 ≡ place_up ss key → SeamRight key ss New
new_right key ss p up left m right e l = elim (stands_at up key ss left m right e) [
  | inl i ↦ ap (λ (s : Sprout). s.first) (sym i.1)
  | inr o ↦ elim o [
    | inl i ↦ absurd (omega (arith, i.0, l, p))
    | inr i ↦ absurd (omega (arith, i.0, l, p))
  ]
]

none_right : (key : Key) (ss : List Sprout) → middle_old ss key ≡ None → SeamRight key ss New
none_right key ss n up left m right e l = elim (stands_at up key ss left m right e) [
  | inl i ↦ ap (λ (s : Sprout). s.first) (sym i.1)
  | inr o ↦ elim o [
    | inl i ↦ let g = middle_below ss key (length left) m l i.0 i.1 in absurd cc
    | inr i ↦ let g = middle_above ss key (length left) m l i.0 i.1 in absurd cc
  ]
]

old_right : (key : Key) (ss : List Sprout) (x : Sprout) (first : ℕ) → (length ss / 2 ≡ place_up ss key → ⊥) → middle_old ss key ≡ Some x → first ≡ x.first → SeamRight key ss (Old first)
old_right key ss x first n s f up left m right e l = elim (stands_at up key ss left m right e) [
  | inl i ↦ absurd (n (sym l ∙ i.0))
  | inr o ↦ elim o [
    | inl i ↦ let g = middle_below ss key (length left) m l i.0 i.1 in let same : x ≡ m = cc (s, g) in f ∙ ap (λ (z : Sprout). z.first) same
    | inr i ↦ let g = middle_above ss key (length left) m l i.0 i.1 in let same : x ≡ m = cc (s, g) in f ∙ ap (λ (z : Sprout). z.first) same
  ]
]

-- ---- limbs at places

get_sprout : (h : ℕ) (ls : List (Limb (Shape h))) (n : ℕ) (x : Sprout) → slice_get (sprouts_of h ls) n ≡ Some x → (l : Limb (Shape h)) × (slice_get ls n ≡ Some l) × (sprout_of h l ≡ x)
get_sprout h [] n x e = absurd cc
get_sprout h (l ∷ ls) zero x e = (l, refl, (let q : sprout_of h l ≡ x = cc in q))
get_sprout h (l ∷ ls) (suc n) x e = get_sprout h ls n x e

get_each : {S : Type 0} (kind : ℕ) (P : S → Type 0) (ls : List (Limb S)) (n : ℕ) (l : Limb S) → EachLimb kind P ls → slice_get ls n ≡ Some l → P l.child
get_each kind P [] n l p e = absurd cc
get_each kind P (x ∷ xs) zero l p e = let same : x ≡ l = cc in subst (λ (y : Limb _). P y.child) same p.1
get_each kind P (x ∷ xs) (suc n) l p e = get_each kind P xs n l p.2 e

-- the child for a key stands before the place of a new one
for_key_at : (h : ℕ) (P : Shape h → Type 0) (key : Key) (c : Shape h) (ls : List (Limb (Shape h))) (n : ℕ) (l : Limb (Shape h)) → ForKey P key c ls → place_up (sprouts_of h ls) key ≡ suc n → slice_get ls n ≡ Some l → P l.child
for_key_at h P key c [] n l f p e = absurd cc
for_key_at h P key c (x ∷ xs) n l (inl f) p e = let z = place_end (sprout_of h x) (sprouts_of h xs) key f.0 in absurd (omega (arith, z, p))
for_key_at h P key c (x ∷ []) zero l (inr f) p e = let same : x ≡ l = cc in subst (λ (y : Limb _). P y.child) same f.1
for_key_at h P key c (x ∷ []) (suc n) l (inr f) p e = absurd cc
for_key_at h P key c (x ∷ y ∷ ys) zero l (inr (b, inl f)) p e = let same : x ≡ l = cc in subst (λ (z : Limb _). P z.child) same f.1
for_key_at h P key c (x ∷ y ∷ ys) zero l (inr (b, inr f)) p e =
    let one = place_more (sprout_of h x) (sprouts_of h (y ∷ ys)) key b in
    let two = place_more (sprout_of h y) (sprouts_of h ys) key f.0 in
    absurd (omega (arith, one, two, p))
for_key_at h P key c (x ∷ y ∷ ys) (suc n) l (inr f) p e =
    let one = place_more (sprout_of h x) (sprouts_of h (y ∷ ys)) key f.0 in
    for_key_at h P key x.child (y ∷ ys) n l f.1 (omega (arith, one, p)) e

-- ---- a seam of a sound tree

-- the children are leaves exactly at the lowest height
abbrev pub LeavesAt : ℕ → Bool → Type 0
LeavesAt zero leaves = leaves ≡ true
LeavesAt (suc h) leaves = leaves ≡ false

-- the first leaf, once a child beside the way was read
abbrev pub SeamSettled : (ℕ → Held) → Seam → Seam → Type 0
SeamSettled objects New seam = seam ≡ New
SeamSettled objects (Old first) seam = seam ≡ Old first
SeamSettled objects (Beside child) seam = (class : Graph) × (n : Node) × (objects child ≡ Holds class n) × (seam ≡ Old (first_of child n))

get_branch : (ss : List Sprout) (n : ℕ) → child_in (slice_get (map branch_up ss) n) ≡ option_map (λ (s : Sprout). s.child) (slice_get ss n)
get_branch [] n = refl
get_branch (s ∷ ss) zero = refl
get_branch (s ∷ ss) (suc n) = get_branch ss n

ups_length : (ss : List Sprout) → length (map branch_up ss) ≡ length ss
ups_length [] = refl
ups_length (s ∷ ss) = ap suc (ups_length ss)

both_cases : (b : Bool) → (b ≡ true) ⊎ (b ≡ false)
both_cases true = inl refl
both_cases false = inr refl

eq_is : (a b : ℕ) → (a == b) ≡ true → a ≡ b
eq_is a b e = grind (arith, common_steps)

eq_not : (a b : ℕ) → (a == b) ≡ false → a ≡ b → ⊥
eq_not a b e s = grind (arith, common_steps)

and_parts : (a b : Bool) → (a && b) ≡ true → (a ≡ true) × (b ≡ true)
and_parts true b e = (refl, e)
and_parts false b e = absurd cc

lt_holds : (a b : ℕ) → nat_lt a b ≡ true → a < b
lt_holds a b e = grind (arith, common_steps)

-- a leaf begins with itself, and another object names its first leaf
first_known : (objects : ℕ → Held) (kind h : ℕ) (s : Shape h) (leaves : Bool) → LeavesAt h leaves → leaves ≡ true → oid_of h s ≡ first_leaf h s
first_known objects kind zero s leaves a e = refl
first_known objects kind (suc h) s leaves a e = absurd cc

first_read : (objects : ℕ → Held) (kind h : ℕ) (s : Shape h) (leaves : Bool) (child : ℕ) (class : Graph) (n : Node) → LeavesAt h leaves → leaves ≡ false → Fine (nodes_in objects) kind h s → oid_of h s ≡ child → objects child ≡ Holds class n → first_of child n ≡ first_leaf h s
first_read objects kind zero s leaves child class n a e f o i = absurd cc
first_read objects kind (suc h) s leaves child class n a e f o i =
    let held : nodes_in objects child ≡ Some n = ap node_held i in
    let there : nodes_in objects child ≡ Some (node.Inner (record { head = oid_of h s.head; tail = map (branch_of h) s.tail; first = s.first })) = ap (nodes_in objects) (sym o) ∙ f.0.0 in
    let same : n ≡ node.Inner (record { head = oid_of h s.head; tail = map (branch_of h) s.tail; first = s.first }) = cc (held, there) in
    ap (first_of child) same ∙ f.1.0

module _ (objects : ℕ → Held) (kind h : ℕ) (key : Key) (c : Shape h) (ls : List (Limb (Shape h))) (leaves : Bool) (first : ℕ) (seam' : Seam) (at : LeavesAt h leaves) (fine : EachLimb kind (Fine (nodes_in objects) kind h) ls) (known : ForKey (λ t. first ≡ first_leaf h t) key c ls) where
  abbrev ss : List Sprout
  ss = sprouts_of h ls

  abbrev half : ℕ
  half = length ss / 2

  abbrev place : ℕ
  place = place_up ss key

  abbrev on_way : Bool
  on_way = nat_lt half place && (place - half == 1)

  seam_old : (x : Sprout) → (half ≡ place → ⊥) → middle_old ss key ≡ Some x → (b : Bool) → on_way ≡ b → (w : Bool) → leaves ≡ w → SeamSettled objects (seam_of w b first (Some x.child)) seam' → SeamRight key ss seam'
  seam_old x n m b o true lv s =
      let l = get_sprout h ls (if nat_lt half place then half else half - 1) x m in
      let f : x.child ≡ x.first = ap (λ (z : Sprout). z.child) (sym l.2) ∙ first_known objects kind h l.0.child leaves at lv ∙ ap (λ (z : Sprout). z.first) l.2 in
      rw s (old_right key ss x x.child n m f)
  seam_old x n m true o false lv s =
      let p = and_parts (nat_lt half place) (place - half == 1) o in
      let m' : slice_get ss half ≡ Some x = sym (ap (λ b. slice_get ss (if b then half else half - 1)) p.0) ∙ m in
      let l = get_sprout h ls half x m' in
      let lt = lt_holds half place p.0 in
      let one = eq_is (place - half) 1 p.1 in
      let f : first ≡ first_leaf h l.0.child = for_key_at h (λ t. first ≡ first_leaf h t) key c ls half l.0 known (omega (arith, lt, one)) l.1 in
      rw s (old_right key ss x first n m (f ∙ ap (λ (z : Sprout). z.first) l.2))
  seam_old x n m false o false lv (class, nd, i, s) =
      let l = get_sprout h ls (if nat_lt half place then half else half - 1) x m in
      let g = get_each kind (Fine (nodes_in objects) kind h) ls (if nat_lt half place then half else half - 1) l.0 fine l.1 in
      let f : first_of x.child nd ≡ x.first = first_read objects kind h l.0.child leaves x.child class nd at lv g (ap (λ (z : Sprout). z.child) l.2) i ∙ ap (λ (z : Sprout). z.first) l.2 in
      rw s (old_right key ss x (first_of x.child nd) n m f)

  seam_found : (o : Option Sprout) → middle_old ss key ≡ o → (half ≡ place → ⊥) → SeamSettled objects (seam_of leaves on_way first (option_map (λ (s : Sprout). s.child) o)) seam' → SeamRight key ss seam'
  seam_found None m n s = rw s (none_right key ss m)
  seam_found (Some x) m n s = seam_old x n m on_way refl leaves refl s

  seam_whole : (b : Bool) → (half == place) ≡ b → SeamSettled objects (seam_of leaves on_way first (if b then None else option_map (λ (s : Sprout). s.child) (middle_old ss key))) seam' → SeamRight key ss seam'
  seam_whole true e s = rw s (new_right key ss (eq_is half place e))
  seam_whole false e s = seam_found (middle_old ss key) refl (eq_not half place e) s

  pub seam_is_right : SeamSettled objects (seam_for (map (branch_of h) ls) key leaves first) seam' → SeamRight key ss seam'
  seam_is_right s =
      let tails = branches_up h ls in
      let one : seam_for (map (branch_of h) ls) key leaves first ≡ seam_for (map branch_up ss) key leaves first = ap (λ bs. seam_for bs key leaves first) tails in
      let len = ups_length ss in
      let two : seam_for (map branch_up ss) key leaves first ≡ seam_of leaves on_way first (if half == place then None else child_in (slice_get (map branch_up ss) (if nat_lt half place then half else half - 1))) =
      ap (λ k. seam_of leaves (nat_lt (k / 2) place && (place - k / 2 == 1)) first (if k / 2 == place then None else child_in (slice_get (map branch_up ss) (if nat_lt (k / 2) place then k / 2 else k / 2 - 1)))) len in
      let three : seam_of leaves on_way first (if half == place then None else child_in (slice_get (map branch_up ss) (if nat_lt half place then half else half - 1))) ≡ seam_of leaves on_way first (if half == place then None else option_map (λ (s : Sprout). s.child) (middle_old ss key)) =
      ap (λ o. seam_of leaves on_way first (if half == place then None else o)) (get_branch ss (if nat_lt half place then half else half - 1)) in
      seam_whole (half == place) refl (subst (λ z. SeamSettled objects z seam') (one ∙ two ∙ three) s)
