-- The objects on the way to a leaf that loses an item, and what goes on there.
use Rattle.std.proofs.Common.{◌≡◌, ℕ, ◌<◌, Bool, true, false, List, [], ◌∷◌, ◌++◌, Option, None, refl, arith, sym, ◌∙◌, ap, subst, zero, suc, inl, inr, ◌⊎◌}
use Rattle.std.specs.Prelude.{map, nat_eq, if◌then◌else◌, ◌==◌}
use Rattle.btree_family.specs.declared.key.Key.{Key}
use Rattle.bucket_state.specs.declared.tree.Branch.{Branch}
use Rattle.btree_shapes.specs.declared.node.Node.{Node}
use Rattle.btree_shapes.specs.declared.node.Node.TheVariants as node
use Rattle.btree_family.specs.Keys.{is_below}
use Rattle.btree_shapes.specs.Nodes.{Held, Holds, place_for}
use Rattle.btree_shapes.specs.Ways.{stands_in}
use Rattle.btree_shapes.specs.Shapes.{LeafShape, Shape, Limb, oid_of, EachChild, EachLimb, OfKind, Stands, links_of, NamesFirst}
use Rattle.btree_putting.specs.declared.puts.Put.{Put}
use Rattle.btree_setting.specs.Types.{Sprout}
use Rattle.btree_putting.specs.Puts.{put_oid, inner_node, lone_node}
use Rattle.btree_removing.specs.Types.{Loss, Rest, Same, First, Gone, Rung}
use Rattle.btree_removing.specs.Items.{cut_branch}
use Rattle.btree_removing.specs.Rungs.{rung_oid}
use Rattle.btree_removing.specs.Losses.{put_rung, first_or, lose_head, lose_child, move_first, lose_by, lose, raise}
use Rattle.btree_maps.specs.Drawn.{Differ}
use Rattle.btree_maps.proofs.Reaching.{one_height}
use Rattle.btree_shapes.specs.ChainLaws.{In}
use Rattle.btree_maps.proofs.Limbs.{ForKey, in_for_key, chosen, sprouts_of, Fine}
use Rattle.btree_maps.proofs.Rungs.{inner_of}
use Rattle.btree_maps.proofs.Putting.{or_left, or_right, both, or_end, same_number, other_number, stands_append, oids_append, differ_append}
use Rattle.btree_maps.proofs.Backs.{AllHeld}

-- ---- ways to a leaf

-- the first leaf below the second child is known, where the key leads to the first one
abbrev pub HeadKnown : Key → Option ℕ → List Sprout → Type 0
HeadKnown key known [] = Unit {0}
HeadKnown key known (x ∷ xs) = is_below key x.key ≡ true → first_or x.child known ≡ x.first

-- These objects lead from the top of the shape to this leaf. Where all below an object is to leave, the leaf that is the
-- first one then is known.
abbrev pub WayIn : Key → Option ℕ → Loss → LeafShape → (h : ℕ) → Shape h → List Rung → Type 0
WayIn key known base leaf zero s [] = leaf ≡ s
WayIn key known base leaf zero s (x ∷ xs) = ⊥
WayIn key known base leaf (suc h) s [] = ⊥
WayIn key known base leaf (suc h) s (x ∷ xs) =
    (x.oid ≡ s.oid) × (x.inner ≡ inner_of h s) × ((raise key known xs base).rest ≡ Gone → HeadKnown key known (sprouts_of h s.tail))
    × ForKey (λ c. WayIn key known base leaf h c xs) key s.head s.tail

-- ---- parts of what is fine

pub fine_head : (nodes : ℕ → Option Node) (kind h : ℕ) (s : Shape (suc h)) → Fine nodes kind (suc h) s → Fine nodes kind h s.head
fine_head nodes kind h s f = (f.0.1, f.1.1, f.2.0)

fine_limbs : (nodes : ℕ → Option Node) (kind h : ℕ) (ls : List (Limb (Shape h))) → EachChild (Stands nodes h) ls → EachChild (NamesFirst h) ls → EachLimb kind (OfKind kind h) ls → EachLimb kind (Fine nodes kind h) ls
fine_limbs nodes kind h [] a b c = tt
fine_limbs nodes kind h (l ∷ ls) a b c = (c.0, (a.0, b.0, c.1), fine_limbs nodes kind h ls a.1 b.1 c.2)

pub fine_tail : (nodes : ℕ → Option Node) (kind h : ℕ) (s : Shape (suc h)) → Fine nodes kind (suc h) s → EachLimb kind (Fine nodes kind h) s.tail
fine_tail nodes kind h s f = fine_limbs nodes kind h s.tail f.0.2 f.1.2 f.2.1

-- ---- what one object adds

-- an object is put, or nothing is
abbrev pub Adds : List Put → Rung → Loss → Type 0
Adds puts rung c = (c.puts ≡ puts) ⊎ ((n : Node) × (c.puts ≡ puts ++ put_rung rung n ∷ []))

head_adds : (known : Option ℕ) (rung : Rung) (bs : List Branch) (puts : List Put) → Adds puts rung (lose_head known rung bs puts)
head_adds known rung [] puts = inr (lone_node [] None, refl)
head_adds known rung (b ∷ bs) puts = inr (inner_node b.child bs (first_or b.child known), refl)

child_adds : (place : ℕ) (known : Option ℕ) (rung : Rung) (puts : List Put) → Adds puts rung (lose_child place known rung puts)
child_adds zero known rung puts = head_adds known rung rung.inner.tail puts
child_adds (suc place) known rung puts = inr (inner_node rung.inner.head (cut_branch rung.inner.tail place) rung.inner.first, refl)

move_adds : (place first : ℕ) (rung : Rung) (puts : List Put) → Adds puts rung (move_first place first rung puts)
move_adds zero first rung puts = by_test (rung.inner.first == first) where
  by_test : (b : Bool) → ((if b then puts else puts ++ put_rung rung (inner_node rung.inner.head rung.inner.tail first) ∷ []) ≡ puts) ⊎ ((n : Node) × ((if b then puts else puts ++ put_rung rung (inner_node rung.inner.head rung.inner.tail first) ∷ []) ≡ puts ++ put_rung rung n ∷ []))
  by_test true = inl refl
  by_test false = inr (inner_node rung.inner.head rung.inner.tail first, refl)
move_adds (suc place) first rung puts = inl refl

pub lose_adds : (place : ℕ) (known : Option ℕ) (rung : Rung) (r : Rest) (puts : List Put) → Adds puts rung (lose_by place known rung r puts)
lose_adds place known rung Gone puts = child_adds place known rung puts
lose_adds place known rung (First first) puts = move_adds place first rung puts
lose_adds place known rung Same puts = inl refl

adds_oids : (puts : List Put) (rung : Rung) (c : Loss) (n : Node) → c.puts ≡ puts ++ put_rung rung n ∷ [] → map put_oid c.puts ≡ map put_oid puts ++ rung.oid ∷ []
adds_oids puts rung c n e = ap (map put_oid) e ∙ oids_append puts (put_rung rung n ∷ [])

adds_off : (puts : List Put) (rung : Rung) (c : Loss) (q : ℕ) → Adds puts rung c → stands_in (map put_oid puts) q ≡ false → nat_eq rung.oid q ≡ false → stands_in (map put_oid c.puts) q ≡ false
adds_off puts rung c q (inl e) s n = ap (λ ps. stands_in (map put_oid ps) q) e ∙ s
adds_off puts rung c q (inr (m, e)) s n =
    ap (λ os. stands_in os q) (adds_oids puts rung c m e) ∙ stands_append (map put_oid puts) (rung.oid ∷ []) q
    ∙ both (stands_in (map put_oid puts) q) (stands_in (rung.oid ∷ []) q) s (both (nat_eq rung.oid q) false n refl)

adds_differ : (puts : List Put) (rung : Rung) (c : Loss) → Adds puts rung c → stands_in (map put_oid puts) rung.oid ≡ false → Differ (map put_oid puts) → Differ (map put_oid c.puts)
adds_differ puts rung c (inl e) n d = subst (λ ps. Differ (map put_oid ps)) (sym e) d
adds_differ puts rung c (inr (m, e)) n d =
    subst Differ (sym (adds_oids puts rung c m e))
    (differ_append (map put_oid puts) (rung.oid ∷ []) d (refl, tt) (λ q k. ap (stands_in (map put_oid puts)) (sym (same_number rung.oid q (or_end (nat_eq rung.oid q) k))) ∙ n))

held_append : (objects : ℕ → Held) (ps qs : List Put) → AllHeld objects ps → AllHeld objects qs → AllHeld objects (ps ++ qs)
held_append objects [] qs a b = b
held_append objects (p ∷ ps) qs a b = (a.0, held_append objects ps qs a.1 b)

adds_held : (objects : ℕ → Held) (puts : List Put) (rung : Rung) (c : Loss) (n : Node) → objects rung.oid ≡ Holds rung.class n → Adds puts rung c → AllHeld objects puts → AllHeld objects c.puts
adds_held objects puts rung c n h (inl e) a = subst (AllHeld objects) (sym e) a
adds_held objects puts rung c n h (inr (m, e)) a = subst (AllHeld objects) (sym e) (held_append objects puts (put_rung rung m ∷ []) a ((n, h), tt))

-- ---- all that is put

-- objects differ from each other and from the leaf
abbrev pub Apart : ℕ → List Rung → Type 0
Apart to [] = Unit {0}
Apart to (x ∷ xs) = (stands_in (to ∷ map rung_oid xs) x.oid ≡ false) × Apart to xs

-- the objects hold what the way says
abbrev pub AreHeld : (ℕ → Held) → List Rung → Type 0
AreHeld objects [] = Unit {0}
AreHeld objects (x ∷ xs) = (objects x.oid ≡ Holds x.class (node.Inner x.inner)) × AreHeld objects xs

module _ (key : Key) (known : Option ℕ) (base : Loss) where
  pub loss_held : (objects : ℕ → Held) (rungs : List Rung) → AllHeld objects base.puts → AreHeld objects rungs → AllHeld objects (raise key known rungs base).puts
  loss_held objects [] a r = a
  loss_held objects (x ∷ xs) a r =
      let b = raise key known xs base in
      adds_held objects b.puts x (lose key known x b) (node.Inner x.inner) r.0 (lose_adds (place_for x.inner.tail key) known x b.rest b.puts) (loss_held objects xs a r.1)

  module _ (to : ℕ) (one : map put_oid base.puts ≡ to ∷ []) where
    -- only objects on the way are put
    pub loss_off : (rungs : List Rung) (q : ℕ) → nat_eq to q ≡ false → stands_in (map rung_oid rungs) q ≡ false → stands_in (map put_oid (raise key known rungs base).puts) q ≡ false
    loss_off [] q n s = ap (λ os. stands_in os q) one ∙ both (nat_eq to q) false n refl
    loss_off (x ∷ xs) q n s =
        let b = raise key known xs base in
        adds_off b.puts x (lose key known x b) q (lose_adds (place_for x.inner.tail key) known x b.rest b.puts) (loss_off xs q n (or_right (nat_eq x.oid q) (stands_in (map rung_oid xs) q) s)) (or_left (nat_eq x.oid q) (stands_in (map rung_oid xs) q) s)

    pub below_off : (x : Rung) (xs : List Rung) → Apart to (x ∷ xs) → stands_in (map put_oid (raise key known xs base).puts) x.oid ≡ false
    below_off x xs a = loss_off xs x.oid (or_left (nat_eq to x.oid) (stands_in (map rung_oid xs) x.oid) a.0) (or_right (nat_eq to x.oid) (stands_in (map rung_oid xs) x.oid) a.0)

    pub loss_differ : (rungs : List Rung) → Apart to rungs → Differ (map put_oid (raise key known rungs base).puts)
    loss_differ [] a = subst Differ (sym one) (refl, tt)
    loss_differ (x ∷ xs) a =
        let b = raise key known xs base in
        adds_differ b.puts x (lose key known x b) (lose_adds (place_for x.inner.tail key) known x b.rest b.puts) (below_off x xs a) (loss_differ xs a.1)

-- ---- where all leaves

-- none of these has more than one child
abbrev pub Single : List Rung → Type 0
Single [] = Unit {0}
Single (x ∷ xs) = (x.inner.tail ≡ []) × Single xs

head_gone : (known : Option ℕ) (rung : Rung) (bs : List Branch) (puts : List Put) → (lose_head known rung bs puts).rest ≡ Gone → bs ≡ []
head_gone known rung [] puts e = refl
head_gone known rung (b ∷ bs) puts e = absurd cc

child_gone : (place : ℕ) (known : Option ℕ) (rung : Rung) (puts : List Put) → (lose_child place known rung puts).rest ≡ Gone → rung.inner.tail ≡ []
child_gone zero known rung puts e = head_gone known rung rung.inner.tail puts e
child_gone (suc place) known rung puts e = absurd cc

pub move_gone : (place first : ℕ) (rung : Rung) (puts : List Put) → (move_first place first rung puts).rest ≡ Gone → ⊥
move_gone zero first rung puts e = cc
move_gone (suc place) first rung puts e = cc

lose_gone : (place : ℕ) (known : Option ℕ) (rung : Rung) (r : Rest) (puts : List Put) → (lose_by place known rung r puts).rest ≡ Gone → (r ≡ Gone) × (rung.inner.tail ≡ [])
lose_gone place known rung Gone puts e = (refl, child_gone place known rung puts e)
lose_gone place known rung (First first) puts e = absurd (move_gone place first rung puts e)
lose_gone place known rung Same puts e = absurd cc

pub raise_gone : (key : Key) (known : Option ℕ) (base : Loss) (rungs : List Rung) → (raise key known rungs base).rest ≡ Gone → (base.rest ≡ Gone) × Single rungs
raise_gone key known base [] e = (e, tt)
raise_gone key known base (x ∷ xs) e =
    let b = raise key known xs base in
    let l = lose_gone (place_for x.inner.tail key) known x b.rest b.puts e in
    let r = raise_gone key known base xs l.0 in
    (r.0, (l.1, r.1))

-- where the leaf stays, nothing goes on
pub raise_kept : (key : Key) (known : Option ℕ) (puts : List Put) (rungs : List Rung) → raise key known rungs (record { puts = puts; rest = Same }) ≡ record { puts = puts; rest = Same }
raise_kept key known puts [] = refl
raise_kept key known puts (x ∷ xs) = ap (lose key known x) (raise_kept key known puts xs)

-- ---- the way in a shape

module _ (nodes : ℕ → Option Node) (kind : ℕ) (key : Key) (known : Option ℕ) (base : Loss) (leaf : LeafShape) where
  abbrev Way : (h : ℕ) → Shape h → List Rung → Type 0
  Way h s rungs = WayIn key known base leaf h s rungs

  pub way_there : (h : ℕ) (s : Shape h) (rungs : List Rung) → Way h s rungs → In leaf.oid (links_of h s)
  way_there zero s [] r = inl (ap (λ (z : LeafShape). z.oid) (sym r))
  way_there zero s (x ∷ xs) r = absurd r
  way_there (suc h) s [] r = absurd r
  way_there (suc h) s (x ∷ xs) r = in_for_key (λ c. Way h c xs) (links_of h) leaf.oid key s.head s.tail (λ t i. way_there h t xs i) r.3

  -- an object further up is none of these
  off_below : (h H : ℕ) (s : Shape h) (S : Shape H) (rungs : List Rung) → h < H → Fine nodes kind h s → Stands nodes H S → Way h s rungs → stands_in (leaf.oid ∷ map rung_oid rungs) (oid_of H S) ≡ false
  off_below zero H s S [] l f st r =
      let apart : leaf.oid ≡ oid_of H S → ⊥ = λ e. let same : 0 ≡ H = one_height nodes 0 H s S f.0 st (ap (λ (z : LeafShape). z.oid) (sym r) ∙ e) in absurd (omega (arith, l, same)) in
      both (nat_eq leaf.oid (oid_of H S)) false (other_number leaf.oid (oid_of H S) apart) refl
  off_below zero H s S (x ∷ xs) l f st r = absurd r
  off_below (suc h) H s S [] l f st r = absurd r
  off_below (suc h) H s S (x ∷ xs) l f st r =
      let t = chosen (λ c. Way h c xs) (Fine nodes kind h) kind key s.head s.tail r.3 (fine_head nodes kind h s f) (fine_tail nodes kind h s f) in
      let d = off_below h H t.0 S xs (omega (arith, l)) t.2 st t.1 in
      let apart : x.oid ≡ oid_of H S → ⊥ = λ e. let same : suc h ≡ H = one_height nodes (suc h) H s S f.0 st (sym r.0 ∙ e) in absurd (omega (arith, l, same)) in
      let a = or_left (nat_eq leaf.oid (oid_of H S)) (stands_in (map rung_oid xs) (oid_of H S)) d in
      let b = or_right (nat_eq leaf.oid (oid_of H S)) (stands_in (map rung_oid xs) (oid_of H S)) d in
      both (nat_eq leaf.oid (oid_of H S)) (stands_in (map rung_oid (x ∷ xs)) (oid_of H S)) a (both (nat_eq x.oid (oid_of H S)) (stands_in (map rung_oid xs) (oid_of H S)) (other_number x.oid (oid_of H S) apart) b)

  pub way_apart : (h : ℕ) (s : Shape h) (rungs : List Rung) → Fine nodes kind h s → Way h s rungs → Apart leaf.oid rungs
  way_apart zero s [] f r = tt
  way_apart zero s (x ∷ xs) f r = absurd r
  way_apart (suc h) s [] f r = absurd r
  way_apart (suc h) s (x ∷ xs) f r =
      let t = chosen (λ c. Way h c xs) (Fine nodes kind h) kind key s.head s.tail r.3 (fine_head nodes kind h s f) (fine_tail nodes kind h s f) in
      (ap (stands_in (leaf.oid ∷ map rung_oid xs)) r.0 ∙ off_below h (suc h) t.0 s xs (omega arith) t.2 f.0 t.1, way_apart h t.0 xs t.2 t.1)
