-- The mapping of a shape.
use Rattle.std.proofs.Common.{◌≡◌, ℕ, zero, suc, true, false, List, [], ◌∷◌, ◌++◌, Option, Some, None, refl, ◌∙◌, ap}
use Rattle.std.specs.Prelude.{if◌then◌else◌}
use Rattle.btree_family.specs.declared.key.Key.{Key}
use Rattle.btree_family.specs.declared.bucket.Item.{Item}
use Rattle.btree_family.specs.Keys.{key_eq, is_below}
use Rattle.btree_shapes.specs.Nodes.{value_in, shown}
use Rattle.btree_shapes.specs.Shapes.{Shape, Limb, joined, IsFrom, IsUpTo, AreWithin, Parted, Bounded, mapping_of}
use Rattle.btree_family.specs.OrderLaws.{below_eq, above_eq, below_from}
use Rattle.btree_shapes.specs.BoundLaws.{from_wider, upto_wider}

pub within_from : (low : Option Key) (mid : Key) (high : Option Key) (xs : List Item) → IsFrom low mid → AreWithin (Some mid) high xs → AreWithin low high xs
within_from low mid high [] l w = tt
within_from low mid high (x ∷ xs) l w = (from_wider low mid x.key l w.0, w.1, within_from low mid high xs l w.2)

pub within_upto : (low : Option Key) (mid : Key) (high : Option Key) (xs : List Item) → IsUpTo high mid → AreWithin low (Some mid) xs → AreWithin low high xs
within_upto low mid high [] l w = tt
within_upto low mid high (x ∷ xs) l w = (w.0, upto_wider high mid x.key l w.1, within_upto low mid high xs l w.2)

pub within-append : (low high : Option Key) (xs ys : List Item) → AreWithin low high xs → AreWithin low high ys → AreWithin low high (xs ++ ys)
within-append low high [] ys w v = v
within-append low high (x ∷ xs) ys w v = (w.0, w.1, within-append low high xs ys w.2 v)

pub within-joined : {S : Type 0} (B : Option Key → Option Key → S → Type 0) (f : S → List Item) → ((low high : Option Key) (s : S) → B low high s → AreWithin low high (f s)) → (low high : Option Key) (c : S) (ls : List (Limb S)) → Parted B low high c ls → AreWithin low high (joined f c ls)
within-joined B f each low high c [] p = each low high c p
within-joined B f each low high c (l ∷ ls) p =
    within-append low high (f c) (joined f l.child ls)
    (within_upto low l.key high (f c) p.1 (each low (Some l.key) c p.2))
    (within_from low l.key high (joined f l.child ls) p.0 (within-joined B f each (Some l.key) high l.child ls p.3))

pub within-mapping : (h : ℕ) (low high : Option Key) (s : Shape h) → Bounded h low high s → AreWithin low high (mapping_of h s)
within-mapping zero low high s b = b.1
within-mapping (suc h) low high s b = within-joined (Bounded h) (mapping_of h) (within-mapping h) low high s.head s.tail b

value_skips : (x : Item) (xs : List Item) (key : Key) → key_eq x.key key ≡ false → value_in (x ∷ xs) key ≡ value_in xs key
value_skips x xs key e = ap (λ b. if b then Some (shown x.value) else value_in xs key) e

-- no value stands below the bounds, and none above them
pub value_low : (low key : Key) (high : Option Key) (xs : List Item) → AreWithin (Some low) high xs → is_below key low ≡ true → value_in xs key ≡ None
value_low low key high [] w l = refl
value_low low key high (x ∷ xs) w l = value_skips x xs key (above_eq x.key key (below_from key low x.key l w.0)) ∙ value_low low key high xs w.2 l

pub value_high : (low : Option Key) (high key : Key) (xs : List Item) → AreWithin low (Some high) xs → is_below key high ≡ false → value_in xs key ≡ None
value_high low high key [] w l = refl
value_high low high key (x ∷ xs) w l = value_skips x xs key (below_eq x.key key (below_from x.key high key w.1 l)) ∙ value_high low high key xs w.2 l

-- only the first of two parts has the key, or only the second
pub value_front : (low key : Key) (high : Option Key) (xs ys : List Item) → AreWithin (Some low) high ys → is_below key low ≡ true → value_in (xs ++ ys) key ≡ value_in xs key
value_front low key high [] ys w l = value_low low key high ys w l
value_front low key high (x ∷ xs) ys w l = ap (λ v. if key_eq x.key key then Some (shown x.value) else v) (value_front low key high xs ys w l)

pub value_back : (low : Option Key) (high key : Key) (xs ys : List Item) → AreWithin low (Some high) xs → is_below key high ≡ false → value_in (xs ++ ys) key ≡ value_in ys key
value_back low high key [] ys w l = refl
value_back low high key (x ∷ xs) ys w l = value_skips x (xs ++ ys) key (below_eq x.key key (below_from x.key high key w.1 l)) ∙ value_back low high key xs ys w.2 l
