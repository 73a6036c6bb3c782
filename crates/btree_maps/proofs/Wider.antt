-- Bounds that are widened, and the order of a whole mapping.
use Rattle.std.proofs.Common.{◌≡◌, true, List, [], ◌∷◌, ◌++◌, Option, Some, None, refl, zero, suc}
use Rattle.btree_family.specs.declared.key.Key.{Key}
use Rattle.btree_family.specs.declared.bucket.Item.{Item}
use Rattle.btree_family.specs.Buckets.{keys_of}
use Rattle.btree_family.specs.Rising.{is_key_above, Rises}
use Rattle.std.proofs.Common.{ℕ}
use Rattle.btree_shapes.specs.Shapes.{Shape, Limb, joined, IsFrom, IsUpTo, AreWithin, Parted, Bounded, mapping_of}
use Rattle.btree_family.specs.OrderLaws.{below_from}
use Rattle.btree_shapes.specs.BoundLaws.{from_wider}
use Rattle.btree_maps.proofs.Mappings.{within-mapping, within-joined}

-- ---- wider bounds

abbrev pub FromWider : Option Key → Option Key → Type 0
FromWider low low' = (key : Key) → IsFrom low key → IsFrom low' key

abbrev pub UpToWider : Option Key → Option Key → Type 0
UpToWider high high' = (key : Key) → IsUpTo high key → IsUpTo high' key

within_wider : (low low' high high' : Option Key) (xs : List Item) → FromWider low low' → UpToWider high high' → AreWithin low high xs → AreWithin low' high' xs
within_wider low low' high high' [] f g w = tt
within_wider low low' high high' (x ∷ xs) f g w = (f x.key w.0, g x.key w.1, within_wider low low' high high' xs f g w.2)

pub parted_wider : {S : Type 0} (B : Option Key → Option Key → S → Type 0) → ((low low' high high' : Option Key) (s : S) → FromWider low low' → UpToWider high high' → B low high s → B low' high' s)
    → (low low' high high' : Option Key) (c : S) (ls : List (Limb S)) → FromWider low low' → UpToWider high high' → Parted B low high c ls → Parted B low' high' c ls
parted_wider B each low low' high high' c [] f g p = each low low' high high' c f g p
parted_wider B each low low' high high' c (x ∷ xs) f g p = (
  f x.key p.0,
  g x.key p.1,
  each low low' (Some x.key) (Some x.key) c f (λ k u. u) p.2,
  parted_wider B each (Some x.key) (Some x.key) high high' x.child xs (λ k u. u) g p.3,
)

pub bounded_wider : (h : ℕ) (low low' high high' : Option Key) (s : Shape h) → FromWider low low' → UpToWider high high' → Bounded h low high s → Bounded h low' high' s
bounded_wider zero low low' high high' s f g b = (b.0, within_wider low low' high high' s.items f g b.1)
bounded_wider (suc h) low low' high high' s f g b = parted_wider (Bounded h) (bounded_wider h) low low' high high' s.head s.tail f g b

-- children from a separator on, from a bound that the separator isn't below
pub parted_from : (h : ℕ) (low : Option Key) (mid : Key) (high : Option Key) (c : Shape h) (ls : List (Limb (Shape h))) → IsFrom low mid → Parted (Bounded h) (Some mid) high c ls → Parted (Bounded h) low high c ls
parted_from h low mid high c ls f p = parted_wider (Bounded h) (bounded_wider h) (Some mid) low high high c ls (λ k u. from_wider low mid k f u) (λ k u. u) p

-- a child up to a separator, up to a wider bound
pub bounded_to : (h : ℕ) (low high high' : Option Key) (s : Shape h) → UpToWider high high' → Bounded h low high s → Bounded h low high' s
bounded_to h low high high' s g b = bounded_wider h low low high high' s (λ k u. u) g b

-- ---- the order of a mapping

rises_after : (above : Option Key) (mid : Key) (low high : Option Key) (xs ys : List Item) → ((key : Key) → IsFrom (Some mid) key → is_key_above above key ≡ true)
    → Rises above (keys_of xs) → AreWithin low (Some mid) xs → AreWithin (Some mid) high ys → Rises None (keys_of ys) → Rises above (keys_of (xs ++ ys))
rises_after above mid low high [] [] a r w v q = tt
rises_after above mid low high [] (y ∷ ys) a r w v q = (a y.key v.0, q.1)
rises_after above mid low high (x ∷ xs) ys a r w v q = (r.0, rises_after (Some x.key) mid low high xs ys (λ k f. below_from x.key mid k w.1 f) r.1 w.2 v q)

rises_joined : {S : Type 0} (B : Option Key → Option Key → S → Type 0) (f : S → List Item) → ((low high : Option Key) (s : S) → B low high s → AreWithin low high (f s)) → ((low high : Option Key) (s : S) → B low high s → Rises None (keys_of (f s)))
    → (low high : Option Key) (c : S) (ls : List (Limb S)) → Parted B low high c ls → Rises None (keys_of (joined f c ls))
rises_joined B f within each low high c [] p = each low high c p
rises_joined B f within each low high c (l ∷ ls) p =
    rises_after None l.key low high (f c) (joined f l.child ls) (λ k u. refl) (each low (Some l.key) c p.2) (within low (Some l.key) c p.2) (within-joined B f within (Some l.key) high l.child ls p.3)
    (rises_joined B f within each (Some l.key) high l.child ls p.3)

-- all keys of a shape rise
pub rises_mapping : (h : ℕ) (low high : Option Key) (s : Shape h) → Bounded h low high s → Rises None (keys_of (mapping_of h s))
rises_mapping zero low high s b = b.0
rises_mapping (suc h) low high s b = rises_joined (Bounded h) (mapping_of h) (within-mapping h) (rises_mapping h) low high s.head s.tail b
