-- The order of keys, by tests.
use Rattle.std.proofs.Common.{◌≡◌, Bool, true, false, ◌⊎◌, inl, inr, refl, sym, ◌∙◌, ap, subst}
use Rattle.std.specs.declared.cmp.Ordering.{Ordering}
use Rattle.std.specs.declared.cmp.Ordering.TheVariants.{Less, Equal, Greater}
use Rattle.std.specs.Ordering.{is_lt, is_eq, ordering_reverse}
use Rattle.std.proofs.lemmas.Cmp.{tied_itself}
use Rattle.btree_family.specs.declared.key.Key.{Key}
use Rattle.btree_family.specs.Keys.{key_cmp, key_eq, is_below}
use Rattle.btree_family.specs.KeyLaws.{key_cmp-total, key_cmp-same}

is_less : (o : Ordering) → is_lt o ≡ true → o ≡ Less
is_less Less e = refl
is_less Equal e = cc
is_less Greater e = cc

is_equal : (o : Ordering) → is_eq o ≡ true → o ≡ Equal
is_equal Less e = cc
is_equal Equal e = refl
is_equal Greater e = cc

reversed : (a b : Key) → key_cmp b a ≡ ordering_reverse (key_cmp a b)
reversed a b = key_cmp-total.antisymm b a

below_is : (a b : Key) → is_below a b ≡ true → key_cmp a b ≡ Less
below_is a b h = is_less (key_cmp a b) h

pub eq_is : (a b : Key) → key_eq a b ≡ true → a ≡ b
eq_is a b h = key_cmp-same a b (is_equal (key_cmp a b) h)

pub below_itself : (a : Key) → is_below a a ≡ false
below_itself a = ap is_lt (tied_itself key_cmp-total a)

pub eq_itself : (a : Key) → key_eq a a ≡ true
eq_itself a = ap is_eq (tied_itself key_cmp-total a)

pub below_eq : (a b : Key) → is_below a b ≡ true → key_eq a b ≡ false
below_eq a b h = ap is_eq (below_is a b h)

pub below_not : (a b : Key) → is_below a b ≡ true → is_below b a ≡ false
below_not a b h = ap is_lt (reversed a b ∙ ap ordering_reverse (below_is a b h))

pub above_eq : (a b : Key) → is_below b a ≡ true → key_eq a b ≡ false
above_eq a b h = ap is_eq (reversed b a ∙ ap ordering_reverse (below_is b a h))

pub below_below : (a b c : Key) → is_below a b ≡ true → is_below b c ≡ true → is_below a c ≡ true
below_below a b c g h = ap is_lt (key_cmp-total.trans a b c (below_is a b g) (below_is b c h))

by_order : (a b : Key) (o : Ordering) → key_cmp a b ≡ o → (a ≡ b) ⊎ ((is_below a b ≡ true) ⊎ (is_below b a ≡ true))
by_order a b Less e = inr (inl (ap is_lt e))
by_order a b Equal e = inl (key_cmp-same a b e)
by_order a b Greater e = inr (inr (ap is_lt (reversed a b ∙ ap ordering_reverse e)))

-- two keys are the same, or one is below the other
pub order : (a b : Key) → (a ≡ b) ⊎ ((is_below a b ≡ true) ⊎ (is_below b a ≡ true))
order a b = by_order a b (key_cmp a b) refl

by_test : (b : Bool) → (b ≡ true) ⊎ (b ≡ false)
by_test true = inl refl
by_test false = inr refl

-- a key is below another or not
pub below_or : (a b : Key) → (is_below a b ≡ true) ⊎ (is_below a b ≡ false)
below_or a b = by_test (is_below a b)

true_false : {P : Type 0} (b : Bool) → b ≡ true → b ≡ false → P
true_false b t f = let bad : true ≡ false = sym t ∙ f in absurd cc

-- not below b, and b below c
pub from_below : (a b c : Key) → is_below b a ≡ false → is_below b c ≡ true → is_below a c ≡ true
from_below a b c g h = elim (order a b) [
  | inl e ↦ subst (λ x. is_below x c ≡ true) (sym e) h
  | inr o ↦ elim o [
    | inl l ↦ below_below a b c l h
    | inr l ↦ true_false (is_below b a) l g
  ]
]

-- below b, which is not above c
pub below_from : (a b c : Key) → is_below a b ≡ true → is_below c b ≡ false → is_below a c ≡ true
below_from a b c g h = elim (order b c) [
  | inl e ↦ subst (λ x. is_below a x ≡ true) e g
  | inr o ↦ elim o [
    | inl l ↦ below_below a b c g l
    | inr l ↦ true_false (is_below c b) l h
  ]
]

-- a is not above b, which is not above c
pub from_from : (a b c : Key) → is_below b a ≡ false → is_below c b ≡ false → is_below c a ≡ false
from_from a b c g h = elim (below_or c a) [
  | inl l ↦ true_false (is_below b a) (from_below b c a h l) g
  | inr n ↦ n
]
