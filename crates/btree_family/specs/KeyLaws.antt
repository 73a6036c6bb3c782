-- The laws of the order of keys.
use Rattle.std.proofs.Common.{◌≡◌, refl, ap, rules, arith}
use Rattle.std.specs.declared.cmp.Ordering.{Ordering}
use Rattle.std.specs.declared.cmp.Ordering.TheVariants.{Less, Equal, Greater}
use Rattle.std.specs.Ordering.{nat_cmp, int_cmp, as_partial_cmp, ordering_then}
use Rattle.std.specs.Cmp.{IsTotalOrder, IsEquivalence, IsPartialOrder, eq_by_cmp_equiv, po}
use Rattle.std.specs.Cmp.Rules.{comparing}
use Rattle.std.specs.Cmp.Lexicographic.{slice_cmp}
use Rattle.std.specs.FinMap.{IsAntisymmetric, nat_cmp-IsAntisymmetric, int_cmp-IsAntisymmetric, slice_cmp-IsAntisymmetric}
use Rattle.btree_family.specs.declared.key.Key.{Key}
use Rattle.btree_family.specs.declared.key.Key.TheVariants.{Text, Bytes, Number}
use Rattle.btree_family.specs.Keys.{rank_of, key_number, key_bytes, key_cmp, key_eq}

pub key_cmp-total : IsTotalOrder key_cmp
key_cmp-total = search (comparing, rules)

pub key_eq-equiv : IsEquivalence key_eq
key_eq-equiv = eq_by_cmp_equiv key_cmp-total

pub key_cmp-partial : IsPartialOrder key_eq (as_partial_cmp key_cmp)
key_cmp-partial = po key_cmp-total (λ x y. refl)

-- both of two orders tell not apart
both_equal : (r s : Ordering) → ordering_then r s ≡ Equal → (r ≡ Equal) × (s ≡ Equal)
both_equal Less s e = cc
both_equal Equal s e = (refl, e)
both_equal Greater s e = cc

same_parts : (a b : Key) → rank_of a ≡ rank_of b → key_number a ≡ key_number b → key_bytes a ≡ key_bytes b → a ≡ b
same_parts (Number m) (Number n) r e h = ap Number e
same_parts (Number m) (Bytes b) r e h = absurd (omega arith)
same_parts (Number m) (Text b) r e h = absurd (omega arith)
same_parts (Bytes a) (Number n) r e h = absurd (omega arith)
same_parts (Bytes a) (Bytes b) r e h = ap Bytes h
same_parts (Bytes a) (Text b) r e h = absurd (omega arith)
same_parts (Text a) (Number n) r e h = absurd (omega arith)
same_parts (Text a) (Bytes b) r e h = absurd (omega arith)
same_parts (Text a) (Text b) r e h = ap Text h

-- only a key itself is equal to it
pub key_cmp-same : IsAntisymmetric key_cmp
key_cmp-same a b e =
    let outer = both_equal (ordering_then (nat_cmp (rank_of a) (rank_of b)) (int_cmp (key_number a) (key_number b))) (slice_cmp nat_cmp (key_bytes a) (key_bytes b)) e in
    let inner = both_equal (nat_cmp (rank_of a) (rank_of b)) (int_cmp (key_number a) (key_number b)) outer.0 in
    same_parts a b (nat_cmp-IsAntisymmetric (rank_of a) (rank_of b) inner.0) (int_cmp-IsAntisymmetric (key_number a) (key_number b) inner.1)
    (slice_cmp-IsAntisymmetric nat_cmp-IsAntisymmetric (key_bytes a) (key_bytes b) outer.1)
