-- Objects that are named once, from the last change to the first.
use Rattle.std.proofs.Common.{◌≡◌, ℕ, ◌+◌, ◌<◌, ◌≤◌, false, List, [], ◌∷◌, map, length, get_or, drop, drop-cons, subst, sym, arith}
use Rattle.std.proofs.lemmas.Grind.{common_steps}
use Rattle.std.proofs.lemmas.List.{drop_all}
use Rattle.std.specs.Prelude.{All, nat_eq}
use Rattle.std.specs.List.{AllByRecursion, IsDistinct}
use Rattle.std.proofs.lemmas.List.Elements.{All-from_recursion, recursion_from_All}
use Rattle.zb_model.specs.declared.new_transaction.NewChange.{NewChange}

-- no change is of this object
abbrev pub IsUnnamed : ℕ → List NewChange → Type 0
IsUnnamed oid changes = All (λ c. nat_eq oid c.oid ≡ false) changes

-- no object of these changes is named twice
abbrev pub AreDistinct : List NewChange → Type 0
AreDistinct changes = IsDistinct nat_eq (map (λ c. c.oid) changes)

oids_from : (oid : ℕ) (changes : List NewChange) → AllByRecursion (λ (c : NewChange). nat_eq oid c.oid ≡ false) changes → AllByRecursion (λ other. nat_eq oid other ≡ false) (map (λ (c : NewChange). c.oid) changes)
oids_from oid [] all = tt
oids_from oid (c ∷ changes) all = (all.0, oids_from oid changes all.1)

oids_to : (oid : ℕ) (changes : List NewChange) → AllByRecursion (λ other. nat_eq oid other ≡ false) (map (λ (c : NewChange). c.oid) changes) → AllByRecursion (λ (c : NewChange). nat_eq oid c.oid ≡ false) changes
oids_to oid [] all = tt
oids_to oid (c ∷ changes) all = (all.0, oids_to oid changes all.1)

pub distinct_more : (c : NewChange) (changes : List NewChange) → IsUnnamed c.oid changes → AreDistinct changes → AreDistinct (c ∷ changes)
unfolding IsDistinct
distinct_more c changes unnamed distinct = (oids_from c.oid changes (recursion_from_All (λ (d : NewChange). nat_eq c.oid d.oid ≡ false) changes unnamed), distinct)

pub distinct_first : (c : NewChange) (changes : List NewChange) → AreDistinct (c ∷ changes) → IsUnnamed c.oid changes
unfolding IsDistinct
distinct_first c changes distinct = All-from_recursion (λ (d : NewChange). nat_eq c.oid d.oid ≡ false) changes (oids_to c.oid changes distinct.0)

pub distinct_rest : (c : NewChange) (changes : List NewChange) → AreDistinct (c ∷ changes) → AreDistinct changes
unfolding IsDistinct
distinct_rest c changes distinct = distinct.1

pub distinct_none : AreDistinct []
unfolding IsDistinct
distinct_none = tt

module _ (changes : List NewChange) (i : ℕ) (c : NewChange) where
  at_place : i < length changes → c ≡ get_or changes i c → drop i changes ≡ c ∷ drop (i + 1) changes
  at_place within at = grind (arith, common_steps, drop-cons changes i c within)

  -- as a walk names the object and what is behind it
  pub behind : (oid : ℕ) (rest : List NewChange) → oid ≡ c.oid → rest ≡ drop (i + 1) changes → IsUnnamed oid rest → IsUnnamed c.oid (drop (i + 1) changes)
  behind oid rest same is unnamed = rw (sym same) (subst (IsUnnamed oid) is unnamed)

  pub seen_behind : (oid : ℕ) (rest : List NewChange) → oid ≡ c.oid → rest ≡ drop (i + 1) changes → IsUnnamed c.oid (drop (i + 1) changes) → IsUnnamed oid rest
  seen_behind oid rest same is unnamed = rw same (subst (IsUnnamed c.oid) (sym is) unnamed)

  -- one change more, from the last to the first
  pub distinct_from : i < length changes → c ≡ get_or changes i c → IsUnnamed c.oid (drop (i + 1) changes) → AreDistinct (drop (i + 1) changes) → AreDistinct (drop i changes)
  distinct_from within at unnamed distinct = rw (at_place within at) (distinct_more c (drop (i + 1) changes) unnamed distinct)

  pub distinct_behind : i < length changes → c ≡ get_or changes i c → AreDistinct (drop i changes) → AreDistinct (drop (i + 1) changes)
  distinct_behind within at distinct = distinct_rest c (drop (i + 1) changes) (subst AreDistinct (at_place within at) distinct)

  pub unnamed_behind : i < length changes → c ≡ get_or changes i c → AreDistinct (drop i changes) → IsUnnamed c.oid (drop (i + 1) changes)
  unnamed_behind within at distinct = distinct_first c (drop (i + 1) changes) (subst AreDistinct (at_place within at) distinct)

pub distinct_end : (changes : List NewChange) (i : ℕ) → length changes ≤ i → AreDistinct (drop i changes)
distinct_end changes i end = rw (drop_all i changes end) distinct_none
