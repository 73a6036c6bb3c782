-- The objects that data records in order have by a transaction.
use Rattle.std.proofs.Common.{◌≡◌, ◌⊎◌, inl, inr, ℕ, ◌<◌, ◌≤◌, Bool, true, false, cond, List, [], ◌∷◌, map, filter, refl, sym, ap, ◌∙◌, arith}
use Rattle.std.specs.Prelude.{◌&&◌, ◌||◌, ◌==◌, not, nat_eq, nat_lt, nat_le}
use Rattle.std.specs.Set.{is_member}
use Rattle.std.specs.List.{AllByRecursion, IsDistinct, list_any}
use Rattle.std.proofs.lemmas.Bool.{cases_lt, eq-eqb, eqb-true, leb-true, ltb-true, ne_eqb}
use Rattle.fs_index.specs.declared.place.Place.{Place}
use Rattle.fs_index.specs.declared.place.Placed.{Placed}
use Rattle.fs_index.specs.Places.{is_placed, placed_of}
use Rattle.fs_index_file.specs.Counts.{is_again, oids_at}
use Rattle.fs_index_file.specs.Hints.{after, are_records, is_record}

-- ---- whose objects they are

or_false : (b : Bool) → (b || false) ≡ b
or_false true = refl
or_false false = refl

abbrev pub of_tid : ℕ → Place → Bool
of_tid tid p = p.serial == tid

-- a record is of this object and of this transaction
abbrev pub at : ℕ → ℕ → Placed → Bool
at oid tid r = nat_eq oid r.oid && r.place.serial == tid

again_at : (oid tid : ℕ) (last r : Placed) → nat_eq oid r.oid ≡ true → (r.place.serial == tid) ≡ true → is_again last r ≡ true → at oid tid last ≡ true
again_at oid tid last r same there again = split (last.oid == r.oid) (last.place.serial == r.place.serial) refl refl again
  where
    eq-self : (n : ℕ) → nat_eq n n ≡ true
    eq-self n = eq-eqb n n refl

    split : (a b : Bool) → (last.oid == r.oid) ≡ a → (last.place.serial == r.place.serial) ≡ b → (a && b) ≡ true → at oid tid last ≡ true
    split true true x y e =
        let o : last.oid ≡ oid = eqb-true _ _ x ∙ sym (eqb-true _ _ same) in
        let s : last.place.serial ≡ tid = eqb-true _ _ y ∙ eqb-true _ _ there in
        rw (o, s) (ap (λ (b : Bool). b && nat_eq tid tid) (eq-self oid) ∙ eq-self tid)
    split true false x y e = absurd cc
    split false b x y e = absurd cc

pub members : (oid tid : ℕ) (last : Placed) (rs : List Placed) → (is_member nat_eq (oids_at tid last rs) oid || at oid tid last) ≡ (list_any (of_tid tid) (placed_of oid rs) || at oid tid last)
members oid tid last [] = refl
members oid tid last (r ∷ rs) = by_cases (nat_eq oid r.oid) (r.place.serial == tid) (is_again last r) refl refl refl (members oid tid (after r) rs)
  where
    os : List ℕ
    os = oids_at tid (after r) rs

    or_true : (b : Bool) → (b || true) ≡ true
    or_true true = refl
    or_true false = refl

    by_cases : (a b g : Bool) → nat_eq oid r.oid ≡ a → (r.place.serial == tid) ≡ b → is_again last r ≡ g → (is_member nat_eq os oid || (a && b)) ≡ (list_any (of_tid tid) (placed_of oid rs) || (a && b))
        → (is_member nat_eq (cond (b && not g) (r.oid ∷ os) os) oid || at oid tid last) ≡ (list_any (of_tid tid) (map (λ (p : Placed). p.place) (cond a (r ∷ filter (is_placed oid) rs) (filter (is_placed oid) rs))) || at oid tid last)
    by_cases true true true x y z rest = rw (again_at oid tid last r x y z, y) (or_true (is_member nat_eq os oid))
    by_cases true true false x y z rest = rw (x, y) refl
    by_cases true false g x y z rest = rw y (ap (λ (b : Bool). b || at oid tid last) (sym (or_false _) ∙ rest ∙ or_false _))
    by_cases false true true x y z rest = ap (λ (b : Bool). b || at oid tid last) (sym (or_false _) ∙ rest ∙ or_false _)
    by_cases false true false x y z rest = rw x (ap (λ (b : Bool). b || at oid tid last) (sym (or_false _) ∙ rest ∙ or_false _))
    by_cases false false g x y z rest = ap (λ (b : Bool). b || at oid tid last) (sym (or_false _) ∙ rest ∙ or_false _)

-- ---- each stands once

-- an object that comes behind a record among those of a transaction
abbrev pub Behind : Placed → ℕ → ℕ → Type 0
Behind last tid o = (last.oid < o) ⊎ ((last.oid ≡ o) × (last.place.serial < tid))

pub record Rise (last : Placed) (tid : ℕ) (os : List ℕ) : Type 0 where
  pub distinct : IsDistinct nat_eq os
  pub behind : AllByRecursion (Behind last tid) os

all_more : {P Q : ℕ → Type 0} → ((o : ℕ) → P o → Q o) → (os : List ℕ) → AllByRecursion P os → AllByRecursion Q os
all_more more [] all = tt
all_more more (o ∷ os) all = (more o all.0, all_more more os all.1)

-- the order of two records, as facts
order : (newest end : ℕ) (last r : Placed) → is_record newest end last r ≡ true → (last.oid < r.oid) ⊎ ((last.oid ≡ r.oid) × (last.place.serial ≤ r.place.serial))
order newest end last r is = split (nat_lt last.oid r.oid) (last.oid == r.oid) (nat_le last.place.serial r.place.serial) (nat_le last.place.at r.place.at) refl refl refl is
  where
    split : (a b c d : Bool) → nat_lt last.oid r.oid ≡ a → (last.oid == r.oid) ≡ b → nat_le last.place.serial r.place.serial ≡ c → ((a || (b && (c && d))) && (nat_le r.place.serial newest && nat_lt r.place.at end)) ≡ true
        → (last.oid < r.oid) ⊎ ((last.oid ≡ r.oid) × (last.place.serial ≤ r.place.serial))
    split true b c d x y z e = inl (ltb-true _ _ x)
    split false true true d x y z e = inr (eqb-true _ _ y, leb-true _ _ z)
    split false true false d x y z e = absurd cc
    split false false c d x y z e = absurd cc

further : (tid : ℕ) (last r : Placed) → (last.oid < r.oid) ⊎ ((last.oid ≡ r.oid) × (last.place.serial ≤ r.place.serial)) → (o : ℕ) → Behind (after r) tid o → Behind last tid o
further tid last r (inl less) o (inl more) = inl (omega (arith, less, more))
further tid last r (inl less) o (inr same) = inl (omega (arith, less, same.0))
further tid last r (inr also) o (inl more) = inl (omega (arith, also.0, more))
further tid last r (inr also) o (inr same) = inr (also.0 ∙ same.0, omega (arith, also.1, same.1))

both_true : (a b : Bool) → (a && b) ≡ true → (a ≡ true) × (b ≡ true)
both_true true true e = (refl, refl)
both_true true false e = absurd cc
both_true false b e = absurd cc

pub oids_rise : (newest end tid : ℕ) (last : Placed) (rs : List Placed) → are_records newest end last rs ≡ true → Rise last tid (oids_at tid last rs)
unfolding IsDistinct
oids_rise newest end tid last [] is = record { distinct = tt; behind = tt }
oids_rise newest end tid last (r ∷ rs) is =
    let parts = both_true (is_record newest end last r) (are_records newest end (after r) rs) is in
    by_cases (r.place.serial == tid) (is_again last r) refl refl (order newest end last r parts.0) (oids_rise newest end tid (after r) rs parts.1)
  where
    os : List ℕ
    os = oids_at tid (after r) rs

    apart : r.place.serial ≡ tid → (o : ℕ) → Behind (after r) tid o → nat_eq r.oid o ≡ false
    apart there o (inl more) = ne_eqb r.oid o (λ e. absurd (omega (arith, e, more)))
    apart there o (inr same) = absurd (omega (arith, there, same.1))

    head : r.place.serial ≡ tid → (last.oid < r.oid) ⊎ ((last.oid ≡ r.oid) × (last.place.serial ≤ r.place.serial)) → is_again last r ≡ false → Behind last tid r.oid
    head there (inl less) new = inl less
    head there (inr also) new = inr (
      also.0,
      elim (cases_lt last.place.serial r.place.serial) [
        | inl earlier ↦ omega (arith, earlier, there)
        | inr later ↦ absurd (cc (new, ap (λ (b : Bool). b && (last.place.serial == r.place.serial)) (eq-eqb last.oid r.oid also.0), eq-eqb last.place.serial r.place.serial (let e : last.place.serial ≡ r.place.serial = omega (arith, also.1, later) in e)))
      ],
    )

    by_cases : (b g : Bool) → (r.place.serial == tid) ≡ b → is_again last r ≡ g → (last.oid < r.oid) ⊎ ((last.oid ≡ r.oid) × (last.place.serial ≤ r.place.serial)) → Rise (after r) tid os
        → Rise last tid (cond (b && not g) (r.oid ∷ os) os)
    by_cases true false x y z rest =
        let there = eqb-true _ _ x in
        record { distinct = (all_more (apart there) os rest.behind, rest.distinct); behind = (head there z y, all_more (further tid last r z) os rest.behind) }
    by_cases true true x y z rest = record { distinct = rest.distinct; behind = all_more (further tid last r z) os rest.behind }
    by_cases false g x y z rest = record { distinct = rest.distinct; behind = all_more (further tid last r z) os rest.behind }
