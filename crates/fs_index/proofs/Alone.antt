-- The places of objects that have one alone, in a list by number, and those of the others behind it.
use Rattle.std.proofs.Common.{◌≡◌, ℕ, ◌<◌, ◌≤◌, zero, suc, Bool, true, false, cond, eqb, List, [], ◌∷◌, ◌++◌, Option, Some, None, Result, Ok, Err, OnOk, OnErr, length, take, drop, refl, sym, ap, subst, ◌∙◌, eq-eqb, arith}
use Rattle.std.specs.Prelude.{nat_eq, slice_get, slice_set}
use Rattle.std.specs.Map.{lookup}
use Rattle.std.proofs.lemmas.Bool.{eqb-true}
use Rattle.fs_index.specs.declared.place.Place.{Place}
use Rattle.fs_index.specs.Places.{PlacesKept, Added, HasRoomIn}
use Rattle.fs_index.specs.Slots.{slots_from, if_any, if_held, nowhere, alone_of, alone_kept}
use Rattle.fs_index.proofs.Adding.{room_there}
use Rattle.fs_index.proofs.Slots.{or_else, found, looked_up, get_set, pushed_none, first_added, first_any, others_keep, next_added, next_keeps}

-- ---- the list

alone_length : (ps : List Place) → length (alone_kept ps) ≡ length ps
alone_length [] = refl
alone_length (p ∷ ps) = ap (λ (n : ℕ). suc n) (alone_length ps)

alone_set : (ps : List Place) (i : ℕ) (p : Place) → alone_kept (slice_set ps i p) ≡ slice_set (alone_kept ps) i (alone_of p)
alone_set [] i p = refl
alone_set (x ∷ xs) zero p = refl
alone_set (x ∷ xs) (suc i) p = ap (λ (l : List PlacesKept). alone_of x ∷ l) (alone_set xs i p)

alone_append : (ps : List Place) (p : Place) → alone_kept (ps ++ p ∷ []) ≡ alone_kept ps ++ alone_of p ∷ []
alone_append [] p = refl
alone_append (x ∷ xs) p = ap (λ (l : List PlacesKept). alone_of x ∷ l) (alone_append xs p)

there_one : (p : Place) → eqb p.at nowhere ≡ false → (alone_of p).places ≡ p ∷ []
there_one p there = ap (λ (b : Bool). cond b [] (p ∷ [])) there

gone_none : (p : Place) → p.at ≡ nowhere → (alone_of p).places ≡ []
gone_none p gone = ap (λ (b : Bool). cond b [] (p ∷ [])) (eq-eqb p.at nowhere gone)

abbrev one_kept : List Place → PlacesKept
one_kept ps = record { places = ps; room = 0 }

-- ---- what is looked up

pub one_there : (ps : List Place) (oid : ℕ) (k : PlacesKept) → if_held (slice_get (alone_kept ps) oid) ≡ Some k → if_held (slice_get (alone_kept ps) oid) ≡ Some (record { places = take 1 (drop oid ps); room = 0 })
one_there [] oid k is = absurd cc
one_there (p ∷ ps) zero k is = by_cases (eqb p.at nowhere) is
  where
    by_cases : (b : Bool) → if_any (record { places = cond b [] (p ∷ []); room = 0 }) (cond b [] (p ∷ [])) ≡ Some k → if_any (record { places = cond b [] (p ∷ []); room = 0 }) (cond b [] (p ∷ [])) ≡ Some (record { places = p ∷ []; room = 0 })
    by_cases true e = absurd cc
    by_cases false e = refl
one_there (p ∷ ps) (suc oid) k is = one_there ps oid k is

-- ---- an object that gets its first place

pub alone_pushed : (b : Bool) (old new : List Place) (p : Place) → p.at ≡ nowhere → new ≡ cond b (old ++ p ∷ []) old → slots_from 0 (alone_kept new) ≡ slots_from 0 (alone_kept old)
alone_pushed b old new p gone is = pushed_none b (alone_kept old) (alone_kept new) (alone_of p) (gone_none p gone) (by_cases b is)
  where
    by_cases : (b : Bool) → new ≡ cond b (old ++ p ∷ []) old → alone_kept new ≡ cond b (alone_kept old ++ alone_of p ∷ []) (alone_kept old)
    by_cases true e = ap alone_kept e ∙ alone_append old p
    by_cases false e = ap alone_kept e

pub alone_added : (ps : List Place) (i oid : ℕ) (place : Place) (rest : List (ℕ × PlacesKept)) → i ≡ oid → oid < length ps → if_held (slice_get (alone_kept ps) oid) ≡ None → lookup (nat_eq oid) rest ≡ None → eqb place.at nowhere ≡ false
    → Added (slots_from 0 (alone_kept ps) ++ rest) oid place (slots_from 0 (alone_kept (slice_set ps i place)) ++ rest)
alone_added ps i oid place rest same within absent none there =
    let long = alone_length ps in
    subst (λ (l : List PlacesKept). Added (slots_from 0 (alone_kept ps) ++ rest) oid place (slots_from 0 l ++ rest)) (sym (alone_set ps i place))
    (first_added (alone_kept ps) i oid (alone_of place) place rest same (omega (arith, long, within)) absent none (there_one place there))

pub alone_keeps : (ps : List Place) (i oid : ℕ) (place : Place) (rest : List (ℕ × PlacesKept)) (o : ℕ) → i ≡ oid → oid < length ps → eqb place.at nowhere ≡ false → eqb o oid ≡ false
    → HasRoomIn (slots_from 0 (alone_kept ps) ++ rest) o → HasRoomIn (slots_from 0 (alone_kept (slice_set ps i place)) ++ rest) o
alone_keeps ps i oid place rest o same within there other room =
    let long = alone_length ps in
    subst (λ (l : List PlacesKept). HasRoomIn (slots_from 0 l ++ rest) o) (sym (alone_set ps i place))
    (others_keep (alone_kept ps) i oid (alone_of place) rest o same (omega (arith, long, within)) (first_any (alone_of place) place (there_one place there)) other room)

pub alone_next_added : (ps new : List Place) (oid : ℕ) (place : Place) (rest : List (ℕ × PlacesKept)) → oid ≡ length ps → new ≡ ps ++ place ∷ [] → lookup (nat_eq oid) rest ≡ None → eqb place.at nowhere ≡ false
    → Added (slots_from 0 (alone_kept ps) ++ rest) oid place (slots_from 0 (alone_kept new) ++ rest)
alone_next_added ps new oid place rest next new_is none there =
    next_added (alone_kept ps) (alone_kept new) oid (alone_of place) place rest (next ∙ sym (alone_length ps)) (ap alone_kept new_is ∙ alone_append ps place) none (there_one place there)

pub alone_next_keeps : (ps new : List Place) (oid : ℕ) (place : Place) (rest : List (ℕ × PlacesKept)) (o : ℕ) → oid ≡ length ps → new ≡ ps ++ place ∷ [] → eqb place.at nowhere ≡ false → eqb o oid ≡ false
    → HasRoomIn (slots_from 0 (alone_kept ps) ++ rest) o → HasRoomIn (slots_from 0 (alone_kept new) ++ rest) o
alone_next_keeps ps new oid place rest o next new_is there other room =
    next_keeps (alone_kept ps) (alone_kept new) oid (alone_of place) place rest o (next ∙ sym (alone_length ps)) (ap alone_kept new_is ∙ alone_append ps place) (there_one place there) other room

-- ---- an object that gets another one

pub forgot : (ps : List Place) (i oid : ℕ) (p : Place) (rest : List (ℕ × PlacesKept)) (o : ℕ) → i ≡ oid → oid < length ps → p.at ≡ nowhere
    → lookup (nat_eq o) (slots_from 0 (alone_kept (slice_set ps i p)) ++ rest) ≡ cond (eqb oid o) (lookup (nat_eq o) rest) (lookup (nat_eq o) (slots_from 0 (alone_kept ps) ++ rest))
forgot ps i oid p rest o same within gone =
    let long = alone_length ps in
    ap (λ (l : List PlacesKept). lookup (nat_eq o) (slots_from 0 l ++ rest)) (alone_set ps i p ∙ ap (λ (j : ℕ). slice_set (alone_kept ps) j (alone_of p)) same)
    ∙ found (slice_set (alone_kept ps) oid (alone_of p)) rest o
    ∙ ap (λ (x : Option PlacesKept). or_else (if_held x) (lookup (nat_eq o) rest)) (get_set (alone_kept ps) oid o (alone_of p) (omega (arith, long, within)))
    ∙ by_cases (eqb oid o) ∙ ap (λ (x : Option PlacesKept). cond (eqb oid o) (lookup (nat_eq o) rest) x) (sym (found (alone_kept ps) rest o))
  where
    by_cases : (b : Bool) → or_else (if_held (cond b (Some (alone_of p)) (slice_get (alone_kept ps) o))) (lookup (nat_eq o) rest) ≡ cond b (lookup (nat_eq o) rest) (or_else (if_held (slice_get (alone_kept ps) o)) (lookup (nat_eq o) rest))
    by_cases true = ap (λ (l : List Place). or_else (if_any (alone_of p) l) (lookup (nat_eq o) rest)) (gone_none p gone)
    by_cases false = refl

pub replaced : (ks : List PlacesKept) (es new : List (ℕ × PlacesKept)) (oid o : ℕ) (k : PlacesKept) (x : Option PlacesKept) → lookup (nat_eq o) new ≡ cond (eqb oid o) (Some k) (lookup (nat_eq o) es)
    → x ≡ cond (eqb oid o) (lookup (nat_eq o) new) (lookup (nat_eq o) (slots_from 0 ks ++ new)) → x ≡ cond (eqb oid o) (Some k) (lookup (nat_eq o) (slots_from 0 ks ++ es))
replaced ks es new oid o k x set is = by_cases (eqb oid o) set is
  where
    by_cases : (b : Bool) → lookup (nat_eq o) new ≡ cond b (Some k) (lookup (nat_eq o) es) → x ≡ cond b (lookup (nat_eq o) new) (lookup (nat_eq o) (slots_from 0 ks ++ new)) → x ≡ cond b (Some k) (lookup (nat_eq o) (slots_from 0 ks ++ es))
    by_cases true h e = e ∙ h
    by_cases false h e = e ∙ found ks new o ∙ ap (or_else (if_held (slice_get ks o))) h ∙ sym (found ks es o)

get_past : (ks : List PlacesKept) (o : ℕ) → length ks ≤ o → slice_get ks o ≡ None
get_past [] o past = refl
get_past (k ∷ ks) zero past = absurd (omega (arith, past))
get_past (k ∷ ks) (suc o) past = get_past ks o (omega (arith, past))

pub other_set : (ks : List PlacesKept) (es new : List (ℕ × PlacesKept)) (oid : ℕ) (k : PlacesKept) → length ks ≤ oid → ((o : ℕ) → lookup (nat_eq o) new ≡ cond (eqb oid o) (Some k) (lookup (nat_eq o) es))
    → (o : ℕ) → lookup (nat_eq o) (slots_from 0 ks ++ new) ≡ cond (eqb oid o) (Some k) (lookup (nat_eq o) (slots_from 0 ks ++ es))
other_set ks es new oid k past set o =
    found ks new o ∙ ap (or_else (if_held (slice_get ks o))) (set o) ∙ by_cases (eqb oid o) refl ∙ ap (λ (x : Option PlacesKept). cond (eqb oid o) (Some k) x) (sym (found ks es o))
  where
    by_cases : (b : Bool) → eqb oid o ≡ b → or_else (if_held (slice_get ks o)) (cond b (Some k) (lookup (nat_eq o) es)) ≡ cond b (Some k) (or_else (if_held (slice_get ks o)) (lookup (nat_eq o) es))
    by_cases true e =
        let same : oid ≡ o = eqb-true oid o e in
        ap (λ (y : Option PlacesKept). or_else (if_held y) (Some k)) (get_past ks o (omega (arith, past, same)))
    by_cases false e = refl

-- there is no room beside a place that an object has alone
pub no_room : (ks : List PlacesKept) (es : List (ℕ × PlacesKept)) (oid : ℕ) (ps : List Place) → if_held (slice_get ks oid) ≡ Some (one_kept ps) → HasRoomIn (slots_from 0 ks ++ es) oid → ⊥
no_room ks es oid ps held room =
    let more : 0 < 0 = room_there (slots_from 0 ks ++ es) oid (one_kept ps) (looked_up ks es oid (Some (one_kept ps)) held) room in
    omega (arith, more)

-- ---- answers

pub either : {T E A B C : Type 0} (r : Result T E) → OnOk r A → OnErr r B → (A → C) → (B → C) → C
either (Ok x) ok err f g = f ok
either (Err e) ok err f g = g err
