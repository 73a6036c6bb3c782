-- What a map of places is, once what is kept of one object has changed.
use Rattle.std.proofs.Common.{◌≡◌, ℕ, ◌<◌, ◌≤◌, Bool, true, false, cond, eqb, List, [], ◌∷◌, ◌++◌, Option, Some, IfSome, Result, Ok, Err, OnOk, OnErr, refl, sym, ap, subst, ◌∙◌, eq-eqb, arith}
use Rattle.std.specs.Prelude.{nat_eq, is_ok, IsOk}
use Rattle.std.specs.Option.{option_map_or}
use Rattle.std.specs.Map.{lookup}
use Rattle.std.proofs.lemmas.Bool.{eqb-true, ne_eqb, eqb-false}
use Rattle.fs_index.specs.declared.place.Place.{Place}
use Rattle.fs_index.specs.Places.{PlacesKept, places_in, Added, HasRoomIn}

-- each look-up answers as before, but for the one key, of which this is kept
abbrev pub Changes : List (ℕ × PlacesKept) → List (ℕ × PlacesKept) → ℕ → PlacesKept → Type 0
Changes old new oid k = (q : ℕ) → lookup (nat_eq q) new ≡ cond (nat_eq oid q) (Some k) (lookup (nat_eq q) old)

abbrev places_kept : Option PlacesKept → List Place
places_kept o = option_map_or (λ (k : PlacesKept). k.places) o []

changed : (old new : List (ℕ × PlacesKept)) (oid : ℕ) (k : PlacesKept) (o : ℕ) (b : Bool) → Changes old new oid k → eqb oid o ≡ b → lookup (nat_eq o) new ≡ cond b (Some k) (lookup (nat_eq o) old)
changed old new oid k o b h e = h o ∙ ap (λ b. cond b (Some k) (lookup (nat_eq o) old)) e

-- the one key has one place more
pub added_by : (old new : List (ℕ × PlacesKept)) (oid : ℕ) (place : Place) (ps : List Place) (longer : PlacesKept) → places_in old oid ≡ ps → longer.places ≡ ps ++ place ∷ [] → Changes old new oid longer → Added old oid place new
added_by old new oid place ps longer ps_is longer_is h o = by_cases (eqb o oid) refl
  where
    by_cases : (b : Bool) → eqb o oid ≡ b → places_in new o ≡ cond b (places_in old o ++ place ∷ []) (places_in old o)
    by_cases true e =
        let same : o ≡ oid = eqb-true _ _ e in
        let here : places_in old o ≡ ps = ap (places_in old) same ∙ ps_is in
        ap places_kept (changed old new oid longer o true h (eq-eqb oid o (sym same))) ∙ longer_is ∙ ap (λ (x : List Place). x ++ place ∷ []) (sym here)
    by_cases false e = ap places_kept (changed old new oid longer o false h (ne_eqb oid o (λ same. eqb-false _ _ e (sym same))))

-- the places of the one key stay
pub same_by : (old new : List (ℕ × PlacesKept)) (oid : ℕ) (was now : PlacesKept) → lookup (nat_eq oid) old ≡ Some was → now.places ≡ was.places → Changes old new oid now → (o : ℕ) → places_in new o ≡ places_in old o
same_by old new oid was now was_is same_places h o = by_cases (eqb o oid) refl
  where
    by_cases : (b : Bool) → eqb o oid ≡ b → places_in new o ≡ places_in old o
    by_cases true e =
        let same : o ≡ oid = eqb-true _ _ e in
        ap places_kept (changed old new oid now o true h (eq-eqb oid o (sym same))) ∙ same_places ∙ sym (ap places_kept (ap (λ (k : ℕ). lookup (nat_eq k) old) same ∙ was_is))
    by_cases false e = ap places_kept (changed old new oid now o false h (ne_eqb oid o (λ same. eqb-false _ _ e (sym same))))

-- ---- room

abbrev Some_room : Option PlacesKept → Type 0
Some_room o = IfSome o (λ (k : PlacesKept). 0 < k.room)

-- the one key has room
pub room_by : (old new : List (ℕ × PlacesKept)) (oid : ℕ) (now : PlacesKept) → Changes old new oid now → 0 < now.room → HasRoomIn new oid
room_by old new oid now h room = subst (λ (o : Option PlacesKept). Some_room o) (sym (changed old new oid now oid true h (eq-eqb oid oid refl))) room

-- another one has it as before
pub room_still : (old new : List (ℕ × PlacesKept)) (oid : ℕ) (now : PlacesKept) (o : ℕ) → Changes old new oid now → eqb o oid ≡ false → HasRoomIn old o → HasRoomIn new o
room_still old new oid now o h e room = subst (λ (x : Option PlacesKept). Some_room x) (sym (changed old new oid now o false h (ne_eqb oid o (λ same. eqb-false _ _ e (sym same))))) room

-- all have it, where the one key's isn't less
pub room_kept : (old new : List (ℕ × PlacesKept)) (oid : ℕ) (was now : PlacesKept) → lookup (nat_eq oid) old ≡ Some was → was.room ≤ now.room → Changes old new oid now → (o : ℕ) → HasRoomIn old o → HasRoomIn new o
room_kept old new oid was now was_is more h o room = by_cases (eqb o oid) refl
  where
    by_cases : (b : Bool) → eqb o oid ≡ b → HasRoomIn new o
    by_cases true e =
        let same : o ≡ oid = eqb-true _ _ e in
        let there : 0 < was.room = subst (λ (x : Option PlacesKept). Some_room x) (ap (λ (k : ℕ). lookup (nat_eq k) old) same ∙ was_is) room in
        subst (λ (k : ℕ). HasRoomIn new k) (sym same) (room_by old new oid now h (omega arith))
    by_cases false e = room_still old new oid now o h e room

-- the one that was there has room
pub room_there : (old : List (ℕ × PlacesKept)) (oid : ℕ) (was : PlacesKept) → lookup (nat_eq oid) old ≡ Some was → HasRoomIn old oid → 0 < was.room
room_there old oid was is room = subst (λ (x : Option PlacesKept). Some_room x) is room

-- ---- answers

pub then_ok : {T E A B : Type 0} (r : Result T E) → OnOk r A → (A → B) → OnOk r B
then_ok (Ok x) holds f = f holds
then_ok (Err e) holds f = tt

pub then_err : {T E A B : Type 0} (r : Result T E) → OnErr r A → (A → B) → OnErr r B
then_err (Ok x) holds f = tt
then_err (Err e) holds f = f holds

pub of_ok : {T E A : Type 0} (r : Result T E) → IsOk r → OnOk r A → A
of_ok (Ok x) is holds = holds
of_ok (Err e) is holds = absurd cc

pub pushed : {T E A : Type 0} (r : Result T E) (old new : List A) (p : A) → IsOk r → new ≡ cond (is_ok r) (old ++ p ∷ []) old → new ≡ old ++ p ∷ []
pushed (Ok x) old new p is items = items
pushed (Err e) old new p is items = absurd cc
