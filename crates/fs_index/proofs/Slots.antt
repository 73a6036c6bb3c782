-- The places of objects in a list by number, and in a table behind it.
use Rattle.std.proofs.Common.{◌≡◌, ℕ, ◌+◌, ◌<◌, ◌≤◌, zero, suc, Bool, true, false, cond, eqb, List, [], ◌∷◌, ◌++◌, Option, Some, None, IfSome, Result, Ok, Err, OnOk, OnErr, length, get_or, refl, sym, ap, subst, ◌∙◌, eq-eqb, append_assoc, arith}
use Rattle.std.specs.Prelude.{nat_eq, slice_get, slice_set, IsSome}
use Rattle.std.specs.Option.{option_map_or}
use Rattle.std.specs.Map.{lookup}
use Rattle.std.proofs.lemmas.Bool.{ne_eqb, eqb-true, eqb-false}
use Rattle.std.proofs.lemmas.Option.{slice_get_within, get_or_from_slice_get}
use Rattle.fs_index.specs.declared.place.Place.{Place}
use Rattle.fs_index.specs.Places.{PlacesKept, places_in, Added, HasRoomIn}
use Rattle.fs_index.specs.Slots.{entry_of, slots_from, if_any, if_held}
use Rattle.fs_index.proofs.Adding.{Changes, added_by, same_by, room_by, room_still, room_kept, room_there}

-- ---- what is looked up

abbrev pub or_else : Option PlacesKept → Option PlacesKept → Option PlacesKept
or_else None y = y
or_else (Some k) y = Some k

same_number : (q oid : ℕ) (k : PlacesKept) (ps : List Place) (rest : List (ℕ × PlacesKept)) → eqb q oid ≡ true → lookup (nat_eq q) (entry_of oid k ps ++ rest) ≡ or_else (if_any k ps) (lookup (nat_eq q) rest)
same_number q oid k [] rest e = refl
same_number q oid k (p ∷ ps) rest e = ap (λ (b : Bool). cond b (Some k) (lookup (nat_eq q) rest)) e

other_number : (q oid : ℕ) (k : PlacesKept) (ps : List Place) (rest : List (ℕ × PlacesKept)) → eqb q oid ≡ false → lookup (nat_eq q) (entry_of oid k ps ++ rest) ≡ lookup (nat_eq q) rest
other_number q oid k [] rest e = refl
other_number q oid k (p ∷ ps) rest e = ap (λ (b : Bool). cond b (Some k) (lookup (nat_eq q) rest)) e

split : (q oid : ℕ) (k : PlacesKept) (ks : List PlacesKept) (rest : List (ℕ × PlacesKept)) → lookup (nat_eq q) (slots_from oid (k ∷ ks) ++ rest) ≡ lookup (nat_eq q) (entry_of oid k k.places ++ (slots_from (oid + 1) ks ++ rest))
split q oid k ks rest = ap (λ (es : List (ℕ × PlacesKept)). lookup (nat_eq q) es) (append_assoc (entry_of oid k k.places) (slots_from (oid + 1) ks) rest)

below : (q oid : ℕ) (ks : List PlacesKept) (rest : List (ℕ × PlacesKept)) → q < oid → lookup (nat_eq q) (slots_from oid ks ++ rest) ≡ lookup (nat_eq q) rest
below q oid [] rest less = refl
below q oid (k ∷ ks) rest less =
    split q oid k ks rest ∙ other_number q oid k k.places (slots_from (oid + 1) ks ++ rest) (ne_eqb q oid (λ e. absurd (omega (arith, e, less)))) ∙ below q (oid + 1) ks rest (omega (arith, less))

from : (q oid d : ℕ) (ks : List PlacesKept) (rest : List (ℕ × PlacesKept)) → q ≡ oid + d → lookup (nat_eq q) (slots_from oid ks ++ rest) ≡ or_else (if_held (slice_get ks d)) (lookup (nat_eq q) rest)
from q oid d [] rest is = refl
from q oid zero (k ∷ ks) rest is =
    split q oid k ks rest ∙ same_number q oid k k.places (slots_from (oid + 1) ks ++ rest) (eq-eqb q oid (omega (arith, is)))
    ∙ ap (or_else (if_any k k.places)) (below q (oid + 1) ks rest (omega (arith, is)))
from q oid (suc d) (k ∷ ks) rest is =
    split q oid k ks rest ∙ other_number q oid k k.places (slots_from (oid + 1) ks ++ rest) (ne_eqb q oid (λ e. absurd (omega (arith, is, e))))
    ∙ from q (oid + 1) d ks rest (omega (arith, is))

-- an object is looked up in the list, and where it has no places there, in the table
pub found : (ks : List PlacesKept) (rest : List (ℕ × PlacesKept)) (q : ℕ) → lookup (nat_eq q) (slots_from 0 ks ++ rest) ≡ or_else (if_held (slice_get ks q)) (lookup (nat_eq q) rest)
found ks rest q = from q 0 q ks rest (omega arith)

-- ---- a slot is written

get_same : (ks : List PlacesKept) (i : ℕ) (k : PlacesKept) → i < length ks → slice_get (slice_set ks i k) i ≡ Some k
get_same [] i k within = absurd (omega (arith, within))
get_same (x ∷ xs) zero k within = refl
get_same (x ∷ xs) (suc i) k within = get_same xs i k (omega (arith, within))

get_other : (ks : List PlacesKept) (i j : ℕ) (k : PlacesKept) → (i ≡ j → ⊥) → slice_get (slice_set ks i k) j ≡ slice_get ks j
get_other [] i j k apart = refl
get_other (x ∷ xs) zero zero k apart = absurd (apart refl)
get_other (x ∷ xs) zero (suc j) k apart = refl
get_other (x ∷ xs) (suc i) zero k apart = refl
get_other (x ∷ xs) (suc i) (suc j) k apart = get_other xs i j k (λ e. apart (omega (arith, e)))

pub get_set : (ks : List PlacesKept) (i j : ℕ) (k : PlacesKept) → i < length ks → slice_get (slice_set ks i k) j ≡ cond (eqb i j) (Some k) (slice_get ks j)
get_set ks i j k within = by_cases (eqb i j) refl
  where
    by_cases : (b : Bool) → eqb i j ≡ b → slice_get (slice_set ks i k) j ≡ cond b (Some k) (slice_get ks j)
    by_cases true e = ap (λ (q : ℕ). slice_get (slice_set ks i k) q) (sym (eqb-true i j e)) ∙ get_same ks i k within
    by_cases false e = get_other ks i j k (eqb-false i j e)

pub slot_changes : (ks : List PlacesKept) (rest : List (ℕ × PlacesKept)) (oid : ℕ) (k : PlacesKept) → oid < length ks → if_any k k.places ≡ Some k → Changes (slots_from 0 ks ++ rest) (slots_from 0 (slice_set ks oid k) ++ rest) oid k
slot_changes ks rest oid k within any q =
    found (slice_set ks oid k) rest q ∙ ap (λ (o : Option PlacesKept). or_else (if_held o) (lookup (nat_eq q) rest)) (get_set ks oid q k within)
    ∙ by_cases (eqb oid q) ∙ ap (λ (o : Option PlacesKept). cond (eqb oid q) (Some k) o) (sym (found ks rest q))
  where
    by_cases : (b : Bool) → or_else (if_held (cond b (Some k) (slice_get ks q))) (lookup (nat_eq q) rest) ≡ cond b (Some k) (or_else (if_held (slice_get ks q)) (lookup (nat_eq q) rest))
    by_cases true = ap (λ (o : Option PlacesKept). or_else o (lookup (nat_eq q) rest)) any
    by_cases false = refl

-- ---- an object that has places in the list

abbrev places_kept : Option PlacesKept → List Place
places_kept o = option_map_or (λ (k : PlacesKept). k.places) o []

any_is : (k : PlacesKept) (ps : List Place) → IsSome (if_any k ps) → if_any k ps ≡ Some k
any_is k [] some = absurd cc
any_is k (p ∷ ps) some = refl

-- the slot of this object is this one, and has places
pub record HeldIn (ks : List PlacesKept) (oid : ℕ) (was : PlacesKept) : Type 0 where
  pub within : oid < length ks
  pub any : if_any was was.places ≡ Some was
  pub is : if_held (slice_get ks oid) ≡ Some was

pub held_in : (ks : List PlacesKept) (i oid : ℕ) (was : PlacesKept) → i ≡ oid → IsSome (if_held (slice_get ks oid)) → was ≡ get_or ks i was → HeldIn ks oid was
held_in ks i oid was same some read = by_cases (slice_get ks oid) refl some
  where
    with_slot : (k : PlacesKept) → slice_get ks oid ≡ Some k → if_any k k.places ≡ Some k → k ≡ was → HeldIn ks oid was
    with_slot k e any is = record {
      within = slice_get_within ks oid k e;
      any = subst (λ (x : PlacesKept). if_any x x.places ≡ Some x) is any;
      is = ap if_held e ∙ any ∙ ap (λ (x : PlacesKept). Some x) is;
    }

    by_cases : (o : Option PlacesKept) → slice_get ks oid ≡ o → IsSome (if_held o) → HeldIn ks oid was
    by_cases None e h = absurd cc
    by_cases (Some k) e h =
        with_slot k e (any_is k k.places h) (sym (read ∙ ap (λ (j : ℕ). get_or ks j was) same ∙ get_or_from_slice_get ks oid k was e))

still_any : (was now : PlacesKept) (ps : List Place) → if_any was ps ≡ Some was → now.places ≡ ps → if_any now now.places ≡ Some now
still_any was now [] any same = absurd cc
still_any was now (p ∷ ps) any same = ap (if_any now) same

longer_any : (now : PlacesKept) (ps : List Place) (place : Place) → now.places ≡ ps ++ place ∷ [] → if_any now now.places ≡ Some now
longer_any now [] place longer = ap (if_any now) longer
longer_any now (p ∷ ps) place longer = ap (if_any now) longer

found_held : (ks : List PlacesKept) (rest : List (ℕ × PlacesKept)) (oid : ℕ) (was : PlacesKept) → HeldIn ks oid was → lookup (nat_eq oid) (slots_from 0 ks ++ rest) ≡ Some was
found_held ks rest oid was held = found ks rest oid ∙ ap (λ (o : Option PlacesKept). or_else o (lookup (nat_eq oid) rest)) held.is

pub held_added : (ks : List PlacesKept) (i oid : ℕ) (was now : PlacesKept) (place : Place) (rest : List (ℕ × PlacesKept)) → i ≡ oid → HeldIn ks oid was → now.places ≡ was.places ++ place ∷ []
    → Added (slots_from 0 ks ++ rest) oid place (slots_from 0 (slice_set ks i now) ++ rest)
held_added ks i oid was now place rest same held longer =
    subst (λ (j : ℕ). Added (slots_from 0 ks ++ rest) oid place (slots_from 0 (slice_set ks j now) ++ rest)) (sym same)
    (added_by (slots_from 0 ks ++ rest) (slots_from 0 (slice_set ks oid now) ++ rest) oid place was.places now (ap places_kept (found_held ks rest oid was held)) longer
    (slot_changes ks rest oid now held.within (longer_any now was.places place longer)))

pub held_same : (ks : List PlacesKept) (i oid : ℕ) (was now : PlacesKept) (rest : List (ℕ × PlacesKept)) → i ≡ oid → HeldIn ks oid was → now.places ≡ was.places
    → (o : ℕ) → places_in (slots_from 0 (slice_set ks i now) ++ rest) o ≡ places_in (slots_from 0 ks ++ rest) o
held_same ks i oid was now rest same held places o =
    subst (λ (j : ℕ). places_in (slots_from 0 (slice_set ks j now) ++ rest) o ≡ places_in (slots_from 0 ks ++ rest) o) (sym same)
    (same_by (slots_from 0 ks ++ rest) (slots_from 0 (slice_set ks oid now) ++ rest) oid was now (found_held ks rest oid was held) places
    (slot_changes ks rest oid now held.within (still_any was now was.places held.any places)) o)

pub held_room : (ks : List PlacesKept) (oid : ℕ) (was : PlacesKept) (rest : List (ℕ × PlacesKept)) → HeldIn ks oid was → HasRoomIn (slots_from 0 ks ++ rest) oid → 0 < was.room
held_room ks oid was rest held room = room_there (slots_from 0 ks ++ rest) oid was (found_held ks rest oid was held) room

-- the other objects keep their room
pub others_keep : (ks : List PlacesKept) (i oid : ℕ) (now : PlacesKept) (rest : List (ℕ × PlacesKept)) (o : ℕ) → i ≡ oid → oid < length ks → if_any now now.places ≡ Some now → eqb o oid ≡ false
    → HasRoomIn (slots_from 0 ks ++ rest) o → HasRoomIn (slots_from 0 (slice_set ks i now) ++ rest) o
others_keep ks i oid now rest o same within any other room =
    subst (λ (j : ℕ). HasRoomIn (slots_from 0 (slice_set ks j now) ++ rest) o) (sym same)
    (room_still (slots_from 0 ks ++ rest) (slots_from 0 (slice_set ks oid now) ++ rest) oid now o (slot_changes ks rest oid now within any) other room)

-- the slot has places, whether one more was put there or not
pub any_pushed : {T E : Type 0} (r : Result T E) (was now : PlacesKept) (place : Place) → if_any was was.places ≡ Some was → OnOk r (now.places ≡ was.places ++ place ∷ []) → OnErr r (now.places ≡ was.places) → if_any now now.places ≡ Some now
any_pushed (Ok x) was now place any longer same = longer_any now was.places place longer
any_pushed (Err e) was now place any longer same = still_any was now was.places any same

-- room was made in the slot
pub held_reserved : (ks : List PlacesKept) (i oid : ℕ) (was now : PlacesKept) (rest : List (ℕ × PlacesKept)) → i ≡ oid → HeldIn ks oid was → now.places ≡ was.places → 0 < now.room
    → HasRoomIn (slots_from 0 (slice_set ks i now) ++ rest) oid
held_reserved ks i oid was now rest same held places room =
    subst (λ (j : ℕ). HasRoomIn (slots_from 0 (slice_set ks j now) ++ rest) oid) (sym same)
    (room_by (slots_from 0 ks ++ rest) (slots_from 0 (slice_set ks oid now) ++ rest) oid now (slot_changes ks rest oid now held.within (still_any was now was.places held.any places)) room)

pub held_keeps : (ks : List PlacesKept) (i oid : ℕ) (was now : PlacesKept) (rest : List (ℕ × PlacesKept)) (o : ℕ) → i ≡ oid → HeldIn ks oid was → now.places ≡ was.places → was.room ≤ now.room
    → HasRoomIn (slots_from 0 ks ++ rest) o → HasRoomIn (slots_from 0 (slice_set ks i now) ++ rest) o
held_keeps ks i oid was now rest o same held places more room =
    subst (λ (j : ℕ). HasRoomIn (slots_from 0 (slice_set ks j now) ++ rest) o) (sym same)
    (room_kept (slots_from 0 ks ++ rest) (slots_from 0 (slice_set ks oid now) ++ rest) oid was now (found_held ks rest oid was held) more (slot_changes ks rest oid now held.within (still_any was now was.places held.any places)) o room)

-- ---- an object that gets its first place

pub first_added : (ks : List PlacesKept) (i oid : ℕ) (now : PlacesKept) (place : Place) (rest : List (ℕ × PlacesKept)) → i ≡ oid → oid < length ks → if_held (slice_get ks oid) ≡ None → lookup (nat_eq oid) rest ≡ None
    → now.places ≡ place ∷ [] → Added (slots_from 0 ks ++ rest) oid place (slots_from 0 (slice_set ks i now) ++ rest)
first_added ks i oid now place rest same within absent none one =
    subst (λ (j : ℕ). Added (slots_from 0 ks ++ rest) oid place (slots_from 0 (slice_set ks j now) ++ rest)) (sym same)
    (added_by (slots_from 0 ks ++ rest) (slots_from 0 (slice_set ks oid now) ++ rest) oid place [] now
    (ap places_kept (found ks rest oid ∙ ap (λ (o : Option PlacesKept). or_else o (lookup (nat_eq oid) rest)) absent ∙ none)) one
    (slot_changes ks rest oid now within (longer_any now [] place one)))

pub first_any : (now : PlacesKept) (place : Place) → now.places ≡ place ∷ [] → if_any now now.places ≡ Some now
first_any now place one = longer_any now [] place one

-- ---- slots without places

none_behind : (oid : ℕ) (ks : List PlacesKept) (k : PlacesKept) → k.places ≡ [] → slots_from oid (ks ++ k ∷ []) ≡ slots_from oid ks
none_behind oid [] k none = ap (λ (ps : List Place). entry_of oid k ps ++ []) none
none_behind oid (x ∷ xs) k none = ap (λ (es : List (ℕ × PlacesKept)). entry_of oid x x.places ++ es) (none_behind (oid + 1) xs k none)

pub pushed_none : (b : Bool) (old new : List PlacesKept) (k : PlacesKept) → k.places ≡ [] → new ≡ cond b (old ++ k ∷ []) old → slots_from 0 new ≡ slots_from 0 old
pushed_none true old new k none is = ap (slots_from 0) is ∙ none_behind 0 old k none
pushed_none false old new k none is = ap (slots_from 0) is

-- ---- the next object gets its first place

abbrev nothing : PlacesKept
nothing = record { places = []; room = 0 }

next_within : (ks : List PlacesKept) (oid : ℕ) → oid ≡ length ks → oid < length (ks ++ nothing ∷ [])
next_within [] oid next = omega (arith, next)
next_within (x ∷ xs) zero next = omega (arith, next)
next_within (x ∷ xs) (suc oid) next = let h = next_within xs oid (omega (arith, next)) in omega (arith, h)

next_absent : (ks : List PlacesKept) (oid : ℕ) → oid ≡ length ks → if_held (slice_get (ks ++ nothing ∷ []) oid) ≡ None
next_absent [] zero next = refl
next_absent [] (suc oid) next = absurd (omega (arith, next))
next_absent (x ∷ xs) zero next = absurd (omega (arith, next))
next_absent (x ∷ xs) (suc oid) next = next_absent xs oid (omega (arith, next))

next_set : (ks : List PlacesKept) (oid : ℕ) (now : PlacesKept) → oid ≡ length ks → slice_set (ks ++ nothing ∷ []) oid now ≡ ks ++ now ∷ []
next_set [] zero now next = refl
next_set [] (suc oid) now next = absurd (omega (arith, next))
next_set (x ∷ xs) zero now next = absurd (omega (arith, next))
next_set (x ∷ xs) (suc oid) now next = ap (λ (l : List PlacesKept). x ∷ l) (next_set xs oid now (omega (arith, next)))

pub next_added : (ks new : List PlacesKept) (oid : ℕ) (now : PlacesKept) (place : Place) (rest : List (ℕ × PlacesKept)) → oid ≡ length ks → new ≡ ks ++ now ∷ [] → lookup (nat_eq oid) rest ≡ None
    → now.places ≡ place ∷ [] → Added (slots_from 0 ks ++ rest) oid place (slots_from 0 new ++ rest)
next_added ks new oid now place rest next new_is none one =
    subst (λ (l : List PlacesKept). Added (slots_from 0 ks ++ rest) oid place (slots_from 0 l ++ rest)) (next_set ks oid now next ∙ sym new_is)
    (subst (λ (es : List (ℕ × PlacesKept)). Added (es ++ rest) oid place (slots_from 0 (slice_set (ks ++ nothing ∷ []) oid now) ++ rest)) (none_behind 0 ks nothing refl)
    (first_added (ks ++ nothing ∷ []) oid oid now place rest refl (next_within ks oid next) (next_absent ks oid next) none one))

pub next_keeps : (ks new : List PlacesKept) (oid : ℕ) (now : PlacesKept) (place : Place) (rest : List (ℕ × PlacesKept)) (o : ℕ) → oid ≡ length ks → new ≡ ks ++ now ∷ [] → now.places ≡ place ∷ []
    → eqb o oid ≡ false → HasRoomIn (slots_from 0 ks ++ rest) o → HasRoomIn (slots_from 0 new ++ rest) o
next_keeps ks new oid now place rest o next new_is one other room =
    subst (λ (l : List PlacesKept). HasRoomIn (slots_from 0 l ++ rest) o) (next_set ks oid now next ∙ sym new_is)
    (others_keep (ks ++ nothing ∷ []) oid oid now rest o refl (next_within ks oid next) (first_any now place one) other
    (subst (λ (es : List (ℕ × PlacesKept)). HasRoomIn (es ++ rest) o) (sym (none_behind 0 ks nothing refl)) room))

-- ---- an object that has none there is looked up in the table

pub looked_up : (ks : List PlacesKept) (es : List (ℕ × PlacesKept)) (o : ℕ) (x : Option PlacesKept) → if_held (slice_get ks o) ≡ x → lookup (nat_eq o) (slots_from 0 ks ++ es) ≡ or_else x (lookup (nat_eq o) es)
looked_up ks es o x e = found ks es o ∙ ap (λ (y : Option PlacesKept). or_else y (lookup (nat_eq o) es)) e

pub held_places : (ks : List PlacesKept) (es : List (ℕ × PlacesKept)) (o : ℕ) (k : PlacesKept) → if_held (slice_get ks o) ≡ Some k → places_in (slots_from 0 ks ++ es) o ≡ k.places
held_places ks es o k e = ap places_kept (looked_up ks es o (Some k) e)

pub other_places : (ks : List PlacesKept) (es : List (ℕ × PlacesKept)) (o : ℕ) → if_held (slice_get ks o) ≡ None → places_in (slots_from 0 ks ++ es) o ≡ places_in es o
other_places ks es o e = ap places_kept (looked_up ks es o None e)

pub other_added : (ks : List PlacesKept) (es new : List (ℕ × PlacesKept)) (oid : ℕ) (place : Place) → if_held (slice_get ks oid) ≡ None → Added es oid place new → Added (slots_from 0 ks ++ es) oid place (slots_from 0 ks ++ new)
other_added ks es new oid place absent added o = by_cases (if_held (slice_get ks o)) refl
  where
    by_cases : (x : Option PlacesKept) → if_held (slice_get ks o) ≡ x
        → places_in (slots_from 0 ks ++ new) o ≡ cond (eqb o oid) (places_in (slots_from 0 ks ++ es) o ++ place ∷ []) (places_in (slots_from 0 ks ++ es) o)
    by_cases None e = other_places ks new o e ∙ added o ∙ ap (λ (ps : List Place). cond (eqb o oid) (ps ++ place ∷ []) ps) (sym (other_places ks es o e))
    by_cases (Some k) e =
        let apart : eqb o oid ≡ false = ne_eqb o oid (λ same. absurd (clash same)) in
        held_places ks new o k e ∙ sym (held_places ks es o k e) ∙ sym (ap (λ (b : Bool). cond b (places_in (slots_from 0 ks ++ es) o ++ place ∷ []) (places_in (slots_from 0 ks ++ es) o)) apart)
      where
        clash : o ≡ oid → ⊥
        clash same =
            let h : Some k ≡ None = sym e ∙ ap (λ (q : ℕ). if_held (slice_get ks q)) same ∙ absent in
            cc

pub other_same : (ks : List PlacesKept) (es new : List (ℕ × PlacesKept)) → ((o : ℕ) → places_in new o ≡ places_in es o) → (o : ℕ) → places_in (slots_from 0 ks ++ new) o ≡ places_in (slots_from 0 ks ++ es) o
other_same ks es new same o = by_cases (if_held (slice_get ks o)) refl
  where
    by_cases : (x : Option PlacesKept) → if_held (slice_get ks o) ≡ x → places_in (slots_from 0 ks ++ new) o ≡ places_in (slots_from 0 ks ++ es) o
    by_cases None e = other_places ks new o e ∙ same o ∙ sym (other_places ks es o e)
    by_cases (Some k) e = held_places ks new o k e ∙ sym (held_places ks es o k e)

abbrev Some_room : Option PlacesKept → Type 0
Some_room o = IfSome o (λ (k : PlacesKept). 0 < k.room)

-- room in the table is room in all
pub other_has : (ks : List PlacesKept) (es : List (ℕ × PlacesKept)) (oid : ℕ) → if_held (slice_get ks oid) ≡ None → HasRoomIn es oid → HasRoomIn (slots_from 0 ks ++ es) oid
other_has ks es oid absent room = subst (λ (o : Option PlacesKept). Some_room o) (sym (looked_up ks es oid None absent)) room

pub other_had : (ks : List PlacesKept) (es : List (ℕ × PlacesKept)) (oid : ℕ) → if_held (slice_get ks oid) ≡ None → HasRoomIn (slots_from 0 ks ++ es) oid → HasRoomIn es oid
other_had ks es oid absent room = subst (λ (o : Option PlacesKept). Some_room o) (looked_up ks es oid None absent) room

pub other_keeps : (ks : List PlacesKept) (es new : List (ℕ × PlacesKept)) (o : ℕ) → (HasRoomIn es o → HasRoomIn new o) → HasRoomIn (slots_from 0 ks ++ es) o → HasRoomIn (slots_from 0 ks ++ new) o
other_keeps ks es new o keeps room = by_cases (if_held (slice_get ks o)) refl
  where
    by_cases : (x : Option PlacesKept) → if_held (slice_get ks o) ≡ x → HasRoomIn (slots_from 0 ks ++ new) o
    by_cases None e = other_has ks new o e (keeps (other_had ks es o e room))
    by_cases (Some k) e =
        subst (λ (y : Option PlacesKept). Some_room y) (sym (looked_up ks new o (Some k) e)) (subst (λ (y : Option PlacesKept). Some_room y) (looked_up ks es o (Some k) e) room)
