-- The record below a front stands where an index says.
use Rattle.std.proofs.Common.{◌≡◌, ℕ, Bool, true, false, cond, eqb, ltb, List, [], ◌∷◌, map, filter, Option, Some, None, refl, ap, ◌∙◌}
use Rattle.std.specs.Prelude.{option_map, ◌&&◌}
use Rattle.std.specs.List.{last_or}
use Rattle.fs_index.specs.declared.place.Place.{Place}
use Rattle.fs_records.specs.Blocks.{Known, Reached}
use Rattle.fs_index.specs.Places.{Kept, is_place_below, places_in, last_below}
use Rattle.fs_records.specs.Indexed.{place_of, is_of, is_of_below, places_of, record_below, IsIndexOf}

-- the last of the images is the image of the last
pub last_map : {A B : Type 0} (f : A → B) (o : Option A) (xs : List A) → last_or (option_map f o) (map f xs) ≡ option_map f (last_or o xs)
last_map f o [] = refl
last_map f o (x ∷ xs) = last_map f (Some x) xs

-- an object's places below a front are those of its records below it
places_below : (oid front : ℕ) (ks : List Known) → filter (is_place_below front) (map place_of (filter (is_of oid) ks)) ≡ map place_of (filter (is_of_below oid front) ks)
places_below oid front [] = refl
places_below oid front (k ∷ ks) = by_cases (eqb oid k.oid) (places_below oid front ks)
  where
    inside : (b : Bool) → filter (is_place_below front) (map place_of (filter (is_of oid) ks)) ≡ map place_of (filter (is_of_below oid front) ks)
        → cond b (place_of k ∷ filter (is_place_below front) (map place_of (filter (is_of oid) ks))) (filter (is_place_below front) (map place_of (filter (is_of oid) ks))) ≡ map place_of (cond b (k ∷ filter (is_of_below oid front) ks) (filter (is_of_below oid front) ks))
    inside true e = ap (λ (ps : List Place). place_of k ∷ ps) e
    inside false e = e

    by_cases : (a : Bool) → filter (is_place_below front) (map place_of (filter (is_of oid) ks)) ≡ map place_of (filter (is_of_below oid front) ks)
        → filter (is_place_below front) (map place_of (cond a (k ∷ filter (is_of oid) ks) (filter (is_of oid) ks))) ≡ map place_of (cond (a && ltb k.tid front) (k ∷ filter (is_of_below oid front) ks) (filter (is_of_below oid front) ks))
    by_cases true e = inside (ltb k.tid front) e
    by_cases false e = e

-- the last place of an object below a front is that of its last record below it
pub last_below_is : (oid front : ℕ) (known : List Known) → last_below front (places_of oid known) ≡ option_map place_of (record_below oid front known)
unfolding last_below
last_below_is oid front known = ap (λ (ps : List Place). last_or None ps) (places_below oid front known) ∙ last_map place_of None (filter (is_of_below oid front) known)

-- so an index gives it
pub below_is : (s : Reached) (kept : Kept) (oid front : ℕ) → IsIndexOf s kept → last_below front (places_in kept.entries oid) ≡ option_map place_of (record_below oid front s.known)
below_is s kept oid front is = ap (last_below front) (is.records oid) ∙ last_below_is oid front s.known
