-- Places for which room was made are kept, one after another.
use Rattle.std.proofs.Common.{◌≡◌, ℕ, ◌+◌, ◌<◌, ◌≤◌, Bool, true, false, cond, eqb, List, [], ◌∷◌, ◌++◌, All, length, get_or, take, drop, drop-cons, map, filter, refl, sym, ap, subst, ◌∙◌, append_assoc, arith}
use Rattle.std.specs.Prelude.{nat_eq}
use Rattle.std.specs.List.{AllByRecursion, IsDistinct}
use Rattle.std.proofs.lemmas.Bool.{ne_eqb, eqb-false}
use Rattle.std.proofs.lemmas.Grind.{common_steps}
use Rattle.std.proofs.lemmas.List.{map-append, append-nil, take_all}
use Rattle.std.proofs.lemmas.List.Elements.{filter-append, All-nil, All-cons, All-head, All-tail, All-push}
use Rattle.fs_index.specs.declared.place.Place.{Place}
use Rattle.fs_index.specs.declared.place.Placed.{Placed}
use Rattle.fs_index.specs.Places.{PlacesKept, places_in, is_placed, placed_of, oids_placed, Added, HasRoomIn}

abbrev Room : List (ℕ × PlacesKept) → Placed → Type 0
Room entries p = HasRoomIn entries p.oid

next_take : (i : ℕ) (xs : List Placed) (x : Placed) → i < length xs → x ≡ get_or xs i x → take (i + 1) xs ≡ take i xs ++ x ∷ []
next_take i xs x within is = grind (arith, common_steps)

next_drop : (i : ℕ) (xs : List Placed) (x : Placed) → i < length xs → x ≡ get_or xs i x → drop i xs ≡ x ∷ drop (i + 1) xs
next_drop i xs x within is = grind (arith, common_steps, drop-cons xs i x within)

-- ---- room is made

pub none_reserved : (entries : List (ℕ × PlacesKept)) (placed : List Placed) → All (λ p. HasRoomIn entries p.oid) (take 0 placed)
none_reserved entries placed = All-nil (Room entries)

weaker : (old new : List (ℕ × PlacesKept)) (placed : List Placed) → ((o : ℕ) → HasRoomIn old o → HasRoomIn new o) → All (Room old) placed → All (Room new) placed
weaker old new placed h all k d l = h _ (all k d l)

pub one_reserved : (old new : List (ℕ × PlacesKept)) (placed : List Placed) (i : ℕ) (one : Placed) → i < length placed → one ≡ get_or placed i one → All (λ p. HasRoomIn old p.oid) (take i placed)
    → ((o : ℕ) → HasRoomIn old o → HasRoomIn new o) → HasRoomIn new one.oid → All (λ p. HasRoomIn new p.oid) (take (i + 1) placed)
one_reserved old new placed i one within is so_far others here =
    subst (λ (ps : List Placed). All (Room new) ps) (sym (next_take i placed one within is)) (All-push (Room new) (take i placed) one (weaker old new (take i placed) others so_far) here)

pub all_reserved : (entries : List (ℕ × PlacesKept)) (placed : List Placed) (i : ℕ) → length placed ≤ i → All (λ p. HasRoomIn entries p.oid) (take i placed) → All (λ p. HasRoomIn entries p.oid) placed
all_reserved entries placed i done all = subst (λ (ps : List Placed). All (Room entries) ps) (take_all i placed done) all

-- ---- places are kept

pub placed_of-append : (oid : ℕ) (ps qs : List Placed) → placed_of oid (ps ++ qs) ≡ placed_of oid ps ++ placed_of oid qs
placed_of-append oid ps qs = ap (map (λ (p : Placed). p.place)) (filter-append (is_placed oid) ps qs) ∙ map-append (λ (p : Placed). p.place) (filter (is_placed oid) ps) (filter (is_placed oid) qs)

placed_of-one : (oid : ℕ) (p : Placed) → placed_of oid (p ∷ []) ≡ cond (eqb oid p.oid) (p.place ∷ []) []
placed_of-one oid p = by_cases (eqb oid p.oid)
  where
    by_cases : (b : Bool) → map (λ (q : Placed). q.place) (cond b (p ∷ []) []) ≡ cond b (p.place ∷ []) []
    by_cases true = refl
    by_cases false = refl

-- the first i of them are kept, and there is room for the rest
pub record KeptSoFar (old cur : List (ℕ × PlacesKept)) (room i : ℕ) (placed : List Placed) : Type 0 where
  pub objects : length placed ≤ room + i
  pub each : All (λ p. HasRoomIn cur p.oid) (drop i placed)
  pub distinct : IsDistinct nat_eq (oids_placed (drop i placed))
  pub records : (o : ℕ) → places_in cur o ≡ places_in old o ++ placed_of o (take i placed)

pub none_kept : (old : List (ℕ × PlacesKept)) (room : ℕ) (placed : List Placed) → length placed ≤ room → All (λ p. HasRoomIn old p.oid) placed → IsDistinct nat_eq (oids_placed placed) → KeptSoFar old old room 0 placed
none_kept old room placed objects each distinct = record { objects = omega arith; each = each; distinct = distinct; records = λ o. sym (append-nil (places_in old o)) }

pub all_kept : (old cur : List (ℕ × PlacesKept)) (room i : ℕ) (placed : List Placed) → length placed ≤ i → KeptSoFar old cur room i placed → (o : ℕ) → places_in cur o ≡ places_in old o ++ placed_of o placed
all_kept old cur room i placed done so_far o = so_far.records o ∙ ap (λ (ps : List Placed). places_in old o ++ placed_of o ps) (take_all i placed done)

-- there is room for the next one
pub next_room : (old cur : List (ℕ × PlacesKept)) (room i : ℕ) (placed : List Placed) (one : Placed) → i < length placed → one ≡ get_or placed i one → KeptSoFar old cur room i placed → (0 < room) × HasRoomIn cur one.oid
next_room old cur room i placed one within is so_far =
    (omega (arith, so_far.objects), All-head (Room cur) one (drop (i + 1) placed) (subst (λ (ps : List Placed). All (Room cur) ps) (next_drop i placed one within is) so_far.each))

-- and then for the others
pub one_kept : (old cur new : List (ℕ × PlacesKept)) (room room_now i : ℕ) (placed : List Placed) (one : Placed) → i < length placed → one ≡ get_or placed i one → KeptSoFar old cur room i placed
    → Added cur one.oid one.place new → ((o : ℕ) → eqb o one.oid ≡ false → HasRoomIn cur o → HasRoomIn new o) → room ≤ room_now + 1 → KeptSoFar old new room_now (i + 1) placed
unfolding IsDistinct
one_kept old cur new room room_now i placed one within is so_far added others more =
    let rest = drop (i + 1) placed in
    let front = take i placed in
    let dropped = next_drop i placed one within is in
    let distinct : IsDistinct nat_eq (oids_placed (one ∷ rest)) = subst (λ (ps : List Placed). IsDistinct nat_eq (oids_placed ps)) dropped so_far.distinct in
    let each : All (Room cur) (one ∷ rest) = subst (λ (ps : List Placed). All (Room cur) ps) dropped so_far.each in
    record {
      objects = omega (arith, so_far.objects);
      each = still rest (All-tail (Room cur) one rest each) distinct.0;
      distinct = distinct.1;
      records = λ o. grown o (eqb o one.oid) (added o) (so_far.records o)
          ∙ ap (λ (ps : List Place). places_in old o ++ ps) (sym (ap (placed_of o) (next_take i placed one within is) ∙ placed_of-append o front (one ∷ []) ∙ ap (λ (ps : List Place). placed_of o front ++ ps) (placed_of-one o one)));
    }
  where
    still : (rest : List Placed) → All (Room cur) rest → AllByRecursion (λ k. nat_eq one.oid k ≡ false) (oids_placed rest) → All (Room new) rest
    still [] all h = All-nil (Room new)
    still (p ∷ ps) all h =
        All-cons (Room new) p ps (others p.oid (ne_eqb p.oid one.oid (λ same. eqb-false _ _ h.0 (sym same))) (All-head (Room cur) p ps all)) (still ps (All-tail (Room cur) p ps all) h.1)

    grown : (o : ℕ) (b : Bool) → places_in new o ≡ cond b (places_in cur o ++ one.place ∷ []) (places_in cur o) → places_in cur o ≡ places_in old o ++ placed_of o (take i placed)
        → places_in new o ≡ places_in old o ++ (placed_of o (take i placed) ++ cond b (one.place ∷ []) [])
    grown o true e f = e ∙ ap (λ (ps : List Place). ps ++ one.place ∷ []) f ∙ append_assoc (places_in old o) (placed_of o (take i placed)) (one.place ∷ [])
    grown o false e f = e ∙ f ∙ ap (λ (ps : List Place). places_in old o ++ ps) (sym (append-nil (placed_of o (take i placed))))
