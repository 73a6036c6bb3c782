-- Objects are listed, and their records one object after another.
use Rattle.std.proofs.Common.{◌≡◌, ◌⊎◌, inl, inr, ℕ, ◌+◌, ◌-◌, ◌<◌, ◌≤◌, zero, suc, Bool, true, false, cond, eqb, List, [], ◌∷◌, ◌++◌, All, length, get_or, take, map, filter, Option, Some, None, refl, sym, ap, subst, ◌∙◌, append_assoc, arith}
use Rattle.std.specs.Prelude.{nat_eq, slice_get, option_map}
use Rattle.std.specs.Option.{option_map_or}
use Rattle.std.specs.List.{Contains}
use Rattle.std.specs.List.Sorted.{IsNonDecreasingBy, IsStrictlyIncreasing}
use Rattle.std.specs.Map.{lookup}
use Rattle.std.proofs.lemmas.Bool.{ne_eqb, eqb-true, eqb-false, cases_lt}
use Rattle.std.proofs.lemmas.List.{append-nil, take_all, take_more, get_or_default}
use Rattle.std.proofs.lemmas.Option.{slice_get_past, slice_get_within}
use Rattle.std.proofs.lemmas.List.Elements.{All-nil, All-head, All-tail, All-push, All-append, All-map, Contains-append_left, Contains-push, Contains-push_cases}
use Rattle.std.proofs.lemmas.List.Sorted.{IsNonDecreasingBy-push, IsNonDecreasingBy-short}
use Rattle.fs_index.specs.declared.place.Place.{Place}
use Rattle.fs_index.specs.declared.place.Placed.{Placed}
use Rattle.fs_index.specs.Places.{PlacesKept, places_in, is_placed, placed_of}
use Rattle.fs_index.specs.Slots.{slots_from, if_held}
use Rattle.fs_index.specs.Listed.{AreAmong, AreListed, AreRecordsOf, placed}
use Rattle.fs_index.proofs.Slots.{found, or_else}
use Rattle.fs_index.proofs.Keeping.{placed_of-append}

-- ---- objects

pub among_push : (xs : List ℕ) (x : ℕ) → AreAmong xs (xs ++ x ∷ [])
among_push xs x o there = Contains-append_left xs (x ∷ []) o there

pub first_more : (xs : List ℕ) (n : ℕ) → ((o : ℕ) → o < n → Contains xs o) → (o : ℕ) → o < n + 1 → Contains (xs ++ n ∷ []) o
first_more xs n first o less = elim (cases_lt o n) [
  | inl before ↦ Contains-append_left xs (n ∷ []) o (first o before)
  | inr behind ↦ (let same : n ≡ o = omega arith in subst (λ (x : ℕ). Contains (xs ++ x ∷ []) o) (sym same) (Contains-push xs o))
]

-- more of those listed
pub listed_more : {X : Type 0} (xs ys : List ℕ) (entries : List (ℕ × X)) → AreAmong xs ys → AreListed xs entries → AreListed ys entries
listed_more xs ys entries among listed o = elim (listed o) [ inl there ↦ inl (among o there) | inr none ↦ inr none ]

-- with a list by number in front
pub slots_listed : (ks : List PlacesKept) (rest : List (ℕ × PlacesKept)) (oids : List ℕ) → ((o : ℕ) → o < length ks → Contains oids o) → AreListed oids rest → AreListed oids (slots_from 0 ks ++ rest)
slots_listed ks rest oids first listed o = elim (cases_lt o (length ks)) [
  | inl within ↦ inl (first o within)
  | inr past ↦ (elim (listed o) [
    | inl there ↦ inl there
    | inr none ↦ inr (found ks rest o ∙ ap (λ (k : Option PlacesKept). or_else (if_held k) (lookup (nat_eq o) rest)) (slice_get_past ks o past) ∙ none)
  ])
]

-- the keys of the first entries are among these
abbrev pub KeysUpTo : {X : Type 0} → ℕ → List ℕ → List (ℕ × X) → Type 0
KeysUpTo {X} n oids entries = (k : ℕ) (e : ℕ × X) → k < n → slice_get entries k ≡ Some e → Contains oids e.0

pub keys_more : {X : Type 0} (n : ℕ) (oids : List ℕ) (entries : List (ℕ × X)) (oid : ℕ) → option_map (λ e. e.0) (slice_get entries n) ≡ Some oid → KeysUpTo n oids entries → KeysUpTo (n + 1) (oids ++ oid ∷ []) entries
keys_more n oids entries oid is so_far k e less there = elim (cases_lt k n) [
  | inl before ↦ Contains-append_left oids (oid ∷ []) e.0 (so_far k e before there)
  | inr behind ↦ (
      let same : k ≡ n = omega arith in
      let here : Some e.0 ≡ Some oid = sym (ap (option_map (λ x. x.0)) there) ∙ ap (λ (i : ℕ). option_map (λ x. x.0) (slice_get entries i)) same ∙ is in
      let key : e.0 ≡ oid = cc in
      subst (λ (o : ℕ). Contains (oids ++ oid ∷ []) o) (sym key) (Contains-push oids oid))
]

keys_listed_from : {X : Type 0} (oids : List ℕ) (entries : List (ℕ × X)) (o : ℕ) → ((k : ℕ) (e : ℕ × X) → slice_get entries k ≡ Some e → Contains oids e.0) → Contains oids o ⊎ (lookup (nat_eq o) entries ≡ None)
keys_listed_from oids [] o all = inr refl
keys_listed_from oids (e ∷ es) o all = by_cases (eqb o e.0) refl (keys_listed_from oids es o (λ k f is. all (suc k) f is))
  where
    by_cases : (b : Bool) → eqb o e.0 ≡ b → Contains oids o ⊎ (lookup (nat_eq o) es ≡ None) → Contains oids o ⊎ (cond b (Some e.1) (lookup (nat_eq o) es) ≡ None)
    by_cases true same rest = inl (subst (λ (x : ℕ). Contains oids x) (sym (eqb-true o e.0 same)) (all zero e refl))
    by_cases false apart rest = rest

pub keys_listed : {X : Type 0} (n : ℕ) (oids : List ℕ) (entries : List (ℕ × X)) → length entries ≤ n → KeysUpTo n oids entries → AreListed oids entries
keys_listed n oids entries done all o = keys_listed_from oids entries o (λ k e is. all k e (omega (arith, slice_get_within entries k e is, done)) is)

-- ---- records

-- the records of the first of these objects
pub record Collected (entries : List (ℕ × PlacesKept)) (oids : List ℕ) (n : ℕ) (records : List Placed) : Type 0 where
  pub order : IsNonDecreasingBy (λ r. r.oid) records
  pub below : All (λ r. (k : ℕ) → n ≤ k → k < length oids → r.oid < get_or oids k 0) records
  pub each : (o : ℕ) → (placed_of o records ≡ places_in entries o) ⊎ ((placed_of o records ≡ []) × (Contains (take n oids) o → ⊥))

pub none_collected : (entries : List (ℕ × PlacesKept)) (oids : List ℕ) → Collected entries oids 0 []
none_collected entries oids = record {
  order = IsNonDecreasingBy-short (λ (r : Placed). r.oid) [] (omega arith);
  below = All-nil (λ r. (k : ℕ) → 0 ≤ k → k < length oids → r.oid < get_or oids k 0);
  each = λ o. inr (refl, λ there. absurd (omega (arith, there.1)));
}

order_more : (x : ℕ) (ps : List Place) (rs : List Placed) → IsNonDecreasingBy (λ r. r.oid) rs → All (λ r. r.oid ≤ x) rs → IsNonDecreasingBy (λ r. r.oid) (rs ++ map (placed x) ps)
order_more x [] rs order below = subst (λ (qs : List Placed). IsNonDecreasingBy (λ r. r.oid) qs) (sym (append-nil rs)) order
order_more x (p ∷ ps) rs order below =
    subst (λ (qs : List Placed). IsNonDecreasingBy (λ r. r.oid) qs) (append_assoc rs (placed x p ∷ []) (map (placed x) ps))
    (order_more x ps (rs ++ placed x p ∷ []) (IsNonDecreasingBy-push (λ r. r.oid) rs (placed x p) order (λ d some. below _ d (omega arith))) (All-push (λ r. r.oid ≤ x) rs (placed x p) below (omega arith)))

none_of : (x : ℕ) (rs : List Placed) → All (λ r. r.oid < x) rs → placed_of x rs ≡ []
none_of x [] below = refl
none_of x (r ∷ rs) below = ap (λ (b : Bool). map (λ (p : Placed). p.place) (cond b (r ∷ filter (is_placed x) rs) (filter (is_placed x) rs))) (ne_eqb x r.oid (λ e. absurd (omega (arith, e, All-head (λ (y : Placed). y.oid < x) r rs below)))) ∙ none_of x rs (All-tail (λ (y : Placed). y.oid < x) r rs below)

abbrev nil_of : List Place
nil_of = []

nothing : (b : Bool) → nil_of ≡ cond b nil_of nil_of
nothing true = refl
nothing false = refl

placed_of_all : (o x : ℕ) (ps : List Place) → placed_of o (map (placed x) ps) ≡ cond (eqb o x) ps []
placed_of_all o x [] = nothing (eqb o x)
placed_of_all o x (p ∷ ps) = by_cases (eqb o x) (placed_of_all o x ps)
  where
    by_cases : (b : Bool) → placed_of o (map (placed x) ps) ≡ cond b ps []
        → map (λ (r : Placed). r.place) (cond b (placed x p ∷ filter (is_placed o) (map (placed x) ps)) (filter (is_placed o) (map (placed x) ps))) ≡ cond b (p ∷ ps) []
    by_cases true rest = ap (λ (qs : List Place). p ∷ qs) rest
    by_cases false rest = rest

rising_from : (xs : List ℕ) → IsStrictlyIncreasing xs → (i d : ℕ) → i + d + 1 < length xs → get_or xs i 0 < get_or xs (i + d + 1) 0
rising_from xs rises i zero within = let h = rises i (omega arith) in subst (λ (k : ℕ). get_or xs i 0 < get_or xs k 0) (let e : i + 1 ≡ i + 0 + 1 = omega arith in e) h
rising_from xs rises i (suc d) within =
    let h = rises (i + d + 1) (omega arith) in
    let so_far = rising_from xs rises i d (omega arith) in
    let e : i + d + 1 + 1 ≡ i + suc d + 1 = omega arith in
    subst (λ (k : ℕ). get_or xs i 0 < get_or xs k 0) e (omega (arith, h, so_far))

rising : (xs : List ℕ) → IsStrictlyIncreasing xs → (i j : ℕ) → i < j → j < length xs → get_or xs i 0 < get_or xs j 0
rising xs rises i j less within =
    let e : i + (j - i - 1) + 1 ≡ j = omega (arith, less) in
    subst (λ (k : ℕ). get_or xs i 0 < get_or xs k 0) e (rising_from xs rises i (j - i - 1) (omega (arith, e, within)))

pub one_collected : (entries : List (ℕ × PlacesKept)) (oids : List ℕ) (n x : ℕ) (records new : List Placed) → IsStrictlyIncreasing oids → n < length oids → x ≡ get_or oids n x → Collected entries oids n records → new ≡ records ++ map (placed x) (places_in entries x) → Collected entries oids (n + 1) new
one_collected entries oids n x records new rises within x_is so_far new_is =
    let same : get_or oids n 0 ≡ x = get_or_default oids n 0 x within ∙ sym x_is in
    let all = map (placed x) (places_in entries x) in
    let under : All (λ r. r.oid < x) records = λ k d l. let h = so_far.below k d l n (omega arith) within in omega (arith, h, same) in
    subst (λ (rs : List Placed). Collected entries oids (n + 1) rs) (sym new_is) (record {
      order = order_more x (places_in entries x) records so_far.order (λ k d l. let h = under k d l in omega (arith, h));
      below = All-append (λ r. (k : ℕ) → n + 1 ≤ k → k < length oids → r.oid < get_or oids k 0) records all
          (λ k d l j further inside. so_far.below k d l j (omega arith) inside)
          (All-map (λ r. (k : ℕ) → n + 1 ≤ k → k < length oids → r.oid < get_or oids k 0) (placed x) (places_in entries x) (λ k d l j further inside. let h = rising oids rises n j (omega arith) inside in omega (arith, h, same)));
      each = λ o. by_cases o (eqb o x) refl under same (so_far.each o);
    })
  where
    by_cases : (o : ℕ) (b : Bool) → eqb o x ≡ b → All (λ r. r.oid < x) records → get_or oids n 0 ≡ x → (placed_of o records ≡ places_in entries o) ⊎ ((placed_of o records ≡ []) × (Contains (take n oids) o → ⊥))
        → (placed_of o (records ++ map (placed x) (places_in entries x)) ≡ places_in entries o) ⊎ ((placed_of o (records ++ map (placed x) (places_in entries x)) ≡ []) × (Contains (take (n + 1) oids) o → ⊥))
    by_cases o true e under same before =
        let is : o ≡ x = eqb-true o x e in
        inl (placed_of-append o records (map (placed x) (places_in entries x))
        ∙ ap (λ (ps : List Place). ps ++ placed_of o (map (placed x) (places_in entries x))) (ap (λ (y : ℕ). placed_of y records) is ∙ none_of x records under)
        ∙ placed_of_all o x (places_in entries x) ∙ ap (λ (c : Bool). cond c (places_in entries x) []) e ∙ ap (places_in entries) (sym is))
    by_cases o false e under same before =
        let still : placed_of o (records ++ map (placed x) (places_in entries x)) ≡ placed_of o records =
        placed_of-append o records (map (placed x) (places_in entries x))
        ∙ ap (λ (ps : List Place). placed_of o records ++ ps) (placed_of_all o x (places_in entries x) ∙ ap (λ (c : Bool). cond c (places_in entries x) []) e)
        ∙ append-nil (placed_of o records) in
        elim before [
          | inl done ↦ inl (still ∙ done)
          | inr none ↦ inr (
            still ∙ none.0,
            λ there. elim (Contains-push_cases (take n oids) x o (subst (λ (xs : List ℕ). Contains xs o) (take_more oids n 0 within ∙ ap (λ (y : ℕ). take n oids ++ y ∷ []) same) there)) [
              | inl earlier ↦ none.1 earlier
              | inr is ↦ eqb-false o x e (sym is)
            ],
          )
        ]

pub all_collected : (entries : List (ℕ × PlacesKept)) (oids : List ℕ) (n : ℕ) (records : List Placed) → length oids ≤ n → AreListed oids entries → Collected entries oids n records → AreRecordsOf entries records
all_collected entries oids n records done listed so_far = record {
  order = so_far.order;
  each = λ o. elim (so_far.each o) [
    | inl is ↦ is
    | inr none ↦ (elim (listed o) [
      | inl there ↦ absurd (none.1 (subst (λ (xs : List ℕ). Contains xs o) (sym (take_all n oids done)) there))
      | inr no_entry ↦ none.0 ∙ sym (ap (λ (k : Option PlacesKept). option_map_or (λ y. y.places) k []) no_entry)
    ])
  ];
}
