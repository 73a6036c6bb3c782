-- An index stays sound as places are kept.
use Rattle.std.proofs.Common.{◌≡◌, ℕ, ◌-◌, Bool, true, false, cond, eqb, List, [], ◌∷◌, ◌++◌, All, length, map, filter, Result, Ok, Err, OnOk, OnErr, refl, sym, ap, subst, ◌∙◌, arith}
use Rattle.std.specs.Prelude.{nat_eq}
use Rattle.std.specs.List.{AllByRecursion, IsDistinct}
use Rattle.std.proofs.lemmas.Bool.{eqb-true}
use Rattle.std.proofs.lemmas.List.{append-nil}
use Rattle.std.proofs.lemmas.List.Elements.{All-head, All-tail}
use Rattle.std.proofs.lemmas.List.Sorted.{IsNonDecreasingBy-push}
use Rattle.fs_index.specs.declared.place.Place.{Place}
use Rattle.fs_index.specs.declared.place.Placed.{Placed}
use Rattle.fs_index.specs.Places.{PlacesKept, IsSoundIndex, places_in, IsRising, AreRising, IsBefore, Added, is_placed, placed_of, oids_placed, StandBehind}

-- one place more at the end
pub rising_more : (ps : List Place) (p : Place) → IsRising ps → All (IsBefore p.serial p.at) ps → IsRising (ps ++ p ∷ [])
rising_more ps p is before = record {
  serials = IsNonDecreasingBy-push (λ p. p.serial) ps p is.serials (λ d some. (before (length ps - 1) d (omega arith)).0);
  places_rise = IsNonDecreasingBy-push (λ p. p.at) ps p is.places_rise (λ d some. let h = (before (length ps - 1) d (omega arith)).1 in omega (arith, h));
}

pub are_rising_more : (old new : List (ℕ × PlacesKept)) (oid : ℕ) (p : Place) → AreRising old → All (IsBefore p.serial p.at) (places_in old oid) → Added old oid p new → AreRising new
are_rising_more old new oid p is before added o = by_cases (eqb o oid) refl
  where
    by_cases : (b : Bool) → eqb o oid ≡ b → IsRising (places_in new o)
    by_cases true e =
        let same : o ≡ oid = eqb-true _ _ e in
        let now : places_in new o ≡ places_in old o ++ p ∷ [] = added o ∙ ap (λ b. cond b (places_in old o ++ p ∷ []) (places_in old o)) e in
        subst (λ (ps : List Place). IsRising ps) (sym now) (rising_more (places_in old o) p (is o) (subst (λ (k : ℕ). All (IsBefore p.serial p.at) (places_in old k)) (sym same) before))
    by_cases false e =
        let now : places_in new o ≡ places_in old o = added o ∙ ap (λ b. cond b (places_in old o ++ p ∷ []) (places_in old o)) e in
        subst (λ (ps : List Place). IsRising ps) (sym now) (is o)

pub are_rising_still : (old new : List (ℕ × PlacesKept)) → AreRising old → ((o : ℕ) → places_in new o ≡ places_in old o) → AreRising new
are_rising_still old new is same o = subst (λ (ps : List Place). IsRising ps) (sym (same o)) (is o)

-- an object that isn't among these has no place among them
pub none_placed : (o : ℕ) (placed : List Placed) → AllByRecursion (λ k. eqb o k ≡ false) (oids_placed placed) → placed_of o placed ≡ []
none_placed o [] h = refl
none_placed o (p ∷ ps) h = ap (λ (b : Bool). map (λ (x : Placed). x.place) (cond b (p ∷ filter (is_placed o) ps) (filter (is_placed o) ps))) h.0 ∙ none_placed o ps h.1

-- one place at most of an object whose places rise, behind them
pub rising_with : (o : ℕ) (ps : List Place) (placed : List Placed) → IsRising ps → IsDistinct nat_eq (oids_placed placed) → AllByRecursion (λ p. eqb o p.oid ≡ true → All (IsBefore p.place.serial p.place.at) ps) placed → IsRising (ps ++ placed_of o placed)
unfolding IsDistinct
rising_with o ps [] is distinct behind = subst (λ (xs : List Place). IsRising xs) (sym (append-nil ps)) is
rising_with o ps (p ∷ rest) is distinct behind = by_cases (eqb o p.oid) refl (rising_with o ps rest is distinct.1 behind.1)
  where
    by_cases : (b : Bool) → eqb o p.oid ≡ b → IsRising (ps ++ placed_of o rest) → IsRising (ps ++ map (λ (x : Placed). x.place) (cond b (p ∷ filter (is_placed o) rest) (filter (is_placed o) rest)))
    by_cases true e so_far =
        let none : placed_of o rest ≡ [] = none_placed o rest (subst (λ (k : ℕ). AllByRecursion (λ y. eqb k y ≡ false) (oids_placed rest)) (sym (eqb-true _ _ e)) distinct.0) in
        subst (λ (xs : List Place). IsRising (ps ++ p.place ∷ xs)) (sym none) (rising_more ps p.place is (behind.0 e))
    by_cases false e so_far = so_far

-- whether a record's place was kept or not
pub sound_after : {E : Type 0} (r : Result (Unit {0}) E) (old new : List (ℕ × PlacesKept)) (transactions : List Place) (oid : ℕ) (p : Place) → IsSoundIndex old transactions → All (IsBefore p.serial p.at) (places_in old oid)
    → OnOk r (Added old oid p new) → OnErr r ((o : ℕ) → places_in new o ≡ places_in old o) → IsSoundIndex new transactions
sound_after (Ok u) old new transactions oid p sound before ok err = record { objects = are_rising_more old new oid p sound.objects before ok; transactions = sound.transactions }
sound_after (Err e) old new transactions oid p sound before ok err = record { objects = are_rising_still old new sound.objects err; transactions = sound.transactions }

-- the places stay
pub sound_still : (old new : List (ℕ × PlacesKept)) (transactions same : List Place) → IsSoundIndex old transactions → ((o : ℕ) → places_in new o ≡ places_in old o) → same ≡ transactions → IsSoundIndex new same
sound_still old new transactions same sound places is = record { objects = are_rising_still old new sound.objects places; transactions = subst (λ (ps : List Place). IsRising ps) (sym is) sound.transactions }

-- a transaction's places are kept, each behind those of its object
pub sound_with : (old new : List (ℕ × PlacesKept)) (transactions now : List Place) (start : Place) (placed : List Placed) → IsSoundIndex old transactions → All (IsBefore start.serial start.at) transactions → now ≡ transactions ++ start ∷ []
    → IsDistinct nat_eq (oids_placed placed) → StandBehind old placed → ((o : ℕ) → places_in new o ≡ places_in old o ++ placed_of o placed) → IsSoundIndex new now
sound_with old new transactions now start placed sound before is distinct behind records = record {
  objects = λ o. subst (λ (ps : List Place). IsRising ps) (sym (records o)) (rising_with o (places_in old o) placed (sound.objects o) distinct (each o placed behind));
  transactions = subst (λ (ps : List Place). IsRising ps) (sym is) (rising_more transactions start sound.transactions before);
}
  where
    -- those of one object among them stand behind its places
    each : (o : ℕ) (placed : List Placed) → StandBehind old placed → AllByRecursion (λ p. eqb o p.oid ≡ true → All (IsBefore p.place.serial p.place.at) (places_in old o)) placed
    each o [] h = tt
    each o (p ∷ ps) h = (
      λ is. subst (λ (k : ℕ). All (IsBefore p.place.serial p.place.at) (places_in old k)) (sym (eqb-true _ _ is)) (All-head (λ (q : Placed). All (IsBefore q.place.serial q.place.at) (places_in old q.oid)) p ps h),
      each o ps (All-tail (λ (q : Placed). All (IsBefore q.place.serial q.place.at) (places_in old q.oid)) p ps h),
    )
