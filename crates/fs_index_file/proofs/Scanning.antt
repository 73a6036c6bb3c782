-- An index file is read, entry by entry.
use Rattle.std.proofs.Common.{◌≡◌, ◌⊎◌, inl, inr, ℕ, ◌+◌, ◌-◌, ◌<◌, ◌≤◌, suc, Bool, true, false, cond, eqb, List, [], ◌∷◌, ◌++◌, All, drop, map, filter, refl, sym, ap, subst, ◌∙◌, append_assoc, arith}
use Rattle.std.specs.Prelude.{◌&&◌, None, Option}
use Rattle.std.specs.List.{last_or}
use Rattle.std.specs.Option.{option_map_or}
use Rattle.std.proofs.lemmas.Bool.{eq-eqb, ne_eqb}
use Rattle.std.proofs.lemmas.List.{append-nil, drop-drop}
use Rattle.std.proofs.lemmas.List.Elements.{All-nil, All-push, All-weaker}
use Rattle.fs_index.specs.declared.place.Place.{Place}
use Rattle.fs_index.specs.declared.place.Placed.{Placed}
use Rattle.fs_index.specs.Places.{PlacesKept, Added, IsBefore, is_placed, places_in, placed_of}
use Rattle.fs_index_file.specs.declared.entries.Head.{Head}
use Rattle.fs_index_file.specs.declared.entries.Start.{Start}
use Rattle.fs_index_file.specs.Hints.{after, are_records, are_starts, behind, first_record, first_start, is_record, is_start, record_of, records_in, start_of, starts_in}
use Rattle.fs_index_file.specs.Honest.{is_packed}
use Rattle.fs_index_file.specs.Scans.{AreBehind, RecordsBefore, RecordsGive, RecordsSoFar, StandsBehind, StandsNext, StartsBefore, StartsGive, StartsSoFar, newest_of, packed_of_starts, places_of_starts, records_by, records_place}

left_more : (n k : ℕ) → k < n → n - k ≡ suc (n - (k + 1))
left_more n k less = omega (arith, less)

none_left : (n k : ℕ) → n ≤ k → n - k ≡ 0
none_left n k done = omega (arith, done)

-- ---- transactions

next_start : (bytes : List ℕ) (n k q : ℕ) (s : Start) → k < n → s ≡ start_of (drop q bytes) → starts_in (n - k) (drop q bytes) ≡ s ∷ starts_in (n - (k + 1)) (drop (q + 17) bytes)
next_start bytes n k q s less is =
    ap (λ (m : ℕ). starts_in m (drop q bytes)) (left_more n k less)
    ∙ ap (λ (x : Start). x ∷ starts_in (n - (k + 1)) (drop 17 (drop q bytes))) (sym is)
    ∙ ap (λ (b : List ℕ). s ∷ starts_in (n - (k + 1)) b) (drop-drop 17 q bytes)

pub starts_begin : (bytes : List ℕ) (h : Head) (places : List Place) (packed : List Bool) → places ≡ [] → packed ≡ [] → StartsSoFar bytes h 0 25 first_start places packed
starts_begin bytes h places packed no_places no_packed = record {
  test = ap (λ (n : ℕ). are_starts h.end first_start (starts_in n (drop 25 bytes))) (let e : h.starts ≡ h.starts - 0 = omega arith in e);
  places_are = ap (λ (ps : List Place). ps ++ places_of_starts (starts_in (h.starts - 0) (drop 25 bytes))) no_places ∙ ap (λ (n : ℕ). places_of_starts (starts_in n (drop 25 bytes))) (let e : h.starts - 0 ≡ h.starts = omega arith in e);
  packed_are = ap (λ (ps : List Bool). ps ++ packed_of_starts (starts_in (h.starts - 0) (drop 25 bytes))) no_packed ∙ ap (λ (n : ℕ). packed_of_starts (starts_in n (drop 25 bytes))) (let e : h.starts - 0 ≡ h.starts = omega arith in e);
}

pub starts_more : (bytes : List ℕ) (h : Head) (k q : ℕ) (last : Place) (places now : List Place) (packed are : List Bool) (s : Start) → k < h.starts → s ≡ start_of (drop q bytes) → is_start h.end last s ≡ true
    → now ≡ places ++ s.place ∷ [] → are ≡ packed ++ is_packed s ∷ [] → StartsSoFar bytes h k q last places packed → StartsSoFar bytes h (k + 1) (q + 17) (behind s.place) now are
starts_more bytes h k q last places now packed are s less is stands now_is are_is so_far =
    let rest = starts_in (h.starts - (k + 1)) (drop (q + 17) bytes) in
    let next = next_start bytes h.starts k q s less is in
    record {
      test = so_far.test ∙ ap (are_starts h.end last) next ∙ ap (λ (b : Bool). b && are_starts h.end (behind s.place) rest) stands;
      places_are = ap (λ (ps : List Place). ps ++ places_of_starts rest) now_is ∙ append_assoc places (s.place ∷ []) (places_of_starts rest) ∙ ap (λ (ss : List Start). places ++ places_of_starts ss) (sym next) ∙ so_far.places_are;
      packed_are = ap (λ (ps : List Bool). ps ++ packed_of_starts rest) are_is ∙ append_assoc packed (is_packed s ∷ []) (packed_of_starts rest) ∙ ap (λ (ss : List Start). packed ++ packed_of_starts ss) (sym next) ∙ so_far.packed_are;
    }

pub starts_fail : (bytes : List ℕ) (h : Head) (k q : ℕ) (last : Place) (places now : List Place) (packed are : List Bool) (s : Start) → k < h.starts → s ≡ start_of (drop q bytes) → is_start h.end last s ≡ false
    → StartsSoFar bytes h k q last places packed → StartsGive bytes h now are false
starts_fail bytes h k q last places now packed are s less is stands so_far =
    let rest = starts_in (h.starts - (k + 1)) (drop (q + 17) bytes) in
    record {
      test = so_far.test ∙ ap (are_starts h.end last) (next_start bytes h.starts k q s less is) ∙ ap (λ (b : Bool). b && are_starts h.end (behind s.place) rest) stands;
      places_are = λ e. absurd cc;
      packed_are = λ e. absurd cc;
    }

pub starts_end : (bytes : List ℕ) (h : Head) (k q : ℕ) (last : Place) (places : List Place) (packed : List Bool) → h.starts ≤ k → StartsSoFar bytes h k q last places packed → StartsGive bytes h places packed true
starts_end bytes h k q last places packed done so_far =
    let none : starts_in (h.starts - k) (drop q bytes) ≡ starts_in 0 (drop q bytes) = ap (λ (n : ℕ). starts_in n (drop q bytes)) (none_left h.starts k done) in
    record {
      test = so_far.test ∙ ap (are_starts h.end last) none;
      places_are = λ e. sym (append-nil places) ∙ sym (ap (λ (ss : List Start). places ++ places_of_starts ss) none) ∙ so_far.places_are;
      packed_are = λ e. sym (append-nil packed) ∙ sym (ap (λ (ss : List Start). packed ++ packed_of_starts ss) none) ∙ so_far.packed_are;
    }

-- ---- their bounds

last_pushed : (o : Option Place) (ps : List Place) (p : Place) → last_or o (ps ++ p ∷ []) ≡ last_or (last_or o ps) (p ∷ [])
last_pushed o [] p = refl
last_pushed o (x ∷ xs) p = last_pushed _ xs p

pub none_before : (end : ℕ) (places : List Place) → 4 ≤ end → places ≡ [] → StartsBefore end first_start places
none_before end places first none = record {
  newest = ap newest_of none;
  below = omega arith;
  before = subst (λ (ps : List Place). All (IsBefore 0 4) ps) (sym none) (All-nil (IsBefore 0 4));
  within = first;
}

pub all_earlier : (end : ℕ) (last : Place) (places : List Place) (s : Start) → StandsBehind end last s → StartsBefore end last places → All (IsBefore s.place.serial s.place.at) places
all_earlier end last places s stands so_far = All-weaker (IsBefore last.serial last.at) (IsBefore s.place.serial s.place.at) (λ p b. (omega (arith, b.0, stands.above), omega (arith, b.1, stands.further))) places so_far.before

pub one_before : (end : ℕ) (last : Place) (places now : List Place) (s : Start) → StandsBehind end last s → now ≡ places ++ s.place ∷ [] → StartsBefore end last places → StartsBefore end (behind s.place) now
one_before end last places now s stands now_is so_far =
    subst (λ (ps : List Place). StartsBefore end (behind s.place) ps) (sym now_is) (record {
      newest = ap (λ o. option_map_or (λ (p : Place). p.serial) o 0) (last_pushed None places s.place);
      below = stands.below;
      before = All-push (IsBefore s.place.serial (s.place.at + 1)) places s.place
          (All-weaker (IsBefore last.serial last.at) (IsBefore s.place.serial (s.place.at + 1)) (λ p b. (omega (arith, b.0, stands.above), omega (arith, b.1, stands.further))) places so_far.before) (omega arith, omega arith);
      within = omega (arith, stands.within);
    })

pub all_behind : (end : ℕ) (last : Place) (places : List Place) → StartsBefore end last places → AreBehind end places
all_behind end last places so_far = record {
  below = omega (arith, so_far.below, so_far.newest);
  before = All-weaker (IsBefore last.serial last.at) (IsBefore (newest_of places) end) (λ p b. (omega (arith, b.0, so_far.newest), omega (arith, b.1, so_far.within))) places so_far.before;
}

-- ---- data records

pub next_record : (bytes : List ℕ) (n k q : ℕ) (r : Placed) → k < n → r ≡ record_of (drop q bytes) → records_in (n - k) (drop q bytes) ≡ r ∷ records_in (n - (k + 1)) (drop (q + 24) bytes)
next_record bytes n k q r less is =
    ap (λ (m : ℕ). records_in m (drop q bytes)) (left_more n k less)
    ∙ ap (λ (x : Placed). x ∷ records_in (n - (k + 1)) (drop 24 (drop q bytes))) (sym is)
    ∙ ap (λ (b : List ℕ). r ∷ records_in (n - (k + 1)) b) (drop-drop 24 q bytes)

pub all_left : (bytes : List ℕ) (h : Head) (q : ℕ) → q ≡ records_place h → records_by bytes h ≡ records_in (h.records - 0) (drop q bytes)
all_left bytes h q q_is = ap (λ (n : ℕ). records_in n (drop (records_place h) bytes)) (let e : h.records ≡ h.records - 0 = omega arith in e) ∙ ap (λ (p : ℕ). records_in (h.records - 0) (drop p bytes)) (sym q_is)

pub records_begin : (bytes : List ℕ) (h : Head) (newest q : ℕ) (entries : List (ℕ × PlacesKept)) → entries ≡ [] → q ≡ records_place h → RecordsSoFar bytes h newest 0 q first_record entries
records_begin bytes h newest q entries none q_is =
    let same = all_left bytes h q q_is in
    record {
      test = ap (are_records newest h.end first_record) same;
      places_are = λ oid. ap (λ (es : List (ℕ × PlacesKept)). places_in es oid ++ placed_of oid (records_in (h.records - 0) (drop q bytes))) none ∙ ap (placed_of oid) (sym same);
    }

placed_next : (o : ℕ) (r : Placed) (rs : List Placed) (ps now : List Place) → now ≡ cond (eqb o r.oid) (ps ++ r.place ∷ []) ps → now ++ placed_of o rs ≡ ps ++ placed_of o (r ∷ rs)
placed_next o r rs ps now is = ap (λ (xs : List Place). xs ++ placed_of o rs) is ∙ by_cases (eqb o r.oid)
  where
    by_cases : (b : Bool) → cond b (ps ++ r.place ∷ []) ps ++ placed_of o rs ≡ ps ++ map (λ (p : Placed). p.place) (cond b (r ∷ filter (is_placed o) rs) (filter (is_placed o) rs))
    by_cases true = append_assoc ps (r.place ∷ []) (placed_of o rs)
    by_cases false = refl

pub records_more : (bytes : List ℕ) (h : Head) (newest k q : ℕ) (last : Placed) (entries now : List (ℕ × PlacesKept)) (r : Placed) → k < h.records → r ≡ record_of (drop q bytes) → is_record newest h.end last r ≡ true
    → Added entries r.oid r.place now → RecordsSoFar bytes h newest k q last entries → RecordsSoFar bytes h newest (k + 1) (q + 24) (after r) now
records_more bytes h newest k q last entries now r less is stands added so_far =
    let rest = records_in (h.records - (k + 1)) (drop (q + 24) bytes) in
    let next = next_record bytes h.records k q r less is in
    record {
      test = so_far.test ∙ ap (are_records newest h.end last) next ∙ ap (λ (b : Bool). b && are_records newest h.end (after r) rest) stands;
      places_are = λ oid. placed_next oid r rest (places_in entries oid) (places_in now oid) (added oid) ∙ ap (λ (rs : List Placed). places_in entries oid ++ placed_of oid rs) (sym next) ∙ so_far.places_are oid;
    }

pub records_fail : (bytes : List ℕ) (h : Head) (newest k q : ℕ) (last : Placed) (entries now : List (ℕ × PlacesKept)) (r : Placed) → k < h.records → r ≡ record_of (drop q bytes) → is_record newest h.end last r ≡ false
    → RecordsSoFar bytes h newest k q last entries → RecordsGive bytes h newest now false
records_fail bytes h newest k q last entries now r less is stands so_far =
    let rest = records_in (h.records - (k + 1)) (drop (q + 24) bytes) in
    record {
      test = so_far.test ∙ ap (are_records newest h.end last) (next_record bytes h.records k q r less is) ∙ ap (λ (b : Bool). b && are_records newest h.end (after r) rest) stands;
      places_are = λ e. absurd cc;
    }

pub records_end : (bytes : List ℕ) (h : Head) (newest k q : ℕ) (last : Placed) (entries : List (ℕ × PlacesKept)) → h.records ≤ k → RecordsSoFar bytes h newest k q last entries → RecordsGive bytes h newest entries true
records_end bytes h newest k q last entries done so_far =
    let none : records_in (h.records - k) (drop q bytes) ≡ records_in 0 (drop q bytes) = ap (λ (n : ℕ). records_in n (drop q bytes)) (none_left h.records k done) in
    record {
      test = so_far.test ∙ ap (are_records newest h.end last) none;
      places_are = λ e oid. sym (append-nil (places_in entries oid)) ∙ sym (ap (λ (rs : List Placed). places_in entries oid ++ placed_of oid rs) none) ∙ so_far.places_are oid;
    }

-- ---- their bounds

pub no_records : (newest end : ℕ) (entries : List (ℕ × PlacesKept)) → entries ≡ [] → RecordsBefore newest end first_record entries
no_records newest end entries none = subst (λ (es : List (ℕ × PlacesKept)). RecordsBefore newest end first_record es) (sym none) (record {
  bounds = λ o. All-nil (IsBefore newest end);
  own = All-nil (IsBefore 0 0);
  none_behind = λ o more. refl;
})

pub own_earlier : (newest end : ℕ) (last r : Placed) (entries : List (ℕ × PlacesKept)) → StandsNext newest end last r → RecordsBefore newest end last entries → All (IsBefore r.place.serial r.place.at) (places_in entries r.oid)
own_earlier newest end last r entries stands so_far = elim stands.order [
  | inl less ↦ subst (λ (ps : List Place). All (IsBefore r.place.serial r.place.at) ps) (sym (so_far.none_behind r.oid less)) (All-nil (IsBefore r.place.serial r.place.at))
  | inr same ↦ subst (λ (o : ℕ). All (IsBefore r.place.serial r.place.at) (places_in entries o)) same.0
      (All-weaker (IsBefore last.place.serial last.place.at) (IsBefore r.place.serial r.place.at) (λ p b. (omega (arith, b.0, same.1), omega (arith, b.1, same.2))) (places_in entries last.oid) so_far.own)
]

pub one_record : (newest end : ℕ) (last r : Placed) (entries now : List (ℕ × PlacesKept)) → StandsNext newest end last r → Added entries r.oid r.place now → RecordsBefore newest end last entries → RecordsBefore newest end (after r) now
one_record newest end last r entries now stands added so_far = record {
  bounds = λ o. bound o (eqb o r.oid) (added o);
  own = subst (λ (ps : List Place). All (IsBefore r.place.serial (r.place.at + 1)) ps) (sym (added r.oid ∙ ap (λ (b : Bool). cond b (places_in entries r.oid ++ r.place ∷ []) (places_in entries r.oid)) (eqb-same r.oid)))
      (All-push (IsBefore r.place.serial (r.place.at + 1)) (places_in entries r.oid) r.place
      (All-weaker (IsBefore r.place.serial r.place.at) (IsBefore r.place.serial (r.place.at + 1)) (λ p b. (b.0, omega (arith, b.1))) (places_in entries r.oid) (own_earlier newest end last r entries stands so_far)) (omega arith, omega arith));
  none_behind = λ o more. added o ∙ ap (λ (b : Bool). cond b (places_in entries o ++ r.place ∷ []) (places_in entries o)) (ne_eqb o r.oid (λ e. absurd (omega (arith, e, more)))) ∙ so_far.none_behind o (further o more stands.order);
}
  where
    eqb-same : (o : ℕ) → eqb o o ≡ true
    eqb-same o = eq-eqb o o refl

    further : (o : ℕ) → r.oid < o → (last.oid < r.oid) ⊎ ((last.oid ≡ r.oid) × (last.place.serial ≤ r.place.serial) × (last.place.at ≤ r.place.at)) → last.oid < o
    further o more (inl less) = omega (arith, more, less)
    further o more (inr same) = omega (arith, more, same.0)

    bound : (o : ℕ) (b : Bool) → places_in now o ≡ cond b (places_in entries o ++ r.place ∷ []) (places_in entries o) → All (IsBefore newest end) (places_in now o)
    bound o true is = subst (λ (ps : List Place). All (IsBefore newest end) ps) (sym is) (All-push (IsBefore newest end) (places_in entries o) r.place (so_far.bounds o) (stands.no_later, stands.within))
    bound o false is = subst (λ (ps : List Place). All (IsBefore newest end) ps) (sym is) (so_far.bounds o)
