-- The entries of an index file, one behind another.
use Rattle.std.proofs.Common.{◌≡◌, ℕ, ◌+◌, ◌<◌, ◌≤◌, zero, suc, false, List, [], ◌∷◌, ◌++◌, length, take, drop, get_or, refl, sym, ap, subst, ◌∙◌, append_assoc, add-one, arith}
use Rattle.std.specs.Prelude.{slice_get}
use Rattle.std.specs.List.{AllByRecursion, flat_map}
use Rattle.std.specs.Option.{option_map_or}
use Rattle.std.proofs.lemmas.Grind.{flat_map-append}
use Rattle.std.proofs.lemmas.List.{append-nil, drop_all, drop_more, take_more}
use Rattle.fs_index.specs.declared.place.Place.{Place}
use Rattle.fs_index.specs.declared.place.Placed.{Placed}
use Rattle.fs_recovery.specs.declared.tally.Tally.{Tally}
use Rattle.fs_index_file.specs.declared.entries.Start.{Start}
use Rattle.fs_index_file.specs.Hints.{IsSmallRecord, IsSmallStart, record_text, start_text}
use Rattle.fs_index_file.specs.Honest.{starts_for, status_of}

-- the entry of the transaction at a place, with the status that its tally says
abbrev pub start_for : Place → List Tally → ℕ → Start
start_for p tallies k = record { place = p; status = status_of (option_map_or (λ x. x.packed) (slice_get tallies k) false) }

abbrev no_tallies : List Tally
no_tallies = []

none_dropped : (k : ℕ) → drop k no_tallies ≡ no_tallies
none_dropped zero = refl
none_dropped (suc k) = refl

next_start : (places : List Place) (tallies : List Tally) (k : ℕ) (p : Place) → k < length places → p ≡ get_or places k p → starts_for (drop k places) (drop k tallies) ≡ start_for p tallies k ∷ starts_for (drop (suc k) places) (drop (suc k) tallies)
next_start [] tallies k p within is = absurd (omega (arith, within))
next_start (x ∷ xs) [] zero p within is = ap (λ (q : Place). start_for q [] 0 ∷ starts_for xs []) (sym is)
next_start (x ∷ xs) (t ∷ ts) zero p within is = ap (λ (q : Place). start_for q (t ∷ ts) 0 ∷ starts_for xs ts) (sym is)
next_start (x ∷ xs) [] (suc k) p within is =
    sym (ap (λ (ts : List Tally). starts_for (drop k xs) ts) (none_dropped k)) ∙ next_start xs [] k p (omega (arith, within)) is ∙ ap (λ (ts : List Tally). start_for p [] k ∷ starts_for (drop (suc k) xs) ts) (none_dropped (suc k))
next_start (x ∷ xs) (t ∷ ts) (suc k) p within is = next_start xs ts k p (omega (arith, within)) is

-- the text so far, and that of the transactions from k on, are the whole
abbrev pub StartsPut : List ℕ → List Place → List Tally → ℕ → List ℕ → Type 0
StartsPut old places tallies k text = text ++ flat_map start_text (starts_for (drop k places) (drop k tallies)) ≡ old ++ flat_map start_text (starts_for places tallies)

pub starts_put : (old text new : List ℕ) (places : List Place) (tallies : List Tally) (k : ℕ) (p : Place) → k < length places → p ≡ get_or places k p → new ≡ text ++ start_text (start_for p tallies k) → StartsPut old places tallies k text → StartsPut old places tallies (k + 1) new
starts_put old text new places tallies k p within is new_is so_far =
    let rest = starts_for (drop (suc k) places) (drop (suc k) tallies) in
    ap (λ (n : ℕ). new ++ flat_map start_text (starts_for (drop n places) (drop n tallies))) (add-one k)
    ∙ ap (λ (xs : List ℕ). xs ++ flat_map start_text rest) new_is
    ∙ append_assoc text (start_text (start_for p tallies k)) (flat_map start_text rest)
    ∙ ap (λ (ss : List Start). text ++ flat_map start_text ss) (sym (next_start places tallies k p within is))
    ∙ so_far

pub length-starts_for : (places : List Place) (tallies : List Tally) → length (starts_for places tallies) ≡ length places
length-starts_for [] tallies = refl
length-starts_for (p ∷ ps) [] = omega (arith, length-starts_for ps [])
length-starts_for (p ∷ ps) (t ∷ ts) = omega (arith, length-starts_for ps ts)

-- the parts of a text, put one behind another
pub assembled : (a b c s r t0 t1 t2 t3 t4 t5 : List ℕ) → t0 ≡ [] → t1 ≡ t0 ++ a → t2 ≡ t1 ++ b → t3 ≡ t2 ++ c → t4 ≡ t3 ++ s → t5 ≡ t4 ++ r → t5 ≡ a ++ (b ++ (c ++ (s ++ r)))
assembled a b c s r t0 t1 t2 t3 t4 t5 e0 e1 e2 e3 e4 e5 = rw (e5, e4, e3, e2, e1, e0) (simp append_assoc refl)

-- where those from k on have room in their fields, all have
abbrev pub StartsSmall : List Place → List Tally → ℕ → Type 0
StartsSmall places tallies k = AllByRecursion IsSmallStart (starts_for (drop k places) (drop k tallies)) → AllByRecursion IsSmallStart (starts_for places tallies)

pub starts_small : (places : List Place) (tallies : List Tally) (k : ℕ) (p : Place) → k < length places → p ≡ get_or places k p → IsSmallStart (start_for p tallies k) → StartsSmall places tallies k → StartsSmall places tallies (k + 1)
starts_small places tallies k p within is small so_far rest =
    so_far (subst (λ (ss : List Start). AllByRecursion IsSmallStart ss) (sym (next_start places tallies k p within is))
    (small, subst (λ (n : ℕ). AllByRecursion IsSmallStart (starts_for (drop n places) (drop n tallies))) (add-one k) rest))

pub all_starts_small : (places : List Place) (tallies : List Tally) (k : ℕ) → length places ≤ k → StartsSmall places tallies k → AllByRecursion IsSmallStart (starts_for places tallies)
all_starts_small places tallies k done so_far = so_far (subst (λ (ps : List Place). AllByRecursion IsSmallStart (starts_for ps (drop k tallies))) (sym (drop_all k places done)) tt)

abbrev pub RecordsSmall : List Placed → ℕ → Type 0
RecordsSmall records k = AllByRecursion IsSmallRecord (drop k records) → AllByRecursion IsSmallRecord records

pub records_small : (records : List Placed) (k : ℕ) (r : Placed) → k < length records → r ≡ get_or records k r → IsSmallRecord r → RecordsSmall records k → RecordsSmall records (k + 1)
records_small records k r within is small so_far rest =
    so_far (subst (λ (rs : List Placed). AllByRecursion IsSmallRecord rs) (ap (λ (x : Placed). x ∷ drop (k + 1) records) is ∙ sym (drop_more records k r within)) (small, rest))

pub all_records_small : (records : List Placed) (k : ℕ) → length records ≤ k → RecordsSmall records k → AllByRecursion IsSmallRecord records
all_records_small records k done so_far = so_far (subst (λ (rs : List Placed). AllByRecursion IsSmallRecord rs) (sym (drop_all k records done)) tt)

-- the text with one record more
pub records_put : (old text new : List ℕ) (records : List Placed) (k : ℕ) (r : Placed) → k < length records → r ≡ get_or records k r → new ≡ text ++ record_text r → text ≡ old ++ flat_map record_text (take k records) → new ≡ old ++ flat_map record_text (take (k + 1) records)
records_put old text new records k r within is new_is so_far =
    new_is ∙ ap (λ (t : List ℕ). t ++ record_text r) so_far ∙ append_assoc old (flat_map record_text (take k records)) (record_text r)
    ∙ ap (λ (t : List ℕ). old ++ t) (ap (λ (t : List ℕ). flat_map record_text (take k records) ++ t) (sym (append-nil (record_text r))) ∙ sym (flat_map-append record_text (take k records) (r ∷ [])))
    ∙ ap (λ (rs : List Placed). old ++ flat_map record_text rs) (ap (λ (x : Placed). take k records ++ x ∷ []) is ∙ sym (take_more records k r within))
