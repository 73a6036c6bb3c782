-- The loop that looks for a blank outside quotes.
use Rattle.std.proofs.Common.{◌≡◌, ℕ, ◌+◌, ◌<◌, ◌≤◌, true, false, List, [], ◌∷◌, ◌++◌, length, get_or, take, drop, Option, Some, None, refl, sym, ◌∙◌}
use Rattle.std.proofs.lemmas.List.{drop_more, take_more, drop_all}
use Rattle.zb_script.specs.declared.words.Place.{Place}
use Rattle.zb_script.specs.Reading.{step, is_gap, gap_from}

pub gap_found : (place : Place) (bytes : List ℕ) (i : ℕ) (total : Option (List ℕ × List ℕ)) → i < length bytes → is_gap place (get_or bytes i 0) ≡ true
    → gap_from place (take i bytes) (drop i bytes) ≡ total → total ≡ Some (take i bytes, drop (i + 1) bytes)
gap_found place bytes i total h gap so_far =
    let one : gap_from place (take i bytes) (drop i bytes) ≡ Some (take i bytes, drop (i + 1) bytes) = rw (drop_more bytes i 0 h, gap) refl in
    sym so_far ∙ one

pub gap_passed : (place next : Place) (bytes : List ℕ) (i : ℕ) (total : Option (List ℕ × List ℕ)) → i < length bytes → is_gap place (get_or bytes i 0) ≡ false
    → next ≡ step place (get_or bytes i 0) → gap_from place (take i bytes) (drop i bytes) ≡ total → gap_from next (take (i + 1) bytes) (drop (i + 1) bytes) ≡ total
gap_passed place next bytes i total h gap is so_far =
    let one : gap_from place (take i bytes) (drop i bytes) ≡ gap_from (step place (get_or bytes i 0)) (take i bytes ++ get_or bytes i 0 ∷ []) (drop (i + 1) bytes) = rw (drop_more bytes i 0 h, gap) refl in
    rw (is, take_more bytes i 0 h) (sym one ∙ so_far)

pub gap_none : (place : Place) (bytes : List ℕ) (i : ℕ) (total : Option (List ℕ × List ℕ)) → length bytes ≤ i → gap_from place (take i bytes) (drop i bytes) ≡ total → total ≡ None
gap_none place bytes i total h so_far =
    let one : gap_from place (take i bytes) (drop i bytes) ≡ None = rw (drop_all i bytes h) refl in
    sym so_far ∙ one
