-- What has to be put into new bytes to have the old ones.
use Rattle.std.proofs.Common.{◌≡◌, ℕ, ◌+◌, ◌<◌, List, ◌∷◌, ◌++◌, length, min, sym, ap, ◌∙◌}
use Rattle.std.specs.Prelude.{take, drop, get_or}
use Rattle.std.proofs.lemmas.List.{append_assoc, drop-drop, drop_min, drop_more, take-append-drop, take_min}

pub cut_undone : (old new old_rest new_rest gone : List ℕ) (at k n : ℕ) → take at old ≡ take at new → old_rest ≡ drop at old → new_rest ≡ drop at new → gone ≡ take k old_rest → drop k old_rest ≡ drop n new_rest
    → take at new ++ (gone ++ drop (at + n) new) ≡ old
cut_undone old new old_rest new_rest gone at k n front old_is new_is gone_is back =
    let end : drop (at + n) new ≡ drop k old_rest = sym (drop-drop n at new) ∙ ap (drop n) (sym new_is) ∙ sym back in
    let rest : gone ++ drop (at + n) new ≡ drop at old = ap (λ (xs : List ℕ). gone ++ xs) end ∙ ap (λ (xs : List ℕ). xs ++ drop k old_rest) gone_is ∙ take-append-drop k old_rest ∙ old_is in
    ap (λ (xs : List ℕ). xs ++ (gone ++ drop (at + n) new)) (sym front) ∙ ap (λ (xs : List ℕ). take at old ++ xs) rest ∙ take-append-drop at old

-- one byte more at the ends
pub end_more : (old new : List ℕ) (i j d : ℕ) → i < length old → j < length new → get_or old i d ≡ get_or new j d → drop (i + 1) old ≡ drop (j + 1) new → drop i old ≡ drop j new
end_more old new i j d within_old within_new same rest =
    drop_more old i d within_old ∙ ap (λ (n : ℕ). n ∷ drop (i + 1) old) same ∙ ap (λ (xs : List ℕ). get_or new j d ∷ xs) rest ∙ sym (drop_more new j d within_new)

-- bytes with others in the place of a piece of them
pub spliced_at : (bytes gone rest : List ℕ) (at n front skipped : ℕ) → front ≡ min at (length bytes) → rest ≡ drop front bytes → skipped ≡ min n (length rest)
    → (take front bytes ++ gone) ++ drop skipped rest ≡ take at bytes ++ (gone ++ drop (at + n) bytes)
spliced_at bytes gone rest at n front skipped front_is rest_is skipped_is =
    let first : take front bytes ≡ take at bytes = ap (λ (k : ℕ). take k bytes) front_is ∙ take_min at bytes in
    let end : drop skipped rest ≡ drop (at + n) bytes =
    ap (λ (k : ℕ). drop k rest) skipped_is ∙ drop_min n rest ∙ ap (drop n) (rest_is ∙ ap (λ (k : ℕ). drop k bytes) front_is ∙ drop_min at bytes) ∙ drop-drop n at bytes in
    append_assoc (take front bytes) gone (drop skipped rest)
    ∙ ap (λ (xs : List ℕ). xs ++ (gone ++ drop skipped rest)) first
    ∙ ap (λ (xs : List ℕ). take at bytes ++ (gone ++ xs)) end
