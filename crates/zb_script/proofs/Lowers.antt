-- The loop over the tids of an undo.
use Rattle.std.proofs.Common.{◌≡◌, ℕ, suc, ◌+◌, ◌-◌, ◌<◌, ◌≤◌, true, false, cond, List, [], ◌∷◌, ◌++◌, length, Option, Some, None, refl, sym, ap, ◌∙◌, append_assoc, append-nil, arith}
use Rattle.std.specs.Prelude.{◌==◌}
use Rattle.zb_ids.specs.Hex.{◌>>=◌}
use Rattle.zb_ids.specs.HexLaws.{behind_prefix}
use Rattle.zb_script.specs.Reading.{lower_at, lowers_at}

onto_one : (front : List ℕ) (tid : ℕ) (read : Option (List ℕ)) → behind_prefix front (read >>= λ tids. Some (tid ∷ tids)) ≡ behind_prefix (front ++ tid ∷ []) read
onto_one front tid (Some tids) = ap (λ (x : List ℕ). Some x) (sym (append_assoc front (tid ∷ []) tids))
onto_one front tid None = refl

one_less : (n i : ℕ) → i < n → n - i ≡ suc (n - (i + 1))
one_less n i h = omega (arith, h)

pub lower_more : (front : List ℕ) (n i bound tid : ℕ) (rest more : List ℕ) (total : Option (List ℕ)) → i < n → lower_at bound rest ≡ Some (tid, more)
    → behind_prefix front (lowers_at (n - i) bound rest) ≡ total → behind_prefix (front ++ tid ∷ []) (lowers_at (n - (i + 1)) tid more) ≡ total
unfolding lowers_at
lower_more front n i bound tid rest more total h e so_far =
    let one : lowers_at (suc (n - (i + 1))) bound rest ≡ (lowers_at (n - (i + 1)) tid more >>= λ tids. Some (tid ∷ tids)) = rw e refl in
    let here : lowers_at (n - i) bound rest ≡ lowers_at (suc (n - (i + 1))) bound rest = ap (λ (k : ℕ). lowers_at k bound rest) (one_less n i h) in
    sym (onto_one front tid (lowers_at (n - (i + 1)) tid more)) ∙ ap (behind_prefix front) (sym (here ∙ one)) ∙ so_far

pub lower_refused : (front : List ℕ) (n i bound : ℕ) (rest : List ℕ) (total : Option (List ℕ)) → i < n → lower_at bound rest ≡ None
    → behind_prefix front (lowers_at (n - i) bound rest) ≡ total → total ≡ None
unfolding lowers_at
lower_refused front n i bound rest total h e so_far =
    let one : lowers_at (suc (n - (i + 1))) bound rest ≡ None = rw e refl in
    let here : lowers_at (n - i) bound rest ≡ lowers_at (suc (n - (i + 1))) bound rest = ap (λ (k : ℕ). lowers_at k bound rest) (one_less n i h) in
    sym so_far ∙ ap (behind_prefix front) (here ∙ one)

at_end : (n i : ℕ) (bound : ℕ) (rest : List ℕ) → n ≤ i → lowers_at (n - i) bound rest ≡ cond (length rest == 0) (Some []) None
unfolding lowers_at
at_end n i bound rest h = let none : n - i ≡ 0 = omega (arith, h) in rw none refl

pub lowers_done : (front : List ℕ) (n i bound : ℕ) (rest : List ℕ) (total : Option (List ℕ)) → n ≤ i → (length rest == 0) ≡ true
    → behind_prefix front (lowers_at (n - i) bound rest) ≡ total → total ≡ Some front
lowers_done front n i bound rest total h e so_far =
    let one : lowers_at (n - i) bound rest ≡ Some [] = at_end n i bound rest h ∙ rw e refl in
    sym so_far ∙ ap (behind_prefix front) one ∙ ap (λ (x : List ℕ). Some x) (append-nil front)

pub lowers_left : (front : List ℕ) (n i bound : ℕ) (rest : List ℕ) (total : Option (List ℕ)) → n ≤ i → (length rest == 0) ≡ false
    → behind_prefix front (lowers_at (n - i) bound rest) ≡ total → total ≡ None
lowers_left front n i bound rest total h e so_far =
    let one : lowers_at (n - i) bound rest ≡ None = at_end n i bound rest h ∙ rw e refl in
    sym so_far ∙ ap (behind_prefix front) one
