-- A crash over one content more leaves the first bytes in which that is like the old one. Source: own.
use Rattle.std.proofs.Common.{◌≡◌, ◌⊎◌, inl, inr, ⊎_elim, ℕ, ◌<◌, ◌≤◌, List, [], ◌∷◌, length, get_or, take, sym, ◌∙◌, ap, arith}
use Rattle.std.proofs.lemmas.List.{ext_get_or, get_or-take, length-take}
use Rattle.zb_volume.specs.Images.{IsImage, MayRead}
use Rattle.fs_append.specs.Appending.{HasFront}

either_byte : (old new c : List ℕ) (k : ℕ) → MayRead old (new ∷ []) k (get_or c k 0) → (get_or c k 0 ≡ get_or old k 0) ⊎ (get_or c k 0 ≡ get_or new k 0)
either_byte old new c k may = ⊎_elim (λ was. inl was) (λ had. ⊎_elim (λ is. inr is.1) (λ none. absurd none) had) may

-- where the first bytes are the same, those of a mix are
pub front_kept : (n : ℕ) (old new c : List ℕ) → n ≤ length old → n ≤ length new → take n new ≡ take n old → IsImage old (new ∷ []) c → HasFront n old c
front_kept n old new c old_long new_long same image =
    let long : n ≤ length c = omega (arith, image.no_shorter, old_long, new_long) in
    let new_byte : (k : ℕ) → k < n → get_or new k 0 ≡ get_or old k 0 = λ k h. sym (get_or-take n new k 0 h) ∙ ap (λ (l : List ℕ). get_or l k 0) same ∙ get_or-take n old k 0 h in
    ext_get_or 0 (take n c) (take n old)
    (omega (arith, length-take n c, length-take n old, long, old_long))
    (λ k h. let within : k < n = omega (arith, length-take n c, h) in
    get_or-take n c k 0 within
    ∙ ⊎_elim (λ was. was) (λ is. is ∙ new_byte k within) (either_byte old new c k (image.bytes k (omega (arith, long, within))))
    ∙ sym (get_or-take n old k 0 within))
