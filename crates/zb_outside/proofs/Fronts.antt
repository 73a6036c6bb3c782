-- What a read from memory gives.
use Rattle.std.proofs.Common.{◌≡◌, ℕ, ◌+◌, ◌-◌, ◌≤◌, ◌<◌, min, List, [], ◌++◌, length, take, drop, sym, ap, ◌∙◌, arith, subst, take-append-drop, drop-drop, length-take, length-drop}
use Rattle.std.proofs.Math.Seq.{take-append_seam}
use Rattle.std.proofs.lemmas.List.{drop_all}

-- the front of what was left is what was copied to the front of the buffer
pub front_given : (bytes left copied behind : List ℕ) (at n : ℕ) → drop at bytes ≡ left → copied ≡ take n (drop at bytes)
    → n ≤ length bytes - at → left ≡ take n (copied ++ behind) ++ drop (at + n) bytes
front_given bytes left copied behind at n view is fits =
    let long : length copied ≡ n = ap length is ∙ omega (arith, length-take n (drop at bytes), length-drop at bytes) in
    let front : take n (copied ++ behind) ≡ copied = subst (λ (k : ℕ). take k (copied ++ behind) ≡ copied) long (take-append_seam copied behind) in
    sym view ∙ sym (take-append-drop n (drop at bytes)) ∙ ap (λ (l : List ℕ). l ++ drop n (drop at bytes)) (sym is ∙ sym front)
    ∙ ap (λ (l : List ℕ). take n (copied ++ behind) ++ l) (drop-drop n at bytes)

-- nothing is given only where nothing is left or there is no room
pub none_left : (bytes : List ℕ) (room at n : ℕ) → n ≡ min room (length bytes - at) → n ≡ 0 → 0 < room → drop (at + n) bytes ≡ []
none_left bytes room at n is none some = drop_all (at + n) bytes (omega arith)
