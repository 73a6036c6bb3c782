-- What the first bytes of a data record say of it.
use Rattle.std.proofs.Common.{◌≡◌, ℕ, ◌+◌, ◌-◌, ◌<◌, ◌≤◌, List, take, drop, sym, ap, ◌∙◌, arith}
use Rattle.std.proofs.lemmas.List.{drop-drop, drop-take, take-take}
use Rattle.zb_model.specs.declared.data.Content.{Content}
use Rattle.zb_model.specs.declared.data.Content.TheVariants.{Held}
use Rattle.fs_records.specs.declared.header.DataHeader.{DataHeader}
use Rattle.fs_records.specs.Headers.{data_header_of}
use Rattle.fs_records.specs.HeaderLaws.{data_header_of-take}
use Rattle.fs_reading.specs.Standing.{data_head_at, IsContent}
use Rattle.fs_reading.proofs.Chains.{when_held}

-- the n bytes from k on are among the first ones
inner : (k n count : ℕ) (xs : List ℕ) → k + n ≤ count → take n (drop k (take count xs)) ≡ take n (drop k xs)
inner k n count xs h =
    let e : k + (count - k) ≡ count = omega arith in
    ap (λ (c : ℕ). take n (drop k (take c xs))) (sym e) ∙ ap (take n) (drop-take k (count - k) xs) ∙ take-take n (count - k) (drop k xs) (omega arith)

-- its header
pub head_in : (front bytes : List ℕ) (at count : ℕ) → 42 ≤ count → take count front ≡ take count (drop at bytes) → data_header_of front ≡ data_head_at bytes at
head_in front bytes at count long same =
    let first : take 42 front ≡ take 42 (drop at bytes) = sym (take-take 42 count front long) ∙ ap (take 42) same ∙ take-take 42 count (drop at bytes) long in
    sym (data_header_of-take front) ∙ ap data_header_of first ∙ data_header_of-take (drop at bytes)

-- its content
pub held_in : (front bytes : List ℕ) (at count : ℕ) (content : Content) (h : DataHeader) → 42 + h.length ≤ count → 0 < h.length → take count front ≡ take count (drop at bytes) → h ≡ data_head_at bytes at
    → IsContent bytes content at → Held (take h.length (drop 42 front)) ≡ content
held_in front bytes at count content h long some same is there =
    let len : h.length ≡ (data_head_at bytes at).length = ap (λ (x : DataHeader). x.length) is in
    let c = when_held bytes content at there (λ zero. absurd (omega (arith, some, len, zero))) in
    ap (λ (x : List ℕ). Held x)
    (sym (inner 42 h.length count front long) ∙ ap (λ (x : List ℕ). take h.length (drop 42 x)) same ∙ inner 42 h.length count (drop at bytes) long
    ∙ ap (take h.length) (drop-drop 42 at bytes) ∙ ap (λ (n : ℕ). take n (drop (at + 42) bytes)) len)
    ∙ sym c.0
