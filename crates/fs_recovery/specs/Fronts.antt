-- The first bytes of a file, as many as its transactions have or more, stand for the same list. Source: own.
use Rattle.std.proofs.Common.{◌≡◌, ◌⊎◌, inl, inr, ℕ, ◌+◌, ◌-◌, ◌^◌, ◌≤◌, Bool, true, false, cond, eqb, ltb, leb, List, ◌++◌, length, take, drop, Option, Some, None, refl, sym, ap, ◌∙◌, append_assoc, arith}
use Rattle.std.specs.Prelude.{not, ◌||◌}
use Rattle.std.proofs.lemmas.Bool.{cases_lt, lt-ltb, ltb-true, eqb-true, ne_eqb}
use Rattle.std.proofs.lemmas.List.{length-take, length-drop, length-append, drop-take, take-take, take-append-drop, take_at}
use Rattle.fs_records.specs.declared.header.Header.{Header}
use Rattle.fs_records.specs.declared.field.Field.TheVariants.{Status, Length, Closing, Tid}
use Rattle.fs_records.specs.declared.verdict.Verdict.{Verdict}
use Rattle.fs_records.specs.declared.verdict.Verdict.TheVariants.{Ends, Tail, Fault, Begun}
use Rattle.fs_records.specs.Numbers.{number_in}
use Rattle.fs_records.specs.Headers.{header_of}
use Rattle.fs_records.specs.HeaderLaws.{header_of-take}
use Rattle.fs_records.specs.Rules.{verdict, texts_length}
use Rattle.fs_records.specs.Blocks.{Reached, file_start, blocks_text, magic, Begins}
use Rattle.fs_records.specs.File.{IsReadAs, IsTail}
use Rattle.fs_records.specs.WriteLaws.{none_ends}

-- ---- the rules, of so many bytes with this header and this closing length

abbrev faults : ℕ → Header → ℕ → Verdict
faults newest h closing = cond (ltb h.length (23 + texts_length h)) (Fault Length) (cond (not (eqb closing h.length)) (Fault Closing) (cond (leb h.tid newest) (Fault Tid) (cond (eqb h.tid (2 ^ 64 - 1)) (Fault Tid) Begun)))

abbrev by_header : ℕ → ℕ → Header → ℕ → Verdict
by_header newest n h closing = cond (eqb h.status 99) Tail (cond (eqb h.status 0) Tail (cond (not (eqb h.status 32 || eqb h.status 112)) (Fault Status) (cond (ltb n (h.length + 8)) Tail (faults newest h closing))))

abbrev by_length : ℕ → ℕ → Header → ℕ → Verdict
by_length newest n h closing = cond (eqb n 0) Ends (cond (ltb n 23) Tail (by_header newest n h closing))

verdict_is : (newest : ℕ) (rest : List ℕ) → verdict newest rest ≡ by_length newest (length rest) (header_of rest) (number_in 8 (drop (header_of rest).length rest))
unfolding verdict
verdict_is newest rest = refl

no_tail : (a b c d : Bool) → cond a (Fault Length) (cond b (Fault Closing) (cond c (Fault Tid) (cond d (Fault Tid) Begun))) ≡ Tail → ⊥
no_tail true b c d h = cc
no_tail false true c d h = cc
no_tail false false true d h = cc
no_tail false false false true h = cc
no_tail false false false false h = cc

-- a tail stays one with fewer bytes
shorter_header : (status zero_status other long longer : Bool) (r s : Verdict) → (r ≡ Tail → ⊥) → (long ≡ true → longer ≡ true)
    → cond status Tail (cond zero_status Tail (cond other (Fault Status) (cond long Tail r))) ≡ Tail → cond status Tail (cond zero_status Tail (cond other (Fault Status) (cond longer Tail s))) ≡ Tail
shorter_header true zero_status other long longer r s apart more h = refl
shorter_header false true other long longer r s apart more h = refl
shorter_header false false true long longer r s apart more h = h
shorter_header false false false true longer r s apart more h = rw (more refl) refl
shorter_header false false false false longer r s apart more h = absurd (apart h)

behind : (a b : Bool) (r : Verdict) → a ≡ false → b ≡ false → cond a Ends (cond b Tail r) ≡ Tail → r ≡ Tail
behind a b r e f h = rw (e, f) at h

in_front : (a b : Bool) (r v : Verdict) → a ≡ false → b ≡ false → r ≡ v → cond a Ends (cond b Tail r) ≡ v
in_front a b r v e f h = rw (e, f) h

too_few : (a b : Bool) (r : Verdict) → a ≡ false → b ≡ true → cond a Ends (cond b Tail r) ≡ Tail
too_few a b r e f = rw (e, f) refl

nothing : (a : Bool) (r : Verdict) → a ≡ true → cond a Ends r ≡ Ends
nothing a r e = rw e refl

not_less : (a b : ℕ) → b ≤ a → ltb a b ≡ false
not_less a b h = by_cases (ltb a b) refl
  where
    by_cases : (t : Bool) → ltb a b ≡ t → ltb a b ≡ false
    by_cases true e = absurd (omega (arith, ltb-true a b e, h))
    by_cases false e = e

-- the same header, and fewer bytes that hold it
shorter_long : (newest n m : ℕ) (h : Header) (x y : ℕ) → 23 ≤ m → m ≤ n → by_length newest n h x ≡ Tail → by_length newest m h y ≡ Tail
shorter_long newest n m h x y long fewer tail =
    let t = behind (eqb n 0) (ltb n 23) (by_header newest n h x) (ne_eqb n 0 (λ e. absurd (omega (arith, e)))) (not_less n 23 (omega arith)) tail in
    in_front (eqb m 0) (ltb m 23) (by_header newest m h y) Tail (ne_eqb m 0 (λ e. absurd (omega (arith, e)))) (not_less m 23 long)
    (shorter_header (eqb h.status 99) (eqb h.status 0) (not (eqb h.status 32 || eqb h.status 112)) (ltb n (h.length + 8)) (ltb m (h.length + 8)) (faults newest h x) (faults newest h y)
    (no_tail (ltb h.length (23 + texts_length h)) (not (eqb x h.length)) (leb h.tid newest) (eqb h.tid (2 ^ 64 - 1)))
    (λ e. lt-ltb m (h.length + 8) (omega (arith, ltb-true n (h.length + 8) e))) t)

same_header : (m : ℕ) (rest : List ℕ) → 23 ≤ m → header_of (take m rest) ≡ header_of rest
same_header m rest long = sym (header_of-take (take m rest)) ∙ ap header_of (take-take 23 m rest long) ∙ header_of-take rest

-- the first bytes of a tail are one, or none
pub tail_shorter : (newest m : ℕ) (rest : List ℕ) → IsTail newest rest → (verdict newest (take m rest) ≡ Ends) ⊎ IsTail newest (take m rest)
tail_shorter newest m rest tail =
    let some = take m rest in
    let n = length some in
    let fewer : n ≤ length rest = omega (arith, length-take m rest) in
    let h = header_of some in
    let closing = number_in 8 (drop h.length some) in
    elim (cases_lt 0 n) [
      | inr none ↦ inl (verdict_is newest some ∙ nothing (eqb n 0) (cond (ltb n 23) Tail (by_header newest n h closing)) (let e : n ≡ 0 = omega arith in rw e refl))
      | inl any ↦ (elim (cases_lt n 23) [
        | inl few ↦ inr (verdict_is newest some ∙ too_few (eqb n 0) (ltb n 23) (by_header newest n h closing) (ne_eqb n 0 (λ e. absurd (omega (arith, e)))) (lt-ltb n 23 few))
        | inr many ↦ inr (
            let long : 23 ≤ m = omega (arith, length-take m rest) in
            let same : h ≡ header_of rest = same_header m rest long in
            verdict_is newest some ∙ ap (λ (x : Header). by_length newest n x closing) same
            ∙ shorter_long newest (length rest) n (header_of rest) (number_in 8 (drop (header_of rest).length rest)) closing many fewer (sym (verdict_is newest rest) ∙ tail))
      ])
    ]

no_ends : (a b c d : Bool) → cond a (Fault Length) (cond b (Fault Closing) (cond c (Fault Tid) (cond d (Fault Tid) Begun))) ≡ Ends → ⊥
no_ends true b c d h = cc
no_ends false true c d h = cc
no_ends false false true d h = cc
no_ends false false false true h = cc
no_ends false false false false h = cc

not_ends : (few status zero_status other long : Bool) (r : Verdict) → (r ≡ Ends → ⊥) → cond few Tail (cond status Tail (cond zero_status Tail (cond other (Fault Status) (cond long Tail r)))) ≡ Ends → ⊥
not_ends true status zero_status other long r apart h = cc
not_ends false true zero_status other long r apart h = cc
not_ends false false true other long r apart h = cc
not_ends false false false true long r apart h = cc
not_ends false false false false true r apart h = cc
not_ends false false false false false r apart h = apart h

past_none : (a : Bool) (r : Verdict) → a ≡ false → cond a Ends r ≡ Ends → r ≡ Ends
past_none a r e h = rw e at h

-- where nothing is left there are no bytes
ends_empty : (newest : ℕ) (rest : List ℕ) → verdict newest rest ≡ Ends → length rest ≡ 0
ends_empty newest rest e = by_cases (eqb (length rest) 0) refl (sym (verdict_is newest rest) ∙ e)
  where
    by_cases : (b : Bool) → eqb (length rest) 0 ≡ b → by_length newest (length rest) (header_of rest) (number_in 8 (drop (header_of rest).length rest)) ≡ Ends → length rest ≡ 0
    by_cases true is h = eqb-true _ _ is
    by_cases false is h = absurd (not_ends (ltb (length rest) 23) (eqb (header_of rest).status 99) (eqb (header_of rest).status 0) (not (eqb (header_of rest).status 32 || eqb (header_of rest).status 112)) (ltb (length rest) ((header_of rest).length + 8)) _ (no_ends _ _ _ _) (past_none (eqb (length rest) 0) _ is h))

-- ---- the blocks

pub begins_shorter : (bytes : List ℕ) (s : Reached) (n : ℕ) → s.end ≤ n → s.end ≤ length bytes → Begins bytes s → Begins (take n bytes) s
begins_shorter bytes s n enough within begins =
    let text = blocks_text file_start begins.blocks in
    let front : List ℕ = magic ++ text in
    let parts : bytes ≡ front ++ drop s.end bytes = begins.parts ∙ sym (append_assoc magic text (drop s.end bytes)) in
    let long : length front ≡ s.end = omega (arith, ap length parts, length-append front (drop s.end bytes), length-drop s.end bytes) in
    let kept : take s.end (take n bytes) ≡ front = take-take s.end n bytes enough ∙ ap (take s.end) parts ∙ take_at front (drop s.end bytes) s.end long in
    record {
      blocks = begins.blocks;
      are = begins.are;
      parts = sym (take-append-drop s.end (take n bytes)) ∙ ap (λ (x : List ℕ). x ++ drop s.end (take n bytes)) kept ∙ append_assoc magic text (drop s.end (take n bytes));
      is = begins.is;
    }

rest_shorter : (bytes : List ℕ) (s : Reached) (n : ℕ) → s.end ≤ n → drop s.end (take n bytes) ≡ take (n - s.end) (drop s.end bytes)
rest_shorter bytes s n enough =
    let e : s.end + (n - s.end) ≡ n = omega arith in
    ap (λ (k : ℕ). drop s.end (take k bytes)) (sym e) ∙ drop-take s.end (n - s.end) bytes

pub stands_shorter : (bytes : List ℕ) (s : Reached) (cut : Option ℕ) (n : ℕ) → s.end ≤ n → s.end ≤ length bytes → IsReadAs bytes s cut → (k : Option ℕ) × IsReadAs (take n bytes) s k
stands_shorter bytes s None n enough within stands =
    let rest = rest_shorter bytes s n enough in
    let none = ends_empty s.newest (drop s.end bytes) stands.ends in
    (None, record { begins = begins_shorter bytes s n enough within stands.begins; ends = ap (verdict s.newest) rest ∙ none_ends s.newest (take (n - s.end) (drop s.end bytes)) (omega (arith, length-take (n - s.end) (drop s.end bytes), none)) })
stands_shorter bytes s (Some at) n enough within stands =
    let rest = rest_shorter bytes s n enough in
    let begins = begins_shorter bytes s n enough within stands.begins in
    elim (tail_shorter s.newest (n - s.end) (drop s.end bytes) stands.ends.0) [
      | inl ends ↦ (None, record { begins = begins; ends = ap (verdict s.newest) rest ∙ ends })
      | inr tail ↦ (Some s.end, record { begins = begins; ends = (ap (verdict s.newest) rest ∙ tail, refl) })
    ]
