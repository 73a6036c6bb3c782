-- What is not finished behind what was read is cut off: the file stands for the same list. Source: own.
use Rattle.std.proofs.Common.{◌≡◌, ◌⊎◌, inl, inr, ℕ, ◌<◌, ◌≤◌, true, false, eqb, ltb, List, ◌++◌, length, get_or, take, drop, Some, None, refl, ap, ◌∙◌, arith}
use Rattle.std.proofs.lemmas.Bool.{eq-eqb, ne_eqb, lt-ltb, le-ltb, cases_lt, cases_eq}
use Rattle.fs_records.specs.declared.verdict.Verdict.TheVariants.{Ends, Tail}
use Rattle.fs_records.specs.Headers.{header_of}
use Rattle.fs_records.specs.Blocks.{Reached, Begins}
use Rattle.fs_records.specs.Rules.{verdict}
use Rattle.fs_records.specs.WriteLaws.{behind_read, begins_with, none_ends, voted_is_tail}
use Rattle.fs_append.specs.Appending.{IsStillRead}

-- The status is that of a vote, or 0, as where its byte was not written yet or where there is none.
abbrev pub IsUnfinished : ℕ → Type 0
IsUnfinished status = (status ≡ 99) ⊎ (status ≡ 0)

unwritten_is_tail : (newest : ℕ) (rest : List ℕ) → 23 ≤ length rest → get_or rest 16 0 ≡ 0 → verdict newest rest ≡ Tail
unfolding verdict header_of
unwritten_is_tail newest rest long is =
    let some : eqb (length rest) 0 ≡ false = ne_eqb _ _ (omega arith) in
    let enough : ltb (length rest) 23 ≡ false = le-ltb _ _ long in
    let not : eqb (get_or rest 16 0) 99 ≡ false = ne_eqb _ _ (omega (arith, is)) in
    let blank : eqb (get_or rest 16 0) 0 ≡ true = eq-eqb _ _ is in
    rw (some, enough, not, blank) refl

too_few_are_tail : (newest : ℕ) (rest : List ℕ) → 0 < length rest → length rest < 23 → verdict newest rest ≡ Tail
unfolding verdict
too_few_are_tail newest rest any few =
    let some : eqb (length rest) 0 ≡ false = ne_eqb _ _ (omega arith) in
    let short : ltb (length rest) 23 ≡ true = lt-ltb _ _ (omega arith) in
    rw (some, short) refl

-- a rest that is not finished is nothing, or a tail
pub unfinished_verdict : (newest : ℕ) (rest : List ℕ) → IsUnfinished (get_or rest 16 0) → (verdict newest rest ≡ Ends) ⊎ (verdict newest rest ≡ Tail)
unfinished_verdict newest rest status =
    elim (cases_lt (length rest) 23) [
      | inl few ↦ (elim (cases_eq (length rest) 0) [
        | inl none ↦ inl (none_ends newest rest none)
        | inr some ↦ inr (too_few_are_tail newest rest (omega arith) few)
      ])
      | inr long ↦ inr (elim status [ inl voted ↦ voted_is_tail newest rest long voted | inr blank ↦ unwritten_is_tail newest rest long blank ])
    ]

-- and the bytes before it stand for what was read of them
pub rest_stands : (bytes : List ℕ) (s : Reached) (rest : List ℕ) → Begins bytes s → IsUnfinished (get_or rest 16 0) → IsStillRead s (take s.end bytes ++ rest)
rest_stands bytes s rest begins status =
    let same = begins_with bytes s rest begins in
    let is : verdict s.newest (drop s.end (take s.end bytes ++ rest)) ≡ verdict s.newest rest = ap (verdict s.newest) (behind_read bytes s rest begins) in
    elim (unfinished_verdict s.newest rest status) [
      | inl ends ↦ (None, record { begins = same; ends = is ∙ ends })
      | inr tail ↦ (Some s.end, record { begins = same; ends = (is ∙ tail, refl) })
    ]
