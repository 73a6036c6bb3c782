-- Where a file ends that has no tail, for the proofs of those who open files.
use Rattle.std.proofs.Common.{◌≡◌, ℕ, ◌+◌, ◌-◌, ◌^◌, List, [], ◌++◌, None, Bool, true, false, cond, drop, take, length, refl, sym, ap, ◌∙◌}
use Rattle.std.specs.Prelude.{◌==◌, ◌||◌, not, nat_lt, nat_le}
use Rattle.std.proofs.lemmas.Bool.{eqb-true}
use Rattle.std.proofs.lemmas.List.{append-nil, nil_from_length, take-append-drop}
use Rattle.fs_records.specs.Blocks.{Reached}
use Rattle.fs_records.specs.File.{IsReadAs}
use Rattle.fs_records.specs.Headers.{header_of}
use Rattle.fs_records.specs.Numbers.{number_in}
use Rattle.fs_records.specs.Rules.{texts_length, verdict}
use Rattle.fs_records.specs.declared.field.Field.TheVariants as fields
use Rattle.fs_records.specs.declared.verdict.Verdict.{Verdict}
use Rattle.fs_records.specs.declared.verdict.Verdict.TheVariants.{Ends, Tail, Fault, Begun}

apart : (test : Bool) (v w : Verdict) → (v ≡ Ends → ⊥) → (w ≡ Ends → ⊥) → cond test v w ≡ Ends → ⊥
apart true v w a b e = a e
apart false v w a b e = b e

is_none : (test : Bool) (w : Verdict) → (w ≡ Ends → ⊥) → cond test Ends w ≡ Ends → test ≡ true
is_none true w a e = refl
is_none false w a e = absurd (a e)

-- where the rules find the end, there are no more bytes
pub nothing_behind : (newest : ℕ) (rest : List ℕ) → verdict newest rest ≡ Ends → rest ≡ []
unfolding verdict
nothing_behind newest rest ends =
    let h = header_of rest in
    let p8 = apart (h.tid == 2 ^ 64 - 1) (Fault fields.Tid) Begun (λ x. cc) (λ x. cc) in
    let p7 = apart (nat_le h.tid newest) (Fault fields.Tid) _ (λ x. cc) p8 in
    let p6 = apart (not (number_in 8 (drop h.length rest) == h.length)) (Fault fields.Closing) _ (λ x. cc) p7 in
    let p5 = apart (nat_lt h.length (23 + texts_length h)) (Fault fields.Length) _ (λ x. cc) p6 in
    let p4 = apart (nat_lt (length rest) (h.length + 8)) Tail _ (λ x. cc) p5 in
    let p3 = apart (not (h.status == 32 || h.status == 112)) (Fault fields.Status) _ (λ x. cc) p4 in
    let p2 = apart (h.status == 0) Tail _ (λ x. cc) p3 in
    let p1 = apart (h.status == 99) Tail _ (λ x. cc) p2 in
    let p0 = apart (nat_lt (length rest) 23) Tail _ (λ x. cc) p1 in
    nil_from_length rest (eqb-true _ _ (is_none (length rest == 0) _ p0 ends))

-- a file without a tail ends where what was reached of it ends
pub whole_end : (bytes : List ℕ) (s : Reached) → IsReadAs bytes s None → take s.end bytes ≡ bytes
whole_end bytes s stands =
    sym (append-nil (take s.end bytes)) ∙ ap (λ (x : List ℕ). take s.end bytes ++ x) (sym (nothing_behind s.newest (drop s.end bytes) stands.ends)) ∙ take-append-drop s.end bytes
