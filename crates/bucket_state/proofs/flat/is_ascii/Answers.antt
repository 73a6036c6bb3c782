-- Bytes below 128 are UTF-8.
use Rattle.std.proofs.Common.{◌≡◌, ℕ, ◌<◌, ◌≤◌, List, length, get_or, true, IsTrue, nat_lt, arith, inl, inr}
use Rattle.std.proofs.lemmas.List.{get_or_past}
use Rattle.std.proofs.lemmas.Bool.{cases_lt, ltb-true}
use Rattle.std.proofs.lemmas.Str.{IsUtf8-from_ascii, is_utf8-from_IsUtf8}
use Rattle.std.specs.Str.{is_utf8}
use Rattle.bucket_state.proofs.flat.is_ascii.Goals as goal

text_of : (bytes : List ℕ) (n most : ℕ) → IsTrue (nat_lt most 128) → length bytes ≤ n → ((i : ℕ) → i < n → get_or bytes i 0 ≤ most) → is_utf8 bytes ≡ true
text_of bytes n most low all each =
    is_utf8-from_IsUtf8 bytes (IsUtf8-from_ascii bytes (λ i. elim (cases_lt i n) [
      | inl l ↦ let e = each i l in let f = ltb-true most 128 low in omega (arith, e, f)
      | inr r ↦ let e = get_or_past bytes i 0 (omega (arith, all, r)) in omega (arith, e)
    ]))

pub returns : goal.returns
returns c = λ h. text_of c.args.bytes.now c.loop-byte.byte-index c.loop-byte.most h (let e = c.loop-byte-test.false in omega (arith, e)) c.loop-byte.invariant
