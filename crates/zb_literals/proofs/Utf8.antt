-- Which literal bytes have.
use Rattle.std.proofs.Common.{◌≡◌, List, ℕ, Bool, true, false, cond, refl}
use Rattle.std.specs.Str.{IsUtf8, is_utf8}
use Rattle.std.proofs.lemmas.Str.{IsUtf8-from_is_utf8, is_utf8-from_IsUtf8}
use Rattle.zb_literals.specs.Texts.{bytes_text, quoted_text, text_literal}

pub as_text : (bytes : List ℕ) → IsUtf8 bytes → text_literal bytes ≡ quoted_text bytes
as_text bytes utf8 = rw (is_utf8-from_IsUtf8 bytes utf8) refl

pub as_bytes : (bytes : List ℕ) → ¬ (IsUtf8 bytes) → text_literal bytes ≡ bytes_text bytes
as_bytes bytes other = by_test (is_utf8 bytes) (IsUtf8-from_is_utf8 bytes)
  where
    by_test : (test : Bool) → (test ≡ true → IsUtf8 bytes) → cond test (quoted_text bytes) (bytes_text bytes) ≡ bytes_text bytes
    by_test true is = absurd (other (is refl))
    by_test false is = refl
