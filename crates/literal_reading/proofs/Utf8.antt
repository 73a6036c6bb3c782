-- Whether bytes are UTF-8, as std tests it.
use Rattle.std.proofs.Common.{◌≡◌, List, ℕ, Bool, true, false, refl}
use Rattle.std.specs.Str.{IsUtf8, is_utf8}
use Rattle.std.proofs.lemmas.Str.{IsUtf8-from_is_utf8, is_utf8-from_IsUtf8}

pub is_text : (bytes : List ℕ) → IsUtf8 bytes → is_utf8 bytes ≡ true
is_text bytes utf8 = is_utf8-from_IsUtf8 bytes utf8

pub is_no_text : (bytes : List ℕ) → ¬ (IsUtf8 bytes) → is_utf8 bytes ≡ false
is_no_text bytes other = by_test (is_utf8 bytes) (IsUtf8-from_is_utf8 bytes)
  where
    by_test : (test : Bool) → (test ≡ true → IsUtf8 bytes) → test ≡ false
    by_test true is = absurd (other (is refl))
    by_test false is = refl
