-- What a record's content says of where it stands.
use Rattle.std.proofs.Common.{◌≡◌, ◌≢◌, ℕ, ◌+◌, ◌<◌, ◌≤◌, List, length, take, drop, refl, arith}
use Rattle.std.proofs.lemmas.Bool.{ne_eqb}
use Rattle.zb_model.specs.declared.data.Content.{Content}
use Rattle.zb_model.specs.declared.data.Content.TheVariants.{Held, Absent}
use Rattle.fs_records.specs.Rules.{payload_size}
use Rattle.fs_reading.specs.Standing.{data_head_at, back_at, HasPayload, IsContent, held, absent, earlier}

pub whole : (bytes : List ℕ) (content : Content) (at : ℕ) → IsContent bytes content at → HasPayload bytes at
whole bytes content _ (held at w some is) = w
whole bytes content _ (absent at w none back is) = w
whole bytes content _ (earlier at w none back before more) = w

pub head_within : (bytes : List ℕ) (content : Content) (at : ℕ) → IsContent bytes content at → at + 42 ≤ length bytes
head_within bytes content at is = let w = whole bytes content at is in omega arith

pub pointer_within : (bytes : List ℕ) (content : Content) (at : ℕ) → IsContent bytes content at → (data_head_at bytes at).length ≡ 0 → at + 42 + 8 ≤ length bytes
pointer_within bytes content at is none =
    let size : payload_size (data_head_at bytes at) ≡ 8 = rw none refl in
    let w = whole bytes content at is in omega arith

pub when_absent : (bytes : List ℕ) (content : Content) (at : ℕ) → IsContent bytes content at → (data_head_at bytes at).length ≡ 0 → back_at bytes at ≡ 0 → content ≡ Absent
when_absent bytes content _ (held at w some is) none zero = absurd (some none)
when_absent bytes content _ (absent at w n back is) none zero = is
when_absent bytes content _ (earlier at w n back before more) none zero = absurd (back zero)

pub when_earlier : (bytes : List ℕ) (content : Content) (at : ℕ) → IsContent bytes content at → (data_head_at bytes at).length ≡ 0 → back_at bytes at ≢ 0 → (back_at bytes at < at) × IsContent bytes content (back_at bytes at)
when_earlier bytes content _ (held at w some is) none apart = absurd (some none)
when_earlier bytes content _ (absent at w n back is) none apart = absurd (apart back)
when_earlier bytes content _ (earlier at w n back before more) none apart = (before, more)

pub when_held : (bytes : List ℕ) (content : Content) (at : ℕ) → IsContent bytes content at → (data_head_at bytes at).length ≢ 0
    → (content ≡ Held (take (data_head_at bytes at).length (drop (at + 42) bytes))) × (at + 42 + (data_head_at bytes at).length ≤ length bytes)
when_held bytes content _ (held at w some is) apart =
    let size : payload_size (data_head_at bytes at) ≡ (data_head_at bytes at).length = rw (ne_eqb _ 0 some) refl in
    (is, omega arith)
when_held bytes content _ (absent at w n back is) apart = absurd (apart n)
when_held bytes content _ (earlier at w n back before more) apart = absurd (apart n)
