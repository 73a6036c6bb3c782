-- The laws of payloads.
use Rattle.std.proofs.Common.{◌≡◌, ℕ, ◌*◌, ◌≤◌, ◌<◌, ◌≢◌, false, eqb, ltb, List, [], ◌∷◌, length, Some, None, refl, ap, ◌∙◌, arith}
use Rattle.std.proofs.lemmas.Bool.{eqb-false, ne_eqb, ltb-false, le-ltb}
use Rattle.std.proofs.lemmas.List.Elements.{recursion_from_All, All-from_recursion}
use Rattle.zb_ids.specs.Hex.{hex_text, bytes_at}
use Rattle.zb_ids.specs.HexLaws.{from_bind, bytes_take, bytes_again}
use Rattle.zb_script.specs.Payloads.{IsPayload}
use Rattle.zb_script.specs.Reading.{payload_at}
use Rattle.zb_script.proofs.Froms.{cond_none_some, cond_none}

length-hex_text : (bytes : List ℕ) → length (hex_text bytes) ≡ 2 * length bytes
length-hex_text [] = refl
length-hex_text (b ∷ bytes) = omega (arith, length-hex_text bytes)

pub record TakesPayload (text bytes : List ℕ) : Type 0 where
  pub is : IsPayload bytes
  pub fits : length bytes ≤ 67108864
  pub spelled : text ≡ hex_text bytes

payload_of_digits : (text bytes : List ℕ) → length text ≤ 134217728 → bytes_at text ≡ Some bytes → length bytes ≢ 0 → TakesPayload text bytes
payload_of_digits text bytes short e some =
    let t = bytes_take text bytes e in
    record {
      is = record { some = omega arith; are_bytes = All-from_recursion (λ b. b < 256) bytes t.1 };
      fits = omega (arith, length-hex_text bytes, ap length t.0);
      spelled = t.0;
    }

pub payload_takes : (text bytes : List ℕ) → payload_at text ≡ Some bytes → TakesPayload text bytes
unfolding payload_at
payload_takes text bytes e =
    let p = cond_none (ltb 134217728 (length text)) _ bytes e in
    let short : length text ≤ 134217728 = ltb-false _ _ p.0 in
    from_bind (bytes_at text) _ bytes p.1 (λ read at_read chosen.
    let g = cond_none_some (eqb (length read) 0) read bytes chosen in
    let is : bytes_at text ≡ Some bytes = at_read ∙ ap (λ (x : List ℕ). Some x) g.1 in
    let some : length bytes ≢ 0 = rw (← g.1) (eqb-false _ _ g.0) in
    payload_of_digits text bytes short is some)

pub payload_again : (bytes : List ℕ) → IsPayload bytes → length bytes ≤ 67108864 → payload_at (hex_text bytes) ≡ Some bytes
unfolding payload_at
payload_again bytes h fits =
    let short : ltb 134217728 (length (hex_text bytes)) ≡ false = le-ltb _ _ (omega (arith, length-hex_text bytes, fits)) in
    let some : eqb (length bytes) 0 ≡ false = ne_eqb _ _ (λ e. absurd (omega (arith, e, h.some))) in
    rw (short, bytes_again bytes (recursion_from_All (λ b. b < 256) bytes h.are_bytes), some) refl

-- no byte is no payload
pub none_read : (text bytes : List ℕ) → length text ≤ 134217728 → bytes_at text ≡ Some bytes → length bytes ≡ 0 → payload_at text ≡ None
unfolding payload_at
none_read text bytes short e none =
    let few = le-ltb 134217728 (length text) short in
    rw (few, e, none) refl
