-- Texts as tokens, and what a reader makes of them, whatever follows.
use Rattle.std.proofs.Common.{◌≡◌, ℕ, zero, suc, ◌+◌, ◌-◌, ◌<◌, ◌≤◌, ℤ, pos, true, false, cond, List, [], ◌∷◌, ◌++◌, length, take, drop, Result, Ok, refl, sym, arith, ◌∙◌, ap, append_assoc, length-append}
use Rattle.std.proofs.lemmas.List.{take_at, drop_at}
use Rattle.pickle_ops.specs.declared.table.Op.{Op}
use Rattle.pickle_ops.specs.declared.table.Op.TheVariants as ops
use Rattle.pickle_ops.specs.declared.table.Kind.TheVariants as args
use Rattle.pickle_ops.specs.declared.token.Token.{Token}
use Rattle.pickle_ops.specs.Tokens.{token_at}
use Rattle.pickle_ops.specs.Grammar.{IsToken}
use Rattle.pickle_ops.specs.Laws.{SpelledIsRead}
use Rattle.pickle_reading.specs.declared.error.PickleError.{PickleError}
use Rattle.pickle_reading.specs.Reading.{Reader, read_from, after_token, is_stop, bytes_of, go_on}

-- the text spells a token that does not stop, and ends with its bytes
pub record Spells (text : List ℕ) (op : Op) (number : ℤ) (held : List ℕ) : Type 0 where
  pub token : IsToken text op number held
  pub front : List ℕ
  pub split : text ≡ front ++ held
  pub on : is_stop op ≡ false

-- a token with its text
pub record Tok : Type 0 where
  pub text : List ℕ
  pub op : Op
  pub number : ℤ
  pub held : List ℕ
  pub spells : Spells text op number held

-- the text of tokens, one behind the other
abbrev pub texts : List Tok → List ℕ
texts [] = []
texts (t ∷ ts) = t.text ++ texts ts

pub texts_append : (ts us : List Tok) → texts (ts ++ us) ≡ texts ts ++ texts us
texts_append [] us = refl
texts_append (t ∷ ts) us = ap (λ x. t.text ++ x) (texts_append ts us) ∙ sym (append_assoc t.text (texts ts) (texts us))

abbrev token_of : ℕ → List ℕ → Op → ℤ → List ℕ → Token
token_of at text op number held = record { op = op; number = number; start = at + (length text - length held); length = length held }

held_bytes : (at : ℕ) (text front held tail : List ℕ) → text ≡ front ++ held → take (length held) (drop (at + (length text - length held) - at) (text ++ tail)) ≡ held
held_bytes at text front held tail e =
    let n : length front ≡ at + (length text - length held) - at = omega (arith, ap length e, length-append front held) in
    let whole : text ++ tail ≡ front ++ (held ++ tail) = ap (λ (l : List ℕ). l ++ tail) e ∙ append_assoc front held tail in
    ap (λ (l : List ℕ). take (length held) (drop (at + (length text - length held) - at) l)) whole
    ∙ ap (take (length held)) (drop_at front (held ++ tail) (at + (length text - length held) - at) n) ∙ take_at held tail (length held) refl

token_some : (text : List ℕ) (op : Op) (number : ℤ) (held : List ℕ) → IsToken text op number held → 0 < length text
token_some text op number held t = let e = ap length t.spelled in omega (arith, e)

-- what a reader makes of tokens and a STOP behind them
abbrev pub run : {S X : Type 0} → Reader S X → List Tok → S → ℕ → Result X PickleError
run r [] s at = r.finish at (at + 1) s
run r (t ∷ ts) s at = go_on (λ s'. run r ts s' (at + length t.text)) (r.turn t.op at t.number t.held s)

module _ {S X : Type 0} (r : Reader S X) where
  -- the bytes that are left of a token are passed over
  skipped : (skip : ℕ) (s : S) (at : ℕ) (bytes : List ℕ) → skip ≤ length bytes → read_from r skip s at bytes ≡ read_from r 0 s (at + skip) (drop skip bytes)
  unfolding read_from
  skipped zero s at bytes h = ap (λ k. read_from r 0 s k bytes) (omega arith)
  skipped (suc skip) s at [] h = absurd (omega arith)
  skipped (suc skip) s at (byte ∷ bytes) h = skipped skip s (at + 1) bytes (omega arith) ∙ ap (λ k. read_from r 0 s k (drop skip bytes)) (omega arith)

  behind : (s : S) (at next byte : ℕ) (bytes : List ℕ) → at < next → next ≤ at + length (byte ∷ bytes) → read_from r (next - at - 1) s (at + 1) bytes ≡ read_from r 0 s next (drop (next - at) (byte ∷ bytes))
  behind s at next byte bytes after inside =
      let gone : suc (next - at - 1) ≡ next - at = omega arith in
      skipped (next - at - 1) s (at + 1) bytes (omega arith)
      ∙ ap (λ k. read_from r 0 s k (drop (next - at - 1) bytes)) (omega arith)
      ∙ ap (λ k. read_from r 0 s next (drop k (byte ∷ bytes))) gone

  -- STOP
  stopped : (s : S) (at : ℕ) (bytes : List ℕ) (t : Token) (next : ℕ) → token_at at bytes ≡ Ok (t, next) → is_stop t.op ≡ true → at < next → next ≤ at + length bytes →
      read_from r 0 s at bytes ≡ r.finish at next s
  unfolding read_from
  stopped s at [] t next h stops after inside = absurd (omega arith)
  stopped s at (byte ∷ bytes) t next h stops after inside =
      ap (after_token r (λ n s'. read_from r (n - at - 1) s' (at + 1) bytes) s at (byte ∷ bytes)) h
      ∙ ap (λ b. cond b (r.finish at next s) (go_on (λ s₁. read_from r (next - at - 1) s₁ (at + 1) bytes) (r.turn t.op at t.number (bytes_of at (byte ∷ bytes) t) s))) stops

  -- a token's turn, and what is made of the rest
  turned : (s : S) (at : ℕ) (bytes : List ℕ) (t : Token) (next : ℕ) → token_at at bytes ≡ Ok (t, next) → is_stop t.op ≡ false → at < next → next ≤ at + length bytes →
      read_from r 0 s at bytes ≡ go_on (λ s₁. read_from r 0 s₁ next (drop (next - at) bytes)) (r.turn t.op at t.number (bytes_of at bytes t) s)
  unfolding read_from
  turned s at [] t next h goes after inside = absurd (omega arith)
  turned s at (byte ∷ bytes) t next h goes after inside =
      let more : S → Result X PickleError = λ s₁. read_from r (next - at - 1) s₁ (at + 1) bytes in
      ap (after_token r (λ n s₁. read_from r (n - at - 1) s₁ (at + 1) bytes) s at (byte ∷ bytes)) h
      ∙ ap (λ b. cond b (r.finish at next s) (go_on more (r.turn t.op at t.number (bytes_of at (byte ∷ bytes) t) s))) goes
      ∙ (λ i. go_on (λ s₁. behind s₁ at next byte bytes after inside i) (r.turn t.op at t.number (bytes_of at (byte ∷ bytes) t) s))

  module _ (sr : SpelledIsRead) where
    one_turn : (s : S) (at : ℕ) (t : Tok) (tail : List ℕ) → read_from r 0 s at (t.text ++ tail) ≡ go_on (λ s₁. read_from r 0 s₁ (at + length t.text) tail) (r.turn t.op at t.number t.held s)
    one_turn s at t tail =
        let some = token_some t.text t.op t.number t.held t.spells.token in
        let token : Token = token_of at t.text t.op t.number t.held in
        let len : length t.text ≡ at + length t.text - at = omega arith in
        turned s at (t.text ++ tail) token (at + length t.text) (sr at t.text tail t.op t.number t.held t.spells.token) t.spells.on (omega (arith, some)) (omega (arith, length-append t.text tail))
        ∙ ap (λ (x : List ℕ). go_on (λ s₁. read_from r 0 s₁ (at + length t.text) (drop (at + length t.text - at) (t.text ++ tail))) (r.turn t.op at t.number x s)) (held_bytes at t.text t.spells.front t.held tail t.spells.split)
        ∙ ap (λ (x : List ℕ). go_on (λ s₁. read_from r 0 s₁ (at + length t.text) x) (r.turn t.op at t.number t.held s)) (drop_at t.text tail (at + length t.text - at) len)

    last_turn : (s : S) (at : ℕ) (tail : List ℕ) → read_from r 0 s at (0x2e ∷ tail) ≡ r.finish at (at + 1) s
    last_turn s at tail =
        let stop : IsToken (0x2e ∷ []) ops.Stop (pos 0) [] = record { row = record { byte = 0x2e; op = ops.Stop; kind = args.Nothing }; argument = []; listed = refl; named = refl; spelled = refl; says = record { long = refl; says = refl; whole = refl } } in
        stopped s at (0x2e ∷ tail) (token_of at (0x2e ∷ []) ops.Stop (pos 0) []) (at + 1) (sr at (0x2e ∷ []) tail ops.Stop (pos 0) [] stop) refl (omega arith) (omega arith)

    -- what is read of tokens and a STOP does not depend on what follows
    pub read_run : (ts : List Tok) (s : S) (at : ℕ) (tail : List ℕ) → read_from r 0 s at (texts ts ++ 0x2e ∷ tail) ≡ run r ts s at
    read_run [] s at tail = last_turn s at tail
    read_run (t ∷ ts) s at tail =
        ap (read_from r 0 s at) (append_assoc t.text (texts ts) (0x2e ∷ tail))
        ∙ one_turn s at t (texts ts ++ 0x2e ∷ tail)
        ∙ (λ i. go_on (λ s₁. read_run ts s₁ (at + length t.text) tail i) (r.turn t.op at t.number t.held s))
