-- Reading by tokens.
use Rattle.std.proofs.Common.{◌≡◌, ℕ, ℤ, Bool, zero, suc, ◌+◌, ◌-◌, ◌<◌, ◌≤◌, List, [], ◌∷◌, length, drop, Result, Ok, Err, arith, ◌∙◌, ap, true, false, cond}
use Rattle.pickle_ops.specs.declared.table.Op.{Op}
use Rattle.pickle_ops.specs.declared.token.Token.{Token}
use Rattle.pickle_ops.specs.declared.token.TokenError.{TokenError}
use Rattle.pickle_ops.specs.Tokens.{token_at}
use Rattle.pickle_reading.specs.declared.error.PickleError.{PickleError}
use Rattle.pickle_reading.specs.declared.error.PickleError.TheVariants as errors
use Rattle.pickle_reading.specs.Reading.{Reader, read_from, after_token, is_stop, bytes_of, go_on}

module _ {S X : Type 0} (r : Reader S X) where
  -- the bytes that are left of a token are passed over
  pub read_from-skip : (skip : ℕ) (s : S) (at : ℕ) (bytes : List ℕ) → skip ≤ length bytes → read_from r skip s at bytes ≡ read_from r 0 s (at + skip) (drop skip bytes)
  unfolding read_from
  read_from-skip zero s at bytes h = ap (λ k. read_from r 0 s k bytes) (omega arith)
  read_from-skip (suc skip) s at [] h = absurd (omega arith)
  read_from-skip (suc skip) s at (byte ∷ bytes) h =
      read_from-skip skip s (at + 1) bytes (omega arith) ∙ ap (λ k. read_from r 0 s k (drop skip bytes)) (omega arith)

  -- what stands behind the token
  behind : (s : S) (at next byte : ℕ) (bytes : List ℕ) → at < next → next ≤ at + length (byte ∷ bytes) → read_from r (next - at - 1) s (at + 1) bytes ≡ read_from r 0 s next (drop (next - at) (byte ∷ bytes))
  behind s at next byte bytes after inside =
      let gone : suc (next - at - 1) ≡ next - at = omega arith in
      read_from-skip (next - at - 1) s (at + 1) bytes (omega arith)
      ∙ ap (λ k. read_from r 0 s k (drop (next - at - 1) bytes)) (omega arith)
      ∙ ap (λ k. read_from r 0 s next (drop k (byte ∷ bytes))) gone

  -- no token stands there
  pub read_from-fault : (s : S) (at : ℕ) (bytes : List ℕ) (e : TokenError) → token_at at bytes ≡ Err e → read_from r 0 s at bytes ≡ Err (errors.Token e)
  unfolding read_from
  read_from-fault s at [] e h = ap (after_token r (λ next s'. Err (errors.Token e)) s at []) h
  read_from-fault s at (byte ∷ bytes) e h = ap (after_token r (λ next s'. read_from r (next - at - 1) s' (at + 1) bytes) s at (byte ∷ bytes)) h

  -- STOP
  pub read_from-stop : (s : S) (at : ℕ) (bytes : List ℕ) (t : Token) (next : ℕ) → token_at at bytes ≡ Ok (t, next) → is_stop t.op ≡ true → at < next → next ≤ at + length bytes →
      read_from r 0 s at bytes ≡ r.finish at next s
  unfolding read_from
  read_from-stop s at [] t next h stops after inside = absurd (omega arith)
  read_from-stop s at (byte ∷ bytes) t next h stops after inside =
      ap (after_token r (λ n s'. read_from r (n - at - 1) s' (at + 1) bytes) s at (byte ∷ bytes)) h
      ∙ ap (λ b. cond b (r.finish at next s) (go_on (λ s₁. read_from r (next - at - 1) s₁ (at + 1) bytes) (r.turn t.op at t.number (bytes_of at (byte ∷ bytes) t) s))) stops

  -- a token that has a case
  pub read_from-step : (s s' : S) (at : ℕ) (bytes : List ℕ) (t : Token) (next : ℕ) → token_at at bytes ≡ Ok (t, next) → is_stop t.op ≡ false → at < next → next ≤ at + length bytes →
      r.turn t.op at t.number (bytes_of at bytes t) s ≡ Ok s' → read_from r 0 s at bytes ≡ read_from r 0 s' next (drop (next - at) bytes)
  unfolding read_from
  read_from-step s s' at [] t next h goes after inside stepped = absurd (omega arith)
  read_from-step s s' at (byte ∷ bytes) t next h goes after inside stepped =
      let more : S → Result X PickleError = λ s₁. read_from r (next - at - 1) s₁ (at + 1) bytes in
      ap (after_token r (λ n s₁. read_from r (n - at - 1) s₁ (at + 1) bytes) s at (byte ∷ bytes)) h
      ∙ ap (λ b. cond b (r.finish at next s) (go_on more (r.turn t.op at t.number (bytes_of at (byte ∷ bytes) t) s))) goes
      ∙ ap (go_on more) stepped
      ∙ behind s' at next byte bytes after inside

  -- a token that has none
  pub read_from-refused : (s : S) (at : ℕ) (bytes : List ℕ) (t : Token) (next : ℕ) (e : PickleError) → token_at at bytes ≡ Ok (t, next) → is_stop t.op ≡ false → at < next → next ≤ at + length bytes →
      r.turn t.op at t.number (bytes_of at bytes t) s ≡ Err e → read_from r 0 s at bytes ≡ Err e
  unfolding read_from
  read_from-refused s at [] t next e h goes after inside stepped = absurd (omega arith)
  read_from-refused s at (byte ∷ bytes) t next e h goes after inside stepped =
      let more : S → Result X PickleError = λ s₁. read_from r (next - at - 1) s₁ (at + 1) bytes in
      ap (after_token r (λ n s₁. read_from r (n - at - 1) s₁ (at + 1) bytes) s at (byte ∷ bytes)) h
      ∙ ap (λ b. cond b (r.finish at next s) (go_on more (r.turn t.op at t.number (bytes_of at (byte ∷ bytes) t) s))) goes
      ∙ ap (go_on more) stepped

-- what holds of an answer, if there is one
abbrev pub Gives : {A : Type 0} → (A → Type 0) → Result A PickleError → Type 0
Gives P (Ok x) = P x
Gives P (Err e) = Unit {0}

module _ {S X : Type 0} (r : Reader S X) (P : S → Type 0) (Q : X → Type 0)
    (turn : (op : Op) (at : ℕ) (number : ℤ) (bytes : List ℕ) (s : S) → P s → Gives P (r.turn op at number bytes s))
    (finish : (at next : ℕ) (s : S) → P s → Gives Q (r.finish at next s)) where
  gives-on : (more : S → Result X PickleError) (outcome : Result S PickleError) → ((s : S) → P s → Gives Q (more s)) → Gives P outcome → Gives Q (go_on more outcome)
  gives-on more (Ok s) later h = later s h
  gives-on more (Err e) later h = tt

  gives-token : (more : ℕ → S → Result X PickleError) (s : S) (at : ℕ) (bytes : List ℕ) (token : Result (Token × ℕ) TokenError) → ((n : ℕ) (s' : S) → P s' → Gives Q (more n s')) → P s → Gives Q (after_token r more s at bytes token)
  gives-token more s at bytes (Err e) later h = tt
  gives-token more s at bytes (Ok found) later h = test (is_stop found.0.op)
    where
      test : (b : Bool) → Gives Q (cond b (r.finish at found.1 s) (go_on (more found.1) (r.turn found.0.op at found.0.number (bytes_of at bytes found.0) s)))
      test true = finish at found.1 s h
      test false = gives-on (more found.1) _ (later found.1) (turn found.0.op at found.0.number (bytes_of at bytes found.0) s h)

  -- what each token keeps holds at STOP
  pub read_from-gives : (skip : ℕ) (s : S) (at : ℕ) (bytes : List ℕ) → P s → Gives Q (read_from r skip s at bytes)
  unfolding read_from
  read_from-gives zero s at [] h = tt
  read_from-gives (suc skip) s at [] h = tt
  read_from-gives (suc skip) s at (byte ∷ bytes) h = read_from-gives skip s (at + 1) bytes h
  read_from-gives zero s at (byte ∷ bytes) h =
      gives-token (λ n s'. read_from r (n - at - 1) s' (at + 1) bytes) s at (byte ∷ bytes) (token_at at (byte ∷ bytes)) (λ n s' h'. read_from-gives (n - at - 1) s' (at + 1) bytes h') h
