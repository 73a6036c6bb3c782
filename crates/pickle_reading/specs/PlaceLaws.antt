-- Reading by tokens, at places of the input.
use Rattle.std.proofs.Common.{◌≡◌, ℕ, ℤ, ◌+◌, ◌-◌, ◌<◌, ◌≤◌, List, length, take, drop, Result, Ok, Err, arith, sym, ◌∙◌, ap, subst, true, false, length-drop}
use Rattle.pickle_ops.specs.declared.table.Op.{Op}
use Rattle.pickle_ops.specs.Fits.{Fits}
use Rattle.std.proofs.lemmas.List.{drop-drop}
use Rattle.pickle_ops.specs.declared.token.Token.{Token}
use Rattle.pickle_ops.specs.Tokens.{token_at, IsWithin}
use Rattle.pickle_reading.specs.declared.error.PickleError.{PickleError}
use Rattle.pickle_reading.specs.declared.error.PickleError.TheVariants as errors
use Rattle.pickle_reading.specs.Steps.{RefusesAs}
use Rattle.pickle_reading.specs.Reading.{Reader, read_from, is_stop, bytes_of}
use Rattle.pickle_reading.specs.RunLaws.{read_from-stop, read_from-step, read_from-refused}

-- the bytes from place n on, seen from those from m on
drop_to : (input : List ℕ) (m n : ℕ) → m ≤ n → drop (n - m) (drop m input) ≡ drop n input
drop_to input m n h = let e : m + (n - m) ≡ n = omega arith in drop-drop (n - m) m input ∙ ap (λ k. drop k input) e

-- a token's bytes
pub bytes_in : (input : List ℕ) (at : ℕ) (t : Token) → at < t.start → bytes_of at (drop at input) t ≡ take (t.start + t.length - t.start) (drop t.start input)
bytes_in input at t h =
    let e : t.length ≡ t.start + t.length - t.start = omega arith in
    ap (take t.length) (drop_to input at t.start (omega arith)) ∙ ap (λ k. take k (drop t.start input)) e

room : (input : List ℕ) (at next : ℕ) → at < next → next ≤ length input → next ≤ at + length (drop at input)
room input at next h k = omega (arith, length-drop {A = ℕ})

-- a refusal of a step is one of reading
pub refused : {X Y : Type 0} (e : PickleError) (step : Result X PickleError) (read : Result Y PickleError) → RefusesAs e step → ((f : PickleError) → step ≡ Err f → read ≡ Err f) → RefusesAs e read
refused errors.Memory step read h go = tt
refused (errors.Token e) step read h go = go _ h
refused (errors.Stack at) step read h go = go _ h
refused (errors.Memo at) step read h go = go _ h
refused (errors.TooLarge at) step read h go = go _ h
refused (errors.BadReference at) step read h go = go _ h

module _ {S X : Type 0} (r : Reader S X) where
  pub read_on : (s s' : S) (input : List ℕ) (at : ℕ) (t : Token) (next : ℕ) → Ok (t, next) ≡ token_at at (drop at input) → IsWithin at (length input) t next → is_stop t.op ≡ false →
      r.turn t.op at t.number (take (t.start + t.length - t.start) (drop t.start input)) s ≡ Ok s' → read_from r 0 s at (drop at input) ≡ read_from r 0 s' next (drop next input)
  read_on s s' input at t next h w goes stepped =
      let after : at < next = omega (arith, w.opcode, w.last) in
      read_from-step r s s' at (drop at input) t next (sym h) goes after (room input at next after w.inside) (ap (λ x. r.turn t.op at t.number x s) (bytes_in input at t w.opcode) ∙ stepped)
      ∙ ap (read_from r 0 s' next) (drop_to input at next (omega arith))

  pub read_refused : (s : S) (input : List ℕ) (at : ℕ) (t : Token) (next : ℕ) (e : PickleError) → Ok (t, next) ≡ token_at at (drop at input) → IsWithin at (length input) t next → is_stop t.op ≡ false →
      r.turn t.op at t.number (take (t.start + t.length - t.start) (drop t.start input)) s ≡ Err e → read_from r 0 s at (drop at input) ≡ Err e
  read_refused s input at t next e h w goes stepped =
      let after : at < next = omega (arith, w.opcode, w.last) in
      read_from-refused r s at (drop at input) t next e (sym h) goes after (room input at next after w.inside) (ap (λ x. r.turn t.op at t.number x s) (bytes_in input at t w.opcode) ∙ stepped)

  pub read_stop : (s : S) (input : List ℕ) (at : ℕ) (t : Token) (next : ℕ) → Ok (t, next) ≡ token_at at (drop at input) → IsWithin at (length input) t next → is_stop t.op ≡ true →
      read_from r 0 s at (drop at input) ≡ r.finish at next s
  read_stop s input at t next h w stops =
      let after : at < next = omega (arith, w.opcode, w.last) in
      read_from-stop r s at (drop at input) t next (sym h) stops after (room input at next after w.inside)

-- a token's bytes fit it, also where the span is written by its end
pub span_fits : (op : Op) (number : ℤ) (input : List ℕ) (start size : ℕ) → Fits op number (take size (drop start input)) → Fits op number (take (start + size - start) (drop start input))
span_fits op number input start size h =
    let e : size ≡ start + size - start = omega arith in
    subst (λ k. Fits op number (take k (drop start input))) e h
