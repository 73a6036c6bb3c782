-- A token stands within the input, and is spelled there.
use Rattle.std.proofs.Common.{◌≡◌, ℕ, suc, ◌+◌, ◌-◌, ◌<◌, List, [], ◌∷◌, length, take, drop, Option, Some, None, Ok, Err, refl, sym, ◌∙◌, ap, subst, arith, length-drop}
use Rattle.std.specs.Prelude.{slice_range, IfOk}
use Rattle.std.proofs.lemmas.List.{drop-drop}
use Rattle.pickle_ops.specs.declared.table.TheConstants.{TABLE}
use Rattle.pickle_ops.specs.declared.table.Row.{Row}
use Rattle.pickle_ops.specs.declared.argument.Argument.{Argument}
use Rattle.pickle_ops.specs.declared.token.Token.{Token}
use Rattle.pickle_ops.specs.Rows.{row_in}
use Rattle.pickle_ops.specs.Arguments.{Found, argument_in, held_in}
use Rattle.pickle_ops.specs.Tokens.{Read, IsWithin, argument_bytes, token_placed, row_token, token_at}
use Rattle.pickle_ops.specs.Grammar.{IsToken, IsArgument}
use Rattle.pickle_ops.proofs.Once.{byte-row_in}
use Rattle.pickle_ops.specs.Fits.{Fits}
use Rattle.pickle_ops.proofs.Fitting.{token_fits}
use Rattle.pickle_ops.proofs.Spelled.{Spelled, found-spelled}
use Rattle.zb_base.specs.Bytes.{AreBytes, AreBytes-take, AreBytes-drop}

pub record Stands (input : List ℕ) (at : ℕ) (t : Token) (next : ℕ) : Type 0 where
  pub within : IsWithin at (length input) t next
  pub spelled : IsToken (slice_range input at next) t.op t.number (argument_bytes input t)

-- an argument behind an opcode
stands : (input : List ℕ) (at byte : ℕ) (rest : List ℕ) (row : Row) (a : Argument) → drop at input ≡ byte ∷ rest → at + 1 + length rest ≡ length input → row_in TABLE.rows byte ≡ Some row → Spelled (IsArgument row.kind) rest a →
    Stands input at (record { op = row.op; number = a.number; start = at + 1 + a.before; length = a.length }) (at + 1 + a.before + a.length)
stands input at byte rest row a here room listed s =
    let size : at + 1 + a.before + a.length - at ≡ suc (a.before + a.length) = omega arith in
    let text : slice_range input at (at + 1 + a.before + a.length) ≡ byte ∷ take (a.before + a.length) rest = ap (λ n. take n (drop at input)) size ∙ ap (take (suc (a.before + a.length))) here in
    let place : at + 1 + a.before ≡ at + suc a.before = omega arith in
    let held : take a.length (drop (at + 1 + a.before) input) ≡ held_in rest a = ap (λ n. take a.length (drop n input)) place ∙ ap (take a.length) (sym (drop-drop (suc a.before) at input) ∙ ap (drop (suc a.before)) here) in
    let is : row.byte ≡ byte = byte-row_in TABLE.rows byte row listed in
    let within : IsWithin at (length input) (record { op = row.op; number = a.number; start = at + 1 + a.before; length = a.length }) (at + 1 + a.before + a.length) =
    record { opcode = omega arith; last = refl; inside = omega (arith, s.inside) } in
    record {
      within = within;
      spelled = record { row = row; argument = take (a.before + a.length) rest; listed = ap (row_in TABLE.rows) is ∙ listed; named = refl; spelled = text ∙ ap (λ b. b ∷ take (a.before + a.length) rest) (sym is); says = subst (IsArgument row.kind (take (a.before + a.length) rest) a.number) (sym held) s.says };
    }

of_found : (input : List ℕ) (at byte : ℕ) (rest : List ℕ) (row : Row) (found : Found) → drop at input ≡ byte ∷ rest → at + 1 + length rest ≡ length input → row_in TABLE.rows byte ≡ Some row → argument_in row.kind rest ≡ found →
    IfOk (token_placed at row.op found) (λ r. Stands input at r.0 r.1)
of_found input at byte rest row (Err fault) here room listed is = tt
of_found input at byte rest row (Ok a) here room listed is = stands input at byte rest row a here room listed (found-spelled row.kind rest a is)

of_row : (input : List ℕ) (at byte : ℕ) (rest : List ℕ) (o : Option Row) → drop at input ≡ byte ∷ rest → at + 1 + length rest ≡ length input → row_in TABLE.rows byte ≡ o →
    IfOk (row_token at byte rest o) (λ r. Stands input at r.0 r.1)
of_row input at byte rest None here room listed = tt
of_row input at byte rest (Some row) here room listed = of_found input at byte rest row (argument_in row.kind rest) here room listed refl

at_bytes : (input : List ℕ) (at : ℕ) (bytes : List ℕ) → drop at input ≡ bytes → at + length bytes ≡ length input → IfOk (token_at at bytes) (λ r. Stands input at r.0 r.1)
at_bytes input at [] here room = tt
at_bytes input at (byte ∷ rest) here room = of_row input at byte rest (row_in TABLE.rows byte) here (omega arith) refl

pub token-stands : (input : List ℕ) (at : ℕ) (r : Read) → at < length input → r ≡ token_at at (drop at input) → IfOk r (λ r. Stands input at r.0 r.1)
token-stands input at r inside is =
    let room : at + length (drop at input) ≡ length input = omega (arith, length-drop at input) in
    subst (λ r. IfOk r (λ r. Stands input at r.0 r.1)) (sym is) (at_bytes input at (drop at input) refl room)

pub within-stands : (input : List ℕ) (at : ℕ) (r : Read) → IfOk r (λ r. Stands input at r.0 r.1) → IfOk r (λ r. IsWithin at (length input) r.0 r.1)
within-stands input at (Ok r) h = h.within
within-stands input at (Err e) h = tt

pub spelled-stands : (input : List ℕ) (at : ℕ) (r : Read) → IfOk r (λ r. Stands input at r.0 r.1) → IfOk r (λ r. IsToken (slice_range input at r.1) r.0.op r.0.number (argument_bytes input r.0))
spelled-stands input at (Ok r) h = h.spelled
spelled-stands input at (Err e) h = tt

pub fits-stands : (input : List ℕ) (at : ℕ) (r : Read) → AreBytes input → IfOk r (λ r. Stands input at r.0 r.1) → IfOk r (λ r. Fits r.0.op r.0.number (argument_bytes input r.0))
fits-stands input at (Ok r) bytes h =
    token_fits (slice_range input at r.1) r.0.op r.0.number (argument_bytes input r.0) (AreBytes-take (r.1 - at) (drop at input) (AreBytes-drop at input bytes)) h.spelled
fits-stands input at (Err e) bytes h = tt
