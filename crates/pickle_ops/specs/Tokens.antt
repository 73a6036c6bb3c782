-- Tokens, as a function of the bytes behind a place.
use Rattle.std.specs.Prelude.{ℕ, List, [], ◌∷◌, Option, Some, None, Result, Ok, Err, take, drop, ◌+◌, ◌<◌, ◌≤◌, ◌≡◌}
use Rattle.pickle_ops.specs.Rows.{row_in}
use Rattle.pickle_ops.specs.Arguments.{Found, argument_in}
use Rattle.pickle_ops.specs.declared.table.TheConstants.{TABLE}
use Rattle.pickle_ops.specs.declared.table.Row.{Row}
use Rattle.pickle_ops.specs.declared.table.Op.{Op}
use Rattle.pickle_ops.specs.declared.argument.Fault.{Fault}
use Rattle.pickle_ops.specs.declared.argument.Fault.TheVariants as faults
use Rattle.pickle_ops.specs.declared.token.Token.{Token}
use Rattle.pickle_ops.specs.declared.token.TokenError.{TokenError}
use Rattle.pickle_ops.specs.declared.token.TokenError.TheVariants.{UnknownOp, Cut, BadText}

-- a token and the place behind it, or the refusal
abbrev pub Read : Type 0
Read = Result (Token × ℕ) TokenError

-- the refusal at a place, whose opcode has no argument
abbrev pub refusal : ℕ → Fault → TokenError
refusal at faults.Missing = Cut at
refusal at (faults.Version byte) = UnknownOp (at + 1) byte
refusal at faults.BadText = BadText at

-- the token of an opcode at a place
abbrev pub token_placed : ℕ → Op → Found → Read
token_placed at op (Err fault) = Err (refusal at fault)
token_placed at op (Ok a) =
    Ok (record { op = op; number = a.number; start = at + 1 + a.before; length = a.length }, at + 1 + a.before + a.length)

-- the token of a row of the table, if its byte has one
abbrev pub row_token : ℕ → ℕ → List ℕ → Option Row → Read
row_token at byte rest None = Err (UnknownOp at byte)
row_token at byte rest (Some row) = token_placed at row.op (argument_in row.kind rest)

-- the token at the front of the bytes behind a place
abbrev pub token_at : ℕ → List ℕ → Read
token_at at [] = Err (Cut at)
token_at at (byte ∷ rest) = row_token at byte rest (row_in TABLE.rows byte)

-- the bytes of a token's argument
abbrev pub argument_bytes : List ℕ → Token → List ℕ
argument_bytes input t = take t.length (drop t.start input)

-- the bytes of the argument lie behind the opcode, the token ends with them, and it ends within the input
pub record IsWithin (at end : ℕ) (t : Token) (next : ℕ) : Type 0 where
  pub opcode : at < t.start
  pub last : t.start + t.length ≡ next
  pub inside : next ≤ end
