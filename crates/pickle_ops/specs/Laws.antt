-- Laws of the table and of tokens.
use Rattle.std.specs.Prelude.{ℕ, ℤ, List, ◌++◌, length, slice_get, take, Some, Ok, Err, ◌<◌, ◌≡◌}
use Rattle.pickle_ops.specs.declared.table.TheConstants.{TABLE}
use Rattle.pickle_ops.specs.declared.table.Row.{Row}
use Rattle.pickle_ops.specs.declared.table.Op.{Op}
use Rattle.pickle_ops.specs.declared.token.TokenError.TheVariants.{Cut}
use Rattle.pickle_ops.specs.Rows.{row_in}
use Rattle.pickle_ops.specs.Tokens.{token_at}
use Rattle.pickle_ops.specs.Grammar.{IsToken, spelled_token}

-- rows with the same byte stand at the same place
abbrev pub ByteStandsOnce : Type 0
ByteStandsOnce =
    (i j : ℕ) (a b : Row) → slice_get TABLE.rows i ≡ Some a → slice_get TABLE.rows j ≡ Some b → a.byte ≡ b.byte → i ≡ j

-- a byte leads to each row that has it
abbrev pub ByteLeadsToRow : Type 0
ByteLeadsToRow = (i : ℕ) (row : Row) → slice_get TABLE.rows i ≡ Some row → row_in TABLE.rows row.byte ≡ Some row

-- what spells a token is read as it, at each place and whatever follows
abbrev pub SpelledIsRead : Type 0
SpelledIsRead =
    (at : ℕ) (text rest : List ℕ) (op : Op) (number : ℤ) (held : List ℕ) → IsToken text op number held →
    token_at at (text ++ rest) ≡ Ok (spelled_token at text op number held)

-- what stops before the end of a token is cut, at the place of its opcode
abbrev pub ShortIsCut : Type 0
ShortIsCut =
    (at : ℕ) (text : List ℕ) (op : Op) (number : ℤ) (held : List ℕ) (n : ℕ) → IsToken text op number held → n < length text →
    token_at at (take n text) ≡ Err (Cut at)
