-- The table of opcodes.
use Rattle.std.specs.Prelude.{ℕ, Bool, true, false, List, [], ◌∷◌, Option, Some, None, nat_eq, if◌then◌else◌}
use Rattle.pickle_ops.specs.declared.table.Row.{Row}
use Rattle.pickle_ops.specs.declared.table.Op.{Op}

-- the first row of a byte
abbrev pub row_in : List Row → ℕ → Option Row
row_in [] byte = None
row_in (row ∷ rows) byte = if nat_eq row.byte byte then Some row else row_in rows byte

-- the opcode of a row
abbrev pub op_in : Option Row → Option Op
op_in None = None
op_in (Some row) = Some row.op

-- a row has the byte
abbrev pub has_byte : List Row → ℕ → Bool
has_byte [] byte = false
has_byte (row ∷ rows) byte = if nat_eq row.byte byte then true else has_byte rows byte

-- each byte stands in one row at most
abbrev pub no_byte_twice : List Row → Bool
no_byte_twice [] = true
no_byte_twice (row ∷ rows) = if has_byte rows row.byte then false else no_byte_twice rows
