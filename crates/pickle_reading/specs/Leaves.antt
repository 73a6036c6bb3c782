-- Nodes that a token makes by itself.
use Rattle.std.specs.Prelude.{ℕ, ℤ, pos, true, false, List, [], ◌∷◌, Option, Some, None, length, ◌==◌, nat_lt, if◌then◌else◌}
use Rattle.byteorder.specs.Endian.{little_number, twos_complement}
use Rattle.pickle_ops.specs.declared.table.Op.{Op}
use Rattle.pickle_ops.specs.declared.table.Op.TheVariants as ops
use Rattle.pickle_graph.specs.declared.node.Node.{Node}
use Rattle.pickle_graph.specs.declared.node.Node.TheVariants as kinds

-- the number that bytes are in two's complement, the lowest first; no bytes are 0
abbrev pub long_number : List ℕ → ℤ
long_number [] = pos 0
long_number (byte ∷ bytes) =
    twos_complement (length (byte ∷ bytes)) (little_number (length (byte ∷ bytes)) (byte ∷ bytes))

-- a number of at most 16 bytes, or the bytes of a longer one
abbrev pub long_of : List ℕ → Node
long_of bytes = if nat_lt 16 (length bytes) then kinds.Wide bytes else kinds.Number (long_number bytes)

-- the bytes before the first newline, and those behind it
abbrev pub first_line : List ℕ → List ℕ
first_line [] = []
first_line (byte ∷ bytes) = if byte == 10 then [] else byte ∷ first_line bytes

-- the bytes behind the first newline
abbrev pub behind_line : List ℕ → List ℕ
behind_line [] = []
behind_line (byte ∷ bytes) = if byte == 10 then bytes else behind_line bytes

-- the global of two lines
abbrev pub global_of : List ℕ → Node
global_of bytes = kinds.Global (first_line bytes) (first_line (behind_line bytes))

-- the node that an opcode with its argument, a number or bytes, makes by itself
abbrev pub leaf_of : Op → ℤ → List ℕ → Option Node
leaf_of ops.None number bytes = Some kinds.None
leaf_of ops.NewTrue number bytes = Some (kinds.Bool true)
leaf_of ops.NewFalse number bytes = Some (kinds.Bool false)
leaf_of ops.BinInt number bytes = Some (kinds.Number number)
leaf_of ops.BinInt1 number bytes = Some (kinds.Number number)
leaf_of ops.BinInt2 number bytes = Some (kinds.Number number)
leaf_of ops.Long1 number bytes = Some (long_of bytes)
leaf_of ops.Long4 number bytes = Some (long_of bytes)
leaf_of ops.BinFloat number bytes = Some (kinds.Float bytes)
leaf_of ops.BinBytes number bytes = Some (kinds.Bytes bytes)
leaf_of ops.ShortBinBytes number bytes = Some (kinds.Bytes bytes)
leaf_of ops.BinString number bytes = Some (kinds.OldText bytes)
leaf_of ops.ShortBinString number bytes = Some (kinds.OldText bytes)
leaf_of ops.BinUnicode number bytes = Some (kinds.Text bytes)
leaf_of ops.EmptyTuple number bytes = Some (kinds.Tuple [])
leaf_of ops.EmptyList number bytes = Some (kinds.List [])
leaf_of ops.EmptyDict number bytes = Some (kinds.Dict [])
leaf_of ops.Global number bytes = Some (global_of bytes)
leaf_of _ number bytes = None
