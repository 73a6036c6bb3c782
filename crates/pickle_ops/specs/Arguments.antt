-- What stands behind an opcode, as a function of the bytes there.
use Rattle.std.specs.Prelude.{ℕ, ℤ, pos, negsuc, Bool, List, [], ◌∷◌, Option, Some, None, Result, Ok, Err, ◌==◌, nat_lt, if◌then◌else◌, length, take, drop, position, ◌+◌}
use Rattle.std.specs.Str.{is_utf8}
use Rattle.byteorder.specs.Endian.{little_number, twos_complement}
use Rattle.pickle_ops.specs.declared.table.Kind.{Kind}
use Rattle.pickle_ops.specs.declared.table.Kind.TheVariants as kinds
use Rattle.pickle_ops.specs.declared.argument.Argument.{Argument}
use Rattle.pickle_ops.specs.declared.argument.Fault.{Fault}
use Rattle.pickle_ops.specs.declared.argument.Fault.TheVariants.{Missing, Version, BadText}

-- an argument, or why there is none
abbrev pub Found : Type 0
Found = Result Argument Fault

-- the bytes of an argument, in the bytes behind its opcode
abbrev pub held_in : List ℕ → Argument → List ℕ
held_in rest a = take a.length (drop a.before rest)

-- a version, of which 0 to 3 are read
abbrev pub version : List ℕ → Found
version [] = Err Missing
version (byte ∷ rest) =
    if nat_lt 3 byte then Err (Version byte) else Ok (record { number = pos byte; before = 0; length = 1 })

-- a number of so many bytes, the lowest first
abbrev pub number_argument : ℕ → List ℕ → Found
number_argument size rest =
    if nat_lt (length rest) size then Err Missing
    else Ok (record { number = pos (little_number size rest); before = 0; length = size })

-- a number of four bytes in two's complement, the lowest first
abbrev pub signed_number : List ℕ → Found
signed_number rest =
    if nat_lt (length rest) 4 then Err Missing
    else Ok (record { number = twos_complement 4 (little_number 4 rest); before = 0; length = 4 })

-- count bytes, behind the first ones
abbrev pub span : ℕ → ℕ → List ℕ → Found
span before count rest =
    if nat_lt (length rest) (before + count) then Err Missing
    else Ok (record { number = pos 0; before = before; length = count })

-- a length of so many bytes, and the bytes that it counts
abbrev pub counted_bytes : ℕ → List ℕ → Found
counted_bytes size rest = if nat_lt (length rest) size then Err Missing else span size (little_number size rest) rest

-- the bytes that a length in two's complement counts
abbrev pub signed_span : ℤ → List ℕ → Found
signed_span (pos count) rest = span 4 count rest
signed_span (negsuc n) rest = Err BadText

-- a length of four bytes in two's complement, and the bytes that it counts
abbrev pub signed_counted : List ℕ → Found
signed_counted rest =
    if nat_lt (length rest) 4 then Err Missing else signed_span (twos_complement 4 (little_number 4 rest)) rest

-- an argument whose bytes are to be UTF-8
abbrev pub checked : List ℕ → Found → Found
checked rest (Err fault) = Err fault
checked rest (Ok a) = if is_utf8 (held_in rest a) then Ok a else Err BadText

-- a length of four bytes, and so many bytes of UTF-8
abbrev pub text : List ℕ → Found
text rest = checked rest (counted_bytes 4 rest)

-- the byte ends a line
abbrev pub is_newline : ℕ → Bool
is_newline byte = byte == 10

-- two lines, of which the first has i bytes before its newline, and the second so many
abbrev pub second_line : List ℕ → ℕ → Option ℕ → Found
second_line rest i None = Err Missing
second_line rest i (Some j) =
    if is_utf8 (take i rest) then if is_utf8 (take j (drop (i + 1) rest)) then Ok (record { number = pos 0; before = 0; length = i + 1 + j + 1 })
    else Err BadText else Err BadText

-- two lines, of which the first ends at the place given
abbrev pub lines_from : List ℕ → Option ℕ → Found
lines_from rest None = Err Missing
lines_from rest (Some i) = second_line rest i (position is_newline (drop (i + 1) rest))

-- two lines of UTF-8, each with its newline
abbrev pub two_lines : List ℕ → Found
two_lines rest = lines_from rest (position is_newline rest)

-- the argument of a kind
abbrev pub argument_in : Kind → List ℕ → Found
argument_in kinds.Nothing rest = span 0 0 rest
argument_in kinds.Version rest = version rest
argument_in kinds.Unsigned1 rest = number_argument 1 rest
argument_in kinds.Unsigned2 rest = number_argument 2 rest
argument_in kinds.Unsigned4 rest = number_argument 4 rest
argument_in kinds.Signed4 rest = signed_number rest
argument_in kinds.Float8 rest = span 0 8 rest
argument_in kinds.Counted1 rest = counted_bytes 1 rest
argument_in kinds.Counted4 rest = counted_bytes 4 rest
argument_in kinds.SignedCounted4 rest = signed_counted rest
argument_in kinds.Text4 rest = text rest
argument_in kinds.TwoLines rest = two_lines rest
