-- The one text of a graph. From: Python's pickle opcodes; which of several texts is written is own.
use Rattle.std.specs.Prelude.{ℕ, zero, suc, ◌+◌, ◌*◌, ◌-◌, ◌^◌, ℤ, pos, negsuc, Bool, true, false, List, [], ◌∷◌, ◌++◌, length, slice_get, Option, Some, None, Result, Ok, Err, nat_lt, ◌==◌, ◌≡◌, if◌then◌else◌}
use Rattle.std.specs.Int.{w32, w128, cast_unsigned}
use Rattle.byteorder.specs.Endian.{little_bytes, low_bytes}
use Rattle.pickle_graph.specs.declared.node.Node.{Node}
use Rattle.pickle_graph.specs.declared.node.Node.TheVariants as kinds
use Rattle.pickle_graph.specs.declared.parts.Part.{Part}
use Rattle.pickle_graph.specs.declared.parts.Part.TheVariants.{Byte, Item}
use Rattle.pickle_writing.specs.declared.depth.TheConstants.{WALK_LIMIT}
use Rattle.pickle_writing.specs.declared.error.WriteError.{WriteError}
use Rattle.pickle_writing.specs.declared.error.WriteError.TheVariants as errors
use Rattle.pickle_graph.specs.Graph.{Graph}
use Rattle.pickle_graph.specs.Parts.{parts_of, is_held}
use Rattle.pickle_graph.specs.Walks.{has_walk}
use Rattle.pickle_writing.specs.Shared.{is_shared}

-- ---- leaves

-- The fewest bytes, from so many on, whose two's complement has n and -n-1. There are so many sizes more.
abbrev pub fewest : ℕ → ℕ → ℕ → ℕ
fewest zero size n = size
fewest (suc more) size n = if nat_lt n (2 ^ (8 * size - 1)) then size else fewest more (size + 1) n

-- n, of n and of -n-1
abbrev pub magnitude_of : ℤ → ℕ
magnitude_of (pos n) = n
magnitude_of (negsuc n) = n

-- numbers that four bytes don't have take 5 to 16
abbrev pub long_size : ℤ → ℕ
long_size number = fewest 11 5 (magnitude_of number)

-- LONG1, a length, and so many bytes in two's complement, the lowest first
abbrev pub long_text : ℤ → List ℕ
long_text number = 0x8a ∷ long_size number ∷ little_bytes (long_size number) (low_bytes w128 (long_size number) number)

-- BININT1, BININT2, BININT or LONG1: the first that has the number
abbrev pub number_text : ℤ → List ℕ
number_text (pos n) =
    if nat_lt n (2 ^ 8) then 0x4b ∷ n ∷ []
    else if nat_lt n (2 ^ 16) then 0x4d ∷ little_bytes 2 n
    else if nat_lt n (2 ^ 31) then 0x4a ∷ little_bytes 4 n else long_text (pos n)
number_text (negsuc n) =
    if nat_lt n (2 ^ 31) then 0x4a ∷ little_bytes 4 (cast_unsigned w32 (negsuc n)) else long_text (negsuc n)

-- an opcode, a length and so many bytes: the short opcode has a length of one byte, the long one of four
abbrev pub counted_text : ℕ → ℕ → List ℕ → List ℕ
counted_text short long bytes =
    if nat_lt (length bytes) (2 ^ 8) then short ∷ length bytes ∷ bytes
    else long ∷ (little_bytes 4 (length bytes) ++ bytes)

-- the text of a node that has no place in the memo
abbrev pub leaf_text : Node → List ℕ
leaf_text kinds.None = 0x4e ∷ []
leaf_text (kinds.Bool true) = 0x88 ∷ []
leaf_text (kinds.Bool false) = 0x89 ∷ []
leaf_text (kinds.Number number) = number_text number
leaf_text (kinds.Wide bytes) = counted_text 0x8a 0x8b bytes
leaf_text (kinds.Float bytes) = 0x47 ∷ bytes
leaf_text (kinds.Bytes bytes) = counted_text 0x43 0x42 bytes
leaf_text (kinds.OldText bytes) = counted_text 0x55 0x54 bytes
leaf_text (kinds.Text bytes) = 0x58 ∷ (little_bytes 4 (length bytes) ++ bytes)
leaf_text (kinds.Global module_line name_line) = 0x63 ∷ (module_line ++ 10 ∷ (name_line ++ 10 ∷ []))
leaf_text _ = 0x29 ∷ []

-- ---- nodes with items

-- an opcode and the number k: the short opcode has it in one byte, the long one in four
abbrev pub numbered_text : ℕ → ℕ → ℕ → List ℕ
numbered_text short long k = if nat_lt k (2 ^ 8) then short ∷ k ∷ [] else long ∷ little_bytes 4 k

-- BINPUT or LONG_BINPUT
abbrev pub put_text : ℕ → List ℕ
put_text k = numbered_text 0x71 0x72 k

-- BINGET or LONG_BINGET
abbrev pub get_text : ℕ → List ℕ
get_text k = numbered_text 0x68 0x6a k

-- A piece of the text: its bytes, the shared nodes that are put up to its end, the newest first, and how many nodes it
-- makes when it is read.
pub record Piece : Type 0 where
  pub text : List ℕ
  pub puts : List ℕ
  pub made : ℕ

-- the number under which a node is put: how many were put before
abbrev pub put_number : ℕ → List ℕ → Option ℕ
put_number m [] = None
put_number m (x ∷ puts) = if x == m then Some (length puts) else put_number m puts

-- no bytes, behind these puts
abbrev pub no_piece : List ℕ → Piece
no_piece puts = record { text = []; puts = puts; made = 0 }

-- a piece, and another behind it
abbrev pub followed : Piece → Piece → Piece
followed one next = record { text = one.text ++ next.text; puts = next.puts; made = one.made + next.made }

-- parts, one behind the other, each behind the puts of those before
abbrev pub parts_piece : (ℕ → List ℕ → Piece) → List Part → List ℕ → Piece
parts_piece piece [] puts = no_piece puts
parts_piece piece (Byte byte ∷ parts) puts = followed (record { text = byte ∷ []; puts = puts; made = 0 }) (parts_piece piece parts puts)
parts_piece piece (Item item ∷ parts) puts = followed (piece item puts) (parts_piece piece parts (piece item puts).puts)

-- a node is put under the next number, behind its whole text
abbrev pub put_behind : Bool → ℕ → Piece → Piece
put_behind false m piece = piece
put_behind true m piece =
    record { text = piece.text ++ put_text (length piece.puts); puts = m ∷ piece.puts; made = piece.made }

-- a get where the node is put already, else its text, and a put where it is shared
abbrev pub held_piece : Bool → Option ℕ → ℕ → List ℕ → Piece → Piece
held_piece shared (Some k) m puts whole = record { text = get_text k; puts = puts; made = 0 }
held_piece shared None m puts whole = put_behind shared m (record whole { made = whole.made + 1 })

-- the piece of a node: of one with items as it is held, of a leaf its text
abbrev pub node_piece : (ℕ → Bool) → (ℕ → List ℕ → Piece) → ℕ → List ℕ → Option Node → Piece
node_piece shared piece m puts None = no_piece puts
node_piece shared piece m puts (Some node) =
    if is_held node then held_piece (shared m) (put_number m puts) m puts (parts_piece piece (parts_of node) puts)
    else record { text = leaf_text node; puts = puts; made = 1 }

-- the piece of a node from which each walk has fewer edges than there are levels
unfoldable pub piece_of : ℕ → List Node → (ℕ → Bool) → ℕ → List ℕ → Piece
piece_of zero ns shared m puts = no_piece puts
piece_of (suc levels) ns shared m puts = node_piece shared (piece_of levels ns shared) m puts (slice_get ns m)

-- the piece of a node as root
abbrev pub root_piece : List Node → ℕ → Piece
root_piece ns root = piece_of (WALK_LIMIT + 1) ns (is_shared ns root) root []

-- ---- whole texts

-- a text, or why there is none
abbrev pub Spelled : Type 0
Spelled = Result (List ℕ) WriteError

-- the spelling of a node, or no text where a walk of more edges than the limit starts there
abbrev pub spelling_of : List Node → ℕ → Spelled
spelling_of ns m = if has_walk (WALK_LIMIT + 1) ns m then Err errors.TooDeep else Ok (root_piece ns m).text

-- PROTO 3, the spelling of the root, and STOP
abbrev pub pickled : Spelled → Spelled
pickled (Ok text) = Ok (0x80 ∷ 3 ∷ (text ++ 0x2e ∷ []))
pickled (Err e) = Err e

-- the text of a graph
abbrev pub pickle_text : Graph → Spelled
pickle_text g = pickled (spelling_of g.nodes g.root)

-- the answer is the one of the definition; memory is free to run out
abbrev pub Writes : Spelled → Spelled → Type 0
Writes (Err errors.Memory) spelled = Unit {0}
Writes (Err errors.TooDeep) spelled = spelled ≡ Err errors.TooDeep
Writes (Ok text) spelled = spelled ≡ Ok text
