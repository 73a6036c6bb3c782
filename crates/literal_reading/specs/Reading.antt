-- Reading literals, as functions on lists.
use Rattle.std.specs.Prelude.{◌≡◌, ℕ, ℤ, zero, suc, ◌+◌, ◌*◌, ◌^◌, List, [], ◌∷◌, ◌++◌, length, slice_index, take, drop, Option, Some, None, Bool, true, false, Result, Ok, Err, codes, not, ◌&&◌, ◌||◌, nat_lt, nat_le, ◌==◌, if◌then◌else◌}
use Rattle.std.specs.Char.{encode_utf8}
use Rattle.std.proofs.Math.Utf8.{scalar}
use Rattle.std.specs.Char.Escape.{escape_unicode}
use Rattle.std.specs.Fmt.{signed_decimal}
use Rattle.std.specs.Str.{bytes_eq, is_utf8}
use Rattle.std.specs.Str.Parse.{signed_digits_value}
use Rattle.zb_ids.specs.Hex.{◌>>=◌, bytes_at, digit_value, pair_value}
use Rattle.pickle_graph.specs.declared.node.Node.{Node}
use Rattle.pickle_graph.specs.declared.node.Node.TheVariants as kinds
use Rattle.pickle_writing.specs.Spelling.{magnitude_of}
use Rattle.literal_reading.specs.declared.error.LiteralError.{LiteralError}
use Rattle.literal_reading.specs.declared.error.LiteralError.TheVariants as errors
use Rattle.literal_reading.specs.declared.form.Form.{Form}
use Rattle.zb_literals.specs.Texts.{is_plain, is_quoted, is_name_byte}
use Rattle.zb_literals.specs.Values.{leaf, tuple, reference, no_values, value}
use Rattle.zb_literals.specs.Graphs.{last_of, with_value}

-- What a function returned, seen by view, is what reading gives, unless memory ran out.
abbrev pub RefusesLiteral : {Y : Type 0} → LiteralError → Option Y → Type 0
RefusesLiteral errors.Memory read = Unit {0}
RefusesLiteral errors.NotLiteral read = read ≡ None

abbrev pub ReadsLiteral : {X Y : Type 0} → (X → Y) → Result X LiteralError → Option Y → Type 0
ReadsLiteral view (Ok x) read = read ≡ Some (view x)
ReadsLiteral view (Err e) read = RefusesLiteral e read

abbrev pub if_some : {A B : Type 0} → Option A → (A → Option B) → Option B → Option B
if_some (Some x) f other = f x
if_some None f other = other

-- what stands behind a word
unfoldable pub rest_behind : List ℕ → List ℕ → Option (List ℕ)
rest_behind word bytes = if bytes_eq (take (length word) bytes) word then Some (drop (length word) bytes) else None

abbrev pub one_at : List ℕ → Option (ℕ × List ℕ)
one_at [] = None
one_at (b ∷ bytes) = Some (b, bytes)

-- ---- words

-- a digit of a number in decimal or of bytes, or the sign
abbrev pub is_word_byte : ℕ → Bool
is_word_byte b = b == 45 || (nat_le 48 b && nat_le b 57) || (nat_le 97 b && nat_le b 102)

abbrev pub word_of : List ℕ → List ℕ
word_of [] = []
word_of (b ∷ bytes) = if is_word_byte b then b ∷ word_of bytes else []

abbrev pub rest_of_word : List ℕ → List ℕ
rest_of_word [] = []
rest_of_word (b ∷ bytes) = if is_word_byte b then rest_of_word bytes else b ∷ bytes

-- the number that a word is the literal of
unfoldable pub number_of_word : List ℕ → Option ℤ
number_of_word word =
    if nat_lt (magnitude_of (signed_digits_value 10 word)) (2 ^ 127) && bytes_eq word (signed_decimal (signed_digits_value 10 word))
    then Some (signed_digits_value 10 word) else None

abbrev pub Leaf : Type 0
Leaf = Option (Node × List ℕ)

unfoldable pub number_leaf_at : List ℕ → Leaf
number_leaf_at bytes = do
  number ← number_of_word (word_of bytes)
  Some (kinds.Number number, rest_of_word bytes)

-- the bytes that a word of digits spells, of which there are some number
unfoldable pub counted_at : (ℕ → Bool) → List ℕ → Option (List ℕ × List ℕ)
counted_at fits bytes = do
  held ← bytes_at (word_of bytes)
  if fits (length held) then Some (held, rest_of_word bytes) else None

-- ---- texts

-- the number that digits spell behind others, up to `}`
abbrev pub code_at : ℕ → List ℕ → Option ℕ
code_at code [] = None
code_at code (b ∷ bytes) =
    if b == 125 then Some code
    else if nat_lt 0x10ffff code then None
    else (digit_value b >>= λ digit. code_at (16 * code + digit) bytes)

-- a character that doesn't stand for itself, by its one escape
unfoldable pub escape_at : List ℕ → List ℕ → Option (ℕ × List ℕ)
escape_at bytes digits = do
  code ← code_at 0 digits
  if scalar code && not (is_plain code) then (rest_behind (escape_unicode code) bytes >>= λ rest. Some (code, rest)) else None

unfoldable pub quoted_at : List ℕ → Option (ℕ × List ℕ)
quoted_at bytes = do
  one ← one_at bytes
  if is_quoted one.0 then Some one else None

unfoldable pub plain_at : List ℕ → Option (ℕ × List ℕ)
plain_at bytes = do
  one ← one_at bytes
  if is_plain one.0 && not (is_quoted one.0) then Some one else None

unfoldable pub character_at : List ℕ → Option (ℕ × List ℕ)
character_at bytes = if_some (rest_behind (codes "\\u{") bytes) (escape_at bytes) (if_some (rest_behind (codes "\\") bytes) quoted_at (plain_at bytes))

unfoldable pub byte_pair_at : List ℕ → Option (ℕ × List ℕ)
byte_pair_at bytes = do
  high ← one_at bytes
  low ← one_at high.1
  byte ← pair_value high.0 low.0
  if is_name_byte byte || byte == 10 then None else Some (byte, low.1)

unfoldable pub name_byte_plain : List ℕ → Option (ℕ × List ℕ)
name_byte_plain bytes = do
  one ← one_at bytes
  if is_name_byte one.0 then Some one else None

unfoldable pub name_byte_at : List ℕ → Option (ℕ × List ℕ)
name_byte_at bytes = if_some (rest_behind (codes "\\x") bytes) byte_pair_at (name_byte_plain bytes)

-- Characters up to one at which they stop, put behind others. The number bounds how many there are.
abbrev pub until_at : ℕ → (ℕ → List ℕ) → (List ℕ → Option (ℕ × List ℕ)) → ℕ → List ℕ → List ℕ → Option (List ℕ × List ℕ)
until_at stop held one zero front bytes = None
until_at stop held one (suc n) front bytes =
    if_some (rest_behind (stop ∷ []) bytes) (λ rest. Some (front, rest))
    (one bytes >>= λ read. until_at stop held one n (front ++ held read.0) read.1)

unfoldable pub characters_at : List ℕ → List ℕ → Option (List ℕ × List ℕ)
characters_at front bytes = until_at 34 encode_utf8 character_at (suc (length bytes)) front bytes

unfoldable pub name_bytes_at : ℕ → List ℕ → List ℕ → Option (List ℕ × List ℕ)
name_bytes_at stop front bytes = until_at stop (λ b. b ∷ []) name_byte_at (suc (length bytes)) front bytes

unfoldable pub text_at : List ℕ → Leaf
text_at bytes = do
  read ← characters_at [] bytes
  if nat_lt (length read.0) (2 ^ 32) then Some (kinds.Text read.0, read.1) else None

unfoldable pub name_line_at : ℕ → List ℕ → Option (List ℕ × List ℕ)
name_line_at stop bytes = do
  read ← name_bytes_at stop [] bytes
  if is_utf8 read.0 then Some read else None

unfoldable pub global_at : List ℕ → Leaf
global_at bytes = do
  first ← name_line_at 58 bytes
  second ← name_line_at 62 first.1
  Some (kinds.Global first.0 second.0, second.1)

-- ---- leaves

abbrev pub held_as : (List ℕ → Node) → Option (List ℕ × List ℕ) → Leaf
held_as kind None = None
held_as kind (Some read) = Some (kind read.0, read.1)

abbrev pub is_wide_size : ℕ → Bool
is_wide_size n = nat_lt 16 n && nat_lt n (2 ^ 31)

abbrev pub is_float_size : ℕ → Bool
is_float_size n = n == 8

abbrev pub is_bytes_size : ℕ → Bool
is_bytes_size n = nat_lt n (2 ^ 32)

abbrev pub is_old_size : ℕ → Bool
is_old_size n = nat_lt n (2 ^ 31)

-- how a number begins
abbrev pub begins_number : List ℕ → Bool
begins_number bytes = slice_index bytes 0 == 45 || (nat_le 48 (slice_index bytes 0) && nat_le (slice_index bytes 0) 57)

-- None, True and False
unfoldable pub constant_at : List ℕ → Leaf
constant_at bytes =
    if_some (rest_behind (codes "None") bytes) (λ rest. Some (kinds.None, rest))
    (if_some (rest_behind (codes "True") bytes) (λ rest. Some (kinds.Bool true, rest))
    (if_some (rest_behind (codes "False") bytes) (λ rest. Some (kinds.Bool false, rest)) None))

unfoldable pub bytes_kind_at : List ℕ → Leaf
bytes_kind_at bytes =
    if_some (rest_behind (codes "n:") bytes) (λ rest. held_as kinds.Wide (counted_at is_wide_size rest))
    (if_some (rest_behind (codes "f:") bytes) (λ rest. held_as kinds.Float (counted_at is_float_size rest))
    (if_some (rest_behind (codes "b:") bytes) (λ rest. held_as kinds.Bytes (counted_at is_bytes_size rest))
    (if_some (rest_behind (codes "s:") bytes) (λ rest. held_as kinds.OldText (counted_at is_old_size rest)) (constant_at bytes))))

unfoldable pub leaf_at : List ℕ → Leaf
leaf_at bytes =
    if begins_number bytes then number_leaf_at bytes
    else if_some (rest_behind (codes "\"") bytes) text_at (if_some (rest_behind (codes "<") bytes) global_at (bytes_kind_at bytes))

-- ---- values

-- nodes, of which the last is the value; what can stand in a reference; and what follows
abbrev pub ReadNodes : Type 0
ReadNodes = Option (List Node × Form × List ℕ)

abbrev pub plain_form : Form
plain_form = record { oid = false; global = false; short = false }

-- an oid, a global, or another leaf
abbrev pub leaf_form : Node → Form
leaf_form (kinds.Bytes bytes) = record { oid = length bytes == 8; global = false; short = length bytes == 8 }
leaf_form (kinds.Global module_line name_line) = record { oid = false; global = true; short = false }
leaf_form _ = plain_form

-- a tuple of two
abbrev pub pair_form : Form → Form → Form
pair_form one other = record { oid = false; global = false; short = one.oid && other.global }

unfoldable pub leaf_found : List Node → List ℕ → ReadNodes
leaf_found nodes bytes = do
  one ← leaf_at bytes
  Some (nodes ++ one.0 ∷ [], leaf_form one.0, one.1)

abbrev pub ReadPiece : Type 0
ReadPiece = List Node → List ℕ → ReadNodes

-- Nodes, items of the kind X, and what follows
abbrev pub Listed : Type 0 → Type 0
Listed X = Option (List Node × List X × List ℕ)

-- one more item
unfoldable pub item_at : ReadPiece → List Node → List ℕ → List ℕ → Listed ℕ
item_at piece nodes items bytes = do
  read ← piece nodes bytes
  Some (read.0, items ++ last_of read.0 ∷ [], read.2)

-- one more key and value
unfoldable pub pair_at : ReadPiece → List Node → List (ℕ × ℕ) → List ℕ → Listed (ℕ × ℕ)
pair_at piece nodes items bytes = do
  key ← piece nodes bytes
  rest ← rest_behind (codes ":") key.2
  read ← piece key.0 rest
  Some (read.0, items ++ (last_of key.0, last_of read.0) ∷ [], read.2)

-- Further items, each behind a comma. The number bounds how many there are.
abbrev pub many_at : {X : Type 0} → (List Node → List X → List ℕ → Listed X) → ℕ → List Node → List X → List ℕ → Listed X
many_at one zero nodes items bytes = None
many_at one (suc n) nodes items bytes =
    if_some (rest_behind (codes ",") bytes) (λ rest. one nodes items rest >>= λ read. many_at one n read.0 read.1 read.2)
    (Some (nodes, items, bytes))

unfoldable pub values_at : ReadPiece → List Node → List ℕ → List ℕ → Listed ℕ
values_at piece nodes items bytes = many_at (item_at piece) (suc (length bytes)) nodes items bytes

unfoldable pub pairs_at : ReadPiece → List Node → List (ℕ × ℕ) → List ℕ → Listed (ℕ × ℕ)
pairs_at piece nodes items bytes = many_at (pair_at piece) (suc (length bytes)) nodes items bytes

-- behind a first item and its comma: the end, or further items
unfoldable pub tuple_rest_at : ReadPiece → List Node → Form → List ℕ → ReadNodes
tuple_rest_at piece nodes form bytes =
    if_some (rest_behind (codes ")") bytes) (λ rest. Some (nodes ++ kinds.Tuple (last_of nodes ∷ []) ∷ [], plain_form, rest)) (do
      second ← piece nodes bytes
      more ← values_at piece second.0 (last_of nodes ∷ last_of second.0 ∷ []) second.2
      rest ← rest_behind (codes ")") more.2
      Some (more.0 ++ kinds.Tuple more.1 ∷ [], (if length more.1 == 2 then pair_form form second.1 else plain_form), rest))

unfoldable pub tuple_at : ReadPiece → List Node → List ℕ → ReadNodes
tuple_at piece nodes bytes =
    if_some (rest_behind (codes ")") bytes) (λ rest. Some (nodes ++ kinds.Tuple [] ∷ [], plain_form, rest)) (do
      first ← piece nodes bytes
      rest ← rest_behind (codes ",") first.2
      tuple_rest_at piece first.0 first.1 rest)

unfoldable pub list_at : ReadPiece → List Node → List ℕ → ReadNodes
list_at piece nodes bytes =
    if_some (rest_behind (codes "]") bytes) (λ rest. Some (nodes ++ kinds.List [] ∷ [], plain_form, rest)) (do
      first ← item_at piece nodes [] bytes
      more ← values_at piece first.0 first.1 first.2
      rest ← rest_behind (codes "]") more.2
      Some (more.0 ++ kinds.List more.1 ∷ [], plain_form, rest))

unfoldable pub dict_at : ReadPiece → List Node → List ℕ → ReadNodes
dict_at piece nodes bytes =
    if_some (rest_behind (codes "}") bytes) (λ rest. Some (nodes ++ kinds.Dict [] ∷ [], plain_form, rest)) (do
      first ← pair_at piece nodes [] bytes
      more ← pairs_at piece first.0 first.1 first.2
      rest ← rest_behind (codes "}") more.2
      Some (more.0 ++ kinds.Dict more.1 ∷ [], plain_form, rest))

-- an id that has no shorter form
unfoldable pub reference_at : ReadPiece → List Node → List ℕ → ReadNodes
reference_at piece nodes bytes = do
  id ← piece nodes bytes
  rest ← rest_behind (codes ")") id.2
  if id.1.short then None else Some (id.0 ++ kinds.Reference (last_of id.0) ∷ [], plain_form, rest)

-- an oid, and a global where one follows. So many edges may lead on from here.
unfoldable pub address_at : ℕ → List Node → List ℕ → ReadNodes
address_at levels nodes bytes = do
  oid ← counted_at is_float_size bytes
  if_some (rest_behind (codes "<") oid.1)
      (λ rest. if nat_lt levels 2 then None else (global_at rest >>= λ class.
      Some (with_value nodes (reference (tuple (value (leaf (kinds.Bytes oid.0)) (value (leaf class.0) no_values)))), plain_form, class.1)))
      (if nat_lt levels 1 then None else Some (with_value nodes (reference (leaf (kinds.Bytes oid.0))), plain_form, oid.1))

unfoldable pub shape_at : ℕ → ReadPiece → List Node → List ℕ → ReadNodes
shape_at levels piece nodes bytes =
    if_some (rest_behind (codes "(") bytes) (tuple_at piece nodes)
    (if_some (rest_behind (codes "[") bytes) (list_at piece nodes)
    (if_some (rest_behind (codes "{") bytes) (dict_at piece nodes)
    (if_some (rest_behind (codes "ref(") bytes) (reference_at piece nodes)
    (if_some (rest_behind (codes "@") bytes) (address_at levels nodes) (leaf_found nodes bytes)))))

-- a value from which each walk has fewer edges than there are levels
unfoldable pub value_at : ℕ → List Node → List ℕ → ReadNodes
value_at zero nodes bytes = None
value_at (suc levels) nodes bytes = if begins_number bytes then leaf_found nodes bytes else shape_at levels (value_at levels) nodes bytes

-- the nodes of the value that all of the bytes spell
unfoldable pub literal_at : ℕ → List ℕ → Option (List Node)
literal_at levels bytes = do
  read ← value_at levels [] bytes
  if length read.2 == 0 then Some read.0 else None
