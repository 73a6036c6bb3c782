-- The tokens of leaves, of puts and gets, and of opcodes that stand alone.
use Rattle.std.proofs.Common.{◌≡◌, ℕ, ◌^◌, ◌<◌, ℤ, pos, negsuc, Bool, true, false, List, [], ◌∷◌, ◌++◌, length, Some, refl, arith, sym, ◌∙◌, ap, ltb, inl, inr, ◌⊎◌}
use Rattle.std.specs.Int.{w32, w128, cast_unsigned}
use Rattle.std.specs.Str.{is_utf8}
use Rattle.std.proofs.lemmas.List.{append-nil}
use Rattle.std.proofs.lemmas.Bool.{lt-ltb}
use Rattle.byteorder.specs.Endian.{little_bytes, little_number, low_bytes, twos_complement}
use Rattle.byteorder.specs.Numbers.{little_number-reads_back, length-bytes_low_first}
use Rattle.pickle_ops.specs.declared.table.Op.{Op}
use Rattle.pickle_ops.specs.declared.table.Op.TheVariants as ops
use Rattle.pickle_ops.specs.declared.table.Kind.{Kind}
use Rattle.pickle_ops.specs.declared.table.Kind.TheVariants as args
use Rattle.pickle_ops.specs.declared.table.TheConstants.{TABLE}
use Rattle.pickle_ops.specs.Rows.{row_in}
use Rattle.pickle_ops.specs.Grammar.{IsGlobalLine, IsArgument}
use Rattle.pickle_graph.specs.declared.node.Node.{Node}
use Rattle.pickle_graph.specs.declared.node.Node.TheVariants as kinds
use Rattle.pickle_graph.specs.Graph.{IsNode}
use Rattle.pickle_graph.specs.Parts.{is_held}
use Rattle.pickle_reading.specs.Reading.{is_stop}
use Rattle.pickle_writing.specs.Spelling.{long_size, long_text, number_text, counted_text, leaf_text, put_text, get_text}
use Rattle.zb_record.proofs.Tokens.{Tok}

-- a token of this text
pub record TokOf (text : List ℕ) : Type 0 where
  pub tok : Tok
  pub is : tok.text ≡ text

pub cases_bool : (b : Bool) → (b ≡ true) ⊎ (b ≡ false)
cases_bool true = inl refl
cases_bool false = inr refl

-- an opcode with an argument that ends with its bytes
abbrev made : (byte : ℕ) (op : Op) (kind : Kind) (front held : List ℕ) (number : ℤ) → row_in TABLE.rows byte ≡ Some (record { byte = byte; op = op; kind = kind }) → is_stop op ≡ false → IsArgument kind (front ++ held) number held → TokOf (byte ∷ (front ++ held))
made byte op kind front held number listed on says = record {
  tok = record {
    text = byte ∷ (front ++ held);
    op = op;
    number = number;
    held = held;
    spells = record {
      token = record { row = record { byte = byte; op = op; kind = kind }; argument = front ++ held; listed = listed; named = refl; spelled = refl; says = says };
      front = byte ∷ front;
      split = refl;
      on = on;
    };
  };
  is = refl;
}

-- an opcode alone
pub alone : (byte : ℕ) (op : Op) → row_in TABLE.rows byte ≡ Some (record { byte = byte; op = op; kind = args.Nothing }) → is_stop op ≡ false → TokOf (byte ∷ [])
alone byte op listed on = made byte op args.Nothing [] [] (pos 0) listed on (record { long = refl; says = refl; whole = refl })

pub byte_value : (n : ℕ) → little_number 1 (n ∷ []) ≡ n
byte_value n = omega arith

read_back : (size n : ℕ) → n < 256 ^ size → little_number size (little_bytes size n) ≡ n
read_back size n h = ap (little_number size) (sym (append-nil (little_bytes size n))) ∙ little_number-reads_back size n [] h

-- ---- numbers

unsigned1 : (byte n : ℕ) (op : Op) → row_in TABLE.rows byte ≡ Some (record { byte = byte; op = op; kind = args.Unsigned1 }) → is_stop op ≡ false → TokOf (byte ∷ n ∷ [])
unsigned1 byte n op listed on = made byte op args.Unsigned1 [] (n ∷ []) (pos (little_number 1 (n ∷ []))) listed on (record { long = refl; says = refl; whole = refl })

unsigned4 : (byte n : ℕ) (op : Op) → row_in TABLE.rows byte ≡ Some (record { byte = byte; op = op; kind = args.Unsigned4 }) → is_stop op ≡ false → TokOf (byte ∷ little_bytes 4 n)
unsigned4 byte n op listed on = made byte op args.Unsigned4 [] (little_bytes 4 n) (pos (little_number 4 (little_bytes 4 n))) listed on (record { long = length-bytes_low_first 0 4 n; says = refl; whole = refl })

short_tok : (n : ℕ) → TokOf (0x4d ∷ little_bytes 2 n)
short_tok n = made 0x4d ops.BinInt2 args.Unsigned2 [] (little_bytes 2 n) (pos (little_number 2 (little_bytes 2 n))) refl refl (record { long = length-bytes_low_first 0 2 n; says = refl; whole = refl })

word_tok : (n : ℕ) → TokOf (0x4a ∷ little_bytes 4 n)
word_tok n = made 0x4a ops.BinInt args.Signed4 [] (little_bytes 4 n) (twos_complement 4 (little_number 4 (little_bytes 4 n))) refl refl (record { long = length-bytes_low_first 0 4 n; says = refl; whole = refl })

long_tok : (z : ℤ) → TokOf (long_text z)
long_tok z =
    let bytes : List ℕ = little_bytes (long_size z) (low_bytes w128 (long_size z) z) in
    let len : length bytes ≡ long_size z = length-bytes_low_first 0 (long_size z) (low_bytes w128 (long_size z) z) in
    made 0x8a ops.Long1 args.Counted1 (long_size z ∷ []) bytes (pos 0) refl refl (record { head = long_size z ∷ []; spelled = refl; long = refl; count = ap pos (byte_value (long_size z) ∙ sym len); none = refl })

number_tok : (z : ℤ) → TokOf (number_text z)
number_tok (pos n) = elim (cases_bool (ltb n (2 ^ 8))) [
  | inl a ↦ rw a (unsigned1 0x4b n ops.BinInt1 refl refl)
  | inr a ↦ elim (cases_bool (ltb n (2 ^ 16))) [
    | inl b ↦ rw (a, b) (short_tok n)
    | inr b ↦ elim (cases_bool (ltb n (2 ^ 31))) [
      | inl d ↦ rw (a, b, d) (word_tok n)
      | inr d ↦ rw (a, b, d) (long_tok (pos n))
    ]
  ]
]
number_tok (negsuc n) = elim (cases_bool (ltb n (2 ^ 31))) [
  | inl d ↦ rw d (word_tok (cast_unsigned w32 (negsuc n)))
  | inr d ↦ rw d (long_tok (negsuc n))
]

-- ---- counted bytes

abbrev pub counted1 : (byte : ℕ) (op : Op) (bytes : List ℕ) → row_in TABLE.rows byte ≡ Some (record { byte = byte; op = op; kind = args.Counted1 }) → is_stop op ≡ false → TokOf (byte ∷ length bytes ∷ bytes)
counted1 byte op bytes listed on = made byte op args.Counted1 (length bytes ∷ []) bytes (pos 0) listed on (record { head = length bytes ∷ []; spelled = refl; long = refl; count = ap pos (byte_value (length bytes)); none = refl })

twos_word : (n : ℕ) → n < 2 ^ 31 → twos_complement 4 n ≡ pos n
twos_word n h = let e = lt-ltb n (2 ^ 31) h in rw e refl

signed_counted4 : (byte : ℕ) (op : Op) (bytes : List ℕ) → length bytes < 2 ^ 31 → row_in TABLE.rows byte ≡ Some (record { byte = byte; op = op; kind = args.SignedCounted4 }) → is_stop op ≡ false → TokOf (byte ∷ (little_bytes 4 (length bytes) ++ bytes))
signed_counted4 byte op bytes small listed on = made byte op args.SignedCounted4 (little_bytes 4 (length bytes)) bytes (pos 0) listed on (record {
  head = little_bytes 4 (length bytes);
  spelled = refl;
  long = length-bytes_low_first 0 4 (length bytes);
  count = ap (twos_complement 4) (read_back 4 (length bytes) (omega (arith, small))) ∙ twos_word (length bytes) small;
  none = refl;
})

wide_tok : (bytes : List ℕ) → length bytes < 2 ^ 31 → TokOf (counted_text 0x8a 0x8b bytes)
wide_tok bytes small = elim (cases_bool (ltb (length bytes) (2 ^ 8))) [
  | inl a ↦ rw a (counted1 0x8a ops.Long1 bytes refl refl)
  | inr a ↦ rw a (signed_counted4 0x8b ops.Long4 bytes small refl refl)
]

old_tok : (bytes : List ℕ) → length bytes < 2 ^ 31 → TokOf (counted_text 0x55 0x54 bytes)
old_tok bytes small = elim (cases_bool (ltb (length bytes) (2 ^ 8))) [
  | inl a ↦ rw a (counted1 0x55 ops.ShortBinString bytes refl refl)
  | inr a ↦ rw a (signed_counted4 0x54 ops.BinString bytes small refl refl)
]

bytes_tok : (bytes : List ℕ) → length bytes < 2 ^ 32 → TokOf (counted_text 0x43 0x42 bytes)
bytes_tok bytes small = elim (cases_bool (ltb (length bytes) (2 ^ 8))) [
  | inl a ↦ rw a (counted1 0x43 ops.ShortBinBytes bytes refl refl)
  | inr a ↦ rw a (made 0x42 ops.BinBytes args.Counted4 (little_bytes 4 (length bytes)) bytes (pos 0) refl refl (record { head = little_bytes 4 (length bytes); spelled = refl; long = length-bytes_low_first 0 4 (length bytes); count = ap pos (read_back 4 (length bytes) small); none = refl }))
]

text_tok : (bytes : List ℕ) → is_utf8 bytes ≡ true → length bytes < 2 ^ 32 → TokOf (0x58 ∷ (little_bytes 4 (length bytes) ++ bytes))
text_tok bytes utf8 small = made 0x58 ops.BinUnicode args.Text4 (little_bytes 4 (length bytes)) bytes (pos 0) refl refl
    (record { head = little_bytes 4 (length bytes); spelled = refl; long = length-bytes_low_first 0 4 (length bytes); count = ap pos (read_back 4 (length bytes) small); none = refl }, utf8)

float_tok : (bytes : List ℕ) → length bytes ≡ 8 → TokOf (0x47 ∷ bytes)
float_tok bytes eight = made 0x47 ops.BinFloat args.Float8 [] bytes (pos 0) refl refl (record { long = eight; says = refl; whole = refl })

global_tok : (first second : List ℕ) → IsGlobalLine first → IsGlobalLine second → TokOf (0x63 ∷ (first ++ 10 ∷ (second ++ 10 ∷ [])))
global_tok first second f g =
    made 0x63 ops.Global args.TwoLines [] (first ++ 10 ∷ (second ++ 10 ∷ [])) (pos 0) refl refl (record { first = first; second = second; module_line = f; name_line = g; spelled = refl; none = refl; whole = refl })

-- the text of a leaf is a token
pub leaf_tok : (ns : List Node) (node : Node) → IsNode ns node → is_held node ≡ false → TokOf (leaf_text node)
leaf_tok ns kinds.None h l = alone 0x4e ops.None refl refl
leaf_tok ns (kinds.Bool true) h l = alone 0x88 ops.NewTrue refl refl
leaf_tok ns (kinds.Bool false) h l = alone 0x89 ops.NewFalse refl refl
leaf_tok ns (kinds.Number z) h l = number_tok z
leaf_tok ns (kinds.Wide bytes) h l = wide_tok bytes h.short
leaf_tok ns (kinds.Float bytes) h l = float_tok bytes h
leaf_tok ns (kinds.Bytes bytes) h l = bytes_tok bytes h
leaf_tok ns (kinds.OldText bytes) h l = old_tok bytes h
leaf_tok ns (kinds.Text bytes) h l = text_tok bytes h.utf8 h.short
leaf_tok ns (kinds.Tuple []) h l = alone 0x29 ops.EmptyTuple refl refl
leaf_tok ns (kinds.Tuple (item ∷ items)) h l = absurd cc
leaf_tok ns (kinds.List items) h l = absurd cc
leaf_tok ns (kinds.Dict pairs) h l = absurd cc
leaf_tok ns (kinds.Global first second) h l = global_tok first second h.first h.second
leaf_tok ns (kinds.Reference id) h l = absurd cc
leaf_tok ns (kinds.Object callee arguments by_new acts) h l = absurd cc

-- ---- eight bytes

abbrev pub eight_tok : List ℕ → Tok
eight_tok bytes = (counted1 0x43 ops.ShortBinBytes bytes refl refl).tok

pub eight_text : (bytes : List ℕ) → length bytes ≡ 8 → (eight_tok bytes).text ≡ leaf_text (kinds.Bytes bytes)
eight_text bytes e = let short : ltb (length bytes) (2 ^ 8) ≡ true = lt-ltb (length bytes) (2 ^ 8) (omega (arith, e)) in rw short refl

-- ---- puts, gets, and the version

pub put_tok : (k : ℕ) → TokOf (put_text k)
put_tok k = elim (cases_bool (ltb k (2 ^ 8))) [
  | inl a ↦ rw a (unsigned1 0x71 k ops.BinPut refl refl)
  | inr a ↦ rw a (unsigned4 0x72 k ops.LongBinPut refl refl)
]

pub get_tok : (k : ℕ) → TokOf (get_text k)
get_tok k = elim (cases_bool (ltb k (2 ^ 8))) [
  | inl a ↦ rw a (unsigned1 0x68 k ops.BinGet refl refl)
  | inr a ↦ rw a (unsigned4 0x6a k ops.LongBinGet refl refl)
]

abbrev pub version_tok : TokOf (0x80 ∷ 3 ∷ [])
version_tok = made 0x80 ops.Proto args.Version [] (3 ∷ []) (pos 3) refl refl (record { long = refl; says = refl; whole = refl }, omega arith)
