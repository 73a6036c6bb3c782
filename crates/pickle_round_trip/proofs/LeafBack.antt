-- The text of a leaf makes the leaf.
use Rattle.std.proofs.Common.{◌≡◌, ℕ, zero, suc, ◌+◌, ◌-◌, ◌*◌, ◌^◌, ◌%◌, ◌<◌, ◌≤◌, ℤ, pos, negsuc, Bool, true, false, cond, List, [], ◌∷◌, ◌++◌, length, Option, Some, refl, arith, sym, ◌∙◌, ap, subst, ltb, inl, inr}
use Rattle.std.specs.Int.{w32, w128, cast_unsigned}
use Rattle.std.specs.Str.{is_utf8}
use Rattle.std.proofs.lemmas.List.{append-nil}
use Rattle.std.proofs.lemmas.Bool.{lt-ltb, le-ltb, ltb-true}
use Rattle.std.proofs.lemmas.Int.{ints}
use Rattle.std.proofs.lemmas.Nat.{pow-add}
use Rattle.std.proofs.Math.Nat.{mod-eq_of_lt, mul-add-mod_self_right, one-le-pow, add-mul}
use Rattle.byteorder.specs.Endian.{little_bytes, little_number, low_bytes, twos_complement}
use Rattle.byteorder.specs.Numbers.{little_number-reads_back, length-bytes_low_first}
use Rattle.pickle_ops.specs.declared.table.Op.{Op}
use Rattle.pickle_ops.specs.declared.table.Op.TheVariants as ops
use Rattle.pickle_ops.specs.declared.table.Kind.TheVariants as args
use Rattle.pickle_ops.specs.declared.table.Row.{Row}
use Rattle.pickle_ops.specs.declared.table.TheConstants.{TABLE}
use Rattle.pickle_ops.specs.Rows.{row_in}
use Rattle.pickle_ops.specs.Grammar.{IsGlobalLine, IsArgument, SpellsCounted, unsigned_value, signed_value}
use Rattle.pickle_graph.specs.declared.node.Node.{Node}
use Rattle.pickle_graph.specs.declared.node.Node.TheVariants as kinds
use Rattle.pickle_graph.specs.Graph.{IsNode, IsSigned128}
use Rattle.pickle_reading.specs.Reading.{is_stop}
use Rattle.pickle_reading.specs.Leaves.{long_number, long_of, leaf_of, first_line, behind_line}
use Rattle.pickle_graph.specs.Parts.{is_held}
use Rattle.pickle_writing.specs.Spelling.{fewest, magnitude_of, long_size, long_text, number_text, counted_text, leaf_text}
use Rattle.pickle_reading.specs.LineLaws.{first-line, behind-line}
use Rattle.pickle_round_trip.proofs.Going.{Spells}
use Rattle.pickle_graph.specs.WalkLaws.{cases_bool}

-- the text spells one token, and the token makes the node
pub record MakesLeaf (node : Node) (text : List ℕ) : Type 0 where
  pub op : Op
  pub number : ℤ
  pub held : List ℕ
  pub spells : Spells text op number held
  pub makes : leaf_of op number held ≡ Some node

leaf_to : (node : Node) (t u : List ℕ) → t ≡ u → MakesLeaf node t → MakesLeaf node u
leaf_to node t u e m = subst (λ (x : List ℕ). MakesLeaf node x) e m

-- the leaf that one token of a row makes: what stands behind its byte and before the bytes that it has, its number, and these bytes
by_row : {node : Node} (row : Row) (head : List ℕ) (number : ℤ) (held : List ℕ) → row_in TABLE.rows row.byte ≡ Some row → IsArgument row.kind (head ++ held) number held
    → is_stop row.op ≡ false → leaf_of row.op number held ≡ Some node → MakesLeaf node (row.byte ∷ (head ++ held))
by_row row head number held listed says on makes = record {
  op = row.op;
  number = number;
  held = held;
  spells = record { token = record { row = row; argument = head ++ held; listed = listed; named = refl; spelled = refl; says = says }; front = row.byte ∷ head; split = refl; on = on };
  makes = makes;
}

-- a row without an argument
bare : {node : Node} (row : Row) → row.kind ≡ args.Nothing → row_in TABLE.rows row.byte ≡ Some row → is_stop row.op ≡ false → leaf_of row.op (pos 0) [] ≡ Some node → MakesLeaf node (row.byte ∷ [])
bare row none listed on makes = by_row row [] (pos 0) [] listed (rw none (record { long = refl; says = refl; whole = refl })) on makes

-- ---- numbers

pub byte_value : (n : ℕ) → little_number 1 (n ∷ []) ≡ n
byte_value n = omega arith

pub read_back : (size n : ℕ) → n < 256 ^ size → little_number size (little_bytes size n) ≡ n
read_back size n h = ap (little_number size) (sym (append-nil (little_bytes size n))) ∙ little_number-reads_back size n [] h

byte_leaf : (n : ℕ) → MakesLeaf (kinds.Number (pos n)) (0x4b ∷ n ∷ [])
byte_leaf n = by_row (record { byte = 0x4b; op = ops.BinInt1; kind = args.Unsigned1 }) [] (pos n) (n ∷ []) refl (record { long = refl; says = ap pos (sym (byte_value n)); whole = refl }) refl refl

short_leaf : (n : ℕ) → n < 2 ^ 16 → MakesLeaf (kinds.Number (pos n)) (0x4d ∷ little_bytes 2 n)
short_leaf n small =
    by_row (record { byte = 0x4d; op = ops.BinInt2; kind = args.Unsigned2 }) [] (pos n) (little_bytes 2 n) refl
    (record { long = length-bytes_low_first 0 2 n; says = ap pos (sym (read_back 2 n small)); whole = refl }) refl refl

word_leaf : (n : ℕ) (z : ℤ) → n < 2 ^ 32 → twos_complement 4 n ≡ z → MakesLeaf (kinds.Number z) (0x4a ∷ little_bytes 4 n)
word_leaf n z small is =
    by_row (record { byte = 0x4a; op = ops.BinInt; kind = args.Signed4 }) [] z (little_bytes 4 n) refl
    (record { long = length-bytes_low_first 0 4 n; says = sym (ap (twos_complement 4) (read_back 4 n small) ∙ is); whole = refl }) refl refl

-- ---- long numbers

pub record IsFewest (size n : ℕ) : Type 0 where
  pub low : 5 ≤ size
  pub high : size ≤ 16
  pub fits : n < 2 ^ (8 * size - 1)

fewest-fits : (more size n : ℕ) → 5 ≤ size → size + more ≡ 16 → n < 2 ^ 127 → IsFewest (fewest more size n) n
fewest-fits zero size n low sum h =
    let e : 127 ≡ 8 * size - 1 = omega arith in
    record { low = low; high = omega arith; fits = subst (λ (k : ℕ). n < 2 ^ k) e h }
fewest-fits (suc more) size n low sum h = elim (cases_bool (ltb n (2 ^ (8 * size - 1)))) [
  | inl e ↦ rw e (record { low = low; high = omega arith; fits = ltb-true n (2 ^ (8 * size - 1)) e })
  | inr e ↦ rw e (fewest-fits more (size + 1) n (omega arith) (omega arith) h)
]

pow256 : (n : ℕ) → 256 ^ n ≡ 2 ^ (8 * n)
pow256 zero = refl
pow256 (suc n) =
    let one : suc n ≡ n + 1 = omega arith in
    let eight : 8 * n + 8 ≡ 8 * suc n = omega arith in
    let more : 256 ^ (n + 1) ≡ 256 ^ n * 256 ^ 1 = pow-add 256 n 1 in
    ap (λ k. 256 ^ k) one ∙ more ∙ ap (λ k. k * 256) (pow256 n) ∙ sym (pow-add 2 (8 * n) 8) ∙ ap (λ k. 2 ^ k) eight

double : (size : ℕ) → 5 ≤ size → 2 ^ (8 * size) ≡ 2 ^ (8 * size - 1) * 2
double size h =
    let e : 8 * size - 1 + 1 ≡ 8 * size = omega arith in
    ap (λ k. 2 ^ k) (sym e) ∙ pow-add 2 (8 * size - 1) 1

split128 : (size : ℕ) → size ≤ 16 → 2 ^ 128 ≡ 2 ^ (128 - 8 * size) * 2 ^ (8 * size)
split128 size h =
    let e : 128 ≡ 128 - 8 * size + 8 * size = omega arith in
    ap (λ k. 2 ^ k) e ∙ pow-add 2 (128 - 8 * size) (8 * size)

-- a number below a power, and its complement
low_pos : (size n : ℕ) → IsFewest size n → low_bytes w128 size (pos n) ≡ n
low_pos size n f = let d = double size f.low in mod-eq_of_lt (omega (arith, f.fits, d))

low_neg : (size n : ℕ) → IsFewest size n → low_bytes w128 size (negsuc n) ≡ 2 ^ (8 * size) - suc n
low_neg size n f =
    let d = double size f.low in
    let s = split128 size f.high in
    let p : 1 ≤ 2 ^ (128 - 8 * size) = one-le-pow (128 - 8 * size) 2 (omega arith) in
    let q : 2 ^ (128 - 8 * size) ≡ 2 ^ (128 - 8 * size) - 1 + 1 = omega (arith, p) in
    let r = ap (λ k. k * 2 ^ (8 * size)) q in
    let t = add-mul (2 ^ (128 - 8 * size) - 1) 1 (2 ^ (8 * size)) in
    let whole : cast_unsigned w128 (negsuc n) ≡ (2 ^ (128 - 8 * size) - 1) * 2 ^ (8 * size) + (2 ^ (8 * size) - suc n) = omega (arith, f.fits, d, s, r, t) in
    ap (λ k. k % 2 ^ (8 * size)) whole ∙ mul-add-mod_self_right (2 ^ (128 - 8 * size) - 1) (2 ^ (8 * size)) (2 ^ (8 * size) - suc n) ∙ mod-eq_of_lt (omega (arith, f.fits, d))

twos_pos : (size n : ℕ) → IsFewest size n → twos_complement size n ≡ pos n
twos_pos size n f = let e = lt-ltb n (2 ^ (8 * size - 1)) f.fits in rw e refl

twos_neg : (size n : ℕ) → IsFewest size n → twos_complement size (2 ^ (8 * size) - suc n) ≡ negsuc n
twos_neg size n f =
    let d = double size f.low in
    let e = le-ltb (2 ^ (8 * size) - suc n) (2 ^ (8 * size - 1)) (omega (arith, f.fits, d)) in
    rw e (omega (arith, ints, f.fits, d))

twos_back : (size : ℕ) (z : ℤ) → IsFewest size (magnitude_of z) → twos_complement size (low_bytes w128 size z) ≡ z
twos_back size (pos n) f = ap (twos_complement size) (low_pos size n f) ∙ twos_pos size n f
twos_back size (negsuc n) f = ap (twos_complement size) (low_neg size n f) ∙ twos_neg size n f

low_small : (size : ℕ) (z : ℤ) → IsFewest size (magnitude_of z) → low_bytes w128 size z < 256 ^ size
low_small size (pos n) f = let d = double size f.low in let e = low_pos size n f in let g = pow256 size in omega (arith, f.fits, d, e, g)
low_small size (negsuc n) f = let d = double size f.low in let e = low_neg size n f in let g = pow256 size in omega (arith, f.fits, d, e, g)

long-cons : (bytes : List ℕ) → 0 < length bytes → long_number bytes ≡ twos_complement (length bytes) (little_number (length bytes) bytes)
long-cons [] h = absurd (omega arith)
long-cons (byte ∷ bytes) h = refl

long_sized : (size : ℕ) (z : ℤ) → IsFewest size (magnitude_of z) → MakesLeaf (kinds.Number z) (0x8a ∷ size ∷ little_bytes size (low_bytes w128 size z))
long_sized size z f =
    let bytes : List ℕ = little_bytes size (low_bytes w128 size z) in
    let len : length bytes ≡ size = length-bytes_low_first 0 size (low_bytes w128 size z) in
    let value : long_number bytes ≡ z =
    long-cons bytes (omega (arith, len, f.low)) ∙ ap (λ k. twos_complement k (little_number k bytes)) len
    ∙ ap (twos_complement size) (read_back size (low_bytes w128 size z) (low_small size z f)) ∙ twos_back size z f in
    let narrow : ltb 16 (length bytes) ≡ false = le-ltb 16 (length bytes) (omega (arith, len, f.high)) in
    by_row (record { byte = 0x8a; op = ops.Long1; kind = args.Counted1 }) (size ∷ []) (pos 0) bytes refl
    (record { head = size ∷ []; spelled = refl; long = refl; count = ap pos (byte_value size ∙ sym len); none = refl }) refl
    (ap (λ (b : Bool). Some (cond b (kinds.Wide bytes) (kinds.Number (long_number bytes)))) narrow ∙ ap (λ (x : ℤ). Some (kinds.Number x)) value)

long_leaf : (z : ℤ) → magnitude_of z < 2 ^ 127 → MakesLeaf (kinds.Number z) (long_text z)
long_leaf z h = long_sized (long_size z) z (fewest-fits 11 5 (magnitude_of z) (omega arith) (omega arith) h)

twos_word : (n : ℕ) → n < 2 ^ 31 → twos_complement 4 n ≡ pos n
twos_word n h = let e = lt-ltb n (2 ^ 31) h in rw e refl

twos_word_neg : (n : ℕ) → n < 2 ^ 31 → twos_complement 4 (cast_unsigned w32 (negsuc n)) ≡ negsuc n
twos_word_neg n h =
    let e : ltb (cast_unsigned w32 (negsuc n)) (2 ^ 31) ≡ false = le-ltb (cast_unsigned w32 (negsuc n)) (2 ^ 31) (omega (arith, h)) in
    rw e (omega (arith, ints, h))

number_leaf : (z : ℤ) → IsSigned128 z → MakesLeaf (kinds.Number z) (number_text z)
number_leaf (pos n) h = elim (cases_bool (ltb n (2 ^ 8))) [
  | inl a ↦ rw a (byte_leaf n)
  | inr a ↦ elim (cases_bool (ltb n (2 ^ 16))) [
    | inl b ↦ rw (a, b) (short_leaf n (ltb-true n (2 ^ 16) b))
    | inr b ↦ elim (cases_bool (ltb n (2 ^ 31))) [
      | inl d ↦ let small = ltb-true n (2 ^ 31) d in rw (a, b, d) (word_leaf n (pos n) (omega (arith, small)) (twos_word n small))
      | inr d ↦ let m : n < 2 ^ 127 = omega (arith, ints, h.high) in rw (a, b, d) (long_leaf (pos n) m)
    ]
  ]
]
number_leaf (negsuc n) h = elim (cases_bool (ltb n (2 ^ 31))) [
  | inl d ↦ let small = ltb-true n (2 ^ 31) d in rw d (word_leaf (cast_unsigned w32 (negsuc n)) (negsuc n) (omega (arith, small)) (twos_word_neg n small))
  | inr d ↦ let m : n < 2 ^ 127 = omega (arith, ints, h.low) in rw d (long_leaf (negsuc n) m)
]

-- ---- counted bytes

-- a count in one byte, in four, and in four with a sign
by_one : (bytes : List ℕ) → SpellsCounted 1 (unsigned_value 1) (length bytes ∷ bytes) (pos 0) bytes
by_one bytes = record { head = length bytes ∷ []; spelled = refl; long = refl; count = ap pos (byte_value (length bytes)); none = refl }

by_four : (bytes : List ℕ) → length bytes < 2 ^ 32 → SpellsCounted 4 (unsigned_value 4) (little_bytes 4 (length bytes) ++ bytes) (pos 0) bytes
by_four bytes small = record { head = little_bytes 4 (length bytes); spelled = refl; long = length-bytes_low_first 0 4 (length bytes); count = ap pos (read_back 4 (length bytes) small); none = refl }

by_signed : (bytes : List ℕ) → length bytes < 2 ^ 31 → SpellsCounted 4 (signed_value 4) (little_bytes 4 (length bytes) ++ bytes) (pos 0) bytes
by_signed bytes small = record {
  head = little_bytes 4 (length bytes);
  spelled = refl;
  long = length-bytes_low_first 0 4 (length bytes);
  count = ap (twos_complement 4) (read_back 4 (length bytes) (omega (arith, small))) ∙ twos_word (length bytes) small;
  none = refl;
}

wide_leaf : (bytes : List ℕ) → 16 < length bytes → length bytes < 2 ^ 31 → MakesLeaf (kinds.Wide bytes) (counted_text 0x8a 0x8b bytes)
wide_leaf bytes wide small =
    let long : ltb 16 (length bytes) ≡ true = lt-ltb 16 (length bytes) wide in
    let made : some_node (long_of bytes) ≡ Some (kinds.Wide bytes) = ap (λ (b : Bool). Some (cond b (kinds.Wide bytes) (kinds.Number (long_number bytes)))) long in
    elim (cases_bool (ltb (length bytes) (2 ^ 8))) [
      | inl a ↦ rw a (by_row (record { byte = 0x8a; op = ops.Long1; kind = args.Counted1 }) (length bytes ∷ []) (pos 0) bytes refl (by_one bytes) refl made)
      | inr a ↦ rw a (by_row (record { byte = 0x8b; op = ops.Long4; kind = args.SignedCounted4 }) (little_bytes 4 (length bytes)) (pos 0) bytes refl (by_signed bytes small) refl made)
    ]
  where
    some_node : Node → Option Node
    some_node n = Some n

bytes_leaf : (bytes : List ℕ) → length bytes < 2 ^ 32 → MakesLeaf (kinds.Bytes bytes) (counted_text 0x43 0x42 bytes)
bytes_leaf bytes small = elim (cases_bool (ltb (length bytes) (2 ^ 8))) [
  | inl a ↦ rw a (by_row (record { byte = 0x43; op = ops.ShortBinBytes; kind = args.Counted1 }) (length bytes ∷ []) (pos 0) bytes refl (by_one bytes) refl refl)
  | inr a ↦ rw a (by_row (record { byte = 0x42; op = ops.BinBytes; kind = args.Counted4 }) (little_bytes 4 (length bytes)) (pos 0) bytes refl (by_four bytes small) refl refl)
]

old_leaf : (bytes : List ℕ) → length bytes < 2 ^ 31 → MakesLeaf (kinds.OldText bytes) (counted_text 0x55 0x54 bytes)
old_leaf bytes small = elim (cases_bool (ltb (length bytes) (2 ^ 8))) [
  | inl a ↦ rw a (by_row (record { byte = 0x55; op = ops.ShortBinString; kind = args.Counted1 }) (length bytes ∷ []) (pos 0) bytes refl (by_one bytes) refl refl)
  | inr a ↦ rw a (by_row (record { byte = 0x54; op = ops.BinString; kind = args.SignedCounted4 }) (little_bytes 4 (length bytes)) (pos 0) bytes refl (by_signed bytes small) refl refl)
]

text_leaf : (bytes : List ℕ) → is_utf8 bytes ≡ true → length bytes < 2 ^ 32 → MakesLeaf (kinds.Text bytes) (0x58 ∷ (little_bytes 4 (length bytes) ++ bytes))
text_leaf bytes utf8 small = by_row (record { byte = 0x58; op = ops.BinUnicode; kind = args.Text4 }) (little_bytes 4 (length bytes)) (pos 0) bytes refl (by_four bytes small, utf8) refl refl

float_leaf : (bytes : List ℕ) → length bytes ≡ 8 → MakesLeaf (kinds.Float bytes) (0x47 ∷ bytes)
float_leaf bytes eight = by_row (record { byte = 0x47; op = ops.BinFloat; kind = args.Float8 }) [] (pos 0) bytes refl (record { long = eight; says = refl; whole = refl }) refl refl

-- ---- lines

global_leaf : (first second : List ℕ) → IsGlobalLine first → IsGlobalLine second → MakesLeaf (kinds.Global first second) (0x63 ∷ (first ++ 10 ∷ (second ++ 10 ∷ [])))
global_leaf first second f g =
    let all : List ℕ = first ++ 10 ∷ (second ++ 10 ∷ []) in
    let a : first_line all ≡ first = first-line first (second ++ 10 ∷ []) f.one in
    let b : behind_line all ≡ second ++ 10 ∷ [] = behind-line first (second ++ 10 ∷ []) f.one in
    let d : first_line (behind_line all) ≡ second = ap first_line b ∙ first-line second [] g.one in
    by_row (record { byte = 0x63; op = ops.Global; kind = args.TwoLines }) [] (pos 0) all refl
    (record { first = first; second = second; module_line = f; name_line = g; spelled = refl; none = refl; whole = refl }) refl
    (ap (λ (l : List ℕ). Some (kinds.Global l (first_line (behind_line all)))) a ∙ ap (λ (l : List ℕ). Some (kinds.Global first l)) d)

-- ---- each leaf

-- The text of a leaf makes it.
pub leaf_back : (ns : List Node) (node : Node) → IsNode ns node → is_held node ≡ false → MakesLeaf node (leaf_text node)
leaf_back ns kinds.None h l = bare (record { byte = 0x4e; op = ops.None; kind = args.Nothing }) refl refl refl refl
leaf_back ns (kinds.Bool true) h l = bare (record { byte = 0x88; op = ops.NewTrue; kind = args.Nothing }) refl refl refl refl
leaf_back ns (kinds.Bool false) h l = bare (record { byte = 0x89; op = ops.NewFalse; kind = args.Nothing }) refl refl refl refl
leaf_back ns (kinds.Number z) h l = number_leaf z h
leaf_back ns (kinds.Wide bytes) h l = wide_leaf bytes h.long h.short
leaf_back ns (kinds.Float bytes) h l = float_leaf bytes h
leaf_back ns (kinds.Bytes bytes) h l = bytes_leaf bytes h
leaf_back ns (kinds.OldText bytes) h l = old_leaf bytes h
leaf_back ns (kinds.Text bytes) h l = text_leaf bytes h.utf8 h.short
leaf_back ns (kinds.Tuple []) h l = bare (record { byte = 0x29; op = ops.EmptyTuple; kind = args.Nothing }) refl refl refl refl
leaf_back ns (kinds.Tuple (item ∷ items)) h l = absurd cc
leaf_back ns (kinds.List items) h l = absurd cc
leaf_back ns (kinds.Dict pairs) h l = absurd cc
leaf_back ns (kinds.Global first second) h l = global_leaf first second h.first h.second
leaf_back ns (kinds.Reference id) h l = absurd cc
leaf_back ns (kinds.Object callee arguments by_new acts) h l = absurd cc
