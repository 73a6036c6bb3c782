-- What is spelled behind an opcode fits it.
use Rattle.std.proofs.Common.{◌≡◌, ℕ, ℤ, zero, suc, pos, ◌^◌, ◌<◌, ◌≤◌, Bool, true, false, List, [], ◌∷◌, ◌++◌, length, Some, refl, sym, ◌∙◌, ap, subst, cond, ltb, eqb, arith}
use Rattle.std.specs.Prelude.{◌-ℤ◌}
use Rattle.std.specs.Str.{is_utf8}
use Rattle.std.proofs.lemmas.Bool.{ltb-true, ltb-false}
use Rattle.std.proofs.lemmas.Int.{ints}
use Rattle.byteorder.specs.Endian.{little_number, twos_complement}
use Rattle.byteorder.specs.Numbers.{little_from-lt}
use Rattle.pickle_ops.specs.declared.table.TheConstants.{TABLE}
use Rattle.pickle_ops.specs.declared.table.Row.{Row}
use Rattle.pickle_ops.specs.declared.table.Op.{Op}
use Rattle.pickle_ops.specs.Rows.{row_in}
use Rattle.pickle_ops.specs.Grammar.{SpellsNumber, SpellsCounted, SpellsLines, IsArgument, IsToken, unsigned_value, signed_value}
use Rattle.pickle_ops.specs.Fits.{IsBelow, IsSigned32, IsNothing, IsShortText, Fits}
use Rattle.zb_base.specs.Bytes.{AreBytes}

front-bytes : (front rest : List ℕ) → AreBytes (front ++ rest) → AreBytes front
front-bytes [] rest h k = omega arith
front-bytes (byte ∷ front) rest h zero = h zero
front-bytes (byte ∷ front) rest h (suc k) = front-bytes front rest (λ j. h (suc j)) k

below : (limit n : ℕ) (number : ℤ) → n < limit → number ≡ pos n → IsBelow limit number
below limit n number small is = subst (IsBelow limit) (sym is) (record { low = omega (arith, ints); high = omega (arith, ints) })

number_below : (size : ℕ) (text : List ℕ) (number : ℤ) (held : List ℕ) → AreBytes text → SpellsNumber size (unsigned_value size) text number held → IsBelow (256 ^ size) number
number_below size text number held bytes s = below (256 ^ size) (little_number size text) number (little_from-lt 0 size text bytes) s.says

version_below : (text : List ℕ) (number : ℤ) (held : List ℕ) → AreBytes text → SpellsNumber 1 (unsigned_value 1) text number held × (little_number 1 text ≤ 3) → IsBelow 4 number
version_below text number held bytes s = below 4 (little_number 1 text) number (omega (arith, s.1)) s.0.says

float_long : (text : List ℕ) (number : ℤ) (held : List ℕ) → AreBytes text → SpellsNumber 8 (λ _. pos 0) text number held → length held ≡ 8
float_long text number held bytes s = ap length s.whole ∙ s.long

head_bytes : (text head held : List ℕ) → AreBytes text → text ≡ head ++ held → AreBytes head
head_bytes text head held bytes is = front-bytes head held (subst AreBytes is bytes)

counted_short : (size : ℕ) (text : List ℕ) (number : ℤ) (held : List ℕ) → AreBytes text → SpellsCounted size (unsigned_value size) text number held → length held < 256 ^ size
counted_short size text number held bytes s =
    let count : little_number size s.head ≡ length held = cc (s.count) in
    let small = little_from-lt 0 size s.head (head_bytes text s.head held bytes s.spelled) in
    omega (arith, count, small)

-- a number in two's complement that is not negative is in the lower half
lower_half : (x n : ℕ) → x < 2 ^ 32 → twos_complement 4 x ≡ pos n → n < 2 ^ 31
lower_half x n small is = half (ltb x (2 ^ 31)) refl is
  where
    half : (t : Bool) → ltb x (2 ^ 31) ≡ t → cond t (pos x) (pos x -ℤ pos (2 ^ 32)) ≡ pos n → n < 2 ^ 31
    half true low e = let same : x ≡ n = cc in omega (arith, same, ltb-true _ _ low)
    half false high e = absurd (omega (arith, ints, e))

signed_short : (text : List ℕ) (number : ℤ) (held : List ℕ) → AreBytes text → SpellsCounted 4 (signed_value 4) text number held → length held < 2 ^ 31
signed_short text number held bytes s =
    lower_half (little_number 4 s.head) (length held) (little_from-lt 0 4 s.head (head_bytes text s.head held bytes s.spelled)) s.count

text_short : (text : List ℕ) (number : ℤ) (held : List ℕ) → AreBytes text → SpellsCounted 4 (unsigned_value 4) text number held × (is_utf8 held ≡ true) → IsShortText held
text_short text number held bytes s = record { utf8 = s.1; short = counted_short 4 text number held bytes s.0 }

lines_fit : (text : List ℕ) (number : ℤ) (held : List ℕ) → AreBytes text → SpellsLines text number held → SpellsLines held number held
lines_fit text number held bytes s =
    record { first = s.first; second = s.second; module_line = s.module_line; name_line = s.name_line; spelled = s.whole ∙ s.spelled; none = s.none; whole = refl }

no_bytes : (bytes : List ℕ) → length bytes ≡ 0 → bytes ≡ []
no_bytes [] h = refl
no_bytes (byte ∷ bytes) h = absurd (omega arith)

nothing_held : (text : List ℕ) (number : ℤ) (held : List ℕ) → AreBytes text → SpellsNumber 0 (λ _. pos 0) text number held → IsNothing number held
nothing_held text number held bytes s = record { none = s.says; empty = s.whole ∙ no_bytes text s.long }

signed32 : (x : ℕ) → x < 2 ^ 32 → IsSigned32 (twos_complement 4 x)
signed32 x small = half (ltb x (2 ^ 31)) refl
  where
    half : (t : Bool) → ltb x (2 ^ 31) ≡ t → IsSigned32 (cond t (pos x) (pos x -ℤ pos (2 ^ 32)))
    half true low = let less = ltb-true _ _ low in record { low = omega (arith, ints, less); high = omega (arith, ints, less) }
    half false high = let more = ltb-false _ _ high in record { low = omega (arith, ints, more); high = omega (arith, ints, more) }

signed_fits : (text : List ℕ) (number : ℤ) (held : List ℕ) → AreBytes text → SpellsNumber 4 (signed_value 4) text number held → IsSigned32 number
signed_fits text number held bytes s = subst IsSigned32 (sym s.says) (signed32 (little_number 4 text) (little_from-lt 0 4 text bytes))

-- what is spelled behind a row's opcode fits it
abbrev RowFits : Row → Type 0
RowFits row = (text : List ℕ) (number : ℤ) (held : List ℕ) → AreBytes text → IsArgument row.kind text number held → Fits row.op number held

-- each row of a table does so
abbrev EachFits : List Row → Type 0
EachFits [] = Unit {0}
EachFits (row ∷ rows) = RowFits row × EachFits rows

row_fits : (rows : List Row) (byte : ℕ) (row : Row) → EachFits rows → row_in rows byte ≡ Some row → RowFits row
row_fits [] byte row each h = cc
row_fits (first ∷ rows) byte row each h = first_or (row_fits rows byte row each.1) (eqb first.byte byte) h
  where
    first_or : (row_in rows byte ≡ Some row → RowFits row) → (t : Bool) → cond t (Some first) (row_in rows byte) ≡ Some row → RowFits row
    first_or later true h = let same : first ≡ row = cc in subst RowFits same each.0
    first_or later false h = later h

infixr 2 ◌&◌
abbrev ◌&◌ : {A B : Type 0} → A → B → A × B
a & b = (a, b)

table_fits : EachFits TABLE.rows
table_fits =
    version_below & nothing_held & nothing_held & nothing_held & nothing_held & nothing_held & nothing_held & nothing_held &
    nothing_held & signed_fits & number_below 1 & number_below 2 & counted_short 1 & signed_short & float_long & counted_short 4 &
    counted_short 1 & signed_short & counted_short 1 & text_short & nothing_held & nothing_held & nothing_held & nothing_held &
    nothing_held & nothing_held & nothing_held & nothing_held & nothing_held & nothing_held & nothing_held & lines_fit &
    nothing_held & nothing_held & nothing_held & nothing_held & number_below 1 & number_below 4 & number_below 1 & number_below 4 & tt

pub token_fits : (text : List ℕ) (op : Op) (number : ℤ) (held : List ℕ) → AreBytes text → IsToken text op number held → Fits op number held
token_fits text op number held bytes s =
    let all : AreBytes (s.row.byte ∷ s.argument) = subst AreBytes s.spelled bytes in
    let fits = row_fits TABLE.rows s.row.byte s.row table_fits s.listed s.argument number held (λ k. all (suc k)) s.says in
    subst (λ o. Fits o number held) (sym s.named) fits
