-- What is found behind an opcode is spelled there.
use Rattle.std.proofs.Common.{◌≡◌, ℕ, ℤ, pos, negsuc, ◌+◌, ◌≤◌, true, List, [], ◌∷◌, ◌++◌, length, take, drop, Option, Some, None, Ok, Err, refl, sym, ◌∙◌, ap, subst, cond, ltb, arith, append_assoc}
use Rattle.std.specs.Prelude.{position}
use Rattle.std.specs.Str.{is_utf8}
use Rattle.std.proofs.lemmas.Bool.{ltb-false}
use Rattle.std.proofs.lemmas.List.{length-take-le, length-drop, drop_at}
use Rattle.std.proofs.Math.Seq.{take-add}
use Rattle.byteorder.specs.Endian.{little_number, twos_complement}
use Rattle.byteorder.specs.Numbers.{little_from-take}
use Rattle.pickle_ops.specs.declared.table.Kind.{Kind}
use Rattle.pickle_ops.specs.declared.table.Kind.TheVariants as kinds
use Rattle.pickle_ops.specs.declared.argument.Argument.{Argument}
use Rattle.pickle_ops.specs.declared.argument.Fault.TheVariants.{Missing, Version, BadText}
use Rattle.pickle_ops.specs.Arguments.{Found, argument_in, held_in, span, counted_bytes, signed_span, checked, second_line, lines_from, is_newline, version}
use Rattle.pickle_ops.specs.Grammar.{SpellsNumber, SpellsCounted, SpellsLines, IsArgument, unsigned_value, signed_value}
use Rattle.pickle_ops.proofs.Guards.{past_guard, through_guard}
use Rattle.pickle_ops.proofs.Lines.{EndsAt, ends_at}

-- the bytes of an argument lie within those behind the opcode, and a relation holds of them
pub record Spelled (R : List ℕ → ℤ → List ℕ → Type 0) (rest : List ℕ) (a : Argument) : Type 0 where
  pub inside : a.before + a.length ≤ length rest
  pub says : R (take (a.before + a.length) rest) a.number (held_in rest a)

-- the first bytes give the number
first_bytes : (size : ℕ) (rest : List ℕ) → little_number size (take size rest) ≡ little_number size rest
first_bytes size rest = little_from-take 0 size size rest (omega arith)

fixed : (size : ℕ) (value : List ℕ → ℤ) (rest : List ℕ) (a : Argument) → value (take size rest) ≡ value rest →
    cond (ltb (length rest) size) (Err Missing) (Ok (record { number = value rest; before = 0; length = size })) ≡ Ok a → Spelled (SpellsNumber size value) rest a
fixed size value rest a same h =
    let found : Argument = record { number = value rest; before = 0; length = size } in
    let g = past_guard (ltb (length rest) size) Missing (Ok found) a h in
    let long : size ≤ length rest = ltb-false _ _ g.0 in
    let is : found ≡ a = cc (g.1) in
    let all : 0 + size ≡ size = omega arith in
    subst (Spelled (SpellsNumber size value) rest) is
    (record { inside = omega arith; says = rw all (record { long = length-take-le size rest long; says = sym same; whole = refl }) })

counts : (size count : ℕ) (value : List ℕ → ℤ) (rest : List ℕ) (a : Argument) → size ≤ length rest → value (take size rest) ≡ pos count → span size count rest ≡ Ok a → Spelled (SpellsCounted size value) rest a
counts size count value rest a head same h =
    let found : Argument = record { number = pos 0; before = size; length = count } in
    let g = past_guard (ltb (length rest) (size + count)) Missing (Ok found) a h in
    let long : size + count ≤ length rest = ltb-false _ _ g.0 in
    let is : found ≡ a = cc (g.1) in
    let head_long = length-take-le size rest head in
    let count_long : length (take count (drop size rest)) ≡ count = length-take-le count (drop size rest) (simp length-drop (omega arith)) in
    subst (Spelled (SpellsCounted size value) rest) is
    (record { inside = long; says = record { head = take size rest; spelled = take-add size count rest; long = head_long; count = same ∙ ap pos (sym count_long); none = refl } })

counted_case : (size : ℕ) (rest : List ℕ) (a : Argument) → counted_bytes size rest ≡ Ok a → Spelled (SpellsCounted size (unsigned_value size)) rest a
counted_case size rest a h =
    let g = past_guard (ltb (length rest) size) Missing (span size (little_number size rest) rest) a h in
    counts size (little_number size rest) (unsigned_value size) rest a (ltb-false _ _ g.0) (ap pos (first_bytes size rest)) g.1

signed_case : (z : ℤ) (rest : List ℕ) (a : Argument) → 4 ≤ length rest → signed_value 4 (take 4 rest) ≡ z → signed_span z rest ≡ Ok a → Spelled (SpellsCounted 4 (signed_value 4)) rest a
signed_case (pos count) rest a head same h = counts 4 count (signed_value 4) rest a head same h
signed_case (negsuc n) rest a head same h = cc

checked_case : (rest : List ℕ) (found : Found) (a : Argument) → checked rest found ≡ Ok a → (found ≡ Ok a) × (is_utf8 (held_in rest a) ≡ true)
checked_case rest (Err fault) a h = cc
checked_case rest (Ok b) a h =
    let g = through_guard (is_utf8 (held_in rest b)) BadText (Ok b) a h in
    let same : b ≡ a = cc (g.1) in
    (g.1, ap (λ x. is_utf8 (held_in rest x)) (sym same) ∙ g.0)

version_case : (rest : List ℕ) (a : Argument) → version rest ≡ Ok a → Spelled (λ text number held. SpellsNumber 1 (unsigned_value 1) text number held × (little_number 1 text ≤ 3)) rest a
version_case [] a h = cc
version_case (byte ∷ rest) a h =
    let found : Argument = record { number = pos byte; before = 0; length = 1 } in
    let g = past_guard (ltb 3 byte) (Version byte) (Ok found) a h in
    let small : byte ≤ 3 = ltb-false _ _ g.0 in
    let is : found ≡ a = cc (g.1) in
    let value : byte ≡ little_number 1 (byte ∷ []) = omega arith in
    subst (Spelled (λ text number held. SpellsNumber 1 (unsigned_value 1) text number held × (little_number 1 text ≤ 3)) (byte ∷ rest)) is
    (record { inside = omega arith; says = (record { long = refl; says = ap pos value; whole = refl }, omega arith) })

-- a line with its newline
line_taken : (bytes : List ℕ) (i : ℕ) → EndsAt bytes i → take (i + 1) bytes ≡ take i bytes ++ 10 ∷ []
line_taken bytes i end =
    let front : length (take i bytes) ≡ i = length-take-le i bytes (omega (arith, end.inside)) in
    let newline : drop i bytes ≡ 10 ∷ drop (i + 1) bytes = ap (drop i) end.parts ∙ drop_at (take i bytes) (10 ∷ drop (i + 1) bytes) i front in
    take-add i 1 bytes ∙ ap (λ x. take i bytes ++ take 1 x) newline

second_case : (rest : List ℕ) (i : ℕ) (o : Option ℕ) (a : Argument) → EndsAt rest i → position is_newline (drop (i + 1) rest) ≡ o → second_line rest i o ≡ Ok a → Spelled SpellsLines rest a
second_case rest i None a one at h = cc
second_case rest i (Some j) a one at h =
    let behind : List ℕ = drop (i + 1) rest in
    let found : Argument = record { number = pos 0; before = 0; length = i + 1 + j + 1 } in
    let g = through_guard (is_utf8 (take i rest)) BadText (cond (is_utf8 (take j behind)) (Ok found) (Err BadText)) a h in
    let k = through_guard (is_utf8 (take j behind)) BadText (Ok found) a g.1 in
    let is : found ≡ a = cc (k.1) in
    let two = ends_at behind j at in
    let sum : 0 + (i + 1 + j + 1) ≡ (i + 1) + (j + 1) = omega arith in
    let lines : take (0 + (i + 1 + j + 1)) rest ≡ take i rest ++ 10 ∷ (take j behind ++ 10 ∷ []) =
    ap (λ n. take n rest) sum ∙ take-add (i + 1) (j + 1) rest ∙ ap (λ x. x ++ take (j + 1) behind) (line_taken rest i one)
    ∙ ap (λ y. (take i rest ++ 10 ∷ []) ++ y) (line_taken behind j two) ∙ append_assoc (take i rest) (10 ∷ []) (take j behind ++ 10 ∷ []) in
    let all : 0 + (i + 1 + j + 1) ≡ i + 1 + j + 1 = omega arith in
    subst (Spelled SpellsLines rest) is
    (record { inside = omega (arith, one.inside, two.inside, length-drop (i + 1) rest); says = record { first = take i rest; second = take j behind; module_line = record { one = one.one; utf8 = g.0 }; name_line = record { one = two.one; utf8 = k.0 }; spelled = lines; none = refl; whole = ap (λ n. take n rest) (sym all) } })

first_case : (rest : List ℕ) (o : Option ℕ) (a : Argument) → position is_newline rest ≡ o → lines_from rest o ≡ Ok a → Spelled SpellsLines rest a
first_case rest None a at h = cc
first_case rest (Some i) a at h = second_case rest i (position is_newline (drop (i + 1) rest)) a (ends_at rest i at) refl h

pub found-spelled : (kind : Kind) (rest : List ℕ) (a : Argument) → argument_in kind rest ≡ Ok a → Spelled (IsArgument kind) rest a
found-spelled kinds.Nothing rest a h = fixed 0 (λ _. pos 0) rest a refl h
found-spelled kinds.Version rest a h = version_case rest a h
found-spelled kinds.Unsigned1 rest a h = fixed 1 (unsigned_value 1) rest a (ap pos (first_bytes 1 rest)) h
found-spelled kinds.Unsigned2 rest a h = fixed 2 (unsigned_value 2) rest a (ap pos (first_bytes 2 rest)) h
found-spelled kinds.Unsigned4 rest a h = fixed 4 (unsigned_value 4) rest a (ap pos (first_bytes 4 rest)) h
found-spelled kinds.Signed4 rest a h = fixed 4 (signed_value 4) rest a (ap (twos_complement 4) (first_bytes 4 rest)) h
found-spelled kinds.Float8 rest a h = fixed 8 (λ _. pos 0) rest a refl h
found-spelled kinds.Counted1 rest a h = counted_case 1 rest a h
found-spelled kinds.Counted4 rest a h = counted_case 4 rest a h
found-spelled kinds.SignedCounted4 rest a h =
    let z : ℤ = twos_complement 4 (little_number 4 rest) in
    let g = past_guard (ltb (length rest) 4) Missing (signed_span z rest) a h in
    signed_case z rest a (ltb-false _ _ g.0) (ap (twos_complement 4) (first_bytes 4 rest)) g.1
found-spelled kinds.Text4 rest a h =
    let g = checked_case rest (counted_bytes 4 rest) a h in
    let s = counted_case 4 rest a g.0 in
    record { inside = s.inside; says = (s.says, g.1) }
found-spelled kinds.TwoLines rest a h = first_case rest (position is_newline rest) a refl h
