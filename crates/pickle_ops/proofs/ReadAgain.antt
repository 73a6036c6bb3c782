-- What spells an argument or a token is read as it, whatever follows.
use Rattle.std.proofs.Common.{◌≡◌, ℕ, ℤ, pos, suc, ◌+◌, ◌-◌, ◌≤◌, Bool, true, false, List, [], ◌∷◌, ◌++◌, length, take, drop, Some, Ok, Err, refl, sym, ◌∙◌, ap, cond, ltb, arith, append_assoc, length-append}
use Rattle.std.specs.Prelude.{position}
use Rattle.std.specs.Str.{is_utf8}
use Rattle.std.proofs.lemmas.Bool.{le-ltb}
use Rattle.std.proofs.lemmas.List.{take_at, drop_at}
use Rattle.byteorder.specs.Endian.{little_number, twos_complement}
use Rattle.byteorder.specs.Numbers.{little_from-append}
use Rattle.pickle_ops.specs.declared.table.TheConstants.{TABLE}
use Rattle.pickle_ops.specs.declared.table.Row.{Row}
use Rattle.pickle_ops.specs.declared.table.Op.{Op}
use Rattle.pickle_ops.specs.declared.table.Kind.{Kind}
use Rattle.pickle_ops.specs.declared.table.Kind.TheVariants as kinds
use Rattle.pickle_ops.specs.declared.argument.Argument.{Argument}
use Rattle.pickle_ops.specs.declared.argument.Fault.TheVariants.{Missing, BadText}
use Rattle.pickle_ops.specs.Rows.{row_in}
use Rattle.pickle_ops.specs.Arguments.{Found, argument_in, held_in, span, counted_bytes, signed_span, checked, second_line, lines_from, two_lines, is_newline, version}
use Rattle.pickle_ops.specs.Tokens.{token_at, token_placed, row_token}
use Rattle.pickle_ops.specs.Grammar.{SpellsNumber, SpellsCounted, SpellsLines, IsGlobalLine, IsArgument, IsToken, spelled_token, unsigned_value, signed_value}
use Rattle.pickle_ops.proofs.Lines.{position-line}

-- the argument whose bytes end its text
abbrev argument_of : List ℕ → ℤ → List ℕ → Argument
argument_of text number held = record { number = number; before = length text - length held; length = length held }

pub record Again (found : List ℕ → Found) (text rest : List ℕ) (number : ℤ) (held : List ℕ) : Type 0 where
  pub short : length held ≤ length text
  pub reads : found (text ++ rest) ≡ Ok (argument_of text number held)

-- an argument of so many bytes from the front on
abbrev whole_of : ℕ → Found
whole_of size = Ok (record { number = pos 0; before = 0; length = size })

-- the same, where they are its text
ends_text : (size : ℕ) (text : List ℕ) (number : ℤ) (held : List ℕ) → 0 ≡ length text - length held → size ≡ length held → pos 0 ≡ number →
    whole_of size ≡ Ok (argument_of text number held)
ends_text size text number held start long none =
    ap (λ z. Ok (record { number = z; before = 0; length = size })) none ∙ ap (λ (n : ℕ). Ok (record { number = number; before = n; length = size })) start
    ∙ ap (λ (n : ℕ). Ok (record { number = number; before = length text - length held; length = n })) long

-- a test that does not refuse
passed : (b : Bool) (found : Found) → b ≡ false → cond b (Err Missing) found ≡ found
passed b found h = rw h refl

fixed : (size : ℕ) (value : List ℕ → ℤ) (text rest : List ℕ) (number : ℤ) (held : List ℕ) → SpellsNumber size value text number held → value (text ++ rest) ≡ value text →
    Again (λ bytes. cond (ltb (length bytes) size) (Err Missing) (Ok (record { number = value bytes; before = 0; length = size }))) text rest number held
fixed size value text rest number held s same =
    let whole : length held ≡ length text = ap length s.whole in
    let enough : ltb (length (text ++ rest)) size ≡ false = le-ltb _ _ (omega (arith, length-append text rest, s.long)) in
    let says : value (text ++ rest) ≡ number = same ∙ sym s.says in
    let front : 0 ≡ length text - length held = omega arith in
    let long : size ≡ length held = omega (arith, s.long) in
    let found : Argument = record { number = value (text ++ rest); before = 0; length = size } in
    record { short = omega arith; reads = passed (ltb (length (text ++ rest)) size) (Ok found) enough ∙ ap (λ z. Ok (record { number = z; before = 0; length = size })) says ∙ ap (λ (n : ℕ). Ok (record { number = number; before = n; length = size })) front ∙ ap (λ (n : ℕ). Ok (record { number = number; before = length text - length held; length = n })) long }

-- the first bytes give the number, whatever follows
first_bytes : (size : ℕ) (text rest : List ℕ) → length text ≡ size → little_number size (text ++ rest) ≡ little_number size text
first_bytes size text rest h = little_from-append size text rest (omega arith)

-- counted bytes behind their length
counts : (size : ℕ) (value : List ℕ → ℤ) (text rest : List ℕ) (number : ℤ) (held : List ℕ) → SpellsCounted size value text number held → Again (span size (length held)) text rest number held
counts size value text rest number held s =
    let sizes : length text ≡ size + length held = ap length s.spelled ∙ length-append s.head held ∙ ap (λ n. n + length held) s.long in
    let enough : ltb (length (text ++ rest)) (size + length held) ≡ false = le-ltb _ _ (omega (arith, length-append text rest)) in
    let front : size ≡ length text - length held = omega arith in
    let found : Argument = record { number = pos 0; before = size; length = length held } in
    record { short = omega arith; reads = passed (ltb (length (text ++ rest)) (size + length held)) (Ok found) enough ∙ ap (λ z. Ok (record { number = z; before = size; length = length held })) (sym s.none) ∙ ap (λ (n : ℕ). Ok (record { number = number; before = n; length = length held })) front }

-- the length stands at the front
head_value : (size : ℕ) (value : List ℕ → ℤ) (text rest : List ℕ) (number : ℤ) (held : List ℕ) → SpellsCounted size value text number held →
    ((head behind : List ℕ) → length head ≡ size → value (head ++ behind) ≡ value head) → (value (text ++ rest) ≡ pos (length held)) × (size ≤ length (text ++ rest))
head_value size value text rest number held s reads =
    let text' : text ++ rest ≡ s.head ++ (held ++ rest) = ap (λ x. x ++ rest) s.spelled ∙ append_assoc s.head held rest in
    (ap value text' ∙ reads s.head (held ++ rest) s.long ∙ s.count, omega (arith, ap length text', length-append s.head (held ++ rest), s.long))

counted_again : (size : ℕ) (text rest : List ℕ) (number : ℤ) (held : List ℕ) → SpellsCounted size (unsigned_value size) text number held → Again (counted_bytes size) text rest number held
counted_again size text rest number held s =
    let h = head_value size (unsigned_value size) text rest number held s (λ head behind long. ap pos (first_bytes size head behind long)) in
    let count : little_number size (text ++ rest) ≡ length held = cc (h.0) in
    let again = counts size (unsigned_value size) text rest number held s in
    let enough : ltb (length (text ++ rest)) size ≡ false = le-ltb _ _ h.1 in
    record { short = again.short; reads = passed (ltb (length (text ++ rest)) size) (span size (little_number size (text ++ rest)) (text ++ rest)) enough ∙ ap (λ n. span size n (text ++ rest)) count ∙ again.reads }

signed_again : (text rest : List ℕ) (number : ℤ) (held : List ℕ) → SpellsCounted 4 (signed_value 4) text number held → Again (argument_in kinds.SignedCounted4) text rest number held
signed_again text rest number held s =
    let h = head_value 4 (signed_value 4) text rest number held s (λ head behind long. ap (twos_complement 4) (first_bytes 4 head behind long)) in
    let again = counts 4 (signed_value 4) text rest number held s in
    let enough : ltb (length (text ++ rest)) 4 ≡ false = le-ltb _ _ h.1 in
    record { short = again.short; reads = passed (ltb (length (text ++ rest)) 4) (signed_span (signed_value 4 (text ++ rest)) (text ++ rest)) enough ∙ ap (λ z. signed_span z (text ++ rest)) h.0 ∙ again.reads }

-- the bytes of an argument that ends its text
held-again : (size : ℕ) (value : List ℕ → ℤ) (text rest : List ℕ) (number : ℤ) (held : List ℕ) → SpellsCounted size value text number held → held_in (text ++ rest) (argument_of text number held) ≡ held
held-again size value text rest number held s =
    let sizes : length text ≡ size + length held = ap length s.spelled ∙ length-append s.head held ∙ ap (λ n. n + length held) s.long in
    let text' : text ++ rest ≡ s.head ++ (held ++ rest) = ap (λ x. x ++ rest) s.spelled ∙ append_assoc s.head held rest in
    let front : length s.head ≡ length text - length held = omega (arith, s.long) in
    ap (λ x. take (length held) (drop (length text - length held) x)) text' ∙ ap (take (length held)) (drop_at s.head (held ++ rest) (length text - length held) front) ∙ take_at held rest (length held) refl

text_again : (text rest : List ℕ) (number : ℤ) (held : List ℕ) → SpellsCounted 4 (unsigned_value 4) text number held → is_utf8 held ≡ true → Again (argument_in kinds.Text4) text rest number held
text_again text rest number held s utf8 =
    let again = counted_again 4 text rest number held s in
    let fine : is_utf8 (held_in (text ++ rest) (argument_of text number held)) ≡ true = ap is_utf8 (held-again 4 (unsigned_value 4) text rest number held s) ∙ utf8 in
    record { short = again.short; reads = ap (checked (text ++ rest)) again.reads ∙ ap (λ b. cond b (Ok (argument_of text number held)) (Err BadText)) fine }

version_again : (text rest : List ℕ) (number : ℤ) (held : List ℕ) → SpellsNumber 1 (unsigned_value 1) text number held → little_number 1 text ≤ 3 → Again version text rest number held
version_again [] rest number held s small = absurd (omega (arith, s.long))
version_again (byte ∷ b ∷ more) rest number held s small = absurd (omega (arith, s.long))
version_again (byte ∷ []) rest number held s small =
    let whole : length held ≡ 1 = ap length s.whole in
    let low : ltb 3 byte ≡ false = le-ltb _ _ (omega arith) in
    let value : byte ≡ little_number 1 (byte ∷ []) = omega arith in
    let says : pos byte ≡ number = ap pos value ∙ sym s.says in
    let front : 0 ≡ 1 - length held = omega arith in
    let first : version (byte ∷ rest) ≡ Ok (record { number = pos byte; before = 0; length = 1 }) = rw low refl in
    record { short = omega arith; reads = first ∙ ap (λ z. Ok (record { number = z; before = 0; length = 1 })) says ∙ ap (λ (n : ℕ). Ok (record { number = number; before = n; length = 1 })) front ∙ ap (λ (n : ℕ). Ok (record { number = number; before = 1 - length held; length = n })) (sym whole) }

-- two lines
lines_read : (a b rest : List ℕ) → IsGlobalLine a → IsGlobalLine b → two_lines (a ++ 10 ∷ (b ++ 10 ∷ rest)) ≡ whole_of (length a + 1 + length b + 1)
lines_read a b rest one two =
    let tail : List ℕ = b ++ 10 ∷ rest in
    let line : List ℕ = a ++ 10 ∷ [] in
    let join : a ++ 10 ∷ tail ≡ line ++ tail = sym (append_assoc a (10 ∷ []) tail) in
    let behind : drop (length a + 1) (a ++ 10 ∷ tail) ≡ tail = ap (drop (length a + 1)) join ∙ drop_at line tail (length a + 1) (length-append a (10 ∷ [])) in
    let utf8_first : is_utf8 (take (length a) (a ++ 10 ∷ tail)) ≡ true = ap is_utf8 (take_at a (10 ∷ tail) (length a) refl) ∙ one.utf8 in
    let name : is_utf8 (take (length b) tail) ≡ true = ap is_utf8 (take_at b (10 ∷ rest) (length b) refl) ∙ two.utf8 in
    let utf8_second : is_utf8 (take (length b) (drop (length a + 1) (a ++ 10 ∷ tail))) ≡ true = ap (λ x. is_utf8 (take (length b) x)) behind ∙ name in
    let ends : position is_newline (drop (length a + 1) (a ++ 10 ∷ tail)) ≡ Some (length b) = ap (position is_newline) behind ∙ position-line b rest two.one in
    ap (lines_from (a ++ 10 ∷ tail)) (position-line a tail one.one) ∙ ap (second_line (a ++ 10 ∷ tail) (length a)) ends ∙ both_pass _ _ (whole_of (length a + 1 + length b + 1)) utf8_first utf8_second
  where
    both_pass : (s t : Bool) (found : Found) → s ≡ true → t ≡ true → cond s (cond t found (Err BadText)) (Err BadText) ≡ found
    both_pass s t found p q = rw (p, q) refl

lines_again : (text rest : List ℕ) (number : ℤ) (held : List ℕ) → SpellsLines text number held → Again two_lines text rest number held
lines_again text rest number held s =
    let size : ℕ = length s.first + 1 + length s.second + 1 in
    let all : text ++ rest ≡ s.first ++ 10 ∷ (s.second ++ 10 ∷ rest) =
    ap (λ x. x ++ rest) s.spelled ∙ append_assoc s.first (10 ∷ (s.second ++ 10 ∷ [])) rest ∙ ap (λ x. s.first ++ 10 ∷ x) (append_assoc s.second (10 ∷ []) rest) in
    let sizes : length text ≡ size = ap length s.spelled ∙ simp length-append (omega arith) in
    let whole : length held ≡ length text = ap length s.whole in
    let start : 0 ≡ length text - length held = omega arith in
    let long : size ≡ length held = omega arith in
    let read : two_lines (text ++ rest) ≡ whole_of size = ap two_lines all ∙ lines_read s.first s.second rest s.module_line s.name_line in
    record { short = omega arith; reads = read ∙ ends_text size text number held start long (sym s.none) }

pub argument_again : (kind : Kind) (text rest : List ℕ) (number : ℤ) (held : List ℕ) → IsArgument kind text number held → Again (argument_in kind) text rest number held
argument_again kinds.Nothing text rest number held s = fixed 0 (λ _. pos 0) text rest number held s refl
argument_again kinds.Version text rest number held s = version_again text rest number held s.0 s.1
argument_again kinds.Unsigned1 text rest number held s = fixed 1 (unsigned_value 1) text rest number held s (ap pos (first_bytes 1 text rest s.long))
argument_again kinds.Unsigned2 text rest number held s = fixed 2 (unsigned_value 2) text rest number held s (ap pos (first_bytes 2 text rest s.long))
argument_again kinds.Unsigned4 text rest number held s = fixed 4 (unsigned_value 4) text rest number held s (ap pos (first_bytes 4 text rest s.long))
argument_again kinds.Signed4 text rest number held s = fixed 4 (signed_value 4) text rest number held s (ap (twos_complement 4) (first_bytes 4 text rest s.long))
argument_again kinds.Float8 text rest number held s = fixed 8 (λ _. pos 0) text rest number held s refl
argument_again kinds.Counted1 text rest number held s = counted_again 1 text rest number held s
argument_again kinds.Counted4 text rest number held s = counted_again 4 text rest number held s
argument_again kinds.SignedCounted4 text rest number held s = signed_again text rest number held s
argument_again kinds.Text4 text rest number held s = text_again text rest number held s.0 s.1
argument_again kinds.TwoLines text rest number held s = lines_again text rest number held s

-- the token of a row
row_again : (at : ℕ) (row : Row) (text rest : List ℕ) (number : ℤ) (held : List ℕ) → Again (argument_in row.kind) text rest number held →
    token_placed at row.op (argument_in row.kind (text ++ rest)) ≡ Ok (spelled_token at (row.byte ∷ text) row.op number held)
row_again at row text rest number held again =
    let start : at + 1 + (length text - length held) ≡ at + (suc (length text) - length held) = omega (arith, again.short) in
    let next : at + 1 + (length text - length held) + length held ≡ at + suc (length text) = omega (arith, again.short) in
    let found : token_placed at row.op (argument_in row.kind (text ++ rest)) ≡ token_placed at row.op (Ok (argument_of text number held)) = ap (token_placed at row.op) again.reads in
    found
    ∙ ap (λ (n : ℕ). Ok (record { op = row.op; number = number; start = n; length = length held }, at + 1 + (length text - length held) + length held)) start
    ∙ ap (λ (n : ℕ). Ok (record { op = row.op; number = number; start = at + (suc (length text) - length held); length = length held }, n)) next

pub token_again : (at : ℕ) (text rest : List ℕ) (op : Op) (number : ℤ) (held : List ℕ) → IsToken text op number held → token_at at (text ++ rest) ≡ Ok (spelled_token at text op number held)
token_again at text rest op number held s =
    let row : Row = s.row in
    let here : token_at at (text ++ rest) ≡ row_token at row.byte (s.argument ++ rest) (row_in TABLE.rows row.byte) = ap (λ x. token_at at (x ++ rest)) s.spelled in
    here ∙ ap (row_token at row.byte (s.argument ++ rest)) s.listed ∙ row_again at row s.argument rest number held (argument_again row.kind s.argument rest number held s.says)
    ∙ ap (λ x. Ok (spelled_token at x row.op number held)) (sym s.spelled) ∙ ap (λ x. Ok (spelled_token at text x number held)) (sym s.named)
