-- A token that is cut short.
use Rattle.std.proofs.Common.{◌≡◌, ℕ, ℤ, zero, suc, pos, ◌+◌, ◌-◌, ◌<◌, ◌≤◌, Bool, true, false, List, [], ◌∷◌, ◌++◌, length, take, drop, None, Ok, Err, refl, sym, ◌∙◌, ap, subst, cond, ltb, arith, append_assoc, length-append}
use Rattle.std.specs.Prelude.{position}
use Rattle.std.proofs.lemmas.Bool.{lt-ltb, ltb-false, ltb-true}
use Rattle.std.proofs.lemmas.List.{length-take, drop_at}
use Rattle.std.proofs.Math.Seq.{take-append-add}
use Rattle.byteorder.specs.Endian.{little_number, twos_complement}
use Rattle.byteorder.specs.Numbers.{little_from-take, little_from-append}
use Rattle.pickle_ops.specs.declared.table.Op.{Op}
use Rattle.pickle_ops.specs.declared.table.Kind.{Kind}
use Rattle.pickle_ops.specs.declared.table.Kind.TheVariants as kinds
use Rattle.pickle_ops.specs.declared.argument.Fault.TheVariants.{Missing}
use Rattle.pickle_ops.specs.declared.token.TokenError.TheVariants.{Cut}
use Rattle.pickle_ops.specs.Arguments.{Found, argument_in, span, counted_bytes, signed_span, checked, second_line, lines_from, two_lines, is_newline, version}
use Rattle.pickle_ops.specs.Tokens.{token_at, token_placed, row_token}
use Rattle.pickle_ops.specs.Grammar.{SpellsNumber, SpellsCounted, SpellsLines, IsArgument, IsToken, is_one_line, unsigned_value, signed_value}
use Rattle.pickle_ops.proofs.Lines.{position-line, position-cut}

-- the first n bytes end within the argument
abbrev pub IsMissed : (List ℕ → Found) → List ℕ → ℕ → Type 0
IsMissed found text n = found (take n text) ≡ Err Missing

-- a test that refuses
refused : (b : Bool) (found : Found) → b ≡ true → cond b (Err Missing) found ≡ Err Missing
refused b found h = rw h refl

fixed : (size : ℕ) (value : List ℕ → ℤ) (text : List ℕ) (number : ℤ) (held : List ℕ) (n : ℕ) → SpellsNumber size value text number held → n < length text →
    IsMissed (λ bytes. cond (ltb (length bytes) size) (Err Missing) (Ok (record { number = value bytes; before = 0; length = size }))) text n
fixed size value text number held n s short =
    refused _ _ (lt-ltb (length (take n text)) size (omega (arith, length-take n text, s.long)))

-- counted bytes are missed, where their length is there
counts : (size : ℕ) (value : List ℕ → ℤ) (text : List ℕ) (number : ℤ) (held : List ℕ) (n : ℕ) → SpellsCounted size value text number held → n < length text → IsMissed (span size (length held)) text n
counts size value text number held n s short =
    let sizes : length text ≡ size + length held = ap length s.spelled ∙ length-append s.head held ∙ ap (λ k. k + length held) s.long in
    refused _ _ (lt-ltb (length (take n text)) (size + length held) (omega (arith, length-take n text)))

-- the length is there
head_number : (size : ℕ) (text head held : List ℕ) (n : ℕ) → text ≡ head ++ held → length head ≡ size → size ≤ n → little_number size (take n text) ≡ little_number size head
head_number size text head held n is long enough =
    little_from-take 0 size n text (omega arith) ∙ ap (little_number size) is ∙ little_from-append size head held (omega arith)

-- either the length or the bytes are missed
guarded : (size : ℕ) (text : List ℕ) (n : ℕ) (found : Found) → (size ≤ n → found ≡ Err Missing) → cond (ltb (length (take n text)) size) (Err Missing) found ≡ Err Missing
guarded size text n found missed = either (ltb (length (take n text)) size) refl
  where
    either : (t : Bool) → ltb (length (take n text)) size ≡ t → cond t (Err Missing) found ≡ Err Missing
    either true e = refl
    either false e = missed (omega (arith, ltb-false _ _ e, length-take n text))

counted_cut : (size : ℕ) (text : List ℕ) (number : ℤ) (held : List ℕ) (n : ℕ) → SpellsCounted size (unsigned_value size) text number held → n < length text → IsMissed (counted_bytes size) text n
counted_cut size text number held n s short =
    let count : little_number size s.head ≡ length held = cc (s.count) in
    guarded size text n (span size (little_number size (take n text)) (take n text))
    (λ enough. ap (λ k. span size k (take n text)) (head_number size text s.head held n s.spelled s.long enough ∙ count) ∙ counts size (unsigned_value size) text number held n s short)

signed_cut : (text : List ℕ) (number : ℤ) (held : List ℕ) (n : ℕ) → SpellsCounted 4 (signed_value 4) text number held → n < length text → IsMissed (argument_in kinds.SignedCounted4) text n
signed_cut text number held n s short =
    guarded 4 text n (signed_span (signed_value 4 (take n text)) (take n text))
    (λ enough. ap (λ z. signed_span z (take n text)) (ap (twos_complement 4) (head_number 4 text s.head held n s.spelled s.long enough) ∙ s.count) ∙ counts 4 (signed_value 4) text number held n s short)

version_cut : (text : List ℕ) (number : ℤ) (held : List ℕ) (n : ℕ) → SpellsNumber 1 (unsigned_value 1) text number held → n < length text → IsMissed version text n
version_cut text number held zero s short = refl
version_cut text number held (suc n) s short = absurd (omega (arith, s.long))

-- two lines, of which the first is cut
first_cut : (a b : List ℕ) (n : ℕ) → is_one_line a ≡ true → n ≤ length a → two_lines (take n (a ++ 10 ∷ (b ++ 10 ∷ []))) ≡ Err Missing
first_cut a b n one short =
    let text : List ℕ = take n (a ++ 10 ∷ (b ++ 10 ∷ [])) in
    ap (lines_from text) (position-cut a (10 ∷ (b ++ 10 ∷ [])) n one short)

-- two lines, of which the second is cut
second_cut : (a b : List ℕ) (n : ℕ) → is_one_line a ≡ true → is_one_line b ≡ true → n ≤ length b → two_lines (take (length a + 1 + n) (a ++ 10 ∷ (b ++ 10 ∷ []))) ≡ Err Missing
second_cut a b n one two short =
    let line : List ℕ = a ++ 10 ∷ [] in
    let tail : List ℕ = b ++ 10 ∷ [] in
    let size : length a + 1 + n ≡ length line + n = omega (arith, length-append a (10 ∷ [])) in
    let join : (rest : List ℕ) → a ++ 10 ∷ rest ≡ line ++ rest = λ rest. sym (append_assoc a (10 ∷ []) rest) in
    let text : take (length a + 1 + n) (a ++ 10 ∷ tail) ≡ a ++ 10 ∷ take n tail =
    ap (λ k. take k (a ++ 10 ∷ tail)) size ∙ ap (take (length line + n)) (join tail) ∙ take-append-add line tail n ∙ sym (join (take n tail)) in
    let behind : drop (length a + 1) (a ++ 10 ∷ take n tail) ≡ take n tail = ap (drop (length a + 1)) (join (take n tail)) ∙ drop_at line (take n tail) (length a + 1) (length-append a (10 ∷ [])) in
    let cut : position is_newline (drop (length a + 1) (a ++ 10 ∷ take n tail)) ≡ None = ap (position is_newline) behind ∙ position-cut b (10 ∷ []) n two short in
    ap two_lines text ∙ ap (lines_from (a ++ 10 ∷ take n tail)) (position-line a (take n tail) one) ∙ ap (second_line (a ++ 10 ∷ take n tail) (length a)) cut

either_cut : (a b : List ℕ) (n : ℕ) → is_one_line a ≡ true → is_one_line b ≡ true → n < length a + 1 + length b + 1 → two_lines (take n (a ++ 10 ∷ (b ++ 10 ∷ []))) ≡ Err Missing
either_cut a b n one two short = side (ltb (length a) n) refl
  where
    side : (t : Bool) → ltb (length a) n ≡ t → two_lines (take n (a ++ 10 ∷ (b ++ 10 ∷ []))) ≡ Err Missing
    side false e = first_cut a b n one (ltb-false _ _ e)
    side true e =
        let more : length a < n = ltb-true _ _ e in
        let parts : length a + 1 + (n - (length a + 1)) ≡ n = omega arith in
        subst (λ k. two_lines (take k (a ++ 10 ∷ (b ++ 10 ∷ []))) ≡ Err Missing) parts (second_cut a b (n - (length a + 1)) one two (omega arith))

lines_cut : (text : List ℕ) (number : ℤ) (held : List ℕ) (n : ℕ) → SpellsLines text number held → n < length text → IsMissed two_lines text n
lines_cut text number held n s short =
    let sizes : length text ≡ length s.first + 1 + length s.second + 1 = ap length s.spelled ∙ simp length-append (omega arith) in
    ap (λ x. two_lines (take n x)) s.spelled ∙ either_cut s.first s.second n s.module_line.one s.name_line.one (omega arith)

pub argument_cut : (kind : Kind) (text : List ℕ) (number : ℤ) (held : List ℕ) (n : ℕ) → IsArgument kind text number held → n < length text → IsMissed (argument_in kind) text n
argument_cut kinds.Nothing text number held n s short = fixed 0 (λ _. pos 0) text number held n s short
argument_cut kinds.Version text number held n s short = version_cut text number held n s.0 short
argument_cut kinds.Unsigned1 text number held n s short = fixed 1 (unsigned_value 1) text number held n s short
argument_cut kinds.Unsigned2 text number held n s short = fixed 2 (unsigned_value 2) text number held n s short
argument_cut kinds.Unsigned4 text number held n s short = fixed 4 (unsigned_value 4) text number held n s short
argument_cut kinds.Signed4 text number held n s short = fixed 4 (signed_value 4) text number held n s short
argument_cut kinds.Float8 text number held n s short = fixed 8 (λ _. pos 0) text number held n s short
argument_cut kinds.Counted1 text number held n s short = counted_cut 1 text number held n s short
argument_cut kinds.Counted4 text number held n s short = counted_cut 4 text number held n s short
argument_cut kinds.SignedCounted4 text number held n s short = signed_cut text number held n s short
argument_cut kinds.Text4 text number held n s short = ap (checked (take n text)) (counted_cut 4 text number held n s.0 short)
argument_cut kinds.TwoLines text number held n s short = lines_cut text number held n s short

pub token_cut : (at : ℕ) (text : List ℕ) (op : Op) (number : ℤ) (held : List ℕ) (n : ℕ) → IsToken text op number held → n < length text → token_at at (take n text) ≡ Err (Cut at)
token_cut at text op number held zero s short = refl
token_cut at text op number held (suc n) s short =
    let less : n < length s.argument = omega (arith, ap length s.spelled) in
    ap (λ x. token_at at (take (suc n) x)) s.spelled ∙ ap (row_token at s.row.byte (take n s.argument)) s.listed
    ∙ ap (token_placed at s.row.op) (argument_cut s.row.kind s.argument number held n s.says less)
