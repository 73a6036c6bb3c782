-- Numbers that words spell in decimal.
use Rattle.std.proofs.Common.{◌≡◌, ℕ, ◌<◌, ◌^◌, Bool, true, false, List, Some, None, Result, Ok, Err, refl, ap, sym, subst, ◌∙◌, arith}
use Rattle.std.specs.Prelude.{◌&&◌, ◌||◌, cond, decimal, nat_eq, nat_lt, not}
use Rattle.std.specs.Option.{option_and_then}
use Rattle.std.specs.Str.{bytes_eq}
use Rattle.std.specs.Str.Parse.{ParsesUnsigned, digits_value}
use Rattle.std.proofs.lemmas.Bool.Decides.{nat_tests}
use Rattle.std.proofs.lemmas.Fmt.{decimal_is_IsNumeral, parse-decimal}
use Rattle.std.proofs.lemmas.Slice.Eq.{bytes_eq-Decides}
use Rattle.program_words.specs.declared.command.Command.TheVariants as command
use Rattle.program_words.specs.Words.{gen_command, gen_with, number_word, serve_command, serve_with}

-- a word that spells a number reads as it
spells : (word : List ℕ) (n : ℕ) → n < 2 ^ 16 → word ≡ decimal n → number_word word ≡ Some n
spells word n below is =
    let value : digits_value 10 word ≡ n = ap (digits_value 10) is ∙ (decimal_is_IsNumeral n (omega arith)).1 in
    let small : nat_lt (digits_value 10 word) (2 ^ 16) ≡ true = grind (arith, nat_tests) in
    let equal : bytes_eq word (decimal (digits_value 10 word)) ≡ true = (bytes_eq-Decides word (decimal (digits_value 10 word))).1 (is ∙ ap decimal (sym value)) in
    rw (small, equal) (ap Some value)

-- and one that spells none as none
spells_none : (word : List ℕ) → ((n : ℕ) → n < 2 ^ 16 → word ≡ decimal n → ⊥) → number_word word ≡ None
spells_none word never = by_tests (nat_lt (digits_value 10 word) (2 ^ 16)) (bytes_eq word (decimal (digits_value 10 word))) refl refl
  where
    by_tests : (small equal : Bool) → nat_lt (digits_value 10 word) (2 ^ 16) ≡ small → bytes_eq word (decimal (digits_value 10 word)) ≡ equal
        → cond (small && equal) (Some (digits_value 10 word)) None ≡ None
    by_tests false equal is same = refl
    by_tests true false is same = refl
    by_tests true true is same =
        let below : digits_value 10 word < 2 ^ 16 = grind (arith, nat_tests) in
        absurd (never (digits_value 10 word) below ((bytes_eq-Decides word (decimal (digits_value 10 word))).0 same))

-- what is read, and written as the word is, is spelled by it
pub number_read : {E : Type 0} (word text : List ℕ) (r : Result ℕ E) (n : ℕ) → ParsesUnsigned 16 10 word r → r ≡ Ok n → text ≡ decimal n → false ≡ not (bytes_eq text word) → Some n ≡ number_word word
number_read word text r n parses is written same =
    let read = subst (ParsesUnsigned 16 10 word) is parses in
    sym (spells word n (omega (arith, read.0.1, read.1)) (by_test (bytes_eq text word) refl same))
  where
    by_test : (b : Bool) → bytes_eq text word ≡ b → false ≡ not b → word ≡ decimal n
    by_test true e f = sym ((bytes_eq-Decides text word).0 e) ∙ written
    by_test false e f = absurd cc

-- what can't be read spells none
pub no_number : {E : Type 0} (word : List ℕ) (r : Result ℕ E) (e : E) → ParsesUnsigned 16 10 word r → r ≡ Err e → None ≡ number_word word
no_number word r e parses is = sym (spells_none word (λ n below spelled. absurd (let read = parse-decimal 16 n word r below (omega arith) spelled parses in let both = sym is ∙ read in cc)))

-- nor does what is read and written otherwise
pub other_text : {E : Type 0} (word text : List ℕ) (r : Result ℕ E) (m : ℕ) → ParsesUnsigned 16 10 word r → r ≡ Ok m → text ≡ decimal m → true ≡ not (bytes_eq text word) → None ≡ number_word word
other_text word text r m parses is written differs = sym (spells_none word (λ n below spelled.
    let read = parse-decimal 16 n word r below (omega arith) spelled parses in
    let same : m ≡ n = (let both = sym is ∙ read in cc) in
    let equal : bytes_eq text word ≡ true = (bytes_eq-Decides text word).1 (written ∙ ap decimal same ∙ sym spelled) in
    unlike (differs ∙ ap not equal)))
  where
    unlike : true ≡ false → ⊥
    unlike e = cc

-- ---- links that are to be served

pub no_port : (port count : List ℕ) → number_word port ≡ None → None ≡ serve_command port count
no_port port count none = sym (ap (option_and_then (λ p. option_and_then (serve_with p) (number_word count))) none)

with_port : (port count : List ℕ) (p : ℕ) → number_word port ≡ Some p → serve_command port count ≡ option_and_then (serve_with p) (number_word count)
with_port port count p is = ap (option_and_then (λ q. option_and_then (serve_with q) (number_word count))) is

pub no_count : (port count : List ℕ) (p : ℕ) → number_word port ≡ Some p → number_word count ≡ None → None ≡ serve_command port count
no_count port count p is none = sym (with_port port count p is ∙ ap (option_and_then (serve_with p)) none)

with_both : (port count : List ℕ) (p n : ℕ) → number_word port ≡ Some p → number_word count ≡ Some n → serve_command port count ≡ serve_with p n
with_both port count p n is are = with_port port count p is ∙ ap (option_and_then (serve_with p)) are

pub count_refused : (port count : List ℕ) (p n : ℕ) → number_word port ≡ Some p → number_word count ≡ Some n → (nat_eq n 0 || nat_lt 64 n) ≡ true → None ≡ serve_command port count
count_refused port count p n is are many = sym (with_both port count p n is are ∙ ap (λ (b : Bool). cond b None (Some (command.Serve (record { port = p; count = n })))) many)

pub serve_taken : (port count : List ℕ) (p n : ℕ) → number_word port ≡ Some p → number_word count ≡ Some n → (nat_eq n 0 || nat_lt 64 n) ≡ false
    → Some (command.Serve (record { port = p; count = n })) ≡ serve_command port count
serve_taken port count p n is are few = sym (with_both port count p n is are ∙ ap (λ (b : Bool). cond b None (Some (command.Serve (record { port = p; count = n })))) few)

-- ---- rounds of a script

with_rounds : (text : List ℕ) (n : ℕ) → number_word text ≡ Some n → gen_command text ≡ gen_with n
with_rounds text n is = ap (option_and_then gen_with) is

pub no_rounds : (text : List ℕ) → number_word text ≡ None → None ≡ gen_command text
no_rounds text none = sym (ap (option_and_then gen_with) none)

pub rounds_refused : (text : List ℕ) (n : ℕ) → number_word text ≡ Some n → (nat_eq n 0 || nat_lt 8000 n) ≡ true → None ≡ gen_command text
rounds_refused text n is many = sym (with_rounds text n is ∙ ap (λ (b : Bool). cond b None (Some (command.Gen n))) many)

pub rounds_taken : (text : List ℕ) (n : ℕ) → number_word text ≡ Some n → (nat_eq n 0 || nat_lt 8000 n) ≡ false → Some (command.Gen n) ≡ gen_command text
rounds_taken text n is few = sym (with_rounds text n is ∙ ap (λ (b : Bool). cond b None (Some (command.Gen n))) few)
