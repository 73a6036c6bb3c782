-- What the numbers of a command can be.
use Rattle.std.proofs.Common.{ℕ, ◌≤◌, Bool, true, false, cond, List, [], ◌∷◌, Option, Some, None, codes, refl, ◌≡◌, arith}
use Rattle.std.specs.Prelude.{IfSome, ◌&&◌, ◌||◌, nat_eq, nat_lt, not}
use Rattle.std.specs.List.{list_any}
use Rattle.std.specs.Option.{option_and_then, option_map}
use Rattle.std.specs.Str.{bytes_eq}
use Rattle.std.proofs.lemmas.Bool.Decides.{nat_tests}
use Rattle.zb_ids.specs.Hex.{number_at}
use Rattle.zb_ids.specs.Spelling.{Time, time_at, time_number}
use Rattle.program_words.specs.declared.command.Command.{Command}
use Rattle.program_words.specs.declared.command.Command.TheVariants as command
use Rattle.program_words.specs.Words.{command_of, gen_with, is_dashed, is_path, long_command, named_command, named_of, number_word, object_command, serve_with, text_command, word_command}

-- a script that is made has at most so many rounds
abbrev pub IsInRange : Command → Type 0
IsInRange (command.Gen rounds) = rounds ≤ 8000
IsInRange _ = Unit {0}

-- ---- each command of words is so

abbrev Fits : Option Command → Type 0
Fits o = IfSome o IsInRange

by_test : (b : Bool) (o p : Option Command) → Fits o → Fits p → Fits (cond b o p)
by_test true o p fits other = fits
by_test false o p fits other = other

by_some : {A : Type 0} (o : Option A) (f : A → Option Command) → ((x : A) → Fits (f x)) → Fits (option_and_then f o)
by_some None f fits = tt
by_some (Some x) f fits = fits x

packs : (o : Option Time) (collect : Bool) → Fits (option_map (λ t. command.Pack (record { tid = time_number t; collect = collect })) o)
packs None collect = tt
packs (Some t) collect = tt

gens : (n : ℕ) → Fits (gen_with n)
gens n = by_many (nat_eq n 0) (nat_lt 8000 n) refl
  where
    by_many : (none many : Bool) → nat_lt 8000 n ≡ many → Fits (cond (none || many) None (Some (command.Gen n)))
    by_many true many is = tt
    by_many false true is = tt
    by_many false false is = grind (arith, nat_tests)

alone : (word : List ℕ) → Fits (word_command word)
alone word =
    by_test (bytes_eq word (codes "run")) _ _ tt (by_test (bytes_eq word (codes "undolog")) _ _ tt (by_test (bytes_eq word (codes "index")) _ _ tt (by_test (bytes_eq word (codes "play")) _ _ tt tt)))

of_object : (word : List ℕ) (oid : ℕ) → Fits (object_command word oid)
of_object word oid =
    by_test (bytes_eq word (codes "history")) _ _ tt (by_test (bytes_eq word (codes "show")) _ _ tt (by_test (bytes_eq word (codes "digest")) _ _ tt (by_test (bytes_eq word (codes "check")) _ _ tt tt)))

of_text : (word text : List ℕ) → Fits (text_command word text)
of_text word text =
    by_test (bytes_eq word (codes "pack")) _ _ (packs (time_at text) true)
    (by_test (bytes_eq word (codes "gen")) _ _ (by_some (number_word text) gen_with gens) (by_some (number_at text) (object_command word) (of_object word)))

serves : (port count : ℕ) → Fits (serve_with port count)
serves port count = by_test (nat_eq count 0 || nat_lt 64 count) _ _ tt tt

of_two : (word text more : List ℕ) → Fits (long_command word text more)
of_two word text more =
    by_test (bytes_eq word (codes "pack") && bytes_eq more (codes "nogc")) _ _ (packs (time_at text) false)
    (by_test (bytes_eq word (codes "serve")) _ _ (by_some (number_word text) _ (λ port. by_some (number_word more) (serve_with port) (serves port))) tt)

of_name : (word : List ℕ) (text more : Option (List ℕ)) → Fits (named_command word text more)
of_name word None more = alone word
of_name word (Some text) None = of_text word text
of_name word (Some text) (Some more) = of_two word text more

pub command_fits : (words : List (List ℕ)) → IfSome (command_of words) IsInRange
command_fits [] = tt
command_fits (path ∷ words) = by_test (is_path path && not (list_any is_dashed words)) _ _ (by_some (named_of words) _ (λ p. of_name p.0 p.1 p.2)) tt
