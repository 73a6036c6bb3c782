-- What the words behind the program's name ask. Own.
use Rattle.std.specs.Prelude.{ℕ, List, [], ◌∷◌, Option, Some, None, Bool, true, false, not, ◌==◌, ◌&&◌, ◌||◌, ◌^◌, if◌then◌else◌, codes, decimal, nat_eq, nat_lt}
use Rattle.std.specs.List.{list_any}
use Rattle.std.specs.Option.{option_and_then, option_map}
use Rattle.std.specs.Str.{bytes_eq}
use Rattle.std.specs.Str.Parse.{digits_value}
use Rattle.zb_ids.specs.Hex.{number_at}
use Rattle.zb_ids.specs.Spelling.{time_at, time_number}
use Rattle.program_words.specs.declared.command.Command.{Command}
use Rattle.program_words.specs.declared.command.Command.TheVariants as command
use Rattle.program_words.specs.declared.command.Asked.TheVariants.{UndoLog, History, Show, Digest, Check}

-- a word that begins with a dash
abbrev pub is_dashed : List ℕ → Bool
is_dashed [] = false
is_dashed (b ∷ word) = b == 45

-- a path isn't empty and doesn't begin with a dash
abbrev pub is_path : List ℕ → Bool
is_path [] = false
is_path (b ∷ path) = not (b == 45)

-- ---- the table

-- the commands that stand alone, those with one position, and those that have or may have a second one
abbrev pub stands_alone : List ℕ → Bool
stands_alone word = bytes_eq (codes "run") word || (bytes_eq (codes "undolog") word || (bytes_eq (codes "index") word || bytes_eq (codes "play") word))

abbrev pub has_position : List ℕ → Bool
has_position word = bytes_eq (codes "history") word || (bytes_eq (codes "show") word || (bytes_eq (codes "digest") word || (bytes_eq (codes "pack") word || (bytes_eq (codes "check") word || bytes_eq (codes "gen") word))))

abbrev pub may_have_two : List ℕ → Bool
may_have_two word = bytes_eq (codes "pack") word || bytes_eq (codes "serve") word

-- a name of the table, with as many words behind it as it may have
abbrev pub named_of : List (List ℕ) → Option (List ℕ × Option (List ℕ) × Option (List ℕ))
named_of (word ∷ []) = if stands_alone word then Some (word, None, None) else None
named_of (word ∷ argument ∷ []) = if has_position word then Some (word, Some argument, None) else None
named_of (word ∷ argument ∷ more ∷ []) = if may_have_two word then Some (word, Some argument, Some more) else None
named_of _ = None

-- ---- the commands

-- what a name asks alone
abbrev pub word_command : List ℕ → Option Command
word_command word =
    if bytes_eq word (codes "run") then Some command.Run
    else if bytes_eq word (codes "undolog") then Some (command.Ask UndoLog)
    else if bytes_eq word (codes "index") then Some command.Index
    else if bytes_eq word (codes "play") then Some command.Play
    else None

-- what a name asks of an object
abbrev pub object_command : List ℕ → ℕ → Option Command
object_command word oid =
    if bytes_eq word (codes "history") then Some (command.Ask (History oid))
    else if bytes_eq word (codes "show") then Some (command.Ask (Show oid))
    else if bytes_eq word (codes "digest") then Some (command.Ask (Digest oid))
    else if bytes_eq word (codes "check") then Some (command.Ask (Check oid))
    else None

-- a pack up to a stamp, and whether it collects
abbrev pub pack_command : List ℕ → Bool → Option Command
pack_command text collect = option_map (λ t. command.Pack (record { tid = time_number t; collect = collect })) (time_at text)

-- the number below 2^16 that a word spells in decimal, without a sign and without zeros in front
abbrev pub number_word : List ℕ → Option ℕ
number_word word = if nat_lt (digits_value 10 word) (2 ^ 16) && bytes_eq word (decimal (digits_value 10 word)) then Some (digits_value 10 word) else None

-- so many links at a port: 1 to 64
abbrev pub serve_with : ℕ → ℕ → Option Command
serve_with port count = if nat_eq count 0 || nat_lt 64 count then None else Some (command.Serve (record { port = port; count = count }))

abbrev pub serve_command : List ℕ → List ℕ → Option Command
serve_command port count = option_and_then (λ p. option_and_then (serve_with p) (number_word count)) (number_word port)

-- the script of so many rounds: 1 to 8,000
abbrev pub gen_with : ℕ → Option Command
gen_with rounds = if nat_eq rounds 0 || nat_lt 8000 rounds then None else Some (command.Gen rounds)

abbrev pub gen_command : List ℕ → Option Command
gen_command text = option_and_then gen_with (number_word text)

-- what a name asks with the word at its position: a stamp, a number of rounds, or the sixteen digits of an object
abbrev pub text_command : List ℕ → List ℕ → Option Command
text_command word text =
    if bytes_eq word (codes "pack") then pack_command text true
    else if bytes_eq word (codes "gen") then gen_command text
    else option_and_then (object_command word) (number_at text)

-- and what it asks with a second word: a pack that doesn't collect, or links that are to be served
abbrev pub long_command : List ℕ → List ℕ → List ℕ → Option Command
long_command word text more =
    if bytes_eq word (codes "pack") && bytes_eq more (codes "nogc") then pack_command text false
    else if bytes_eq word (codes "serve") then serve_command text more
    else None

abbrev pub named_command : List ℕ → Option (List ℕ) → Option (List ℕ) → Option Command
named_command word None more = word_command word
named_command word (Some text) None = text_command word text
named_command word (Some text) (Some more) = long_command word text more

-- a path, a name of the table, and words of the right form behind it; none of the words begins with a dash
abbrev pub command_of : List (List ℕ) → Option Command
command_of [] = None
command_of (path ∷ words) = if is_path path && not (list_any is_dashed words) then option_and_then (λ p. named_command p.0 p.1 p.2) (named_of words) else None
