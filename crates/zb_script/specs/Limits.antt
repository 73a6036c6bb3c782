-- The limits of a script. Own.
use Rattle.std.specs.Prelude.{ℕ, List, [], ◌∷◌, ◌++◌, length, Option, Some, None, not, ◌&&◌, nat_lt, ◌==◌, codes, if◌then◌else◌}
use Rattle.std.specs.List.{before_first}
use Rattle.zb_script.specs.declared.limits.Limit.{Limit}
use Rattle.zb_script.specs.declared.limits.Limit.TheVariants as limits
use Rattle.zb_script.specs.Lines.{pieces}
use Rattle.zb_script.specs.Names.{is_name}
use Rattle.zb_script.specs.Shape.{is_among}

abbrev pub limit_name : Limit → List ℕ
limit_name limits.Bytes = codes "bytes"
limit_name limits.Lines = codes "lines"
limit_name limits.Clients = codes "clients"

abbrev pub limit_count : Limit → ℕ
limit_count limits.Bytes = 67108864
limit_count limits.Lines = 100000
limit_count limits.Clients = 64

-- what stands ahead of a line's first blank, or the whole line
abbrev pub first_word : List ℕ → List ℕ
first_word text = before_first (λ b. b == 32) text

-- names, and a word behind them where it has a name's form and isn't there yet
abbrev pub with_name : List (List ℕ) → List ℕ → List (List ℕ)
with_name names word = if is_name word && not (is_among word names) then names ++ word ∷ [] else names

-- names, and behind them those that stand first on these lines, each once
abbrev pub names_of : List (List ℕ) → List (List ℕ) → List (List ℕ)
names_of names [] = names
names_of names (text ∷ texts) = names_of (with_name names (first_word text)) texts

-- the words of a name's form that stand first on a line, each once
abbrev pub clients_of : List ℕ → List (List ℕ)
clients_of bytes = names_of [] (pieces bytes)

-- the first limit that the bytes pass
abbrev pub first_limit : List ℕ → Option Limit
first_limit bytes =
    if nat_lt (limit_count limits.Bytes) (length bytes) then Some limits.Bytes
    else if nat_lt (limit_count limits.Lines) (length (pieces bytes)) then Some limits.Lines
    else if nat_lt (limit_count limits.Clients) (length (clients_of bytes)) then Some limits.Clients
    else None
