-- The script of `gen N`: two local clients and two with a link, which change one tree in pairs. Own.
use Rattle.std.specs.Prelude.{◌≡◌, ℕ, zero, suc, ◌+◌, ◌*◌, ◌/◌, ◌%◌, ◌^◌, List, [], ◌∷◌, ◌++◌, Bool, ◌==◌, if◌then◌else◌, codes, decimal}
use Rattle.zb_script.specs.declared.line.Turn.{Turn}
use Rattle.zb_script.specs.Spelling.{IsLineText}
use Rattle.gen_script.specs.declared.line.GenLine.{GenLine}

-- ---- numbers

-- the number behind one, and what is drawn with it: below 1000
abbrev pub next : ℕ → ℕ
next x = (1103515245 * x + 12345) % 2 ^ 31

abbrev pub drawn : ℕ → ℕ
drawn x = x / 65536 % 1000

-- a number below 1000, in three digits
abbrev pub three_digits : ℕ → List ℕ
three_digits n = (48 + n / 100) ∷ (48 + n / 10 % 10) ∷ (48 + n % 10) ∷ []

-- ---- lines

abbrev pub line : ℕ → List ℕ → GenLine
line client text = record { client = client; text = text }

-- c0 and c1 have no link, c2 and c3 one; c0 makes an empty tree, and the root that leads to it
abbrev pub setup : List GenLine
setup =
    line 0 (codes "open local")
    ∷ line 1 (codes "open local")
    ∷ line 2 (codes "open remote")
    ∷ line 3 (codes "open remote")
    ∷ line 0 (codes "begin")
    ∷ line 0 (codes "new")
    ∷ line 0 (codes "put 0000000000000001 <BTrees.OOBTree:OOBTree> None")
    ∷ line 0 (codes "put 0000000000000000 <persistent.mapping:PersistentMapping> {\"data\":{\"t\":@0000000000000001}}")
    ∷ line 0 (codes "vote \"\" \"setup\"")
    ∷ line 0 (codes "finish")
    ∷ []

-- the tree has a number under one of a thousand keys
abbrev pub set_text : ℕ → ℕ → List ℕ
set_text key value = codes "set 0000000000000001 \"k" ++ (three_digits key ++ (codes "\" " ++ decimal value))

-- a round of two clients, with the keys that they set
abbrev pub turns_of : ℕ → ℕ → ℕ → ℕ → ℕ → List GenLine
turns_of i j u v k =
    line i (codes "deliver")
    ∷ line j (codes "deliver")
    ∷ line i (codes "begin")
    ∷ line j (codes "begin")
    ∷ line i (set_text u k)
    ∷ line j (set_text v k)
    ∷ line i (codes "vote \"\" \"\"")
    ∷ line i (codes "finish")
    ∷ line j (codes "vote \"\" \"\"")
    ∷ line j (codes "finish")
    ∷ line i (codes "abort")
    ∷ line j (codes "abort")
    ∷ []

-- behind each hundredth round the list is packed
abbrev pub pack_behind : Bool → List GenLine
pack_behind packs = if packs then line 0 (codes "pack ffffffffffffffff") ∷ [] else []

abbrev pub is_hundredth : ℕ → Bool
is_hundredth k = k % 100 == 0

-- round k, with the number before its two draws
abbrev pub round : ℕ → ℕ → List GenLine
round k x = turns_of (k % 4) ((k + 1) % 4) (drawn (next x)) (drawn (next (next x))) k ++ pack_behind (is_hundredth k)

-- so many rounds from round k on
abbrev pub rounds : ℕ → ℕ → ℕ → List GenLine
rounds zero k x = []
rounds (suc count) k x = round k x ++ rounds count (k + 1) (next (next x))

-- the whole script
abbrev pub gen_lines : ℕ → List GenLine
gen_lines n = setup ++ rounds n 1 n

-- ---- turns

abbrev pub client_name : ℕ → List ℕ
client_name i = 99 ∷ (48 + i) ∷ []

-- the turn that a line says
pub record IsTurnOf (l : GenLine) (t : Turn) : Type 0 where
  pub client : t.client ≡ client_name l.client
  pub says : IsLineText l.text t.line

-- how many of the lines are a client's
abbrev pub count_of : ℕ → List GenLine → ℕ
count_of i [] = 0
count_of i (l ∷ lines) = (if l.client == i then 1 else 0) + count_of i lines

-- a line is its client's last, where these follow
abbrev pub is_last_before : ℕ → List GenLine → Bool
is_last_before i later = count_of i later == 0
