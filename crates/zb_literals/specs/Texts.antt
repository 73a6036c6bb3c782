-- Texts, bytes and numbers as literals. Own.
use Rattle.std.specs.Prelude.{ℕ, true, false, List, [], ◌∷◌, ◌++◌, Bool, ◌&&◌, ◌||◌, ◌==◌, nat_le, if◌then◌else◌, codes}
use Rattle.std.specs.List.{flat_map}
use Rattle.std.specs.Char.Escape.{escape_unicode}
use Rattle.std.specs.Fmt.{signed_decimal}
use Rattle.std.specs.Str.{chars, is_utf8}
use Rattle.zb_ids.specs.Hex.{hex_text, pair_of}
use Rattle.pickle_graph.specs.declared.node.Node.{Node}
use Rattle.pickle_graph.specs.declared.node.Node.TheVariants as kinds

-- a character that stands for itself: one of ASCII that prints
abbrev pub is_plain : ℕ → Bool
is_plain c = nat_le 32 c && nat_le c 126

-- a quote or a backslash
abbrev pub is_quoted : ℕ → Bool
is_quoted c = c == 34 || c == 92

-- a character within quotes: a backslash goes before `"` and `\`, and a character that doesn't print in
-- ASCII is `\u{..}` with the fewest digits
abbrev pub character_text : ℕ → List ℕ
character_text c = if is_quoted c then 92 ∷ c ∷ [] else if is_plain c then c ∷ [] else escape_unicode c

-- the characters of a text in UTF-8, within quotes
abbrev pub quoted_text : List ℕ → List ℕ
quoted_text bytes = 34 ∷ (flat_map character_text (chars bytes) ++ 34 ∷ [])

-- two digits for each byte
abbrev pub bytes_text : List ℕ → List ℕ
bytes_text bytes = codes "b:" ++ hex_text bytes

-- a text in UTF-8 within quotes, other bytes by their digits
abbrev pub text_literal : List ℕ → List ℕ
text_literal bytes = if is_utf8 bytes then quoted_text bytes else bytes_text bytes

-- ---- globals

-- a letter, a digit, `_` or `.`
abbrev pub is_name_byte : ℕ → Bool
is_name_byte b = (nat_le 97 b && nat_le b 122) || (nat_le 65 b && nat_le b 90) || (nat_le 48 b && nat_le b 57) || b == 95 || b == 46

-- a byte of a module or a name: `\xhh` where it doesn't stand for itself
abbrev pub name_byte_text : ℕ → List ℕ
name_byte_text b = if is_name_byte b then b ∷ [] else 92 ∷ 120 ∷ pair_of b

-- `<module:name>`
abbrev pub global_text : List ℕ → List ℕ → List ℕ
global_text module_line name_line = 60 ∷ (flat_map name_byte_text module_line ++ 58 ∷ (flat_map name_byte_text name_line ++ 62 ∷ []))

-- ---- leaves

-- the literal of a node without items
abbrev pub leaf_literal : Node → List ℕ
leaf_literal kinds.None = codes "None"
leaf_literal (kinds.Bool true) = codes "True"
leaf_literal (kinds.Bool false) = codes "False"
leaf_literal (kinds.Number number) = signed_decimal number
leaf_literal (kinds.Wide bytes) = codes "n:" ++ hex_text bytes
leaf_literal (kinds.Float bytes) = codes "f:" ++ hex_text bytes
leaf_literal (kinds.Bytes bytes) = bytes_text bytes
leaf_literal (kinds.OldText bytes) = codes "s:" ++ hex_text bytes
leaf_literal (kinds.Text bytes) = quoted_text bytes
leaf_literal (kinds.Global module_line name_line) = global_text module_line name_line
leaf_literal _ = codes "()"
