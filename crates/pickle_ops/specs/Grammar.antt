-- The spelling of tokens, apart from how they are read.
use Rattle.std.specs.Prelude.{ℕ, ℤ, pos, Bool, true, false, List, [], ◌∷◌, ◌++◌, Some, ◌==◌, if◌then◌else◌, length, ◌+◌, ◌-◌, ◌≤◌, ◌≡◌}
use Rattle.std.specs.Str.{is_utf8}
use Rattle.byteorder.specs.Endian.{little_number, twos_complement}
use Rattle.pickle_ops.specs.Rows.{row_in}
use Rattle.pickle_ops.specs.declared.table.TheConstants.{TABLE}
use Rattle.pickle_ops.specs.declared.table.Row.{Row}
use Rattle.pickle_ops.specs.declared.table.Op.{Op}
use Rattle.pickle_ops.specs.declared.table.Kind.{Kind}
use Rattle.pickle_ops.specs.declared.table.Kind.TheVariants as kinds
use Rattle.pickle_ops.specs.declared.token.Token.{Token}

-- so many bytes, for which a reading of them gives the number
pub record SpellsNumber (size : ℕ) (value : List ℕ → ℤ) (text : List ℕ) (number : ℤ) (held : List ℕ) : Type 0 where
  pub long : length text ≡ size
  pub says : number ≡ value text
  pub whole : held ≡ text

-- a length of so many bytes, and the bytes that it counts
pub record SpellsCounted (size : ℕ) (value : List ℕ → ℤ) (text : List ℕ) (number : ℤ) (held : List ℕ) : Type 0 where
  pub head : List ℕ
  pub spelled : text ≡ head ++ held
  pub long : length head ≡ size
  pub count : value head ≡ pos (length held)
  pub none : number ≡ pos 0

-- no byte is a newline
abbrev pub is_one_line : List ℕ → Bool
is_one_line [] = true
is_one_line (byte ∷ bytes) = if byte == 10 then false else is_one_line bytes

-- UTF-8 without a newline
pub record IsGlobalLine (line : List ℕ) : Type 0 where
  pub one : is_one_line line ≡ true
  pub utf8 : is_utf8 line ≡ true

-- a module and a name
pub record SpellsLines (text : List ℕ) (number : ℤ) (held : List ℕ) : Type 0 where
  pub first : List ℕ
  pub second : List ℕ
  pub module_line : IsGlobalLine first
  pub name_line : IsGlobalLine second
  pub spelled : text ≡ first ++ 10 ∷ (second ++ 10 ∷ [])
  pub none : number ≡ pos 0
  pub whole : held ≡ text

-- the number that so many bytes stand for, the lowest first
abbrev pub unsigned_value : ℕ → List ℕ → ℤ
unsigned_value size bytes = pos (little_number size bytes)

-- the number in two's complement that so many bytes stand for, the lowest first
abbrev pub signed_value : ℕ → List ℕ → ℤ
signed_value size bytes = twos_complement size (little_number size bytes)

-- text spells an argument of a kind, which says the number and has the bytes held
abbrev pub IsArgument : Kind → List ℕ → ℤ → List ℕ → Type 0
IsArgument kinds.Nothing text number held = SpellsNumber 0 (λ _. pos 0) text number held
IsArgument kinds.Version text number held =
    SpellsNumber 1 (unsigned_value 1) text number held × (little_number 1 text ≤ 3)
IsArgument kinds.Unsigned1 text number held = SpellsNumber 1 (unsigned_value 1) text number held
IsArgument kinds.Unsigned2 text number held = SpellsNumber 2 (unsigned_value 2) text number held
IsArgument kinds.Unsigned4 text number held = SpellsNumber 4 (unsigned_value 4) text number held
IsArgument kinds.Signed4 text number held = SpellsNumber 4 (signed_value 4) text number held
IsArgument kinds.Float8 text number held = SpellsNumber 8 (λ _. pos 0) text number held
IsArgument kinds.Counted1 text number held = SpellsCounted 1 (unsigned_value 1) text number held
IsArgument kinds.Counted4 text number held = SpellsCounted 4 (unsigned_value 4) text number held
IsArgument kinds.SignedCounted4 text number held = SpellsCounted 4 (signed_value 4) text number held
IsArgument kinds.Text4 text number held =
    SpellsCounted 4 (unsigned_value 4) text number held × (is_utf8 held ≡ true)
IsArgument kinds.TwoLines text number held = SpellsLines text number held

-- text spells a token: the byte of a row of the table, and an argument of its kind
pub record IsToken (text : List ℕ) (op : Op) (number : ℤ) (held : List ℕ) : Type 0 where
  pub row : Row
  pub argument : List ℕ
  pub listed : row_in TABLE.rows row.byte ≡ Some row
  pub named : op ≡ row.op
  pub spelled : text ≡ row.byte ∷ argument
  pub says : IsArgument row.kind argument number held

-- the token that text spells, at a place, and the place behind it
abbrev pub spelled_token : ℕ → List ℕ → Op → ℤ → List ℕ → Token × ℕ
spelled_token at text op number held =
    (record { op = op; number = number; start = at + (length text - length held); length = length held }, at + length text)
