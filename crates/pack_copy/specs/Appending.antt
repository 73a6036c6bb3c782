-- Bytes are put behind Side through a buffer. Source: own.
use Rattle.std.specs.Prelude.{◌≡◌, ℕ, ◌++◌, List, length}
use Rattle.zb_base.specs.Bytes.{AreBytes}
use Rattle.zb_volume.specs.declared.areas.Area.TheVariants.{Side}
use Rattle.zb_volume.specs.Calls.{Event}
use Rattle.zb_volume.specs.Disk.{seen}

-- what contracts see of a buffer: the bytes that are held, and where Side ends
pub record Held : Type 0 where
  pub bytes : List ℕ
  pub end : ℕ

-- Side ends where a buffer has it
abbrev pub IsAtEnd : List Event → Held → Type 0
IsAtEnd log b = b.end ≡ length (seen log Side)

-- Side with the bytes that are held behind it
abbrev pub with_held : List Event → Held → List ℕ
with_held log b = seen log Side ++ b.bytes

-- these bytes were put behind Side and what is held
pub record IsAppended (log : List Event) (b : Held) (log_now : List Event) (now : Held) (text : List ℕ) : Type 0 where
  pub text_is : with_held log_now now ≡ with_held log b ++ text
  pub end : IsAtEnd log_now now
  pub fits : AreBytes text
