-- How the damage of a file is named. Own.
use Rattle.std.specs.Prelude.{◌≡◌, ℕ, List, codes}
use Rattle.fs_records.specs.File.{IsDamaged, IsNoFile}
use Rattle.fs_records.specs.declared.field.Field.{Field}
use Rattle.zodb_top.specs.Texts.{damage_line}
use Rattle.script_runs.specs.Texts.{line}

-- The line that names the damage of a file, where `told` says that the volume tells what the bytes are.
pub data NamesDamage (told : Type 0) (bytes : List ℕ) (text : List ℕ) : Type 0 where
  magic : (told → IsNoFile bytes) → text ≡ line (codes "damaged 0 magic") → NamesDamage told bytes text
  rule : (at : ℕ) (field : Field) → (told → IsDamaged bytes at field) → text ≡ damage_line at field → NamesDamage told bytes text
