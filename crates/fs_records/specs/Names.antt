-- The names of the rules, as they are printed. Source: own.
use Rattle.std.specs.Prelude.{ℕ, List, codes}
use Rattle.fs_records.specs.declared.field.Field.{Field}
use Rattle.fs_records.specs.declared.field.Field.TheVariants.{Status, Length, Closing, Tid, Size, Serial, Position, Version, Back}

-- a field's name, in lower case
abbrev pub name_of : Field → List ℕ
name_of Status = codes "status"
name_of Length = codes "length"
name_of Closing = codes "closing"
name_of Tid = codes "tid"
name_of Size = codes "size"
name_of Serial = codes "serial"
name_of Position = codes "position"
name_of Version = codes "version"
name_of Back = codes "back"
