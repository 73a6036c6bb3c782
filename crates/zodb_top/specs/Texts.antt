-- The lines that the program writes beside replies. Own.
use Rattle.std.specs.Prelude.{ℕ, List, ◌∷◌, ◌++◌, codes, decimal}
use Rattle.sha2.specs.Sha256.{sha256}
use Rattle.btree_checking.specs.declared.verdict.Verdict.{Verdict}
use Rattle.btree_checking.specs.declared.verdict.Verdict.TheVariants as verdict
use Rattle.btree_checking.specs.Names.{name_of as rule_name}
use Rattle.fs_records.specs.Names.{name_of}
use Rattle.fs_records.specs.declared.field.Field.{Field}
use Rattle.zb_ids.specs.Hex.{hex_number, hex_text}
use Rattle.zb_script.specs.declared.limits.Limit.{Limit}
use Rattle.zb_script.specs.Limits.{limit_count, limit_name}
use Rattle.script_runs.specs.Texts.{line}

abbrev pub usage_line : List ℕ
usage_line = line (codes "usage")

abbrev pub read_fault_line : List ℕ
read_fault_line = line (codes "read fault")

abbrev pub bad_line : ℕ → List ℕ
bad_line number = line (codes "bad line " ++ decimal number)

-- a limit that is passed, by its name and its number
abbrev pub limit_line : Limit → List ℕ
limit_line l = line (codes "limit " ++ (limit_name l ++ 32 ∷ decimal (limit_count l)))

-- the rule that fails, and where
abbrev pub damage_line : ℕ → Field → List ℕ
damage_line at field = line (codes "damaged " ++ (decimal at ++ 32 ∷ name_of field))

-- up to where the index file goes
abbrev pub indexed_line : ℕ → List ℕ
indexed_line end = line (codes "indexed " ++ decimal end)

-- an object that has no record
abbrev pub missing_line : List ℕ
missing_line = line (codes "missing")

-- a step that isn't made since reading failed
abbrev pub refused_line : List ℕ
refused_line = line (codes "refused ReadFault")

-- a serial, and the digest of bytes, in hexadecimal digits
abbrev pub digest_line : ℕ → List ℕ → List ℕ
digest_line serial bytes = line (hex_number serial ++ 32 ∷ hex_text (sha256 bytes))

-- a tree is sound, with so many items and objects; or an object breaks a rule, which is named
abbrev pub verdict_line : Verdict → List ℕ
verdict_line (verdict.Sound items nodes) = line (codes "sound " ++ (decimal items ++ 32 ∷ decimal nodes))
verdict_line (verdict.Broken oid rule) = line (codes "broken " ++ (hex_number oid ++ 32 ∷ rule_name rule))
