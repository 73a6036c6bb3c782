-- The objects that a record names. From: `referencesf` of ZODB.
use Rattle.std.specs.Prelude.{ℕ, List, Option, Some, None, Result, Ok, Err}
use Rattle.zb_record.specs.declared.error.RecordError.{RecordError}
use Rattle.zb_record.specs.Records.{references_of}

-- what was found
abbrev pub found_oids : Result (List ℕ) RecordError → Option (List ℕ)
found_oids (Ok oids) = Some oids
found_oids (Err e) = None

-- the oids of a record's references, of the class before those of the state; none where the bytes are no record
abbrev pub stock_references : List ℕ → Option (List ℕ)
stock_references bytes = found_oids (references_of bytes)
