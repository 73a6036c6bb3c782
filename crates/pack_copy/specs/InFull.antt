-- A file in which each content stands in full. Source: the FileStorage format notes; own for what a pack writes.
use Rattle.std.specs.Prelude.{ℕ, List, [], ◌∷◌, ◌++◌, None, map, if◌then◌else◌}
use Rattle.std.specs.List.{last_or}
use Rattle.zb_model.specs.declared.data.Content.{Content}
use Rattle.zb_model.specs.declared.data.Content.TheVariants.{Held, Absent}
use Rattle.zb_model.specs.declared.data.Change.{Change}
use Rattle.zb_model.specs.declared.data.Transaction.{Transaction}
use Rattle.fs_records.specs.Blocks.{Payload, Full, From, Written, Block, Reached, file_start, magic, block_text, after_block}
use Rattle.fs_records.specs.Indexed.{places_of}
use Rattle.fs_records.specs.Writing.{at_or_0}

-- a record's bytes, and where there is none back pointer 0
abbrev pub full_payload : Content → Payload
full_payload (Held bytes) = Full bytes
full_payload Absent = From 0

-- the data record of a change behind what was read, with the place of the object's newest record there
abbrev pub full_record : Reached → Change → Written
full_record s c = record { oid = c.oid; previous = at_or_0 (last_or None (places_of c.oid s.known)); payload = full_payload c.content }

-- a transaction behind what was read, with the status 70 in hexadecimal where a pack has gone over it, else 20
abbrev pub full_block : Reached → Transaction → Block
full_block s x = record {
  tid = x.tid;
  status = if x.packed then 112 else 32;
  user = x.user;
  description = x.description;
  extension = x.extension;
  records = map (full_record s) x.changes;
}

-- what was read with these transactions more
abbrev pub after_full : Reached → List Transaction → Reached
after_full s [] = s
after_full s (x ∷ xs) = after_full (after_block s (full_block s x)) xs

-- their text, one behind another
abbrev pub full_text : Reached → List Transaction → List ℕ
full_text s [] = []
full_text s (x ∷ xs) = block_text s.end (full_block s x) ++ full_text (after_block s (full_block s x)) xs

-- the file of a list
abbrev pub full_file : List Transaction → List ℕ
full_file list = magic ++ full_text file_start list
