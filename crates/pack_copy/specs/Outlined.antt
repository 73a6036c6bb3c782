-- How an outlined transaction is written behind the file on Side. Source: own.
use Rattle.std.specs.Prelude.{◌≡◌, ℕ, ◌+◌, ◌<◌, ◌^◌, List, [], ◌∷◌, Option, Some, None, length, map, if◌then◌else◌}
use Rattle.fs_index.specs.declared.place.Placed.{Placed}
use Rattle.fs_records.specs.Blocks.{Block, Written}
use Rattle.fs_index.specs.Places.{PlacesKept}
use Rattle.fs_records.specs.Writing.{written_of}
use Rattle.fs_reading.specs.declared.outline.Source.{Source}
use Rattle.fs_reading.specs.declared.outline.OutlinedChange.{OutlinedChange}
use Rattle.fs_reading.specs.declared.outline.Outline.{Outline}
use Rattle.fs_reading.specs.Outlines.{outlined_change}
use Rattle.pack_copy.specs.declared.ready.Ready.{Ready}
use Rattle.pack_copy.specs.Renewing.{change_anew}

-- the length in the header of a content's data record, which is 0 before a back pointer
abbrev pub source_length : Option Source → ℕ
source_length None = 0
source_length (Some source) = source.length

-- how many bytes the data record of a content has
abbrev pub source_size : Option Source → ℕ
source_size None = 50
source_size (Some source) = 42 + source.length

-- where the data records of some changes stand, one behind another from q on
abbrev pub placed_in : ℕ → ℕ → List OutlinedChange → List Placed
placed_in tid q [] = []
placed_in tid q (c ∷ cs) = record { oid = c.oid; place = record { serial = tid; at = q } } ∷ placed_in tid (q + source_size c.source) cs

-- the place behind these records
abbrev pub end_in : ℕ → List OutlinedChange → ℕ
end_in q [] = q
end_in q (c ∷ cs) = end_in (q + source_size c.source) cs

-- where the data records of a transaction at a place begin
abbrev pub records_begin : ℕ → Outline → ℕ
records_begin at o = at + (23 + (length o.user + length o.description + length o.extension))

-- where a transaction stands that is to stand at a place
pub record IsReady (at : ℕ) (o : Outline) (ready : Ready) : Type 0 where
  pub records_are : ready.records ≡ placed_in o.tid (records_begin at o) o.changes
  pub end_is : ready.end ≡ end_in (records_begin at o) o.changes + 8
  pub limit : ready.end < 2 ^ 63

-- the data record of a change, with the content in full that stands in these bytes, over an index of what stands before it
abbrev pub record_in : List (ℕ × PlacesKept) → List ℕ → OutlinedChange → Written
record_in entries bytes c = written_of entries (change_anew (outlined_change bytes c))

-- the transaction with the contents that stand in these bytes
abbrev pub block_in : List (ℕ × PlacesKept) → List ℕ → Outline → Block
block_in entries bytes o = record {
  tid = o.tid;
  status = if o.packed then 112 else 32;
  user = o.user;
  description = o.description;
  extension = o.extension;
  records = map (record_in entries bytes) o.changes;
}
