-- Puts whose records were tried. Own.
use Rattle.std.specs.Prelude.{◌≡◌, ℕ, true, List, [], ◌∷◌, map, Option, Some, Result, Ok}
use Rattle.pickle_graph.specs.Graph.{Graph}
use Rattle.pickle_writing.specs.Spelling.{Spelled}
use Rattle.btree_family.specs.Classes.{Class}
use Rattle.zb_record.specs.declared.error.RecordError.{RecordError}
use Rattle.btree_shapes.specs.declared.reading.Entry.{Entry}
use Rattle.btree_shapes.specs.Nodes.{Holds, held_in, held_record}
use Rattle.btree_shapes.specs.Spaces.{IsRecordText}
use Rattle.btree_putting.specs.declared.puts.Put.{Put}
use Rattle.btree_putting.specs.declared.kept.Kept.{Kept}
use Rattle.btree_putting.specs.declared.trying.Written.{Written}
use Rattle.btree_putting.specs.Puts.{reads_as, text_reads_as, keeps, all_keep, IsSoundPut, AreSound, put_bytes}

-- ---- a record that was read back

-- a record reads as what is put, and holds this
pub record HasRecordBack (class : Class) (put : Put) (r : Result (Graph × Graph) RecordError) (entry : Entry) : Type 0 where
  pub reads : reads_as class put r ≡ true
  pub holds : held_record class r ≡ Holds entry.class entry.node

-- a record is written so, reads as what is put, and its bytes hold this
pub record HasTextBack (class : Class) (put : Put) (spelled : Spelled) (written : Written) : Type 0 where
  pub text : spelled ≡ Ok written.bytes
  pub reads : text_reads_as class put spelled ≡ true
  pub holds : held_in (Some class) (Some written.bytes) ≡ Holds written.entry.class written.entry.node

-- ---- puts that were tried

-- a put whose record can be written and reads back, with the bytes of the record and what they hold
pub record IsKept (class leaf : Class) (kept : Kept) : Type 0 where
  pub keeps_so : keeps class leaf kept.put ≡ true
  pub sound : IsSoundPut class leaf kept.put
  pub bytes_are : kept.bytes ≡ put_bytes class leaf kept.put
  pub text : IsRecordText kept.bytes
  pub holds : held_in (Some class) (Some kept.bytes) ≡ Holds kept.entry.class kept.entry.node

abbrev pub AreKept : Class → Class → List Kept → Type 0
AreKept class leaf [] = Unit {0}
AreKept class leaf (kept ∷ more) = IsKept class leaf kept × AreKept class leaf more

abbrev pub kept_put : Kept → Put
kept_put kept = kept.put

-- what trying a put gives
pub record IsTried (class leaf : Class) (put : Put) (kept : Kept) : Type 0 where
  pub put_is : kept.put ≡ put
  pub is_kept : IsKept class leaf kept

-- what trying puts gives
pub record AreTried (class leaf : Class) (puts : List Put) (kept : List Kept) : Type 0 where
  pub puts_are : map kept_put kept ≡ puts
  pub are_kept : AreKept class leaf kept
  pub all_so : all_keep class leaf puts ≡ true
  pub sound : AreSound class leaf puts
