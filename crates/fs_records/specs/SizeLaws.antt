-- How long the text of a new transaction is.
use Rattle.std.proofs.Common.{◌≡◌, ℕ, ◌+◌, List, [], ◌∷◌, ◌++◌, length, map, refl, arith}
use Rattle.std.proofs.lemmas.List.{length-append}
use Rattle.zb_model.specs.declared.new_transaction.NewContent.{NewContent}
use Rattle.zb_model.specs.declared.new_transaction.NewContent.TheVariants.{Bytes, Absent, AsOf}
use Rattle.zb_model.specs.declared.new_transaction.NewChange.{NewChange}
use Rattle.zb_model.specs.declared.new_transaction.NewTransaction.{NewTransaction}
use Rattle.fs_records.specs.NumberLaws.{length-number}
use Rattle.fs_records.specs.Blocks.{record_text, records_text, payload_text, length_of}
use Rattle.fs_index.specs.Places.{PlacesKept}
use Rattle.fs_records.specs.RecordLaws.{length-record_text}
use Rattle.fs_records.specs.Writing.{earlier_in, payload_of, written_of, block_of, record_size, records_size, text_size}

payload_long : (entries : List (ℕ × PlacesKept)) (oid : ℕ) (c : NewContent) → 42 + length (payload_text (payload_of entries oid c)) ≡ record_size c
payload_long entries oid (Bytes bytes) = refl
payload_long entries oid Absent = omega (arith, length-number 8 0)
payload_long entries oid (AsOf serial) = omega (arith, length-number 8 (earlier_in entries oid serial))

-- the data record of a change
pub record_long : (entries : List (ℕ × PlacesKept)) (place tid : ℕ) (c : NewChange) → length (record_text place tid (written_of entries c)) ≡ record_size c.content
record_long entries place tid c = omega (arith, length-record_text place tid (written_of entries c), payload_long entries c.oid c.content)

-- those of all changes
pub records_long : (entries : List (ℕ × PlacesKept)) (place tid : ℕ) (cs : List NewChange) → length (records_text place tid (map (written_of entries) cs)) ≡ records_size cs
records_long entries place tid [] = refl
records_long entries place tid (c ∷ cs) =
    omega (arith, records_long entries place tid cs, record_long entries place tid c, length-append (record_text place tid (written_of entries c)) (records_text place tid (map (written_of entries) cs)))

-- the length that stands at both ends of the text
pub length_is : (entries : List (ℕ × PlacesKept)) (place status : ℕ) (new : NewTransaction) → length_of place (block_of status entries new) + 8 ≡ text_size new
length_is entries place status new =
    omega (arith, records_long entries place new.tid new.changes, length-append new.user (new.description ++ new.extension), length-append new.description new.extension)
