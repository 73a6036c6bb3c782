-- How a new transaction is written. Source: the FileStorage format notes; own for the place that a back pointer leads to.
use Rattle.std.specs.Prelude.{◌≡◌, ℕ, ◌+◌, ◌^◌, ◌<◌, List, [], ◌∷◌, map, length, slice_set, Option, None}
use Rattle.std.specs.List.{last_or}
use Rattle.std.specs.Option.{option_map_or}
use Rattle.zb_model.specs.declared.data.Transaction.{Transaction}
use Rattle.zb_model.specs.declared.new_transaction.NewContent.{NewContent}
use Rattle.zb_model.specs.declared.new_transaction.NewContent.TheVariants.{Bytes, Absent, AsOf}
use Rattle.zb_model.specs.declared.new_transaction.NewChange.{NewChange}
use Rattle.zb_model.specs.declared.new_transaction.NewTransaction.{NewTransaction}
use Rattle.fs_index.specs.declared.place.Place.{Place}
use Rattle.fs_records.specs.Blocks.{Payload, Full, From, Written, Block, block_text, Reached, transaction_of, IsBlock}
use Rattle.fs_index.specs.Places.{PlacesKept, places_in, last_below}

-- where a place is, or 0 where there is none
abbrev pub at_or_0 : Option Place → ℕ
at_or_0 place = option_map_or (λ p. p.at) place 0

-- where the object's newest record stands, or 0
abbrev pub previous_in : List (ℕ × PlacesKept) → ℕ → ℕ
previous_in entries oid = at_or_0 (last_or None (places_in entries oid))

-- where the object's last record in the transactions up to this one stands, or 0
abbrev pub earlier_in : List (ℕ × PlacesKept) → ℕ → ℕ → ℕ
earlier_in entries oid serial = at_or_0 (last_below (serial + 1) (places_in entries oid))

-- bytes in full; that the object isn't there; or the place of the record whose content is taken over
abbrev pub payload_of : List (ℕ × PlacesKept) → ℕ → NewContent → Payload
payload_of entries oid (Bytes bytes) = Full bytes
payload_of entries oid Absent = From 0
payload_of entries oid (AsOf serial) = From (earlier_in entries oid serial)

-- the data record of a change, over an index of what was read
abbrev pub written_of : List (ℕ × PlacesKept) → NewChange → Written
written_of entries change = record { oid = change.oid; previous = previous_in entries change.oid; payload = payload_of entries change.oid change.content }

-- a new transaction as it is written with this status, over an index of what was read: each change in its place
abbrev pub block_of : ℕ → List (ℕ × PlacesKept) → NewTransaction → Block
block_of status entries new = record {
  tid = new.tid;
  status = status;
  user = new.user;
  description = new.description;
  extension = new.extension;
  records = map (written_of entries) new.changes;
}

-- how many bytes the data record of a change has
abbrev pub record_size : NewContent → ℕ
record_size (Bytes bytes) = 42 + length bytes
record_size Absent = 50
record_size (AsOf serial) = 50

-- how many bytes those of some changes have
abbrev pub records_size : List NewChange → ℕ
records_size [] = 0
records_size (c ∷ cs) = record_size c.content + records_size cs

-- how many bytes the text of a new transaction has
abbrev pub text_size : NewTransaction → ℕ
text_size new = 31 + (length new.user + length new.description + length new.extension) + records_size new.changes

-- a block may stand behind what was read, and is this transaction there
pub record IsNext (s : Reached) (b : Block) (t : Transaction) : Type 0 where
  pub block : IsBlock s b
  pub is : transaction_of s b ≡ t

-- a payload's length, or the place that it leads to, has room in its field
abbrev pub PayloadFits : Payload → Type 0
PayloadFits (Full bytes) = length bytes < 2 ^ 64
PayloadFits (From place) = place < 2 ^ 64

-- a data record's numbers have room in their fields
pub record HasRoom (r : Written) : Type 0 where
  pub oid : r.oid < 2 ^ 64
  pub previous : r.previous < 2 ^ 64
  pub payload : PayloadFits r.payload

-- to set the byte 16 of a transaction's text is to set its status
abbrev pub StatusIsSet : Type 0
StatusIsSet = (place : ℕ) (b : Block) (status : ℕ) → slice_set (block_text place b) 16 status ≡ block_text place (record b { status = status })
