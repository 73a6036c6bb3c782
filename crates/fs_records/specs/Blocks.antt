-- How a transaction stands in a file, and what was read so far. Source: the FileStorage format notes.
use Rattle.std.specs.Prelude.{◌≡◌, ℕ, ◌+◌, ◌-◌, ◌^◌, ◌<◌, Bool, true, ◌&&◌, ◌||◌, ◌==◌, if◌then◌else◌, List, [], ◌∷◌, ◌++◌, length, drop, map, codes, nat_eq}
use Rattle.std.specs.List.{flat_map, list_any}
use Rattle.indexmap.specs.IndexMap.{insert_entry}
use Rattle.zb_model.specs.declared.data.Content.{Content}
use Rattle.zb_model.specs.declared.data.Content.TheVariants.{Held, Absent}
use Rattle.zb_model.specs.declared.data.Change.{Change}
use Rattle.zb_model.specs.declared.data.Transaction.{Transaction}
use Rattle.fs_records.specs.declared.header.Header.{Header}
use Rattle.fs_records.specs.declared.header.DataHeader.{DataHeader}
use Rattle.fs_index.specs.declared.place.Place.{Place}
use Rattle.fs_records.specs.Numbers.{number}
use Rattle.fs_records.specs.Headers.{header_text, data_header_text}

-- ---- a transaction as it is written

-- what stands behind a data record's header: bytes, or the place of a record whose content it takes over, where 0 says that the object isn't there
pub data Payload : Type 0 where
  Full : List ℕ → Payload
  From : ℕ → Payload

-- a data record as it is written: the object, the place of its record before, which no reader looks at, and the payload
pub record Written : Type 0 where
  pub oid : ℕ
  pub previous : ℕ
  pub payload : Payload

-- a transaction as it is written
pub record Block : Type 0 where
  pub tid : ℕ
  pub status : ℕ
  pub user : List ℕ
  pub description : List ℕ
  pub extension : List ℕ
  pub records : List Written

-- the length in a data record's header, which is 0 before a back pointer
abbrev pub payload_length : Payload → ℕ
payload_length (Full bytes) = length bytes
payload_length (From at) = 0

abbrev pub payload_text : Payload → List ℕ
payload_text (Full bytes) = bytes
payload_text (From at) = number 8 at

-- the header of a data record of the transaction with this tid at this place
abbrev pub data_header : ℕ → ℕ → Written → DataHeader
data_header place tid r = record { oid = r.oid; tid = tid; previous = r.previous; transaction = place; version = 0; length = payload_length r.payload }

-- a data record is its header and its payload
unfoldable pub record_text : ℕ → ℕ → Written → List ℕ
record_text place tid r = data_header_text (data_header place tid r) ++ payload_text r.payload

-- data records, one behind another
abbrev pub records_text : ℕ → ℕ → List Written → List ℕ
records_text place tid rs = flat_map (record_text place tid) rs

-- the three texts behind a transaction's header
abbrev pub texts : Block → List ℕ
texts b = b.user ++ (b.description ++ b.extension)

-- where the data records of a transaction at this place begin
abbrev pub records_from : ℕ → Block → ℕ
records_from place b = place + (23 + length (texts b))

-- the length that stands at both ends: of all but the closing length
abbrev pub length_of : ℕ → Block → ℕ
length_of place b = 23 + length (texts b) + length (records_text place b.tid b.records)

-- the header of a block at a place
abbrev pub header_for : ℕ → Block → Header
header_for place b = record { tid = b.tid; length = length_of place b; status = b.status; user = length b.user; description = length b.description; extension = length b.extension }

-- a transaction at a place is its header, its texts, its data records, and its length again
unfoldable pub block_text : ℕ → Block → List ℕ
block_text place b = header_text (header_for place b) ++ (texts b ++ (records_text place b.tid b.records ++ number 8 (length_of place b)))

-- ---- what was read so far

-- a data record that was read: whose it is, of which transaction, where it stands, and the content that the object has by it
pub record Known : Type 0 where
  pub oid : ℕ
  pub tid : ℕ
  pub place : ℕ
  pub content : Content

-- whether a record is of this object and stands at this place
abbrev pub is_at : ℕ → ℕ → Known → Bool
is_at oid place k = oid == k.oid && k.place == place

-- whether a record of the object was read at the place
abbrev pub is_known : List Known → ℕ → ℕ → Bool
is_known known oid place = list_any (is_at oid place) known

-- the content of the object's record at the place
abbrev pub content_at : List Known → ℕ → ℕ → Content
content_at [] oid place = Absent
content_at (k ∷ ks) oid place = if is_at oid place k then k.content else content_at ks oid place

-- a payload's content: its bytes, or what the record has that it leads to, or that the object isn't there
abbrev pub content_of : List Known → ℕ → Payload → Content
content_of known oid (Full bytes) = Held bytes
content_of known oid (From place) = if place == 0 then Absent else content_at known oid place

-- what is known of a record of the transaction with this tid, at q
abbrev pub known_at : List Known → ℕ → ℕ → Written → Known
known_at known tid q r = record { oid = r.oid; tid = tid; place = q; content = content_of known r.oid r.payload }

-- what is known with one record more, of the transaction with this tid, at q
abbrev pub with_record : List Known → ℕ → ℕ → Written → List Known
with_record known tid q r = known ++ known_at known tid q r ∷ []

-- with the records from q on, of the transaction with this tid at this place
abbrev pub with_records : List Known → ℕ → ℕ → ℕ → List Written → List Known
with_records known place tid q [] = known
with_records known place tid q (r ∷ rs) = with_records (with_record known tid q r) place tid (q + length (record_text place tid r)) rs

-- One entry an object: at the place of its first record in the transaction, with the content of its last.
abbrev pub changes_of : List (ℕ × Content) → List Known → ℕ → ℕ → ℕ → List Written → List (ℕ × Content)
changes_of done known place tid q [] = done
changes_of done known place tid q (r ∷ rs) = changes_of (insert_entry nat_eq done r.oid (content_of known r.oid r.payload)) (with_record known tid q r) place tid (q + length (record_text place tid r)) rs

-- an object and its content as a change
abbrev pub as_change : ℕ × Content → Change
as_change entry = record { oid = entry.0; content = entry.1 }

-- what was read of a file: up to which place, the last tid, the data records, the transactions, and where they stand
pub record Reached : Type 0 where
  pub end : ℕ
  pub newest : ℕ
  pub known : List Known
  pub list : List Transaction
  pub starts : List Place

-- a file begins with these four bytes
abbrev pub magic : List ℕ
magic = codes "FS30"

-- behind them nothing was read yet
abbrev pub file_start : Reached
file_start = record { end = 4; newest = 0; known = []; list = []; starts = [] }

-- the transaction of the list that a block is, behind what was read
abbrev pub transaction_of : Reached → Block → Transaction
transaction_of s b = record {
  tid = b.tid;
  packed = b.status == 112;
  user = b.user;
  description = b.description;
  extension = b.extension;
  changes = map as_change (changes_of [] s.known s.end b.tid (records_from s.end b) b.records);
}

-- with one transaction more
unfoldable pub after_block : Reached → Block → Reached
after_block s b = record {
  end = s.end + (length_of s.end b + 8);
  newest = b.tid;
  known = with_records s.known s.end b.tid (records_from s.end b) b.records;
  list = s.list ++ transaction_of s b ∷ [];
  starts = s.starts ++ record { serial = b.tid; at = s.end } ∷ [];
}

-- ---- what may stand there

-- a payload: at least a byte, or 0, or where a record of the object was read before
abbrev pub IsPayload : List Known → ℕ → Payload → Type 0
IsPayload known oid (Full bytes) = (0 < length bytes) × (length bytes < 2 ^ 64)
IsPayload known oid (From place) = (place < 2 ^ 64) × ((place == 0 || is_known known oid place) ≡ true)

-- a data record behind these
pub record IsWrittenRecord (known : List Known) (r : Written) : Type 0 where
  pub oid : r.oid < 2 ^ 64
  pub previous : r.previous < 2 ^ 64
  pub payload : IsPayload known r.oid r.payload

-- data records from q on, each behind those before it
abbrev pub AreWritten : List Known → ℕ → ℕ → ℕ → List Written → Type 0
AreWritten known place tid q [] = Unit {0}
AreWritten known place tid q (r ∷ rs) = IsWrittenRecord known r × AreWritten (with_record known tid q r) place tid (q + length (record_text place tid r)) rs

-- A block may come next: its status is committed or packed, its tid is above the last and below 2^64-1, its numbers have room in their fields, and its data records may stand there.
pub record IsBlock (s : Reached) (b : Block) : Type 0 where
  pub place : s.end < 2 ^ 64
  pub above : s.newest < b.tid
  pub below : b.tid < 2 ^ 64 - 1
  pub status : (b.status == 32 || b.status == 112) ≡ true
  pub user : length b.user < 2 ^ 16
  pub description : length b.description < 2 ^ 16
  pub extension : length b.extension < 2 ^ 16
  pub records : AreWritten s.known s.end b.tid (records_from s.end b) b.records
  pub long : length_of s.end b < 2 ^ 64

-- blocks, each behind those before it
abbrev pub AreBlocks : Reached → List Block → Type 0
AreBlocks s [] = Unit {0}
AreBlocks s (b ∷ bs) = IsBlock s b × AreBlocks (after_block s b) bs

abbrev pub blocks_text : Reached → List Block → List ℕ
blocks_text s [] = []
blocks_text s (b ∷ bs) = block_text s.end b ++ blocks_text (after_block s b) bs

-- what was read with these blocks more
abbrev pub after_blocks : Reached → List Block → Reached
after_blocks s [] = s
after_blocks s (b ∷ bs) = after_blocks (after_block s b) bs

-- the bytes begin as a file with blocks up to what was reached
pub record Begins (bytes : List ℕ) (s : Reached) : Type 0 where
  pub blocks : List Block
  pub are : AreBlocks file_start blocks
  pub parts : bytes ≡ magic ++ (blocks_text file_start blocks ++ drop s.end bytes)
  pub is : s ≡ after_blocks file_start blocks
