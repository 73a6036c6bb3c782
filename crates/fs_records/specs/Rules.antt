-- The rules of reading, in their order. Source: the FileStorage format notes.
use Rattle.std.specs.Prelude.{◌≡◌, ℕ, ◌+◌, ◌-◌, ◌^◌, Bool, false, ◌||◌, not, ◌==◌, nat_lt, nat_le, if◌then◌else◌, List, ◌++◌, length, take, drop, Result, Ok, Err}
use Rattle.fs_records.specs.declared.header.Header.{Header}
use Rattle.fs_records.specs.declared.header.DataHeader.{DataHeader}
use Rattle.fs_records.specs.declared.field.Field.{Field}
use Rattle.fs_records.specs.declared.field.Field.TheVariants.{Status, Length, Closing, Tid, Size, Serial, Position, Version, Back}
use Rattle.fs_records.specs.declared.verdict.Verdict.{Verdict}
use Rattle.fs_records.specs.declared.verdict.Verdict.TheVariants.{Ends, Tail, Fault, Begun}
use Rattle.fs_records.specs.Numbers.{number_in}
use Rattle.fs_records.specs.Headers.{header_of, data_header_of}
use Rattle.fs_records.specs.Blocks.{Payload, Full, From, Written, Known, AreWritten, records_text}

-- ---- a transaction, but for its data records: `rest` is what stands from its place on

-- how many bytes the three texts have by a header
abbrev pub texts_length : Header → ℕ
texts_length h = h.user + h.description + h.extension

-- Nothing; too few bytes for a header, or status 99 or 0; a status that is neither 32 nor 112; a length past the end; a length below header and texts; another closing length; a tid that isn't above, or is 2^64-1.
unfoldable pub verdict : ℕ → List ℕ → Verdict
verdict newest rest =
    if length rest == 0 then Ends
    else if nat_lt (length rest) 23 then Tail
    else if (header_of rest).status == 99 then Tail
    else if (header_of rest).status == 0 then Tail
    else if not ((header_of rest).status == 32 || (header_of rest).status == 112) then Fault Status
    else if nat_lt (length rest) ((header_of rest).length + 8) then Tail
    else if nat_lt (header_of rest).length (23 + texts_length (header_of rest)) then Fault Length
    else if not (number_in 8 (drop (header_of rest).length rest) == (header_of rest).length) then Fault Closing
    else if nat_le (header_of rest).tid newest then Fault Tid
    else if (header_of rest).tid == 2 ^ 64 - 1 then Fault Tid
    else Begun

-- ---- a data record: `rest` stands at its place, and so many bytes of it (`room`) are of the transaction with this tid at this place

-- how many bytes stand behind a data record's header
abbrev pub payload_size : DataHeader → ℕ
payload_size h = if h.length == 0 then 8 else h.length

-- a back pointer other than 0 that leads to no record of the object
abbrev pub is_astray : (ℕ → ℕ → Bool) → DataHeader → List ℕ → Bool
is_astray knows h rest = if h.length == 0 then if number_in 8 (drop 42 rest) == 0 then false else not (knows h.oid (number_in 8 (drop 42 rest))) else false

-- its object and its size, or the first rule that fails; `knows` says whether a record of an object was read at a place
unfoldable pub record_at : (ℕ → ℕ → Bool) → ℕ → ℕ → ℕ → List ℕ → Result (ℕ × ℕ) Field
record_at knows place tid room rest =
    if nat_lt room 42 then Err Size
    else if not ((data_header_of rest).tid == tid) then Err Serial
    else if not ((data_header_of rest).transaction == place) then Err Position
    else if not ((data_header_of rest).version == 0) then Err Version
    else if nat_lt (room - 42) (payload_size (data_header_of rest)) then Err Size
    else if is_astray knows (data_header_of rest) rest then Err Back
    else Ok ((data_header_of rest).oid, 42 + payload_size (data_header_of rest))

-- the record that stands there
abbrev pub payload_in : DataHeader → List ℕ → Payload
payload_in h rest = if h.length == 0 then From (number_in 8 (drop 42 rest)) else Full (take h.length (drop 42 rest))

abbrev pub record_in : List ℕ → Written
record_in rest = record { oid = (data_header_of rest).oid; previous = (data_header_of rest).previous; payload = payload_in (data_header_of rest) rest }

-- these records stand in the bytes between two places
pub record AreRecordsBetween (bytes : List ℕ) (known : List Known) (place tid from to : ℕ) (records : List Written) : Type 0 where
  pub written : AreWritten known place tid from records
  pub parts : drop from bytes ≡ records_text place tid records ++ drop to bytes
  pub next : to ≡ from + length (records_text place tid records)
