-- The two headers as bytes. Source: the FileStorage format notes.
use Rattle.std.specs.Prelude.{ℕ, List, ◌∷◌, ◌++◌, drop, slice_index}
use Rattle.fs_records.specs.declared.header.Header.{Header}
use Rattle.fs_records.specs.declared.header.DataHeader.{DataHeader}
use Rattle.fs_records.specs.Numbers.{number, number_in}

-- the 23 bytes of a transaction's header: tid, length, status, and the lengths of user, description and extension
unfoldable pub header_text : Header → List ℕ
header_text h = number 8 h.tid ++ (number 8 h.length ++ (h.status ∷ (number 2 h.user ++ (number 2 h.description ++ number 2 h.extension))))

-- the header that the first 23 bytes are
unfoldable pub header_of : List ℕ → Header
header_of bytes = record {
  tid = number_in 8 bytes;
  length = number_in 8 (drop 8 bytes);
  status = slice_index bytes 16;
  user = number_in 2 (drop 17 bytes);
  description = number_in 2 (drop 19 bytes);
  extension = number_in 2 (drop 21 bytes);
}

-- the 42 bytes of a data record's header: oid, tid, the two places, the version and the length
unfoldable pub data_header_text : DataHeader → List ℕ
data_header_text h = number 8 h.oid ++ (number 8 h.tid ++ (number 8 h.previous ++ (number 8 h.transaction ++ (number 2 h.version ++ number 8 h.length))))

-- the header that the first 42 bytes are
unfoldable pub data_header_of : List ℕ → DataHeader
data_header_of bytes = record {
  oid = number_in 8 bytes;
  tid = number_in 8 (drop 8 bytes);
  previous = number_in 8 (drop 16 bytes);
  transaction = number_in 8 (drop 24 bytes);
  version = number_in 2 (drop 32 bytes);
  length = number_in 8 (drop 34 bytes);
}
