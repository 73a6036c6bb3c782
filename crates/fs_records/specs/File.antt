-- What a file stands for, and where it is damaged. Source: the FileStorage format notes.
use Rattle.std.specs.Prelude.{◌≡◌, ◌≢◌, ℕ, ◌+◌, ◌-◌, ◌<◌, List, [], take, drop, Option, Some, None, Err}
use Rattle.zb_model.specs.declared.data.Transaction.{Transaction}
use Rattle.fs_records.specs.declared.field.Field.{Field}
use Rattle.fs_records.specs.declared.verdict.Verdict.TheVariants.{Ends, Tail, Fault, Begun}
use Rattle.fs_records.specs.Headers.{header_of}
use Rattle.fs_records.specs.Blocks.{Written, Known, is_known, with_records, Reached, magic, Begins}
use Rattle.fs_records.specs.Rules.{verdict, texts_length, record_at, AreRecordsBetween}

-- what stands behind the blocks is a transaction that was never finished
abbrev pub IsTail : ℕ → List ℕ → Type 0
IsTail newest rest = verdict newest rest ≡ Tail

-- Behind the blocks stands nothing, or a tail, which is cut off there.
abbrev pub EndsAt : List ℕ → Reached → Option ℕ → Type 0
EndsAt bytes s None = verdict s.newest (drop s.end bytes) ≡ Ends
EndsAt bytes s (Some at) = IsTail s.newest (drop s.end bytes) × (at ≡ s.end)

-- the bytes are `FS30`, blocks, and then nothing or a tail; s is what is read of them
pub record IsReadAs (bytes : List ℕ) (s : Reached) (cut : Option ℕ) : Type 0 where
  pub begins : Begins bytes s
  pub ends : EndsAt bytes s cut

-- the bytes stand for a list of transactions, with the place where a tail is cut off; no bytes at all stand for the empty list
pub data StandsFor (bytes : List ℕ) (list : List Transaction) (cut : Option ℕ) : Type 0 where
  no_bytes : bytes ≡ [] → list ≡ [] → cut ≡ None → StandsFor bytes list cut
  a_file : (s : Reached) → IsReadAs bytes s cut → list ≡ s.list → StandsFor bytes list cut

-- there are bytes, and the first four aren't `FS30`, or there are fewer
abbrev pub IsNoFile : List ℕ → Type 0
IsNoFile bytes = (bytes ≢ []) × (take 4 bytes ≢ magic)

-- ---- damage

-- data records stand up to `at`, and the first rule that fails there is that of the field
pub record RecordFault (bytes : List ℕ) (known : List Known) (place tid from end at : ℕ) (field : Field) : Type 0 where
  pub records : List Written
  pub stand : AreRecordsBetween bytes known place tid from at records
  pub before : at < end
  pub fault : record_at (is_known (with_records known place tid from records)) place tid (end - at) (drop at bytes) ≡ Err field

-- where the data records of the transaction at this place begin, and where they end, by its header
abbrev pub data_from : List ℕ → ℕ → ℕ
data_from bytes p = p + (23 + texts_length (header_of (drop p bytes)))

abbrev pub data_to : List ℕ → ℕ → ℕ
data_to bytes p = p + (header_of (drop p bytes)).length

-- behind the blocks a rule fails: of the transaction there, or of one of its data records
pub data IsFault (bytes : List ℕ) (s : Reached) (at : ℕ) (field : Field) : Type 0 where
  head : verdict s.newest (drop s.end bytes) ≡ Fault field → at ≡ s.end → IsFault bytes s at field
  data_record : verdict s.newest (drop s.end bytes) ≡ Begun → RecordFault bytes s.known s.end (header_of (drop s.end bytes)).tid (data_from bytes s.end) (data_to bytes s.end) at field → IsFault bytes s at field

-- the bytes begin as a file with blocks, and behind them the rule of the field fails at a place
pub record IsDamaged (bytes : List ℕ) (at : ℕ) (field : Field) : Type 0 where
  pub reached : Reached
  pub begins : Begins bytes reached
  pub fault : IsFault bytes reached at field
