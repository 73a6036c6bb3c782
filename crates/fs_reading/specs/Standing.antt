-- What stands at a place of a file. Source: the FileStorage format notes.
use Rattle.std.specs.Prelude.{◌≡◌, ◌≢◌, ℕ, ◌+◌, ◌<◌, ◌≤◌, ◌==◌, if◌then◌else◌, Bool, false, List, [], ◌∷◌, length, take, drop, Option, Some, None}
use Rattle.zb_model.specs.declared.data.Content.{Content}
use Rattle.zb_model.specs.declared.data.Content.TheVariants.{Held, Absent}
use Rattle.zb_model.specs.declared.data.Transaction.{Transaction}
use Rattle.zb_model.specs.declared.lists.LogLine.{LogLine}
use Rattle.zb_model.specs.declared.lists.Revision.{Revision}
use Rattle.zb_model.specs.Lists.{size_of}
use Rattle.fs_records.specs.declared.header.Header.{Header}
use Rattle.fs_records.specs.declared.header.DataHeader.{DataHeader}
use Rattle.fs_index.specs.declared.place.Place.{Place}
use Rattle.fs_records.specs.Numbers.{number_in}
use Rattle.fs_records.specs.Headers.{header_of, data_header_of}
use Rattle.fs_records.specs.Blocks.{Known}
use Rattle.fs_records.specs.Rules.{texts_length, payload_size}

-- ---- a transaction

-- the header of the transaction at a place
abbrev pub head_at : List ℕ → ℕ → Header
head_at bytes at = header_of (drop at bytes)

-- its three texts, one behind another behind the header
abbrev pub user_at : List ℕ → ℕ → List ℕ
user_at bytes at = take (head_at bytes at).user (drop (at + 23) bytes)

abbrev pub description_at : List ℕ → ℕ → List ℕ
description_at bytes at = take (head_at bytes at).description (drop (at + 23 + (head_at bytes at).user) bytes)

abbrev pub extension_at : List ℕ → ℕ → List ℕ
extension_at bytes at = take (head_at bytes at).extension (drop (at + 23 + (head_at bytes at).user + (head_at bytes at).description) bytes)

-- the header of a transaction and its texts stand there whole
abbrev pub HasTexts : List ℕ → ℕ → Type 0
HasTexts bytes at = at + 23 + texts_length (head_at bytes at) ≤ length bytes

-- a transaction of a list stands at a place, which names its tid
pub record TransactionStands (bytes : List ℕ) (p : Place) (t : Transaction) : Type 0 where
  pub serial : p.serial ≡ t.tid
  pub tid : (head_at bytes p.at).tid ≡ t.tid
  pub packed : ((head_at bytes p.at).status == 112) ≡ t.packed
  pub user : user_at bytes p.at ≡ t.user
  pub description : description_at bytes p.at ≡ t.description
  pub extension : extension_at bytes p.at ≡ t.extension
  pub texts : HasTexts bytes p.at

-- the transactions of a list stand at these places, each at its own
abbrev pub TransactionsStand : List ℕ → List Place → List Transaction → Type 0
TransactionsStand bytes [] [] = Unit {0}
TransactionsStand bytes [] (t ∷ ts) = ⊥
TransactionsStand bytes (p ∷ ps) [] = ⊥
TransactionsStand bytes (p ∷ ps) (t ∷ ts) = TransactionStands bytes p t × TransactionsStand bytes ps ts

-- what the undo list says of the transaction at a place, if no pack has gone over it
abbrev pub log_line_at : List ℕ → Place → Option LogLine
log_line_at bytes p =
    if (head_at bytes p.at).status == 112 then None
    else Some (record { tid = (head_at bytes p.at).tid; user = user_at bytes p.at; description = description_at bytes p.at })

-- ---- a data record

-- the header of the data record at a place
abbrev pub data_head_at : List ℕ → ℕ → DataHeader
data_head_at bytes at = data_header_of (drop at bytes)

-- its back pointer, where it has one
abbrev pub back_at : List ℕ → ℕ → ℕ
back_at bytes at = number_in 8 (drop (at + 42) bytes)

-- its header and what stands behind it stand there whole
abbrev pub HasPayload : List ℕ → ℕ → Type 0
HasPayload bytes at = at + 42 + payload_size (data_head_at bytes at) ≤ length bytes

-- The content of the data record at a place: its bytes; that there is none, where its back pointer is 0; or the content of the earlier record that its back pointer names.
pub data IsContent (bytes : List ℕ) (content : Content) : ℕ → Type 0 where
  held : (at : ℕ) → HasPayload bytes at → (data_head_at bytes at).length ≢ 0 → content ≡ Held (take (data_head_at bytes at).length (drop (at + 42) bytes)) → IsContent bytes content at
  absent : (at : ℕ) → HasPayload bytes at → (data_head_at bytes at).length ≡ 0 → back_at bytes at ≡ 0 → content ≡ Absent → IsContent bytes content at
  earlier : (at : ℕ) → HasPayload bytes at → (data_head_at bytes at).length ≡ 0 → back_at bytes at ≢ 0 → back_at bytes at < at → IsContent bytes content (back_at bytes at) → IsContent bytes content at

-- a data record that was read stands at its place: its object, its tid, its content, and where its header says, its transaction
pub record RecordStands (bytes : List ℕ) (k : Known) : Type 0 where
  pub oid : (data_head_at bytes k.place).oid ≡ k.oid
  pub tid : (data_head_at bytes k.place).tid ≡ k.tid
  pub content : IsContent bytes k.content k.place
  pub texts : HasTexts bytes (data_head_at bytes k.place).transaction
  pub transaction : (head_at bytes (data_head_at bytes k.place).transaction).tid ≡ k.tid

-- ---- the history of an object

-- whether the record behind this one is of the same transaction
abbrev pub is_replaced : Known → List Known → Bool
is_replaced k [] = false
is_replaced k (next ∷ rest) = k.tid == next.tid

-- of records of one object, the last of each transaction
abbrev pub lasts : List Known → List Known
lasts [] = []
lasts (k ∷ ks) = if is_replaced k ks then lasts ks else k ∷ lasts ks

-- what a history says of a data record
abbrev pub revision_line_of : List ℕ → Known → Revision
revision_line_of bytes k = record {
  tid = k.tid;
  size = size_of k.content;
  user = user_at bytes (data_head_at bytes k.place).transaction;
  description = description_at bytes (data_head_at bytes k.place).transaction;
}
