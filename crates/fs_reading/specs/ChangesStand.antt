-- The changes of transactions that were read stand in the bytes.
use Rattle.std.proofs.Common.{◌≡◌, ℕ, ◌+◌, ◌^◌, ◌<◌, ◌≤◌, cond, eqb, List, [], ◌∷◌, ◌++◌, length, map, drop, refl, sym, ap, subst, ◌∙◌, append_assoc, arith}
use Rattle.std.specs.Prelude.{nat_eq}
use Rattle.std.specs.List.{AllByRecursion}
use Rattle.std.proofs.lemmas.List.{length-append, drop-drop, drop_at}
use Rattle.std.proofs.lemmas.Bool.{ne_eqb}
use Rattle.indexmap.specs.IndexMap.{insert_entry}
use Rattle.zb_model.specs.declared.data.Content.{Content}
use Rattle.zb_model.specs.declared.data.Change.{Change}
use Rattle.zb_model.specs.declared.data.Transaction.{Transaction}
use Rattle.fs_records.specs.declared.header.DataHeader.{DataHeader}
use Rattle.fs_index.specs.declared.place.Place.{Place}
use Rattle.fs_records.specs.NumberLaws.{length-number}
use Rattle.fs_records.specs.Blocks.{Payload, Full, From, Written, Known, payload_text, payload_length, record_text, records_text, with_record, content_of, changes_of, as_change, IsPayload, AreWritten}
use Rattle.fs_records.specs.Rules.{texts_length, payload_size}
use Rattle.fs_records.specs.RecordLaws.{length-record_text}
use Rattle.fs_reading.specs.Standing.{head_at, data_head_at, RecordStands, TransactionStands}
use Rattle.fs_reading.specs.Merged.{read_of}
use Rattle.fs_reading.specs.Contents.{record_head}
use Rattle.fs_reading.specs.RecordsStand.{NewStands}

-- data records stand one behind another between two places
abbrev pub RecordsBetween : List ℕ → ℕ → ℕ → List Known → Type 0
RecordsBetween bytes from to [] = from ≡ to
RecordsBetween bytes from to (k ∷ ks) = (k.place ≡ from) × RecordStands bytes k × RecordsBetween bytes (from + 42 + payload_size (data_head_at bytes from)) to ks

-- one entry an object: at the place of its first record, with the content of its last
abbrev pub entries_of : List (ℕ × Content) → List Known → List (ℕ × Content)
entries_of done [] = done
entries_of done (k ∷ ks) = entries_of (insert_entry nat_eq done k.oid k.content) ks

-- where the data records of the transaction at a place begin, and where they end
abbrev pub records_begin : List ℕ → ℕ → ℕ
records_begin bytes at = at + 23 + texts_length (head_at bytes at)

abbrev pub records_end : List ℕ → ℕ → ℕ
records_end bytes at = at + (head_at bytes at).length

-- these are the changes by the data records of the transaction at a place
pub record ChangesStand (bytes : List ℕ) (at : ℕ) (changes : List Change) : Type 0 where
  pub records : List Known
  pub between : RecordsBetween bytes (records_begin bytes at) (records_end bytes at) records
  pub are : changes ≡ map as_change (entries_of [] records)
  pub within : records_end bytes at ≤ length bytes

-- some transaction stands at a place, with its changes
abbrev pub HasTransaction : List ℕ → Place → Type 0
HasTransaction bytes p = (t : Transaction) × TransactionStands bytes p t × ChangesStand bytes p.at t.changes

-- this is said of each transaction that stands at a place
abbrev pub OfTransaction : List ℕ → Place → (Transaction → Type 0) → Type 0
OfTransaction bytes p says = (t : Transaction) → TransactionStands bytes p t → ChangesStand bytes p.at t.changes → says t

-- each transaction of the list has the changes by the data records at its place
abbrev pub AllChangesStand : List ℕ → List Place → List Transaction → Type 0
AllChangesStand bytes [] [] = Unit {0}
AllChangesStand bytes [] (t ∷ ts) = ⊥
AllChangesStand bytes (p ∷ ps) [] = ⊥
AllChangesStand bytes (p ∷ ps) (t ∷ ts) = ChangesStand bytes p.at t.changes × AllChangesStand bytes ps ts

pub AllChangesStand-push : (bytes : List ℕ) (ps : List Place) (ts : List Transaction) (p : Place) (t : Transaction) → AllChangesStand bytes ps ts → ChangesStand bytes p.at t.changes → AllChangesStand bytes (ps ++ p ∷ []) (ts ++ t ∷ [])
AllChangesStand-push bytes [] [] p t all one = (one, tt)
AllChangesStand-push bytes [] (u ∷ us) p t all one = absurd all
AllChangesStand-push bytes (q ∷ qs) [] p t all one = absurd all
AllChangesStand-push bytes (q ∷ qs) (u ∷ us) p t all one = (all.0, AllChangesStand-push bytes qs us p t all.1 one)

-- ---- of a transaction as it is written

pub entries_read : (done : List (ℕ × Content)) (known : List Known) (place tid q : ℕ) (rs : List Written) → changes_of done known place tid q rs ≡ entries_of done (read_of known place tid q rs)
entries_read done known place tid q [] = refl
entries_read done known place tid q (r ∷ rs) = entries_read (insert_entry nat_eq done r.oid (content_of known r.oid r.payload)) (with_record known tid q r) place tid (q + length (record_text place tid r)) rs

size_of_payload : (known : List Known) (oid : ℕ) (p : Payload) → IsPayload known oid p → cond (eqb (payload_length p) 0) 8 (payload_length p) ≡ length (payload_text p)
size_of_payload known oid (Full bytes) is = ap (λ b. cond b 8 (length bytes)) (ne_eqb (length bytes) 0 (omega (arith, is.0)))
size_of_payload known oid (From at) is = sym (length-number 8 at)

pub records_between : (bytes : List ℕ) (place tid end : ℕ) → tid < 2 ^ 64 → place < 2 ^ 64
    → (known : List Known) (q to : ℕ) (rs : List Written) (more : List ℕ) → AreWritten known place tid q rs → drop q bytes ≡ records_text place tid rs ++ more → to ≡ q + length (records_text place tid rs)
    → AllByRecursion (NewStands bytes place tid end) (read_of known place tid q rs) → RecordsBetween bytes q to (read_of known place tid q rs)
records_between bytes place tid end tid_fits place_fits known q to [] more written stands to_is all = omega (arith, to_is)
records_between bytes place tid end tid_fits place_fits known q to (r ∷ rs) more written stands to_is all =
    let text : List ℕ = record_text place tid r in
    let others : List ℕ = records_text place tid rs in
    let here : drop q bytes ≡ text ++ (others ++ more) = stands ∙ append_assoc text others more in
    let head = record_head bytes known place tid q r (others ++ more) tid_fits place_fits written.0 here in
    let size : payload_size (data_head_at bytes q) ≡ length (payload_text r.payload) = ap (λ (h : DataHeader). payload_size h) head.0 ∙ size_of_payload known r.oid r.payload written.0.payload in
    let next_is : q + length text ≡ q + 42 + payload_size (data_head_at bytes q) = omega (arith, size, length-record_text place tid r) in
    let behind : drop (q + length text) bytes ≡ others ++ more = sym (drop-drop (length text) q bytes) ∙ ap (drop (length text)) here ∙ drop_at text (others ++ more) (length text) refl in
    let rest = records_between bytes place tid end tid_fits place_fits (with_record known tid q r) (q + length text) to rs more written.1 behind (omega (arith, to_is, length-append text others)) all.1 in
    (refl, all.0.stands, subst (λ (n : ℕ). RecordsBetween bytes n to (read_of (with_record known tid q r) place tid (q + length text) rs)) next_is rest)
