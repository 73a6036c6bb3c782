-- What was reached in a file is a database.
use Rattle.std.proofs.Common.{◌≡◌, ℕ, ◌+◌, Bool, true, false, cond, eqb, List, [], ◌∷◌, ◌++◌, length, map, Option, refl, sym, ap, subst, ◌∙◌, arith}
use Rattle.std.specs.Prelude.{nat_eq, ◌==◌}
use Rattle.std.specs.List.{IsDistinct, AllByRecursion}
use Rattle.std.specs.Map.{keys_of}
use Rattle.std.proofs.lemmas.Bool.{ne_eqb, eqb-false}
use Rattle.std.proofs.lemmas.List.{map-append}
use Rattle.std.proofs.lemmas.List.Elements.{All-from_recursion}
use Rattle.indexmap.specs.IndexMap.{insert_entry}
use Rattle.zb_base.specs.Lists.{each_more}
use Rattle.zb_model.specs.declared.data.Content.{Content}
use Rattle.zb_model.specs.declared.data.Content.TheVariants.{Absent}
use Rattle.zb_model.specs.declared.data.Change.{Change}
use Rattle.zb_model.specs.declared.data.Transaction.{Transaction}
use Rattle.zb_model.specs.Database.{IsDatabase, IsRecord, newest_tid}
use Rattle.zb_model.specs.RecordLaws.{ChangesToRecord, HasRecords}
use Rattle.zb_model.specs.VotingLaws.{database-push, newest-push}
use Rattle.fs_index.specs.declared.place.Place.{Place}
use Rattle.fs_records.specs.Blocks.{Known, Written, Payload, Full, From, record_text, content_at, content_of, is_at, known_at, with_record, with_records, IsPayload, AreWritten, changes_of, as_change, Reached, file_start, transaction_of, after_block, records_from, Block, IsBlock, AreBlocks, after_blocks, Begins}
use Rattle.fs_records.specs.File.{StandsFor, no_bytes, a_file}

-- ---- no object twice in a transaction

all_insert : (P : ℕ → Type 0) (es : List (ℕ × Content)) (k : ℕ) (v : Content) → AllByRecursion P (keys_of es) → P k → AllByRecursion P (keys_of (insert_entry nat_eq es k v))
all_insert P [] k v h p = (p, tt)
all_insert P (e ∷ es) k v h p = by_cases (eqb k e.0) (all_insert P es k v h.1 p)
  where
    by_cases : (b : Bool) → AllByRecursion P (keys_of (insert_entry nat_eq es k v)) → AllByRecursion P (keys_of (cond b ((e.0, v) ∷ es) (e ∷ insert_entry nat_eq es k v)))
    by_cases true rest = h
    by_cases false rest = (h.0, rest)

distinct_insert : (es : List (ℕ × Content)) (k : ℕ) (v : Content) → IsDistinct nat_eq (keys_of es) → IsDistinct nat_eq (keys_of (insert_entry nat_eq es k v))
unfolding IsDistinct
distinct_insert [] k v h = (tt, tt)
distinct_insert (e ∷ es) k v h = by_cases (eqb k e.0) refl (distinct_insert es k v h.1)
  where
    by_cases : (b : Bool) → eqb k e.0 ≡ b → IsDistinct nat_eq (keys_of (insert_entry nat_eq es k v)) → IsDistinct nat_eq (keys_of (cond b ((e.0, v) ∷ es) (e ∷ insert_entry nat_eq es k v)))
    by_cases true same rest = h
    by_cases false apart rest = (all_insert (λ y. nat_eq e.0 y ≡ false) es k v h.0 (ne_eqb e.0 k (λ same. eqb-false _ _ apart (sym same))), rest)

pub distinct_changes : (done : List (ℕ × Content)) (known : List Known) (place tid q : ℕ) (rs : List Written) → IsDistinct nat_eq (keys_of done) → IsDistinct nat_eq (keys_of (changes_of done known place tid q rs))
distinct_changes done known place tid q [] h = h
distinct_changes done known place tid q (r ∷ rs) h =
    distinct_changes (insert_entry nat_eq done r.oid (content_of known r.oid r.payload)) (with_record known tid q r) place tid (q + length (record_text place tid r)) rs (distinct_insert done r.oid (content_of known r.oid r.payload) h)

-- the objects of changes are the keys of their entries
pub oids_are_keys : (es : List (ℕ × Content)) → map (λ (c : Change). c.oid) (map as_change es) ≡ keys_of es
oids_are_keys [] = refl
oids_are_keys (e ∷ es) = ap (λ (ks : List ℕ). e.0 ∷ ks) (oids_are_keys es)

-- no transaction changes an object twice
distinct_oids : (s : Reached) (b : Block) → IsDistinct nat_eq (map (λ (c : Change). c.oid) (transaction_of s b).changes)
unfolding IsDistinct
distinct_oids s b =
    let changes = changes_of [] s.known s.end b.tid (records_from s.end b) b.records in
    subst (λ (ks : List ℕ). IsDistinct nat_eq ks) (sym (oids_are_keys changes)) (distinct_changes [] s.known s.end b.tid (records_from s.end b) b.records tt)

-- ---- no record is empty

-- what is known of a record is that its object has a record by it or nothing
abbrev pub KnowsRecord : Known → Type 0
KnowsRecord k = IsRecord k.content

abbrev EntersRecord : ℕ × Content → Type 0
EntersRecord e = IsRecord e.1

there_is_record : (known : List Known) (oid place : ℕ) → AllByRecursion KnowsRecord known → IsRecord (content_at known oid place)
there_is_record [] oid place all = tt
there_is_record (k ∷ ks) oid place all = by_cases (is_at oid place k) (there_is_record ks oid place all.1)
  where
    by_cases : (b : Bool) → IsRecord (content_at ks oid place) → IsRecord (cond b k.content (content_at ks oid place))
    by_cases true rest = all.0
    by_cases false rest = rest

payload_is_record : (known : List Known) (oid : ℕ) (payload : Payload) → AllByRecursion KnowsRecord known → IsPayload known oid payload → IsRecord (content_of known oid payload)
payload_is_record known oid (Full bytes) all is = is.0
payload_is_record known oid (From place) all is = by_cases (place == 0)
  where
    by_cases : (b : Bool) → IsRecord (cond b Absent (content_at known oid place))
    by_cases true = tt
    by_cases false = there_is_record known oid place all

entered_records : (es : List (ℕ × Content)) (k : ℕ) (v : Content) → AllByRecursion EntersRecord es → IsRecord v → AllByRecursion EntersRecord (insert_entry nat_eq es k v)
entered_records [] k v all is = (is, tt)
entered_records (e ∷ es) k v all is = by_cases (eqb k e.0) (entered_records es k v all.1 is)
  where
    by_cases : (b : Bool) → AllByRecursion EntersRecord (insert_entry nat_eq es k v) → AllByRecursion EntersRecord (cond b ((e.0, v) ∷ es) (e ∷ insert_entry nat_eq es k v))
    by_cases true rest = (is, all.1)
    by_cases false rest = (all.0, rest)

more_known : (known : List Known) (place tid q : ℕ) (rs : List Written) → AllByRecursion KnowsRecord known → AreWritten known place tid q rs → AllByRecursion KnowsRecord (with_records known place tid q rs)
more_known known place tid q [] all are = all
more_known known place tid q (r ∷ rs) all are =
    more_known (with_record known tid q r) place tid (q + length (record_text place tid r)) rs (each_more KnowsRecord known (known_at known tid q r) all (payload_is_record known r.oid r.payload all are.0.payload)) are.1

more_changes : (done : List (ℕ × Content)) (known : List Known) (place tid q : ℕ) (rs : List Written) → AllByRecursion EntersRecord done → AllByRecursion KnowsRecord known → AreWritten known place tid q rs → AllByRecursion EntersRecord (changes_of done known place tid q rs)
more_changes done known place tid q [] so_far all are = so_far
more_changes done known place tid q (r ∷ rs) so_far all are =
    let is = payload_is_record known r.oid r.payload all are.0.payload in
    more_changes (insert_entry nat_eq done r.oid (content_of known r.oid r.payload)) (with_record known tid q r) place tid (q + length (record_text place tid r)) rs
    (entered_records done r.oid (content_of known r.oid r.payload) so_far is) (each_more KnowsRecord known (known_at known tid q r) all is) are.1

as_changes : (es : List (ℕ × Content)) → AllByRecursion EntersRecord es → AllByRecursion ChangesToRecord (map as_change es)
as_changes [] all = tt
as_changes (e ∷ es) all = (all.0, as_changes es all.1)

-- no transaction has an empty record
has_records : (s : Reached) (b : Block) → AllByRecursion KnowsRecord s.known → IsBlock s b → HasRecords (transaction_of s b)
has_records s b all block =
    let changes = changes_of [] s.known s.end b.tid (records_from s.end b) b.records in
    All-from_recursion ChangesToRecord (map as_change changes) (as_changes changes (more_changes [] s.known s.end b.tid (records_from s.end b) b.records tt all block.records))

-- ---- what was reached

-- the list is a database, its last tid is the one that was reached, the places of the transactions have its tids, and no record that was read is empty
pub record IsReading (s : Reached) : Type 0 where
  pub is : IsDatabase s.list
  pub newest : newest_tid s.list ≡ s.newest
  pub starts : map (λ p. p.serial) s.starts ≡ map (λ t. t.tid) s.list
  pub filled : AllByRecursion KnowsRecord s.known

reading_start : IsReading file_start
reading_start = record {
  is = record { rising = λ k l. absurd (omega arith); bounded = omega arith; distinct = λ k d l. absurd (omega arith); filled = λ k d l. absurd (omega arith) };
  newest = refl;
  starts = refl;
  filled = tt;
}

pub reading_more : (s : Reached) (b : Block) → IsReading s → IsBlock s b → IsReading (after_block s b)
unfolding after_block
reading_more s b r block = record {
  is = database-push s.list (transaction_of s b) r.is (omega (arith, r.newest, block.above)) block.below (distinct_oids s b) (has_records s b r.filled block);
  newest = newest-push s.list (transaction_of s b);
  starts = map-append (λ (p : Place). p.serial) s.starts (record { serial = b.tid; at = s.end } ∷ []) ∙ ap (λ (ns : List ℕ). ns ++ b.tid ∷ []) r.starts ∙ sym (map-append (λ (x : Transaction). x.tid) s.list (transaction_of s b ∷ []));
  filled = more_known s.known s.end b.tid (records_from s.end b) b.records r.filled block.records;
}

readings : (s : Reached) (bs : List Block) → IsReading s → AreBlocks s bs → IsReading (after_blocks s bs)
readings s [] r h = r
readings s (b ∷ bs) r h = readings (after_block s b) bs (reading_more s b r h.0) h.1

-- what bytes begin as
pub reading_of : (bytes : List ℕ) (s : Reached) → Begins bytes s → IsReading s
reading_of bytes s begins = subst (λ (r : Reached). IsReading r) (sym begins.is) (readings file_start begins.blocks reading_start begins.are)

-- and what they stand for
pub database_of : (bytes : List ℕ) (list : List Transaction) (cut : Option ℕ) → StandsFor bytes list cut → IsDatabase list
database_of bytes list cut (no_bytes none l c) = subst (λ (ts : List Transaction). IsDatabase ts) (sym l) reading_start.is
database_of bytes list cut (a_file s stands l) = subst (λ (ts : List Transaction). IsDatabase ts) (sym l) (reading_of bytes s stands.begins).is
