-- The objects of a transaction's data records are counted one record after another.
use Rattle.std.proofs.Common.{◌≡◌, ℕ, suc, ◌+◌, ◌-◌, ◌^◌, ◌<◌, ◌≤◌, Bool, true, false, cond, eqb, max, List, [], ◌∷◌, ◌++◌, All, length, drop, Option, Some, None, Ok, refl, sym, ap, subst, ◌∙◌, eq-eqb, arith}
use Rattle.std.specs.Prelude.{nat_eq, ◌||◌}
use Rattle.std.specs.List.{last_or}
use Rattle.std.specs.Map.{keys_of}
use Rattle.std.specs.Option.{option_map_or}
use Rattle.std.proofs.lemmas.Bool.{eqb-true, ne_eqb}
use Rattle.std.proofs.lemmas.List.{length-append, length-drop, length-map}
use Rattle.indexmap.specs.IndexMap.{insert_entry}
use Rattle.zb_base.specs.Bytes.{AreBytes}
use Rattle.zb_base.specs.Lists.{last_or_append}
use Rattle.zb_model.specs.declared.data.Content.{Content}
use Rattle.zb_model.specs.declared.data.Transaction.{Transaction}
use Rattle.zb_model.specs.Queries.{greatest_of, oids_of}
use Rattle.fs_records.specs.declared.header.Header.{Header}
use Rattle.fs_index.specs.declared.place.Place.{Place}
use Rattle.fs_records.specs.declared.verdict.Verdict.TheVariants.{Begun}
use Rattle.fs_records.specs.Headers.{header_of}
use Rattle.fs_records.specs.Blocks.{Known, known_at, Written, with_record, with_records, changes_of, content_of, as_change, after_block, transaction_of, records_from, records_text, record_text, is_known}
use Rattle.fs_records.specs.BlockLaws.{block_in, block_takes, begins_more}
use Rattle.fs_records.specs.Databases.{oids_are_keys}
use Rattle.fs_records.specs.Rules.{record_at, record_in, texts_length, verdict}
use Rattle.fs_records.specs.RecordLaws.{record_takes}
use Rattle.fs_records.specs.File.{data_from, data_to}
use Rattle.fs_index.specs.Places.{PlacesKept, Kept, places_in, knows, Added}
use Rattle.fs_records.specs.Indexed.{ArePlacesOf}
use Rattle.fs_records.specs.ScanLaws.{index_more, knows_is, record_at-same, stand_more}
use Rattle.fs_recovery.specs.declared.counted.Counted.{Counted}
use Rattle.fs_recovery.specs.Numbers.{NumbersKept, AreNumbersOf}
use Rattle.fs_recovery.specs.Counting.{is_stored, has_entry, RecordsCounted, Numbered}

-- ---- one entry more

length_cond : (b : Bool) (n : ℕ) → suc (cond b n (n + 1)) ≡ cond b (suc n) (suc n + 1)
length_cond true n = refl
length_cond false n = omega arith

length_inserted : (es : List (ℕ × Content)) (k : ℕ) (v : Content) → length (insert_entry nat_eq es k v) ≡ cond (has_entry k es) (length es) (length es + 1)
length_inserted [] k v = refl
length_inserted (e ∷ es) k v = by_cases (eqb k e.0) (length_inserted es k v)
  where
    by_cases : (b : Bool) → length (insert_entry nat_eq es k v) ≡ cond (has_entry k es) (length es) (length es + 1)
        → length (cond b ((e.0, v) ∷ es) (e ∷ insert_entry nat_eq es k v)) ≡ cond (b || has_entry k es) (suc (length es)) (suc (length es) + 1)
    by_cases true rest = refl
    by_cases false rest = ap suc rest ∙ length_cond (has_entry k es) (length es)

greatest_inserted : (es : List (ℕ × Content)) (k : ℕ) (v : Content) → greatest_of (keys_of (insert_entry nat_eq es k v)) ≡ max (greatest_of (keys_of es)) k
greatest_inserted [] k v = omega arith
greatest_inserted (e ∷ es) k v = by_cases (eqb k e.0) refl (greatest_inserted es k v)
  where
    by_cases : (b : Bool) → eqb k e.0 ≡ b → greatest_of (keys_of (insert_entry nat_eq es k v)) ≡ max (greatest_of (keys_of es)) k
        → greatest_of (keys_of (cond b ((e.0, v) ∷ es) (e ∷ insert_entry nat_eq es k v))) ≡ max (max e.0 (greatest_of (keys_of es))) k
    by_cases true same rest = let k_is : k ≡ e.0 = eqb-true k e.0 same in omega arith
    by_cases false apart rest = omega arith

or_same : (a b : Bool) → (a || b) ≡ (a || (a || b))
or_same true b = refl
or_same false b = refl

or_swap : (a b c : Bool) → (a || (b || c)) ≡ (b || (a || c))
or_swap true true c = refl
or_swap true false c = refl
or_swap false true c = refl
or_swap false false c = refl

has_inserted : (o : ℕ) (es : List (ℕ × Content)) (k : ℕ) (v : Content) → has_entry o (insert_entry nat_eq es k v) ≡ (eqb o k || has_entry o es)
has_inserted o [] k v = refl
has_inserted o (e ∷ es) k v = by_cases (eqb k e.0) refl (has_inserted o es k v)
  where
    by_cases : (b : Bool) → eqb k e.0 ≡ b → has_entry o (insert_entry nat_eq es k v) ≡ (eqb o k || has_entry o es)
        → has_entry o (cond b ((e.0, v) ∷ es) (e ∷ insert_entry nat_eq es k v)) ≡ (eqb o k || (eqb o e.0 || has_entry o es))
    by_cases true same rest = or_same (eqb o e.0) (has_entry o es) ∙ ap (λ (x : ℕ). eqb o x || (eqb o e.0 || has_entry o es)) (sym (eqb-true k e.0 same))
    by_cases false apart rest = ap (λ b. eqb o e.0 || b) rest ∙ or_swap (eqb o e.0) (eqb o k) (has_entry o es)

-- ---- one record more

-- what is known of records and their entries, with one record more at the end
record Pushed (done : List (ℕ × Content)) (known : List Known) (place tid q : ℕ) (rs : List Written) (r : Written) : Type 0 where
  known_is : with_records known place tid q (rs ++ r ∷ []) ≡ with_record (with_records known place tid q rs) tid (q + length (records_text place tid rs)) r
  entries_are : changes_of done known place tid q (rs ++ r ∷ []) ≡ insert_entry nat_eq (changes_of done known place tid q rs) r.oid (content_of (with_records known place tid q rs) r.oid r.payload)

pushed : (done : List (ℕ × Content)) (known : List Known) (place tid q : ℕ) (rs : List Written) (r : Written) → Pushed done known place tid q rs r
pushed done known place tid q [] r = record { known_is = ap (λ (n : ℕ). with_record known tid n r) (omega arith); entries_are = refl }
pushed done known place tid q (x ∷ xs) r =
    let rest = pushed (insert_entry nat_eq done x.oid (content_of known x.oid x.payload)) (with_record known tid q x) place tid (q + length (record_text place tid x)) xs r in
    record {
      known_is = rest.known_is ∙ ap (λ (n : ℕ). with_record (with_records known place tid q (x ∷ xs)) tid n r) (omega (arith, length-append (record_text place tid x) (records_text place tid xs)));
      entries_are = rest.entries_are;
    }

-- the last place of an object is of this transaction once one of it is kept
stored_more : (old new : List (ℕ × PlacesKept)) (oid tid q o : ℕ) → Added old oid (record { serial = tid; at = q }) new → is_stored new tid o ≡ (eqb o oid || is_stored old tid o)
stored_more old new oid tid q o added =
    let place : Place = record { serial = tid; at = q } in
    let of : List Place → Bool = λ ps. option_map_or (λ (p : Place). eqb p.serial tid) (last_or None ps) false in
    let last : of (places_in old o ++ place ∷ []) ≡ true = ap (λ (l : Option Place). option_map_or (λ (p : Place). eqb p.serial tid) l false) (last_or_append None (places_in old o) (place ∷ [])) ∙ eq-eqb tid tid refl in
    let P : Bool → Type 0 = λ b. of (cond b (places_in old o ++ place ∷ []) (places_in old o)) ≡ (b || of (places_in old o)) in
    ap of (added o) ∙ elim (eqb o oid) as P [ true ↦ last | false ↦ refl ]

-- so far no record was read, and all that is kept is of earlier transactions
not_stored : (tid : ℕ) (ps : List Place) → All (λ p. p.serial < tid) ps → option_map_or (λ (p : Place). eqb p.serial tid) (last_or None ps) false ≡ false
not_stored tid ps earlier = last_of None ps refl earlier
  where
    last_of : (o : Option Place) (qs : List Place) → option_map_or (λ (p : Place). eqb p.serial tid) o false ≡ false → All (λ p. p.serial < tid) qs → option_map_or (λ (p : Place). eqb p.serial tid) (last_or o qs) false ≡ false
    last_of o [] first all = first
    last_of o (p ∷ qs) first all =
        let below : p.serial < tid = all 0 p (omega arith) in
        last_of (Some p) qs (ne_eqb p.serial tid (λ e. absurd (omega arith))) (λ k d l. all (suc k) d (omega arith))

pub none_counted : (bytes : List ℕ) (known : List Known) (place tid from : ℕ) (entries : List (ℕ × PlacesKept)) (c : Counted) → c.changes ≡ 0 → c.greatest ≡ 0 → ((oid : ℕ) → All (λ p. p.serial < tid) (places_in entries oid))
    → ArePlacesOf known entries → RecordsCounted bytes known place tid from from entries c
none_counted bytes known place tid from entries c none least earlier index = record {
  records = [];
  stand = record { written = tt; parts = refl; next = omega arith };
  index = index;
  changes = none;
  greatest = least;
  stored = λ oid. not_stored tid (places_in entries oid) (earlier oid);
}

pub one_counted_more : (bytes : List ℕ) (known : List Known) (place tid from q end oid size : ℕ) (old new : List (ℕ × PlacesKept)) (c d : Counted) → AreBytes (drop q bytes) → end ≤ length bytes → q ≤ end
    → Ok (oid, size) ≡ record_at (knows old) place tid (end - q) (drop q bytes)
    → Added old oid (record { serial = tid; at = q }) new
    → d.changes ≡ cond (is_stored old tid oid) c.changes (c.changes + 1) → d.greatest ≡ max c.greatest oid
    → RecordsCounted bytes known place tid from q old c → RecordsCounted bytes known place tid from (q + size) new d
one_counted_more bytes known place tid from q end oid size old new c d fits within order read added changes greatest so_far =
    let rs = so_far.records in
    let r = record_in (drop q bytes) in
    let known_now = with_records known place tid from rs in
    let es = changes_of [] known place tid from rs in
    let v = content_of known_now r.oid r.payload in
    let t = record_takes known_now (knows old) place tid (end - q) (drop q bytes) oid size (knows_is known_now old so_far.index) fits (omega (arith, length-drop q bytes)) (sym read) in
    let read_too : record_at (is_known known_now) place tid (end - q) (drop q bytes) ≡ Ok (oid, size) = sym (record_at-same (knows old) (is_known known_now) place tid (end - q) (drop q bytes) (knows_is known_now old so_far.index)) ∙ sym read in
    let stand = (stand_more bytes known place tid from q end oid size rs fits within order so_far.stand read_too).0 in
    let p = pushed [] known place tid from rs r in
    let added_too : Added old r.oid (record { serial = tid; at = q }) new = subst (λ (o : ℕ). Added old o (record { serial = tid; at = q }) new) t.oid_is added in
    let known_is : with_records known place tid from (rs ++ r ∷ []) ≡ with_record known_now tid q r = p.known_is ∙ ap (λ (n : ℕ). with_record known_now tid n r) (sym so_far.stand.next) in
    record {
      records = rs ++ r ∷ [];
      stand = stand;
      index = subst (λ (ks : List Known). ArePlacesOf ks new) (sym known_is) (index_more known_now old new (known_at known_now tid q r) so_far.index added_too);
      changes = changes ∙ ap (λ b. cond b c.changes (c.changes + 1)) (so_far.stored oid ∙ ap (λ (k : ℕ). has_entry k es) t.oid_is)
          ∙ ap (λ (n : ℕ). cond (has_entry r.oid es) n (n + 1)) so_far.changes ∙ sym (length_inserted es r.oid v) ∙ ap (λ (l : List (ℕ × Content)). length l) (sym p.entries_are);
      greatest = greatest ∙ ap (λ (k : ℕ). max c.greatest k) t.oid_is ∙ ap (λ (n : ℕ). max n r.oid) so_far.greatest
          ∙ sym (greatest_inserted es r.oid v) ∙ ap (λ (l : List (ℕ × Content)). greatest_of (keys_of l)) (sym p.entries_are);
      stored = λ o. stored_more old new oid tid q o added ∙ ap (λ b. eqb o oid || b) (so_far.stored o) ∙ ap (λ (k : ℕ). eqb o k || has_entry o es) t.oid_is
          ∙ sym (has_inserted o es r.oid v) ∙ ap (λ (l : List (ℕ × Content)). has_entry o l) (sym p.entries_are);
    }

pub few_more : (b : Bool) (n m size : ℕ) → n ≤ m → 0 < size → cond b n (n + 1) ≤ m + size
few_more true n m size h some = omega arith
few_more false n m size h some = omega arith

-- ---- one transaction more

pub block_counted : (bytes : List ℕ) (p newest : ℕ) (h : Header) (old new : Kept) (was are : NumbersKept) (c : Counted) (packed : Bool) → p < 2 ^ 64 → AreBytes bytes
    → Begun ≡ verdict newest (drop p bytes) → h ≡ header_of (drop p bytes) → packed ≡ eqb h.status 112
    → ((known : List Known) → ArePlacesOf known old.entries → RecordsCounted bytes known p h.tid (p + (23 + texts_length h)) (p + h.length) new.entries c)
    → new.transactions ≡ old.transactions ++ record { serial = h.tid; at = p } ∷ []
    → ((list : List Transaction) (t : Transaction) → t.tid ≡ h.tid → t.packed ≡ packed → length t.changes ≡ c.changes → greatest_of (oids_of t) ≡ c.greatest → AreNumbersOf list was → AreNumbersOf (list ++ t ∷ []) are)
    → Numbered bytes p newest old was → Numbered bytes (p + h.length + 8) h.tid new are
unfolding after_block
block_counted bytes p newest h old new was are c packed small fits begun is packed_is records pushed_is added so_far =
    let s = so_far.indexed.reached in
    let rest = drop s.end bytes in
    let begun_here : verdict s.newest rest ≡ Begun = sym (begun ∙ ap (λ (n : ℕ). verdict n (drop p bytes)) (sym so_far.indexed.newest_is) ∙ ap (λ (q : ℕ). verdict s.newest (drop q bytes)) (sym so_far.indexed.end_is)) in
    let h_is : h ≡ header_of rest = is ∙ ap (λ (q : ℕ). header_of (drop q bytes)) (sym so_far.indexed.end_is) in
    let read : RecordsCounted bytes s.known s.end (header_of rest).tid (data_from bytes s.end) (data_to bytes s.end) new.entries c =
    subst (λ (x : Header). RecordsCounted bytes s.known s.end x.tid (s.end + (23 + texts_length x)) (s.end + x.length) new.entries c) h_is
    (subst (λ (q : ℕ). RecordsCounted bytes s.known q h.tid (q + (23 + texts_length h)) (q + h.length) new.entries c) (sym so_far.indexed.end_is) (records s.known so_far.indexed.index.records)) in
    let b = block_in rest read.records in
    let t = block_takes bytes s read.records (omega (arith, small, so_far.indexed.end_is)) fits begun_here read.stand in
    let es : ℕ → List (ℕ × Content) = λ from. changes_of [] s.known s.end b.tid from read.records in
    let many : length (transaction_of s b).changes ≡ c.changes = length-map (es (records_from s.end b)) as_change ∙ ap (λ (from : ℕ). length (es from)) (sym t.from_is) ∙ sym read.changes in
    let most : greatest_of (oids_of (transaction_of s b)) ≡ c.greatest = ap greatest_of (oids_are_keys (es (records_from s.end b))) ∙ ap (λ (from : ℕ). greatest_of (keys_of (es from))) (sym t.from_is) ∙ sym read.greatest in
    let status : eqb b.status 112 ≡ packed = ap (λ (x : Header). eqb x.status 112) (sym h_is) ∙ sym packed_is in
    record {
      indexed = record {
        reached = after_block s b;
        begins = begins_more bytes s b so_far.indexed.begins t;
        end_is = omega (arith, t.length_is, so_far.indexed.end_is, ap (λ (x : Header). x.length) h_is);
        newest_is = sym (ap (λ (x : Header). x.tid) h_is);
        index = record {
          records = subst (λ (from : ℕ). ArePlacesOf (with_records s.known s.end b.tid from read.records) new.entries) t.from_is read.index;
          transactions =
              pushed_is ∙ ap (λ (xs : List Place). xs ++ record { serial = h.tid; at = p } ∷ []) so_far.indexed.index.transactions
              ∙ ap (λ (x : Header). s.starts ++ record { serial = x.tid; at = p } ∷ []) h_is
              ∙ ap (λ (q : ℕ). s.starts ++ record { serial = b.tid; at = q } ∷ []) (sym so_far.indexed.end_is);
        };
      };
      counted = added s.list (transaction_of s b) (ap (λ (x : Header). x.tid) (sym h_is)) status many most so_far.counted;
    }
