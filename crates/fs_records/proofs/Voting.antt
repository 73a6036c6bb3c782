-- What a new transaction is written as may stand behind what was read, where it may be voted, and is the transaction that was voted.
use Rattle.std.proofs.Common.{◌≡◌, ℕ, suc, ◌+◌, ◌^◌, ◌<◌, Bool, true, false, cond, eqb, ltb, List, [], ◌∷◌, ◌++◌, All, length, map, filter, Option, Some, None, refl, sym, ap, subst, ◌∙◌, append_assoc, arith}
use Rattle.std.specs.Prelude.{nat_eq, ◌&&◌, ◌||◌}
use Rattle.std.specs.Option.{option_map, option_map_or, IsSomeAnd}
use Rattle.std.specs.List.{last_or, cons_option, find, list_any, IsDistinct, AllByRecursion, AllPairs}
use Rattle.std.specs.Map.{keys_of}
use Rattle.std.proofs.lemmas.Bool.{eqb-true, eqb-false, ne_eqb, ltb-false, le-ltb}
use Rattle.std.proofs.lemmas.List.{map-append, append-nil, length-append}
use Rattle.std.proofs.lemmas.List.Elements.{All-head, All-tail}
use Rattle.std.proofs.lemmas.List.Folds.{list_any-append}
use Rattle.std.proofs.lemmas.List.Kept.{AllPairs-from_increasing}
use Rattle.indexmap.specs.IndexMap.{insert_entry}
use Rattle.zb_model.specs.declared.data.Content.{Content}
use Rattle.zb_model.specs.declared.data.Content.TheVariants.{Absent}
use Rattle.zb_model.specs.declared.data.Change.{Change}
use Rattle.zb_model.specs.declared.data.Transaction.{Transaction}
use Rattle.zb_model.specs.declared.new_transaction.NewContent.{NewContent}
use Rattle.zb_model.specs.declared.new_transaction.NewContent.TheVariants as new_content
use Rattle.zb_model.specs.declared.new_transaction.NewChange.{NewChange}
use Rattle.zb_model.specs.declared.new_transaction.NewTransaction.{NewTransaction}
use Rattle.zb_model.specs.Database.{IsDatabase, ObjectRevision, change_in, revisions, is_below, revision_below}
use Rattle.zb_model.specs.Voting.{has_serial, revision_at, content_as_of, voted_content, voted_change, voted_of, IsHeld, NamesRevision, IsFilled, IsWellFormed, IsVotable}
use Rattle.fs_index.specs.declared.place.Place.{Place}
use Rattle.fs_records.specs.Blocks.{Known, Written, record_text, records_text, texts, is_at, is_known, content_at, content_of, known_at, with_record, with_records, changes_of, as_change, Reached, file_start, after_block, records_from, Block, IsPayload, AreWritten, after_blocks, Begins}
use Rattle.fs_records.specs.BlockLaws.{after-end}
use Rattle.fs_records.specs.Databases.{reading_of}
use Rattle.fs_index.specs.Places.{PlacesKept, Kept, places_in, last_below}
use Rattle.fs_records.specs.Indexed.{ArePlacesOf, IsIndexOf}
use Rattle.fs_records.specs.Writing.{at_or_0, earlier_in, payload_of, written_of, block_of, IsNext, PayloadFits, HasRoom}
use Rattle.fs_records.specs.Lookups.{RevisionRead, revision_read}

-- ---- no record stands at 0

and_false : (b : Bool) → (b && false) ≡ false
and_false true = refl
and_false false = refl

or_true : (b : Bool) → (b || true) ≡ true
or_true true = refl
or_true false = refl

not_at_0 : (oid : ℕ) (known : List Known) (k : Known) → is_known known oid 0 ≡ false → 0 < k.place → is_known (known ++ k ∷ []) oid 0 ≡ false
not_at_0 oid known k h some =
    let no : eqb k.place 0 ≡ false = ne_eqb k.place 0 (omega arith) in
    list_any-append (is_at oid 0) known (k ∷ []) ∙ ap (λ (b : Bool). b || list_any (is_at oid 0) (k ∷ [])) h ∙ ap (λ (b : Bool). (eqb oid k.oid && b) || false) no ∙ ap (λ (b : Bool). b || false) (and_false (eqb oid k.oid))

none_at_0 : (oid : ℕ) (known : List Known) (place tid q : ℕ) (rs : List Written) → is_known known oid 0 ≡ false → 0 < q → is_known (with_records known place tid q rs) oid 0 ≡ false
none_at_0 oid known place tid q [] h some = h
none_at_0 oid known place tid q (r ∷ rs) h some =
    none_at_0 oid (with_record known tid q r) place tid (q + length (record_text place tid r)) rs (not_at_0 oid known (known_at known tid q r) h some) (omega arith)

one_block_at_0 : (oid : ℕ) (s : Reached) (b : Block) → is_known s.known oid 0 ≡ false → 0 < s.end → is_known (after_block s b).known oid 0 ≡ false
unfolding after_block
one_block_at_0 oid s b h some = none_at_0 oid s.known s.end b.tid (records_from s.end b) b.records h (omega arith)

blocks_at_0 : (oid : ℕ) (s : Reached) (bs : List Block) → is_known s.known oid 0 ≡ false → 0 < s.end → is_known (after_blocks s bs).known oid 0 ≡ false
blocks_at_0 oid s [] h some = h
blocks_at_0 oid s (b ∷ bs) h some = blocks_at_0 oid (after_block s b) bs (one_block_at_0 oid s b h some) (omega (arith, after-end s b))

none_known_at_0 : (bytes : List ℕ) (s : Reached) (oid : ℕ) → Begins bytes s → is_known s.known oid 0 ≡ false
none_known_at_0 bytes s oid begins = ap (λ (r : Reached). is_known r.known oid 0) begins.is ∙ blocks_at_0 oid file_start begins.blocks refl (omega arith)

-- ---- what is known stays known

known_still : (known more : List Known) (oid at : ℕ) → is_known known oid at ≡ true → is_known (known ++ more) oid at ≡ true
known_still known more oid at h = list_any-append (is_at oid at) known more ∙ ap (λ (b : Bool). b || list_any (is_at oid at) more) h

content_still : (known more : List Known) (oid at : ℕ) → is_known known oid at ≡ true → content_at (known ++ more) oid at ≡ content_at known oid at
content_still [] more oid at h = cc
content_still (k ∷ ks) more oid at h = by_cases (is_at oid at k) h (λ e. content_still ks more oid at e)
  where
    by_cases : (b : Bool) → (b || is_known ks oid at) ≡ true → (is_known ks oid at ≡ true → content_at (ks ++ more) oid at ≡ content_at ks oid at) → cond b k.content (content_at (ks ++ more) oid at) ≡ cond b k.content (content_at ks oid at)
    by_cases true e rest = refl
    by_cases false e rest = rest e

-- ---- the revision of a serial is the last one below the next number

abbrev RisingRevisions : List ObjectRevision → Type 0
RisingRevisions [] = Unit {0}
RisingRevisions (r ∷ rs) = AllByRecursion (λ (q : ObjectRevision). r.serial < q.serial) rs × RisingRevisions rs

none_up_to : (serial : ℕ) (rs : List ObjectRevision) → AllByRecursion (λ (q : ObjectRevision). serial < q.serial) rs → filter (is_below (serial + 1)) rs ≡ []
none_up_to serial [] h = refl
none_up_to serial (r ∷ rs) h =
    let above : ltb r.serial (serial + 1) ≡ false = le-ltb r.serial (serial + 1) (omega (arith, h.0)) in
    rw above (none_up_to serial rs h.1)

found_last : (serial : ℕ) (o : Option ObjectRevision) (rs : List ObjectRevision) (r : ObjectRevision) → RisingRevisions rs → find (has_serial serial) rs ≡ Some r → last_or o (filter (is_below (serial + 1)) rs) ≡ Some r
found_last serial o [] r rising found = cc
found_last serial o (x ∷ xs) r rising found = by_cases (eqb x.serial serial) (ltb x.serial (serial + 1)) refl refl found (λ w e. found_last serial w xs r rising.1 e)
  where
    by_cases : (a b : Bool) → eqb x.serial serial ≡ a → ltb x.serial (serial + 1) ≡ b → cond a (Some x) (find (has_serial serial) xs) ≡ Some r
        → ((w : Option ObjectRevision) → find (has_serial serial) xs ≡ Some r → last_or w (filter (is_below (serial + 1)) xs) ≡ Some r)
        → last_or o (cond b (x ∷ filter (is_below (serial + 1)) xs) (filter (is_below (serial + 1)) xs)) ≡ Some r
    by_cases true true p q e rest = ap (λ (ys : List ObjectRevision). last_or (Some x) ys) (none_up_to serial xs (subst (λ (n : ℕ). AllByRecursion (λ (y : ObjectRevision). n < y.serial) xs) (eqb-true x.serial serial p) rising.0)) ∙ e
    by_cases true false p q e rest = absurd (omega (arith, eqb-true x.serial serial p, ltb-false x.serial (serial + 1) q))
    by_cases false true p q e rest = rest (Some x) e
    by_cases false false p q e rest = rest o e

abbrev tids : List Transaction → List ℕ
tids ts = map (λ (t : Transaction). t.tid) ts

revisions_above : (n oid : ℕ) (ts : List Transaction) → All (λ m. n < m) (tids ts) → AllByRecursion (λ (q : ObjectRevision). n < q.serial) (revisions oid ts)
revisions_above n oid [] h = tt
revisions_above n oid (t ∷ ts) h = by_cases (change_in oid t.changes) (revisions_above n oid ts (λ k d l. h (suc k) d (omega arith)))
  where
    by_cases : (x : Option Change) → AllByRecursion (λ (q : ObjectRevision). n < q.serial) (revisions oid ts)
        → AllByRecursion (λ (q : ObjectRevision). n < q.serial) (cons_option (option_map (λ (c : Change). record { serial = t.tid; content = c.content }) x) (revisions oid ts))
    by_cases None rest = rest
    by_cases (Some c) rest = (h 0 0 (omega arith), rest)

rising_revisions : (oid : ℕ) (ts : List Transaction) → AllPairs (λ n m. n < m) (tids ts) → RisingRevisions (revisions oid ts)
rising_revisions oid [] h = tt
rising_revisions oid (t ∷ ts) h = by_cases (change_in oid t.changes) (rising_revisions oid ts (λ i j d l w. h (suc i) (suc j) d (omega arith) (omega arith)))
  where
    by_cases : (x : Option Change) → RisingRevisions (revisions oid ts) → RisingRevisions (cons_option (option_map (λ (c : Change). record { serial = t.tid; content = c.content }) x) (revisions oid ts))
    by_cases None rest = rest
    by_cases (Some c) rest = (revisions_above t.tid oid ts (λ k d l. h 0 (suc k) d (omega arith) (omega arith)), rest)

as_of_is_last : (list : List Transaction) (oid serial : ℕ) (r : ObjectRevision) → IsDatabase list → revision_at oid serial list ≡ Some r → revision_below oid (serial + 1) list ≡ Some r
as_of_is_last list oid serial r is found =
    let pairs = AllPairs-from_increasing (0 ∷ tids list) is.rising in
    found_last serial None (revisions oid list) r (rising_revisions oid list (λ i j d l w. pairs (suc i) (suc j) d (omega arith) (omega arith))) found

-- ---- where an earlier content stands

record Earlier (s : Reached) (oid at : ℕ) (content : Content) : Type 0 where
  known : is_known s.known oid at ≡ true
  holds : content_at s.known oid at ≡ content

earlier_at : (s : Reached) (oid front : ℕ) (o : Option Place) (r : ObjectRevision) → RevisionRead s oid front o → revision_below oid front s.list ≡ Some r → Earlier s oid (at_or_0 o) r.content
earlier_at s oid front None r read is = absurd (cc (read, is))
earlier_at s oid front (Some p) r read is =
    let found : ObjectRevision = record { serial = p.serial; content = content_at s.known oid p.at } in
    let some : Some found ≡ Some r = sym read.1 ∙ is in
    let same : found ≡ r = cc in
    record { known = read.0; holds = ap (λ (x : ObjectRevision). x.content) same }

earlier_found : (s : Reached) (oid serial : ℕ) (o : Option Place) (found : Option ObjectRevision) → RevisionRead s oid (serial + 1) o
    → ((r : ObjectRevision) → found ≡ Some r → revision_below oid (serial + 1) s.list ≡ Some r) → IsSomeAnd found (λ (r : ObjectRevision). IsHeld r.content)
    → Earlier s oid (at_or_0 o) (option_map_or (λ (r : ObjectRevision). r.content) found Absent)
earlier_found s oid serial o None read last held = absurd held
earlier_found s oid serial o (Some r) read last held = earlier_at s oid (serial + 1) o r read (last r refl)

-- ---- one object's entry

apart : (n : ℕ) (xs : List ℕ) (y : ℕ) (ys : List ℕ) → AllByRecursion (λ m. nat_eq n m ≡ false) (xs ++ y ∷ ys) → nat_eq n y ≡ false
apart n [] y ys h = h.0
apart n (x ∷ xs) y ys h = apart n xs y ys h.1

insert_at_end : (done : List (ℕ × Content)) (oid : ℕ) (others : List ℕ) (v : Content) → IsDistinct nat_eq (keys_of done ++ oid ∷ others) → insert_entry nat_eq done oid v ≡ done ++ (oid, v) ∷ []
unfolding IsDistinct
insert_at_end [] oid others v h = refl
insert_at_end (e ∷ es) oid others v h = by_cases (eqb oid e.0) refl (insert_at_end es oid others v h.1)
  where
    by_cases : (b : Bool) → eqb oid e.0 ≡ b → insert_entry nat_eq es oid v ≡ es ++ (oid, v) ∷ [] → cond b ((e.0, v) ∷ es) (e ∷ insert_entry nat_eq es oid v) ≡ e ∷ (es ++ (oid, v) ∷ [])
    by_cases true same rest = absurd (eqb-false e.0 oid (apart e.0 (keys_of es) oid others h.0) (sym (eqb-true oid e.0 same)))
    by_cases false other rest = ap (λ (x : List (ℕ × Content)). e ∷ x) rest

keys_at_end : (done : List (ℕ × Content)) (oid : ℕ) (others : List ℕ) (v : Content) → keys_of (done ++ (oid, v) ∷ []) ++ others ≡ keys_of done ++ oid ∷ others
keys_at_end [] oid others v = refl
keys_at_end (e ∷ es) oid others v = ap (λ (x : List ℕ). e.0 ∷ x) (keys_at_end es oid others v)

-- ---- a new transaction over what was read

abbrev oids : List NewChange → List ℕ
oids cs = map (λ (c : NewChange). c.oid) cs

abbrev AreSound : Reached → List NewChange → Type 0
AreSound s cs = All (λ (c : NewChange). NamesRevision s.list c.oid c.content) cs

abbrev AreFilled : List NewChange → Type 0
AreFilled cs = All (λ (c : NewChange). IsFilled c.content) cs

module _ (bytes : List ℕ) (s : Reached) (entries : List (ℕ × PlacesKept)) (begins : Begins bytes s) (index : ArePlacesOf s.known entries) where
  earlier_is : (oid serial : ℕ) → NamesRevision s.list oid (new_content.AsOf serial) → Earlier s oid (earlier_in entries oid serial) (content_as_of oid serial s.list)
  earlier_is oid serial sound =
      earlier_found s oid serial (last_below (serial + 1) (places_in entries oid)) (revision_at oid serial s.list)
      (subst (λ (ps : List Place). RevisionRead s oid (serial + 1) (last_below (serial + 1) ps)) (sym (index oid)) (revision_read bytes s oid (serial + 1) begins))
      (λ r e. as_of_is_last s.list oid serial r (reading_of bytes s begins).is e) sound

  -- what a payload gives is what is voted
  payload_content : (oid : ℕ) (c : NewContent) (known more : List Known) → known ≡ s.known ++ more → NamesRevision s.list oid c → content_of known oid (payload_of entries oid c) ≡ voted_content s.list oid c
  payload_content oid (new_content.Bytes held) known more is sound = refl
  payload_content oid new_content.Absent known more is sound = refl
  payload_content oid (new_content.AsOf serial) known more is sound =
      let at = earlier_in entries oid serial in
      let e = earlier_is oid serial sound in
      let none = none_known_at_0 bytes s oid begins in
      let not_0 : eqb at 0 ≡ false = ne_eqb at 0 (λ z. absurd (cc (e.known, none, ap (λ (n : ℕ). is_known s.known oid n) z))) in
      ap (λ (b : Bool). cond b Absent (content_at known oid at)) not_0 ∙ ap (λ (ks : List Known). content_at ks oid at) is ∙ content_still s.known more oid at e.known ∙ e.holds

  -- and may stand there
  payload_stands : (oid : ℕ) (c : NewContent) (known more : List Known) → known ≡ s.known ++ more → NamesRevision s.list oid c → IsFilled c → PayloadFits (payload_of entries oid c) → IsPayload known oid (payload_of entries oid c)
  payload_stands oid (new_content.Bytes held) known more is sound filled fits = (filled, fits)
  payload_stands oid new_content.Absent known more is sound filled fits = (fits, refl)
  payload_stands oid (new_content.AsOf serial) known more is sound filled fits =
      let at = earlier_in entries oid serial in
      let still : is_known known oid at ≡ true = ap (λ (ks : List Known). is_known ks oid at) is ∙ known_still s.known more oid at (earlier_is oid serial sound).known in
      (fits, ap (λ (b : Bool). eqb at 0 || b) still ∙ or_true (eqb at 0))

  more_known : (known more : List Known) (k : Known) → known ≡ s.known ++ more → known ++ k ∷ [] ≡ s.known ++ (more ++ k ∷ [])
  more_known known more k is = ap (λ (ks : List Known). ks ++ k ∷ []) is ∙ append_assoc s.known more (k ∷ [])

  are_written : (place tid : ℕ) (cs : List NewChange) (q : ℕ) (known more : List Known) → known ≡ s.known ++ more → AreSound s cs → AreFilled cs → AllByRecursion HasRoom (map (written_of entries) cs) → AreWritten known place tid q (map (written_of entries) cs)
  are_written place tid [] q known more is sound filled room = tt
  are_written place tid (c ∷ cs) q known more is sound filled room =
      let r : Written = written_of entries c in
      let sound_here = All-head (λ (c : NewChange). NamesRevision s.list c.oid c.content) c cs sound in
      let sound_there = All-tail (λ (c : NewChange). NamesRevision s.list c.oid c.content) c cs sound in (
        record { oid = room.0.oid; previous = room.0.previous; payload = payload_stands c.oid c.content known more is sound_here (All-head (λ (c : NewChange). IsFilled c.content) c cs filled) room.0.payload },
        are_written place tid cs (q + length (record_text place tid r)) (with_record known tid q r) (more ++ known_at known tid q r ∷ []) (more_known known more (known_at known tid q r) is) sound_there (All-tail (λ (c : NewChange). IsFilled c.content) c cs filled) room.1,
      )

  changes_are : (place tid : ℕ) (cs : List NewChange) (q : ℕ) (known more : List Known) (done : List (ℕ × Content)) → known ≡ s.known ++ more → AreSound s cs → IsDistinct nat_eq (keys_of done ++ oids cs)
      → map as_change (changes_of done known place tid q (map (written_of entries) cs)) ≡ map as_change done ++ map (voted_change s.list) cs
  changes_are place tid [] q known more done is sound distinct = sym (append-nil (map as_change done))
  changes_are place tid (c ∷ cs) q known more done is sound distinct =
      let r : Written = written_of entries c in
      let v : Content = content_of known r.oid r.payload in
      let next : ℕ = q + length (record_text place tid r) in
      let others = map (voted_change s.list) cs in
      let sound_here = All-head (λ (c : NewChange). NamesRevision s.list c.oid c.content) c cs sound in
      let sound_there = All-tail (λ (c : NewChange). NamesRevision s.list c.oid c.content) c cs sound in
      let distinct_there = subst (λ (ks : List ℕ). IsDistinct nat_eq ks) (sym (keys_at_end done c.oid (oids cs) v)) distinct in
      ap (λ (es : List (ℕ × Content)). map as_change (changes_of es (with_record known tid q r) place tid next (map (written_of entries) cs))) (insert_at_end done c.oid (oids cs) v distinct)
      ∙ changes_are place tid cs next (with_record known tid q r) (more ++ known_at known tid q r ∷ []) (done ++ (c.oid, v) ∷ []) (more_known known more (known_at known tid q r) is) sound_there distinct_there
      ∙ ap (λ (x : List Change). x ++ others) (map-append as_change done ((c.oid, v) ∷ []))
      ∙ append_assoc (map as_change done) (as_change (c.oid, v) ∷ []) others
      ∙ ap (λ (w : Content). map as_change done ++ as_change (c.oid, w) ∷ others) (payload_content c.oid c.content known more is sound_here)

abbrev made : NewTransaction → List Change → Transaction
made new cs = record { tid = new.tid; packed = false; user = new.user; description = new.description; extension = new.extension; changes = cs }

-- the block may stand there, and is the voted transaction
pub is_next : (bytes : List ℕ) (s : Reached) (kept : Kept) (new : NewTransaction) (at : ℕ) → Begins bytes s → IsIndexOf s kept → s.end ≡ at → IsVotable s.list new → IsWellFormed new → at < 2 ^ 63
    → AllByRecursion HasRoom (map (written_of kept.entries) new.changes) → length (records_text at new.tid (map (written_of kept.entries) new.changes)) < 2 ^ 63
    → IsNext s (block_of 32 kept.entries new) (voted_of s.list new)
is_next bytes s kept new at begins index here votable formed place room long =
    let b : Block = block_of 32 kept.entries new in
    let read = reading_of bytes s begins in
    let nothing = sym (append-nil s.known) in
    let texts_long : length (texts b) ≡ length new.user + (length new.description + length new.extension) = omega (arith, length-append new.user (new.description ++ new.extension), length-append new.description new.extension) in
    let records_long : length (records_text s.end new.tid b.records) < 2 ^ 63 = subst (λ (p : ℕ). length (records_text p new.tid b.records) < 2 ^ 63) (sym here) long in
    let changes_is : map as_change (changes_of [] s.known s.end b.tid (records_from s.end b) b.records) ≡ map (voted_change s.list) new.changes =
    changes_are bytes s kept.entries begins index.records s.end b.tid new.changes (records_from s.end b) s.known [] [] nothing votable.sound formed.distinct in
    record {
      block = record {
        place = omega (arith, here, place);
        above = omega (arith, read.newest, votable.later);
        below = formed.tid;
        status = refl;
        user = omega (arith, formed.user);
        description = omega (arith, formed.description);
        extension = omega (arith, formed.extension);
        records = are_written bytes s kept.entries begins index.records s.end b.tid new.changes (records_from s.end b) s.known [] nothing votable.sound formed.filled room;
        long = omega (arith, texts_long, records_long, formed.user, formed.description, formed.extension);
      };
      is = ap (λ (cs : List Change). made new cs) changes_is;
    }
