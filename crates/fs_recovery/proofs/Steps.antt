-- One transaction more, the end, and the first fault.
use Rattle.std.proofs.Common.{◌≡◌, ℕ, ◌+◌, ◌^◌, ◌<◌, ◌≤◌, Bool, eqb, List, [], ◌∷◌, ◌++◌, All, length, take, drop, Option, Some, None, Err, inl, inr, refl, sym, ap, subst, ◌∙◌, arith}
use Rattle.std.specs.List.{last_or}
use Rattle.std.specs.Option.{option_map_or}
use Rattle.std.proofs.lemmas.List.Elements.{All-weaker, All-push}
use Rattle.fs_records.specs.declared.header.Header.{Header}
use Rattle.fs_index.specs.declared.place.Place.{Place}
use Rattle.fs_records.specs.declared.field.Field.{Field}
use Rattle.fs_records.specs.declared.verdict.Verdict.{Verdict}
use Rattle.fs_records.specs.declared.verdict.Verdict.TheVariants.{Ends, Tail, Fault, Begun}
use Rattle.fs_records.specs.Headers.{header_of}
use Rattle.zb_base.specs.Bytes.{AreBytes}
use Rattle.zb_model.specs.declared.data.Transaction.{Transaction}
use Rattle.zb_model.specs.Queries.{greatest_of, oids_of}
use Rattle.fs_records.specs.Blocks.{Known, Reached}
use Rattle.fs_records.specs.Rules.{verdict, texts_length}
use Rattle.fs_records.specs.File.{IsReadAs, a_file, RecordFault, IsDamaged, head, data_record, data_from, data_to}
use Rattle.fs_index.specs.Places.{PlacesKept, Kept, AreBefore, IsBefore, places_in}
use Rattle.fs_records.specs.Indexed.{ArePlacesOf}
use Rattle.fs_records.specs.Scan.{Indexed}
use Rattle.fs_records.specs.Lists.{not_damaged, not_no_file}
use Rattle.fs_records.specs.WriteLaws.{without_tail_stands}
use Rattle.fs_records.specs.OpenLaws.{before_weaker}
use Rattle.fs_recovery.specs.declared.errors.OpenError.{OpenError}
use Rattle.fs_recovery.specs.declared.errors.OpenError.TheVariants.{StoreFault, BadRecord, NotFileStorage, Memory}
use Rattle.fs_recovery.specs.Heads.{HeaderBegins}
use Rattle.fs_recovery.specs.Records.{RecordsRead}
use Rattle.fs_recovery.specs.declared.counted.Counted.{Counted}
use Rattle.fs_recovery.specs.Numbers.{NumbersKept, AreNumbersOf}
use Rattle.fs_recovery.specs.Counting.{RecordsCounted, Numbered}
use Rattle.fs_recovery.proofs.Counting.{block_counted}
use Rattle.fs_recovery.specs.declared.opening.Opened.{Opened}
use Rattle.fs_recovery.specs.Opens.{newest_kept, KeptBefore, BlockRead, IsNoList, IsOpened, IsWhole}

-- ---- what is kept

last_or-push : {X : Type 0} (o : Option X) (xs : List X) (x : X) → last_or o (xs ++ x ∷ []) ≡ Some x
last_or-push o [] x = refl
last_or-push o (y ∷ ys) x = last_or-push (Some y) ys x

pub newest_pushed : (xs : List Place) (p : Place) (new : Kept) → new.transactions ≡ xs ++ p ∷ [] → newest_kept new ≡ p.serial
newest_pushed xs p new is = ap (λ (ys : List Place). option_map_or (λ (q : Place). q.serial) (last_or None ys) 0) is ∙ ap (λ (o : Option Place). option_map_or (λ (q : Place). q.serial) o 0) (last_or-push None xs p)

pub records_behind : (old : Kept) (p tid more : ℕ) → newest_kept old < tid → KeptBefore old p → AreBefore old.entries tid (p + more)
records_behind old p tid more above before = before_weaker old.entries (newest_kept old) p tid (p + more) (omega (arith, above)) (omega arith) before.records

pub transactions_behind : (old mid : Kept) (p tid : ℕ) → newest_kept old < tid → KeptBefore old p → mid.transactions ≡ old.transactions → All (IsBefore tid p) mid.transactions
transactions_behind old mid p tid above before same =
    subst (λ (xs : List Place). All (IsBefore tid p) xs) (sym same) (All-weaker (IsBefore (newest_kept old) p) (IsBefore tid p) (λ q h. (omega (arith, h.0, above), h.1)) old.transactions before.transactions)

pub kept_more : (old mid new : Kept) (p tid long : ℕ) → newest_kept old < tid → KeptBefore old p → AreBefore mid.entries tid (p + long) → mid.transactions ≡ old.transactions
    → new.transactions ≡ mid.transactions ++ record { serial = tid; at = p } ∷ [] → new.entries ≡ mid.entries → KeptBefore new (p + long + 8)
kept_more old mid new p tid long above before records same pushed entries =
    let place : Place = record { serial = tid; at = p } in
    let to = p + long + 8 in
    let newest : newest_kept new ≡ tid = newest_pushed mid.transactions place new pushed in
    let behind = transactions_behind old mid p tid above before same in
    let weaker = All-weaker (IsBefore tid p) (IsBefore tid to) (λ q h. (h.0, omega (arith, h.1))) mid.transactions behind in
    let more : All (IsBefore tid to) (mid.transactions ++ place ∷ []) = All-push (IsBefore tid to) mid.transactions place weaker (omega arith, omega arith) in
    record {
      records = subst (λ (n : ℕ). AreBefore new.entries n to) (sym newest) (subst (λ (es : List (ℕ × PlacesKept)). AreBefore es tid to) (sym entries) (before_weaker mid.entries tid (p + long) tid to (omega arith) (omega arith) records));
      transactions = subst (λ (n : ℕ). All (IsBefore n to) new.transactions) (sym newest) (subst (λ (xs : List Place). All (IsBefore tid to) xs) (sym pushed) more);
    }

pub before_later : (kept : Kept) (at to : ℕ) → at ≤ to → KeptBefore kept at → KeptBefore kept to
before_later kept at to h before = record {
  records = before_weaker kept.entries (newest_kept kept) at (newest_kept kept) to (omega arith) h before.records;
  transactions = All-weaker (IsBefore (newest_kept kept) at) (IsBefore (newest_kept kept) to) (λ q b. (b.0, omega (arith, b.1, h))) kept.transactions before.transactions;
}

-- ---- what was read

verdict_here : (bytes : List ℕ) (p newest : ℕ) (s : Reached) (v : Verdict) → s.end ≡ p → s.newest ≡ newest → verdict newest (drop p bytes) ≡ v → verdict s.newest (drop s.end bytes) ≡ v
verdict_here bytes p newest s v end_is newest_is e = rw (end_is, newest_is) e

pub opened_at_end : (bytes : List ℕ) (kept : Kept) (numbers : NumbersKept) (p newest : ℕ) → Numbered bytes p newest kept numbers → verdict newest (drop p bytes) ≡ Ends → IsOpened bytes (record { index = kept; numbers = numbers; end = p; cut = None })
opened_at_end bytes kept numbers p newest so_far e =
    let i = so_far.indexed in
    record { reached = i.reached; stands = record { begins = i.begins; ends = verdict_here bytes p newest i.reached Ends i.end_is i.newest_is e }; end_is = i.end_is; index = i.index; counted = so_far.counted }

pub opened_at_tail : (bytes : List ℕ) (kept : Kept) (numbers : NumbersKept) (p newest : ℕ) → Numbered bytes p newest kept numbers → verdict newest (drop p bytes) ≡ Tail → IsOpened bytes (record { index = kept; numbers = numbers; end = p; cut = Some p })
opened_at_tail bytes kept numbers p newest so_far e =
    let i = so_far.indexed in
    record { reached = i.reached; stands = record { begins = i.begins; ends = (verdict_here bytes p newest i.reached Tail i.end_is i.newest_is e, sym i.end_is) }; end_is = i.end_is; index = i.index; counted = so_far.counted }

pub fault_here : (bytes : List ℕ) (kept : Kept) (numbers : NumbersKept) (p newest : ℕ) (field : Field) → Numbered bytes p newest kept numbers → verdict newest (drop p bytes) ≡ Fault field → IsDamaged bytes p field
fault_here bytes kept numbers p newest field so_far e =
    let i = so_far.indexed in
    record { reached = i.reached; begins = i.begins; fault = head (verdict_here bytes p newest i.reached (Fault field) i.end_is i.newest_is e) (sym i.end_is) }

-- a fault in a data record
fault_inside : (bytes : List ℕ) (kept : Kept) (p newest : ℕ) (h : Header) (at : ℕ) (field : Field) → HeaderBegins bytes p newest h → (so_far : Indexed bytes p newest kept)
    → RecordFault bytes so_far.reached.known p h.tid (p + (23 + texts_length h)) (p + h.length) at field → IsDamaged bytes at field
fault_inside bytes kept p newest h at field begins so_far fault =
    let s = so_far.reached in
    let rest = drop s.end bytes in
    let h_is : h ≡ header_of rest = begins.header_is ∙ ap (λ (q : ℕ). header_of (drop q bytes)) (sym so_far.end_is) in
    let here : RecordFault bytes s.known s.end (header_of rest).tid (data_from bytes s.end) (data_to bytes s.end) at field =
    subst (λ (x : Header). RecordFault bytes s.known s.end x.tid (s.end + (23 + texts_length x)) (s.end + x.length) at field) h_is
    (subst (λ (q : ℕ). RecordFault bytes s.known q h.tid (q + (23 + texts_length h)) (q + h.length) at field) (sym so_far.end_is) fault) in
    record { reached = s; begins = so_far.begins; fault = data_record (verdict_here bytes p newest s Begun so_far.end_is so_far.newest_is begins.begun) here }

-- what its data records answered where they weren't all read
pub refused : (bytes : List ℕ) (old new : Kept) (was are : NumbersKept) (entries : List (ℕ × PlacesKept)) (p newest : ℕ) (h : Header) (to tid : ℕ) (e : OpenError) → HeaderBegins bytes p newest h → (so_far : Numbered bytes p newest old was)
    → ((known : List Known) → ArePlacesOf known old.entries → RecordsRead bytes known p h.tid (p + (23 + texts_length h)) (p + h.length) entries (Err e)) → BlockRead bytes to tid new are (Err e)
refused bytes old new was are entries p newest h to tid StoreFault begins so_far read = tt
refused bytes old new was are entries p newest h to tid (BadRecord at field) begins so_far read =
    fault_inside bytes old p newest h at field begins so_far.indexed (read so_far.indexed.reached.known so_far.indexed.index.records)
refused bytes old new was are entries p newest h to tid NotFileStorage begins so_far read = read so_far.indexed.reached.known so_far.indexed.index.records
refused bytes old new was are entries p newest h to tid Memory begins so_far read = tt

-- and where they were
pub accepted : (bytes : List ℕ) (old mid new : Kept) (was are : NumbersKept) (c : Counted) (packed : Bool) (p newest : ℕ) (h : Header) → p < 2 ^ 64 → AreBytes bytes → HeaderBegins bytes p newest h → packed ≡ eqb h.status 112
    → ((known : List Known) → ArePlacesOf known old.entries → RecordsCounted bytes known p h.tid (p + (23 + texts_length h)) (p + h.length) mid.entries c)
    → mid.transactions ≡ old.transactions → new.transactions ≡ mid.transactions ++ record { serial = h.tid; at = p } ∷ [] → new.entries ≡ mid.entries
    → ((list : List Transaction) (t : Transaction) → t.tid ≡ h.tid → t.packed ≡ packed → length t.changes ≡ c.changes → greatest_of (oids_of t) ≡ c.greatest → AreNumbersOf list was → AreNumbersOf (list ++ t ∷ []) are)
    → Numbered bytes p newest old was → Numbered bytes (p + h.length + 8) h.tid new are
accepted bytes old mid new was are c packed p newest h small fits begins packed_is read same pushed entries added so_far =
    block_counted bytes p newest h old new was are c packed small fits (sym begins.begun) begins.header_is packed_is
    (λ known is. subst (λ (es : List (ℕ × PlacesKept)). RecordsCounted bytes known p h.tid (p + (23 + texts_length h)) (p + h.length) es c) (sym entries) (read known is))
    (pushed ∙ ap (λ (xs : List Place). xs ++ record { serial = h.tid; at = p } ∷ []) same) added so_far

-- as a loop goes on
pub block_done : (bytes then now : List ℕ) (p newest kept_newest to tid : ℕ) (h : Header) (old new : Kept) (was are : NumbersKept) → then ≡ bytes → now ≡ bytes → newest ≡ kept_newest
    → (verdict newest (drop p now) ≡ Begun) × (h ≡ header_of (drop p now)) → Numbered bytes p newest old was
    → (HeaderBegins then p kept_newest h → Numbered then p kept_newest old was → Numbered then to tid new are) → Numbered bytes to tid new are
block_done bytes then now p newest kept_newest to tid h old new was are then_is now_is newest_is judged before read =
    let begins : HeaderBegins bytes p newest h = record { begun = ap (λ (b : List ℕ). verdict newest (drop p b)) (sym now_is) ∙ judged.0; header_is = judged.1 ∙ ap (λ (b : List ℕ). header_of (drop p b)) now_is } in
    subst (λ (b : List ℕ). Numbered b to tid new are) then_is
    (read (subst (λ (b : List ℕ). HeaderBegins b p kept_newest h) (sym then_is) (subst (λ (n : ℕ). HeaderBegins bytes p n h) newest_is begins))
    (subst (λ (b : List ℕ). Numbered b p kept_newest old was) (sym then_is) (subst (λ (n : ℕ). Numbered bytes p n old was) newest_is before)))

-- no record that is kept is of a later transaction, so none is of this one
pub all_earlier : (old : Kept) (p tid : ℕ) → newest_kept old < tid → KeptBefore old p → (oid : ℕ) → All (λ q. q.serial < tid) (places_in old.entries oid)
all_earlier old p tid above before oid = All-weaker (IsBefore (newest_kept old) p) (λ q. q.serial < tid) (λ q h. omega (arith, h.0, above)) (places_in old.entries oid) (before.records oid)

-- once its tail is cut off
pub whole_now : (bytes now : List ℕ) (o : Opened) → now ≡ take o.end bytes → IsOpened bytes o → IsWhole now o
whole_now bytes now o is opened =
    let s = opened.reached in
    let cut_there : take s.end bytes ≡ now = ap (λ (n : ℕ). take n bytes) opened.end_is ∙ sym is in
    record {
      reached = s;
      stands = subst (λ (b : List ℕ). IsReadAs b s None) cut_there (without_tail_stands bytes s o.cut opened.stands);
      end_is = opened.end_is;
      index = opened.index;
      counted = opened.counted;
    }

-- what stands for a list is neither no file nor damaged
pub no_list_apart : (bytes : List ℕ) (o : Opened) → IsOpened bytes o → IsNoList bytes → ⊥
no_list_apart bytes o is (inl other) = not_no_file bytes is.reached.list o.cut (a_file is.reached is.stands refl) other
no_list_apart bytes o is (inr (at, field, harm)) = not_damaged bytes is.reached.list o.cut at field (a_file is.reached is.stands refl) harm
