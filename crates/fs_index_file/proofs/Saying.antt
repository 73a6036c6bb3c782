-- What was read is what an index file says.
use Rattle.std.proofs.Common.{◌≡◌, ℕ, Bool, true, false, List, map, refl, sym, ap, subst, ◌∙◌}
use Rattle.std.specs.Prelude.{◌&&◌, ◌==◌, nat_le, None, Some, Option, Result, Ok, Err, IfOk}
use Rattle.std.proofs.Common.{length}
use Rattle.fs_index.specs.declared.place.Place.{Place}
use Rattle.fs_index.specs.Places.{PlacesKept}
use Rattle.fs_recovery.specs.declared.counted.Counted.{Counted}
use Rattle.fs_recovery.specs.declared.errors.OpenError.{OpenError}
use Rattle.fs_recovery.specs.declared.opening.Opened.{Opened}
use Rattle.fs_index_file.specs.declared.entries.Head.{Head}
use Rattle.fs_index_file.specs.Counts.{AreCounted, CountsGive, RisesFrom, counted_at}
use Rattle.fs_index_file.specs.Honest.{is_packed}
use Rattle.fs_index_file.specs.Hints.{are_records, are_starts, entries_in, first_record, first_start, head_of, is_believed, newest_in, size_by}
use Rattle.fs_index_file.specs.Reads.{EntriesGive, HasEntries, HintGives}
use Rattle.fs_index_file.specs.OrderLaws.{newest_same}
use Rattle.fs_index_file.proofs.Summing.{starts_rise}
use Rattle.fs_index_file.specs.Scans.{RecordsGive, StartsGive, newest_of, records_by, starts_by}

pub none_by_starts : (bytes : List ℕ) (h : Head) (places : List Place) (packed : List Bool) (all : Bool) → all ≡ false → StartsGive bytes h places packed all → EntriesGive bytes h None
none_by_starts bytes h places packed all fails gives = ap (λ (b : Bool). b && are_records (newest_in (starts_by bytes h)) h.end first_record (records_by bytes h)) (gives.test ∙ fails)

both : (bytes : List ℕ) (h : Head) (places : List Place) (packed : List Bool) (all more : Bool) (newest : ℕ) (entries : List (ℕ × PlacesKept)) → all ≡ true → newest ≡ newest_of places → StartsGive bytes h places packed all → RecordsGive bytes h newest entries more
    → (are_starts h.end first_start (starts_by bytes h) && are_records (newest_in (starts_by bytes h)) h.end first_record (records_by bytes h)) ≡ more
both bytes h places packed all more newest entries passes is starts records =
    let same : newest ≡ newest_in (starts_by bytes h) = is ∙ ap newest_of (starts.places_are passes) ∙ newest_same (starts_by bytes h) in
    ap (λ (b : Bool). b && are_records (newest_in (starts_by bytes h)) h.end first_record (records_by bytes h)) (starts.test ∙ passes)
    ∙ ap (λ (n : ℕ). are_records n h.end first_record (records_by bytes h)) (sym same) ∙ records.test

pub none_by_records : (bytes : List ℕ) (h : Head) (places : List Place) (packed : List Bool) (all more : Bool) (newest : ℕ) (entries : List (ℕ × PlacesKept)) → all ≡ true → more ≡ false → newest ≡ newest_of places
    → StartsGive bytes h places packed all → RecordsGive bytes h newest entries more → EntriesGive bytes h None
none_by_records bytes h places packed all more newest entries passes fails is starts records = both bytes h places packed all more newest entries passes is starts records ∙ fails

pub some_entries : (bytes : List ℕ) (h : Head) (places : List Place) (packed : List Bool) (counted : List Counted) (all more : Bool) (newest : ℕ) (x : Opened) → all ≡ true → more ≡ true → newest ≡ newest_of places
    → x.end ≡ h.end → x.index.transactions ≡ places → AreCounted places packed counted x.numbers → StartsGive bytes h places packed all → RecordsGive bytes h newest x.index.entries more → CountsGive bytes h places counted more → EntriesGive bytes h (Some x)
some_entries bytes h places packed counted all more newest x passes also is end_is places_is numbers starts records counts =
    let rises : RisesFrom 0 places = subst (λ (ps : List Place). RisesFrom 0 ps) (sym (starts.places_are passes)) (starts_rise h.end first_start (starts_by bytes h) (starts.test ∙ passes)) in
    let counted_are : counted ≡ map (counted_at (records_by bytes h)) x.index.transactions = counts also rises ∙ ap (λ (ps : List Place). map (counted_at (records_by bytes h)) ps) (sym places_is) in (
      both bytes h places packed all more newest x.index.entries passes is starts records ∙ also,
      record {
        end_is = end_is;
        places = places_is ∙ starts.places_are passes;
        records = records.places_are also;
        numbers = subst (λ (cs : List Counted). AreCounted x.index.transactions (map is_packed (starts_by bytes h)) cs x.numbers) counted_are
            (subst (λ (bs : List Bool). AreCounted x.index.transactions bs counted x.numbers) (starts.packed_are passes) (subst (λ (ps : List Place). AreCounted ps packed counted x.numbers) (sym places_is) numbers));
      },
    )

-- ---- the whole file

-- the head decides, and then the entries
abbrev pub by_head : ℕ → ℕ → Head → Bool
by_head long size h = h.gate == 1 && (size == size_by h && (nat_le 4 h.end && nat_le h.end long))

abbrev by_entries : List ℕ → Head → Bool
by_entries bytes h = are_starts h.end first_start (starts_by bytes h) && are_records (newest_in (starts_by bytes h)) h.end first_record (records_by bytes h)

shuffle : (gate size four end e : Bool) → ((gate && (size && (four && e))) && end) ≡ ((gate && (size && (four && end))) && e)
shuffle false size four end e = refl
shuffle true false four end e = refl
shuffle true true false end e = refl
shuffle true true true end e = swap e end
  where
    swap : (a b : Bool) → (a && b) ≡ (b && a)
    swap true true = refl
    swap true false = refl
    swap false true = refl
    swap false false = refl

believed_is : (long : ℕ) (bytes : List ℕ) → is_believed long bytes ≡ (by_head long (length bytes) (head_of bytes) && by_entries bytes (head_of bytes))
unfolding entries_in
believed_is long bytes =
    let h = head_of bytes in
    shuffle (h.gate == 1) (length bytes == size_by h) (nat_le 4 h.end) (nat_le h.end long) (by_entries bytes h)

pub none_by_head : (long size : ℕ) (bytes : List ℕ) (h : Head) → size ≡ length bytes → h ≡ head_of bytes → by_head long size h ≡ false → HintGives long bytes None
none_by_head long size bytes h size_is h_is fails =
    believed_is long bytes ∙ ap (λ (b : Bool). b && by_entries bytes (head_of bytes)) (ap (λ (n : ℕ). by_head long n (head_of bytes)) (sym size_is) ∙ ap (λ (x : Head). by_head long size x) (sym h_is) ∙ fails)

has_entries : (bytes : List ℕ) (x : Opened) → HasEntries x (record { end = (head_of bytes).end; starts = starts_by bytes (head_of bytes); records = records_by bytes (head_of bytes) }) → HasEntries x (entries_in bytes)
unfolding entries_in
has_entries bytes x e = e

pub hint_gives : (long size : ℕ) (bytes : List ℕ) (h : Head) (r : Option Opened) → size ≡ length bytes → h ≡ head_of bytes → by_head long size h ≡ true → EntriesGive bytes h r → HintGives long bytes r
hint_gives long size bytes h r size_is h_is passes gives = by_cases r (subst (λ (x : Head). EntriesGive bytes x r) h_is gives)
  where
    head_passes : by_head long (length bytes) (head_of bytes) ≡ true
    head_passes = ap (λ (n : ℕ). by_head long n (head_of bytes)) (sym size_is) ∙ ap (λ (x : Head). by_head long size x) (sym h_is) ∙ passes

    believed : is_believed long bytes ≡ by_entries bytes (head_of bytes)
    believed = believed_is long bytes ∙ ap (λ (b : Bool). b && by_entries bytes (head_of bytes)) head_passes

    by_cases : (x : Option Opened) → EntriesGive bytes (head_of bytes) x → HintGives long bytes x
    by_cases None is = believed ∙ is
    by_cases (Some x) is = (believed ∙ is.0, has_entries bytes x is.1)

pub ok_gives : (r : Result (Option Opened) OpenError) (P Q : Option Opened → Type 0) → ((x : Option Opened) → P x → Q x) → IfOk r P → IfOk r Q
ok_gives (Ok x) P Q more is = more x is
ok_gives (Err e) P Q more is = is
