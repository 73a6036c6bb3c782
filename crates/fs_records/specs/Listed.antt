-- What bytes stand for, as a function of the bytes alone.
use Rattle.std.proofs.Common.{◌≡◌, ◌⊎◌, ℕ, zero, suc, ◌^◌, ◌<◌, ◌≤◌, Bool, true, List, [], ◌∷◌, ◌++◌, length, take, drop, Option, Some, None, inl, inr, refl, sym, ap, subst, ◌∙◌, arith}
use Rattle.std.specs.Prelude.{nat_lt, ◌&&◌}
use Rattle.std.specs.List.{list_all}
use Rattle.std.specs.Option.{option_map_or}
use Rattle.std.specs.Str.{bytes_eq}
use Rattle.std.proofs.Props.{props}
use Rattle.std.proofs.lemmas.Bool.{ltb-true, lt-ltb, and_parts, and_from, cases_Bool, both_ways}
use Rattle.std.proofs.lemmas.List.{length-append, length-take, take_at}
use Rattle.std.proofs.lemmas.Slice.Eq.{bytes_eq-Decides}
use Rattle.zb_model.specs.declared.data.Content.{Content}
use Rattle.zb_model.specs.declared.data.Transaction.{Transaction}
use Rattle.fs_index.specs.declared.place.Place.{Place}
use Rattle.zb_base.specs.Bytes.{AreBytes}
use Rattle.fs_records.specs.Blocks.{Reached, file_start, magic, Begins, blocks_text}
use Rattle.fs_records.specs.File.{IsReadAs, StandsFor, no_bytes, a_file}
use Rattle.fs_index.specs.Places.{Kept}
use Rattle.fs_records.specs.Indexed.{IsIndexOf}
use Rattle.fs_records.specs.Always.{FileOr, file_or_damage}
use Rattle.fs_records.specs.Unique.{one_list, never_both}

-- ---- whether bytes may be read

-- each number is a byte, there are fewer than 2^64, and the first four are `FS30`
record CanBeRead (bytes : List ℕ) : Type 0 where
  fits : AreBytes bytes
  short : length bytes < 2 ^ 64
  long : 4 ≤ length bytes
  begin : take 4 bytes ≡ magic

is_byte : ℕ → Bool
is_byte n = nat_lt n 256

bytes_fit : (bytes : List ℕ) → list_all is_byte bytes ≡ true → AreBytes bytes
unfolding is_byte
bytes_fit [] all i = omega arith
bytes_fit (x ∷ xs) all zero = ltb-true x 256 (and_parts (is_byte x) (list_all is_byte xs) all).0
bytes_fit (x ∷ xs) all (suc i) = bytes_fit xs (and_parts (is_byte x) (list_all is_byte xs) all).1 i

fit_bytes : (bytes : List ℕ) → AreBytes bytes → list_all is_byte bytes ≡ true
unfolding is_byte
fit_bytes [] fits = refl
fit_bytes (x ∷ xs) fits = and_from (is_byte x) (list_all is_byte xs) (lt-ltb x 256 (fits 0)) (fit_bytes xs (λ i. fits (suc i)))

-- whether all of it holds
passes : List ℕ → Bool
passes bytes = list_all is_byte bytes && (nat_lt (length bytes) (2 ^ 64) && bytes_eq (take 4 bytes) magic)

does_read : (bytes : List ℕ) → passes bytes ≡ true → CanBeRead bytes
unfolding passes
does_read bytes is =
    let a = and_parts (list_all is_byte bytes) (nat_lt (length bytes) (2 ^ 64) && bytes_eq (take 4 bytes) magic) is in
    let b = and_parts (nat_lt (length bytes) (2 ^ 64)) (bytes_eq (take 4 bytes) magic) a.1 in
    let begin : take 4 bytes ≡ magic = (bytes_eq-Decides (take 4 bytes) magic).0 b.1 in
    record {
      fits = bytes_fit bytes a.0;
      short = ltb-true (length bytes) (2 ^ 64) b.0;
      long = omega (arith, length-take 4 bytes, ap length begin);
      begin = begin;
    }

read_passes : (bytes : List ℕ) → CanBeRead bytes → passes bytes ≡ true
unfolding passes
read_passes bytes can =
    and_from (list_all is_byte bytes) (nat_lt (length bytes) (2 ^ 64) && bytes_eq (take 4 bytes) magic) (fit_bytes bytes can.fits)
    (and_from (nat_lt (length bytes) (2 ^ 64)) (bytes_eq (take 4 bytes) magic) (lt-ltb (length bytes) (2 ^ 64) can.short) ((bytes_eq-Decides (take 4 bytes) magic).1 can.begin))

can_be_read : (bytes : List ℕ) → CanBeRead bytes ⊎ (CanBeRead bytes → ⊥)
can_be_read bytes =
    elim (cases_Bool (passes bytes)) [
      | inl is ↦ inl (does_read bytes is)
      | inr isnt ↦ inr (λ can. both_ways (passes bytes) isnt (read_passes bytes can))
    ]

-- ---- the reading

reading_or : (bytes : List ℕ) → FileOr bytes → Option (Reached × Option ℕ)
reading_or bytes (inl file) = Some (file.0, file.1)
reading_or bytes (inr damaged) = None

reading_by : (bytes : List ℕ) → CanBeRead bytes ⊎ (CanBeRead bytes → ⊥) → Option (Reached × Option ℕ)
reading_by bytes (inl can) = reading_or bytes (file_or_damage bytes can.fits can.short can.long can.begin)
reading_by bytes (inr not) = None

-- What is read of bytes, with the place where a tail is cut off: what they stand for as a file, where they do and are bytes, fewer than 2^64; else nothing.
pub reading_in : List ℕ → Option (Reached × Option ℕ)
reading_in bytes = reading_by bytes (can_be_read bytes)

-- the list that bytes stand for, or the empty list
abbrev pub listed : List ℕ → List Transaction
listed bytes = option_map_or (λ r. r.0.list) (reading_in bytes) []

-- what is read of them, or what is read of `FS30` alone
abbrev pub reached_in : List ℕ → Reached
reached_in bytes = option_map_or (λ r. r.0) (reading_in bytes) file_start

-- where a tail is cut off
abbrev pub cut_in : List ℕ → Option ℕ
cut_in bytes = option_map_or (λ r. r.1) (reading_in bytes) None

-- where fewer than 2^64 bytes stand for what was reached, it is what is read of them
abbrev pub ReadingIs : Type 0
ReadingIs = (bytes : List ℕ) (s : Reached) (cut : Option ℕ) → AreBytes bytes → length bytes < 2 ^ 64 → IsReadAs bytes s cut → reading_in bytes ≡ Some (s, cut)

-- they stand for what is read of them
abbrev pub ReadingStands : Type 0
ReadingStands = (bytes : List ℕ) (s : Reached) (cut : Option ℕ) → reading_in bytes ≡ Some (s, cut) → IsReadAs bytes s cut

-- ---- there is one

can_read : (bytes : List ℕ) (s : Reached) → AreBytes bytes → length bytes < 2 ^ 64 → Begins bytes s → CanBeRead bytes
can_read bytes s fits short begins =
    let rest : List ℕ = blocks_text file_start begins.blocks ++ drop s.end bytes in
    record {
      fits = fits;
      short = short;
      long = omega (arith, ap length begins.parts, length-append magic rest);
      begin = ap (take 4) begins.parts ∙ take_at magic rest 4 refl;
    }

or_is : (bytes : List ℕ) (s : Reached) (cut : Option ℕ) (file : FileOr bytes) → IsReadAs bytes s cut → reading_or bytes file ≡ Some (s, cut)
unfolding reading_or
or_is bytes s cut (inl file) stands =
    let same = one_list bytes file.0 s file.1 cut file.2 stands in
    ap (λ (r : Reached). Some (r, file.1)) same.0 ∙ ap (λ (c : Option ℕ). Some (s, c)) same.1
or_is bytes s cut (inr damaged) stands = absurd (never_both bytes s cut damaged.0 damaged.1 stands damaged.2)

by_is : (bytes : List ℕ) (s : Reached) (cut : Option ℕ) (can : CanBeRead bytes ⊎ (CanBeRead bytes → ⊥)) → CanBeRead bytes → IsReadAs bytes s cut → reading_by bytes can ≡ Some (s, cut)
unfolding reading_by
by_is bytes s cut (inl can) does stands = or_is bytes s cut (file_or_damage bytes can.fits can.short can.long can.begin) stands
by_is bytes s cut (inr not) does stands = absurd (not does)

pub reading_is : (bytes : List ℕ) (s : Reached) (cut : Option ℕ) → AreBytes bytes → length bytes < 2 ^ 64 → IsReadAs bytes s cut → reading_in bytes ≡ Some (s, cut)
unfolding reading_in
reading_is bytes s cut fits short stands = by_is bytes s cut (can_be_read bytes) (can_read bytes s fits short stands.begins) stands

or_stands : (bytes : List ℕ) (s : Reached) (cut : Option ℕ) (file : FileOr bytes) → reading_or bytes file ≡ Some (s, cut) → IsReadAs bytes s cut
unfolding reading_or
or_stands bytes s cut (inl file) is =
    let R : Type 0 = Reached × Option ℕ in
    let same : ◌≡◌ {A = R} (file.0, file.1) (s, cut) = cc in
    subst (λ (r : R). IsReadAs bytes r.0 r.1) same file.2
or_stands bytes s cut (inr damaged) is = absurd cc

by_stands : (bytes : List ℕ) (s : Reached) (cut : Option ℕ) (can : CanBeRead bytes ⊎ (CanBeRead bytes → ⊥)) → reading_by bytes can ≡ Some (s, cut) → IsReadAs bytes s cut
unfolding reading_by
by_stands bytes s cut (inl can) is = or_stands bytes s cut (file_or_damage bytes can.fits can.short can.long can.begin) is
by_stands bytes s cut (inr not) is = absurd cc

pub reading_stands : (bytes : List ℕ) (s : Reached) (cut : Option ℕ) → reading_in bytes ≡ Some (s, cut) → IsReadAs bytes s cut
unfolding reading_in
reading_stands bytes s cut is = by_stands bytes s cut (can_be_read bytes) is

-- no bytes at all are no file
no_reading : (o : Option (Reached × Option ℕ)) → reading_in [] ≡ o → o ≡ None
no_reading None is = refl
no_reading (Some r) is = let begins = (reading_stands [] r.0 r.1 is).begins in absurd (cc (begins.parts))

-- the list and the place where a tail is cut off are those that bytes stand for, no bytes too
pub listed_is : (bytes : List ℕ) (list : List Transaction) (cut : Option ℕ) → AreBytes bytes → length bytes < 2 ^ 64 → StandsFor bytes list cut → (listed bytes ≡ list) × (cut_in bytes ≡ cut)
listed_is bytes list cut fits short (no_bytes none l c) =
    let here : reading_in bytes ≡ None = ap reading_in none ∙ no_reading (reading_in []) refl in
    (ap (λ (o : Option (Reached × Option ℕ)). option_map_or (λ r. r.0.list) o []) here ∙ sym l, ap (λ (o : Option (Reached × Option ℕ)). option_map_or (λ r. r.1) o None) here ∙ sym c)
listed_is bytes list cut fits short (a_file s stands l) =
    let here = reading_is bytes s cut fits short stands in
    (ap (λ (o : Option (Reached × Option ℕ)). option_map_or (λ r. r.0.list) o []) here ∙ sym l, ap (λ (o : Option (Reached × Option ℕ)). option_map_or (λ r. r.1) o None) here)

pub reached_is : (bytes : List ℕ) (s : Reached) (cut : Option ℕ) → AreBytes bytes → length bytes < 2 ^ 64 → IsReadAs bytes s cut → reached_in bytes ≡ s
reached_is bytes s cut fits short stands = ap (λ (o : Option (Reached × Option ℕ)). option_map_or (λ r. r.0) o file_start) (reading_is bytes s cut fits short stands)

-- ---- facts that hold in one way, so that a type can keep them

pub content_set : IsSet Content
content_set = hlevel props

pub transactions_set : IsSet (List Transaction)
transactions_set = hlevel (content_set, props)

pub places_set : IsSet (List Place)
places_set = hlevel props

pub reached_set : IsSet Reached
reached_set = hlevel (content_set, props)

pub IsIndexOf-prop : (s : Reached) (kept : Kept) → IsProp (IsIndexOf s kept)
IsIndexOf-prop s kept = hlevel props
