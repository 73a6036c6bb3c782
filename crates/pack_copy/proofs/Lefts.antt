-- What is left of a transaction by an index is what a pack leaves of it.
use Rattle.std.proofs.Common.{◌≡◌, ℕ, ◌+◌, Bool, true, false, cond, eqb, List, [], ◌∷◌, map, filter, Option, Some, None, refl, sym, ap, subst, ◌∙◌}
use Rattle.std.specs.Prelude.{◌&&◌, is_some, nat_eq, nat_le, option_map}
use Rattle.std.specs.List.{IsDistinct, AllByRecursion}
use Rattle.std.specs.Option.{option_map_or}
use Rattle.std.specs.Ordering.{nat_cmp}
use Rattle.std.specs.FinSet.{FinSet, contains}
use Rattle.std.proofs.lemmas.List.Elements.{All-filter}
use Rattle.zb_model.specs.declared.data.Change.{Change}
use Rattle.zb_model.specs.declared.data.Transaction.{Transaction}
use Rattle.zb_model.specs.Database.{ObjectRevision}
use Rattle.zb_model.specs.Packing.{is_held, packed_form, packed_one, serial_up_to, stays}
use Rattle.fs_index.specs.declared.place.Place.{Place}
use Rattle.fs_records.specs.Blocks.{Reached, Begins}
use Rattle.fs_records.specs.Listed.{listed, reached_in, reading_stands}
use Rattle.fs_records.specs.Lookups.{RevisionRead, revision_read}
use Rattle.fs_index.specs.Places.{Kept, PlacesKept, places_in, last_below}
use Rattle.fs_records.specs.Indexed.{places_of}
use Rattle.fs_reading.specs.declared.outline.Source.{Source}
use Rattle.fs_reading.specs.declared.outline.OutlinedChange.{OutlinedChange}
use Rattle.fs_reading.specs.declared.outline.Outline.{Outline}
use Rattle.fs_reading.specs.Outlines.{AllStandWithin, AreOutlined, HasLength, StandsWithin, outlined_change, outlined_content, outlined_transaction}
use Rattle.pack_copy.specs.Copying.{IsSource}
use Rattle.pack_copy.specs.Filtering.{left_by, left_in, outlined_form, serial_among, stays_by, stays_in}

-- ---- what Main stands for

-- its list is what was read
pub source_list : (bytes : List ℕ) (from : Kept) → IsSource bytes from → listed bytes ≡ (reached_in bytes).list
source_list bytes from is = ap (λ (o : Option (Reached × Option ℕ)). option_map_or (λ r. r.0.list) o []) is.reading

pub source_begins : (bytes : List ℕ) (from : Kept) → IsSource bytes from → Begins bytes (reached_in bytes)
source_begins bytes from is = (reading_stands bytes (reached_in bytes) is.cut is.reading).begins

-- ---- the last change up to a tid

serial_by : (s : Reached) (t oid : ℕ) (o : Option Place) → RevisionRead s oid (t + 1) o → option_map_or (λ (p : Place). p.serial) o 0 ≡ serial_up_to t oid s.list
serial_by s t oid None read = sym (ap (λ (o : Option ObjectRevision). option_map_or (λ (r : ObjectRevision). r.serial) o 0) read)
serial_by s t oid (Some p) read = sym (ap (λ (o : Option ObjectRevision). option_map_or (λ (r : ObjectRevision). r.serial) o 0) read.1)

serial_is : (bytes : List ℕ) (from : Kept) (t oid : ℕ) → IsSource bytes from → serial_among t (places_in from.entries oid) ≡ serial_up_to t oid (listed bytes)
serial_is bytes from t oid is =
    let s : Reached = reached_in bytes in
    ap (serial_among t) (is.index.records oid)
    ∙ serial_by s t oid (last_below (t + 1) (places_of oid s.known)) (revision_read bytes s oid (t + 1) (source_begins bytes from is))
    ∙ ap (λ (l : List Transaction). serial_up_to t oid l) (sym (source_list bytes from is))

-- ---- what is left

filter_same : (p q : Change → Bool) (cs : List Change) → ((c : Change) → p c ≡ q c) → filter p cs ≡ filter q cs
filter_same p q [] same = refl
filter_same p q (c ∷ cs) same = ap (λ (b : Bool). cond b (c ∷ filter p cs) (filter p cs)) (same c) ∙ ap (λ (xs : List Change). cond (q c) (c ∷ xs) xs) (filter_same p q cs same)

pub left_is : (bytes : List ℕ) (from : Kept) (t : ℕ) (keep : FinSet nat_cmp) (x : Transaction) → IsSource bytes from → left_by t keep from.entries x ≡ packed_one t keep (listed bytes) x
left_is bytes from t keep x is =
    ap (λ (cs : List Change). cond (nat_le x.tid t) (packed_form x cs) (Some x))
    (filter_same (stays_by t keep from.entries x.tid) (stays t keep (listed bytes) x.tid) x.changes
    (λ c. ap (λ (n : ℕ). is_held c.content && contains keep c.oid && eqb n x.tid) (serial_is bytes from t c.oid is)))

-- ---- the same of an outline

held_is : (bytes : List ℕ) (source : Option Source) → is_held (outlined_content bytes source) ≡ is_some source
held_is bytes None = refl
held_is bytes (Some s) = refl

filter_outlined : (bytes : List ℕ) (p : OutlinedChange → Bool) (q : Change → Bool) (cs : List OutlinedChange) → ((c : OutlinedChange) → q (outlined_change bytes c) ≡ p c) → filter q (map (outlined_change bytes) cs) ≡ map (outlined_change bytes) (filter p cs)
filter_outlined bytes p q [] same = refl
filter_outlined bytes p q (c ∷ cs) same =
    ap (λ (b : Bool). cond b (outlined_change bytes c ∷ filter q (map (outlined_change bytes) cs)) (filter q (map (outlined_change bytes) cs))) (same c) ∙ by_cases (p c) (filter_outlined bytes p q cs same)
  where
    by_cases : (b : Bool) → filter q (map (outlined_change bytes) cs) ≡ map (outlined_change bytes) (filter p cs)
        → cond b (outlined_change bytes c ∷ filter q (map (outlined_change bytes) cs)) (filter q (map (outlined_change bytes) cs)) ≡ map (outlined_change bytes) (cond b (c ∷ filter p cs) (filter p cs))
    by_cases true rest = ap (λ (xs : List Change). outlined_change bytes c ∷ xs) rest
    by_cases false rest = rest

form_outlined : (bytes : List ℕ) (o : Outline) (cs : List OutlinedChange) → packed_form (outlined_transaction bytes o) (map (outlined_change bytes) cs) ≡ option_map (outlined_transaction bytes) (outlined_form o cs)
form_outlined bytes o [] = refl
form_outlined bytes o (c ∷ cs) = refl

left_outlined : (bytes : List ℕ) (t : ℕ) (keep : FinSet nat_cmp) (entries : List (ℕ × PlacesKept)) (o : Outline) → left_by t keep entries (outlined_transaction bytes o) ≡ option_map (outlined_transaction bytes) (left_in t keep entries o)
left_outlined bytes t keep entries o =
    let x = outlined_transaction bytes o in
    ap (λ (cs : List Change). cond (nat_le o.tid t) (packed_form x cs) (Some x))
    (filter_outlined bytes (stays_in t keep entries o.tid) (stays_by t keep entries o.tid) o.changes
    (λ c. ap (λ (b : Bool). b && contains keep c.oid && eqb (serial_among t (places_in entries c.oid)) o.tid) (held_is bytes c.source)))
    ∙ by_cases (nat_le o.tid t)
  where
    left : List OutlinedChange
    left = filter (stays_in t keep entries o.tid) o.changes

    by_cases : (b : Bool) → cond b (packed_form (outlined_transaction bytes o) (map (outlined_change bytes) left)) (Some (outlined_transaction bytes o)) ≡ option_map (outlined_transaction bytes) (cond b (outlined_form o left) (Some o))
    by_cases true = form_outlined bytes o left
    by_cases false = refl

pub left_some : (bytes : List ℕ) (t : ℕ) (keep : FinSet nat_cmp) (entries : List (ℕ × PlacesKept)) (o left : Outline) → left_in t keep entries o ≡ Some left → left_by t keep entries (outlined_transaction bytes o) ≡ Some (outlined_transaction bytes left)
left_some bytes t keep entries o left is = left_outlined bytes t keep entries o ∙ ap (option_map (outlined_transaction bytes)) is

pub left_none : (bytes : List ℕ) (t : ℕ) (keep : FinSet nat_cmp) (entries : List (ℕ × PlacesKept)) (o : Outline) → left_in t keep entries o ≡ None → left_by t keep entries (outlined_transaction bytes o) ≡ None
left_none bytes t keep entries o is = left_outlined bytes t keep entries o ∙ ap (option_map (outlined_transaction bytes)) is

-- its contents stand where they stood
form_changes : (o left : Outline) (cs : List OutlinedChange) → outlined_form o cs ≡ Some left → left.changes ≡ cs
form_changes o left [] is = absurd cc
form_changes o left (c ∷ cs) is = let same : record o { packed = true; changes = c ∷ cs } ≡ left = cc in ap (λ (x : Outline). x.changes) (sym same)

pub left_within : (bytes : List ℕ) (t : ℕ) (keep : FinSet nat_cmp) (entries : List (ℕ × PlacesKept)) (o left : Outline) → left_in t keep entries o ≡ Some left → AllStandWithin bytes o.changes → AllStandWithin bytes left.changes
left_within bytes t keep entries o left is within = by_cases (nat_le o.tid t) is
  where
    those : List OutlinedChange
    those = filter (stays_in t keep entries o.tid) o.changes

    by_cases : (b : Bool) → cond b (outlined_form o those) (Some o) ≡ Some left → AllStandWithin bytes left.changes
    by_cases true e =
        subst (λ (cs : List OutlinedChange). AllStandWithin bytes cs) (sym (form_changes o left those e)) (All-filter (stays_in t keep entries o.tid) (λ (c : OutlinedChange). StandsWithin bytes c.source) o.changes within)
    by_cases false e = let same : o ≡ left = cc in subst (λ (x : Outline). AllStandWithin bytes x.changes) same within

-- ---- it is formed as it was

all_apart : (n : ℕ) (p : OutlinedChange → Bool) (cs : List OutlinedChange) → AllByRecursion (λ (m : ℕ). nat_eq n m ≡ false) (map (λ (c : OutlinedChange). c.oid) cs) → AllByRecursion (λ (m : ℕ). nat_eq n m ≡ false) (map (λ (c : OutlinedChange). c.oid) (filter p cs))
all_apart n p [] all = tt
all_apart n p (c ∷ cs) all = by_cases (p c) (all_apart n p cs all.1)
  where
    by_cases : (b : Bool) → AllByRecursion (λ (m : ℕ). nat_eq n m ≡ false) (map (λ (c : OutlinedChange). c.oid) (filter p cs))
        → AllByRecursion (λ (m : ℕ). nat_eq n m ≡ false) (map (λ (c : OutlinedChange). c.oid) (cond b (c ∷ filter p cs) (filter p cs)))
    by_cases true rest = (all.0, rest)
    by_cases false rest = rest

distinct_left : (p : OutlinedChange → Bool) (cs : List OutlinedChange) → IsDistinct nat_eq (map (λ (c : OutlinedChange). c.oid) cs) → IsDistinct nat_eq (map (λ (c : OutlinedChange). c.oid) (filter p cs))
unfolding IsDistinct
distinct_left p [] distinct = tt
distinct_left p (c ∷ cs) distinct = by_cases (p c) (distinct_left p cs distinct.1)
  where
    by_cases : (b : Bool) → IsDistinct nat_eq (map (λ (c : OutlinedChange). c.oid) (filter p cs)) → IsDistinct nat_eq (map (λ (c : OutlinedChange). c.oid) (cond b (c ∷ filter p cs) (filter p cs)))
    by_cases true rest = (all_apart c.oid p cs distinct.0, rest)
    by_cases false rest = rest

pub left_formed : (p : OutlinedChange → Bool) (cs left : List OutlinedChange) → AreOutlined cs → left ≡ filter p cs → AreOutlined left
left_formed p cs left formed is =
    subst (λ (xs : List OutlinedChange). AreOutlined xs) (sym is) (record { distinct = distinct_left p cs formed.distinct; filled = All-filter p (λ (c : OutlinedChange). HasLength c.source) cs formed.filled })
