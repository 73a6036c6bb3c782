-- What an index looks up is what the list says: an object's revision below a front, its last one, and its next one.
use Rattle.std.proofs.Common.{◌≡◌, ℕ, ◌+◌, ◌<◌, Bool, true, false, cond, eqb, ltb, leb, List, [], ◌∷◌, ◌++◌, length, get_or, map, filter, All, Option, Some, None, IfSome, refl, sym, ap, subst, ◌∙◌, le_refl, arith}
use Rattle.std.specs.Prelude.{nat_eq, nat_lt, nat_le, option_map, ◌&&◌}
use Rattle.std.specs.List.{find, last_or, cons_option}
use Rattle.std.specs.Option.{option_map_or, option_or}
use Rattle.std.specs.Map.{lookup}
use Rattle.std.proofs.lemmas.Bool.{eqb-true, eqb-false, ne_eqb, eq-eqb, lt-ltb, and_from, and_right, and_parts, or_left, or_right, cond-true, cond-false}
use Rattle.std.proofs.lemmas.List.{map-append, length-append}
use Rattle.std.proofs.lemmas.List.Folds.{find-append}
use Rattle.std.proofs.lemmas.List.Elements.{All-nil, All-cons, All-head, All-tail, All-push, All-weaker, All-map, All-filter, filter_passes, filter-append, filter_map-append}
use Rattle.indexmap.specs.IndexMap.{insert_entry}
use Rattle.zb_model.specs.declared.data.Content.{Content}
use Rattle.zb_model.specs.declared.data.Change.{Change}
use Rattle.zb_model.specs.declared.data.Transaction.{Transaction}
use Rattle.zb_model.specs.Database.{ObjectRevision, change_in, revision_in, revisions, revision_below, serial_of}
use Rattle.zb_model.specs.Queries.{is_from, end_of}
use Rattle.fs_index.specs.declared.place.Place.{Place}
use Rattle.fs_records.specs.Blocks.{Known, Written, is_at, is_known, content_at, content_of, known_at, with_record, with_records, record_text, records_text, changes_of, Reached, file_start, transaction_of, records_from, length_of, after_block, Block, IsBlock, AreBlocks, after_blocks, Begins}
use Rattle.fs_index.specs.Places.{Kept, IsBefore, AreBefore, last_below}
use Rattle.fs_records.specs.Indexed.{IsIndexOf, place_of, is_of, is_of_below, places_of, record_below, revision_of}
use Rattle.fs_records.specs.Below.{last_below_is}
use Rattle.fs_records.specs.RecordLaws.{length-record_text}
use Rattle.fs_records.specs.Revisions.{change_is, none_twice, revises_of}

-- ---- what is looked up

-- Where no place below the front is kept there is no revision; else a record of the object was read at the last one, and its content and serial are the last revision's.
abbrev pub RevisionRead : Reached → ℕ → ℕ → Option Place → Type 0
RevisionRead s oid front None = revision_below oid front s.list ≡ None
RevisionRead s oid front (Some p) = (is_known s.known oid p.at ≡ true) × (revision_below oid front s.list ≡ Some (record { serial = p.serial; content = content_at s.known oid p.at }))

-- the last place of an object below a front is that of its last revision there
abbrev pub RevisionsAreRead : Type 0
RevisionsAreRead = (bytes : List ℕ) (s : Reached) (oid front : ℕ) → Begins bytes s → RevisionRead s oid front (last_below front (places_of oid s.known))

-- the last place of an object has the serial of its last revision, 0 where there is none
abbrev pub SerialsAreRead : Type 0
SerialsAreRead = (bytes : List ℕ) (s : Reached) (oid : ℕ) → Begins bytes s → option_map_or (λ p. p.serial) (last_or None (places_of oid s.known)) 0 ≡ serial_of oid s.list

-- the first place of an object that isn't below a front has the serial of its next revision
abbrev pub NextOnesAreRead : Type 0
NextOnesAreRead = (bytes : List ℕ) (s : Reached) (oid front : ℕ) → Begins bytes s → option_map (λ p. p.serial) (find (λ p. nat_le front p.serial) (places_of oid s.known)) ≡ end_of oid front s.list

-- ---- places rise

-- a record is of no later transaction than this, and stands before this place
abbrev IsKnownBefore : ℕ → ℕ → Known → Type 0
IsKnownBefore tid at k = IsBefore tid at (place_of k)

-- each record stands behind those before it
abbrev pub AreApart : List Known → Type 0
AreApart [] = Unit {0}
AreApart (k ∷ ks) = All (λ (x : Known). k.place < x.place) ks × AreApart ks

apart_more : (ks : List Known) (k : Known) → AreApart ks → All (λ (x : Known). x.place < k.place) ks → AreApart (ks ++ k ∷ [])
apart_more [] k apart before = (All-nil (λ (y : Known). k.place < y.place), tt)
apart_more (x ∷ ks) k apart before =
    let Before : Known → Type 0 = λ (y : Known). y.place < k.place in
    (All-push (λ (y : Known). x.place < y.place) ks k apart.0 (All-head Before x ks before), apart_more ks k apart.1 (All-tail Before x ks before))

-- these records stand one behind another, before this place, and none is of a later transaction
pub record ArePlaced (known : List Known) (tid at : ℕ) : Type 0 where
  pub apart : AreApart known
  pub before : All (λ k. IsBefore tid at (place_of k)) known

-- all that was read stands before the end
pub record AreBeforeEnd (s : Reached) : Type 0 where
  pub records : ArePlaced s.known s.newest s.end
  pub starts : All (IsBefore s.newest s.end) s.starts

placed_records : (known : List Known) (place tid q : ℕ) (rs : List Written) → ArePlaced known tid q → ArePlaced (with_records known place tid q rs) tid (q + length (records_text place tid rs))
placed_records known place tid q [] h = let same : q ≡ q + 0 = omega arith in subst (λ (n : ℕ). ArePlaced known tid n) same h
placed_records known place tid q (r ∷ rs) h =
    let next : ℕ = q + length (record_text place tid r) in
    let some = length-record_text place tid r in
    let more : ArePlaced (with_record known tid q r) tid next = record {
      apart = apart_more known (known_at known tid q r) h.apart (All-weaker (IsKnownBefore tid q) (λ (x : Known). x.place < q) (λ x b. b.1) known h.before);
      before = All-push (IsKnownBefore tid next) known (known_at known tid q r) (All-weaker (IsKnownBefore tid q) (IsKnownBefore tid next) (λ x b. (b.0, omega arith)) known h.before) (le_refl tid, omega arith);
    } in
    let to_is : next + length (records_text place tid rs) ≡ q + length (records_text place tid (r ∷ rs)) = omega (arith, length-append (record_text place tid r) (records_text place tid rs)) in
    subst (λ (n : ℕ). ArePlaced (with_records known place tid q (r ∷ rs)) tid n) to_is (placed_records (with_record known tid q r) place tid next rs more)

placed_more : (s : Reached) (b : Block) → AreBeforeEnd s → IsBlock s b → AreBeforeEnd (after_block s b)
unfolding after_block
placed_more s b h block =
    let from : ℕ = records_from s.end b in
    let to : ℕ = from + length (records_text s.end b.tid b.records) in
    let end : ℕ = s.end + (length_of s.end b + 8) in
    let above : s.newest < b.tid = block.above in
    let here : ArePlaced s.known b.tid from = record {
      apart = h.records.apart;
      before = All-weaker (IsKnownBefore s.newest s.end) (IsKnownBefore b.tid from) (λ x w. (omega arith, omega arith)) s.known h.records.before;
    } in
    let there = placed_records s.known s.end b.tid from b.records here in
    record {
      records = record {
        apart = there.apart;
        before = All-weaker (IsKnownBefore b.tid to) (IsKnownBefore b.tid end) (λ x w. (w.0, omega arith)) _ there.before;
      };
      starts = All-push (IsBefore b.tid end) s.starts (record { serial = b.tid; at = s.end }) (All-weaker (IsBefore s.newest s.end) (IsBefore b.tid end) (λ x w. (omega arith, omega arith)) s.starts h.starts) (le_refl b.tid, omega arith);
    }

placed_all : (s : Reached) (bs : List Block) → AreBeforeEnd s → AreBlocks s bs → AreBeforeEnd (after_blocks s bs)
placed_all s [] h are = h
placed_all s (b ∷ bs) h are = placed_all (after_block s b) bs (placed_more s b h are.0) are.1

-- all records and transactions of what bytes begin as stand in order
pub are_before_end : (bytes : List ℕ) (s : Reached) → Begins bytes s → AreBeforeEnd s
are_before_end bytes s begins =
    let first : AreBeforeEnd file_start = record { records = record { apart = tt; before = All-nil (IsKnownBefore 0 4) }; starts = All-nil (IsBefore 0 4) } in
    subst (λ (r : Reached). AreBeforeEnd r) (sym begins.is) (placed_all file_start begins.blocks first begins.are)

-- so do the places that an index keeps
pub places_before : (bytes : List ℕ) (s : Reached) → Begins bytes s → (kept : Kept) → IsIndexOf s kept → AreBefore kept.entries s.newest s.end × All (IsBefore s.newest s.end) kept.transactions
places_before bytes s begins kept index =
    let all = are_before_end bytes s begins in
    let P : Place → Type 0 = IsBefore s.newest s.end in (
      (λ oid.
          let of_object : All P (places_of oid s.known) = All-map P place_of (filter (is_of oid) s.known) (All-filter (is_of oid) (IsKnownBefore s.newest s.end) s.known all.records.before) in
          subst (λ (ps : List Place). All P ps) (sym (index.records oid)) of_object),
      subst (λ (ps : List Place). All P ps) (sym index.transactions) all.starts,
    )

-- ---- a record's content

-- what is known of the place of a record is its own content
abbrev pub IsOwn : List Known → Known → Type 0
IsOwn known k = (is_known known k.oid k.place ≡ true) × (content_at known k.oid k.place ≡ k.content)

at_itself : (k : Known) → is_at k.oid k.place k ≡ true
at_itself k = and_from (eqb k.oid k.oid) (eqb k.place k.place) (eq-eqb k.oid k.oid refl) (eq-eqb k.place k.place refl)

own_first : (k : Known) (ks : List Known) → IsOwn (k ∷ ks) k
own_first k ks = (or_left (is_at k.oid k.place k) (is_known ks k.oid k.place) (at_itself k), cond-true (is_at k.oid k.place k) k.content (content_at ks k.oid k.place) (at_itself k))

own_behind : (k x : Known) (ks : List Known) → k.place < x.place → IsOwn ks x → IsOwn (k ∷ ks) x
own_behind k x ks before own =
    let other : is_at x.oid x.place k ≡ false = and_right (eqb x.oid k.oid) (eqb k.place x.place) (ne_eqb k.place x.place (λ same. omega arith)) in
    (or_right (is_at x.oid x.place k) (is_known ks x.oid x.place) own.0, cond-false (is_at x.oid x.place k) k.content (content_at ks x.oid x.place) other ∙ own.1)

pub own_content : (known : List Known) → AreApart known → All (IsOwn known) known
own_content [] apart = All-nil (IsOwn [])
own_content (k ∷ ks) apart =
    All-cons (IsOwn (k ∷ ks)) k ks (own_first k ks) (λ i d within. own_behind k (get_or ks i d) ks (apart.0 i d within) (own_content ks apart.1 i d within))

last_holds : {A : Type 0} (P : A → Type 0) (o : Option A) (xs : List A) (x : A) → last_or o xs ≡ Some x → IfSome o P → All P xs → P x
last_holds P None [] x is some all = absurd cc
last_holds P (Some y) [] x is some all = let same : y ≡ x = cc in subst P same some
last_holds P o (y ∷ ys) x is some all = last_holds P (Some y) ys x is (All-head P y ys all) (All-tail P y ys all)

own_below : (oid front : ℕ) (known : List Known) (k : Known) → AreApart known → record_below oid front known ≡ Some k → (is_known known oid k.place ≡ true) × (content_at known oid k.place ≡ k.content)
own_below oid front known k apart is =
    let P : Known → Type 0 = λ (x : Known). IsOwn known x × (is_of_below oid front x ≡ true) in
    let own = All-filter (is_of_below oid front) (IsOwn known) known (own_content known apart) in
    let all : All P (filter (is_of_below oid front) known) = λ i d within. (own i d within, filter_passes (is_of_below oid front) known i d within) in
    let here : P k = last_holds P None (filter (is_of_below oid front) known) k is tt all in
    let same : k.oid ≡ oid = sym (eqb-true oid k.oid (and_parts (eqb oid k.oid) (ltb k.tid front) here.1).0) in
    subst (λ (o : ℕ). (is_known known o k.place ≡ true) × (content_at known o k.place ≡ k.content)) same here.0

-- ---- the revision below a front

read_by : (s : Reached) (oid front : ℕ) (o : Option Known) → record_below oid front s.known ≡ o → option_map revision_of o ≡ revision_below oid front s.list → AreApart s.known → RevisionRead s oid front (option_map place_of o)
read_by s oid front None is revision apart = sym revision
read_by s oid front (Some k) is revision apart =
    let own = own_below oid front s.known k apart is in
    (own.0, sym revision ∙ ap (λ (c : Content). Some (record { serial = k.tid; content = c })) (sym own.1))

pub revision_read : (bytes : List ℕ) (s : Reached) (oid front : ℕ) → Begins bytes s → RevisionRead s oid front (last_below front (places_of oid s.known))
revision_read bytes s oid front begins =
    let read = read_by s oid front (record_below oid front s.known) refl (revises_of bytes s begins oid front) (are_before_end bytes s begins).records.apart in
    subst (λ (o : Option Place). RevisionRead s oid front o) (sym (last_below_is oid front s.known)) read

-- ---- the last serial

-- a number that all of these are up to
abbrev total : {A : Type 0} → (A → ℕ) → List A → ℕ
total f [] = 0
total f (x ∷ xs) = f x + total f xs

all_below : {A : Type 0} (f : A → ℕ) (front : ℕ) (xs : List A) → total f xs < front → filter (λ x. nat_lt (f x) front) xs ≡ xs
all_below f front [] low = refl
all_below f front (x ∷ xs) low =
    let here : ltb (f x) front ≡ true = lt-ltb (f x) front (omega arith) in
    cond-true (ltb (f x) front) _ _ here ∙ ap (λ (ys : List _). x ∷ ys) (all_below f front xs (omega arith))

serials_same : (o : Option Known) → option_map_or (λ (p : Place). p.serial) (option_map place_of o) 0 ≡ option_map_or (λ (r : ObjectRevision). r.serial) (option_map revision_of o) 0
serials_same None = refl
serials_same (Some k) = refl

pub serial_read : (bytes : List ℕ) (s : Reached) (oid : ℕ) → Begins bytes s → option_map_or (λ p. p.serial) (last_or None (places_of oid s.known)) 0 ≡ serial_of oid s.list
unfolding last_below
serial_read bytes s oid begins =
    let ps : List Place = places_of oid s.known in
    let rs : List ObjectRevision = revisions oid s.list in
    let front : ℕ = 1 + (total (λ (p : Place). p.serial) ps + total (λ (r : ObjectRevision). r.serial) rs) in
    let of_place : Option Place → ℕ = λ (o : Option Place). option_map_or (λ (p : Place). p.serial) o 0 in
    let of_revision : Option ObjectRevision → ℕ = λ (o : Option ObjectRevision). option_map_or (λ (r : ObjectRevision). r.serial) o 0 in
    sym (ap (λ (x : List Place). of_place (last_or None x)) (all_below (λ (p : Place). p.serial) front ps (omega arith)))
    ∙ ap of_place (last_below_is oid front s.known)
    ∙ serials_same (record_below oid front s.known)
    ∙ ap of_revision (revises_of bytes s begins oid front)
    ∙ ap (λ (x : List ObjectRevision). of_revision (last_or None x)) (all_below (λ (r : ObjectRevision). r.serial) front rs (omega arith))

-- ---- the next serial

-- the serial of the first of an object's records that isn't below the front
abbrev next_of : ℕ → ℕ → List Known → Option ℕ
next_of oid front known = option_map (λ (p : Place). p.serial) (find (λ (p : Place). nat_le front p.serial) (places_of oid known))

-- the serial of a transaction, where it has this change
abbrev serial_for : {A : Type 0} → ℕ → Option A → Option ℕ
serial_for tid o = option_map (λ _. tid) o

map_or : {A : Type 0} (f : A → ℕ) (o p : Option A) → option_map f (option_or o p) ≡ option_or (option_map f o) (option_map f p)
map_or f None p = refl
map_or f (Some x) p = refl

next_append : (oid front : ℕ) (known ks : List Known) → next_of oid front (known ++ ks) ≡ option_or (next_of oid front known) (next_of oid front ks)
next_append oid front known ks =
    ap (λ (x : List Known). option_map (λ (p : Place). p.serial) (find (λ (p : Place). nat_le front p.serial) (map place_of x))) (filter-append (is_of oid) known ks)
    ∙ ap (λ (x : List Place). option_map (λ (p : Place). p.serial) (find (λ (p : Place). nat_le front p.serial) x)) (map-append place_of (filter (is_of oid) known) (filter (is_of oid) ks))
    ∙ ap (option_map (λ (p : Place). p.serial)) (find-append (λ (p : Place). nat_le front p.serial) (places_of oid known) (places_of oid ks))
    ∙ map_or (λ (p : Place). p.serial) (find (λ (p : Place). nat_le front p.serial) (places_of oid known)) (find (λ (p : Place). nat_le front p.serial) (places_of oid ks))

-- what one record adds
next_one : (oid front : ℕ) (k : Known) → next_of oid front (k ∷ []) ≡ cond (eqb oid k.oid && leb front k.tid) (Some k.tid) None
next_one oid front k = by_cases (eqb oid k.oid)
  where
    inside : (b : Bool) → option_map (λ (p : Place). p.serial) (cond b (Some (place_of k)) None) ≡ cond b (Some k.tid) None
    inside true = refl
    inside false = refl

    by_cases : (a : Bool) → option_map (λ (p : Place). p.serial) (find (λ (p : Place). nat_le front p.serial) (map place_of (cond a (k ∷ []) []))) ≡ cond (a && leb front k.tid) (Some k.tid) None
    by_cases true = inside (leb front k.tid)
    by_cases false = refl

or_none : {A : Type 0} (o : Option A) → option_or o None ≡ o
or_none None = refl
or_none (Some x) = refl

-- whether an object has an entry, once one is put in
entry_more : (oid tid : ℕ) (es : List (ℕ × Content)) (k : ℕ) (v : Content) → serial_for tid (lookup (nat_eq oid) (insert_entry nat_eq es k v)) ≡ option_or (serial_for tid (lookup (nat_eq oid) es)) (cond (eqb oid k) (Some tid) None)
entry_more oid tid [] k v = by_cases (eqb oid k)
  where
    by_cases : (a : Bool) → serial_for tid (cond a (Some v) None) ≡ cond a (Some tid) None
    by_cases true = refl
    by_cases false = refl
entry_more oid tid (e ∷ es) k v = by_cases (eqb k e.0) (eqb oid e.0) refl refl (entry_more oid tid es k v)
  where
    here : (b : Bool) → eqb k e.0 ≡ true → eqb oid e.0 ≡ b → serial_for tid (cond b (Some v) (lookup (nat_eq oid) es)) ≡ option_or (serial_for tid (cond b (Some e.1) (lookup (nat_eq oid) es))) (cond (eqb oid k) (Some tid) None)
    here true x y = refl
    here false x y =
        let other : eqb oid k ≡ false = ne_eqb oid k (λ same. eqb-false oid e.0 y (same ∙ eqb-true k e.0 x)) in
        sym (ap (λ c. option_or (serial_for tid (lookup (nat_eq oid) es)) (cond c (Some tid) None)) other ∙ or_none (serial_for tid (lookup (nat_eq oid) es)))

    behind : (b : Bool) → serial_for tid (lookup (nat_eq oid) (insert_entry nat_eq es k v)) ≡ option_or (serial_for tid (lookup (nat_eq oid) es)) (cond (eqb oid k) (Some tid) None)
        → serial_for tid (cond b (Some e.1) (lookup (nat_eq oid) (insert_entry nat_eq es k v))) ≡ option_or (serial_for tid (cond b (Some e.1) (lookup (nat_eq oid) es))) (cond (eqb oid k) (Some tid) None)
    behind true rest = refl
    behind false rest = rest

    by_cases : (a b : Bool) → eqb k e.0 ≡ a → eqb oid e.0 ≡ b → serial_for tid (lookup (nat_eq oid) (insert_entry nat_eq es k v)) ≡ option_or (serial_for tid (lookup (nat_eq oid) es)) (cond (eqb oid k) (Some tid) None)
        → serial_for tid (lookup (nat_eq oid) (cond a ((e.0, v) ∷ es) (e ∷ insert_entry nat_eq es k v))) ≡ option_or (serial_for tid (lookup (nat_eq oid) (e ∷ es))) (cond (eqb oid k) (Some tid) None)
    by_cases true b x y rest = here (eqb oid e.0) x refl
    by_cases false b x y rest = behind (eqb oid e.0) rest

or_assoc : {A : Type 0} (a b c : Option A) → option_or (option_or a b) c ≡ option_or a (option_or b c)
or_assoc None b c = refl
or_assoc (Some x) b c = refl

next_made : (oid front place tid q : ℕ) (known : List Known) (rs : List Written) → nat_le front tid ≡ true → (done : List (ℕ × Content)) (was : Option ℕ) → next_of oid front known ≡ option_or was (serial_for tid (lookup (nat_eq oid) done))
    → next_of oid front (with_records known place tid q rs) ≡ option_or was (serial_for tid (lookup (nat_eq oid) (changes_of done known place tid q rs)))
next_made oid front place tid q known [] from done was so_far = so_far
next_made oid front place tid q known (r ∷ rs) from done was so_far =
    let k : Known = known_at known tid q r in
    let v : Content = content_of known r.oid r.payload in
    let old : Option ℕ = serial_for tid (lookup (nat_eq oid) done) in
    let more : next_of oid front (with_record known tid q r) ≡ option_or was (serial_for tid (lookup (nat_eq oid) (insert_entry nat_eq done r.oid v))) =
    next_append oid front known (k ∷ [])
    ∙ ap (option_or (next_of oid front known)) (next_one oid front k ∙ one_here (eqb oid r.oid) (leb front tid) from)
    ∙ ap (λ (o : Option ℕ). option_or o (cond (eqb oid r.oid) (Some tid) None)) so_far
    ∙ or_assoc was old (cond (eqb oid r.oid) (Some tid) None)
    ∙ ap (option_or was) (sym (entry_more oid tid done r.oid v)) in
    next_made oid front place tid (q + length (record_text place tid r)) (with_record known tid q r) rs from (insert_entry nat_eq done r.oid v) was more
  where
    one_here : (a b : Bool) → b ≡ true → cond (a && b) (Some tid) None ≡ cond a (Some tid) None
    one_here a true e = ap (λ c. cond c (Some tid) None) (same a)
      where
        same : (a : Bool) → (a && true) ≡ a
        same true = refl
        same false = refl
    one_here a false e = absurd cc

none_next : (oid front place tid q : ℕ) (known : List Known) (rs : List Written) → nat_le front tid ≡ false → next_of oid front (with_records known place tid q rs) ≡ next_of oid front known
none_next oid front place tid q known [] below = refl
none_next oid front place tid q known (r ∷ rs) below =
    none_next oid front place tid (q + length (record_text place tid r)) (with_record known tid q r) rs below
    ∙ next_append oid front known (known_at known tid q r ∷ [])
    ∙ ap (option_or (next_of oid front known)) (next_one oid front (known_at known tid q r) ∙ cond-false (eqb oid r.oid && leb front tid) (Some tid) None (and_right (eqb oid r.oid) (leb front tid) below))
    ∙ or_none (next_of oid front known)

end_more : (oid front : ℕ) (list : List Transaction) (t : Transaction) → end_of oid front (list ++ t ∷ []) ≡ option_or (end_of oid front list) (cond (nat_le front t.tid) (serial_for t.tid (change_in oid t.changes)) None)
end_more oid front list t =
    let serial : ObjectRevision → ℕ = λ (r : ObjectRevision). r.serial in
    ap (λ (rs : List ObjectRevision). option_map serial (find (is_from front) rs)) (filter_map-append (revision_in oid) list (t ∷ []))
    ∙ ap (option_map serial) (find-append (is_from front) (revisions oid list) (cons_option (revision_in oid t) []))
    ∙ map_or serial (find (is_from front) (revisions oid list)) (find (is_from front) (cons_option (revision_in oid t) []))
    ∙ ap (option_or (end_of oid front list)) (made (change_in oid t.changes))
  where
    none : (b : Bool) → None ≡ cond b (serial_for {A = Change} t.tid None) None
    none true = refl
    none false = refl

    one : (c : Change) (b : Bool) → option_map (λ (r : ObjectRevision). r.serial) (cond b (Some (record { serial = t.tid; content = c.content })) None) ≡ cond b (serial_for t.tid (Some c)) None
    one c true = refl
    one c false = refl

    made : (o : Option Change) → option_map (λ (r : ObjectRevision). r.serial) (find (is_from front) (cons_option (option_map (λ (c : Change). record { serial = t.tid; content = c.content }) o) [])) ≡ cond (nat_le front t.tid) (serial_for t.tid o) None
    made None = none (nat_le front t.tid)
    made (Some c) = one c (nat_le front t.tid)

-- the next serials of the records are those of the list
abbrev NextOnes : Reached → Type 0
NextOnes s = (oid front : ℕ) → next_of oid front s.known ≡ end_of oid front s.list

serial_for_map : {A B : Type 0} (tid : ℕ) (f : A → B) (o : Option A) → serial_for tid (option_map f o) ≡ serial_for tid o
serial_for_map tid f None = refl
serial_for_map tid f (Some x) = refl

next_more : (s : Reached) (b : Block) → NextOnes s → NextOnes (after_block s b)
unfolding after_block
next_more s b so_far oid front =
    let entries : List (ℕ × Content) = changes_of [] s.known s.end b.tid (records_from s.end b) b.records in
    let content : Change → Content = λ (c : Change). c.content in
    let change : Option Change = change_in oid (transaction_of s b).changes in
    let changed : serial_for b.tid (lookup (nat_eq oid) entries) ≡ serial_for b.tid change =
    ap (serial_for b.tid) (sym (change_is oid entries (none_twice s b))) ∙ serial_for_map b.tid content change in
    let was : Option ℕ = end_of oid front s.list in
    let list_more = end_more oid front s.list (transaction_of s b) in
    by_cases (nat_le front b.tid) refl changed list_more
  where
    by_cases : (from : Bool) → nat_le front b.tid ≡ from
        → serial_for b.tid (lookup (nat_eq oid) (changes_of [] s.known s.end b.tid (records_from s.end b) b.records)) ≡ serial_for b.tid (change_in oid (transaction_of s b).changes)
        → end_of oid front (s.list ++ transaction_of s b ∷ []) ≡ option_or (end_of oid front s.list) (cond (nat_le front b.tid) (serial_for b.tid (change_in oid (transaction_of s b).changes)) None)
        → next_of oid front (with_records s.known s.end b.tid (records_from s.end b) b.records) ≡ end_of oid front (s.list ++ transaction_of s b ∷ [])
    by_cases true e changed list_more =
        next_made oid front s.end b.tid (records_from s.end b) s.known b.records e [] (end_of oid front s.list) (so_far oid front ∙ sym (or_none (end_of oid front s.list)))
        ∙ ap (option_or (end_of oid front s.list)) (changed ∙ sym (cond-true (nat_le front b.tid) (serial_for b.tid (change_in oid (transaction_of s b).changes)) None e))
        ∙ sym list_more
    by_cases false e changed list_more =
        none_next oid front s.end b.tid (records_from s.end b) s.known b.records e ∙ so_far oid front
        ∙ sym (list_more ∙ ap (option_or (end_of oid front s.list)) (cond-false (nat_le front b.tid) (serial_for b.tid (change_in oid (transaction_of s b).changes)) None e) ∙ or_none (end_of oid front s.list))

next_all : (s : Reached) (bs : List Block) → NextOnes s → NextOnes (after_blocks s bs)
next_all s [] h = h
next_all s (b ∷ bs) h = next_all (after_block s b) bs (next_more s b h)

pub next_read : (bytes : List ℕ) (s : Reached) (oid front : ℕ) → Begins bytes s → option_map (λ p. p.serial) (find (λ p. nat_le front p.serial) (places_of oid s.known)) ≡ end_of oid front s.list
next_read bytes s oid front begins = subst (λ (r : Reached). NextOnes r) (sym begins.is) (next_all file_start begins.blocks (λ o f. refl)) oid front
