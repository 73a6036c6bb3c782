-- The records that were read are the revisions of the list.
use Rattle.std.proofs.Common.{◌≡◌, ℕ, ◌+◌, Bool, true, false, cond, eqb, List, [], ◌∷◌, ◌++◌, length, map, filter, Option, Some, None, refl, sym, ap, subst, ◌∙◌}
use Rattle.std.specs.Prelude.{nat_eq, nat_lt, option_map, ◌&&◌}
use Rattle.std.specs.List.{last_or, cons_option, IsDistinct, AllByRecursion}
use Rattle.std.specs.Map.{lookup, keys_of}
use Rattle.std.proofs.lemmas.Bool.{eqb-true, eqb-false}
use Rattle.std.proofs.lemmas.List.Elements.{filter-append, filter_map-append}
use Rattle.indexmap.specs.IndexMap.{insert_entry}
use Rattle.zb_model.specs.declared.data.Content.{Content}
use Rattle.zb_model.specs.declared.data.Change.{Change}
use Rattle.zb_model.specs.declared.data.Transaction.{Transaction}
use Rattle.zb_model.specs.Database as database
use Rattle.zb_model.specs.Database.{ObjectRevision, is_change_of, change_in, revision_in, revisions, revision_below}
use Rattle.fs_records.specs.Blocks.{Known, Written, record_text, content_of, known_at, with_record, with_records, changes_of, as_change, Reached, file_start, transaction_of, after_block, records_from, Block, after_blocks, Begins}
use Rattle.fs_records.specs.Indexed.{is_of_below, record_below, revision_of}
use Rattle.fs_records.specs.Databases.{distinct_changes}

last_append : {A : Type 0} (o : Option A) (xs ys : List A) → last_or o (xs ++ ys) ≡ last_or (last_or o xs) ys
last_append o [] ys = refl
last_append o (x ∷ xs) ys = last_append (Some x) xs ys

more_records : (oid front : ℕ) (known : List Known) (k : Known) → last_or None (filter (is_of_below oid front) (known ++ k ∷ [])) ≡ last_or (last_or None (filter (is_of_below oid front) known)) (filter (is_of_below oid front) (k ∷ []))
more_records oid front known k = ap (λ (ks : List Known). last_or None ks) (filter-append (is_of_below oid front) known (k ∷ [])) ∙ last_append None (filter (is_of_below oid front) known) (filter (is_of_below oid front) (k ∷ []))

-- ---- one transaction's records of an object

-- the revision that a content makes, or else what was there
abbrev made : ℕ → Option Content → Option ObjectRevision → Option ObjectRevision
made tid (Some content) o = Some (record { serial = tid; content = content })
made tid None o = o

-- the last of these records that is of the object and below the front, or else what was there
abbrev last_of : ℕ → ℕ → Option Known → List Known → Option Known
last_of oid front o known = last_or o (filter (is_of_below oid front) known)

lookup_insert : (oid : ℕ) (es : List (ℕ × Content)) (k : ℕ) (v : Content) → lookup (nat_eq oid) (insert_entry nat_eq es k v) ≡ cond (eqb oid k) (Some v) (lookup (nat_eq oid) es)
lookup_insert oid [] k v = refl
lookup_insert oid (e ∷ es) k v = by_cases (eqb k e.0) (eqb oid k) (eqb oid e.0) refl refl refl (lookup_insert oid es k v)
  where
    by_cases : (a b d : Bool) → eqb k e.0 ≡ a → eqb oid k ≡ b → eqb oid e.0 ≡ d → lookup (nat_eq oid) (insert_entry nat_eq es k v) ≡ cond (eqb oid k) (Some v) (lookup (nat_eq oid) es)
        → lookup (nat_eq oid) (cond a ((e.0, v) ∷ es) (e ∷ insert_entry nat_eq es k v)) ≡ cond b (Some v) (cond d (Some e.1) (lookup (nat_eq oid) es))
    by_cases true true true x y z rest = ap (λ c. cond c (Some v) (lookup (nat_eq oid) es)) z
    by_cases true true false x y z rest = absurd (eqb-false _ _ z (eqb-true _ _ y ∙ eqb-true _ _ x))
    by_cases true false true x y z rest = absurd (eqb-false _ _ y (eqb-true _ _ z ∙ sym (eqb-true _ _ x)))
    by_cases true false false x y z rest = ap (λ c. cond c (Some v) (lookup (nat_eq oid) es)) z
    by_cases false true true x y z rest = absurd (eqb-false _ _ x (sym (eqb-true _ _ y) ∙ eqb-true _ _ z))
    by_cases false true false x y z rest = ap (λ c. cond c (Some e.1) (lookup (nat_eq oid) (insert_entry nat_eq es k v))) z ∙ rest ∙ ap (λ c. cond c (Some v) (lookup (nat_eq oid) es)) y
    by_cases false false true x y z rest = ap (λ c. cond c (Some e.1) (lookup (nat_eq oid) (insert_entry nat_eq es k v))) z
    by_cases false false false x y z rest = ap (λ c. cond c (Some e.1) (lookup (nat_eq oid) (insert_entry nat_eq es k v))) z ∙ rest ∙ ap (λ c. cond c (Some v) (lookup (nat_eq oid) es)) y

-- one record more
one_made : (oid front tid q : ℕ) (known : List Known) (r : Written) → nat_lt tid front ≡ true → (done : Option Content) (was : Option ObjectRevision) → option_map revision_of (last_of oid front None known) ≡ made tid done was
    → option_map revision_of (last_of oid front None (with_record known tid q r)) ≡ made tid (cond (eqb oid r.oid) (Some (content_of known r.oid r.payload)) done) was
one_made oid front tid q known r below done was so_far =
    ap (option_map revision_of) (more_records oid front known (known_at known tid q r)) ∙ pick (eqb oid r.oid) (nat_lt tid front) below
  where
    pick : (a c : Bool) → c ≡ true → option_map revision_of (last_or (last_of oid front None known) (cond (a && c) (known_at known tid q r ∷ []) [])) ≡ made tid (cond a (Some (content_of known r.oid r.payload)) done) was
    pick true true e = refl
    pick true false e = absurd cc
    pick false c e = so_far

all_made : (oid front place tid q : ℕ) (known : List Known) (rs : List Written) → nat_lt tid front ≡ true → (done : List (ℕ × Content)) (was : Option ObjectRevision) → option_map revision_of (last_of oid front None known) ≡ made tid (lookup (nat_eq oid) done) was
    → option_map revision_of (last_of oid front None (with_records known place tid q rs)) ≡ made tid (lookup (nat_eq oid) (changes_of done known place tid q rs)) was
all_made oid front place tid q known [] below done was so_far = so_far
all_made oid front place tid q known (r ∷ rs) below done was so_far =
    all_made oid front place tid (q + length (record_text place tid r)) (with_record known tid q r) rs below (insert_entry nat_eq done r.oid (content_of known r.oid r.payload)) was
    (one_made oid front tid q known r below (lookup (nat_eq oid) done) was so_far ∙ ap (λ o. made tid o was) (sym (lookup_insert oid done r.oid (content_of known r.oid r.payload))))

-- records of a transaction that isn't below the front
none_made : (oid front place tid q : ℕ) (known : List Known) (rs : List Written) → nat_lt tid front ≡ false → last_of oid front None (with_records known place tid q rs) ≡ last_of oid front None known
none_made oid front place tid q known [] above = refl
none_made oid front place tid q known (r ∷ rs) above =
    none_made oid front place tid (q + length (record_text place tid r)) (with_record known tid q r) rs above ∙ more_records oid front known (known_at known tid q r) ∙ pick (eqb oid r.oid) (nat_lt tid front) above
  where
    pick : (a c : Bool) → c ≡ false → last_or (last_of oid front None known) (cond (a && c) (known_at known tid q r ∷ []) []) ≡ last_of oid front None known
    pick true false e = refl
    pick true true e = absurd cc
    pick false c e = refl

-- ---- one transaction's change of an object

none_there : (oid : ℕ) (e : ℕ) (es : List (ℕ × Content)) → oid ≡ e → AllByRecursion (λ y. nat_eq e y ≡ false) (keys_of es) → filter (is_change_of oid) (map as_change es) ≡ []
none_there oid e [] same h = refl
none_there oid e (x ∷ xs) same h = by_cases (eqb x.0 oid) refl (none_there oid e xs same h.1)
  where
    by_cases : (b : Bool) → eqb x.0 oid ≡ b → filter (is_change_of oid) (map as_change xs) ≡ [] → cond b (as_change x ∷ filter (is_change_of oid) (map as_change xs)) (filter (is_change_of oid) (map as_change xs)) ≡ []
    by_cases true there rest = absurd (eqb-false e x.0 h.0 (sym same ∙ sym (eqb-true _ _ there)))
    by_cases false there rest = rest

abbrev content_of_change : Change → Content
content_of_change c = c.content

-- the change of an object is the entry of its key
pub change_is : (oid : ℕ) (es : List (ℕ × Content)) → IsDistinct nat_eq (keys_of es) → option_map content_of_change (change_in oid (map as_change es)) ≡ lookup (nat_eq oid) es
unfolding IsDistinct
change_is oid [] h = refl
change_is oid (e ∷ es) h = by_cases (eqb oid e.0) (eqb e.0 oid) refl refl (change_is oid es h.1)
  where
    by_cases : (a b : Bool) → eqb oid e.0 ≡ a → eqb e.0 oid ≡ b → option_map content_of_change (change_in oid (map as_change es)) ≡ lookup (nat_eq oid) es
        → option_map content_of_change (last_or None (cond b (as_change e ∷ filter (is_change_of oid) (map as_change es)) (filter (is_change_of oid) (map as_change es)))) ≡ cond a (Some e.1) (lookup (nat_eq oid) es)
    by_cases true true x y rest = ap (λ (cs : List Change). option_map content_of_change (last_or (Some (as_change e)) cs)) (none_there oid e.0 es (eqb-true _ _ x) h.0)
    by_cases true false x y rest = absurd (eqb-false _ _ y (sym (eqb-true _ _ x)))
    by_cases false true x y rest = absurd (eqb-false _ _ x (sym (eqb-true _ _ y)))
    by_cases false false x y rest = rest

-- ---- one transaction more

-- what a transaction adds to an object's revisions below a front
tail : (tid front : ℕ) (x : Option Change) (was : Option ObjectRevision)
    → last_or was (filter (database.is_below front) (cons_option (option_map (λ (c : Change). record { serial = tid; content = c.content }) x) [])) ≡ cond (nat_lt tid front) (made tid (option_map content_of_change x) was) was
tail tid front None was = by_cases (nat_lt tid front)
  where
    by_cases : (b : Bool) → was ≡ cond b was was
    by_cases true = refl
    by_cases false = refl
tail tid front (Some c) was = by_cases (nat_lt tid front)
  where
    by_cases : (b : Bool) → last_or was (cond b (record { serial = tid; content = c.content } ∷ []) []) ≡ cond b (Some (record { serial = tid; content = c.content })) was
    by_cases true = refl
    by_cases false = refl

revision_more : (oid front : ℕ) (list : List Transaction) (t : Transaction) → revision_below oid front (list ++ t ∷ []) ≡ cond (nat_lt t.tid front) (made t.tid (option_map content_of_change (change_in oid t.changes)) (revision_below oid front list)) (revision_below oid front list)
revision_more oid front list t =
    ap (λ (rs : List ObjectRevision). last_or None (filter (database.is_below front) rs)) (filter_map-append (revision_in oid) list (t ∷ []))
    ∙ ap (λ (rs : List ObjectRevision). last_or None rs) (filter-append (database.is_below front) (revisions oid list) (cons_option (revision_in oid t) []))
    ∙ last_append None (filter (database.is_below front) (revisions oid list)) (filter (database.is_below front) (cons_option (revision_in oid t) []))
    ∙ tail t.tid front (change_in oid t.changes) (revision_below oid front list)

-- the revisions of the list are those that the records make
abbrev pub Revises : Reached → Type 0
Revises s = (oid front : ℕ) → option_map revision_of (record_below oid front s.known) ≡ revision_below oid front s.list

pub none_twice : (s : Reached) (b : Block) → IsDistinct nat_eq (keys_of (changes_of [] s.known s.end b.tid (records_from s.end b) b.records))
unfolding IsDistinct
none_twice s b = distinct_changes [] s.known s.end b.tid (records_from s.end b) b.records tt

pub revises_more : (s : Reached) (b : Block) → Revises s → Revises (after_block s b)
unfolding after_block
revises_more s b so_far oid front = by_cases (nat_lt b.tid front) refl
  where
    by_cases : (below : Bool) → nat_lt b.tid front ≡ below → option_map revision_of (record_below oid front (with_records s.known s.end b.tid (records_from s.end b) b.records)) ≡ revision_below oid front (s.list ++ transaction_of s b ∷ [])
    by_cases true e =
        all_made oid front s.end b.tid (records_from s.end b) s.known b.records e [] (option_map revision_of (record_below oid front s.known)) refl
        ∙ ap (λ (o : Option Content). made b.tid o (option_map revision_of (record_below oid front s.known))) (sym (change_is oid (changes_of [] s.known s.end b.tid (records_from s.end b) b.records) (none_twice s b)))
        ∙ ap (λ (o : Option ObjectRevision). made b.tid (option_map content_of_change (change_in oid (transaction_of s b).changes)) o) (so_far oid front)
        ∙ sym (revision_more oid front s.list (transaction_of s b) ∙ ap (λ (c : Bool). cond c (made b.tid (option_map content_of_change (change_in oid (transaction_of s b).changes)) (revision_below oid front s.list)) (revision_below oid front s.list)) e)
    by_cases false e =
        ap (option_map revision_of) (none_made oid front s.end b.tid (records_from s.end b) s.known b.records e)
        ∙ so_far oid front
        ∙ sym (revision_more oid front s.list (transaction_of s b) ∙ ap (λ (c : Bool). cond c (made b.tid (option_map content_of_change (change_in oid (transaction_of s b).changes)) (revision_below oid front s.list)) (revision_below oid front s.list)) e)

all_revise : (s : Reached) (bs : List Block) → Revises s → Revises (after_blocks s bs)
all_revise s [] h = h
all_revise s (b ∷ bs) h = all_revise (after_block s b) bs (revises_more s b h)

-- of what bytes begin as
pub revises_of : (bytes : List ℕ) (s : Reached) → Begins bytes s → Revises s
revises_of bytes s begins = subst (λ (r : Reached). Revises r) (sym begins.is) (all_revise file_start begins.blocks (λ oid front. refl))
