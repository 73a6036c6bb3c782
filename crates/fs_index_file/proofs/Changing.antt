-- The objects that the transactions of a file change are those that have data records by them.
use Rattle.std.proofs.Common.{◌≡◌, ℕ, ◌+◌, ◌<◌, ◌≤◌, Bool, true, false, cond, eqb, List, [], ◌∷◌, ◌++◌, All, get_or, length, map, filter, refl, sym, ap, subst, ◌∙◌, arith}
use Rattle.std.specs.Prelude.{◌||◌, ◌==◌, nat_eq}
use Rattle.std.specs.Set.{is_member}
use Rattle.std.specs.Map.{keys_of}
use Rattle.std.specs.List.{list_any}
use Rattle.std.proofs.lemmas.Bool.{eq-eqb, eqb-true, ne_eqb}
use Rattle.std.proofs.lemmas.List.{map-append}
use Rattle.std.proofs.lemmas.List.Elements.{All-nil, All-push, All-weaker, filter-append}
use Rattle.std.proofs.lemmas.List.Folds.{list_any-append}
use Rattle.indexmap.specs.IndexMap.{insert_entry}
use Rattle.zb_model.specs.declared.data.Content.{Content}
use Rattle.zb_model.specs.declared.data.Transaction.{Transaction}
use Rattle.zb_model.specs.Queries.{oids_of}
use Rattle.fs_records.specs.Blocks.{AreBlocks, Begins, Block, IsBlock, Known, Reached, Written, after_block, after_blocks, changes_of, content_of, file_start, known_at, record_text, records_from, transaction_of, with_record, with_records}
use Rattle.fs_records.specs.Databases.{oids_are_keys}
use Rattle.fs_records.specs.Indexed.{is_of, place_of, places_of}
use Rattle.fs_index_file.proofs.Objects.{of_tid}

-- whether an object has a record by a transaction
abbrev there : ℕ → ℕ → List Known → Bool
there oid tid known = list_any (of_tid tid) (places_of oid known)

or_false : (b : Bool) → (b || false) ≡ b
or_false true = refl
or_false false = refl

or_swap : (a b : Bool) → (a || b) ≡ (b || a)
or_swap true true = refl
or_swap true false = refl
or_swap false true = refl
or_swap false false = refl

-- ---- one record more

one_there : (oid tid : ℕ) (k : Known) → there oid tid (k ∷ []) ≡ cond (nat_eq oid k.oid) (k.tid == tid) false
one_there oid tid k = by_cases (nat_eq oid k.oid)
  where
    by_cases : (a : Bool) → list_any (of_tid tid) (map place_of (cond a (k ∷ []) [])) ≡ cond a (k.tid == tid) false
    by_cases true = or_false (k.tid == tid)
    by_cases false = refl

more_there : (oid tid : ℕ) (known : List Known) (k : Known) → there oid tid (known ++ k ∷ []) ≡ (there oid tid known || cond (nat_eq oid k.oid) (k.tid == tid) false)
more_there oid tid known k =
    ap (λ (ks : List Known). list_any (of_tid tid) (map place_of ks)) (filter-append (is_of oid) known (k ∷ []))
    ∙ ap (list_any (of_tid tid)) (map-append place_of (filter (is_of oid) known) (filter (is_of oid) (k ∷ [])))
    ∙ list_any-append (of_tid tid) (places_of oid known) (places_of oid (k ∷ []))
    ∙ ap (λ (b : Bool). there oid tid known || b) (one_there oid tid k)

-- ---- another transaction's records

not_theirs : (a b : Bool) → b ≡ false → cond a b false ≡ false
not_theirs true b e = e
not_theirs false b e = refl

pub others_there : (oid tid place by q : ℕ) (known : List Known) (rs : List Written) → (by == tid) ≡ false → there oid tid (with_records known place by q rs) ≡ there oid tid known
others_there oid tid place by q known [] apart = refl
others_there oid tid place by q known (r ∷ rs) apart =
    others_there oid tid place by (q + length (record_text place by r)) (with_record known by q r) rs apart
    ∙ more_there oid tid known (known_at known by q r)
    ∙ ap (λ (b : Bool). there oid tid known || b) (not_theirs (nat_eq oid r.oid) (by == tid) apart)
    ∙ or_false (there oid tid known)

-- ---- its own

or_same : (a b : Bool) → (a || b) ≡ (a || (a || b))
or_same true b = refl
or_same false b = refl

or_over : (a b c : Bool) → (a || (b || c)) ≡ (b || (a || c))
or_over true true c = refl
or_over true false c = refl
or_over false true c = refl
or_over false false c = refl

has_inserted : (o : ℕ) (es : List (ℕ × Content)) (k : ℕ) (v : Content) → is_member nat_eq (keys_of (insert_entry nat_eq es k v)) o ≡ (eqb o k || is_member nat_eq (keys_of es) o)
has_inserted o [] k v = refl
has_inserted o (e ∷ es) k v = by_cases (eqb k e.0) refl (has_inserted o es k v)
  where
    by_cases : (b : Bool) → eqb k e.0 ≡ b → is_member nat_eq (keys_of (insert_entry nat_eq es k v)) o ≡ (eqb o k || is_member nat_eq (keys_of es) o)
        → is_member nat_eq (keys_of (cond b ((e.0, v) ∷ es) (e ∷ insert_entry nat_eq es k v))) o ≡ (eqb o k || (eqb o e.0 || is_member nat_eq (keys_of es) o))
    by_cases true same rest = or_same (eqb o e.0) (is_member nat_eq (keys_of es) o) ∙ ap (λ (x : ℕ). eqb o x || (eqb o e.0 || is_member nat_eq (keys_of es) o)) (sym (eqb-true k e.0 same))
    by_cases false apart rest = ap (λ b. eqb o e.0 || b) rest ∙ or_over (eqb o e.0) (eqb o k) (is_member nat_eq (keys_of es) o)

is_theirs : (a : Bool) (tid : ℕ) → cond a (tid == tid) false ≡ a
is_theirs true tid = eq-eqb tid tid refl
is_theirs false tid = refl

pub own_there : (oid tid place q : ℕ) (known : List Known) (rs : List Written) (done : List (ℕ × Content)) → there oid tid known ≡ is_member nat_eq (keys_of done) oid
    → there oid tid (with_records known place tid q rs) ≡ is_member nat_eq (keys_of (changes_of done known place tid q rs)) oid
own_there oid tid place q known [] done so_far = so_far
own_there oid tid place q known (r ∷ rs) done so_far =
    own_there oid tid place (q + length (record_text place tid r)) (with_record known tid q r) rs (insert_entry nat_eq done r.oid (content_of known r.oid r.payload))
    (more_there oid tid known (known_at known tid q r)
    ∙ ap (λ (b : Bool). there oid tid known || b) (is_theirs (nat_eq oid r.oid) tid)
    ∙ or_swap (there oid tid known) (nat_eq oid r.oid)
    ∙ ap (λ (b : Bool). nat_eq oid r.oid || b) so_far
    ∙ sym (has_inserted oid done r.oid (content_of known r.oid r.payload)))

-- ---- all transactions

-- the objects that a transaction changes are those that have records by it
abbrev pub Tied : List Known → Transaction → Type 0
Tied known t = (oid : ℕ) → is_member nat_eq (oids_of t) oid ≡ list_any (of_tid t.tid) (places_of oid known)

record AllTied (s : Reached) : Type 0 where
  earlier : (tid oid : ℕ) → s.newest < tid → there oid tid s.known ≡ false
  tids : All (λ (t : Transaction). (0 < t.tid) × (t.tid ≤ s.newest)) s.list
  tied : All (Tied s.known) s.list

none_tied : AllTied file_start
none_tied = record { earlier = λ tid oid more. refl; tids = All-nil (λ (t : Transaction). (0 < t.tid) × (t.tid ≤ 0)); tied = All-nil (Tied []) }

pub all_and : (P Q R : Transaction → Type 0) → ((t : Transaction) → P t → Q t → R t) → (list : List Transaction) → All P list → All Q list → All R list
all_and P Q R both list ps qs = λ k t at. both (get_or list k t) (ps k t at) (qs k t at)

one_tied : (s : Reached) (b : Block) → AllTied s → IsBlock s b → AllTied (after_block s b)
unfolding after_block
one_tied s b so_far block =
    let q = records_from s.end b in
    let known = with_records s.known s.end b.tid q b.records in
    let t = transaction_of s b in
    let changes = changes_of [] s.known s.end b.tid q b.records in
    record {
      earlier = λ tid oid more. others_there oid tid s.end b.tid q s.known b.records (ne_eqb b.tid tid (λ e. absurd (omega (arith, e, more)))) ∙ so_far.earlier tid oid (omega (arith, more, block.above));
      tids = All-push (λ (x : Transaction). (0 < x.tid) × (x.tid ≤ b.tid)) s.list t
          (All-weaker (λ (x : Transaction). (0 < x.tid) × (x.tid ≤ s.newest)) (λ (x : Transaction). (0 < x.tid) × (x.tid ≤ b.tid)) (λ x le. (le.0, omega (arith, le.1, block.above))) s.list so_far.tids) (omega (arith, block.above), omega arith);
      tied = All-push (Tied known) s.list t
          (all_and (λ (x : Transaction). (0 < x.tid) × (x.tid ≤ s.newest)) (Tied s.known) (Tied known)
          (λ x le was oid. was oid ∙ sym (others_there oid x.tid s.end b.tid q s.known b.records (ne_eqb b.tid x.tid (λ e. absurd (omega (arith, e, le.1, block.above)))))) s.list so_far.tids so_far.tied)
          (λ oid. ap (λ (ks : List ℕ). is_member nat_eq ks oid) (oids_are_keys changes) ∙ sym (own_there oid b.tid s.end q s.known b.records [] (so_far.earlier b.tid oid block.above)));
    }

more_tied : (s : Reached) (bs : List Block) → AllTied s → AreBlocks s bs → AllTied (after_blocks s bs)
more_tied s [] so_far are = so_far
more_tied s (b ∷ bs) so_far are = more_tied (after_block s b) bs (one_tied s b so_far are.0) are.1

-- a transaction has a number, and changes just the objects that have records by it
abbrev pub IsTied : List Known → Transaction → Type 0
IsTied known t = (0 < t.tid) × Tied known t

-- of what bytes begin as
pub all_tied : (bytes : List ℕ) (s : Reached) → Begins bytes s → All (IsTied s.known) s.list
all_tied bytes s begins =
    let tied = more_tied file_start begins.blocks none_tied begins.are in
    let all = all_and (λ (x : Transaction). (0 < x.tid) × (x.tid ≤ (after_blocks file_start begins.blocks).newest)) (Tied (after_blocks file_start begins.blocks).known) (IsTied (after_blocks file_start begins.blocks).known) (λ x le was. (le.0, was)) (after_blocks file_start begins.blocks).list tied.tids tied.tied in
    subst (λ (r : Reached). All (IsTied r.known) r.list) (sym begins.is) all
