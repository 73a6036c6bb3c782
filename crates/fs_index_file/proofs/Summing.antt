-- What data records change is counted, one behind another.
use Rattle.std.proofs.Common.{◌≡◌, ℕ, ◌+◌, ◌-◌, ◌^◌, ◌<◌, ◌≤◌, zero, suc, Bool, true, false, cond, ltb, List, [], ◌∷◌, ◌++◌, length, drop, get_or, map, take, refl, sym, ap, subst, ◌∙◌, arith}
use Rattle.std.specs.Prelude.{◌*◌, ◌==◌, ◌&&◌, not, max, nat_lt, Some, slice_get, slice_set}
use Rattle.std.proofs.lemmas.Bool.{eq-eqb, eqb-false, ltb-false, ltb-true, ne_eqb}
use Rattle.std.specs.List.Sorted.{IsPartitionPoint}
use Rattle.std.proofs.lemmas.List.{take_more}
use Rattle.fs_index.specs.declared.place.Place.{Place}
use Rattle.fs_index.specs.declared.place.Placed.{Placed}
use Rattle.fs_recovery.specs.declared.counted.Counted.{Counted}
use Rattle.fs_index_file.specs.declared.entries.Head.{Head}
use Rattle.fs_index_file.specs.declared.entries.Start.{Start}
use Rattle.fs_index_file.specs.Counts.{AreCountedSoFar, CountsSoFar, IsCountedSoFar, RisesFrom, counted_at, is_again, is_more, nothing_counted, oids_at, with_object, with_record}
use Rattle.fs_index_file.specs.Hints.{after, are_starts, behind, first_record, is_start, records_in}
use Rattle.fs_index_file.specs.Scans.{places_of_starts, records_by}
use Rattle.zb_model.specs.Queries.{greatest_of}

-- ---- one data record, and its transaction

and_none : (a b : Bool) → b ≡ false → (a && b) ≡ false
and_none true b e = e
and_none false b e = refl

-- it is of the object and the transaction of the one before it
pub none_again : (last r : Placed) (ps : List Place) (cs : List Counted) → is_again last r ≡ true → with_record last r ps cs ≡ cs
none_again last r [] cs again = refl
none_again last r (p ∷ ps) [] again = refl
none_again last r (p ∷ ps) (c ∷ cs) again =
    let no : is_more p.serial last r ≡ false = and_none (r.place.serial == p.serial) (not (is_again last r)) (ap not again) in
    ap (λ (b : Bool). cond b (with_object r.oid c) c ∷ with_record last r ps cs) no ∙ ap (λ (x : List Counted). c ∷ x) (none_again last r ps cs again)

not_more : (tid : ℕ) (last r : Placed) → (r.place.serial ≡ tid → ⊥) → is_more tid last r ≡ false
not_more tid last r apart = ap (λ (b : Bool). b && not (is_again last r)) (ne_eqb r.place.serial tid apart)

none_later : (last r : Placed) (from : ℕ) (ps : List Place) (cs : List Counted) → r.place.serial ≤ from → RisesFrom from ps → with_record last r ps cs ≡ cs
none_later last r from [] cs before rises = refl
none_later last r from (p ∷ ps) [] before rises = refl
none_later last r from (p ∷ ps) (c ∷ cs) before rises =
    ap (λ (b : Bool). cond b (with_object r.oid c) c ∷ with_record last r ps cs) (not_more p.serial last r (λ e. absurd (omega (arith, e, before, rises.0))))
    ∙ ap (λ (x : List Counted). c ∷ x) (none_later last r p.serial ps cs (omega (arith, before, rises.0)) rises.1)

-- all before the place are of earlier transactions
abbrev pub Before : ℕ → List Place → ℕ → Type 0
Before n ps tid = (k : ℕ) (p : Place) → k < n → slice_get ps k ≡ Some p → p.serial < tid

abbrev pub NotBefore : ℕ → List Place → ℕ → Type 0
NotBefore n ps tid = (k : ℕ) (p : Place) → n ≤ k → slice_get ps k ≡ Some p → tid ≤ p.serial

before_tail : (n : ℕ) (p : Place) (ps : List Place) (tid : ℕ) → Before (suc n) (p ∷ ps) tid → Before n ps tid
before_tail n p ps tid before k q less is = before (suc k) q (omega (arith, less)) is

not_before_tail : (n : ℕ) (p : Place) (ps : List Place) (tid : ℕ) → NotBefore (suc n) (p ∷ ps) tid → NotBefore n ps tid
not_before_tail n p ps tid behind k q more is = behind (suc k) q (omega (arith, more)) is

-- its transaction stands at this place
pub counts_one : (last r : Placed) (from n : ℕ) (ps : List Place) (cs : List Counted) (p : Place) (c : Counted) → is_again last r ≡ false → RisesFrom from ps → Before n ps r.place.serial
    → slice_get ps n ≡ Some p → p.serial ≡ r.place.serial → slice_get cs n ≡ Some c → slice_set cs n (with_object r.oid c) ≡ with_record last r ps cs
counts_one last r from n [] cs p c new rises before is same has = absurd cc
counts_one last r from n (q ∷ ps) [] p c new rises before is same has = absurd cc
counts_one last r from zero (q ∷ ps) (d ∷ cs) p c new rises before is same has =
    let there : q ≡ p = cc is in
    let this : d ≡ c = cc has in
    let serial : r.place.serial ≡ q.serial = sym same ∙ ap (λ (x : Place). x.serial) (sym there) in
    let yes : is_more q.serial last r ≡ true = ap (λ (b : Bool). b && not (is_again last r)) (eq-eqb r.place.serial q.serial serial) ∙ ap not new in
    ap (λ (x : Counted). with_object r.oid x ∷ cs) (sym this)
    ∙ sym (ap (λ (b : Bool). cond b (with_object r.oid d) d ∷ with_record last r ps cs) yes ∙ ap (λ (x : List Counted). with_object r.oid d ∷ x) (none_later last r q.serial ps cs (omega (arith, serial)) rises.1))
counts_one last r from (suc n) (q ∷ ps) (d ∷ cs) p c new rises before is same has =
    let earlier = before 0 q (omega arith) refl in
    ap (λ (x : List Counted). d ∷ x) (counts_one last r q.serial n ps cs p c new rises.1 (before_tail n q ps r.place.serial before) is same has)
    ∙ sym (ap (λ (b : Bool). cond b (with_object r.oid d) d ∷ with_record last r ps cs) (not_more q.serial last r (λ e. absurd (omega (arith, e, earlier)))))

-- its transaction isn't counted
pub counts_none : (last r : Placed) (from n : ℕ) (ps : List Place) (cs : List Counted) → RisesFrom from ps → Before n ps r.place.serial → NotBefore n ps r.place.serial
    → ((p : Place) (c : Counted) → slice_get ps n ≡ Some p → slice_get cs n ≡ Some c → p.serial ≡ r.place.serial → ⊥) → with_record last r ps cs ≡ cs
counts_none last r from n [] cs rises before behind not = refl
counts_none last r from n (q ∷ ps) [] rises before behind not = refl
counts_none last r from zero (q ∷ ps) (d ∷ cs) rises before behind not =
    let later = behind 0 q (omega arith) refl in
    ap (λ (b : Bool). cond b (with_object r.oid d) d ∷ with_record last r ps cs) (not_more q.serial last r (λ e. not q d refl refl (sym e)))
    ∙ ap (λ (x : List Counted). d ∷ x) (none_later last r q.serial ps cs later rises.1)
counts_none last r from (suc n) (q ∷ ps) (d ∷ cs) rises before behind not =
    let earlier = before 0 q (omega arith) refl in
    ap (λ (b : Bool). cond b (with_object r.oid d) d ∷ with_record last r ps cs) (not_more q.serial last r (λ e. absurd (omega (arith, e, earlier))))
    ∙ ap (λ (x : List Counted). d ∷ x) (counts_none last r q.serial n ps cs rises.1 (before_tail n q ps r.place.serial before) (not_before_tail n q ps r.place.serial behind) not)

-- ---- nothing is counted yet

pub nothing_more : (ps : List Place) (p : Place) → nothing_counted (ps ++ p ∷ []) ≡ nothing_counted ps ++ record { changes = 0; greatest = 0 } ∷ []
nothing_more [] p = refl
nothing_more (q ∷ ps) p = ap (λ (cs : List Counted). record { changes = 0; greatest = 0 } ∷ cs) (nothing_more ps p)

pub nothing_next : (ps : List Place) (k : ℕ) (p : Place) (cs now : List Counted) → k < length ps → cs ≡ nothing_counted (take k ps) → now ≡ cs ++ record { changes = 0; greatest = 0 } ∷ [] → now ≡ nothing_counted (take (k + 1) ps)
nothing_next ps k p cs now within so_far is =
    is ∙ ap (λ (x : List Counted). x ++ record { changes = 0; greatest = 0 } ∷ []) so_far ∙ sym (nothing_more (take k ps) (get_or ps k p)) ∙ ap nothing_counted (sym (take_more ps k p within))

begins : (all : List Placed) (ps : List Place) → AreCountedSoFar all first_record all ps (nothing_counted ps)
begins all [] = tt
begins all (p ∷ ps) = (record { changes = omega arith; greatest = omega arith }, begins all ps)

-- ---- one data record more

few : (tid : ℕ) (last : Placed) (rs : List Placed) → length (oids_at tid last rs) ≤ length rs
few tid last [] = omega arith
few tid last (r ∷ rs) = by_cases (is_more tid last r) (few tid (after r) rs)
  where
    by_cases : (b : Bool) → length (oids_at tid (after r) rs) ≤ length rs → length (cond b (r.oid ∷ oids_at tid (after r) rs) (oids_at tid (after r) rs)) ≤ suc (length rs)
    by_cases true rest = omega (arith, rest)
    by_cases false rest = omega (arith, rest)

one_step : (all : List Placed) (last r : Placed) (rest : List Placed) (p : Place) (c : Counted) → length all < 2 ^ 64 → IsCountedSoFar all last (r ∷ rest) p c
    → IsCountedSoFar all (after r) rest p (cond (is_more p.serial last r) (with_object r.oid c) c)
one_step all last r rest p c small so_far = by_cases (is_more p.serial last r) so_far.changes so_far.greatest
  where
    os : List ℕ
    os = oids_at p.serial (after r) rest

    by_cases : (b : Bool) → c.changes + length (cond b (r.oid ∷ os) os) ≡ length (oids_at p.serial first_record all) → max c.greatest (greatest_of (cond b (r.oid ∷ os) os)) ≡ greatest_of (oids_at p.serial first_record all)
        → IsCountedSoFar all (after r) rest p (cond b (with_object r.oid c) c)
    by_cases true changes greatest = record { changes = omega (arith, changes, small, few p.serial first_record all); greatest = omega (arith, greatest) }
    by_cases false changes greatest = record { changes = changes; greatest = greatest }

step : (all : List Placed) (last r : Placed) (rest : List Placed) (ps : List Place) (cs : List Counted) → length all < 2 ^ 64 → AreCountedSoFar all last (r ∷ rest) ps cs → AreCountedSoFar all (after r) rest ps (with_record last r ps cs)
step all last r rest [] [] small so_far = tt
step all last r rest [] (c ∷ cs) small so_far = absurd so_far
step all last r rest (p ∷ ps) [] small so_far = absurd so_far
step all last r rest (p ∷ ps) (c ∷ cs) small so_far = (one_step all last r rest p c small so_far.0, step all last r rest ps cs small so_far.1)

-- ---- all of them

counted_from : (c d : Counted) → c.changes ≡ d.changes → c.greatest ≡ d.greatest → c ≡ d
counted_from c d a b = rw (a, b) refl

ends : (all : List Placed) (last : Placed) (ps : List Place) (cs : List Counted) → AreCountedSoFar all last [] ps cs → cs ≡ map (counted_at all) ps
ends all last [] [] so_far = refl
ends all last [] (c ∷ cs) so_far = absurd so_far
ends all last (p ∷ ps) [] so_far = absurd so_far
ends all last (p ∷ ps) (c ∷ cs) so_far =
    ap (λ (x : Counted). x ∷ cs) (counted_from c (counted_at all p) (omega (arith, so_far.0.changes)) (omega (arith, so_far.0.greatest)))
    ∙ ap (λ (xs : List Counted). counted_at all p ∷ xs) (ends all last ps cs so_far.1)

-- ---- as they are read

length-records_in : (n : ℕ) (bytes : List ℕ) → length (records_in n bytes) ≡ n
length-records_in zero bytes = refl
length-records_in (suc n) bytes = ap suc (length-records_in n (drop 24 bytes))

pub counts_begin : (bytes : List ℕ) (h : Head) (q : ℕ) (ps : List Place) (cs : List Counted) → cs ≡ nothing_counted ps → records_by bytes h ≡ records_in (h.records - 0) (drop q bytes) → CountsSoFar bytes h 0 q first_record ps cs
counts_begin bytes h q ps cs none same =
    subst (λ (xs : List Counted). CountsSoFar bytes h 0 q first_record ps xs) (sym none)
    (subst (λ (rs : List Placed). AreCountedSoFar (records_by bytes h) first_record rs ps (nothing_counted ps)) same (begins (records_by bytes h) ps))

pub counts_more : (bytes : List ℕ) (h : Head) (k q : ℕ) (last r : Placed) (ps : List Place) (cs now : List Counted) → h.records < 2 ^ 64 → records_in (h.records - k) (drop q bytes) ≡ r ∷ records_in (h.records - (k + 1)) (drop (q + 24) bytes)
    → now ≡ with_record last r ps cs → CountsSoFar bytes h k q last ps cs → CountsSoFar bytes h (k + 1) (q + 24) (after r) ps now
counts_more bytes h k q last r ps cs now small next is so_far =
    let all = records_by bytes h in
    let rest = records_in (h.records - (k + 1)) (drop (q + 24) bytes) in
    subst (λ (xs : List Counted). AreCountedSoFar all (after r) rest ps xs) (sym is)
    (step all last r rest ps cs (omega (arith, small, length-records_in h.records (drop (25 + 17 * h.starts) bytes))) (subst (λ (rs : List Placed). AreCountedSoFar all last rs ps cs) next so_far))

pub counts_end : (bytes : List ℕ) (h : Head) (k q : ℕ) (last : Placed) (ps : List Place) (cs : List Counted) → h.records ≤ k → CountsSoFar bytes h k q last ps cs → cs ≡ map (counted_at (records_by bytes h)) ps
counts_end bytes h k q last ps cs done so_far =
    let none : h.records - k ≡ 0 = omega (arith, done) in
    ends (records_by bytes h) last ps cs (subst (λ (n : ℕ). AreCountedSoFar (records_by bytes h) last (records_in n (drop q bytes)) ps cs) none so_far)

-- ---- the tids of transactions in order rise

front_true : (a rest : Bool) → (a && rest) ≡ true → a ≡ true
front_true true rest e = refl
front_true false rest e = absurd cc

back_true : (a rest : Bool) → (a && rest) ≡ true → rest ≡ true
back_true true rest e = e
back_true false rest e = absurd cc

pub starts_rise : (end : ℕ) (p : Place) (ss : List Start) → are_starts end p ss ≡ true → RisesFrom p.serial (places_of_starts ss)
starts_rise end p [] is = tt
starts_rise end p (s ∷ ss) is =
    let here = front_true (is_start end p s) (are_starts end (behind s.place) ss) is in
    (ltb-true p.serial s.place.serial (front_true (nat_lt p.serial s.place.serial) _ here), starts_rise end (behind s.place) ss (back_true (is_start end p s) (are_starts end (behind s.place) ss) is))

-- ---- where the transaction of a data record stands

some_at : (ps : List Place) (k : ℕ) (p : Place) → slice_get ps k ≡ Some p → (k < length ps) × (get_or ps k p ≡ p)
some_at [] k p is = absurd cc
some_at (q ∷ ps) zero p is = (omega arith, cc is)
some_at (q ∷ ps) (suc k) p is = let rest = some_at ps k p is in (omega (arith, rest.0), rest.1)

abbrev pub Parts : ℕ → List Place → ℕ → Type 0
Parts tid ps n = IsPartitionPoint (λ (p : Place). ltb p.serial tid ≡ true) (λ (p : Place). ltb p.serial tid ≡ false) ps n

pub all_before : (tid : ℕ) (ps : List Place) (n : ℕ) → Parts tid ps n → Before n ps tid
all_before tid ps n parts k p less is =
    let there = some_at ps k p is in
    subst (λ (q : Place). q.serial < tid) there.1 (ltb-true _ _ (parts.0 k p (omega arith) less))

pub none_before_it : (tid : ℕ) (ps : List Place) (n : ℕ) → Parts tid ps n → NotBefore n ps tid
none_before_it tid ps n parts k p more is =
    let there = some_at ps k p is in
    subst (λ (q : Place). tid ≤ q.serial) there.1 (ltb-false _ _ (parts.1 k p more there.0))

pub some_within : {X : Type 0} (xs : List X) (k : ℕ) (x : X) → slice_get xs k ≡ Some x → k < length xs
some_within [] k x is = absurd cc
some_within (y ∷ xs) zero x is = omega arith
some_within (y ∷ xs) (suc k) x is = omega (arith, some_within xs k x is)

pub got_at : {X : Type 0} (xs : List X) (k : ℕ) (x : X) → k < length xs → x ≡ get_or xs k x → slice_get xs k ≡ Some x
got_at [] k x within is = absurd (omega (arith, within))
got_at (y ∷ xs) zero x within is = ap (λ z. Some z) (sym is)
got_at (y ∷ xs) (suc k) x within is = got_at xs k x (omega (arith, within)) is

-- the place there is of another transaction
pub not_its : (ps : List Place) (n : ℕ) (q p : Place) (tid : ℕ) → slice_get ps n ≡ Some q → slice_get ps n ≡ Some p → (q.serial == tid) ≡ false → p.serial ≡ tid → ⊥
not_its ps n q p tid here there apart same =
    let one : Some q ≡ Some p = sym here ∙ there in
    let is : q ≡ p = cc one in
    eqb-false q.serial tid apart (ap (λ (x : Place). x.serial) is ∙ same)
