-- The transactions of a list and the objects that it holds are counted.
use Rattle.std.proofs.Common.{◌≡◌, ℕ, zero, suc, ◌+◌, add-one, ◌-◌, ◌^◌, ◌<◌, ◌≤◌, Bool, true, false, cond, eqb, leb, ltb, List, [], ◌∷◌, ◌++◌, append-nil, append_assoc, length, length-append, take, take_all, filter, Option, Some, None, refl, sym, ap, subst, ◌∙◌, arith}
use Rattle.std.specs.Prelude.{slice_get, option_and_then, option_map}
use Rattle.std.specs.List.{AllByRecursion, flat_map, sum_by}
use Rattle.std.specs.Cmp.{nat_cmp_total}
use Rattle.std.specs.Ordering.{nat_cmp}
use Rattle.std.specs.FinSet.{FinSet, empty, from_list, from_list_push, insert, nat_cmp-IsAntisymmetric}
use Rattle.std.proofs.lemmas.Bool.{eq-eqb, eqb-true, le-leb, lt-ltb, ltb-true, ne_eqb}
use Rattle.std.proofs.lemmas.Grind.{flat_map-append}
use Rattle.std.proofs.lemmas.List.Sums.{sum_by-cons}
use Rattle.zb_model.specs.declared.data.Change.{Change}
use Rattle.zb_model.specs.declared.data.Transaction.{Transaction}
use Rattle.zb_model.specs.Database.{IsDatabase, newest_tid}
use Rattle.zb_model.specs.Queries.{change_at, changes_up_to, first_after, first_tid_after, is_up_to, oids_of, transaction_at}
use Rattle.zb_model.specs.SerialLaws.{RisesTo, database_rises}
use Rattle.zb_model.specs.Stores.{ReadKeepsRest, StoreState}
use Rattle.script_runs.specs.Summary.{held_objects, is_held_in}
use Rattle.script_runs.specs.Counted.{AreCounted, held_among, oids_in, with_object}

pub read_then : (a b c : StoreState) → ReadKeepsRest a b → ReadKeepsRest b c → ReadKeepsRest a c
read_then a b c f g = g ∙ ap (λ (s : StoreState). record s { read_faults = c.read_faults }) f

-- ---- one object more

filter_append : {A : Type 0} (p : A → Bool) (xs ys : List A) → filter p (xs ++ ys) ≡ filter p xs ++ filter p ys
filter_append p [] ys = refl
filter_append {A = A} p (x ∷ xs) ys = by_test (p x) (filter_append p xs ys)
  where
    by_test : (b : Bool) → filter p (xs ++ ys) ≡ filter p xs ++ filter p ys → cond b (x ∷ filter p (xs ++ ys)) (filter p (xs ++ ys)) ≡ cond b (x ∷ filter p xs) (filter p xs) ++ filter p ys
    by_test true is = ap (λ (zs : List A). x ∷ zs) is
    by_test false is = is

module _ (list : List Transaction) where
  held_push : (oids : List ℕ) (oid : ℕ) → held_among list (oids ++ oid ∷ []) ≡ with_object list (held_among list oids) oid
  held_push oids oid = ap (λ (ns : List ℕ). from_list {R = nat_cmp} ns) (filter_append (is_held_in list) oids (oid ∷ [])) ∙ by_test (is_held_in list oid)
    where
      by_test : (b : Bool) → from_list {R = nat_cmp} (filter (is_held_in list) oids ++ cond b (oid ∷ []) []) ≡ cond b (insert (held_among list oids) oid) (held_among list oids)
      by_test true = from_list_push nat_cmp_total nat_cmp-IsAntisymmetric (filter (is_held_in list) oids) oid
      by_test false = ap (λ (ns : List ℕ). from_list {R = nat_cmp} ns) (append-nil (filter (is_held_in list) oids))

-- ---- the changes of a transaction

placed : (changes : List Change) (n : ℕ) (c : Change) → slice_get changes n ≡ Some c → oids_in (take (suc n) changes) ≡ oids_in (take n changes) ++ c.oid ∷ []
placed [] n c is = absurd cc
placed (x ∷ xs) zero c is = let same : x ≡ c = cc in ap (λ (y : Change). y.oid ∷ []) same
placed (x ∷ xs) (suc n) c is = ap (λ (ns : List ℕ). x.oid ∷ ns) (placed xs n c is)

oids_more : (before : List ℕ) (changes : List Change) (n : ℕ) (c : Change) → slice_get changes n ≡ Some c → before ++ oids_in (take (n + 1) changes) ≡ (before ++ oids_in (take n changes)) ++ c.oid ∷ []
oids_more before changes n c is = rw add-one (ap (λ (ns : List ℕ). before ++ ns) (placed changes n c is) ∙ sym (append_assoc before (oids_in (take n changes)) (c.oid ∷ [])))

change_is : (tid number : ℕ) (list : List Transaction) (x : Transaction) → transaction_at tid list ≡ Some x → change_at tid number list ≡ slice_get x.changes number
change_is tid number list x at = ap (option_and_then (λ (t : Transaction). slice_get t.changes number)) at

got : (tid number : ℕ) (now list : List Transaction) (x : Transaction) (r : Option Change) (c : Change) → now ≡ list → transaction_at tid list ≡ Some x → r ≡ change_at tid number now → r ≡ Some c → slice_get x.changes number ≡ Some c
got tid number now list x r c same at is some = sym (change_is tid number list x at) ∙ ap (change_at tid number) (sym same) ∙ sym is ∙ some

none_got : {A : Type 0} (xs : List A) (n : ℕ) → slice_get xs n ≡ None → length xs ≤ n
none_got [] n is = omega arith
none_got (x ∷ xs) zero is = absurd cc
none_got (x ∷ xs) (suc n) is = omega (arith, none_got xs n is)

-- the objects of its first changes were taken
abbrev pub Taken : List Transaction → ℕ → ℕ → FinSet nat_cmp → FinSet nat_cmp → Type 0
Taken list tid number old found = (x : Transaction) (before : List ℕ) → transaction_at tid list ≡ Some x → old ≡ held_among list before → found ≡ held_among list (before ++ oids_in (take number x.changes))

pub taken_first : (list : List Transaction) (tid : ℕ) (old : FinSet nat_cmp) → Taken list tid 0 old old
taken_first list tid old = λ x before at is. is ∙ ap (held_among list) (sym (append-nil before))

module _ (list now : List Transaction) (tid number : ℕ) (old found : FinSet nat_cmp) (same : now ≡ list) (taken : Taken list tid number old found) (r : Option Change) (is : r ≡ change_at tid number now) where
  pub taken_more : (c : Change) → r ≡ Some c → Taken list tid (number + 1) old (with_object list found c.oid)
  taken_more c some = λ x before at was.
      ap (λ (s : FinSet nat_cmp). with_object list s c.oid) (taken x before at was)
      ∙ sym (ap (held_among list) (oids_more before x.changes number c (got tid number now list x r c same at is some)) ∙ held_push list (before ++ oids_in (take number x.changes)) c.oid)

  all_when : (x : Transaction) (before : List ℕ) → transaction_at tid list ≡ Some x → old ≡ held_among list before → length x.changes ≤ number → found ≡ held_among list (before ++ oids_of x)
  all_when x before at was long = taken x before at was ∙ ap (λ (cs : List Change). held_among list (before ++ oids_in cs)) (take_all number x.changes long)

  pub taken_none : r ≡ None → (x : Transaction) (before : List ℕ) → transaction_at tid list ≡ Some x → old ≡ held_among list before → found ≡ held_among list (before ++ oids_of x)
  taken_none none x before at was = all_when x before at was (none_got x.changes number (sym (change_is tid number list x at) ∙ ap (change_at tid number) (sym same) ∙ sym is ∙ none))

-- it has no more of them than all that stand up to it
changes_within : (tid : ℕ) (list : List Transaction) (x : Transaction) → transaction_at tid list ≡ Some x → length x.changes ≤ changes_up_to tid list
changes_within tid [] x at = absurd cc
changes_within tid (y ∷ list) x at = by_test (eqb y.tid tid) refl (λ rest. changes_within tid list x rest)
  where
    more : (b : Bool) (n : ℕ) → n ≤ changes_up_to tid list → n ≤ sum_by (λ (t : Transaction). length t.changes) (cond b (y ∷ filter (is_up_to tid) list) (filter (is_up_to tid) list))
    more true n few = omega (arith, few, sum_by-cons (λ (t : Transaction). length t.changes) y (filter (is_up_to tid) list))
    more false n few = few

    by_test : (b : Bool) → eqb y.tid tid ≡ b → (transaction_at tid list ≡ Some x → length x.changes ≤ changes_up_to tid list) → length x.changes ≤ changes_up_to tid (y ∷ list)
    by_test true e few =
        let found : Some y ≡ Some x = sym (ap (λ (b : Bool). cond b (Some y) (transaction_at tid list)) e) ∙ at in
        let same : y ≡ x = cc in
        let long : length y.changes ≡ length x.changes = ap (λ (t : Transaction). length t.changes) same in
        let up_to : leb y.tid tid ≡ true = le-leb y.tid tid (omega (arith, eqb-true y.tid tid e)) in
        let whole : changes_up_to tid (y ∷ list) ≡ sum_by (λ (t : Transaction). length t.changes) (y ∷ filter (is_up_to tid) list) = ap (λ (b : Bool). sum_by (λ (t : Transaction). length t.changes) (cond b (y ∷ filter (is_up_to tid) list) (filter (is_up_to tid) list))) up_to in
        omega (arith, whole, long, sum_by-cons (λ (t : Transaction). length t.changes) y (filter (is_up_to tid) list))
    by_test false e few = more (leb y.tid tid) (length x.changes) (few (sym (ap (λ (b : Bool). cond b (Some y) (transaction_at tid list)) e) ∙ at))

pub taken_all : (list : List Transaction) (tid number count : ℕ) (old found : FinSet nat_cmp) → Taken list tid number old found → count ≡ changes_up_to tid list → count ≤ number
    → (x : Transaction) (before : List ℕ) → transaction_at tid list ≡ Some x → old ≡ held_among list before → found ≡ held_among list (before ++ oids_of x)
taken_all list tid number count old found taken is past x before at was =
    taken x before at was ∙ ap (λ (cs : List Change). held_among list (before ++ oids_in cs)) (take_all number x.changes (omega (arith, is, past, changes_within tid list x at)))

-- ---- transaction by transaction

pub counted_first : (list : List Transaction) (found : FinSet nat_cmp) → IsDatabase list → found ≡ empty → AreCounted list 0 0 found
counted_first list found is none = record { front = []; rest = list; parts = refl; before = tt; behind = database_rises list is; count = refl; within = omega arith; found = none }

first_of : List Transaction → Option Transaction
first_of [] = None
first_of (x ∷ list) = Some x

none_above : (s : ℕ) (front rest : List Transaction) → AllByRecursion (λ x. x.tid ≤ s) front → first_after s (front ++ rest) ≡ first_after s rest
none_above s [] rest before = refl
none_above s (x ∷ front) rest before = ap (λ (b : Bool). cond b (Some x) (first_after s (front ++ rest))) (low (ltb s x.tid) refl) ∙ none_above s front rest before.1
  where
    low : (b : Bool) → ltb s x.tid ≡ b → ltb s x.tid ≡ false
    low true e = absurd (omega (arith, before.0, ltb-true s x.tid e))
    low false e = e

at_behind : (s : ℕ) (front rest : List Transaction) (x : Transaction) → AllByRecursion (λ y. y.tid ≤ s) front → s < x.tid → transaction_at x.tid (front ++ x ∷ rest) ≡ Some x
at_behind s [] rest x before above = ap (λ (b : Bool). cond b (Some x) (transaction_at x.tid rest)) (eq-eqb x.tid x.tid refl)
at_behind s (y ∷ front) rest x before above =
    ap (λ (b : Bool). cond b (Some y) (transaction_at x.tid (front ++ x ∷ rest))) (ne_eqb y.tid x.tid (λ same. omega (arith, same, before.0, above))) ∙ at_behind s front rest x before.1 above

all_up_to : (s n : ℕ) (xs : List Transaction) → s ≤ n → AllByRecursion (λ x. x.tid ≤ s) xs → AllByRecursion (λ x. x.tid ≤ n) xs
all_up_to s n [] le all = tt
all_up_to s n (x ∷ xs) le all = (omega (arith, all.0, le), all_up_to s n xs le all.1)

all_push : (n : ℕ) (xs : List Transaction) (x : Transaction) → AllByRecursion (λ y. y.tid ≤ n) xs → x.tid ≤ n → AllByRecursion (λ y. y.tid ≤ n) (xs ++ x ∷ [])
all_push n [] x all le = (le, tt)
all_push n (y ∷ xs) x all le = (all.0, all_push n xs x all.1 le)

rises_bounded : (low high : ℕ) (list : List Transaction) → RisesTo low high list → low ≤ high
rises_bounded low high [] h = h
rises_bounded low high (x ∷ list) h = omega (arith, h.0, rises_bounded x.tid high list h.1)

oids_push : (front : List Transaction) (x : Transaction) → flat_map oids_of (front ++ x ∷ []) ≡ flat_map oids_of front ++ oids_of x
oids_push front x = flat_map-append oids_of front (x ∷ []) ∙ ap (λ (ns : List ℕ). flat_map oids_of front ++ ns) (append-nil (oids_of x))

-- the first of the rest, with its tid
record NextOne (high seen tid : ℕ) (rest : List Transaction) : Type 0 where
  transaction : Transaction
  later : List Transaction
  parts : rest ≡ transaction ∷ later
  tid_is : transaction.tid ≡ tid
  above : seen < transaction.tid
  rises : RisesTo transaction.tid high later

-- what a store answers of the next one
module _ (list now : List Transaction) (seen count : ℕ) (found : FinSet nat_cmp) (c : AreCounted list seen count found) (same : now ≡ list) (r : Option ℕ) (is : r ≡ first_tid_after seen now) where
  next_is : r ≡ option_map (λ (t : Transaction). t.tid) (first_after seen c.rest)
  next_is = is ∙ ap (first_tid_after seen) (same ∙ c.parts) ∙ ap (option_map (λ (t : Transaction). t.tid)) (none_above seen c.front c.rest c.before)

  -- there is none
  none_left : (rest : List Transaction) → RisesTo seen (newest_tid list) rest → r ≡ option_map (λ (t : Transaction). t.tid) (first_after seen rest) → r ≡ None → rest ≡ []
  none_left [] rises next none = refl
  none_left (x ∷ rest) rises next none =
      let first : first_after seen (x ∷ rest) ≡ Some x = ap (λ (b : Bool). cond b (Some x) (first_after seen rest)) (lt-ltb seen x.tid rises.0) in
      let some : r ≡ Some x.tid = next ∙ ap (option_map (λ (t : Transaction). t.tid)) first in
      absurd (let both = sym none ∙ some in cc)

  pub counted_all : r ≡ None → (count ≡ length list) × (found ≡ held_objects list)
  counted_all none =
      let all : list ≡ c.front = c.parts ∙ ap (λ (ts : List Transaction). c.front ++ ts) (none_left c.rest c.behind next_is none) ∙ append-nil c.front in
      (c.count ∙ ap (length {A = Transaction}) (sym all), c.found ∙ ap (λ (ts : List Transaction). held_among list (flat_map oids_of ts)) (sym all))

  -- there is one
  next_one : (rest : List Transaction) → RisesTo seen (newest_tid list) rest → r ≡ option_map (λ (t : Transaction). t.tid) (first_after seen rest) → (tid : ℕ) → r ≡ Some tid → NextOne (newest_tid list) seen tid rest
  next_one [] rises next tid some = absurd (let both = sym some ∙ next in cc)
  next_one (x ∷ rest) rises next tid some =
      let first : first_after seen (x ∷ rest) ≡ Some x = ap (λ (b : Bool). cond b (Some x) (first_after seen rest)) (lt-ltb seen x.tid rises.0) in
      let both : Some x.tid ≡ Some tid = sym (next ∙ ap (option_map (λ (t : Transaction). t.tid)) first) ∙ some in
      record { transaction = x; later = rest; parts = refl; tid_is = cc; above = rises.0; rises = rises.1 }

  pub counted_more : (tid : ℕ) (more : FinSet nat_cmp) → r ≡ Some tid → ((x : Transaction) (before : List ℕ) → transaction_at tid list ≡ Some x → found ≡ held_among list before → more ≡ held_among list (before ++ oids_of x))
      → AreCounted list tid (count + 1) more
  counted_more tid more some takes =
      let n = next_one c.rest c.behind next_is tid some in
      let x = n.transaction in
      let whole : list ≡ c.front ++ x ∷ n.later = c.parts ∙ ap (λ (ts : List Transaction). c.front ++ ts) n.parts in
      let at : transaction_at x.tid list ≡ Some x = ap (transaction_at x.tid) whole ∙ at_behind seen c.front n.later x c.before n.above in
      record {
        front = c.front ++ x ∷ [];
        rest = n.later;
        parts = whole ∙ sym (append_assoc c.front (x ∷ []) n.later);
        before = all_push tid c.front x (all_up_to seen tid c.front (omega (arith, n.above, n.tid_is)) c.before) (omega (arith, n.tid_is));
        behind = subst (λ (k : ℕ). RisesTo k (newest_tid list) n.later) n.tid_is n.rises;
        count = omega (arith, c.count, length-append c.front (x ∷ []));
        within = omega (arith, c.within, n.above, n.tid_is);
        found = takes x (flat_map oids_of c.front) (ap (λ (k : ℕ). transaction_at k list) (sym n.tid_is) ∙ at) c.found ∙ ap (held_among list) (sym (oids_push c.front x));
      }

-- so many there can't be
pub counted_bounded : (list : List Transaction) (seen count : ℕ) (found : FinSet nat_cmp) → AreCounted list seen count found → IsDatabase list → count < 2 ^ 64 - 1
counted_bounded list seen count found c is = omega (arith, c.within, rises_bounded seen (newest_tid list) c.rest c.behind, is.bounded)
