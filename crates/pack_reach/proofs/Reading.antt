-- A transaction of a list, read by its changes one at a time.
use Rattle.std.proofs.Common.{◌≡◌, ℕ, zero, suc, ◌+◌, add-one, ◌<◌, ◌≤◌, Bool, true, false, cond, eqb, leb, ltb, List, [], ◌∷◌, length, take, take_all, filter, Option, Some, None, refl, sym, ap, subst, ◌∙◌, arith}
use Rattle.std.specs.Prelude.{slice_get, option_and_then, option_map}
use Rattle.std.specs.List.{AllByRecursion, sum_by}
use Rattle.std.specs.Ordering.{nat_cmp}
use Rattle.std.specs.FinSet.{FinSet}
use Rattle.std.proofs.lemmas.Bool.{eq-eqb, eqb-true, le-leb, ltb-false, ne_eqb}
use Rattle.std.proofs.lemmas.List.Sums.{sum_by-cons}
use Rattle.zb_model.specs.declared.data.Change.{Change}
use Rattle.zb_model.specs.declared.data.Transaction.{Transaction}
use Rattle.pack_reach.specs.Uncollected.{with_change, with_changes}
use Rattle.pack_reach.proofs.Seeing.{next_is_above}
use Rattle.zb_model.specs.Queries.{change_at, changes_up_to, first_after, first_tid_after, is_up_to, transaction_at}

by_bool : (P : Bool → Type 0) (b : Bool) → (b ≡ true → P true) → (b ≡ false → P false) → P b
by_bool P true t f = t refl
by_bool P false t f = f refl

-- ---- the transaction with a tid

pub has_its_tid : (tid : ℕ) (list : List Transaction) (t : Transaction) → transaction_at tid list ≡ Some t → t.tid ≡ tid
has_its_tid tid [] t is = absurd cc
has_its_tid tid (x ∷ xs) t is =
    let P : Bool → Type 0 = λ b. cond b (Some x) (transaction_at tid xs) ≡ Some t → t.tid ≡ tid in
    by_bool P (eqb x.tid tid) (λ e found. let same : x ≡ t = cc in ap (λ (y : Transaction). y.tid) (sym same) ∙ eqb-true x.tid tid e) (λ e found. has_its_tid tid xs t found) is

-- the first one above a number, by its tid
pub record NextFound (s tid : ℕ) (list : List Transaction) : Type 0 where
  pub transaction : Transaction
  pub next : first_after s list ≡ Some transaction
  pub tid_is : transaction.tid ≡ tid
  pub at : transaction_at tid list ≡ Some transaction

pub next_found : (s tid : ℕ) (list : List Transaction) → first_tid_after s list ≡ Some tid → NextFound s tid list
next_found s tid [] is = absurd cc
next_found s tid (x ∷ xs) is = by_test (ltb s x.tid) refl (λ rest. next_found s tid xs rest)
  where
    by_test : (b : Bool) → ltb s x.tid ≡ b → (first_tid_after s xs ≡ Some tid → NextFound s tid xs) → NextFound s tid (x ∷ xs)
    by_test true above next =
        let first : first_after s (x ∷ xs) ≡ Some x = ap (λ (b : Bool). cond b (Some x) (first_after s xs)) above in
        let some : Some x.tid ≡ Some tid = sym (ap (option_map (λ (t : Transaction). t.tid)) first) ∙ is in
        let same : x.tid ≡ tid = cc in
        record { transaction = x; next = first; tid_is = same; at = ap (λ (b : Bool). cond b (Some x) (transaction_at tid xs)) (eq-eqb x.tid tid same) }
    by_test false below next =
        let behind : first_after s (x ∷ xs) ≡ first_after s xs = ap (λ (b : Bool). cond b (Some x) (first_after s xs)) below in
        let more = next (sym (ap (option_map (λ (t : Transaction). t.tid)) behind) ∙ is) in
        let low : x.tid ≤ s = ltb-false s x.tid below in
        let high : s < more.transaction.tid = next_is_above s xs more.transaction more.next in
        let apart : eqb x.tid tid ≡ false = ne_eqb x.tid tid (λ same. omega (arith, same, low, high, more.tid_is)) in
        record { transaction = more.transaction; next = behind ∙ more.next; tid_is = more.tid_is; at = ap (λ (b : Bool). cond b (Some x) (transaction_at tid xs)) apart ∙ more.at }

-- as a store answers it
pub next_from : (s tid : ℕ) (now list : List Transaction) (r : Option ℕ) → now ≡ list → r ≡ first_tid_after s now → r ≡ Some tid → NextFound s tid list
next_from s tid now list r same is some = next_found s tid list (ap (first_tid_after s) (sym same) ∙ sym is ∙ some)

pub none_next : (s : ℕ) (list : List Transaction) → first_tid_after s list ≡ None → first_after s list ≡ None
none_next s list is = by_option (first_after s list) is
  where
    by_option : (o : Option Transaction) → option_map (λ (t : Transaction). t.tid) o ≡ None → o ≡ None
    by_option None e = refl
    by_option (Some x) e = absurd cc

-- ---- its changes

-- the change at a place of it
pub change_is : (tid number : ℕ) (list : List Transaction) (x : Transaction) → transaction_at tid list ≡ Some x → change_at tid number list ≡ slice_get x.changes number
change_is tid number list x at = ap (option_and_then (λ (t : Transaction). slice_get t.changes number)) at

-- it has no more of them than all that stand up to it
pub changes_within : (tid : ℕ) (list : List Transaction) (x : Transaction) → transaction_at tid list ≡ Some x → length x.changes ≤ changes_up_to tid list
changes_within tid [] x at = absurd cc
changes_within tid (y ∷ list) x at = by_test (eqb y.tid tid) refl (λ rest. changes_within tid list x rest)
  where
    more : (b : Bool) (n : ℕ) → n ≤ changes_up_to tid list → n ≤ sum_by (λ (t : Transaction). length t.changes) (cond b (y ∷ filter (is_up_to tid) list) (filter (is_up_to tid) list))
    more true n few = omega (arith, few, sum_by-cons (λ (t : Transaction). length t.changes) y (filter (is_up_to tid) list))
    more false n few = few

    by_test : (b : Bool) → eqb y.tid tid ≡ b → (transaction_at tid list ≡ Some x → length x.changes ≤ changes_up_to tid list) → length x.changes ≤ changes_up_to tid (y ∷ list)
    by_test true e few =
        let found : Some y ≡ Some x = sym (ap (λ (b : Bool). cond b (Some y) (transaction_at tid list)) e) ∙ at in
        let same : y ≡ x = cc in
        let long : length y.changes ≡ length x.changes = ap (λ (t : Transaction). length t.changes) same in
        let up_to : leb y.tid tid ≡ true = le-leb y.tid tid (omega (arith, eqb-true y.tid tid e)) in
        let whole : changes_up_to tid (y ∷ list) ≡ sum_by (λ (t : Transaction). length t.changes) (y ∷ filter (is_up_to tid) list) = ap (λ (b : Bool). sum_by (λ (t : Transaction). length t.changes) (cond b (y ∷ filter (is_up_to tid) list) (filter (is_up_to tid) list))) up_to in
        omega (arith, whole, long, sum_by-cons (λ (t : Transaction). length t.changes) y (filter (is_up_to tid) list))
    by_test false e few = more (leb y.tid tid) (length x.changes) (few (sym (ap (λ (b : Bool). cond b (Some y) (transaction_at tid list)) e) ∙ at))

-- ---- each of them

pub each_got : {A : Type 0} (P : A → Type 0) (xs : List A) (n : ℕ) (c : A) → AllByRecursion P xs → slice_get xs n ≡ Some c → P c
each_got P [] n c all is = absurd cc
each_got P (x ∷ xs) zero c all is = let same : x ≡ c = cc in subst P same all.0
each_got P (x ∷ xs) (suc n) c all is = each_got P xs n c all.1 is

each_placed : {A : Type 0} (P : A → Type 0) (xs : List A) (n : ℕ) (c : A) → AllByRecursion P (take n xs) → slice_get xs n ≡ Some c → P c → AllByRecursion P (take (suc n) xs)
each_placed P [] n c all is one = absurd cc
each_placed P (x ∷ xs) zero c all is one = let same : x ≡ c = cc in (subst P (sym same) one, tt)
each_placed P (x ∷ xs) (suc n) c all is one = (all.0, each_placed P xs n c all.1 is one)

pub each_more_got : {A : Type 0} (P : A → Type 0) (xs : List A) (n : ℕ) (c : A) → AllByRecursion P (take n xs) → slice_get xs n ≡ Some c → P c → AllByRecursion P (take (n + 1) xs)
each_more_got P xs n c all is one = rw add-one (each_placed P xs n c all is one)

pub each_up_to : {A : Type 0} (P : A → Type 0) (xs : List A) (n : ℕ) → AllByRecursion P (take n xs) → length xs ≤ n → AllByRecursion P xs
each_up_to P [] n all long = tt
each_up_to P (x ∷ xs) zero all long = absurd (omega (arith, long))
each_up_to P (x ∷ xs) (suc n) all long = (all.0, each_up_to P xs n all.1 (omega (arith, long)))

pub none_got : {A : Type 0} (xs : List A) (n : ℕ) → slice_get xs n ≡ None → length xs ≤ n
none_got [] n is = omega arith
none_got (x ∷ xs) zero is = absurd cc
none_got (x ∷ xs) (suc n) is = omega (arith, none_got xs n is)

-- ---- what a store answers of it

-- the change that was answered is the one at its place
pub got : (tid number : ℕ) (now list : List Transaction) (x : Transaction) (r : Option Change) (c : Change) → now ≡ list → transaction_at tid list ≡ Some x → r ≡ change_at tid number now → r ≡ Some c → slice_get x.changes number ≡ Some c
got tid number now list x r c same at is some = sym (change_is tid number list x at) ∙ ap (change_at tid number) (sym same) ∙ sym is ∙ some

-- and where there is none, all were
pub got_none : (tid number : ℕ) (now list : List Transaction) (x : Transaction) (r : Option Change) → now ≡ list → transaction_at tid list ≡ Some x → r ≡ change_at tid number now → r ≡ None → length x.changes ≤ number
got_none tid number now list x r same at is none = none_got x.changes number (sym (change_is tid number list x at) ∙ ap (change_at tid number) (sym same) ∙ sym is ∙ none)

-- so many at most were asked for
pub got_all : (tid count number : ℕ) (list : List Transaction) (x : Transaction) → transaction_at tid list ≡ Some x → count ≡ changes_up_to tid list → count ≤ number → length x.changes ≤ number
got_all tid count number list x at is past = omega (arith, is, past, changes_within tid list x at)

-- ---- its objects are taken

with_placed : (s : FinSet nat_cmp) (changes : List Change) (n : ℕ) (c : Change) → slice_get changes n ≡ Some c → with_changes s (take (suc n) changes) ≡ with_change (with_changes s (take n changes)) c
with_placed s [] n c is = absurd cc
with_placed s (x ∷ xs) zero c is = let same : x ≡ c = cc in ap (with_change s) same
with_placed s (x ∷ xs) (suc n) c is = with_placed (with_change s x) xs n c is

pub with_more : (s : FinSet nat_cmp) (changes : List Change) (n : ℕ) (c : Change) → slice_get changes n ≡ Some c → with_changes s (take (n + 1) changes) ≡ with_change (with_changes s (take n changes)) c
with_more s changes n c is = rw add-one (with_placed s changes n c is)

pub with_all : (s : FinSet nat_cmp) (changes : List Change) (n : ℕ) (r : FinSet nat_cmp) → r ≡ with_changes s (take n changes) → length changes ≤ n → r ≡ with_changes s changes
with_all s changes n r is long = is ∙ ap (with_changes s) (take_all n changes long)
