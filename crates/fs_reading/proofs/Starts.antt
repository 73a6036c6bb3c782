-- Transactions of a list by the serials of their places.
use Rattle.std.proofs.Common.{◌≡◌, ℕ, suc, ◌+◌, ◌-◌, ◌^◌, ◌<◌, ◌≤◌, Bool, true, false, cond, not, eqb, ltb, leb, List, [], ◌∷◌, map, All, Option, Some, None, refl, sym, ap, ◌∙◌, arith}
use Rattle.std.specs.Prelude.{slice_get, option_map}
use Rattle.std.specs.List.{find, position_or_len}
use Rattle.std.specs.List.Sorted.{IsNonDecreasingBy}
use Rattle.std.proofs.lemmas.Bool.Decides.{nat_tests}
use Rattle.std.proofs.lemmas.Bool.{leb-true, leb-false, eq-eqb, ne_eqb, lt-leb}
use Rattle.std.proofs.lemmas.List.Folds.{find_at}
use Rattle.std.proofs.lemmas.List.Elements.{All-head, All-tail, All-weaker}
use Rattle.zb_model.specs.declared.data.Transaction.{Transaction}
use Rattle.zb_model.specs.Queries.{transaction_at, first_after, first_tid_after}
use Rattle.fs_index.specs.declared.place.Place.{Place}
use Rattle.fs_records.specs.Blocks.{Reached, Begins}
use Rattle.fs_index.specs.Places.{IsBefore, IsRising}
use Rattle.fs_records.specs.Databases.{reading_of}
use Rattle.fs_records.specs.Lookups.{are_before_end}
use Rattle.fs_index.specs.Found.{first_from}
use Rattle.fs_reading.specs.Cases.{by_bool}

abbrev serials : List Place → List ℕ
serials ps = map (λ (p : Place). p.serial) ps

abbrev tids : List Transaction → List ℕ
tids ts = map (λ (t : Transaction). t.tid) ts

-- the place and the transaction that a test on numbers finds
abbrev place_by : (ℕ → Bool) → List Place → Option Place
place_by q ps = find (λ (p : Place). q p.serial) ps

abbrev transaction_by : (ℕ → Bool) → List Transaction → Option Transaction
transaction_by q ts = find (λ (t : Transaction). q t.tid) ts

-- ---- two lists with the same numbers

position-map : {X : Type 0} (f : X → ℕ) (q : ℕ → Bool) (xs : List X) → position_or_len q (map f xs) ≡ position_or_len (λ x. q (f x)) xs
position-map f q [] = refl
position-map f q (x ∷ xs) = ap (λ (n : ℕ). cond (not (q (f x))) (1 + n) 0) (position-map f q xs)

find-map : {X : Type 0} (f : X → ℕ) (q : ℕ → Bool) (xs : List X) → find q (map f xs) ≡ option_map f (find (λ x. q (f x)) xs)
find-map f q [] = refl
find-map f q (x ∷ xs) =
    let P : Bool → Type 0 = λ b. cond b (Some (f x)) (find q (map f xs)) ≡ option_map f (cond b (Some x) (find (λ y. q (f y)) xs)) in
    by_bool P (q (f x)) (λ e. refl) (λ e. find-map f q xs)

none-map : {X : Type 0} (f : X → ℕ) (o : Option X) → option_map f o ≡ None → o ≡ None
none-map f None e = refl
none-map f (Some x) e = absurd cc

-- a place that is found has a number, and the transaction with that number is found
pub record FoundBy (q : ℕ → Bool) (ps : List Place) (ts : List Transaction) (p : Place) : Type 0 where
  pub number : ℕ
  pub is : slice_get ps number ≡ Some p
  pub finds : (t : Transaction) → slice_get ts number ≡ Some t → transaction_by q ts ≡ Some t

found_by : (q : ℕ → Bool) (ps : List Place) (ts : List Transaction) (p : Place) → serials ps ≡ tids ts → place_by q ps ≡ Some p → FoundBy q ps ts p
found_by q ps ts p same found =
    let number : ℕ = position_or_len (λ (x : Place). q x.serial) ps in
    let there : number ≡ position_or_len (λ (t : Transaction). q t.tid) ts = sym (position-map (λ (x : Place). x.serial) q ps) ∙ ap (position_or_len q) same ∙ position-map (λ (t : Transaction). t.tid) q ts in
    record {
      number = number;
      is = sym (find_at (λ (x : Place). q x.serial) ps) ∙ found;
      finds = λ t e. find_at (λ (x : Transaction). q x.tid) ts ∙ ap (slice_get ts) (sym there) ∙ e;
    }

none_by : (q : ℕ → Bool) (ps : List Place) (ts : List Transaction) → serials ps ≡ tids ts → place_by q ps ≡ None → transaction_by q ts ≡ None
none_by q ps ts same none =
    none-map (λ (t : Transaction). t.tid) (transaction_by q ts)
    (sym (find-map (λ (t : Transaction). t.tid) q ts) ∙ ap (find q) (sym same) ∙ find-map (λ (p : Place). p.serial) q ps ∙ ap (option_map (λ (p : Place). p.serial)) none)

-- ---- the place with a serial

abbrev has : ℕ → ℕ → Bool
has n serial = eqb serial n

-- the first that isn't below it, if that has it
first_has : (n : ℕ) (ps : List Place) (p : Place) → first_from n ps ≡ Some p → p.serial ≡ n → place_by (has n) ps ≡ Some p
first_has n [] p is e = absurd cc
first_has n (x ∷ xs) p is e =
    let P : Bool → Type 0 = λ b. cond b (Some x) (first_from n xs) ≡ Some p → cond (eqb x.serial n) (Some x) (place_by (has n) xs) ≡ Some p in
    by_bool P (leb n x.serial)
    (λ from here. let same : x ≡ p = cc in ap (λ b. cond b (Some x) (place_by (has n) xs)) (eq-eqb x.serial n (ap (λ (y : Place). y.serial) same ∙ e)) ∙ here)
    (λ below behind. let lower = leb-false n x.serial below in ap (λ b. cond b (Some x) (place_by (has n) xs)) (ne_eqb x.serial n (λ same. omega arith)) ∙ first_has n xs p behind e)
    is

-- none, if all are below it
none_has : (n : ℕ) (ps : List Place) → first_from n ps ≡ None → place_by (has n) ps ≡ None
none_has n [] is = refl
none_has n (x ∷ xs) is =
    let P : Bool → Type 0 = λ b. cond b (Some x) (first_from n xs) ≡ None → cond (eqb x.serial n) (Some x) (place_by (has n) xs) ≡ None in
    by_bool P (leb n x.serial)
    (λ from here. absurd cc)
    (λ below behind. let lower = leb-false n x.serial below in ap (λ b. cond b (Some x) (place_by (has n) xs)) (ne_eqb x.serial n (λ same. omega arith)) ∙ none_has n xs behind)
    is

all_above : (n : ℕ) (ps : List Place) → All (λ (p : Place). n < p.serial) ps → place_by (has n) ps ≡ None
all_above n [] above = refl
all_above n (x ∷ xs) above =
    let here : n < x.serial = All-head (λ (p : Place). n < p.serial) x xs above in
    ap (λ b. cond b (Some x) (place_by (has n) xs)) (ne_eqb x.serial n (λ same. omega arith)) ∙ all_above n xs (All-tail (λ (p : Place). n < p.serial) x xs above)

abbrev Rise : List Place → Type 0
Rise ps = IsNonDecreasingBy (λ (p : Place). p.serial) ps

-- none, if the first that isn't below it is above it
other_has : (n : ℕ) (ps : List Place) (p : Place) → Rise ps → first_from n ps ≡ Some p → (p.serial ≡ n → ⊥) → place_by (has n) ps ≡ None
other_has n [] p rise is other = refl
other_has n (x ∷ xs) p rise is other =
    let P : Bool → Type 0 = λ b. cond b (Some x) (first_from n xs) ≡ Some p → cond (eqb x.serial n) (Some x) (place_by (has n) xs) ≡ None in
    by_bool P (leb n x.serial)
    (λ from here.
    let same : x ≡ p = cc in
    let apart : x.serial ≡ n → ⊥ = λ e. other (sym (ap (λ (y : Place). y.serial) same) ∙ e) in
    let least = leb-true n x.serial from in
    ap (λ b. cond b (Some x) (place_by (has n) xs)) (ne_eqb x.serial n apart) ∙ all_above n xs (λ k d within. higher n x.serial (rise 0 (suc k) d (omega arith) (omega arith)) least apart))
    (λ below behind. let lower = leb-false n x.serial below in ap (λ b. cond b (Some x) (place_by (has n) xs)) (ne_eqb x.serial n (λ same. omega arith)) ∙ other_has n xs p (λ i j d order within. rise (suc i) (suc j) d (omega arith) (omega arith)) behind other)
    is
  where
    higher : (n m : ℕ) {k : ℕ} → m ≤ k → n ≤ m → (m ≡ n → ⊥) → n < k
    higher n m more least apart = omega arith

-- ---- places above a number

-- none, if none is above it
none_above : (n : ℕ) (ps : List Place) → All (λ (p : Place). p.serial ≤ n) ps → place_by (λ m. ltb n m) ps ≡ None
none_above n [] most = refl
none_above n (x ∷ xs) most =
    let here : x.serial ≤ n = All-head (λ (p : Place). p.serial ≤ n) x xs most in
    ap (λ b. cond b (Some x) (place_by (λ m. ltb n m) xs)) (lt-leb (suc n) x.serial (omega arith)) ∙ none_above n xs (All-tail (λ (p : Place). p.serial ≤ n) x xs most)

-- ---- of what was read

-- the transaction with a tid, at the first place that isn't below it
pub with_tid : (bytes : List ℕ) (s : Reached) (tid : ℕ) (starts : List Place) (r : Option Place) (p : Place) → Begins bytes s → starts ≡ s.starts → r ≡ first_from tid starts → r ≡ Some p → p.serial ≡ tid → FoundBy (has tid) s.starts s.list p
with_tid bytes s tid starts r p begins are found is same =
    found_by (has tid) s.starts s.list p (reading_of bytes s begins).starts (first_has tid s.starts p (sym (found ∙ ap (first_from tid) are) ∙ is) same)

pub none_with_tid : (bytes : List ℕ) (s : Reached) (tid : ℕ) (starts : List Place) (r : Option Place) → Begins bytes s → starts ≡ s.starts → r ≡ first_from tid starts → r ≡ None → None ≡ transaction_at tid s.list
none_with_tid bytes s tid starts r begins are found is =
    sym (none_by (has tid) s.starts s.list (reading_of bytes s begins).starts (none_has tid s.starts (sym (found ∙ ap (first_from tid) are) ∙ is)))

pub other_with_tid : (bytes : List ℕ) (s : Reached) (tid : ℕ) (starts : List Place) (r : Option Place) (p : Place) → Begins bytes s → starts ≡ s.starts → IsRising starts → r ≡ first_from tid starts → r ≡ Some p → (p.serial ≡ tid → ⊥) → None ≡ transaction_at tid s.list
other_with_tid bytes s tid starts r p begins are rising found is other =
    let none : place_by (has tid) starts ≡ None = other_has tid starts p rising.serials (sym found ∙ is) other in
    sym (none_by (has tid) s.starts s.list (reading_of bytes s begins).starts (ap (place_by (has tid)) (sym are) ∙ none))

abbrev above : ℕ → ℕ → Bool
above n serial = ltb n serial

first_above : (n : ℕ) (ps : List Place) → first_from (n + 1) ps ≡ place_by (above n) ps
first_above n ps = let next : n + 1 ≡ suc n = omega arith in ap (λ (m : ℕ). first_from m ps) next

-- the first transaction above a tid, at the first place that isn't below the next one
pub above_tid : (bytes : List ℕ) (s : Reached) (tid : ℕ) (starts : List Place) (r : Option Place) (p : Place) → Begins bytes s → starts ≡ s.starts → r ≡ first_from (tid + 1) starts → r ≡ Some p → FoundBy (above tid) s.starts s.list p
above_tid bytes s tid starts r p begins are found is =
    found_by (above tid) s.starts s.list p (reading_of bytes s begins).starts (sym (found ∙ ap (first_from (tid + 1)) are ∙ first_above tid s.starts) ∙ is)

pub none_above_tid : (bytes : List ℕ) (s : Reached) (tid : ℕ) (starts : List Place) (r : Option Place) → Begins bytes s → starts ≡ s.starts → r ≡ first_from (tid + 1) starts → r ≡ None → None ≡ first_after tid s.list
none_above_tid bytes s tid starts r begins are found is =
    sym (none_by (above tid) s.starts s.list (reading_of bytes s begins).starts (sym (found ∙ ap (first_from (tid + 1)) are ∙ first_above tid s.starts) ∙ is))

-- none is above the greatest number
pub none_above_all : (bytes : List ℕ) (s : Reached) (tid : ℕ) → Begins bytes s → 2 ^ 64 ≤ tid + 1 → None ≡ first_after tid s.list
none_above_all bytes s tid begins high =
    let reading = reading_of bytes s begins in
    let below : s.newest < 2 ^ 64 - 1 = omega (arith, reading.is.bounded, reading.newest) in
    let most : All (λ (p : Place). p.serial ≤ tid) s.starts = All-weaker (IsBefore s.newest s.end) (λ (p : Place). p.serial ≤ tid) (λ p b. let least : p.serial ≤ s.newest = b.0 in omega arith) s.starts (are_before_end bytes s begins).starts in
    sym (none_by (above tid) s.starts s.list reading.starts (none_above tid s.starts most))

-- the tid of the first above a number, by the serials
pub tid_above : (bytes : List ℕ) (s : Reached) (tid : ℕ) (starts : List Place) (r : Option ℕ) → Begins bytes s → starts ≡ s.starts → r ≡ option_map (λ (p : Place). p.serial) (first_from (tid + 1) starts) → r ≡ first_tid_after tid s.list
tid_above bytes s tid starts r begins are found =
    let q : ℕ → Bool = above tid in
    found ∙ ap (λ (ps : List Place). option_map (λ (p : Place). p.serial) (first_from (tid + 1) ps)) are ∙ ap (option_map (λ (p : Place). p.serial)) (first_above tid s.starts)
    ∙ sym (find-map (λ (p : Place). p.serial) q s.starts) ∙ ap (find q) (reading_of bytes s begins).starts ∙ find-map (λ (t : Transaction). t.tid) q s.list

pub no_tid_above : (bytes : List ℕ) (s : Reached) (tid : ℕ) → Begins bytes s → 2 ^ 64 ≤ tid + 1 → None ≡ first_tid_after tid s.list
no_tid_above bytes s tid begins high = ap (option_map (λ (t : Transaction). t.tid)) (none_above_all bytes s tid begins high)

-- by a test that two numbers differ, they are the same or not
pub same_by : (r : Bool) (m n : ℕ) → r ≡ not (eqb m n) → r ≡ false → m ≡ n
same_by r m n is e = grind (arith, nat_tests)

pub other_by : (r : Bool) (m n : ℕ) → r ≡ not (eqb m n) → r ≡ true → m ≡ n → ⊥
other_by r m n is e f = grind (arith, nat_tests)
