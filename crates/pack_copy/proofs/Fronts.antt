-- How far a copy has come, and how it goes on.
use Rattle.std.proofs.Common.{◌≡◌, ℕ, zero, suc, ◌+◌, ◌-◌, ◌^◌, ◌<◌, ◌≤◌, Bool, true, false, cond, leb, List, [], ◌∷◌, ◌++◌, length, get_or, map, filter, take, drop, Option, Some, None, refl, sym, ap, subst, ◌∙◌, add-one, arith}
use native.Mathlib.Numerals.{unary_clauses}
use Rattle.std.specs.Prelude.{slice_get, option_map, nat_le}
use Rattle.std.specs.List.{last_or, cons_option, filter_map, AllByRecursion, sum_by}
use Rattle.std.specs.List.Sorted.{IsStrictlyIncreasing}
use Rattle.std.specs.Option.{option_map_or}
use Rattle.std.specs.Ordering.{nat_cmp}
use Rattle.std.specs.FinSet.{FinSet}
use Rattle.std.proofs.lemmas.Bool.{le-leb, lt-leb}
use Rattle.std.proofs.lemmas.List.{append-nil, take-append-drop, take_all}
use Rattle.std.proofs.lemmas.List.Elements.{filter-append, filter_map-append}
use Rattle.zb_model.specs.declared.data.Change.{Change}
use Rattle.zb_model.specs.declared.data.Transaction.{Transaction}
use Rattle.zb_model.specs.Database.{IsDatabase, newest_tid}
use Rattle.zb_model.specs.Packing.{packed_form, packed_one, stays}
use Rattle.zb_model.specs.Queries as queries
use Rattle.zb_model.specs.Queries.{changes_up_to}
use Rattle.fs_index.specs.declared.place.Place.{Place}
use Rattle.fs_records.specs.Below.{last_map}
use Rattle.zb_model.specs.Packs.{change_count}
use Rattle.pack_copy.specs.Copying.{CopyKept}
use Rattle.pack_copy.specs.UpTo.{IsCopiedUpTo, IsCountUpTo}

-- ---- tids rise

abbrev tid_of : Transaction → ℕ
tid_of t = t.tid

abbrev pub Rises : ℕ → List Transaction → Type 0
Rises low [] = Unit {0}
Rises low (t ∷ ts) = (low < t.tid) × Rises t.tid ts

rises : (low : ℕ) (ts : List Transaction) → IsStrictlyIncreasing (low ∷ map (λ t. t.tid) ts) → Rises low ts
rises low [] h = tt
rises low (t ∷ ts) h = (h 0 (omega arith), rises t.tid ts (λ k l. rw add-one (simp unary_clauses at (h (suc k) (omega arith)))))

pub database_rises : (list : List Transaction) → IsDatabase list → Rises 0 list
database_rises list is = rises 0 list is.rising

rises_lower : (low lower : ℕ) (ts : List Transaction) → lower ≤ low → Rises low ts → Rises lower ts
rises_lower low lower [] le h = tt
rises_lower low lower (t ∷ ts) le h = (omega (arith, h.0), h.1)

above : (low m : ℕ) (ts : List Transaction) → m ≤ low → Rises low ts → AllByRecursion (λ (t : Transaction). m < t.tid) ts
above low m [] le h = tt
above low m (t ∷ ts) le h = (omega (arith, h.0), above t.tid m ts (omega (arith, h.0)) h.1)

-- ---- what is left of a transaction has its tid

form_tid : (x y : Transaction) (cs : List Change) → packed_form x cs ≡ Some y → y.tid ≡ x.tid
form_tid x y [] is = absurd cc
form_tid x y (c ∷ cs) is = let same : record x { packed = true; changes = c ∷ cs } ≡ y = cc in ap tid_of (sym same)

pub tid_kept : (t : ℕ) (keep : FinSet nat_cmp) (list : List Transaction) (x y : Transaction) → packed_one t keep list x ≡ Some y → y.tid ≡ x.tid
tid_kept t keep list x y is = by_cases (nat_le x.tid t) is
  where
    left : List Change
    left = filter (stays t keep list x.tid) x.changes

    by_cases : (b : Bool) → cond b (packed_form x left) (Some x) ≡ Some y → y.tid ≡ x.tid
    by_cases true e = form_tid x y left e
    by_cases false e = let same : x ≡ y = cc in ap tid_of (sym same)

module _ (F : Transaction → Option Transaction) (K : (x y : Transaction) → F x ≡ Some y → y.tid ≡ x.tid) where
  rises_left : (low : ℕ) (ts : List Transaction) → Rises low ts → Rises low (filter_map F ts)
  rises_left low [] h = tt
  rises_left low (t ∷ ts) h = by_cases (F t) refl (rises_left t.tid ts h.1)
    where
      by_cases : (o : Option Transaction) → F t ≡ o → Rises t.tid (filter_map F ts) → Rises low (cons_option o (filter_map F ts))
      by_cases None is rest = rises_lower t.tid low (filter_map F ts) (omega (arith, h.0)) rest
      by_cases (Some y) is rest = let same = K t y is in (omega (arith, h.0, same), subst (λ (n : ℕ). Rises n (filter_map F ts)) (sym same) rest)

  all_left : (P : ℕ → Type 0) (ts : List Transaction) → AllByRecursion (λ (t : Transaction). P t.tid) ts → AllByRecursion (λ (t : Transaction). P t.tid) (filter_map F ts)
  all_left P [] all = tt
  all_left P (t ∷ ts) all = by_cases (F t) refl (all_left P ts all.1)
    where
      by_cases : (o : Option Transaction) → F t ≡ o → AllByRecursion (λ (t : Transaction). P t.tid) (filter_map F ts) → AllByRecursion (λ (t : Transaction). P t.tid) (cons_option o (filter_map F ts))
      by_cases None is rest = rest
      by_cases (Some y) is rest = (subst P (sym (K t y is)) all.0, rest)

  -- the next one is later than what is left of those before it
  later_from : (low : ℕ) (o : Option Transaction) (ts : List Transaction) (n : ℕ) (x : Transaction) → option_map_or tid_of o 0 ≤ low → Rises low ts → slice_get ts n ≡ Some x → option_map_or tid_of (last_or o (filter_map F (take n ts))) 0 < x.tid
  later_from low o [] n x le h is = absurd cc
  later_from low o (t ∷ ts) zero x le h is = let same : t ≡ x = cc in omega (arith, h.0, ap tid_of same)
  later_from low o (t ∷ ts) (suc n) x le h is = by_cases (F t) refl (λ p within. later_from t.tid p ts n x within h.1 is)
    where
      by_cases : (p : Option Transaction) → F t ≡ p → ((q : Option Transaction) → option_map_or tid_of q 0 ≤ t.tid → option_map_or tid_of (last_or q (filter_map F (take n ts))) 0 < x.tid)
          → option_map_or tid_of (last_or o (cons_option p (filter_map F (take n ts)))) 0 < x.tid
      by_cases None e rest = rest o (omega (arith, h.0))
      by_cases (Some y) e rest = rest (Some y) (omega (arith, K t y e))

  pub later : (ts : List Transaction) (n : ℕ) (x y : Transaction) → Rises 0 ts → slice_get ts n ≡ Some x → F x ≡ Some y → newest_tid (filter_map F (take n ts)) < y.tid
  later ts n x y h is e = omega (arith, later_from 0 None ts n x (omega arith) h is, K x y e)

-- ---- one transaction more

take_next : (ts : List Transaction) (n : ℕ) (x : Transaction) → slice_get ts n ≡ Some x → take (suc n) ts ≡ take n ts ++ x ∷ []
take_next [] n x is = absurd cc
take_next (t ∷ ts) zero x is = let same : t ≡ x = cc in ap (λ (y : Transaction). y ∷ []) same
take_next (t ∷ ts) (suc n) x is = ap (λ (xs : List Transaction). t ∷ xs) (take_next ts n x is)

pub left_next : (F : Transaction → Option Transaction) (ts : List Transaction) (n : ℕ) (x : Transaction) → slice_get ts n ≡ Some x → filter_map F (take (n + 1) ts) ≡ filter_map F (take n ts) ++ cons_option (F x) []
left_next F ts n x is =
    let suc_is : n + 1 ≡ suc n = omega arith in
    ap (λ (k : ℕ). filter_map F (take k ts)) suc_is ∙ ap (filter_map F) (take_next ts n x is) ∙ filter_map-append F (take n ts) (x ∷ [])

-- nothing is left of it
pub gone_over : (list : List Transaction) (side : List ℕ) (c : CopyKept) (keep : FinSet nat_cmp) (n : ℕ) (x : Transaction) → slice_get list n ≡ Some x → packed_one c.tid keep list x ≡ None → IsCopiedUpTo list side c keep n → IsCopiedUpTo list side c keep (n + 1)
gone_over list side c keep n x is none upto = record {
  copied = upto.copied;
  left = upto.left ∙ sym (left_next (packed_one c.tid keep list) list n x is ∙ ap (λ (o : Option Transaction). filter_map (packed_one c.tid keep list) (take n list) ++ cons_option o []) none ∙ append-nil (filter_map (packed_one c.tid keep list) (take n list)));
}

-- something is left of it
pub some_left : (F : Transaction → Option Transaction) (ts : List Transaction) (n : ℕ) (x y : Transaction) → slice_get ts n ≡ Some x → F x ≡ Some y → filter_map F (take n ts) ≡ filter_map F ts → ⊥
some_left F [] n x y is left same = absurd cc
some_left F (t ∷ ts) zero x y is left same =
    let one : t ≡ x = cc in
    let here : F t ≡ Some y = ap F one ∙ left in
    let all : [] ≡ y ∷ filter_map F ts = same ∙ ap (λ (o : Option Transaction). cons_option o (filter_map F ts)) here in
    absurd cc
some_left F (t ∷ ts) (suc n) x y is left same = by_cases (F t) (λ rest. some_left F ts n x y is left rest) same
  where
    by_cases : (o : Option Transaction) → (filter_map F (take n ts) ≡ filter_map F ts → ⊥) → cons_option o (filter_map F (take n ts)) ≡ cons_option o (filter_map F ts) → ⊥
    by_cases None never e = never e
    by_cases (Some z) never e = let rest : filter_map F (take n ts) ≡ filter_map F ts = cc in never rest

-- ---- where a copy goes on

all_first : (P : ℕ → Type 0) (starts : List Place) (ts : List Transaction) (n : ℕ) → map (λ (p : Place). p.serial) starts ≡ map tid_of ts → ((k : ℕ) (d : Place) → k < n → k < length starts → P (get_or starts k d).serial) → AllByRecursion (λ (t : Transaction). P t.tid) (take n ts)
all_first P starts [] zero same h = tt
all_first P starts [] (suc n) same h = tt
all_first P starts (t ∷ ts) zero same h = tt
all_first P [] (t ∷ ts) (suc n) same h = absurd cc
all_first P (p ∷ ps) (t ∷ ts) (suc n) same h =
    let first : p.serial ≡ t.tid = cc in
    let rest : map (λ (p : Place). p.serial) ps ≡ map tid_of ts = cc in
    (subst P first (h 0 p (omega arith) (omega arith)), all_first P ps ts n rest (λ k d l w. h (suc k) d (omega arith) (omega arith)))

all_behind : (P : ℕ → Type 0) (starts : List Place) (ts : List Transaction) (n : ℕ) → map (λ (p : Place). p.serial) starts ≡ map tid_of ts → ((k : ℕ) (d : Place) → n ≤ k → k < length starts → P (get_or starts k d).serial) → AllByRecursion (λ (t : Transaction). P t.tid) (drop n ts)
all_behind P starts [] zero same h = tt
all_behind P starts [] (suc n) same h = tt
all_behind P [] (t ∷ ts) zero same h = absurd cc
all_behind P [] (t ∷ ts) (suc n) same h = absurd cc
all_behind P (p ∷ ps) (t ∷ ts) zero same h =
    let first : p.serial ≡ t.tid = cc in
    let rest : map (λ (p : Place). p.serial) ps ≡ map tid_of ts = cc in
    (subst P first (h 0 p (omega arith) (omega arith)), all_behind P ps ts zero rest (λ k d l w. h (suc k) d (omega arith) (omega arith)))
all_behind P (p ∷ ps) (t ∷ ts) (suc n) same h =
    let rest : map (λ (p : Place). p.serial) ps ≡ map tid_of ts = cc in
    all_behind P ps ts n rest (λ k d l w. h (suc k) d (omega arith) (omega arith))

-- the front and the rest of what rises
record Split (m : ℕ) (front rest : List Transaction) : Type 0 where
  before : AllByRecursion (λ (t : Transaction). t.tid ≤ m) front
  above : AllByRecursion (λ (t : Transaction). m < t.tid) rest

record SplitFrom (o : Option Transaction) (front rest : List Transaction) : Type 0 where
  least : option_map_or tid_of o 0 ≤ option_map_or tid_of (last_or o front) 0
  split : Split (option_map_or tid_of (last_or o front) 0) front rest

split_from : (low : ℕ) (o : Option Transaction) (front rest : List Transaction) → option_map_or tid_of o 0 ≤ low → Rises low (front ++ rest) → SplitFrom o front rest
split_from low o [] rest le h = record { least = omega arith; split = record { before = tt; above = above low (option_map_or tid_of o 0) rest le h } }
split_from low o (t ∷ ts) rest le h =
    let s = split_from t.tid (Some t) ts rest (omega arith) h.1 in
    record { least = omega (arith, s.least, h.0); split = record { before = (s.least, s.split.before); above = s.split.above } }

is_by : ℕ → Transaction → Bool
is_by m t = leb t.tid m

filter_before : (m : ℕ) (ts : List Transaction) → AllByRecursion (λ (t : Transaction). t.tid ≤ m) ts → filter (is_by m) ts ≡ ts
unfolding is_by
filter_before m [] all = refl
filter_before m (t ∷ ts) all = let here : leb t.tid m ≡ true = le-leb t.tid m all.0 in rw here (ap (λ (xs : List Transaction). t ∷ xs) (filter_before m ts all.1))

filter_above : (m : ℕ) (ts : List Transaction) → AllByRecursion (λ (t : Transaction). m < t.tid) ts → filter (is_by m) ts ≡ []
unfolding is_by
filter_above m [] all = refl
filter_above m (t ∷ ts) all = let here : leb t.tid m ≡ false = lt-leb t.tid m all.0 in rw here (filter_above m ts all.1)

split_filter : (m : ℕ) (front rest : List Transaction) → Split m front rest → filter (is_by m) (front ++ rest) ≡ front
split_filter m front rest s =
    filter-append (is_by m) front rest ∙ ap (λ (xs : List Transaction). filter (is_by m) front ++ xs) (filter_above m rest s.above) ∙ append-nil (filter (is_by m) front) ∙ filter_before m front s.before

-- what was copied is what is left of the transactions up to its last one
pub front_is : (F : Transaction → Option Transaction) (K : (x y : Transaction) → F x ≡ Some y → y.tid ≡ x.tid) (list front rest : List Transaction) (starts : List Place) (n : ℕ) → Rises 0 list → map (λ p. p.serial) starts ≡ map (λ t. t.tid) list
    → IsCountUpTo starts (newest_tid front) n → filter_map F list ≡ front ++ rest → front ≡ filter_map F (take n list)
front_is F K list front rest starts n rising same count is =
    let m : ℕ = newest_tid front in
    let parts : filter_map F list ≡ filter_map F (take n list) ++ filter_map F (drop n list) = ap (filter_map F) (sym (take-append-drop n list)) ∙ filter_map-append F (take n list) (drop n list) in
    let copied = (split_from 0 None front rest (omega arith) (subst (λ (ts : List Transaction). Rises 0 ts) is (rises_left F K 0 list rising))).split in
    let here : Split m (filter_map F (take n list)) (filter_map F (drop n list)) = record {
      before = all_left F K (λ k. k ≤ m) (take n list) (all_first (λ k. k ≤ m) starts list n same count.before);
      above = all_left F K (λ k. m < k) (drop n list) (all_behind (λ k. m < k) starts list n same count.above);
    } in
    sym (split_filter m front rest copied) ∙ ap (filter (is_by m)) (sym is ∙ parts) ∙ split_filter m (filter_map F (take n list)) (filter_map F (drop n list)) here

-- ---- the last one

pub newest_same : (starts : List Place) (ts : List Transaction) → map (λ p. p.serial) starts ≡ map (λ t. t.tid) ts → option_map_or (λ p. p.serial) (last_or None starts) 0 ≡ newest_tid ts
newest_same starts ts same = place_last (last_or None starts) ∙ ap (λ (o : Option ℕ). option_map_or (λ n. n) o 0) (sym (last_map (λ (p : Place). p.serial) None starts) ∙ ap (last_or None) same ∙ last_map tid_of None ts) ∙ sym (tid_last (last_or None ts))
  where
    place_last : (o : Option Place) → option_map_or (λ (p : Place). p.serial) o 0 ≡ option_map_or (λ n. n) (option_map (λ (p : Place). p.serial) o) 0
    place_last None = refl
    place_last (Some p) = refl

    tid_last : (o : Option Transaction) → option_map_or tid_of o 0 ≡ option_map_or (λ n. n) (option_map tid_of o) 0
    tid_last None = refl
    tid_last (Some t) = refl

-- ---- how many changes there are

all_up_to : (last low : ℕ) (o : Option Transaction) (ts : List Transaction) → option_map_or tid_of (last_or o ts) 0 < last → Rises low ts → filter (queries.is_up_to last) ts ≡ ts
all_up_to last low o [] bound h = refl
all_up_to last low o (t ∷ ts) bound h =
    let within = (split_from t.tid (Some t) ts [] (omega arith) (subst (λ (xs : List Transaction). Rises t.tid xs) (sym (append-nil ts)) h.1)).least in
    let here : leb t.tid last ≡ true = le-leb t.tid last (omega (arith, bound, within)) in
    rw here (ap (λ (xs : List Transaction). t ∷ xs) (all_up_to last t.tid (Some t) ts bound h.1))

pub all_changes : (list : List Transaction) → IsDatabase list → changes_up_to (2 ^ 64 - 1) list ≡ change_count list
all_changes list is = ap (λ (ts : List Transaction). sum_by (λ (t : Transaction). length t.changes) ts) (all_up_to (2 ^ 64 - 1) 0 None list is.bounded (database_rises list is))

-- ---- what more was copied

take_more : (n m : ℕ) (ts : List Transaction) → take (n + m) ts ≡ take n ts ++ take m (drop n ts)
take_more zero m ts = let e : zero + m ≡ m = omega arith in ap (λ (k : ℕ). take k ts) e
take_more (suc n) m [] = take_all (suc n + m) [] (omega arith) ∙ sym (take_all m [] (omega arith))
take_more (suc n) m (t ∷ ts) =
    let e : suc n + m ≡ suc (n + m) = omega arith in
    ap (λ (k : ℕ). take k (t ∷ ts)) e ∙ ap (λ (xs : List Transaction). t ∷ xs) (take_more n m ts)

pub left_more : (F : Transaction → Option Transaction) (n m : ℕ) (ts : List Transaction) → filter_map F (take (n + m) ts) ≡ filter_map F (take n ts) ++ filter_map F (take m (drop n ts))
left_more F n m ts = ap (filter_map F) (take_more n m ts) ∙ filter_map-append F (take n ts) (take m (drop n ts))

pub left_parts : (F : Transaction → Option Transaction) (n : ℕ) (ts : List Transaction) → filter_map F ts ≡ filter_map F (take n ts) ++ filter_map F (drop n ts)
left_parts F n ts = ap (filter_map F) (sym (take-append-drop n ts)) ∙ filter_map-append F (take n ts) (drop n ts)
