-- Commits that overtake a pack.
use Rattle.std.proofs.Common.{◌≡◌, ℕ, ◌+◌, ◌-◌, ◌^◌, ◌<◌, ◌≤◌, ◌⊎◌, inl, inr, ⊎_elim, Bool, true, false, not, eqb, ltb, List, [], ◌∷◌, ◌++◌, append-nil, append_assoc, filter, min, Option, Some, None, Err, refl, sym, ap, subst, ◌∙◌, arith}
use Rattle.std.specs.Prelude.{IfSome, IsTrue, is_some, ◌↔◌}
use Rattle.std.specs.List.{AllByRecursion}
use Rattle.std.specs.Option.{option_map, option_or}
use Rattle.std.specs.Ordering.{nat_cmp}
use Rattle.std.specs.FinSet.{FinSet, contains}
use Rattle.std.proofs.lemmas.Bool.{both_ways, cases_Bool, or_cases, or_left, or_right, and_parts, and_from, eqb-true, eq-eqb, ltb-true, ltb-false}
use Rattle.zb_base.specs.Lists.{each_more}
use Rattle.zb_model.specs.declared.data.Transaction.{Transaction}
use Rattle.zb_model.specs.Database.{ObjectRevision, newest_tid, revision_below}
use Rattle.zb_model.specs.Queries.{first_after}
use Rattle.zb_model.specs.SerialLaws.{RisesTo}
use Rattle.zb_model.specs.Stores.{ReadKeepsRest, StoreState}
use Rattle.pack_reach.specs.declared.refusal.PackRefusal.{PackRefusal}
use Rattle.pack_reach.specs.declared.refusal.PackRefusal.TheVariants as pack_refusal
use Rattle.pack_reach.specs.GrowthLaws.{grown_up_to}
use Rattle.pack_reach.specs.Late.{is_late, late_behind, late_from, late_with, least_of, lesser_of, lesser_some}
use Rattle.pack_reach.specs.LateLaws.{in_filter}
use Rattle.pack_reach.specs.Marking.{FollowsOne, HasGrown, IsComplete, IsLeastFollowed, IsLow, IsMarkedWhole, IsMarking, IsPast, MarkerState, MarksFresh, revised}
use Rattle.pack_reach.specs.Outcomes.{AreCommitsMarked, IsLateFound, RefusesToMark, readable_as}
use Rattle.pack_reach.specs.Reach.{IsReached, is_in}
use Rattle.pack_reach.specs.Reached.{reached, reached_oids, unreadable}
use Rattle.pack_reach.specs.ReachLaws.{computed_reached, reached_computed}
use Rattle.pack_reach.proofs.Counting.{refuses_all}
use Rattle.pack_reach.proofs.Finishing.{exactly_marked, none_above, noted_is, set_is}
use Rattle.pack_reach.proofs.Growing.{was_not}
use Rattle.pack_reach.proofs.Later.{behind_rises, front_rises, stand}
use Rattle.pack_reach.proofs.Seeing.{Rises, first_of, next_behind, none_up_to, rises_from, rises_of, up_to_more}

-- ---- the lesser of two

pub lesser_has : (P : ℕ → Type 0) (o q : Option ℕ) → IfSome o P → IfSome q P → IfSome (lesser_some o q) P
lesser_has P None q a b = b
lesser_has P (Some m) None a b = a
lesser_has P (Some m) (Some n) a b = ⊎_elim (λ (e : ltb n m ≡ true). rw e b) (λ (e : ltb n m ≡ false). rw e a) (cases_Bool (ltb n m))

low_left : (o q : Option ℕ) (k : ℕ) → IsLow o k → IsLow (lesser_some o q) k
low_left None q k l = absurd l
low_left (Some m) None k l = l
low_left (Some m) (Some n) k l = ⊎_elim (λ (e : ltb n m ≡ true). rw e (omega (arith, ltb-true n m e, l))) (λ (e : ltb n m ≡ false). rw e l) (cases_Bool (ltb n m))

low_right : (o q : Option ℕ) (k : ℕ) → IsLow q k → IsLow (lesser_some o q) k
low_right None q k l = l
low_right (Some m) None k l = absurd l
low_right (Some m) (Some n) k l = ⊎_elim (λ (e : ltb n m ≡ true). rw e l) (λ (e : ltb n m ≡ false). rw e (omega (arith, ltb-false n m e, l))) (cases_Bool (ltb n m))

-- ---- one more was followed

has_more : (P Q : ℕ → Type 0) → ((n : ℕ) → P n → Q n) → (o : Option ℕ) → IfSome o P → IfSome o Q
has_more P Q f None h = tt
has_more P Q f (Some n) h = f n h

low_self : (o : Option ℕ) (k : ℕ) → o ≡ Some k → IsLow o k
low_self o k e = subst (λ (q : Option ℕ). IsLow q k) (sym e) (omega arith)

revised_there : (t : ℕ) (list : List Transaction) (oid : ℕ) → is_some (revision_below oid (t + 1) list) ≡ true → revised t list oid ≡ Some oid
revised_there t list oid e = rw e refl

abbrev Has : List Transaction → FinSet nat_cmp → MarkerState → ℕ → Type 0
Has list before m n = IsTrue (contains m.set n) × (contains before n ≡ false) × IsTrue (is_some (revision_below n (m.tid + 1) list))

pub least_follows : (list : List Transaction) (before : FinSet nat_cmp) (a b : MarkerState) (least followed : Option ℕ) → IsLeastFollowed list before a least → b.tid ≡ a.tid → FollowsOne list a b followed → IsLeastFollowed list before b (lesser_some least followed)
least_follows list before a b least followed k same f = record {
  within = λ o h. f.kept o (k.within o h);
  apart = λ o h. ⊎_elim (λ (i : IsTrue (is_in o a.waiting)). k.apart o i) (λ (i : (contains a.set o ≡ false) × IsTrue (contains b.set o)). was_not (contains before o) (contains a.set o) (k.within o) i.0) (f.line o h);
  marked = λ o h. ⊎_elim (λ (i : IsTrue (is_in o a.waiting)). f.kept o (k.marked o i)) (λ (i : (contains a.set o ≡ false) × IsTrue (contains b.set o)). i.1) (f.line o h);
  one = lesser_has (Has list before b) least followed
      (has_more (Has list before a) (Has list before b) (λ n h. (f.kept n h.0, h.1, subst (λ (t : ℕ). IsTrue (is_some (revision_below n (t + 1) list))) (sym same) h.2)) least k.one)
      (has_more (λ (n : ℕ). IsTrue (is_in n a.waiting) × IsTrue (is_some (revision_below n (a.tid + 1) list))) (Has list before b) (λ n h. (f.kept n (k.marked n h.0), k.apart n h.0, subst (λ (t : ℕ). IsTrue (is_some (revision_below n (t + 1) list))) (sym same) h.1)) followed f.one);
  low = λ o h out rev.
      let there : is_some (revision_below o (a.tid + 1) list) ≡ true = subst (λ (t : ℕ). IsTrue (is_some (revision_below o (t + 1) list))) same rev in
      ⊎_elim
      (λ (i : IsTrue (contains a.set o) ⊎ IsTrue (is_in o a.waiting)).
      ⊎_elim (λ (j : IsTrue (contains a.set o)). ⊎_elim (λ (w : IsTrue (is_in o a.waiting)). waited o there w) (λ (l : IsLow least o). inr (low_left least followed o l)) (k.low o j out there))
      (λ (w : IsTrue (is_in o a.waiting)). waited o there w) i)
      (λ (i : IsTrue (is_in o b.waiting)). inl i)
      (f.fresh o h);
}
  where
    waited : (o : ℕ) → is_some (revision_below o (a.tid + 1) list) ≡ true → is_in o a.waiting ≡ true → IsTrue (is_in o b.waiting) ⊎ IsLow (lesser_some least followed) o
    waited o there w = ⊎_elim (λ (i : IsTrue (is_in o b.waiting)). inl i) (λ (e : followed ≡ revised a.tid list o). inr (low_right least followed o (low_self followed o (e ∙ revised_there a.tid list o there)))) (f.gone o w)

no_line : (m : MarkerState) (oid : ℕ) → m.waiting ≡ [] → is_in oid m.waiting ≡ true → ⊥
no_line m oid e i =
    let none : is_in oid m.waiting ≡ false = ap (is_in oid) e in
    both_ways (is_in oid m.waiting) none i

-- before any is followed, of those that were marked anew
pub none_followed : (list : List Transaction) (a b : MarkerState) → a.waiting ≡ [] → MarksFresh a b → ((o : ℕ) → contains a.set o ≡ true → contains b.set o ≡ true) → IsLeastFollowed list a.set b None
none_followed list a b e f kept = record {
  within = kept;
  apart = λ o h. ⊎_elim (λ (i : IsTrue (is_in o a.waiting)). absurd (no_line a o e i)) (λ (i : (contains a.set o ≡ false) × IsTrue (contains b.set o)). i.0) (f.line o h);
  marked = λ o h. ⊎_elim (λ (i : IsTrue (is_in o a.waiting)). absurd (no_line a o e i)) (λ (i : (contains a.set o ≡ false) × IsTrue (contains b.set o)). i.1) (f.line o h);
  one = tt;
  low = λ o h out rev. ⊎_elim (λ (i : IsTrue (contains a.set o)). absurd (both_ways (contains a.set o) out i)) (λ (i : IsTrue (is_in o b.waiting)). inl i) (f.fresh o h);
}

-- ---- the least of numbers

abbrev IsLeastNumber : List ℕ → Option ℕ → Type 0
IsLeastNumber ns None = (n : ℕ) → is_in n ns ≡ true → ⊥
IsLeastNumber ns (Some n) = (is_in n ns ≡ true) × ((q : ℕ) → is_in q ns ≡ true → n ≤ q)

lesser_number : (n : ℕ) (ns : List ℕ) (o : Option ℕ) → IsLeastNumber ns o → IsLeastNumber (n ∷ ns) (Some (lesser_of n o))
lesser_number n ns None is =
    (or_left (eqb n n) (is_in n ns) (eq-eqb n n refl), λ q i. ⊎_elim (λ (e : eqb n q ≡ true). omega (arith, eqb-true n q e)) (λ (j : is_in q ns ≡ true). absurd (is q j)) (or_cases (eqb n q) (is_in q ns) i))
lesser_number n ns (Some m) is = (
  ⊎_elim (λ (l : ltb n m ≡ true).
      let same : min n m ≡ n = omega (arith, ltb-true n m l) in
      subst (λ (k : ℕ). is_in k (n ∷ ns) ≡ true) (sym same) (or_left (eqb n n) (is_in n ns) (eq-eqb n n refl)))
      (λ (l : ltb n m ≡ false).
      let same : min n m ≡ m = omega (arith, ltb-false n m l) in
      subst (λ (k : ℕ). is_in k (n ∷ ns) ≡ true) (sym same) (or_right (eqb n m) (is_in m ns) is.0))
      (cases_Bool (ltb n m)),
  λ q i. ⊎_elim (λ (e : eqb n q ≡ true). omega (arith, eqb-true n q e)) (λ (j : is_in q ns ≡ true). omega (arith, is.1 q j)) (or_cases (eqb n q) (is_in q ns) i),
)

least_number : (ns : List ℕ) → IsLeastNumber ns (least_of ns)
least_number [] = λ n i. absurd (cc)
least_number (n ∷ ns) = lesser_number n ns (least_of ns) (least_number ns)

one_number : (ns : List ℕ) (o q : Option ℕ) → IsLeastNumber ns o → IsLeastNumber ns q → o ≡ q
one_number ns None None a b = refl
one_number ns None (Some q) a b = absurd (a q b.0)
one_number ns (Some p) None a b = absurd (b p a.0)
one_number ns (Some p) (Some q) a b =
    let same : p ≡ q = omega (arith, a.1 q b.0, b.1 p a.0) in
    ap Some same

with_none : (o : Option ℕ) (tid : ℕ) → option_map {U = ℕ × ℕ} (λ (oid : ℕ). (oid, tid)) o ≡ late_with None o tid
with_none None tid = refl
with_none (Some n) tid = refl

late_is : (named : List ℕ → Option (List ℕ)) (marked : FinSet nat_cmp) (t : ℕ) (list : List Transaction) (tid : ℕ) (o : Option ℕ) → IsLeastNumber (filter (is_late marked t list) (reached_oids named t list)) o → late_behind named marked t list tid ≡ late_with None o tid
late_is named marked t list tid o is =
    let ns = filter (is_late marked t list) (reached_oids named t list) in
    ap (option_map {U = ℕ × ℕ} (λ (oid : ℕ). (oid, tid))) (one_number ns (least_of ns) o (least_number ns) is) ∙ with_none o tid

-- ---- the least late object is the least that was followed

not_true : (b : Bool) → not b ≡ true → b ≡ false
not_true true e = absurd (cc)
not_true false e = refl

-- what is known of the objects that are marked, over a list that ends with a commit: those marked before it have no revision up to
-- t unless they were marked from the start
record LateKnown (named : List ℕ → Option (List ℕ)) (marked before : FinSet nat_cmp) (t : ℕ) (list whole : List Transaction) (m : MarkerState) : Type 0 where
  exact : (oid : ℕ) → IsTrue (contains m.set oid) ↔ IsReached named t list oid
  revisions : (oid : ℕ) → revision_below oid (t + 1) whole ≡ revision_below oid (t + 1) list
  kept : (oid : ℕ) → contains marked oid ≡ true → contains before oid ≡ true
  none : (oid : ℕ) → contains before oid ≡ true → contains marked oid ≡ false → is_some (revision_below oid (t + 1) whole) ≡ false
  tid : m.tid ≡ t
  line : m.waiting ≡ []

there_late : (named : List ℕ → Option (List ℕ)) (marked before : FinSet nat_cmp) (t : ℕ) (list whole : List Transaction) (m : MarkerState) → LateKnown named marked before t list whole m → (oid : ℕ) → is_in oid (filter (is_late marked t list) (reached_oids named t list)) ≡ true
    → (contains m.set oid ≡ true) × (contains before oid ≡ false) × (is_some (revision_below oid (m.tid + 1) whole) ≡ true)
there_late named marked before t list whole m k oid i =
    let parts = and_parts (is_late marked t list oid) (is_in oid (reached_oids named t list)) (sym (in_filter (is_late marked t list) oid (reached_oids named t list)) ∙ i) in
    let late = and_parts (not (contains marked oid)) (is_some (revision_below oid (t + 1) list)) parts.0 in
    let out : contains marked oid ≡ false = not_true (contains marked oid) late.0 in
    let rev : is_some (revision_below oid (t + 1) whole) ≡ true = ap (λ (o : Option ObjectRevision). is_some o) (k.revisions oid) ∙ late.1 in (
      (k.exact oid).1 (computed_reached named t list oid parts.1),
      ⊎_elim (λ (e : contains before oid ≡ true). absurd (both_ways (is_some (revision_below oid (t + 1) whole)) (k.none oid e out) rev)) (λ (e : contains before oid ≡ false). e) (cases_Bool (contains before oid)),
      subst (λ (n : ℕ). is_some (revision_below oid (n + 1) whole) ≡ true) (sym k.tid) rev,
    )

late_there : (named : List ℕ → Option (List ℕ)) (marked before : FinSet nat_cmp) (t : ℕ) (list whole : List Transaction) (m : MarkerState) → LateKnown named marked before t list whole m → (oid : ℕ) → contains m.set oid ≡ true → contains before oid ≡ false
    → is_some (revision_below oid (m.tid + 1) whole) ≡ true → is_in oid (filter (is_late marked t list) (reached_oids named t list)) ≡ true
late_there named marked before t list whole m k oid h out rev =
    let other : contains marked oid ≡ false = was_not (contains marked oid) (contains before oid) (k.kept oid) out in
    let has : is_some (revision_below oid (t + 1) list) ≡ true = ap (λ (o : Option ObjectRevision). is_some o) (sym (k.revisions oid)) ∙ subst (λ (n : ℕ). is_some (revision_below oid (n + 1) whole) ≡ true) k.tid rev in
    in_filter (is_late marked t list) oid (reached_oids named t list)
    ∙ and_from (is_late marked t list oid) (is_in oid (reached_oids named t list)) (and_from (not (contains marked oid)) (is_some (revision_below oid (t + 1) list)) (ap not other) has) (reached_computed named t list oid ((k.exact oid).0 h))

least_late : (named : List ℕ → Option (List ℕ)) (marked before : FinSet nat_cmp) (t : ℕ) (list whole : List Transaction) (m : MarkerState) (least : Option ℕ) → LateKnown named marked before t list whole m → IsLeastFollowed whole before m least
    → IsLeastNumber (filter (is_late marked t list) (reached_oids named t list)) least
least_late named marked before t list whole m None k is = λ oid i.
    let h = there_late named marked before t list whole m k oid i in
    ⊎_elim (λ (w : IsTrue (is_in oid m.waiting)). no_line m oid k.line w) (λ (l : IsLow None oid). l) (is.low oid h.0 h.1 h.2)
least_late named marked before t list whole m (Some n) k is = (
  late_there named marked before t list whole m k n is.one.0 is.one.1 is.one.2,
  λ q i.
      let h = there_late named marked before t list whole m k q i in
      ⊎_elim (λ (w : IsTrue (is_in q m.waiting)). absurd (no_line m q k.line w)) (λ (l : n ≤ q). l) (is.low q h.0 h.1 h.2),
)

-- ---- commit by commit

-- the marks have come so far over the commits behind a front, and this is the first that overtakes the pack so far
pub record ComesLate (named : List ℕ → Option (List ℕ)) (front commits : List Transaction) (old new : MarkerState) (answer : Option (ℕ × ℕ)) : Type 0 where
  pub done : List Transaction
  pub rest : List Transaction
  pub split : commits ≡ done ++ rest
  pub marks : IsMarking named (front ++ done) new
  pub all : IsComplete (front ++ done) new
  pub late : late_from named old.set old.tid front commits ≡ option_or answer (late_from named old.set old.tid (front ++ done) rest)
  pub none : answer ≡ None → (oid : ℕ) → contains new.set oid ≡ true → contains old.set oid ≡ false → is_some (revision_below oid (old.tid + 1) (front ++ commits)) ≡ false
  pub kept : (oid : ℕ) → contains old.set oid ≡ true → contains new.set oid ≡ true
  pub tid : new.tid ≡ old.tid
  pub behind : Rises new.seen rest

pub comes_first : (named : List ℕ → Option (List ℕ)) (front commits : List Transaction) (m : MarkerState) → RisesTo 0 (newest_tid (front ++ commits)) (front ++ commits) → AllByRecursion (λ (x : Transaction). m.tid < x.tid) commits → IsMarkedWhole named front m
    → ComesLate named front commits m m None
comes_first named front commits m rises above w = record {
  done = [];
  rest = commits;
  split = refl;
  marks = subst (λ (l : List Transaction). IsMarking named l m) (sym (append-nil front)) w.marks;
  all = subst (λ (l : List Transaction). IsComplete l m) (sym (append-nil front)) w.all;
  late = ap (λ (l : List Transaction). late_from named m.set m.tid l commits) (sym (append-nil front));
  none = λ e oid h out. absurd (both_ways (contains m.set oid) out h);
  kept = λ oid h. h;
  tid = refl;
  behind = rises_from (newest_tid front) m.tid m.seen commits (rises_of (newest_tid front) (newest_tid (front ++ commits)) commits (behind_rises 0 (newest_tid (front ++ commits)) None front commits refl rises)) above w.marks.within;
}

all_behind : (t : ℕ) (xs ys : List Transaction) → AllByRecursion (λ (x : Transaction). t < x.tid) (xs ++ ys) → AllByRecursion (λ (x : Transaction). t < x.tid) ys
all_behind t [] ys all = all
all_behind t (x ∷ xs) ys all = all_behind t xs ys all.1

-- the commits go on with these
rest_is : (named : List ℕ → Option (List ℕ)) (front commits : List Transaction) (old m : MarkerState) (answer : Option (ℕ × ℕ)) → (k : ComesLate named front commits old m answer) → front ++ commits ≡ (front ++ k.done) ++ k.rest
rest_is named front commits old m answer k = ap (λ (l : List Transaction). front ++ l) k.split ∙ sym (append_assoc front k.done k.rest)

next_is : (named : List ℕ → Option (List ℕ)) (front commits : List Transaction) (old m : MarkerState) (answer : Option (ℕ × ℕ)) → (k : ComesLate named front commits old m answer) → first_after m.seen (front ++ commits) ≡ first_of k.rest
next_is named front commits old m answer k =
    ap (first_after m.seen) (rest_is named front commits old m answer k) ∙ next_behind m.seen (front ++ k.done) k.rest (none_above m.seen (front ++ k.done) k.all.seen) k.behind

or_none : (o : Option (ℕ × ℕ)) → option_or o None ≡ o
or_none None = refl
or_none (Some p) = refl

-- no commit is left
pub comes_last : (named : List ℕ → Option (List ℕ)) (front commits : List Transaction) (old m : MarkerState) (answer : Option (ℕ × ℕ)) → ComesLate named front commits old m answer → first_after m.seen (front ++ commits) ≡ None → AreCommitsMarked named front commits old m answer
comes_last named front commits old m answer k none = by_rest k.rest refl
  where
    by_rest : (rest : List Transaction) → k.rest ≡ rest → AreCommitsMarked named front commits old m answer
    by_rest (x ∷ rest) e =
        let some : Some x ≡ None = sym (next_is named front commits old m answer k ∙ ap first_of e) ∙ none in
        absurd (cc)
    by_rest [] e =
        let whole : front ++ k.done ≡ front ++ commits = ap (λ (l : List Transaction). front ++ l) (sym (k.split ∙ ap (λ (l : List Transaction). k.done ++ l) e ∙ append-nil k.done)) in
        record {
          late = sym (k.late ∙ ap (λ (l : List Transaction). option_or answer (late_from named old.set old.tid (front ++ k.done) l)) e ∙ or_none answer);
          marks = subst (λ (l : List Transaction). IsMarking named l m) whole k.marks;
          all = subst (λ (l : List Transaction). IsComplete l m) whole k.all;
        }

late_next : (answer A B : Option (ℕ × ℕ)) (least : Option ℕ) (tid : ℕ) → (answer ≡ None → B ≡ late_with None least tid) → option_or answer (option_or B A) ≡ option_or (late_with answer least tid) A
late_next None A B least tid is = ap (λ (o : Option (ℕ × ℕ)). option_or o A) (is refl)
late_next (Some p) A B least tid is = refl

none_with : (answer : Option (ℕ × ℕ)) (least : Option ℕ) (tid : ℕ) → late_with answer least tid ≡ None → (answer ≡ None) × (least ≡ None)
none_with None None tid e = (refl, refl)
none_with None (Some n) tid e = absurd (cc)
none_with (Some p) least tid e = absurd (cc)

-- what reading a commit and following what it leads to leaves
pub record CommitRead (named : List ℕ → Option (List ℕ)) (list : List Transaction) (a m b : MarkerState) (least : Option ℕ) : Type 0 where
  pub next : option_map (λ (x : Transaction). x.tid) (first_after a.seen list) ≡ Some b.seen
  pub read : (front : List Transaction) → RisesTo 0 (newest_tid front) front → first_after a.seen front ≡ first_after a.seen list → IsMarking named front a → IsMarking named front m
  pub follows : (front later : List Transaction) → HasGrown m.tid front later list → IsMarking named front m → IsMarking named front b
  pub first_tid : m.tid ≡ a.tid
  pub tid : b.tid ≡ a.tid
  pub kept : (oid : ℕ) → contains a.set oid ≡ true → contains b.set oid ≡ true
  pub line : b.waiting ≡ []
  pub followed : IsLeastFollowed list a.set b least

-- what is known of the objects that are marked then
late_known : (named : List ℕ → Option (List ℕ)) (front commits : List Transaction) (list rest : List Transaction) (old a m b : MarkerState) (least : Option ℕ) → (k : ComesLate named front commits old a None) → CommitRead named (front ++ commits) a m b least
    → HasGrown old.tid list rest (front ++ commits) → IsMarking named list b → IsComplete list b → LateKnown named old.set a.set old.tid list (front ++ commits) b
late_known named front commits list rest old a m b least k c grown marks all =
    let tid : b.tid ≡ old.tid = c.tid ∙ k.tid in
    record {
      exact = λ oid. subst (λ (t : ℕ). IsTrue (contains b.set oid) ↔ IsReached named t list oid) tid (exactly_marked named list b marks all.seen all.root all.line oid);
      revisions = λ oid. grown_up_to old.tid oid list rest (front ++ commits) grown;
      kept = k.kept;
      none = k.none refl;
      tid = tid;
      line = c.line;
    }

-- one commit more is read
pub comes_next : (named : List ℕ → Option (List ℕ)) (front commits : List Transaction) (old a m b : MarkerState) (answer : Option (ℕ × ℕ)) (least : Option ℕ) → RisesTo 0 (newest_tid (front ++ commits)) (front ++ commits) → AllByRecursion (λ (x : Transaction). old.tid < x.tid) commits
    → ComesLate named front commits old a answer → CommitRead named (front ++ commits) a m b least → ComesLate named front commits old b (late_with answer least b.seen)
comes_next named front commits old a m b answer least rises above k c = by_rest k.rest refl
  where
    by_rest : (rest : List Transaction) → k.rest ≡ rest → ComesLate named front commits old b (late_with answer least b.seen)
    by_rest [] e =
        let none : first_after a.seen (front ++ commits) ≡ None = next_is named front commits old a answer k ∙ ap first_of e in
        let some : None ≡ Some b.seen = sym (ap (option_map (λ (x : Transaction). x.tid)) none) ∙ c.next in
        absurd (cc)
    by_rest (x ∷ rest) e =
        let before = front ++ k.done in
        let list = before ++ x ∷ [] in
        let first : first_after a.seen (front ++ commits) ≡ Some x = next_is named front commits old a answer k ∙ ap first_of e in
        let some : Some x.tid ≡ Some b.seen = sym (ap (option_map (λ (x : Transaction). x.tid)) first) ∙ c.next in
        let seen : x.tid ≡ b.seen = cc in
        let split : commits ≡ k.done ++ x ∷ rest = k.split ∙ ap (λ (l : List Transaction). k.done ++ l) e in
        let whole : front ++ commits ≡ list ++ rest = ap (λ (l : List Transaction). front ++ l) split ∙ sym (append_assoc front k.done (x ∷ rest)) ∙ sym (append_assoc before (x ∷ []) rest) in
        let later : AllByRecursion (λ (y : Transaction). old.tid < y.tid) (x ∷ rest) = all_behind old.tid k.done (x ∷ rest) (subst (λ (l : List Transaction). AllByRecursion (λ (y : Transaction). old.tid < y.tid) l) split above) in
        let upward : Rises a.seen (x ∷ rest) = subst (Rises a.seen) e k.behind in
        let list_rises : RisesTo 0 (newest_tid list) list = front_rises 0 (newest_tid (front ++ commits)) None list rest refl (subst (RisesTo 0 (newest_tid (front ++ commits))) whole rises) in
        let up_to : AllByRecursion (λ (y : Transaction). y.tid ≤ a.seen) before = none_above a.seen before k.all.seen in
        let next : first_after a.seen list ≡ Some x = next_behind a.seen before (x ∷ []) up_to (upward.0, tt) in
        let above_a : a.tid < x.tid = omega (arith, later.0, k.tid) in
        let read = c.read list list_rises (next ∙ sym first) (stand named before (x ∷ []) a list_rises (above_a, tt) k.marks) in
        let tids : old.tid ≡ m.tid = sym (c.first_tid ∙ k.tid) in
        let grown : HasGrown old.tid list rest (front ++ commits) = record { split = whole; above = later.1 } in
        let marks = c.follows list rest (subst (λ (t : ℕ). HasGrown t list rest (front ++ commits)) tids grown) read in
        let all_up : AllByRecursion (λ (y : Transaction). y.tid ≤ b.seen) list = each_more (λ (y : Transaction). y.tid ≤ b.seen) before x (up_to_more a.seen b.seen before (omega (arith, upward.0, seen)) up_to) (omega (arith, seen)) in
        let all : IsComplete list b = record { root = c.kept 0 k.all.root; seen = none_up_to b.seen list all_up; line = c.line } in
        let same : list ≡ front ++ (k.done ++ x ∷ []) = append_assoc front k.done (x ∷ []) in
        record {
          done = k.done ++ x ∷ [];
          rest = rest;
          split = split ∙ sym (append_assoc k.done (x ∷ []) rest);
          marks = subst (λ (l : List Transaction). IsMarking named l b) same marks;
          all = subst (λ (l : List Transaction). IsComplete l b) same all;
          late = k.late ∙ ap (λ (l : List Transaction). option_or answer (late_from named old.set old.tid before l)) e
              ∙ late_next answer (late_from named old.set old.tid list rest) (late_behind named old.set old.tid list x.tid) least b.seen (is_late_then x rest list grown marks all seen)
              ∙ ap (λ (l : List Transaction). option_or (late_with answer least b.seen) (late_from named old.set old.tid l rest)) same;
          none = λ none oid h out. none_then (none_with answer least b.seen none) oid h out;
          kept = λ oid h. c.kept oid (k.kept oid h);
          tid = c.tid ∙ k.tid;
          behind = subst (λ (n : ℕ). Rises n rest) seen upward.1;
        }
      where
        is_late_then : (x : Transaction) (rest list : List Transaction) → HasGrown old.tid list rest (front ++ commits) → IsMarking named list b → IsComplete list b → x.tid ≡ b.seen → answer ≡ None → late_behind named old.set old.tid list x.tid ≡ late_with None least b.seen
        is_late_then x rest list grown marks all seen none =
            let known = late_known named front commits list rest old a m b least (subst (ComesLate named front commits old a) none k) c grown marks all in
            late_is named old.set old.tid list x.tid least (least_late named old.set a.set old.tid list (front ++ commits) b least known c.followed) ∙ ap (late_with None least) seen

        none_then : (answer ≡ None) × (least ≡ None) → (oid : ℕ) → contains b.set oid ≡ true → contains old.set oid ≡ false → is_some (revision_below oid (old.tid + 1) (front ++ commits)) ≡ false
        none_then nones oid h out =
            ⊎_elim (λ (i : contains a.set oid ≡ true). k.none nones.0 oid i out)
            (λ (i : contains a.set oid ≡ false).
            ⊎_elim (λ (rev : is_some (revision_below oid (old.tid + 1) (front ++ commits)) ≡ true).
            let there : is_some (revision_below oid (b.tid + 1) (front ++ commits)) ≡ true = subst (λ (n : ℕ). is_some (revision_below oid (n + 1) (front ++ commits)) ≡ true) (sym (c.tid ∙ k.tid)) rev in
            ⊎_elim (λ (w : IsTrue (is_in oid b.waiting)). absurd (no_line b oid c.line w)) (λ (l : IsLow least oid). absurd (subst (λ (o : Option ℕ). IsLow o oid) nones.1 l)) (c.followed.low oid h i there))
            (λ (rev : is_some (revision_below oid (old.tid + 1) (front ++ commits)) ≡ false). rev)
            (cases_Bool (is_some (revision_below oid (old.tid + 1) (front ++ commits)))))
            (cases_Bool (contains a.set oid))

pub not_past : (m : MarkerState) → IsPast (2 ^ 64 - 1) m ⊎ (m.waiting ≡ []) → m.waiting ≡ []
not_past m (inl past) =
    let more = past.past in
    let bound = past.bound in
    absurd (omega (arith, more, bound))
not_past m (inr line) = line

-- ---- the answer

pub late_found : (named : List ℕ → Option (List ℕ)) (front commits : List Transaction) (old m : MarkerState) (answer : Option (ℕ × ℕ)) → AreCommitsMarked named front commits old m answer → m.tid ≡ old.tid → m.unreadable ≡ None → IsLateFound named front commits old m answer
late_found named front commits old m answer are tid none =
    let list = front ++ commits in
    record {
      readable = ap (λ (t : ℕ). unreadable named t list) (sym tid) ∙ noted_is named list m are.marks are.all.seen are.all.root are.all.line ∙ none;
      late = are.late;
      set = set_is named list m (exactly_marked named list m are.marks are.all.seen are.all.root are.all.line) ∙ ap (λ (t : ℕ). reached named t list) tid;
      whole = record { marks = are.marks; all = are.all; readable = none };
    }

refuses_at : (named : List ℕ → Option (List ℕ)) (list : List Transaction) (old m : MarkerState) (why : PackRefusal) → m.tid ≡ old.tid → RefusesToMark named list m why → RefusesToMark named list old why
refuses_at named list old m (pack_refusal.Unreadable oid tid) e h = ap (λ (t : ℕ). unreadable named t list) (sym e) ∙ h
refuses_at named list old m pack_refusal.ReadFault e h = tt
refuses_at named list old m pack_refusal.Memory e h = tt

pub late_refused : (named : List ℕ → Option (List ℕ)) (front commits : List Transaction) (old m : MarkerState) (answer : Option (ℕ × ℕ)) (why : PackRefusal) → AreCommitsMarked named front commits old m answer → m.tid ≡ old.tid → readable_as m.unreadable ≡ Err why → RefusesToMark named (front ++ commits) old why
late_refused named front commits old m answer why are tid e = refuses_at named (front ++ commits) old m why tid (refuses_all named (front ++ commits) m m.unreadable why are.marks are.all refl e)

pub read_then : (a b c : StoreState) → ReadKeepsRest a b → ReadKeepsRest b c → ReadKeepsRest a c
read_then a b c f g = g ∙ ap (λ (s : StoreState). record s { read_faults = c.read_faults }) f
