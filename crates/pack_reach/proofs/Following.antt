-- A marker follows the object that waits first.
use Rattle.std.proofs.Common.{◌≡◌, ℕ, ◌+◌, ◌-◌, ◌^◌, ◌<◌, ◌≤◌, min, inl, inr, ⊎_elim, true, false, cond, eqb, List, [], ◌∷◌, ◌++◌, length, drop, Option, Some, None, refl, sym, ap, subst, ◌∙◌, arith}
use Rattle.std.specs.Prelude.{IfSome, IsTrue, is_some, slice_get}
use Rattle.std.specs.Option.{option_map_or}
use Rattle.std.specs.FinSet.{contains, len}
use Rattle.std.proofs.lemmas.Bool.{cases_Bool, cases_lt, or_cases, or_left, or_right, eqb-true, eq-eqb}
use Rattle.zb_model.specs.declared.data.Content.{Content}
use Rattle.zb_model.specs.declared.data.Content.TheVariants.{Held, Absent}
use Rattle.zb_model.specs.declared.data.Transaction.{Transaction}
use Rattle.zb_model.specs.declared.found.Found.{Found}
use Rattle.zb_model.specs.Database.{IsDatabase, ObjectRevision, newest_tid, revision_below}
use Rattle.zb_model.specs.Queries.{end_of, found_as, found_below, found_of}
use Rattle.zb_model.specs.SerialLaws.{database_rises, last_of_rising}
use Rattle.pack_reach.specs.Marking.{FollowsOne, HasGrown, IsFollowed, IsFoundRead, IsMarking, IsRead, IsTransactionRead, MarkerState, MayReadFound, OnlyMarks, revised, revised_as}
use Rattle.pack_reach.specs.Reach.{IsReached, is_in, is_pair_in, references_of, unreadable_in, unreadable_up_to}
use Rattle.pack_reach.proofs.Growing.{absent_read, transaction_carried}
use Rattle.pack_reach.proofs.Least.{in_content}
use Rattle.pack_reach.specs.MemberLaws.{each_implies, in_front}
use Rattle.pack_reach.specs.GrowthLaws.{grown_up_to}
use Rattle.pack_reach.proofs.Seeing.{followed_carried}

-- ---- what a store finds below the number behind the pack's tid is the last revision up to that tid

pub below_front : (oid t front : ℕ) (list : List Transaction) → IsDatabase list → front ≡ min (t + 1) (2 ^ 64 - 1) → revision_below oid front list ≡ revision_below oid (t + 1) list
below_front oid t front list is e =
    ⊎_elim (λ (l : t < 2 ^ 64 - 1).
    let same : front ≡ t + 1 = omega (arith, e, l) in
    ap (λ (n : ℕ). revision_below oid n list) same)
    (λ (l : 2 ^ 64 - 1 ≤ t).
    let rises = database_rises list is in
    last_of_rising oid 0 (newest_tid list) front list rises (omega (arith, e, l, is.bounded)) ∙ sym (last_of_rising oid 0 (newest_tid list) (t + 1) list rises (omega (arith, l, is.bounded))))
    (cases_lt t (2 ^ 64 - 1))

content_may : (named : List ℕ → Option (List ℕ)) (t : ℕ) (list : List Transaction) (oid : ℕ) (r : ObjectRevision) (end : Option ℕ) (content : Content) → IsReached named t list oid → revision_below oid (t + 1) list ≡ Some r → r.content ≡ content
    → MayReadFound named t list oid (found_as content r.serial end)
content_may named t list oid r end Absent reached e c = tt
content_may named t list oid r end (Held bytes) reached e c = record {
  names = λ n i. IsReached.followed oid n reached (ap (λ (o : Option ObjectRevision). is_in n (option_map_or (λ (r : ObjectRevision). references_of named r.content) o [])) e ∙ ap (λ (x : Content). is_in n (references_of named x)) c ∙ i);
  unreadable = λ p i.
      let its : oid ≡ p.0 = in_content named oid r.serial (Held bytes) p i in
      inr (subst (IsReached named t list) its reached, subst (λ (o : ℕ). is_pair_in p (unreadable_up_to named t list o) ≡ true) its (ap (λ (o : Option ObjectRevision). is_pair_in p (option_map_or (λ (r : ObjectRevision). unreadable_in named oid r.serial r.content) o [])) e ∙ ap (λ (x : Content). is_pair_in p (unreadable_in named oid r.serial x)) c ∙ i));
}

found_may : (named : List ℕ → Option (List ℕ)) (t : ℕ) (list : List Transaction) (oid : ℕ) (o : Option ObjectRevision) (end : Option ℕ) → IsReached named t list oid → revision_below oid (t + 1) list ≡ o → MayReadFound named t list oid (found_of o end)
found_may named t list oid None end reached e = tt
found_may named t list oid (Some r) end reached e = content_may named t list oid r end r.content reached e refl

-- also over a front from which the list has grown
pub may_read_found : (named : List ℕ → Option (List ℕ)) (t n : ℕ) (front later list : List Transaction) (oid : ℕ) (found : Found) → IsDatabase list → HasGrown t front later list → n ≡ min (t + 1) (2 ^ 64 - 1) → IsReached named t front oid → found ≡ found_below oid n list
    → MayReadFound named t front oid found
may_read_found named t n front later list oid found is grown e reached f =
    subst (MayReadFound named t front oid) (sym f) (found_may named t front oid (revision_below oid n list) (end_of oid n list) reached (sym (below_front oid t n list is e ∙ grown_up_to t oid front later list grown)))

content_read : (named : List ℕ → Option (List ℕ)) (m : MarkerState) (oid serial : ℕ) (end : Option ℕ) (content : Content) → IsFoundRead named m oid (found_as content serial end) → IsRead named m oid serial content
content_read named m oid serial end Absent r = absent_read named m oid serial
content_read named m oid serial end (Held bytes) r = r

found_is_read : (named : List ℕ → Option (List ℕ)) (m : MarkerState) (oid : ℕ) (o : Option ObjectRevision) (end : Option ℕ) → IsFoundRead named m oid (found_of o end) → IfSome o (λ r. IsRead named m oid r.serial r.content)
found_is_read named m oid None end r = tt
found_is_read named m oid (Some x) end r = content_read named m oid x.serial end x.content r

pub is_followed : (named : List ℕ → Option (List ℕ)) (t n : ℕ) (front later list : List Transaction) (m : MarkerState) (oid : ℕ) (found : Found) → IsDatabase list → HasGrown t front later list → m.tid ≡ t → n ≡ min (t + 1) (2 ^ 64 - 1) → found ≡ found_below oid n list
    → IsFoundRead named m oid found → IsFollowed named front m oid
is_followed named t n front later list m oid found is grown q e f r =
    subst (λ (k : ℕ). IfSome (revision_below oid (k + 1) front) (λ r. IsRead named m oid r.serial r.content)) (sym q)
    (subst (λ (o : Option ObjectRevision). IfSome o (λ r. IsRead named m oid r.serial r.content)) (below_front oid t n list is e ∙ grown_up_to t oid front later list grown) (found_is_read named m oid (revision_below oid n list) (end_of oid n list) (subst (IsFoundRead named m oid) f r)))

-- ---- whether it has a revision up to t

content_revised : (oid serial : ℕ) (end : Option ℕ) (content : Content) → revised_as oid (found_as content serial end) ≡ Some oid
content_revised oid serial end Absent = refl
content_revised oid serial end (Held bytes) = refl

found_revised : (oid : ℕ) (o : Option ObjectRevision) (end : Option ℕ) → revised_as oid (found_of o end) ≡ cond (is_some o) (Some oid) None
found_revised oid None end = refl
found_revised oid (Some r) end = content_revised oid r.serial end r.content

pub revised_is : (t n : ℕ) (list : List Transaction) (oid : ℕ) (found : Found) → IsDatabase list → n ≡ min (t + 1) (2 ^ 64 - 1) → found ≡ found_below oid n list → revised_as oid found ≡ revised t list oid
revised_is t n list oid found is e f =
    ap (revised_as oid) f ∙ found_revised oid (revision_below oid n list) (end_of oid n list) ∙ ap (λ (o : Option ObjectRevision). cond (is_some o) (Some oid) None) (below_front oid t n list is e)

-- ---- the first that waits

pub first_is : (w : List ℕ) (oid : ℕ) → slice_get w 0 ≡ Some oid → (rest : List ℕ) × (w ≡ oid ∷ rest)
first_is [] oid e = absurd (cc)
first_is (x ∷ rest) oid e =
    let same : x ≡ oid = cc in
    (rest, ap (λ (n : ℕ). n ∷ rest) same)

pub first_waits : (w : List ℕ) (oid : ℕ) → slice_get w 0 ≡ Some oid → is_in oid w ≡ true
first_waits w oid e =
    let parts = first_is w oid e in
    ap (is_in oid) parts.1 ∙ or_left (eqb oid oid) (is_in oid parts.0) (eq-eqb oid oid refl)

-- it waits no more where it is followed
popped_from : (named : List ℕ → Option (List ℕ)) (list : List Transaction) (m : MarkerState) (oid : ℕ) (rest : List ℕ) → IsMarking named list m → m.waiting ≡ oid ∷ rest → IsFollowed named list m oid → IsMarking named list (record m { waiting = rest })
popped_from named list m oid rest k e f = record {
  from = k.from;
  within = k.within;
  reached = k.reached;
  noted = k.noted;
  read = each_implies (λ (x : Transaction). m.tid < x.tid → x.tid ≤ m.seen → IsTransactionRead named m x) (λ (x : Transaction). m.tid < x.tid → x.tid ≤ m.seen → IsTransactionRead named (record m { waiting = rest }) x)
      (λ x h l n. transaction_carried named m (record m { waiting = rest }) x (λ o i. i) (λ p i. i) (h l n)) list k.read;
  followed = λ o h.
      ⊎_elim (λ (i : IsTrue (is_in o m.waiting)).
      ⊎_elim (λ (s : eqb oid o ≡ true). inr (carried o (subst (IsFollowed named list m) (eqb-true oid o s) f))) (λ (j : is_in o rest ≡ true). inl j) (or_cases (eqb oid o) (is_in o rest) (sym (ap (is_in o) e) ∙ i)))
      (λ (i : IsFollowed named list m o). inr (carried o i))
      (k.followed o h);
  waiting = λ o h. k.waiting o (ap (is_in o) e ∙ or_right (eqb oid o) (is_in o rest) h);
}
  where
    carried : (o : ℕ) → IsFollowed named list m o → IsFollowed named list (record m { waiting = rest }) o
    carried o i = followed_carried named m (record m { waiting = rest }) o (revision_below o (m.tid + 1) list) (λ n h. h) (λ p h. h) i

-- the first goes off the line
pub popped : (named : List ℕ → Option (List ℕ)) (list : List Transaction) (a b : MarkerState) (oid : ℕ) (rest : List ℕ) → IsMarking named list b → OnlyMarks a b → slice_get a.waiting 0 ≡ Some oid → rest ≡ drop 1 b.waiting → IsFollowed named list b oid → IsMarking named list (record b { waiting = rest })
popped named list a b oid rest k f e d followed =
    let parts = first_is a.waiting oid e in
    let line : b.waiting ≡ oid ∷ (parts.0 ++ f.line.0) = f.line.1 ∙ ap (λ (w : List ℕ). w ++ f.line.0) parts.1 in
    let is : rest ≡ parts.0 ++ f.line.0 = d ∙ ap (drop 1) line in
    popped_from named list b oid rest k (line ∙ ap (λ (w : List ℕ). oid ∷ w) (sym is)) followed

pub one_popped : (a b : MarkerState) (oid : ℕ) (rest : List ℕ) → OnlyMarks a b → slice_get a.waiting 0 ≡ Some oid → rest ≡ drop 1 b.waiting → length rest + 1 + len a.set ≡ length a.waiting + len b.set
one_popped a b oid rest f e d =
    let parts = first_is a.waiting oid e in
    let line : b.waiting ≡ oid ∷ (parts.0 ++ f.line.0) = f.line.1 ∙ ap (λ (w : List ℕ). w ++ f.line.0) parts.1 in
    let is : rest ≡ parts.0 ++ f.line.0 = d ∙ ap (drop 1) line in
    let one : length b.waiting ≡ length rest + 1 = ap length line ∙ ap (λ (w : List ℕ). length (oid ∷ w)) (sym is) ∙ omega arith in
    omega (arith, one, f.balance)

-- ---- what follows from it

none_waiting : (w : List ℕ) (o : ℕ) → slice_get w 0 ≡ None → is_in o w ≡ true → ⊥
none_waiting [] o e i = absurd (cc)
none_waiting (x ∷ w) o e i = absurd (cc)

pub follows_none : (list : List Transaction) (m : MarkerState) → slice_get m.waiting 0 ≡ None → FollowsOne list m m None
follows_none list m e = record { kept = λ o h. h; fresh = λ o h. inl (inl h); line = λ o h. inl h; gone = λ o h. absurd (none_waiting m.waiting o e h); one = tt }

one_revised : (t : ℕ) (list : List Transaction) (oid : ℕ) (P : ℕ → Type 0) → P oid → IfSome (revised t list oid) (λ o. P o × (is_some (revision_below o (t + 1) list) ≡ true))
one_revised t list oid P p =
    ⊎_elim (λ (e : is_some (revision_below oid (t + 1) list) ≡ true). rw e (p, e)) (λ (e : is_some (revision_below oid (t + 1) list) ≡ false). rw e tt) (cases_Bool (is_some (revision_below oid (t + 1) list)))

pub follows_one : (list : List Transaction) (a b : MarkerState) (oid : ℕ) (rest : List ℕ) → OnlyMarks a b → slice_get a.waiting 0 ≡ Some oid → rest ≡ drop 1 b.waiting → FollowsOne list a (record b { waiting = rest }) (revised a.tid list oid)
follows_one list a b oid rest f e d =
    let parts = first_is a.waiting oid e in
    let line : b.waiting ≡ oid ∷ (parts.0 ++ f.line.0) = f.line.1 ∙ ap (λ (w : List ℕ). w ++ f.line.0) parts.1 in
    let is : rest ≡ parts.0 ++ f.line.0 = d ∙ ap (drop 1) line in
    let whole : b.waiting ≡ oid ∷ rest = line ∙ ap (λ (w : List ℕ). oid ∷ w) (sym is) in
    let there : is_in oid a.waiting ≡ true = first_waits a.waiting oid e in
    record {
      kept = f.kept;
      fresh = λ o h. ⊎_elim (λ (i : IsTrue (contains a.set o)). inl (inl i))
          (λ (i : IsTrue (is_in o b.waiting)).
          ⊎_elim (λ (q : eqb oid o ≡ true). inl (inr (subst (λ (n : ℕ). is_in n a.waiting ≡ true) (eqb-true oid o q) there))) (λ (j : is_in o rest ≡ true). inr j) (or_cases (eqb oid o) (is_in o rest) (sym (ap (is_in o) whole) ∙ i)))
          (f.marks.fresh o h);
      line = λ o h. f.marks.line o (ap (is_in o) whole ∙ or_right (eqb oid o) (is_in o rest) h);
      gone = λ o h.
          ⊎_elim (λ (q : eqb oid o ≡ true). inr (ap (revised a.tid list) (eqb-true oid o q))) (λ (j : is_in o parts.0 ≡ true). inl (ap (is_in o) is ∙ in_front o parts.0 f.line.0 j)) (or_cases (eqb oid o) (is_in o parts.0) (sym (ap (is_in o) parts.1) ∙ h));
      one = one_revised a.tid list oid (λ (o : ℕ). is_in o a.waiting ≡ true) there;
    }
