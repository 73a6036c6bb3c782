-- How many objects are marked, and how many are reached.
use Rattle.std.proofs.Common.{◌≡◌, ℕ, ◌+◌, ◌-◌, ◌<◌, ◌≤◌, ◌⊎◌, inl, inr, ⊎_elim, Bool, true, false, not, cond, eqb, List, [], ◌∷◌, Option, Some, None, Ok, Err, refl, sym, ap, subst, ◌∙◌, arith}
use Rattle.std.specs.Prelude.{IsTrue}
use Rattle.std.specs.Cmp.{nat_cmp_total, unsigned_tied}
use Rattle.std.specs.Ordering.{eq_by_cmp, nat_cmp}
use Rattle.std.specs.FinSet.{FinSet, contains, contains-empty, contains-from_list, contains-items, contains-remove, empty, from_list, insert, items, len, len-empty, len-insert, len-remove, nat_cmp-IsAntisymmetric, remove, same_set}
use Rattle.std.proofs.lemmas.Bool.{both_ways, cases_Bool, or_cases, and_parts, eqb-true}
use Rattle.zb_model.specs.SetLaws.{in_inserted}
use Rattle.zb_model.specs.declared.data.Transaction.{Transaction}
use Rattle.zb_model.specs.Queries.{first_after}
use Rattle.zb_model.specs.Database.{revision_below}
use Rattle.pack_reach.specs.declared.refusal.PackRefusal.{PackRefusal}
use Rattle.pack_reach.specs.declared.refusal.PackRefusal.TheVariants as pack_refusal
use Rattle.pack_reach.specs.Marking.{IsComplete, IsFollowed, IsMarkedWhole, IsMarking, IsPast, IsTransactionRead, KeepsMarks, MarkerState, MayMark, with_mark}
use Rattle.pack_reach.specs.Outcomes.{IsAllMarked, IsLastTurn, IsMoreLeft, RefusesToMark, RefusesTurn, readable_as}
use Rattle.pack_reach.specs.Packed.{marks_a_turn}
use Rattle.pack_reach.specs.MemberLaws.{each_implies}
use Rattle.pack_reach.specs.Reach.{is_in}
use Rattle.pack_reach.specs.Reached.{reached}
use Rattle.pack_reach.specs.ReachLaws.{is_all}
use Rattle.pack_reach.proofs.Finishing.{answered, exactly_marked, may_of, refused, set_is}
use Rattle.pack_reach.proofs.Growing.{mark_there, transaction_carried}
use Rattle.pack_reach.proofs.Seeing.{followed_carried}

-- ---- a set within another has at most as many

none_there : (s : FinSet nat_cmp) → ((o : ℕ) → contains s o ≡ true → contains (empty {R = nat_cmp}) o ≡ true) → len s ≡ 0
none_there s within =
    ap len (same_set nat_cmp_total nat_cmp-IsAntisymmetric s empty (λ o. out o (contains s o) refl ∙ sym (contains-empty nat_cmp o))) ∙ len-empty nat_cmp
  where
    out : (o : ℕ) (b : Bool) → contains s o ≡ b → contains s o ≡ false
    out o true e = absurd (both_ways (contains (empty {R = nat_cmp}) o) (contains-empty nat_cmp o) (within o e))
    out o false e = e

in_removed : (s : FinSet nat_cmp) (k o : ℕ) → contains (remove s k) o ≡ true → (eqb o k ≡ false) × (contains s o ≡ true)
in_removed s k o h =
    let parts = and_parts (not (eq_by_cmp nat_cmp o k)) (contains s o) (sym (contains-remove nat_cmp_total s k o) ∙ h) in
    (other (eqb o k) (ap not (sym (unsigned_tied o k)) ∙ parts.0), parts.1)
  where
    other : (b : Bool) → not b ≡ true → b ≡ false
    other true e = absurd (cc)
    other false e = refl

within_list : (ks : List ℕ) (s : FinSet nat_cmp) → ((o : ℕ) → contains s o ≡ true → contains (from_list {R = nat_cmp} ks) o ≡ true) → len s ≤ len (from_list {R = nat_cmp} ks)
within_list [] s within =
    let none = none_there s within in
    omega (arith, none)
within_list (k ∷ ks) s within =
    let all = from_list {R = nat_cmp} ks in
    let more : len (insert all k) ≡ cond (contains all k) (len all) (len all + 1) = len-insert nat_cmp_total all k in
    ⊎_elim (λ (e : contains all k ≡ true).
    let same : len (insert all k) ≡ len all = more ∙ ap (λ (b : Bool). cond b (len all) (len all + 1)) e in
    let rest = within_list ks s (λ o h. ⊎_elim (λ (q : eqb o k ≡ true). ap (contains all) (eqb-true o k q) ∙ e) (λ (q : contains all o ≡ true). q) (or_cases (eqb o k) (contains all o) (sym (in_inserted all k o) ∙ within o h))) in
    omega (arith, same, rest))
    (λ (e : contains all k ≡ false).
    let one : len (insert all k) ≡ len all + 1 = more ∙ ap (λ (b : Bool). cond b (len all) (len all + 1)) e in
    let less : len (remove s k) ≡ cond (contains s k) (len s - 1) (len s) = len-remove nat_cmp_total s k in
    let rest = within_list ks (remove s k) (λ o h.
    let parts = in_removed s k o h in
    ⊎_elim (λ (q : eqb o k ≡ true). absurd (both_ways (eqb o k) parts.0 q)) (λ (q : contains all o ≡ true). q) (or_cases (eqb o k) (contains all o) (sym (in_inserted all k o) ∙ within o parts.1))) in
    ⊎_elim (λ (f : contains s k ≡ true).
    let was : len (remove s k) ≡ len s - 1 = less ∙ ap (λ (b : Bool). cond b (len s - 1) (len s)) f in
    omega (arith, one, was, rest))
    (λ (f : contains s k ≡ false).
    let was : len (remove s k) ≡ len s = less ∙ ap (λ (b : Bool). cond b (len s - 1) (len s)) f in
    omega (arith, one, was, rest))
    (cases_Bool (contains s k)))
    (cases_Bool (contains all k))

listed : (t : FinSet nat_cmp) → t ≡ from_list (items t)
listed t = same_set nat_cmp_total nat_cmp-IsAntisymmetric t (from_list (items t)) (λ o. contains-items t o ∙ sym (contains-from_list nat_cmp_total (items t) o))

pub len_within : (s t : FinSet nat_cmp) → ((o : ℕ) → contains s o ≡ true → contains t o ≡ true) → len s ≤ len t
len_within s t within =
    let same = listed t in
    let rest = within_list (items t) s (λ o h. ap (λ (r : FinSet nat_cmp). contains r o) (sym same) ∙ within o h) in
    let count : len t ≡ len (from_list {R = nat_cmp} (items t)) = ap len same in
    omega (arith, rest, count)

-- ---- all is marked, or more than the limit

pub marked_all : (limit : ℕ) (list : List Transaction) (a b c d : MarkerState) → b ≡ with_mark a 0 → KeepsMarks b c → KeepsMarks c d → IsPast limit c ⊎ (first_after c.seen list ≡ None) → d.seen ≡ c.seen → IsPast limit d ⊎ (d.waiting ≡ [])
    → (limit < len d.set) ⊎ IsComplete list d
marked_all limit list a b c d e f g (inl past) seen line =
    let more = len_within c.set d.set g.kept in
    let before = past.past in
    inl (omega (arith, more, before))
marked_all limit list a b c d e f g (inr none) seen (inl past) = inl past.past
marked_all limit list a b c d e f g (inr none) seen (inr line) = inr (record {
  root = g.kept 0 (f.kept 0 (ap (λ (m : MarkerState). contains m.set 0) e ∙ mark_there a 0));
  seen = ap (λ (n : ℕ). first_after n list) seen ∙ none;
  line = line;
})

-- ---- a turn

-- what was counted is no part of the marks
pub counted_marking : (named : List ℕ → Option (List ℕ)) (list : List Transaction) (m : MarkerState) (n : ℕ) → IsMarking named list m → IsMarking named list (record m { counted = n })
counted_marking named list m n k = record {
  from = k.from;
  within = k.within;
  reached = k.reached;
  noted = k.noted;
  read = each_implies (λ (x : Transaction). m.tid < x.tid → x.tid ≤ m.seen → IsTransactionRead named m x) (λ (x : Transaction). m.tid < x.tid → x.tid ≤ m.seen → IsTransactionRead named (record m { counted = n }) x)
      (λ x h l q. transaction_carried named m (record m { counted = n }) x (λ o i. i) (λ p i. i) (h l q)) list k.read;
  followed = λ o h. ⊎_elim (λ (i : IsTrue (is_in o m.waiting)). inl i) (λ (i : IsFollowed named list m o). inr (followed_carried named m (record m { counted = n }) o (revision_below o (m.tid + 1) list) (λ o h. h) (λ p h. h) i)) (k.followed o h);
  waiting = k.waiting;
}

counted_complete : (list : List Transaction) (m : MarkerState) (n : ℕ) → IsComplete list m → IsComplete list (record m { counted = n })
counted_complete list m n all = record { root = all.root; seen = all.seen; line = all.line }

-- a marker with no record that can't be read refuses none
pub readable_none : (o : Option (ℕ × ℕ)) (x : Unit {0}) → readable_as o ≡ Ok x → o ≡ None
readable_none None x e = refl
readable_none (Some p) x e = absurd (cc)

pub counted_whole : (named : List ℕ → Option (List ℕ)) (list : List Transaction) (m : MarkerState) (n : ℕ) (x : Unit {0}) → IsMarking named list m → IsComplete list m → readable_as m.unreadable ≡ Ok x → IsMarkedWhole named list (record m { counted = n })
counted_whole named list m n x k all e = record { marks = counted_marking named list m n k; all = counted_complete list m n all; readable = readable_none m.unreadable x e }

pub counted_all : (named : List ℕ → Option (List ℕ)) (list : List Transaction) (m : MarkerState) (n : ℕ) (x : Unit {0}) → IsMarking named list m → IsComplete list m → n ≡ len m.set → readable_as m.unreadable ≡ Ok x → IsAllMarked named list (record m { counted = n }) n
counted_all named list m n x k all e is = answered named list (record m { counted = n }) n (counted_marking named list m n k) (counted_complete list m n all) e (readable_none m.unreadable x is)

pub counted_may : (named : List ℕ → Option (List ℕ)) (list : List Transaction) (m : MarkerState) (n : ℕ) → IsMarking named list m → MayMark named list (record m { counted = n })
counted_may named list m n k = may_of named list (record m { counted = n }) (counted_marking named list m n k)

-- more are marked than the limit, so more are reached
pub more_left : (named : List ℕ → Option (List ℕ)) (list : List Transaction) (m : MarkerState) (before limit : ℕ) → IsMarking named list m → limit ≡ before + marks_a_turn → limit < len m.set → IsMoreLeft named list before m
more_left named list m before limit k is past =
    let within = len_within m.set (reached named m.tid list) (λ o h. (is_all named m.tid list o).1 (k.reached o h)) in
    omega (arith, within, is, past)

-- no more than the limit are, so all are
pub is_complete : (limit : ℕ) (list : List Transaction) (m : MarkerState) → (limit < len m.set) ⊎ IsComplete list m → len m.set ≤ limit → IsComplete list m
is_complete limit list m (inl past) l = absurd (omega (arith, past, l))
is_complete limit list m (inr all) l = all

pub last_turn : (named : List ℕ → Option (List ℕ)) (list : List Transaction) (m : MarkerState) (before limit : ℕ) → IsMarking named list m → IsComplete list m → len m.set ≤ limit → limit ≤ before + marks_a_turn → IsLastTurn named list before m
last_turn named list m before limit k all l is =
    let same : len m.set ≡ len (reached named m.tid list) = ap len (set_is named list m (exactly_marked named list m k all.seen all.root all.line)) in
    omega (arith, same, l, is)

-- ---- whether all records can be read

pub refuses_all : (named : List ℕ → Option (List ℕ)) (list : List Transaction) (m : MarkerState) (o : Option (ℕ × ℕ)) (why : PackRefusal) → IsMarking named list m → IsComplete list m → o ≡ m.unreadable → readable_as o ≡ Err why → RefusesToMark named list m why
refuses_all named list m None why k all u e = absurd (cc)
refuses_all named list m (Some p) why k all u e =
    let is : pack_refusal.Unreadable p.0 p.1 ≡ why = cc in
    subst (RefusesToMark named list m) is (refused named list m p k all (sym u))

pub refuses_turn : (named : List ℕ → Option (List ℕ)) (list : List Transaction) (m : MarkerState) (before : ℕ) (o : Option (ℕ × ℕ)) (why : PackRefusal) → IsMarking named list m → IsComplete list m → IsLastTurn named list before m → o ≡ m.unreadable → readable_as o ≡ Err why → RefusesTurn named list before m why
refuses_turn named list m before None why k all last u e = absurd (cc)
refuses_turn named list m before (Some p) why k all last u e =
    let is : pack_refusal.Unreadable p.0 p.1 ≡ why = cc in
    subst (RefusesTurn named list before m) is (last, refused named list m p k all (sym u))
