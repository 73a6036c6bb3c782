-- A marker goes over the transactions after the pack's tid.
use Rattle.std.proofs.Common.{◌≡◌, ℕ, ◌+◌, ◌-◌, ◌^◌, ◌<◌, ◌≤◌, max, inl, inr, ⊎_elim, Bool, true, false, eqb, ltb, List, [], ◌∷◌, ◌++◌, map, filter, Option, Some, None, refl, sym, ap, subst, ◌∙◌, arith}
use Rattle.std.specs.Prelude.{IfSome, IsTrue}
use Rattle.std.specs.List.{AllByRecursion, flat_map}
use Rattle.std.specs.Option.{option_map}
use Rattle.std.specs.FinSet.{contains}
use Rattle.std.proofs.lemmas.Bool.{cases_Bool, cases_lt, or_left, or_right, eq-eqb, ltb-true, ltb-false, lt-ltb, le-ltb}
use Rattle.zb_model.specs.declared.data.Change.{Change}
use Rattle.zb_model.specs.declared.data.Transaction.{Transaction}
use Rattle.zb_model.specs.Database.{IsDatabase, ObjectRevision, newest_tid, revision_below}
use Rattle.zb_model.specs.Queries.{first_after, is_above, oids_of}
use Rattle.zb_model.specs.SerialLaws.{RisesTo, database_rises}
use Rattle.pack_reach.specs.Marking.{IsFollowed, IsMarking, IsNextSeen, IsNoted, IsRead, IsSound, IsTransactionRead, MarkerState, MayReadChange, MayReadTransaction, OnlyMarks}
use Rattle.pack_reach.specs.Reach.{IsReached, IsUnreadable, is_in, is_pair_in, references_in, references_of, unreadable_in, unreadable_of}
use Rattle.pack_reach.proofs.Growing.{read_carried, transaction_carried, waits_in}
use Rattle.pack_reach.proofs.Least.{pair_back, pair_front}
use Rattle.pack_reach.specs.MemberLaws.{each_implies, each_in, in_back, in_front}

-- ---- marks stand while more is marked

pub followed_carried : (named : List ℕ → Option (List ℕ)) (a b : MarkerState) (oid : ℕ) (o : Option ObjectRevision) → ((n : ℕ) → contains a.set n ≡ true → contains b.set n ≡ true) → ((p : ℕ × ℕ) → IsNoted a.unreadable p → IsNoted b.unreadable p)
    → IfSome o (λ r. IsRead named a oid r.serial r.content) → IfSome o (λ r. IsRead named b oid r.serial r.content)
followed_carried named a b oid None kept noted r = tt
followed_carried named a b oid (Some x) kept noted r = read_carried named a b oid x.serial x.content kept noted r

pub grown_marking : (named : List ℕ → Option (List ℕ)) (list : List Transaction) (a b : MarkerState) → IsMarking named list a → OnlyMarks a b → IsSound named list a b → IsMarking named list b
grown_marking named list a b m f s = record {
  from = omega (arith, m.from, f.tid, f.seen);
  within = subst (λ (t : ℕ). b.seen ≤ max t (newest_tid list)) (sym f.tid) (subst (λ (n : ℕ). n ≤ max a.tid (newest_tid list)) (sym f.seen) m.within);
  reached = λ o h. subst (λ (t : ℕ). IsReached named t list o) (sym f.tid) (⊎_elim (λ (i : IsTrue (contains a.set o)). m.reached o i) (λ (i : IsTrue (is_in o b.waiting) × IsReached named a.tid list o). i.1) (s.fresh o h));
  noted = subst (λ (t : ℕ). IfSome b.unreadable (IsUnreadable named t list)) (sym f.tid)
      (⊎_elim (λ (e : b.unreadable ≡ a.unreadable). subst (λ (o : Option (ℕ × ℕ)). IfSome o (IsUnreadable named a.tid list)) (sym e) m.noted) (λ (e : IfSome b.unreadable (IsUnreadable named a.tid list)). e) s.found);
  read = each_implies (λ (x : Transaction). a.tid < x.tid → x.tid ≤ a.seen → IsTransactionRead named a x) (λ (x : Transaction). b.tid < x.tid → x.tid ≤ b.seen → IsTransactionRead named b x)
      (λ x h l n. transaction_carried named a b x f.kept f.noted (h (omega (arith, l, f.tid)) (omega (arith, n, f.seen)))) list m.read;
  followed = λ o h.
      ⊎_elim (λ (i : IsTrue (contains a.set o)).
      ⊎_elim (λ (j : IsTrue (is_in o a.waiting)). inl (waits_in a b f o j))
      (λ (j : IsFollowed named list a o). inr (subst (λ (t : ℕ). IfSome (revision_below o (t + 1) list) (λ r. IsRead named b o r.serial r.content)) (sym f.tid) (followed_carried named a b o (revision_below o (a.tid + 1) list) f.kept f.noted j)))
      (m.followed o i))
      (λ (i : IsTrue (is_in o b.waiting) × IsReached named a.tid list o). inl i.0)
      (s.fresh o h);
  waiting = λ o h. ⊎_elim (λ (i : IsTrue (is_in o a.waiting)). f.kept o (m.waiting o i)) (λ (i : (contains a.set o ≡ false) × IsTrue (contains b.set o)). i.1) (f.marks.line o h);
}

-- ---- the next transaction

pub next_is_above : (s : ℕ) (list : List Transaction) (x : Transaction) → first_after s list ≡ Some x → s < x.tid
next_is_above s [] x e = absurd (cc)
next_is_above s (y ∷ list) x e =
    ⊎_elim (λ (a : ltb s y.tid ≡ true).
    let same : Some y ≡ Some x = rw a at e in
    let is : y ≡ x = cc in
    let tid : y.tid ≡ x.tid = ap (λ (z : Transaction). z.tid) is in
    omega (arith, ltb-true s y.tid a, tid))
    (λ (a : ltb s y.tid ≡ false).
    let rest : first_after s list ≡ Some x = rw a at e in
    next_is_above s list x rest)
    (cases_Bool (ltb s y.tid))

-- what it has is had after t
next_has : (f : Transaction → List ℕ) (t s : ℕ) (list : List Transaction) (x : Transaction) (n : ℕ) → t ≤ s → first_after s list ≡ Some x → is_in n (f x) ≡ true → is_in n (flat_map f (filter (is_above t) list)) ≡ true
next_has f t s [] x n l e i = absurd (cc)
next_has f t s (y ∷ list) x n l e i =
    ⊎_elim (λ (a : ltb s y.tid ≡ true).
    let same : Some y ≡ Some x = rw a at e in
    let is : y ≡ x = cc in
    let above : ltb t y.tid ≡ true = lt-ltb t y.tid (omega (arith, l, ltb-true s y.tid a)) in
    rw above (in_front n (f y) (flat_map f (filter (is_above t) list)) (ap (λ (z : Transaction). is_in n (f z)) is ∙ i)))
    (λ (a : ltb s y.tid ≡ false).
    let later : first_after s list ≡ Some x = rw a at e in
    let rest = next_has f t s list x n l later i in
    ⊎_elim (λ (b : ltb t y.tid ≡ true). rw b (in_back n (f y) (flat_map f (filter (is_above t) list)) rest)) (λ (b : ltb t y.tid ≡ false). rw b rest) (cases_Bool (ltb t y.tid)))
    (cases_Bool (ltb s y.tid))

next_has_pair : (f : Transaction → List (ℕ × ℕ)) (t s : ℕ) (list : List Transaction) (x : Transaction) (p : ℕ × ℕ) → t ≤ s → first_after s list ≡ Some x → is_pair_in p (f x) ≡ true → is_pair_in p (flat_map f (filter (is_above t) list)) ≡ true
next_has_pair f t s [] x p l e i = absurd (cc)
next_has_pair f t s (y ∷ list) x p l e i =
    ⊎_elim (λ (a : ltb s y.tid ≡ true).
    let same : Some y ≡ Some x = rw a at e in
    let is : y ≡ x = cc in
    let above : ltb t y.tid ≡ true = lt-ltb t y.tid (omega (arith, l, ltb-true s y.tid a)) in
    rw above (pair_front p (f y) (flat_map f (filter (is_above t) list)) (ap (λ (z : Transaction). is_pair_in p (f z)) is ∙ i)))
    (λ (a : ltb s y.tid ≡ false).
    let later : first_after s list ≡ Some x = rw a at e in
    let rest = next_has_pair f t s list x p l later i in
    ⊎_elim (λ (b : ltb t y.tid ≡ true). rw b (pair_back p (f y) (flat_map f (filter (is_above t) list)) rest)) (λ (b : ltb t y.tid ≡ false). rw b rest) (cases_Bool (ltb t y.tid)))
    (cases_Bool (ltb s y.tid))

each_oid : (changes : List Change) → AllByRecursion (λ (c : Change). is_in c.oid (map (λ (c : Change). c.oid) changes) ≡ true) changes
each_oid [] = tt
each_oid (c ∷ changes) = (
  or_left (eqb c.oid c.oid) (is_in c.oid (map (λ (c : Change). c.oid) changes)) (eq-eqb c.oid c.oid refl),
  each_implies (λ (d : Change). is_in d.oid (map (λ (c : Change). c.oid) changes) ≡ true) (λ (d : Change). is_in d.oid (map (λ (c : Change). c.oid) (c ∷ changes)) ≡ true) (λ d i. or_right (eqb c.oid d.oid) (is_in d.oid (map (λ (c : Change). c.oid) changes)) i) changes (each_oid changes),
)

each_pair : (f : Change → List (ℕ × ℕ)) (changes : List Change) → AllByRecursion (λ (c : Change). (p : ℕ × ℕ) → is_pair_in p (f c) ≡ true → is_pair_in p (flat_map f changes) ≡ true) changes
each_pair f [] = tt
each_pair f (c ∷ changes) = (
  λ p i. pair_front p (f c) (flat_map f changes) i,
  each_implies (λ (d : Change). (p : ℕ × ℕ) → is_pair_in p (f d) ≡ true → is_pair_in p (flat_map f changes) ≡ true) (λ (d : Change). (p : ℕ × ℕ) → is_pair_in p (f d) ≡ true → is_pair_in p (flat_map f (c ∷ changes)) ≡ true) (λ d h p i. pair_back p (f c) (flat_map f changes) (h p i)) changes (each_pair f changes),
)

each_three : {X : Type 0} (P Q R S : X → Type 0) → ((x : X) → P x → Q x → R x → S x) → (xs : List X) → AllByRecursion P xs → AllByRecursion Q xs → AllByRecursion R xs → AllByRecursion S xs
each_three P Q R S f [] p q r = tt
each_three P Q R S f (x ∷ xs) p q r = (f x p.0 q.0 r.0, each_three P Q R S f xs p.1 q.1 r.1)

pub may_read_next : (named : List ℕ → Option (List ℕ)) (t s : ℕ) (list : List Transaction) (x : Transaction) → t ≤ s → first_after s list ≡ Some x → MayReadTransaction named t list x
may_read_next named t s list x l e =
    each_three (λ (c : Change). is_in c.oid (oids_of x) ≡ true) (λ (c : Change). (n : ℕ) → is_in n (references_of named c.content) ≡ true → is_in n (references_in named x) ≡ true)
    (λ (c : Change). (p : ℕ × ℕ) → is_pair_in p (unreadable_in named c.oid x.tid c.content) ≡ true → is_pair_in p (unreadable_of named x) ≡ true)
    (MayReadChange named t list x.tid)
    (λ c a b d. (
      IsReached.changed c.oid (next_has oids_of t s list x c.oid l e a),
      record {
        names = λ n i. IsReached.written n (next_has (references_in named) t s list x n l e (b n i));
        unreadable = λ p i. inl (next_has_pair (unreadable_of named) t s list x p l e (d p i));
      },
    ))
    x.changes (each_oid x.changes) (each_in (λ (c : Change). references_of named c.content) x.changes) (each_pair (λ (c : Change). unreadable_in named c.oid x.tid c.content) x.changes)

-- ---- transactions rise

pub rises_above : (low high : ℕ) (list : List Transaction) → RisesTo low high list → AllByRecursion (λ (x : Transaction). low < x.tid) list
rises_above low high [] h = tt
rises_above low high (x ∷ list) h = (h.0, each_implies (λ (y : Transaction). x.tid < y.tid) (λ (y : Transaction). low < y.tid) (λ y l. omega (arith, l, h.0)) list (rises_above x.tid high list h.1))

pub rises_bounded : (low high : ℕ) (list : List Transaction) → RisesTo low high list → low ≤ high
rises_bounded low high [] h = h
rises_bounded low high (x ∷ list) h = omega (arith, h.0, rises_bounded x.tid high list h.1)

-- between what was seen and the next one there is none
next_covers : (P : Transaction → Type 0) (s low high : ℕ) (list : List Transaction) (x : Transaction) → RisesTo low high list → first_after s list ≡ Some x → P x → AllByRecursion (λ (y : Transaction). s < y.tid → y.tid ≤ x.tid → P y) list × x.tid ≤ high
next_covers P s low high [] x h e px = absurd (cc)
next_covers P s low high (y ∷ list) x h e px =
    ⊎_elim (λ (a : ltb s y.tid ≡ true).
    let same : Some y ≡ Some x = rw a at e in
    let is : x ≡ y = cc in
    let tid : x.tid ≡ y.tid = ap (λ (z : Transaction). z.tid) is in
    ((λ l n. subst P is px, each_implies (λ (z : Transaction). y.tid < z.tid) (λ (z : Transaction). s < z.tid → z.tid ≤ x.tid → P z) (λ z k l n. absurd (omega (arith, k, n, tid))) list (rises_above y.tid high list h.1)), omega (arith, tid, rises_bounded y.tid high list h.1)))
    (λ (a : ltb s y.tid ≡ false).
    let later : first_after s list ≡ Some x = rw a at e in
    let rest = next_covers P s y.tid high list x h.1 later px in
    ((λ l n. absurd (omega (arith, l, ltb-false s y.tid a)), rest.0), rest.1))
    (cases_Bool (ltb s y.tid))

pub next_marking : (named : List ℕ → Option (List ℕ)) (list : List Transaction) (m : MarkerState) (x : Transaction) → RisesTo 0 (newest_tid list) list → IsMarking named list m → first_after m.seen list ≡ Some x → IsTransactionRead named m x → IsMarking named list (record m { seen = x.tid })
next_marking named list m x rises k e read =
    let above = next_is_above m.seen list x e in
    let covers = next_covers (IsTransactionRead named m) m.seen 0 (newest_tid list) list x rises e read in
    record {
      from = omega (arith, k.from, above);
      within = omega (arith, covers.1);
      reached = k.reached;
      noted = k.noted;
      read = each_both (λ (y : Transaction). m.tid < y.tid → y.tid ≤ m.seen → IsTransactionRead named m y) (λ (y : Transaction). m.seen < y.tid → y.tid ≤ x.tid → IsTransactionRead named m y) (λ (y : Transaction). m.tid < y.tid → y.tid ≤ x.tid → IsTransactionRead named (record m { seen = x.tid }) y)
          (λ y a b l n. transaction_carried named m (record m { seen = x.tid }) y (λ o h. h) (λ p h. h)
          (⊎_elim (λ (late : m.seen < y.tid). b late n) (λ (early : y.tid ≤ m.seen). a l early) (cases_lt m.seen y.tid))) list k.read covers.0;
      followed = λ o h. ⊎_elim (λ (i : IsTrue (is_in o m.waiting)). inl i) (λ (i : IsFollowed named list m o). inr (followed_carried named m (record m { seen = x.tid }) o (revision_below o (m.tid + 1) list) (λ n h. h) (λ p h. h) i)) (k.followed o h);
      waiting = k.waiting;
    }
  where
    each_both : {X : Type 0} (P Q R : X → Type 0) → ((x : X) → P x → Q x → R x) → (xs : List X) → AllByRecursion P xs → AllByRecursion Q xs → AllByRecursion R xs
    each_both P Q R f [] p q = tt
    each_both P Q R f (x ∷ xs) p q = (f x p.0 q.0, each_both P Q R f xs p.1 q.1)

-- ---- no transaction is left

pub none_after : (s low high : ℕ) (list : List Transaction) → RisesTo low high list → high ≤ s → first_after s list ≡ None
none_after s low high [] h l = refl
none_after s low high (x ∷ list) h l =
    let out : ltb s x.tid ≡ false = le-ltb s x.tid (omega (arith, rises_bounded x.tid high list h.1, l)) in
    rw out (none_after s x.tid high list h.1 l)

pub all_seen : (s : ℕ) (list : List Transaction) → IsDatabase list → 2 ^ 64 - 1 ≤ s → first_after s list ≡ None
all_seen s list is l = none_after s 0 (newest_tid list) list (database_rises list is) (omega (arith, is.bounded, l))

pub none_up_to : (s : ℕ) (list : List Transaction) → AllByRecursion (λ (x : Transaction). x.tid ≤ s) list → first_after s list ≡ None
none_up_to s [] all = refl
none_up_to s (x ∷ list) all =
    let out : ltb s x.tid ≡ false = le-ltb s x.tid all.0 in
    rw out (none_up_to s list all.1)

-- ---- the next transaction stands behind those that were seen

abbrev pub first_of : List Transaction → Option Transaction
first_of [] = None
first_of (x ∷ list) = Some x

-- they rise from above this tid
abbrev pub Rises : ℕ → List Transaction → Type 0
Rises s [] = Unit {0}
Rises s (x ∷ list) = (s < x.tid) × Rises x.tid list

pub rises_of : (low high : ℕ) (list : List Transaction) → RisesTo low high list → Rises low list
rises_of low high [] h = tt
rises_of low high (x ∷ list) h = (h.0, rises_of x.tid high list h.1)

pub rises_from : (low t s : ℕ) (list : List Transaction) → Rises low list → AllByRecursion (λ (x : Transaction). t < x.tid) list → s ≤ max t low → Rises s list
rises_from low t s [] h above l = tt
rises_from low t s (x ∷ list) h above l = (omega (arith, h.0, above.0, l), h.1)

pub next_behind : (s : ℕ) (front rest : List Transaction) → AllByRecursion (λ (x : Transaction). x.tid ≤ s) front → Rises s rest → first_after s (front ++ rest) ≡ first_of rest
next_behind s [] [] all h = refl
next_behind s [] (x ∷ rest) all h =
    let above : ltb s x.tid ≡ true = lt-ltb s x.tid h.0 in
    rw above refl
next_behind s (x ∷ front) rest all h =
    let out : ltb s x.tid ≡ false = le-ltb s x.tid all.0 in
    rw out (next_behind s front rest all.1 h)

pub up_to_more : (s n : ℕ) (list : List Transaction) → s ≤ n → AllByRecursion (λ (x : Transaction). x.tid ≤ s) list → AllByRecursion (λ (x : Transaction). x.tid ≤ n) list
up_to_more s n list l all = each_implies (λ (x : Transaction). x.tid ≤ s) (λ (x : Transaction). x.tid ≤ n) (λ x h. omega (arith, h, l)) list all

-- ---- it was there

pub next_was : (list : List Transaction) (a b : MarkerState) (r : Bool) → r ≡ true → IsNextSeen list a b r → (a.seen < b.seen) × (option_map (λ (x : Transaction). x.tid) (first_after a.seen list) ≡ Some b.seen)
next_was list a b true e h = h
next_was list a b false e h = absurd (cc)

pub next_none : (list : List Transaction) (a b : MarkerState) (r : Bool) → r ≡ false → IsNextSeen list a b r → (first_after a.seen list ≡ None) × (b ≡ a)
next_none list a b true e h = absurd (cc)
next_none list a b false e h = h
