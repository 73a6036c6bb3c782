-- The least of the records that the reach follows and that can't be read.
use Rattle.std.proofs.Common.{◌≡◌, ℕ, ◌+◌, ◌<◌, ◌≤◌, ◌⊎◌, inl, inr, ⊎_elim, Bool, true, false, ◌&&◌, eqb, ltb, leb, List, [], ◌∷◌, ◌++◌, Option, Some, None, refl, sym, ap, subst, ◌∙◌, arith}
use Rattle.std.specs.Prelude.{is_none}
use Rattle.std.specs.List.{flat_map}
use Rattle.std.specs.Option.{option_map_or}
use Rattle.std.proofs.lemmas.Bool.{cases_Bool, cases_order, cases_lt, or_cases, or_left, or_right, and_parts, and_from, eqb-true, eq-eqb, ltb-true, lt-ltb, leb-true, le-leb}
use Rattle.zb_model.specs.declared.data.Content.{Content}
use Rattle.zb_model.specs.declared.data.Content.TheVariants.{Held, Absent}
use Rattle.zb_model.specs.declared.data.Transaction.{Transaction}
use Rattle.zb_model.specs.Database.{ObjectRevision, revision_below}
use Rattle.pack_reach.specs.Reach.{IsLeastUnreadable, IsReached, IsUnreadable, is_at_most, is_in, is_pair_in, unreadable_after, unreadable_in, unreadable_up_to}
use Rattle.pack_reach.specs.Reached.{least, lesser, reached_oids, unreadable}
use Rattle.pack_reach.specs.ReachLaws.{computed_reached, reached_computed}

-- ---- the order of pairs

pub at_most_is : (p q : ℕ × ℕ) → is_at_most p q ≡ true → (p.0 < q.0) ⊎ ((p.0 ≡ q.0) × (p.1 ≤ q.1))
at_most_is p q h =
    ⊎_elim (λ (l : ltb p.0 q.0 ≡ true). inl (ltb-true p.0 q.0 l))
    (λ (b : (eqb p.0 q.0 && leb p.1 q.1) ≡ true).
    let parts = and_parts (eqb p.0 q.0) (leb p.1 q.1) b in
    inr (eqb-true p.0 q.0 parts.0, leb-true p.1 q.1 parts.1))
    (or_cases (ltb p.0 q.0) (eqb p.0 q.0 && leb p.1 q.1) h)

pub is_at_most-from : (p q : ℕ × ℕ) → (p.0 < q.0) ⊎ ((p.0 ≡ q.0) × (p.1 ≤ q.1)) → is_at_most p q ≡ true
is_at_most-from p q (inl l) = or_left (ltb p.0 q.0) (eqb p.0 q.0 && leb p.1 q.1) (lt-ltb p.0 q.0 l)
is_at_most-from p q (inr b) = or_right (ltb p.0 q.0) (eqb p.0 q.0 && leb p.1 q.1) (and_from (eqb p.0 q.0) (leb p.1 q.1) (eq-eqb p.0 q.0 b.0) (le-leb p.1 q.1 b.1))

pub at_most_self : (p : ℕ × ℕ) → is_at_most p p ≡ true
at_most_self p = is_at_most-from p p (inr (refl, omega arith))

pub at_most_through : (p q r : ℕ × ℕ) → is_at_most p q ≡ true → is_at_most q r ≡ true → is_at_most p r ≡ true
at_most_through p q r h k = is_at_most-from p r (by_cases (at_most_is p q h) (at_most_is q r k))
  where
    by_cases : (p.0 < q.0) ⊎ ((p.0 ≡ q.0) × (p.1 ≤ q.1)) → (q.0 < r.0) ⊎ ((q.0 ≡ r.0) × (q.1 ≤ r.1)) → (p.0 < r.0) ⊎ ((p.0 ≡ r.0) × (p.1 ≤ r.1))
    by_cases (inl a) (inl b) = inl (omega arith)
    by_cases (inl a) (inr b) = inl (omega (arith, a, b.0))
    by_cases (inr a) (inl b) = inl (omega (arith, a.0, b))
    by_cases (inr a) (inr b) = inr (a.0 ∙ b.0, omega (arith, a.1, b.1))

pub at_most_other : (p q : ℕ × ℕ) → is_at_most q p ≡ false → is_at_most p q ≡ true
at_most_other p q h = by_order (cases_order p.0 q.0)
  where
    none : is_at_most q p ≡ true → ⊥
    none k = absurd (cc)

    by_order : (p.0 ≡ q.0) ⊎ ((p.0 < q.0) ⊎ (q.0 < p.0)) → is_at_most p q ≡ true
    by_order (inl e) =
        ⊎_elim (λ (l : p.1 < q.1). is_at_most-from p q (inr (e, omega (arith, l)))) (λ (l : q.1 ≤ p.1). absurd (none (is_at_most-from q p (inr (sym e, l))))) (cases_lt p.1 q.1)
    by_order (inr (inl l)) = is_at_most-from p q (inl l)
    by_order (inr (inr l)) = absurd (none (is_at_most-from q p (inl l)))

pub at_most_both : (p q : ℕ × ℕ) → is_at_most p q ≡ true → is_at_most q p ≡ true → p ≡ q
at_most_both p q h k = by_cases (at_most_is p q h) (at_most_is q p k)
  where
    by_cases : (p.0 < q.0) ⊎ ((p.0 ≡ q.0) × (p.1 ≤ q.1)) → (q.0 < p.0) ⊎ ((q.0 ≡ p.0) × (q.1 ≤ p.1)) → p ≡ q
    by_cases (inl a) (inl b) = absurd (omega (arith, a, b))
    by_cases (inl a) (inr b) = absurd (omega (arith, a, b.0))
    by_cases (inr a) (inl b) = absurd (omega (arith, a.0, b))
    by_cases (inr a) (inr b) =
        let second : p.1 ≡ q.1 = omega (arith, a.1, b.1) in
        ap (λ (n : ℕ). (n, p.1)) a.0 ∙ ap (λ (n : ℕ). (q.0, n)) second

-- ---- pairs among others

pub same_pair : (p q : ℕ × ℕ) → (eqb q.0 p.0 && eqb q.1 p.1) ≡ true → q ≡ p
same_pair p q h =
    let parts = and_parts (eqb q.0 p.0) (eqb q.1 p.1) h in
    ap (λ (n : ℕ). (n, q.1)) (eqb-true q.0 p.0 parts.0) ∙ ap (λ (n : ℕ). (p.0, n)) (eqb-true q.1 p.1 parts.1)

pub first_pair : (p : ℕ × ℕ) (ps : List (ℕ × ℕ)) → is_pair_in p (p ∷ ps) ≡ true
first_pair p ps = or_left (eqb p.0 p.0 && eqb p.1 p.1) (is_pair_in p ps) (and_from (eqb p.0 p.0) (eqb p.1 p.1) (eq-eqb p.0 p.0 refl) (eq-eqb p.1 p.1 refl))

pub later_pair : (p q : ℕ × ℕ) (ps : List (ℕ × ℕ)) → is_pair_in p ps ≡ true → is_pair_in p (q ∷ ps) ≡ true
later_pair p q ps i = or_right (eqb q.0 p.0 && eqb q.1 p.1) (is_pair_in p ps) i

pub pair_either : (p : ℕ × ℕ) (ps qs : List (ℕ × ℕ)) → is_pair_in p (ps ++ qs) ≡ true → (is_pair_in p ps ≡ true) ⊎ (is_pair_in p qs ≡ true)
pair_either p [] qs i = inr i
pair_either p (q ∷ ps) qs i =
    ⊎_elim (λ (e : (eqb q.0 p.0 && eqb q.1 p.1) ≡ true). inl (or_left (eqb q.0 p.0 && eqb q.1 p.1) (is_pair_in p ps) e))
    (λ (j : is_pair_in p (ps ++ qs) ≡ true).
    ⊎_elim (λ (k : is_pair_in p ps ≡ true). inl (later_pair p q ps k)) (λ (k : is_pair_in p qs ≡ true). inr k) (pair_either p ps qs j))
    (or_cases (eqb q.0 p.0 && eqb q.1 p.1) (is_pair_in p (ps ++ qs)) i)

pub pair_front : (p : ℕ × ℕ) (ps qs : List (ℕ × ℕ)) → is_pair_in p ps ≡ true → is_pair_in p (ps ++ qs) ≡ true
pair_front p [] qs i = absurd (cc)
pair_front p (q ∷ ps) qs i =
    ⊎_elim (λ (e : (eqb q.0 p.0 && eqb q.1 p.1) ≡ true). or_left (eqb q.0 p.0 && eqb q.1 p.1) (is_pair_in p (ps ++ qs)) e) (λ (j : is_pair_in p ps ≡ true). later_pair p q (ps ++ qs) (pair_front p ps qs j))
    (or_cases (eqb q.0 p.0 && eqb q.1 p.1) (is_pair_in p ps) i)

pub pair_back : (p : ℕ × ℕ) (ps qs : List (ℕ × ℕ)) → is_pair_in p qs ≡ true → is_pair_in p (ps ++ qs) ≡ true
pair_back p [] qs i = i
pair_back p (q ∷ ps) qs i = later_pair p q (ps ++ qs) (pair_back p ps qs i)

-- ---- the least of pairs

abbrev IsLeastOf : List (ℕ × ℕ) → Option (ℕ × ℕ) → Type 0
IsLeastOf ps None = (p : ℕ × ℕ) → is_pair_in p ps ≡ true → ⊥
IsLeastOf ps (Some p) = (is_pair_in p ps ≡ true) × ((q : ℕ × ℕ) → is_pair_in q ps ≡ true → is_at_most p q ≡ true)

lesser_is : (p : ℕ × ℕ) (ps : List (ℕ × ℕ)) (o : Option (ℕ × ℕ)) → IsLeastOf ps o → IsLeastOf (p ∷ ps) (lesser p o)
lesser_is p ps None is =
    (first_pair p ps, λ q i. ⊎_elim (λ (e : (eqb p.0 q.0 && eqb p.1 q.1) ≡ true). subst (λ (r : ℕ × ℕ). is_at_most p r ≡ true) (same_pair q p e) (at_most_self p)) (λ (j : is_pair_in q ps ≡ true). absurd (is q j)) (or_cases (eqb p.0 q.0 && eqb p.1 q.1) (is_pair_in q ps) i))
lesser_is p ps (Some m) is =
    ⊎_elim (λ (e : is_at_most m p ≡ true).
    rw e (later_pair m p ps is.0, λ q i. ⊎_elim (λ (f : (eqb p.0 q.0 && eqb p.1 q.1) ≡ true). subst (λ (r : ℕ × ℕ). is_at_most m r ≡ true) (same_pair q p f) e) (λ (j : is_pair_in q ps ≡ true). is.1 q j) (or_cases (eqb p.0 q.0 && eqb p.1 q.1) (is_pair_in q ps) i)))
    (λ (e : is_at_most m p ≡ false).
    let below : is_at_most p m ≡ true = at_most_other p m e in
    rw e (first_pair p ps, λ q i. ⊎_elim (λ (f : (eqb p.0 q.0 && eqb p.1 q.1) ≡ true). subst (λ (r : ℕ × ℕ). is_at_most p r ≡ true) (same_pair q p f) (at_most_self p)) (λ (j : is_pair_in q ps ≡ true). at_most_through p m q below (is.1 q j)) (or_cases (eqb p.0 q.0 && eqb p.1 q.1) (is_pair_in q ps) i)))
    (cases_Bool (is_at_most m p))

least_is : (ps : List (ℕ × ℕ)) → IsLeastOf ps (least ps)
least_is [] = λ p i. absurd (cc)
least_is (p ∷ ps) = lesser_is p ps (least ps) (least_is ps)

-- ---- of the records that can't be read

pub in_content : (named : List ℕ → Option (List ℕ)) (oid serial : ℕ) (content : Content) (p : ℕ × ℕ) → is_pair_in p (unreadable_in named oid serial content) ≡ true → oid ≡ p.0
in_content named oid serial Absent p i = absurd (cc)
in_content named oid serial (Held bytes) p i = by_cases (is_none (named bytes)) refl
  where
    one : is_pair_in p ((oid, serial) ∷ []) ≡ true → oid ≡ p.0
    one h =
        ⊎_elim (λ (e : (eqb oid p.0 && eqb serial p.1) ≡ true).
        let parts = and_parts (eqb oid p.0) (eqb serial p.1) e in
        eqb-true oid p.0 parts.0)
        (λ (j : is_pair_in p [] ≡ true). absurd (cc))
        (or_cases (eqb oid p.0 && eqb serial p.1) (is_pair_in p []) h)

    by_cases : (b : Bool) → is_none (named bytes) ≡ b → oid ≡ p.0
    by_cases true e = one (rw e at i)
    by_cases false e =
        let none : is_pair_in p [] ≡ true = rw e at i in
        absurd (cc)

in_revision : (named : List ℕ → Option (List ℕ)) (oid : ℕ) (o : Option ObjectRevision) (p : ℕ × ℕ) → is_pair_in p (option_map_or (λ (r : ObjectRevision). unreadable_in named oid r.serial r.content) o []) ≡ true → oid ≡ p.0
in_revision named oid None p i = absurd (cc)
in_revision named oid (Some r) p i = in_content named oid r.serial r.content p i

pub up_to_is_of : (named : List ℕ → Option (List ℕ)) (t : ℕ) (list : List Transaction) (oid : ℕ) (p : ℕ × ℕ) → is_pair_in p (unreadable_up_to named t list oid) ≡ true → oid ≡ p.0
up_to_is_of named t list oid p i = in_revision named oid (revision_below oid (t + 1) list) p i

is_followed : (named : List ℕ → Option (List ℕ)) (t : ℕ) (list : List Transaction) (oids : List ℕ) (p : ℕ × ℕ) → ((o : ℕ) → is_in o oids ≡ true → IsReached named t list o) → is_pair_in p (flat_map (unreadable_up_to named t list) oids) ≡ true → IsUnreadable named t list p
is_followed named t list [] p are i = absurd (cc)
is_followed named t list (oid ∷ oids) p are i =
    ⊎_elim (λ (h : is_pair_in p (unreadable_up_to named t list oid) ≡ true).
    let same : oid ≡ p.0 = up_to_is_of named t list oid p h in
    inr (subst (IsReached named t list) same (are oid (or_left (eqb oid oid) (is_in oid oids) (eq-eqb oid oid refl))), subst (λ (o : ℕ). is_pair_in p (unreadable_up_to named t list o) ≡ true) same h))
    (λ (h : is_pair_in p (flat_map (unreadable_up_to named t list) oids) ≡ true). is_followed named t list oids p (λ o j. are o (or_right (eqb oid o) (is_in o oids) j)) h)
    (pair_either p (unreadable_up_to named t list oid) (flat_map (unreadable_up_to named t list) oids) i)

is_listed : (named : List ℕ → Option (List ℕ)) (t : ℕ) (list : List Transaction) (oids : List ℕ) (p : ℕ × ℕ) → is_in p.0 oids ≡ true → is_pair_in p (unreadable_up_to named t list p.0) ≡ true → is_pair_in p (flat_map (unreadable_up_to named t list) oids) ≡ true
is_listed named t list [] p j i = absurd (cc)
is_listed named t list (oid ∷ oids) p j i =
    ⊎_elim (λ (e : eqb oid p.0 ≡ true). pair_front p (unreadable_up_to named t list oid) (flat_map (unreadable_up_to named t list) oids) (ap (λ (o : ℕ). is_pair_in p (unreadable_up_to named t list o)) (eqb-true oid p.0 e) ∙ i))
    (λ (k : is_in p.0 oids ≡ true). pair_back p (unreadable_up_to named t list oid) (flat_map (unreadable_up_to named t list) oids) (is_listed named t list oids p k i))
    (or_cases (eqb oid p.0) (is_in p.0 oids) j)

all_of_them : (named : List ℕ → Option (List ℕ)) (t : ℕ) (list : List Transaction) (o : Option (ℕ × ℕ)) → IsLeastOf (unreadable_after named t list ++ flat_map (unreadable_up_to named t list) (reached_oids named t list)) o → IsLeastUnreadable named t list o
all_of_them named t list o is = by_cases o is
  where
    into : (p : ℕ × ℕ) → IsUnreadable named t list p → is_pair_in p (unreadable_after named t list ++ flat_map (unreadable_up_to named t list) (reached_oids named t list)) ≡ true
    into p (inl i) = pair_front p (unreadable_after named t list) (flat_map (unreadable_up_to named t list) (reached_oids named t list)) i
    into p (inr r) = pair_back p (unreadable_after named t list) (flat_map (unreadable_up_to named t list) (reached_oids named t list)) (is_listed named t list (reached_oids named t list) p (reached_computed named t list p.0 r.0) r.1)

    out : (p : ℕ × ℕ) → is_pair_in p (unreadable_after named t list ++ flat_map (unreadable_up_to named t list) (reached_oids named t list)) ≡ true → IsUnreadable named t list p
    out p i =
        ⊎_elim (λ (h : is_pair_in p (unreadable_after named t list) ≡ true). inl h) (λ (h : is_pair_in p (flat_map (unreadable_up_to named t list) (reached_oids named t list)) ≡ true). is_followed named t list (reached_oids named t list) p (computed_reached named t list) h)
        (pair_either p (unreadable_after named t list) (flat_map (unreadable_up_to named t list) (reached_oids named t list)) i)

    by_cases : (o : Option (ℕ × ℕ)) → IsLeastOf (unreadable_after named t list ++ flat_map (unreadable_up_to named t list) (reached_oids named t list)) o → IsLeastUnreadable named t list o
    by_cases None is = λ p u. is p (into p u)
    by_cases (Some p) is = (out p is.0, λ q u. is.1 q (into q u))

pub computed_least : (named : List ℕ → Option (List ℕ)) (t : ℕ) (list : List Transaction) → IsLeastUnreadable named t list (unreadable named t list)
unfolding unreadable
computed_least named t list = all_of_them named t list (least (unreadable_after named t list ++ flat_map (unreadable_up_to named t list) (reached_oids named t list))) (least_is (unreadable_after named t list ++ flat_map (unreadable_up_to named t list) (reached_oids named t list)))

-- there is one least
pub one_least : (named : List ℕ → Option (List ℕ)) (t : ℕ) (list : List Transaction) (o q : Option (ℕ × ℕ)) → IsLeastUnreadable named t list o → IsLeastUnreadable named t list q → o ≡ q
one_least named t list None None a b = refl
one_least named t list None (Some q) a b = absurd (a q b.0)
one_least named t list (Some p) None a b = absurd (b p a.0)
one_least named t list (Some p) (Some q) a b = ap Some (at_most_both p q (a.1 q b.0) (b.1 p a.0))
