-- The objects that are computed are those at the end of a path. For the proofs of those who follow a pack.
use Rattle.std.proofs.Common.{◌≡◌, ℕ, zero, suc, ◌+◌, ◌<◌, ◌≤◌, ◌⊎◌, inl, inr, ⊎_elim, Bool, true, false, not, eqb, List, [], ◌∷◌, ◌++◌, length, filter, Option, Some, None, refl, sym, ap, subst, ◌∙◌, ◌||◌, arith}
use Rattle.std.specs.Prelude.{IfSome, IsTrue, ◌↔◌}
use Rattle.std.specs.List.{AllByRecursion, cons_option, flat_map, list_all}
use Rattle.std.specs.Option.{option_map, option_map_or}
use Rattle.std.specs.FinSet.{contains, contains-from_list_nat}
use Rattle.std.proofs.lemmas.Bool.{cases_Bool, or_cases, or_left, or_right, eqb-true, eq-eqb}
use Rattle.zb_model.specs.declared.data.Change.{Change}
use Rattle.zb_model.specs.declared.data.Transaction.{Transaction}
use Rattle.zb_model.specs.Database.{ObjectRevision, change_in, is_below, is_change_of, revision_below, revision_in, revisions}
use Rattle.pack_reach.specs.Reach.{IsReached, changed_after, is_in, named_after, references_in, references_of, references_up_to}
use Rattle.pack_reach.specs.Reached.{one_step_on, reached, reached_oids, starts, steps_on}
use Rattle.pack_reach.specs.MemberLaws.{AnyOf, each_in, each_implies, last_has, in_either, in_all, in_front, in_back, in_new, in_old, nothing_new, all_pass, one_fails, in_some}

-- ---- what each revision has that a transaction makes

revision_of : (Q : ObjectRevision → Type 0) (oid tid : ℕ) (o : Option Change) → IfSome o (λ (c : Change). Q (record { serial = tid; content = c.content })) → IfSome (option_map (λ (c : Change). record { serial = tid; content = c.content }) o) Q
revision_of Q oid tid None one = one
revision_of Q oid tid (Some c) one = one

pub revision_has : (Q : ObjectRevision → Type 0) (oid : ℕ) (x : Transaction) → AllByRecursion (λ (c : Change). Q (record { serial = x.tid; content = c.content })) x.changes → IfSome (revision_in oid x) Q
revision_has Q oid x all = revision_of Q oid x.tid (change_in oid x.changes) (last_has (λ (c : Change). Q (record { serial = x.tid; content = c.content })) (is_change_of oid) None x.changes tt all)

cons_has : (Q : ObjectRevision → Type 0) (o : Option ObjectRevision) (rs : List ObjectRevision) → IfSome o Q → AllByRecursion Q rs → AllByRecursion Q (cons_option o rs)
cons_has Q None rs one all = all
cons_has Q (Some r) rs one all = (one, all)

pub revisions_have : (Q : ObjectRevision → Type 0) (oid : ℕ) (list : List Transaction) → AllByRecursion (λ (x : Transaction). IfSome (revision_in oid x) Q) list → AllByRecursion Q (revisions oid list)
revisions_have Q oid [] all = tt
revisions_have Q oid (x ∷ list) all = cons_has Q (revision_in oid x) (revisions oid list) all.0 (revisions_have Q oid list all.1)

-- ---- references are references of the list

-- what a revision names is among these
abbrev NamesWithin : (List ℕ → Option (List ℕ)) → List ℕ → ObjectRevision → Type 0
NamesWithin named all r = (n : ℕ) → is_in n (references_of named r.content) ≡ true → is_in n all ≡ true

transaction_within : (named : List ℕ → Option (List ℕ)) (all : List ℕ) (oid : ℕ) (x : Transaction) → ((n : ℕ) → is_in n (references_in named x) ≡ true → is_in n all ≡ true) → IfSome (revision_in oid x) (NamesWithin named all)
transaction_within named all oid x within =
    revision_has (NamesWithin named all) oid x
    (each_implies (λ (c : Change). (n : ℕ) → is_in n (references_of named c.content) ≡ true → is_in n (references_in named x) ≡ true) (λ (c : Change). (n : ℕ) → is_in n (references_of named c.content) ≡ true → is_in n all ≡ true)
    (λ c h n i. within n (h n i)) x.changes (each_in (λ (c : Change). references_of named c.content) x.changes))

some_within : (named : List ℕ → Option (List ℕ)) (all : List ℕ) (o : Option ObjectRevision) (n : ℕ) → IfSome o (NamesWithin named all) → is_in n (option_map_or (λ (r : ObjectRevision). references_of named r.content) o []) ≡ true → is_in n all ≡ true
some_within named all None n one i = absurd (cc)
some_within named all (Some r) n one i = one n i

pub up_to_within : (named : List ℕ → Option (List ℕ)) (t oid n : ℕ) (list : List Transaction) → is_in n (references_up_to named t list oid) ≡ true → is_in n (flat_map (references_in named) list) ≡ true
up_to_within named t oid n list i =
    let all = flat_map (references_in named) list in
    let each : AllByRecursion (λ (x : Transaction). IfSome (revision_in oid x) (NamesWithin named all)) list =
    each_implies (λ (x : Transaction). (n : ℕ) → is_in n (references_in named x) ≡ true → is_in n all ≡ true) (λ (x : Transaction). IfSome (revision_in oid x) (NamesWithin named all)) (λ x h. transaction_within named all oid x h) list (each_in (references_in named) list) in
    some_within named all (revision_below oid (t + 1) list) n (last_has (NamesWithin named all) (is_below (t + 1)) None (revisions oid list) tt (revisions_have (NamesWithin named all) oid list each)) i

-- ---- what is computed is reached

start_reached : (named : List ℕ → Option (List ℕ)) (t : ℕ) (list : List Transaction) (oid : ℕ) → is_in oid (starts named t list) ≡ true → IsReached named t list oid
start_reached named t list oid i = by_first (cases_Bool (is_in oid (0 ∷ [])))
  where
    by_more : (is_in oid (changed_after t list) ≡ true) ⊎ (is_in oid (named_after named t list) ≡ true) → IsReached named t list oid
    by_more (inl h) = IsReached.changed oid h
    by_more (inr h) = IsReached.written oid h

    by_first : (is_in oid (0 ∷ []) ≡ true) ⊎ (is_in oid (0 ∷ []) ≡ false) → IsReached named t list oid
    by_first (inl h) = zero_reached (cases_Bool (eqb 0 oid))
      where
        zero_reached : (eqb 0 oid ≡ true) ⊎ (eqb 0 oid ≡ false) → IsReached named t list oid
        zero_reached (inl e) = subst (IsReached named t list) (eqb-true 0 oid e) IsReached.root
        zero_reached (inr e) = absurd (none (rw e at h))
          where
            none : (false || false) ≡ true → ⊥
            none q = cc
    by_first (inr h) =
        by_more (in_either oid (changed_after t list) (named_after named t list) (ap (λ (b : Bool). b || is_in oid (changed_after t list ++ named_after named t list)) (sym h) ∙ sym (in_all oid (0 ∷ []) (changed_after t list ++ named_after named t list)) ∙ i))

-- each of these is reached
abbrev AreReached : (List ℕ → Option (List ℕ)) → ℕ → List Transaction → List ℕ → Type 0
AreReached named t list oids = (oid : ℕ) → is_in oid oids ≡ true → IsReached named t list oid

step_reached : (named : List ℕ → Option (List ℕ)) (t : ℕ) (list : List Transaction) (oids : List ℕ) → AreReached named t list oids → AreReached named t list (one_step_on named t list oids)
step_reached named t list oids are oid i =
    ⊎_elim (λ (h : is_in oid oids ≡ true). are oid h)
    (λ (h : is_in oid (flat_map (references_up_to named t list) oids) ≡ true). from_some oids are (in_some (references_up_to named t list) oid oids h))
    (or_cases (is_in oid oids) (is_in oid (flat_map (references_up_to named t list) oids)) (sym (in_all oid oids (flat_map (references_up_to named t list) oids)) ∙ i))
  where
    from_some : (froms : List ℕ) → AreReached named t list froms → AnyOf (λ (from : ℕ). is_in oid (references_up_to named t list from) ≡ true) froms → IsReached named t list oid
    from_some [] are any = absurd any
    from_some (from ∷ froms) are (inl h) = IsReached.followed from oid (are from (or_left (eqb from from) (is_in from froms) (eq-eqb from from refl))) h
    from_some (from ∷ froms) are (inr any) = from_some froms (λ o i. are o (or_right (eqb from o) (is_in o froms) i)) any

steps_reached : (n : ℕ) (named : List ℕ → Option (List ℕ)) (t : ℕ) (list : List Transaction) (oids : List ℕ) → AreReached named t list oids → AreReached named t list (steps_on n named t list oids)
steps_reached zero named t list oids are = are
steps_reached (suc n) named t list oids are = steps_reached n named t list (one_step_on named t list oids) (step_reached named t list oids are)

pub computed_reached : (named : List ℕ → Option (List ℕ)) (t : ℕ) (list : List Transaction) → AreReached named t list (reached_oids named t list)
unfolding reached_oids
computed_reached named t list = steps_reached (length (flat_map (references_in named) list)) named t list (starts named t list) (start_reached named t list)

-- ---- what is reached is computed

-- references of these lead to these
abbrev IsClosed : (List ℕ → Option (List ℕ)) → ℕ → List Transaction → List ℕ → Type 0
IsClosed named t list oids = (from oid : ℕ) → is_in from oids ≡ true → is_in oid (references_up_to named t list from) ≡ true → is_in oid oids ≡ true

-- how many of all these are not among the others
abbrev missing : List ℕ → List ℕ → ℕ
missing all oids = length (filter (λ n. not (is_in n oids)) all)

fewer : (all one other : List ℕ) → ((n : ℕ) → is_in n one ≡ true → is_in n other ≡ true) → missing all other ≤ missing all one
fewer [] one other h = omega arith
fewer (m ∷ all) one other h =
    let rest = fewer all one other h in
    ⊎_elim (λ (e : is_in m one ≡ true).
    let f : is_in m other ≡ true = h m e in
    rw (e, f) rest)
    (λ (e : is_in m one ≡ false).
    ⊎_elim (λ (f : is_in m other ≡ true). rw (e, f) (omega (arith, rest))) (λ (f : is_in m other ≡ false). rw (e, f) (omega (arith, rest))) (cases_Bool (is_in m other)))
    (cases_Bool (is_in m one))

one_fewer : (all one other : List ℕ) (n : ℕ) → ((m : ℕ) → is_in m one ≡ true → is_in m other ≡ true) → is_in n all ≡ true → is_in n one ≡ false → is_in n other ≡ true → missing all other < missing all one
one_fewer [] one other n h i out there = absurd (cc)
one_fewer (m ∷ all) one other n h i out there =
    ⊎_elim (λ (e : eqb m n ≡ true).
    let same : m ≡ n = eqb-true m n e in
    let o : is_in m one ≡ false = ap (λ k. is_in k one) same ∙ out in
    let p : is_in m other ≡ true = ap (λ k. is_in k other) same ∙ there in
    let rest = fewer all one other h in
    rw (o, p) (omega (arith, rest)))
    (λ (j : is_in n all ≡ true).
    let rest = one_fewer all one other n h j out there in
    ⊎_elim (λ (f : is_in m one ≡ true).
    let g : is_in m other ≡ true = h m f in
    rw (f, g) rest)
    (λ (f : is_in m one ≡ false).
    ⊎_elim (λ (g : is_in m other ≡ true). rw (f, g) (omega (arith, rest))) (λ (g : is_in m other ≡ false). rw (f, g) (omega (arith, rest))) (cases_Bool (is_in m other)))
    (cases_Bool (is_in m one)))
    (or_cases (eqb m n) (is_in n all) i)

none_missing : (all oids : List ℕ) → missing all oids ≡ 0 → (n : ℕ) → is_in n all ≡ true → is_in n oids ≡ true
none_missing [] oids e n i = absurd (cc)
none_missing (m ∷ all) oids e n i =
    ⊎_elim (λ (f : is_in m oids ≡ true).
    let rest : missing all oids ≡ 0 = rw f at e in
    ⊎_elim (λ (q : eqb m n ≡ true). sym (ap (λ k. is_in k oids) (eqb-true m n q)) ∙ f) (λ (j : is_in n all ≡ true). none_missing all oids rest n j) (or_cases (eqb m n) (is_in n all) i))
    (λ (f : is_in m oids ≡ false).
    let more : suc (missing all oids) ≡ 0 = rw f at e in
    absurd (omega (arith, more)))
    (cases_Bool (is_in m oids))

at_most_all : (all oids : List ℕ) → missing all oids ≤ length all
at_most_all [] oids = omega arith
at_most_all (m ∷ all) oids =
    let rest = at_most_all all oids in
    ⊎_elim (λ (f : is_in m oids ≡ true). rw f (omega (arith, rest))) (λ (f : is_in m oids ≡ false). rw f (omega (arith, rest))) (cases_Bool (is_in m oids))

stays_put : (n : ℕ) (named : List ℕ → Option (List ℕ)) (t : ℕ) (list : List Transaction) (oids : List ℕ) → one_step_on named t list oids ≡ oids → steps_on n named t list oids ≡ oids
stays_put zero named t list oids e = refl
stays_put (suc n) named t list oids e = ap (steps_on n named t list) e ∙ stays_put n named t list oids e

-- the references of one of these are among the references of all
one_among : (named : List ℕ → Option (List ℕ)) (t : ℕ) (list : List Transaction) (froms : List ℕ) (from oid : ℕ) → is_in from froms ≡ true → is_in oid (references_up_to named t list from) ≡ true → is_in oid (flat_map (references_up_to named t list) froms) ≡ true
one_among named t list [] from oid i h = absurd (cc)
one_among named t list (m ∷ froms) from oid i h =
    ⊎_elim (λ (e : eqb m from ≡ true). in_front oid (references_up_to named t list m) (flat_map (references_up_to named t list) froms) (ap (λ k. is_in oid (references_up_to named t list k)) (eqb-true m from e) ∙ h))
    (λ (j : is_in from froms ≡ true). in_back oid (references_up_to named t list m) (flat_map (references_up_to named t list) froms) (one_among named t list froms from oid j h))
    (or_cases (eqb m from) (is_in from froms) i)

all_within : (named : List ℕ → Option (List ℕ)) (t : ℕ) (list : List Transaction) (froms : List ℕ) (n : ℕ) → is_in n (flat_map (references_up_to named t list) froms) ≡ true → is_in n (flat_map (references_in named) list) ≡ true
all_within named t list [] n i = absurd (cc)
all_within named t list (from ∷ froms) n i =
    ⊎_elim (λ (h : is_in n (references_up_to named t list from) ≡ true). up_to_within named t from n list h) (λ (h : is_in n (flat_map (references_up_to named t list) froms) ≡ true). all_within named t list froms n h)
    (in_either n (references_up_to named t list from) (flat_map (references_up_to named t list) froms) i)

-- so many steps lead to all, or each has found one more
found_or_closed : (n : ℕ) (named : List ℕ → Option (List ℕ)) (t : ℕ) (list : List Transaction) (oids : List ℕ)
    → IsClosed named t list (steps_on n named t list oids) ⊎ (missing (flat_map (references_in named) list) (steps_on n named t list oids) + n ≤ missing (flat_map (references_in named) list) oids)
found_or_closed zero named t list oids = inr (omega arith)
found_or_closed (suc n) named t list oids =
    let all = flat_map (references_in named) list in
    let more = flat_map (references_up_to named t list) oids in
    let next = one_step_on named t list oids in
    ⊎_elim (λ (e : list_all (λ m. is_in m oids) more ≡ true).
    let same : steps_on (suc n) named t list oids ≡ oids = stays_put (suc n) named t list oids (nothing_new oids more e) in
    inl (subst (IsClosed named t list) (sym same) (λ from oid i h. all_pass (λ m. is_in m oids) oid more e (one_among named t list oids from oid i h))))
    (λ (e : list_all (λ m. is_in m oids) more ≡ false).
    let new = one_fails (λ m. is_in m oids) more e in
    let less : missing all next < missing all oids =
    one_fewer all oids next new.0 (λ m h. in_old m oids more h) (all_within named t list oids new.0 new.1) new.2 (in_new new.0 oids more new.1) in
    ⊎_elim (λ (c : IsClosed named t list (steps_on n named t list next)). inl c) (λ (f : missing all (steps_on n named t list next) + n ≤ missing all next). inr (omega (arith, f, less))) (found_or_closed n named t list next))
    (cases_Bool (list_all (λ m. is_in m oids) more))

computed_closed : (named : List ℕ → Option (List ℕ)) (t : ℕ) (list : List Transaction) → IsClosed named t list (reached_oids named t list)
unfolding reached_oids
computed_closed named t list =
    let all = flat_map (references_in named) list in
    let oids = steps_on (length all) named t list (starts named t list) in
    ⊎_elim (λ (c : IsClosed named t list oids). c)
    (λ (f : missing all oids + length all ≤ missing all (starts named t list)).
    let most = at_most_all all (starts named t list) in
    let none : missing all oids ≡ 0 = omega (arith, f, most) in
    λ from oid i h. none_missing all oids none oid (up_to_within named t from oid list h))
    (found_or_closed (length all) named t list (starts named t list))

steps_keep : (n : ℕ) (named : List ℕ → Option (List ℕ)) (t : ℕ) (list : List Transaction) (oids : List ℕ) (oid : ℕ) → is_in oid oids ≡ true → is_in oid (steps_on n named t list oids) ≡ true
steps_keep zero named t list oids oid i = i
steps_keep (suc n) named t list oids oid i = steps_keep n named t list (one_step_on named t list oids) oid (in_old oid oids (flat_map (references_up_to named t list) oids) i)

start_computed : (named : List ℕ → Option (List ℕ)) (t : ℕ) (list : List Transaction) (oid : ℕ) → is_in oid (starts named t list) ≡ true → is_in oid (reached_oids named t list) ≡ true
unfolding reached_oids
start_computed named t list oid i = steps_keep (length (flat_map (references_in named) list)) named t list (starts named t list) oid i

pub reached_computed : (named : List ℕ → Option (List ℕ)) (t : ℕ) (list : List Transaction) (oid : ℕ) → IsReached named t list oid → is_in oid (reached_oids named t list) ≡ true
reached_computed named t list oid IsReached.root = start_computed named t list 0 (in_old 0 (0 ∷ []) (changed_after t list ++ named_after named t list) refl)
reached_computed named t list oid (IsReached.changed o h) =
    start_computed named t list o (in_new o (0 ∷ []) (changed_after t list ++ named_after named t list) (in_front o (changed_after t list) (named_after named t list) h))
reached_computed named t list oid (IsReached.written o h) =
    start_computed named t list o (in_new o (0 ∷ []) (changed_after t list ++ named_after named t list) (in_back o (changed_after t list) (named_after named t list) h))
reached_computed named t list oid (IsReached.followed from o r h) = computed_closed named t list from o (reached_computed named t list from r) h

pub is_all : (named : List ℕ → Option (List ℕ)) (t : ℕ) (list : List Transaction) (oid : ℕ) → IsTrue (contains (reached named t list) oid) ↔ IsReached named t list oid
is_all named t list oid =
    let same : contains (reached named t list) oid ≡ is_in oid (reached_oids named t list) = contains-from_list_nat (reached_oids named t list) oid in
    (λ h. computed_reached named t list oid (sym same ∙ h), λ r. same ∙ reached_computed named t list oid r)
