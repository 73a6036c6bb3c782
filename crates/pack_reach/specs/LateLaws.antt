-- Where no commit overtakes a pack. For the proofs of those who follow a pack.
use Rattle.std.proofs.Common.{◌≡◌, ℕ, ◌+◌, ◌<◌, ◌≤◌, ⊎_elim, Bool, true, false, not, ◌&&◌, cond, eqb, leb, List, [], ◌∷◌, ◌++◌, append-nil, append_assoc, filter, map, Option, Some, None, refl, sym, ap, subst, ◌∙◌, arith}
use Rattle.std.specs.Prelude.{is_some}
use Rattle.std.specs.List.{AllByRecursion, cons_option, filter_map, flat_map, last_or}
use Rattle.std.specs.Option.{option_map, option_or}
use Rattle.std.specs.Ordering.{nat_cmp}
use Rattle.std.specs.FinSet.{FinSet, contains, contains-from_list_nat}
use Rattle.std.proofs.lemmas.Bool.{both_ways, cases_Bool, eqb-true, eq-eqb, leb-true, lt-ltb}
use Rattle.std.proofs.lemmas.Map.Views.{any-filter_same}
use Rattle.zb_model.specs.declared.data.Change.{Change}
use Rattle.zb_model.specs.declared.data.Transaction.{Transaction}
use Rattle.zb_model.specs.Database.{ObjectRevision, change_in, is_below, is_change_of, revision_below, revision_in, revisions}
use Rattle.zb_model.specs.Packing.{is_held, packed_by, packed_form, packed_one, serial_up_to, stays}
use Rattle.zb_model.specs.Queries.{oids_of}
use Rattle.pack_reach.specs.Late.{is_late, late_behind, late_from, least_of, overtaken}
use Rattle.pack_reach.specs.Packed.{kept, packed}
use Rattle.pack_reach.specs.Reach.{IsReached, is_in}
use Rattle.pack_reach.specs.Reached.{reached, reached_oids}
use Rattle.pack_reach.specs.GrowthLaws.{reached_more, up_to_stays}
use Rattle.pack_reach.specs.MemberLaws.{each_implies, in_back, in_either, in_front, same_bools}
use Rattle.pack_reach.specs.ReachLaws.{is_all, reached_computed}

-- ---- sets that agree on what has a revision up to t

filter_same : {X : Type 0} (p q : X → Bool) (xs : List X) → AllByRecursion (λ x. p x ≡ q x) xs → filter p xs ≡ filter q xs
filter_same p q [] all = refl
filter_same {X} p q (x ∷ xs) all = ap (λ (b : Bool). cond b (x ∷ filter p xs) (filter p xs)) all.0 ∙ ap (λ (ys : List X). cond (q x) (x ∷ ys) ys) (filter_same p q xs all.1)

filter_map_same : (f g : Transaction → Option Transaction) (list : List Transaction) → AllByRecursion (λ x. f x ≡ g x) list → filter_map f list ≡ filter_map g list
filter_map_same f g [] all = refl
filter_map_same f g (x ∷ list) all = ap (λ (o : Option Transaction). cons_option o (filter_map f list)) all.0 ∙ ap (cons_option (g x)) (filter_map_same f g list all.1)

last_some : {X : Type 0} (o : Option X) (xs : List X) → is_some o ≡ true → is_some (last_or o xs) ≡ true
last_some o [] e = e
last_some o (x ∷ xs) e = last_some (Some x) xs refl

last_more : {X : Type 0} (o : Option X) (xs : List X) → is_some (last_or None xs) ≡ true → is_some (last_or o xs) ≡ true
last_more o [] e = absurd (cc)
last_more o (x ∷ xs) e = e

-- a change makes a revision
changes_made : (changes : List Change) → AllByRecursion (λ (c : Change). is_some (change_in c.oid changes) ≡ true) changes
changes_made [] = tt
changes_made (c ∷ changes) =
    let same : eqb c.oid c.oid ≡ true = eq-eqb c.oid c.oid refl in (
      rw same (last_some (Some c) (filter (is_change_of c.oid) changes) refl),
      each_implies (λ (d : Change). is_some (change_in d.oid changes) ≡ true) (λ (d : Change). is_some (change_in d.oid (c ∷ changes)) ≡ true)
          (λ d h. ⊎_elim (λ (e : eqb c.oid d.oid ≡ true). rw e (last_some (Some c) (filter (is_change_of d.oid) changes) refl)) (λ (e : eqb c.oid d.oid ≡ false). rw e h) (cases_Bool (eqb c.oid d.oid))) changes (changes_made changes),
    )

made_first : (t oid : ℕ) (x : Transaction) (list : List Transaction) (o : Option Change) → change_in oid x.changes ≡ o → is_some o ≡ true → x.tid ≤ t → is_some (revision_below oid (t + 1) (x ∷ list)) ≡ true
made_first t oid x list None e some l = absurd (cc)
made_first t oid x list (Some c) e some l =
    let r : ObjectRevision = record { serial = x.tid; content = c.content } in
    let below : is_below (t + 1) r ≡ true = lt-ltb x.tid (t + 1) (omega (arith, l)) in
    ap (λ (o : Option Change). is_some (last_or None (filter (is_below (t + 1)) (cons_option (option_map (λ (c : Change). record { serial = x.tid; content = c.content }) o) (revisions oid list))))) e
    ∙ ap (λ (b : Bool). is_some (last_or None (cond b (r ∷ filter (is_below (t + 1)) (revisions oid list)) (filter (is_below (t + 1)) (revisions oid list))))) below
    ∙ last_some (Some r) (filter (is_below (t + 1)) (revisions oid list)) refl

made_before : (f oid : ℕ) (o : Option ObjectRevision) (rs : List ObjectRevision) → is_some (last_or None (filter (is_below f) rs)) ≡ true → is_some (last_or None (filter (is_below f) (cons_option o rs))) ≡ true
made_before f oid None rs e = e
made_before f oid (Some r) rs e =
    ⊎_elim (λ (b : is_below f r ≡ true). rw b (last_more (Some r) (filter (is_below f) rs) e)) (λ (b : is_below f r ≡ false). rw b e) (cases_Bool (is_below f r))

-- what is changed up to t has a revision up to t
abbrev HasRevision : ℕ → List Transaction → Transaction → Type 0
HasRevision t list x = x.tid ≤ t → AllByRecursion (λ (c : Change). is_some (revision_below c.oid (t + 1) list) ≡ true) x.changes

each_has : (t : ℕ) (list : List Transaction) → AllByRecursion (HasRevision t list) list
each_has t [] = tt
each_has t (x ∷ list) = (
  λ l. each_implies (λ (c : Change). is_some (change_in c.oid x.changes) ≡ true) (λ (c : Change). is_some (revision_below c.oid (t + 1) (x ∷ list)) ≡ true) (λ c h. made_first t c.oid x list (change_in c.oid x.changes) refl h l) x.changes (changes_made x.changes),
  each_implies (HasRevision t list) (HasRevision t (x ∷ list))
      (λ y h l. each_implies (λ (c : Change). is_some (revision_below c.oid (t + 1) list) ≡ true) (λ (c : Change). is_some (revision_below c.oid (t + 1) (x ∷ list)) ≡ true) (λ c i. made_before (t + 1) c.oid (revision_in c.oid x) (revisions c.oid list) i) y.changes (h l)) list (each_has t list),
)

one_same : (t : ℕ) (one other : FinSet nat_cmp) (list : List Transaction) (x : Transaction) → ((oid : ℕ) → is_some (revision_below oid (t + 1) list) ≡ true → contains one oid ≡ contains other oid) → HasRevision t list x → packed_one t one list x ≡ packed_one t other list x
one_same t one other list x same has =
    ⊎_elim (λ (l : leb x.tid t ≡ true).
    rw l (ap (packed_form x) (filter_same (stays t one list x.tid) (stays t other list x.tid) x.changes
    (each_implies (λ (c : Change). is_some (revision_below c.oid (t + 1) list) ≡ true) (λ (c : Change). stays t one list x.tid c ≡ stays t other list x.tid c) (λ c h. ap (λ (b : Bool). is_held c.content && b && eqb (serial_up_to t c.oid list) x.tid) (same c.oid h)) x.changes (has (leb-true x.tid t l))))))
    (λ (l : leb x.tid t ≡ false). rw l refl)
    (cases_Bool (leb x.tid t))

-- leave the same
pub packed_same : (t : ℕ) (one other : FinSet nat_cmp) (list : List Transaction) → ((oid : ℕ) → is_some (revision_below oid (t + 1) list) ≡ true → contains one oid ≡ contains other oid) → packed_by t one list ≡ packed_by t other list
packed_same t one other list same =
    filter_map_same (packed_one t one list) (packed_one t other list) list (each_implies (HasRevision t list) (λ (x : Transaction). packed_one t one list x ≡ packed_one t other list x) (λ x h. one_same t one other list x same h) list (each_has t list))

-- ---- where no commit is late, each reached object with a revision up to t was marked

none_least : (ns : List ℕ) → least_of ns ≡ None → ns ≡ []
none_least [] e = refl
none_least (n ∷ ns) e = absurd (cc)

none_mapped : (o : Option ℕ) (tid : ℕ) → option_map {U = ℕ × ℕ} (λ (oid : ℕ). (oid, tid)) o ≡ None → o ≡ None
none_mapped None tid e = refl
none_mapped (Some n) tid e = absurd (cc)

none_either : (o q : Option (ℕ × ℕ)) → option_or o q ≡ None → (o ≡ None) × (q ≡ None)
none_either None q e = (refl, e)
none_either (Some p) q e = absurd (cc)

pub in_filter : (p : ℕ → Bool) (n : ℕ) (ns : List ℕ) → is_in n (filter p ns) ≡ (p n && is_in n ns)
in_filter p n ns = any-filter_same (λ m. eqb m n) p (p n) (λ m e. ap p (eqb-true m n e)) ns

not_late : (marked : FinSet nat_cmp) (t : ℕ) (list : List Transaction) (oid : ℕ) → is_late marked t list oid ≡ false → is_some (revision_below oid (t + 1) list) ≡ true → contains marked oid ≡ true
not_late marked t list oid out rev = by_cases (contains marked oid) refl
  where
    by_cases : (b : Bool) → contains marked oid ≡ b → contains marked oid ≡ true
    by_cases true e = e
    by_cases false e =
        let late : is_late marked t list oid ≡ true = ap (λ (b : Bool). not b && is_some (revision_below oid (t + 1) list)) e ∙ rev in
        absurd (both_ways (is_late marked t list oid) out late)

false_of : (a b : Bool) → (a && b) ≡ false → b ≡ true → a ≡ false
false_of true b e h = absurd (both_ways b e h)
false_of false b e h = refl

none_behind : (named : List ℕ → Option (List ℕ)) (marked : FinSet nat_cmp) (t : ℕ) (list : List Transaction) (tid oid : ℕ) → late_behind named marked t list tid ≡ None → IsReached named t list oid → is_some (revision_below oid (t + 1) list) ≡ true → contains marked oid ≡ true
none_behind named marked t list tid oid none r rev =
    let late = filter (is_late marked t list) (reached_oids named t list) in
    let empty : late ≡ [] = none_least late (none_mapped (least_of late) tid none) in
    let out : is_in oid late ≡ false = ap (is_in oid) empty in
    not_late marked t list oid (false_of (is_late marked t list oid) (is_in oid (reached_oids named t list)) (sym (in_filter (is_late marked t list) oid (reached_oids named t list)) ∙ out) (reached_computed named t list oid r)) rev

pub all_marked : (named : List ℕ → Option (List ℕ)) (marked : FinSet nat_cmp) (t : ℕ) (front commits : List Transaction) → late_from named marked t front commits ≡ None
    → ((oid : ℕ) → IsReached named t front oid → is_some (revision_below oid (t + 1) front) ≡ true → contains marked oid ≡ true) → (oid : ℕ) → IsReached named t (front ++ commits) oid → is_some (revision_below oid (t + 1) (front ++ commits)) ≡ true → contains marked oid ≡ true
all_marked named marked t front [] none all oid r rev =
    all oid (subst (λ (l : List Transaction). IsReached named t l oid) (append-nil front) r) (subst (λ (l : List Transaction). is_some (revision_below oid (t + 1) l) ≡ true) (append-nil front) rev)
all_marked named marked t front (x ∷ commits) none all oid r rev =
    let both = none_either (late_behind named marked t (front ++ x ∷ []) x.tid) (late_from named marked t (front ++ x ∷ []) commits) none in
    let same : (front ++ x ∷ []) ++ commits ≡ front ++ x ∷ commits = append_assoc front (x ∷ []) commits in
    all_marked named marked t (front ++ x ∷ []) commits both.1 (λ o h i. none_behind named marked t (front ++ x ∷ []) x.tid o both.0 h i) oid
    (subst (λ (l : List Transaction). IsReached named t l oid) (sym same) r) (subst (λ (l : List Transaction). is_some (revision_below oid (t + 1) l) ≡ true) (sym same) rev)

-- ---- objects of a list

each_of : (oid : ℕ) (changes : List Change) → is_in oid (map (λ (c : Change). c.oid) changes) ≡ false → filter (is_change_of oid) changes ≡ []
each_of oid [] e = refl
each_of oid (c ∷ changes) e =
    ⊎_elim (λ (q : eqb c.oid oid ≡ true).
    let there : is_in oid (map (λ (c : Change). c.oid) (c ∷ changes)) ≡ true = rw q refl in
    absurd (both_ways (is_in oid (map (λ (c : Change). c.oid) (c ∷ changes))) e there))
    (λ (q : eqb c.oid oid ≡ false).
    let rest : is_in oid (map (λ (c : Change). c.oid) changes) ≡ false = rw q at e in
    rw q (each_of oid changes rest))
    (cases_Bool (eqb c.oid oid))

pub revised_is_in : (f oid : ℕ) (list : List Transaction) → is_some (revision_below oid f list) ≡ true → is_in oid (flat_map oids_of list) ≡ true
revised_is_in f oid [] e = absurd (cc)
revised_is_in f oid (x ∷ list) e =
    ⊎_elim (λ (i : is_in oid (oids_of x) ≡ true). in_front oid (oids_of x) (flat_map oids_of list) i)
    (λ (i : is_in oid (oids_of x) ≡ false).
    let none : revision_in oid x ≡ None = ap (λ (cs : List Change). option_map (λ (c : Change). record { serial = x.tid; content = c.content }) (last_or None cs)) (each_of oid x.changes i) in
    let rest : is_some (revision_below oid f list) ≡ true = sym (ap (λ (o : Option ObjectRevision). is_some (last_or None (filter (is_below f) (cons_option o (revisions oid list))))) none) ∙ e in
    in_back oid (oids_of x) (flat_map oids_of list) (revised_is_in f oid list rest))
    (cases_Bool (is_in oid (oids_of x)))

in_more : (n : ℕ) (front later : List Transaction) → is_in n (flat_map oids_of front) ≡ true → is_in n (flat_map oids_of (front ++ later)) ≡ true
in_more n [] later i = absurd (cc)
in_more n (x ∷ front) later i =
    ⊎_elim (λ (j : is_in n (oids_of x) ≡ true). in_front n (oids_of x) (flat_map oids_of (front ++ later)) j) (λ (j : is_in n (flat_map oids_of front) ≡ true). in_back n (oids_of x) (flat_map oids_of (front ++ later)) (in_more n front later j))
    (in_either n (oids_of x) (flat_map oids_of front) i)

-- ---- no commit overtakes the pack

-- what it leaves of the list with the commits is what a pack of that list leaves
pub packed_late : (collects : Bool) (named : List ℕ → Option (List ℕ)) (t : ℕ) (front commits : List Transaction) → AllByRecursion (λ (x : Transaction). t < x.tid) commits → overtaken collects named (kept collects named t front) t front commits ≡ None
    → packed_by t (kept collects named t front) (front ++ commits) ≡ packed collects named t (front ++ commits)
packed_late true named t front commits above none =
    packed_same t (reached named t front) (reached named t (front ++ commits)) (front ++ commits)
    (λ oid rev. same_bools (contains (reached named t front) oid) (contains (reached named t (front ++ commits)) oid)
    (λ h. (is_all named t (front ++ commits) oid).1 (reached_more named t front commits above oid ((is_all named t front oid).0 h)))
    (λ h. all_marked named (reached named t front) t front commits none (λ o r i. (is_all named t front o).1 r) oid ((is_all named t (front ++ commits) oid).0 h) rev))
packed_late false named t front commits above none =
    packed_same t (kept false named t front) (kept false named t (front ++ commits)) (front ++ commits)
    (λ oid rev.
    let before = contains-from_list_nat (flat_map oids_of front) oid in
    let after = contains-from_list_nat (flat_map oids_of (front ++ commits)) oid in
    same_bools (contains (kept false named t front) oid) (contains (kept false named t (front ++ commits)) oid)
    (λ h. after ∙ in_more oid front commits (sym before ∙ h))
    (λ h. before ∙ revised_is_in (t + 1) oid front (ap (λ (o : Option ObjectRevision). is_some o) (sym (up_to_stays t oid front commits above)) ∙ rev)))
