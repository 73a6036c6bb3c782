-- What packing leaves of an object. For the proofs of those who follow a pack.
use Rattle.std.proofs.Common.{◌≡◌, ℕ, ◌+◌, ◌<◌, ◌≤◌, ◌⊎◌, inl, inr, ⊎_elim, Bool, true, false, cond, ◌&&◌, eqb, ltb, leb, nat_eq, List, [], ◌∷◌, ◌++◌, map, filter, Option, Some, None, refl, sym, ap, subst, ◌∙◌, arith}
use Rattle.std.specs.Prelude.{IfSome, unwrap_or}
use Rattle.std.specs.List.{AllByRecursion, IsDistinct, cons_option, filter_map, find, last_or}
use Rattle.std.specs.Option.{option_map, option_map_or}
use Rattle.std.specs.Ordering.{nat_cmp}
use Rattle.std.specs.FinSet.{FinSet, contains}
use Rattle.std.proofs.lemmas.Bool.{cases_Bool, cases_lt, and_parts, and_cases, eqb-true, eq-eqb, ne_eqb, both_ways, ltb-true, ltb-false, le-leb, lt-leb}
use Rattle.std.proofs.lemmas.List.Elements.{filter-append, recursion_from_All}
use Rattle.std.proofs.lemmas.Map.Keys.{IsDistinct-head, IsDistinct-tail}
use Rattle.zb_base.specs.Lists.{last_or_append}
use Rattle.zb_model.specs.declared.data.Change.{Change}
use Rattle.zb_model.specs.declared.data.Content.{Content}
use Rattle.zb_model.specs.declared.data.Content.TheVariants.{Held, Absent}
use Rattle.zb_model.specs.declared.data.Transaction.{Transaction}
use Rattle.zb_model.specs.declared.found.Found.TheVariants as found
use Rattle.zb_model.specs.Database.{IsDatabase, ObjectRevision, change_in, is_below, is_change_of, newest_tid, revision_below, revision_in, revisions}
use Rattle.zb_model.specs.Queries.{end_of, found_below, found_of, is_from}
use Rattle.zb_model.specs.SerialLaws.{SerialsTo, database_serials}
use Rattle.pack_reach.specs.Laws.{state_content}
use Rattle.zb_model.specs.Packing.{is_held, packed_by, packed_form, packed_one, serial_up_to, stays}
use Rattle.pack_reach.specs.Packed.{kept, packed, packed_of}
use Rattle.pack_reach.specs.Reach.{IsReached}
use Rattle.pack_reach.specs.Reached.{reached}
use Rattle.pack_reach.specs.LeadingLaws.{up_to_is}
use Rattle.pack_reach.specs.MemberLaws.{each_implies, last_has, last_passes}
use Rattle.pack_reach.specs.ReachLaws.{is_all}

-- ---- an object's change among the changes that pass a test

abbrev passing : {X : Type 0} → (X → Bool) → Option X → Option X
passing p None = None
passing p (Some x) = cond (p x) (Some x) None

-- no change is of the object
none_of : (p : Change → Bool) (oid : ℕ) (changes : List Change) → filter (is_change_of oid) changes ≡ [] → filter (is_change_of oid) (filter p changes) ≡ []
none_of p oid [] e = refl
none_of p oid (c ∷ changes) e =
    ⊎_elim (λ (q : eqb c.oid oid ≡ true).
    let some : c ∷ filter (is_change_of oid) changes ≡ [] = rw q at e in
    absurd (cc))
    (λ (q : eqb c.oid oid ≡ false).
    let rest : filter (is_change_of oid) changes ≡ [] = rw q at e in
    let none : filter (is_change_of oid) (filter p changes) ≡ [] = none_of p oid changes rest in
    ⊎_elim (λ (f : p c ≡ true). rw (f, q) none) (λ (f : p c ≡ false). rw f none) (cases_Bool (p c)))
    (cases_Bool (eqb c.oid oid))

none_apart : (oid : ℕ) (changes : List Change) → AllByRecursion (λ n. nat_eq oid n ≡ false) (map (λ (c : Change). c.oid) changes) → filter (is_change_of oid) changes ≡ []
none_apart oid [] all = refl
none_apart oid (c ∷ changes) all =
    let other : eqb c.oid oid ≡ false = ne_eqb c.oid oid (λ e. both_ways (nat_eq oid c.oid) all.0 (eq-eqb oid c.oid (sym e))) in
    rw other (none_apart oid changes all.1)

filtered_change : (p : Change → Bool) (oid : ℕ) (changes : List Change) → IsDistinct nat_eq (map (λ (c : Change). c.oid) changes) → change_in oid (filter p changes) ≡ passing p (change_in oid changes)
filtered_change p oid [] distinct = refl
filtered_change p oid (c ∷ changes) distinct =
    ⊎_elim (λ (q : eqb c.oid oid ≡ true).
    let same : c.oid ≡ oid = eqb-true c.oid oid q in
    let apart : AllByRecursion (λ n. nat_eq oid n ≡ false) (map (λ (c : Change). c.oid) changes) =
    subst (λ (m : ℕ). AllByRecursion (λ n. nat_eq m n ≡ false) (map (λ (c : Change). c.oid) changes)) same (IsDistinct-head nat_eq c.oid (map (λ (c : Change). c.oid) changes) distinct) in
    let none : filter (is_change_of oid) changes ≡ [] = none_apart oid changes apart in
    let left : filter (is_change_of oid) (filter p changes) ≡ [] = none_of p oid changes none in
    ⊎_elim (λ (f : p c ≡ true). rw (f, q) (ap (λ cs. last_or (Some c) cs) left ∙ sym (ap (λ cs. passing p (last_or (Some c) cs)) none ∙ rw f refl)))
    (λ (f : p c ≡ false). rw (f, q) (ap (λ cs. last_or None cs) left ∙ sym (ap (λ cs. passing p (last_or (Some c) cs)) none ∙ rw f refl)))
    (cases_Bool (p c)))
    (λ (q : eqb c.oid oid ≡ false).
    let rest : change_in oid (filter p changes) ≡ passing p (change_in oid changes) = filtered_change p oid changes (IsDistinct-tail nat_eq c.oid (map (λ (c : Change). c.oid) changes) distinct) in
    ⊎_elim (λ (f : p c ≡ true). rw (f, q) rest) (λ (f : p c ≡ false). rw (f, q) rest) (cases_Bool (p c)))
    (cases_Bool (eqb c.oid oid))

-- ---- the revisions that are left

-- a revision is left: it is above t, or a record of a kept object and the last one up to t
abbrev is_left : ℕ → Bool → ℕ → ObjectRevision → Bool
is_left t kept last r = cond (leb r.serial t) (is_held r.content && kept && eqb last r.serial) true

abbrev revision_as : ℕ → Option Change → Option ObjectRevision
revision_as tid o = option_map (λ (c : Change). record { serial = tid; content = c.content }) o

form_revisions : (x : Transaction) (changes : List Change) (oid : ℕ) (list : List Transaction) → revisions oid (cons_option (packed_form x changes) list) ≡ cons_option (revision_as x.tid (change_in oid changes)) (revisions oid list)
form_revisions x [] oid list = refl
form_revisions x (c ∷ changes) oid list = refl

passing_revision : (t : ℕ) (keep : FinSet nat_cmp) (all : List Transaction) (oid tid : ℕ) (o : Option Change) (rs : List ObjectRevision) → tid ≤ t → IfSome o (λ (c : Change). c.oid ≡ oid)
    → cons_option (revision_as tid (passing (stays t keep all tid) o)) (filter (is_left t (contains keep oid) (serial_up_to t oid all)) rs) ≡ filter (is_left t (contains keep oid) (serial_up_to t oid all)) (cons_option (revision_as tid o) rs)
passing_revision t keep all oid tid None rs l its = refl
passing_revision t keep all oid tid (Some c) rs l its =
    let early : leb tid t ≡ true = le-leb tid t l in
    let same : stays t keep all tid c ≡ (is_held c.content && contains keep oid && eqb (serial_up_to t oid all) tid) = ap (λ (o : ℕ). is_held c.content && contains keep o && eqb (serial_up_to t o all) tid) its in
    ⊎_elim (λ (e : stays t keep all tid c ≡ true).
    let f : (is_held c.content && contains keep oid && eqb (serial_up_to t oid all) tid) ≡ true = sym same ∙ e in
    rw e (rw early (rw f refl)))
    (λ (e : stays t keep all tid c ≡ false).
    let f : (is_held c.content && contains keep oid && eqb (serial_up_to t oid all) tid) ≡ false = sym same ∙ e in
    rw e (rw early (rw f refl)))
    (cases_Bool (stays t keep all tid c))

later_revision : (t tid last : ℕ) (kept : Bool) (o : Option Change) (rs : List ObjectRevision) → t < tid → cons_option (revision_as tid o) (filter (is_left t kept last) rs) ≡ filter (is_left t kept last) (cons_option (revision_as tid o) rs)
later_revision t tid last kept None rs l = refl
later_revision t tid last kept (Some c) rs l =
    let late : leb tid t ≡ false = lt-leb tid t l in
    rw late refl

change_is_its : (oid : ℕ) (changes : List Change) → IfSome (change_in oid changes) (λ (c : Change). c.oid ≡ oid)
change_is_its oid changes = some_is (change_in oid changes) (last_passes (is_change_of oid) None changes tt)
  where
    some_is : (o : Option Change) → IfSome o (λ (c : Change). is_change_of oid c ≡ true) → IfSome o (λ (c : Change). c.oid ≡ oid)
    some_is None one = one
    some_is (Some c) one = eqb-true c.oid oid one

abbrev NamesOnce : Transaction → Type 0
NamesOnce x = IsDistinct nat_eq (map (λ (c : Change). c.oid) x.changes)

packed_revisions : (t : ℕ) (keep : FinSet nat_cmp) (all : List Transaction) (oid : ℕ) (list : List Transaction) → AllByRecursion NamesOnce list
    → revisions oid (filter_map (packed_one t keep all) list) ≡ filter (is_left t (contains keep oid) (serial_up_to t oid all)) (revisions oid list)
packed_revisions t keep all oid [] distinct = refl
packed_revisions t keep all oid (x ∷ list) distinct =
    let rest = packed_revisions t keep all oid list distinct.1 in
    let left = is_left t (contains keep oid) (serial_up_to t oid all) in
    ⊎_elim (λ (late : t < x.tid).
    let e : leb x.tid t ≡ false = lt-leb x.tid t late in
    rw e (ap (cons_option (revision_in oid x)) rest ∙ later_revision t x.tid (serial_up_to t oid all) (contains keep oid) (change_in oid x.changes) (revisions oid list) late))
    (λ (early : x.tid ≤ t).
    let e : leb x.tid t ≡ true = le-leb x.tid t early in
    rw e (form_revisions x (filter (stays t keep all x.tid) x.changes) oid (filter_map (packed_one t keep all) list)
    ∙ ap (cons_option (revision_as x.tid (change_in oid (filter (stays t keep all x.tid) x.changes)))) rest
    ∙ ap (λ (o : Option Change). cons_option (revision_as x.tid o) (filter left (revisions oid list))) (filtered_change (stays t keep all x.tid) oid x.changes distinct.0)
    ∙ passing_revision t keep all oid x.tid (change_in oid x.changes) (revisions oid list) early (change_is_its oid x.changes)))
    (cases_lt t x.tid)

pub revisions_left : (t : ℕ) (keep : FinSet nat_cmp) (oid : ℕ) (list : List Transaction) → IsDatabase list
    → revisions oid (packed_by t keep list) ≡ filter (is_left t (contains keep oid) (serial_up_to t oid list)) (revisions oid list)
revisions_left t keep oid list is = packed_revisions t keep list oid list (recursion_from_All NamesOnce list is.distinct)

-- ---- a kept object's content above t

still_last : {X : Type 0} (p q : X → Bool) (o one : Option X) (xs : List X) (x : X) → last_or o (filter p xs) ≡ Some x → q x ≡ true → (o ≡ one) ⊎ (IfSome o (λ y. q y ≡ false) × (o ≡ None → ⊥)) → last_or one (filter p (filter q xs)) ≡ Some x
still_last p q o one [] x e h (inl s) = sym s ∙ e
still_last p q o one [] x e h (inr f) =
    let out : IfSome (Some x) (λ y. q y ≡ false) = subst (λ o. IfSome o (λ y. q y ≡ false)) e f.0 in
    absurd (both_ways (q x) out h)
still_last p q o one (y ∷ xs) x e h either =
    ⊎_elim (λ (a : p y ≡ true).
    let rest : last_or (Some y) (filter p xs) ≡ Some x = rw a at e in
    ⊎_elim (λ (b : q y ≡ true). rw (b, a) (still_last p q (Some y) (Some y) xs x rest h (inl refl)))
    (λ (b : q y ≡ false). rw b (still_last p q (Some y) one xs x rest h (inr (b, λ n. absurd (cc)))))
    (cases_Bool (q y)))
    (λ (a : p y ≡ false).
    let rest : last_or o (filter p xs) ≡ Some x = rw a at e in
    ⊎_elim (λ (b : q y ≡ true). rw (b, a) (still_last p q o one xs x rest h either)) (λ (b : q y ≡ false). rw b (still_last p q o one xs x rest h either)) (cases_Bool (q y)))
    (cases_Bool (p y))

last_is_some : {X : Type 0} (y : X) (xs : List X) → last_or (Some y) xs ≡ None → ⊥
last_is_some y [] e = absurd (cc)
last_is_some y (x ∷ xs) e = last_is_some x xs e

-- where one is left it is the one that was there
same_last : {X : Type 0} (front rest : List X) (x : X) → last_or None rest ≡ Some x → last_or None (front ++ rest) ≡ Some x
same_last front [] x e = absurd (cc)
same_last front (y ∷ rest) x e = last_or_append None front (y ∷ rest) ∙ e

abbrev content_in : Option ObjectRevision → Content
content_in o = unwrap_or (option_map (λ (r : ObjectRevision). r.content) o) Absent

not_held : (content : Content) → is_held content ≡ false → content ≡ Absent
not_held (Held bytes) e = absurd (cc)
not_held Absent e = refl

none_last : {X : Type 0} (p q : X → Bool) (xs : List X) → last_or None (filter p xs) ≡ None → last_or None (filter p (filter q xs)) ≡ None
none_last p q [] e = refl
none_last p q (x ∷ xs) e =
    ⊎_elim (λ (a : p x ≡ true).
    let rest : last_or (Some x) (filter p xs) ≡ None = rw a at e in
    absurd (last_is_some x (filter p xs) rest))
    (λ (a : p x ≡ false).
    let rest : last_or None (filter p xs) ≡ None = rw a at e in
    ⊎_elim (λ (b : q x ≡ true). rw (b, a) (none_last p q xs rest)) (λ (b : q x ≡ false). rw b (none_last p q xs rest)) (cases_Bool (q x)))
    (cases_Bool (p x))

none_passes : {X : Type 0} (p : X → Bool) (xs : List X) → last_or None (filter p xs) ≡ None → AllByRecursion (λ x. p x ≡ false) xs
none_passes p [] e = tt
none_passes p (x ∷ xs) e =
    ⊎_elim (λ (a : p x ≡ true).
    let rest : last_or (Some x) (filter p xs) ≡ None = rw a at e in
    absurd (last_is_some x (filter p xs) rest))
    (λ (a : p x ≡ false).
    let rest : last_or None (filter p xs) ≡ None = rw a at e in
    (a, none_passes p xs rest))
    (cases_Bool (p x))

all_filtered : {X : Type 0} (P : X → Type 0) (q : X → Bool) (xs : List X) → AllByRecursion P xs → AllByRecursion (λ x. (q x ≡ true) × P x) (filter q xs)
all_filtered P q [] all = tt
all_filtered P q (x ∷ xs) all = ⊎_elim (λ (b : q x ≡ true). rw b ((b, all.0), all_filtered P q xs all.1)) (λ (b : q x ≡ false). rw b (all_filtered P q xs all.1)) (cases_Bool (q x))

-- ---- serials that rise

above_low : (low high : ℕ) (rs : List ObjectRevision) → SerialsTo low high rs → AllByRecursion (λ r. low < r.serial) rs
above_low low high [] h = tt
above_low low high (r ∷ rs) h = (h.0, each_implies (λ (q : ObjectRevision). r.serial < q.serial) (λ (q : ObjectRevision). low < q.serial) (λ q l. omega (arith, l, h.0)) rs (above_low r.serial high rs h.1))

-- a revision is the last one, or stands before it
abbrev IsUpTo : ObjectRevision → ObjectRevision → Type 0
IsUpTo r q = (q ≡ r) ⊎ (q.serial < r.serial)

up_to_serial : (r q : ObjectRevision) → IsUpTo r q → q.serial ≤ r.serial
up_to_serial r q (inl e) =
    let same : q.serial ≡ r.serial = ap (λ (x : ObjectRevision). x.serial) e in
    omega (arith, same)
up_to_serial r q (inr l) = omega (arith, l)

last_greatest : (front low high : ℕ) (o : Option ObjectRevision) (rs : List ObjectRevision) (r : ObjectRevision) → SerialsTo low high rs → IfSome o (λ q. q.serial ≤ low) → last_or o (filter (is_below front) rs) ≡ Some r
    → AllByRecursion (λ q. q.serial < front → IsUpTo r q) rs × IfSome o (IsUpTo r)
last_greatest front low high o [] r h one e = (tt, subst (λ o. IfSome o (IsUpTo r)) (sym e) (inl refl))
last_greatest front low high o (y ∷ rs) r h one e =
    ⊎_elim (λ (a : ltb y.serial front ≡ true).
    let rest : last_or (Some y) (filter (is_below front) rs) ≡ Some r = rw a at e in
    let both = last_greatest front y.serial high (Some y) rs r h.1 (omega arith) rest in
    ((λ l. both.1, both.0), if_earlier o one (up_to_serial r y both.1)))
    (λ (a : ltb y.serial front ≡ false).
    let rest : last_or o (filter (is_below front) rs) ≡ Some r = rw a at e in
    let both = last_greatest front y.serial high o rs r h.1 (if_lower o one) rest in
    ((λ l. absurd (omega (arith, l, ltb-false y.serial front a)), both.0), both.1))
    (cases_Bool (ltb y.serial front))
  where
    if_earlier : (o : Option ObjectRevision) → IfSome o (λ q. q.serial ≤ low) → y.serial ≤ r.serial → IfSome o (IsUpTo r)
    if_earlier None one l = tt
    if_earlier (Some q) one l = inr (omega (arith, one, h.0, l))

    if_lower : (o : Option ObjectRevision) → IfSome o (λ q. q.serial ≤ low) → IfSome o (λ q. q.serial ≤ y.serial)
    if_lower None one = tt
    if_lower (Some q) one = omega (arith, one, h.0)

serial_of_last : (t oid : ℕ) (list : List Transaction) (r : ObjectRevision) → revision_below oid (t + 1) list ≡ Some r → serial_up_to t oid list ≡ r.serial
serial_of_last t oid list r e = ap (λ (o : Option ObjectRevision). option_map_or (λ (r : ObjectRevision). r.serial) o 0) e

-- ---- contents above t

-- a revision up to t of a kept object that isn't left, though it is the last up to t, is no record
unheld : (t last : ℕ) (r : ObjectRevision) → is_left t true last r ≡ false → last ≡ r.serial → (r.serial ≤ t) × (r.content ≡ Absent)
unheld t last r out its =
    ⊎_elim (λ (late : t < r.serial).
    let e : leb r.serial t ≡ false = lt-leb r.serial t late in
    let kept : is_left t true last r ≡ true = rw e refl in
    absurd (both_ways (is_left t true last r) out kept))
    (λ (early : r.serial ≤ t).
    let e : leb r.serial t ≡ true = le-leb r.serial t early in
    let is : eqb last r.serial ≡ true = eq-eqb last r.serial its in
    let parts : (is_held r.content && true && eqb last r.serial) ≡ false = rw e at out in
    (early, not_held r.content (⊎_elim (λ (a : (is_held r.content && true) ≡ false). ⊎_elim (λ (b : is_held r.content ≡ false). b) (λ (b : true ≡ false). absurd (cc)) (and_cases (is_held r.content) true a)) (λ (a : eqb last r.serial ≡ false). absurd (both_ways (eqb last r.serial) a is)) (and_cases (is_held r.content && true) (eqb last r.serial) parts))))
    (cases_lt t r.serial)

-- one that is left up to t is the last up to t
left_is_last : (t last : ℕ) (kept : Bool) (r : ObjectRevision) → is_left t kept last r ≡ true → r.serial ≤ t → last ≡ r.serial
left_is_last t last kept r is early =
    let e : leb r.serial t ≡ true = le-leb r.serial t early in
    let parts : (is_held r.content && kept && eqb last r.serial) ≡ true = rw e at is in
    let both = and_parts (is_held r.content && kept) (eqb last r.serial) parts in
    eqb-true last r.serial both.1

-- the last one below the front goes: then no other is left there
none_other : (t last front : ℕ) (r q : ObjectRevision) → is_left t true last r ≡ false → last ≡ r.serial → r.serial ≤ t → is_left t true last q ≡ true → IsUpTo r q → ⊥
none_other t last front r q out its early left (inl e) =
    let same : is_left t true last q ≡ is_left t true last r = ap (is_left t true last) e in
    both_ways (is_left t true last r) out (sym same ∙ left)
none_other t last front r q out its early left (inr l) =
    let is : last ≡ q.serial = left_is_last t last true q left (omega (arith, l, early)) in
    omega (arith, is, its, l)

gone : (t last front : ℕ) (r : ObjectRevision) (rs : List ObjectRevision) → is_left t true last r ≡ false → last ≡ r.serial → r.serial ≤ t → AllByRecursion (λ q. q.serial < front → IsUpTo r q) rs
    → (o : Option ObjectRevision) → last_or None (filter (is_below front) (filter (is_left t true last) rs)) ≡ o → o ≡ None
gone t last front r rs out its early all None e = refl
gone t last front r rs out its early all (Some q) e =
    let left = is_left t true last in
    let one : (left q ≡ true) × (q.serial < front → IsUpTo r q) =
    subst (λ o. IfSome o (λ q. (left q ≡ true) × (q.serial < front → IsUpTo r q))) e
    (last_has (λ (q : ObjectRevision). (left q ≡ true) × (q.serial < front → IsUpTo r q)) (is_below front) None (filter left rs) tt (all_filtered (λ (q : ObjectRevision). q.serial < front → IsUpTo r q) left rs all)) in
    let below : is_below front q ≡ true = subst (λ o. IfSome o (λ q. is_below front q ≡ true)) e (last_passes (is_below front) None (filter left rs) tt) in
    absurd (none_other t last front r q out its early one.0 (one.1 (ltb-true q.serial front below)))

content_kept : (t front oid : ℕ) (list : List Transaction) → IsDatabase list → t < front → (o : Option ObjectRevision) → revision_below oid front list ≡ o
    → content_in (last_or None (filter (is_below front) (filter (is_left t true (serial_up_to t oid list)) (revisions oid list)))) ≡ content_in o
content_kept t front oid list is l None e = ap content_in (none_last (is_below front) (is_left t true (serial_up_to t oid list)) (revisions oid list) e)
content_kept t front oid list is l (Some r) e =
    let rs = revisions oid list in
    let last = serial_up_to t oid list in
    let left = is_left t true last in
    ⊎_elim (λ (stays : left r ≡ true). ap content_in (still_last (is_below front) left None None rs r e stays (inl refl)))
    (λ (out : left r ≡ false).
    ⊎_elim (λ (late : t < r.serial).
    let f : leb r.serial t ≡ false = lt-leb r.serial t late in
    let kept : left r ≡ true = rw f refl in
    absurd (both_ways (left r) out kept))
    (λ (early : r.serial ≤ t).
    let its : last ≡ r.serial = serial_of_last t oid list r (up_to_is t front oid list r l early e) in
    let absent = unheld t last r out its in
    let all = last_greatest front 0 (newest_tid list) None rs r (database_serials oid list is) tt e in
    ap content_in (gone t last front r rs out its early all.0 (last_or None (filter (is_below front) (filter left rs))) refl) ∙ sym absent.1)
    (cases_lt t r.serial))
    (cases_Bool (left r))

-- whatever objects are kept
pub kept_contents : (keep : FinSet nat_cmp) (t front oid : ℕ) (list : List Transaction) → IsDatabase list → t < front → contains keep oid ≡ true → state_content oid front (packed_by t keep list) ≡ state_content oid front list
kept_contents keep t front oid list is l kept =
    ap (λ (rs : List ObjectRevision). content_in (last_or None (filter (is_below front) rs))) (revisions_left t keep oid list is)
    ∙ ap (λ (b : Bool). content_in (last_or None (filter (is_below front) (filter (is_left t b (serial_up_to t oid list)) (revisions oid list))))) kept
    ∙ content_kept t front oid list is l (revision_below oid front list) refl

pub packs_keep : (collects : Bool) (named : List ℕ → Option (List ℕ)) (t front oid : ℕ) (list : List Transaction) → IsDatabase list → t < front → contains (kept collects named t list) oid ≡ true → state_content oid front (packed collects named t list) ≡ state_content oid front list
packs_keep collects named t front oid list is l there = kept_contents (kept collects named t list) t front oid list is l there

pub contents_kept : (named : List ℕ → Option (List ℕ)) (t front oid : ℕ) (list : List Transaction) → IsDatabase list → t < front → IsReached named t list oid → state_content oid front (packed_of named t list) ≡ state_content oid front list
contents_kept named t front oid list is l r = kept_contents (reached named t list) t front oid list is l ((is_all named t list oid).1 r)

-- ---- what is left is the end of what was there

all_left : (t last : ℕ) (kept : Bool) (rs : List ObjectRevision) → AllByRecursion (λ r. t < r.serial) rs → filter (is_left t kept last) rs ≡ rs
all_left t last kept [] all = refl
all_left t last kept (r ∷ rs) all =
    let late : leb r.serial t ≡ false = lt-leb r.serial t all.0 in
    rw late (ap (λ (qs : List ObjectRevision). r ∷ qs) (all_left t last kept rs all.1))

-- these stand in front of what is left
abbrev IsFront : List ObjectRevision → List ObjectRevision → Type 0
IsFront rs left = (front : List ObjectRevision) × (rs ≡ front ++ left)

late_ones : (t last low : ℕ) (rs : List ObjectRevision) → last ≤ low → AllByRecursion (λ r. low < r.serial) rs → AllByRecursion (λ r. r.serial ≤ t → r.serial ≤ last) rs → AllByRecursion (λ r. t < r.serial) rs
late_ones t last low [] h above upto = tt
late_ones t last low (r ∷ rs) h above upto =
    (⊎_elim (λ (l : t < r.serial). l) (λ (l : r.serial ≤ t). absurd (omega (arith, upto.0 l, above.0, h))) (cases_lt t r.serial), late_ones t last low rs h above.1 upto.1)

left_is_end : (t last : ℕ) (kept : Bool) (low high : ℕ) (rs : List ObjectRevision) → SerialsTo low high rs → AllByRecursion (λ r. r.serial ≤ t → r.serial ≤ last) rs → IsFront rs (filter (is_left t kept last) rs)
left_is_end t last kept low high [] h upto = ([], refl)
left_is_end t last kept low high (r ∷ rs) h upto =
    ⊎_elim (λ (late : t < r.serial).
    let above = above_low r.serial high rs h.1 in
    let rest : AllByRecursion (λ q. t < q.serial) rs = each_implies (λ (q : ObjectRevision). r.serial < q.serial) (λ (q : ObjectRevision). t < q.serial) (λ q l. omega (arith, l, late)) rs above in
    ([], sym (all_left t last kept (r ∷ rs) (late, rest))))
    (λ (early : r.serial ≤ t).
    ⊎_elim (λ (stays : is_left t kept last r ≡ true).
    let its : last ≡ r.serial = left_is_last t last kept r stays early in
    let rest = late_ones t last r.serial rs (omega (arith, its)) (above_low r.serial high rs h.1) upto.1 in
    ([], sym (rw stays (ap (λ (qs : List ObjectRevision). r ∷ qs) (all_left t last kept rs rest)))))
    (λ (out : is_left t kept last r ≡ false).
    let behind = left_is_end t last kept r.serial high rs h.1 upto.1 in
    (r ∷ behind.0, rw out (ap (λ (qs : List ObjectRevision). r ∷ qs) behind.1)))
    (cases_Bool (is_left t kept last r)))
    (cases_lt t r.serial)

up_to_last : (t oid : ℕ) (list : List Transaction) → IsDatabase list → (o : Option ObjectRevision) → revision_below oid (t + 1) list ≡ o → AllByRecursion (λ r. r.serial ≤ t → r.serial ≤ serial_up_to t oid list) (revisions oid list)
up_to_last t oid list is None e =
    each_implies (λ (r : ObjectRevision). is_below (t + 1) r ≡ false) (λ (r : ObjectRevision). r.serial ≤ t → r.serial ≤ serial_up_to t oid list) (λ r f l. absurd (omega (arith, ltb-false r.serial (t + 1) f, l))) (revisions oid list) (none_passes (is_below (t + 1)) (revisions oid list) e)
up_to_last t oid list is (Some q) e =
    let its : serial_up_to t oid list ≡ q.serial = serial_of_last t oid list q e in
    let all = last_greatest (t + 1) 0 (newest_tid list) None (revisions oid list) q (database_serials oid list is) tt e in
    each_implies (λ (r : ObjectRevision). r.serial < t + 1 → IsUpTo q r) (λ (r : ObjectRevision). r.serial ≤ t → r.serial ≤ serial_up_to t oid list) (λ r f l. omega (arith, up_to_serial q r (f (omega (arith, l))), its)) (revisions oid list) all.0

end_of_list : (t oid : ℕ) (keep : FinSet nat_cmp) (list : List Transaction) → IsDatabase list → IsFront (revisions oid list) (revisions oid (packed_by t keep list))
end_of_list t oid keep list is =
    subst (IsFront (revisions oid list)) (sym (revisions_left t keep oid list is)) (left_is_end t (serial_up_to t oid list) (contains keep oid) 0 (newest_tid list) (revisions oid list) (database_serials oid list is) (up_to_last t oid list is (revision_below oid (t + 1) list) refl))

all_back : {X : Type 0} (P : X → Type 0) (xs ys : List X) → AllByRecursion P (xs ++ ys) → AllByRecursion P ys
all_back P [] ys all = all
all_back P (x ∷ xs) ys all = all_back P xs ys all.1

-- those in front of a revision below a front are below it
find_behind : (front low high : ℕ) (xs rest : List ObjectRevision) (r : ObjectRevision) → SerialsTo low high (xs ++ rest) → last_or None (filter (is_below front) rest) ≡ Some r → find (is_from front) (xs ++ rest) ≡ find (is_from front) rest
find_behind front low high [] rest r h e = refl
find_behind front low high (x ∷ xs) rest r h e =
    let above : AllByRecursion (λ q. x.serial < q.serial) rest = all_back (λ (q : ObjectRevision). x.serial < q.serial) xs rest (above_low x.serial high (xs ++ rest) h.1) in
    let later : x.serial < r.serial = subst (λ o. IfSome o (λ q. x.serial < q.serial)) e (last_has (λ (q : ObjectRevision). x.serial < q.serial) (is_below front) None rest tt above) in
    let below : is_below front r ≡ true = subst (λ o. IfSome o (λ q. is_below front q ≡ true)) e (last_passes (is_below front) None rest tt) in
    let passed : leb front x.serial ≡ false = lt-leb front x.serial (omega (arith, later, ltb-true r.serial front below)) in
    rw passed (find_behind front x.serial high xs rest r h.1 e)

found_again : (t front oid serial : ℕ) (bytes : List ℕ) (end : Option ℕ) (keep : FinSet nat_cmp) (list : List Transaction) → IsDatabase list → (o : Option ObjectRevision) → revision_below oid front (packed_by t keep list) ≡ o
    → found_of o (end_of oid front (packed_by t keep list)) ≡ found.Held serial bytes end → found_below oid front list ≡ found.Held serial bytes end
found_again t front oid serial bytes end keep list is None e f = absurd (cc)
found_again t front oid serial bytes end keep list is (Some r) e f =
    let rest = revisions oid (packed_by t keep list) in
    let parts = end_of_list t oid keep list is in
    let last : revision_below oid front list ≡ Some r =
    ap (λ (rs : List ObjectRevision). last_or None (filter (is_below front) rs)) parts.1 ∙ ap (last_or None) (filter-append (is_below front) parts.0 rest) ∙ same_last (filter (is_below front) parts.0) (filter (is_below front) rest) r e in
    let next : end_of oid front list ≡ end_of oid front (packed_by t keep list) =
    ap (λ (rs : List ObjectRevision). option_map (λ (r : ObjectRevision). r.serial) (find (is_from front) rs)) parts.1
    ∙ ap (option_map (λ (r : ObjectRevision). r.serial)) (find_behind front 0 (newest_tid list) parts.0 rest r (subst (SerialsTo 0 (newest_tid list)) parts.1 (database_serials oid list is)) e) in
    ap (λ (o : Option ObjectRevision). found_of o (end_of oid front list)) last ∙ ap (found_of (Some r)) next ∙ f

pub records_stand : (keep : FinSet nat_cmp) (t oid front serial : ℕ) (bytes : List ℕ) (end : Option ℕ) (list : List Transaction) → IsDatabase list → found_below oid front (packed_by t keep list) ≡ found.Held serial bytes end → found_below oid front list ≡ found.Held serial bytes end
records_stand keep t oid front serial bytes end list is e = found_again t front oid serial bytes end keep list is (revision_below oid front (packed_by t keep list)) refl e
