-- Where no object waits and no transaction is left, all that is reached is marked.
use Rattle.std.proofs.Common.{◌≡◌, ℕ, ◌+◌, ◌<◌, ◌≤◌, inl, inr, ⊎_elim, true, false, eqb, ltb, List, [], ◌∷◌, ◌++◌, append-nil, map, Option, Some, None, sym, ap, subst, ◌∙◌}
use Rattle.std.specs.Prelude.{IfSome, IsTrue, ◌↔◌}
use Rattle.std.specs.Cmp.{nat_cmp_total}
use Rattle.std.specs.List.{AllByRecursion, flat_map}
use Rattle.std.specs.Option.{option_map_or}
use Rattle.std.specs.FinSet.{contains, len, nat_cmp-IsAntisymmetric, same_set}
use Rattle.std.proofs.lemmas.Bool.{both_ways, cases_Bool, or_cases, eqb-true, ltb-true, ltb-false}
use Rattle.zb_model.specs.declared.data.Change.{Change}
use Rattle.zb_model.specs.declared.data.Transaction.{Transaction}
use Rattle.zb_model.specs.declared.store_error.StoreError.{StoreError}
use Rattle.zb_model.specs.declared.store_error.StoreError.TheVariants as store_error
use Rattle.zb_model.specs.Database.{ObjectRevision, revision_below}
use Rattle.zb_model.specs.Queries.{first_after, oids_of}
use Rattle.pack_reach.specs.Marking.{HasGrown, IsChangeRead, IsComplete, IsFollowed, IsMarking, IsNoted, IsRead, IsTransactionRead, KeepsMarks, MarkerState, MayMark, OnlyMarks, with_mark}
use Rattle.pack_reach.specs.Outcomes.{IsAllMarked, RefusesToMark, unread_refusal}
use Rattle.pack_reach.specs.Reach.{IsLeastUnreadable, IsReached, IsUnreadable, changed_after, is_in, is_pair_in, named_after, references_in, references_of, unreadable_after, unreadable_in, unreadable_of}
use Rattle.pack_reach.specs.Reached.{reached, unreadable}
use Rattle.pack_reach.proofs.Growing.{mark_only, mark_sound}
use Rattle.pack_reach.proofs.Least.{computed_least, one_least, pair_either}
use Rattle.pack_reach.specs.MemberLaws.{in_either, same_bools}
use Rattle.pack_reach.specs.ReachLaws.{is_all}
use Rattle.pack_reach.proofs.Seeing.{grown_marking}

-- each transaction above the pack's tid is read
abbrev AreRead : (List ℕ → Option (List ℕ)) → List Transaction → MarkerState → Type 0
AreRead named list m = AllByRecursion (λ (x : Transaction). m.tid < x.tid → IsTransactionRead named m x) list

pub none_above : (s : ℕ) (list : List Transaction) → first_after s list ≡ None → AllByRecursion (λ (x : Transaction). x.tid ≤ s) list
none_above s [] e = tt
none_above s (x ∷ list) e =
    ⊎_elim (λ (a : ltb s x.tid ≡ true).
    let some : Some x ≡ None = rw a at e in
    absurd (cc))
    (λ (a : ltb s x.tid ≡ false).
    let rest : first_after s list ≡ None = rw a at e in
    (ltb-false s x.tid a, none_above s list rest))
    (cases_Bool (ltb s x.tid))

all_read : (named : List ℕ → Option (List ℕ)) (list rest : List Transaction) (m : MarkerState) → AllByRecursion (λ (x : Transaction). m.tid < x.tid → x.tid ≤ m.seen → IsTransactionRead named m x) rest → AllByRecursion (λ (x : Transaction). x.tid ≤ m.seen) rest → AreRead named rest m
all_read named list [] m r s = tt
all_read named list (x ∷ rest) m r s = (λ l. r.0 l s.0, all_read named list rest m r.1 s.1)

-- ---- what they change and name is marked

change_marked : (named : List ℕ → Option (List ℕ)) (m : MarkerState) (tid n : ℕ) (changes : List Change) → AllByRecursion (IsChangeRead named m tid) changes → is_in n (map (λ (c : Change). c.oid) changes) ≡ true → contains m.set n ≡ true
change_marked named m tid n [] all i = absurd (cc)
change_marked named m tid n (c ∷ changes) all i =
    ⊎_elim (λ (e : eqb c.oid n ≡ true). subst (λ (o : ℕ). contains m.set o ≡ true) (eqb-true c.oid n e) all.0.0) (λ (j : is_in n (map (λ (c : Change). c.oid) changes) ≡ true). change_marked named m tid n changes all.1 j) (or_cases (eqb c.oid n) (is_in n (map (λ (c : Change). c.oid) changes)) i)

reference_marked : (named : List ℕ → Option (List ℕ)) (m : MarkerState) (tid n : ℕ) (changes : List Change) → AllByRecursion (IsChangeRead named m tid) changes → is_in n (flat_map (λ (c : Change). references_of named c.content) changes) ≡ true → contains m.set n ≡ true
reference_marked named m tid n [] all i = absurd (cc)
reference_marked named m tid n (c ∷ changes) all i =
    ⊎_elim (λ (j : is_in n (references_of named c.content) ≡ true). all.0.1.marked n j) (λ (j : is_in n (flat_map (λ (c : Change). references_of named c.content) changes) ≡ true). reference_marked named m tid n changes all.1 j)
    (in_either n (references_of named c.content) (flat_map (λ (c : Change). references_of named c.content) changes) i)

unreadable_noted : (named : List ℕ → Option (List ℕ)) (m : MarkerState) (tid : ℕ) (p : ℕ × ℕ) (changes : List Change) → AllByRecursion (IsChangeRead named m tid) changes → is_pair_in p (flat_map (λ (c : Change). unreadable_in named c.oid tid c.content) changes) ≡ true → IsNoted m.unreadable p
unreadable_noted named m tid p [] all i = absurd (cc)
unreadable_noted named m tid p (c ∷ changes) all i =
    ⊎_elim (λ (j : is_pair_in p (unreadable_in named c.oid tid c.content) ≡ true). all.0.1.noted p j) (λ (j : is_pair_in p (flat_map (λ (c : Change). unreadable_in named c.oid tid c.content) changes) ≡ true). unreadable_noted named m tid p changes all.1 j)
    (pair_either p (unreadable_in named c.oid tid c.content) (flat_map (λ (c : Change). unreadable_in named c.oid tid c.content) changes) i)

changed_marked : (named : List ℕ → Option (List ℕ)) (m : MarkerState) (n : ℕ) (list : List Transaction) → AreRead named list m → is_in n (changed_after m.tid list) ≡ true → contains m.set n ≡ true
changed_marked named m n [] all i = absurd (cc)
changed_marked named m n (x ∷ list) all i =
    ⊎_elim (λ (a : ltb m.tid x.tid ≡ true).
    let both : is_in n (oids_of x ++ changed_after m.tid list) ≡ true = rw a at i in
    ⊎_elim (λ (j : is_in n (oids_of x) ≡ true). change_marked named m x.tid n x.changes (all.0 (ltb-true m.tid x.tid a)) j) (λ (j : is_in n (changed_after m.tid list) ≡ true). changed_marked named m n list all.1 j) (in_either n (oids_of x) (changed_after m.tid list) both))
    (λ (a : ltb m.tid x.tid ≡ false).
    let rest : is_in n (changed_after m.tid list) ≡ true = rw a at i in
    changed_marked named m n list all.1 rest)
    (cases_Bool (ltb m.tid x.tid))

named_marked : (named : List ℕ → Option (List ℕ)) (m : MarkerState) (n : ℕ) (list : List Transaction) → AreRead named list m → is_in n (named_after named m.tid list) ≡ true → contains m.set n ≡ true
named_marked named m n [] all i = absurd (cc)
named_marked named m n (x ∷ list) all i =
    ⊎_elim (λ (a : ltb m.tid x.tid ≡ true).
    let both : is_in n (references_in named x ++ named_after named m.tid list) ≡ true = rw a at i in
    ⊎_elim (λ (j : is_in n (references_in named x) ≡ true). reference_marked named m x.tid n x.changes (all.0 (ltb-true m.tid x.tid a)) j) (λ (j : is_in n (named_after named m.tid list) ≡ true). named_marked named m n list all.1 j) (in_either n (references_in named x) (named_after named m.tid list) both))
    (λ (a : ltb m.tid x.tid ≡ false).
    let rest : is_in n (named_after named m.tid list) ≡ true = rw a at i in
    named_marked named m n list all.1 rest)
    (cases_Bool (ltb m.tid x.tid))

after_noted : (named : List ℕ → Option (List ℕ)) (m : MarkerState) (p : ℕ × ℕ) (list : List Transaction) → AreRead named list m → is_pair_in p (unreadable_after named m.tid list) ≡ true → IsNoted m.unreadable p
after_noted named m p [] all i = absurd (cc)
after_noted named m p (x ∷ list) all i =
    ⊎_elim (λ (a : ltb m.tid x.tid ≡ true).
    let both : is_pair_in p (unreadable_of named x ++ unreadable_after named m.tid list) ≡ true = rw a at i in
    ⊎_elim (λ (j : is_pair_in p (unreadable_of named x) ≡ true). unreadable_noted named m x.tid p x.changes (all.0 (ltb-true m.tid x.tid a)) j) (λ (j : is_pair_in p (unreadable_after named m.tid list) ≡ true). after_noted named m p list all.1 j) (pair_either p (unreadable_of named x) (unreadable_after named m.tid list) both))
    (λ (a : ltb m.tid x.tid ≡ false).
    let rest : is_pair_in p (unreadable_after named m.tid list) ≡ true = rw a at i in
    after_noted named m p list all.1 rest)
    (cases_Bool (ltb m.tid x.tid))

-- ---- what is followed names only marked objects

followed_marked : (named : List ℕ → Option (List ℕ)) (m : MarkerState) (oid n : ℕ) (o : Option ObjectRevision) → IfSome o (λ r. IsRead named m oid r.serial r.content) → is_in n (option_map_or (λ (r : ObjectRevision). references_of named r.content) o []) ≡ true → contains m.set n ≡ true
followed_marked named m oid n None f i = absurd (cc)
followed_marked named m oid n (Some r) f i = f.marked n i

followed_noted : (named : List ℕ → Option (List ℕ)) (m : MarkerState) (oid : ℕ) (p : ℕ × ℕ) (o : Option ObjectRevision) → IfSome o (λ r. IsRead named m oid r.serial r.content) → is_pair_in p (option_map_or (λ (r : ObjectRevision). unreadable_in named oid r.serial r.content) o []) ≡ true → IsNoted m.unreadable p
followed_noted named m oid p None f i = absurd (cc)
followed_noted named m oid p (Some r) f i = f.noted p i

none_waits : (named : List ℕ → Option (List ℕ)) (list : List Transaction) (m : MarkerState) (oid : ℕ) → IsMarking named list m → m.waiting ≡ [] → contains m.set oid ≡ true → IsFollowed named list m oid
none_waits named list m oid k e h =
    ⊎_elim (λ (i : IsTrue (is_in oid m.waiting)).
    let none : is_in oid m.waiting ≡ false = ap (is_in oid) e in
    absurd (both_ways (is_in oid m.waiting) none i))
    (λ (f : IsFollowed named list m oid). f)
    (k.followed oid h)

reached_marked : (named : List ℕ → Option (List ℕ)) (list : List Transaction) (m : MarkerState) → IsMarking named list m → AreRead named list m → contains m.set 0 ≡ true → m.waiting ≡ [] → (oid : ℕ) → IsReached named m.tid list oid → contains m.set oid ≡ true
reached_marked named list m k all root e oid IsReached.root = root
reached_marked named list m k all root e oid (IsReached.changed o i) = changed_marked named m o list all i
reached_marked named list m k all root e oid (IsReached.written o i) = named_marked named m o list all i
reached_marked named list m k all root e oid (IsReached.followed from o r i) =
    followed_marked named m from o (revision_below from (m.tid + 1) list) (none_waits named list m from k e (reached_marked named list m k all root e from r)) i

-- ---- all is marked

pub each_read : (named : List ℕ → Option (List ℕ)) (list : List Transaction) (m : MarkerState) → IsMarking named list m → first_after m.seen list ≡ None → AreRead named list m
each_read named list m k none = all_read named list list m k.read (none_above m.seen list none)

pub exactly_marked : (named : List ℕ → Option (List ℕ)) (list : List Transaction) (m : MarkerState) → IsMarking named list m → first_after m.seen list ≡ None → contains m.set 0 ≡ true → m.waiting ≡ [] → (oid : ℕ) → IsTrue (contains m.set oid) ↔ IsReached named m.tid list oid
exactly_marked named list m k none root e oid = (k.reached oid, reached_marked named list m k (each_read named list m k none) root e oid)

pub set_is : (named : List ℕ → Option (List ℕ)) (list : List Transaction) (m : MarkerState) → ((oid : ℕ) → IsTrue (contains m.set oid) ↔ IsReached named m.tid list oid) → m.set ≡ reached named m.tid list
set_is named list m exact =
    same_set nat_cmp_total nat_cmp-IsAntisymmetric m.set (reached named m.tid list) (λ oid. same_bools (contains m.set oid) (contains (reached named m.tid list) oid) (λ h. (is_all named m.tid list oid).1 ((exact oid).0 h)) (λ h. (exact oid).1 ((is_all named m.tid list oid).0 h)))

all_noted : (named : List ℕ → Option (List ℕ)) (list : List Transaction) (m : MarkerState) → IsMarking named list m → AreRead named list m → m.waiting ≡ [] → ((oid : ℕ) → IsReached named m.tid list oid → contains m.set oid ≡ true) → (p : ℕ × ℕ) → IsUnreadable named m.tid list p → IsNoted m.unreadable p
all_noted named list m k all e marked p (inl i) = after_noted named m p list all i
all_noted named list m k all e marked p (inr r) = followed_noted named m p.0 p (revision_below p.0 (m.tid + 1) list) (none_waits named list m p.0 k e (marked p.0 r.0)) r.1

least_noted : (named : List ℕ → Option (List ℕ)) (t : ℕ) (list : List Transaction) (o : Option (ℕ × ℕ)) → IfSome o (IsUnreadable named t list) → ((p : ℕ × ℕ) → IsUnreadable named t list p → IsNoted o p) → IsLeastUnreadable named t list o
least_noted named t list None one all = all
least_noted named t list (Some p) one all = (one, all)

pub noted_is : (named : List ℕ → Option (List ℕ)) (list : List Transaction) (m : MarkerState) → IsMarking named list m → first_after m.seen list ≡ None → contains m.set 0 ≡ true → m.waiting ≡ [] → unreadable named m.tid list ≡ m.unreadable
noted_is named list m k none root e =
    let all = each_read named list m k none in
    one_least named m.tid list (unreadable named m.tid list) m.unreadable (computed_least named m.tid list)
    (least_noted named m.tid list m.unreadable k.noted (all_noted named list m k all e (reached_marked named list m k all root e)))

-- ---- steps together

pub may_of : (named : List ℕ → Option (List ℕ)) (list : List Transaction) (m : MarkerState) → IsMarking named list m → MayMark named list m
may_of named list m k = record { front = list; later = []; split = sym (append-nil list); above = tt; marks = k }

pub keeps_then : (a b c : MarkerState) → KeepsMarks a b → KeepsMarks b c → KeepsMarks a c
keeps_then a b c f g = record { tid = g.tid ∙ f.tid; kept = λ o h. g.kept o (f.kept o h) }

pub only_keeps : (a b : MarkerState) → OnlyMarks a b → KeepsMarks a b
only_keeps a b f = record { tid = f.tid; kept = f.kept }

pub same_grown : (t : ℕ) (list : List Transaction) → HasGrown t list [] list
same_grown t list = record { split = sym (append-nil list); above = tt }

-- ---- the answer

pub root_marking : (named : List ℕ → Option (List ℕ)) (list : List Transaction) (a b : MarkerState) → IsMarking named list a → b ≡ with_mark a 0 → IsMarking named list b
root_marking named list a b k e = subst (IsMarking named list) (sym e) (grown_marking named list a (with_mark a 0) k (mark_only a 0) (mark_sound named list a 0 IsReached.root))

pub root_keeps : (a b : MarkerState) → b ≡ with_mark a 0 → KeepsMarks a b
root_keeps a b e = subst (KeepsMarks a) (sym e) (only_keeps a (with_mark a 0) (mark_only a 0))

pub answered : (named : List ℕ → Option (List ℕ)) (list : List Transaction) (m : MarkerState) (count : ℕ) → IsMarking named list m → IsComplete list m → count ≡ len m.set → m.unreadable ≡ None → IsAllMarked named list m count
answered named list m count k all e none =
    let exact = exactly_marked named list m k all.seen all.root all.line in
    record { exact = exact; set = set_is named list m exact; readable = noted_is named list m k all.seen all.root all.line ∙ none; count = e }

pub refused : (named : List ℕ → Option (List ℕ)) (list : List Transaction) (m : MarkerState) (p : ℕ × ℕ) → IsMarking named list m → IsComplete list m → m.unreadable ≡ Some p → unreadable named m.tid list ≡ Some p
refused named list m p k all e = noted_is named list m k all.seen all.root all.line ∙ e

pub unread : (named : List ℕ → Option (List ℕ)) (list : List Transaction) (m : MarkerState) (why : StoreError) → RefusesToMark named list m (unread_refusal why)
unread named list m store_error.StoreFault = tt
unread named list m store_error.ReadFault = tt
unread named list m store_error.Memory = tt
