-- Undoing the newest transaction gives back what was there before it.
use Rattle.std.proofs.Common.{◌≡◌, ℕ, ◌+◌, ◌-◌, ◌<◌, Bool, true, false, cond, eqb, ltb, List, [], ◌∷◌, ◌++◌, append-nil, append_assoc, map, filter, Option, Some, None, refl, sym, ap, subst, ◌∙◌, arith}
use Rattle.std.specs.Prelude.{Result, Ok, Err, nat_eq, option_map, unwrap_or, is_none, IsSomeAnd, ◌&&◌}
use Rattle.std.specs.List.{AllByRecursion, IsDistinct, find, last_or}
use Rattle.std.specs.Option.{option_map_or, option_or}
use Rattle.std.proofs.lemmas.Bool.{eqb-true, eqb-false, eq-eqb, ne_eqb, le-ltb}
use Rattle.std.proofs.lemmas.List.Elements.{filter-append, filter_map-append, recursion_from_All}
use Rattle.std.proofs.lemmas.List.Folds.{find-append}
use Rattle.std.proofs.lemmas.Map.Keys.{IsDistinct-head, IsDistinct-tail}
use Rattle.zb_base.specs.Lists.{last_or_append, last_or_push}
use Rattle.zb_model.specs.declared.data.Change.{Change}
use Rattle.zb_model.specs.declared.data.Content.TheVariants.{Absent}
use Rattle.zb_model.specs.declared.data.Transaction.{Transaction}
use Rattle.zb_model.specs.declared.new_transaction.NewChange.{NewChange}
use Rattle.zb_model.specs.declared.new_transaction.NewContent.{NewContent}
use Rattle.zb_model.specs.declared.new_transaction.NewTransaction.{NewTransaction}
use Rattle.zb_model.specs.declared.refusal.Refusal.{Refusal}
use Rattle.zb_model.specs.declared.refusal.Refusal.TheVariants as refusal
use Rattle.zb_model.specs.Database.{IsDatabase, ObjectRevision, change_in, is_below, is_change_of, newest_tid, revision_below, revision_in, revisions, serial_of}
use Rattle.zb_model.specs.Queries.{has_tid, transaction_at}
use Rattle.zb_model.specs.Rules.{MergeRules}
use Rattle.zb_model.specs.Voting.{voted_change, voted_of}
use Rattle.zb_model.specs.VotingLaws.{newest-push}
use Rattle.undo_records.specs.declared.refusal.UndoRefusal.{UndoRefusal}
use Rattle.undo_records.specs.declared.refusal.UndoRefusal.TheVariants as undo_refusal
use Rattle.undo_records.specs.Outcomes.{IsUndone}
use Rattle.undo_records.specs.Restoring.{IsRestored, NamesNewest}
use Rattle.undo_records.specs.Undone.{content_before, is_new_of, is_untouched, last_content, taken_over, then_with, undone_changes, undone_content, undone_from, undone_of, undone_transaction, with_change, written_for}
use Rattle.zb_model.specs.SerialLaws.{RisesTo, database_rises, last_of_rising}
use Rattle.undo_records.proofs.Sound.{taken}

-- ---- lists

split_from : {X : Type 0} (d : X) (xs : List X) (x : X) → last_or (Some d) xs ≡ Some x → (front : List X) × (d ∷ xs ≡ front ++ x ∷ [])
split_from {X} d [] x e =
    let same : d ≡ x = cc in
    ([], ap (λ (y : X). y ∷ []) same)
split_from {X} d (y ∷ ys) x e =
    let rest = split_from y ys x e in
    (d ∷ rest.0, ap (λ (zs : List X). d ∷ zs) rest.1)

-- a list whose last item is known
split_last : {X : Type 0} (xs : List X) (x : X) → last_or None xs ≡ Some x → (front : List X) × (xs ≡ front ++ x ∷ [])
split_last [] x e = absurd (cc)
split_last (d ∷ xs) x e = split_from d xs x e

some_last : {X : Type 0} (x : X) (xs : List X) → (y : X) × (last_or (Some x) xs ≡ Some y)
some_last x [] = (x, refl)
some_last x (z ∷ zs) = some_last z zs

-- ---- the newest of a list

rises_to_last : (low high : ℕ) (front : List Transaction) (t : Transaction) → RisesTo low high (front ++ t ∷ []) → low < t.tid
rises_to_last low high [] t h = h.0
rises_to_last low high (x ∷ front) t h = omega (arith, h.0, rises_to_last x.tid high front t h.1)

rises_in_front : (low high : ℕ) (front : List Transaction) (t : Transaction) → RisesTo low high (front ++ t ∷ []) → RisesTo low (t.tid - 1) front
rises_in_front low high [] t h = omega (arith, h.0)
rises_in_front low high (x ∷ front) t h = (h.0, rises_in_front x.tid high front t h.1)

found_newest : (low high : ℕ) (front : List Transaction) (t : Transaction) → RisesTo low high (front ++ t ∷ []) → find (has_tid t.tid) (front ++ t ∷ []) ≡ Some t
found_newest low high [] t h =
    let is : eqb t.tid t.tid ≡ true = eq-eqb t.tid t.tid refl in
    rw is refl
found_newest low high (x ∷ front) t h =
    let l : x.tid < t.tid = rises_to_last x.tid high front t h.1 in
    let other : eqb x.tid t.tid ≡ false = ne_eqb x.tid t.tid (λ q. omega (arith, l, q)) in
    rw other (found_newest x.tid high front t h.1)

all_revisions : (oid : ℕ) (front : List Transaction) (t : Transaction) → revisions oid (front ++ t ∷ []) ≡ revisions oid front ++ revisions oid (t ∷ [])
all_revisions oid front t = filter_map-append (revision_in oid) front (t ∷ [])

-- it doesn't change the object
unchanged : (oid : ℕ) (t : Transaction) → change_in oid t.changes ≡ None → revisions oid (t ∷ []) ≡ []
unchanged oid t e = rw e refl

-- it changes the object
changed : (oid : ℕ) (t : Transaction) (c : Change) → change_in oid t.changes ≡ Some c → revisions oid (t ∷ []) ≡ (let r : ObjectRevision = record { serial = t.tid; content = c.content } in r) ∷ []
changed oid t c e = rw e refl

none_of_it : (oid : ℕ) (t : Transaction) (o : Option Change) → change_in oid t.changes ≡ o → filter (is_below t.tid) (revisions oid (t ∷ [])) ≡ []
none_of_it oid t None e = ap (filter (is_below t.tid)) (unchanged oid t e)
none_of_it oid t (Some c) e =
    let no : ltb t.tid t.tid ≡ false = le-ltb t.tid t.tid (omega arith) in
    ap (filter (is_below t.tid)) (changed oid t c e) ∙ rw no refl

-- what an object was before the newest transaction is what it is in the list without it
before_newest : (oid high : ℕ) (front : List Transaction) (t : Transaction) → RisesTo 0 high (front ++ t ∷ []) → revision_below oid t.tid (front ++ t ∷ []) ≡ last_or None (revisions oid front)
before_newest oid high front t h =
    let low : 0 < t.tid = rises_to_last 0 high front t h in
    ap (λ (rs : List ObjectRevision). last_or None (filter (is_below t.tid) rs)) (all_revisions oid front t)
    ∙ ap (last_or None) (filter-append (is_below t.tid) (revisions oid front) (revisions oid (t ∷ [])))
    ∙ ap (λ (rs : List ObjectRevision). last_or None (filter (is_below t.tid) (revisions oid front) ++ rs)) (none_of_it oid t (change_in oid t.changes) refl)
    ∙ ap (last_or None) (append-nil (filter (is_below t.tid) (revisions oid front)))
    ∙ last_of_rising oid 0 (t.tid - 1) t.tid front (rises_in_front 0 high front t h) (omega (arith, low))

serial_newest : (oid : ℕ) (front : List Transaction) (t : Transaction) (c : Change) → change_in oid t.changes ≡ Some c → serial_of oid (front ++ t ∷ []) ≡ t.tid
serial_newest oid front t c e =
    let r : ObjectRevision = record { serial = t.tid; content = c.content } in
    let last : last_or None (revisions oid (front ++ t ∷ [])) ≡ Some r = ap (last_or None) (all_revisions oid front t ∙ ap (λ (rs : List ObjectRevision). revisions oid front ++ rs) (changed oid t c e)) ∙ last_or_push None (revisions oid front) r in
    ap (λ (o : Option ObjectRevision). option_map_or (λ (x : ObjectRevision). x.serial) o 0) last

-- ---- its changes are of its objects

change_among : (oid : ℕ) (xs ys : List Change) (c : Change) → c.oid ≡ oid → (d : Change) × (change_in oid (xs ++ c ∷ ys) ≡ Some d)
change_among oid xs ys c e =
    let is : eqb c.oid oid ≡ true = eq-eqb c.oid oid e in
    let last = some_last c (filter (is_change_of oid) ys) in
    let behind : filter (is_change_of oid) (c ∷ ys) ≡ c ∷ filter (is_change_of oid) ys = rw is refl in (
      last.0,
      ap (last_or None) (filter-append (is_change_of oid) xs (c ∷ ys) ∙ ap (λ (zs : List Change). filter (is_change_of oid) xs ++ zs) behind)
          ∙ last_or_append None (filter (is_change_of oid) xs) (c ∷ filter (is_change_of oid) ys)
          ∙ last.1,
    )

change-oid : (oid : ℕ) (o : Option Change) (cs : List Change) (c : Change) → ((d : Change) → o ≡ Some d → d.oid ≡ oid) → last_or o (filter (is_change_of oid) cs) ≡ Some c → c.oid ≡ oid
change-oid oid o [] c first e = first c e
change-oid oid o (d ∷ cs) c first e = by_cases (eqb d.oid oid) refl (λ p. change-oid oid p cs c)
  where
    by_cases : (b : Bool) → eqb d.oid oid ≡ b → ((p : Option Change) → ((x : Change) → p ≡ Some x → x.oid ≡ oid) → last_or p (filter (is_change_of oid) cs) ≡ Some c → c.oid ≡ oid) → c.oid ≡ oid
    by_cases true q rest =
        rest (Some d)
        (λ x f. let same : d ≡ x = cc in ap (λ (y : Change). y.oid) (sym same) ∙ eqb-true d.oid oid q)
        (rw q at e)
    by_cases false q rest = rest o first (rw q at e)

-- ---- each of its changes is taken back

abbrev back : List Transaction → ℕ → Change → NewChange
back list tid c = record { oid = c.oid; content = taken_over (revision_below c.oid tid list) }

abbrev IsLast : List Transaction → ℕ → Change → Type 0
IsLast list tid c = serial_of c.oid list ≡ tid

abbrev IsUnwritten : List NewChange → Change → Type 0
IsUnwritten written c = written_for c.oid written ≡ None

are_last : (front : List Transaction) (t : Transaction) (xs ys : List Change) → xs ++ ys ≡ t.changes → AllByRecursion (IsLast (front ++ t ∷ []) t.tid) ys
are_last front t xs [] e = tt
are_last front t xs (c ∷ ys) e =
    let at = change_among c.oid xs ys c refl in
    (serial_newest c.oid front t at.0 (sym (ap (change_in c.oid) e) ∙ at.1), are_last front t (xs ++ c ∷ []) ys (append_assoc xs (c ∷ []) ys ∙ e))

written_behind : (oid : ℕ) (written : List NewChange) (b : NewChange) → written_for oid written ≡ None → nat_eq b.oid oid ≡ false → written_for oid (written ++ b ∷ []) ≡ None
written_behind oid written b none apart =
    let other : eqb oid b.oid ≡ false = ne_eqb oid b.oid (λ q. eqb-false b.oid oid apart (sym q)) in
    find-append (is_new_of oid) written (b ∷ []) ∙ ap (λ (o : Option NewChange). option_or o (find (is_new_of oid) (b ∷ []))) none ∙ rw other refl

still_unwritten : (written : List NewChange) (b : NewChange) (cs : List Change) → AllByRecursion (IsUnwritten written) cs → AllByRecursion (λ n. nat_eq b.oid n ≡ false) (map (λ c. c.oid) cs) → AllByRecursion (IsUnwritten (written ++ b ∷ [])) cs
still_unwritten written b [] none apart = tt
still_unwritten written b (c ∷ cs) none apart = (written_behind c.oid written b none.0 apart.0, still_unwritten written b cs none.1 apart.1)

goes_behind : (written : List NewChange) (b : NewChange) → written_for b.oid written ≡ None → with_change written b ≡ written ++ b ∷ []
goes_behind [] b none = refl
goes_behind (d ∷ written) b none = by_cases (eqb b.oid d.oid) refl (goes_behind written b)
  where
    by_cases : (x : Bool) → eqb b.oid d.oid ≡ x → (written_for b.oid written ≡ None → with_change written b ≡ written ++ b ∷ []) → cond x (b ∷ written) (d ∷ with_change written b) ≡ d ∷ (written ++ b ∷ [])
    by_cases true q rest =
        let some : Some d ≡ None = rw q at none in
        absurd (cc)
    by_cases false q rest = ap (λ (cs : List NewChange). d ∷ cs) (rest (rw q at none))

content_back : (rules : MergeRules) (list : List Transaction) (tid : ℕ) (written : List NewChange) (c : Change) → IsLast list tid c → IsUnwritten written c → undone_content rules list tid written c ≡ Ok (taken_over (revision_below c.oid tid list))
content_back rules list tid written c last none =
    let at : eqb (serial_of c.oid list) tid ≡ true = eq-eqb (serial_of c.oid list) tid last in
    let first : is_untouched list tid written c.oid ≡ true = ap (λ (b : Bool). b && is_none (written_for c.oid written)) at ∙ ap (λ (o : Option NewChange). is_none o) none in
    rw first refl

changes_back : (rules : MergeRules) (list : List Transaction) (tid : ℕ) (written : List NewChange) (changes : List Change) → IsDistinct nat_eq (map (λ c. c.oid) changes) → AllByRecursion (IsUnwritten written) changes → AllByRecursion (IsLast list tid) changes
    → undone_changes rules list tid written changes ≡ Ok (written ++ map (back list tid) changes)
changes_back rules list tid written [] distinct none last = ap (λ (cs : List NewChange). Ok cs) (sym (append-nil written))
changes_back rules list tid written (c ∷ changes) distinct none last =
    let b : NewChange = back list tid c in
    let apart : AllByRecursion (λ n. nat_eq c.oid n ≡ false) (map (λ c. c.oid) changes) = IsDistinct-head nat_eq c.oid (map (λ c. c.oid) changes) distinct in
    ap (λ (u : Result NewContent Refusal). then_with u (λ content. undone_changes rules list tid (with_change written (record { oid = c.oid; content = content })) changes)) (content_back rules list tid written c last.0 none.0)
    ∙ ap (λ (w : List NewChange). undone_changes rules list tid w changes) (goes_behind written b none.0)
    ∙ changes_back rules list tid (written ++ b ∷ []) changes (IsDistinct-tail nat_eq c.oid (map (λ c. c.oid) changes) distinct) (still_unwritten written b changes none.1 apart) last.1
    ∙ ap (λ (cs : List NewChange). Ok cs) (append_assoc written (b ∷ []) (map (back list tid) changes))

none_written : (changes : List Change) → AllByRecursion (IsUnwritten []) changes
none_written [] = tt
none_written (c ∷ changes) = (refl, none_written changes)

last-holds : {X : Type 0} (P : X → Type 0) (front : List X) (x : X) → AllByRecursion P (front ++ x ∷ []) → P x
last-holds P [] x all = all.0
last-holds P (y ∷ front) x all = last-holds P front x all.1

abbrev NamesOnce : Transaction → Type 0
NamesOnce t = IsDistinct nat_eq (map (λ (c : Change). c.oid) t.changes)

newest_back : (rules : MergeRules) (front : List Transaction) (t : Transaction) → IsDatabase (front ++ t ∷ []) → t.packed ≡ false
    → undone_of rules (front ++ t ∷ []) (t.tid ∷ []) ≡ Ok (map (back (front ++ t ∷ []) t.tid) t.changes)
unfolding undone_of
newest_back rules front t is unpacked =
    let list = front ++ t ∷ [] in
    let at : transaction_at t.tid list ≡ Some t = found_newest 0 (newest_tid list) front t (database_rises list is) in
    let distinct : NamesOnce t = last-holds NamesOnce front t (recursion_from_All NamesOnce list is.distinct) in
    let taken_back : undone_changes rules list t.tid [] t.changes ≡ Ok (map (back list t.tid) t.changes) = changes_back rules list t.tid [] t.changes distinct (none_written t.changes) (are_last front t [] t.changes refl) in
    ap (λ (o : Option Transaction). then_with (undone_transaction rules list t.tid [] o) (λ more. undone_from rules list more [])) at
    ∙ ap (λ (b : Bool). then_with (cond b (Err (refusal.UndoPacked t.tid)) (undone_changes rules list t.tid [] t.changes)) (λ more. undone_from rules list more [])) unpacked
    ∙ ap (λ (u : Result (List NewChange) Refusal). then_with u (λ more. undone_from rules list more [])) taken_back

-- ---- and committed

voted_back : (list : List Transaction) (tid oid : ℕ) (o : Option Change) (changes : List Change)
    → last_or (option_map (λ c. voted_change list (back list tid c)) o) (filter (is_change_of oid) (map (voted_change list) (map (back list tid) changes))) ≡ option_map (λ c. voted_change list (back list tid c)) (last_or o (filter (is_change_of oid) changes))
voted_back list tid oid o [] = refl
voted_back list tid oid o (c ∷ changes) = by_cases (eqb c.oid oid) refl (λ p. voted_back list tid oid p changes)
  where
    by_cases : (b : Bool) → eqb c.oid oid ≡ b → ((p : Option Change) → last_or (option_map (λ c. voted_change list (back list tid c)) p) (filter (is_change_of oid) (map (voted_change list) (map (back list tid) changes))) ≡ option_map (λ c. voted_change list (back list tid c)) (last_or p (filter (is_change_of oid) changes)))
        → last_or (option_map (λ c. voted_change list (back list tid c)) o) (cond b (voted_change list (back list tid c) ∷ filter (is_change_of oid) (map (voted_change list) (map (back list tid) changes))) (filter (is_change_of oid) (map (voted_change list) (map (back list tid) changes)))) ≡ option_map (λ c. voted_change list (back list tid c)) (last_or o (cond b (c ∷ filter (is_change_of oid) changes) (filter (is_change_of oid) changes)))
    by_cases true q rest = rest (Some c)
    by_cases false q rest = rest o

content_in-option : (o : Option ObjectRevision) → unwrap_or (option_map (λ r. r.content) o) Absent ≡ option_map_or (λ r. r.content) o Absent
content_in-option None = refl
content_in-option (Some r) = refl

-- the changes that are committed, one object at a time
change_back : (list : List Transaction) (tid oid : ℕ) (new : NewTransaction) (changes : List Change) → new.changes ≡ map (back list tid) changes → change_in oid (voted_of list new).changes ≡ option_map (λ c. voted_change list (back list tid c)) (change_in oid changes)
change_back list tid oid new changes e = ap (λ (cs : List NewChange). change_in oid (map (voted_change list) cs)) e ∙ voted_back list tid oid None changes

-- of an object that the newest transaction doesn't change
gives_others : (front : List Transaction) (t : Transaction) (new : NewTransaction) (oid : ℕ) → IsDatabase (front ++ t ∷ []) → new.changes ≡ map (back (front ++ t ∷ []) t.tid) t.changes → change_in oid t.changes ≡ None
    → last_content oid ((front ++ t ∷ []) ++ voted_of (front ++ t ∷ []) new ∷ []) ≡ content_before oid t.tid (front ++ t ∷ [])
gives_others front t new oid is e q =
    let list = front ++ t ∷ [] in
    let none : change_in oid (voted_of list new).changes ≡ None = change_back list t.tid oid new t.changes e ∙ ap (option_map (λ c. voted_change list (back list t.tid c))) q in
    let now : revisions oid (list ++ voted_of list new ∷ []) ≡ revisions oid front =
    all_revisions oid list (voted_of list new) ∙ ap (λ (rs : List ObjectRevision). revisions oid list ++ rs) (unchanged oid (voted_of list new) none) ∙ append-nil (revisions oid list)
    ∙ all_revisions oid front t ∙ ap (λ (rs : List ObjectRevision). revisions oid front ++ rs) (unchanged oid t q) ∙ append-nil (revisions oid front) in
    ap (λ (rs : List ObjectRevision). option_map_or (λ (r : ObjectRevision). r.content) (last_or None rs) Absent) now
    ∙ sym (content_in-option (revision_below oid t.tid list) ∙ ap (λ (o : Option ObjectRevision). option_map_or (λ (r : ObjectRevision). r.content) o Absent) (before_newest oid (newest_tid list) front t (database_rises list is)))

-- of one that it changes
gives_its_own : (front : List Transaction) (t : Transaction) (new : NewTransaction) (oid : ℕ) (c : Change) → IsDatabase (front ++ t ∷ []) → new.changes ≡ map (back (front ++ t ∷ []) t.tid) t.changes → change_in oid t.changes ≡ Some c
    → last_content oid ((front ++ t ∷ []) ++ voted_of (front ++ t ∷ []) new ∷ []) ≡ content_before oid t.tid (front ++ t ∷ [])
gives_its_own front t new oid c is e q =
    let list = front ++ t ∷ [] in
    let d : Change = voted_change list (back list t.tid c) in
    let r : ObjectRevision = record { serial = new.tid; content = d.content } in
    let some : change_in oid (voted_of list new).changes ≡ Some d = change_back list t.tid oid new t.changes e ∙ ap (option_map (λ c. voted_change list (back list t.tid c))) q in
    let now : last_or None (revisions oid (list ++ voted_of list new ∷ [])) ≡ Some r =
    ap (last_or None) (all_revisions oid list (voted_of list new) ∙ ap (λ (rs : List ObjectRevision). revisions oid list ++ rs) (changed oid (voted_of list new) d some)) ∙ last_or_push None (revisions oid list) r in
    let its : c.oid ≡ oid = change-oid oid None t.changes c (λ x f. absurd (cc)) q in
    ap (λ (o : Option ObjectRevision). option_map_or (λ (r : ObjectRevision). r.content) o Absent) now
    ∙ (taken list c.oid t.tid is).1
    ∙ ap (λ (n : ℕ). content_before n t.tid list) its

gives_back : (front : List Transaction) (t : Transaction) (new : NewTransaction) (oid : ℕ) → IsDatabase (front ++ t ∷ []) → new.changes ≡ map (back (front ++ t ∷ []) t.tid) t.changes
    → last_content oid ((front ++ t ∷ []) ++ voted_of (front ++ t ∷ []) new ∷ []) ≡ content_before oid t.tid (front ++ t ∷ [])
gives_back front t new oid is e = by_cases (change_in oid t.changes) refl
  where
    by_cases : (o : Option Change) → change_in oid t.changes ≡ o → last_content oid ((front ++ t ∷ []) ++ voted_of (front ++ t ∷ []) new ∷ []) ≡ content_before oid t.tid (front ++ t ∷ [])
    by_cases None q = gives_others front t new oid is e q
    by_cases (Some c) q = gives_its_own front t new oid c is e q

-- ---- whatever undo answers

restored_behind : (rules : MergeRules) (front : List Transaction) (t : Transaction) (result : Result (List NewChange) UndoRefusal) → IsDatabase (front ++ t ∷ []) → t.packed ≡ false → IsUndone (undone_of rules (front ++ t ∷ []) (t.tid ∷ [])) result → IsRestored (front ++ t ∷ []) result
restored_behind rules front t (Ok changes) is unpacked undone =
    let all : Ok changes ≡ Ok (map (back (front ++ t ∷ []) t.tid) t.changes) = sym undone ∙ newest_back rules front t is unpacked in
    let same : changes ≡ map (back (front ++ t ∷ []) t.tid) t.changes = cc in
    λ new oid e. gives_back front t new oid is (e ∙ same) ∙ ap (λ (n : ℕ). content_before oid n (front ++ t ∷ [])) (sym (newest-push front t))
restored_behind rules front t (Err (undo_refusal.UndoUnknown tid)) is unpacked undone =
    let no : Err (refusal.UndoUnknown tid) ≡ Ok (map (back (front ++ t ∷ []) t.tid) t.changes) = sym undone ∙ newest_back rules front t is unpacked in
    absurd (cc)
restored_behind rules front t (Err (undo_refusal.UndoPacked tid)) is unpacked undone =
    let no : Err (refusal.UndoPacked tid) ≡ Ok (map (back (front ++ t ∷ []) t.tid) t.changes) = sym undone ∙ newest_back rules front t is unpacked in
    absurd (cc)
restored_behind rules front t (Err (undo_refusal.UndoConflict oid later)) is unpacked undone =
    let no : Err (refusal.UndoConflict oid later) ≡ Ok (map (back (front ++ t ∷ []) t.tid) t.changes) = sym undone ∙ newest_back rules front t is unpacked in
    absurd (cc)
restored_behind rules front t (Err undo_refusal.ReadFault) is unpacked undone = tt
restored_behind rules front t (Err undo_refusal.Memory) is unpacked undone = tt

restored_with : (rules : MergeRules) (list : List Transaction) (tids : List ℕ) (result : Result (List NewChange) UndoRefusal) (o : Option Transaction) → last_or None list ≡ o → IsDatabase list → IsUndone (undone_of rules list tids) result → tids ≡ newest_tid list ∷ [] → IsSomeAnd o (λ t. t.packed ≡ false) → IsRestored list result
restored_with rules list tids result None last is undone alone unpacked = absurd unpacked
restored_with rules list tids result (Some t) last is undone alone unpacked =
    let parts = split_last list t last in
    let P : List Transaction → Type 0 = λ l. IsDatabase l → IsUndone (undone_of rules l tids) result → tids ≡ newest_tid l ∷ [] → IsRestored l result in
    let behind : P (parts.0 ++ t ∷ []) = λ is undone alone.
    restored_behind rules parts.0 t result is unpacked
    (subst (λ (ts : List ℕ). IsUndone (undone_of rules (parts.0 ++ t ∷ []) ts) result) (alone ∙ ap (λ (n : ℕ). n ∷ []) (newest-push parts.0 t)) undone) in
    subst P (sym parts.1) behind is undone alone

pub restored : (rules : MergeRules) (list : List Transaction) (tids : List ℕ) (result : Result (List NewChange) UndoRefusal) → IsDatabase list → IsUndone (undone_of rules list tids) result → NamesNewest list tids → IsRestored list result
restored rules list tids result is undone newest = restored_with rules list tids result (last_or None list) refl is undone newest.alone newest.unpacked
