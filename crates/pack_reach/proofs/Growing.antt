-- A marker that marks and notes.
use Rattle.std.proofs.Common.{◌≡◌, ℕ, zero, suc, add-one, get_or, ◌+◌, ◌<◌, ◌≤◌, ◌⊎◌, inl, inr, ⊎_elim, Bool, true, false, cond, ◌&&◌, eqb, List, [], ◌∷◌, ◌++◌, append-nil, length, length-append, append_assoc, take, Option, Some, None, refl, sym, ap, subst, ◌∙◌, arith}
use Rattle.std.specs.Prelude.{IfSome, IsTrue, unwrap_or, is_none, Result, Ok, Err, OnOk, OnErr}
use Rattle.std.specs.List.{AllByRecursion}
use Rattle.std.specs.Cmp.{nat_cmp_total}
use Rattle.std.specs.FinSet.{FinSet, contains, contains-empty, insert, len, len-insert, empty}
use Rattle.std.specs.Ordering.{nat_cmp}
use Rattle.std.proofs.lemmas.Bool.{both_ways, cases_Bool, or_cases, or_left, or_right, eqb-true, eq-eqb}
use Rattle.zb_model.specs.declared.data.Change.{Change}
use Rattle.zb_model.specs.declared.data.Content.{Content}
use Rattle.zb_model.specs.declared.data.Content.TheVariants.{Held, Absent}
use Rattle.zb_model.specs.declared.data.Transaction.{Transaction}
use Rattle.zb_model.specs.declared.found.Found.{Found}
use Rattle.zb_model.specs.declared.found.Found.TheVariants as found
use Rattle.pack_reach.specs.Marking.{IsChangeRead, IsFoundRead, IsNoted, IsPartlyRead, IsRead, IsSound, IsTransactionRead, MarkerState, MarksFresh, MayMark, MayRead, MayReadChange, MayReadFound, OnlyMarks, with_mark, with_marks, with_note, with_record}
use Rattle.pack_reach.specs.Reach.{IsReached, IsUnreadable, is_at_most, is_in, is_pair_in, references_of, unreadable_in}
use Rattle.pack_reach.specs.Reached.{lesser}
use Rattle.pack_reach.proofs.Least.{at_most_other, at_most_self, at_most_through, first_pair, same_pair}
use Rattle.pack_reach.specs.MemberLaws.{each_implies, each_of_all, in_back, in_either, in_front}
use Rattle.zb_model.specs.SetLaws.{in_inserted}

-- ---- a new marker

pub new_may : (named : List ℕ → Option (List ℕ)) (list : List Transaction) (t : ℕ) (s : FinSet nat_cmp) (w : List ℕ) → s ≡ empty → w ≡ [] → MayMark named list (record { tid = t; seen = t; set = s; waiting = w; unreadable = None; counted = 0 })
new_may named list t s w e f =
    let none : (oid : ℕ) → contains s oid ≡ true → ⊥ = λ oid h. no_member oid s e h in
    record {
      front = list;
      later = [];
      split = sym (append-nil list);
      above = tt;
      marks = record {
        from = omega arith;
        within = omega arith;
        reached = λ oid h. absurd (none oid h);
        noted = tt;
        read = each_of_all (λ (x : Transaction). t < x.tid → x.tid ≤ t → IsTransactionRead named (record { tid = t; seen = t; set = s; waiting = w; unreadable = None; counted = 0 }) x) (λ x l m. absurd (omega (arith, l, m))) list;
        followed = λ oid h. absurd (none oid h);
        waiting = λ oid h. absurd (no_item oid w f h);
      };
    }
  where
    no_member : (oid : ℕ) (s : FinSet nat_cmp) → s ≡ empty → contains s oid ≡ true → ⊥
    no_member oid s e h =
        let no : contains s oid ≡ false = ap (λ r. contains r oid) e ∙ contains-empty nat_cmp oid in
        both_ways (contains s oid) no h

    no_item : (oid : ℕ) (w : List ℕ) → w ≡ [] → is_in oid w ≡ true → ⊥
    no_item oid w f h =
        let no : is_in oid w ≡ false = ap (λ (xs : List ℕ). is_in oid xs) f in
        both_ways (is_in oid w) no h

-- ---- more is marked

same_fresh : (m n : MarkerState) → n.set ≡ m.set → n.waiting ≡ m.waiting → MarksFresh m n
same_fresh m n e f = record { fresh = λ o h. inl (ap (λ (s : FinSet nat_cmp). contains s o) (sym e) ∙ h); line = λ o h. inl (ap (is_in o) (sym f) ∙ h) }

pub only_same : (m : MarkerState) → OnlyMarks m m
only_same m = record { tid = refl; seen = refl; counted = refl; kept = λ o h. h; line = ([], sym (append-nil m.waiting)); marks = same_fresh m m refl refl; noted = λ p h. h; balance = refl }

-- what waits goes on waiting
pub waits_in : (a b : MarkerState) → OnlyMarks a b → (o : ℕ) → is_in o a.waiting ≡ true → is_in o b.waiting ≡ true
waits_in a b f o i = ap (is_in o) f.line.1 ∙ in_front o a.waiting f.line.0 i

pub was_not : (a b : Bool) → (a ≡ true → b ≡ true) → b ≡ false → a ≡ false
was_not true b f e = absurd (both_ways b e (f refl))
was_not false b f e = refl

fresh_then : (a b c : MarkerState) → OnlyMarks a b → OnlyMarks b c → MarksFresh a c
fresh_then a b c f g = record {
  fresh = λ o h. ⊎_elim (λ (i : IsTrue (contains b.set o)). ⊎_elim (λ (j : IsTrue (contains a.set o)). inl j) (λ (j : IsTrue (is_in o b.waiting)). inr (waits_in b c g o j)) (f.marks.fresh o i)) (λ (i : IsTrue (is_in o c.waiting)). inr i) (g.marks.fresh o h);
  line = λ o h. ⊎_elim (λ (i : IsTrue (is_in o b.waiting)). ⊎_elim (λ (j : IsTrue (is_in o a.waiting)). inl j) (λ (j : (contains a.set o ≡ false) × IsTrue (contains b.set o)). inr (j.0, g.kept o j.1)) (f.marks.line o i))
      (λ (i : (contains b.set o ≡ false) × IsTrue (contains c.set o)). inr (was_not (contains a.set o) (contains b.set o) (f.kept o) i.0, i.1)) (g.marks.line o h);
}

pub only_then : (a b c : MarkerState) → OnlyMarks a b → OnlyMarks b c → OnlyMarks a c
only_then a b c f g = record {
  tid = g.tid ∙ f.tid;
  seen = g.seen ∙ f.seen;
  counted = g.counted ∙ f.counted;
  kept = λ o h. g.kept o (f.kept o h);
  line = (f.line.0 ++ g.line.0, g.line.1 ∙ ap (λ (w : List ℕ). w ++ g.line.0) f.line.1 ∙ append_assoc a.waiting f.line.0 g.line.0);
  marks = fresh_then a b c f g;
  noted = λ p h. g.noted p (f.noted p h);
  balance = omega (arith, f.balance, g.balance);
}

pub sound_same : (named : List ℕ → Option (List ℕ)) (list : List Transaction) (m : MarkerState) → IsSound named list m m
sound_same named list m = record { fresh = λ o h. inl h; found = inl refl }

pub sound_then : (named : List ℕ → Option (List ℕ)) (list : List Transaction) (a b c : MarkerState) → OnlyMarks a b → OnlyMarks b c → IsSound named list a b → IsSound named list b c → IsSound named list a c
sound_then named list a b c f g s u = record {
  fresh = λ o h. ⊎_elim (λ (i : IsTrue (contains b.set o)).
      ⊎_elim (λ (j : IsTrue (contains a.set o)). inl j) (λ (j : IsTrue (is_in o b.waiting) × IsReached named a.tid list o). inr (waits_in b c g o j.0, j.1)) (s.fresh o i))
      (λ (i : IsTrue (is_in o c.waiting) × IsReached named b.tid list o). inr (i.0, subst (λ (t : ℕ). IsReached named t list o) f.tid i.1))
      (u.fresh o h);
  found = ⊎_elim (λ (e : c.unreadable ≡ b.unreadable).
      ⊎_elim (λ (d : b.unreadable ≡ a.unreadable). inl (e ∙ d)) (λ (d : IfSome b.unreadable (IsUnreadable named a.tid list)). inr (subst (λ (o : Option (ℕ × ℕ)). IfSome o (IsUnreadable named a.tid list)) (sym e) d)) s.found)
      (λ (e : IfSome c.unreadable (IsUnreadable named b.tid list)). inr (subst (λ (t : ℕ). IfSome c.unreadable (IsUnreadable named t list)) f.tid e))
      u.found;
}

-- ---- an object is marked

inserted_only : (m : MarkerState) (oid : ℕ) → contains m.set oid ≡ false → OnlyMarks m (record m { set = insert m.set oid; waiting = m.waiting ++ oid ∷ [] })
inserted_only m oid out = record {
  tid = refl;
  seen = refl;
  counted = refl;
  kept = λ o h. in_inserted m.set oid o ∙ or_right (eqb o oid) (contains m.set o) h;
  line = (oid ∷ [], refl);
  marks = record {
    fresh = λ o h. ⊎_elim (λ (e : eqb o oid ≡ true). inr (in_back o m.waiting (oid ∷ []) (or_left (eqb oid o) (is_in o []) (eq-eqb oid o (sym (eqb-true o oid e)))))) (λ (e : contains m.set o ≡ true). inl e)
        (or_cases (eqb o oid) (contains m.set o) (sym (in_inserted m.set oid o) ∙ h));
    line = λ o h. ⊎_elim (λ (i : is_in o m.waiting ≡ true). inl i) (λ (i : is_in o (oid ∷ []) ≡ true). inr (ap (contains m.set) (eqb-true o oid (its o i)) ∙ out, in_inserted m.set oid o ∙ or_left (eqb o oid) (contains m.set o) (its o i))) (in_either o m.waiting (oid ∷ []) h);
  };
  noted = λ p h. h;
  balance =
      let more : len (insert m.set oid) ≡ len m.set + 1 = len-insert nat_cmp_total m.set oid ∙ ap (λ (b : Bool). cond b (len m.set) (len m.set + 1)) out in
      omega (arith, more, length-append m.waiting (oid ∷ []));
}
  where
    its : (o : ℕ) → is_in o (oid ∷ []) ≡ true → eqb o oid ≡ true
    its o i = ⊎_elim (λ (e : eqb oid o ≡ true). eq-eqb o oid (sym (eqb-true oid o e))) (λ (e : is_in o [] ≡ true). absurd (cc)) (or_cases (eqb oid o) (is_in o []) i)

pub mark_only : (m : MarkerState) (oid : ℕ) → OnlyMarks m (with_mark m oid)
mark_only m oid = ⊎_elim (λ (e : contains m.set oid ≡ true). rw e (only_same m)) (λ (e : contains m.set oid ≡ false). rw e (inserted_only m oid e)) (cases_Bool (contains m.set oid))

pub mark_there : (m : MarkerState) (oid : ℕ) → contains (with_mark m oid).set oid ≡ true
mark_there m oid =
    ⊎_elim (λ (e : contains m.set oid ≡ true). rw e e) (λ (e : contains m.set oid ≡ false). rw e (in_inserted m.set oid oid ∙ or_left (eqb oid oid) (contains m.set oid) (eq-eqb oid oid refl))) (cases_Bool (contains m.set oid))

inserted_sound : (named : List ℕ → Option (List ℕ)) (list : List Transaction) (m : MarkerState) (oid : ℕ) → IsReached named m.tid list oid → IsSound named list m (record m { set = insert m.set oid; waiting = m.waiting ++ oid ∷ [] })
inserted_sound named list m oid r = record {
  fresh = λ o h. ⊎_elim (λ (e : eqb o oid ≡ true).
      let same : oid ≡ o = sym (eqb-true o oid e) in
      inr (in_back o m.waiting (oid ∷ []) (or_left (eqb oid o) (is_in o []) (eq-eqb oid o same)), subst (IsReached named m.tid list) same r))
      (λ (e : contains m.set o ≡ true). inl e)
      (or_cases (eqb o oid) (contains m.set o) (sym (in_inserted m.set oid o) ∙ h));
  found = inl refl;
}

pub mark_sound : (named : List ℕ → Option (List ℕ)) (list : List Transaction) (m : MarkerState) (oid : ℕ) → IsReached named m.tid list oid → IsSound named list m (with_mark m oid)
mark_sound named list m oid r = ⊎_elim (λ (e : contains m.set oid ≡ true). rw e (sound_same named list m)) (λ (e : contains m.set oid ≡ false). rw e (inserted_sound named list m oid r)) (cases_Bool (contains m.set oid))

-- ---- objects are marked

pub marks_only : (m : MarkerState) (oids : List ℕ) → OnlyMarks m (with_marks m oids)
marks_only m [] = only_same m
marks_only m (oid ∷ oids) = only_then m (with_mark m oid) (with_marks (with_mark m oid) oids) (mark_only m oid) (marks_only (with_mark m oid) oids)

pub marks_there : (m : MarkerState) (oids : List ℕ) (n : ℕ) → is_in n oids ≡ true → contains (with_marks m oids).set n ≡ true
marks_there m [] n i = absurd (cc)
marks_there m (oid ∷ oids) n i =
    ⊎_elim (λ (e : eqb oid n ≡ true). (marks_only (with_mark m oid) oids).kept n (subst (λ (o : ℕ). contains (with_mark m oid).set o ≡ true) (eqb-true oid n e) (mark_there m oid)))
    (λ (j : is_in n oids ≡ true). marks_there (with_mark m oid) oids n j)
    (or_cases (eqb oid n) (is_in n oids) i)

pub marks_sound : (named : List ℕ → Option (List ℕ)) (list : List Transaction) (m : MarkerState) (oids : List ℕ) → ((n : ℕ) → is_in n oids ≡ true → IsReached named m.tid list n) → IsSound named list m (with_marks m oids)
marks_sound named list m [] are = sound_same named list m
marks_sound named list m (oid ∷ oids) are =
    let first : IsReached named m.tid list oid = are oid (or_left (eqb oid oid) (is_in oid oids) (eq-eqb oid oid refl)) in
    let one = mark_only m oid in
    sound_then named list m (with_mark m oid) (with_marks (with_mark m oid) oids) one (marks_only (with_mark m oid) oids) (mark_sound named list m oid first)
    (marks_sound named list (with_mark m oid) oids (λ n i. subst (λ (t : ℕ). IsReached named t list n) (sym one.tid) (are n (or_right (eqb oid n) (is_in n oids) i))))

-- ---- a record that can't be read is noted

lesser_notes : (p q : ℕ × ℕ) (o : Option (ℕ × ℕ)) → IsNoted o q → IsNoted (lesser p o) q
lesser_notes p q None h = absurd h
lesser_notes p q (Some m) h = ⊎_elim (λ (e : is_at_most m p ≡ true). rw e h) (λ (e : is_at_most m p ≡ false). rw e (at_most_through p m q (at_most_other p m e) h)) (cases_Bool (is_at_most m p))

lesser_noted : (p : ℕ × ℕ) (o : Option (ℕ × ℕ)) → IsNoted (lesser p o) p
lesser_noted p None = at_most_self p
lesser_noted p (Some m) = ⊎_elim (λ (e : is_at_most m p ≡ true). rw e e) (λ (e : is_at_most m p ≡ false). rw e (at_most_self p)) (cases_Bool (is_at_most m p))

lesser_found : (P : ℕ × ℕ → Type 0) (p : ℕ × ℕ) (o : Option (ℕ × ℕ)) → P p → (lesser p o ≡ o) ⊎ IfSome (lesser p o) P
lesser_found P p None h = inr h
lesser_found P p (Some m) h = ⊎_elim (λ (e : is_at_most m p ≡ true). rw e (inl refl)) (λ (e : is_at_most m p ≡ false). rw e (inr h)) (cases_Bool (is_at_most m p))

pub note_only : (m : MarkerState) (p : ℕ × ℕ) → OnlyMarks m (with_note m p)
note_only m p = record { tid = refl; seen = refl; counted = refl; kept = λ o h. h; line = ([], sym (append-nil m.waiting)); marks = same_fresh m (with_note m p) refl refl; noted = λ q h. lesser_notes p q m.unreadable h; balance = refl }

pub note_sound : (named : List ℕ → Option (List ℕ)) (list : List Transaction) (m : MarkerState) (p : ℕ × ℕ) → IsUnreadable named m.tid list p → IsSound named list m (with_note m p)
note_sound named list m p u = record { fresh = λ o h. inl h; found = lesser_found (IsUnreadable named m.tid list) p m.unreadable u }

-- ---- a record is read

pub record_only : (names : Option (List ℕ)) (m : MarkerState) (oid serial : ℕ) → OnlyMarks m (with_record names m oid serial)
record_only None m oid serial = note_only m (oid, serial)
record_only (Some oids) m oid serial = marks_only m oids

-- what reading a record needs, by what it names
abbrev MayReadAs : Option (List ℕ) → (List ℕ → Option (List ℕ)) → ℕ → List Transaction → ℕ × ℕ → Type 0
MayReadAs None named t list p = IsUnreadable named t list p
MayReadAs (Some oids) named t list p = (n : ℕ) → is_in n oids ≡ true → IsReached named t list n

may_as : (named : List ℕ → Option (List ℕ)) (t : ℕ) (list : List Transaction) (oid serial : ℕ) (bytes : List ℕ) (names : Option (List ℕ)) → named bytes ≡ names → MayRead named t list oid serial (Held bytes) → MayReadAs names named t list (oid, serial)
may_as named t list oid serial bytes None e may =
    let listed : unreadable_in named oid serial (Held bytes) ≡ (oid, serial) ∷ [] = ap (λ (o : Option (List ℕ)). cond (is_none o) ((oid, serial) ∷ []) []) e in
    may.unreadable (oid, serial) (ap (is_pair_in (oid, serial)) listed ∙ first_pair (oid, serial) [])
may_as named t list oid serial bytes (Some oids) e may = λ n i. may.names n (ap (λ (o : Option (List ℕ)). is_in n (unwrap_or o [])) e ∙ i)

record_sound_as : (named : List ℕ → Option (List ℕ)) (list : List Transaction) (names : Option (List ℕ)) (m : MarkerState) (oid serial : ℕ) → MayReadAs names named m.tid list (oid, serial) → IsSound named list m (with_record names m oid serial)
record_sound_as named list None m oid serial may = note_sound named list m (oid, serial) may
record_sound_as named list (Some oids) m oid serial may = marks_sound named list m oids may

pub record_sound : (named : List ℕ → Option (List ℕ)) (list : List Transaction) (m : MarkerState) (oid serial : ℕ) (bytes : List ℕ) → MayRead named m.tid list oid serial (Held bytes) → IsSound named list m (with_record (named bytes) m oid serial)
record_sound named list m oid serial bytes may = record_sound_as named list (named bytes) m oid serial (may_as named m.tid list oid serial bytes (named bytes) refl may)

partly_only_as : (names : Option (List ℕ)) (old new : MarkerState) → IsPartlyRead names old new → OnlyMarks old new
partly_only_as None old new e = subst (OnlyMarks old) (sym e) (only_same old)
partly_only_as (Some oids) old new part = subst (OnlyMarks old) (sym part.3) (marks_only old part.0)

pub partly_only : (names : Option (List ℕ)) (old new : MarkerState) → IsPartlyRead names old new → OnlyMarks old new
partly_only names old new part = partly_only_as names old new part

partly_sound_as : (named : List ℕ → Option (List ℕ)) (list : List Transaction) (names : Option (List ℕ)) (old new : MarkerState) (p : ℕ × ℕ) → MayReadAs names named old.tid list p → IsPartlyRead names old new → IsSound named list old new
partly_sound_as named list None old new p may e = subst (IsSound named list old) (sym e) (sound_same named list old)
partly_sound_as named list (Some oids) old new p may part =
    subst (IsSound named list old) (sym part.3) (marks_sound named list old part.0 (λ n i. may n (ap (is_in n) part.2 ∙ in_front n part.0 part.1 i)))

pub partly_sound : (named : List ℕ → Option (List ℕ)) (list : List Transaction) (old new : MarkerState) (oid serial : ℕ) (bytes : List ℕ) → MayRead named old.tid list oid serial (Held bytes) → IsPartlyRead (named bytes) old new → IsSound named list old new
partly_sound named list old new oid serial bytes may part = partly_sound_as named list (named bytes) old new (oid, serial) (may_as named old.tid list oid serial bytes (named bytes) refl may) part

record_read_as : (named : List ℕ → Option (List ℕ)) (m : MarkerState) (oid serial : ℕ) (bytes : List ℕ) (names : Option (List ℕ)) → named bytes ≡ names → IsRead named (with_record names m oid serial) oid serial (Held bytes)
record_read_as named m oid serial bytes None e =
    let none : references_of named (Held bytes) ≡ [] = ap (λ (o : Option (List ℕ)). unwrap_or o []) e in
    let listed : unreadable_in named oid serial (Held bytes) ≡ (oid, serial) ∷ [] = ap (λ (o : Option (List ℕ)). cond (is_none o) ((oid, serial) ∷ []) []) e in
    record {
      marked = λ n i. absurd (no_item n (sym (ap (is_in n) none) ∙ i));
      noted = λ p i. one p (sym (ap (is_pair_in p) listed) ∙ i);
    }
  where
    no_item : (n : ℕ) → is_in n [] ≡ true → ⊥
    no_item n i = absurd (cc)

    one : (p : ℕ × ℕ) → is_pair_in p ((oid, serial) ∷ []) ≡ true → IsNoted (lesser (oid, serial) m.unreadable) p
    one p i =
        ⊎_elim (λ (e : (eqb oid p.0 && eqb serial p.1) ≡ true). subst (IsNoted (lesser (oid, serial) m.unreadable)) (same_pair p (oid, serial) e) (lesser_noted (oid, serial) m.unreadable)) (λ (j : is_pair_in p [] ≡ true). absurd (cc))
        (or_cases (eqb oid p.0 && eqb serial p.1) (is_pair_in p []) i)
record_read_as named m oid serial bytes (Some oids) e =
    let names : references_of named (Held bytes) ≡ oids = ap (λ (o : Option (List ℕ)). unwrap_or o []) e in
    let listed : unreadable_in named oid serial (Held bytes) ≡ [] = ap (λ (o : Option (List ℕ)). cond (is_none o) ((oid, serial) ∷ []) []) e in
    record {
      marked = λ n i. marks_there m oids n (sym (ap (is_in n) names) ∙ i);
      noted = λ p i. absurd (no_pair p (sym (ap (is_pair_in p) listed) ∙ i));
    }
  where
    no_pair : (p : ℕ × ℕ) → is_pair_in p [] ≡ true → ⊥
    no_pair p i = absurd (cc)

pub record_read : (named : List ℕ → Option (List ℕ)) (m : MarkerState) (oid serial : ℕ) (bytes : List ℕ) → IsRead named (with_record (named bytes) m oid serial) oid serial (Held bytes)
record_read named m oid serial bytes = record_read_as named m oid serial bytes (named bytes) refl

pub absent_read : (named : List ℕ → Option (List ℕ)) (m : MarkerState) (oid serial : ℕ) → IsRead named m oid serial Absent
absent_read named m oid serial = record { marked = λ n i. absurd (cc); noted = λ p i. absurd (cc) }

-- what is read stays read where more is marked and noted
pub read_carried : (named : List ℕ → Option (List ℕ)) (a b : MarkerState) (oid serial : ℕ) (content : Content) → ((o : ℕ) → contains a.set o ≡ true → contains b.set o ≡ true) → ((p : ℕ × ℕ) → IsNoted a.unreadable p → IsNoted b.unreadable p)
    → IsRead named a oid serial content → IsRead named b oid serial content
read_carried named a b oid serial content kept noted r = record { marked = λ n i. kept n (r.marked n i); noted = λ p i. noted p (r.noted p i) }

pub transaction_carried : (named : List ℕ → Option (List ℕ)) (a b : MarkerState) (x : Transaction) → ((o : ℕ) → contains a.set o ≡ true → contains b.set o ≡ true) → ((p : ℕ × ℕ) → IsNoted a.unreadable p → IsNoted b.unreadable p)
    → IsTransactionRead named a x → IsTransactionRead named b x
transaction_carried named a b x kept noted r =
    each_implies (IsChangeRead named a x.tid) (IsChangeRead named b x.tid) (λ c h. (kept c.oid h.0, read_carried named a b c.oid x.tid c.content kept noted h.1)) x.changes r

pub change_kept : (named : List ℕ → Option (List ℕ)) (a b : MarkerState) (tid : ℕ) (c : Change) → OnlyMarks a b → IsChangeRead named a tid c → IsChangeRead named b tid c
change_kept named a b tid c f r = (f.kept c.oid r.0, read_carried named a b c.oid tid c.content f.kept f.noted r.1)

-- ---- a change is read

-- of an object that is gone, its mark is all
pub absent_change : (named : List ℕ → Option (List ℕ)) (m : MarkerState) (tid oid : ℕ) → IsChangeRead named (with_mark m oid) tid (record { oid = oid; content = Absent })
absent_change named m tid oid = (mark_there m oid, absent_read named (with_mark m oid) oid tid)

pub held_change : (named : List ℕ → Option (List ℕ)) (m : MarkerState) (tid oid : ℕ) (bytes : List ℕ) → IsChangeRead named (with_record (named bytes) (with_mark m oid) oid tid) tid (record { oid = oid; content = Held bytes })
held_change named m tid oid bytes =
    ((record_only (named bytes) (with_mark m oid) oid tid).kept oid (mark_there m oid), record_read named (with_mark m oid) oid tid bytes)

-- ---- whichever way a call ended

pub on_err : {T E P : Type 0} (r : Result T E) → P → OnErr r P
on_err (Ok x) p = tt
on_err (Err e) p = p

pub any_only : {T E : Type 0} (r : Result T E) (names : Option (List ℕ)) (a b : MarkerState) (oid serial : ℕ) → OnOk r (b ≡ with_record names a oid serial) → OnErr r (IsPartlyRead names a b) → OnlyMarks a b
any_only (Ok x) names a b oid serial ok err = subst (OnlyMarks a) (sym ok) (record_only names a oid serial)
any_only (Err e) names a b oid serial ok err = partly_only names a b err

pub any_sound : {T E : Type 0} (r : Result T E) (named : List ℕ → Option (List ℕ)) (list : List Transaction) (a b : MarkerState) (oid serial : ℕ) (bytes : List ℕ) → MayRead named a.tid list oid serial (Held bytes)
    → OnOk r (b ≡ with_record (named bytes) a oid serial) → OnErr r (IsPartlyRead (named bytes) a b) → IsSound named list a b
any_sound (Ok x) named list a b oid serial bytes may ok err = subst (IsSound named list a) (sym ok) (record_sound named list a oid serial bytes may)
any_sound (Err e) named list a b oid serial bytes may ok err = partly_sound named list a b oid serial bytes may err

pub held_only : {T E : Type 0} (r : Result T E) (names : Option (List ℕ)) (a m b : MarkerState) (oid tid : ℕ) → m ≡ with_mark a oid → OnOk r (b ≡ with_record names m oid tid) → OnErr r (IsPartlyRead names m b) → OnlyMarks a b
held_only r names a m b oid tid e ok err = only_then a m b (subst (OnlyMarks a) (sym e) (mark_only a oid)) (any_only r names m b oid tid ok err)

pub held_sound : {T E : Type 0} (r : Result T E) (named : List ℕ → Option (List ℕ)) (list : List Transaction) (a m b : MarkerState) (tid : ℕ) (c : Change) (bytes : List ℕ) → c.content ≡ Held bytes → m ≡ with_mark a c.oid → MayReadChange named a.tid list tid c
    → OnOk r (b ≡ with_record (named bytes) m c.oid tid) → OnErr r (IsPartlyRead (named bytes) m b) → IsSound named list a b
held_sound r named list a m b tid c bytes held e may ok err =
    let one : OnlyMarks a m = subst (OnlyMarks a) (sym e) (mark_only a c.oid) in
    let first : IsSound named list a m = subst (IsSound named list a) (sym e) (mark_sound named list a c.oid may.0) in
    let of_record : MayRead named m.tid list c.oid tid (Held bytes) =
    subst (λ (t : ℕ). MayRead named t list c.oid tid (Held bytes)) (sym one.tid) (subst (MayRead named a.tid list c.oid tid) held may.1) in
    sound_then named list a m b one (any_only r (named bytes) m b c.oid tid ok err) first (any_sound r named list m b c.oid tid bytes of_record ok err)

pub held_read : {T E : Type 0} (r : Result T E) (named : List ℕ → Option (List ℕ)) (a m b : MarkerState) (tid : ℕ) (c : Change) (bytes : List ℕ) → c.content ≡ Held bytes → m ≡ with_mark a c.oid → OnOk r (b ≡ with_record (named bytes) m c.oid tid) → OnOk r (IsChangeRead named b tid c)
held_read (Ok x) named a m b tid c bytes held e ok =
    let there : contains m.set c.oid ≡ true = ap (λ (s : MarkerState). contains s.set c.oid) e ∙ mark_there a c.oid in
    let state : b ≡ with_record (named bytes) m c.oid tid = ok in
    (ap (λ (s : MarkerState). contains s.set c.oid) state ∙ (record_only (named bytes) m c.oid tid).kept c.oid there, subst (IsRead named b c.oid tid) (sym held) (subst (λ (s : MarkerState). IsRead named s c.oid tid (Held bytes)) (sym state) (record_read named m c.oid tid bytes)))
held_read (Err e) named a m b tid c bytes held q ok = tt

pub absent_sound : (named : List ℕ → Option (List ℕ)) (list : List Transaction) (a m : MarkerState) (tid : ℕ) (c : Change) → m ≡ with_mark a c.oid → MayReadChange named a.tid list tid c → IsSound named list a m
absent_sound named list a m tid c e may = subst (IsSound named list a) (sym e) (mark_sound named list a c.oid may.0)

pub absent_is_read : (named : List ℕ → Option (List ℕ)) (a m : MarkerState) (tid : ℕ) (c : Change) → c.content ≡ Absent → m ≡ with_mark a c.oid → IsChangeRead named m tid c
absent_is_read named a m tid c gone e = (ap (λ (s : MarkerState). contains s.set c.oid) e ∙ mark_there a c.oid, subst (IsRead named m c.oid tid) (sym gone) (absent_read named m c.oid tid))

pub any_read : {T E : Type 0} (r : Result T E) (named : List ℕ → Option (List ℕ)) (a b : MarkerState) (oid serial : ℕ) (bytes : List ℕ) → OnOk r (b ≡ with_record (named bytes) a oid serial) → OnOk r (IsRead named b oid serial (Held bytes))
any_read (Ok x) named a b oid serial bytes ok = subst (λ (s : MarkerState). IsRead named s oid serial (Held bytes)) (sym ok) (record_read named a oid serial bytes)
any_read (Err e) named a b oid serial bytes ok = tt

-- ---- what was found is read

pub found_sound : {T E : Type 0} (r : Result T E) (named : List ℕ → Option (List ℕ)) (list : List Transaction) (a b : MarkerState) (oid serial : ℕ) (bytes s : List ℕ) (end : Option ℕ) (f : Found) → f ≡ found.Held serial bytes end → s ≡ bytes
    → MayReadFound named a.tid list oid f → OnOk r (b ≡ with_record (named s) a oid serial) → OnErr r (IsPartlyRead (named s) a b) → IsSound named list a b
found_sound r named list a b oid serial bytes s end f e q may ok err =
    let as_held : MayRead named a.tid list oid serial (Held bytes) = subst (MayReadFound named a.tid list oid) e may in
    any_sound r named list a b oid serial s (subst (λ (bs : List ℕ). MayRead named a.tid list oid serial (Held bs)) (sym q) as_held) ok err

read_held : {T E : Type 0} (r : Result T E) (named : List ℕ → Option (List ℕ)) (b : MarkerState) (oid serial : ℕ) (bytes : List ℕ) (end : Option ℕ) (f : Found) → f ≡ found.Held serial bytes end → OnOk r (IsRead named b oid serial (Held bytes)) → OnOk r (IsFoundRead named b oid f)
read_held (Ok x) named b oid serial bytes end f e ok = subst (IsFoundRead named b oid) (sym e) ok
read_held (Err x) named b oid serial bytes end f e ok = tt

pub found_read : {T E : Type 0} (r : Result T E) (named : List ℕ → Option (List ℕ)) (a b : MarkerState) (oid serial : ℕ) (bytes s : List ℕ) (end : Option ℕ) (f : Found) → f ≡ found.Held serial bytes end → s ≡ bytes
    → OnOk r (b ≡ with_record (named s) a oid serial) → OnOk r (IsFoundRead named b oid f)
found_read {T} {E} r named a b oid serial bytes s end f e q ok = read_held r named b oid serial bytes end f e (subst (λ (bs : List ℕ). OnOk r (IsRead named b oid serial (Held bs))) q (any_read r named a b oid serial s ok))

-- ---- items at a place

pub each_at : {X : Type 0} (P : X → Type 0) (xs : List X) (i : ℕ) (x : X) → AllByRecursion P xs → i < length xs → x ≡ get_or xs i x → P x
each_at P xs i x all l e = subst P (sym e) (placed P xs i x all l)
  where
    placed : {X : Type 0} (P : X → Type 0) (xs : List X) (i : ℕ) (x : X) → AllByRecursion P xs → i < length xs → P (get_or xs i x)
    placed P [] i x all l = absurd (omega (arith, l))
    placed P (y ∷ ys) zero x all l = all.0
    placed P (y ∷ ys) (suc i) x all l = placed P ys i x all.1 (omega (arith, l))

pub each_more : {X : Type 0} (P : X → Type 0) (xs : List X) (i : ℕ) (x : X) → AllByRecursion P (take i xs) → i < length xs → x ≡ get_or xs i x → P x → AllByRecursion P (take (i + 1) xs)
each_more P xs i x all l e p = rw add-one (placed P xs i x all l (subst P e p))
  where
    placed : {X : Type 0} (P : X → Type 0) (xs : List X) (i : ℕ) (x : X) → AllByRecursion P (take i xs) → i < length xs → P (get_or xs i x) → AllByRecursion P (take (suc i) xs)
    placed P [] i x all l p = absurd (omega (arith, l))
    placed P (y ∷ ys) zero x all l p = (p, tt)
    placed P (y ∷ ys) (suc i) x all l p = (all.0, placed P ys i x all.1 (omega (arith, l)) p)
