-- How changes of the stores are taken back.
use Rattle.std.proofs.Common.{◌≡◌, ℕ, zero, suc, ◌≤◌, Bool, true, false, cond, eqb, List, [], ◌∷◌, ◌++◌, length, Option, Some, None, refl, sym, ap, subst, ◌∙◌, arith}
use Rattle.std.specs.Prelude.{take}
use Rattle.std.proofs.lemmas.List.{append_assoc, append-nil, map-append, take_all, take-append-le}
use Rattle.zb_model.specs.declared.data.Content.{Content}
use Rattle.zb_model.specs.declared.pending.PendingStore.{PendingStore}
use Rattle.zb_model.specs.declared.pending.PendingCheck.{PendingCheck}
use Rattle.commit_phases.specs.declared.pending.Extent.{Extent}
use Rattle.commit_phases.specs.Pending.{PendingChanges, excess_with, pending_of, stores_after, with_pending}
use Rattle.commit_phases.specs.Earlier.{with_content, with_contents}
use Rattle.savepoints.specs.declared.replaced.Earlier.{Earlier}
use Rattle.savepoints.specs.declared.replaced.Replaced.{Replaced}
use Rattle.savepoints.specs.declared.noting.Noted.{Noted}
use Rattle.savepoints.specs.Log.{all_taken_back, all_whole, contents_of, notes_of, taken_back, undone, whole, IsNoted, Notes}

abbrev with_earlier : PendingStore → Earlier → PendingStore
with_earlier p e = record { oid = p.oid; base = p.base; content = undone e p.content }

abbrev with_later : PendingStore → Content → PendingStore
with_later p content = record { oid = p.oid; base = p.base; content = content }

abbrev back_of : ℕ → Earlier → Replaced
back_of oid e = record { oid = oid; earlier = e }

same_store : (a b : PendingStore) → Some a ≡ Some b → a ≡ b
same_store a b e = cc

none_some : (a : PendingStore) → Some a ≡ None → {X : Type 0} (x y : X) → x ≡ y
none_some a e x y = absurd cc

-- ---- one change

-- a store that was replaced, with its earlier content
known_back : (stores : List PendingStore) (p q : PendingStore) (e : Earlier) → pending_of stores p.oid ≡ Some q → undone e p.content ≡ q.content
    → taken_back (with_pending stores p) (back_of p.oid e) ≡ stores
known_back [] p q e there back = absurd cc
known_back (s ∷ stores) p q e there back = by_cases (eqb p.oid s.oid) refl (λ some. known_back stores p q e some back) there
  where
    by_cases : (b : Bool) → eqb p.oid s.oid ≡ b → (pending_of stores p.oid ≡ Some q → taken_back (with_pending stores p) (back_of p.oid e) ≡ stores) → cond b (Some s) (pending_of stores p.oid) ≡ Some q
        → taken_back (cond b (with_later s p.content ∷ stores) (s ∷ with_pending stores p)) (back_of p.oid e) ≡ s ∷ stores
    by_cases true is rest some =
        ap (λ (b : Bool). cond b (record { oid = s.oid; base = s.base; content = undone e p.content } ∷ stores) (with_later s p.content ∷ taken_back stores (back_of p.oid e))) is
        ∙ ap (λ (c : Content). with_later s c ∷ stores) (back ∙ sym (ap (λ (x : PendingStore). x.content) (same_store s q some)))
    by_cases false is rest some = ap (λ (b : Bool). cond b (with_earlier s e ∷ with_pending stores p) (s ∷ taken_back (with_pending stores p) (back_of p.oid e))) is ∙ ap (λ (ps : List PendingStore). s ∷ ps) (rest some)

-- a store of an object that had none is the last one
new_last : (stores : List PendingStore) (p : PendingStore) → pending_of stores p.oid ≡ None → with_pending stores p ≡ stores ++ p ∷ []
new_last [] p none = refl
new_last (s ∷ stores) p none = by_cases (eqb p.oid s.oid) (λ gone. new_last stores p gone) none
  where
    by_cases : (b : Bool) → (pending_of stores p.oid ≡ None → with_pending stores p ≡ stores ++ p ∷ []) → cond b (Some s) (pending_of stores p.oid) ≡ None
        → cond b (with_later s p.content ∷ stores) (s ∷ with_pending stores p) ≡ s ∷ (stores ++ p ∷ [])
    by_cases true rest gone = none_some s gone _ _
    by_cases false rest gone = ap (λ (ps : List PendingStore). s ∷ ps) (rest gone)

-- there are no fewer then
no_fewer : (stores : List PendingStore) (p : PendingStore) → length stores ≤ length (with_pending stores p)
no_fewer [] p = omega arith
no_fewer (s ∷ stores) p = by_cases (eqb p.oid s.oid) (no_fewer stores p)
  where
    by_cases : (b : Bool) → length stores ≤ length (with_pending stores p) → length (s ∷ stores) ≤ length (cond b (with_later s p.content ∷ stores) (s ∷ with_pending stores p))
    by_cases true rest = omega arith
    by_cases false rest = omega (arith, rest)

-- ---- fronts

-- what is taken back in a front is a front of what is taken back
pub taken_front : (count : ℕ) (stores : List PendingStore) (r : Replaced) → taken_back (take count stores) r ≡ take count (taken_back stores r)
taken_front zero stores r = refl
taken_front (suc n) [] r = refl
taken_front (suc n) (s ∷ stores) r = by_cases (eqb r.oid s.oid) (taken_front n stores r)
  where
    by_cases : (b : Bool) → taken_back (take n stores) r ≡ take n (taken_back stores r)
        → cond b (with_earlier s r.earlier ∷ take n stores) (s ∷ taken_back (take n stores) r) ≡ take (suc n) (cond b (with_earlier s r.earlier ∷ stores) (s ∷ taken_back stores r))
    by_cases true rest = refl
    by_cases false rest = ap (λ (ps : List PendingStore). s ∷ ps) rest

pub all_taken_front : (count : ℕ) (stores : List PendingStore) (log : List Replaced) → all_taken_back (take count stores) log ≡ take count (all_taken_back stores log)
all_taken_front count stores [] = refl
all_taken_front count stores (r ∷ log) = ap (λ (ps : List PendingStore). taken_back ps r) (all_taken_front count stores log) ∙ taken_front count (all_taken_back stores log) r

-- the later ones are taken back first
pub all_taken_append : (stores : List PendingStore) (first later : List Replaced) → all_taken_back stores (first ++ later) ≡ all_taken_back (all_taken_back stores later) first
all_taken_append stores [] later = refl
all_taken_append stores (r ∷ first) later = ap (λ (ps : List PendingStore). taken_back ps r) (all_taken_append stores first later)

-- there are as many stores
taken_length : (stores : List PendingStore) (r : Replaced) → length (taken_back stores r) ≡ length stores
taken_length [] r = refl
taken_length (s ∷ stores) r = by_cases (eqb r.oid s.oid) (taken_length stores r)
  where
    by_cases : (b : Bool) → length (taken_back stores r) ≡ length stores → length (cond b (with_earlier s r.earlier ∷ stores) (s ∷ taken_back stores r)) ≡ length (s ∷ stores)
    by_cases true rest = refl
    by_cases false rest = ap (λ (n : ℕ). suc n) rest

pub all_taken_length : (stores : List PendingStore) (log : List Replaced) → length (all_taken_back stores log) ≡ length stores
all_taken_length stores [] = refl
all_taken_length stores (r ∷ log) = taken_length (all_taken_back stores log) r ∙ all_taken_length stores log

-- ---- notes

pub nothing_noted : (stores : List PendingStore) (log : List Replaced) → Notes stores stores log log
nothing_noted stores log = record {
  more = [];
  is = sym (append-nil log);
  longer = omega arith;
  back = λ count le. refl;
}

-- nothing was changed, and nothing noted
pub unnoted : (old new : List PendingStore) (before after : List Replaced) → new ≡ old → after ≡ before → Notes old new before after
unnoted old new before after same is = subst (λ (ps : List PendingStore). Notes old ps before after) (sym same) (subst (λ (xs : List Replaced). Notes old old before xs) (sym is) (nothing_noted old before))

pub notes_more : (first next last : List PendingStore) (before between after : List Replaced) → Notes first next before between → Notes next last between after → Notes first last before after
notes_more first next last before between after a b = record {
  more = a.more ++ b.more;
  is = b.is ∙ ap (λ (xs : List Replaced). xs ++ b.more) a.is ∙ append_assoc before a.more b.more;
  longer = omega (arith, a.longer, b.longer);
  back = λ count le.
      all_taken_append (take count last) a.more b.more
      ∙ ap (λ (ps : List PendingStore). all_taken_back ps a.more) (b.back count (omega (arith, le, a.longer)))
      ∙ a.back count le;
}

-- a store of an object that had one, whose earlier content is noted
noted_known : (stores : List PendingStore) (p q : PendingStore) (r : Replaced) (before after : List Replaced) → pending_of stores p.oid ≡ Some q → r.oid ≡ p.oid → undone r.earlier p.content ≡ q.content → after ≡ before ++ r ∷ []
    → Notes stores (with_pending stores p) before after
noted_known stores p q r before after there oid back is = record {
  more = r ∷ [];
  is = is;
  longer = no_fewer stores p;
  back = λ count le.
      taken_front count (with_pending stores p) r
      ∙ ap (λ (n : ℕ). take count (taken_back (with_pending stores p) (back_of n r.earlier))) oid
      ∙ ap (take count) (known_back stores p q r.earlier there back);
}

-- a store of an object that had none
noted_new : (stores : List PendingStore) (p : PendingStore) (log : List Replaced) → pending_of stores p.oid ≡ None → Notes stores (with_pending stores p) log log
noted_new stores p log none = record {
  more = [];
  is = sym (append-nil log);
  longer = no_fewer stores p;
  back = λ count le. ap (take count) (new_last stores p none) ∙ take-append-le count stores (p ∷ []) le;
}

pub notes_noted : (old new : List PendingStore) (p : PendingStore) (found : Option Noted) (before after : List Replaced) → IsNoted old p found → new ≡ with_pending old p → after ≡ before ++ notes_of found → Notes old new before after
notes_noted old new p None before after none is more =
    subst (λ (ps : List PendingStore). Notes old ps before after) (sym is) (subst (λ (xs : List Replaced). Notes old (with_pending old p) before xs) (sym (more ∙ append-nil before)) (noted_new old p before none))
notes_noted old new p (Some n) before after h is more =
    subst (λ (ps : List PendingStore). Notes old ps before after) (sym is) (noted_known old p h.0 n.replaced before after h.1 h.3 h.4 more)

pub contents_noted : (old new : List PendingStore) (p : PendingStore) (found : Option Noted) (before after : List (ℕ × Content)) → IsNoted old p found → new ≡ with_pending old p → after ≡ before ++ contents_of found
    → Notes old new (all_whole before) (all_whole after)
contents_noted old new p None before after none is more =
    subst (λ (ps : List PendingStore). Notes old ps (all_whole before) (all_whole after)) (sym is)
    (subst (λ (xs : List (ℕ × Content)). Notes old (with_pending old p) (all_whole before) (all_whole xs)) (sym (more ∙ append-nil before)) (noted_new old p (all_whole before) none))
contents_noted old new p (Some n) before after h is more =
    subst (λ (ps : List PendingStore). Notes old ps (all_whole before) (all_whole after)) (sym is)
    (noted_known old p h.0 (whole (n.replaced.oid, n.content)) (all_whole before) (all_whole after) h.1 h.3 h.2
    (ap all_whole more ∙ map-append whole before ((n.replaced.oid, n.content) ∷ [])))

-- ---- all or none

whole_back : (stores : List PendingStore) (e : ℕ × Content) → with_content stores e.0 e.1 ≡ taken_back stores (whole e)
whole_back [] e = refl
whole_back (s ∷ stores) e = by_cases (eqb e.0 s.oid) (whole_back stores e)
  where
    by_cases : (b : Bool) → with_content stores e.0 e.1 ≡ taken_back stores (whole e) → cond b (with_later s e.1 ∷ stores) (s ∷ with_content stores e.0 e.1) ≡ cond b (with_later s e.1 ∷ stores) (s ∷ taken_back stores (whole e))
    by_cases true rest = refl
    by_cases false rest = ap (λ (ps : List PendingStore). s ∷ ps) rest

all_whole_back : (stores : List PendingStore) (contents : List (ℕ × Content)) → with_contents stores contents ≡ all_taken_back stores (all_whole contents)
all_whole_back stores [] = refl
all_whole_back stores (e ∷ contents) = whole_back (with_contents stores contents) e ∙ ap (λ (ps : List PendingStore). taken_back ps (whole e)) (all_whole_back stores contents)

-- with the noted contents given back the front of the stores is what stood
pub given_back : (old new : List PendingStore) (contents : List (ℕ × Content)) (count : ℕ) → Notes old new [] (all_whole contents) → count ≡ length old → take count (with_contents new contents) ≡ old
given_back old new contents count n is =
    let le : count ≤ length old = omega (arith, is) in
    ap (take count) (all_whole_back new contents)
    ∙ sym (all_taken_front count new (all_whole contents))
    ∙ ap (all_taken_back (take count new)) n.is
    ∙ n.back count le
    ∙ take_all count old (omega (arith, is))

same_changes : (a b : PendingChanges) → a.stores ≡ b.stores → a.checks ≡ b.checks → a ≡ b
same_changes a b stores checks =
    let one : ◌≡◌ {A = PendingChanges} (record { stores = a.stores; checks = a.checks }) (record { stores = b.stores; checks = a.checks }) = ap (λ (ps : List PendingStore). record { stores = ps; checks = a.checks }) stores in
    let two : ◌≡◌ {A = PendingChanges} (record { stores = b.stores; checks = a.checks }) (record { stores = b.stores; checks = b.checks }) = ap (λ (cs : List PendingCheck). record { stores = b.stores; checks = cs }) checks in
    one ∙ two

-- all is pending again that was
pub all_back : (old mid new : PendingChanges) (first contents : List (ℕ × Content)) (extent : Extent) → first ≡ [] → Notes old.stores mid.stores (all_whole first) (all_whole contents) → mid.checks ≡ old.checks
    → extent.stores ≡ length old.stores → extent.checks ≡ length old.checks → new.stores ≡ take extent.stores (with_contents mid.stores contents) → new.checks ≡ take extent.checks mid.checks → new ≡ old
all_back old mid new first contents extent none notes checks stores_are checks_are new_stores new_checks =
    let from_none : Notes old.stores mid.stores [] (all_whole contents) = subst (λ (xs : List (ℕ × Content)). Notes old.stores mid.stores (all_whole xs) (all_whole contents)) none notes in
    same_changes new old (new_stores ∙ given_back old.stores mid.stores contents extent.stores from_none stores_are)
    (new_checks ∙ ap (take extent.checks) checks ∙ take_all extent.checks old.checks (omega (arith, checks_are)))

-- and the log without what was noted is the one before
pub log_before : (old new : List PendingStore) (before after : List Replaced) (count : ℕ) → Notes old new before after → count ≡ length before → take count after ≡ before
log_before old new before after count n is =
    ap (take count) n.is ∙ take-append-le count before n.more (omega (arith, is)) ∙ take_all count before (omega (arith, is))

-- ---- one after another

one_stored : (stores left : List PendingStore) (p : PendingStore) → excess_with stores p ≡ None → stores_after stores (p ∷ left) ≡ stores_after (with_pending stores p) left
one_stored stores left p e = rw e refl

-- one more of several stores waits
pub rest_stored : (first all now next items left : List PendingStore) (p : PendingStore) → items ≡ p ∷ left → excess_with now p ≡ None → next ≡ with_pending now p → stores_after first all ≡ stores_after now items
    → stores_after first all ≡ stores_after next left
rest_stored first all now next items left p is e ok rest = rest ∙ (rw (is, ok) (one_stored now left p e))
