-- Marks in what is pending and in its log.
use Rattle.std.proofs.Common.{◌≡◌, ℕ, zero, suc, ◌+◌, ◌≤◌, Bool, true, not, List, [], ◌∷◌, ◌++◌, length, map, Some, refl, sym, ap, subst, ◌∙◌, arith}
use Rattle.std.specs.Prelude.{take, drop, slice_get, ◌==◌}
use Rattle.std.proofs.lemmas.Bool.{ne_eqb}
use Rattle.std.proofs.lemmas.List.{drop-append-le, drop_all, length-append, map-append, take-append-drop, take-append-le, take-take, take_all, length-take}
use Rattle.zb_model.specs.declared.pending.PendingStore.{PendingStore}
use Rattle.zb_model.specs.declared.pending.PendingCheck.{PendingCheck}
use Rattle.commit_phases.specs.Pending.{PendingChanges, AreStores, size_of_stores}
use Rattle.savepoints.specs.declared.replaced.Mark.{Mark}
use Rattle.savepoints.specs.declared.replaced.Replaced.{Replaced}
use Rattle.savepoints.specs.Log.{all_taken_back, end_mark, first_mark, saved_all, saved_at, AreMarked, AreMarks, AreRising, IsBefore, IsMarked, Notes, NotesIf}
use Rattle.savepoints.proofs.Undoing.{all_taken_append, all_taken_front, all_taken_length}

-- ---- marks one after another

before_before : (a b c : Mark) → IsBefore a b → IsBefore b c → IsBefore a c
before_before a b c p q = record { log = omega (arith, p.log, q.log); stores = omega (arith, p.stores, q.stores); checks = omega (arith, p.checks, q.checks) }

low_below : (low : Mark) (marks : List Mark) (top : Mark) → AreRising low marks top → IsBefore low top
low_below low [] top h = h
low_below low (m ∷ marks) top h = before_before low m top h.0 (low_below m marks top h.1)

rising_more : (low : Mark) (marks : List Mark) (top more : Mark) → AreRising low marks top → IsBefore top more → AreRising low marks more
rising_more low [] top more h up = before_before low top more h up
rising_more low (m ∷ marks) top more h up = (h.0, rising_more m marks top more h.1 up)

rising_push : (low : Mark) (marks : List Mark) (top mark : Mark) → AreRising low marks top → IsBefore top mark → IsBefore mark top → AreRising low (marks ++ mark ∷ []) top
rising_push low [] top mark h up down = (before_before low top mark h up, down)
rising_push low (m ∷ marks) top mark h up down = (h.0, rising_push m marks top mark h.1 up down)

-- two ways of saving agree for marks up to here
same_saved : (low : Mark) (marks : List Mark) (top : Mark) (f g : Mark → PendingChanges) → AreRising low marks top → ((m : Mark) → IsBefore m top → f m ≡ g m) → map f marks ≡ map g marks
same_saved low [] top f g h same = refl
same_saved low (m ∷ marks) top f g h same =
    ap (λ (p : PendingChanges). p ∷ map f marks) (same m (low_below m marks top h.1)) ∙ ap (λ (ps : List PendingChanges). g m ∷ ps) (same_saved m marks top f g h.1 same)

-- ---- a change

abbrev pending_as : List PendingStore → List PendingCheck → PendingChanges
pending_as stores checks = record { stores = stores; checks = checks }

saved_noted : (old new : PendingChanges) (before after : List Replaced) (m : Mark) → Notes old.stores new.stores before after → new.checks ≡ old.checks → IsBefore m (end_mark old before) → saved_at new after m ≡ saved_at old before m
saved_noted old new before after m n checks b =
    let count : ℕ = m.extent.stores in
    let stores : all_taken_back (take count new.stores) (drop m.log after) ≡ all_taken_back (take count old.stores) (drop m.log before) =
    ap (λ (log : List Replaced). all_taken_back (take count new.stores) (drop m.log log)) n.is
    ∙ ap (all_taken_back (take count new.stores)) (drop-append-le m.log before n.more b.log)
    ∙ all_taken_append (take count new.stores) (drop m.log before) n.more
    ∙ ap (λ (ps : List PendingStore). all_taken_back ps (drop m.log before)) (n.back count b.stores) in
    ap (λ (ps : List PendingStore). pending_as ps (take m.extent.checks new.checks)) stores
    ∙ ap (λ (cs : List PendingCheck). pending_as (all_taken_back (take count old.stores) (drop m.log before)) (take m.extent.checks cs)) checks

ends_noted : (old new : PendingChanges) (before after : List Replaced) → Notes old.stores new.stores before after → new.checks ≡ old.checks → IsBefore (end_mark old before) (end_mark new after)
ends_noted old new before after n checks = record {
  log = omega (arith, ap (λ (log : List Replaced). length log) n.is, length-append before n.more);
  stores = n.longer;
  checks = omega (arith, ap (λ (cs : List PendingCheck). length cs) checks);
}

no_marks : (pending : PendingChanges) (log : List Replaced) → AreMarks pending log []
no_marks pending log = record { rising = record { log = omega arith; stores = omega arith; checks = omega arith }; marked = tt }

some_marks : (n : ℕ) → not (suc n == 0) ≡ true
some_marks n = ap not (ne_eqb (suc n) 0 (λ e. cc))

-- a change that is noted where something is saved: all that was saved stays
pub saved_kept : (old new : PendingChanges) (before after : List Replaced) (marks : List Mark) (is_saved : Bool) → AreMarks old before marks → is_saved ≡ not (length marks == 0) → NotesIf is_saved old.stores new.stores before after → new.checks ≡ old.checks
    → saved_all new after marks ≡ saved_all old before marks
saved_kept old new before after [] is_saved are saved n checks = refl
saved_kept old new before after (m ∷ marks) is_saved are saved n checks =
    let notes : Notes old.stores new.stores before after = subst (λ (b : Bool). NotesIf b old.stores new.stores before after) (saved ∙ some_marks (length marks)) n in
    same_saved first_mark (m ∷ marks) (end_mark old before) (saved_at new after) (saved_at old before) are.rising (λ x b. saved_noted old new before after x notes checks b)

pub marks_kept : (old new : PendingChanges) (before after : List Replaced) (marks : List Mark) (is_saved : Bool) → AreMarks old before marks → is_saved ≡ not (length marks == 0) → NotesIf is_saved old.stores new.stores before after → new.checks ≡ old.checks
    → AreMarks new after marks
marks_kept old new before after [] is_saved are saved n checks = no_marks new after
marks_kept old new before after (m ∷ marks) is_saved are saved n checks =
    let notes : Notes old.stores new.stores before after = subst (λ (b : Bool). NotesIf b old.stores new.stores before after) (saved ∙ some_marks (length marks)) n in
    record {
      rising = rising_more first_mark (m ∷ marks) (end_mark old before) (end_mark new after) are.rising (ends_noted old new before after notes checks);
      marked = subst (AreMarked (m ∷ marks)) (sym (saved_kept old new before after (m ∷ marks) is_saved are saved n checks)) are.marked;
    }

-- ---- a check

saved_check : (old new : PendingChanges) (log : List Replaced) (check : PendingCheck) (m : Mark) → new.stores ≡ old.stores → new.checks ≡ old.checks ++ check ∷ [] → IsBefore m (end_mark old log) → saved_at new log m ≡ saved_at old log m
saved_check old new log check m stores checks b =
    ap (λ (ps : List PendingStore). pending_as (all_taken_back (take m.extent.stores ps) (drop m.log log)) (take m.extent.checks new.checks)) stores
    ∙ ap (pending_as (all_taken_back (take m.extent.stores old.stores) (drop m.log log))) (ap (take m.extent.checks) checks ∙ take-append-le m.extent.checks old.checks (check ∷ []) b.checks)

pub saved_checked : (old new : PendingChanges) (log : List Replaced) (marks : List Mark) (check : PendingCheck) → AreMarks old log marks → new.stores ≡ old.stores → new.checks ≡ old.checks ++ check ∷ [] → saved_all new log marks ≡ saved_all old log marks
saved_checked old new log marks check are stores checks =
    same_saved first_mark marks (end_mark old log) (saved_at new log) (saved_at old log) are.rising (λ m b. saved_check old new log check m stores checks b)

pub marks_checked : (old new : PendingChanges) (log : List Replaced) (marks : List Mark) (check : PendingCheck) → AreMarks old log marks → new.stores ≡ old.stores → new.checks ≡ old.checks ++ check ∷ [] → AreMarks new log marks
marks_checked old new log marks check are stores checks = record {
  rising = rising_more first_mark marks (end_mark old log) (end_mark new log) are.rising (record {
    log = omega arith;
    stores = omega (arith, ap (λ (ps : List PendingStore). length ps) stores);
    checks = omega (arith, ap (λ (cs : List PendingCheck). length cs) checks, length-append old.checks (check ∷ []));
  });
  marked = subst (AreMarked marks) (sym (saved_checked old new log marks check are stores checks)) are.marked;
}

-- ---- a savepoint

-- a mark at the end of the log
pub record IsHere (pending : PendingChanges) (log : List Replaced) (m : Mark) : Type 0 where
  pub at : m.log ≡ length log
  pub stores : m.extent.stores ≡ length pending.stores
  pub checks : m.extent.checks ≡ length pending.checks

saved_here : (pending : PendingChanges) (log : List Replaced) (m : Mark) → IsHere pending log m → saved_at pending log m ≡ pending
saved_here pending log m h =
    ap (λ (ps : List PendingStore). pending_as (all_taken_back ps (drop m.log log)) (take m.extent.checks pending.checks)) (take_all m.extent.stores pending.stores (omega (arith, h.stores)))
    ∙ ap (λ (l : List Replaced). pending_as (all_taken_back pending.stores l) (take m.extent.checks pending.checks)) (drop_all m.log log (omega (arith, h.at)))
    ∙ ap (pending_as pending.stores) (take_all m.extent.checks pending.checks (omega (arith, h.checks)))

marked_more : (marks : List Mark) (saved : List PendingChanges) (m : Mark) (p : PendingChanges) → length marks ≡ length saved → AreMarked marks saved → IsMarked m p → AreMarked (marks ++ m ∷ []) (saved ++ p ∷ [])
marked_more [] [] m p same are one = (one, tt)
marked_more [] (s ∷ saved) m p same are one = absurd cc
marked_more (x ∷ marks) [] m p same are one = absurd are
marked_more (x ∷ marks) (s ∷ saved) m p same are one = (are.0, marked_more marks saved m p (omega (arith, same)) are.1 one)

length_saved : (f : Mark → PendingChanges) (marks : List Mark) → length marks ≡ length (map f marks)
length_saved f [] = refl
length_saved f (m ∷ marks) = ap (λ (n : ℕ). suc n) (length_saved f marks)

pub saved_more : (pending : PendingChanges) (log : List Replaced) (marks now : List Mark) (m : Mark) → now ≡ marks ++ m ∷ [] → m.log ≡ length log → m.extent.stores ≡ length pending.stores → m.extent.checks ≡ length pending.checks
    → saved_all pending log now ≡ saved_all pending log marks ++ pending ∷ []
saved_more pending log marks now m is at stores checks =
    ap (saved_all pending log) is
    ∙ map-append (saved_at pending log) marks (m ∷ [])
    ∙ ap (λ (p : PendingChanges). saved_all pending log marks ++ p ∷ []) (saved_here pending log m (record { at = at; stores = stores; checks = checks }))

pub marks_saved : (pending : PendingChanges) (log : List Replaced) (marks now : List Mark) (m : Mark) → AreMarks pending log marks → now ≡ marks ++ m ∷ [] → m.log ≡ length log → m.extent.stores ≡ length pending.stores → m.extent.checks ≡ length pending.checks
    → m.extent.size ≡ size_of_stores pending.stores → AreStores pending.stores → AreMarks pending log now
marks_saved pending log marks now m are is at stores checks size all = record {
  rising = subst (λ (ms : List Mark). AreRising first_mark ms (end_mark pending log)) (sym is) (rising_push first_mark marks (end_mark pending log) m are.rising
      (record { log = omega (arith, at); stores = omega (arith, stores); checks = omega (arith, checks) })
      (record { log = omega (arith, at); stores = omega (arith, stores); checks = omega (arith, checks) }));
  marked = subst (λ (ps : List PendingChanges). AreMarked now ps) (sym (saved_more pending log marks now m is at stores checks))
      (subst (λ (ms : List Mark). AreMarked ms (saved_all pending log marks ++ pending ∷ [])) (sym is)
      (marked_more marks (saved_all pending log marks) m pending (length_saved (saved_at pending log) marks) are.marked (record { are = all; size = size })));
}

-- ---- going back

same_mark : (a b : Mark) → Some a ≡ Some b → a ≡ b
same_mark a b e = cc

-- the mark with a number is marked
marked_at : (marks : List Mark) (f : Mark → PendingChanges) (n : ℕ) (m : Mark) → AreMarked marks (map f marks) → slice_get marks n ≡ Some m → IsMarked m (f m)
marked_at [] f n m are there = absurd cc
marked_at (x ∷ marks) f zero m are there = subst (λ (y : Mark). IsMarked y (f y)) (same_mark x m there) are.0
marked_at (x ∷ marks) f (suc n) m are there = marked_at marks f n m are.1 there

-- and no further than the end
before_end : (low : Mark) (marks : List Mark) (top : Mark) (n : ℕ) (m : Mark) → AreRising low marks top → slice_get marks n ≡ Some m → IsBefore m top
before_end low [] top n m h there = absurd cc
before_end low (x ∷ marks) top zero m h there = subst (λ (y : Mark). IsBefore y top) (same_mark x m there) (low_below x marks top h.1)
before_end low (x ∷ marks) top (suc n) m h there = before_end x marks top n m h.1 there

-- the marks up to a number rise up to its own
rising_front : (low : Mark) (marks : List Mark) (top : Mark) (n : ℕ) (m end : Mark) → AreRising low marks top → slice_get marks n ≡ Some m → IsBefore m end → AreRising low (take (suc n) marks) end
rising_front low [] top n m end h there up = absurd cc
rising_front low (x ∷ marks) top zero m end h there up = (h.0, subst (λ (y : Mark). IsBefore y end) (sym (same_mark x m there)) up)
rising_front low (x ∷ marks) top (suc n) m end h there up = (h.0, rising_front x marks top n m end h.1 there up)

marked_front : (marks : List Mark) (saved : List PendingChanges) (n : ℕ) → AreMarked marks saved → AreMarked (take n marks) (take n saved)
marked_front marks saved zero are = tt
marked_front [] [] (suc n) are = tt
marked_front [] (s ∷ saved) (suc n) are = tt
marked_front (x ∷ marks) [] (suc n) are = absurd are
marked_front (x ∷ marks) (s ∷ saved) (suc n) are = (are.0, marked_front marks saved n are.1)

-- what an earlier mark saved is saved in what a later one saved
saved_twice : (pending : PendingChanges) (log : List Replaced) (m x : Mark) → IsBefore x m → IsBefore m (end_mark pending log) → saved_at (saved_at pending log m) (take m.log log) x ≡ saved_at pending log x
saved_twice pending log m x earlier within =
    let rest : List Replaced = drop m.log log in
    let front : List Replaced = drop x.log (take m.log log) in
    let log_is : front ++ rest ≡ drop x.log log =
    sym (drop-append-le x.log (take m.log log) rest (omega (arith, length-take m.log log, earlier.log, within.log)))
    ∙ ap (drop x.log) (take-append-drop m.log log) in
    let stores : all_taken_back (take x.extent.stores (all_taken_back (take m.extent.stores pending.stores) rest)) front ≡ all_taken_back (take x.extent.stores pending.stores) (drop x.log log) =
    ap (λ (ps : List PendingStore). all_taken_back ps front) (sym (all_taken_front x.extent.stores (take m.extent.stores pending.stores) rest))
    ∙ ap (λ (ps : List PendingStore). all_taken_back (all_taken_back ps rest) front) (take-take x.extent.stores m.extent.stores pending.stores earlier.stores)
    ∙ sym (all_taken_append (take x.extent.stores pending.stores) front rest)
    ∙ ap (all_taken_back (take x.extent.stores pending.stores)) log_is in
    ap (λ (ps : List PendingStore). pending_as ps (take x.extent.checks (take m.extent.checks pending.checks))) stores
    ∙ ap (pending_as (all_taken_back (take x.extent.stores pending.stores) (drop x.log log))) (take-take x.extent.checks m.extent.checks pending.checks earlier.checks)

before_same : (y : Mark) → IsBefore y y
before_same y = record { log = omega arith; stores = omega arith; checks = omega arith }

before_at : (low : Mark) (marks : List Mark) (top : Mark) (n : ℕ) (m : Mark) → AreRising low marks top → slice_get marks n ≡ Some m → IsBefore low m
before_at low [] top n m h there = absurd cc
before_at low (x ∷ marks) top zero m h there = subst (IsBefore low) (same_mark x m there) h.0
before_at low (x ∷ marks) top (suc n) m h there = before_before low x m h.0 (before_at x marks top n m h.1 there)

-- what was saved up to a number stays
saved_front : (low : Mark) (marks : List Mark) (top : Mark) (n : ℕ) (m : Mark) (f g : Mark → PendingChanges) → AreRising low marks top → slice_get marks n ≡ Some m → ((x : Mark) → IsBefore x m → f x ≡ g x)
    → map f (take (suc n) marks) ≡ take (suc n) (map g marks)
saved_front low [] top n m f g h there same = absurd cc
saved_front low (x ∷ marks) top zero m f g h there same =
    ap (λ (p : PendingChanges). p ∷ []) (same x (subst (λ (y : Mark). IsBefore x y) (same_mark x m there) (before_same x)))
saved_front low (x ∷ marks) top (suc n) m f g h there same =
    ap (λ (p : PendingChanges). p ∷ map f (take (suc n) marks)) (same x (before_at x marks top n m h.1 there))
    ∙ ap (λ (ps : List PendingChanges). g x ∷ ps) (saved_front x marks top n m f g h.1 there same)

-- a mark is no further than the end of the log
pub log_reaches : (pending : PendingChanges) (log l : List Replaced) (marks : List Mark) (n : ℕ) (m : Mark) → AreMarks pending log marks → slice_get marks n ≡ Some m → l ≡ log → m.log ≤ length l
log_reaches pending log l marks n m are there is =
    subst (λ (xs : List Replaced). m.log ≤ length xs) (sym is) (before_end first_mark marks (end_mark pending log) n m are.rising there).log

-- with all taken back the front of the stores is what was saved
stores_back : (pending : PendingChanges) (log l : List Replaced) (m : Mark) (given : List PendingStore) → l ≡ log → given ≡ all_taken_back pending.stores (drop m.log l) → take m.extent.stores given ≡ (saved_at pending log m).stores
stores_back pending log l m given is back =
    ap (take m.extent.stores) (back ∙ ap (λ (xs : List Replaced). all_taken_back pending.stores (drop m.log xs)) is) ∙ sym (all_taken_front m.extent.stores pending.stores (drop m.log log))

pub are_back : (pending : PendingChanges) (log l : List Replaced) (marks : List Mark) (n : ℕ) (m : Mark) (given : List PendingStore) → AreMarks pending log marks → slice_get marks n ≡ Some m → l ≡ log → given ≡ all_taken_back pending.stores (drop m.log l)
    → AreStores (take m.extent.stores given)
are_back pending log l marks n m given are there is back =
    subst AreStores (sym (stores_back pending log l m given is back)) (marked_at marks (saved_at pending log) n m are.marked there).are

pub size_back : (pending : PendingChanges) (log l : List Replaced) (marks : List Mark) (n : ℕ) (m : Mark) (given : List PendingStore) → AreMarks pending log marks → slice_get marks n ≡ Some m → l ≡ log → given ≡ all_taken_back pending.stores (drop m.log l)
    → m.extent.size ≡ size_of_stores (take m.extent.stores given)
size_back pending log l marks n m given are there is back =
    (marked_at marks (saved_at pending log) n m are.marked there).size ∙ sym (ap size_of_stores (stores_back pending log l m given is back))

-- what is pending then is what was saved
pub pending_back : (old new : PendingChanges) (log l : List Replaced) (m : Mark) (given : List PendingStore) → l ≡ log → given ≡ all_taken_back old.stores (drop m.log l) → new.stores ≡ take m.extent.stores given → new.checks ≡ take m.extent.checks old.checks
    → new ≡ saved_at old log m
pending_back old new log l m given is back stores checks =
    ap (λ (ps : List PendingStore). pending_as ps new.checks) (stores ∙ stores_back old log l m given is back) ∙ ap (pending_as (saved_at old log m).stores) checks

pub saved_back : (old new : PendingChanges) (log left : List Replaced) (marks now : List Mark) (n : ℕ) (m : Mark) → AreMarks old log marks → slice_get marks n ≡ Some m → new ≡ saved_at old log m → left ≡ take m.log log → now ≡ take (n + 1) marks
    → saved_all new left now ≡ take (n + 1) (saved_all old log marks)
saved_back old new log left marks now n m are there is left_is now_is =
    let within : IsBefore m (end_mark old log) = before_end first_mark marks (end_mark old log) n m are.rising there in
    let same : (x : Mark) → IsBefore x m → saved_at (saved_at old log m) (take m.log log) x ≡ saved_at old log x = λ x b. saved_twice old log m x b within in
    let count : n + 1 ≡ suc n = omega arith in
    ap (saved_all new left) (now_is ∙ ap (λ (k : ℕ). take k marks) count)
    ∙ ap (λ (p : PendingChanges). saved_all p left (take (suc n) marks)) is
    ∙ ap (λ (l : List Replaced). saved_all (saved_at old log m) l (take (suc n) marks)) left_is
    ∙ saved_front first_mark marks (end_mark old log) n m (saved_at (saved_at old log m) (take m.log log)) (saved_at old log) are.rising there same
    ∙ ap (λ (k : ℕ). take k (saved_all old log marks)) (sym count)

-- the number's own savepoint is what is pending
pub saved_is : (old : PendingChanges) (log : List Replaced) (marks : List Mark) (n : ℕ) (m : Mark) → slice_get marks n ≡ Some m → slice_get (saved_all old log marks) n ≡ Some (saved_at old log m)
saved_is old log [] n m there = absurd cc
saved_is old log (x ∷ marks) zero m there = ap (λ (y : Mark). Some (saved_at old log y)) (same_mark x m there)
saved_is old log (x ∷ marks) (suc n) m there = saved_is old log marks n m there

ends_back : (old : PendingChanges) (log : List Replaced) (m : Mark) → IsBefore m (end_mark old log) → IsBefore m (end_mark (saved_at old log m) (take m.log log))
ends_back old log m within = record {
  log = omega (arith, within.log, length-take m.log log);
  stores = omega (arith, within.stores, all_taken_length (take m.extent.stores old.stores) (drop m.log log), length-take m.extent.stores old.stores);
  checks = omega (arith, within.checks, length-take m.extent.checks old.checks);
}

pub marks_back : (old new : PendingChanges) (log left : List Replaced) (marks now : List Mark) (n : ℕ) (m : Mark) → AreMarks old log marks → slice_get marks n ≡ Some m → new ≡ saved_at old log m → left ≡ take m.log log → now ≡ take (n + 1) marks → AreMarks new left now
marks_back old new log left marks now n m are there is left_is now_is =
    let within : IsBefore m (end_mark old log) = before_end first_mark marks (end_mark old log) n m are.rising there in
    let ends : IsBefore m (end_mark new left) =
    subst (λ (p : PendingChanges). IsBefore m (end_mark p left)) (sym is) (subst (λ (l : List Replaced). IsBefore m (end_mark (saved_at old log m) l)) (sym left_is) (ends_back old log m within)) in
    let count : n + 1 ≡ suc n = omega arith in
    record {
      rising = subst (λ (ms : List Mark). AreRising first_mark ms (end_mark new left)) (sym (now_is ∙ ap (λ (k : ℕ). take k marks) count)) (rising_front first_mark marks (end_mark old log) n m (end_mark new left) are.rising there ends);
      marked = subst (λ (ps : List PendingChanges). AreMarked now ps) (sym (saved_back old new log left marks now n m are there is left_is now_is))
          (subst (λ (ms : List Mark). AreMarked ms (take (n + 1) (saved_all old log marks))) (sym now_is) (marked_front marks (saved_all old log marks) (n + 1) are.marked));
    }
