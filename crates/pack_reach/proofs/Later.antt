-- Marks over a list stand for marks over it with later transactions behind.
use Rattle.std.proofs.Common.{◌≡◌, ℕ, ◌<◌, ◌≤◌, max, inl, inr, ⊎_elim, true, false, ltb, List, [], ◌∷◌, ◌++◌, filter, Option, Some, None, refl, sym, ap, subst, ◌∙◌, arith}
use Rattle.std.specs.Prelude.{IfSome, IsTrue}
use Rattle.std.specs.List.{AllByRecursion, flat_map, last_or}
use Rattle.std.specs.Option.{option_map_or}
use Rattle.std.proofs.lemmas.Bool.{cases_Bool}
use Rattle.zb_model.specs.declared.data.Transaction.{Transaction}
use Rattle.zb_model.specs.Database.{IsDatabase, ObjectRevision, newest_tid}
use Rattle.zb_model.specs.Queries.{is_above}
use Rattle.zb_model.specs.SerialLaws.{RisesTo, database_rises}
use Rattle.pack_reach.specs.Marking.{IsFollowed, IsMarking, IsRead, IsTransactionRead, MarkerState, MayMark}
use Rattle.pack_reach.specs.Reach.{IsUnreadable, is_in, is_pair_in, unreadable_in, unreadable_of}
use Rattle.pack_reach.specs.GrowthLaws.{all_append, reached_more, up_to_stays}
use Rattle.pack_reach.proofs.Least.{pair_back, pair_either, pair_front}
use Rattle.pack_reach.proofs.Seeing.{rises_above, rises_bounded}

-- ---- what is after t stays after t

more_pairs_after : (f : Transaction → List (ℕ × ℕ)) (t : ℕ) (p : ℕ × ℕ) (front later : List Transaction) → is_pair_in p (flat_map f (filter (is_above t) front)) ≡ true → is_pair_in p (flat_map f (filter (is_above t) (front ++ later))) ≡ true
more_pairs_after f t p [] later i = absurd (cc)
more_pairs_after f t p (x ∷ front) later i =
    ⊎_elim (λ (a : ltb t x.tid ≡ true).
    let both : is_pair_in p (f x ++ flat_map f (filter (is_above t) front)) ≡ true = rw a at i in
    rw a (⊎_elim (λ (j : is_pair_in p (f x) ≡ true). pair_front p (f x) (flat_map f (filter (is_above t) (front ++ later))) j)
    (λ (j : is_pair_in p (flat_map f (filter (is_above t) front)) ≡ true). pair_back p (f x) (flat_map f (filter (is_above t) (front ++ later))) (more_pairs_after f t p front later j))
    (pair_either p (f x) (flat_map f (filter (is_above t) front)) both)))
    (λ (a : ltb t x.tid ≡ false).
    let rest : is_pair_in p (flat_map f (filter (is_above t) front)) ≡ true = rw a at i in
    rw a (more_pairs_after f t p front later rest))
    (cases_Bool (ltb t x.tid))

-- ---- what was reached is reached

unreadable_more : (named : List ℕ → Option (List ℕ)) (t : ℕ) (front later : List Transaction) (p : ℕ × ℕ) → AllByRecursion (λ (x : Transaction). t < x.tid) later → IsUnreadable named t front p → IsUnreadable named t (front ++ later) p
unreadable_more named t front later p all (inl i) = inl (more_pairs_after (unreadable_of named) t p front later i)
unreadable_more named t front later p all (inr r) =
    inr (reached_more named t front later all p.0 r.0, ap (λ (s : Option ObjectRevision). is_pair_in p (option_map_or (λ (r : ObjectRevision). unreadable_in named p.0 r.serial r.content) s [])) (up_to_stays t p.0 front later all) ∙ r.1)

noted_more : (named : List ℕ → Option (List ℕ)) (t : ℕ) (front later : List Transaction) (o : Option (ℕ × ℕ)) → AllByRecursion (λ (x : Transaction). t < x.tid) later → IfSome o (IsUnreadable named t front) → IfSome o (IsUnreadable named t (front ++ later))
noted_more named t front later None all u = tt
noted_more named t front later (Some p) all u = unreadable_more named t front later p all u

-- ---- later transactions are above the newest

abbrev pub tid_in : Option Transaction → ℕ
tid_in o = option_map_or (λ (x : Transaction). x.tid) o 0

pub behind_newest : (low high : ℕ) (o : Option Transaction) (front later : List Transaction) → tid_in o ≡ low → RisesTo low high (front ++ later) → AllByRecursion (λ (x : Transaction). tid_in (last_or o front) < x.tid) later × tid_in (last_or o front) ≤ high
behind_newest low high o [] later e h =
    (subst (λ (n : ℕ). AllByRecursion (λ (x : Transaction). n < x.tid) later) (sym e) (rises_above low high later h), omega (arith, e, rises_bounded low high later h))
behind_newest low high o (x ∷ front) later e h = behind_newest x.tid high (Some x) front later refl h.1

-- a front of a list that rises does
pub front_rises : (low high : ℕ) (o : Option Transaction) (front later : List Transaction) → tid_in o ≡ low → RisesTo low high (front ++ later) → RisesTo low (tid_in (last_or o front)) front
front_rises low high o [] later e h = omega (arith, e)
front_rises low high o (x ∷ front) later e h = (h.0, front_rises x.tid high (Some x) front later refl h.1)

-- and what is behind it rises from there
pub behind_rises : (low high : ℕ) (o : Option Transaction) (front later : List Transaction) → tid_in o ≡ low → RisesTo low high (front ++ later) → RisesTo (tid_in (last_or o front)) high later
behind_rises low high o [] later e h = subst (λ (n : ℕ). RisesTo n high later) (sym e) h
behind_rises low high o (x ∷ front) later e h = behind_rises x.tid high (Some x) front later refl h.1

-- ---- so marks stand

later_unread : (named : List ℕ → Option (List ℕ)) (m : MarkerState) (newest : ℕ) (later : List Transaction) → m.seen ≤ max m.tid newest → AllByRecursion (λ (x : Transaction). m.tid < x.tid) later → AllByRecursion (λ (x : Transaction). newest < x.tid) later → AllByRecursion (λ (x : Transaction). m.tid < x.tid → x.tid ≤ m.seen → IsTransactionRead named m x) later
later_unread named m newest [] w a b = tt
later_unread named m newest (x ∷ later) w a b = (λ l n. absurd (omega (arith, w, a.0, b.0, n)), later_unread named m newest later w a.1 b.1)

pub stand : (named : List ℕ → Option (List ℕ)) (front later : List Transaction) (m : MarkerState) → RisesTo 0 (newest_tid (front ++ later)) (front ++ later) → AllByRecursion (λ (x : Transaction). m.tid < x.tid) later → IsMarking named front m → IsMarking named (front ++ later) m
stand named front later m rises above k =
    let behind = behind_newest 0 (newest_tid (front ++ later)) None front later refl rises in
    record {
      from = k.from;
      within = omega (arith, k.within, behind.1);
      reached = λ o h. reached_more named m.tid front later above o (k.reached o h);
      noted = noted_more named m.tid front later m.unreadable above k.noted;
      read = all_append (λ (x : Transaction). m.tid < x.tid → x.tid ≤ m.seen → IsTransactionRead named m x) front later k.read (later_unread named m (newest_tid front) later k.within above behind.0);
      followed = λ o h.
          ⊎_elim (λ (i : IsTrue (is_in o m.waiting)). inl i) (λ (i : IsFollowed named front m o). inr (subst (λ (s : Option ObjectRevision). IfSome s (λ r. IsRead named m o r.serial r.content)) (sym (up_to_stays m.tid o front later above)) i)) (k.followed o h);
      waiting = k.waiting;
    }

pub marks_stand : (named : List ℕ → Option (List ℕ)) (list : List Transaction) (m : MarkerState) → IsDatabase list → MayMark named list m → IsMarking named list m
marks_stand named list m is may =
    subst (λ (l : List Transaction). IsMarking named l m) (sym may.split) (stand named may.front may.later m (subst (λ (l : List Transaction). RisesTo 0 (newest_tid l) l) may.split (database_rises list is)) may.above may.marks)
