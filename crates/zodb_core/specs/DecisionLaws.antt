-- What votes and undos write names each object once and has no empty record, and what refuses them is told. For the proofs of those who follow the machine.
use Rattle.std.proofs.Common.{◌≡◌, ℕ, Bool, true, false, cond, eqb, List, [], ◌∷◌, map, Option, Some, None, Result, Ok, Err, refl, sym, ap, subst, ◌∙◌}
use Rattle.std.specs.Prelude.{All, nat_eq, ok_or, option_map, ◌==◌, ◌||◌}
use Rattle.std.specs.List.{AllByRecursion, IsDistinct}
use Rattle.std.specs.Option.{option_or}
use Rattle.std.proofs.lemmas.Bool.{eqb-true, eqb-false, ne_eqb}
use Rattle.std.proofs.lemmas.List.Elements.{All-from_recursion, recursion_from_All}
use Rattle.std.proofs.lemmas.Map.Keys.{IsDistinct-head, IsDistinct-tail, IsDistinct-cons}
use Rattle.zb_model.specs.declared.data.Change.{Change}
use Rattle.zb_model.specs.declared.data.Content.{Content}
use Rattle.zb_model.specs.declared.data.Content.TheVariants.{Held, Absent}
use Rattle.zb_model.specs.declared.data.Transaction.{Transaction}
use Rattle.zb_model.specs.declared.new_transaction.NewChange.{NewChange}
use Rattle.zb_model.specs.declared.new_transaction.NewContent.TheVariants as new_content
use Rattle.zb_model.specs.declared.pending.PendingStore.{PendingStore}
use Rattle.zb_model.specs.declared.pending.PendingCheck.{PendingCheck}
use Rattle.zb_model.specs.declared.refusal.Refusal.{Refusal}
use Rattle.zb_model.specs.declared.refusal.Refusal.TheVariants as refusal
use Rattle.zb_model.specs.declared.refusal.Why.{Why}
use Rattle.zb_model.specs.declared.refusal.Why.TheVariants as why
use Rattle.zb_model.specs.Database.{IsDatabase, IsRecord, revision_below, serial_of}
use Rattle.zb_model.specs.Queries.{transaction_at}
use Rattle.zb_model.specs.RecordLaws.{ChangesToRecord, voted_are_records}
use Rattle.zb_model.specs.Rules.{MergeRules}
use Rattle.zb_model.specs.Voting.{IsFilled}
use Rattle.zb_model.specs.VotingLaws.{oids_kept}
use Rattle.commit_phases.specs.Decision.{ahead_of_changes, change_of_content, change_of_delete, change_of_store, change_or_conflict, changes_of_stores, current_record, excess_of, failed_check, goes_in, too_long, unless_checks_fail, unless_refused, vote_decision}
use Rattle.commit_phases.specs.Pending.{PendingChanges, length_of_content, with_pending}
use Rattle.undo_records.specs.Undone.{content_before, content_now, is_same, is_untouched, merged_content, taken_over, then_with, undone_changes, undone_content, undone_from, undone_of, undone_transaction, with_change}
use Rattle.zodb_core.specs.FilledLaws.{AreFilledIfOk, AreNewIfOk, undo_filled, vote_filled}
use Rattle.zodb_core.specs.Outcomes.{Answered, outcome_of_refusal}
use Rattle.zodb_core.specs.Sound.{AreSoundChanges, AreWellFormedStores}
use Rattle.zodb_core.specs.Steps.{changes_undone}

-- the journal is full
abbrev pub is_full : Refusal → Bool
is_full (refusal.JournalFull count) = true
is_full _ = false

-- the history is full
abbrev pub is_spent : Refusal → Bool
is_spent refusal.StepsSpent = true
is_spent _ = false

-- another session holds the vote
abbrev pub is_busy : Refusal → Bool
is_busy (refusal.Busy holder) = true
is_busy _ = false

-- a record could not be read, or commits led to an object that a pack was to drop
abbrev pub drops_pack : Refusal → Bool
drops_pack (refusal.Unreadable oid tid) = true
drops_pack (refusal.Overtaken oid tid) = true
drops_pack _ = false

-- a refusal by what was asked: no failure, nor a journal or a history that is full, nor the end of a pack
abbrev pub IsOrdinary : Refusal → Type 0
IsOrdinary r = (outcome_of_refusal r ≡ Answered) × (is_full r ≡ false) × (is_spent r ≡ false) × (drops_pack r ≡ false)

-- the end of a pack
abbrev pub LosesPack : Refusal → Type 0
LosesPack r = (outcome_of_refusal r ≡ Answered) × (is_full r ≡ false) × (is_spent r ≡ false) × (drops_pack r ≡ true)

-- and of the ordinary ones one that a decision gives, which isn't busy
abbrev pub IsOfDecision : Refusal → Type 0
IsOfDecision r = (outcome_of_refusal r ≡ Answered) × (is_full r ≡ false) × (is_spent r ≡ false) × (is_busy r ≡ false) × (drops_pack r ≡ false)

pub ordinary_decision : (r : Refusal) → IsOfDecision r → IsOrdinary r
ordinary_decision r is = (is.0, is.1, is.2, is.4)

-- a refusal, if there is one, is ordinary
abbrev pub AnswersIfSome : Option Refusal → Type 0
AnswersIfSome None = Unit {0}
AnswersIfSome (Some r) = IsOrdinary r

pub answers_or : (one other : Option Refusal) → AnswersIfSome one → AnswersIfSome other → AnswersIfSome (option_or one other)
answers_or None other first second = second
answers_or (Some r) other first second = first

-- ---- a vote writes the objects of its stores

-- the changes have these objects, in their order
abbrev pub HaveOids : List ℕ → Result (List Change) Refusal → Type 0
HaveOids oids (Ok changes) = map (λ c. c.oid) changes ≡ oids
HaveOids oids (Err r) = IsOfDecision r

-- and the change has this one
abbrev HasOid : ℕ → Result Change Refusal → Type 0
HasOid oid (Ok c) = c.oid ≡ oid
HasOid oid (Err r) = IsOfDecision r

conflict_oid : (list : List Transaction) (oid base : ℕ) (r : Result (List ℕ) Why) → HasOid oid (change_or_conflict list oid base r)
conflict_oid list oid base (Ok bytes) = refl
conflict_oid list oid base (Err reason) = (refl, refl, refl, refl, refl)

delete_oid : (list : List Transaction) (oid base : ℕ) (o : Option (List ℕ)) → HasOid oid (change_of_delete list oid base o)
delete_oid list oid base None = (refl, refl, refl, refl, refl)
delete_oid list oid base (Some held) = by_cases (base == serial_of oid list)
  where
    by_cases : (b : Bool) → HasOid oid (cond b (Ok (record { oid = oid; content = Absent })) (Err (refusal.Conflict oid base (serial_of oid list) why.NoRule)))
    by_cases true = refl
    by_cases false = (refl, refl, refl, refl, refl)

content_oid : (rules : MergeRules) (list : List Transaction) (oid base : ℕ) (content : Content) → HasOid oid (change_of_content rules list oid base content)
content_oid rules list oid base (Held bytes) = conflict_oid list oid base (goes_in rules list oid base bytes)
content_oid rules list oid base Absent = delete_oid list oid base (current_record oid list)

ahead_oids : (oid : ℕ) (oids : List ℕ) (one : Result Change Refusal) (rest : Result (List Change) Refusal) → HasOid oid one → HaveOids oids rest → HaveOids (oid ∷ oids) (ahead_of_changes one rest)
ahead_oids oid oids (Err r) rest one all = one
ahead_oids oid oids (Ok c) (Err r) one all = all
ahead_oids oid oids (Ok c) (Ok changes) one all = ap (λ (n : ℕ). n ∷ map (λ (x : Change). x.oid) changes) one ∙ ap (λ (ns : List ℕ). oid ∷ ns) all

stores_oids : (rules : MergeRules) (list : List Transaction) (stores : List PendingStore) → HaveOids (map (λ p. p.oid) stores) (changes_of_stores rules list stores)
stores_oids rules list [] = refl
stores_oids rules list (p ∷ stores) =
    ahead_oids p.oid (map (λ p. p.oid) stores) (change_of_store rules list p) (changes_of_stores rules list stores)
    (content_oid rules list p.oid p.base p.content) (stores_oids rules list stores)

-- a refusal, if there is one, is ordinary
abbrev DecidesIfSome : Option Refusal → Type 0
DecidesIfSome None = Unit {0}
DecidesIfSome (Some r) = IsOfDecision r

decides_or : (one other : Option Refusal) → DecidesIfSome one → DecidesIfSome other → DecidesIfSome (option_or one other)
decides_or None other first second = second
decides_or (Some r) other first second = first

check_answers : (list : List Transaction) (checks : List PendingCheck) → DecidesIfSome (failed_check list checks)
check_answers list [] = tt
check_answers list (c ∷ checks) = by_cases (eqb c.serial (serial_of c.oid list)) (check_answers list checks)
  where
    by_cases : (b : Bool) → DecidesIfSome (failed_check list checks) → DecidesIfSome (cond b (failed_check list checks) (Some (refusal.ReadConflict c.oid c.serial (serial_of c.oid list))))
    by_cases true rest = rest
    by_cases false rest = (refl, refl, refl, refl, refl)

long_answers : (n : Option ℕ) → DecidesIfSome (option_map (λ n. refusal.TooLong n) n)
long_answers None = tt
long_answers (Some n) = (refl, refl, refl, refl, refl)

refused_oids : (oids : List ℕ) (changes : List Change) (o : Option Refusal) → map (λ c. c.oid) changes ≡ oids → DecidesIfSome o → HaveOids oids (unless_refused changes o)
refused_oids oids changes None have answers = have
refused_oids oids changes (Some r) have answers = answers

checked_oids : (list : List Transaction) (checks : List PendingCheck) (oids : List ℕ) (r : Result (List Change) Refusal) → HaveOids oids r → HaveOids oids (unless_checks_fail list checks r)
checked_oids list checks oids (Err r) have = have
checked_oids list checks oids (Ok changes) have =
    refused_oids oids changes (option_or (failed_check list checks) (too_long changes)) have
    (decides_or (failed_check list checks) (too_long changes) (check_answers list checks) (long_answers (excess_of (map (λ (c : Change). length_of_content c.content) changes))))

pub vote_oids : (rules : MergeRules) (list : List Transaction) (pending : PendingChanges) → HaveOids (map (λ p. p.oid) pending.stores) (vote_decision rules list pending)
unfolding vote_decision
vote_oids rules list pending = checked_oids list pending.checks (map (λ p. p.oid) pending.stores) (changes_of_stores rules list pending.stores) (stores_oids rules list pending.stores)

-- ---- an undo names each object once

abbrev AreOnce : List NewChange → Type 0
AreOnce changes = IsDistinct nat_eq (map (λ c. c.oid) changes)

abbrev IsNone : ℕ → List NewChange → Type 0
IsNone oid changes = AllByRecursion (λ n. nat_eq oid n ≡ false) (map (λ c. c.oid) changes)

-- an object that differs from those that are written and from this one differs from all then
apart_with : (oid : ℕ) (written : List NewChange) (c : NewChange) → IsNone oid written → nat_eq oid c.oid ≡ false → IsNone oid (with_change written c)
apart_with oid [] c none one = (one, tt)
apart_with oid (d ∷ written) c none one = by_cases (eqb c.oid d.oid) (apart_with oid written c none.1 one)
  where
    by_cases : (b : Bool) → IsNone oid (with_change written c) → IsNone oid (cond b (c ∷ written) (d ∷ with_change written c))
    by_cases true rest = (one, none.1)
    by_cases false rest = (none.0, rest)

flipped : (a b : ℕ) → eqb a b ≡ false → nat_eq b a ≡ false
flipped a b e = ne_eqb b a (λ q. eqb-false a b e (sym q))

once_with : (written : List NewChange) (c : NewChange) → AreOnce written → AreOnce (with_change written c)
once_with [] c once = IsDistinct-cons nat_eq c.oid [] tt once
once_with (d ∷ written) c once =
    by_cases (eqb c.oid d.oid) refl (IsDistinct-head nat_eq d.oid (map (λ (x : NewChange). x.oid) written) once) (IsDistinct-tail nat_eq d.oid (map (λ (x : NewChange). x.oid) written) once)
    (once_with written c (IsDistinct-tail nat_eq d.oid (map (λ (x : NewChange). x.oid) written) once))
  where
    by_cases : (b : Bool) → eqb c.oid d.oid ≡ b → IsNone d.oid written → AreOnce written → AreOnce (with_change written c) → AreOnce (cond b (c ∷ written) (d ∷ with_change written c))
    by_cases true e none rest all =
        IsDistinct-cons nat_eq c.oid (map (λ (x : NewChange). x.oid) written) (subst (λ (n : ℕ). IsNone n written) (sym (eqb-true c.oid d.oid e)) none) rest
    by_cases false e none rest all =
        IsDistinct-cons nat_eq d.oid (map (λ (x : NewChange). x.oid) (with_change written c)) (apart_with d.oid written c none (flipped c.oid d.oid e)) all

-- what is written names each object once, or what refuses it is told
abbrev AreOnceIfOk : Result (List NewChange) Refusal → Type 0
AreOnceIfOk (Ok changes) = AreOnce changes
AreOnceIfOk (Err r) = IsOfDecision r

abbrev AnswersIfErr : {T : Type 0} → Result T Refusal → Type 0
AnswersIfErr (Ok x) = Unit {0}
AnswersIfErr (Err r) = IsOfDecision r

merged_answers : (oid later : ℕ) (m : Option (List ℕ)) → AnswersIfErr (ok_or (option_map new_content.Bytes m) (refusal.UndoConflict oid later))
merged_answers oid later None = (refl, refl, refl, refl, refl)
merged_answers oid later (Some bytes) = tt

content_answers : (rules : MergeRules) (list : List Transaction) (tid : ℕ) (written : List NewChange) (c : Change) → AnswersIfErr (undone_content rules list tid written c)
content_answers rules list tid written c = by_cases (is_untouched list tid written c.oid || is_same (content_now list written c.oid) c.content)
  where
    by_cases : (b : Bool) → AnswersIfErr (cond b (Ok (taken_over (revision_below c.oid tid list))) (ok_or (option_map new_content.Bytes (merged_content rules c.content (content_now list written c.oid) (content_before c.oid tid list))) (refusal.UndoConflict c.oid (serial_of c.oid list))))
    by_cases true = tt
    by_cases false = merged_answers c.oid (serial_of c.oid list) (merged_content rules c.content (content_now list written c.oid) (content_before c.oid tid list))

then_once : {A : Type 0} (u : Result A Refusal) (next : A → Result (List NewChange) Refusal) → AnswersIfErr u → ((x : A) → u ≡ Ok x → AreOnceIfOk (next x)) → AreOnceIfOk (then_with u next)
then_once (Ok x) next answers each = each x refl
then_once (Err r) next answers each = answers

changes_once : (rules : MergeRules) (list : List Transaction) (tid : ℕ) (written : List NewChange) (changes : List Change) → AreOnce written → AreOnceIfOk (undone_changes rules list tid written changes)
changes_once rules list tid written [] once = once
changes_once rules list tid written (c ∷ changes) once =
    then_once (undone_content rules list tid written c) (λ content. undone_changes rules list tid (with_change written (record { oid = c.oid; content = content })) changes)
    (content_answers rules list tid written c)
    (λ content _. changes_once rules list tid (with_change written (record { oid = c.oid; content = content })) changes (once_with written (record { oid = c.oid; content = content }) once))

transaction_once : (rules : MergeRules) (list : List Transaction) (tid : ℕ) (written : List NewChange) (o : Option Transaction) → AreOnce written → AreOnceIfOk (undone_transaction rules list tid written o)
transaction_once rules list tid written None once = (refl, refl, refl, refl, refl)
transaction_once rules list tid written (Some t) once = by_cases t.packed (changes_once rules list tid written t.changes once)
  where
    by_cases : (b : Bool) → AreOnceIfOk (undone_changes rules list tid written t.changes) → AreOnceIfOk (cond b (Err (refusal.UndoPacked tid)) (undone_changes rules list tid written t.changes))
    by_cases true rest = (refl, refl, refl, refl, refl)
    by_cases false rest = rest

answers_of_once : (u : Result (List NewChange) Refusal) → AreOnceIfOk u → AnswersIfErr u
answers_of_once (Ok changes) once = tt
answers_of_once (Err r) once = once

once_of : (u : Result (List NewChange) Refusal) (changes : List NewChange) → AreOnceIfOk u → u ≡ Ok changes → AreOnce changes
once_of u changes once is = subst AreOnceIfOk is once

from_once : (rules : MergeRules) (list : List Transaction) (written : List NewChange) (tids : List ℕ) → AreOnce written → AreOnceIfOk (undone_from rules list written tids)
from_once rules list written [] once = once
from_once rules list written (tid ∷ tids) once =
    let first : AreOnceIfOk (undone_transaction rules list tid written (transaction_at tid list)) = transaction_once rules list tid written (transaction_at tid list) once in
    then_once (undone_transaction rules list tid written (transaction_at tid list)) (λ more. undone_from rules list more tids)
    (answers_of_once (undone_transaction rules list tid written (transaction_at tid list)) first)
    (λ more is. from_once rules list more tids (once_of (undone_transaction rules list tid written (transaction_at tid list)) more first is))

none_once : AreOnce []
unfolding IsDistinct
none_once = tt

undo_once : (rules : MergeRules) (list : List Transaction) (tids : List ℕ) → AreOnceIfOk (undone_of rules list tids)
unfolding undone_of
undo_once rules list tids = from_once rules list [] tids none_once

-- ---- what was decided

-- what is to be written may be written, under a premise, or what refuses it is told
abbrev pub IsDecidedSound : Type 0 → Result (List Change) Refusal → Type 0
IsDecidedSound premise (Ok changes) = premise → AreSoundChanges changes
IsDecidedSound premise (Err r) = IsOfDecision r

by_oids : (list : List Transaction) (stores : List PendingStore) (r : Result (List Change) Refusal) → HaveOids (map (λ p. p.oid) stores) r → (All (λ p. IsRecord p.content) stores → AreFilledIfOk r)
    → IsDecidedSound (IsDatabase list × AreWellFormedStores stores) r
by_oids list stores (Ok changes) have filled = λ given. record {
  distinct = subst (λ (ns : List ℕ). IsDistinct nat_eq ns) (sym have) given.1.distinct;
  filled = All-from_recursion ChangesToRecord changes (filled given.1.filled);
}
by_oids list stores (Err r) have filled = have

-- a vote, where the list is a database and its stores are as their type has them
pub vote_decided : (rules : MergeRules) (list : List Transaction) (pending : PendingChanges) → IsDecidedSound (IsDatabase list × AreWellFormedStores pending.stores) (vote_decision rules list pending)
vote_decided rules list pending = by_oids list pending.stores (vote_decision rules list pending) (vote_oids rules list pending) (vote_filled rules list pending)

by_once : (list : List Transaction) (u : Result (List NewChange) Refusal) → AreOnceIfOk u → AreNewIfOk u → IsDecidedSound (IsDatabase list × Unit {0}) (changes_undone list u)
by_once list (Ok changes) once filled = λ given. record {
  distinct = subst (λ (ns : List ℕ). IsDistinct nat_eq ns) (sym (oids_kept list changes)) once;
  filled = voted_are_records list changes given.0 (All-from_recursion (λ (c : NewChange). IsFilled c.content) changes filled);
}
by_once list (Err r) once filled = once

-- every undo, where the list is a database
pub undo_decided : (rules : MergeRules) (list : List Transaction) (tids : List ℕ) → IsDecidedSound (IsDatabase list × Unit {0}) (changes_undone list (undone_of rules list tids))
undo_decided rules list tids = by_once list (undone_of rules list tids) (undo_once rules list tids) (undo_filled rules list tids)

-- ---- stores that wait for a vote

none_pending : (oid : ℕ) (stores : List PendingStore) (p : PendingStore) → AllByRecursion (λ n. nat_eq oid n ≡ false) (map (λ q. q.oid) stores) → nat_eq oid p.oid ≡ false
    → AllByRecursion (λ n. nat_eq oid n ≡ false) (map (λ q. q.oid) (with_pending stores p))
none_pending oid [] p none one = (one, tt)
none_pending oid (q ∷ stores) p none one = by_cases (eqb p.oid q.oid) (none_pending oid stores p none.1 one)
  where
    by_cases : (b : Bool) → AllByRecursion (λ n. nat_eq oid n ≡ false) (map (λ x. x.oid) (with_pending stores p))
        → AllByRecursion (λ n. nat_eq oid n ≡ false) (map (λ x. x.oid) (cond b ((record { oid = q.oid; base = q.base; content = p.content }) ∷ stores) (q ∷ with_pending stores p)))
    by_cases true rest = none
    by_cases false rest = (none.0, rest)

-- with one more they still name each object once
pub pending_once : (stores : List PendingStore) (p : PendingStore) → IsDistinct nat_eq (map (λ q. q.oid) stores) → IsDistinct nat_eq (map (λ q. q.oid) (with_pending stores p))
pending_once [] p once = IsDistinct-cons nat_eq p.oid [] tt once
pending_once (q ∷ stores) p once =
    by_cases (eqb p.oid q.oid) refl (pending_once stores p (IsDistinct-tail nat_eq q.oid (map (λ (x : PendingStore). x.oid) stores) once))
  where
    by_cases : (b : Bool) → eqb p.oid q.oid ≡ b → IsDistinct nat_eq (map (λ x. x.oid) (with_pending stores p))
        → IsDistinct nat_eq (map (λ x. x.oid) (cond b ((record { oid = q.oid; base = q.base; content = p.content }) ∷ stores) (q ∷ with_pending stores p)))
    by_cases true e rest = once
    by_cases false e rest =
        IsDistinct-cons nat_eq q.oid (map (λ (x : PendingStore). x.oid) (with_pending stores p))
        (none_pending q.oid stores p (IsDistinct-head nat_eq q.oid (map (λ (x : PendingStore). x.oid) stores) once) (flipped p.oid q.oid e)) rest

records_pending : (stores : List PendingStore) (p : PendingStore) → AllByRecursion (λ q. IsRecord q.content) stores → IsRecord p.content → AllByRecursion (λ q. IsRecord q.content) (with_pending stores p)
records_pending [] p all one = (one, tt)
records_pending (q ∷ stores) p all one = by_cases (eqb p.oid q.oid) (records_pending stores p all.1 one)
  where
    by_cases : (b : Bool) → AllByRecursion (λ x. IsRecord x.content) (with_pending stores p)
        → AllByRecursion (λ x. IsRecord x.content) (cond b ((record { oid = q.oid; base = q.base; content = p.content }) ∷ stores) (q ∷ with_pending stores p))
    by_cases true rest = (one, all.1)
    by_cases false rest = (all.0, rest)

-- and so with one more that isn't empty they are as their type has them
pub pending_formed : (stores : List PendingStore) (p : PendingStore) → AreWellFormedStores stores → IsRecord p.content → AreWellFormedStores (with_pending stores p)
pending_formed stores p formed one = record {
  distinct = pending_once stores p formed.distinct;
  filled = All-from_recursion (λ (q : PendingStore). IsRecord q.content) (with_pending stores p) (records_pending stores p (recursion_from_All (λ (q : PendingStore). IsRecord q.content) stores formed.filled) one);
}
