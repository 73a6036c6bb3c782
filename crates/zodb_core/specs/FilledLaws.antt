-- No vote and no undo writes an empty record. For the proofs of those who follow the machine.
use Rattle.std.proofs.Common.{◌≡◌, ℕ, ◌<◌, Bool, true, false, cond, eqb, List, [], ◌∷◌, length, Option, Some, None, Result, Ok, Err, refl, subst}
use Rattle.std.specs.Prelude.{All, ok_or, option_map, ◌==◌, ◌||◌}
use Rattle.std.specs.List.{AllByRecursion}
use Rattle.std.specs.Option.{option_or}
use Rattle.std.specs.Result.{result_ok}
use Rattle.std.proofs.lemmas.List.Elements.{recursion_from_All}
use Rattle.zb_model.specs.declared.data.Change.{Change}
use Rattle.zb_model.specs.declared.data.Content.{Content}
use Rattle.zb_model.specs.declared.data.Content.TheVariants.{Held, Absent}
use Rattle.zb_model.specs.declared.data.Transaction.{Transaction}
use Rattle.zb_model.specs.declared.new_transaction.NewChange.{NewChange}
use Rattle.zb_model.specs.declared.new_transaction.NewContent.{NewContent}
use Rattle.zb_model.specs.declared.new_transaction.NewContent.TheVariants as new_content
use Rattle.zb_model.specs.declared.pending.PendingStore.{PendingStore}
use Rattle.zb_model.specs.declared.pending.PendingCheck.{PendingCheck}
use Rattle.zb_model.specs.declared.refusal.Refusal.{Refusal}
use Rattle.zb_model.specs.declared.refusal.Refusal.TheVariants as refusal
use Rattle.zb_model.specs.declared.refusal.Why.{Why}
use Rattle.zb_model.specs.declared.refusal.Why.TheVariants as why
use Rattle.zb_model.specs.Database.{IsRecord, ObjectRevision, revision_below, serial_of}
use Rattle.zb_model.specs.Queries.{transaction_at}
use Rattle.zb_model.specs.RecordLaws.{ChangesToRecord}
use Rattle.zb_model.specs.Rules.{MergeRules}
use Rattle.zb_model.specs.Voting.{IsFilled}
use Rattle.commit_phases.specs.Decision.{ahead_of_changes, change_of_content, change_of_delete, change_of_store, change_or_conflict, changes_of_stores, current_record, failed_check, goes_in, merge_held, record_with_serial, resolution_of, too_long, unless_checks_fail, unless_refused, vote_decision}
use Rattle.commit_phases.specs.Pending.{PendingChanges}
use Rattle.undo_records.specs.Undone.{content_before, content_now, is_same, is_untouched, merged_content, taken_from, taken_over, then_with, undone_changes, undone_content, undone_from, undone_of, undone_transaction, with_change}

-- bytes that are made, if any are, aren't empty
abbrev AreBytesIfOk : Result (List ℕ) Why → Type 0
AreBytesIfOk (Ok bytes) = 0 < length bytes
AreBytesIfOk (Err why) = Unit {0}

-- what rules make is never empty
made_filled : (rules : MergeRules) (old committed stored : List ℕ) → AreBytesIfOk (rules.merged old committed stored)
made_filled rules old committed stored = by_cases (rules.merged old committed stored) refl
  where
    by_cases : (made : Result (List ℕ) Why) → rules.merged old committed stored ≡ made → AreBytesIfOk made
    by_cases (Ok bytes) e = rules.filled old committed stored bytes e
    by_cases (Err why) e = tt

-- ---- votes

-- a change, if one is decided, is to no empty record
abbrev IsFilledIfOk : Result Change Refusal → Type 0
IsFilledIfOk (Ok c) = IsRecord c.content
IsFilledIfOk (Err r) = Unit {0}

abbrev pub AreFilledIfOk : Result (List Change) Refusal → Type 0
AreFilledIfOk (Ok changes) = AllByRecursion ChangesToRecord changes
AreFilledIfOk (Err r) = Unit {0}

abbrev StoresRecord : PendingStore → Type 0
StoresRecord p = IsRecord p.content

held_filled : (rules : MergeRules) (now old : Option (List ℕ)) (stored : List ℕ) → AreBytesIfOk (merge_held rules now old stored)
held_filled rules None old stored = tt
held_filled rules (Some committed) None stored = tt
held_filled rules (Some committed) (Some old) stored = made_filled rules old committed stored

resolution_filled : (rules : MergeRules) (list : List Transaction) (oid base : ℕ) (stored : List ℕ) → AreBytesIfOk (resolution_of rules list oid base stored)
resolution_filled rules list oid base stored = by_cases (rules.has_rule stored)
  where
    by_cases : (b : Bool) → AreBytesIfOk (cond b (merge_held rules (current_record oid list) (record_with_serial oid base list) stored) (Err why.NoRule))
    by_cases true = held_filled rules (current_record oid list) (record_with_serial oid base list) stored
    by_cases false = tt

goes_in_filled : (rules : MergeRules) (list : List Transaction) (oid base : ℕ) (stored : List ℕ) → 0 < length stored → AreBytesIfOk (goes_in rules list oid base stored)
goes_in_filled rules list oid base stored filled = by_cases (base == serial_of oid list)
  where
    by_cases : (b : Bool) → AreBytesIfOk (cond b (Ok stored) (resolution_of rules list oid base stored))
    by_cases true = filled
    by_cases false = resolution_filled rules list oid base stored

conflict_filled : (list : List Transaction) (oid base : ℕ) (r : Result (List ℕ) Why) → AreBytesIfOk r → IsFilledIfOk (change_or_conflict list oid base r)
conflict_filled list oid base (Ok bytes) filled = filled
conflict_filled list oid base (Err reason) filled = tt

delete_filled : (list : List Transaction) (oid base : ℕ) (o : Option (List ℕ)) → IsFilledIfOk (change_of_delete list oid base o)
delete_filled list oid base None = tt
delete_filled list oid base (Some held) = by_cases (base == serial_of oid list)
  where
    by_cases : (b : Bool) → IsFilledIfOk (cond b (Ok (record { oid = oid; content = Absent })) (Err (refusal.Conflict oid base (serial_of oid list) why.NoRule)))
    by_cases true = tt
    by_cases false = tt

content_filled : (rules : MergeRules) (list : List Transaction) (oid base : ℕ) (content : Content) → IsRecord content → IsFilledIfOk (change_of_content rules list oid base content)
content_filled rules list oid base (Held bytes) filled = conflict_filled list oid base (goes_in rules list oid base bytes) (goes_in_filled rules list oid base bytes filled)
content_filled rules list oid base Absent filled = delete_filled list oid base (current_record oid list)

ahead_filled : (one : Result Change Refusal) (rest : Result (List Change) Refusal) → IsFilledIfOk one → AreFilledIfOk rest → AreFilledIfOk (ahead_of_changes one rest)
ahead_filled (Err r) rest one all = tt
ahead_filled (Ok c) (Err r) one all = tt
ahead_filled (Ok c) (Ok changes) one all = (one, all)

stores_filled : (rules : MergeRules) (list : List Transaction) (stores : List PendingStore) → AllByRecursion StoresRecord stores → AreFilledIfOk (changes_of_stores rules list stores)
stores_filled rules list [] all = tt
stores_filled rules list (p ∷ stores) all =
    ahead_filled (change_of_store rules list p) (changes_of_stores rules list stores) (content_filled rules list p.oid p.base p.content all.0) (stores_filled rules list stores all.1)

unless_filled : (changes : List Change) (o : Option Refusal) → AllByRecursion ChangesToRecord changes → AreFilledIfOk (unless_refused changes o)
unless_filled changes None all = all
unless_filled changes (Some r) all = tt

checked_filled : (list : List Transaction) (checks : List PendingCheck) (r : Result (List Change) Refusal) → AreFilledIfOk r → AreFilledIfOk (unless_checks_fail list checks r)
checked_filled list checks (Err r) all = tt
checked_filled list checks (Ok changes) all = unless_filled changes (option_or (failed_check list checks) (too_long changes)) all

-- what is decided of stores without an empty record
pub vote_filled : (rules : MergeRules) (list : List Transaction) (pending : PendingChanges) → All StoresRecord pending.stores → AreFilledIfOk (vote_decision rules list pending)
unfolding vote_decision
vote_filled rules list pending all =
    checked_filled list pending.checks (changes_of_stores rules list pending.stores) (stores_filled rules list pending.stores (recursion_from_All StoresRecord pending.stores all))

-- ---- undos

abbrev IsNewFilled : NewChange → Type 0
IsNewFilled c = IsFilled c.content

-- new contents, if they are decided, have no empty bytes
abbrev IsContentIfOk : Result NewContent Refusal → Type 0
IsContentIfOk (Ok content) = IsFilled content
IsContentIfOk (Err r) = Unit {0}

abbrev pub AreNewIfOk : Result (List NewChange) Refusal → Type 0
AreNewIfOk (Ok changes) = AllByRecursion IsNewFilled changes
AreNewIfOk (Err r) = Unit {0}

taken_filled : (serial : ℕ) (content : Content) → IsFilled (taken_from serial content)
taken_filled serial (Held bytes) = tt
taken_filled serial Absent = tt

over_filled : (o : Option ObjectRevision) → IsFilled (taken_over o)
over_filled None = tt
over_filled (Some r) = taken_filled r.serial r.content

abbrev AreBytesIfSome : Option (List ℕ) → Type 0
AreBytesIfSome None = Unit {0}
AreBytesIfSome (Some bytes) = 0 < length bytes

bytes_of_ok : (made : Result (List ℕ) Why) → AreBytesIfOk made → AreBytesIfSome (result_ok made)
bytes_of_ok (Ok bytes) filled = filled
bytes_of_ok (Err why) filled = tt

ruled_filled : (rules : MergeRules) (old committed stored : List ℕ) → AreBytesIfSome (merged_content rules (Held old) (Held committed) (Held stored))
ruled_filled rules old committed stored = by_cases (rules.has_rule stored)
  where
    by_cases : (b : Bool) → AreBytesIfSome (cond b (result_ok (rules.merged old committed stored)) None)
    by_cases true = bytes_of_ok (rules.merged old committed stored) (made_filled rules old committed stored)
    by_cases false = tt

merged_filled : (rules : MergeRules) (old committed stored : Content) → AreBytesIfSome (merged_content rules old committed stored)
merged_filled rules (Held old) (Held committed) (Held stored) = ruled_filled rules old committed stored
merged_filled rules (Held old) (Held committed) Absent = tt
merged_filled rules (Held old) Absent stored = tt
merged_filled rules Absent committed stored = tt

bytes_filled : (m : Option (List ℕ)) (r : Refusal) → AreBytesIfSome m → IsContentIfOk (ok_or (option_map new_content.Bytes m) r)
bytes_filled None r filled = tt
bytes_filled (Some bytes) r filled = filled

undone_filled : (rules : MergeRules) (list : List Transaction) (tid : ℕ) (written : List NewChange) (c : Change) → IsContentIfOk (undone_content rules list tid written c)
undone_filled rules list tid written c = by_cases (is_untouched list tid written c.oid || is_same (content_now list written c.oid) c.content)
  where
    by_cases : (b : Bool) → IsContentIfOk (cond b (Ok (taken_over (revision_below c.oid tid list))) (ok_or (option_map new_content.Bytes (merged_content rules c.content (content_now list written c.oid) (content_before c.oid tid list))) (refusal.UndoConflict c.oid (serial_of c.oid list))))
    by_cases true = over_filled (revision_below c.oid tid list)
    by_cases false =
        bytes_filled (merged_content rules c.content (content_now list written c.oid) (content_before c.oid tid list)) (refusal.UndoConflict c.oid (serial_of c.oid list))
        (merged_filled rules c.content (content_now list written c.oid) (content_before c.oid tid list))

with_filled : (written : List NewChange) (c : NewChange) → AllByRecursion IsNewFilled written → IsFilled c.content → AllByRecursion IsNewFilled (with_change written c)
with_filled [] c all one = (one, tt)
with_filled (d ∷ written) c all one = by_cases (eqb c.oid d.oid) (with_filled written c all.1 one)
  where
    by_cases : (b : Bool) → AllByRecursion IsNewFilled (with_change written c) → AllByRecursion IsNewFilled (cond b (c ∷ written) (d ∷ with_change written c))
    by_cases true rest = (one, all.1)
    by_cases false rest = (all.0, rest)

then_filled : {A : Type 0} (u : Result A Refusal) (next : A → Result (List NewChange) Refusal) → ((x : A) → u ≡ Ok x → AreNewIfOk (next x)) → AreNewIfOk (then_with u next)
then_filled (Ok x) next each = each x refl
then_filled (Err r) next each = tt

changes_filled : (rules : MergeRules) (list : List Transaction) (tid : ℕ) (written : List NewChange) (changes : List Change) → AllByRecursion IsNewFilled written → AreNewIfOk (undone_changes rules list tid written changes)
changes_filled rules list tid written [] all = all
changes_filled rules list tid written (c ∷ changes) all =
    then_filled (undone_content rules list tid written c) (λ content. undone_changes rules list tid (with_change written (record { oid = c.oid; content = content })) changes)
    (λ content is. changes_filled rules list tid (with_change written (record { oid = c.oid; content = content })) changes
    (with_filled written (record { oid = c.oid; content = content }) all (subst IsContentIfOk is (undone_filled rules list tid written c))))

transaction_filled : (rules : MergeRules) (list : List Transaction) (tid : ℕ) (written : List NewChange) (o : Option Transaction) → AllByRecursion IsNewFilled written → AreNewIfOk (undone_transaction rules list tid written o)
transaction_filled rules list tid written None all = tt
transaction_filled rules list tid written (Some t) all = by_cases t.packed
  where
    by_cases : (b : Bool) → AreNewIfOk (cond b (Err (refusal.UndoPacked tid)) (undone_changes rules list tid written t.changes))
    by_cases true = tt
    by_cases false = changes_filled rules list tid written t.changes all

from_filled : (rules : MergeRules) (list : List Transaction) (written : List NewChange) (tids : List ℕ) → AllByRecursion IsNewFilled written → AreNewIfOk (undone_from rules list written tids)
from_filled rules list written [] all = all
from_filled rules list written (tid ∷ tids) all =
    then_filled (undone_transaction rules list tid written (transaction_at tid list)) (λ more. undone_from rules list more tids)
    (λ more is. from_filled rules list more tids (subst AreNewIfOk is (transaction_filled rules list tid written (transaction_at tid list) all)))

-- what is decided of any transactions
pub undo_filled : (rules : MergeRules) (list : List Transaction) (tids : List ℕ) → AreNewIfOk (undone_of rules list tids)
unfolding undone_of
undo_filled rules list tids = from_filled rules list [] tids tt
