-- What undo takes over was there.
use Rattle.std.proofs.Common.{◌≡◌, ℕ, Bool, true, false, cond, List, [], ◌∷◌, Option, Some, None, refl, sym, ap, subst, ◌∙◌}
use Rattle.std.specs.Prelude.{All, Result, Ok, Err, IfOk, ok_or, option_map, ◌||◌}
use Rattle.std.specs.List.{AllByRecursion}
use Rattle.std.proofs.lemmas.List.Elements.{All-from_recursion}
use Rattle.zb_model.specs.declared.data.Change.{Change}
use Rattle.zb_model.specs.declared.data.Content.{Content}
use Rattle.zb_model.specs.declared.data.Content.TheVariants.{Held, Absent}
use Rattle.zb_model.specs.declared.data.Transaction.{Transaction}
use Rattle.zb_model.specs.declared.new_transaction.NewChange.{NewChange}
use Rattle.zb_model.specs.declared.new_transaction.NewContent.{NewContent}
use Rattle.zb_model.specs.declared.new_transaction.NewContent.TheVariants as new_content
use Rattle.zb_model.specs.declared.refusal.Refusal.{Refusal}
use Rattle.zb_model.specs.declared.refusal.Refusal.TheVariants as refusal
use Rattle.zb_model.specs.Database.{IsDatabase, ObjectRevision, revision_below, serial_of}
use Rattle.zb_model.specs.Queries.{transaction_at}
use Rattle.zb_model.specs.Rules.{MergeRules}
use Rattle.zb_model.specs.Voting.{NamesRevision, revision_at, voted_content}
use Rattle.undo_records.specs.declared.refusal.UndoRefusal.{UndoRefusal}
use Rattle.undo_records.specs.Outcomes.{IsUndone}
use Rattle.undo_records.specs.Undone.{content_before, content_now, is_same, is_untouched, merged_content, taken_from, taken_over, then_with, undone_changes, undone_content, undone_from, undone_of, undone_transaction, with_change}
use Rattle.zb_model.specs.SerialLaws.{again_is}
use Rattle.undo_records.proofs.Writing.{each_with}

-- what is taken over of a revision below a front is what the object had there
abbrev IsTaken : List Transaction → ℕ → Content → NewContent → Type 0
IsTaken list oid content new = NamesRevision list oid new × (voted_content list oid new ≡ content)

taken-held : (list : List Transaction) (oid front : ℕ) (r : ObjectRevision) (c : Content) → IsDatabase list → revision_below oid front list ≡ Some r → r.content ≡ c → IsTaken list oid c (taken_from r.serial c)
taken-held list oid front r Absent is e f = (tt, refl)
taken-held list oid front r (Held bytes) is e f =
    let at : revision_at oid r.serial list ≡ Some r = again_is oid front r list is e in
    (rw at (rw f tt), rw at f)

taken_by : (list : List Transaction) (oid front : ℕ) (o : Option ObjectRevision) → IsDatabase list → revision_below oid front list ≡ o → IsTaken list oid (content_before oid front list) (taken_over o)
taken_by list oid front None is e = (tt, rw e refl)
taken_by list oid front (Some r) is e = rw e (taken-held list oid front r r.content is e refl)

pub taken : (list : List Transaction) (oid front : ℕ) → IsDatabase list → IsTaken list oid (content_before oid front list) (taken_over (revision_below oid front list))
taken list oid front is = taken_by list oid front (revision_below oid front list) is refl

-- ---- each change, and all

abbrev NamesWhatWas : List Transaction → NewChange → Type 0
NamesWhatWas list c = NamesRevision list c.oid c.content

abbrev NameWhatWas : List Transaction → List NewChange → Type 0
NameWhatWas list changes = AllByRecursion (NamesWhatWas list) changes

merged-sound : (list : List Transaction) (oid : ℕ) (m : Option (List ℕ)) (why : Refusal) (content : NewContent) → ok_or (option_map new_content.Bytes m) why ≡ Ok content → NamesRevision list oid content
merged-sound list oid None why content e = absurd (cc)
merged-sound list oid (Some bytes) why content e =
    let is : new_content.Bytes bytes ≡ content = cc in
    subst (NamesRevision list oid) is tt

chosen-sound : (list : List Transaction) (oid front : ℕ) (b : Bool) (m : Option (List ℕ)) (why : Refusal) (content : NewContent) → IsDatabase list → cond b (Ok (taken_over (revision_below oid front list))) (ok_or (option_map new_content.Bytes m) why) ≡ Ok content → NamesRevision list oid content
chosen-sound list oid front true m why content is e =
    let at : taken_over (revision_below oid front list) ≡ content = cc in
    subst (NamesRevision list oid) at (taken list oid front is).0
chosen-sound list oid front false m why content is e = merged-sound list oid m why content e

content-sound : (rules : MergeRules) (list : List Transaction) (tid : ℕ) (written : List NewChange) (c : Change) (content : NewContent) → IsDatabase list → undone_content rules list tid written c ≡ Ok content → NamesRevision list c.oid content
content-sound rules list tid written c content is e =
    chosen-sound list c.oid tid (is_untouched list tid written c.oid || is_same (content_now list written c.oid) c.content)
    (merged_content rules c.content (content_now list written c.oid) (content_before c.oid tid list)) (refusal.UndoConflict c.oid (serial_of c.oid list)) content is e

changes-sound : (rules : MergeRules) (list : List Transaction) (tid : ℕ) (written : List NewChange) (changes : List Change) (all : List NewChange) → IsDatabase list → NameWhatWas list written → undone_changes rules list tid written changes ≡ Ok all → NameWhatWas list all
changes-sound rules list tid written [] all is sound e =
    let same : written ≡ all = cc in
    subst (NameWhatWas list) same sound
changes-sound rules list tid written (c ∷ changes) all is sound e = by_cases (undone_content rules list tid written c) refl (λ content. changes-sound rules list tid (with_change written (record { oid = c.oid; content = content })) changes all is)
  where
    by_cases : (u : Result NewContent Refusal) → undone_content rules list tid written c ≡ u
        → ((content : NewContent) → NameWhatWas list (with_change written (record { oid = c.oid; content = content })) → undone_changes rules list tid (with_change written (record { oid = c.oid; content = content })) changes ≡ Ok all → NameWhatWas list all)
        → NameWhatWas list all
    by_cases (Ok content) q rest =
        rest content (each_with (NamesWhatWas list) written (record { oid = c.oid; content = content }) sound (content-sound rules list tid written c content is q))
        (sym (ap (λ (u : Result NewContent Refusal). then_with u (λ x. undone_changes rules list tid (with_change written (record { oid = c.oid; content = x })) changes)) q) ∙ e)
    by_cases (Err why) q rest =
        let no : Err why ≡ Ok all = sym (ap (λ (u : Result NewContent Refusal). then_with u (λ x. undone_changes rules list tid (with_change written (record { oid = c.oid; content = x })) changes)) q) ∙ e in
        absurd (cc)

transaction-sound : (rules : MergeRules) (list : List Transaction) (tid : ℕ) (written : List NewChange) (o : Option Transaction) (all : List NewChange) → IsDatabase list → NameWhatWas list written → undone_transaction rules list tid written o ≡ Ok all → NameWhatWas list all
transaction-sound rules list tid written None all is sound e = absurd (cc)
transaction-sound rules list tid written (Some t) all is sound e = by_cases t.packed refl
  where
    by_cases : (b : Bool) → t.packed ≡ b → NameWhatWas list all
    by_cases true q =
        let no : Err (refusal.UndoPacked tid) ≡ Ok all = sym (ap (λ (b : Bool). cond b (Err (refusal.UndoPacked tid)) (undone_changes rules list tid written t.changes)) q) ∙ e in
        absurd (cc)
    by_cases false q = changes-sound rules list tid written t.changes all is sound (sym (ap (λ (b : Bool). cond b (Err (refusal.UndoPacked tid)) (undone_changes rules list tid written t.changes)) q) ∙ e)

from-sound : (rules : MergeRules) (list : List Transaction) (written : List NewChange) (tids : List ℕ) (all : List NewChange) → IsDatabase list → NameWhatWas list written → undone_from rules list written tids ≡ Ok all → NameWhatWas list all
from-sound rules list written [] all is sound e =
    let same : written ≡ all = cc in
    subst (NameWhatWas list) same sound
from-sound rules list written (tid ∷ tids) all is sound e = by_cases (undone_transaction rules list tid written (transaction_at tid list)) refl (λ more. from-sound rules list more tids all is)
  where
    by_cases : (u : Result (List NewChange) Refusal) → undone_transaction rules list tid written (transaction_at tid list) ≡ u
        → ((more : List NewChange) → NameWhatWas list more → undone_from rules list more tids ≡ Ok all → NameWhatWas list all)
        → NameWhatWas list all
    by_cases (Ok more) q rest =
        rest more (transaction-sound rules list tid written (transaction_at tid list) more is sound q)
        (sym (ap (λ (u : Result (List NewChange) Refusal). then_with u (λ x. undone_from rules list x tids)) q) ∙ e)
    by_cases (Err why) q rest =
        let no : Err why ≡ Ok all = sym (ap (λ (u : Result (List NewChange) Refusal). then_with u (λ x. undone_from rules list x tids)) q) ∙ e in
        absurd (cc)

undone-sound : (rules : MergeRules) (list : List Transaction) (tids : List ℕ) (all : List NewChange) → IsDatabase list → undone_of rules list tids ≡ Ok all → All (λ c. NamesRevision list c.oid c.content) all
unfolding undone_of
undone-sound rules list tids all is e = All-from_recursion (NamesWhatWas list) all (from-sound rules list [] tids all is tt e)

pub answer-sound : (rules : MergeRules) (list : List Transaction) (tids : List ℕ) (result : Result (List NewChange) UndoRefusal) → IsDatabase list → IsUndone (undone_of rules list tids) result → IfOk result (λ changes. All (λ c. NamesRevision list c.oid c.content) changes)
answer-sound rules list tids (Ok changes) is undone = undone-sound rules list tids changes is undone
answer-sound rules list tids (Err why) is undone = tt
