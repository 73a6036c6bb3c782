-- What undoing transactions writes. Source: `undo` of ZODB's FileStorage.
use Rattle.std.specs.Prelude.{ℕ, List, [], ◌∷◌, Option, Some, None, Result, Ok, Err, Bool, false, true, ◌==◌, ◌&&◌, ◌||◌, if◌then◌else◌, bytes_eq, is_none, ok_or, option_map, unwrap_or}
use Rattle.std.specs.List.{find, last_or}
use Rattle.std.specs.Option.{option_map_or}
use Rattle.std.specs.Result.{result_ok}
use Rattle.zb_model.specs.declared.data.Change.{Change}
use Rattle.zb_model.specs.declared.data.Content.{Content}
use Rattle.zb_model.specs.declared.data.Content.TheVariants.{Held, Absent}
use Rattle.zb_model.specs.declared.data.Transaction.{Transaction}
use Rattle.zb_model.specs.declared.new_transaction.NewChange.{NewChange}
use Rattle.zb_model.specs.declared.new_transaction.NewContent.{NewContent}
use Rattle.zb_model.specs.declared.new_transaction.NewContent.TheVariants as new_content
use Rattle.zb_model.specs.declared.refusal.Refusal.{Refusal}
use Rattle.zb_model.specs.declared.refusal.Refusal.TheVariants as refusal
use Rattle.zb_model.specs.Database.{ObjectRevision, content_below, revision_below, revisions, serial_of}
use Rattle.zb_model.specs.Queries.{transaction_at}
use Rattle.zb_model.specs.Rules.{MergeRules}
use Rattle.zb_model.specs.Voting.{voted_content}

-- ---- what an object is, and what it was

-- the content of an object's last revision: nothing counts as Absent
abbrev pub last_content : ℕ → List Transaction → Content
last_content oid list = option_map_or (λ r. r.content) (last_or None (revisions oid list)) Absent

-- the content that it had before a transaction
abbrev pub content_before : ℕ → ℕ → List Transaction → Content
content_before oid tid list = unwrap_or (content_below oid tid list) Absent

-- both are gone, or their bytes are equal
abbrev pub is_same : Content → Content → Bool
is_same (Held one) (Held other) = bytes_eq one other
is_same (Held one) Absent = false
is_same Absent (Held other) = false
is_same Absent Absent = true

-- ---- what was written so far

abbrev pub is_new_of : ℕ → NewChange → Bool
is_new_of oid c = oid == c.oid

-- what is written of the object, if anything is
abbrev pub written_for : ℕ → List NewChange → Option NewChange
written_for oid written = find (is_new_of oid) written

-- a change among others: where the object stands already, at that place, with the new content; else behind them
abbrev pub with_change : List NewChange → NewChange → List NewChange
with_change [] c = c ∷ []
with_change (d ∷ written) c = if c.oid == d.oid then c ∷ written else d ∷ with_change written c

-- the content that an object has now: what is written of it, else that of its last revision
abbrev pub content_now : List Transaction → List NewChange → ℕ → Content
content_now list written oid = option_map_or (λ c. voted_content list oid c.content) (written_for oid written) (last_content oid list)

-- ---- one change

-- a revision's record is taken over by its serial; where there is none, nothing is there again
abbrev pub taken_from : ℕ → Content → NewContent
taken_from serial (Held bytes) = new_content.AsOf serial
taken_from serial Absent = new_content.Absent

abbrev pub taken_over : Option ObjectRevision → NewContent
taken_over None = new_content.Absent
taken_over (Some r) = taken_from r.serial r.content

-- what merging three records gives, if their rule makes something of them
abbrev pub merged_content : MergeRules → Content → Content → Content → Option (List ℕ)
merged_content rules (Held old) (Held committed) (Held stored) = if rules.has_rule stored then result_ok (rules.merged old committed stored) else None
merged_content rules (Held old) (Held committed) Absent = None
merged_content rules (Held old) Absent stored = None
merged_content rules Absent committed stored = None

-- the object's last revision is this transaction's, and nothing is written of it
abbrev pub is_untouched : List Transaction → ℕ → List NewChange → ℕ → Bool
is_untouched list tid written oid = (serial_of oid list == tid) && is_none (written_for oid written)

-- What goes in for a change of a transaction: what the object was before, where it is still what the transaction made it;
-- else that, merged with what it is now; else its undo is a conflict.
abbrev pub undone_content : MergeRules → List Transaction → ℕ → List NewChange → Change → Result NewContent Refusal
undone_content rules list tid written c =
    if is_untouched list tid written c.oid || is_same (content_now list written c.oid) c.content then Ok (taken_over (revision_below c.oid tid list))
    else ok_or (option_map new_content.Bytes (merged_content rules c.content (content_now list written c.oid) (content_before c.oid tid list))) (refusal.UndoConflict c.oid (serial_of c.oid list))

-- ---- transactions

-- a next step with what a step gave; a refusal ends them
abbrev pub then_with : {A B : Type 0} → Result A Refusal → (A → Result B Refusal) → Result B Refusal
then_with (Ok x) next = next x
then_with (Err why) next = Err why

-- the changes of a transaction, taken back one after another
abbrev pub undone_changes : MergeRules → List Transaction → ℕ → List NewChange → List Change → Result (List NewChange) Refusal
undone_changes rules list tid written [] = Ok written
undone_changes rules list tid written (c ∷ changes) =
    then_with (undone_content rules list tid written c) (λ content. undone_changes rules list tid (with_change written (record { oid = c.oid; content = content })) changes)

-- a transaction, taken back
abbrev pub undone_transaction : MergeRules → List Transaction → ℕ → List NewChange → Option Transaction → Result (List NewChange) Refusal
undone_transaction rules list tid written None = Err (refusal.UndoUnknown tid)
undone_transaction rules list tid written (Some t) = if t.packed then Err (refusal.UndoPacked tid) else undone_changes rules list tid written t.changes

-- each named transaction in turn, where what the earlier ones wrote stands
abbrev pub undone_from : MergeRules → List Transaction → List NewChange → List ℕ → Result (List NewChange) Refusal
undone_from rules list written [] = Ok written
undone_from rules list written (tid ∷ tids) = then_with (undone_transaction rules list tid written (transaction_at tid list)) (λ more. undone_from rules list more tids)

-- What undoing these transactions writes, or why it is refused. A content that is taken over is named by the serial that had it.
unfoldable pub undone_of : MergeRules → List Transaction → List ℕ → Result (List NewChange) Refusal
undone_of rules list tids = undone_from rules list [] tids
