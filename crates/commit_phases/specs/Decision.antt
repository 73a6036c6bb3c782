-- What a vote decides. Source: `tryToResolveConflict`, `checkCurrentSerialInTransaction` and `deleteObject` of ZODB; the order is own.
use Rattle.std.specs.Prelude.{ℕ, List, [], ◌∷◌, Option, Some, None, Result, Ok, Err, ◌==◌, if◌then◌else◌, nat_lt, map, option_map, sum}
use Rattle.std.specs.List.{find, last_or}
use Rattle.std.specs.Option.{option_or}
use Rattle.zb_model.specs.declared.data.Change.{Change}
use Rattle.zb_model.specs.declared.data.Content.{Content}
use Rattle.zb_model.specs.declared.data.Content.TheVariants.{Held, Absent}
use Rattle.zb_model.specs.declared.data.Transaction.{Transaction}
use Rattle.zb_model.specs.declared.pending.PendingStore.{PendingStore}
use Rattle.zb_model.specs.declared.pending.PendingCheck.{PendingCheck}
use Rattle.zb_model.specs.declared.refusal.Refusal.{Refusal}
use Rattle.zb_model.specs.declared.refusal.Refusal.TheVariants as refusal
use Rattle.zb_model.specs.declared.refusal.Why.{Why}
use Rattle.zb_model.specs.declared.refusal.Why.TheVariants as why
use Rattle.zb_model.specs.Database.{ObjectRevision, revisions, serial_of}
use Rattle.zb_model.specs.Rules.{MergeRules}
use Rattle.zb_model.specs.Voting.{revision_at}
use Rattle.commit_phases.specs.Pending.{PendingChanges, length_of_content, object_limit, transaction_limit}

-- ---- one store or delete

-- the object's record, where it is there
abbrev pub held_record : Content → Option (List ℕ)
held_record (Held bytes) = Some bytes
held_record Absent = None

-- the record of a revision, if there is one and the object was there
abbrev pub revision_record : Option ObjectRevision → Option (List ℕ)
revision_record None = None
revision_record (Some r) = held_record r.content

-- the record that an object has now, and the one of its revision with this serial
abbrev pub current_record : ℕ → List Transaction → Option (List ℕ)
current_record oid list = revision_record (last_or None (revisions oid list))

abbrev pub record_with_serial : ℕ → ℕ → List Transaction → Option (List ℕ)
record_with_serial oid serial list = revision_record (revision_at oid serial list)

-- what merging gives, where the object is there now and was there at the base
abbrev pub merge_held : MergeRules → Option (List ℕ) → Option (List ℕ) → List ℕ → Result (List ℕ) Why
merge_held rules None old stored = Err why.Gone
merge_held rules (Some committed) None stored = Err why.NoOld
merge_held rules (Some committed) (Some old) stored = rules.merged old committed stored

-- what goes in for these bytes of an object where their base isn't its serial, or why nothing does
abbrev pub resolution_of : MergeRules → List Transaction → ℕ → ℕ → List ℕ → Result (List ℕ) Why
resolution_of rules list oid base stored =
    if rules.has_rule stored then merge_held rules (current_record oid list) (record_with_serial oid base list) stored
    else Err why.NoRule

-- bytes whose base is the object's serial go in
abbrev pub goes_in : MergeRules → List Transaction → ℕ → ℕ → List ℕ → Result (List ℕ) Why
goes_in rules list oid base stored = if base == serial_of oid list then Ok stored else resolution_of rules list oid base stored

-- the change that writes these bytes, or the conflict that names the object, the base, its serial now and the reason
abbrev pub change_or_conflict : List Transaction → ℕ → ℕ → Result (List ℕ) Why → Result Change Refusal
change_or_conflict list oid base (Ok bytes) = Ok (record { oid = oid; content = Held bytes })
change_or_conflict list oid base (Err reason) = Err (refusal.Conflict oid base (serial_of oid list) reason)

-- what a delete becomes, by the record that the object has now: where it has none there is nothing to delete, and a base that isn't the object's
-- serial is a conflict, since a delete is never merged
abbrev pub change_of_delete : List Transaction → ℕ → ℕ → Option (List ℕ) → Result Change Refusal
change_of_delete list oid base None = Err (refusal.NothingToDelete oid (serial_of oid list))
change_of_delete list oid base (Some held) =
    if base == serial_of oid list then Ok (record { oid = oid; content = Absent })
    else Err (refusal.Conflict oid base (serial_of oid list) why.NoRule)

-- what a store of these bytes becomes, or a delete
abbrev pub change_of_content : MergeRules → List Transaction → ℕ → ℕ → Content → Result Change Refusal
change_of_content rules list oid base (Held bytes) = change_or_conflict list oid base (goes_in rules list oid base bytes)
change_of_content rules list oid base Absent = change_of_delete list oid base (current_record oid list)

abbrev pub change_of_store : MergeRules → List Transaction → PendingStore → Result Change Refusal
change_of_store rules list p = change_of_content rules list p.oid p.base p.content

-- ---- all stores and deletes

-- a change ahead of others; the first conflict refuses them all
abbrev pub ahead_of_changes : Result Change Refusal → Result (List Change) Refusal → Result (List Change) Refusal
ahead_of_changes (Err r) rest = Err r
ahead_of_changes (Ok change) (Err r) = Err r
ahead_of_changes (Ok change) (Ok changes) = Ok (change ∷ changes)

-- what stores and deletes become, in their order
abbrev pub changes_of_stores : MergeRules → List Transaction → List PendingStore → Result (List Change) Refusal
changes_of_stores rules list [] = Ok []
changes_of_stores rules list (p ∷ stores) = ahead_of_changes (change_of_store rules list p) (changes_of_stores rules list stores)

-- ---- checks, and lengths

-- the first check whose serial isn't the object's
abbrev pub failed_check : List Transaction → List PendingCheck → Option Refusal
failed_check list [] = None
failed_check list (c ∷ checks) =
    if c.serial == serial_of c.oid list then failed_check list checks
    else Some (refusal.ReadConflict c.oid c.serial (serial_of c.oid list))

-- the first of these lengths that passes the limit of an object, else their sum where it passes that of a transaction
abbrev pub excess_of : List ℕ → Option ℕ
excess_of lengths = option_or (find (nat_lt object_limit) lengths) (if nat_lt transaction_limit (sum lengths) then Some (sum lengths) else None)

abbrev pub too_long : List Change → Option Refusal
too_long changes = option_map (λ n. refusal.TooLong n) (excess_of (map (λ c. length_of_content c.content) changes))

-- ---- the decision

abbrev pub unless_refused : List Change → Option Refusal → Result (List Change) Refusal
unless_refused changes None = Ok changes
unless_refused changes (Some r) = Err r

-- the changes that stores and deletes become go in unless a check fails, and after that unless they are too long
abbrev pub unless_checks_fail : List Transaction → List PendingCheck → Result (List Change) Refusal → Result (List Change) Refusal
unless_checks_fail list checks (Err r) = Err r
unless_checks_fail list checks (Ok changes) = unless_refused changes (option_or (failed_check list checks) (too_long changes))

-- what a vote writes, or why it is refused: for the first store or delete that can't go in, else for the first check that fails, else for the lengths of what would go in
unfoldable pub vote_decision : MergeRules → List Transaction → PendingChanges → Result (List Change) Refusal
vote_decision rules list pending = unless_checks_fail list pending.checks (changes_of_stores rules list pending.stores)
