-- Whatever a database says of an object is a record or nothing, and so is what a new transaction becomes. For the proofs of those who keep stores.
use Rattle.std.proofs.Common.{◌≡◌, ℕ, ⊎_elim, Bool, true, false, List, [], ◌∷◌, map, filter, Option, Some, None}
use Rattle.std.specs.Prelude.{All}
use Rattle.std.specs.List.{AllByRecursion, cons_option, find, last_or}
use Rattle.std.specs.Option.{option_map, option_map_or}
use Rattle.std.proofs.lemmas.Bool.{cases_Bool}
use Rattle.std.proofs.lemmas.List.Elements.{All-from_recursion, recursion_from_All}
use Rattle.zb_model.specs.declared.data.Content.TheVariants.{Absent}
use Rattle.zb_model.specs.declared.data.Change.{Change}
use Rattle.zb_model.specs.declared.data.Transaction.{Transaction}
use Rattle.zb_model.specs.declared.new_transaction.NewChange.{NewChange}
use Rattle.zb_model.specs.declared.new_transaction.NewContent.{NewContent}
use Rattle.zb_model.specs.declared.new_transaction.NewContent.TheVariants as new_content
use Rattle.zb_model.specs.Database.{IsDatabase, IsRecord, ObjectRevision, change_in, is_change_of, revisions}
use Rattle.zb_model.specs.Voting.{IsFilled, content_as_of, has_serial, voted_change, voted_content}

abbrev pub ChangesToRecord : Change → Type 0
ChangesToRecord c = IsRecord c.content

abbrev pub HasRecords : Transaction → Type 0
HasRecords t = All ChangesToRecord t.changes

abbrev pub IsRevisionRecord : ObjectRevision → Type 0
IsRevisionRecord r = IsRecord r.content

abbrev MayChangeToRecord : Option Change → Type 0
MayChangeToRecord None = Unit {0}
MayChangeToRecord (Some c) = IsRecord c.content

last_record : (p : Change → Bool) (o : Option Change) (cs : List Change) → MayChangeToRecord o → AllByRecursion ChangesToRecord cs → MayChangeToRecord (last_or o (filter p cs))
last_record p o [] now all = now
last_record p o (c ∷ cs) now all =
    ⊎_elim (λ (e : p c ≡ true). rw e (last_record p (Some c) cs all.0 all.1)) (λ (e : p c ≡ false). rw e (last_record p o cs now all.1)) (cases_Bool (p c))

one_record : (tid : ℕ) (o : Option Change) (rest : List ObjectRevision) → MayChangeToRecord o → AllByRecursion IsRevisionRecord rest
    → AllByRecursion IsRevisionRecord (cons_option (option_map (λ (c : Change). record { serial = tid; content = c.content }) o) rest)
one_record tid None rest here all = all
one_record tid (Some c) rest here all = (here, all)

all_records : (oid : ℕ) (list : List Transaction) → AllByRecursion HasRecords list → AllByRecursion IsRevisionRecord (revisions oid list)
all_records oid [] all = tt
all_records oid (t ∷ list) all =
    one_record t.tid (change_in oid t.changes) (revisions oid list) (last_record (is_change_of oid) None t.changes tt (recursion_from_All ChangesToRecord t.changes all.0)) (all_records oid list all.1)

-- each revision of an object is a record or nothing
pub revisions_are_records : (oid : ℕ) (list : List Transaction) → IsDatabase list → AllByRecursion IsRevisionRecord (revisions oid list)
revisions_are_records oid list is = all_records oid list (recursion_from_All HasRecords list is.filled)

found_record : (p : ObjectRevision → Bool) (rs : List ObjectRevision) → AllByRecursion IsRevisionRecord rs → IsRecord (option_map_or (λ r. r.content) (find p rs) Absent)
found_record p [] all = tt
found_record p (r ∷ rs) all =
    ⊎_elim (λ (e : p r ≡ true). rw e all.0) (λ (e : p r ≡ false). rw e (found_record p rs all.1)) (cases_Bool (p r))

-- and so is the content of a revision with a serial
pub as_of_is_record : (oid serial : ℕ) (list : List Transaction) → IsDatabase list → IsRecord (content_as_of oid serial list)
as_of_is_record oid serial list is = found_record (has_serial serial) (revisions oid list) (revisions_are_records oid list is)

-- what a new content becomes
pub voted_is_record : (list : List Transaction) (oid : ℕ) (content : NewContent) → IsDatabase list → IsFilled content → IsRecord (voted_content list oid content)
voted_is_record list oid (new_content.Bytes bytes) is filled = filled
voted_is_record list oid new_content.Absent is filled = tt
voted_is_record list oid (new_content.AsOf serial) is filled = as_of_is_record oid serial list is

voted_each : (list : List Transaction) (changes : List NewChange) → IsDatabase list → AllByRecursion (λ (c : NewChange). IsFilled c.content) changes → AllByRecursion ChangesToRecord (map (voted_change list) changes)
voted_each list [] is all = tt
voted_each list (c ∷ changes) is all = (voted_is_record list c.oid c.content is all.0, voted_each list changes is all.1)

-- and what all changes of a new transaction become
pub voted_are_records : (list : List Transaction) (changes : List NewChange) → IsDatabase list → All (λ (c : NewChange). IsFilled c.content) changes → All ChangesToRecord (map (voted_change list) changes)
voted_are_records list changes is all =
    All-from_recursion ChangesToRecord (map (voted_change list) changes) (voted_each list changes is (recursion_from_All (λ (c : NewChange). IsFilled c.content) changes all))
