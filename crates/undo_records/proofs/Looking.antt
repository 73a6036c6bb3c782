-- What a store's look-ups say of contents.
use Rattle.std.proofs.Common.{◌≡◌, ℕ, ◌+◌, ◌<◌, Bool, true, false, eqb, List, Option, Some, None, refl, sym, ap, ◌∙◌, arith}
use Rattle.std.specs.Prelude.{unwrap_or, option_map}
use Rattle.std.specs.Option.{option_map_or}
use Rattle.zb_model.specs.declared.data.Content.{Content}
use Rattle.zb_model.specs.declared.data.Content.TheVariants.{Held, Absent}
use Rattle.zb_model.specs.declared.data.Transaction.{Transaction}
use Rattle.zb_model.specs.Database.{IsDatabase, ObjectRevision, newest_tid, revision_below}
use Rattle.zb_model.specs.Queries.{end_of, found_below, found_of}
use Rattle.zb_model.specs.Voting.{content_as_of}
use Rattle.undo_records.specs.Reading.{content_found, content_found_at, found_taken_over}
use Rattle.undo_records.specs.Undone.{content_before, last_content, taken_over}
use Rattle.zb_model.specs.SerialLaws.{at_is, exact, last_is, none_spent}

-- the content of a revision, if there is one
abbrev content_in : Option ObjectRevision → Content
content_in o = option_map_or (λ r. r.content) o Absent

found_content : (o : Option ObjectRevision) (end : Option ℕ) → content_found (found_of o end) ≡ content_in o
found_content None end = refl
found_content (Some r) end = by_content r.content refl
  where
    by_content : (c : Content) → r.content ≡ c → content_found (found_of (Some r) end) ≡ r.content
    by_content (Held bytes) e = rw e refl
    by_content Absent e = rw e refl

content_of_option : (o : Option ObjectRevision) → unwrap_or (option_map (λ r. r.content) o) Absent ≡ content_in o
content_of_option None = refl
content_of_option (Some r) = refl

pub before_is : (oid tid : ℕ) (list : List Transaction) → content_found (found_below oid tid list) ≡ content_before oid tid list
before_is oid tid list = found_content (revision_below oid tid list) (end_of oid tid list) ∙ sym (content_of_option (revision_below oid tid list))

pub last_content_is : (oid : ℕ) (list : List Transaction) → IsDatabase list → content_found (found_below oid (newest_tid list + 1) list) ≡ last_content oid list
last_content_is oid list is = found_content (revision_below oid (newest_tid list + 1) list) (end_of oid (newest_tid list + 1) list) ∙ ap content_in (last_is oid list is)

taken_of : (o : Option ObjectRevision) (end : Option ℕ) → found_taken_over (found_of o end) ≡ taken_over o
taken_of None end = refl
taken_of (Some r) end = by_content r.content refl
  where
    by_content : (c : Content) → r.content ≡ c → found_taken_over (found_of (Some r) end) ≡ taken_over (Some r)
    by_content (Held bytes) e = rw e refl
    by_content Absent e = rw e refl

pub taken_is : (oid tid : ℕ) (list : List Transaction) → found_taken_over (found_below oid tid list) ≡ taken_over (revision_below oid tid list)
taken_is oid tid list = taken_of (revision_below oid tid list) (end_of oid tid list)

found_at : (s : ℕ) (o : Option ObjectRevision) (end : Option ℕ) → content_found_at s (found_of o end) ≡ content_in (exact s o)
found_at s None end = refl
found_at s (Some r) end = by_cases (eqb r.serial s) r.content refl refl
  where
    by_cases : (b : Bool) (c : Content) → eqb r.serial s ≡ b → r.content ≡ c → content_found_at s (found_of (Some r) end) ≡ content_in (exact s (Some r))
    by_cases true (Held bytes) e f = grind (arith, e, f)
    by_cases true Absent e f = grind (arith, e, f)
    by_cases false (Held bytes) e f = grind (arith, e, f)
    by_cases false Absent e f = grind (arith, e, f)

pub as_of_is : (oid s : ℕ) (list : List Transaction) → IsDatabase list → content_found_at s (found_below oid (s + 1) list) ≡ content_as_of oid s list
as_of_is oid s list is = found_at s (revision_below oid (s + 1) list) (end_of oid (s + 1) list) ∙ ap content_in (sym (at_is oid s list is))

pub as_of_none : (oid s : ℕ) (list : List Transaction) → newest_tid list < s → IsDatabase list → content_as_of oid s list ≡ Absent
as_of_none oid s list l is = ap content_in (none_spent oid s list l is)
