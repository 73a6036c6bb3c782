-- What a look-up below a front answers is the record that an object has now, or the one that had a serial.
use Rattle.std.proofs.Common.{◌≡◌, ℕ, ◌+◌, ◌<◌, Bool, true, false, eqb, List, Option, Some, None, refl, ap, sym, ◌∙◌, arith}
use Rattle.zb_model.specs.declared.data.Content.{Content}
use Rattle.zb_model.specs.declared.data.Content.TheVariants.{Held, Absent}
use Rattle.zb_model.specs.declared.data.Transaction.{Transaction}
use Rattle.zb_model.specs.Database.{IsDatabase, ObjectRevision, newest_tid, revision_below}
use Rattle.zb_model.specs.Queries.{end_of, found_below, found_of}
use Rattle.zb_model.specs.SerialLaws.{exact, last_is, none_spent as no_revision}
use Rattle.zb_model.specs.SerialLaws as serials
use Rattle.commit_phases.specs.Decision.{record_with_serial, current_record, revision_record}
use Rattle.commit_phases.specs.Resolving.{bytes_alone, bytes_with, held_of}

held_found : (o : Option ObjectRevision) (end : Option ℕ) → bytes_alone (held_of (found_of o end)) ≡ revision_record o
held_found None end = refl
held_found (Some r) end = by_content r.content refl
  where
    by_content : (c : Content) → r.content ≡ c → bytes_alone (held_of (found_of (Some r) end)) ≡ revision_record (Some r)
    by_content (Held bytes) e = rw e refl
    by_content Absent e = rw e refl

-- above the newest tid the object's record is found
pub current_is : (oid : ℕ) (list : List Transaction) → IsDatabase list → bytes_alone (held_of (found_below oid (newest_tid list + 1) list)) ≡ current_record oid list
current_is oid list is =
    held_found (revision_below oid (newest_tid list + 1) list) (end_of oid (newest_tid list + 1) list) ∙ ap revision_record (last_is oid list is)

held_with : (s : ℕ) (o : Option ObjectRevision) (end : Option ℕ) → bytes_with s (held_of (found_of o end)) ≡ revision_record (exact s o)
held_with s None end = refl
held_with s (Some r) end = by_cases (eqb r.serial s) r.content refl refl
  where
    by_cases : (b : Bool) (c : Content) → eqb r.serial s ≡ b → r.content ≡ c → bytes_with s (held_of (found_of (Some r) end)) ≡ revision_record (exact s (Some r))
    by_cases true (Held bytes) e f = grind (arith, e, f)
    by_cases true Absent e f = grind (arith, e, f)
    by_cases false (Held bytes) e f = grind (arith, e, f)
    by_cases false Absent e f = grind (arith, e, f)

-- right above a serial the record with this serial is found, or another
pub at_is : (oid s : ℕ) (list : List Transaction) → IsDatabase list → bytes_with s (held_of (found_below oid (s + 1) list)) ≡ record_with_serial oid s list
at_is oid s list is =
    held_with s (revision_below oid (s + 1) list) (end_of oid (s + 1) list) ∙ ap revision_record (sym (serials.at_is oid s list is))

-- none has a serial above the newest
pub none_spent : (oid s : ℕ) (list : List Transaction) → newest_tid list < s → IsDatabase list → record_with_serial oid s list ≡ None
none_spent oid s list l is = ap revision_record (no_revision oid s list l is)
