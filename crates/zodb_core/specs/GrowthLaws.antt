-- What a list that grows keeps: each state below a front that it had reached. For the proofs of those who read by fronts.
use Rattle.std.proofs.Common.{◌≡◌, ℕ, ◌+◌, ◌<◌, ◌≤◌, false, ltb, List, [], ◌∷◌, ◌++◌, filter, Option, Some, None, refl, ap, ◌∙◌, arith}
use Rattle.std.specs.List.{AllByRecursion, filter_map, last_or}
use Rattle.std.specs.Option.{option_map}
use Rattle.std.proofs.lemmas.Bool.{le-ltb}
use Rattle.std.proofs.lemmas.List.{append-nil}
use Rattle.std.proofs.lemmas.List.Elements.{filter-append, filter_map-append}
use Rattle.zb_model.specs.declared.data.Change.{Change}
use Rattle.zb_model.specs.declared.data.Transaction.{Transaction}
use Rattle.zb_model.specs.Database.{ObjectRevision, change_in, content_below, is_below, newest_tid, revision_below, revision_in, revisions}

-- transactions from a front on
abbrev pub AreFrom : ℕ → List Transaction → Type 0
AreFrom front list = AllByRecursion (λ t. front ≤ t.tid) list

-- they have no revision below it
pub none_below : (oid front : ℕ) (list : List Transaction) → AreFrom front list → filter (is_below front) (revisions oid list) ≡ []
none_below oid front [] from = refl
none_below oid front (t ∷ list) from = by_cases (change_in oid t.changes) refl (none_below oid front list from.1)
  where
    by_cases : (o : Option Change) → change_in oid t.changes ≡ o → filter (is_below front) (revisions oid list) ≡ [] → filter (is_below front) (filter_map (revision_in oid) (t ∷ list)) ≡ []
    by_cases None e rest = rw e rest
    by_cases (Some c) e rest =
        let above : ltb t.tid front ≡ false = le-ltb t.tid front from.0 in
        rw e (rw above rest)

-- what stood below a front stands there whatever comes behind
pub same_below : (oid front : ℕ) (list more : List Transaction) → AreFrom front more → filter (is_below front) (revisions oid (list ++ more)) ≡ filter (is_below front) (revisions oid list)
same_below oid front list more from =
    ap (filter (is_below front)) (filter_map-append (revision_in oid) list more)
    ∙ filter-append (is_below front) (revisions oid list) (revisions oid more)
    ∙ ap (λ (rs : List ObjectRevision). filter (is_below front) (revisions oid list) ++ rs) (none_below oid front more from)
    ∙ append-nil (filter (is_below front) (revisions oid list))

pub revision_behind : (oid front : ℕ) (list more : List Transaction) → AreFrom front more → revision_below oid front (list ++ more) ≡ revision_below oid front list
revision_behind oid front list more from = ap (λ (rs : List ObjectRevision). last_or None rs) (same_below oid front list more from)

-- later transactions leave each revision that is below the tid after the newest, and so each content
pub from_later : (list : List Transaction) (front : ℕ) (more : List Transaction) → front ≤ newest_tid list + 1 → AllByRecursion (λ t. newest_tid list < t.tid) more → AreFrom front more
from_later list front [] up later = tt
from_later list front (t ∷ more) up later = (omega (arith, up, later.0), from_later list front more up later.1)

pub revision_kept : (oid front : ℕ) (list more : List Transaction) → front ≤ newest_tid list + 1 → AllByRecursion (λ t. newest_tid list < t.tid) more → revision_below oid front (list ++ more) ≡ revision_below oid front list
revision_kept oid front list more up later = revision_behind oid front list more (from_later list front more up later)

pub content_kept : (oid front : ℕ) (list more : List Transaction) → front ≤ newest_tid list + 1 → AllByRecursion (λ t. newest_tid list < t.tid) more → content_below oid front (list ++ more) ≡ content_below oid front list
content_kept oid front list more up later = ap (option_map (λ (r : ObjectRevision). r.content)) (revision_kept oid front list more up later)

-- and so one later transaction
pub revision_kept_by_one : (oid front : ℕ) (list : List Transaction) (t : Transaction) → front ≤ newest_tid list + 1 → newest_tid list < t.tid → revision_below oid front (list ++ t ∷ []) ≡ revision_below oid front list
revision_kept_by_one oid front list t up later = revision_kept oid front list (t ∷ []) up (later, tt)

pub content_kept_by_one : (oid front : ℕ) (list : List Transaction) (t : Transaction) → front ≤ newest_tid list + 1 → newest_tid list < t.tid → content_below oid front (list ++ t ∷ []) ≡ content_below oid front list
content_kept_by_one oid front list t up later = content_kept oid front list (t ∷ []) up (later, tt)
