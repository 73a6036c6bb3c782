-- Laws of packing. Own.
use Rattle.std.specs.Prelude.{◌≡◌, ℕ, ◌<◌, ◌↔◌, List, ◌++◌, Option, None, Bool, true, IsTrue}
use Rattle.std.specs.List.{AllByRecursion}
use Rattle.std.specs.Option.{unwrap_or}
use Rattle.std.specs.Ordering.{nat_cmp}
use Rattle.std.specs.FinSet.{FinSet, contains}
use Rattle.zb_model.specs.declared.data.Content.{Content}
use Rattle.zb_model.specs.declared.data.Content.TheVariants.{Absent}
use Rattle.zb_model.specs.declared.data.Transaction.{Transaction}
use Rattle.zb_model.specs.declared.found.Found.TheVariants as found
use Rattle.zb_model.specs.Database.{IsDatabase, content_below}
use Rattle.zb_model.specs.Queries.{found_below}
use Rattle.zb_model.specs.Packing.{packed_by}
use Rattle.pack_reach.specs.Late.{overtaken}
use Rattle.pack_reach.specs.Packed.{kept, packed}
use Rattle.pack_reach.specs.Reach.{IsLeastUnreadable, IsReached, is_in, references_of}
use Rattle.pack_reach.specs.Reached.{reached, unreadable}

-- the computed objects are the reached ones
abbrev pub ReachedIsAll : Type 0
ReachedIsAll = (named : List ℕ → Option (List ℕ)) (t : ℕ) (list : List Transaction) (oid : ℕ) → IsTrue (contains (reached named t list) oid) ↔ IsReached named t list oid

-- the computed record is the least of those that the reach follows and that can't be read
abbrev pub UnreadableIsLeast : Type 0
UnreadableIsLeast = (named : List ℕ → Option (List ℕ)) (t : ℕ) (list : List Transaction) → IsLeastUnreadable named t list (unreadable named t list)

-- the content that an object has in the state below a front: nothing counts as Absent
abbrev pub state_content : ℕ → ℕ → List Transaction → Content
state_content oid front list = unwrap_or (content_below oid front list) Absent

-- above the pack's tid, a kept object has the same content in the packed list
abbrev pub PackKeepsContents : Type 0
PackKeepsContents = (collects : Bool) (named : List ℕ → Option (List ℕ)) (t front oid : ℕ) (list : List Transaction) → IsDatabase list → t < front → IsTrue (contains (kept collects named t list) oid)
    → state_content oid front (packed collects named t list) ≡ state_content oid front list

-- references lead from the root to an object, in the state below a front
pub data IsLedTo (named : List ℕ → Option (List ℕ)) (front : ℕ) (list : List Transaction) : ℕ → Type 0 where
  root : IsLedTo named front list 0
  next : (from oid : ℕ) → IsLedTo named front list from → IsTrue (is_in oid (references_of named (state_content from front list))) → IsLedTo named front list oid

-- above the pack's tid, a pack that collects keeps every object that references lead to from the root
abbrev pub StateIsReached : Type 0
StateIsReached = (named : List ℕ → Option (List ℕ)) (t front oid : ℕ) (list : List Transaction) → t < front → IsLedTo named front list oid → IsTrue (contains (kept true named t list) oid)

-- Where no commit overtakes a pack whose copying began over a front of the list, what it leaves of the grown list is what a
-- pack of that list leaves.
abbrev pub PackOutlastsCommits : Type 0
PackOutlastsCommits = (collects : Bool) (named : List ℕ → Option (List ℕ)) (t : ℕ) (front commits : List Transaction) → AllByRecursion (λ (x : Transaction). t < x.tid) commits → overtaken collects named (kept collects named t front) t front commits ≡ None
    → packed_by t (kept collects named t front) (front ++ commits) ≡ packed collects named t (front ++ commits)

-- A record that is found in a packed list, whatever is kept, is found in the list with the same serial and bytes, and its
-- next revision, or that there is none, is the same.
abbrev pub PackedRecordsStand : Type 0
PackedRecordsStand = (keep : FinSet nat_cmp) (t oid front serial : ℕ) (bytes : List ℕ) (end : Option ℕ) (list : List Transaction) → IsDatabase list
    → found_below oid front (packed_by t keep list) ≡ found.Held serial bytes end → found_below oid front list ≡ found.Held serial bytes end
