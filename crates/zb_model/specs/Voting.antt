-- What a new transaction makes of a list, and when it may be voted. Source: the two-phase commit of ZODB's storage
-- interfaces; `AsOf` is what `undo` and `restore` write.
use Rattle.std.specs.Prelude.{ℕ, ◌<◌, ◌≤◌, ◌-◌, ◌^◌, List, Option, Bool, ◌==◌, false, length, map, All, nat_eq}
use Rattle.std.specs.List.{find, IsDistinct}
use Rattle.std.specs.Option.{option_map_or, IsSomeAnd}
use Rattle.zb_model.specs.declared.data.Content.{Content}
use Rattle.zb_model.specs.declared.data.Content.TheVariants.{Held, Absent}
use Rattle.zb_model.specs.declared.data.Change.{Change}
use Rattle.zb_model.specs.declared.data.Transaction.{Transaction}
use Rattle.zb_model.specs.declared.new_transaction.NewContent.{NewContent}
use Rattle.zb_model.specs.declared.new_transaction.NewContent.TheVariants as new_content
use Rattle.zb_model.specs.declared.new_transaction.NewChange.{NewChange}
use Rattle.zb_model.specs.declared.new_transaction.NewTransaction.{NewTransaction}
use Rattle.zb_model.specs.Database.{ObjectRevision, revisions, newest_tid}

abbrev pub has_serial : ℕ → ObjectRevision → Bool
has_serial serial revision = revision.serial == serial

-- an object's revision with this serial
abbrev pub revision_at : ℕ → ℕ → List Transaction → Option ObjectRevision
revision_at oid serial list = find (has_serial serial) (revisions oid list)

-- the content that an object has in its revision with this serial, or Absent where it has none
abbrev pub content_as_of : ℕ → ℕ → List Transaction → Content
content_as_of oid serial list = option_map_or (λ r. r.content) (revision_at oid serial list) Absent

-- what a new content is, over a list
abbrev pub voted_content : List Transaction → ℕ → NewContent → Content
voted_content list oid (new_content.Bytes bytes) = Held bytes
voted_content list oid new_content.Absent = Absent
voted_content list oid (new_content.AsOf serial) = content_as_of oid serial list

abbrev pub voted_change : List Transaction → NewChange → Change
voted_change list change = record { oid = change.oid; content = voted_content list change.oid change.content }

-- the transaction that a new one becomes, over a list: each change in its place
abbrev pub voted_of : List Transaction → NewTransaction → Transaction
voted_of list new = record {
  tid = new.tid;
  packed = false;
  user = new.user;
  description = new.description;
  extension = new.extension;
  changes = map (voted_change list) new.changes;
}

-- an object's record is there
abbrev pub IsHeld : Content → Type 0
IsHeld (Held bytes) = Unit {0}
IsHeld Absent = ⊥

-- an earlier content is a record that the object had
abbrev pub NamesRevision : List Transaction → ℕ → NewContent → Type 0
NamesRevision list oid (new_content.Bytes bytes) = Unit {0}
NamesRevision list oid new_content.Absent = Unit {0}
NamesRevision list oid (new_content.AsOf serial) = IsSomeAnd (revision_at oid serial list) (λ r. IsHeld r.content)

-- new bytes aren't empty
abbrev pub IsFilled : NewContent → Type 0
IsFilled (new_content.Bytes bytes) = 0 < length bytes
IsFilled new_content.Absent = Unit {0}
IsFilled (new_content.AsOf serial) = Unit {0}

-- A new transaction by itself: its number has one after it, each text has a length of 16 bits, each object is named once, and no record is empty.
pub record IsWellFormed (new : NewTransaction) : Type 0 where
  pub tid : new.tid < 2 ^ 64 - 1
  pub user : length new.user ≤ 65535
  pub description : length new.description ≤ 65535
  pub extension : length new.extension ≤ 65535
  pub distinct : IsDistinct nat_eq (map (λ c. c.oid) new.changes)
  pub filled : All (λ c. IsFilled c.content) new.changes

-- a new transaction may be voted over a list: it is later, and what it takes over was there
pub record IsVotable (list : List Transaction) (new : NewTransaction) : Type 0 where
  pub later : newest_tid list < new.tid
  pub sound : All (λ c. NamesRevision list c.oid c.content) new.changes
