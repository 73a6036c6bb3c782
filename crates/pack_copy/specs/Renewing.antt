-- A transaction of a list as one that is written anew, with each content in full. Source: own.
use Rattle.std.specs.Prelude.{ℕ, map, if◌then◌else◌}
use Rattle.zb_model.specs.declared.data.Content.{Content}
use Rattle.zb_model.specs.declared.data.Content.TheVariants.{Held, Absent}
use Rattle.zb_model.specs.declared.data.Change.{Change}
use Rattle.zb_model.specs.declared.data.Transaction.{Transaction}
use Rattle.zb_model.specs.declared.new_transaction.NewContent.{NewContent}
use Rattle.zb_model.specs.declared.new_transaction.NewContent.TheVariants as new_content
use Rattle.zb_model.specs.declared.new_transaction.NewChange.{NewChange}
use Rattle.zb_model.specs.declared.new_transaction.NewTransaction.{NewTransaction}

abbrev pub content_anew : Content → NewContent
content_anew (Held bytes) = new_content.Bytes bytes
content_anew Absent = new_content.Absent

abbrev pub change_anew : Change → NewChange
change_anew change = record { oid = change.oid; content = content_anew change.content }

-- the same changes, with the bytes of each record
abbrev pub anew : Transaction → NewTransaction
anew t = record {
  tid = t.tid;
  user = t.user;
  description = t.description;
  extension = t.extension;
  changes = map change_anew t.changes;
}

-- the status of a transaction in a file
abbrev pub status_of : Transaction → ℕ
status_of t = if t.packed then 112 else 32
