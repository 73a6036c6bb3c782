-- A link, and the end of the tuple.
use Rattle.std.proofs.Common.{◌++◌, ◌∙◌, ap, sym}
use Rattle.btree_family.specs.Classes.{class_seen}
use Rattle.bucket_state.specs.Flat.{link_text, next_text}
use Rattle.bucket_state.proofs.FlatPieces.{next_appended}
use Rattle.bucket_state.proofs.flat.with_next.Goals as goal

pub returns-in_ok-push-in-Some : goal.returns-in_ok-push-in-Some
returns-in_ok-push-in-Some c =
    next_appended c.args.text (link_text c.in-Some.oid c.args.row.now.module.now c.args.row.now.name.now) c.in_ok-text-in-Some.text c.push-in-Some.new.self c.in_ok-text-in-Some.ensures c.in_ok-push-in-Some.ensures.ok
    ∙ ap (λ o. c.args.text ++ next_text (class_seen c.args.row.now) o) (sym c.in-Some.is)
