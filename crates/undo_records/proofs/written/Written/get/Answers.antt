use Rattle.std.proofs.Common.{List, option_map, ap, ◌∙◌}
use Rattle.zb_model.specs.declared.new_transaction.NewChange.{NewChange}
use Rattle.undo_records.specs.Undone.{written_for}
use Rattle.undo_records.proofs.Writing.{lookup_is}
use Rattle.undo_records.proofs.written.Written.get.Goals as goal

pub returns : goal.returns
returns c =
    c.get.ensures.value
    ∙ lookup_is c.args.oid c.self.inside.contents.entries
    ∙ ap (λ (w : List NewChange). option_map (λ (d : NewChange). d.content) (written_for c.args.oid w)) c.self.view_is
