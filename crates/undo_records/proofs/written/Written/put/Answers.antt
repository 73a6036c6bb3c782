use Rattle.std.proofs.Common.{List, All, nat_eq, subst, sym, ap, ◌∙◌}
use Rattle.std.specs.List.{IsDistinct}
use Rattle.zb_model.specs.declared.new_transaction.NewChange.{NewChange}
use Rattle.zb_model.specs.Voting.{IsFilled}
use Rattle.undo_records.specs.Undone.{with_change}
use Rattle.undo_records.specs.Written.{changes_in}
use Rattle.undo_records.proofs.Writing.{filled_with, insert_is, oids_are}
use Rattle.undo_records.proofs.written.Written.put.Goals as goal

pub invariant_of-self-2 : goal.invariant_of-self-2
invariant_of-self-2 c =
    let entries = c.self.inside.contents.entries in
    let one : NewChange = record { oid = c.args.oid; content = c.args.content } in
    record {
      distinct = subst (IsDistinct nat_eq) (sym (oids_are c.insert.new.self.entries)) c.insert.ensures.unique;
      filled = subst (λ (cs : List NewChange). All (λ d. IsFilled d.content) cs)
          (sym (ap changes_in c.in_ok-insert.ensures.entries ∙ insert_is entries c.args.oid c.args.content))
          (filled_with (changes_in entries) one c.self.invariant.filled c.requires);
    }

pub returns-clause-ok : goal.returns-clause-ok
returns-clause-ok c =
    ap changes_in c.in_ok-insert.ensures.entries
    ∙ insert_is c.self.inside.contents.entries c.args.oid c.args.content
    ∙ ap (λ (w : List NewChange). with_change w (record { oid = c.args.oid; content = c.args.content })) c.self.view_is
