use Rattle.std.proofs.Common.{rules, ◌≡◌, ◌∙◌, ap, sym}
use Rattle.zb_script.specs.declared.line.Line.TheVariants as line
use Rattle.client_turns.proofs.OverCalls.{line_called, line_uncalled}
use Rattle.client_turns.proofs.over.line_over.Goals as goal

pub returns-in_default-from_slice-clause-line : goal.returns-in_default-from_slice-clause-line
returns-in_default-from_slice-clause-line g c = line_uncalled g.W.Carrier.told g.W.Carrier.steps g.W.Carrier.machine c.args.line.now c.args.connection.now _

pub returns-in-Load-clause-line : goal.returns-in-Load-clause-line
returns-in-Load-clause-line g c =
    line_called g.W.Carrier.told g.W.Carrier.steps g.W.Carrier.machine c.args.line.now (line.Load c.in-Load.oid) c.args.connection.now _ _ _ c.load_over.result c.in-Load.is c.load_over.ensures.line

pub returns-in-Get-clause-line : goal.returns-in-Get-clause-line
returns-in-Get-clause-line g c =
    line_called g.W.Carrier.told g.W.Carrier.steps g.W.Carrier.machine c.args.line.now (line.Get c.in-Get.oid) c.args.connection.now _ _ _ c.get_over.result c.in-Get.is c.get_over.ensures.line

pub returns-in-Vote-clause-line : goal.returns-in-Vote-clause-line
returns-in-Vote-clause-line g c =
    line_called g.W.Carrier.told g.W.Carrier.steps g.W.Carrier.machine c.args.line.now (line.Vote c.in-Vote.user c.in-Vote.description) c.args.connection.now _ _ _ c.vote_over.result c.in-Vote.is c.vote_over.ensures.line

pub returns-in-Deliver-clause-line : goal.returns-in-Deliver-clause-line
returns-in-Deliver-clause-line g c =
    line_called g.W.Carrier.told g.W.Carrier.steps g.W.Carrier.machine c.args.line.now line.Deliver c.args.connection.now _ _ _ c.deliver_over.result c.in-Deliver.is c.deliver_over.ensures.line

pub returns-in-Ok-clause-line : goal.returns-in-Ok-clause-line
returns-in-Ok-clause-line g c =
    let copied : c.in-Ok.bytes ≡ c.in-Put.bytes = search rules in
    line_called g.W.Carrier.told g.W.Carrier.steps g.W.Carrier.machine c.args.line.now (line.Put c.in-Put.oid c.in-Ok.bytes) c.args.connection.now _ _ _ c.put_over.result (c.in-Put.is ∙ ap (λ b. line.Put c.in-Put.oid b) (sym copied)) c.put_over.ensures.line

pub returns-in-Undo-clause-line : goal.returns-in-Undo-clause-line
returns-in-Undo-clause-line g c =
    let copied : c.as_slice-in-Undo.result.now ≡ c.in-Undo.tids = search rules in
    line_called g.W.Carrier.told g.W.Carrier.steps g.W.Carrier.machine c.args.line.now (line.Undo c.in-Undo.user c.in-Undo.description c.as_slice-in-Undo.result.now) c.args.connection.now _ _ _ c.undo_over.result (c.in-Undo.is ∙ ap (λ b. line.Undo c.in-Undo.user c.in-Undo.description b) (sym copied)) c.undo_over.ensures.line
