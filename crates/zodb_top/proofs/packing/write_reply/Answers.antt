use Rattle.std.proofs.Common.{sym, ◌∙◌}
use Rattle.zodb_top.proofs.Packs.{says_line, says_read}
use Rattle.zodb_top.proofs.packing.write_reply.Goals as goal

pub returns-in-Ok-clause-says : goal.returns-in-Ok-clause-says
returns-in-Ok-clause-says g c =
    says_line c.tell.result c.args.reply c.in-Line.answer c.args.lines.now c.as_slice.result.now _ _ _ _ (sym c.told_of.ensures ∙ c.in-Line.is) (c.as_slice.ensures.value ∙ c.in-Ok.ensures) c.tell.ensures.told

pub returns-in-ReadFault-clause-says : goal.returns-in-ReadFault-clause-says
returns-in-ReadFault-clause-says g c = says_read c.tell-in-ReadFault.result c.args.reply c.args.lines.now _ _ _ _ (sym c.told_of.ensures ∙ c.in-ReadFault.is) c.tell-in-ReadFault.ensures.told
