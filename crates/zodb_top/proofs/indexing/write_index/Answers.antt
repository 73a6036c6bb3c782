use Rattle.std.proofs.Common.{refl, ◌∙◌}
use Rattle.zb_volume.specs.Moments.{here}
use Rattle.zodb_top.proofs.Indexes.{tells_unread, unread_rose}
use Rattle.zodb_top.proofs.indexing.write_index.Goals as goal

pub returns-in_default-clause-stays : goal.returns-in_default-clause-stays
returns-in_default-clause-stays g c = λ told other not. here refl

pub returns-in-Err-ReadFault-clause-says : goal.returns-in-Err-ReadFault-clause-says
returns-in-Err-ReadFault-clause-says g c =
    tells_unread c.tell-in-Err-ReadFault.result g.V.Volume.told c.args.cut c.as_slice-in-Err-ReadFault.result.now _ _ _ _ _ _ (c.as_slice-in-Err-ReadFault.ensures ∙ c.in-Ok.ensures)
    (unread_rose _ _ c.in-Err-ReadFault.field-0 c.in-Err-ReadFault.field-0-is c.in-Err-ReadFault.ensures.cause.refused) c.tell-in-Err-ReadFault.ensures.told
