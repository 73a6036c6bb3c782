use Rattle.std.proofs.Common.{arith, sym, ◌∙◌, length}
use Rattle.std.proofs.lemmas.List.{take_all, drop_all}
use Rattle.zb_script.proofs.Pieces.{pieces_here, pieces_end}
use Rattle.zb_script.proofs.cutting.first_line.Goals as goal

pub returns-in-Some-clause-pieces : goal.returns-in-Some-clause-pieces
returns-in-Some-clause-pieces c = pieces_here c.args.bytes.now _ _ c.in-Some.i (sym c.in-Some.ensures.place) c.split_at.ensures.front c.split_at-in-Some.ensures.back

pub returns-in-None-clause-pieces : goal.returns-in-None-clause-pieces
returns-in-None-clause-pieces c = pieces_end c.args.bytes.now _ _ (sym c.in-None.ensures.place) c.requires (c.split_at-in-None.ensures.front ∙ take_all (length c.args.bytes.now) c.args.bytes.now (omega arith)) (c.split_at-in-None.ensures.back ∙ drop_all (length c.args.bytes.now) c.args.bytes.now (omega arith))
