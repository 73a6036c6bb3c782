use Rattle.btree_putting.proofs.Tried.{is_kept, some_case}
use Rattle.btree_putting.proofs.trying.keep_tried.Goals as goal

pub returns : goal.returns
returns c =
    is_kept _ _ c.args.put c.in-Some.object c.in-Some-2.written (some_case _ _ _ _ c.in-Some.is c.in_ok-object.ensures)
    (some_case _ _ _ _ c.in-Some-2.is c.in_ok-written.ensures)
