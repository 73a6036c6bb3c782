use Rattle.std.proofs.Common.{◌∙◌}
use Rattle.script_runs.proofs.LastLines.{six_pieces}
use Rattle.script_runs.proofs.making.summary_text.Goals as goal

pub returns : goal.returns
returns c =
    c.from_vec.ensures
    ∙ six_pieces _ _ _ _ _ _ _ _ _ _ _ _ _ _ c.new-text.ensures.items c.in_ok-push_number.ensures c.in_ok-push_number-2.ensures c.in_ok-push_number-3.ensures c.in_ok-push_number-4.ensures c.in_ok-push_number-5.ensures c.in_ok-push_number-6.ensures
    c.in_ok-push.ensures.items
