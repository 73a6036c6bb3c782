use Rattle.std.proofs.Common.{◌≡◌, ◌++◌, map, take}
use Rattle.zb_answers.specs.Answers.{dashed, reply_line}
use Rattle.zb_answers.specs.Lists.{revision_words}
use Rattle.zb_answers.proofs.answer.push_history.Given as goal

abbrev pub invariant-loop-item : goal.invariant-loop-item
invariant-loop-item l = l.lines ≡ l.fn.lines ++ map (reply_line l.client) (map (λ item. dashed (revision_words item)) (take l.item-index l.list))
