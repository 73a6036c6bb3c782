use Rattle.std.proofs.Common.{ap, ◌∙◌}
use Rattle.std.proofs.lemmas.List.{take_all}
use Rattle.fs_index_file.specs.Counts.{nothing_counted}
use Rattle.fs_index_file.proofs.Summing.{nothing_next}
use Rattle.fs_index_file.proofs.counting.none_counted.Goals as goal

pub each-preserved : goal.each-preserved
each-preserved c = nothing_next c.args.starts.now c.each._start-index c._start-item.result c.each.counted.items _ c.each-test.true c.each.invariant c.in_ok-push.ensures.items

pub returns : goal.returns
returns c = c.each.invariant ∙ ap nothing_counted (take_all c.each._start-index c.args.starts.now c.each-test.false)
