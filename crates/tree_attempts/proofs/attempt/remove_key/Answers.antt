-- A call that removes a key is refused.
use Rattle.std.proofs.Common.{length}
use Rattle.tree_attempts.specs.Calls.{contents_of}
use Rattle.tree_attempts.proofs.Setting.{remove_ended}
use Rattle.tree_attempts.proofs.attempt.remove_key.Goals as goal

pub returns-in-Err-clause-ends : goal.returns-in-Err-clause-ends
returns-in-Err-clause-ends g c =
    remove_ended (contents_of g.B.Sight.objects) _ c.args.space.now.puts c.args.space.now.calls.items _ c.args.root c.tree_at.result.root c.args.key.now (length c.args.space.now.numbers.now) c.in-Err.error c.tree_at.ensures c.requires.empty c.requires.fresh c.in-Err.ensures.ways
