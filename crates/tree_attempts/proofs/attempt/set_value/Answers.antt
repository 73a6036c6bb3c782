-- A call that sets a key is refused.
use Rattle.std.proofs.Common.{length, refl}
use Rattle.tree_attempts.specs.Calls.{contents_of}
use Rattle.tree_attempts.proofs.Setting.{set_refused}
use Rattle.tree_attempts.proofs.attempt.set_value.Goals as goal

pub returns-in-Err-clause-ends : goal.returns-in-Err-clause-ends
returns-in-Err-clause-ends g c =
    set_refused (contents_of g.B.Sight.objects) _ c.args.space.now.puts c.args.space.now.calls.items _ c.args.root c.tree_at.result.root _ _ c.args.key c.args.value (length c.args.space.now.numbers.now) (length c.args.space.now.numbers.now) c.in-Err.error c.tree_at.ensures refl refl c.requires.empty c.requires.fresh c.in-Err.ensures.ways
