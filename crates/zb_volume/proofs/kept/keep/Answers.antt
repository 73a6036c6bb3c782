use Rattle.std.proofs.Common.{[]}
use Rattle.zb_volume.proofs.Log.{calls_from-push}
use Rattle.zb_volume.proofs.kept.keep.Goals as goal

pub returns-clause-ok : goal.returns-clause-ok
returns-clause-ok c = rw c.in_ok-push.ensures.items (calls_from-push [] c.args.calls.now.items c.args.call)
