use Rattle.zb_resolve.specs.Classes.{rule_seen}
use Rattle.zb_resolve.proofs.Whole.{class_whole}
use Rattle.zb_resolve.proofs.merging.merge_by.Goals as goal

pub object_bytes-requires : goal.object_bytes-requires
object_bytes-requires c =
    class_whole (rule_seen c.args.rule) c.args.class c.args.stored.now c.in_ok-theirs.theirs c.in_ok-theirs.ensures.state c.requires.stored
