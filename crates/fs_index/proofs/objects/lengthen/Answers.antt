use Rattle.std.proofs.Common.{◌∙◌}
use Rattle.std.specs.Prelude.{is_ok}
use Rattle.fs_index.proofs.Alone.{alone_pushed}
use Rattle.fs_index.proofs.objects.lengthen.Goals as goal

pub more-preserved : goal.more-preserved
more-preserved c = record {
  same = alone_pushed (is_ok c.push.result) c.more.alone.items c.push.new.self.items c.no_place.result c.no_place.ensures c.push.ensures.items ∙ c.more.invariant.same;
}
