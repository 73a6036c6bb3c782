use Rattle.std.proofs.Common.{ap, ◌∙◌}
use Rattle.std.specs.Prelude.{is_ok}
use Rattle.fs_index.specs.Places.{PlacesKept}
use Rattle.fs_index.proofs.Slots.{pushed_none}
use Rattle.fs_index.proofs.several.lengthen.Goals as goal

pub more-preserved : goal.more-preserved
more-preserved c = record {
  same = pushed_none (is_ok c.push.result) c.more.slots.items c.push.new.self.items c.none.result (ap (λ (k : PlacesKept). k.places) c.none.ensures) c.push.ensures.items ∙ c.more.invariant.same;
}
