use Rattle.std.proofs.Common.{Some, ap, ◌∙◌, arith}
use Rattle.fs_index.proofs.Finding.{none_below, one_below}
use Rattle.fs_index.proofs.search.last_before.Goals as goal

pub returns-then-n-eq0 : goal.returns-then-n-eq0
returns-then-n-eq0 c = none_below c.args.front c.args.places.now c.count_below-n.result c.count_below-n.ensures.first c.if-n-eq0.true

pub returns : goal.returns
returns c =
    ap Some c.index-places-n.is ∙ one_below c.args.front c.args.places.now c.count_below-n.result c.index-places-n.result c.count_below-n.ensures.within c.count_below-n.ensures.first (omega arith)
