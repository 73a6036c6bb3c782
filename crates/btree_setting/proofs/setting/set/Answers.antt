use Rattle.std.proofs.Common.{Ok, subst}
use Rattle.btree_setting.specs.Ends.{SetsWithin}
use Rattle.btree_setting.proofs.Answering.{never_lacks}
use Rattle.btree_setting.proofs.setting.set.Goals as goal

pub returns-in-Ok-Lacks-clause-ways : goal.returns-in-Ok-Lacks-clause-ways
returns-in-Ok-Lacks-clause-ways g c =
    let f = g.S.Space.contents c.args.space.now in
    let f' = g.S.Space.contents c.set_within.new.space in
    let log = g.S.Space.log c.args.space.now in
    let log' = g.S.Space.log c.set_within.new.space in
    never_lacks g.S.Space.told f f' log log' c.args.root c.args.sizes c.args.key c.args.value 18446744073709551615
    (subst (λ end. SetsWithin g.S.Space.told f f' log log' c.args.root c.args.sizes c.args.key c.args.value 18446744073709551615 (Ok end)) c.in-Ok-Lacks.field-0-is
    (subst (λ r. SetsWithin g.S.Space.told f f' log log' c.args.root c.args.sizes c.args.key c.args.value 18446744073709551615 r) c.in-Ok-Lacks.is c.set_within.ensures.ways))
