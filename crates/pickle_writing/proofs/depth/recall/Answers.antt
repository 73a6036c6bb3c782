use Rattle.pickle_writing.proofs.Heights.{recalled_deep}
use Rattle.pickle_writing.proofs.depth.recall.Goals as goal

pub returns-then-height-levels-clause-err : goal.returns-then-height-levels-clause-err
returns-then-height-levels-clause-err c =
    λ e. recalled_deep c.args.nodes.now c.args.levels c.args.measured.now.heights c.args.node c.args.height c.requires.measured c.requires.known c.if-height-levels.true
