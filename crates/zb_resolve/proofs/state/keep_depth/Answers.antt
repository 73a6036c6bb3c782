use Rattle.zb_resolve.proofs.state.keep_depth.Goals as goal

pub returns-clause-bucket : goal.returns-clause-bucket
returns-clause-bucket c = λ class bucket e. c.states_keep_their_depth.ensures.read class c.args.state.now bucket c.nodes-nodes.ensures.graph e c.requires.whole
