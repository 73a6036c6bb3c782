use Rattle.std.proofs.Common.{rules}
use Rattle.zodb_core.specs.declared.request.Request.TheVariants as request
use Rattle.zodb_core.specs.HubState.{rules_of}
use Rattle.zodb_core.specs.Steps.{without_vote}
use Rattle.zodb_core.proofs.Votes.{close_dropped, counts_stand, moments_same_as}
use Rattle.zodb_core.proofs.hub.Hub.close.Goals as goal

pub returns-clause-any_moment : goal.returns-clause-any_moment
returns-clause-any_moment g c = λ lasts told m stands.
    moments_same_as g.St.Store.stands (rules_of g.R.Resolver.rules g.F.Refs.named c.args.self.now) m c.args.session request.Close c.args.self.now c.drop_vote.new.self.store.log (g.St.Store.state c.self.inside.store).log stands (search rules) (c.drop_vote.ensures.any_moment lasts told) (search rules)

pub returns-clause-step : goal.returns-clause-step
returns-clause-step g c = λ told m stands stamps.
    let dropped = c.drop_vote.new.self in
    let freed = c.drop_pack.new.self in
    close_dropped (rules_of g.R.Resolver.rules g.F.Refs.named c.args.self.now) m c.args.session c.args.self.now freed _ stamps stands (search rules) (search rules)
    (counts_stand c.args.self.now.store dropped.store (g.St.Store.state c.self.inside.store) (search rules) (search rules) (search rules) (search rules))
    (c.drop_pack.ensures.dropped (without_vote m c.args.session) (search (c.in-Ok.ensures.dropped told m stands))) c.drop_pack.ensures.whole
    (search rules) (search rules) (search rules) (search rules) (search rules) (search rules)
