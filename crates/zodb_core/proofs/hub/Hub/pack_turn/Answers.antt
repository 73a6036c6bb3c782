use Rattle.std.proofs.Common.{rules, refl}
use Rattle.zodb_core.specs.declared.request.Request.TheVariants as request
use Rattle.zodb_core.specs.HubState.{rules_of}
use Rattle.zodb_core.proofs.Switches.{moments_turned, turn_taken}
use Rattle.zodb_core.proofs.Votes.{leaves_now, moments_same}
use Rattle.zodb_core.proofs.hub.Hub.pack_turn.Goals as goal

pub returns-in-Some-clause-any_moment : goal.returns-in-Some-clause-any_moment
returns-in-Some-clause-any_moment g c = λ lasts told m stands.
    let s = g.St.Store.state c.self.inside.store in
    moments_same g.St.Store.stands (rules_of g.R.Resolver.rules g.F.Refs.named c.args.self.now) m c.args.session request.PackTurn c.args.self.now c.args.self.now.store.log stands (search rules)
    (leaves_now g.St.Store.stands c.args.self.now.store s c.args.self.now.store.log (search rules) (g.met.St.Store.lasting c.self.inside.store lasts (search rules)) refl)

pub returns-in_default-copying-clause-step : goal.returns-in_default-copying-clause-step
returns-in_default-copying-clause-step g c = λ told m stands stamps.
    turn_taken (rules_of g.R.Resolver.rules g.F.Refs.named c.args.self.now) _ m c.args.session c.in-Some-take.pack c.mark_on.result c.args.self.now _ c.mark_on.new.self stamps stands (c.mark_on.ensures.step told m)
    (search rules) (search rules)

pub returns-then-copying-clause-step : goal.returns-then-copying-clause-step
returns-then-copying-clause-step g c = λ told m stands stamps.
    turn_taken (rules_of g.R.Resolver.rules g.F.Refs.named c.args.self.now) _ m c.args.session c.in-Some-take.pack c.switch_on.result c.args.self.now _ c.switch_on.new.self stamps stands (c.switch_on.ensures.step told m)
    (search rules) (search rules)

pub returns-clause-step : goal.returns-clause-step
returns-clause-step g c = λ told m stands stamps.
    turn_taken (rules_of g.R.Resolver.rules g.F.Refs.named c.args.self.now) _ m c.args.session c.in-Some-take.pack c.copy_on.result c.args.self.now _ c.copy_on.new.self stamps stands (c.copy_on.ensures.step told m)
    (search rules) (search rules)

pub returns-clause-any_moment : goal.returns-clause-any_moment
returns-clause-any_moment g c = λ lasts told m stands.
    let s = g.St.Store.state c.self.inside.store in
    moments_turned g.St.Store.stands (rules_of g.R.Resolver.rules g.F.Refs.named c.args.self.now) m c.args.session s c.args.self.now _ c.copy_on.new.self.store.log stands (c.copy_on.ensures.main lasts)
    (search rules) (search rules) (search rules) (g.met.St.Store.lasting c.self.inside.store lasts (search rules))
