-- A line of a client, of either kind.
use Rattle.std.proofs.Common.{subst, sym}
use Rattle.zodb_core.specs.HubState.{rules_of}
use Rattle.client_turns.specs.declared.member.Member.{Member}
use Rattle.client_turns.specs.declared.member.Member.TheVariants.{Near}
use Rattle.client_turns.specs.Lines.{outcome_of_answer}
use Rattle.client_turns.specs.Standing.{TakesMember}
use Rattle.client_turns.proofs.Handing.{HubLeft, near_left}
use Rattle.client_turns.proofs.Stepping.{near_takes}
use Rattle.client_turns.proofs.lines.member_line.Goals as goal

pub returns-in-Near-clause-line : goal.returns-in-Near-clause-line
returns-in-Near-clause-line g c =
    subst (λ (z : Member). TakesMember g.St.Store.told (rules_of g.R.Resolver.rules g.F.Refs.named c.args.hub.now) c.args.line.now c.connection_line.result c.args.hub.now c.connection_line.new.hub z (Near c.connection_line.new.client) (g.C.Clock.stamps c.args.clock.now) (g.C.Clock.stamps c.connection_line.new.clock)) (sym c.in-Near.is)
    (near_takes g.St.Store.told (rules_of g.R.Resolver.rules g.F.Refs.named c.args.hub.now) c.args.line.now c.connection_line.result c.args.hub.now c.connection_line.new.hub _ _ _ _ c.connection_line.ensures.line)

pub returns-in-Near-clause-hub : goal.returns-in-Near-clause-hub
returns-in-Near-clause-hub g c =
    subst (λ (z : Member). HubLeft g.St.Store.told g.St.Store.lasts g.St.Store.stands (rules_of g.R.Resolver.rules g.F.Refs.named c.args.hub.now) z c.args.line.now (outcome_of_answer c.connection_line.result) c.args.hub.now c.connection_line.new.hub) (sym c.in-Near.is)
    (near_left g.St.Store.told g.St.Store.lasts g.St.Store.stands (rules_of g.R.Resolver.rules g.F.Refs.named c.args.hub.now) (Near c.in-Near.client) c.args.line.now (outcome_of_answer c.connection_line.result) c.args.hub.now c.connection_line.new.hub c.connection_line.ensures.hub)
