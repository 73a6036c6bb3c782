-- A line of a client with a link.
use Rattle.std.proofs.Common.{◌∙◌, false, ap}
use Rattle.std.specs.Prelude.{is_some}
use Rattle.zodb_core.specs.HubState.{rules_of}
use Rattle.client_turns.specs.declared.member.Member.TheVariants.{Far}
use Rattle.client_turns.specs.Lines.{end_of, outcome_of_answer}
use Rattle.client_turns.proofs.Handing.{far_left, lost_left}
use Rattle.client_turns.proofs.Stepping.{far_takes_at, starved_member}
use Rattle.client_turns.proofs.lines.far_line.Goals as goal

pub returns-then-far-clause-line : goal.returns-then-far-clause-line
returns-then-far-clause-line g c = starved_member g.St.Store.told (rules_of g.R.Resolver.rules g.F.Refs.named c.args.hub.now) c.args.line.now c.args.hub.now (Far c.args.far.now) (g.C.Clock.stamps c.args.clock.now)

pub returns-then-far-clause-hub : goal.returns-then-far-clause-hub
returns-then-far-clause-hub g c = lost_left g.St.Store.told g.St.Store.lasts g.St.Store.stands (rules_of g.R.Resolver.rules g.F.Refs.named c.args.hub.now) (Far c.args.far.now) c.args.line.now c.args.hub.now

pub returns-clause-line : goal.returns-clause-line
returns-clause-line g c =
    far_takes_at g.St.Store.told (rules_of g.R.Resolver.rules g.F.Refs.named c.args.hub.now) c.args.line.now c.link_line-answer.result c.args.hub.now c.link_line-answer.new.hub c.args.far.now c.link_line-answer.new.client c.is_some-far.result _ _
    c.if-far.false (c.is_some-far.ensures ∙ ap is_some c.end_of.ensures) c.link_line-answer.ensures.line c.link_line-answer.ensures.name c.link_line-answer.ensures.session

pub returns-clause-hub : goal.returns-clause-hub
returns-clause-hub g c =
    far_left g.St.Store.told g.St.Store.lasts g.St.Store.stands (rules_of g.R.Resolver.rules g.F.Refs.named c.args.hub.now) c.args.far.now c.args.line.now (outcome_of_answer c.link_line-answer.result) c.args.hub.now c.link_line-answer.new.hub c.if-far.false c.link_line-answer.ensures.hub
