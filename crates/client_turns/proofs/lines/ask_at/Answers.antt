-- A line of the client at a place, whatever it has.
use Rattle.std.proofs.Common.{refl, subst, sym}
use Rattle.zodb_core.specs.HubState.{rules_of}
use Rattle.client_turns.specs.declared.member.Member.{Member}
use Rattle.client_turns.specs.Lines.{outcome_of_answer}
use Rattle.client_turns.specs.Standing.{TakesMember}
use Rattle.client_turns.proofs.Handing.{HubLeft}
use Rattle.client_turns.proofs.Placing.{same_at, some_at}
use Rattle.client_turns.proofs.lines.ask_at.Goals as goal

pub member_line-requires-clause-asked : goal.member_line-requires-clause-asked
member_line-requires-clause-asked g c = c.requires.asked c.index_mut.result.now (sym (some_at c.args.clients.now.items c.args.at c.index_mut.result.now c.requires.place c.index_mut.ensures.value))

pub returns-clause-line : goal.returns-clause-line
returns-clause-line g c = λ x there. (
  c.member_line.new.member,
  refl,
  subst (λ (z : Member). TakesMember g.St.Store.told (rules_of g.R.Resolver.rules g.F.Refs.named c.args.hub.now) c.args.line.now c.member_line.result c.args.hub.now c.member_line.new.hub z c.member_line.new.member (g.C.Clock.stamps c.args.clock.now) (g.C.Clock.stamps c.member_line.new.clock))
      (same_at c.args.clients.now.items c.args.at x c.index_mut.result.now there c.index_mut.ensures.value) c.member_line.ensures.line,
)

pub returns-clause-hub : goal.returns-clause-hub
returns-clause-hub g c = λ x there.
    subst (λ (z : Member). HubLeft g.St.Store.told g.St.Store.lasts g.St.Store.stands (rules_of g.R.Resolver.rules g.F.Refs.named c.args.hub.now) z c.args.line.now (outcome_of_answer c.member_line.result) c.args.hub.now c.member_line.new.hub)
    (same_at c.args.clients.now.items c.args.at x c.index_mut.result.now there c.index_mut.ensures.value) c.member_line.ensures.hub
