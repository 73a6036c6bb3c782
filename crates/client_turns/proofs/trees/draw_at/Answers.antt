-- A number that the client at a place draws.
use Rattle.std.proofs.Common.{refl, subst, sym}
use Rattle.client_turns.specs.declared.member.Member.{Member}
use Rattle.client_turns.specs.Lines.{outcome_of_result}
use Rattle.client_turns.specs.OverQuestions.{ReadsLinked}
use Rattle.client_turns.specs.Gathering.{TakesMemberDraw}
use Rattle.client_turns.specs.Standing.{MayBeThere}
use Rattle.client_turns.proofs.Placing.{same_at, some_at}
use Rattle.client_turns.proofs.trees.draw_at.Goals as goal

pub draw_of-requires : goal.draw_of-requires
draw_of-requires g c = record { linked = c.requires.linked c.index_mut.result.now (sym (some_at c.args.clients.now.items c.args.at c.index_mut.result.now c.requires.place c.index_mut.ensures.value)) }

pub returns-clause-draw : goal.returns-clause-draw
returns-clause-draw g c = λ x there. (
  c.draw_of.new.member,
  refl,
  subst (λ (z : Member). TakesMemberDraw g.St.Store.told c.draw_of.result c.args.hub.now c.draw_of.new.hub z c.draw_of.new.member (g.C.Clock.stamps c.args.clock.now) (g.C.Clock.stamps c.draw_of.new.clock))
      (same_at c.args.clients.now.items c.args.at x c.index_mut.result.now there c.index_mut.ensures.value) c.draw_of.ensures.draw,
)

pub returns-clause-hub : goal.returns-clause-hub
returns-clause-hub g c = λ x there.
    subst (λ (z : Member). ReadsLinked (g.St.Store.told × MayBeThere c.args.hub.now z) g.St.Store.lasts g.St.Store.stands (outcome_of_result c.draw_of.result) c.args.hub.now c.draw_of.new.hub)
    (same_at c.args.clients.now.items c.args.at x c.index_mut.result.now there c.index_mut.ensures.value) c.draw_of.ensures.hub
