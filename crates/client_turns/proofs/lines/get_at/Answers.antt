-- What the transaction of the client at a place has of an object.
use Rattle.std.proofs.Common.{refl, subst}
use Rattle.client_turns.specs.declared.member.Member.{Member}
use Rattle.client_turns.specs.Lines.{outcome_of_result}
use Rattle.client_turns.specs.OverQuestions.{ReadsLinked}
use Rattle.client_turns.specs.Standing.{MayBeThere, TakesMemberRead}
use Rattle.client_turns.proofs.Placing.{same_at}
use Rattle.client_turns.proofs.lines.get_at.Goals as goal

pub returns-clause-read : goal.returns-clause-read
returns-clause-read g c = λ x there. (
  c.member_get.new.member,
  refl,
  subst (λ (z : Member). TakesMemberRead g.St.Store.told c.args.oid c.member_get.result c.args.hub.now c.member_get.new.hub z c.member_get.new.member (g.C.Clock.stamps c.args.clock.now) (g.C.Clock.stamps c.member_get.new.clock))
      (same_at c.args.clients.now.items c.args.at x c.index_mut.result.now there c.index_mut.ensures.value) c.member_get.ensures.read,
)

pub returns-clause-hub : goal.returns-clause-hub
returns-clause-hub g c = λ x there.
    subst (λ (z : Member). ReadsLinked (g.St.Store.told × MayBeThere c.args.hub.now z) g.St.Store.lasts g.St.Store.stands (outcome_of_result c.member_get.result) c.args.hub.now c.member_get.new.hub)
    (same_at c.args.clients.now.items c.args.at x c.index_mut.result.now there c.index_mut.ensures.value) c.member_get.ensures.hub
