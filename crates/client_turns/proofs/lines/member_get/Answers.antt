-- What the transaction of a client has of an object, of either kind.
use Rattle.std.proofs.Common.{subst, sym}
use Rattle.client_turns.specs.declared.member.Member.{Member}
use Rattle.client_turns.specs.declared.member.Member.TheVariants.{Near}
use Rattle.client_turns.specs.Lines.{outcome_of_result}
use Rattle.client_turns.specs.Standing.{TakesMemberRead}
use Rattle.client_turns.proofs.Telling.{near_reads, near_told}
use Rattle.client_turns.proofs.lines.member_get.Goals as goal

pub returns-in-Near-clause-read : goal.returns-in-Near-clause-read
returns-in-Near-clause-read g c =
    subst (λ (z : Member). TakesMemberRead g.St.Store.told c.args.oid c.get_of.result c.args.hub.now c.get_of.new.hub z (Near c.get_of.new.client) (g.C.Clock.stamps c.args.clock.now) (g.C.Clock.stamps c.get_of.new.clock)) (sym c.in-Near.is)
    (near_reads g.St.Store.told c.args.oid c.get_of.result c.args.hub.now c.get_of.new.hub _ _ _ _ c.get_of.ensures.read)

pub returns-in-Near-clause-hub : goal.returns-in-Near-clause-hub
returns-in-Near-clause-hub g c = near_told g.St.Store.told g.St.Store.lasts g.St.Store.stands (outcome_of_result c.get_of.result) c.args.hub.now c.get_of.new.hub c.args.member.now c.get_of.ensures.hub
