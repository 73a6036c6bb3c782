-- What the transaction of a client with a link has of an object.
use Rattle.std.proofs.Common.{inr, refl}
use Rattle.zodb_core.specs.Outcomes.{NoMemory}
use Rattle.client_turns.specs.declared.member.Member.TheVariants.{Far}
use Rattle.client_turns.specs.Lines.{outcome_of_result}
use Rattle.client_turns.proofs.Telling.{far_reads, far_told, lost_told, starved_read}
use Rattle.client_turns.proofs.lines.far_get.Goals as goal

pub returns-then-far-clause-read : goal.returns-then-far-clause-read
returns-then-far-clause-read g c = starved_read g.St.Store.told c.args.oid c.args.hub.now (Far c.args.far.now) (g.C.Clock.stamps c.args.clock.now)

pub returns-then-far-clause-hub : goal.returns-then-far-clause-hub
returns-then-far-clause-hub g c = lost_told g.St.Store.told g.St.Store.lasts g.St.Store.stands NoMemory (inr refl) c.args.hub.now (Far c.args.far.now)

pub returns-clause-read : goal.returns-clause-read
returns-clause-read g c =
    far_reads g.St.Store.told c.args.oid c.linked_get-read.result c.args.hub.now c.linked_get-read.new.hub c.args.far.now c.linked_get-read.new.client c.ends_run-far.result _ _
    c.if-far.false c.ends_run-far.ensures c.linked_get-read.ensures.read c.linked_get-read.ensures.name c.linked_get-read.ensures.session

pub returns-clause-hub : goal.returns-clause-hub
returns-clause-hub g c =
    far_told g.St.Store.told g.St.Store.lasts g.St.Store.stands (outcome_of_result c.linked_get-read.result) c.args.hub.now c.linked_get-read.new.hub c.args.far.now c.if-far.false c.linked_get-read.ensures.hub
