-- A number that a client with a link draws.
use Rattle.std.proofs.Common.{inr, refl}
use Rattle.zodb_core.specs.Outcomes.{NoMemory}
use Rattle.client_turns.specs.declared.member.Member.TheVariants.{Far}
use Rattle.client_turns.specs.Lines.{outcome_of_result}
use Rattle.client_turns.proofs.Telling.{far_draws, far_told, lost_told, starved_draw}
use Rattle.client_turns.proofs.trees.draw_far.Goals as goal

pub returns-then-far-clause-draw : goal.returns-then-far-clause-draw
returns-then-far-clause-draw g c = starved_draw g.St.Store.told c.args.hub.now (Far c.args.far.now) (g.C.Clock.stamps c.args.clock.now)

pub returns-then-far-clause-hub : goal.returns-then-far-clause-hub
returns-then-far-clause-hub g c = lost_told g.St.Store.told g.St.Store.lasts g.St.Store.stands NoMemory (inr refl) c.args.hub.now (Far c.args.far.now)

pub returns-clause-draw : goal.returns-clause-draw
returns-clause-draw g c =
    far_draws g.St.Store.told c.linked_number-number.result c.args.hub.now c.linked_number-number.new.hub c.args.far.now c.linked_number-number.new.client c.ends_run-far.result _ _
    c.if-far.false c.ends_run-far.ensures c.linked_number-number.ensures.draw c.linked_number-number.ensures.name c.linked_number-number.ensures.session

pub returns-clause-hub : goal.returns-clause-hub
returns-clause-hub g c =
    far_told g.St.Store.told g.St.Store.lasts g.St.Store.stands (outcome_of_result c.linked_number-number.result) c.args.hub.now c.linked_number-number.new.hub c.args.far.now c.if-far.false c.linked_number-number.ensures.hub
