use Rattle.std.proofs.Common.{refl}
use Rattle.zb_model.specs.StayLaws.{stays_same}
use Rattle.zb_volume.specs.declared.areas.Area.TheVariants.{Side}
use Rattle.side_by_side.proofs.Going.{noted, unnoted, untaken}
use Rattle.side_by_side.proofs.clients.SideBySide.answer.Goals as goal

pub returns-then-is_err-clause-moments : goal.returns-then-is_err-clause-moments
returns-then-is_err-clause-moments g c = λ lasts told m stands.
    untaken g.St.Store.stands m c.args.turn.now c.args.self.now.clients (g.C.Clock.stamps c.args.self.now.clock.now) stands (c.args.self.now.whole c.requires.goes_on) (c.lasting.ensures.lasting lasts (c.args.self.now.whole c.requires.goes_on))

pub returns-then-is_err-clause-side : goal.returns-then-is_err-clause-side
returns-then-is_err-clause-side g c = λ lasts quiet. stays_same Side _ _ refl

pub returns-in-Err-clause-err : goal.returns-in-Err-clause-err
returns-in-Err-clause-err g c = λ told m stands.
    unnoted m c.args.turn.now c.args.is_last c.take_turn.result c.in-Err.why c.args.self.now.taken.items c.reserve.new.self.items c.take_turn.new.self (g.C.Clock.stamps c.take_turn.new.clock)
    (c.take_turn.ensures.turn told m stands) c.in-Err.is c.reserve.ensures.items

pub returns-clause-ok : goal.returns-clause-ok
returns-clause-ok g c = λ told m stands.
    noted c.args.self.now.clients (g.C.Clock.stamps c.args.self.now.clock.now) (c.free_turns_are_served.ensures (c.args.self.now.whole c.requires.goes_on)) c.args.number m c.args.turn.now c.args.is_last c.take_turn.result c.in-Ok.answer
    c.args.self.now.taken.items c.reserve.new.self.items c.note.new.taken.items c.take_turn.new.self (g.C.Clock.stamps c.take_turn.new.clock)
    stands c.requires.free (c.take_turn.ensures.turn told m stands) c.in-Ok.is c.reserve.ensures.items c.note.ensures
