use Rattle.std.proofs.Common.{◌≡◌, Err, ap, ◌∙◌}
use Rattle.std.specs.Prelude.{slice_set}
use Rattle.side_by_side.proofs.Going.{broke_off, err_same, went_on}
use Rattle.side_by_side.proofs.Places.{one_fewer, others_kept}
use Rattle.side_by_side.proofs.clients.SideBySide.take_line.Goals as goal

pub returns-in-Ok-clause-takes : goal.returns-in-Ok-clause-takes
returns-in-Ok-clause-takes g c = λ b so_far.
    let St = g.St.Store in
    let C = g.C.Clock in
    let old = c.args.self.now in
    let new = c.answer.new.self in
    let set : new.lines.items ≡ slice_set old.lines.items c.args.client c.take_first.new.self = ap (λ v. v.items) c.answer.ensures.lines in
    went_on St.told St.lasts St.stands b c.args.client c.in-Some.turn.now c.in-Some.is_last old.lines.items new.lines.items c.index_mut.result.now c.take_first.new.self
    c.index_mut.ensures.value c.requires.left c.in-Some.ensures.first c.take_first.ensures.name c.in-Some.ensures.last set
    old.clients new.clients (C.stamps old.clock.now) (C.stamps new.clock.now) old.taken.items new.taken.items old.ended c.requires.goes_on so_far
    c.answer.ensures.read_counted c.answer.ensures.counted c.answer.ensures.side c.answer.ensures.moments
    new.ended c.in-Ok.ensures.on c.in-Ok.ensures.stays (c.in-Ok.ensures.others (λ never. absurd cc)) c.in-Ok.ensures.ok

pub returns-in-Err-clause-takes : goal.returns-in-Err-clause-takes
returns-in-Err-clause-takes g c = λ b so_far.
    let St = g.St.Store in
    let C = g.C.Clock in
    let old = c.args.self.now in
    let new = c.answer.new.self in
    let set : new.lines.items ≡ slice_set old.lines.items c.args.client c.take_first.new.self = ap (λ v. v.items) c.answer.ensures.lines in
    broke_off St.told St.lasts St.stands b c.args.client c.in-Some.turn.now c.in-Some.is_last old.lines.items new.lines.items c.index_mut.result.now c.take_first.new.self
    c.index_mut.ensures.value c.requires.left c.in-Some.ensures.first c.take_first.ensures.name c.in-Some.ensures.last set
    old.clients new.clients (C.stamps old.clock.now) (C.stamps new.clock.now) old.taken.items new.taken.items old.ended c.requires.goes_on so_far
    c.answer.ensures.read_counted c.answer.ensures.counted c.answer.ensures.side c.answer.ensures.moments
    new.ended c.in-Err.why c.in-Err.ensures.ended (λ is. c.answer.ensures.failed (c.in-Err.is ∙ ap Err is)) (λ other. c.answer.ensures.others (λ failed. other (err_same c.in-Err.why _ c.answer.result c.in-Err.is failed))) c.in-Err.ensures.err

pub returns-in-Ok-clause-one : goal.returns-in-Ok-clause-one
returns-in-Ok-clause-one g c =
    one_fewer c.args.self.now.lines.items c.answer.new.self.lines.items c.args.client c.index_mut.result.now c.take_first.new.self c.in-Some.turn.now
    c.index_mut.ensures.value c.requires.left c.in-Some.ensures.first (ap (λ v. v.items) c.answer.ensures.lines)

pub returns-in-Err-clause-one : goal.returns-in-Err-clause-one
returns-in-Err-clause-one g c =
    one_fewer c.args.self.now.lines.items c.answer.new.self.lines.items c.args.client c.index_mut.result.now c.take_first.new.self c.in-Some.turn.now
    c.index_mut.ensures.value c.requires.left c.in-Some.ensures.first (ap (λ v. v.items) c.answer.ensures.lines)

pub returns-in-Ok-clause-others : goal.returns-in-Ok-clause-others
returns-in-Ok-clause-others g c = λ other differs.
    others_kept c.args.self.now.lines.items c.answer.new.self.lines.items c.args.client other c.take_first.new.self differs (ap (λ v. v.items) c.answer.ensures.lines)

pub returns-in-Err-clause-others : goal.returns-in-Err-clause-others
returns-in-Err-clause-others g c = λ other differs.
    others_kept c.args.self.now.lines.items c.answer.new.self.lines.items c.args.client other c.take_first.new.self differs (ap (λ v. v.items) c.answer.ensures.lines)
