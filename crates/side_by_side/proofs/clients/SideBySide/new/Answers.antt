use Rattle.std.proofs.Common.{refl}
use Rattle.side_by_side.proofs.Ends.{starts}
use Rattle.side_by_side.proofs.clients.SideBySide.new.Goals as goal

pub returns-clause-play : goal.returns-clause-play
returns-clause-play g c =
    let St = g.St.Store in
    let C = g.C.Clock in
    rw c.new.ensures.items
    (starts St.told St.lasts St.stands (St.state c.args.store) c.new-clients.result (C.stamps c.args.clock.now) _ c.args.lines.items c.requires.whole c.new-clients.ensures.store refl
    c.new-clients.ensures.moment (λ lasts whole. g.met.St.Store.lasting c.args.store lasts whole))
