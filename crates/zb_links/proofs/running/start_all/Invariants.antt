use Rattle.std.proofs.Common.{◌≡◌, map}
use Rattle.zb_links.proofs.running.start_all.Given as goal

abbrev pub invariant-starting : goal.invariant-starting
invariant-starting g l =
    (goal.iterator-starting g).can_next l.iterator' × (goal.iterator-starting g).is_finite l.iterator'
    × g.F.Feeder.later l.initial.feeder l.feeder
    × (g.F.Feeder.given l.feeder ≡ map (λ one. one.handle.promise.0.value) l.started.items)
