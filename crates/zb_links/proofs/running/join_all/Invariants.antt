use Rattle.std.proofs.Common.{◌≡◌, ◌++◌, map, drop, vec_len}
use Rattle.zb_links.proofs.running.join_all.Given as goal

abbrev pub invariant-joining : goal.invariant-joining
invariant-joining g l =
    (goal.iterator-joining g).can_next l.one-iterator × (goal.iterator-joining g).is_finite l.one-iterator
    × g.F.Feeder.later l.initial.feeder l.feeder
    × (g.F.Feeder.has_ended l.initial.feeder → g.F.Feeder.has_ended l.feeder)
    × (g.F.Feeder.given l.feeder ≡ map (λ one. one.handle.promise.0.value) l.one-iterator.rest.items ++ drop (vec_len l.fn.started) (g.F.Feeder.given l.fn.feeder))
