use Rattle.std.proofs.Common.{◌≡◌, []}
use Rattle.zb_links.proofs.running.run_in_turn.Given as goal

abbrev pub invariant-running : goal.invariant-running
invariant-running g l =
    (goal.iterator-running g).can_next l.iterator' × (goal.iterator-running g).is_finite l.iterator'
    × g.F.Feeder.later l.initial.feeder l.feeder
    × (g.F.Feeder.given l.feeder ≡ [])
