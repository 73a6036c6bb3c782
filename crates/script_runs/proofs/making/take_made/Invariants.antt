use Rattle.std.proofs.Common.{◌≡◌, ◌<◌, ◌≤◌, false, length}
use Rattle.std.specs.List.{AllByRecursion}
use Rattle.zb_volume.specs.declared.areas.Area.TheVariants.{Side}
use Rattle.zb_volume.specs.Moments.{StaysAs}
use Rattle.client_turns.specs.Clients.{Moment}
use Rattle.client_turns.specs.Standing.{StandsForMoment}
use Rattle.gen_script.specs.Left.{IsReady, lines_left}
use Rattle.gen_script.specs.Script.{gen_lines}
use Rattle.script_runs.specs.Made.{MadeSoFar}
use Rattle.script_runs.proofs.MadeSides.{PacksNot}
use Rattle.script_runs.proofs.MadeTurns.{MayCount}
use Rattle.script_runs.proofs.making.take_made.Given as goal

abbrev pub invariant-taking : goal.invariant-taking
invariant-taking g l =
    let C = g.C.Clock in
    let St = g.St.Store in
    record {
      came : St.told → (m : Moment) → StandsForMoment l.fn.clients (C.stamps l.fn.clock) m → m.machine.failed ≡ false
          → MadeSoFar St.lasts St.stands m (gen_lines l.rounds) (lines_left l.turns) l.tally l.fn.clients.hub.store.log l.clients (C.stamps l.clock);
      ready : IsReady l.turns;
      may : MayCount l.tally (lines_left l.turns);
      whole : l.fn.clients.hub.store.broken ≡ false → l.clients.hub.store.broken ≡ false;
      quiet : l.rounds < 100 → AllByRecursion PacksNot (lines_left l.turns);
      side : St.lasts → l.rounds < 100 → StaysAs Side l.fn.clients.hub.store.log l.clients.hub.store.log;
      read_counted : l.fn.clients.hub.store.read_faults ≤ l.clients.hub.store.read_faults;
      counted : l.fn.clients.hub.store.faults ≤ l.clients.hub.store.faults;
      others : l.clients.hub.store.faults ≡ l.fn.clients.hub.store.faults;
    }

abbrev pub decreases-taking : goal.decreases-taking
decreases-taking g l = length (lines_left l.turns)
