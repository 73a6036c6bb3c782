-- Attempts of a call.
use Rattle.std.proofs.Common.{◌≡◌, length}
use Rattle.zodb_core.specs.Outcomes.{Answered}
use Rattle.client_turns.specs.Clients.{Moment}
use Rattle.client_turns.specs.Gathering.{StandsGathering}
use Rattle.client_turns.specs.OverQuestions.{ReadsLinked}
use Rattle.client_turns.specs.Standing.{MayReadAt, MayReadFor, StandsForMoment}
use Rattle.client_turns.proofs.clients.Clients.call.Given as goal

abbrev pub invariant-loop-i : goal.invariant-loop-i
invariant-loop-i g l =
    let C = g.C.Clock in
    let St = g.St.Store in
    record {
      gathers : St.told → (m : Moment) → StandsForMoment l.fn.self (C.stamps l.fn.clock) m → MayReadAt m l.fn.at → StandsGathering l.self (C.stamps l.clock) m l.fn.at l.fn.root l.operation l.known l.numbers.items;
      hub : ReadsLinked (St.told × MayReadFor l.fn.self (C.stamps l.fn.clock) l.fn.at) St.lasts St.stands Answered l.fn.self.hub l.self.hub;
      kept : length l.self.clients ≡ length l.fn.self.clients;
    }
