-- Objects, one after another.
use Rattle.std.proofs.Common.{◌≡◌, ◌≤◌, ℕ, [], length}
use Rattle.std.specs.Prelude.{All}
use Rattle.zodb_core.specs.Outcomes.{Answered}
use Rattle.tree_attempts.specs.declared.operation.TreeOperation.{TreeOperation}
use Rattle.client_turns.specs.Clients.{Moment}
use Rattle.client_turns.specs.OverQuestions.{ReadsLinked}
use Rattle.client_turns.specs.Gathering.{MayLearnAll, IsAskedOf, StandsGathering}
use Rattle.client_turns.proofs.clients.Clients.learn_all.Given as goal

abbrev pub invariant-loop-oid : goal.invariant-loop-oid
invariant-loop-oid g l =
    let C = g.C.Clock in
    let St = g.St.Store in
    record {
      gathers : (root : ℕ) (op : TreeOperation) → St.told → (m : Moment) → StandsGathering l.fn.self (C.stamps l.fn.clock) m l.at root op l.fn.known [] → All (IsAskedOf m l.at root op) l.fn.oids → StandsGathering l.self (C.stamps l.clock) m l.at root op l.known [];
      hub : ReadsLinked (St.told × MayLearnAll l.fn.self (C.stamps l.fn.clock) l.fn.at l.fn.known l.oids) St.lasts St.stands Answered l.fn.self.hub l.self.hub;
      kept : length l.self.clients ≡ length l.fn.self.clients;
      grows : length l.fn.known ≤ length l.known;
    }
