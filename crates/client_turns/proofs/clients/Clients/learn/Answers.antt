-- One more object is known.
use Rattle.std.proofs.Common.{[], Err, inr, refl}
use Rattle.zodb_core.specs.Outcomes.{Answered, NoMemory}
use Rattle.tree_attempts.specs.declared.attempt.Made.{Made}
use Rattle.client_turns.specs.Gathering.{MayLearn}
use Rattle.client_turns.specs.Lines.{outcome_of_result}
use Rattle.client_turns.specs.Standing.{MayReadFor}
use Rattle.client_turns.proofs.Advancing.{learns, may_now, reads_for, unlearned, unseen}
use Rattle.client_turns.proofs.Telling.{calm_linked, retold}
use Rattle.client_turns.proofs.clients.Clients.learn.Goals as goal

pub returns-in-Err-clause-advances : goal.returns-in-Err-clause-advances
returns-in-Err-clause-advances g c = λ root op told m gathers asked.
    unseen m c.args.at root op c.args.self.now _ c.args.known.now [] gathers c.args.oid c.in-Err.why _ _ asked refl
    (c.in-Err.ensures.sight told gathers.now gathers.stands (may_now m c.args.at root op c.args.self.now _ c.args.known.now [] gathers))

pub returns-in-Ok-learn-clause-advances : goal.returns-in-Ok-learn-clause-advances
returns-in-Ok-learn-clause-advances g c = λ root op told m gathers asked.
    learns m c.args.at root op c.args.self.now _ c.args.known.now [] gathers c.args.oid c.in-Ok.seen _ _ _
    (c.in-Ok.ensures.sight told gathers.now gathers.stands (may_now m c.args.at root op c.args.self.now _ c.args.known.now [] gathers)) c.in-Ok-learn.ensures.known

pub returns-in-Err-learn-clause-advances : goal.returns-in-Err-learn-clause-advances
returns-in-Err-learn-clause-advances g c = λ root op told m gathers asked.
    unlearned m c.args.at root op c.args.self.now _ c.args.known.now [] gathers c.args.oid c.in-Ok.seen _ _
    (c.in-Ok.ensures.sight told gathers.now gathers.stands (may_now m c.args.at root op c.args.self.now _ c.args.known.now [] gathers))

pub returns-in-Err-clause-hub : goal.returns-in-Err-clause-hub
returns-in-Err-clause-hub g c =
    retold (g.St.Store.told × MayReadFor c.args.self.now (g.C.Clock.stamps c.args.clock.now) c.args.at) g.St.Store.lasts g.St.Store.stands
    (g.St.Store.told × MayLearn c.args.self.now (g.C.Clock.stamps c.args.clock.now) c.args.at c.args.known.now c.args.oid) (λ both. (both.0, reads_for both.1.2 c.args.at both.1.0 both.1.1 c.args.self.now _ c.args.known.now [] both.1.3)) (outcome_of_result {T = Made} (Err c.in-Err.why)) c.args.self.now.hub c.see.new.self.hub c.in-Err.ensures.hub

pub returns-in-Ok-learn-clause-hub : goal.returns-in-Ok-learn-clause-hub
returns-in-Ok-learn-clause-hub g c =
    retold (g.St.Store.told × MayReadFor c.args.self.now (g.C.Clock.stamps c.args.clock.now) c.args.at) g.St.Store.lasts g.St.Store.stands
    (g.St.Store.told × MayLearn c.args.self.now (g.C.Clock.stamps c.args.clock.now) c.args.at c.args.known.now c.args.oid) (λ both. (both.0, reads_for both.1.2 c.args.at both.1.0 both.1.1 c.args.self.now _ c.args.known.now [] both.1.3)) Answered c.args.self.now.hub c.see.new.self.hub c.in-Ok.ensures.hub

pub returns-in-Err-learn-clause-hub : goal.returns-in-Err-learn-clause-hub
returns-in-Err-learn-clause-hub g c =
    calm_linked (g.St.Store.told × MayLearn c.args.self.now (g.C.Clock.stamps c.args.clock.now) c.args.at c.args.known.now c.args.oid) g.St.Store.lasts g.St.Store.stands NoMemory (inr refl) c.args.self.now.hub c.see.new.self.hub
    (retold (g.St.Store.told × MayReadFor c.args.self.now (g.C.Clock.stamps c.args.clock.now) c.args.at) g.St.Store.lasts g.St.Store.stands
    (g.St.Store.told × MayLearn c.args.self.now (g.C.Clock.stamps c.args.clock.now) c.args.at c.args.known.now c.args.oid) (λ both. (both.0, reads_for both.1.2 c.args.at both.1.0 both.1.1 c.args.self.now _ c.args.known.now [] both.1.3)) Answered c.args.self.now.hub c.see.new.self.hub c.in-Ok.ensures.hub)
