use Rattle.std.proofs.Common.{rules, ◌≡◌, None}
use Rattle.zb_model.specs.StayLaws.{stays_same}
use Rattle.zodb_core.specs.HubState.{rules_of}
use Rattle.zodb_core.specs.PacksGoOn.{newest_copied}
use Rattle.zodb_core.proofs.Turns.{fails_safely, fault_is, hub_keeps, none_kept, none_running, pack_begun, pack_unbegun}
use Rattle.zodb_core.proofs.hub.Hub.pack_begin.Goals as goal

pub returns-in-Some-clause-main : goal.returns-in-Some-clause-main
returns-in-Some-clause-main g c = λ lasts. stays_same _ _ _ (search rules)

pub returns-then-le-clause-main : goal.returns-then-le-clause-main
returns-then-le-clause-main g c = λ lasts. stays_same _ _ _ (search rules)

pub returns-in_default-new-clause-main : goal.returns-in_default-new-clause-main
returns-in_default-new-clause-main g c = λ lasts. stays_same _ _ _ (search rules)

pub invariant_of-self : goal.invariant_of-self
invariant_of-self g c =
    let s = g.St.Store.state c.self.inside.store in
    let t = g.St.Store.state c.pack_begin.new.self in
    let named = g.F.Refs.named c.self.inside.refs in
    let journal = c.self.inside.journal.entries in
    let none : c.self.inside.pack ≡ None = none_running c.self.inside.pack (search rules) in
    hub_keeps g.St.Store.told s t journal c.self.inside.journal.capacity c.self.inside.changes c.self.inside.switches c.self.inside.journal.sessions c.self.inside.vote
    c.self.inside.pack c.self.inside.pack c.self.inside.failed _ named c.self.invariant (search rules) (search rules) (newest_copied s t (search rules)) (search (fault_is, rules))
    c.self.invariant.within
    (λ still. none_kept _ c.self.inside.pack none)

pub returns-in-Err-clause-step : goal.returns-in-Err-clause-step
returns-in-Err-clause-step g c = λ told m stands stamps.
    let rules_now = rules_of g.R.Resolver.rules g.F.Refs.named c.args.self.now in
    rw c.fault_reply.ensures
    (pack_unbegun rules_now m c.args.session c.args.tid c.newest.result c.tid_below-up_to.result c.pack_point-packed.result c.args.collect g.St.Store.told c.in-Err.error c.args.self.now _ stamps
    told stands (search rules) (search rules) (none_running c.args.self.now.pack (search rules)) (search (told, rules)) (search rules) (search (told, rules)) (search rules)
    (search rules) (search rules) (search rules) (search rules) (search rules) (search rules) (search rules) (search rules))

pub returns-in-Err-clause-safe : goal.returns-in-Err-clause-safe
returns-in-Err-clause-safe g c =
    rw c.fault_reply.ensures
    (fails_safely c.in-Err.error c.args.self.now _ (search rules) (search rules) (search rules) (search rules) (search rules))

pub returns-clause-step : goal.returns-clause-step
returns-clause-step g c = λ told m stands stamps.
    let rules_now = rules_of g.R.Resolver.rules g.F.Refs.named c.args.self.now in
    pack_begun rules_now m c.args.session c.args.tid c.newest.result c.tid_below-up_to.result c.pack_point-packed.result c.args.collect c.in-Ok.marker c.args.self.now _ stamps
    stands (search rules) (search rules) (none_running c.args.self.now.pack (search rules)) (search (told, rules)) (search rules) (search (told, rules)) (search rules) (search rules)
    (search rules) (search rules) (search (told, rules)) (search (told, rules)) (search rules) (search rules) (search rules) (search rules) (search rules)
