use Rattle.std.proofs.Common.{rules}
use Rattle.zodb_core.specs.declared.request.Request.TheVariants as request
use Rattle.zodb_core.specs.HubState.{rules_of}
use Rattle.zodb_core.specs.Packing.{goal_of}
use Rattle.zodb_core.specs.SwitchLaws.{pack_keeps_seen}
use Rattle.zodb_core.proofs.Switching.{marks_refused, moments_through, packs_to, stands_marked, through_switch}
use Rattle.zodb_core.proofs.Votes.{leaves_now, moments_same}
use Rattle.zodb_core.proofs.hub.Hub.pack.Goals as goal

pub returns-in-Err-clause-step : goal.returns-in-Err-clause-step
returns-in-Err-clause-step g c = λ told m stands stamps.
    let rules_now = rules_of g.R.Resolver.rules g.F.Refs.named c.args.self.now in
    rw c.pack_reply.ensures
    (marks_refused rules_now m c.args.session c.args.tid c.newest.result c.tid_below-up_to.result c.pack_point-packed.result c.args.collect c.in-Err.refusal c.args.self.now _ stamps
    stands (search rules) (search rules) (search rules) (search rules) (search (told, rules)) (search rules) (search (told, rules)) (search rules) (search (told, rules)) (search rules) (search rules) (search rules)
    (search rules) (search rules) (search rules) (search rules) (search rules))

pub returns-in-Err-clause-any_moment : goal.returns-in-Err-clause-any_moment
returns-in-Err-clause-any_moment g c = λ lasts told m stands.
    let s = g.St.Store.state c.self.inside.store in
    let log = (g.St.Store.state c.mark_all.new.store).log in
    moments_same g.St.Store.stands (rules_of g.R.Resolver.rules g.F.Refs.named c.args.self.now) m c.args.session (request.Pack c.args.tid c.args.collect) c.args.self.now log stands (search rules)
    (leaves_now g.St.Store.stands c.args.self.now.store s log (search rules) (g.met.St.Store.lasting c.self.inside.store lasts (search rules)) (search rules))

pub returns-clause-step : goal.returns-clause-step
returns-clause-step g c = λ told m stands stamps.
    let rules_now = rules_of g.R.Resolver.rules g.F.Refs.named c.args.self.now in
    let q = request.Pack c.args.tid c.args.collect in
    let t = c.tid_below-up_to.result in
    let keep = c.set.result.now in
    through_switch rules_now _ m c.args.session q t keep c.switch.result c.args.self.now _ c.switch.new.self stamps
    (c.switch.ensures.step told m (stands_marked m c.args.self.now _ stands (search rules) (search rules) (search rules) (search rules) (search rules) (search rules) (search rules)) q)
    (rw c.set.ensures (packs_to rules_now m c.args.session c.args.tid c.newest.result t c.pack_point-packed.result c.args.collect c.in-Ok.marker c.args.self.now
    stands (search rules) (search rules) (search rules) (search rules) (search (told, rules)) (search rules) (search (told, rules)) (search rules) (search (told, rules))))
    (search rules) (search rules)

pub returns-clause-any_moment : goal.returns-clause-any_moment
returns-clause-any_moment g c = λ lasts told m stands.
    let rules_now = rules_of g.R.Resolver.rules g.F.Refs.named c.args.self.now in
    let q = request.Pack c.args.tid c.args.collect in
    let t = c.tid_below-up_to.result in
    let keep = c.set.result.now in
    moments_through g.St.Store.stands rules_now _ m c.args.session q t keep c.args.self.now.store.log _ c.switch.new.self.store.log
    (c.switch.ensures.any_moment lasts told m (stands_marked m c.args.self.now _ stands (search rules) (search rules) (search rules) (search rules) (search rules) (search rules) (search rules)) q)
    (rw c.set.ensures (packs_to rules_now m c.args.session c.args.tid c.newest.result t c.pack_point-packed.result c.args.collect c.in-Ok.marker c.args.self.now
    stands (search rules) (search rules) (search rules) (search rules) (search (told, rules)) (search rules) (search (told, rules)) (search rules) (search (told, rules))))
    (search rules) (search rules)

pub returns-clause-views : goal.returns-clause-views
returns-clause-views g c = λ told.
    pack_keeps_seen c.args.collect (g.F.Refs.named c.args.self.now.refs) (goal_of c.args.self.now.pack) c.args.tid c.newest.result c.tid_below-up_to.result c.set.result.now c.switch.result
    c.args.self.now.store.list c.switch.new.self.store.list
    (search (g.met.St.Store.database c.self.inside.store told, rules)) (search (told, rules)) (search rules) (search ((c.in-Ok.ensures.marked told).set, rules)) (search (told, rules))
