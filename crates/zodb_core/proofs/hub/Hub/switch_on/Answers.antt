use Rattle.std.proofs.Common.{rules, length, Some}
use Rattle.zodb_core.specs.declared.request.Request.TheVariants as request
use Rattle.zodb_core.specs.HubState.{rules_of}
use Rattle.zodb_core.specs.Packing.{goal_of}
use Rattle.zodb_core.specs.Steps.{without_pack}
use Rattle.zodb_core.specs.SwitchLaws.{turn_keeps_seen, unpacked_keeps}
use Rattle.zodb_core.proofs.Stepping.{stands_read}
use Rattle.zodb_core.proofs.Switches.{copy_passed, front_of_copy, packed_is, stop_safely, stop_unpacked, turn_packs_to, turn_stopped, whole_copy}
use Rattle.zodb_core.proofs.Switching.{moments_through, moments_unpacked, through_switch}
use Rattle.zodb_core.proofs.hub.Hub.switch_on.Goals as goal

-- ---- the test isn't passed

pub returns-in-Err-clause-step : goal.returns-in-Err-clause-step
returns-in-Err-clause-step g c = λ told m stands takes stamps.
    let rules_now = rules_of g.R.Resolver.rules g.F.Refs.named c.args.self.now in
    let h = c.args.self.now in
    let names = g.F.Refs.named c.self.inside.refs in
    let named = g.F.Refs.named h.refs in
    let there = whole_copy g.St.Store.told named h.store.list h.store.begun h.store.newest (length h.journal) c.args.pack told c.requires.keeps c.requires.some c.requires.copied in
    let front = front_of_copy names named (g.St.Store.state c.self.inside.store).list h.store.list h.store.begun (length h.journal) c.args.pack there c.requires.keeps.tid (search rules) (search rules) in
    rw c.stop_reply.ensures
    (turn_stopped rules_now names m c.args.session c.args.pack c.in-Err.stop (g.St.Store.state c.test_marks.new.store) h _ stamps there
    stands (search rules) takes c.requires.keeps.tid (search rules) (c.in-Err.ensures.stops told there.at.front there.at.commits front)
    (search rules) (search rules) (search rules) (search rules) (search rules) (search rules) (search rules) (search rules) (search rules) (search rules))

pub returns-in-Err-clause-safe : goal.returns-in-Err-clause-safe
returns-in-Err-clause-safe g c =
    rw c.stop_reply.ensures
    (stop_safely c.in-Err.stop (g.St.Store.state c.test_marks.new.store) c.args.self.now _ (search rules) (search rules) (search rules) (search rules) (search rules) (search rules) (search rules))

pub returns-in-Err-clause-views : goal.returns-in-Err-clause-views
returns-in-Err-clause-views g c = λ told.
    unpacked_keeps (g.F.Refs.named c.args.self.now.refs) (goal_of (Some c.args.pack)) request.PackTurn c.stop_reply.result c.args.self.now.store.list _ (rw c.stop_reply.ensures (stop_unpacked c.in-Err.stop))

pub returns-in-Err-clause-any_moment : goal.returns-in-Err-clause-any_moment
returns-in-Err-clause-any_moment g c = λ lasts told m stands takes.
    let rules_now = rules_of g.R.Resolver.rules g.F.Refs.named c.args.self.now in
    let s = g.St.Store.state c.self.inside.store in
    moments_unpacked g.St.Store.stands rules_now m c.args.session request.PackTurn c.args.self.now s (g.St.Store.state c.pack_drop.new.self).log stands (search rules) (search rules)
    (g.met.St.Store.lasting c.self.inside.store lasts (search rules)) (search rules)

-- ---- it is

pub switch-requires-clause-copy : goal.switch-requires-clause-copy
switch-requires-clause-copy g c = λ fresh told.
    let h = c.args.self.now in
    let names = g.F.Refs.named c.self.inside.refs in
    let named = g.F.Refs.named h.refs in
    let there = whole_copy g.St.Store.told named h.store.list h.store.begun h.store.newest (length h.journal) c.args.pack told c.requires.keeps c.requires.some c.requires.copied in
    let front = front_of_copy names named (g.St.Store.state c.self.inside.store).list h.store.list h.store.begun (length h.journal) c.args.pack there c.requires.keeps.tid (search rules) (search rules) in
    let mid = g.St.Store.state c.test_marks.new.store in
    copy_passed names named h.store.list h.store.begun (length h.journal) c.args.pack there c.in-Ok.marker c.set.result.now mid.list mid.begun
    c.requires.keeps.tid (search rules) (c.in-Ok.ensures.passes told there.at.front there.at.commits front) c.requires.keeps.started c.set.ensures (search rules) (search rules)

pub returns-clause-step : goal.returns-clause-step
returns-clause-step g c = λ told m stands takes stamps.
    let rules_now = rules_of g.R.Resolver.rules g.F.Refs.named c.args.self.now in
    let h = c.args.self.now in
    let names = g.F.Refs.named c.self.inside.refs in
    let named = g.F.Refs.named h.refs in
    let there = whole_copy g.St.Store.told named h.store.list h.store.begun h.store.newest (length h.journal) c.args.pack told c.requires.keeps c.requires.some c.requires.copied in
    let front = front_of_copy names named (g.St.Store.state c.self.inside.store).list h.store.list h.store.begun (length h.journal) c.args.pack there c.requires.keeps.tid (search rules) (search rules) in
    through_switch rules_now _ m c.args.session request.PackTurn c.args.pack.tid c.set.result.now c.switch.result h _ c.switch.new.self stamps
    (c.switch.ensures.step told m (stands_read (without_pack m) h _ stands (search rules) (search rules) (search rules) (search rules) (search rules) (search rules)) request.PackTurn)
    (rw c.set.ensures (turn_packs_to rules_now names m c.args.session c.args.pack c.in-Ok.marker h there stands (search rules) takes c.requires.keeps.tid (search rules)
    (c.in-Ok.ensures.passes told there.at.front there.at.commits front)))
    (search rules) (search rules)

pub returns-clause-any_moment : goal.returns-clause-any_moment
returns-clause-any_moment g c = λ lasts told m stands takes.
    let rules_now = rules_of g.R.Resolver.rules g.F.Refs.named c.args.self.now in
    let h = c.args.self.now in
    let names = g.F.Refs.named c.self.inside.refs in
    let named = g.F.Refs.named h.refs in
    let there = whole_copy g.St.Store.told named h.store.list h.store.begun h.store.newest (length h.journal) c.args.pack told c.requires.keeps c.requires.some c.requires.copied in
    let front = front_of_copy names named (g.St.Store.state c.self.inside.store).list h.store.list h.store.begun (length h.journal) c.args.pack there c.requires.keeps.tid (search rules) (search rules) in
    moments_through g.St.Store.stands rules_now _ m c.args.session request.PackTurn c.args.pack.tid c.set.result.now h.store.log _ c.switch.new.self.store.log
    (c.switch.ensures.any_moment lasts told m (stands_read (without_pack m) h _ stands (search rules) (search rules) (search rules) (search rules) (search rules) (search rules)) request.PackTurn)
    (rw c.set.ensures (turn_packs_to rules_now names m c.args.session c.args.pack c.in-Ok.marker h there stands (search rules) takes c.requires.keeps.tid (search rules)
    (c.in-Ok.ensures.passes told there.at.front there.at.commits front)))
    (search rules) (search rules)

pub returns-clause-views : goal.returns-clause-views
returns-clause-views g c = λ told.
    let h = c.args.self.now in
    let names = g.F.Refs.named c.self.inside.refs in
    let named = g.F.Refs.named h.refs in
    let there = whole_copy g.St.Store.told named h.store.list h.store.begun h.store.newest (length h.journal) c.args.pack told c.requires.keeps c.requires.some c.requires.copied in
    let front = front_of_copy names named (g.St.Store.state c.self.inside.store).list h.store.list h.store.begun (length h.journal) c.args.pack there c.requires.keeps.tid (search rules) (search rules) in
    let mid = g.St.Store.state c.test_marks.new.store in
    turn_keeps_seen named (record { tid = c.args.pack.tid; collects = c.args.pack.collects }) c.switch.result h.store.list c.switch.new.self.store.list
    (search (g.met.St.Store.database c.self.inside.store told, rules))
    (λ done. packed_is names named h.store.list h.store.begun (length h.journal) c.args.pack there c.in-Ok.marker c.set.result.now mid.list c.switch.new.self.store.list
    c.requires.keeps.tid (search rules) (c.in-Ok.ensures.passes told there.at.front there.at.commits front) c.set.ensures (search rules) (c.switch.ensures.list told done))
