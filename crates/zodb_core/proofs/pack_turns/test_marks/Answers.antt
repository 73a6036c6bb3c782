use Rattle.std.proofs.Common.{rules, ◌≡◌, true}
use Rattle.zodb_core.proofs.Marks.{has_grown, passes_collected, passes_uncollected}
use Rattle.zodb_core.proofs.pack_turns.test_marks.Goals as goal

pub returns-then-not-collects-clause-passes : goal.returns-then-not-collects-clause-passes
returns-then-not-collects-clause-passes g c = λ told front commits is.
    passes_uncollected c.args.collects (g.F.Refs.named c.args.refs.now) (g.St.Store.state c.args.store.now).list front commits c.args.marker (search rules) is

pub returns-in-None-clause-passes : goal.returns-in-None-clause-passes
returns-in-None-clause-passes g c = λ told front commits is.
    let named = g.F.Refs.named c.args.refs.now in
    let list = (g.St.Store.state c.args.store.now).list in
    let collects : c.args.collects ≡ true = search rules in
    passes_collected c.args.collects named list front commits c.args.marker c.late.new.self c.in_ok-oid.field-0 collects is c.in-None.is
    (c.in_ok-oid.ensures.late told front commits (has_grown c.args.collects named list front commits c.args.marker is) (is.whole collects))
