use Rattle.std.proofs.Common.{rules, Some, length}
use Rattle.zodb_core.specs.HubState.{rules_of}
use Rattle.zodb_core.proofs.Marks.{keeps_marked, marked_pack, turn_marked, turn_unmarked, within_marked}
use Rattle.zodb_core.proofs.Turns.{hub_keeps, voted_read}
use Rattle.zodb_core.proofs.hub.Hub.mark_on.Goals as goal

pub returns-in-Err-clause-step : goal.returns-in-Err-clause-step
returns-in-Err-clause-step g c = λ told m stands takes stamps.
    let rules_now = rules_of g.R.Resolver.rules g.F.Refs.named c.args.self.now in
    rw c.pack_reply.ensures
    (turn_unmarked rules_now m c.args.session c.args.pack c.in-Err.refusal (g.St.Store.state c.mark_more.new.store) c.args.self.now _ stamps stands takes c.requires.marking
    (search (told, rules)) (search rules) (search rules) (search rules) (search rules) (search rules) (search rules) (search rules) (search rules) (search rules) (search rules))

pub invariant_of-self-2 : goal.invariant_of-self-2
invariant_of-self-2 g c =
    let s = g.St.Store.state c.self.inside.store in
    let t = g.St.Store.state c.mark_more.new.store in
    let named = g.F.Refs.named c.self.inside.refs in
    hub_keeps g.St.Store.told s t c.self.inside.journal.entries c.self.inside.journal.capacity c.self.inside.changes c.self.inside.switches c.self.inside.journal.sessions c.self.inside.vote
    c.self.inside.pack (Some (marked_pack c.args.pack c.in-Ok.made.0 c.copying_behind-copying.result)) c.self.inside.failed c.self.inside.failed named c.self.invariant (search rules) (voted_read g.St.Store.told s t (search rules)) (search rules) (search rules)
    (within_marked c.in-Ok.made.1.whole (length c.self.inside.journal.entries) c.args.pack c.in-Ok.made.0 c.copying_behind-copying.result (search rules) (search rules))
    (λ still. keeps_marked g.St.Store.told named s t (length c.self.inside.journal.entries) c.args.pack c.in-Ok.made.0 c.in-Ok.made.1 c.copying_behind-copying.result (search rules) c.requires.marking (search rules) (search rules) (λ told. search (told, rules)) (search rules) (search rules))

pub returns-clause-step : goal.returns-clause-step
returns-clause-step g c = λ told m stands takes stamps.
    let rules_now = rules_of g.R.Resolver.rules g.F.Refs.named c.args.self.now in
    rw c.marked_reply.ensures
    (turn_marked rules_now m c.args.session c.args.pack c.in-Ok.made.0 c.in-Ok.made.1 c.copying_behind-copying.result c.args.self.now _ stamps stands takes c.requires.marking
    (search (told, rules)) (search (told, rules)) (search rules) (search rules) (search rules) (search rules) (search rules) (search rules) (search rules) (search rules) (search rules) (search rules) (search rules))
