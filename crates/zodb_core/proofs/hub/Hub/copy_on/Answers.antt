use Rattle.std.proofs.Common.{rules, Some, length, refl}
use Rattle.zodb_core.specs.HubState.{rules_of}
use Rattle.zodb_core.specs.PacksGoOn.{newest_copied}
use Rattle.zodb_core.proofs.Copies.{copied_pack, keeps_copied, turn_copied, turn_shown, turn_uncopied}
use Rattle.zodb_core.proofs.Turns.{hub_keeps}
use Rattle.zodb_core.proofs.hub.Hub.copy_on.Goals as goal

pub returns-in-Err-clause-step : goal.returns-in-Err-clause-step
returns-in-Err-clause-step g c = λ told m stands takes stamps.
    let rules_now = rules_of g.R.Resolver.rules g.F.Refs.named c.args.self.now in
    rw c.fault_reply.ensures
    (turn_uncopied rules_now m c.args.session c.args.pack c.args.entries g.St.Store.told c.in-Err.error c.args.self.now _ stamps told stands takes c.requires.copying
    (search rules) (search rules) (search rules) (search rules) (search rules) (search rules) (search rules) (search rules) (search rules))

pub invariant_of-self-2 : goal.invariant_of-self-2
invariant_of-self-2 g c =
    let s = g.St.Store.state c.self.inside.store in
    let t = g.St.Store.state c.pack_copy.new.self in
    let named = g.F.Refs.named c.self.inside.refs in
    let journal = c.self.inside.journal.entries in
    let newest = newest_copied s t (search rules) in
    hub_keeps g.St.Store.told s t journal c.self.inside.journal.capacity c.self.inside.changes c.self.inside.switches c.self.inside.journal.sessions c.self.inside.vote
    c.self.inside.pack (Some (copied_pack c.args.pack c.args.entries c.in-Ok.copied.whole)) c.self.inside.failed c.self.inside.failed named c.self.invariant (search rules) (search rules) newest (search rules)
    (search rules)
    (λ still. keeps_copied g.St.Store.told named s t (length journal) c.args.entries c.args.pack c.in-Ok.copied (search rules) c.requires.copying (λ told. search (told, rules)) (search rules) newest
    (λ told. turn_shown s s t c.set.result.now c.args.pack.marker.set c.in-Ok.copied refl (search rules) (search (told, rules))))

pub returns-clause-step : goal.returns-clause-step
returns-clause-step g c = λ told m stands takes stamps.
    let rules_now = rules_of g.R.Resolver.rules g.F.Refs.named c.args.self.now in
    let s = g.St.Store.state c.self.inside.store in
    let t = g.St.Store.state c.pack_copy.new.self in
    rw c.copied_reply.ensures
    (turn_copied rules_now m c.args.session c.args.pack c.args.entries c.in-Ok.copied c.args.self.now _ stamps stands takes c.requires.copying (search rules) (search rules)
    (turn_shown c.args.self.now.store s t c.set.result.now c.args.pack.marker.set c.in-Ok.copied (search rules) (search rules) (search (told, rules)))
    (search rules) (search rules) (search rules) (search (told, rules)) (search (told, rules)) (search rules) (search rules) (search rules) (search rules) (search rules))
