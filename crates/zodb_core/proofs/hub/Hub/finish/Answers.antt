use Rattle.std.proofs.Common.{rules, ◌≡◌, ◌+◌, ◌∙◌, ap, length, arith}
use Rattle.std.proofs.lemmas.List.{length-append}
use Rattle.zodb_core.specs.HubState.{rules_of}
use Rattle.zodb_core.proofs.Keeping.{counted_more, keeps_finished, switched_more, within_more}
use Rattle.zodb_core.proofs.Votes.{finish_committed}
use Rattle.zodb_core.proofs.hub.Hub.finish.Goals as goal

pub invariant_of-self-2 : goal.invariant_of-self-2
invariant_of-self-2 g c =
    let s = g.St.Store.state c.self.inside.store in
    let t = g.St.Store.state c.finish.new.self in
    let longer : length c.push.new.self.entries ≡ length c.self.inside.journal.entries + 1 = ap length c.push.ensures.entries ∙ length-append c.self.inside.journal.entries _ in
    record {
      failed = search rules;
      few = search rules;
      counted = counted_more c.self.inside.changes c.len.result c.args.session c.in-Some.entry.tid c.in-Some.entry.oids c.self.inside.journal.entries c.push.new.self.entries c.self.invariant.counted (search rules) c.push.ensures.entries;
      bounded = search rules;
      switched = switched_more c.self.inside.switches c.args.session c.in-Some.entry.tid c.in-Some.entry.oids c.self.inside.journal.entries c.push.new.self.entries c.self.invariant.switched c.push.ensures.entries;
      room = search rules;
      voted = search rules;
      entry = search rules;
      later = search rules;
      within = within_more c.self.inside.pack (length c.self.inside.journal.entries) (length c.push.new.self.entries) (omega (arith, longer)) c.self.invariant.within;
      open_pack = λ whole.
          keeps_finished g.St.Store.told (g.F.Refs.named c.self.inside.refs) s t (length c.self.inside.journal.entries) (length c.push.new.self.entries) s.voted c.self.inside.pack
          (c.self.invariant.open_pack (search rules)) c.self.invariant.within (search rules) (λ told. search (told, rules)) (search rules) (search rules) (c.self.invariant.later (search rules)) longer;
    }

pub returns-clause-step : goal.returns-clause-step
returns-clause-step g c = λ told m stands stamps.
    let s = g.St.Store.state c.self.inside.store in
    finish_committed (rules_of g.R.Resolver.rules g.F.Refs.named c.args.self.now) m c.args.session s.voted c.in-Some.entry c.args.self.now _ stamps
    stands (search rules) (search rules) (search rules) (search rules) (search rules) (search rules) (search rules) (search rules) (search (told, rules)) (search rules) (search rules) (search rules) (search rules)
    g.St.Store.told told (search rules) (search rules) (search rules)
