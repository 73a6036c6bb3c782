use Rattle.std.proofs.Common.{rules, ◌≡◌, ℕ, List, ap, arith, drop, length, map, take, sym, ◌∙◌, subst, ◌++◌}
use Rattle.zodb_core.specs.declared.session.HubSession.{HubSession}
use Rattle.zodb_core.specs.Telling.{JournalKeeps, session_seen}
use Rattle.zodb_core.proofs.Telling.{keeps_pushed, seen_pushed, written_back}
use Rattle.zodb_core.proofs.session_journal.SessionJournal.push.Goals as goal

pub invariant_of-self : goal.invariant_of-self
invariant_of-self c =
    let kept = c.self.inside.kept.items in
    let back = written_back kept c.note_all.new.sessions c.self.inside.kept.len (search rules) (search rules) in
    subst (λ (xs : List HubSession). JournalKeeps c.put_entry.new.items.items c.last_switch-self-inside.result xs) (sym back)
    (search (
      keeps_pushed c.self.inside.items.items c.self.inside.switched c.last_switch-self-inside.result c.len-place.result c.args.entry kept c.note_all.new.sessions c.self.invariant
          (search rules) (search rules) (search rules) (search rules),
      rules,
    ))

pub returns-clause-sessions : goal.returns-clause-sessions
returns-clause-sessions c =
    let kept = c.self.inside.kept.items in
    let back = written_back kept c.note_all.new.sessions c.self.inside.kept.len (search rules) (search rules) in
    ap (map session_seen) back ∙ (seen_pushed c.len-place.result c.args.entry kept c.note_all.new.sessions (search rules) ∙ search rules)
