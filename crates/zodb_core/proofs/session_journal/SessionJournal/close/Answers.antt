use Rattle.std.proofs.Common.{rules, ◌≡◌, ℕ, ap, false, length, map, refl, set, sym, ◌∙◌}
use Rattle.std.proofs.lemmas.List.{map-set}
use Rattle.zodb_core.specs.declared.session.HubSession.{HubSession}
use Rattle.zodb_core.specs.Machine.{MachineSession}
use Rattle.zodb_core.specs.Telling.{session_seen}
use Rattle.zodb_core.proofs.Telling.{keeps_closed}
use Rattle.zodb_core.proofs.session_journal.SessionJournal.close.Goals as goal

pub invariant_of-self : goal.invariant_of-self
invariant_of-self c =
    let closed : HubSession = record { is_open = false; told = c.len-told.result; untold = c.index_mut-session.result.now.untold; newest = c.index_mut-session.result.now.newest } in
    keeps_closed c.self.inside.items.items c.self.inside.switched c.self.inside.kept.items c.args.number closed c.self.invariant refl

pub returns-clause-sessions : goal.returns-clause-sessions
returns-clause-sessions c =
    let kept = c.self.inside.kept.items in
    let closed : HubSession = record { is_open = false; told = c.len-told.result; untold = c.index_mut-session.result.now.untold; newest = c.index_mut-session.result.now.newest } in
    let seen : session_seen closed ≡ record { is_open = false; told = length c.args.self.now.entries } = search rules in
    map-set session_seen kept c.args.number closed ∙ (ap (λ (s : MachineSession). set (map session_seen kept) c.args.number s) seen ∙ search rules)
