use Rattle.std.proofs.Common.{rules, ◌≡◌, ◌<◌, ℕ, List, map, ap, arith, length, ◌++◌, ◌∷◌, [], sym, ◌∙◌, subst}
use Rattle.std.proofs.lemmas.List.{length-map}
use Rattle.zodb_core.specs.Machine.{session_limit}
use Rattle.zodb_core.specs.declared.session.HubSession.{HubSession}
use Rattle.zodb_core.specs.Telling.{JournalKeeps, session_seen}
use Rattle.zodb_core.proofs.Telling.{keeps_opened}
use Rattle.zodb_core.proofs.session_journal.SessionJournal.open.Goals as goal

pub invariant_of-self-2 : goal.invariant_of-self-2
invariant_of-self-2 c =
    let kept = c.self.inside.kept.items in
    let s : HubSession = record { is_open = c.args.is_open; told = c.len-told.result; untold = c.in_ok-untold.untold; newest = c.len-told.result } in
    let few : length (map session_seen kept) < session_limit = search (c.requires.few, rules) in
    subst (λ (xs : List HubSession). JournalKeeps c.self.inside.items.items c.self.inside.switched xs) (search rules)
    (keeps_opened c.self.inside.items.items c.self.inside.switched kept s c.self.invariant (omega (arith, few, length-map kept session_seen)) (search rules) (search rules) (search rules))
