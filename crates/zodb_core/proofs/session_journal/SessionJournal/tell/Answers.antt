use Rattle.std.proofs.Common.{rules, ◌≡◌, ℕ, [], true, refl, ap, length, map, set, sym, ◌∙◌}
use Rattle.std.proofs.lemmas.List.{map-set}
use Rattle.invalidation_queue.specs.Queued.{queued}
use Rattle.zodb_core.specs.Machine.{MachineSession}
use Rattle.zodb_core.specs.Telling.{session_seen}
use Rattle.zodb_core.proofs.Telling.{its_room, keeps_told, read_there}
use Rattle.zodb_core.proofs.session_journal.SessionJournal.tell.Goals as goal

pub invariant_of-self : goal.invariant_of-self
invariant_of-self c =
    let kept = c.self.inside.kept.items in
    let at = c.index_mut-session.result.now in
    let there = read_there kept c.args.number at (search rules) c.index_mut-session.ensures.value in
    let room = its_room c.self.inside.items.items c.self.inside.switched kept c.args.number at c.self.invariant there.0 there.1 in
    keeps_told c.self.inside.items.items c.self.inside.switched kept c.args.number at (record { is_open = at.is_open; told = c.len-told.result; untold = c.clear.new.self; newest = at.newest }) c.self.invariant there.0 there.1 refl
    (search rules) (c.clear.ensures ∙ ap (λ (k : ℕ). queued k []) room)

pub returns-clause-sessions : goal.returns-clause-sessions
returns-clause-sessions c =
    let kept = c.self.inside.kept.items in
    let at = c.index_mut-session.result.now in
    let there = read_there kept c.args.number at (search rules) c.index_mut-session.ensures.value in
    let seen : session_seen (record { is_open = at.is_open; told = c.len-told.result; untold = c.clear.new.self; newest = at.newest }) ≡ record { is_open = true; told = length c.args.self.now.entries } = rw there.1 (search rules) in
    map-set session_seen kept c.args.number (record { is_open = at.is_open; told = c.len-told.result; untold = c.clear.new.self; newest = at.newest })
    ∙ ap (λ (s : MachineSession). set (map session_seen kept) c.args.number s) seen ∙ search rules
