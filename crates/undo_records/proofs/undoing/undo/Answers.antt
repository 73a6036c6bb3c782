use Rattle.undo_records.proofs.Restored.{restored}
use Rattle.undo_records.proofs.Sound.{answer-sound}
use Rattle.undo_records.proofs.undoing.undo.Goals as goal

pub returns-clause-restores : goal.returns-clause-restores
returns-clause-restores g c = λ told newest.
    let list = (g.St.Store.state c.args.store.now).list in
    restored (g.R.Resolver.rules c.args.resolver.now) list c.args.tids.now c.undo_in_turn.result (g.met.St.Store.database c.args.store.now told c.requires.whole) (c.undo_in_turn.ensures.undone told) newest

pub returns-clause-sound : goal.returns-clause-sound
returns-clause-sound g c = λ told.
    let list = (g.St.Store.state c.args.store.now).list in
    answer-sound (g.R.Resolver.rules c.args.resolver.now) list c.args.tids.now c.undo_in_turn.result (g.met.St.Store.database c.args.store.now told c.requires.whole) (c.undo_in_turn.ensures.undone told)
