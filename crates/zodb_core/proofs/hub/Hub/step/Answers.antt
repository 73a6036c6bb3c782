use Rattle.std.proofs.Common.{◌≡◌, rules, refl, subst, sym}
use Rattle.zb_model.specs.Database.{IsDatabase}
use Rattle.zb_model.specs.Stores.{StoreState}
use Rattle.zodb_core.specs.HubState.{rules_of}
use Rattle.zodb_core.proofs.Stepping.{by_clock_as, still_as, still_clock}
use Rattle.zodb_core.proofs.Switching.{moments_stay}
use Rattle.zodb_core.proofs.Votes.{closed_failed}
use Rattle.zodb_core.proofs.hub.Hub.step.Goals as goal

pub returns-then-self-clause-clock : goal.returns-then-self-clause-clock
returns-then-self-clause-clock g c =
    still_clock _ _ _ _ _ _ _ _ _ (λ told m stands stamps. closed_failed _ m c.args.session c.args.request c.args.self.now stamps stands (search rules)) refl

pub returns-in-Front-clause-clock : goal.returns-in-Front-clause-clock
returns-in-Front-clause-clock g c = still_as _ _ _ _ _ _ _ _ _ _ c.in-Front.is c.front.ensures.step refl

pub returns-in-LoadBefore-clause-clock : goal.returns-in-LoadBefore-clause-clock
returns-in-LoadBefore-clause-clock g c = still_as _ _ _ _ _ _ _ _ _ _ c.in-LoadBefore.is c.load_before.ensures.step refl

pub returns-in-NewOids-clause-clock : goal.returns-in-NewOids-clause-clock
returns-in-NewOids-clause-clock g c = still_as _ _ _ _ _ _ _ _ _ _ c.in-NewOids.is c.new_oids.ensures.step refl

pub returns-in-Finish-clause-clock : goal.returns-in-Finish-clause-clock
returns-in-Finish-clause-clock g c = still_as _ _ _ _ _ _ _ _ _ _ c.in-Finish.is c.finish.ensures.step refl

pub returns-in-Abort-clause-clock : goal.returns-in-Abort-clause-clock
returns-in-Abort-clause-clock g c = still_as _ _ _ _ _ _ _ _ _ _ c.in-Abort.is c.abort.ensures.step refl

pub returns-in-History-clause-clock : goal.returns-in-History-clause-clock
returns-in-History-clause-clock g c = still_as _ _ _ _ _ _ _ _ _ _ c.in-History.is c.history.ensures.step refl

pub returns-in-UndoLog-clause-clock : goal.returns-in-UndoLog-clause-clock
returns-in-UndoLog-clause-clock g c = still_as _ _ _ _ _ _ _ _ _ _ c.in-UndoLog.is c.undo_log.ensures.step refl

pub returns-in-Pack-clause-clock : goal.returns-in-Pack-clause-clock
returns-in-Pack-clause-clock g c = still_as _ _ _ _ _ _ _ _ _ _ c.in-Pack.is c.pack.ensures.step refl

pub returns-in-PackBegin-clause-clock : goal.returns-in-PackBegin-clause-clock
returns-in-PackBegin-clause-clock g c = still_as _ _ _ _ _ _ _ _ _ _ c.in-PackBegin.is c.pack_begin.ensures.step refl

pub returns-in-PackTurn-clause-clock : goal.returns-in-PackTurn-clause-clock
returns-in-PackTurn-clause-clock g c = still_as _ _ _ _ _ _ _ _ _ _ c.in-PackTurn.is c.pack_turn.ensures.step refl

pub returns-in-Last-clause-clock : goal.returns-in-Last-clause-clock
returns-in-Last-clause-clock g c = still_as _ _ _ _ _ _ _ _ _ _ c.in-Last.is c.last.ensures.step refl

pub returns-in-Since-clause-clock : goal.returns-in-Since-clause-clock
returns-in-Since-clause-clock g c = still_as _ _ _ _ _ _ _ _ _ _ c.in-Since.is c.since.ensures.step refl

pub returns-in-Close-clause-clock : goal.returns-in-Close-clause-clock
returns-in-Close-clause-clock g c = still_as _ _ _ _ _ _ _ _ _ _ c.in-Close.is c.close.ensures.step refl

pub returns-in-Vote-clause-step : goal.returns-in-Vote-clause-step
returns-in-Vote-clause-step g c = by_clock_as _ _ _ _ _ _ _ _ _ _ c.in-Vote.is c.vote.ensures.step

pub returns-in-Undo-clause-step : goal.returns-in-Undo-clause-step
returns-in-Undo-clause-step g c = by_clock_as _ _ _ _ _ _ _ _ _ _ c.in-Undo.is c.undo.ensures.step

pub returns-in-PackBegin-clause-any_moment : goal.returns-in-PackBegin-clause-any_moment
returns-in-PackBegin-clause-any_moment g c = λ lasts told whole m stands.
    let s = g.St.Store.state c.self.inside.store in
    moments_stay g.St.Store.stands (rules_of g.R.Resolver.rules g.F.Refs.named c.args.self.now) m c.args.session c.args.request c.args.self.now s c.pack_begin.new.self.store.log
    (stands.list whole) (search rules) (g.met.St.Store.lasting c.self.inside.store lasts (search rules)) (c.pack_begin.ensures.main lasts)

pub returns-in-Vote-clause-database : goal.returns-in-Vote-clause-database
returns-in-Vote-clause-database g c = λ told whole.
    let s : StoreState = g.St.Store.state c.self.inside.store in
    let same : c.args.self.now.store ≡ s = search rules in
    subst (λ (x : StoreState). IsDatabase x.list) (sym same) (g.met.St.Store.database c.self.inside.store told (search rules))
