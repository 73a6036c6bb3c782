use Rattle.std.proofs.Common.{ℕ, ◌+◌, sym, ap, ◌∙◌, arith}
use Rattle.zb_model.specs.Queries.{found_below}
use Rattle.commit_phases.specs.Resolving.{bytes_with, held_of}
use Rattle.commit_phases.proofs.Serials.{at_is, none_spent}
use Rattle.commit_phases.proofs.resolving.load_at.Goals as goal

pub returns-then-serial-clause-at : goal.returns-then-serial-clause-at
returns-then-serial-clause-at g c = λ told.
    let database = g.met.St.Store.database c.args.store.now told c.requires.whole in
    sym (none_spent c.args.oid c.args.serial (g.St.Store.state c.args.store.now).list (omega (arith, database.bounded, c.if-serial.true, c.serial.view_is)) database)

pub returns-clause-at : goal.returns-clause-at
returns-clause-at g c = λ told.
    c.with_serial.ensures
    ∙ ap (bytes_with c.args.serial) (c.in_ok-held.ensures.held told ∙ ap (λ (n : ℕ). held_of (found_below c.args.oid (n + 1) (g.St.Store.state c.args.store.now).list)) c.serial.view_is)
    ∙ at_is c.args.oid c.args.serial (g.St.Store.state c.args.store.now).list (g.met.St.Store.database c.args.store.now told c.requires.whole)
