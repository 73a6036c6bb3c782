use Rattle.std.proofs.Common.{ℕ, ◌+◌, sym, ap, ◌∙◌, arith}
use Rattle.zb_model.specs.Queries.{found_below}
use Rattle.undo_records.specs.Reading.{content_found_at}
use Rattle.undo_records.proofs.Looking.{as_of_is, as_of_none}
use Rattle.undo_records.proofs.contents.load_as_of.Goals as goal

pub returns-then-serial-clause-as_of : goal.returns-then-serial-clause-as_of
returns-then-serial-clause-as_of g c = λ told.
    let database = g.met.St.Store.database c.args.store.now told c.requires.whole in
    sym (as_of_none c.args.oid c.args.serial (g.St.Store.state c.args.store.now).list (omega (arith, database.bounded, c.if-serial.true, c.serial.view_is)) database)

pub returns-clause-as_of : goal.returns-clause-as_of
returns-clause-as_of g c = λ told.
    c.content_with.ensures
    ∙ ap (content_found_at c.args.serial) (c.in_ok-found.ensures.found told ∙ ap (λ (n : ℕ). found_below c.args.oid (n + 1) (g.St.Store.state c.args.store.now).list) c.serial.view_is)
    ∙ as_of_is c.args.oid c.args.serial (g.St.Store.state c.args.store.now).list (g.met.St.Store.database c.args.store.now told c.requires.whole)
