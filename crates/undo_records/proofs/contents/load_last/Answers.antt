use Rattle.std.proofs.Common.{ℕ, ◌+◌, ap, ◌∙◌}
use Rattle.zb_model.specs.Queries.{found_below}
use Rattle.undo_records.specs.Reading.{content_found}
use Rattle.undo_records.proofs.Looking.{last_content_is}
use Rattle.undo_records.proofs.contents.load_last.Goals as goal

pub returns-clause-last : goal.returns-clause-last
returns-clause-last g c = λ told.
    c.content_of.ensures
    ∙ ap content_found (c.in_ok-found.ensures.found told ∙ ap (λ (n : ℕ). found_below c.args.oid (n + 1) (g.St.Store.state c.args.store.now).list) (c.front.view_is ∙ c.newest.ensures.value told))
    ∙ last_content_is c.args.oid (g.St.Store.state c.args.store.now).list (g.met.St.Store.database c.args.store.now told c.requires.whole)
