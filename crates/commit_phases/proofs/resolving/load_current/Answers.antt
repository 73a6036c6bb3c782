use Rattle.std.proofs.Common.{ℕ, ◌+◌, sym, ap, ◌∙◌}
use Rattle.zb_model.specs.Queries.{found_below}
use Rattle.commit_phases.specs.Resolving.{bytes_alone, held_of}
use Rattle.commit_phases.proofs.Serials.{current_is}
use Rattle.commit_phases.proofs.resolving.load_current.Goals as goal

pub returns-in-Some-clause-current : goal.returns-in-Some-clause-current
returns-in-Some-clause-current g c = λ told.
    ap bytes_alone (sym c.in-Some.is ∙ c.in_ok-bytes.ensures.held told ∙ ap (λ (n : ℕ). held_of (found_below c.args.oid (n + 1) (g.St.Store.state c.args.store.now).list)) (c.front.view_is ∙ c.newest.ensures.value told))
    ∙ current_is c.args.oid (g.St.Store.state c.args.store.now).list (g.met.St.Store.database c.args.store.now told c.requires.whole)

pub returns-in-None-clause-current : goal.returns-in-None-clause-current
returns-in-None-clause-current g c = λ told.
    ap bytes_alone (sym c.in-None.is ∙ c.in_ok-bytes.ensures.held told ∙ ap (λ (n : ℕ). held_of (found_below c.args.oid (n + 1) (g.St.Store.state c.args.store.now).list)) (c.front.view_is ∙ c.newest.ensures.value told))
    ∙ current_is c.args.oid (g.St.Store.state c.args.store.now).list (g.met.St.Store.database c.args.store.now told c.requires.whole)
