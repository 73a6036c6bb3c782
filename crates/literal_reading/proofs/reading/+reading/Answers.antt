use Rattle.std.proofs.Common.{sym, ◌∙◌}
use Rattle.std.proofs.lemmas.Result.{err_from_is_err_and}
use Rattle.literal_reading.proofs.Loops.{items_end, items_none, items_shorter, items_more, pairs_end, pairs_none, pairs_shorter, pairs_more, fails_on}
use Rattle.literal_reading.proofs.reading.+reading.Goals as goal

pub items_of-returns-in_default : goal.items_of-returns-in_default
items_of-returns-in_default t c = sym c.items.invariant ∙ items_end c.args.levels c.items.nodes c.items.items c.items.rest.now (sym c.in_default.ensures)

pub items_of-returns-in_err-more : goal.items_of-returns-in_err-more
items_of-returns-in_err-more t c =
    let p = err_from_is_err_and c.from_residual.result c.from_residual.ensures.1 in
    rw (p.1, p.2) (fails_on c.in_err-more.field-0.0 _ _ (λ none. sym c.items.invariant ∙ items_none c.args.levels c.items.nodes c.items.items c.items.rest.now c.in-Some.next.now (sym c.in-Some.ensures) none) c.in_err-more.ensures)

pub items_of-items-smaller : goal.items_of-items-smaller
items_of-items-smaller t c = items_shorter c.args.levels c.items.nodes c.items.items c.items.rest.now c.in-Some.next.now (c.in_ok-more.more.0, c.in_ok-more.more.1, c.in_ok-more.more.2.now) (sym c.in-Some.ensures) c.in_ok-more.ensures

pub items_of-items-preserved : goal.items_of-items-preserved
items_of-items-preserved t c =
    items_more c.args.levels c.items.nodes c.items.items c.items.rest.now c.in-Some.next.now (c.in_ok-more.more.0, c.in_ok-more.more.1, c.in_ok-more.more.2.now) (sym c.in-Some.ensures) c.in_ok-more.ensures ∙ c.items.invariant

pub pairs_of-returns-in_default : goal.pairs_of-returns-in_default
pairs_of-returns-in_default t c = sym c.pairs.invariant ∙ pairs_end c.args.levels c.pairs.nodes c.pairs.pairs c.pairs.rest.now (sym c.in_default.ensures)

pub pairs_of-returns-in_err-more : goal.pairs_of-returns-in_err-more
pairs_of-returns-in_err-more t c =
    let p = err_from_is_err_and c.from_residual.result c.from_residual.ensures.1 in
    rw (p.1, p.2) (fails_on c.in_err-more.field-0.0 _ _ (λ none. sym c.pairs.invariant ∙ pairs_none c.args.levels c.pairs.nodes c.pairs.pairs c.pairs.rest.now c.in-Some.next.now (sym c.in-Some.ensures) none) c.in_err-more.ensures)

pub pairs_of-pairs-smaller : goal.pairs_of-pairs-smaller
pairs_of-pairs-smaller t c = pairs_shorter c.args.levels c.pairs.nodes c.pairs.pairs c.pairs.rest.now c.in-Some.next.now (c.in_ok-more.more.0, c.in_ok-more.more.1, c.in_ok-more.more.2.now) (sym c.in-Some.ensures) c.in_ok-more.ensures

pub pairs_of-pairs-preserved : goal.pairs_of-pairs-preserved
pairs_of-pairs-preserved t c =
    pairs_more c.args.levels c.pairs.nodes c.pairs.pairs c.pairs.rest.now c.in-Some.next.now (c.in_ok-more.more.0, c.in_ok-more.more.1, c.in_ok-more.more.2.now) (sym c.in-Some.ensures) c.in_ok-more.ensures ∙ c.pairs.invariant
