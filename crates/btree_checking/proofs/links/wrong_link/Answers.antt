-- The links of one more object.
use Rattle.std.proofs.Common.{◌≡◌, ◌<◌, ◌-◌, ◌∙◌, Some, slice_get, arith, sym}
use Rattle.btree_checking.specs.Verdicts.{names_first, names_next}
use Rattle.btree_checking.proofs.Visited.{leaf_step, wrong_step}
use Rattle.btree_checking.proofs.links.wrong_link.Goals as goal

pub loop-place-preserved-in-Some : goal.loop-place-preserved-in-Some
loop-place-preserved-in-Some c =
    let i = c.loop-place.invariant in
    let w = i.within in
    let positive : 0 < c.loop-place.place = search in
    let e : slice_get c.args.visits.now.entries (c.loop-place.place - 1) ≡ Some (c.in-Some.oid.now, c.in-Some.pointer.now) = sym c.in-Some.ensures.entry in
    record {
      within = omega (arith, w);
      leaf = c.leaf_or-leaf.ensures ∙ leaf_step _ _ _ _ _ positive e i.leaf;
      first = c.first_wrong-first.ensures ∙ wrong_step names_first _ _ _ _ _ _ positive e i.leaf i.first;
      next = c.next_wrong-next.ensures ∙ wrong_step names_next _ _ _ _ _ _ positive e i.leaf i.next;
    }
