use Rattle.std.proofs.Common.{◌≡◌, ◌∙◌, ◌≤◌, ◌-◌, length, refl, sym, ap, arith}
use Rattle.std.proofs.lemmas.Option.{slice_get_read}
use Rattle.bucket_state.specs.declared.tree.Branch.{Branch}
use Rattle.btree_shapes.specs.Nodes.{child_for}
use Rattle.btree_shapes.proofs.Halving.{child_behind}
use Rattle.btree_shapes.proofs.node.child_for.Goals as goal

pub returns : goal.returns
returns c =
    let tail = c.as_slice-branches.result.now in
    let place = c.place_by_halves-place.result in
    let b = c.index-branches-place.result in
    let apart = c.if-place-eq0.false in
    let some : 1 ≤ place = omega (arith, apart) in
    let within = c.place_by_halves-place.ensures.within in
    let there = slice_get_read tail (length tail) (place - 1) b refl (omega (arith, some, within)) c.index-branches-place.is in
    ap (λ (x : Branch). x.child) (sym c.index-branches-place.is)
    ∙ sym (child_behind c.args.inner.now.head tail c.args.key.now place b some c.place_by_halves-place.ensures.is there)
    ∙ ap (λ xs. child_for c.args.inner.now.head xs c.args.key.now) c.as_slice-branches.ensures
