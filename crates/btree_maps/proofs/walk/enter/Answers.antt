use Rattle.std.proofs.Common.{◌≡◌, true, false}
use Rattle.std.specs.Prelude.{◌&&◌}
use Rattle.btree_shapes.specs.Nodes.{objects_of}
use Rattle.btree_shapes.specs.Ways.{stands_in}
use Rattle.btree_maps.specs.Visits.{ends_suit}
use Rattle.btree_maps.proofs.Meeting.{enter_logged, enter_met, enter_read}
use Rattle.btree_maps.proofs.Walks.{enter_bad_key, enter_gives, enter_less}
use Rattle.btree_maps.proofs.walk.enter.Goals as goal

pub returns-then-not-suits-clause-err : goal.returns-then-not-suits-clause-err
returns-then-not-suits-clause-err g c =
    let s : stands_in c.args.walk.way c.args.oid ≡ false = cc in
    let t : (c.args.fits && ends_suit c.args.span.now c.in_ok-node.field-0.node) ≡ false = cc in
    enter_bad_key _ _ _ _ _ _ _ c.requires.room s c.in_ok-node.ensures.entry t

pub returns-clause-gives : goal.returns-clause-gives
returns-clause-gives g c =
    let s : stands_in c.args.walk.way c.args.oid ≡ false = cc in
    let t : (c.args.fits && ends_suit c.args.span.now c.in_ok-node.field-0.node) ≡ true = cc in
    enter_gives _ _ _ _ _ _ _ _ c.requires.room s c.in_ok-node.ensures.entry t c.in_ok-enter_node.ensures.walk

pub returns-clause-less : goal.returns-clause-less
returns-clause-less g c = enter_less _ _ _ _ _ _ _ c.requires.room c.in_ok-node.ensures.entry c.in_ok-enter_node.ensures.walk

pub returns-clause-left : goal.returns-clause-left
returns-clause-left g c =
    let s : stands_in c.args.walk.way c.args.oid ≡ false = cc in
    enter_met c.args.span.now (objects_of (g.S.Space.contents c.args.space.now) c.args.tree.now.root) c.args.walk _ c.args.oid _ _ c.requires.room s c.in_ok-node.ensures.entry c.in_ok-enter_node.ensures.walk

pub returns-in_err-node-clause-met : goal.returns-in_err-node-clause-met
returns-in_err-node-clause-met g c =
    let s : stands_in c.args.walk.way c.args.oid ≡ false = cc in
    λ t. enter_logged c.args.span.now (objects_of (g.S.Space.contents c.args.space.now) c.args.tree.now.root) c.args.walk.way c.args.walk.lefts c.args.oid _ _ _ c.requires.room s (c.in_err-node.ensures.log t)

pub returns-then-not-suits-clause-met : goal.returns-then-not-suits-clause-met
returns-then-not-suits-clause-met g c =
    let s : stands_in c.args.walk.way c.args.oid ≡ false = cc in
    λ t. enter_read c.args.span.now (objects_of (g.S.Space.contents c.args.space.now) c.args.tree.now.root) c.args.walk.way c.args.walk.lefts c.args.oid _ _ c.requires.room s (c.in_ok-node.ensures.log t)

pub returns-in_err-enter_node-clause-met : goal.returns-in_err-enter_node-clause-met
returns-in_err-enter_node-clause-met g c =
    let s : stands_in c.args.walk.way c.args.oid ≡ false = cc in
    λ t. enter_read c.args.span.now (objects_of (g.S.Space.contents c.args.space.now) c.args.tree.now.root) c.args.walk.way c.args.walk.lefts c.args.oid _ _ c.requires.room s (c.in_ok-node.ensures.log t)

pub returns-clause-met : goal.returns-clause-met
returns-clause-met g c =
    let s : stands_in c.args.walk.way c.args.oid ≡ false = cc in
    λ t. enter_read c.args.span.now (objects_of (g.S.Space.contents c.args.space.now) c.args.tree.now.root) c.args.walk.way c.args.walk.lefts c.args.oid _ _ c.requires.room s (c.in_ok-node.ensures.log t)
