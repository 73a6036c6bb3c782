use Rattle.fs_index.proofs.Adding.{then_ok}
use Rattle.fs_index.proofs.Slots.{held_in, held_same, held_reserved, held_keeps}
use Rattle.fs_index.proofs.several.reserve_held.Goals as goal

pub returns-clause-ok : goal.returns-clause-ok
returns-clause-ok c =
    let held = held_in c.args.slots.now.items c.oid.inside.0 c.args.oid c.index_mut.result.now c.oid.view_is c.requires c.index_mut.ensures.value in
    λ rest. then_ok c.reserve.result c.reserve.ensures.ok
    (λ room. held_reserved c.args.slots.now.items c.oid.inside.0 c.args.oid c.index_mut.result.now c.reserve.new.self rest c.oid.view_is held c.reserve.ensures.places room)

pub returns-clause-others : goal.returns-clause-others
returns-clause-others c =
    let held = held_in c.args.slots.now.items c.oid.inside.0 c.args.oid c.index_mut.result.now c.oid.view_is c.requires c.index_mut.ensures.value in
    λ rest o room. held_keeps c.args.slots.now.items c.oid.inside.0 c.args.oid c.index_mut.result.now c.reserve.new.self rest o c.oid.view_is held c.reserve.ensures.places c.reserve.ensures.room room

pub returns-clause-places : goal.returns-clause-places
returns-clause-places c =
    let held = held_in c.args.slots.now.items c.oid.inside.0 c.args.oid c.index_mut.result.now c.oid.view_is c.requires c.index_mut.ensures.value in
    λ rest o. held_same c.args.slots.now.items c.oid.inside.0 c.args.oid c.index_mut.result.now c.reserve.new.self rest c.oid.view_is held c.reserve.ensures.places o
