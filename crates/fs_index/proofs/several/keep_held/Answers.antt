use Rattle.fs_index.proofs.Adding.{then_ok, then_err}
use Rattle.fs_index.proofs.Slots.{held_in, held_added, held_same, held_room, others_keep, any_pushed}
use Rattle.fs_index.proofs.several.keep_held.Goals as goal

pub returns-clause-ok : goal.returns-clause-ok
returns-clause-ok c =
    let held = held_in c.args.slots.now.items c.oid.inside.0 c.args.oid c.index_mut.result.now c.oid.view_is c.requires c.index_mut.ensures.value in
    λ rest. then_ok c.push.result c.push.ensures.ok
    (λ longer. held_added c.args.slots.now.items c.oid.inside.0 c.args.oid c.index_mut.result.now c.push.new.self c.args.place rest c.oid.view_is held longer)

pub returns-clause-err : goal.returns-clause-err
returns-clause-err c =
    let held = held_in c.args.slots.now.items c.oid.inside.0 c.args.oid c.index_mut.result.now c.oid.view_is c.requires c.index_mut.ensures.value in
    λ rest. then_err c.push.result c.push.ensures.err
    (λ same. held_same c.args.slots.now.items c.oid.inside.0 c.args.oid c.index_mut.result.now c.push.new.self rest c.oid.view_is held same)

pub returns-clause-succeeds : goal.returns-clause-succeeds
returns-clause-succeeds c =
    let held = held_in c.args.slots.now.items c.oid.inside.0 c.args.oid c.index_mut.result.now c.oid.view_is c.requires c.index_mut.ensures.value in
    λ rest room. c.push.ensures.succeeds (held_room c.args.slots.now.items c.args.oid c.index_mut.result.now rest held room)

pub returns-clause-others : goal.returns-clause-others
returns-clause-others c =
    let held = held_in c.args.slots.now.items c.oid.inside.0 c.args.oid c.index_mut.result.now c.oid.view_is c.requires c.index_mut.ensures.value in
    λ rest o other room. others_keep c.args.slots.now.items c.oid.inside.0 c.args.oid c.push.new.self rest o c.oid.view_is held.within
    (any_pushed c.push.result c.index_mut.result.now c.push.new.self c.args.place held.any c.push.ensures.ok c.push.ensures.err) other room
