use Rattle.std.proofs.Common.{◌≡◌, [], ap, sym, rules}
use Rattle.std.specs.Option.{option_map_or}
use Rattle.fs_index.proofs.Adding.{Changes, added_by, same_by, room_still, then_ok, then_err}
use Rattle.fs_index.proofs.several.keep_other.Goals as goal

pub returns-in-Some-clause-ok : goal.returns-in-Some-clause-ok
returns-in-Some-clause-ok c =
    let written : Changes c.args.others.now.entries (c.get_mut.follows.lender c.push.new.self).entries c.args.oid c.push.new.self = ((c.get_mut.follows.holds c.push.new.self).3 (search rules)).0 in
    then_ok c.push.result c.push.ensures.ok
    (λ longer. added_by c.args.others.now.entries (c.get_mut.follows.lender c.push.new.self).entries c.args.oid c.args.place c.in-Some.places.now.places c.push.new.self (ap (λ o. option_map_or (λ k. k.places) o []) (sym c.in-Some.ensures.value)) longer written)

pub returns-in-Some-clause-err : goal.returns-in-Some-clause-err
returns-in-Some-clause-err c =
    let written : Changes c.args.others.now.entries (c.get_mut.follows.lender c.push.new.self).entries c.args.oid c.push.new.self = ((c.get_mut.follows.holds c.push.new.self).3 (search rules)).0 in
    then_err c.push.result c.push.ensures.err
    (λ same. same_by c.args.others.now.entries (c.get_mut.follows.lender c.push.new.self).entries c.args.oid c.in-Some.places.now c.push.new.self (sym c.in-Some.ensures.value) same written)

pub returns-in-Some-clause-others : goal.returns-in-Some-clause-others
returns-in-Some-clause-others c =
    let written : Changes c.args.others.now.entries (c.get_mut.follows.lender c.push.new.self).entries c.args.oid c.push.new.self = ((c.get_mut.follows.holds c.push.new.self).3 (search rules)).0 in
    λ o other room. room_still c.args.others.now.entries (c.get_mut.follows.lender c.push.new.self).entries c.args.oid c.push.new.self o written other room

pub returns-clause-ok : goal.returns-clause-ok
returns-clause-ok c =
    let as_before : c.get_mut.follows.lender-at-none ≡ c.args.others.now = c.get_mut.follows.holds-at-none in
    added_by c.args.others.now.entries c.insert.new.self.entries c.args.oid c.args.place [] c.one.result (ap (λ o. option_map_or (λ k. k.places) o []) (sym c.in_default.ensures.value)) (ap (λ k. k.places) c.one.ensures)
    (rw (← as_before) c.in_ok-insert.ensures.updates.0)

pub returns-clause-others : goal.returns-clause-others
returns-clause-others c =
    let as_before : c.get_mut.follows.lender-at-none ≡ c.args.others.now = c.get_mut.follows.holds-at-none in
    λ o other room. room_still c.args.others.now.entries c.insert.new.self.entries c.args.oid c.one.result o (rw (← as_before) c.in_ok-insert.ensures.updates.0) other room
