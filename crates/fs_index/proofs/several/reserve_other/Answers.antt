use Rattle.std.proofs.Common.{sym, rules}
use Rattle.fs_index.proofs.Adding.{Changes, same_by, room_kept}
use Rattle.fs_index.proofs.several.reserve_other.Goals as goal

pub returns-in-Some-clause-others : goal.returns-in-Some-clause-others
returns-in-Some-clause-others c =
    let written : Changes c.args.others.now.entries (c.get_mut.follows.lender c.reserve.new.self).entries c.args.oid c.reserve.new.self = ((c.get_mut.follows.holds c.reserve.new.self).3 (search rules)).0 in
    λ o room. room_kept c.args.others.now.entries (c.get_mut.follows.lender c.reserve.new.self).entries c.args.oid c.in-Some.places.now c.reserve.new.self (sym c.in-Some.ensures.value) c.reserve.ensures.room written o room

pub returns-in-Some-clause-places : goal.returns-in-Some-clause-places
returns-in-Some-clause-places c =
    let written : Changes c.args.others.now.entries (c.get_mut.follows.lender c.reserve.new.self).entries c.args.oid c.reserve.new.self = ((c.get_mut.follows.holds c.reserve.new.self).3 (search rules)).0 in
    same_by c.args.others.now.entries (c.get_mut.follows.lender c.reserve.new.self).entries c.args.oid c.in-Some.places.now c.reserve.new.self (sym c.in-Some.ensures.value) c.reserve.ensures.places written
