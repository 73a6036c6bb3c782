use Rattle.std.proofs.Common.{◌∙◌}
use Rattle.pack_reach.proofs.Taking.{taken_all}
use Rattle.pack_reach.proofs.marker.Marker.without_collection.Goals as goal

pub returns-clause-all : goal.returns-clause-all
returns-clause-all g c = λ told named.
    c.marks.view_is ∙ taken_all (g.St.Store.state c.args.store.now).list c.in_ok-seen.seen c.take_list.new.marks (c.in_ok-seen.ensures.taken told) (c.in_ok-seen.ensures.all told)
