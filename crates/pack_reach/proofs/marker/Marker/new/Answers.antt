use Rattle.pack_reach.proofs.Growing.{new_may}
use Rattle.pack_reach.proofs.marker.Marker.new.Goals as goal

pub returns-clause-may_mark : goal.returns-clause-may_mark
returns-clause-may_mark c = λ named list. new_may named list c.args.tid c.new.result c.in_ok-with_capacity.field-0.items c.new.ensures c.in_ok-with_capacity.ensures.items
