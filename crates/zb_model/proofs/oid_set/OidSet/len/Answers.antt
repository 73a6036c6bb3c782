use Rattle.std.proofs.Common.{sym, ap, ◌∙◌}
use Rattle.std.specs.FinSet.{len}
use Rattle.zb_model.proofs.Sets.{len_set}
use Rattle.zb_model.proofs.oid_set.OidSet.len.Goals as goal

pub returns-clause-count : goal.returns-clause-count
returns-clause-count c = c.len.ensures.len ∙ sym (len_set c.self.inside.oids.keys c.len.ensures.ordered) ∙ ap len c.self.view_is
