use Rattle.std.proofs.Common.{sym, ap, ◌∙◌}
use Rattle.std.specs.FinSet.{contains}
use Rattle.zb_model.proofs.Sets.{in_set}
use Rattle.zb_model.proofs.oid_set.OidSet.contains.Goals as goal

pub returns : goal.returns
returns c = c.contains.ensures ∙ sym (in_set c.self.inside.oids.keys c.args.oid) ∙ ap (λ s. contains s c.args.oid) c.self.view_is
