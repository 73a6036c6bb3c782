use Rattle.std.proofs.Common.{sym, ap, ◌∙◌}
use Rattle.std.specs.Prelude.{not}
use Rattle.std.specs.FinSet.{contains, insert}
use Rattle.zb_model.proofs.Sets.{in_set, insert_set}
use Rattle.zb_model.proofs.oid_set.OidSet.insert.Goals as goal

pub returns-clause-new : goal.returns-clause-new
returns-clause-new c = c.in_ok-insert.ensures.added ∙ ap not (sym (in_set c.self.inside.oids.keys c.args.oid) ∙ ap (λ s. contains s c.args.oid) c.self.view_is)

pub returns-clause-ok : goal.returns-clause-ok
returns-clause-ok c = insert_set c.self.inside.oids.keys _ c.args.oid (λ q. c.in_ok-insert.ensures.updates.0 q) ∙ ap (λ s. insert s c.args.oid) c.self.view_is
