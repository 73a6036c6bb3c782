-- An object is found where it was visited.
use Rattle.std.proofs.Common.{◌∙◌, ap}
use Rattle.btree_checking.specs.Rules.{Tour, was_visited}
use Rattle.btree_checking.proofs.Visited.{found_visited}
use Rattle.btree_checking.proofs.survey.Survey.has.Goals as goal

pub returns : goal.returns
returns c = c.contains_key.ensures ∙ found_visited c.self.inside.visits.entries c.args.oid ∙ ap (λ (tour : Tour). was_visited tour.visits c.args.oid) c.self.view_is
