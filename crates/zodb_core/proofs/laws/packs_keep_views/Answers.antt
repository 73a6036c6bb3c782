use Rattle.zodb_core.proofs.Lawful.{fronts_kept, packed_as_was_asked, turns_keep, views_kept}
use Rattle.zodb_core.proofs.laws.packs_keep_views.Goals as goal

pub returns-clause-packed : goal.returns-clause-packed
returns-clause-packed c = packed_as_was_asked

pub returns-clause-unpacked : goal.returns-clause-unpacked
returns-clause-unpacked c = turns_keep

pub returns-clause-views : goal.returns-clause-views
returns-clause-views c = views_kept

pub returns-clause-fronts : goal.returns-clause-fronts
returns-clause-fronts c = fronts_kept
