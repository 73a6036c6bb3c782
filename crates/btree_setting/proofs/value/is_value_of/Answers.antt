use Rattle.std.proofs.Common.{◌∙◌, sym}
use Rattle.btree_setting.proofs.Spellings.{spelled_is}
use Rattle.btree_setting.proofs.value.is_value_of.Goals as goal

pub returns-in-Ok-clause-spelled : goal.returns-in-Ok-clause-spelled
returns-in-Ok-clause-spelled c = λ t.
    spelled_is c.args.text.now c.in-Ok.spelled c.args.pickle.now _ c.root_fits.ensures.graph c.root.ensures.root c.in-Ok.ensures.text (sym c.eq.ensures ∙ t)
