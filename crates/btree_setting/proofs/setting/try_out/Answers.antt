use Rattle.std.proofs.Common.{sym, subst}
use Rattle.btree_setting.specs.Sets.{AreZero}
use Rattle.btree_setting.proofs.Trying.{is_trial, is_tried, some_case}
use Rattle.btree_setting.proofs.setting.try_out.Goals as goal

pub returns : goal.returns
returns c =
    is_tried _ _ _ _ c.in_ok-news.field-0 c.len-count.result _ c.in-Some-2.olds
    (is_trial _ _ _ _ (subst AreZero (sym c.as_slice.ensures) c.in_ok-oids.ensures) c.in_ok-news.ensures.drawn c.in_ok-news.ensures.set)
    (some_case _ _ _ _ c.in-Some.is c.in_ok-keep_all.ensures) (some_case _ _ _ _ c.in-Some-2.is c.in_ok-olds.ensures) c.len-count.ensures
