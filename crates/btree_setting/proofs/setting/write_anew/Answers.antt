use Rattle.std.proofs.Common.{sym, ◌∙◌}
use Rattle.btree_setting.proofs.Answering.{none_put}
use Rattle.btree_setting.proofs.Counting.{counts_news}
use Rattle.btree_setting.proofs.Rekept.{plan_kept}
use Rattle.btree_setting.proofs.Trying.{tried_some}
use Rattle.btree_setting.proofs.setting.write_anew.Goals as goal

pub draw_and_plan-requires : goal.draw_and_plan-requires
draw_and_plan-requires g c = record { counted = counts_news _ _ _ _ _ (tried_some _ _ _ _ _ _ c.in-Some-2.is c.in_ok-trial.ensures).passes }

pub keep_plan-requires-clause-kept : goal.keep_plan-requires-clause-kept
keep_plan-requires-clause-kept g c =
    plan_kept c.alike_records_are_kept.ensures c.same_graphs_hold_the_same.ensures c.links_stand_apart.ensures c.written_objects_read_back.ensures _ _
    g.S.Space.told _ _ _ c.in_ok-puts.puts _ _ (tried_some _ _ _ _ _ _ c.in-Some-2.is c.in_ok-trial.ensures).passes c.in_ok-puts.ensures.ok

pub returns-in_default-keep_plan-clause-writes : goal.returns-in_default-keep_plan-clause-writes
returns-in_default-keep_plan-clause-writes g c =
    none_put g.S.Space.told _ _ _ _ _ _ _ c.in_ok-puts.puts _ _ _ _ (sym c.in_ok-terms.ensures ∙ c.in-Some.is)
    (tried_some _ _ _ _ _ _ c.in-Some-2.is c.in_ok-trial.ensures).passes c.in_ok-puts.ensures.ok c.in_ok-puts.ensures.contents
