use Rattle.std.proofs.Common.{◌∙◌, append-nil}
use Rattle.btree_putting.proofs.Rows.{stored_next, rest_kept}
use Rattle.btree_putting.proofs.storing.store_all.Goals as goal

pub puts-preserved : goal.puts-preserved
puts-preserved g c = record {
  stored = stored_next _ _ _ _ _ _ c.in-Some.one _ _ _ _ _ _ c.puts.invariant.stored c.in-Some.ensures c.puts.invariant.kept c.in_ok-store.ensures.ok c.in_ok-store.ensures.written;
  kept = rest_kept _ _ _ _ _ c.puts.invariant.kept c.in-Some.ensures;
  refusals = λ t. c.in_ok-store.ensures.refusals t ∙ append-nil _ ∙ c.puts.invariant.refusals t;
}
