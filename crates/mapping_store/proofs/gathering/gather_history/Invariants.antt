use Rattle.std.proofs.Common.{◌≡◌, ◌++◌, drop}
use Rattle.std.specs.List.{filter_map}
use Rattle.zb_model.specs.Lists.{history_line}
use Rattle.mapping_store.proofs.gathering.gather_history.Given as goal

abbrev pub invariant-loop-transaction : goal.invariant-loop-transaction
invariant-loop-transaction l = l.revisions.items ++ filter_map (history_line l.fn.oid) (drop l.transaction-index l.list) ≡ filter_map (history_line l.fn.oid) l.list
