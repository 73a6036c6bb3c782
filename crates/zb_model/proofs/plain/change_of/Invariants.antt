use Rattle.std.proofs.Common.{◌≡◌, drop}
use Rattle.std.specs.Prelude.{filter}
use Rattle.std.specs.Option.{option_copied}
use Rattle.std.specs.List.{last_or}
use Rattle.zb_model.specs.Database.{change_in, is_change_of}
use Rattle.zb_model.proofs.plain.change_of.Given as goal

abbrev pub invariant-loop-change : goal.invariant-loop-change
invariant-loop-change l = last_or (option_copied l.last) (filter (is_change_of l.fn.oid) (drop l.change-index l.changes)) ≡ change_in l.fn.oid l.changes
