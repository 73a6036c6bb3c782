use Rattle.std.proofs.Common.{◌≡◌, ◌-◌}
use Rattle.zb_ids.specs.HexLaws.{behind_prefix}
use Rattle.zb_script.specs.Reading.{lowers_at, tids_at}
use Rattle.zb_script.proofs.voting.tids_of.Given as goal

abbrev pub invariant-loop-i : goal.invariant-loop-i
invariant-loop-i l = behind_prefix l.tids (lowers_at (l._i-end - l._i) l.last l.rest) ≡ tids_at l.bytes
