use Rattle.std.proofs.Common.{◌≡◌, take, drop}
use Rattle.zb_script.specs.Reading.{gap_from, literal_cut}
use Rattle.zb_script.proofs.words.cut_literal.Given as goal

abbrev pub invariant-loop-i : goal.invariant-loop-i
invariant-loop-i l = gap_from l.place (take l.i l.bytes) (drop l.i l.bytes) ≡ literal_cut l.bytes
