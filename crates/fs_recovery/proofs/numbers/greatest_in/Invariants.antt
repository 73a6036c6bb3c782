use Rattle.std.proofs.Common.{◌≡◌, drop, max}
use Rattle.zb_model.specs.Queries.{greatest_of}
use Rattle.fs_index.specs.Places.{oids_placed}
use Rattle.fs_recovery.proofs.numbers.greatest_in.Given as goal

abbrev pub invariant-each : goal.invariant-each
invariant-each l = max l.greatest (greatest_of (oids_placed (drop l.one-index l.placed))) ≡ greatest_of (oids_placed l.placed)
