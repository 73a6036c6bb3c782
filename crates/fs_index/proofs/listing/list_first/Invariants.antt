use Rattle.std.proofs.Common.{ℕ, ◌<◌}
use Rattle.std.specs.List.{Contains}
use Rattle.fs_index.specs.Listed.{AreAmong}
use Rattle.fs_index.proofs.listing.list_first.Given as goal

-- the first numbers stand behind the objects
abbrev pub invariant-each : goal.invariant-each
invariant-each l = record {
  first : (o : ℕ) → o < l.number → Contains l.oids.items o;
  kept : AreAmong l.fn.oids.items l.oids.items;
}
