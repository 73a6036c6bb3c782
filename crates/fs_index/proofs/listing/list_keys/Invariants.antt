use Rattle.fs_index.specs.Listed.{AreAmong}
use Rattle.fs_index.proofs.Collecting.{KeysUpTo}
use Rattle.fs_index.proofs.listing.list_keys.Given as goal

-- the keys of the first entries stand behind the objects
abbrev pub invariant-each : goal.invariant-each
invariant-each l = record {
  keys : KeysUpTo l.number l.oids.items l.others.entries;
  kept : AreAmong l.fn.oids.items l.oids.items;
}
