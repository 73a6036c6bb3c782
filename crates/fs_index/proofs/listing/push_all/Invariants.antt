use Rattle.std.proofs.Common.{◌≡◌, ◌++◌, map, take}
use Rattle.fs_index.specs.Listed.{placed}
use Rattle.fs_index.proofs.listing.push_all.Given as goal

-- the first of them stand behind the others
abbrev pub invariant-each : goal.invariant-each
invariant-each l = record { pushed : l.records.items ≡ l.fn.records.items ++ map (placed l.oid) (take l.place-index l.places) }
