use Rattle.std.proofs.Common.{◌≡◌, ◌+◌, ◌-◌, ◌≤◌, drop, length}
use Rattle.btree_putting.specs.Puts.{put_place}
use Rattle.btree_putting.proofs.puts.Puts.place_of.Given as goal

abbrev pub invariant-places : goal.invariant-places
invariant-places l = record { within : l.place ≤ length l.self; is : l.place + put_place l.fn.oid (drop l.place l.self) ≡ put_place l.fn.oid l.self }

abbrev pub decreases-places : goal.decreases-places
decreases-places l = length l.self - l.place
