use Rattle.std.proofs.Common.{◌≤◌, length}
use Rattle.btree_setting.specs.Changes.{AreDrawn}
use Rattle.btree_setting.proofs.Rising.{Climbs}
use Rattle.btree_setting.proofs.planning.climb.Given as goal

abbrev pub invariant-up : goal.invariant-up
invariant-up l = record {
  some : 1 ≤ l.place;
  within : l.place ≤ length l.rungs;
  climbs : Climbs l.terms l.bottom l.rungs l.place l.change;
  drawn : AreDrawn l.oids l.change.news;
}

abbrev pub decreases-up : goal.decreases-up
decreases-up l = l.place
