-- What the items from here on give is what all give.
use Rattle.std.proofs.Common.{◌≡◌, drop, None}
use Rattle.std.specs.Option.{option_copied}
use Rattle.btree_family.specs.Buckets.{keys_of}
use Rattle.bucket_state.specs.States.{stand_in_row}
use Rattle.bucket_state.proofs.items.stand.Given as goal

abbrev pub invariant-loop-item : goal.invariant-loop-item
invariant-loop-item l = stand_in_row (option_copied l.before) (keys_of (drop l.item-index l.items)) ≡ stand_in_row None (keys_of l.items)
