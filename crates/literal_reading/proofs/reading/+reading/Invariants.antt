use Rattle.std.proofs.Common.{◌≡◌, ◌+◌, ◌*◌, length}
use Rattle.literal_reading.specs.Reading.{values_at, pairs_at, value_at}
use Rattle.literal_reading.proofs.reading.+reading.Given as goal

abbrev pub decreases-value_of : goal.decreases-value_of
decreases-value_of l = 8 * l.levels

abbrev pub decreases-item_of : goal.decreases-item_of
decreases-item_of l = 8 * l.levels + 1

abbrev pub decreases-pair_of : goal.decreases-pair_of
decreases-pair_of l = 8 * l.levels + 1

abbrev pub decreases-items_of : goal.decreases-items_of
decreases-items_of l = 8 * l.levels + 2

abbrev pub decreases-pairs_of : goal.decreases-pairs_of
decreases-pairs_of l = 8 * l.levels + 2

abbrev pub decreases-tuple_rest_of : goal.decreases-tuple_rest_of
decreases-tuple_rest_of l = 8 * l.levels + 3

abbrev pub decreases-tuple_of : goal.decreases-tuple_of
decreases-tuple_of l = 8 * l.levels + 4

abbrev pub decreases-list_of : goal.decreases-list_of
decreases-list_of l = 8 * l.levels + 4

abbrev pub decreases-dict_of : goal.decreases-dict_of
decreases-dict_of l = 8 * l.levels + 4

abbrev pub decreases-reference_of : goal.decreases-reference_of
decreases-reference_of l = 8 * l.levels + 4

abbrev pub decreases-shape_of : goal.decreases-shape_of
decreases-shape_of l = 8 * l.levels + 5

abbrev pub invariant-items_of-items : goal.invariant-items_of-items
invariant-items_of-items l = values_at (value_at l.fn.levels) l.nodes l.items l.rest ≡ values_at (value_at l.fn.levels) l.fn.nodes l.fn.items l.fn.bytes

abbrev pub decreases-items_of-items : goal.decreases-items_of-items
decreases-items_of-items l = length l.rest

abbrev pub invariant-pairs_of-pairs : goal.invariant-pairs_of-pairs
invariant-pairs_of-pairs l = pairs_at (value_at l.fn.levels) l.nodes l.pairs l.rest ≡ pairs_at (value_at l.fn.levels) l.fn.nodes l.fn.pairs l.fn.bytes

abbrev pub decreases-pairs_of-pairs : goal.decreases-pairs_of-pairs
decreases-pairs_of-pairs l = length l.rest
