use Rattle.btree_putting.proofs.StraightTexts.{straight_tried}
use Rattle.btree_putting.proofs.straight.straight_records_are_tried.Goals as goal

pub returns : goal.returns
returns c =
    straight_tried c.written_records_read_back.ensures c.records_are_two_pickles.ensures.record c.written_buckets_read_back.ensures
    c.same_graphs_hold_the_same.ensures c.flat_states_are_spelled.ensures.stand c.flat_states_are_spelled.ensures.spelled
    c.flat_states_are_spelled.ensures.few c.flat_states_are_graphs.ensures.sound c.flat_states_are_graphs.ensures.named
