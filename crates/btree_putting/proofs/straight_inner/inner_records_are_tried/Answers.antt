use Rattle.btree_putting.proofs.StraightInners.{inner_tried}
use Rattle.btree_putting.proofs.straight_inner.inner_records_are_tried.Goals as goal

pub returns : goal.returns
returns c =
    inner_tried c.written_records_read_back.ensures c.records_are_two_pickles.ensures.record c.written_objects_read_back.ensures
    c.same_graphs_hold_the_same.ensures c.written_buckets_read_back.ensures c.links_stand_apart.ensures c.inner_states_are_spelled.ensures.spelled
    c.inner_states_are_spelled.ensures.few c.inner_states_are_graphs.ensures.sound c.inner_states_are_graphs.ensures.named
