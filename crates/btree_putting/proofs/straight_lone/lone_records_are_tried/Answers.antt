use Rattle.btree_putting.proofs.StraightLones.{lone_tried}
use Rattle.btree_putting.proofs.straight_lone.lone_records_are_tried.Goals as goal

pub returns : goal.returns
returns c =
    lone_tried c.written_records_read_back.ensures c.records_are_two_pickles.ensures.record c.written_leaves_read_back.ensures
    c.same_graphs_hold_the_same.ensures c.flat_states_are_spelled.ensures.stand c.lone_states_are_spelled.ensures.spelled
    c.lone_states_are_spelled.ensures.few c.lone_states_are_graphs.ensures.sound c.lone_states_are_graphs.ensures.named
