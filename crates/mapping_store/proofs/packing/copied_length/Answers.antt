use Rattle.mapping_store.proofs.Turns.{counted_behind, rest_is, turn_behind}
use Rattle.mapping_store.proofs.packing.copied_length.Goals as goal

pub turn_length-requires : goal.turn_length-requires
turn_length-requires c = counted_behind c.args.first c.args.packed.now _ (rest_is c.args.first c.args.packed.now) c.requires.bounded

pub returns-clause-turn : goal.returns-clause-turn
returns-clause-turn c = λ front rest parts long. turn_behind c.args.packed.now _ front rest c.args.first c.turn_length.result (rest_is c.args.first c.args.packed.now) c.turn_length.ensures.turn parts long
