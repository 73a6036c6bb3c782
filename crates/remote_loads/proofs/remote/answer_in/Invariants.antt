use Rattle.std.proofs.Common.{◌≡◌, length}
use Rattle.std.specs.Vec.Iter.{into_iter_items, into_iter_len}
use Rattle.remote_loads.specs.Talking.{answer_in}
use Rattle.remote_loads.proofs.remote.answer_in.Given as goal

-- the first answer among those that are left is the first among all
abbrev pub invariant-loop-message : goal.invariant-loop-message
invariant-loop-message l =
    let left = into_iter_items l.message-iterator in
    record {
      ends : into_iter_len l.message-iterator ≡ length left;
      rest : answer_in left ≡ answer_in l.fn.messages;
    }
