use Rattle.std.proofs.Common.{◌≡◌}
use Rattle.fs_index.specs.Slots.{slots_from}
use Rattle.fs_index.proofs.several.lengthen.Given as goal

-- no object has got places
abbrev pub invariant-more : goal.invariant-more
invariant-more l = record { same : slots_from 0 l.slots.items ≡ slots_from 0 l.fn.slots.items }
