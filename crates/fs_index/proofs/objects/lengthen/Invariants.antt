use Rattle.std.proofs.Common.{◌≡◌}
use Rattle.fs_index.specs.Slots.{slots_from, alone_kept}
use Rattle.fs_index.proofs.objects.lengthen.Given as goal

-- no object has got a place
abbrev pub invariant-more : goal.invariant-more
invariant-more l = record { same : slots_from 0 (alone_kept l.alone.items) ≡ slots_from 0 (alone_kept l.fn.alone.items) }
