use Rattle.std.proofs.Common.{ℕ, ap, ◌++◌, ◌∙◌}
use Rattle.std.specs.Prelude.{nat_eq, slice_set}
use Rattle.std.specs.Map.{lookup}
use Rattle.fs_index.specs.Slots.{slots_from}
use Rattle.fs_index.proofs.Slots.{slot_changes}
use Rattle.fs_index.proofs.several.set_slot.Goals as goal

pub returns : goal.returns
returns c = λ rest o. ap (λ (i : ℕ). lookup (nat_eq o) (slots_from 0 (slice_set c.args.slots.now.items i c.args.places) ++ rest)) c.oid.view_is
    ∙ slot_changes c.args.slots.now.items rest c.args.oid c.args.places c.requires.within c.requires.some o
