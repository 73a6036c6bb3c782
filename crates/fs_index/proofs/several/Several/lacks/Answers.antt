use Rattle.std.proofs.Common.{ap, sym, ◌∙◌, None}
use Rattle.std.specs.Prelude.{nat_eq, slice_get}
use Rattle.std.specs.Map.{lookup}
use Rattle.fs_index.specs.Slots.{ObjectsKept, if_held}
use Rattle.fs_index.proofs.Slots.{looked_up}
use Rattle.fs_index.proofs.several.Several.lacks.Goals as goal

pub returns : goal.returns
returns c =
    let absent = ap (λ ks. if_held (slice_get ks c.args.oid)) (sym c.as_slice.ensures.value) ∙ c.is_held.ensures.absent c.if-is_held.false in
    λ _. sym (ap (λ (k : ObjectsKept). lookup (nat_eq c.args.oid) k.entries) c.self.view_is)
    ∙ looked_up c.self.inside.slots.items c.self.inside.others.entries c.args.oid None absent ∙ c.is_other.ensures c.if-is_other.false
