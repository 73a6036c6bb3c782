-- By the spelling of the number.
use Rattle.std.proofs.Common.{◌∙◌, ap}
use Rattle.std.specs.Prelude.{ℤ}
use Rattle.std.specs.Int.{w128}
use Rattle.std.proofs.lemmas.Int.{to_z-of_z}
use Rattle.pickle_writing.specs.Spelling.{number_text}
use Rattle.btree_family.specs.Families.{number_fits}
use Rattle.bucket_state.proofs.FlatValues.{number_flat}
use Rattle.bucket_state.proofs.flat.spells_number.Goals as goal

pub returns-then-is_same : goal.returns-then-is_same
returns-then-is_same c =
    let back = to_z-of_z w128 c.args.number c.ranges.number in
    λ h. number_flat c.args.kind c.args.number c.number_fits.result c.args.text.now c.as_slice.result.now c.in_ok-spelled.spelled c.ranges.number
    (c.number_fits.ensures ∙ ap (λ (z : ℤ). number_fits c.args.kind z) back) h (c.is_same.ensures c.if-is_same.true) c.as_slice.ensures.value
    (c.in_ok-spelled.ensures ∙ ap number_text back)
