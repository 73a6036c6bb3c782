use Rattle.std.proofs.Common.{◌≡◌, ◌+◌, ◌-◌, ◌/◌, true, false, length, refl, arith}
use Rattle.std.proofs.lemmas.Option.{slice_get_read}
use Rattle.btree_family.specs.Keys.{is_below}
use Rattle.btree_setting.proofs.Halves.{left_half, middle_within, right_half}
use Rattle.btree_setting.proofs.inserting.place_in.Goals as goal

pub halves-preserved-then-is_below : goal.halves-preserved-then-is_below
halves-preserved-then-is_below c =
    let m = middle_within c.halves.low c.halves.high c.halves-test.true in
    let w = c.halves.invariant.within in
    let b = c.index-items-middle.result in
    let g = slice_get_read c.args.items.now (length c.args.items.now) (c.halves.low + (c.halves.high - c.halves.low) / 2) b refl (omega (arith, m.1, w)) c.index-items-middle.is in
    let t : is_below b.key c.args.key.now ≡ true = cc in
    let h = right_half c.args.items.now c.args.key.now c.halves.low c.halves.high b c.halves-test.true c.requires.rises c.halves.invariant.high w g t in
    record { low = h.0; high = h.1; within = h.2 }

pub halves-preserved : goal.halves-preserved
halves-preserved c =
    let m = middle_within c.halves.low c.halves.high c.halves-test.true in
    let w = c.halves.invariant.within in
    let b = c.index-items-middle.result in
    let g = slice_get_read c.args.items.now (length c.args.items.now) (c.halves.low + (c.halves.high - c.halves.low) / 2) b refl (omega (arith, m.1, w)) c.index-items-middle.is in
    let t : is_below b.key c.args.key.now ≡ false = cc in
    let h = left_half c.args.items.now c.args.key.now c.halves.low c.halves.high b c.halves-test.true c.halves.invariant.low w g t in
    record { low = h.0; high = h.1; within = h.2 }
