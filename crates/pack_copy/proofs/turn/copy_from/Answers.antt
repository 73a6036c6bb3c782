use Rattle.std.proofs.Common.{◌≡◌, ℕ, List, refl, sym, ap, subst, ◌∙◌}
use Rattle.zb_volume.specs.declared.areas.Area.TheVariants.{Main, Side}
use Rattle.zb_volume.specs.Disk.{seen}
use Rattle.fs_records.specs.Listed.{listed}
use Rattle.pack_copy.specs.Appending.{Held, with_held}
use Rattle.pack_copy.specs.UpTo.{IsCopiedUpTo, Went}
use Rattle.pack_copy.proofs.Appendings.{all_written, nothing_held}
use Rattle.pack_copy.proofs.Stays.{others_join, others_same}
use Rattle.pack_copy.proofs.turn.copy_from.Goals as goal
use Rattle.pack_copy.proofs.turn.copy_from.Goals.{In_ok-flush}

pub copy_each-requires-clause-side : goal.copy_each-requires-clause-side
copy_each-requires-clause-side g c = λ told. ap (λ (b : Held). b.end) c.start.ensures ∙ c.end.ensures ∙ sym (c.requires.up_to told).copied.long

pub copy_each-requires-clause-up_to : goal.copy_each-requires-clause-up_to
copy_each-requires-clause-up_to g c = λ told.
    let log = (g.V.Volume.state c.args.volume.now).log in
    subst (λ (s : List ℕ). IsCopiedUpTo (listed (seen log Main)) s c.args.to.now c.args.keep.now c.args.first)
    (sym (nothing_held log c.start.new.self (ap (λ (b : Held). b.bytes) c.start.ensures))) (c.requires.up_to told)

-- all that was held stands on Side
written : (g : _) (c : In_ok-flush g) → g.V.Volume.told → with_held (g.V.Volume.state c.copy_each.new.volume).log c.copy_each.new.buffer ≡ seen (g.V.Volume.state c.flush.new.volume).log Side
written g c told = sym (all_written _ _ c.copy_each.new.buffer c.flush.new.self c.in_ok-flush.ensures.empty (c.in_ok-flush.ensures.appended told))

pub returns-clause-went : goal.returns-clause-went
returns-clause-went g c = λ told.
    let log = (g.V.Volume.state c.args.volume.now).log in
    let list = listed (seen log Main) in
    subst (λ (s : List ℕ). Went c.args.extent c.args.from.now c.args.keep.now c.args.first list (seen log Side) s c.copy_each.new.to c.in_ok-whole.whole) (written g (goal.at.returns-clause-went g c).In_ok-flush told)
    (subst (λ (s : List ℕ). Went c.args.extent c.args.from.now c.args.keep.now c.args.first list s (with_held (g.V.Volume.state c.copy_each.new.volume).log c.copy_each.new.buffer) c.copy_each.new.to c.in_ok-whole.whole)
    (nothing_held log c.start.new.self (ap (λ (b : Held). b.bytes) c.start.ensures)) (c.in_ok-whole.ensures.went told))

pub returns-clause-others : goal.returns-clause-others
returns-clause-others g c = λ told. others_join _ _ _ (c.copy_each.ensures.others told) (c.flush.ensures.others told)

pub returns-in_err-flush-clause-others : goal.returns-in_err-flush-clause-others
returns-in_err-flush-clause-others g c = λ told. others_join _ _ _ (c.copy_each.ensures.others told) (c.flush.ensures.others told)

pub returns-in_err-buffer-clause-others : goal.returns-in_err-buffer-clause-others
returns-in_err-buffer-clause-others g c = λ told. others_same _ _ refl
