use Rattle.std.proofs.Common.{◌+◌, arith, sym, subst, ◌∙◌}
use Rattle.zb_model.specs.Voting.{voted_of}
use Rattle.fs_index.specs.Places.{Kept}
use Rattle.fs_records.specs.Indexed.{IsIndexOf}
use Rattle.fs_records.specs.Writing.{IsNext, block_of}
use Rattle.file_store.proofs.Sizes.{records_within}
use Rattle.file_store.proofs.preparing.prepare.Goals as goal

pub stage-requires-clause-within : goal.stage-requires-clause-within
stage-requires-clause-within c =
    omega (
      arith,
      records_within c.index.result.now.entries c.end-end.result (c.end-end.result + (23 + (c.len-3.result + c.len-4.result + c.len-5.result))) c.args.new.now c.as_slice.result.now c.in_ok-text.text c.as_slice.ensures c.in_ok-text.ensures.text (omega (arith, c.len-3.ensures, c.len-4.ensures, c.len-5.ensures)),
      c.len-6.ensures,
    )

pub returns-clause-next : goal.returns-clause-next
returns-clause-next c = λ bytes s begins index here votable.
    subst (λ (kept : Kept). IsNext s (block_of 32 kept.entries c.args.new.now) (voted_of s.list c.args.new.now)) c.index.ensures.value
    (c.in_ok-text.ensures.block bytes s begins (subst (λ (kept : Kept). IsIndexOf s kept) (sym c.index.ensures.value) index) (here ∙ sym c.end-end.ensures.value) votable)
