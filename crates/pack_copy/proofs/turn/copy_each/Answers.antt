use Rattle.std.proofs.Common.{◌≡◌, ◌≤◌, ℕ, Bool, ◌+◌, List, refl, sym, subst, ◌∙◌, arith}
use Rattle.zb_volume.specs.declared.areas.Area.TheVariants.{Main}
use Rattle.zb_volume.specs.Disk.{seen}
use Rattle.zb_model.specs.Packs.{change_count, changes_a_turn}
use Rattle.fs_records.specs.Listed.{listed, reached_in}
use Rattle.fs_recovery.specs.Opens.{newest_kept}
use Rattle.fs_reading.specs.Main.{IsStartOf}
use Rattle.pack_copy.specs.Appending.{with_held}
use Rattle.pack_copy.specs.CopiedLaws.{copied_counts}
use Rattle.pack_copy.specs.Copying.{CopyKept, IsSource}
use Rattle.pack_copy.specs.UpTo.{AreShort, GoesOn, IsBelowNext, IsCopiedUpTo}
use Rattle.pack_copy.proofs.Appendings.{held_same}
use Rattle.pack_copy.proofs.Short.{short_more}
use Rattle.pack_copy.proofs.Stays.{others_join, others_same, seen_same}
use Rattle.pack_copy.proofs.Turns.{all_gone, next_above, start_is}
use Rattle.pack_copy.proofs.turn.copy_each.Goals as goal
use Rattle.pack_copy.proofs.turn.copy_each.Goals.{In_ok-over}

pub copy-init : goal.copy-init
copy-init g c =
    let first : c.args.first ≡ c.args.first + 0 = omega arith in
    record {
      others = λ told. others_same _ _ refl;
      side = λ told. c.requires.side told;
      up_to = λ told. subst (λ (n : ℕ). IsCopiedUpTo (listed (seen (g.V.Volume.state c.args.volume.now).log Main)) (with_held (g.V.Volume.state c.args.volume.now).log c.args.buffer.now) c.args.to.now c.args.keep.now n) first (c.requires.up_to told);
      short = λ told before is k above within. absurd (omega (arith, above, within));
      above = subst (λ (n : ℕ). IsBelowNext c.args.from.now.transactions (newest_kept c.args.to.now.index) n) first c.requires.next.above;
      tid = refl;
      counts = record { reads = refl; writes = refl };
    }

pub copy_one-requires-clause-source : goal.copy_one-requires-clause-source
copy_one-requires-clause-source g c = λ told. subst (λ (m : List ℕ). IsSource m c.args.from.now) (sym (seen_same Main _ _ (c.copy.invariant.others told Main refl))) (c.requires.source told)

pub copy_one-requires-clause-next : goal.copy_one-requires-clause-next
copy_one-requires-clause-next g c = λ told.
    let main = seen (g.V.Volume.state c.args.volume.now).log Main in
    let same : main ≡ seen (g.V.Volume.state c.copy.volume).log Main = sym (seen_same Main _ _ (c.copy.invariant.others told Main refl)) in
    let source = c.requires.source told in
    let start = start_is c.transactions-starts.result.now (reached_in main).starts c.args.first c.copy.start-index c.start-item.result (c.transactions-starts.ensures.value ∙ source.index.transactions) c.copy-test.true c.start-item.is in (
      c.args.first + c.copy.start-index,
      subst (λ (m : List ℕ). IsStartOf (reached_in m) (c.args.first + c.copy.start-index) c.start-item.result) same start,
      subst (λ (m : List ℕ). IsCopiedUpTo (listed m) (with_held (g.V.Volume.state c.copy.volume).log c.copy.buffer) c.copy.to c.args.keep.now (c.args.first + c.copy.start-index)) same (c.copy.invariant.up_to told),
    )

pub returns-in_err-over-clause-others : goal.returns-in_err-over-clause-others
returns-in_err-over-clause-others g c = λ told. others_join _ _ _ (c.copy.invariant.others told) (c.copy_one.ensures.others told)

-- how the next transaction was gone over
next : (g : _) (c : In_ok-over g) → g.V.Volume.told
    → GoesOn (listed (seen (g.V.Volume.state c.args.volume.now).log Main)) (with_held (g.V.Volume.state c.copy_one.new.volume).log c.copy_one.new.buffer) c.copy_one.new.to c.args.keep.now (c.args.first + c.copy.start-index) c.in_ok-over.over
next g c told =
    let main = seen (g.V.Volume.state c.args.volume.now).log Main in
    let same : main ≡ seen (g.V.Volume.state c.copy.volume).log Main = sym (seen_same Main _ _ (c.copy.invariant.others told Main refl)) in
    let source = c.requires.source told in
    let start = start_is c.transactions-starts.result.now (reached_in main).starts c.args.first c.copy.start-index c.start-item.result (c.transactions-starts.ensures.value ∙ source.index.transactions) c.copy-test.true c.start-item.is in
    subst (λ (m : List ℕ). GoesOn (listed m) (with_held (g.V.Volume.state c.copy_one.new.volume).log c.copy_one.new.buffer) c.copy_one.new.to c.args.keep.now (c.args.first + c.copy.start-index) c.in_ok-over.over) (sym same)
    (c.in_ok-over.ensures.next told (c.args.first + c.copy.start-index)
    (subst (λ (m : List ℕ). IsStartOf (reached_in m) (c.args.first + c.copy.start-index) c.start-item.result) same start)
    (subst (λ (m : List ℕ). IsCopiedUpTo (listed m) (with_held (g.V.Volume.state c.copy.volume).log c.copy.buffer) c.copy.to c.args.keep.now (c.args.first + c.copy.start-index)) same (c.copy.invariant.up_to told)))

pub copy-preserved : goal.copy-preserved
copy-preserved g c =
    let main = seen (g.V.Volume.state c.args.volume.now).log Main in
    let after : (c.args.first + c.copy.start-index) + 1 ≡ c.args.first + (c.copy.start-index + 1) = omega arith in
    record {
      others = λ told. others_join _ _ _ (c.copy.invariant.others told) (c.copy_one.ensures.others told);
      side = λ told. c.in_ok-over.ensures.side told;
      up_to = λ told.
          subst (λ (n : ℕ). IsCopiedUpTo (listed main) (with_held (g.V.Volume.state c.copy_one.new.volume).log c.copy_one.new.buffer) c.copy_one.new.to c.args.keep.now n) after
          (subst (λ (b : Bool). GoesOn (listed main) (with_held (g.V.Volume.state c.copy_one.new.volume).log c.copy_one.new.buffer) c.copy_one.new.to c.args.keep.now (c.args.first + c.copy.start-index) b) c.if-not-over.false (next g (goal.at.copy-preserved g c).In_ok-over told));
      short = λ told before is.
          let side = with_held (g.V.Volume.state c.copy.volume).log c.copy.buffer in
          let k = copied_counts side c.copy.to (c.copy.invariant.up_to told).copied in
          let changes = c.changes.ensures (listed side) k.0 k.1 in
          short_more c.is_over-enough.result before (listed (with_held (g.V.Volume.state c.args.volume.now).log c.args.buffer.now)) (listed side) (listed (with_held (g.V.Volume.state c.copy_one.new.volume).log c.copy_one.new.buffer))
          (λ early. omega (arith, c.is_over-enough.ensures.early before is early, changes)) (c.in_ok-over.ensures.added told) (c.copy.invariant.short told before is);
      above = next_above c.transactions-starts.result.now c.args.from.now.transactions c.args.first c.copy.start-index (newest_kept c.copy_one.new.to.index) c.start-item.result c.transactions-starts.ensures.value c.transactions-starts.ensures.rising c.copy-test.true c.start-item.is c.in_ok-over.ensures.newest;
      tid = c.copy_one.ensures.tid ∙ c.copy.invariant.tid;
      counts = record {
        reads = c.in_ok-over.ensures.counts.reads ∙ c.copy.invariant.counts.reads;
        writes = c.in_ok-over.ensures.counts.writes ∙ c.copy.invariant.counts.writes;
      };
    }

pub returns-then-not-over-clause-went : goal.returns-then-not-over-clause-went
returns-then-not-over-clause-went g c = λ told.
    let main = seen (g.V.Volume.state c.args.volume.now).log Main in
    let still = c.in_ok-over.ensures.unmoved c.if-not-over.true in
    let same = held_same _ _ c.copy.buffer c.copy_one.new.buffer still.0 still.1 in
    let side = with_held (g.V.Volume.state c.copy.volume).log c.copy.buffer in
    let k = copied_counts side c.copy.to (c.copy.invariant.up_to told).copied in
    let changes = c.changes.ensures (listed side) k.0 k.1 in
    record {
      ends = record {
        more = c.copy.start-index;
        up_to = subst (λ (k : CopyKept). IsCopiedUpTo (listed main) (with_held (g.V.Volume.state c.copy_one.new.volume).log c.copy_one.new.buffer) k c.args.keep.now (c.args.first + c.copy.start-index)) (sym still.2)
            (subst (λ (s : List ℕ). IsCopiedUpTo (listed main) s c.copy.to c.args.keep.now (c.args.first + c.copy.start-index)) (sym same) (c.copy.invariant.up_to told));
        end = subst (λ (b : Bool). GoesOn (listed main) (with_held (g.V.Volume.state c.copy_one.new.volume).log c.copy_one.new.buffer) c.copy_one.new.to c.args.keep.now (c.args.first + c.copy.start-index) b) c.if-not-over.true (next g (goal.at.returns-then-not-over-clause-went g c).In_ok-over told);
      };
      turn = λ before is none.
          let passed = c.is_over-enough.ensures.turn before is (c.in_ok-over.ensures.enough c.if-not-over.true) in
          subst (λ (s : List ℕ). before + changes_a_turn ≤ change_count (listed s)) (sym same) (omega (arith, passed, changes));
      short = λ before is.
          subst (λ (s : List ℕ). AreShort before (listed (with_held (g.V.Volume.state c.args.volume.now).log c.args.buffer.now)) (listed s)) (sym same) (c.copy.invariant.short told before is);
    }

pub returns-clause-went : goal.returns-clause-went
returns-clause-went g c = λ told. record {
  ends = record {
    more = c.copy.start-index;
    up_to = c.copy.invariant.up_to told;
    end = all_gone c.transactions-starts.result.now c.args.from.now.transactions c.args.first c.copy.start-index c.transactions-starts.ensures.value c.requires.next.within c.copy-test.false c.copy.auto.start-index-end;
  };
  turn = λ before is none. absurd cc;
  short = λ before is. c.copy.invariant.short told before is;
}
