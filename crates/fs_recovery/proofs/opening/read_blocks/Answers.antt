use Rattle.std.proofs.Common.{◌≡◌, ℕ, List, refl, sym, ap, subst, ◌∙◌, arith, drop}
use Rattle.fs_records.specs.Rules.{verdict}
use Rattle.zb_volume.specs.Disk.{main_bytes}
use Rattle.fs_recovery.specs.Windows.{Shows}
use Rattle.fs_recovery.proofs.Steps.{block_done, fault_here, opened_at_end, opened_at_tail}
use Rattle.fs_recovery.specs.Counting.{Numbered}
use Rattle.fs_recovery.proofs.opening.read_blocks.Goals as goal

pub scan-init : goal.scan-init
scan-init g c = record {
  first = c.requires.bounded.first;
  within = c.requires.within;
  newest = c.newest_of-newest.ensures;
  below = omega (arith, c.requires.bounded.newest, c.newest_of-newest.ensures);
  before = c.requires.bounded.before;
  length = refl;
  shows = c.requires.shows;
  same = refl;
  counts = refl;
  write_faults = refl;
  so_far = λ told up_to. subst (λ (n : ℕ). Numbered (main_bytes (g.V.Volume.state c.args.volume.now).log) c.args.known.end n c.args.known.index c.args.known.numbers) (sym c.newest_of-newest.ensures) up_to;
}

pub scan-preserved : goal.scan-preserved
scan-preserved g c =
    let bytes : List ℕ = main_bytes (g.V.Volume.state c.args.volume.now).log in
    let now : main_bytes (g.V.Volume.state c.scan.volume).log ≡ bytes = ap main_bytes c.scan.invariant.same in
    let then : main_bytes (g.V.Volume.state c.judge.new.volume).log ≡ bytes = ap main_bytes c.judge.ensures.read.same ∙ now in
    let fit = rw c.in-Begun.is at c.in_ok-judge.ensures.fit in
    record {
      first = omega (arith, c.scan.invariant.first);
      within = omega (arith, fit.long, c.scan.invariant.within, c.scan.invariant.length);
      newest = sym c.in_ok-keep_block-in-Begun.ensures.newest;
      below = fit.below;
      before = c.in_ok-keep_block-in-Begun.ensures.before;
      length = c.keep_block.ensures.length ∙ c.judge.ensures.length ∙ c.scan.invariant.length;
      shows = λ told. subst (λ (b : List ℕ). Shows c.keep_block.new.window b) then (c.keep_block.ensures.shows told);
      same = c.keep_block.ensures.read.same ∙ c.judge.ensures.read.same ∙ c.scan.invariant.same;
      counts = c.in_ok-keep_block-in-Begun.ensures.read.counts ∙ c.in_ok-judge.ensures.read.uncounted ∙ c.scan.invariant.counts;
      write_faults = c.keep_block.ensures.read.write_faults ∙ c.judge.ensures.read.write_faults ∙ c.scan.invariant.write_faults;
      so_far = λ told up_to.
          let judged = rw c.in-Begun.is at (c.in_ok-judge.ensures.value told) in
          block_done bytes (main_bytes (g.V.Volume.state c.judge.new.volume).log) (main_bytes (g.V.Volume.state c.scan.volume).log) c.scan.p c.scan.newest _ _ _ c.in-Begun.header c.scan.index c.keep_block.new.index c.scan.numbers c.keep_block.new.numbers
          then now c.scan.invariant.newest judged (c.scan.invariant.so_far told up_to) (c.in_ok-keep_block-in-Begun.ensures.block told);
    }

-- what stands there, in the bytes from the start
pub returns-in-Ends-clause-opens : goal.returns-in-Ends-clause-opens
returns-in-Ends-clause-opens g c = λ told up_to.
    let bytes : List ℕ = main_bytes (g.V.Volume.state c.args.volume.now).log in
    let now : main_bytes (g.V.Volume.state c.scan.volume).log ≡ bytes = ap main_bytes c.scan.invariant.same in
    let judged = rw c.in-Ends.is at (c.in_ok-judge.ensures.value told) in
    opened_at_end bytes c.scan.index c.scan.numbers c.scan.p c.scan.newest (c.scan.invariant.so_far told up_to) (ap (λ (b : List ℕ). verdict c.scan.newest (drop c.scan.p b)) (sym now) ∙ judged)

pub returns-in-Tail-clause-opens : goal.returns-in-Tail-clause-opens
returns-in-Tail-clause-opens g c = λ told up_to.
    let bytes : List ℕ = main_bytes (g.V.Volume.state c.args.volume.now).log in
    let now : main_bytes (g.V.Volume.state c.scan.volume).log ≡ bytes = ap main_bytes c.scan.invariant.same in
    let judged = rw c.in-Tail.is at (c.in_ok-judge.ensures.value told) in
    opened_at_tail bytes c.scan.index c.scan.numbers c.scan.p c.scan.newest (c.scan.invariant.so_far told up_to) (ap (λ (b : List ℕ). verdict c.scan.newest (drop c.scan.p b)) (sym now) ∙ judged)

pub returns-in-Fault-clause-opens : goal.returns-in-Fault-clause-opens
returns-in-Fault-clause-opens g c = λ told up_to.
    let bytes : List ℕ = main_bytes (g.V.Volume.state c.args.volume.now).log in
    let now : main_bytes (g.V.Volume.state c.scan.volume).log ≡ bytes = ap main_bytes c.scan.invariant.same in
    let judged = rw c.in-Fault.is at (c.in_ok-judge.ensures.value told) in
    fault_here bytes c.scan.index c.scan.numbers c.scan.p c.scan.newest c.in-Fault.field (c.scan.invariant.so_far told up_to) (ap (λ (b : List ℕ). verdict c.scan.newest (drop c.scan.p b)) (sym now) ∙ judged)
