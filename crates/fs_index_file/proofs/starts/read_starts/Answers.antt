use Rattle.std.proofs.Common.{ℕ, List, drop, refl, sym, ap, subst, ◌∙◌, arith}
use Rattle.zb_volume.specs.declared.areas.Area.TheVariants.{Hint}
use Rattle.zb_volume.specs.Disk.{seen}
use Rattle.fs_recovery.specs.Reading.{Holds}
use Rattle.fs_index_file.specs.Hints.{start_of}
use Rattle.fs_index_file.proofs.Scanning.{all_behind, all_earlier, none_before, one_before, starts_begin, starts_end, starts_fail, starts_more}
use Rattle.fs_index_file.proofs.starts.read_starts.Goals as goal

pub each-init : goal.each-init
each-init g c = record {
  order = omega arith;
  place = omega arith;
  bounds = none_before c.args.head.now.end c.args.index.now.transactions c.requires.first c.requires.index;
  entries = refl;
  length = refl;
  shows = c.requires.shows;
  same = refl;
  counts = refl;
  write_faults = refl;
  so_far = λ told. starts_begin (seen (g.V.Volume.state c.args.volume.now).log Hint) c.args.head.now c.args.index.now.transactions c.args.packed.now.items c.requires.index c.requires.packed;
}

pub keep-requires : goal.keep-requires
keep-requires g c = all_earlier c.args.head.now.end c.each.last c.each.index.transactions c.in_ok-start.start (c.may_stand.ensures.stands c.if-not-may_stand.false) c.each.invariant.bounds

pub each-preserved : goal.each-preserved
each-preserved g c = record {
  order = omega (arith, c.each-test.true);
  place = omega (arith, c.each.invariant.place);
  bounds = one_before c.args.head.now.end c.each.last c.each.index.transactions c.keep.new.index.transactions c.in_ok-start.start (c.may_stand.ensures.stands c.if-not-may_stand.false) c.in_ok-keep.ensures.places c.each.invariant.bounds;
  entries = c.keep.ensures.entries ∙ c.each.invariant.entries;
  length = c.start_at.ensures.length ∙ c.each.invariant.length;
  shows = λ told. subst (λ (b : List ℕ). Holds c.start_at.new.self.at c.start_at.new.self.count c.start_at.new.self.held b) (ap (λ l. seen l Hint) c.each.invariant.same) (c.start_at.ensures.shows told);
  same = c.start_at.ensures.read.same ∙ c.each.invariant.same;
  counts = c.in_ok-start.ensures.read.uncounted ∙ c.each.invariant.counts;
  write_faults = c.start_at.ensures.read.write_faults ∙ c.each.invariant.write_faults;
  so_far = λ told. starts_more (seen (g.V.Volume.state c.args.volume.now).log Hint) c.args.head.now c.each.k c.each.q c.each.last c.each.index.transactions c.keep.new.index.transactions c.each.packed.items c.keep.new.packed.items c.in_ok-start.start c.each-test.true (c.in_ok-start.ensures.value told ∙ ap (λ (b : List ℕ). start_of (drop c.each.q b)) (ap (λ l. seen l Hint) c.each.invariant.same)) (sym c.may_stand.ensures.test ∙ c.if-not-may_stand.false) c.in_ok-keep.ensures.places c.in_ok-keep.ensures.packed (c.each.invariant.so_far told);
}

pub returns-then-not-may_stand-clause-value : goal.returns-then-not-may_stand-clause-value
returns-then-not-may_stand-clause-value g c = λ told. starts_fail (seen (g.V.Volume.state c.args.volume.now).log Hint) c.args.head.now c.each.k c.each.q c.each.last c.each.index.transactions c.each.index.transactions c.each.packed.items c.each.packed.items c.in_ok-start.start c.each-test.true (c.in_ok-start.ensures.value told ∙ ap (λ (b : List ℕ). start_of (drop c.each.q b)) (ap (λ l. seen l Hint) c.each.invariant.same)) (sym c.may_stand.ensures.test ∙ c.if-not-may_stand.true) (c.each.invariant.so_far told)

pub returns-then-not-may_stand-clause-bounds : goal.returns-then-not-may_stand-clause-bounds
returns-then-not-may_stand-clause-bounds g c = all_behind c.args.head.now.end c.each.last c.each.index.transactions c.each.invariant.bounds

pub returns-clause-value : goal.returns-clause-value
returns-clause-value g c = λ told. starts_end (seen (g.V.Volume.state c.args.volume.now).log Hint) c.args.head.now c.each.k c.each.q c.each.last c.each.index.transactions c.each.packed.items c.each-test.false (c.each.invariant.so_far told)

pub returns-clause-bounds : goal.returns-clause-bounds
returns-clause-bounds g c = all_behind c.args.head.now.end c.each.last c.each.index.transactions c.each.invariant.bounds
