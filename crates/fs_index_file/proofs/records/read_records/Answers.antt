use Rattle.std.proofs.Common.{◌≡◌, ℕ, List, drop, refl, sym, ap, subst, ◌∙◌, arith}
use Rattle.zb_volume.specs.declared.areas.Area.TheVariants.{Hint}
use Rattle.zb_volume.specs.Disk.{seen}
use Rattle.fs_recovery.specs.Reading.{Holds}
use Rattle.fs_index.specs.declared.place.Place.{Place}
use Rattle.fs_index_file.specs.Counts.{RisesFrom, with_record}
use Rattle.fs_index_file.specs.Hints.{record_of}
use Rattle.fs_index_file.proofs.Scanning.{all_left, next_record, no_records, one_record, records_begin, records_end, records_fail, records_more}
use Rattle.fs_index_file.proofs.Summing.{counts_begin, counts_end, counts_more}
use Rattle.fs_index_file.proofs.records.read_records.Goals as goal

pub each-init : goal.each-init
each-init g c = record {
  order = omega arith;
  place = omega arith;
  bounds = no_records c.args.newest c.args.head.now.end c.args.index.now.entries c.requires.index;
  transactions = refl;
  counted = λ told rises. counts_begin (seen (g.V.Volume.state c.args.volume.now).log Hint) c.args.head.now _ c.args.index.now.transactions c.args.counted.now c.requires.counted (all_left (seen (g.V.Volume.state c.args.volume.now).log Hint) c.args.head.now _ (omega arith));
  length = refl;
  shows = c.requires.shows;
  same = refl;
  counts = refl;
  write_faults = refl;
  so_far = λ told. records_begin (seen (g.V.Volume.state c.args.volume.now).log Hint) c.args.head.now c.args.newest _ c.args.index.now.entries c.requires.index (omega arith);
}

pub each-preserved : goal.each-preserved
each-preserved g c =
    let entry : g.V.Volume.told → c.in_ok-entry.entry ≡ record_of (drop c.each.q (seen (g.V.Volume.state c.args.volume.now).log Hint)) = λ told. c.in_ok-entry.ensures.value told ∙ ap (λ (b : List ℕ). record_of (drop c.each.q b)) (ap (λ l. seen l Hint) c.each.invariant.same) in
    record {
      order = omega (arith, c.each-test.true);
      place = omega (arith, c.each.invariant.place);
      bounds = one_record c.args.newest c.args.head.now.end c.each.last c.in_ok-entry.entry c.each.index.entries c.push_record.new.self.entries (c.may_stand.ensures.stands c.if-not-may_stand.false) c.in_ok-push_record.ensures.ok c.each.invariant.bounds;
      transactions = c.push_record.ensures.transactions ∙ c.each.invariant.transactions;
      counted = λ told rises. counts_more (seen (g.V.Volume.state c.args.volume.now).log Hint) c.args.head.now c.each.k c.each.q c.each.last c.in_ok-entry.entry c.args.index.now.transactions c.each.counted c.count.new.counted (omega arith)
          (next_record (seen (g.V.Volume.state c.args.volume.now).log Hint) c.args.head.now.records c.each.k c.each.q c.in_ok-entry.entry c.each-test.true (entry told))
          (subst (λ (ps : List Place). RisesFrom 0 ps → c.count.new.counted ≡ with_record c.each.last c.in_ok-entry.entry ps c.each.counted) (c.transactions.ensures.value ∙ c.each.invariant.transactions) c.count.ensures rises) (c.each.invariant.counted told rises);
      length = c.record_at.ensures.length ∙ c.each.invariant.length;
      shows = λ told. subst (λ (b : List ℕ). Holds c.record_at.new.self.at c.record_at.new.self.count c.record_at.new.self.held b) (ap (λ l. seen l Hint) c.each.invariant.same) (c.record_at.ensures.shows told);
      same = c.record_at.ensures.read.same ∙ c.each.invariant.same;
      counts = c.in_ok-entry.ensures.read.uncounted ∙ c.each.invariant.counts;
      write_faults = c.record_at.ensures.read.write_faults ∙ c.each.invariant.write_faults;
      so_far = λ told. records_more (seen (g.V.Volume.state c.args.volume.now).log Hint) c.args.head.now c.args.newest c.each.k c.each.q c.each.last c.each.index.entries c.push_record.new.self.entries c.in_ok-entry.entry c.each-test.true (c.in_ok-entry.ensures.value told ∙ ap (λ (b : List ℕ). record_of (drop c.each.q b)) (ap (λ l. seen l Hint) c.each.invariant.same)) (sym c.may_stand.ensures.test ∙ c.if-not-may_stand.false) c.in_ok-push_record.ensures.ok (c.each.invariant.so_far told);
    }

pub returns-then-not-may_stand-clause-value : goal.returns-then-not-may_stand-clause-value
returns-then-not-may_stand-clause-value g c = λ told. records_fail (seen (g.V.Volume.state c.args.volume.now).log Hint) c.args.head.now c.args.newest c.each.k c.each.q c.each.last c.each.index.entries c.each.index.entries c.in_ok-entry.entry c.each-test.true (c.in_ok-entry.ensures.value told ∙ ap (λ (b : List ℕ). record_of (drop c.each.q b)) (ap (λ l. seen l Hint) c.each.invariant.same)) (sym c.may_stand.ensures.test ∙ c.if-not-may_stand.true) (c.each.invariant.so_far told)

pub returns-then-not-may_stand-clause-bounds : goal.returns-then-not-may_stand-clause-bounds
returns-then-not-may_stand-clause-bounds g c = c.each.invariant.bounds.bounds

pub returns-clause-value : goal.returns-clause-value
returns-clause-value g c = λ told. records_end (seen (g.V.Volume.state c.args.volume.now).log Hint) c.args.head.now c.args.newest c.each.k c.each.q c.each.last c.each.index.entries c.each-test.false (c.each.invariant.so_far told)

pub returns-then-not-may_stand-clause-counted : goal.returns-then-not-may_stand-clause-counted
returns-then-not-may_stand-clause-counted g c = λ told fails. absurd cc

pub returns-clause-counted : goal.returns-clause-counted
returns-clause-counted g c = λ told all rises. counts_end (seen (g.V.Volume.state c.args.volume.now).log Hint) c.args.head.now c.each.k c.each.q c.each.last c.args.index.now.transactions c.each.counted c.each-test.false (c.each.invariant.counted told rises)

pub returns-clause-bounds : goal.returns-clause-bounds
returns-clause-bounds g c = c.each.invariant.bounds.bounds
