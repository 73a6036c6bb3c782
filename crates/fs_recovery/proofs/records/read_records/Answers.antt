use Rattle.std.proofs.lemmas.Result.{err_from_is_err_and}
use Rattle.std.proofs.Common.{◌≡◌, ℕ, ◌-◌, List, drop, Err, Ok, refl, sym, ap, subst, arith, ◌∙◌}
use Rattle.zb_base.specs.Bytes.{AreBytes-drop}
use Rattle.fs_records.specs.Rules.{record_at}
use Rattle.fs_index.specs.Places.{knows}
use Rattle.fs_records.specs.ScanLaws.{before_more}
use Rattle.fs_recovery.specs.Windows.{Shows}
use Rattle.fs_recovery.specs.Records.{RecordGives}
use Rattle.fs_recovery.proofs.Counting.{few_more, none_counted, one_counted_more}
use Rattle.fs_recovery.specs.Counting.{is_stored, RecordsCounted}
use Rattle.fs_recovery.proofs.Faults.{read_refused}
use Rattle.fs_recovery.proofs.records.read_records.Goals as goal
use Rattle.zb_volume.specs.Disk.{main_bytes}

pub returns-in_err-oid-clause-records : goal.returns-in_err-oid-clause-records
returns-in_err-oid-clause-records g c = λ told known is.
    let bytes : List ℕ = main_bytes (g.V.Volume.state c.args.volume.now).log in
    let same : main_bytes (g.V.Volume.state c.loop-q.volume).log ≡ bytes = ap main_bytes c.loop-q.invariant.same in
    let gives = subst (λ (b : List ℕ). RecordGives (Err c.in_err-oid.field-0.0) c.loop-q.q (record_at (knows c.loop-q.index.entries) c.args.place c.args.tid (c.args.end - c.loop-q.q) (drop c.loop-q.q b))) same (c.in_err-oid.ensures.value told) in
    let p = err_from_is_err_and c.from_residual.result c.from_residual.ensures.1 in
    rw (p.1, p.2) (read_refused bytes known c.args.place c.args.tid c.args.from c.loop-q.q c.args.end c.loop-q.index.entries c.loop-q.counted c.in_err-oid.field-0.0 c.loop-q-test.true gives (c.loop-q.invariant.read told known is))

pub loop-q-preserved : goal.loop-q-preserved
loop-q-preserved g c =
    let bytes : List ℕ = main_bytes (g.V.Volume.state c.args.volume.now).log in
    let same : main_bytes (g.V.Volume.state c.loop-q.volume).log ≡ bytes = ap main_bytes c.loop-q.invariant.same in
    let w = c.in_ok-oid.ensures.size in
    record {
      order = omega (arith, w.1);
      behind = omega (arith, c.loop-q.invariant.behind);
      few =
          let more = few_more (is_stored c.loop-q.index.entries c.args.tid c.in_ok-oid.oid) c.loop-q.counted.changes (c.loop-q.q - c.args.from) c.in_ok-oid.size c.loop-q.invariant.few w.0 in
          omega (arith, more, c.with_record-counted.ensures.changes, c.loop-q.invariant.behind);
      before = before_more c.loop-q.index.entries c.add.new.self.entries c.in_ok-oid.oid c.args.tid c.loop-q.q c.in_ok-oid.size w.0 c.loop-q.invariant.before c.in_ok-add.ensures.ok;
      transactions = c.add.ensures.transactions ∙ c.loop-q.invariant.transactions;
      length = c.read_record.ensures.length ∙ c.loop-q.invariant.length;
      shows = λ told. subst (λ (b : List ℕ). Shows c.read_record.new.window b) same (c.read_record.ensures.shows told);
      same = c.read_record.ensures.read.same ∙ c.loop-q.invariant.same;
      counts = c.in_ok-oid.ensures.read.counts ∙ c.loop-q.invariant.counts;
      write_faults = c.read_record.ensures.read.write_faults ∙ c.loop-q.invariant.write_faults;
      read = λ told known is.
          let read = subst (λ (b : List ℕ). record_at (knows c.loop-q.index.entries) c.args.place c.args.tid (c.args.end - c.loop-q.q) (drop c.loop-q.q b) ≡ Ok (c.in_ok-oid.oid, c.in_ok-oid.size)) same (c.in_ok-oid.ensures.value told) in
          one_counted_more bytes known c.args.place c.args.tid c.args.from c.loop-q.q c.args.end c.in_ok-oid.oid c.in_ok-oid.size c.loop-q.index.entries c.add.new.self.entries c.loop-q.counted c.with_record-counted.result (AreBytes-drop c.loop-q.q bytes (c.requires.bytes told)) (omega (arith, c.requires.within, (c.requires.shows told).long)) c.loop-q.invariant.order (sym read) c.in_ok-add.ensures.ok c.with_record-counted.ensures.changes c.with_record-counted.ensures.greatest (c.loop-q.invariant.read told known is);
    }

pub loop-q-init : goal.loop-q-init
loop-q-init g c = record {
  order = c.requires.order;
  behind = omega arith;
  few = omega arith;
  before = c.requires.before;
  transactions = refl;
  length = refl;
  shows = c.requires.shows;
  same = refl;
  counts = refl;
  write_faults = refl;
  read = λ told known is.
      none_counted (main_bytes (g.V.Volume.state c.args.volume.now).log) known c.args.place c.args.tid c.args.from c.args.index.now.entries (record { changes = 0; greatest = 0 }) refl refl c.requires.earlier is;
}

pub returns-clause-records : goal.returns-clause-records
returns-clause-records g c = λ told known is.
    let there : c.loop-q.q ≡ c.args.end = omega (arith, c.loop-q-test.false, c.loop-q.invariant.order) in
    subst (λ (n : ℕ). RecordsCounted (main_bytes (g.V.Volume.state c.args.volume.now).log) known c.args.place c.args.tid c.args.from n c.loop-q.index.entries c.loop-q.counted) there (c.loop-q.invariant.read told known is)
