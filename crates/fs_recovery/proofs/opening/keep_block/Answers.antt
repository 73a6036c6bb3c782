use Rattle.std.proofs.Common.{arith, rules, refl}
use Rattle.zb_volume.specs.Disk.{main_bytes}
use Rattle.fs_recovery.proofs.Steps.{accepted, all_earlier, kept_more, newest_pushed, records_behind}
use Rattle.fs_recovery.proofs.opening.keep_block.Goals as goal

pub read_records-requires : goal.read_records-requires
read_records-requires g c = (
  search rules,
  (
    c.requires.small,
    (
      omega arith,
      (
        omega arith,
        (
          c.requires.shows,
          (
            c.requires.bytes,
            (
              records_behind c.args.index.now c.args.p c.args.header.now.tid _ c.requires.above c.requires.before,
              all_earlier c.args.index.now c.args.p c.args.header.now.tid c.requires.above c.requires.before,
            ),
          ),
        ),
      ),
    ),
  ),
)

pub returns-clause-before : goal.returns-clause-before
returns-clause-before g c =
    kept_more c.args.index.now c.read_records.new.index c.push_transaction.new.self c.args.p c.args.header.now.tid c.args.header.now.length c.requires.above c.requires.before c.in_ok-counted.ensures.before c.read_records.ensures.transactions c.in_ok-push_transaction.ensures.ok c.push_transaction.ensures.objects

pub returns-clause-newest : goal.returns-clause-newest
returns-clause-newest g c = newest_pushed c.read_records.new.index.transactions _ c.push_transaction.new.self c.in_ok-push_transaction.ensures.ok

pub returns-clause-block : goal.returns-clause-block
returns-clause-block g c = λ told begins so_far.
    accepted (main_bytes (g.V.Volume.state c.args.volume.now).log) c.args.index.now c.read_records.new.index c.push_transaction.new.self c.args.numbers.now c.add_counted.new.self c.in_ok-counted.counted _ c.args.p _ c.args.header.now (omega (arith, c.ranges.p.fits)) (c.requires.bytes told) begins refl
    (c.in_ok-counted.ensures.records told) c.read_records.ensures.transactions c.in_ok-push_transaction.ensures.ok c.push_transaction.ensures.objects c.in_ok-add_counted.ensures.ok so_far
