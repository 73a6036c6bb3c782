use Rattle.std.proofs.Common.{ℕ, refl, subst, arith}
use Rattle.zb_volume.specs.declared.areas.Area.TheVariants.{Main, Side, Hint}
use Rattle.zb_volume.specs.Disk.{seen}
use Rattle.fs_records.specs.Listed.{listed}
use Rattle.fs_recovery.specs.Opens.{newest_kept}
use Rattle.pack_copy.specs.CopiedLaws.{copied_counts}
use Rattle.pack_copy.specs.UpTo.{AreShort}
use Rattle.pack_copy.proofs.Turns.{goes_on, next_of, turn_is}
use Rattle.pack_copy.proofs.turn.copy_turn.Goals as goal

pub copy_from-requires-clause-next : goal.copy_from-requires-clause-next
copy_from-requires-clause-next g c = next_of c.args.from.now (newest_kept c.args.to.now.index) c.transactions.result.now c.newest.result c.count_up_to-first.result c.transactions.ensures.value c.newest.ensures.value c.count_up_to-first.ensures c.requires.bound

pub copy_from-requires-clause-up_to : goal.copy_from-requires-clause-up_to
copy_from-requires-clause-up_to g c = λ told.
    goes_on (seen (g.V.Volume.state c.args.volume.now).log Main) (seen (g.V.Volume.state c.args.volume.now).log Side) c.args.from.now c.args.to.now c.args.keep.now c.transactions.result.now c.newest.result c.count_up_to-first.result
    (c.requires.source told) (c.requires.copied told) (c.requires.prefix told) c.transactions.ensures.value c.newest.ensures.value c.count_up_to-first.ensures

pub returns-clause-copied : goal.returns-clause-copied
returns-clause-copied g c = λ told. (c.in_ok-whole.ensures.went told).ends.up_to.copied

pub returns-clause-turn : goal.returns-clause-turn
returns-clause-turn g c = λ told.
    let main = seen (g.V.Volume.state c.args.volume.now).log Main in
    let was = seen (g.V.Volume.state c.args.volume.now).log Side in
    let now = seen (g.V.Volume.state c.copy_from.new.volume).log Side in
    let upto = goes_on main was c.args.from.now c.args.to.now c.args.keep.now c.transactions.result.now c.newest.result c.count_up_to-first.result
    (c.requires.source told) (c.requires.copied told) (c.requires.prefix told) c.transactions.ensures.value c.newest.ensures.value c.count_up_to-first.ensures in
    let ends = (c.in_ok-whole.ensures.went told).ends in
    let before = copied_counts was c.args.to.now (c.requires.copied told) in
    let after = copied_counts now c.copy_from.new.to ends.up_to.copied in
    let first = c.changes.ensures (listed was) before.0 before.1 in
    turn_is main was now c.args.from.now c.args.to.now c.copy_from.new.to c.args.keep.now c.count_up_to-first.result (c.requires.source told) c.copy_from.ensures.tid upto c.changes-2.result (c.changes-2.ensures (listed now) after.0 after.1)
    c.in_ok-whole.whole ends (λ part. let enough = (c.in_ok-whole.ensures.went told).turn c.changes.result refl part in omega (arith, enough, first))
    (subst (λ (n : ℕ). AreShort n (listed was) (listed now)) first ((c.in_ok-whole.ensures.went told).short c.changes.result refl))

pub returns-clause-main : goal.returns-clause-main
returns-clause-main g c = λ told. c.copy_from.ensures.others told Main refl

pub returns-in_err-whole-clause-main : goal.returns-in_err-whole-clause-main
returns-in_err-whole-clause-main g c = λ told. c.copy_from.ensures.others told Main refl

pub returns-clause-hint : goal.returns-clause-hint
returns-clause-hint g c = λ told. c.copy_from.ensures.others told Hint refl

pub returns-in_err-whole-clause-hint : goal.returns-in_err-whole-clause-hint
returns-in_err-whole-clause-hint g c = λ told. c.copy_from.ensures.others told Hint refl
