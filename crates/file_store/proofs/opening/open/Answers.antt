use Rattle.std.proofs.Common.{List, inl, inr, refl, subst, sym}
use Rattle.std.proofs.lemmas.Result.{err_from_is_err_and}
use Rattle.zb_base.specs.Bytes.{AreBytes}
use Rattle.zb_volume.specs.declared.areas.Area.TheVariants.{Main}
use Rattle.zb_volume.specs.Calls.{Event}
use Rattle.zb_volume.specs.Disk.{IsSettled, seen}
use Rattle.zb_volume.specs.States.{VolumeState}
use Rattle.fs_recovery.specs.declared.errors.OpenError.TheVariants.{StoreFault}
use Rattle.file_store.specs.Hinting.{HasHonestHint, StaysHonest}
use Rattle.file_store.specs.Outcomes.{IsOpening}
use Rattle.file_store.proofs.Hints.{still_honest}
use Rattle.file_store.proofs.Opens.{any_ok, no_bytes_there, read_cause, refused, refused_still, same_state, short_there, some_bytes}
use Rattle.file_store.proofs.opening.open.Goals as goal

pub returns-in_err-len-clause-opening : goal.returns-in_err-len-clause-opening
returns-in_err-len-clause-opening g c =
    let p = err_from_is_err_and c.from_residual.result c.from_residual.ensures.1 in
    let old : VolumeState = g.V.Volume.state c.args.volume.now in
    let new : VolumeState = g.V.Volume.state c.len.new.self in
    let read = c.in_err-len.ensures.read in
    refused g.V.Volume.told (g.C.Clock.stamps c.args.clock.now) old new c.from_residual.result p.0 StoreFault p.1 p.2
    (refused_still g.V.Volume.told (g.C.Clock.stamps c.args.clock.now) old new StoreFault read.same (λ told. tt) (read_cause old new read.cause.failed read.cause.later read.write_faults))

pub returns-in_err-len-clause-hint : goal.returns-in_err-len-clause-hint
returns-in_err-len-clause-hint g c = λ told settled. still_honest _ _ c.in_err-len.ensures.read.same settled (c.requires told)

pub reopen-requires-clause-some : goal.reopen-requires-clause-some
reopen-requires-clause-some g c = λ told.
    some_bytes (g.V.Volume.state c.args.volume.now).log (g.V.Volume.state c.len.new.self).log c.in_ok-len.field-0 c.len.ensures.read.same (c.in_ok-len.ensures.value told) c.if-branch-gt0.true

pub reopen-requires-clause-bytes : goal.reopen-requires-clause-bytes
reopen-requires-clause-bytes g c = λ told. subst (λ (log : List Event). AreBytes (seen log Main)) (sym c.len.ensures.read.same) (c.in_ok-len.ensures.bytes told)

pub reopen-requires-clause-short : goal.reopen-requires-clause-short
reopen-requires-clause-short g c = λ told.
    short_there (g.V.Volume.state c.args.volume.now).log (g.V.Volume.state c.len.new.self).log c.in_ok-len.field-0 c.len.ensures.read.same (c.in_ok-len.ensures.value told) c.in_ok-len.ensures.limit

pub reopen-requires-clause-honest : goal.reopen-requires-clause-honest
reopen-requires-clause-honest g c = λ told. subst (λ (log : List Event). HasHonestHint log) (sym c.len.ensures.read.same) (c.requires told)

pub returns-then-branch-gt0-clause-opening : goal.returns-then-branch-gt0-clause-opening
returns-then-branch-gt0-clause-opening g c =
    let old : VolumeState = g.V.Volume.state c.args.volume.now in
    let mid : VolumeState = g.V.Volume.state c.len.new.self in
    let read = c.in_ok-len.ensures.read in
    subst (λ (s : VolumeState). IsOpening g.V.Volume.told (g.C.Clock.stamps c.args.clock.now) s (g.V.Volume.state c.reopen.new.volume) c.reopen.result)
    (same_state old mid read.same read.uncounted read.write_faults) (c.reopen.ensures.opening (g.C.Clock.stamps c.args.clock.now))

pub returns-then-branch-gt0-clause-hint : goal.returns-then-branch-gt0-clause-hint
returns-then-branch-gt0-clause-hint g c = λ told settled.
    let same = c.len.ensures.read.same in
    subst (λ (log : List Event). StaysHonest log (g.V.Volume.state c.reopen.new.volume).log) same
    (c.reopen.ensures.hint told (subst (λ (log : List Event). IsSettled log Main) (sym same) settled))

pub returns-then-branch-gt0-clause-clock : goal.returns-then-branch-gt0-clause-clock
returns-then-branch-gt0-clause-clock g c = record {
  kept = λ told some. refl;
  left = λ told empty. absurd (some_bytes (g.V.Volume.state c.args.volume.now).log (g.V.Volume.state c.args.volume.now).log c.in_ok-len.field-0 refl (c.in_ok-len.ensures.value told) c.if-branch-gt0.true empty);
  given = inl refl;
}

pub make-requires-clause-empty : goal.make-requires-clause-empty
make-requires-clause-empty g c = λ told.
    no_bytes_there (g.V.Volume.state c.args.volume.now).log (g.V.Volume.state c.len.new.self).log c.in_ok-len.field-0 c.len.ensures.read.same (c.in_ok-len.ensures.value told) c.if-branch-gt0.false

pub make-requires-clause-honest : goal.make-requires-clause-honest
make-requires-clause-honest g c = λ told. subst (λ (log : List Event). HasHonestHint log) (sym c.len.ensures.read.same) (c.requires told)

pub returns-clause-opening : goal.returns-clause-opening
returns-clause-opening g c =
    let old : VolumeState = g.V.Volume.state c.args.volume.now in
    let mid : VolumeState = g.V.Volume.state c.len.new.self in
    let read = c.in_ok-len.ensures.read in
    subst (λ (s : VolumeState). IsOpening g.V.Volume.told (g.C.Clock.stamps c.args.clock.now) s (g.V.Volume.state c.make.new.volume) c.make.result)
    (same_state old mid read.same read.uncounted read.write_faults) (c.make.ensures.opening (g.C.Clock.stamps c.args.clock.now) c.stamp-now.ensures.first)

pub returns-clause-hint : goal.returns-clause-hint
returns-clause-hint g c = λ told settled.
    subst (λ (log : List Event). StaysHonest log (g.V.Volume.state c.make.new.volume).log) c.len.ensures.read.same (c.make.ensures.hint told)

pub returns-clause-clock : goal.returns-clause-clock
returns-clause-clock g c =
    let log = (g.V.Volume.state c.args.volume.now).log in
    record {
      kept = λ told some. absurd (some (no_bytes_there log log c.in_ok-len.field-0 refl (c.in_ok-len.ensures.value told) c.if-branch-gt0.false));
      left = λ told empty. any_ok c.make.result _ c.stamp-now.ensures.left;
      given = inr c.stamp-now.ensures.left;
    }
