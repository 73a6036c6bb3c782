use Rattle.std.proofs.Common.{◌≡◌, Err, IfErr, List, ℕ, Result, ap, refl, subst, sym, ◌∙◌}
use Rattle.std.proofs.lemmas.Result.{err_from_is_err_and}
use Rattle.zb_volume.specs.declared.areas.Area.TheVariants.{Main}
use Rattle.zb_volume.specs.States.{VolumeState}
use Rattle.fs_recovery.specs.declared.errors.OpenError.{OpenError}
use Rattle.fs_recovery.specs.declared.errors.OpenError.TheVariants.{StoreFault}
use Rattle.fs_recovery.specs.Reading.{CountsFault}
use Rattle.fs_index_file.specs.Writes.{IsClosed}
use Rattle.file_store.proofs.Hints.{seen_hint, stays_settled}
use Rattle.file_store.proofs.Reopening.{close_counts, closed_main, create_counts, installed_hint, installed_main}
use Rattle.file_store.proofs.opening.install.Goals as goal

pub returns-in-Err-clause-any_moment : goal.returns-in-Err-clause-any_moment
returns-in-Err-clause-any_moment g c = λ told. closed_main _ _ c.args.bytes.now (c.close_hint.ensures.others told Main refl)

pub returns-in-Err-clause-counts : goal.returns-in-Err-clause-counts
returns-in-Err-clause-counts g c = close_counts _ _ c.in-Err._error c.in-Err.ensures.causes

pub returns-in_err-create-clause-any_moment : goal.returns-in_err-create-clause-any_moment
returns-in_err-create-clause-any_moment g c = λ told. installed_main _ _ _ c.args.bytes.now (c.close_hint.ensures.others told Main refl) (c.create.ensures.any_moment told)

pub returns-in_err-create-clause-hint : goal.returns-in_err-create-clause-hint
returns-in_err-create-clause-hint g c = λ told settled. installed_hint _ _ _ (c.close_hint.ensures.any_moment told settled) (c.create.ensures.hint told)

pub returns-in_err-create-clause-refused : goal.returns-in_err-create-clause-refused
returns-in_err-create-clause-refused g c =
    let p = err_from_is_err_and c.from_residual.result c.from_residual.ensures.1 in
    subst (λ (r : Result (Unit {0}) OpenError). IfErr r (λ e. e ≡ StoreFault)) (sym p.1) p.2

pub returns-in_err-create-clause-counts : goal.returns-in_err-create-clause-counts
returns-in_err-create-clause-counts g c =
    let p = err_from_is_err_and c.from_residual.result c.from_residual.ensures.1 in
    let old : VolumeState = g.V.Volume.state c.args.volume.now in
    let mid : VolumeState = g.V.Volume.state c.close_hint.new.volume in
    let new : VolumeState = g.V.Volume.state c.create.new.volume in
    let write = c.in_err-create.ensures.write in
    subst (λ (r : Result (Unit {0}) OpenError). CountsFault {T = Unit {0}} old new r) (sym (p.1 ∙ ap Err p.2)) (create_counts old mid new c.in-Ok.ensures.causes write.cause.failed write.cause.later write.read_faults)

pub returns-clause-any_moment : goal.returns-clause-any_moment
returns-clause-any_moment g c = λ told. installed_main _ _ _ c.args.bytes.now (c.close_hint.ensures.others told Main refl) (c.create.ensures.any_moment told)

pub returns-clause-hint : goal.returns-clause-hint
returns-clause-hint g c = λ told settled. installed_hint _ _ _ (c.close_hint.ensures.any_moment told settled) (c.create.ensures.hint told)

pub returns-clause-closed : goal.returns-clause-closed
returns-clause-closed g c = λ told settled.
    let stays = c.create.ensures.hint told in
    (subst (λ (b : List ℕ). IsClosed b) (sym (seen_hint _ _ stays)) (c.in-Ok.ensures.closed told), stays_settled _ _ stays (c.in-Ok.ensures.settled told settled))

pub returns-clause-counts : goal.returns-clause-counts
returns-clause-counts g c =
    let stand = c.in-Ok.ensures.causes in
    let write = c.in_ok-create.ensures.write in
    record { reads = write.read_faults ∙ stand.reads; writes = write.uncounted ∙ stand.writes }
