use Rattle.std.proofs.Common.{◌∙◌, List, ℕ, None, refl, sym, subst}
use Rattle.std.proofs.lemmas.Result.{err_from_is_err_and}
use Rattle.zb_volume.specs.States.{VolumeState}
use Rattle.fs_records.specs.File.{StandsFor}
use Rattle.fs_recovery.specs.declared.errors.OpenError.TheVariants.{Memory}
use Rattle.file_store.specs.Opening.{first_list}
use Rattle.file_store.proofs.Hints.{hinted_closed, making_hint, still_none}
use Rattle.file_store.proofs.Opens.{make_ready, making, refused, refused_still, still_cause}
use Rattle.file_store.proofs.Reopening.{install_refused}
use Rattle.file_store.proofs.opening.make.Goals as goal

pub returns-in_err-file-clause-opening : goal.returns-in_err-file-clause-opening
returns-in_err-file-clause-opening g c = λ stamps first.
    let p = err_from_is_err_and c.from_residual.result c.from_residual.ensures.1 in
    let old : VolumeState = g.V.Volume.state c.args.volume.now in
    refused g.V.Volume.told stamps old old c.from_residual.result p.0 Memory p.1 p.2
    (refused_still g.V.Volume.told stamps old old Memory refl (λ told. tt) (still_cause old old Memory (λ is. cc) (record { reads = refl; writes = refl })))

pub returns-in_err-file-clause-hint : goal.returns-in_err-file-clause-hint
returns-in_err-file-clause-hint g c = λ told. still_none (g.V.Volume.state c.args.volume.now).log (c.requires.empty told) (c.requires.honest told)

pub returns-in_err-install-clause-opening : goal.returns-in_err-install-clause-opening
returns-in_err-install-clause-opening g c = λ stamps first.
    let p = err_from_is_err_and c.from_residual-in_err-install.result c.from_residual-in_err-install.ensures.1 in
    let old : VolumeState = g.V.Volume.state c.args.volume.now in
    let new : VolumeState = g.V.Volume.state c.install.new.volume in
    let e = c.in_err-install.field-0.0 in
    refused g.V.Volume.told stamps old new c.from_residual-in_err-install.result p.0 e p.1 p.2
    (install_refused g.V.Volume.told stamps old new c.args.clock e c.in_err-install.ensures.refused c.in_err-install.ensures.counts c.requires.empty first
    (λ told. making c.args.clock old.log new.log c.as_slice.result.now
    (subst (λ (b : List ℕ). StandsFor b (first_list c.args.clock) None) (sym c.as_slice.ensures.value) c.in_ok-file.ensures.stands) (c.install.ensures.any_moment told)))

pub returns-in_err-install-clause-hint : goal.returns-in_err-install-clause-hint
returns-in_err-install-clause-hint g c = λ told. let has = c.requires.honest told in making_hint _ _ (c.requires.empty told) has (c.install.ensures.hint told has.settled)

pub returns-clause-opening : goal.returns-clause-opening
returns-clause-opening g c = λ stamps first.
    let old : VolumeState = g.V.Volume.state c.args.volume.now in
    let new : VolumeState = g.V.Volume.state c.install.new.volume in
    let file = c.in_ok-file.ensures in
    record {
      ready = make_ready g.V.Volume.told stamps old new c.args.clock _ _ c.requires.empty first file.stands file.value file.kept file.free file.cut
          (λ told. c.in_ok-install.ensures.content told ∙ c.as_slice.ensures.value) c.in_ok-install.ensures.settled
          (λ told. making c.args.clock old.log new.log c.as_slice.result.now
          (subst (λ (b : List ℕ). StandsFor b (first_list c.args.clock) None) (sym c.as_slice.ensures.value) file.stands) (c.install.ensures.any_moment told))
          c.in_ok-install.ensures.counts;
      refused = tt;
    }

pub returns-clause-hint : goal.returns-clause-hint
returns-clause-hint g c = λ told. let has = c.requires.honest told in making_hint _ _ (c.requires.empty told) has (c.install.ensures.hint told has.settled)

pub returns-clause-hinted : goal.returns-clause-hinted
returns-clause-hinted g c = λ told.
    let shut = c.in_ok-install.ensures.closed told (c.requires.honest told).settled in
    hinted_closed _ _ shut.0 shut.1
