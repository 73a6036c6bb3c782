use Rattle.std.proofs.Common.{ap, refl, sym, take, ◌∙◌}
use Rattle.std.proofs.lemmas.Result.{err_from_is_err_and}
use Rattle.zb_volume.specs.declared.areas.Area.TheVariants.{Main, Side}
use Rattle.zb_volume.specs.Disk.{seen}
use Rattle.zb_volume.specs.States.{VolumeState}
use Rattle.file_store.proofs.Hints.{opened_hint, opening, stays_honest}
use Rattle.file_store.proofs.Opens.{open_ready, open_refused, refused}
use Rattle.file_store.proofs.opening.reopen.Goals as goal

pub returns-in_err-opened-clause-opening : goal.returns-in_err-opened-clause-opening
returns-in_err-opened-clause-opening g c = λ stamps.
    let p = err_from_is_err_and c.from_residual.result c.from_residual.ensures.1 in
    let old : VolumeState = g.V.Volume.state c.args.volume.now in
    let new : VolumeState = g.V.Volume.state c.open_with_hint.new.volume in
    let opened = c.in_err-opened.ensures in
    refused g.V.Volume.told stamps old new c.from_residual.result p.0 c.in_err-opened.field-0.0 p.1 p.2
    (open_refused g.V.Volume.told stamps old new c.in_err-opened.field-0.0 c.requires.some (λ told. (opened.opens told (c.requires.honest told).honest).opens) opened.untouched (λ told. (opened.opens told (c.requires.honest told).honest).harmed) (λ told. opened.others told Side refl) (λ told. (opened.opens told (c.requires.honest told).honest).images) opened.counts)

pub returns-in_err-opened-clause-hint : goal.returns-in_err-opened-clause-hint
returns-in_err-opened-clause-hint g c = λ told settled.
    let old = (g.V.Volume.state c.args.volume.now).log in
    let new = (g.V.Volume.state c.open_with_hint.new.volume).log in
    let has = c.requires.honest told in
    let is = c.open_with_hint.ensures.opens told has.honest in
    stays_honest old new (opening old new (c.requires.bytes told) (c.requires.short told) (c.requires.some told) settled has is.harmed is.any_moment (c.open_with_hint.ensures.others told))

pub returns-clause-opening : goal.returns-clause-opening
returns-clause-opening g c = λ stamps.
    let old : VolumeState = g.V.Volume.state c.args.volume.now in
    let new : VolumeState = g.V.Volume.state c.open_with_hint.new.volume in
    let opened = c.in_ok-opened.ensures in
    record {
      ready = open_ready g.V.Volume.told stamps old new c.in_ok-opened.opened c.keep.result c.requires.some c.requires.bytes (λ told. (opened.opens told (c.requires.honest told).honest).opens) opened.content (λ told. (opened.opens told (c.requires.honest told).honest).whole) opened.settled (λ told. opened.others told Side refl) (λ told. (opened.opens told (c.requires.honest told).honest).images)
          opened.bounded.limit opened.counts c.keep.ensures.kept c.keep.ensures.free c.keep.ensures.cut;
      refused = tt;
    }

pub returns-clause-hint : goal.returns-clause-hint
returns-clause-hint g c = λ told settled.
    let old = (g.V.Volume.state c.args.volume.now).log in
    let new = (g.V.Volume.state c.open_with_hint.new.volume).log in
    let has = c.requires.honest told in
    let is = c.open_with_hint.ensures.opens told has.honest in
    stays_honest old new (opening old new (c.requires.bytes told) (c.requires.short told) (c.requires.some told) settled has is.harmed is.any_moment (c.open_with_hint.ensures.others told))

pub returns-clause-hinted : goal.returns-clause-hinted
returns-clause-hinted g c = λ told.
    let old = (g.V.Volume.state c.args.volume.now).log in
    let new = (g.V.Volume.state c.open_with_hint.new.volume).log in
    let has = c.requires.honest told in
    let opened = c.in_ok-opened.ensures in
    let is = (opened.opens told has.honest).opens in
    let end = sym c.keep.ensures.end in
    opened_hint old new is.reached c.in_ok-opened.opened.cut c.keep.result.index.end (c.requires.bytes told) (c.requires.short told) has is.stands (is.end_is ∙ end) (opened.content told ∙ ap (λ n. take n (seen old Main)) end) (opened.settled told) (opened.others told)
