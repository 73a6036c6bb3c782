use Rattle.std.proofs.Common.{subst, sym}
use Rattle.std.proofs.lemmas.Result.{err_from_is_err_and}
use Rattle.zb_volume.specs.declared.areas.Area.TheVariants.{Main}
use Rattle.zb_volume.specs.Disk.{main_bytes, seen}
use Rattle.zb_volume.specs.States.{OthersStay, VolumeState}
use Rattle.fs_recovery.specs.Opens.{IsBounded, IsUpTo, OpensMain}
use Rattle.fs_recovery.specs.Reading.{CountsFault}
use Rattle.fs_recovery.specs.declared.opening.Opened.{Opened}
use Rattle.file_store.proofs.Reopening.{known_here, others_stay, others_still, read_same, unread_opens}
use Rattle.file_store.proofs.opening.open_with_hint.Goals as goal

pub returns-in_err-known-clause-opens : goal.returns-in_err-known-clause-opens
returns-in_err-known-clause-opens g c = λ told honest.
    let p = err_from_is_err_and c.from_residual.result c.from_residual.ensures.1 in
    unread_opens _ _ c.from_residual.result p.0 c.in_err-known.field-0.0 p.1 p.2 c.in_err-known.ensures.read.same c.in_err-known.ensures.refused

pub returns-in_err-known-clause-others : goal.returns-in_err-known-clause-others
returns-in_err-known-clause-others g c = λ told. others_still _ _ c.in_err-known.ensures.read.same

pub read_on-requires-clause-known : goal.read_on-requires-clause-known
read_on-requires-clause-known g c = known_here _ c.in-Some.known (λ (o : Opened). IsBounded o) c.in-Some.is c.in_ok-known.ensures.bounded

pub returns-in-Some-clause-opens : goal.returns-in-Some-clause-opens
returns-in-Some-clause-opens g c = λ told honest.
    let old : VolumeState = g.V.Volume.state c.args.volume.now in
    let mid : VolumeState = g.V.Volume.state c.read_hint.new.volume in
    let new : VolumeState = g.V.Volume.state c.read_on.new.volume in
    let same = read_same old mid _ c.in_ok-known.ensures.read in
    let known = known_here _ c.in-Some.known (λ (o : Opened). IsUpTo (seen old.log Main) o) c.in-Some.is (c.in_ok-known.ensures.honest told honest) in
    subst (λ (s : VolumeState). OpensMain s.log new.log c.read_on.result) same (c.read_on.ensures.opens told (λ magic. subst (λ (s : VolumeState). IsUpTo (main_bytes s.log) c.in-Some.known) (sym same) known))

pub returns-in-Some-clause-counts : goal.returns-in-Some-clause-counts
returns-in-Some-clause-counts g c =
    let old : VolumeState = g.V.Volume.state c.args.volume.now in
    let mid : VolumeState = g.V.Volume.state c.read_hint.new.volume in
    let new : VolumeState = g.V.Volume.state c.read_on.new.volume in
    subst (λ (s : VolumeState). CountsFault {T = Opened} s new c.read_on.result) (read_same old mid _ c.in_ok-known.ensures.read) c.read_on.ensures.counts

pub returns-in-Some-clause-others : goal.returns-in-Some-clause-others
returns-in-Some-clause-others g c = λ told.
    let old : VolumeState = g.V.Volume.state c.args.volume.now in
    let mid : VolumeState = g.V.Volume.state c.read_hint.new.volume in
    let new : VolumeState = g.V.Volume.state c.read_on.new.volume in
    subst (λ (s : VolumeState). OthersStay Main s.log new.log) (read_same old mid _ c.in_ok-known.ensures.read) (c.read_on.ensures.others told)

pub returns-in-None-clause-opens : goal.returns-in-None-clause-opens
returns-in-None-clause-opens g c = λ told honest.
    let old : VolumeState = g.V.Volume.state c.args.volume.now in
    let mid : VolumeState = g.V.Volume.state c.read_hint.new.volume in
    let new : VolumeState = g.V.Volume.state c.open_main.new.volume in
    let opened = c.open_main.ensures in
    subst (λ (s : VolumeState). OpensMain s.log new.log c.open_main.result) (read_same old mid _ c.in_ok-known.ensures.read)
    (record { opens = opened.opens told; whole = opened.whole told; harmed = opened.harmed told; any_moment = opened.any_moment told; images = opened.images told })

pub returns-in-None-clause-counts : goal.returns-in-None-clause-counts
returns-in-None-clause-counts g c =
    let old : VolumeState = g.V.Volume.state c.args.volume.now in
    let mid : VolumeState = g.V.Volume.state c.read_hint.new.volume in
    let new : VolumeState = g.V.Volume.state c.open_main.new.volume in
    subst (λ (s : VolumeState). CountsFault {T = Opened} s new c.open_main.result) (read_same old mid _ c.in_ok-known.ensures.read) c.open_main.ensures.counts

pub returns-in-None-clause-others : goal.returns-in-None-clause-others
returns-in-None-clause-others g c = λ told.
    let old : VolumeState = g.V.Volume.state c.args.volume.now in
    let mid : VolumeState = g.V.Volume.state c.read_hint.new.volume in
    let new : VolumeState = g.V.Volume.state c.open_main.new.volume in
    subst (λ (s : VolumeState). OthersStay Main s.log new.log) (read_same old mid _ c.in_ok-known.ensures.read) (others_stay mid.log new.log (c.open_main.ensures.side told) (c.open_main.ensures.hint told))
