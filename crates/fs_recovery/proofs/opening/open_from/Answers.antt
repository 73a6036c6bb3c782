use Rattle.std.proofs.lemmas.Result.{err_from_is_err_and}
use Rattle.std.proofs.Common.{◌≡◌, ◌∙◌, ap, subst, sym, List, ℕ, take, Err}
use Rattle.zb_volume.specs.Disk.{main_bytes}
use Rattle.fs_recovery.specs.Opens.{IsKnownOf, IsNoList, IsOpened, MomentsOfOpening, Opens}
use Rattle.fs_recovery.proofs.Steps.{no_list_apart, whole_now}
use Rattle.fs_recovery.proofs.Times.{still_others, still_main, moments, images_stand}
use Rattle.fs_recovery.proofs.opening.open_from.Goals as goal
use Rattle.fs_recovery.proofs.opening.open_from.Goals.{After-keep_front}

pub returns-in_err-long-clause-others : goal.returns-in_err-long-clause-others
returns-in_err-long-clause-others g c = λ told. still_others (g.V.Volume.state c.args.volume.now).log (g.V.Volume.state c.len.new.self).log c.len.ensures.read.same

pub returns-in_err-long-clause-any_moment : goal.returns-in_err-long-clause-any_moment
returns-in_err-long-clause-any_moment g c = λ told known. still_main (g.V.Volume.state c.args.volume.now).log (g.V.Volume.state c.len.new.self).log c.len.ensures.read.same

pub returns-in_err-opened-clause-others : goal.returns-in_err-opened-clause-others
returns-in_err-opened-clause-others g c = λ told. still_others (g.V.Volume.state c.args.volume.now).log (g.V.Volume.state c.read_main.new.volume).log (c.read_main.ensures.read.same ∙ c.len.ensures.read.same)

pub returns-in_err-opened-clause-any_moment : goal.returns-in_err-opened-clause-any_moment
returns-in_err-opened-clause-any_moment g c = λ told known. still_main (g.V.Volume.state c.args.volume.now).log (g.V.Volume.state c.read_main.new.volume).log (c.read_main.ensures.read.same ∙ c.len.ensures.read.same)

-- Main is as it was while it was measured
known_there : (g : _) (c : After-keep_front g) → IsKnownOf (main_bytes (g.V.Volume.state c.args.volume.now).log) c.args.known → IsKnownOf (main_bytes (g.V.Volume.state c.len.new.self).log) c.args.known
known_there g c known = subst (λ (b : List ℕ). IsKnownOf b c.args.known) (sym (ap main_bytes c.len.ensures.read.same)) known

-- after the cut and the sync, done or not
kept : (g : _) (c : After-keep_front g) → g.V.Volume.told → IsKnownOf (main_bytes (g.V.Volume.state c.args.volume.now).log) c.args.known → MomentsOfOpening (g.V.Volume.state c.args.volume.now).log (g.V.Volume.state c.keep_front.new.volume).log
kept g c told known =
    let log = (g.V.Volume.state c.args.volume.now).log in
    let opened = subst (λ (b : List ℕ). IsOpened b c.in_ok-opened.opened) (ap main_bytes c.len.ensures.read.same) (c.in_ok-opened.ensures.opens told (known_there g c known)) in
    moments log (g.V.Volume.state c.read_main.new.volume).log (g.V.Volume.state c.keep_front.new.volume).log c.in_ok-opened.opened (c.read_main.ensures.read.same ∙ c.len.ensures.read.same) opened (c.keep_front.ensures.any_moment told)

pub returns-in_err-keep_front-clause-any_moment : goal.returns-in_err-keep_front-clause-any_moment
returns-in_err-keep_front-clause-any_moment g c = kept g (goal.at.returns-in_err-keep_front-clause-any_moment g c).After-keep_front

pub returns-clause-any_moment : goal.returns-clause-any_moment
returns-clause-any_moment g c = kept g (goal.at.returns-clause-any_moment g c).After-keep_front

-- ---- and what each image stands for

pub returns-in_err-long-clause-images : goal.returns-in_err-long-clause-images
returns-in_err-long-clause-images g c = λ told known.
    let log = (g.V.Volume.state c.args.volume.now).log in
    images_stand log (g.V.Volume.state c.len.new.self).log (still_main log (g.V.Volume.state c.len.new.self).log c.len.ensures.read.same)

pub returns-in_err-opened-clause-images : goal.returns-in_err-opened-clause-images
returns-in_err-opened-clause-images g c = λ told known.
    let log = (g.V.Volume.state c.args.volume.now).log in
    images_stand log (g.V.Volume.state c.read_main.new.volume).log (still_main log (g.V.Volume.state c.read_main.new.volume).log (c.read_main.ensures.read.same ∙ c.len.ensures.read.same))

pub returns-in_err-keep_front-clause-images : goal.returns-in_err-keep_front-clause-images
returns-in_err-keep_front-clause-images g c = λ told known.
    images_stand (g.V.Volume.state c.args.volume.now).log (g.V.Volume.state c.keep_front.new.volume).log (kept g (goal.at.returns-in_err-keep_front-clause-images g c).After-keep_front told known)

pub returns-clause-images : goal.returns-clause-images
returns-clause-images g c = λ told known.
    images_stand (g.V.Volume.state c.args.volume.now).log (g.V.Volume.state c.keep_front.new.volume).log (kept g (goal.at.returns-clause-images g c).After-keep_front told known)

pub returns-clause-whole : goal.returns-clause-whole
returns-clause-whole g c = λ told known.
    let log = (g.V.Volume.state c.args.volume.now).log in
    let o = c.in_ok-opened.opened in
    let mid : main_bytes (g.V.Volume.state c.read_main.new.volume).log ≡ main_bytes log = ap main_bytes (c.read_main.ensures.read.same ∙ c.len.ensures.read.same) in
    let opened = subst (λ (b : List ℕ). IsOpened b o) (ap main_bytes c.len.ensures.read.same) (c.in_ok-opened.ensures.opens told (known_there g (goal.at.returns-clause-whole g c).After-keep_front known)) in
    let content = c.in_ok-keep_front.ensures.content told ∙ ap (λ (b : List ℕ). take o.end b) mid in
    whole_now (main_bytes log) (main_bytes (g.V.Volume.state c.keep_front.new.volume).log) o content opened

pub returns-clause-opens : goal.returns-clause-opens
returns-clause-opens g c = λ told known.
    subst (λ (b : List ℕ). IsOpened b c.in_ok-opened.opened) (ap main_bytes c.len.ensures.read.same) (c.in_ok-opened.ensures.opens told (known_there g (goal.at.returns-clause-opens g c).After-keep_front known))

pub returns-in_err-opened-clause-opens : goal.returns-in_err-opened-clause-opens
returns-in_err-opened-clause-opens g c = λ told known.
    let same = ap main_bytes c.len.ensures.read.same in
    let gives = subst (λ (b : List ℕ). Opens b (Err c.in_err-opened.field-0.0)) same (c.in_err-opened.ensures.opens told (subst (λ (b : List ℕ). IsKnownOf b c.args.known) (sym same) known)) in
    let p = err_from_is_err_and c.from_residual-in_err-opened.result c.from_residual-in_err-opened.ensures.1 in
    rw (p.1, p.2) gives

-- ---- what is no file or damaged isn't touched

never : (g : _) (c : After-keep_front g) → g.V.Volume.told → IsKnownOf (main_bytes (g.V.Volume.state c.args.volume.now).log) c.args.known → IsNoList (main_bytes (g.V.Volume.state c.args.volume.now).log) → ⊥
never g c told known =
    no_list_apart (main_bytes (g.V.Volume.state c.args.volume.now).log) c.in_ok-opened.opened
    (subst (λ (b : List ℕ). IsOpened b c.in_ok-opened.opened) (ap main_bytes c.len.ensures.read.same) (c.in_ok-opened.ensures.opens told (known_there g c known)))

pub returns-in_err-keep_front-clause-harmed : goal.returns-in_err-keep_front-clause-harmed
returns-in_err-keep_front-clause-harmed g c = λ told known harm. absurd (never g (goal.at.returns-in_err-keep_front-clause-harmed g c).After-keep_front told known harm)

pub returns-clause-harmed : goal.returns-clause-harmed
returns-clause-harmed g c = λ told known harm. absurd (never g (goal.at.returns-clause-harmed g c).After-keep_front told known harm)
