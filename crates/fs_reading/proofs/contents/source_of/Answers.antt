use Rattle.std.proofs.Common.{ℕ, List, ap, sym, subst}
use Rattle.zb_volume.specs.Disk.{main_bytes}
use Rattle.fs_reading.specs.Known.{AreSourcesOf}
use Rattle.fs_reading.proofs.Longer.{source_known}
use Rattle.fs_reading.proofs.contents.source_of.Goals as goal

pub returns-then-header-eq0-clause-known : goal.returns-then-header-eq0-clause-known
returns-then-header-eq0-clause-known g c = λ told.
    let bytes : List ℕ = main_bytes (g.V.Volume.state c.args.volume.now).log in
    let some = c.requires.some told in
    let is = source_known bytes some.0 c.args.at c.in_ok-source.source some.1 (c.in_ok-source.ensures.value told some.0 some.1) in
    subst (λ (b : List ℕ). AreSourcesOf b c.enter.new.self) (sym (ap main_bytes c.follow.ensures.read.same)) (c.enter.ensures bytes (c.requires.known told) is)
