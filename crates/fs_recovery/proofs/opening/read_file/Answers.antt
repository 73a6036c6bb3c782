use Rattle.std.proofs.Common.{ap, subst, List, ℕ}
use Rattle.zb_volume.specs.Disk.{main_bytes}
use Rattle.fs_recovery.specs.Opens.{Opens}
use Rattle.fs_recovery.proofs.opening.read_file.Goals as goal

pub returns-clause-opens : goal.returns-clause-opens
returns-clause-opens g c = λ told. subst (λ (b : List ℕ). Opens b c.read_main.result) (ap main_bytes c.len.ensures.read.same) (c.read_main.ensures.opens told (c.nothing_known.ensures.known (main_bytes (g.V.Volume.state c.len.new.self).log)))
