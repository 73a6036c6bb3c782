use Rattle.std.proofs.Common.{◌≡◌}
use Rattle.zodb_core.specs.History.{Opened}
use Rattle.hub_shared.proofs.locked.LockedHub.enter.Given as goal

abbrev pub ghosts-post_opening : goal.ghosts-post_opening
ghosts-post_opening g a = record { is_next = λ e. e ≡ Opened a.session }
