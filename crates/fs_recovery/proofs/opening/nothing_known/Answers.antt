use Rattle.std.proofs.Common.{ℕ, sym, subst}
use Rattle.fs_recovery.specs.Counting.{Numbered}
use Rattle.fs_recovery.proofs.Starts.{empty_newest, nothing_read}
use Rattle.fs_recovery.proofs.opening.nothing_known.Goals as goal

pub returns-clause-known : goal.returns-clause-known
returns-clause-known c = λ bytes begins.
    subst (λ (n : ℕ). Numbered bytes 4 n c.new-index.result c.new-numbers.result) (sym (empty_newest c.new-index.result c.new-index.ensures.transactions))
    (nothing_read bytes c.new-index.result c.new-numbers.result begins c.new-index.ensures.objects c.new-index.ensures.transactions c.new-numbers.ensures)
