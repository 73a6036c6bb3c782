use Rattle.std.proofs.Common.{subst, ap, sym}
use Rattle.fs_recovery.specs.Numbers.{NumbersKept, AreNumbersOf}
use Rattle.pack_copy.specs.Copying.{CopyKept}
use Rattle.pack_copy.proofs.state.CopyState.changes.Goals as goal

pub returns : goal.returns
returns c = λ list is numbers. c.changes_of.ensures list is (subst (λ (n : NumbersKept). AreNumbersOf list n) (sym (ap (λ (k : CopyKept). k.numbers) c.self.view_is)) numbers)
