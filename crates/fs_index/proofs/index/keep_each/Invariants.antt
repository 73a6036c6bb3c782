use Rattle.fs_index.proofs.Keeping.{KeptSoFar}
use Rattle.fs_index.proofs.index.keep_each.Given as goal

-- the first of them are kept, and there is room for the rest
abbrev pub invariant-each : goal.invariant-each
invariant-each l = record { kept : KeptSoFar l.fn.objects.entries l.objects.entries (l.objects.room) l.one-index l.placed }
