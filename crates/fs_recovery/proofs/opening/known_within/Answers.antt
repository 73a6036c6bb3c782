use Rattle.fs_recovery.proofs.opening.known_within.Goals as goal

pub returns-then-long-known-clause-known : goal.returns-then-long-known-clause-known
returns-then-long-known-clause-known c = λ bytes known. c.nothing_known.ensures.known bytes
