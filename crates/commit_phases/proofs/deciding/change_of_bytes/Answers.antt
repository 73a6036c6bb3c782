use Rattle.commit_phases.proofs.deciding.change_of_bytes.Goals as goal

pub returns-in-Err-clause-read : goal.returns-in-Err-clause-read
returns-in-Err-clause-read g c = record {
  same = c.in-Err.ensures.read.same;
  counted = c.in-Err.ensures.read.counted;
  cause = c.refuse.ensures.cause _ _ c.in-Err.ensures.read.cause;
  answered = tt;
}
