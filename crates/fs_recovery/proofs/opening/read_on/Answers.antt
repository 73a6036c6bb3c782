use Rattle.fs_recovery.proofs.opening.read_on.Goals as goal

pub returns-clause-opens : goal.returns-clause-opens
returns-clause-opens g c = λ told known. record {
  opens = c.open_from.ensures.opens told known;
  whole = c.open_from.ensures.whole told known;
  harmed = c.open_from.ensures.harmed told known;
  any_moment = c.open_from.ensures.any_moment told known;
  images = c.open_from.ensures.images told known;
}
