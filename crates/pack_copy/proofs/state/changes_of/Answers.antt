use Rattle.pack_copy.proofs.state.changes_of.Goals as goal

pub returns : goal.returns
returns c = λ list is numbers. c.changes.ensures list numbers
