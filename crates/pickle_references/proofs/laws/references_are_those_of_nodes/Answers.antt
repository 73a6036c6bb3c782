-- References are told by the steps that read the graph.
use Rattle.pickle_references.proofs.Told.{told-named}
use Rattle.pickle_references.proofs.Lost.{named-told, part-left}
use Rattle.pickle_references.specs.AlikeLaws.{copies-named}
use Rattle.pickle_references.proofs.laws.references_are_those_of_nodes.Goals as goal

pub returns-clause-told : goal.returns-clause-told
returns-clause-told c = told-named

pub returns-clause-named : goal.returns-clause-named
returns-clause-named c = named-told

pub returns-clause-copies : goal.returns-clause-copies
returns-clause-copies c = copies-named

pub returns-clause-left : goal.returns-clause-left
returns-clause-left c = part-left
