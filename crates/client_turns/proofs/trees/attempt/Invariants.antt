-- The objects that a transaction has, but for what is known.
use Rattle.connection_view.specs.Connections.{work_of}
use Rattle.client_turns.specs.Gathering.{objects_over}
use Rattle.client_turns.proofs.trees.attempt.Given as goal

abbrev pub ghosts-call_tree : goal.ghosts-call_tree
ghosts-call_tree g a = record { objects = objects_over a.known.now a._whose.now.store.list (work_of a._changes.now); numbers = a.numbers.now }
