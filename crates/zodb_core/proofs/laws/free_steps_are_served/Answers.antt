use Rattle.zodb_core.specs.Entries.{free_votes_are_served, steps_have_room}
use Rattle.zodb_core.proofs.laws.free_steps_are_served.Goals as goal

pub returns-clause-room : goal.returns-clause-room
returns-clause-room c = steps_have_room

pub returns-clause-free : goal.returns-clause-free
returns-clause-free c = free_votes_are_served
