-- The first moment.
use Rattle.std.proofs.Common.{rules}
use Rattle.client_turns.proofs.Stepping.{first_stands}
use Rattle.client_turns.proofs.clients.Clients.new.Goals as goal

pub returns-clause-moment : goal.returns-clause-moment
returns-clause-moment g c = λ told stamps. search (first_stands, rules, told, g.met.St.Store.database c.args.store told c.requires.whole)
