use Rattle.connection_view.proofs.Told.{told_closed}
use Rattle.connection_view.proofs.connection.Connection.close.Goals as goal

pub returns-clause-between : goal.returns-clause-between
returns-clause-between c = λ x unvoted. told_closed c.clear.new.self x (c.clear.ensures.between x unvoted)
