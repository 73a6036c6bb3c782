use Rattle.std.proofs.Common.{rules}
use Rattle.zodb_core.proofs.Votes.{leaves_shown}
use Rattle.zodb_core.proofs.hub.Hub.has_failed.Goals as goal

pub returns-clause-lasting : goal.returns-clause-lasting
returns-clause-lasting g c = λ lasts whole.
    let s = g.St.Store.state c.self.inside.store in
    leaves_shown g.St.Store.stands c.args.self.now.store s (search rules) (g.met.St.Store.lasting c.self.inside.store lasts (search (whole, rules)))
