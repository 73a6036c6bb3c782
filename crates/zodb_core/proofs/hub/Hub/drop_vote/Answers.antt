use Rattle.std.proofs.Common.{rules, refl}
use Rattle.zodb_core.proofs.Votes.{leaves_now, leaves_same}
use Rattle.zodb_core.proofs.hub.Hub.drop_vote.Goals as goal

pub returns-then-not-has_vote-clause-any_moment : goal.returns-then-not-has_vote-clause-any_moment
returns-then-not-has_vote-clause-any_moment g c = λ lasts told.
    let s = g.St.Store.state c.self.inside.store in
    leaves_now g.St.Store.stands c.args.self.now.store s c.args.self.now.store.log (search rules) (g.met.St.Store.lasting c.self.inside.store lasts (search rules)) refl

pub returns-in_default-clause-any_moment : goal.returns-in_default-clause-any_moment
returns-in_default-clause-any_moment g c = λ lasts told.
    let s = g.St.Store.state c.self.inside.store in
    leaves_now g.St.Store.stands c.args.self.now.store s s.log (search rules) (g.met.St.Store.lasting c.self.inside.store lasts (search rules)) (search rules)

pub returns-in_default-abort-clause-any_moment : goal.returns-in_default-abort-clause-any_moment
returns-in_default-abort-clause-any_moment g c = λ lasts told.
    let s = g.St.Store.state c.self.inside.store in
    leaves_same g.St.Store.stands c.args.self.now.store s (g.St.Store.state c.abort.new.self).log (search rules) (c.abort.ensures.any_moment lasts)

pub returns-clause-any_moment : goal.returns-clause-any_moment
returns-clause-any_moment g c = λ lasts told.
    let s = g.St.Store.state c.self.inside.store in
    leaves_same g.St.Store.stands c.args.self.now.store s (g.St.Store.state c.abort.new.self).log (search rules) (c.abort.ensures.any_moment lasts)
