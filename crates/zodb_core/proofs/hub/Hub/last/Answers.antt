use Rattle.std.proofs.Common.{◌≡◌, List, rules, subst}
use Rattle.zb_model.specs.declared.data.Transaction.{Transaction}
use Rattle.zb_model.specs.Database.{IsDatabase}
use Rattle.zodb_core.specs.HubState.{rules_of}
use Rattle.zodb_core.proofs.Behind.{last_answered}
use Rattle.zodb_core.proofs.hub.Hub.last.Goals as goal

pub returns-clause-step : goal.returns-clause-step
returns-clause-step g c = λ told m stands stamps.
    let rules_now = rules_of g.R.Resolver.rules g.F.Refs.named c.args.self.now in
    let list_is : (g.St.Store.state c.self.inside.store).list ≡ c.args.self.now.store.list = search rules in
    let database : IsDatabase c.args.self.now.store.list = subst (λ (l : List Transaction). IsDatabase l) list_is (g.met.St.Store.database c.self.inside.store told (search rules)) in
    last_answered rules_now m c.args.session c.newest-tid.result c.changes_to.result c.args.self.now stamps (search rules) stands c.requires.whole c.requires.is_open database (search rules) (search rules)
