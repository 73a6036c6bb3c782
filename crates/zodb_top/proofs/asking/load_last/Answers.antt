use Rattle.zodb_core.specs.declared.request.Request.TheVariants as request
use Rattle.zodb_top.specs.Asking.{IsLast, IsStepped}
use Rattle.zodb_top.proofs.Asks.{asks_on, last_is, ok_map}
use Rattle.zodb_top.proofs.asking.load_last.Goals as goal

pub returns-clause-last : goal.returns-clause-last
returns-clause-last g c = λ told m stands whole.
    let k = c.front.ensures.asks.keeps told m stands whole in
    ok_map c.ask.result (λ r. IsStepped k.left c.args.session (request.LoadBefore c.args.oid c.in_ok-front.front) r) (IsLast c.args.oid m.list) (c.ask.ensures.reply told k.left k.stands)
    (λ r is. last_is m.list k.left c.args.session c.args.oid c.in_ok-front.front r k.list (c.in_ok-front.ensures.front told m stands) is)

pub returns-clause-asks : goal.returns-clause-asks
returns-clause-asks g c =
    asks_on g.St.Store.told c.args.hub.now c.front.new.hub c.ask.new.hub _ _ _ c.front.result _ c.ask.result c.in_ok-front.was c.front.ensures.asks c.ask.ensures.asks
