-- A check from its root on.
use Rattle.std.proofs.Common.{◌≡◌, sym, ap, ◌∙◌}
use Rattle.zodb_core.specs.Machine.{front_of}
use Rattle.zodb_top.specs.Asked.{last_contents, last_verdict}
use Rattle.zodb_top.proofs.Asks.{asks_on, ok_map}
use Rattle.zodb_top.proofs.checking.last_verdict.Goals as goal

pub returns-clause-verdict : goal.returns-clause-verdict
returns-clause-verdict g c = λ told m stands whole.
    let k = c.front.ensures.asks.keeps told m stands whole in
    ok_map c.run.result (λ v. v ≡ last_verdict c.args.root k.left.list) (λ v. v ≡ last_verdict c.args.root m.list)
    (c.run.ensures.verdict told k.left k.stands k.whole (c.in_ok-front.ensures.front told m stands ∙ ap front_of (sym k.list)) c.args.root (c.new-check.ensures.check (last_contents k.left.list)))
    (λ v is. is ∙ ap (last_verdict c.args.root) k.list)

pub returns-clause-asks : goal.returns-clause-asks
returns-clause-asks g c =
    asks_on g.St.Store.told c.args.hub.now c.front.new.hub c.run.new.hub _ _ _ c.front.result _ c.run.result c.in_ok-front.was c.front.ensures.asks c.run.ensures.asks
