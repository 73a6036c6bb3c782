-- A check to its end.
use Rattle.std.proofs.Common.{refl, rules, sym, ap, ◌∙◌}
use Rattle.std.proofs.lemmas.Result.{err_from_is_err_and}
use Rattle.zodb_core.specs.Machine.{front_of}
use Rattle.zodb_top.proofs.Asks.{asks_answered, asks_behind, asks_refused, keeps_all, keeps_on, later_on}
use Rattle.zodb_top.proofs.Checks.{check_on, ended_on, wants_on}
use Rattle.zodb_top.proofs.checking.run.Goals as goal

pub steps-init : goal.steps-init
steps-init g c = record {
  check = λ told m stands whole at root is. is;
  keeps = λ told m stands whole. keeps_all m c.args.hub.now _ stands whole;
  calm = refl;
  others = refl;
  later = search rules;
}

pub steps-preserved : goal.steps-preserved
steps-preserved g c =
    let i = c.steps.invariant in
    let n = c.in_ok-next.ensures in
    record {
      check = λ told m stands whole at root is.
          let k = i.keeps told m stands whole in
          wants_on k.left.list m.list root _ c.in-Wants.next k.list c.in-Wants.is
          (n.progress told k.left k.stands (at ∙ ap front_of (sym k.list)) root (check_on k.left.list m.list root c.steps.check k.list (i.check told m stands whole at root is)));
      keeps = λ told m stands whole.
          let k = i.keeps told m stands whole in
          keeps_on m c.args.hub.now c.steps.hub c.feed.new.hub _ _ _ k (n.asks.keeps told k.left k.stands k.whole);
      calm = n.asks.calm (λ is. absurd cc) ∙ i.calm;
      others = n.asks.others ∙ i.others;
      later = later_on _ _ _ i.later n.asks.later;
    }

pub returns-in-Ended-clause-verdict : goal.returns-in-Ended-clause-verdict
returns-in-Ended-clause-verdict g c = λ told m stands whole at root is.
    let k = c.steps.invariant.keeps told m stands whole in
    ended_on k.left.list m.list root _ c.in-Ended.verdict k.list c.in-Ended.is
    (c.in_ok-next.ensures.progress told k.left k.stands (at ∙ ap front_of (sym k.list)) root (check_on k.left.list m.list root c.steps.check k.list (c.steps.invariant.check told m stands whole at root is)))

pub returns-in_err-next-clause-asks : goal.returns-in_err-next-clause-asks
returns-in_err-next-clause-asks g c =
    let i = c.steps.invariant in
    let p = err_from_is_err_and c.from_residual.result c.from_residual.ensures.1 in
    asks_refused g.St.Store.told c.args.hub.now c.feed.new.hub _ _ c.feed.result c.from_residual.result p.0 _ c.in_err-next.was p.1 p.2
    (asks_behind g.St.Store.told c.args.hub.now c.steps.hub c.feed.new.hub _ _ _ c.feed.result i.keeps i.calm i.others i.later c.feed.ensures.asks)

pub returns-in-Ended-clause-asks : goal.returns-in-Ended-clause-asks
returns-in-Ended-clause-asks g c =
    let i = c.steps.invariant in
    asks_answered g.St.Store.told c.args.hub.now c.feed.new.hub _ _ c.feed.result _ _ c.in_ok-next.was (asks_behind g.St.Store.told c.args.hub.now c.steps.hub c.feed.new.hub _ _ _ c.feed.result i.keeps i.calm i.others i.later c.feed.ensures.asks)
