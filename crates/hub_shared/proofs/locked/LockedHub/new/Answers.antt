use Rattle.std.proofs.Common.{rules, ◌∙◌, ap}
use Rattle.hub_clock.specs.declared.view.SeatView.{SeatView}
use Rattle.hub_shared.proofs.Lasting.{new_lasted}
use Rattle.hub_shared.proofs.locked.LockedHub.new.Goals as goal

pub invariant_of-result : goal.invariant_of-result
invariant_of-result g c = (
  search rules,
  new_lasted g.St.Store.lasts g.St.Store.told g.St.Store.stands g.J.Origin.rules g.J.Origin.list g.J.Origin.counts g.J.Origin.log g.J.Origin.broken c.copy-seen.new.seat.seen c.args.hub
      (ap (λ (n : SeatView _). n.seen) (c.copy-seen.ensures.kept ∙ c.requires.seat)) c.requires.counts c.requires.log c.requires.broken c.lasting.ensures.lasting c.requires.stands,
)
