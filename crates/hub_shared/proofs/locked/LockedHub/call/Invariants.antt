use Rattle.zodb_core.specs.HubState.{rules_of}
use Rattle.hub_shared.specs.Seats.{HasLasted, IsPosted}
use Rattle.hub_shared.proofs.locked.LockedHub.call.Given as goal

abbrev pub ghosts-post_step : goal.ghosts-post_step
ghosts-post_step g a = record {
  is_next = IsPosted g.St.Store.told g.J.Origin.rules (rules_of g.R.Resolver.rules g.F.Refs.named a.hub.now) g.J.Origin.list g.J.Origin.counts
      (λ xs. HasLasted g.St.Store.lasts g.St.Store.told g.St.Store.stands g.J.Origin.rules g.J.Origin.list g.J.Origin.counts g.J.Origin.log g.J.Origin.broken xs a.hub.now) a.seat.now.seen a.hub.now a.session g.Q.Asked.request a.reply.now;
}
