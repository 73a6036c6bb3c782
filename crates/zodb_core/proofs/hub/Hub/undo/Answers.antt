use Rattle.std.proofs.Common.{rules, refl, map, Ok}
use Rattle.zb_model.specs.Voting.{voted_change}
use Rattle.zodb_core.specs.declared.request.Request.TheVariants as request
use Rattle.zodb_core.specs.HubState.{rules_of}
use Rattle.zodb_core.proofs.Asking.{leaves_after, through_hold, undo_early, undo_refused, undo_votes_for}
use Rattle.zodb_core.proofs.Stepping.{stands_read, still_clock}
use Rattle.zodb_core.proofs.Votes.{leaves_now}
use Rattle.zodb_core.proofs.hub.Hub.undo.Goals as goal

pub returns-in-Some-clause-any_moment : goal.returns-in-Some-clause-any_moment
returns-in-Some-clause-any_moment g c = λ lasts told.
    let s = g.St.Store.state c.self.inside.store in
    leaves_now g.St.Store.stands c.args.self.now.store s c.args.self.now.store.log (search rules) (g.met.St.Store.lasting c.self.inside.store lasts (search rules)) refl

pub returns-in-Err-clause-any_moment : goal.returns-in-Err-clause-any_moment
returns-in-Err-clause-any_moment g c = λ lasts told.
    let s = g.St.Store.state c.self.inside.store in
    leaves_now g.St.Store.stands c.args.self.now.store s (g.St.Store.state c.undo.new.store).log (search rules) (g.met.St.Store.lasting c.self.inside.store lasts (search rules)) (search rules)

pub returns-clause-any_moment : goal.returns-clause-any_moment
returns-clause-any_moment g c = λ lasts told. leaves_after g.St.Store.stands c.args.self.now.store (g.St.Store.state c.undo.new.store) c.hold.new.self.store.log (c.hold.ensures.any_moment lasts told) (search rules)

pub returns-in-Some-clause-step : goal.returns-in-Some-clause-step
returns-in-Some-clause-step g c =
    let rules_now = rules_of g.R.Resolver.rules g.F.Refs.named c.args.self.now in
    still_clock _ rules_now c.args.session (request.Undo c.args.texts.user c.args.texts.description c.args.tids) _ c.args.self.now c.args.self.now _ _ (λ told m stands stamps.
    undo_early rules_now m c.args.session c.args.texts.user c.args.texts.description c.args.tids c.in-Some.refusal c.args.self.now stamps stands (search rules) (search rules) (search rules)) refl

pub returns-in-Err-clause-step : goal.returns-in-Err-clause-step
returns-in-Err-clause-step g c =
    let rules_now = rules_of g.R.Resolver.rules g.F.Refs.named c.args.self.now in
    still_clock _ rules_now c.args.session (request.Undo c.args.texts.user c.args.texts.description c.args.tids) _ c.args.self.now _ _ _ (λ told m stands stamps.
    rw c.undo_reply.ensures
    (undo_refused rules_now m c.args.session c.args.texts.user c.args.texts.description c.args.tids c.in-Err.refusal c.args.self.now _ stamps stands (search rules) (search rules) (search rules) (search rules) (search rules) (search rules)
    (stands_read m c.args.self.now _ stands (search rules) (search rules) (search rules) (search rules) (search rules) (search rules)))) refl

pub returns-clause-step : goal.returns-clause-step
returns-clause-step g c =
    let held = c.hold.ensures.step in
    record {
      stamp = held.stamp;
      ticks = held.ticks;
      clock = held.clock;
      step = λ told m stands.
          let rules_now = rules_of g.R.Resolver.rules g.F.Refs.named c.args.self.now in
          let q = request.Undo c.args.texts.user c.args.texts.description c.args.tids in
          through_hold rules_now _ m c.args.session q c.args.texts (Ok (map (voted_change m.list) c.in-Ok.changes)) c.hold.result c.args.self.now _ c.hold.new.self held.stamp held.ticks
          (held.step told m (stands_read m c.args.self.now _ stands (search rules) (search rules) (search rules) (search rules) (search rules) (search rules)) q)
          (undo_votes_for rules_now m c.args.session c.args.texts c.args.tids c.in-Ok.changes c.args.self.now stands (search rules) (search rules) (search rules) (search rules) (search rules))
          (search rules) (search rules);
    }
