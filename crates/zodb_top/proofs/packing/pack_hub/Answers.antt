use Rattle.std.proofs.Common.{refl, ap, ◌∙◌}
use Rattle.std.specs.Prelude.{length}
use Rattle.zb_model.specs.Stores.{StoreState}
use Rattle.zodb_core.specs.Machine.{machine_over}
use Rattle.zodb_top.proofs.Packs.{moments_packs, moments_still, store_packs, unopened_packs}
use Rattle.zodb_top.proofs.packing.pack_hub.Goals as goal

pub returns-in-Ok-clause-step : goal.returns-in-Ok-clause-step
returns-in-Ok-clause-step g c = λ told stands.
    store_packs c.args.pack c.step.result c.args.hub.now.store c.step.new.self.store c.args.hub.now c.open_session.new.self c.step.new.self c.in-Ok.session _ _ refl c.open_session.ensures.store refl (c.in-Ok.ensures.number ∙ ap length c.requires.fresh)
    (c.step.ensures.step told _ (c.in-Ok.ensures.stands (machine_over c.args.hub.now.store.list) stands)) c.step.ensures.safe c.requires.whole

pub returns-in-Ok-clause-moments : goal.returns-in-Ok-clause-moments
returns-in-Ok-clause-moments g c = λ lasts told stands lasting.
    moments_packs g.St.Store.stands c.args.pack c.in-Ok.session c.args.hub.now.store.list c.args.hub.now.store.log c.open_session.new.self.store.log c.step.new.self.store.log (c.in-Ok.ensures.number ∙ ap length c.requires.fresh)
    (ap (λ (s : StoreState). s.log) c.open_session.ensures.store)
    (c.step.ensures.any_moment lasts told (ap (λ (s : StoreState). s.broken) c.open_session.ensures.store ∙ c.requires.whole) _ (c.in-Ok.ensures.stands (machine_over c.args.hub.now.store.list) stands))

pub returns-in-Err-clause-step : goal.returns-in-Err-clause-step
returns-in-Err-clause-step g c = λ told stands. unopened_packs c.args.pack c.args.hub.now.store c.open_session.new.self.store _ c.open_session.ensures.store c.requires.whole

pub returns-in-Err-clause-moments : goal.returns-in-Err-clause-moments
returns-in-Err-clause-moments g c = λ lasts told stands lasting.
    moments_still g.St.Store.stands c.args.pack c.args.hub.now.store.list c.args.hub.now.store.log c.open_session.new.self.store.log (ap (λ (s : StoreState). s.log) c.open_session.ensures.store) lasting
