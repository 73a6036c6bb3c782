-- A turn.
use Rattle.std.proofs.Common.{◌≡◌, ◌∙◌, false, List, subst, sym}
use Rattle.zb_volume.specs.declared.areas.Area.TheVariants.{Main}
use Rattle.zb_volume.specs.Moments.{Leaves}
use Rattle.zb_model.specs.declared.data.Transaction.{Transaction}
use Rattle.zodb_core.specs.HubState.{rules_of}
use Rattle.client_turns.specs.TurnLaws.{line_whole}
use Rattle.client_turns.proofs.Crashes.{line_moments, turn_moments}
use Rattle.client_turns.proofs.Ending.{rules_same}
use Rattle.client_turns.proofs.Taking.{line_whole_of, turn_broken, turn_cut, turn_done}
use Rattle.client_turns.proofs.clients.Clients.take_turn.Goals as goal

pub returns-in-Some-clause-turn : goal.returns-in-Some-clause-turn
returns-in-Some-clause-turn g c = λ told m stands.
    turn_broken _ m c.args.turn.now c.args.is_last c.line-answer.result c.in-Some.why _ _ (c.line-answer.ensures.line told m stands) (sym c.in-Some.is ∙ c.end_of.ensures)

pub returns-in-Some-clause-any_moment : goal.returns-in-Some-clause-any_moment
returns-in-Some-clause-any_moment g c = λ lasts told whole m stands.
    line_moments g.St.Store.stands (rules_of g.R.Resolver.rules g.F.Refs.named c.args.self.now.hub) m c.args.turn.now c.args.self.now _ _ _ stands
    (c.line-answer.ensures.hub.moments lasts (told, (m, stands)) whole m.machine stands.hub
    (subst (λ (l : List Transaction). Leaves Main (λ bytes. g.St.Store.stands bytes l) c.args.self.now.hub.store.log) (sym (stands.hub.list whole)) (c.lasting.ensures.lasting lasts whole)))

pub returns-in-Some-close_if-clause-turn : goal.returns-in-Some-close_if-clause-turn
returns-in-Some-close_if-clause-turn g c = λ told m stands.
    turn_cut _ _ m c.args.turn.now c.args.is_last c.line-answer.result c.line-answer.new.self _ _ _ c.in-Some-close_if.why (c.line-answer.ensures.line told m stands) (sym c.in_default.is ∙ c.end_of.ensures)
    (rules_same g.R.Resolver.rules g.F.Refs.named c.args.self.now.hub c.line-answer.new.self.hub c.line-answer.ensures.hub.resolver c.line-answer.ensures.hub.refs)
    (λ b stands'. c.in-Some-close_if.ensures.closing told b stands')

pub returns-in-Some-close_if-clause-any_moment : goal.returns-in-Some-close_if-clause-any_moment
returns-in-Some-close_if-clause-any_moment g c = λ lasts told whole m stands.
    let first = c.line-answer.ensures.line told m stands in
    let laws = line_whole _ m first.now _ _ _ (line_whole_of _ m c.args.turn.now _ first.now first.holds (sym c.in_default.is ∙ c.end_of.ensures)) in
    let fine : c.line-answer.new.self.hub.store.broken ≡ false = sym first.stands.hub.failed ∙ laws.whole (sym (sym c.in_default.is ∙ c.end_of.ensures)) (stands.hub.failed ∙ whole) in
    turn_moments g.St.Store.stands (rules_of g.R.Resolver.rules g.F.Refs.named c.args.self.now.hub) m first.now c.args.turn.now c.line-answer.result _ _ _
    (line_moments g.St.Store.stands (rules_of g.R.Resolver.rules g.F.Refs.named c.args.self.now.hub) m c.args.turn.now c.args.self.now _ _ _ stands
    (c.line-answer.ensures.hub.moments lasts (told, (m, stands)) whole m.machine stands.hub
    (subst (λ (l : List Transaction). Leaves Main (λ bytes. g.St.Store.stands bytes l) c.args.self.now.hub.store.log) (sym (stands.hub.list whole)) (c.lasting.ensures.lasting lasts whole))))
    (line_whole_of _ m c.args.turn.now _ first.now first.holds (sym c.in_default.is ∙ c.end_of.ensures)) laws.list
    (c.close_if.ensures.hub.moments lasts told fine first.now.machine first.stands.hub
    (subst (λ (l : List Transaction). Leaves Main (λ bytes. g.St.Store.stands bytes l) c.line-answer.new.self.hub.store.log) (sym (first.stands.hub.list fine)) (c.lasting-2.ensures.lasting lasts fine)))

pub returns-in-None-clause-any_moment : goal.returns-in-None-clause-any_moment
returns-in-None-clause-any_moment g c = λ lasts told whole m stands.
    let first = c.line-answer.ensures.line told m stands in
    let laws = line_whole _ m first.now _ _ _ (line_whole_of _ m c.args.turn.now _ first.now first.holds (sym c.in_default.is ∙ c.end_of.ensures)) in
    let fine : c.line-answer.new.self.hub.store.broken ≡ false = sym first.stands.hub.failed ∙ laws.whole (sym (sym c.in_default.is ∙ c.end_of.ensures)) (stands.hub.failed ∙ whole) in
    turn_moments g.St.Store.stands (rules_of g.R.Resolver.rules g.F.Refs.named c.args.self.now.hub) m first.now c.args.turn.now c.line-answer.result _ _ _
    (line_moments g.St.Store.stands (rules_of g.R.Resolver.rules g.F.Refs.named c.args.self.now.hub) m c.args.turn.now c.args.self.now _ _ _ stands
    (c.line-answer.ensures.hub.moments lasts (told, (m, stands)) whole m.machine stands.hub
    (subst (λ (l : List Transaction). Leaves Main (λ bytes. g.St.Store.stands bytes l) c.args.self.now.hub.store.log) (sym (stands.hub.list whole)) (c.lasting.ensures.lasting lasts whole))))
    (line_whole_of _ m c.args.turn.now _ first.now first.holds (sym c.in_default.is ∙ c.end_of.ensures)) laws.list
    (c.close_if.ensures.hub.moments lasts told fine first.now.machine first.stands.hub
    (subst (λ (l : List Transaction). Leaves Main (λ bytes. g.St.Store.stands bytes l) c.line-answer.new.self.hub.store.log) (sym (first.stands.hub.list fine)) (c.lasting-2.ensures.lasting lasts fine)))

pub returns-in-None-clause-turn : goal.returns-in-None-clause-turn
returns-in-None-clause-turn g c = λ told m stands.
    turn_done _ _ m c.args.turn.now c.args.is_last c.line-answer.result c.line-answer.new.self _ _ _ c.requires.fitting (c.line-answer.ensures.line told m stands) (sym c.in_default.is ∙ c.end_of.ensures)
    (rules_same g.R.Resolver.rules g.F.Refs.named c.args.self.now.hub c.line-answer.new.self.hub c.line-answer.ensures.hub.resolver c.line-answer.ensures.hub.refs)
    (λ b stands'. c.in-None.ensures.closing told b stands')
