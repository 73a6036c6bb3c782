-- A line of a tree, whatever is open.
use Rattle.std.proofs.Common.{◌∙◌, List, ap, inl, inr, refl, sym}
use Rattle.std.specs.Prelude.{slice_get}
use Rattle.zodb_core.specs.HubState.{rules_of}
use Rattle.zodb_core.specs.Outcomes.{Answered, NoMemory}
use Rattle.client_turns.specs.declared.member.Member.{Member}
use Rattle.client_turns.specs.Lines.{outcome_of_answer}
use Rattle.client_turns.specs.Standing.{MayAskFor, MayReadFor}
use Rattle.client_turns.proofs.Calling.{closed_line, may_read, open_line, tree_starved}
use Rattle.client_turns.proofs.Handing.{keeps_told}
use Rattle.client_turns.proofs.Telling.{still_linked}
use Rattle.client_turns.proofs.clients.Clients.tree_line.Goals as goal

pub returns-then-is_lost_at-clause-line : goal.returns-then-is_lost_at-clause-line
returns-then-is_lost_at-clause-line g c = λ told m stands asks. tree_starved (rules_of g.R.Resolver.rules g.F.Refs.named c.args.self.now.hub) m c.args.at c.args.root c.args.call.now c.args.self.now _ stands asks

pub returns-then-is_lost_at-clause-hub : goal.returns-then-is_lost_at-clause-hub
returns-then-is_lost_at-clause-hub g c = (still_linked (g.St.Store.told × MayAskFor c.args.self.now (g.C.Clock.stamps c.args.clock.now) c.args.at) g.St.Store.lasts g.St.Store.stands NoMemory (inr refl) c.args.self.now.hub).keeps

pub returns-then-not-is_in_transaction-clause-line : goal.returns-then-not-is_in_transaction-clause-line
returns-then-not-is_in_transaction-clause-line g c = λ told m stands asks.
    closed_line m c.args.at c.args.self.now _ stands asks c.connection_at.result.now
    (λ x there. sym (c.is_lost_at.ensures.lost x (ap (λ (xs : List Member). slice_get xs c.args.at) (c.as_slice.ensures.value ∙ ap (λ s. s.clients) c.self.view_is) ∙ there)) ∙ c.if-is_lost_at.false)
    (λ x there. c.connection_at.ensures.connection x (ap (λ (xs : List Member). slice_get xs c.args.at) (c.as_slice-2.ensures.value ∙ ap (λ s. s.clients) c.self.view_is) ∙ there))
    (rules_of g.R.Resolver.rules g.F.Refs.named c.args.self.now.hub) c.args.root c.args.call.now (c.is_in_transaction.ensures.no c.if-not-is_in_transaction.true)

pub returns-then-not-is_in_transaction-clause-hub : goal.returns-then-not-is_in_transaction-clause-hub
returns-then-not-is_in_transaction-clause-hub g c = (still_linked (g.St.Store.told × MayAskFor c.args.self.now (g.C.Clock.stamps c.args.clock.now) c.args.at) g.St.Store.lasts g.St.Store.stands Answered (inl refl) c.args.self.now.hub).keeps

pub returns-clause-line : goal.returns-clause-line
returns-clause-line g c = λ told m stands asks.
    let may = may_read m c.args.at c.args.self.now _ stands asks c.connection_at.result.now
    (λ x there. sym (c.is_lost_at.ensures.lost x (ap (λ (xs : List Member). slice_get xs c.args.at) (c.as_slice.ensures.value ∙ ap (λ s. s.clients) c.self.view_is) ∙ there)) ∙ c.if-is_lost_at.false)
    (λ x there. c.connection_at.ensures.connection x (ap (λ (xs : List Member). slice_get xs c.args.at) (c.as_slice-2.ensures.value ∙ ap (λ s. s.clients) c.self.view_is) ∙ there))
    (c.is_in_transaction.ensures.yes c.if-not-is_in_transaction.false) in
    open_line (rules_of g.R.Resolver.rules g.F.Refs.named c.args.self.now.hub) m c.args.at c.args.root c.args.call.now c.tree.result c.tree.new.self _ may (c.tree.ensures.line told m stands may)

pub returns-clause-hub : goal.returns-clause-hub
returns-clause-hub g c =
    keeps_told (g.St.Store.told × MayReadFor c.args.self.now (g.C.Clock.stamps c.args.clock.now) c.args.at)
    (g.St.Store.told × MayAskFor c.args.self.now (g.C.Clock.stamps c.args.clock.now) c.args.at) g.St.Store.lasts g.St.Store.stands _ _ (outcome_of_answer c.tree.result) c.args.self.now.hub c.tree.new.self.hub
    (λ both. (
      both.0,
      (
        both.1.0,
        both.1.1,
        may_read both.1.0 c.args.at c.args.self.now _ both.1.1 both.1.2 c.connection_at.result.now
            (λ x there. sym (c.is_lost_at.ensures.lost x (ap (λ (xs : List Member). slice_get xs c.args.at) (c.as_slice.ensures.value ∙ ap (λ s. s.clients) c.self.view_is) ∙ there)) ∙ c.if-is_lost_at.false)
            (λ x there. c.connection_at.ensures.connection x (ap (λ (xs : List Member). slice_get xs c.args.at) (c.as_slice-2.ensures.value ∙ ap (λ s. s.clients) c.self.view_is) ∙ there))
            (c.is_in_transaction.ensures.yes c.if-not-is_in_transaction.false),
      ),
    ))
    c.tree.ensures.hub
