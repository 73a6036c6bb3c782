use Rattle.std.proofs.Common.{◌≡◌, List, Some, None, map, sym, ap, subst, ◌∙◌}
use Rattle.std.proofs.lemmas.Result.{err_from_is_err_and}
use Rattle.zb_model.specs.declared.data.Transaction.{Transaction}
use Rattle.zb_model.specs.declared.pending.PendingCheck.{PendingCheck}
use Rattle.zb_model.specs.declared.pending.PendingStore.{PendingStore}
use Rattle.zb_model.specs.Rules.{MergeRules}
use Rattle.zb_model.specs.Stores.{StoreState}
use Rattle.commit_phases.specs.Decision.{changes_of_stores, failed_check, vote_decision}
use Rattle.commit_phases.specs.Pending.{AreStores}
use Rattle.commit_phases.specs.ReadyLaws.{change_as_is, checks_hold, goes_in_as_is, stores_as_are}
use Rattle.commit_phases.specs.Voted.{IsFailure}
use Rattle.commit_phases.proofs.Completing.{fails_alone, holds_alone, not_refused}
use Rattle.commit_phases.proofs.Settling.{decision_is, few_records}
use Rattle.commit_phases.proofs.deciding.decide.Goals as goal

pub returns-in-Some-clause-read : goal.returns-in-Some-clause-read
returns-in-Some-clause-read g c = record {
  same = c.in_ok-changes.ensures.read.same;
  counted = c.in_ok-changes.ensures.read.counted;
  cause = c.in-Some.ensures.cause _ _ c.in_ok-changes.ensures.read.answered;
  answered = tt;
}

pub excess-requires : goal.excess-requires
excess-requires g c =
    let stores_are : AreStores c.in_ok-stores.stores = subst (λ (ps : List PendingStore). AreStores ps) (sym c.in_ok-stores.ensures.stores) c.in_ok-stores.ensures.are in
    record { few = few_records c.in_ok-changes.changes c.as_slice-in-None.result.now c.in_ok-stores.stores stores_are c.as_slice-in-None.ensures c.in_ok-changes.ensures.few }

pub returns-in-Some-excess-clause-decided : goal.returns-in-Some-excess-clause-decided
returns-in-Some-excess-clause-decided g c = λ told.
    decision_is (g.R.Resolver.rules c.args.resolver.now) (g.St.Store.state c.args.store.now).list (g.St.Store.state c.changes_of.new.store).list c.args.pending c.in_ok-stores.stores c.in_ok-stores.checks c.as_slice.result.now c.in_ok-changes.changes c.as_slice-in-None.result.now (Some c.in-Some-excess.length)
    c.in_ok-stores.ensures.stores c.in_ok-stores.ensures.checks c.as_slice.ensures (ap (λ (s : StoreState). s.list) c.in_ok-changes.ensures.read.same) c.as_slice-in-None.ensures
    (c.in_ok-changes.ensures.decided told) (c.in-None.ensures.none told) c.in_ok-changes.ensures.filled c.in-Some-excess.ensures

pub returns-clause-decided : goal.returns-clause-decided
returns-clause-decided g c = λ told.
    decision_is (g.R.Resolver.rules c.args.resolver.now) (g.St.Store.state c.args.store.now).list (g.St.Store.state c.changes_of.new.store).list c.args.pending c.in_ok-stores.stores c.in_ok-stores.checks c.as_slice.result.now c.in_ok-changes.changes c.as_slice-in-None.result.now None
    c.in_ok-stores.ensures.stores c.in_ok-stores.ensures.checks c.as_slice.ensures (ap (λ (s : StoreState). s.list) c.in_ok-changes.ensures.read.same) c.as_slice-in-None.ensures
    (c.in_ok-changes.ensures.decided told) (c.in-None.ensures.none told) c.in_ok-changes.ensures.filled c.in-None-excess.ensures

-- what may all go in is refused for a failure alone
pub returns-in_err-changes-clause-complete : goal.returns-in_err-changes-clause-complete
returns-in_err-changes-clause-complete g c = λ told may.
    let rules : MergeRules = g.R.Resolver.rules c.args.resolver.now in
    let list : List Transaction = (g.St.Store.state c.args.store.now).list in
    let failed : IsFailure c.in_err-changes.field-0.0 =
    fails_alone (changes_of_stores rules list c.in_ok-stores.stores) (map change_as_is c.args.pending.stores) c.in_err-changes.field-0.0
    (ap (λ (ps : List PendingStore). changes_of_stores rules list ps) c.in_ok-stores.ensures.stores ∙ stores_as_are rules list c.args.pending.stores may.current may.there)
    (c.in_err-changes.ensures.decided told) in
    let p = err_from_is_err_and c.from_residual-in_err-changes.result c.from_residual-in_err-changes.ensures.1 in
    rw (p.1, p.2) failed

pub returns-in-Some-clause-complete : goal.returns-in-Some-clause-complete
returns-in-Some-clause-complete g c = λ told may.
    let list : List Transaction = (g.St.Store.state c.args.store.now).list in
    let seen : List Transaction = (g.St.Store.state c.changes_of.new.store).list in
    let same : seen ≡ list = ap (λ (s : StoreState). s.list) c.in_ok-changes.ensures.read.same in
    holds_alone (failed_check seen c.as_slice.result.now) _
    (ap (λ (l : List Transaction). failed_check l c.as_slice.result.now) same ∙ ap (λ (ks : List PendingCheck). failed_check list ks) (c.as_slice.ensures ∙ c.in_ok-stores.ensures.checks) ∙ checks_hold list c.args.pending.checks may.checked)
    (c.in-Some.ensures.some told)

pub returns-in-Some-excess-clause-complete : goal.returns-in-Some-excess-clause-complete
returns-in-Some-excess-clause-complete g c = λ told may.
    let rules : MergeRules = g.R.Resolver.rules c.args.resolver.now in
    let list : List Transaction = (g.St.Store.state c.args.store.now).list in
    not_refused (vote_decision rules list c.args.pending) (map change_as_is c.args.pending.stores) _ (goes_in_as_is rules list c.args.pending c.in_ok-stores.ensures.are may) (returns-in-Some-excess-clause-decided g c told)
