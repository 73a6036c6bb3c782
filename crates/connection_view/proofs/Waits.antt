-- What waits in an open transaction.
use Rattle.std.proofs.Common.{◌≡◌, ℕ, Bool, true, false, List, Result, Ok, Err, refl, sym, ap, subst, ◌∙◌, ⊎_elim, inl, inr}
use Rattle.std.specs.Prelude.{IsOk, OnErr, OnOk}
use Rattle.std.proofs.lemmas.Bool.{cases_Bool}
use Rattle.zb_model.specs.declared.refusal.Refusal.{Refusal}
use Rattle.zb_model.specs.declared.refusal.Refusal.TheVariants as refusal
use Rattle.zb_model.specs.declared.pending.PendingCheck.{PendingCheck}
use Rattle.zb_model.specs.declared.pending.PendingStore.{PendingStore}
use Rattle.commit_phases.specs.declared.errors.PendingError.{PendingError}
use Rattle.commit_phases.specs.declared.errors.PendingError.TheVariants as pending_error
use Rattle.commit_phases.specs.Pending.{PendingChanges, excess_with, with_pending, IsOkUnlessTooLong}
use Rattle.savepoints.specs.Saved.{Waits}
use Rattle.connection_view.specs.Works.{Work}
use Rattle.connection_view.specs.Connections.{LeavesWork, followed_by, base_read, changeable, store_told, stored_in_work, unvoted_work, with_stores}

-- what may be changed is open
pub open_of_changeable : (work : Result Work Refusal) (w : Work) → changeable work ≡ Ok w → work ≡ Ok w
open_of_changeable (Ok x) w h =
    ⊎_elim (λ (t : x.is_voted ≡ true). let bad : ◌≡◌ {A = Result Work Refusal} (Err refusal.Voted) (Ok w) = rw t at h in cc) (λ (t : x.is_voted ≡ false). let e : changeable (Ok x) ≡ Ok x = rw t refl in sym e ∙ h) (cases_Bool x.is_voted)
open_of_changeable (Err r) w h = cc

-- a read that is refused refuses the put
pub unread_leaves : (read : Result (ℕ × List ℕ) Refusal) (next : ℕ → Result Work Refusal) (old new : Result Work Refusal) (base : Result ℕ Refusal) (r : Refusal) → base ≡ base_read read → base ≡ Err r → new ≡ old
    → LeavesWork {T = Unit {0}} (followed_by (base_read read) next) old new (Err r)
unread_leaves read next old new base r e h same = (inl (let k : base_read read ≡ Err r = sym e ∙ h in rw k refl), same)

-- ---- what a store leaves

abbrev work_as : ℕ → ℕ → Bool → List PendingStore → List PendingCheck → List PendingChanges → Work
work_as front switches is_voted stores checks savepoints = record { front = front; switches = switches; pending = record { stores = stores; checks = checks }; savepoints = savepoints; is_voted = is_voted }

-- a store waits, or doesn't, in a transaction that isn't voted
stored_in : (front switches : ℕ) (old new : Waits) (p : PendingStore) (answer : Result (Unit {0}) PendingError) → IsOkUnlessTooLong (excess_with old.pending.stores p) answer → OnOk answer (new.pending.stores ≡ with_pending old.pending.stores p) → OnErr answer (new ≡ old)
    → new.pending.checks ≡ old.pending.checks → new.savepoints ≡ old.savepoints
    → LeavesWork {T = Unit {0}} (stored_in_work p (work_as front switches false old.pending.stores old.pending.checks old.savepoints))
    (Ok (work_as front switches false old.pending.stores old.pending.checks old.savepoints)) (Ok (work_as front switches false new.pending.stores new.pending.checks new.savepoints)) (store_told answer)
stored_in front switches old new p (Ok done) none ok err checks savepoints =
    let w : Work = work_as front switches false old.pending.stores old.pending.checks old.savepoints in
    let next : stored_in_work p w ≡ Ok (with_stores w (with_pending old.pending.stores p)) = rw none refl in
    let one : work_as front switches false new.pending.stores new.pending.checks new.savepoints ≡ with_stores w (with_pending old.pending.stores p) =
    ap (λ (ps : List PendingStore). work_as front switches false ps new.pending.checks new.savepoints) ok
    ∙ ap (λ (cs : List PendingCheck). work_as front switches false (with_pending old.pending.stores p) cs new.savepoints) checks
    ∙ ap (λ (ss : List PendingChanges). work_as front switches false (with_pending old.pending.stores p) old.pending.checks ss) savepoints in
    let done_is : ◌≡◌ {A = Result Work Refusal} (Ok (work_as front switches false new.pending.stores new.pending.checks new.savepoints)) (stored_in_work p w) = ap (λ (x : Work). Ok x) one ∙ sym next in
    (done_is, let ok_is : IsOk (stored_in_work p w) = rw next refl in ok_is)
stored_in front switches old new p (Err (pending_error.TooLong n)) some ok err checks savepoints =
    let w : Work = work_as front switches false old.pending.stores old.pending.checks old.savepoints in
    let next : stored_in_work p w ≡ Err (refusal.TooLong n) = rw some refl in
    (inl next, ap (λ (x : Waits). Ok (work_as front switches false x.pending.stores x.pending.checks x.savepoints)) err)
stored_in front switches old new p (Err pending_error.Memory) free ok err checks savepoints = (inr refl, ap (λ (x : Waits). Ok (work_as front switches false x.pending.stores x.pending.checks x.savepoints)) err)

-- the same of the transaction as it is seen
pub stored_leaves : (front switches : ℕ) (is_voted : Bool) (old new : Waits) (p : PendingStore) (answer : Result (Unit {0}) PendingError) (w : Work) (result : Result (Unit {0}) Refusal)
    → work_as front switches is_voted old.pending.stores old.pending.checks old.savepoints ≡ w → is_voted ≡ false → IsOkUnlessTooLong (excess_with old.pending.stores p) answer → OnOk answer (new.pending.stores ≡ with_pending old.pending.stores p) → OnErr answer (new ≡ old)
    → new.pending.checks ≡ old.pending.checks → new.savepoints ≡ old.savepoints → result ≡ store_told answer
    → LeavesWork {T = Unit {0}} (followed_by (unvoted_work w) (stored_in_work p)) (Ok w) (Ok (work_as front switches is_voted new.pending.stores new.pending.checks new.savepoints)) result
stored_leaves front switches true old new p answer w result is unvoted one ok err checks savepoints told = absurd cc
stored_leaves front switches false old new p answer w result is unvoted one ok err checks savepoints told =
    subst (λ (v : Work). LeavesWork {T = Unit {0}} (followed_by (unvoted_work v) (stored_in_work p)) (Ok v) (Ok (work_as front switches false new.pending.stores new.pending.checks new.savepoints)) result) is
    (subst (λ (r : Result (Unit {0}) Refusal). LeavesWork {T = Unit {0}} (stored_in_work p (work_as front switches false old.pending.stores old.pending.checks old.savepoints))
    (Ok (work_as front switches false old.pending.stores old.pending.checks old.savepoints)) (Ok (work_as front switches false new.pending.stores new.pending.checks new.savepoints)) r) (sym told)
    (stored_in front switches old new p answer one ok err checks savepoints))
