-- What the sessions of a hub say of its store.
use Rattle.std.proofs.Common.{◌≡◌, ℕ, zero, suc, Bool, true, false, List, [], ◌∷◌, subst, sym, ◌∙◌, ap, refl}
use Rattle.zodb_core.specs.HubState.{HubState, StandsForMachine, is_store_failed, sessions_with}
use Rattle.zodb_core.specs.Machine.{Machine, MachineSession, is_open_in}
use Rattle.zodb_core.specs.Outcomes.{FaultCounts, StepOutcome, StoreFailed}
use Rattle.client_turns.specs.Clients.{Moment}

closed_open : (sessions : List MachineSession) (n : ℕ) → is_open_in (sessions_with true sessions) n ≡ true → ⊥
closed_open sessions n is = none (by_place sessions n) is
  where
    none : is_open_in (sessions_with true sessions) n ≡ false → is_open_in (sessions_with true sessions) n ≡ true → ⊥
    none f t = false_true (sym f ∙ t)
      where
        false_true : false ≡ true → ⊥
        false_true e = absurd cc

    by_place : (xs : List MachineSession) (k : ℕ) → is_open_in (sessions_with true xs) k ≡ false
    by_place [] k = refl
    by_place (x ∷ xs) zero = refl
    by_place (x ∷ xs) (suc k) = by_place xs k

-- where a session is open the store hasn't failed
pub open_whole : {R F : Type 0} (hub : HubState R F) (m : Machine) (n : ℕ) → StandsForMachine hub m → is_open_in m.sessions n ≡ true → hub.store.broken ≡ false
open_whole hub m n stands is = by_broken hub.store.broken (subst (λ (s : List MachineSession). is_open_in s n ≡ true) stands.sessions is)
  where
    by_broken : (b : Bool) → is_open_in (sessions_with b hub.sessions) n ≡ true → b ≡ false
    by_broken false is = refl
    by_broken true is = absurd (closed_open hub.sessions n is)

-- the same, as the hub itself sees its sessions
pub seen_whole : (broken : Bool) (sessions : List MachineSession) (n : ℕ) → true ≡ is_open_in (sessions_with broken sessions) n → broken ≡ false
seen_whole false sessions n is = refl
seen_whole true sessions n is = absurd (closed_open sessions n (sym is))

pub not_failed : (o : StepOutcome) → (o ≡ StoreFailed → ⊥) → is_store_failed o ≡ false
not_failed StoreFailed fine = absurd (fine refl)
not_failed _ fine = refl

pub whole_step : (before now : Bool) (o : StepOutcome) → (before ≡ false → now ≡ is_store_failed o) → ¬ (o ≡ StoreFailed) → before ≡ false → now ≡ false
whole_step before now o broken fine whole = broken whole ∙ not_failed o fine

-- a moment in which only the counts may differ, and don't
pub counts_same : (m now : Moment) → now.counts ≡ m.counts → now ≡ record m { counts = now.counts } → now ≡ m
counts_same m now counts rest = rest ∙ ap (λ (k : FaultCounts). let x : Moment = record { machine = m.machine; clients = m.clients; stamps = m.stamps; counts = k } in x) counts
