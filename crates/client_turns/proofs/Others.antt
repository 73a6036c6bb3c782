-- Steps of one session keep the clients of all others.
use Rattle.std.proofs.Common.{◌≡◌, ℕ, zero, suc, ◌<◌, ◌^◌, Bool, true, false, List, [], ◌∷◌, map, Option, refl, sym, subst, ◌∙◌}
use Rattle.std.specs.Prelude.{◌≢◌}
use Rattle.std.proofs.lemmas.Bool.{true≢false}
use Rattle.zb_ids.specs.declared.stamp.Stamp.{Stamp}
use Rattle.zb_model.specs.declared.data.Transaction.{Transaction}
use Rattle.zb_model.specs.Rules.{MergeRules}
use Rattle.zodb_core.specs.declared.reply.Reply.{Reply}
use Rattle.zodb_core.specs.declared.request.Request.{Request}
use Rattle.zodb_core.specs.HubState.{HubState, counts_of, rules_of}
use Rattle.zodb_core.specs.Machine.{Machine, MachineSession, Rules, is_open_in}
use Rattle.zodb_core.specs.Outcomes.{Answered, FaultCounts, IsStepMade, NoMemory, ReadingFailed, StepOutcome, StoreFailed, closed_session, machine_left, outcome_of}
use Rattle.zodb_core.specs.Sound.{IsSoundMachine, IsWellFormedRequest}
use Rattle.zodb_core.specs.SoundLaws.{left_sound}
use Rattle.zodb_core.specs.StepCases.{by_unanswered}
use Rattle.zodb_core.specs.Steps.{Stepped}
use Rattle.connection_view.specs.Views.{Client, View}
use Rattle.hub_carrier.specs.EndLaws.{known_at, stands_at}
use Rattle.hub_carrier.specs.Ends.{machine_at}
use Rattle.local_loads.specs.LocalLaws.{kept_behind}
use Rattle.local_loads.specs.Making.{IsHubStep}
use Rattle.remote_loads.specs.KnownLaws.{known_may}
use Rattle.zeo_cache.specs.Intervals.{Intervals}
use Rattle.zeo_serving.specs.declared.standing.Standing.{Standing}
use Rattle.zeo_serving.specs.MayLaws.{step_failed}
use Rattle.zeo_serving.specs.Serving.{IsServed, MayBeServed}
use Rattle.zeo_serving.specs.ServingLaws.{others_keep}
use Rattle.client_turns.specs.Others.{KeepsOthers}

-- ---- a step of a machine that is whole

closed_shut : (xs : List MachineSession) (n : ℕ) → is_open_in (map closed_session xs) n ≡ false
closed_shut [] n = refl
closed_shut (x ∷ xs) zero = refl
closed_shut (x ∷ xs) (suc n) = closed_shut xs n

-- a step that fails it closes all sessions
failed_shut : (rules : Rules) (m : Machine) (n k : ℕ) (q : Request) (stamp : ℕ) (o : StepOutcome) → m.failed ≡ false → (machine_left rules m n q stamp o).failed ≡ true → is_open_in (machine_left rules m n q stamp o).sessions k ≡ false
failed_shut rules m n k q stamp Answered whole broke = absurd (true≢false (sym broke ∙ step_failed rules m n q stamp ∙ whole))
failed_shut rules m n k q stamp ReadingFailed whole broke = absurd (true≢false (sym broke ∙ by_unanswered (λ x. x.failed ≡ m.failed) q m refl refl ∙ whole))
failed_shut rules m n k q stamp NoMemory whole broke = absurd (true≢false (sym broke ∙ by_unanswered (λ x. x.failed ≡ m.failed) q m refl refl ∙ whole))
failed_shut rules m n k q stamp StoreFailed whole broke = closed_shut m.sessions k

-- it keeps whom it serves in any session, if each sound machine that it leads from does
pub step_serves : (rules : Rules) (m : Machine) (n k : ℕ) (q : Request) (stamp : ℕ) (made : Stepped) (counts behind : FaultCounts) (z y : Standing) (entries : Intervals) (c d : Client) → m.failed ≡ false → IsWellFormedRequest q
    → IsStepMade rules m n q stamp made counts behind → (d.known ≡ c.known) → (IsSoundMachine m → IsServed m k z entries c → IsServed (machine_left rules m n q stamp (outcome_of made.reply)) k y entries d)
    → MayBeServed m k z entries c → MayBeServed made.machine k y entries d
step_serves rules m n k q stamp made counts behind z y entries c d whole formed step same keeps may =
    let at : may.at ≡ m = may.whole whole in
    let sound : IsSoundMachine m = subst (λ (x : Machine). IsSoundMachine x) at may.sound in
    let served : IsServed m k z entries c = subst (λ (x : Machine). IsServed x k z entries c) at may.served in
    record {
      at = machine_left rules m n q stamp (outcome_of made.reply);
      sound = left_sound rules m n q stamp (outcome_of made.reply) sound formed;
      served = keeps sound served;
      whole = λ is. sym step.left;
      shut = λ broke.
          subst (λ (x : Machine). is_open_in x.sessions k ≡ false) (sym step.left)
          (failed_shut rules m n k q stamp (outcome_of made.reply) whole (subst (λ (x : Machine). x.failed ≡ true) step.left broke));
      front = subst (λ (v : View). v.front < 2 ^ 64) (sym same) may.front;
      switches = subst (λ (v : View). v.switches < 2 ^ 64) (sym same) may.switches;
    }

-- ---- a step of a hub

module _ {R F : Type 0} (told lasts : Type 0) (stands : List ℕ → List Transaction → Type 0) (rules_in : R → MergeRules) (named_in : F → List ℕ → Option (List ℕ)) (tells : told) (n : ℕ) (q : Request) (r : Reply) (old new : HubState R F) (before after : Option (List Stamp)) (step : IsHubStep told lasts stands rules_in named_in n q r old new before after) (formed : IsWellFormedRequest q) where
  -- who may be served by its machine may be behind it, if each sound machine that the step leads from keeps whom it serves
  pub hub_serves : (k : ℕ) (z y : Standing) (entries : Intervals) (c d : Client) → d.known ≡ c.known
      → ((rules : Rules) (m : Machine) (stamp : ℕ) → IsSoundMachine m → IsServed m k z entries c → IsServed (machine_left rules m n q stamp (outcome_of r)) k y entries d)
      → (old.store.broken ≡ true → MayBeServed (machine_at old) k z entries c → MayBeServed (machine_at old) k y entries d)
      → MayBeServed (machine_at old) k z entries c → MayBeServed (machine_at new) k y entries d
  hub_serves k z y entries c d same keeps failed may = by_old old.store.broken refl
    where
      by_old : (b : Bool) → old.store.broken ≡ b → MayBeServed (machine_at new) k y entries d
      by_old true broke = subst (λ (h : HubState R F). MayBeServed (machine_at h) k y entries d) (sym (step.failed broke).1) (failed broke may)
      by_old false whole =
          let made = step.step tells (machine_at old) (stands_at old) in
          let given : Stepped = record { reply = r; machine = made.left; ticks = made.ticks } in
          known_may made.left (machine_at new) k y entries d (known_at new made.left made.stands)
          (step_serves (rules_of rules_in named_in old) (machine_at old) n k q made.stamp given (counts_of old.store) (counts_of new.store) z y entries c d whole formed made.made same
          (keeps (rules_of rules_in named_in old) (machine_at old) made.stamp) may)

  -- it keeps the clients of all other sessions
  pub others_step : KeepsOthers n old new
  others_step = record {
    count = step.safe.sessions;
    near = λ last v known may. kept_behind told lasts stands rules_in named_in n q r old new before after tells step last v known may;
    far = λ k apart d x c there. record {
      served = hub_serves k x.held.standing x.held.standing x.held.cache.entries c c refl
          (λ rules m stamp sound served. others_keep rules m k n q stamp (outcome_of r) sound (λ same. apart (sym same)) x.held.standing x.held.cache.entries c served)
          (λ broke may. may) there.served;
      rest = there.rest;
    };
  }

-- ---- steps behind steps

pub others_same : {R F : Type 0} (n : ℕ) (old : HubState R F) → KeepsOthers n old old
others_same n old = record { count = refl; near = λ last told known may. may; far = λ k apart d x told there. there }

pub others_behind : {R F : Type 0} (n : ℕ) (old mid new : HubState R F) → KeepsOthers n old mid → KeepsOthers n mid new → KeepsOthers n old new
others_behind n old mid new one two = record {
  count = two.count ∙ one.count;
  near = λ last told known may. two.near last told known (one.near last told known may);
  far = λ k apart d x told there. two.far k apart d x told (one.far k apart d x told there);
}
