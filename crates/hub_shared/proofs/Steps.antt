-- A step under the lock leaves a legal history, and the hub stands for the machine behind it.
use Rattle.std.proofs.Common.{◌≡◌, ℕ, ◌+◌, ◌<◌, Bool, true, false, Option, Some, None, List, [], ◌∷◌, ◌++◌, length, refl, ap, sym, ◌∙◌, subst, arith, length-append}
use Rattle.zb_ids.specs.declared.stamp.Stamp.{Stamp}
use Rattle.zb_model.specs.declared.data.Transaction.{Transaction}
use Rattle.zb_model.specs.Rules.{MergeRules}
use Rattle.hub_clock.specs.declared.view.SeatView.{SeatView}
use Rattle.hub_clock.specs.Histories.{own_more}
use Rattle.zodb_core.specs.declared.reply.Reply.{Reply}
use Rattle.zodb_core.specs.declared.request.Request.{Request}
use Rattle.zodb_core.specs.Entries.{counts_more, legal_more, machine_more, openings_more, session_of, steps_are_entries}
use Rattle.zodb_core.specs.History.{Entry, IsEntryFor, IsNextEntry, Opened, entry_made}
use Rattle.zodb_core.specs.HubState.{HasTicked, HubState, MakesStepAt, StandsForMachine, StepsByClock, StepsSafely, counts_of, pack_with, rules_of, sessions_with, vote_of_hub}
use Rattle.std.specs.Option.{option_map}
use Rattle.zodb_core.specs.Machine.{Machine, MachineSession, Rules, machine_over, new_session, with_session}
use Rattle.zodb_core.specs.Outcomes.{FaultCounts}
use Rattle.zodb_core.specs.Stamps.{IsStampNumber}
use Rattle.hub_shared.specs.Seats.{LockKeeps, keeper, machine_of}

-- a clock that was read gave the number of a stamp
gave : (ticks : Bool) (stamp : ℕ) (before after : Option (List Stamp)) → HasTicked ticks stamp before after → ticks ≡ true → IsStampNumber stamp
gave false stamp before after read is = absurd cc
gave true stamp None after read is = read.0
gave true stamp (Some []) after read is = absurd read
gave true stamp (Some (s ∷ stamps)) after read is = (s, read.0)

-- what holds under the lock holds behind a step of a session that was opened
pub step_kept : {R F : Type 0} (told : Type 0) (merging : R → MergeRules) (named : F → List ℕ → Option (List ℕ)) (rules : Rules) (list : List Transaction) (counts : FaultCounts) (v : SeatView Entry)
    (old new : HubState R F) (packs : Bool) (s : ℕ) (q : Request) (r : Reply) (before after : Option (List Stamp))
    → LockKeeps told rules (rules_of merging named old) list counts v old → s < length old.sessions → StepsSafely packs r old new
    → (steps : StepsByClock told (rules_of merging named old) s q r old new before after)
    → LockKeeps told rules (rules_of merging named new) list counts (keeper (v.seen ++ entry_made s q steps.ticks steps.stamp r (counts_of new.store) ∷ [])) new
step_kept {R = R} {F = F} told merging named rules list counts v old new packs s q r before after keeps opened safe steps =
    let m = machine_of rules list v.seen in
    let e = entry_made s q steps.ticks steps.stamp r (counts_of new.store) in
    let makes : told → MakesStepAt steps.stamp steps.ticks rules m s q r old new =
    λ t. subst (λ (x : Rules). MakesStepAt steps.stamp steps.ticks x m s q r old new) keeps.rules_are (steps.step t m (keeps.stands t)) in
    let next : (t : told) → IsEntryFor rules m (makes t).left (counts_of old.store) e =
    λ t. steps_are_entries rules m (makes t).left s q steps.ticks steps.stamp r (counts_of old.store) (counts_of new.store) (makes t).made (gave steps.ticks steps.stamp before after steps.clock) in record {
      keeps = refl;
      rules_are = ap (λ (x : R). record { merging = merging x; named = named new.refs }) safe.resolver ∙ (ap (λ (x : F). record { merging = merging old.resolver; named = named x }) safe.refs ∙ keeps.rules_are);
      opened = openings_more v.seen e ∙ omega (arith, keeps.opened, safe.sessions);
      idle = λ n le. own_more session_of n v.seen e (λ is. omega (arith, is, le, opened, safe.sessions)) (keeps.idle n (omega (arith, le, safe.sessions)));
      counts_are = counts_more counts v.seen e;
      legal = λ t. legal_more rules (machine_over list) counts v.seen e (keeps.legal t)
          (subst (λ (c : FaultCounts). IsNextEntry rules m c e) (sym keeps.counts_are) (next t).next);
      stands = λ t. subst (λ (x : Machine). StandsForMachine new x) ((next t).leaves ∙ sym (machine_more rules (machine_over list) v.seen e)) (makes t).stands;
    }

-- ---- an opening

-- the machine that a hub stands for, whatever its store tells
abbrev machine_now : {R F : Type 0} → HubState R F → Machine
machine_now hub = record {
  list = hub.store.list;
  journal = hub.journal;
  greatest = hub.greatest;
  sessions = sessions_with hub.store.broken hub.sessions;
  vote = option_map (vote_of_hub hub.store.voted) hub.vote;
  pack = pack_with hub.store (length hub.journal) hub.pack;
  failed = hub.store.broken;
}

stands_now : {R F : Type 0} (hub : HubState R F) → StandsForMachine hub (machine_now hub)
stands_now hub = record { journal = refl; greatest = refl; sessions = refl; pack = refl; failed = refl; list = λ whole. refl; vote = λ whole. refl }

many_with : (b : Bool) (sessions : List MachineSession) → length (sessions_with b sessions) ≡ length sessions
many_with false sessions = refl
many_with true [] = refl
many_with true (x ∷ sessions) = let again = many_with true sessions in omega arith

one_more : {R F : Type 0} (old new : HubState R F) → ((m : Machine) → StandsForMachine old m → StandsForMachine new (with_session m)) → length new.sessions ≡ length old.sessions + 1
one_more old new stands =
    let now = stands (machine_now old) (stands_now old) in
    omega (
      arith,
      many_with new.store.broken new.sessions,
      many_with old.store.broken old.sessions,
      ap length now.sessions,
      length-append (sessions_with old.store.broken old.sessions) (new_session (machine_now old) ∷ []),
    )

-- what holds under the lock holds behind an opening
pub opening_kept : {R F : Type 0} (told : Type 0) (merging : R → MergeRules) (named : F → List ℕ → Option (List ℕ)) (rules : Rules) (list : List Transaction) (counts : FaultCounts) (v : SeatView Entry)
    (old new : HubState R F) (s : ℕ)
    → LockKeeps told rules (rules_of merging named old) list counts v old → s ≡ length old.sessions → length old.sessions < 64
    → ((m : Machine) → StandsForMachine old m → StandsForMachine new (with_session m)) → new.store ≡ old.store → new.resolver ≡ old.resolver → new.refs ≡ old.refs
    → LockKeeps told rules (rules_of merging named new) list counts (keeper (v.seen ++ Opened s ∷ [])) new
opening_kept {R = R} {F = F} told merging named rules list counts v old new s keeps number room stands store resolver refs =
    let e : Entry = Opened s in
    let more = one_more old new stands in
    let many : told → length (machine_of rules list v.seen).sessions ≡ length old.sessions =
    λ t. ap length (keeps.stands t).sessions ∙ many_with old.store.broken old.sessions in record {
      keeps = refl;
      rules_are = ap (λ (x : R). record { merging = merging x; named = named new.refs }) resolver ∙ (ap (λ (x : F). record { merging = merging old.resolver; named = named x }) refs ∙ keeps.rules_are);
      opened = openings_more v.seen e ∙ omega (arith, keeps.opened, more);
      idle = λ n le. own_more session_of n v.seen e (λ is. omega (arith, is, le, number, more)) (keeps.idle n (omega (arith, le, more)));
      counts_are = counts_more counts v.seen e ∙ (keeps.counts_are ∙ ap counts_of (sym store));
      legal = λ t. legal_more rules (machine_over list) counts v.seen e (keeps.legal t) (record { number = number ∙ sym (many t); room = omega (arith, number, room) });
      stands = λ t. subst (λ (x : Machine). StandsForMachine new x) (sym (machine_more rules (machine_over list) v.seen e)) (stands (machine_of rules list v.seen) (keeps.stands t));
    }
