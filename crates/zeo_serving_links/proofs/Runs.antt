-- What comes of a feeder whose workers were run.
use Rattle.std.proofs.Common.{◌≡◌, ◌≢◌, ℕ, zero, suc, ◌+◌, ◌≤◌, ◌<◌, Bool, true, false, List, [], ◌∷◌, ◌++◌, Option, Some, None, Result, Ok, Err, length, map, refl, ap, sym, ◌∙◌, subst, arith, append_assoc, append-nil, length-append, inl, inr}
use Rattle.std.specs.Prelude.{◌^◌, IfSome, OnErr, OnOk, filter_map, is_err, is_ok}
use Rattle.std.specs.Option.{option_map}
use mathlib.Core.List.{IsPrefix}
use Rattle.hub_shared.specs.Calls.{history_limit}
use Rattle.hub_shared.specs.Lasted.{nothing_lasted}
use Rattle.hub_shared.specs.Seats.{HasLasted, machine_of}
use Rattle.zb_base.specs.Counts.{HasCause, Rose, rose_after}
use Rattle.zb_links.specs.Told.{Told, bound_with}
use Rattle.zb_model.specs.declared.data.Transaction.{Transaction}
use Rattle.zb_volume.specs.declared.areas.Area.TheVariants.{Main}
use Rattle.zb_volume.specs.Calls.{Event}
use Rattle.zb_volume.specs.Moments.{Leaves}
use Rattle.zeo_serving_links.specs.declared.ending.Served.{Served}
use Rattle.zeo_serving_links.specs.declared.ending.ServingEnd.{ServingEnd}
use Rattle.zeo_serving_links.specs.declared.ending.ServingEnd.TheVariants.{All, NoLink, NoWorkers, StepsSpent, Memory}
use Rattle.zeo_serving_links.specs.Feeding.{FeederSeen, GoesOn, HasSessions, IsStop, end_of, feeder_seen}
use Rattle.zeo_serving_links.specs.FeedingLaws.{begins_length, given_none, opened_first, served_on}
use Rattle.zeo_serving_links.specs.Links.{AreOpened, AreServed, HasGiven, Opening, faulty_in, faulty_one}
use Rattle.zeo_serving_links.specs.Serving.{HasServedLinks, IsBoundAs, IsEndFor, OutsideSeen, ServesIn, ServesLinks, outside_seen}
use Rattle.zeo_session.specs.declared.ending.SessionEnd.{SessionEnd}
use Rattle.zeo_session.specs.declared.ending.SessionEnd.TheVariants as session_end
use Rattle.zodb_core.specs.History.{Entry, IsLegalOver, counts_after}
use Rattle.zodb_core.specs.HubState.{HubState, StandsForMachine, counts_of}
use Rattle.zodb_core.specs.Machine.{Rules, machine_over}
use Rattle.zodb_core.specs.Outcomes.{FaultCounts}

from_none : (a b : ℕ) → a ≡ 0 + b → a ≡ b
from_none a b is = omega (arith, is)

at_most_one : (e : SessionEnd) → faulty_one e ≤ 1
at_most_one session_end.Ended = omega arith
at_most_one session_end.LinkFault = omega arith
at_most_one session_end.BadMessage = omega arith
at_most_one session_end.FrameTooLong = omega arith
at_most_one session_end.Memory = omega arith

module _ (told : Type 0) (rules : Rules) (list : List Transaction) (counts : FaultCounts) where
  few_faulty : (all : List Entry) (os : List Opening) (ends : List SessionEnd) → AreServed told rules list counts all os ends → faulty_in ends ≤ length os
  few_faulty all [] [] are = omega arith
  few_faulty all [] (e ∷ ends) are = absurd are
  few_faulty all (o ∷ os) [] are = absurd are
  few_faulty all (o ∷ os) (e ∷ ends) are = let again = few_faulty all os ends are.1 in let one = at_most_one e in omega arith

  module _ (count : ℕ) (first seen : List Entry) (given : List (Option Opening)) (opened faulty : ℕ) (stop : Option ServingEnd) (doors doors' : Option Told) (faults faults' starts starts' : ℕ) (started : Bool)
      (goes : GoesOn told rules list counts count (feeder_seen (Some first) [] 0 0 None doors faults) (feeder_seen (Some seen) given opened faulty stop doors' faults')) where
    abbrev before : OutsideSeen
    before = outside_seen doors faults starts

    abbrev after : OutsideSeen
    after = outside_seen doors' faults' starts'

    -- where none is left all that were opened were taken back
    all_done : given ≡ [] → goes.done ≡ goes.opened
    all_done none = sym (goes.moved ∙ (ap (λ xs. goes.done ++ filter_map (λ o. o) xs) none ∙ append-nil goes.done))

    ends_for : (why : Option ServingEnd) → stop ≡ why → IfSome why (λ end. IsStop end count (feeder_seen (Some first) [] 0 0 None doors faults) (feeder_seen (Some seen) given opened faulty why doors' faults'))
        → (s : Bool) → started ≡ s → (s ≡ true → why ≢ None) → (s ≡ true → given ≡ []) → (s ≡ false → Rose starts starts') → IsEndFor (end_of why s) count seen goes.done before after
    ends_for None is cause true on ended none rose = absurd (ended refl refl)
    ends_for None is cause false on ended none rose = rose refl
    ends_for (Some All) is cause true on ended none rose =
        let same = all_done (none refl) in
        let most : opened ≤ count = goes.most (omega arith) in (
          subst (λ (os : List Opening). length os ≡ count) (sym same) (omega (arith, goes.more, most, cause)),
          subst (λ (os : List Opening). HasGiven doors doors' os) (sym same) (goes.links (subst HasSessions (sym is) tt)),
        )
    ends_for (Some All) is cause false on ended none rose = rose refl
    ends_for (Some NoLink) is cause true on ended none rose =
        (cause, subst (λ (os : List Opening). HasGiven doors doors' os) (sym (all_done (none refl))) (goes.links (subst HasSessions (sym is) tt)))
    ends_for (Some NoLink) is cause false on ended none rose = rose refl
    ends_for (Some NoWorkers) is cause s on ended none rose = absurd cause
    ends_for (Some StepsSpent) is cause s on ended none rose = cause
    ends_for (Some Memory) is cause s on ended none rose = tt

    has_run_so : count < 2 ^ 32 → (started ≡ true → stop ≢ None) → (started ≡ true → given ≡ []) → (started ≡ false → Rose starts starts')
        → HasServedLinks told rules list counts count seen (record { end = end_of stop started; faulty = faulty }) before after
    has_run_so small ended none rose =
        let few = few_faulty seen goes.done goes.ends goes.served in
        let parts : length goes.opened ≡ length goes.done + length (filter_map (λ o. o) given) = ap length goes.moved ∙ length-append goes.done (filter_map (λ o. o) given) in
        let most : opened ≤ count = goes.most (omega arith) in
        record {
          opened = goes.done;
          ends = goes.ends;
          numbered = opened_first 0 goes.done (filter_map (λ o. o) given) (subst (AreOpened 0) goes.moved goes.numbered);
          are = goes.served;
          faulty = from_none faulty (faulty_in goes.ends) (goes.faulty (omega (arith, few, parts, most, goes.more, small)));
          cause = ends_for stop refl (goes.cause refl) started refl ended none rose;
        }

  -- the same of a feeder that comes back from a run which gave this answer
  pub has_run : {A E : Type 0} (count : ℕ) (first seen : List Entry) (now : Option (List Entry)) (none given : List (Option Opening)) (opened faulty : ℕ) (stop : Option ServingEnd) (doors doors' : Option Told)
      (faults faults' starts starts' : ℕ) (end : ServingEnd) (started : Bool) (ran : Result A E)
      → GoesOn told rules list counts count (feeder_seen (Some first) none 0 0 None doors faults) (feeder_seen now given opened faulty stop doors' faults') → none ≡ [] → now ≡ Some seen → count < 2 ^ 32
      → end ≡ end_of stop started → started ≡ is_ok ran → OnOk ran (stop ≢ None) → OnOk ran (given ≡ []) → HasCause starts starts' ran
      → HasServedLinks told rules list counts count seen (record { end = end; faulty = faulty }) (outside_seen doors faults starts) (outside_seen doors' faults' starts')
  has_run count first seen now none given opened faulty stop doors doors' faults faults' starts starts' end started ran goes fresh is small same tells ended all cause =
      subst (λ (e : ServingEnd). HasServedLinks told rules list counts count seen (record { end = e; faulty = faulty }) (outside_seen doors faults starts) (outside_seen doors' faults' starts')) (sym same)
      (has_run_so count first seen given opened faulty stop doors doors' faults faults' starts starts' started
      (subst (λ (x : Option (List Entry)). GoesOn told rules list counts count (feeder_seen (Some first) [] 0 0 None doors faults) (feeder_seen x given opened faulty stop doors' faults')) is
      (subst (λ (xs : List (Option Opening)). GoesOn told rules list counts count (feeder_seen (Some first) xs 0 0 None doors faults) (feeder_seen now given opened faulty stop doors' faults')) fresh goes))
      small (λ on. where_ok ran (sym tells ∙ on) ended) (λ on. where_ok ran (sym tells ∙ on) all) (λ off. where_err ran (sym tells ∙ off) cause))
    where
      where_ok : {A E P : Type 0} (r : Result A E) → is_ok r ≡ true → OnOk r P → P
      where_ok (Ok a) on p = p
      where_ok (Err e) on p = absurd cc

      where_err : {A E : Type 0} (r : Result A E) → is_ok r ≡ false → HasCause starts starts' r → Rose starts starts'
      where_err (Ok a) off cause = absurd cc
      where_err (Err e) off cause = cause.failed

-- why no link was accepted, from an earlier count of the doors' faults on
end_earlier : (end : ServingEnd) (count : ℕ) (all : List Entry) (opened : List Opening) (bound now : Option Told) (doors doors' doors'' spawner spawner' : ℕ) → doors ≤ doors'
    → IsEndFor end count all opened (outside_seen bound doors' spawner) (outside_seen now doors'' spawner') → IsEndFor end count all opened (outside_seen bound doors spawner) (outside_seen now doors'' spawner')
end_earlier All count all opened bound now doors doors' doors'' spawner spawner' later is = is
end_earlier NoLink count all opened bound now doors doors' doors'' spawner spawner' later is = (rose_after doors doors' doors'' later is.0, is.1)
end_earlier NoWorkers count all opened bound now doors doors' doors'' spawner spawner' later is = is
end_earlier StepsSpent count all opened bound now doors doors' doors'' spawner spawner' later is = is
end_earlier Memory count all opened bound now doors doors' doors'' spawner spawner' later is = is

module _ {R F : Type 0} (lasts told : Type 0) (stands : List ℕ → List Transaction → Type 0) (rules : Rules) where
  -- the history that was seen goes on to the whole one
  pub with_history : (list : List Transaction) (counts : FaultCounts) (log : List Event) (broken : Bool) (old new : HubState R F) (seen all : List Entry) (count : ℕ) (served : Served) (before after : OutsideSeen)
      → old.store.list ≡ list → counts_of old.store ≡ counts → old.store.log ≡ log → old.store.broken ≡ broken
      → IsPrefix seen all → (told → IsLegalOver rules list counts all) → (told → StandsForMachine new (machine_of rules list all)) → counts_after counts all ≡ counts_of new.store
      → HasLasted lasts told stands rules list counts log broken all new → HasServedLinks told rules list counts count seen served before after
      → ServesIn lasts told stands rules count old new served before after
  with_history list counts log broken old new seen all count served before after list_is counts_are log_is broken_is begins legal behind counted lasted links = record {
    all = all;
    history = record {
      legal = λ t. subst (λ (xs : List Transaction). IsLegalOver rules xs (counts_of old.store) all) (sym list_is) (subst (λ (c : FaultCounts). IsLegalOver rules list c all) (sym counts_are) (legal t));
      behind = λ t. subst (λ (xs : List Transaction). StandsForMachine new (machine_of rules xs all)) (sym list_is) (behind t);
      counted = ap (λ (c : FaultCounts). counts_after c all) counts_are ∙ counted;
      lasted = subst (λ (xs : List Transaction). HasLasted lasts told stands rules xs (counts_of old.store) old.store.log old.store.broken all new) (sym list_is)
          (subst (λ (c : FaultCounts). HasLasted lasts told stands rules list c old.store.log old.store.broken all new) (sym counts_are)
          (subst (λ (l : List Event). HasLasted lasts told stands rules list counts l old.store.broken all new) (sym log_is)
          (subst (λ (b : Bool). HasLasted lasts told stands rules list counts log b all new) (sym broken_is) lasted)));
    };
    links = record {
      opened = links.opened;
      ends = links.ends;
      numbered = links.numbered;
      are = subst (λ (xs : List Transaction). AreServed told rules xs (counts_of old.store) all links.opened links.ends) (sym list_is)
          (subst (λ (c : FaultCounts). AreServed told rules list c all links.opened links.ends) (sym counts_are) (served_on told rules list counts seen all links.opened links.ends begins links.are));
      faulty = links.faulty;
      cause = end_on served.end links.cause;
    };
  }
    where
      end_on : (end : ServingEnd) → IsEndFor end count seen links.opened before after → IsEndFor end count all links.opened before after
      end_on All is = is
      end_on NoLink is = is
      end_on NoWorkers is = is
      end_on StepsSpent is = let longer = begins_length seen all begins in omega arith
      end_on Memory is = is

  -- no link was accepted, and nothing was done
  none_served : (port count : ℕ) (hub : HubState R F) (end : ServingEnd) (told_before bound now : Option Told) (doors doors' spawner : ℕ)
      → (lasts → hub.store.broken ≡ false → Leaves Main (λ bytes. stands bytes hub.store.list) hub.store.log) → (told → StandsForMachine hub (machine_over hub.store.list))
      → IsBoundAs port told_before bound end → IsEndFor end count [] [] (outside_seen bound doors spawner) (outside_seen now doors' spawner)
      → ServesLinks lasts told stands rules port count hub hub (record { end = end; faulty = 0 }) (outside_seen told_before doors spawner) (outside_seen now doors' spawner)
  none_served port count hub end told_before bound now doors doors' spawner leaves is port_is cause = record {
    bound = bound;
    port_is = port_is;
    serves = record {
      all = [];
      history = record { legal = λ t. tt; behind = is; counted = refl; lasted = nothing_lasted lasts told stands rules hub.store.list hub leaves is };
      links = record { opened = []; ends = []; numbered = tt; are = tt; faulty = refl; cause = cause };
    };
  }

  -- so it is where the doors couldn't be bound
  pub not_bound : {A E : Type 0} (r : Result A E) (port count : ℕ) (hub : HubState R F) (before now : Option Told) (doors doors' spawner : ℕ)
      → (lasts → hub.store.broken ≡ false → Leaves Main (λ bytes. stands bytes hub.store.list) hub.store.log) → (told → StandsForMachine hub (machine_over hub.store.list))
      → true ≡ is_err r → OnErr r (now ≡ before) → HasCause doors doors' r
      → ServesLinks lasts told stands rules port count hub hub (record { end = NoLink; faulty = 0 }) (outside_seen before doors spawner) (outside_seen now doors' spawner)
  not_bound (Ok a) port count hub before now doors doors' spawner leaves is failed kept cause = absurd cc
  not_bound (Err e) port count hub before now doors doors' spawner leaves is failed kept cause =
      none_served port count hub NoLink before now now doors doors' spawner leaves is (inr (kept, refl)) (cause.failed, given_none now now refl)

  -- and where there was no memory behind that
  pub no_memory : {A E : Type 0} (r : Result A E) (port count : ℕ) (hub : HubState R F) (before now : Option Told) (doors doors' spawner : ℕ)
      → (lasts → hub.store.broken ≡ false → Leaves Main (λ bytes. stands bytes hub.store.list) hub.store.log) → (told → StandsForMachine hub (machine_over hub.store.list))
      → false ≡ is_err r → OnOk r (now ≡ option_map (bound_with port) before)
      → ServesLinks lasts told stands rules port count hub hub (record { end = Memory; faulty = 0 }) (outside_seen before doors spawner) (outside_seen now doors' spawner)
  no_memory (Ok a) port count hub before now doors doors' spawner leaves is done bound = none_served port count hub Memory before now now doors doors' spawner leaves is (inl bound) tt
  no_memory (Err e) port count hub before now doors doors' spawner leaves is done bound = absurd cc

  -- links were served behind the binding of the doors
  pub all_served : {A E : Type 0} (r : Result A E) (port count : ℕ) (old new : HubState R F) (served : Served) (before bound now : Option Told) (doors doors' doors'' spawner spawner' : ℕ)
      → false ≡ is_err r → OnOk r (bound ≡ option_map (bound_with port) before) → HasCause doors doors' r
      → ServesIn lasts told stands rules count old new served (outside_seen bound doors' spawner) (outside_seen now doors'' spawner')
      → ServesLinks lasts told stands rules port count old new served (outside_seen before doors spawner) (outside_seen now doors'' spawner')
  all_served (Ok a) port count old new served before bound now doors doors' doors'' spawner spawner' done is cause serves = record {
    bound = bound;
    port_is = inl is;
    serves = record {
      all = serves.all;
      history = serves.history;
      links = record {
        opened = serves.links.opened;
        ends = serves.links.ends;
        numbered = serves.links.numbered;
        are = serves.links.are;
        faulty = serves.links.faulty;
        cause = end_earlier served.end count serves.all serves.links.opened bound now doors doors' doors'' spawner spawner' cause.later serves.links.cause;
      };
    };
  }
  all_served (Err e) port count old new served before bound now doors doors' doors'' spawner spawner' done is cause serves = absurd cc
