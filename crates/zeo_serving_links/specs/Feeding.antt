-- Links that are accepted, given to workers, and taken back. Own.
use Rattle.std.specs.Prelude.{◌≡◌, ℕ, ◌+◌, ◌<◌, ◌≤◌, ◌^◌, Bool, true, false, List, [], ◌∷◌, ◌++◌, Option, Some, None, IfSome, length, filter_map}
use Rattle.std.specs.Option.{unwrap_or}
use mathlib.Core.List.{IsPrefix}
use Rattle.hub_shared.specs.Calls.{history_limit}
use Rattle.zb_base.specs.Counts.{Rose}
use Rattle.zb_links.specs.Told.{Told}
use Rattle.zb_model.specs.declared.data.Transaction.{Transaction}
use Rattle.zeo_serving_links.specs.declared.ending.ServingEnd.{ServingEnd}
use Rattle.zeo_serving_links.specs.declared.ending.ServingEnd.TheVariants.{All, NoLink, NoWorkers, StepsSpent, Memory}
use Rattle.zeo_serving_links.specs.Links.{AreOpened, AreServed, HasGiven, IsAtOpening, Opening, faulty_in}
use Rattle.zeo_session.specs.declared.ending.SessionEnd.{SessionEnd}
use Rattle.zodb_core.specs.History.{Entry}
use Rattle.zodb_core.specs.Machine.{Rules}
use Rattle.zodb_core.specs.Outcomes.{FaultCounts}

-- What is seen of a feeder: the history that it has seen; the links whose sessions' workers weren't taken back; how many sessions it has opened, and how many of those
-- taken back ended for a fault or for memory; why it accepts no further link, once it doesn't; and what its doors tell, and how often they failed.
pub record FeederSeen : Type 0 where
  pub seen : List Entry
  pub waiting : List Opening
  pub opened : ℕ
  pub faulty : ℕ
  pub stop : Option ServingEnd
  pub told : Option Told
  pub faults : ℕ

-- the history that was seen
abbrev pub seen_in : Option (List Entry) → List Entry
seen_in seen = unwrap_or seen []

abbrev pub feeder_seen : Option (List Entry) → List (Option Opening) → ℕ → ℕ → Option ServingEnd → Option Told → ℕ → FeederSeen
feeder_seen seen given opened faulty stop told faults = record {
  seen = seen_in seen;
  waiting = filter_map (λ o. o) given;
  opened = opened;
  faulty = faulty;
  stop = stop;
  told = told;
  faults = faults;
}

-- why no further link is accepted, of as many as are to be
abbrev pub IsStop : ServingEnd → ℕ → FeederSeen → FeederSeen → Type 0
IsStop All count f g = count ≤ g.opened
IsStop NoLink count f g = Rose f.faults g.faults
IsStop NoWorkers count f g = ⊥
IsStop StepsSpent count f g = history_limit ≤ length g.seen
IsStop Memory count f g = Unit {0}

-- each link that the doors gave has a session: it isn't known where a session or memory was wanting, since then the last may have none
abbrev pub HasSessions : Option ServingEnd → Type 0
HasSessions None = Unit {0}
HasSessions (Some All) = Unit {0}
HasSessions (Some NoLink) = Unit {0}
HasSessions (Some NoWorkers) = ⊥
HasSessions (Some StepsSpent) = ⊥
HasSessions (Some Memory) = ⊥

-- How a feeder goes on: some sessions are opened, and of those that waited, and these, the first ones are taken back.
pub record GoesOn (told : Type 0) (rules : Rules) (list : List Transaction) (counts : FaultCounts) (count : ℕ) (f g : FeederSeen) : Type 0 where
  pub begins : IsPrefix f.seen g.seen
  pub opened : List Opening
  pub done : List Opening
  pub ends : List SessionEnd
  pub numbered : AreOpened f.opened opened
  pub more : g.opened ≡ f.opened + length opened
  pub most : f.opened ≤ count → g.opened ≤ count
  pub moved : f.waiting ++ opened ≡ done ++ g.waiting
  pub served : AreServed told rules list counts g.seen done ends
  pub faulty : f.faulty + faulty_in ends < 2 ^ 64 → g.faulty ≡ f.faulty + faulty_in ends
  pub links : HasSessions g.stop → HasGiven f.told g.told opened
  pub faults : f.faults ≤ g.faults
  pub stays : (end : ServingEnd) → f.stop ≡ Some end → g.stop ≡ Some end
  pub cause : f.stop ≡ None → IfSome g.stop (λ end. IsStop end count f g)

-- the same of feeders that tell how many links are to be, which stays
abbrev pub GoesOnSo : Type 0 → Rules → List Transaction → FaultCounts → ℕ → ℕ → FeederSeen → FeederSeen → Type 0
GoesOnSo told rules list counts count count' f g = (count' ≡ count) × GoesOn told rules list counts count f g

-- why a session wasn't opened behind this history
abbrev pub IsUnopened : ServingEnd → List Entry → Type 0
IsUnopened StepsSpent seen = history_limit ≤ length seen
IsUnopened Memory seen = Unit {0}
IsUnopened _ seen = ⊥

-- why no session's worker was given: all links were accepted, or the next one wasn't, or has no session
abbrev pub IsUngiven : ServingEnd → ℕ → ℕ → List Entry → Option Told → Option Told → ℕ → ℕ → Type 0
IsUngiven All count opened seen told told' faults faults' = (count ≤ opened) × (told' ≡ told)
IsUngiven NoLink count opened seen told told' faults faults' = Rose faults faults' × (told' ≡ told)
IsUngiven NoWorkers count opened seen told told' faults faults' = ⊥
IsUngiven StepsSpent count opened seen told told' faults faults' = history_limit ≤ length seen
IsUngiven Memory count opened seen told told' faults faults' = Unit {0}

-- A worker is of the session with this number, for a link that has this to read.
abbrev pub IsOfLink : ℕ → Option (List ℕ) → Option Opening → Type 0
IsOfLink number left None = ⊥
IsOfLink number left (Some o) = IsAtOpening number o.pass × (o.unread ≡ left)

-- Why no further link was accepted, by why the feeder gave none and whether each worker was started.
abbrev pub end_of : Option ServingEnd → Bool → ServingEnd
end_of None started = NoWorkers
end_of (Some Memory) started = Memory
end_of (Some StepsSpent) started = StepsSpent
end_of (Some NoWorkers) started = NoWorkers
end_of (Some All) true = All
end_of (Some All) false = NoWorkers
end_of (Some NoLink) true = NoLink
end_of (Some NoLink) false = NoWorkers
