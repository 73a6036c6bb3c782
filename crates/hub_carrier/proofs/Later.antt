-- What holds behind whatever was served.
use Rattle.std.proofs.Common.{ℕ, List, Option}
use Rattle.zb_model.specs.declared.data.Transaction.{Transaction}
use Rattle.zb_model.specs.Rules.{MergeRules}
use Rattle.zeo_desk.specs.Desks.{DeskState}
use Rattle.remote_loads.specs.Served.{ServesFront}
use Rattle.hub_carrier.specs.Ends.{HubEnd, StepsThere}
use Rattle.hub_carrier.specs.Later.{IsLaterEnd}
use Rattle.hub_carrier.specs.LaterLaws.{at_once, later_on, step_later}
use Rattle.hub_carrier.specs.Served.{AreSentFor}
use Rattle.hub_carrier.proofs.Serves.{serves_along, serves_front}

pub kept_later : {R F : Type 0} (lasts : Type 0) (e : HubEnd R F) → IsLaterEnd lasts e e
kept_later lasts e = at_once lasts e

module _ {R F : Type 0} (told lasts : Type 0) (stands : List ℕ → List Transaction → Type 0) (rules : R → MergeRules) (named : F → List ℕ → Option (List ℕ)) (n : ℕ) where
  pub front_later : (d left : DeskState) (ps : List (List ℕ)) (s t : HubEnd R F) → ServesFront (StepsThere told lasts stands rules named n) d ps s left t → IsLaterEnd lasts s t
  front_later d left ps s t front =
      serves_along (StepsThere told lasts stands rules named n) (IsLaterEnd lasts) (at_once lasts) (later_on lasts) (λ q r a b there. step_later lasts told stands rules named n q r a b there) d left ps s t front

  pub sent_later : (d left : DeskState) (ps : List (List ℕ)) (s t : HubEnd R F) (before after : List ℕ) → AreSentFor (StepsThere told lasts stands rules named n) d ps s t left before after → IsLaterEnd lasts s t
  sent_later d left ps s t before after all = front_later d left ps s t (serves_front (StepsThere told lasts stands rules named n) d left ps s t all.out all.serves)
