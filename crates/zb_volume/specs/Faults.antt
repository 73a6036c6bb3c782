-- What a call that failed has done, and when it may fail.
use Rattle.std.specs.Prelude.{Some, ◌≡◌, ◌⊎◌, List, ◌∷◌}
use Rattle.zb_volume.specs.declared.areas.Area.{Area}
use Rattle.zb_volume.specs.Calls.{Event, Contents, area_content}
use Rattle.zb_volume.specs.Images.{CrashLeaves}

-- Nothing, or some part of what it was to do: then a read gives of each area something that a crash may leave.
abbrev pub Fails : Event → List Event → List Event → Type 0
Fails e old new = (new ≡ old) ⊎ ((now : Contents) × (new ≡ record { call = e.call; failed = Some now } ∷ old) × ((a : Area) → CrashLeaves new a (area_content now a)))
