-- What a crash may leave at each moment of a run of calls. A moment is the number of calls so far: a crash in the midst
-- of a call leaves what one before it or one after it could leave.
use Rattle.std.specs.Prelude.{◌≡◌, ℕ, ◌+◌, ◌≤◌, List, ◌∷◌, length, drop}
use Rattle.zb_volume.specs.declared.areas.Area.{Area}
use Rattle.zb_volume.specs.Calls.{Event}
use Rattle.zb_volume.specs.Disk.{disk}
use Rattle.zb_volume.specs.Images.{CrashLeaves}

-- P holds of each log from the old one to the new one, both included
pub data Along (P : List Event → Type 0) (old : List Event) : List Event → Type 0 where
  here : P old → Along P old old
  more : {e : Event} {log : List Event} → P (e ∷ log) → Along P old log → Along P old (e ∷ log)

-- whatever a crash now leaves of an area has Q
abbrev pub Leaves : Area → (List ℕ → Type 0) → List Event → Type 0
Leaves a Q log = (image : List ℕ) → CrashLeaves log a image → Q image

-- whatever a crash at any moment from the old log to the new one leaves of an area has Q
abbrev pub LeavesOnly : Area → (List ℕ → Type 0) → List Event → List Event → Type 0
LeavesOnly a Q old new = Along (Leaves a Q) old new

-- the moment that it is after these calls
abbrev pub moment : List Event → ℕ
moment log = length log

-- a crash at some moment from t on may have left this of an area
abbrev pub LeftSince : List Event → ℕ → Area → List ℕ → Type 0
LeftSince log t a image = (n : ℕ) × (n + t ≤ moment log) × CrashLeaves (drop n log) a image

-- an area stays as it was, at every moment from the old log to the new one
abbrev pub StaysAs : Area → List Event → List Event → Type 0
StaysAs a old new = Along (λ log. disk log a ≡ disk old a) old new
