-- What a carrier carries to the desk at its other end, and back. Own.
use Rattle.std.specs.Prelude.{◌≡◌, ℕ, Bool, false, List, ◌∷◌}
use Rattle.std.specs.List.{concat}
use Rattle.zodb_core.specs.declared.reply.Reply.{Reply}
use Rattle.zodb_core.specs.declared.request.Request.{Request}
use Rattle.zodb_core.specs.Machine.{Machine, Rules}
use Rattle.zodb_core.specs.Outcomes.{FaultCounts, IsStepMade}
use Rattle.zeo_frames.specs.Frames.{frames}
use Rattle.zeo_desk.specs.Desks.{DeskState}
use Rattle.remote_loads.specs.Served.{Serves, ServesFront}

-- where nothing comes back for frames, at least one, some first steps of what their payloads name are made
abbrev pub BreaksOff : {S : Type 0} → (Request → Reply → S → S → Type 0) → S → DeskState → List ℕ → S → DeskState → Type 0
BreaksOff steps before desk bytes now left = (first : List ℕ) (rest : List (List ℕ)) → bytes ≡ frames (first ∷ rest) → ServesFront steps desk (first ∷ rest) before left now

-- What comes back for frames, at least one, are the frames that the desk sends for their payloads.
abbrev pub Carries : {S : Type 0} → (Request → Reply → S → S → Type 0) → S → DeskState → List ℕ → List ℕ → S → DeskState → Type 0
Carries steps before desk bytes given now left = (first : List ℕ) (rest : List (List ℕ)) → bytes ≡ frames (first ∷ rest) → (out : List (List ℕ)) × (given ≡ concat out) × Serves steps desk (first ∷ rest) before out left now

-- A machine is known as another one: in all, but once its store has failed, not in its list and its vote, of which nothing is known then.
pub record IsKnownAs (m now : Machine) : Type 0 where
  pub journal : now.journal ≡ m.journal
  pub greatest : now.greatest ≡ m.greatest
  pub sessions : now.sessions ≡ m.sessions
  pub pack : now.pack ≡ m.pack
  pub failed : now.failed ≡ m.failed
  pub list : m.failed ≡ false → now.list ≡ m.list
  pub vote : m.failed ≡ false → now.vote ≡ m.vote

-- A step at the other end is one that a machine may make.
pub record IsMachineStep (m : Machine) (n : ℕ) (q : Request) (r : Reply) (now : Machine) : Type 0 where
  pub rules : Rules
  pub stamp : ℕ
  pub ticks : Bool
  pub before : FaultCounts
  pub after : FaultCounts
  pub left : Machine
  pub made : IsStepMade rules m n q stamp (record { reply = r; machine = left; ticks = ticks }) before after
  pub known : IsKnownAs left now
