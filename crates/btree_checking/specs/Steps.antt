-- A walk under way. Own.
use Rattle.std.specs.Prelude.{◌≡◌, ℕ, ◌+◌, ◌-◌, ◌<◌, ◌^◌, true, List, [], ◌∷◌, ◌++◌, length, Option, Some, None, Result, Err}
use Rattle.btree_shapes.specs.declared.node.Node.{Node}
use Rattle.btree_shapes.specs.Nodes.{Held, Nothing}
use Rattle.btree_shapes.specs.declared.space.Call.{Call}
use Rattle.btree_shapes.specs.Ways.{reads}
use Rattle.btree_checking.specs.declared.links.Pointer.{Pointer}
use Rattle.btree_checking.specs.declared.place.Place.{Place}
use Rattle.btree_checking.specs.declared.verdict.Rule.{Rule}
use Rattle.btree_checking.specs.declared.walk.Walk.{Walk}
use Rattle.btree_checking.specs.declared.walk.Step.{Step}
use Rattle.btree_checking.specs.declared.walk.Step.TheVariants.{On, Stopped}
use Rattle.btree_checking.specs.Rules.{Tour, was_visited, rule_broken, with_visit, places_below}
use Rattle.btree_checking.specs.Walks.{Stop, and_then, in_turn, visit, oids_in, last_read}

-- the walk over an object that is still to be visited, and all below it
abbrev pub visiting : (ℕ → Held) → Place → Tour → Result Tour Stop
visiting objects place = visit objects (2 ^ 64 - place.level) place

-- what a walk comes to
abbrev pub rest_of : (ℕ → Held) → Walk → Result Tour Stop
rest_of objects walk = in_turn (visiting objects) walk.todo walk.survey

-- what it comes to, where one more object is to be visited first
abbrev pub entering : (ℕ → Held) → Walk → Place → Result Tour Stop
entering objects walk place = and_then (visiting objects place walk.survey) (in_turn (visiting objects) walk.todo)

-- what it comes to after one more step
abbrev pub comes_to : (ℕ → Held) → Walk → Step → Result Tour Stop
comes_to objects walk (On next) = rest_of objects next
comes_to objects walk (Stopped oid rule) = Err (record { visits = walk.survey.visits; oid = oid; rule = rule })

-- the step to an object that was read
abbrev pub step_by : Walk → Place → Node → Option Rule → Step
step_by walk place node (Some rule) = Stopped place.oid rule
step_by walk place node None = On (record { survey = with_visit place walk.survey node; todo = places_below place node ++ walk.todo })

abbrev pub step_of : Walk → Place → Node → Step
step_of walk place node = step_by walk place node (rule_broken place walk.survey node)

-- what a step reads
abbrev pub step_reads : ℕ → Step → List ℕ
step_reads oid (On next) = oid ∷ []
step_reads oid (Stopped other rule) = last_read rule other

-- the objects that were visited have a content
abbrev pub AreHeld : (ℕ → Held) → List (ℕ × Pointer) → Type 0
AreHeld objects visits = (oid : ℕ) → was_visited visits oid ≡ true → objects oid ≡ Nothing → ⊥

-- there are fewer of them than a machine can hold
abbrev pub IsSmall : List (ℕ × Pointer) → Type 0
IsSmall visits = length visits < 2 ^ 63

abbrev pub StepIsSmall : Step → Type 0
StepIsSmall (On next) = IsSmall next.survey.visits
StepIsSmall (Stopped oid rule) = Unit {0}

-- one more object was visited
pub record IsLonger (objects : ℕ → Held) (before after : List (ℕ × Pointer)) (oid : ℕ) : Type 0 where
  pub oids : oids_in after ≡ oids_in before ++ oid ∷ []
  pub count : length after ≡ length before + 1
  pub small : IsSmall after
  pub held : AreHeld objects after

-- a step that goes on visits one more object
abbrev pub GoesOn : (ℕ → Held) → List (ℕ × Pointer) → ℕ → Step → Type 0
GoesOn objects before oid (On next) = IsLonger objects before next.survey.visits oid
GoesOn objects before oid (Stopped other rule) = Unit {0}

-- what was read since, where a walk came from one state to another
pub record ReadSince (before after : List ℕ) (log log' : List Call) : Type 0 where
  pub oids : List ℕ
  pub are : after ≡ before ++ oids
  pub grown : log' ≡ log ++ reads oids
