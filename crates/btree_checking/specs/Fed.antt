-- A check under way, of objects that its caller reads. Own.
use Rattle.std.specs.Prelude.{◌≡◌, ℕ, ◌-◌, ◌<◌, ◌^◌, List, length, Option, Some, None}
use Rattle.std.specs.Option.{option_copied, option_map}
use Rattle.btree_family.specs.Classes.{Class, class_seen}
use Rattle.btree_shapes.specs.Nodes.{Held, Nothing, Foreign, Holds, class_held, objects_of}
use Rattle.btree_checking.specs.declared.content.Content.{Content}
use Rattle.btree_checking.specs.declared.content.Content.TheVariants as content
use Rattle.btree_checking.specs.declared.checking.Checking.{Checking}
use Rattle.btree_checking.specs.declared.checking.Progress.{Progress}
use Rattle.btree_checking.specs.declared.checking.Progress.TheVariants.{Wants, Ended}
use Rattle.btree_checking.specs.Steps.{AreHeld, entering}
use Rattle.btree_checking.specs.Verdicts.{verdict_of}
use Rattle.btree_checking.specs.Walks.{walk_of}

-- what an object is to a tree that has this content
abbrev pub held_of : Content → Held
held_of content.Missing = Nothing
held_of content.Foreign = Foreign
held_of (content.Holds entry) = Holds entry.class entry.node

-- the object that a check wants to read next
abbrev pub wanted_by : Checking → ℕ
wanted_by check = check.place.oid

-- the class of a tree: the one that its root was read with, or else the one that this content of the root has
abbrev pub class_after : Option Class → Option (List ℕ) → Option Class
class_after (Some class) content = Some class
class_after None content = class_held content

-- A check under way stands for the check of the tree with this root over these contents: what was met stands there, and what it comes to is what the whole walk
-- comes to.
pub record IsCheckOf (contents : ℕ → Option (List ℕ)) (root : ℕ) (check : Checking) : Type 0 where
  pub class : class_held (contents root) ≡ class_after (option_map class_seen (option_copied check.row)) (contents check.place.oid)
  pub held : AreHeld (objects_of contents root) check.walk.survey.visits
  pub comes : entering (objects_of contents root) check.walk check.place ≡ walk_of (objects_of contents root) root

-- where it goes on it stands for that check again, and where it ends it has its verdict
abbrev pub IsProgressOf : (ℕ → Option (List ℕ)) → ℕ → Progress → Type 0
IsProgressOf contents root (Wants check) = IsCheckOf contents root check
IsProgressOf contents root (Ended verdict) = verdict ≡ verdict_of (objects_of contents root) root

-- how many objects more a check may meet
abbrev pub room_of : Checking → ℕ
room_of check = 2 ^ 63 - length check.walk.survey.visits

-- it goes on with less room
abbrev pub HasLessRoom : ℕ → Progress → Type 0
HasLessRoom room (Wants check) = room_of check < room
HasLessRoom room (Ended verdict) = Unit {0}
