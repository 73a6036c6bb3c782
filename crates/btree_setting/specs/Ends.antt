-- What a set answers and leaves, on every tree. Own.
use Rattle.std.specs.Prelude.{◌≡◌, ℕ, ◌<◌, List, ◌++◌, Option, Some, None, Result, Ok, Err, ◌⊎◌}
use Rattle.btree_family.specs.declared.key.Key.{Key}
use Rattle.btree_family.specs.Classes.{Class, class_seen, classes, leaf_in}
use Rattle.btree_shapes.specs.declared.error.TreeError.{TreeError}
use Rattle.btree_shapes.specs.declared.space.Call.{Call}
use Rattle.btree_shapes.specs.Nodes.{class_held}
use Rattle.btree_shapes.specs.Met.{ReadsFirst}
use Rattle.btree_shapes.specs.Ways.{IsRefusal}
use Rattle.btree_setting.specs.declared.growing.Terms.{Terms}
use Rattle.btree_setting.specs.declared.preparing.Sizes.{Sizes}
use Rattle.btree_setting.specs.declared.preparing.Task.{Task}
use Rattle.btree_setting.specs.declared.setting.Finding.{Finding}
use Rattle.btree_setting.specs.declared.setting.SetEnd.{SetEnd}
use Rattle.btree_setting.specs.declared.setting.SetEnd.TheVariants.{Done, Lacks}
use Rattle.btree_setting.specs.Tasks.{met_under, task_under, reads_under}
use Rattle.btree_setting.specs.Sets.{CountsNews, Fails, Passes, Writes, terms_of}

-- what was found: nothing that is to be changed, or the leaf and the objects above it, and the classes of the tree
abbrev pub IsFinding : (ℕ → Option (List ℕ)) → ℕ → Sizes → Key → Option (List ℕ) → Option Finding → Type 0
IsFinding before root sizes key value None = task_under before root sizes key value ≡ Ok None
IsFinding before root sizes key value (Some x) =
    (class_held (before root) ≡ Some (class_seen x.family.row.now)) × (leaf_in classes (class_seen x.family.row.now) ≡ Some (class_seen x.family.leaf.now))
    × (task_under before root sizes key value ≡ Ok (Some x.task))

-- what is to be changed was found and read, and the rest follows
pub record HasTask (told : Type 0) (before after : ℕ → Option (List ℕ)) (calls calls' : List Call) (root : ℕ) (sizes : Sizes) (key : Key) (value : Option (List ℕ)) (result : Result (Unit {0}) TreeError) : Type 0 where
  pub class : Class
  pub class_is : class_held (before root) ≡ Some class
  pub leaf : Class
  pub leaf_is : leaf_in classes class ≡ Some leaf
  pub task : Task
  pub task_is : task_under before root sizes key value ≡ Ok (Some task)
  pub middle : List Call
  pub reads : told → middle ≡ calls ++ reads_under before root sizes key value
  pub writes : Writes told class leaf sizes key task before after middle calls' result

-- the key has the value already: nothing is drawn or put
pub record HasNone (told : Type 0) (before after : ℕ → Option (List ℕ)) (calls calls' : List Call) (root : ℕ) (sizes : Sizes) (key : Key) (value : Option (List ℕ)) : Type 0 where
  pub none : task_under before root sizes key value ≡ Ok None
  pub contents : after ≡ before
  pub log : told → calls' ≡ calls ++ reads_under before root sizes key value

-- what is to be changed was not found: only the first objects of the way were read, and nothing is drawn or put
pub record IsRefusedBefore (told : Type 0) (before after : ℕ → Option (List ℕ)) (calls calls' : List Call) (root : ℕ) (sizes : Sizes) (key : Key) (value : Option (List ℕ)) (e : TreeError) : Type 0 where
  pub refusal : IsRefusal e (task_under before root sizes key value)
  pub contents : after ≡ before
  pub log : told → ReadsFirst (met_under before root sizes key value) calls calls'

abbrev pub Sets : Type 0 → (ℕ → Option (List ℕ)) → (ℕ → Option (List ℕ)) → List Call → List Call → ℕ → Sizes → Key → Option (List ℕ) → Result (Unit {0}) TreeError → Type 0
Sets told before after calls calls' root sizes key value (Ok u) =
    HasNone told before after calls calls' root sizes key value ⊎ HasTask told before after calls calls' root sizes key value (Ok u)
Sets told before after calls calls' root sizes key value (Err e) =
    IsRefusedBefore told before after calls calls' root sizes key value e ⊎ HasTask told before after calls calls' root sizes key value (Err e)

-- ---- the numbers that a set needs

-- a set makes so many new objects, and each record that it puts can be written and reads back
pub record Needs (before : ℕ → Option (List ℕ)) (root : ℕ) (sizes : Sizes) (key : Key) (value : Option (List ℕ)) (count : ℕ) : Type 0 where
  pub class : Class
  pub class_is : class_held (before root) ≡ Some class
  pub leaf : Class
  pub leaf_is : leaf_in classes class ≡ Some leaf
  pub task : Task
  pub task_is : task_under before root sizes key value ≡ Ok (Some task)
  pub terms : Terms
  pub terms_are : terms_of class leaf sizes key ≡ Some terms
  pub passes : Passes class leaf terms task count

-- all was read for a set and each record tried, and it needs more numbers than there are: nothing is drawn or put
pub record IsLacking (told : Type 0) (before after : ℕ → Option (List ℕ)) (calls calls' : List Call) (root : ℕ) (sizes : Sizes) (key : Key) (value : Option (List ℕ)) (supply : ℕ) : Type 0 where
  pub count : ℕ
  pub needs : Needs before root sizes key value count
  pub more : supply < count
  pub contents : after ≡ before
  pub log : told → calls' ≡ calls ++ reads_under before root sizes key value

-- what a set answers and leaves where there are so many numbers
abbrev pub SetsWithin : Type 0 → (ℕ → Option (List ℕ)) → (ℕ → Option (List ℕ)) → List Call → List Call → ℕ → Sizes → Key → Option (List ℕ) → ℕ → Result SetEnd TreeError → Type 0
SetsWithin told before after calls calls' root sizes key value supply (Ok Done) = Sets told before after calls calls' root sizes key value (Ok _)
SetsWithin told before after calls calls' root sizes key value supply (Ok Lacks) = IsLacking told before after calls calls' root sizes key value supply
SetsWithin told before after calls calls' root sizes key value supply (Err e) = Sets told before after calls calls' root sizes key value (Err e)

-- ---- a law

-- each change of a set makes so many new objects, and none can be one that can't be written
pub record AreAlike (class leaf : Class) (terms : Terms) (task : Task) (count : ℕ) : Type 0 where
  pub counts : CountsNews terms task count
  pub never_fails : Fails class leaf terms task → ⊥

-- Where one change of a set can be written, all are alike, whatever their numbers: so a set that is made again over the same
-- contents needs as many, and isn't refused.
abbrev pub ChangesAreAlike : Type 0
ChangesAreAlike = (class leaf : Class) (terms : Terms) (task : Task) (count : ℕ) → Passes class leaf terms task count → AreAlike class leaf terms task count
