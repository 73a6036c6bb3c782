-- What a set draws and puts, on every tree. Own.
use Rattle.std.specs.Prelude.{◌≡◌, ℕ, suc, ◌<◌, ◌^◌, Bool, true, false, List, [], ◌∷◌, ◌++◌, length, map, Option, Some, None, Result, Ok, Err, ◌&&◌, ◌⊎◌}
use Rattle.pickle_graph.specs.Graph.{Graph, AllBelow}
use Rattle.btree_family.specs.declared.key.Key.{Key}
use Rattle.btree_family.specs.Classes.{Class}
use Rattle.btree_shapes.specs.declared.error.TreeError.{TreeError}
use Rattle.btree_shapes.specs.declared.error.TreeError.TheVariants.{NotATree, NodeMissing, BadKey, Refused, Memory}
use Rattle.btree_shapes.specs.declared.space.Call.{Call}
use Rattle.btree_shapes.specs.declared.space.Call.TheVariants.{Drew}
use Rattle.btree_putting.specs.declared.puts.Put.{Put}
use Rattle.btree_setting.specs.declared.change.Change.{Change}
use Rattle.btree_setting.specs.declared.growing.Plain.{Plain}
use Rattle.btree_setting.specs.declared.growing.Terms.{Terms}
use Rattle.btree_setting.specs.declared.preparing.Sizes.{Sizes}
use Rattle.btree_setting.specs.declared.preparing.Task.{Task}
use Rattle.btree_setting.specs.declared.setting.SetEnd.{SetEnd}
use Rattle.btree_setting.specs.declared.setting.SetEnd.TheVariants.{Done, Lacks}
use Rattle.btree_setting.specs.declared.setting.Trial.{Trial}
use Rattle.btree_setting.specs.declared.setting.Ahead.{Ahead}
use Rattle.btree_putting.specs.Writing.{plain_class}
use Rattle.btree_putting.specs.Kept.{AreTried}
use Rattle.btree_putting.specs.Puts.{put_oid, sort_puts, all_keep, AreSound}
use Rattle.btree_putting.specs.Storing.{IsStored, IsStoredFront}
use Rattle.btree_setting.specs.Changes.{AreDrawn, IsRootSet}

-- ---- drawing

abbrev pub AreZero : List ℕ → Type 0
AreZero [] = Unit {0}
AreZero (oid ∷ oids) = (oid ≡ 0) × AreZero oids

-- fewer numbers than so many were drawn, and nothing else was done
pub record DrewBelow (limit : ℕ) (calls calls' : List Call) : Type 0 where
  pub oids : List ℕ
  pub grown : calls' ≡ calls ++ map Drew oids
  pub below : length oids < limit

-- What is drawn of so many numbers by a call that ends so: fewer, where the space refused one, and no more, where there was no
-- memory.
abbrev pub DrewOf : ℕ → TreeError → List Call → List Call → Type 0
DrewOf count (NotATree oid) calls calls' = ⊥
DrewOf count (NodeMissing oid) calls calls' = ⊥
DrewOf count BadKey calls calls' = ⊥
DrewOf count (Refused refusal) calls calls' = DrewBelow count calls calls'
DrewOf count Memory calls calls' = DrewBelow (suc count) calls calls'

-- ---- the terms of a set

abbrev pub plain_of : Option Graph → Option Graph → Option Plain
plain_of None inner = None
plain_of (Some leaf) None = None
plain_of (Some leaf) (Some inner) = Some (record { leaf = leaf; inner = inner })

abbrev pub terms_with : Sizes → Key → Option Plain → Option Terms
terms_with sizes key None = None
terms_with sizes key (Some plain) = Some (record { leaf = sizes.leaf; inner = sizes.inner; key = key; plain = plain })

-- how many items and children there may be, the key, and the classes of new objects, where these can be written
abbrev pub terms_of : Class → Class → Sizes → Key → Option Terms
terms_of class leaf sizes key = terms_with sizes key (plain_of (plain_class leaf) (plain_class class))

-- what a set would change where each number that is drawn were 0
pub record IsTrial (terms : Terms) (task : Task) (change : Change) : Type 0 where
  pub set : IsRootSet terms task.bottom task.rungs change
  pub zero : AreZero (map put_oid change.news)

abbrev pub change_keeps : Class → Class → Change → Bool
change_keeps class leaf change = all_keep class leaf change.news && all_keep class leaf change.olds

-- a record of that can't be written, or doesn't read back
pub record Fails (class leaf : Class) (terms : Terms) (task : Task) : Type 0 where
  pub change : Change
  pub trial : IsTrial terms task change
  pub fails : change_keeps class leaf change ≡ false

-- they all can be written and read back, with so many new ones among them
pub record Passes (class leaf : Class) (terms : Terms) (task : Task) (count : ℕ) : Type 0 where
  pub change : Change
  pub trial : IsTrial terms task change
  pub kept : change_keeps class leaf change ≡ true
  pub sound_news : AreSound class leaf change.news
  pub sound_olds : AreSound class leaf change.olds
  pub counted : count ≡ length change.news

-- each change of the set has so many new objects
abbrev pub CountsNews : Terms → Task → ℕ → Type 0
CountsNews terms task count = (change : Change) → IsRootSet terms task.bottom task.rungs change → length change.news ≡ count

-- the same, with the records of changed objects
pub record IsTried (class leaf : Class) (terms : Terms) (task : Task) (trial : Trial) : Type 0 where
  pub passes : Passes class leaf terms task trial.count
  pub olds : AreTried class leaf passes.change.olds trial.olds

-- what trying the records of a set gives
abbrev pub Tried : Class → Class → Terms → Task → Option Trial → Type 0
Tried class leaf terms task None = Fails class leaf terms task
Tried class leaf terms task (Some trial) = IsTried class leaf terms task trial

-- ---- a plan

-- the puts of a change, in rising order of their numbers, of several with one number the new ones first
abbrev pub puts_of : Change → List Put
puts_of change = sort_puts (change.news ++ change.olds)

abbrev pub drew_news : Change → List Call
drew_news change = map Drew (map put_oid change.news)

-- the numbers of new objects are drawn, fewer than there are, each of eight bytes, and these are the puts
pub record IsPlan (told : Type 0) (terms : Terms) (task : Task) (puts : List Put) (calls calls' : List Call) : Type 0 where
  pub change : Change
  pub set : IsRootSet terms task.bottom task.rungs change
  pub puts_are : puts ≡ puts_of change
  pub few : length change.news < 2 ^ 64
  pub numbers : AllBelow (2 ^ 64) (map put_oid change.news)
  pub drawn : told → calls' ≡ calls ++ drew_news change

-- ---- numbers that are there already

-- All that a change puts whose new objects have the first of these numbers can be written and read back, and so can what the set
-- would put where each number were 0.
pub record IsAhead (class leaf : Class) (terms : Terms) (task : Task) (numbers : List ℕ) (ahead : Ahead) : Type 0 where
  pub passes : Passes class leaf terms task ahead.count
  pub change : Change
  pub set : IsRootSet terms task.bottom task.rungs change
  pub drawn : AreDrawn numbers change.news
  pub tried : AreTried class leaf (puts_of change) ahead.kept

-- the same, with the terms of the set
pub record HasAhead (class leaf : Class) (sizes : Sizes) (key : Key) (task : Task) (numbers : List ℕ) (ahead : Ahead) : Type 0 where
  pub terms : Terms
  pub terms_are : terms_of class leaf sizes key ≡ Some terms
  pub is_ahead : IsAhead class leaf terms task numbers ahead

-- ---- the whole

-- the records were tried, the numbers were drawn, and the puts follow
pub record Plans (told : Type 0) (class leaf : Class) (sizes : Sizes) (key : Key) (task : Task) (puts : List Put) (calls calls' : List Call) : Type 0 where
  pub terms : Terms
  pub terms_are : terms_of class leaf sizes key ≡ Some terms
  pub count : ℕ
  pub passes : Passes class leaf terms task count
  pub plan : IsPlan told terms task puts calls calls'

-- all puts of the plan were done
pub record IsWritten (told : Type 0) (class leaf : Class) (sizes : Sizes) (key : Key) (task : Task) (before after : ℕ → Option (List ℕ)) (calls calls' : List Call) : Type 0 where
  pub puts : List Put
  pub middle : List Call
  pub plan : Plans told class leaf sizes key task puts calls middle
  pub stored : IsStored told class leaf puts before after middle calls'

-- the first puts of the plan were done
pub record IsBrokenOff (told : Type 0) (class leaf : Class) (sizes : Sizes) (key : Key) (task : Task) (before after : ℕ → Option (List ℕ)) (calls calls' : List Call) : Type 0 where
  pub puts : List Put
  pub middle : List Call
  pub plan : Plans told class leaf sizes key task puts calls middle
  pub stored : IsStoredFront told class leaf puts before after middle calls'

-- each record was tried, not all numbers were drawn that are needed, and nothing was put
pub record IsUndrawn (told : Type 0) (class leaf : Class) (sizes : Sizes) (key : Key) (task : Task) (before after : ℕ → Option (List ℕ)) (calls calls' : List Call) (e : TreeError) : Type 0 where
  pub terms : Terms
  pub terms_are : terms_of class leaf sizes key ≡ Some terms
  pub count : ℕ
  pub passes : Passes class leaf terms task count
  pub contents : after ≡ before
  pub log : told → DrewOf count e calls calls'

-- there was no memory before a number was drawn
pub record IsUntried (told : Type 0) (before after : ℕ → Option (List ℕ)) (calls calls' : List Call) : Type 0 where
  pub contents : after ≡ before
  pub log : told → calls' ≡ calls

-- no record was put and no number drawn, since a record can't be written or doesn't read back
pub record IsUnwritable (told : Type 0) (class leaf : Class) (sizes : Sizes) (key : Key) (task : Task) (before after : ℕ → Option (List ℕ)) (calls calls' : List Call) : Type 0 where
  pub fails : (terms_of class leaf sizes key ≡ None) ⊎ ((terms : Terms) × (terms_of class leaf sizes key ≡ Some terms) × Fails class leaf terms task)
  pub contents : after ≡ before
  pub log : told → calls' ≡ calls

-- what a set answers that has found what it is to change
abbrev pub Writes : Type 0 → Class → Class → Sizes → Key → Task → (ℕ → Option (List ℕ)) → (ℕ → Option (List ℕ)) → List Call → List Call → Result (Unit {0}) TreeError → Type 0
Writes told class leaf sizes key task before after calls calls' (Ok u) = IsWritten told class leaf sizes key task before after calls calls'
Writes told class leaf sizes key task before after calls calls' (Err (NotATree oid)) = ⊥
Writes told class leaf sizes key task before after calls calls' (Err (NodeMissing oid)) = ⊥
Writes told class leaf sizes key task before after calls calls' (Err BadKey) = IsUnwritable told class leaf sizes key task before after calls calls'
Writes told class leaf sizes key task before after calls calls' (Err (Refused refusal)) =
    IsUndrawn told class leaf sizes key task before after calls calls' (Refused refusal) ⊎ IsBrokenOff told class leaf sizes key task before after calls calls'
Writes told class leaf sizes key task before after calls calls' (Err Memory) =
    IsUntried told before after calls calls' ⊎ (IsUndrawn told class leaf sizes key task before after calls calls' Memory ⊎ IsBrokenOff told class leaf sizes key task before after calls calls')

-- ---- where numbers may be lacking

-- there are fewer numbers than are needed, and each record was tried: nothing was drawn or put
pub record IsShort (told : Type 0) (class leaf : Class) (sizes : Sizes) (key : Key) (task : Task) (supply : ℕ) (before after : ℕ → Option (List ℕ)) (calls calls' : List Call) : Type 0 where
  pub terms : Terms
  pub terms_are : terms_of class leaf sizes key ≡ Some terms
  pub count : ℕ
  pub passes : Passes class leaf terms task count
  pub more : supply < count
  pub contents : after ≡ before
  pub log : told → calls' ≡ calls

-- what a set answers that has found what it is to change, where there are so many numbers
abbrev pub WritesWithin : Type 0 → Class → Class → Sizes → Key → Task → ℕ → (ℕ → Option (List ℕ)) → (ℕ → Option (List ℕ)) → List Call → List Call → Result SetEnd TreeError → Type 0
WritesWithin told class leaf sizes key task supply before after calls calls' (Ok Done) = Writes told class leaf sizes key task before after calls calls' (Ok _)
WritesWithin told class leaf sizes key task supply before after calls calls' (Ok Lacks) = IsShort told class leaf sizes key task supply before after calls calls'
WritesWithin told class leaf sizes key task supply before after calls calls' (Err e) = Writes told class leaf sizes key task before after calls calls' (Err e)
