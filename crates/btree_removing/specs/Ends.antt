-- What a remove answers and leaves, on every tree. Own.
use Rattle.std.specs.Prelude.{◌≡◌, ℕ, Bool, true, false, List, ◌++◌, Option, Some, None, Result, Ok, Err, ◌⊎◌}
use Rattle.btree_family.specs.declared.key.Key.{Key}
use Rattle.btree_family.specs.Classes.{Class, class_seen, classes, leaf_in}
use Rattle.btree_shapes.specs.declared.error.TreeError.{TreeError}
use Rattle.btree_shapes.specs.declared.error.TreeError.TheVariants.{NotATree, NodeMissing, BadKey, Refused, Memory}
use Rattle.btree_shapes.specs.declared.space.Call.{Call}
use Rattle.btree_shapes.specs.Nodes.{class_held}
use Rattle.btree_shapes.specs.Met.{ReadsFirst}
use Rattle.btree_shapes.specs.Ways.{IsRefusal}
use Rattle.btree_putting.specs.declared.puts.Put.{Put}
use Rattle.btree_putting.specs.Puts.{all_keep}
use Rattle.btree_putting.specs.Storing.{IsStored, IsStoredFront}
use Rattle.btree_removing.specs.declared.removing.Finding.{Finding}
use Rattle.btree_removing.specs.Plans.{met_under, plan_under, reads_under}

-- what was found: nothing that is to be changed, or what is to be put, and the classes of the tree
abbrev pub IsFinding : (ℕ → Option (List ℕ)) → ℕ → Key → Option Finding → Type 0
IsFinding before root key None = plan_under before root key ≡ Ok None
IsFinding before root key (Some x) =
    (class_held (before root) ≡ Some (class_seen x.family.row.now)) × (leaf_in classes (class_seen x.family.row.now) ≡ Some (class_seen x.family.leaf.now))
    × (plan_under before root key ≡ Ok (Some x.puts))

-- ---- writing

-- nothing is put, since a record can't be written or doesn't read back
pub record IsUnwritable (told : Type 0) (class leaf : Class) (puts : List Put) (before after : ℕ → Option (List ℕ)) (calls calls' : List Call) : Type 0 where
  pub fails : all_keep class leaf puts ≡ false
  pub contents : after ≡ before
  pub log : told → calls' ≡ calls

-- nothing is put, since there was no memory to try the records
pub record IsUntried (told : Type 0) (before after : ℕ → Option (List ℕ)) (calls calls' : List Call) : Type 0 where
  pub contents : after ≡ before
  pub log : told → calls' ≡ calls

-- all records can be written and read back, and the first puts were done
pub record IsBrokenOff (told : Type 0) (class leaf : Class) (puts : List Put) (before after : ℕ → Option (List ℕ)) (calls calls' : List Call) : Type 0 where
  pub passes : all_keep class leaf puts ≡ true
  pub stored : IsStoredFront told class leaf puts before after calls calls'

abbrev pub Breaks : Type 0 → Class → Class → List Put → (ℕ → Option (List ℕ)) → (ℕ → Option (List ℕ)) → List Call → List Call → TreeError → Type 0
Breaks told class leaf puts before after calls calls' (NotATree oid) = ⊥
Breaks told class leaf puts before after calls calls' (NodeMissing oid) = ⊥
Breaks told class leaf puts before after calls calls' BadKey = IsUnwritable told class leaf puts before after calls calls'
Breaks told class leaf puts before after calls calls' (Refused refusal) = IsBrokenOff told class leaf puts before after calls calls'
Breaks told class leaf puts before after calls calls' Memory = IsUntried told before after calls calls' ⊎ IsBrokenOff told class leaf puts before after calls calls'

-- what putting these answers, in a tree of this class with leaves of the other class
abbrev pub Writes : Type 0 → Class → Class → List Put → (ℕ → Option (List ℕ)) → (ℕ → Option (List ℕ)) → List Call → List Call → Result (Unit {0}) TreeError → Type 0
Writes told class leaf puts before after calls calls' (Ok u) = IsStored told class leaf puts before after calls calls'
Writes told class leaf puts before after calls calls' (Err e) = Breaks told class leaf puts before after calls calls' e

-- ---- the whole

-- what is to be put is this, in a tree of this class with leaves of the other class, and all was read for it
pub record HasPuts (told : Type 0) (before : ℕ → Option (List ℕ)) (calls middle : List Call) (root : ℕ) (key : Key) (class leaf : Class) (puts : List Put) : Type 0 where
  pub class_is : class_held (before root) ≡ Some class
  pub leaf_is : leaf_in classes class ≡ Some leaf
  pub plan_is : plan_under before root key ≡ Ok (Some puts)
  pub reads : told → middle ≡ calls ++ reads_under before root key

-- the key was there, and all was put
pub record IsRemoved (told : Type 0) (before after : ℕ → Option (List ℕ)) (calls calls' : List Call) (root : ℕ) (key : Key) : Type 0 where
  pub class : Class
  pub leaf : Class
  pub puts : List Put
  pub middle : List Call
  pub plan : HasPuts told before calls middle root key class leaf puts
  pub stored : IsStored told class leaf puts before after middle calls'

-- the key was not there: nothing is put
pub record IsAbsent (told : Type 0) (before after : ℕ → Option (List ℕ)) (calls calls' : List Call) (root : ℕ) (key : Key) : Type 0 where
  pub none : plan_under before root key ≡ Ok None
  pub contents : after ≡ before
  pub log : told → calls' ≡ calls ++ reads_under before root key

-- what is to be changed was not found: only the first objects of the way were read, and nothing is put
pub record IsRefusedBefore (told : Type 0) (before after : ℕ → Option (List ℕ)) (calls calls' : List Call) (root : ℕ) (key : Key) (e : TreeError) : Type 0 where
  pub refusal : IsRefusal e (plan_under before root key)
  pub contents : after ≡ before
  pub log : told → ReadsFirst (met_under before root key) calls calls'

-- what is to be changed was found, and not all was put
pub record IsStopped (told : Type 0) (before after : ℕ → Option (List ℕ)) (calls calls' : List Call) (root : ℕ) (key : Key) (e : TreeError) : Type 0 where
  pub class : Class
  pub leaf : Class
  pub puts : List Put
  pub middle : List Call
  pub plan : HasPuts told before calls middle root key class leaf puts
  pub breaks : Breaks told class leaf puts before after middle calls' e

abbrev pub Removes : Type 0 → (ℕ → Option (List ℕ)) → (ℕ → Option (List ℕ)) → List Call → List Call → ℕ → Key → Result Bool TreeError → Type 0
Removes told before after calls calls' root key (Ok true) = IsRemoved told before after calls calls' root key
Removes told before after calls calls' root key (Ok false) = IsAbsent told before after calls calls' root key
Removes told before after calls calls' root key (Err e) =
    IsRefusedBefore told before after calls calls' root key e ⊎ IsStopped told before after calls calls' root key e
