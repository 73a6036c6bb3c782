-- Puts that are done, one after another. Own.
use Rattle.std.specs.Prelude.{◌≡◌, ℕ, true, List, ◌++◌, map, Option, Some}
use Rattle.btree_family.specs.Classes.{Class}
use Rattle.zb_record.specs.declared.record.ObjectRecord.{ObjectRecord}
use Rattle.pickle_graph.specs.Class.{is_class}
use Rattle.btree_shapes.specs.declared.error.TreeError.{TreeError}
use Rattle.btree_shapes.specs.declared.error.TreeError.TheVariants.{NotATree, NodeMissing, BadKey, Refused, Memory}
use Rattle.btree_shapes.specs.declared.space.Call.{Call}
use Rattle.btree_shapes.specs.declared.space.Call.TheVariants.{Wrote}
use Rattle.btree_putting.specs.declared.puts.Put.{Put}
use Rattle.btree_putting.specs.Writing.{node_state}
use Rattle.btree_putting.specs.Puts.{all_keep, IsSoundPut, put_all}

-- a refusal of the space, or want of memory
abbrev pub IsFree : TreeError → Type 0
IsFree (NotATree oid) = ⊥
IsFree (NodeMissing oid) = ⊥
IsFree BadKey = ⊥
IsFree (Refused refusal) = Unit {0}
IsFree Memory = Unit {0}

-- ---- one put

-- a record with the class and the state of a put
pub record IsRecordFor (class leaf : Class) (put : Put) (object : ObjectRecord) : Type 0 where
  pub class_same : object.class ≡ put.class
  pub class_is : is_class put.class ≡ true
  pub state_is : node_state class leaf put.leaves put.node ≡ Some object.state

-- the same, of graphs and spellings
pub record IsSoundRecord (class leaf : Class) (put : Put) (object : ObjectRecord) : Type 0 where
  pub is_for : IsRecordFor class leaf put object
  pub sound : IsSoundPut class leaf put

-- ---- puts in a row

abbrev pub wrote : Put → Call
wrote put = Wrote put.oid

-- these puts were done, in this order
pub record IsStored (told : Type 0) (class leaf : Class) (puts : List Put) (before after : ℕ → Option (List ℕ)) (calls calls' : List Call) : Type 0 where
  pub kept : all_keep class leaf puts ≡ true
  pub contents : after ≡ put_all class leaf puts before
  pub log : told → calls' ≡ calls ++ map wrote puts

-- the first of them were done
pub record IsStoredFront (told : Type 0) (class leaf : Class) (puts : List Put) (before after : ℕ → Option (List ℕ)) (calls calls' : List Call) : Type 0 where
  pub front : List Put
  pub behind : List Put
  pub cut : puts ≡ front ++ behind
  pub stored : IsStored told class leaf front before after calls calls'
