-- What the graphs of states are whose values are leaves. Own.
use Rattle.std.specs.Prelude.{List, [], ◌∷◌}
use Rattle.std.specs.Option.{IsSome}
use Rattle.pickle_graph.specs.Graph.{IsGraph, IsGlobal, IsSigned128}
use Rattle.pickle_references.specs.Named.{oids_of}
use Rattle.btree_family.specs.declared.key.Key.{Key}
use Rattle.btree_family.specs.declared.key.Key.TheVariants.{Text, Bytes, Number}
use Rattle.btree_family.specs.Classes.{Class}
use Rattle.btree_family.specs.Buckets.{BucketContents, keys_of}
use Rattle.bucket_state.specs.Writable.{AreWritable}
use Rattle.bucket_state.specs.declared.tree.Inner.{Inner}
use Rattle.bucket_state.specs.Trees.{separators_of}
use Rattle.bucket_state.specs.Written.{bucket_graph, inner_graph}
use Rattle.bucket_state.specs.Flat.{FlatItems}

-- a number has 128 bits with a sign
abbrev pub IsSignedKey : Key → Type 0
IsSignedKey (Text text) = Unit {0}
IsSignedKey (Bytes bytes) = Unit {0}
IsSignedKey (Number n) = IsSigned128 n

abbrev pub AreSignedKeys : List Key → Type 0
AreSignedKeys [] = Unit {0}
AreSignedKeys (key ∷ keys) = IsSignedKey key × AreSignedKeys keys

-- the graph of a bucket of flat values is one, where its keys and its class's names can be written
abbrev pub FlatIsSound : Type 0
FlatIsSound =
    (class : Class) (bucket : BucketContents) → IsGlobal class.module_name class.class_name → AreWritable (keys_of bucket.items) →
    AreSignedKeys (keys_of bucket.items) → FlatItems class bucket.items → IsGraph (bucket_graph class bucket).nodes (bucket_graph class bucket).root

-- the references in it all name something
abbrev pub FlatIsNamed : Type 0
FlatIsNamed =
    (class : Class) (bucket : BucketContents) → IsGlobal class.module_name class.class_name → AreWritable (keys_of bucket.items) →
    AreSignedKeys (keys_of bucket.items) → FlatItems class bucket.items → IsSome (oids_of (bucket_graph class bucket))

-- ---- objects with others below them

-- so is the graph of such an object, where its separators and both classes' names can be written
abbrev pub InnerIsSound : Type 0
InnerIsSound =
    (child leaf : Class) (inner : Inner) → IsGlobal child.module_name child.class_name → IsGlobal leaf.module_name leaf.class_name →
    AreWritable (separators_of inner.tail) → AreSignedKeys (separators_of inner.tail) →
    IsGraph (inner_graph child leaf inner).nodes (inner_graph child leaf inner).root

abbrev pub InnerIsNamed : Type 0
InnerIsNamed =
    (child leaf : Class) (inner : Inner) → IsGlobal child.module_name child.class_name → IsGlobal leaf.module_name leaf.class_name →
    AreWritable (separators_of inner.tail) → AreSignedKeys (separators_of inner.tail) → IsSome (oids_of (inner_graph child leaf inner))
