-- What reading one object of a tree answers. Own.
use Rattle.std.specs.Prelude.{◌≡◌, ℕ, List, Option, Some, None, Result, Ok, Err}
use Rattle.pickle_graph.specs.Graph.{Graph}
use Rattle.btree_family.specs.Classes.{class_seen}
use Rattle.zb_record.specs.declared.error.RecordError.{RecordError}
use Rattle.zb_record.specs.Records.{record_of}
use Rattle.btree_shapes.specs.declared.error.TreeError.{TreeError}
use Rattle.btree_shapes.specs.declared.error.TreeError.TheVariants.{NotATree, NodeMissing, BadKey, Refused, Memory}
use Rattle.btree_shapes.specs.declared.reading.Entry.{Entry}
use Rattle.btree_shapes.specs.declared.reading.Rooted.{Rooted}
use Rattle.btree_shapes.specs.Nodes.{Held, Nothing, Foreign, Holds, class_held, objects_of}

-- the bytes are a record of this class and this state
abbrev pub HoldsRecord : Option (List ℕ) → Graph → Graph → Type 0
HoldsRecord content class state = (bytes : List ℕ) × (content ≡ Some bytes) × (record_of bytes ≡ Ok (class, state))

-- why no record was read: there is no content, or it is no record; other refusals are the space's, or want of memory
abbrev pub IsUnread : Option (List ℕ) → ℕ → TreeError → Type 0
IsUnread content oid (NotATree other) = (other ≡ oid) × ((bytes : List ℕ) × (e : RecordError) × (content ≡ Some bytes) × (record_of bytes ≡ Err e))
IsUnread content oid (NodeMissing other) = (other ≡ oid) × (content ≡ None)
IsUnread content oid BadKey = ⊥
IsUnread content oid (Refused refusal) = Unit {0}
IsUnread content oid Memory = Unit {0}

-- why an object of a tree was not read
abbrev pub IsReadError : Held → ℕ → TreeError → Type 0
IsReadError held oid (NotATree other) = (other ≡ oid) × (held ≡ Foreign)
IsReadError held oid (NodeMissing other) = (other ≡ oid) × (held ≡ Nothing)
IsReadError held oid BadKey = ⊥
IsReadError held oid (Refused refusal) = Unit {0}
IsReadError held oid Memory = Unit {0}

-- an object of a tree was read, or not
abbrev pub IsEntry : Held → ℕ → Result Entry TreeError → Type 0
IsEntry held oid (Ok entry) = held ≡ Holds entry.class entry.node
IsEntry held oid (Err e) = IsReadError held oid e

-- the tree's root has this class of BTrees
abbrev pub IsRooted : (ℕ → Option (List ℕ)) → Rooted → Type 0
IsRooted contents tree = class_held (contents tree.root) ≡ Some (class_seen tree.row.now)

-- the root of a tree was read, and its class, or not
abbrev pub IsRoot : (ℕ → Option (List ℕ)) → ℕ → Result (Rooted × Entry) TreeError → Type 0
IsRoot contents root (Ok found) =
    (found.0.root ≡ root) × IsRooted contents found.0 × (objects_of contents root root ≡ Holds found.1.class found.1.node)
IsRoot contents root (Err e) = IsReadError (objects_of contents root root) root e
