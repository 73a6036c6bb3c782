-- Objects that were read.
use Rattle.std.proofs.Common.{◌≡◌, ℕ, Bool, true, false, List, [], ◌∷◌, ◌++◌, Option, Some, None, Result, Ok, Err, sym, ◌∙◌, ap, subst, inr}
use Rattle.pickle_graph.specs.Graph.{Graph}
use Rattle.btree_family.specs.Classes.{Class, class_seen}
use Rattle.zb_record.specs.declared.error.RecordError.{RecordError}
use Rattle.zb_record.specs.Records.{record_of}
use Rattle.btree_shapes.specs.declared.error.TreeError.{TreeError}
use Rattle.btree_shapes.specs.declared.error.TreeError.TheVariants.{NotATree, NodeMissing, BadKey, Refused, Memory}
use Rattle.btree_shapes.specs.declared.node.Node.{Node}
use Rattle.btree_shapes.specs.declared.reading.Entry.{Entry}
use Rattle.btree_shapes.specs.declared.reading.Rooted.{Rooted}
use Rattle.btree_shapes.specs.declared.space.Call.{Call}
use Rattle.btree_shapes.specs.declared.space.Call.TheVariants.{Read}
use Rattle.btree_shapes.specs.Spaces.{IsLogged}
use Rattle.btree_shapes.specs.Classes.{class_named}
use Rattle.btree_shapes.specs.Nodes.{Foreign, Holds, held_in, held_node, held_record, node_of, class_held, record_class, objects_of}
use Rattle.btree_shapes.specs.Reading.{HoldsRecord, IsUnread, IsReadError, IsEntry, IsRooted}

held_as : (class : Class) (content : Option (List ℕ)) (own state : Graph) → HoldsRecord content own state → held_in (Some class) content ≡ held_node own (node_of class own state)
held_as class content own state (bytes, at, is) = ap (held_in (Some class)) at ∙ ap (held_record class) is

-- the class that the record has
pub class_read : (content : Option (List ℕ)) (own state : Graph) → HoldsRecord content own state → class_held content ≡ class_named own
class_read content own state (bytes, at, is) = ap class_held at ∙ ap record_class is

entry_in : (class : Class) (content : Option (List ℕ)) (own state : Graph) (oid : ℕ) (result : Result Entry TreeError) → HoldsRecord content own state → IsEntry (held_node own (node_of class own state)) oid result → IsEntry (held_in (Some class) content) oid result
entry_in class content own state oid result h e = subst (λ held. IsEntry held oid result) (sym (held_as class content own state h)) e

pub entry_read : (contents : ℕ → Option (List ℕ)) (tree : Rooted) (own state : Graph) (oid : ℕ) (result : Result Entry TreeError) → IsRooted contents tree → HoldsRecord (contents oid) own state → IsEntry (held_node own (node_of (class_seen tree.row.now) own state)) oid result → IsEntry (objects_of contents tree.root oid) oid result
entry_read contents tree own state oid result r h e =
    subst (λ class. IsEntry (held_in class (contents oid)) oid result) (sym r) (entry_in (class_seen tree.row.now) (contents oid) own state oid result h e)

unread_in : (class : Option Class) (content : Option (List ℕ)) (oid : ℕ) (e : TreeError) → IsUnread content oid e → IsReadError (held_in class content) oid e
unread_in None content oid (NotATree other) (o, (bytes, why, at, is)) = (o, ap (held_in None) at)
unread_in (Some class) content oid (NotATree other) (o, (bytes, why, at, is)) = (o, ap (held_in (Some class)) at ∙ ap (held_record class) is)
unread_in None content oid (NodeMissing other) (o, at) = (o, ap (held_in None) at)
unread_in (Some class) content oid (NodeMissing other) (o, at) = (o, ap (held_in (Some class)) at)
unread_in class content oid BadKey u = u
unread_in class content oid (Refused refusal) u = u
unread_in class content oid Memory u = u

pub entry_unread : (contents : ℕ → Option (List ℕ)) (tree : Rooted) (oid : ℕ) (e : TreeError) → IsUnread (contents oid) oid e → IsReadError (objects_of contents tree.root oid) oid e
entry_unread contents tree oid e u = unread_in (class_held (contents tree.root)) (contents oid) oid e u

pub root_unread : (contents : ℕ → Option (List ℕ)) (root : ℕ) (e : TreeError) → IsUnread (contents root) root e → IsReadError (objects_of contents root root) root e
root_unread contents root e u = unread_in (class_held (contents root)) (contents root) root e u

pub root_classless : (contents : ℕ → Option (List ℕ)) (root : ℕ) (own state : Graph) → HoldsRecord (contents root) own state → class_named own ≡ None → objects_of contents root root ≡ Foreign
root_classless contents root own state h none =
    ap (λ class. held_in class (contents root)) (class_read (contents root) own state h ∙ none) ∙ ap (held_in None) h.1

pub root_read : (class : Class) (contents : ℕ → Option (List ℕ)) (root : ℕ) (own state : Graph) (result : Result Entry TreeError) → HoldsRecord (contents root) own state → class_named own ≡ Some class → IsEntry (held_node own (node_of class own state)) root result → IsEntry (objects_of contents root root) root result
root_read class contents root own state result h named e =
    subst (λ c. IsEntry (held_in c (contents root)) root result) (sym (class_read (contents root) own state h ∙ named)) (entry_in class (contents root) own state root result h e)

-- ---- objects that are recalled

pub held_entry : (class : Class) (content : Option (List ℕ)) (own state : Graph) (entry : Entry) → HoldsRecord content own state → held_node own (node_of class own state) ≡ Holds entry.class entry.node → held_in (Some class) content ≡ Holds entry.class entry.node
held_entry class content own state entry h e = held_as class content own state h ∙ e

pub entry_recalled : (contents : ℕ → Option (List ℕ)) (tree : Rooted) (oid : ℕ) (entry : Entry) → IsRooted contents tree → held_in (Some (class_seen tree.row.now)) (contents oid) ≡ Holds entry.class entry.node → objects_of contents tree.root oid ≡ Holds entry.class entry.node
entry_recalled contents tree oid entry r h = ap (λ class. held_in class (contents oid)) r ∙ h

pub held_same : (row other : Class) (content : Option (List ℕ)) (class : Graph) (node : Node) → row ≡ other → held_in (Some row) content ≡ Holds class node → held_in (Some other) content ≡ Holds class node
held_same row other content class node e h = ap (λ c. held_in (Some c) content) (sym e) ∙ h

same_class : (own class : Graph) (a b : Node) → Holds own a ≡ Holds class b → own ≡ class
same_class own class a b e = cc

node_class : (found : Option Node) (own class : Graph) (node : Node) → held_node own found ≡ Holds class node → class_named own ≡ class_named class
node_class None own class node h = absurd cc
node_class (Some a) own class node h = ap class_named (same_class own class a node h)

read_class : (row : Class) (read : Result (Graph × Graph) RecordError) (class : Graph) (node : Node) → held_record row read ≡ Holds class node → record_class read ≡ class_named class
read_class row (Err e) class node h = absurd cc
read_class row (Ok object) class node h = node_class (node_of row object.0 object.1) object.0 class node h

pub class_recalled : (row : Class) (content : Option (List ℕ)) (class : Graph) (node : Node) → held_in (Some row) content ≡ Holds class node → class_held content ≡ class_named class
class_recalled row None class node h = absurd cc
class_recalled row (Some bytes) class node h = read_class row (record_of bytes) class node h

pub root_recalled : (row : Class) (contents : ℕ → Option (List ℕ)) (root : ℕ) (class : Graph) (node : Node) → held_in (Some row) (contents root) ≡ Holds class node → Some row ≡ class_named class
    → (class_held (contents root) ≡ Some row) × (objects_of contents root root ≡ Holds class node)
root_recalled row contents root class node h named =
    let rooted = class_recalled row (contents root) class node h ∙ sym named in
    (rooted, ap (λ c. held_in c (contents root)) rooted ∙ h)

-- after the reading there may be no memory left
logged_after : (oid : ℕ) (b : Bool) (before after : List Call) → IsLogged oid false before after → IsLogged oid b before after
logged_after oid true before after l = inr l
logged_after oid false before after l = l

pub logged_more : (oid : ℕ) (b : Bool) (before after : List Call) → after ≡ before ++ Read oid ∷ [] → IsLogged oid b before after
logged_more oid b before after l = logged_after oid b before after l
