-- Sound trees and their mappings. From: the BTrees package.
use Rattle.std.specs.Prelude.{◌≡◌, ℕ, ◌<◌, ◌^◌, zero, suc, true, false, List, [], ◌∷◌, ◌++◌, map, Option, Some, None, ◌⊎◌}
use Rattle.btree_family.specs.declared.key.Key.{Key}
use Rattle.btree_family.specs.declared.bucket.Item.{Item}
use Rattle.btree_family.specs.Keys.{rank_of, is_below}
use Rattle.btree_family.specs.Buckets.{keys_of}
use Rattle.btree_family.specs.Rising.{Rises}
use Rattle.bucket_state.specs.declared.tree.Branch.{Branch}
use Rattle.btree_shapes.specs.declared.node.Node.{Node}
use Rattle.btree_shapes.specs.declared.node.Node.TheVariants as node
use Rattle.btree_shapes.specs.Nodes.{Held, Nothing, Foreign, Holds}

-- ---- shapes

-- a leaf that is an object of its own
pub record LeafShape : Type 0 where
  pub oid : ℕ
  pub items : List Item
  pub next : Option ℕ

-- a child, and the separator before it
pub record Limb (S : Type 0) : Type 0 where
  pub key : Key
  pub child : S

-- an object with others below it
pub record InnerShape (S : Type 0) : Type 0 where
  pub oid : ℕ
  pub head : S
  pub tail : List (Limb S)
  pub first : ℕ

-- what stands below an object all of whose leaves stand this far below it, the object included
abbrev pub Shape : ℕ → Type 0
Shape zero = LeafShape
Shape (suc h) = InnerShape (Shape h)

abbrev pub oid_of : (h : ℕ) → Shape h → ℕ
oid_of zero s = s.oid
oid_of (suc h) s = s.oid

-- what holds of each child behind the first
abbrev pub EachChild : {S : Type 0} → (S → Type 0) → List (Limb S) → Type 0
EachChild P [] = Unit {0}
EachChild P (limb ∷ limbs) = P limb.child × EachChild P limbs

-- what a first child gives, and then what each other gives
abbrev pub joined : {S X : Type 0} → (S → List X) → S → List (Limb S) → List X
joined f child [] = f child
joined f child (limb ∷ limbs) = f child ++ joined f limb.child limbs

abbrev pub branch_of : (h : ℕ) → Limb (Shape h) → Branch
branch_of h limb = record { key = limb.key; child = oid_of h limb.child }

-- ---- what makes a tree sound

abbrev pub node_held : Held → Option Node
node_held Nothing = None
node_held Foreign = None
node_held (Holds class node) = Some node

-- the node that an object is, if it is one of the tree
abbrev pub nodes_in : (ℕ → Held) → ℕ → Option Node
nodes_in objects oid = node_held (objects oid)

-- the shape's objects stand among these nodes
abbrev pub Stands : (ℕ → Option Node) → (h : ℕ) → Shape h → Type 0
Stands nodes zero s = nodes s.oid ≡ Some (node.Leaf (record { items = s.items; next = s.next }))
Stands nodes (suc h) s =
    (nodes s.oid ≡ Some (node.Inner (record { head = oid_of h s.head; tail = map (branch_of h) s.tail; first = s.first })))
    × Stands nodes h s.head × EachChild (Stands nodes h) s.tail

-- the key is not below a bound, if there is one
abbrev pub IsFrom : Option Key → Key → Type 0
IsFrom None key = Unit {0}
IsFrom (Some low) key = is_below key low ≡ false

-- the key is below a bound, if there is one
abbrev pub IsUpTo : Option Key → Key → Type 0
IsUpTo None key = Unit {0}
IsUpTo (Some high) key = is_below key high ≡ true

-- all keys stand from one bound on and below the other
abbrev pub AreWithin : Option Key → Option Key → List Item → Type 0
AreWithin low high [] = Unit {0}
AreWithin low high (item ∷ items) = IsFrom low item.key × IsUpTo high item.key × AreWithin low high items

-- separators stand within the bounds, and bound what is in and below the children between them
abbrev pub Parted : {S : Type 0} → (Option Key → Option Key → S → Type 0) → Option Key → Option Key → S → List (Limb S) → Type 0
Parted B low high child [] = B low high child
Parted B low high child (limb ∷ limbs) = IsFrom low limb.key × IsUpTo high limb.key × B low (Some limb.key) child × Parted B (Some limb.key) high limb.child limbs

-- keys rise in each leaf, and all keys and separators stand within the separators above them
abbrev pub Bounded : (h : ℕ) → Option Key → Option Key → Shape h → Type 0
Bounded zero low high s = Rises None (keys_of s.items) × AreWithin low high s.items
Bounded (suc h) low high s = Parted (Bounded h) low high s.head s.tail

-- the keys are of this kind
abbrev pub AreOfKind : ℕ → List Item → Type 0
AreOfKind kind [] = Unit {0}
AreOfKind kind (item ∷ items) = (rank_of item.key ≡ kind) × AreOfKind kind items

abbrev pub EachLimb : {S : Type 0} → ℕ → (S → Type 0) → List (Limb S) → Type 0
EachLimb kind P [] = Unit {0}
EachLimb kind P (limb ∷ limbs) = (rank_of limb.key ≡ kind) × P limb.child × EachLimb kind P limbs

-- all keys and separators are of this kind
abbrev pub OfKind : ℕ → (h : ℕ) → Shape h → Type 0
OfKind kind zero s = AreOfKind kind s.items
OfKind kind (suc h) s = OfKind kind h s.head × EachLimb kind (OfKind kind h) s.tail

-- a leaf's number and the number that it links to
pub record Link : Type 0 where
  pub oid : ℕ
  pub next : Option ℕ

-- the links of the leaves, in order
abbrev pub links_of : (h : ℕ) → Shape h → List Link
links_of zero s = record { oid = s.oid; next = s.next } ∷ []
links_of (suc h) s = joined (links_of h) s.head s.tail

-- the items of all leaves, in order
abbrev pub mapping_of : (h : ℕ) → Shape h → List Item
mapping_of zero s = s.items
mapping_of (suc h) s = joined (mapping_of h) s.head s.tail

-- each leaf links to the one behind it, and the last to none
abbrev pub Linked : List Link → Type 0
Linked [] = Unit {0}
Linked (x ∷ []) = x.next ≡ None
Linked (x ∷ y ∷ rest) = (x.next ≡ Some y.oid) × Linked (y ∷ rest)

abbrev pub first_leaf : (h : ℕ) → Shape h → ℕ
first_leaf zero s = s.oid
first_leaf (suc h) s = first_leaf h s.head

-- each object with others below it names its first leaf
abbrev pub NamesFirst : (h : ℕ) → Shape h → Type 0
NamesFirst zero s = Unit {0}
NamesFirst (suc h) s = (s.first ≡ first_leaf h s.head) × NamesFirst h s.head × EachChild (NamesFirst h) s.tail

-- the tree with this root has this shape, and is sound
pub record IsSound (nodes : ℕ → Option Node) (root kind h : ℕ) (s : Shape h) : Type 0 where
  pub root_is : oid_of h s ≡ root
  pub height : h < 2 ^ 64
  pub stands : Stands nodes h s
  pub bounded : Bounded h None None s
  pub of_kind : OfKind kind h s
  pub names : NamesFirst h s
  pub linked : Linked (links_of h s)

-- the tree with this root has one leaf that is no object of its own, with these items
pub record IsLone (nodes : ℕ → Option Node) (root kind : ℕ) (items : List Item) : Type 0 where
  pub stands : nodes root ≡ Some (node.Lone (record { items = items; next = None }))
  pub rises : Rises None (keys_of items)
  pub of_kind : AreOfKind kind items

-- the tree with this root is sound, has keys of this kind, and has this mapping
abbrev pub IsTree : (ℕ → Held) → ℕ → ℕ → List Item → Type 0
IsTree objects root kind mapping =
    IsLone (nodes_in objects) root kind mapping ⊎ ((h : ℕ) × (s : Shape h) × IsSound (nodes_in objects) root kind h s × (mapping ≡ mapping_of h s))
