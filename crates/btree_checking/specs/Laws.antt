-- The verdict and sound trees. Own.
use Rattle.std.specs.Prelude.{◌≡◌, ℕ, ◌+◌, ◌<◌, ◌^◌, zero, suc, false, List, [], ◌∷◌, length, Option, None, ◌⊎◌}
use Rattle.btree_family.specs.declared.bucket.Item.{Item}
use Rattle.btree_shapes.specs.declared.node.Node.{Node}
use Rattle.btree_shapes.specs.Nodes.{Held, objects_of}
use Rattle.btree_shapes.specs.Shapes.{Shape, Limb, oid_of, EachChild, Stands, Bounded, OfKind, NamesFirst, Linked, links_of, mapping_of, nodes_in, IsSound, IsLone, IsTree}
use Rattle.btree_checking.specs.declared.verdict.Verdict.{Verdict}
use Rattle.btree_checking.specs.declared.verdict.Verdict.TheVariants.{Sound, Broken}
use Rattle.btree_shapes.specs.Ways.{stands_in}
use Rattle.btree_checking.specs.Walks.{walk_of, read_by}
use Rattle.btree_checking.specs.Verdicts.{verdict_of}

-- ---- how many objects a tree has

abbrev pub sum_of : {S : Type 0} → (S → ℕ) → S → List (Limb S) → ℕ
sum_of f child [] = f child
sum_of f child (limb ∷ limbs) = f child + sum_of f limb.child limbs

-- how many objects a shape has
abbrev pub size_of : (h : ℕ) → Shape h → ℕ
size_of zero s = 1
size_of (suc h) s = suc (sum_of (size_of h) s.head s.tail)

-- the tree with this root is sound, has keys of this kind, this mapping, and so many objects
abbrev pub IsTreeOf : (ℕ → Held) → ℕ → ℕ → List Item → ℕ → Type 0
IsTreeOf objects root kind mapping nodes =
    (IsLone (nodes_in objects) root kind mapping × (nodes ≡ 1))
    ⊎ ((h : ℕ) × (s : Shape h) × IsSound (nodes_in objects) root kind h s × (mapping ≡ mapping_of h s) × (nodes ≡ size_of h s))

-- ---- the laws

-- where a tree is found sound, it is, with as many items and objects as the check says
abbrev pub CheckedIsSound : Type 0
CheckedIsSound =
    (contents : ℕ → Option (List ℕ)) (root items nodes : ℕ) → verdict_of (objects_of contents root) root ≡ Sound items nodes →
    (kind : ℕ) × (mapping : List Item) × IsTreeOf (objects_of contents root) root kind mapping nodes × (items ≡ length mapping)

-- where a tree is sound, it is found so, with as many items and objects as it has
abbrev pub SoundIsChecked : Type 0
SoundIsChecked =
    (objects : ℕ → Held) (root kind nodes : ℕ) (mapping : List Item) → IsTreeOf objects root kind mapping nodes → verdict_of objects root ≡ Sound (length mapping) nodes

-- the objects of a shape have the numbers that objects can have
abbrev pub HaveNumbers : (h : ℕ) → Shape h → Type 0
HaveNumbers zero s = s.oid < 2 ^ 64
HaveNumbers (suc h) s = (s.oid < 2 ^ 64) × HaveNumbers h s.head × EachChild (HaveNumbers h) s.tail

-- What makes a tree sound but for its height: the height follows, since each object on a way down has another number.
abbrev pub HeightIsBounded : Type 0
HeightIsBounded =
    (nodes : ℕ → Option Node) (root kind h : ℕ) (s : Shape h) → HaveNumbers h s → oid_of h s ≡ root → Stands nodes h s → Bounded h None None s → OfKind kind h s →
    NamesFirst h s → Linked (links_of h s) → IsSound nodes root kind h s

-- none of these numbers stands twice
abbrev pub AreDistinct : List ℕ → Type 0
AreDistinct [] = Unit {0}
AreDistinct (oid ∷ oids) = (stands_in oids oid ≡ false) × AreDistinct oids

-- a walk reads no object twice
abbrev pub EachIsReadOnce : Type 0
EachIsReadOnce = (objects : ℕ → Held) (root : ℕ) → AreDistinct (read_by (walk_of objects root))

-- ---- what a verdict means

-- a sound tree has so many items and objects; one with a verdict otherwise is not sound
abbrev pub MeansTree : (ℕ → Option (List ℕ)) → ℕ → Verdict → Type 0
MeansTree contents root (Sound items nodes) =
    (kind : ℕ) × (mapping : List Item) × IsTreeOf (objects_of contents root) root kind mapping nodes × (items ≡ length mapping)
MeansTree contents root (Broken oid rule) = (kind : ℕ) (mapping : List Item) → IsTree (objects_of contents root) root kind mapping → ⊥
