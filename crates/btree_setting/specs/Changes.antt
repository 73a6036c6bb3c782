-- What a set changes, from the leaf up. From: the BTrees package, whose nodes split so; that a root keeps two halves is own.
use Rattle.std.specs.Prelude.{◌≡◌, ℕ, ◌+◌, ◌/◌, ◌≤◌, ◌<◌, Bool, true, false, List, [], ◌∷◌, ◌++◌, length, map, Some, None, nat_lt, ◌&&◌, ◌⊎◌}
use Rattle.pickle_graph.specs.Graph.{Graph}
use Rattle.btree_family.specs.declared.key.Key.{Key}
use Rattle.btree_family.specs.declared.bucket.Item.{Item}
use Rattle.bucket_state.specs.declared.tree.Branch.{Branch}
use Rattle.btree_shapes.specs.declared.node.Node.{Node}
use Rattle.btree_shapes.specs.declared.node.Node.TheVariants as node
use Rattle.btree_setting.specs.declared.bottom.Bottom.{Bottom}
use Rattle.btree_setting.specs.declared.bottom.Place.{Place}
use Rattle.btree_setting.specs.declared.bottom.Place.TheVariants.{Lone, Alone, Below}
use Rattle.btree_putting.specs.declared.puts.Put.{Put}
use Rattle.btree_setting.specs.declared.change.Sprout.{Sprout}
use Rattle.btree_setting.specs.declared.change.Change.{Change}
use Rattle.btree_setting.specs.declared.growing.Plain.{Plain}
use Rattle.btree_setting.specs.declared.growing.Terms.{Terms}
use Rattle.btree_setting.specs.declared.rung.Rung.{Rung}
use Rattle.btree_setting.specs.declared.rung.Seam.{Seam}
use Rattle.btree_setting.specs.declared.rung.Seam.TheVariants.{New, Old, Beside}
use Rattle.btree_setting.specs.Inserting.{insert_branch, ItemsCut}
use Rattle.btree_putting.specs.Puts.{put_oid, leaf_node, lone_node, inner_node}

-- the numbers of the new nodes are the first of these, in their order
pub record AreDrawn (oids : List ℕ) (news : List Put) : Type 0 where
  pub rest : List ℕ
  pub cut : oids ≡ map put_oid news ++ rest

-- ---- the leaf

-- one object changes, and nothing goes further up
abbrev pub one_put : ℕ → Graph → Bool → Node → Change
one_put oid class leaves node = record { news = []; olds = record { oid = oid; class = class; leaves = leaves; node = node } ∷ []; up = None }

-- a leaf is split: its second half goes into a new leaf, which takes over its link
pub record LeafSplits (plain : Plain) (b : Bottom) (c : Change) : Type 0 where
  pub key : Key
  pub left : List Item
  pub right : List Item
  pub cut : ItemsCut b.leaf.items left (length b.leaf.items / 2) key right
  pub new : ℕ
  pub is : c ≡ record {
    news = record { oid = new; class = plain.leaf; leaves = false; node = leaf_node right b.leaf.next } ∷ [];
    olds = record { oid = b.oid; class = b.class; leaves = false; node = leaf_node left (Some new) } ∷ [];
    up = Some (record { key = key; child = new; first = new });
  }

-- a leaf without an oid is split: its halves go into two new leaves, and its object gets these two
pub record LoneSplits (plain : Plain) (b : Bottom) (c : Change) : Type 0 where
  pub key : Key
  pub left : List Item
  pub right : List Item
  pub cut : ItemsCut b.leaf.items left (length b.leaf.items / 2) key right
  pub new : ℕ
  pub other : ℕ
  pub is : c ≡ record {
    news = record { oid = new; class = plain.leaf; leaves = false; node = leaf_node left (Some other) }
        ∷ record { oid = other; class = plain.leaf; leaves = false; node = leaf_node right b.leaf.next } ∷ [];
    olds = record { oid = b.oid; class = b.class; leaves = true; node = inner_node new (record { key = key; child = other } ∷ []) new } ∷ [];
    up = None;
  }

-- the leaf got a new key, and has more than `max` items
abbrev pub leaf_grows : ℕ → Bottom → Bool
leaf_grows max b = b.adds && nat_lt max (length b.leaf.items)

-- the leaf is not split
abbrev pub LeafFits : ℕ → Node → Bottom → Change → Type 0
LeafFits max node b c = (leaf_grows max b ≡ false) × (c ≡ one_put b.oid b.class false node)

abbrev pub IsLeafSet : Place → ℕ → Plain → Bottom → Change → Type 0
IsLeafSet Alone max plain b c = c ≡ one_put b.oid b.class false (leaf_node b.leaf.items b.leaf.next)
IsLeafSet Below max plain b c = LeafFits max (leaf_node b.leaf.items b.leaf.next) b c ⊎ ((leaf_grows max b ≡ true) × LeafSplits plain b c)
IsLeafSet Lone max plain b c = LeafFits max (lone_node b.leaf.items b.leaf.next) b c ⊎ ((leaf_grows max b ≡ true) × LoneSplits plain b c)

-- a leaf that holds the items with the one that is set
abbrev pub IsBottom : ℕ → Plain → Bottom → Change → Type 0
IsBottom max plain b c = IsLeafSet b.place max plain b c

-- ---- the objects above

abbrev pub branch_up : Sprout → Branch
branch_up up = record { key = up.key; child = up.child }

-- the branches with the new child among them
abbrev pub grown : Key → Rung → Sprout → List Branch
grown key rung up = insert_branch (branch_up up) key rung.inner.tail

-- the first leaf below the child that begins the new half
abbrev pub seam_first : Seam → Sprout → ℕ
seam_first New up = up.first
seam_first (Old first) up = first
seam_first (Beside child) up = child

-- the separator in the middle, with the branches before and behind it
pub record BranchesCut (whole left : List Branch) (middle : Branch) (right : List Branch) : Type 0 where
  pub cut : whole ≡ left ++ middle ∷ right
  pub half : length left + 1 ≡ (length whole + 1) / 2

-- no new child: nothing is put here
pub record RiseNone (b c : Change) : Type 0 where
  pub none : b.up ≡ None
  pub is : c ≡ b

-- an object gets these branches, and nothing goes further up
abbrev pub fitted : Rung → List Branch → List Put → List Put → Change
fitted rung tail news olds = record {
  news = news;
  olds = olds ++ record { oid = rung.oid; class = rung.class; leaves = rung.leaves; node = inner_node rung.inner.head tail rung.inner.first } ∷ [];
  up = None;
}

-- the separator in the middle of the branches moves up, and what is behind it goes into a new object
pub record InnerSplits (plain : Plain) (rung : Rung) (up : Sprout) (tail : List Branch) (news olds : List Put) (c : Change) : Type 0 where
  pub left : List Branch
  pub middle : Branch
  pub right : List Branch
  pub cut : BranchesCut tail left middle right
  pub new : ℕ
  pub is : c ≡ record {
    news = news ++ record { oid = new; class = plain.inner; leaves = rung.leaves; node = inner_node middle.child right (seam_first rung.seam up) } ∷ [];
    olds = olds ++ record { oid = rung.oid; class = rung.class; leaves = rung.leaves; node = inner_node rung.inner.head left rung.inner.first } ∷ [];
    up = Some (record { key = middle.key; child = new; first = seam_first rung.seam up });
  }

-- the halves go into two new objects, and the root keeps these two
pub record RootParts (plain : Plain) (rung : Rung) (up : Sprout) (tail : List Branch) (news olds : List Put) (c : Change) : Type 0 where
  pub left : List Branch
  pub middle : Branch
  pub right : List Branch
  pub cut : BranchesCut tail left middle right
  pub new : ℕ
  pub other : ℕ
  pub is : c ≡ record {
    news = (news ++ record { oid = new; class = plain.inner; leaves = rung.leaves; node = inner_node rung.inner.head left rung.inner.first } ∷ [])
        ++ record { oid = other; class = plain.inner; leaves = rung.leaves; node = inner_node middle.child right (seam_first rung.seam up) } ∷ [];
    olds = olds ++ record { oid = rung.oid; class = rung.class; leaves = false; node = inner_node new (record { key = middle.key; child = other } ∷ []) rung.inner.first } ∷ [];
    up = None;
  }

-- a new child, and no split
pub record RiseFits (max : ℕ) (key : Key) (rung : Rung) (b c : Change) : Type 0 where
  pub up : Sprout
  pub some : b.up ≡ Some up
  pub fits : length (grown key rung up) < max
  pub is : c ≡ fitted rung (grown key rung up) b.news b.olds

-- too many children
pub record RiseSplits (max : ℕ) (key : Key) (plain : Plain) (rung : Rung) (b c : Change) : Type 0 where
  pub up : Sprout
  pub some : b.up ≡ Some up
  pub more : max ≤ length (grown key rung up)
  pub split : InnerSplits plain rung up (grown key rung up) b.news b.olds c

-- a root with too many children
pub record RootSplits (max : ℕ) (key : Key) (plain : Plain) (rung : Rung) (b c : Change) : Type 0 where
  pub up : Sprout
  pub some : b.up ≡ Some up
  pub more : max ≤ length (grown key rung up)
  pub split : RootParts plain rung up (grown key rung up) b.news b.olds c

abbrev pub Rise : ℕ → Key → Plain → Rung → Change → Change → Type 0
Rise max key plain rung b c = RiseNone b c ⊎ (RiseFits max key rung b c ⊎ RiseSplits max key plain rung b c)

abbrev pub RootRise : ℕ → Key → Plain → Rung → Change → Change → Type 0
RootRise max key plain rung b c = RiseNone b c ⊎ (RiseFits max key rung b c ⊎ RootSplits max key plain rung b c)

-- ---- the whole

-- a leaf, and the objects above it below the root, the highest first
abbrev pub IsSet : Terms → Bottom → List Rung → Change → Type 0
IsSet terms bottom [] c = IsBottom terms.leaf terms.plain bottom c
IsSet terms bottom (rung ∷ below) c = (b : Change) × IsSet terms bottom below b × Rise terms.inner terms.key terms.plain rung b c

-- a leaf, and the objects above it from the root on
abbrev pub IsRootSet : Terms → Bottom → List Rung → Change → Type 0
IsRootSet terms bottom [] c = IsBottom terms.leaf terms.plain bottom c
IsRootSet terms bottom (rung ∷ below) c = (b : Change) × IsSet terms bottom below b × RootRise terms.inner terms.key terms.plain rung b c
