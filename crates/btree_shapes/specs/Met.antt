-- The objects that a call comes to on its way, sound or not. Own.
use Rattle.std.specs.Prelude.{◌≡◌, ℕ, zero, suc, ◌^◌, List, [], ◌∷◌, ◌++◌, map, Option, if◌then◌else◌}
use Rattle.btree_family.specs.declared.key.Key.{Key}
use Rattle.btree_shapes.specs.declared.node.Node.TheVariants as node
use Rattle.btree_shapes.specs.declared.space.Call.{Call}
use Rattle.btree_shapes.specs.declared.way.Found.{Found}
use Rattle.btree_shapes.specs.Nodes.{Held, Nothing, Foreign, Holds, child_for, objects_of}
use Rattle.btree_shapes.specs.Ways.{reads, stands_in, step_oid}

-- the first of these objects were read, each where it stands, and nothing else was done
pub record ReadsFirst (oids : List ℕ) (before after : List Call) : Type 0 where
  pub front : List ℕ
  pub rest : List ℕ
  pub split : oids ≡ front ++ rest
  pub grown : after ≡ before ++ reads front

-- of all these objects, those before the ones that are left were read
pub record ReadsUpTo (all left : List ℕ) (before after : List Call) : Type 0 where
  pub front : List ℕ
  pub split : all ≡ front ++ left
  pub grown : after ≡ before ++ reads front

abbrev pub met_below : (ℕ → List ℕ) → Key → Held → List ℕ
met_below below key Nothing = []
met_below below key Foreign = []
met_below below key (Holds class (node.Inner inner)) = below (child_for inner.head inner.tail key)
met_below below key (Holds class (node.Lone bucket)) = []
met_below below key (Holds class (node.Leaf bucket)) = []

-- The objects on the way for a key from an object on, below the objects that stand above it. It ends where an object has none
-- below it, or isn't one of the tree, or would stand twice on it: so each is met once.
unfoldable pub met_from : Key → (ℕ → Held) → ℕ → List ℕ → ℕ → List ℕ
met_from key objects zero above oid = []
met_from key objects (suc room) above oid =
    if stands_in above oid then [] else oid ∷ met_below (met_from key objects room (above ++ oid ∷ [])) key (objects oid)

-- the objects on the way for a key from the root on
abbrev pub met_for : (ℕ → Option (List ℕ)) → ℕ → Key → List ℕ
met_for contents root key = met_from key (objects_of contents root) (2 ^ 64) [] root

-- the objects of a way that was found
abbrev pub oids_of : Found → List ℕ
oids_of found = map step_oid found.path ++ found.oid ∷ []
