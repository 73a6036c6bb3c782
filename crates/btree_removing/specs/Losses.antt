-- What goes on above a leaf that leaves its tree. From: the BTrees package.
use Rattle.std.specs.Prelude.{ℕ, zero, suc, Bool, false, List, [], ◌∷◌, ◌++◌, Option, Some, None, ◌==◌, if◌then◌else◌}
use Rattle.btree_family.specs.declared.key.Key.{Key}
use Rattle.bucket_state.specs.declared.tree.Branch.{Branch}
use Rattle.btree_shapes.specs.declared.node.Node.{Node}
use Rattle.btree_shapes.specs.declared.node.Node.TheVariants as node
use Rattle.btree_shapes.specs.Nodes.{place_for}
use Rattle.btree_putting.specs.declared.puts.Put.{Put}
use Rattle.btree_putting.specs.Puts.{inner_node, lone_node}
use Rattle.btree_removing.specs.declared.losing.Loss.{Loss}
use Rattle.btree_removing.specs.declared.losing.Rest.{Rest}
use Rattle.btree_removing.specs.declared.losing.Rest.TheVariants.{Same, First, Gone}
use Rattle.btree_removing.specs.declared.rung.Rung.{Rung}
use Rattle.btree_removing.specs.Items.{cut_branch}

-- an object that holds this now
abbrev pub put_rung : Rung → Node → Put
put_rung rung node = record { oid = rung.oid; class = rung.class; leaves = rung.leaves; node = node }

-- the first leaf below a child: the one that is known, or else the child is a leaf itself
abbrev pub first_or : ℕ → Option ℕ → ℕ
first_or child None = child
first_or child (Some first) = first

-- The first child leaves, and the separator after it. An object without children leaves too.
abbrev pub lose_head : Option ℕ → Rung → List Branch → List Put → Loss
lose_head known rung [] puts = record { puts = puts ++ put_rung rung (lone_node [] None) ∷ []; rest = Gone }
lose_head known rung (branch ∷ branches) puts = record {
  puts = puts ++ put_rung rung (inner_node branch.child branches (first_or branch.child known)) ∷ [];
  rest = First (first_or branch.child known);
}

-- the child behind so many separators leaves: the separator before it goes, or, where it is the first child, the one after it
abbrev pub lose_child : ℕ → Option ℕ → Rung → List Put → Loss
lose_child zero known rung puts = lose_head known rung rung.inner.tail puts
lose_child (suc place) known rung puts = record {
  puts = puts ++ put_rung rung (inner_node rung.inner.head (cut_branch rung.inner.tail place) rung.inner.first) ∷ [];
  rest = Same;
}

-- the child behind so many separators has this first leaf now: it is that of the object where the child is the first
abbrev pub move_first : ℕ → ℕ → Rung → List Put → Loss
move_first zero first rung puts = record {
  puts = if rung.inner.first == first then puts else puts ++ put_rung rung (inner_node rung.inner.head rung.inner.tail first) ∷ [];
  rest = First first;
}
move_first (suc place) first rung puts = record { puts = puts; rest = Same }

abbrev pub lose_by : ℕ → Option ℕ → Rung → Rest → List Put → Loss
lose_by place known rung Gone puts = lose_child place known rung puts
lose_by place known rung (First first) puts = move_first place first rung puts
lose_by place known rung Same puts = record { puts = puts; rest = Same }

-- what goes on at an object, above what went on below it
abbrev pub lose : Key → Option ℕ → Rung → Loss → Loss
lose key known rung below = lose_by (place_for rung.inner.tail key) known rung below.rest below.puts

-- at all of these, from the lowest on
abbrev pub raise : Key → Option ℕ → List Rung → Loss → Loss
raise key known [] below = below
raise key known (rung ∷ rungs) below = lose key known rung (raise key known rungs below)

-- an emptied leaf leaves its parent
abbrev pub leaves_tree : Put → Loss
leaves_tree leaf = record { puts = leaf ∷ []; rest = Gone }
