-- Graphs that are alike but for eight bytes, as the numbers of objects are, and their records.
use Rattle.std.specs.Prelude.{ℕ, List, [], ◌∷◌, length, Ok, ◌≡◌, ◌⊎◌}
use Rattle.pickle_graph.specs.declared.node.Node.{Node}
use Rattle.pickle_graph.specs.declared.node.Node.TheVariants as kinds
use Rattle.pickle_graph.specs.Graph.{Graph, IsGraph}
use Rattle.pickle_graph.specs.Same.{AreSame}
use Rattle.zb_record.specs.Records.{record_of, object_text}

-- eight bytes, and eight others
pub record AreEight (x y : Node) : Type 0 where
  pub one : List ℕ
  pub other : List ℕ
  pub first : x ≡ kinds.Bytes one
  pub second : y ≡ kinds.Bytes other
  pub first_long : length one ≡ 8
  pub second_long : length other ≡ 8

-- the same, or eight bytes each
abbrev pub NodeAlike : Node → Node → Type 0
NodeAlike x y = (x ≡ y) ⊎ AreEight x y

abbrev pub NodesAlike : List Node → List Node → Type 0
NodesAlike [] [] = Unit {0}
NodesAlike (x ∷ xs) (y ∷ ys) = NodeAlike x y × NodesAlike xs ys
NodesAlike _ _ = ⊥

-- node by node the same, but that other eight bytes may stand in the place of eight
pub record GraphsAlike (g other : Graph) : Type 0 where
  pub nodes : NodesAlike g.nodes other.nodes
  pub root : g.root ≡ other.root

-- the record with the other state is written and reads back; both texts are read as the graphs that were written
pub record IsKeptAlike (class state other : Graph) (copy : Graph × Graph) : Type 0 where
  pub text : List ℕ
  pub written : object_text class other ≡ Ok text
  pub other_copy : Graph
  pub reads : record_of text ≡ Ok (copy.0, other_copy)
  pub same : AreSame state copy.1
  pub other_same : AreSame other other_copy

-- where a record can be written and reads back, so does one whose state is alike
abbrev pub AlikeIsKept : Type 0
AlikeIsKept =
    (class state other : Graph) (text : List ℕ) (copy : Graph × Graph) → IsGraph class.nodes class.root → IsGraph state.nodes state.root → GraphsAlike state other →
    object_text class state ≡ Ok text → record_of text ≡ Ok copy → IsKeptAlike class state other copy
