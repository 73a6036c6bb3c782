-- Values as trees, and the one spelling of each. Own.
use Rattle.std.specs.Prelude.{ℕ, zero, suc, ◌<◌, ◌^◌, ◌≡◌, List, [], ◌∷◌, ◌++◌, length, Option, Some, None, codes, ◌==◌, if◌then◌else◌}
use Rattle.std.specs.List.{AllByRecursion}
use Rattle.zb_ids.specs.Hex.{hex_text}
use Rattle.pickle_ops.specs.Fits.{IsShortText}
use Rattle.pickle_graph.specs.declared.node.Node.{Node}
use Rattle.pickle_graph.specs.declared.node.Node.TheVariants as kinds
use Rattle.pickle_graph.specs.Graph.{IsSigned128, IsWide, IsGlobal}
use Rattle.zb_literals.specs.Texts.{leaf_literal, global_text}

-- A value in which nothing is shared and no object stands. A leaf is a node without items.
mutual
  pub data Value : Type 0 where
    leaf : Node → Value
    tuple : Values → Value
    list : Values → Value
    dict : Pairs → Value
    reference : Value → Value

  pub data Values : Type 0 where
    no_values : Values
    value : Value → Values → Values

  pub data Pairs : Type 0 where
    no_pairs : Pairs
    pair : Value → Value → Pairs → Pairs

-- ---- ids of references

-- eight bytes are an oid
abbrev pub leaf_oid : Node → Option (List ℕ)
leaf_oid (kinds.Bytes bytes) = if length bytes == 8 then Some bytes else None
leaf_oid _ = None

abbrev pub oid_of_value : Value → Option (List ℕ)
oid_of_value (leaf node) = leaf_oid node
oid_of_value _ = None

abbrev pub leaf_global : Node → Option (List ℕ)
leaf_global (kinds.Global module_line name_line) = Some (global_text module_line name_line)
leaf_global _ = None

abbrev pub global_of_value : Value → Option (List ℕ)
global_of_value (leaf node) = leaf_global node
global_of_value _ = None

-- an oid's digits, and the text of a global
abbrev pub with_global : Option (List ℕ) → Option (List ℕ) → Option (List ℕ)
with_global (Some oid) (Some text) = Some (hex_text oid ++ text)
with_global _ _ = None

abbrev pub digits_of : Option (List ℕ) → Option (List ℕ)
digits_of (Some oid) = Some (hex_text oid)
digits_of None = None

abbrev pub values_short : Values → Option (List ℕ)
values_short (value oid (value class no_values)) = with_global (oid_of_value oid) (global_of_value class)
values_short _ = None

-- what stands behind `@` for an oid, and for a tuple of an oid and a global; other ids have no such form
abbrev pub short_of : Value → Option (List ℕ)
short_of (leaf node) = digits_of (leaf_oid node)
short_of (tuple vs) = values_short vs
short_of _ = None

-- a reference, by the short form of its id and by its literal
abbrev pub reference_text : Option (List ℕ) → List ℕ → List ℕ
reference_text (Some short) literal = 64 ∷ short
reference_text None literal = codes "ref(" ++ (literal ++ 41 ∷ [])

-- ---- the spelling

abbrev mutual
  pub literal_text : Value → List ℕ
  literal_text (leaf node) = leaf_literal node
  literal_text (tuple no_values) = codes "()"
  literal_text (tuple (value v no_values)) = 40 ∷ (literal_text v ++ 44 ∷ 41 ∷ [])
  literal_text (tuple (value v (value w vs))) = 40 ∷ (literal_text v ++ 44 ∷ (literal_text w ++ (more_text vs ++ 41 ∷ [])))
  literal_text (list no_values) = codes "[]"
  literal_text (list (value v vs)) = 91 ∷ (literal_text v ++ (more_text vs ++ 93 ∷ []))
  literal_text (dict no_pairs) = codes "{}"
  literal_text (dict (pair k v ps)) = 123 ∷ (literal_text k ++ 58 ∷ (literal_text v ++ (more_pairs ps ++ 125 ∷ [])))
  literal_text (reference v) = reference_text (short_of v) (literal_text v)

  -- further values, each behind a comma
  pub more_text : Values → List ℕ
  more_text no_values = []
  more_text (value v vs) = 44 ∷ (literal_text v ++ more_text vs)

  -- further keys and values
  pub more_pairs : Pairs → List ℕ
  more_pairs no_pairs = []
  more_pairs (pair k v ps) = 44 ∷ (literal_text k ++ 58 ∷ (literal_text v ++ more_pairs ps))

-- ---- which values there are

abbrev pub AreAllSmall : List ℕ → Type 0
AreAllSmall bytes = AllByRecursion (λ b. b < 256) bytes

-- a node without items holds what its kind says
abbrev pub IsLeaf : Node → Type 0
IsLeaf kinds.None = Unit {0}
IsLeaf (kinds.Bool b) = Unit {0}
IsLeaf (kinds.Number number) = IsSigned128 number
IsLeaf (kinds.Wide bytes) = AreAllSmall bytes × IsWide bytes
IsLeaf (kinds.Float bytes) = AreAllSmall bytes × (length bytes ≡ 8)
IsLeaf (kinds.Bytes bytes) = AreAllSmall bytes × (length bytes < 2 ^ 32)
IsLeaf (kinds.OldText bytes) = AreAllSmall bytes × (length bytes < 2 ^ 31)
IsLeaf (kinds.Text bytes) = IsShortText bytes
IsLeaf (kinds.Global module_line name_line) = AreAllSmall module_line × AreAllSmall name_line × IsGlobal module_line name_line
IsLeaf _ = ⊥

-- a value from which each walk has fewer edges than there are levels, and whose leaves hold what their kinds say
abbrev mutual
  pub IsValue : ℕ → Value → Type 0
  IsValue zero _ = ⊥
  IsValue (suc levels) (leaf node) = IsLeaf node
  IsValue (suc levels) (tuple vs) = AreValues levels vs
  IsValue (suc levels) (list vs) = AreValues levels vs
  IsValue (suc levels) (dict ps) = ArePairs levels ps
  IsValue (suc levels) (reference v) = IsValue levels v

  pub AreValues : ℕ → Values → Type 0
  AreValues levels no_values = Unit {0}
  AreValues levels (value v vs) = IsValue levels v × AreValues levels vs

  pub ArePairs : ℕ → Pairs → Type 0
  ArePairs levels no_pairs = Unit {0}
  ArePairs levels (pair k v ps) = IsValue levels k × IsValue levels v × ArePairs levels ps
