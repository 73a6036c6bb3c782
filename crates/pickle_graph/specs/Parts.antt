-- What the text of a node with items is made of: bytes, and the places of its items. From: Python's pickle opcodes.
use Rattle.std.specs.Prelude.{ℕ, Bool, true, false, List, [], ◌∷◌, ◌++◌, Option, Some, None, slice_get, if◌then◌else◌}
use Rattle.pickle_graph.specs.declared.node.Act.{Act}
use Rattle.pickle_graph.specs.declared.node.Act.TheVariants.{Append, Set, Build}
use Rattle.pickle_graph.specs.declared.node.Node.{Node}
use Rattle.pickle_graph.specs.declared.node.Node.TheVariants as kinds
use Rattle.pickle_graph.specs.declared.parts.Part.{Part}
use Rattle.pickle_graph.specs.declared.parts.Part.TheVariants.{Byte, Item}

-- items, one after the other
abbrev pub item_parts : List ℕ → List Part
item_parts [] = []
item_parts (item ∷ items) = Item item ∷ item_parts items

-- keys and values, one after the other
abbrev pub pair_parts : List (ℕ × ℕ) → List Part
pair_parts [] = []
pair_parts (pair ∷ pairs) = Item pair.0 ∷ Item pair.1 ∷ pair_parts pairs

-- a value and APPEND; a key, its value and SETITEM; a state and BUILD
abbrev pub act_parts : List Act → List Part
act_parts [] = []
act_parts (Append value ∷ acts) = Item value ∷ Byte 0x61 ∷ act_parts acts
act_parts (Set key value ∷ acts) = Item key ∷ Item value ∷ Byte 0x73 ∷ act_parts acts
act_parts (Build state ∷ acts) = Item state ∷ Byte 0x62 ∷ act_parts acts

-- MARK, the items, and the opcode that takes all above the mark
abbrev pub many_parts : List Part → ℕ → List Part
many_parts items byte = Byte 0x28 ∷ (items ++ Byte byte ∷ [])

-- one to three items and their TUPLE1, TUPLE2 or TUPLE3; of more, the items above a mark and TUPLE
abbrev pub tuple_parts : List ℕ → List Part
tuple_parts [] = []
tuple_parts (a ∷ []) = Item a ∷ Byte 0x85 ∷ []
tuple_parts (a ∷ b ∷ []) = Item a ∷ Item b ∷ Byte 0x86 ∷ []
tuple_parts (a ∷ b ∷ c ∷ []) = Item a ∷ Item b ∷ Item c ∷ Byte 0x87 ∷ []
tuple_parts (a ∷ b ∷ c ∷ d ∷ items) = many_parts (item_parts (a ∷ b ∷ c ∷ d ∷ items)) 0x74

-- EMPTY_LIST, then one item and APPEND, or more above a mark and APPENDS
abbrev pub list_parts : List ℕ → List Part
list_parts [] = Byte 0x5d ∷ []
list_parts (a ∷ []) = Byte 0x5d ∷ Item a ∷ Byte 0x61 ∷ []
list_parts (a ∷ b ∷ items) = Byte 0x5d ∷ many_parts (item_parts (a ∷ b ∷ items)) 0x65

-- EMPTY_DICT, then one key, its value and SETITEM, or more above a mark and SETITEMS
abbrev pub dict_parts : List (ℕ × ℕ) → List Part
dict_parts [] = Byte 0x7d ∷ []
dict_parts (pair ∷ []) = Byte 0x7d ∷ Item pair.0 ∷ Item pair.1 ∷ Byte 0x73 ∷ []
dict_parts (pair ∷ next ∷ pairs) = Byte 0x7d ∷ many_parts (pair_parts (pair ∷ next ∷ pairs)) 0x75

-- NEWOBJ, or REDUCE
abbrev pub object_byte : Bool → ℕ
object_byte by_new = if by_new then 0x81 else 0x52

-- the callee, the arguments and their opcode, then the acts in their order
abbrev pub object_parts : ℕ → ℕ → Bool → List Act → List Part
object_parts callee arguments by_new acts = Item callee ∷ Item arguments ∷ Byte (object_byte by_new) ∷ act_parts acts

-- the parts of a node with items; a leaf has none
abbrev pub parts_of : Node → List Part
parts_of (kinds.Tuple items) = tuple_parts items
parts_of (kinds.List items) = list_parts items
parts_of (kinds.Dict pairs) = dict_parts pairs
parts_of (kinds.Reference id) = Item id ∷ Byte 0x51 ∷ []
parts_of (kinds.Object callee arguments by_new acts) = object_parts callee arguments by_new acts
parts_of _ = []

-- A node that stands once, whichever edges lead to it. Leaves and the empty tuple stand once for each edge.
abbrev pub is_held : Node → Bool
is_held (kinds.Tuple []) = false
is_held (kinds.Tuple (item ∷ items)) = true
is_held (kinds.List items) = true
is_held (kinds.Dict pairs) = true
is_held (kinds.Reference id) = true
is_held (kinds.Object callee arguments by_new acts) = true
is_held _ = false

-- a node that may be missing stands once
abbrev pub held_in : Option Node → Bool
held_in None = false
held_in (Some node) = is_held node

-- the items among parts, in order
abbrev pub items_in : List Part → List ℕ
items_in [] = []
items_in (Byte byte ∷ parts) = items_in parts
items_in (Item item ∷ parts) = item ∷ items_in parts

-- the parts of a node that may be missing
abbrev pub parts_in : Option Node → List Part
parts_in None = []
parts_in (Some node) = parts_of node

-- the nodes to which edges lead from a node, if there is one
abbrev pub items_of : Option Node → List ℕ
items_of node = items_in (parts_in node)

-- the nodes to which edges lead from the node of a number, in the order in which its text has them
abbrev pub items_at : List Node → ℕ → List ℕ
items_at ns m = items_of (slice_get ns m)

-- the parts of an object; of other nodes none
abbrev pub object_parts_of : Node → List Part
object_parts_of (kinds.Object callee arguments by_new acts) = object_parts callee arguments by_new acts
object_parts_of _ = []
