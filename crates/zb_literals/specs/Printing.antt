-- The literal of a node of a graph, with marks where the writer puts. Own.
use Rattle.std.specs.Prelude.{ℕ, zero, suc, ◌+◌, Bool, true, false, List, [], ◌∷◌, ◌++◌, Option, Some, None, Ok, Err, slice_get, codes, decimal, if◌then◌else◌}
use Rattle.std.specs.Fmt.{signed_decimal}
use Rattle.zb_ids.specs.Hex.{hex_text}
use Rattle.pickle_graph.specs.declared.node.Node.{Node}
use Rattle.pickle_graph.specs.declared.node.Node.TheVariants as kinds
use Rattle.pickle_graph.specs.declared.node.Act.{Act}
use Rattle.pickle_graph.specs.declared.node.Act.TheVariants.{Append, Set, Build}
use Rattle.pickle_writing.specs.declared.depth.TheConstants.{WALK_LIMIT}
use Rattle.pickle_writing.specs.Numbers.{number_of}
use Rattle.pickle_writing.specs.Spelling.{Spelled, put_number}
use Rattle.pickle_writing.specs.Putting.{puts_of}
use Rattle.zb_literals.specs.declared.parts.Part.{Part}
use Rattle.zb_literals.specs.declared.printing.Printing.{Printing}
use Rattle.zb_literals.specs.declared.parts.Part.TheVariants.{Byte, Item}
use Rattle.zb_literals.specs.Texts.{text_literal, bytes_text, global_text}
use Rattle.zb_literals.specs.Values.{leaf_oid, leaf_global, digits_of}

-- ---- leaves

-- the literal of a node without items; a text that isn't UTF-8, which no graph has, would be printed as bytes
abbrev pub leaf_print : Node → Option (List ℕ)
leaf_print kinds.None = Some (codes "None")
leaf_print (kinds.Bool true) = Some (codes "True")
leaf_print (kinds.Bool false) = Some (codes "False")
leaf_print (kinds.Number number) = Some (signed_decimal number)
leaf_print (kinds.Wide bytes) = Some (codes "n:" ++ hex_text bytes)
leaf_print (kinds.Float bytes) = Some (codes "f:" ++ hex_text bytes)
leaf_print (kinds.Bytes bytes) = Some (bytes_text bytes)
leaf_print (kinds.OldText bytes) = Some (codes "s:" ++ hex_text bytes)
leaf_print (kinds.Text bytes) = Some (text_literal bytes)
leaf_print (kinds.Global module_line name_line) = Some (global_text module_line name_line)
leaf_print _ = None

-- what is put goes behind a text, if anything is
abbrev pub text_behind : List ℕ → Option (List ℕ) → List ℕ
text_behind text None = text
text_behind text (Some more) = text ++ more

-- ---- parts

abbrev pub bytes_parts : List ℕ → List Part
bytes_parts [] = []
bytes_parts (b ∷ bytes) = Byte b ∷ bytes_parts bytes

-- further items, each behind a comma
abbrev pub more_parts : List ℕ → List Part
more_parts [] = []
more_parts (item ∷ items) = Byte 44 ∷ Item item ∷ more_parts items

abbrev pub more_pair_parts : List (ℕ × ℕ) → List Part
more_pair_parts [] = []
more_pair_parts (x ∷ pairs) = Byte 44 ∷ Item x.0 ∷ Byte 58 ∷ Item x.1 ∷ more_pair_parts pairs

abbrev pub tuple_marks : List ℕ → List Part
tuple_marks [] = Byte 40 ∷ Byte 41 ∷ []
tuple_marks (a ∷ []) = Byte 40 ∷ Item a ∷ Byte 44 ∷ Byte 41 ∷ []
tuple_marks (a ∷ b ∷ items) = Byte 40 ∷ Item a ∷ (more_parts (b ∷ items) ++ Byte 41 ∷ [])

abbrev pub list_marks : List ℕ → List Part
list_marks [] = Byte 91 ∷ Byte 93 ∷ []
list_marks (a ∷ items) = Byte 91 ∷ Item a ∷ (more_parts items ++ Byte 93 ∷ [])

abbrev pub dict_marks : List (ℕ × ℕ) → List Part
dict_marks [] = Byte 123 ∷ Byte 125 ∷ []
dict_marks (x ∷ pairs) = Byte 123 ∷ Item x.0 ∷ Byte 58 ∷ Item x.1 ∷ (more_pair_parts pairs ++ Byte 125 ∷ [])

-- `+v`, `+{k:v}` or `+build(v)`
abbrev pub act_marks : List Act → List Part
act_marks [] = []
act_marks (Append v ∷ acts) = Byte 43 ∷ Item v ∷ act_marks acts
act_marks (Set k v ∷ acts) = Byte 43 ∷ Byte 123 ∷ Item k ∷ Byte 58 ∷ Item v ∷ Byte 125 ∷ act_marks acts
act_marks (Build v ∷ acts) = bytes_parts (codes "+build(") ++ (Item v ∷ Byte 41 ∷ act_marks acts)

abbrev pub made_text : Bool → List ℕ
made_text by_new = if by_new then codes "[[new(" else codes "[[call("

-- `[[call(f,args)` or `[[new(f,args)`, the acts, and `]]`
abbrev pub object_marks : ℕ → ℕ → Bool → List Act → List Part
object_marks callee arguments by_new acts =
    bytes_parts (made_text by_new) ++ (Item callee ∷ Byte 44 ∷ Item arguments ∷ Byte 41 ∷ (act_marks acts ++ Byte 93 ∷ Byte 93 ∷ []))

abbrev pub oid_at : Option Node → Option (List ℕ)
oid_at None = None
oid_at (Some x) = leaf_oid x

abbrev pub class_at : Option Node → Option (List ℕ)
class_at None = None
class_at (Some x) = leaf_global x

abbrev pub both_texts : Option (List ℕ) → Option (List ℕ) → Option (List ℕ)
both_texts (Some one) (Some other) = Some (one ++ other)
both_texts _ _ = None

-- what stands behind `@` for an id: an oid's digits; and a global behind them for a tuple of both that isn't put
abbrev pub pair_short : List Node → Option ℕ → List ℕ → Option (List ℕ)
pair_short ns None (a ∷ b ∷ []) = both_texts (digits_of (oid_at (slice_get ns a))) (class_at (slice_get ns b))
pair_short ns _ _ = None

abbrev pub id_short : List Node → Option ℕ → Option Node → Option (List ℕ)
id_short ns put (Some (kinds.Bytes bytes)) = digits_of (leaf_oid (kinds.Bytes bytes))
id_short ns put (Some (kinds.Tuple items)) = pair_short ns put items
id_short ns put _ = None

-- a short form behind its mark
abbrev pub short_print : Option (List ℕ) → Option (List ℕ)
short_print None = None
short_print (Some short) = Some (64 ∷ short)

abbrev pub reference_parts : Option (List ℕ) → ℕ → List Part
reference_parts (Some short) id = Byte 64 ∷ bytes_parts short
reference_parts None id = bytes_parts (codes "ref(") ++ (Item id ∷ Byte 41 ∷ [])

-- the parts of a node with items; the puts are the nodes that the writer puts, the newest first
abbrev pub literal_parts : List Node → List ℕ → Node → List Part
literal_parts ns puts (kinds.Tuple items) = tuple_marks items
literal_parts ns puts (kinds.List items) = list_marks items
literal_parts ns puts (kinds.Dict pairs) = dict_marks pairs
literal_parts ns puts (kinds.Reference id) = reference_parts (id_short ns (put_number id puts) (slice_get ns id)) id
literal_parts ns puts (kinds.Object callee arguments by_new acts) = object_marks callee arguments by_new acts
literal_parts ns puts _ = []

-- ---- nodes

-- a text, and the put nodes that stand up to its end, each with its number, the newest first
pub record Printed : Type 0 where
  pub text : List ℕ
  pub stood : List (ℕ × ℕ)

abbrev pub printed_behind : Printed → Printed → Printed
printed_behind one next = record { text = one.text ++ next.text; stood = next.stood }

abbrev pub only : List ℕ → List (ℕ × ℕ) → Printed
only text stood = record { text = text; stood = stood }

abbrev pub parts_print : (ℕ → List (ℕ × ℕ) → Printed) → List Part → List (ℕ × ℕ) → Printed
parts_print piece [] stood = only [] stood
parts_print piece (Byte b ∷ parts) stood = printed_behind (only (b ∷ []) stood) (parts_print piece parts stood)
parts_print piece (Item m ∷ parts) stood = printed_behind (piece m stood) (parts_print piece parts (piece m stood).stood)

-- a node that isn't put stands by its parts; one that is has a mark before them at its first place
abbrev pub first_print : Option ℕ → ℕ → List (ℕ × ℕ) → (List (ℕ × ℕ) → Printed) → Printed
first_print None m stood whole = whole stood
first_print (Some k) m stood whole = printed_behind (only (38 ∷ (decimal k ++ 61 ∷ [])) stood) (whole ((m, k) ∷ stood))

-- and its number alone later
abbrev pub marked_print : Option ℕ → Option ℕ → ℕ → List (ℕ × ℕ) → (List (ℕ × ℕ) → Printed) → Printed
marked_print (Some k) put m stood whole = only (42 ∷ decimal k) stood
marked_print None put m stood whole = first_print put m stood whole

abbrev pub leaf_or_item : Option (List ℕ) → List (ℕ × ℕ) → Printed → Printed
leaf_or_item (Some text) stood other = only text stood
leaf_or_item None stood other = other

abbrev pub node_print : List Node → List ℕ → (ℕ → List (ℕ × ℕ) → Printed) → ℕ → List (ℕ × ℕ) → Option Node → Printed
node_print ns puts piece m stood None = only [] stood
node_print ns puts piece m stood (Some x) =
    leaf_or_item (leaf_print x) stood (marked_print (number_of m stood) (put_number m puts) m stood (parts_print piece (literal_parts ns puts x)))

-- the literal of a node from which each walk has fewer edges than there are levels
unfoldable pub print_of : ℕ → List Node → List ℕ → ℕ → List (ℕ × ℕ) → Printed
print_of zero ns puts m stood = only [] stood
print_of (suc levels) ns puts m stood = node_print ns puts (print_of levels ns puts) m stood (slice_get ns m)

abbrev pub printed : List Node → ℕ → Spelled → Spelled
printed ns m (Ok puts) = Ok (print_of (WALK_LIMIT + 1) ns puts m []).text
printed ns m (Err e) = Err e

-- the literal of a node; or none where a walk of more edges than the limit starts there
abbrev pub literal_of : List Node → ℕ → Spelled
literal_of ns m = printed ns m (puts_of ns m)

-- and so behind a text
abbrev pub behind_text : List ℕ → Spelled → Spelled
behind_text before (Ok text) = Ok (before ++ text)
behind_text before (Err e) = Err e

-- what is printed goes behind what is
abbrev pub behind_print : Printing → Printed → Printing
behind_print w p = record { text = w.text ++ p.text; stood = p.stood }
