-- Keys as literals, and the text of a value. Own.
use Rattle.std.specs.Prelude.{ℕ, List, Option, Some, None, Ok, Err}
use Rattle.std.specs.Fmt.{signed_decimal}
use Rattle.pickle_graph.specs.declared.node.Node.{Node}
use Rattle.pickle_graph.specs.declared.node.Node.TheVariants as kinds
use Rattle.pickle_writing.specs.Spelling.{Spelled}
use Rattle.btree_family.specs.declared.key.Key.{Key}
use Rattle.btree_family.specs.declared.key.Key.TheVariants as keys
use Rattle.zb_literals.specs.Texts.{bytes_text, text_literal}
use Rattle.zb_literals.specs.Values.{IsLeaf}

-- the value that a key is
abbrev pub key_node : Key → Node
key_node (keys.Text text) = kinds.Text text
key_node (keys.Bytes bytes) = kinds.Bytes bytes
key_node (keys.Number number) = kinds.Number number

-- a key holds what its kind says: a text is UTF-8, and a number has 128 bits at most
abbrev pub IsKey : Key → Type 0
IsKey key = IsLeaf (key_node key)

-- the literal of a key
abbrev pub key_literal : Key → List ℕ
key_literal (keys.Text text) = text_literal text
key_literal (keys.Bytes bytes) = bytes_text bytes
key_literal (keys.Number number) = signed_decimal number

-- the text of a value, where it isn't too deep to write
abbrev pub text_or_none : Spelled → Option (List ℕ)
text_or_none (Ok text) = Some text
text_or_none (Err e) = None
