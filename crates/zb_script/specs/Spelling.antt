-- The one spelling of each line. Own.
use Rattle.std.specs.Prelude.{◌≡◌, ℕ, ◌<◌, ◌≤◌, ◌^◌, List, [], ◌∷◌, ◌++◌, Bool, true, false, Ok, length, codes, decimal}
use Rattle.std.specs.List.{flat_map}
use Rattle.std.specs.Str.{is_utf8}
use Rattle.zb_ids.specs.Hex.{hex_text, hex_number}
use Rattle.pickle_graph.specs.Graph.{Graph}
use Rattle.pickle_writing.specs.Spelling.{spelling_of}
use Rattle.btree_family.specs.declared.key.Key.{Key}
use Rattle.literal_reading.specs.Literals.{IsLiteral}
use Rattle.zb_literals.specs.Texts.{quoted_text}
use Rattle.pickle_graph.specs.Class.{is_class}
use Rattle.zb_record.specs.Records.{object_text}
use Rattle.zb_script.specs.declared.line.Line.{Line}
use Rattle.zb_script.specs.declared.line.Line.TheVariants as lines
use Rattle.zb_script.specs.declared.line.Turn.{Turn}
use Rattle.zb_script.specs.declared.tree_call.TreeCall.{TreeCall}
use Rattle.zb_script.specs.declared.tree_call.TreeCall.TheVariants as calls
use Rattle.zb_script.specs.Keys.{IsKey, key_literal}
use Rattle.zb_script.specs.Names.{IsName}
use Rattle.zb_script.specs.Payloads.{IsPayload}

-- ---- fields

-- a user or a description: UTF-8, and no more of it than this
pub record IsShort (text : List ℕ) : Type 0 where
  pub utf8 : is_utf8 text ≡ true
  pub fits : length text ≤ 65535

-- each number is below the one before it, and the first below a bound
abbrev pub Falls : ℕ → List ℕ → Type 0
Falls bound [] = Unit {0}
Falls bound (tid ∷ tids) = (tid < bound) × Falls tid tids

-- what is undone: at least one tid, each below the one before it
pub record AreTids (tids : List ℕ) : Type 0 where
  pub some : 0 < length tids
  pub fall : Falls (2 ^ 64) tids

-- the digits of each, behind a blank
abbrev pub tids_text : List ℕ → List ℕ
tids_text tids = flat_map (λ tid. 32 ∷ hex_number tid) tids

-- the two literals are a class and a state, and the bytes are the record that these write
pub record IsRecordOf (class_text state_text bytes : List ℕ) : Type 0 where
  pub class : Graph
  pub state : Graph
  pub class_spelled : IsLiteral class_text class
  pub state_spelled : IsLiteral state_text state
  pub class_is : is_class class ≡ true
  pub written : object_text class state ≡ Ok bytes

-- the text is the literal of a value, and the bytes are the value's spelling
pub record IsValueText (text bytes : List ℕ) : Type 0 where
  pub graph : Graph
  pub literal : IsLiteral text graph
  pub spelled : spelling_of graph.nodes graph.root ≡ Ok bytes

-- ---- lines

-- a word and a number
pub record IsNumbered (text word : List ℕ) (number : ℕ) : Type 0 where
  pub small : number < 2 ^ 64
  pub is : text ≡ word ++ hex_number number

pub record IsStore (text : List ℕ) (oid base : ℕ) (bytes : List ℕ) : Type 0 where
  pub oid_small : oid < 2 ^ 64
  pub base_small : base < 2 ^ 64
  pub payload : IsPayload bytes
  pub fits : length bytes ≤ 2 ^ 26
  pub is : text ≡ codes "store " ++ (hex_number oid ++ 32 ∷ (hex_number base ++ 32 ∷ hex_text bytes))

pub record IsPut (text : List ℕ) (oid : ℕ) (bytes : List ℕ) : Type 0 where
  pub oid_small : oid < 2 ^ 64
  pub class_text : List ℕ
  pub state_text : List ℕ
  pub stored : IsRecordOf class_text state_text bytes
  pub is : text ≡ codes "put " ++ (hex_number oid ++ 32 ∷ (class_text ++ 32 ∷ state_text))

-- a word and two numbers
pub record IsPaired (text word : List ℕ) (first second : ℕ) : Type 0 where
  pub first_small : first < 2 ^ 64
  pub second_small : second < 2 ^ 64
  pub is : text ≡ word ++ (hex_number first ++ 32 ∷ hex_number second)

-- what stands behind a pack's tid
abbrev pub collecting_text : Bool → List ℕ
collecting_text true = []
collecting_text false = codes " nogc"

-- a word and a tid, and `nogc` where the pack doesn't collect
pub record IsPackText (text word : List ℕ) (tid : ℕ) (collect : Bool) : Type 0 where
  pub small : tid < 2 ^ 64
  pub is : text ≡ word ++ (hex_number tid ++ collecting_text collect)

pub record IsVote (text user description : List ℕ) : Type 0 where
  pub user_short : IsShort user
  pub description_short : IsShort description
  pub is : text ≡ codes "vote " ++ (quoted_text user ++ 32 ∷ quoted_text description)

pub record IsUndo (text user description tids : List ℕ) : Type 0 where
  pub user_short : IsShort user
  pub description_short : IsShort description
  pub undone : AreTids tids
  pub is : text ≡ codes "undo " ++ (quoted_text user ++ 32 ∷ (quoted_text description ++ tids_text tids))

-- a word, an object and a key
pub record IsKeyed (text word : List ℕ) (oid : ℕ) (key : Key) : Type 0 where
  pub oid_small : oid < 2 ^ 64
  pub is_key : IsKey key
  pub is : text ≡ word ++ (hex_number oid ++ 32 ∷ key_literal key)

pub record IsSet (text : List ℕ) (oid : ℕ) (key : Key) (value : List ℕ) : Type 0 where
  pub oid_small : oid < 2 ^ 64
  pub is_key : IsKey key
  pub value_text : List ℕ
  pub stored : IsValueText value_text value
  pub is : text ≡ codes "set " ++ (hex_number oid ++ 32 ∷ (key_literal key ++ 32 ∷ value_text))

pub record IsRange (text : List ℕ) (oid : ℕ) (from to : Key) : Type 0 where
  pub oid_small : oid < 2 ^ 64
  pub from_key : IsKey from
  pub to_key : IsKey to
  pub is : text ≡ codes "range " ++ (hex_number oid ++ 32 ∷ (key_literal from ++ 32 ∷ key_literal to))

-- the text of a call on a tree
abbrev pub IsTreeText : List ℕ → ℕ → TreeCall → Type 0
IsTreeText text oid (calls.Set key value) = IsSet text oid key value
IsTreeText text oid (calls.Insert key) = IsKeyed text (codes "insert ") oid key
IsTreeText text oid (calls.Del key) = IsKeyed text (codes "del ") oid key
IsTreeText text oid (calls.Find key) = IsKeyed text (codes "find ") oid key
IsTreeText text oid calls.Items = IsNumbered text (codes "items ") oid
IsTreeText text oid (calls.Range from to) = IsRange text oid from to

-- a number in decimal
pub record IsRollback (text : List ℕ) (number : ℕ) : Type 0 where
  pub small : number < 2 ^ 32
  pub is : text ≡ codes "rollback " ++ decimal number

-- a session is opened over a link, or without one
abbrev pub opening_text : Bool → List ℕ
opening_text false = codes "open local"
opening_text true = codes "open remote"

-- the text is what stands behind the client's name and a blank
abbrev pub IsLineText : List ℕ → Line → Type 0
IsLineText text (lines.Open remote) = text ≡ opening_text remote
IsLineText text lines.Begin = text ≡ codes "begin"
IsLineText text (lines.Load oid) = IsNumbered text (codes "load ") oid
IsLineText text (lines.Get oid) = IsNumbered text (codes "get ") oid
IsLineText text (lines.Store oid base bytes) = IsStore text oid base bytes
IsLineText text (lines.Put oid bytes) = IsPut text oid bytes
IsLineText text (lines.Check oid serial) = IsPaired text (codes "check ") oid serial
IsLineText text (lines.Delete oid base) = IsPaired text (codes "delete ") oid base
IsLineText text (lines.Tree root call) = IsTreeText text root call
IsLineText text lines.Savepoint = text ≡ codes "savepoint"
IsLineText text (lines.Rollback number) = IsRollback text number
IsLineText text lines.New = text ≡ codes "new"
IsLineText text (lines.Vote user description) = IsVote text user description
IsLineText text (lines.Undo user description tids) = IsUndo text user description tids
IsLineText text lines.Finish = text ≡ codes "finish"
IsLineText text lines.Abort = text ≡ codes "abort"
IsLineText text lines.Deliver = text ≡ codes "deliver"
IsLineText text (lines.History oid) = IsNumbered text (codes "history ") oid
IsLineText text lines.UndoLog = text ≡ codes "undolog"
IsLineText text (lines.Pack tid collect) = IsPackText text (codes "pack ") tid collect
IsLineText text (lines.PackBegin tid collect) = IsPackText text (codes "packbegin ") tid collect
IsLineText text lines.PackTurn = text ≡ codes "packturn"
IsLineText text lines.Close = text ≡ codes "close"

-- the client's name, a blank, and what it does
pub record IsTurnText (text : List ℕ) (t : Turn) : Type 0 where
  pub named : IsName t.client
  pub line_text : List ℕ
  pub spelled : IsLineText line_text t.line
  pub is : text ≡ t.client ++ 32 ∷ line_text

-- each text is that of the turn at its place
abbrev pub AreTurnTexts : List (List ℕ) → List Turn → Type 0
AreTurnTexts [] [] = Unit {0}
AreTurnTexts (text ∷ texts) (t ∷ turns) = IsTurnText text t × AreTurnTexts texts turns
AreTurnTexts _ _ = ⊥

-- ---- fields of lines

-- the bytes are the spelling of a value that some literal says
pub record IsSpelledValue (bytes : List ℕ) : Type 0 where
  pub text : List ℕ
  pub is : IsValueText text bytes

-- what the fields of a call on a tree can be
abbrev pub IsTreeCall : TreeCall → Type 0
IsTreeCall (calls.Set key value) = IsKey key × IsSpelledValue value
IsTreeCall (calls.Insert key) = IsKey key
IsTreeCall (calls.Del key) = IsKey key
IsTreeCall (calls.Find key) = IsKey key
IsTreeCall calls.Items = Unit {0}
IsTreeCall (calls.Range from to) = IsKey from × IsKey to

-- what the fields of a line can be
abbrev pub IsLine : Line → Type 0
IsLine (lines.Load oid) = oid < 2 ^ 64
IsLine (lines.Get oid) = oid < 2 ^ 64
IsLine (lines.Store oid base bytes) = (oid < 2 ^ 64) × (base < 2 ^ 64) × IsPayload bytes
IsLine (lines.Put oid bytes) = (oid < 2 ^ 64) × (0 < length bytes)
IsLine (lines.Check oid serial) = (oid < 2 ^ 64) × (serial < 2 ^ 64)
IsLine (lines.Delete oid base) = (oid < 2 ^ 64) × (base < 2 ^ 64)
IsLine (lines.Tree root call) = (root < 2 ^ 64) × IsTreeCall call
IsLine (lines.Rollback number) = number < 2 ^ 32
IsLine (lines.Vote user description) = IsShort user × IsShort description
IsLine (lines.Undo user description tids) = IsShort user × IsShort description × AreTids tids
IsLine (lines.History oid) = oid < 2 ^ 64
IsLine (lines.Pack tid collect) = tid < 2 ^ 64
IsLine (lines.PackBegin tid collect) = tid < 2 ^ 64
IsLine _ = Unit {0}

abbrev pub IsTurn : Turn → Type 0
IsTurn t = IsName t.client × IsLine t.line
