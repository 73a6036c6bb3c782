-- Reading lines, as functions on lists.
use Rattle.std.specs.Prelude.{◌≡◌, ℕ, pos, zero, suc, ◌+◌, ◌/◌, ◌^◌, List, [], ◌∷◌, ◌++◌, length, take, drop, Option, Some, None, Bool, true, false, Result, Ok, Err, codes, nat_lt, nat_le, slice_get, ◌==◌, if◌then◌else◌}
use Rattle.std.specs.List.{position}
use Rattle.std.specs.Str.{bytes_eq}
use Rattle.zb_ids.specs.Hex.{◌>>=◌, number_at, bytes_at}
use Rattle.pickle_graph.specs.declared.node.Node.{Node}
use Rattle.pickle_graph.specs.declared.node.Node.TheVariants as kinds
use Rattle.pickle_writing.specs.Spelling.{Spelled, spelling_of}
use Rattle.btree_family.specs.declared.key.Key.{Key}
use Rattle.btree_family.specs.declared.key.Key.TheVariants as keys
use Rattle.literal_reading.specs.Exact.{graph_spelled}
use Rattle.literal_reading.specs.Reading.{if_some}
use Rattle.pickle_graph.specs.Class.{is_class}
use Rattle.zb_record.specs.Records.{object_text}
use Rattle.zb_script.specs.declared.errors.ReadError.{ReadError}
use Rattle.zb_script.specs.declared.errors.ReadError.TheVariants as errors
use Rattle.zb_script.specs.declared.line.Line.{Line}
use Rattle.zb_script.specs.declared.line.Line.TheVariants as lines
use Rattle.zb_script.specs.declared.line.Turn.{Turn}
use Rattle.zb_script.specs.declared.words.Place.{Place}
use Rattle.zb_script.specs.declared.words.Place.TheVariants as places
use Rattle.zb_script.specs.declared.tree_call.TreeCall.{TreeCall}
use Rattle.zb_script.specs.declared.tree_call.TreeCall.TheVariants as calls
use Rattle.zb_script.specs.Names.{is_name}
use Rattle.zb_script.specs.Keys.{text_or_none}
use Rattle.zb_script.specs.declared.opened.Opened.{Opened}
use Rattle.zb_script.specs.Shape.{linked, opened_by, openers, stands_behind}

-- What a function returned, seen by view, is what reading gives, unless memory ran out.
abbrev pub RefusesToRead : {Y : Type 0} → ReadError → Option Y → Type 0
RefusesToRead errors.Memory read = Unit {0}
RefusesToRead errors.Bad read = read ≡ None

abbrev pub ReadsAs : {X Y : Type 0} → (X → Y) → Result X ReadError → Option Y → Type 0
ReadsAs view (Ok x) read = read ≡ Some (view x)
ReadsAs view (Err e) read = RefusesToRead e read

-- ---- words

-- what stands before the first separator, and what stands behind it
unfoldable pub cut_at : ℕ → List ℕ → Option (List ℕ × List ℕ)
cut_at separator bytes = do
  i ← position (λ b. b == separator) bytes
  Some (take i bytes, drop (i + 1) bytes)

-- what stands behind a word
unfoldable pub behind_word : List ℕ → List ℕ → Option (List ℕ)
behind_word word bytes = if bytes_eq (take (length word) bytes) word then Some (drop (length word) bytes) else None

-- where a byte leads: a quote begins and ends a text, and within one a backslash says nothing of the byte behind it
abbrev pub step : Place → ℕ → Place
step places.Outside b = if b == 34 then places.Quoted else places.Outside
step places.Quoted b = if b == 34 then places.Outside else if b == 92 then places.Escaped else places.Quoted
step places.Escaped b = places.Quoted

-- a blank outside quotes
abbrev pub is_gap : Place → ℕ → Bool
is_gap places.Outside b = b == 32
is_gap _ b = false

-- what stands before the first blank outside quotes, with these bytes ahead of it, and what stands behind it
abbrev pub gap_from : Place → List ℕ → List ℕ → Option (List ℕ × List ℕ)
gap_from place front [] = None
gap_from place front (b ∷ bytes) = if is_gap place b then Some (front, bytes) else gap_from (step place b) (front ++ b ∷ []) bytes

unfoldable pub literal_cut : List ℕ → Option (List ℕ × List ℕ)
literal_cut bytes = gap_from places.Outside [] bytes

-- ---- fields

-- a number and a blank
unfoldable pub field_at : List ℕ → Option (ℕ × List ℕ)
field_at bytes = do
  word ← cut_at 32 bytes
  number ← number_at word.0
  Some (number, word.1)

-- bytes of which there is one at least, and at most 64 MiB
unfoldable pub payload_at : List ℕ → Option (List ℕ)
payload_at text = if nat_lt 134217728 (length text) then None
    else (bytes_at text >>= λ bytes. if length bytes == 0 then None else Some bytes)

abbrev pub text_in : Option Node → Option (List ℕ)
text_in (Some (kinds.Text text)) = Some text
text_in _ = None

-- a user or a description
unfoldable pub short_at : List ℕ → Option (List ℕ)
short_at bytes = do
  graph ← graph_spelled bytes
  text ← text_in (slice_get graph.nodes graph.root)
  if nat_le (length text) 65535 then Some text else None

-- the same, and a blank
unfoldable pub short_field_at : List ℕ → Option (List ℕ × List ℕ)
short_field_at bytes = do
  word ← literal_cut bytes
  text ← short_at word.0
  Some (text, word.1)

-- a number, and what stands behind its digits
unfoldable pub sixteen_at : List ℕ → Option (ℕ × List ℕ)
sixteen_at bytes = do
  number ← number_at (take 16 bytes)
  Some (number, drop 16 bytes)

-- whether a pack collects: nothing stands behind its tid, or `nogc`
abbrev pub collecting_at : List ℕ → Option Bool
collecting_at rest = if bytes_eq rest [] then Some true else if bytes_eq rest (codes " nogc") then Some false else None

-- a blank and a lower number
unfoldable pub lower_at : ℕ → List ℕ → Option (ℕ × List ℕ)
lower_at bound bytes = do
  rest ← behind_word (codes " ") bytes
  tid ← sixteen_at rest
  if nat_lt tid.0 bound then Some tid else None

-- so many numbers, each lower than the one before it
unfoldable pub lowers_at : ℕ → ℕ → List ℕ → Option (List ℕ)
lowers_at zero bound bytes = if length bytes == 0 then Some [] else None
lowers_at (suc n) bound bytes = do
  tid ← lower_at bound bytes
  tids ← lowers_at n tid.0 tid.1
  Some (tid.0 ∷ tids)

unfoldable pub tids_at : List ℕ → Option (List ℕ)
tids_at bytes = do
  tid ← sixteen_at bytes
  tids ← lowers_at (length tid.1 / 17) tid.0 tid.1
  Some (tid.0 ∷ tids)

-- a text of one byte at least
abbrev pub payload_of_text : Spelled → Option (List ℕ)
payload_of_text (Ok []) = None
payload_of_text (Ok (b ∷ bytes)) = Some (b ∷ bytes)
payload_of_text (Err e) = None

-- the record of a class and a state
unfoldable pub record_at : List ℕ → List ℕ → Option (List ℕ)
record_at class_text state_text = do
  class ← graph_spelled class_text
  state ← graph_spelled state_text
  if is_class class then payload_of_text (object_text class state) else None

-- a text, bytes or a number
abbrev pub key_in : Option Node → Option Key
key_in (Some (kinds.Text text)) = Some (keys.Text text)
key_in (Some (kinds.Bytes bytes)) = Some (keys.Bytes bytes)
key_in (Some (kinds.Number number)) = Some (keys.Number number)
key_in _ = None

-- the key that a literal spells
unfoldable pub key_at : List ℕ → Option Key
key_at bytes = do
  graph ← graph_spelled bytes
  key_in (slice_get graph.nodes graph.root)

-- a key and a blank
unfoldable pub key_field_at : List ℕ → Option (Key × List ℕ)
key_field_at bytes = do
  word ← literal_cut bytes
  key ← key_at word.0
  Some (key, word.1)

-- a number below 2^32
abbrev pub small_in : Key → Option ℕ
small_in (keys.Number (pos n)) = if nat_lt n (2 ^ 32) then Some n else None
small_in _ = None

unfoldable pub small_at : List ℕ → Option ℕ
small_at bytes = do
  key ← key_at bytes
  small_in key

-- the spelling of the value of a literal
unfoldable pub value_at : List ℕ → Option (List ℕ)
value_at bytes = do
  graph ← graph_spelled bytes
  text_or_none (spelling_of graph.nodes graph.root)

-- ---- lines

unfoldable pub numbered_at : (ℕ → Line) → List ℕ → Option Line
numbered_at line bytes = do
  number ← number_at bytes
  Some (line number)

unfoldable pub store_at : List ℕ → Option Line
store_at bytes = do
  oid ← field_at bytes
  base ← field_at oid.1
  stored ← payload_at base.1
  Some (lines.Store oid.0 base.0 stored)

unfoldable pub put_at : List ℕ → Option Line
put_at bytes = do
  oid ← field_at bytes
  texts ← literal_cut oid.1
  stored ← record_at texts.0 texts.1
  Some (lines.Put oid.0 stored)

-- two numbers
unfoldable pub paired_at : (ℕ → ℕ → Line) → List ℕ → Option Line
paired_at line bytes = do
  first ← field_at bytes
  second ← number_at first.1
  Some (line first.0 second)

-- a number, and `nogc` where the pack doesn't collect
unfoldable pub packed_at : (ℕ → Bool → Line) → List ℕ → Option Line
packed_at line bytes = do
  tid ← sixteen_at bytes
  collect ← collecting_at tid.1
  Some (line tid.0 collect)

unfoldable pub vote_at : List ℕ → Option Line
vote_at bytes = do
  user ← short_field_at bytes
  description ← short_at user.1
  Some (lines.Vote user.0 description)

unfoldable pub undo_at : List ℕ → Option Line
undo_at bytes = do
  user ← short_field_at bytes
  description ← short_field_at user.1
  tids ← tids_at description.1
  Some (lines.Undo user.0 description.0 tids)

unfoldable pub rollback_at : List ℕ → Option Line
rollback_at bytes = do
  number ← small_at bytes
  Some (lines.Rollback number)

unfoldable pub set_at : List ℕ → Option Line
set_at bytes = do
  oid ← field_at bytes
  key ← key_field_at oid.1
  value ← value_at key.1
  Some (lines.Tree oid.0 (calls.Set key.0 value))

unfoldable pub keyed_at : (Key → TreeCall) → List ℕ → Option Line
keyed_at call bytes = do
  oid ← field_at bytes
  key ← key_at oid.1
  Some (lines.Tree oid.0 (call key))

unfoldable pub items_at : List ℕ → Option Line
items_at bytes = do
  oid ← number_at bytes
  Some (lines.Tree oid calls.Items)

unfoldable pub range_at : List ℕ → Option Line
range_at bytes = do
  oid ← field_at bytes
  from ← key_field_at oid.1
  to ← key_at from.1
  Some (lines.Tree oid.0 (calls.Range from.0 to))

-- a line with a call on a tree
unfoldable pub tree_line_at : List ℕ → Option Line
tree_line_at bytes =
    if_some (behind_word (codes "set ") bytes) set_at
    (if_some (behind_word (codes "insert ") bytes) (keyed_at calls.Insert)
    (if_some (behind_word (codes "del ") bytes) (keyed_at calls.Del)
    (if_some (behind_word (codes "find ") bytes) (keyed_at calls.Find)
    (if_some (behind_word (codes "items ") bytes) items_at
    (if_some (behind_word (codes "range ") bytes) range_at None)))))

-- a line without a field, or one of a tree
unfoldable pub words_at : List ℕ → Option Line
words_at bytes =
    if bytes_eq bytes (codes "open local") then Some (lines.Open false)
    else if bytes_eq bytes (codes "open remote") then Some (lines.Open true)
    else if bytes_eq bytes (codes "begin") then Some lines.Begin
    else if bytes_eq bytes (codes "new") then Some lines.New
    else if bytes_eq bytes (codes "finish") then Some lines.Finish
    else if bytes_eq bytes (codes "abort") then Some lines.Abort
    else if bytes_eq bytes (codes "undolog") then Some lines.UndoLog
    else if bytes_eq bytes (codes "close") then Some lines.Close
    else if bytes_eq bytes (codes "savepoint") then Some lines.Savepoint
    else if bytes_eq bytes (codes "packturn") then Some lines.PackTurn
    else if bytes_eq bytes (codes "deliver") then Some lines.Deliver
    else tree_line_at bytes

-- a line with one number, without a field, or of a tree
unfoldable pub short_line_at : List ℕ → Option Line
short_line_at bytes =
    if_some (behind_word (codes "load ") bytes) (numbered_at lines.Load)
    (if_some (behind_word (codes "get ") bytes) (numbered_at lines.Get)
    (if_some (behind_word (codes "history ") bytes) (numbered_at lines.History)
    (if_some (behind_word (codes "pack ") bytes) (packed_at lines.Pack)
    (if_some (behind_word (codes "packbegin ") bytes) (packed_at lines.PackBegin)
    (if_some (behind_word (codes "rollback ") bytes) rollback_at (words_at bytes))))))

unfoldable pub line_at : List ℕ → Option Line
line_at bytes =
    if_some (behind_word (codes "store ") bytes) store_at
    (if_some (behind_word (codes "put ") bytes) put_at
    (if_some (behind_word (codes "check ") bytes) (paired_at lines.Check)
    (if_some (behind_word (codes "delete ") bytes) (paired_at lines.Delete)
    (if_some (behind_word (codes "vote ") bytes) vote_at
    (if_some (behind_word (codes "undo ") bytes) undo_at (short_line_at bytes))))))

unfoldable pub name_at : List ℕ → Option (List ℕ)
name_at bytes = if is_name bytes then Some bytes else None

unfoldable pub turn_at : List ℕ → Option Turn
turn_at bytes = do
  word ← cut_at 32 bytes
  client ← name_at word.0
  line ← line_at word.1
  Some (record { client = client; line = line })

-- ---- scripts

-- the turn, where it can stand behind the opens of these clients
abbrev pub turn_placed : Opened → Option Turn → Option Turn
turn_placed opened None = None
turn_placed opened (Some t) = if stands_behind opened t then Some t else None

abbrev pub then_turns : List Turn → Option Turn → (List Turn → Result (List Turn) ℕ) → Result (List Turn) ℕ
then_turns before None rest = Err (length before + 1)
then_turns before (Some t) rest = rest (before ++ t ∷ [])

-- the turns that the pieces spell behind those before them, or the number of the first bad piece
unfoldable pub turns_at : List Turn → List (List ℕ) → Result (List Turn) ℕ
turns_at before [] = Ok before
turns_at before (piece ∷ others) = then_turns before (turn_placed (opened_by before) (turn_at piece)) (λ turns. turns_at turns others)

-- the clients that have opened their session, and a turn's client behind them where it opens one
abbrev pub with_opener : Opened → Turn → Opened
with_opener opened t = record { clients = opened.clients ++ openers (t ∷ []); linked = opened.linked ++ linked (t ∷ []) }
