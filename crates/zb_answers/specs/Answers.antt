-- The lines that answer a turn. Own.
use Rattle.std.specs.Prelude.{ℕ, List, [], ◌∷◌, ◌++◌, length, map, codes, decimal}
use Rattle.zb_ids.specs.Hex.{hex_text, hex_number}
use Rattle.zb_answers.specs.declared.answer.Answer.{Answer}
use Rattle.zb_answers.specs.declared.answer.Answer.TheVariants as answer
use Rattle.zb_answers.specs.Items.{items_text}
use Rattle.zb_answers.specs.Lists.{log_words, revision_words}
use Rattle.zb_answers.specs.Objects.{key_text, object_answer}
use Rattle.zb_answers.specs.Refusals.{refusal_text}

-- the first line, behind the client's name and a blank
abbrev pub answer_text : Answer → List ℕ
answer_text (answer.Opened session) = codes "opened " ++ decimal session
answer_text (answer.Begun front) = codes "begun " ++ hex_number front
answer_text (answer.Delivered front) = codes "delivered " ++ hex_number front
answer_text (answer.Data serial bytes) = codes "data " ++ (hex_number serial ++ 32 ∷ hex_text bytes)
answer_text (answer.Object serial bytes) = object_answer serial bytes
answer_text answer.Stored = codes "stored"
answer_text answer.Checked = codes "checked"
answer_text answer.Deleted = codes "deleted"
answer_text answer.Voted = codes "voted"
answer_text (answer.Committed tid) = codes "committed " ++ hex_number tid
answer_text answer.Empty = codes "empty"
answer_text answer.Aborted = codes "aborted"
answer_text (answer.Oid oid) = codes "oid " ++ hex_number oid
answer_text (answer.History list) = codes "history " ++ decimal (length list)
answer_text (answer.UndoLog list) = codes "undolog " ++ decimal (length list)
answer_text (answer.Packed kept dropped) = codes "packed " ++ (decimal kept ++ 32 ∷ decimal dropped)
answer_text (answer.Packing tid) = codes "packing " ++ hex_number tid
answer_text (answer.Marking count) = codes "marking " ++ decimal count
answer_text (answer.Marked count) = codes "marked " ++ decimal count
answer_text (answer.Copying count) = codes "copying " ++ decimal count
answer_text (answer.Copied count) = codes "copied " ++ decimal count
answer_text answer.Done = codes "done"
answer_text answer.Absent = codes "absent"
answer_text (answer.Found value) = codes "found " ++ key_text value
answer_text (answer.Items list is_set) = codes "items " ++ items_text is_set list
answer_text (answer.Savepoint number) = codes "savepoint " ++ decimal number
answer_text (answer.Rolled number) = codes "rolled " ++ decimal number
answer_text answer.Closed = codes "closed"
answer_text (answer.Refused why) = codes "refused " ++ refusal_text why

-- a dash, a blank and an item
abbrev pub dashed : List ℕ → List ℕ
dashed item = 45 ∷ 32 ∷ item

-- the further lines: one for each item of a list
abbrev pub item_texts : Answer → List (List ℕ)
item_texts (answer.History list) = map (λ item. dashed (revision_words item)) list
item_texts (answer.UndoLog list) = map (λ item. dashed (log_words item)) list
item_texts _ = []

-- the client's name, a blank, a text and a newline
abbrev pub reply_line : List ℕ → List ℕ → List ℕ
reply_line client text = client ++ 32 ∷ (text ++ 10 ∷ [])

-- the lines that answer a turn of the client
abbrev pub reply_lines : List ℕ → Answer → List (List ℕ)
reply_lines client a = reply_line client (answer_text a) ∷ map (reply_line client) (item_texts a)
