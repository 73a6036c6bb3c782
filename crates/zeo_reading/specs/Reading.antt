-- What a payload is read as. Own.
use Rattle.std.specs.Prelude.{◌≡◌, ℕ, ◌&&◌, List, Option, Some, None, Result, Ok, Err, IsTrue, if◌then◌else◌}
use Rattle.std.specs.Str.{bytes_eq}
use Rattle.zeo_messages.specs.declared.message.Message.{Message}
use Rattle.zeo_reading.specs.declared.error.MessageError.{MessageError}
use Rattle.zeo_reading.specs.declared.error.MessageError.TheVariants.{BadMessage, Memory}
use Rattle.zeo_reading.specs.Loose.{loose_message}
use Rattle.zeo_messages.specs.Messages.{fits, payload_of, IsHeld}

-- the message that a payload is read as loosely, where it is one of a row and spells the payload
abbrev pub checked : List ℕ → Option Message → Option Message
checked payload None = None
checked payload (Some message) = if fits message && bytes_eq (payload_of message) payload then Some message else None

unfoldable pub message_in : List ℕ → Option Message
message_in payload = checked payload (loose_message payload)

-- the answer is the one of the definition; memory is free to run out
abbrev pub Reads : Result Message MessageError → Option Message → Type 0
Reads (Ok message) found = found ≡ Some message
Reads (Err BadMessage) found = found ≡ None
Reads (Err Memory) found = Unit {0}

-- a message of a row, and its payload
pub record IsRead (payload : List ℕ) (message : Message) : Type 0 where
  pub row : IsTrue (fits message)
  pub spelled : payload ≡ payload_of message

-- no message of a row has this payload
abbrev pub IsNoMessage : List ℕ → Type 0
IsNoMessage payload = (message : Message) → IsHeld message → IsTrue (fits message) → payload ≡ payload_of message → ⊥

-- ---- laws

-- the payload of a message of a row is read as this message, so each payload is of one message at most
abbrev pub AreReadBack : Type 0
AreReadBack = (message : Message) → IsHeld message → IsTrue (fits message) → message_in (payload_of message) ≡ Some message
