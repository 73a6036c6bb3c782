-- Messages that come whole. Own.
use Rattle.std.specs.Prelude.{◌≡◌, ◌⊎◌, ℕ, List, [], ◌∷◌, Option, Some, None, Result, Ok, Err, true, map, IsTrue}
use Rattle.std.specs.List.{AllByRecursion}
use Rattle.zeo_frames.specs.Frames.{IsWithinLimit, Reading, frames}
use Rattle.zeo_messages.specs.declared.call.Call.{Call}
use Rattle.zeo_messages.specs.declared.message.Message.{Message}
use Rattle.zeo_messages.specs.Messages.{IsHeld, fits, payload_of}
use Rattle.zeo_client.specs.declared.error.ClientError.{ClientError}
use Rattle.zeo_client.specs.declared.error.ClientError.TheVariants.{Memory}
use Rattle.zeo_client.specs.Hearing.{Held, IsHeard}
use Rattle.zeo_client.specs.Rows.{may_come}
use Rattle.zeo_client.specs.Taking.{ClientState, IsFed}

-- no byte of a frame has come
abbrev pub ready : Reading
ready = record { rest = []; ended = None }

-- a message of a row that may come behind the last call, whose payload fits a frame
pub record MayBeSent (number : ℕ) (last : Option Call) (message : Message) : Type 0 where
  pub held : IsHeld message
  pub row : IsTrue (fits message)
  pub may : may_come number last message ≡ true
  pub within : IsWithinLimit (payload_of message)

-- messages that are heard, one after another
abbrev pub HearsMessages : Option Call → List Message → Held → Held → Type 0
HearsMessages last [] old new = new ≡ old
HearsMessages last (message ∷ messages) old new = (mid : Held) × IsHeard last message old mid × HearsMessages last messages mid new

-- some first of them, or all
abbrev pub HearsFront : Option Call → List Message → Held → Held → Type 0
HearsFront last [] old new = new ≡ old
HearsFront last (message ∷ messages) old new = (new ≡ old) ⊎ ((mid : Held) × IsHeard last message old mid × HearsFront last messages mid new)

-- there was no memory: some first messages were heard, and no more is taken from then on
pub record AreCutShort (messages : List Message) (old : ClientState) (result : Result (List Message) ClientError) (new : ClientState) : Type 0 where
  pub given : result ≡ Err Memory
  pub heard : HearsFront old.last messages old.held new.held
  pub ended : new.ended ≡ Some Memory

-- all of them were given and heard, and no byte is left over
pub record AreHeard (messages : List Message) (old : ClientState) (result : Result (List Message) ClientError) (new : ClientState) : Type 0 where
  pub given : result ≡ Ok messages
  pub heard : HearsMessages old.last messages old.held new.held
  pub reading : new.reading ≡ ready
  pub ended : new.ended ≡ None
  pub number : new.number ≡ old.number
  pub last : new.last ≡ old.last

-- Where the frames of messages that may come are a piece, they are given and heard, one after another; without memory some first ones are heard.
abbrev pub WholePiecesAreHeard : Type 0
WholePiecesAreHeard =
    (messages : List Message) (old new : ClientState) (result : Result (List Message) ClientError) → AllByRecursion (MayBeSent old.number old.last) messages
    → old.reading ≡ ready → old.ended ≡ None → IsFed old (frames (map payload_of messages)) result new → AreCutShort messages old result new ⊎ AreHeard messages old result new
