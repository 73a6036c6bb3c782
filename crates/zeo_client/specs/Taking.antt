-- What a client makes of payloads, and of a piece of the stream. Own.
use Rattle.std.specs.Prelude.{◌≡◌, ℕ, ◌++◌, List, [], ◌∷◌, Option, Some, None, Result, Ok, Err, IfOk, IfErr}
use Rattle.zeo_frames.specs.declared.error.FrameError.{FrameError}
use Rattle.zeo_frames.specs.Frames.{GoesOn, HasCome, Reading, StaysEnded, payloads_of}
use Rattle.zeo_messages.specs.declared.call.Call.{Call}
use Rattle.zeo_messages.specs.declared.message.Message.{Message}
use Rattle.zeo_reading.specs.Reading.{message_in}
use Rattle.zeo_client.specs.declared.error.ClientError.{ClientError}
use Rattle.zeo_client.specs.declared.error.ClientError.TheVariants.{BadMessage, Memory}
use Rattle.zeo_client.specs.Errors.{of_frame}
use Rattle.zeo_client.specs.Hearing.{Held, IsHeard}
use Rattle.zeo_client.specs.Rows.{if_it_may}

-- ---- payloads

-- the message of a payload that may come behind the last call, which had this number
abbrev pub coming : ℕ → Option Call → List ℕ → Option Message
coming number last payload = if_it_may number last (message_in payload)

-- one payload: its message was heard; or none may come; or there was no memory, and nothing was heard
abbrev pub IsTaken : ℕ → Option Call → List ℕ → Held → Result Message ClientError → Held → Type 0
IsTaken number last payload old (Ok message) new = (coming number last payload ≡ Some message) × IsHeard last message old new
IsTaken number last payload old (Err BadMessage) new = (coming number last payload ≡ None) × (new ≡ old)
IsTaken number last payload old (Err Memory) new = new ≡ old
IsTaken number last payload old (Err _) new = ⊥

-- a message ahead of others
abbrev pub ahead : Message → Result (List Message) ClientError → Result (List Message) ClientError
ahead message (Ok messages) = Ok (message ∷ messages)
ahead message (Err error) = Err error

-- Payloads one after another: the messages that they are, each of which is heard; up to the first one that may not come, or until there is no
-- memory.
pub data Takes (number : ℕ) (last : Option Call) : List (List ℕ) → Held → Result (List Message) ClientError → Held → Type 0 where
  taken_all : (held : Held) → Takes number last [] held (Ok []) held
  bad : (payload : List ℕ) (rest : List (List ℕ)) (held : Held) → coming number last payload ≡ None → Takes number last (payload ∷ rest) held (Err BadMessage) held
  starved : (payloads : List (List ℕ)) (held : Held) → Takes number last payloads held (Err Memory) held
  taken : (payload : List ℕ) (rest : List (List ℕ)) (message : Message) (held behind now : Held) (result : Result (List Message) ClientError) → coming number last payload ≡ Some message
      → IsHeard last message held behind → Takes number last rest behind result now → Takes number last (payload ∷ rest) held (ahead message result) now

-- ---- a piece

-- what a client keeps: what it has cached and was told, the bytes of a frame that isn't whole, the number and the arguments of the last call, and
-- why no more is taken
pub record ClientState : Type 0 where
  pub held : Held
  pub reading : Reading
  pub number : ℕ
  pub last : Option Call
  pub ended : Option ClientError

-- a piece is cut into these payloads, or reading ends
pub record IsCut (old : Reading) (piece : List ℕ) (payloads : Result (List (List ℕ)) FrameError) (new : Reading) : Type 0 where
  pub come : (came : List ℕ) (given : List (List ℕ)) → HasCome came given old → HasCome (came ++ piece) (given ++ payloads_of payloads) new
  pub ok : IfOk payloads (λ payloads. GoesOn payloads new.ended)
  pub err : IfErr payloads (λ error. new.ended ≡ Some error)
  pub ever_after : StaysEnded old.ended old new payloads

abbrev pub TakesIfCut : ℕ → Option Call → Result (List (List ℕ)) FrameError → Held → Result (List Message) ClientError → Held → Type 0
TakesIfCut number last (Ok payloads) old result new = Takes number last payloads old result new
TakesIfCut number last (Err error) old result new = (result ≡ Err (of_frame error)) × (new ≡ old)

abbrev pub error_of : {T : Type 0} → Result T ClientError → Option ClientError
error_of (Ok x) = None
error_of (Err error) = Some error

-- a piece is taken: it is cut into payloads, which are taken
pub record IsTakenSo (old : ClientState) (piece : List ℕ) (result : Result (List Message) ClientError) (new : ClientState) : Type 0 where
  pub payloads : Result (List (List ℕ)) FrameError
  pub cut : IsCut old.reading piece payloads new.reading
  pub taken : TakesIfCut old.number old.last payloads old.held result new.held
  pub same : (new.number ≡ old.number) × (new.last ≡ old.last) × (new.ended ≡ old.ended)

-- and where that fails, no more is taken from then on
pub record IsPieceTaken (old : ClientState) (piece : List ℕ) (result : Result (List Message) ClientError) (new : ClientState) : Type 0 where
  pub taken : IsTakenSo old piece result (record new { ended = old.ended })
  pub ended : new.ended ≡ error_of result

-- and once no more is taken, each piece is answered so
abbrev pub IsFedIf : Option ClientError → ClientState → List ℕ → Result (List Message) ClientError → ClientState → Type 0
IsFedIf None old piece result new = IsPieceTaken old piece result new
IsFedIf (Some error) old piece result new = (result ≡ Err error) × (new ≡ old)

abbrev pub IsFed : ClientState → List ℕ → Result (List Message) ClientError → ClientState → Type 0
IsFed old piece result new = IsFedIf old.ended old piece result new
