-- Frames: payloads, each behind its length. From: ZEO, whose lengths have four bytes, the highest first.
use Rattle.std.specs.Prelude.{◌≡◌, ◌≢◌, ℕ, ◌+◌, ◌<◌, ◌≤◌, List, [], ◌∷◌, ◌++◌, Option, Some, None, Result, Ok, Err, length, take, ◌⊎◌}
use Rattle.std.specs.List.{flat_map, AllByRecursion}
use Rattle.byteorder.specs.Endian.{big_bytes, big_number}
use Rattle.zeo_frames.specs.declared.limit.TheConstants.{FRAME_LIMIT}
use Rattle.zeo_frames.specs.declared.unfinished.Filled.{Filled}
use Rattle.zeo_frames.specs.declared.unfinished.Filled.TheVariants.{All, Whole, TooLong}
use Rattle.zeo_frames.specs.declared.error.FrameError.{FrameError}
use Rattle.zeo_frames.specs.declared.error.FrameError.TheVariants.{FrameTooLong, Memory}

-- ---- the grammar

-- a payload in its frame
unfoldable pub frame : List ℕ → List ℕ
frame payload = big_bytes 4 (length payload) ++ payload

-- frames, one behind the other
abbrev pub frames : List (List ℕ) → List ℕ
frames payloads = flat_map frame payloads

-- how long the payload of the frame is that begins with these bytes
abbrev pub length_field : List ℕ → ℕ
length_field bytes = big_number 4 bytes

-- a payload of at most the limit
abbrev pub IsWithinLimit : List ℕ → Type 0
IsWithinLimit payload = length payload ≤ FRAME_LIMIT

-- so much of a frame has come that it isn't whole: not its length, or a length within the limit and fewer bytes than that
abbrev pub IsUnfinished : List ℕ → Type 0
IsUnfinished bytes = (length bytes < 4) ⊎ ((length_field bytes ≤ FRAME_LIMIT) × (length bytes < 4 + length_field bytes))

-- a length above the limit stands at the front
pub record IsTooLong (bytes : List ℕ) (excess : ℕ) : Type 0 where
  pub whole : 4 ≤ length bytes
  pub says : length_field bytes ≡ excess
  pub above : FRAME_LIMIT < excess

-- bytes are the frames of these payloads, each within the limit, and a rest behind them
pub record AreCut (bytes : List ℕ) (payloads : List (List ℕ)) (rest : List ℕ) : Type 0 where
  pub spelled : bytes ≡ frames payloads ++ rest
  pub within : AllByRecursion IsWithinLimit payloads

-- ---- reading

-- what is kept between the pieces of a stream: the bytes of the frame that isn't whole yet, or why no more is read
pub record Reading : Type 0 where
  pub rest : List ℕ
  pub ended : Option FrameError

-- the bytes that came, cut into frames, are the payloads that were given and what is kept; after want of memory nothing is said
pub record IsStopped (came : List ℕ) (given : List (List ℕ)) (excess : ℕ) (kept : List ℕ) : Type 0 where
  pub rest : List ℕ
  pub cut : AreCut came given rest
  pub long : IsTooLong rest excess
  pub none : kept ≡ []

pub record IsGoing (came : List ℕ) (given : List (List ℕ)) (kept : List ℕ) : Type 0 where
  pub cut : AreCut came given kept
  pub more : IsUnfinished kept

abbrev pub IsRead : List ℕ → List (List ℕ) → List ℕ → Option FrameError → Type 0
IsRead came given kept None = IsGoing came given kept
IsRead came given kept (Some (FrameTooLong excess)) = IsStopped came given excess kept
IsRead came given kept (Some Memory) = Unit {0}

abbrev pub HasCome : List ℕ → List (List ℕ) → Reading → Type 0
HasCome came given reading = IsRead came given reading.rest reading.ended

-- ---- one feed

-- the payloads that a feed gives
abbrev pub payloads_of : Result (List (List ℕ)) FrameError → List (List ℕ)
payloads_of (Ok payloads) = payloads
payloads_of (Err error) = []

-- reading goes on behind payloads that were given, or ends at a length above the limit and at least one payload was given
abbrev pub GoesOn : List (List ℕ) → Option FrameError → Type 0
GoesOn payloads None = Unit {0}
GoesOn payloads (Some (FrameTooLong excess)) = payloads ≢ []
GoesOn payloads (Some Memory) = ⊥

-- what has ended stays as it is and answers the same
abbrev pub StaysEnded : Option FrameError → Reading → Reading → Result (List (List ℕ)) FrameError → Type 0
StaysEnded None old new result = Unit {0}
StaysEnded (Some error) old new result = (result ≡ Err error) × (new ≡ old)

-- ---- the bytes that are kept, in two parts

-- a length that isn't whole, or one within the limit and not all bytes of its payload
pub record IsHeld (head body : List ℕ) : Type 0 where
  pub short : length head ≤ 4
  pub none : length head < 4 → body ≡ []
  pub more : 4 ≤ length head → (length_field head ≤ FRAME_LIMIT) × (length body < length_field head)

-- a whole frame
pub record IsWhole (head body : List ℕ) : Type 0 where
  pub spelled : big_bytes 4 (length_field head) ≡ head
  pub within : length_field head ≤ FRAME_LIMIT
  pub all : length body ≡ length_field head

-- the whole piece was taken, and the frame isn't whole
pub record IsTaken (held piece head body : List ℕ) : Type 0 where
  pub text : head ++ body ≡ held ++ piece
  pub kept : IsHeld head body

-- so many bytes were taken, and the frame is whole
pub record IsFilled (count : ℕ) (held piece head body : List ℕ) : Type 0 where
  pub some : 0 < count
  pub within : count ≤ length piece
  pub text : head ++ body ≡ held ++ take count piece
  pub whole : IsWhole head body

-- what a step over a piece says
abbrev pub Steps : Filled → List ℕ → List ℕ → List ℕ → List ℕ → Type 0
Steps All held piece head body = IsTaken held piece head body
Steps (Whole count) held piece head body = IsFilled count held piece head body
Steps (TooLong excess) held piece head body = IsTooLong (held ++ piece) excess

-- the payloads of a piece behind what was held, and what is held then, or the length at which it stopped
pub record IsCutOff (bytes : List ℕ) (payloads : List (List ℕ)) (excess : ℕ) : Type 0 where
  pub rest : List ℕ
  pub cut : AreCut bytes payloads rest
  pub long : IsTooLong rest excess

pub record IsCutUp (bytes : List ℕ) (payloads : List (List ℕ)) (head body : List ℕ) : Type 0 where
  pub cut : AreCut bytes payloads (head ++ body)
  pub kept : IsHeld head body

abbrev pub Cuts : List ℕ → List (List ℕ) → Option ℕ → List ℕ → List ℕ → Type 0
Cuts bytes payloads None head body = IsCutUp bytes payloads head body
Cuts bytes payloads (Some excess) head body = IsCutOff bytes payloads excess
