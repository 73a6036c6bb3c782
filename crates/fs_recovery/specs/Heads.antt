-- What stands where a transaction may begin. Source: own.
use Rattle.std.specs.Prelude.{◌≡◌, ℕ, ◌+◌, ◌-◌, ◌^◌, ◌<◌, ◌≤◌, ◌==◌, not, nat_le, if◌then◌else◌, List, length, drop, Option, Some, None}
use Rattle.fs_records.specs.declared.header.Header.{Header}
use Rattle.fs_records.specs.declared.field.Field.TheVariants as fields
use Rattle.fs_records.specs.declared.verdict.Verdict.{Verdict}
use Rattle.fs_records.specs.declared.verdict.Verdict.TheVariants as verdicts
use Rattle.fs_records.specs.Headers.{header_of}
use Rattle.fs_records.specs.Numbers.{number_in}
use Rattle.fs_records.specs.Rules.{verdict, texts_length}
use Rattle.fs_recovery.specs.declared.head.Head.{Head}
use Rattle.fs_recovery.specs.declared.head.Head.TheVariants as heads

-- it is what the rules say of the rest
abbrev pub Judges : Head → ℕ → List ℕ → Type 0
Judges heads.Ends newest rest = verdict newest rest ≡ verdicts.Ends
Judges heads.Tail newest rest = verdict newest rest ≡ verdicts.Tail
Judges (heads.Fault field) newest rest = verdict newest rest ≡ verdicts.Fault field
Judges (heads.Begun h) newest rest = (verdict newest rest ≡ verdicts.Begun) × (h ≡ header_of rest)

-- a transaction with this header begins at a place
pub record HeaderBegins (bytes : List ℕ) (p newest : ℕ) (h : Header) : Type 0 where
  pub begun : verdict newest (drop p bytes) ≡ verdicts.Begun
  pub header_is : h ≡ header_of (drop p bytes)

-- of a transaction that begins, whatever a volume gives: it ends within the room, has room for its texts, and its number is above the last and below 2^64-1
pub record HeaderFits (h : Header) (newest room : ℕ) : Type 0 where
  pub long : h.length + 8 ≤ room
  pub texts : 23 + texts_length h ≤ h.length
  pub above : newest < h.tid
  pub below : h.tid < 2 ^ 64 - 1

-- a header that was judged fits into the room that is left
abbrev pub IsFit : Head → ℕ → ℕ → Type 0
IsFit heads.Ends newest room = Unit {0}
IsFit heads.Tail newest room = Unit {0}
IsFit (heads.Fault field) newest room = Unit {0}
IsFit (heads.Begun h) newest room = HeaderFits h newest room

-- ---- the rules in two parts

-- what the rules behind those on the header's status and length say, by the closing length
abbrev pub closed : ℕ → Header → ℕ → Verdict
closed newest h closing =
    if not (closing == h.length) then verdicts.Fault fields.Closing
    else if nat_le h.tid newest then verdicts.Fault fields.Tid
    else if h.tid == 2 ^ 64 - 1 then verdicts.Fault fields.Tid
    else verdicts.Begun

-- bytes with this header, of which so many are left
pub record HasHeader (h : Header) (room : ℕ) (rest : List ℕ) : Type 0 where
  pub header_is : h ≡ header_of rest
  pub room_is : room ≡ length rest
  pub long : 23 ≤ room

-- a header by which nothing is decided yet: its length is within the room, and has room for the texts
pub record IsOpen (h : Header) (room : ℕ) : Type 0 where
  pub long : h.length + 8 ≤ room
  pub texts : 23 + texts_length h ≤ h.length
  pub left : (newest : ℕ) (rest : List ℕ) → HasHeader h room rest → verdict newest rest ≡ closed newest h (number_in 8 (drop h.length rest))

-- what a header and the room decide
abbrev pub Decides : Option Head → Header → ℕ → Type 0
Decides (Some head) h room = ((newest : ℕ) (rest : List ℕ) → HasHeader h room rest → Judges head newest rest) × ((newest : ℕ) → IsFit head newest room)
Decides None h room = IsOpen h room
