-- A message, and its payload: the one spelling of its row. From: ZEO; which rows there are is own.
use Rattle.std.specs.Prelude.{ℕ, ◌^◌, Bool, true, ◌&&◌, List, [], ◌∷◌, ◌++◌, ◌-◌, length, nat_lt, codes}
use Rattle.zeo_messages.specs.declared.message.Message.{Message}
use Rattle.zeo_messages.specs.declared.message.Message.TheVariants.{Asked, Answered, Told}
use Rattle.zeo_messages.specs.declared.message.Notice.{Notice}
use Rattle.zeo_messages.specs.declared.message.Notice.TheVariants as notices
use Rattle.zeo_values.specs.Values.{count_text, id_text, list_of, name_text, tuple_text, IsId, AreIds}
use Rattle.zeo_messages.specs.Calls.{method_of, arguments_of, flag_of, fits_call, HoldsCall}
use Rattle.zeo_messages.specs.Answers.{kind_of, value_of, fits_answer, HoldsAnswer}

-- ---- what is told without being asked

abbrev pub notice_name : Notice → List ℕ
notice_name (notices.Invalidate tid oids) = codes "invalidateTransaction"
notice_name (notices.Forget front) = codes "forget"
notice_name (notices.Packed tid) = codes "packed"

abbrev pub notice_fields : Notice → List (List ℕ)
notice_fields (notices.Invalidate tid oids) = id_text tid ∷ list_of id_text oids ∷ []
notice_fields (notices.Forget front) = id_text front ∷ []
notice_fields (notices.Packed tid) = id_text tid ∷ []

abbrev pub HoldsNotice : Notice → Type 0
HoldsNotice (notices.Invalidate tid oids) = IsId tid × AreIds oids
HoldsNotice (notices.Forget front) = IsId front
HoldsNotice (notices.Packed tid) = IsId tid

-- ---- payloads

-- PROTO 3, the tuple of a number, a flag, a method and its arguments or the value of an answer, and STOP
abbrev pub payload_with : ℕ → ℕ → List ℕ → List ℕ → List ℕ
payload_with number flag method value =
    0x80 ∷ 3 ∷ 0x28 ∷ (count_text number ++ (count_text flag ++ (name_text method ++ (value ++ 0x74 ∷ 0x2e ∷ []))))

abbrev pub payload_of : Message → List ℕ
payload_of (Asked number call) = payload_with number (flag_of call) (method_of call) (tuple_text (arguments_of call))
payload_of (Answered number answer) = payload_with number 0 (kind_of answer) (value_of answer)
payload_of (Told notice) = payload_with 0 1 (notice_name notice) (tuple_text (notice_fields notice))

-- the numbers of calls
abbrev pub is_number : ℕ → Bool
is_number n = nat_lt n (2 ^ 31)

-- a message says what its row allows
abbrev pub fits : Message → Bool
fits (Asked number call) = is_number number && fits_call call
fits (Answered number answer) = is_number number && fits_answer answer
fits (Told notice) = true

-- the numbers in a message are those that its fields can hold
abbrev pub IsHeld : Message → Type 0
IsHeld (Asked number call) = HoldsCall call
IsHeld (Answered number answer) = HoldsAnswer answer
IsHeld (Told notice) = HoldsNotice notice

-- ---- lengths

-- the message with the greatest number, whose text has 5 bytes
abbrev pub counted : Message → Message
counted (Asked number call) = Asked (2 ^ 31 - 1) call
counted (Answered number answer) = Answered (2 ^ 31 - 1) answer
counted (Told notice) = Told notice

-- how long a message's payload is, with its number counted as 5 bytes
abbrev pub length_of : Message → ℕ
length_of message = length (payload_of (counted message))
