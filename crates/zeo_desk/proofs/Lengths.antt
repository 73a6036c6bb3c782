-- How long the payloads of answers are.
use Rattle.std.proofs.Common.{◌≡◌, ℕ, ◌+◌, ◌-◌, ◌≤◌, ◌<◌, ◌^◌, List, [], ◌∷◌, ◌++◌, Option, Some, None, length, length-append, refl, arith}
use Rattle.std.specs.Prelude.{codes}
use Rattle.zb_model.specs.declared.refusal.Refusal.TheVariants as refusals
use Rattle.zeo_frames.specs.declared.limit.TheConstants.{FRAME_LIMIT}
use Rattle.zeo_messages.specs.declared.answer.Answer.{Answer}
use Rattle.zeo_messages.specs.declared.answer.Answer.TheVariants as answers
use Rattle.zeo_messages.specs.declared.message.Message.TheVariants.{Answered}
use Rattle.zeo_messages.specs.Answers.{value_of}
use Rattle.zeo_messages.specs.LengthLaws.{answer_counted, payload_length}
use Rattle.zeo_messages.specs.Messages.{payload_of, payload_with}
use Rattle.zeo_values.specs.LengthLaws.{count_short, id_length, last_length, long_bytes_length, zero_length}
use Rattle.zeo_values.specs.Values.{bytes_text, count_text, id_text, name_text}
use Rattle.zeo_desk.specs.Answering.{bytes_round, counted_length, IsShortAnswer}

reply_length : length (name_text (codes ".reply")) ≡ 11
unfolding name_text
reply_length = refl

error_length : length (name_text (codes ".error")) ≡ 11
unfolding name_text
error_length = refl

not_open_length : length (name_text (codes "NotOpen")) ≡ 12
unfolding name_text
not_open_length = refl

bad_message_length : length (name_text (codes "BadMessage")) ≡ 15
unfolding name_text
bad_message_length = refl

too_long_length : length (name_text (codes "TooLong")) ≡ 12
unfolding name_text
too_long_length = refl

-- ---- payloads

-- the counted length of an answer is that of its payload, but for its number
pub payload_counted : (number : ℕ) (answer : Answer) → length (payload_of (Answered number answer)) + 5 ≡ counted_length answer + length (count_text number)
payload_counted number answer = answer_counted number answer

-- a refusal whose name and fields have these bytes
short_refusal : (number : ℕ) (value : List ℕ) → length value ≤ 100 → length (payload_with number 0 (codes ".error") value) ≤ FRAME_LIMIT
short_refusal number value h =
    let a = payload_length number 0 (codes ".error") value in
    let b = count_short number in
    let c = zero_length in
    let d = error_length in
    omega (arith, a, b, c, d, h)

pub not_open_fits : (number : ℕ) → IsShortAnswer number (answers.Refused refusals.NotOpen)
not_open_fits number =
    let a = length-append (name_text (codes "NotOpen")) (0x85 ∷ []) in
    let b = not_open_length in
    record { allowed = refl; within = short_refusal number (value_of (answers.Refused refusals.NotOpen)) (omega (arith, a, b)) }

pub bad_message_fits : (number : ℕ) → IsShortAnswer number (answers.Refused refusals.BadMessage)
bad_message_fits number =
    let a = length-append (name_text (codes "BadMessage")) (0x85 ∷ []) in
    let b = bad_message_length in
    record { allowed = refl; within = short_refusal number (value_of (answers.Refused refusals.BadMessage)) (omega (arith, a, b)) }

pub too_long_fits : (number n : ℕ) → IsShortAnswer number (answers.Refused (refusals.TooLong n))
too_long_fits number n =
    let a = length-append (name_text (codes "TooLong")) (count_text n ++ 0x86 ∷ []) in
    let b = length-append (count_text n) (0x86 ∷ []) in
    let c = count_short n in
    let d = too_long_length in
    record { allowed = refl; within = short_refusal number (value_of (answers.Refused (refusals.TooLong n))) (omega (arith, a, b, c, d)) }

pub done_fits : (number : ℕ) → IsShortAnswer number answers.Done
done_fits number =
    let a = payload_length number 0 (codes ".reply") (value_of answers.Done) in
    let b = count_short number in
    let c = zero_length in
    let d = reply_length in
    record { allowed = refl; within = omega (arith, a, b, c, d) }

-- ---- revisions whose record alone doesn't fit

-- the value of a revision's answer
revision_length : (bytes end : List ℕ) (serial upto : ℕ) → 256 ≤ length bytes
    → length (0x28 ∷ (bytes_text bytes ++ (id_text serial ++ (end ++ (id_text upto ++ 0x74 ∷ []))))) ≡ length bytes + length end + 27
revision_length bytes end serial upto h =
    let a = length-append (bytes_text bytes) (id_text serial ++ (end ++ (id_text upto ++ 0x74 ∷ []))) in
    let b = length-append (id_text serial) (end ++ (id_text upto ++ 0x74 ∷ [])) in
    let c = length-append end (id_text upto ++ 0x74 ∷ []) in
    let d = length-append (id_text upto) (0x74 ∷ []) in
    let e = long_bytes_length bytes h in
    let f = id_length serial in
    let g = id_length upto in
    omega (arith, a, b, c, d, e, f, g)

open_length : (bytes : List ℕ) (serial upto : ℕ) → FRAME_LIMIT < length bytes → counted_length (answers.Loaded bytes serial None upto) ≡ length bytes + 51
open_length bytes serial upto h =
    let a = payload_length (2 ^ 31 - 1) 0 (codes ".reply") (value_of (answers.Loaded bytes serial None upto)) in
    let b = revision_length bytes (0x4e ∷ []) serial upto (omega (arith, h)) in
    let c = last_length in
    let d = zero_length in
    let e = reply_length in
    omega (arith, a, b, c, d, e)

ended_length : (bytes : List ℕ) (serial end upto : ℕ) → FRAME_LIMIT < length bytes → counted_length (answers.Loaded bytes serial (Some end) upto) ≡ length bytes + 60
ended_length bytes serial end upto h =
    let a = payload_length (2 ^ 31 - 1) 0 (codes ".reply") (value_of (answers.Loaded bytes serial (Some end) upto)) in
    let b = revision_length bytes (id_text end) serial upto (omega (arith, h)) in
    let c = last_length in
    let d = zero_length in
    let e = reply_length in
    let f = id_length end in
    omega (arith, a, b, c, d, e, f)

pub loaded_length : (bytes : List ℕ) (serial : ℕ) (end : Option ℕ) (upto : ℕ) → FRAME_LIMIT < length bytes
    → counted_length (answers.Loaded bytes serial end upto) ≡ length bytes + bytes_round end
loaded_length bytes serial None upto h = open_length bytes serial upto h
loaded_length bytes serial (Some end) upto h = ended_length bytes serial end upto h
