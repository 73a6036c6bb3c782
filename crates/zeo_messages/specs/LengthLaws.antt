-- How long the payloads of messages are.
use Rattle.std.proofs.Common.{◌≡◌, ℕ, ◌+◌, ◌-◌, ◌^◌, List, [], ◌∷◌, ◌++◌, length, length-append, arith}
use Rattle.zeo_values.specs.Values.{count_text, name_text, tuple_text}
use Rattle.zeo_values.specs.LengthLaws.{last_length}
use Rattle.zeo_messages.specs.declared.answer.Answer.{Answer}
use Rattle.zeo_messages.specs.declared.call.Call.{Call}
use Rattle.zeo_messages.specs.declared.message.Message.TheVariants.{Asked, Answered}
use Rattle.zeo_messages.specs.Answers.{kind_of, value_of}
use Rattle.zeo_messages.specs.Calls.{arguments_of, flag_of, method_of}
use Rattle.zeo_messages.specs.Messages.{length_of, payload_of, payload_with}

-- a payload has its number, its flag, its method and its value, and five bytes round them
pub payload_length : (number flag : ℕ) (method value : List ℕ)
    → length (payload_with number flag method value) ≡ length (count_text number) + length (count_text flag) + length (name_text method) + length value + 5
payload_length number flag method value =
    let a = length-append (count_text number) (count_text flag ++ (name_text method ++ (value ++ 0x74 ∷ 0x2e ∷ []))) in
    let b = length-append (count_text flag) (name_text method ++ (value ++ 0x74 ∷ 0x2e ∷ [])) in
    let c = length-append (name_text method) (value ++ 0x74 ∷ 0x2e ∷ []) in
    let d = length-append value (0x74 ∷ 0x2e ∷ []) in
    omega (arith, a, b, c, d)

-- the counted length is that of the payload, but for its number
number_counted : (number flag : ℕ) (method value : List ℕ)
    → length (payload_with number flag method value) + 5 ≡ length (payload_with (2 ^ 31 - 1) flag method value) + length (count_text number)
number_counted number flag method value =
    let a = payload_length number flag method value in
    let b = payload_length (2 ^ 31 - 1) flag method value in
    let c = last_length in
    omega (arith, a, b, c)

pub answer_counted : (number : ℕ) (answer : Answer) → length (payload_of (Answered number answer)) + 5 ≡ length_of (Answered number answer) + length (count_text number)
answer_counted number answer = number_counted number 0 (kind_of answer) (value_of answer)

pub call_counted : (number : ℕ) (call : Call) → length (payload_of (Asked number call)) + 5 ≡ length_of (Asked number call) + length (count_text number)
call_counted number call = number_counted number (flag_of call) (method_of call) (tuple_text (arguments_of call))
