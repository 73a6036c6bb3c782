-- How long the payloads of calls are.
use Rattle.std.proofs.Common.{◌≡◌, ℕ, ◌+◌, ◌≤◌, ◌<◌, ◌^◌, ◌-◌, List, [], ◌∷◌, ◌++◌, length, length-append, refl, arith}
use Rattle.std.proofs.lemmas.Bool.{le-ltb, lt-ltb}
use Rattle.byteorder.specs.Numbers.{length-bytes_low_first}
use Rattle.zeo_messages.specs.declared.call.Call.{Call}
use Rattle.zeo_messages.specs.declared.message.Message.TheVariants.{Asked}
use Rattle.zeo_messages.specs.Calls.{arguments_of, flag_of, method_of}
use Rattle.zeo_messages.specs.Messages.{payload_of, payload_with}
use Rattle.zeo_values.specs.Values.{count_text, name_text, tuple_text}
use Rattle.zeo_client.specs.Asking.{call_length}

-- a number of a call has two, three or five bytes
pub count_of_one : (n : ℕ) → n < 256 → 2 ≡ length (count_text n)
unfolding count_text
count_of_one n h = rw (lt-ltb n 256 h) refl

pub count_of_two : (n : ℕ) → 256 ≤ n → n < 65536 → 3 ≡ length (count_text n)
unfolding count_text
count_of_two n h k = rw (le-ltb n 256 h) (rw (lt-ltb n 65536 k) (let e = length-bytes_low_first 0 2 n in omega (arith, e)))

pub count_of_four : (n : ℕ) → 65536 ≤ n → n < 2 ^ 31 → 5 ≡ length (count_text n)
unfolding count_text
count_of_four n h k =
    let low : 256 ≤ n = omega arith in
    rw (le-ltb n 256 low) (rw (le-ltb n 65536 h) (rw (lt-ltb n (2 ^ 31) k) (let e = length-bytes_low_first 0 4 n in omega (arith, e))))

last_length : length (count_text (2 ^ 31 - 1)) ≡ 5
unfolding count_text
last_length = refl

-- a payload has its number, its flag, its method and its value, and five bytes round them
payload_length : (number flag : ℕ) (method value : List ℕ)
    → length (payload_with number flag method value) ≡ length (count_text number) + length (count_text flag) + length (name_text method) + length value + 5
payload_length number flag method value =
    let a = length-append (count_text number) (count_text flag ++ (name_text method ++ (value ++ 0x74 ∷ 0x2e ∷ []))) in
    let b = length-append (count_text flag) (name_text method ++ (value ++ 0x74 ∷ 0x2e ∷ [])) in
    let c = length-append (name_text method) (value ++ 0x74 ∷ 0x2e ∷ []) in
    let d = length-append value (0x74 ∷ 0x2e ∷ []) in
    omega (arith, a, b, c, d)

-- the counted length of a call is that of its payload, but for its number
pub call_counted : (number : ℕ) (call : Call) → length (payload_of (Asked number call)) + 5 ≡ call_length call + length (count_text number)
call_counted number call =
    let a = payload_length number (flag_of call) (method_of call) (tuple_text (arguments_of call)) in
    let b = payload_length (2 ^ 31 - 1) (flag_of call) (method_of call) (tuple_text (arguments_of call)) in
    let c = last_length in
    omega (arith, a, b, c)
