-- What digits a number is read from.
use Rattle.std.proofs.Common.{◌≡◌, ℕ, ◌+◌, ◌*◌, ◌/◌, ◌<◌, ◌^◌, Bool, List, Option, Some, None, Result, Ok, Err, refl, ap, sym, ◌∙◌}
use Rattle.std.specs.Option.{option_and_then, option_map}
use Rattle.zb_ids.specs.Hex.{hex_number, number_at}
use Rattle.zb_ids.specs.HexLaws.{number_again, number_takes}
use Rattle.zb_ids.specs.declared.digits.BadHex.{BadHex}
use Rattle.zb_ids.specs.declared.stamp.OutOfRange.{OutOfRange}
use Rattle.zb_ids.specs.declared.stamp.Stamp.{Stamp}
use Rattle.zb_ids.specs.Spelling.{ReadsTime, Time, time_at, time_number, time_of}
use Rattle.zb_ids.specs.Tids.{minutes_of, stamp_number}
use Rattle.program_words.specs.declared.command.Command.TheVariants as command
use Rattle.program_words.specs.Words.{object_command, pack_command}

pub digits_read : (word digits : List ℕ) (n : ℕ) → n < 2 ^ 64 → digits ≡ hex_number n → option_and_then (object_command word) (number_at digits) ≡ object_command word n
digits_read word digits n below is = ap (λ (x : List ℕ). option_and_then (object_command word) (number_at x)) is ∙ ap (option_and_then (object_command word)) (number_again n below)

pub no_digits : (word digits : List ℕ) (result : Result ℕ BadHex) (e : BadHex) → result ≡ Err e → ((n : ℕ) → n < 2 ^ 64 → digits ≡ hex_number n → result ≡ Ok n)
    → option_and_then (object_command word) (number_at digits) ≡ None
no_digits word digits result e is only = by_value (number_at digits) refl
  where
    by_value : (value : Option ℕ) → number_at digits ≡ value → option_and_then (object_command word) value ≡ None
    by_value None read = refl
    by_value (Some n) read =
        let takes = number_takes digits n read in
        let found : result ≡ Ok n = only n takes.0 takes.1 in
        absurd cc

-- a stamp that was read, and a text that is none
pub stamp_read : (text : List ℕ) (collect : Bool) (stamp : Stamp) → ReadsTime (Ok stamp) (time_at text) → Some (command.Pack (record { tid = stamp_number stamp; collect = collect })) ≡ pack_command text collect
stamp_read text collect stamp reads =
    let number : stamp_number stamp ≡ time_number (time_of stamp) = ap (λ (n : ℕ). minutes_of stamp * 2 ^ 32 + n * 2 ^ 32 / 60000000) reads.1 in
    ap (λ (n : ℕ). Some (command.Pack (record { tid = n; collect = collect }))) number ∙ sym (ap (option_map (λ (t : Time). command.Pack (record { tid = time_number t; collect = collect }))) reads.0)

pub no_stamp : (text : List ℕ) (collect : Bool) (e : OutOfRange) → ReadsTime (Err e) (time_at text) → None ≡ pack_command text collect
no_stamp text collect e reads = sym (ap (option_map (λ (t : Time). command.Pack (record { tid = time_number t; collect = collect }))) reads)
