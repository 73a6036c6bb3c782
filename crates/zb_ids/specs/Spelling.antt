-- How a stamp of a whole second is spelled. Source: ISO 8601, a date and a time of day without a zone.
use Rattle.std.specs.Prelude.{◌≡◌, ℕ, ◌+◌, ◌-◌, ◌*◌, ◌/◌, ◌%◌, ◌^◌, ◌&&◌, Bool, List, [], ◌∷◌, ◌++◌, Option, Some, None, Result, Ok, Err, get_or, nat_lt, nat_le, if◌then◌else◌}
use Rattle.std.specs.Str.{bytes_eq}
use Rattle.zb_ids.specs.declared.stamp.Stamp.{Stamp}
use Rattle.zb_ids.specs.declared.stamp.OutOfRange.{OutOfRange}
use Rattle.zb_ids.specs.Calendar.{days_in}

-- a date and a time of day, to the second
pub record Time : Type 0 where
  pub year : ℕ
  pub month : ℕ
  pub day : ℕ
  pub hour : ℕ
  pub minute : ℕ
  pub second : ℕ

-- the two decimal digits of a number below 100
abbrev pub two_digits : ℕ → List ℕ
two_digits number = (48 + number / 10) ∷ (48 + number % 10) ∷ []

-- year, month and day with dashes between them, a T, and hour, minute and second with colons between them
abbrev pub time_text : Time → List ℕ
time_text t =
    two_digits (t.year / 100) ++ (two_digits (t.year % 100) ++ 45 ∷ (two_digits t.month ++ 45 ∷ (two_digits t.day
    ++ 84 ∷ (two_digits t.hour ++ 58 ∷ (two_digits t.minute ++ 58 ∷ two_digits t.second)))))

-- the time of a stamp, without the part of the second that has gone by
abbrev pub time_of : Stamp → Time
time_of stamp = record { year = stamp.year; month = stamp.month; day = stamp.day; hour = stamp.hour; minute = stamp.minute; second = stamp.micros / 1000000 }

-- the text is that of the stamp, which is one of a whole second
pub record IsTextOf (text : List ℕ) (stamp : Stamp) : Type 0 where
  pub spelled : text ≡ time_text (time_of stamp)
  pub whole : stamp.micros ≡ stamp.micros / 1000000 * 1000000

-- ---- the same as a function

-- the date and the time exist
abbrev pub is_time : Time → Bool
is_time t =
    nat_le 1900 t.year && (nat_le t.year 9916 && (nat_le 1 t.month && (nat_le t.month 12 && (nat_le 1 t.day && (nat_le t.day (days_in t.year t.month)
    && (nat_lt t.hour 24 && (nat_lt t.minute 60 && nat_lt t.second 60)))))))

-- the number that two bytes spell at a place, where they are digits
abbrev pub two_in : List ℕ → ℕ → ℕ
two_in text at = 10 * (get_or text at 0 % 16) + get_or text (at + 1) 0 % 16

-- what stands at the places of the digits
abbrev pub time_in : List ℕ → Time
time_in text = record { year = two_in text 0 * 100 + two_in text 2; month = two_in text 5; day = two_in text 8; hour = two_in text 11; minute = two_in text 14; second = two_in text 17 }

-- the time whose text it is, if there is one
unfoldable pub time_at : List ℕ → Option Time
time_at text = if is_time (time_in text) && bytes_eq text (time_text (time_in text)) then Some (time_in text) else None

-- what was read is what reading gives
abbrev pub ReadsTime : Result Stamp OutOfRange → Option Time → Type 0
ReadsTime (Ok stamp) read = (read ≡ Some (time_of stamp)) × (stamp.micros ≡ stamp.micros / 1000000 * 1000000)
ReadsTime (Err e) read = read ≡ None

-- the number of the stamp that has this time: that of its tid
abbrev pub time_number : Time → ℕ
time_number t = (((((t.year - 1900) * 12 + (t.month - 1)) * 31 + (t.day - 1)) * 24 + t.hour) * 60 + t.minute) * 2 ^ 32 + t.second * 1000000 * 2 ^ 32 / 60000000
