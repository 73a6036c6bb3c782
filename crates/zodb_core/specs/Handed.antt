-- What a history handed out: fronts, and numbers for new objects. Own.
use Rattle.std.specs.Prelude.{ℕ, ◌+◌, List, Option, Some, None}
use Rattle.std.specs.List.{filter_map}
use Rattle.zodb_core.specs.declared.reply.Reply.{Reply}
use Rattle.zodb_core.specs.declared.reply.Reply.TheVariants as reply
use Rattle.zodb_core.specs.History.{Entry, Made, Opened}

-- the front that a reply tells
abbrev pub front_in : Reply → Option ℕ
front_in (reply.Front front news switches) = Some front
front_in _ = None

abbrev pub front_told : Entry → Option ℕ
front_told (Opened n) = None
front_told (Made e) = front_in e.reply

-- the fronts that the sessions of a history were told, in the order of their steps
abbrev pub fronts_told : List Entry → List ℕ
fronts_told entries = filter_map front_told entries

-- numbers for new objects: the first, and how many follow one another
pub record NumberRange : Type 0 where
  pub first : ℕ
  pub count : ℕ

-- the number behind the last of them
abbrev pub end_of_range : NumberRange → ℕ
end_of_range range = range.first + range.count

-- the numbers that a reply hands out
abbrev pub numbers_in : Reply → Option NumberRange
numbers_in (reply.Oids first count) = Some (record { first = first; count = count })
numbers_in _ = None

abbrev pub numbers_handed : Entry → Option NumberRange
numbers_handed (Opened n) = None
numbers_handed (Made e) = numbers_in e.reply

-- the numbers that a history handed out, in the order of its steps
abbrev pub all_numbers : List Entry → List NumberRange
all_numbers entries = filter_map numbers_handed entries
