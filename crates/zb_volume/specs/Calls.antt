-- The calls that change a volume, as plain data.
use Rattle.std.specs.Prelude.{Option, None, ℕ, ◌==◌, Bool, true, false, List}
use Rattle.zb_volume.specs.declared.areas.Area.{Area}
use Rattle.zb_volume.specs.declared.areas.Area.TheVariants.{Main, Side, Hint}

-- each area has a number of its own
abbrev pub area_number : Area → ℕ
area_number Main = 0
area_number Side = 1
area_number Hint = 2

abbrev pub same_area : Area → Area → Bool
same_area a b = area_number a == area_number b

-- a call that changes a volume
pub data Call : Type 0 where
  WriteAt : Area → ℕ → List ℕ → Call
  CutTo : Area → ℕ → Call
  SyncOf : Area → Call
  Replace : Call

-- whether a call is about this area
abbrev pub touches : Call → Area → Bool
touches (WriteAt a at bytes) b = same_area a b
touches (CutTo a n) b = same_area a b
touches (SyncOf a) b = same_area a b
touches Replace Main = true
touches Replace Side = true
touches Replace Hint = false

-- the bytes of each area
pub record Contents : Type 0 where
  pub main : List ℕ
  pub side : List ℕ
  pub hint : List ℕ

abbrev pub area_content : Contents → Area → List ℕ
area_content contents Main = contents.main
area_content contents Side = contents.side
area_content contents Hint = contents.hint

-- a call that was made or that failed; of one that failed half way, what a read gives afterwards
pub record Event : Type 0 where
  pub call : Call
  pub failed : Option Contents

abbrev pub made : Call → Event
made call = record { call = call; failed = None }

abbrev pub Wrote : Area → ℕ → List ℕ → Event
Wrote a at bytes = made (WriteAt a at bytes)

abbrev pub Cut : Area → ℕ → Event
Cut a n = made (CutTo a n)

abbrev pub Synced : Area → Event
Synced a = made (SyncOf a)

abbrev pub Replaced : Event
Replaced = made Replace
