-- What is known of an index file is known in one way, so that a type can keep it.
use Rattle.std.proofs.Common.{List, ℕ, Bool}
use Rattle.std.specs.Coded.{le_prop}
use Rattle.std.proofs.Props.{props}
use Rattle.zb_volume.specs.Calls.{Event}
use Rattle.fs_records.specs.Listed.{content_set}
use Rattle.fs_index_file.specs.Hints.{Entries}
use Rattle.file_store.specs.Hinting.{AreOfFront, IsHinted}

pub AreOfFront-prop : (front : List ℕ) (e : Entries) → IsProp (AreOfFront front e)
AreOfFront-prop front e = hlevel (content_set, props)

pub IsHinted-prop : (log : List Event) (broken : Bool) (end : ℕ) → IsProp (IsHinted log broken end)
IsHinted-prop log broken end = hlevel (AreOfFront-prop, le_prop, content_set, props)

pub hinted_once : (T : Type 0) (log : List Event) (broken : Bool) (end : ℕ) → IsProp (T → IsHinted log broken end)
hinted_once T log broken end = hlevel IsHinted-prop
