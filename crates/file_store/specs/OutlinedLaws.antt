-- What is outlined is known in one way, so that a type can keep it.
use Rattle.std.proofs.Common.{ℕ, List, Option}
use Rattle.std.specs.Option.{ForSome}
use Rattle.std.specs.Coded.{le_prop}
use Rattle.std.proofs.Props.{props}
use Rattle.fs_records.specs.Listed.{content_set}
use Rattle.fs_reading.specs.declared.outline.Outline.{Outline}
use Rattle.file_store.specs.Outlined.{IsOutlinedIn}

pub IsOutlinedIn-prop : (bytes : List ℕ) (o : Outline) → IsProp (IsOutlinedIn bytes o)
IsOutlinedIn-prop bytes o = hlevel (content_set, le_prop, props)

pub outlined_once : (T B : Type 0) (bytes : List ℕ) (outline : Option Outline) → IsProp (T → B → ForSome outline (λ o. IsOutlinedIn bytes o))
outlined_once T B bytes outline = hlevel IsOutlinedIn-prop
