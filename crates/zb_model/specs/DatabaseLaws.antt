-- A list is a database in one way, so that a type can keep the fact.
use Rattle.std.proofs.Common.{List, Option}
use Rattle.std.specs.Coded.{le_prop}
use Rattle.std.specs.Option.{ForSome}
use Rattle.std.specs.List.{IsDistinct-prop}
use Rattle.zb_model.specs.declared.data.Content.{Content}
use Rattle.zb_model.specs.declared.data.Content.TheVariants.{Held, Absent}
use Rattle.zb_model.specs.declared.data.Transaction.{Transaction}
use Rattle.zb_model.specs.Database.{IsDatabase, IsRecord}

IsRecord-prop : (content : Content) → IsProp (IsRecord content)
IsRecord-prop (Held bytes) = le_prop
IsRecord-prop Absent = hlevel

pub IsDatabase-prop : (list : List Transaction) → IsProp (IsDatabase list)
IsDatabase-prop list = hlevel (IsDistinct-prop, le_prop, IsRecord-prop)

pub ForSome-IsDatabase-prop : (o : Option Transaction) (grown : Transaction → List Transaction) → IsProp (ForSome o (λ t. IsDatabase (grown t)))
ForSome-IsDatabase-prop o grown = hlevel IsDatabase-prop
