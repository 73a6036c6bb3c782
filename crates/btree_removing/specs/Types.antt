-- What a remove is planned with, by names that the crates above can use. Own.
use Rattle.std.specs.Prelude.{ℕ}
use Rattle.btree_removing.specs.declared.last.Last.{Last as OwnLast}
use Rattle.btree_removing.specs.declared.losing.Loss.{Loss as OwnLoss}
use Rattle.btree_removing.specs.declared.losing.Rest.{Rest as OwnRest}
use Rattle.btree_removing.specs.declared.losing.Rest.TheVariants as rests
use Rattle.btree_removing.specs.declared.rung.Rung.{Rung as OwnRung}
use Rattle.btree_removing.specs.declared.sides.Sides.{Sides as OwnSides}
use Rattle.btree_removing.specs.declared.sides.Start.{Start as OwnStart}

abbrev pub Last : Type 0
Last = OwnLast

abbrev pub Loss : Type 0
Loss = OwnLoss

abbrev pub Rest : Type 0
Rest = OwnRest

pattern abbrev pub Same : Rest
Same = rests.Same

pattern abbrev pub First : ℕ → Rest
First first = rests.First first

pattern abbrev pub Gone : Rest
Gone = rests.Gone

abbrev pub Rung : Type 0
Rung = OwnRung

abbrev pub Sides : Type 0
Sides = OwnSides

abbrev pub Start : Type 0
Start = OwnStart
