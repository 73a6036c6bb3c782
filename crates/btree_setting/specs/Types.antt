-- What a set is planned with, by names that the crates above can use. Own.
use Rattle.btree_setting.specs.declared.bottom.Bottom.{Bottom as OwnBottom}
use Rattle.btree_setting.specs.declared.bottom.Place.{Place as OwnPlace}
use Rattle.btree_setting.specs.declared.bottom.Place.TheVariants as places
use Rattle.btree_setting.specs.declared.change.Sprout.{Sprout as OwnSprout}
use Rattle.btree_setting.specs.declared.change.Change.{Change as OwnChange}
use Rattle.btree_setting.specs.declared.growing.Plain.{Plain as OwnPlain}
use Rattle.btree_setting.specs.declared.growing.Terms.{Terms as OwnTerms}
use Rattle.btree_setting.specs.declared.preparing.Task.{Task as OwnTask}
use Rattle.btree_setting.specs.declared.rung.Rung.{Rung as OwnRung}
use Rattle.btree_setting.specs.declared.rung.Seam.{Seam as OwnSeam}
use Rattle.btree_setting.specs.declared.rung.Seam.TheVariants as seams
use Rattle.std.specs.Prelude.{ℕ}

abbrev pub Bottom : Type 0
Bottom = OwnBottom

abbrev pub Place : Type 0
Place = OwnPlace

pattern abbrev pub Lone : Place
Lone = places.Lone

pattern abbrev pub Alone : Place
Alone = places.Alone

pattern abbrev pub Below : Place
Below = places.Below

abbrev pub Sprout : Type 0
Sprout = OwnSprout

abbrev pub Change : Type 0
Change = OwnChange

abbrev pub Plain : Type 0
Plain = OwnPlain

abbrev pub Terms : Type 0
Terms = OwnTerms

abbrev pub Task : Type 0
Task = OwnTask

abbrev pub Rung : Type 0
Rung = OwnRung

abbrev pub Seam : Type 0
Seam = OwnSeam

pattern abbrev pub New : Seam
New = seams.New

pattern abbrev pub Old : ℕ → Seam
Old first = seams.Old first

pattern abbrev pub Beside : ℕ → Seam
Beside child = seams.Beside child
