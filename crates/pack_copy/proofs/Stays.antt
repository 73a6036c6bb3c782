-- An area that no call is about stays as it is.
use Rattle.std.proofs.Common.{◌≡◌, List, refl, sym, ap, subst, ◌∙◌}
use Rattle.zb_volume.specs.declared.areas.Area.{Area}
use Rattle.zb_volume.specs.declared.areas.Area.TheVariants.{Side}
use Rattle.zb_volume.specs.Calls.{Event}
use Rattle.zb_volume.specs.Disk.{Disk, disk, seen}
use Rattle.zb_volume.specs.Moments.{StaysAs, here}
use Rattle.zb_volume.specs.Runs.{along_now, joined, weaker}
use Rattle.zb_volume.specs.States.{OthersStay}

-- where no call was made
stays_same : (a : Area) (old new : List Event) → new ≡ old → StaysAs a old new
stays_same a old new same = subst (λ (l : List Event). StaysAs a old l) (sym same) (here refl)

-- an area that stays reads as it did
pub seen_same : (a : Area) (old new : List Event) → StaysAs a old new → seen new a ≡ seen old a
seen_same a old new stays = ap (λ (d : Disk). d.now) (along_now (λ l. disk l a ≡ disk old a) old new stays)

-- one run after another
stays_join : (a : Area) (old mid new : List Event) → StaysAs a old mid → StaysAs a mid new → StaysAs a old new
stays_join a old mid new first rest =
    let same : disk mid a ≡ disk old a = along_now (λ l. disk l a ≡ disk old a) old mid first in
    joined (λ l. disk l a ≡ disk old a) old mid new first (weaker (λ l. disk l a ≡ disk mid a) (λ l. disk l a ≡ disk old a) mid new (λ l is. is ∙ same) rest)

-- ---- all areas but Side

pub others_same : (old new : List Event) → new ≡ old → OthersStay Side old new
others_same old new same other not = stays_same other old new same

pub others_join : (old mid new : List Event) → OthersStay Side old mid → OthersStay Side mid new → OthersStay Side old new
others_join old mid new first rest other not = stays_join other old mid new (first other not) (rest other not)
