-- An area that stays as it was, over more than one call. For the proofs of those who make the calls.
use Rattle.std.proofs.Common.{◌≡◌, List, refl, sym, subst, ◌∙◌}
use Rattle.zb_volume.specs.declared.areas.Area.{Area}
use Rattle.zb_volume.specs.Calls.{Event}
use Rattle.zb_volume.specs.Disk.{disk}
use Rattle.zb_volume.specs.Moments.{StaysAs, here}
use Rattle.zb_volume.specs.Runs.{along_now, joined, weaker}

-- a volume that wasn't touched
pub stays_same : (a : Area) (old new : List Event) → new ≡ old → StaysAs a old new
stays_same a old new same = subst (λ (log : List Event). StaysAs a old log) (sym same) (here refl)

-- one that was touched once it had been read
pub stays_from : (a : Area) (old mid new : List Event) → mid ≡ old → StaysAs a mid new → StaysAs a old new
stays_from a old mid new same stays = subst (λ (log : List Event). StaysAs a log new) same stays

-- one that was touched in one call and then in another
pub stays_then : (a : Area) (old mid new : List Event) → StaysAs a old mid → StaysAs a mid new → StaysAs a old new
stays_then a old mid new first second =
    joined (λ log. disk log a ≡ disk old a) old mid new first
    (weaker (λ log. disk log a ≡ disk mid a) (λ log. disk log a ≡ disk old a) mid new (λ log is. is ∙ along_now (λ l. disk l a ≡ disk old a) old mid first) second)
