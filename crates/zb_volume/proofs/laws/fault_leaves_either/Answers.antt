use Rattle.std.proofs.Common.{inl, inr, ⊎_elim, List, subst}
use Rattle.zb_volume.specs.Calls.{Event, area_content, touches}
use Rattle.zb_volume.specs.Disk.{disk, after_call}
use Rattle.zb_volume.specs.Images.{CrashLeaves}
use Rattle.zb_volume.specs.Runs.{half_way}
use Rattle.zb_volume.proofs.laws.fault_leaves_either.Goals as goal

pub returns : goal.returns
returns c call old new a image fails left = ⊎_elim
    (λ same. inl (subst (λ (l : List Event). CrashLeaves l a image) same left))
    (λ tried. half_way (touches call a) (disk old a) (after_call call (disk old) a) (area_content tried.0 a) _ (λ c left. inl left) (λ c left. inr left) image
    (subst (λ (l : List Event). CrashLeaves l a image) tried.1 left))
    fails
