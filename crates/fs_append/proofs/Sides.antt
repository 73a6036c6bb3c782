-- What a crash leaves of Main while a file is prepared in Side and put in its place.
use Rattle.std.proofs.Common.{◌≡◌, ◌⊎◌, inl, inr, ⊎_elim, ℕ, List, [], ◌∷◌, ◌++◌, length, ◌+◌, Result, OnOk, OnErr, refl, ◌∙◌, ap, subst, arith}
use Rattle.std.proofs.lemmas.List.{drop_all, append-nil}
use Rattle.zb_volume.specs.declared.areas.Area.{Area}
use Rattle.zb_volume.specs.declared.areas.Area.TheVariants.{Main, Side}
use Rattle.zb_volume.specs.Calls.{Event, WriteAt, CutTo, Wrote, Cut}
use Rattle.zb_volume.specs.Disk.{Disk, disk, seen}
use Rattle.zb_volume.specs.Images.{MayLeave, CrashLeaves}
use Rattle.zb_volume.specs.Faults.{Fails}
use Rattle.zb_volume.specs.Moments.{Leaves, LeavesOnly, StaysAs}
use Rattle.zb_volume.specs.Runs.{along_now, joined, leaves_less, stays_leaves, weaker}
use Rattle.zb_volume.specs.Durable.{OldOrSide, one_stays, next_stays}

-- Main's old images, or the file
abbrev pub OldOr : List Event → List ℕ → List ℕ → Type 0
OldOr log file image = CrashLeaves log Main image ⊎ (image ≡ file)

pub cut_stays : {T E : Type 0} (r : Result T E) (log new : List Event) → OnOk r (new ≡ Cut Side 0 ∷ log) → OnErr r (Fails (Cut Side 0) log new) → StaysAs Main log new
cut_stays r log new = one_stays r log new (CutTo Side 0) Main refl

pub write_stays : {T E : Type 0} (r : Result T E) (log mid new : List Event) (file : List ℕ) → StaysAs Main log mid → OnOk r (new ≡ Wrote Side 0 file ∷ mid) → OnErr r (Fails (Wrote Side 0 file) mid new) → StaysAs Main log new
write_stays r log mid new file = next_stays r log mid new (WriteAt Side 0 file) Main refl

-- while only Side changes
pub still_leaves : (log new : List Event) (file : List ℕ) → StaysAs Main log new → LeavesOnly Main (OldOr log file) log new
still_leaves log new file = stays_leaves Main (OldOr log file) log new (λ c left. inl left)

-- what was put into Side
side_is : (log mid new : List Event) (file : List ℕ) → mid ≡ Cut Side 0 ∷ log → new ≡ Wrote Side 0 file ∷ mid → seen new Side ≡ file
side_is log mid new file cut wrote =
    ap (λ (l : List Event). seen l Side) (wrote ∙ ap (λ (l : List Event). Wrote Side 0 file ∷ l) cut)
    ∙ ap (λ (l : List ℕ). file ++ l) (drop_all (0 + length file) [] (omega arith))
    ∙ append-nil file

-- and it becomes Main
pub replaced_leaves : (log mid last new : List Event) (file : List ℕ) → mid ≡ Cut Side 0 ∷ log → last ≡ Wrote Side 0 file ∷ mid → StaysAs Main log last
    → LeavesOnly Main (OldOrSide last) last new → LeavesOnly Main (OldOr log file) log new
replaced_leaves log mid last new file cut wrote stays run =
    let same = along_now (λ l. disk l Main ≡ disk log Main) log last stays in
    joined (Leaves Main (OldOr log file)) log last new (still_leaves log last file stays)
    (leaves_less Main (OldOrSide last) (OldOr log file) last new
    (λ c is. ⊎_elim (λ left. inl (subst (λ (d : Disk). MayLeave d.pending c) same left)) (λ side. inr (side ∙ side_is log mid last file cut wrote)) is) run)

-- one run after another, in neither of which an area changes
pub stays_joined : (a : Area) (old mid new : List Event) → StaysAs a old mid → StaysAs a mid new → StaysAs a old new
stays_joined a old mid new first rest =
    let same : disk mid a ≡ disk old a = along_now (λ l. disk l a ≡ disk old a) old mid first in
    joined (λ l. disk l a ≡ disk old a) old mid new first (weaker (λ l. disk l a ≡ disk mid a) (λ l. disk l a ≡ disk old a) mid new (λ l is. is ∙ same) rest)
