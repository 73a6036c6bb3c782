-- What a crash leaves while a file is opened.
use Rattle.std.proofs.Common.{◌≡◌, inl, inr, ℕ, ◌<◌, List, [], ◌∷◌, length, take, get_or, Option, refl, sym, ap, subst, ◌∙◌, arith}
use Rattle.std.proofs.lemmas.Bool.{cases_lt}
use Rattle.std.proofs.lemmas.List.{ext_get_or, get_or-take, length-take, take_all}
use Rattle.zb_volume.specs.declared.areas.Area.TheVariants.{Main}
use Rattle.zb_volume.specs.Calls.{Event}
use Rattle.zb_volume.specs.Disk.{disk, main_bytes}
use Rattle.zb_volume.specs.Images.{CrashLeavesWith, IsImage, MayRead}
use Rattle.zb_volume.specs.Moments.{LeavesOnly, StaysAs, here}
use Rattle.zb_volume.specs.States.{OthersStay}
use Rattle.zb_volume.specs.Lasting.{more_left, settled_mix}
use Rattle.zb_volume.specs.Runs.{leaves_less}
use Rattle.fs_records.specs.Blocks.{Reached}
use Rattle.fs_records.specs.File.{IsReadAs}
use Rattle.fs_records.specs.Unique.{one_list}
use Rattle.fs_recovery.specs.declared.opening.Opened.{Opened}
use Rattle.fs_recovery.specs.Opens.{IsOpened, MomentsOfOpening, ImagesStand}
use Rattle.fs_recovery.specs.Fronts.{stands_shorter}

-- nothing was changed
pub still_others : (old new : List Event) → new ≡ old → OthersStay Main old new
still_others old new same other not = subst (λ (l : List Event). StaysAs other old l) (sym same) (here refl)

pub still_main : (old new : List Event) → new ≡ old → MomentsOfOpening old new
still_main old new same s cut stands =
    subst (λ (l : List Event). LeavesOnly Main (CrashLeavesWith old Main (take s.end (main_bytes old))) old l) (sym same) (here (more_left (disk old Main).pending (take s.end (main_bytes old))))

-- the front was kept
pub moments : (old mid new : List Event) (o : Opened) → mid ≡ old → IsOpened (main_bytes old) o → LeavesOnly Main (CrashLeavesWith mid Main (take o.end (main_bytes mid))) mid new → MomentsOfOpening old new
moments old mid new o same opened leaves s cut stands =
    let ends : o.end ≡ s.end = sym opened.end_is ∙ ap (λ (r : Reached). r.end) (one_list (main_bytes old) opened.reached s o.cut cut opened.stands stands).0 in
    let kept : LeavesOnly Main (CrashLeavesWith old Main (take o.end (main_bytes old))) old new = subst (λ (l : List Event). LeavesOnly Main (CrashLeavesWith l Main (take o.end (main_bytes l))) l new) same leaves in
    subst (λ (n : ℕ). LeavesOnly Main (CrashLeavesWith old Main (take n (main_bytes old))) old new) ends kept

-- ---- what each image stands for

-- an image of a settled file and its front is one of the file's fronts
image_is : (bytes : List ℕ) (end : ℕ) (image : List ℕ) → IsImage bytes (take end bytes ∷ []) image → image ≡ take (length image) bytes
image_is bytes end image is = ext_get_or 0 image (take (length image) bytes) long (λ k h. same k h (is.bytes k h))
  where
    long : length image ≡ length (take (length image) bytes)
    long = omega (arith, is.no_longer, length-take end bytes, length-take (length image) bytes)

    same : (k : ℕ) → k < length image → MayRead bytes (take end bytes ∷ []) k (get_or image k 0) → get_or image k 0 ≡ get_or (take (length image) bytes) k 0
    same k h (inl old) = old ∙ sym (get_or-take (length image) bytes k 0 h)
    same k h (inr (inl front)) = front.1 ∙ get_or-take end bytes k 0 (omega (arith, front.0, length-take end bytes)) ∙ sym (get_or-take (length image) bytes k 0 h)
    same k h (inr (inr none)) = absurd none

image_stands : (bytes : List ℕ) (s : Reached) (cut : Option ℕ) (image : List ℕ) → IsReadAs bytes s cut → IsImage bytes (take s.end bytes ∷ []) image → (k : Option ℕ) × IsReadAs image s k
image_stands bytes s cut image stands is =
    let front : image ≡ take (length image) bytes = image_is bytes s.end image is in
    let short = length-take s.end bytes in
    elim (cases_lt (length bytes) s.end) [
      | inl past ↦ (cut, (let whole : image ≡ bytes = front ∙ take_all (length image) bytes (omega (arith, is.no_shorter, short)) in subst (λ (x : List ℕ). IsReadAs x s cut) (sym whole) stands))
      | inr within ↦ subst (λ (x : List ℕ). (k : Option ℕ) × IsReadAs x s k) (sym front) (stands_shorter bytes s cut (length image) (omega (arith, is.no_shorter, short)) within stands)
    ]

pub images_stand : (old new : List Event) → MomentsOfOpening old new → ImagesStand old new
images_stand old new moments s cut stands settled =
    leaves_less Main (CrashLeavesWith old Main (take s.end (main_bytes old))) (λ image. (k : Option ℕ) × IsReadAs image s k) old new
    (settled_mix old Main (take s.end (main_bytes old)) (λ image. (k : Option ℕ) × IsReadAs image s k) settled (λ image is. image_stands (main_bytes old) s cut image stands is)) (moments s cut stands)
