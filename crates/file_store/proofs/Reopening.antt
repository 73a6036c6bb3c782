-- A file is opened with its index file, and made after that is closed.
use Rattle.std.proofs.Common.{◌≡◌, ◌⊎◌, ⊎_elim, inl, inr, ℕ, ◌≤◌, List, [], take, Option, Some, Result, Ok, Err, refl, sym, subst, ◌∙◌, arith}
use Rattle.std.proofs.lemmas.Bool.{true≢false}
use Rattle.std.specs.Option.{ForSome}
use Rattle.zb_base.specs.Counts.{Rose}
use Rattle.zb_volume.specs.declared.areas.Area.TheVariants.{Main, Side, Hint}
use Rattle.zb_volume.specs.Calls.{Event}
use Rattle.zb_volume.specs.Disk.{Disk, disk, main_bytes, seen}
use Rattle.zb_volume.specs.Images.{CrashLeaves, CrashLeavesWith, MayLeave}
use Rattle.zb_volume.specs.Lasting.{more_left, settled_leaves}
use Rattle.zb_volume.specs.Moments.{Leaves, LeavesOnly, StaysAs, here}
use Rattle.zb_volume.specs.Runs.{along_now, joined, leaves_less, stays_leaves}
use Rattle.zb_volume.specs.States.{VolumeState, FaultsStand, OthersStay}
use Rattle.zb_model.specs.declared.store_error.StoreError.{StoreError}
use Rattle.zb_model.specs.declared.store_error.StoreError.TheVariants as store
use Rattle.zb_ids.specs.declared.stamp.Stamp.{Stamp}
use Rattle.fs_records.specs.File.{IsReadAs}
use Rattle.fs_recovery.specs.declared.errors.OpenError.{OpenError}
use Rattle.fs_recovery.specs.declared.errors.OpenError.TheVariants.{StoreFault, BadRecord, NotFileStorage, Memory}
use Rattle.fs_recovery.specs.declared.opening.Opened.{Opened}
use Rattle.fs_recovery.specs.Opens.{Opens, OpensMain}
use Rattle.fs_recovery.specs.Reading.{CountsFault, OnlyReadsToOpen}
use Rattle.fs_index_file.specs.Reads.{IsReadRefusal}
use Rattle.fs_index_file.specs.Writes.{ClosesFor, IsOldOrClosed}
use Rattle.file_store.specs.Opening.{IsFirst, MakesList}
use Rattle.file_store.specs.Outcomes.{IsRefusal}
use Rattle.file_store.proofs.Opens.{make_refused, read_cause, refused_still, same_state}

-- ---- closing, and then putting a file in the place of Main

pub close_counts : (old new : VolumeState) (e : StoreError) → ClosesFor old new (Err e) → CountsFault {T = Unit {0}} old new (Err StoreFault)
close_counts old new store.StoreFault f = inr (record { rose = f.0; later = f.1; reads_same = f.2 })
close_counts old new store.ReadFault f = inl (record { rose = f.0; later = f.1; writes_same = f.2; untouched = f.3 })
close_counts old new store.Memory f = absurd f

pub create_counts : (old mid new : VolumeState) → FaultsStand old mid → Rose mid.write_faults new.write_faults → mid.write_faults ≤ new.write_faults → new.read_faults ≡ mid.read_faults → CountsFault {T = Unit {0}} old new (Err StoreFault)
create_counts old mid new stand rose later same = inr (record {
  rose = subst (λ (n : ℕ). Rose n new.write_faults) stand.writes rose;
  later = omega (arith, stand.writes, later);
  reads_same = same ∙ stand.reads;
})

-- old images, or this file
abbrev OldOr : List Event → List ℕ → List ℕ → Type 0
OldOr log file image = CrashLeaves log Main image ⊎ (image ≡ file)

pub closed_main : (old new : List Event) (file : List ℕ) → StaysAs Main old new → LeavesOnly Main (OldOr old file) old new
closed_main old new file stays = stays_leaves Main (OldOr old file) old new (λ c left. inl left) stays

pub installed_main : (old mid new : List Event) (file : List ℕ) → StaysAs Main old mid → LeavesOnly Main (OldOr mid file) mid new → LeavesOnly Main (OldOr old file) old new
installed_main old mid new file stays rest =
    let same = along_now (λ l. disk l Main ≡ disk old Main) old mid stays in
    joined (Leaves Main (OldOr old file)) old mid new (closed_main old mid file stays)
    (leaves_less Main (OldOr mid file) (OldOr old file) mid new (λ c is. ⊎_elim (λ left. inl (subst (λ (d : Disk). MayLeave d.pending c) same left)) (λ e. inr e) is) rest)

pub installed_hint : (old mid new : List Event) → LeavesOnly Hint (IsOldOrClosed (seen old Hint)) old mid → StaysAs Hint mid new → LeavesOnly Hint (IsOldOrClosed (seen old Hint)) old new
installed_hint old mid new leaves stays =
    let Q : List ℕ → Type 0 = IsOldOrClosed (seen old Hint) in
    joined (Leaves Hint Q) old mid new leaves (stays_leaves Hint Q mid new (along_now (Leaves Hint Q) old mid leaves) stays)

-- a file wasn't put there
pub install_refused : (T : Type 0) (stamps : Option (List Stamp)) (old new : VolumeState) (clock : Stamp) (e : OpenError) → e ≡ StoreFault → CountsFault {T = Unit {0}} old new (Err e)
    → (T → seen old.log Main ≡ []) → IsFirst stamps clock → (T → MakesList clock old.log new.log) → IsRefusal T stamps old new e
install_refused T stamps old new clock e is counts empty first makes =
    subst (λ (x : OpenError). IsRefusal T stamps old new x) (sym is) (by_cases (subst (λ (x : OpenError). CountsFault {T = Unit {0}} old new (Err x)) is counts))
  where
    by_cases : CountsFault {T = Unit {0}} old new (Err StoreFault) → IsRefusal T stamps old new StoreFault
    by_cases (inl f) = refused_still T stamps old new StoreFault f.untouched (λ told. tt) (read_cause old new f.rose f.later f.writes_same)
    by_cases (inr f) = make_refused T stamps old new clock empty first makes f.rose f.later f.reads_same

-- ---- opening with the index file

-- reading it failed, and nothing was changed
pub not_read : (old new : List Event) (e : OpenError) → new ≡ old → IsReadRefusal {T = Opened} (Err e) → OpensMain old new (Err e)
not_read old new e same refusal = record {
  opens = opens e refusal;
  whole = tt;
  harmed = λ none. same;
  any_moment = λ s cut stands. subst (λ (l : List Event). LeavesOnly Main (CrashLeavesWith old Main (take s.end (main_bytes old))) old l) (sym same) (here (λ c left. more_left (disk old Main).pending (take s.end (main_bytes old)) c left));
  images = λ s cut stands settled. subst (λ (l : List Event). LeavesOnly Main (λ image. (k : Option ℕ) × IsReadAs image s k) old l) (sym same) (here (settled_leaves old Main (λ image. (k : Option ℕ) × IsReadAs image s k) settled (cut, stands)));
}
  where
    opens : (x : OpenError) → IsReadRefusal {T = Opened} (Err x) → Opens (main_bytes old) (Err x)
    opens StoreFault r = tt
    opens (BadRecord at field) r = absurd r
    opens NotFileStorage r = absurd r
    opens Memory r = tt

pub same_refusal : (T U : Type 0) (e : OpenError) → IsReadRefusal {T = T} (Err e) → IsReadRefusal {T = U} (Err e)
same_refusal T U StoreFault r = tt
same_refusal T U (BadRecord at field) r = r
same_refusal T U NotFileStorage r = r
same_refusal T U Memory r = tt

pub known_here : (o : Option Opened) (k : Opened) (P : Opened → Type 0) → o ≡ Some k → ForSome o P → P k
known_here o k P is all = all k is

-- where it failed, so does opening
pub unread_opens : (old new : List Event) (r : Result Opened OpenError) (x e : OpenError) → r ≡ Err x → x ≡ e → new ≡ old → IsReadRefusal {T = Option Opened} (Err e) → OpensMain old new r
unread_opens old new r x e is same still refusal =
    subst (λ (q : Result Opened OpenError). OpensMain old new q) (sym is) (not_read old new x still (subst (λ (y : OpenError). IsReadRefusal {T = Opened} (Err y)) (sym same) (same_refusal (Option Opened) Opened e refusal)))

-- nothing was done
pub others_still : (old new : List Event) → new ≡ old → OthersStay Main old new
others_still old new same other not = subst (λ (l : List Event). StaysAs other old l) (sym same) (here refl)

-- both other areas stay
pub others_stay : (old new : List Event) → StaysAs Side old new → StaysAs Hint old new → OthersStay Main old new
others_stay old new side hint Main not = absurd (true≢false not)
others_stay old new side hint Side not = side
others_stay old new side hint Hint not = hint

-- an index file was read: the volume is as it was
pub read_same : (old mid : VolumeState) (o : Option Opened) → OnlyReadsToOpen {T = Option Opened} old mid (Ok o) → mid ≡ old
read_same old mid o read = same_state old mid read.same read.counts read.write_faults
