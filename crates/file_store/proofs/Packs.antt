-- What a pack of the file leaves, at every moment and in the end.
use Rattle.std.proofs.Common.{◌≡◌, ◌⊎◌, inl, inr, ⊎_elim, ℕ, ◌-◌, ◌≤◌, Bool, true, false, List, Option, Some, None, Result, Ok, Err, OnErr, sym, ap, subst, ◌∙◌, arith}
use denote.Enum.Bare.{sameb}
use Rattle.std.specs.Option.{ForSome}
use Rattle.std.specs.Ordering.{nat_cmp}
use Rattle.std.specs.FinSet.{FinSet}
use Rattle.zb_base.specs.Counts.{Rose}
use Rattle.zb_volume.specs.declared.areas.Area.TheVariants.{Main, Side, Hint}
use Rattle.zb_volume.specs.Calls.{Event}
use Rattle.zb_volume.specs.Disk.{seen, IsSettled}
use Rattle.zb_volume.specs.Lasting.{settled_leaves}
use Rattle.zb_volume.specs.Moments.{Leaves, LeavesOnly, StaysAs}
use Rattle.zb_volume.specs.Runs.{joined, leaves_less, stays_leaves}
use Rattle.zb_volume.specs.States.{VolumeState, FaultsStand}
use Rattle.zb_model.specs.declared.data.Transaction.{Transaction}
use Rattle.zb_model.specs.declared.packs.Packed.{Packed}
use Rattle.zb_model.specs.Packing.{packed_by}
use Rattle.zb_model.specs.PackingLaws.{packed_fewer}
use Rattle.zb_model.specs.Packs.{IsCopyOf, IsPackCount, IsPrefixOf, StandsForOneOfTwo, change_count}
use Rattle.zb_model.specs.contracts.store_error.StoreError.{the_type}
use Rattle.zb_model.specs.declared.store_error.StoreError.{StoreError}
use Rattle.zb_model.specs.declared.store_error.StoreError.TheVariants.{StoreFault, ReadFault, Memory}
use Rattle.zb_model.specs.Stores.{BegunPack, UnlessFault}
use Rattle.fs_records.specs.File.{a_file}
use Rattle.fs_records.specs.Listed.{listed, reached_in, reading_stands}
use Rattle.fs_recovery.specs.Numbers.{NumbersKept}
use Rattle.fs_index_file.specs.Writes.{ClosesFor}
use Rattle.pack_copy.specs.CopiedLaws.{copied_stands}
use Rattle.pack_copy.specs.Counting.{IsCopyCounted}
use Rattle.pack_copy.specs.Copying.{CopyKept, IsCopied, IsSource, copied_in}
use Rattle.file_store.specs.Kept.{IsKept, StandsForList, cut_of}
use Rattle.file_store.specs.KeptLaws.{list_read}
use Rattle.file_store.specs.Staging.{StagedKept}
use Rattle.file_store.proofs.Sides.{begun_of, seen_stays, settled_stays}

-- what is kept of Main is the index of its list
pub source_kept : (bytes : List ℕ) (index : StagedKept) (numbers : NumbersKept) → IsKept bytes index numbers → IsSource bytes index.kept
source_kept bytes index numbers k = record { cut = cut_of index; reading = k.reading; index = record { records = k.records; transactions = k.starts }; short = omega (arith, k.short) }

source_stands : (bytes : List ℕ) (from : _) → IsSource bytes from → StandsForList bytes (listed bytes)
source_stands bytes from s = (s.cut, a_file (reached_in bytes) (reading_stands bytes (reached_in bytes) s.cut s.reading) (list_read bytes (reached_in bytes) s.cut s.reading))

copied_for : (bytes : List ℕ) (c : CopyKept) → IsCopied bytes c → StandsForList bytes (listed bytes)
copied_for bytes c is = (None, copied_stands bytes c is)

-- what was copied is a prefix
pub prefix_copied : (copy : Option CopyKept) (c : CopyKept) (side : List ℕ) (keep : FinSet nat_cmp) (list : List Transaction) → copy ≡ Some c → ForSome (begun_of copy side) (IsCopyOf keep list) → IsPrefixOf (packed_by c.tid keep list) (listed side)
prefix_copied copy c side keep list is all = all (copied_in c.tid side) (ap (λ (o : Option CopyKept). begun_of o side) is)

-- the list is the packed one
pub switched_list : (copy : Option CopyKept) (c : CopyKept) (side : List ℕ) (keep : FinSet nat_cmp) (list now : List Transaction) → copy ≡ Some c → now ≡ packed_by c.tid keep list → ForSome (begun_of copy side) (λ pack. now ≡ packed_by pack.tid keep list)
switched_list copy c side keep list now is same pack begun =
    let here : Some (copied_in c.tid side) ≡ Some pack = sym (ap (λ (o : Option CopyKept). begun_of o side) is) ∙ begun in
    let one : copied_in c.tid side ≡ pack = cc in
    same ∙ ap (λ (p : BegunPack). packed_by p.tid keep list) one

-- the two counts of a pack
pub counted_pack : (t : ℕ) (keep : FinSet nat_cmp) (list main side packed : List Transaction) (counts : Packed) → main ≡ list → packed ≡ side → side ≡ packed_by t keep list → counts.kept ≡ change_count side → counts.dropped ≡ change_count main - change_count side → IsPackCount list packed counts
counted_pack t keep list main side packed counts same now is kept dropped =
    let e : change_count main ≡ change_count list = ap change_count same in
    let f : change_count packed ≡ change_count side = ap change_count now in
    let fewer : change_count side ≤ change_count list = rw is (packed_fewer t keep list) in
    record { kept = kept ∙ sym f; all = omega (arith, kept, dropped, fewer, e, f) }

-- what follows unless a call of the volume failed
pub unless_less : (T U : Type 0) (error : StoreError) (P Q : Type 0) → (P → Q) → UnlessFault {T = T} (Err error) P → UnlessFault {T = U} (Err error) Q
unless_less T U StoreFault P Q f is = tt
unless_less T U ReadFault P Q f is = f is
unless_less T U Memory P Q f is = f is

-- a store that isn't broken was refused for another cause
pub unbroken : (T : Type 0) (error : StoreError) (broken : Bool) (P : Type 0) → broken ≡ sameb the_type error StoreFault → broken ≡ false → UnlessFault {T = T} (Err error) P → P
unbroken T StoreFault broken P is whole unless =
    let so : broken ≡ true = is in
    absurd (cc)
unbroken T ReadFault broken P is whole unless = unless
unbroken T Memory broken P is whole unless = unless

-- ---- the index file is closed before

pub unless_refused : {T : Type 0} (r : Result T StoreError) (P : Type 0) → P → OnErr r (UnlessFault r P)
unless_refused (Ok x) P is = tt
unless_refused (Err StoreFault) P is = tt
unless_refused (Err ReadFault) P is = is
unless_refused (Err Memory) P is = is

unclosed_for : (T : Type 0) (old mid new : VolumeState) (e : StoreError) → ClosesFor mid new (Err e) → StaysAs Hint old.log mid.log → UnlessFault {T = T} (Err e) (StaysAs Hint old.log new.log)
unclosed_for T old mid new StoreFault f stays = tt
unclosed_for T old mid new ReadFault f stays = subst (λ (l : List Event). StaysAs Hint old.log l) (sym f.3) stays
unclosed_for T old mid new Memory f stays = absurd f

-- that was refused: it is as it was, unless a call of the volume failed that would change it
pub unclosed : {T : Type 0} (old mid new : VolumeState) (r : Result T StoreError) (x e : StoreError) → r ≡ Err x → x ≡ e → ClosesFor mid new (Err e) → StaysAs Hint old.log mid.log → OnErr r (UnlessFault r (StaysAs Hint old.log new.log))
unclosed {T} old mid new r x e is same f stays =
    subst (λ (q : Result T StoreError). OnErr q (UnlessFault q (StaysAs Hint old.log new.log))) (sym is)
    (subst (λ (y : StoreError). UnlessFault {T = T} (Err y) (StaysAs Hint old.log new.log)) (sym same) (unclosed_for T old mid new e f stays))

counted_for : (T : Type 0) (old mid new : VolumeState) (e : StoreError) → FaultsStand old mid → ClosesFor mid new (Err e) → IsCopyCounted {T = T} old new (Err e)
counted_for T old mid new StoreFault stand f = (f.2 ∙ stand.reads, subst (λ (n : ℕ). Rose n new.write_faults) stand.writes f.0, omega (arith, stand.writes, f.1))
counted_for T old mid new ReadFault stand f = (subst (λ (n : ℕ). Rose n new.read_faults) stand.reads f.0, omega (arith, stand.reads, f.1), f.2 ∙ stand.writes)
counted_for T old mid new Memory stand f = absurd f

pub unclosed_counts : {T : Type 0} (old mid new : VolumeState) (r : Result T StoreError) (x e : StoreError) → r ≡ Err x → x ≡ e → FaultsStand old mid → ClosesFor mid new (Err e) → IsCopyCounted {T = T} old new r
unclosed_counts {T} old mid new r x e is same stand f =
    subst (λ (q : Result T StoreError). IsCopyCounted {T = T} old new q) (sym is) (subst (λ (y : StoreError). IsCopyCounted {T = T} old new (Err y)) (sym same) (counted_for T old mid new e stand f))

module _ (log mid : List Event) (stays : StaysAs Main log mid) (settled : IsSettled log Main) (packed : List Transaction) where
  abbrev OneOfTwo : List ℕ → Type 0
  OneOfTwo = StandsForOneOfTwo StandsForList (listed (seen log Main)) packed

  -- until Side is whole
  pub copy_moments : (from : _) → IsSource (seen log Main) from → LeavesOnly Main OneOfTwo log mid
  copy_moments from source = stays_leaves Main OneOfTwo log mid (settled_leaves log Main OneOfTwo settled (inl (source_stands (seen log Main) from source))) stays

  -- and once it is
  pub pack_moments : (from : _) (new : List Event) (c : CopyKept) → IsSource (seen log Main) from → IsCopied (seen mid Side) c → listed (seen mid Side) ≡ packed
      → (IsSettled mid Main → LeavesOnly Main (λ image. (image ≡ seen mid Main) ⊎ (image ≡ seen mid Side)) mid new) → LeavesOnly Main OneOfTwo log new
  pack_moments from new c source copied is leaves =
      let main = seen_stays Main log mid stays in
      let old : StandsForList (seen mid Main) (listed (seen log Main)) = subst (λ (b : List ℕ). StandsForList b (listed (seen log Main))) (sym main) (source_stands (seen log Main) from source) in
      let side : StandsForList (seen mid Side) packed = subst (λ (l : List Transaction). StandsForList (seen mid Side) l) is (copied_for (seen mid Side) c copied) in
      joined (Leaves Main OneOfTwo) log mid new (copy_moments from source)
      (leaves_less Main (λ image. (image ≡ seen mid Main) ⊎ (image ≡ seen mid Side)) OneOfTwo mid new
      (λ image. ⊎_elim (λ same. inl (subst (λ (b : List ℕ). StandsForList b (listed (seen log Main))) (sym same) old)) (λ same. inr (subst (λ (b : List ℕ). StandsForList b packed) (sym same) side)))
      (leaves (settled_stays log mid stays settled)))
