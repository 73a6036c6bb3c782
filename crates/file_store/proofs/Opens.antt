-- What is opened is kept, and what a crash leaves of it.
use Rattle.std.proofs.Common.{◌≡◌, ◌≢◌, ◌⊎◌, inl, inr, ℕ, ◌^◌, ◌<◌, ◌≤◌, List, [], ◌∷◌, ◌++◌, length, map, take, drop, Option, Some, None, refl, sym, ap, subst, ◌∙◌, arith}
use Rattle.std.specs.Prelude.{Result, Ok, Err, OnOk}
use Rattle.std.specs.List.{last_or}
use Rattle.std.specs.Option.{option_map_or}
use Rattle.std.proofs.lemmas.List.{nil_from_length, length-append, length-take}
use Rattle.zb_base.specs.Counts.{Rose}
use Rattle.zb_ids.specs.declared.stamp.Stamp.{Stamp}
use Rattle.zb_volume.specs.declared.areas.Area.TheVariants.{Main, Side}
use Rattle.zb_volume.specs.Calls.{Event}
use Rattle.zb_volume.specs.Disk.{seen, IsSettled}
use Rattle.zb_volume.specs.Images.{CrashLeaves}
use Rattle.zb_volume.specs.Moments.{Leaves, LeavesOnly, StaysAs, here}
use Rattle.zb_volume.specs.States.{VolumeState, FaultsStand}
use Rattle.zb_volume.specs.Lasting.{settled_leaves}
use Rattle.zb_volume.specs.Runs.{weaker}
use Rattle.zb_ids.specs.Tids.{stamp_number}
use Rattle.zb_model.specs.Creation.{first_transaction}
use Rattle.zb_model.specs.declared.data.Transaction.{Transaction}
use Rattle.fs_index.specs.declared.place.Place.{Place}
use Rattle.zb_base.specs.Bytes.{AreBytes, AreBytes-take}
use Rattle.fs_records.specs.Blocks.{Reached, Begins, magic, file_start, blocks_text}
use Rattle.fs_records.specs.File.{IsReadAs, StandsFor, no_bytes, a_file}
use Rattle.fs_records.specs.Databases.{reading_of}
use Rattle.fs_records.specs.Listed.{listed, reached_in, reading_is, reached_is}
use Rattle.fs_records.specs.Indexed.{places_of}
use Rattle.fs_records.specs.WriteLaws.{length-read, without_tail_stands}
use Rattle.fs_recovery.specs.declared.opening.Opened.{Opened}
use Rattle.fs_recovery.specs.declared.errors.OpenError.{OpenError}
use Rattle.fs_recovery.specs.declared.errors.OpenError.TheVariants.{StoreFault, BadRecord, NotFileStorage, Memory}
use Rattle.fs_recovery.specs.Ends.{whole_end}
use Rattle.fs_recovery.specs.Opens.{ImagesStand, IsNoList, IsOpened, IsWhole, Opens}
use Rattle.fs_recovery.specs.Reading.{CountsFault, RefusesMain}
use Rattle.fs_recovery.specs.Numbers.{AreNumbersOf}
use Rattle.file_store.specs.declared.ready.Ready.{Ready}
use Rattle.file_store.specs.First.{file_with}
use Rattle.file_store.specs.Kept.{IsKept, StandsForList}
use Rattle.file_store.specs.KeptLaws.{list_read}
use Rattle.file_store.specs.Opening.{Harm, IsFirst, IsNewOr, IsNoneOr, IsUnlessWritten, KeepsList, MakesList, first_list, without_tail}
use Rattle.file_store.specs.Outcomes.{HasOpenCause, IsOpening, IsReady, IsRefusal, MomentsOfMain}
use Rattle.file_store.specs.Staging.{StagedKept}

-- ---- what is kept

-- the last transaction's number, by the places or by the list
last_number : (ps : List Place) (ts : List Transaction) (p : Option Place) (t : Option Transaction) → map (λ x. x.serial) ps ≡ map (λ x. x.tid) ts → option_map_or (λ x. x.serial) p 0 ≡ option_map_or (λ x. x.tid) t 0
    → option_map_or (λ x. x.serial) (last_or p ps) 0 ≡ option_map_or (λ x. x.tid) (last_or t ts) 0
last_number [] [] p t same first = first
last_number [] (x ∷ ts) p t same first = absurd cc
last_number (x ∷ ps) [] p t same first = absurd cc
last_number (x ∷ ps) (y ∷ ts) p t same first = last_number ps ts (Some x) (Some y) (cc) (cc)

-- what stands for what was reached has as many bytes, at least
pub read_within : (bytes : List ℕ) (s : Reached) → Begins bytes s → s.end ≤ length bytes
read_within bytes s begins =
    let front = magic ++ blocks_text file_start begins.blocks in
    omega (arith, ap length begins.parts, length-append magic (blocks_text file_start begins.blocks ++ drop s.end bytes), length-append (blocks_text file_start begins.blocks) (drop s.end bytes), length-append magic (blocks_text file_start begins.blocks), length-read bytes s begins)

pub kept_of : (bytes : List ℕ) (o : Opened) (index : StagedKept) (newest : ℕ)
    → IsWhole bytes o → AreBytes bytes → length bytes ≤ o.end → o.end < 2 ^ 63
    → newest ≡ option_map_or (λ p. p.serial) (last_or None o.index.transactions) 0 → index ≡ record { kept = o.index; staged = None; newest = newest; end = o.end } → IsKept bytes index o.numbers
kept_of bytes o index newest whole fits within limit newest_is index_is =
    let short : length bytes < 2 ^ 63 = omega (arith, within, limit) in
    let s = whole.reached in
    let n = reading_of bytes s whole.stands.begins in
    let reading = reading_is bytes s None fits (omega (arith, short)) whole.stands in
    let reached : reached_in bytes ≡ s = reached_is bytes s None fits (omega (arith, short)) whole.stands in
    subst (λ (i : StagedKept). IsKept bytes i o.numbers) (sym index_is) (record {
      fits = fits;
      short = short;
      whole = omega (arith, within, read_within bytes s whole.stands.begins, whole.end_is);
      reading = reading ∙ ap (λ (x : Reached). Some (x, None)) (sym reached);
      end_is = ap (λ (x : Reached). x.end) reached ∙ whole.end_is;
      newest_is = ap (λ (x : Reached). x.newest) reached ∙ sym n.newest ∙ sym (last_number s.starts s.list None None n.starts refl)
          ∙ ap (λ (ps : List Place). option_map_or (λ p. p.serial) (last_or None ps) 0) (sym whole.index.transactions) ∙ sym newest_is;
      records = λ oid. whole.index.records oid ∙ ap (λ (x : Reached). places_of oid x.known) (sym reached);
      starts = whole.index.transactions ∙ ap (λ (x : Reached). x.starts) (sym reached);
      counted = subst (λ (l : List Transaction). AreNumbersOf l o.numbers) (sym (list_read bytes s None reading)) whole.counted;
    })

-- ---- crashes

-- what an empty Main leaves that is settled
empty_leaves : (stamp : Stamp) (log : List Event) → seen log Main ≡ [] → IsSettled log Main → Leaves Main (IsNewOr stamp) log
empty_leaves stamp log empty settled = settled_leaves log Main (IsNewOr stamp) settled (inl (None, no_bytes empty refl refl))

pub still_makes : (stamp : Stamp) (old new : List Event) → new ≡ old → MakesList stamp old new
still_makes stamp old new same empty settled = subst (λ (log : List Event). LeavesOnly Main (IsNewOr stamp) old log) (sym same) (here (empty_leaves stamp old empty settled))

pub still_keeps : (old new : List Event) → new ≡ old → KeepsList old new
still_keeps old new same list cut some stands settled =
    subst (λ (log : List Event). LeavesOnly Main (λ bytes. StandsForList bytes list) old log) (sym same) (here (settled_leaves old Main (λ bytes. StandsForList bytes list) settled (cut, stands)))

-- while a new file is made
pub making : (stamp : Stamp) (old new : List Event) (file : List ℕ) → StandsFor file (first_list stamp) None → LeavesOnly Main (λ image. CrashLeaves old Main image ⊎ (image ≡ file)) old new → MakesList stamp old new
making stamp old new file stands leaves empty settled =
    weaker (Leaves Main (λ image. CrashLeaves old Main image ⊎ (image ≡ file))) (Leaves Main (IsNewOr stamp)) old new
    (λ log left image crash. elim (left image crash) [
      | inl was ↦ empty_leaves stamp old empty settled image was
      | inr is ↦ inr (None, subst (λ (b : List ℕ). StandsFor b (first_list stamp) None) (sym is) stands)
    ]) leaves

-- a file that has a transaction isn't empty
pub file_of : (bytes : List ℕ) (stamp : Stamp) (cut : Option ℕ) → StandsFor bytes (first_list stamp) cut → (s : Reached) × IsReadAs bytes s cut × (first_list stamp ≡ s.list)
file_of bytes stamp cut (no_bytes none l c) = absurd cc
file_of bytes stamp cut (a_file s stands l) = (s, stands, l)

file_begins : (bytes : List ℕ) (s : Reached) → Begins bytes s → bytes ≢ []
file_begins bytes s begins none = absurd (cc (begins.parts, none))

-- what is no list isn't empty
no_list_some : (bytes : List ℕ) → IsNoList bytes → bytes ≢ []
no_list_some bytes (inl none) = none.0
no_list_some bytes (inr harm) = file_begins bytes harm.2.reached harm.2.begins

-- the images while it is opened
images : (old new : List Event) (s : Reached) (cut : Option ℕ) (list : List Transaction) → list ≡ s.list → IsReadAs (seen old Main) s cut → IsSettled old Main → ImagesStand old new → LeavesOnly Main (λ bytes. StandsForList bytes list) old new
images old new s cut list is stands settled all =
    weaker (Leaves Main (λ image. (k : Option ℕ) × IsReadAs image s k)) (Leaves Main (λ bytes. StandsForList bytes list)) old new
    (λ log left image crash. let x = left image crash in (x.0, a_file s x.1 is)) (all s cut stands settled)

pub keeps_opened : (old new : List Event) → ImagesStand old new → KeepsList old new
keeps_opened old new all list cut some (no_bytes none l c) settled = absurd (some none)
keeps_opened old new all list cut some (a_file s stands l) settled = images old new s cut list l stands settled all

-- ---- what is opened

-- the list of what is left is what was opened
pub opened_list : (was now : List ℕ) (o : Opened) (opened : IsOpened was o) → now ≡ take o.end was → AreBytes was → o.end < 2 ^ 63 → listed now ≡ opened.reached.list
opened_list was now o opened is fits limit =
    let s = opened.reached in
    let now_is : now ≡ take s.end was = is ∙ ap (λ (n : ℕ). take n was) (sym opened.end_is) in
    let stands = subst (λ (b : List ℕ). IsReadAs b s None) (sym now_is) (without_tail_stands was s o.cut opened.stands) in
    let bytes : AreBytes now = subst (λ (b : List ℕ). AreBytes b) (sym is) (AreBytes-take o.end was fits) in
    list_read now s None (reading_is now s None bytes (omega (arith, ap length is, length-take o.end was, limit)) stands)

pub opened_stands : (was now : List ℕ) (o : Opened) (cut : Option ℕ) (opened : IsOpened was o) → now ≡ take o.end was → AreBytes was → o.end < 2 ^ 63 → cut ≡ o.cut → StandsFor was (listed now) cut
opened_stands was now o cut opened is fits limit cut_is =
    a_file opened.reached (subst (λ (k : Option ℕ). IsReadAs was opened.reached k) (sym cut_is) opened.stands) (opened_list was now o opened is fits limit)

pub opens_harm : (bytes : List ℕ) (e : OpenError) → Opens bytes (Err e) → Harm bytes e
opens_harm bytes StoreFault opens = tt
opens_harm bytes (BadRecord at field) opens = opens
opens_harm bytes NotFileStorage opens = opens
opens_harm bytes Memory opens = tt

pub taken_fits : (was now : List ℕ) (end : ℕ) → now ≡ take end was → AreBytes was → AreBytes now
taken_fits was now end is fits = subst (λ (b : List ℕ). AreBytes b) (sym is) (AreBytes-take end was fits)

pub taken_within : (was now : List ℕ) (end : ℕ) → now ≡ take end was → length now ≤ end
taken_within was now end is = omega (arith, ap length is, length-take end was)

pub stays_still : (old new : List Event) → new ≡ old → StaysAs Side old new
stays_still old new same = subst (λ (log : List Event). StaysAs Side old log) (sym same) (here refl)

left_cut : (was : List ℕ) (s : Reached) (cut : Option ℕ) → IsReadAs was s cut → take s.end was ≡ without_tail was cut
left_cut was s None stands = whole_end was s stands
left_cut was s (Some at) stands = ap (λ (n : ℕ). take n was) (sym stands.ends.1)

-- what is left of a file that was opened
pub left_of : (was now : List ℕ) (o : Opened) (cut : Option ℕ) → IsOpened was o → now ≡ take o.end was → cut ≡ o.cut → now ≡ without_tail was cut
left_of was now o cut opened is cut_is =
    is ∙ ap (λ (n : ℕ). take n was) (sym opened.end_is) ∙ left_cut was opened.reached o.cut opened.stands ∙ ap (λ (k : Option ℕ). without_tail was k) (sym cut_is)

-- ---- causes

-- a read failed
pub read_cause : (old new : VolumeState) → Rose old.read_faults new.read_faults → old.read_faults ≤ new.read_faults → new.write_faults ≡ old.write_faults → HasOpenCause old new StoreFault
read_cause old new rose later same = record { reads_later = later; writes_later = omega (arith, same); fault = λ is. inl rose; unfailed = λ other. absurd (other refl) }

-- a write failed
pub write_cause : (old new : VolumeState) → Rose old.write_faults new.write_faults → old.write_faults ≤ new.write_faults → new.read_faults ≡ old.read_faults → HasOpenCause old new StoreFault
write_cause old new rose later same = record { reads_later = omega (arith, same); writes_later = later; fault = λ is. inr rose; unfailed = λ other. absurd (other refl) }

-- neither did
pub still_cause : (old new : VolumeState) (e : OpenError) → ¬ (e ≡ StoreFault) → FaultsStand old new → HasOpenCause old new e
still_cause old new e other stand = record { reads_later = omega (arith, stand.reads); writes_later = omega (arith, stand.writes); fault = λ is. absurd (other is); unfailed = λ not. stand }

open_cause : (old new : VolumeState) (e : OpenError) → CountsFault {T = Opened} old new (Err e) → HasOpenCause old new e
open_cause old new StoreFault (inl failed) = read_cause old new failed.rose failed.later failed.writes_same
open_cause old new StoreFault (inr failed) = write_cause old new failed.rose failed.later failed.reads_same
open_cause old new (BadRecord at field) stand = still_cause old new (BadRecord at field) (λ is. cc) stand
open_cause old new NotFileStorage stand = still_cause old new NotFileStorage (λ is. cc) stand
open_cause old new Memory stand = still_cause old new Memory (λ is. cc) stand

-- ---- outcomes

-- a call that is refused
pub refused : (T : Type 0) (stamps : Option (List Stamp)) (old new : VolumeState) (r : Result Ready OpenError) (x e : OpenError) → r ≡ Err x → x ≡ e → IsRefusal T stamps old new e → IsOpening T stamps old new r
refused T stamps old new r x e is same refusal =
    subst (λ (q : Result Ready OpenError). IsOpening T stamps old new q) (sym is) (record { ready = tt; refused = subst (λ (y : OpenError). IsRefusal T stamps old new y) (sym same) refusal })

-- nothing was done
pub refused_still : (T : Type 0) (stamps : Option (List Stamp)) (old new : VolumeState) (e : OpenError) → new.log ≡ old.log → (T → Harm (seen old.log Main) e) → HasOpenCause old new e → IsRefusal T stamps old new e
refused_still T stamps old new e same harm cause = record {
  harm = harm;
  untouched = λ told none. same;
  unharmed = λ told. inl same;
  side = λ told some. stays_still old.log new.log same;
  moments = λ told. record { keeps = still_keeps old.log new.log same; makes = λ empty. inl same };
  cause = cause;
}

-- a file wasn't opened: nothing was changed, or a write failed
unless_written : (old new : VolumeState) (e : OpenError) → (RefusesMain {T = Opened} (Err e) → new.log ≡ old.log) → CountsFault {T = Opened} old new (Err e) → IsUnlessWritten old.log new.log old.write_faults new.write_faults
unless_written old new StoreFault untouched (inl failed) = inl failed.untouched
unless_written old new StoreFault untouched (inr failed) = inr failed.rose
unless_written old new (BadRecord at field) untouched counts = inl (untouched tt)
unless_written old new NotFileStorage untouched counts = inl (untouched tt)
unless_written old new Memory untouched counts = inl (untouched tt)

pub open_refused : (T : Type 0) (stamps : Option (List Stamp)) (old new : VolumeState) (e : OpenError) → (T → seen old.log Main ≢ []) → (T → Opens (seen old.log Main) (Err e)) → (RefusesMain {T = Opened} (Err e) → new.log ≡ old.log)
    → (T → IsNoList (seen old.log Main) → new.log ≡ old.log) → (T → StaysAs Side old.log new.log) → (T → ImagesStand old.log new.log) → CountsFault {T = Opened} old new (Err e) → IsRefusal T stamps old new e
open_refused T stamps old new e some opens untouched harmed side all counts = record {
  harm = λ told. opens_harm (seen old.log Main) e (opens told);
  untouched = harmed;
  unharmed = λ told. unless_written old new e untouched counts;
  side = λ told there. side told;
  moments = λ told. record { keeps = keeps_opened old.log new.log (all told); makes = λ empty. absurd (some told empty) };
  cause = open_cause old new e counts;
}

-- a file was opened
pub open_ready : (T : Type 0) (stamps : Option (List Stamp)) (old new : VolumeState) (o : Opened) (r : Ready) → (T → seen old.log Main ≢ []) → (T → AreBytes (seen old.log Main)) → (T → IsOpened (seen old.log Main) o)
    → (T → seen new.log Main ≡ take o.end (seen old.log Main)) → (T → IsWhole (seen new.log Main) o) → (T → IsSettled new.log Main) → (T → StaysAs Side old.log new.log) → (T → ImagesStand old.log new.log) → o.end < 2 ^ 63 → FaultsStand old new
    → ((bytes : List ℕ) → IsWhole bytes o → AreBytes bytes → length bytes ≤ o.end → IsKept bytes r.index r.numbers) → r.index.staged ≡ None → r.cut ≡ o.cut → IsReady T stamps old new r
open_ready T stamps old new o r some fits opens content whole settled side all limit stand kept free cut = record {
  kept = λ told. kept (seen new.log Main) (whole told) (taken_fits (seen old.log Main) (seen new.log Main) o.end (content told) (fits told)) (taken_within (seen old.log Main) (seen new.log Main) o.end (content told));
  free = free;
  settled = settled;
  main = λ told. record {
    reopened = λ there. record {
      opened = opened_stands (seen old.log Main) (seen new.log Main) o r.cut (opens told) (content told) (fits told) limit cut;
      content = left_of (seen old.log Main) (seen new.log Main) o r.cut (opens told) (content told) cut;
      side = side told;
    };
    anew = λ empty. absurd (some told empty);
  };
  moments = λ told. record { keeps = keeps_opened old.log new.log (all told); makes = λ empty. absurd (some told empty) };
  faults = stand;
}

-- while a file is made
made_moments : (stamps : Option (List Stamp)) (old new : List Event) (clock : Stamp) → seen old Main ≡ [] → IsFirst stamps clock → MakesList clock old new → MomentsOfMain stamps old new
made_moments stamps old new clock empty first makes = record { keeps = λ list cut some stands settled. absurd (some empty); makes = λ none. inr (clock, first, makes) }

-- a file wasn't made, since a write failed
pub make_refused : (T : Type 0) (stamps : Option (List Stamp)) (old new : VolumeState) (clock : Stamp) → (T → seen old.log Main ≡ []) → IsFirst stamps clock → (T → MakesList clock old.log new.log)
    → Rose old.write_faults new.write_faults → old.write_faults ≤ new.write_faults → new.read_faults ≡ old.read_faults → IsRefusal T stamps old new StoreFault
make_refused T stamps old new clock empty first makes rose later same = record {
  harm = λ told. tt;
  untouched = λ told none. absurd (no_list_some (seen old.log Main) none (empty told));
  unharmed = λ told. inr rose;
  side = λ told some. absurd (some (empty told));
  moments = λ told. made_moments stamps old.log new.log clock (empty told) first (makes told);
  cause = write_cause old new rose later same;
}

-- the list of a new file
first_listed : (bytes : List ℕ) (clock : Stamp) → AreBytes bytes → length bytes < 2 ^ 63 → StandsFor bytes (first_list clock) None → listed bytes ≡ first_list clock
first_listed bytes clock fits short stands = let f = file_of bytes clock None stands in list_read bytes f.0 None (reading_is bytes f.0 None fits (omega (arith, short)) f.1) ∙ sym f.2

-- a file was made
pub make_ready : (T : Type 0) (stamps : Option (List Stamp)) (old new : VolumeState) (clock : Stamp) (bytes : List ℕ) (r : Ready) → (T → seen old.log Main ≡ []) → IsFirst stamps clock → StandsFor bytes (first_list clock) None
    → bytes ≡ file_with (first_transaction (stamp_number clock)) → IsKept bytes r.index r.numbers → r.index.staged ≡ None → r.cut ≡ None → (T → seen new.log Main ≡ bytes) → (T → IsSettled new.log Main) → (T → MakesList clock old.log new.log)
    → FaultsStand old new → IsReady T stamps old new r
make_ready T stamps old new clock bytes r empty first stands file kept free cut content settled makes stand = record {
  kept = λ told. subst (λ (b : List ℕ). IsKept b r.index r.numbers) (sym (content told)) kept;
  free = free;
  settled = settled;
  main = λ told. record {
    reopened = λ some. absurd (some (empty told));
    anew = λ none.
        let list_is : listed (seen new.log Main) ≡ first_list clock = ap listed (content told) ∙ first_listed bytes clock kept.fits kept.short stands in record {
          made = record { stamp = clock; first = first; list_is = list_is; cut_is = cut };
          new_file = record { stamp = clock; first = first; file = content told ∙ file };
          moments = λ still. subst (λ (l : List Transaction). LeavesOnly Main (IsNoneOr l) old.log new.log) (sym list_is) (makes told none still);
        };
  };
  moments = λ told. made_moments stamps old.log new.log clock (empty told) first (makes told);
  faults = stand;
}

-- ---- a call that only reads

abbrev state_of : List Event → ℕ → ℕ → VolumeState
state_of log reads writes = record { log = log; read_faults = reads; write_faults = writes }

-- leaves the volume as it was, where it is answered
pub same_state : (old new : VolumeState) → new.log ≡ old.log → new.read_faults ≡ old.read_faults → new.write_faults ≡ old.write_faults → new ≡ old
same_state old new log reads writes =
    ap (λ (l : List Event). state_of l new.read_faults new.write_faults) log
    ∙ ap (λ (n : ℕ). state_of old.log n new.write_faults) reads
    ∙ ap (λ (n : ℕ). state_of old.log old.read_faults n) writes

-- Main isn't empty where it has bytes
pub some_bytes : (old new : List Event) (n : ℕ) → new ≡ old → n ≡ length (seen old Main) → 0 < n → seen new Main ≢ []
some_bytes old new n same is some empty = omega (arith, is, some, ap length (ap (λ (log : List Event). seen log Main) (sym same) ∙ empty))

pub no_bytes_there : (old new : List Event) (n : ℕ) → new ≡ old → n ≡ length (seen old Main) → n ≤ 0 → seen new Main ≡ []
no_bytes_there old new n same is none = ap (λ (log : List Event). seen log Main) same ∙ nil_from_length (seen old Main) (omega (arith, is, none))

-- Main is no longer than an area can be
pub short_there : (old new : List Event) (n : ℕ) → new ≡ old → n ≡ length (seen old Main) → n < 2 ^ 63 → length (seen new Main) < 2 ^ 63
short_there old new n same is short = omega (arith, short, is, ap (λ (log : List Event). length (seen log Main)) same)

pub any_ok : {A E : Type 0} (r : Result A E) (P : Type 0) → P → OnOk r P
any_ok (Ok x) P holds = holds
any_ok (Err e) P holds = tt
