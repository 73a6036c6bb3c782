-- What an area that stays as it was leaves of what is kept of it.
use Rattle.std.proofs.Common.{◌≡◌, ℕ, List, [], Option, Some, None, refl, sym, ap, subst, ◌∙◌}
use Rattle.std.specs.Option.{ForSome, option_map}
use Rattle.zb_volume.specs.declared.areas.Area.{Area}
use Rattle.zb_volume.specs.declared.areas.Area.TheVariants.{Main, Side}
use Rattle.zb_volume.specs.Calls.{Event}
use Rattle.zb_volume.specs.Disk.{Disk, IsSettled, disk, seen, settled}
use Rattle.zb_volume.specs.Moments.{StaysAs}
use Rattle.zb_volume.specs.Runs.{along_now}
use Rattle.zb_model.specs.declared.data.Transaction.{Transaction}
use Rattle.zb_model.specs.Packs.{new_pack}
use Rattle.zb_model.specs.Stores.{BegunPack, KeepsBegun, KeepsVoted, StoreState}
use Rattle.fs_records.specs.Listed.{listed}
use Rattle.fs_recovery.specs.Numbers.{NumbersKept}
use Rattle.pack_copy.specs.Copying.{CopyKept, copied_in}
use Rattle.file_store.specs.declared.staged.Staged.{Staged}
use Rattle.file_store.specs.Kept.{IsCopyKept, IsKept, IsVotedIn, voted_in}
use Rattle.file_store.specs.Staging.{StagedKept}

pub seen_stays : (a : Area) (old new : List Event) → StaysAs a old new → seen new a ≡ seen old a
seen_stays a old new stays = ap (λ (d : Disk). d.now) (along_now (λ log. disk log a ≡ disk old a) old new stays)

module _ (old new : List Event) (stays : StaysAs Main old new) where
  main : seen new Main ≡ seen old Main
  main = seen_stays Main old new stays

  pub settled_stays : IsSettled old Main → IsSettled new Main
  settled_stays is = along_now (λ log. disk log Main ≡ disk old Main) old new stays ∙ is ∙ ap settled (sym main)

  pub kept_stays : (index : StagedKept) (numbers : NumbersKept) → IsKept (seen old Main) index numbers → IsKept (seen new Main) index numbers
  kept_stays index numbers kept = subst (λ (b : List ℕ). IsKept b index numbers) (sym main) kept

  pub voted_stays : (index : StagedKept) → ForSome index.staged (λ s. IsVotedIn (seen old Main) s index) → ForSome index.staged (λ s. IsVotedIn (seen new Main) s index)
  voted_stays index voted = subst (λ (b : List ℕ). ForSome index.staged (λ s. IsVotedIn b s index)) (sym main) voted

  pub list_stays : listed (seen new Main) ≡ listed (seen old Main)
  list_stays = ap listed main

pub copied_stays : (old new : List Event) (copy : Option CopyKept) → StaysAs Side old new → ForSome copy (λ c. IsCopyKept (seen old Side) c) → ForSome copy (λ c. IsCopyKept (seen new Side) c)
copied_stays old new copy stays is = subst (λ (b : List ℕ). ForSome copy (λ c. IsCopyKept b c)) (sym (seen_stays Side old new stays)) is

-- ---- the begun pack and what is voted

-- what is seen of a copy, with these bytes of Side
abbrev pub begun_of : Option CopyKept → List ℕ → Option BegunPack
begun_of copy bytes = option_map (λ (c : CopyKept). copied_in c.tid bytes) copy

begun_tid : (copy : Option CopyKept) (a b : List ℕ) → option_map (λ (p : BegunPack). p.tid) (begun_of copy a) ≡ option_map (λ (p : BegunPack). p.tid) (begun_of copy b)
begun_tid None a b = refl
begun_tid (Some c) a b = refl

pub keeps_begun : (T : Type 0) (log now : List Event) (copy : Option CopyKept) (old new : StoreState) → old.begun ≡ begun_of copy (seen log Side) → new.begun ≡ begun_of copy (seen now Side) → (T → StaysAs Side log now) → KeepsBegun T old new
keeps_begun T log now copy old new was is stays = record {
  tid = ap (option_map (λ (p : BegunPack). p.tid)) is ∙ begun_tid copy (seen now Side) (seen log Side) ∙ sym (ap (option_map (λ (p : BegunPack). p.tid)) was);
  all = λ told. is ∙ ap (begun_of copy) (seen_stays Side log now (stays told)) ∙ sym was;
}

-- what is seen of what is staged, with these bytes of Main
abbrev pub voted_of : StagedKept → List ℕ → Option Transaction
voted_of index bytes = option_map (λ (s : Staged). voted_in s.tid index.end bytes) index.staged

voted_tid : (staged : Option Staged) (end : ℕ) (a b : List ℕ)
    → option_map (λ (t : Transaction). t.tid) (option_map (λ (s : Staged). voted_in s.tid end a) staged) ≡ option_map (λ (t : Transaction). t.tid) (option_map (λ (s : Staged). voted_in s.tid end b) staged)
voted_tid None end a b = refl
voted_tid (Some s) end a b = refl

pub keeps_voted : (T : Type 0) (log now : List Event) (index : StagedKept) (old new : StoreState) → old.voted ≡ voted_of index (seen log Main) → new.voted ≡ voted_of index (seen now Main) → (T → StaysAs Main log now) → KeepsVoted T old new
keeps_voted T log now index old new was is stays = record {
  tid = ap (option_map (λ (t : Transaction). t.tid)) is ∙ voted_tid index.staged index.end (seen now Main) (seen log Main) ∙ sym (ap (option_map (λ (t : Transaction). t.tid)) was);
  all = λ told. is ∙ ap (voted_of index) (seen_stays Main log now (stays told)) ∙ sym was;
}

-- a pack that was just begun
pub begun_new : (c : CopyKept) (tid : ℕ) (bytes : List ℕ) → c.tid ≡ tid → listed bytes ≡ [] → Some (copied_in c.tid bytes) ≡ Some (new_pack tid)
begun_new c tid bytes is empty = ap (λ (n : ℕ). Some (copied_in n bytes)) is ∙ ap (λ (list : List Transaction). Some (record { tid = tid; copied = list })) empty
