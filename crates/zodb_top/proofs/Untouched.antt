-- What is left where nothing was done.
use Rattle.std.proofs.Common.{◌≡◌, ℕ, List, None, inl, refl, sym, ap, subst}
use Rattle.file_store.specs.Hinting.{HasHonestHint, LeavesHonest}
use Rattle.file_store.specs.Kept.{StandsForList}
use Rattle.file_store.specs.Opening.{IsNewOr, KeepsList, MakesList}
use Rattle.fs_index_file.specs.Honest.{IsHonest}
use Rattle.fs_records.specs.File.{no_bytes}
use Rattle.zb_ids.specs.declared.stamp.Stamp.{Stamp}
use Rattle.zb_volume.specs.declared.areas.Area.TheVariants.{Hint, Main, Side}
use Rattle.zb_volume.specs.Calls.{Event}
use Rattle.zb_volume.specs.Disk.{seen, IsSettled}
use Rattle.zb_volume.specs.Lasting.{settled_leaves}
use Rattle.zb_volume.specs.Moments.{StaysAs, here}
use Rattle.zodb_top.specs.Indexing.{IndexSays}
use Rattle.zodb_top.specs.Opened.{IsLeft, bytes_same}
use Rattle.program_words.specs.declared.command.PackRequest.{PackRequest}
use Rattle.program_words.specs.declared.command.ServeRequest.{ServeRequest}
use Rattle.script_runs.specs.declared.status.Status.TheVariants as status
use Rattle.zodb_top.specs.Made.{GenSays}
use Rattle.zodb_top.specs.Outside.{Outside}
use Rattle.zodb_top.specs.Packs.{PackSays}
use Rattle.zodb_top.specs.Serves.{ServeSays}
use Rattle.zeo_serving_links.specs.Serving.{OutsideSeen}

keeps_at : (log : List Event) → KeepsList log log
keeps_at log list cut some stands settled = here (settled_leaves log Main (λ bytes. StandsForList bytes list) settled (cut, stands))

pub makes_at : (stamp : Stamp) (log : List Event) → MakesList stamp log log
makes_at stamp log empty settled = here (settled_leaves log Main (IsNewOr stamp) settled (inl (None, no_bytes empty refl refl)))

pub left_untouched : (told : Type 0) (before after : Outside) → after.stamps ≡ before.stamps → after.log ≡ before.log → IsLeft told before after
left_untouched told before after stamps log = record {
  stamps = inl stamps;
  kept = λ here some. stamps;
  bytes = λ here some. bytes_same (ap (λ (l : List Event). seen l Main) log);
  side = λ known some. subst (λ (l : List Event). StaysAs Side before.log l) (sym log) (here refl);
  keeps = λ known. subst (λ (l : List Event). KeepsList before.log l) (sym log) (keeps_at before.log);
  makes = λ known empty. inl log;
}

-- an index file that is honest, and of which nothing is pending, is so of whatever a crash leaves
pub still_honest : (log : List Event) → HasHonestHint log → IsSettled log Main → LeavesHonest log
still_honest log is settled main hint left_main left_hint =
    settled_leaves log Main (λ bytes. IsHonest bytes hint) settled (settled_leaves log Hint (IsHonest (seen log Main)) is.settled is.honest hint left_hint) main left_main

-- no memory for the words of `pack`
pub pack_starved : (pack : PackRequest) (told : Type 0) (before : Outside) → PackSays status.NoMemory pack told before before
pack_starved pack told before = (refl, inl (left_untouched told before before refl refl, record { reads = refl; writes = refl }))

-- and for those of `index`
pub index_starved : (told : Type 0) (before : Outside) → IndexSays status.NoMemory told before before
index_starved told before = (refl, record { reads = refl; writes = refl })

-- and for those of `serve`
pub serve_starved : (request : ServeRequest) (told : Type 0) (links : OutsideSeen) (before : Outside) → ServeSays status.NoMemory request told links links before before
serve_starved request told links before = (refl, inl (λ here. left_untouched told before before refl refl, record { reads = refl; writes = refl }))

-- and for those of `gen`
pub gen_starved : (rounds : ℕ) (told : Type 0) (before : Outside) → GenSays status.NoMemory rounds told before before
gen_starved rounds told before = inl (refl, left_untouched told before before refl refl, record { reads = refl; writes = refl })
