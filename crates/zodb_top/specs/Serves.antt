-- What the command `serve` does, and what it leaves. Source: ZEO, whose server has no end; how many links are served, and what is written, is own.
use Rattle.std.specs.Prelude.{◌≡◌, ◌⊎◌, ℕ, List, [], ◌∷◌, ◌++◌, Option, Bool, true, false, codes, decimal, if◌then◌else◌, nat_eq}
use Rattle.std.specs.Io.KnownBytes.{Appends}
use Rattle.file_store.specs.Kept.{StandsForList}
use Rattle.hub_shared.specs.Seats.{IsOfHistory, machine_of}
use Rattle.zb_base.specs.Counts.{Rose}
use Rattle.zb_ids.specs.declared.stamp.Stamp.{Stamp}
use Rattle.zb_links.specs.Told.{Told}
use Rattle.zb_model.specs.declared.data.Transaction.{Transaction}
use Rattle.zb_model.specs.Stores.{StoreState}
use Rattle.zb_outside.specs.Written.{AppendsPrefix}
use Rattle.zb_volume.specs.declared.areas.Area.TheVariants.{Main}
use Rattle.zb_volume.specs.Moments.{Leaves, LeavesOnly}
use Rattle.zeo_serving_links.specs.declared.ending.Served.{Served}
use Rattle.zeo_serving_links.specs.declared.ending.ServingEnd.TheVariants as serving_end
use Rattle.zeo_serving_links.specs.Serving.{HasServedLinks, IsBoundAs, OutsideSeen}
use Rattle.zodb_core.specs.History.{Entry, IsLegalOver, counts_after}
use Rattle.zodb_core.specs.HubState.{counts_of}
use Rattle.zodb_core.specs.Outcomes.{AreLaterCounts, FaultCounts}
use Rattle.program_words.specs.declared.command.ServeRequest.{ServeRequest}
use Rattle.script_runs.specs.declared.status.Status.{Status}
use Rattle.script_runs.specs.declared.status.Status.TheVariants as status
use Rattle.script_runs.specs.Outcomes.{IsUnlessMemory}
use Rattle.script_runs.specs.Texts.{cut_lines, joined, line, store_fault_line}
use Rattle.script_runs.specs.Written.{IsWritten}
use Rattle.side_by_side.specs.Runs.{stock}
use Rattle.zodb_top.specs.Came.{IsCalm}
use Rattle.zodb_top.specs.Opened.{FailedToOpen, IsLeft, IsRefused, IsUnfailed, OpensAs}
use Rattle.zodb_top.specs.Outside.{Outside, main_of}

-- ---- what is written

-- how many sessions ended for a fault of their link or for want of memory, where some did
abbrev pub faulty_text : ℕ → List ℕ
faulty_text faulty = if nat_eq faulty 0 then [] else 32 ∷ decimal faulty

abbrev pub served_line : ℕ → ℕ → List ℕ
served_line count faulty = line (codes "served " ++ (decimal count ++ faulty_text faulty))

abbrev pub no_workers_line : List ℕ
no_workers_line = line (codes "no workers")

abbrev pub no_link_line : List ℕ
no_link_line = line (codes "no link")

abbrev pub steps_spent_line : List ℕ
steps_spent_line = line (codes "steps spent")

-- What each status says of how the serving ended (`failed`: the store did), and of what was written of it behind some lines.
abbrev pub EndSays : Status → Option (List ℕ) → Option (List ℕ) → ℕ → ℕ → Bool → Served → ℕ → List (List ℕ) → Type 0
EndSays status.Done old new before now failed served count lines =
    (failed ≡ false) × (served.end ≡ serving_end.All) × Appends old new (joined (lines ++ served_line count served.faulty ∷ []))
EndSays status.NoMemory old new before now failed served count lines = (failed ≡ false) × (new ≡ old)
EndSays status.SinkFault old new before now failed served count lines =
    (failed ≡ false) × Rose before now × (served.end ≡ serving_end.All) × AppendsPrefix old new (joined (lines ++ served_line count served.faulty ∷ []))
EndSays status.StoreFault old new before now failed served count lines = (failed ≡ true) × IsWritten old new before now (joined lines ++ store_fault_line)
EndSays status.NoWorkers old new before now failed served count lines =
    (failed ≡ false) × (served.end ≡ serving_end.NoWorkers) × IsWritten old new before now (joined lines ++ no_workers_line)
EndSays status.NoLink old new before now failed served count lines =
    (failed ≡ false) × (served.end ≡ serving_end.NoLink) × IsWritten old new before now (joined lines ++ no_link_line)
EndSays status.StepsSpent old new before now failed served count lines =
    (failed ≡ false) × (served.end ≡ serving_end.StepsSpent) × IsWritten old new before now (joined lines ++ steps_spent_line)
EndSays _ old new before now failed served count lines = ⊥

-- ---- a store

-- Links were served over a store, in one history: the doors were bound with the port; the history is legal over the store's list, and tells the store's counts; the
-- store has the list behind it, unless it failed, and where the list lies on a disk, whatever a crash left at any moment is of the history.
pub record ServesStore (told lasts : Type 0) (stands : List ℕ → List Transaction → Type 0) (request : ServeRequest) (served : Served) (old new : StoreState) (before after : OutsideSeen) : Type 0 where
  pub bound : Option Told
  pub port_is : IsBoundAs request.port before.told bound served.end
  pub all : List Entry
  pub legal : told → IsLegalOver stock old.list (counts_of old) all
  pub counted : counts_after (counts_of old) all ≡ counts_of new
  pub list : told → new.broken ≡ false → (machine_of stock old.list all).list ≡ new.list
  pub later : AreLaterCounts (counts_of old) (counts_of new)
  pub same : new.broken ≡ false → new.faults ≡ old.faults
  pub rose : new.broken ≡ true → Rose old.faults new.faults
  pub moments : lasts → told → LeavesOnly Main (IsOfHistory stands stock old.list all) old.log new.log
  pub links : HasServedLinks told stock old.list (counts_of old) request.count all served (record before { told = bound }) after

-- and what was written of it
pub record ServesOver (s : Status) (told lasts : Type 0) (stands : List ℕ → List Transaction → Type 0) (request : ServeRequest) (cut : Option ℕ) (taken taken' : Option (List ℕ)) (faults faults' : ℕ) (old new : StoreState) (before after : OutsideSeen) : Type 0 where
  pub served : Served
  pub serves : ServesStore told lasts stands request served old new before after
  pub says : EndSays s taken taken' faults faults' new.broken served request.count (cut_lines cut)
  pub images : lasts → new.broken ≡ false → Leaves Main (λ bytes. stands bytes new.list) new.log

-- no memory for the line of a tail, and nothing was done
pub record ServesNone (s : Status) (taken taken' : Option (List ℕ)) (old new : StoreState) (stamps stamps' : Option (List Stamp)) (before after : OutsideSeen) : Type 0 where
  pub is : s ≡ status.NoMemory
  pub silent : taken' ≡ taken
  pub store : new ≡ old
  pub clock : stamps' ≡ stamps
  pub links : after ≡ before

-- ---- the file

abbrev pub counts_in : Outside → FaultCounts
counts_in o = record { reads = o.read_faults; others = o.write_faults }

-- bytes stand for the list behind the history, or where the store failed, for one that is of it
abbrev pub IsLeftBehind : Bool → List Transaction → List Entry → List ℕ → Type 0
IsLeftBehind false list all bytes = StandsForList bytes (machine_of stock list all).list
IsLeftBehind true list all bytes = IsOfHistory StandsForList stock list all bytes

-- before the first link the file of a new database may not be there yet
abbrev pub IsOfServing : List ℕ → List Transaction → List Entry → List ℕ → Type 0
IsOfServing main list all bytes = IsOfHistory StandsForList stock list all bytes ⊎ ((main ≡ []) × StandsForList bytes [])

-- The file was opened, where no call failed, and links were served over its list, in one legal history, which tells the volume's counts: the doors were bound with the
-- port, and each link had a session, whose steps are those that its messages name. What was written has this to do with how it ended. Main stands for what is behind
-- the history, as it is and whatever a crash leaves; what a crash at any moment of the call leaves is of the history.
pub record HasServed (told : Type 0) (request : ServeRequest) (says : Bool → Served → List (List ℕ) → Type 0) (links links' : OutsideSeen) (before after : Outside) : Type 0 where
  pub list : List Transaction
  pub cut : Option ℕ
  pub stamps : Option (List Stamp)
  pub opens : OpensAs (main_of before) before.stamps stamps list cut
  pub served : Served
  pub failed : Bool
  pub bound : Option Told
  pub port_is : IsBoundAs request.port links.told bound served.end
  pub all : List Entry
  pub legal : IsLegalOver stock list (counts_in before) all
  pub counted : counts_after (counts_in before) all ≡ counts_in after
  pub are_served : HasServedLinks told stock list (counts_in before) request.count all served (record links { told = bound }) links'
  pub says_so : says failed served (cut_lines cut)
  pub main : IsLeftBehind failed list all (main_of after)
  pub images : Leaves Main (IsLeftBehind failed list all) after.log
  pub moments : IsCalm before → LeavesOnly Main (IsOfServing (main_of before) list all) before.log after.log

abbrev pub ServesAs : Status → Type 0 → ServeRequest → OutsideSeen → OutsideSeen → Outside → Outside → Type 0
ServesAs s told request links links' before after =
    HasServed told request (λ failed served lines. EndSays s before.taken after.taken before.sink_faults after.sink_faults failed served request.count lines) links links' before after

-- What each status of `serve` says: its cause, what was written, and what Main stands for. `told` says that the volume tells.
abbrev pub ServeSays : Status → ServeRequest → Type 0 → OutsideSeen → OutsideSeen → Outside → Outside → Type 0
ServeSays status.Done request told links links' before after = told → ServesAs status.Done told request links links' before after
ServeSays status.NoMemory request told links links' before after =
    (after.taken ≡ before.taken) × (((told → IsLeft told before after) × IsUnfailed before after) ⊎ (told → ServesAs status.NoMemory told request links links' before after))
ServeSays status.SinkFault request told links links' before after = Rose before.sink_faults after.sink_faults × (told → ServesAs status.SinkFault told request links links' before after)
ServeSays status.StoreFault request told links links' before after =
    FailedToOpen told before after ⊎ (Rose before.write_faults after.write_faults × (told → ServesAs status.StoreFault told request links links' before after))
ServeSays status.Damaged request told links links' before after = IsRefused told before after
ServeSays status.NoWorkers request told links links' before after = Rose links.spawner links'.spawner × (told → ServesAs status.NoWorkers told request links links' before after)
ServeSays status.NoLink request told links links' before after = Rose links.doors links'.doors × (told → ServesAs status.NoLink told request links links' before after)
ServeSays status.StepsSpent request told links links' before after = told → ServesAs status.StepsSpent told request links links' before after
ServeSays _ request told links links' before after = ⊥

-- where neither the doors nor the spawner failed, all links were served, unless memory ran out or the history is full
abbrev pub EndsWell : Status → OutsideSeen → OutsideSeen → Type 0
EndsWell s links links' = ¬ Rose links.doors links'.doors → ¬ Rose links.spawner links'.spawner → IsUnlessMemory s status.Done ⊎ (s ≡ status.StepsSpent)
