-- What the program promises, whatever its words: one record, of which each field is a sentence. Own.
use Rattle.std.specs.Prelude.{◌≡◌, ◌≢◌, ◌≤◌, ◌+◌, ℕ, List, [], Option, Some, None, length}
use Rattle.std.specs.Io.KnownBytes.{Consumes, IsAtEnd}
use Rattle.file_store.specs.Hinting.{LeavesHonest}
use Rattle.fs_records.specs.File.{StandsFor}
use Rattle.fs_recovery.specs.Opens.{IsNoList}
use Rattle.zb_base.specs.Counts.{Rose}
use Rattle.zb_links.specs.Told.{Told}
use Rattle.zb_model.specs.declared.data.Transaction.{Transaction}
use Rattle.zb_script.specs.declared.limits.Limit.{Limit}
use Rattle.zb_script.specs.declared.line.Turn.{Turn}
use Rattle.zb_script.specs.Limits.{first_limit}
use Rattle.zb_script.specs.Script.{IsBadLine}
use Rattle.zb_volume.specs.declared.areas.Area.TheVariants.{Main, Side}
use Rattle.zb_volume.specs.Disk.{IsSettled}
use Rattle.zb_volume.specs.Moments.{StaysAs}
use Rattle.program_words.specs.declared.command.Command.{Command}
use Rattle.program_words.specs.declared.command.Command.TheVariants.{Ask, Gen, Index, Pack, Play, Run, Serve}
use Rattle.script_runs.specs.declared.manner.Manner.TheVariants.{InTurn, SideBySide}
use Rattle.script_runs.specs.declared.status.Status.{Status}
use Rattle.script_runs.specs.declared.status.Status.TheVariants as status
use Rattle.zodb_top.specs.Asked.{AskSays}
use Rattle.zodb_top.specs.Indexing.{IndexSays}
use Rattle.zodb_top.specs.Inputs.{most_bytes}
use Rattle.zodb_top.specs.Made.{GenSays}
use Rattle.zodb_top.specs.Opened.{IsLeft, IsUnopened}
use Rattle.zodb_top.specs.Outside.{Outside, main_of}
use Rattle.zodb_top.specs.Packs.{PackSays}
use Rattle.zodb_top.specs.Serves.{EndsWell, ServeSays}
use Rattle.zeo_serving_links.specs.Serving.{OutsideSeen, outside_seen}
use Rattle.zodb_top.specs.Program.{IsInput, KeepsSide, ReadsToEnd, RunSays}
use Rattle.script_runs.specs.Outcomes.{IsUnlessMemory}
use Rattle.zodb_top.specs.Texts.{usage_line}
use Rattle.script_runs.specs.Written.{IsWritten}

-- What is seen of the links of other programs: what the doors tell, their count of faults, and that
-- of the spawner, which runs the workers of links.
pub record LinksSeen : Type 0 where
  pub told : Option Told
  pub door_faults : ℕ
  pub spawner_faults : ℕ

abbrev pub links_seen : Option Told → ℕ → ℕ → LinksSeen
links_seen told door_faults spawner_faults =
    record { told = told; door_faults = door_faults; spawner_faults = spawner_faults }

-- the same, as those who serve links see it
abbrev pub seen_of : LinksSeen → OutsideSeen
seen_of links = outside_seen links.told links.door_faults links.spawner_faults

-- What is seen of the whole outside at a moment: what the source has left, where it tells, and its
-- count of faults; what is seen of the links; and what is seen of the sink, the clock and the volume.
pub record ProgramSeen : Type 0 where
  pub left : Option (List ℕ)
  pub source_faults : ℕ
  pub links : LinksSeen
  pub outside : Outside

abbrev pub program_seen : Option (List ℕ) → ℕ → LinksSeen → Outside → ProgramSeen
program_seen left source_faults links outside =
    record { left = left; source_faults = source_faults; links = links; outside = outside }

-- ---- what a status says

-- Of words that are no command: the line of usage was written, or there was no memory to read the
-- words and nothing was. The file wasn't opened.
pub record SaysUsage (s : Status) (before after : Outside) : Type 0 where
  pub is : IsUnlessMemory s status.Usage
  pub line : s ≡ status.Usage
      → IsWritten before.taken after.taken before.sink_faults after.sink_faults usage_line
  pub silent : s ≡ status.NoMemory → after.taken ≡ before.taken
  pub unopened : IsUnopened before after

-- Its cause, how far the command came, what was written, which stamps the clock gave, and what Main
-- stands for, as it is and whatever a crash leaves or left. A command that asks, and `index`, leaves
-- the list as it was, at every moment and whatever its status, and Main's bytes, but for a tail.
abbrev pub CommandSays : Option Command → Status → Type 0 → ProgramSeen → ProgramSeen → Type 0
CommandSays None s told before after = SaysUsage s before.outside after.outside
CommandSays (Some Run) s told before after =
    RunSays InTurn s told (Rose before.source_faults after.source_faults) before.left
    before.outside after.outside
CommandSays (Some Play) s told before after =
    RunSays SideBySide s told (Rose before.source_faults after.source_faults) before.left
    before.outside after.outside
CommandSays (Some (Ask asked)) s told before after =
    AskSays s asked told before.outside after.outside
    × (told → IsLeft told before.outside after.outside)
CommandSays (Some (Pack pack)) s told before after =
    PackSays s pack told before.outside after.outside
CommandSays (Some (Serve request)) s told before after =
    ServeSays s request told (seen_of before.links) (seen_of after.links)
    before.outside after.outside
CommandSays (Some Index) s told before after =
    IndexSays s told before.outside after.outside
    × (told → IsLeft told before.outside after.outside)
CommandSays (Some (Gen rounds)) s told before after =
    GenSays s rounds told before.outside after.outside

-- ---- what is read of the script

-- `run` and `play` read it to its end, or at most to the first byte past its limit
pub record ReadsScript (s : Status) (before after : ProgramSeen) : Type 0 where
  pub at_end : ReadsToEnd s before.left → IsAtEnd after.left
  pub taken : (bytes : List ℕ) × Consumes before.left after.left bytes
      × (length bytes ≤ most_bytes + 1)

-- and no other command reads anything
abbrev pub ReadsFor : Option Command → Status → ProgramSeen → ProgramSeen → Type 0
ReadsFor (Some Run) s before after = ReadsScript s before after
ReadsFor (Some Play) s before after = ReadsScript s before after
ReadsFor _ s before after = after.left ≡ before.left

-- ---- what is done to links

-- the counts of faults of the doors and of the spawner haven't fallen
pub record AreLaterLinks (before after : LinksSeen) : Type 0 where
  pub doors : before.door_faults ≤ after.door_faults
  pub spawner : before.spawner_faults ≤ after.spawner_faults

-- `serve` takes some, as its statuses say, and no other command takes any
abbrev pub LinksFor : Option Command → ProgramSeen → ProgramSeen → Type 0
LinksFor (Some (Serve request)) before after = AreLaterLinks before.links after.links
LinksFor _ before after = after.links ≡ before.links

-- ---- which status comes, where no call fails

-- no call of the volume has failed
pub record IsServed (before after : Outside) : Type 0 where
  pub reads : ¬ Rose before.read_faults after.read_faults
  pub writes : ¬ Rose before.write_faults after.write_faults

-- the script was read whole, and it is one
pub record HasScript (before after : ProgramSeen) : Type 0 where
  pub input : List ℕ
  pub turns : List Turn
  pub told : before.left ≡ Some input
  pub is : IsInput input turns
  pub unfailed : ¬ Rose before.source_faults after.source_faults

-- a command opens the file: `run` and `play` where they have a script, and each other one always
abbrev pub OpensFile : Option Command → ProgramSeen → ProgramSeen → Type 0
OpensFile None before after = ⊥
OpensFile (Some Run) before after = HasScript before after
OpensFile (Some Play) before after = HasScript before after
OpensFile (Some _) before after = Unit {0}

-- all was done, unless memory ran out; `serve` may also find the history full, and all of it is done
-- only where neither the doors nor the spawner failed
abbrev pub IsDoneFor : Option Command → Status → ProgramSeen → ProgramSeen → Type 0
IsDoneFor (Some (Serve request)) s before after = EndsWell s (seen_of before.links) (seen_of after.links)
IsDoneFor _ s before after = IsUnlessMemory s status.Done

-- A file that stands for a list is served, and one that stands for none is damaged.
pub record Serves (told : Type 0) (command : Option Command) (s : Status)
    (before after : ProgramSeen) : Type 0 where
  pub done : told → OpensFile command before after → IsServed before.outside after.outside
      → ¬ Rose before.outside.sink_faults after.outside.sink_faults
      → (list : List Transaction) (cut : Option ℕ) → StandsFor (main_of before.outside) list cut
      → IsDoneFor command s before after
  pub damaged : told → OpensFile command before after → IsServed before.outside after.outside
      → IsNoList (main_of before.outside) → IsUnlessMemory s status.Damaged

-- a command takes a script
abbrev pub TakesScript : Option Command → Type 0
TakesScript (Some Run) = Unit {0}
TakesScript (Some Play) = Unit {0}
TakesScript _ = ⊥

-- A script with a bad line is refused so, and one that passes a limit.
pub record RefusesScript (s : Status) (before after : ProgramSeen) : Type 0 where
  pub bad_line : (input : List ℕ) (n : ℕ) → before.left ≡ Some input
      → first_limit input ≡ None → IsBadLine input n
      → ¬ Rose before.source_faults after.source_faults → IsUnlessMemory s status.BadLine
  pub limit : (input : List ℕ) (l : Limit) → before.left ≡ Some input
      → first_limit input ≡ Some l
      → ¬ Rose before.source_faults after.source_faults → IsUnlessMemory s status.Limit

-- ---- all of it

-- no count of faults has fallen
pub record AreLater (before after : ProgramSeen) : Type 0 where
  pub source : before.source_faults ≤ after.source_faults
  pub sink : before.outside.sink_faults ≤ after.outside.sink_faults
  pub reads : before.outside.read_faults ≤ after.outside.read_faults
  pub writes : before.outside.write_faults ≤ after.outside.write_faults

-- What the program promises: `told` says that the volume tells what it holds, and `command` what
-- the words ask for.
pub record Promise (told : Type 0) (command : Option Command) (s : Status)
    (before after : ProgramSeen) : Type 0 where
  -- The status says why, what was written and what Main stands for.
  pub says : CommandSays command s told before after
  -- A script is read whole, and nothing else is read.
  pub reads : ReadsFor command s before after
  -- No link is taken, but by `serve`.
  pub links : LinksFor command before after
  -- Each command has its status over each file where no call fails, unless memory runs out.
  pub serves : Serves told command s before after
  -- And so has each input that is no script, of a command that takes one.
  pub refuses : TakesScript command → RefusesScript s before after
  -- A file that is damaged is left as it was, whatever is asked.
  pub harmed : told → IsNoList (main_of before.outside) → after.outside.log ≡ before.outside.log
  -- No call that would change the volume has failed, unless the status says so.
  pub unfailed : ¬ (s ≡ status.StoreFault)
      → after.outside.write_faults ≡ before.outside.write_faults
  -- Side is as it was, at every moment and whatever the status, unless something is packed, or
  -- Main was empty, so that the file had to be made.
  pub side : told → KeepsSide command before.left → main_of before.outside ≢ []
      → StaysAs Side before.outside.log after.outside.log
  -- Whatever a crash leaves behind the call is an honest index file, where nothing of Main was
  -- pending.
  pub hint : told → IsSettled before.outside.log Main → LeavesHonest after.outside.log
  -- The counts of faults never fall.
  pub later : AreLater before after
