-- What the program promises, from what each command does.
use Rattle.std.proofs.Common.{◌≡◌, ℕ, List, [], map, Option, Some, None, length, inl, inr, refl, sym, subst, ◌∙◌, arith}
use Rattle.std.specs.Prelude.{◌≢◌, ◌≤◌, ◌<◌, ◌+◌, IfSome}
use Rattle.std.specs.Io.KnownBytes.{Consumes, IsAtEnd}
use Rattle.std.proofs.lemmas.Option.{same_Some}
use Rattle.file_store.specs.Hinting.{HasHonestHint, LeavesHonest}
use Rattle.fs_records.specs.File.{StandsFor}
use Rattle.fs_recovery.specs.Opens.{IsNoList}
use Rattle.zb_base.specs.Counts.{Rose}
use Rattle.zb_model.specs.declared.data.Transaction.{Transaction}
use Rattle.zb_script.specs.declared.limits.Limit.{Limit}
use Rattle.zb_script.specs.declared.line.Turn.{Turn}
use Rattle.zb_script.specs.Limits.{first_limit}
use Rattle.zb_script.specs.Script.{IsBadLine}
use Rattle.zb_volume.specs.declared.areas.Area.TheVariants.{Main, Side}
use Rattle.zb_volume.specs.Disk.{IsSettled}
use Rattle.zb_volume.specs.Calls.{Event}
use Rattle.zb_volume.specs.Moments.{StaysAs, here as from_here}
use Rattle.program_words.specs.declared.command.Asked.{Asked}
use Rattle.program_words.specs.declared.command.Command.{Command}
use Rattle.program_words.specs.declared.command.Command.TheVariants.{Ask, Gen, Index, Pack, Play, Run, Serve}
use Rattle.program_words.specs.Ranges.{IsInRange, command_fits}
use Rattle.program_words.specs.Words.{command_of}
use Rattle.program_words.specs.declared.command.PackRequest.{PackRequest}
use Rattle.program_words.specs.declared.command.ServeRequest.{ServeRequest}
use Rattle.script_runs.specs.declared.manner.Manner.{Manner}
use Rattle.script_runs.specs.declared.manner.Manner.TheVariants.{InTurn, SideBySide}
use Rattle.script_runs.specs.declared.status.Status.{Status}
use Rattle.script_runs.specs.declared.status.Status.TheVariants as status
use Rattle.zodb_top.specs.Asked.{AskSays}
use Rattle.zodb_top.specs.Indexing.{IndexSays}
use Rattle.zodb_top.specs.Inputs.{most_bytes}
use Rattle.zodb_top.specs.Made.{GenSays}
use Rattle.zodb_top.specs.Opened.{IsLeft, IsUnopened}
use Rattle.zodb_top.specs.Outside.{Outside, main_of}
use Rattle.zodb_top.specs.Packs.{PackSays}
use Rattle.zodb_top.specs.Program.{IsInput, PacksNothing, ReadsToEnd, RunSays}
use Rattle.script_runs.specs.Outcomes.{IsUnlessMemory}
use Rattle.zodb_top.specs.Promise.{AreLater, AreLaterLinks, ProgramSeen, Promise, SaysUsage, seen_of}
use Rattle.zodb_top.specs.Serves.{EndsWell, ServeSays}
use Rattle.zodb_top.proofs.Complete.{ask_damaged, ask_done}
use Rattle.zodb_top.proofs.Indexes.{index_damaged, index_done}
use Rattle.zodb_top.proofs.Sides.{left_side}
use Rattle.zodb_top.proofs.Untouched.{gen_starved, index_starved, left_untouched, pack_starved, serve_starved, still_honest}

-- a file that stands for a list is served
abbrev pub Done : Type 0 → Status → Outside → Outside → Type 0
Done told s before after = told → ¬ Rose before.read_faults after.read_faults → ¬ Rose before.write_faults after.write_faults
    → ¬ Rose before.sink_faults after.sink_faults → (list : List Transaction) (cut : Option ℕ) → StandsFor (main_of before) list cut → IsUnlessMemory s status.Done

-- and one that stands for none is damaged
abbrev pub Damaged : Type 0 → Status → Outside → Outside → Type 0
Damaged told s before after = told → ¬ Rose before.read_faults after.read_faults → ¬ Rose before.write_faults after.write_faults
    → IsNoList (main_of before) → IsUnlessMemory s status.Damaged

abbrev pub Harmed : Type 0 → Outside → Outside → Type 0
Harmed told before after = told → IsNoList (main_of before) → after.log ≡ before.log

abbrev pub Unfailed : Status → Outside → Outside → Type 0
Unfailed s before after = ¬ (s ≡ status.StoreFault) → after.write_faults ≡ before.write_faults

abbrev pub Hinted : Type 0 → Outside → Outside → Type 0
Hinted told before after = told → IsSettled before.log Main → LeavesHonest after.log

at_some : {A : Type 0} (o : Option A) (P : A → Type 0) (x : A) → o ≡ Some x → IfSome o P → P x
at_some None P x is holds = absurd cc
at_some (Some y) P x is holds = subst P (same_Some y x is) holds

-- words that are no command
pub usage_kept : (told : Type 0) (command : Option Command) (s : Status) (before after : ProgramSeen) → command ≡ None
    → SaysUsage s before.outside after.outside → after.left ≡ before.left → Hinted told before.outside after.outside → AreLater before after → after.links ≡ before.links → Promise told command s before after
usage_kept told command s before after is says left hint later links = subst (λ (c : Option Command). Promise told c s before after) (sym is) (record {
  says = says;
  reads = left;
  links = links;
  serves = record { done = λ here opens served sinks list cut stands. absurd opens; damaged = λ here opens served harm. absurd opens };
  refuses = λ takes. absurd takes;
  harmed = λ here harm. says.unopened.log;
  unfailed = λ other. says.unopened.write_faults;
  side = λ here keeps some. subst (λ (l : List Event). StaysAs Side before.outside.log l) (sym says.unopened.log) (from_here refl);
  hint = hint;
  later = later;
})

-- a command that asks
pub ask_kept : (told : Type 0) (command : Option Command) (asked : Asked) (s : Status) (before after : ProgramSeen) → command ≡ Some (Ask asked)
    → AskSays s asked told before.outside after.outside → (told → IsLeft told before.outside after.outside)
    → Harmed told before.outside after.outside → Unfailed s before.outside after.outside → after.left ≡ before.left → Hinted told before.outside after.outside → AreLater before after → after.links ≡ before.links
    → Promise told command s before after
ask_kept told command asked s before after is says kept harmed unfailed left hint later links = subst (λ (c : Option Command). Promise told c s before after) (sym is) (record {
  says = (says, kept);
  reads = left;
  links = links;
  serves = record {
    done = λ here opens served sinks list cut stands. ask_done s asked told before.outside after.outside says here served.reads served.writes sinks list cut stands;
    damaged = λ here opens served harm. ask_damaged s asked told before.outside after.outside says here served.reads served.writes harm;
  };
  refuses = λ takes. absurd takes;
  harmed = harmed;
  unfailed = unfailed;
  side = λ here keeps some. left_side told before.outside after.outside (kept here) here some;
  hint = hint;
  later = later;
})

-- a pack
pub pack_kept : (told : Type 0) (command : Option Command) (pack : PackRequest) (s : Status) (before after : ProgramSeen) → command ≡ Some (Pack pack)
    → PackSays s pack told before.outside after.outside → Done told s before.outside after.outside → Damaged told s before.outside after.outside
    → Harmed told before.outside after.outside → Unfailed s before.outside after.outside → after.left ≡ before.left → Hinted told before.outside after.outside → AreLater before after → after.links ≡ before.links
    → Promise told command s before after
pack_kept told command pack s before after is says done damaged harmed unfailed left hint later links = subst (λ (c : Option Command). Promise told c s before after) (sym is) (record {
  says = says;
  reads = left;
  links = links;
  serves = record {
    done = λ here opens served sinks list cut stands. done here served.reads served.writes sinks list cut stands;
    damaged = λ here opens served harm. damaged here served.reads served.writes harm;
  };
  refuses = λ takes. absurd takes;
  harmed = harmed;
  unfailed = unfailed;
  side = λ here keeps some. absurd keeps;
  hint = hint;
  later = later;
})

-- a script that is made has so many rounds at most
pub gen_in_range : {A : Type 0} (bytes_of : A → List ℕ) (words : List A) (read : Option Command) (rounds : ℕ) → read ≡ command_of (map bytes_of words) → read ≡ Some (Gen rounds) → rounds ≤ 8000
gen_in_range bytes_of words read rounds says is = subst (λ (o : Option Command). IfSome o IsInRange) (sym says ∙ is) (command_fits (map bytes_of words))

-- a script that is made
pub gen_kept : (told : Type 0) (command : Option Command) (rounds : ℕ) (s : Status) (before after : ProgramSeen) → command ≡ Some (Gen rounds)
    → GenSays s rounds told before.outside after.outside → Done told s before.outside after.outside → Damaged told s before.outside after.outside
    → Harmed told before.outside after.outside → Unfailed s before.outside after.outside → after.left ≡ before.left
    → (told → rounds < 100 → main_of before.outside ≢ [] → StaysAs Side before.outside.log after.outside.log)
    → Hinted told before.outside after.outside → AreLater before after → after.links ≡ before.links → Promise told command s before after
gen_kept told command rounds s before after is says done damaged harmed unfailed left side hint later links = subst (λ (c : Option Command). Promise told c s before after) (sym is) (record {
  says = says;
  reads = left;
  links = links;
  serves = record {
    done = λ here opens served sinks list cut stands. done here served.reads served.writes sinks list cut stands;
    damaged = λ here opens served harm. damaged here served.reads served.writes harm;
  };
  refuses = λ takes. absurd takes;
  harmed = harmed;
  unfailed = unfailed;
  side = side;
  hint = hint;
  later = later;
})

-- links that are served
pub serve_kept : (told : Type 0) (command : Option Command) (request : ServeRequest) (s : Status) (before after : ProgramSeen) → command ≡ Some (Serve request)
    → ServeSays s request told (seen_of before.links) (seen_of after.links) before.outside after.outside
    → (told → ¬ Rose before.outside.read_faults after.outside.read_faults → ¬ Rose before.outside.write_faults after.outside.write_faults → ¬ Rose before.outside.sink_faults after.outside.sink_faults
    → (list : List Transaction) (cut : Option ℕ) → StandsFor (main_of before.outside) list cut → EndsWell s (seen_of before.links) (seen_of after.links))
    → Damaged told s before.outside after.outside → Harmed told before.outside after.outside → Unfailed s before.outside after.outside → after.left ≡ before.left → Hinted told before.outside after.outside
    → AreLater before after → AreLaterLinks before.links after.links → Promise told command s before after
serve_kept told command request s before after is says done damaged harmed unfailed left hint later links = subst (λ (c : Option Command). Promise told c s before after) (sym is) (record {
  says = says;
  reads = left;
  links = links;
  serves = record {
    done = λ here opens served sinks list cut stands. done here served.reads served.writes sinks list cut stands;
    damaged = λ here opens served harm. damaged here served.reads served.writes harm;
  };
  refuses = λ takes. absurd takes;
  harmed = harmed;
  unfailed = unfailed;
  side = λ here keeps some. absurd keeps;
  hint = hint;
  later = later;
})

-- a run
abbrev pub RunDone : Type 0 → Status → ProgramSeen → ProgramSeen → Type 0
RunDone told s before after = told → IfSome before.left (λ input. (turns : List Turn) (list : List Transaction) (cut : Option ℕ)
    → IsInput input turns → StandsFor (main_of before.outside) list cut
    → ¬ Rose before.source_faults after.source_faults → ¬ Rose before.outside.sink_faults after.outside.sink_faults
    → ¬ Rose before.outside.read_faults after.outside.read_faults → ¬ Rose before.outside.write_faults after.outside.write_faults → IsUnlessMemory s status.Done)

abbrev pub RunDamaged : Type 0 → Status → ProgramSeen → ProgramSeen → Type 0
RunDamaged told s before after = told → IfSome before.left (λ input. (turns : List Turn) → IsInput input turns → IsNoList (main_of before.outside)
    → ¬ Rose before.source_faults after.source_faults
    → ¬ Rose before.outside.read_faults after.outside.read_faults → ¬ Rose before.outside.write_faults after.outside.write_faults → IsUnlessMemory s status.Damaged)

abbrev pub HasBadStatus : Status → ProgramSeen → ProgramSeen → Type 0
HasBadStatus s before after = IfSome before.left (λ input. (n : ℕ) → first_limit input ≡ None → IsBadLine input n
    → ¬ Rose before.source_faults after.source_faults → IsUnlessMemory s status.BadLine)

abbrev pub HasLimitStatus : Status → ProgramSeen → ProgramSeen → Type 0
HasLimitStatus s before after = IfSome before.left (λ input. (l : Limit) → first_limit input ≡ Some l
    → ¬ Rose before.source_faults after.source_faults → IsUnlessMemory s status.Limit)

abbrev pub command_in : Manner → Command
command_in InTurn = Run
command_in SideBySide = Play

pub run_kept : (told : Type 0) (manner : Manner) (s : Status) (before after : ProgramSeen)
    → RunSays manner s told (Rose before.source_faults after.source_faults) before.left before.outside after.outside
    → (ReadsToEnd s before.left → IsAtEnd after.left)
    → ((bytes : List ℕ) × Consumes before.left after.left bytes × (length bytes ≤ most_bytes + 1))
    → RunDone told s before after → RunDamaged told s before after → HasBadStatus s before after → HasLimitStatus s before after
    → Harmed told before.outside after.outside → Unfailed s before.outside after.outside
    → (told → PacksNothing before.left → main_of before.outside ≢ [] → StaysAs Side before.outside.log after.outside.log)
    → Hinted told before.outside after.outside → AreLater before after → after.links ≡ before.links → Promise told (Some (command_in manner)) s before after
run_kept told InTurn s before after says at_end taken done damaged bad_line limit harmed unfailed side hint later links =
    record {
      says = says;
      reads = record { at_end = at_end; taken = taken };
      links = links;
      serves = record {
        done = λ here has served sinks list cut stands. at_some before.left _ has.input has.told (done here) has.turns list cut has.is stands has.unfailed sinks served.reads served.writes;
        damaged = λ here has served harm. at_some before.left _ has.input has.told (damaged here) has.turns has.is harm has.unfailed served.reads served.writes;
      };
      refuses = λ takes. record {
        bad_line = λ input n told within bad read. at_some before.left _ input told bad_line n within bad read;
        limit = λ input l told first read. at_some before.left _ input told limit l first read;
      };
      harmed = harmed;
      unfailed = unfailed;
      side = side;
      hint = hint;
      later = later;
    }
run_kept told SideBySide s before after says at_end taken done damaged bad_line limit harmed unfailed side hint later links =
    record {
      says = says;
      reads = record { at_end = at_end; taken = taken };
      links = links;
      serves = record {
        done = λ here has served sinks list cut stands. at_some before.left _ has.input has.told (done here) has.turns list cut has.is stands has.unfailed sinks served.reads served.writes;
        damaged = λ here has served harm. at_some before.left _ has.input has.told (damaged here) has.turns has.is harm has.unfailed served.reads served.writes;
      };
      refuses = λ takes. record {
        bad_line = λ input n told within bad read. at_some before.left _ input told bad_line n within bad read;
        limit = λ input l told first read. at_some before.left _ input told limit l first read;
      };
      harmed = harmed;
      unfailed = unfailed;
      side = side;
      hint = hint;
      later = later;
    }

-- an index file
pub index_kept : (told : Type 0) (command : Option Command) (s : Status) (before after : ProgramSeen) → command ≡ Some Index
    → IndexSays s told before.outside after.outside → (told → IsLeft told before.outside after.outside)
    → Harmed told before.outside after.outside → Unfailed s before.outside after.outside → after.left ≡ before.left → Hinted told before.outside after.outside → AreLater before after → after.links ≡ before.links
    → Promise told command s before after
index_kept told command s before after is says kept harmed unfailed left hint later links = subst (λ (c : Option Command). Promise told c s before after) (sym is) (record {
  says = (says, kept);
  reads = left;
  links = links;
  serves = record {
    done = λ here opens served sinks list cut stands. index_done s told before.outside after.outside says here served.reads served.writes sinks list cut stands;
    damaged = λ here opens served harm. index_damaged s told before.outside after.outside says here served.reads served.writes harm;
  };
  refuses = λ takes. absurd takes;
  harmed = harmed;
  unfailed = unfailed;
  side = λ here keeps some. left_side told before.outside after.outside (kept here) here some;
  hint = hint;
  later = later;
})

-- ---- there was no memory for the words

later_same : (seen : ProgramSeen) → AreLater seen seen
later_same seen = record { source = omega arith; sink = omega arith; reads = omega arith; writes = omega arith }

unopened_same : (o : Outside) → IsUnopened o o
unopened_same o = record { stamps = refl; log = refl; read_faults = refl; write_faults = refl }

if_some : {A : Type 0} (o : Option A) (P : A → Type 0) → ((x : A) → P x) → IfSome o P
if_some None P all = tt
if_some (Some x) P all = all x

nothing_taken : (left : Option (List ℕ)) → Consumes left left []
nothing_taken None = tt
nothing_taken (Some bytes) = refl

unread : (told : Type 0) (manner : Manner) (seen : ProgramSeen) → (told → HasHonestHint seen.outside.log) → Promise told (Some (command_in manner)) status.NoMemory seen seen
unread told manner seen honest =
    run_kept told manner status.NoMemory seen seen
    (inl (refl, inl (unopened_same seen.outside)))
    (λ end. absurd end)
    ([], nothing_taken seen.left, omega arith)
    (λ here. if_some seen.left _ (λ input turns list cut is stands source sink reads writes. inr refl))
    (λ here. if_some seen.left _ (λ input turns is harm source reads writes. inr refl))
    (if_some seen.left _ (λ input n within bad source. inr refl))
    (if_some seen.left _ (λ input l first source. inr refl))
    (λ here harm. refl) (λ other. refl) (λ here packs some. from_here refl) (λ here settled. still_honest seen.outside.log (honest here) settled) (later_same seen) refl

-- words that are such a command
pub run_named : (told : Type 0) (command : Option Command) (manner : Manner) (s : Status) (before after : ProgramSeen) → command ≡ Some (command_in manner)
    → RunSays manner s told (Rose before.source_faults after.source_faults) before.left before.outside after.outside
    → (ReadsToEnd s before.left → IsAtEnd after.left)
    → ((bytes : List ℕ) × Consumes before.left after.left bytes × (length bytes ≤ most_bytes + 1))
    → RunDone told s before after → RunDamaged told s before after → HasBadStatus s before after → HasLimitStatus s before after
    → Harmed told before.outside after.outside → Unfailed s before.outside after.outside
    → (told → PacksNothing before.left → main_of before.outside ≢ [] → StaysAs Side before.outside.log after.outside.log)
    → Hinted told before.outside after.outside → AreLater before after → after.links ≡ before.links → Promise told command s before after
run_named told command manner s before after is says at_end taken done damaged bad_line limit harmed unfailed side hint later links =
    subst (λ (c : Option Command). Promise told c s before after) (sym is) (run_kept told manner s before after says at_end taken done damaged bad_line limit harmed unfailed side hint later links)

pub starved : (told : Type 0) (command : Option Command) (seen : ProgramSeen) → (told → HasHonestHint seen.outside.log) → Promise told command status.NoMemory seen seen
starved told None seen honest =
    usage_kept told None status.NoMemory seen seen refl
    (record { is = inr refl; line = λ other. absurd cc; silent = λ same. refl; unopened = unopened_same seen.outside }) refl (λ here settled. still_honest seen.outside.log (honest here) settled) (later_same seen) refl
starved told (Some Run) seen honest = unread told InTurn seen honest
starved told (Some Play) seen honest = unread told SideBySide seen honest
starved told (Some (Ask asked)) seen honest =
    ask_kept told (Some (Ask asked)) asked status.NoMemory seen seen refl
    (refl, record { reads = refl; writes = refl }) (λ here. left_untouched told seen.outside seen.outside refl refl)
    (λ here harm. refl) (λ other. refl) refl (λ here settled. still_honest seen.outside.log (honest here) settled) (later_same seen) refl
starved told (Some (Pack pack)) seen honest =
    pack_kept told (Some (Pack pack)) pack status.NoMemory seen seen refl
    (pack_starved pack told seen.outside) (λ here reads writes sinks list cut stands. inr refl) (λ here reads writes harm. inr refl)
    (λ here harm. refl) (λ other. refl) refl (λ here settled. still_honest seen.outside.log (honest here) settled) (later_same seen) refl
starved told (Some Index) seen honest =
    index_kept told (Some Index) status.NoMemory seen seen refl
    (index_starved told seen.outside) (λ here. left_untouched told seen.outside seen.outside refl refl)
    (λ here harm. refl) (λ other. refl) refl (λ here settled. still_honest seen.outside.log (honest here) settled) (later_same seen) refl
starved told (Some (Serve request)) seen honest =
    serve_kept told (Some (Serve request)) request status.NoMemory seen seen refl
    (serve_starved request told (seen_of seen.links) seen.outside) (λ here reads writes sinks list cut stands doors spawner. inl (inr refl)) (λ here reads writes harm. inr refl)
    (λ here harm. refl) (λ other. refl) refl (λ here settled. still_honest seen.outside.log (honest here) settled) (later_same seen) (record { doors = omega arith; spawner = omega arith })
starved told (Some (Gen rounds)) seen honest =
    gen_kept told (Some (Gen rounds)) rounds status.NoMemory seen seen refl
    (gen_starved rounds told seen.outside) (λ here reads writes sinks list cut stands. inr refl) (λ here reads writes harm. inr refl)
    (λ here harm. refl) (λ other. refl) refl (λ here few some. from_here refl) (λ here settled. still_honest seen.outside.log (honest here) settled) (later_same seen) refl
