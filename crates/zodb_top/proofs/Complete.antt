-- Which status a command has that takes no script.
use Rattle.std.proofs.Common.{ℕ, List, [], Option, None, inl, inr, refl}
use Rattle.fs_records.specs.File.{StandsFor, no_bytes}
use Rattle.fs_records.specs.Lists.{not_damaged, not_no_file}
use Rattle.fs_recovery.specs.Opens.{IsNoList}
use Rattle.zb_base.specs.Counts.{Rose}
use Rattle.zb_ids.specs.declared.stamp.Stamp.{Stamp}
use Rattle.zb_model.specs.declared.data.Transaction.{Transaction}
use Rattle.program_words.specs.declared.command.Asked.{Asked}
use Rattle.script_runs.specs.declared.status.Status.{Status}
use Rattle.script_runs.specs.declared.status.Status.TheVariants as status
use Rattle.zodb_top.specs.Asked.{AskSays}
use Rattle.zodb_top.specs.Damage.{NamesDamage, magic, rule}
use Rattle.zodb_top.specs.Opened.{OpensAs, made, there}
use Rattle.zodb_top.specs.Outside.{Outside, main_of}
use Rattle.script_runs.specs.Outcomes.{IsUnlessMemory}
use Rattle.zodb_top.proofs.Files.{never_no_list}

pub not_named : (told : Type 0) (bytes text : List ℕ) (list : List Transaction) (cut : Option ℕ) → told → StandsFor bytes list cut → NamesDamage told bytes text → ⊥
not_named told bytes text list cut here stands (magic other names) = not_no_file bytes list cut stands (other here)
not_named told bytes text list cut here stands (rule at field harm names) = not_damaged bytes list cut at field stands (harm here)

-- each file that stands for a list is answered, and a new one, where no call failed, unless memory runs out
pub ask_done : (s : Status) (asked : Asked) (told : Type 0) (before after : Outside) → AskSays s asked told before after
    → told → ¬ Rose before.read_faults after.read_faults → ¬ Rose before.write_faults after.write_faults → ¬ Rose before.sink_faults after.sink_faults
    → (list : List Transaction) (cut : Option ℕ) → StandsFor (main_of before) list cut → IsUnlessMemory s status.Done
ask_done status.Done asked told before after o here reads writes sinks list cut stands = inl refl
ask_done status.NoMemory asked told before after o here reads writes sinks list cut stands = inr refl
ask_done status.SinkFault asked told before after o here reads writes sinks list cut stands = absurd (sinks o.0)
ask_done status.StoreFault asked told before after o here reads writes sinks list cut stands = absurd (elim o.rose [ inl e ↦ reads e | inr e ↦ writes e ])
ask_done status.Damaged asked told before after o here reads writes sinks list cut stands = absurd (not_named told (main_of before) o.text list cut here stands o.names)
ask_done _ asked told before after o here reads writes sinks list cut stands = absurd o

pub not_opened : (bytes : List ℕ) (stamps left : Option (List Stamp)) (list : List Transaction) (cut : Option ℕ) → IsNoList bytes → OpensAs bytes stamps left list cut → ⊥
not_opened bytes stamps left list cut harm (there some stands same) = never_no_list bytes list cut stands harm
not_opened bytes stamps left list cut harm (made empty is given) = never_no_list bytes [] None (no_bytes empty refl refl) harm

-- what is no list is damaged, where no call failed, unless memory runs out
pub ask_damaged : (s : Status) (asked : Asked) (told : Type 0) (before after : Outside) → AskSays s asked told before after
    → told → ¬ Rose before.read_faults after.read_faults → ¬ Rose before.write_faults after.write_faults → IsNoList (main_of before) → IsUnlessMemory s status.Damaged
ask_damaged status.Done asked told before after (lines, is, wrote) here reads writes harm = absurd (not_opened (main_of before) before.stamps after.stamps (is here).list (is here).cut harm (is here).opens)
ask_damaged status.NoMemory asked told before after o here reads writes harm = inr refl
ask_damaged status.SinkFault asked told before after (rose, (lines, is, wrote)) here reads writes harm = absurd (not_opened (main_of before) before.stamps after.stamps (is here).list (is here).cut harm (is here).opens)
ask_damaged status.StoreFault asked told before after o here reads writes harm = absurd (elim o.rose [ inl e ↦ reads e | inr e ↦ writes e ])
ask_damaged status.Damaged asked told before after o here reads writes harm = inl refl
ask_damaged _ asked told before after o here reads writes harm = absurd o
