-- What a command that takes no script says of the file.
use Rattle.std.proofs.Common.{◌≡◌, ◌≢◌, ℕ, false, List, [], ◌∷◌, ◌++◌, Option, inl, inr, refl, sym, ap, subst, ◌∙◌}
use Rattle.std.specs.Prelude.{IfOk, IsErrOf, Result, Ok, Err}
use Rattle.std.specs.Io.KnownBytes.{Appends}
use Rattle.file_store.specs.Kept.{StandsForList}
use Rattle.file_store.specs.Opening.{GaveAtMostOne, Harm, IsNewFile, KeepsList as KeepsMain, MakesFile, SomeRose, without_tail}
use Rattle.fs_recovery.specs.Opens.{IsNoList}
use Rattle.fs_recovery.specs.declared.errors.OpenError.{OpenError}
use Rattle.fs_recovery.specs.declared.errors.OpenError.TheVariants as open_error
use Rattle.zb_base.specs.Counts.{Rose}
use Rattle.zb_ids.specs.declared.stamp.Stamp.{Stamp}
use Rattle.zb_model.specs.declared.data.Transaction.{Transaction}
use Rattle.zb_model.specs.Stores.{StoreState}
use Rattle.zb_outside.specs.Written.{AppendsPrefix}
use Rattle.zb_volume.specs.declared.areas.Area.TheVariants.{Main, Side}
use Rattle.zb_volume.specs.Calls.{Event}
use Rattle.zb_volume.specs.Disk.{seen}
use Rattle.zb_volume.specs.Moments.{Leaves, StaysAs}
use Rattle.zodb_core.specs.HubState.{counts_of}
use Rattle.zodb_core.specs.Outcomes.{FaultCounts}
use Rattle.zodb_top.specs.declared.asking.AskError.{AskError}
use Rattle.zodb_top.specs.declared.asking.AskError.TheVariants as error
use Rattle.program_words.specs.declared.command.Asked.{Asked}
use Rattle.script_runs.specs.declared.status.Status.{Status}
use Rattle.script_runs.specs.declared.status.Status.TheVariants as status
use Rattle.zodb_top.specs.Asked.{AskSays, IsAnswer, IsSaid, lines_of}
use Rattle.zodb_top.specs.Asking.{AnswerSays, KeepsStore, StoreAnswers, WritesAnswer}
use Rattle.zodb_top.specs.Opened.{IsLeft, OpensAs}
use Rattle.zodb_top.specs.Outside.{Outside, main_of}
use Rattle.script_runs.specs.Texts.{cut_lines, joined}
use Rattle.zodb_top.specs.Texts.{refused_line}
use Rattle.zodb_top.specs.Unopened.{SaysUnopened}
use Rattle.zodb_top.proofs.Files.{refused}
use Rattle.zodb_top.proofs.Volumes.{IsOpen, bytes_open, unfailed}

pub unopened : (s : Status) (e : OpenError) (asked : Asked) (told : Type 0) (before after : Outside) → SaysUnopened s e before.taken after.taken before.sink_faults after.sink_faults
    → (told → Harm (main_of before) e) → (e ≡ open_error.StoreFault → SomeRose before.read_faults after.read_faults before.write_faults after.write_faults)
    → (told → IsNoList (main_of before) → after.log ≡ before.log) → (¬ (e ≡ open_error.StoreFault) → (after.read_faults ≡ before.read_faults) × (after.write_faults ≡ before.write_faults)) → IsLeft told before after
    → AskSays s asked told before after
unopened status.StoreFault e asked told before after said harm rose same calm left = record { rose = rose said.0; written = said.1; left = left }
unopened status.Damaged e asked told before after (text, names, wrote) harm rose same calm left = refused e told before after text names wrote harm same left
unopened status.NoMemory e asked told before after said harm rose same calm left = (said.1, unfailed e before after said.0 calm)
unopened _ e asked told before after said harm rose same calm left = absurd said

-- ---- a store

-- what each status says of what is asked of a store
pub over_answer : (s : Status) (asked : Asked) (told : Type 0) (cut : Option ℕ) (first : List (List ℕ)) (answer : Result (List (List ℕ)) AskError) (taken taken' : Option (List ℕ)) (before now : ℕ) (old new : StoreState)
    → AnswerSays s first answer taken taken' before now → first ≡ cut_lines cut → (told → IfOk answer (λ lines. lines ≡ lines_of asked old.list)) → (IsErrOf answer error.ReadFault → Rose old.read_faults new.read_faults)
    → (¬ IsErrOf answer error.ReadFault → counts_of new ≡ counts_of old) → StoreAnswers s asked told cut taken taken' before now old new
over_answer s asked told cut first answer taken taken' before now old new says is lines failed calm = by_status s (subst (λ (ls : List (List ℕ)). AnswerSays s ls answer taken taken' before now) is says)
  where
    wrote : (written : List ℕ → Type 0) (r : Result (List (List ℕ)) AskError) → WritesAnswer written (cut_lines cut) r → (told → IfOk r (λ lines. lines ≡ lines_of asked old.list)) → (IsErrOf r error.ReadFault → Rose old.read_faults new.read_faults)
        → (lines : List (List ℕ)) × (told → IsSaid old.list cut asked (Rose old.read_faults new.read_faults) lines) × written (joined lines)
    wrote written (Ok more) writes lines failed = (cut_lines cut ++ more, λ here. inl (ap (λ (ls : List (List ℕ)). cut_lines cut ++ ls) (lines here)), writes)
    wrote written (Err error.ReadFault) writes lines failed = (cut_lines cut ++ refused_line ∷ [], λ here. inr (failed refl, refl), writes)
    wrote written (Err error.Memory) writes lines failed = absurd writes

    starved : (r : Result (List (List ℕ)) AskError) → r ≡ Err error.Memory → ¬ IsErrOf r error.ReadFault
    starved (Ok more) memory = absurd cc
    starved (Err error.ReadFault) memory = absurd cc
    starved (Err error.Memory) memory = λ is. absurd cc

    by_status : (s : Status) → AnswerSays s (cut_lines cut) answer taken taken' before now → StoreAnswers s asked told cut taken taken' before now old new
    by_status status.Done says = wrote (Appends taken taken') answer says lines failed
    by_status status.NoMemory says = (says.0, calm (starved answer says.1))
    by_status status.SinkFault says = (says.0, wrote (AppendsPrefix taken taken') answer says.1 lines failed)
    by_status _ says = absurd says

-- nothing was asked
pub store_same : (old : StoreState) (stamps : Option (List Stamp)) → old.broken ≡ false → KeepsStore old old stamps stamps
store_same old stamps whole = record { list = refl; log = refl; whole = whole; clock = refl }

-- ---- the file

-- what is known of the file and of its store, where the volume tells
pub record IsAnswered (before after : Outside) (state state' : StoreState) (left : Option (List Stamp)) (cut : Option ℕ) : Type 0 where
  pub file : IsOpen before after state left cut
  pub keeps : KeepsStore state state' left after.stamps
  pub images : Leaves Main (λ bytes. StandsForList bytes state'.list) state'.log

module _ (asked : Asked) (told : Type 0) (before after : Outside) (state state' : StoreState) (left : Option (List Stamp)) (cut : Option ℕ) (log : after.log ≡ state'.log)
    (first_reads : state.read_faults ≡ before.read_faults) (first_writes : state.faults ≡ before.write_faults) (reads : after.read_faults ≡ state'.read_faults) (writes : after.write_faults ≡ state'.faults) where
  rose : Rose state.read_faults state'.read_faults → Rose before.read_faults after.read_faults
  rose r = subst (λ (n : ℕ). Rose before.read_faults n) (sym reads) (subst (λ (n : ℕ). Rose n state'.read_faults) first_reads r)

  said_so : (lines : List (List ℕ)) → IsSaid state.list cut asked (Rose state.read_faults state'.read_faults) lines → IsSaid state.list cut asked (Rose before.read_faults after.read_faults) lines
  said_so lines (inl is) = inl is
  said_so lines (inr failed) = inr (rose failed.0, failed.1)

  answer_so : (lines : List (List ℕ)) → IsAnswered before after state state' left cut → IsSaid state.list cut asked (Rose state.read_faults state'.read_faults) lines → IsAnswer asked before after lines
  answer_so lines is says =
      let there : Leaves Main (λ bytes. StandsForList bytes state.list) after.log =
      subst (λ (l : List Event). Leaves Main (λ bytes. StandsForList bytes state.list) l) (sym log)
      (subst (λ (list : List Transaction). Leaves Main (λ bytes. StandsForList bytes list) state'.log) is.keeps.list is.images) in
      let main : main_of after ≡ seen state.log Main = ap (λ (l : List Event). seen l Main) (log ∙ is.keeps.log) in record {
        list = state.list;
        cut = cut;
        opens = subst (λ (o : Option (List Stamp)). OpensAs (main_of before) before.stamps o state.list cut) (sym is.keeps.clock) is.file.opens;
        says = said_so lines says;
        bytes = λ some. main ∙ is.file.bytes some;
        new_file = λ empty. subst (λ (b : List ℕ). IsNewFile before.stamps b) (sym main) (is.file.new_file empty);
        main = there (main_of after) is.file.shown;
        images = there;
      }

  pub answered : (s : Status) → StoreAnswers s asked told cut before.taken after.taken before.sink_faults after.sink_faults state state' → (told → IsAnswered before after state state' left cut) → AskSays s asked told before after
  answered status.Done (lines, says, wrote) is = (lines, λ here. answer_so lines (is here) (says here), wrote)
  answered status.NoMemory (silent, calm) is =
      (silent, record { reads = reads ∙ ap (λ (c : FaultCounts). c.reads) calm ∙ first_reads; writes = writes ∙ ap (λ (c : FaultCounts). c.others) calm ∙ first_writes })
  answered status.SinkFault (failed, (lines, says, wrote)) is = (failed, (lines, λ here. answer_so lines (is here) (says here), wrote))
  answered _ says is = absurd says

-- what is left of the file, where it was opened
pub record IsLeftOpen (told : Type 0) (before : Outside) (state : StoreState) (left : Option (List Stamp)) : Type 0 where
  pub stamps : GaveAtMostOne before.stamps left
  pub kept : told → main_of before ≢ [] → left ≡ before.stamps
  pub side : told → main_of before ≢ [] → StaysAs Side before.log state.log
  pub keeps : told → KeepsMain before.log state.log
  pub makes : told → main_of before ≡ [] → MakesFile before.stamps before.log state.log

pub left_open : (told : Type 0) (before after : Outside) (state state' : StoreState) (left : Option (List Stamp)) → KeepsStore state state' left after.stamps → after.log ≡ state'.log
    → (list : List Transaction) (cut : Option ℕ) → (told → main_of before ≢ [] → OpensAs (main_of before) before.stamps left list cut) → (told → main_of before ≢ [] → seen state.log Main ≡ without_tail (main_of before) cut)
    → IsLeftOpen told before state left → IsLeft told before after
left_open told before after state state' left keeps log list cut opens bytes is = record {
  stamps = subst (λ (o : Option (List Stamp)). GaveAtMostOne before.stamps o) (sym keeps.clock) is.stamps;
  kept = λ here some. keeps.clock ∙ is.kept here some;
  bytes = λ here some. bytes_open before after left list cut (opens here some) some (ap (λ (l : List Event). seen l Main) (log ∙ keeps.log) ∙ bytes here some);
  side = λ here some. subst (λ (l : List Event). StaysAs Side before.log l) (sym (log ∙ keeps.log)) (is.side here some);
  keeps = λ here. subst (λ (l : List Event). KeepsMain before.log l) (sym (log ∙ keeps.log)) (is.keeps here);
  makes = λ here empty. subst (λ (l : List Event). MakesFile before.stamps before.log l) (sym (log ∙ keeps.log)) (is.makes here empty);
}
