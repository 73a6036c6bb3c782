-- What a script that is made says of the file.
use Rattle.std.proofs.Common.{◌≡◌, ℕ, List, [], ◌++◌, Option, Some, None, inl, inr, refl, sym, subst}
use Rattle.std.specs.Io.KnownBytes.{Appends}
use Rattle.file_store.specs.Kept.{StandsForList}
use Rattle.file_store.specs.Opening.{Harm, IsNoneOr, KeepsList, SomeRose}
use Rattle.fs_recovery.specs.Opens.{IsNoList}
use Rattle.fs_recovery.specs.declared.errors.OpenError.{OpenError}
use Rattle.fs_recovery.specs.declared.errors.OpenError.TheVariants as error
use Rattle.zb_base.specs.Counts.{Rose}
use Rattle.zb_ids.specs.declared.stamp.Stamp.{Stamp}
use Rattle.zb_model.specs.Stores.{StoreState}
use Rattle.zb_outside.specs.Written.{AppendsPrefix}
use Rattle.zb_volume.specs.declared.areas.Area.TheVariants.{Main}
use Rattle.zb_volume.specs.Disk.{IsSettled}
use Rattle.zb_volume.specs.Images.{CrashLeaves}
use Rattle.zb_volume.specs.Moments.{LeavesOnly}
use Rattle.client_turns.specs.declared.errors.TurnError.{TurnError}
use Rattle.client_turns.specs.declared.errors.TurnError.TheVariants as turn_error
use Rattle.client_turns.specs.Output.{TurnAnswer}
use Rattle.script_runs.specs.declared.status.Status.{Status}
use Rattle.script_runs.specs.declared.status.Status.TheVariants as status
use Rattle.script_runs.specs.Came.{began}
use Rattle.script_runs.specs.Made.{AllMadeOver, IsLastLine, MadeOver, MadeSays, untold}
use Rattle.script_runs.specs.Texts.{store_fault_line}
use Rattle.script_runs.specs.Written.{IsWritten}
use Rattle.zodb_top.specs.Made.{AllMade, GenSays, Made}
use Rattle.zodb_top.specs.Opened.{IsLeft, OpensAs}
use Rattle.zodb_top.specs.Outside.{Outside, main_of}
use Rattle.zodb_top.specs.Unopened.{SaysUnopened}
use Rattle.zodb_top.proofs.Files.{refused}
use Rattle.zodb_top.proofs.Volumes.{IsOpen, reached_so, unfailed}

-- the file wasn't opened
pub unopened : (s : Status) (e : OpenError) (rounds : ℕ) (told : Type 0) (before after : Outside) → SaysUnopened s e before.taken after.taken before.sink_faults after.sink_faults
    → (told → Harm (main_of before) e) → (e ≡ error.StoreFault → SomeRose before.read_faults after.read_faults before.write_faults after.write_faults)
    → (told → IsNoList (main_of before) → after.log ≡ before.log) → (¬ (e ≡ error.StoreFault) → (after.read_faults ≡ before.read_faults) × (after.write_faults ≡ before.write_faults)) → IsLeft told before after
    → GenSays s rounds told before after
unopened status.StoreFault e rounds told before after said harm rose same calm left = inl (record { rose = rose said.0; written = said.1; left = left })
unopened status.Damaged e rounds told before after (text, names, wrote) harm rose same calm left = refused e told before after text names wrote harm same left
unopened status.NoMemory e rounds told before after said harm rose same calm left = inl (said.1, left, unfailed e before after said.0 calm)
unopened _ e rounds told before after said harm rose same calm left = absurd said

-- ---- turns over the file

module _ (before : Outside) (state : StoreState) (left : Option (List Stamp)) (cut : Option ℕ) (opens : OpensAs (main_of before) before.stamps left state.list cut) (keeps : KeepsList before.log state.log)
    (makes : main_of before ≡ [] → IsSettled before.log Main → LeavesOnly Main (IsNoneOr state.list) before.log state.log) (rounds : ℕ) (after : Outside) (state' : StoreState) (whole : state.faults ≡ before.write_faults)
    (first : state.read_faults ≡ before.read_faults) (log : after.log ≡ state'.log) (reads : after.read_faults ≡ state'.read_faults) (faults : after.write_faults ≡ state'.faults) (shown : CrashLeaves after.log Main (main_of after))
    (lasts : Type 0) (lasting : lasts) where
  made_there : (text_of : List TurnAnswer → List ℕ) (broke : Option TurnError) (written : List ℕ → Type 0) → MadeOver lasts StandsForList (began state.list left before.read_faults before.write_faults) cut rounds text_of broke written state state' after.stamps
      → Made rounds text_of broke written before after
  made_there text_of broke written p = record {
    turns = p.turns;
    rest = p.rest;
    are = p.are;
    reached = reached_so before state left cut opens keeps makes p.turns text_of after state' whole first log reads faults shown lasts lasting broke written p.ran;
  }

  pub made_by : (text_of : List TurnAnswer → List ℕ) (broke : Option TurnError) (written : List ℕ → Type 0) → MadeOver lasts StandsForList (began state.list left state.read_faults state.faults) cut rounds text_of broke written state state' after.stamps
      → Made rounds text_of broke written before after
  made_by text_of broke written p =
      made_there text_of broke written
      (subst (λ (n : ℕ). MadeOver lasts StandsForList (began state.list left before.read_faults n) cut rounds text_of broke written state state' after.stamps) whole
      (subst (λ (n : ℕ). MadeOver lasts StandsForList (began state.list left n state.faults) cut rounds text_of broke written state state' after.stamps) first p))

  all_there : (written : List ℕ → Type 0) → AllMadeOver lasts StandsForList (began state.list left before.read_faults before.write_faults) cut rounds written state state' after.stamps → AllMade rounds written before after
  all_there written p = record {
    text = p.text;
    reads = p.reads;
    made = record {
      turns = p.made.turns;
      rest = p.made.rest;
      are = p.made.are;
      reached = reached_so before state left cut opens keeps makes p.made.turns (λ answers. p.text) (record after { read_faults = p.reads }) (record state' { read_faults = p.reads }) whole first log refl faults shown lasts lasting None written p.made.ran;
    };
    all = p.all;
    whole = p.whole;
    says = subst (λ (n : ℕ). IsLastLine rounds p.made.ran.came.answers p.made.ran.now.machine.list p.reads n p.text) (sym reads) p.says;
  }

  pub all_by : (written : List ℕ → Type 0) → AllMadeOver lasts StandsForList (began state.list left state.read_faults state.faults) cut rounds written state state' after.stamps → AllMade rounds written before after
  all_by written p =
      all_there written
      (subst (λ (n : ℕ). AllMadeOver lasts StandsForList (began state.list left before.read_faults n) cut rounds written state state' after.stamps) whole
      (subst (λ (n : ℕ). AllMadeOver lasts StandsForList (began state.list left n state.faults) cut rounds written state state' after.stamps) first p))

pub made_file : (s : Status) (told : Type 0) (rounds : ℕ) (before after : Outside) (state state' : StoreState) (left : Option (List Stamp)) (cut : Option ℕ) → (told → IsOpen before after state left cut)
    → state.faults ≡ before.write_faults → state.read_faults ≡ before.read_faults → after.log ≡ state'.log → after.read_faults ≡ state'.read_faults → after.write_faults ≡ state'.faults
    → MadeSays s told told StandsForList (began state.list left state.read_faults state.faults) cut rounds before.taken after.taken before.sink_faults after.sink_faults state state' after.stamps
    → GenSays s rounds told before after
made_file status.Done told rounds before after state state' left cut is whole first log reads faults says =
    λ here. let o = is here in all_by before state left cut o.opens o.keeps o.makes rounds after state' whole first log reads faults o.shown told here (Appends before.taken after.taken) (says here)
made_file status.NoMemory told rounds before after state state' left cut is whole first log reads faults says =
    inr (λ here. let o = is here in elim (says here) [
      | inl p ↦ inl (made_by before state left cut o.opens o.keeps o.makes rounds after state' whole first log reads faults o.shown told here untold None (AppendsPrefix before.taken after.taken) p)
      | inr p ↦ inr (made_by before state left cut o.opens o.keeps o.makes rounds after state' whole first log reads faults o.shown told here untold (Some turn_error.Memory) (AppendsPrefix before.taken after.taken) p)
    ])
made_file status.SinkFault told rounds before after state state' left cut is whole first log reads faults says = (
  says.0,
  λ here. let o = is here in elim (says.1 here) [
    | inl p ↦ inl (made_by before state left cut o.opens o.keeps o.makes rounds after state' whole first log reads faults o.shown told here untold None (AppendsPrefix before.taken after.taken) p)
    | inr p ↦ inr (all_by before state left cut o.opens o.keeps o.makes rounds after state' whole first log reads faults o.shown told here (AppendsPrefix before.taken after.taken) p)
  ],
)
made_file status.StoreFault told rounds before after state state' left cut is whole first log reads faults says =
    inr (
      rw faults (subst (λ (n : ℕ). Rose n state'.faults) whole says.0),
      λ here. let o = is here in made_by before state left cut o.opens o.keeps o.makes rounds after state' whole first log reads faults o.shown told here untold (Some turn_error.StoreFault)
          (λ text. IsWritten before.taken after.taken before.sink_faults after.sink_faults (text ++ store_fault_line)) (says.1 here),
    )
made_file _ told rounds before after state state' left cut is whole first log reads faults says = absurd says
