-- What a run over a store on the file says of the file.
use Rattle.std.proofs.Common.{◌≡◌, ◌≢◌, ℕ, List, [], ◌++◌, Option, Some, None, inl, inr, refl, sym, ap, subst, ◌∙◌}
use Rattle.std.specs.Io.KnownBytes.{Appends}
use Rattle.file_store.specs.Kept.{StandsForList}
use Rattle.file_store.specs.Opening.{Harm, IsNewFile, IsUnlessWritten, KeepsList, SomeRose, without_tail, IsNoneOr}
use Rattle.fs_recovery.specs.Opens.{IsNoList}
use Rattle.fs_recovery.specs.declared.errors.OpenError.{OpenError}
use Rattle.fs_recovery.specs.declared.errors.OpenError.TheVariants as error
use Rattle.zb_base.specs.Counts.{Rose}
use Rattle.zb_ids.specs.declared.stamp.Stamp.{Stamp}
use Rattle.zb_model.specs.declared.data.Transaction.{Transaction}
use Rattle.zb_model.specs.Stores.{StoreState}
use Rattle.zb_outside.specs.Written.{AppendsPrefix}
use Rattle.zb_script.specs.declared.line.Turn.{Turn}
use Rattle.zb_script.specs.Shape.{openers}
use Rattle.zb_volume.specs.declared.areas.Area.TheVariants.{Main}
use Rattle.zb_volume.specs.Calls.{Event}
use Rattle.zb_volume.specs.Disk.{seen, IsSettled}
use Rattle.zb_volume.specs.Images.{CrashLeaves}
use Rattle.zb_volume.specs.Moments.{Leaves, LeavesOnly}
use Rattle.zb_volume.specs.Runs.{joined as along_joined, leaves_less}
use Rattle.zodb_core.specs.Outcomes.{FaultCounts}
use Rattle.client_turns.specs.declared.errors.TurnError.{TurnError}
use Rattle.client_turns.specs.declared.errors.TurnError.TheVariants as turn_error
use Rattle.client_turns.specs.Clients.{Moment}
use Rattle.client_turns.specs.TurnLaws.{first_ahead}
use Rattle.client_turns.specs.Output.{FlaggedTurn, TurnAnswer, flagged}
use Rattle.script_runs.specs.declared.manner.Manner.{Manner}
use Rattle.script_runs.specs.declared.manner.Manner.TheVariants.{InTurn, SideBySide}
use Rattle.script_runs.specs.declared.status.Status.{Status}
use Rattle.script_runs.specs.declared.status.Status.TheVariants as status
use Rattle.side_by_side.specs.Runs.{stock}
use Rattle.script_runs.specs.Came.{Came, IsOfCame, answers_text, began}
use Rattle.zodb_top.specs.Came.{IsCalm, IsMainOf, IsOfCameOrEmpty, Reached}
use Rattle.zodb_top.specs.Opened.{IsLeft, IsUnfailed, KeepsBytes, OpensAs, bytes_cut, bytes_failed, bytes_same, made, there}
use Rattle.zodb_top.specs.Outside.{Outside, main_of}
use Rattle.zodb_top.specs.Played.{AllPlayed, Played}
use Rattle.script_runs.specs.Played.{no_text, played_text}
use Rattle.script_runs.specs.Running.{AllPlayedOver, PlaySays, PlayedOver, RanAllOver, RanOver, StoreSays, TakenSays}
use Rattle.zodb_top.specs.Running.{FileSays}
use Rattle.script_runs.specs.Texts.{store_fault_line}
use Rattle.zodb_top.specs.Unopened.{SaysUnopened}
use Rattle.script_runs.specs.Written.{IsWritten}
use Rattle.zodb_top.proofs.Files.{refused}
use Rattle.side_by_side.specs.RunLaws.{next_kept}
use Rattle.zodb_top.proofs.Nexts.{counts_left}
use Rattle.script_runs.specs.Turning.{out_committed}

-- where it isn't for a fault that the file isn't open, no call has failed
pub unfailed : (e : OpenError) (before after : Outside) → ¬ (e ≡ error.StoreFault) → (¬ (e ≡ error.StoreFault) → (after.read_faults ≡ before.read_faults) × (after.write_faults ≡ before.write_faults)) → IsUnfailed before after
unfailed e before after other calm = let both = calm other in record { reads = both.0; writes = both.1 }

-- what is left of Main's bytes, where it isn't opened
pub bytes_unless : (before after : Outside) → IsUnlessWritten before.log after.log before.write_faults after.write_faults → KeepsBytes before after
bytes_unless before after (inl is) = bytes_same (ap (λ (l : List Event). seen l Main) is)
bytes_unless before after (inr rose) = bytes_failed rose

-- and where it is
pub bytes_open : (before after : Outside) (left : Option (List Stamp)) (list : List Transaction) (cut : Option ℕ) → OpensAs (main_of before) before.stamps left list cut → main_of before ≢ [] → main_of after ≡ without_tail (main_of before) cut → KeepsBytes before after
bytes_open before after left list None opens some is = bytes_same is
bytes_open before after left list (Some at) (there whole stands kept) some is = bytes_cut list at stands is
bytes_open before after left list (Some at) (made empty is_made given) some is = absurd (some empty)

-- the file wasn't opened
pub unopened : (manner : Manner) (s : Status) (e : OpenError) (told : Type 0) (turns : List Turn) (before after : Outside) → SaysUnopened s e before.taken after.taken before.sink_faults after.sink_faults
    → (told → Harm (main_of before) e) → (e ≡ error.StoreFault → SomeRose before.read_faults after.read_faults before.write_faults after.write_faults)
    → (told → IsNoList (main_of before) → after.log ≡ before.log) → (¬ (e ≡ error.StoreFault) → (after.read_faults ≡ before.read_faults) × (after.write_faults ≡ before.write_faults)) → IsLeft told before after
    → FileSays manner s told turns before after
unopened manner status.StoreFault e told turns before after said harm rose same calm left = inl (record { rose = rose said.0; written = said.1; left = left })
unopened manner status.Damaged e told turns before after (text, names, wrote) harm rose same calm left = refused e told before after text names wrote harm same left
unopened manner status.NoMemory e told turns before after said harm rose same calm left = inl (said.1, left, unfailed e before after said.0 calm)
unopened manner _ e told turns before after said harm rose same calm left = absurd said

-- what there is of Main while it is opened, before the first turn
module _ (before : Outside) (state : StoreState) (left : Option (List Stamp)) (cut : Option ℕ) (opens : OpensAs (main_of before) before.stamps left state.list cut)
    (keeps : KeepsList before.log state.log) (makes : main_of before ≡ [] → IsSettled before.log Main → LeavesOnly Main (IsNoneOr state.list) before.log state.log) where
  -- a run over the list that was opened
  module _ {turns : List FlaggedTurn} {broke : Option TurnError} {now : Moment} (c : Came (began state.list left before.read_faults before.write_faults) turns broke now) where
    of_start : (bytes : List ℕ) → StandsForList bytes state.list → IsOfCame StandsForList c bytes
    of_start bytes is =
        let m = began state.list left before.read_faults before.write_faults in record {
          given = [];
          more = c.answers;
          parts = refl;
          came = record { front = []; rest = c.taken; parts = refl; at = m; before = refl; after = c.answered };
          list = next_kept StandsForList m (c.taken ++ c.later) bytes is;
        }

    made_so : main_of before ≡ [] → IsCalm before → LeavesOnly Main (IsOfCameOrEmpty (main_of before) c) before.log state.log
    made_so empty calm =
        leaves_less Main (IsNoneOr state.list) (IsOfCameOrEmpty (main_of before) c) before.log state.log
        (λ bytes either. elim either [
          | inl none ↦ inr (empty, none)
          | inr new ↦ inl (of_start bytes new)
        ])
        (makes empty calm)

    pub opening_moments : IsCalm before → LeavesOnly Main (IsOfCameOrEmpty (main_of before) c) before.log state.log
    opening_moments calm = by_opening opens
      where
        by_opening : OpensAs (main_of before) before.stamps left state.list cut → LeavesOnly Main (IsOfCameOrEmpty (main_of before) c) before.log state.log
        by_opening (there some stands same) =
            leaves_less Main (λ bytes. StandsForList bytes state.list) (IsOfCameOrEmpty (main_of before) c) before.log state.log
            (λ bytes is. inl (of_start bytes is)) (keeps state.list cut some stands calm)
        by_opening (made empty is given) = made_so empty calm

  -- ---- turns over the file

  module _ (turns : List FlaggedTurn) (text_of : List TurnAnswer → List ℕ) (after : Outside) (state' : StoreState) (whole : state.faults ≡ before.write_faults) (first : state.read_faults ≡ before.read_faults)
      (log : after.log ≡ state'.log) (reads : after.read_faults ≡ state'.read_faults) (faults : after.write_faults ≡ state'.faults)
      (shown : CrashLeaves after.log Main (main_of after)) (lasts : Type 0) (lasting : lasts) where
    abbrev pub reached_so : (broke : Option TurnError) (written : List ℕ → Type 0) → RanOver lasts StandsForList (began state.list left before.read_faults before.write_faults) cut turns text_of broke written state state' after.stamps
        → Reached turns text_of broke written before after
    reached_so broke written ran =
        let images : Leaves Main (IsMainOf broke ran.came.behind ran.came.later ran.now) after.log = subst (λ (l : List Event). Leaves Main (IsMainOf broke ran.came.behind ran.came.later ran.now) l) (sym log) (ran.images lasting) in
        let reads_left : after.read_faults ≡ ran.now.counts.reads = reads ∙ ap (λ (c : FaultCounts). c.reads) ran.counts in
        let faults_left : after.write_faults ≡ ran.now.counts.others = faults ∙ ap (λ (c : FaultCounts). c.others) ran.counts in record {
          list = state.list;
          cut = cut;
          stamps = left;
          opens = opens;
          now = ran.now;
          came = ran.came;
          text = ran.text;
          stamps_left = ran.stamps;
          reads_left = reads_left;
          faults_left = faults_left;
          counts = counts_left (began state.list left before.read_faults before.write_faults) turns broke ran.now ran.came before after reads_left faults_left refl;
          main = images (main_of after) shown;
          images = images;
          acknowledged = out_committed stock (began state.list left before.read_faults before.write_faults) ran.came.taken ran.came.answers ran.came.behind
              (first_ahead state.list left (record { reads = before.read_faults; others = before.write_faults })) ran.came.answered;
          moments = λ calm.
              subst (λ (l : List Event). LeavesOnly Main (IsOfCameOrEmpty (main_of before) ran.came) before.log l) (sym log)
              (along_joined (Leaves Main (IsOfCameOrEmpty (main_of before) ran.came)) before.log state.log state'.log (opening_moments ran.came calm)
              (leaves_less Main (IsOfCame StandsForList ran.came) (IsOfCameOrEmpty (main_of before) ran.came) state.log state'.log (λ bytes is. inl is) (ran.moments lasting)));
        }

    pub reached : (broke : Option TurnError) (written : List ℕ → Type 0) → RanOver lasts StandsForList (began state.list left state.read_faults state.faults) cut turns text_of broke written state state' after.stamps
        → Reached turns text_of broke written before after
    reached broke written ran =
        reached_so broke written
        (subst (λ (n : ℕ). RanOver lasts StandsForList (began state.list left before.read_faults n) cut turns text_of broke written state state' after.stamps) whole
        (subst (λ (n : ℕ). RanOver lasts StandsForList (began state.list left n state.faults) cut turns text_of broke written state state' after.stamps) first ran))

    whole_so : (written : List ℕ → Type 0) → RanAllOver lasts StandsForList (began state.list left before.read_faults before.write_faults) cut turns text_of written state state' after.stamps
        → (r : Reached turns text_of None written before after) × (r.came.later ≡ [])
    whole_so written ran = (reached_so None written ran.ran, ran.all)

    pub reached_whole : (written : List ℕ → Type 0) → RanAllOver lasts StandsForList (began state.list left state.read_faults state.faults) cut turns text_of written state state' after.stamps
        → (r : Reached turns text_of None written before after) × (r.came.later ≡ [])
    reached_whole written ran =
        whole_so written
        (subst (λ (n : ℕ). RanAllOver lasts StandsForList (began state.list left before.read_faults n) cut turns text_of written state state' after.stamps) whole
        (subst (λ (n : ℕ). RanAllOver lasts StandsForList (began state.list left n state.faults) cut turns text_of written state state' after.stamps) first ran))

  -- ---- clients side by side over the file

  module _ (turns : List Turn) (text : List ℕ → List TurnAnswer → List ℕ) (after : Outside) (state' : StoreState) (whole : state.faults ≡ before.write_faults) (first : state.read_faults ≡ before.read_faults)
      (log : after.log ≡ state'.log) (reads : after.read_faults ≡ state'.read_faults) (faults : after.write_faults ≡ state'.faults)
      (shown : CrashLeaves after.log Main (main_of after)) (lasts : Type 0) (lasting : lasts) where
    abbrev played_there : (broke : Option TurnError) (written : List ℕ → Type 0) → PlayedOver lasts StandsForList (began state.list left before.read_faults before.write_faults) cut turns text broke written state state' after.stamps
        → Played turns text broke written before after
    played_there broke written p = record {
      order = p.order;
      lines = p.lines;
      rest = p.rest;
      is = p.is;
      reached = reached_so p.lines (text p.order) after state' whole first log reads faults shown lasts lasting broke written p.ran;
      served = p.served;
    }

    pub played_by : (broke : Option TurnError) (written : List ℕ → Type 0) → PlayedOver lasts StandsForList (began state.list left state.read_faults state.faults) cut turns text broke written state state' after.stamps
        → Played turns text broke written before after
    played_by broke written p =
        played_there broke written
        (subst (λ (n : ℕ). PlayedOver lasts StandsForList (began state.list left before.read_faults n) cut turns text broke written state state' after.stamps) whole
        (subst (λ (n : ℕ). PlayedOver lasts StandsForList (began state.list left n state.faults) cut turns text broke written state state' after.stamps) first p))

  module _ (turns : List Turn) (after : Outside) (state' : StoreState) (whole : state.faults ≡ before.write_faults) (first : state.read_faults ≡ before.read_faults)
      (log : after.log ≡ state'.log) (reads : after.read_faults ≡ state'.read_faults) (faults : after.write_faults ≡ state'.faults)
      (shown : CrashLeaves after.log Main (main_of after)) (lasts : Type 0) (lasting : lasts) where
    all_there : (written : List ℕ → Type 0) → AllPlayedOver lasts StandsForList (began state.list left before.read_faults before.write_faults) cut turns written state state' after.stamps → AllPlayed turns written before after
    all_there written p = record {
      played = played_there turns (played_text (openers turns)) after state' whole first log reads faults shown lasts lasting None written p.played;
      all = p.all;
      done = p.done;
    }

    pub all_played_by : (written : List ℕ → Type 0) → AllPlayedOver lasts StandsForList (began state.list left state.read_faults state.faults) cut turns written state state' after.stamps → AllPlayed turns written before after
    all_played_by written p =
        all_there written
        (subst (λ (n : ℕ). AllPlayedOver lasts StandsForList (began state.list left before.read_faults n) cut turns written state state' after.stamps) whole
        (subst (λ (n : ℕ). AllPlayedOver lasts StandsForList (began state.list left n state.faults) cut turns written state state' after.stamps) first p))

-- what is known of the file where the volume tells
pub record IsOpen (before after : Outside) (state : StoreState) (left : Option (List Stamp)) (cut : Option ℕ) : Type 0 where
  pub opens : OpensAs (main_of before) before.stamps left state.list cut
  pub keeps : KeepsList before.log state.log
  pub makes : main_of before ≡ [] → IsSettled before.log Main → LeavesOnly Main (IsNoneOr state.list) before.log state.log
  pub shown : CrashLeaves after.log Main (main_of after)
  pub bytes : main_of before ≢ [] → seen state.log Main ≡ without_tail (main_of before) cut
  pub new_file : main_of before ≡ [] → IsNewFile before.stamps (seen state.log Main)

pub over_file : (s : Status) (told : Type 0) (turns : List Turn) (before after : Outside) (state state' : StoreState) (left : Option (List Stamp)) (cut : Option ℕ) → (told → IsOpen before after state left cut)
    → state.faults ≡ before.write_faults → state.read_faults ≡ before.read_faults → after.log ≡ state'.log → after.read_faults ≡ state'.read_faults → after.write_faults ≡ state'.faults
    → StoreSays s told told StandsForList (began state.list left state.read_faults state.faults) cut turns before.taken after.taken before.sink_faults after.sink_faults state state' after.stamps
    → FileSays InTurn s told turns before after
over_file status.Done told turns before after state state' left cut is whole first log reads faults says =
    λ here.
    let o = is here in
    let r = reached_whole before state left cut o.opens o.keeps o.makes (flagged turns) answers_text after state' whole first log reads faults o.shown told here (Appends before.taken after.taken) (says here) in
    record { reached = r.0; all = r.1 }
over_file status.NoMemory told turns before after state state' left cut is whole first log reads faults says =
    inr (λ here. let o = is here in elim (says here) [
      | inl ran ↦ inl (reached before state left cut o.opens o.keeps o.makes (flagged turns) answers_text after state' whole first log reads faults o.shown told here None (AppendsPrefix before.taken after.taken) ran)
      | inr ran ↦ inr (reached before state left cut o.opens o.keeps o.makes (flagged turns) answers_text after state' whole first log reads faults o.shown told here (Some turn_error.Memory) (AppendsPrefix before.taken after.taken) ran)
    ])
over_file status.SinkFault told turns before after state state' left cut is whole first log reads faults says =
    (says.0, λ here. let o = is here in reached before state left cut o.opens o.keeps o.makes (flagged turns) answers_text after state' whole first log reads faults o.shown told here None (AppendsPrefix before.taken after.taken) (says.1 here))
over_file status.StoreFault told turns before after state state' left cut is whole first log reads faults says =
    inr (
      rw faults (subst (λ (n : ℕ). Rose n state'.faults) whole says.0),
      λ here. let o = is here in reached before state left cut o.opens o.keeps o.makes (flagged turns) answers_text after state' whole first log reads faults o.shown told here (Some turn_error.StoreFault)
          (λ text. IsWritten before.taken after.taken before.sink_faults after.sink_faults (text ++ store_fault_line)) (says.1 here),
    )
over_file _ told turns before after state state' left cut is whole first log reads faults says = absurd says

-- the same of clients side by side
pub over_file_played : (s : Status) (told : Type 0) (turns : List Turn) (before after : Outside) (state state' : StoreState) (left : Option (List Stamp)) (cut : Option ℕ) → (told → IsOpen before after state left cut)
    → state.faults ≡ before.write_faults → state.read_faults ≡ before.read_faults → after.log ≡ state'.log → after.read_faults ≡ state'.read_faults → after.write_faults ≡ state'.faults
    → PlaySays s told told StandsForList (began state.list left state.read_faults state.faults) cut turns before.taken after.taken before.sink_faults after.sink_faults state state' after.stamps
    → FileSays SideBySide s told turns before after
over_file_played status.Done told turns before after state state' left cut is whole first log reads faults says =
    λ here. let o = is here in all_played_by before state left cut o.opens o.keeps o.makes turns after state' whole first log reads faults o.shown told here (Appends before.taken after.taken) (says here)
over_file_played status.NoMemory told turns before after state state' left cut is whole first log reads faults says =
    inr (λ here. let o = is here in elim (says here) [
      | inl p ↦ inl (played_by before state left cut o.opens o.keeps o.makes turns no_text after state' whole first log reads faults o.shown told here None (λ text. after.taken ≡ before.taken) p)
      | inr p ↦ inr (played_by before state left cut o.opens o.keeps o.makes turns no_text after state' whole first log reads faults o.shown told here (Some turn_error.Memory) (λ text. after.taken ≡ before.taken) p)
    ])
over_file_played status.SinkFault told turns before after state state' left cut is whole first log reads faults says =
    (says.0, λ here. let o = is here in all_played_by before state left cut o.opens o.keeps o.makes turns after state' whole first log reads faults o.shown told here (AppendsPrefix before.taken after.taken) (says.1 here))
over_file_played status.StoreFault told turns before after state state' left cut is whole first log reads faults says =
    inr (
      rw faults (subst (λ (n : ℕ). Rose n state'.faults) whole says.0),
      λ here. let o = is here in played_by before state left cut o.opens o.keeps o.makes turns no_text after state' whole first log reads faults o.shown told here (Some turn_error.StoreFault)
          (λ text. IsWritten before.taken after.taken before.sink_faults after.sink_faults (text ++ store_fault_line)) (says.1 here),
    )
over_file_played _ told turns before after state state' left cut is whole first log reads faults says = absurd says

-- and in either manner
pub over_file_in : (manner : Manner) (s : Status) (told : Type 0) (turns : List Turn) (before after : Outside) (state state' : StoreState) (left : Option (List Stamp)) (cut : Option ℕ) → (told → IsOpen before after state left cut)
    → state.faults ≡ before.write_faults → state.read_faults ≡ before.read_faults → after.log ≡ state'.log → after.read_faults ≡ state'.read_faults → after.write_faults ≡ state'.faults
    → TakenSays manner s told told StandsForList (began state.list left state.read_faults state.faults) cut turns before.taken after.taken before.sink_faults after.sink_faults state state' after.stamps
    → FileSays manner s told turns before after
over_file_in InTurn s told turns before after state state' left cut is whole first log reads faults says = over_file s told turns before after state state' left cut is whole first log reads faults says
over_file_in SideBySide s told turns before after state state' left cut is whole first log reads faults says = over_file_played s told turns before after state state' left cut is whole first log reads faults says
