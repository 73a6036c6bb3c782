-- A run over a store.
use Rattle.std.proofs.Common.{◌≡◌, ℕ, ◌≤◌, false, List, [], ◌∷◌, ◌++◌, Option, Some, None, inl, inr, append-nil, refl, sym, ap, subst, ◌∙◌}
use Rattle.std.specs.Io.KnownBytes.{Appends}
use Rattle.std.proofs.KnownBytes.{Appends-trans}
use Rattle.zb_base.specs.Counts.{Rose, rose_after, rose_before}
use Rattle.zb_ids.specs.declared.stamp.Stamp.{Stamp}
use Rattle.zb_model.specs.declared.data.Transaction.{Transaction}
use Rattle.zb_model.specs.Stores.{StoreState}
use Rattle.zb_outside.specs.Written.{AppendsPrefix}
use Rattle.zb_outside.specs.WrittenLaws.{no_front}
use Rattle.zb_script.specs.declared.line.Turn.{Turn}
use Rattle.zb_volume.specs.declared.areas.Area.TheVariants.{Main}
use Rattle.zb_volume.specs.Moments.{Leaves, LeavesOnly, here}
use Rattle.zodb_core.specs.HubState.{counts_of}
use Rattle.client_turns.specs.declared.errors.TurnError.TheVariants as turn_error
use Rattle.client_turns.specs.Clients.{Moment}
use Rattle.client_turns.specs.Output.{FlaggedTurn, TurnAnswer, flagged}
use Rattle.client_turns.specs.Standing.{ClientsState, StandsForMoment}
use Rattle.script_runs.specs.declared.replying.RunError.{RunError}
use Rattle.script_runs.specs.declared.replying.RunError.TheVariants as errors
use Rattle.script_runs.specs.declared.status.Status.{Status}
use Rattle.side_by_side.specs.Runs.{IsOfRun, stock}
use Rattle.script_runs.specs.Came.{BreaksOff, Came, IsMainBy, IsOfCame, answers_text, began}
use Rattle.script_runs.specs.Running.{RanAllOver, RanOver, RunsOn, SaysStopped, Stops, StoreSays, broke_of}
use Rattle.script_runs.specs.Texts.{cut_lines, joined, store_fault_line}
use Rattle.script_runs.specs.Written.{IsWritten}
use Rattle.side_by_side.specs.RunLaws.{next_kept}
use Rattle.script_runs.specs.PrefixLaws.{behind_prefix, prefix_before}
use Rattle.script_runs.specs.Turning.{broken_keeps, out_failed}

-- ---- texts

pub then_written : (a b c : Option (List ℕ)) (before now : ℕ) (known rest : List ℕ) → Appends a b known → IsWritten b c before now rest → IsWritten a c before now (known ++ rest)
then_written a b c before now known rest first wrote = record {
  prefix = behind_prefix a b c known rest first wrote.prefix;
  whole = λ calm. Appends-trans a b c known rest first (wrote.whole calm);
}

-- the count of the sink's faults may have risen before
pub sooner : (a b : Option (List ℕ)) (before mid now : ℕ) (text : List ℕ) → before ≤ mid → IsWritten a b mid now text → IsWritten a b before now text
sooner a b before mid now text le wrote = record { prefix = wrote.prefix; whole = λ calm. wrote.whole (λ rose. calm (rose_after before mid now le rose)) }

-- ---- how far turns came

broken_off : (behind : Moment) (later : List FlaggedTurn) (now : Moment) → BreaksOff behind later (Some turn_error.Memory) now → now.machine.failed ≡ behind.machine.failed
broken_off behind [] now ends = absurd ends
broken_off behind (t ∷ later) now ends = broken_keeps stock behind t.turn t.is_last now ends

-- the store hasn't failed, unless it did in the turn that broke off
pub whole_none : (m : Moment) (turns : List FlaggedTurn) (now : Moment) → m.machine.failed ≡ false → (c : Came m turns None now) → now.machine.failed ≡ false
whole_none m turns now whole c = ap (λ (x : Moment). x.machine.failed) c.ends ∙ out_failed stock m c.taken c.answers c.behind c.answered ∙ whole

pub whole_memory : (m : Moment) (turns : List FlaggedTurn) (now : Moment) → m.machine.failed ≡ false → (c : Came m turns (Some turn_error.Memory) now) → now.machine.failed ≡ false
whole_memory m turns now whole c = broken_off c.behind c.later now c.ends ∙ out_failed stock m c.taken c.answers c.behind c.answered ∙ whole

-- ---- nothing was run

module _ (lasts : Type 0) (stands : List ℕ → List Transaction → Type 0) where
  abbrev pub ran_nothing : (state : StoreState) (left : Option (List Stamp)) (cut : Option ℕ) (turns : List FlaggedTurn) (text_of : List TurnAnswer → List ℕ) (written : List ℕ → Type 0) → (lasts → Leaves Main (λ bytes. stands bytes state.list) state.log)
      → written (joined (cut_lines cut) ++ text_of []) → RanOver lasts stands (began state.list left state.read_faults state.faults) cut turns text_of None written state state left
  ran_nothing state left cut turns text_of written lasting text =
      let m = began state.list left state.read_faults state.faults in record {
        now = m;
        came = record { taken = []; later = turns; parts = refl; answers = []; behind = m; answered = refl; ends = refl };
        text = text;
        stamps = refl;
        counts = refl;
        images = lasting;
        moments = λ known. here (λ image left. record {
          given = [];
          more = [];
          parts = refl;
          came = record { front = []; rest = []; parts = refl; at = m; before = refl; after = refl };
          list = next_kept stands m turns image (lasting known image left);
        });
      }

  -- no memory for a line, or the sink took a prefix of it
  pub nothing_written : (state : StoreState) (left : Option (List Stamp)) (cut : Option ℕ) (turns : List Turn) (taken : Option (List ℕ)) → (lasts → Leaves Main (λ bytes. stands bytes state.list) state.log)
      → RanOver lasts stands (began state.list left state.read_faults state.faults) cut (flagged turns) answers_text None (AppendsPrefix taken taken) state state left
  nothing_written state left cut turns taken lasting = ran_nothing state left cut (flagged turns) answers_text (AppendsPrefix taken taken) lasting (no_front taken _)

  pub cut_prefix : (state : StoreState) (left : Option (List Stamp)) (cut : Option ℕ) (turns : List Turn) (taken taken' : Option (List ℕ)) (lines : List (List ℕ)) → lines ≡ cut_lines cut → AppendsPrefix taken taken' (joined lines)
      → (lasts → Leaves Main (λ bytes. stands bytes state.list) state.log) → RanOver lasts stands (began state.list left state.read_faults state.faults) cut (flagged turns) answers_text None (AppendsPrefix taken taken') state state left
  cut_prefix state left cut turns taken taken' lines is wrote lasting =
      ran_nothing state left cut (flagged turns) answers_text (AppendsPrefix taken taken') lasting (prefix_before taken taken' (joined (cut_lines cut)) [] (subst (λ (ls : List (List ℕ)). AppendsPrefix taken taken' (joined ls)) is wrote))

  -- ---- turns were taken

  module _ {R F : Type 0} (m : Moment) (cut : Option ℕ) (turns : List Turn) (taken mid new : Option (List ℕ)) (old state : StoreState) (clients : ClientsState R F) (left : Option (List Stamp))
      (first : Appends taken mid (joined (cut_lines cut))) (kept : state ≡ clients.hub.store) (lasting : lasts → state.broken ≡ false → Leaves Main (λ bytes. stands bytes state.list) state.log) where
    counts_so : (now : Moment) → StandsForMoment clients left now → counts_of state ≡ now.counts
    counts_so now is = ap counts_of kept ∙ sym is.counts

    -- the images, where the store hasn't failed
    images_so : (now : Moment) → StandsForMoment clients left now → now.machine.failed ≡ false → lasts → Leaves Main (λ bytes. stands bytes now.machine.list) state.log
    images_so now is whole known image left =
        let sound : state.broken ≡ false = ap (λ (s : StoreState). s.broken) kept ∙ sym is.hub.failed ∙ whole in
        let list : state.list ≡ now.machine.list = ap (λ (s : StoreState). s.list) kept ∙ sym (is.hub.list (sym is.hub.failed ∙ whole)) in
        subst (λ (l : List Transaction). stands image l) list (lasting known sound image left)

    moments_so : (may : List ℕ → Type 0) → LeavesOnly Main may old.log clients.hub.store.log → LeavesOnly Main may old.log state.log
    moments_so may moments = subst (λ (s : StoreState). LeavesOnly Main may old.log s.log) (sym kept) moments

    pub ran_all : RunsOn lasts stands m (flagged turns) [] mid new old.log clients left → RanAllOver lasts stands m cut (flagged turns) answers_text (Appends taken new) old state left
    ran_all runs = record {
      ran = record {
        now = runs.now;
        came = record { taken = flagged turns; later = []; parts = sym (append-nil (flagged turns)); answers = runs.answers; behind = runs.now; answered = runs.answered; ends = refl };
        text = Appends-trans taken mid new (joined (cut_lines cut)) (answers_text runs.answers) first runs.text;
        stamps = sym runs.stands_for.stamps;
        counts = counts_so runs.now runs.stands_for;
        images = images_so runs.now runs.stands_for runs.whole;
        moments = λ known. moments_so (IsOfRun stands m (flagged turns) [] runs.answers runs.now) (runs.moments known);
      };
      all = refl;
    }

    ran_none : m.machine.failed ≡ false → Stops lasts stands None m turns mid new old.log clients left → RanOver lasts stands m cut (flagged turns) answers_text None (AppendsPrefix taken new) old state left
    ran_none whole s = record {
      now = s.now;
      came = s.came;
      text = behind_prefix taken mid new (joined (cut_lines cut)) (answers_text s.came.answers) first s.text;
      stamps = sym s.stands_for.stamps;
      counts = counts_so s.now s.stands_for;
      images = images_so s.now s.stands_for (whole_none m (flagged turns) s.now whole s.came);
      moments = λ known. moments_so (IsOfCame stands s.came) (s.moments known);
    }

    ran_starved : m.machine.failed ≡ false → Stops lasts stands (Some turn_error.Memory) m turns mid new old.log clients left → RanOver lasts stands m cut (flagged turns) answers_text (Some turn_error.Memory) (AppendsPrefix taken new) old state left
    ran_starved whole s = record {
      now = s.now;
      came = s.came;
      text = behind_prefix taken mid new (joined (cut_lines cut)) (answers_text s.came.answers) first s.text;
      stamps = sym s.stands_for.stamps;
      counts = counts_so s.now s.stands_for;
      images = images_so s.now s.stands_for (whole_memory m (flagged turns) s.now whole s.came);
      moments = λ known. moments_so (IsOfCame stands s.came) (s.moments known);
    }

    ran_faulted : (written : List ℕ → Type 0) → ((text : List ℕ) → Appends taken new text → written text) → Stops lasts stands (Some turn_error.StoreFault) m turns mid new old.log clients left
        → RanOver lasts stands m cut (flagged turns) answers_text (Some turn_error.StoreFault) written old state left
    ran_faulted written says s = record {
      now = s.now;
      came = s.came;
      text = says _ (Appends-trans taken mid new (joined (cut_lines cut)) (answers_text s.came.answers) first s.text);
      stamps = sym s.stands_for.stamps;
      counts = counts_so s.now s.stands_for;
      images = λ known. subst (λ (x : StoreState). Leaves Main (IsMainBy stands (Some turn_error.StoreFault) s.came.behind s.came.later s.now) x.log) (sym kept) (s.around refl known);
      moments = λ known. moments_so (IsOfCame stands s.came) (s.moments known);
    }

    pub stopped : (e : RunError) (s : Status) (told : Type 0) (taken' : Option (List ℕ)) (before between now : ℕ) → SaysStopped e s new taken' between now → before ≤ between → between ≤ now
        → (e ≡ errors.SinkFault → Rose before between) → (e ≡ errors.Turn turn_error.StoreFault → Rose old.faults state.faults)
        → m.machine.failed ≡ false → (told → Stops lasts stands (broke_of e) m turns mid new old.log clients left)
        → StoreSays s told lasts stands m cut turns taken taken' before now old state left
    stopped (errors.Turn turn_error.Memory) s told taken' before between now said le le' sink store whole stops =
        rw (said.0, said.1) (λ known. inr (ran_starved whole (stops known)))
    stopped errors.Memory s told taken' before between now said le le' sink store whole stops =
        rw (said.0, said.1) (λ known. inl (ran_none whole (stops known)))
    stopped errors.SinkFault s told taken' before between now said le le' sink store whole stops =
        rw (said.0, said.1) (rose_before before between now (sink refl) le', λ known. ran_none whole (stops known))
    stopped (errors.Turn turn_error.StoreFault) s told taken' before between now said le le' sink store whole stops =
        rw said.0 (
          store refl,
          λ known. ran_faulted (λ text. IsWritten taken taken' before now (text ++ store_fault_line))
              (λ text wrote. then_written taken new taken' before now text store_fault_line wrote (sooner new taken' before between now store_fault_line le said.1)) (stops known),
        )
