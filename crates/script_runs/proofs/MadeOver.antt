-- A script that is made, over a store.
use Rattle.std.proofs.Common.{◌≡◌, ℕ, ◌≤◌, false, List, [], ◌++◌, Option, Some, None, inl, inr, append-nil, length, refl, sym, ap, subst, ◌∙◌}
use Rattle.std.specs.FinSet.{len}
use Rattle.std.specs.Io.KnownBytes.{Appends}
use Rattle.std.proofs.KnownBytes.{Appends-trans}
use Rattle.zb_base.specs.Counts.{Rose, rose_after}
use Rattle.zb_ids.specs.declared.stamp.Stamp.{Stamp}
use Rattle.zb_model.specs.declared.data.Transaction.{Transaction}
use Rattle.zb_model.specs.Stores.{ReadKeepsRest, StoreState}
use Rattle.zb_outside.specs.Written.{AppendsPrefix}
use Rattle.zb_outside.specs.WrittenLaws.{no_front}
use Rattle.zb_volume.specs.declared.areas.Area.TheVariants.{Main}
use Rattle.zb_volume.specs.Moments.{Leaves}
use Rattle.zodb_core.specs.HubState.{counts_of}
use Rattle.client_turns.specs.declared.errors.TurnError.{TurnError}
use Rattle.client_turns.specs.declared.errors.TurnError.TheVariants as turn_error
use Rattle.client_turns.specs.Clients.{Moment}
use Rattle.client_turns.specs.Standing.{ClientsState, StandsForMoment}
use Rattle.gen_script.specs.Script.{gen_lines}
use Rattle.script_runs.specs.declared.replying.RunError.TheVariants as errors
use Rattle.script_runs.specs.declared.status.Status.{Status}
use Rattle.script_runs.specs.declared.status.Status.TheVariants as status
use Rattle.script_runs.specs.declared.tally.Tally.{Tally}
use Rattle.script_runs.specs.Came.{Came, IsMainBy, began}
use Rattle.script_runs.specs.Made.{AllMadeOver, IsLastLine, IsLastOf, MadeInPart, MadeOver, MadeSays, MadeSoFar, MadeUntil, SaysLast, untold}
use Rattle.script_runs.specs.PrefixLaws.{behind_prefix, prefix_before}
use Rattle.script_runs.specs.Running.{SaysStopped}
use Rattle.script_runs.specs.Summary.{held_objects, numbers_line, summary_line}
use Rattle.script_runs.specs.Texts.{cut_lines, joined, store_fault_line}
use Rattle.script_runs.specs.Written.{IsWritten}
use Rattle.script_runs.proofs.Played.{ends_off}
use Rattle.script_runs.proofs.Stores.{ran_nothing, sooner, then_written, whole_memory, whole_none}

-- ---- before the first turn

module _ (lasts : Type 0) (stands : List ℕ → List Transaction → Type 0) (state : StoreState) (left : Option (List Stamp)) (cut : Option ℕ) (rounds : ℕ) (lasting : lasts → Leaves Main (λ bytes. stands bytes state.list) state.log) where
  made_none : (written : List ℕ → Type 0) → written (joined (cut_lines cut) ++ []) → MadeOver lasts stands (began state.list left state.read_faults state.faults) cut rounds untold None written state state left
  made_none written wrote = record { turns = []; rest = gen_lines rounds; are = refl; ran = ran_nothing lasts stands state left cut [] untold written lasting wrote }

  pub made_silent : (taken : Option (List ℕ)) → MadeOver lasts stands (began state.list left state.read_faults state.faults) cut rounds untold None (AppendsPrefix taken taken) state state left
  made_silent taken = made_none (AppendsPrefix taken taken) (no_front taken _)

  pub made_prefix : (taken taken' : Option (List ℕ)) (lines : List (List ℕ)) → lines ≡ cut_lines cut → AppendsPrefix taken taken' (joined lines)
      → MadeOver lasts stands (began state.list left state.read_faults state.faults) cut rounds untold None (AppendsPrefix taken taken') state state left
  made_prefix taken taken' lines is wrote = made_none (AppendsPrefix taken taken') (prefix_before taken taken' (joined (cut_lines cut)) [] (subst (λ (ls : List (List ℕ)). AppendsPrefix taken taken' (joined ls)) is wrote))

-- ---- turns were taken

module _ {R F : Type 0} (lasts : Type 0) (stands : List ℕ → List Transaction → Type 0) (m : Moment) (cut : Option ℕ) (rounds : ℕ) (old behind : StoreState) (clients : ClientsState R F) (left : Option (List Stamp)) (kept : behind ≡ clients.hub.store)
    (lasting : lasts → behind.broken ≡ false → Leaves Main (λ bytes. stands bytes behind.list) behind.log) where
  list_so : (now : Moment) → StandsForMoment clients left now → now.machine.failed ≡ false → behind.list ≡ now.machine.list
  list_so now is whole = ap (λ (s : StoreState). s.list) kept ∙ sym (is.hub.list (sym is.hub.failed ∙ whole))

  images_so : (now : Moment) → StandsForMoment clients left now → now.machine.failed ≡ false → lasts → Leaves Main (λ bytes. stands bytes now.machine.list) behind.log
  images_so now is whole known image left =
      subst (λ (l : List Transaction). stands image l) (list_so now is whole) (lasting known (ap (λ (s : StoreState). s.broken) kept ∙ sym is.hub.failed ∙ whole) image left)

  -- all of them
  abbrev made_all : (tally : Tally) (text : List ℕ) (written : List ℕ → Type 0) → MadeSoFar lasts stands m (gen_lines rounds) [] tally old.log clients left → written (joined (cut_lines cut) ++ text)
      → MadeOver lasts stands m cut rounds (λ answers. text) None written old behind left
  made_all tally text written s wrote = record {
    turns = s.taken;
    rest = [];
    are = s.are;
    ran = record {
      now = s.now;
      came = record { taken = s.taken; later = []; parts = sym (append-nil s.taken); answers = s.answers; behind = s.now; answered = s.answered; ends = refl };
      text = wrote;
      stamps = sym s.stands_for.stamps;
      counts = ap counts_of kept ∙ sym s.stands_for.counts;
      images = images_so s.now s.stands_for s.whole;
      moments = λ known. rw kept (s.moments known);
    };
  }

  -- or some first ones
  abbrev came_so : (broke : Option TurnError) (s : MadeInPart lasts stands broke m (gen_lines rounds) old.log clients left) → Came m (s.taken ++ s.broken) broke s.now
  came_so broke s = record { taken = s.taken; later = s.broken; parts = refl; answers = s.answers; behind = s.behind; answered = s.answered; ends = ends_off s.behind s.broken broke s.now s.ends }

  main_so : (broke : Option TurnError) (s : MadeInPart lasts stands broke m (gen_lines rounds) old.log clients left) → m.machine.failed ≡ false → lasts → Leaves Main (IsMainBy stands broke s.behind s.broken s.now) behind.log
  main_so None s whole known = images_so s.now s.stands_for (whole_none m (s.taken ++ s.broken) s.now whole (came_so None s)) known
  main_so (Some turn_error.Memory) s whole known = images_so s.now s.stands_for (whole_memory m (s.taken ++ s.broken) s.now whole (came_so (Some turn_error.Memory) s)) known
  main_so (Some turn_error.StoreFault) s whole known = rw kept (s.around refl known)

  pub made_part : (broke : Option TurnError) (written : List ℕ → Type 0) → m.machine.failed ≡ false → MadeInPart lasts stands broke m (gen_lines rounds) old.log clients left → written (joined (cut_lines cut) ++ [])
      → MadeOver lasts stands m cut rounds untold broke written old behind left
  made_part broke written whole s wrote = record {
    turns = s.taken ++ s.broken;
    rest = s.rest;
    are = s.are;
    ran = record {
      now = s.now;
      came = came_so broke s;
      text = wrote;
      stamps = sym s.stands_for.stamps;
      counts = ap counts_of kept ∙ sym s.stands_for.counts;
      images = main_so broke s whole;
      moments = λ known. rw kept (s.moments known);
    };
  }

  -- ---- the run ended early

  pub says_part : (told : Type 0) (why : TurnError) (s : Status) (taken mid new_taken : Option (List ℕ)) (before between now : ℕ) → m.machine.failed ≡ false → Appends taken mid (joined (cut_lines cut)) → before ≤ between
      → SaysStopped (errors.Turn why) s mid new_taken between now → (why ≡ turn_error.StoreFault → Rose old.faults behind.faults) → (told → MadeUntil lasts stands why m (gen_lines rounds) old.log clients left)
      → MadeSays s told lasts stands m cut rounds taken new_taken before now old behind left
  says_part told turn_error.Memory s taken mid new_taken before between now whole first le said rose until =
      rw (said.0, said.1) (λ here. elim (until here) [
        | inl part ↦ inl (made_part None (AppendsPrefix taken mid) whole part (front mid first))
        | inr part ↦ inr (made_part (Some turn_error.Memory) (AppendsPrefix taken mid) whole part (front mid first))
      ])
    where
      front : (mid : Option (List ℕ)) → Appends taken mid (joined (cut_lines cut)) → AppendsPrefix taken mid (joined (cut_lines cut) ++ [])
      front mid first = behind_prefix taken mid mid (joined (cut_lines cut)) [] first (no_front mid [])
  says_part told turn_error.StoreFault s taken mid new_taken before between now whole first le said rose until =
      rw said.0 (
        rose refl,
        λ here. made_part (Some turn_error.StoreFault) (λ text. IsWritten taken new_taken before now (text ++ store_fault_line)) whole (until here)
            (subst (λ (text : List ℕ). IsWritten taken new_taken before now (text ++ store_fault_line)) (sym (append-nil (joined (cut_lines cut))))
            (then_written taken mid new_taken before now (joined (cut_lines cut)) store_fault_line first (sooner mid new_taken before between now store_fault_line le said.1))),
      )

-- ---- the last line

module _ {R F : Type 0} (told lasts : Type 0) (stands : List ℕ → List Transaction → Type 0) (m : Moment) (cut : Option ℕ) (rounds : ℕ) (old behind new : StoreState) (clients : ClientsState R F) (left : Option (List Stamp)) (kept : behind ≡ clients.hub.store)
    (lasting : lasts → behind.broken ≡ false → Leaves Main (λ bytes. stands bytes behind.list) behind.log) (same : ReadKeepsRest behind new) (tally : Tally) (came : told → MadeSoFar lasts stands m (gen_lines rounds) [] tally old.log clients left) where
  abbrev between : StoreState
  between = record new { read_faults = behind.read_faults }

  between_is : between ≡ behind
  between_is = ap (λ (s : StoreState). record s { read_faults = behind.read_faults }) same

  between_lasts : lasts → between.broken ≡ false → Leaves Main (λ bytes. stands bytes between.list) between.log
  between_lasts = subst (λ (s : StoreState). lasts → s.broken ≡ false → Leaves Main (λ bytes. stands bytes s.list) s.log) (sym between_is) lasting

  last_so : (here : told) (text : List ℕ) (s : MadeSoFar lasts stands m (gen_lines rounds) [] tally old.log clients left) → IsLastOf told rounds tally behind.list behind.read_faults new.read_faults text
      → IsLastLine rounds s.answers s.now.machine.list behind.read_faults new.read_faults text
  last_so here text s (inl is) = inl (
    is.0,
    is.1 here
        ∙ ap (λ (t : Tally). numbers_line rounds t.committed t.conflicts t.refused (length behind.list) (len (held_objects behind.list))) s.counted
        ∙ ap (λ (list : List Transaction). summary_line rounds s.answers list) (list_so lasts stands m cut rounds old behind clients left kept lasting s.now s.stands_for s.whole),
  )
  last_so here text s (inr failed) = inr failed

  all_so : (here : told) (text : List ℕ) (written : List ℕ → Type 0) → IsLastOf told rounds tally behind.list behind.read_faults new.read_faults text → written (joined (cut_lines cut) ++ text)
      → AllMadeOver lasts stands m cut rounds written old new left
  all_so here text written is wrote = record {
    text = text;
    reads = behind.read_faults;
    made = made_all lasts stands m cut rounds old between clients left (between_is ∙ kept) between_lasts tally text written (came here) wrote;
    all = refl;
    whole = refl;
    says = last_so here text (came here) is;
  }

  pub says_last : (s : Status) (taken mid new_taken : Option (List ℕ)) (before mid_count now : ℕ) → Appends taken mid (joined (cut_lines cut)) → before ≤ mid_count → SaysLast s told rounds tally behind new mid new_taken mid_count now
      → MadeSays s told lasts stands m cut rounds taken new_taken before now old new left
  says_last status.Done taken mid new_taken before mid_count now first le (text, is, wrote) = λ here. all_so here text (Appends taken new_taken) is (Appends-trans taken mid new_taken (joined (cut_lines cut)) text first wrote)
  says_last status.NoMemory taken mid new_taken before mid_count now first le (silent, still) = λ here.
      inl (subst (λ (s : StoreState). MadeOver lasts stands m cut rounds untold None (AppendsPrefix taken new_taken) old s left) (sym (same ∙ ap (λ (n : ℕ). record behind { read_faults = n }) still))
      (made_all lasts stands m cut rounds old behind clients left kept lasting tally [] (AppendsPrefix taken new_taken) (came here)
      (behind_prefix taken mid new_taken (joined (cut_lines cut)) [] first (subst (λ (o : Option (List ℕ)). AppendsPrefix mid o []) (sym silent) (no_front mid [])))))
  says_last status.SinkFault taken mid new_taken before mid_count now first le (rose, (text, is, wrote)) =
      (rose_after before mid_count now le rose, λ here. inr (all_so here text (AppendsPrefix taken new_taken) is (behind_prefix taken mid new_taken (joined (cut_lines cut)) text first wrote)))
  says_last _ taken mid new_taken before mid_count now first le said = absurd said
