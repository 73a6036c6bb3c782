-- Clients side by side over a store.
use Rattle.std.proofs.Common.{◌≡◌, ℕ, Bool, true, false, List, [], ◌∷◌, ◌++◌, Option, Some, None, map, inl, inr, append-nil, refl, sym, ap, subst, ◌∙◌, ◌+◌}
use Rattle.std.specs.Prelude.{◌||◌, bytes_eq, filter}
use Rattle.std.specs.List.{flat_map, list_any}
use Rattle.std.specs.Io.KnownBytes.{Appends}
use Rattle.std.proofs.lemmas.Grind.{flat_map-append}
use Rattle.zb_base.specs.Counts.{Rose}
use Rattle.zb_ids.specs.declared.stamp.Stamp.{Stamp}
use Rattle.zb_model.specs.declared.data.Transaction.{Transaction}
use Rattle.zb_model.specs.Stores.{StoreState}
use Rattle.zb_outside.specs.Written.{AppendsPrefix}
use Rattle.zb_answers.specs.Answers.{reply_lines}
use Rattle.zb_script.specs.declared.line.Turn.{Turn}
use Rattle.zb_script.specs.Shape.{openers}
use Rattle.zb_volume.specs.declared.areas.Area.TheVariants.{Main}
use Rattle.zb_volume.specs.Moments.{Leaves}
use Rattle.client_turns.specs.declared.errors.TurnError.{TurnError}
use Rattle.client_turns.specs.declared.errors.TurnError.TheVariants as turn_error
use Rattle.client_turns.specs.Clients.{Moment}
use Rattle.client_turns.specs.Output.{FlaggedTurn, TurnAnswer, is_turn_of}
use Rattle.client_turns.specs.Standing.{packs_list}
use Rattle.side_by_side.specs.declared.turns.PlayedTurn.{PlayedTurn}
use Rattle.side_by_side.specs.Orders.{ClientLeft, IsTakenIn, lines_of_each}
use Rattle.side_by_side.specs.Plays.{CameToEnd, EndsSo, IsPlayed, answers_of, any_packs, order_of, play_start}
use Rattle.script_runs.specs.declared.status.Status.{Status}
use Rattle.script_runs.specs.declared.status.Status.TheVariants as status
use Rattle.script_runs.specs.Came.{BreaksOff, Came, IsMainBy, answers_text, began}
use Rattle.script_runs.specs.Played.{answers_to, no_text, order_line, played_lines, played_text, replies_to}
use Rattle.script_runs.specs.Outcomes.{IsUnlessMemory, has_pack}
use Rattle.script_runs.specs.Running.{AllPlayedOver, PlaySays, PlayedOver, SaysEnded, WritesPlayed}
use Rattle.script_runs.specs.Texts.{cut_lines, joined, store_fault_line}
use Rattle.script_runs.specs.Written.{IsWritten}
use Rattle.script_runs.proofs.Stores.{ran_nothing, whole_memory, whole_none}

-- ---- the text

joined-append : (a b : List (List ℕ)) → joined (a ++ b) ≡ joined a ++ joined b
joined-append a b = flat_map-append (λ (l : List ℕ). l) a b

-- the replies to a client, from the turns and from their answers
replies_text : (name : List ℕ) (taken : List PlayedTurn) → joined (replies_to name taken) ≡ answers_text (answers_to name (answers_of taken))
replies_text name [] = refl
replies_text name (p ∷ taken) = by_name (bytes_eq p.client name) refl (replies_text name taken)
  where
    by_name : (b : Bool) → bytes_eq p.client name ≡ b → joined (replies_to name taken) ≡ answers_text (answers_to name (answers_of taken)) → joined (replies_to name (p ∷ taken)) ≡ answers_text (answers_to name (answers_of (p ∷ taken)))
    by_name true is rest = rw is (joined-append (reply_lines p.client p.answer) (replies_to name taken) ∙ ap (λ (text : List ℕ). joined (reply_lines p.client p.answer) ++ text) rest)
    by_name false is rest = rw is rest

all_text : (names : List (List ℕ)) (taken : List PlayedTurn) → joined (flat_map (λ name. replies_to name taken) names) ≡ flat_map (λ name. answers_text (answers_to name (answers_of taken))) names
all_text [] taken = refl
all_text (name ∷ names) taken =
    joined-append (replies_to name taken) (flat_map (λ n. replies_to n taken) names)
    ∙ ap (λ (text : List ℕ). text ++ joined (flat_map (λ n. replies_to n taken) names)) (replies_text name taken)
    ∙ ap (λ (text : List ℕ). answers_text (answers_to name (answers_of taken)) ++ text) (all_text names taken)

pub lines_text : (names : List (List ℕ)) (taken : List PlayedTurn) → joined (played_lines names taken) ≡ played_text names (order_of taken) (answers_of taken)
lines_text names taken = ap (λ (text : List ℕ). order_line (order_of taken) ++ text) (all_text names taken)

-- ---- how far the clients came

pub ends_off : (behind : Moment) (broken : List FlaggedTurn) (ended : Option TurnError) (now : Moment) → EndsSo behind broken ended now → BreaksOff behind broken ended now
ends_off behind broken None now ends = ends.1
ends_off behind broken (Some why) now (t, is, broke) = subst (λ (ts : List FlaggedTurn). BreaksOff behind ts (Some why) now) (sym is) broke

module _ (lasts : Type 0) (stands : List ℕ → List Transaction → Type 0) (old new : StoreState) (stamps left : Option (List Stamp)) (cut : Option ℕ) (turns : List Turn) (lines : List ClientLeft) (taken : List PlayedTurn)
    (each : lines ≡ lines_of_each turns) (lasting : lasts → new.broken ≡ false → Leaves Main (λ bytes. stands bytes new.list) new.log) where
  abbrev first : Moment
  first = began old.list stamps old.read_faults old.faults

  abbrev Ends : Option TurnError → Type 0
  Ends ended = CameToEnd lasts stands (play_start old stamps lines) new left taken ended

  abbrev came_so : (ended : Option TurnError) (c : Ends ended) → Came first (c.turns ++ c.broken) ended c.now
  came_so ended c = record { taken = c.turns; later = c.broken; parts = refl; answers = answers_of taken; behind = c.behind; answered = c.out; ends = ends_off c.behind c.broken ended c.now c.ends }

  -- the images, where the store hasn't failed
  images_so : (ended : Option TurnError) (c : Ends ended) → c.now.machine.failed ≡ false → lasts → Leaves Main (λ bytes. stands bytes c.now.machine.list) new.log
  images_so ended c whole known image left =
      let sound : new.broken ≡ false = sym c.failed ∙ whole in
      subst (λ (l : List Transaction). stands image l) (sym (c.list sound)) (lasting known sound image left)

  main_so : (ended : Option TurnError) (c : Ends ended) → lasts → Leaves Main (IsMainBy stands ended c.behind c.broken c.now) new.log
  main_so None c known = images_so None c (whole_none first (c.turns ++ c.broken) c.now refl (came_so None c)) known
  main_so (Some turn_error.Memory) c known = images_so (Some turn_error.Memory) c (whole_memory first (c.turns ++ c.broken) c.now refl (came_so (Some turn_error.Memory) c)) known
  main_so (Some turn_error.StoreFault) c known = c.around refl known

  abbrev played_so : (text : List ℕ → List TurnAnswer → List ℕ) (ended : Option TurnError) (written : List ℕ → Type 0) (c : Ends ended) → written (joined (cut_lines cut) ++ text (order_of taken ++ c.number) (answers_of taken))
      → PlayedOver lasts stands first cut turns text ended written old new left
  played_so text ended written c wrote = record {
    order = order_of taken ++ c.number;
    lines = c.turns ++ c.broken;
    rest = c.left;
    is = subst (λ (ls : List ClientLeft). IsTakenIn ls (order_of taken ++ c.number) (c.turns ++ c.broken) c.left) each c.order;
    ran = record {
      now = c.now;
      came = came_so ended c;
      text = wrote;
      stamps = c.stamps_left;
      counts = c.counts;
      images = main_so ended c;
      moments = c.moments;
    };
    served = c.served;
  }

  pub all_so : (written : List ℕ → Type 0) (c : Ends None) → written (joined (cut_lines cut) ++ joined (played_lines (openers turns) taken)) → AllPlayedOver lasts stands first cut turns written old new left
  all_so written c wrote = record {
    played = played_so (played_text (openers turns)) None written c
        (subst (λ (ns : List ℕ). written (joined (cut_lines cut) ++ played_text (openers turns) ns (answers_of taken))) (sym (ap (λ (ns : List ℕ). order_of taken ++ ns) (c.alone refl) ∙ append-nil (order_of taken)))
        (subst (λ (text : List ℕ). written (joined (cut_lines cut) ++ text)) (lines_text (openers turns) taken) wrote));
    all = c.ends.0;
    done = c.done refl;
  }

-- ---- each status

module _ (told lasts : Type 0) (stands : List ℕ → List Transaction → Type 0) (old new : StoreState) (stamps left : Option (List Stamp)) (cut : Option ℕ) (turns : List Turn) (lines : List ClientLeft) (taken : List PlayedTurn)
    (sink sink' : Option (List ℕ)) (before now : ℕ) where
  abbrev Says : Status → Type 0
  Says s = PlaySays s told lasts stands (began old.list stamps old.read_faults old.faults) cut turns sink sink' before now old new left

  abbrev Ended : Option TurnError → Type 0
  Ended ended = IsPlayed told lasts stands (play_start old stamps lines) new left taken ended

  -- all turns were taken, and what was to be written was, or not
  played_all : Ended None → lines ≡ lines_of_each turns → (lasts → new.broken ≡ false → Leaves Main (λ bytes. stands bytes new.list) new.log)
      → (s : Status) → WritesPlayed s sink sink' before now (joined (cut_lines cut) ++ joined (played_lines (openers turns) taken)) → Says s
  played_all is each lasting status.Done wrote = λ here. all_so lasts stands old new stamps left cut turns lines taken each lasting (Appends sink sink') (is.came here) wrote
  played_all is each lasting status.NoMemory wrote = λ here. inl (played_so lasts stands old new stamps left cut turns lines taken each lasting no_text None (λ text. sink' ≡ sink) (is.came here) wrote)
  played_all is each lasting status.SinkFault wrote = (wrote.0, λ here. all_so lasts stands old new stamps left cut turns lines taken each lasting (AppendsPrefix sink sink') (is.came here) wrote.1)
  played_all is each lasting _ wrote = absurd wrote

  by_end : (ended : Option TurnError) → Ended ended → lines ≡ lines_of_each turns → (lasts → new.broken ≡ false → Leaves Main (λ bytes. stands bytes new.list) new.log)
      → (s : Status) → SaysEnded ended s sink sink' before now (cut_lines cut) (openers turns) taken → Says s
  by_end None is each lasting s said =
      played_all is each lasting s (subst (λ (text : List ℕ). WritesPlayed s sink sink' before now text) (joined-append (cut_lines cut) (played_lines (openers turns) taken)) said)
  by_end (Some turn_error.Memory) is each lasting s (is_starved, silent) = rw is_starved (λ here.
      inr (played_so lasts stands old new stamps left cut turns lines taken each lasting no_text (Some turn_error.Memory) (λ text. sink' ≡ sink) (is.came here) silent))
  by_end (Some turn_error.StoreFault) is each lasting s (is_fault, wrote) = rw is_fault (
    is.failed refl,
    λ here. played_so lasts stands old new stamps left cut turns lines taken each lasting no_text (Some turn_error.StoreFault) (λ text. IsWritten sink sink' before now (text ++ store_fault_line)) (is.came here)
        (subst (λ (text : List ℕ). IsWritten sink sink' before now (text ++ store_fault_line)) (sym (append-nil (joined (cut_lines cut)))) wrote),
  )

  pub played_says : (ended : Option TurnError) → Ended ended → lines ≡ lines_of_each turns → (lasts → new.broken ≡ false → Leaves Main (λ bytes. stands bytes new.list) new.log)
      → (ahead names : List (List ℕ)) → ahead ≡ cut_lines cut → names ≡ openers turns → (s : Status) → SaysEnded ended s sink sink' before now ahead names taken → Says s
  played_says ended is each lasting ahead names line named s said =
      by_end ended is each lasting s
      (subst (λ (ns : List (List ℕ)). SaysEnded ended s sink sink' before now (cut_lines cut) ns taken) named
      (subst (λ (ls : List (List ℕ)). SaysEnded ended s sink sink' before now ls names taken) line said))

  -- where no call failed, all was done, unless memory ran out
  pub played_done : (ended : Option TurnError) → Ended ended → (ahead names : List (List ℕ)) (s : Status) → SaysEnded ended s sink sink' before now ahead names taken → ¬ Rose old.faults new.faults → ¬ Rose before now
      → IsUnlessMemory s status.Done
  played_done None is ahead names status.Done said calm well = inl refl
  played_done None is ahead names status.NoMemory said calm well = inr refl
  played_done None is ahead names status.SinkFault said calm well = absurd (well said.0)
  played_done None is ahead names _ said calm well = absurd said
  played_done (Some turn_error.Memory) is ahead names s said calm well = inr said.0
  played_done (Some turn_error.StoreFault) is ahead names s said calm well = absurd (calm (is.failed refl))

  -- the status of a store fault is told of one alone
  pub played_others : (ended : Option TurnError) → Ended ended → (ahead names : List (List ℕ)) (s : Status) → SaysEnded ended s sink sink' before now ahead names taken → ¬ (s ≡ status.StoreFault) → new.faults ≡ old.faults
  played_others None is ahead names s said other = is.others (λ never. absurd cc)
  played_others (Some turn_error.Memory) is ahead names s said other = is.others (λ never. absurd cc)
  played_others (Some turn_error.StoreFault) is ahead names s said other = absurd (other said.0)

-- nothing was played
pub played_none : (told lasts : Type 0) (stands : List ℕ → List Transaction → Type 0) (state : StoreState) (stamps : Option (List Stamp)) (cut : Option ℕ) (turns : List Turn) (sink : Option (List ℕ)) (before now : ℕ)
    → (lasts → Leaves Main (λ bytes. stands bytes state.list) state.log)
    → PlaySays status.NoMemory told lasts stands (began state.list stamps state.read_faults state.faults) cut turns sink sink before now state state stamps
played_none told lasts stands state stamps cut turns sink before now lasting = λ here. inl (record {
  order = [];
  lines = [];
  rest = lines_of_each turns;
  is = refl;
  ran = ran_nothing lasts stands state stamps cut [] (no_text []) (λ text. sink ≡ sink) lasting refl;
  served = tt;
})

-- ---- lines that don't pack

neither : (b c : Bool) → (b || c) ≡ false → (b ≡ false) × (c ≡ false)
neither true c none = absurd cc
neither false c none = (refl, none)

packs_of : (name : List ℕ) (turns : List Turn) → has_pack turns ≡ false → list_any (λ t. packs_list t.line) (filter (is_turn_of name) turns) ≡ false
packs_of name [] none = refl
packs_of name (t ∷ turns) none = by_name (is_turn_of name t) refl (packs_of name turns (neither (packs_list t.line) (has_pack turns) none).1)
  where
    by_name : (b : Bool) → is_turn_of name t ≡ b → list_any (λ t. packs_list t.line) (filter (is_turn_of name) turns) ≡ false → list_any (λ t. packs_list t.line) (filter (is_turn_of name) (t ∷ turns)) ≡ false
    by_name true is rest = rw (is, (neither (packs_list t.line) (has_pack turns) none).0) rest
    by_name false is rest = rw is rest

names_pack : (names : List (List ℕ)) (turns : List Turn) → has_pack turns ≡ false → any_packs (map (λ name. record { name = name; left = filter (is_turn_of name) turns }) names) ≡ false
names_pack [] turns none = refl
names_pack (name ∷ names) turns none = rw (packs_of name turns none) (names_pack names turns none)

pub nothing_packs : (turns : List Turn) (lines : List ClientLeft) → lines ≡ lines_of_each turns → has_pack turns ≡ false → any_packs lines ≡ false
nothing_packs turns lines each none = ap any_packs each ∙ names_pack (openers turns) turns none
