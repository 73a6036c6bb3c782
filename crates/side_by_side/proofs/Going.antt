-- What holds of clients so far holds of them with one turn more, or with one that broke off.
use Rattle.std.proofs.Common.{◌≡◌, ℕ, ◌<◌, ◌≤◌, get_or, Result, Ok, Err, Bool, false, List, [], ◌∷◌, ◌++◌, Option, Some, None, append-nil, refl, sym, ap, subst, ◌∙◌, arith}
use Rattle.std.specs.Prelude.{slice_get, slice_set}
use Rattle.zb_base.specs.Counts.{Rose}
use Rattle.zb_ids.specs.declared.stamp.Stamp.{Stamp}
use Rattle.zb_model.specs.declared.data.Transaction.{Transaction}
use Rattle.zb_model.specs.StayLaws.{stays_then}
use Rattle.zb_answers.specs.declared.answer.Answer.{Answer}
use Rattle.zb_script.specs.declared.line.Turn.{Turn}
use Rattle.zb_volume.specs.declared.areas.Area.TheVariants.{Main, Side}
use Rattle.zb_volume.specs.Moments.{Leaves, LeavesOnly, StaysAs, here}
use Rattle.zb_volume.specs.Runs.{along_now, joined as along_joined, leaves_less}
use Rattle.client_turns.specs.declared.errors.TurnError.{TurnError}
use Rattle.client_turns.specs.declared.errors.TurnError.TheVariants as turn_error
use Rattle.client_turns.specs.Clients.{Moment}
use Rattle.client_turns.specs.Output.{FlaggedTurn, Out, TurnAnswer}
use Rattle.client_turns.specs.Standing.{ClientsState, IsListIn, LeadsTo, StandsForMoment, packs_list}
use Rattle.client_turns.specs.ListLaws.{turn_kept}
use Rattle.client_turns.specs.Turns.{IsTurn}
use Rattle.client_turns.specs.Waiting.{FreeTurnsAreServed, IsServed, is_held_up}
use Rattle.side_by_side.specs.declared.turns.PlayedTurn.{PlayedTurn}
use Rattle.side_by_side.specs.Orders.{ClientLeft, IsTakenIn, is_done}
use Rattle.side_by_side.specs.Plays.{AreServed, CameSideBySide, IsNoted, IsPlay, IsUnnoted, PlayStart, answers_of, any_packs, count_left, order_of, play_state}
use Rattle.side_by_side.specs.RunLaws.{of_run_more, of_run_next, of_run_now, out_push}
use Rattle.side_by_side.specs.Runs.{IsOfRun, stock}
use Rattle.side_by_side.proofs.Places.{first_at, quiet_first, quiet_set, set_named, taken_push}

answers_more : (taken : List PlayedTurn) (p : PlayedTurn) → answers_of (taken ++ p ∷ []) ≡ answers_of taken ++ record { client = p.client; answer = p.answer } ∷ []
answers_more [] p = refl
answers_more (x ∷ taken) p = ap (λ (os : List TurnAnswer). record { client = x.client; answer = x.answer } ∷ os) (answers_more taken p)

order_more : (taken : List PlayedTurn) (p : PlayedTurn) → order_of (taken ++ p ∷ []) ≡ order_of taken ++ p.number ∷ []
order_more [] p = refl
order_more (x ∷ taken) p = ap (λ (ns : List ℕ). x.number ∷ ns) (order_more taken p)

served_push : (turns : List FlaggedTurn) (answers : List TurnAnswer) (t : FlaggedTurn) (o : TurnAnswer) → AreServed turns answers → IsServed t.turn.line o.answer → AreServed (turns ++ t ∷ []) (answers ++ o ∷ [])
served_push [] [] t o are is = (is, tt)
served_push [] (p ∷ answers) t o are is = absurd are
served_push (u ∷ turns) [] t o are is = absurd are
served_push (u ∷ turns) (p ∷ answers) t o are is = (are.0, served_push turns answers t o are.1 is)

module _ {R F : Type 0} (told lasts : Type 0) (stands : List ℕ → List Transaction → Type 0) (b : PlayStart) (n : ℕ) (t : Turn) (last : Bool) (name : List ℕ) (later : List Turn) (lines : List ClientLeft)
    (there : slice_get lines n ≡ Some (record { name = name; left = t ∷ later })) (is_last : last ≡ is_done later)
    (c c' : ClientsState R F) (stamps stamps' : Option (List Stamp)) (taken taken' : List PlayedTurn)
    (so_far : IsPlay told lasts stands b (play_state c stamps lines taken None))
    (reads : c.hub.store.read_faults ≤ c'.hub.store.read_faults) (counted : c.hub.store.faults ≤ c'.hub.store.faults)
    (side : lasts → packs_list t.line ≡ false → StaysAs Side c.hub.store.log c'.hub.store.log)
    (moments : lasts → told → (m : Moment) → StandsForMoment c stamps m → LeavesOnly Main (IsListIn stands stock m t) c.hub.store.log c'.hub.store.log) where
  abbrev flagged_so : FlaggedTurn
  flagged_so = record { turn = t; is_last = last }

  abbrev left_so : List ClientLeft
  left_so = slice_set lines n (record { name = name; left = later })

  side_so : lasts → any_packs b.lines ≡ false → StaysAs Side b.store.log c'.hub.store.log
  side_so known none = stays_then Side b.store.log c.hub.store.log c'.hub.store.log (so_far.side known none) (side known (quiet_first lines n name t later there (so_far.quiet none)))

  quiet_so : any_packs b.lines ≡ false → any_packs left_so ≡ false
  quiet_so none = quiet_set lines n name t later there (so_far.quiet none)

  first_others : c.hub.store.faults ≡ b.store.faults
  first_others = so_far.others (λ is. absurd cc)

  -- where the volume tells
  module _ (here : told) where
    abbrev came_so : CameSideBySide lasts stands b (play_state c stamps lines taken None)
    came_so = so_far.came here

    now_is : came_so.now ≡ came_so.behind
    now_is = came_so.ends.1

    stands_now : StandsForMoment c stamps came_so.behind
    stands_now = subst (λ (m : Moment). StandsForMoment c stamps m) now_is came_so.stands_for

    -- the order so far, and the turn
    order_so : IsTakenIn b.lines (order_of taken) came_so.turns lines
    order_so =
        subst (λ (ts : List FlaggedTurn). IsTakenIn b.lines (order_of taken) ts lines) (ap (λ (ts : List FlaggedTurn). came_so.turns ++ ts) came_so.ends.0 ∙ append-nil came_so.turns)
        (subst (λ (ns : List ℕ). IsTakenIn b.lines ns (came_so.turns ++ came_so.broken) lines) (ap (λ (ns : List ℕ). order_of taken ++ ns) (came_so.alone refl) ∙ append-nil (order_of taken)) came_so.order)

    order_next : IsTakenIn b.lines (order_of taken ++ n ∷ []) (came_so.turns ++ flagged_so ∷ []) left_so
    order_next = taken_push b.lines (order_of taken) came_so.turns lines n flagged_so name later order_so there is_last

    moments_before : lasts → LeavesOnly Main (IsOfRun stands b.moment came_so.turns (flagged_so ∷ []) (answers_of taken) came_so.behind) b.store.log c'.hub.store.log
    moments_before known =
        let P = IsOfRun stands b.moment came_so.turns (flagged_so ∷ []) (answers_of taken) came_so.behind in
        along_joined (Leaves Main P) b.store.log c.hub.store.log c'.hub.store.log
        (leaves_less Main (IsOfRun stands b.moment came_so.turns [] (answers_of taken) came_so.behind) P b.store.log c.hub.store.log
        (λ bytes is. of_run_next stands b.moment came_so.behind came_so.turns flagged_so (answers_of taken) bytes is)
        (subst (λ (ts : List FlaggedTurn). LeavesOnly Main (IsOfRun stands b.moment came_so.turns ts (answers_of taken) came_so.behind) b.store.log c.hub.store.log) came_so.ends.0 (came_so.moments known)))
        (leaves_less Main (IsListIn stands stock came_so.behind t) P c.hub.store.log c'.hub.store.log
        (λ bytes is. of_run_now stands b.moment came_so.behind came_so.turns (flagged_so ∷ []) (answers_of taken) bytes came_so.out is)
        (moments known here came_so.behind stands_now))

    came_more : LeadsTo (IsNoted n came_so.behind t last taken taken') c' stamps' → CameSideBySide lasts stands b (play_state c' stamps' left_so taken' None)
    came_more leads =
        let noted = leads.holds in
        let p : PlayedTurn = record { number = n; client = t.client; answer = noted.answer } in
        let o : TurnAnswer = record { client = t.client; answer = noted.answer } in
        let answers : answers_of taken' ≡ answers_of taken ++ o ∷ [] = ap answers_of noted.note ∙ answers_more taken p in
        let order : order_of taken' ++ [] ≡ order_of taken ++ n ∷ [] = append-nil (order_of taken') ∙ ap order_of noted.note ∙ order_more taken p in
        record {
          turns = came_so.turns ++ flagged_so ∷ [];
          broken = [];
          number = [];
          order = subst (λ (ns : List ℕ). IsTakenIn b.lines ns ((came_so.turns ++ flagged_so ∷ []) ++ []) left_so) (sym order)
              (subst (λ (ts : List FlaggedTurn). IsTakenIn b.lines (order_of taken ++ n ∷ []) ts left_so) (sym (append-nil (came_so.turns ++ flagged_so ∷ []))) order_next);
          alone = λ none. refl;
          behind = leads.now;
          out = subst (λ (os : List TurnAnswer). Out stock b.moment (came_so.turns ++ flagged_so ∷ []) os leads.now) (sym answers)
              (out_push stock b.moment came_so.behind leads.now came_so.turns flagged_so (answers_of taken) noted.answer came_so.out noted.turn);
          served = subst (λ (os : List TurnAnswer). AreServed (came_so.turns ++ flagged_so ∷ []) os) (sym answers) (served_push came_so.turns (answers_of taken) flagged_so o came_so.served noted.served);
          now = leads.now;
          ends = (refl, refl);
          stands_for = leads.stands;
          around = λ is. absurd cc;
          moments = λ known.
              subst (λ (os : List TurnAnswer). LeavesOnly Main (IsOfRun stands b.moment (came_so.turns ++ flagged_so ∷ []) [] os leads.now) b.store.log c'.hub.store.log) (sym answers)
              (leaves_less Main (IsOfRun stands b.moment came_so.turns (flagged_so ∷ []) (answers_of taken) came_so.behind)
              (IsOfRun stands b.moment (came_so.turns ++ flagged_so ∷ []) [] (answers_of taken ++ o ∷ []) leads.now) b.store.log c'.hub.store.log
              (of_run_more stands b.moment came_so.behind leads.now came_so.turns flagged_so [] (answers_of taken) noted.answer noted.turn) (moments_before known));
        }

    came_broken : (why : TurnError) → LeadsTo (IsUnnoted why came_so.behind t last taken taken') c' stamps' → CameSideBySide lasts stands b (play_state c' stamps' left_so taken' (Some why))
    came_broken why leads =
        let noted = leads.holds in
        record {
          turns = came_so.turns;
          broken = flagged_so ∷ [];
          number = n ∷ [];
          order = subst (λ (xs : List PlayedTurn). IsTakenIn b.lines (order_of xs ++ n ∷ []) (came_so.turns ++ flagged_so ∷ []) left_so) (sym noted.note) order_next;
          alone = λ none. absurd cc;
          behind = came_so.behind;
          out = subst (λ (xs : List PlayedTurn). Out stock b.moment came_so.turns (answers_of xs) came_so.behind) (sym noted.note) came_so.out;
          served = subst (λ (xs : List PlayedTurn). AreServed came_so.turns (answers_of xs)) (sym noted.note) came_so.served;
          now = leads.now;
          ends = (flagged_so, refl, noted.turn);
          stands_for = leads.stands;
          around = λ is known. along_now (Leaves Main (IsListIn stands stock came_so.behind t)) c.hub.store.log c'.hub.store.log (moments known here came_so.behind stands_now);
          moments = λ known.
              subst (λ (xs : List PlayedTurn). LeavesOnly Main (IsOfRun stands b.moment came_so.turns (flagged_so ∷ []) (answers_of xs) came_so.behind) b.store.log c'.hub.store.log) (sym noted.note) (moments_before known);
        }

  pub goes_on : c'.hub.store.broken ≡ false → c'.hub.store.faults ≡ c.hub.store.faults
      → (told → (m : Moment) → StandsForMoment c stamps m → LeadsTo (IsNoted n m t last taken taken') c' stamps')
      → IsPlay told lasts stands b (play_state c' stamps' left_so taken' None)
  goes_on whole others leads = record {
    whole = λ none. whole;
    reads = omega (arith, so_far.reads, reads);
    faults = omega (arith, so_far.faults, counted);
    failed = λ is. absurd cc;
    others = λ other. others ∙ first_others;
    quiet = quiet_so;
    side = side_so;
    came = λ here. came_more here (leads here (came_so here).behind (stands_now here));
  }

  pub breaks_off : (why : TurnError) → (why ≡ turn_error.StoreFault → Rose c.hub.store.faults c'.hub.store.faults) → (¬ (why ≡ turn_error.StoreFault) → c'.hub.store.faults ≡ c.hub.store.faults)
      → (told → (m : Moment) → StandsForMoment c stamps m → LeadsTo (IsUnnoted why m t last taken taken') c' stamps')
      → IsPlay told lasts stands b (play_state c' stamps' left_so taken' (Some why))
  breaks_off why failed others leads = record {
    whole = λ none. absurd cc;
    reads = omega (arith, so_far.reads, reads);
    faults = omega (arith, so_far.faults, counted);
    failed = λ is. subst (λ (k : ℕ). Rose k c'.hub.store.faults) first_others (failed (same_error why is));
    others = λ other. others (λ is. other (ap Some is)) ∙ first_others;
    quiet = quiet_so;
    side = side_so;
    came = λ here. came_broken here why (leads here (came_so here).behind (stands_now here));
  }
    where
      same_error : (why : TurnError) → Some why ≡ Some turn_error.StoreFault → why ≡ turn_error.StoreFault
      same_error why e = cc

-- ---- one turn

pub untaken : {R F : Type 0} (stands : List ℕ → List Transaction → Type 0) (m : Moment) (t : Turn) (c : ClientsState R F) (stamps : Option (List Stamp)) → StandsForMoment c stamps m → c.hub.store.broken ≡ false
    → Leaves Main (λ bytes. stands bytes c.hub.store.list) c.hub.store.log → LeavesOnly Main (IsListIn stands stock m t) c.hub.store.log c.hub.store.log
untaken stands m t c stamps is whole lasting = here (λ image left. turn_kept stands stock m t image (subst (λ (l : List Transaction). stands image l) (sym (is.hub.list whole)) (lasting image left)))

pub unnoted : {R F : Type 0} (m : Moment) (t : Turn) (last : Bool) (r : Result Answer TurnError) (why : TurnError) (old new : List PlayedTurn) (clients : ClientsState R F) (left : Option (List Stamp))
    → LeadsTo (IsTurn stock m t last r) clients left → r ≡ Err why → new ≡ old → LeadsTo (IsUnnoted why m t last old new) clients left
unnoted m t last r why old new clients left leads is note = record {
  now = leads.now;
  holds = record { turn = subst (λ (x : Result Answer TurnError). IsTurn stock m t last x leads.now) is leads.holds; note = note };
  stands = leads.stands;
}

pub noted : {R F : Type 0} (seen : ClientsState R F) (stamps : Option (List Stamp)) → FreeTurnsAreServed seen → (n : ℕ) (m : Moment) (t : Turn) (last : Bool) (r : Result Answer TurnError) (a : Answer) (old mid new : List PlayedTurn) (clients : ClientsState R F) (left : Option (List Stamp))
    → StandsForMoment seen stamps m → is_held_up seen t ≡ false → LeadsTo (IsTurn stock m t last r) clients left → r ≡ Ok a → mid ≡ old → new ≡ mid ++ record { number = n; client = t.client; answer = a } ∷ []
    → LeadsTo (IsNoted n m t last old new) clients left
noted seen stamps free n m t last r a old mid new clients left is held leads ok same note =
    let turn : IsTurn stock m t last (Ok a) leads.now = subst (λ (x : Result Answer TurnError). IsTurn stock m t last x leads.now) ok leads.holds in
    record {
      now = leads.now;
      holds = record {
        answer = a;
        turn = turn;
        note = note ∙ ap (λ (ps : List PlayedTurn). ps ++ record { number = n; client = t.client; answer = a } ∷ []) same;
        served = free stock stamps m t last a leads.now is held turn;
      };
      stands = leads.stands;
    }

abbrev error_in : {A : Type 0} → Result A TurnError → TurnError → TurnError
error_in (Ok x) other = other
error_in (Err e) other = e

pub err_same : {A : Type 0} (a b : TurnError) (r : Result A TurnError) → r ≡ Err a → r ≡ Err b → a ≡ b
err_same {A = A} a b r is other = sym (ap (λ (x : Result A TurnError). error_in x b) is) ∙ ap (λ (x : Result A TurnError). error_in x b) other

module _ {R F : Type 0} (told lasts : Type 0) (stands : List ℕ → List Transaction → Type 0) (b : PlayStart) (n : ℕ) (t : Turn) (last : Bool) (lines lines' : List ClientLeft) (y z : ClientLeft)
    (read : y ≡ get_or lines n y) (some : 0 < count_left lines n) (split : y.left ≡ t ∷ z.left) (named : z.name ≡ y.name) (is_last : last ≡ is_done z.left) (set : lines' ≡ slice_set lines n z)
    (c c' : ClientsState R F) (stamps stamps' : Option (List Stamp)) (taken taken' : List PlayedTurn) (ended : Option TurnError) (none : ended ≡ None)
    (so_far : IsPlay told lasts stands b (play_state c stamps lines taken ended))
    (reads : c.hub.store.read_faults ≤ c'.hub.store.read_faults) (counted : c.hub.store.faults ≤ c'.hub.store.faults)
    (side : lasts → packs_list t.line ≡ false → StaysAs Side c.hub.store.log c'.hub.store.log)
    (moments : lasts → told → (m : Moment) → StandsForMoment c stamps m → LeavesOnly Main (IsListIn stands stock m t) c.hub.store.log c'.hub.store.log) where
  first_so : IsPlay told lasts stands b (play_state c stamps lines taken None)
  first_so = subst (λ (e : Option TurnError). IsPlay told lasts stands b (play_state c stamps lines taken e)) none so_far

  lines_so : slice_set lines n (record { name = y.name; left = z.left }) ≡ lines'
  lines_so = sym (set ∙ set_named lines n y z named)

  pub went_on : (ended' : Option TurnError) → ended' ≡ None → c'.hub.store.broken ≡ false → c'.hub.store.faults ≡ c.hub.store.faults
      → (told → (m : Moment) → StandsForMoment c stamps m → LeadsTo (IsNoted n m t last taken taken') c' stamps')
      → IsPlay told lasts stands b (play_state c' stamps' lines' taken' ended')
  went_on ended' none' whole others leads =
      subst (λ (e : Option TurnError). IsPlay told lasts stands b (play_state c' stamps' lines' taken' e)) (sym none')
      (subst (λ (ls : List ClientLeft). IsPlay told lasts stands b (play_state c' stamps' ls taken' None)) lines_so
      (goes_on told lasts stands b n t last y.name z.left lines (first_at lines n y z t read some split) is_last c c' stamps stamps' taken taken' first_so reads counted side moments whole others leads))

  pub broke_off : (ended' : Option TurnError) (why : TurnError) → ended' ≡ Some why → (why ≡ turn_error.StoreFault → Rose c.hub.store.faults c'.hub.store.faults) → (¬ (why ≡ turn_error.StoreFault) → c'.hub.store.faults ≡ c.hub.store.faults)
      → (told → (m : Moment) → StandsForMoment c stamps m → LeadsTo (IsUnnoted why m t last taken taken') c' stamps')
      → IsPlay told lasts stands b (play_state c' stamps' lines' taken' ended')
  broke_off ended' why over failed others leads =
      subst (λ (e : Option TurnError). IsPlay told lasts stands b (play_state c' stamps' lines' taken' e)) (sym over)
      (subst (λ (ls : List ClientLeft). IsPlay told lasts stands b (play_state c' stamps' ls taken' (Some why))) lines_so
      (breaks_off told lasts stands b n t last y.name z.left lines (first_at lines n y z t read some split) is_last c c' stamps stamps' taken taken' first_so reads counted side moments why failed others leads))
