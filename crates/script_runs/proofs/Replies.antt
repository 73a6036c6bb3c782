-- A turn and its reply, and turns one after another.
use Rattle.std.proofs.Common.{◌≡◌, ℕ, zero, suc, ◌+◌, ◌<◌, ◌≤◌, Bool, false, List, [], ◌∷◌, ◌++◌, Option, Some, None, length, take, drop, get_or, append-nil, append_assoc, refl, sym, ap, subst, ◌∙◌, arith}
use Rattle.std.specs.Prelude.{Result, Ok, Err, slice_get}
use Rattle.std.proofs.lemmas.Option.{same_Some}
use Rattle.std.specs.Io.KnownBytes.{Appends}
use Rattle.std.proofs.KnownBytes.{Appends-nil, Appends-trans}
use Rattle.std.proofs.lemmas.Grind.{flat_map-append}
use Rattle.std.proofs.lemmas.List.{drop_all, drop_more, take_all, take_more, take-append-drop}
use Rattle.zb_ids.specs.declared.stamp.Stamp.{Stamp}
use Rattle.zb_model.specs.declared.data.Transaction.{Transaction}
use Rattle.zb_outside.specs.Written.{AppendsPrefix}
use Rattle.zb_outside.specs.WrittenLaws.{all_front}
use Rattle.zb_answers.specs.declared.answer.Answer.{Answer}
use Rattle.zb_script.specs.declared.line.Turn.{Turn}
use Rattle.zb_answers.specs.Answers.{reply_lines}
use Rattle.zb_volume.specs.declared.areas.Area.TheVariants.{Main}
use Rattle.zb_volume.specs.Calls.{Event}
use Rattle.zb_volume.specs.Moments.{Leaves, LeavesOnly, here}
use Rattle.zb_volume.specs.Runs.{along_now, joined as along_joined, leaves_less}
use Rattle.client_turns.specs.declared.errors.TurnError.{TurnError}
use Rattle.client_turns.specs.declared.errors.TurnError.TheVariants as turn_error
use Rattle.client_turns.specs.Clients.{Moment}
use Rattle.client_turns.specs.Output.{FlaggedTurn, TurnAnswer, flagged, is_last, last_flags}
use Rattle.client_turns.specs.Standing.{ClientsState, IsListIn, LeadsTo, StandsForMoment}
use Rattle.client_turns.specs.Turns.{IsTurn}
use Rattle.script_runs.specs.declared.replying.RunError.{RunError}
use Rattle.script_runs.specs.declared.replying.RunError.TheVariants as errors
use Rattle.side_by_side.specs.Runs.{IsOfRun, stock}
use Rattle.script_runs.specs.Came.{answers_text}
use Rattle.script_runs.specs.Running.{IsReplied, IsStopped, IsUnanswered, IsWrittenOf, RunsOn, Stops, broke_of}
use Rattle.script_runs.specs.Texts.{joined}
use Rattle.side_by_side.specs.RunLaws.{next_kept, of_run_more, out_push}
use Rattle.script_runs.specs.PrefixLaws.{behind_prefix}
use Rattle.script_runs.specs.Turning.{turn_keeps}

-- ---- one turn

pub replied : {R F : Type 0} (written : List ℕ → Type 0) (m : Moment) (t : Turn) (last : Bool) (r : Result Answer TurnError) (a : Answer) (lines : List (List ℕ)) (clients : ClientsState R F) (left : Option (List Stamp))
    → LeadsTo (IsTurn stock m t last r) clients left → r ≡ Ok a → lines ≡ reply_lines t.client a → written (joined lines) → LeadsTo (IsReplied written m t last) clients left
replied written m t last r a lines clients left leads is says text = record {
  now = leads.now;
  holds = record { answer = a; turn = subst (λ (x : Result Answer TurnError). IsTurn stock m t last x leads.now) is leads.holds; text = subst (λ (ls : List (List ℕ)). written (joined ls)) says text };
  stands = leads.stands;
}

pub unanswered : {R F : Type 0} (m : Moment) (t : Turn) (last : Bool) (r : Result Answer TurnError) (why : TurnError) (taken : Option (List ℕ)) (clients : ClientsState R F) (left : Option (List Stamp))
    → LeadsTo (IsTurn stock m t last r) clients left → r ≡ Err why → LeadsTo (IsUnanswered why m t last taken taken) clients left
unanswered m t last r why taken clients left leads is = record {
  now = leads.now;
  holds = record { turn = subst (λ (x : Result Answer TurnError). IsTurn stock m t last x leads.now) is leads.holds; silent = refl };
  stands = leads.stands;
}

-- ---- one answer more

answers_push : (answers : List TurnAnswer) (o : TurnAnswer) → answers_text (answers ++ o ∷ []) ≡ answers_text answers ++ joined (reply_lines o.client o.answer)
answers_push answers o =
    flat_map-append (λ (x : TurnAnswer). joined (reply_lines x.client x.answer)) answers (o ∷ [])
    ∙ ap (λ (text : List ℕ). answers_text answers ++ text) (append-nil (joined (reply_lines o.client o.answer)))

-- the turn at a place, with its flag
pub flags_length : (turns : List Turn) → length (last_flags turns) ≡ length turns
flags_length [] = refl
flags_length (t ∷ turns) = ap suc (flags_length turns)

flagged_length : (turns : List Turn) → length (flagged turns) ≡ length turns
flagged_length [] = refl
flagged_length (t ∷ turns) = ap suc (flagged_length turns)

flagged_get : (turns : List Turn) (k : ℕ) (f : FlaggedTurn) → k < length turns → f.turn ≡ get_or turns k f.turn → slice_get (last_flags turns) k ≡ Some f.is_last → get_or (flagged turns) k f ≡ f
flagged_get [] k f within is at = absurd (omega (arith, within))
flagged_get (u ∷ turns) zero f within is at =
    ap (λ (x : Turn). record { turn = x; is_last = is_last u turns }) (sym is) ∙ ap (λ (b : Bool). record { turn = f.turn; is_last = b }) (same_Some (is_last u turns) f.is_last at)
flagged_get (u ∷ turns) (suc k) f within is at = flagged_get turns k f (omega (arith, within)) is at

module _ (turns : List Turn) (k : ℕ) (f : FlaggedTurn) (within : k < length turns) (is : f.turn ≡ get_or turns k f.turn) (at : slice_get (last_flags turns) k ≡ Some f.is_last) where
  inside : k < length (flagged turns)
  inside = omega (arith, within, flagged_length turns)

  turn_at : drop k (flagged turns) ≡ f ∷ drop (k + 1) (flagged turns)
  turn_at = drop_more (flagged turns) k f inside ∙ ap (λ (x : FlaggedTurn). x ∷ drop (k + 1) (flagged turns)) (flagged_get turns k f within is at)

  front_more : take k (flagged turns) ++ f ∷ [] ≡ take (k + 1) (flagged turns)
  front_more = ap (λ (x : FlaggedTurn). take k (flagged turns) ++ x ∷ []) (sym (flagged_get turns k f within is at)) ∙ sym (take_more (flagged turns) k f inside)

-- ---- a run goes on, or stops

module _ {R F : Type 0} (lasts : Type 0) (stands : List ℕ → List Transaction → Type 0) (m : Moment) (turns : List Turn) where
  pub start_run : (taken : Option (List ℕ)) (clients : ClientsState R F) (left : Option (List Stamp)) → StandsForMoment clients left m → m.machine.failed ≡ false
      → (lasts → Leaves Main (λ bytes. stands bytes clients.hub.store.list) clients.hub.store.log)
      → RunsOn lasts stands m [] (flagged turns) taken taken clients.hub.store.log clients left
  start_run taken clients left is whole lasting = record {
    now = m;
    answers = [];
    answered = refl;
    text = Appends-nil taken;
    stands_for = is;
    whole = whole;
    moments = λ lasts. here (λ image left. record {
      given = [];
      more = [];
      parts = refl;
      came = record { front = []; rest = []; parts = refl; at = m; before = refl; after = refl };
      list = next_kept stands m (flagged turns) image (subst (λ (list : List Transaction). stands image list) (sym (is.hub.list (sym is.hub.failed ∙ whole))) (lasting lasts image left));
    });
  }

  module _ (k : ℕ) (t : FlaggedTurn) (rest : List FlaggedTurn) (old mid new : Option (List ℕ)) (log : List Event) (before clients : ClientsState R F) (stamps left : Option (List Stamp))
      (parts : drop k (flagged turns) ≡ t ∷ rest) (runs : RunsOn lasts stands m (take k (flagged turns)) (drop k (flagged turns)) old mid log before stamps)
      (moments : lasts → LeavesOnly Main (IsListIn stands stock runs.now t.turn) before.hub.store.log clients.hub.store.log) where
    whole_parts : flagged turns ≡ take k (flagged turns) ++ (t ∷ rest)
    whole_parts = sym (take-append-drop k (flagged turns)) ∙ ap (λ (ts : List FlaggedTurn). take k (flagged turns) ++ ts) parts

    -- the moment that it is now
    of_now : (bytes : List ℕ) → IsListIn stands stock runs.now t.turn bytes → IsOfRun stands m (take k (flagged turns)) (t ∷ rest) runs.answers runs.now bytes
    of_now bytes is = record {
      given = runs.answers;
      more = [];
      parts = sym (append-nil runs.answers);
      came = record { front = take k (flagged turns); rest = []; parts = sym (append-nil (take k (flagged turns))); at = runs.now; before = runs.answered; after = refl };
      list = is;
    }

    all_moments : lasts → LeavesOnly Main (IsOfRun stands m (take k (flagged turns)) (t ∷ rest) runs.answers runs.now) log clients.hub.store.log
    all_moments known = along_joined (Leaves Main (IsOfRun stands m (take k (flagged turns)) (t ∷ rest) runs.answers runs.now)) log before.hub.store.log clients.hub.store.log
        (subst (λ (ts : List FlaggedTurn). LeavesOnly Main (IsOfRun stands m (take k (flagged turns)) ts runs.answers runs.now) log before.hub.store.log) parts (runs.moments known))
        (leaves_less Main (IsListIn stands stock runs.now t.turn) (IsOfRun stands m (take k (flagged turns)) (t ∷ rest) runs.answers runs.now) before.hub.store.log clients.hub.store.log of_now (moments known))

    -- the same of the run with its turn
    more_moments : (now : Moment) (a : Answer) → IsTurn stock runs.now t.turn t.is_last (Ok a) now → lasts
        → LeavesOnly Main (IsOfRun stands m (take k (flagged turns) ++ t ∷ []) rest (runs.answers ++ record { client = t.turn.client; answer = a } ∷ []) now) log clients.hub.store.log
    more_moments now a turn known =
        leaves_less Main (IsOfRun stands m (take k (flagged turns)) (t ∷ rest) runs.answers runs.now) (IsOfRun stands m (take k (flagged turns) ++ t ∷ []) rest (runs.answers ++ record { client = t.turn.client; answer = a } ∷ []) now) log clients.hub.store.log
        (of_run_more stands m runs.now now (take k (flagged turns)) t rest runs.answers a turn) (all_moments known)

    pub go_on : LeadsTo (IsReplied (Appends mid new) runs.now t.turn t.is_last) clients left → RunsOn lasts stands m (take k (flagged turns) ++ t ∷ []) rest old new log clients left
    go_on leads =
        let r = leads.holds in record {
          now = leads.now;
          answers = runs.answers ++ record { client = t.turn.client; answer = r.answer } ∷ [];
          answered = out_push stock m runs.now leads.now (take k (flagged turns)) t runs.answers r.answer runs.answered r.turn;
          text = subst (Appends old new) (sym (answers_push runs.answers (record { client = t.turn.client; answer = r.answer }))) (Appends-trans old mid new (answers_text runs.answers) (joined (reply_lines t.turn.client r.answer)) runs.text r.text);
          stands_for = leads.stands;
          whole = (turn_keeps stock runs.now t.turn t.is_last r.answer leads.now r.turn).failed ∙ runs.whole;
          moments = more_moments leads.now r.answer r.turn;
        }

    stop_answered : LeadsTo (IsReplied (AppendsPrefix mid new) runs.now t.turn t.is_last) clients left → Stops lasts stands None m turns old new log clients left
    stop_answered leads =
        let r = leads.holds in record {
          now = leads.now;
          came = record {
            taken = take k (flagged turns) ++ t ∷ [];
            later = rest;
            parts = whole_parts ∙ sym (append_assoc (take k (flagged turns)) (t ∷ []) rest);
            answers = runs.answers ++ record { client = t.turn.client; answer = r.answer } ∷ [];
            behind = leads.now;
            answered = out_push stock m runs.now leads.now (take k (flagged turns)) t runs.answers r.answer runs.answered r.turn;
            ends = refl;
          };
          text = subst (AppendsPrefix old new) (sym (answers_push runs.answers (record { client = t.turn.client; answer = r.answer }))) (behind_prefix old mid new (answers_text runs.answers) (joined (reply_lines t.turn.client r.answer)) runs.text r.text);
          stands_for = leads.stands;
          around = λ none. absurd cc;
          moments = more_moments leads.now r.answer r.turn;
        }

    written_of : (why : TurnError) (new : Option (List ℕ)) → new ≡ mid → IsWrittenOf (Some why) old new (answers_text runs.answers)
    written_of turn_error.StoreFault new is = subst (λ (x : Option (List ℕ)). Appends old x (answers_text runs.answers)) (sym is) runs.text
    written_of turn_error.Memory new is = subst (λ (x : Option (List ℕ)). AppendsPrefix old x (answers_text runs.answers)) (sym is) (all_front old mid (answers_text runs.answers) runs.text)

    stop_broken : (why : TurnError) → LeadsTo (IsUnanswered why runs.now t.turn t.is_last mid new) clients left → Stops lasts stands (Some why) m turns old new log clients left
    stop_broken why leads =
        let r = leads.holds in record {
          now = leads.now;
          came = record {
            taken = take k (flagged turns);
            later = t ∷ rest;
            parts = whole_parts;
            answers = runs.answers;
            behind = runs.now;
            answered = runs.answered;
            ends = r.turn;
          };
          text = written_of why new r.silent;
          stands_for = leads.stands;
          around = λ is known. along_now (Leaves Main (IsListIn stands stock runs.now t.turn)) before.hub.store.log clients.hub.store.log (moments known);
          moments = all_moments;
        }

    pub stop : (e : RunError) → LeadsTo (IsStopped e runs.now t.turn t.is_last mid new) clients left → Stops lasts stands (broke_of e) m turns old new log clients left
    stop (errors.Turn why) leads = stop_broken why leads
    stop errors.Memory leads = stop_answered leads
    stop errors.SinkFault leads = stop_answered leads

  -- from the turn at a place to the next one
  pub turn_more : (k : ℕ) (t : Turn) (flag : Bool) (old mid new : Option (List ℕ)) (log : List Event) (before clients : ClientsState R F) (stamps left : Option (List Stamp))
      → k < length turns → t ≡ get_or turns k t → slice_get (last_flags turns) k ≡ Some flag
      → (runs : RunsOn lasts stands m (take k (flagged turns)) (drop k (flagged turns)) old mid log before stamps)
      → (lasts → LeavesOnly Main (IsListIn stands stock runs.now t) before.hub.store.log clients.hub.store.log)
      → LeadsTo (IsReplied (Appends mid new) runs.now t flag) clients left
      → RunsOn lasts stands m (take (k + 1) (flagged turns)) (drop (k + 1) (flagged turns)) old new log clients left
  turn_more k t flag old mid new log before clients stamps left within is at runs moments leads =
      let f : FlaggedTurn = record { turn = t; is_last = flag } in
      subst (λ (ts : List FlaggedTurn). RunsOn lasts stands m ts (drop (k + 1) (flagged turns)) old new log clients left) (front_more turns k f within is at)
      (go_on k f (drop (k + 1) (flagged turns)) old mid new log before clients stamps left (turn_at turns k f within is at) runs moments leads)

  pub turn_last : (k : ℕ) (t : Turn) (flag : Bool) (old mid new : Option (List ℕ)) (log : List Event) (before clients : ClientsState R F) (stamps left : Option (List Stamp)) (e : RunError)
      → k < length turns → t ≡ get_or turns k t → slice_get (last_flags turns) k ≡ Some flag
      → (runs : RunsOn lasts stands m (take k (flagged turns)) (drop k (flagged turns)) old mid log before stamps)
      → (lasts → LeavesOnly Main (IsListIn stands stock runs.now t) before.hub.store.log clients.hub.store.log)
      → LeadsTo (IsStopped e runs.now t flag mid new) clients left
      → Stops lasts stands (broke_of e) m turns old new log clients left
  turn_last k t flag old mid new log before clients stamps left e within is at runs moments leads =
      let f : FlaggedTurn = record { turn = t; is_last = flag } in
      stop k f (drop (k + 1) (flagged turns)) old mid new log before clients stamps left (turn_at turns k f within is at) runs moments e leads

  pub all_taken : (k : ℕ) (old mid : Option (List ℕ)) (log : List Event) (clients : ClientsState R F) (left : Option (List Stamp)) → length turns ≤ k
      → RunsOn lasts stands m (take k (flagged turns)) (drop k (flagged turns)) old mid log clients left → RunsOn lasts stands m (flagged turns) [] old mid log clients left
  all_taken k old mid log clients left past runs =
      let over : length (flagged turns) ≤ k = omega (arith, past, flagged_length turns) in
      let front = subst (λ (ts : List FlaggedTurn). RunsOn lasts stands m ts (drop k (flagged turns)) old mid log clients left) (take_all k (flagged turns) over) runs in
      subst (λ (ts : List FlaggedTurn). RunsOn lasts stands m (flagged turns) ts old mid log clients left) (drop_all k (flagged turns) over) front
