-- What the votes and the undos of a remote client leave and make.
use Rattle.std.proofs.Common.{◌≡◌, inl, inr, ℕ, ◌<◌, ◌^◌, true, false, List, [], ◌∷◌, Result, refl, sym, ap, subst, ◌∙◌}
use Rattle.std.proofs.lemmas.Bool.{true≢false}
use Rattle.zb_model.specs.declared.pending.PendingCheck.{PendingCheck}
use Rattle.zb_model.specs.declared.pending.PendingStore.{PendingStore}
use Rattle.zb_model.specs.declared.refusal.Refusal.{Refusal}
use Rattle.commit_phases.specs.Pending.{PendingChanges}
use Rattle.zodb_core.specs.declared.reply.Reply.{Reply}
use Rattle.zodb_core.specs.declared.request.Request.{Request}
use Rattle.zodb_core.specs.declared.request.Request.TheVariants as request
use Rattle.zodb_core.specs.Machine.{Machine}
use Rattle.zodb_core.specs.Outcomes.{outcome_of}
use Rattle.connection_view.specs.Loading.{AreVotable, IsShortText}
use Rattle.connection_view.specs.Views.{Client, each_object, is_one_of, stored_in, voting}
use Rattle.zeo_messages.specs.declared.answer.Answer.{Answer}
use Rattle.zeo_messages.specs.declared.call.Call.{Call}
use Rattle.zeo_messages.specs.declared.call.Call.TheVariants as calls
use Rattle.zeo_messages.specs.declared.message.Message.TheVariants.{Asked}
use Rattle.zeo_messages.specs.Messages.{payload_of}
use Rattle.zeo_reading.specs.Reading.{AreReadBack}
use Rattle.zeo_desk.specs.Desks.{DeskState}
use Rattle.zeo_serving.specs.declared.standing.MayChange.{MayChange}
use Rattle.zeo_serving.specs.MayLaws.{may_alone, may_step}
use Rattle.zeo_serving.specs.Serving.{IsServed, asks_for}
use Rattle.zeo_serving.specs.VoteLaws.{also_free, asks_more, left_true, undo_stays, vote_stays}
use Rattle.zeo_client.specs.Asking.{call_frames, next_number, number_behind, vote_calls}
use Rattle.zeo_client.specs.Hearing.{Held}
use Rattle.zeo_client.specs.Renewing.{IsAskedBeside}
use Rattle.zeo_client.specs.Taking.{ClientState}
use Rattle.zeo_client.specs.Whole.{WholePiecesAreHeard}
use Rattle.remote_loads.specs.Answers.{done_answer}
use Rattle.remote_loads.specs.Carrying.{IsMachineStep}
use Rattle.remote_loads.specs.Leaving.{UndoLeaves, VoteLeaves}
use Rattle.remote_loads.specs.Making.{AreHeld, IsAskedFor, IsUndoMade, IsVoteMade, answered_so, asks_all, not_undone, not_voted, undo_asked, undo_unasked, undone, vote_sent, vote_unsent, voted, waiting_for_vote}
use Rattle.remote_loads.specs.Served.{IsAnsweredAtOnce, MaySteps, Serves, ServesFront, no_step}
use Rattle.remote_loads.specs.Standing.{IsAtRest, Stands}
use Rattle.remote_loads.specs.Talking.{IsCalled, Talks}
use Rattle.remote_loads.specs.KnownLaws.{known_may}
use Rattle.remote_loads.proofs.BrokenCall.{one_call_breaks}
use Rattle.remote_loads.proofs.Called.{IsServedAt, NamesOne, asked_so, next_low, talked_so}
use Rattle.remote_loads.proofs.Loading.{MayBeAt}
use Rattle.remote_loads.proofs.Loads.{makes_one}
use Rattle.remote_loads.proofs.OneCall.{one_call}
use Rattle.remote_loads.proofs.Rows.{undo_row, vote_row}
use Rattle.remote_loads.proofs.Staying.{called_stays}
use Rattle.remote_loads.proofs.Waiting.{Stays, WaitsFor, before_vote, frames_spelled, front_waits, number_last, payloads_behind, serves_waits, vote_named, vote_waits}

-- ---- undos

-- a client that asks for all may ask for an undo
all_asked : (m : Machine) (n : ℕ) (old : ClientState) (c : Client) → MayBeAt m n old.held c → MayBeAt m n (asks_all old).held (voting each_object c)
all_asked m n old c may =
    may_alone m n old.held.standing (asks_all old).held.standing old.held.cache.entries old.held.cache.entries c (voting each_object c) may.front may.switches
    (λ at sound x. asks_more at n each_object sound old.held.standing (asks_all old).held.standing.asked old.held.cache.entries c (λ oid free. absurd (true≢false free)) x) may

-- what the client asked for stays asked for, whatever is heard of it
abbrev AllAt : (S : Type 0) → (S → Machine) → ℕ → Client → S → Held → Type 0
AllAt S machine n c s h = MayBeAt (machine s) n h (voting each_object c) × (h.standing.asked.all ≡ true)

undo_step : (m : Machine) (n : ℕ) (user description tids : List ℕ) (r : Reply) (now : Machine) (c : Client) (h : Held) → IsMachineStep m n (request.Undo user description tids) r now → h.standing.asked.all ≡ true
    → MayBeAt m n h (voting each_object c) → MayBeAt now n h (voting each_object c)
undo_step m n user description tids r now c h step all may =
    known_may step.left now n h.standing h.cache.entries (voting each_object c) step.known
    (may_step step.rules m n (request.Undo user description tids) step.stamp (record { reply = r; machine = step.left; ticks = step.ticks }) step.before step.after
    h.standing h.standing h.cache.entries h.cache.entries (voting each_object c) (voting each_object c) step.made may (record {
      formed = tt;
      whole = λ sound x. undo_stays step.rules m n user description tids step.stamp (outcome_of r) sound h.standing h.cache.entries c all x;
      lost = λ is at sound x. x;
      front = may.front;
      switches = may.switches;
    }))

-- ---- votes

-- what the stores name is asked for
abbrev Covers : List PendingStore → Held → Type 0
Covers stores h = (oid : ℕ) → asks_for h.standing.asked oid ≡ false → stored_in stores oid ≡ false

free_both : (stores : List PendingStore) (old new : MayChange) → IsAskedBeside stores old new → (oid : ℕ) → asks_for new oid ≡ false → (asks_for old oid ≡ false) × (stored_in stores oid ≡ false)
free_both stores old new (inl same) oid free = also_free stores old oid (subst (λ (a : MayChange). asks_for a oid ≡ false) same free)
free_both stores old new (inr all) oid free = absurd (true≢false (sym (left_true new.all (is_one_of new.oids oid) all) ∙ free))

module _ (stores : List PendingStore) (old new : ClientState) (is : IsAskedFor stores old new) where
  standing_is : new.held.standing ≡ record old.held.standing { asked = new.held.standing.asked }
  standing_is = ap (λ (k : ClientState). k.held.standing) is.others

  asked_covers : Covers stores new.held
  asked_covers oid free = (free_both stores old.held.standing.asked new.held.standing.asked is.asked oid free).1

  asked_at : (m : Machine) (n : ℕ) (c : Client) → MayBeAt m n old.held c → MayBeAt m n new.held (voting (stored_in stores) c)
  asked_at m n c may =
      may_alone m n old.held.standing new.held.standing old.held.cache.entries new.held.cache.entries c (voting (stored_in stores) c) may.front may.switches
      (λ at sound x.
      subst (λ (k : ClientState). IsServed at n k.held.standing k.held.cache.entries (voting (stored_in stores) c)) (sym is.others)
      (asks_more at n (stored_in stores) sound old.held.standing new.held.standing.asked old.held.cache.entries c (free_both stores old.held.standing.asked new.held.standing.asked is.asked) x)) may

  asked_rest : (d : DeskState) → IsAtRest d old → IsAtRest d new
  asked_rest d rest = subst (λ (k : ClientState). IsAtRest d k) (sym is.others) (record { registered = rest.registered; end = rest.end; reading = rest.reading })

vote_step : (m : Machine) (n : ℕ) (user description : List ℕ) (pending : PendingChanges) (r : Reply) (now : Machine) (c : Client) (h : Held) → AreVotable pending.stores → IsMachineStep m n (request.Vote user description [] pending) r now
    → Covers pending.stores h → MayBeAt m n h (voting (stored_in pending.stores) c) → MayBeAt now n h (voting (stored_in pending.stores) c)
vote_step m n user description pending r now c h votable step covers may =
    known_may step.left now n h.standing h.cache.entries (voting (stored_in pending.stores) c) step.known
    (may_step step.rules m n (request.Vote user description [] pending) step.stamp (record { reply = r; machine = step.left; ticks = step.ticks }) step.before step.after
    h.standing h.standing h.cache.entries h.cache.entries (voting (stored_in pending.stores) c) (voting (stored_in pending.stores) c) step.made may (record {
      formed = record { distinct = votable.distinct; filled = votable.filled };
      whole = λ sound x. vote_stays step.rules m n user description [] pending step.stamp (outcome_of r) sound h.standing h.cache.entries c covers x;
      lost = λ is at sound x. x;
      front = may.front;
      switches = may.switches;
    }))

module _ {S : Type 0} (steps : Request → Reply → S → S → Type 0) (machine : S → Machine) (n : ℕ) (stepped : (q : Request) (r : Reply) (s t : S) → steps q r s t → IsMachineStep (machine s) n q r (machine t)) (read_back : AreReadBack) (whole : WholePiecesAreHeard) where
  pub undo_leaves : (before now : S) (d left : DeskState) (old new : ClientState) (user description tids : List ℕ) (result : Result (Unit {0}) Refusal)
      → IsUndoMade steps before d old user description tids result new now left → (c : Client) → Stands (machine before) n d old c → UndoLeaves steps machine n before user description tids c result new now left
  undo_leaves before _ d _ old _ user description tids _ (undo_unasked r why) c x = record {
    stands = record { served = all_asked (machine before) n old c x.served; rest = record { registered = x.rest.registered; end = x.rest.end; reading = x.rest.reading } };
    made = not_undone r why;
  }
  undo_leaves before _ d _ old _ user description tids _ (undo_asked result new now left held fits within asked) c x =
      let names : NamesOne (calls.Undoa user description tids) (request.Undo user description tids) = record { held = held; row = fits; once = record { last = λ r. refl; answer = λ r. refl; long = λ k. refl }; names = λ k number. refl } in
      let called = asked_so steps whole (calls.Undoa user description tids) (request.Undo user description tids)
      (λ reply s t step. undo_row (machine s) n user description tids reply (machine t) (stepped (request.Undo user description tids) reply s t step)) names.once read_back names before d (asks_all old)
      (record { registered = x.rest.registered; end = x.rest.end; reading = x.rest.reading }) result new now left asked in
      let kept : AllAt S machine n c now new.held = called_stays steps (request.Undo user description tids) (calls.Undoa user description tids) (AllAt S machine n c) (λ a h k same. same)
      (λ r s t h step all. (undo_step (machine s) n user description tids r (machine t) c h (stepped (request.Undo user description tids) r s t step) all.1 all.0, all.1)) before now (asks_all old).held new.held result called.0
      (all_asked (machine before) n old c x.served, refl) in
      record {
        stands = record { served = kept.0; rest = called.1 };
        made = undone (answered_so done_answer result) now within (makes_one steps (request.Undo user description tids) (calls.Undoa user description tids) done_answer before now (asks_all old).held new.held result called.0);
      }

  module _ (user description : List ℕ) (stores : List PendingStore) (checks : List PendingCheck) (short_user : IsShortText user) (short_description : IsShortText description) (votable : AreVotable stores) where
    abbrev asked_vote : Request
    asked_vote = request.Vote user description [] (record { stores = stores; checks = checks })

    once : IsAnsweredAtOnce asked_vote
    once = record { last = λ r. refl; answer = λ r. refl; long = λ k. refl }

    abbrev VotedAt : Client → S → Held → Type 0
    VotedAt c s h = MayBeAt (machine s) n h (voting (stored_in stores) c) × Covers stores h

    abbrev first_calls : List Call
    first_calls = before_vote user description stores checks

    module _ (before : S) (d : DeskState) (mid : ClientState) (rest : IsAtRest d mid) (held : AreHeld (vote_calls user description stores checks)) where
      waits : WaitsFor d first_calls user description stores checks
      waits = vote_waits d user description stores checks rest.registered short_user short_description votable held

      -- the number of the vote's own message
      abbrev number : ℕ
      number = next_number (number_behind mid.number first_calls)

      number_is : number_behind mid.number (vote_calls user description stores checks) ≡ number
      number_is = number_last mid.number first_calls calls.Vote

      breaks : (t : S) (k : DeskState) → ServesFront steps d (payloads_behind mid.number (vote_calls user description stores checks)) before k t → MaySteps steps asked_vote before t × (k.registered ≡ true)
      breaks t k front = by_stay (front_waits steps read_back first_calls (calls.Vote ∷ []) mid.number d waits.left k before t rest.registered waits.waits front)
        where
          by_stay : Stays steps read_back waits.left (payload_of (Asked number calls.Vote) ∷ []) before k t → MaySteps steps asked_vote before t × (k.registered ≡ true)
          by_stay (inl none) = (subst (λ (x : S). MaySteps steps asked_vote before x) (sym none.1) no_step, none.0)
          by_stay (inr f) =
              one_call_breaks steps read_back waits.left k number calls.Vote asked_vote before t waits.has.registered (next_low (number_behind mid.number first_calls)) tt refl once
              (vote_named waits.left user description stores checks number waits.has) f

      serves : (out : List (List ℕ)) (t : S) (k : DeskState) → Serves steps d (payloads_behind mid.number (vote_calls user description stores checks)) before out k t
          → IsServedAt steps (number_behind mid.number (vote_calls user description stores checks)) asked_vote before out k t
      serves out t k served =
          let last = serves_waits steps read_back first_calls (calls.Vote ∷ []) mid.number d waits.left k before t out rest.registered waits.waits served in
          let by = one_call steps read_back waits.left k number calls.Vote asked_vote before t out waits.has.registered (next_low (number_behind mid.number first_calls)) tt refl once
          (vote_named waits.left user description stores checks number waits.has) last in
          subst (λ (x : ℕ). IsServedAt steps x asked_vote before out k t) (sym number_is)
          (record { reply = by.reply; step = by.step; held = by.held; sent = by.sent; registered = ap (λ (x : DeskState). x.registered) by.desk ∙ waits.has.registered })

      vote_called : (result : Result Answer Refusal) (new : ClientState) (now : S) (left : DeskState)
          → Talks steps before d (waiting_for_vote mid (vote_calls user description stores checks)) (call_frames mid.number (vote_calls user description stores checks)) result new now left
          → IsCalled steps asked_vote calls.Vote before mid.held result new.held now × IsAtRest left new
      vote_called result new now left talks =
          talked_so steps whole calls.Vote asked_vote
          (λ reply s t step. vote_row (machine s) n user description [] (record { stores = stores; checks = checks }) reply (machine t) (stepped asked_vote reply s t step)) once
          before d (waiting_for_vote mid (vote_calls user description stores checks)) (payloads_behind mid.number (vote_calls user description stores checks))
          (record { registered = rest.registered; end = rest.end; reading = rest.reading }) (subst (λ (x : ℕ). x < 2 ^ 31) (sym number_is) (next_low (number_behind mid.number first_calls))) refl breaks serves result new now left
          (talks _ _ (frames_spelled mid.number (vote_calls user description stores checks)))

    pub vote_leaves : (before now : S) (d left : DeskState) (old new : ClientState) (result : Result (Unit {0}) Refusal) → IsVoteMade steps before d old user description stores checks result new now left
        → (c : Client) → Stands (machine before) n d old c → VoteLeaves steps machine n before user description stores checks c result new now left
    vote_leaves before _ d _ old _ _ (vote_unsent new asked) c x =
        record { stands = record { served = asked_at stores old new asked (machine before) n c x.served; rest = asked_rest stores old new asked d x.rest }; made = not_voted }
    vote_leaves before _ d _ old _ _ (vote_sent mid result new now left asked held talks) c x =
        let called = vote_called before d mid (asked_rest stores old mid asked d x.rest) held result new now left talks in
        let kept : VotedAt c now new.held = called_stays steps asked_vote calls.Vote (VotedAt c) (λ a h k same. same)
        (λ r s t h step all. (vote_step (machine s) n user description (record { stores = stores; checks = checks }) r (machine t) c h votable (stepped asked_vote r s t step) all.1 all.0, all.1)) before now mid.held new.held result called.0
        (asked_at stores old mid asked (machine before) n c x.served, asked_covers stores old mid asked) in
        record {
          stands = record { served = kept.0; rest = called.1 };
          made = voted (answered_so done_answer result) now (makes_one steps asked_vote calls.Vote done_answer before now mid.held new.held result called.0);
        }
