-- Calls that are made, of the messages that they are made of.
use Rattle.std.proofs.Common.{◌≡◌, ◌<◌, ◌≤◌, ℕ, true, false, List, Option, Some, None, Result, Ok, Err, map, refl, sym, subst}
use Rattle.std.specs.Prelude.{is_ok}
use Rattle.zb_model.specs.declared.pending.PendingCheck.{PendingCheck}
use Rattle.zb_model.specs.declared.pending.PendingStore.{PendingStore}
use Rattle.zb_model.specs.declared.refusal.Refusal.{Refusal}
use Rattle.zb_model.specs.declared.refusal.Refusal.TheVariants as refusal
use Rattle.zodb_core.specs.declared.reply.Reply.{Reply}
use Rattle.zodb_core.specs.declared.request.Request.{Request}
use Rattle.connection_view.specs.declared.loads.Loaded.{Loaded}
use Rattle.connection_view.specs.declared.loads.Loaded.TheVariants as loaded
use Rattle.zeo_frames.specs.declared.limit.TheConstants.{FRAME_LIMIT}
use Rattle.zeo_messages.specs.declared.answer.Answer.{Answer}
use Rattle.zeo_messages.specs.declared.call.Call.{Call}
use Rattle.zeo_messages.specs.declared.call.Call.TheVariants as calls
use Rattle.zeo_messages.specs.Calls.{fits_call, is_falling}
use Rattle.zeo_values.specs.Values.{AreIds}
use Rattle.zeo_desk.specs.Desks.{DeskState}
use Rattle.zeo_cache.specs.Intervals.{HoldsSame}
use Rattle.zeo_client.specs.Asking.{IsTooLong, call_frames, call_length, check_call, number_behind, store_call, vote_calls}
use Rattle.zeo_client.specs.Renewing.{HoldsUnless, IsAskedBeside, IsButCache, found_known, standing_as}
use Rattle.zeo_client.specs.Taking.{ClientState}
use Rattle.zeo_serving.specs.Serving.{asks_for}
use Rattle.remote_loads.specs.Answers.{count_answer, done_answer, finish_answer, load_answer, tid_answer}
use Rattle.remote_loads.specs.Causes.{IsUndoRefused, behind_commit}
use Rattle.remote_loads.specs.Finishing.{IsDropped, IsFinishMade, IsToldBehind, asks_nothing, finish_commits, finish_empty, finish_refused, told_behind}
use Rattle.remote_loads.specs.Making.{AreHeld, IsAskedFor, IsLoadMade, IsMadeBy, IsUndoMade, IsVoteMade, IsVoteSpelled, asks_all, free_if_done, hit, left_alone, made_by, miss, no_room, undo_asked, undo_unasked, vote_sent, vote_unsent, waiting_for_vote}
use Rattle.remote_loads.specs.Registering.{IsRegistered, register_refused, register_synced}
use Rattle.remote_loads.specs.Talking.{IsAsked, Talks}
use Rattle.remote_loads.proofs.Numbers.{vote_held}

-- a call that is so long doesn't fit
pub too_long : (call : Call) (n : ℕ) → n ≡ call_length call → FRAME_LIMIT < n → IsTooLong call n
too_long call n is above = record { long = sym is; above = above }

-- the messages of a vote are spelled by a client that has asked for it
pub vote_spelled : (user description : List ℕ) (to_store stores : List PendingStore) (to_check checks : List PendingCheck) (old mid new : ClientState) (text : List ℕ) → to_store ≡ stores → to_check ≡ checks
    → IsAskedBeside to_store old.held.standing.asked mid.held.standing.asked → mid ≡ standing_as old (record old.held.standing { asked = mid.held.standing.asked })
    → AreHeld (map store_call to_store) → AreHeld (map check_call to_check)
    → text ≡ call_frames mid.number (vote_calls user description to_store to_check) → new ≡ record mid { number = number_behind mid.number (vote_calls user description to_store to_check); last = Some calls.Vote }
    → IsVoteSpelled user description stores checks old new text
vote_spelled user description to_store stores to_check checks old mid new text same alike asked others held also spelled waits =
    subst (λ (ps : List PendingStore). IsVoteSpelled user description ps checks old new text) same
    (subst (λ (ks : List PendingCheck). IsVoteSpelled user description to_store ks old new text) alike
    (record { mid = mid; asked = record { asked = asked; others = others }; held = vote_held user description to_store to_check held also; spelled = spelled; waits = waits }))

module _ {S : Type 0} (steps : Request → Reply → S → S → Type 0) (before : S) (d : DeskState) (old : ClientState) where
  -- ---- a call by its message alone

  module _ {T : Type 0} (call : Call) (answer_of : Answer → Result T Refusal) where
    pub made_refused : (r : Refusal) (new : ClientState) (now : S) (left : DeskState) → IsAsked steps before d old call (Err r) new now left → IsMadeBy steps before d old call answer_of left_alone (Err r) new now left
    made_refused r new now left asked = made_by (Err r) new now left asked

    pub made_answers : (answer : Answer) (result : Result T Refusal) (new : ClientState) (now : S) (left : DeskState) → IsAsked steps before d old call (Ok answer) new now left → result ≡ answer_of answer
        → IsMadeBy steps before d old call answer_of left_alone result new now left
    made_answers answer result new now left asked is = subst (λ (k : Result T Refusal). IsMadeBy steps before d old call answer_of left_alone k new now left) (sym is) (made_by (Ok answer) new now left asked)

  -- ---- an abort

  pub abort_refused : (r : Refusal) (new : ClientState) (now : S) (left : DeskState) → IsAsked steps before d old calls.TpcAbort (Err r) new now left
      → IsMadeBy steps before d old calls.TpcAbort done_answer free_if_done (Err r) new now left
  abort_refused r new now left asked = made_by (Err r) new now left asked

  pub abort_answers : (answer : Answer) (result : Result (Unit {0}) Refusal) (new : ClientState) (now : S) (left : DeskState) → IsAsked steps before d old calls.TpcAbort (Ok answer) new now left → result ≡ done_answer answer
      → IsMadeBy steps before d old calls.TpcAbort done_answer free_if_done result (free_if_done result new) now left
  abort_answers answer result new now left asked is =
      subst (λ (k : Result (Unit {0}) Refusal). IsMadeBy steps before d old calls.TpcAbort done_answer free_if_done k (free_if_done k new) now left) (sym is) (made_by (Ok answer) new now left asked)

  module _ (answer : Answer) (mid : ClientState) (now : S) (left : DeskState) (asked : IsAsked steps before d old calls.TpcAbort (Ok answer) mid now left) where
    pub abort_frees : (result : Result (Unit {0}) Refusal) (new : ClientState) → result ≡ done_answer answer → true ≡ is_ok result → new ≡ asks_nothing mid
        → IsMadeBy steps before d old calls.TpcAbort done_answer free_if_done result new now left
    abort_frees (Ok done) new is so free =
        subst (λ (k : ClientState). IsMadeBy steps before d old calls.TpcAbort done_answer free_if_done (Ok done) k now left) (sym free) (abort_answers answer (Ok done) mid now left asked is)
    abort_frees (Err r) new is so free = let bad : true ≡ false = so in absurd cc

    pub abort_keeps : (result : Result (Unit {0}) Refusal) → result ≡ done_answer answer → false ≡ is_ok result → IsMadeBy steps before d old calls.TpcAbort done_answer free_if_done result mid now left
    abort_keeps (Ok done) is so = let bad : false ≡ true = so in absurd cc
    abort_keeps (Err r) is so = abort_answers answer (Err r) mid now left asked is

  -- ---- a load

  pub load_starved : (oid front : ℕ) → IsLoadMade steps before d old oid front (Err refusal.Memory) old before d
  load_starved oid front = no_room

  pub load_hit : (oid front serial : ℕ) (bytes : List ℕ) (new : ClientState) → found_known old.held oid front ≡ Some (serial, bytes) → HoldsSame old.held.cache.entries new.held.cache.entries → IsButCache old new
      → IsLoadMade steps before d old oid front (Ok (loaded.Held serial bytes)) new before d
  load_hit oid front serial bytes new there same others = hit (serial, bytes) new there (record { same = same; others = others })

  pub load_refused : (oid front : ℕ) (mid : ClientState) (r : Refusal) (new : ClientState) (now : S) (left : DeskState) → found_known old.held oid front ≡ None → HoldsSame old.held.cache.entries mid.held.cache.entries → IsButCache old mid
      → IsAsked steps before d mid (calls.LoadBefore oid front) (Err r) new now left → IsLoadMade steps before d old oid front (Err r) new now left
  load_refused oid front mid r new now left none same others asked = miss mid (Err r) new now left none (record { same = same; others = others }) asked

  pub load_answers : (oid front : ℕ) (mid : ClientState) (answer : Answer) (result : Result Loaded Refusal) (new : ClientState) (now : S) (left : DeskState) → found_known old.held oid front ≡ None
      → HoldsSame old.held.cache.entries mid.held.cache.entries → IsButCache old mid → IsAsked steps before d mid (calls.LoadBefore oid front) (Ok answer) new now left → result ≡ load_answer answer
      → IsLoadMade steps before d old oid front result new now left
  load_answers oid front mid answer result new now left none same others asked is =
      subst (λ (k : Result Loaded Refusal). IsLoadMade steps before d old oid front k new now left) (sym is) (miss mid (Ok answer) new now left none (record { same = same; others = others }) asked)

  -- ---- a vote

  module _ (user description : List ℕ) (stores : List PendingStore) (checks : List PendingCheck) where
    pub vote_stays : (r : Refusal) (new : ClientState) → r ≡ refusal.Memory → IsAskedFor stores old new → IsVoteMade steps before d old user description stores checks (Err r) new before d
    vote_stays r new is asked = subst (λ (k : Refusal). IsVoteMade steps before d old user description stores checks (Err k) new before d) (sym is) (vote_unsent new asked)

    module _ (text : List ℕ) (waits : ClientState) (s : IsVoteSpelled user description stores checks old waits text) where
      talks : (result : Result Answer Refusal) (new : ClientState) (now : S) (left : DeskState) → Talks steps before d waits text result new now left
          → Talks steps before d (waiting_for_vote s.mid (vote_calls user description stores checks)) (call_frames s.mid.number (vote_calls user description stores checks)) result new now left
      talks result new now left is =
          subst (λ (t : List ℕ). Talks steps before d (waiting_for_vote s.mid (vote_calls user description stores checks)) t result new now left) s.spelled
          (subst (λ (k : ClientState). Talks steps before d k text result new now left) s.waits is)

      pub vote_refused : (r : Refusal) (new : ClientState) (now : S) (left : DeskState) → Talks steps before d waits text (Err r) new now left → IsVoteMade steps before d old user description stores checks (Err r) new now left
      vote_refused r new now left is = vote_sent s.mid (Err r) new now left s.asked s.held (talks (Err r) new now left is)

      pub vote_answers : (answer : Answer) (result : Result (Unit {0}) Refusal) (new : ClientState) (now : S) (left : DeskState) → Talks steps before d waits text (Ok answer) new now left → result ≡ done_answer answer
          → IsVoteMade steps before d old user description stores checks result new now left
      vote_answers answer result new now left is same =
          subst (λ (k : Result (Unit {0}) Refusal). IsVoteMade steps before d old user description stores checks k new now left) (sym same)
          (vote_sent s.mid (Ok answer) new now left s.asked s.held (talks (Ok answer) new now left is))

  -- ---- an undo

  module _ (user description tids : List ℕ) (mid : ClientState) (all : mid ≡ asks_all old) where
    pub undo_stays : (r : Refusal) → IsUndoRefused (calls.Undoa user description tids) (is_falling tids) r → IsUndoMade steps before d old user description tids (Err r) mid before d
    undo_stays r why = subst (λ (k : ClientState). IsUndoMade steps before d old user description tids (Err r) k before d) (sym all) (undo_unasked r why)

    asked_so : (call : Call) (result : Result Answer Refusal) (new : ClientState) (now : S) (left : DeskState) → call ≡ calls.Undoa user description tids → IsAsked steps before d mid call result new now left
        → IsAsked steps before d (asks_all old) (calls.Undoa user description tids) result new now left
    asked_so call result new now left is asked =
        subst (λ (k : Call). IsAsked steps before d (asks_all old) k result new now left) is (subst (λ (k : ClientState). IsAsked steps before d k call result new now left) all asked)

    pub undo_refused : (call : Call) (r : Refusal) (new : ClientState) (now : S) (left : DeskState) → call ≡ calls.Undoa user description tids → fits_call call ≡ true → call_length call ≤ FRAME_LIMIT → AreIds tids
        → IsAsked steps before d mid call (Err r) new now left → IsUndoMade steps before d old user description tids (Err r) new now left
    undo_refused call r new now left is fits within ids asked = undo_asked (Err r) new now left ids (subst (λ (k : Call). fits_call k ≡ true) is fits) (subst (λ (k : Call). call_length k ≤ FRAME_LIMIT) is within) (asked_so call (Err r) new now left is asked)

    pub undo_answers : (call : Call) (answer : Answer) (result : Result (Unit {0}) Refusal) (new : ClientState) (now : S) (left : DeskState) → call ≡ calls.Undoa user description tids → fits_call call ≡ true → call_length call ≤ FRAME_LIMIT → AreIds tids
        → IsAsked steps before d mid call (Ok answer) new now left → result ≡ done_answer answer → IsUndoMade steps before d old user description tids result new now left
    undo_answers call answer result new now left is fits within ids asked same =
        subst (λ (k : Result (Unit {0}) Refusal). IsUndoMade steps before d old user description tids k new now left) (sym same)
        (undo_asked (Ok answer) new now left ids (subst (λ (k : Call). fits_call k ≡ true) is fits) (subst (λ (k : Call). call_length k ≤ FRAME_LIMIT) is within) (asked_so call (Ok answer) new now left is asked))

  -- ---- a finish

  pub behind_refused : (tid : ℕ) (why r : Refusal) (new : ClientState) (now : S) (left : DeskState) → IsMadeBy steps before d old calls.Sync count_answer left_alone (Err why) new now left → r ≡ behind_commit why
      → IsToldBehind steps before d old tid (Err r) new now left
  behind_refused tid why r new now left made is = subst (λ (k : Refusal). IsToldBehind steps before d old tid (Err k) new now left) (sym is) (told_behind (Err why) new now left made)

  pub behind_told : (tid front : ℕ) (new : ClientState) (now : S) (left : DeskState) → IsMadeBy steps before d old calls.Sync count_answer left_alone (Ok front) new now left → IsToldBehind steps before d old tid (Ok (Some tid)) new now left
  behind_told tid front new now left made = told_behind (Ok front) new now left made

  module _ (mid : ClientState) (dropped : HoldsUnless (λ oid. asks_for old.held.standing.asked oid) old.held.cache.entries mid.held.cache.entries) (others : IsButCache old mid) where
    drop : IsDropped old mid
    drop = record { dropped = dropped; others = others }

    pub finish_unheard : (r : Refusal) (new : ClientState) (now : S) (left : DeskState) → IsAsked steps before d mid calls.TpcFinish (Err r) new now left → IsFinishMade steps before d old (Err r) new now left
    finish_unheard r new now left asked = finish_refused mid (Err r) r new now left drop asked refl

    pub finish_refuses : (answer : Answer) (r : Refusal) (new : ClientState) (now : S) (left : DeskState) → IsAsked steps before d mid calls.TpcFinish (Ok answer) new now left → Err r ≡ finish_answer answer
        → IsFinishMade steps before d old (Err r) new now left
    finish_refuses answer r new now left asked is = finish_refused mid (Ok answer) r new now left drop asked (sym is)

    pub finish_empties : (answer : Answer) (new last : ClientState) (now : S) (left : DeskState) → IsAsked steps before d mid calls.TpcFinish (Ok answer) new now left → Ok None ≡ finish_answer answer → last ≡ asks_nothing new
        → IsFinishMade steps before d old (Ok None) last now left
    finish_empties answer new last now left asked is free =
        subst (λ (k : ClientState). IsFinishMade steps before d old (Ok None) k now left) (sym free) (finish_empty mid (Ok answer) new now left drop asked (sym is))

    pub finish_commits_so : (answer : Answer) (tid : ℕ) (new free : ClientState) (now : S) (left : DeskState) (told : Result (Option ℕ) Refusal) (last : ClientState) (end : S) (gone : DeskState)
        → IsAsked steps before d mid calls.TpcFinish (Ok answer) new now left → Ok (Some tid) ≡ finish_answer answer → free ≡ asks_nothing new → IsToldBehind steps now left free tid told last end gone
        → IsFinishMade steps before d old told last end gone
    finish_commits_so answer tid new free now left told last end gone asked is same behind =
        finish_commits mid (Ok answer) tid new now left told last end gone drop asked (sym is) (subst (λ (k : ClientState). IsToldBehind steps now left k tid told last end gone) same behind)

  -- ---- a registering

  pub register_unheard : (r : Refusal) (new : ClientState) (now : S) (left : DeskState) → IsAsked steps before d old (calls.Register false) (Err r) new now left → IsRegistered steps before d old (Err r) new now left
  register_unheard r new now left asked = register_refused (Err r) r new now left asked refl

  pub register_refuses : (answer : Answer) (r : Refusal) (new : ClientState) (now : S) (left : DeskState) → IsAsked steps before d old (calls.Register false) (Ok answer) new now left → Err r ≡ tid_answer answer
      → IsRegistered steps before d old (Err r) new now left
  register_refuses answer r new now left asked is = register_refused (Ok answer) r new now left asked (sym is)

  pub register_syncs : (answer : Answer) (tid : ℕ) (new : ClientState) (now : S) (left : DeskState) (synced : Result ℕ Refusal) (last : ClientState) (end : S) (gone : DeskState)
      → IsAsked steps before d old (calls.Register false) (Ok answer) new now left → Ok tid ≡ tid_answer answer → IsMadeBy steps now left new calls.Sync count_answer left_alone synced last end gone
      → IsRegistered steps before d old synced last end gone
  register_syncs answer tid new now left synced last end gone asked is made = register_synced (Ok answer) tid new now left synced last end gone asked (sym is) made

-- behind a commit, where the session is the one that it was
pub finish_goes_on : {S : Type 0} (steps : ℕ → Request → Reply → S → S → Type 0) (n k : ℕ) (before : S) (d : DeskState) (old mid : ClientState)
    → HoldsUnless (λ oid. asks_for old.held.standing.asked oid) old.held.cache.entries mid.held.cache.entries → IsButCache old mid
    → (answer : Answer) (tid : ℕ) (new free : ClientState) (now : S) (left : DeskState) (told : Result (Option ℕ) Refusal) (last : ClientState) (end : S) (gone : DeskState)
    → IsAsked (steps n) before d mid calls.TpcFinish (Ok answer) new now left → Ok (Some tid) ≡ finish_answer answer → free ≡ asks_nothing new → k ≡ n → IsToldBehind (steps k) now left free tid told last end gone
    → IsFinishMade (steps n) before d old told last end gone
finish_goes_on steps n k before d old mid dropped others answer tid new free now left told last end gone asked is same session behind =
    finish_commits_so (steps n) before d old mid dropped others answer tid new free now left told last end gone asked is same
    (subst (λ (j : ℕ). IsToldBehind (steps j) now left free tid told last end gone) session behind)
