-- What a line of a client with a link did to the hub, whatever its store tells, and what a crash leaves in it.
use Rattle.std.proofs.Common.{◌≡◌, ◌≢◌, ◌⊎◌, ℕ, Bool, true, false, List, [], Option, Some, None, Result, Ok, Err, refl, sym, ap, subst, ◌∙◌, inl, inr}
use Rattle.std.specs.Prelude.{IsOk}
use Rattle.zb_ids.specs.declared.stamp.Stamp.{Stamp}
use Rattle.zb_volume.specs.Calls.{Event}
use Rattle.zb_volume.specs.declared.areas.Area.TheVariants.{Main}
use Rattle.zb_volume.specs.Moments.{Leaves, LeavesOnly, here}
use Rattle.zb_volume.specs.Runs.{along_now, joined, leaves_less}
use Rattle.zb_model.specs.declared.data.Transaction.{Transaction}
use Rattle.zb_model.specs.declared.pending.PendingCheck.{PendingCheck}
use Rattle.zb_model.specs.declared.pending.PendingStore.{PendingStore}
use Rattle.zb_model.specs.declared.refusal.Refusal.{Refusal}
use Rattle.zb_model.specs.declared.refusal.Refusal.TheVariants as refusal
use Rattle.zb_model.specs.Rules.{MergeRules}
use Rattle.zb_answers.specs.declared.answer.Answer.{Answer}
use Rattle.zb_answers.specs.declared.answer.Answer.TheVariants as answer
use Rattle.zb_script.specs.declared.line.Line.{Line}
use Rattle.zb_script.specs.declared.line.Line.TheVariants as line
use Rattle.commit_phases.specs.Pending.{PendingChanges, pending_of}
use Rattle.zodb_core.specs.declared.reply.Reply.{Reply}
use Rattle.zodb_core.specs.declared.reply.Reply.TheVariants as reply
use Rattle.zodb_core.specs.declared.request.Request.{Request}
use Rattle.zodb_core.specs.declared.request.Request.TheVariants as request
use Rattle.zodb_core.specs.HubState.{HubState, IsBeforeOrBehind, StandsForMachine, counts_of, is_store_failed, rules_of}
use Rattle.zodb_core.specs.Machine.{Machine, Rules}
use Rattle.zodb_core.specs.Outcomes.{FaultCounts, outcome_of_refusal}
use Rattle.zodb_core.specs.Steps.{step_of}
use Rattle.connection_view.specs.declared.connection.Connection.{Connection}
use Rattle.connection_view.specs.declared.loads.Loaded.{Loaded}
use Rattle.connection_view.specs.Works.{Work}
use Rattle.connection_view.specs.Connections.{IsReadBy, begin_refusal, changeable, followed_by, unmixed, work_of}
use Rattle.connection_view.specs.Connections as connections
use Rattle.connection_view.specs.Loading.{Vote}
use Rattle.connection_view.specs.ViewLaws.{unopened}
use Rattle.connection_view.specs.Views.{Client}
use Rattle.zeo_serving.specs.Serving.{synced, view_at}
use Rattle.zeo_client.specs.Hearing.{Held}
use Rattle.zeo_messages.specs.declared.answer.Answer.{Answer as FarAnswer}
use Rattle.zeo_messages.specs.declared.call.Call.{Call}
use Rattle.hub_carrier.specs.declared.trouble.Trouble.{Trouble}
use Rattle.hub_carrier.specs.declared.trouble.Trouble.TheVariants as trouble
use Rattle.hub_carrier.specs.Ends.{HubEnd, StepsThere, end_at, machine_at}
use Rattle.hub_carrier.specs.Later.{IsLaterEnd, IsMovedBy, is_store_fault}
use Rattle.remote_loads.specs.Finishing.{FinishSteps, IsRemoteFinish, finish_and_front, finish_answered, finish_committed, finish_lost, no_finish, not_finished, one_finish}
use Rattle.remote_loads.specs.Making.{IsRemoteLoad, IsRemoteUndo, IsRemoteVote, MakesOne, cached, makes_answered, makes_lost, makes_none, makes_unsent, missed, not_undone, not_voted, starved, undone, voted}
use Rattle.remote_loads.specs.Standing.{Stands}
use Rattle.client_turns.specs.declared.linked.LinkedClient.{LinkedClient}
use Rattle.client_turns.specs.Asking.{IsCalm}
use Rattle.client_turns.specs.Clients.{Moment}
use Rattle.client_turns.specs.Lines.{IsCountedBy, outcome_of_answer}
use Rattle.client_turns.specs.Linked.{MayStand}
use Rattle.client_turns.specs.Members.{far}
use Rattle.client_turns.specs.OverCarrier.{AbortOver, BeginOver, CalledOver, DeliverOver, FinishOver, GotOver, LineOver, LinkAt, MakesAt, MayBeAt, PutOver, ReadOver, UndoOver, VoteOver, called, heard, put_read, put_refused, put_unread, uncalled, unheard}
use Rattle.client_turns.specs.Settling.{calm, calm_answer, settled}
use Rattle.client_turns.specs.Standing.{IsEndListOf, IsListOf, LeavesHub}
use Rattle.client_turns.specs.Steps.{IsStepAt}
use Rattle.client_turns.specs.TurnLaws.{step_at_left, step_left}
use Rattle.client_turns.proofs.Crashes.{kept_moments, left_moments}
use Rattle.client_turns.proofs.Framing.{calm_counts, calm_whole}
use Rattle.client_turns.proofs.LinkEnds.{LinkEnd, link_end}
use Rattle.client_turns.proofs.One.{StepsTo, steps_to}

-- ---- requests that leave the list

pub record LeavesList (q : Request) : Type 0 where
  pub made : (rules : Rules) (m : Machine) (n : ℕ) → (step_of rules m n q 0).machine.list ≡ m.list
  pub behind : (rules : Rules) (m : Moment) (n : ℕ) (r : Reply) (now : Moment) → IsStepAt rules m n q r now → now.machine.list ≡ m.machine.list

pub front_leaves : LeavesList request.Front
front_leaves = record { made = λ rules m n. step_left rules m n request.Front 0; behind = λ rules m n r now is. step_at_left rules m n request.Front r now is }

pub abort_leaves : LeavesList request.Abort
abort_leaves = record { made = λ rules m n. step_left rules m n request.Abort 0; behind = λ rules m n r now is. step_at_left rules m n request.Abort r now is }

pub load_leaves : (oid front : ℕ) → LeavesList (request.LoadBefore oid front)
load_leaves oid front = record { made = λ rules m n. step_left rules m n (request.LoadBefore oid front) 0; behind = λ rules m n r now is. step_at_left rules m n (request.LoadBefore oid front) r now is }

pub vote_leaves : (user description extension : List ℕ) (pending : PendingChanges) → LeavesList (request.Vote user description extension pending)
vote_leaves user description extension pending = record {
  made = λ rules m n. step_left rules m n (request.Vote user description extension pending) 0;
  behind = λ rules m n r now is. step_at_left rules m n (request.Vote user description extension pending) r now is;
}

pub undo_leaves : (user description tids : List ℕ) → LeavesList (request.Undo user description tids)
undo_leaves user description tids = record { made = λ rules m n. step_left rules m n (request.Undo user description tids) 0; behind = λ rules m n r now is. step_at_left rules m n (request.Undo user description tids) r now is }

-- ---- which steps are made

module _ {S : Type 0} (steps : Request → Reply → S → S → Type 0) where
  -- steps that leave the list, one behind another
  pub data IsStill : S → S → Type 0 where
    stays : (s : S) → IsStill s s
    goes : (q : Request) (r : Reply) (s t u : S) → LeavesList q → steps q r s t → IsStill t u → IsStill s u

  pub one_still : {T : Type 0} (q : Request) (call : Call) (said : FarAnswer → Result T Refusal) (s : S) → LeavesList q → (result : Result T Refusal) (u : S) → MakesOne steps q call said s result u → IsStill s u
  one_still q call said s leaves _ _ (makes_unsent error is) = stays s
  one_still q call said s leaves _ _ (makes_none r way) = stays s
  one_still q call said s leaves _ _ (makes_lost r answer u way step) = goes q answer s u u leaves step (stays u)
  one_still q call said s leaves _ _ (makes_answered answer u step) = goes q answer s u u leaves step (stays u)

  pub load_still : (s : S) (old : Held) (oid front : ℕ) (result : Result Loaded Refusal) (u : S) → IsRemoteLoad steps s old oid front result u → IsStill s u
  load_still s old oid front _ _ (cached found is) = stays s
  load_still s old oid front _ _ starved = stays s
  load_still s old oid front _ _ (missed result u none made) = one_still (request.LoadBefore oid front) _ _ s (load_leaves oid front) result u made

  pub vote_still : (s : S) (user description : List ℕ) (stores : List PendingStore) (checks : List PendingCheck) (result : Result (Unit {0}) Refusal) (u : S) → IsRemoteVote steps s user description stores checks result u → IsStill s u
  vote_still s user description stores checks _ _ not_voted = stays s
  vote_still s user description stores checks _ _ (voted result u made) = one_still (request.Vote user description [] (record { stores = stores; checks = checks })) _ _ s (vote_leaves user description [] (record { stores = stores; checks = checks })) result u made

  pub undo_still : (s : S) (user description tids : List ℕ) (result : Result (Unit {0}) Refusal) (u : S) → IsRemoteUndo steps s user description tids result u → IsStill s u
  undo_still s user description tids _ _ (not_undone r is) = stays s
  undo_still s user description tids _ _ (undone result u within made) = one_still (request.Undo user description tids) _ _ s (undo_leaves user description tids) result u made

  -- a finish, or none, and behind a commit steps that leave the list
  pub data IsFinishing (s : S) : S → Type 0 where
    unfinished : IsFinishing s s
    finished : (r : Reply) (u : S) → steps request.Finish r s u → IsFinishing s u
    committed_on : (tid : ℕ) (r : Reply) (t u v : S) → steps request.Finish (reply.Committed tid) s t → steps request.Front r t u → IsStill u v → IsFinishing s v

  finish_steps : (s u : S) → FinishSteps steps s u → IsFinishing s u
  finish_steps s _ no_finish = unfinished
  finish_steps s _ (one_finish said u step) = finished said u step
  finish_steps s _ (finish_and_front tid said between u commit front) = committed_on tid said between u u commit front (stays u)

  pub finishing : (s : S) (result : Result (Option ℕ) Refusal) (u : S) → IsRemoteFinish steps s result u → IsFinishing s u
  finishing s _ _ (not_finished error is) = unfinished
  finishing s _ _ (finish_lost r u way made) = finish_steps s u made
  finishing s _ _ (finish_answered said u step none) = finished said u step
  finishing s _ _ (finish_committed tid said between middle synced u commit front sync) = committed_on tid said between middle u commit front (one_still request.Front _ _ middle front_leaves sync.0 u sync.1)

-- ---- what a crash leaves in them

module _ {R F : Type 0} (told lasts : Type 0) (stands : List ℕ → List Transaction → Type 0) (rules_in : R → MergeRules) (named_in : F → List ℕ → Option (List ℕ)) (n : ℕ) (tells : told) (on : lasts) where
  abbrev Steps : Request → Reply → HubEnd R F → HubEnd R F → Type 0
  Steps q r s u = StepsThere told lasts stands rules_in named_in n q r s u

  -- a machine behind a step
  abbrev moment_at : Machine → HubEnd R F → Moment
  moment_at m s = record { machine = m; clients = []; stamps = s.stamps; counts = counts_of s.hub.store }

  behind : (q : Request) (r : Reply) (s u : HubEnd R F) (m : Machine) → StandsForMachine s.hub m → Steps q r s u → StepsTo (rules_of rules_in named_in s.hub) (moment_at m s) n q r u.hub u.stamps
  behind q r s u m is step = steps_to told lasts stands rules_in named_in tells (moment_at m s) n q r s.hub u.hub s.stamps u.stamps step.step is refl refl

  -- one step of a store that is whole
  one_moments : (q : Request) (r : Reply) (s u : HubEnd R F) (m : Machine) → StandsForMachine s.hub m → s.hub.store.broken ≡ false → LeavesList q → Steps q r s u → LeavesOnly Main (λ bytes. stands bytes m.list) s.hub.store.log u.hub.store.log
  one_moments q r s u m is whole leaves step =
      kept_moments stands (rules_of rules_in named_in s.hub) m n q s.hub.store.log u.hub.store.log (leaves.made (rules_of rules_in named_in s.hub) m n) (step.step.any_moment on tells whole m is)

  pub still_moments : (s u : HubEnd R F) → IsStill Steps s u → (m : Machine) → StandsForMachine s.hub m → Leaves Main (λ bytes. stands bytes m.list) s.hub.store.log → LeavesOnly Main (λ bytes. stands bytes m.list) s.hub.store.log u.hub.store.log
  still_moments _ _ (stays s) m is leaves = here leaves
  still_moments _ _ (goes q r s t u keeps step more) m is leaves = by_broken s.hub.store.broken refl (λ k stood left. still_moments t u more k stood left)
    where
      by_broken : (b : Bool) → s.hub.store.broken ≡ b → ((k : Machine) → StandsForMachine t.hub k → Leaves Main (λ bytes. stands bytes k.list) t.hub.store.log → LeavesOnly Main (λ bytes. stands bytes k.list) t.hub.store.log u.hub.store.log)
          → LeavesOnly Main (λ bytes. stands bytes m.list) s.hub.store.log u.hub.store.log
      by_broken true broke rest =
          let same : t.hub ≡ s.hub = (step.step.failed broke).1 in
          let log : t.hub.store.log ≡ s.hub.store.log = ap (λ (h : HubState R F). h.store.log) same in
          subst (λ (l : List Event). LeavesOnly Main (λ bytes. stands bytes m.list) l u.hub.store.log) log
          (rest m (subst (λ (h : HubState R F). StandsForMachine h m) (sym same) is) (subst (λ (l : List Event). Leaves Main (λ bytes. stands bytes m.list) l) (sym log) leaves))
      by_broken false whole rest =
          let to = behind q r s t m is step in
          let list : to.now.machine.list ≡ m.list = keeps.behind (rules_of rules_in named_in s.hub) (moment_at m s) n r to.now to.holds in
          let first = one_moments q r s t m is whole keeps step in
          joined (Leaves Main (λ bytes. stands bytes m.list)) s.hub.store.log t.hub.store.log u.hub.store.log first
          (subst (λ (l : List Transaction). LeavesOnly Main (λ bytes. stands bytes l) t.hub.store.log u.hub.store.log) list
          (rest to.now.machine to.hub
          (subst (λ (l : List Transaction). Leaves Main (λ bytes. stands bytes l) t.hub.store.log) (sym list) (along_now (Leaves Main (λ bytes. stands bytes m.list)) s.hub.store.log t.hub.store.log first))))

  pub finish_moments : (s u : HubEnd R F) → IsFinishing Steps s u → s.hub.store.broken ≡ false → (m : Machine) → StandsForMachine s.hub m → Leaves Main (λ bytes. stands bytes m.list) s.hub.store.log
      → LeavesOnly Main (IsBeforeOrBehind stands (rules_of rules_in named_in s.hub) m n request.Finish) s.hub.store.log u.hub.store.log
  finish_moments s _ unfinished whole m is leaves = here (λ image crash. inl (leaves image crash))
  finish_moments s _ (finished r u step) whole m is leaves = step.step.any_moment on tells whole m is
  finish_moments s _ (committed_on tid r t u v commit front more) whole m is leaves =
      let rules : Rules = rules_of rules_in named_in s.hub in
      let to = behind request.Finish (reply.Committed tid) s t m is commit in
      let whole_then : t.hub.store.broken ≡ false = commit.step.safe.broken whole in
      let next = behind request.Front r t u to.now.machine to.hub front in
      let list : next.now.machine.list ≡ to.now.machine.list = front_leaves.behind (rules_of rules_in named_in t.hub) (moment_at to.now.machine t) n r next.now next.holds in
      let first = one_moments request.Front r t u to.now.machine to.hub whole_then front_leaves front in
      joined (Leaves Main (IsBeforeOrBehind stands rules m n request.Finish)) s.hub.store.log t.hub.store.log v.hub.store.log (commit.step.any_moment on tells whole m is)
      (left_moments stands rules (moment_at m s) to.now n request.Finish (reply.Committed tid) t.hub.store.log v.hub.store.log to.holds
      (joined (Leaves Main (λ bytes. stands bytes to.now.machine.list)) t.hub.store.log u.hub.store.log v.hub.store.log first
      (subst (λ (l : List Transaction). LeavesOnly Main (λ bytes. stands bytes l) u.hub.store.log v.hub.store.log) list
      (still_moments u v more next.now.machine next.hub
      (subst (λ (l : List Transaction). Leaves Main (λ bytes. stands bytes l) u.hub.store.log) (sym list) (along_now (Leaves Main (λ bytes. stands bytes to.now.machine.list)) t.hub.store.log u.hub.store.log first))))))

-- ---- what the calls of a connection make, by who may be at the link

module _ {E : Type 0} (told : Type 0) (steps : ℕ → Request → Reply → E → E → Type 0) (machine : E → Machine) (tells : told) (x y : Connection) (a b : LinkAt E) (v : Client) (stood : Stands (machine a.there) a.session a.desk a.client v) where
  abbrev Still : Type 0
  Still = IsStill (steps a.session) a.there b.there

  unmoved : b ≡ a → Still
  unmoved is = subst (λ (l : LinkAt E). IsStill (steps a.session) a.there l.there) (sym is) (stays a.there)

  begun_still : (reply : Answer) → BeginOver told steps machine x a reply y b → Still
  begun_still reply o = by_refusal (begin_refusal (work_of x)) refl
    where
      by_refusal : (r : Option Refusal) → begin_refusal (work_of x) ≡ r → Still
      by_refusal (Some r) is = unmoved (o.refused r is).1
      by_refusal None is = subst (λ (e : E). IsStill (steps a.session) a.there e) (sym (((o.makes is).1) tells v stood).0) (stays a.there)

  aborted_still : (reply : Answer) → AbortOver told steps machine x a reply y b → Still
  aborted_still reply o = by_work (work_of x) refl
    where
      by_work : (wr : Result Work Refusal) → work_of x ≡ wr → Still
      by_work (Err r) is = unmoved (o.refused r is).1
      by_work (Ok w) is = one_still (steps a.session) request.Abort _ _ a.there abort_leaves o.result b.there (o.makes w is tells v stood)

  voted_still : (user description : List ℕ) (reply : Answer) → VoteOver told steps machine x a user description reply y b → Still
  voted_still user description reply o = by_work (changeable (work_of x)) refl
    where
      by_work : (wr : Result Work Refusal) → changeable (work_of x) ≡ wr → Still
      by_work (Err r) is = unmoved (o.refused r is).1
      by_work (Ok w) is = by_call (o.makes w is)
        where
          by_call : connections.IsCallMade (MakesAt told steps machine) a b (Vote user description w.pending.stores w.pending.checks o.result) o.result → Still
          by_call (inl made) = vote_still (steps a.session) a.there user description w.pending.stores w.pending.checks o.result b.there (made tells v stood)
          by_call (inr none) = unmoved none.0

  undone_still : (user description tids : List ℕ) (reply : Answer) → UndoOver told steps machine x a user description tids reply y b → Still
  undone_still user description tids reply o = by_work (followed_by (changeable (work_of x)) unmixed) refl
    where
      by_work : (wr : Result Work Refusal) → followed_by (changeable (work_of x)) unmixed ≡ wr → Still
      by_work (Err r) is = unmoved (o.refused r is).1
      by_work (Ok w) is = undo_still (steps a.session) a.there user description tids o.result b.there (o.makes (subst IsOk (sym is) refl) tells v stood)

  read_still : (oid front switches : ℕ) (result : Result (ℕ × List ℕ) Refusal) → IsReadBy (MakesAt told steps machine) a b oid front switches result → Still
  read_still oid front switches result (inl none) = unmoved none.0
  read_still oid front switches result (inr loaded) = load_still (steps a.session) a.there a.client.held oid front loaded.0 b.there (loaded.1 tells v stood)

  pub loaded_still : (oid : ℕ) (result : Result (ℕ × List ℕ) Refusal) → ReadOver told steps machine x a oid result y b → Still
  loaded_still oid result o = by_work (work_of x) refl
    where
      by_work : (wr : Result Work Refusal) → work_of x ≡ wr → Still
      by_work (Err r) is = unmoved (o.refused r is).1
      by_work (Ok w) is = read_still oid w.front w.switches result (o.makes w is)

  pub got_still : (oid : ℕ) (result : Result (ℕ × List ℕ) Refusal) → GotOver told steps machine x a oid result y b → Still
  got_still oid result o = by_work (work_of x) refl
    where
      by_pending : (w : Work) → work_of x ≡ Ok w → (p : Option PendingStore) → pending_of w.pending.stores oid ≡ p → Still
      by_pending w is (Some p) waits = unmoved (o.waiting w p is waits).1
      by_pending w is None waits = read_still oid w.front w.switches result (o.makes w is waits)

      by_work : (wr : Result Work Refusal) → work_of x ≡ wr → Still
      by_work (Err r) is = unmoved (o.refused r is).1
      by_work (Ok w) is = by_pending w is (pending_of w.pending.stores oid) refl

  pub finished_so : (reply : Answer) → FinishOver told steps machine x a reply y b → (w : Work) → work_of x ≡ Ok w → IsFinishing (steps a.session) a.there b.there
  finished_so reply o w is = finishing (steps a.session) a.there o.result b.there (o.makes w is tells v stood)

  pub unfinished_so : (reply : Answer) → FinishOver told steps machine x a reply y b → (r : Refusal) → work_of x ≡ Err r → b ≡ a
  unfinished_so reply o r is = (o.refused r is).1

module _ {E : Type 0} (told : Type 0) (steps : ℕ → Request → Reply → E → E → Type 0) (machine : E → Machine) (tells : told) (x y : Connection) (a b : LinkAt E) (v : Client) (stood : Stands (machine a.there) a.session a.desk a.client v) where
  abbrev StillSo : Type 0
  StillSo = IsStill (steps a.session) a.there b.there

  kept_so : b ≡ a → StillSo
  kept_so is = unmoved told steps machine tells x y a b v stood is

  delivered_still : (reply : Answer) → DeliverOver told steps machine x a reply y b → StillSo
  delivered_still reply (unheard r hears is kept) = let front = (hears tells v stood).1 in one_still (steps a.session) request.Front _ _ a.there front_leaves front.0 b.there front.1
  delivered_still reply (heard f mid hears session o) = by_work (work_of x) refl
    where
      sync : IsStill (steps a.session) a.there mid.there
      sync = let front = (hears tells v stood).1 in one_still (steps a.session) request.Front _ _ a.there front_leaves front.0 mid.there front.1

      made : (work_of x ≢ Err refusal.NotOpen) → StillSo
      made is_open =
          let there : MayBeAt told steps machine mid (synced (view_at (machine a.there)) v) = (tells, subst (λ (n : ℕ). Stands (machine mid.there) n mid.desk mid.client (synced (view_at (machine a.there)) v)) (sym session) (hears tells v stood).0) in
          subst (λ (e : E). IsStill (steps a.session) a.there e) (sym (((o.makes is_open).1) tells (synced (view_at (machine a.there)) v) there.1).0) sync

      by_refusal : (r : Refusal) → work_of x ≡ Err r → (r ≡ refusal.NotOpen) ⊎ (r ≡ refusal.NoTransaction) → StillSo
      by_refusal r is (inl e) = subst (λ (l : LinkAt E). IsStill (steps a.session) a.there l.there) (sym (o.refused (is ∙ ap (λ (z : Refusal). let w : Result Work Refusal = Err z in w) e)).1) sync
      by_refusal r is (inr e) = made (λ shut. other (sym shut ∙ is ∙ ap (λ (z : Refusal). let w : Result Work Refusal = Err z in w) e))
        where
          other : (let w : Result Work Refusal = Err refusal.NotOpen in w) ≡ Err refusal.NoTransaction → ⊥
          other e = absurd cc

      by_work : (wr : Result Work Refusal) → work_of x ≡ wr → StillSo
      by_work (Ok w) is = made (λ shut. other (sym is ∙ shut))
        where
          other : (let z : Result Work Refusal = Ok w in z) ≡ Err refusal.NotOpen → ⊥
          other e = absurd cc
      by_work (Err r) is = by_refusal r is (unopened x r is)

  put_still : (oid : ℕ) (bytes : List ℕ) (reply : Answer) → PutOver told steps machine x a oid bytes reply y b → StillSo
  put_still oid bytes reply (put_refused r may kept is) = kept_so kept
  put_still oid bytes reply (put_unread mid result r may got is said) = got_still told steps machine tells mid y a b v stood oid got.0 got.2
  put_still oid bytes reply (put_read mid result base read may got is change) = got_still told steps machine tells mid read a b v stood oid got.0 got.2

  -- each line but a finish
  pub line_still : (l : Line) (reply : Answer) → (l ≡ line.Finish → ⊥) → CalledOver told steps machine l x a reply y b → StillSo
  line_still line.Begin reply apart o = begun_still told steps machine tells x y a b v stood reply o
  line_still (line.Load oid) reply apart o = loaded_still told steps machine tells x y a b v stood oid o.0 o.2
  line_still (line.Get oid) reply apart o = got_still told steps machine tells x y a b v stood oid o.2.0 o.2.2
  line_still (line.Store oid base bytes) reply apart o = kept_so o.kept
  line_still (line.Put oid bytes) reply apart o = put_still oid bytes reply o
  line_still (line.Check oid serial) reply apart o = kept_so o.kept
  line_still (line.Delete oid base) reply apart o = kept_so o.kept
  line_still line.Savepoint reply apart o = kept_so o.change.kept
  line_still (line.Rollback number) reply apart o = kept_so o.kept
  line_still (line.Vote user description) reply apart o = voted_still told steps machine tells x y a b v stood user description reply o
  line_still (line.Undo user description tids) reply apart o = undone_still told steps machine tells x y a b v stood user description tids reply o
  line_still line.Finish reply apart o = absurd (apart refl)
  line_still line.Abort reply apart o = aborted_still told steps machine tells x y a b v stood reply o
  line_still line.Deliver reply apart o = delivered_still reply o
  line_still _ reply apart o = absurd o

-- ---- how it ended

-- an answer where nothing went wrong says nothing of a fault
calm_ends : (r : Refusal) → IsCalm (outcome_of_refusal (calm r))
calm_ends refusal.LinkFault = inr refl
calm_ends refusal.Closed = inr refl
calm_ends refusal.Memory = inr refl
calm_ends refusal.StoreFault = inl refl
calm_ends refusal.ReadFault = inl refl
calm_ends _ = inl refl

calm_said : (a : Answer) → IsCalm (outcome_of_answer (calm_answer a))
calm_said (answer.Refused why) = calm_ends why
calm_said _ = inl refl

pub settled_counts : (before now : FaultCounts) (a : Answer) (t : Trouble) → IsMovedBy before now t → IsCountedBy before now (outcome_of_answer (settled a t))
settled_counts before now a trouble.NoFault is = subst (λ (c : FaultCounts). IsCountedBy before c (outcome_of_answer (calm_answer a))) (sym is) (calm_counts (outcome_of_answer (calm_answer a)) before (calm_said a))
settled_counts before now a trouble.ReadFault is = is
settled_counts before now a trouble.StoreFault is = is

pub settled_failed : (a : Answer) (t : Trouble) → is_store_failed (outcome_of_answer (settled a t)) ≡ is_store_fault t
settled_failed a trouble.NoFault = calm_whole (outcome_of_answer (calm_answer a)) (calm_said a)
settled_failed a trouble.ReadFault = refl
settled_failed a trouble.StoreFault = refl

-- ---- the hub behind a line

-- what stands for the list may be seen in each line
end_seen : (stands : List ℕ → List Transaction → Type 0) (rules : Rules) (n : ℕ) (w : Result Work Refusal) (m : Machine) (bytes : List ℕ) → stands bytes m.list → IsEndListOf stands rules n w m bytes
end_seen stands rules n (Err r) m bytes left = left
end_seen stands rules n (Ok w) m bytes left = inl left

line_seen : (stands : List ℕ → List Transaction → Type 0) (rules : Rules) (x : LinkedClient) (l : Line) (m : Machine) (bytes : List ℕ) → stands bytes m.list → IsListOf stands rules (Some (far x)) l m bytes
line_seen stands rules x line.Finish m bytes left = end_seen stands rules x.session (work_of x.connection) m bytes left
line_seen stands rules x (line.Pack tid collect) m bytes left = inl left
line_seen stands rules x line.PackTurn m bytes left = inl left
line_seen stands rules x _ m bytes left = left

module _ {R F : Type 0} (told lasts : Type 0) (stands : List ℕ → List Transaction → Type 0) (rules_in : R → MergeRules) (named_in : F → List ℕ → Option (List ℕ)) (x y : LinkedClient) (h g : HubState R F) (before after : Option (List Stamp)) (packs : Bool) (t : Trouble) where
  abbrev rules : Rules
  rules = rules_of rules_in named_in h

  abbrev All : ℕ → Request → Reply → HubEnd R F → HubEnd R F → Type 0
  All n q r s u = StepsThere told lasts stands rules_in named_in n q r s u

  abbrev old : LinkEnd R F
  old = link_end (end_at h before false trouble.NoFault) x

  abbrev new : LinkEnd R F
  new = link_end (end_at g after packs t) y

  abbrev Seen : Line → Machine → Type 0
  Seen l m = LeavesOnly Main (IsListOf stands rules (Some (far x)) l m) h.store.log g.store.log

  still_seen : (l : Line) (m : Machine) → LeavesOnly Main (λ bytes. stands bytes m.list) h.store.log g.store.log → Seen l m
  still_seen l m only = leaves_less Main (λ bytes. stands bytes m.list) (IsListOf stands rules (Some (far x)) l m) h.store.log g.store.log (line_seen stands rules x l m) only

  moments_of : (l : Line) (raw : Answer) → LineOver told All (λ e. machine_at e.hub) l x.connection old raw y.connection new → lasts → told → (v : Client) → Stands (machine_at h) x.session x.desk x.client v → h.store.broken ≡ false → (m : Machine) → StandsForMachine h m
      → Leaves Main (λ bytes. stands bytes m.list) h.store.log → Seen l m
  moments_of l raw (uncalled is kept same) on tells v stood whole m there leaves =
      still_seen l m (subst (λ (z : LinkEnd R F). LeavesOnly Main (λ bytes. stands bytes m.list) h.store.log z.there.hub.store.log) (sym same) (here leaves))
  moments_of l raw (called o) on tells v stood whole m there leaves = by_line l raw o
    where
      finish_seen : (raw : Answer) → FinishOver told All (λ e. machine_at e.hub) x.connection old raw y.connection new → (w : Result Work Refusal) → work_of x.connection ≡ w → Seen line.Finish m
      finish_seen raw o (Err r) is =
          let same = unfinished_so told All (λ e. machine_at e.hub) tells x.connection y.connection old new v stood raw o r is in
          still_seen line.Finish m (subst (λ (z : LinkEnd R F). LeavesOnly Main (λ bytes. stands bytes m.list) h.store.log z.there.hub.store.log) (sym same) (here leaves))
      finish_seen raw o (Ok w) is =
          subst (λ (z : Result Work Refusal). LeavesOnly Main (IsEndListOf stands rules x.session z m) h.store.log g.store.log) (sym is)
          (finish_moments told lasts stands rules_in named_in x.session tells on old.there new.there (finished_so told All (λ e. machine_at e.hub) tells x.connection y.connection old new v stood raw o w is) whole m there leaves)

      other_seen : (l : Line) (raw : Answer) → (l ≡ line.Finish → ⊥) → CalledOver told All (λ e. machine_at e.hub) l x.connection old raw y.connection new → Seen l m
      other_seen l raw apart o = still_seen l m (still_moments told lasts stands rules_in named_in x.session tells on old.there new.there (line_still told All (λ e. machine_at e.hub) tells x.connection y.connection old new v stood l raw apart o) m there leaves)

      by_line : (l : Line) (raw : Answer) → CalledOver told All (λ e. machine_at e.hub) l x.connection old raw y.connection new → Seen l m
      by_line line.Finish raw o = finish_seen raw o (work_of x.connection) refl
      by_line l raw o = other_seen l raw (λ e. absurd cc) o

  pub linked_hub : (l : Line) (raw given : Answer) → LineOver told All (λ e. machine_at e.hub) l x.connection old raw y.connection new → given ≡ settled raw t → IsLaterEnd lasts (end_at h before false trouble.NoFault) (end_at g after packs t)
      → LeavesHub (told × MayStand h x) lasts stands rules (Some (far x)) l (outcome_of_answer given) h g
  linked_hub l raw given over is later = subst (λ (z : Answer). LeavesHub (told × MayStand h x) lasts stands rules (Some (far x)) l (outcome_of_answer z) h g) (sym is) (record {
    resolver = later.resolver;
    refs = later.refs;
    later = later.later;
    cause = settled_counts (counts_of h.store) (counts_of g.store) raw t (later.counts (counts_of h.store) refl);
    broken = λ whole. later.broken whole ∙ sym (settled_failed raw t);
    side = λ on none. later.side on refl;
    moments = λ on may whole m there leaves. moments_of l raw over on may.0 may.1.0 may.1.1 whole m there leaves;
  })
