-- What lines of a client did to the hub, over the calls of its connection.
use Rattle.std.proofs.Common.{◌≡◌, ◌⊎◌, ℕ, List, Option, Some, None, Result, Ok, Err, sym, ap, subst, ◌∙◌, refl, inl, inr}
use Rattle.std.specs.Prelude.{IsOk, slice_get}
use Rattle.zb_model.specs.declared.data.Content.TheVariants.{Held}
use Rattle.zb_model.specs.declared.data.Transaction.{Transaction}
use Rattle.zb_model.specs.declared.pending.PendingCheck.{PendingCheck}
use Rattle.zb_model.specs.declared.pending.PendingStore.{PendingStore}
use Rattle.zb_model.specs.declared.refusal.Refusal.{Refusal}
use Rattle.zb_model.specs.declared.refusal.Refusal.TheVariants as refusal
use Rattle.zb_model.specs.Rules.{MergeRules}
use Rattle.zb_answers.specs.declared.answer.Answer.{Answer}
use Rattle.zb_answers.specs.declared.answer.Answer.TheVariants as answer
use Rattle.zb_script.specs.declared.line.Line.{Line}
use Rattle.zb_script.specs.declared.line.Line.TheVariants as line
use Rattle.commit_phases.specs.Pending.{PendingChanges, pending_of}
use Rattle.zodb_core.specs.HubState.{HubState, rules_of}
use Rattle.zodb_core.specs.Machine.{Rules}
use Rattle.zodb_core.specs.Outcomes.{Answered, NoMemory, StepOutcome, outcome_of_refusal}
use Rattle.connection_view.specs.declared.connection.Connection.{Connection}
use Rattle.connection_view.specs.Works.{Work}
use Rattle.connection_view.specs.Connections.{IsCallMade, IsFrontBy, IsPutAsRead, IsReadBy, LeavesWork, begin_refusal, changeable, checked_in_work, deleted_in_work, followed_by, rolled_back, rolled_back_to, saved, stored_in_work, unmixed, waiting_read, work_of}
use Rattle.connection_view.specs.Loading.{Abort, Finish, LoadsCall, Undo, Vote}
use Rattle.connection_view.specs.Views.{Server, View}
use Rattle.connection_view.specs.Views as views
use Rattle.local_loads.specs.Local.{LocalState}
use Rattle.local_loads.specs.Making.{IsHubStep, IsLocalCall}
use Rattle.client_turns.specs.declared.client.Client.{Client}
use Rattle.client_turns.specs.declared.member.Member.{Member}
use Rattle.client_turns.specs.declared.member.Member.TheVariants.{Near}
use Rattle.client_turns.specs.Calls.{Calls, CallsLine, is_made, is_unmade}
use Rattle.client_turns.specs.Asking.{IsCalm, answered, begun_as, delivered_with, finished_as, saved_as}
use Rattle.client_turns.specs.Lines.{data_of, object_of, outcome_of_answer, outcome_of_read, outcome_of_result}
use Rattle.client_turns.specs.Standing.{LeavesHub, ReadsHub}
use Rattle.client_turns.proofs.Framing.{abort_hub, begin_hub, deliver_hub, finish_hub, get_any, leaves_calm, none_leaves, put_hub, read_any, stored_calm, undo_hub, vote_hub}

-- ---- how answers end

pub data_outcome : (r : Result (ℕ × List ℕ) Refusal) → outcome_of_answer (data_of r) ≡ outcome_of_read r
data_outcome (Ok d) = refl
data_outcome (Err why) = refl

pub object_outcome : (r : Result (ℕ × List ℕ) Refusal) → outcome_of_answer (object_of r) ≡ outcome_of_read r
object_outcome (Ok d) = refl
object_outcome (Err why) = refl

pub result_outcome : (r : Result (ℕ × List ℕ) Refusal) → outcome_of_result r ≡ outcome_of_read r
result_outcome (Ok d) = refl
result_outcome (Err why) = refl

pub answered_outcome : {T : Type 0} → (r : Result T Refusal) (a : Answer) → outcome_of_answer a ≡ Answered → outcome_of_answer (answered r a) ≡ outcome_of_result r
answered_outcome (Ok x) a is = is
answered_outcome (Err why) a is = refl

pub saved_outcome : (r : Result ℕ Refusal) → outcome_of_answer (saved_as r) ≡ outcome_of_result r
saved_outcome (Ok number) = refl
saved_outcome (Err why) = refl

-- ---- what a change is refused

pub checked_calm : (k : PendingCheck) (w : Work) (r : Refusal) → checked_in_work k w ≡ Err r → IsCalm (outcome_of_refusal r)
checked_calm k w r is = absurd cc

pub deleted_calm : (oid base : ℕ) (w : Work) (r : Refusal) → deleted_in_work oid base w ≡ Err r → IsCalm (outcome_of_refusal r)
deleted_calm oid base w r is = absurd cc

pub saved_calm : (w : Work) (r : Refusal) → saved w ≡ Err r → IsCalm (outcome_of_refusal r)
saved_calm w r is = absurd cc

rolled_refused : (w : Work) (number : ℕ) (o : Option PendingChanges) (r : Refusal) → rolled_back_to w number o ≡ Err r → IsCalm (outcome_of_refusal r)
rolled_refused w number (Some pending) r is = absurd cc
rolled_refused w number None r is = inl (sym (ap refused_as is))
  where
    refused_as : Result Work Refusal → StepOutcome
    refused_as (Ok v) = Answered
    refused_as (Err why) = outcome_of_refusal why

pub rolled_calm : (number : ℕ) (w : Work) (r : Refusal) → rolled_back number w ≡ Err r → IsCalm (outcome_of_refusal r)
rolled_calm number w r is = rolled_refused w number (slice_get w.savepoints number) r is

-- `get`
pub get_framed : {R F : Type 0} (told lasts : Type 0) (stands : List ℕ → List Transaction → Type 0) (rules : Rules) (h g : HubState R F) (x : Option Member) (oid : ℕ) (result : Result (ℕ × List ℕ) Refusal) → ReadsHub told lasts stands (outcome_of_result result) h g → (reply : Answer) → reply ≡ object_of result
    → LeavesHub told lasts stands rules x (line.Get oid) (outcome_of_answer reply) h g
get_framed told lasts stands rules h g x oid result reads reply answers =
    (subst (λ (z : StepOutcome). ReadsHub told lasts stands z h g) (result_outcome result ∙ sym (object_outcome result) ∙ sym (ap outcome_of_answer answers)) reads).keeps

-- ---- the lines

module _ {R F S : Type 0} (told lasts : Type 0) (stands : List ℕ → List Transaction → Type 0) (rules_in : R → MergeRules) (named_in : F → List ℕ → Option (List ℕ)) (h g : HubState R F) (x : Client) (l : Connection) (state : S → LocalState R F) (number : S → ℕ) (a b : S) (begins : (state a).hub ≡ h) (ends : (state b).hub ≡ g) where
  -- calls from one state to another
  abbrev pub Made : S → LoadsCall → S → Type 0
  Made o call n = IsLocalCall (IsHubStep told lasts stands rules_in named_in (number o)) call (state o) (state n)

  pub kept_framed : b ≡ a → g ≡ h
  kept_framed is = sym ends ∙ ap (λ (s : S). (state s).hub) is ∙ begins

  -- a read
  pub read_framed : (oid : ℕ) (result : Result (ℕ × List ℕ) Refusal) → ((r : Refusal) → work_of x.connection ≡ Err r → (result ≡ Err r) × (b ≡ a)) → ((w : Work) → work_of x.connection ≡ Ok w → IsReadBy Made a b oid w.front w.switches result)
      → (o : StepOutcome) → o ≡ outcome_of_read result → ReadsHub told lasts stands o h g
  read_framed oid result refused made o is =
      subst (λ (z : HubState R F). ReadsHub told lasts stands o z g) begins
      (subst (λ (z : HubState R F). ReadsHub told lasts stands o (state a).hub z) ends
      (subst (λ (z : StepOutcome). ReadsHub told lasts stands z (state a).hub (state b).hub) (sym is)
      (read_any told lasts stands rules_in named_in (number a) (state a) (state b) Made a b (λ call make. make) (λ e. ap state e) x.connection oid result refused made)))

  -- of what waits, or else a read
  pub got_framed : (oid : ℕ) (result : Result (ℕ × List ℕ) Refusal) → ((w : Work) (p : PendingStore) → work_of x.connection ≡ Ok w → pending_of w.pending.stores oid ≡ Some p → ((result ≡ waiting_read oid p) ⊎ (result ≡ Err refusal.Memory)) × (b ≡ a))
      → ((r : Refusal) → work_of x.connection ≡ Err r → (result ≡ Err r) × (b ≡ a)) → ((w : Work) → work_of x.connection ≡ Ok w → pending_of w.pending.stores oid ≡ None → IsReadBy Made a b oid w.front w.switches result)
      → (o : StepOutcome) → o ≡ outcome_of_read result → ReadsHub told lasts stands o h g
  got_framed oid result waiting refused made o is =
      subst (λ (z : HubState R F). ReadsHub told lasts stands o z g) begins
      (subst (λ (z : HubState R F). ReadsHub told lasts stands o (state a).hub z) ends
      (subst (λ (z : StepOutcome). ReadsHub told lasts stands z (state a).hub (state b).hub) (sym is)
      (get_any told lasts stands rules_in named_in (number a) (state a) (state b) Made a b (λ call make. make) (λ e. ap state e) x.connection oid result waiting refused made)))

  -- `load`
  pub load_framed : (oid : ℕ) (result : Result (ℕ × List ℕ) Refusal) → ((r : Refusal) → work_of x.connection ≡ Err r → (result ≡ Err r) × (b ≡ a)) → ((w : Work) → work_of x.connection ≡ Ok w → IsReadBy Made a b oid w.front w.switches result)
      → (reply : Answer) → reply ≡ data_of result → LeavesHub told lasts stands (rules_of rules_in named_in h) (Some (Near x)) (line.Load oid) (outcome_of_answer reply) h g
  load_framed oid result refused made reply answers = (read_framed oid result refused made (outcome_of_answer reply) (ap outcome_of_answer answers ∙ data_outcome result)).keeps

  -- a change, for which no call is made
  pub change_framed : {T : Type 0} → (f : Work → Result Work Refusal) (result : Result T Refusal) → ((w : Work) (r : Refusal) → f w ≡ Err r → IsCalm (outcome_of_refusal r)) → LeavesWork (followed_by (changeable (work_of x.connection)) f) (work_of x.connection) (work_of l) result → b ≡ a
      → (asked : Line) (o : StepOutcome) → o ≡ outcome_of_result result → LeavesHub told lasts stands (rules_of rules_in named_in h) (Some (Near x)) asked o h g
  change_framed f result calm leaves kept asked o is =
      none_leaves told lasts stands (rules_of rules_in named_in h) h g (Some (Near x)) asked o (subst (λ (z : StepOutcome). IsCalm z) (sym is) (leaves_calm x.connection l f result calm leaves)) (kept_framed kept)

  -- `store`
  pub store_framed : (oid base : ℕ) (bytes : List ℕ) (result : Result (Unit {0}) Refusal) → LeavesWork (followed_by (changeable (work_of x.connection)) (stored_in_work (record { oid = oid; base = base; content = Held bytes }))) (work_of x.connection) (work_of l) result → b ≡ a
      → (reply : Answer) → reply ≡ answered result answer.Stored → LeavesHub told lasts stands (rules_of rules_in named_in h) (Some (Near x)) (line.Store oid base bytes) (outcome_of_answer reply) h g
  store_framed oid base bytes result leaves kept reply answers =
      let p : PendingStore = record { oid = oid; base = base; content = Held bytes } in
      change_framed (stored_in_work p) result (stored_calm p) leaves kept (line.Store oid base bytes) (outcome_of_answer reply) (ap outcome_of_answer answers ∙ answered_outcome result answer.Stored refl)

  -- `delete`
  pub delete_framed : (oid base : ℕ) (result : Result (Unit {0}) Refusal) → LeavesWork (followed_by (changeable (work_of x.connection)) (deleted_in_work oid base)) (work_of x.connection) (work_of l) result → b ≡ a
      → (reply : Answer) → reply ≡ answered result answer.Deleted → LeavesHub told lasts stands (rules_of rules_in named_in h) (Some (Near x)) (line.Delete oid base) (outcome_of_answer reply) h g
  delete_framed oid base result leaves kept reply answers =
      change_framed (deleted_in_work oid base) result (deleted_calm oid base) leaves kept (line.Delete oid base) (outcome_of_answer reply) (ap outcome_of_answer answers ∙ answered_outcome result answer.Deleted refl)

  -- `check`
  pub check_framed : (oid serial : ℕ) (result : Result (Unit {0}) Refusal) → LeavesWork (followed_by (changeable (work_of x.connection)) (checked_in_work (record { oid = oid; serial = serial }))) (work_of x.connection) (work_of l) result → b ≡ a
      → (reply : Answer) → reply ≡ answered result answer.Checked → LeavesHub told lasts stands (rules_of rules_in named_in h) (Some (Near x)) (line.Check oid serial) (outcome_of_answer reply) h g
  check_framed oid serial result leaves kept reply answers =
      let c : PendingCheck = record { oid = oid; serial = serial } in
      change_framed (checked_in_work c) result (checked_calm c) leaves kept (line.Check oid serial) (outcome_of_answer reply) (ap outcome_of_answer answers ∙ answered_outcome result answer.Checked refl)

  -- `savepoint`
  pub save_framed : (result : Result ℕ Refusal) → LeavesWork (followed_by (changeable (work_of x.connection)) saved) (work_of x.connection) (work_of l) result → b ≡ a → (reply : Answer) → reply ≡ saved_as result
      → LeavesHub told lasts stands (rules_of rules_in named_in h) (Some (Near x)) line.Savepoint (outcome_of_answer reply) h g
  save_framed result leaves kept reply answers = change_framed saved result saved_calm leaves kept line.Savepoint (outcome_of_answer reply) (ap outcome_of_answer answers ∙ saved_outcome result)

  -- `rollback`
  pub roll_framed : (number : ℕ) (result : Result (Unit {0}) Refusal) → LeavesWork (followed_by (changeable (work_of x.connection)) (rolled_back number)) (work_of x.connection) (work_of l) result → b ≡ a
      → (reply : Answer) → reply ≡ answered result (answer.Rolled number) → LeavesHub told lasts stands (rules_of rules_in named_in h) (Some (Near x)) (line.Rollback number) (outcome_of_answer reply) h g
  roll_framed number result leaves kept reply answers =
      change_framed (rolled_back number) result (rolled_calm number) leaves kept (line.Rollback number) (outcome_of_answer reply) (ap outcome_of_answer answers ∙ answered_outcome result (answer.Rolled number) refl)

  -- ---- lines that make calls

  over : (asked : Line) (o : StepOutcome) → LeavesHub told lasts stands (rules_of rules_in named_in (state a).hub) (Some (Near x)) asked o (state a).hub (state b).hub → LeavesHub told lasts stands (rules_of rules_in named_in h) (Some (Near x)) asked o h g
  over asked o left =
      subst (λ (z : HubState R F). LeavesHub told lasts stands (rules_of rules_in named_in h) (Some (Near x)) asked o h z) ends
      (subst (λ (z : HubState R F). LeavesHub told lasts stands (rules_of rules_in named_in z) (Some (Near x)) asked o z (state b).hub) begins left)

  -- `begin`
  pub begin_framed : (result : Result ℕ Refusal) → ((r : Refusal) → begin_refusal (work_of x.connection) ≡ Some r → (result ≡ Err r) × (b ≡ a)) → (begin_refusal (work_of x.connection) ≡ None → IsFrontBy Made a b result)
      → (reply : Answer) → reply ≡ begun_as result → LeavesHub told lasts stands (rules_of rules_in named_in h) (Some (Near x)) line.Begin (outcome_of_answer reply) h g
  begin_framed result refused made reply answers =
      over line.Begin (outcome_of_answer reply) (begin_hub told lasts stands rules_in named_in (number a) x (state a) (state b) Made a b (λ call make. make) (λ e. ap state e) x.connection result reply refused made answers)

  -- `deliver`
  pub deliver_framed : (result : Result ℕ Refusal) → (work_of x.connection ≡ Err refusal.NotOpen → (result ≡ Err refusal.NotOpen) × (b ≡ a)) → ((work_of x.connection ≡ Err refusal.NotOpen → ⊥) → IsFrontBy Made a b result)
      → (reply : Answer) → reply ≡ delivered_with result → LeavesHub told lasts stands (rules_of rules_in named_in h) (Some (Near x)) line.Deliver (outcome_of_answer reply) h g
  deliver_framed result refused made reply answers =
      over line.Deliver (outcome_of_answer reply) (deliver_hub told lasts stands rules_in named_in (number a) x (state a) (state b) Made a b (λ call make. make) (λ e. ap state e) x.connection result reply refused made answers)

  -- `put`
  pub put_framed : (views_at : views.Client → Type 0) (server : Server) (oid : ℕ) (bytes : List ℕ) (result : Result (Unit {0}) Refusal)
      → ((w : Work) (p : PendingStore) → changeable (work_of x.connection) ≡ Ok w → pending_of w.pending.stores oid ≡ Some p → LeavesWork (stored_in_work (record { oid = oid; base = p.base; content = Held bytes }) w) (work_of x.connection) (work_of l) result × (b ≡ a))
      → ((w : Work) → changeable (work_of x.connection) ≡ Ok w → pending_of w.pending.stores oid ≡ None → IsPutAsRead Made views_at server a b x.connection l w oid bytes result)
      → ((r : Refusal) → changeable (work_of x.connection) ≡ Err r → (result ≡ Err r) × (b ≡ a) × (work_of l ≡ work_of x.connection))
      → (reply : Answer) → reply ≡ answered result answer.Stored → LeavesHub told lasts stands (rules_of rules_in named_in h) (Some (Near x)) (line.Put oid bytes) (outcome_of_answer reply) h g
  put_framed views_at server oid bytes result waiting reads refused reply answers =
      over (line.Put oid bytes) (outcome_of_answer reply)
      (put_hub told lasts stands rules_in named_in (number a) x (state a) (state b) Made a b (λ call make. make) (λ e. ap state e) x.connection l views_at server oid bytes result reply waiting reads refused answers)

  -- `vote`
  pub vote_framed : (user description : List ℕ) (result : Result (Unit {0}) Refusal) → ((r : Refusal) → changeable (work_of x.connection) ≡ Err r → (result ≡ Err r) × (b ≡ a) × (l ≡ x.connection))
      → ((w : Work) → changeable (work_of x.connection) ≡ Ok w → IsCallMade Made a b (Vote user description w.pending.stores w.pending.checks result) result)
      → (reply : Answer) → reply ≡ answered result answer.Voted → LeavesHub told lasts stands (rules_of rules_in named_in h) (Some (Near x)) (line.Vote user description) (outcome_of_answer reply) h g
  vote_framed user description result refused made reply answers =
      over (line.Vote user description) (outcome_of_answer reply)
      (vote_hub told lasts stands rules_in named_in (number a) x (state a) (state b) Made a b (λ call make. make) (λ e. ap state e) x.connection l user description result reply refused made answers)

  -- `undo`
  pub undo_framed : (user description tids : List ℕ) (result : Result (Unit {0}) Refusal) → ((r : Refusal) → followed_by (changeable (work_of x.connection)) unmixed ≡ Err r → (result ≡ Err r) × (b ≡ a) × (l ≡ x.connection))
      → (IsOk (followed_by (changeable (work_of x.connection)) unmixed) → Made a (Undo user description tids result) b)
      → (reply : Answer) → reply ≡ answered result answer.Voted → LeavesHub told lasts stands (rules_of rules_in named_in h) (Some (Near x)) (line.Undo user description tids) (outcome_of_answer reply) h g
  undo_framed user description tids result refused made reply answers =
      over (line.Undo user description tids) (outcome_of_answer reply)
      (undo_hub told lasts stands rules_in named_in (number a) x (state a) (state b) Made a b (λ call make. make) (λ e. ap state e) x.connection l user description tids result reply refused made answers)

  -- `finish`
  pub finish_framed : x.session ≡ number a → (result : Result (Option ℕ) Refusal) → ((r : Refusal) → work_of x.connection ≡ Err r → (result ≡ Err r) × (b ≡ a)) → ((w : Work) → work_of x.connection ≡ Ok w → Made a (Finish result) b)
      → (reply : Answer) → reply ≡ finished_as result → LeavesHub told lasts stands (rules_of rules_in named_in h) (Some (Near x)) line.Finish (outcome_of_answer reply) h g
  finish_framed session result refused made reply answers =
      over line.Finish (outcome_of_answer reply) (finish_hub told lasts stands rules_in named_in (number a) x (state a) (state b) Made a b (λ call make. make) (λ e. ap state e) session result reply refused made answers)

  -- `abort`
  pub abort_framed : (result : Result (Unit {0}) Refusal) → ((r : Refusal) → work_of x.connection ≡ Err r → (result ≡ Err r) × (b ≡ a)) → ((w : Work) → work_of x.connection ≡ Ok w → Made a (Abort result) b)
      → (reply : Answer) → reply ≡ answered result answer.Aborted → LeavesHub told lasts stands (rules_of rules_in named_in h) (Some (Near x)) line.Abort (outcome_of_answer reply) h g
  abort_framed result refused made reply answers =
      over line.Abort (outcome_of_answer reply) (abort_hub told lasts stands rules_in named_in (number a) x (state a) (state b) Made a b (λ call make. make) (λ e. ap state e) x.connection result reply refused made answers)

  -- ---- any line

  module _ (here : S → views.Client → Type 0) (fresh : S → views.Client → View) (server : S → Server) (session : x.session ≡ number a) where
    made_framed : (asked : Line) (reply : Answer) → Calls here fresh Made server x.connection a asked reply l b → LeavesHub told lasts stands (rules_of rules_in named_in h) (Some (Near x)) asked (outcome_of_answer reply) h g
    made_framed line.Begin reply o = begin_framed o.result o.refused o.makes reply o.answer
    made_framed (line.Load oid) reply (result, is, o) = load_framed oid result o.refused o.makes reply is
    made_framed (line.Get oid) reply (result, is, o) =
        get_framed told lasts stands (rules_of rules_in named_in h) h g (Some (Near x)) oid result (got_framed oid result o.waiting o.refused o.makes (outcome_of_result result) (result_outcome result)) reply is
    made_framed (line.Store oid base bytes) reply o = store_framed oid base bytes o.result o.leaves o.kept reply o.answer
    made_framed (line.Put oid bytes) reply o = put_framed (here a) (server a) oid bytes o.result o.waiting o.reads o.refused reply o.answer
    made_framed (line.Check oid serial) reply o = check_framed oid serial o.result o.leaves o.kept reply o.answer
    made_framed (line.Delete oid base) reply o = delete_framed oid base o.result o.leaves o.kept reply o.answer
    made_framed line.Savepoint reply o = save_framed o.change.result o.change.leaves o.change.kept reply o.change.answer
    made_framed (line.Rollback n) reply o = roll_framed n o.result o.leaves o.kept reply o.answer
    made_framed (line.Vote user description) reply o = vote_framed user description o.result o.refused o.makes reply o.answer
    made_framed (line.Undo user description tids) reply o = undo_framed user description tids o.result o.refused o.makes reply o.answer
    made_framed line.Finish reply o = finish_framed session o.result o.refused o.makes reply o.answer
    made_framed line.Abort reply o = abort_framed o.result o.refused o.makes reply o.answer
    made_framed line.Deliver reply o = deliver_framed o.result o.refused o.makes reply o.answer
    made_framed _ reply o = absurd o

    pub line_framed : (asked : Line) (reply : Answer) → CallsLine here fresh Made server x.connection a asked reply l b → LeavesHub told lasts stands (rules_of rules_in named_in h) (Some (Near x)) asked (outcome_of_answer reply) h g
    line_framed asked reply (is_unmade answers same kept) = none_leaves told lasts stands (rules_of rules_in named_in h) h g (Some (Near x)) asked (outcome_of_answer reply) (inr (ap outcome_of_answer answers)) (kept_framed kept)
    line_framed asked reply (is_made o) = made_framed asked reply o

-- a line for which there was no memory
pub starved_leaves : {R F : Type 0} (told lasts : Type 0) (stands : List ℕ → List Transaction → Type 0) (rules : Rules) (x : Option Member) (l : Line) (h : HubState R F) → LeavesHub told lasts stands rules x l NoMemory h h
starved_leaves told lasts stands rules x l h = none_leaves told lasts stands rules h h x l NoMemory (inr refl) refl
