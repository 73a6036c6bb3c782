-- Lines of a client over the calls of its connection.
use Rattle.std.proofs.Common.{◌≡◌, ◌⊎◌, ℕ, true, List, Option, Some, None, Result, Ok, Err, sym, ap, subst, ◌∙◌, refl}
use Rattle.std.specs.Prelude.{IfOk, IsOk, MatchOption, OnErr, OnOk, length}
use Rattle.zb_ids.specs.declared.stamp.Stamp.{Stamp}
use Rattle.zb_model.specs.declared.data.Content.TheVariants.{Held}
use Rattle.zb_model.specs.declared.data.Transaction.{Transaction}
use Rattle.zb_model.specs.declared.pending.PendingCheck.{PendingCheck}
use Rattle.zb_model.specs.declared.pending.PendingStore.{PendingStore}
use Rattle.zb_model.specs.declared.refusal.Refusal.{Refusal}
use Rattle.zb_model.specs.declared.refusal.Refusal.TheVariants as refusal
use Rattle.zb_model.specs.Rules.{MergeRules}
use Rattle.zb_answers.specs.declared.answer.Answer.{Answer}
use Rattle.zb_answers.specs.declared.answer.Answer.TheVariants as answer
use Rattle.zb_script.specs.declared.line.Line.{Line}
use Rattle.zb_script.specs.declared.line.Line.TheVariants as line
use Rattle.commit_phases.specs.Pending.{pending_of}
use Rattle.zodb_core.specs.HubState.{HubState, rules_of}
use Rattle.zodb_core.specs.Machine.{Rules}
use Rattle.connection_view.specs.declared.connection.Connection.{Connection}
use Rattle.connection_view.specs.Works.{Work}
use Rattle.connection_view.specs.Connections.{Between, InView, IsCallMade, IsFrontBy, IsNewWork, IsPutAsRead, IsReadBy, LeavesWork, begin_refusal, changeable, checked_in_work, deleted_in_work, followed_by, rolled_back, saved, stored_in_work, unmixed, work_of, waiting_read}
use Rattle.connection_view.specs.Loading.{Abort, Finish, LoadsCall, Reads, Undo, Vote}
use Rattle.connection_view.specs.Views.{View, committed, each_object, renewed, stored_in, unvoted, view_of, voting}
use Rattle.connection_view.specs.Views as views
use Rattle.local_loads.specs.declared.told.Told.{Told}
use Rattle.local_loads.specs.Local as local
use Rattle.local_loads.specs.Local.{LocalState, MayBeTold}
use Rattle.local_loads.specs.Making.{IsHubStep, IsLocalCall}
use Rattle.client_turns.specs.declared.client.Client.{Client}
use Rattle.client_turns.specs.Asking.{TakesLine, TakesRead, answered, begun_as, delivered_with, finished_as, saved_as}
use Rattle.client_turns.specs.Calls.{Calls, CallsLine, is_made, is_unmade}
use Rattle.client_turns.specs.Clients.{Changes}
use Rattle.client_turns.specs.Lines.{Changed, data_of}
use Rattle.client_turns.specs.Standing.{IsClientOf, IsGotWhere, changes_kept}
use Rattle.client_turns.proofs.Asked.{end_of_client, get_answered, get_leads, load_leads}
use Rattle.client_turns.proofs.Changing.{AgreesAs, IsChanging, change_leads, check_changes, checked_agrees, delete_changes, deleted_agrees, roll_changes, rolled_agrees, rolled_done, save_changes, saved_agrees, store_changes, stored_agrees, stored_done}
use Rattle.client_turns.proofs.Ending.{abort_leads, begin_leads, deliver_leads, finish_leads, undo_leads, vote_leads}
use Rattle.client_turns.proofs.One.{starved_open, stays}
use Rattle.client_turns.proofs.Putting.{put_leads}

pub state_is : {R F : Type 0} (h k : HubState R F) (s t : Option (List Stamp)) (l o : Option Told) → h ≡ k → s ≡ t → l ≡ o
    → (let p : LocalState R F = record { hub = h; stamps = s; last = l } in p) ≡ record { hub = k; stamps = t; last = o }
state_is {R} {F} h k s t l o hub stamps last =
    ap (λ (z : HubState R F). let p : LocalState R F = record { hub = z; stamps = s; last = l } in p) hub
    ∙ ap (λ (z : Option (List Stamp)). let p : LocalState R F = record { hub = k; stamps = z; last = l } in p) stamps
    ∙ ap (λ (z : Option Told). let p : LocalState R F = record { hub = k; stamps = t; last = z } in p) last

pub client_is : (k c : Client) → k.name ≡ c.name → k.session ≡ c.session → k.told ≡ c.told → k.connection ≡ c.connection → k ≡ c
client_is k c name session told connection =
    ap (λ (z : List ℕ). let w : Client = record { name = z; session = k.session; told = k.told; connection = k.connection } in w) name
    ∙ ap (λ (z : ℕ). let w : Client = record { name = c.name; session = z; told = k.told; connection = k.connection } in w) session
    ∙ ap (λ (z : Option Told). let w : Client = record { name = c.name; session = c.session; told = z; connection = k.connection } in w) told
    ∙ ap (λ (z : Connection). let w : Client = record { name = c.name; session = c.session; told = c.told; connection = z } in w) connection

module _ {R F S : Type 0} (told lasts : Type 0) (stands : List ℕ → List Transaction → Type 0) (rules_in : R → MergeRules) (named_in : F → List ℕ → Option (List ℕ)) (x y : Client) (h g : HubState R F) (before after : Option (List Stamp)) (state : S → LocalState R F) (number : S → ℕ) (a b : S) (numbered : number a ≡ x.session) (begins : state a ≡ end_of_client h before x) (ends : state b ≡ end_of_client g after y) (name : y.name ≡ x.name) (session : y.session ≡ x.session) where
  -- calls from one state to another
  abbrev pub Makes : S → LoadsCall → S → Type 0
  Makes o call n = IsLocalCall (IsHubStep told lasts stands rules_in named_in (number o)) call (state o) (state n)

  pub calls_over : (call : LoadsCall) → Makes a call b → IsLocalCall (IsHubStep told lasts stands rules_in named_in x.session) call (end_of_client h before x) (end_of_client g after y)
  calls_over call made =
      subst (λ (j : ℕ). IsLocalCall (IsHubStep told lasts stands rules_in named_in j) call (end_of_client h before x) (end_of_client g after y)) numbered
      (subst (λ (z : LocalState R F). IsLocalCall (IsHubStep told lasts stands rules_in named_in (number a)) call z (end_of_client g after y)) begins
      (subst (λ (z : LocalState R F). IsLocalCall (IsHubStep told lasts stands rules_in named_in (number a)) call (state a) z) ends made))

  pub same_over : b ≡ a → end_of_client g after y ≡ end_of_client h before x
  same_over is = sym ends ∙ ap state is ∙ begins

  -- a client that may be the one at a state
  abbrev pub Stands : S → views.Client → Type 0
  Stands s v = told × MayBeTold (state s).last (state s).hub v.told v.known

  abbrev pub At : LocalState R F → views.Client → Type 0
  At s v = told × MayBeTold s.last s.hub v.told v.known

  pub view_over : ((u : View) (v : views.Client) → Stands a v → InView x.connection u v → InView y.connection u v) → (u : View) (v : views.Client) → At (end_of_client h before x) v → InView x.connection u v → InView y.connection u v
  view_over view = subst (λ (s : LocalState R F). (u : View) (v : views.Client) → At s v → InView x.connection u v → InView y.connection u v) begins view

  -- `load`
  pub load_over : (oid : ℕ) (result : Result (ℕ × List ℕ) Refusal)
      → ((u : View) (v : views.Client) → Stands a v → InView x.connection u v → Reads u (local.server_of (state a).hub) oid result)
      → ((r : Refusal) → work_of x.connection ≡ Err r → (result ≡ Err r) × (b ≡ a)) → ((w : Work) → work_of x.connection ≡ Ok w → IsReadBy Makes a b oid w.front w.switches result)
      → work_of y.connection ≡ work_of x.connection → ((u : View) (v : views.Client) → Stands a v → InView x.connection u v → InView y.connection u v) → ((v : views.Client) → Between x.connection v → Between y.connection v)
      → (reply : Answer) → reply ≡ data_of result → TakesLine told (rules_of rules_in named_in h) (line.Load oid) reply h g x y before after
  load_over oid result reads refused made work view between reply answers tells m at c takes =
      load_leads told lasts stands rules_in named_in tells m at x y c h g before after takes Makes a b calls_over same_over name session oid result
      (subst (λ (s : LocalState R F). (u : View) (v : views.Client) → At s v → InView x.connection u v → Reads u (local.server_of s.hub) oid result) begins reads)
      refused made work (view_over view) between reply answers

  -- what a transaction has of an object
  pub get_over : (oid : ℕ) (result : Result (ℕ × List ℕ) Refusal)
      → ((w : Work) (p : PendingStore) → work_of x.connection ≡ Ok w → pending_of w.pending.stores oid ≡ Some p → ((result ≡ waiting_read oid p) ⊎ (result ≡ Err refusal.Memory)) × (b ≡ a))
      → ((w : Work) → work_of x.connection ≡ Ok w → pending_of w.pending.stores oid ≡ None → (u : View) (v : views.Client) → Stands a v → InView x.connection u v → Reads u (local.server_of (state a).hub) oid result)
      → ((r : Refusal) → work_of x.connection ≡ Err r → (result ≡ Err r) × (b ≡ a)) → ((w : Work) → work_of x.connection ≡ Ok w → pending_of w.pending.stores oid ≡ None → IsReadBy Makes a b oid w.front w.switches result)
      → work_of y.connection ≡ work_of x.connection → ((u : View) (v : views.Client) → Stands a v → InView x.connection u v → InView y.connection u v) → ((v : views.Client) → Between x.connection v → Between y.connection v)
      → TakesRead told IsGotWhere oid result h g x y before after
  get_over oid result waiting reads refused made work view between tells m at c takes =
      get_leads told lasts stands rules_in named_in tells m at x y c h g before after takes Makes a b calls_over same_over name session oid result waiting
      (subst (λ (s : LocalState R F). (w : Work) → work_of x.connection ≡ Ok w → pending_of w.pending.stores oid ≡ None → (u : View) (v : views.Client) → At s v → InView x.connection u v → Reads u (local.server_of s.hub) oid result) begins reads)
      refused made work (view_over view) between

  -- a change, for which no call is made
  pub change_over : {T : Type 0} → (l : Line) (change : Changes → Changed) (f : Work → Result Work Refusal) (result : Result T Refusal) → IsChanging l change → ((w : Work) → AgreesAs w (f w) (change (changes_kept w)))
      → LeavesWork (followed_by (changeable (work_of x.connection)) f) (work_of x.connection) (work_of y.connection) result → b ≡ a
      → ((u : View) (v : views.Client) → InView x.connection u v → InView y.connection u v) → ((v : views.Client) → Between x.connection v → Between y.connection v) → (reply : Answer)
      → ((w v : Work) (z : T) → work_of x.connection ≡ Ok w → result ≡ Ok z → f w ≡ Ok v → reply ≡ (change (changes_kept w)).answer) → ((r : Refusal) → result ≡ Err r → reply ≡ answer.Refused r)
      → TakesLine told (rules_of rules_in named_in h) l reply h g x y before after
  change_over l change f result is agrees leaves kept view between reply done refused tells m at c takes =
      let stay : end_of_client g after y ≡ end_of_client h before x = same_over kept in
      change_leads (rules_of rules_in named_in h) m at x y c h g before after takes (ap (λ (s : LocalState R F). s.hub) stay) (ap (λ (s : LocalState R F). s.stamps) stay)
      (record { name = name; session = session; told = ap (λ (s : LocalState R F). s.last) stay }) (λ u. view u takes.stands.client.told) (between takes.stands.client.told) l change f reply result is agrees leaves done refused

  -- `store`
  pub store_over : (oid base : ℕ) (bytes : List ℕ) (result : Result (Unit {0}) Refusal) → LeavesWork (followed_by (changeable (work_of x.connection)) (stored_in_work (record { oid = oid; base = base; content = Held bytes }))) (work_of x.connection) (work_of y.connection) result → b ≡ a
      → ((u : View) (v : views.Client) → InView x.connection u v → InView y.connection u v) → ((v : views.Client) → Between x.connection v → Between y.connection v) → (reply : Answer) → reply ≡ answered result answer.Stored
      → TakesLine told (rules_of rules_in named_in h) (line.Store oid base bytes) reply h g x y before after
  store_over oid base bytes result leaves kept view between reply answers =
      let p : PendingStore = record { oid = oid; base = base; content = Held bytes } in
      change_over (line.Store oid base bytes) _ (stored_in_work p) result (store_changes oid base bytes) (stored_agrees p) leaves kept view between reply
      (λ w v z works said ok. answers ∙ ap (λ (e : Result (Unit {0}) Refusal). answered e answer.Stored) said ∙ stored_done p w v ok)
      (λ r said. answers ∙ ap (λ (e : Result (Unit {0}) Refusal). answered e answer.Stored) said)

  -- `delete`
  pub delete_over : (oid base : ℕ) (result : Result (Unit {0}) Refusal) → LeavesWork (followed_by (changeable (work_of x.connection)) (deleted_in_work oid base)) (work_of x.connection) (work_of y.connection) result → b ≡ a
      → ((u : View) (v : views.Client) → InView x.connection u v → InView y.connection u v) → ((v : views.Client) → Between x.connection v → Between y.connection v) → (reply : Answer) → reply ≡ answered result answer.Deleted
      → TakesLine told (rules_of rules_in named_in h) (line.Delete oid base) reply h g x y before after
  delete_over oid base result leaves kept view between reply answers =
      change_over (line.Delete oid base) _ (deleted_in_work oid base) result (delete_changes oid base) (deleted_agrees oid base) leaves kept view between reply
      (λ w v z works said ok. answers ∙ ap (λ (e : Result (Unit {0}) Refusal). answered e answer.Deleted) said)
      (λ r said. answers ∙ ap (λ (e : Result (Unit {0}) Refusal). answered e answer.Deleted) said)

  -- `check`
  pub check_over : (oid serial : ℕ) (result : Result (Unit {0}) Refusal) → LeavesWork (followed_by (changeable (work_of x.connection)) (checked_in_work (record { oid = oid; serial = serial }))) (work_of x.connection) (work_of y.connection) result → b ≡ a
      → ((u : View) (v : views.Client) → InView x.connection u v → InView y.connection u v) → ((v : views.Client) → Between x.connection v → Between y.connection v) → (reply : Answer) → reply ≡ answered result answer.Checked
      → TakesLine told (rules_of rules_in named_in h) (line.Check oid serial) reply h g x y before after
  check_over oid serial result leaves kept view between reply answers =
      let k : PendingCheck = record { oid = oid; serial = serial } in
      change_over (line.Check oid serial) _ (checked_in_work k) result (check_changes oid serial) (checked_agrees k) leaves kept view between reply
      (λ w v z works said ok. answers ∙ ap (λ (e : Result (Unit {0}) Refusal). answered e answer.Checked) said)
      (λ r said. answers ∙ ap (λ (e : Result (Unit {0}) Refusal). answered e answer.Checked) said)

  -- `savepoint`
  pub save_over : (result : Result ℕ Refusal) → IfOk result (λ number. (w : Work) → work_of x.connection ≡ Ok w → number ≡ length w.savepoints) → LeavesWork (followed_by (changeable (work_of x.connection)) saved) (work_of x.connection) (work_of y.connection) result → b ≡ a
      → ((u : View) (v : views.Client) → InView x.connection u v → InView y.connection u v) → ((v : views.Client) → Between x.connection v → Between y.connection v) → (reply : Answer) → reply ≡ saved_as result
      → TakesLine told (rules_of rules_in named_in h) line.Savepoint reply h g x y before after
  save_over result numbered leaves kept view between reply answers =
      change_over line.Savepoint _ saved result save_changes saved_agrees leaves kept view between reply
      (λ w v z works said ok. answers ∙ ap saved_as said ∙ ap (λ (n : ℕ). answer.Savepoint n) (subst (λ (r : Result ℕ Refusal). IfOk r (λ number. (w : Work) → work_of x.connection ≡ Ok w → number ≡ length w.savepoints)) said numbered w works))
      (λ r said. answers ∙ ap saved_as said)

  -- `rollback`
  pub roll_over : (number : ℕ) (result : Result (Unit {0}) Refusal) → LeavesWork (followed_by (changeable (work_of x.connection)) (rolled_back number)) (work_of x.connection) (work_of y.connection) result → b ≡ a
      → ((u : View) (v : views.Client) → InView x.connection u v → InView y.connection u v) → ((v : views.Client) → Between x.connection v → Between y.connection v) → (reply : Answer) → reply ≡ answered result (answer.Rolled number)
      → TakesLine told (rules_of rules_in named_in h) (line.Rollback number) reply h g x y before after
  roll_over number result leaves kept view between reply answers =
      change_over (line.Rollback number) _ (rolled_back number) result (roll_changes number) (rolled_agrees number) leaves kept view between reply
      (λ w v z works said ok. answers ∙ ap (λ (e : Result (Unit {0}) Refusal). answered e (answer.Rolled number)) said ∙ rolled_done number w v ok)
      (λ r said. answers ∙ ap (λ (e : Result (Unit {0}) Refusal). answered e (answer.Rolled number)) said)

  -- `put`
  pub put_over : (oid : ℕ) (bytes : List ℕ) (result : Result (Unit {0}) Refusal)
      → ((w : Work) (p : PendingStore) → changeable (work_of x.connection) ≡ Ok w → pending_of w.pending.stores oid ≡ Some p → LeavesWork (stored_in_work (record { oid = oid; base = p.base; content = Held bytes }) w) (work_of x.connection) (work_of y.connection) result × (b ≡ a))
      → ((w : Work) → changeable (work_of x.connection) ≡ Ok w → pending_of w.pending.stores oid ≡ None → IsPutAsRead Makes (Stands a) (local.server_of (state a).hub) a b x.connection y.connection w oid bytes result)
      → ((r : Refusal) → changeable (work_of x.connection) ≡ Err r → (result ≡ Err r) × (b ≡ a) × (work_of y.connection ≡ work_of x.connection))
      → ((u : View) (v : views.Client) → Stands a v → InView x.connection u v → InView y.connection u v) → ((v : views.Client) → Between x.connection v → Between y.connection v)
      → (reply : Answer) → reply ≡ answered result answer.Stored → TakesLine told (rules_of rules_in named_in h) (line.Put oid bytes) reply h g x y before after
  put_over oid bytes result waiting reads refused view between reply answers tells m at c takes =
      put_leads told lasts stands rules_in named_in tells m at x y c h g before after takes Makes a b calls_over same_over name session oid bytes result waiting
      (subst (λ (s : LocalState R F). (w : Work) → changeable (work_of x.connection) ≡ Ok w → pending_of w.pending.stores oid ≡ None → IsPutAsRead Makes (At s) (local.server_of s.hub) a b x.connection y.connection w oid bytes result) begins reads)
      refused (view_over view) between reply answers

  -- `vote`
  pub vote_over : (user description : List ℕ) (result : Result (Unit {0}) Refusal) → OnOk result ((w : Work) → work_of x.connection ≡ Ok w → work_of y.connection ≡ Ok (record w { is_voted = true })) → OnErr result (work_of y.connection ≡ work_of x.connection)
      → ((u : View) (v : views.Client) (w : Work) → work_of x.connection ≡ Ok w → Stands a v → InView x.connection u v → (now : views.Client) × (Stands b now) × (InView y.connection u now) × ((now ≡ v) ⊎ (now ≡ voting (stored_in w.pending.stores) v)))
      → ((r : Refusal) → changeable (work_of x.connection) ≡ Err r → (result ≡ Err r) × (b ≡ a) × (y.connection ≡ x.connection))
      → ((w : Work) → changeable (work_of x.connection) ≡ Ok w → IsCallMade Makes a b (Vote user description w.pending.stores w.pending.checks result) result)
      → (reply : Answer) → reply ≡ answered result answer.Voted → TakesLine told (rules_of rules_in named_in h) (line.Vote user description) reply h g x y before after
  vote_over user description result voted err view refused made reply answers tells m at c takes =
      vote_leads told lasts stands rules_in named_in tells m at x y c h g before after takes Makes a b calls_over same_over name session user description result voted err
      (subst (λ (t : LocalState R F). (u : View) (v : views.Client) (w : Work) → work_of x.connection ≡ Ok w → At (end_of_client h before x) v → InView x.connection u v → (now : views.Client) × (At t now) × (InView y.connection u now) × ((now ≡ v) ⊎ (now ≡ voting (stored_in w.pending.stores) v))) ends
      (subst (λ (s : LocalState R F). (u : View) (v : views.Client) (w : Work) → work_of x.connection ≡ Ok w → At s v → InView x.connection u v → (now : views.Client) × (Stands b now) × (InView y.connection u now) × ((now ≡ v) ⊎ (now ≡ voting (stored_in w.pending.stores) v))) begins view))
      refused made reply answers

  -- `undo`
  pub undo_over : (user description : List ℕ) (tids : List ℕ) (result : Result (Unit {0}) Refusal) → OnOk result ((w : Work) → work_of x.connection ≡ Ok w → work_of y.connection ≡ Ok (record w { is_voted = true })) → OnErr result (work_of y.connection ≡ work_of x.connection)
      → ((u : View) (v : views.Client) → IsOk (followed_by (changeable (work_of x.connection)) unmixed) → Stands a v → InView x.connection u v → (Stands b (voting each_object v)) × (InView y.connection u (voting each_object v)))
      → ((r : Refusal) → followed_by (changeable (work_of x.connection)) unmixed ≡ Err r → (result ≡ Err r) × (b ≡ a) × (y.connection ≡ x.connection))
      → (IsOk (followed_by (changeable (work_of x.connection)) unmixed) → Makes a (Undo user description tids result) b)
      → (reply : Answer) → reply ≡ answered result answer.Voted → TakesLine told (rules_of rules_in named_in h) (line.Undo user description tids) reply h g x y before after
  undo_over user description tids result voted err view refused made reply answers tells m at c takes =
      undo_leads told lasts stands rules_in named_in tells m at x y c h g before after takes Makes a b calls_over same_over name session user description tids result voted err
      (subst (λ (t : LocalState R F). (u : View) (v : views.Client) → IsOk (followed_by (changeable (work_of x.connection)) unmixed) → At (end_of_client h before x) v → InView x.connection u v → (At t (voting each_object v)) × (InView y.connection u (voting each_object v))) ends
      (subst (λ (s : LocalState R F). (u : View) (v : views.Client) → IsOk (followed_by (changeable (work_of x.connection)) unmixed) → At s v → InView x.connection u v → (Stands b (voting each_object v)) × (InView y.connection u (voting each_object v))) begins view))
      refused made reply answers

  -- `abort`
  pub abort_over : (result : Result (Unit {0}) Refusal) → OnOk result (work_of y.connection ≡ Err refusal.NoTransaction)
      → OnOk result ((u : View) (v : views.Client) → Stands a v → InView x.connection u v → (Stands b (unvoted v)) × (Between y.connection (unvoted v)))
      → ((r : Refusal) → work_of x.connection ≡ Err r → (result ≡ Err r) × (b ≡ a)) → ((w : Work) → work_of x.connection ≡ Ok w → Makes a (Abort result) b) → OnErr result (y.connection ≡ x.connection)
      → (reply : Answer) → reply ≡ answered result answer.Aborted → TakesLine told (rules_of rules_in named_in h) line.Abort reply h g x y before after
  abort_over result ended dropped refused made err reply answers tells m at c takes =
      abort_leads told lasts stands rules_in named_in tells m at x y c h g before after takes Makes a b calls_over same_over name session result ended
      (subst (λ (t : LocalState R F). OnOk result ((u : View) (v : views.Client) → At (end_of_client h before x) v → InView x.connection u v → (At t (unvoted v)) × (Between y.connection (unvoted v)))) ends
      (subst (λ (s : LocalState R F). OnOk result ((u : View) (v : views.Client) → At s v → InView x.connection u v → (Stands b (unvoted v)) × (Between y.connection (unvoted v)))) begins dropped))
      refused made err reply answers

  -- `finish`
  pub finish_over : (result : Result (Option ℕ) Refusal) → OnOk result (work_of y.connection ≡ Err refusal.NoTransaction)
      → IfOk result (λ tid. MatchOption tid ((u : View) (v : views.Client) → Stands a v → InView x.connection u v → (Stands b (unvoted v)) × (Between y.connection (unvoted v)))
      (λ tid. (u : View) (v : views.Client) → Stands a v → InView x.connection u v → (Stands b (committed (view_of (local.server_of (state b).hub)) v)) × (Between y.connection (committed (view_of (local.server_of (state b).hub)) v))))
      → ((r : Refusal) → work_of x.connection ≡ Err r → (result ≡ Err r) × (b ≡ a)) → ((w : Work) → work_of x.connection ≡ Ok w → Makes a (Finish result) b) → OnErr result (y.connection ≡ x.connection)
      → (reply : Answer) → reply ≡ finished_as result → TakesLine told (rules_of rules_in named_in h) line.Finish reply h g x y before after
  finish_over result ended left refused made err reply answers tells m at c takes =
      finish_leads told lasts stands rules_in named_in tells m at x y c h g before after takes Makes a b calls_over same_over name session result ended
      (subst (λ (t : LocalState R F). IfOk result (λ tid. MatchOption tid ((u : View) (v : views.Client) → At (end_of_client h before x) v → InView x.connection u v → (At t (unvoted v)) × (Between y.connection (unvoted v)))
      (λ tid. (u : View) (v : views.Client) → At (end_of_client h before x) v → InView x.connection u v → (At t (committed (view_of (local.server_of t.hub)) v)) × (Between y.connection (committed (view_of (local.server_of t.hub)) v))))) ends
      (subst (λ (s : LocalState R F). IfOk result (λ tid. MatchOption tid ((u : View) (v : views.Client) → At s v → InView x.connection u v → (Stands b (unvoted v)) × (Between y.connection (unvoted v)))
      (λ tid. (u : View) (v : views.Client) → At s v → InView x.connection u v → (Stands b (committed (view_of (local.server_of (state b).hub)) v)) × (Between y.connection (committed (view_of (local.server_of (state b).hub)) v))))) begins left))
      refused made err reply answers

  -- `begin`
  pub begin_over : (result : Result ℕ Refusal) → IfOk result (λ front. (w : Work) × (work_of y.connection ≡ Ok w) × IsNewWork front w)
      → OnOk result ((v : views.Client) → Stands a v → Between x.connection v → InView y.connection (view_of (local.server_of (state a).hub)) (renewed (view_of (local.server_of (state a).hub)) v))
      → OnOk result ((v : views.Client) → Stands a v → Stands b (renewed (view_of (local.server_of (state a).hub)) v))
      → ((r : Refusal) → begin_refusal (work_of x.connection) ≡ Some r → (result ≡ Err r) × (b ≡ a)) → (begin_refusal (work_of x.connection) ≡ None → IsFrontBy Makes a b result) → OnErr result (y.connection ≡ x.connection)
      → (reply : Answer) → reply ≡ begun_as result → TakesLine told (rules_of rules_in named_in h) line.Begin reply h g x y before after
  begin_over result opened view be refused made err reply answers tells m at c takes =
      begin_leads told lasts stands rules_in named_in tells m at x y c h g before after takes Makes a b calls_over same_over name session result opened
      (subst (λ (s : LocalState R F). OnOk result ((v : views.Client) → At s v → Between x.connection v → InView y.connection (view_of (local.server_of s.hub)) (renewed (view_of (local.server_of s.hub)) v))) begins view)
      (subst (λ (t : LocalState R F). OnOk result ((v : views.Client) → At (end_of_client h before x) v → At t (renewed (view_of (local.server_of h)) v))) ends
      (subst (λ (s : LocalState R F). OnOk result ((v : views.Client) → At s v → Stands b (renewed (view_of (local.server_of s.hub)) v))) begins be))
      refused made err reply answers

  -- `deliver`
  pub deliver_over : (result : Result ℕ Refusal)
      → OnOk result ((u : View) (v : views.Client) → Stands a v → InView x.connection u v → InView y.connection u (renewed (view_of (local.server_of (state a).hub)) v))
      → OnOk result ((v : views.Client) → Stands a v → Between x.connection v → Between y.connection (renewed (view_of (local.server_of (state a).hub)) v))
      → OnOk result ((v : views.Client) → Stands a v → Stands b (renewed (view_of (local.server_of (state a).hub)) v))
      → ((work_of x.connection ≡ Err refusal.NotOpen → ⊥) → IsFrontBy Makes a b result) → work_of y.connection ≡ work_of x.connection → OnErr result (y.connection ≡ x.connection)
      → (reply : Answer) → reply ≡ delivered_with result → TakesLine told (rules_of rules_in named_in h) line.Deliver reply h g x y before after
  deliver_over result view between be made work err reply answers tells m at c takes =
      deliver_leads told lasts stands rules_in named_in tells m at x y c h g before after takes Makes a b calls_over same_over name session result
      (subst (λ (s : LocalState R F). OnOk result ((u : View) (v : views.Client) → At s v → InView x.connection u v → InView y.connection u (renewed (view_of (local.server_of s.hub)) v))) begins view)
      (subst (λ (s : LocalState R F). OnOk result ((v : views.Client) → At s v → Between x.connection v → Between y.connection (renewed (view_of (local.server_of s.hub)) v))) begins between)
      (subst (λ (t : LocalState R F). OnOk result ((v : views.Client) → At (end_of_client h before x) v → At t (renewed (view_of (local.server_of h)) v))) ends
      (subst (λ (s : LocalState R F). OnOk result ((v : views.Client) → At s v → Stands b (renewed (view_of (local.server_of s.hub)) v))) begins be))
      made work err reply answers

  -- ---- any line

  abbrev pub LineHere : Line → Answer → Type 0
  LineHere l reply = CallsLine Stands (λ s v. view_of (local.server_of (state s).hub)) Makes (λ s. local.server_of (state s).hub) x.connection a l reply y.connection b

  made_over : (l : Line) (reply : Answer) → Calls Stands (λ s v. view_of (local.server_of (state s).hub)) Makes (λ s. local.server_of (state s).hub) x.connection a l reply y.connection b → TakesLine told (rules_of rules_in named_in h) l reply h g x y before after
  made_over line.Begin reply o = begin_over o.result o.begun o.view o.stands o.refused o.makes o.err reply o.answer
  made_over (line.Load oid) reply (result, is, o) = load_over oid result o.reads o.refused o.makes o.work o.view o.between reply is
  made_over (line.Get oid) reply (result, is, o) = λ tells m at c takes.
      get_answered (rules_of rules_in named_in h) m at oid c result reply h g y after is (get_over oid result o.waiting o.reads o.refused o.makes o.work o.view o.between tells m at c takes)
  made_over (line.Store oid base bytes) reply o = store_over oid base bytes o.result o.leaves o.kept o.view o.between reply o.answer
  made_over (line.Put oid bytes) reply o = put_over oid bytes o.result o.waiting o.reads o.refused o.view o.between reply o.answer
  made_over (line.Check oid serial) reply o = check_over oid serial o.result o.leaves o.kept o.view o.between reply o.answer
  made_over (line.Delete oid base) reply o = delete_over oid base o.result o.leaves o.kept o.view o.between reply o.answer
  made_over line.Savepoint reply o = save_over o.change.result o.number o.change.leaves o.change.kept o.change.view o.change.between reply o.change.answer
  made_over (line.Rollback number) reply o = roll_over number o.result o.leaves o.kept o.view o.between reply o.answer
  made_over (line.Vote user description) reply o = vote_over user description o.result o.voted o.err o.view o.refused o.makes reply o.answer
  made_over (line.Undo user description tids) reply o = undo_over user description tids o.result o.voted o.err o.view o.refused o.makes reply o.answer
  made_over line.Finish reply o = finish_over o.result o.ended o.left o.refused o.makes o.err reply o.answer
  made_over line.Abort reply o = abort_over o.result o.ended o.dropped o.refused o.makes o.err reply o.answer
  made_over line.Deliver reply o = deliver_over o.result o.view o.between o.stands o.makes o.work o.err reply o.answer
  made_over _ reply o = absurd o

  pub line_over : (l : Line) (reply : Answer) → LineHere l reply → TakesLine told (rules_of rules_in named_in h) l reply h g x y before after
  line_over l reply (is_unmade answers same kept) = λ tells m at c takes.
      let stay : end_of_client g after y ≡ end_of_client h before x = same_over kept in
      let client : y ≡ x = client_is y x name session (ap (λ (s : LocalState R F). s.last) stay) same in
      stays _ m at h g x y c before after takes (ap (λ (s : LocalState R F). s.hub) stay) (ap (λ (s : LocalState R F). s.stamps) stay)
      (subst (λ (z : Client). IsClientOf h z c) (sym client) takes.stands.client) (starved_open (rules_of rules_in named_in h) m at c l reply m answers refl)
  line_over l reply (is_made o) = made_over l reply o
