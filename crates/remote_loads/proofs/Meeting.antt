-- What the calls of a remote client are to whoever may be the client at this end.
use Rattle.std.proofs.Common.{◌≡◌, ℕ, ◌≤◌, Bool, List, Option, Some, None, Result, Ok, Err, refl, sym, subst}
use Rattle.std.specs.Prelude.{IfErr, IfOk, MatchOption, OnErr, OnOk}
use Rattle.zb_model.specs.declared.pending.PendingCheck.{PendingCheck}
use Rattle.zb_model.specs.declared.pending.PendingStore.{PendingStore}
use Rattle.zb_model.specs.declared.refusal.Refusal.{Refusal}
use Rattle.zodb_core.specs.declared.reply.Reply.{Reply}
use Rattle.zodb_core.specs.declared.request.Request.{Request}
use Rattle.zodb_core.specs.declared.request.Request.TheVariants as request
use Rattle.zodb_core.specs.Machine.{Machine}
use Rattle.connection_view.specs.declared.loads.FrontView.{FrontView}
use Rattle.connection_view.specs.declared.loads.Loaded.{Loaded}
use Rattle.connection_view.specs.Loading.{IsFront, IsLoaded, IsNothingDone}
use Rattle.connection_view.specs.Views.{Client, committed, each_object, renewed, stored_in, unvoted, view_of, voting}
use Rattle.zeo_messages.specs.declared.call.Call.TheVariants as calls
use Rattle.zeo_desk.specs.Desks.{DeskState}
use Rattle.zeo_serving.specs.FrontLaws.{later_itself}
use Rattle.zeo_serving.specs.MayLaws.{may_alone}
use Rattle.zeo_serving.specs.Serving.{server_at}
use Rattle.zeo_client.specs.declared.error.ClientError.{ClientError}
use Rattle.zeo_client.specs.Renewing.{no_news, standing_as}
use Rattle.zeo_client.specs.Taking.{ClientState}
use Rattle.remote_loads.specs.Answers.{done_answer, oid_answer}
use Rattle.remote_loads.specs.Causes.{HasCauseIfErr, HasLinkCause, IsRemoteRefusal}
use Rattle.remote_loads.specs.Finishing.{FinishLeaves, IsRemoteFinish}
use Rattle.remote_loads.specs.Leaving.{AbortLeaves, LoadLeaves, OidLeaves, UndoLeaves, VoteLeaves}
use Rattle.remote_loads.specs.Making.{IsRemoteLoad, IsRemoteUndo, IsRemoteVote, MakesOne}
use Rattle.remote_loads.specs.Standing.{Stands}

-- ---- causes

pub caused : {X : Type 0} (before now : ℕ) (closed : Bool) (ended : Option ClientError) (result : Result X Refusal) → IfErr result (IsRemoteRefusal before now closed ended)
    → HasCauseIfErr (HasLinkCause before now closed ended) result
caused before now closed ended (Ok x) refused = tt
caused before now closed ended (Err r) refused = refused.1

-- ---- a front

abbrev renewed_client : ClientState → ClientState
renewed_client old = standing_as old (record old.held.standing { news = no_news })

front_of_client : (m : Machine) (n : ℕ) (d : DeskState) (old : ClientState) (c : Client) → Stands m n d old c
    → IsFront c c.known (record { front = old.held.standing.known; news = old.held.standing.news; switches = old.held.standing.switches })
front_of_client m n d old c x =
    let s = x.served.served in
    record { front = s.front; switches = s.switches; later = s.told; known = later_itself c.known; quiet = s.quiet }

renewed_served : (m : Machine) (n : ℕ) (d : DeskState) (old : ClientState) (c : Client) → Stands m n d old c → Stands m n d (renewed_client old) (renewed c.known c)
renewed_served m n d old c x = record {
  served =
      may_alone m n old.held.standing (renewed_client old).held.standing old.held.cache.entries old.held.cache.entries c (renewed c.known c) x.served.front x.served.switches
      (λ at sound s. record {
        knows = s.knows;
        front = s.front;
        switches = s.switches;
        told = later_itself c.known;
        quiet = λ oid named own. refl;
        votes = s.votes;
        asked = s.asked;
        each = s.each;
      }) x.served;
  rest = record { registered = x.rest.registered; end = x.rest.end; reading = x.rest.reading };
}

module _ (T : Type 0) (m : Machine) (n : ℕ) (d : DeskState) (old : ClientState) where
  abbrev HereAt : Client → Type 0
  HereAt c = T × Stands m n d old c

  pub front_says : (r : FrontView) → r ≡ record { front = old.held.standing.known; news = old.held.standing.news; switches = old.held.standing.switches } → (c : Client) → HereAt c → IsFront c c.known r
  front_says r is c x = subst (λ (k : FrontView). IsFront c c.known k) (sym is) (front_of_client m n d old c x.1)

  pub front_stands : (new : ClientState) → new ≡ renewed_client old → (c : Client) → HereAt c → T × Stands m n d new (renewed c.known c)
  front_stands new is c x = (x.0, subst (λ (k : ClientState). Stands m n d k (renewed c.known c)) (sym is) (renewed_served m n d old c x.1))

-- ---- the calls

module _ {S : Type 0} (T : Type 0) (steps : Request → Reply → S → S → Type 0) (machine : S → Machine) (n k : ℕ) (same : k ≡ n) (before now : S) (d left : DeskState) (old new : ClientState) where
  -- a client before the call, and one behind it
  abbrev Here : Client → Type 0
  Here c = T × Stands (machine before) n d old c

  abbrev There : Client → Type 0
  There c = T × Stands (machine now) k left new c

  abbrev Exactly : (Client → Type 0) → Type 0
  Exactly P = T → (c : Client) → Stands (machine before) n d old c → P c

  there : (c : Client) → T → Stands (machine now) n left new c → There c
  there c told x = (told, subst (λ (i : ℕ). Stands (machine now) i left new c) (sym same) x)

  module _ (oid front : ℕ) (result : Result Loaded Refusal) (exact : Exactly (λ c. LoadLeaves steps machine n before d old oid front c result new now left)) where
    pub load_same : (c : Client) → Here c → There c
    load_same c x = there c x.0 (exact x.0 c x.1).stands

    pub load_makes : Exactly (λ c. IsRemoteLoad steps before old.held oid front result now)
    load_makes told c x = (exact told c x).made

    pub load_loaded : IfOk result (λ r. (c : Client) → Here c → front ≤ c.told.front → IsLoaded oid front c.told (server_at (machine before)) r)
    load_loaded = by_result result (λ c x. (exact x.0 c x.1).loaded)
      where
        by_result : (result : Result Loaded Refusal) → ((c : Client) → Here c → IfOk result (λ l. front ≤ c.told.front → IsLoaded oid front c.told (server_at (machine before)) l))
            → IfOk result (λ r. (c : Client) → Here c → front ≤ c.told.front → IsLoaded oid front c.told (server_at (machine before)) r)
        by_result (Ok l) says = λ c x within. says c x within
        by_result (Err r) says = tt

  module _ (result : Result ℕ Refusal) (exact : Exactly (λ c. OidLeaves steps machine n before c result new now left)) where
    pub oid_same : (c : Client) → Here c → There c
    oid_same c x = there c x.0 (exact x.0 c x.1).stands

    pub oid_makes : Exactly (λ c. MakesOne steps (request.NewOids 1) (calls.NewOids 1) oid_answer before result now)
    oid_makes told c x = (exact told c x).made

  module _ (user description : List ℕ) (stores : List PendingStore) (checks : List PendingCheck) (result : Result (Unit {0}) Refusal) (exact : Exactly (λ c. VoteLeaves steps machine n before user description stores checks c result new now left)) where
    pub vote_voted : (c : Client) → Here c → There (voting (stored_in stores) c)
    vote_voted c x = there (voting (stored_in stores) c) x.0 (exact x.0 c x.1).stands

    pub vote_makes : Exactly (λ c. IsRemoteVote steps before user description stores checks result now)
    vote_makes told c x = (exact told c x).made

  module _ (user description tids : List ℕ) (result : Result (Unit {0}) Refusal) (exact : Exactly (λ c. UndoLeaves steps machine n before user description tids c result new now left)) where
    pub undo_voted : (c : Client) → Here c → There (voting each_object c)
    undo_voted c x = there (voting each_object c) x.0 (exact x.0 c x.1).stands

    pub undo_makes : Exactly (λ c. IsRemoteUndo steps before user description tids result now)
    undo_makes told c x = (exact told c x).made

  module _ (result : Result (Unit {0}) Refusal) (exact : Exactly (λ c. AbortLeaves steps machine n before c result new now left)) where
    pub abort_unvoted : OnOk result ((c : Client) → Here c → There (unvoted c))
    abort_unvoted = by_result result (λ c x. (exact x.0 c x.1).unvoted)
      where
        by_result : (result : Result (Unit {0}) Refusal) → ((c : Client) → Here c → OnOk result (Stands (machine now) n left new (unvoted c))) → OnOk result ((c : Client) → Here c → There (unvoted c))
        by_result (Ok done) says = λ c x. there (unvoted c) x.0 (says c x)
        by_result (Err r) says = tt

    pub abort_same : OnErr result ((c : Client) → Here c → There c)
    abort_same = by_result result (λ c x. (exact x.0 c x.1).same)
      where
        by_result : (result : Result (Unit {0}) Refusal) → ((c : Client) → Here c → OnErr result (Stands (machine now) n left new c)) → OnErr result ((c : Client) → Here c → There c)
        by_result (Ok done) says = tt
        by_result (Err r) says = λ c x. there c x.0 (says c x)

    pub abort_makes : Exactly (λ c. MakesOne steps request.Abort calls.TpcAbort done_answer before result now)
    abort_makes told c x = (exact told c x).made

  module _ (result : Result (Option ℕ) Refusal) (exact : Exactly (λ c. FinishLeaves steps machine n before c result new now left)) where
    abbrev Committed : Client → Type 0
    Committed c = There (committed (view_of (server_at (machine now))) c)

    pub finish_says : IfOk result (λ tid. MatchOption tid ((c : Client) → Here c → There (unvoted c)) (λ tid. (c : Client) → Here c → Committed c))
    finish_says = by_result result (λ c x. (exact x.0 c x.1).committed)
      where
        by_result : (result : Result (Option ℕ) Refusal)
            → ((c : Client) → Here c → IfOk result (λ tid. MatchOption tid (Stands (machine now) n left new (unvoted c)) (λ tid. Stands (machine now) n left new (committed (view_of (server_at (machine now))) c))))
            → IfOk result (λ tid. MatchOption tid ((c : Client) → Here c → There (unvoted c)) (λ tid. (c : Client) → Here c → Committed c))
        by_result (Ok None) says = λ c x. there (unvoted c) x.0 (says c x)
        by_result (Ok (Some tid)) says = λ c x. there (committed (view_of (server_at (machine now))) c) x.0 (says c x)
        by_result (Err r) says = tt

    pub finish_same : IfErr result (λ r. IsNothingDone r → (c : Client) → Here c → There c)
    finish_same = by_result result (λ c x. (exact x.0 c x.1).same)
      where
        by_result : (result : Result (Option ℕ) Refusal) → ((c : Client) → Here c → IfErr result (λ r. IsNothingDone r → Stands (machine now) n left new c)) → IfErr result (λ r. IsNothingDone r → (c : Client) → Here c → There c)
        by_result (Ok tid) says = tt
        by_result (Err r) says = λ done c x. there c x.0 (says c x done)

    pub finish_makes : Exactly (λ c. IsRemoteFinish steps before result now)
    finish_makes told c x = (exact told c x).made
