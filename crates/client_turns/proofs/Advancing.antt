-- How a call on a tree goes from one attempt to the next.
use Rattle.std.proofs.Common.{◌≡◌, ◌==◌, Bool, true, ◌<◌, ◌≤◌, ◌+◌, ℕ, zero, suc, false, length, List, [], ◌∷◌, ◌++◌, Option, Some, None, Result, Ok, Err, refl, sym, ap, subst, ◌∙◌, arith, inl, inr}
use Rattle.std.specs.Prelude.{All, IsSome, is_some, if◌then◌else◌, nat_eq, slice_get}
use Rattle.std.proofs.lemmas.Bool.{eqb-true}
use Rattle.std.proofs.lemmas.List.Elements.{All-cons, All-head, All-nil, All-tail}
use Rattle.zb_ids.specs.declared.stamp.Stamp.{Stamp}
use Rattle.zb_volume.specs.Moments.{here}
use Rattle.zb_model.specs.declared.data.Transaction.{Transaction}
use Rattle.zb_model.specs.declared.refusal.Refusal.{Refusal}
use Rattle.zb_model.specs.declared.refusal.Refusal.TheVariants as refusal
use Rattle.zodb_core.specs.declared.reply.Reply.TheVariants as reply
use Rattle.zodb_core.specs.HubState.{HubState, counts_of}
use Rattle.zodb_core.specs.Machine.{Machine, is_open_in}
use Rattle.zodb_core.specs.Outcomes.{Answered, StepOutcome, outcome_of_refusal}
use Rattle.tree_attempts.specs.declared.attempt.Made.{Made}
use Rattle.tree_attempts.specs.declared.known.Seen.{Seen}
use Rattle.tree_attempts.specs.declared.operation.TreeOperation.{TreeOperation}
use Rattle.tree_attempts.specs.Calls.{AreKnown, IsMade, IsRefused, MayRead, contents_of}
use Rattle.tree_attempts.specs.Known.{Agrees, known_at}
use Rattle.client_turns.specs.declared.client.Client.{Client}
use Rattle.client_turns.specs.declared.linked.LinkedClient.{LinkedClient}
use Rattle.client_turns.specs.declared.member.Member.{Member}
use Rattle.client_turns.specs.declared.member.Member.TheVariants.{Near, Far}
use Rattle.client_turns.specs.Members.{IsFarOf, IsLinkedOf, IsLinkedOpen, IsLinkedWork, IsMemberOf, changes_kept, connection_of, is_lost}
use Rattle.connection_view.specs.Works.{Work}
use Rattle.client_turns.specs.Asking.{IsCalm}
use Rattle.client_turns.specs.Clients.{Moment, OpenTransaction}
use Rattle.client_turns.specs.Clients as seen
use Rattle.client_turns.specs.DrawLaws.{new_raised, refused_answers}
use Rattle.client_turns.specs.Gathering.{AdvancesTo, IsAskedOf, IsCallOf, IsDrawIn, IsDrawOf, IsSightIn, IsSightOf, StandsGathering, objects_of, objects_over}
use Rattle.client_turns.specs.Steps.{IsReadAt}
use Rattle.client_turns.specs.Standing.{ClientsState, IsClientOf, IsOpenAs, IsWorkOf, LeadsTo, MayReadAt, MayReadFor, ReadsHub, StandsForMoment}
use Rattle.client_turns.specs.Views.{server_of}
use Rattle.connection_view.specs.declared.connection.Connection.{Connection}
use Rattle.connection_view.specs.Connections.{InView, work_of}
use Rattle.connection_view.specs.ViewLaws.{IsSeenFrom, later_later, seen_from}
use Rattle.connection_view.specs.Views.{Later, view_of}
use Rattle.connection_view.specs.Views as views
use Rattle.hub_carrier.specs.Ends.{machine_at}
use Rattle.local_loads.specs.Local as local
use Rattle.local_loads.specs.LocalLaws.{view_whole}
use Rattle.remote_loads.specs.Standing.{Stands}
use Rattle.zeo_serving.specs.Serving.{view_at}
use Rattle.client_turns.specs.Trees.{AllCameWhole, CameWhole, Draws, IsDrawn, IsOnWay, IsRaised, IsSeenIn, IsUncalled, MayDraw, NeedsMore, Sees, by_draw, by_read, by_tree, by_want}
use Rattle.client_turns.proofs.Changing.{opened_work}
use Rattle.client_turns.proofs.Framing.{calm_counts, calm_other, calm_whole}
use Rattle.client_turns.proofs.Gathering.{draws_more, known_more, over_agrees, seen_kept, seen_over, seen_same}
use Rattle.client_turns.proofs.Hubs.{open_whole}
use Rattle.client_turns.proofs.Placing.{IsKeptAt, kept_at}
use Rattle.btree_shapes.specs.declared.space.Call.{Call}
use Rattle.commit_phases.specs.Pending.{pending_of}

-- ---- what is done to the hub

module _ {R F : Type 0} (told lasts : Type 0) (stands : List ℕ → List Transaction → Type 0) where
  -- nothing
  pub still_reads : (o : StepOutcome) → IsCalm o → (h : HubState R F) → ReadsHub told lasts stands o h h
  still_reads o calm h = record {
    keeps = record {
      resolver = refl;
      refs = refl;
      later = record { reads = omega arith; others = omega arith };
      cause = calm_counts o (counts_of h.store) calm;
      broken = λ whole. whole ∙ sym (calm_whole o calm);
      side = λ on packs. here refl;
      moments = λ on tells whole m is leaves. here leaves;
    };
    list = λ tells whole. refl;
    whole = calm_whole o calm;
  }

  -- what was answered, and then ended otherwise
  pub calm_reads : (o : StepOutcome) → IsCalm o → (h g : HubState R F) → ReadsHub told lasts stands Answered h g → ReadsHub told lasts stands o h g
  calm_reads o calm h g reads = record {
    keeps = record {
      resolver = reads.keeps.resolver;
      refs = reads.keeps.refs;
      later = reads.keeps.later;
      cause = calm_other (counts_of h.store) (counts_of g.store) Answered o (inl refl) calm reads.keeps.cause;
      broken = λ whole. reads.keeps.broken whole ∙ sym (calm_whole o calm);
      side = reads.keeps.side;
      moments = reads.keeps.moments;
    };
    list = reads.list;
    whole = calm_whole o calm;
  }

-- a tree refuses a call
pub refused_calm : (objects : ℕ → Option Seen) (root : ℕ) (op : TreeOperation) (why : Refusal) → IsRefused objects root op why → IsCalm (outcome_of_refusal why)
refused_calm objects root op why is = inl (refused_answers objects root op why is)

-- no number was drawn
pub none_drawn : (numbers : List ℕ) (is_empty : Bool) → is_empty ≡ (length numbers == 0) → is_empty ≡ true → numbers ≡ []
none_drawn [] is_empty is holds = refl
none_drawn (n ∷ numbers) is_empty is holds = absurd (omega (arith, eqb-true (length (n ∷ numbers)) 0 (sym is ∙ holds)))

-- ---- the first attempt

pub starts : {R F : Type 0} (m : Moment) (at root : ℕ) (op : TreeOperation) (old : ClientsState R F) (before : Option (List Stamp)) → StandsForMoment old before m → MayReadAt m at → StandsGathering old before m at root op [] []
starts m at root op old before stands may =
    let t : (u : OpenTransaction) × (may.0.transaction ≡ Some u) = some_there may.0.transaction may.3 in
    record {
      now = m;
      stands = stands;
      client = may.0;
      there = may.1;
      transaction = t.0;
      begun = t.1;
      may = may.2;
      draws = refl;
      list = refl;
      journal = refl;
      clients = refl;
      sees = λ oid x is. absurd cc;
      whole = λ oid x is. absurd cc;
      may_draw = inl refl;
    }
  where
    some_there : (o : Option OpenTransaction) → IsSome o → (u : OpenTransaction) × (o ≡ Some u)
    some_there None some = absurd cc
    some_there (Some u) some = (u, refl)

-- ---- what a client with a link was told

whole_view : {R F : Type 0} (h : HubState R F) (b : Bool) → h.store.broken ≡ b → b ≡ false → view_at (machine_at h) ≡ view_of (local.server_of h)
whole_view h false is calm = sym (ap (λ (z : Bool). view_of (local.server_unless z h.store.list h.journal h.greatest)) is)
whole_view h true is calm = absurd cc

served_later : {R F : Type 0} (h : HubState R F) (x : LinkedClient) (told : views.Client) → Stands (machine_at h) x.session x.desk x.client told → h.store.broken ≡ false → Later told.told (view_of (local.server_of h))
served_later h x told stands whole =
    let at : stands.served.at ≡ machine_at h = stands.served.whole whole in
    later_later told.told told.known (view_of (local.server_of h)) stands.served.served.told
    (subst (Later told.known) (ap view_at at ∙ whole_view h h.store.broken refl whole) stands.served.served.knows.later)

linked_work : (k : Connection) (told : views.Client) (wr : Result Work Refusal) (t : OpenTransaction) → IsLinkedOpen k told wr (Some t) → (w : Work) × (wr ≡ Ok w) × IsLinkedWork k told w t
linked_work k told (Ok w) t is = (w, refl, is)
linked_work k told (Err r) t is = absurd is

-- ---- what one may read

some_of : (o : Option OpenTransaction) (t : OpenTransaction) → o ≡ Some t → IsSome o
some_of (Some t) u is = refl
some_of None u is = absurd cc

-- one more of the numbers that a call needs
one_within : (numbers : List ℕ) (oid count : ℕ) → length numbers < count → length (numbers ++ oid ∷ []) ≤ count
one_within numbers oid count less = let n : length (numbers ++ oid ∷ []) ≡ length numbers + 1 = one_longer numbers in omega (arith, n, less)
  where
    one_longer : (ns : List ℕ) → length (ns ++ oid ∷ []) ≡ length ns + 1
    one_longer [] = omega arith
    one_longer (n ∷ ns) = let r = one_longer ns in omega (arith, r)

pub needed_more : (m : Machine) (t : OpenTransaction) (root : ℕ) (op : TreeOperation) (numbers : List ℕ) (oid : ℕ) → NeedsMore m t root op numbers → MayDraw m t root op (numbers ++ oid ∷ [])
needed_more m t root op numbers oid n = inr (record { objects = n.objects; sees = n.sees; count = n.lacks.count; needs = n.lacks.needs; within = one_within numbers oid n.lacks.count n.lacks.more })

module _ {R F : Type 0} (m : Moment) (at root : ℕ) (op : TreeOperation) (old : ClientsState R F) (before : Option (List Stamp)) (known : List (ℕ × Option Seen)) (numbers : List ℕ) (g : StandsGathering old before m at root op known numbers) where
  there_now : slice_get g.now.clients at ≡ Some g.client
  there_now = ap (λ (cs : List seen.Client). slice_get cs at) g.clients ∙ g.there

  pub may_now : MayReadAt g.now at
  may_now = (g.client, there_now, g.may, some_of g.client.transaction g.transaction g.begun)

  same_client : (c : seen.Client) → slice_get g.now.clients at ≡ Some c → c ≡ g.client
  same_client c is = same c g.client (sym is ∙ there_now)
    where
      same : (a b : seen.Client) → Some a ≡ Some b → a ≡ b
      same a b e = cc

  -- a call that isn't answered
  pub ends_at : (why : Refusal) (new : ClientsState R F) (after : Option (List Stamp)) (now : Moment) → StandsForMoment new after now → IsUncalled m g.client.session g.transaction root op why now → LeadsTo (IsCallOf m at root op (Err why)) new after
  ends_at why new after now stands uncalled = record { now = now; holds = (g.client, g.there, g.transaction, g.begun, uncalled); stands = stands }

  pub starves : LeadsTo (IsCallOf m at root op (Err refusal.Memory)) old before
  starves = ends_at refusal.Memory old before g.now g.stands (by_want numbers g.may_draw g.draws refl)

  pub reads_for : MayReadFor old before at
  reads_for = (g.now, g.stands, may_now)

  -- where no number was drawn, nothing was done
  at_start : numbers ≡ [] → g.now ≡ m
  at_start none = subst (λ (ns : List ℕ). Draws m g.client.session ns g.now) none g.draws

  -- ---- one more object

  -- it came whole
  abbrev Whole : ℕ → Option Seen → Type 0
  Whole oid x = CameWhole g.transaction.framed (pending_of g.transaction.changes.pending.stores oid) x

  at_sight : (oid : ℕ) (result : Result (Option Seen) Refusal) (now : Moment) → IsSightOf g.now at oid result now → IsSightIn g.now (Some g.transaction) oid result now
  at_sight oid result now is =
      subst (λ (t : Option OpenTransaction). IsSightIn g.now t oid result now) (ap (λ (c : seen.Client). c.transaction) (same_client is.0 is.1) ∙ g.begun) is.2

  pub learns : (oid : ℕ) (x : Option Seen) (more : List (ℕ × Option Seen)) (new : ClientsState R F) (after : Option (List Stamp)) → LeadsTo (IsSightOf g.now at oid (Ok x)) new after
      → ((other : ℕ) → known_at more other ≡ (if nat_eq oid other then Some x else known_at known other)) → AdvancesTo m at root op new after more numbers None
  learns oid x more new after leads learned =
      let sight : (leads.now ≡ g.now) × IsSeenIn g.now.machine g.transaction oid x × Whole oid x = at_sight oid (Ok x) leads.now leads.holds in
      let here : IsSeenIn m.machine g.transaction oid x = seen_same g.now.machine m.machine g.transaction.view oid _ x (sym g.list) (sym g.journal) sight.1 in
      record {
        now = g.now;
        stands = subst (StandsForMoment new after) sight.0 leads.stands;
        client = g.client;
        there = g.there;
        transaction = g.transaction;
        begun = g.begun;
        may = g.may;
        draws = g.draws;
        list = g.list;
        journal = g.journal;
        clients = g.clients;
        sees = known_more (IsSeenIn m.machine g.transaction) known more oid x learned g.sees here;
        whole = known_more Whole known more oid x learned g.whole sight.2;
        may_draw = g.may_draw;
      }

  pub unlearned : (oid : ℕ) (x : Option Seen) (new : ClientsState R F) (after : Option (List Stamp)) → LeadsTo (IsSightOf g.now at oid (Ok x)) new after → LeadsTo (IsCallOf m at root op (Err refusal.Memory)) new after
  unlearned oid x new after leads =
      let sight : (leads.now ≡ g.now) × IsSeenIn g.now.machine g.transaction oid x × Whole oid x = at_sight oid (Ok x) leads.now leads.holds in
      ends_at refusal.Memory new after g.now (subst (StandsForMoment new after) sight.0 leads.stands) (by_want numbers g.may_draw g.draws refl)

  -- what is read for the call of the client at the place
  asked_here : (oid : ℕ) → IsAskedOf m at root op oid → IsOnWay m.machine g.transaction root op oid
  asked_here oid (c, there, t, begun, asked) =
      subst (λ (u : OpenTransaction). IsOnWay m.machine u root op oid) (same t g.transaction (sym begun ∙ ap (λ (d : seen.Client). d.transaction) (same_there c g.client (sym there ∙ g.there)) ∙ g.begun)) asked
    where
      same_there : (a b : seen.Client) → Some a ≡ Some b → a ≡ b
      same_there a b e = cc

      same : (a b : OpenTransaction) → Some a ≡ Some b → a ≡ b
      same a b e = cc

  unseen_by : (oid : ℕ) (why : Refusal) (now : Moment) → IsAskedOf m at root op oid → numbers ≡ [] → IsSightIn g.now (Some g.transaction) oid (Err why) now → IsUncalled m g.client.session g.transaction root op why now
  unseen_by oid why now asked none (inl read) = by_read oid (asked_here oid asked) (subst (λ (b : Moment). IsReadAt b g.transaction oid (Err why) now) (at_start none) read.0) read.1
  unseen_by oid why now asked none (inr starved) = by_want numbers g.may_draw (subst (Draws m g.client.session numbers) (sym starved.1) g.draws) starved.0

  pub unseen : (oid : ℕ) (why : Refusal) (new : ClientsState R F) (after : Option (List Stamp)) → IsAskedOf m at root op oid → numbers ≡ [] → LeadsTo (IsSightOf g.now at oid (Err why)) new after → LeadsTo (IsCallOf m at root op (Err why)) new after
  unseen oid why new after asked none leads = ends_at why new after leads.now leads.stands (unseen_by oid why leads.now asked none (at_sight oid (Err why) leads.now leads.holds))

  -- ---- one more number

  at_draw : (result : Result ℕ Refusal) (now : Moment) → IsDrawOf g.now at result now → IsDrawIn g.now g.client.session result now
  at_draw result now is = subst (λ (c : seen.Client). IsDrawIn g.now c.session result now) (same_client is.0 is.1) is.2

  pub draws_on : (oid : ℕ) (new : ClientsState R F) (after : Option (List Stamp)) → NeedsMore m.machine g.transaction root op numbers → LeadsTo (IsDrawOf g.now at (Ok oid)) new after → AdvancesTo m at root op new after known (numbers ++ oid ∷ []) None
  draws_on oid new after needs leads =
      let drawn : IsDrawn g.now g.client.session oid leads.now = at_draw (Ok oid) leads.now leads.holds in
      let raised : IsRaised g.now.machine leads.now.machine = new_raised drawn.0 g.now g.client.session (reply.Oids oid 1) leads.now drawn.1 in
      record {
        now = leads.now;
        stands = leads.stands;
        client = g.client;
        there = g.there;
        transaction = g.transaction;
        begun = g.begun;
        may = ap (λ (x : Machine). is_open_in x.sessions g.client.session) raised.is ∙ g.may;
        draws = draws_more m g.client.session numbers oid g.now leads.now g.draws drawn;
        list = ap (λ (x : Machine). x.list) raised.is ∙ g.list;
        journal = ap (λ (x : Machine). x.journal) raised.is ∙ g.journal;
        clients = drawn.1.clients ∙ g.clients;
        sees = g.sees;
        whole = g.whole;
        may_draw = needed_more m.machine g.transaction root op numbers oid needs;
      }

  pub undrawn_on : (oid : ℕ) (new : ClientsState R F) (after : Option (List Stamp)) → NeedsMore m.machine g.transaction root op numbers → LeadsTo (IsDrawOf g.now at (Ok oid)) new after → LeadsTo (IsCallOf m at root op (Err refusal.Memory)) new after
  undrawn_on oid new after needs leads =
      let drawn : IsDrawn g.now g.client.session oid leads.now = at_draw (Ok oid) leads.now leads.holds in
      ends_at refusal.Memory new after leads.now leads.stands
      (by_want (numbers ++ oid ∷ []) (needed_more m.machine g.transaction root op numbers oid needs) (draws_more m g.client.session numbers oid g.now leads.now g.draws drawn) refl)

  pub undrawn : (why : Refusal) (new : ClientsState R F) (after : Option (List Stamp)) → NeedsMore m.machine g.transaction root op numbers → LeadsTo (IsDrawOf g.now at (Err why)) new after → LeadsTo (IsCallOf m at root op (Err why)) new after
  undrawn why new after needs leads = ends_at why new after leads.now leads.stands (by_either (at_draw (Err why) leads.now leads.holds))
    where
      by_either : IsDrawIn g.now g.client.session (Err why) leads.now → IsUncalled m g.client.session g.transaction root op why leads.now
      by_either (inl refused) = by_draw numbers g.now needs g.draws refused
      by_either (inr (starved, inl same)) = by_want numbers g.may_draw (subst (Draws m g.client.session numbers) (sym same) g.draws) starved
      by_either (inr (starved, inr (oid, drawn))) =
          by_want (numbers ++ oid ∷ []) (needed_more m.machine g.transaction root op numbers oid needs) (draws_more m g.client.session numbers oid g.now leads.now g.draws drawn) starved

  -- ---- an attempt

  known_now : view_of (local.server_of old.hub) ≡ view_of (server_of g.now.machine)
  known_now = view_whole old.hub g.now.machine g.stands.hub (open_whole old.hub g.now.machine g.client.session g.stands.hub g.may)

  -- over what its connection keeps
  kept_sees : (k : Connection) (told : views.Client) (w : Work) (oid : ℕ) → g.transaction.changes ≡ changes_kept w → InView k g.transaction.view told → work_of k ≡ Ok w → Later told.told (view_of (local.server_of old.hub))
      → IsSeenIn m.machine g.transaction oid (objects_over known old.hub.store.list (work_of k) oid)
  kept_sees k told w oid changes view works told_later =
      let whole : old.hub.store.broken ≡ false = open_whole old.hub g.now.machine g.client.session g.stands.hub g.may in
      let from : IsSeenFrom w g.transaction.view told = seen_from k g.transaction.view told w view works in
      let later : Later g.transaction.view (view_of (server_of g.now.machine)) =
      later_later g.transaction.view told.told (view_of (server_of g.now.machine)) from.later (subst (Later told.told) known_now told_later) in
      let over : IsSeenIn g.now.machine g.transaction oid (objects_of old.hub.store.list (work_of k) oid) =
      subst (λ (wr : Result Work Refusal). IsSeenIn g.now.machine g.transaction oid (objects_of old.hub.store.list wr oid)) (sym works)
      (seen_kept g.now.machine k told w g.transaction old.hub.store.list oid changes view works later (g.stands.hub.list whole)) in
      seen_over m.machine g.transaction oid (known_at known oid) (objects_of old.hub.store.list (work_of k) oid) (λ y is. g.sees oid y is)
      (seen_same g.now.machine m.machine g.transaction.view oid _ (objects_of old.hub.store.list (work_of k) oid) (sym g.list) (sym g.journal) over)

  near_sees : (x : Client) (oid : ℕ) → IsClientOf old.hub x g.client → IsSeenIn m.machine g.transaction oid (objects_over known old.hub.store.list (work_of x.connection) oid)
  near_sees x oid is =
      let w : (v : Work) × (work_of x.connection ≡ Ok v) × IsWorkOf x.connection is.told v g.transaction =
      opened_work x.connection is.told (work_of x.connection) g.transaction (subst (IsOpenAs x.connection is.told (work_of x.connection)) g.begun is.transaction) in
      kept_sees x.connection is.told w.0 oid w.2.changes w.2.view w.1 is.may.later

  far_sees : (x : LinkedClient) (oid : ℕ) → IsLinkedOf old.hub x g.client → IsSeenIn m.machine g.transaction oid (objects_over known old.hub.store.list (work_of x.connection) oid)
  far_sees x oid is =
      let w : (v : Work) × (work_of x.connection ≡ Ok v) × IsLinkedWork x.connection is.told v g.transaction =
      linked_work x.connection is.told (work_of x.connection) g.transaction (subst (IsLinkedOpen x.connection is.told (work_of x.connection)) g.begun is.transaction) in
      kept_sees x.connection is.told w.0 oid w.2.changes w.2.view w.1 (served_later old.hub x is.told is.stands (open_whole old.hub g.now.machine g.client.session g.stands.hub g.may))

  member_sees : (x : Member) (k : Connection) (oid : ℕ) → IsMemberOf old.hub x g.client → k ≡ connection_of x → is_lost x ≡ false → IsSeenIn m.machine g.transaction oid (objects_over known old.hub.store.list (work_of k) oid)
  member_sees (Near x) k oid is its held = subst (λ (l : Connection). IsSeenIn m.machine g.transaction oid (objects_over known old.hub.store.list (work_of l) oid)) (sym its) (near_sees x oid is)
  member_sees (Far x) k oid is its held =
      subst (λ (l : Connection). IsSeenIn m.machine g.transaction oid (objects_over known old.hub.store.list (work_of l) oid)) (sym its)
      (far_sees x.client oid (subst (λ (b : Bool). IsFarOf old.hub b x.client g.client) held is))

  pub sees_over : (k : Connection) → ((x : Member) → slice_get old.clients at ≡ Some x → k ≡ connection_of x) → ((x : Member) → slice_get old.clients at ≡ Some x → is_lost x ≡ false) → Sees m.machine g.transaction (objects_over known old.hub.store.list (work_of k))
  sees_over k tells held oid =
      let kept : IsKeptAt old.hub old.clients at g.client = kept_at old.hub old.clients g.now.clients at g.client g.stands.clients there_now in
      member_sees kept.kept k oid kept.is (tells kept.kept kept.there) (held kept.kept kept.there)

  -- it sees some objects, with which what is known agrees
  pub seen_here : ((x : Member) → slice_get old.clients at ≡ Some x → is_lost x ≡ false) → (objects : ℕ → Option Seen) × Agrees known objects × Sees m.machine g.transaction objects
  seen_here held =
      let kept : IsKeptAt old.hub old.clients at g.client = kept_at old.hub old.clients g.now.clients at g.client g.stands.clients there_now in
      let work = work_of (connection_of kept.kept) in
      (objects_over known old.hub.store.list work, over_agrees known old.hub.store.list work, sees_over (connection_of kept.kept) (λ x there. ap connection_of (same_kept kept.kept x (sym kept.there ∙ there))) held)
    where
      same_kept : (a b : Member) → Some a ≡ Some b → a ≡ b
      same_kept a b e = cc

  -- what was read was known, so it came whole
  whole_here : (objects : ℕ → Option Seen) (calls : List Call) → Agrees known objects → AreKnown known calls → AllCameWhole g.transaction objects calls
  whole_here objects calls agrees read oid among = by_known (known_at known oid) refl (read oid among)
    where
      by_known : (o : Option (Option Seen)) → known_at known oid ≡ o → is_some o ≡ true → Whole oid (objects oid)
      by_known None is some = absurd cc
      by_known (Some x) is some = subst (Whole oid) (sym (agrees oid x is)) (g.whole oid x is)

  pub made_on : (objects : ℕ → Option Seen) (made : Made) → Sees m.machine g.transaction objects → Agrees known objects → ((is : IsMade objects root op numbers made.answer made.puts) × AreKnown known is.calls) → All (λ p. 0 < length p.bytes) made.puts
      → LeadsTo (IsCallOf m at root op (Ok made)) old before
  made_on objects made sees agrees is filled = record {
    now = g.now;
    holds = (g.client, g.there, g.transaction, g.begun, record { objects = objects; sees = sees; numbers = numbers; draws = g.draws; made = is.0; whole = whole_here objects is.0.calls agrees is.1; filled = filled });
    stands = g.stands;
  }

  pub refused_on : (objects : ℕ → Option Seen) (why : Refusal) → Sees m.machine g.transaction objects → Agrees known objects → ((is : IsRefused objects root op why) × AreKnown known is.calls) → numbers ≡ [] → LeadsTo (IsCallOf m at root op (Err why)) old before
  refused_on objects why sees agrees is none = ends_at why old before g.now g.stands (by_tree objects sees is.0 (whole_here objects is.0.calls agrees is.1) (at_start none))

-- what an attempt wants, and what is read ahead
pub want_asked : {R F : Type 0} (m : Moment) (at root : ℕ) (op : TreeOperation) (old : ClientsState R F) (before : Option (List Stamp)) (known : List (ℕ × Option Seen)) (numbers : List ℕ) → (g : StandsGathering old before m at root op known numbers) → (objects : ℕ → Option Seen) → Sees m.machine g.transaction objects
    → (oid : ℕ) → MayRead (contents_of objects) root op oid → IsAskedOf m at root op oid
want_asked m at root op old before known numbers g objects sees oid may = (g.client, g.there, g.transaction, g.begun, record { objects = objects; sees = sees; may = may })

pub ahead_asked : {R F : Type 0} (m : Moment) (at root : ℕ) (op : TreeOperation) (old : ClientsState R F) (before : Option (List Stamp)) (known : List (ℕ × Option Seen)) (numbers : List ℕ) → (g : StandsGathering old before m at root op known numbers) → (objects : ℕ → Option Seen) → Sees m.machine g.transaction objects
    → (oids : List ℕ) → All (MayRead (contents_of objects) root op) oids → All (IsAskedOf m at root op) oids
ahead_asked m at root op old before known numbers g objects sees [] a = All-nil (IsAskedOf m at root op)
ahead_asked m at root op old before known numbers g objects sees (oid ∷ oids) a =
    All-cons (IsAskedOf m at root op) oid oids (want_asked m at root op old before known numbers g objects sees oid (All-head (MayRead (contents_of objects) root op) oid oids a))
    (ahead_asked m at root op old before known numbers g objects sees oids (All-tail (MayRead (contents_of objects) root op) oid oids a))

-- one of several
pub one_of_all : (P : ℕ → Type 0) (xs : List ℕ) (i x : ℕ) → All P xs → slice_get xs i ≡ Some x → P x
one_of_all P [] i x a is = absurd cc
one_of_all P (y ∷ xs) zero x a is = let same : y ≡ x = cc in subst P same (All-head P y xs a)
one_of_all P (y ∷ xs) (suc i) x a is = one_of_all P xs i x (All-tail P y xs a) is
