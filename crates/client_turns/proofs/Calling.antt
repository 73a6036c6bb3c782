-- How a call on a tree ends its line.
use Rattle.std.proofs.Common.{◌≡◌, ◌⊎◌, Bool, true, false, ℕ, List, [], ◌∷◌, ◌++◌, length, append_assoc, Option, Some, None, Result, Ok, Err, refl, sym, ap, subst, ◌∙◌, inl, inr}
use Rattle.std.specs.Prelude.{IsSome, slice_get, slice_set}
use Rattle.std.specs.Option.{option_map}
use Rattle.zb_ids.specs.declared.stamp.Stamp.{Stamp}
use Rattle.zb_model.specs.declared.data.Content.TheVariants.{Held}
use Rattle.zb_model.specs.declared.pending.PendingStore.{PendingStore}
use Rattle.zb_model.specs.declared.refusal.Refusal.{Refusal}
use Rattle.zb_model.specs.declared.refusal.Refusal.TheVariants as refusal
use Rattle.zb_answers.specs.declared.answer.Answer.{Answer}
use Rattle.zb_answers.specs.declared.answer.Answer.TheVariants as answer
use Rattle.zb_script.specs.declared.line.Line.{Line}
use Rattle.zb_script.specs.declared.line.Line.TheVariants as line
use Rattle.zb_script.specs.declared.tree_call.TreeCall.{TreeCall}
use Rattle.zodb_core.specs.HubState.{HubState, StandsForMachine, counts_of}
use Rattle.zodb_core.specs.Machine.{Rules}
use Rattle.connection_view.specs.declared.connection.Connection.{Connection}
use Rattle.connection_view.specs.Works.{Work}
use Rattle.connection_view.specs.Connections.{InView, LeavesWork, changeable, followed_by, stored_all, work_of}
use Rattle.connection_view.specs.Views.{View}
use Rattle.connection_view.specs.Views as views
use Rattle.local_loads.specs.declared.told.Told.{Told}
use Rattle.local_loads.specs.Local.{MayBeTold}
use Rattle.tree_attempts.specs.declared.attempt.Made.{Made}
use Rattle.tree_attempts.specs.declared.put.TreePut.{TreePut}
use Rattle.tree_attempts.specs.declared.operation.TreeOperation.{TreeOperation}
use Rattle.client_turns.specs.declared.client.Client.{Client}
use Rattle.client_turns.specs.declared.linked.LinkedClient.{LinkedClient}
use Rattle.client_turns.specs.declared.member.FarClient.{FarClient}
use Rattle.client_turns.specs.declared.member.Member.{Member}
use Rattle.client_turns.specs.declared.member.Member.TheVariants.{Near, Far}
use Rattle.client_turns.specs.Laws.{IsSoundMoment}
use Rattle.client_turns.specs.Members.{IsFarOf, IsLinkedOf, IsLinkedOpen, IsMemberOf, connection_of, far, is_lost}
use Rattle.client_turns.proofs.Keeping.{rise_set}
use Rattle.client_turns.proofs.Sounding.{end_moves}
use Rattle.client_turns.specs.Asking.{IsFarPut, IsMemberPut, IsPutAll, IsPutAs, IsSameBut, answered, client_over}
use Rattle.client_turns.specs.Clients.{Changes, Moment, OpenTransaction, with_client}
use Rattle.client_turns.specs.Clients as seen
use Rattle.client_turns.specs.DrawLaws.{call_leaves}
use Rattle.client_turns.specs.Gathering.{IsCallOf}
use Rattle.client_turns.specs.Lines.{request_of, with_changes}
use Rattle.client_turns.specs.Refusing.{line_refusal}
use Rattle.client_turns.specs.Standing.{AreClientsOf, ClientsState, IsClientOf, IsLineOpen, IsOpenAs, IsOpenLineOf, IsOwnOf, LeadsTo, MayAskAt, MayReadAt, OrStarved, StandsForMoment}
use Rattle.client_turns.specs.Steps.{IsChange}
use Rattle.client_turns.specs.Trees.{CallEnds, IsTreeEnd, IsTreeLine, all_stored, answer_told, operation_of, stores_put}
use Rattle.client_turns.specs.Turns.{IsOwnLine}
use Rattle.client_turns.proofs.Asked.{none_of, opened_of}
use Rattle.client_turns.proofs.Changing.{puts_leave}
use Rattle.client_turns.proofs.One.{own_open, refused_open, set_there, starved_open}
use Rattle.client_turns.proofs.LinkEnds.{linked_none, linked_opened}
use Rattle.client_turns.proofs.Placing.{IsKeptAt, kept_at, set_at}

-- ---- what is put

pub all_put : (x y : Client) (a : Answer) (puts : List PendingStore) (reply : Answer) (result : Result (Unit {0}) Refusal) → IsSameBut x y → ((u : View) (v : views.Client) → InView x.connection u v → InView y.connection u v) → (puts ≡ [] → ⊥)
    → LeavesWork (followed_by (changeable (work_of x.connection)) (stored_all puts)) (work_of x.connection) (work_of y.connection) result → reply ≡ answered result a → IsPutAll x y a puts reply
all_put x y a [] reply result but view some leaves answers = absurd (some refl)
all_put x y a (p ∷ ps) reply result but view some leaves answers = puts_leave x y a p ps but view reply result leaves answers

-- and so of a client with a link, that is known
far_whole : (x : FarClient) → x.is_lost ≡ false → x ≡ record { client = x.client; is_lost = false }
far_whole x held = ap (λ (l : Bool). let f : FarClient = record { client = x.client; is_lost = l } in f) held

pub far_put_in : (x : FarClient) (k : Connection) (a : Answer) (puts : List PendingStore) (reply : Answer) → x.is_lost ≡ false → IsPutAll (client_over x.client.connection) (client_over k) a puts reply
    → IsFarPut x.is_lost x (record { client = record { name = x.client.name; session = x.client.session; connection = k; client = x.client.client; desk = x.client.desk }; is_lost = x.is_lost }) a puts reply
far_put_in x k a puts reply held put =
    subst (λ (b : Bool). IsFarPut b x (record { client = record { name = x.client.name; session = x.client.session; connection = k; client = x.client.client; desk = x.client.desk }; is_lost = b }) a puts reply) (sym held) (refl, put)

none_put : (k : Connection) (a : Answer) (puts : List PendingStore) → puts ≡ [] → IsPutAll (client_over k) (client_over k) a puts a
none_put k a puts none = subst (λ (ps : List PendingStore). IsPutAll (client_over k) (client_over k) a ps a) (sym none) (λ told t kept_open. record { same = record { name = refl; session = refl; told = refl }; put = inl (refl, kept_open) })

pub far_put_none : (x : FarClient) (a : Answer) (puts : List PendingStore) → x.is_lost ≡ false → puts ≡ [] → IsFarPut x.is_lost x x a puts a
far_put_none x a puts held none = subst (λ (b : Bool). IsFarPut b x x a puts a) (sym held) (far_whole x held, none_put x.client.connection a puts none)

pub far_put_lost : (x : FarClient) (a : Answer) (puts : List PendingStore) → x.is_lost ≡ true → IsFarPut x.is_lost x x a puts (answer.Refused refusal.Memory)
far_put_lost x a puts lost = subst (λ (b : Bool). IsFarPut b x x a puts (answer.Refused refusal.Memory)) (sym lost) (refl, refl)

-- one more is put
pub stores_more : (done : List PendingStore) (p : TreePut) (left items puts : List TreePut) → items ≡ p ∷ left → done ++ stores_put items ≡ stores_put puts
    → (done ++ (record { oid = p.oid; base = p.base; content = Held p.bytes }) ∷ []) ++ stores_put left ≡ stores_put puts
stores_more done p left items puts is all =
    let store : PendingStore = record { oid = p.oid; base = p.base; content = Held p.bytes } in
    append_assoc done (store ∷ []) (stores_put left) ∙ subst (λ (ps : List TreePut). done ++ stores_put ps ≡ stores_put puts) is all

-- ---- lines

line_at : (m b now : Moment) (at root : ℕ) (call : TreeCall) (c : seen.Client) (t : OpenTransaction) (op : TreeOperation) (result : Result Made Refusal) (a : Answer) → c.transaction ≡ Some t → op ≡ operation_of call
    → CallEnds m c.session t root op result b → IsTreeEnd b at c t result a now → IsOwnLine m at c c.transaction (line.Tree root call) a now
line_at m b now at root call c t op result a begun is ends end =
    subst (λ (o : Option OpenTransaction). IsOwnLine m at c o (line.Tree root call) a now) (sym begun)
    (let own : IsTreeLine m at c t root call a now = record { result = result; behind = b; ends = subst (λ (x : TreeOperation). CallEnds m c.session t root x result b) is ends; end = end } in
    own)

-- a call that is refused
pub call_refused : {R F : Type 0} (m : Moment) (at root : ℕ) (call : TreeCall) (op : TreeOperation) (why : Refusal) (new : ClientsState R F) (after : Option (List Stamp)) → op ≡ operation_of call
    → LeadsTo (IsCallOf m at root op (Err why)) new after → LeadsTo (OrStarved (IsOwnOf m at (line.Tree root call)) m (answer.Refused why)) new after
call_refused m at root call op why new after is leads = record {
  now = leads.now;
  holds = inl (
    leads.holds.0,
    leads.holds.1,
    line_at m leads.now leads.now at root call leads.holds.0 leads.holds.2 op (Err why) (answer.Refused why) leads.holds.3 is leads.holds.4 (refl, refl),
  );
  stands = leads.stands;
}

-- the clients, with this one as another of the same hub
with_one : {R F : Type 0} (b : Moment) (at : ℕ) (d : seen.Client) (y : Member) (c : seen.Client) (mid new : ClientsState R F) (between : Option (List Stamp)) → StandsForMoment mid between b → new.hub ≡ mid.hub → new.clients ≡ slice_set mid.clients at y → IsMemberOf mid.hub y d
    → slice_get b.clients at ≡ Some c → d.session ≡ c.session → IsSoundMoment (with_client b at d) → StandsForMoment new between (with_client b at d)
with_one {R} {F} b at d y c mid new between stood hub clients is there session sound = record {
  hub = subst (λ (h : HubState R F). StandsForMachine h b.machine) (sym hub) stood.hub;
  vote = stood.vote;
  within = stood.within;
  clients = subst (λ (h : HubState R F). AreClientsOf h new.clients (slice_set b.clients at d)) (sym hub)
      (subst (λ (xs : List Member). AreClientsOf mid.hub xs (slice_set b.clients at d)) (sym clients) (set_at mid.hub mid.clients b.clients at y d stood.clients is));
  apart = rise_set 0 (length b.machine.sessions) b.clients at c d there session stood.apart;
  sound = sound;
  counts = stood.counts ∙ ap (λ (h : HubState R F). counts_of h.store) (sym hub);
  stamps = stood.stamps;
}

same_moment : (b : Moment) (at : ℕ) (c : seen.Client) → slice_get b.clients at ≡ Some c → with_client b at c ≡ b
same_moment b at c there = ap (λ (cs : List seen.Client). let n : Moment = record { machine = b.machine; clients = cs; stamps = b.stamps; counts = b.counts } in n) (sym (set_there b.clients at c there))

-- a call that is answered, and what it puts
module _ {R F : Type 0} (m : Moment) (at root : ℕ) (call : TreeCall) (op : TreeOperation) (made : Made) (told : Answer) (puts : List PendingStore) (reply : Answer) (mid new : ClientsState R F) (between : Option (List Stamp)) (is : op ≡ operation_of call) (tells : told ≡ answer_told made.answer)
    (same : puts ≡ stores_put made.puts) (leads : LeadsTo (IsCallOf m at root op (Ok made)) mid between) (hub : new.hub ≡ mid.hub) where
  abbrev c : seen.Client
  c = leads.holds.0

  abbrev t : OpenTransaction
  t = leads.holds.2

  abbrev b : Moment
  b = leads.now

  there : slice_get b.clients at ≡ Some c
  there = ap (λ (cs : List seen.Client). slice_get cs at) (call_leaves m c.session t root op (Ok made) b leads.holds.4).clients ∙ leads.holds.1

  abbrev Ended : Type 0
  Ended = LeadsTo (OrStarved (IsOwnOf m at (line.Tree root call)) m reply) new between

  moved : (d : seen.Client) → IsTreeEnd b at c t (Ok made) reply (with_client b at d) → IsSoundMoment (with_client b at d)
  moved d end = (end_moves b (with_client b at d) at c t (Ok made) reply leads.stands.sound there leads.holds.3 leads.holds.4.filled end).sound

  abbrev stored : Changes
  stored = (all_stored t.changes told puts).changes

  -- all of it
  all_put_in : (y : Member) → IsMemberOf mid.hub y (with_changes c t stored) → new.clients ≡ slice_set mid.clients at y → reply ≡ (all_stored t.changes told puts).answer → Ended
  all_put_in y kept clients so =
      let d : seen.Client = with_changes c t stored in
      let change : IsChange b at c t (all_stored t.changes (answer_told made.answer) (stores_put made.puts)) reply (with_client b at d) =
      subst (λ (ps : List PendingStore). IsChange b at c t (all_stored t.changes (answer_told made.answer) ps) reply (with_client b at d)) same
      (subst (λ (z : Answer). IsChange b at c t (all_stored t.changes z puts) reply (with_client b at d)) tells (so, refl)) in
      record {
        now = with_client b at d;
        holds = inl (c, leads.holds.1, line_at m b (with_client b at d) at root call c t op (Ok made) reply leads.holds.3 is leads.holds.4 (inl change));
        stands = with_one b at d y c mid new between leads.stands hub clients kept there refl (moved d (inl change));
      }

  -- or nothing, for want of memory
  none_put_in : (y : Member) → IsMemberOf mid.hub y c → new.clients ≡ slice_set mid.clients at y → reply ≡ answer.Refused refusal.Memory → Ended
  none_put_in y kept clients starved = record {
    now = with_client b at c;
    holds = inl (c, leads.holds.1, line_at m b (with_client b at c) at root call c t op (Ok made) reply leads.holds.3 is leads.holds.4 (inr (starved, same_moment b at c there)));
    stands = with_one b at c y c mid new between leads.stands hub clients kept there refl (moved c (inr (starved, same_moment b at c there)));
  }

  -- of a local client
  near_put : (x y : Client) → IsClientOf mid.hub x c → IsPutAll x y told puts reply → new.clients ≡ slice_set mid.clients at (Near y) → Ended
  near_put x y kept put clients = by_put (put kept.told t (subst (IsOpenAs x.connection kept.told (work_of x.connection)) leads.holds.3 kept.transaction))
    where
      client : (d : seen.Client) (o : Option OpenTransaction) → IsSameBut x y → d.name ≡ c.name → d.session ≡ c.session → d.standing ≡ c.standing → d.transaction ≡ o → IsOpenAs y.connection kept.told (work_of y.connection) o → IsClientOf mid.hub y d
      client d o but name session near begun opened = record {
        name = name ∙ kept.name ∙ sym but.name;
        session = session ∙ kept.session ∙ sym but.session;
        local = near ∙ kept.local;
        told = kept.told;
        may = subst (λ (l : Option Told). MayBeTold l mid.hub kept.told.told kept.told.known) (sym but.told) kept.may;
        transaction = subst (IsOpenAs y.connection kept.told (work_of y.connection)) (sym begun) opened;
      }

      by_put : IsPutAs x y told puts reply kept.told t → Ended
      by_put p = by_either p.put
        where
          by_either : ((reply ≡ (all_stored t.changes told puts).answer) × IsOpenAs y.connection kept.told (work_of y.connection) (Some (record { framed = t.framed; view = t.view; changes = stored }))) ⊎ ((reply ≡ answer.Refused refusal.Memory) × IsOpenAs y.connection kept.told (work_of y.connection) (Some t)) → Ended
          by_either (inl so) = all_put_in (Near y) (client (with_changes c t stored) (Some (record { framed = t.framed; view = t.view; changes = stored })) p.same refl refl refl refl so.1) clients so.0
          by_either (inr starved) = none_put_in (Near y) (client c (Some t) p.same refl refl refl leads.holds.3 starved.1) clients starved.0

  -- of one with a link
  abbrev unframed : OpenTransaction
  unframed = record { framed = false; view = t.view; changes = t.changes }

  as_near : (k : Connection) (v : views.Client) (w : Result Work Refusal) → IsLinkedOpen k v w (Some t) → IsOpenAs k v w (Some unframed)
  as_near k v (Ok w) kept_open = record { changes = kept_open.changes; near = refl; view = kept_open.view }
  as_near k v (Err r) kept_open = absurd kept_open

  framed_so : (k : Connection) (v : views.Client) (w : Result Work Refusal) → IsLinkedOpen k v w (Some t) → t.framed ≡ true
  framed_so k v (Ok w) kept_open = kept_open.far
  framed_so k v (Err r) kept_open = absurd kept_open

  as_far : (k : Connection) (v : views.Client) (w : Result Work Refusal) (ch : Changes) → t.framed ≡ true → IsOpenAs k v w (Some (record { framed = false; view = t.view; changes = ch })) → IsLinkedOpen k v w (Some (record { framed = t.framed; view = t.view; changes = ch }))
  as_far k v (Ok w) ch far kept_open = record { changes = kept_open.changes; far = far; view = kept_open.view }
  as_far k v (Err r) ch far kept_open = absurd kept_open

  linked_put : (x y : LinkedClient) → IsLinkedOf mid.hub x c → y ≡ record { name = x.name; session = x.session; connection = y.connection; client = x.client; desk = x.desk } → IsPutAll (client_over x.connection) (client_over y.connection) told puts reply
      → new.clients ≡ slice_set mid.clients at (far y) → Ended
  linked_put x y kept but put clients = by_either (put kept.told unframed (as_near x.connection kept.told (work_of x.connection) opened)).put
    where
      opened : IsLinkedOpen x.connection kept.told (work_of x.connection) (Some t)
      opened = subst (IsLinkedOpen x.connection kept.told (work_of x.connection)) leads.holds.3 kept.transaction

      framed : t.framed ≡ true
      framed = framed_so x.connection kept.told (work_of x.connection) opened

      client : (d : seen.Client) (o : Option OpenTransaction) → d.name ≡ c.name → d.session ≡ c.session → d.standing ≡ c.standing → d.transaction ≡ o → IsLinkedOpen y.connection kept.told (work_of y.connection) o → IsLinkedOf mid.hub y d
      client d o name session linked begun kept_open = subst (λ (z : LinkedClient). IsLinkedOf mid.hub z d) (sym but) (record {
        name = name ∙ kept.name;
        session = session ∙ kept.session;
        told = kept.told;
        linked = linked ∙ kept.linked;
        stands = kept.stands;
        transaction = subst (IsLinkedOpen y.connection kept.told (work_of y.connection)) (sym begun) kept_open;
      })

      by_either : ((reply ≡ (all_stored t.changes told puts).answer) × IsOpenAs y.connection kept.told (work_of y.connection) (Some (record { framed = false; view = t.view; changes = stored }))) ⊎ ((reply ≡ answer.Refused refusal.Memory) × IsOpenAs y.connection kept.told (work_of y.connection) (Some unframed)) → Ended
      by_either (inl so) =
          all_put_in (far y) (client (with_changes c t stored) (Some (record { framed = t.framed; view = t.view; changes = stored })) refl refl refl refl (as_far y.connection kept.told (work_of y.connection) stored framed so.1)) clients so.0
      by_either (inr starved) = none_put_in (far y) (client c (Some t) refl refl refl leads.holds.3 (as_far y.connection kept.told (work_of y.connection) t.changes framed starved.1)) clients starved.0

  far_put : (b : Bool) (x y : FarClient) → x.is_lost ≡ b → IsFarOf mid.hub b x.client c → IsFarPut b x y told puts reply → new.clients ≡ slice_set mid.clients at (Far y) → Ended
  far_put false x y held kept put clients =
      let now : y ≡ record { client = y.client; is_lost = false } = far_whole y (ap (λ (z : FarClient). z.is_lost) put.0) in
      linked_put x.client y.client kept (ap (λ (z : FarClient). z.client) put.0) put.1 (clients ∙ ap (λ (z : FarClient). slice_set mid.clients at (Far z)) now)
  far_put true x y held kept put clients =
      none_put_in (Far y) (subst (λ (z : FarClient). IsMemberOf mid.hub (Far z) c) (sym put.0) (subst (λ (l : Bool). IsFarOf mid.hub l x.client c) (sym held) kept)) clients put.1

  member_put : (x y : Member) → IsMemberOf mid.hub x c → IsMemberPut x y told puts reply → new.clients ≡ slice_set mid.clients at y → Ended
  member_put (Near x) (Near y) kept put clients = near_put x y kept put clients
  member_put (Far x) (Far y) kept put clients = far_put x.is_lost x y refl kept put clients
  member_put (Near x) (Far y) kept put clients = absurd put
  member_put (Far x) (Near y) kept put clients = absurd put

  pub call_made : ((x : Member) → slice_get mid.clients at ≡ Some x → (y : Member) × (new.clients ≡ slice_set mid.clients at y) × IsMemberPut x y told puts reply) → Ended
  call_made changed =
      let k : IsKeptAt mid.hub mid.clients at c = kept_at mid.hub mid.clients b.clients at c leads.stands.clients there in
      let y = changed k.kept k.there in
      member_put k.kept y.0 k.is y.2 y.1

-- there was no memory for what it puts
pub call_starved : {R F : Type 0} (m : Moment) (at root : ℕ) (call : TreeCall) (op : TreeOperation) (made : Made) (mid : ClientsState R F) (between : Option (List Stamp)) → op ≡ operation_of call
    → LeadsTo (IsCallOf m at root op (Ok made)) mid between → LeadsTo (OrStarved (IsOwnOf m at (line.Tree root call)) m (answer.Refused refusal.Memory)) mid between
call_starved m at root call op made mid between is leads = record {
  now = leads.now;
  holds = inl (
    leads.holds.0,
    leads.holds.1,
    line_at m leads.now leads.now at root call leads.holds.0 leads.holds.2 op (Ok made) (answer.Refused refusal.Memory) leads.holds.3 is leads.holds.4 (inr (refl, refl)),
  );
  stands = leads.stands;
}

-- there was no memory to begin with
pub line_starved : {R F : Type 0} (m : Moment) (at : ℕ) (l : Line) (old : ClientsState R F) (before : Option (List Stamp)) → StandsForMoment old before m → LeadsTo (OrStarved (IsOwnOf m at l) m (answer.Refused refusal.Memory)) old before
line_starved m at l old before stands = record { now = m; holds = inr (refl, refl); stands = stands }

-- ---- whatever is open

-- the transaction of a client whose link, if it has one, is known
member_opened : {R F : Type 0} (h : HubState R F) (x : Member) (c : seen.Client) (w : Work) → is_lost x ≡ false → IsMemberOf h x c → work_of (connection_of x) ≡ Ok w → IsSome c.transaction
member_opened h (Near x) c w held is works = let o = opened_of x.connection is.told (work_of x.connection) w c is.transaction works in subst (λ (z : Option OpenTransaction). IsSome z) (sym o.begun) refl
member_opened h (Far x) c w held is works =
    let kept : IsLinkedOf h x.client c = subst (λ (b : Bool). IsFarOf h b x.client c) held is in
    let o = linked_opened x.client.connection kept.told (work_of x.client.connection) w c kept.transaction works in
    subst (λ (z : Option OpenTransaction). IsSome z) (sym o.begun) refl

member_none : {R F : Type 0} (h : HubState R F) (x : Member) (c : seen.Client) (r : Refusal) → is_lost x ≡ false → IsMemberOf h x c → work_of (connection_of x) ≡ Err r → c.transaction ≡ None
member_none h (Near x) c r held is works = (none_of x.connection is.told (work_of x.connection) r c is.transaction works).1
member_none h (Far x) c r held is works =
    let kept : IsLinkedOf h x.client c = subst (λ (b : Bool). IsFarOf h b x.client c) held is in
    (linked_none x.client.connection kept.told (work_of x.client.connection) r c kept.transaction works).1

module _ {R F : Type 0} (m : Moment) (at : ℕ) (old : ClientsState R F) (before : Option (List Stamp)) (stands : StandsForMoment old before m) (asks : MayAskAt m at) (k : Connection) (held : (x : Member) → slice_get old.clients at ≡ Some x → is_lost x ≡ false) (tells : (x : Member) → slice_get old.clients at ≡ Some x → k ≡ connection_of x) where
  kept : IsKeptAt old.hub old.clients at asks.0
  kept = kept_at old.hub old.clients m.clients at asks.0 stands.clients asks.1

  -- a transaction
  pub may_read : (w : Work) × (work_of k ≡ Ok w) → MayReadAt m at
  may_read (w, works) = (asks.0, asks.1, asks.2, member_opened old.hub kept.kept asks.0 w (held kept.kept kept.there) kept.is (ap work_of (sym (tells kept.kept kept.there)) ∙ works))

  -- none
  pub closed_line : (rules : Rules) (root : ℕ) (call : TreeCall) → (r : Refusal) × (work_of k ≡ Err r) → LeadsTo (IsOpenLineOf rules m at (line.Tree root call) (answer.Refused refusal.NoTransaction)) old before
  closed_line rules root call (r, works) =
      let none : asks.0.transaction ≡ None = member_none old.hub kept.kept asks.0 r (held kept.kept kept.there) kept.is (ap work_of (sym (tells kept.kept kept.there)) ∙ works) in
      record {
        now = m;
        holds = (
          asks.0,
          asks.1,
          refused_open rules m at asks.0 (line.Tree root call) (answer.Refused refusal.NoTransaction) m refusal.NoTransaction
              (ap (λ (o : Option OpenTransaction). line_refusal (option_map (λ (t : OpenTransaction). t.changes) o) (line.Tree root call)) none) refl refl,
        );
        stands = stands;
      }

-- a line of a tree is one of an open session, where a transaction is open
own_tree : (rules : Rules) (m now : Moment) (at root : ℕ) (call : TreeCall) (c : seen.Client) (o : Option OpenTransaction) (a : Answer) → c.transaction ≡ o → IsSome o → IsOwnLine m at c o (line.Tree root call) a now → IsLineOpen rules m at c (line.Tree root call) a now
own_tree rules m now at root call c None a begun some own = absurd cc
own_tree rules m now at root call c (Some t) a begun some own =
    own_open rules m at c (line.Tree root call) a now t begun (ap (λ (o : Option OpenTransaction). line_refusal (option_map (λ (t : OpenTransaction). t.changes) o) (line.Tree root call)) begun)
    (ap (λ (o : Option OpenTransaction). request_of c.standing (option_map (λ (t : OpenTransaction). t.changes) o) (line.Tree root call)) begun) own

pub open_line : {R F : Type 0} (rules : Rules) (m : Moment) (at root : ℕ) (call : TreeCall) (a : Answer) (new : ClientsState R F) (after : Option (List Stamp)) → MayReadAt m at
    → LeadsTo (OrStarved (IsOwnOf m at (line.Tree root call)) m a) new after → LeadsTo (IsOpenLineOf rules m at (line.Tree root call) a) new after
open_line rules m at root call a new after may leads = record { now = leads.now; holds = by_either leads.holds; stands = leads.stands }
  where
    same_client : (a b : seen.Client) → Some a ≡ Some b → a ≡ b
    same_client a b e = cc

    by_either : OrStarved (IsOwnOf m at (line.Tree root call)) m a leads.now → IsOpenLineOf rules m at (line.Tree root call) a leads.now
    by_either (inl (c, there, own)) =
        (c, there, own_tree rules m leads.now at root call c c.transaction a refl (subst (λ (d : seen.Client). IsSome d.transaction) (same_client may.0 c (sym may.1 ∙ there)) may.3) own)
    by_either (inr (answers, same)) = (may.0, may.1, starved_open rules m at may.0 (line.Tree root call) a leads.now answers same)

-- a line of a tree over a link for which there was no memory
pub tree_starved : {R F : Type 0} (rules : Rules) (m : Moment) (at root : ℕ) (call : TreeCall) (old : ClientsState R F) (before : Option (List Stamp)) → StandsForMoment old before m → (asks : MayAskAt m at)
    → LeadsTo (IsOpenLineOf rules m at (line.Tree root call) (answer.Refused refusal.Memory)) old before
tree_starved rules m at root call old before stands asks =
    record { now = m; holds = (asks.0, asks.1, starved_open rules m at asks.0 (line.Tree root call) (answer.Refused refusal.Memory) m refl refl); stands = stands }
