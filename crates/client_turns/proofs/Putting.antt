-- `put`, over the hub.
use Rattle.std.proofs.Common.{◌≡◌, ℕ, Bool, true, false, List, Option, Some, None, Result, Ok, Err, if◌then◌else◌, refl, sym, ap, subst, ◌∙◌}
use Rattle.std.specs.Prelude.{slice_get, slice_set}
use Rattle.std.specs.Option.{option_map}
use Rattle.zb_ids.specs.declared.stamp.Stamp.{Stamp}
use Rattle.zb_model.specs.declared.data.Content.TheVariants.{Held}
use Rattle.zb_model.specs.declared.data.Transaction.{Transaction}
use Rattle.zb_model.specs.declared.pending.PendingStore.{PendingStore}
use Rattle.zb_model.specs.declared.refusal.Refusal.{Refusal}
use Rattle.zb_model.specs.declared.refusal.Refusal.TheVariants as refusal
use Rattle.zb_model.specs.Rules.{MergeRules}
use Rattle.zb_answers.specs.declared.answer.Answer.{Answer}
use Rattle.zb_answers.specs.declared.answer.Answer.TheVariants as answer
use Rattle.zb_script.specs.declared.line.Line.TheVariants as line
use Rattle.commit_phases.specs.Pending.{pending_of}
use Rattle.zodb_core.specs.HubState.{HubState, rules_of}
use Rattle.zodb_core.specs.Machine.{is_open_in}
use Rattle.connection_view.specs.Works.{Work}
use Rattle.connection_view.specs.Connections.{Between, InView, IsPutAsRead, LeavesWork, base_read, changeable, stored_in_work, work_of}
use Rattle.connection_view.specs.Loading.{LoadsCall}
use Rattle.connection_view.specs.Views.{View}
use Rattle.connection_view.specs.Views as views
use Rattle.local_loads.specs.Local as local
use Rattle.local_loads.specs.Local.{LocalState}
use Rattle.local_loads.specs.Making.{IsHubStep, IsLocalCall}
use Rattle.client_turns.specs.declared.client.Client.{Client}
use Rattle.client_turns.specs.Asking.{IsSameBut, answered}
use Rattle.client_turns.specs.Clients.{Changes, Moment, OpenTransaction}
use Rattle.client_turns.specs.Clients as seen
use Rattle.client_turns.specs.Lines as lines
use Rattle.client_turns.specs.Lines.{request_of}
use Rattle.client_turns.specs.Standing.{IsClientOf, IsLineOpen, MayTakeAt, OneLeadsTo}
use Rattle.client_turns.specs.Steps.{IsReadAt}
use Rattle.client_turns.specs.Turns.{IsPut}
use Rattle.client_turns.proofs.Asked.{IsOpened, MayStand, ReadsTo, end_of_client, opened_of, read_to}
use Rattle.client_turns.proofs.Changing.{TakesUnvoted, closed_change, next_to, put_agrees, put_done, stored_agrees, stored_done, unvoted_free, voted_change}
use Rattle.client_turns.proofs.Hubs.{counts_same}
use Rattle.client_turns.proofs.Others.{others_behind}
use Rattle.client_turns.proofs.One.{keeps_at, client_kept, own_open, starved_open}

put_takes : (oid : ℕ) (bytes : List ℕ) → TakesUnvoted (line.Put oid bytes)
put_takes oid bytes = record { closed = refl; voted = λ t. refl; asks = λ s t. refl }

-- a put that found no memory behind its read: the read moved no count
calm_put : (m now : Moment) (v : OpenTransaction) (oid : ℕ) (read : Result (ℕ × List ℕ) Refusal) (result : Result (Unit {0}) Refusal) → ((r : Refusal) → base_read read ≡ Err r → result ≡ Err r) → result ≡ Err refusal.Memory → IsReadAt m v oid read now → now ≡ m
calm_put m now v oid (Ok d) result refused starved is = counts_same m now is.counts is.rest
calm_put m now v oid (Err refusal.ReadFault) result refused starved is = absurd (other (sym (refused refusal.ReadFault refl) ∙ starved))
  where
    other : (let e : Result (Unit {0}) Refusal = Err refusal.ReadFault in e) ≡ Err refusal.Memory → ⊥
    other e = absurd cc
calm_put m now v oid (Err refusal.StoreFault) result refused starved is = absurd (other (sym (refused refusal.StoreFault refl) ∙ starved))
  where
    other : (let e : Result (Unit {0}) Refusal = Err refusal.StoreFault in e) ≡ Err refusal.Memory → ⊥
    other e = absurd cc
calm_put m now v oid (Err _) result refused starved is = counts_same m now is.counts is.rest

module _ {R F S : Type 0} (told lasts : Type 0) (stands : List ℕ → List Transaction → Type 0) (rules_in : R → MergeRules) (named_in : F → List ℕ → Option (List ℕ)) (tells : told) (m : Moment) (at : ℕ) (x y : Client) (c : seen.Client) (h g : HubState R F) (before after : Option (List Stamp)) (takes : MayTakeAt h before m at x c) (makes : S → LoadsCall → S → Type 0) (a b : S) (calls : (call : LoadsCall) → makes a call b → IsLocalCall (IsHubStep told lasts stands rules_in named_in x.session) call (end_of_client h before x) (end_of_client g after y)) (same : b ≡ a → end_of_client g after y ≡ end_of_client h before x) (name : y.name ≡ x.name) (session : y.session ≡ x.session) where
  abbrev mine : IsClientOf h x c
  mine = takes.stands.client

  may : MayStand told h x mine.told
  may = (tells, mine.may)

  same_hub : b ≡ a → g ≡ h
  same_hub is = ap (λ (l : LocalState R F). l.hub) (same is)

  same_stamps : b ≡ a → after ≡ before
  same_stamps is = ap (λ (l : LocalState R F). l.stamps) (same is)

  but : y.told ≡ x.told → IsSameBut x y
  but last = record { name = name; session = session; told = last }

  same_but : b ≡ a → IsSameBut x y
  same_but is = but (ap (λ (l : LocalState R F). l.last) (same is))

  -- behind the read
  put_behind : (oid : ℕ) (bytes : List ℕ) (w : Work) (o : IsOpened x.connection mine.told w c) (result : Result (Unit {0}) Refusal) (reply : Answer) → work_of x.connection ≡ Ok w → w.is_voted ≡ false → pending_of w.pending.stores oid ≡ None
      → (p : IsPutAsRead makes (MayStand told h x) (local.server_of h) a b x.connection y.connection w oid bytes result) → ((u : View) → InView x.connection u mine.told → InView y.connection u mine.told) → (Between x.connection mine.told → Between y.connection mine.told)
      → reply ≡ answered result answer.Stored → OneLeadsTo (IsLineOpen (rules_of rules_in named_in h) m at c (line.Put oid bytes) reply) m at h g y after
  put_behind oid bytes w o result reply works unvoted none p view between answers =
      let t : OpenTransaction = o.transaction in
      let rd : ReadsTo t oid p.read m h g x y after =
      read_to told lasts stands rules_in named_in tells m at x y c h g before after takes makes a b calls same name session oid p.read w works o (p.reads t.view mine.told may o.is.view) p.made in
      let ready : MayTakeAt g after rd.now at x c = record {
        stands = record {
          hub = rd.hub;
          vote = rd.vote;
          within = rd.within;
          counts = rd.counts;
          stamps = rd.stamps;
          client = client_kept h g x x c mine (record { name = refl; session = refl; told = refl }) (rd.others.near x.told mine.told.told mine.told.known mine.may) refl (λ u z. z) (λ z. z);
        };
        formed = takes.formed;
        there = ap (λ (n : Moment). slice_get n.clients at) rd.read.rest ∙ takes.there;
        may = ap (λ (n : Moment). is_open_in n.machine.sessions c.session) rd.read.rest ∙ takes.may;
      } in
      let leads : OneLeadsTo (IsLineOpen (rules_of rules_in named_in h) m at c (line.Put oid bytes) reply) rd.now at g g y after =
      next_to (rules_of rules_in named_in h) rd.now at x y c g g after after ready refl refl (but rd.last) view between (IsLineOpen (rules_of rules_in named_in h) m at c (line.Put oid bytes) reply) (λ ch. lines.put ch oid bytes p.read) reply w _ result o works
      (put_agrees oid bytes p.read w) p.leaves
      (λ z v said ok. answers ∙ ap (λ (e : Result (Unit {0}) Refusal). answered e answer.Stored) said ∙ put_done oid bytes p.read w v ok)
      (λ r said. answers ∙ ap (λ (e : Result (Unit {0}) Refusal). answered e answer.Stored) said)
      (λ now change. own_open (rules_of rules_in named_in h) m at c (line.Put oid bytes) reply now t o.begun
      (unvoted_free (rules_of rules_in named_in h) m at x x c h h before before takes refl refl (record { name = refl; session = refl; told = refl }) (λ u z. z) (λ z. z) (line.Put oid bytes) w (put_takes oid bytes) o unvoted)
      (ap (λ (z : Option OpenTransaction). request_of c.standing (option_map (λ (u : OpenTransaction). u.changes) z) (line.Put oid bytes)) o.begun)
      (subst (λ (z : Option PendingStore). IsPut m at c t oid bytes z reply now) (sym (ap (λ (ch : Changes). pending_of ch.pending.stores oid) o.is.changes ∙ none)) (p.read, rd.now, rd.read, change)))
      (λ said starved. starved_open (rules_of rules_in named_in h) m at c (line.Put oid bytes) reply rd.now starved (calm_put m rd.now t oid p.read result p.refused said rd.read)) in
      record {
        now = leads.now;
        holds = leads.holds;
        client = leads.client;
        placed = leads.placed ∙ ap (λ (n : Moment). slice_set n.clients at leads.client) rd.read.rest;
        stands = leads.stands;
        others = λ d here. others_behind d.session h g g (keeps_at m at x.session c h g takes.there (sym mine.session) rd.others d here) (leads.others d (ap (λ (n : Moment). slice_get n.clients at) rd.read.rest ∙ here));
      }

  pub put_leads : (oid : ℕ) (bytes : List ℕ) (result : Result (Unit {0}) Refusal)
      → ((w : Work) (p : PendingStore) → changeable (work_of x.connection) ≡ Ok w → pending_of w.pending.stores oid ≡ Some p → LeavesWork (stored_in_work (record { oid = oid; base = p.base; content = Held bytes }) w) (work_of x.connection) (work_of y.connection) result × (b ≡ a))
      → ((w : Work) → changeable (work_of x.connection) ≡ Ok w → pending_of w.pending.stores oid ≡ None → IsPutAsRead makes (MayStand told h x) (local.server_of h) a b x.connection y.connection w oid bytes result)
      → ((r : Refusal) → changeable (work_of x.connection) ≡ Err r → (result ≡ Err r) × (b ≡ a) × (work_of y.connection ≡ work_of x.connection))
      → ((u : View) (v : views.Client) → MayStand told h x v → InView x.connection u v → InView y.connection u v) → ((v : views.Client) → Between x.connection v → Between y.connection v)
      → (reply : Answer) → reply ≡ answered result answer.Stored → OneLeadsTo (IsLineOpen (rules_of rules_in named_in h) m at c (line.Put oid bytes) reply) m at h g y after
  put_leads oid bytes result waiting reads refused view between reply answers = by_work (work_of x.connection) refl
    where
      changeable_if : (w : Work) (z : Bool) → work_of x.connection ≡ Ok w → w.is_voted ≡ z → changeable (work_of x.connection) ≡ (if z then (let e : Result Work Refusal = Err refusal.Voted in e) else Ok w)
      changeable_if w z works voted = ap changeable works ∙ ap (λ (v : Bool). if v then (let e : Result Work Refusal = Err refusal.Voted in e) else Ok w) voted

      by_work : (wr : Result Work Refusal) → work_of x.connection ≡ wr → OneLeadsTo (IsLineOpen (rules_of rules_in named_in h) m at c (line.Put oid bytes) reply) m at h g y after
      by_work (Err r) works =
          let said = refused r (ap changeable works) in
          closed_change (rules_of rules_in named_in h) m at x y c h g before after takes (same_hub said.1) (same_stamps said.1) (same_but said.1) (λ u. view u mine.told may) (between mine.told) (line.Put oid bytes) reply r (put_takes oid bytes) works said.2
          (answers ∙ ap (λ (e : Result (Unit {0}) Refusal). answered e answer.Stored) said.0)
      by_work (Ok w) works = by_voted w.is_voted refl
        where
          o : IsOpened x.connection mine.told w c
          o = opened_of x.connection mine.told (work_of x.connection) w c mine.transaction works

          by_voted : (z : Bool) → w.is_voted ≡ z → OneLeadsTo (IsLineOpen (rules_of rules_in named_in h) m at c (line.Put oid bytes) reply) m at h g y after
          by_voted true voted =
              let said = refused refusal.Voted (changeable_if w true works voted) in
              voted_change (rules_of rules_in named_in h) m at x y c h g before after takes (same_hub said.1) (same_stamps said.1) (same_but said.1) (λ u. view u mine.told may) (between mine.told) (line.Put oid bytes) reply w (put_takes oid bytes) o voted said.2
              (answers ∙ ap (λ (e : Result (Unit {0}) Refusal). answered e answer.Stored) said.0)
          by_voted false unvoted = by_pending (pending_of w.pending.stores oid) refl
            where
              by_pending : (z : Option PendingStore) → pending_of w.pending.stores oid ≡ z → OneLeadsTo (IsLineOpen (rules_of rules_in named_in h) m at c (line.Put oid bytes) reply) m at h g y after
              by_pending None none = put_behind oid bytes w o result reply works unvoted none (reads w (changeable_if w false works unvoted) none) (λ u. view u mine.told may) (between mine.told) answers
              by_pending (Some p) is =
                  let said = waiting w p (changeable_if w false works unvoted) is in
                  next_to (rules_of rules_in named_in h) m at x y c h g before after takes (same_hub said.1) (same_stamps said.1) (same_but said.1) (λ u. view u mine.told may) (between mine.told) (IsLineOpen (rules_of rules_in named_in h) m at c (line.Put oid bytes) reply)
                  (λ ch. lines.stored ch (record { oid = oid; base = p.base; content = Held bytes })) reply w _ result o works (stored_agrees (record { oid = oid; base = p.base; content = Held bytes }) w) said.0
                  (λ z v done ok. answers ∙ ap (λ (e : Result (Unit {0}) Refusal). answered e answer.Stored) done ∙ stored_done (record { oid = oid; base = p.base; content = Held bytes }) w v ok)
                  (λ r done. answers ∙ ap (λ (e : Result (Unit {0}) Refusal). answered e answer.Stored) done)
                  (λ now change. own_open (rules_of rules_in named_in h) m at c (line.Put oid bytes) reply now o.transaction o.begun
                  (unvoted_free (rules_of rules_in named_in h) m at x x c h h before before takes refl refl (record { name = refl; session = refl; told = refl }) (λ u z. z) (λ z. z) (line.Put oid bytes) w (put_takes oid bytes) o unvoted)
                  (ap (λ (z : Option OpenTransaction). request_of c.standing (option_map (λ (u : OpenTransaction). u.changes) z) (line.Put oid bytes)) o.begun)
                  (subst (λ (z : Option PendingStore). IsPut m at c o.transaction oid bytes z reply now) (sym (ap (λ (ch : Changes). pending_of ch.pending.stores oid) o.is.changes ∙ is)) change))
                  (λ done starved. starved_open (rules_of rules_in named_in h) m at c (line.Put oid bytes) reply m starved refl)
