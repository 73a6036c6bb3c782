-- One client over a hub, and the others beside it.
use Rattle.std.proofs.Common.{◌≡◌, ℕ, zero, suc, Bool, true, false, List, [], ◌∷◌, length, Option, Some, None, Result, Ok, Err, refl, sym, ap, subst, ◌∙◌, inl, inr}
use Rattle.std.specs.Prelude.{slice_get, slice_set}
use Rattle.std.proofs.lemmas.List.{length-map}
use Rattle.zb_ids.specs.declared.stamp.Stamp.{Stamp}
use Rattle.zb_model.specs.declared.data.Transaction.{Transaction}
use Rattle.zb_model.specs.declared.refusal.Refusal.{Refusal}
use Rattle.zb_model.specs.declared.refusal.Refusal.TheVariants as refusal
use Rattle.zb_model.specs.Rules.{MergeRules}
use Rattle.zb_answers.specs.declared.answer.Answer.{Answer}
use Rattle.zb_answers.specs.declared.answer.Answer.TheVariants as answer
use Rattle.zb_script.specs.declared.line.Line.{Line}
use Rattle.zodb_core.specs.declared.reply.Reply.{Reply}
use Rattle.zodb_core.specs.declared.request.Request.{Request}
use Rattle.zodb_core.specs.declared.request.Request.TheVariants as request
use Rattle.zodb_core.specs.HubState.{HasTicked, HubState, StandsForMachine, counts_of, rules_of, sessions_with}
use Rattle.zodb_core.specs.Machine.{Machine, MachineSession, Rules}
use Rattle.zodb_core.specs.Outcomes.{FaultCounts, IsStepMade, closed_session, outcome_of}
use Rattle.zodb_core.specs.Sound.{IsPackWithin, IsWellFormedRequest}
use Rattle.zodb_core.specs.SoundLaws.{left_within}
use Rattle.zodb_core.specs.Steps.{Stepped}
use Rattle.connection_view.specs.declared.connection.Connection.{Connection}
use Rattle.connection_view.specs.Works.{Work}
use Rattle.connection_view.specs.Connections.{Between, InView, work_of}
use Rattle.connection_view.specs.Views.{View}
use Rattle.connection_view.specs.Views as views
use Rattle.local_loads.specs.declared.told.Told.{Told}
use Rattle.local_loads.specs.Local.{MayBeTold, WritesLater}
use Rattle.local_loads.specs.LocalLaws.{left_writes, votes_later}
use Rattle.local_loads.specs.Making.{IsHubStep}
use Rattle.client_turns.specs.declared.client.Client.{Client}
use Rattle.client_turns.specs.declared.member.Member.{Member}
use Rattle.client_turns.specs.declared.member.Member.TheVariants.{Near}
use Rattle.client_turns.specs.Asking.{IsSameBut}
use Rattle.client_turns.specs.Clients.{Moment, OpenTransaction, changes_of, with_client}
use Rattle.client_turns.specs.Clients as seen
use Rattle.client_turns.specs.Lines.{IsCountedBy, answer_of, answer_to, asking_excess, client_left, client_told, is_committed, is_delivery, request_of, standing_behind, step_answer}
use Rattle.client_turns.specs.Refusing.{line_refusal}
use Rattle.client_turns.specs.Members.{IsClientOf, IsOpenAs}
use Rattle.client_turns.specs.Others.{KeepsOthers}
use Rattle.client_turns.specs.Standing.{AreClientsOf, ClientsState, IsLineOpen, LeadsTo, MayTakeAt, MemberLeadsTo, OneLeadsTo, RiseBelow, StandsForMoment}
use Rattle.client_turns.specs.Steps.{IsStepAt}
use Rattle.client_turns.specs.Turns.{IsLineTaken, IsLineUnless, IsOwnLine, IsStepLine, IsStepUnless, IsTold, IsWithin, fronts_behind}
use Rattle.client_turns.proofs.Causes.{counted_of}
use Rattle.client_turns.proofs.Keeping.{others_kept, set_kept}
use Rattle.client_turns.proofs.Others.{others_behind, others_same, others_step}
use Rattle.client_turns.proofs.Sounding.{MovesOn, go_rises, set_length}

-- ---- steps

-- A step of the hub is one from this moment on.
pub record StepsTo {R F : Type 0} (rules : Rules) (m : Moment) (n : ℕ) (q : Request) (r : Reply) (new : HubState R F) (after : Option (List Stamp)) : Type 0 where
  pub now : Moment
  pub holds : IsStepAt rules m n q r now
  pub hub : StandsForMachine new now.machine
  pub counts : now.counts ≡ counts_of new.store
  pub stamps : now.stamps ≡ after

pub steps_to : {R F : Type 0} (told lasts : Type 0) (stands : List ℕ → List Transaction → Type 0) (rules_in : R → MergeRules) (named_in : F → List ℕ → Option (List ℕ)) (tells : told) (m : Moment) (n : ℕ) (q : Request) (r : Reply) (old new : HubState R F) (before after : Option (List Stamp))
    → IsHubStep told lasts stands rules_in named_in n q r old new before after → StandsForMachine old m.machine → m.counts ≡ counts_of old.store → m.stamps ≡ before → StepsTo (rules_of rules_in named_in old) m n q r new after
steps_to told lasts stands rules_in named_in tells m n q r old new before after step hub counts stamps =
    let made = step.step tells m.machine hub in
    let given : Stepped = record { reply = r; machine = made.left; ticks = made.ticks } in
    record {
      now = record { machine = made.left; clients = m.clients; stamps = after; counts = counts_of new.store };
      holds = record {
        stamp = made.stamp;
        ticks = made.ticks;
        made = subst (λ (c : FaultCounts). IsStepMade (rules_of rules_in named_in old) m.machine n q made.stamp given c (counts_of new.store)) (sym counts) made.made;
        counts = subst (λ (k : FaultCounts). IsCountedBy k (counts_of new.store) (outcome_of r)) (sym counts) (counted_of _ _ _ step.safe.cause step.safe.others);
        clock = subst (λ (s : Option (List Stamp)). HasTicked made.ticks made.stamp s after) (sym stamps) made.clock;
        clients = refl;
      };
      hub = made.stands;
      counts = refl;
      stamps = refl;
    }

-- what is voted behind a step is later than the list there
pub writes_on : (rules : Rules) (m : Moment) (n : ℕ) (q : Request) (r : Reply) (now : Moment) → IsStepAt rules m n q r now → WritesLater m.machine.list m.machine.vote → WritesLater now.machine.list now.machine.vote
writes_on rules m n q r now step writes =
    subst (λ (x : Machine). WritesLater x.list x.vote) (sym step.made.left) (left_writes rules m.machine n q step.stamp (outcome_of r) writes)

-- and the open pack leaves the newest transaction whole
pub within_on : (rules : Rules) (m : Moment) (n : ℕ) (q : Request) (r : Reply) (now : Moment) → IsStepAt rules m n q r now → WritesLater m.machine.list m.machine.vote → IsPackWithin m.machine.list m.machine.pack
    → IsPackWithin now.machine.list now.machine.pack
within_on rules m n q r now step writes within =
    subst (λ (x : Machine). IsPackWithin x.list x.pack) (sym step.made.left) (left_within rules m.machine n q step.stamp (outcome_of r) (votes_later m.machine.list m.machine.vote writes) within)

-- ---- the others

pub set_there : (cs : List seen.Client) (at : ℕ) (c : seen.Client) → slice_get cs at ≡ Some c → cs ≡ slice_set cs at c
set_there [] at c is = absurd cc
set_there (d ∷ cs) zero c is = ap (λ (x : seen.Client). x ∷ cs) (same d c is)
  where
    same : (a b : seen.Client) → Some a ≡ Some b → a ≡ b
    same a b e = cc
set_there (d ∷ cs) (suc at) c is = ap (λ (xs : List seen.Client). d ∷ xs) (set_there cs at c is)

-- as many sessions as a hub has
sessions_counted : (b : Bool) (sessions : List MachineSession) → length (sessions_with b sessions) ≡ length sessions
sessions_counted false sessions = refl
sessions_counted true sessions = length-map sessions closed_session

pub sessions_of : {R F : Type 0} (hub : HubState R F) (m : Machine) → StandsForMachine hub m → length m.sessions ≡ length hub.sessions
sessions_of hub m stands = ap length stands.sessions ∙ sessions_counted hub.store.broken hub.sessions

-- the client that stands at a place has this session
pub its_session : (m : Moment) (at n : ℕ) (c d : seen.Client) → slice_get m.clients at ≡ Some c → n ≡ c.session → slice_get m.clients at ≡ Some d → n ≡ d.session
its_session m at n c d there number here = number ∙ ap (λ (z : seen.Client). z.session) (same c d (sym there ∙ here))
  where
    same : (a b : seen.Client) → Some a ≡ Some b → a ≡ b
    same a b e = cc

pub keeps_at : {R F : Type 0} (m : Moment) (at n : ℕ) (c : seen.Client) (old new : HubState R F) → slice_get m.clients at ≡ Some c → n ≡ c.session → KeepsOthers n old new → (d : seen.Client) → slice_get m.clients at ≡ Some d → KeepsOthers d.session old new
keeps_at m at n c old new there number keeps d here = subst (λ (k : ℕ). KeepsOthers k old new) (its_session m at n c d there number here) keeps

-- one client's way is that of all
pub lift : {R F : Type 0} (Q : Moment → Type 0) (m : Moment) (at : ℕ) (c : seen.Client) (old new : ClientsState R F) (y : Member) (before after : Option (List Stamp)) → StandsForMoment old before m → slice_get m.clients at ≡ Some c
    → MemberLeadsTo Q m at c.session old.hub new.hub y after → new.clients ≡ slice_set old.clients at y → ((now : Moment) → Q now → MovesOn m now) → LeadsTo Q new after
lift Q m at c old new y before after stands there leads is moves =
    let count : length leads.now.machine.sessions ≡ length m.machine.sessions = sessions_of new.hub leads.now.machine leads.stands.hub ∙ leads.others.count ∙ sym (sessions_of old.hub m.machine stands.hub) in
    let more : MovesOn m leads.now = moves leads.now leads.holds in
    record {
      now = leads.now;
      holds = leads.holds;
      stands = record {
        hub = leads.stands.hub;
        vote = leads.stands.vote;
        within = leads.stands.within;
        clients = subst (λ (xs : List Member). AreClientsOf new.hub xs leads.now.clients) (sym is) (subst (λ (cs : List seen.Client). AreClientsOf new.hub (slice_set old.clients at y) cs) (sym leads.placed)
            (set_kept c.session old.hub new.hub (others_kept c.session old.hub new.hub leads.others) 0 (length m.machine.sessions) old.clients m.clients at c leads.client y stands.apart stands.clients there refl leads.is));
        apart = subst (λ (k : ℕ). RiseBelow 0 k leads.now.clients) (sym count)
            (go_rises _ (length m.machine.sessions) m.clients leads.now.clients more.clients (ap length leads.placed ∙ set_length m.clients at leads.client) stands.apart);
        sound = more.sound;
        counts = leads.stands.counts;
        stamps = leads.stands.stamps;
      };
    }

-- that of a local one
pub near_leads : {R F : Type 0} {Q : Moment → Type 0} {m : Moment} {at : ℕ} {old new : HubState R F} {y : Client} {left : Option (List Stamp)} (c : seen.Client) → slice_get m.clients at ≡ Some c → OneLeadsTo Q m at old new y left → MemberLeadsTo Q m at c.session old new (Near y) left
near_leads c there leads = record {
  now = leads.now;
  holds = leads.holds;
  stands = record { hub = leads.stands.hub; vote = leads.stands.vote; within = leads.stands.within; counts = leads.stands.counts; stamps = leads.stands.stamps };
  client = leads.client;
  placed = leads.placed;
  is = leads.stands.client;
  others = leads.others c there;
}

-- ---- one client

-- a client's connection is open
pub not_closed : (k : Connection) (told : views.Client) (w : Result Work Refusal) (o : Option OpenTransaction) → IsOpenAs k told w o → w ≡ Err refusal.NotOpen → ⊥
not_closed k told (Ok w) o is e = absurd cc
not_closed k told (Err r) (Some t) is e = absurd is
not_closed k told (Err r) None is e = other (ap (λ (s : Refusal). let x : Result Work Refusal = Err s in x) (sym is.0) ∙ e)
  where
    other : (let x : Result Work Refusal = Err refusal.NoTransaction in x) ≡ Err refusal.NotOpen → ⊥
    other e = absurd cc

-- the client with another connection, which has the same transaction, for what it may have been told by now
pub opened_to : (k l : Connection) (told known : views.Client) → ((u : View) → InView k u told → InView l u known) → (Between k told → Between l known) → (w : Result Work Refusal) (t : Option OpenTransaction) → IsOpenAs k told w t → IsOpenAs l known w t
opened_to k l told known view between (Ok w) (Some t) is = record { changes = is.changes; near = is.near; view = view t.view is.view }
opened_to k l told known view between (Ok w) None is = absurd is
opened_to k l told known view between (Err r) (Some t) is = absurd is
opened_to k l told known view between (Err r) None is = (is.0, between is.1)

pub opened_as : (k l : Connection) (told : views.Client) → ((u : View) → InView k u told → InView l u told) → (Between k told → Between l told) → (w : Result Work Refusal) (t : Option OpenTransaction) → IsOpenAs k told w t → IsOpenAs l told w t
opened_as k l told view between w t is = opened_to k l told told view between w t is

abbrev pub client_kept : {R F : Type 0} (old new : HubState R F) (x y : Client) (c : seen.Client) → (is : IsClientOf old x c) → IsSameBut x y → MayBeTold x.told new is.told.told is.told.known → work_of y.connection ≡ work_of x.connection
    → ((u : View) → InView x.connection u is.told → InView y.connection u is.told) → (Between x.connection is.told → Between y.connection is.told) → IsClientOf new y c
client_kept old new x y c is same may work view between = record {
  name = is.name ∙ sym same.name;
  session = is.session ∙ sym same.session;
  local = is.local;
  told = is.told;
  may = subst (λ (l : Option Told). MayBeTold l new is.told.told is.told.known) (sym same.told) may;
  transaction = subst (λ (w : Result Work Refusal). IsOpenAs y.connection is.told w c.transaction) (sym work) (opened_as x.connection y.connection is.told view between (work_of x.connection) c.transaction is.transaction);
}

-- the same with another transaction
pub client_with : {R F : Type 0} (new : HubState R F) (x y : Client) (c : seen.Client) (told : views.Client) (o : Option OpenTransaction) → c.name ≡ x.name → c.session ≡ x.session → c.standing ≡ seen.Local → y.name ≡ x.name → y.session ≡ x.session → MayBeTold y.told new told.told told.known
    → IsOpenAs y.connection told (work_of y.connection) o → IsClientOf new y (record c { transaction = o })
client_with new x y c told o name session near same also may is = record { name = name ∙ sym same; session = session ∙ sym also; local = near; told = told; may = may; transaction = is }

-- nothing was done, but what the client keeps may be another
pub stays : {R F : Type 0} (Q : Moment → Type 0) (m : Moment) (at : ℕ) (old new : HubState R F) (x y : Client) (c : seen.Client) (before after : Option (List Stamp)) → MayTakeAt old before m at x c → new ≡ old → after ≡ before
    → IsClientOf old y c → Q m → OneLeadsTo Q m at old new y after
stays {R} {F} Q m at old new x y c before after takes same ticks client holds =
    subst (λ (h : HubState R F). OneLeadsTo Q m at old h y after) (sym same) (subst (λ (s : Option (List Stamp)). OneLeadsTo Q m at old old y s) (sym ticks) (record {
      now = m;
      holds = holds;
      client = c;
      placed = set_there m.clients at c takes.there;
      stands = record { hub = takes.stands.hub; vote = takes.stands.vote; within = takes.stands.within; counts = takes.stands.counts; stamps = takes.stands.stamps; client = client };
      others = λ d there. others_same d.session old;
    }))

-- nothing was done, but the client's transaction has become another
pub changes_to : {R F : Type 0} (Q : Moment → Type 0) (m : Moment) (at : ℕ) (old new : HubState R F) (x y : Client) (c d : seen.Client) (before after : Option (List Stamp)) → MayTakeAt old before m at x c → new ≡ old → after ≡ before
    → IsClientOf old y d → Q (with_client m at d) → OneLeadsTo Q m at old new y after
changes_to {R} {F} Q m at old new x y c d before after takes same ticks client holds =
    subst (λ (h : HubState R F). OneLeadsTo Q m at old h y after) (sym same) (subst (λ (s : Option (List Stamp)). OneLeadsTo Q m at old old y s) (sym ticks) (record {
      now = with_client m at d;
      holds = holds;
      client = d;
      placed = refl;
      stands = record { hub = takes.stands.hub; vote = takes.stands.vote; within = takes.stands.within; counts = takes.stands.counts; stamps = takes.stands.stamps; client = client };
      others = λ d there. others_same d.session old;
    }))

-- what holds less is led to as well
pub weaken_one : {R F : Type 0} {P Q : Moment → Type 0} {m : Moment} {at : ℕ} {old new : HubState R F} {y : Client} {left : Option (List Stamp)} → OneLeadsTo P m at old new y left → ((now : Moment) → P now → Q now) → OneLeadsTo Q m at old new y left
weaken_one leads less = record { now = leads.now; holds = less leads.now leads.holds; client = leads.client; placed = leads.placed; stands = leads.stands; others = leads.others }

-- ---- of a local client

pub near_asks : (s : seen.Standing) (q : Request) → s ≡ seen.Local → asking_excess s q ≡ None
near_asks seen.Local q near = refl
near_asks (seen.Linked known) q near = absurd cc

-- it is answered as its step is
pub near_answer : (s : seen.Standing) (d : Bool) (r : Reply) → s ≡ seen.Local → step_answer s d r ≡ answer_to d r
near_answer seen.Local d r near = refl
near_answer (seen.Linked known) d r near = absurd cc

-- and stands as before
near_behind : (m : Machine) (s : seen.Standing) (r : Reply) → s ≡ seen.Local → standing_behind m s r ≡ s
near_behind m seen.Local r near = refl
near_behind m (seen.Linked known) r near = absurd cc

pub near_told : (m : Machine) (r : Reply) (d : seen.Client) → d.standing ≡ seen.Local → client_told m r d ≡ d
near_told m r d near = ap (λ (s : seen.Standing). let z : seen.Client = record { name = d.name; session = d.session; transaction = d.transaction; standing = s } in z) (near_behind m d.standing r near)

pub left_standing : (d : Bool) (m : Machine) (c : seen.Client) (r : Reply) → (client_left d m c r).standing ≡ c.standing
left_standing false m c r = refl
left_standing true m c r = refl

-- a transaction that is kept is one
pub near_open : (k : Connection) (told : views.Client) (w : Result Work Refusal) (t : OpenTransaction) → IsOpenAs k told w (Some t) → t.framed ≡ false
near_open k told (Ok w) t is = is.near
near_open k told (Err r) t is = absurd is

-- ---- what a line of an open session is

module _ (rules : Rules) (m : Moment) (at : ℕ) (c : seen.Client) (l : Line) (a : Answer) (now : Moment) where
  -- its connection refuses it
  pub refused_open : (why : Refusal) → line_refusal (changes_of c) l ≡ Some why → a ≡ answer.Refused why → now ≡ m → IsLineOpen rules m at c l a now
  refused_open why is answers same = inl (subst (λ (o : Option Refusal). IsLineUnless rules m at c l o a now) (sym is) (answers, same))

  -- there was no memory
  pub starved_open : a ≡ answer.Refused refusal.Memory → now ≡ m → IsLineOpen rules m at c l a now
  starved_open answers same = inr (answers, same)

  -- it is a step, or none
  pub step_open : (q : Request) → c.standing ≡ seen.Local → line_refusal (changes_of c) l ≡ None → request_of c.standing (changes_of c) l ≡ Some q → IsStepLine rules m at c (is_delivery l) q a now → IsLineOpen rules m at c l a now
  step_open q near free asks line =
      inl (subst (λ (o : Option Refusal). IsLineUnless rules m at c l o a now) (sym free) (subst (λ (o : Option Request). IsLineTaken rules m at c l o a now) (sym asks)
      (subst (λ (e : Option ℕ). IsStepUnless rules m at c (is_delivery l) q e a now) (sym (near_asks c.standing q near)) line)))

  -- which asks nothing that is too long
  pub short_open : (q : Request) → asking_excess c.standing q ≡ None → line_refusal (changes_of c) l ≡ None → request_of c.standing (changes_of c) l ≡ Some q → IsStepLine rules m at c (is_delivery l) q a now → IsLineOpen rules m at c l a now
  short_open q short free asks line =
      inl (subst (λ (o : Option Refusal). IsLineUnless rules m at c l o a now) (sym free) (subst (λ (o : Option Request). IsLineTaken rules m at c l o a now) (sym asks)
      (subst (λ (e : Option ℕ). IsStepUnless rules m at c (is_delivery l) q e a now) (sym short) line)))

  pub own_open : (t : OpenTransaction) → c.transaction ≡ Some t → line_refusal (changes_of c) l ≡ None → request_of c.standing (changes_of c) l ≡ None → IsWithin m at c t l a now → IsLineOpen rules m at c l a now
  own_open t begun free asks within =
      inl (subst (λ (o : Option Refusal). IsLineUnless rules m at c l o a now) (sym free) (subst (λ (o : Option Request). IsLineTaken rules m at c l o a now) (sym asks)
      (subst (λ (o : Option OpenTransaction). IsOwnLine m at c o l a now) (sym begun) within)))

-- ---- a line that is one step of the hub, and a front behind it, if one is

pub record BehindIt {R F : Type 0} (rules : Rules) (b : Bool) (m : Moment) (n : ℕ) (old new : HubState R F) (after : Option (List Stamp)) : Type 0 where
  pub now : Moment
  pub told : IsTold rules (fronts_behind b seen.Local) m n now
  pub hub : StandsForMachine new now.machine
  pub vote : WritesLater now.machine.list now.machine.vote
  pub within : IsPackWithin now.machine.list now.machine.pack
  pub counts : now.counts ≡ counts_of new.store
  pub stamps : now.stamps ≡ after
  pub clients : now.clients ≡ m.clients
  pub others : KeepsOthers n old new

pub none_behind : {R F : Type 0} (rules : Rules) (m : Moment) (n : ℕ) (old : HubState R F) (after : Option (List Stamp)) → StandsForMachine old m.machine → WritesLater m.machine.list m.machine.vote → IsPackWithin m.machine.list m.machine.pack
    → m.counts ≡ counts_of old.store → m.stamps ≡ after
    → BehindIt rules false m n old old after
none_behind rules m n old after hub vote within counts stamps =
    record { now = m; told = refl; hub = hub; vote = vote; within = within; counts = counts; stamps = stamps; clients = refl; others = others_same n old }

module _ {R F : Type 0} (told lasts : Type 0) (stands : List ℕ → List Transaction → Type 0) (rules_in : R → MergeRules) (named_in : F → List ℕ → Option (List ℕ)) (tells : told) where
  pub front_behind : (rules : Rules) (m : Moment) (n : ℕ) (r : Reply) (old new : HubState R F) (before after : Option (List Stamp)) → IsHubStep told lasts stands rules_in named_in n request.Front r old new before after → rules ≡ rules_of rules_in named_in old
      → StandsForMachine old m.machine → WritesLater m.machine.list m.machine.vote → IsPackWithin m.machine.list m.machine.pack → m.counts ≡ counts_of old.store → m.stamps ≡ before → BehindIt rules true m n old new after
  front_behind rules m n r old new before after step same hub vote within counts stamps =
      let s : StepsTo (rules_of rules_in named_in old) m n request.Front r new after = steps_to told lasts stands rules_in named_in tells m n request.Front r old new before after step hub counts stamps in
      record {
        now = s.now;
        told = (r, s.now, subst (λ (x : Rules). IsStepAt x m n request.Front r s.now) (sym same) s.holds, refl);
        hub = s.hub;
        vote = writes_on _ m n request.Front r s.now s.holds vote;
        within = within_on _ m n request.Front r s.now s.holds vote within;
        counts = s.counts;
        stamps = s.stamps;
        clients = s.holds.clients;
        others = others_step told lasts stands rules_in named_in tells n request.Front r old new before after step tt;
      }

  -- the line, by its step, what is behind it, and what is left of the client
  pub step_one : (Q : Moment → Type 0) (m : Moment) (at : ℕ) (x y : Client) (c d : seen.Client) (q : Request) (r : Reply) (a : Answer) (old mid new : HubState R F) (before between after : Option (List Stamp))
      → IsWellFormedRequest q → MayTakeAt old before m at x c → IsHubStep told lasts stands rules_in named_in x.session q r old mid before between
      → (s : StepsTo (rules_of rules_in named_in old) m x.session q r mid between)
      → (b : BehindIt (rules_of rules_in named_in old) (is_committed r) s.now x.session mid new after)
      → a ≡ answer_of r → d ≡ client_left false b.now.machine c r → IsClientOf new y d
      → (IsStepLine (rules_of rules_in named_in old) m at c false q a (with_client b.now at d) → Q (with_client b.now at d))
      → OneLeadsTo Q m at old new y after
  step_one Q m at x y c d q r a old mid new before between after formed takes step s b answers left client holds =
      let number : x.session ≡ c.session = sym takes.stands.client.session in
      let near : c.standing ≡ seen.Local = takes.stands.client.local in
      record {
        now = with_client b.now at d;
        holds = holds (record {
          reply = r;
          behind = s.now;
          told = b.now;
          step = subst (λ (k : ℕ). IsStepAt (rules_of rules_in named_in old) m k q r s.now) number s.holds;
          front = subst (λ (z : seen.Standing). IsTold (rules_of rules_in named_in old) (fronts_behind (is_committed r) z) s.now c.session b.now) (sym near)
              (subst (λ (k : ℕ). IsTold (rules_of rules_in named_in old) (fronts_behind (is_committed r) seen.Local) s.now k b.now) number b.told);
          answer = answers ∙ sym (near_answer c.standing false r near);
          left = ap (λ (z : seen.Client). with_client b.now at z) (left ∙ sym (near_told b.now.machine r (client_left false b.now.machine c r) near));
        });
        client = d;
        placed = ap (λ (cs : List seen.Client). slice_set cs at d) (b.clients ∙ s.holds.clients);
        stands = record { hub = b.hub; vote = b.vote; within = b.within; counts = b.counts; stamps = b.stamps; client = client };
        others = keeps_at m at x.session c old new takes.there number (others_behind x.session old mid new (others_step told lasts stands rules_in named_in tells x.session q r old mid before between step formed) b.others);
      }

  -- the line, by its step alone
  pub step_alone : (Q : Moment → Type 0) (m : Moment) (at : ℕ) (x y : Client) (c : seen.Client) (d : Bool) (q : Request) (r : Reply) (a : Answer) (old new : HubState R F) (before after : Option (List Stamp))
      → IsWellFormedRequest q → MayTakeAt old before m at x c → IsHubStep told lasts stands rules_in named_in x.session q r old new before after → (s : StepsTo (rules_of rules_in named_in old) m x.session q r new after)
      → is_committed r ≡ false → a ≡ answer_to d r → IsClientOf new y (client_left d s.now.machine c r)
      → (IsStepLine (rules_of rules_in named_in old) m at c d q a (with_client s.now at (client_left d s.now.machine c r)) → Q (with_client s.now at (client_left d s.now.machine c r)))
      → OneLeadsTo Q m at old new y after
  step_alone Q m at x y c d q r a old new before after formed takes step s uncommitted answers client holds =
      let number : x.session ≡ c.session = sym takes.stands.client.session in
      let near : c.standing ≡ seen.Local = takes.stands.client.local in
      record {
        now = with_client s.now at (client_left d s.now.machine c r);
        holds = holds (record {
          reply = r;
          behind = s.now;
          told = s.now;
          step = subst (λ (k : ℕ). IsStepAt (rules_of rules_in named_in old) m k q r s.now) number s.holds;
          front = subst (λ (b : Bool). IsTold (rules_of rules_in named_in old) (fronts_behind b c.standing) s.now c.session s.now) (sym uncommitted) refl;
          answer = answers ∙ sym (near_answer c.standing d r near);
          left = ap (λ (z : seen.Client). with_client s.now at z) (sym (near_told s.now.machine r (client_left d s.now.machine c r) (left_standing d s.now.machine c r ∙ near)));
        });
        client = client_left d s.now.machine c r;
        placed = ap (λ (cs : List seen.Client). slice_set cs at (client_left d s.now.machine c r)) s.holds.clients;
        stands = record { hub = s.hub; vote = writes_on _ m x.session q r s.now s.holds takes.stands.vote; within = within_on _ m x.session q r s.now s.holds takes.stands.vote takes.stands.within; counts = s.counts; stamps = s.stamps; client = client };
        others = keeps_at m at x.session c old new takes.there number (others_step told lasts stands rules_in named_in tells x.session q r old new before after step formed);
      }
