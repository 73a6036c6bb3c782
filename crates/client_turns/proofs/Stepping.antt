-- How the clients stand for moments.
use Rattle.std.proofs.Common.{◌≡◌, ℕ, Bool, true, false, not, List, [], length, Option, Some, None, Result, refl, sym, ap, subst, ◌∙◌, inl, inr, ◌⊎◌}
use Rattle.std.specs.Prelude.{is_some, slice_get, slice_set}
use Rattle.std.proofs.lemmas.Bool.{true≢false}
use Rattle.connection_view.specs.Views.{View}
use Rattle.zb_ids.specs.declared.stamp.Stamp.{Stamp}
use Rattle.zb_model.specs.declared.data.Transaction.{Transaction}
use Rattle.zb_model.specs.declared.refusal.Refusal.{Refusal}
use Rattle.zb_model.specs.Rules.{MergeRules}
use Rattle.zb_answers.specs.declared.answer.Answer.{Answer}
use Rattle.zodb_core.specs.declared.reply.Reply.{Reply}
use Rattle.zodb_core.specs.declared.reply.Reply.TheVariants as reply
use Rattle.zodb_core.specs.declared.request.Request.{Request}
use Rattle.zodb_core.specs.declared.request.Request.TheVariants as request
use Rattle.zodb_core.specs.HubState.{HubState, StandsForMachine, counts_of, rules_of}
use Rattle.zodb_core.specs.Machine.{Machine, Rules, machine_over}
use Rattle.connection_view.specs.Works.{Work}
use Rattle.connection_view.specs.Connections.{work_of}
use Rattle.connection_view.specs.Views as views
use Rattle.local_loads.specs.declared.told.Told.{Told}
use Rattle.local_loads.specs.Local.{MayBeTold}
use Rattle.local_loads.specs.Making.{IsHubStep}
use Rattle.client_turns.specs.declared.client.Client.{Client}
use Rattle.client_turns.specs.declared.errors.TurnError.{TurnError}
use Rattle.client_turns.specs.declared.errors.TurnError.TheVariants as error
use Rattle.client_turns.specs.declared.linked.LinkedClient.{LinkedClient}
use Rattle.client_turns.specs.declared.member.FarClient.{FarClient}
use Rattle.client_turns.specs.declared.member.Member.{Member}
use Rattle.client_turns.specs.declared.member.Member.TheVariants.{Near, Far}
use Rattle.client_turns.specs.Laws.{IsSoundMoment}
use Rattle.client_turns.specs.Linked.{LinkLeadsTo, LinkedEnds, TakesLinked}
use Rattle.client_turns.specs.Members.{IsClientOf, IsFarOf, IsLinkedOf, IsMemberOf, IsOpenAs, far, holds_link, is_linked, session_of, without_link}
use Rattle.client_turns.specs.Others.{KeepsOthers}
use Rattle.zb_answers.specs.declared.answer.Answer.TheVariants as answer
use Rattle.zb_model.specs.declared.refusal.Refusal.TheVariants as refusal
use Rattle.zb_model.specs.Database.{IsDatabase}
use Rattle.zb_script.specs.declared.line.Line.{Line}
use Rattle.zodb_core.specs.Outcomes.{FaultCounts}
use Rattle.zodb_core.specs.Sound.{IsWellFormedRequest}
use Rattle.zodb_core.specs.SoundLaws.{over_sound}
use Rattle.client_turns.specs.Asking.{IsLeftBy, IsMemberLeft, IsPlain, TakesLine}
use Rattle.client_turns.specs.Clients.{Moment, first_moment, with_client}
use Rattle.client_turns.specs.Clients as seen
use Rattle.client_turns.specs.Lines.{answer_of, asking_excess, client_left, client_told, end_of, is_committed, known_behind, standing_behind, step_answer}
use Rattle.client_turns.specs.Standing.{AreClientsOf, ClientsState, IsLineOpen, IsStepOf, LeadsTo, MayAskAt, MayTakeMember, MemberLeadsTo, OrCut, RiseBelow, StandsForMoment, TakesMember}
use Rattle.client_turns.specs.Steps.{IsStepAt}
use Rattle.client_turns.specs.Turns.{IsCutAt, IsStepLine, IsTold, fronts_behind}
use Rattle.client_turns.proofs.Closing.{close_answer, close_asks, close_short}
use Rattle.client_turns.proofs.Following.{at_formed}
use Rattle.client_turns.proofs.Keeping.{all_kept, member_lost, others_kept, rise_set}
use Rattle.client_turns.proofs.One.{StepsTo, client_with, left_standing, lift, near_answer, near_asks, near_leads, near_told, not_closed, sessions_of, set_there, steps_to, weaken_one, within_on, writes_on}
use Rattle.client_turns.proofs.Others.{others_same, others_step}
use Rattle.client_turns.proofs.Sounding.{MovesOn, step_line_moves, step_moves}
use Rattle.client_turns.proofs.Placing.{IsClientAt, IsKeptAt, client_at, kept_at, member_session, set_at}
use Rattle.client_turns.proofs.Served.{Fits, fits_at}

-- ---- the first moment

-- a list that is a database
first_sound : (list : List Transaction) (left : Option (List Stamp)) (counts : FaultCounts) → IsDatabase list → IsSoundMoment (first_moment list left counts)
first_sound list left counts is = record { machine = over_sound list is; formed = tt; known = tt }

pub first_stands : {R F : Type 0} (seen : ClientsState R F) (list : List Transaction) (left : Option (List Stamp)) → seen.clients ≡ [] → IsDatabase list → StandsForMachine seen.hub (machine_over list)
    → StandsForMoment seen left (first_moment list left (counts_of seen.hub.store))
first_stands seen list left none is stands = record {
  hub = stands;
  vote = tt;
  within = tt;
  clients = subst (λ (xs : List Member). AreClientsOf seen.hub xs []) (sym none) tt;
  apart = tt;
  sound = first_sound list left (counts_of seen.hub.store) is;
  counts = refl;
  stamps = refl;
}

-- ---- a step

-- of the client at a place, whose link isn't known any more, or that is a local one
pub step_leads : {R F : Type 0} (told lasts : Type 0) (stands : List ℕ → List Transaction → Type 0) (rules_in : R → MergeRules) (named_in : F → List ℕ → Option (List ℕ)) (tells : told) (m : Moment) (at : ℕ) (x : Member) (q : Request) (r : Reply) (old new : ClientsState R F) (before after : Option (List Stamp))
    → StandsForMoment old before m → slice_get old.clients at ≡ Some x → holds_link x ≡ false → IsWellFormedRequest q → IsHubStep told lasts stands rules_in named_in (session_of x) q r old.hub new.hub before after → new.clients ≡ old.clients
    → LeadsTo (IsStepAt (rules_of rules_in named_in old.hub) m (session_of x) q r) new after
step_leads told lasts stands rules_in named_in tells m at x q r old new before after stood there free formed step same =
    let n : ℕ = session_of x in
    let s : StepsTo (rules_of rules_in named_in old.hub) m n q r new.hub after = steps_to told lasts stands rules_in named_in tells m n q r old.hub new.hub before after step stood.hub stood.counts stood.stamps in
    let others : KeepsOthers n old.hub new.hub = others_step told lasts stands rules_in named_in tells n q r old.hub new.hub before after step formed in
    let count : length s.now.machine.sessions ≡ length m.machine.sessions = sessions_of new.hub s.now.machine s.hub ∙ others.count ∙ sym (sessions_of old.hub m.machine stood.hub) in
    record {
      now = s.now;
      holds = s.holds;
      stands = record {
        hub = s.hub;
        vote = writes_on _ m n q r s.now s.holds stood.vote;
        within = within_on _ m n q r s.now s.holds stood.vote stood.within;
        clients = subst (λ cs. AreClientsOf new.hub new.clients cs) (sym s.holds.clients) (subst (λ (xs : List Member). AreClientsOf new.hub xs m.clients) (sym same)
            (all_kept n old.hub new.hub (others_kept n old.hub new.hub others) 0 (length m.machine.sessions) old.clients m.clients at x stood.apart stood.clients there refl free));
        apart = subst (RiseBelow 0 (length s.now.machine.sessions)) (sym s.holds.clients) (subst (λ (k : ℕ). RiseBelow 0 k m.clients) (sym count) stood.apart);
        sound = (step_moves _ m n q r s.now stood.sound formed s.holds).sound;
        counts = s.counts;
        stamps = s.stamps;
      };
    }

-- the same clients, of which one has no link that is known any more
pub lost_stands : {R F : Type 0} (all lost : ClientsState R F) (left : Option (List Stamp)) (m : Moment) (at : ℕ) (x : Member) → StandsForMoment all left m → slice_get all.clients at ≡ Some x → lost.hub ≡ all.hub → lost.clients ≡ slice_set all.clients at (without_link x)
    → StandsForMoment lost left m
lost_stands {R} {F} all lost left m at x stood there hub clients =
    let c : IsClientAt all.hub m.clients at x = client_at all.hub all.clients m.clients at x stood.clients there in
    let set : AreClientsOf all.hub (slice_set all.clients at (without_link x)) (slice_set m.clients at c.client) = set_at all.hub all.clients m.clients at (without_link x) c.client stood.clients (member_lost all.hub x c.client c.is) in
    record {
      hub = subst (λ (h : HubState R F). StandsForMachine h m.machine) (sym hub) stood.hub;
      vote = stood.vote;
      within = stood.within;
      clients = subst (λ (h : HubState R F). AreClientsOf h lost.clients m.clients) (sym hub) (subst (λ (xs : List Member). AreClientsOf all.hub xs m.clients) (sym clients)
          (subst (λ (cs : List seen.Client). AreClientsOf all.hub (slice_set all.clients at (without_link x)) cs) (sym (set_there m.clients at c.client c.there)) set));
      apart = stood.apart;
      sound = stood.sound;
      counts = stood.counts ∙ ap (λ (h : HubState R F). counts_of h.store) (sym hub);
      stamps = stood.stamps;
    }

-- ---- one client

-- the client at a place, whose session is open, may take its turn
pub may_take : {R F : Type 0} (m : Moment) (at : ℕ) (old : ClientsState R F) (before : Option (List Stamp)) → (stood : StandsForMoment old before m) → (may : MayAskAt m at) → (k : IsKeptAt old.hub old.clients at may.0) → MayTakeMember old.hub before m at k.kept may.0
may_take m at old before stood may k = record {
  stands = record { hub = stood.hub; vote = stood.vote; within = stood.within; counts = stood.counts; stamps = stood.stamps };
  client = k.is;
  formed = at_formed m.clients at may.0 stood.sound.formed may.1;
  there = may.1;
  may = may.2;
}

-- what it does is what all do
pub all_lead : {R F : Type 0} (Q : seen.Client → Moment → Type 0) (m : Moment) (at : ℕ) (old new : ClientsState R F) (before after : Option (List Stamp)) → StandsForMoment old before m → MayAskAt m at
    → ((c : seen.Client) → slice_get m.clients at ≡ Some c → (now : Moment) → Q c now → MovesOn m now)
    → ((x : Member) → slice_get old.clients at ≡ Some x → (y : Member) × (new.clients ≡ slice_set old.clients at y) × ((c : seen.Client) → MayTakeMember old.hub before m at x c → MemberLeadsTo (Q c) m at c.session old.hub new.hub y after))
    → LeadsTo (λ now. (c : seen.Client) × (slice_get m.clients at ≡ Some c) × Q c now) new after
all_lead Q m at old new before after stood may moves takes =
    let k : IsKeptAt old.hub old.clients at may.0 = kept_at old.hub old.clients m.clients at may.0 stood.clients may.1 in
    let y = takes k.kept k.there in
    let leads : LeadsTo (Q may.0) new after = lift (Q may.0) m at may.0 old new y.0 before after stood may.1 (y.2 may.0 (may_take m at old before stood may k)) y.1 (moves may.0 may.1) in
    record { now = leads.now; holds = (may.0, may.1, leads.holds); stands = leads.stands }

-- ---- a client of either kind

-- a local one
pub near_takes : {R F : Type 0} (told : Type 0) (rules : Rules) (l : Line) (a : Answer) (old new : HubState R F) (x y : Client) (before after : Option (List Stamp)) → TakesLine told rules l a old new x y before after
    → TakesMember told rules l a old new (Near x) (Near y) before after
near_takes told rules l a old new x y before after takes tells m at c may =
    near_leads c may.there (weaken_one (takes tells m at c (record {
      stands = record { hub = may.stands.hub; vote = may.stands.vote; within = may.stands.within; counts = may.stands.counts; stamps = may.stands.stamps; client = may.client };
      formed = may.formed;
      there = may.there;
      may = may.may;
    })) (λ now line. inl line))

-- nothing was done for want of memory
pub starved_member : {R F : Type 0} (told : Type 0) (rules : Rules) (l : Line) (h : HubState R F) (x : Member) (stamps : Option (List Stamp)) → TakesMember told rules l (answer.Refused refusal.Memory) h h x x stamps stamps
starved_member told rules l h x stamps tells m at c may = record {
  now = m;
  holds = inl (inr (refl, refl));
  stands = may.stands;
  client = c;
  placed = set_there m.clients at c may.there;
  is = may.client;
  others = others_same c.session h;
}

-- a client with a link, of which nothing is known any more where the line wasn't answered
lost_by : {R F : Type 0} (h : HubState R F) (x : LinkedClient) (c : seen.Client) → IsLinkedOf h x c → (y : LinkedClient) → y.name ≡ x.name → y.session ≡ x.session → (g : HubState R F) → IsFarOf g true y c
lost_by h x c is y name session g = (is.name ∙ sym name, is.session ∙ sym session, (is.told.known, is.linked))

pub cut_leads : {R F : Type 0} (P Q : Moment → Type 0) (m : Moment) (at n : ℕ) (c : seen.Client) (old new : HubState R F) (x y : LinkedClient) (after : Option (List Stamp)) → slice_get m.clients at ≡ Some c → IsLinkedOf old x c → y.name ≡ x.name → y.session ≡ x.session
    → LinkLeadsTo P m n old new after → ((now : Moment) → P now → Q now) → MemberLeadsTo Q m at n old new (Far (record { client = y; is_lost = true })) after
cut_leads P Q m at n c old new x y after there is name session leads less = record {
  now = leads.now;
  holds = less leads.now leads.holds;
  stands = leads.stands;
  client = c;
  placed = leads.clients ∙ set_there m.clients at c there;
  is = lost_by old x c is y name session new;
  others = leads.others;
}

ends_by : {R F : Type 0} (rules : Rules) (l : Line) (a : Answer) (e : Option TurnError) → end_of a ≡ e → (m : Moment) (at : ℕ) (c : seen.Client) (old new : HubState R F) (x y : LinkedClient) (after : Option (List Stamp)) → slice_get m.clients at ≡ Some c → IsLinkedOf old x c → y.name ≡ x.name
    → y.session ≡ x.session → LinkedEnds e rules m at c l a old new y after → MemberLeadsTo (OrCut (IsLineOpen rules m at c l) (IsCutAt rules m c l) a) m at c.session old new (Far (record { client = y; is_lost = is_some e })) after
ends_by rules l a None ends m at c old new x y after there is name session leads = record {
  now = leads.now;
  holds = inl leads.holds;
  stands = leads.stands;
  client = leads.client;
  placed = leads.placed;
  is = leads.is;
  others = leads.others;
}
ends_by rules l a (Some error.StoreFault) ends m at c old new x y after there is name session leads = cut_leads _ _ m at c.session c old new x y after there is name session leads (λ now line. inl line)
ends_by rules l a (Some error.Memory) ends m at c old new x y after there is name session leads = cut_leads _ _ m at c.session c old new x y after there is name session leads (λ now. by_either now)
  where
    memory_said : (a : Answer) → end_of a ≡ Some error.Memory → a ≡ answer.Refused refusal.Memory
    memory_said (answer.Refused refusal.Memory) is = refl
    memory_said (answer.Refused refusal.StoreFault) is = absurd cc
    memory_said (answer.Refused _) is = absurd cc
    memory_said _ is = absurd cc

    by_either : (now : Moment) → IsLineOpen rules m at c l a now ⊎ IsCutAt rules m c l now → OrCut (IsLineOpen rules m at c l) (IsCutAt rules m c l) a now
    by_either now (inl line) = inl line
    by_either now (inr cut) = inr (memory_said a ends, cut)

pub far_takes : {R F : Type 0} (told : Type 0) (rules : Rules) (l : Line) (a : Answer) (old new : HubState R F) (x y : LinkedClient) (before after : Option (List Stamp)) → TakesLinked told rules l a old new x y before after → y.name ≡ x.name → y.session ≡ x.session
    → TakesMember told rules l a old new (far x) (Far (record { client = y; is_lost = is_some (end_of a) })) before after
far_takes told rules l a old new x y before after takes name session tells m at c may =
    ends_by rules l a (end_of a) refl m at c old new x y after may.there may.client name session (takes tells m at c (record {
      stands = may.stands;
      client = may.client;
      formed = may.formed;
      there = may.there;
      may = may.may;
    }))

pub far_takes_at : {R F : Type 0} (told : Type 0) (rules : Rules) (l : Line) (a : Answer) (old new : HubState R F) (x : FarClient) (y : LinkedClient) (lost : Bool) (before after : Option (List Stamp)) → x.is_lost ≡ false → lost ≡ is_some (end_of a) → TakesLinked told rules l a old new x.client y before after
    → y.name ≡ x.client.name → y.session ≡ x.client.session → TakesMember told rules l a old new (Far x) (Far (record { client = y; is_lost = lost })) before after
far_takes_at {R} {F} told rules l a old new x y lost before after held is takes name session =
    subst (λ (b : Bool). TakesMember told rules l a old new (Far (record { client = x.client; is_lost = b })) (Far (record { client = y; is_lost = lost })) before after) (sym held)
    (subst (λ (b : Bool). TakesMember told rules l a old new (far x.client) (Far (record { client = y; is_lost = b })) before after) (sym is) (far_takes told rules l a old new x.client y before after takes name session))

-- ---- a line that is one step, and asks nothing of the connection

-- a reply of such a step
abbrev IsPlainReply : Reply → Type 0
IsPlainReply (reply.Oids first count) = Unit {0}
IsPlainReply (reply.History list) = Unit {0}
IsPlainReply (reply.UndoLog list) = Unit {0}
IsPlainReply (reply.Packed kept dropped) = Unit {0}
IsPlainReply (reply.Packing tid) = Unit {0}
IsPlainReply (reply.Marking count) = Unit {0}
IsPlainReply (reply.Marked count) = Unit {0}
IsPlainReply (reply.Copying count) = Unit {0}
IsPlainReply (reply.Copied count) = Unit {0}
IsPlainReply reply.Closed = Unit {0}
IsPlainReply (reply.Refused why) = Unit {0}
IsPlainReply _ = ⊥

oids_reply : (r : Reply) (count : ℕ) → Fits r (request.NewOids count) → IsPlainReply r
oids_reply (reply.Oids first n) count fits = tt
oids_reply (reply.Refused why) count fits = tt
oids_reply _ count fits = absurd fits

history_reply : (r : Reply) (oid : ℕ) → Fits r (request.History oid) → IsPlainReply r
history_reply (reply.History list) oid fits = tt
history_reply (reply.Refused why) oid fits = tt
history_reply _ oid fits = absurd fits

log_reply : (r : Reply) → Fits r request.UndoLog → IsPlainReply r
log_reply (reply.UndoLog list) fits = tt
log_reply (reply.Refused why) fits = tt
log_reply _ fits = absurd fits

pack_reply : (r : Reply) (tid : ℕ) (collects : Bool) → Fits r (request.Pack tid collects) → IsPlainReply r
pack_reply (reply.Packed kept dropped) tid collects fits = tt
pack_reply (reply.Refused why) tid collects fits = tt
pack_reply _ tid collects fits = absurd fits

begin_reply : (r : Reply) (tid : ℕ) (collects : Bool) → Fits r (request.PackBegin tid collects) → IsPlainReply r
begin_reply (reply.Packing t) tid collects fits = tt
begin_reply (reply.Refused why) tid collects fits = tt
begin_reply _ tid collects fits = absurd fits

turn_reply : (r : Reply) → Fits r request.PackTurn → IsPlainReply r
turn_reply (reply.Packed kept dropped) fits = tt
turn_reply (reply.Marking count) fits = tt
turn_reply (reply.Marked count) fits = tt
turn_reply (reply.Copying count) fits = tt
turn_reply (reply.Copied count) fits = tt
turn_reply (reply.Refused why) fits = tt
turn_reply _ fits = absurd fits

close_reply : (r : Reply) → Fits r request.Close → IsPlainReply r
close_reply reply.Closed fits = tt
close_reply (reply.Refused why) fits = tt
close_reply _ fits = absurd fits

plain_reply : (q : Request) (r : Reply) → IsPlain q → Fits r q → IsPlainReply r
plain_reply (request.NewOids count) r plain fits = oids_reply r count fits
plain_reply (request.History oid) r plain fits = history_reply r oid fits
plain_reply request.UndoLog r plain fits = log_reply r fits
plain_reply (request.Pack tid collects) r plain fits = pack_reply r tid collects fits
plain_reply (request.PackBegin tid collects) r plain fits = begin_reply r tid collects fits
plain_reply request.PackTurn r plain fits = turn_reply r fits
plain_reply request.Close r plain fits = close_reply r fits
plain_reply _ r plain fits = absurd plain

uncommitted : (r : Reply) → IsPlainReply r → is_committed r ≡ false
uncommitted (reply.Committed tid) plain = absurd plain
uncommitted _ plain = refl

-- the client behind its step
client_behind : {R F : Type 0} (hub : HubState R F) (m : Machine) (x y : Client) (c : seen.Client) (r : Reply) → IsPlainReply r → IsClientOf hub x c → IsLeftBy x y r → IsClientOf hub y (client_left false m c r)
client_behind hub m x y c reply.Closed plain is left =
    let told : views.Client = views.unvoted is.told in
    client_with hub x y c told None is.name is.session is.local left.0.name left.0.session
    (subst (λ (l : Option Told). MayBeTold l hub told.told told.known) (sym left.0.told) is.may)
    (subst (λ (w : Result Work Refusal). IsOpenAs y.connection told w None) (sym (left.1 (not_closed x.connection is.told (work_of x.connection) c.transaction is.transaction))) (refl, left.2 told (λ oid. refl)))
client_behind hub m x y c (reply.Oids first count) plain is left = subst (λ (z : Client). IsClientOf hub z c) (sym left) is
client_behind hub m x y c (reply.History list) plain is left = subst (λ (z : Client). IsClientOf hub z c) (sym left) is
client_behind hub m x y c (reply.UndoLog list) plain is left = subst (λ (z : Client). IsClientOf hub z c) (sym left) is
client_behind hub m x y c (reply.Packed kept dropped) plain is left = subst (λ (z : Client). IsClientOf hub z c) (sym left) is
client_behind hub m x y c (reply.Packing tid) plain is left = subst (λ (z : Client). IsClientOf hub z c) (sym left) is
client_behind hub m x y c (reply.Marking count) plain is left = subst (λ (z : Client). IsClientOf hub z c) (sym left) is
client_behind hub m x y c (reply.Marked count) plain is left = subst (λ (z : Client). IsClientOf hub z c) (sym left) is
client_behind hub m x y c (reply.Copying count) plain is left = subst (λ (z : Client). IsClientOf hub z c) (sym left) is
client_behind hub m x y c (reply.Copied count) plain is left = subst (λ (z : Client). IsClientOf hub z c) (sym left) is
client_behind hub m x y c (reply.Refused why) plain is left = subst (λ (z : Client). IsClientOf hub z c) (sym left) is
client_behind hub m x y c _ plain is left = absurd plain

-- of either kind
member_behind : {R F : Type 0} (hub : HubState R F) (m : Machine) (x y : Member) (c : seen.Client) (r : Reply) → IsPlainReply r → holds_link x ≡ false → IsMemberOf hub x c → IsMemberLeft x y r → IsMemberOf hub y (client_told m r (client_left false m c r))
member_behind hub m (Near x) (Near y) c r plain free is left =
    subst (λ (d : seen.Client). IsClientOf hub y d) (sym (near_told m r (client_left false m c r) (left_standing false m c r ∙ is.local))) (client_behind hub m x y c r plain is left)
member_behind hub m (Far x) (Far y) c r plain free is left = by_lost x.is_lost refl is
  where
    linked : (d : seen.Client) (known : View) → d.standing ≡ seen.Linked known → (k : View) × ((client_told m r d).standing ≡ seen.Linked k)
    linked d known is = (known_behind m known r, ap (λ (s : seen.Standing). standing_behind m s r) is)

    by_lost : (b : Bool) → x.is_lost ≡ b → IsFarOf hub b x.client c → IsFarOf hub y.is_lost y.client (client_told m r (client_left false m c r))
    by_lost false lost is = absurd (true≢false (ap not (sym lost) ∙ free))
    by_lost true lost is =
        subst (λ (b : Bool). IsFarOf hub b y.client (client_told m r (client_left false m c r))) (sym (left.2 ∙ lost))
        (is.0 ∙ sym left.0, is.1 ∙ sym left.1, linked (client_left false m c r) is.2.0 (left_standing false m c r ∙ is.2.1))
member_behind hub m (Near x) (Far y) c r plain free is left = absurd left
member_behind hub m (Far x) (Near y) c r plain free is left = absurd left

plain_formed : (q : Request) → IsPlain q → IsWellFormedRequest q
plain_formed (request.NewOids count) plain = tt
plain_formed (request.History oid) plain = tt
plain_formed request.UndoLog plain = tt
plain_formed (request.Pack tid collect) plain = tt
plain_formed (request.PackBegin tid collect) plain = tt
plain_formed request.PackTurn plain = tt
plain_formed request.Close plain = tt
plain_formed _ plain = absurd plain

pub plain_well : (q : Request) → IsPlain q → IsWellFormedRequest q
plain_well q plain = plain_formed q plain

-- what such a step is asked and answered: one with a link makes just its closing so
plain_answer : {R F : Type 0} (hub : HubState R F) (rules : Rules) (m : Moment) (n : ℕ) (x : Member) (c : seen.Client) (q : Request) (r : Reply) (now : Moment) → IsMemberOf hub x c → (is_linked x ≡ true → q ≡ request.Close) → IsStepAt rules m n q r now
    → (asking_excess c.standing q ≡ None) × (step_answer c.standing false r ≡ answer_of r)
plain_answer hub rules m n (Near x) c q r now is closes step = (near_asks c.standing q is.local, near_answer c.standing false r is.local)
plain_answer hub rules m n (Far x) c q r now is closes step = (
  subst (λ (z : Request). asking_excess c.standing z ≡ None) (sym (closes refl)) (close_asks c.standing),
  close_answer c.standing r (close_short rules m n r now (subst (λ (z : Request). IsStepAt rules m n z r now) (closes refl) step)),
)

pub plain_leads : {R F : Type 0} (rules : Rules) (m : Moment) (at : ℕ) (x : Member) (q : Request) (r : Reply) (a : Answer) (old mid new : ClientsState R F) (before after : Option (List Stamp)) → StandsForMoment old before m → slice_get old.clients at ≡ Some x → holds_link x ≡ false → IsPlain q
    → (is_linked x ≡ true → q ≡ request.Close) → LeadsTo (IsStepAt rules m (session_of x) q r) mid after → mid.clients ≡ old.clients → new.hub ≡ mid.hub
    → (y : Member) × (new.clients ≡ slice_set old.clients at y) × IsMemberLeft x y r → a ≡ answer_of r → LeadsTo (IsStepOf rules m at q a) new after
plain_leads {R} {F} rules m at x q r a old mid new before after stood is_there free plain closes leads same hub y answers =
    let there : slice_get mid.clients at ≡ Some x = ap (λ (xs : List Member). slice_get xs at) same ∙ is_there in
    let c : IsClientAt mid.hub leads.now.clients at x = client_at mid.hub mid.clients leads.now.clients at x leads.stands.clients there in
    let plainly : IsPlainReply r = plain_reply q r plain (fits_at rules m (session_of x) q r leads.now leads.holds) in
    let d : seen.Client = client_told leads.now.machine r (client_left false leads.now.machine c.client r) in
    let number : session_of x ≡ c.client.session = sym (member_session mid.hub x c.client c.is) in
    let placed : new.clients ≡ slice_set mid.clients at y.0 = y.1 ∙ ap (λ (xs : List Member). slice_set xs at y.0) (sym same) in
    let set : AreClientsOf mid.hub (slice_set mid.clients at y.0) (slice_set leads.now.clients at d) =
    set_at mid.hub mid.clients leads.now.clients at y.0 d leads.stands.clients (member_behind mid.hub leads.now.machine x y.0 c.client r plainly free c.is y.2) in
    let said = plain_answer mid.hub rules m (session_of x) x c.client q r leads.now c.is closes leads.holds in
    let here : slice_get m.clients at ≡ Some c.client = ap (λ (cs : List seen.Client). slice_get cs at) (sym leads.holds.clients) ∙ c.there in
    let line : IsStepLine rules m at c.client false q a (with_client leads.now at d) = record {
      reply = r;
      behind = leads.now;
      told = leads.now;
      step = subst (λ (k : ℕ). IsStepAt rules m k q r leads.now) number leads.holds;
      front = subst (λ (b : Bool). IsTold rules (fronts_behind b c.client.standing) leads.now c.client.session leads.now) (sym (uncommitted r plainly)) refl;
      answer = answers ∙ sym said.1;
      left = refl;
    } in
    record {
      now = with_client leads.now at d;
      holds = (c.client, here, said.0, line);
      stands = record {
        hub = subst (λ (h : HubState R F). StandsForMachine h leads.now.machine) (sym hub) leads.stands.hub;
        vote = leads.stands.vote;
        within = leads.stands.within;
        clients = subst (λ (h : HubState R F). AreClientsOf h new.clients (slice_set leads.now.clients at d)) (sym hub) (subst (λ (xs : List Member). AreClientsOf mid.hub xs (slice_set leads.now.clients at d)) (sym placed) set);
        apart = rise_set 0 (length leads.now.machine.sessions) leads.now.clients at c.client d c.there refl leads.stands.apart;
        sound = (step_line_moves rules m (with_client leads.now at d) at c.client false q a stood.sound here (plain_formed q plain) line).sound;
        counts = leads.stands.counts ∙ ap (λ (h : HubState R F). counts_of h.store) (sym hub);
        stamps = leads.stands.stamps;
      };
    }

-- a line, over the hub that a function's view shows
pub step_named : {R F : Type 0} (rules_in : R → MergeRules) (named_in : F → List ℕ → Option (List ℕ)) (h g : HubState R F) (m : Moment) (at : ℕ) (q : Request) (a : Answer) (new : ClientsState R F) (after : Option (List Stamp))
    → h ≡ g → LeadsTo (IsStepOf (rules_of rules_in named_in h) m at q a) new after → LeadsTo (IsStepOf (rules_of rules_in named_in g) m at q a) new after
step_named rules_in named_in h g m at q a new after same leads = subst (λ k. LeadsTo (IsStepOf (rules_of rules_in named_in k) m at q a) new after) same leads

-- a step of the hub, of the session that a client has
pub step_numbered : {R F : Type 0} (told lasts : Type 0) (stands : List ℕ → List Transaction → Type 0) (rules_in : R → MergeRules) (named_in : F → List ℕ → Option (List ℕ)) (n k : ℕ) (q : Request) (r : Reply) (h g old : HubState R F) (before after : Option (List Stamp))
    → n ≡ k → h ≡ old → IsHubStep told lasts stands rules_in named_in n q r h g before after → IsHubStep told lasts stands rules_in named_in k q r old g before after
step_numbered told lasts stands rules_in named_in n k q r h g old before after number same step =
    subst (λ (j : ℕ). IsHubStep told lasts stands rules_in named_in j q r old g before after) number (subst (λ s. IsHubStep told lasts stands rules_in named_in n q r s g before after) same step)
