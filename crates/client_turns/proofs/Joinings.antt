-- How a client opens its session over a link.
use Rattle.std.proofs.Common.{◌≡◌, ◌⊎◌, ◌+◌, ◌<◌, ◌≤◌, ◌==◌, Bool, true, false, not, List, [], ◌∷◌, ◌++◌, ℕ, zero, suc, length, nat_lt, Option, Some, None, Result, Ok, Err, refl, sym, ap, subst, ◌∙◌, arith, inl, inr}
use Rattle.std.specs.Prelude.{OnOk, slice_get}
use Rattle.std.specs.Option.{option_map, option_map_or}
use Rattle.std.proofs.lemmas.Bool.{eqb-true, le-ltb, lt-ltb, true≢false}
use Rattle.zeo_serving.specs.KnowLaws.{eqb-same}
use Rattle.zodb_core.specs.Waiting.{is_held_by_another}
use Rattle.zb_ids.specs.declared.stamp.Stamp.{Stamp}
use Rattle.zb_volume.specs.declared.areas.Area.TheVariants.{Main, Side}
use Rattle.zb_volume.specs.Moments.{Leaves, LeavesOnly, StaysAs}
use Rattle.zb_model.specs.declared.data.Transaction.{Transaction}
use Rattle.zb_model.specs.declared.refusal.Refusal.{Refusal}
use Rattle.zb_model.specs.declared.refusal.Refusal.TheVariants as refusal
use Rattle.zb_model.specs.Rules.{MergeRules}
use Rattle.zb_model.specs.Stores.{StoreState}
use Rattle.zb_answers.specs.declared.answer.Answer.{Answer}
use Rattle.zb_answers.specs.declared.answer.Answer.TheVariants as answer
use Rattle.zb_script.specs.declared.line.Line.{Line}
use Rattle.zb_script.specs.declared.line.Line.TheVariants as line
use Rattle.zodb_core.specs.declared.reply.Reply.{Reply}
use Rattle.zodb_core.specs.declared.reply.Reply.TheVariants as reply
use Rattle.zodb_core.specs.declared.request.Request.{Request}
use Rattle.zodb_core.specs.declared.request.Request.TheVariants as request
use Rattle.zodb_core.specs.declared.errors.SessionRefusal.{SessionRefusal}
use Rattle.zodb_core.specs.declared.errors.SessionRefusal.TheVariants as session_refusal
use Rattle.zodb_core.specs.HubState.{MayRefuseSession, HubState, StandsForMachine, counts_of, is_store_failed, rules_of, sessions_with, vote_of_hub}
use Rattle.zodb_core.specs.Machine.{Machine, MachineSession, MachineVote, Rules, front_of, is_open_in, new_session, told_of, with_session}
use Rattle.zodb_core.specs.Outcomes.{Answered, AreLaterCounts, FaultCounts, NoMemory, ReadingFailed, StepOutcome, StoreFailed, outcome_of}
use Rattle.zodb_core.specs.Sound.{IsSoundMachine}
use Rattle.zodb_core.specs.SoundLaws.{opened_sound}
use Rattle.connection_view.specs.Views.{View, view_of}
use Rattle.hub_carrier.specs.declared.trouble.Trouble.{Trouble}
use Rattle.hub_carrier.specs.declared.trouble.Trouble.TheVariants as trouble
use Rattle.hub_carrier.specs.Ends.{HubEnd, StepsThere, end_at, machine_at, worse}
use Rattle.hub_carrier.specs.EndLaws.{known_at}
use Rattle.hub_carrier.specs.Later.{IsMovedBy, is_store_fault}
use Rattle.remote_loads.specs.Answers.{count_answer}
use Rattle.remote_loads.specs.Making.{IsAnsweredLike, MakesOne, makes_answered, makes_lost, makes_none, makes_unsent}
use Rattle.remote_loads.specs.Registering.{IsNewcomer, RegisterLeaves, RegisterSteps, not_registered, register_lost, registers_so, unregistered}
use Rattle.remote_loads.specs.Served.{MaySteps, no_step, one_step}
use Rattle.remote_loads.specs.Talking.{answer_given}
use Rattle.zeo_client.specs.Renewing.{new_client}
use Rattle.zeo_desk.specs.Desks.{new_desk}
use Rattle.client_turns.specs.declared.member.Member.{Member}
use Rattle.client_turns.specs.Clients.{Moment}
use Rattle.client_turns.specs.Clients as seen
use Rattle.client_turns.specs.Asking.{IsCalm}
use Rattle.client_turns.specs.Joining.{IsJoined, IsJoining, joined_as, joining_answer, joining_clients, unopened}
use Rattle.connection_view.specs.declared.connection.Connection.{Connection}
use Rattle.zeo_client.specs.Taking.{ClientState}
use Rattle.zeo_desk.specs.Desks.{DeskState}
use Rattle.zodb_core.specs.declared.vote.HubVote.{HubVote}
use Rattle.client_turns.specs.Lines.{IsCountedBy, outcome_of_answer, outcome_of_result}
use Rattle.client_turns.specs.Members.{IsLinkedOpen, StandsForHub, far}
use Rattle.client_turns.specs.Others.{KeepsOthers}
use Rattle.client_turns.specs.Refusing.{opening_in}
use Rattle.client_turns.specs.Standing.{AreClientsOf, ClientsState, KeepsHub, LeadsTo, LeavesHub, MayStandFor, OrCut, OrStarved, ReadsHub, RiseBelow, StandsForMoment}
use Rattle.client_turns.specs.Steps.{IsStepAt}
use Rattle.client_turns.specs.Turns.{IsCutOpening, IsFarOpening, IsLinkOpening, IsTold, Opening, opened_far, opened_if}
use Rattle.client_turns.specs.Views.{server_of}
use Rattle.client_turns.proofs.Advancing.{still_reads}
use Rattle.client_turns.proofs.Bare.{EndReply, bare_sent, end_reply}
use Rattle.client_turns.proofs.Causes.{calm_step}
use Rattle.client_turns.proofs.Ending.{front_same, rules_same}
use Rattle.client_turns.proofs.Framing.{front_reads, reads_as, reads_then}
use Rattle.client_turns.proofs.One.{StepsTo, sessions_of, steps_to, within_on, writes_on}
use Rattle.client_turns.proofs.Following.{told_follows}
use Rattle.client_turns.proofs.Keeping.{none_kept, others_kept, rise_more}
use Rattle.client_turns.proofs.Opening.{Opens, one_more, opened_moves, session_opens}
use Rattle.client_turns.proofs.Placing.{push_at}
use Rattle.client_turns.proofs.Sounding.{MovesOn, machine_moves, step_moves}
use Rattle.client_turns.proofs.Standings.{same_view}
use Rattle.client_turns.specs.declared.linked.LinkedClient.{LinkedClient}
use Rattle.client_turns.specs.Laws.{Follows, IsSoundMoment}
use Rattle.connection_view.specs.Connections.{Between, work_of}
use Rattle.connection_view.specs.Views as views
use Rattle.connection_view.specs.Works.{Work}
use Rattle.remote_loads.specs.Standing.{Stands}
use Rattle.zeo_serving.specs.Laws.{fresh_client}
use Rattle.zeo_serving.specs.Serving.{view_at}
use Rattle.remote_loads.specs.KnownLaws.{whole_same}
use Rattle.client_turns.proofs.Others.{others_behind, others_same, others_step}
use Rattle.zeo_desk.specs.declared.asked.Asked.TheVariants as asked
use Rattle.zeo_messages.specs.declared.call.Call.TheVariants as calls
use Rattle.zb_model.specs.declared.news.News.{News}
use Rattle.zeo_messages.specs.declared.answer.Answer.{Answer as FarAnswer}

-- an opening changes no list
pub link_leaves : {R F : Type 0} (told lasts : Type 0) (stands : List ℕ → List Transaction → Type 0) (rules : Rules) (x : Option Member) (l : Line) (o : StepOutcome) (old new : HubState R F) → opening_in l ≡ Some true → KeepsHub told lasts stands false (λ m bytes. stands bytes m.list) o old new
    → LeavesHub told lasts stands rules x l o old new
link_leaves told lasts stands rules x (line.Open remote) o old new opens keeps = keeps
link_leaves told lasts stands rules x _ o old new opens keeps = absurd cc

-- ---- fronts, one behind another

-- one front more
told_more : (rules : Rules) (count : ℕ) (m : Moment) (n : ℕ) (mid : Moment) (r : Reply) (now : Moment) → IsTold rules count m n mid → IsStepAt rules mid n request.Front r now → IsTold rules (suc count) m n now
told_more rules zero m n mid r now told step = (r, now, subst (λ (x : Moment). IsStepAt rules x n request.Front r now) told step, refl)
told_more rules (suc count) m n mid r now (s, next, first, rest) step = (s, next, first, told_more rules count next n mid r now rest step)

module _ {R F : Type 0} (told lasts : Type 0) (stands : List ℕ → List Transaction → Type 0) (rules_in : R → MergeRules) (named_in : F → List ℕ → Option (List ℕ)) (tells : told) (m : Moment) (n : ℕ) (h : HubState R F) (before : Option (List Stamp)) (stood : StandsForHub h before m) where
  abbrev pub Steps : Request → Reply → HubEnd R F → HubEnd R F → Type 0
  Steps q r s u = StepsThere told lasts stands rules_in named_in n q r s u

  abbrev pub start : HubEnd R F
  start = end_at h before false trouble.NoFault

  abbrev pub rules : Rules
  rules = rules_of rules_in named_in h

  -- so many fronts of the session were made: nothing else has changed, no list was, and nothing went wrong
  pub record Fronts (count : ℕ) (u : HubEnd R F) : Type 0 where
    pub now : Moment
    pub stands_now : StandsForHub u.hub u.stamps now
    pub same : rules_of rules_in named_in u.hub ≡ rules
    pub clients : now.clients ≡ m.clients
    pub fronts : IsTold rules count m n now
    pub kept : KeepsOthers n h u.hub
    pub server : server_of now.machine ≡ server_of m.machine
    pub quiet : u.trouble ≡ trouble.NoFault
    pub reads : ReadsHub told lasts stands Answered h u.hub

  abbrev pub no_fronts : Fronts 0 start
  no_fronts = record {
    now = m;
    stands_now = stood;
    same = refl;
    clients = refl;
    fronts = refl;
    kept = others_same n h;
    server = refl;
    quiet = refl;
    reads = still_reads told lasts stands Answered (inl refl) h;
  }

  -- a front that was made, as the last one
  pub record OneFront (count : ℕ) (r : Reply) (s u : HubEnd R F) (p : Fronts count s) : Type 0 where
    pub all : Fronts (suc count) u
    pub step : IsStepAt rules p.now n request.Front r all.now

  quiet_on : (r : Reply) (a b : Trouble) → a ≡ trouble.NoFault → b ≡ worse a (outcome_of r) → (outcome_of r ≡ ReadingFailed → ⊥) → (outcome_of r ≡ StoreFailed → ⊥) → b ≡ trouble.NoFault
  quiet_on r a b calm is unread unwritten = is ∙ ap (λ (z : Trouble). worse z (outcome_of r)) calm ∙ by_outcome (outcome_of r) refl
    where
      by_outcome : (o : StepOutcome) → outcome_of r ≡ o → worse trouble.NoFault o ≡ trouble.NoFault
      by_outcome Answered said = refl
      by_outcome ReadingFailed said = absurd (unread said)
      by_outcome NoMemory said = refl
      by_outcome StoreFailed said = absurd (unwritten said)

  one_front : (count : ℕ) (r : Reply) (s u : HubEnd R F) → (p : Fronts count s) → Steps request.Front r s u → OneFront count r s u p
  one_front count r s u p step =
      let to : StepsTo (rules_of rules_in named_in s.hub) p.now n request.Front r u.hub u.stamps = steps_to told lasts stands rules_in named_in tells p.now n request.Front r s.hub u.hub s.stamps u.stamps step.step p.stands_now.hub p.stands_now.counts p.stands_now.stamps in
      let made : IsStepAt rules p.now n request.Front r to.now = subst (λ (x : Rules). IsStepAt x p.now n request.Front r to.now) p.same to.holds in
      let read : ReadsHub told lasts stands (outcome_of r) s.hub u.hub = front_reads told lasts stands rules_in named_in n r s.hub u.hub s.stamps u.stamps step.step in
      let calm : ReadsHub told lasts stands Answered s.hub u.hub = reads_as told lasts stands rules s.hub u.hub (outcome_of r) Answered (λ counts. calm_step (counts_of s.hub.store) (counts_of u.hub.store) (outcome_of r) counts (step.step.unread refl) (step.step.unwritten refl)) refl read in
      record {
        all = record {
          now = to.now;
          stands_now = record {
            hub = to.hub;
            vote = writes_on _ p.now n request.Front r to.now to.holds p.stands_now.vote;
            within = within_on _ p.now n request.Front r to.now to.holds p.stands_now.vote p.stands_now.within;
            counts = to.counts;
            stamps = to.stamps;
          };
          same = rules_same rules_in named_in s.hub u.hub step.step.safe.resolver step.step.safe.refs ∙ p.same;
          clients = made.clients ∙ p.clients;
          fronts = told_more rules count m n p.now r to.now p.fronts made;
          kept = others_behind n h s.hub u.hub p.kept (others_step told lasts stands rules_in named_in tells n request.Front r s.hub u.hub s.stamps u.stamps step.step tt);
          server = front_same rules p.now n r to.now made ∙ p.server;
          quiet = quiet_on r s.trouble u.trouble p.quiet step.trouble (step.step.unread refl) (step.step.unwritten refl);
          reads = reads_then told lasts stands h s.hub u.hub Answered p.reads calm;
        };
        step = made;
      }

  -- ---- a registering

  -- some of two fronts
  pub record SomeFronts (u : HubEnd R F) : Type 0 where
    pub count : ℕ
    pub few : count ≤ 2
    pub all : Fronts count u

  -- both, of which the second is answered
  pub record BothFronts (u : HubEnd R F) : Type 0 where
    pub first : Reply
    pub between : HubEnd R F
    pub one : Fronts 1 between
    pub registers : IsStepAt rules m n request.Front first one.now
    pub front : ℕ
    pub news : News
    pub switches : ℕ
    pub all : Fronts 2 u
    pub syncs : IsStepAt rules one.now n request.Front (reply.Front front news switches) all.now

  abbrev pub Registered : Result ℕ Refusal → HubEnd R F → Type 0
  Registered (Ok front) u = BothFronts u
  Registered (Err r) u = SomeFronts u

  -- of the second: it wasn't made, or its answer was lost, or it is answered
  second_front : (first : Reply) (between : HubEnd R F) → (one : Fronts 1 between) → IsStepAt rules m n request.Front first one.now → (raw said : Result ℕ Refusal) (u : HubEnd R F) → MakesOne Steps request.Front calls.Sync count_answer between said u → IsAnsweredLike said raw → Registered raw u
  second_front first between one registers raw said u made like = by_made said u made raw like
    where
      answered : (r : Reply) (u : HubEnd R F) → (f : OneFront 1 r between u one) → (raw : Result ℕ Refusal) → IsAnsweredLike (count_answer (answer_given request.Front r)) raw → EndReply request.Front r → Registered raw u
      answered r u f (Err why) like fits = record { count = 2; few = omega arith; all = f.all }
      answered (reply.Front front news switches) u f (Ok front') like fits =
          record { first = first; between = between; one = one; registers = registers; front = front; news = news; switches = switches; all = f.all; syncs = f.step }
      answered (reply.Refused why) u f (Ok front') like fits = absurd (subst (λ (z : FarAnswer). IsAnsweredLike (count_answer z) (let e : Result ℕ Refusal = Ok front' in e)) (bare_sent asked.Other why fits) like)
      answered _ u f (Ok front') like fits = absurd fits

      by_made : (said : Result ℕ Refusal) (u : HubEnd R F) → MakesOne Steps request.Front calls.Sync count_answer between said u → (raw : Result ℕ Refusal) → IsAnsweredLike said raw → Registered raw u
      by_made _ _ (makes_unsent error is) (Ok front) like = absurd like
      by_made _ _ (makes_unsent error is) (Err why) like = record { count = 1; few = omega arith; all = one }
      by_made _ _ (makes_none r way) (Ok front) like = absurd like
      by_made _ _ (makes_none r way) (Err why) like = record { count = 1; few = omega arith; all = one }
      by_made _ _ (makes_lost r answer u way step) (Ok front) like = absurd like
      by_made _ _ (makes_lost r answer u way step) (Err why) like = record { count = 2; few = omega arith; all = (one_front 1 answer between u one step).all }
      by_made _ _ (makes_answered answer u step) raw like =
          let f : OneFront 1 answer between u one = one_front 1 answer between u one step in
          answered answer u f raw like (end_reply rules one.now n request.Front answer f.all.now tt f.step)

  first_front : (u : HubEnd R F) → MaySteps Steps request.Front start u → SomeFronts u
  first_front _ no_step = record { count = 0; few = omega arith; all = no_fronts }
  first_front _ (one_step r u step) = record { count = 1; few = omega arith; all = (one_front 0 r start u no_fronts step).all }

  pub registered : (raw : Result ℕ Refusal) (u : HubEnd R F) → RegisterSteps Steps start raw u → Registered raw u
  registered _ _ (unregistered error is) = record { count = 0; few = omega arith; all = no_fronts }
  registered _ _ (register_lost r u way steps) = first_front u steps
  registered _ _ (not_registered r answer u step is) = record { count = 1; few = omega arith; all = (one_front 0 answer start u no_fronts step).all }
  registered _ _ (registers_so tid answer between raw u step is made) =
      let f : OneFront 0 answer start between no_fronts = one_front 0 answer start between no_fronts step in
      second_front answer between f.all f.step raw made.0 u made.1 made.2

-- what a registering leaves, by the parts that the caller has
pub register_is : {S T : Type 0} (steps : ℕ → Request → Reply → S → S → Type 0) (machine : S → Machine) (n k : ℕ) (a b x y : S) (d e f g : DeskState) (old new was is : ClientState) (result : Result T Refusal)
    → n ≡ k → a ≡ x → b ≡ y → d ≡ f → e ≡ g → old ≡ was → new ≡ is → (IsNewcomer (machine a) n d old → RegisterLeaves (steps n) machine n a result new b e)
    → IsNewcomer (machine x) k f was → RegisterLeaves (steps k) machine k x result is y g
register_is {S} {T} steps machine n k a b x y d e f g old new was is result one two three four five six seven exact comes =
    let here : IsNewcomer (machine a) n d old =
    subst (λ (i : ℕ). IsNewcomer (machine a) i d old) (sym one)
    (subst (λ (s : S). IsNewcomer (machine s) k d old) (sym two)
    (subst (λ (i : DeskState). IsNewcomer (machine x) k i old) (sym four)
    (subst (λ (i : ClientState). IsNewcomer (machine x) k f i) (sym six) comes))) in
    subst (λ (i : ℕ). RegisterLeaves (steps i) machine i x result is y g) one
    (subst (λ (s : S). RegisterLeaves (steps n) machine n s result is y g) two
    (subst (λ (s : S). RegisterLeaves (steps n) machine n a result is s g) three
    (subst (λ (i : DeskState). RegisterLeaves (steps n) machine n a result is b i) five
    (subst (λ (i : ClientState). RegisterLeaves (steps n) machine n a result i b e) seven (exact here)))))

-- ---- what stands behind an opening

-- a machine that is whole, as the hub stands for it
same_machine : {R F : Type 0} (h : HubState R F) (m : Machine) → StandsForMachine h m → h.store.broken ≡ false → machine_at h ≡ m
same_machine h m stands whole = whole_same m (machine_at h) (known_at h m stands) (stands.failed ∙ whole)

-- the session that was just opened
get_last : (xs : List MachineSession) (x : MachineSession) → slice_get (xs ++ x ∷ []) (length xs) ≡ Some x
get_last [] x = refl
get_last (y ∷ xs) x = get_last xs x

last_told : (m : Machine) → told_of (length m.sessions) (with_session m).sessions ≡ length m.journal
last_told m = ap (λ (o : Option MachineSession). option_map_or (λ x. x.told) o 0) (get_last m.sessions (new_session m))

last_open : (m : Machine) → is_open_in (with_session m).sessions (length m.sessions) ≡ not m.failed
last_open m = ap (λ (o : Option MachineSession). option_map_or (λ x. x.is_open) o false) (get_last m.sessions (new_session m))

not_is : (b : Bool) → not b ≡ true → b ≡ false
not_is false is = refl
not_is true is = absurd cc

-- it is open where the hub says so, and so the store hasn't failed
pub last_whole : {R F : Type 0} (h : HubState R F) (m : Machine) (n : ℕ) → StandsForMachine h (with_session m) → n ≡ length m.sessions → true ≡ is_open_in (sessions_with h.store.broken h.sessions) n → h.store.broken ≡ false
last_whole h m n stands number is =
    let opened : is_open_in (with_session m).sessions (length m.sessions) ≡ true = ap (λ (xs : List MachineSession). is_open_in xs (length m.sessions)) stands.sessions ∙ ap (λ (k : ℕ). is_open_in (sessions_with h.store.broken h.sessions) k) (sym number) ∙ sym is in
    sym stands.failed ∙ not_is m.failed (sym (last_open m) ∙ opened)

-- who joins there is new
pub joins_new : {R F : Type 0} (h : HubState R F) (m : Machine) (n capacity : ℕ) → StandsForMachine h (with_session m) → IsSoundMachine m → n ≡ length m.sessions → h.store.broken ≡ false → ((v : MachineVote) → m.vote ≡ Some v → v.session ≡ n → ⊥)
    → IsNewcomer (machine_at h) n new_desk (new_client capacity)
joins_new h m n capacity stands sound number whole free =
    let same : machine_at h ≡ with_session m = same_machine h (with_session m) stands whole in
    subst (λ (k : Machine). IsNewcomer k n new_desk (new_client capacity)) (sym same) (record {
      whole = stands.failed ∙ whole;
      sound = opened_sound m sound;
      told = ap (λ (k : ℕ). told_of k (with_session m).sessions) number ∙ last_told m;
      free = free;
      early = refl;
      empty = refl;
      known = refl;
      end = tt;
      reading = λ going. refl;
    })

-- ---- what it does to the hub

-- what went wrong, as it is answered
joined_counts : (before now : FaultCounts) (raw : Result ℕ Refusal) (t : Trouble) → IsMovedBy before now t → IsCountedBy before now (outcome_of_result (joined_as raw t))
joined_counts before now (Ok front) trouble.NoFault moved = moved
joined_counts before now (Err why) trouble.NoFault moved = moved
joined_counts before now raw trouble.ReadFault moved = moved
joined_counts before now raw trouble.StoreFault moved = moved

joined_failed : (raw : Result ℕ Refusal) (t : Trouble) → is_store_failed (outcome_of_result (joined_as raw t)) ≡ is_store_fault t
joined_failed (Ok front) trouble.NoFault = refl
joined_failed (Err why) trouble.NoFault = refl
joined_failed raw trouble.ReadFault = refl
joined_failed raw trouble.StoreFault = refl

-- what is answered where the fronts were quiet
quiet_joined : (raw : Result ℕ Refusal) (t : Trouble) → t ≡ trouble.NoFault → joined_as raw t ≡ joined_as raw trouble.NoFault
quiet_joined raw t is = ap (joined_as raw) is

-- ---- the moment behind it

rise_wider : (low a b : ℕ) (cs : List seen.Client) → a ≤ b → RiseBelow low a cs → RiseBelow low b cs
rise_wider low a b [] up rise = tt
rise_wider low a b (c ∷ cs) up rise = let below = rise.1 in (rise.0, omega (arith, below, up), rise_wider (c.session + 1) a b cs up rise.2)

-- a step, whoever is there
with_clients : (rules : Rules) (a : Moment) (n : ℕ) (q : Request) (r : Reply) (b : Moment) (cs : List seen.Client) → IsStepAt rules a n q r b → IsStepAt rules (record a { clients = cs }) n q r (record b { clients = cs })
with_clients rules a n q r b cs step = record { stamp = step.stamp; ticks = step.ticks; made = step.made; counts = step.counts; clock = step.clock; clients = refl }

module _ {R F : Type 0} (told lasts : Type 0) (stands : List ℕ → List Transaction → Type 0) (rules_in : R → MergeRules) (named_in : F → List ℕ → Option (List ℕ)) (tells : told) (m : Moment) (name : List ℕ) (n : ℕ) (old : ClientsState R F) (h : HubState R F) (before : Option (List Stamp)) (stood : StandsForMoment old before m) (number : n ≡ length old.hub.sessions) (room : length old.hub.sessions < 64)
    (opens : (k : Machine) → StandsForMachine old.hub k → StandsForMachine h (with_session k)) (store : h.store ≡ old.hub.store) (resolver : h.resolver ≡ old.hub.resolver) (refs : h.refs ≡ old.hub.refs) where
  abbrev pub behind : Moment
  behind = record { machine = with_session m.machine; clients = m.clients; stamps = m.stamps; counts = m.counts }

  abbrev Ruled : Rules
  Ruled = rules_of rules_in named_in old.hub

  all_are : length m.machine.sessions ≡ length old.hub.sessions
  all_are = sessions_of old.hub m.machine stood.hub

  pub its_number : n ≡ length m.machine.sessions
  its_number = number ∙ sym all_are

  o : Opens m old.hub h
  o = session_opens m old.hub h stood.hub stood.vote stood.within opens store

  pub stands_behind : StandsForHub h before behind
  stands_behind = record { hub = o.stood; vote = stood.vote; within = stood.within; counts = stood.counts ∙ ap counts_of (sym store); stamps = stood.stamps }

  same_rules : rules_of rules_in named_in h ≡ Ruled
  same_rules = rules_same rules_in named_in old.hub h resolver refs

  is_room : nat_lt (length m.machine.sessions) 64 ≡ true
  is_room = lt-ltb (length m.machine.sessions) 64 (let all = all_are in omega (arith, all, room))

  sound_behind : IsSoundMoment behind
  sound_behind = record { machine = opened_sound m.machine stood.sound.machine; formed = stood.sound.formed; known = stood.sound.known }

  -- as many sessions as there are behind it
  count_at : (u : HubState R F) (k : Machine) → StandsForMachine u k → length u.sessions ≡ length h.sessions → length k.sessions ≡ length m.machine.sessions + 1
  count_at u k is same = sessions_of u k is ∙ same ∙ sym (sessions_of h (with_session m.machine) o.stood) ∙ one_more m.machine.sessions (new_session m.machine)

  -- who was there before
  kept_at_end : (u : HubState R F) → KeepsOthers n h u → AreClientsOf u old.clients m.clients
  kept_at_end u keeps =
      let up : length m.machine.sessions ≤ length old.hub.sessions = let all = all_are in omega (arith, all) in
      let up_n : length m.machine.sessions ≤ n = let is = its_number in omega (arith, is) in
      none_kept n h u (others_kept n h u keeps) 0 (length m.machine.sessions) old.clients m.clients up_n stood.apart
      (none_kept (length old.hub.sessions) old.hub h o.kept 0 (length m.machine.sessions) old.clients m.clients up stood.apart stood.clients)

  abbrev Goal : Answer → ClientsState R F → Option (List Stamp) → Type 0
  Goal a new after = LeadsTo (OrCut (OrStarved (IsLinkOpening Ruled m name) m) (IsCutOpening Ruled m) a) new after

  -- the session is there, and no client has it
  pub link_cut : (new : ClientsState R F) (u : HubEnd R F) → new.hub ≡ u.hub → new.clients ≡ old.clients → SomeFronts told lasts stands rules_in named_in tells behind n h before stands_behind u → Goal (answer.Refused refusal.Memory) new u.stamps
  link_cut new u hub clients some =
      let p = some.all in
      let follows : Follows behind.machine p.now.machine = told_follows (rules_of rules_in named_in h) behind p.now n some.count sound_behind.machine p.fronts in
      let more : MovesOn behind p.now = machine_moves behind p.now sound_behind follows p.clients in
      let count : length p.now.machine.sessions ≡ length m.machine.sessions + 1 = count_at u.hub p.now.machine p.stands_now.hub p.kept.count in
      record {
        now = p.now;
        holds = inr (
          refl,
          record {
            room = let all = all_are in omega (arith, all, room);
            count = some.count;
            few = some.few;
            fronts = subst (λ (k : ℕ). IsTold Ruled some.count behind k p.now) its_number (subst (λ (x : Rules). IsTold x some.count behind n p.now) same_rules p.fronts);
          },
        );
        stands = subst (λ (z : HubState R F). StandsForMoment (record { hub = z; clients = new.clients }) u.stamps p.now) (sym hub) (subst (λ (xs : List Member). StandsForMoment (record { hub = u.hub; clients = xs }) u.stamps p.now) (sym clients) (record {
          hub = p.stands_now.hub;
          vote = p.stands_now.vote;
          within = p.stands_now.within;
          clients = subst (λ (cs : List seen.Client). AreClientsOf u.hub old.clients cs) (sym p.clients) (kept_at_end u.hub p.kept);
          apart = subst (RiseBelow 0 (length p.now.machine.sessions)) (sym p.clients) (rise_wider 0 (length m.machine.sessions) (length p.now.machine.sessions) m.clients (omega (arith, count)) stood.apart);
          sound = more.sound;
          counts = p.stands_now.counts;
          stamps = p.stands_now.stamps;
        }));
      }

  -- ---- the client has it

  abbrev known : View
  known = view_of (server_of m.machine)

  abbrev d : seen.Client
  d = record { name = name; session = length m.machine.sessions; transaction = None; standing = seen.Linked known }

  abbrev joined : Moment
  joined = record { machine = with_session m.machine; clients = m.clients ++ d ∷ []; stamps = m.stamps; counts = m.counts }

  opened_is : opened_far m name ≡ opened_if true m name (seen.Linked known)
  opened_is = ap (λ (b : Bool). opened_if b m name (seen.Linked known)) is_room

  sound_joined : IsSoundMoment joined
  sound_joined = subst (λ (z : Opening). IsSoundMoment z.moment) opened_is (opened_moves m name (seen.Linked known) stood.sound (λ v is. by_view v (same_view known v is)) is_room)
    where
      by_view : (v : View) → known ≡ v → v.front ≤ front_of m.machine.list
      by_view v is = let same : known.front ≡ v.front = ap (λ (z : View). z.front) is in omega (arith, same)

  pub link_joins : (new : ClientsState R F) (u : HubEnd R F) (x : LinkedClient) → new.hub ≡ u.hub → new.clients ≡ old.clients ++ far x ∷ [] → x.name ≡ name → x.session ≡ n → ((v : views.Client) → ((oid : ℕ) → v.voted oid ≡ false) → Between x.connection v) → work_of x.connection ≡ Err refusal.NoTransaction
      → h.store.broken ≡ false → Stands (machine_at u.hub) n x.desk x.client (fresh_client (machine_at u.hub)) → BothFronts told lasts stands rules_in named_in tells behind n h before stands_behind u → Goal (answer.Opened n) new u.stamps
  link_joins new u x hub clients named numbered between none whole there both =
      let p = both.all in
      let cs : List seen.Client = m.clients ++ d ∷ [] in
      let now : Moment = record { machine = p.now.machine; clients = cs; stamps = p.now.stamps; counts = p.now.counts } in
      let mid : Moment = record { machine = both.one.now.machine; clients = cs; stamps = both.one.now.stamps; counts = both.one.now.counts } in
      let second : Reply = reply.Front both.front both.news both.switches in
      let one : IsStepAt Ruled joined n request.Front both.first mid = with_clients Ruled behind n request.Front both.first both.one.now cs (subst (λ (z : Rules). IsStepAt z behind n request.Front both.first both.one.now) same_rules both.registers) in
      let two : IsStepAt Ruled mid n request.Front second now = with_clients Ruled both.one.now n request.Front second p.now cs (subst (λ (z : Rules). IsStepAt z both.one.now n request.Front second p.now) same_rules both.syncs) in
      let sound_mid : IsSoundMoment mid = (step_moves Ruled joined n request.Front both.first mid sound_joined tt one).sound in
      let sound_now : IsSoundMoment now = (step_moves Ruled mid n request.Front second now sound_mid tt two).sound in
      let count : length p.now.machine.sessions ≡ length m.machine.sessions + 1 = count_at u.hub p.now.machine p.stands_now.hub p.kept.count in
      let still : u.hub.store.broken ≡ false = p.reads.keeps.broken whole in
      let same : machine_at u.hub ≡ p.now.machine = same_machine u.hub p.now.machine p.stands_now.hub still in
      let fresh : view_at (machine_at u.hub) ≡ known = ap view_at same ∙ ap view_of p.server in
      record {
        now = now;
        holds = inl (inl (subst (λ (b : Bool). IsFarOpening Ruled m name b (answer.Opened n) now) (sym is_room) (record {
          first = both.first;
          between = mid;
          registers = subst (λ (z : Opening). IsStepAt Ruled z.moment (length m.machine.sessions) request.Front both.first mid) (sym opened_is) (subst (λ (k : ℕ). IsStepAt Ruled joined k request.Front both.first mid) its_number one);
          second = second;
          syncs = subst (λ (k : ℕ). IsStepAt Ruled mid k request.Front second now) its_number two;
          answer = ap (λ (k : ℕ). answer.Opened k) its_number ∙ sym (ap (λ (z : Opening). z.answer) opened_is);
        })));
        stands = subst (λ (z : HubState R F). StandsForMoment (record { hub = z; clients = new.clients }) u.stamps now) (sym hub) (subst (λ (xs : List Member). StandsForMoment (record { hub = u.hub; clients = xs }) u.stamps now) (sym clients) (record {
          hub = p.stands_now.hub;
          vote = p.stands_now.vote;
          within = p.stands_now.within;
          clients = push_at u.hub old.clients m.clients (far x) d (kept_at_end u.hub p.kept) (record {
            name = sym named;
            session = sym its_number ∙ sym numbered;
            told = fresh_client (machine_at u.hub);
            linked = ap (λ (v : View). seen.Linked v) (sym fresh);
            stands = subst (λ (k : ℕ). Stands (machine_at u.hub) k x.desk x.client (fresh_client (machine_at u.hub))) (sym numbered) there;
            transaction = subst (λ (w : Result Work Refusal). IsLinkedOpen x.connection (fresh_client (machine_at u.hub)) w None) (sym none) (refl, between (fresh_client (machine_at u.hub)) (λ oid. refl));
          });
          apart = subst (λ (k : ℕ). RiseBelow 0 k cs) (sym count) (rise_more 0 (length m.machine.sessions) m.clients d (omega arith) refl stood.apart);
          sound = sound_now;
          counts = p.stands_now.counts;
          stamps = p.stands_now.stamps;
        }));
      }

-- ---- what comes of a registering

some_raw : (raw : Result ℕ Refusal) (t : Trouble) → joined_as raw t ≡ Ok tt → (front : ℕ) × (raw ≡ Ok front)
some_raw (Ok front) trouble.NoFault is = (front, refl)
some_raw (Err why) trouble.NoFault is = absurd cc
some_raw raw trouble.ReadFault is = absurd cc
some_raw raw trouble.StoreFault is = absurd cc

module _ {R F : Type 0} (told lasts : Type 0) (stands : List ℕ → List Transaction → Type 0) (rules_in : R → MergeRules) (named_in : F → List ℕ → Option (List ℕ)) (m : Moment) (name : List ℕ) (n capacity : ℕ) (old : ClientsState R F) (h g : HubState R F) (before after : Option (List Stamp)) (stood : StandsForMoment old before m) (number : n ≡ length old.hub.sessions) (room : length old.hub.sessions < 64)
    (opens : (k : Machine) → StandsForMachine old.hub k → StandsForMachine h (with_session k)) (store : h.store ≡ old.hub.store) (resolver : h.resolver ≡ old.hub.resolver) (refs : h.refs ≡ old.hub.refs) (whole : h.store.broken ≡ false) (free : (v : HubVote) → h.vote ≡ Some v → v.session ≡ n → ⊥)
    (left : DeskState) (end : ClientState) (result : Result (Unit {0}) Refusal) (joins : IsJoined told lasts stands rules_in named_in n h g before after new_desk (new_client capacity) left end result) where
  abbrev finish : HubEnd R F
  finish = end_at g after false joins.wrong

  free_vote : (v : MachineVote) → m.machine.vote ≡ Some v → v.session ≡ n → ⊥
  free_vote v is mine = by_vote h.vote refl (sym ((opens m.machine stood.hub).vote whole) ∙ is)
    where
      by_vote : (o : Option HubVote) → h.vote ≡ o → option_map (vote_of_hub h.store.voted) o ≡ Some v → ⊥
      by_vote None there is = absurd cc
      by_vote (Some w) there is = free w there (ap (λ (x : MachineVote). x.session) (same (vote_of_hub h.store.voted w) v is) ∙ mine)
        where
          same : (a b : MachineVote) → Some a ≡ Some b → a ≡ b
          same a b e = cc

  made : (tells : told) → RegisterLeaves (λ q r s t. StepsThere told lasts stands rules_in named_in n q r s t) (λ (e : HubEnd R F). machine_at e.hub) n (end_at h before false trouble.NoFault) joins.raw end finish left
  made tells = joins.exact tells (joins_new h m.machine n capacity (opens m.machine stood.hub) stood.sound.machine (its_number told lasts stands rules_in named_in tells m name n old h before stood number room opens store resolver refs) whole free_vote)

  abbrev Behind : Moment
  Behind = record { machine = with_session m.machine; clients = m.clients; stamps = m.stamps; counts = m.counts }

  Come : told → Result ℕ Refusal → Type 0
  Come tells raw = Registered told lasts stands rules_in named_in tells Behind n h before (stands_behind told lasts stands rules_in named_in tells m name n old h before stood number room opens store resolver refs) raw finish

  come : (tells : told) → Come tells joins.raw
  unfolding Come
  come tells = registered told lasts stands rules_in named_in tells Behind n h before (stands_behind told lasts stands rules_in named_in tells m name n old h before stood number room opens store resolver refs) joins.raw finish (made tells).1

  pub end_joins : (new : ClientsState R F) (x : LinkedClient) → told → new.hub ≡ g → new.clients ≡ old.clients ++ far x ∷ [] → x.name ≡ name → x.session ≡ n → x.desk ≡ left → x.client ≡ end → ((v : views.Client) → ((oid : ℕ) → v.voted oid ≡ false) → Between x.connection v)
      → work_of x.connection ≡ Err refusal.NoTransaction → result ≡ Ok tt → LeadsTo (OrCut (OrStarved (IsLinkOpening (rules_of rules_in named_in old.hub) m name) m) (IsCutOpening (rules_of rules_in named_in old.hub) m) (answer.Opened n)) new after
  unfolding Come
  end_joins new x tells hub clients named numbered desk client between none ok =
      let raw = some_raw joins.raw joins.wrong (sym joins.answer ∙ ok) in
      let there : Stands (machine_at g) n left end (fresh_client (machine_at g)) = subst (λ (z : Result ℕ Refusal). OnOk z (Stands (machine_at g) n left end (fresh_client (machine_at g)))) raw.1 (made tells).0 in
      link_joins told lasts stands rules_in named_in tells m name n old h before stood number room opens store resolver refs new finish x hub clients named numbered between none whole
      (subst (λ (z : DeskState). Stands (machine_at g) n z x.client (fresh_client (machine_at g))) (sym desk) (subst (λ (z : ClientState). Stands (machine_at g) n left z (fresh_client (machine_at g))) (sym client) there))
      (subst (Come tells) raw.1 (come tells))

  quiet_of : (tells : told) (raw : Result ℕ Refusal) → Come tells raw → joins.wrong ≡ trouble.NoFault
  unfolding Come
  quiet_of tells (Ok front) both = both.all.quiet
  quiet_of tells (Err why) some = some.all.quiet

  by_raw : (tells : told) (raw : Result ℕ Refusal) (why : Refusal) (new : ClientsState R F) → new.hub ≡ g → new.clients ≡ old.clients → Come tells raw → joined_as raw trouble.NoFault ≡ Err why
      → LeadsTo (OrCut (OrStarved (IsLinkOpening (rules_of rules_in named_in old.hub) m name) m) (IsCutOpening (rules_of rules_in named_in old.hub) m) (answer.Refused why)) new after
  unfolding Come
  by_raw tells (Ok front) why new hub clients both is = absurd cc
  by_raw tells (Err r) why new hub clients some is =
      subst (λ (z : Refusal). LeadsTo (OrCut (OrStarved (IsLinkOpening (rules_of rules_in named_in old.hub) m name) m) (IsCutOpening (rules_of rules_in named_in old.hub) m) (answer.Refused z)) new after) (same refusal.Memory why is)
      (link_cut told lasts stands rules_in named_in tells m name n old h before stood number room opens store resolver refs new finish hub clients some)
    where
      same : (a b : Refusal) → (let e : Result (Unit {0}) Refusal = Err a in e) ≡ Err b → a ≡ b
      same a b e = cc

  pub end_cut : (why : Refusal) (new : ClientsState R F) → told → new.hub ≡ g → new.clients ≡ old.clients → result ≡ Err why
      → LeadsTo (OrCut (OrStarved (IsLinkOpening (rules_of rules_in named_in old.hub) m name) m) (IsCutOpening (rules_of rules_in named_in old.hub) m) (answer.Refused why)) new after
  end_cut why new tells hub clients is =
      by_raw tells joins.raw why new hub clients (come tells) (sym (ap (joined_as joins.raw) (quiet_of tells joins.raw (come tells))) ∙ sym joins.answer ∙ is)

  -- what its hub has seen
  pub end_moments : told → lasts → (k : Machine) → StandsForMachine old.hub k → Leaves Main (λ bytes. stands bytes k.list) old.hub.store.log → LeavesOnly Main (λ bytes. stands bytes k.list) old.hub.store.log g.store.log
  unfolding Come
  end_moments tells on k is leaves =
      subst (λ (s : StoreState). Leaves Main (λ bytes. stands bytes k.list) s.log → LeavesOnly Main (λ bytes. stands bytes k.list) s.log g.store.log) store (λ seen. by_raw_of joins.raw (come tells) seen) leaves
    where
      by_raw_of : (raw : Result ℕ Refusal) → Come tells raw → Leaves Main (λ bytes. stands bytes k.list) h.store.log → LeavesOnly Main (λ bytes. stands bytes k.list) h.store.log g.store.log
      by_raw_of (Ok front) both seen = both.all.reads.keeps.moments on tells whole (with_session k) (opens k is) seen
      by_raw_of (Err why) some seen = some.all.reads.keeps.moments on tells whole (with_session k) (opens k is) seen

-- what an opening over a link does to the hub
pub joined_hub : {R F : Type 0} (told lasts : Type 0) (stands : List ℕ → List Transaction → Type 0) (rules_in : R → MergeRules) (named_in : F → List ℕ → Option (List ℕ)) (n : ℕ) (old h g : HubState R F) (before after : Option (List Stamp)) (desk left : DeskState) (client end : ClientState) (result : Result (Unit {0}) Refusal) (more : Type 0)
    → h.store ≡ old.store → h.resolver ≡ old.resolver → h.refs ≡ old.refs → h.store.broken ≡ false → IsJoined told lasts stands rules_in named_in n h g before after desk client left end result
    → (lasts → more → (k : Machine) → StandsForMachine old k → Leaves Main (λ bytes. stands bytes k.list) old.store.log → LeavesOnly Main (λ bytes. stands bytes k.list) old.store.log g.store.log)
    → KeepsHub more lasts stands false (λ k bytes. stands bytes k.list) (outcome_of_result result) old g
joined_hub told lasts stands rules_in named_in n old h g before after desk left client end result more store resolver refs whole joins moments = record {
  resolver = joins.later.resolver ∙ resolver;
  refs = joins.later.refs ∙ refs;
  later = subst (λ (s : StoreState). AreLaterCounts (counts_of s) (counts_of g.store)) store joins.later.later;
  cause = subst (λ (s : StoreState). IsCountedBy (counts_of s) (counts_of g.store) (outcome_of_result result)) store
      (subst (λ (z : Result (Unit {0}) Refusal). IsCountedBy (counts_of h.store) (counts_of g.store) (outcome_of_result z)) (sym joins.answer) (joined_counts (counts_of h.store) (counts_of g.store) joins.raw joins.wrong (joins.later.counts (counts_of h.store) refl)));
  broken = λ is. joins.later.broken whole ∙ sym (ap (λ (z : Result (Unit {0}) Refusal). is_store_failed (outcome_of_result z)) joins.answer ∙ joined_failed joins.raw joins.wrong);
  side = λ on packs. subst (λ (s : StoreState). StaysAs Side s.log g.store.log) store (joins.later.side on refl);
  moments = λ on tells is k there leaves. moments on tells k there leaves;
}

-- ---- the vote

-- a session that doesn't hold it: another one does, or none
pub none_held : (n other : ℕ) (vote : Option HubVote) → (other ≡ n → ⊥) → is_held_by_another n vote ≡ true ⊎ (is_held_by_another other vote ≡ false) → (v : HubVote) → vote ≡ Some v → v.session ≡ n → ⊥
none_held n other None apart held v is mine = absurd cc
none_held n other (Some w) apart held v is mine = by_either held
  where
    same : (a b : HubVote) → Some a ≡ Some b → a ≡ b
    same a b e = cc

    its : w.session ≡ n
    its = ap (λ (x : HubVote). x.session) (same w v is) ∙ mine

    by_either : not (w.session == n) ≡ true ⊎ (not (w.session == other) ≡ false) → ⊥
    by_either (inl another) = true≢false (sym another ∙ ap not (eqb-same w.session n its))
    by_either (inr none) = apart (sym (eqb-true w.session other (not_false (w.session == other) none)) ∙ its)
      where
        not_false : (b : Bool) → not b ≡ false → b ≡ true
        not_false true is = refl
        not_false false is = absurd cc

-- ---- an opening over a link

-- a hub to which just a session was added does nothing more
pub unjoined_leads : {R F : Type 0} (told lasts : Type 0) (stands : List ℕ → List Transaction → Type 0) (rules_in : R → MergeRules) (named_in : F → List ℕ → Option (List ℕ)) (tells : told) (m : Moment) (name : List ℕ) (n : ℕ) (old new : ClientsState R F) (h : HubState R F) (before : Option (List Stamp)) → StandsForMoment old before m
    → n ≡ length old.hub.sessions → length old.hub.sessions < 64 → ((k : Machine) → StandsForMachine old.hub k → StandsForMachine h (with_session k)) → h.store ≡ old.hub.store → h.resolver ≡ old.hub.resolver → h.refs ≡ old.hub.refs → new.hub ≡ h → new.clients ≡ old.clients
    → LeadsTo (OrCut (OrStarved (IsLinkOpening (rules_of rules_in named_in old.hub) m name) m) (IsCutOpening (rules_of rules_in named_in old.hub) m) (answer.Refused refusal.Memory)) new before
unjoined_leads told lasts stands rules_in named_in tells m name n old new h before stood number room opens store resolver refs hub clients =
    let behind = stands_behind told lasts stands rules_in named_in tells m name n old h before stood number room opens store resolver refs in
    link_cut told lasts stands rules_in named_in tells m name n old h before stood number room opens store resolver refs new (end_at h before false trouble.NoFault) hub clients
    (record { count = 0; few = omega arith; all = no_fronts told lasts stands rules_in named_in tells (record { machine = with_session m.machine; clients = m.clients; stamps = m.stamps; counts = m.counts }) n h before behind })

module _ {R F : Type 0} (told lasts : Type 0) (stands : List ℕ → List Transaction → Type 0) (rules_in : R → MergeRules) (named_in : F → List ℕ → Option (List ℕ)) (name : List ℕ) (capacity : ℕ) (old mid new : ClientsState R F) (before after : Option (List Stamp)) (x : LinkedClient) (number : x.session ≡ length old.hub.sessions) (room : length old.hub.sessions < 64)
    (opens : (k : Machine) → StandsForMachine old.hub k → StandsForMachine mid.hub (with_session k)) (store : mid.hub.store ≡ old.hub.store) (resolver : mid.hub.resolver ≡ old.hub.resolver) (refs : mid.hub.refs ≡ old.hub.refs) (whole : mid.hub.store.broken ≡ false) (free : (v : HubVote) → mid.hub.vote ≡ Some v → v.session ≡ x.session → ⊥)
    (clients : mid.clients ≡ old.clients) (desk : x.desk ≡ new_desk) (client : x.client ≡ new_client capacity) (a : Answer) (joins : IsJoining told lasts stands rules_in named_in x mid new before after a) where
  newly : IsJoined told lasts stands rules_in named_in x.session mid.hub new.hub before after new_desk (new_client capacity) joins.left.desk joins.left.client joins.said
  newly =
      subst (λ (z : DeskState). IsJoined told lasts stands rules_in named_in x.session mid.hub new.hub before after z (new_client capacity) joins.left.desk joins.left.client joins.said) desk
      (subst (λ (z : ClientState). IsJoined told lasts stands rules_in named_in x.session mid.hub new.hub before after x.desk z joins.left.desk joins.left.client joins.said) client joins.joins)

  pub joining_leads : told → (m : Moment) → StandsForMoment old before m → x.name ≡ name → ((v : views.Client) → ((oid : ℕ) → v.voted oid ≡ false) → Between x.connection v) → work_of x.connection ≡ Err refusal.NoTransaction
      → LeadsTo (OrCut (OrStarved (IsLinkOpening (rules_of rules_in named_in old.hub) m name) m) (IsCutOpening (rules_of rules_in named_in old.hub) m) a) new after
  joining_leads tells m stood named between none = by_said joins.said refl
    where
      by_said : (r : Result (Unit {0}) Refusal) → joins.said ≡ r → LeadsTo (OrCut (OrStarved (IsLinkOpening (rules_of rules_in named_in old.hub) m name) m) (IsCutOpening (rules_of rules_in named_in old.hub) m) a) new after
      by_said (Ok y) is =
          subst (λ (z : Answer). LeadsTo (OrCut (OrStarved (IsLinkOpening (rules_of rules_in named_in old.hub) m name) m) (IsCutOpening (rules_of rules_in named_in old.hub) m) z) new after) (sym (joins.answer ∙ ap (joining_answer x.session) is))
          (end_joins told lasts stands rules_in named_in m name x.session capacity old mid.hub new.hub before after stood number room opens store resolver refs whole free joins.left.desk joins.left.client joins.said newly new joins.left tells refl
          (joins.clients ∙ ap (joining_clients mid.clients joins.left) is ∙ ap (λ (xs : List Member). xs ++ far joins.left ∷ []) clients) (joins.name ∙ named) joins.session refl refl
          (λ v voted. subst (λ (k : Connection). Between k v) (sym joins.connection) (between v voted)) (ap work_of joins.connection ∙ none) is)
      by_said (Err why) is =
          subst (λ (z : Answer). LeadsTo (OrCut (OrStarved (IsLinkOpening (rules_of rules_in named_in old.hub) m name) m) (IsCutOpening (rules_of rules_in named_in old.hub) m) z) new after) (sym (joins.answer ∙ ap (joining_answer x.session) is))
          (end_cut told lasts stands rules_in named_in m name x.session capacity old mid.hub new.hub before after stood number room opens store resolver refs whole free joins.left.desk joins.left.client joins.said newly why new tells refl
          (joins.clients ∙ ap (joining_clients mid.clients joins.left) is ∙ clients) is)

  joining_outcome : (r : Result (Unit {0}) Refusal) → outcome_of_answer (joining_answer x.session r) ≡ outcome_of_result r
  joining_outcome (Ok y) = refl
  joining_outcome (Err why) = refl

  pub joining_hub : KeepsHub (told × MayStandFor old before) lasts stands false (λ k bytes. stands bytes k.list) (outcome_of_answer a) old.hub new.hub
  joining_hub =
      subst (λ (z : StepOutcome). KeepsHub (told × MayStandFor old before) lasts stands false (λ k bytes. stands bytes k.list) z old.hub new.hub) (sym (ap outcome_of_answer joins.answer ∙ joining_outcome joins.said))
      (joined_hub told lasts stands rules_in named_in x.session old.hub mid.hub new.hub before after new_desk joins.left.desk (new_client capacity) joins.left.client joins.said (told × MayStandFor old before) store resolver refs whole newly
      (λ on both k is leaves. end_moments told lasts stands rules_in named_in both.1.0 name x.session capacity old mid.hub new.hub before after both.1.1 number room opens store resolver refs whole free joins.left.desk joins.left.client joins.said newly both.0 on k is leaves))

-- there were as many sessions as may be
pub too_many_far : {R F : Type 0} (rules : Rules) (all : ClientsState R F) (left : Option (List Stamp)) (m : Moment) (name : List ℕ) (count : ℕ) → StandsForMoment all left m → count ≡ 64 → length all.hub.sessions ≡ 64 → IsLinkOpening rules m name (answer.Refused (refusal.TooManySessions count)) m
too_many_far rules all left m name count stands full none =
    let n : length m.machine.sessions ≡ 64 = sessions_of all.hub m.machine stands.hub ∙ none in
    let never : nat_lt (length m.machine.sessions) 64 ≡ false = le-ltb (length m.machine.sessions) 64 (omega (arith, n)) in
    subst (λ (b : Bool). IsFarOpening rules m name b (answer.Refused (refusal.TooManySessions count)) m) (sym never)
    (ap (λ (k : ℕ). let o : Opening = record { answer = answer.Refused (refusal.TooManySessions k); moment = m } in o) (full ∙ sym n)
    ∙ sym (ap (λ (b : Bool). opened_if b m name (seen_linked m)) never))
  where
    seen_linked : Moment → seen.Standing
    seen_linked k = seen.Linked (view_of (server_of k.machine))

-- nothing was done
pub link_starved : {R F : Type 0} (rules : Rules) (all : ClientsState R F) (left : Option (List Stamp)) (m : Moment) (name : List ℕ) → StandsForMoment all left m → LeadsTo (OrCut (OrStarved (IsLinkOpening rules m name) m) (IsCutOpening rules m) (answer.Refused refusal.Memory)) all left
link_starved rules all left m name stands = record { now = m; holds = inl (inr (refl, refl)); stands = stands }

pub link_refused : {R F : Type 0} (rules : Rules) (old new : ClientsState R F) (left : Option (List Stamp)) (m : Moment) (name : List ℕ) (count : ℕ) → StandsForMoment old left m → new ≡ old → count ≡ 64 → length old.hub.sessions ≡ 64
    → LeadsTo (OrCut (OrStarved (IsLinkOpening rules m name) m) (IsCutOpening rules m) (answer.Refused (refusal.TooManySessions count))) new left
link_refused {R} {F} rules old new left m name count stands same full none =
    subst (λ (s : ClientsState R F). LeadsTo (OrCut (OrStarved (IsLinkOpening rules m name) m) (IsCutOpening rules m) (answer.Refused (refusal.TooManySessions count))) s left) (sym same)
    (record { now = m; holds = inl (inl (too_many_far rules old left m name count stands full none)); stands = stands })

-- the same, where nothing was done to either part
pub link_refused_by : {R F : Type 0} (rules : Rules) (old new : ClientsState R F) (left : Option (List Stamp)) (m : Moment) (name : List ℕ) (count : ℕ) → StandsForMoment old left m → new.hub ≡ old.hub → new.clients ≡ old.clients → count ≡ 64 → length old.hub.sessions ≡ 64
    → LeadsTo (OrCut (OrStarved (IsLinkOpening rules m name) m) (IsCutOpening rules m) (answer.Refused (refusal.TooManySessions count))) new left
link_refused_by {R} {F} rules old new left m name count stands hub clients full none = link_refused rules old new left m name count stands same full none
  where
    same : new ≡ old
    same = ap (λ (h : HubState R F). let s : ClientsState R F = record { hub = h; clients = new.clients } in s) hub ∙ ap (λ (xs : List Member). let s : ClientsState R F = record { hub = old.hub; clients = xs } in s) clients

-- and so where nothing was done to either part, for want of memory
pub link_starved_by : {R F : Type 0} (rules : Rules) (old new : ClientsState R F) (left : Option (List Stamp)) (m : Moment) (name : List ℕ) → StandsForMoment old left m → new.hub ≡ old.hub → new.clients ≡ old.clients
    → LeadsTo (OrCut (OrStarved (IsLinkOpening rules m name) m) (IsCutOpening rules m) (answer.Refused refusal.Memory)) new left
link_starved_by {R} {F} rules old new left m name stands hub clients =
    subst (λ (s : ClientsState R F). LeadsTo (OrCut (OrStarved (IsLinkOpening rules m name) m) (IsCutOpening rules m) (answer.Refused refusal.Memory)) s left) (sym same) (link_starved rules old left m name stands)
  where
    same : new ≡ old
    same = ap (λ (h : HubState R F). let s : ClientsState R F = record { hub = h; clients = new.clients } in s) hub ∙ ap (λ (xs : List Member). let s : ClientsState R F = record { hub = old.hub; clients = xs } in s) clients

-- no session was opened for it
pub link_unopened : {R F : Type 0} (rules : Rules) (old new : ClientsState R F) (left : Option (List Stamp)) (m : Moment) (name : List ℕ) (why : SessionRefusal) (a : Answer) → StandsForMoment old left m
    → MayRefuseSession (length old.hub.sessions) why → new.hub ≡ old.hub → new.clients ≡ old.clients → a ≡ unopened why
    → LeadsTo (OrCut (OrStarved (IsLinkOpening rules m name) m) (IsCutOpening rules m) a) new left
link_unopened {R} {F} rules old new left m name why a stands may hub clients is =
    subst (λ (z : Answer). LeadsTo (OrCut (OrStarved (IsLinkOpening rules m name) m) (IsCutOpening rules m) z) new left) (sym is) (by_why why may)
  where
    by_why : (w : SessionRefusal) → MayRefuseSession (length old.hub.sessions) w → LeadsTo (OrCut (OrStarved (IsLinkOpening rules m name) m) (IsCutOpening rules m) (unopened w)) new left
    by_why (session_refusal.TooManySessions n) full = link_refused_by rules old new left m name n stands hub clients full.0 full.1
    by_why session_refusal.StepsSpent never = absurd never
    by_why session_refusal.Memory none = link_starved_by rules old new left m name stands hub clients

-- and that is no fault
unopened_outcome : (why : SessionRefusal) → IsCalm (outcome_of_answer (unopened why))
unopened_outcome (session_refusal.TooManySessions n) = inl refl
unopened_outcome session_refusal.StepsSpent = inr refl
unopened_outcome session_refusal.Memory = inr refl

pub unopened_calm : (why : SessionRefusal) (a : Answer) → a ≡ unopened why → IsCalm (outcome_of_answer a)
unopened_calm why a is = subst (λ (z : Answer). IsCalm (outcome_of_answer z)) (sym is) (unopened_outcome why)
