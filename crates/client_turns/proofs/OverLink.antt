-- Lines of a client with a link that are one step, as it was made over the link.
use Rattle.std.proofs.Common.{◌≡◌, ◌⊎◌, ℕ, Bool, true, false, not, List, Option, Some, None, refl, sym, ap, subst, ◌∙◌, arith, inl, inr}
use Rattle.std.specs.Prelude.{slice_set}
use Rattle.std.specs.Option.{option_or}
use Rattle.zb_ids.specs.declared.stamp.Stamp.{Stamp}
use Rattle.zb_model.specs.declared.data.Transaction.{Transaction}
use Rattle.zb_model.specs.declared.refusal.Refusal.{Refusal}
use Rattle.zb_model.specs.declared.refusal.Refusal.TheVariants as refusal
use Rattle.zb_model.specs.Rules.{MergeRules}
use Rattle.zb_answers.specs.declared.answer.Answer.{Answer}
use Rattle.zb_answers.specs.declared.answer.Answer.TheVariants as answer
use Rattle.zb_script.specs.declared.line.Line.{Line}
use Rattle.zodb_core.specs.declared.reply.Reply.{Reply}
use Rattle.zodb_core.specs.declared.reply.Reply.TheVariants as reply
use Rattle.zodb_core.specs.declared.request.Request.{Request}
use Rattle.zodb_core.specs.HubState.{HubState, rules_of}
use Rattle.zodb_core.specs.Machine.{Machine, Rules}
use Rattle.zodb_core.specs.Outcomes.{Answered, NoMemory, ReadingFailed, StepOutcome, StoreFailed, outcome_of, outcome_of_refusal}
use Rattle.zodb_core.specs.Sound.{IsWellFormedRequest}
use Rattle.zodb_core.specs.Steps.{refuse_if}
use Rattle.connection_view.specs.Views.{View}
use Rattle.hub_carrier.specs.declared.trouble.Trouble.{Trouble}
use Rattle.hub_carrier.specs.declared.trouble.Trouble.TheVariants as trouble
use Rattle.hub_carrier.specs.Ends.{HubEnd, StepsThere, end_at, worse}
use Rattle.remote_loads.specs.Talking.{IsWayLost}
use Rattle.client_turns.specs.declared.linked.LinkedClient.{LinkedClient}
use Rattle.client_turns.specs.Clients.{Moment, changes_of, with_client}
use Rattle.client_turns.specs.declared.errors.TurnError.{TurnError}
use Rattle.client_turns.specs.declared.errors.TurnError.TheVariants as error
use Rattle.client_turns.specs.Clients as seen
use Rattle.client_turns.specs.Frames.{call_excess, reply_excess}
use Rattle.client_turns.specs.Lines.{answer_to, asking_excess, client_left, client_told, end_of, is_committed, is_delivery, known_behind, request_of, standing_behind, step_answer, unless_long}
use Rattle.client_turns.specs.Linked.{IsLinkedOf, LinkLeadsTo, LinkedEnds, LinkedLeadsTo, MayTakeLinked, StandsForHub}
use Rattle.client_turns.specs.Others.{KeepsOthers}
use Rattle.client_turns.specs.Refusing.{connection_refusal, line_refusal}
use Rattle.client_turns.specs.Settling.{settled}
use Rattle.client_turns.specs.Standing.{IsLineOpen}
use Rattle.client_turns.specs.Steps.{IsStepAt}
use Rattle.client_turns.specs.Turns.{IsCutAt, IsLineTaken, IsLineUnless, IsStepLine, IsStepUnless, IsTold, fronts_behind}
use Rattle.client_turns.proofs.Bare.{IsBare, calm_lost, fault_reply, settled_lost}
use Rattle.client_turns.proofs.Following.{asked_formed}
use Rattle.client_turns.proofs.One.{StepsTo, set_there, starved_open, steps_to, within_on, writes_on}
use Rattle.client_turns.proofs.Others.{others_same, others_step}

-- ---- a client with a link

linked_asks : (s : seen.Standing) (known : View) (q : Request) → s ≡ seen.Linked known → asking_excess s q ≡ call_excess q
linked_asks s known q is = ap (λ (z : seen.Standing). asking_excess z q) is

pub linked_answer : (s : seen.Standing) (known : View) (d : Bool) (r : Reply) → s ≡ seen.Linked known → reply_excess r ≡ None → step_answer s d r ≡ answer_to d r
linked_answer s known d r is fits = ap (λ (z : seen.Standing). step_answer z d r) is ∙ ap (λ (e : Option ℕ). unless_long e (answer_to d r)) fits

-- behind a reply that tells nothing new it stands as before
pub linked_stays : (m : Machine) (r : Reply) (d : seen.Client) (known : View) → d.standing ≡ seen.Linked known → known_behind m known r ≡ known → client_told m r d ≡ d
linked_stays m r d known is same =
    ap (λ (s : seen.Standing). let z : seen.Client = record { name = d.name; session = d.session; transaction = d.transaction; standing = s } in z)
    (ap (λ (s : seen.Standing). standing_behind m s r) is ∙ ap (λ (k : View). seen.Linked k) same ∙ sym is)

-- ---- one step

module _ {R F : Type 0} (told lasts : Type 0) (stands : List ℕ → List Transaction → Type 0) (rules_in : R → MergeRules) (named_in : F → List ℕ → Option (List ℕ)) (tells : told) (m : Moment) (at : ℕ) (x : LinkedClient) (c : seen.Client) (h : HubState R F) (before : Option (List Stamp)) (takes : MayTakeLinked h before m at x c) where
  abbrev pub rules : Rules
  rules = rules_of rules_in named_in h

  abbrev pub Steps : Request → Reply → HubEnd R F → HubEnd R F → Type 0
  Steps q r s u = StepsThere told lasts stands rules_in named_in x.session q r s u

  -- where it begins, whether or not steps of a pack may be made
  abbrev pub from : Bool → HubEnd R F
  from packs = end_at h before packs trouble.NoFault

  abbrev pub start : HubEnd R F
  start = from false

  abbrev pub To : Request → Reply → HubEnd R F → Type 0
  To q r u = StepsTo rules m x.session q r u.hub u.stamps

  pub step_to : {packs : Bool} (q : Request) (r : Reply) (u : HubEnd R F) → Steps q r (from packs) u → To q r u
  step_to q r u step = steps_to told lasts stands rules_in named_in tells m x.session q r h u.hub before u.stamps step.step takes.stands.hub takes.stands.counts takes.stands.stamps

  pub hub_behind : (q : Request) (r : Reply) (u : HubEnd R F) → (s : To q r u) → StandsForHub u.hub u.stamps s.now
  hub_behind q r u s = record {
    hub = s.hub;
    vote = writes_on _ m x.session q r s.now s.holds takes.stands.vote;
    within = within_on _ m x.session q r s.now s.holds takes.stands.vote takes.stands.within;
    counts = s.counts;
    stamps = s.stamps;
  }

  pub others_behind : {packs : Bool} (q : Request) (r : Reply) (u : HubEnd R F) → Steps q r (from packs) u → IsWellFormedRequest q → KeepsOthers c.session h u.hub
  others_behind q r u step formed =
      subst (λ (n : ℕ). KeepsOthers n h u.hub) (sym takes.client.session) (others_step told lasts stands rules_in named_in tells x.session q r h u.hub before u.stamps step.step formed)

  -- nothing was made, and there was no memory
  pub starved_here : (l : Line) (y : LinkedClient) (a : Answer) → a ≡ answer.Refused refusal.Memory → LinkedEnds (end_of a) rules m at c l a h h y before
  starved_here l y a is = subst (λ (z : Answer). LinkedEnds (end_of z) rules m at c l z h h y before) (sym is)
      (let ends : LinkLeadsTo (λ now. IsLineOpen rules m at c l (answer.Refused refusal.Memory) now ⊎ IsCutAt rules m c l now) m c.session h h before = record {
        now = m;
        holds = inl (starved_open rules m at c l (answer.Refused refusal.Memory) m refl refl);
        stands = takes.stands;
        clients = refl;
        others = others_same c.session h;
      } in ends)

  -- what it asks for is too long, and the client is as it was
  pub long_ends : (l : Line) (q : Request) (n : ℕ) → line_refusal (changes_of c) l ≡ None → request_of c.standing (changes_of c) l ≡ Some q → call_excess q ≡ Some n → (y : LinkedClient) (a : Answer) → a ≡ answer.Refused (refusal.TooLong n) → IsLinkedOf h y c
      → LinkedEnds (end_of a) rules m at c l a h h y before
  long_ends l q n free asks long y a is kept = subst (λ (z : Answer). LinkedEnds (end_of z) rules m at c l z h h y before) (sym is)
      (let ends : LinkedLeadsTo (IsLineOpen rules m at c l (answer.Refused (refusal.TooLong n))) m at c.session h h y before = record {
        now = m;
        holds = inl (subst (λ (o : Option Refusal). IsLineUnless rules m at c l o (answer.Refused (refusal.TooLong n)) m) (sym free) (subst (λ (o : Option Request). IsLineTaken rules m at c l o (answer.Refused (refusal.TooLong n)) m) (sym asks)
            (subst (λ (e : Option ℕ). IsStepUnless rules m at c (is_delivery l) q e (answer.Refused (refusal.TooLong n)) m) (sym (linked_asks c.standing takes.client.told.known q takes.client.linked ∙ long)) (refl, refl))));
        stands = let b = takes.stands in record { hub = b.hub; vote = b.vote; within = b.within; counts = b.counts; stamps = b.stamps };
        client = c;
        placed = set_there m.clients at c takes.there;
        is = kept;
        others = others_same c.session h;
      } in ends)

  -- ---- a line that its connection takes, and that is this step

  module _ (l : Line) (q : Request) (free : line_refusal (changes_of c) l ≡ None) (asks : request_of c.standing (changes_of c) l ≡ Some q) (short : call_excess q ≡ None) (y : LinkedClient) where
    formed : IsWellFormedRequest q
    formed = asked_formed c.standing (changes_of c) l q takes.formed asks

    abbrev pub Ends : Answer → HubEnd R F → Type 0
    Ends a u = LinkedEnds (end_of a) rules m at c l a h u.hub y u.stamps

    pub step_line_open : (known : View) → c.standing ≡ seen.Linked known → (a : Answer) (now : Moment) → IsStepLine rules m at c (is_delivery l) q a now → IsLineOpen rules m at c l a now
    step_line_open known linked a now line =
        inl (subst (λ (o : Option Refusal). IsLineUnless rules m at c l o a now) (sym free) (subst (λ (o : Option Request). IsLineTaken rules m at c l o a now) (sym asks)
        (subst (λ (e : Option ℕ). IsStepUnless rules m at c (is_delivery l) q e a now) (sym (linked_asks c.standing known q linked ∙ short)) line)))

    -- nothing was made, and there was no memory
    pub starved_ends : (a : Answer) → a ≡ answer.Refused refusal.Memory → Ends a start
    starved_ends a is = starved_here l y a is

    module _ {packs : Bool} (r : Reply) (u : HubEnd R F) (step : Steps q r (from packs) u) where
      abbrev pub s : To q r u
      s = step_to q r u step

      -- the line of a step that commits nothing
      pub alone_line : (a : Answer) (d : seen.Client) → is_committed r ≡ false → a ≡ step_answer c.standing (is_delivery l) r → d ≡ client_told s.now.machine r (client_left (is_delivery l) s.now.machine c r)
          → IsStepLine rules m at c (is_delivery l) q a (with_client s.now at d)
      alone_line a d uncommitted answers left = record {
        reply = r;
        behind = s.now;
        told = s.now;
        step = subst (λ (k : ℕ). IsStepAt rules m k q r s.now) (sym takes.client.session) s.holds;
        front = subst (λ (b : Bool). IsTold rules (fronts_behind b c.standing) s.now c.session s.now) (sym uncommitted) refl;
        answer = answers;
        left = ap (λ (z : seen.Client). with_client s.now at z) left;
      }

      pub answered_ends : (a : Answer) (d : seen.Client) → end_of a ≡ None → is_committed r ≡ false → a ≡ step_answer c.standing (is_delivery l) r → d ≡ client_told s.now.machine r (client_left (is_delivery l) s.now.machine c r)
          → IsLinkedOf u.hub y d → Ends a u
      answered_ends a d goes_on uncommitted answers left client =
          let ends : LinkedLeadsTo (IsLineOpen rules m at c l a) m at c.session h u.hub y u.stamps = record {
            now = with_client s.now at d;
            holds = step_line_open takes.client.told.known takes.client.linked a (with_client s.now at d) (alone_line a d uncommitted answers left);
            stands = let b = hub_behind q r u s in record { hub = b.hub; vote = b.vote; within = b.within; counts = b.counts; stamps = b.stamps };
            client = d;
            placed = ap (λ (cs : List seen.Client). slice_set cs at d) s.holds.clients;
            is = client;
            others = others_behind q r u step formed;
          } in
          subst (λ (e : _). LinkedEnds e rules m at c l a h u.hub y u.stamps) (sym goes_on) ends

      -- the client as it was
      same_left : (d : Bool) (w : Refusal) → r ≡ reply.Refused w → c ≡ client_told s.now.machine r (client_left d s.now.machine c r)
      same_left d w is =
          subst (λ (z : Reply). c ≡ client_told s.now.machine z (client_left d s.now.machine c z)) (sym is)
          (sym (linked_stays s.now.machine (reply.Refused w) (client_left d s.now.machine c (reply.Refused w)) takes.client.told.known (left_stands d ∙ takes.client.linked) refl ∙ left_is d))
        where
          left_is : (d : Bool) → client_left d s.now.machine c (reply.Refused w) ≡ c
          left_is false = refl
          left_is true = refl

          left_stands : (d : Bool) → (client_left d s.now.machine c (reply.Refused w)).standing ≡ c.standing
          left_stands false = refl
          left_stands true = refl

      refused_answer : (d : Bool) (w : Refusal) → r ≡ reply.Refused w → reply_excess (reply.Refused w) ≡ None → answer.Refused w ≡ step_answer c.standing d r
      refused_answer d w is fits = subst (λ (z : Reply). answer.Refused w ≡ step_answer c.standing d z) (sym is) (sym (linked_answer c.standing takes.client.told.known d (reply.Refused w) takes.client.linked fits ∙ answer_is d))
        where
          answer_is : (d : Bool) → answer_to d (reply.Refused w) ≡ answer.Refused w
          answer_is false = refl
          answer_is true = refl

      uncommitted : (w : Refusal) → r ≡ reply.Refused w → is_committed r ≡ false
      uncommitted w is = ap is_committed is

      same_clients : (with_client s.now at c).clients ≡ m.clients
      same_clients = ap (λ (cs : List seen.Client). slice_set cs at c) s.holds.clients ∙ sym (set_there m.clients at c takes.there)

      with_same : StandsForHub u.hub u.stamps (with_client s.now at c)
      with_same = let b = hub_behind q r u s in record { hub = b.hub; vote = b.vote; within = b.within; counts = b.counts; stamps = b.stamps }

      same_ends : (a : Answer) → IsLineOpen rules m at c l a (with_client s.now at c) → (end_of a ≡ None → IsLinkedOf u.hub y c) → Ends a u
      same_ends a holds client = by_end (end_of a) client
        where
          by_end : (e : Option TurnError) → (e ≡ None → IsLinkedOf u.hub y c) → LinkedEnds e rules m at c l a h u.hub y u.stamps
          by_end None client = let ends : LinkedLeadsTo (IsLineOpen rules m at c l a) m at c.session h u.hub y u.stamps = record {
            now = with_client s.now at c;
            holds = holds;
            stands = with_same;
            client = c;
            placed = ap (λ (cs : List seen.Client). slice_set cs at c) s.holds.clients;
            is = client refl;
            others = others_behind q r u step formed;
          } in ends
          by_end (Some error.StoreFault) client = let ends : LinkLeadsTo (IsLineOpen rules m at c l a) m c.session h u.hub u.stamps = record {
            now = with_client s.now at c;
            holds = holds;
            stands = with_same;
            clients = same_clients;
            others = others_behind q r u step formed;
          } in ends
          by_end (Some error.Memory) client = let ends : LinkLeadsTo (λ now. IsLineOpen rules m at c l a now ⊎ IsCutAt rules m c l now) m c.session h u.hub u.stamps = record {
            now = with_client s.now at c;
            holds = inl holds;
            stands = with_same;
            clients = same_clients;
            others = others_behind q r u step formed;
          } in ends

      -- it is answered, and the client is as it was
      pub told_ends : (a : Answer) → is_committed r ≡ false → a ≡ step_answer c.standing (is_delivery l) r → c ≡ client_told s.now.machine r (client_left (is_delivery l) s.now.machine c r) → (end_of a ≡ None → IsLinkedOf u.hub y c) → Ends a u
      told_ends a uncommitted answers left client =
          same_ends a (step_line_open takes.client.told.known takes.client.linked a (with_client s.now at c) (alone_line a c uncommitted answers left)) client

      -- the machine refused it
      pub refused_as : (a : Answer) (w : Refusal) → r ≡ reply.Refused w → a ≡ step_answer c.standing (is_delivery l) (reply.Refused w) → (end_of a ≡ None → IsLinkedOf u.hub y c) → Ends a u
      refused_as a w is answers client = told_ends a (uncommitted w is) (answers ∙ ap (λ (z : Reply). step_answer c.standing (is_delivery l) z) (sym is)) (same_left (is_delivery l) w is) client

      pub refused_ends : (a : Answer) (w : Refusal) → r ≡ reply.Refused w → a ≡ answer.Refused w → IsBare w → (end_of a ≡ None → IsLinkedOf u.hub y c) → Ends a u
      refused_ends a w is answers bare client = refused_as a w is (answers ∙ refused_answer (is_delivery l) w is (fits w bare) ∙ ap (λ (z : Reply). step_answer c.standing (is_delivery l) z) is) client
        where
          fits : (w : Refusal) → IsBare w → reply_excess (reply.Refused w) ≡ None
          fits refusal.NotOpen bare = refl
          fits refusal.NotVoted bare = refl
          fits refusal.ReadFault bare = refl
          fits refusal.StoreFault bare = refl
          fits refusal.Memory bare = refl
          fits _ bare = absurd bare

      -- its answer was lost
      pub lost_ends : (a : Answer) (way : Refusal) → IsWayLost way → a ≡ settled (answer.Refused way) u.trouble → (end_of a ≡ None → IsLinkedOf u.hub y c) → Ends a u
      lost_ends a way lost answers client = by_outcome (outcome_of r) refl
        where
          taken : connection_refusal m.machine c l ≡ None
          taken = ap (λ (b : Bool). option_or (refuse_if (not b) refusal.NotOpen) (line_refusal (changes_of c) l)) takes.may ∙ free

          cut : outcome_of r ≡ Answered → IsCutAt rules m c l s.now
          cut answered = record {
            known = takes.client.told.known;
            linked = takes.client.linked;
            taken = taken;
            request = q;
            asks = asks;
            cut = record {
              reply = r;
              behind = s.now;
              step = subst (λ (k : ℕ). IsStepAt rules m k q r s.now) (sym takes.client.session) s.holds;
              answered = answered;
              count = 0;
              few = omega arith;
              fronts = refl;
            };
          }

          failed : (outcome_of r ≡ Answered → ⊥) → Ends a u
          failed never =
              let f = fault_reply r never in
              let told_so : u.trouble ≡ worse trouble.NoFault (outcome_of_refusal f.0) = step.trouble ∙ ap (λ (z : Reply). worse trouble.NoFault (outcome_of z)) f.1 in
              refused_ends a f.0 f.1 (answers ∙ ap (λ (t : Trouble). settled (answer.Refused way) t) told_so ∙ settled_lost way f.0 lost (λ e. never (ap outcome_of f.1 ∙ e))) f.2 client

          by_outcome : (o : StepOutcome) → outcome_of r ≡ o → Ends a u
          by_outcome Answered said =
              let told_so : u.trouble ≡ trouble.NoFault = step.trouble ∙ ap (λ (o : StepOutcome). worse trouble.NoFault o) said in
              let memory : a ≡ answer.Refused refusal.Memory = answers ∙ ap (λ (t : Trouble). settled (answer.Refused way) t) told_so ∙ ap (λ (z : Refusal). answer.Refused z) (calm_lost way lost) in
              let ends : LinkLeadsTo (λ now. IsLineOpen rules m at c l (answer.Refused refusal.Memory) now ⊎ IsCutAt rules m c l now) m c.session h u.hub u.stamps = record {
                now = s.now;
                holds = inr (cut said);
                stands = hub_behind q r u s;
                clients = s.holds.clients;
                others = others_behind q r u step formed;
              } in
              subst (λ (z : Answer). Ends z u) (sym memory) ends
          by_outcome ReadingFailed said = failed (λ e. not_answered (sym said ∙ e))
            where
              not_answered : ReadingFailed ≡ Answered → ⊥
              not_answered e = cc
          by_outcome NoMemory said = failed (λ e. not_answered (sym said ∙ e))
            where
              not_answered : NoMemory ≡ Answered → ⊥
              not_answered e = cc
          by_outcome StoreFailed said = failed (λ e. not_answered (sym said ∙ e))
            where
              not_answered : StoreFailed ≡ Answered → ⊥
              not_answered e = cc
