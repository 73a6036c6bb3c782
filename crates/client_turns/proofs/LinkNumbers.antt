-- New numbers of a client with a link.
use Rattle.std.proofs.Common.{◌≡◌, ◌⊎◌, ℕ, ◌+◌, ◌-◌, ◌^◌, ◌≤◌, ◌<◌, Bool, IsTrue, true, false, not, List, [], ◌∷◌, ◌++◌, length, length-append, Option, Some, None, Result, Ok, Err, if◌then◌else◌, refl, sym, ap, subst, ◌∙◌, arith, inl, inr}
use Rattle.std.specs.Prelude.{codes, nat_lt}
use Rattle.std.specs.Option.{option_or}
use Rattle.std.proofs.lemmas.Bool.{lt-ltb, ltb-false}
use Rattle.zb_ids.specs.declared.stamp.Stamp.{Stamp}
use Rattle.zb_model.specs.declared.data.Transaction.{Transaction}
use Rattle.zb_model.specs.declared.refusal.Refusal.{Refusal}
use Rattle.zb_model.specs.declared.refusal.Refusal.TheVariants as refusal
use Rattle.zb_model.specs.Rules.{MergeRules}
use Rattle.zb_answers.specs.declared.answer.Answer.{Answer}
use Rattle.zb_answers.specs.declared.answer.Answer.TheVariants as answer
use Rattle.zb_script.specs.declared.line.Line.TheVariants as line
use Rattle.zodb_core.specs.declared.reply.Reply.{Reply}
use Rattle.zodb_core.specs.declared.reply.Reply.TheVariants as reply
use Rattle.zodb_core.specs.declared.request.Request.{Request}
use Rattle.zodb_core.specs.declared.request.Request.TheVariants as request
use Rattle.zodb_core.specs.HubState.{HubState, rules_of}
use Rattle.zodb_core.specs.Machine.{Machine, Rules, is_open_in}
use Rattle.zodb_core.specs.Outcomes.{Answered, EndsFor, FaultCounts, NoMemory, ReadingFailed, StepOutcome, StoreFailed, outcome_of}
use Rattle.zodb_core.specs.Steps.{Stepped, oids_step, refuse_if, replied_refusal, step_of, unless_early}
use Rattle.connection_view.specs.Views as views
use Rattle.zeo_messages.specs.declared.answer.Answer.TheVariants as answers
use Rattle.zeo_messages.specs.declared.call.Call.TheVariants as calls
use Rattle.zeo_messages.specs.Answers.{value_of}
use Rattle.zeo_values.specs.LengthLaws.{count_short, name_length}
use Rattle.zeo_values.specs.Values.{count_text, id_text, list_of, name_text}
use Rattle.zeo_desk.specs.declared.asked.Asked.TheVariants as asked
use Rattle.zeo_desk.specs.Answering.{listed, number_alone, sent_answer}
use Rattle.zeo_client.specs.declared.asking.AskError.{AskError}
use Rattle.zeo_client.specs.declared.asking.AskError.TheVariants as ask_error
use Rattle.hub_carrier.specs.declared.trouble.Trouble.{Trouble}
use Rattle.hub_carrier.specs.declared.trouble.Trouble.TheVariants as trouble
use Rattle.hub_carrier.proofs.Lengths.{ids_short}
use Rattle.hub_carrier.specs.Ends.{HubEnd, StepsThere, end_at, machine_at, worse}
use Rattle.remote_loads.specs.Answers.{oid_answer}
use Rattle.remote_loads.specs.Causes.{unasked}
use Rattle.remote_loads.specs.Making.{MakesOne}
use Rattle.remote_loads.specs.Talking.{IsUnsent, IsWayLost, answer_given}
use Rattle.client_turns.specs.declared.linked.LinkedClient.{LinkedClient}
use Rattle.client_turns.specs.declared.errors.TurnError.{TurnError}
use Rattle.client_turns.specs.Clients.{Moment}
use Rattle.client_turns.specs.Clients as seen
use Rattle.client_turns.specs.Lines.{IsCountedBy, client_left, end_of, is_committed, known_behind, step_answer}
use Rattle.client_turns.specs.Linked.{IsLinkedDraw, IsLinkedOf, LinkedEnds, LinkedGives, MayTakeLinked, StandsForHub, TakesLinked, TakesLinkedDraw, end_of_result}
use Rattle.client_turns.specs.Others.{KeepsOthers}
use Rattle.client_turns.specs.OverCarrier.{LinkAt, link_at}
use Rattle.client_turns.specs.OverQuestions.{NumberOver, number_answer}
use Rattle.client_turns.specs.Settling.{settled, settled_result}
use Rattle.client_turns.specs.Steps.{IsStepAt}
use Rattle.client_turns.specs.Trees.{IsDrawn}
use Rattle.client_turns.proofs.Bare.{calm_lost, sent_so, value_short}
use Rattle.client_turns.proofs.LinkAsks.{IsAsking, client_behind, lost_so, stays_as, told_as, unmade}
use Rattle.client_turns.proofs.LinkEnds.{one_made, short_call}
use Rattle.client_turns.proofs.Loading.{moment_is, unread_clock}
use Rattle.client_turns.proofs.One.{StepsTo, set_there}
use Rattle.client_turns.proofs.Others.{others_same}
use Rattle.client_turns.proofs.OverLink.{hub_behind, linked_answer, others_behind, step_to}

-- ---- the step

-- numbers are spent, and all is as it was; or one is drawn
pub data NumberStep (m : Moment) (r : Reply) (now : Moment) : Type 0 where
  number_spent : r ≡ reply.Refused refusal.OidsSpent → now ≡ m → NumberStep m r now
  number_drawn : (oid : ℕ) → r ≡ reply.Oids oid 1 → oid < 2 ^ 64 → NumberStep m r now

oids_said : (rules : Rules) (m : Machine) (n stamp : ℕ) → is_open_in m.sessions n ≡ true
    → (step_of rules m n (request.NewOids 1) stamp ≡ replied_refusal m refusal.OidsSpent) ⊎ ((step_of rules m n (request.NewOids 1) stamp ≡ oids_step m 1) × (m.greatest + 1 < 2 ^ 64))
oids_said rules m n stamp is_open = by_test (nat_lt (2 ^ 64 - 1) (m.greatest + 1)) refl
  where
    step : Bool → Stepped
    step b = unless_early (option_or (refuse_if (not true) refusal.NotOpen) (refuse_if b refusal.OidsSpent)) m (oids_step m 1)

    is_step : (b : Bool) → nat_lt (2 ^ 64 - 1) (m.greatest + 1) ≡ b → step_of rules m n (request.NewOids 1) stamp ≡ step b
    is_step b is =
        ap (λ (o : Bool). unless_early (option_or (refuse_if (not o) refusal.NotOpen) (refuse_if (nat_lt (2 ^ 64 - 1) (m.greatest + 1)) refusal.OidsSpent)) m (oids_step m 1)) is_open
        ∙ ap step is

    by_test : (b : Bool) → nat_lt (2 ^ 64 - 1) (m.greatest + 1) ≡ b → (step_of rules m n (request.NewOids 1) stamp ≡ replied_refusal m refusal.OidsSpent) ⊎ ((step_of rules m n (request.NewOids 1) stamp ≡ oids_step m 1) × (m.greatest + 1 < 2 ^ 64))
    by_test true is = inl (is_step true is)
    by_test false is = let e = ltb-false (2 ^ 64 - 1) (m.greatest + 1) is in inr (is_step false is, omega (arith, e))

number_step : (rules : Rules) (m : Moment) (n : ℕ) (r : Reply) (now : Moment) → IsStepAt rules m n (request.NewOids 1) r now → is_open_in m.machine.sessions n ≡ true → outcome_of r ≡ Answered → NumberStep m r now
number_step rules m n r now step is_open said = by_outcome (outcome_of r) said step.made.cause step.counts
  where
    made : Stepped
    made = record { reply = r; machine = now.machine; ticks = step.ticks }

    by_step : made ≡ step_of rules m.machine n (request.NewOids 1) step.stamp → now.counts ≡ m.counts
        → (step_of rules m.machine n (request.NewOids 1) step.stamp ≡ replied_refusal m.machine refusal.OidsSpent) ⊎ ((step_of rules m.machine n (request.NewOids 1) step.stamp ≡ oids_step m.machine 1) × (m.machine.greatest + 1 < 2 ^ 64)) → NumberStep m r now
    by_step is counts (inr (drawn, below)) = number_drawn (m.machine.greatest + 1) (ap (λ (s : Stepped). s.reply) (is ∙ drawn)) below
    by_step is counts (inl spent) =
        let quiet : step.ticks ≡ false = ap (λ (s : Stepped). s.ticks) (is ∙ spent) in
        number_spent (ap (λ (s : Stepped). s.reply) (is ∙ spent))
        (moment_is m now (ap (λ (s : Stepped). s.machine) (is ∙ spent)) step.clients (unread_clock step.ticks step.stamp m.stamps now.stamps (λ ticks. false_true (subst IsTrue quiet ticks)) step.clock)
        ∙ ap (λ (k : FaultCounts). let z : Moment = record { machine = m.machine; clients = m.clients; stamps = m.stamps; counts = k } in z) counts)
      where
        false_true : IsTrue false → ⊥
        false_true e = absurd cc

    by_outcome : (o : StepOutcome) → o ≡ Answered → EndsFor rules m.machine n (request.NewOids 1) step.stamp made m.counts now.counts o → IsCountedBy m.counts now.counts o → NumberStep m r now
    by_outcome Answered is ends counts = by_step ends counts (oids_said rules m.machine n step.stamp is_open)
    by_outcome ReadingFailed is ends counts = absurd cc
    by_outcome NoMemory is ends counts = absurd cc
    by_outcome StoreFailed is ends counts = absurd cc

-- ---- what is said of it

oids_short : (oid : ℕ) → length (list_of id_text (oid ∷ [])) ≤ 100
oids_short oid = let a = ids_short (oid ∷ []) in omega (arith, a)

oid_told : (oid : ℕ) → oid < 2 ^ 64 → oid_answer (answer_given (request.NewOids 1) (reply.Oids oid 1)) ≡ Ok oid
oid_told oid below =
    let one : number_alone (oid + 0) ≡ oid ∷ [] = ap number_alone (same oid) ∙ ap (λ (b : Bool). if b then oid ∷ [] else []) (lt-ltb oid (2 ^ 64) below) in
    ap (λ (xs : List ℕ). oid_answer (sent_answer asked.Other (listed answers.Oids xs))) one
    ∙ ap oid_answer (sent_so asked.Other (answers.Oids (oid ∷ [])) refl (value_short (codes ".reply") (list_of id_text (oid ∷ [])) (omega arith) (oids_short oid)))
  where
    same : (n : ℕ) → n + 0 ≡ n
    same n = omega arith

spent_short : length (name_text (codes "OidsSpent") ++ 0x85 ∷ []) ≤ 100
spent_short =
    let a = length-append (name_text (codes "OidsSpent")) (0x85 ∷ []) in
    let b = name_length (codes "OidsSpent") in
    omega (arith, a, b)

spent_told : oid_answer (answer_given (request.NewOids 1) (reply.Refused refusal.OidsSpent)) ≡ Err refusal.OidsSpent
spent_told = ap oid_answer (sent_so asked.Other (answers.Refused refusal.OidsSpent) refl (value_short (codes ".error") (value_of (answers.Refused refusal.OidsSpent)) (omega arith) spent_short))

number_short : length (count_text 1 ++ 0x85 ∷ []) ≤ 100
number_short =
    let e = length-append (count_text 1) (0x85 ∷ []) in
    let f = count_short 1 in
    omega (arith, e, f)

new_asks : IsAsking line.New (request.NewOids 1)
new_asks = record { free = λ ch. refl; asks = λ s ch. refl; short = refl; plain = refl }

module _ {R F : Type 0} (told lasts : Type 0) (stands : List ℕ → List Transaction → Type 0) (rules_in : R → MergeRules) (named_in : F → List ℕ → Option (List ℕ)) (x y : LinkedClient) (h g : HubState R F) (before after : Option (List Stamp)) (packs left : Bool) (t : Trouble) (name : y.name ≡ x.name) (number : y.session ≡ x.session) (kept : y.connection ≡ x.connection) where
  abbrev Steps : ℕ → Request → Reply → HubEnd R F → HubEnd R F → Type 0
  Steps n q r s u = StepsThere told lasts stands rules_in named_in n q r s u

  abbrev machine : HubEnd R F → Machine
  machine e = machine_at e.hub

  abbrev start : HubEnd R F
  start = end_at h before packs trouble.NoFault

  abbrev finish : HubEnd R F
  finish = end_at g after left t

  abbrev a : LinkAt (HubEnd R F)
  a = link_at start x.session x.desk x.client

  abbrev b : LinkAt (HubEnd R F)
  b = link_at finish y.session y.desk y.client

  abbrev rules : Rules
  rules = rules_of rules_in named_in h

  module _ (tells : told) (m : Moment) (at : ℕ) (c : seen.Client) (takes : MayTakeLinked h before m at x c) where
    abbrev v : views.Client
    v = takes.client.told

    abbrev q : Request
    q = request.NewOids 1

    session_open : is_open_in m.machine.sessions x.session ≡ true
    session_open = ap (λ (n : ℕ). is_open_in m.machine.sessions n) (sym takes.client.session) ∙ takes.may

    module _ (r : Reply) (u : HubEnd R F) (step : Steps x.session q r start u) where
      abbrev s : StepsTo rules m x.session q r u.hub u.stamps
      s = step_to told lasts stands rules_in named_in tells m at x c h before takes q r u step

      -- nothing fails in it
      right : outcome_of r ≡ Answered
      right = by_outcome (outcome_of r) refl
        where
          by_outcome : (o : StepOutcome) → outcome_of r ≡ o → o ≡ Answered
          by_outcome Answered is = refl
          by_outcome ReadingFailed is = absurd (step.step.unread refl is)
          by_outcome NoMemory is = absurd (step.step.memory refl is)
          by_outcome StoreFailed is = absurd (step.step.unwritten refl is)

      pub calm_step : u.trouble ≡ trouble.NoFault
      calm_step = step.trouble ∙ ap (λ (o : StepOutcome). worse trouble.NoFault o) right

      pub numbered : NumberStep m r s.now
      numbered = number_step rules m x.session r s.now s.holds session_open right

      here_step : IsStepAt rules m c.session q r s.now
      here_step = subst (λ (n : ℕ). IsStepAt rules m n q r s.now) (sym takes.client.session) s.holds

    -- ---- a number that is drawn

    -- with what went wrong
    abbrev Gives : Result ℕ Refusal → HubEnd R F → Type 0
    Gives z u = LinkedGives (end_of_result z) (IsLinkedDraw m c.session z) m at c.session h u.hub y u.stamps

    given_at : (z : Result ℕ Refusal) (u : HubEnd R F) (now : Moment) → IsLinkedDraw m c.session z now → StandsForHub u.hub u.stamps now → now.clients ≡ m.clients → KeepsOthers c.session h u.hub → IsLinkedOf u.hub y c → Gives z u
    given_at z u now holds stood clients others client = by_end (end_of_result z)
      where
        by_end : (e : Option TurnError) → LinkedGives e (IsLinkedDraw m c.session z) m at c.session h u.hub y u.stamps
        by_end None = record { now = now; holds = holds; stands = stood; client = c; placed = clients ∙ set_there m.clients at c takes.there; is = client; others = others }
        by_end (Some why) = record { now = now; holds = holds; stands = stood; clients = clients; others = others }

    module _ (result : Result ℕ Refusal) (client : IsLinkedOf g y c) where
      abbrev Then : Result ℕ Refusal → HubEnd R F → Type 0
      Then z u = u ≡ finish → Gives (settled_result z u.trouble) u

      here : (u : HubEnd R F) → u ≡ finish → IsLinkedOf u.hub y c
      here u there = subst (λ (e : HubEnd R F). IsLinkedOf e.hub y c) (sym there) client

      none_drawn : (z : Result ℕ Refusal) → settled_result z trouble.NoFault ≡ Err refusal.Memory → Then z start
      none_drawn z is there = subst (λ (k : Result ℕ Refusal). Gives k start) (sym is) (given_at (Err refusal.Memory) start m (inl refl) takes.stands refl (others_same c.session h) (here start there))

      calm_way : (r : Refusal) → IsWayLost r → settled_result (let e : Result ℕ Refusal = Err r in e) trouble.NoFault ≡ Err refusal.Memory
      calm_way r way = ap (λ (z : Refusal). let e : Result ℕ Refusal = Err z in e) (calm_lost r way)

      module _ (r : Reply) (u : HubEnd R F) (step : Steps x.session q r start u) (there : u ≡ finish) where
        at_step : (z final : Result ℕ Refusal) → settled_result z trouble.NoFault ≡ final → IsLinkedDraw m c.session final (s r u step).now → Gives (settled_result z u.trouble) u
        at_step z final is holds =
            subst (λ (k : Result ℕ Refusal). Gives k u) (sym (ap (λ (e : Trouble). settled_result z e) (calm_step r u step) ∙ is))
            (given_at final u (s r u step).now holds (hub_behind told lasts stands rules_in named_in tells m at x c h before takes q r u (s r u step)) (s r u step).holds.clients
            (others_behind told lasts stands rules_in named_in tells m at x c h before takes q r u step tt) (here u there))

        lost_draw : (way : Refusal) → IsWayLost way → Gives (settled_result (let e : Result ℕ Refusal = Err way in e) u.trouble) u
        lost_draw way lost = at_step (Err way) (Err refusal.Memory) (calm_way way lost) (by_step (numbered r u step))
          where
            by_step : NumberStep m r (s r u step).now → ((s r u step).now ≡ m) ⊎ ((oid : ℕ) × IsDrawn m c.session oid (s r u step).now)
            by_step (number_spent is same) = inl same
            by_step (number_drawn oid is below) = inr (oid, (rules, subst (λ (k : Reply). IsStepAt rules m c.session q k (s r u step).now) is (here_step r u step)))

        told_draw : Gives (settled_result (oid_answer (answer_given q r)) u.trouble) u
        told_draw = by_step (numbered r u step)
          where
            by_step : NumberStep m r (s r u step).now → Gives (settled_result (oid_answer (answer_given q r)) u.trouble) u
            by_step (number_spent is same) =
                at_step (oid_answer (answer_given q r)) (Err refusal.OidsSpent) (ap (λ (k : Reply). settled_result (oid_answer (answer_given q k)) trouble.NoFault) is ∙ ap (λ (k : Result ℕ Refusal). settled_result k trouble.NoFault) spent_told)
                (rules, subst (λ (k : Reply). IsStepAt rules m c.session q k (s r u step).now) is (here_step r u step))
            by_step (number_drawn oid is below) =
                at_step (oid_answer (answer_given q r)) (Ok oid) (ap (λ (k : Reply). settled_result (oid_answer (answer_given q k)) trouble.NoFault) is ∙ ap (λ (k : Result ℕ Refusal). settled_result k trouble.NoFault) (oid_told oid below))
                (rules, subst (λ (k : Reply). IsStepAt rules m c.session q k (s r u step).now) is (here_step r u step))

      draw_ends : MakesOne (Steps x.session) q (calls.NewOids 1) oid_answer start result finish → Gives (settled_result result t) finish
      draw_ends made =
          one_made (Steps x.session) q (calls.NewOids 1) oid_answer start Then unsent (λ r way. none_drawn (Err r) (calm_way r way)) (λ r said u way step there. lost_draw said u step there r way) (λ said u step there. told_draw said u step there) result finish made refl
        where
          unsent : (error : AskError) → IsUnsent (calls.NewOids 1) error → Then (Err (unasked error)) start
          unsent (ask_error.TooLong n) long there = absurd (short_call (calls.NewOids 1) n (omega arith) number_short long)
          unsent ask_error.Memory long there = none_drawn (Err refusal.Memory) refl there

    -- ---- `new`

    module _ (result : Result ℕ Refusal) (given : Answer) (says : given ≡ settled (number_answer result) t) (client : IsLinkedOf g y c) where
      abbrev Ends : HubEnd R F → Type 0
      Ends u = LinkedEnds (end_of given) rules m at c line.New given h u.hub y u.stamps

      abbrev NewThen : Result ℕ Refusal → HubEnd R F → Type 0
      NewThen z u = z ≡ result → u ≡ finish → Ends u

      says_as : (z : Result ℕ Refusal) → z ≡ result → given ≡ settled (number_answer z) t
      says_as z same = says ∙ ap (λ (k : Result ℕ Refusal). settled (number_answer k) t) (sym same)

      new_unmade : (r : Refusal) → IsWayLost r → NewThen (Err r) start
      new_unmade r way same there =
          unmade told lasts stands rules_in named_in x y h g before after packs left t name number kept tells m at c takes line.New q new_asks given client
          (says_as (Err r) same ∙ ap (λ (e : HubEnd R F). settled (answer.Refused r) e.trouble) (sym there) ∙ ap (λ (z : Refusal). answer.Refused z) (calm_lost r way))

      new_lost : (r : Refusal) (k : Reply) (u : HubEnd R F) → IsWayLost r → Steps x.session q k start u → NewThen (Err r) u
      new_lost r k u way step same there = lost_so told lasts stands rules_in named_in x y h g before after packs left t name number kept tells m at c takes line.New q new_asks given client k u step there r way (says_as (Err r) same)

      -- it is answered so
      new_so : (z : Result ℕ Refusal) (r : Reply) (u : HubEnd R F) (step : Steps x.session q r start u) → z ≡ result → u ≡ finish → is_committed r ≡ false → settled (number_answer z) trouble.NoFault ≡ step_answer c.standing false r → ((mm : Machine) → client_left false mm c r ≡ c)
          → ((mm : Machine) → known_behind mm v.known r ≡ v.known) → Ends u
      new_so z r u step same there uncommitted is stays known =
          let mm = (s r u step).now.machine in
          told_as told lasts stands rules_in named_in x y h g before after packs left t name number kept tells m at c takes line.New q new_asks given client r u step there uncommitted
          (says_as z same ∙ ap (λ (e : Trouble). settled (number_answer z) e) (ap (λ (e : HubEnd R F). e.trouble) (sym there) ∙ calm_step r u step) ∙ is)
          (stays_as told lasts stands rules_in named_in x y h g before after packs left t name number kept tells m at c takes line.New q new_asks given client r u step there mm (client_left false mm c r) (stays mm) (known mm))

      new_told : (r : Reply) (u : HubEnd R F) (step : Steps x.session q r start u) → NewThen (oid_answer (answer_given q r)) u
      new_told r u step same there = by_step (numbered r u step)
        where
          by_step : NumberStep m r (s r u step).now → Ends u
          by_step (number_spent is still) =
              new_so (Err refusal.OidsSpent) (reply.Refused refusal.OidsSpent) u (subst (λ (k : Reply). Steps x.session q k start u) is step) (sym (ap (λ (k : Reply). oid_answer (answer_given q k)) is ∙ spent_told) ∙ same) there refl
              (sym (linked_answer c.standing v.known false (reply.Refused refusal.OidsSpent) takes.client.linked refl)) (λ mm. refl) (λ mm. refl)
          by_step (number_drawn oid is below) =
              new_so (Ok oid) (reply.Oids oid 1) u (subst (λ (k : Reply). Steps x.session q k start u) is step) (sym (ap (λ (k : Reply). oid_answer (answer_given q k)) is ∙ oid_told oid below) ∙ same) there refl
              (sym (linked_answer c.standing v.known false (reply.Oids oid 1) takes.client.linked refl)) (λ mm. refl) (λ mm. refl)

      new_ends : MakesOne (Steps x.session) q (calls.NewOids 1) oid_answer start result finish → Ends finish
      new_ends made = one_made (Steps x.session) q (calls.NewOids 1) oid_answer start NewThen unsent new_unmade new_lost new_told result finish made refl refl
        where
          unsent : (error : AskError) → IsUnsent (calls.NewOids 1) error → NewThen (Err (unasked error)) start
          unsent (ask_error.TooLong n) long same there = absurd (short_call (calls.NewOids 1) n (omega arith) number_short long)
          unsent ask_error.Memory long same there = new_unmade refusal.Memory tt same there

  pub number_law : (result given : Result ℕ Refusal) → NumberOver told Steps machine a result b → given ≡ settled_result result t → TakesLinkedDraw told given h g x y before after
  number_law result given o answers_so tells m at c takes =
      let client : IsLinkedOf g y c = client_behind told lasts stands rules_in named_in x y h g before after packs left t name number kept tells m at c takes (o.stands takes.client.told (tells, takes.client.stands)).1 in
      subst (λ (z : Result ℕ Refusal). LinkedGives (end_of_result z) (IsLinkedDraw m c.session z) m at c.session h g y after) (sym answers_so)
      (draw_ends tells m at c takes result client (o.makes tells takes.client.told takes.client.stands))

  pub new_law : (result : Result ℕ Refusal) (given : Answer) → NumberOver told Steps machine a result b → given ≡ settled (number_answer result) t → TakesLinked told rules line.New given h g x y before after
  new_law result given o answers_so tells m at c takes =
      let client : IsLinkedOf g y c = client_behind told lasts stands rules_in named_in x y h g before after packs left t name number kept tells m at c takes (o.stands takes.client.told (tells, takes.client.stands)).1 in
      new_ends tells m at c takes result given answers_so client (o.makes tells takes.client.told takes.client.stands)
