-- Questions of a client with a link, and new numbers.
use Rattle.std.proofs.Common.{◌≡◌, ◌⊎◌, ℕ, Bool, true, false, List, Option, Some, None, Result, Ok, Err, if◌then◌else◌, refl, sym, ap, subst, ◌∙◌, inl, inr}
use Rattle.std.specs.Prelude.{nat_le}
use Rattle.std.specs.List.{list_all}
use Rattle.zb_ids.specs.declared.stamp.Stamp.{Stamp}
use Rattle.zb_model.specs.declared.data.Transaction.{Transaction}
use Rattle.zb_model.specs.declared.refusal.Refusal.{Refusal}
use Rattle.zb_model.specs.declared.refusal.Refusal.TheVariants as refusal
use Rattle.zb_model.specs.Rules.{MergeRules}
use Rattle.zb_answers.specs.declared.answer.Answer.{Answer}
use Rattle.zb_answers.specs.declared.answer.Answer.TheVariants as answer
use Rattle.zb_script.specs.declared.line.Line.{Line}
use Rattle.zb_script.specs.declared.line.Line.TheVariants as line
use Rattle.zodb_core.specs.declared.reply.Reply.{Reply}
use Rattle.zodb_core.specs.declared.reply.Reply.TheVariants as reply
use Rattle.zodb_core.specs.declared.request.Request.{Request}
use Rattle.zodb_core.specs.declared.request.Request.TheVariants as request
use Rattle.zodb_core.specs.HubState.{HubState, rules_of}
use Rattle.zodb_core.specs.Machine.{Machine, Rules}
use Rattle.zodb_core.specs.Outcomes.{Answered, StepOutcome, outcome_of, outcome_of_refusal}
use Rattle.connection_view.specs.declared.connection.Connection.{Connection}
use Rattle.connection_view.specs.Connections.{work_of}
use Rattle.connection_view.specs.Views as views
use Rattle.zeo_frames.specs.declared.limit.TheConstants.{FRAME_LIMIT}
use Rattle.zeo_messages.specs.declared.answer.Answer.TheVariants as answers
use Rattle.zeo_messages.specs.declared.message.Message.TheVariants.{Answered as AnswerMessage}
use Rattle.zeo_messages.specs.Answers.{fits_line, fits_revision}
use Rattle.zeo_messages.specs.Messages.{length_of}
use Rattle.hub_carrier.specs.declared.trouble.Trouble.{Trouble}
use Rattle.hub_carrier.specs.declared.trouble.Trouble.TheVariants as trouble
use Rattle.hub_carrier.specs.Ends.{HubEnd, StepsThere, end_at, machine_at, worse}
use Rattle.remote_loads.specs.Requesting.{IsQuestionMade, question_lost, question_told, reply_told, told_unless}
use Rattle.remote_loads.specs.Served.{MaySteps, no_step, one_step}
use Rattle.remote_loads.specs.Standing.{Stands}
use Rattle.remote_loads.specs.Talking.{IsWayLost}
use Rattle.client_turns.specs.declared.linked.LinkedClient.{LinkedClient}
use Rattle.client_turns.specs.Clients.{Changes, Moment, changes_of}
use Rattle.client_turns.specs.Clients as seen
use Rattle.client_turns.specs.Frames.{call_excess, reply_excess}
use Rattle.client_turns.specs.Lines.{answer_of, client_left, client_told, end_of, is_committed, is_delivery, known_behind, request_of, step_answer, unless_long}
use Rattle.client_turns.specs.Linked.{IsLinkedOf, IsLinkedOpen, LinkedEnds, MayTakeLinked, TakesLinked}
use Rattle.client_turns.specs.OverCarrier.{LinkAt, link_at}
use Rattle.client_turns.specs.OverQuestions.{QuestionOver, question_answer, question_heard}
use Rattle.client_turns.specs.Refusing.{line_refusal}
use Rattle.client_turns.specs.Settling.{settled}
use Rattle.client_turns.proofs.Bare.{calm_lost}
use Rattle.client_turns.proofs.OverLink.{linked_answer, linked_stays, lost_ends, starved_ends, step_to, told_ends}
use Rattle.client_turns.proofs.Served.{Fits, fits_at}

-- ---- a question, by how it was made

pub may_steps : {S : Type 0} (steps : Request → Reply → S → S → Type 0) (q : Request) (s u : S) → MaySteps steps q s u → (u ≡ s) ⊎ ((r : Reply) × steps q r s u)
may_steps steps q s _ no_step = inl refl
may_steps steps q s _ (one_step r u step) = inr (r, step)

pub question_made : {S : Type 0} (steps : Request → Reply → S → S → Type 0) (q : Request) (s : S) (result : Result Reply Refusal) (u : S) → IsQuestionMade steps q s result u
    → ((r : Refusal) × (result ≡ Err r) × IsWayLost r × MaySteps steps q s u) ⊎ ((r : Reply) × steps q r s u × (result ≡ reply_told r))
question_made steps q s _ _ (question_lost r u way may) = inl (r, refl, way, may)
question_made steps q s _ _ (question_told r u step) = inr (r, step, refl)

question_lost_heard : (r : Refusal) → IsWayLost r → question_heard (Err r) ≡ Err r
question_lost_heard refusal.LinkFault way = refl
question_lost_heard refusal.Closed way = refl
question_lost_heard refusal.Memory way = refl
question_lost_heard _ way = absurd way

-- a refusal of a machine is heard as it is, unless its answer is lost
pub data HeardAs (why : Refusal) : Type 0 where
  heard_lost : (way : Refusal) → IsWayLost way → question_heard (Err why) ≡ Err way → HeardAs why
  heard_told : question_heard (Err why) ≡ Err why → settled (answer.Refused why) (worse trouble.NoFault (outcome_of_refusal why)) ≡ answer.Refused why → reply_excess (reply.Refused why) ≡ None → HeardAs why

heard_as : (why : Refusal) → HeardAs why
heard_as refusal.BadMessage = heard_lost refusal.Memory tt refl
heard_as (refusal.Conflict oid base current reason) = heard_lost refusal.Memory tt refl
heard_as refusal.LinkFault = heard_lost refusal.LinkFault tt refl
heard_as refusal.Closed = heard_lost refusal.Closed tt refl
heard_as _ = heard_told refl refl refl

-- a line that asks a question
pub record IsAsking (l : Line) (q : Request) : Type 0 where
  pub free : (ch : Option Changes) → line_refusal ch l ≡ None
  pub asks : (s : seen.Standing) (ch : Option Changes) → request_of s ch l ≡ Some q
  pub short : call_excess q ≡ None
  pub plain : is_delivery l ≡ false

-- the reply to one
abbrev pub IsOfQuestion : Reply → Type 0
IsOfQuestion (reply.History list) = Unit {0}
IsOfQuestion (reply.UndoLog list) = Unit {0}
IsOfQuestion (reply.Packed kept dropped) = Unit {0}
IsOfQuestion (reply.Packing tid) = Unit {0}
IsOfQuestion (reply.Marking count) = Unit {0}
IsOfQuestion (reply.Marked count) = Unit {0}
IsOfQuestion (reply.Copying count) = Unit {0}
IsOfQuestion (reply.Copied count) = Unit {0}
IsOfQuestion (reply.Refused why) = Unit {0}
IsOfQuestion _ = ⊥

module _ {R F : Type 0} (told lasts : Type 0) (stands : List ℕ → List Transaction → Type 0) (rules_in : R → MergeRules) (named_in : F → List ℕ → Option (List ℕ)) (x y : LinkedClient) (h g : HubState R F) (before after : Option (List Stamp)) (packs left : Bool) (t : Trouble) (name : y.name ≡ x.name) (number : y.session ≡ x.session) (kept : y.connection ≡ x.connection) where
  abbrev Steps : ℕ → Request → Reply → HubEnd R F → HubEnd R F → Type 0
  Steps n q r s u = StepsThere told lasts stands rules_in named_in n q r s u

  abbrev machine : HubEnd R F → Machine
  machine e = machine_at e.hub

  abbrev start : HubEnd R F
  start = end_at h before packs trouble.NoFault

  abbrev finish : HubEnd R F
  finish = end_at g after left t

  abbrev a : LinkAt (HubEnd R F)
  a = link_at start x.session x.desk x.client

  abbrev b : LinkAt (HubEnd R F)
  b = link_at finish y.session y.desk y.client

  abbrev rules : Rules
  rules = rules_of rules_in named_in h

  module _ (tells : told) (m : Moment) (at : ℕ) (c : seen.Client) (takes : MayTakeLinked h before m at x c) where
    abbrev v : views.Client
    v = takes.client.told

    -- the client as it was, behind what leaves its connection
    pub client_behind : Stands (machine_at g) y.session y.desk y.client v → IsLinkedOf g y c
    client_behind there = record {
      name = takes.client.name ∙ sym name;
      session = takes.client.session ∙ sym number;
      told = v;
      linked = takes.client.linked;
      stands = there;
      transaction = subst (λ (k : Connection). IsLinkedOpen k v (work_of k) c.transaction) (sym kept) takes.client.transaction;
    }

    -- ---- a line that is one step, of a client that it leaves as it was

    module _ (l : Line) (q : Request) (is : IsAsking l q) (given : Answer) (client : IsLinkedOf g y c) where
      abbrev Ends : HubEnd R F → Type 0
      Ends u = LinkedEnds (end_of given) rules m at c l given h u.hub y u.stamps

      free_so : line_refusal (changes_of c) l ≡ None
      free_so = is.free (changes_of c)

      asks_so : request_of c.standing (changes_of c) l ≡ Some q
      asks_so = is.asks c.standing (changes_of c)

      pub unmade : given ≡ answer.Refused refusal.Memory → Ends start
      unmade says = starved_ends told lasts stands rules_in named_in tells m at x c h before takes l q free_so asks_so is.short y given says

      module _ (r : Reply) (u : HubEnd R F) (step : Steps x.session q r start u) (there : u ≡ finish) where
        here : IsLinkedOf u.hub y c
        here = subst (λ (e : HubEnd R F). IsLinkedOf e.hub y c) (sym there) client

        pub wrong : t ≡ worse trouble.NoFault (outcome_of r)
        wrong = ap (λ (e : HubEnd R F). e.trouble) (sym there) ∙ step.trouble

        pub lost_so : (way : Refusal) → IsWayLost way → given ≡ settled (answer.Refused way) t → Ends u
        lost_so way lost says =
            lost_ends told lasts stands rules_in named_in tells m at x c h before takes l q free_so asks_so is.short y r u step given way lost (says ∙ ap (λ (e : HubEnd R F). settled (answer.Refused way) e.trouble) (sym there)) (λ goes_on. here)

        pub told_as : is_committed r ≡ false → given ≡ step_answer c.standing false r → c ≡ client_told (step_to told lasts stands rules_in named_in tells m at x c h before takes q r u step).now.machine r (client_left false (step_to told lasts stands rules_in named_in tells m at x c h before takes q r u step).now.machine c r) → Ends u
        told_as uncommitted says stays =
            let s = step_to told lasts stands rules_in named_in tells m at x c h before takes q r u step in
            told_ends told lasts stands rules_in named_in tells m at x c h before takes l q free_so asks_so is.short y r u step given uncommitted (says ∙ ap (λ (k : Bool). step_answer c.standing k r) (sym is.plain))
            (subst (λ (k : Bool). c ≡ client_told s.now.machine r (client_left k s.now.machine c r)) (sym is.plain) stays) (λ goes_on. here)

        pub stays_as : (mm : Machine) → (d : seen.Client) → d ≡ c → known_behind mm v.known r ≡ v.known → c ≡ client_told mm r d
        stays_as mm d same known = sym (ap (λ (z : seen.Client). client_told mm r z) same ∙ linked_stays mm r c v.known takes.client.linked known)

    -- ---- questions

    module _ (l : Line) (q : Request) (is : IsAsking l q) (only : (r : Reply) → Fits r q → IsOfQuestion r) (result : Result Reply Refusal) (given : Answer) (says : given ≡ settled (question_answer (question_heard result)) t) (client : IsLinkedOf g y c) where
      abbrev Then : HubEnd R F → Type 0
      Then u = LinkedEnds (end_of given) rules m at c l given h u.hub y u.stamps

      says_so : (z : Result Reply Refusal) → result ≡ z → given ≡ settled (question_answer (question_heard z)) t
      says_so z same = says ∙ ap (λ (k : Result Reply Refusal). settled (question_answer (question_heard k)) t) same

      way_says : (r : Refusal) → result ≡ Err r → IsWayLost r → given ≡ settled (answer.Refused r) t
      way_says r same way = says_so (Err r) same ∙ ap (λ (k : Result Reply Refusal). settled (question_answer k) t) (question_lost_heard r way)

      module _ (u : HubEnd R F) (there : u ≡ finish) where
        -- it is told, and nothing went wrong
        reply_so : (r : Reply) → (step : Steps x.session q r start u) → outcome_of r ≡ Answered → is_committed r ≡ false → result ≡ Ok r → settled (answer_of r) trouble.NoFault ≡ step_answer c.standing false r → ((mm : Machine) → client_left false mm c r ≡ c) → ((mm : Machine) → known_behind mm v.known r ≡ v.known) → Then u
        reply_so r step right uncommitted same calm_is left known =
            told_as l q is given client r u step there uncommitted
            (says_so (Ok r) same ∙ ap (λ (k : Trouble). settled (answer_of r) k) (wrong l q is given client r u step there ∙ ap (λ (o : StepOutcome). worse trouble.NoFault o) right) ∙ calm_is)
            (stays_as l q is given client r u step there (step_to told lasts stands rules_in named_in tells m at x c h before takes q r u step).now.machine (client_left false (step_to told lasts stands rules_in named_in tells m at x c h before takes q r u step).now.machine c r)
            (left (step_to told lasts stands rules_in named_in tells m at x c h before takes q r u step).now.machine) (known (step_to told lasts stands rules_in named_in tells m at x c h before takes q r u step).now.machine))

        plain_so : (r : Reply) → (step : Steps x.session q r start u) → outcome_of r ≡ Answered → is_committed r ≡ false → reply_told r ≡ Ok r → result ≡ reply_told r → settled (answer_of r) trouble.NoFault ≡ answer_of r → reply_excess r ≡ None → ((mm : Machine) → client_left false mm c r ≡ c) → ((mm : Machine) → known_behind mm v.known r ≡ v.known) → Then u
        plain_so r step right uncommitted told_is same calm_is fits left known =
            reply_so r step right uncommitted (same ∙ told_is) (calm_is ∙ sym (linked_answer c.standing v.known false r takes.client.linked fits)) left known

        -- a list, unless one of its texts is too long, or all of it
        list_so : (r : Reply) (n : ℕ) (fits short : Bool) → (step : Steps x.session q r start u) → outcome_of r ≡ Answered → is_committed r ≡ false → reply_told r ≡ told_unless (if fits then (if short then None else Some (refusal.TooLong n)) else Some refusal.BadMessage) r → reply_excess r ≡ (if short then None else Some n)
            → result ≡ reply_told r → settled (answer_of r) trouble.NoFault ≡ answer_of r → ((mm : Machine) → client_left false mm c r ≡ c) → ((mm : Machine) → known_behind mm v.known r ≡ v.known) → Then u
        list_so r n true true step right uncommitted told_is excess same calm_is left known = plain_so r step right uncommitted told_is same calm_is excess left known
        list_so r n true false step right uncommitted told_is excess same calm_is left known =
            let mm = (step_to told lasts stands rules_in named_in tells m at x c h before takes q r u step).now.machine in
            told_as l q is given client r u step there uncommitted
            (says_so (Err (refusal.TooLong n)) (same ∙ told_is) ∙ ap (λ (k : Trouble). settled (answer.Refused (refusal.TooLong n)) k) (wrong l q is given client r u step there ∙ ap (λ (o : StepOutcome). worse trouble.NoFault o) right)
            ∙ sym (linked_long c.standing r n takes.client.linked excess))
            (stays_as l q is given client r u step there mm (client_left false mm c r) (left mm) (known mm))
          where
            linked_long : (s : seen.Standing) (r : Reply) (n : ℕ) → s ≡ seen.Linked v.known → reply_excess r ≡ Some n → step_answer s false r ≡ answer.Refused (refusal.TooLong n)
            linked_long s r n linked long = ap (λ (z : seen.Standing). step_answer z false r) linked ∙ ap (λ (e : Option ℕ). unless_long e (answer_of r)) long
        list_so r n false short step right uncommitted told_is excess same calm_is left known =
            lost_so l q is given client r u step there refusal.Memory tt (says_so (Err refusal.BadMessage) (same ∙ told_is))

        refused_so : (why : Refusal) → (step : Steps x.session q (reply.Refused why) start u) → result ≡ Err why → HeardAs why → Then u
        refused_so why step same (heard_lost way lost heard) =
            lost_so l q is given client (reply.Refused why) u step there way lost (says_so (Err why) same ∙ ap (λ (k : Result Reply Refusal). settled (question_answer k) t) heard)
        refused_so why step same (heard_told heard settles fits) =
            let mm = (step_to told lasts stands rules_in named_in tells m at x c h before takes q (reply.Refused why) u step).now.machine in
            told_as l q is given client (reply.Refused why) u step there refl
            (says_so (Err why) same ∙ ap (λ (k : Result Reply Refusal). settled (question_answer k) t) heard ∙ ap (λ (k : Trouble). settled (answer.Refused why) k) (wrong l q is given client (reply.Refused why) u step there) ∙ settles
            ∙ sym (linked_answer c.standing v.known false (reply.Refused why) takes.client.linked fits))
            (stays_as l q is given client (reply.Refused why) u step there mm c refl refl)

        by_reply : (r : Reply) → (step : Steps x.session q r start u) → IsOfQuestion r → result ≡ reply_told r → Then u
        by_reply (reply.History list) step of same =
            list_so (reply.History list) (length_of (AnswerMessage 0 (answers.Revisions list))) (list_all fits_revision list) (nat_le (length_of (AnswerMessage 0 (answers.Revisions list))) FRAME_LIMIT) step refl refl refl refl same refl (λ mm. refl) (λ mm. refl)
        by_reply (reply.UndoLog list) step of same =
            list_so (reply.UndoLog list) (length_of (AnswerMessage 0 (answers.LogLines list))) (list_all fits_line list) (nat_le (length_of (AnswerMessage 0 (answers.LogLines list))) FRAME_LIMIT) step refl refl refl refl same refl (λ mm. refl) (λ mm. refl)
        by_reply (reply.Packed kept dropped) step of same = plain_so (reply.Packed kept dropped) step refl refl refl same refl refl (λ mm. refl) (λ mm. refl)
        by_reply (reply.Packing tid) step of same = plain_so (reply.Packing tid) step refl refl refl same refl refl (λ mm. refl) (λ mm. refl)
        by_reply (reply.Marking count) step of same = plain_so (reply.Marking count) step refl refl refl same refl refl (λ mm. refl) (λ mm. refl)
        by_reply (reply.Marked count) step of same = plain_so (reply.Marked count) step refl refl refl same refl refl (λ mm. refl) (λ mm. refl)
        by_reply (reply.Copying count) step of same = plain_so (reply.Copying count) step refl refl refl same refl refl (λ mm. refl) (λ mm. refl)
        by_reply (reply.Copied count) step of same = plain_so (reply.Copied count) step refl refl refl same refl refl (λ mm. refl) (λ mm. refl)
        by_reply (reply.Refused why) step of same = refused_so why step same (heard_as why)
        by_reply _ step of same = absurd of

      -- by how it was made
      question_ends : IsQuestionMade (Steps x.session) q start result finish → Then finish
      question_ends made = by_made (question_made (Steps x.session) q start result finish made)
        where
          by_steps : (r : Refusal) → result ≡ Err r → IsWayLost r → (finish ≡ start) ⊎ ((k : Reply) × Steps x.session q k start finish) → Then finish
          by_steps r same way (inr (k, step)) = lost_so l q is given client k finish step refl r way (way_says r same way)
          by_steps r same way (inl still) =
              subst (λ (e : HubEnd R F). Then e) (sym still)
              (unmade l q is given client (way_says r same way ∙ ap (λ (e : HubEnd R F). settled (answer.Refused r) e.trouble) still ∙ ap (λ (z : Refusal). answer.Refused z) (calm_lost r way)))

          by_made : ((r : Refusal) × (result ≡ Err r) × IsWayLost r × MaySteps (Steps x.session) q start finish) ⊎ ((r : Reply) × Steps x.session q r start finish × (result ≡ reply_told r)) → Then finish
          by_made (inl (r, same, way, may)) = by_steps r same way (may_steps (Steps x.session) q start finish may)
          by_made (inr (r, step, same)) =
              by_reply finish refl r step (only r (fits_at rules m x.session q r (step_to told lasts stands rules_in named_in tells m at x c h before takes q r finish step).now (step_to told lasts stands rules_in named_in tells m at x c h before takes q r finish step).holds)) same

  -- a question, over its carrier
  pub question_law : (l : Line) (q : Request) (raw given : Answer) → IsAsking l q → ((r : Reply) → Fits r q → IsOfQuestion r) → QuestionOver told Steps machine a q raw b → given ≡ settled raw t → TakesLinked told rules l given h g x y before after
  question_law l q raw given is only o answers_so tells m at c takes =
      let leaves = o.leaves tells takes.client.told takes.client.stands in
      question_ends tells m at c takes l q is only o.result given (answers_so ∙ ap (λ (z : Answer). settled z t) o.answer)
      (client_behind tells m at c takes (subst (λ (n : ℕ). Stands (machine_at g) n y.desk y.client takes.client.told) (sym number) leaves.stands)) leaves.made

-- ---- the lines that ask one

pub history_asks : (oid : ℕ) → IsAsking (line.History oid) (request.History oid)
history_asks oid = record { free = λ ch. refl; asks = λ s ch. refl; short = refl; plain = refl }

pub log_asks : IsAsking line.UndoLog request.UndoLog
log_asks = record { free = λ ch. refl; asks = λ s ch. refl; short = refl; plain = refl }

pub pack_asks : (tid : ℕ) (collects : Bool) → IsAsking (line.Pack tid collects) (request.Pack tid collects)
pack_asks tid collects = record { free = λ ch. refl; asks = λ s ch. refl; short = refl; plain = refl }

pub begin_asks : (tid : ℕ) (collects : Bool) → IsAsking (line.PackBegin tid collects) (request.PackBegin tid collects)
begin_asks tid collects = record { free = λ ch. refl; asks = λ s ch. refl; short = refl; plain = refl }

pub turn_asks : IsAsking line.PackTurn request.PackTurn
turn_asks = record { free = λ ch. refl; asks = λ s ch. refl; short = refl; plain = refl }

pub only_history : (oid : ℕ) (r : Reply) → Fits r (request.History oid) → IsOfQuestion r
only_history oid (reply.History list) fits = tt
only_history oid (reply.Refused why) fits = tt
only_history oid _ fits = absurd fits

pub only_log : (r : Reply) → Fits r request.UndoLog → IsOfQuestion r
only_log (reply.UndoLog list) fits = tt
only_log (reply.Refused why) fits = tt
only_log _ fits = absurd fits

pub only_pack : (tid : ℕ) (collects : Bool) (r : Reply) → Fits r (request.Pack tid collects) → IsOfQuestion r
only_pack tid collects (reply.Packed kept dropped) fits = tt
only_pack tid collects (reply.Refused why) fits = tt
only_pack tid collects _ fits = absurd fits

pub only_begin : (tid : ℕ) (collects : Bool) (r : Reply) → Fits r (request.PackBegin tid collects) → IsOfQuestion r
only_begin tid collects (reply.Packing n) fits = tt
only_begin tid collects (reply.Refused why) fits = tt
only_begin tid collects _ fits = absurd fits

pub only_turn : (r : Reply) → Fits r request.PackTurn → IsOfQuestion r
only_turn (reply.Marking count) fits = tt
only_turn (reply.Marked count) fits = tt
only_turn (reply.Copying count) fits = tt
only_turn (reply.Copied count) fits = tt
only_turn (reply.Packed kept dropped) fits = tt
only_turn (reply.Refused why) fits = tt
only_turn _ fits = absurd fits
