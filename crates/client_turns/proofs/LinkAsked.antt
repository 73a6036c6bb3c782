-- Lines of a client with a link that ask nothing of its connection, numbers and reads, for callers that know the parts.
use Rattle.std.proofs.Common.{◌≡◌, ℕ, Bool, true, false, List, Option, Some, Result, ap, subst, ◌∙◌}
use Rattle.zb_ids.specs.declared.stamp.Stamp.{Stamp}
use Rattle.zb_model.specs.declared.data.Transaction.{Transaction}
use Rattle.zb_model.specs.declared.refusal.Refusal.{Refusal}
use Rattle.zb_model.specs.Rules.{MergeRules}
use Rattle.zb_answers.specs.declared.answer.Answer.{Answer}
use Rattle.zb_script.specs.declared.line.Line.{Line}
use Rattle.zb_script.specs.declared.line.Line.TheVariants as line
use Rattle.zodb_core.specs.declared.reply.Reply.{Reply}
use Rattle.zodb_core.specs.declared.request.Request.{Request}
use Rattle.zodb_core.specs.declared.request.Request.TheVariants as request
use Rattle.zodb_core.specs.HubState.{HubState, rules_of}
use Rattle.zodb_core.specs.Machine.{Machine}
use Rattle.connection_view.specs.declared.connection.Connection.{Connection}
use Rattle.hub_carrier.specs.declared.trouble.Trouble.{Trouble}
use Rattle.hub_carrier.specs.declared.trouble.Trouble.TheVariants as trouble
use Rattle.hub_carrier.specs.Ends.{HubEnd, StepsThere, end_at, machine_at}
use Rattle.hub_carrier.specs.Later.{IsLaterEnd}
use Rattle.hub_carrier.specs.LaterLaws.{later_is}
use Rattle.remote_loads.specs.Requesting.{is_question}
use Rattle.client_turns.specs.declared.linked.LinkedClient.{LinkedClient}
use Rattle.client_turns.specs.Asking.{plain_request}
use Rattle.client_turns.specs.Lines.{outcome_of_answer}
use Rattle.client_turns.specs.Linked.{MayStand, TakesLinked, TakesLinkedDraw, TakesLinkedRead}
use Rattle.client_turns.specs.Members.{far}
use Rattle.client_turns.specs.OverCarrier.{FittingOver, LinkAt, link_at}
use Rattle.client_turns.specs.OverQuestions.{NumberOver, QuestionOver, number_answer}
use Rattle.client_turns.specs.Settling.{settled, settled_result}
use Rattle.client_turns.specs.Standing.{IsGotWhere, LeavesHub, packs_list}
use Rattle.client_turns.proofs.LinkAskHub.{SeesList, begin_sees, history_sees, log_sees, new_hub, new_sees, pack_sees, question_hub, turn_sees}
use Rattle.client_turns.proofs.LinkAsks.{IsAsking, IsOfQuestion, begin_asks, history_asks, log_asks, only_begin, only_history, only_log, only_pack, only_turn, pack_asks, question_law, turn_asks}
use Rattle.client_turns.proofs.LinkNumbers.{new_law, number_law}
use Rattle.client_turns.proofs.LinkReading.{got_law}
use Rattle.client_turns.proofs.Served.{Fits}

same_request : {p q : Request} → Some p ≡ Some q → p ≡ q
same_request e = cc

-- the request of a line that asks a question
by_question : (P : Line → Request → Type 0) → ((oid : ℕ) → P (line.History oid) (request.History oid)) → P line.UndoLog request.UndoLog → ((tid : ℕ) (collects : Bool) → P (line.Pack tid collects) (request.Pack tid collects))
    → ((tid : ℕ) (collects : Bool) → P (line.PackBegin tid collects) (request.PackBegin tid collects)) → P line.PackTurn request.PackTurn → (l : Line) (q : Request) → plain_request l ≡ Some q → is_question q ≡ true → P l q
by_question P history log pack begin turn (line.History oid) q is asks = subst (P (line.History oid)) (same_request is) (history oid)
by_question P history log pack begin turn line.UndoLog q is asks = subst (P line.UndoLog) (same_request is) log
by_question P history log pack begin turn (line.Pack tid collects) q is asks = subst (P (line.Pack tid collects)) (same_request is) (pack tid collects)
by_question P history log pack begin turn (line.PackBegin tid collects) q is asks = subst (P (line.PackBegin tid collects)) (same_request is) (begin tid collects)
by_question P history log pack begin turn line.PackTurn q is asks = subst (P line.PackTurn) (same_request is) turn
by_question P history log pack begin turn line.New q is asks = absurd (other (ap is_question (same_request is) ∙ asks))
  where
    other : is_question (request.NewOids 1) ≡ true → ⊥
    other e = absurd cc
by_question P history log pack begin turn line.Close q is asks = absurd (other (ap is_question (same_request is) ∙ asks))
  where
    other : is_question request.Close ≡ true → ⊥
    other e = absurd cc
by_question P history log pack begin turn _ q is asks = absurd cc

-- a line asks this question, and no other reply comes
pub record AsksSo (l : Line) (q : Request) : Type 0 where
  pub asks : IsAsking l q
  pub only : (r : Reply) → Fits r q → IsOfQuestion r

asks_so : (l : Line) (q : Request) → plain_request l ≡ Some q → is_question q ≡ true → AsksSo l q
asks_so l q is asks =
    by_question AsksSo (λ oid. record { asks = history_asks oid; only = only_history oid }) (record { asks = log_asks; only = only_log }) (λ tid collects. record { asks = pack_asks tid collects; only = only_pack tid collects })
    (λ tid collects. record { asks = begin_asks tid collects; only = only_begin tid collects }) (record { asks = turn_asks; only = only_turn }) l q is asks

module _ {R F : Type 0} (told lasts : Type 0) (stands : List ℕ → List Transaction → Type 0) (rules_in : R → MergeRules) (named_in : F → List ℕ → Option (List ℕ)) (x y : LinkedClient) (h g : HubState R F) (before after : Option (List Stamp)) (packs left : Bool) (t : Trouble) (a b : LinkAt (HubEnd R F)) (begins : a ≡ link_at (end_at h before packs trouble.NoFault) x.session x.desk x.client) (ends : b ≡ link_at (end_at g after left t) y.session y.desk y.client) where
  abbrev All : ℕ → Request → Reply → HubEnd R F → HubEnd R F → Type 0
  All n q r s u = StepsThere told lasts stands rules_in named_in n q r s u

  abbrev machine : HubEnd R F → Machine
  machine e = machine_at e.hub

  abbrev old : LinkAt (HubEnd R F)
  old = link_at (end_at h before packs trouble.NoFault) x.session x.desk x.client

  abbrev new : LinkAt (HubEnd R F)
  new = link_at (end_at g after left t) y.session y.desk y.client

  question_at : (q : Request) (raw : Answer) → QuestionOver told All machine a q raw b → QuestionOver told All machine old q raw new
  question_at q raw o = subst (λ (l : LinkAt (HubEnd R F)). QuestionOver told All machine l q raw new) begins (subst (λ (l : LinkAt (HubEnd R F)). QuestionOver told All machine a q raw l) ends o)

  number_at : (result : Result ℕ Refusal) → NumberOver told All machine a result b → NumberOver told All machine old result new
  number_at result o = subst (λ (l : LinkAt (HubEnd R F)). NumberOver told All machine l result new) begins (subst (λ (l : LinkAt (HubEnd R F)). NumberOver told All machine a result l) ends o)

  later_at : IsLaterEnd lasts a.there b.there → IsLaterEnd lasts old.there new.there
  later_at later = later_is lasts a.there b.there old.there new.there (ap (λ (l : LinkAt (HubEnd R F)). l.there) begins) (ap (λ (l : LinkAt (HubEnd R F)). l.there) ends) later

  module _ (name : y.name ≡ x.name) (number : y.session ≡ x.session) (kept : y.connection ≡ x.connection) where
    pub question_takes_at : (l : Line) (q : Request) (raw given : Answer) → plain_request l ≡ Some q → is_question q ≡ true → QuestionOver told All machine a q raw b → given ≡ settled raw t → TakesLinked told (rules_of rules_in named_in h) l given h g x y before after
    question_takes_at l q raw given is asks o answers =
        let so = asks_so l q is asks in
        question_law told lasts stands rules_in named_in x y h g before after packs left t name number kept l q raw given so.asks so.only (question_at q raw o) answers

    pub new_takes_at : (result : Result ℕ Refusal) (given : Answer) → NumberOver told All machine a result b → given ≡ settled (number_answer result) t → TakesLinked told (rules_of rules_in named_in h) line.New given h g x y before after
    new_takes_at result given o answers = new_law told lasts stands rules_in named_in x y h g before after packs left t name number kept result given (number_at result o) answers

    pub number_takes_at : (result given : Result ℕ Refusal) → NumberOver told All machine a result b → given ≡ settled_result result t → TakesLinkedDraw told given h g x y before after
    number_takes_at result given o answers = number_law told lasts stands rules_in named_in x y h g before after packs left t name number kept result given (number_at result o) answers

module _ {R F : Type 0} (told lasts : Type 0) (stands : List ℕ → List Transaction → Type 0) (rules_in : R → MergeRules) (named_in : F → List ℕ → Option (List ℕ)) (x y : LinkedClient) (h g : HubState R F) (before after : Option (List Stamp)) (left : Bool) (t : Trouble) (l : Line) (a b : LinkAt (HubEnd R F)) (begins : a ≡ link_at (end_at h before (packs_list l) trouble.NoFault) x.session x.desk x.client) (ends : b ≡ link_at (end_at g after left t) y.session y.desk y.client) where
  abbrev HubSteps : ℕ → Request → Reply → HubEnd R F → HubEnd R F → Type 0
  HubSteps n q r s u = StepsThere told lasts stands rules_in named_in n q r s u

  abbrev there : HubEnd R F → Machine
  there e = machine_at e.hub

  abbrev Sees : Line → Request → Type 0
  Sees k q = SeesList told lasts stands rules_in named_in x y h g before after left t k q

  pub question_hub_at : (q : Request) (raw given : Answer) → plain_request l ≡ Some q → is_question q ≡ true → QuestionOver told HubSteps there a q raw b → given ≡ settled raw t → IsLaterEnd lasts a.there b.there
      → LeavesHub (told × MayStand h x) lasts stands (rules_of rules_in named_in h) (Some (far x)) l (outcome_of_answer given) h g
  question_hub_at q raw given is asks o answers later =
      question_hub told lasts stands rules_in named_in x y h g before after left t l q raw given
      (by_question Sees (history_sees told lasts stands rules_in named_in x y h g before after left t) (log_sees told lasts stands rules_in named_in x y h g before after left t) (pack_sees told lasts stands rules_in named_in x y h g before after left t)
      (begin_sees told lasts stands rules_in named_in x y h g before after left t) (turn_sees told lasts stands rules_in named_in x y h g before after left t) l q is asks)
      (question_at told lasts stands rules_in named_in x y h g before after (packs_list l) left t a b begins ends q raw o) answers (later_at told lasts stands rules_in named_in x y h g before after (packs_list l) left t a b begins ends later)

module _ {R F : Type 0} (told lasts : Type 0) (stands : List ℕ → List Transaction → Type 0) (rules_in : R → MergeRules) (named_in : F → List ℕ → Option (List ℕ)) (x y : LinkedClient) (h g : HubState R F) (before after : Option (List Stamp)) (left : Bool) (t : Trouble) (a b : LinkAt (HubEnd R F)) (begins : a ≡ link_at (end_at h before false trouble.NoFault) x.session x.desk x.client) (ends : b ≡ link_at (end_at g after left t) y.session y.desk y.client) where
  pub new_hub_at : (result : Result ℕ Refusal) (given : Answer) → NumberOver told (λ n q r s u. StepsThere told lasts stands rules_in named_in n q r s u) (λ e. machine_at e.hub) a result b → given ≡ settled (number_answer result) t → IsLaterEnd lasts a.there b.there
      → LeavesHub (told × MayStand h x) lasts stands (rules_of rules_in named_in h) (Some (far x)) line.New (outcome_of_answer given) h g
  new_hub_at result given o answers later =
      new_hub told lasts stands rules_in named_in x y h g before after left t line.New result given (new_sees told lasts stands rules_in named_in x y h g before after left t)
      (number_at told lasts stands rules_in named_in x y h g before after false left t a b begins ends result o) answers (later_at told lasts stands rules_in named_in x y h g before after false left t a b begins ends later)

  pub got_takes_at : (k j : Connection) → k ≡ x.connection → j ≡ y.connection → y.name ≡ x.name → y.session ≡ x.session → (oid : ℕ) (result given : Result (ℕ × List ℕ) Refusal)
      → FittingOver told (λ n q r s u. StepsThere told lasts stands rules_in named_in n q r s u) (λ e. machine_at e.hub) k a oid result j b → given ≡ settled_result result t → TakesLinkedRead told IsGotWhere oid given h g x y before after
  got_takes_at k j from to name number oid result given o answers =
      got_law told lasts stands rules_in named_in x y h g before after left t name number oid result given (got_at o) answers
    where
      Over : Connection → LinkAt (HubEnd R F) → Connection → LinkAt (HubEnd R F) → Type 0
      Over p c q d = FittingOver told (λ n q r s u. StepsThere told lasts stands rules_in named_in n q r s u) (λ e. machine_at e.hub) p c oid result q d

      got_at : Over k a j b → Over x.connection (link_at (end_at h before false trouble.NoFault) x.session x.desk x.client) y.connection (link_at (end_at g after left t) y.session y.desk y.client)
      got_at o =
          subst (λ (p : Connection). Over p (link_at (end_at h before false trouble.NoFault) x.session x.desk x.client) y.connection (link_at (end_at g after left t) y.session y.desk y.client)) from
          (subst (λ (q : Connection). Over k (link_at (end_at h before false trouble.NoFault) x.session x.desk x.client) q (link_at (end_at g after left t) y.session y.desk y.client)) to
          (subst (λ (c : LinkAt (HubEnd R F)). Over k c j (link_at (end_at g after left t) y.session y.desk y.client)) begins (subst (λ (d : LinkAt (HubEnd R F)). Over k a j d) ends o)))
