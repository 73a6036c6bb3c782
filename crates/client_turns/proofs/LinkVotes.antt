-- Votes and undos of a client with a link.
use Rattle.std.proofs.Common.{◌≡◌, ◌⊎◌, ℕ, ◌==◌, ◌-◌, ◌≤◌, ◌<◌, Bool, true, false, List, [], Option, Some, None, Result, Ok, Err, if◌then◌else◌, refl, sym, ap, subst, ◌∙◌, arith, inl, inr}
use Rattle.std.specs.Prelude.{IsOk, OnErr, OnOk, nat_le, nat_lt}
use Rattle.std.specs.Option.{option_map, option_or}
use Rattle.std.proofs.lemmas.Bool.{eqb-false, eqb-true, le-leb, le-ltb, leb-false, lt-leb, lt-ltb}
use Rattle.zb_ids.specs.declared.stamp.Stamp.{Stamp}
use Rattle.zb_model.specs.declared.data.Transaction.{Transaction}
use Rattle.zb_model.specs.declared.refusal.Refusal.{Refusal}
use Rattle.zb_model.specs.declared.refusal.Refusal.TheVariants as refusal
use Rattle.zb_model.specs.Rules.{MergeRules}
use Rattle.zb_answers.specs.declared.answer.Answer.{Answer}
use Rattle.zb_answers.specs.declared.answer.Answer.TheVariants as answer
use Rattle.zb_script.specs.declared.line.Line.{Line}
use Rattle.zb_script.specs.declared.line.Line.TheVariants as line
use Rattle.commit_phases.specs.Pending.{PendingChanges}
use Rattle.zodb_core.specs.declared.reply.Reply.{Reply}
use Rattle.zodb_core.specs.declared.reply.Reply.TheVariants as reply
use Rattle.zodb_core.specs.declared.request.Request.{Request}
use Rattle.zodb_core.specs.declared.request.Request.TheVariants as request
use Rattle.zodb_core.specs.HubState.{HubState, rules_of}
use Rattle.zodb_core.specs.Machine.{Machine, Rules}
use Rattle.zodb_core.specs.Outcomes.{Answered, StepOutcome, outcome_of, outcome_of_refusal}
use Rattle.zodb_core.specs.Steps.{refuse_if}
use Rattle.connection_view.specs.declared.connection.Connection.{Connection}
use Rattle.connection_view.specs.Works.{Work}
use Rattle.connection_view.specs.Connections.{InView, changeable, followed_by, unmixed, waiting_count, work_of}
use Rattle.connection_view.specs.Connections as connections
use Rattle.connection_view.specs.Loading.{Vote}
use Rattle.connection_view.specs.Views.{View, each_object, stored_in, voting}
use Rattle.connection_view.specs.Views as views
use Rattle.zeo_frames.specs.declared.limit.TheConstants.{FRAME_LIMIT}
use Rattle.zeo_messages.specs.declared.answer.Answer.TheVariants as answers
use Rattle.zeo_messages.specs.declared.call.Call.{Call}
use Rattle.zeo_messages.specs.declared.call.Call.TheVariants as calls
use Rattle.zeo_messages.specs.Calls.{is_falling}
use Rattle.zeo_desk.specs.declared.asked.Asked.TheVariants as asked
use Rattle.zeo_desk.specs.Answering.{asked_of, counted_length, in_place_of, is_allowed, sent_answer}
use Rattle.zeo_client.specs.declared.asking.AskError.{AskError}
use Rattle.zeo_client.specs.declared.asking.AskError.TheVariants as ask_error
use Rattle.zeo_client.specs.Asking.{IsTooLong, call_length}
use Rattle.hub_carrier.specs.declared.trouble.Trouble.{Trouble}
use Rattle.hub_carrier.specs.declared.trouble.Trouble.TheVariants as trouble
use Rattle.hub_carrier.proofs.Lengths.{IsNoConflict, refusal_fits}
use Rattle.hub_carrier.specs.Ends.{HubEnd, StepsThere, end_at, machine_at, worse}
use Rattle.local_loads.specs.Answers.{server_refusal}
use Rattle.remote_loads.specs.Answers.{done_answer}
use Rattle.remote_loads.specs.Causes.{IsUndoRefused, far_refusal, unasked}
use Rattle.remote_loads.specs.Making.{IsRemoteUndo, IsRemoteVote, MakesOne, not_undone, not_voted, undone, voted}
use Rattle.remote_loads.specs.Standing.{Stands}
use Rattle.remote_loads.specs.Talking.{IsUnsent, IsWayLost, answer_given}
use Rattle.client_turns.specs.declared.linked.LinkedClient.{LinkedClient}
use Rattle.client_turns.specs.Asking.{answered}
use Rattle.client_turns.specs.Clients.{Changes, Moment, OpenTransaction, changes_of}
use Rattle.client_turns.specs.Clients as seen
use Rattle.client_turns.specs.Frames.{call_excess, reply_excess}
use Rattle.client_turns.specs.Lines.{answer_to, as_voted, client_left, client_told, end_of, is_committed, is_delivery, pending_in, request_of, step_answer, unless_long}
use Rattle.client_turns.specs.Linked.{IsLinkedOf, IsLinkedOpen, IsLinkedWork, LinkedEnds, MayTakeLinked, TakesLinked}
use Rattle.client_turns.specs.OverCarrier.{LinkAt, MakesAt, UndoOver, VoteOver, heard_of, link_at}
use Rattle.client_turns.specs.Refusing.{line_refusal, mixed}
use Rattle.client_turns.specs.Settling.{settled}
use Rattle.client_turns.specs.Standing.{IsLineOpen}
use Rattle.client_turns.proofs.Bare.{calm_lost, done_sent}
use Rattle.client_turns.proofs.LinkEnds.{IsLinkedOpened, linked_none, linked_opened, one_made, short_call, taken_as}
use Rattle.client_turns.proofs.LinkReading.{ends, reached}
use Rattle.client_turns.proofs.One.{refused_open}
use Rattle.client_turns.proofs.OverLink.{answered_ends, linked_answer, linked_stays, long_ends, lost_ends, refused_as, starved_ends, starved_here, step_to}
use Rattle.client_turns.proofs.Served.{Fits, fits_at}

-- ---- what comes for a vote or an undo

same_err : {r s : Refusal} → (let z : Result (Unit {0}) Refusal = Err r in z) ≡ Err s → r ≡ s
same_err e = cc

heard_lost : (r : Refusal) → IsWayLost r → heard_of (Err r) ≡ Err r
heard_lost refusal.LinkFault way = refl
heard_lost refusal.Closed way = refl
heard_lost refusal.Memory way = refl
heard_lost _ way = absurd way

-- a refusal is sent as it is, or as a bad message, or as one that is too long
sent_refusal : (why : Refusal) (P : Result (Unit {0}) Refusal → Type 0) → P (Err refusal.BadMessage) → (nat_le (counted_length (answers.Refused why)) FRAME_LIMIT ≡ false → P (Err (refusal.TooLong (counted_length (answers.Refused why))))) → (nat_le (counted_length (answers.Refused why)) FRAME_LIMIT ≡ true → P (Err (far_refusal why)))
    → P (done_answer (sent_answer asked.Other (answers.Refused why)))
sent_refusal why P bad long told = by_row (is_allowed (answers.Refused why)) refl
  where
    n : ℕ
    n = counted_length (answers.Refused why)

    by_length : (b : Bool) → nat_le n FRAME_LIMIT ≡ b → P (done_answer (if b then answers.Refused why else in_place_of asked.Other n))
    by_length true fits = told fits
    by_length false fits = long fits

    by_row : (b : Bool) → is_allowed (answers.Refused why) ≡ b → P (done_answer (if b then (if nat_le n FRAME_LIMIT then answers.Refused why else in_place_of asked.Other n) else answers.Refused refusal.BadMessage))
    by_row true row = by_length (nat_le n FRAME_LIMIT) refl
    by_row false row = bad

-- where it is heard as it is
heard_cases : (why : Refusal) → (heard_of (Err why) ≡ Err refusal.Memory) ⊎ (heard_of (Err why) ≡ Err why)
heard_cases refusal.BadMessage = inl refl
heard_cases _ = inr refl

-- a refusal of a machine comes as it is
handed_far : (why : Refusal) → server_refusal why ≡ why → (far_refusal why ≡ why) ⊎ (far_refusal why ≡ refusal.BadMessage)
handed_far refusal.LinkFault on = inr refl
handed_far refusal.Closed on = inr refl
handed_far (refusal.FrameTooLong n) on = inr refl
handed_far (refusal.Connected n) on = inr refl
handed_far (refusal.Missing oid packed) on = inr refl
handed_far refusal.NoTransaction on = inr refl
handed_far refusal.InTransaction on = inr refl
handed_far (refusal.NoSavepoint n) on = inr refl
handed_far (refusal.Mixed n) on = inr refl
handed_far (refusal.NotATree n) on = inr refl
handed_far (refusal.NodeMissing n) on = inr refl
handed_far refusal.BadKey on = inr refl
handed_far _ on = inl refl

-- one that doesn't fit a frame is a conflict, and no fault
long_cases : (why : Refusal) → IsNoConflict why
    ⊎ (nat_le (counted_length (answers.Refused why)) FRAME_LIMIT ≡ false → (reply_excess (reply.Refused why) ≡ Some (counted_length (answers.Refused why))) × (outcome_of_refusal why ≡ Answered))
long_cases (refusal.Conflict oid base current reason) =
    inr (λ long. (ap (λ (b : Bool). let o : Option ℕ = if b then None else Some (counted_length (answers.Refused (refusal.Conflict oid base current reason))) in o) long, refl))
long_cases _ = inl tt

-- and is settled so, with what it says of a fault
settled_far : (why : Refusal) → far_refusal why ≡ why → settled (answer.Refused why) (worse trouble.NoFault (outcome_of_refusal why)) ≡ answer.Refused why
settled_far refusal.LinkFault is = absurd cc
settled_far refusal.Closed is = absurd cc
settled_far _ is = refl

told_fits : (why : Refusal) → nat_le (counted_length (answers.Refused why)) FRAME_LIMIT ≡ true → reply_excess (reply.Refused why) ≡ None
told_fits (refusal.Conflict oid base current reason) fits = ap (λ (b : Bool). let o : Option ℕ = if b then None else Some (counted_length (answers.Refused (refusal.Conflict oid base current reason))) in o) fits
told_fits _ fits = refl

-- behind it the client is voted, or as it was, by what is answered
pub record LeavesVoted {R F : Type 0} (g : HubState R F) (y : LinkedClient) (c : seen.Client) (result : Result (Unit {0}) Refusal) : Type 0 where
  pub voted : result ≡ Ok tt → IsLinkedOf g y (record c { transaction = option_map as_voted c.transaction })
  pub same : (r : Refusal) → result ≡ Err r → IsLinkedOf g y c

module _ {R F : Type 0} (told lasts : Type 0) (stands : List ℕ → List Transaction → Type 0) (rules_in : R → MergeRules) (named_in : F → List ℕ → Option (List ℕ)) (x y : LinkedClient) (h g : HubState R F) (before after : Option (List Stamp)) (packs : Bool) (t : Trouble) (name : y.name ≡ x.name) (number : y.session ≡ x.session) where
  abbrev Steps : ℕ → Request → Reply → HubEnd R F → HubEnd R F → Type 0
  Steps n q r s u = StepsThere told lasts stands rules_in named_in n q r s u

  abbrev machine : HubEnd R F → Machine
  machine e = machine_at e.hub

  abbrev start : HubEnd R F
  start = end_at h before false trouble.NoFault

  abbrev finish : HubEnd R F
  finish = end_at g after packs t

  abbrev a : LinkAt (HubEnd R F)
  a = link_at start x.session x.desk x.client

  abbrev b : LinkAt (HubEnd R F)
  b = link_at finish y.session y.desk y.client

  abbrev rules : Rules
  rules = rules_of rules_in named_in h

  quiet : b ≡ a → t ≡ trouble.NoFault
  quiet is = ap (λ (l : LinkAt (HubEnd R F)). l.there.trouble) is

  module _ (tells : told) (m : Moment) (at : ℕ) (c : seen.Client) (takes : MayTakeLinked h before m at x c) where
    abbrev v : views.Client
    v = takes.client.told

    mine : told × Stands (machine_at h) x.session x.desk x.client v
    mine = (tells, takes.client.stands)

    -- ---- what its connection refuses

    module _ (l : Line) (given : Answer) where
      abbrev Goal : Type 0
      Goal = LinkedEnds (end_of given) rules m at c l given h g y after

      -- nothing was done
      undone_ends : b ≡ a → y.connection ≡ x.connection → IsLineOpen rules m at c l given m → Goal
      undone_ends is kept holds =
          ends told lasts stands rules_in named_in x y h g before after packs t name number tells m at c takes l given (end_of given)
          (reached told lasts stands rules_in named_in x y h g before after packs t name number tells m at c takes (IsLineOpen rules m at c l given) x.connection y.connection is takes.client.transaction (ap work_of kept)
          (λ u view. subst (λ (k : Connection). InView k u v) (sym kept) view) (λ between. subst (λ (k : Connection). connections.Between k v) (sym kept) between) holds)

      refused_by : (result : Result (Unit {0}) Refusal) (r why : Refusal) → given ≡ settled (answered (heard_of result) answer.Voted) t → (result ≡ Err r) × (b ≡ a) × (y.connection ≡ x.connection) → r ≡ why → settled (answered (heard_of (Err why)) answer.Voted) trouble.NoFault ≡ answer.Refused why
          → line_refusal (changes_of c) l ≡ Some why → Goal
      refused_by result r why answers said same calm_is refuses =
          let is : given ≡ answer.Refused why =
          answers ∙ ap (λ (z : Result (Unit {0}) Refusal). settled (answered (heard_of z) answer.Voted) t) (said.0 ∙ ap (λ (z : Refusal). let e : Result (Unit {0}) Refusal = Err z in e) same) ∙ ap (λ (z : Trouble). settled (answered (heard_of (Err why)) answer.Voted) z) (quiet said.1) ∙ calm_is in
          undone_ends said.1 said.2 (refused_open rules m at c l given m why refuses is refl)

    -- ---- what was asked for

    -- no step was made, for want of memory
    pub record IsUnmade (result : Result (Unit {0}) Refusal) (u : HubEnd R F) : Type 0 where
      pub refused : Refusal
      pub is : result ≡ Err refused
      pub lost : settled (answered (heard_of (Err refused)) answer.Voted) trouble.NoFault ≡ answer.Refused refusal.Memory
      pub same : u ≡ start

    module _ (l : Line) (q : Request) (call : Call) (free : line_refusal (changes_of c) l ≡ None) (asks : request_of c.standing (changes_of c) l ≡ Some q) (short : call_excess q ≡ None) (small : (n : ℕ) → IsUnsent call (ask_error.TooLong n) → ⊥) (plain : is_delivery l ≡ false) (other : asked_of q ≡ asked.Other) (only : (r : Reply) → Fits r q → (r ≡ reply.Voted) ⊎ ((why : Refusal) × (r ≡ reply.Refused why) × (server_refusal why ≡ why)))
        (result : Result (Unit {0}) Refusal) (given : Answer) (answers_so : given ≡ settled (answered (heard_of result) answer.Voted) t) (left : LeavesVoted g y c result) where
      abbrev Ends : HubEnd R F → Type 0
      Ends u = LinkedEnds (end_of given) rules m at c l given h u.hub y u.stamps

      -- at the end
      abbrev Then : Result (Unit {0}) Refusal → HubEnd R F → Type 0
      Then z u = z ≡ result → u ≡ finish → Ends u

      starved_so : (r : Refusal) → settled (answered (heard_of (Err r)) answer.Voted) trouble.NoFault ≡ answer.Refused refusal.Memory → Then (Err r) start
      starved_so r lost is there =
          starved_ends told lasts stands rules_in named_in tells m at x c h before takes l q free asks short y given
          (answers_so ∙ ap (λ (z : Result (Unit {0}) Refusal). settled (answered (heard_of z) answer.Voted) t) (sym is) ∙ ap (λ (z : HubEnd R F). settled (answered (heard_of (Err r)) answer.Voted) z.trouble) (sym there) ∙ lost)

      way_lost : (r : Refusal) → IsWayLost r → settled (answered (heard_of (Err r)) answer.Voted) trouble.NoFault ≡ answer.Refused refusal.Memory
      way_lost r way = ap (λ (z : Result (Unit {0}) Refusal). settled (answered z answer.Voted) trouble.NoFault) (heard_lost r way) ∙ ap (λ (z : Refusal). answer.Refused z) (calm_lost r way)

      unsent : (error : AskError) → IsUnsent call error → Then (Err (unasked error)) start
      unsent (ask_error.TooLong n) long is there = absurd (small n long)
      unsent ask_error.Memory long is there = starved_so refusal.Memory refl is there

      nothing : (r : Refusal) → IsWayLost r → Then (Err r) start
      nothing r way is there = starved_so r (way_lost r way) is there

      module _ (r : Reply) (u : HubEnd R F) (step : Steps x.session q r start u) where
        -- its answer was lost
        lost_so : (z : Result (Unit {0}) Refusal) (way : Refusal) → IsWayLost way → heard_of z ≡ Err way → (w : Refusal) → z ≡ Err w → Then z u
        lost_so z way lost heard w err is there =
            lost_ends told lasts stands rules_in named_in tells m at x c h before takes l q free asks short y r u step given way lost
            (answers_so ∙ ap (λ (e : Result (Unit {0}) Refusal). settled (answered (heard_of e) answer.Voted) t) (sym is) ∙ ap (λ (e : Result (Unit {0}) Refusal). settled (answered e answer.Voted) t) heard ∙ ap (λ (e : HubEnd R F). settled (answer.Refused way) e.trouble) (sym there))
            (λ goes_on. subst (λ (e : HubEnd R F). IsLinkedOf e.hub y c) (sym there) (left.same w (sym is ∙ err)))

        voted_so : r ≡ reply.Voted → Then (done_answer (answer_given q r)) u
        voted_so vote is there =
            let done : result ≡ Ok tt = sym is ∙ ap (λ (k : Reply). done_answer (answer_given q k)) vote ∙ ap (λ (k : _). done_answer (sent_answer k answers.Done)) other ∙ ap done_answer (done_sent asked.Other) in
            let calm_is : t ≡ trouble.NoFault = ap (λ (e : HubEnd R F). e.trouble) (sym there) ∙ step.trouble ∙ ap (λ (k : Reply). worse trouble.NoFault (outcome_of k)) vote in
            let says : given ≡ answer.Voted = answers_so ∙ ap (λ (e : Result (Unit {0}) Refusal). settled (answered (heard_of e) answer.Voted) t) done ∙ ap (λ (e : Trouble). settled answer.Voted e) calm_is in
            let d : seen.Client = record c { transaction = option_map as_voted c.transaction } in
            let s = step_to told lasts stands rules_in named_in tells m at x c h before takes q r u step in
            answered_ends told lasts stands rules_in named_in tells m at x c h before takes l q free asks short y r u step given d (ap end_of says) (ap is_committed vote)
            (says ∙ sym (ap (λ (k : Bool). step_answer c.standing k r) plain ∙ ap (λ (k : Reply). step_answer c.standing false k) vote ∙ linked_answer c.standing v.known false reply.Voted takes.client.linked refl))
            (sym (ap (λ (k : Bool). client_told s.now.machine r (client_left k s.now.machine c r)) plain ∙ ap (λ (k : Reply). client_told s.now.machine k (client_left false s.now.machine c k)) vote
            ∙ linked_stays s.now.machine reply.Voted d v.known takes.client.linked refl))
            (subst (λ (e : HubEnd R F). IsLinkedOf e.hub y d) (sym there) (left.voted done))

        refused_so : (why : Refusal) → r ≡ reply.Refused why → server_refusal why ≡ why → Then (done_answer (answer_given q r)) u
        refused_so why refused on is there =
            sent_refusal why (λ z. z ≡ result → Ends u) (λ e. lost_so (Err refusal.BadMessage) refusal.Memory tt refl refusal.BadMessage refl e there) (λ long e. long_so long e)
            (λ fits e. by_far fits (handed_far why on) e)
            (sym (ap (λ (k : Reply). done_answer (answer_given q k)) refused ∙ ap (λ (k : _). done_answer (sent_answer k (answers.Refused why))) other) ∙ is)
          where
            exact : nat_le (counted_length (answers.Refused why)) FRAME_LIMIT ≡ true → far_refusal why ≡ why → heard_of (Err why) ≡ Err why → Err why ≡ result → Ends u
            exact fits far heard e =
                let trouble_is : t ≡ worse trouble.NoFault (outcome_of_refusal why) = ap (λ (k : HubEnd R F). k.trouble) (sym there) ∙ step.trouble ∙ ap (λ (k : Reply). worse trouble.NoFault (outcome_of k)) refused in
                let says : given ≡ answer.Refused why =
                answers_so ∙ ap (λ (k : Result (Unit {0}) Refusal). settled (answered (heard_of k) answer.Voted) t) (sym e) ∙ ap (λ (k : Result (Unit {0}) Refusal). settled (answered k answer.Voted) t) heard ∙ ap (λ (k : Trouble). settled (answer.Refused why) k) trouble_is ∙ settled_far why far in
                refused_as told lasts stands rules_in named_in tells m at x c h before takes l q free asks short y r u step given why refused
                (says ∙ sym (ap (λ (k : Bool). step_answer c.standing k (reply.Refused why)) plain ∙ linked_answer c.standing v.known false (reply.Refused why) takes.client.linked (told_fits why fits)))
                (λ goes_on. subst (λ (k : HubEnd R F). IsLinkedOf k.hub y c) (sym there) (left.same why (sym e)))

            n : ℕ
            n = counted_length (answers.Refused why)

            long_so : nat_le n FRAME_LIMIT ≡ false → Err (refusal.TooLong n) ≡ result → Ends u
            long_so long e = by_conflict (long_cases why)
              where
                linked_long : (s : seen.Standing) (k : Reply) → s ≡ seen.Linked v.known → reply_excess k ≡ Some n → step_answer s false k ≡ answer.Refused (refusal.TooLong n)
                linked_long s k is excess = ap (λ (z : seen.Standing). step_answer z false k) is ∙ ap (λ (o : Option ℕ). unless_long o (answer_to false k)) excess

                by_conflict : IsNoConflict why ⊎ (nat_le n FRAME_LIMIT ≡ false → (reply_excess (reply.Refused why) ≡ Some n) × (outcome_of_refusal why ≡ Answered)) → Ends u
                by_conflict (inl plain_one) = let d = refusal_fits why plain_one in let f = leb-false n FRAME_LIMIT long in absurd (omega (arith, d, f))
                by_conflict (inr of) =
                    let trouble_is : t ≡ trouble.NoFault = ap (λ (k : HubEnd R F). k.trouble) (sym there) ∙ step.trouble ∙ ap (λ (k : Reply). worse trouble.NoFault (outcome_of k)) refused ∙ ap (λ (o : StepOutcome). worse trouble.NoFault o) (of long).1 in
                    let says : given ≡ answer.Refused (refusal.TooLong n) =
                    answers_so ∙ ap (λ (k : Result (Unit {0}) Refusal). settled (answered (heard_of k) answer.Voted) t) (sym e) ∙ ap (λ (k : Trouble). settled (answer.Refused (refusal.TooLong n)) k) trouble_is in
                    refused_as told lasts stands rules_in named_in tells m at x c h before takes l q free asks short y r u step given why refused
                    (says ∙ sym (ap (λ (k : Bool). step_answer c.standing k (reply.Refused why)) plain ∙ linked_long c.standing (reply.Refused why) takes.client.linked (of long).0))
                    (λ goes_on. subst (λ (k : HubEnd R F). IsLinkedOf k.hub y c) (sym there) (left.same (refusal.TooLong n) (sym e)))

            by_far : nat_le (counted_length (answers.Refused why)) FRAME_LIMIT ≡ true → (far_refusal why ≡ why) ⊎ (far_refusal why ≡ refusal.BadMessage) → Err (far_refusal why) ≡ result → Ends u
            by_far fits (inr bad) e = lost_so (Err refusal.BadMessage) refusal.Memory tt refl refusal.BadMessage refl (ap (λ (k : Refusal). let z : Result (Unit {0}) Refusal = Err k in z) (sym bad) ∙ e) there
            by_far fits (inl far) e = by_heard (heard_cases why)
              where
                told_e : Err why ≡ result
                told_e = ap (λ (k : Refusal). let z : Result (Unit {0}) Refusal = Err k in z) (sym far) ∙ e

                by_heard : (heard_of (Err why) ≡ Err refusal.Memory) ⊎ (heard_of (Err why) ≡ Err why) → Ends u
                by_heard (inl lost) = lost_so (Err why) refusal.Memory tt lost why refl told_e there
                by_heard (inr heard) = exact fits far heard told_e

        told_so : Then (done_answer (answer_given q r)) u
        told_so is there =
            let s = step_to told lasts stands rules_in named_in tells m at x c h before takes q r u step in
            by_reply (only r (fits_at rules m x.session q r s.now s.holds))
          where
            by_reply : (r ≡ reply.Voted) ⊎ ((why : Refusal) × (r ≡ reply.Refused why) × (server_refusal why ≡ why)) → Ends u
            by_reply (inl vote) = voted_so vote is there
            by_reply (inr (why, refused, on)) = refused_so why refused on is there

      -- by how it was made
      asked_ends : MakesOne (Steps x.session) q call done_answer start result finish → Ends finish
      asked_ends made =
          one_made (Steps x.session) q call done_answer start Then unsent nothing
          (λ r said u way step. lost_so said u step (Err r) r way (heard_lost r way) r refl)
          (λ said u step. told_so said u step) result finish made refl refl

      unmade_ends : IsUnmade result finish → Ends finish
      unmade_ends un =
          subst (λ (e : HubEnd R F). Ends e) (sym un.same) (starved_so un.refused un.lost (sym un.is) (sym un.same))

-- ---- what is left of the client

-- behind what was asked for, of a transaction that is open
vote_left : {R F : Type 0} (g : HubState R F) (x y : LinkedClient) (c : seen.Client) (v k : views.Client) (w : Work) (o : IsLinkedOpened x.connection v w c) (result : Result (Unit {0}) Refusal) → c.name ≡ y.name → c.session ≡ y.session → c.standing ≡ seen.Linked k.known
    → Stands (machine_at g) y.session y.desk y.client k → InView y.connection o.transaction.view k → (result ≡ Ok tt → work_of y.connection ≡ Ok (record w { is_voted = true })) → ((r : Refusal) → result ≡ Err r → work_of y.connection ≡ Ok w) → LeavesVoted g y c result
vote_left {R} {F} g x y c v k w o result named numbered linked stands view done err = record {
  voted = λ ok.
      let kept : IsLinkedWork y.connection k (record w { is_voted = true }) (as_voted o.transaction) = record { changes = ap (λ (ch : Changes). record ch { is_voted = true }) o.is.changes; far = o.is.far; view = view } in
      record {
        name = named;
        session = numbered;
        told = k;
        linked = linked;
        stands = stands;
        transaction = subst (λ (z : Option OpenTransaction). IsLinkedOpen y.connection k (work_of y.connection) (option_map as_voted z)) (sym o.begun)
            (subst (λ (z : Result Work Refusal). IsLinkedOpen y.connection k z (Some (as_voted o.transaction))) (sym (done ok)) kept);
      };
  same = λ r is.
      let kept : IsLinkedWork y.connection k w o.transaction = record { changes = o.is.changes; far = o.is.far; view = view } in
      record {
        name = named;
        session = numbered;
        told = k;
        linked = linked;
        stands = stands;
        transaction = subst (λ (z : Option OpenTransaction). IsLinkedOpen y.connection k (work_of y.connection) z) (sym o.begun) (subst (λ (z : Result Work Refusal). IsLinkedOpen y.connection k z (Some o.transaction)) (sym (err r is)) kept);
      };
}

-- ---- what was made

vote_made : {S : Type 0} (steps : Request → Reply → S → S → Type 0) (s : S) (user description : List ℕ) (stores : _) (checks : _) (result : Result (Unit {0}) Refusal) (u : S) → IsRemoteVote steps s user description stores checks result u
    → ((result ≡ Err refusal.Memory) × (u ≡ s)) ⊎ MakesOne steps (request.Vote user description [] (record { stores = stores; checks = checks })) calls.Vote done_answer s result u
vote_made steps s user description stores checks _ _ not_voted = inl (refl, refl)
vote_made steps s user description stores checks _ _ (voted result u made) = inr made

-- an undo doesn't fit a frame, or there was no memory for it; or it was asked for, and fits one
pub data IsUndoing {S : Type 0} (steps : Request → Reply → S → S → Type 0) (s : S) (user description tids : List ℕ) (result : Result (Unit {0}) Refusal) (u : S) : Type 0 where
  undoes_long : (n : ℕ) → IsTooLong (calls.Undoa user description tids) n → result ≡ Err (refusal.TooLong n) → u ≡ s → IsUndoing steps s user description tids result u
  undoes_starved : (r : Refusal) → heard_of (Err r) ≡ Err refusal.Memory → result ≡ Err r → u ≡ s → IsUndoing steps s user description tids result u
  undoes_asked : call_length (calls.Undoa user description tids) ≤ FRAME_LIMIT → MakesOne steps (request.Undo user description tids) (calls.Undoa user description tids) done_answer s result u → IsUndoing steps s user description tids result u

undo_made : {S : Type 0} (steps : Request → Reply → S → S → Type 0) (s : S) (user description tids : List ℕ) (result : Result (Unit {0}) Refusal) (u : S) → IsRemoteUndo steps s user description tids result u
    → IsUndoing steps s user description tids result u
undo_made steps s user description tids _ _ (not_undone r why) = by_why r why
  where
    by_why : (r : Refusal) → IsUndoRefused (calls.Undoa user description tids) (is_falling tids) r → IsUndoing steps s user description tids (Err r) s
    by_why refusal.BadMessage why = undoes_starved refusal.BadMessage refl refl refl
    by_why (refusal.TooLong n) why = undoes_long n why refl refl
    by_why refusal.Memory why = undoes_starved refusal.Memory refl refl refl
    by_why _ why = absurd why
undo_made steps s user description tids _ _ (undone result u within made) = undoes_asked within made

-- what may be answered to them
only_vote : (user description : List ℕ) (extension : List ℕ) (pending : PendingChanges) (r : Reply) → Fits r (request.Vote user description extension pending) → (r ≡ reply.Voted) ⊎ ((why : Refusal) × (r ≡ reply.Refused why) × (server_refusal why ≡ why))
only_vote user description extension pending reply.Voted fits = inl refl
only_vote user description extension pending (reply.Refused why) fits = inr (why, refl, fits)
only_vote user description extension pending _ fits = absurd fits

only_undo : (user description tids : List ℕ) (r : Reply) → Fits r (request.Undo user description tids) → (r ≡ reply.Voted) ⊎ ((why : Refusal) × (r ≡ reply.Refused why) × (server_refusal why ≡ why))
only_undo user description tids reply.Voted fits = inl refl
only_undo user description tids (reply.Refused why) fits = inr (why, refl, fits)
only_undo user description tids _ fits = absurd fits

-- ---- how long an undo is

past_limit : (size n : ℕ) → size ≡ n → FRAME_LIMIT < n → nat_le size FRAME_LIMIT ≡ false
past_limit size n is above = lt-leb size FRAME_LIMIT (omega (arith, is, above))

not_past : (size n : ℕ) → size ≡ n → FRAME_LIMIT < n → size ≤ FRAME_LIMIT → ⊥
not_past size n is above within = absurd (omega (arith, is, above, within))

-- ---- an undo beside what waits

mixed_as : (n : ℕ) → ((n == 0) ≡ true) × (nat_lt 0 n ≡ false) ⊎ ((n == 0) ≡ false) × (nat_lt 0 n ≡ true)
mixed_as n = by_test (n == 0) refl
  where
    by_test : (d : Bool) → (n == 0) ≡ d → ((n == 0) ≡ true) × (nat_lt 0 n ≡ false) ⊎ ((n == 0) ≡ false) × (nat_lt 0 n ≡ true)
    by_test true is = let e = eqb-true n 0 is in inl (is, le-ltb 0 n (omega (arith, e)))
    by_test false is = let e = eqb-false n 0 is in inr (is, lt-ltb 0 n (above n e))
      where
        above : (k : ℕ) → (k ≡ 0 → ⊥) → 0 < k
        above k other = omega (arith, other)

-- ---- the lines

module _ {R F : Type 0} (told lasts : Type 0) (stands : List ℕ → List Transaction → Type 0) (rules_in : R → MergeRules) (named_in : F → List ℕ → Option (List ℕ)) (x y : LinkedClient) (h g : HubState R F) (before after : Option (List Stamp)) (packs : Bool) (t : Trouble) (name : y.name ≡ x.name) (number : y.session ≡ x.session) where
  abbrev VoteSteps : ℕ → Request → Reply → HubEnd R F → HubEnd R F → Type 0
  VoteSteps n q r s u = StepsThere told lasts stands rules_in named_in n q r s u

  abbrev there : HubEnd R F → Machine
  there e = machine_at e.hub

  abbrev one : LinkAt (HubEnd R F)
  one = link_at (end_at h before false trouble.NoFault) x.session x.desk x.client

  abbrev two : LinkAt (HubEnd R F)
  two = link_at (end_at g after packs t) y.session y.desk y.client

  pub vote_law : (user description : List ℕ) (reply given : Answer) → VoteOver told VoteSteps there x.connection one user description reply y.connection two → given ≡ settled reply t → TakesLinked told (rules_of rules_in named_in h) (line.Vote user description) given h g x y before after
  vote_law user description reply given o answers_so tells m at c takes = by_work (work_of x.connection) refl
    where
      l : Line
      l = line.Vote user description

      v : views.Client
      v = takes.client.told

      Then : Type 0
      Then = LinkedEnds (end_of given) (rules_of rules_in named_in h) m at c l given h g y after

      says : given ≡ settled (answered (heard_of o.result) answer.Voted) t
      says = answers_so ∙ ap (λ (z : Answer). settled z t) o.answer

      changeable_as : (w : Work) (z : Bool) → work_of x.connection ≡ Ok w → w.is_voted ≡ z → changeable (work_of x.connection) ≡ (if z then (let e : Result Work Refusal = Err refusal.Voted in e) else Ok w)
      changeable_as w z works votes = ap changeable works ∙ ap (λ (b : Bool). if b then (let e : Result Work Refusal = Err refusal.Voted in e) else Ok w) votes

      by_work : (wr : Result Work Refusal) → work_of x.connection ≡ wr → Then
      by_work (Err r) works =
          let none = linked_none x.connection v (work_of x.connection) r c takes.client.transaction works in
          refused_by told lasts stands rules_in named_in x y h g before after packs t name number tells m at c takes l given o.result r refusal.NoTransaction says (o.refused r (ap changeable works)) none.0 refl (taken_as (λ ch. line_refusal ch l) c None none.1)
      by_work (Ok w) works = by_voted w.is_voted refl
        where
          p : IsLinkedOpened x.connection v w c
          p = linked_opened x.connection v (work_of x.connection) w c takes.client.transaction works

          refusal_is : (z : Bool) → w.is_voted ≡ z → line_refusal (changes_of c) l ≡ refuse_if z refusal.Voted
          refusal_is z votes = taken_as (λ ch. line_refusal ch l) c (Some p.transaction) p.begun ∙ ap (λ (ch : Changes). refuse_if ch.is_voted refusal.Voted) p.is.changes ∙ ap (λ (b : Bool). refuse_if b refusal.Voted) votes

          by_voted : (z : Bool) → w.is_voted ≡ z → Then
          by_voted true votes =
              refused_by told lasts stands rules_in named_in x y h g before after packs t name number tells m at c takes l given o.result refusal.Voted refusal.Voted says (o.refused refusal.Voted (changeable_as w true works votes)) refl refl (refusal_is true votes)
          by_voted false votes = by_call (o.makes w (changeable_as w false works votes))
            where
              q : Request
              q = request.Vote user description [] w.pending

              asks : request_of c.standing (changes_of c) l ≡ Some q
              asks = ap (λ (z : PendingChanges). Some (request.Vote user description [] z)) (taken_as pending_in c (Some p.transaction) p.begun ∙ ap (λ (ch : Changes). ch.pending) p.is.changes)

              known_as : (k : views.Client) → (k ≡ v) ⊎ (k ≡ voting (stored_in w.pending.stores) v) → k.known ≡ v.known
              known_as k (inl is) = ap (λ (z : views.Client). z.known) is
              known_as k (inr is) = ap (λ (z : views.Client). z.known) is

              left : LeavesVoted g y c o.result
              left =
                  let seen_by = o.view p.transaction.view v w works (tells, takes.client.stands) p.is.view in
                  vote_left g x y c v seen_by.0 w p o.result (takes.client.name ∙ sym name) (takes.client.session ∙ sym number) (takes.client.linked ∙ ap (λ (k : View). seen.Linked k) (sym (known_as seen_by.0 seen_by.3))) seen_by.1.1 seen_by.2
                  (λ ok. subst (λ (z : Result (Unit {0}) Refusal). OnOk z ((w : Work) → work_of x.connection ≡ Ok w → work_of y.connection ≡ Ok (record w { is_voted = true }))) ok o.voted w works)
                  (λ r is. subst (λ (z : Result (Unit {0}) Refusal). OnErr z (work_of y.connection ≡ work_of x.connection)) is o.err ∙ works)

              by_made : ((o.result ≡ Err refusal.Memory) × (end_at g after packs t ≡ end_at h before false trouble.NoFault))
                  ⊎ MakesOne (VoteSteps x.session) q calls.Vote done_answer (end_at h before false trouble.NoFault) o.result (end_at g after packs t) → Then
              by_made (inr made) =
                  asked_ends told lasts stands rules_in named_in x y h g before after packs t name number tells m at c takes l q calls.Vote (refusal_is false votes) asks refl (λ n long. short_call calls.Vote n (omega arith) (omega arith) long) refl refl
                  (only_vote user description [] w.pending) o.result given says left made
              by_made (inl (is, same)) =
                  unmade_ends told lasts stands rules_in named_in x y h g before after packs t name number tells m at c takes l q calls.Vote (refusal_is false votes) asks refl (λ n long. short_call calls.Vote n (omega arith) (omega arith) long) refl refl
                  (only_vote user description [] w.pending) o.result given says left (record { refused = refusal.Memory; is = is; lost = refl; same = same })

              by_call : connections.IsCallMade (MakesAt told VoteSteps there) one two (Vote user description w.pending.stores w.pending.checks o.result) o.result → Then
              by_call (inl made) = by_made (vote_made (VoteSteps x.session) (end_at h before false trouble.NoFault) user description w.pending.stores w.pending.checks o.result (end_at g after packs t) (made tells v takes.client.stands))
              by_call (inr (same, starved)) = by_made (inl (starved, ap (λ (z : LinkAt (HubEnd R F)). z.there) same))

  pub undo_law : (user description tids : List ℕ) (reply given : Answer) → UndoOver told VoteSteps there x.connection one user description tids reply y.connection two → given ≡ settled reply t
      → TakesLinked told (rules_of rules_in named_in h) (line.Undo user description tids) given h g x y before after
  undo_law user description tids reply given o answers_so tells m at c takes = by_work (work_of x.connection) refl
    where
      l : Line
      l = line.Undo user description tids

      q : Request
      q = request.Undo user description tids

      v : views.Client
      v = takes.client.told

      Then : Type 0
      Then = LinkedEnds (end_of given) (rules_of rules_in named_in h) m at c l given h g y after

      says : given ≡ settled (answered (heard_of o.result) answer.Voted) t
      says = answers_so ∙ ap (λ (z : Answer). settled z t) o.answer

      next_as : (w : Work) (z : Bool) → work_of x.connection ≡ Ok w → w.is_voted ≡ z → followed_by (changeable (work_of x.connection)) unmixed ≡ followed_by (if z then (let e : Result Work Refusal = Err refusal.Voted in e) else Ok w) unmixed
      next_as w z works votes = ap (λ (e : Result Work Refusal). followed_by (changeable e) unmixed) works ∙ ap (λ (b : Bool). followed_by (if b then (let e : Result Work Refusal = Err refusal.Voted in e) else Ok w) unmixed) votes

      by_work : (wr : Result Work Refusal) → work_of x.connection ≡ wr → Then
      by_work (Err r) works =
          let none = linked_none x.connection v (work_of x.connection) r c takes.client.transaction works in
          refused_by told lasts stands rules_in named_in x y h g before after packs t name number tells m at c takes l given o.result r refusal.NoTransaction says (o.refused r (ap (λ (e : Result Work Refusal). followed_by (changeable e) unmixed) works)) none.0 refl
          (taken_as (λ ch. line_refusal ch l) c None none.1)
      by_work (Ok w) works = by_voted w.is_voted refl
        where
          p : IsLinkedOpened x.connection v w c
          p = linked_opened x.connection v (work_of x.connection) w c takes.client.transaction works

          n : ℕ
          n = waiting_count w.pending

          refusal_is : (z e : Bool) → w.is_voted ≡ z → nat_lt 0 n ≡ e → line_refusal (changes_of c) l ≡ option_or (refuse_if z refusal.Voted) (refuse_if e (refusal.Mixed n))
          refusal_is z e votes count =
              taken_as (λ ch. line_refusal ch l) c (Some p.transaction) p.begun ∙ ap (λ (ch : Changes). option_or (refuse_if ch.is_voted refusal.Voted) (mixed ch.pending)) p.is.changes
              ∙ ap (λ (b : Bool). option_or (refuse_if b refusal.Voted) (mixed w.pending)) votes ∙ ap (λ (b : Bool). option_or (refuse_if z refusal.Voted) (refuse_if b (refusal.Mixed n))) count

          by_voted : (z : Bool) → w.is_voted ≡ z → Then
          by_voted true votes =
              refused_by told lasts stands rules_in named_in x y h g before after packs t name number tells m at c takes l given o.result refusal.Voted refusal.Voted says (o.refused refusal.Voted (next_as w true works votes)) refl refl
              (refusal_is true (nat_lt 0 n) votes refl)
          by_voted false votes = by_count (mixed_as n)
            where
              unmixed_as : (e : Bool) → (n == 0) ≡ e → followed_by (changeable (work_of x.connection)) unmixed ≡ (if e then Ok w else Err (refusal.Mixed n))
              unmixed_as e count = next_as w false works votes ∙ ap (λ (b : Bool). if b then (let k : Result Work Refusal = Ok w in k) else Err (refusal.Mixed n)) count

              by_asked : (n == 0) ≡ true → nat_lt 0 n ≡ false → Then
              by_asked none few = by_made (undo_made (VoteSteps x.session) (end_at h before false trouble.NoFault) user description tids o.result (end_at g after packs t) (o.makes goes tells v takes.client.stands))
                where
                  goes : IsOk (followed_by (changeable (work_of x.connection)) unmixed)
                  goes = subst IsOk (sym (unmixed_as true none)) refl

                  free : line_refusal (changes_of c) l ≡ None
                  free = refusal_is false false votes few

                  asks : request_of c.standing (changes_of c) l ≡ Some q
                  asks = taken_as (λ ch. request_of c.standing ch l) c (Some p.transaction) p.begun

                  size : ℕ
                  size = call_length (calls.Undoa user description tids)

                  excess : (b : Bool) → nat_le size FRAME_LIMIT ≡ b → call_excess q ≡ (if b then None else Some size)
                  excess b is = ap (λ (b : Bool). let e : Option ℕ = if b then None else Some size in e) is

                  left : LeavesVoted g y c o.result
                  left =
                      let seen_by = o.view p.transaction.view v goes (tells, takes.client.stands) p.is.view in
                      vote_left g x y c v (voting each_object v) w p o.result (takes.client.name ∙ sym name) (takes.client.session ∙ sym number) takes.client.linked seen_by.0.1 seen_by.1
                      (λ ok. subst (λ (z : Result (Unit {0}) Refusal). OnOk z ((w : Work) → work_of x.connection ≡ Ok w → work_of y.connection ≡ Ok (record w { is_voted = true }))) ok o.voted w works)
                      (λ r is. subst (λ (z : Result (Unit {0}) Refusal). OnErr z (work_of y.connection ≡ work_of x.connection)) is o.err ∙ works)

                  -- no step was made
                  unmade : (r : Refusal) (z : Answer) → settled (answered (heard_of (Err r)) answer.Voted) trouble.NoFault ≡ z → o.result ≡ Err r → end_at g after packs t ≡ end_at h before false trouble.NoFault → given ≡ z
                  unmade r z lost is same =
                      says ∙ ap (λ (e : Result (Unit {0}) Refusal). settled (answered (heard_of e) answer.Voted) t) is ∙ ap (λ (e : HubEnd R F). settled (answered (heard_of (Err r)) answer.Voted) e.trouble) same ∙ lost

                  at_start : end_at g after packs t ≡ end_at h before false trouble.NoFault → LinkedEnds (end_of given) (rules_of rules_in named_in h) m at c l given h h y before → Then
                  at_start same = subst (λ (e : HubEnd R F). LinkedEnds (end_of given) (rules_of rules_in named_in h) m at c l given h e.hub y e.stamps) (sym same)

                  by_made : IsUndoing (VoteSteps x.session) (end_at h before false trouble.NoFault) user description tids o.result (end_at g after packs t) → Then
                  by_made (undoes_long k long is same) =
                      at_start same
                      (long_ends told lasts stands rules_in named_in tells m at x c h before takes l q k free asks
                      (excess false (past_limit size k long.long long.above) ∙ ap (λ (z : ℕ). Some z) long.long) y given
                      (unmade (refusal.TooLong k) (answer.Refused (refusal.TooLong k)) refl is same) (subst (λ (e : HubEnd R F). IsLinkedOf e.hub y c) same (left.same (refusal.TooLong k) is)))
                  by_made (undoes_starved r heard is same) =
                      at_start same
                      (starved_here told lasts stands rules_in named_in tells m at x c h before takes l y given
                      (unmade r (answer.Refused refusal.Memory) (ap (λ (z : Result (Unit {0}) Refusal). settled (answered z answer.Voted) trouble.NoFault) heard) is same))
                  by_made (undoes_asked within made) =
                      asked_ends told lasts stands rules_in named_in x y h g before after packs t name number tells m at c takes l q (calls.Undoa user description tids) free asks (excess true (le-leb size FRAME_LIMIT within))
                      (λ k long. not_past size k long.long long.above within) refl refl (only_undo user description tids) o.result given says left made

              by_count : ((n == 0) ≡ true) × (nat_lt 0 n ≡ false) ⊎ ((n == 0) ≡ false) × (nat_lt 0 n ≡ true) → Then
              by_count (inr (some, many)) =
                  refused_by told lasts stands rules_in named_in x y h g before after packs t name number tells m at c takes l given o.result (refusal.Mixed n) (refusal.Mixed n) says (o.refused (refusal.Mixed n) (unmixed_as false some)) refl refl
                  (refusal_is false true votes many)
              by_count (inl (none, few)) = by_asked none few
