-- A client with a link finishes what it voted on.
use Rattle.std.proofs.Common.{◌≡◌, ◌⊎◌, ℕ, ◌≤◌, Bool, true, false, not, List, Option, Some, None, Result, Ok, Err, refl, sym, ap, subst, ◌∙◌, arith, inl, inr}
use Rattle.std.specs.Prelude.{IfErr, IfOk, MatchOption, OnErr, OnOk, slice_set}
use Rattle.std.specs.Option.{option_or}
use Rattle.zb_ids.specs.declared.stamp.Stamp.{Stamp}
use Rattle.zb_model.specs.declared.data.Transaction.{Transaction}
use Rattle.zb_model.specs.declared.news.News.{News}
use Rattle.zb_model.specs.declared.refusal.Refusal.{Refusal}
use Rattle.zb_model.specs.declared.refusal.Refusal.TheVariants as refusal
use Rattle.zb_model.specs.Rules.{MergeRules}
use Rattle.zb_answers.specs.declared.answer.Answer.{Answer}
use Rattle.zb_answers.specs.declared.answer.Answer.TheVariants as answer
use Rattle.zb_script.specs.declared.line.Line.TheVariants as line
use Rattle.zodb_core.specs.declared.reply.Reply.{Reply}
use Rattle.zodb_core.specs.declared.reply.Reply.TheVariants as reply
use Rattle.zodb_core.specs.declared.request.Request.{Request}
use Rattle.zodb_core.specs.declared.request.Request.TheVariants as request
use Rattle.zodb_core.specs.HubState.{HubState, rules_of}
use Rattle.zodb_core.specs.Machine.{Rules, is_open_in}
use Rattle.zodb_core.specs.Outcomes.{Answered, outcome_of}
use Rattle.zodb_core.specs.Steps.{refuse_if}
use Rattle.connection_view.specs.declared.connection.Connection.{Connection}
use Rattle.connection_view.specs.Works.{Work}
use Rattle.connection_view.specs.Connections.{Between, InView, work_of}
use Rattle.connection_view.specs.Loading.{Finish, IsNothingDone, LoadsCall}
use Rattle.connection_view.specs.Views.{View, committed, unvoted, view_of}
use Rattle.connection_view.specs.Views as views
use Rattle.local_loads.specs.LocalLaws.{view_whole}
use Rattle.zeo_messages.specs.declared.answer.Answer.{Answer as FarAnswer}
use Rattle.zeo_messages.specs.declared.call.Call.TheVariants as calls
use Rattle.zeo_desk.specs.declared.asked.Asked.TheVariants as asked
use Rattle.zeo_desk.specs.Answering.{reply_answer, sent_answer}
use Rattle.zeo_desk.specs.Desks.{committed_tid}
use Rattle.zeo_client.specs.declared.asking.AskError.{AskError}
use Rattle.zeo_client.specs.declared.asking.AskError.TheVariants as ask_error
use Rattle.zeo_serving.specs.Serving.{server_at}
use Rattle.hub_carrier.specs.declared.trouble.Trouble.{Trouble}
use Rattle.hub_carrier.specs.declared.trouble.Trouble.TheVariants as trouble
use Rattle.hub_carrier.specs.Ends.{HubEnd, StepsThere, end_at, machine_at}
use Rattle.remote_loads.specs.Answers.{count_answer, finish_answer}
use Rattle.remote_loads.specs.Causes.{behind_commit, unasked}
use Rattle.remote_loads.specs.Finishing.{FinishSteps, IsRemoteFinish, behind_finish, finish_and_front, finish_answered, finish_committed, finish_lost, no_finish, not_finished, one_finish}
use Rattle.remote_loads.specs.Making.{IsAnsweredLike, MakesOne}
use Rattle.remote_loads.specs.Standing.{Stands}
use Rattle.remote_loads.specs.Talking.{IsUnsent, IsWayLost, answer_given}
use Rattle.client_turns.specs.declared.linked.LinkedClient.{LinkedClient}
use Rattle.client_turns.specs.Asking.{finished_as}
use Rattle.client_turns.specs.Clients.{Moment, changes_of, with_client}
use Rattle.client_turns.specs.Clients as seen
use Rattle.client_turns.specs.Lines.{end_of, request_of, standing_behind}
use Rattle.client_turns.specs.Linked.{IsLinkedOf, IsLinkedOpen, LinkLeadsTo, LinkedEnds, LinkedLeadsTo, MayTakeLinked, TakesLinked}
use Rattle.client_turns.specs.Others.{KeepsOthers}
use Rattle.client_turns.specs.Refusing.{connection_refusal, line_refusal}
use Rattle.client_turns.specs.Settling.{settled}
use Rattle.client_turns.specs.Standing.{IsLineOpen}
use Rattle.client_turns.specs.Steps.{IsStepAt}
use Rattle.client_turns.specs.Turns.{IsCutAt, IsStepLine, IsTold, fronts_behind}
use Rattle.client_turns.specs.Views.{server_of}
use Rattle.client_turns.proofs.Bare.{EndReply, IsBare, bare_far, bare_sent, calm_lost, done_sent, end_reply, front_sent, settled_bare}
use Rattle.client_turns.proofs.Hubs.{open_whole}
use Rattle.client_turns.proofs.LinkEnds.{IsLinkedOpened, LinkEnd, Makes, Stood, behind, call_made, client_at, link_end, linked_none, linked_opened, one_made, refused_so, short_call, stood, taken_as}
use Rattle.client_turns.proofs.LinkFronts.{IsFrontReply, Reached, finish_unread, front_or_fault, front_unread, front_unwritten, lost_ends_run, open_commit, open_front, reach, reached, still_calm}
use Rattle.client_turns.proofs.OverLink.{answered_ends, linked_answer, linked_stays, lost_ends, refused_ends, starved_ends, step_line_open, step_to}

no_front : (why : Refusal) → IsFrontReply (reply.Refused why) → ⊥
no_front why shape = other why shape.front shape.news shape.switches shape.is
  where
    other : (why : Refusal) (front : ℕ) (news : News) (switches : ℕ) → reply.Refused why ≡ reply.Front front news switches → ⊥
    other why front news switches e = cc

-- a refusal that says that nothing was done
bare_done : (why : Refusal) → IsBare why → end_of (answer.Refused why) ≡ None → IsNothingDone why
bare_done refusal.NotOpen is goes_on = tt
bare_done refusal.NotVoted is goes_on = tt
bare_done refusal.ReadFault is goes_on = tt
bare_done refusal.StoreFault is goes_on = absurd cc
bare_done refusal.Memory is goes_on = absurd cc
bare_done _ is goes_on = absurd is

module _ {R F S : Type 0} (told lasts : Type 0) (stands : List ℕ → List Transaction → Type 0) (rules_in : R → MergeRules) (named_in : F → List ℕ → Option (List ℕ)) (x y : LinkedClient) (h g : HubState R F) (before after : Option (List Stamp)) (packs : Bool) (t : Trouble) (state : S → LinkEnd R F) (a b : S) (begins : state a ≡ link_end (end_at h before false trouble.NoFault) x) (ends : state b ≡ link_end (end_at g after packs t) y) (name : y.name ≡ x.name) (number : y.session ≡ x.session) where
  abbrev MakesSo : S → LoadsCall → S → Type 0
  MakesSo o call n = Makes told lasts stands rules_in named_in x y h g before after packs t state a b begins ends name o call n

  abbrev StoodSo : S → views.Client → Type 0
  StoodSo s v = Stood told lasts stands rules_in named_in x y h g before after packs t state a b begins ends name s v

  abbrev now_known : S → View
  now_known s = view_of (server_at (machine_at (state s).there.hub))

  -- what a finish may leave
  abbrev pub FinishLeft : Option ℕ → Type 0
  FinishLeft tid = MatchOption tid ((u : View) (v : views.Client) → StoodSo a v → InView x.connection u v → (StoodSo b (unvoted v)) × (Between y.connection (unvoted v)))
      (λ tid. (u : View) (v : views.Client) → StoodSo a v → InView x.connection u v → (StoodSo b (committed (now_known b) v)) × (Between y.connection (committed (now_known b) v)))

  module _ (result : Result (Option ℕ) Refusal) (ended : OnOk result (work_of y.connection ≡ Err refusal.NoTransaction)) (left : IfOk result FinishLeft) (err : OnErr result (y.connection ≡ x.connection)) (same : IfErr result (λ r. IsNothingDone r → (v : views.Client) → StoodSo a v → StoodSo b v)) (given : Answer) (answers : given ≡ settled (finished_as result) t) (tells : told) (m : Moment) (at : ℕ) (c : seen.Client) (takes : MayTakeLinked h before m at x c) where
    abbrev rules : Rules
    rules = rules_of rules_in named_in h

    abbrev k : views.Client
    k = takes.client.told

    abbrev start : HubEnd R F
    start = end_at h before false trouble.NoFault

    abbrev end : HubEnd R F
    end = end_at g after packs t

    abbrev Steps : Request → Reply → HubEnd R F → HubEnd R F → Type 0
    Steps q r s u = StepsThere told lasts stands rules_in named_in x.session q r s u

    abbrev Goal : Type 0
    Goal = LinkedEnds (end_of given) rules m at c line.Finish given h g y after

    mine : StoodSo a k
    mine = stood told lasts stands rules_in named_in x y h g before after packs t state a b begins ends name tells m at c takes number

    here : (j : views.Client) → StoodSo b j → Stands (machine_at g) y.session y.desk y.client j
    here j is = behind told lasts stands rules_in named_in x y h g before after packs t state a b begins ends name tells m at c takes number j is

    client_so : (d : seen.Client) (j : views.Client) → d.name ≡ c.name → d.session ≡ c.session → d.standing ≡ seen.Linked j.known → Stands (machine_at g) y.session y.desk y.client j → IsLinkedOpen y.connection j (work_of y.connection) d.transaction → IsLinkedOf g y d
    client_so d j named numbered linked is opened =
        client_at told lasts stands rules_in named_in x y h g before after packs t state a b begins ends name tells m at c takes number end d j named numbered linked is opened

    says : (z : Result (Option ℕ) Refusal) → result ≡ z → given ≡ settled (finished_as z) t
    says z is = answers ∙ ap (λ (w : Result (Option ℕ) Refusal). settled (finished_as w) t) is

    on_err : {P : Type 0} (r : Refusal) → result ≡ Err r → OnErr result P → P
    on_err {P} r is e = subst (λ (z : Result (Option ℕ) Refusal). OnErr z P) is e

    closed_finish : (r : Refusal) → work_of x.connection ≡ Err r → (result ≡ Err r) × (b ≡ a) → Goal
    closed_finish r works said =
        let none = linked_none x.connection k (work_of x.connection) r c takes.client.transaction works in
        refused_so told lasts stands rules_in named_in x y h g before after packs t state a b begins ends name tells m at c takes number line.Finish given refusal.NoTransaction said.1 (on_err r said.0 err)
        (taken_as (λ ch. line_refusal ch line.Finish) c None none.1) (says (Err r) said.0 ∙ ap (λ (z : Refusal). settled (answer.Refused z) t) none.0) refl refl

    -- where one is open
    module _ (w : Work) (works : work_of x.connection ≡ Ok w) where
      o : IsLinkedOpened x.connection k w c
      o = linked_opened x.connection k (work_of x.connection) w c takes.client.transaction works

      free : line_refusal (changes_of c) line.Finish ≡ None
      free = taken_as (λ ch. line_refusal ch line.Finish) c (Some o.transaction) o.begun

      asks : request_of c.standing (changes_of c) line.Finish ≡ Some request.Finish
      asks = taken_as (λ ch. request_of c.standing ch line.Finish) c (Some o.transaction) o.begun

      taken : connection_refusal m.machine c line.Finish ≡ None
      taken = ap (λ (z : Bool). option_or (refuse_if (not z) refusal.NotOpen) (line_refusal (changes_of c) line.Finish)) takes.may ∙ free

      at_end : (u : HubEnd R F) → u ≡ end → LinkedEnds (end_of given) rules m at c line.Finish given h u.hub y u.stamps → Goal
      at_end u is goal = subst (λ (z : HubEnd R F). LinkedEnds (end_of given) rules m at c line.Finish given h z.hub y z.stamps) is goal

      is_open : is_open_in m.machine.sessions x.session ≡ true
      is_open = ap (λ (n : ℕ). is_open_in m.machine.sessions n) (sym takes.client.session) ∙ takes.may

      starved : (r : Refusal) → IsWayLost r → Err r ≡ result → start ≡ end → Goal
      starved r way is there =
          at_end start there (starved_ends told lasts stands rules_in named_in tells m at x c h before takes line.Finish request.Finish free asks refl y given
          (says (Err r) (sym is) ∙ ap (λ (z : HubEnd R F). settled (answer.Refused r) z.trouble) (sym there) ∙ ap (λ (z : Refusal). answer.Refused z) (calm_lost r way)))

      abbrev first : Reached told lasts stands rules_in named_in tells m h x.session start
      first = reached told lasts stands rules_in named_in tells m h x.session before false trouble.NoFault takes.stands

      -- cut off behind a commit, and as many fronts
      module _ (tid : ℕ) (u1 : HubEnd R F) (commit : Steps request.Finish (reply.Committed tid) start u1) where
        p1 : (e : Reached told lasts stands rules_in named_in tells m h x.session u1) × IsStepAt rules m x.session request.Finish (reply.Committed tid) e.now
        p1 = reach told lasts stands rules_in named_in tells m h x.session request.Finish (reply.Committed tid) start u1 first commit tt

        cut : (count : ℕ) (u : HubEnd R F) → (e : Reached told lasts stands rules_in named_in tells m h x.session u) → count ≤ 2 → IsTold rules count p1.0.now x.session e.now → u ≡ end → given ≡ answer.Refused refusal.Memory → Goal
        cut count u e few fronts there memory =
            at_end u there (subst (λ (z : Answer). LinkedEnds (end_of z) rules m at c line.Finish z h u.hub y u.stamps) (sym memory)
            (let leads : LinkLeadsTo (λ now. IsLineOpen rules m at c line.Finish (answer.Refused refusal.Memory) now ⊎ IsCutAt rules m c line.Finish now) m c.session h u.hub u.stamps = record {
              now = e.now;
              holds = inr (record {
                known = k.known;
                linked = takes.client.linked;
                taken = taken;
                request = request.Finish;
                asks = asks;
                cut = record {
                  reply = reply.Committed tid;
                  behind = p1.0.now;
                  step = subst (λ (n : ℕ). IsStepAt rules m n request.Finish (reply.Committed tid) p1.0.now) (sym takes.client.session) p1.1;
                  answered = refl;
                  count = count;
                  few = subst (λ (s : seen.Standing). count ≤ fronts_behind true s) (sym takes.client.linked) few;
                  fronts = subst (λ (n : ℕ). IsTold rules count p1.0.now n e.now) (sym takes.client.session) fronts;
                };
              });
              stands = e.stood;
              clients = e.clients;
              others = subst (λ (n : ℕ). KeepsOthers n h u.hub) (sym takes.client.session) e.others;
            } in
            leads))

        open1 : is_open_in p1.0.now.machine.sessions x.session ≡ true
        open1 = open_commit rules m x.session tid p1.0.now p1.1 is_open

        module _ (r2 : Reply) (u2 : HubEnd R F) (front : Steps request.Front r2 u1 u2) where
          p2 : (e : Reached told lasts stands rules_in named_in tells m h x.session u2) × IsStepAt rules p1.0.now x.session request.Front r2 e.now
          p2 = reach told lasts stands rules_in named_in tells m h x.session request.Front r2 u1 u2 p1.0 front tt

          calm2 : u2.trouble ≡ trouble.NoFault
          calm2 = still_calm r2 u1.trouble u2.trouble front.trouble (front_unread told lasts stands rules_in named_in tells m h x.session r2 u1 u2 front) (front_unwritten told lasts stands rules_in named_in tells m h x.session r2 u1 u2 front) commit.trouble

          open2 : is_open_in p2.0.now.machine.sessions x.session ≡ true
          open2 = open_front rules p1.0.now x.session r2 p2.0.now p2.1 (front_unwritten told lasts stands rules_in named_in tells m h x.session r2 u1 u2 front) open1

          memory_at : (u : HubEnd R F) → u ≡ end → u.trouble ≡ trouble.NoFault → (r : Refusal) → IsWayLost r → Err r ≡ result → given ≡ answer.Refused refusal.Memory
          memory_at u there calm r way is =
              says (Err r) (sym is) ∙ ap (λ (z : HubEnd R F). settled (answer.Refused r) z.trouble) (sym there) ∙ ap (λ (z : Trouble). settled (answer.Refused r) z) calm ∙ ap (λ (z : Refusal). answer.Refused z) (calm_lost r way)

          -- its answer was lost behind the first front
          pub cut_one : (r : Refusal) → IsWayLost r → Err r ≡ result → u2 ≡ end → Goal
          cut_one r way is there = cut 1 u2 p2.0 (omega arith) (r2, p2.0.now, p2.1, refl) there (memory_at u2 there calm2 r way is)

          -- and behind the second
          module _ (r3 : Reply) (u3 : HubEnd R F) (sync : Steps request.Front r3 u2 u3) where
            p3 : (e : Reached told lasts stands rules_in named_in tells m h x.session u3) × IsStepAt rules p2.0.now x.session request.Front r3 e.now
            p3 = reach told lasts stands rules_in named_in tells m h x.session request.Front r3 u2 u3 p2.0 sync tt

            calm3 : u3.trouble ≡ trouble.NoFault
            calm3 = still_calm r3 u2.trouble u3.trouble sync.trouble (front_unread told lasts stands rules_in named_in tells m h x.session r3 u2 u3 sync) (front_unwritten told lasts stands rules_in named_in tells m h x.session r3 u2 u3 sync) calm2

            pub cut_two : (r : Refusal) → IsWayLost r → Err r ≡ result → u3 ≡ end → Goal
            cut_two r way is there = cut 2 u3 p3.0 (omega arith) (r2, p2.0.now, p2.1, (r3, p3.0.now, p3.1, refl)) there (memory_at u3 there calm3 r way is)

            whole : u3.hub.store.broken ≡ false
            whole = open_whole u3.hub p3.0.now.machine x.session p3.0.stood.hub (open_front rules p2.0.now x.session r3 p3.0.now p3.1 (front_unwritten told lasts stands rules_in named_in tells m h x.session r3 u2 u3 sync) open2)

            -- both were answered
            pub commits : Ok (Some tid) ≡ result → u3 ≡ end → Goal
            commits is there =
                let known : View = view_of (server_of p3.0.now.machine) in
                let d : seen.Client = record c { transaction = None; standing = seen.Linked known } in
                let said : given ≡ answer.Committed tid = says (Ok (Some tid)) (sym is) ∙ ap (λ (z : HubEnd R F). settled (answer.Committed tid) z.trouble) (sym there) ∙ ap (λ (z : Trouble). settled (answer.Committed tid) z) calm3 in
                let over : work_of y.connection ≡ Err refusal.NoTransaction = subst (λ (z : Result (Option ℕ) Refusal). OnOk z (work_of y.connection ≡ Err refusal.NoTransaction)) (sym is) ended in
                let still = subst (λ (z : Result (Option ℕ) Refusal). IfOk z FinishLeft) (sym is) left o.transaction.view k mine o.is.view in
                let at_g : now_known b ≡ view_of (server_at (machine_at g)) = ap (λ (l : LinkEnd R F). view_of (server_at (machine_at l.there.hub))) ends in
                let g_known : view_of (server_at (machine_at g)) ≡ known = ap (λ (z : HubEnd R F). view_of (server_at (machine_at z.hub))) (sym there) ∙ view_whole u3.hub p3.0.now.machine p3.0.stood.hub whole in
                let client : IsLinkedOf g y d =
                client_so d (committed (now_known b) k) refl refl (ap (λ (z : View). seen.Linked z) (sym (at_g ∙ g_known))) (here (committed (now_known b) k) still.0)
                (subst (λ (wr : Result Work Refusal). IsLinkedOpen y.connection (committed (now_known b) k) wr None) (sym over) (refl, still.1)) in
                let standing : seen.Linked known ≡ standing_behind p3.0.now.machine c.standing (reply.Committed tid) = ap (λ (s : seen.Standing). standing_behind p3.0.now.machine s (reply.Committed tid)) (sym takes.client.linked) in
                let line_is : IsStepLine rules m at c false request.Finish given (with_client p3.0.now at d) = record {
                  reply = reply.Committed tid;
                  behind = p1.0.now;
                  told = p3.0.now;
                  step = subst (λ (n : ℕ). IsStepAt rules m n request.Finish (reply.Committed tid) p1.0.now) (sym takes.client.session) p1.1;
                  front = subst (λ (s : seen.Standing). IsTold rules (fronts_behind true s) p1.0.now c.session p3.0.now) (sym takes.client.linked)
                      (subst (λ (n : ℕ). IsTold rules 2 p1.0.now n p3.0.now) (sym takes.client.session) (r2, p2.0.now, p2.1, (r3, p3.0.now, p3.1, refl)));
                  answer = said ∙ sym (linked_answer c.standing k.known false (reply.Committed tid) takes.client.linked refl);
                  left = ap (λ (s : seen.Standing). let z : seen.Client = record { name = c.name; session = c.session; transaction = None; standing = s } in with_client p3.0.now at z) standing;
                } in
                at_end u3 there (subst (λ (e : _). LinkedEnds e rules m at c line.Finish given h u3.hub y u3.stamps) (sym (ap end_of said))
                (let leads : LinkedLeadsTo (IsLineOpen rules m at c line.Finish given) m at c.session h u3.hub y u3.stamps = record {
                  now = with_client p3.0.now at d;
                  holds = step_line_open told lasts stands rules_in named_in tells m at x c h before takes line.Finish request.Finish free asks refl y k.known takes.client.linked given (with_client p3.0.now at d) line_is;
                  stands = let s = p3.0.stood in record { hub = s.hub; vote = s.vote; within = s.within; counts = s.counts; stamps = s.stamps };
                  client = d;
                  placed = ap (λ (cs : List seen.Client). slice_set cs at d) p3.0.clients;
                  is = subst (λ (z : HubEnd R F). IsLinkedOf z.hub y d) (sym there) client;
                  others = subst (λ (n : ℕ). KeepsOthers n h u3.hub) (sym takes.client.session) p3.0.others;
                } in
                leads))

          -- the sync behind the first front
          by_sync : (said : Result ℕ Refusal) (u : HubEnd R F) → MakesOne Steps request.Front calls.Sync count_answer u2 said u → (synced : Result ℕ Refusal) → IsAnsweredLike said synced → behind_finish tid synced ≡ result → u ≡ end → Goal
          by_sync said u makes synced like is there =
              one_made Steps request.Front calls.Sync count_answer u2 Then unsent nothing lost told_so said u makes refl synced like is there
            where
              Then : Result ℕ Refusal → HubEnd R F → Type 0
              Then z v = z ≡ said → (synced : Result ℕ Refusal) → IsAnsweredLike z synced → behind_finish tid synced ≡ result → v ≡ end → Goal

              lost_way : (r : Refusal) → IsWayLost r → IsWayLost (behind_commit r)
              lost_way refusal.LinkFault way = tt
              lost_way refusal.Closed way = tt
              lost_way refusal.Memory way = tt
              lost_way _ way = absurd way

              as_err : (r : Refusal) (synced : Result ℕ Refusal) → IsAnsweredLike {U = ℕ} (let e : Result ℕ Refusal = Err r in e) synced → behind_finish tid synced ≡ result → Err (behind_commit r) ≡ result
              as_err r (Ok z) like is = absurd like
              as_err r (Err s) like is = ap (λ (z : Refusal). let e : Result (Option ℕ) Refusal = Err (behind_commit z) in e) like ∙ is

              unsent : (error : AskError) → IsUnsent calls.Sync error → Then (Err (unasked error)) u2
              unsent (ask_error.TooLong n) long same synced like is there = absurd (short_call calls.Sync n (omega arith) (omega arith) long)
              unsent ask_error.Memory long same synced like is there = cut_one refusal.Memory tt (as_err refusal.Memory synced like is) there

              nothing : (r : Refusal) → IsWayLost r → Then (Err r) u2
              nothing r way same synced like is there = cut_one (behind_commit r) (lost_way r way) (as_err r synced like is) there

              lost : (r : Refusal) (r3 : Reply) (v : HubEnd R F) → IsWayLost r → Steps request.Front r3 u2 v → Then (Err r) v
              lost r r3 v way step same synced like is there = cut_two r3 v step (behind_commit r) (lost_way r way) (as_err r synced like is) there

              told_so : (r3 : Reply) (v : HubEnd R F) → Steps request.Front r3 u2 v → Then (count_answer (answer_given request.Front r3)) v
              told_so r3 v step same synced like is there = by_reply r3 step (end_reply rules p2.0.now x.session request.Front r3 (p3 r3 v step).0.now tt (p3 r3 v step).1) (front_or_fault rules p2.0.now x.session r3 (p3 r3 v step).0.now (p3 r3 v step).1 open2) like
                where
                  ok_like : (f : ℕ) (z : Result ℕ Refusal) → IsAnsweredLike (let e : Result ℕ Refusal = Ok f in e) z → behind_finish tid z ≡ result → Ok (Some tid) ≡ result
                  ok_like f (Ok j) like is = is
                  ok_like f (Err r) like is = absurd like

                  by_reply : (r : Reply) → Steps request.Front r u2 v → EndReply request.Front r → IsFrontReply r ⊎ (outcome_of r ≡ Answered → ⊥) → IsAnsweredLike (count_answer (answer_given request.Front r)) synced → Goal
                  by_reply (reply.Front f news switches) step fits shape like =
                      commits (reply.Front f news switches) v step (ok_like f synced (subst (λ (z : FarAnswer). IsAnsweredLike (count_answer z) synced) (front_sent asked.Other f switches) like) is) there
                  by_reply (reply.Refused refusal.Memory) step fits shape like =
                      cut_two (reply.Refused refusal.Memory) v step refusal.Memory tt
                      (as_err refusal.Memory synced (subst (λ (z : FarAnswer). IsAnsweredLike (count_answer z) synced) (bare_sent asked.Other refusal.Memory tt) like) is) there
                  by_reply (reply.Refused refusal.ReadFault) step fits shape like = absurd (front_unread told lasts stands rules_in named_in tells m h x.session (reply.Refused refusal.ReadFault) u2 v step refl)
                  by_reply (reply.Refused refusal.StoreFault) step fits shape like = absurd (front_unwritten told lasts stands rules_in named_in tells m h x.session (reply.Refused refusal.StoreFault) u2 v step refl)
                  by_reply (reply.Refused refusal.NotOpen) step fits (inl shape) like = absurd (no_front refusal.NotOpen shape)
                  by_reply (reply.Refused refusal.NotOpen) step fits (inr never) like = absurd (never refl)
                  by_reply (reply.Refused refusal.NotVoted) step fits (inl shape) like = absurd (no_front refusal.NotVoted shape)
                  by_reply (reply.Refused refusal.NotVoted) step fits (inr never) like = absurd (never refl)
                  by_reply (reply.Refused _) step fits shape like = absurd fits
                  by_reply _ step fits shape like = absurd fits

      as_it_was : (u : HubEnd R F) → u ≡ end → (r : Refusal) → result ≡ Err r → IsNothingDone r → IsLinkedOf u.hub y c
      as_it_was u there r is nothing =
          subst (λ (z : HubEnd R F). IsLinkedOf z.hub y c) (sym there)
          (client_so c k refl refl takes.client.linked (here k (subst (λ (z : Result (Option ℕ) Refusal). IfErr z (λ r. IsNothingDone r → (v : views.Client) → StoodSo a v → StoodSo b v)) is same nothing k mine))
          (subst (λ (z : Connection). IsLinkedOpen z k (work_of z) c.transaction) (sym (on_err r is err)) takes.client.transaction))

      -- some first steps were made, and nothing came back
      by_lost : (r : Refusal) → IsWayLost r → Err r ≡ result → (u : HubEnd R F) → FinishSteps Steps start u → u ≡ end → Goal
      by_lost r way is _ no_finish there = starved r way is there
      by_lost r way is _ (one_finish said u step) there =
          let lost : given ≡ settled (answer.Refused r) u.trouble = says (Err r) (sym is) ∙ ap (λ (z : HubEnd R F). settled (answer.Refused r) z.trouble) (sym there) in
          at_end u there (lost_ends told lasts stands rules_in named_in tells m at x c h before takes line.Finish request.Finish free asks refl y said u step given r way lost
          (λ goes_on. absurd (lost_ends_run said r u.trouble given way step.trouble lost (finish_unread told lasts stands rules_in named_in tells m h x.session said start u step) goes_on)))
      by_lost r way is _ (finish_and_front tid said between u commit front) there = cut_one tid between commit said u front r way is there

      by_said : (r : Reply) (u : HubEnd R F) → (step : Steps request.Finish r start u) → EndReply request.Finish r → committed_tid r ≡ None → finish_answer (sent_answer asked.Finish (reply_answer asked.Finish r)) ≡ result → u ≡ end → Goal
      by_said (reply.Committed tid) u step fits none is there = absurd (some_none none)
        where
          some_none : ◌≡◌ {A = Option ℕ} (Some tid) None → ⊥
          some_none e = cc
      by_said reply.Empty u step fits none is there =
          let done : result ≡ Ok None = sym is ∙ ap finish_answer (done_sent asked.Finish) in
          let said : given ≡ answer.Empty = says (Ok None) done ∙ ap (λ (z : HubEnd R F). settled answer.Empty z.trouble) (sym there) ∙ ap (λ (z : Trouble). settled answer.Empty z) step.trouble in
          let over : work_of y.connection ≡ Err refusal.NoTransaction = subst (λ (z : Result (Option ℕ) Refusal). OnOk z (work_of y.connection ≡ Err refusal.NoTransaction)) done ended in
          let still = subst (λ (z : Result (Option ℕ) Refusal). IfOk z FinishLeft) done left o.transaction.view k mine o.is.view in
          let d : seen.Client = record c { transaction = None } in
          let client : IsLinkedOf g y d = client_so d (unvoted k) refl refl takes.client.linked (here (unvoted k) still.0) (subst (λ (wr : Result Work Refusal). IsLinkedOpen y.connection (unvoted k) wr None) (sym over) (refl, still.1)) in
          at_end u there (answered_ends told lasts stands rules_in named_in tells m at x c h before takes line.Finish request.Finish free asks refl y reply.Empty u step given d (ap end_of said) refl
          (said ∙ sym (linked_answer c.standing k.known false reply.Empty takes.client.linked refl))
          (sym (linked_stays (step_to told lasts stands rules_in named_in tells m at x c h before takes request.Finish reply.Empty u step).now.machine reply.Empty d k.known takes.client.linked refl))
          (subst (λ (z : HubEnd R F). IsLinkedOf z.hub y d) (sym there) client))
      by_said (reply.Refused why) u step fits none is there =
          let err_is : result ≡ Err why = sym is ∙ ap finish_answer (bare_sent asked.Finish why fits) ∙ ap (λ (z : Refusal). let e : Result (Option ℕ) Refusal = Err z in e) (bare_far why fits) in
          let said : given ≡ answer.Refused why = says (Err why) err_is ∙ ap (λ (z : HubEnd R F). settled (answer.Refused why) z.trouble) (sym there) ∙ ap (λ (z : Trouble). settled (answer.Refused why) z) step.trouble ∙ settled_bare why fits in
          at_end u there (refused_ends told lasts stands rules_in named_in tells m at x c h before takes line.Finish request.Finish free asks refl y (reply.Refused why) u step given why refl said fits
          (λ goes_on. as_it_was u there why err_is (bare_done why fits (sym (ap end_of said) ∙ goes_on))))
      by_said _ u step fits none is there = absurd fits

      by_finish : (z : Result (Option ℕ) Refusal) (u : HubEnd R F) → IsRemoteFinish Steps start z u → z ≡ result → u ≡ end → Goal
      by_finish _ _ (not_finished (ask_error.TooLong n) long) is there = absurd (short_call calls.TpcFinish n (omega arith) (omega arith) long)
      by_finish _ _ (not_finished ask_error.Memory long) is there = starved refusal.Memory tt is there
      by_finish _ _ (finish_lost r u way steps) is there = by_lost r way is u steps there
      by_finish _ _ (finish_answered said u step none) is there =
          by_said said u step (end_reply rules m x.session request.Finish said (step_to told lasts stands rules_in named_in tells m at x c h before takes request.Finish said u step).now tt (step_to told lasts stands rules_in named_in tells m at x c h before takes request.Finish said u step).holds) none is there
      by_finish _ _ (finish_committed tid said between middle synced u commit front sync) is there = by_sync tid between commit said middle front sync.0 u sync.1 synced sync.2 is there

  pub finish_over : (result : Result (Option ℕ) Refusal) → OnOk result (work_of y.connection ≡ Err refusal.NoTransaction) → IfOk result FinishLeft
      → ((r : Refusal) → work_of x.connection ≡ Err r → (result ≡ Err r) × (b ≡ a)) → ((w : Work) → work_of x.connection ≡ Ok w → MakesSo a (Finish result) b) → OnErr result (y.connection ≡ x.connection)
      → IfErr result (λ r. IsNothingDone r → (v : views.Client) → StoodSo a v → StoodSo b v)
      → (given : Answer) → given ≡ settled (finished_as result) t → TakesLinked told (rules_of rules_in named_in h) line.Finish given h g x y before after
  finish_over result ended left refused made err same given answers tells m at c takes = by_work (work_of x.connection) refl
    where
      by_work : (wr : Result Work Refusal) → work_of x.connection ≡ wr → LinkedEnds (end_of given) (rules_of rules_in named_in h) m at c line.Finish given h g y after
      by_work (Err r) works = closed_finish result ended left err same given answers tells m at c takes r works (refused r works)
      by_work (Ok w) works =
          by_finish result ended left err same given answers tells m at c takes w works result (end_at g after packs t)
          (call_made told lasts stands rules_in named_in x y h g before after packs t state a b begins ends name tells m at c takes number (Finish result) (made w works)) refl refl
