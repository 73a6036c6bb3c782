-- A client with a link is told what was committed.
use Rattle.std.proofs.Common.{◌≡◌, ◌⊎◌, ℕ, ◌+◌, Bool, true, false, not, List, Option, Some, None, Result, Ok, Err, refl, sym, ap, subst, ◌∙◌, arith, inl, inr}
use Rattle.std.specs.Prelude.{IfOk, IsOk, OnOk}
use Rattle.std.specs.Option.{option_or}
use Rattle.zb_ids.specs.declared.stamp.Stamp.{Stamp}
use Rattle.zb_model.specs.declared.data.Transaction.{Transaction}
use Rattle.zb_model.specs.declared.news.News.{News}
use Rattle.zb_model.specs.declared.refusal.Refusal.{Refusal}
use Rattle.zb_model.specs.declared.refusal.Refusal.TheVariants as refusal
use Rattle.zb_model.specs.Database.{newest_tid}
use Rattle.zb_model.specs.Rules.{MergeRules}
use Rattle.zb_answers.specs.declared.answer.Answer.{Answer}
use Rattle.zb_answers.specs.declared.answer.Answer.TheVariants as answer
use Rattle.zb_script.specs.declared.line.Line.TheVariants as line
use Rattle.zodb_core.specs.declared.reply.Reply.{Reply}
use Rattle.zodb_core.specs.declared.reply.Reply.TheVariants as reply
use Rattle.zodb_core.specs.declared.request.Request.{Request}
use Rattle.zodb_core.specs.declared.request.Request.TheVariants as request
use Rattle.zodb_core.specs.HubState.{HubState, rules_of}
use Rattle.zodb_core.specs.Machine.{Machine, Rules, is_open_in}
use Rattle.zodb_core.specs.Outcomes.{Answered, ReadingFailed, StoreFailed, outcome_of}
use Rattle.zodb_core.specs.Steps.{Stepped, front_step, refuse_if, unless_early}
use Rattle.connection_view.specs.declared.connection.Connection.{Connection}
use Rattle.connection_view.specs.Works.{Work}
use Rattle.connection_view.specs.Connections.{Between, InView, IsInView, work_of}
use Rattle.connection_view.specs.Views.{View, renewed, view_of}
use Rattle.connection_view.specs.Views as views
use Rattle.local_loads.specs.Local as local
use Rattle.local_loads.specs.LocalLaws.{view_whole}
use Rattle.zeo_messages.specs.declared.answer.Answer.{Answer as FarAnswer}
use Rattle.zeo_messages.specs.declared.call.Call.TheVariants as calls
use Rattle.zeo_desk.specs.declared.asked.Asked.TheVariants as asked
use Rattle.zeo_client.specs.declared.asking.AskError.{AskError}
use Rattle.zeo_client.specs.declared.asking.AskError.TheVariants as ask_error
use Rattle.zeo_serving.specs.Serving.{synced, view_at}
use Rattle.hub_carrier.specs.declared.trouble.Trouble.{Trouble}
use Rattle.hub_carrier.specs.declared.trouble.Trouble.TheVariants as trouble
use Rattle.hub_carrier.specs.Ends.{HubEnd, StepsThere, end_at, machine_at}
use Rattle.remote_loads.specs.Answers.{count_answer}
use Rattle.remote_loads.specs.Causes.{unasked}
use Rattle.remote_loads.specs.Leaving.{SyncLeaves}
use Rattle.remote_loads.specs.Making.{IsAnsweredLike}
use Rattle.remote_loads.specs.Standing.{Stands}
use Rattle.remote_loads.specs.Talking.{IsUnsent, IsWayLost, answer_given}
use Rattle.client_turns.specs.declared.linked.LinkedClient.{LinkedClient}
use Rattle.client_turns.specs.Asking.{delivered_with}
use Rattle.client_turns.specs.Clients.{Moment, OpenTransaction}
use Rattle.client_turns.specs.Clients as seen
use Rattle.client_turns.specs.Lines.{end_of, standing_behind}
use Rattle.client_turns.specs.Linked.{IsLinkedOf, IsLinkedOpen, LinkedEnds, MayTakeLinked}
use Rattle.client_turns.specs.Settling.{settled}
use Rattle.client_turns.specs.Steps.{IsStepAt}
use Rattle.client_turns.specs.Views.{server_of}
use Rattle.client_turns.proofs.Bare.{EndReply, bare_far, bare_sent, calm_lost, end_reply, front_sent}
use Rattle.client_turns.proofs.Ending.{front_same}
use Rattle.client_turns.proofs.Hubs.{open_whole}
use Rattle.client_turns.proofs.LinkEnds.{LinkEnd, link_end, one_made, short_call}
use Rattle.client_turns.proofs.LinkFronts.{IsFrontReply, front_or_fault, lost_ends_run}
use Rattle.client_turns.proofs.OverLink.{answered_ends, linked_answer, lost_ends, refused_ends, starved_ends, step_to}

-- ---- what a front says

front_number : (m : Machine) (n : ℕ) (b : Bool) (front switches : ℕ) (news : News) → (unless_early (option_or (refuse_if (not b) refusal.NotOpen) None) m (front_step m n)).reply ≡ reply.Front front news switches → front ≡ newest_tid m.list + 1
front_number m n true front switches news is = cc
front_number m n false front switches news is = absurd cc

number_of_front : (rules : Rules) (m : Moment) (n front switches : ℕ) (news : News) (now : Moment) → IsStepAt rules m n request.Front (reply.Front front news switches) now → front ≡ newest_tid m.machine.list + 1
number_of_front rules m n front switches news now step = front_number m.machine n (is_open_in m.machine.sessions n) front switches news (sym (ap (λ (s : Stepped). s.reply) step.made.cause))

no_front : (why : Refusal) → IsFrontReply (reply.Refused why) → ⊥
no_front why shape = other why shape.front shape.news shape.switches shape.is
  where
    other : (why : Refusal) (front : ℕ) (news : News) (switches : ℕ) → reply.Refused why ≡ reply.Front front news switches → ⊥
    other why front news switches e = cc

-- ---- what is told is what is seen later

whole_view : {R F : Type 0} (h : HubState R F) (b : Bool) → h.store.broken ≡ b → b ≡ false → view_at (machine_at h) ≡ view_of (local.server_of h)
whole_view h false is calm = sym (ap (λ (z : Bool). view_of (local.server_unless z h.store.list h.journal h.greatest)) is)
whole_view h true is calm = absurd cc

in_synced : (k : Connection) (u known : View) (v : views.Client) → InView k u v → InView k u (synced known v)
in_synced k u known v is = by_work k.work is
  where
    by_work : (w : Option Work) → IsInView w k.asked k.stale k.cache.objects u v → IsInView w k.asked k.stale k.cache.objects u (synced known v)
    by_work None is = absurd is
    by_work (Some w) is = record { front_is = is.front_is; switches_are = is.switches_are; later = is.later; quiet = is.quiet; own = is.own; asked_for = is.asked_for; cached = is.cached }

between_synced : (k : Connection) (known : View) (v : views.Client) → Between k v → Between k (synced known v)
between_synced k known v is = record { none = is.none; unvoted = is.unvoted; cached = is.cached }

pub not_closed : (k : Connection) (v : views.Client) (w : Result Work Refusal) (o : Option OpenTransaction) → IsLinkedOpen k v w o → w ≡ Err refusal.NotOpen → ⊥
not_closed k v (Ok w) o is e = absurd cc
not_closed k v (Err r) (Some t) is e = absurd is
not_closed k v (Err r) None is e = other (ap (λ (s : Refusal). let x : Result Work Refusal = Err s in x) (sym is.0) ∙ e)
  where
    other : (let x : Result Work Refusal = Err refusal.NoTransaction in x) ≡ Err refusal.NotOpen → ⊥
    other e = absurd cc

opened_behind : (k l : Connection) (v j : views.Client) → ((u : View) → InView k u v → InView l u j) → (Between k v → Between l j) → (w : Result Work Refusal) (o : Option OpenTransaction) → IsLinkedOpen k v w o → IsLinkedOpen l j w o
opened_behind k l v j view between (Ok w) (Some t) is = record { changes = is.changes; far = is.far; view = view t.view is.view }
opened_behind k l v j view between (Ok w) None is = absurd is
opened_behind k l v j view between (Err r) (Some t) is = absurd is
opened_behind k l v j view between (Err r) None is = (is.0, between is.1)

-- ---- the line

module _ {R F S : Type 0} (told lasts : Type 0) (stands : List ℕ → List Transaction → Type 0) (rules_in : R → MergeRules) (named_in : F → List ℕ → Option (List ℕ)) (x y : LinkedClient) (h g : HubState R F) (before after : Option (List Stamp)) (packs : Bool) (t : Trouble) (state : S → LinkEnd R F) (a mid : S) (begins : state a ≡ link_end (end_at h before false trouble.NoFault) x) (name : y.name ≡ x.name) (number : y.session ≡ x.session) where
  -- a sync, from one state to another
  abbrev pub Hears : {T : Type 0} → S → S → Result T Refusal → Type 0
  Hears o n result = told → (v : views.Client) → Stands (machine_at (state o).there.hub) (state o).session (state o).desk (state o).client v
      → SyncLeaves (StepsThere told lasts stands rules_in named_in (state o).session) (λ e. machine_at e.hub) (state o).session (state o).there v result (state n).client (state n).there (state n).desk

  module _ (heard : Result ℕ Refusal) (hears : Hears a mid heard) (given : Answer) (tells : told) (m : Moment) (at : ℕ) (c : seen.Client) (takes : MayTakeLinked h before m at x c) where
    abbrev k : views.Client
    k = takes.client.told

    abbrev rules : Rules
    rules = rules_of rules_in named_in h

    abbrev start : HubEnd R F
    start = end_at h before false trouble.NoFault

    abbrev end : HubEnd R F
    end = end_at g after packs t

    abbrev Steps : Request → Reply → HubEnd R F → HubEnd R F → Type 0
    Steps q r s u = StepsThere told lasts stands rules_in named_in x.session q r s u

    abbrev Goal : HubEnd R F → Type 0
    Goal u = LinkedEnds (end_of given) rules m at c line.Deliver given h u.hub y u.stamps

    is_open : is_open_in m.machine.sessions x.session ≡ true
    is_open = ap (λ (n : ℕ). is_open_in m.machine.sessions n) (sym takes.client.session) ∙ takes.may

    leaves : SyncLeaves Steps (λ e. machine_at e.hub) x.session start k heard (state mid).client (state mid).there (state mid).desk
    leaves = by_begin (state a) begins (hears tells k)
      where
        by_begin : (l : LinkEnd R F) → l ≡ link_end start x → (Stands (machine_at l.there.hub) l.session l.desk l.client k → SyncLeaves (StepsThere told lasts stands rules_in named_in l.session) (λ e. machine_at e.hub) l.session l.there k heard (state mid).client (state mid).there (state mid).desk)
            → SyncLeaves Steps (λ e. machine_at e.hub) x.session start k heard (state mid).client (state mid).there (state mid).desk
        by_begin l is f =
            subst (λ (z : LinkEnd R F). Stands (machine_at z.there.hub) z.session z.desk z.client k → SyncLeaves (StepsThere told lasts stands rules_in named_in z.session) (λ e. machine_at e.hub) z.session z.there k heard (state mid).client (state mid).there (state mid).desk) is f takes.client.stands

    starved : (r : Refusal) → IsWayLost r → given ≡ settled (answer.Refused r) trouble.NoFault → Goal start
    starved r way answers = starved_ends told lasts stands rules_in named_in tells m at x c h before takes line.Deliver request.Front refl refl refl y given (answers ∙ ap (λ (z : Refusal). answer.Refused z) (calm_lost r way))

    unread : (r : Reply) (u : HubEnd R F) → Steps request.Front r start u → outcome_of r ≡ ReadingFailed → ⊥
    unread r u step is = step.step.unread refl is

    unwritten : (r : Reply) (u : HubEnd R F) → Steps request.Front r start u → outcome_of r ≡ StoreFailed → ⊥
    unwritten r u step is = step.step.unwritten refl is

    -- where it isn't answered
    pub unheard : (r : Refusal) → heard ≡ Err r → given ≡ settled (answer.Refused r) (state mid).there.trouble → Goal (state mid).there
    unheard r is answers = one_made Steps request.Front calls.Sync count_answer start Then unsent nothing lost told_so leaves.1.0 (state mid).there leaves.1.1 (subst (λ (z : Result ℕ Refusal). IsAnsweredLike leaves.1.0 z) is leaves.1.2) answers
      where
        Then : Result ℕ Refusal → HubEnd R F → Type 0
        Then z u = IsAnsweredLike {U = ℕ} z (Err r) → given ≡ settled (answer.Refused r) u.trouble → Goal u

        unsent : (error : AskError) → IsUnsent calls.Sync error → Then (Err (unasked error)) start
        unsent (ask_error.TooLong n) long like said = absurd (short_call calls.Sync n (omega arith) (omega arith) long)
        unsent ask_error.Memory long like said = starved refusal.Memory tt (said ∙ ap (λ (z : Refusal). settled (answer.Refused z) trouble.NoFault) (sym like))

        nothing : (w : Refusal) → IsWayLost w → Then (Err w) start
        nothing w way like said = starved w way (said ∙ ap (λ (z : Refusal). settled (answer.Refused z) trouble.NoFault) (sym like))

        lost : (w : Refusal) (said : Reply) (u : HubEnd R F) → IsWayLost w → Steps request.Front said start u → Then (Err w) u
        lost w said u way step like answers =
            let so : given ≡ settled (answer.Refused w) u.trouble = answers ∙ ap (λ (z : Refusal). settled (answer.Refused z) u.trouble) (sym like) in
            lost_ends told lasts stands rules_in named_in tells m at x c h before takes line.Deliver request.Front refl refl refl y said u step given w way so
            (λ goes_on. absurd (lost_ends_run said w u.trouble given way step.trouble so (unread said u step) goes_on))

        told_so : (said : Reply) (u : HubEnd R F) → Steps request.Front said start u → Then (count_answer (answer_given request.Front said)) u
        told_so said u step like answers =
            let s = step_to told lasts stands rules_in named_in tells m at x c h before takes request.Front said u step in
            by_reply said step (end_reply rules m x.session request.Front said s.now tt s.holds) (front_or_fault rules m x.session said s.now s.holds is_open) like
          where
            refused_by : (w : Refusal) → EndReply request.Front (reply.Refused w) → IsAnsweredLike (count_answer (answer_given request.Front (reply.Refused w))) (let e : Result ℕ Refusal = Err r in e) → w ≡ r
            refused_by w fits like = sym (bare_far w fits) ∙ subst (λ (z : FarAnswer). IsAnsweredLike (count_answer z) (let e : Result ℕ Refusal = Err r in e)) (bare_sent asked.Other w fits) like

            by_reply : (q : Reply) → Steps request.Front q start u → EndReply request.Front q → IsFrontReply q ⊎ (outcome_of q ≡ Answered → ⊥) → IsAnsweredLike (count_answer (answer_given request.Front q)) (let e : Result ℕ Refusal = Err r in e) → Goal u
            by_reply (reply.Front f news switches) step fits shape like = absurd (subst (λ (z : FarAnswer). IsAnsweredLike (count_answer z) (let e : Result ℕ Refusal = Err r in e)) (front_sent asked.Other f switches) like)
            by_reply (reply.Refused refusal.Memory) step fits shape like =
                let so : given ≡ answer.Refused refusal.Memory = answers ∙ ap (λ (z : Refusal). settled (answer.Refused z) u.trouble) (sym (refused_by refusal.Memory fits like)) ∙ ap (λ (z : Trouble). settled (answer.Refused refusal.Memory) z) step.trouble in
                refused_ends told lasts stands rules_in named_in tells m at x c h before takes line.Deliver request.Front refl refl refl y (reply.Refused refusal.Memory) u step given refusal.Memory refl so tt
                (λ goes_on. absurd (ended (sym (ap end_of so) ∙ goes_on)))
              where
                ended : end_of (answer.Refused refusal.Memory) ≡ None → ⊥
                ended e = absurd cc
            by_reply (reply.Refused refusal.ReadFault) step fits shape like = absurd (unread (reply.Refused refusal.ReadFault) u step refl)
            by_reply (reply.Refused refusal.StoreFault) step fits shape like = absurd (unwritten (reply.Refused refusal.StoreFault) u step refl)
            by_reply (reply.Refused refusal.NotOpen) step fits (inl shape) like = absurd (no_front refusal.NotOpen shape)
            by_reply (reply.Refused refusal.NotOpen) step fits (inr never) like = absurd (never refl)
            by_reply (reply.Refused refusal.NotVoted) step fits (inl shape) like = absurd (no_front refusal.NotVoted shape)
            by_reply (reply.Refused refusal.NotVoted) step fits (inr never) like = absurd (never refl)
            by_reply (reply.Refused _) step fits shape like = absurd fits
            by_reply _ step fits shape like = absurd fits

    -- where it is, and the connection is told
    module _ (b : S) (ends : state b ≡ link_end end y) where
      abbrev Stood : S → views.Client → Type 0
      Stood s v = told × Stands (machine_at (state s).there.hub) (state s).session (state s).desk (state s).client v

      abbrev j : views.Client
      j = synced (view_at (machine_at h)) k

      whole : h.store.broken ≡ false
      whole = open_whole h m.machine c.session takes.stands.hub takes.may

      known_is : view_at (machine_at h) ≡ view_of (server_of m.machine)
      known_is = whole_view h h.store.broken refl whole ∙ view_whole h m.machine takes.stands.hub whole

      -- the client that stands behind the sync
      pub heard_stood : (f : ℕ) → heard ≡ Ok f → (state mid).session ≡ x.session → Stood mid j
      heard_stood f is sessions = (
        tells,
        subst (λ (n : ℕ). Stands (machine_at (state mid).there.hub) n (state mid).desk (state mid).client j) (sym sessions)
            (subst (λ (z : Result ℕ Refusal). OnOk z (Stands (machine_at (state mid).there.hub) x.session (state mid).desk (state mid).client j)) is leaves.0),
      )

      pub delivers : (f : ℕ) → heard ≡ Ok f → (result : Result ℕ Refusal) → IfOk result (λ front. (v : views.Client) → Stood mid v → front ≡ v.known.front) → IsOk result → (state b).there ≡ (state mid).there → (state mid).session ≡ x.session
          → OnOk result ((u : View) (v : views.Client) → Stood mid v → InView x.connection u v → InView y.connection u (renewed v.known v)) → OnOk result ((v : views.Client) → Stood mid v → Between x.connection v → Between y.connection (renewed v.known v))
          → OnOk result ((v : views.Client) → Stood mid v → Stood b (renewed v.known v)) → work_of y.connection ≡ work_of x.connection → given ≡ settled (delivered_with result) t → Goal end
      delivers f is (Err r) fronted ok there sessions view between be work answers = absurd (not_ok ok)
        where
          not_ok : IsOk (let e : Result ℕ Refusal = Err r in e) → ⊥
          not_ok e = cc
      delivers f is (Ok front) fronted ok there sessions view between be work answers =
          one_made Steps request.Front calls.Sync count_answer start Then (λ error long like. absurd like) (λ r way like. absurd like) (λ r said u way step like. absurd like) told_so leaves.1.0 (state mid).there leaves.1.1 (subst (λ (z : Result ℕ Refusal). IsAnsweredLike leaves.1.0 z) is leaves.1.2) middle
        where
          Then : Result ℕ Refusal → HubEnd R F → Type 0
          Then z u = IsAnsweredLike {U = ℕ} z (Ok f) → u ≡ end → Goal end

          middle : (state mid).there ≡ end
          middle = sym there ∙ ap (λ (l : LinkEnd R F). l.there) ends

          stood : Stood mid j
          stood = heard_stood f is sessions

          number_is : front ≡ (view_of (server_of m.machine)).front
          number_is = fronted j stood ∙ ap (λ (z : View). z.front) known_is

          told_so : (said : Reply) (u : HubEnd R F) → Steps request.Front said start u → Then (count_answer (answer_given request.Front said)) u
          told_so said u step like end_is =
              let s = step_to told lasts stands rules_in named_in tells m at x c h before takes request.Front said u step in
              by_reply said step (end_reply rules m x.session request.Front said s.now tt s.holds) like
            where
              by_reply : (q : Reply) → Steps request.Front q start u → EndReply request.Front q → IsAnsweredLike (count_answer (answer_given request.Front q)) (let e : Result ℕ Refusal = Ok f in e) → Goal end
              by_reply (reply.Refused w) step fits like = absurd (subst (λ (z : FarAnswer). IsAnsweredLike (count_answer z) (let e : Result ℕ Refusal = Ok f in e)) (bare_sent asked.Other w fits) like)
              by_reply (reply.Front f news switches) step fits like =
                  let s = step_to told lasts stands rules_in named_in tells m at x c h before takes request.Front (reply.Front f news switches) u step in
                  let quiet : t ≡ trouble.NoFault = ap (λ (z : HubEnd R F). z.trouble) (sym end_is) ∙ step.trouble in
                  let same : front ≡ f = number_is ∙ sym (number_of_front rules m x.session f switches news s.now s.holds) in
                  let says : given ≡ answer.Delivered f = answers ∙ ap (λ (z : Trouble). settled (answer.Delivered front) z) quiet ∙ ap (λ (z : ℕ). answer.Delivered z) same in
                  let known : View = view_of (server_of s.now.machine) in
                  let d : seen.Client = record c { standing = seen.Linked known } in
                  let new : views.Client = renewed j.known j in
                  let is_new : seen.Linked known ≡ seen.Linked new.known = ap (λ (z : View). seen.Linked z) (ap view_of (front_same rules m x.session (reply.Front f news switches) s.now s.holds) ∙ sym known_is) in
                  let standing : seen.Linked known ≡ standing_behind s.now.machine c.standing (reply.Front f news switches) = ap (λ (z : seen.Standing). standing_behind s.now.machine z (reply.Front f news switches)) (sym takes.client.linked) in
                  let at_end : Stands (machine_at g) y.session y.desk y.client new = (subst (λ (l : LinkEnd R F). told × Stands (machine_at l.there.hub) l.session l.desk l.client new) ends (be j stood)).1 in
                  let client : IsLinkedOf g y d = record {
                    name = takes.client.name ∙ sym name;
                    session = takes.client.session ∙ sym number;
                    told = new;
                    linked = is_new;
                    stands = at_end;
                    transaction = subst (λ (wr : Result Work Refusal). IsLinkedOpen y.connection new wr c.transaction) (sym work)
                        (opened_behind x.connection y.connection k new (λ u seen_so. view u j stood (in_synced x.connection u (view_at (machine_at h)) k seen_so)) (λ none. between j stood (between_synced x.connection (view_at (machine_at h)) k none))
                        (work_of x.connection) c.transaction takes.client.transaction);
                  } in
                  subst (λ (z : HubEnd R F). Goal z) end_is
                  (answered_ends told lasts stands rules_in named_in tells m at x c h before takes line.Deliver request.Front refl refl refl y (reply.Front f news switches) u step given d (ap end_of says) refl
                  (says ∙ sym (linked_answer c.standing k.known true (reply.Front f news switches) takes.client.linked refl))
                  (ap (λ (z : seen.Standing). let w : seen.Client = record { name = c.name; session = c.session; transaction = c.transaction; standing = z } in w) standing)
                  (subst (λ (z : HubEnd R F). IsLinkedOf z.hub y d) (sym end_is) client))
              by_reply _ step fits like = absurd fits
