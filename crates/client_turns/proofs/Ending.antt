-- How transactions begin, are voted on and end, over the hub.
use Rattle.std.proofs.Common.{rules, ◌≡◌, ◌⊎◌, ℕ, zero, suc, ◌==◌, Bool, true, false, List, [], Option, Some, None, Result, Ok, Err, if◌then◌else◌, nat_lt, refl, sym, ap, subst, ◌∙◌, arith, inl, inr}
use Rattle.std.proofs.lemmas.Bool.{lt-ltb}
use Rattle.std.proofs.Math.Dec.{eqb-suc-zero}
use Rattle.std.specs.Prelude.{IfOk, IsOk, MatchOption, OnErr, OnOk}
use Rattle.std.specs.Option.{option_map, option_or}
use Rattle.zb_ids.specs.declared.stamp.Stamp.{Stamp}
use Rattle.zb_model.specs.declared.data.Transaction.{Transaction}
use Rattle.zb_model.specs.declared.pending.PendingCheck.{PendingCheck}
use Rattle.zb_model.specs.declared.pending.PendingStore.{PendingStore}
use Rattle.zb_model.specs.declared.refusal.Refusal.{Refusal}
use Rattle.zb_model.specs.declared.refusal.Refusal.TheVariants as refusal
use Rattle.zb_model.specs.Rules.{MergeRules}
use Rattle.zb_answers.specs.declared.answer.Answer.{Answer}
use Rattle.zb_answers.specs.declared.answer.Answer.TheVariants as answer
use Rattle.zb_script.specs.declared.line.Line.{Line}
use Rattle.zb_script.specs.declared.line.Line.TheVariants as line
use Rattle.commit_phases.specs.Pending.{PendingChanges}
use Rattle.zodb_core.specs.declared.reply.Reply.{Reply}
use Rattle.zodb_core.specs.declared.reply.Reply.TheVariants as reply
use Rattle.zodb_core.specs.declared.request.Request.{Request}
use Rattle.zodb_core.specs.declared.request.Request.TheVariants as request
use Rattle.zodb_core.specs.HubState.{HubState, rules_of}
use Rattle.zodb_core.specs.Machine.{Machine, Rules}
use Rattle.zodb_core.specs.Outcomes.{Answered, NoMemory, ReadingFailed, StepOutcome, StoreFailed, machine_left, outcome_of}
use Rattle.zodb_core.specs.Steps.{early_refusal, front_step, refuse_if, unless_early}
use Rattle.connection_view.specs.declared.connection.Connection.{Connection}
use Rattle.connection_view.specs.Works.{Work}
use Rattle.connection_view.specs.Connections.{Between, InView, IsCallMade, IsFrontBy, IsNewWork, begin_refusal, changeable, followed_by, unmixed, waiting_count, work_of}
use Rattle.connection_view.specs.Connections as connections
use Rattle.connection_view.specs.Loading.{Abort, Finish, Front, LoadsCall, Undo, Vote}
use Rattle.connection_view.specs.Views.{View, committed, each_object, renewed, stored_in, unvoted, view_of, voting}
use Rattle.connection_view.specs.Views as views
use Rattle.local_loads.specs.Answers.{abort_answer, finish_answer, front_answer, server_refusal, told_after, vote_answer}
use Rattle.local_loads.specs.Answers as local_answers
use Rattle.local_loads.specs.Local as local
use Rattle.local_loads.specs.Local.{LocalState, MayBeTold}
use Rattle.local_loads.specs.LocalLaws.{kept_behind, view_whole}
use Rattle.local_loads.specs.Making.{IsFinishStep, IsFrontBehind, IsFrontStep, IsHubStep, IsLocalCall, IsOneStep, IsStarved}
use Rattle.client_turns.specs.declared.client.Client.{Client}
use Rattle.client_turns.specs.Asking.{answered, begun_as, delivered_with, finished_as}
use Rattle.client_turns.specs.Clients.{Changes, Moment, OpenTransaction, begun, changes_of, no_changes, with_client}
use Rattle.client_turns.specs.Clients as seen
use Rattle.client_turns.specs.Lines.{answer_of, answer_to, as_voted, begin_request, client_left, is_committed, is_delivery, request_of}
use Rattle.client_turns.specs.Refusing.{line_refusal, mixed}
use Rattle.client_turns.specs.Standing.{IsClientOf, IsLineOpen, IsOpenAs, IsWorkOf, MayTakeAt, OneLeadsTo, changes_kept}
use Rattle.client_turns.specs.Steps.{IsStepAt}
use Rattle.client_turns.specs.Turns.{IsStepLine}
use Rattle.client_turns.specs.Views.{server_of}
use Rattle.client_turns.proofs.Hubs.{open_whole}
use Rattle.client_turns.proofs.Asked.{IsOpened, MayStand, end_of_client, none_of, opened_of}
use Rattle.client_turns.proofs.Following.{asked_formed}
use Rattle.client_turns.proofs.One.{BehindIt, StepsTo, client_kept, front_behind, not_closed, opened_to, refused_open, starved_open, stays, step_alone, step_one, step_open, steps_to, within_on, writes_on}
use Rattle.client_turns.proofs.Served.{Fits, fits_at}

-- ---- answers, by the replies

handed : (why : Refusal) → server_refusal why ≡ why → answer.Refused (server_refusal why) ≡ answer.Refused why
handed why is = ap (λ (z : Refusal). answer.Refused z) is

-- a reply to a vote or to an undo
abbrev FitsVoted : Reply → Type 0
FitsVoted reply.Voted = Unit {0}
FitsVoted (reply.Refused why) = server_refusal why ≡ why
FitsVoted _ = ⊥

of_vote : (user description extension : List ℕ) (pending : PendingChanges) (r : Reply) → Fits r (request.Vote user description extension pending) → FitsVoted r
of_vote user description extension pending reply.Voted fits = tt
of_vote user description extension pending (reply.Refused why) fits = fits
of_vote user description extension pending _ fits = absurd fits

of_undo : (user description : List ℕ) (tids : List ℕ) (r : Reply) → Fits r (request.Undo user description tids) → FitsVoted r
of_undo user description tids reply.Voted fits = tt
of_undo user description tids (reply.Refused why) fits = fits
of_undo user description tids _ fits = absurd fits

vote_told : (r : Reply) (a : Answer) → FitsVoted r → a ≡ answered (vote_answer r) answer.Voted → a ≡ answer_of r
vote_told reply.Voted a fits is = is
vote_told (reply.Refused why) a fits is = is ∙ handed why fits
vote_told _ a fits is = absurd fits

vote_uncommitted : (r : Reply) → FitsVoted r → is_committed r ≡ false
vote_uncommitted reply.Voted fits = refl
vote_uncommitted (reply.Refused why) fits = refl
vote_uncommitted _ fits = absurd fits

-- ---- a front leaves the list

front_server : (m : Machine) (n : ℕ) (o : Option Refusal) → server_of (unless_early o m (front_step m n)).machine ≡ server_of m
front_server m n None = refl
front_server m n (Some r) = refl

left_server : (rules : Rules) (m : Machine) (n stamp : ℕ) (o : StepOutcome) → server_of (machine_left rules m n request.Front stamp o) ≡ server_of m
left_server rules m n stamp Answered = front_server m n (early_refusal m n request.Front)
left_server rules m n stamp ReadingFailed = refl
left_server rules m n stamp NoMemory = refl
left_server rules m n stamp StoreFailed = refl

pub front_same : (rules : Rules) (m : Moment) (n : ℕ) (r : Reply) (now : Moment) → IsStepAt rules m n request.Front r now → server_of now.machine ≡ server_of m.machine
front_same rules m n r now step = ap server_of step.made.left ∙ left_server rules m.machine n step.stamp (outcome_of r)

-- the rules of a hub that was handed the same
pub rules_same : {R F : Type 0} (rules : R → MergeRules) (named : F → List ℕ → Option (List ℕ)) (old new : HubState R F) → new.resolver ≡ old.resolver → new.refs ≡ old.refs → rules_of rules named new ≡ rules_of rules named old
rules_same {R} {F} rules named old new resolver refs =
    ap (λ (x : R). let both : Rules = record { merging = rules x; named = named new.refs } in both) resolver
    ∙ ap (λ (x : F). let both : Rules = record { merging = rules old.resolver; named = named x } in both) refs

-- ---- refusals of a transaction

taken_refusal : (l : Line) (c : seen.Client) (o : Option OpenTransaction) → c.transaction ≡ o → line_refusal (changes_of c) l ≡ line_refusal (option_map (λ (t : OpenTransaction). t.changes) o) l
taken_refusal l c o is = ap (λ (z : Option OpenTransaction). line_refusal (option_map (λ (t : OpenTransaction). t.changes) z) l) is

taken_request : (l : Line) (c : seen.Client) (o : Option OpenTransaction) → c.transaction ≡ o → request_of c.standing (changes_of c) l ≡ request_of c.standing (option_map (λ (t : OpenTransaction). t.changes) o) l
taken_request l c o is = ap (λ (z : Option OpenTransaction). request_of c.standing (option_map (λ (t : OpenTransaction). t.changes) z) l) is

never_zero : (n : ℕ) → (suc n == 0) ≡ false
never_zero n = eqb-suc-zero n

-- what undo refuses beside changes, in both
mixed_some : (n : ℕ) (w : Work) → (if n == 0 then (let z : Result Work Refusal = Ok w in z) else Err (refusal.Mixed n)) ≡ Err (refusal.Mixed n) → refuse_if (nat_lt 0 n) (refusal.Mixed n) ≡ Some (refusal.Mixed n)
mixed_some zero w is = absurd cc
mixed_some (suc n) w is = ap (λ (b : Bool). refuse_if b (refusal.Mixed (suc n))) (lt-ltb 0 (suc n) (omega arith))

mixed_none : (n : ℕ) → n ≡ 0 → refuse_if (nat_lt 0 n) (refusal.Mixed n) ≡ None
mixed_none zero is = refl
mixed_none (suc n) is = absurd (omega (arith, is))

module _ {R F S : Type 0} (told lasts : Type 0) (stands : List ℕ → List Transaction → Type 0) (rules_in : R → MergeRules) (named_in : F → List ℕ → Option (List ℕ)) (tells : told) (m : Moment) (at : ℕ) (x y : Client) (c : seen.Client) (h g : HubState R F) (before after : Option (List Stamp)) (takes : MayTakeAt h before m at x c) (makes : S → LoadsCall → S → Type 0) (a b : S) (calls : (call : LoadsCall) → makes a call b → IsLocalCall (IsHubStep told lasts stands rules_in named_in x.session) call (end_of_client h before x) (end_of_client g after y)) (same : b ≡ a → end_of_client g after y ≡ end_of_client h before x) (name : y.name ≡ x.name) (session : y.session ≡ x.session) where
  abbrev pub mine : IsClientOf h x c
  mine = takes.stands.client

  abbrev pub may : MayStand told h x mine.told
  may = (tells, mine.may)

  pub whole : h.store.broken ≡ false
  whole = open_whole h m.machine c.session takes.stands.hub takes.may

  same_hub : b ≡ a → g ≡ h
  same_hub is = ap (λ (l : LocalState R F). l.hub) (same is)

  same_stamps : b ≡ a → after ≡ before
  same_stamps is = ap (λ (l : LocalState R F). l.stamps) (same is)

  same_told : b ≡ a → y.told ≡ x.told
  same_told is = ap (λ (l : LocalState R F). l.last) (same is)

  -- the client as it was, in this hub
  as_it_was : (hub : HubState R F) → y.told ≡ x.told → MayBeTold x.told hub mine.told.told mine.told.known → y.connection ≡ x.connection → IsClientOf hub y c
  as_it_was hub last be is =
      client_kept h hub x y c mine (record { name = name; session = session; told = last }) be (ap work_of is)
      (λ u view. subst (λ (k : Connection). InView k u mine.told) (sym is) view) (λ none. subst (λ (k : Connection). Between k mine.told) (sym is) none)

  -- nothing was done
  undone : (l : Line) (given : Answer) (why : Refusal) → b ≡ a → y.connection ≡ x.connection → line_refusal (changes_of c) l ≡ Some why → given ≡ answer.Refused why
      → OneLeadsTo (IsLineOpen (rules_of rules_in named_in h) m at c l given) m at h g y after
  undone l given why is kept refuses answers =
      stays _ m at h g x y c before after takes (same_hub is) (same_stamps is) (as_it_was h (same_told is) mine.may kept)
      (refused_open (rules_of rules_in named_in h) m at c l given m why refuses answers refl)

  -- the client with its open transaction, for what it may have been told by now
  open_client : (hub : HubState R F) (w v : Work) (o : IsOpened x.connection mine.told w c) (k : views.Client) (ch : Changes) → MayBeTold y.told hub k.told k.known → InView y.connection o.transaction.view k → work_of y.connection ≡ Ok v → ch ≡ changes_kept v
      → IsClientOf hub y (record c { transaction = Some (record { framed = o.transaction.framed; view = o.transaction.view; changes = ch }) })
  open_client hub w v o k ch be view works is = record {
    name = mine.name ∙ sym name;
    session = mine.session ∙ sym session;
    local = mine.local;
    told = k;
    may = be;
    transaction = subst (λ (wr : Result Work Refusal). IsOpenAs y.connection k wr (Some (record { framed = o.transaction.framed; view = o.transaction.view; changes = ch }))) (sym works)
        (let z : IsWorkOf y.connection k v (record { framed = o.transaction.framed; view = o.transaction.view; changes = ch }) = record { changes = is; near = o.is.near; view = view } in z);
  }

  same_opened : (hub : HubState R F) (w : Work) (o : IsOpened x.connection mine.told w c) (k : views.Client) → MayBeTold y.told hub k.told k.known → InView y.connection o.transaction.view k → work_of y.connection ≡ Ok w → IsClientOf hub y c
  same_opened hub w o k be view works = record {
    name = mine.name ∙ sym name;
    session = mine.session ∙ sym session;
    local = mine.local;
    told = k;
    may = be;
    transaction = subst (λ (z : Option OpenTransaction). IsOpenAs y.connection k (work_of y.connection) z) (sym o.begun) (subst (λ (wr : Result Work Refusal). IsOpenAs y.connection k wr (Some o.transaction)) (sym works)
        (let z : IsWorkOf y.connection k w o.transaction = record { changes = o.is.changes; near = o.is.near; view = view } in z));
  }

  -- the client without one
  closed_client : (hub : HubState R F) (k : views.Client) → MayBeTold y.told hub k.told k.known → Between y.connection k → work_of y.connection ≡ Err refusal.NoTransaction → IsClientOf hub y (record c { transaction = None })
  closed_client hub k be none works = record {
    name = mine.name ∙ sym name;
    session = mine.session ∙ sym session;
    local = mine.local;
    told = k;
    may = be;
    transaction = subst (λ (wr : Result Work Refusal). IsOpenAs y.connection k wr None) (sym works) (refl, none);
  }

  -- ---- a vote, and an undo

  -- what a vote or an undo may leave of a client, whatever it is answered
  pub record LeavesVote (w : Work) (o : IsOpened x.connection mine.told w c) (result : Result (Unit {0}) Refusal) : Type 0 where
    pub told_as : views.Client
    pub be : MayStand told g y told_as
    pub view : InView y.connection o.transaction.view told_as
    pub voted : OnOk result (work_of y.connection ≡ Ok (record w { is_voted = true }))
    pub err : OnErr result (work_of y.connection ≡ Ok w)

  voted_client : (n : Machine) (w : Work) (o : IsOpened x.connection mine.told w c) (result : Result (Unit {0}) Refusal) (r : Reply) → LeavesVote w o result → FitsVoted r → result ≡ vote_answer r → IsClientOf g y (client_left false n c r)
  voted_client n w o result reply.Voted left fits is =
      let works : work_of y.connection ≡ Ok (record w { is_voted = true }) = subst (λ (z : Result (Unit {0}) Refusal). OnOk z (work_of y.connection ≡ Ok (record w { is_voted = true }))) is left.voted in
      subst (λ (z : Option OpenTransaction). IsClientOf g y (record c { transaction = option_map as_voted z })) (sym o.begun)
      (open_client g w (record w { is_voted = true }) o left.told_as (record o.transaction.changes { is_voted = true }) left.be.1 left.view works (ap (λ (ch : Changes). record ch { is_voted = true }) o.is.changes))
  voted_client n w o result (reply.Refused why) left fits is =
      same_opened g w o left.told_as left.be.1 left.view (subst (λ (z : Result (Unit {0}) Refusal). OnErr z (work_of y.connection ≡ Ok w)) is left.err)
  voted_client n w o result _ left fits is = absurd fits

  -- it was asked of the hub, or there was no memory for it
  voted_by : (l : Line) (q : Request) (result : Result (Unit {0}) Refusal) (w : Work) (o : IsOpened x.connection mine.told w c) (given : Answer) → LeavesVote w o result → ((r : Reply) → Fits r q → FitsVoted r)
      → is_delivery l ≡ false → line_refusal (changes_of c) l ≡ None → request_of c.standing (changes_of c) l ≡ Some q → given ≡ answered result answer.Voted
      → IsStarved (end_of_client h before x) (end_of_client g after y) result ⊎ IsOneStep (IsHubStep told lasts stands rules_in named_in x.session) q vote_answer (end_of_client h before x) (end_of_client g after y) result
      → OneLeadsTo (IsLineOpen (rules_of rules_in named_in h) m at c l given) m at h g y after
  voted_by l q result w o given left fit plainly free asks answers (inl (nothing, starved)) =
      let gone : g ≡ h = ap (λ (z : LocalState R F). z.hub) nothing in
      stays _ m at h g x y c before after takes gone (ap (λ (z : LocalState R F). z.stamps) nothing)
      (subst (λ (hub : HubState R F). IsClientOf hub y c) gone (same_opened g w o left.told_as left.be.1 left.view (subst (λ (z : Result (Unit {0}) Refusal). OnErr z (work_of y.connection ≡ Ok w)) starved left.err)))
      (starved_open (rules_of rules_in named_in h) m at c l given m (answers ∙ ap (λ (z : Result (Unit {0}) Refusal). answered z answer.Voted) starved) refl)
  voted_by l q result w o given left fit plainly free asks answers (inr one) =
      let s : StepsTo (rules_of rules_in named_in h) m x.session q one.reply g after = steps_to told lasts stands rules_in named_in tells m x.session q one.reply h g before after one.step takes.stands.hub takes.stands.counts takes.stands.stamps in
      let fits : FitsVoted one.reply = fit one.reply (fits_at (rules_of rules_in named_in h) m x.session q one.reply s.now s.holds) in
      step_alone told lasts stands rules_in named_in tells _ m at x y c false q one.reply given h g before after (asked_formed c.standing (changes_of c) l q takes.formed asks) takes one.step s (vote_uncommitted one.reply fits)
      (vote_told one.reply given fits (answers ∙ ap (λ (z : Result (Unit {0}) Refusal). answered z answer.Voted) one.answer))
      (voted_client s.now.machine w o result one.reply left fits one.answer)
      (λ is. step_open (rules_of rules_in named_in h) m at c l given _ q mine.local free asks (subst (λ (d : Bool). IsStepLine (rules_of rules_in named_in h) m at c d q given (with_client s.now at (client_left false s.now.machine c one.reply))) (sym plainly) is))

  on_err : {T : Type 0} {P : Type 0} (result : Result T Refusal) (r : Refusal) → result ≡ Err r → OnErr result P → P
  on_err {T} {P} result r is err = subst (λ (z : Result T Refusal). OnErr z P) is err

  err_with : {T : Type 0} {P Q : Type 0} (result : Result T Refusal) → (P → Q) → OnErr result P → OnErr result Q
  err_with (Ok z) f err = tt
  err_with (Err r) f err = f err

  ok_with : {T : Type 0} {P Q : Type 0} (result : Result T Refusal) → (P → Q) → OnOk result P → OnOk result Q
  ok_with (Ok z) f ok = f ok
  ok_with (Err r) f ok = tt

  changeable_if : (w : Work) (b : Bool) → work_of x.connection ≡ Ok w → w.is_voted ≡ b → changeable (work_of x.connection) ≡ (if b then (let e : Result Work Refusal = Err refusal.Voted in e) else Ok w)
  changeable_if w b works voted = ap changeable works ∙ ap (λ (z : Bool). if z then (let e : Result Work Refusal = Err refusal.Voted in e) else Ok w) voted

  -- `vote`
  pub vote_leads : (user description : List ℕ) (result : Result (Unit {0}) Refusal) → OnOk result ((w : Work) → work_of x.connection ≡ Ok w → work_of y.connection ≡ Ok (record w { is_voted = true })) → OnErr result (work_of y.connection ≡ work_of x.connection)
      → ((u : View) (v : views.Client) (w : Work) → work_of x.connection ≡ Ok w → MayStand told h x v → InView x.connection u v → (now : views.Client) × (MayStand told g y now) × (InView y.connection u now) × ((now ≡ v) ⊎ (now ≡ voting (stored_in w.pending.stores) v)))
      → ((r : Refusal) → changeable (work_of x.connection) ≡ Err r → (result ≡ Err r) × (b ≡ a) × (y.connection ≡ x.connection))
      → ((w : Work) → changeable (work_of x.connection) ≡ Ok w → IsCallMade makes a b (Vote user description w.pending.stores w.pending.checks result) result)
      → (given : Answer) → given ≡ answered result answer.Voted → OneLeadsTo (IsLineOpen (rules_of rules_in named_in h) m at c (line.Vote user description) given) m at h g y after
  vote_leads user description result voted err view refused made given answers = by_work (work_of x.connection) refl
    where
      by_work : (wr : Result Work Refusal) → work_of x.connection ≡ wr → OneLeadsTo (IsLineOpen (rules_of rules_in named_in h) m at c (line.Vote user description) given) m at h g y after
      by_work (Err r) works =
          let none = none_of x.connection mine.told (work_of x.connection) r c mine.transaction works in
          let said = refused r (ap changeable works) in
          undone (line.Vote user description) given refusal.NoTransaction said.1 said.2 (taken_refusal (line.Vote user description) c None none.1)
          (answers ∙ ap (λ (z : Result (Unit {0}) Refusal). answered z answer.Voted) said.0 ∙ ap (λ (z : Refusal). answer.Refused z) none.0)
      by_work (Ok w) works = by_voted w.is_voted refl
        where
          o : IsOpened x.connection mine.told w c
          o = opened_of x.connection mine.told (work_of x.connection) w c mine.transaction works

          refuses : (z : Bool) → w.is_voted ≡ z → line_refusal (changes_of c) (line.Vote user description) ≡ refuse_if z refusal.Voted
          refuses z is = taken_refusal (line.Vote user description) c (Some o.transaction) o.begun ∙ ap (λ (ch : Changes). refuse_if ch.is_voted refusal.Voted) o.is.changes ∙ ap (λ (v : Bool). refuse_if v refusal.Voted) is

          by_voted : (z : Bool) → w.is_voted ≡ z → OneLeadsTo (IsLineOpen (rules_of rules_in named_in h) m at c (line.Vote user description) given) m at h g y after
          by_voted true is =
              let said = refused refusal.Voted (changeable_if w true works is) in
              undone (line.Vote user description) given refusal.Voted said.1 said.2 (refuses true is) (answers ∙ ap (λ (z : Result (Unit {0}) Refusal). answered z answer.Voted) said.0)
          by_voted false is = by_call (made w (changeable_if w false works is))
            where
              q : Request
              q = request.Vote user description [] (record { stores = w.pending.stores; checks = w.pending.checks })

              left : LeavesVote w o result
              left = let seen_by = view o.transaction.view mine.told w works may o.is.view in record {
                told_as = seen_by.0;
                be = seen_by.1;
                view = seen_by.2;
                voted = ok_with result (λ f. f w works) voted;
                err = err_with result (λ e. e ∙ works) err;
              }

              asks : request_of c.standing (changes_of c) (line.Vote user description) ≡ Some q
              asks = taken_request (line.Vote user description) c (Some o.transaction) o.begun ∙ ap (λ (ch : Changes). let z : Option Request = Some (request.Vote user description [] ch.pending) in z) o.is.changes

              by_call : IsCallMade makes a b (Vote user description w.pending.stores w.pending.checks result) result → OneLeadsTo (IsLineOpen (rules_of rules_in named_in h) m at c (line.Vote user description) given) m at h g y after
              by_call (inl call) = voted_by (line.Vote user description) q result w o given left (of_vote user description [] (record { stores = w.pending.stores; checks = w.pending.checks })) refl (refuses false is) asks answers (calls (Vote user description w.pending.stores w.pending.checks result) call)
              by_call (inr (nothing, starved)) = voted_by (line.Vote user description) q result w o given left (of_vote user description [] (record { stores = w.pending.stores; checks = w.pending.checks })) refl (refuses false is) asks answers (inl (same nothing, starved))

  -- `undo`
  pub undo_leads : (user description : List ℕ) (tids : List ℕ) (result : Result (Unit {0}) Refusal) → OnOk result ((w : Work) → work_of x.connection ≡ Ok w → work_of y.connection ≡ Ok (record w { is_voted = true })) → OnErr result (work_of y.connection ≡ work_of x.connection)
      → ((u : View) (v : views.Client) → IsOk (followed_by (changeable (work_of x.connection)) unmixed) → MayStand told h x v → InView x.connection u v → (MayStand told g y (voting each_object v)) × (InView y.connection u (voting each_object v)))
      → ((r : Refusal) → followed_by (changeable (work_of x.connection)) unmixed ≡ Err r → (result ≡ Err r) × (b ≡ a) × (y.connection ≡ x.connection))
      → (IsOk (followed_by (changeable (work_of x.connection)) unmixed) → makes a (Undo user description tids result) b)
      → (given : Answer) → given ≡ answered result answer.Voted → OneLeadsTo (IsLineOpen (rules_of rules_in named_in h) m at c (line.Undo user description tids) given) m at h g y after
  undo_leads user description tids result voted err view refused made given answers = by_work (work_of x.connection) refl
    where
      l : Line
      l = line.Undo user description tids

      by_work : (wr : Result Work Refusal) → work_of x.connection ≡ wr → OneLeadsTo (IsLineOpen (rules_of rules_in named_in h) m at c (line.Undo user description tids) given) m at h g y after
      by_work (Err r) works =
          let none = none_of x.connection mine.told (work_of x.connection) r c mine.transaction works in
          let said = refused r (ap (λ (z : Result Work Refusal). followed_by (changeable z) unmixed) works) in
          undone (line.Undo user description tids) given refusal.NoTransaction said.1 said.2 (taken_refusal (line.Undo user description tids) c None none.1)
          (answers ∙ ap (λ (z : Result (Unit {0}) Refusal). answered z answer.Voted) said.0 ∙ ap (λ (z : Refusal). answer.Refused z) none.0)
      by_work (Ok w) works = by_voted w.is_voted refl
        where
          o : IsOpened x.connection mine.told w c
          o = opened_of x.connection mine.told (work_of x.connection) w c mine.transaction works

          refuses : (z : Bool) → w.is_voted ≡ z → line_refusal (changes_of c) (line.Undo user description tids) ≡ option_or (refuse_if z refusal.Voted) (mixed w.pending)
          refuses z is =
              taken_refusal (line.Undo user description tids) c (Some o.transaction) o.begun ∙ ap (λ (ch : Changes). option_or (refuse_if ch.is_voted refusal.Voted) (mixed ch.pending)) o.is.changes
              ∙ ap (λ (v : Bool). option_or (refuse_if v refusal.Voted) (mixed w.pending)) is

          by_voted : (z : Bool) → w.is_voted ≡ z → OneLeadsTo (IsLineOpen (rules_of rules_in named_in h) m at c (line.Undo user description tids) given) m at h g y after
          by_voted true is =
              let said = refused refusal.Voted (ap (λ (z : Result Work Refusal). followed_by z unmixed) (changeable_if w true works is)) in
              undone (line.Undo user description tids) given refusal.Voted said.1 said.2 (refuses true is) (answers ∙ ap (λ (z : Result (Unit {0}) Refusal). answered z answer.Voted) said.0)
          by_voted false is = by_count (waiting_count w.pending) refl
            where
              free : followed_by (changeable (work_of x.connection)) unmixed ≡ unmixed w
              free = ap (λ (z : Result Work Refusal). followed_by z unmixed) (changeable_if w false works is)

              by_count : (n : ℕ) → waiting_count w.pending ≡ n → OneLeadsTo (IsLineOpen (rules_of rules_in named_in h) m at c (line.Undo user description tids) given) m at h g y after
              by_count (suc n) count =
                  let beside : unmixed w ≡ Err (refusal.Mixed (suc n)) = ap (λ (k : ℕ). if k == 0 then (let z : Result Work Refusal = Ok w in z) else Err (refusal.Mixed k)) count
                  ∙ ap (λ (z : Bool). if z then (let e : Result Work Refusal = Ok w in e) else Err (refusal.Mixed (suc n))) (never_zero n) in
                  let said = refused (refusal.Mixed (suc n)) (free ∙ beside) in
                  undone (line.Undo user description tids) given (refusal.Mixed (suc n)) said.1 said.2 (refuses false is ∙ ap (λ (k : ℕ). refuse_if (nat_lt 0 k) (refusal.Mixed k)) count ∙ ap (λ (z : Bool). refuse_if z (refusal.Mixed (suc n))) (lt-ltb 0 (suc n) (omega arith)))
                  (answers ∙ ap (λ (z : Result (Unit {0}) Refusal). answered z answer.Voted) said.0)
              by_count zero count =
                  let alone : unmixed w ≡ Ok w = ap (λ (k : ℕ). if k == 0 then (let z : Result Work Refusal = Ok w in z) else Err (refusal.Mixed k)) count in
                  let ok : IsOk (followed_by (changeable (work_of x.connection)) unmixed) = subst IsOk (sym (free ∙ alone)) refl in
                  let seen_by = view o.transaction.view mine.told ok may o.is.view in
                  let left : LeavesVote w o result = record { told_as = voting each_object mine.told; be = seen_by.0; view = seen_by.1; voted = ok_with result (λ f. f w works) voted; err = err_with result (λ e. e ∙ works) err } in
                  voted_by (line.Undo user description tids) (request.Undo user description tids) result w o given left (of_undo user description tids) refl (refuses false is ∙ ap (λ (k : ℕ). refuse_if (nat_lt 0 k) (refusal.Mixed k)) count)
                  (taken_request (line.Undo user description tids) c (Some o.transaction) o.begun) answers (calls (Undo user description tids result) (made ok))

  -- ---- an abort

  -- `abort`
  pub abort_leads : (result : Result (Unit {0}) Refusal) → OnOk result (work_of y.connection ≡ Err refusal.NoTransaction)
      → OnOk result ((u : View) (v : views.Client) → MayStand told h x v → InView x.connection u v → (MayStand told g y (unvoted v)) × (Between y.connection (unvoted v)))
      → ((r : Refusal) → work_of x.connection ≡ Err r → (result ≡ Err r) × (b ≡ a)) → ((w : Work) → work_of x.connection ≡ Ok w → makes a (Abort result) b) → OnErr result (y.connection ≡ x.connection)
      → (given : Answer) → given ≡ answered result answer.Aborted → OneLeadsTo (IsLineOpen (rules_of rules_in named_in h) m at c line.Abort given) m at h g y after
  abort_leads result ended dropped refused made err given answers = by_work (work_of x.connection) refl
    where
      by_work : (wr : Result Work Refusal) → work_of x.connection ≡ wr → OneLeadsTo (IsLineOpen (rules_of rules_in named_in h) m at c line.Abort given) m at h g y after
      by_work (Err r) works =
          let none = none_of x.connection mine.told (work_of x.connection) r c mine.transaction works in
          let said = refused r works in
          undone line.Abort given refusal.NoTransaction said.1 (on_err result r said.0 err) (taken_refusal line.Abort c None none.1)
          (answers ∙ ap (λ (z : Result (Unit {0}) Refusal). answered z answer.Aborted) said.0 ∙ ap (λ (z : Refusal). answer.Refused z) none.0)
      by_work (Ok w) works =
          by_reply one.reply one.step s (fits_at (rules_of rules_in named_in h) m x.session request.Abort one.reply s.now s.holds) one.answer
        where
          o : IsOpened x.connection mine.told w c
          o = opened_of x.connection mine.told (work_of x.connection) w c mine.transaction works

          one : IsOneStep (IsHubStep told lasts stands rules_in named_in x.session) request.Abort abort_answer (end_of_client h before x) (end_of_client g after y) result
          one = calls (Abort result) (made w works)

          s : StepsTo (rules_of rules_in named_in h) m x.session request.Abort one.reply g after
          s = steps_to told lasts stands rules_in named_in tells m x.session request.Abort one.reply h g before after one.step takes.stands.hub takes.stands.counts takes.stands.stamps

          done : (r : Reply) → IsHubStep told lasts stands rules_in named_in x.session request.Abort r h g before after → (s : StepsTo (rules_of rules_in named_in h) m x.session request.Abort r g after) → is_committed r ≡ false → given ≡ answer_of r
              → IsClientOf g y (client_left false s.now.machine c r) → OneLeadsTo (IsLineOpen (rules_of rules_in named_in h) m at c line.Abort given) m at h g y after
          done r step s uncommitted told_so client =
              step_alone told lasts stands rules_in named_in tells _ m at x y c false request.Abort r given h g before after tt takes step s uncommitted told_so client
              (λ is. step_open (rules_of rules_in named_in h) m at c line.Abort given _ request.Abort mine.local (taken_refusal line.Abort c (Some o.transaction) o.begun) (taken_request line.Abort c (Some o.transaction) o.begun) is)

          by_reply : (r : Reply) → IsHubStep told lasts stands rules_in named_in x.session request.Abort r h g before after → (s : StepsTo (rules_of rules_in named_in h) m x.session request.Abort r g after) → Fits r request.Abort → result ≡ abort_answer r
              → OneLeadsTo (IsLineOpen (rules_of rules_in named_in h) m at c line.Abort given) m at h g y after
          by_reply reply.Aborted step s fits is =
              let left = subst (λ (z : Result (Unit {0}) Refusal). OnOk z ((u : View) (v : views.Client) → MayStand told h x v → InView x.connection u v → (MayStand told g y (unvoted v)) × (Between y.connection (unvoted v)))) is dropped o.transaction.view mine.told may o.is.view in
              let over = subst (λ (z : Result (Unit {0}) Refusal). OnOk z (work_of y.connection ≡ Err refusal.NoTransaction)) is ended in
              done reply.Aborted step s refl (answers ∙ ap (λ (z : Result (Unit {0}) Refusal). answered z answer.Aborted) is) (closed_client g (unvoted mine.told) left.0.1 left.1 over)
          by_reply (reply.Refused why) step s fits is =
              done (reply.Refused why) step s refl (answers ∙ ap (λ (z : Result (Unit {0}) Refusal). answered z answer.Aborted) is ∙ handed why fits)
              (as_it_was g one.last (kept_behind told lasts stands rules_in named_in x.session request.Abort (reply.Refused why) h g before after tells step x.told mine.told.told mine.told.known mine.may) (on_err result (server_refusal why) is err))
          by_reply _ step s fits is = absurd fits

  -- ---- a finish

  -- `finish`
  pub finish_leads : (result : Result (Option ℕ) Refusal) → OnOk result (work_of y.connection ≡ Err refusal.NoTransaction)
      → IfOk result (λ tid. MatchOption tid ((u : View) (v : views.Client) → MayStand told h x v → InView x.connection u v → (MayStand told g y (unvoted v)) × (Between y.connection (unvoted v)))
      (λ tid. (u : View) (v : views.Client) → MayStand told h x v → InView x.connection u v → (MayStand told g y (committed (view_of (local.server_of g)) v)) × (Between y.connection (committed (view_of (local.server_of g)) v))))
      → ((r : Refusal) → work_of x.connection ≡ Err r → (result ≡ Err r) × (b ≡ a)) → ((w : Work) → work_of x.connection ≡ Ok w → makes a (Finish result) b) → OnErr result (y.connection ≡ x.connection)
      → (given : Answer) → given ≡ finished_as result → OneLeadsTo (IsLineOpen (rules_of rules_in named_in h) m at c line.Finish given) m at h g y after
  finish_leads result ended left refused made err given answers = by_work (work_of x.connection) refl
    where
      by_work : (wr : Result Work Refusal) → work_of x.connection ≡ wr → OneLeadsTo (IsLineOpen (rules_of rules_in named_in h) m at c line.Finish given) m at h g y after
      by_work (Err r) works =
          let none = none_of x.connection mine.told (work_of x.connection) r c mine.transaction works in
          let said = refused r works in
          undone line.Finish given refusal.NoTransaction said.1 (on_err result r said.0 err) (taken_refusal line.Finish c None none.1)
          (answers ∙ ap finished_as said.0 ∙ ap (λ (z : Refusal). answer.Refused z) none.0)
      by_work (Ok w) works = by_reply one.reply one.step one.front s (fits_at (rules_of rules_in named_in h) m x.session request.Finish one.reply s.now s.holds) one.answer
        where
          o : IsOpened x.connection mine.told w c
          o = opened_of x.connection mine.told (work_of x.connection) w c mine.transaction works

          one : IsFinishStep (IsHubStep told lasts stands rules_in named_in x.session) (end_of_client h before x) (end_of_client g after y) result
          one = calls (Finish result) (made w works)

          s : StepsTo (rules_of rules_in named_in h) m x.session request.Finish one.reply one.behind one.left
          s = steps_to told lasts stands rules_in named_in tells m x.session request.Finish one.reply h one.behind before one.left one.step takes.stands.hub takes.stands.counts takes.stands.stamps

          taken : (a' : Answer) (now : Moment) → IsStepLine (rules_of rules_in named_in h) m at c false request.Finish a' now → IsLineOpen (rules_of rules_in named_in h) m at c line.Finish a' now
          taken a' now is = step_open (rules_of rules_in named_in h) m at c line.Finish a' now request.Finish mine.local (taken_refusal line.Finish c (Some o.transaction) o.begun) (taken_request line.Finish c (Some o.transaction) o.begun) is

          -- nothing was committed, and no front followed
          alone : (r : Reply) → IsHubStep told lasts stands rules_in named_in x.session request.Finish r h one.behind before one.left → g ≡ one.behind → after ≡ one.left → is_committed r ≡ false → given ≡ answer_of r
              → ((n : Machine) → IsHubStep told lasts stands rules_in named_in x.session request.Finish r h g before after → IsClientOf g y (client_left false n c r)) → OneLeadsTo (IsLineOpen (rules_of rules_in named_in h) m at c line.Finish given) m at h g y after
          alone r step none still uncommitted told_so client =
              let here : IsHubStep told lasts stands rules_in named_in x.session request.Finish r h g before after =
              subst (λ (z : HubState R F). IsHubStep told lasts stands rules_in named_in x.session request.Finish r h z before after) (sym none)
              (subst (λ (z : Option (List Stamp)). IsHubStep told lasts stands rules_in named_in x.session request.Finish r h one.behind before z) (sym still) step) in
              let to : StepsTo (rules_of rules_in named_in h) m x.session request.Finish r g after =
              steps_to told lasts stands rules_in named_in tells m x.session request.Finish r h g before after here takes.stands.hub takes.stands.counts takes.stands.stamps in
              step_alone told lasts stands rules_in named_in tells _ m at x y c false request.Finish r given h g before after tt takes here to uncommitted told_so (client to.now.machine here) (λ is. taken given _ is)

          by_reply : (r : Reply) → IsHubStep told lasts stands rules_in named_in x.session request.Finish r h one.behind before one.left → IsFrontBehind (IsHubStep told lasts stands rules_in named_in x.session) (local_answers.is_committed r) one.behind g one.left after
              → (s : StepsTo (rules_of rules_in named_in h) m x.session request.Finish r one.behind one.left) → Fits r request.Finish → result ≡ finish_answer r → OneLeadsTo (IsLineOpen (rules_of rules_in named_in h) m at c line.Finish given) m at h g y after
          by_reply (reply.Committed tid) step front s fits is =
              let behind : BehindIt (rules_of rules_in named_in h) true s.now x.session one.behind g after =
              front_behind told lasts stands rules_in named_in tells (rules_of rules_in named_in h) s.now x.session front.0 one.behind g one.left after front.1 (sym (rules_same rules_in named_in h one.behind step.safe.resolver step.safe.refs))
              s.hub (writes_on _ m x.session request.Finish (reply.Committed tid) s.now s.holds takes.stands.vote)
              (within_on _ m x.session request.Finish (reply.Committed tid) s.now s.holds takes.stands.vote takes.stands.within) s.counts s.stamps in
              let over = subst (λ (z : Result (Option ℕ) Refusal). OnOk z (work_of y.connection ≡ Err refusal.NoTransaction)) is ended in
              let still = subst (λ (z : Result (Option ℕ) Refusal). IfOk z (λ tid. MatchOption tid ((u : View) (v : views.Client) → MayStand told h x v → InView x.connection u v → (MayStand told g y (unvoted v)) × (Between y.connection (unvoted v)))
              (λ tid. (u : View) (v : views.Client) → MayStand told h x v → InView x.connection u v → (MayStand told g y (committed (view_of (local.server_of g)) v)) × (Between y.connection (committed (view_of (local.server_of g)) v))))) is left o.transaction.view mine.told may o.is.view in
              step_one told lasts stands rules_in named_in tells _ m at x y c (record c { transaction = None }) request.Finish (reply.Committed tid) given h one.behind g before one.left after tt takes step s behind
              (answers ∙ ap finished_as is) refl (closed_client g (committed (view_of (local.server_of g)) mine.told) still.0.1 still.1 over) (λ line_is. taken given _ line_is)
          by_reply reply.Empty step front s fits is =
              let over = subst (λ (z : Result (Option ℕ) Refusal). OnOk z (work_of y.connection ≡ Err refusal.NoTransaction)) is ended in
              let still = subst (λ (z : Result (Option ℕ) Refusal). IfOk z (λ tid. MatchOption tid ((u : View) (v : views.Client) → MayStand told h x v → InView x.connection u v → (MayStand told g y (unvoted v)) × (Between y.connection (unvoted v)))
              (λ tid. (u : View) (v : views.Client) → MayStand told h x v → InView x.connection u v → (MayStand told g y (committed (view_of (local.server_of g)) v)) × (Between y.connection (committed (view_of (local.server_of g)) v))))) is left o.transaction.view mine.told may o.is.view in
              alone reply.Empty step front.0 front.1 refl (answers ∙ ap finished_as is) (λ n here. closed_client g (unvoted mine.told) still.0.1 still.1 over)
          by_reply (reply.Refused why) step front s fits is =
              alone (reply.Refused why) step front.0 front.1 refl (answers ∙ ap finished_as is ∙ handed why fits)
              (λ n here. as_it_was g one.last (kept_behind told lasts stands rules_in named_in x.session request.Finish (reply.Refused why) h g before after tells here x.told mine.told.told mine.told.known mine.may) (on_err result (server_refusal why) is err))
          by_reply _ step front s fits is = absurd fits

  -- ---- a beginning

  -- `begin`
  pub begin_leads : (result : Result ℕ Refusal) → IfOk result (λ front. (w : Work) × (work_of y.connection ≡ Ok w) × IsNewWork front w)
      → OnOk result ((v : views.Client) → MayStand told h x v → Between x.connection v → InView y.connection (view_of (local.server_of h)) (renewed (view_of (local.server_of h)) v))
      → OnOk result ((v : views.Client) → MayStand told h x v → MayStand told g y (renewed (view_of (local.server_of h)) v))
      → ((r : Refusal) → begin_refusal (work_of x.connection) ≡ Some r → (result ≡ Err r) × (b ≡ a)) → (begin_refusal (work_of x.connection) ≡ None → IsFrontBy makes a b result) → OnErr result (y.connection ≡ x.connection)
      → (given : Answer) → given ≡ begun_as result → OneLeadsTo (IsLineOpen (rules_of rules_in named_in h) m at c line.Begin given) m at h g y after
  begin_leads result opened view be refused made err given answers = by_work (work_of x.connection) refl
    where
      by_work : (wr : Result Work Refusal) → work_of x.connection ≡ wr → OneLeadsTo (IsLineOpen (rules_of rules_in named_in h) m at c line.Begin given) m at h g y after
      by_work (Ok w) works =
          let o : IsOpened x.connection mine.told w c = opened_of x.connection mine.told (work_of x.connection) w c mine.transaction works in
          let said = refused refusal.InTransaction (ap begin_refusal works) in
          undone line.Begin given refusal.InTransaction said.1 (on_err result refusal.InTransaction said.0 err) (taken_refusal line.Begin c (Some o.transaction) o.begun) (answers ∙ ap begun_as said.0)
      by_work (Err r) works = by_reply front.reply front.step s front.last (fits_at (rules_of rules_in named_in h) m x.session request.Front front.reply s.now s.holds) (told_by.2 ∙ ap connections.front_answer front.answer)
        where
          none : (r ≡ refusal.NoTransaction) × (c.transaction ≡ None) × Between x.connection mine.told
          none = none_of x.connection mine.told (work_of x.connection) r c mine.transaction works

          told_by : IsFrontBy makes a b result
          told_by = made (ap begin_refusal (works ∙ ap (λ (z : Refusal). let e : Result Work Refusal = Err z in e) none.0))

          front : IsFrontStep (IsHubStep told lasts stands rules_in named_in x.session) (end_of_client h before x) (end_of_client g after y) told_by.0
          front = calls (Front told_by.0) told_by.1

          s : StepsTo (rules_of rules_in named_in h) m x.session request.Front front.reply g after
          s = steps_to told lasts stands rules_in named_in tells m x.session request.Front front.reply h g before after front.step takes.stands.hub takes.stands.counts takes.stands.stamps

          done : (r : Reply) → IsHubStep told lasts stands rules_in named_in x.session request.Front r h g before after → (s : StepsTo (rules_of rules_in named_in h) m x.session request.Front r g after) → is_committed r ≡ false → given ≡ answer_of r
              → IsClientOf g y (client_left false s.now.machine c r) → OneLeadsTo (IsLineOpen (rules_of rules_in named_in h) m at c line.Begin given) m at h g y after
          done r step s uncommitted told_so client =
              step_alone told lasts stands rules_in named_in tells _ m at x y c false request.Front r given h g before after tt takes step s uncommitted told_so client
              (λ is. step_open (rules_of rules_in named_in h) m at c line.Begin given _ request.Front mine.local (taken_refusal line.Begin c None none.1) (taken_request line.Begin c None none.1 ∙ ap begin_request mine.local) is)

          new_changes : (w : Work) (front : ℕ) → IsNewWork front w → no_changes ≡ changes_kept w
          new_changes w front new =
              ap (λ (z : List PendingStore). let ch : Changes = record { pending = record { stores = z; checks = [] }; savepoints = []; is_voted = false } in ch) (sym new.stores)
              ∙ ap (λ (z : List PendingCheck). let ch : Changes = record { pending = record { stores = w.pending.stores; checks = z }; savepoints = []; is_voted = false } in ch) (sym new.checks)
              ∙ ap (λ (z : List PendingChanges). let ch : Changes = record { pending = w.pending; savepoints = z; is_voted = false } in ch) (sym new.savepoints)
              ∙ ap (λ (z : Bool). let ch : Changes = record { pending = w.pending; savepoints = w.savepoints; is_voted = z } in ch) (sym new.unvoted)

          by_reply : (r : Reply) → IsHubStep told lasts stands rules_in named_in x.session request.Front r h g before after → (s : StepsTo (rules_of rules_in named_in h) m x.session request.Front r g after) → y.told ≡ told_after x.told r → Fits r request.Front
              → result ≡ connections.front_answer (front_answer x.told r) → OneLeadsTo (IsLineOpen (rules_of rules_in named_in h) m at c line.Begin given) m at h g y after
          by_reply (reply.Front number news switches) step s last fits is =
              let fresh : View = view_of (local.server_of h) in
              let now_is : fresh ≡ view_of (server_of s.now.machine) = view_whole h m.machine takes.stands.hub whole ∙ ap view_of (sym (front_same _ m x.session (reply.Front number news switches) s.now s.holds)) in
              let work = subst (λ (z : Result ℕ Refusal). IfOk z (λ front. (w : Work) × (work_of y.connection ≡ Ok w) × IsNewWork front w)) is opened in
              let sees = subst (λ (z : Result ℕ Refusal). OnOk z ((v : views.Client) → MayStand told h x v → Between x.connection v → InView y.connection (view_of (local.server_of h)) (renewed (view_of (local.server_of h)) v))) is view mine.told may none.2 in
              let stays_so = subst (λ (z : Result ℕ Refusal). OnOk z ((v : views.Client) → MayStand told h x v → MayStand told g y (renewed (view_of (local.server_of h)) v))) is be mine.told may in
              let client : IsClientOf g y (record c { transaction = Some (begun (view_of (server_of s.now.machine))) }) = record {
                name = mine.name ∙ sym name;
                session = mine.session ∙ sym session;
                local = mine.local;
                told = renewed fresh mine.told;
                may = stays_so.1;
                transaction = subst (λ (wr : Result Work Refusal). IsOpenAs y.connection (renewed fresh mine.told) wr (Some (begun (view_of (server_of s.now.machine))))) (sym work.1)
                    (let z : IsWorkOf y.connection (renewed fresh mine.told) work.0 (begun (view_of (server_of s.now.machine))) = record { changes = new_changes work.0 number work.2; near = refl; view = subst (λ (v : View). InView y.connection v (renewed fresh mine.told)) now_is sees } in z);
              } in
              done (reply.Front number news switches) step s refl (answers ∙ ap begun_as is) client
          by_reply (reply.Refused why) step s last fits is =
              done (reply.Refused why) step s refl (answers ∙ ap begun_as is ∙ handed why fits)
              (as_it_was g last (kept_behind told lasts stands rules_in named_in x.session request.Front (reply.Refused why) h g before after tells step x.told mine.told.told mine.told.known mine.may) (on_err result (server_refusal why) is err))
          by_reply _ step s last fits is = absurd fits

  -- ---- a delivery

  -- `deliver`: the client is told, and what it has open stays
  pub deliver_leads : (result : Result ℕ Refusal)
      → OnOk result ((u : View) (v : views.Client) → MayStand told h x v → InView x.connection u v → InView y.connection u (renewed (view_of (local.server_of h)) v))
      → OnOk result ((v : views.Client) → MayStand told h x v → Between x.connection v → Between y.connection (renewed (view_of (local.server_of h)) v))
      → OnOk result ((v : views.Client) → MayStand told h x v → MayStand told g y (renewed (view_of (local.server_of h)) v))
      → ((work_of x.connection ≡ Err refusal.NotOpen → ⊥) → IsFrontBy makes a b result) → work_of y.connection ≡ work_of x.connection → OnErr result (y.connection ≡ x.connection)
      → (given : Answer) → given ≡ delivered_with result → OneLeadsTo (IsLineOpen (rules_of rules_in named_in h) m at c line.Deliver given) m at h g y after
  deliver_leads result view between be made work err given answers = by_reply front.reply front.step s front.last (fits_at (rules_of rules_in named_in h) m x.session request.Front front.reply s.now s.holds) (told_by.2 ∙ ap connections.front_answer front.answer)
    where
      told_by : IsFrontBy makes a b result
      told_by = made (not_closed x.connection mine.told (work_of x.connection) c.transaction mine.transaction)

      front : IsFrontStep (IsHubStep told lasts stands rules_in named_in x.session) (end_of_client h before x) (end_of_client g after y) told_by.0
      front = calls (Front told_by.0) told_by.1

      s : StepsTo (rules_of rules_in named_in h) m x.session request.Front front.reply g after
      s = steps_to told lasts stands rules_in named_in tells m x.session request.Front front.reply h g before after front.step takes.stands.hub takes.stands.counts takes.stands.stamps

      done : (r : Reply) → IsHubStep told lasts stands rules_in named_in x.session request.Front r h g before after → (s : StepsTo (rules_of rules_in named_in h) m x.session request.Front r g after) → is_committed r ≡ false → given ≡ answer_to true r
          → IsClientOf g y c → OneLeadsTo (IsLineOpen (rules_of rules_in named_in h) m at c line.Deliver given) m at h g y after
      done r step s uncommitted told_so client =
          step_alone told lasts stands rules_in named_in tells _ m at x y c true request.Front r given h g before after tt takes step s uncommitted told_so client
          (λ is. step_open (rules_of rules_in named_in h) m at c line.Deliver given _ request.Front mine.local refl refl is)

      by_reply : (r : Reply) → IsHubStep told lasts stands rules_in named_in x.session request.Front r h g before after → (s : StepsTo (rules_of rules_in named_in h) m x.session request.Front r g after) → y.told ≡ told_after x.told r → Fits r request.Front
          → result ≡ connections.front_answer (front_answer x.told r) → OneLeadsTo (IsLineOpen (rules_of rules_in named_in h) m at c line.Deliver given) m at h g y after
      by_reply (reply.Front number news switches) step s last fits is =
          let fresh : View = view_of (local.server_of h) in
          let sees = subst (λ (z : Result ℕ Refusal). OnOk z ((u : View) (v : views.Client) → MayStand told h x v → InView x.connection u v → InView y.connection u (renewed (view_of (local.server_of h)) v))) is view in
          let waits = subst (λ (z : Result ℕ Refusal). OnOk z ((v : views.Client) → MayStand told h x v → Between x.connection v → Between y.connection (renewed (view_of (local.server_of h)) v))) is between in
          let stays_so = subst (λ (z : Result ℕ Refusal). OnOk z ((v : views.Client) → MayStand told h x v → MayStand told g y (renewed (view_of (local.server_of h)) v))) is be mine.told may in
          let client : IsClientOf g y c = record {
            name = mine.name ∙ sym name;
            session = mine.session ∙ sym session;
            local = mine.local;
            told = renewed fresh mine.told;
            may = stays_so.1;
            transaction = subst (λ (wr : Result Work Refusal). IsOpenAs y.connection (renewed fresh mine.told) wr c.transaction) (sym work)
                (opened_to x.connection y.connection mine.told (renewed fresh mine.told) (λ u seen. sees u mine.told may seen) (λ none. waits mine.told may none) (work_of x.connection) c.transaction mine.transaction);
          } in
          done (reply.Front number news switches) step s refl (answers ∙ ap delivered_with is) client
      by_reply (reply.Refused why) step s last fits is =
          done (reply.Refused why) step s refl (answers ∙ ap delivered_with is ∙ handed why fits)
          (as_it_was g last (kept_behind told lasts stands rules_in named_in x.session request.Front (reply.Refused why) h g before after tells step x.told mine.told.told mine.told.known mine.may) (on_err result (server_refusal why) is err))
      by_reply _ step s last fits is = absurd fits
