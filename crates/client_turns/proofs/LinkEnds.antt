-- Lines of a client with a link over the calls of its connection: what nothing is asked for, and aborts.
use Rattle.std.proofs.Common.{◌≡◌, ℕ, ◌-◌, ◌≤◌, ◌^◌, Bool, false, List, length, Option, Some, None, Result, Ok, Err, refl, sym, ap, subst, ◌∙◌, arith}
use Rattle.std.specs.Prelude.{OnErr, OnOk}
use Rattle.std.specs.Option.{option_map}
use Rattle.zb_ids.specs.declared.stamp.Stamp.{Stamp}
use Rattle.zb_model.specs.declared.data.Transaction.{Transaction}
use Rattle.zb_model.specs.declared.refusal.Refusal.{Refusal}
use Rattle.zb_model.specs.declared.refusal.Refusal.TheVariants as refusal
use Rattle.zb_model.specs.Rules.{MergeRules}
use Rattle.zb_answers.specs.declared.answer.Answer.{Answer}
use Rattle.zb_answers.specs.declared.answer.Answer.TheVariants as answer
use Rattle.zb_script.specs.declared.line.Line.{Line}
use Rattle.zb_script.specs.declared.line.Line.TheVariants as line
use Rattle.zodb_core.specs.declared.reply.Reply.{Reply}
use Rattle.zodb_core.specs.declared.reply.Reply.TheVariants as reply
use Rattle.zodb_core.specs.declared.request.Request.{Request}
use Rattle.zodb_core.specs.declared.request.Request.TheVariants as request
use Rattle.zodb_core.specs.HubState.{HubState, rules_of}
use Rattle.zodb_core.specs.Machine.{Rules}
use Rattle.connection_view.specs.declared.connection.Connection.{Connection}
use Rattle.connection_view.specs.Works.{Work}
use Rattle.connection_view.specs.Connections.{Between, InView, work_of}
use Rattle.connection_view.specs.Loading.{Abort, LoadsCall}
use Rattle.connection_view.specs.Views.{View, unvoted}
use Rattle.connection_view.specs.Views as views
use Rattle.zeo_messages.specs.declared.answer.Answer.{Answer as FarAnswer}
use Rattle.zeo_messages.specs.declared.call.Call.{Call}
use Rattle.zeo_messages.specs.declared.call.Call.TheVariants as calls
use Rattle.zeo_messages.specs.Calls.{arguments_of, flag_of, method_of}
use Rattle.zeo_messages.specs.LengthLaws.{payload_length}
use Rattle.zeo_values.specs.LengthLaws.{count_short, name_length}
use Rattle.zeo_values.specs.Values.{tuple_text}
use Rattle.zeo_desk.specs.declared.asked.Asked.TheVariants as asked
use Rattle.zeo_desk.specs.Desks.{DeskState}
use Rattle.zeo_client.specs.declared.asking.AskError.{AskError}
use Rattle.zeo_client.specs.declared.asking.AskError.TheVariants as ask_error
use Rattle.zeo_client.specs.Asking.{IsTooLong}
use Rattle.zeo_client.specs.Taking.{ClientState}
use Rattle.hub_carrier.specs.declared.trouble.Trouble.{Trouble}
use Rattle.hub_carrier.specs.declared.trouble.Trouble.TheVariants as trouble
use Rattle.hub_carrier.specs.Ends.{HubEnd, StepsThere, end_at, machine_at}
use Rattle.remote_loads.specs.Answers.{done_answer}
use Rattle.remote_loads.specs.Causes.{unasked}
use Rattle.remote_loads.specs.Making.{MakesOne, makes_answered, makes_lost, makes_none, makes_unsent}
use Rattle.remote_loads.specs.Relating.{IsCallMade}
use Rattle.remote_loads.specs.Standing.{Stands}
use Rattle.remote_loads.specs.Talking.{IsUnsent, IsWayLost, answer_given}
use Rattle.client_turns.specs.declared.linked.LinkedClient.{LinkedClient}
use Rattle.client_turns.specs.Asking.{answered}
use Rattle.client_turns.specs.Clients.{Moment, OpenTransaction, changes_of}
use Rattle.client_turns.specs.Clients as seen
use Rattle.client_turns.specs.Lines.{end_of, request_of}
use Rattle.client_turns.specs.Linked.{IsLinkedOf, IsLinkedOpen, IsLinkedWork, LinkedEnds, LinkedLeadsTo, MayTakeLinked, TakesLinked}
use Rattle.client_turns.specs.Refusing.{line_refusal}
use Rattle.client_turns.specs.OverCarrier.{LinkAt}
use Rattle.client_turns.specs.Settling.{settled}
use Rattle.client_turns.specs.Standing.{IsLineOpen}
use Rattle.client_turns.proofs.Bare.{EndReply, bare_far, bare_sent, calm_lost, done_sent, end_reply, settled_bare}
use Rattle.client_turns.proofs.One.{refused_open, set_there}
use Rattle.client_turns.proofs.Others.{others_same}
use Rattle.client_turns.proofs.OverLink.{linked_answer, linked_stays, answered_ends, lost_ends, refused_ends, starved_ends, step_to}

-- ---- calls that fit a frame

pub short_call : (call : Call) (n : ℕ) → length (method_of call) ≤ 40 → length (tuple_text (arguments_of call)) ≤ 100 → IsTooLong call n → ⊥
short_call call n name value long =
    let a = payload_length (2 ^ 31 - 1) (flag_of call) (method_of call) (tuple_text (arguments_of call)) in
    let b = count_short (2 ^ 31 - 1) in
    let c = count_short (flag_of call) in
    let d = name_length (method_of call) in
    let e = long.long in
    let f = long.above in
    absurd (omega (arith, a, b, c, d, e, f, name, value))

-- ---- one step, by how it was made

pub one_made : {S T : Type 0} (steps : Request → Reply → S → S → Type 0) (q : Request) (call : Call) (said : FarAnswer → Result T Refusal) (s : S) (P : Result T Refusal → S → Type 0)
    → ((error : AskError) → IsUnsent call error → P (Err (unasked error)) s) → ((r : Refusal) → IsWayLost r → P (Err r) s) → ((r : Refusal) (answer : Reply) (u : S) → IsWayLost r → steps q answer s u → P (Err r) u)
    → ((answer : Reply) (u : S) → steps q answer s u → P (said (answer_given q answer)) u) → (result : Result T Refusal) (u : S) → MakesOne steps q call said s result u → P result u
one_made steps q call said s P unsent none lost told _ _ (makes_unsent error is) = unsent error is
one_made steps q call said s P unsent none lost told _ _ (makes_none r way) = none r way
one_made steps q call said s P unsent none lost told _ _ (makes_lost r answer u way step) = lost r answer u way step
one_made steps q call said s P unsent none lost told _ _ (makes_answered answer u step) = told answer u step

-- ---- what there is at a client's end

abbrev pub LinkEnd : Type 0 → Type 0 → Type 0
LinkEnd R F = LinkAt (HubEnd R F)

abbrev pub link_end : {R F : Type 0} → HubEnd R F → LinkedClient → LinkEnd R F
link_end there x = record { there = there; session = x.session; desk = x.desk; client = x.client }

pub link_is : {R F : Type 0} (hub hub' : HubState R F) (s s' : Option (List Stamp)) (p p' : Bool) (t t' : Trouble) (n n' : ℕ) (d d' : DeskState) (z z' : ClientState) → hub ≡ hub' → s ≡ s' → p ≡ p' → t ≡ t' → n ≡ n' → d ≡ d' → z ≡ z'
    → (let l : LinkEnd R F = record { there = end_at hub s p t; session = n; desk = d; client = z } in l) ≡ record { there = end_at hub' s' p' t'; session = n'; desk = d'; client = z' }
link_is {R} {F} hub hub' s s' p p' t t' n n' d d' z z' a b c e f g h =
    ap (λ (x : HubState R F). let l : LinkEnd R F = record { there = end_at x s p t; session = n; desk = d; client = z } in l) a
    ∙ ap (λ (x : Option (List Stamp)). let l : LinkEnd R F = record { there = end_at hub' x p t; session = n; desk = d; client = z } in l) b
    ∙ ap (λ (x : Bool). let l : LinkEnd R F = record { there = end_at hub' s' x t; session = n; desk = d; client = z } in l) c
    ∙ ap (λ (x : Trouble). let l : LinkEnd R F = record { there = end_at hub' s' p' x; session = n; desk = d; client = z } in l) e
    ∙ ap (λ (x : ℕ). let l : LinkEnd R F = record { there = end_at hub' s' p' t'; session = x; desk = d; client = z } in l) f
    ∙ ap (λ (x : DeskState). let l : LinkEnd R F = record { there = end_at hub' s' p' t'; session = n'; desk = x; client = z } in l) g
    ∙ ap (λ (x : ClientState). let l : LinkEnd R F = record { there = end_at hub' s' p' t'; session = n'; desk = d'; client = x } in l) h

-- a client that may be at this end
abbrev pub At : {R F : Type 0} → Type 0 → LinkEnd R F → views.Client → Type 0
At told e v = told × Stands (machine_at e.there.hub) e.session e.desk e.client v

-- ---- the transaction that is open

pub record IsLinkedOpened (k : Connection) (told : views.Client) (w : Work) (c : seen.Client) : Type 0 where
  pub transaction : OpenTransaction
  pub begun : c.transaction ≡ Some transaction
  pub is : IsLinkedWork k told w transaction

pub linked_opened : (k : Connection) (told : views.Client) (wr : Result Work Refusal) (w : Work) (c : seen.Client) → IsLinkedOpen k told wr c.transaction → wr ≡ Ok w → IsLinkedOpened k told w c
linked_opened k told wr w c is works = by_open c.transaction refl (subst (λ (x : Result Work Refusal). IsLinkedOpen k told x c.transaction) works is)
  where
    by_open : (o : Option OpenTransaction) → c.transaction ≡ o → IsLinkedOpen k told (Ok w) o → IsLinkedOpened k told w c
    by_open None begun is = absurd is
    by_open (Some t) begun is = record { transaction = t; begun = begun; is = is }

pub linked_none : (k : Connection) (told : views.Client) (wr : Result Work Refusal) (r : Refusal) (c : seen.Client) → IsLinkedOpen k told wr c.transaction → wr ≡ Err r → (r ≡ refusal.NoTransaction) × (c.transaction ≡ None) × Between k told
linked_none k told wr r c is works = by_open c.transaction refl (subst (λ (x : Result Work Refusal). IsLinkedOpen k told x c.transaction) works is)
  where
    by_open : (o : Option OpenTransaction) → c.transaction ≡ o → IsLinkedOpen k told (Err r) o → (r ≡ refusal.NoTransaction) × (c.transaction ≡ None) × Between k told
    by_open None begun is = (is.0, begun, is.1)
    by_open (Some t) begun is = absurd is

pub taken_as : {T : Type 0} (f : Option seen.Changes → T) (c : seen.Client) (o : Option OpenTransaction) → c.transaction ≡ o → f (changes_of c) ≡ f (option_map (λ (t : OpenTransaction). t.changes) o)
taken_as f c o is = ap (λ (z : Option OpenTransaction). f (option_map (λ (t : OpenTransaction). t.changes) z)) is

-- ---- lines

module _ {R F S : Type 0} (told lasts : Type 0) (stands : List ℕ → List Transaction → Type 0) (rules_in : R → MergeRules) (named_in : F → List ℕ → Option (List ℕ)) (x y : LinkedClient) (h g : HubState R F) (before after : Option (List Stamp)) (packs : Bool) (t : Trouble) (state : S → LinkEnd R F) (a b : S) (begins : state a ≡ link_end (end_at h before false trouble.NoFault) x) (ends : state b ≡ link_end (end_at g after packs t) y) (name : y.name ≡ x.name) where
  abbrev pub rules : Rules
  rules = rules_of rules_in named_in h

  abbrev pub start : HubEnd R F
  start = end_at h before false trouble.NoFault

  abbrev pub finish : HubEnd R F
  finish = end_at g after packs t

  abbrev pub Stood : S → views.Client → Type 0
  Stood s v = At told (state s) v

  -- calls from one state to another
  abbrev pub Makes : S → LoadsCall → S → Type 0
  Makes o call n = told → (v : views.Client) → Stands (machine_at (state o).there.hub) (state o).session (state o).desk (state o).client v
      → IsCallMade (StepsThere told lasts stands rules_in named_in (state o).session) (state o).there (state o).client call (state n).there

  pub session : y.session ≡ (state b).session
  session = sym (ap (λ (l : LinkEnd R F). l.session) ends)

  module _ (tells : told) (m : Moment) (at : ℕ) (c : seen.Client) (takes : MayTakeLinked h before m at x c) (number : y.session ≡ x.session) where
    abbrev pub v : views.Client
    v = takes.client.told

    pub stood : Stood a v
    stood = subst (λ (l : LinkEnd R F). At told l v) (sym begins) (tells, takes.client.stands)

    -- a call, from its beginning to its end
    pub call_made : (call : LoadsCall) → Makes a call b → IsCallMade (StepsThere told lasts stands rules_in named_in x.session) start x.client call finish
    call_made call made =
        subst (λ (l : LinkEnd R F). IsCallMade (StepsThere told lasts stands rules_in named_in x.session) start x.client call l.there) ends
        (subst (λ (l : LinkEnd R F). IsCallMade (StepsThere told lasts stands rules_in named_in l.session) l.there l.client call (state b).there) begins (made tells v stood.1))

    -- nothing was done
    pub same_end : b ≡ a → link_end finish y ≡ link_end start x
    same_end is = sym ends ∙ ap state is ∙ begins

    -- the client that stands so behind it
    pub client_at : (u : HubEnd R F) (d : seen.Client) (k : views.Client) → d.name ≡ c.name → d.session ≡ c.session → d.standing ≡ seen.Linked k.known → Stands (machine_at u.hub) y.session y.desk y.client k
        → IsLinkedOpen y.connection k (work_of y.connection) d.transaction → IsLinkedOf u.hub y d
    client_at u d k named numbered linked is opened = record {
      name = named ∙ takes.client.name ∙ sym name;
      session = numbered ∙ takes.client.session ∙ sym number;
      told = k;
      linked = linked;
      stands = is;
      transaction = opened;
    }

    pub behind : (k : views.Client) → Stood b k → Stands (machine_at g) y.session y.desk y.client k
    behind k is = (subst (λ (l : LinkEnd R F). At told l k) ends is).1

    -- the client with nothing done, over the hub as it was
    pub same_client : b ≡ a → y.connection ≡ x.connection → IsLinkedOf h y c
    same_client is kept =
        let e = same_end is in
        client_at start c v refl refl takes.client.linked (subst (λ (l : LinkEnd R F). Stands (machine_at h) l.session l.desk l.client v) (sym e) takes.client.stands)
        (subst (λ (k : Connection). IsLinkedOpen k v (work_of k) c.transaction) (sym kept) takes.client.transaction)

    -- the line, where nothing is done
    pub stays_so : (l : Line) (reply : Answer) → b ≡ a → IsLinkedOf h y c → end_of reply ≡ None → IsLineOpen rules m at c l reply m → LinkedEnds (end_of reply) rules m at c l reply h g y after
    stays_so l reply is client goes_on holds =
        subst (λ (z : LinkEnd R F). LinkedEnds (end_of reply) rules m at c l reply h z.there.hub y z.there.stamps) (sym (same_end is))
        (subst (λ (e : _). LinkedEnds e rules m at c l reply h h y before) (sym goes_on)
        (let leads : LinkedLeadsTo (IsLineOpen rules m at c l reply) m at c.session h h y before = record {
          now = m;
          holds = holds;
          stands = takes.stands;
          client = c;
          placed = set_there m.clients at c takes.there;
          is = client;
          others = others_same c.session h;
        } in
        leads))

    -- what its connection refuses
    pub refused_so : (l : Line) (reply : Answer) (why : Refusal) → b ≡ a → y.connection ≡ x.connection → line_refusal (changes_of c) l ≡ Some why → reply ≡ settled (answer.Refused why) t → settled (answer.Refused why) trouble.NoFault ≡ answer.Refused why
        → end_of (answer.Refused why) ≡ None → LinkedEnds (end_of reply) rules m at c l reply h g y after
    refused_so l reply why is kept refuses answers calm goes_on =
        let quiet : t ≡ trouble.NoFault = ap (λ (z : LinkEnd R F). z.there.trouble) (same_end is) in
        let said : reply ≡ answer.Refused why = answers ∙ ap (λ (z : Trouble). settled (answer.Refused why) z) quiet ∙ calm in
        stays_so l reply is (same_client is kept) (ap end_of said ∙ goes_on) (refused_open rules m at c l reply m why refuses said refl)

  -- ---- `abort`

  pub abort_over : (result : Result (Unit {0}) Refusal) → OnOk result (work_of y.connection ≡ Err refusal.NoTransaction)
      → OnOk result ((u : View) (k : views.Client) → Stood a k → InView x.connection u k → (Stood b (unvoted k)) × (Between y.connection (unvoted k)))
      → ((r : Refusal) → work_of x.connection ≡ Err r → (result ≡ Err r) × (b ≡ a)) → ((w : Work) → work_of x.connection ≡ Ok w → Makes a (Abort result) b) → OnErr result (y.connection ≡ x.connection)
      → OnErr result ((k : views.Client) → Stood a k → Stood b k) → y.session ≡ x.session → (given : Answer) → given ≡ settled (answered result answer.Aborted) t → TakesLinked told rules line.Abort given h g x y before after
  abort_over result ended dropped refused made err same number given answers tells m at c takes = by_work (work_of x.connection) refl
    where
      k : views.Client
      k = takes.client.told

      Goal : Type 0
      Goal = LinkedEnds (end_of given) rules m at c line.Abort given h g y after

      on_err : {P : Type 0} (r : Refusal) → result ≡ Err r → OnErr result P → P
      on_err {P} r is err = subst (λ (z : Result (Unit {0}) Refusal). OnErr z P) is err

      by_work : (wr : Result Work Refusal) → work_of x.connection ≡ wr → Goal
      by_work (Err r) works =
          let none = linked_none x.connection k (work_of x.connection) r c takes.client.transaction works in
          let said = refused r works in
          refused_so tells m at c takes number line.Abort given refusal.NoTransaction said.1 (on_err r said.0 err) (taken_as (λ ch. line_refusal ch line.Abort) c None none.1)
          (answers ∙ ap (λ (z : Result (Unit {0}) Refusal). settled (answered z answer.Aborted) t) said.0 ∙ ap (λ (z : Refusal). settled (answer.Refused z) t) none.0) refl refl
      by_work (Ok w) works = one_made Steps request.Abort calls.TpcAbort done_answer start Then unsent nothing lost answered_so result finish (call_made tells m at c takes number (Abort result) (made w works)) refl refl refl
        where
          o : IsLinkedOpened x.connection k w c
          o = linked_opened x.connection k (work_of x.connection) w c takes.client.transaction works

          free : line_refusal (changes_of c) line.Abort ≡ None
          free = taken_as (λ ch. line_refusal ch line.Abort) c (Some o.transaction) o.begun

          asks : request_of c.standing (changes_of c) line.Abort ≡ Some request.Abort
          asks = taken_as (λ ch. request_of c.standing ch line.Abort) c (Some o.transaction) o.begun

          Steps : Request → Reply → HubEnd R F → HubEnd R F → Type 0
          Steps q r s u = StepsThere told lasts stands rules_in named_in x.session q r s u

          Then : Result (Unit {0}) Refusal → HubEnd R F → Type 0
          Then z u = z ≡ result → u ≡ finish → u.trouble ≡ t → Goal

          at_end : (u : HubEnd R F) → u ≡ finish → LinkedEnds (end_of given) rules m at c line.Abort given h u.hub y u.stamps → Goal
          at_end u is goal = subst (λ (z : HubEnd R F). LinkedEnds (end_of given) rules m at c line.Abort given h z.hub y z.stamps) is goal

          starved : (r : Refusal) → IsWayLost r → Err r ≡ result → start ≡ finish → Goal
          starved r way is there =
              at_end start there (starved_ends told lasts stands rules_in named_in tells m at x c h before takes line.Abort request.Abort free asks refl y given
              (answers ∙ ap (λ (z : Result (Unit {0}) Refusal). settled (answered z answer.Aborted) t) (sym is) ∙ ap (λ (z : HubEnd R F). settled (answer.Refused r) z.trouble) (sym there) ∙ ap (λ (z : Refusal). answer.Refused z) (calm_lost r way)))

          unsent : (error : AskError) → IsUnsent calls.TpcAbort error → Then (Err (unasked error)) start
          unsent (ask_error.TooLong n) long is there trouble_is = absurd (short_call calls.TpcAbort n (omega arith) (omega arith) long)
          unsent ask_error.Memory long is there trouble_is = starved refusal.Memory tt is there

          nothing : (r : Refusal) → IsWayLost r → Then (Err r) start
          nothing r way is there trouble_is = starved r way is there

          as_it_was : (u : HubEnd R F) → u ≡ finish → (r : Refusal) → result ≡ Err r → IsLinkedOf u.hub y c
          as_it_was u there r is =
              subst (λ (z : HubEnd R F). IsLinkedOf z.hub y c) (sym there)
              (client_at tells m at c takes number finish c k refl refl takes.client.linked (behind tells m at c takes number k (on_err r is same k (stood tells m at c takes number)))
              (subst (λ (z : Connection). IsLinkedOpen z k (work_of z) c.transaction) (sym (on_err r is err)) takes.client.transaction))

          lost : (r : Refusal) (answer_is : Reply) (u : HubEnd R F) → IsWayLost r → Steps request.Abort answer_is start u → Then (Err r) u
          lost r said u way step is there trouble_is =
              at_end u there (lost_ends told lasts stands rules_in named_in tells m at x c h before takes line.Abort request.Abort free asks refl y said u step given r way
              (answers ∙ ap (λ (z : Result (Unit {0}) Refusal). settled (answered z answer.Aborted) t) (sym is) ∙ ap (λ (z : Trouble). settled (answer.Refused r) z) (sym trouble_is)) (λ goes_on. as_it_was u there r (sym is)))

          answered_so : (said : Reply) (u : HubEnd R F) → Steps request.Abort said start u → Then (done_answer (answer_given request.Abort said)) u
          answered_so said u step is there trouble_is = by_reply said step (end_reply rules m x.session request.Abort said _ tt (step_to told lasts stands rules_in named_in tells m at x c h before takes request.Abort said u step).holds) is
            where
              by_reply : (r : Reply) → Steps request.Abort r start u → EndReply request.Abort r → done_answer (answer_given request.Abort r) ≡ result → Goal
              by_reply reply.Aborted step fits is =
                  let done : result ≡ Ok tt = sym is ∙ ap done_answer (done_sent asked.Other) in
                  let calm : u.trouble ≡ trouble.NoFault = step.trouble in
                  let says : given ≡ answer.Aborted = answers ∙ ap (λ (z : Result (Unit {0}) Refusal). settled (answered z answer.Aborted) t) done ∙ ap (λ (z : Trouble). settled answer.Aborted z) (sym trouble_is ∙ calm) in
                  let over : work_of y.connection ≡ Err refusal.NoTransaction = subst (λ (z : Result (Unit {0}) Refusal). OnOk z (work_of y.connection ≡ Err refusal.NoTransaction)) done ended in
                  let still = subst (λ (z : Result (Unit {0}) Refusal). OnOk z ((u : View) (j : views.Client) → Stood a j → InView x.connection u j → (Stood b (unvoted j)) × (Between y.connection (unvoted j)))) done dropped o.transaction.view k (stood tells m at c takes number) o.is.view in
                  let d : seen.Client = record c { transaction = None } in
                  let client : IsLinkedOf finish.hub y d =
                  client_at tells m at c takes number finish d (unvoted k) refl refl takes.client.linked (behind tells m at c takes number (unvoted k) still.0)
                  (subst (λ (wr : Result Work Refusal). IsLinkedOpen y.connection (unvoted k) wr None) (sym over) (refl, still.1)) in
                  at_end u there (answered_ends told lasts stands rules_in named_in tells m at x c h before takes line.Abort request.Abort free asks refl y reply.Aborted u step given d (ap end_of says) refl
                  (says ∙ sym (linked_answer c.standing k.known false reply.Aborted takes.client.linked refl))
                  (sym (linked_stays (step_to told lasts stands rules_in named_in tells m at x c h before takes request.Abort reply.Aborted u step).now.machine reply.Aborted d k.known takes.client.linked refl))
                  (subst (λ (z : HubEnd R F). IsLinkedOf z.hub y d) (sym there) client))
              by_reply (reply.Refused why) step fits is =
                  let err_is : result ≡ Err why = sym is ∙ ap done_answer (bare_sent asked.Other why fits) ∙ ap (λ (z : Refusal). let e : Result (Unit {0}) Refusal = Err z in e) (bare_far why fits) in
                  at_end u there (refused_ends told lasts stands rules_in named_in tells m at x c h before takes line.Abort request.Abort free asks refl y (reply.Refused why) u step given why refl
                  (answers ∙ ap (λ (z : Result (Unit {0}) Refusal). settled (answered z answer.Aborted) t) err_is ∙ ap (λ (z : Trouble). settled (answer.Refused why) z) (sym trouble_is ∙ step.trouble) ∙ settled_bare why fits) fits
                  (λ goes_on. as_it_was u there why err_is))
              by_reply _ step fits is = absurd fits
