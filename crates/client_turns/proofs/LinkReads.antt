-- What a client with a link reads over it.
use Rattle.std.proofs.Common.{◌≡◌, ℕ, ◌+◌, ◌-◌, ◌^◌, ◌≤◌, ◌==◌, Bool, true, false, not, List, [], ◌∷◌, ◌++◌, length, length-append, Option, Some, None, Result, Ok, Err, refl, sym, ap, subst, ◌∙◌, arith, inl, inr}
use Rattle.std.specs.Prelude.{codes, nat_le, nat_lt, if◌then◌else◌}
use Rattle.std.proofs.lemmas.Bool.{le-leb, leb-true}
use Rattle.byteorder.specs.Endian.{little_bytes}
use Rattle.byteorder.specs.Numbers.{length-bytes_low_first}
use Rattle.zb_ids.specs.declared.stamp.Stamp.{Stamp}
use Rattle.zb_model.specs.declared.data.Transaction.{Transaction}
use Rattle.zb_model.specs.declared.refusal.Refusal.{Refusal}
use Rattle.zb_model.specs.declared.refusal.Refusal.TheVariants as refusal
use Rattle.zb_model.specs.Database.{revision_below}
use Rattle.zb_model.specs.Queries.{end_of as end_below, found_below}
use Rattle.zb_model.specs.Rules.{MergeRules}
use Rattle.zodb_core.specs.declared.reply.Reply.{Reply}
use Rattle.zodb_core.specs.declared.reply.Reply.TheVariants as reply
use Rattle.zodb_core.specs.declared.request.Request.{Request}
use Rattle.zodb_core.specs.declared.request.Request.TheVariants as request
use Rattle.zodb_core.specs.HubState.{HubState, rules_of}
use Rattle.zodb_core.specs.Machine.{Machine, is_open_in}
use Rattle.zodb_core.specs.Outcomes.{Answered, AreLaterCounts, FaultCounts, NoMemory, ReadingFailed, StepOutcome, StoreFailed, outcome_of, outcome_of_refusal}
use Rattle.zodb_core.specs.Steps.{loaded}
use Rattle.connection_view.specs.declared.connection.Connection.{Connection}
use Rattle.connection_view.specs.declared.loads.Loaded.{Loaded}
use Rattle.connection_view.specs.declared.loads.Loaded.TheVariants as load
use Rattle.connection_view.specs.Works.{Work}
use Rattle.connection_view.specs.Connections.{IsReadAnswered, IsReadBy, IsUnasked, base_read, work_of}
use Rattle.connection_view.specs.Loading.{IsMissing, LoadsCall, Reads}
use Rattle.connection_view.specs.ViewLaws.{IsSeenFrom, seen_from}
use Rattle.connection_view.specs.Views.{Server, View, current}
use Rattle.connection_view.specs.Views as views
use Rattle.local_loads.specs.LocalLaws.{server_whole}
use Rattle.zeo_frames.specs.declared.limit.TheConstants.{FRAME_LIMIT}
use Rattle.zeo_messages.specs.declared.answer.Answer.{Answer as FarAnswer}
use Rattle.zeo_messages.specs.declared.answer.Answer.TheVariants as answers
use Rattle.zeo_messages.specs.declared.call.Call.TheVariants as calls
use Rattle.zeo_messages.specs.declared.message.Message.TheVariants.{Answered as AnswerMessage}
use Rattle.zeo_messages.specs.Answers.{value_of}
use Rattle.zeo_messages.specs.LengthLaws.{payload_length}
use Rattle.zeo_messages.specs.Messages.{length_of}
use Rattle.zeo_values.specs.LengthLaws.{count_short, id_length, last_length, name_length, zero_length}
use Rattle.zeo_values.specs.Values.{bytes_text, count_text, id_text, none_text, tuple_text}
use Rattle.zeo_desk.specs.declared.asked.Asked.TheVariants as asked
use Rattle.zeo_desk.specs.Answering.{counted_length, in_place_of, reply_answer, sent_answer}
use Rattle.zeo_client.specs.declared.asking.AskError.{AskError}
use Rattle.zeo_client.specs.declared.asking.AskError.TheVariants as ask_error
use Rattle.zeo_client.specs.Hearing.{Held}
use Rattle.zeo_serving.specs.Serving.{server_at}
use Rattle.hub_carrier.specs.declared.trouble.Trouble.{Trouble}
use Rattle.hub_carrier.specs.declared.trouble.Trouble.TheVariants as trouble
use Rattle.hub_carrier.specs.Ends.{HubEnd, StepsThere, end_at, machine_at, worse}
use Rattle.remote_loads.specs.Answers.{load_answer}
use Rattle.remote_loads.specs.Causes.{unasked}
use Rattle.remote_loads.specs.Making.{IsRemoteLoad, MakesOne, cached, missed, starved}
use Rattle.remote_loads.specs.Talking.{IsUnsent, IsWayLost, answer_given}
use Rattle.client_turns.specs.declared.linked.LinkedClient.{LinkedClient}
use Rattle.client_turns.specs.Clients.{Moment, OpenTransaction}
use Rattle.client_turns.specs.Clients as seen
use Rattle.client_turns.specs.Frames.{HasFitted, IsPastFrame, reply_excess}
use Rattle.client_turns.specs.Lines.{IsCountedBy}
use Rattle.client_turns.specs.Linked.{MayTakeLinked, StandsForHub}
use Rattle.client_turns.specs.Others.{KeepsOthers}
use Rattle.client_turns.specs.OverCarrier.{LinkAt, MakesAt, fitting, is_fitting, link_at}
use Rattle.client_turns.specs.Reads.{EndsReading}
use Rattle.client_turns.specs.Settling.{calm, calm_result, settled_result}
use Rattle.client_turns.specs.Steps.{IsReadAt}
use Rattle.client_turns.specs.Views.{server_of}
use Rattle.client_turns.proofs.Bare.{IsBare, bare_far, bare_sent, calm_lost, fault_reply, sent_so, value_short}
use Rattle.client_turns.proofs.Hubs.{open_whole}
use Rattle.client_turns.proofs.LinkEnds.{IsLinkedOpened, one_made, short_call}
use Rattle.client_turns.proofs.Loading.{each_load, load_rest, load_said}
use Rattle.client_turns.proofs.One.{StepsTo}
use Rattle.client_turns.proofs.Others.{others_same}
use Rattle.client_turns.proofs.OverLink.{hub_behind, others_behind, step_to}

-- ---- what fits a frame

text_within : (bytes : List ℕ) (b : Bool) → length (if b then 0x43 ∷ length bytes ∷ bytes else 0x42 ∷ (little_bytes 4 (length bytes) ++ bytes)) ≤ length bytes + 5
text_within bytes true = omega arith
text_within bytes false =
    let a = length-append (little_bytes 4 (length bytes)) bytes in
    let b = length-bytes_low_first 0 4 (length bytes) in
    omega (arith, a, b)

pub bytes_within : (bytes : List ℕ) → length (bytes_text bytes) ≤ length bytes + 5
unfolding bytes_text
bytes_within bytes = text_within bytes (nat_lt (length bytes) (2 ^ 8))

-- the shortest answer with a revision
shortest_within : (bytes : List ℕ) (serial : ℕ) → length_of (AnswerMessage 0 (answers.Loaded bytes serial None 0)) ≤ length bytes + 51
shortest_within bytes serial =
    let a = payload_length (2 ^ 31 - 1) 0 (codes ".reply") (value_of (answers.Loaded bytes serial None 0)) in
    let b = length-append (bytes_text bytes) (id_text serial ++ (none_text ++ (id_text 0 ++ 0x74 ∷ []))) in
    let c = length-append (id_text serial) (none_text ++ (id_text 0 ++ 0x74 ∷ [])) in
    let d = length-append (id_text 0) (0x74 ∷ []) in
    let e = bytes_within bytes in
    let f = id_length serial in
    let g = id_length 0 in
    let h = last_length in
    let i = zero_length in
    let j = name_length (codes ".reply") in
    omega (arith, a, b, c, d, e, f, g, h, i, j)

pub has_fitted : (d : ℕ × List ℕ) → is_fitting d.1 ≡ true → HasFitted d
has_fitted d is =
    let within = shortest_within d.1 d.0 in
    let short = leb-true (length d.1) (FRAME_LIMIT - 51) is in
    ap (λ (b : Bool). let o : Option ℕ = if b then None else Some (length_of (AnswerMessage 0 (answers.Loaded d.1 d.0 None 0))) in o) (le-leb (length_of (AnswerMessage 0 (answers.Loaded d.1 d.0 None 0))) FRAME_LIMIT (omega (arith, within, short)))

-- an answer without a revision is sent as it is
pub nothing_sent : (n : ℕ) → sent_answer asked.Other (answers.Nothing n) ≡ answers.Nothing n
nothing_sent n =
    let a = length-append (count_text n) (0x86 ∷ []) in
    let b = count_short n in
    sent_so asked.Other (answers.Nothing n) refl (value_short (codes ".reply") (tuple_text (none_text ∷ count_text n ∷ [])) (omega arith) (omega (arith, a, b)))

-- ---- what a read is answered where nothing went wrong

pub data AnswersFar (m : Machine) (v : View) (oid : ℕ) : Result (ℕ × List ℕ) Refusal → Type 0 where
  far_held : (d : ℕ × List ℕ) → current v oid ≡ Some d → HasFitted d → AnswersFar m v oid (Ok d)
  far_long : (n : ℕ) → IsPastFrame m oid v.front n → AnswersFar m v oid (Err (refusal.TooLong n))
  far_missing : (o : ℕ) (packed : Bool) → o ≡ oid → IsMissing v (server_of m) oid packed → AnswersFar m v oid (Err (refusal.Missing o packed))
  far_starved : AnswersFar m v oid (Err refusal.Memory)

same_later : (a b : FaultCounts) → b ≡ a → AreLaterCounts a b
same_later a b is = subst (λ (k : FaultCounts). AreLaterCounts a k) (sym is) (record { reads = omega arith; others = omega arith })

pub calm_read : (m now : Moment) (t : OpenTransaction) (oid : ℕ) (result : Result (ℕ × List ℕ) Refusal) → t.framed ≡ true → AnswersFar m.machine t.view oid result → now.counts ≡ m.counts → now ≡ record m { counts = now.counts } → IsReadAt m t oid result now
calm_read m now t oid _ far (far_held d is fits) same rest =
    record { later = same_later m.counts now.counts same; ends = subst (λ (b : Bool). EndsReading b m.machine t.view oid m.counts now.counts (Ok d)) (sym far) (is, fits); counts = same; rest = rest }
calm_read m now t oid _ far (far_long n long) same rest =
    record { later = same_later m.counts now.counts same; ends = subst (λ (b : Bool). EndsReading b m.machine t.view oid m.counts now.counts (Err (refusal.TooLong n))) (sym far) long; counts = same; rest = rest }
calm_read m now t oid _ far (far_missing o packed of is) same rest =
    record { later = same_later m.counts now.counts same; ends = subst (λ (b : Bool). EndsReading b m.machine t.view oid m.counts now.counts (Err (refusal.Missing o packed))) (sym far) (of, is); counts = same; rest = rest }
calm_read m now t oid _ far far_starved same rest =
    record { later = same_later m.counts now.counts same; ends = subst (λ (b : Bool). EndsReading b m.machine t.view oid m.counts now.counts (Err refusal.Memory)) (sym far) same; counts = same; rest = rest }

-- and where reading failed
unread_at : (m now : Moment) (t : OpenTransaction) (oid : ℕ) → t.framed ≡ true → AreLaterCounts m.counts now.counts → IsCountedBy m.counts now.counts ReadingFailed → now ≡ record m { counts = now.counts } → IsReadAt m t oid (Err refusal.ReadFault) now
unread_at m now t oid far later counted rest =
    record { later = later; ends = subst (λ (b : Bool). EndsReading b m.machine t.view oid m.counts now.counts (Err refusal.ReadFault)) (sym far) counted.0; counts = counted; rest = rest }

-- ---- what a connection says of a read whose step went right

pub data SaysFar (m : Machine) (front oid : ℕ) : Result (ℕ × List ℕ) Refusal → Type 0 where
  says_held : (d : ℕ × List ℕ) → SaysFar m front oid (Ok d)
  says_missing : (packed : Bool) → SaysFar m front oid (Err (refusal.Missing oid packed))
  says_long : (n : ℕ) → IsPastFrame m oid front n → SaysFar m front oid (Err (refusal.TooLong n))
  says_lost : (r : Refusal) → IsWayLost r → SaysFar m front oid (Err r)

lost_unread : (r : Refusal) → IsWayLost r → (base : ℕ) → base_read (Err r) ≡ Ok base → ⊥
lost_unread refusal.LinkFault way base got = absurd cc
lost_unread refusal.Closed way base got = absurd cc
lost_unread refusal.Memory way base got = absurd cc
lost_unread _ way base got = absurd way

calm_lost_so : (r : Refusal) → IsWayLost r → (let e : Result (ℕ × List ℕ) Refusal = Err (calm r) in e) ≡ Err refusal.Memory
calm_lost_so r way = ap (λ (z : Refusal). let e : Result (ℕ × List ℕ) Refusal = Err z in e) (calm_lost r way)

held_far : (m : Machine) (v : View) (oid : ℕ) (d : ℕ × List ℕ) (b : Bool) → is_fitting d.1 ≡ b → current v oid ≡ Some d → AnswersFar m v oid (calm_result (if b then (let k : Result (ℕ × List ℕ) Refusal = Ok d in k) else Err refusal.Memory))
held_far m v oid d true fits is = far_held d is (has_fitted d fits)
held_far m v oid d false fits is = far_starved

pub answers_far : (m : Machine) (v : View) (oid : ℕ) (s : Server) (raw : Result (ℕ × List ℕ) Refusal) → s ≡ server_of m → SaysFar m v.front oid raw → Reads v s oid raw → AnswersFar m v oid (calm_result (fitting raw))
answers_far m v oid s _ same (says_held d) reads = held_far m v oid d (is_fitting d.1) refl reads
answers_far m v oid s _ same (says_missing packed) reads = far_missing oid packed refl (subst (λ (z : Server). IsMissing v z oid packed) same reads.1)
answers_far m v oid s _ same (says_long n long) reads = far_long n long
answers_far m v oid s _ same (says_lost r way) reads = subst (λ (z : Result (ℕ × List ℕ) Refusal). AnswersFar m v oid z) (sym (calm_lost_so r way)) far_starved

-- by the reply of its load
abbrev LoadSays : Machine → ℕ → ℕ → ℕ → Result (ℕ × List ℕ) Refusal → Reply → Type 0
LoadSays m front oid switches raw r = ((n : ℕ) → reply_excess r ≡ Some n → IsPastFrame m oid front n) → IsReadAnswered oid switches (load_answer (sent_answer asked.Other (reply_answer asked.Other r))) raw → SaysFar m front oid raw

held_says : (m : Machine) (front oid switches serial : ℕ) (bytes : List ℕ) (end : Option ℕ) (upto : ℕ) (raw : Result (ℕ × List ℕ) Refusal) → LoadSays m front oid switches raw (reply.Loaded serial bytes end upto)
held_says m front oid switches serial bytes end upto raw long answered = by_length (nat_le n FRAME_LIMIT) refl answered
  where
    x : FarAnswer
    x = answers.Loaded bytes serial end upto

    n : ℕ
    n = counted_length x

    is_said : (z : Result (ℕ × List ℕ) Refusal) → raw ≡ z → SaysFar m front oid z → SaysFar m front oid raw
    is_said z is says = subst (λ (k : Result (ℕ × List ℕ) Refusal). SaysFar m front oid k) (sym is) says

    by_length : (b : Bool) → nat_le n FRAME_LIMIT ≡ b → IsReadAnswered oid switches (load_answer (if b then x else in_place_of asked.Other n)) raw → SaysFar m front oid raw
    by_length true fits (inl held) = is_said (Ok (serial, bytes)) held (says_held (serial, bytes))
    by_length true fits (inr lost) = is_said (Err refusal.Memory) lost (says_lost refusal.Memory tt)
    by_length false fits refused = is_said (Err (refusal.TooLong n)) refused.0 (says_long n (long n (ap (λ (b : Bool). let o : Option ℕ = if b then None else Some n in o) fits)))

nothing_says : (m : Machine) (front oid switches o packed : ℕ) (raw : Result (ℕ × List ℕ) Refusal) → LoadSays m front oid switches raw (reply.Nothing o packed)
nothing_says m front oid switches o packed raw long answered =
    let is : raw ≡ Err (refusal.Missing oid (not (packed == switches))) = subst (λ (x : FarAnswer). IsReadAnswered oid switches (load_answer x) raw) (nothing_sent packed) answered in
    subst (λ (k : Result (ℕ × List ℕ) Refusal). SaysFar m front oid k) (sym is) (says_missing (not (packed == switches)))

load_says : (m : Machine) (front oid switches : ℕ) (raw : Result (ℕ × List ℕ) Refusal) → LoadSays m front oid switches raw (loaded m oid (found_below oid front m.list))
load_says m front oid switches raw =
    each_load m oid (revision_below oid front m.list) (end_below oid front m.list) (LoadSays m front oid switches raw)
    (λ serial bytes end upto. held_says m front oid switches serial bytes end upto raw)
    (λ o packed. nothing_says m front oid switches o packed raw)

pub reply_says : (m : Machine) (front oid switches : ℕ) (raw : Result (ℕ × List ℕ) Refusal) (r : Reply) → r ≡ loaded m oid (found_below oid front m.list) → IsReadAnswered oid switches (load_answer (answer_given (request.LoadBefore oid front) r)) raw → SaysFar m front oid raw
reply_says m front oid switches raw r is answered =
    load_says m front oid switches raw (λ n long. long) (subst (λ (k : Reply). IsReadAnswered oid switches (load_answer (answer_given (request.LoadBefore oid front) k)) raw) is answered)

-- the refusal that says how a step failed
abbrev fault_in : StepOutcome → Refusal
fault_in ReadingFailed = refusal.ReadFault
fault_in NoMemory = refusal.Memory
fault_in StoreFailed = refusal.StoreFault
fault_in Answered = refusal.NotOpen

fault_told : (why : Refusal) → IsBare why → (outcome_of_refusal why ≡ Answered → ⊥) → why ≡ fault_in (outcome_of_refusal why)
fault_told refusal.ReadFault bare failed = refl
fault_told refusal.Memory bare failed = refl
fault_told refusal.StoreFault bare failed = refl
fault_told refusal.NotOpen bare failed = refl
fault_told refusal.NotVoted bare failed = absurd (failed refl)
fault_told _ bare failed = absurd bare

-- ---- a load, by how it was made

load_cases : {S : Type 0} (steps : Request → Reply → S → S → Type 0) (s : S) (old : Held) (oid front : ℕ) (P : Result Loaded Refusal → S → Type 0) → ((found : ℕ × List ℕ) → P (Ok (load.Held found.0 found.1)) s) → P (Err refusal.Memory) s
    → ((result : Result Loaded Refusal) (u : S) → MakesOne steps (request.LoadBefore oid front) (calls.LoadBefore oid front) load_answer s result u → P result u) → (result : Result Loaded Refusal) (u : S) → IsRemoteLoad steps s old oid front result u → P result u
load_cases steps s old oid front P hit none miss _ _ (cached found is) = hit found
load_cases steps s old oid front P hit none miss _ _ starved = none
load_cases steps s old oid front P hit none miss _ _ (missed result u is made) = miss result u made

-- ---- a read in an open transaction

-- a read, and what there is behind it, but for the client
pub record ReadsFar {R F : Type 0} (t : OpenTransaction) (oid : ℕ) (raw result : Result (ℕ × List ℕ) Refusal) (wrong : Trouble) (m : Moment) (n : ℕ) (h g : HubState R F) (after : Option (List Stamp)) : Type 0 where
  pub now : Moment
  pub read : IsReadAt m t oid result now
  pub stands : StandsForHub g after now
  pub others : KeepsOthers n h g
  pub calm : (base : ℕ) → base_read raw ≡ Ok base → wrong ≡ trouble.NoFault

module _ {R F : Type 0} (told lasts : Type 0) (stands : List ℕ → List Transaction → Type 0) (rules_in : R → MergeRules) (named_in : F → List ℕ → Option (List ℕ)) (tells : told) (m : Moment) (at : ℕ) (x : LinkedClient) (c : seen.Client) (h : HubState R F) (before : Option (List Stamp)) (takes : MayTakeLinked h before m at x c) where
  abbrev v : views.Client
  v = takes.client.told

  abbrev start : HubEnd R F
  start = end_at h before false trouble.NoFault

  abbrev Steps : ℕ → Request → Reply → HubEnd R F → HubEnd R F → Type 0
  Steps n q r s u = StepsThere told lasts stands rules_in named_in n q r s u

  abbrev pub FarMakes : LinkAt (HubEnd R F) → LoadsCall → LinkAt (HubEnd R F) → Type 0
  FarMakes a call b = MakesAt told Steps (λ e. machine_at e.hub) a call b

  abbrev pub here : LinkAt (HubEnd R F)
  here = link_at start x.session x.desk x.client

  session_open : is_open_in m.machine.sessions x.session ≡ true
  session_open = ap (λ (n : ℕ). is_open_in m.machine.sessions n) (sym takes.client.session) ∙ takes.may

  server_same : server_at (machine_at h) ≡ server_of m.machine
  server_same = server_whole h m.machine takes.stands.hub (open_whole h m.machine c.session takes.stands.hub takes.may)

  module _ (oid : ℕ) (raw : Result (ℕ × List ℕ) Refusal) (k : Connection) (w : Work) (works : work_of k ≡ Ok w) (o : IsLinkedOpened k v w c) (reads : Reads o.transaction.view (server_at (machine_at h)) oid raw) where
    abbrev view : View
    view = o.transaction.view

    -- with what went wrong
    abbrev To : HubEnd R F → Type 0
    To u = ReadsFar o.transaction oid raw (settled_result (fitting raw) u.trouble) u.trouble m c.session h u.hub u.stamps

    from : IsSeenFrom w view v
    from = seen_from k view v w o.is.view works

    far_now : SaysFar m.machine view.front oid raw → AnswersFar m.machine view oid (calm_result (fitting raw))
    far_now says = answers_far m.machine view oid (server_at (machine_at h)) raw server_same says reads

    unmade : SaysFar m.machine view.front oid raw → To start
    unmade says = record {
      now = m;
      read = calm_read m m o.transaction oid (calm_result (fitting raw)) o.is.far (far_now says) refl refl;
      stands = takes.stands;
      others = others_same c.session h;
      calm = λ base is. refl;
    }

    lost_says : (r : Refusal) → IsWayLost r → IsReadAnswered oid w.switches (Err r) raw → SaysFar m.machine view.front oid raw
    lost_says r way said = subst (λ (z : Result (ℕ × List ℕ) Refusal). SaysFar m.machine view.front oid z) (sym said.0) (says_lost r way)

    unasked_says : (z : Result (ℕ × List ℕ) Refusal) → IsUnasked z → SaysFar m.machine view.front oid z
    unasked_says (Ok d) un = says_held d
    unasked_says (Err r) un = subst (λ (e : Refusal). SaysFar m.machine view.front oid (Err e)) (sym un) (says_lost refusal.Memory tt)

    held_so : (serial : ℕ) (bytes : List ℕ) → IsReadAnswered oid w.switches (Ok (load.Held serial bytes)) raw → SaysFar m.machine view.front oid raw
    held_so serial bytes (inl held) = subst (λ (z : Result (ℕ × List ℕ) Refusal). SaysFar m.machine view.front oid z) (sym held) (says_held (serial, bytes))
    held_so serial bytes (inr lost) = subst (λ (z : Result (ℕ × List ℕ) Refusal). SaysFar m.machine view.front oid z) (sym lost) (says_lost refusal.Memory tt)

    module _ (r : Reply) (u : HubEnd R F) (step : Steps x.session (request.LoadBefore oid w.front) r start u) where
      s : StepsTo (rules_of rules_in named_in h) m x.session (request.LoadBefore oid w.front) r u.hub u.stamps
      s = step_to told lasts stands rules_in named_in tells m at x c h before takes (request.LoadBefore oid w.front) r u step

      rest : s.now ≡ record m { counts = s.now.counts }
      rest = load_rest (rules_of rules_in named_in h) m x.session oid w.front r s.now session_open s.holds

      behind : (result : Result (ℕ × List ℕ) Refusal) → IsReadAt m o.transaction oid result s.now → settled_result (fitting raw) u.trouble ≡ result → ((base : ℕ) → base_read raw ≡ Ok base → u.trouble ≡ trouble.NoFault) → To u
      behind result read is calm = record {
        now = s.now;
        read = subst (λ (z : Result (ℕ × List ℕ) Refusal). IsReadAt m o.transaction oid z s.now) (sym is) read;
        stands = hub_behind told lasts stands rules_in named_in tells m at x c h before takes (request.LoadBefore oid w.front) r u s;
        others = others_behind told lasts stands rules_in named_in tells m at x c h before takes (request.LoadBefore oid w.front) r u step tt;
        calm = calm;
      }

      counted : (e : StepOutcome) → outcome_of r ≡ e → IsCountedBy m.counts s.now.counts e
      counted e is = subst (λ (z : StepOutcome). IsCountedBy m.counts s.now.counts z) is s.holds.counts

      settles : (e : StepOutcome) → outcome_of r ≡ e → settled_result (fitting raw) u.trouble ≡ settled_result (fitting raw) (worse trouble.NoFault e)
      settles e is = ap (λ (z : Trouble). settled_result (fitting raw) z) (step.trouble ∙ ap (λ (z : StepOutcome). worse trouble.NoFault z) is)

      calm_at : (e : StepOutcome) → outcome_of r ≡ e → u.trouble ≡ worse trouble.NoFault e
      calm_at e is = step.trouble ∙ ap (λ (z : StepOutcome). worse trouble.NoFault z) is

      -- its answer came, or was lost: by what is said of it where it went right, and where there was no memory
      by_outcome : (e : StepOutcome) → outcome_of r ≡ e → (outcome_of r ≡ Answered → SaysFar m.machine view.front oid raw) → (outcome_of r ≡ NoMemory → (q : Refusal) × IsWayLost q × (raw ≡ Err q))
          → (outcome_of r ≡ ReadingFailed → (base : ℕ) → base_read raw ≡ Ok base → ⊥) → To u
      by_outcome Answered said right short failed =
          behind (calm_result (fitting raw)) (calm_read m s.now o.transaction oid (calm_result (fitting raw)) o.is.far (far_now (right said)) (counted Answered said) rest) (settles Answered said) (λ base got. calm_at Answered said)
      by_outcome ReadingFailed said right short failed =
          behind (Err refusal.ReadFault) (unread_at m s.now o.transaction oid o.is.far s.holds.made.later (counted ReadingFailed said) rest) (settles ReadingFailed said) (λ base got. absurd (failed said base got))
      by_outcome NoMemory said right short failed =
          let lost = short said in
          behind (Err refusal.Memory) (calm_read m s.now o.transaction oid (Err refusal.Memory) o.is.far far_starved (counted NoMemory said) rest)
          (settles NoMemory said ∙ ap (λ (z : Result (ℕ × List ℕ) Refusal). calm_result (fitting z)) lost.2 ∙ calm_lost_so lost.0 lost.1) (λ base got. calm_at NoMemory said)
      by_outcome StoreFailed said right short failed = absurd (step.step.unwritten refl said)

      lost_so : (q : Refusal) → IsWayLost q → IsReadAnswered oid w.switches (Err q) raw → To u
      lost_so q way said = by_outcome (outcome_of r) refl (λ e. lost_says q way said) (λ e. (q, way, said.0)) (λ e base got. lost_unread q way base (sym (ap base_read said.0) ∙ got))

      -- what went wrong is what comes
      fault_is : (why : Refusal) → IsBare why → (outcome_of r ≡ Answered → ⊥) → outcome_of_refusal why ≡ outcome_of r → r ≡ reply.Refused why
      fault_is why bare failed same =
          let f = fault_reply r failed in
          f.1 ∙ ap (λ (z : Refusal). reply.Refused z) (fault_told f.0 f.2 (λ e. failed (ap outcome_of f.1 ∙ e)) ∙ ap fault_in (sym (ap outcome_of f.1) ∙ sym same) ∙ sym (fault_told why bare (λ e. failed (sym same ∙ e))))

      -- and so a refusal of its load
      refused_is : (why : Refusal) → IsBare why → (outcome_of r ≡ Answered → ⊥) → outcome_of_refusal why ≡ outcome_of r → IsReadAnswered oid w.switches (load_answer (answer_given (request.LoadBefore oid w.front) r)) raw → raw ≡ Err why
      refused_is why bare failed same said =
          (subst (λ (z : Refusal). IsReadAnswered oid w.switches (Err z) raw) (bare_far why bare)
          (subst (λ (z : FarAnswer). IsReadAnswered oid w.switches (load_answer z) raw) (bare_sent asked.Other why bare)
          (subst (λ (z : Reply). IsReadAnswered oid w.switches (load_answer (answer_given (request.LoadBefore oid w.front) z)) raw) (fault_is why bare failed same) said))).0

      answered_so : IsReadAnswered oid w.switches (load_answer (answer_given (request.LoadBefore oid w.front) r)) raw → To u
      answered_so said =
          by_outcome (outcome_of r) refl
          (λ e. subst (λ (f : ℕ). SaysFar m.machine f oid raw) from.front (reply_says m.machine w.front oid w.switches raw r (load_said (rules_of rules_in named_in h) m x.session oid w.front r s.now session_open s.holds e) said))
          (λ e. (refusal.Memory, tt, refused_is refusal.Memory tt (λ z. starved_answered (sym e ∙ z)) (sym e) said))
          (λ e base got. unread_base base (sym (ap base_read (refused_is refusal.ReadFault tt (λ z. unread_answered (sym e ∙ z)) (sym e) said)) ∙ got))
        where
          starved_answered : NoMemory ≡ Answered → ⊥
          starved_answered e = absurd cc

          unread_answered : ReadingFailed ≡ Answered → ⊥
          unread_answered e = absurd cc

          unread_base : (base : ℕ) → (let e : Result ℕ Refusal = Err refusal.ReadFault in e) ≡ Ok base → ⊥
          unread_base base e = absurd cc

    made_so : (result : Result Loaded Refusal) (u : HubEnd R F) → MakesOne (Steps x.session) (request.LoadBefore oid w.front) (calls.LoadBefore oid w.front) load_answer start result u → IsReadAnswered oid w.switches result raw → To u
    made_so result u made = one_made (Steps x.session) (request.LoadBefore oid w.front) (calls.LoadBefore oid w.front) load_answer start (λ z e. IsReadAnswered oid w.switches z raw → To e) unsent nothing lost told_so result u made
      where
        unsent : (error : AskError) → IsUnsent (calls.LoadBefore oid w.front) error → IsReadAnswered oid w.switches (Err (unasked error)) raw → To start
        unsent (ask_error.TooLong n) long said = absurd (short_call (calls.LoadBefore oid w.front) n (omega arith) short long)
          where
            short : length (tuple_text (id_text oid ∷ id_text w.front ∷ [])) ≤ 100
            short =
                let a = length-append (id_text oid) (id_text w.front ++ 0x86 ∷ []) in
                let b = length-append (id_text w.front) (0x86 ∷ []) in
                let d = id_length oid in
                let e = id_length w.front in
                omega (arith, a, b, d, e)
        unsent ask_error.Memory long said = unmade (lost_says refusal.Memory tt said)

        nothing : (q : Refusal) → IsWayLost q → IsReadAnswered oid w.switches (Err q) raw → To start
        nothing q way said = unmade (lost_says q way said)

        lost : (q : Refusal) (r : Reply) (u : HubEnd R F) → IsWayLost q → Steps x.session (request.LoadBefore oid w.front) r start u → IsReadAnswered oid w.switches (Err q) raw → To u
        lost q r u way step said = lost_so r u step q way said

        told_so : (r : Reply) (u : HubEnd R F) → Steps x.session (request.LoadBefore oid w.front) r start u → IsReadAnswered oid w.switches (load_answer (answer_given (request.LoadBefore oid w.front) r)) raw → To u
        told_so r u step said = answered_so r u step said

    -- a read, and what went wrong in it
    pub read_far : (b : LinkAt (HubEnd R F)) → IsReadBy FarMakes here b oid w.front w.switches raw → To b.there
    read_far b (inl unasked) = subst (λ (z : LinkAt (HubEnd R F)). To z.there) (sym unasked.0) (unmade (unasked_says raw unasked.1))
    read_far b (inr loads) =
        load_cases (Steps x.session) start x.client.held oid w.front (λ z e. IsReadAnswered oid w.switches z raw → To e)
        (λ found said. unmade (held_so found.0 found.1 said))
        (λ said. unmade (lost_says refusal.Memory tt said))
        made_so loads.0 b.there (loads.1 tells v takes.client.stands) loads.2
