-- What a question of a remote client leaves, makes and answers.
use Rattle.std.proofs.Common.{◌≡◌, ℕ, ◌-◌, ◌≤◌, ◌^◌, Bool, true, false, List, [], ◌∷◌, ◌++◌, Option, Some, None, Result, Err, length, length-append, refl, sym, subst, arith}
use Rattle.std.specs.Prelude.{codes}
use Rattle.zb_model.specs.declared.refusal.Refusal.{Refusal}
use Rattle.zb_model.specs.declared.refusal.Refusal.TheVariants as refusal
use Rattle.zb_model.specs.declared.lists.LogLine.{LogLine}
use Rattle.zb_model.specs.declared.lists.Revision.{Revision}
use Rattle.zb_model.specs.Lists.{history_of, undo_log_of}
use Rattle.pack_reach.specs.Packed.{packed, unread}
use Rattle.zodb_core.specs.declared.reply.Reply.{Reply}
use Rattle.zodb_core.specs.declared.request.Request.{Request}
use Rattle.zodb_core.specs.declared.request.Request.TheVariants as request
use Rattle.zodb_core.specs.Machine.{Machine, Rules}
use Rattle.zodb_core.specs.Outcomes.{outcome_of}
use Rattle.zodb_core.specs.Sound.{IsWellFormedRequest}
use Rattle.zodb_core.specs.Steps.{pack_tid, request_step, switched, unless_unread}
use Rattle.connection_view.specs.Views.{Client}
use Rattle.zeo_messages.specs.declared.answer.Answer.{Answer}
use Rattle.zeo_messages.specs.declared.answer.Answer.TheVariants as answers
use Rattle.zeo_messages.specs.declared.answer.Stage.{Stage}
use Rattle.zeo_messages.specs.declared.answer.Stage.TheVariants as stages
use Rattle.zeo_messages.specs.declared.call.Call.{Call}
use Rattle.zeo_messages.specs.declared.call.Call.TheVariants as calls
use Rattle.zeo_messages.specs.Calls.{HoldsCall, arguments_of, fits_call, flag_of, method_of, pack_method}
use Rattle.zeo_messages.specs.LengthLaws.{payload_length}
use Rattle.zeo_values.specs.LengthLaws.{count_short, id_length, name_length}
use Rattle.zeo_values.specs.Values.{id_text, tuple_text}
use Rattle.zeo_reading.specs.Reading.{AreReadBack}
use Rattle.zeo_desk.specs.Answering.{asked_of, listed}
use Rattle.zeo_desk.specs.Desks.{DeskState, asks, called}
use Rattle.zeo_serving.specs.Laws.{is_plain}
use Rattle.zeo_serving.specs.MayLaws.{may_step}
use Rattle.zeo_serving.specs.ServingLaws.{own_keep}
use Rattle.zeo_client.specs.declared.asking.AskError.{AskError}
use Rattle.zeo_client.specs.declared.asking.AskError.TheVariants as ask_error
use Rattle.zeo_client.specs.Asking.{IsTooLong}
use Rattle.zeo_client.specs.Hearing.{Held, IsAnswerHeard}
use Rattle.zeo_client.specs.Rows.{answers_call}
use Rattle.zeo_client.specs.Taking.{ClientState}
use Rattle.zeo_client.specs.Whole.{WholePiecesAreHeard}
use Rattle.remote_loads.specs.Carrying.{IsMachineStep}
use Rattle.remote_loads.specs.Causes.{unasked}
use Rattle.remote_loads.specs.Making.{IsMadeBy, answered_so, left_alone, made_by}
use Rattle.remote_loads.specs.Requesting.{IsQuestionMade, QuestionLeaves, asks_history, call_of, is_question, question_lost, question_told, reply_in, turned_reply}
use Rattle.remote_loads.specs.Served.{IsAnsweredAtOnce, no_step, one_step}
use Rattle.remote_loads.specs.Standing.{Stands}
use Rattle.remote_loads.specs.Talking.{IsCalled, IsUnsent, answered, unheard, unmade, unsent}
use Rattle.remote_loads.specs.KnownLaws.{known_may}
use Rattle.remote_loads.proofs.Called.{HasRow, NamesOne, asked_so}
use Rattle.remote_loads.proofs.Loading.{MayBeAt}
use Rattle.remote_loads.proofs.Questions.{question_answered, turn_so}
use Rattle.remote_loads.proofs.Rows.{HasRows, row_of}
use Rattle.remote_loads.proofs.Staying.{called_stays}

-- ---- the call of a question

module _ (tid : ℕ) where
  method_short : (collect : Bool) (one other : List ℕ) → length one ≤ 20 → length other ≤ 20 → length (pack_method collect one other) ≤ 20
  method_short true one other few less = few
  method_short false one other few less = less

-- it fits a frame
short_call : (call : Call) → length (method_of call) ≤ 20 → length (tuple_text (arguments_of call)) ≤ 20 → (n : ℕ) → IsTooLong call n → ⊥
short_call call method arguments n long =
    let a = payload_length (2 ^ 31 - 1) (flag_of call) (method_of call) (tuple_text (arguments_of call)) in
    let b = count_short (2 ^ 31 - 1) in
    let c = count_short (flag_of call) in
    let d = name_length (method_of call) in
    let e = long.long in
    let f = long.above in
    absurd (omega (arith, a, b, c, d, e, f, method, arguments))

one_id : (n : ℕ) → length (id_text n ++ 0x85 ∷ []) ≤ 20
one_id n = let a = length-append (id_text n) (0x85 ∷ []) in let b = id_length n in omega (arith, a, b)

-- what it names, and what is heard of its answer
record IsCallOf (q : Request) (call : Call) : Type 0 where
  names : (d : DeskState) (number : ℕ) → called d number call ≡ asks d number (asked_of q) q
  once : IsAnsweredAtOnce q
  row : fits_call call ≡ true
  short : (n : ℕ) → IsTooLong call n → ⊥
  heard : (a : Answer) (old new : Held) → IsAnswerHeard (Some call) a old new → new ≡ old
  plain : is_plain q ≡ true
  formed : IsWellFormedRequest q

call_is : (q : Request) → is_question q ≡ true → IsCallOf q (call_of q)
call_is (request.History oid) is = record {
  names = λ d number. refl;
  once = record { last = λ r. refl; answer = λ r. refl; long = λ k. refl };
  row = refl;
  short = short_call (calls.History oid) (omega arith) (one_id oid);
  heard = λ a h k same. same;
  plain = refl;
  formed = tt;
}
call_is request.UndoLog is = record {
  names = λ d number. refl;
  once = record { last = λ r. refl; answer = λ r. refl; long = λ k. refl };
  row = refl;
  short = short_call calls.UndoInfo (omega arith) (omega arith);
  heard = λ a h k same. same;
  plain = refl;
  formed = tt;
}
call_is (request.Pack tid collect) is = record {
  names = λ d number. refl;
  once = record { last = λ r. refl; answer = λ r. refl; long = λ k. refl };
  row = refl;
  short = short_call (calls.Pack tid collect) (method_short tid collect (codes "pack") (codes "packNoGc") (omega arith) (omega arith)) (one_id tid);
  heard = λ a h k same. same;
  plain = refl;
  formed = tt;
}
call_is (request.PackBegin tid collect) is = record {
  names = λ d number. refl;
  once = record { last = λ r. refl; answer = λ r. refl; long = λ k. refl };
  row = refl;
  short = short_call (calls.PackBegin tid collect) (method_short tid collect (codes "packBegin") (codes "packBeginNoGc") (omega arith) (omega arith)) (one_id tid);
  heard = λ a h k same. same;
  plain = refl;
  formed = tt;
}
call_is request.PackTurn is = record {
  names = λ d number. refl;
  once = record { last = λ r. refl; answer = λ r. refl; long = λ k. refl };
  row = refl;
  short = short_call calls.PackTurn (omega arith) (omega arith);
  heard = λ a h k same. same;
  plain = refl;
  formed = tt;
}
call_is request.Last is = record {
  names = λ d number. refl;
  once = record { last = λ r. refl; answer = λ r. refl; long = λ k. refl };
  row = refl;
  short = short_call calls.LastTransaction (omega arith) (omega arith);
  heard = λ a h k same. same;
  plain = refl;
  formed = tt;
}
call_is request.Front is = absurd cc
call_is (request.LoadBefore oid front) is = absurd cc
call_is (request.NewOids count) is = absurd cc
call_is (request.Vote user description extension pending) is = absurd cc
call_is (request.Undo user description tids) is = absurd cc
call_is request.Finish is = absurd cc
call_is request.Abort is = absurd cc
call_is (request.Since tid changes) is = absurd cc
call_is request.Close is = absurd cc

-- its answer is of its row
listed_row : (oid : ℕ) (list : List Revision) → answers_call (calls.History oid) (listed answers.Revisions list) ≡ true
listed_row oid [] = refl
listed_row oid (x ∷ list) = refl

logged_row : (list : List LogLine) → answers_call calls.UndoInfo (listed answers.LogLines list) ≡ true
logged_row [] = refl
logged_row (x ∷ list) = refl

turned_row : (stage : Stage) (count : ℕ) → HasRows request.PackTurn calls.PackTurn (turned_reply stage count)
turned_row stages.Marking count = (refl, refl)
turned_row stages.Marked count = (refl, refl)
turned_row stages.Copying count = (refl, refl)
turned_row stages.Copied count = (refl, refl)

pack_row : (rules : Rules) (m : Machine) (n tid stamp : ℕ) (collect : Bool) → HasRows (request.Pack tid collect) (calls.Pack tid collect) (request_step rules m n (request.Pack tid collect) stamp).reply
pack_row rules m n tid stamp collect = unread_row (unread collect rules.named (pack_tid tid m.list) m.list)
  where
    unread_row : (w : Option (ℕ × ℕ)) → HasRows (request.Pack tid collect) (calls.Pack tid collect) (unless_unread m w (switched m (pack_tid tid m.list) (packed collect rules.named (pack_tid tid m.list) m.list))).reply
    unread_row None = (refl, refl)
    unread_row (Some w) = (refl, refl)

question_row : (m : Machine) (n : ℕ) (q : Request) (r : Reply) (now : Machine) → is_question q ≡ true → IsMachineStep m n q r now → HasRow q (call_of q) r
question_row m n q r now is step = row_of (call_of q) m n q r now (λ rules stamp none. by_request q is rules stamp) step
  where
    by_request : (k : Request) → is_question k ≡ true → (rules : Rules) (stamp : ℕ) → HasRows k (call_of k) (request_step rules m n k stamp).reply
    by_request (request.History oid) is rules stamp = (refl, listed_row oid (history_of oid m.list))
    by_request request.UndoLog is rules stamp = (refl, logged_row (undo_log_of m.list))
    by_request request.Last is rules stamp = (refl, refl)
    by_request (request.Pack tid collect) is rules stamp = pack_row rules m n tid stamp collect
    by_request (request.PackBegin tid collect) is rules stamp = (refl, refl)
    by_request request.PackTurn is rules stamp = turn_so (HasRows request.PackTurn calls.PackTurn) (λ why plain. (refl, refl)) turned_row (λ one other. (refl, refl)) rules.named m m.pack
    by_request request.Front is rules stamp = absurd cc
    by_request (request.LoadBefore oid front) is rules stamp = absurd cc
    by_request (request.NewOids count) is rules stamp = absurd cc
    by_request (request.Vote user description extension pending) is rules stamp = absurd cc
    by_request (request.Undo user description tids) is rules stamp = absurd cc
    by_request request.Finish is rules stamp = absurd cc
    by_request request.Abort is rules stamp = absurd cc
    by_request (request.Since tid changes) is rules stamp = absurd cc
    by_request request.Close is rules stamp = absurd cc

-- ---- what is left

question_step : (m : Machine) (n : ℕ) (q : Request) (call : Call) → IsCallOf q call → (r : Reply) (now : Machine) (c : Client) (h : Held) → IsMachineStep m n q r now → MayBeAt m n h c → MayBeAt now n h c
question_step m n q call of r now c h step may =
    known_may step.left now n h.standing h.cache.entries c step.known
    (may_step step.rules m n q step.stamp (record { reply = r; machine = step.left; ticks = step.ticks }) step.before step.after h.standing h.standing h.cache.entries h.cache.entries c c step.made may (record {
      formed = of.formed;
      whole = λ sound x. own_keep step.rules m n q step.stamp (outcome_of r) sound of.plain h.standing h.cache.entries c x;
      lost = λ is at sound x. x;
      front = may.front;
      switches = may.switches;
    }))

module _ {S : Type 0} (steps : Request → Reply → S → S → Type 0) (machine : S → Machine) (n : ℕ) (stepped : (q : Request) (r : Reply) (s t : S) → steps q r s t → IsMachineStep (machine s) n q r (machine t)) (read_back : AreReadBack) (whole : WholePiecesAreHeard) where
  module _ (q : Request) (is : is_question q ≡ true) where
    abbrev Said : Result Answer Refusal → Result Reply Refusal
    Said result = answered_so (reply_in (asks_history q)) result

    unsent_made : (before : S) (error : AskError) → IsUnsent (call_of q) error → IsQuestionMade steps q before (Err (unasked error)) before
    unsent_made before ask_error.Memory un = question_lost refusal.Memory before tt no_step
    unsent_made before (ask_error.TooLong k) un = absurd ((call_is q is).short k un)

    question_made : (before now : S) (old new : Held) (result : Result Answer Refusal) → IsCalled steps q (call_of q) before old result new now → IsQuestionMade steps q before (Said result) now
    question_made before _ _ _ _ (unsent error un) = unsent_made before error un
    question_made before _ _ _ _ (unmade r way) = question_lost r before way no_step
    question_made before _ _ _ _ (unheard r reply new now way step heard) = question_lost r now way (one_step reply now step)
    question_made before _ _ _ _ (answered reply new now step heard) =
        subst (λ (x : Result Reply Refusal). IsQuestionMade steps q before x now) (sym (question_answered (machine before) n q reply (machine now) is (stepped q reply before now step)))
        (question_told reply now step)

  pub question_leaves : (before now : S) (d left : DeskState) (old new : ClientState) (q : Request) → is_question q ≡ true → HoldsCall (call_of q) → (result : Result Reply Refusal)
      → IsMadeBy steps before d old (call_of q) (reply_in (asks_history q)) left_alone result new now left → (c : Client) → Stands (machine before) n d old c → QuestionLeaves steps machine n before q c result new now left
  question_leaves before _ d _ old _ q is held _ (made_by result new now left made) c x =
      let of = call_is q is in
      let names : NamesOne (call_of q) q = record { held = held; row = of.row; once = of.once; names = of.names } in
      let called = asked_so steps whole (call_of q) q (λ reply s t step. question_row (machine s) n q reply (machine t) is (stepped q reply s t step)) of.once read_back names before d old x.rest result new now left made in
      record {
        stands = record {
          served = called_stays steps q (call_of q) (λ s h. MayBeAt (machine s) n h c) of.heard (λ r s t h step. question_step (machine s) n q (call_of q) of r (machine t) c h (stepped q r s t step)) before now old.held new.held result called.0 x.served;
          rest = called.1;
        };
        made = question_made q is before now old.held new.held result called.0;
      }
