-- A refusal has its cause.
use Rattle.std.proofs.Common.{Bool, Err, List, None, Ok, Option, Result, Some, [], ap, arith, false, if◌then◌else◌, inl, inr, length, nat_lt, not, refl, subst, suc, sym, true, zero, ℕ, ◌∙◌, ◌∷◌, ◌≡◌, ◌≤◌}
use Rattle.std.specs.Option.{option_map, option_or}
use Rattle.std.specs.Prelude.{slice_get}
use Rattle.std.proofs.lemmas.Bool.{ltb-false}
use Rattle.zb_base.specs.Counts.{rose_before}
use Rattle.zb_model.specs.declared.data.Content.TheVariants.{Held, Absent}
use Rattle.zb_model.specs.declared.data.Content.{Content}
use Rattle.zb_model.specs.declared.pending.PendingStore.{PendingStore}
use Rattle.zb_model.specs.declared.refusal.Refusal.{Refusal}
use Rattle.zb_model.specs.declared.refusal.Refusal.TheVariants as refusal
use Rattle.zb_answers.specs.declared.answer.Answer.TheVariants as answer
use Rattle.zb_script.specs.declared.line.Line.{Line}
use Rattle.zb_script.specs.declared.line.Line.TheVariants as line
use Rattle.zb_script.specs.declared.line.Turn.{Turn}
use Rattle.zb_script.specs.declared.tree_call.TreeCall.{TreeCall}
use Rattle.commit_phases.specs.Pending.{PendingChanges, excess_with, pending_of, stores_after}
use Rattle.tree_attempts.specs.declared.attempt.Made.{Made}
use Rattle.tree_attempts.specs.declared.operation.TreeAnswer.{TreeAnswer}
use Rattle.tree_attempts.specs.declared.operation.TreeAnswer.TheVariants as answered
use Rattle.zodb_core.specs.declared.reply.Reply.{Reply}
use Rattle.zodb_core.specs.declared.reply.Reply.TheVariants as reply
use Rattle.zodb_core.specs.declared.request.Request.{Request}
use Rattle.zodb_core.specs.declared.request.Request.TheVariants as request
use Rattle.zodb_core.specs.Machine.{Rules, is_open_in, session_limit}
use Rattle.zodb_core.specs.Outcomes.{Answered, EndsFor, NoMemory, ReadingFailed, StepOutcome, StoreFailed, outcome_of}
use Rattle.zodb_core.specs.Steps.{Stepped, refuse_if, step_of}
use Rattle.connection_view.specs.Connections.{waiting_as}
use Rattle.client_turns.specs.declared.errors.TurnError.TheVariants as turn_error
use Rattle.client_turns.specs.Clients.{Client, Linked, Local, Moment, OpenTransaction, Standing, changes_of, place_of_client}
use Rattle.client_turns.specs.Laws.{HasOpen, IsNamed, IsRefusedFor, RefusalsHaveTheirCause, WouldPut, by_answer, by_asking, by_call, by_connection, by_delete, by_frame, by_front, by_length, by_lengths, by_number, by_reading, by_savepoint, by_step, by_view, by_vote, crowded, unnamed}
use Rattle.client_turns.specs.DrawLaws.{new_reply}
use Rattle.client_turns.specs.Lines.{Changed, answer_of, answer_to, answering_excess, asking_excess, data_of, end_in, is_committed, is_delivery, object_of, put, request_of, rolled_to, store_unless}
use Rattle.client_turns.specs.Reads.{EndsFar, EndsNear, EndsReading}
use Rattle.client_turns.specs.Refusing.{connection_refusal, line_refusal, opening_in}
use Rattle.client_turns.specs.Trees.{CallEnds, IsTreeEnd, IsTreeLine, IsUncalled, all_stored, answer_told, by_draw, by_read, by_tree, by_want, operation_of, puts_stored, stores_put}
use Rattle.client_turns.specs.Turns.{IsClosed, IsClosing, IsFarOpening, IsGet, IsLineNamed, IsLineOf, IsLineTaken, IsLineUnless, IsOutside, IsOwnLine, IsPut, IsStepLine, IsStepUnless, IsTold, IsWithin, Opening, fronts_behind, opened_far, opened_if}
use Rattle.client_turns.proofs.Data.{asks_no_load, is_loaded, step_unread}
use Rattle.client_turns.specs.Views.{server_of}
use Rattle.connection_view.specs.Views.{view_of}
use Rattle.client_turns.specs.TurnLaws.{IsOpeningAnswer, as_opened, as_refused, excess_answered, front_reply, step_cases, taken_answer}

-- ---- refusals by their outcome

reading_is : (w : Refusal) → outcome_of (reply.Refused w) ≡ ReadingFailed → w ≡ refusal.ReadFault
reading_is refusal.ReadFault is = refl
reading_is _ is = absurd cc

memory_ends : (w : Refusal) → outcome_of (reply.Refused w) ≡ NoMemory → end_in w ≡ None → ⊥
memory_ends refusal.TidsSpent is ends = absurd cc
memory_ends _ is ends = absurd cc

store_ends : (w : Refusal) → outcome_of (reply.Refused w) ≡ StoreFailed → end_in w ≡ None → ⊥
store_ends refusal.TidsSpent is ends = absurd cc
store_ends _ is ends = absurd cc

same_refusal : (a b : Refusal) → answer.Refused a ≡ answer.Refused b → a ≡ b
same_refusal a b is = cc

-- what a turn was refused for, at a later moment
later_refused : (rules : Rules) (m : Moment) (t : Turn) (why : Refusal) (x y : Moment) → x.counts.reads ≤ y.counts.reads → IsRefusedFor rules m t why x → IsRefusedFor rules m t why y
later_refused rules m t why x y up (unnamed place is) = unnamed place is
later_refused rules m t why x y up (crowded many is) = crowded many is
later_refused rules m t why x y up (by_connection c named is) = by_connection c named is
later_refused rules m t why x y up (by_step c q stamp named asks is) = by_step c q stamp named asks is
later_refused rules m t why x y up (by_view o oid has is) = by_view o oid has is
later_refused rules m t why x y up (by_delete o oid p has said waits absent is) = by_delete o oid p has said waits absent is
later_refused rules m t why x y up (by_length o p n has excess is) = by_length o p n has excess is
later_refused rules m t why x y up (by_asking c q n named asks long is) = by_asking c q n named asks long is
later_refused rules m t why x y up (by_answer c q stamp n named asks long is) = by_answer c q stamp n named asks long is
later_refused rules m t why x y up (by_front behind stamp opens told is) = by_front behind stamp opens told is
later_refused rules m t why x y up (by_frame o oid n has framed past is) = by_frame o oid n has framed past is
later_refused rules m t why x y up (by_call o objects root call has said sees is) = by_call o objects root call has said sees is
later_refused rules m t why x y up (by_number c o root call numbers behind rules' stamp named has said lacks draws is) = by_number c o root call numbers behind rules' stamp named has said lacks draws is
later_refused rules m t why x y up (by_vote o root call p puts has said made voted is) = by_vote o root call p puts has said made voted is
later_refused rules m t why x y up (by_lengths o root call puts n has said made long is) = by_lengths o root call puts n has said made long is
later_refused rules m t why x y up (by_savepoint o number has said none is) = by_savepoint o number has said none is
later_refused rules m t why x y up (by_reading is rose) = by_reading is (rose_before m.counts.reads x.counts.reads y.counts.reads rose up)

-- ---- steps

ended_refused : (rules : Rules) (m behind : Moment) (t : Turn) (c : Client) (q : Request) (stamp : ℕ) (w : Refusal) (ticks : Bool) (o : StepOutcome) → IsNamed m t.client c → request_of c.standing (changes_of c) t.line ≡ Some q → end_in w ≡ None
    → outcome_of (reply.Refused w) ≡ o → EndsFor rules m.machine c.session q stamp (record { reply = reply.Refused w; machine = behind.machine; ticks = ticks }) m.counts behind.counts o → IsRefusedFor rules m t w behind
ended_refused rules m behind t c q stamp w ticks Answered named asks whole outcome ends = by_step c q stamp named asks (sym (ap (λ (s : Stepped). s.reply) ends))
ended_refused rules m behind t c q stamp w ticks ReadingFailed named asks whole outcome ends = by_reading (reading_is w outcome) ends.1
ended_refused rules m behind t c q stamp w ticks NoMemory named asks whole outcome ends = absurd (memory_ends w outcome whole)
ended_refused rules m behind t c q stamp w ticks StoreFailed named asks whole outcome ends = absurd (store_ends w outcome whole)

refused_same : (rules : Rules) (m : Moment) (t : Turn) (a b : Refusal) (x : Moment) → answer.Refused a ≡ answer.Refused b → (end_in b ≡ None → IsRefusedFor rules m t b x) → end_in a ≡ None → IsRefusedFor rules m t a x
refused_same rules m t a b x is cause whole =
    let same : a ≡ b = same_refusal a b is in
    subst (λ (w : Refusal). IsRefusedFor rules m t w x) (sym same) (cause (sym (ap end_in same) ∙ whole))

reply_refused : (rules : Rules) (m behind : Moment) (t : Turn) (c : Client) (q : Request) (stamp : ℕ) (r : Reply) (ticks : Bool) (why : Refusal) → IsNamed m t.client c → request_of c.standing (changes_of c) t.line ≡ Some q → end_in why ≡ None
    → EndsFor rules m.machine c.session q stamp (record { reply = r; machine = behind.machine; ticks = ticks }) m.counts behind.counts (outcome_of r) → answer.Refused why ≡ answer_of r → IsRefusedFor rules m t why behind
reply_refused rules m behind t c q stamp (reply.Refused w) ticks why named asks whole ends is =
    refused_same rules m t why w behind is (λ whole. ended_refused rules m behind t c q stamp w ticks (outcome_of (reply.Refused w)) named asks whole refl ends) whole
reply_refused rules m behind t c q stamp (reply.Nothing oid switches) ticks why named asks whole ends is =
    no_load (ap (λ (s : Stepped). is_loaded s.reply) ends ∙ step_unread rules m.machine c.session q stamp (asks_no_load c.standing (changes_of c) t.line q asks))
  where
    no_load : true ≡ false → IsRefusedFor rules m t why behind
    no_load e = absurd cc
reply_refused rules m behind t c q stamp _ ticks why named asks whole ends is = absurd cc

-- behind a step no count falls
told_later : (rules : Rules) (b x : Moment) (n count : ℕ) → IsTold rules count b n x → b.counts.reads ≤ x.counts.reads
told_later rules b x n zero told = omega (arith, ap (λ (y : Moment). y.counts.reads) told)
told_later rules b x n (suc count) (r, next, step, rest) = omega (arith, step.made.later.reads, told_later rules next x n count rest)

-- a delivery is refused as its step is
told_refused : (d : Bool) (r : Reply) (why : Refusal) → answer.Refused why ≡ answer_to d r → answer.Refused why ≡ answer_of r
told_refused false r why is = is
told_refused true (reply.Front front news switches) why is = absurd cc
told_refused true _ why is = is

-- an answer that doesn't fit a frame is that of the machine's step
long_refused : (rules : Rules) (m behind : Moment) (t : Turn) (c : Client) (q : Request) (stamp : ℕ) (r : Reply) (ticks : Bool) (n : ℕ) → IsNamed m t.client c → request_of c.standing (changes_of c) t.line ≡ Some q
    → EndsFor rules m.machine c.session q stamp (record { reply = r; machine = behind.machine; ticks = ticks }) m.counts behind.counts (outcome_of r) → answering_excess c.standing r ≡ Some n → IsRefusedFor rules m t (refusal.TooLong n) behind
long_refused rules m behind t c q stamp r ticks n named asks ends long =
    let made : (record { reply = r; machine = behind.machine; ticks = ticks }) ≡ step_of rules m.machine c.session q stamp =
    subst (EndsFor rules m.machine c.session q stamp (record { reply = r; machine = behind.machine; ticks = ticks }) m.counts behind.counts) (excess_answered c.standing r n long).0 ends in
    by_answer c q stamp n named asks (ap (λ (s : Stepped). answering_excess c.standing s.reply) (sym made) ∙ long) refl

step_refused : (rules : Rules) (m now : Moment) (t : Turn) (at : ℕ) (c : Client) (d : Bool) (q : Request) (why : Refusal) → IsNamed m t.client c → request_of c.standing (changes_of c) t.line ≡ Some q → end_in why ≡ None
    → IsStepLine rules m at c d q (answer.Refused why) now → IsRefusedFor rules m t why now
step_refused rules m now t at c d q why named asks whole is =
    later_refused rules m t why is.behind now
    (omega (arith, told_later rules is.behind is.told c.session (fronts_behind (is_committed is.reply) c.standing) is.front, ap (λ (x : Moment). x.counts.reads) is.left))
    (step_cases (λ a. answer.Refused why ≡ a → IsRefusedFor rules m t why is.behind) c.standing d is.reply
    (λ n long same. refused_same rules m t why (refusal.TooLong n) is.behind same (λ _. long_refused rules m is.behind t c q is.step.stamp is.reply is.step.ticks n named asks is.step.made.cause long) whole)
    (λ same. reply_refused rules m is.behind t c q is.step.stamp is.reply is.step.ticks why named asks whole is.step.made.cause (told_refused d is.reply why same)) is.answer)

-- ---- lines of an open transaction

near_refused : (rules : Rules) (m now : Moment) (t : Turn) (o : OpenTransaction) (oid : ℕ) (w : Refusal) → HasOpen m t.client o → EndsNear m.machine o.view oid m.counts now.counts (Err w) → end_in w ≡ None → IsRefusedFor rules m t w now
near_refused rules m now t o oid refusal.ReadFault has ends whole = by_reading refl ends
near_refused rules m now t o oid refusal.Memory has ends whole = absurd cc
near_refused rules m now t o oid w has ends whole = by_view o oid has ends

far_refused : (rules : Rules) (m now : Moment) (t : Turn) (o : OpenTransaction) (oid : ℕ) (w : Refusal) → HasOpen m t.client o → o.framed ≡ true → EndsFar m.machine o.view oid m.counts now.counts (Err w) → end_in w ≡ None → IsRefusedFor rules m t w now
far_refused rules m now t o oid (refusal.TooLong n) has framed ends whole = by_frame o oid n has framed ends refl
far_refused rules m now t o oid w has framed ends whole = near_refused rules m now t o oid w has ends whole

read_refused : (rules : Rules) (m now : Moment) (t : Turn) (o : OpenTransaction) (oid : ℕ) (w : Refusal) → HasOpen m t.client o → EndsReading o.framed m.machine o.view oid m.counts now.counts (Err w) → end_in w ≡ None → IsRefusedFor rules m t w now
read_refused rules m now t o oid w has ends whole = by_way o.framed refl ends
  where
    by_way : (far : Bool) → o.framed ≡ far → EndsReading far m.machine o.view oid m.counts now.counts (Err w) → IsRefusedFor rules m t w now
    by_way false is ends = near_refused rules m now t o oid w has ends whole
    by_way true is ends = far_refused rules m now t o oid w has is ends whole

data_refused : (rules : Rules) (m now : Moment) (t : Turn) (o : OpenTransaction) (oid : ℕ) (why : Refusal) (result : Result (ℕ × List ℕ) Refusal) → HasOpen m t.client o → EndsReading o.framed m.machine o.view oid m.counts now.counts result → end_in why ≡ None
    → answer.Refused why ≡ data_of result → IsRefusedFor rules m t why now
data_refused rules m now t o oid why (Ok got) has ends whole is = absurd cc
data_refused rules m now t o oid why (Err w) has ends whole is = refused_same rules m t why w now is (read_refused rules m now t o oid w has ends) whole

object_refused : (rules : Rules) (m now : Moment) (t : Turn) (o : OpenTransaction) (oid : ℕ) (why : Refusal) (result : Result (ℕ × List ℕ) Refusal) → HasOpen m t.client o → EndsReading o.framed m.machine o.view oid m.counts now.counts result → end_in why ≡ None
    → answer.Refused why ≡ object_of result → IsRefusedFor rules m t why now
object_refused rules m now t o oid why (Ok got) has ends whole is = absurd cc
object_refused rules m now t o oid why (Err w) has ends whole is = refused_same rules m t why w now is (read_refused rules m now t o oid w has ends) whole

-- of what waits for an object only a delete is refused
waiting_refused : (rules : Rules) (m now : Moment) (t : Turn) (o : OpenTransaction) (oid : ℕ) (why : Refusal) (p : PendingStore) (content : Content) → HasOpen m t.client o → t.line ≡ line.Get oid → pending_of o.changes.pending.stores oid ≡ Some p → p.content ≡ content
    → answer.Refused why ≡ object_of (waiting_as oid p.base content) → IsRefusedFor rules m t why now
waiting_refused rules m now t o oid why p (Held bytes) has said waits is refused = absurd cc
waiting_refused rules m now t o oid why p Absent has said waits is refused = by_delete o oid p has said waits is (same_refusal why (refusal.Missing oid false) refused)

get_refused : (rules : Rules) (m now : Moment) (t : Turn) (o : OpenTransaction) (oid : ℕ) (why : Refusal) (p : Option PendingStore) → HasOpen m t.client o → t.line ≡ line.Get oid → pending_of o.changes.pending.stores oid ≡ p → end_in why ≡ None → IsGet m o oid p (answer.Refused why) now
    → IsRefusedFor rules m t why now
get_refused rules m now t o oid why None has said waits whole is = object_refused rules m now t o oid why is.0 has is.1.ends whole is.2
get_refused rules m now t o oid why (Some p) has said waits whole is = waiting_refused rules m now t o oid why p p.content has said waits refl is.0

store_refused : (rules : Rules) (m now : Moment) (t : Turn) (o : OpenTransaction) (p : PendingStore) (why : Refusal) (e : Option ℕ) → HasOpen m t.client o → excess_with o.changes.pending.stores p ≡ e
    → answer.Refused why ≡ (store_unless o.changes p e).answer → IsRefusedFor rules m t why now
store_refused rules m now t o p why None has excess is = absurd cc
store_refused rules m now t o p why (Some n) has excess is = by_length o p n has excess (same_refusal why (refusal.TooLong n) is)

put_refused : (rules : Rules) (m now : Moment) (t : Turn) (o : OpenTransaction) (oid : ℕ) (bytes : List ℕ) (why : Refusal) (read : Result (ℕ × List ℕ) Refusal) → HasOpen m t.client o → EndsReading o.framed m.machine o.view oid m.counts now.counts read → end_in why ≡ None
    → answer.Refused why ≡ (put o.changes oid bytes read).answer → IsRefusedFor rules m t why now
put_refused rules m now t o oid bytes why (Ok got) has ends whole is =
    store_refused rules m now t o (record { oid = oid; base = got.0; content = Held bytes }) why (excess_with o.changes.pending.stores (record { oid = oid; base = got.0; content = Held bytes })) has refl is
put_refused rules m now t o oid bytes why (Err (refusal.Missing o' false)) has ends whole is =
    store_refused rules m now t o (record { oid = oid; base = 0; content = Held bytes }) why (excess_with o.changes.pending.stores (record { oid = oid; base = 0; content = Held bytes })) has refl is
put_refused rules m now t o oid bytes why (Err (refusal.Missing o' true)) has ends whole is = refused_same rules m t why (refusal.Missing o' true) now is (read_refused rules m now t o oid (refusal.Missing o' true) has ends) whole
put_refused rules m now t o oid bytes why (Err w) has ends whole is = refused_same rules m t why w now is (read_refused rules m now t o oid w has ends) whole

putting_refused : (rules : Rules) (m now : Moment) (t : Turn) (at : ℕ) (c : Client) (o : OpenTransaction) (oid : ℕ) (bytes : List ℕ) (why : Refusal) (p : Option PendingStore) → HasOpen m t.client o → end_in why ≡ None
    → IsPut m at c o oid bytes p (answer.Refused why) now → IsRefusedFor rules m t why now
putting_refused rules m now t at c o oid bytes why (Some p) has whole is =
    store_refused rules m now t o (record { oid = oid; base = p.base; content = Held bytes }) why (excess_with o.changes.pending.stores (record { oid = oid; base = p.base; content = Held bytes })) has refl is.0
putting_refused rules m now t at c o oid bytes why None has whole is =
    later_refused rules m t why is.1 now (omega (arith, ap (λ (x : Moment). x.counts.reads) is.3.1)) (put_refused rules m is.1 t o oid bytes why is.0 has is.2.ends whole is.3.0)

rolled_refused : (rules : Rules) (m now : Moment) (t : Turn) (o : OpenTransaction) (number : ℕ) (why : Refusal) (p : Option PendingChanges) → HasOpen m t.client o → t.line ≡ line.Rollback number → slice_get o.changes.savepoints number ≡ p
    → answer.Refused why ≡ (rolled_to o.changes number p).answer → IsRefusedFor rules m t why now
rolled_refused rules m now t o number why None has said none is = by_savepoint o number has said none (same_refusal why (refusal.NoSavepoint number) is)
rolled_refused rules m now t o number why (Some p) has said none is = absurd cc

memory_goes_on : (why : Refusal) → why ≡ refusal.Memory → end_in why ≡ None → ⊥
memory_goes_on why is whole = no_end (sym (ap end_in is) ∙ whole)
  where
    no_end : Some turn_error.Memory ≡ None → ⊥
    no_end e = absurd cc

-- why a call on a tree isn't answered
uncalled_refused : (rules : Rules) (m now : Moment) (t : Turn) (c : Client) (o : OpenTransaction) (root : ℕ) (call : TreeCall) (why : Refusal) → t.line ≡ line.Tree root call → IsNamed m t.client c → HasOpen m t.client o → end_in why ≡ None
    → IsUncalled m c.session o root (operation_of call) why now → IsRefusedFor rules m t why now
uncalled_refused rules m now t c o root call why said named has whole (by_tree objects sees refused all same) = by_call o objects root call has said sees refused
uncalled_refused rules m now t c o root call why said named has whole (by_read oid asked read found) = read_refused rules m now t o oid why has read.ends whole
uncalled_refused rules m now t c o root call why said named has whole (by_draw numbers behind lacks draws (rules', step)) =
    by_number c o root call numbers behind rules' step.stamp named has said lacks draws (new_reply rules' behind c.session (reply.Refused why) now step)
uncalled_refused rules m now t c o root call why said named has whole (by_want numbers may draws is) = absurd (memory_goes_on why is whole)

told_no_refusal : (X : Type 0) (why : Refusal) (x : TreeAnswer) → answer.Refused why ≡ answer_told x → X
told_no_refusal X why (answered.Value None) is = absurd cc
told_no_refusal X why (answered.Value (Some value)) is = absurd cc
told_no_refusal X why answered.Set is = absurd cc
told_no_refusal X why (answered.Removed true) is = absurd cc
told_no_refusal X why (answered.Removed false) is = absurd cc
told_no_refusal X why (answered.Items list is_set) is = absurd cc

-- why what a call puts is refused
puts_refused : (rules : Rules) (m now : Moment) (t : Turn) (o : OpenTransaction) (root : ℕ) (call : TreeCall) (x : TreeAnswer) (puts : List PendingStore) (why : Refusal) → HasOpen m t.client o → t.line ≡ line.Tree root call → WouldPut m o root call puts
    → answer.Refused why ≡ (all_stored o.changes (answer_told x) puts).answer → IsRefusedFor rules m t why now
puts_refused rules m now t o root call x [] why has said made is = told_no_refusal (IsRefusedFor rules m t why now) why x is
puts_refused rules m now t o root call x (p ∷ puts) why has said made is = by_voted o.changes.is_voted (stores_after o.changes.pending.stores (p ∷ puts)) refl refl is
  where
    by_stored : (r : Result (List PendingStore) ℕ) → stores_after o.changes.pending.stores (p ∷ puts) ≡ r → answer.Refused why ≡ (puts_stored o.changes (answer_told x) r).answer → IsRefusedFor rules m t why now
    by_stored (Ok stores) stored e = told_no_refusal (IsRefusedFor rules m t why now) why x e
    by_stored (Err n) stored e = by_lengths o root call (p ∷ puts) n has said made stored (same_refusal why (refusal.TooLong n) e)

    by_voted : (b : Bool) (r : Result (List PendingStore) ℕ) → o.changes.is_voted ≡ b → stores_after o.changes.pending.stores (p ∷ puts) ≡ r
        → answer.Refused why ≡ (if b then (let w : Changed = record { answer = answer.Refused refusal.Voted; changes = o.changes } in w) else puts_stored o.changes (answer_told x) r).answer → IsRefusedFor rules m t why now
    by_voted true r voted stored e = by_vote o root call p puts has said made voted (same_refusal why refusal.Voted e)
    by_voted false r voted stored e = by_stored r stored e

tree_refused : (rules : Rules) (m now : Moment) (t : Turn) (at : ℕ) (c : Client) (o : OpenTransaction) (root : ℕ) (call : TreeCall) (why : Refusal) → t.line ≡ line.Tree root call → IsNamed m t.client c → HasOpen m t.client o → end_in why ≡ None
    → IsTreeLine m at c o root call (answer.Refused why) now → IsRefusedFor rules m t why now
tree_refused rules m now t at c o root call why said named has whole is = by_end is.result is.ends is.end
  where
    by_end : (result : Result Made Refusal) → CallEnds m c.session o root (operation_of call) result is.behind → IsTreeEnd is.behind at c o result (answer.Refused why) now → IsRefusedFor rules m t why now
    by_end (Ok made) ends (inl change) = puts_refused rules m now t o root call made.answer (stores_put made.puts) why has said (ends.objects, ends.numbers, made.answer, made.puts, refl, ends.sees, ends.made) change.0
    by_end (Ok made) ends (inr starved) = absurd (memory_goes_on why (same_refusal why refusal.Memory starved.0) whole)
    by_end (Err w) ends end =
        subst (IsRefusedFor rules m t why) (sym end.1)
        (refused_same rules m t why w is.behind end.0 (λ goes. uncalled_refused rules m is.behind t c o root call w said named has goes ends) whole)

within_refused : (rules : Rules) (m now : Moment) (t : Turn) (at : ℕ) (c : Client) (o : OpenTransaction) (l : Line) (why : Refusal) → t.line ≡ l → IsNamed m t.client c → HasOpen m t.client o → end_in why ≡ None → opening_in l ≡ None → line_refusal (Some o.changes) l ≡ None → request_of c.standing (Some o.changes) l ≡ None
    → IsWithin m at c o l (answer.Refused why) now → IsRefusedFor rules m t why now
within_refused rules m now t at c o (line.Load oid) why said named has whole opens free asks is = data_refused rules m now t o oid why is.0 has is.1.ends whole is.2
within_refused rules m now t at c o (line.Get oid) why said named has whole opens free asks is = get_refused rules m now t o oid why (pending_of o.changes.pending.stores oid) has said refl whole is
within_refused rules m now t at c o (line.Store oid base bytes) why said named has whole opens free asks is =
    store_refused rules m now t o (record { oid = oid; base = base; content = Held bytes }) why (excess_with o.changes.pending.stores (record { oid = oid; base = base; content = Held bytes })) has refl is.0
within_refused rules m now t at c o (line.Put oid bytes) why said named has whole opens free asks is = putting_refused rules m now t at c o oid bytes why (pending_of o.changes.pending.stores oid) has whole is
within_refused rules m now t at c o (line.Check oid serial) why said named has whole opens free asks is = checked_not is.0
  where
    checked_not : answer.Refused why ≡ answer.Checked → IsRefusedFor rules m t why now
    checked_not e = absurd cc
within_refused rules m now t at c o (line.Delete oid base) why said named has whole opens free asks is = deleted_not is.0
  where
    deleted_not : answer.Refused why ≡ answer.Deleted → IsRefusedFor rules m t why now
    deleted_not e = absurd cc
within_refused rules m now t at c o line.Savepoint why said named has whole opens free asks is = saved_not is.0
  where
    saved_not : answer.Refused why ≡ answer.Savepoint (length o.changes.savepoints) → IsRefusedFor rules m t why now
    saved_not e = absurd cc
within_refused rules m now t at c o (line.Rollback number) why said named has whole opens free asks is = rolled_refused rules m now t o number why (slice_get o.changes.savepoints number) has said refl is.0
within_refused rules m now t at c o (line.Tree root call) why said named has whole opens free asks is = tree_refused rules m now t at c o root call why said named has whole is
within_refused rules m now t at c o _ why said named has whole opens free asks is = absurd cc

-- without a transaction the connection refuses it
closed_not : (X : Type 0) (b : Bool) (l : Line) → opening_in l ≡ None → request_of Local None l ≡ None → option_or (refuse_if (not b) refusal.NotOpen) (line_refusal None l) ≡ None → X
closed_not X true (line.Open remote) opens asks passes = absurd cc
closed_not X true _ opens asks passes = absurd cc
closed_not X false (line.Open remote) opens asks passes = absurd cc
closed_not X false _ opens asks passes = absurd cc

own_refused : (rules : Rules) (m now : Moment) (t : Turn) (at : ℕ) (c : Client) (o : Option OpenTransaction) (why : Refusal) → c.transaction ≡ o → IsNamed m t.client c → place_of_client t.client m.clients ≡ Some at → slice_get m.clients at ≡ Some c
    → end_in why ≡ None → opening_in t.line ≡ None → request_of c.standing (option_map (λ x. x.changes) o) t.line ≡ None
    → option_or (refuse_if (not (is_open_in m.machine.sessions c.session)) refusal.NotOpen) (line_refusal (option_map (λ x. x.changes) o) t.line) ≡ None
    → IsOwnLine m at c o t.line (answer.Refused why) now → IsRefusedFor rules m t why now
own_refused rules m now t at c None why begun named place there whole opens asks passes is = by_standing c.standing refl is
  where
    by_standing : (s : Standing) → c.standing ≡ s → IsOutside m at c s (answer.Refused why) now → IsRefusedFor rules m t why now
    by_standing Local stands is = closed_not (IsRefusedFor rules m t why now) (is_open_in m.machine.sessions c.session) t.line opens (ap (λ (s : Standing). request_of s None t.line) (sym stands) ∙ asks) passes
    by_standing (Linked known) stands is = begun_not is.0
      where
        begun_not : answer.Refused why ≡ answer.Begun known.front → IsRefusedFor rules m t why now
        begun_not e = absurd cc
own_refused rules m now t at c (Some o) why begun named place there whole opens asks passes is =
    within_refused rules m now t at c o t.line why refl named (record { at = at; client = c; place = place; there = there; begun = begun }) whole opens (behind_open (not (is_open_in m.machine.sessions c.session)) (line_refusal (Some o.changes) t.line) passes) asks is
  where
    behind_open : (b : Bool) (r : Option Refusal) → option_or (refuse_if b refusal.NotOpen) r ≡ None → r ≡ None
    behind_open true r free = absurd cc
    behind_open false r free = free

long_unless : (rules : Rules) (m now : Moment) (t : Turn) (at : ℕ) (c : Client) (d : Bool) (q : Request) (e : Option ℕ) (why : Refusal) → asking_excess c.standing q ≡ e → IsNamed m t.client c → request_of c.standing (changes_of c) t.line ≡ Some q → end_in why ≡ None
    → IsStepUnless rules m at c d q e (answer.Refused why) now → IsRefusedFor rules m t why now
long_unless rules m now t at c d q None why long named asks whole is = step_refused rules m now t at c d q why named asks whole is
long_unless rules m now t at c d q (Some n) why long named asks whole is = by_asking c q n named asks long (same_refusal why (refusal.TooLong n) is.0)

taken_refused : (rules : Rules) (m now : Moment) (t : Turn) (at : ℕ) (c : Client) (q : Option Request) (why : Refusal) → place_of_client t.client m.clients ≡ Some at → slice_get m.clients at ≡ Some c → end_in why ≡ None
    → opening_in t.line ≡ None → request_of c.standing (changes_of c) t.line ≡ q → connection_refusal m.machine c t.line ≡ None → IsLineTaken rules m at c t.line q (answer.Refused why) now → IsRefusedFor rules m t why now
taken_refused rules m now t at c (Some q) why place there whole opens asks passes is = long_unless rules m now t at c (is_delivery t.line) q (asking_excess c.standing q) why refl (record { at = at; place = place; there = there }) asks whole is
taken_refused rules m now t at c None why place there whole opens asks passes is =
    own_refused rules m now t at c c.transaction why refl (record { at = at; place = place; there = there }) place there whole opens asks passes is

unless_refused : (rules : Rules) (m now : Moment) (t : Turn) (at : ℕ) (c : Client) (r : Option Refusal) (why : Refusal) → place_of_client t.client m.clients ≡ Some at → slice_get m.clients at ≡ Some c → end_in why ≡ None
    → opening_in t.line ≡ None → connection_refusal m.machine c t.line ≡ r → IsLineUnless rules m at c t.line r (answer.Refused why) now → IsRefusedFor rules m t why now
unless_refused rules m now t at c (Some w) why place there whole opens passes is =
    by_connection c (record { at = at; place = place; there = there }) (passes ∙ ap (λ (x : Refusal). Some x) (sym (same_refusal why w is.0)))
unless_refused rules m now t at c None why place there whole opens passes is = taken_refused rules m now t at c (request_of c.standing (changes_of c) t.line) why place there whole opens refl passes is

line_of_refused : (rules : Rules) (m now : Moment) (t : Turn) (at : Option ℕ) (why : Refusal) → place_of_client t.client m.clients ≡ at → end_in why ≡ None → opening_in t.line ≡ None
    → IsLineOf rules m at t.line (answer.Refused why) now → IsRefusedFor rules m t why now
line_of_refused rules m now t None why place whole opens is = unnamed place (same_refusal why refusal.NotOpen is.0)
line_of_refused rules m now t (Some at) why place whole opens is = unless_refused rules m now t at is.0 (connection_refusal m.machine is.0 t.line) why place is.1 whole opens refl is.2

crowd : (rules : Rules) (m now : Moment) (t : Turn) (s : Standing) (why : Refusal) (b : Bool) → nat_lt (length m.machine.sessions) session_limit ≡ b → answer.Refused why ≡ (opened_if b m t.client s).answer → IsRefusedFor rules m t why now
crowd rules m now t s why true many is = absurd cc
crowd rules m now t s why false many is = crowded (ltb-false (length m.machine.sessions) 64 many) (same_refusal why (refusal.TooManySessions (length m.machine.sessions)) is)

-- a Front step behind an opening
front_refused : (rules : Rules) (m behind now : Moment) (t : Turn) (stamp : ℕ) (w : Refusal) (ticks : Bool) (o : StepOutcome) → opening_in t.line ≡ Some true → IsTold rules 1 (opened_far m t.client).moment (length m.machine.sessions) behind
    → end_in w ≡ None → outcome_of (reply.Refused w) ≡ o
    → EndsFor rules behind.machine (length m.machine.sessions) request.Front stamp (record { reply = reply.Refused w; machine = now.machine; ticks = ticks }) behind.counts now.counts o → IsRefusedFor rules m t w now
front_refused rules m behind now t stamp w ticks Answered opens told whole outcome ends = by_front behind stamp opens told (sym (ap (λ (s : Stepped). s.reply) ends))
front_refused rules m behind now t stamp w ticks ReadingFailed opens told whole outcome ends = absurd (never ends.0.one)
  where
    never : false ≡ true → ⊥
    never e = absurd cc
front_refused rules m behind now t stamp w ticks NoMemory opens told whole outcome ends = absurd (memory_ends w outcome whole)
front_refused rules m behind now t stamp w ticks StoreFailed opens told whole outcome ends = absurd (store_ends w outcome whole)

taken_in_refused : (rules : Rules) (m now : Moment) (t : Turn) (why : Refusal) → opening_in t.line ≡ Some true → end_in why ≡ None → nat_lt (length m.machine.sessions) session_limit ≡ true
    → IsOpeningAnswer rules (opened_far m t.client) (length m.machine.sessions) (answer.Refused why) now → IsRefusedFor rules m t why now
taken_in_refused rules m now t why opens whole room (as_opened is) = crowd rules m now t (Linked (view_of (server_of m.machine))) why (nat_lt (length m.machine.sessions) session_limit) refl is
taken_in_refused rules m now t why opens whole room (as_refused w is refused) =
    refused_same rules m t why w now is
    (λ goes. front_refused rules m refused.behind now t refused.step.stamp w refused.step.ticks (outcome_of (reply.Refused w)) opens refused.first goes refl refused.step.made.cause) whole

far_opening_refused : (rules : Rules) (m now : Moment) (t : Turn) (why : Refusal) (room : Bool) → opening_in t.line ≡ Some true → end_in why ≡ None → nat_lt (length m.machine.sessions) session_limit ≡ room
    → IsFarOpening rules m t.client room (answer.Refused why) now → IsRefusedFor rules m t why now
far_opening_refused rules m now t why true opens whole room is =
    taken_in_refused rules m now t why opens whole room
    (taken_answer rules m t.client (answer.Refused why) now is.between is.first is.second is.registers is.syncs (front_reply rules is.between (length m.machine.sessions) is.second now is.syncs) is.answer)
far_opening_refused rules m now t why false opens whole room is =
    crowd rules m now t (Linked (view_of (server_of m.machine))) why (nat_lt (length m.machine.sessions) session_limit) refl (ap (λ (o : Opening). o.answer) is)

line_refused : (rules : Rules) (m now : Moment) (t : Turn) (opens : Option Bool) (why : Refusal) → opening_in t.line ≡ opens → end_in why ≡ None → IsLineNamed opens rules m t.client t.line (answer.Refused why) now → IsRefusedFor rules m t why now
line_refused rules m now t (Some false) why opens whole is = crowd rules m now t Local why (nat_lt (length m.machine.sessions) session_limit) refl (ap (λ (o : Opening). o.answer) is)
line_refused rules m now t (Some true) why opens whole is = far_opening_refused rules m now t why (nat_lt (length m.machine.sessions) session_limit) opens whole refl is
line_refused rules m now t None why opens whole is = line_of_refused rules m now t (place_of_client t.client m.clients) why refl whole opens is

closed_later : (rules : Rules) (m now : Moment) (at : Option ℕ) → IsClosed rules m at now → m.counts.reads ≤ now.counts.reads
closed_later rules m now None is = omega (arith, ap (λ (x : Moment). x.counts.reads) is)
closed_later rules m now (Some at) is = omega (arith, is.1.2.made.later.reads)

closing_later : (rules : Rules) (m now : Moment) (name : List ℕ) (last : Bool) → IsClosing rules m name last now → m.counts.reads ≤ now.counts.reads
closing_later rules m now name false is = omega (arith, ap (λ (x : Moment). x.counts.reads) is)
closing_later rules m now name true is = closed_later rules m now (place_of_client name m.clients) is

pub refusals_caused : RefusalsHaveTheirCause
refusals_caused rules m t last why now is =
    later_refused rules m t why is.behind now (closing_later rules is.behind now t.client last is.closing) (line_refused rules m is.behind t (opening_in t.line) why refl is.whole is.line)
