-- What is told of the replies to questions.
use Rattle.std.proofs.Common.{◌≡◌, ℕ, ◌-◌, ◌≤◌, ◌^◌, Bool, true, false, not, cond, List, [], ◌∷◌, ◌++◌, Option, Some, None, Result, Ok, Err, length, length-append, refl, sym, ap, subst, ◌∙◌, arith}
use Rattle.std.specs.Prelude.{codes, drop, nat_eq, nat_le, take}
use Rattle.std.specs.List.{list_all}
use Rattle.std.specs.Option.{option_or}
use Rattle.std.proofs.lemmas.Bool.{le-leb}
use Rattle.zb_model.specs.declared.lists.LogLine.{LogLine}
use Rattle.zb_model.specs.declared.lists.Revision.{Revision}
use Rattle.zb_model.specs.declared.refusal.Refusal.{Refusal}
use Rattle.zb_model.specs.declared.refusal.Refusal.TheVariants as refusal
use Rattle.zb_model.specs.Database.{newest_tid}
use Rattle.zb_model.specs.Lists.{history_of, undo_log_of}
use Rattle.zb_model.specs.Packing.{packed_by}
use Rattle.zb_model.specs.Packs.{change_count}
use Rattle.zb_model.specs.Queries.{pack_point}
use Rattle.pack_reach.specs.Late.{overtaken}
use Rattle.pack_reach.specs.Packed.{packed, unread}
use Rattle.zodb_core.specs.declared.reply.Reply.{Reply}
use Rattle.zodb_core.specs.declared.reply.Reply.TheVariants as reply
use Rattle.zodb_core.specs.declared.request.Request.{Request}
use Rattle.zodb_core.specs.declared.request.Request.TheVariants as request
use Rattle.zodb_core.specs.Machine.{Machine, MachineVote, OpenPack, PackCopying, Rules, is_open_in}
use Rattle.zodb_core.specs.Outcomes.{Answered, EndsFor, FaultCounts, IsStepMade, NoMemory, ReadingFailed, StepOutcome, StoreFailed, outcome_of, outcome_of_refusal}
use Rattle.zodb_core.specs.Steps.{Stepped, busy_for_all, copy_step, copying_reply, early_refusal, marked_step, marks_on, pack_running, pack_tid, packed_already, refuse_if, request_refusal, request_step, switch_step, switched, switches_next, turn_of_copying, turn_refusal, turn_step, unless_early, unless_overtaken, unless_unread}
use Rattle.zeo_frames.specs.declared.limit.TheConstants.{FRAME_LIMIT}
use Rattle.zeo_messages.specs.declared.answer.Answer.{Answer}
use Rattle.zeo_messages.specs.declared.answer.Answer.TheVariants as answers
use Rattle.zeo_messages.specs.declared.answer.Stage.{Stage}
use Rattle.zeo_messages.specs.declared.answer.Stage.TheVariants as stages
use Rattle.zeo_messages.specs.Answers.{fits_line, fits_refusal, fits_revision, kind_of, refusal_text, stage_name, value_of}
use Rattle.zeo_messages.specs.LengthLaws.{payload_length}
use Rattle.zeo_values.specs.LengthLaws.{count_short, id_length, name_length, zero_length}
use Rattle.zeo_values.specs.Values.{count_text, id_text, name_text}
use Rattle.zeo_desk.specs.declared.asked.Asked.{Asked}
use Rattle.zeo_desk.specs.declared.asked.Asked.TheVariants as asked
use Rattle.zeo_desk.specs.Answering.{asked_of, counted_length, in_place_of, is_allowed, reply_answer, sent_answer, within_frame}
use Rattle.remote_loads.specs.Carrying.{IsMachineStep}
use Rattle.remote_loads.specs.Causes.{far_refusal}
use Rattle.remote_loads.specs.Requesting.{asks_history, empty_reply, is_question, past_limit, reply_in, reply_told, told_unless, turned_reply}
use Rattle.remote_loads.specs.Talking.{answer_given}

-- ---- short answers

kind_length : (answer : Answer) → length (kind_of answer) ≤ 6
kind_length (answers.Refused refusal) = omega arith
kind_length _ = omega arith

short_value : (answer : Answer) → length (value_of answer) ≤ 1000 → counted_length answer ≤ FRAME_LIMIT
short_value answer short =
    let a = payload_length (2 ^ 31 - 1) 0 (kind_of answer) (value_of answer) in
    let b = count_short (2 ^ 31 - 1) in
    let c = zero_length in
    let d = name_length (kind_of answer) in
    let e = kind_length answer in
    omega (arith, a, b, c, d, e, short)

-- an answer that its row allows, and that fits, is sent as it is
sent_same : (a : Asked) (answer : Answer) → is_allowed answer ≡ true → length (value_of answer) ≤ 1000 → sent_answer a answer ≡ answer
sent_same a answer row short =
    ap (λ (b : Bool). cond b (within_frame a answer (counted_length answer)) (answers.Refused refusal.BadMessage)) row
    ∙ ap (λ (b : Bool). cond b answer (in_place_of a (counted_length answer))) (le-leb (counted_length answer) FRAME_LIMIT (short_value answer short))

-- what is told of a reply, whatever was asked for
abbrev pub IsToldAs : Bool → Asked → Reply → Type 0
IsToldAs history a r = reply_in history (sent_answer a (reply_answer a r)) ≡ reply_told r

said_same : (history : Bool) (a : Asked) (answer : Answer) (r : Result Reply Refusal) → is_allowed answer ≡ true → length (value_of answer) ≤ 1000 → reply_in history answer ≡ r → reply_in history (sent_answer a answer) ≡ r
said_same history a answer r row short is = ap (reply_in history) (sent_same a answer row short) ∙ is

-- ---- refusals

-- one that is told as it is
pub record IsPlainly (why : Refusal) : Type 0 where
  pub fits : fits_refusal why ≡ true
  pub far : far_refusal why ≡ why
  pub short : length (refusal_text why) ≤ 1000

none_short : (name : List ℕ) → length name ≤ 20 → length (name_text name ++ 0x85 ∷ []) ≤ 1000
none_short name short =
    let a = length-append (name_text name) (0x85 ∷ []) in
    let b = name_length name in
    omega (arith, a, b, short)

one_short : (name text : List ℕ) → length name ≤ 20 → length text ≤ 11 → length (name_text name ++ (text ++ 0x86 ∷ [])) ≤ 1000
one_short name text short few =
    let a = length-append (name_text name) (text ++ 0x86 ∷ []) in
    let b = length-append text (0x86 ∷ []) in
    let c = name_length name in
    omega (arith, a, b, c, short, few)

two_short : (name one other : List ℕ) → length name ≤ 20 → length one ≤ 11 → length other ≤ 11 → length (name_text name ++ (one ++ (other ++ 0x87 ∷ []))) ≤ 1000
two_short name one other short few less =
    let a = length-append (name_text name) (one ++ (other ++ 0x87 ∷ [])) in
    let b = length-append one (other ++ 0x87 ∷ []) in
    let c = length-append other (0x87 ∷ []) in
    let d = name_length name in
    omega (arith, a, b, c, d, short, few, less)

id_short : (n : ℕ) → length (id_text n) ≤ 11
id_short n = let a = id_length n in omega (arith, a)

not_open : IsPlainly refusal.NotOpen
not_open = record { fits = refl; far = refl; short = none_short (codes "NotOpen") (omega arith) }

no_pack : IsPlainly refusal.NoPack
no_pack = record { fits = refl; far = refl; short = none_short (codes "NoPack") (omega arith) }

read_fault : IsPlainly refusal.ReadFault
read_fault = record { fits = refl; far = refl; short = none_short (codes "ReadFault") (omega arith) }

no_memory : IsPlainly refusal.Memory
no_memory = record { fits = refl; far = refl; short = none_short (codes "Memory") (omega arith) }

store_fault : IsPlainly refusal.StoreFault
store_fault = record { fits = refl; far = refl; short = none_short (codes "StoreFault") (omega arith) }

busy : (n : ℕ) → IsPlainly (refusal.Busy n)
busy n = record { fits = refl; far = refl; short = one_short (codes "Busy") (count_text n) (omega arith) (count_short n) }

running : (n : ℕ) → IsPlainly (refusal.PackRunning n)
running n = record { fits = refl; far = refl; short = one_short (codes "PackRunning") (count_text n) (omega arith) (count_short n) }

already : (n : ℕ) → IsPlainly (refusal.PackedAlready n)
already n = record { fits = refl; far = refl; short = one_short (codes "PackedAlready") (id_text n) (omega arith) (id_short n) }

unreadable : (oid tid : ℕ) → IsPlainly (refusal.Unreadable oid tid)
unreadable oid tid = record { fits = refl; far = refl; short = two_short (codes "Unreadable") (id_text oid) (id_text tid) (omega arith) (id_short oid) (id_short tid) }

overtakes : (oid tid : ℕ) → IsPlainly (refusal.Overtaken oid tid)
overtakes oid tid = record { fits = refl; far = refl; short = two_short (codes "Overtaken") (id_text oid) (id_text tid) (omega arith) (id_short oid) (id_short tid) }

refused_told : (history : Bool) (a : Asked) (why : Refusal) → IsPlainly why → IsToldAs history a (reply.Refused why)
refused_told history a why plain = said_same history a (answers.Refused why) (Err why) plain.fits plain.short (ap (λ (r : Refusal). Err r) plain.far)

-- ---- replies

tid_told : (history : Bool) (a : Asked) (tid : ℕ) → IsToldAs history a (reply.Packing tid)
tid_told history a tid = let x = id_length tid in said_same history a (answers.OneTid tid) (Ok (reply.Packing tid)) refl (omega (arith, x)) refl

pair_short : (one other : List ℕ) → length one ≤ 11 → length other ≤ 11 → length (one ++ (other ++ 0x86 ∷ [])) ≤ 1000
pair_short one other few less =
    let a = length-append one (other ++ 0x86 ∷ []) in
    let b = length-append other (0x86 ∷ []) in
    omega (arith, a, b, few, less)

last_told : (history : Bool) (a : Asked) (tid count : ℕ) → IsToldAs history a (reply.Last tid count)
last_told history a tid count = said_same history a (answers.TidAndCount tid count) (Ok (reply.Last tid count)) refl (pair_short (id_text tid) (count_text count) (id_short tid) (count_short count)) refl

stage_length : (stage : Stage) → length (stage_name stage) ≤ 20
stage_length stages.Marking = omega arith
stage_length stages.Marked = omega arith
stage_length stages.Copying = omega arith
stage_length stages.Copied = omega arith

turn_told : (history : Bool) (a : Asked) (stage : Stage) (count : ℕ) → reply_in history (sent_answer a (answers.Turned stage count)) ≡ Ok (turned_reply stage count)
turn_told history a stage count =
    said_same history a (answers.Turned stage count) (Ok (turned_reply stage count)) refl (one_short (stage_name stage) (count_text count) (stage_length stage) (count_short count)) refl

turn_said : (history : Bool) (a : Asked) (stage : Stage) (count : ℕ) → IsToldAs history a (turned_reply stage count)
turn_said history a stages.Marking count = turn_told history a stages.Marking count
turn_said history a stages.Marked count = turn_told history a stages.Marked count
turn_said history a stages.Copying count = turn_told history a stages.Copying count
turn_said history a stages.Copied count = turn_told history a stages.Copied count

-- a pack that is over
packed_told : (history : Bool) (a : Asked) (kept dropped : ℕ) → reply_in history (sent_answer a (answers.Packed kept dropped)) ≡ Ok (reply.Packed kept dropped)
packed_told history a kept dropped =
    said_same history a (answers.Packed kept dropped) (Ok (reply.Packed kept dropped)) refl (pair_short (count_text kept) (count_text dropped) (count_short kept) (count_short dropped)) refl

over_told : (history : Bool) (a : Asked) (kept dropped : ℕ) → IsToldAs history a (reply.Packed kept dropped)
over_told history asked.PackTurn kept dropped =
    said_same history asked.PackTurn (answers.Switched kept dropped) (Ok (reply.Packed kept dropped)) refl
    (two_short (codes "packed") (count_text kept) (count_text dropped) (omega arith) (count_short kept) (count_short dropped)) refl
over_told history asked.Register kept dropped = packed_told history asked.Register kept dropped
over_told history asked.Finish kept dropped = packed_told history asked.Finish kept dropped
over_told history (asked.NewsBehind tid) kept dropped = packed_told history (asked.NewsBehind tid) kept dropped
over_told history asked.Since kept dropped = packed_told history asked.Since kept dropped
over_told history asked.Other kept dropped = packed_told history asked.Other kept dropped

-- a list is told where it can be
list_told : (history : Bool) (answer : Answer) (r : Reply) (allowed fits : Bool) (n : ℕ) → reply_in history answer ≡ Ok r
    → reply_in history (cond allowed (cond fits answer (answers.Refused (refusal.TooLong n))) (answers.Refused refusal.BadMessage))
    ≡ told_unless (cond allowed (cond fits None (Some (refusal.TooLong n))) (Some refusal.BadMessage)) r
list_told history answer r true true n is = is
list_told history answer r true false n is = refl
list_told history answer r false fits n is = refl

empty_short : counted_length answers.EmptyList ≤ FRAME_LIMIT
empty_short = short_value answers.EmptyList (omega arith)

empty_told : (history : Bool) (r : Reply) → empty_reply history ≡ r → reply_in history (sent_answer asked.Other answers.EmptyList) ≡ told_unless (past_limit (counted_length answers.EmptyList)) r
empty_told history r is =
    said_same history asked.Other answers.EmptyList (Ok r) refl (omega arith) (ap (λ (k : Reply). Ok k) is)
    ∙ ap (λ (b : Bool). told_unless (cond b None (Some (refusal.TooLong (counted_length answers.EmptyList)))) r) (sym (le-leb (counted_length answers.EmptyList) FRAME_LIMIT empty_short))

history_told : (list : List Revision) → IsToldAs true asked.Other (reply.History list)
history_told [] = empty_told true (reply.History []) refl
history_told (x ∷ list) =
    list_told true (answers.Revisions (x ∷ list)) (reply.History (x ∷ list)) (list_all fits_revision (x ∷ list)) (nat_le (counted_length (answers.Revisions (x ∷ list))) FRAME_LIMIT)
    (counted_length (answers.Revisions (x ∷ list))) refl

log_told : (list : List LogLine) → IsToldAs false asked.Other (reply.UndoLog list)
log_told [] = empty_told false (reply.UndoLog []) refl
log_told (x ∷ list) =
    list_told false (answers.LogLines (x ∷ list)) (reply.UndoLog (x ∷ list)) (list_all fits_line (x ∷ list)) (nat_le (counted_length (answers.LogLines (x ∷ list))) FRAME_LIMIT)
    (counted_length (answers.LogLines (x ∷ list))) refl

-- ---- what a step of the machine replies

abbrev PlainIfSome : Option Refusal → Type 0
PlainIfSome None = Unit {0}
PlainIfSome (Some r) = IsPlainly r

plain_or : (a b : Option Refusal) → PlainIfSome a → PlainIfSome b → PlainIfSome (option_or a b)
plain_or None b one two = two
plain_or (Some r) b one two = one

plain_if : (b : Bool) (r : Refusal) → IsPlainly r → PlainIfSome (refuse_if b r)
plain_if true r is = is
plain_if false r is = tt

plain_pack : (pack : Option OpenPack) → PlainIfSome (pack_running pack)
plain_pack None = tt
plain_pack (Some p) = running p.session

plain_vote : (vote : Option MachineVote) → PlainIfSome (busy_for_all vote)
plain_vote None = tt
plain_vote (Some v) = busy v.session

plain_already : (t point : ℕ) → PlainIfSome (packed_already t point)
plain_already t point = plain_if (nat_le t point) (refusal.PackedAlready point) (already point)

plain_switch : (b : Bool) (vote : Option MachineVote) → PlainIfSome (cond b (busy_for_all vote) None)
plain_switch true vote = plain_vote vote
plain_switch false vote = tt

plain_turn : (m : Machine) (n : ℕ) (pack : Option OpenPack) → PlainIfSome (turn_refusal m n pack)
plain_turn m n None = no_pack
plain_turn m n (Some p) =
    plain_or (refuse_if (not (nat_eq p.session n)) (refusal.PackRunning p.session)) (cond (switches_next p) (busy_for_all m.vote) None)
    (plain_if (not (nat_eq p.session n)) (refusal.PackRunning p.session) (running p.session)) (plain_switch (switches_next p) m.vote)

plain_request : (m : Machine) (n : ℕ) (q : Request) → is_question q ≡ true → PlainIfSome (request_refusal m n q)
plain_request m n (request.History oid) is = tt
plain_request m n request.UndoLog is = tt
plain_request m n request.Last is = tt
plain_request m n (request.Pack tid collect) is =
    plain_or (pack_running m.pack) (option_or (busy_for_all m.vote) (packed_already (pack_tid tid m.list) (pack_point m.list))) (plain_pack m.pack)
    (plain_or (busy_for_all m.vote) (packed_already (pack_tid tid m.list) (pack_point m.list)) (plain_vote m.vote) (plain_already (pack_tid tid m.list) (pack_point m.list)))
plain_request m n (request.PackBegin tid collect) is =
    plain_or (pack_running m.pack) (packed_already (pack_tid tid m.list) (pack_point m.list)) (plain_pack m.pack) (plain_already (pack_tid tid m.list) (pack_point m.list))
plain_request m n request.PackTurn is = plain_turn m n m.pack
plain_request m n request.Front is = tt
plain_request m n (request.LoadBefore oid front) is = tt
plain_request m n (request.NewOids count) is = absurd cc
plain_request m n (request.Vote user description extension pending) is = absurd cc
plain_request m n (request.Undo user description tids) is = absurd cc
plain_request m n request.Finish is = absurd cc
plain_request m n request.Abort is = tt
plain_request m n (request.Since tid changes) is = tt
plain_request m n request.Close is = tt

plain_early : (m : Machine) (n : ℕ) (q : Request) → is_question q ≡ true → PlainIfSome (early_refusal m n q)
plain_early m n q is =
    plain_or (refuse_if (not (is_open_in m.sessions n)) refusal.NotOpen) (request_refusal m n q) (plain_if (not (is_open_in m.sessions n)) refusal.NotOpen not_open) (plain_request m n q is)

-- a refusal that says that something failed
plain_failing : (why : Refusal) → (outcome_of_refusal why ≡ Answered → ⊥) → IsPlainly why
plain_failing refusal.ReadFault not_answered = read_fault
plain_failing refusal.Memory not_answered = no_memory
plain_failing refusal.StoreFault not_answered = store_fault
plain_failing _ not_answered = absurd (not_answered refl)

reading_not : ReadingFailed ≡ Answered → ⊥
reading_not is = absurd cc

memory_not : NoMemory ≡ Answered → ⊥
memory_not is = absurd cc

store_not : StoreFailed ≡ Answered → ⊥
store_not is = absurd cc

module _ (P : Reply → Type 0) (refused : (why : Refusal) → IsPlainly why → P (reply.Refused why)) where
  failing : (r : Reply) → (outcome_of r ≡ Answered → ⊥) → P r
  failing (reply.Refused why) not_answered = refused why (plain_failing why not_answered)
  failing _ not_answered = absurd (not_answered refl)

  unless_refused : (early : Option Refusal) (m : Machine) (made : Stepped) → PlainIfSome early → P made.reply → P (unless_early early m made).reply
  unless_refused None m made plain answers = answers
  unless_refused (Some why) m made plain answers = refused why plain

  unless_lost : (m : Machine) (w : Option (ℕ × ℕ)) (next : Stepped) → P next.reply → P (unless_unread m w next).reply
  unless_lost m (Some w) next answers = refused (refusal.Unreadable w.0 w.1) (unreadable w.0 w.1)
  unless_lost m None next answers = answers

  unless_late : (m : Machine) (w : Option (ℕ × ℕ)) (next : Stepped) → P next.reply → P (unless_overtaken m w next).reply
  unless_late m (Some w) next answers = refused (refusal.Overtaken w.0 w.1) (overtakes w.0 w.1)
  unless_late m None next answers = answers

  either_so : (b : Bool) (one other : Stepped) → P one.reply → P other.reply → P (cond b one other).reply
  either_so true one other yes_so no_so = yes_so
  either_so false one other yes_so no_so = no_so

  by_question : (rules : Rules) (m : Machine) (n : ℕ) (q : Request) (stamp : ℕ) (made : Stepped) (counts behind : FaultCounts) → is_question q ≡ true → IsStepMade rules m n q stamp made counts behind
      → P (request_step rules m n q stamp).reply → P made.reply
  by_question rules m n q stamp made counts behind is step answers = by_outcome (outcome_of made.reply) refl step.cause
    where
      by_outcome : (o : StepOutcome) → outcome_of made.reply ≡ o → EndsFor rules m n q stamp made counts behind o → P made.reply
      by_outcome Answered same cause = subst (λ (s : Stepped). P s.reply) (sym cause) (unless_refused (early_refusal m n q) m (request_step rules m n q stamp) (plain_early m n q is) answers)
      by_outcome ReadingFailed same cause = failing made.reply (λ so. reading_not (sym same ∙ so))
      by_outcome NoMemory same cause = failing made.reply (λ so. memory_not (sym same ∙ so))
      by_outcome StoreFailed same cause = failing made.reply (λ so. store_not (sym same ∙ so))

-- a turn of a pack
module _ (P : Reply → Type 0) (refused : (why : Refusal) → IsPlainly why → P (reply.Refused why)) (turned : (stage : Stage) (count : ℕ) → P (turned_reply stage count)) (over : (kept dropped : ℕ) → P (reply.Packed kept dropped)) where
  copied_so : (whole : Bool) (count : ℕ) → P (copying_reply whole count)
  copied_so true count = turned stages.Copied count
  copied_so false count = turned stages.Copying count

  turns_so : (named : List ℕ → Option (List ℕ)) (m : Machine) (p : OpenPack) (copying : Option PackCopying) → P (turn_of_copying named m p copying).reply
  turns_so named m p None =
      either_so P refused (marks_on p.collects named p.tid m.list p.marked) _ _ (turned stages.Marking _)
      (unless_lost P refused m (unread p.collects named p.tid m.list) (marked_step named m p) (turned stages.Marked _))
  turns_so named m p (Some k) =
      either_so P refused k.is_whole (switch_step named m p k) (copy_step m p k (packed_by p.tid k.kept m.list))
      (unless_lost P refused m (unread p.collects named p.tid m.list) _ (unless_late P refused m (overtaken p.collects named k.kept p.tid (take k.began m.list) (drop k.began m.list)) _ (over _ _)))
      (copied_so _ _)

  pub turn_so : (named : List ℕ → Option (List ℕ)) (m : Machine) (pack : Option OpenPack) → P (turn_step named m pack).reply
  turn_so named m None = refused refusal.NoPack no_pack
  turn_so named m (Some p) = turns_so named m p p.copying

  pub pack_so : (named : List ℕ → Option (List ℕ)) (m : Machine) (t : ℕ) (collects : Bool) → P (unless_unread m (unread collects named t m.list) (switched m t (packed collects named t m.list))).reply
  pack_so named m t collects = unless_lost P refused m (unread collects named t m.list) (switched m t (packed collects named t m.list)) (over _ _)

-- what is told of a reply of the machine
pub question_answered : (m : Machine) (n : ℕ) (q : Request) (r : Reply) (now : Machine) → is_question q ≡ true → IsMachineStep m n q r now → reply_in (asks_history q) (answer_given q r) ≡ reply_told r
question_answered m n q r now is step =
    by_question (IsToldAs (asks_history q) (asked_of q)) (refused_told (asks_history q) (asked_of q)) step.rules m n q step.stamp (record { reply = r; machine = step.left; ticks = step.ticks }) step.before step.after is step.made
    (by_request q is)
  where
    by_request : (k : Request) → is_question k ≡ true → IsToldAs (asks_history k) (asked_of k) (request_step step.rules m n k step.stamp).reply
    by_request (request.History oid) is = history_told (history_of oid m.list)
    by_request request.UndoLog is = log_told (undo_log_of m.list)
    by_request request.Last is = last_told false asked.Other (newest_tid m.list) (change_count m.list)
    by_request (request.Pack tid collect) is =
        pack_so (IsToldAs false asked.Other) (refused_told false asked.Other) (turn_said false asked.Other) (over_told false asked.Other) step.rules.named m (pack_tid tid m.list) collect
    by_request (request.PackBegin tid collect) is = tid_told false asked.Other (pack_tid tid m.list)
    by_request request.PackTurn is = turn_so (IsToldAs false asked.PackTurn) (refused_told false asked.PackTurn) (turn_said false asked.PackTurn) (over_told false asked.PackTurn) step.rules.named m m.pack
    by_request request.Front is = absurd cc
    by_request (request.LoadBefore oid front) is = absurd cc
    by_request (request.NewOids count) is = absurd cc
    by_request (request.Vote user description extension pending) is = absurd cc
    by_request (request.Undo user description tids) is = absurd cc
    by_request request.Finish is = absurd cc
    by_request request.Abort is = absurd cc
    by_request (request.Since tid changes) is = absurd cc
    by_request request.Close is = absurd cc
