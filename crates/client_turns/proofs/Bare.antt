-- What comes over a link for fronts, finishes and aborts is the reply as it is.
use Rattle.std.proofs.Common.{◌≡◌, ℕ, ◌+◌, ◌-◌, ◌≤◌, ◌^◌, Bool, true, false, not, List, [], ◌∷◌, ◌++◌, length, length-append, Option, Some, None, refl, sym, ap, subst, ◌∙◌, arith}
use Rattle.std.specs.Prelude.{codes}
use Rattle.std.specs.Option.{option_or}
use Rattle.std.proofs.lemmas.Bool.{le-leb}
use Rattle.zb_model.specs.declared.data.Transaction.{Transaction}
use Rattle.zb_model.specs.declared.refusal.Refusal.{Refusal}
use Rattle.zb_model.specs.declared.refusal.Refusal.TheVariants as refusal
use Rattle.zb_answers.specs.declared.answer.Answer.TheVariants as answer
use Rattle.zodb_core.specs.declared.reply.Reply.{Reply}
use Rattle.zodb_core.specs.declared.reply.Reply.TheVariants as reply
use Rattle.zodb_core.specs.declared.request.Request.{Request}
use Rattle.zodb_core.specs.declared.request.Request.TheVariants as request
use Rattle.zodb_core.specs.Machine.{Machine, MachineVote, Rules, holds_vote, is_open_in}
use Rattle.zodb_core.specs.Outcomes.{Answered, EndsFor, NoMemory, ReadingFailed, StepOutcome, StoreFailed, outcome_of, outcome_of_refusal}
use Rattle.zodb_core.specs.Steps.{Stepped, finish_gives, finish_step, front_step, refuse_if, replied, step_of, unless_early, without_vote}
use Rattle.zeo_frames.specs.declared.limit.TheConstants.{FRAME_LIMIT}
use Rattle.zeo_messages.specs.declared.answer.Answer.{Answer as FarAnswer}
use Rattle.zeo_messages.specs.declared.answer.Answer.TheVariants as answers
use Rattle.zeo_messages.specs.Answers.{value_of}
use Rattle.zeo_messages.specs.LengthLaws.{payload_length}
use Rattle.zeo_messages.specs.Messages.{payload_with}
use Rattle.zeo_values.specs.LengthLaws.{count_short, id_length, name_length, zero_length}
use Rattle.zeo_values.specs.Values.{count_text, id_text, name_text}
use Rattle.zeo_desk.specs.declared.asked.Asked.{Asked}
use Rattle.zeo_desk.specs.Answering.{counted_length, is_allowed, sent_answer}
use Rattle.hub_carrier.specs.declared.trouble.Trouble.TheVariants as trouble
use Rattle.hub_carrier.specs.Ends.{worse}
use Rattle.remote_loads.specs.Causes.{far_refusal}
use Rattle.remote_loads.specs.Talking.{IsWayLost}
use Rattle.client_turns.specs.Clients.{Moment}
use Rattle.client_turns.specs.Settling.{calm, settled}
use Rattle.client_turns.specs.Steps.{IsStepAt}

-- ---- answers that are sent as they are

pub sent_so : (a : Asked) (x : FarAnswer) → is_allowed x ≡ true → counted_length x ≤ FRAME_LIMIT → sent_answer a x ≡ x
sent_so a x allowed short = rw allowed (rw (le-leb (counted_length x) FRAME_LIMIT short) refl)

pub value_short : (kind value : List ℕ) → length kind ≤ 20 → length value ≤ 100 → length (payload_with (2 ^ 31 - 1) 0 kind value) ≤ FRAME_LIMIT
value_short kind value low short =
    let a = payload_length (2 ^ 31 - 1) 0 kind value in
    let b = count_short (2 ^ 31 - 1) in
    let c = zero_length in
    let d = name_length kind in
    omega (arith, a, b, c, d, low, short)

-- a refusal without fields
name_alone : (name : List ℕ) → length name ≤ 20 → length (name_text name ++ 0x85 ∷ []) ≤ 100
name_alone name short =
    let a = length-append (name_text name) (0x85 ∷ []) in
    let b = name_length name in
    omega (arith, a, b, short)

-- a refusal of a front, a finish or an abort in an open session, or in one that isn't
abbrev pub IsBare : Refusal → Type 0
IsBare refusal.NotOpen = Unit {0}
IsBare refusal.NotVoted = Unit {0}
IsBare refusal.ReadFault = Unit {0}
IsBare refusal.StoreFault = Unit {0}
IsBare refusal.Memory = Unit {0}
IsBare _ = ⊥

bare_named : (a : Asked) (why : Refusal) (name : List ℕ) → length name ≤ 20 → is_allowed (answers.Refused why) ≡ true → value_of (answers.Refused why) ≡ name_text name ++ 0x85 ∷ []
    → counted_length (answers.Refused why) ≡ length (payload_with (2 ^ 31 - 1) 0 (codes ".error") (value_of (answers.Refused why))) → sent_answer a (answers.Refused why) ≡ answers.Refused why
bare_named a why name short allowed value counted =
    sent_so a (answers.Refused why) allowed
    (subst (λ (n : ℕ). n ≤ FRAME_LIMIT) (sym counted) (value_short (codes ".error") (value_of (answers.Refused why)) (omega arith) (subst (λ (v : List ℕ). length v ≤ 100) (sym value) (name_alone name short))))

pub bare_sent : (a : Asked) (why : Refusal) → IsBare why → sent_answer a (answers.Refused why) ≡ answers.Refused why
bare_sent a refusal.NotOpen is = bare_named a refusal.NotOpen (codes "NotOpen") (omega arith) refl refl refl
bare_sent a refusal.NotVoted is = bare_named a refusal.NotVoted (codes "NotVoted") (omega arith) refl refl refl
bare_sent a refusal.ReadFault is = bare_named a refusal.ReadFault (codes "ReadFault") (omega arith) refl refl refl
bare_sent a refusal.StoreFault is = bare_named a refusal.StoreFault (codes "StoreFault") (omega arith) refl refl refl
bare_sent a refusal.Memory is = bare_named a refusal.Memory (codes "Memory") (omega arith) refl refl refl
bare_sent a _ is = absurd is

pub bare_far : (why : Refusal) → IsBare why → far_refusal why ≡ why
bare_far refusal.NotOpen is = refl
bare_far refusal.NotVoted is = refl
bare_far refusal.ReadFault is = refl
bare_far refusal.StoreFault is = refl
bare_far refusal.Memory is = refl
bare_far _ is = absurd is

pub done_sent : (a : Asked) → sent_answer a answers.Done ≡ answers.Done
done_sent a = sent_so a answers.Done refl (value_short (codes ".reply") (value_of answers.Done) (omega arith) (omega arith))

pub tid_sent : (a : Asked) (tid : ℕ) → sent_answer a (answers.OneTid tid) ≡ answers.OneTid tid
tid_sent a tid = sent_so a (answers.OneTid tid) refl (value_short (codes ".reply") (id_text tid) (omega arith) (let e = id_length tid in omega (arith, e)))

pub front_sent : (a : Asked) (tid count : ℕ) → sent_answer a (answers.TidAndCount tid count) ≡ answers.TidAndCount tid count
front_sent a tid count =
    let b = length-append (id_text tid) (count_text count ++ 0x86 ∷ []) in
    let c = length-append (count_text count) (0x86 ∷ []) in
    let d = id_length tid in
    let e = count_short count in
    sent_so a (answers.TidAndCount tid count) refl (value_short (codes ".reply") (id_text tid ++ (count_text count ++ 0x86 ∷ [])) (omega arith) (omega (arith, b, c, d, e)))

-- ---- replies

-- a reply that a front, a finish or an abort may get
abbrev pub EndReply : Request → Reply → Type 0
EndReply request.Front (reply.Front front news switches) = Unit {0}
EndReply request.Front (reply.Refused why) = IsBare why
EndReply request.Finish (reply.Committed tid) = Unit {0}
EndReply request.Finish reply.Empty = Unit {0}
EndReply request.Finish (reply.Refused why) = IsBare why
EndReply request.Abort reply.Aborted = Unit {0}
EndReply request.Abort (reply.Refused why) = IsBare why
EndReply _ _ = ⊥

abbrev pub IsEnd : Request → Type 0
IsEnd request.Front = Unit {0}
IsEnd request.Finish = Unit {0}
IsEnd request.Abort = Unit {0}
IsEnd _ = ⊥

end_refused : (q : Request) (why : Refusal) → IsEnd q → IsBare why → EndReply q (reply.Refused why)
end_refused request.Front why is bare = bare
end_refused request.Finish why is bare = bare
end_refused request.Abort why is bare = bare
end_refused _ why is bare = absurd is

-- where something failed, the refusal says it
pub bare_fault : (why : Refusal) → (outcome_of_refusal why ≡ Answered → ⊥) → IsBare why
bare_fault refusal.ReadFault failed = tt
bare_fault refusal.StoreFault failed = tt
bare_fault refusal.Memory failed = tt
bare_fault _ failed = absurd (failed refl)

pub fault_reply : (r : Reply) → (outcome_of r ≡ Answered → ⊥) → (why : Refusal) × (r ≡ reply.Refused why) × IsBare why
fault_reply (reply.Refused why) failed = (why, refl, bare_fault why failed)
fault_reply _ failed = absurd (failed refl)

fronts : (m : Machine) (n : ℕ) (b : Bool) → EndReply request.Front (unless_early (option_or (refuse_if (not b) refusal.NotOpen) None) m (front_step m n)).reply
fronts m n true = tt
fronts m n false = tt

aborts : (m : Machine) (n : ℕ) (b : Bool) → EndReply request.Abort (unless_early (option_or (refuse_if (not b) refusal.NotOpen) None) m (replied (without_vote m n) reply.Aborted)).reply
aborts m n true = tt
aborts m n false = tt

gives : (m : Machine) (n : ℕ) (writes : Option Transaction) → EndReply request.Finish (finish_gives m n writes).reply
gives m n None = tt
gives m n (Some t) = tt

finishes_so : (m : Machine) (n : ℕ) (vote : Option MachineVote) → EndReply request.Finish (finish_step m n vote).reply
finishes_so m n None = tt
finishes_so m n (Some v) = gives m n v.writes

finishes : (m : Machine) (n : ℕ) (b v : Bool) → EndReply request.Finish (unless_early (option_or (refuse_if (not b) refusal.NotOpen) (refuse_if (not v) refusal.NotVoted)) m (finish_step m n m.vote)).reply
finishes m n false v = tt
finishes m n true false = tt
finishes m n true true = finishes_so m n m.vote

step_ends : (rules : Rules) (m : Machine) (n stamp : ℕ) (q : Request) → IsEnd q → EndReply q (step_of rules m n q stamp).reply
step_ends rules m n stamp request.Front is = fronts m n (is_open_in m.sessions n)
step_ends rules m n stamp request.Finish is = finishes m n (is_open_in m.sessions n) (holds_vote n m.vote)
step_ends rules m n stamp request.Abort is = aborts m n (is_open_in m.sessions n)
step_ends rules m n stamp _ is = absurd is

pub end_reply : (rules : Rules) (m : Moment) (n : ℕ) (q : Request) (r : Reply) (now : Moment) → IsEnd q → IsStepAt rules m n q r now → EndReply q r
end_reply rules m n q r now is step = by_outcome (outcome_of r) refl step.made.cause
  where
    failed : (o : StepOutcome) → outcome_of r ≡ o → (o ≡ Answered → ⊥) → EndReply q r
    failed o said never =
        let f = fault_reply r (λ e. never (sym said ∙ e)) in
        subst (λ (x : Reply). EndReply q x) (sym f.1) (end_refused q f.0 is f.2)

    by_outcome : (o : StepOutcome) → outcome_of r ≡ o → EndsFor rules m.machine n q step.stamp (record { reply = r; machine = now.machine; ticks = step.ticks }) m.counts now.counts o → EndReply q r
    by_outcome Answered said ends = subst (λ (x : Reply). EndReply q x) (sym (ap (λ (s : Stepped). s.reply) ends)) (step_ends rules m.machine n step.stamp q is)
    by_outcome ReadingFailed said ends = failed ReadingFailed said (λ e. cc)
    by_outcome NoMemory said ends = failed NoMemory said (λ e. cc)
    by_outcome StoreFailed said ends = failed StoreFailed said (λ e. cc)

-- ---- what is answered

pub calm_lost : (r : Refusal) → IsWayLost r → calm r ≡ refusal.Memory
calm_lost refusal.LinkFault way = refl
calm_lost refusal.Closed way = refl
calm_lost refusal.Memory way = refl
calm_lost _ way = absurd way

-- a refusal that came back, and the fault that it says
pub settled_bare : (why : Refusal) → IsBare why → settled (answer.Refused why) (worse trouble.NoFault (outcome_of_refusal why)) ≡ answer.Refused why
settled_bare refusal.NotOpen is = refl
settled_bare refusal.NotVoted is = refl
settled_bare refusal.ReadFault is = refl
settled_bare refusal.StoreFault is = refl
settled_bare refusal.Memory is = refl
settled_bare _ is = absurd is

-- and one that was lost
pub settled_lost : (r why : Refusal) → IsWayLost r → (outcome_of_refusal why ≡ Answered → ⊥) → settled (answer.Refused r) (worse trouble.NoFault (outcome_of_refusal why)) ≡ answer.Refused why
settled_lost r refusal.ReadFault way failed = refl
settled_lost r refusal.StoreFault way failed = refl
settled_lost r refusal.Memory way failed = ap (λ (w : Refusal). answer.Refused w) (calm_lost r way)
settled_lost r _ way failed = absurd (failed refl)
