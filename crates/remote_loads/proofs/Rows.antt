-- What the replies to the requests of a remote client are.
use Rattle.std.proofs.Common.{◌≡◌, ℕ, ◌+◌, ◌-◌, ◌<◌, ◌^◌, Bool, true, false, cond, List, [], ◌∷◌, ◌++◌, Option, Some, None, Result, Ok, Err, refl, sym, ap, subst, ◌∙◌, arith}
use Rattle.std.specs.Prelude.{nat_lt, not, length}
use Rattle.std.proofs.lemmas.Bool.{lt-ltb, ltb-false}
use Rattle.zb_ids.specs.Tids.{tid_after}
use Rattle.zb_model.specs.declared.data.Change.{Change}
use Rattle.zb_model.specs.declared.found.Found.{Found}
use Rattle.zb_model.specs.declared.found.Found.TheVariants as found
use Rattle.zb_model.specs.declared.refusal.Refusal.{Refusal}
use Rattle.zb_model.specs.declared.refusal.Refusal.TheVariants as refusal
use Rattle.zb_model.specs.Database.{newest_tid}
use Rattle.zb_model.specs.Queries.{found_below}
use Rattle.commit_phases.specs.Decision.{vote_decision}
use Rattle.commit_phases.specs.Pending.{PendingChanges}
use Rattle.undo_records.specs.Undone.{undone_of}
use Rattle.zodb_core.specs.declared.reply.Reply.{Reply}
use Rattle.zodb_core.specs.declared.reply.Reply.TheVariants as reply
use Rattle.zodb_core.specs.declared.request.Request.{Request}
use Rattle.zodb_core.specs.declared.request.Request.TheVariants as request
use Rattle.zodb_core.specs.declared.texts.Texts.{Texts}
use Rattle.zodb_core.specs.Machine.{Machine, Rules, is_open_in}
use Rattle.zodb_core.specs.Outcomes.{Answered, EndsFor, FaultCounts, IsStepMade, NoMemory, ReadingFailed, StepOutcome, StoreFailed, outcome_of}
use Rattle.zodb_core.specs.StepCases.{allowed_request}
use Rattle.zodb_core.specs.Steps.{Stepped, changes_in_journal, changes_undone, early_refusal, journal_limit, loaded, refuse_if, request_step, unless_early, vote_step}
use Rattle.zeo_messages.specs.declared.call.Call.{Call}
use Rattle.zeo_messages.specs.declared.call.Call.TheVariants as calls
use Rattle.zeo_desk.specs.Answering.{asked_of, listed, number_alone, oids_from, reply_answer}
use Rattle.zeo_messages.specs.declared.answer.Answer.TheVariants as answers
use Rattle.zeo_client.specs.Rows.{answers_call}
use Rattle.remote_loads.specs.Carrying.{IsMachineStep}
use Rattle.remote_loads.specs.Sending.{notices_before}
use Rattle.remote_loads.proofs.Called.{HasRow}

-- ---- what a reply may be

unanswered_is : (P : Reply → Type 0) (r : Reply) → (outcome_of r ≡ Answered → ⊥) → ((why : Refusal) → P (reply.Refused why)) → P r
unanswered_is P (reply.Refused why) not refused = refused why
unanswered_is P _ not refused = absurd (not refl)

reading_not : ReadingFailed ≡ Answered → ⊥
reading_not is = absurd cc

memory_not : NoMemory ≡ Answered → ⊥
memory_not is = absurd cc

store_not : StoreFailed ≡ Answered → ⊥
store_not is = absurd cc

early_is : (P : Reply → Type 0) (early : Option Refusal) (m : Machine) (made : Stepped) → (early ≡ None → P made.reply) → ((why : Refusal) → P (reply.Refused why)) → P (unless_early early m made).reply
early_is P None m made answers refused = answers refl
early_is P (Some why) m made answers refused = refused why

-- a reply is a refusal, or what the machine says where nothing refuses the request at once
pub by_reply : (P : Reply → Type 0) (rules : Rules) (m : Machine) (n : ℕ) (q : Request) (stamp : ℕ) (made : Stepped) (counts behind : FaultCounts) → IsStepMade rules m n q stamp made counts behind
    → (early_refusal m n q ≡ None → P (request_step rules m n q stamp).reply) → ((why : Refusal) → P (reply.Refused why)) → P made.reply
by_reply P rules m n q stamp made counts behind step answers refused = by_outcome (outcome_of made.reply) refl step.cause
  where
    by_outcome : (o : StepOutcome) → outcome_of made.reply ≡ o → EndsFor rules m n q stamp made counts behind o → P made.reply
    by_outcome Answered is cause = subst (λ (s : Stepped). P s.reply) (sym cause) (early_is P (early_refusal m n q) m (request_step rules m n q stamp) answers refused)
    by_outcome ReadingFailed is cause = unanswered_is P made.reply (λ so. reading_not (sym is ∙ so)) refused
    by_outcome NoMemory is cause = unanswered_is P made.reply (λ so. memory_not (sym is ∙ so)) refused
    by_outcome StoreFailed is cause = unanswered_is P made.reply (λ so. store_not (sym is ∙ so)) refused

-- ---- rows

-- the reply of a step has its row
abbrev pub HasRows : Request → Call → Reply → Type 0
HasRows q call r = (notices_before r ≡ []) × (answers_call call (reply_answer (asked_of q) r) ≡ true)

pub row_of : (call : Call) (m : Machine) (n : ℕ) (q : Request) (r : Reply) (now : Machine) → ((rules : Rules) (stamp : ℕ) → early_refusal m n q ≡ None → HasRows q call (request_step rules m n q stamp).reply)
    → IsMachineStep m n q r now → HasRow q call r
row_of call m n q r now answers step =
    let rows = by_reply (HasRows q call) step.rules m n q step.stamp (record { reply = r; machine = step.left; ticks = step.ticks }) step.before step.after step.made (answers step.rules step.stamp) (λ why. (refl, refl)) in
    record { none = rows.0; row = rows.1 }

loaded_row : (m : Machine) (oid front : ℕ) (f : Found) → HasRows (request.LoadBefore oid front) (calls.LoadBefore oid front) (loaded m oid f)
loaded_row m oid front (found.Held serial bytes end) = (refl, refl)
loaded_row m oid front (found.Absent serial) = (refl, refl)
loaded_row m oid front found.Nothing = (refl, refl)

pub load_row : (m : Machine) (n oid front : ℕ) (r : Reply) (now : Machine) → IsMachineStep m n (request.LoadBefore oid front) r now → HasRow (request.LoadBefore oid front) (calls.LoadBefore oid front) r
load_row m n oid front r now step = row_of (calls.LoadBefore oid front) m n (request.LoadBefore oid front) r now (λ rules stamp none. loaded_row m oid front (found_below oid front m.list)) step

-- ---- numbers

left_none : (b : Bool) → refuse_if b refusal.OidsSpent ≡ None → b ≡ false
left_none false is = refl
left_none true is = absurd cc

alone : (first : ℕ) → first < 2 ^ 64 → listed answers.Oids ([] ++ number_alone first) ≡ answers.Oids (first ∷ [])
alone first low = rw (lt-ltb first (2 ^ 64) low) refl

none_more : (n : ℕ) → n + 0 ≡ n
none_more n = omega arith

pub one_oid : (first : ℕ) → first < 2 ^ 64 → listed answers.Oids (oids_from 1 first) ≡ answers.Oids (first ∷ [])
one_oid first low = ap (λ (x : ℕ). listed answers.Oids ([] ++ number_alone x)) (none_more first) ∙ alone first low

pub oid_row : (m : Machine) (n : ℕ) (r : Reply) (now : Machine) → IsMachineStep m n (request.NewOids 1) r now → HasRow (request.NewOids 1) (calls.NewOids 1) r
oid_row m n r now step = row_of (calls.NewOids 1) m n (request.NewOids 1) r now row step
  where
    row : (rules : Rules) (stamp : ℕ) → early_refusal m n (request.NewOids 1) ≡ None → HasRows (request.NewOids 1) (calls.NewOids 1) (request_step rules m n (request.NewOids 1) stamp).reply
    row rules stamp none =
        let free = left_none (nat_lt (2 ^ 64 - 1) (m.greatest + 1)) (allowed_request (not (is_open_in m.sessions n)) (refuse_if (nat_lt (2 ^ 64 - 1) (m.greatest + 1)) refusal.OidsSpent) none) in
        let low = ltb-false (2 ^ 64 - 1) (m.greatest + 1) free in
        (refl, ap (answers_call (calls.NewOids 1)) (one_oid (m.greatest + 1) (omega (arith, low))))

-- ---- votes and their ends

either_reply : (P : Reply → Type 0) (b : Bool) (x y : Stepped) → P x.reply → P y.reply → P (cond b x y).reply
either_reply P true x y one two = one
either_reply P false x y one two = two

vote_is : (P : Reply → Type 0) (m : Machine) (n : ℕ) (texts : Texts) (stamp : ℕ) (decided : Result (List Change) Refusal) → P reply.Voted → ((why : Refusal) → P (reply.Refused why)) → P (vote_step m n texts stamp decided).reply
vote_is P m n texts stamp (Err why) voted refused = refused why
vote_is P m n texts stamp (Ok []) voted refused = voted
vote_is P m n texts stamp (Ok (c ∷ changes)) voted refused =
    let count : ℕ = changes_in_journal m.journal + length (c ∷ changes) in
    either_reply P (nat_lt journal_limit count) _ _ (refused (refusal.JournalFull count))
    (either_reply P (nat_lt (tid_after (newest_tid m.list) stamp) (2 ^ 64 - 1)) _ _ voted (refused refusal.TidsSpent))

pub vote_row : (m : Machine) (n : ℕ) (user description extension : List ℕ) (pending : PendingChanges) (r : Reply) (now : Machine) → IsMachineStep m n (request.Vote user description extension pending) r now → HasRow (request.Vote user description extension pending) calls.Vote r
vote_row m n user description extension pending r now step = row_of calls.Vote m n (request.Vote user description extension pending) r now
    (λ rules stamp none.
    vote_is (HasRows (request.Vote user description extension pending) calls.Vote) m n (record { user = user; description = description; extension = extension }) stamp (vote_decision rules.merging m.list pending) (refl, refl) (λ why. (refl, refl))) step

pub undo_row : (m : Machine) (n : ℕ) (user description tids : List ℕ) (r : Reply) (now : Machine) → IsMachineStep m n (request.Undo user description tids) r now → HasRow (request.Undo user description tids) (calls.Undoa user description tids) r
undo_row m n user description tids r now step = row_of (calls.Undoa user description tids) m n (request.Undo user description tids) r now
    (λ rules stamp none.
    vote_is (HasRows (request.Undo user description tids) (calls.Undoa user description tids)) m n (record { user = user; description = description; extension = [] }) stamp (changes_undone m.list (undone_of rules.merging m.list tids)) (refl, refl) (λ why. (refl, refl))) step

pub abort_row : (m : Machine) (n : ℕ) (r : Reply) (now : Machine) → IsMachineStep m n request.Abort r now → HasRow request.Abort calls.TpcAbort r
abort_row m n r now step = row_of calls.TpcAbort m n request.Abort r now (λ rules stamp none. (refl, refl)) step
