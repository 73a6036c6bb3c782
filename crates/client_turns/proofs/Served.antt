-- Which replies a request may get, and that no refusal of the machine is one of a connection's own.
use Rattle.std.proofs.Common.{◌≡◌, ℕ, Bool, true, false, cond, List, [], ◌∷◌, length, nat_lt, Option, Some, None, Result, Ok, Err, ◌+◌, ◌^◌, ◌-◌, refl, sym, subst, ◌∙◌}
use Rattle.zb_ids.specs.Tids.{tid_after}
use Rattle.zb_model.specs.declared.data.Change.{Change}
use Rattle.zb_model.specs.declared.data.Content.TheVariants.{Held, Absent}
use Rattle.zb_model.specs.declared.data.Transaction.{Transaction}
use Rattle.zb_model.specs.declared.found.Found.{Found}
use Rattle.zb_model.specs.declared.found.Found.TheVariants as found
use Rattle.zb_model.specs.declared.refusal.Refusal.{Refusal}
use Rattle.zb_model.specs.declared.refusal.Refusal.TheVariants as refusal
use Rattle.zb_model.specs.Database.{newest_tid}
use Rattle.zb_model.specs.Queries.{found_below}
use Rattle.commit_phases.specs.Decision.{vote_decision}
use Rattle.undo_records.specs.Undone.{undone_of}
use Rattle.pack_reach.specs.Packed.{packed, unread}
use Rattle.zodb_core.specs.declared.reply.Reply.{Reply}
use Rattle.zodb_core.specs.declared.reply.Reply.TheVariants as reply
use Rattle.zodb_core.specs.declared.request.Request.{Request}
use Rattle.zodb_core.specs.declared.request.Request.TheVariants as request
use Rattle.zodb_core.specs.declared.texts.Texts.{Texts}
use Rattle.zodb_core.specs.Machine.{Machine, MachineVote, Rules}
use Rattle.zodb_core.specs.Outcomes.{Answered, EndsFor, FaultCounts, NoMemory, ReadingFailed, StepOutcome, StoreFailed, outcome_of, outcome_of_refusal}
use Rattle.zodb_core.specs.Steps.{Stepped, changes_in_journal, changes_undone, early_refusal, finish_gives, finish_step, journal_limit, loaded, pack_tid, replied_refusal, request_step, step_of, switched, transaction_with, unless_early, vote_at, vote_counted, vote_step, with_vote}
use Rattle.local_loads.specs.Answers.{server_refusal}
use Rattle.local_loads.specs.RefusalLaws.{TurnReplies, IsServerReply, by_turn, by_unread, step_served, server_refusal_is}
use Rattle.client_turns.specs.Clients.{Moment}
use Rattle.client_turns.specs.Steps.{IsStepAt}

-- ---- refusals of the machine

-- a refusal that is handed on
abbrev pub IsHandedOn : Refusal → Type 0
IsHandedOn r = server_refusal r ≡ r

-- ---- replies

-- a reply that a request may get, or any refusal
abbrev Suits : Reply → Request → Type 0
Suits (reply.Refused why) q = Unit {0}
Suits (reply.Front front news switches) request.Front = Unit {0}
Suits (reply.Loaded serial bytes end upto) (request.LoadBefore oid front) = Unit {0}
Suits (reply.Nothing o switches) (request.LoadBefore oid front) = Unit {0}
Suits (reply.Oids first n) (request.NewOids count) = Unit {0}
Suits reply.Voted (request.Vote user description extension pending) = Unit {0}
Suits reply.Voted (request.Undo user description tids) = Unit {0}
Suits (reply.Committed tid) request.Finish = Unit {0}
Suits reply.Empty request.Finish = Unit {0}
Suits reply.Aborted request.Abort = Unit {0}
Suits (reply.History list) (request.History oid) = Unit {0}
Suits (reply.UndoLog list) request.UndoLog = Unit {0}
Suits (reply.Packed kept dropped) (request.Pack tid collects) = Unit {0}
Suits (reply.Packing t) (request.PackBegin tid collects) = Unit {0}
Suits (reply.Marking count) request.PackTurn = Unit {0}
Suits (reply.Marked count) request.PackTurn = Unit {0}
Suits (reply.Copying count) request.PackTurn = Unit {0}
Suits (reply.Copied count) request.PackTurn = Unit {0}
Suits (reply.Packed kept dropped) request.PackTurn = Unit {0}
Suits (reply.Last newest count) request.Last = Unit {0}
Suits (reply.Since keep commits) (request.Since tid changes) = Unit {0}
Suits reply.Closed request.Close = Unit {0}
Suits _ _ = ⊥

-- a reply that a request may get
abbrev pub Fits : Reply → Request → Type 0
Fits (reply.Refused why) q = IsHandedOn why
Fits r q = Suits r q

fits_of : (r : Reply) (q : Request) → IsServerReply r → Suits r q → Fits r q
fits_of (reply.Refused why) q served suits = server_refusal_is why served
fits_of _ q served suits = suits

-- of a request by which something is voted
abbrev SuitsVote : Reply → Type 0
SuitsVote r = (q : Request) → Suits reply.Voted q → Suits r q

at_suits : (m : Machine) (n : ℕ) (texts : Texts) (changes : List Change) (tid : ℕ) → SuitsVote (vote_at m n texts changes tid).reply
at_suits m n texts changes tid = by_cases (nat_lt tid (2 ^ 64 - 1))
  where
    by_cases : (b : Bool) → SuitsVote (cond b (let s : Stepped = record { reply = reply.Voted; machine = with_vote m n (Some (transaction_with tid texts changes)); ticks = true } in s) (record { reply = reply.Refused refusal.TidsSpent; machine = m; ticks = true })).reply
    by_cases true = λ q voted. voted
    by_cases false = λ q voted. tt

counted_suits : (m : Machine) (n : ℕ) (texts : Texts) (changes : List Change) (stamp count : ℕ) → SuitsVote (vote_counted m n texts changes stamp count).reply
counted_suits m n texts changes stamp count = by_cases (nat_lt journal_limit count) (at_suits m n texts changes (tid_after (newest_tid m.list) stamp))
  where
    by_cases : (b : Bool) → SuitsVote (vote_at m n texts changes (tid_after (newest_tid m.list) stamp)).reply
        → SuitsVote (cond b (replied_refusal m (refusal.JournalFull count)) (vote_at m n texts changes (tid_after (newest_tid m.list) stamp))).reply
    by_cases true rest = λ q voted. tt
    by_cases false rest = rest

vote_suits : (m : Machine) (n : ℕ) (texts : Texts) (stamp : ℕ) (decided : Result (List Change) Refusal) → SuitsVote (vote_step m n texts stamp decided).reply
vote_suits m n texts stamp (Err r) = λ q voted. tt
vote_suits m n texts stamp (Ok []) = λ q voted. voted
vote_suits m n texts stamp (Ok (c ∷ changes)) = counted_suits m n texts (c ∷ changes) stamp (changes_in_journal m.journal + length (c ∷ changes))

found_suits : (m : Machine) (oid front : ℕ) (f : Found) → Suits (loaded m oid f) (request.LoadBefore oid front)
found_suits m oid front (found.Held serial bytes end) = tt
found_suits m oid front (found.Absent serial) = tt
found_suits m oid front found.Nothing = tt

gives_suits : (m : Machine) (n : ℕ) (w : Option Transaction) → Suits (finish_gives m n w).reply request.Finish
gives_suits m n None = tt
gives_suits m n (Some t) = tt

finish_suits : (m : Machine) (n : ℕ) (vote : Option MachineVote) → Suits (finish_step m n vote).reply request.Finish
finish_suits m n None = tt
finish_suits m n (Some v) = gives_suits m n v.writes

turns_suit : TurnReplies (λ r. Suits r request.PackTurn)
turns_suit = record {
  none = tt;
  unread = λ oid tid. tt;
  late = λ oid tid. tt;
  marking = λ count. tt;
  marked = λ count. tt;
  copying = λ count. tt;
  copied = λ count. tt;
  switched = λ kept dropped. tt;
}

request_suits : (rules : Rules) (m : Machine) (n : ℕ) (q : Request) (stamp : ℕ) → Suits (request_step rules m n q stamp).reply q
request_suits rules m n (request.LoadBefore oid front) stamp = found_suits m oid front (found_below oid front m.list)
request_suits rules m n (request.Vote user description extension pending) stamp =
    vote_suits m n (record { user = user; description = description; extension = extension }) stamp (vote_decision rules.merging m.list pending) (request.Vote user description extension pending) tt
request_suits rules m n (request.Undo user description tids) stamp =
    vote_suits m n (record { user = user; description = description; extension = [] }) stamp (changes_undone m.list (undone_of rules.merging m.list tids)) (request.Undo user description tids) tt
request_suits rules m n request.Finish stamp = finish_suits m n m.vote
request_suits rules m n (request.Pack tid collects) stamp =
    let t = pack_tid tid m.list in
    by_unread (λ r. Suits r (request.Pack tid collects)) m (unread collects rules.named t m.list) (switched m t (packed collects rules.named t m.list)) (λ oid at. tt) tt
request_suits rules m n request.PackTurn stamp = by_turn (λ r. Suits r request.PackTurn) rules.named m m.pack turns_suit
request_suits rules m n _ stamp = tt

unless_suits : (early : Option Refusal) (m : Machine) (made : Stepped) (q : Request) → Suits made.reply q → Suits (unless_early early m made).reply q
unless_suits None m made q suits = suits
unless_suits (Some r) m made q suits = tt

step_fits : (rules : Rules) (m : Machine) (n : ℕ) (q : Request) (stamp : ℕ) → Fits (step_of rules m n q stamp).reply q
step_fits rules m n q stamp =
    fits_of (step_of rules m n q stamp).reply q (step_served rules m n q stamp) (unless_suits (early_refusal m n q) m (request_step rules m n q stamp) q (request_suits rules m n q stamp))

-- a step that wasn't answered as the machine says is refused for a fault, or for want of memory
fault_on : (why : Refusal) → (outcome_of_refusal why ≡ Answered → ⊥) → IsHandedOn why
fault_on refusal.ReadFault failed = refl
fault_on refusal.Memory failed = refl
fault_on refusal.StoreFault failed = refl
fault_on _ failed = absurd (failed refl)

fault_fits : (r : Reply) (q : Request) → (outcome_of r ≡ Answered → ⊥) → Fits r q
fault_fits (reply.Refused why) q failed = fault_on why failed
fault_fits _ q failed = absurd (failed refl)

made_fits : (rules : Rules) (m : Machine) (n : ℕ) (q : Request) (stamp : ℕ) (made : Stepped) (before now : FaultCounts) (o : StepOutcome) → outcome_of made.reply ≡ o → EndsFor rules m n q stamp made before now o → Fits made.reply q
made_fits rules m n q stamp made before now Answered is ends = subst (λ (s : Stepped). Fits s.reply q) (sym ends) (step_fits rules m n q stamp)
made_fits rules m n q stamp made before now ReadingFailed is ends = fault_fits made.reply q (λ answered. other (sym is ∙ answered))
  where
    other : ReadingFailed ≡ Answered → ⊥
    other e = absurd cc
made_fits rules m n q stamp made before now NoMemory is ends = fault_fits made.reply q (λ answered. other (sym is ∙ answered))
  where
    other : NoMemory ≡ Answered → ⊥
    other e = absurd cc
made_fits rules m n q stamp made before now StoreFailed is ends = fault_fits made.reply q (λ answered. other (sym is ∙ answered))
  where
    other : StoreFailed ≡ Answered → ⊥
    other e = absurd cc

pub fits_at : (rules : Rules) (m : Moment) (n : ℕ) (q : Request) (r : Reply) (now : Moment) → IsStepAt rules m n q r now → Fits r q
fits_at rules m n q r now step =
    made_fits rules m.machine n q step.stamp (record { reply = r; machine = now.machine; ticks = step.ticks }) m.counts now.counts (outcome_of r) refl step.made.cause
