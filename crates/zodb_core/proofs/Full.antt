-- When the journal is full.
use Rattle.std.proofs.Common.{◌≡◌, ℕ, ◌+◌, ◌-◌, ◌^◌, ◌<◌, ⊎_elim, Bool, true, false, cond, ltb, List, [], ◌∷◌, length, Option, Some, None, Result, Ok, Err, refl, sym, ap, subst, ◌∙◌, arith}
use Rattle.std.specs.Result.{result_ok}
use Rattle.std.proofs.lemmas.Bool.{cases_Bool, lt-ltb, ltb-true}
use Rattle.std.proofs.lemmas.Option.{same_Some}
use Rattle.zb_ids.specs.Tids.{tid_after}
use Rattle.zb_model.specs.declared.data.Change.{Change}
use Rattle.zb_model.specs.declared.data.Transaction.{Transaction}
use Rattle.zb_model.specs.declared.found.Found.{Found}
use Rattle.zb_model.specs.declared.found.Found.TheVariants as found
use Rattle.zb_model.specs.declared.refusal.Refusal.{Refusal}
use Rattle.zb_model.specs.declared.refusal.Refusal.TheVariants as refusal
use Rattle.zb_model.specs.Database.{IsDatabase, newest_tid}
use Rattle.zb_model.specs.Queries.{found_below}
use Rattle.commit_phases.specs.Decision.{vote_decision}
use Rattle.undo_records.specs.Undone.{undone_of}
use Rattle.zodb_core.specs.declared.reply.Reply.TheVariants as reply
use Rattle.zodb_core.specs.declared.request.Request.{Request}
use Rattle.zodb_core.specs.declared.request.Request.TheVariants as request
use Rattle.zodb_core.specs.declared.texts.Texts.{Texts}
use Rattle.zodb_core.specs.DecisionLaws.{AnswersIfSome, IsDecidedSound, is_full, undo_decided, vote_decided}
use Rattle.zodb_core.specs.Laws.{JournalIsFull, OverfillsJournal, changes_asked}
use Rattle.zodb_core.specs.Machine.{Machine, MachineVote, Rules}
use Rattle.zodb_core.specs.Outcomes.{is_pack}
use Rattle.zodb_core.specs.Sound.{IsWellFormedRequest}
use Rattle.zodb_core.specs.StepCases.{PackCases, by_pack_step, early_answers}
use Rattle.zodb_core.specs.Steps.{Stepped, changes_in_journal, changes_undone, early_refusal, finish_gives, finish_step, journal_limit, loaded, replied_refusal, request_step, step_of, unless_early, vote_at, vote_counted, vote_step, with_vote, transaction_with}

-- the reply says that the journal is full, with this count
abbrev IsFullReply : ℕ → Stepped → Type 0
IsFullReply count s = s.reply ≡ reply.Refused (refusal.JournalFull count)

-- no other refusal says so
not_full : (r : Refusal) (count : ℕ) → is_full r ≡ false → reply.Refused r ≡ reply.Refused (refusal.JournalFull count) → ⊥
not_full r count other is =
    let same : r ≡ refusal.JournalFull count = cc in
    let full : is_full r ≡ true = ap is_full same in
    cc

-- ---- where a step says so

at_full : (m : Machine) (n : ℕ) (texts : Texts) (changes : List Change) (tid count : ℕ) → IsFullReply count (vote_at m n texts changes tid) → ⊥
at_full m n texts changes tid count = by_cases (ltb tid (2 ^ 64 - 1))
  where
    by_cases : (b : Bool)
        → IsFullReply count (cond b (record { reply = reply.Voted; machine = with_vote m n (Some (transaction_with tid texts changes)); ticks = true }) (record { reply = reply.Refused refusal.TidsSpent; machine = m; ticks = true }))
        → ⊥
    by_cases true is = cc
    by_cases false is = cc

overfills : (m : Machine) (c : Change) (changes : List Change) (count : ℕ) → reply.Refused (refusal.JournalFull (changes_in_journal m.journal + length (c ∷ changes))) ≡ reply.Refused (refusal.JournalFull count)
    → journal_limit < changes_in_journal m.journal + length (c ∷ changes) → OverfillsJournal m (Some (c ∷ changes)) count
overfills m c changes count is above =
    let same : changes_in_journal m.journal + length (c ∷ changes) ≡ count = cc in
    record { changes = c ∷ changes; written = refl; some = omega arith; counted = sym same; above = subst (λ (k : ℕ). journal_limit < k) same above }

counted_full : (m : Machine) (n : ℕ) (texts : Texts) (c : Change) (changes : List Change) (stamp count : ℕ)
    → IsFullReply count (vote_counted m n texts (c ∷ changes) stamp (changes_in_journal m.journal + length (c ∷ changes))) → OverfillsJournal m (Some (c ∷ changes)) count
counted_full m n texts c changes stamp count = by_cases (ltb journal_limit (changes_in_journal m.journal + length (c ∷ changes))) refl
  where
    by_cases : (b : Bool) → ltb journal_limit (changes_in_journal m.journal + length (c ∷ changes)) ≡ b
        → IsFullReply count (cond b (replied_refusal m (refusal.JournalFull (changes_in_journal m.journal + length (c ∷ changes)))) (vote_at m n texts (c ∷ changes) (tid_after (newest_tid m.list) stamp)))
        → OverfillsJournal m (Some (c ∷ changes)) count
    by_cases true e is = overfills m c changes count is (ltb-true journal_limit (changes_in_journal m.journal + length (c ∷ changes)) e)
    by_cases false e is = absurd (at_full m n texts (c ∷ changes) (tid_after (newest_tid m.list) stamp) count is)

vote_full : (m : Machine) (n : ℕ) (texts : Texts) (stamp count : ℕ) (premise : Type 0) (decided : Result (List Change) Refusal) → IsDecidedSound premise decided
    → IsFullReply count (vote_step m n texts stamp decided) → OverfillsJournal m (result_ok decided) count
vote_full m n texts stamp count premise (Err r) once is = absurd (not_full r count once.1 is)
vote_full m n texts stamp count premise (Ok []) once is = absurd cc
vote_full m n texts stamp count premise (Ok (c ∷ changes)) once is = counted_full m n texts c changes stamp count is

loaded_full : (m : Machine) (oid count : ℕ) (f : Found) → loaded m oid f ≡ reply.Refused (refusal.JournalFull count) → ⊥
loaded_full m oid count (found.Held serial bytes end) is = cc
loaded_full m oid count (found.Absent serial) is = cc
loaded_full m oid count found.Nothing is = cc

writes_full : (m : Machine) (n count : ℕ) (writes : Option Transaction) → IsFullReply count (finish_gives m n writes) → ⊥
writes_full m n count None is = cc
writes_full m n count (Some t) is = cc

finish_full : (m : Machine) (n count : ℕ) (vote : Option MachineVote) → IsFullReply count (finish_step m n vote) → ⊥
finish_full m n count None is = cc
finish_full m n count (Some v) is = writes_full m n count v.writes is

-- no request on a pack is answered so
pack_cases : (named : List ℕ → Option (List ℕ)) (m : Machine) (n : ℕ) (q : Request) (count : ℕ) → PackCases (λ s. IsFullReply count s → ⊥) named m n q
pack_cases named m n q count = record {
  refused = λ r answers is. not_full r count answers.1 is;
  begun = λ t collects none below is. cc;
  marking = λ p done there is. cc;
  marked = λ p there none is. cc;
  copying = λ p k copied done there copying is. cc;
  copied = λ p k copied done there copying is. cc;
  lost = λ r answers is. not_full r count answers.1 is;
  packed = λ g goal free below is. cc;
}

request_full : (rules : Rules) (m : Machine) (n : ℕ) (q : Request) (stamp count : ℕ) → is_pack q ≡ false → IsFullReply count (request_step rules m n q stamp) → OverfillsJournal m (changes_asked rules m q) count
request_full rules m n request.Front stamp count not is = absurd cc
request_full rules m n (request.LoadBefore oid front) stamp count not is = absurd (loaded_full m oid count (found_below oid front m.list) is)
request_full rules m n (request.NewOids k) stamp count not is = absurd cc
request_full rules m n (request.Vote user description extension pending) stamp count not is =
    vote_full m n (record { user = user; description = description; extension = extension }) stamp count (IsDatabase m.list × IsWellFormedRequest (request.Vote user description extension pending))
    (vote_decision rules.merging m.list pending) (vote_decided rules.merging m.list pending) is
request_full rules m n (request.Undo user description tids) stamp count not is =
    vote_full m n (record { user = user; description = description; extension = [] }) stamp count (IsDatabase m.list × IsWellFormedRequest (request.Undo user description tids))
    (changes_undone m.list (undone_of rules.merging m.list tids)) (undo_decided rules.merging m.list tids) is
request_full rules m n request.Finish stamp count not is = absurd (finish_full m n count m.vote is)
request_full rules m n request.Abort stamp count not is = absurd cc
request_full rules m n (request.History oid) stamp count not is = absurd cc
request_full rules m n request.UndoLog stamp count not is = absurd cc
request_full rules m n (request.Pack tid collect) stamp count not is = absurd cc
request_full rules m n (request.PackBegin tid collect) stamp count not is = absurd cc
request_full rules m n request.PackTurn stamp count not is = absurd cc
request_full rules m n request.Last stamp count not is = absurd cc
request_full rules m n (request.Since tid changes) stamp count not is = absurd cc
request_full rules m n request.Close stamp count not is = absurd cc

early_full : (m : Machine) (count : ℕ) (early : Option Refusal) (made : Stepped) → AnswersIfSome early → IsFullReply count (unless_early early m made) → (early ≡ None) × IsFullReply count made
early_full m count None made answers is = (refl, is)
early_full m count (Some r) made answers is = absurd (not_full r count answers.1 is)

-- ---- and that it says so there

counted_says : (m : Machine) (n : ℕ) (texts : Texts) (changes : List Change) (stamp count : ℕ) → journal_limit < count → IsFullReply count (vote_counted m n texts changes stamp count)
counted_says m n texts changes stamp count above =
    let over : ltb journal_limit count ≡ true = lt-ltb journal_limit count above in
    ap (λ (b : Bool). (cond b (replied_refusal m (refusal.JournalFull count)) (vote_at m n texts changes (tid_after (newest_tid m.list) stamp))).reply) over

vote_says : (m : Machine) (n : ℕ) (texts : Texts) (stamp count : ℕ) (decided : Result (List Change) Refusal) → OverfillsJournal m (result_ok decided) count → IsFullReply count (vote_step m n texts stamp decided)
vote_says m n texts stamp count (Err r) much =
    let none : None ≡ Some much.changes = much.written in
    absurd cc
vote_says m n texts stamp count (Ok []) much =
    let same : [] ≡ much.changes = same_Some [] much.changes much.written in
    absurd (omega (arith, much.some, ap length same))
vote_says m n texts stamp count (Ok (c ∷ changes)) much =
    let same : c ∷ changes ≡ much.changes = same_Some (c ∷ changes) much.changes much.written in
    let is : count ≡ changes_in_journal m.journal + length (c ∷ changes) = omega (arith, much.counted, ap length same) in
    subst (λ (k : ℕ). IsFullReply count (vote_counted m n texts (c ∷ changes) stamp k)) is (counted_says m n texts (c ∷ changes) stamp count much.above)

none_says : (m : Machine) (count : ℕ) (made : Stepped) → OverfillsJournal m None count → IsFullReply count made
none_says m count made much =
    let none : None ≡ Some much.changes = much.written in
    absurd cc

request_says : (rules : Rules) (m : Machine) (n : ℕ) (q : Request) (stamp count : ℕ) → OverfillsJournal m (changes_asked rules m q) count → IsFullReply count (request_step rules m n q stamp)
request_says rules m n request.Front stamp count much = none_says m count (request_step rules m n request.Front stamp) much
request_says rules m n (request.LoadBefore oid front) stamp count much = none_says m count (request_step rules m n (request.LoadBefore oid front) stamp) much
request_says rules m n (request.NewOids k) stamp count much = none_says m count (request_step rules m n (request.NewOids k) stamp) much
request_says rules m n (request.Vote user description extension pending) stamp count much =
    vote_says m n (record { user = user; description = description; extension = extension }) stamp count (vote_decision rules.merging m.list pending) much
request_says rules m n (request.Undo user description tids) stamp count much =
    vote_says m n (record { user = user; description = description; extension = [] }) stamp count (changes_undone m.list (undone_of rules.merging m.list tids)) much
request_says rules m n request.Finish stamp count much = none_says m count (request_step rules m n request.Finish stamp) much
request_says rules m n request.Abort stamp count much = none_says m count (request_step rules m n request.Abort stamp) much
request_says rules m n (request.History oid) stamp count much = none_says m count (request_step rules m n (request.History oid) stamp) much
request_says rules m n request.UndoLog stamp count much = none_says m count (request_step rules m n request.UndoLog stamp) much
request_says rules m n (request.Pack tid collect) stamp count much = none_says m count (request_step rules m n (request.Pack tid collect) stamp) much
request_says rules m n (request.PackBegin tid collect) stamp count much = none_says m count (request_step rules m n (request.PackBegin tid collect) stamp) much
request_says rules m n request.PackTurn stamp count much = none_says m count (request_step rules m n request.PackTurn stamp) much
request_says rules m n request.Last stamp count much = none_says m count (request_step rules m n request.Last stamp) much
request_says rules m n (request.Since tid changes) stamp count much = none_says m count (request_step rules m n (request.Since tid changes) stamp) much
request_says rules m n request.Close stamp count much = none_says m count (request_step rules m n request.Close stamp) much

says_full : (rules : Rules) (m : Machine) (n : ℕ) (q : Request) (stamp count : ℕ) → (early_refusal m n q ≡ None) × OverfillsJournal m (changes_asked rules m q) count → IsFullReply count (step_of rules m n q stamp)
says_full rules m n q stamp count both = ap (λ (o : Option Refusal). (unless_early o m (request_step rules m n q stamp)).reply) both.0 ∙ request_says rules m n q stamp count both.1

full_where : (rules : Rules) (m : Machine) (n : ℕ) (q : Request) (stamp count : ℕ) → IsFullReply count (step_of rules m n q stamp) → (early_refusal m n q ≡ None) × OverfillsJournal m (changes_asked rules m q) count
full_where rules m n q stamp count is =
    ⊎_elim (λ (pack : is_pack q ≡ true). absurd (by_pack_step (λ s. IsFullReply count s → ⊥) rules m n q stamp pack (pack_cases rules.named m n q count) is))
    (λ (not : is_pack q ≡ false).
    let both : (early_refusal m n q ≡ None) × IsFullReply count (request_step rules m n q stamp) = early_full m count (early_refusal m n q) (request_step rules m n q stamp) (early_answers m n q) is in
    (both.0, request_full rules m n q stamp count not both.1))
    (cases_Bool (is_pack q))

pub journal_full : JournalIsFull
journal_full rules m n q stamp count = (full_where rules m n q stamp count, says_full rules m n q stamp count)
