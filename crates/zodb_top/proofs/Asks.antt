-- Steps that only read, and what they are answered.
use Rattle.std.proofs.Common.{◌≡◌, ℕ, Bool, true, false, List, [], ◌∷◌, Option, Some, None, arith, refl, sym, ap, subst, ◌∙◌}
use Rattle.std.specs.Prelude.{IfOk, IsErrOf, IsTrue, Result, Ok, Err}
use Rattle.zb_base.specs.Counts.{Rose}
use Rattle.zodb_top.specs.declared.asking.AskError.{AskError}
use Rattle.zodb_top.specs.declared.asking.AskError.TheVariants as error
use Rattle.zb_ids.specs.declared.stamp.Stamp.{Stamp}
use Rattle.zb_model.specs.declared.data.Transaction.{Transaction}
use Rattle.zb_model.specs.declared.found.Found.{Found}
use Rattle.zb_model.specs.declared.found.Found.TheVariants as found
use Rattle.zb_model.specs.declared.news.News.{News}
use Rattle.zb_model.specs.declared.refusal.Refusal.{Refusal}
use Rattle.zb_model.specs.declared.refusal.Refusal.TheVariants as refusal
use Rattle.zb_model.specs.Queries.{found_below}
use Rattle.zb_model.specs.Stores.{StoreState}
use Rattle.zodb_core.specs.declared.reply.Reply.{Reply}
use Rattle.zodb_core.specs.declared.reply.Reply.TheVariants as reply
use Rattle.zodb_core.specs.declared.request.Request.{Request}
use Rattle.zodb_core.specs.declared.request.Request.TheVariants as request
use Rattle.zodb_core.specs.DecisionLaws.{AnswersIfSome}
use Rattle.zodb_core.specs.HubState.{HasTicked, HubState, IsCauseOf, MakesStep, StandsForMachine, StepsSafely, counts_of, is_store_failed, may_write}
use Rattle.zodb_core.specs.Machine.{Machine, front_of, machine_over, with_session}
use Rattle.zodb_core.specs.Outcomes.{Answered, AreLaterCounts, EndsFor, FaultCounts, NoMemory, ReadingFailed, StepOutcome, StoreFailed, changes_store, is_pack, keeps_store, machine_left, outcome_of, outcome_of_refusal}
use Rattle.zodb_core.specs.StepCases.{by_unanswered, early_answers}
use Rattle.zodb_core.specs.Steps.{Stepped, early_refusal, loaded, replied, request_step, step_of, unless_early}
use Rattle.program_words.specs.declared.command.Asked.TheVariants.{UndoLog, History, Show, Digest}
use Rattle.zodb_top.specs.Asked.{content_of, digested, last_of, lines_of, shown}
use Rattle.zodb_top.specs.Asking.{AsksOnly, IsLast, IsStepped, KeepsList, KeepsStore, ask_refusal, digested_reply, only_reads, replied_lines, reply_content, shown_reply}
use Rattle.side_by_side.specs.Runs.{stock}

-- ---- a step that only reads

record StepReads (m : Machine) (s : Stepped) : Type 0 where
  pub list : s.machine.list ≡ m.list
  pub writes : may_write false s.reply ≡ false
  pub ticks : s.ticks ≡ false

ordinary_writes : (why : Refusal) → outcome_of_refusal why ≡ Answered → may_write false (reply.Refused why) ≡ false
ordinary_writes refusal.StoreFault is = absurd cc
ordinary_writes _ is = refl

unless_reads : (early : Option Refusal) (m : Machine) (made : Stepped) → AnswersIfSome early → StepReads m made → StepReads m (unless_early early m made)
unless_reads None m made answers reads = reads
unless_reads (Some why) m made answers reads = record { list = refl; writes = ordinary_writes why answers.0; ticks = refl }

loaded_reads : (m : Machine) (oid : ℕ) (f : Found) → StepReads m (replied m (loaded m oid f))
loaded_reads m oid (found.Held serial bytes end) = record { list = refl; writes = refl; ticks = refl }
loaded_reads m oid (found.Absent serial) = record { list = refl; writes = refl; ticks = refl }
loaded_reads m oid found.Nothing = record { list = refl; writes = refl; ticks = refl }

request_reads : (m : Machine) (n : ℕ) (q : Request) (stamp : ℕ) → only_reads q ≡ true → StepReads m (request_step stock m n q stamp)
request_reads m n request.Front stamp is = record { list = refl; writes = refl; ticks = refl }
request_reads m n (request.LoadBefore oid front) stamp is = loaded_reads m oid (found_below oid front m.list)
request_reads m n (request.History oid) stamp is = record { list = refl; writes = refl; ticks = refl }
request_reads m n request.UndoLog stamp is = record { list = refl; writes = refl; ticks = refl }
request_reads m n _ stamp is = absurd cc

step_reads : (m : Machine) (n : ℕ) (q : Request) (stamp : ℕ) → only_reads q ≡ true → StepReads m (step_of stock m n q stamp)
step_reads m n q stamp is = unless_reads (early_refusal m n q) m (request_step stock m n q stamp) (early_answers m n q) (request_reads m n q stamp is)

never_changes : (m : Machine) (n : ℕ) (q : Request) (made : Stepped) → only_reads q ≡ true → changes_store m n q made ≡ true → ⊥
never_changes m n request.Front made is changes = absurd cc
never_changes m n (request.LoadBefore oid front) made is changes = absurd cc
never_changes m n (request.History oid) made is changes = absurd cc
never_changes m n request.UndoLog made is changes = absurd cc
never_changes m n _ made is changes = absurd cc

-- a reply that something else went wrong has written nothing
fault_writes : (why : Refusal) → ¬ (outcome_of_refusal why ≡ StoreFailed) → may_write false (reply.Refused why) ≡ false
fault_writes refusal.StoreFault other = absurd (other refl)
fault_writes _ other = refl

wrong_writes : (r : Reply) → ¬ (outcome_of r ≡ Answered) → ¬ (outcome_of r ≡ StoreFailed) → may_write false r ≡ false
wrong_writes (reply.Refused why) answered failed = fault_writes why failed
wrong_writes _ answered failed = absurd (answered refl)

-- what is known of a step that only reads
record MadeReads (m : Machine) (r : Reply) (left : Machine) : Type 0 where
  pub list : left.list ≡ m.list
  pub writes : may_write false r ≡ false
  pub whole : is_store_failed (outcome_of r) ≡ false

ends_reads : (m : Machine) (n : ℕ) (q : Request) (stamp : ℕ) (r : Reply) (left : Machine) (ticks : Bool) (before now : FaultCounts) (o : StepOutcome) → only_reads q ≡ true → outcome_of r ≡ o
    → EndsFor stock m n q stamp (record { reply = r; machine = left; ticks = ticks }) before now o → left ≡ machine_left stock m n q stamp o → MadeReads m r left
ends_reads m n q stamp r left ticks before now Answered reads is cause same =
    let all = subst (StepReads m) (sym cause) (step_reads m n q stamp reads) in
    record { list = all.list; writes = all.writes; whole = ap is_store_failed is }
ends_reads m n q stamp r left ticks before now ReadingFailed reads is cause same =
    record { list = ap (λ (x : Machine). x.list) same ∙ by_unanswered (λ x. x.list ≡ m.list) q m refl refl; writes = wrong_writes r (λ e. absurd cc) (λ e. absurd cc); whole = ap is_store_failed is }
ends_reads m n q stamp r left ticks before now NoMemory reads is cause same =
    record { list = ap (λ (x : Machine). x.list) same ∙ by_unanswered (λ x. x.list ≡ m.list) q m refl refl; writes = wrong_writes r (λ e. absurd cc) (λ e. absurd cc); whole = ap is_store_failed is }
ends_reads m n q stamp r left ticks before now StoreFailed reads is cause same =
    absurd (never_changes m n q (step_of stock m n q stamp) reads cause.0.one)

clock_kept : (ticks : Bool) (stamp : ℕ) (before after : Option (List Stamp)) (step : Bool) → (IsTrue ticks → IsTrue step) → step ≡ false → HasTicked ticks stamp before after → after ≡ before
clock_kept false stamp before after step only none ticked = ticked
clock_kept true stamp before after false only none ticked = let never : IsTrue false = only refl in absurd cc
clock_kept true stamp before after true only none ticked = absurd cc

no_pack : (q : Request) → only_reads q ≡ true → is_pack q ≡ false
no_pack (request.Pack tid collects) reads = absurd cc
no_pack request.Front reads = refl
no_pack (request.LoadBefore oid front) reads = refl
no_pack (request.History oid) reads = refl
no_pack request.UndoLog reads = refl
no_pack _ reads = absurd cc

pub reading_keeps : {R F : Type 0} (m : Machine) (n : ℕ) (q : Request) (r : Reply) (old new : HubState R F) (before after : Option (List Stamp)) → only_reads q ≡ true
    → MakesStep stock m n q r old new before after → StepsSafely (is_pack q) r old new → old.store.broken ≡ false → KeepsList m old new before after
reading_keeps m n q r old new before after reads made safe whole =
    let all = ends_reads m n q made.stamp r made.left made.ticks (counts_of old.store) (counts_of new.store) (outcome_of r) reads refl made.made.cause made.made.left in
    record {
      left = made.left;
      list = all.list;
      stands = made.stands;
      log = safe.log (subst (λ (b : Bool). may_write b r ≡ false) (sym (no_pack q reads)) all.writes);
      whole = safe.broken whole ∙ all.whole;
      clock = clock_kept made.ticks made.stamp before after (step_of stock m n q made.stamp).ticks made.made.ticks (step_reads m n q made.stamp reads).ticks made.clock;
    }

-- ---- what it is answered

unrefused_so : (r : Reply) → ((why : Refusal) → ¬ (r ≡ reply.Refused why)) → outcome_of r ≡ Answered
unrefused_so (reply.Refused why) never = absurd (never why refl)
unrefused_so _ never = refl

pub stepped_so : {R F : Type 0} (m : Machine) (n : ℕ) (q : Request) (r : Reply) (old new : HubState R F) (before after : Option (List Stamp)) → MakesStep stock m n q r old new before after
    → ((why : Refusal) → ¬ (r ≡ reply.Refused why)) → IsStepped m n q r
stepped_so m n q r old new before after made never =
    let cause = subst (EndsFor stock m n q made.stamp (record { reply = r; machine = made.left; ticks = made.ticks }) (counts_of old.store) (counts_of new.store)) (unrefused_so r never) made.made.cause in
    record { stamp = made.stamp; is = ap (λ (s : Stepped). s.reply) cause; unrefused = never }

-- a fault that the reply tells of has its cause
pub read_failed : (before now : FaultCounts) (r : Reply) → r ≡ reply.Refused refusal.ReadFault → IsCauseOf before now (outcome_of r) → IsCauseOf before now ReadingFailed
read_failed before now r is cause = subst (λ (x : Reply). IsCauseOf before now (outcome_of x)) is cause

-- the reply to a step that nothing refuses at once
at_once : (early : Option Refusal) (m : Machine) (made : Stepped) (r : Reply) → r ≡ (unless_early early m made).reply → ((why : Refusal) → ¬ (r ≡ reply.Refused why)) → r ≡ made.reply
at_once None m made r is never = is
at_once (Some why) m made r is never = absurd (never why is)

reply_of : (m : Machine) (n : ℕ) (q : Request) (r : Reply) → (s : IsStepped m n q r) → r ≡ (request_step stock m n q s.stamp).reply
reply_of m n q r s = at_once (early_refusal m n q) m (request_step stock m n q s.stamp) r s.is s.unrefused

pub front_is : (m : Machine) (n : ℕ) (f : ℕ) (news : News) (switches : ℕ) → IsStepped m n request.Front (reply.Front f news switches) → f ≡ front_of m.list
front_is m n f news switches s = let is = reply_of m n request.Front (reply.Front f news switches) s in cc

-- the reply to what is asked gives its lines
pub undolog_replies : (m : Machine) (n : ℕ) (r : Reply) → IsStepped m n request.UndoLog r → replied_lines UndoLog r ≡ Some (lines_of UndoLog m.list)
undolog_replies m n r s = ap (replied_lines UndoLog) (reply_of m n request.UndoLog r s)

pub history_replies : (m : Machine) (n oid : ℕ) (r : Reply) → IsStepped m n (request.History oid) r → replied_lines (History oid) r ≡ Some (lines_of (History oid) m.list)
history_replies m n oid r s = ap (replied_lines (History oid)) (reply_of m n (request.History oid) r s)

pub show_replies : (list : List Transaction) (oid : ℕ) (r : Reply) → IsLast oid list r → replied_lines (Show oid) r ≡ Some (lines_of (Show oid) list)
show_replies list oid r last = ap (λ (t : List ℕ). Some (t ∷ [])) last.shown

pub digest_replies : (list : List Transaction) (oid : ℕ) (r : Reply) → IsLast oid list r → replied_lines (Digest oid) r ≡ Some (lines_of (Digest oid) list)
digest_replies list oid r last = ap (λ (t : List ℕ). Some (t ∷ [])) last.digested

shown_loaded : (m : Machine) (oid : ℕ) (f : Found) → shown_reply (loaded m oid f) ≡ shown f
shown_loaded m oid (found.Held serial bytes end) = refl
shown_loaded m oid (found.Absent serial) = refl
shown_loaded m oid found.Nothing = refl

digested_loaded : (m : Machine) (oid : ℕ) (f : Found) → digested_reply (loaded m oid f) ≡ digested f
digested_loaded m oid (found.Held serial bytes end) = refl
digested_loaded m oid (found.Absent serial) = refl
digested_loaded m oid found.Nothing = refl

content_loaded : (m : Machine) (oid : ℕ) (f : Found) → reply_content (loaded m oid f) ≡ content_of f
content_loaded m oid (found.Held serial bytes end) = refl
content_loaded m oid (found.Absent serial) = refl
content_loaded m oid found.Nothing = refl

pub last_is : (list : List Transaction) (m : Machine) (n oid front : ℕ) (r : Reply) → m.list ≡ list → front ≡ front_of list → IsStepped m n (request.LoadBefore oid front) r → IsLast oid list r
last_is list m n oid front r same at s =
    let is : r ≡ loaded m oid (found_below oid front m.list) = reply_of m n (request.LoadBefore oid front) r s in
    let found : found_below oid front m.list ≡ last_of oid list = ap (found_below oid front) same ∙ ap (λ (f : ℕ). found_below oid f list) at in
    record {
      shown = ap shown_reply is ∙ shown_loaded m oid (found_below oid front m.list) ∙ ap shown found;
      digested = ap digested_reply is ∙ digested_loaded m oid (found_below oid front m.list) ∙ ap digested found;
      content = ap reply_content is ∙ content_loaded m oid (found_below oid front m.list) ∙ ap content_of found;
    }

pub keeps_on : {R F : Type 0} (m : Machine) (old mid new : HubState R F) (a b c : Option (List Stamp)) → (first : KeepsList m old mid a b) → KeepsList first.left mid new b c → KeepsList m old new a c
keeps_on m old mid new a b c first second = record {
  left = second.left;
  list = second.list ∙ first.list;
  stands = second.stands;
  log = second.log ∙ first.log;
  whole = second.whole;
  clock = second.clock ∙ first.clock;
}

pub keeps_all : {R F : Type 0} (m : Machine) (hub : HubState R F) (a : Option (List Stamp)) → StandsForMachine hub m → hub.store.broken ≡ false → KeepsList m hub hub a a
keeps_all m hub a stands whole = record { left = m; list = refl; stands = stands; log = refl; whole = whole; clock = refl }

pub keeps_opened : {R F : Type 0} (m : Machine) (hub mid new : HubState R F) (a b : Option (List Stamp)) → mid.store ≡ hub.store → KeepsList (with_session m) mid new a b → KeepsList m hub new a b
keeps_opened m hub mid new a b same keeps = record {
  left = keeps.left;
  list = keeps.list;
  stands = keeps.stands;
  log = keeps.log ∙ ap (λ (s : StoreState). s.log) same;
  whole = keeps.whole;
  clock = keeps.clock;
}

pub store_kept : {R F : Type 0} (state after : StoreState) (old new : HubState R F) (a b : Option (List Stamp)) → old.store ≡ state → after ≡ new.store → KeepsList (machine_over state.list) old new a b → KeepsStore state after a b
store_kept state after old new a b first last keeps = record {
  list = ap (λ (s : StoreState). s.list) last ∙ sym (keeps.stands.list keeps.whole) ∙ keeps.list;
  log = ap (λ (s : StoreState). s.log) last ∙ keeps.log ∙ ap (λ (s : StoreState). s.log) first;
  whole = ap (λ (s : StoreState). s.broken) last ∙ keeps.whole;
  clock = keeps.clock;
}

-- ---- what a refusal says

pub unrefused_by : (r : Reply) → ask_refusal r ≡ None → (why : Refusal) → ¬ (r ≡ reply.Refused why)
unrefused_by (reply.Refused refusal.ReadFault) none why is = absurd cc
unrefused_by (reply.Refused _) none why is = absurd cc
unrefused_by _ none why is = absurd cc

rose_for : (before now : FaultCounts) (r : Reply) (e : AskError) → ask_refusal r ≡ Some e → e ≡ error.ReadFault → IsCauseOf before now (outcome_of r) → Rose before.reads now.reads
rose_for before now (reply.Refused refusal.ReadFault) e says is cause = cause
rose_for before now (reply.Refused _) e says is cause = absurd cc
rose_for before now _ e says is cause = absurd cc

pub failed_by : (before now : FaultCounts) (r : Reply) (e : AskError) → ask_refusal r ≡ Some e → IsCauseOf before now (outcome_of r) → e ≡ error.ReadFault → Rose before.reads now.reads
failed_by before now r e says cause is = rose_for before now r e says is cause

pub ok_map : {A E : Type 0} (r : Result A E) (P Q : A → Type 0) → IfOk r P → ((a : A) → P a → Q a) → IfOk r Q
ok_map (Ok a) P Q holds then = then a holds
ok_map (Err e) P Q holds then = tt

-- ---- counts

calm_outcome : (before now : FaultCounts) (o : StepOutcome) → ¬ (o ≡ StoreFailed) → ¬ (o ≡ ReadingFailed) → IsCauseOf before now o → now ≡ before
calm_outcome before now Answered whole read cause = cause
calm_outcome before now NoMemory whole read cause = cause
calm_outcome before now ReadingFailed whole read cause = absurd (read refl)
calm_outcome before now StoreFailed whole read cause = absurd (whole refl)

unread_by : (r : Reply) (o : Option AskError) → ask_refusal r ≡ o → ¬ (o ≡ Some error.ReadFault) → ¬ (outcome_of r ≡ ReadingFailed)
unread_by (reply.Refused refusal.ReadFault) o says other = absurd (other (sym says))
unread_by (reply.Refused _) o says other = λ is. absurd cc
unread_by _ o says other = λ is. absurd cc

-- a request that only reads changes no store
keeps_by : (q : Request) → only_reads q ≡ true → keeps_store q ≡ true
keeps_by request.Front reads = refl
keeps_by (request.LoadBefore oid front) reads = refl
keeps_by (request.History oid) reads = refl
keeps_by request.UndoLog reads = refl
keeps_by _ reads = absurd cc

failed_so : (o : StepOutcome) → ¬ (o ≡ StoreFailed) → is_store_failed o ≡ false
failed_so StoreFailed whole = absurd (whole refl)
failed_so _ whole = refl

-- so its step moves no count, unless reading failed, and that of other faults never
pub reading_calm : (q : Request) (r : Reply) (o : Option AskError) (before now : FaultCounts) → only_reads q ≡ true → (keeps_store q ≡ true → ¬ (outcome_of r ≡ StoreFailed)) → IsCauseOf before now (outcome_of r) → ask_refusal r ≡ o
    → ¬ (o ≡ Some error.ReadFault) → now ≡ before
reading_calm q r o before now reads whole cause says other = calm_outcome before now (outcome_of r) (whole (keeps_by q reads)) (unread_by r o says other) cause

pub whole_by : (q : Request) (r : Reply) (P : Type 0) → only_reads q ≡ true → (keeps_store q ≡ true → ¬ (outcome_of r ≡ StoreFailed)) → (is_store_failed (outcome_of r) ≡ false → P) → P
whole_by q r P reads whole then = then (failed_so (outcome_of r) (whole (keeps_by q reads)))

-- ---- what only asks

-- counts that have not fallen twice
pub later_on : (a b c : FaultCounts) → AreLaterCounts a b → AreLaterCounts b c → AreLaterCounts a c
later_on a b c first second = record { reads = omega arith; others = omega arith }

rose_on : (a b : FaultCounts) (c : ℕ) → b ≡ a → Rose b.reads c → Rose a.reads c
rose_on a b c same rose = subst (λ (x : FaultCounts). Rose x.reads c) same rose

module _ {R F : Type 0} (told : Type 0) where
  -- what is made of an answer with no call of the hub: a failed read is told where it was answered, and there alone
  pub asks_told : {A B : Type 0} (old new : HubState R F) (a b : Option (List Stamp)) (r : Result A AskError) (s : Result B AskError) → (IsErrOf s error.ReadFault → IsErrOf r error.ReadFault)
      → (IsErrOf r error.ReadFault → IsErrOf s error.ReadFault) → AsksOnly told old new a b r → AsksOnly told old new a b s
  asks_told old new a b r s first second asks = record {
    keeps = asks.keeps;
    failed = λ is. asks.failed (first is);
    calm = λ other. asks.calm (λ is. other (second is));
    others = asks.others;
    later = asks.later;
  }

  pub asks_answered : {A B : Type 0} (old new : HubState R F) (a b : Option (List Stamp)) (r : Result A AskError) (x : A) (y : B) → r ≡ Ok x → AsksOnly told old new a b r → AsksOnly told old new a b (Ok y)
  asks_answered old new a b r x y is asks = asks_told old new a b r (Ok y) (λ e. absurd cc) (λ e. absurd cc) asks

  -- one call behind some that were answered
  pub asks_behind : {B : Type 0} (old mid new : HubState R F) (a b c : Option (List Stamp)) (s : Result B AskError)
      → (told → (m : Machine) → StandsForMachine old m → old.store.broken ≡ false → KeepsList m old mid a b) → counts_of mid.store ≡ counts_of old.store → mid.store.faults ≡ old.store.faults
      → AreLaterCounts (counts_of old.store) (counts_of mid.store) → AsksOnly told mid new b c s → AsksOnly told old new a c s
  asks_behind old mid new a b c s keeps calm others later asks = record {
    keeps = λ here m stands whole.
        let k = keeps here m stands whole in
        keeps_on m old mid new a b c k (asks.keeps here k.left k.stands k.whole);
    failed = λ is. rose_on (counts_of old.store) (counts_of mid.store) new.store.read_faults calm (asks.failed is);
    calm = λ other. asks.calm other ∙ calm;
    others = asks.others ∙ others;
    later = later_on (counts_of old.store) (counts_of mid.store) (counts_of new.store) later asks.later;
  }

  pub asks_on : {A B : Type 0} (old mid new : HubState R F) (a b c : Option (List Stamp)) (r : Result A AskError) (x : A) (s : Result B AskError) → r ≡ Ok x → AsksOnly told old mid a b r
      → AsksOnly told mid new b c s → AsksOnly told old new a c s
  asks_on old mid new a b c r x s is first second = asks_behind old mid new a b c s first.keeps (first.calm (λ e. absurd cc)) first.others first.later second

  -- an error is handed on
  pub asks_refused : {A B : Type 0} (old new : HubState R F) (a b : Option (List Stamp)) (r : Result A AskError) (s : Result B AskError) (x e : AskError) → r ≡ Err e → s ≡ Err x → x ≡ e
      → AsksOnly told old new a b r → AsksOnly told old new a b s
  asks_refused old new a b r s x e from to same asks = asks_told old new a b r s (λ is. cc) (λ is. cc) asks
