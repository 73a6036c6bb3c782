-- A vote and an undo, from what is asked to what is decided.
use Rattle.std.proofs.Common.{◌≡◌, ℕ, List, [], Option, Some, None, Result, Ok, Err, Bool, true, false, not, if◌then◌else◌, map, refl, sym, ap, subst, ◌∙◌, arith}
use Rattle.std.specs.Prelude.{◌==◌}
use Rattle.std.specs.Option.{option_map, option_or}
use Rattle.std.proofs.lemmas.Option.{same_Some}
use Rattle.zb_base.specs.Counts.{rose_after}
use Rattle.zb_ids.specs.declared.stamp.Stamp.{Stamp}
use Rattle.zb_model.specs.declared.data.Change.{Change}
use Rattle.zb_model.specs.declared.data.Transaction.{Transaction}
use Rattle.zb_model.specs.declared.new_transaction.NewChange.{NewChange}
use Rattle.zb_model.specs.declared.refusal.Refusal.{Refusal}
use Rattle.zb_model.specs.declared.refusal.Refusal.TheVariants as refusal
use Rattle.zb_model.specs.Stores.{ReadKeepsRest, StoreState}
use Rattle.zb_model.specs.Voting.{voted_change}
use Rattle.zb_volume.specs.declared.areas.Area.TheVariants.{Main}
use Rattle.zb_volume.specs.Calls.{Event}
use Rattle.zb_volume.specs.Moments.{LeavesOnly}
use Rattle.commit_phases.specs.declared.errors.VoteRefusal.{VoteRefusal}
use Rattle.commit_phases.specs.declared.errors.VoteRefusal.TheVariants as vote_refusal
use Rattle.commit_phases.specs.Decision.{vote_decision}
use Rattle.commit_phases.specs.Pending.{PendingChanges}
use Rattle.commit_phases.specs.Voted.{HasVoteCause, IsVoteRefusal}
use Rattle.undo_records.specs.declared.refusal.UndoRefusal.{UndoRefusal}
use Rattle.undo_records.specs.declared.refusal.UndoRefusal.TheVariants as undo_refusal
use Rattle.undo_records.specs.Outcomes.{HasUndoCause, RefusesUndo}
use Rattle.undo_records.specs.Undone.{undone_of}
use Rattle.zodb_core.specs.declared.reply.Reply.{Reply}
use Rattle.zodb_core.specs.declared.reply.Reply.TheVariants as reply
use Rattle.zodb_core.specs.declared.request.Request.{Request}
use Rattle.zodb_core.specs.declared.request.Request.TheVariants as request
use Rattle.zodb_core.specs.declared.texts.Texts.{Texts}
use Rattle.zodb_core.specs.declared.vote.HubVote.{HubVote}
use Rattle.zodb_core.specs.Holding.{VotesFor, held_refusal}
use Rattle.zodb_core.specs.HubState.{HubState, MakesStep, MakesStepAt, StandsForMachine, counts_of, vote_of_hub}
use Rattle.zodb_core.specs.Machine.{Machine, Rules, is_open_in}
use Rattle.zodb_core.specs.Outcomes.{Answered, AreLaterCounts, EndsFor, FaultCounts, NoMemory, StepOutcome, ReadingFailed, StoreFailed, outcome_of}
use Rattle.zodb_core.specs.Replies.{undo_reply, vote_reply}
use Rattle.zodb_core.specs.Steps.{Stepped, changes_undone, early_refusal, refuse_if, replied_refusal, request_step, unless_early, vote_refusal, vote_step}
use Rattle.zodb_core.proofs.Stepping.{answered, not_early, reading_failed, sessions_whole, starved}

-- ---- counts that rose earlier

later_both : (a b c : FaultCounts) → AreLaterCounts a b → AreLaterCounts b c → AreLaterCounts a c
later_both a b c one two = record { reads = omega (arith, one.reads, two.reads); others = omega (arith, one.others, two.others) }

ends_later : (rules : Rules) (m : Machine) (n : ℕ) (q : Request) (stamp : ℕ) (made : Stepped) (a b c : FaultCounts) (o : StepOutcome) → AreLaterCounts a b → EndsFor rules m n q stamp made b c o → EndsFor rules m n q stamp made a c o
ends_later rules m n q stamp made a b c Answered later ends = ends
ends_later rules m n q stamp made a b c ReadingFailed later ends = (ends.0, rose_after a.reads b.reads c.reads later.reads ends.1)
ends_later rules m n q stamp made a b c NoMemory later ends = ends
ends_later rules m n q stamp made a b c StoreFailed later ends = (ends.0, rose_after a.others b.others c.others later.others ends.1)

-- a step that was made from counts that had risen before
pub made_later : {R F : Type 0} (rules : Rules) (m : Machine) (n : ℕ) (q : Request) (r : Reply) (old mid new : HubState R F) (before after : Option (List Stamp))
    → AreLaterCounts (counts_of old.store) (counts_of mid.store) → MakesStep rules m n q r mid new before after → MakesStep rules m n q r old new before after
made_later rules m n q r old mid new before after later step = record {
  stamp = step.stamp;
  left = step.left;
  ticks = step.ticks;
  made = record {
    later = later_both (counts_of old.store) (counts_of mid.store) (counts_of new.store) later step.made.later;
    cause = ends_later rules m n q step.stamp (record { reply = r; machine = step.left; ticks = step.ticks }) (counts_of old.store) (counts_of mid.store) (counts_of new.store) (outcome_of r) later step.made.cause;
    left = step.made.left;
    ticks = step.made.ticks;
    failed_ticks = step.made.failed_ticks;
  };
  clock = step.clock;
  stands = step.stands;
}

-- ---- the vote that is held

by_holder : (b : Bool) (session : ℕ) → option_or (refuse_if b refusal.Voted) (refuse_if (not b) (refusal.Busy session)) ≡ (if b then Some refusal.Voted else Some (refusal.Busy session))
by_holder true session = refl
by_holder false session = refl

held_same : (n : ℕ) (vote : Option HubVote) (voted : Option Transaction) → vote_refusal n (option_map (vote_of_hub voted) vote) ≡ held_refusal n vote
held_same n None voted = refl
held_same n (Some v) voted = by_holder (v.session == n) v.session

refusal_held : {R F : Type 0} (m : Machine) (n : ℕ) (hub : HubState R F) → StandsForMachine hub m → hub.store.broken ≡ false → vote_refusal n m.vote ≡ held_refusal n hub.vote
refusal_held m n hub stands whole = ap (vote_refusal n) (stands.vote whole) ∙ held_same n hub.vote hub.store.voted

by_holder-answered : (b : Bool) (session : ℕ) (r : Refusal) → (if b then Some refusal.Voted else Some (refusal.Busy session)) ≡ Some r → outcome_of (reply.Refused r) ≡ Answered
by_holder-answered true session r is = ap (λ (x : Refusal). outcome_of (reply.Refused x)) (sym (same_Some refusal.Voted r is))
by_holder-answered false session r is = ap (λ (x : Refusal). outcome_of (reply.Refused x)) (sym (same_Some (refusal.Busy session) r is))

held_answered : (n : ℕ) (vote : Option HubVote) (r : Refusal) → held_refusal n vote ≡ Some r → outcome_of (reply.Refused r) ≡ Answered
held_answered n None r is = absurd cc
held_answered n (Some v) r is = by_holder-answered (v.session == n) v.session r is

-- a request that may not vote is refused at once
pub refused_at_once : {R F : Type 0} (rules : Rules) (m : Machine) (n : ℕ) (q : Request) (r : Refusal) (hub : HubState R F) (stamps : Option (List Stamp)) → StandsForMachine hub m
    → early_refusal m n q ≡ Some r → outcome_of (reply.Refused r) ≡ Answered → MakesStep rules m n q (reply.Refused r) hub hub stamps stamps
refused_at_once rules m n q r hub stamps stands early is =
    answered rules m n q (reply.Refused r) m hub hub stamps (record { reads = omega arith; others = omega arith }) is
    (ap (λ (o : Option Refusal). unless_early o m (request_step rules m n q 0)) early) stands

pub vote_early : {R F : Type 0} (rules : Rules) (m : Machine) (n : ℕ) (user description extension : List ℕ) (pending : PendingChanges) (r : Refusal) (hub : HubState R F) (stamps : Option (List Stamp))
    → StandsForMachine hub m → hub.store.broken ≡ false → is_open_in hub.sessions n ≡ true → held_refusal n hub.vote ≡ Some r
    → MakesStep rules m n (request.Vote user description extension pending) (reply.Refused r) hub hub stamps stamps
vote_early rules m n user description extension pending r hub stamps stands whole is_open held =
    refused_at_once rules m n (request.Vote user description extension pending) r hub stamps stands
    (not_early m n (request.Vote user description extension pending) hub.sessions (sessions_whole m hub stands whole) is_open ∙ refusal_held m n hub stands whole ∙ held)
    (held_answered n hub.vote r held)

pub undo_early : {R F : Type 0} (rules : Rules) (m : Machine) (n : ℕ) (user description tids : List ℕ) (r : Refusal) (hub : HubState R F) (stamps : Option (List Stamp))
    → StandsForMachine hub m → hub.store.broken ≡ false → is_open_in hub.sessions n ≡ true → held_refusal n hub.vote ≡ Some r
    → MakesStep rules m n (request.Undo user description tids) (reply.Refused r) hub hub stamps stamps
undo_early rules m n user description tids r hub stamps stands whole is_open held =
    refused_at_once rules m n (request.Undo user description tids) r hub stamps stands
    (not_early m n (request.Undo user description tids) hub.sessions (sessions_whole m hub stands whole) is_open ∙ refusal_held m n hub stands whole ∙ held)
    (held_answered n hub.vote r held)

-- ---- a request that may vote

vote_allowed : {R F : Type 0} (m : Machine) (n : ℕ) (user description extension : List ℕ) (pending : PendingChanges) (hub : HubState R F)
    → StandsForMachine hub m → hub.store.broken ≡ false → is_open_in hub.sessions n ≡ true → held_refusal n hub.vote ≡ None → early_refusal m n (request.Vote user description extension pending) ≡ None
vote_allowed m n user description extension pending hub stands whole is_open free =
    not_early m n (request.Vote user description extension pending) hub.sessions (sessions_whole m hub stands whole) is_open ∙ refusal_held m n hub stands whole ∙ free

undo_allowed : {R F : Type 0} (m : Machine) (n : ℕ) (user description tids : List ℕ) (hub : HubState R F)
    → StandsForMachine hub m → hub.store.broken ≡ false → is_open_in hub.sessions n ≡ true → held_refusal n hub.vote ≡ None → early_refusal m n (request.Undo user description tids) ≡ None
undo_allowed m n user description tids hub stands whole is_open free =
    not_early m n (request.Undo user description tids) hub.sessions (sessions_whole m hub stands whole) is_open ∙ refusal_held m n hub stands whole ∙ free

some_refused : (b : Bool) (session : ℕ) → (if b then Some refusal.Voted else Some (refusal.Busy session)) ≡ None → ⊥
some_refused true session is = absurd cc
some_refused false session is = absurd cc

-- no vote is held
pub none_held : (n : ℕ) (vote : Option HubVote) → held_refusal n vote ≡ None → vote ≡ None
none_held n None free = refl
none_held n (Some v) free = absurd (some_refused (v.session == n) v.session free)

pub votes_for : {R F : Type 0} (rules : Rules) (m : Machine) (n : ℕ) (texts : Texts) (pending : PendingChanges) (changes : List NewChange) (hub : HubState R F)
    → StandsForMachine hub m → hub.store.broken ≡ false → is_open_in hub.sessions n ≡ true → held_refusal n hub.vote ≡ None
    → vote_decision rules.merging hub.store.list pending ≡ Ok (map (voted_change hub.store.list) changes)
    → VotesFor rules m n (request.Vote texts.user texts.description texts.extension pending) texts (Ok (map (voted_change m.list) changes))
votes_for rules m n texts pending changes hub stands whole is_open free decided =
    let early = vote_allowed m n texts.user texts.description texts.extension pending hub stands whole is_open free in
    record {
      early = early;
      reads = refl;
      memory = refl;
      packs = refl;
      step = λ stamp. ap (λ (o : Option Refusal). unless_early o m (vote_step m n texts stamp (vote_decision rules.merging m.list pending))) early
          ∙ ap (vote_step m n texts stamp) (subst (λ (l : List Transaction). vote_decision rules.merging l pending ≡ Ok (map (voted_change l) changes)) (sym (stands.list whole)) decided);
      changes = λ made. refl;
    }

pub undo_votes_for : {R F : Type 0} (rules : Rules) (m : Machine) (n : ℕ) (texts : Texts) (tids : List ℕ) (changes : List NewChange) (hub : HubState R F)
    → StandsForMachine hub m → hub.store.broken ≡ false → is_open_in hub.sessions n ≡ true → held_refusal n hub.vote ≡ None → texts.extension ≡ []
    → undone_of rules.merging hub.store.list tids ≡ Ok changes
    → VotesFor rules m n (request.Undo texts.user texts.description tids) texts (Ok (map (voted_change m.list) changes))
undo_votes_for rules m n texts tids changes hub stands whole is_open free bare undone =
    let early = undo_allowed m n texts.user texts.description tids hub stands whole is_open free in
    record {
      early = early;
      reads = refl;
      memory = refl;
      packs = refl;
      step = λ stamp. ap (λ (o : Option Refusal). unless_early o m (vote_step m n (record { user = texts.user; description = texts.description; extension = [] }) stamp (changes_undone m.list (undone_of rules.merging m.list tids)))) early
          ∙ ap (λ (e : List ℕ). vote_step m n (record { user = texts.user; description = texts.description; extension = e }) stamp (changes_undone m.list (undone_of rules.merging m.list tids))) (sym bare)
          ∙ ap (λ (d : Result (List NewChange) Refusal). vote_step m n texts stamp (changes_undone m.list d)) (subst (λ (l : List Transaction). undone_of rules.merging l tids ≡ Ok changes) (sym (stands.list whole)) undone);
      changes = λ made. refl;
    }

-- ---- a request whose vote is refused

decided_refused : {R F : Type 0} (rules : Rules) (m : Machine) (n : ℕ) (q : Request) (texts : Texts) (r : Refusal) (old new : HubState R F) (stamps : Option (List Stamp))
    → early_refusal m n q ≡ None → request_step rules m n q 0 ≡ replied_refusal m r → outcome_of (reply.Refused r) ≡ Answered
    → AreLaterCounts (counts_of old.store) (counts_of new.store) → StandsForMachine new m → MakesStep rules m n q (reply.Refused r) old new stamps stamps
decided_refused rules m n q texts r old new stamps early gives is later left =
    answered rules m n q (reply.Refused r) m old new stamps later is (ap (λ (o : Option Refusal). unless_early o m (request_step rules m n q 0)) early ∙ gives) left

vote_gives : (rules : Rules) (m : Machine) (n : ℕ) (user description extension : List ℕ) (pending : PendingChanges) (r : Refusal) → vote_decision rules.merging m.list pending ≡ Err r
    → request_step rules m n (request.Vote user description extension pending) 0 ≡ replied_refusal m r
vote_gives rules m n user description extension pending r is = ap (vote_step m n (record { user = user; description = description; extension = extension }) 0) is

vote_refused_with : {R F : Type 0} (rules : Rules) (m : Machine) (n : ℕ) (user description extension : List ℕ) (pending : PendingChanges) (why : VoteRefusal) (old new : HubState R F) (stamps : Option (List Stamp))
    → early_refusal m n (request.Vote user description extension pending) ≡ None → IsVoteRefusal (vote_decision rules.merging m.list pending) why → HasVoteCause old.store.read_faults new.store.read_faults why
    → AreLaterCounts (counts_of old.store) (counts_of new.store) → StandsForMachine new m
    → MakesStep rules m n (request.Vote user description extension pending) (vote_reply why) old new stamps stamps
vote_refused_with rules m n user description extension pending (vote_refusal.Conflict oid base current reason) old new stamps early is cause later left =
    decided_refused rules m n (request.Vote user description extension pending) (record { user = user; description = description; extension = extension }) (refusal.Conflict oid base current reason) old new stamps early
    (vote_gives rules m n user description extension pending (refusal.Conflict oid base current reason) is) refl later left
vote_refused_with rules m n user description extension pending (vote_refusal.NothingToDelete oid current) old new stamps early is cause later left =
    decided_refused rules m n (request.Vote user description extension pending) (record { user = user; description = description; extension = extension }) (refusal.NothingToDelete oid current) old new stamps early
    (vote_gives rules m n user description extension pending (refusal.NothingToDelete oid current) is) refl later left
vote_refused_with rules m n user description extension pending (vote_refusal.ReadConflict oid base current) old new stamps early is cause later left =
    decided_refused rules m n (request.Vote user description extension pending) (record { user = user; description = description; extension = extension }) (refusal.ReadConflict oid base current) old new stamps early
    (vote_gives rules m n user description extension pending (refusal.ReadConflict oid base current) is) refl later left
vote_refused_with rules m n user description extension pending (vote_refusal.TooLong k) old new stamps early is cause later left =
    decided_refused rules m n (request.Vote user description extension pending) (record { user = user; description = description; extension = extension }) (refusal.TooLong k) old new stamps early
    (vote_gives rules m n user description extension pending (refusal.TooLong k) is) refl later left
vote_refused_with rules m n user description extension pending vote_refusal.ReadFault old new stamps early is cause later left =
    reading_failed rules m n (request.Vote user description extension pending) old new stamps later (record { allowed = early; one = refl }) cause left
vote_refused_with rules m n user description extension pending vote_refusal.Memory old new stamps early is cause later left =
    starved rules m n (request.Vote user description extension pending) old new stamps later (record { allowed = early; one = refl }) left

pub vote_refused : {R F : Type 0} (rules : Rules) (m : Machine) (n : ℕ) (user description extension : List ℕ) (pending : PendingChanges) (why : VoteRefusal) (old new : HubState R F) (stamps : Option (List Stamp))
    → StandsForMachine old m → old.store.broken ≡ false → is_open_in old.sessions n ≡ true → held_refusal n old.vote ≡ None
    → IsVoteRefusal (vote_decision rules.merging old.store.list pending) why → HasVoteCause old.store.read_faults new.store.read_faults why
    → AreLaterCounts (counts_of old.store) (counts_of new.store) → StandsForMachine new m
    → MakesStep rules m n (request.Vote user description extension pending) (vote_reply why) old new stamps stamps
vote_refused rules m n user description extension pending why old new stamps stands whole is_open free is cause later left =
    vote_refused_with rules m n user description extension pending why old new stamps (vote_allowed m n user description extension pending old stands whole is_open free)
    (subst (λ (l : List Transaction). IsVoteRefusal (vote_decision rules.merging l pending) why) (sym (stands.list whole)) is) cause later left

undo_gives : (rules : Rules) (m : Machine) (n : ℕ) (user description tids : List ℕ) (r : Refusal) → undone_of rules.merging m.list tids ≡ Err r
    → request_step rules m n (request.Undo user description tids) 0 ≡ replied_refusal m r
undo_gives rules m n user description tids r is = ap (λ (d : Result (List NewChange) Refusal). vote_step m n (record { user = user; description = description; extension = [] }) 0 (changes_undone m.list d)) is

undo_refused_with : {R F : Type 0} (rules : Rules) (m : Machine) (n : ℕ) (user description tids : List ℕ) (why : UndoRefusal) (old new : HubState R F) (stamps : Option (List Stamp))
    → early_refusal m n (request.Undo user description tids) ≡ None → RefusesUndo (undone_of rules.merging m.list tids) why → HasUndoCause old.store.read_faults new.store.read_faults why
    → AreLaterCounts (counts_of old.store) (counts_of new.store) → StandsForMachine new m
    → MakesStep rules m n (request.Undo user description tids) (undo_reply why) old new stamps stamps
undo_refused_with rules m n user description tids (undo_refusal.UndoUnknown tid) old new stamps early is cause later left =
    decided_refused rules m n (request.Undo user description tids) (record { user = user; description = description; extension = [] }) (refusal.UndoUnknown tid) old new stamps early
    (undo_gives rules m n user description tids (refusal.UndoUnknown tid) is) refl later left
undo_refused_with rules m n user description tids (undo_refusal.UndoPacked tid) old new stamps early is cause later left =
    decided_refused rules m n (request.Undo user description tids) (record { user = user; description = description; extension = [] }) (refusal.UndoPacked tid) old new stamps early
    (undo_gives rules m n user description tids (refusal.UndoPacked tid) is) refl later left
undo_refused_with rules m n user description tids (undo_refusal.UndoConflict oid conflict) old new stamps early is cause later left =
    decided_refused rules m n (request.Undo user description tids) (record { user = user; description = description; extension = [] }) (refusal.UndoConflict oid conflict) old new stamps early
    (undo_gives rules m n user description tids (refusal.UndoConflict oid conflict) is) refl later left
undo_refused_with rules m n user description tids undo_refusal.ReadFault old new stamps early is cause later left =
    reading_failed rules m n (request.Undo user description tids) old new stamps later (record { allowed = early; one = refl }) cause left
undo_refused_with rules m n user description tids undo_refusal.Memory old new stamps early is cause later left =
    starved rules m n (request.Undo user description tids) old new stamps later (record { allowed = early; one = refl }) left

pub undo_refused : {R F : Type 0} (rules : Rules) (m : Machine) (n : ℕ) (user description tids : List ℕ) (why : UndoRefusal) (old new : HubState R F) (stamps : Option (List Stamp))
    → StandsForMachine old m → old.store.broken ≡ false → is_open_in old.sessions n ≡ true → held_refusal n old.vote ≡ None
    → RefusesUndo (undone_of rules.merging old.store.list tids) why → HasUndoCause old.store.read_faults new.store.read_faults why
    → AreLaterCounts (counts_of old.store) (counts_of new.store) → StandsForMachine new m
    → MakesStep rules m n (request.Undo user description tids) (undo_reply why) old new stamps stamps
undo_refused rules m n user description tids why old new stamps stands whole is_open free is cause later left =
    undo_refused_with rules m n user description tids why old new stamps (undo_allowed m n user description tids old stands whole is_open free)
    (subst (λ (l : List Transaction). RefusesUndo (undone_of rules.merging l tids) why) (sym (stands.list whole)) is) cause later left

-- ---- what was decided is voted by a hub that was read meanwhile

at_later : {R F : Type 0} (rules : Rules) (m : Machine) (n : ℕ) (q : Request) (r : Reply) (old mid new : HubState R F) (stamp : ℕ) (ticks : Bool)
    → AreLaterCounts (counts_of old.store) (counts_of mid.store) → MakesStepAt stamp ticks rules m n q r mid new → MakesStepAt stamp ticks rules m n q r old new
at_later rules m n q r old mid new stamp ticks later step = record {
  left = step.left;
  made = record {
    later = later_both (counts_of old.store) (counts_of mid.store) (counts_of new.store) later step.made.later;
    cause = ends_later rules m n q stamp (record { reply = r; machine = step.left; ticks = ticks }) (counts_of old.store) (counts_of mid.store) (counts_of new.store) (outcome_of r) later step.made.cause;
    left = step.made.left;
    ticks = step.made.ticks;
    failed_ticks = step.made.failed_ticks;
  };
  stands = step.stands;
}

pub through_hold : {R F : Type 0} (rules held : Rules) (m : Machine) (n : ℕ) (q : Request) (texts : Texts) (decided : Result (List Change) Refusal) (r : Reply) (old mid new : HubState R F) (stamp : ℕ) (ticks : Bool)
    → (VotesFor held m n q texts decided → MakesStepAt stamp ticks held m n q r mid new) → VotesFor rules m n q texts decided → held ≡ rules → AreLaterCounts (counts_of old.store) (counts_of mid.store)
    → MakesStepAt stamp ticks rules m n q r old new
through_hold rules held m n q texts decided r old mid new stamp ticks holds votes same later =
    at_later rules m n q r old mid new stamp ticks later
    (subst (λ (x : Rules). MakesStepAt stamp ticks x m n q r mid new) same (holds (subst (λ (x : Rules). VotesFor x m n q texts decided) (sym same) votes)))

-- a crash in what follows a read leaves what the list was before the read
pub leaves_after : (stands_for : List ℕ → List Transaction → Type 0) (shown mid : StoreState) (log : List Event) → LeavesOnly Main (λ bytes. stands_for bytes mid.list) mid.log log → ReadKeepsRest shown mid
    → LeavesOnly Main (λ bytes. stands_for bytes shown.list) shown.log log
leaves_after stands_for shown mid log only same = subst (λ (x : StoreState). LeavesOnly Main (λ bytes. stands_for bytes x.list) x.log log) same only
