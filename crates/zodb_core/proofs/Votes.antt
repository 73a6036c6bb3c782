-- How a vote or a session ends.
use Rattle.std.proofs.Common.{◌≡◌, ℕ, zero, suc, ◌≤◌, inl, inr, ⊎_elim, List, [], ◌∷◌, ◌++◌, Option, Some, None, Bool, true, false, not, if◌then◌else◌, length, map, max, refl, sym, ap, subst, ◌∙◌, arith}
use Rattle.std.specs.Prelude.{slice_set}
use Rattle.std.proofs.lemmas.List.{length-append}
use Rattle.std.specs.Option.{ForSome, option_map, option_or, is_some}
use Rattle.std.proofs.lemmas.Bool.{eq-eqb, eqb-true, true≢false}
use Rattle.zb_base.specs.Counts.{Rose}
use Rattle.zb_ids.specs.declared.stamp.Stamp.{Stamp}
use Rattle.zb_model.specs.declared.data.Transaction.{Transaction}
use Rattle.zb_model.specs.declared.refusal.Refusal.{Refusal}
use Rattle.zb_model.specs.declared.refusal.Refusal.TheVariants as refusal
use Rattle.zb_model.specs.Queries.{greatest_of, oids_of}
use Rattle.zb_model.specs.Stores.{BegunPack, DropKeepsRest, KeepsBegun, StandsForOneOf, StoreState}
use Rattle.zb_volume.specs.declared.areas.Area.TheVariants.{Main}
use Rattle.zb_volume.specs.Calls.{Event}
use Rattle.zb_volume.specs.Moments.{here, Leaves, LeavesOnly}
use Rattle.zb_volume.specs.Runs.{leaves_less}
use Rattle.zodb_core.specs.declared.journal.JournalEntry.{JournalEntry}
use Rattle.zodb_core.specs.declared.journal.JournalEntry.TheVariants as journal
use Rattle.zodb_core.specs.declared.reply.Reply.TheVariants as reply
use Rattle.zodb_core.specs.declared.request.Request.{Request}
use Rattle.zodb_core.specs.declared.request.Request.TheVariants as request
use Rattle.zodb_core.specs.declared.vote.HubVote.{HubVote}
use Rattle.zodb_core.specs.declared.vote.VotedEntry.{VotedEntry}
use Rattle.zodb_core.specs.declared.open_pack.HubPack.{HubPack}
use Rattle.zodb_core.specs.HubState.{HubState, IsBeforeOrBehind, IsEntryOf, IsWithin, MakesStep, StandsForMachine, counts_of, has_vote, owns_pack, pack_of_hub, vote_of_hub, sessions_with}
use Rattle.zodb_core.specs.Machine.{Machine, MachineSession, MachineVote, OpenPack, Rules, has_pack, holds_vote, is_open_in}
use Rattle.zodb_core.specs.Outcomes.{AreLaterCounts, changes_store, closed_session, failed, holds_writes}
use Rattle.zodb_core.specs.Packing.{without_pack_of}
use Rattle.zodb_core.specs.Steps.{Stepped, early_refusal, finish_gives, finish_step, refuse_if, replied, request_refusal, request_step, step_of, unless_early, with_commit, without_session, without_vote}
use Rattle.zodb_core.proofs.Stepping.{answered, not_early, pack_lost, pack_more, pack_of_store, pack_same, pack_whole, sessions_whole}

-- ---- the vote that a session holds

held_by : (n : ℕ) (vote : Option HubVote) (voted : Option Transaction) → has_vote n vote ≡ true → option_map (vote_of_hub voted) vote ≡ Some (record { session = n; writes = voted })
held_by n None voted e = absurd cc
held_by n (Some v) voted e = ap (λ (k : ℕ). let x : MachineVote = record { session = k; writes = voted } in Some x) (eqb-true v.session n e)

-- the machine's vote is the session's, and writes what the store has voted
pub vote_held : {R F : Type 0} (m : Machine) (n : ℕ) (hub : HubState R F) → StandsForMachine hub m → hub.store.broken ≡ false → has_vote n hub.vote ≡ true
    → m.vote ≡ Some (record { session = n; writes = hub.store.voted })
vote_held m n hub stands whole held = stands.vote whole ∙ held_by n hub.vote hub.store.voted held

holds_own : (n : ℕ) (writes : Option Transaction) (vote : Option MachineVote) → vote ≡ Some (record { session = n; writes = writes }) → holds_vote n vote ≡ true
holds_own n writes vote is = ap (holds_vote n) is ∙ eq-eqb n n refl

-- ---- finish

finish_of : (rules : Rules) (m : Machine) (n stamp : ℕ) (writes : Option Transaction) → is_open_in m.sessions n ≡ true → m.vote ≡ Some (record { session = n; writes = writes })
    → step_of rules m n request.Finish stamp ≡ finish_gives m n writes
finish_of rules m n stamp writes is_open vote =
    ap (λ (b : Bool). unless_early (option_or (refuse_if (not b) refusal.NotOpen) (refuse_if (not (holds_vote n m.vote)) refusal.NotVoted)) m (finish_step m n m.vote)) is_open
    ∙ ap (λ (b : Bool). unless_early (refuse_if (not b) refusal.NotVoted) m (finish_step m n m.vote)) (holds_own n writes m.vote vote)
    ∙ ap (finish_step m n) vote

pub finish_empty : {R F : Type 0} (rules : Rules) (m : Machine) (n : ℕ) (old new : HubState R F) (stamps : Option (List Stamp))
    → StandsForMachine old m → is_open_in old.sessions n ≡ true → old.store.broken ≡ false → has_vote n old.vote ≡ true → old.store.voted ≡ None
    → new.store ≡ old.store → new.journal ≡ old.journal → new.greatest ≡ old.greatest → new.sessions ≡ old.sessions → new.vote ≡ None → new.pack ≡ old.pack
    → MakesStep rules m n request.Finish reply.Empty old new stamps stamps
finish_empty rules m n old new stamps stands is_open whole held voted store entries greatest sessions vote pack =
    answered rules m n request.Finish reply.Empty (record m { vote = None }) old new stamps
    (record { reads = subst (λ (s : StoreState). old.store.read_faults ≤ s.read_faults) (sym store) (omega arith); others = subst (λ (s : StoreState). old.store.faults ≤ s.faults) (sym store) (omega arith) })
    refl
    (finish_of rules m n 0 None (ap (λ (xs : List MachineSession). is_open_in xs n) (sessions_whole m old stands whole) ∙ is_open)
    (vote_held m n old stands whole held ∙ ap (λ (w : Option Transaction). let x : MachineVote = record { session = n; writes = w } in Some x) voted))
    (record {
      journal = stands.journal ∙ sym entries;
      greatest = stands.greatest ∙ sym greatest;
      sessions = sessions_whole m old stands whole ∙ sym (ap (λ (s : StoreState). sessions_with s.broken new.sessions) store ∙ ap (λ (b : Bool). sessions_with b new.sessions) whole ∙ sessions);
      pack = stands.pack ∙ pack_of_store old.store new.store (length old.journal) (length new.journal) old.pack new.pack store (ap length entries) pack;
      failed = stands.failed ∙ sym (ap (λ (s : StoreState). s.broken) store);
      list = λ _. stands.list whole ∙ sym (ap (λ (s : StoreState). s.list) store);
      vote = λ _. sym (ap (option_map (vote_of_hub new.store.voted)) vote);
    })

committed_with : {R F : Type 0} (rules : Rules) (m : Machine) (n : ℕ) (t : Transaction) (e : VotedEntry) (old new : HubState R F) (stamps : Option (List Stamp))
    → StandsForMachine old m → is_open_in old.sessions n ≡ true → old.store.broken ≡ false → has_vote n old.vote ≡ true → old.store.voted ≡ Some t
    → e.tid ≡ t.tid → e.oids ≡ oids_of t → AreLaterCounts (counts_of old.store) (counts_of new.store)
    → new.store.broken ≡ false → new.store.list ≡ old.store.list ++ t ∷ []
    → new.journal ≡ old.journal ++ journal.Commit n e.tid e.oids ∷ [] → new.greatest ≡ max old.greatest (greatest_of e.oids) → new.sessions ≡ old.sessions → new.vote ≡ None
    → new.store.begun ≡ old.store.begun → new.pack ≡ old.pack → IsWithin old.pack (length old.journal)
    → MakesStep rules m n request.Finish (reply.Committed e.tid) old new stamps stamps
committed_with rules m n t e old new stamps stands is_open whole held voted tid oids later still list entries greatest sessions vote begun pack within =
    answered rules m n request.Finish (reply.Committed e.tid) (with_commit m n t) old new stamps later refl
    (finish_of rules m n 0 (Some t) (ap (λ (xs : List MachineSession). is_open_in xs n) (sessions_whole m old stands whole) ∙ is_open)
    (vote_held m n old stands whole held ∙ ap (λ (w : Option Transaction). let x : MachineVote = record { session = n; writes = w } in Some x) voted)
    ∙ ap (λ (k : ℕ). replied (with_commit m n t) (reply.Committed k)) (sym tid))
    (record {
      journal = ap (λ (es : List JournalEntry). es ++ journal.Commit n t.tid (oids_of t) ∷ []) stands.journal
          ∙ sym (entries ∙ ap (λ (k : ℕ). old.journal ++ journal.Commit n k e.oids ∷ []) tid ∙ ap (λ (os : List ℕ). old.journal ++ journal.Commit n t.tid os ∷ []) oids);
      greatest = ap (λ (k : ℕ). max k (greatest_of (oids_of t))) stands.greatest ∙ sym (greatest ∙ ap (λ (os : List ℕ). max old.greatest (greatest_of os)) oids);
      sessions = sessions_whole m old stands whole ∙ sym (ap (λ (b : Bool). sessions_with b new.sessions) still ∙ sessions);
      pack = stands.pack ∙ pack_more old.store new.store (length old.journal) (length new.journal) t old.pack new.pack whole still list begun (ap length entries ∙ length-append old.journal (journal.Commit n e.tid e.oids ∷ [])) pack within;
      failed = stands.failed ∙ whole ∙ sym still;
      list = λ _. ap (λ (ts : List Transaction). ts ++ t ∷ []) (stands.list whole) ∙ sym list;
      vote = λ _. sym (ap (option_map (vote_of_hub new.store.voted)) vote);
    })

pub finish_committed : {R F : Type 0} (rules : Rules) (m : Machine) (n : ℕ) (voted : Option Transaction) (e : VotedEntry) (old new : HubState R F) (stamps : Option (List Stamp))
    → StandsForMachine old m → is_open_in old.sessions n ≡ true → old.store.broken ≡ false → has_vote n old.vote ≡ true → old.store.voted ≡ voted
    → is_some voted ≡ true → IsEntryOf (Some e) voted → AreLaterCounts (counts_of old.store) (counts_of new.store)
    → new.store.broken ≡ false → ForSome voted (λ t. new.store.list ≡ old.store.list ++ t ∷ [])
    → new.journal ≡ old.journal ++ journal.Commit n e.tid e.oids ∷ [] → new.greatest ≡ max old.greatest (greatest_of e.oids) → new.sessions ≡ old.sessions → new.vote ≡ None
    → (told : Type 0) → told → KeepsBegun told old.store new.store → new.pack ≡ old.pack → IsWithin old.pack (length old.journal)
    → MakesStep rules m n request.Finish (reply.Committed e.tid) old new stamps stamps
finish_committed rules m n None e old new stamps stands is_open whole held voted some entry later still list entries greatest sessions vote told tells begun pack within = absurd cc
finish_committed rules m n (Some t) e old new stamps stands is_open whole held voted some entry later still list entries greatest sessions vote told tells begun pack within =
    committed_with rules m n t e old new stamps stands is_open whole held voted entry.0 entry.1 later still (list t refl) entries greatest sessions vote (begun.all tells) pack within

-- ---- what a crash in a step leaves

-- a store that a step leaves leaves what it stood for
pub moments_kept : {R F : Type 0} (stands_for : List ℕ → List Transaction → Type 0) (rules : Rules) (m : Machine) (n : ℕ) (q : Request) (hub : HubState R F) (log : List Event)
    → StandsForMachine hub m → hub.store.broken ≡ false → Leaves Main (λ bytes. stands_for bytes hub.store.list) hub.store.log → log ≡ hub.store.log
    → LeavesOnly Main (IsBeforeOrBehind stands_for rules m n q) hub.store.log log
moments_kept stands_for rules m n q hub log stands whole leaves same =
    subst (λ (l : List Event). LeavesOnly Main (IsBeforeOrBehind stands_for rules m n q) hub.store.log l) (sym same)
    (here (λ bytes crash. inl (subst (stands_for bytes) (sym (stands.list whole)) (leaves bytes crash))))

-- and so does one that only leaves the list that it had
pub moments_same : {R F : Type 0} (stands_for : List ℕ → List Transaction → Type 0) (rules : Rules) (m : Machine) (n : ℕ) (q : Request) (hub : HubState R F) (log : List Event)
    → StandsForMachine hub m → hub.store.broken ≡ false → LeavesOnly Main (λ bytes. stands_for bytes hub.store.list) hub.store.log log
    → LeavesOnly Main (IsBeforeOrBehind stands_for rules m n q) hub.store.log log
moments_same stands_for rules m n q hub log stands whole only =
    leaves_less Main (λ bytes. stands_for bytes hub.store.list) (IsBeforeOrBehind stands_for rules m n q) hub.store.log log (λ bytes left. inl (subst (stands_for bytes) (sym (stands.list whole)) left)) only

finish_moments : {R F : Type 0} (stands_for : List ℕ → List Transaction → Type 0) (rules : Rules) (m : Machine) (n : ℕ) (t : Transaction) (hub : HubState R F) (log : List Event)
    → StandsForMachine hub m → hub.store.broken ≡ false → is_open_in hub.sessions n ≡ true → has_vote n hub.vote ≡ true → hub.store.voted ≡ Some t
    → LeavesOnly Main (StandsForOneOf stands_for hub.store.list t) hub.store.log log
    → LeavesOnly Main (IsBeforeOrBehind stands_for rules m n request.Finish) hub.store.log log
finish_moments stands_for rules m n t hub log stands whole is_open held voted only =
    leaves_less Main (StandsForOneOf stands_for hub.store.list t) (IsBeforeOrBehind stands_for rules m n request.Finish) hub.store.log log
    (λ bytes left. ⊎_elim
    (λ before. inl (subst (stands_for bytes) (sym (stands.list whole)) before))
    (λ behind. inr (λ stamp. subst (stands_for bytes)
    (sym (ap (λ (s : Stepped). s.machine.list)
    (finish_of rules m n stamp (Some t) (ap (λ (xs : List MachineSession). is_open_in xs n) (sessions_whole m hub stands whole) ∙ is_open)
    (vote_held m n hub stands whole held ∙ ap (λ (w : Option Transaction). let x : MachineVote = record { session = n; writes = w } in Some x) voted))
    ∙ ap (λ (ts : List Transaction). ts ++ t ∷ []) (stands.list whole)))
    behind))
    left)
    only

pub moments_finish : {R F : Type 0} (stands_for : List ℕ → List Transaction → Type 0) (rules : Rules) (m : Machine) (n : ℕ) (voted : Option Transaction) (hub : HubState R F) (log : List Event)
    → StandsForMachine hub m → hub.store.broken ≡ false → is_open_in hub.sessions n ≡ true → has_vote n hub.vote ≡ true → hub.store.voted ≡ voted → is_some voted ≡ true
    → ForSome voted (λ t. LeavesOnly Main (StandsForOneOf stands_for hub.store.list t) hub.store.log log)
    → LeavesOnly Main (IsBeforeOrBehind stands_for rules m n request.Finish) hub.store.log log
moments_finish stands_for rules m n None hub log stands whole is_open held voted some only = absurd cc
moments_finish stands_for rules m n (Some t) hub log stands whole is_open held voted some only = finish_moments stands_for rules m n t hub log stands whole is_open held voted (only t refl)

-- ---- a vote is dropped

-- a store that wasn't touched leaves what it stood for
pub leaves_now : (stands_for : List ℕ → List Transaction → Type 0) (shown s : StoreState) (log : List Event) → shown ≡ s → Leaves Main (λ bytes. stands_for bytes s.list) s.log → log ≡ shown.log
    → LeavesOnly Main (λ bytes. stands_for bytes shown.list) shown.log log
leaves_now stands_for shown s log is leaves same = subst (λ (l : List Event). LeavesOnly Main (λ bytes. stands_for bytes shown.list) shown.log l) (sym same)
    (here (subst (λ (x : StoreState). Leaves Main (λ bytes. stands_for bytes x.list) x.log) (sym is) leaves))

-- and one that only leaves the list that it had
pub leaves_same : (stands_for : List ℕ → List Transaction → Type 0) (shown s : StoreState) (log : List Event) → shown ≡ s → LeavesOnly Main (λ bytes. stands_for bytes s.list) s.log log
    → LeavesOnly Main (λ bytes. stands_for bytes shown.list) shown.log log
leaves_same stands_for shown s log is only = subst (λ (x : StoreState). LeavesOnly Main (λ bytes. stands_for bytes x.list) x.log log) (sym is) only

not_held : (n : ℕ) (vote : Option HubVote) (voted : Option Transaction) → has_vote n vote ≡ false → holds_vote n (option_map (vote_of_hub voted) vote) ≡ false
not_held n None voted e = refl
not_held n (Some v) voted e = e

kept_vote : (b : Bool) (vote : Option MachineVote) → b ≡ false → (if b then None else vote) ≡ vote
kept_vote false vote e = refl
kept_vote true vote e = absurd cc

lost_vote : (b : Bool) (vote : Option MachineVote) → b ≡ true → (if b then None else vote) ≡ None
lost_vote true vote e = refl
lost_vote false vote e = absurd cc

-- the session holds no vote
pub dropped_none : {R F : Type 0} (m : Machine) (n : ℕ) (old new : HubState R F) → StandsForMachine old m → old.store.broken ≡ false → has_vote n old.vote ≡ false
    → new.store ≡ old.store → new.journal ≡ old.journal → new.greatest ≡ old.greatest → new.sessions ≡ old.sessions → new.vote ≡ old.vote → new.pack ≡ old.pack
    → StandsForMachine new (without_vote m n)
dropped_none m n old new stands whole not store entries greatest sessions vote pack = record {
  journal = stands.journal ∙ sym entries;
  greatest = stands.greatest ∙ sym greatest;
  sessions = sessions_whole m old stands whole ∙ sym (ap (λ (s : StoreState). sessions_with s.broken new.sessions) store ∙ ap (λ (b : Bool). sessions_with b new.sessions) whole ∙ sessions);
  pack = stands.pack ∙ pack_of_store old.store new.store (length old.journal) (length new.journal) old.pack new.pack store (ap length entries) pack;
  failed = stands.failed ∙ sym (ap (λ (s : StoreState). s.broken) store);
  list = λ _. stands.list whole ∙ sym (ap (λ (s : StoreState). s.list) store);
  vote = λ _. kept_vote (holds_vote n m.vote) m.vote (ap (holds_vote n) (stands.vote whole) ∙ not_held n old.vote old.store.voted not)
      ∙ stands.vote whole ∙ sym (ap (λ (s : StoreState). option_map (vote_of_hub s.voted) new.vote) store ∙ ap (option_map (vote_of_hub old.store.voted)) vote);
}

-- it held it, and the store has voted nothing any more
pub dropped_writes : {R F : Type 0} (m : Machine) (n : ℕ) (old new : HubState R F) → StandsForMachine old m → old.store.broken ≡ false → has_vote n old.vote ≡ true
    → new.store.broken ≡ false → new.store.list ≡ old.store.list → new.journal ≡ old.journal → new.greatest ≡ old.greatest → new.sessions ≡ old.sessions → new.vote ≡ None
    → (told : Type 0) → told → KeepsBegun told old.store new.store → new.pack ≡ old.pack
    → StandsForMachine new (without_vote m n)
dropped_writes m n old new stands whole held still list entries greatest sessions vote told tells begun pack = record {
  journal = stands.journal ∙ sym entries;
  greatest = stands.greatest ∙ sym greatest;
  sessions = sessions_whole m old stands whole ∙ sym (ap (λ (b : Bool). sessions_with b new.sessions) still ∙ sessions);
  pack = stands.pack ∙ pack_same old.store new.store (length old.journal) (length new.journal) old.pack new.pack (still ∙ sym whole) list (begun.all tells) (ap length entries) pack;
  failed = stands.failed ∙ whole ∙ sym still;
  list = λ _. stands.list whole ∙ sym list;
  vote = λ _. lost_vote (holds_vote n m.vote) m.vote (holds_own n old.store.voted m.vote (vote_held m n old stands whole held)) ∙ sym (ap (option_map (vote_of_hub new.store.voted)) vote);
}

-- the store failed
pub dropped_failed : {R F : Type 0} (m : Machine) (old new : HubState R F) → StandsForMachine old m → old.store.broken ≡ false
    → new.store.broken ≡ true → new.journal ≡ old.journal → new.greatest ≡ old.greatest → new.sessions ≡ old.sessions
    → StandsForMachine new (failed m)
dropped_failed m old new stands whole broke entries greatest sessions = record {
  journal = stands.journal ∙ sym entries;
  greatest = stands.greatest ∙ sym greatest;
  sessions = ap (map closed_session) (sessions_whole m old stands whole ∙ sym sessions) ∙ sym (ap (λ (b : Bool). sessions_with b new.sessions) broke);
  pack = sym (pack_lost new.store (length new.journal) new.pack broke);
  failed = sym broke;
  list = λ still. absurd (true≢false (sym broke ∙ still));
  vote = λ still. absurd (true≢false (sym broke ∙ still));
}

own_writes : (n : ℕ) (writes : Option Transaction) (vote : Option MachineVote) → is_some writes ≡ true → vote ≡ Some (record { session = n; writes = writes }) → holds_writes n vote ≡ true
own_writes n writes vote some is = ap (holds_writes n) is ∙ ap (λ (b : Bool). if b then is_some writes else false) (eq-eqb n n refl) ∙ some

-- what the session's vote was to write was voted
pub held_writes : {R F : Type 0} (m : Machine) (n : ℕ) (hub : HubState R F) → StandsForMachine hub m → hub.store.broken ≡ false → has_vote n hub.vote ≡ true → is_some hub.store.voted ≡ true
    → holds_writes n m.vote ≡ true
held_writes m n hub stands whole held some = own_writes n hub.store.voted m.vote some (vote_held m n hub stands whole held)

-- ---- a step that failed in the store, without the clock

still_unless : (o : Option Refusal) (m : Machine) (made : Stepped) → made.ticks ≡ false → (unless_early o m made).ticks ≡ false
still_unless None m made still = still
still_unless (Some r) m made still = refl

abort_still : (rules : Rules) (m : Machine) (n stamp : ℕ) → (step_of rules m n request.Abort stamp).ticks ≡ false
abort_still rules m n stamp = still_unless (early_refusal m n request.Abort) m (request_step rules m n request.Abort stamp) refl

close_still : (rules : Rules) (m : Machine) (n stamp : ℕ) → (step_of rules m n request.Close stamp).ticks ≡ false
close_still rules m n stamp = still_unless (early_refusal m n request.Close) m (request_step rules m n request.Close stamp) refl

pub store_failed : {R F : Type 0} (rules : Rules) (m : Machine) (n : ℕ) (q : Request) (old new : HubState R F) (stamps : Option (List Stamp))
    → AreLaterCounts (counts_of old.store) (counts_of new.store) → early_refusal m n q ≡ None → changes_store m n q (step_of rules m n q 0) ≡ true
    → (step_of rules m n q 0).ticks ≡ false → Rose old.store.faults new.store.faults → StandsForMachine new (failed m)
    → MakesStep rules m n q (reply.Refused refusal.StoreFault) old new stamps stamps
store_failed rules m n q old new stamps later early changes still rose stands = record {
  stamp = 0;
  left = failed m;
  ticks = false;
  clock = refl;
  stands = stands;
  made = record { later = later; cause = (record { allowed = early; one = changes }, rose); left = refl; ticks = λ never. absurd cc; failed_ticks = λ fault. sym still };
}

open_in : {R F : Type 0} (m : Machine) (n : ℕ) (hub : HubState R F) → StandsForMachine hub m → hub.store.broken ≡ false → is_open_in hub.sessions n ≡ true → is_open_in m.sessions n ≡ true
open_in m n hub stands whole is_open = ap (λ (xs : List MachineSession). is_open_in xs n) (sessions_whole m hub stands whole) ∙ is_open

-- ---- abort

pub abort_dropped : {R F : Type 0} (rules : Rules) (m : Machine) (n : ℕ) (old new : HubState R F) (stamps : Option (List Stamp))
    → StandsForMachine old m → old.store.broken ≡ false → is_open_in old.sessions n ≡ true → AreLaterCounts (counts_of old.store) (counts_of new.store)
    → StandsForMachine new (without_vote m n) → MakesStep rules m n request.Abort reply.Aborted old new stamps stamps
abort_dropped rules m n old new stamps stands whole is_open later left =
    answered rules m n request.Abort reply.Aborted (without_vote m n) old new stamps later refl
    (ap (λ (o : Option Refusal). unless_early o m (replied (without_vote m n) reply.Aborted)) (not_early m n request.Abort old.sessions (sessions_whole m old stands whole) is_open))
    left

pub abort_failed : {R F : Type 0} (rules : Rules) (m : Machine) (n : ℕ) (old new : HubState R F) (stamps : Option (List Stamp))
    → StandsForMachine old m → old.store.broken ≡ false → is_open_in old.sessions n ≡ true → AreLaterCounts (counts_of old.store) (counts_of new.store)
    → holds_writes n m.vote ≡ true → Rose old.store.faults new.store.faults
    → StandsForMachine new (failed m) → MakesStep rules m n request.Abort (reply.Refused refusal.StoreFault) old new stamps stamps
abort_failed rules m n old new stamps stands whole is_open later writes rose left =
    store_failed rules m n request.Abort old new stamps later (not_early m n request.Abort old.sessions (sessions_whole m old stands whole) is_open) writes (abort_still rules m n 0) rose left

-- ---- close

-- the hub has no pack of the session
owns_shown : (n : ℕ) (p : Option HubPack) (list : List Transaction) (begun : Option BegunPack) (entries : ℕ) → has_pack n (option_map (pack_of_hub list begun entries) p) ≡ owns_pack n p
owns_shown n None list begun entries = refl
owns_shown n (Some p) list begun entries = refl

pack_owned : {R F : Type 0} (m : Machine) (n : ℕ) (hub : HubState R F) → StandsForMachine hub m → hub.store.broken ≡ false → has_pack n m.pack ≡ owns_pack n hub.pack
pack_owned m n hub stands whole =
    ap (has_pack n) (stands.pack ∙ pack_whole hub.store (length hub.journal) hub.pack whole) ∙ owns_shown n hub.pack hub.store.list hub.store.begun (length hub.journal)

kept_pack : (b : Bool) (pack : Option OpenPack) → b ≡ false → (if b then None else pack) ≡ pack
kept_pack false pack e = refl
kept_pack true pack e = absurd cc

lost_pack : (b : Bool) (pack : Option OpenPack) → b ≡ true → (if b then None else pack) ≡ None
lost_pack true pack e = refl
lost_pack false pack e = absurd cc

pub pack_unowned : {R F : Type 0} (m : Machine) (n : ℕ) (hub : HubState R F) → StandsForMachine hub m → hub.store.broken ≡ false → owns_pack n hub.pack ≡ false → StandsForMachine hub (without_pack_of m n)
pack_unowned m n hub stands whole not = record {
  journal = stands.journal;
  greatest = stands.greatest;
  sessions = stands.sessions;
  pack = kept_pack (has_pack n m.pack) m.pack (pack_owned m n hub stands whole ∙ not) ∙ stands.pack;
  failed = stands.failed;
  list = stands.list;
  vote = stands.vote;
}

-- it had one, and has none any more
pub pack_disowned : {R F : Type 0} (m : Machine) (n : ℕ) (old new : HubState R F) → StandsForMachine old m → old.store.broken ≡ false → owns_pack n old.pack ≡ true → DropKeepsRest old.store new.store
    → new.journal ≡ old.journal → new.greatest ≡ old.greatest → new.sessions ≡ old.sessions → new.vote ≡ old.vote → new.pack ≡ None → StandsForMachine new (without_pack_of m n)
pack_disowned m n old new stands whole owns same entries greatest sessions vote pack = record {
  journal = stands.journal ∙ sym entries;
  greatest = stands.greatest ∙ sym greatest;
  sessions = stands.sessions ∙ sym (ap (λ (s : StoreState). sessions_with s.broken new.sessions) same ∙ ap (sessions_with old.store.broken) sessions);
  pack = lost_pack (has_pack n m.pack) m.pack (pack_owned m n old stands whole ∙ owns)
      ∙ sym (pack_whole new.store (length new.journal) new.pack (ap (λ (s : StoreState). s.broken) same ∙ whole) ∙ ap (option_map (pack_of_hub new.store.list new.store.begun (length new.journal))) pack);
  failed = stands.failed ∙ sym (ap (λ (s : StoreState). s.broken) same);
  list = λ _. stands.list whole ∙ sym (ap (λ (s : StoreState). s.list) same);
  vote = λ _. stands.vote whole ∙ sym (ap (λ (s : StoreState). option_map (vote_of_hub s.voted) new.vote) same ∙ ap (option_map (vote_of_hub old.store.voted)) vote);
}

-- where neither count has moved
pub counts_stand : (a b c : StoreState) → b.read_faults ≡ a.read_faults → b.faults ≡ a.faults → c.read_faults ≡ b.read_faults → c.faults ≡ b.faults → AreLaterCounts (counts_of a) (counts_of c)
counts_stand a b c reads faults reads' faults' = record { reads = omega (arith, reads, reads'); others = omega (arith, faults, faults') }

pub close_dropped : {R F : Type 0} (rules : Rules) (m : Machine) (n : ℕ) (old mid new : HubState R F) (stamps : Option (List Stamp))
    → StandsForMachine old m → old.store.broken ≡ false → is_open_in old.sessions n ≡ true → AreLaterCounts (counts_of old.store) (counts_of new.store)
    → StandsForMachine mid (without_pack_of (without_vote m n) n) → mid.store.broken ≡ false
    → new.store ≡ mid.store → new.journal ≡ mid.journal → new.greatest ≡ mid.greatest → new.vote ≡ mid.vote → new.pack ≡ mid.pack
    → new.sessions ≡ slice_set mid.sessions n (record { is_open = false; told = length mid.journal })
    → MakesStep rules m n request.Close reply.Closed old new stamps stamps
close_dropped rules m n old mid new stamps stands whole is_open later left still store entries greatest vote pack sessions =
    answered rules m n request.Close reply.Closed (without_session m n) old new stamps later refl
    (ap (λ (o : Option Refusal). unless_early o m (replied (without_session m n) reply.Closed)) (not_early m n request.Close old.sessions (sessions_whole m old stands whole) is_open))
    (record {
      journal = left.journal ∙ sym entries;
      greatest = left.greatest ∙ sym greatest;
      sessions = ap (λ (xs : List MachineSession). slice_set xs n (record { is_open = false; told = length m.journal })) (sessions_whole (without_pack_of (without_vote m n) n) mid left still)
          ∙ ap (λ (es : List JournalEntry). slice_set mid.sessions n (record { is_open = false; told = length es })) left.journal
          ∙ sym (ap (λ (s : StoreState). sessions_with s.broken new.sessions) store ∙ ap (λ (b : Bool). sessions_with b new.sessions) still ∙ sessions);
      pack = left.pack ∙ pack_of_store mid.store new.store (length mid.journal) (length new.journal) mid.pack new.pack store (ap length entries) pack;
      failed = left.failed ∙ sym (ap (λ (s : StoreState). s.broken) store);
      list = λ _. left.list still ∙ sym (ap (λ (s : StoreState). s.list) store);
      vote = λ _. left.vote still ∙ sym (ap (λ (s : StoreState). option_map (vote_of_hub s.voted) new.vote) store ∙ ap (option_map (vote_of_hub mid.store.voted)) vote);
    })

pub close_failed : {R F : Type 0} (rules : Rules) (m : Machine) (n : ℕ) (old new : HubState R F) (stamps : Option (List Stamp))
    → StandsForMachine old m → old.store.broken ≡ false → is_open_in old.sessions n ≡ true → AreLaterCounts (counts_of old.store) (counts_of new.store)
    → holds_writes n m.vote ≡ true → Rose old.store.faults new.store.faults
    → StandsForMachine new (failed m) → MakesStep rules m n request.Close (reply.Refused refusal.StoreFault) old new stamps stamps
close_failed rules m n old new stamps stands whole is_open later writes rose left =
    store_failed rules m n request.Close old new stamps later (not_early m n request.Close old.sessions (sessions_whole m old stands whole) is_open) writes (close_still rules m n 0) rose left

-- the same where the log is that of another value
pub moments_same_as : {R F : Type 0} (stands_for : List ℕ → List Transaction → Type 0) (rules : Rules) (m : Machine) (n : ℕ) (q : Request) (hub : HubState R F) (mid log : List Event)
    → StandsForMachine hub m → hub.store.broken ≡ false → LeavesOnly Main (λ bytes. stands_for bytes hub.store.list) hub.store.log mid → log ≡ mid
    → LeavesOnly Main (IsBeforeOrBehind stands_for rules m n q) hub.store.log log
moments_same_as stands_for rules m n q hub mid log stands whole only same =
    subst (λ (l : List Event). LeavesOnly Main (IsBeforeOrBehind stands_for rules m n q) hub.store.log l) (sym same) (moments_same stands_for rules m n q hub mid stands whole only)

-- ---- sessions that are closed

pub no_session : (sessions : List MachineSession) (n : ℕ) → is_open_in (map closed_session sessions) n ≡ false
no_session [] zero = refl
no_session [] (suc n) = refl
no_session (x ∷ xs) zero = refl
no_session (x ∷ xs) (suc n) = no_session xs n

closed_to : {R F : Type 0} (rules : Rules) (m : Machine) (n : ℕ) (q : Request) (hub : HubState R F) (stamps : Option (List Stamp)) → StandsForMachine hub m → is_open_in m.sessions n ≡ false
    → MakesStep rules m n q (reply.Refused refusal.NotOpen) hub hub stamps stamps
closed_to rules m n q hub stamps stands closed =
    answered rules m n q (reply.Refused refusal.NotOpen) m hub hub stamps (record { reads = omega arith; others = omega arith }) refl
    (ap (λ (b : Bool). unless_early (option_or (refuse_if (not b) refusal.NotOpen) (request_refusal m n q)) m (request_step rules m n q 0)) closed) stands

-- no session is open once the store has failed
pub closed_failed : {R F : Type 0} (rules : Rules) (m : Machine) (n : ℕ) (q : Request) (hub : HubState R F) (stamps : Option (List Stamp)) → StandsForMachine hub m → hub.store.broken ≡ true
    → MakesStep rules m n q (reply.Refused refusal.NotOpen) hub hub stamps stamps
closed_failed rules m n q hub stamps stands broke =
    closed_to rules m n q hub stamps stands (ap (λ (xs : List MachineSession). is_open_in xs n) (stands.sessions ∙ ap (λ (b : Bool). sessions_with b hub.sessions) broke) ∙ no_session hub.sessions n)

pub closed_now : {R F : Type 0} (rules : Rules) (m : Machine) (n : ℕ) (q : Request) (hub : HubState R F) (stamps : Option (List Stamp)) → StandsForMachine hub m → hub.store.broken ≡ false → is_open_in hub.sessions n ≡ false
    → MakesStep rules m n q (reply.Refused refusal.NotOpen) hub hub stamps stamps
closed_now rules m n q hub stamps stands whole closed = closed_to rules m n q hub stamps stands (ap (λ (xs : List MachineSession). is_open_in xs n) (sessions_whole m hub stands whole) ∙ closed)

-- what a store leaves, as contracts see it
pub leaves_shown : (stands_for : List ℕ → List Transaction → Type 0) (shown s : StoreState) → shown ≡ s → Leaves Main (λ bytes. stands_for bytes s.list) s.log → Leaves Main (λ bytes. stands_for bytes shown.list) shown.log
leaves_shown stands_for shown s is leaves = subst (λ (x : StoreState). Leaves Main (λ bytes. stands_for bytes x.list) x.log) (sym is) leaves

-- whether a session is open, as the hub knows it
pub open_known : (b : Bool) (sessions : List MachineSession) (n : ℕ) → b ≡ true → false ≡ is_open_in (sessions_with b sessions) n
open_known true sessions n is = sym (no_session sessions n)
open_known false sessions n is = absurd cc

pub open_there : (b : Bool) (sessions : List MachineSession) (n : ℕ) → b ≡ false → is_open_in sessions n ≡ is_open_in (sessions_with b sessions) n
open_there false sessions n is = refl
open_there true sessions n is = absurd cc
