-- How a hub begins a pack, and what it keeps and stands for behind a turn of one.
use Rattle.std.proofs.Common.{◌≡◌, ℕ, ◌-◌, ◌<◌, List, length, min, Option, Some, None, Result, Err, Bool, true, false, refl, sym, ap, subst, ◌∙◌, arith}
use Rattle.std.specs.Prelude.{IfSome, is_some}
use Rattle.std.specs.Option.{ForSome, option_map, option_or}
use Rattle.std.proofs.lemmas.Bool.{lt-leb}
use Rattle.zb_ids.specs.declared.stamp.Stamp.{Stamp}
use Rattle.zb_model.specs.declared.data.Transaction.{Transaction}
use Rattle.zb_model.specs.declared.refusal.Refusal.{Refusal}
use Rattle.zb_model.specs.declared.refusal.Refusal.TheVariants as refusal
use Rattle.zb_model.specs.declared.store_error.StoreError.{StoreError}
use Rattle.zb_model.specs.declared.store_error.StoreError.TheVariants as store_error
use Rattle.zb_model.specs.Database.{newest_tid}
use Rattle.zb_model.specs.Queries.{pack_point}
use Rattle.zb_model.specs.Stores.{BreaksByFault, CopyLeaves, HasStoreCause, KeepsVoted, ReadKeepsRest, StoreState, tid_of_voted}
use Rattle.pack_reach.specs.Marking.{MarkerState, new_marker}
use Rattle.zodb_core.specs.declared.journal.JournalEntry.{JournalEntry}
use Rattle.zodb_core.specs.declared.open_pack.HubPack.{HubPack}
use Rattle.zodb_core.specs.declared.reply.Reply.TheVariants as reply
use Rattle.zodb_core.specs.declared.request.Request.TheVariants as request
use Rattle.zodb_core.specs.declared.vote.HubVote.{HubVote}
use Rattle.zodb_core.specs.Holding.{is_fault}
use Rattle.zodb_core.specs.HubState.{HasVotedWrites, HubKeeps, HubState, IsEntryOf, IsWithin, KeepsPack, MakesStep, StandsForMachine, StepsSafely, copying_of_hub, counts_of, pack_of_hub, pack_with, sessions_with, unless_broken, vote_of_hub, writes_of}
use Rattle.zodb_core.specs.Machine.{Machine, MachineSession, OpenPack, Rules, is_open_in}
use Rattle.zodb_core.specs.Outcomes.{AreLaterCounts, is_pack_going}
use Rattle.zodb_core.specs.Packing.{TakesTurnOf, running}
use Rattle.zodb_core.specs.PacksGoOn.{none_voted}
use Rattle.zodb_core.specs.Replies.{fault_reply}
use Rattle.zodb_core.specs.Steps.{Stepped, begin_step, early_refusal, pack_running, pack_tid, packed_already, refuse_if, step_of, turn_of_copying, turn_step, unless_early, with_pack, without_pack}
use Rattle.zodb_core.proofs.Holding.{counts_same}
use Rattle.zodb_core.proofs.Stepping.{answered, not_early, pack_whole, reading_failed, sessions_whole, starved}
use Rattle.zodb_core.proofs.Votes.{dropped_failed, store_failed}

-- ---- what a hub stands for behind a turn

-- the pack that it has open, while the store is whole
pub one_open : (s : StoreState) (entries : ℕ) (pack : Option HubPack) (p : HubPack) → s.broken ≡ false → pack ≡ Some p → pack_with s entries pack ≡ Some (pack_of_hub s.list s.begun entries p)
one_open s entries pack p whole is = pack_whole s entries pack whole ∙ ap (option_map (pack_of_hub s.list s.begun entries)) is

pub none_open : (s : StoreState) (entries : ℕ) (pack : Option HubPack) → s.broken ≡ false → pack ≡ None → pack_with s entries pack ≡ None
none_open s entries pack whole is = pack_whole s entries pack whole ∙ ap (option_map (pack_of_hub s.list s.begun entries)) is

-- all but the pack is as it was
pub stands_with : {R F : Type 0} (m : Machine) (o : Option OpenPack) (old new : HubState R F) → StandsForMachine old (without_pack m) → old.store.broken ≡ false → new.store.broken ≡ false
    → new.store.list ≡ old.store.list → new.store.voted ≡ old.store.voted → new.journal ≡ old.journal → new.greatest ≡ old.greatest → new.sessions ≡ old.sessions → new.vote ≡ old.vote
    → pack_with new.store (length new.journal) new.pack ≡ o → StandsForMachine new (record m { pack = o })
stands_with m o old new stands whole still list voted entries greatest sessions vote pack = record {
  journal = stands.journal ∙ sym entries;
  greatest = stands.greatest ∙ sym greatest;
  sessions = sessions_whole (without_pack m) old stands whole ∙ sym (ap (λ (b : Bool). sessions_with b new.sessions) still ∙ sessions);
  pack = sym pack;
  failed = stands.failed ∙ whole ∙ sym still;
  list = λ _. stands.list whole ∙ sym list;
  vote = λ _. stands.vote whole ∙ sym (ap (option_map (vote_of_hub new.store.voted)) vote ∙ ap (λ (v : Option Transaction). option_map (vote_of_hub v) old.vote) voted);
}

-- where no pack is open the machine has none
pub pack_none : (s : StoreState) (entries : ℕ) (pack : Option HubPack) → pack ≡ None → pack_with s entries pack ≡ None
pack_none s entries pack is = ap (pack_with s entries) is ∙ by_broken s.broken
  where
    by_broken : (b : Bool) → unless_broken b None ≡ None
    by_broken true = refl
    by_broken false = refl

pub stands_without : {R F : Type 0} (m : Machine) (hub : HubState R F) → StandsForMachine hub m → hub.pack ≡ None → StandsForMachine hub (without_pack m)
stands_without m hub stands none = record {
  journal = stands.journal;
  greatest = stands.greatest;
  sessions = stands.sessions;
  pack = sym (pack_none hub.store (length hub.journal) hub.pack none);
  failed = stands.failed;
  list = stands.list;
  vote = stands.vote;
}

-- ---- the step of a turn

pub turn_gives : {R F : Type 0} (rules : Rules) (m : Machine) (n stamp : ℕ) (p : HubPack) (hub : HubState R F) → TakesTurnOf hub m n p
    → step_of rules m n request.PackTurn stamp
    ≡ turn_of_copying rules.named m (pack_of_hub hub.store.list hub.store.begun (length hub.journal) p) (option_map (copying_of_hub hub.store.list hub.store.begun (length hub.journal) p.marker) p.copying)
turn_gives rules m n stamp p hub takes =
    ap (λ (o : Option Refusal). unless_early o m (turn_step rules.named m m.pack)) takes.allowed
    ∙ ap (turn_step rules.named m) takes.pack

-- ---- what a hub keeps behind a turn

writes_kept : (told : Type 0) (old new : StoreState) (vote : Option HubVote) → KeepsVoted told old new → HasVotedWrites vote old.voted → HasVotedWrites vote new.voted
writes_kept told old new None keeps has = none_voted told old new keeps has
writes_kept told old new (Some v) keeps has = same_some old.voted new.voted keeps.tid ∙ has
  where
    same_some : (x y : Option Transaction) → option_map (λ (t : Transaction). t.tid) y ≡ option_map (λ (t : Transaction). t.tid) x → is_some y ≡ is_some x
    same_some None None same = refl
    same_some None (Some b) same = absurd cc
    same_some (Some a) None same = absurd cc
    same_some (Some a) (Some b) same = refl

later_kept : (x y : Option Transaction) (before now : ℕ) → option_map (λ (t : Transaction). t.tid) y ≡ option_map (λ (t : Transaction). t.tid) x → now ≡ before → ForSome x (λ t. before < t.tid) → ForSome y (λ t. now < t.tid)
later_kept x None before now same newest later = λ t there. absurd cc
later_kept None (Some b) before now same newest later = absurd cc
later_kept (Some a) (Some b) before now same newest later = λ t there.
    let first : before < a.tid = later a refl in
    let tids : b.tid ≡ a.tid = cc in
    let is : b ≡ t = cc in
    subst (λ (x : Transaction). now < x.tid) is (omega (arith, first, tids, newest))

-- all but the pack, where a call leaves what is voted and the number of the newest
pub hub_keeps : (told : Type 0) (s t : StoreState) (journal : List JournalEntry) (capacity changes switches : ℕ) (sessions : List MachineSession) (vote : Option HubVote) (was pack : Option HubPack) (had has_failed : Bool)
    (named : List ℕ → Option (List ℕ)) → HubKeeps told s journal capacity changes switches sessions vote was had named → s.broken ≡ false → KeepsVoted told s t → t.newest ≡ s.newest → has_failed ≡ t.broken
    → IsWithin pack (length journal) → (t.broken ≡ false → IfSome pack (KeepsPack told named t.list t.begun t.newest (length journal)))
    → HubKeeps told t journal capacity changes switches sessions vote pack has_failed named
hub_keeps told s t journal capacity changes switches sessions vote was pack had has_failed named keeps whole voted newest failed within open_pack = record {
  failed = failed;
  few = keeps.few;
  counted = keeps.counted;
  bounded = keeps.bounded;
  switched = keeps.switched;
  room = keeps.room;
  voted = λ _. writes_kept told s t vote voted (keeps.voted whole);
  entry = λ tells _. subst (IsEntryOf (writes_of vote)) (sym (voted.all tells)) (keeps.entry tells whole);
  later = λ _. later_kept s.voted t.voted s.newest t.newest voted.tid newest (keeps.later whole);
  within = within;
  open_pack = open_pack;
}

-- a store that was only read
pub voted_read : (told : Type 0) (s t : StoreState) → ReadKeepsRest s t → KeepsVoted told s t
voted_read told s t read = record { tid = ap (λ (x : StoreState). tid_of_voted x) read; all = λ _. ap (λ (x : StoreState). x.voted) read }

-- ---- whatever the store tells

pub fault_is : {T : Type 0} (e : StoreError) (new : StoreState) → BreaksByFault new (let r : Result T StoreError = Err e in r) → is_fault e ≡ new.broken
fault_is store_error.StoreFault new fault = sym (fault.breaks refl)
fault_is store_error.ReadFault new fault = sym fault.whole
fault_is store_error.Memory new fault = sym fault.whole

pub fails_safely : {R F : Type 0} (e : StoreError) (old new : HubState R F) → HasStoreCause old.store new.store (let r : Result (Unit {0}) StoreError = Err e in r) → BreaksByFault new.store (let r : Result (Unit {0}) StoreError = Err e in r)
    → new.resolver ≡ old.resolver → new.refs ≡ old.refs → new.sessions ≡ old.sessions → StepsSafely true (fault_reply e) old new
fails_safely store_error.StoreFault old new cause fault resolver refs sessions = record {
  resolver = resolver;
  refs = refs;
  sessions = ap length sessions;
  later = record { reads = cause.reads_later; others = cause.faults_later };
  cause = cause.refused;
  others = λ never. absurd cc;
  broken = λ _. fault.breaks refl;
  log = λ never. absurd cc;
}
fails_safely store_error.ReadFault old new cause fault resolver refs sessions = record {
  resolver = resolver;
  refs = refs;
  sessions = ap length sessions;
  later = record { reads = cause.reads_later; others = cause.faults_later };
  cause = cause.refused;
  others = λ _. cause.others;
  broken = λ _. fault.whole;
  log = λ never. absurd cc;
}
fails_safely store_error.Memory old new cause fault resolver refs sessions = record {
  resolver = resolver;
  refs = refs;
  sessions = ap length sessions;
  later = record { reads = cause.reads_later; others = cause.faults_later };
  cause = counts_same old.store new.store cause.refused;
  others = λ _. cause.refused.faults;
  broken = λ _. fault.whole;
  log = λ never. absurd cc;
}

-- no pack is kept where none is open
pub none_kept : (P : HubPack → Type 0) (pack : Option HubPack) → pack ≡ None → IfSome pack P
none_kept P None is = tt
none_kept P (Some p) is = absurd cc

-- ---- a pack that is begun

pub none_running : (pack : Option HubPack) → running pack ≡ None → pack ≡ None
none_running None is = refl
none_running (Some p) is = absurd cc

begin_early : {R F : Type 0} (m : Machine) (n tid : ℕ) (collect : Bool) (hub : HubState R F) → StandsForMachine hub m → hub.store.broken ≡ false → is_open_in hub.sessions n ≡ true → hub.pack ≡ None
    → early_refusal m n (request.PackBegin tid collect) ≡ packed_already (pack_tid tid hub.store.list) (pack_point hub.store.list)
begin_early m n tid collect hub stands whole is_open none =
    not_early m n (request.PackBegin tid collect) hub.sessions (sessions_whole m hub stands whole) is_open
    ∙ ap (λ (p : Option OpenPack). option_or (pack_running p) (packed_already (pack_tid tid m.list) (pack_point m.list))) (stands.pack ∙ none_open hub.store (length hub.journal) hub.pack whole none)
    ∙ ap (λ (l : List Transaction). packed_already (pack_tid tid l) (pack_point l)) (stands.list whole)

-- nothing refuses it at once
begin_allowed : {R F : Type 0} (m : Machine) (n tid newest t point : ℕ) (collect : Bool) (hub : HubState R F) → StandsForMachine hub m → hub.store.broken ≡ false → is_open_in hub.sessions n ≡ true → hub.pack ≡ None
    → newest ≡ newest_tid hub.store.list → t ≡ min tid (newest - 1) → point ≡ pack_point hub.store.list → point < t → early_refusal m n (request.PackBegin tid collect) ≡ None
begin_allowed m n tid newest t point collect hub stands whole is_open none last up_to is beyond =
    begin_early m n tid collect hub stands whole is_open none
    ∙ ap (λ (k : ℕ). packed_already k (pack_point hub.store.list)) (sym (up_to ∙ ap (λ (k : ℕ). min tid (k - 1)) last))
    ∙ ap (packed_already t) (sym is)
    ∙ ap (λ (b : Bool). refuse_if b (refusal.PackedAlready point)) (lt-leb t point beyond)

begin_gives : {R F : Type 0} (rules : Rules) (m : Machine) (n tid newest t stamp : ℕ) (collect : Bool) (hub : HubState R F) → StandsForMachine hub m → hub.store.broken ≡ false
    → newest ≡ newest_tid hub.store.list → t ≡ min tid (newest - 1) → early_refusal m n (request.PackBegin tid collect) ≡ None
    → step_of rules m n (request.PackBegin tid collect) stamp ≡ begin_step m n t collect
begin_gives rules m n tid newest t stamp collect hub stands whole last up_to early =
    ap (λ (o : Option Refusal). unless_early o m (begin_step m n (pack_tid tid m.list) collect)) early
    ∙ ap (λ (k : ℕ). begin_step m n k collect) (ap (pack_tid tid) (stands.list whole) ∙ sym (up_to ∙ ap (λ (k : ℕ). min tid (k - 1)) last))

abbrev begun_pack : ℕ → ℕ → Bool → MarkerState → HubPack
begun_pack n t collect marker = record { session = n; tid = t; collects = collect; marker = marker; copying = None }

pub pack_begun : {R F : Type 0} (rules : Rules) (m : Machine) (n tid newest t point : ℕ) (collect : Bool) (marker : MarkerState) (old new : HubState R F) (stamps : Option (List Stamp))
    → StandsForMachine old m → old.store.broken ≡ false → is_open_in old.sessions n ≡ true → old.pack ≡ None
    → newest ≡ newest_tid old.store.list → t ≡ min tid (newest - 1) → point ≡ pack_point old.store.list → point < t → marker ≡ new_marker t
    → AreLaterCounts (counts_of old.store) (counts_of new.store) → new.store.broken ≡ false → new.store.list ≡ old.store.list → new.store.voted ≡ old.store.voted
    → new.journal ≡ old.journal → new.greatest ≡ old.greatest → new.sessions ≡ old.sessions → new.vote ≡ old.vote → new.pack ≡ Some (begun_pack n t collect marker)
    → MakesStep rules m n (request.PackBegin tid collect) (reply.Packing t) old new stamps stamps
pack_begun rules m n tid newest t point collect marker old new stamps stands whole is_open none last up_to is beyond fresh later still list voted journal greatest sessions vote pack =
    let left : OpenPack = record { session = n; tid = t; collects = collect; marked = 0; copying = None } in
    answered rules m n (request.PackBegin tid collect) (reply.Packing t) (with_pack m left) old new stamps later refl
    (begin_gives rules m n tid newest t 0 collect old stands whole last up_to (begin_allowed m n tid newest t point collect old stands whole is_open none last up_to is beyond))
    (stands_with m (Some left) old new (stands_without m old stands none) whole still list voted journal greatest sessions vote
    (one_open new.store (length new.journal) new.pack (begun_pack n t collect marker) still pack
    ∙ ap (λ (x : MarkerState). Some (pack_of_hub new.store.list new.store.begun (length new.journal) (begun_pack n t collect x))) fresh))

-- the store answered an error
pub pack_unbegun : {R F : Type 0} (rules : Rules) (m : Machine) (n tid newest t point : ℕ) (collect : Bool) (told : Type 0) (e : StoreError) (old new : HubState R F) (stamps : Option (List Stamp))
    → told → StandsForMachine old m → old.store.broken ≡ false → is_open_in old.sessions n ≡ true → old.pack ≡ None
    → newest ≡ newest_tid old.store.list → t ≡ min tid (newest - 1) → point ≡ pack_point old.store.list → point < t
    → HasStoreCause old.store new.store (let r : Result (Unit {0}) StoreError = Err e in r) → BreaksByFault new.store (let r : Result (Unit {0}) StoreError = Err e in r)
    → CopyLeaves told old.store new.store (let r : Result (Unit {0}) StoreError = Err e in r)
    → new.journal ≡ old.journal → new.greatest ≡ old.greatest → new.sessions ≡ old.sessions → new.vote ≡ old.vote → new.pack ≡ old.pack
    → MakesStep rules m n (request.PackBegin tid collect) (fault_reply e) old new stamps stamps
pack_unbegun rules m n tid newest t point collect told e old new stamps tells stands whole is_open none last up_to is beyond cause fault leaves journal greatest sessions vote pack = by_error e cause fault leaves
  where
    early : early_refusal m n (request.PackBegin tid collect) ≡ None
    early = begin_allowed m n tid newest t point collect old stands whole is_open none last up_to is beyond

    gives : step_of rules m n (request.PackBegin tid collect) 0 ≡ begin_step m n t collect
    gives = begin_gives rules m n tid newest t 0 collect old stands whole last up_to early

    left : new.store.broken ≡ false → new.store.list ≡ old.store.list → new.store.voted ≡ old.store.voted → StandsForMachine new (without_pack m)
    left still list voted =
        stands_with m None old new (stands_without m old stands none) whole still list voted journal greatest sessions vote (none_open new.store (length new.journal) new.pack still (pack ∙ none))

    by_error : (e : StoreError) → HasStoreCause old.store new.store (let r : Result (Unit {0}) StoreError = Err e in r) → BreaksByFault new.store (let r : Result (Unit {0}) StoreError = Err e in r)
        → CopyLeaves told old.store new.store (let r : Result (Unit {0}) StoreError = Err e in r) → MakesStep rules m n (request.PackBegin tid collect) (fault_reply e) old new stamps stamps
    by_error store_error.StoreFault cause fault leaves =
        store_failed rules m n (request.PackBegin tid collect) old new stamps (record { reads = cause.reads_later; others = cause.faults_later }) early
        (ap (λ (s : Stepped). is_pack_going s.reply) gives) (ap (λ (s : Stepped). s.ticks) gives) cause.refused
        (dropped_failed m old new stands whole (fault.breaks refl) journal greatest sessions)
    by_error store_error.ReadFault cause fault leaves =
        reading_failed rules m n (request.PackBegin tid collect) old new stamps (record { reads = cause.reads_later; others = cause.faults_later }) (record { allowed = early; one = refl }) cause.refused
        (left fault.whole (leaves.list tells) (leaves.voted.all tells))
    by_error store_error.Memory cause fault leaves =
        starved rules m n (request.PackBegin tid collect) old new stamps (record { reads = cause.reads_later; others = cause.faults_later }) (record { allowed = early; one = refl })
        (left fault.whole (leaves.list tells) (leaves.voted.all tells))
