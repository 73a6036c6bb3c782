-- How a hub packs.
use Rattle.std.proofs.Common.{◌≡◌, ℕ, ◌-◌, ◌<◌, ◌≤◌, inl, inr, ⊎_elim, List, [], ◌∷◌, ◌++◌, if◌then◌else◌, length, Option, Some, None, Result, Ok, Err, Bool, true, false, min, refl, sym, ap, subst, ◌∙◌, OnOk, OnErr, IsSome, arith}
use Rattle.std.specs.Prelude.{IfOk}
use Rattle.std.specs.Option.{ForSome, option_map, option_or}
use Rattle.std.specs.Ordering.{nat_cmp}
use Rattle.std.specs.FinSet.{FinSet}
use Rattle.std.proofs.lemmas.Bool.{le-leb, lt-leb}
use Rattle.std.proofs.lemmas.Option.{same_Some}
use Rattle.zb_ids.specs.declared.stamp.Stamp.{Stamp}
use Rattle.zb_model.specs.declared.data.Transaction.{Transaction}
use Rattle.zb_model.specs.declared.packs.Packed.{Packed}
use Rattle.zb_model.specs.declared.refusal.Refusal.{Refusal}
use Rattle.zb_model.specs.declared.refusal.Refusal.TheVariants as refusal
use Rattle.zb_model.specs.declared.store_error.StoreError.{StoreError}
use Rattle.zb_model.specs.declared.store_error.StoreError.TheVariants as store_error
use Rattle.zb_model.specs.Database.{newest_tid}
use Rattle.zb_model.specs.Packing.{packed_by}
use Rattle.zb_model.specs.Packs.{IsPackCount, StandsForOneOfTwo, change_count, new_pack}
use Rattle.zb_model.specs.Queries.{pack_point}
use Rattle.zb_model.specs.StayLaws.{stays_then}
use Rattle.zb_model.specs.Stores.{BegunPack, KeepsOtherCount, MayRefuse, ReadKeepsRest, StoreState, UnlessFault}
use Rattle.zb_volume.specs.declared.areas.Area.TheVariants.{Main}
use Rattle.zb_volume.specs.Calls.{Event}
use Rattle.zb_volume.specs.Moments.{here, Leaves, LeavesOnly, StaysAs}
use Rattle.zb_volume.specs.Runs.{joined, leaves_less, stays_leaves}
use Rattle.pack_reach.specs.declared.refusal.PackRefusal.{PackRefusal}
use Rattle.pack_reach.specs.declared.refusal.PackRefusal.TheVariants as pack_refusal
use Rattle.pack_reach.specs.Marking.{MarkerState}
use Rattle.pack_reach.specs.Outcomes.{HasMarkCause}
use Rattle.pack_reach.specs.Packed.{kept, packed, unread}
use Rattle.zodb_core.specs.declared.journal.JournalEntry.{JournalEntry}
use Rattle.zodb_core.specs.declared.journal.JournalEntry.TheVariants as journal
use Rattle.zodb_core.specs.declared.open_pack.HubPack.{HubPack}
use Rattle.zodb_core.specs.declared.reply.Reply.{Reply}
use Rattle.zodb_core.specs.declared.reply.Reply.TheVariants as reply
use Rattle.zodb_core.specs.declared.request.Request.{Request}
use Rattle.zodb_core.specs.declared.request.Request.TheVariants as request
use Rattle.zodb_core.specs.declared.vote.HubVote.{HubVote}
use Rattle.zodb_core.specs.HubState.{HubState, IsBeforeOrBehind, MakesStep, StandsForMachine, StepsSafely, counts_of, pack_of_hub, sessions_with, tid_begun, vote_of_hub}
use Rattle.zodb_core.specs.Machine.{Machine, MachineVote, OpenPack, Rules, is_open_in}
use Rattle.zodb_core.specs.Outcomes.{Answered, AreLaterCounts, is_pack, is_packed, outcome_of, unanswered}
use Rattle.zodb_core.specs.Packing.{AreAllMarked, PacksTo, RefusesPack, busy_with, running}
use Rattle.zodb_core.specs.Replies.{fault_reply, pack_reply}
use Rattle.zodb_core.specs.Steps.{Stepped, busy_for_all, early_refusal, pack_running, pack_step, pack_tid, packed_already, refuse_if, replied, step_of, switched, unless_early, unless_unread, with_switch, without_pack}
use Rattle.zodb_core.proofs.Asking.{made_later, refused_at_once}
use Rattle.zodb_core.proofs.Holding.{counts_same}
use Rattle.zodb_core.proofs.Stepping.{answered, not_early, pack_whole, reading_failed, sessions_whole, stands_read, starved}
use Rattle.zodb_core.proofs.Turns.{none_running, pack_none, stands_without}
use Rattle.zodb_core.proofs.Votes.{dropped_failed, store_failed}

-- ---- a store whose list is replaced

for_new : (P : BegunPack → Type 0) (begun : Option BegunPack) (t : ℕ) → begun ≡ Some (new_pack t) → ForSome begun P → P (new_pack t)
for_new P begun t is each = each (new_pack t) is

pub switched_list : {T : Type 0} (r : Result T StoreError) (keep : FinSet nat_cmp) (begun : Option BegunPack) (t : ℕ) (old mid new : List Transaction) → begun ≡ Some (new_pack t) → mid ≡ old
    → OnOk r (ForSome begun (λ pack. new ≡ packed_by pack.tid keep mid)) → OnOk r (new ≡ packed_by t keep old)
switched_list (Ok x) keep begun t old mid new is same each = for_new (λ pack. new ≡ packed_by pack.tid keep mid) begun t is each ∙ ap (packed_by t keep) same
switched_list (Err e) keep begun t old mid new is same each = tt

pub main_stays : (r : Result Packed StoreError) (old mid new : List Event) → StaysAs Main old mid → OnErr r (UnlessFault r (StaysAs Main mid new)) → OnErr r (UnlessFault r (StaysAs Main old new))
main_stays (Ok x) old mid new first second = tt
main_stays (Err store_error.StoreFault) old mid new first second = tt
main_stays (Err store_error.ReadFault) old mid new first second = stays_then Main old mid new first second
main_stays (Err store_error.Memory) old mid new first second = stays_then Main old mid new first second

-- what a crash leaves while a pack is begun
pub begin_moments : (stands_for : List ℕ → List Transaction → Type 0) (list packed : List Transaction) (old new : List Event) → Leaves Main (λ bytes. stands_for bytes list) old → StaysAs Main old new
    → LeavesOnly Main (StandsForOneOfTwo stands_for list packed) old new
begin_moments stands_for list packed old new leaves stays =
    leaves_less Main (λ bytes. stands_for bytes list) (StandsForOneOfTwo stands_for list packed) old new (λ bytes left. inl left) (stays_leaves Main (λ bytes. stands_for bytes list) old new leaves stays)

-- and while it is switched
pub switch_moments : (stands_for : List ℕ → List Transaction → Type 0) (keep : FinSet nat_cmp) (begun : Option BegunPack) (t : ℕ) (list mid_list : List Transaction) (old mid new : List Event)
    → begun ≡ Some (new_pack t) → mid_list ≡ list → Leaves Main (λ bytes. stands_for bytes list) old → StaysAs Main old mid
    → ForSome begun (λ pack. LeavesOnly Main (StandsForOneOfTwo stands_for mid_list (packed_by pack.tid keep mid_list)) mid new)
    → LeavesOnly Main (StandsForOneOfTwo stands_for list (packed_by t keep list)) old new
switch_moments stands_for keep begun t list mid_list old mid new is same leaves stays each =
    joined (Leaves Main (StandsForOneOfTwo stands_for list (packed_by t keep list))) old mid new
    (begin_moments stands_for list (packed_by t keep list) old mid leaves stays)
    (subst (λ (l : List Transaction). LeavesOnly Main (StandsForOneOfTwo stands_for l (packed_by t keep l)) mid new) same
    (for_new (λ pack. LeavesOnly Main (StandsForOneOfTwo stands_for mid_list (packed_by pack.tid keep mid_list)) mid new) begun t is each))

-- ---- the same from a copy that is begun

pub some_begun : (begun : Option BegunPack) (t : ℕ) → tid_begun begun ≡ Some t → IsSome begun
some_begun None t is = absurd cc
some_begun (Some b) t is = refl

pub switched_from : {T : Type 0} (r : Result T StoreError) (keep : FinSet nat_cmp) (begun : Option BegunPack) (t : ℕ) (old new : List Transaction) → tid_begun begun ≡ Some t
    → OnOk r (ForSome begun (λ pack. new ≡ packed_by pack.tid keep old)) → OnOk r (new ≡ packed_by t keep old)
switched_from (Ok x) keep None t old new is each = absurd cc
switched_from (Ok x) keep (Some b) t old new is each = each b refl ∙ ap (λ (k : ℕ). packed_by k keep old) (same_Some b.tid t is)
switched_from (Err e) keep begun t old new is each = tt

pub moments_from : (stands_for : List ℕ → List Transaction → Type 0) (keep : FinSet nat_cmp) (begun : Option BegunPack) (t : ℕ) (list : List Transaction) (old new : List Event) → tid_begun begun ≡ Some t
    → ForSome begun (λ pack. LeavesOnly Main (StandsForOneOfTwo stands_for list (packed_by pack.tid keep list)) old new)
    → LeavesOnly Main (StandsForOneOfTwo stands_for list (packed_by t keep list)) old new
moments_from stands_for keep None t list old new is each = absurd cc
moments_from stands_for keep (Some b) t list old new is each =
    subst (λ (k : ℕ). LeavesOnly Main (StandsForOneOfTwo stands_for list (packed_by k keep list)) old new) (same_Some b.tid t is) (each b refl)

-- a request on a pack that isn't answered drops the pack
pub stands_dropped : {R F : Type 0} (m : Machine) (q : Request) (hub : HubState R F) → is_pack q ≡ true → StandsForMachine hub (without_pack m) → StandsForMachine hub (unanswered q m)
stands_dropped m q hub is stands = subst (StandsForMachine hub) (sym (ap (λ (b : Bool). if b then without_pack m else m) is)) stands

-- ---- the hub's step

-- the packed list is the one that the machine leaves
pub pack_moments : {R F : Type 0} (stands_for : List ℕ → List Transaction → Type 0) (rules : Rules) (m : Machine) (n : ℕ) (q : Request) (t : ℕ) (keep : FinSet nat_cmp) (hub : HubState R F) (log : List Event)
    → StandsForMachine hub (without_pack m) → hub.store.broken ≡ false → PacksTo rules m n q t keep
    → LeavesOnly Main (StandsForOneOfTwo stands_for hub.store.list (packed_by t keep hub.store.list)) hub.store.log log
    → LeavesOnly Main (IsBeforeOrBehind stands_for rules m n q) hub.store.log log
pack_moments stands_for rules m n q t keep hub log stands whole packs only =
    leaves_less Main (StandsForOneOfTwo stands_for hub.store.list (packed_by t keep hub.store.list)) (IsBeforeOrBehind stands_for rules m n q) hub.store.log log
    (λ bytes left. ⊎_elim
    (λ before. inl (subst (stands_for bytes) (sym (stands.list whole)) before))
    (λ behind. inr (λ stamp. subst (stands_for bytes) (ap (packed_by t keep) (sym (stands.list whole)) ∙ sym (ap (λ (s : Stepped). s.machine.list) (packs.step stamp))) behind))
    left)
    only

-- where the store wasn't touched
pub moments_unpacked : {R F : Type 0} (stands_for : List ℕ → List Transaction → Type 0) (rules : Rules) (m : Machine) (n : ℕ) (q : Request) (hub : HubState R F) (s : StoreState) (log : List Event)
    → StandsForMachine hub (without_pack m) → hub.store.broken ≡ false → hub.store ≡ s → Leaves Main (λ bytes. stands_for bytes s.list) s.log → log ≡ hub.store.log
    → LeavesOnly Main (IsBeforeOrBehind stands_for rules m n q) hub.store.log log
moments_unpacked stands_for rules m n q hub s log stands whole is leaves same =
    let now : Leaves Main (λ bytes. stands_for bytes hub.store.list) hub.store.log = subst (λ (x : StoreState). Leaves Main (λ bytes. stands_for bytes x.list) x.log) (sym is) leaves in
    subst (λ (l : List Event). LeavesOnly Main (IsBeforeOrBehind stands_for rules m n q) hub.store.log l) (sym same)
    (here (λ bytes crash. inl (subst (stands_for bytes) (sym (stands.list whole)) (now bytes crash))))

-- and where Main wasn't
pub moments_stay : {R F : Type 0} (stands_for : List ℕ → List Transaction → Type 0) (rules : Rules) (m : Machine) (n : ℕ) (q : Request) (hub : HubState R F) (s : StoreState) (log : List Event)
    → m.list ≡ hub.store.list → hub.store ≡ s → Leaves Main (λ bytes. stands_for bytes s.list) s.log → StaysAs Main hub.store.log log
    → LeavesOnly Main (IsBeforeOrBehind stands_for rules m n q) hub.store.log log
moments_stay stands_for rules m n q hub s log list is leaves stays =
    let now : Leaves Main (λ bytes. stands_for bytes hub.store.list) hub.store.log = subst (λ (x : StoreState). Leaves Main (λ bytes. stands_for bytes x.list) x.log) (sym is) leaves in
    leaves_less Main (λ bytes. stands_for bytes hub.store.list) (IsBeforeOrBehind stands_for rules m n q) hub.store.log log (λ bytes left. inl (subst (stands_for bytes) (sym list) left))
    (stays_leaves Main (λ bytes. stands_for bytes hub.store.list) hub.store.log log now stays)

-- the list is as it was, whatever was copied
pub stands_unpacked : {R F : Type 0} (m : Machine) (old new : HubState R F) → StandsForMachine old (without_pack m) → old.store.broken ≡ false → new.store.broken ≡ false → new.store.list ≡ old.store.list
    → old.vote ≡ None → new.pack ≡ None → new.journal ≡ old.journal → new.greatest ≡ old.greatest → new.sessions ≡ old.sessions → new.vote ≡ old.vote → StandsForMachine new (without_pack m)
stands_unpacked m old new stands whole still list free none entries greatest sessions vote = record {
  journal = stands.journal ∙ sym entries;
  greatest = stands.greatest ∙ sym greatest;
  sessions = sessions_whole (without_pack m) old stands whole ∙ sym (ap (λ (b : Bool). sessions_with b new.sessions) still ∙ sessions);
  pack = sym (pack_none new.store (length new.journal) new.pack none);
  failed = stands.failed ∙ whole ∙ sym still;
  list = λ _. stands.list whole ∙ sym list;
  vote = λ _. stands.vote whole ∙ ap (option_map (vote_of_hub old.store.voted)) free ∙ sym (ap (option_map (vote_of_hub new.store.voted)) (vote ∙ free));
}

pub switch_failed : {R F : Type 0} (rules : Rules) (m : Machine) (n : ℕ) (q : Request) (t : ℕ) (keep : FinSet nat_cmp) (e : StoreError) (old new : HubState R F) (stamps : Option (List Stamp))
    → StandsForMachine old (without_pack m) → old.store.broken ≡ false → PacksTo rules m n q t keep → AreLaterCounts (counts_of old.store) (counts_of new.store)
    → MayRefuse old.store new.store e → (e ≡ store_error.StoreFault → new.store.broken ≡ true)
    → UnlessFault (let r : Result Packed StoreError = Err e in r) (new.store.broken ≡ false) → UnlessFault (let r : Result Packed StoreError = Err e in r) (new.store.list ≡ old.store.list)
    → old.vote ≡ None → new.pack ≡ None → new.journal ≡ old.journal → new.greatest ≡ old.greatest → new.sessions ≡ old.sessions → new.vote ≡ old.vote
    → MakesStep rules m n q (fault_reply e) old new stamps stamps
switch_failed rules m n q t keep store_error.StoreFault old new stamps stands whole packs later may broke still list free none entries greatest sessions vote =
    let gives = packs.step 0 in
    store_failed rules m n q old new stamps later packs.early (packs.changes (step_of rules m n q 0) (ap (λ (s : Stepped). is_packed s.reply) gives)) (ap (λ (s : Stepped). s.ticks) gives) may
    (dropped_failed (without_pack m) old new stands whole (broke refl) entries greatest sessions)
switch_failed rules m n q t keep store_error.ReadFault old new stamps stands whole packs later may broke still list free none entries greatest sessions vote =
    reading_failed rules m n q old new stamps later (record { allowed = packs.early; one = packs.reads }) may
    (stands_dropped m q new packs.packs (stands_unpacked m old new stands whole still list free none entries greatest sessions vote))
switch_failed rules m n q t keep store_error.Memory old new stamps stands whole packs later may broke still list free none entries greatest sessions vote =
    starved rules m n q old new stamps later (record { allowed = packs.early; one = packs.memory })
    (stands_dropped m q new packs.packs (stands_unpacked m old new stands whole still list free none entries greatest sessions vote))

-- there was no room for the journal's entry
pub switch_starved : {R F : Type 0} (rules : Rules) (m : Machine) (n : ℕ) (q : Request) (t : ℕ) (keep : FinSet nat_cmp) (old new : HubState R F) (stamps : Option (List Stamp))
    → StandsForMachine old (without_pack m) → old.store.broken ≡ false → PacksTo rules m n q t keep → new.store ≡ old.store
    → old.vote ≡ None → new.pack ≡ None → new.journal ≡ old.journal → new.greatest ≡ old.greatest → new.sessions ≡ old.sessions → new.vote ≡ old.vote
    → MakesStep rules m n q (reply.Refused refusal.Memory) old new stamps stamps
switch_starved rules m n q t keep old new stamps stands whole packs store free none entries greatest sessions vote =
    starved rules m n q old new stamps
    (record { reads = omega (arith, ap (λ (s : StoreState). s.read_faults) store); others = omega (arith, ap (λ (s : StoreState). s.faults) store) })
    (record { allowed = packs.early; one = packs.memory })
    (stands_dropped m q new packs.packs
    (stands_unpacked m old new stands whole (ap (λ (s : StoreState). s.broken) store ∙ whole) (ap (λ (s : StoreState). s.list) store) free none entries greatest sessions vote))

-- the list was packed
pub switch_made : {R F : Type 0} (rules : Rules) (m : Machine) (n : ℕ) (q : Request) (t : ℕ) (keep : FinSet nat_cmp) (counts : Packed) (old new : HubState R F) (stamps : Option (List Stamp))
    → StandsForMachine old (without_pack m) → old.store.broken ≡ false → PacksTo rules m n q t keep → AreLaterCounts (counts_of old.store) (counts_of new.store)
    → new.store.broken ≡ false → new.store.list ≡ packed_by t keep old.store.list → IsPackCount old.store.list new.store.list counts
    → old.vote ≡ None → new.pack ≡ None → new.journal ≡ old.journal ++ journal.Packed t ∷ [] → new.greatest ≡ old.greatest → new.sessions ≡ old.sessions → new.vote ≡ old.vote
    → MakesStep rules m n q (reply.Packed counts.kept counts.dropped) old new stamps stamps
switch_made rules m n q t keep counts old new stamps stands whole packs later still list counted free none entries greatest sessions vote =
    let there : packed_by t keep m.list ≡ new.store.list = ap (packed_by t keep) (stands.list whole) ∙ sym list in
    let stays : change_count (packed_by t keep m.list) ≡ counts.kept = ap change_count there ∙ sym counted.kept in
    let goes : change_count m.list - change_count (packed_by t keep m.list) ≡ counts.dropped = omega (arith, stays, ap change_count (stands.list whole), counted.all) in
    answered rules m n q (reply.Packed counts.kept counts.dropped) (with_switch m t (packed_by t keep m.list)) old new stamps later refl
    (packs.step 0
    ∙ ap (λ (k : ℕ). replied (with_switch m t (packed_by t keep m.list)) (reply.Packed k (change_count m.list - change_count (packed_by t keep m.list)))) stays
    ∙ ap (λ (k : ℕ). replied (with_switch m t (packed_by t keep m.list)) (reply.Packed counts.kept k)) goes)
    (record {
      journal = ap (λ (es : List JournalEntry). es ++ journal.Packed t ∷ []) stands.journal ∙ sym entries;
      greatest = stands.greatest ∙ sym greatest;
      sessions = sessions_whole (without_pack m) old stands whole ∙ sym (ap (λ (b : Bool). sessions_with b new.sessions) still ∙ sessions);
      pack = sym (pack_none new.store (length new.journal) new.pack none);
      failed = stands.failed ∙ whole ∙ sym still;
      list = λ _. there;
      vote = λ _. stands.vote whole ∙ ap (option_map (vote_of_hub old.store.voted)) free ∙ sym (ap (option_map (vote_of_hub new.store.voted)) (vote ∙ free));
    })

-- whatever the store tells
pub switch_fails_safely : {R F : Type 0} (e : StoreError) (old new : HubState R F) → AreLaterCounts (counts_of old.store) (counts_of new.store) → MayRefuse old.store new.store e
    → KeepsOtherCount old.store new.store e → (e ≡ store_error.StoreFault → new.store.broken ≡ true) → UnlessFault (let r : Result Packed StoreError = Err e in r) (new.store.broken ≡ false)
    → new.resolver ≡ old.resolver → new.refs ≡ old.refs → new.sessions ≡ old.sessions → StepsSafely true (fault_reply e) old new
switch_fails_safely store_error.StoreFault old new later may others broke still resolver refs sessions = record {
  resolver = resolver;
  refs = refs;
  sessions = ap length sessions;
  later = later;
  cause = may;
  others = λ never. absurd cc;
  broken = λ _. broke refl;
  log = λ never. absurd cc;
}
switch_fails_safely store_error.ReadFault old new later may others broke still resolver refs sessions = record {
  resolver = resolver;
  refs = refs;
  sessions = ap length sessions;
  later = later;
  cause = may;
  others = λ _. others;
  broken = λ _. still;
  log = λ never. absurd cc;
}
switch_fails_safely store_error.Memory old new later may others broke still resolver refs sessions = record {
  resolver = resolver;
  refs = refs;
  sessions = ap length sessions;
  later = later;
  cause = counts_same old.store new.store may;
  others = λ _. may.faults;
  broken = λ _. still;
  log = λ never. absurd cc;
}

-- the same, as contracts see the store
pub moments_shown : (stands_for : List ℕ → List Transaction → Type 0) (t : ℕ) (keep : FinSet nat_cmp) (shown s : StoreState) (log : List Event) → shown ≡ s
    → LeavesOnly Main (StandsForOneOfTwo stands_for s.list (packed_by t keep s.list)) s.log log
    → LeavesOnly Main (StandsForOneOfTwo stands_for shown.list (packed_by t keep shown.list)) shown.log log
moments_shown stands_for t keep shown s log is only = subst (λ (x : StoreState). LeavesOnly Main (StandsForOneOfTwo stands_for x.list (packed_by t keep x.list)) x.log log) (sym is) only

-- ---- a request to pack

-- a pack that doesn't collect marks all at once
pub all_uncollected : {E : Type 0} (r : Result MarkerState E) (collects : Bool) (named : List ℕ → Option (List ℕ)) (t : ℕ) (list : List Transaction) → collects ≡ false
    → IfOk r (λ made. (names : List ℕ → Option (List ℕ)) → made.set ≡ kept false names t list) → IfOk r (AreAllMarked collects named t list)
all_uncollected r true named t list not all = absurd cc
all_uncollected (Ok made) false named t list not all = record { set = all named; readable = refl }
all_uncollected (Err e) false named t list not all = tt

-- an earlier pack went as far, as the hub knows it
abbrev already : {R F : Type 0} → ℕ → HubState R F → Option Refusal
already tid hub = packed_already (pack_tid tid hub.store.list) (pack_point hub.store.list)

-- the machine's vote is in its way where the hub's is
pub busy_same : (vote : Option HubVote) (voted : Option Transaction) → busy_for_all (option_map (vote_of_hub voted) vote) ≡ busy_with vote
busy_same None voted = refl
busy_same (Some v) voted = refl

not_early_pack : {R F : Type 0} (m : Machine) (n tid : ℕ) (collect : Bool) (hub : HubState R F) → StandsForMachine hub m → hub.store.broken ≡ false → is_open_in hub.sessions n ≡ true
    → early_refusal m n (request.Pack tid collect) ≡ option_or (running hub.pack) (option_or (busy_with hub.vote) (already tid hub))
not_early_pack m n tid collect hub stands whole is_open =
    not_early m n (request.Pack tid collect) hub.sessions (sessions_whole m hub stands whole) is_open
    ∙ ap (λ (p : Option OpenPack). option_or (pack_running p) (option_or (busy_for_all m.vote) (packed_already (pack_tid tid m.list) (pack_point m.list))))
    (stands.pack ∙ pack_whole hub.store (length hub.journal) hub.pack whole)
    ∙ ap (λ (o : Option Refusal). option_or o (option_or (busy_for_all m.vote) (packed_already (pack_tid tid m.list) (pack_point m.list)))) (running_same hub.pack hub.store.list hub.store.begun (length hub.journal))
    ∙ ap (λ (v : Option MachineVote). option_or (running hub.pack) (option_or (busy_for_all v) (packed_already (pack_tid tid m.list) (pack_point m.list)))) (stands.vote whole)
    ∙ ap (λ (o : Option Refusal). option_or (running hub.pack) (option_or o (packed_already (pack_tid tid m.list) (pack_point m.list)))) (busy_same hub.vote hub.store.voted)
    ∙ ap (λ (l : List Transaction). option_or (running hub.pack) (option_or (busy_with hub.vote) (packed_already (pack_tid tid l) (pack_point l)))) (stands.list whole)
  where
    running_same : (pack : Option HubPack) (list : List Transaction) (begun : Option BegunPack) (entries : ℕ) → pack_running (option_map (pack_of_hub list begun entries) pack) ≡ running pack
    running_same None list begun entries = refl
    running_same (Some p) list begun entries = refl

running_answered : (pack : Option HubPack) (r : Refusal) → running pack ≡ Some r → outcome_of (reply.Refused r) ≡ Answered
running_answered None r is = absurd cc
running_answered (Some p) r is = ap (λ (x : Refusal). outcome_of (reply.Refused x)) (sym (same_Some (refusal.PackRunning p.session) r is))

pub busy_answered : (vote : Option HubVote) (r : Refusal) → busy_with vote ≡ Some r → outcome_of (reply.Refused r) ≡ Answered
busy_answered None r is = absurd cc
busy_answered (Some v) r is = ap (λ (x : Refusal). outcome_of (reply.Refused x)) (sym (same_Some (refusal.Busy v.session) r is))

-- a pack is open
pub pack_runs : {R F : Type 0} (rules : Rules) (m : Machine) (n tid : ℕ) (collect : Bool) (r : Refusal) (hub : HubState R F) (stamps : Option (List Stamp)) → StandsForMachine hub m → hub.store.broken ≡ false
    → is_open_in hub.sessions n ≡ true → running hub.pack ≡ Some r → MakesStep rules m n (request.Pack tid collect) (reply.Refused r) hub hub stamps stamps
pack_runs rules m n tid collect r hub stamps stands whole is_open runs =
    refused_at_once rules m n (request.Pack tid collect) r hub stamps stands
    (not_early_pack m n tid collect hub stands whole is_open ∙ ap (λ (o : Option Refusal). option_or o (option_or (busy_with hub.vote) (already tid hub))) runs)
    (running_answered hub.pack r runs)

-- a vote is held
pub pack_busy : {R F : Type 0} (rules : Rules) (m : Machine) (n tid : ℕ) (collect : Bool) (r : Refusal) (hub : HubState R F) (stamps : Option (List Stamp)) → StandsForMachine hub m → hub.store.broken ≡ false
    → is_open_in hub.sessions n ≡ true → running hub.pack ≡ None → busy_with hub.vote ≡ Some r → MakesStep rules m n (request.Pack tid collect) (reply.Refused r) hub hub stamps stamps
pack_busy rules m n tid collect r hub stamps stands whole is_open none busy =
    refused_at_once rules m n (request.Pack tid collect) r hub stamps stands
    (not_early_pack m n tid collect hub stands whole is_open
    ∙ ap (λ (o : Option Refusal). option_or o (option_or (busy_with hub.vote) (already tid hub))) none
    ∙ ap (λ (o : Option Refusal). option_or o (already tid hub)) busy)
    (busy_answered hub.vote r busy)

-- what the hub knows where neither is so
free_for_pack : {R F : Type 0} (m : Machine) (n tid newest t point : ℕ) (collect : Bool) (hub : HubState R F) → StandsForMachine hub m → hub.store.broken ≡ false → is_open_in hub.sessions n ≡ true
    → running hub.pack ≡ None → busy_with hub.vote ≡ None → newest ≡ newest_tid hub.store.list → t ≡ min tid (newest - 1) → point ≡ pack_point hub.store.list
    → early_refusal m n (request.Pack tid collect) ≡ packed_already t point
free_for_pack m n tid newest t point collect hub stands whole is_open none free last up_to is =
    not_early_pack m n tid collect hub stands whole is_open
    ∙ ap (λ (o : Option Refusal). option_or o (option_or (busy_with hub.vote) (already tid hub))) none
    ∙ ap (λ (o : Option Refusal). option_or o (already tid hub)) free
    ∙ ap (λ (k : ℕ). packed_already k (pack_point hub.store.list)) (sym (up_to ∙ ap (λ (k : ℕ). min tid (k - 1)) last))
    ∙ ap (packed_already t) (sym is)

-- an earlier pack went as far
pub pack_already : {R F : Type 0} (rules : Rules) (m : Machine) (n tid newest t point : ℕ) (collect : Bool) (hub : HubState R F) (stamps : Option (List Stamp)) → StandsForMachine hub m → hub.store.broken ≡ false
    → is_open_in hub.sessions n ≡ true → running hub.pack ≡ None → busy_with hub.vote ≡ None → newest ≡ newest_tid hub.store.list → t ≡ min tid (newest - 1) → point ≡ pack_point hub.store.list → t ≤ point
    → MakesStep rules m n (request.Pack tid collect) (reply.Refused (refusal.PackedAlready point)) hub hub stamps stamps
pack_already rules m n tid newest t point collect hub stamps stands whole is_open none free last up_to is within =
    refused_at_once rules m n (request.Pack tid collect) (refusal.PackedAlready point) hub stamps stands
    (free_for_pack m n tid newest t point collect hub stands whole is_open none free last up_to is
    ∙ ap (λ (b : Bool). refuse_if b (refusal.PackedAlready point)) (le-leb t point within))
    refl

-- nothing refuses it at once
pack_allowed : {R F : Type 0} (m : Machine) (n tid newest t point : ℕ) (collect : Bool) (hub : HubState R F) → StandsForMachine hub m → hub.store.broken ≡ false → is_open_in hub.sessions n ≡ true
    → running hub.pack ≡ None → busy_with hub.vote ≡ None → newest ≡ newest_tid hub.store.list → t ≡ min tid (newest - 1) → point ≡ pack_point hub.store.list → point < t
    → early_refusal m n (request.Pack tid collect) ≡ None
pack_allowed m n tid newest t point collect hub stands whole is_open none free last up_to is beyond =
    free_for_pack m n tid newest t point collect hub stands whole is_open none free last up_to is
    ∙ ap (λ (b : Bool). refuse_if b (refusal.PackedAlready point)) (lt-leb t point beyond)

-- the machine's step, as the list and the tid that the hub knows give it
pack_gives : {R F : Type 0} (rules : Rules) (m : Machine) (n tid newest t stamp : ℕ) (collect : Bool) (hub : HubState R F) → StandsForMachine hub m → hub.store.broken ≡ false
    → newest ≡ newest_tid hub.store.list → t ≡ min tid (newest - 1) → early_refusal m n (request.Pack tid collect) ≡ None
    → step_of rules m n (request.Pack tid collect) stamp ≡ unless_unread m (unread collect rules.named t hub.store.list) (switched m t (packed collect rules.named t m.list))
pack_gives rules m n tid newest t stamp collect hub stands whole last up_to early =
    ap (λ (o : Option Refusal). unless_early o m (pack_step rules.named m (pack_tid tid m.list) collect)) early
    ∙ ap (λ (k : ℕ). pack_step rules.named m k collect) (ap (pack_tid tid) (stands.list whole) ∙ sym (up_to ∙ ap (λ (k : ℕ). min tid (k - 1)) last))
    ∙ ap (λ (l : List Transaction). unless_unread m (unread collect rules.named t l) (switched m t (packed collect rules.named t m.list))) (stands.list whole)

marks_refused_with : {R F : Type 0} (rules : Rules) (m : Machine) (n tid newest t : ℕ) (collect : Bool) (why : PackRefusal) (old new : HubState R F) (stamps : Option (List Stamp)) → StandsForMachine old m
    → old.store.broken ≡ false → newest ≡ newest_tid old.store.list → t ≡ min tid (newest - 1) → early_refusal m n (request.Pack tid collect) ≡ None → RefusesPack collect rules.named t old.store.list why
    → HasMarkCause old.store.read_faults new.store.read_faults why → AreLaterCounts (counts_of old.store) (counts_of new.store) → StandsForMachine new (without_pack m)
    → MakesStep rules m n (request.Pack tid collect) (pack_reply why) old new stamps stamps
marks_refused_with rules m n tid newest t collect (pack_refusal.Unreadable oid serial) old new stamps stands whole last up_to early is cause later left =
    answered rules m n (request.Pack tid collect) (reply.Refused (refusal.Unreadable oid serial)) (without_pack m) old new stamps later refl
    (pack_gives rules m n tid newest t 0 collect old stands whole last up_to early ∙ ap (λ (w : Option (ℕ × ℕ)). unless_unread m w (switched m t (packed collect rules.named t m.list))) is) left
marks_refused_with rules m n tid newest t collect pack_refusal.ReadFault old new stamps stands whole last up_to early is cause later left =
    reading_failed rules m n (request.Pack tid collect) old new stamps later (record { allowed = early; one = refl }) cause left
marks_refused_with rules m n tid newest t collect pack_refusal.Memory old new stamps stands whole last up_to early is cause later left =
    starved rules m n (request.Pack tid collect) old new stamps later (record { allowed = early; one = refl }) left

-- the marks were refused
pub marks_refused : {R F : Type 0} (rules : Rules) (m : Machine) (n tid newest t point : ℕ) (collect : Bool) (why : PackRefusal) (old new : HubState R F) (stamps : Option (List Stamp)) → StandsForMachine old m
    → old.store.broken ≡ false → is_open_in old.sessions n ≡ true → running old.pack ≡ None → busy_with old.vote ≡ None → newest ≡ newest_tid old.store.list → t ≡ min tid (newest - 1)
    → point ≡ pack_point old.store.list → point < t → RefusesPack collect rules.named t old.store.list why → HasMarkCause old.store.read_faults new.store.read_faults why
    → AreLaterCounts (counts_of old.store) (counts_of new.store) → ReadKeepsRest old.store new.store
    → new.journal ≡ old.journal → new.greatest ≡ old.greatest → new.sessions ≡ old.sessions → new.vote ≡ old.vote → new.pack ≡ old.pack
    → MakesStep rules m n (request.Pack tid collect) (pack_reply why) old new stamps stamps
marks_refused rules m n tid newest t point collect why old new stamps stands whole is_open none free last up_to is beyond refuses cause later same entries greatest sessions vote pack =
    marks_refused_with rules m n tid newest t collect why old new stamps stands whole last up_to (pack_allowed m n tid newest t point collect old stands whole is_open none free last up_to is beyond) refuses cause later
    (stands_without m new (stands_read m old new stands same entries greatest sessions vote pack) (pack ∙ none_running old.pack none))

-- a hub that was read meanwhile stands for the machine without a pack
pub stands_marked : {R F : Type 0} (m : Machine) (old new : HubState R F) → StandsForMachine old m → running old.pack ≡ None → ReadKeepsRest old.store new.store
    → new.journal ≡ old.journal → new.greatest ≡ old.greatest → new.sessions ≡ old.sessions → new.vote ≡ old.vote → new.pack ≡ old.pack → StandsForMachine new (without_pack m)
stands_marked m old new stands none same entries greatest sessions vote pack = stands_without m new (stands_read m old new stands same entries greatest sessions vote pack) (pack ∙ none_running old.pack none)

-- all is marked
pub packs_to : {R F : Type 0} (rules : Rules) (m : Machine) (n tid newest t point : ℕ) (collect : Bool) (marks : MarkerState) (hub : HubState R F) → StandsForMachine hub m → hub.store.broken ≡ false
    → is_open_in hub.sessions n ≡ true → running hub.pack ≡ None → busy_with hub.vote ≡ None → newest ≡ newest_tid hub.store.list → t ≡ min tid (newest - 1) → point ≡ pack_point hub.store.list → point < t
    → AreAllMarked collect rules.named t hub.store.list marks → PacksTo rules m n (request.Pack tid collect) t marks.set
packs_to rules m n tid newest t point collect marks hub stands whole is_open none free last up_to is beyond marked =
    let early = pack_allowed m n tid newest t point collect hub stands whole is_open none free last up_to is beyond in
    record {
      early = early;
      reads = refl;
      memory = refl;
      packs = refl;
      step = λ stamp. pack_gives rules m n tid newest t stamp collect hub stands whole last up_to early
          ∙ ap (λ (w : Option (ℕ × ℕ)). unless_unread m w (switched m t (packed collect rules.named t m.list))) marked.readable
          ∙ ap (λ (keep : FinSet nat_cmp). switched m t (packed_by t keep m.list)) (ap (kept collect rules.named t) (stands.list whole) ∙ sym marked.set);
      changes = λ made is. is;
    }

-- no vote is held
pub none_busy : (vote : Option HubVote) → busy_with vote ≡ None → vote ≡ None
none_busy None free = refl
none_busy (Some v) free = absurd cc

-- what is packed by a hub that was read meanwhile
pub through_switch : {R F : Type 0} (rules given : Rules) (m : Machine) (n : ℕ) (q : Request) (t : ℕ) (keep : FinSet nat_cmp) (r : Reply) (old mid new : HubState R F) (stamps : Option (List Stamp))
    → (PacksTo given m n q t keep → (stamps : Option (List Stamp)) → MakesStep given m n q r mid new stamps stamps) → PacksTo rules m n q t keep → given ≡ rules → AreLaterCounts (counts_of old.store) (counts_of mid.store)
    → MakesStep rules m n q r old new stamps stamps
through_switch rules given m n q t keep r old mid new stamps makes packs same later =
    made_later rules m n q r old mid new stamps stamps later
    (subst (λ (x : Rules). MakesStep x m n q r mid new stamps stamps) same (makes (subst (λ (x : Rules). PacksTo x m n q t keep) (sym same) packs) stamps))

pub moments_through : (stands_for : List ℕ → List Transaction → Type 0) (rules given : Rules) (m : Machine) (n : ℕ) (q : Request) (t : ℕ) (keep : FinSet nat_cmp) (old mid log : List Event)
    → (PacksTo given m n q t keep → LeavesOnly Main (IsBeforeOrBehind stands_for given m n q) mid log) → PacksTo rules m n q t keep → given ≡ rules → mid ≡ old
    → LeavesOnly Main (IsBeforeOrBehind stands_for rules m n q) old log
moments_through stands_for rules given m n q t keep old mid log makes packs same is =
    subst (λ (l : List Event). LeavesOnly Main (IsBeforeOrBehind stands_for rules m n q) l log) is
    (subst (λ (x : Rules). LeavesOnly Main (IsBeforeOrBehind stands_for x m n q) mid log) same (makes (subst (λ (x : Rules). PacksTo x m n q t keep) (sym same) packs)))
