-- How a hub's switch of the pack that is open, and its turns, are steps of each machine that it stands for.
use Rattle.std.proofs.Common.{◌≡◌, ℕ, ◌<◌, ◌≤◌, if◌then◌else◌, List, ◌++◌, drop, length, take, Option, Some, None, Bool, true, false, not, refl, sym, ap, subst, ◌∙◌, arith, IsSome}
use Rattle.std.specs.Prelude.{IfSome, ◌==◌}
use Rattle.std.specs.List.{AllByRecursion}
use Rattle.std.specs.Option.{ForSome, option_map, option_map_or, option_or}
use Rattle.std.specs.Ordering.{nat_cmp}
use Rattle.std.specs.FinSet.{FinSet}
use Rattle.std.proofs.Math.Seq.{drop-append_seam, take-append_seam}
use Rattle.std.proofs.lemmas.List.{length-append}
use Rattle.std.proofs.lemmas.Option.{same_Some}
use Rattle.zb_ids.specs.declared.stamp.Stamp.{Stamp}
use Rattle.zb_model.specs.declared.data.Transaction.{Transaction}
use Rattle.zb_model.specs.declared.refusal.Refusal.{Refusal}
use Rattle.zb_model.specs.declared.refusal.Refusal.TheVariants as refusal
use Rattle.zb_model.specs.Packing.{packed_by}
use Rattle.zb_model.specs.Packs.{IsCopyOf, IsPrefixOf}
use Rattle.zb_model.specs.Stores.{BegunPack, DropKeepsRest, ReadKeepsRest, StoreState}
use Rattle.zb_volume.specs.declared.areas.Area.TheVariants.{Main}
use Rattle.zb_volume.specs.Calls.{Event}
use Rattle.zb_volume.specs.Moments.{Leaves, LeavesOnly, StaysAs}
use Rattle.pack_reach.specs.declared.refusal.PackRefusal.TheVariants as pack_refusal
use Rattle.pack_reach.specs.Late.{overtaken}
use Rattle.pack_reach.specs.Marking.{MarkerState}
use Rattle.pack_reach.specs.Packed.{kept, packed, unread}
use Rattle.zodb_core.specs.declared.journal.JournalEntry.{JournalEntry}
use Rattle.zodb_core.specs.declared.open_pack.HubCopying.{HubCopying}
use Rattle.zodb_core.specs.declared.open_pack.HubPack.{HubPack}
use Rattle.zodb_core.specs.declared.pack_turns.SwitchStop.{SwitchStop}
use Rattle.zodb_core.specs.declared.pack_turns.SwitchStop.TheVariants as switch_stop
use Rattle.zodb_core.specs.declared.reply.Reply.{Reply}
use Rattle.zodb_core.specs.declared.reply.Reply.TheVariants as reply
use Rattle.zodb_core.specs.declared.request.Request.{Request}
use Rattle.zodb_core.specs.declared.request.Request.TheVariants as request
use Rattle.zodb_core.specs.declared.vote.HubVote.{HubVote}
use Rattle.zodb_core.specs.HubState.{HubState, IsBeforeOrBehind, IsCauseOf, IsCopied, IsPackAt, KeepsPack, MakesStep, StandsForMachine, StepsSafely, copying_of_hub, counts_of, is_store_failed, pack_of_hub, sessions_with, tid_begun, vote_of_hub}
use Rattle.zodb_core.specs.Machine.{Machine, PackCopying, Rules, is_open_in}
use Rattle.zodb_core.specs.Outcomes.{Answered, AreLaterCounts, FaultCounts, is_pack, is_pack_going, is_packed, outcome_of}
use Rattle.zodb_core.specs.Packing.{HasStopCause, IsFrontOf, PacksTo, PassesTest, StopsSwitch, TakesTurnOf, busy_with, stop_reply, turn_stop}
use Rattle.zodb_core.specs.Seen.{KeepsSeen, PackGoal}
use Rattle.zodb_core.specs.Steps.{Stepped, busy_for_all, copy_step, early_refusal, refuse_if, step_of, switch_step, switched, turn_of_copying, turn_refusal, unless_overtaken, unless_unread, without_pack}
use Rattle.zodb_core.proofs.Asking.{made_later, refused_at_once}
use Rattle.zodb_core.proofs.Keeping.{tid_there}
use Rattle.zodb_core.proofs.Stepping.{answered, not_early, pack_whole, reading_failed, sessions_whole, starved}
use Rattle.zodb_core.proofs.Switching.{busy_answered, busy_same, moments_stay, stands_unpacked}
use Rattle.zodb_core.proofs.Turns.{pack_none, turn_gives}

-- ---- a pack that is copied whole

pub record IsWholeCopy (named : List ℕ → Option (List ℕ)) (list : List Transaction) (begun : Option BegunPack) (entries : ℕ) (p : HubPack) : Type 0 where
  pub k : HubCopying
  pub is : p.copying ≡ Some k
  pub whole : k.is_whole ≡ true
  pub at : IsCopied named list begun entries p k

pub whole_copy : (told : Type 0) (named : List ℕ → Option (List ℕ)) (list : List Transaction) (begun : Option BegunPack) (newest entries : ℕ) (p : HubPack) → told → KeepsPack told named list begun newest entries p
    → IsSome p.copying → IfSome p.copying (λ k. k.is_whole ≡ true) → IsWholeCopy named list begun entries p
whole_copy told named list begun newest entries p tells keeps some copied = by_copying p.copying refl some copied (keeps.at tells)
  where
    by_copying : (c : Option HubCopying) → p.copying ≡ c → IsSome c → IfSome c (λ (k : HubCopying). k.is_whole ≡ true) → IsPackAt named list begun entries p c → IsWholeCopy named list begun entries p
    by_copying None same some copied at = absurd cc
    by_copying (Some k) same some copied at = record { k = k; is = same; whole = copied; at = at }

-- it was marked over a front of the list
pub front_of_copy : (names named : List ℕ → Option (List ℕ)) (list shown : List Transaction) (begun : Option BegunPack) (entries : ℕ) (p : HubPack) (there : IsWholeCopy named shown begun entries p)
    → p.marker.tid ≡ p.tid → names ≡ named → list ≡ shown → IsFrontOf p.collects names list there.at.front there.at.commits p.marker
front_of_copy names named list shown begun entries p there same as_named as_shown =
    let base : IsFrontOf p.collects named shown there.at.front there.at.commits p.marker = record {
      split = there.at.split;
      later = subst (λ (t : ℕ). AllByRecursion (λ (x : Transaction). t < x.tid) there.at.commits) (sym same) there.at.later;
      set = there.at.set ∙ ap (λ (t : ℕ). kept p.collects named t there.at.front) (sym same);
      whole = there.at.whole;
    } in
    subst (λ (ns : List ℕ → Option (List ℕ)). IsFrontOf p.collects ns list there.at.front there.at.commits p.marker) (sym as_named)
    (subst (λ (l : List Transaction). IsFrontOf p.collects named l there.at.front there.at.commits p.marker) (sym as_shown) base)

-- ---- where the test is passed

-- what is marked then leaves of the list what a pack leaves
pub packed_passed : (names named : List ℕ → Option (List ℕ)) (list : List Transaction) (begun : Option BegunPack) (entries : ℕ) (p : HubPack) (there : IsWholeCopy named list begun entries p) (new : MarkerState)
    → p.marker.tid ≡ p.tid → names ≡ named → PassesTest p.collects names there.at.front there.at.commits p.marker new → packed_by p.tid new.set list ≡ packed p.collects named p.tid list
packed_passed names named list begun entries p there new same as_named passes =
    let both = there.at.front ++ there.at.commits in
    subst (λ (l : List Transaction). packed_by p.tid new.set l ≡ packed p.collects named p.tid l) (sym there.at.split)
    (subst (λ (t : ℕ). packed_by t new.set both ≡ packed p.collects named t both) same
    (subst (λ (ns : List ℕ → Option (List ℕ)). packed_by p.marker.tid new.set both ≡ packed p.collects ns p.marker.tid both) as_named passes.now))

-- so the list behind the switch is the packed one
pub packed_is : (names named : List ℕ → Option (List ℕ)) (list : List Transaction) (begun : Option BegunPack) (entries : ℕ) (p : HubPack) (there : IsWholeCopy named list begun entries p) (new : MarkerState)
    (keep : FinSet nat_cmp) (mid now : List Transaction) → p.marker.tid ≡ p.tid → names ≡ named → PassesTest p.collects names there.at.front there.at.commits p.marker new
    → keep ≡ new.set → mid ≡ list → now ≡ packed_by p.tid keep mid → now ≡ packed p.collects named p.tid list
packed_is names named list begun entries p there new keep mid now same as_named passes marked as_list gives =
    gives ∙ ap (λ (s : FinSet nat_cmp). packed_by p.tid s mid) marked ∙ ap (packed_by p.tid new.set) as_list ∙ packed_passed names named list begun entries p there new same as_named passes

-- and what the store has copied is of these marks
pub copy_passed : (names named : List ℕ → Option (List ℕ)) (list : List Transaction) (begun : Option BegunPack) (entries : ℕ) (p : HubPack) (there : IsWholeCopy named list begun entries p) (new : MarkerState)
    (keep : FinSet nat_cmp) (mid : List Transaction) (still : Option BegunPack) → p.marker.tid ≡ p.tid → names ≡ named → PassesTest p.collects names there.at.front there.at.commits p.marker new
    → tid_begun begun ≡ Some p.tid → keep ≡ new.set → mid ≡ list → still ≡ begun → ForSome still (IsCopyOf keep mid)
copy_passed names named list begun entries p there new keep mid still same as_named passes started marked as_list as_begun =
    subst (λ (o : Option BegunPack). ForSome o (IsCopyOf keep mid)) (sym as_begun)
    (subst (λ (l : List Transaction). ForSome begun (IsCopyOf keep l)) (sym as_list)
    (subst (λ (s : FinSet nat_cmp). ForSome begun (IsCopyOf s list)) (sym marked)
    (λ b at. subst (λ (l : List Transaction). IsPrefixOf l b.copied) (of_marks b at p.marker.set ∙ shown.before ∙ sym shown.now ∙ sym (of_marks b at new.set)) (there.at.copied b at))))
  where
    shown : PassesTest p.collects named there.at.front there.at.commits p.marker new
    shown = subst (λ (ns : List ℕ → Option (List ℕ)). PassesTest p.collects ns there.at.front there.at.commits p.marker new) as_named passes

    of_marks : (b : BegunPack) → begun ≡ Some b → (set : FinSet nat_cmp) → packed_by b.tid set list ≡ packed_by p.marker.tid set (there.at.front ++ there.at.commits)
    of_marks b at set =
        ap (λ (t : ℕ). packed_by t set list) (tid_there begun p.tid b started at ∙ sym same)
        ∙ ap (packed_by p.marker.tid set) there.at.split

-- ---- the step of a switch

-- over a list that is a front and what stands behind it
abbrev switch_tested : (List ℕ → Option (List ℕ)) → Machine → HubPack → List Transaction → List Transaction → List Transaction → Stepped
switch_tested named m p list front commits =
    unless_unread m (unread p.collects named p.tid list)
    (unless_overtaken m (overtaken p.collects named p.marker.set p.tid front commits)
    (switched m p.tid (packed p.collects named p.tid m.list)))

switch_gives : {R F : Type 0} (rules : Rules) (m : Machine) (n stamp : ℕ) (p : HubPack) (hub : HubState R F) (there : IsWholeCopy rules.named hub.store.list hub.store.begun (length hub.journal) p)
    → TakesTurnOf hub m n p → m.list ≡ hub.store.list
    → step_of rules m n request.PackTurn stamp ≡ switch_tested rules.named m p (there.at.front ++ there.at.commits) there.at.front there.at.commits
switch_gives rules m n stamp p hub there takes list =
    let front = there.at.front in
    let commits = there.at.commits in
    let open_pack = pack_of_hub hub.store.list hub.store.begun (length hub.journal) p in
    let copy = copying_of_hub hub.store.list hub.store.begun (length hub.journal) p.marker there.k in
    let began : copy.began ≡ length front = omega (arith, ap length there.at.split, length-append front commits, there.at.counted) in
    turn_gives rules m n stamp p hub takes
    ∙ ap (λ (c : Option HubCopying). turn_of_copying rules.named m open_pack (option_map (copying_of_hub hub.store.list hub.store.begun (length hub.journal) p.marker) c)) there.is
    ∙ ap (λ (b : Bool). if b then switch_step rules.named m open_pack copy else copy_step m open_pack copy (packed_by p.tid p.marker.set m.list)) there.whole
    ∙ ap (λ (l : List Transaction). switch_tested rules.named m p l (take copy.began l) (drop copy.began l)) (list ∙ there.at.split)
    ∙ ap (λ (k : ℕ). switch_tested rules.named m p (front ++ commits) (take k (front ++ commits)) (drop k (front ++ commits))) began
    ∙ ap (λ (l : List Transaction). switch_tested rules.named m p (front ++ commits) l (drop (length front) (front ++ commits))) (take-append_seam front commits)
    ∙ ap (λ (l : List Transaction). switch_tested rules.named m p (front ++ commits) front l) (drop-append_seam front commits)

going : (r : Reply) → is_packed r ≡ true → is_pack_going r ≡ true
going (reply.Front front news switches) is = absurd cc
going (reply.Loaded serial bytes end upto) is = absurd cc
going (reply.Nothing oid switches) is = absurd cc
going (reply.Oids first count) is = absurd cc
going reply.Voted is = absurd cc
going (reply.Committed tid) is = absurd cc
going reply.Empty is = absurd cc
going reply.Aborted is = absurd cc
going (reply.History revisions) is = absurd cc
going (reply.UndoLog lines) is = absurd cc
going (reply.Packed kept dropped) is = refl
going (reply.Packing tid) is = absurd cc
going (reply.Marking count) is = absurd cc
going (reply.Marked count) is = absurd cc
going (reply.Copying count) is = absurd cc
going (reply.Copied count) is = absurd cc
going (reply.Last tid changes) is = absurd cc
going (reply.Since keep commits) is = absurd cc
going reply.Closed is = absurd cc
going (reply.Refused r) is = absurd cc

-- it packs to what is marked
pub turn_packs_to : {R F : Type 0} (rules : Rules) (names : List ℕ → Option (List ℕ)) (m : Machine) (n : ℕ) (p : HubPack) (new : MarkerState) (hub : HubState R F)
    (there : IsWholeCopy rules.named hub.store.list hub.store.begun (length hub.journal) p)
    → StandsForMachine hub (without_pack m) → hub.store.broken ≡ false → TakesTurnOf hub m n p → p.marker.tid ≡ p.tid → names ≡ rules.named → PassesTest p.collects names there.at.front there.at.commits p.marker new
    → PacksTo rules m n request.PackTurn p.tid new.set
turn_packs_to rules names m n p new hub there stands whole takes same as_named passes = record {
  early = takes.allowed;
  reads = refl;
  memory = refl;
  packs = refl;
  step = λ stamp. switch_gives rules m n stamp p hub there takes (stands.list whole)
      ∙ ap (λ (w : Option (ℕ × ℕ)). unless_unread m w (unless_overtaken m (overtaken p.collects rules.named p.marker.set p.tid there.at.front there.at.commits) all)) readable
      ∙ ap (λ (w : Option (ℕ × ℕ)). unless_overtaken m w all) not_late
      ∙ ap (switched m p.tid) same_list;
  changes = λ made is. going made.reply is;
}
  where
    all : Stepped
    all = switched m p.tid (packed p.collects rules.named p.tid m.list)

    shown : PassesTest p.collects rules.named there.at.front there.at.commits p.marker new
    shown = subst (λ (ns : List ℕ → Option (List ℕ)). PassesTest p.collects ns there.at.front there.at.commits p.marker new) as_named passes

    readable : unread p.collects rules.named p.tid (there.at.front ++ there.at.commits) ≡ None
    readable = subst (λ (t : ℕ). unread p.collects rules.named t (there.at.front ++ there.at.commits) ≡ None) same shown.readable

    not_late : overtaken p.collects rules.named p.marker.set p.tid there.at.front there.at.commits ≡ None
    not_late = subst (λ (t : ℕ). overtaken p.collects rules.named p.marker.set t there.at.front there.at.commits ≡ None) same shown.not_late

    same_list : packed p.collects rules.named p.tid m.list ≡ packed_by p.tid new.set m.list
    same_list = subst (λ (l : List Transaction). packed p.collects rules.named p.tid l ≡ packed_by p.tid new.set l) (sym (stands.list whole))
        (sym (packed_passed names rules.named hub.store.list hub.store.begun (length hub.journal) p there new same as_named passes))

-- ---- where the test isn't passed

turn_stopped_with : {R F : Type 0} (rules : Rules) (m : Machine) (n : ℕ) (p : HubPack) (stop : SwitchStop) (old new : HubState R F) (stamps : Option (List Stamp))
    (there : IsWholeCopy rules.named old.store.list old.store.begun (length old.journal) p)
    → m.list ≡ old.store.list → TakesTurnOf old m n p → p.marker.tid ≡ p.tid → StopsSwitch p.collects rules.named there.at.front there.at.commits p.marker stop
    → HasStopCause old.store.read_faults new.store.read_faults stop → AreLaterCounts (counts_of old.store) (counts_of new.store) → StandsForMachine new (without_pack m)
    → MakesStep rules m n request.PackTurn (stop_reply stop) old new stamps stamps
turn_stopped_with rules m n p (switch_stop.Marks (pack_refusal.Unreadable oid tid)) old new stamps there list takes same stops cause later left =
    answered rules m n request.PackTurn (reply.Refused (refusal.Unreadable oid tid)) (without_pack m) old new stamps later refl
    (switch_gives rules m n 0 p old there takes list
    ∙ ap (λ (w : Option (ℕ × ℕ)). unless_unread m w (unless_overtaken m (overtaken p.collects rules.named p.marker.set p.tid there.at.front there.at.commits) (switched m p.tid (packed p.collects rules.named p.tid m.list))))
    (subst (λ (t : ℕ). unread p.collects rules.named t (there.at.front ++ there.at.commits) ≡ Some (oid, tid)) same stops))
    left
turn_stopped_with rules m n p (switch_stop.Marks pack_refusal.ReadFault) old new stamps there list takes same stops cause later left =
    reading_failed rules m n request.PackTurn old new stamps later (record { allowed = takes.allowed; one = refl }) cause left
turn_stopped_with rules m n p (switch_stop.Marks pack_refusal.Memory) old new stamps there list takes same stops cause later left =
    starved rules m n request.PackTurn old new stamps later (record { allowed = takes.allowed; one = refl }) left
turn_stopped_with rules m n p (switch_stop.Overtaken oid tid) old new stamps there list takes same stops cause later left =
    let all = switched m p.tid (packed p.collects rules.named p.tid m.list) in
    answered rules m n request.PackTurn (reply.Refused (refusal.Overtaken oid tid)) (without_pack m) old new stamps later refl
    (switch_gives rules m n 0 p old there takes list
    ∙ ap (λ (w : Option (ℕ × ℕ)). unless_unread m w (unless_overtaken m (overtaken p.collects rules.named p.marker.set p.tid there.at.front there.at.commits) all))
    (subst (λ (t : ℕ). unread p.collects rules.named t (there.at.front ++ there.at.commits) ≡ None) same stops.0)
    ∙ ap (λ (w : Option (ℕ × ℕ)). unless_overtaken m w all)
    (subst (λ (t : ℕ). overtaken p.collects rules.named p.marker.set t there.at.front there.at.commits ≡ Some (oid, tid)) same stops.1))
    left

-- the store was only read, and the pack is dropped
pub turn_stopped : {R F : Type 0} (rules : Rules) (names : List ℕ → Option (List ℕ)) (m : Machine) (n : ℕ) (p : HubPack) (stop : SwitchStop) (mid : StoreState) (old new : HubState R F) (stamps : Option (List Stamp))
    (there : IsWholeCopy rules.named old.store.list old.store.begun (length old.journal) p)
    → StandsForMachine old (without_pack m) → old.store.broken ≡ false → TakesTurnOf old m n p → p.marker.tid ≡ p.tid → names ≡ rules.named → StopsSwitch p.collects names there.at.front there.at.commits p.marker stop
    → ReadKeepsRest old.store mid → old.store.read_faults ≤ mid.read_faults → HasStopCause old.store.read_faults mid.read_faults stop → DropKeepsRest mid new.store
    → old.vote ≡ None → new.pack ≡ None → new.journal ≡ old.journal → new.greatest ≡ old.greatest → new.sessions ≡ old.sessions → new.vote ≡ old.vote
    → MakesStep rules m n request.PackTurn (stop_reply stop) old new stamps stamps
turn_stopped rules names m n p stop mid old new stamps there stands whole takes same as_named stops read counted cause drops free none entries greatest sessions vote =
    turn_stopped_with rules m n p stop old new stamps there (stands.list whole) takes same
    (subst (λ (ns : List ℕ → Option (List ℕ)). StopsSwitch p.collects ns there.at.front there.at.commits p.marker stop) as_named stops)
    (subst (λ (k : ℕ). HasStopCause old.store.read_faults k stop) (sym (ap (λ (s : StoreState). s.read_faults) drops)) cause)
    (record { reads = omega (arith, counted, ap (λ (s : StoreState). s.read_faults) drops); others = omega (arith, ap (λ (s : StoreState). s.faults) drops, ap (λ (s : StoreState). s.faults) read) })
    (stands_unpacked m old new stands whole (ap (λ (s : StoreState). s.broken) drops ∙ ap (λ (s : StoreState). s.broken) read ∙ whole)
    (ap (λ (s : StoreState). s.list) drops ∙ ap (λ (s : StoreState). s.list) read) free none entries greatest sessions vote)

pub stop_unpacked : (stop : SwitchStop) → is_packed (stop_reply stop) ≡ false
stop_unpacked (switch_stop.Marks (pack_refusal.Unreadable oid tid)) = refl
stop_unpacked (switch_stop.Marks pack_refusal.ReadFault) = refl
stop_unpacked (switch_stop.Marks pack_refusal.Memory) = refl
stop_unpacked (switch_stop.Overtaken oid tid) = refl

-- whatever the store tells
safe_as : {R F : Type 0} (r : Reply) (mid : StoreState) (old new : HubState R F) → ReadKeepsRest old.store mid → old.store.read_faults ≤ mid.read_faults → DropKeepsRest mid new.store
    → IsCauseOf (counts_of old.store) (counts_of new.store) (outcome_of r) → is_store_failed (outcome_of r) ≡ false → new.resolver ≡ old.resolver → new.refs ≡ old.refs → new.sessions ≡ old.sessions → StepsSafely true r old new
safe_as r mid old new read counted drops cause fine resolver refs sessions = record {
  resolver = resolver;
  refs = refs;
  sessions = ap length sessions;
  later = record { reads = omega (arith, counted, ap (λ (s : StoreState). s.read_faults) drops); others = omega (arith, ap (λ (s : StoreState). s.faults) drops, ap (λ (s : StoreState). s.faults) read) };
  cause = cause;
  others = λ _. ap (λ (s : StoreState). s.faults) drops ∙ ap (λ (s : StoreState). s.faults) read;
  broken = λ whole. ap (λ (s : StoreState). s.broken) drops ∙ ap (λ (s : StoreState). s.broken) read ∙ whole ∙ sym fine;
  log = λ _. ap (λ (s : StoreState). s.log) drops ∙ ap (λ (s : StoreState). s.log) read;
}

counts_both : (old mid new : StoreState) → ReadKeepsRest old mid → DropKeepsRest mid new → mid.read_faults ≡ old.read_faults → counts_of new ≡ counts_of old
counts_both old mid new read drops still =
    ap (λ (s : StoreState). counts_of s) drops
    ∙ ap (λ (k : ℕ). let c : FaultCounts = record { reads = k; others = mid.faults } in c) still
    ∙ ap (λ (k : ℕ). let c : FaultCounts = record { reads = old.read_faults; others = k } in c) (ap (λ (s : StoreState). s.faults) read)

pub stop_safely : {R F : Type 0} (stop : SwitchStop) (mid : StoreState) (old new : HubState R F) → ReadKeepsRest old.store mid → old.store.read_faults ≤ mid.read_faults → HasStopCause old.store.read_faults mid.read_faults stop
    → DropKeepsRest mid new.store → new.resolver ≡ old.resolver → new.refs ≡ old.refs → new.sessions ≡ old.sessions → StepsSafely true (stop_reply stop) old new
stop_safely (switch_stop.Marks (pack_refusal.Unreadable oid tid)) mid old new read counted cause drops resolver refs sessions =
    safe_as (reply.Refused (refusal.Unreadable oid tid)) mid old new read counted drops (counts_both old.store mid new.store read drops cause) refl resolver refs sessions
stop_safely (switch_stop.Marks pack_refusal.ReadFault) mid old new read counted cause drops resolver refs sessions =
    safe_as (reply.Refused refusal.ReadFault) mid old new read counted drops
    (subst (λ (k : ℕ). IsCauseOf (counts_of old.store) (let c : FaultCounts = record { reads = k; others = new.store.faults } in c) (outcome_of (reply.Refused refusal.ReadFault))) (sym (ap (λ (s : StoreState). s.read_faults) drops)) cause)
    refl resolver refs sessions
stop_safely (switch_stop.Marks pack_refusal.Memory) mid old new read counted cause drops resolver refs sessions =
    safe_as (reply.Refused refusal.Memory) mid old new read counted drops (counts_both old.store mid new.store read drops cause) refl resolver refs sessions
stop_safely (switch_stop.Overtaken oid tid) mid old new read counted cause drops resolver refs sessions =
    safe_as (reply.Refused (refusal.Overtaken oid tid)) mid old new read counted drops (counts_both old.store mid new.store read drops cause) refl resolver refs sessions

-- ---- a turn

turn_early : {R F : Type 0} (m : Machine) (n : ℕ) (hub : HubState R F) → StandsForMachine hub m → hub.store.broken ≡ false → is_open_in hub.sessions n ≡ true
    → early_refusal m n request.PackTurn ≡ turn_stop n hub.vote hub.pack
turn_early m n hub stands whole is_open =
    not_early m n request.PackTurn hub.sessions (sessions_whole m hub stands whole) is_open
    ∙ ap (turn_refusal m n) (stands.pack ∙ pack_whole hub.store (length hub.journal) hub.pack whole)
    ∙ by_pack hub.pack
  where
    whole_shown : (c : Option HubCopying) (marks : MarkerState)
        → option_map_or (λ (k : PackCopying). k.is_whole) (option_map (copying_of_hub hub.store.list hub.store.begun (length hub.journal) marks) c) false ≡ option_map_or (λ (k : HubCopying). k.is_whole) c false
    whole_shown None marks = refl
    whole_shown (Some k) marks = refl

    by_pack : (pack : Option HubPack) → turn_refusal m n (option_map (pack_of_hub hub.store.list hub.store.begun (length hub.journal)) pack) ≡ turn_stop n hub.vote pack
    by_pack None = refl
    by_pack (Some p) =
        ap (λ (b : Bool). option_or (refuse_if (not (p.session == n)) (refusal.PackRunning p.session)) (if b then busy_for_all m.vote else None)) (whole_shown p.copying p.marker)
        ∙ ap (λ (o : Option Refusal). option_or (refuse_if (not (p.session == n)) (refusal.PackRunning p.session)) (if option_map_or (λ (k : HubCopying). k.is_whole) p.copying false then o else None))
        (ap busy_for_all (stands.vote whole) ∙ busy_same hub.vote hub.store.voted)

stop_answered : (n : ℕ) (vote : Option HubVote) (pack : Option HubPack) (r : Refusal) → turn_stop n vote pack ≡ Some r → outcome_of (reply.Refused r) ≡ Answered
stop_answered n vote None r is = ap (λ (x : Refusal). outcome_of (reply.Refused x)) (sym (same_Some refusal.NoPack r is))
stop_answered n vote (Some p) r is = by_both (not (p.session == n)) (option_map_or (λ (k : HubCopying). k.is_whole) p.copying false) is
  where
    by_both : (b c : Bool) → option_or (refuse_if b (refusal.PackRunning p.session)) (if c then busy_with vote else None) ≡ Some r → outcome_of (reply.Refused r) ≡ Answered
    by_both true c is = ap (λ (x : Refusal). outcome_of (reply.Refused x)) (sym (same_Some (refusal.PackRunning p.session) r is))
    by_both false true is = busy_answered vote r is
    by_both false false is = absurd cc

-- it is refused at once
pub turn_refused : {R F : Type 0} (rules : Rules) (m : Machine) (n : ℕ) (r : Refusal) (hub : HubState R F) (stamps : Option (List Stamp)) → StandsForMachine hub m → hub.store.broken ≡ false
    → is_open_in hub.sessions n ≡ true → turn_stop n hub.vote hub.pack ≡ Some r → MakesStep rules m n request.PackTurn (reply.Refused r) hub hub stamps stamps
turn_refused rules m n r hub stamps stands whole is_open is =
    refused_at_once rules m n request.PackTurn r hub stamps stands (turn_early m n hub stands whole is_open ∙ is) (stop_answered n hub.vote hub.pack r is)

-- else a pack is open
pub turn_open : (n : ℕ) (vote : Option HubVote) (pack : Option HubPack) → turn_stop n vote pack ≡ None → pack ≡ None → ⊥
turn_open n vote None free is = absurd cc
turn_open n vote (Some p) free is = absurd cc

takes_turn : {R F : Type 0} (m : Machine) (n : ℕ) (p : HubPack) (hub mid : HubState R F) → StandsForMachine hub m → hub.store.broken ≡ false → is_open_in hub.sessions n ≡ true → turn_stop n hub.vote hub.pack ≡ None
    → hub.pack ≡ Some p → mid.store ≡ hub.store → mid.journal ≡ hub.journal → TakesTurnOf mid m n p
takes_turn m n p hub mid stands whole is_open free is store entries = record {
  allowed = turn_early m n hub stands whole is_open ∙ free;
  pack = stands.pack ∙ pack_whole hub.store (length hub.journal) hub.pack whole
      ∙ ap (option_map (pack_of_hub hub.store.list hub.store.begun (length hub.journal))) is
      ∙ ap (λ (s : StoreState). Some (pack_of_hub s.list s.begun (length hub.journal) p)) (sym store)
      ∙ ap (λ (es : List JournalEntry). Some (pack_of_hub mid.store.list mid.store.begun (length es) p)) (sym entries);
}

stands_taken : {R F : Type 0} (m : Machine) (hub mid : HubState R F) → StandsForMachine hub m → mid.store ≡ hub.store → mid.journal ≡ hub.journal → mid.greatest ≡ hub.greatest → mid.sessions ≡ hub.sessions
    → mid.vote ≡ hub.vote → mid.pack ≡ None → StandsForMachine mid (without_pack m)
stands_taken m hub mid stands store entries greatest sessions vote none = record {
  journal = stands.journal ∙ sym entries;
  greatest = stands.greatest ∙ sym greatest;
  sessions = stands.sessions ∙ sym (ap (λ (s : StoreState). sessions_with s.broken mid.sessions) store ∙ ap (sessions_with hub.store.broken) sessions);
  pack = sym (pack_none mid.store (length mid.journal) mid.pack none);
  failed = stands.failed ∙ sym (ap (λ (s : StoreState). s.broken) store);
  list = λ whole. stands.list (sym (ap (λ (s : StoreState). s.broken) store) ∙ whole) ∙ sym (ap (λ (s : StoreState). s.list) store);
  vote = λ whole. stands.vote (sym (ap (λ (s : StoreState). s.broken) store) ∙ whole)
      ∙ sym (ap (λ (s : StoreState). option_map (vote_of_hub s.voted) mid.vote) store ∙ ap (option_map (vote_of_hub hub.store.voted)) vote);
}

-- the hub from which its pack is taken
pub record IsTaken {R F : Type 0} (n : ℕ) (p : HubPack) (old mid : HubState R F) : Type 0 where
  pub whole : old.store.broken ≡ false
  pub is_open : is_open_in old.sessions n ≡ true
  pub free : turn_stop n old.vote old.pack ≡ None
  pub is : old.pack ≡ Some p
  pub store : mid.store ≡ old.store
  pub journal : mid.journal ≡ old.journal
  pub greatest : mid.greatest ≡ old.greatest
  pub sessions : mid.sessions ≡ old.sessions
  pub vote : mid.vote ≡ old.vote
  pub none : mid.pack ≡ None

-- makes the turn
pub turn_taken : {R F : Type 0} (rules given : Rules) (m : Machine) (n : ℕ) (p : HubPack) (r : Reply) (old mid new : HubState R F) (stamps : Option (List Stamp)) → StandsForMachine old m
    → (StandsForMachine mid (without_pack m) → TakesTurnOf mid m n p → (stamps : Option (List Stamp)) → MakesStep given m n request.PackTurn r mid new stamps stamps)
    → IsTaken n p old mid → given ≡ rules → MakesStep rules m n request.PackTurn r old new stamps stamps
turn_taken rules given m n p r old mid new stamps stands makes taken same =
    made_later rules m n request.PackTurn r old mid new stamps stamps
    (record { reads = omega (arith, ap (λ (s : StoreState). s.read_faults) taken.store); others = omega (arith, ap (λ (s : StoreState). s.faults) taken.store) })
    (subst (λ (x : Rules). MakesStep x m n request.PackTurn r mid new stamps stamps) same
    (makes (stands_taken m old mid stands taken.store taken.journal taken.greatest taken.sessions taken.vote taken.none)
    (takes_turn m n p old mid stands taken.whole taken.is_open taken.free taken.is taken.store taken.journal) stamps))

-- and in one that doesn't switch
pub moments_turned : {R F : Type 0} (stands_for : List ℕ → List Transaction → Type 0) (rules : Rules) (m : Machine) (n : ℕ) (s : StoreState) (old : HubState R F) (mid log : List Event) → StandsForMachine old m → StaysAs Main mid log
    → mid ≡ old.store.log → old.store.broken ≡ false → old.store ≡ s → Leaves Main (λ bytes. stands_for bytes s.list) s.log → LeavesOnly Main (IsBeforeOrBehind stands_for rules m n request.PackTurn) old.store.log log
moments_turned stands_for rules m n s old mid log stands stays same whole is leaves =
    moments_stay stands_for rules m n request.PackTurn old s log (stands.list whole) is leaves (subst (λ (l : List Event). StaysAs Main l log) same stays)

-- a request on no pack packs nothing
pub unasked_keeps : (named : List ℕ → Option (List ℕ)) (goal : Option PackGoal) (q : Request) (r : Reply) (list now : List Transaction) → is_pack q ≡ false → KeepsSeen named goal q r list now
unasked_keeps named goal request.Front r list now not = λ packed g asked. absurd cc
unasked_keeps named goal (request.LoadBefore oid front) r list now not = λ packed g asked. absurd cc
unasked_keeps named goal (request.NewOids count) r list now not = λ packed g asked. absurd cc
unasked_keeps named goal (request.Vote user description extension pending) r list now not = λ packed g asked. absurd cc
unasked_keeps named goal (request.Undo user description tids) r list now not = λ packed g asked. absurd cc
unasked_keeps named goal request.Finish r list now not = λ packed g asked. absurd cc
unasked_keeps named goal request.Abort r list now not = λ packed g asked. absurd cc
unasked_keeps named goal (request.History oid) r list now not = λ packed g asked. absurd cc
unasked_keeps named goal request.UndoLog r list now not = λ packed g asked. absurd cc
unasked_keeps named goal request.Last r list now not = λ packed g asked. absurd cc
unasked_keeps named goal (request.Since tid changes) r list now not = λ packed g asked. absurd cc
unasked_keeps named goal request.Close r list now not = λ packed g asked. absurd cc
unasked_keeps named goal (request.Pack tid collect) r list now not = absurd cc
unasked_keeps named goal (request.PackBegin tid collect) r list now not = absurd cc
unasked_keeps named goal request.PackTurn r list now not = absurd cc
