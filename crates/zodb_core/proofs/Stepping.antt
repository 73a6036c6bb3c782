-- How a hub's step is a step of each machine that it stands for.
use Rattle.std.proofs.Common.{◌≡◌, ℕ, ◌+◌, ◌≤◌, if◌then◌else◌, List, [], ◌∷◌, ◌++◌, length, Option, Some, None, Bool, true, false, not, refl, sym, ap, subst, ◌∙◌, arith}
use Rattle.std.specs.Prelude.{IfSome}
use Rattle.std.specs.Option.{option_map, option_map_or, option_or}
use Rattle.std.proofs.lemmas.List.{length-append}
use Rattle.zb_base.specs.Counts.{Rose}
use Rattle.zb_ids.specs.declared.stamp.Stamp.{Stamp}
use Rattle.zb_model.specs.declared.found.Found.{Found}
use Rattle.zb_model.specs.declared.found.Found.TheVariants as found
use Rattle.zb_model.specs.declared.refusal.Refusal.TheVariants as refusal
use Rattle.zb_model.specs.declared.store_error.StoreError.{StoreError}
use Rattle.zb_model.specs.declared.store_error.StoreError.TheVariants as store_error
use Rattle.zb_model.specs.Queries.{found_below}
use Rattle.zb_model.specs.declared.data.Transaction.{Transaction}
use Rattle.zb_model.specs.Stores.{BegunPack, MayRefuseReading, ReadKeepsRest, StoreState}
use Rattle.pack_reach.specs.Marking.{MarkerState}
use Rattle.zodb_core.specs.declared.reply.Reply.{Reply}
use Rattle.zodb_core.specs.declared.reply.Reply.TheVariants as reply
use Rattle.zodb_core.specs.declared.request.Request.{Request}
use Rattle.zodb_core.specs.declared.request.Request.TheVariants as request
use Rattle.zodb_core.specs.declared.open_pack.HubCopying.{HubCopying}
use Rattle.zodb_core.specs.declared.open_pack.HubPack.{HubPack}
use Rattle.zodb_core.specs.HubState.{HasTicked, HubState, IsWithin, MakesStep, MakesStepAt, StandsForMachine, StepsByClock, copying_of_hub, counts_of, pack_of_hub, pack_with, unless_broken, vote_of_hub, sessions_with}
use Rattle.zodb_core.specs.Entries.{made_unread}
use Rattle.zodb_core.specs.Machine.{Machine, MachineSession, OpenPack, PackCopying, Rules, front_of, is_open_in, switches_of}
use Rattle.zodb_core.specs.Outcomes.{Answered, AreLaterCounts, EndsFor, FaultCounts, IsStepMade, MayGoWrong, NoMemory, StepOutcome, ReadingFailed, StoreFailed, is_pack, machine_left, outcome_of, reads_store, takes_memory, unanswered}
use Rattle.zodb_core.specs.Replies.{fault_reply, loaded_reply}
use Rattle.zodb_core.specs.Steps.{Stepped, early_refusal, loaded, refuse_if, replied, request_refusal, step_of, without_pack}

-- ---- the open pack that a hub has

-- it is the machine's still where the list, what is copied and the journal's length are as they were
pub pack_same : (old new : StoreState) (before now : ℕ) (p q : Option HubPack) → new.broken ≡ old.broken → new.list ≡ old.list → new.begun ≡ old.begun → now ≡ before → q ≡ p
    → pack_with old before p ≡ pack_with new now q
pack_same old new before now p q broken list begun entries pack =
    ap (λ (b : Bool). unless_broken b (option_map (pack_of_hub old.list old.begun before) p)) (sym broken)
    ∙ ap (λ (l : List Transaction). unless_broken new.broken (option_map (pack_of_hub l old.begun before) p)) (sym list)
    ∙ ap (λ (b : Option BegunPack). unless_broken new.broken (option_map (pack_of_hub new.list b before) p)) (sym begun)
    ∙ ap (λ (k : ℕ). unless_broken new.broken (option_map (pack_of_hub new.list new.begun k) p)) (sym entries)
    ∙ ap (λ (o : Option HubPack). unless_broken new.broken (option_map (pack_of_hub new.list new.begun now) o)) (sym pack)

-- and where the store is
pub pack_of_store : (old new : StoreState) (before now : ℕ) (p q : Option HubPack) → new ≡ old → now ≡ before → q ≡ p → pack_with old before p ≡ pack_with new now q
pack_of_store old new before now p q same entries pack =
    pack_same old new before now p q (ap (λ (s : StoreState). s.broken) same) (ap (λ (s : StoreState). s.list) same) (ap (λ (s : StoreState). s.begun) same) entries pack

-- while the store is whole
pub pack_whole : (s : StoreState) (entries : ℕ) (p : Option HubPack) → s.broken ≡ false → pack_with s entries p ≡ option_map (pack_of_hub s.list s.begun entries) p
pack_whole s entries p whole = ap (λ (b : Bool). unless_broken b (option_map (pack_of_hub s.list s.begun entries) p)) whole

-- none is open once it failed
pub pack_lost : (s : StoreState) (entries : ℕ) (p : Option HubPack) → s.broken ≡ true → pack_with s entries p ≡ None
pack_lost s entries p broke = ap (λ (b : Bool). unless_broken b (option_map (pack_of_hub s.list s.begun entries) p)) broke

-- a commit puts one transaction behind the list, and one entry behind the journal
pub pack_more : (old new : StoreState) (before now : ℕ) (t : Transaction) (p q : Option HubPack) → old.broken ≡ false → new.broken ≡ false → new.list ≡ old.list ++ t ∷ [] → new.begun ≡ old.begun
    → now ≡ before + 1 → q ≡ p → IsWithin p before → pack_with old before p ≡ pack_with new now q
pack_more old new before now t p q whole still list begun entries pack within =
    pack_whole old before p whole
    ∙ grown p within
    ∙ ap (λ (l : List Transaction). option_map (pack_of_hub l old.begun (before + 1)) p) (sym list)
    ∙ ap (λ (b : Option BegunPack). option_map (pack_of_hub new.list b (before + 1)) p) (sym begun)
    ∙ ap (λ (k : ℕ). option_map (pack_of_hub new.list new.begun k) p) (sym entries)
    ∙ ap (option_map (pack_of_hub new.list new.begun now)) (sym pack)
    ∙ sym (pack_whole new now q still)
  where
    one : (marks : MarkerState) (k : Option HubCopying) → IfSome k (λ (k : HubCopying). k.entries ≤ before)
        → option_map (copying_of_hub old.list old.begun before marks) k ≡ option_map (copying_of_hub (old.list ++ t ∷ []) old.begun (before + 1) marks) k
    one marks None up = refl
    one marks (Some k) up =
        ap (λ (n : ℕ). let c : PackCopying = record { kept = marks.set; began = n; copied = option_map_or (λ (b : BegunPack). length b.copied) old.begun 0; is_whole = k.is_whole } in Some c)
        (omega (arith, up, length-append old.list (t ∷ [])))

    grown : (p : Option HubPack) → IsWithin p before
        → option_map (pack_of_hub old.list old.begun before) p ≡ option_map (pack_of_hub (old.list ++ t ∷ []) old.begun (before + 1)) p
    grown None up = refl
    grown (Some p) up = ap (λ (c : Option PackCopying). let o : OpenPack = record { session = p.session; tid = p.tid; collects = p.collects; marked = p.marker.counted; copying = c } in Some o) (one p.marker p.copying up)

-- ---- what a hub that was only read stands for

pub stands_read : {R F : Type 0} (m : Machine) (old new : HubState R F) → StandsForMachine old m → ReadKeepsRest old.store new.store
    → new.journal ≡ old.journal → new.greatest ≡ old.greatest → new.sessions ≡ old.sessions → new.vote ≡ old.vote → new.pack ≡ old.pack → StandsForMachine new m
stands_read m old new stands same journal greatest sessions vote pack = record {
  journal = stands.journal ∙ sym journal;
  greatest = stands.greatest ∙ sym greatest;
  sessions = stands.sessions ∙ sym (ap (λ (s : StoreState). sessions_with s.broken new.sessions) same ∙ ap (sessions_with old.store.broken) sessions);
  pack = stands.pack
      ∙ pack_same old.store new.store (length old.journal) (length new.journal) old.pack new.pack (ap (λ (s : StoreState). s.broken) same) (ap (λ (s : StoreState). s.list) same)
      (ap (λ (s : StoreState). s.begun) same) (ap length journal) pack;
  failed = stands.failed ∙ sym (ap (λ (s : StoreState). s.broken) same);
  list = λ whole. stands.list (sym (ap (λ (s : StoreState). s.broken) same) ∙ whole) ∙ sym (ap (λ (s : StoreState). s.list) same);
  vote = λ whole. stands.vote (sym (ap (λ (s : StoreState). s.broken) same) ∙ whole)
      ∙ sym (ap (λ (s : StoreState). option_map (vote_of_hub s.voted) new.vote) same ∙ ap (option_map (vote_of_hub old.store.voted)) vote);
}

-- while the store is whole the machine's sessions are the hub's
pub sessions_whole : {R F : Type 0} (m : Machine) (hub : HubState R F) → StandsForMachine hub m → hub.store.broken ≡ false → m.sessions ≡ hub.sessions
sessions_whole m hub stands whole = stands.sessions ∙ ap (λ (b : Bool). sessions_with b hub.sessions) whole

-- ---- how a step ends

-- a session that is open is refused what its request is
pub not_early : (m : Machine) (n : ℕ) (q : Request) (sessions : List MachineSession) → m.sessions ≡ sessions → is_open_in sessions n ≡ true → early_refusal m n q ≡ request_refusal m n q
not_early m n q sessions same is_open = ap (λ (b : Bool). option_or (refuse_if (not b) refusal.NotOpen) (request_refusal m n q)) (ap (λ (xs : List MachineSession). is_open_in xs n) same ∙ is_open)

pub ends_answered : (rules : Rules) (m : Machine) (n : ℕ) (q : Request) (stamp : ℕ) (made : Stepped) (before now : FaultCounts) (o : StepOutcome) → o ≡ Answered → made ≡ step_of rules m n q stamp → EndsFor rules m n q stamp made before now o
ends_answered rules m n q stamp made before now Answered is same = same
ends_answered rules m n q stamp made before now ReadingFailed is same = absurd cc
ends_answered rules m n q stamp made before now NoMemory is same = absurd cc
ends_answered rules m n q stamp made before now StoreFailed is same = absurd cc

-- the machine answers it without the clock
pub answered : {R F : Type 0} (rules : Rules) (m : Machine) (n : ℕ) (q : Request) (r : Reply) (left : Machine) (old new : HubState R F) (stamps : Option (List Stamp))
    → AreLaterCounts (counts_of old.store) (counts_of new.store) → outcome_of r ≡ Answered → step_of rules m n q 0 ≡ replied left r → StandsForMachine new left
    → MakesStep rules m n q r old new stamps stamps
answered rules m n q r left old new stamps later is gives stands = record {
  stamp = 0;
  left = left;
  ticks = false;
  made = record {
    later = later;
    cause = ends_answered rules m n q 0 (replied left r) (counts_of old.store) (counts_of new.store) (outcome_of r) is (sym gives);
    left = sym (ap (machine_left rules m n q 0) is ∙ ap (λ (s : Stepped). s.machine) gives);
    ticks = λ never. absurd cc;
    failed_ticks = λ fault. sym (ap (λ (s : Stepped). s.ticks) gives);
  };
  clock = refl;
  stands = stands;
}

-- a request on no pack leaves the pack where it isn't answered
pub stands_unanswered : {R F : Type 0} (m : Machine) (q : Request) (hub : HubState R F) → is_pack q ≡ false → StandsForMachine hub m → StandsForMachine hub (unanswered q m)
stands_unanswered m q hub not stands = subst (StandsForMachine hub) (sym (ap (λ (b : Bool). if b then without_pack m else m) not)) stands

-- reading failed
pub reading_failed : {R F : Type 0} (rules : Rules) (m : Machine) (n : ℕ) (q : Request) (old new : HubState R F) (stamps : Option (List Stamp))
    → AreLaterCounts (counts_of old.store) (counts_of new.store) → MayGoWrong m n q (reads_store q) → Rose old.store.read_faults new.store.read_faults → StandsForMachine new (unanswered q m)
    → MakesStep rules m n q (reply.Refused refusal.ReadFault) old new stamps stamps
reading_failed rules m n q old new stamps later may rose stands = record {
  stamp = 0;
  left = unanswered q m;
  ticks = false;
  clock = refl;
  stands = stands;
  made = record { later = later; cause = (may, rose); left = refl; ticks = λ never. absurd cc; failed_ticks = λ never. absurd cc };
}

-- there was no memory
pub starved : {R F : Type 0} (rules : Rules) (m : Machine) (n : ℕ) (q : Request) (old new : HubState R F) (stamps : Option (List Stamp))
    → AreLaterCounts (counts_of old.store) (counts_of new.store) → MayGoWrong m n q (takes_memory q) → StandsForMachine new (unanswered q m)
    → MakesStep rules m n q (reply.Refused refusal.Memory) old new stamps stamps
starved rules m n q old new stamps later may stands = record {
  stamp = 0;
  left = unanswered q m;
  ticks = false;
  clock = refl;
  stands = stands;
  made = record { later = later; cause = may; left = refl; ticks = λ never. absurd cc; failed_ticks = λ never. absurd cc };
}

-- an error of a read
pub read_refused : {R F : Type 0} (rules : Rules) (m : Machine) (n : ℕ) (q : Request) (e : StoreError) (old new : HubState R F) (stamps : Option (List Stamp))
    → AreLaterCounts (counts_of old.store) (counts_of new.store) → early_refusal m n q ≡ None → reads_store q ≡ true → takes_memory q ≡ true
    → MayRefuseReading old.store new.store e → StandsForMachine new (unanswered q m)
    → MakesStep rules m n q (fault_reply e) old new stamps stamps
read_refused rules m n q store_error.StoreFault old new stamps later early reads takes may stands = absurd may
read_refused rules m n q store_error.ReadFault old new stamps later early reads takes may stands = reading_failed rules m n q old new stamps later (record { allowed = early; one = reads }) may stands
read_refused rules m n q store_error.Memory old new stamps later early reads takes may stands = starved rules m n q old new stamps later (record { allowed = early; one = takes }) stands

-- ---- a look-up

loaded_same : (m : Machine) (oid : ℕ) (f : Found) (upto switches : ℕ) → upto ≡ front_of m.list → switches ≡ switches_of m.journal → loaded_reply oid f upto switches ≡ loaded m oid f
loaded_same m oid (found.Held serial bytes end) upto switches front packs = ap (reply.Loaded serial bytes end) front
loaded_same m oid (found.Absent serial) upto switches front packs = ap (reply.Nothing oid) packs
loaded_same m oid found.Nothing upto switches front packs = ap (reply.Nothing oid) packs

loaded_answered : (oid : ℕ) (f : Found) (upto switches : ℕ) → outcome_of (loaded_reply oid f upto switches) ≡ Answered
loaded_answered oid (found.Held serial bytes end) upto switches = refl
loaded_answered oid (found.Absent serial) upto switches = refl
loaded_answered oid found.Nothing upto switches = refl

pub load_answered : {R F : Type 0} (rules : Rules) (m : Machine) (n oid front : ℕ) (f : Found) (upto switches : ℕ) (old new : HubState R F) (stamps : Option (List Stamp))
    → AreLaterCounts (counts_of old.store) (counts_of new.store) → StandsForMachine old m → old.store.broken ≡ false → is_open_in old.sessions n ≡ true → f ≡ found_below oid front m.list
    → upto ≡ front_of m.list → switches ≡ switches_of m.journal → StandsForMachine new m
    → MakesStep rules m n (request.LoadBefore oid front) (loaded_reply oid f upto switches) old new stamps stamps
load_answered rules m n oid front f upto switches old new stamps later stands whole is_open found upto_is packs left =
    answered rules m n (request.LoadBefore oid front) (loaded_reply oid f upto switches) m old new stamps later (loaded_answered oid f upto switches)
    (rw (not_early m n (request.LoadBefore oid front) old.sessions (sessions_whole m old stands whole) is_open)
    (ap (replied m) (sym (loaded_same m oid f upto switches upto_is packs ∙ ap (loaded m oid) found))))
    left

-- ---- a step that read no clock

unread : {R F : Type 0} (rules : Rules) (m : Machine) (n : ℕ) (q : Request) (r : Reply) (old new : HubState R F) (stamp : ℕ) (left : Machine) (ticks : Bool)
    → IsStepMade rules m n q stamp (record { reply = r; machine = left; ticks = ticks }) (counts_of old.store) (counts_of new.store) → HasTicked ticks stamp (Some []) (Some []) → StandsForMachine new left
    → MakesStepAt 0 false rules m n q r old new
unread rules m n q r old new stamp left true made clock stands = absurd clock
unread rules m n q r old new stamp left false made clock stands = record {
  left = left;
  made = made_unread rules m n q stamp 0 (record { reply = r; machine = left; ticks = false }) (counts_of old.store) (counts_of new.store) made refl;
  stands = stands;
}

-- one that is made whatever the clock tells, which then tells the same, has not read it
pub still : {R F : Type 0} (rules : Rules) (m : Machine) (n : ℕ) (q : Request) (r : Reply) (old new : HubState R F)
    → ((stamps : Option (List Stamp)) → MakesStep rules m n q r old new stamps stamps) → MakesStepAt 0 false rules m n q r old new
still rules m n q r old new made =
    let one = made (Some []) in
    unread rules m n q r old new one.stamp one.left one.ticks one.made one.clock one.stands

pub still_clock : {R F : Type 0} (told : Type 0) (rules : Rules) (n : ℕ) (q : Request) (r : Reply) (old new : HubState R F) (before after : Option (List Stamp))
    → (told → (m : Machine) → StandsForMachine old m → (stamps : Option (List Stamp)) → MakesStep rules m n q r old new stamps stamps) → after ≡ before
    → StepsByClock told rules n q r old new before after
still_clock told rules n q r old new before after made same = record {
  stamp = 0;
  ticks = false;
  clock = same;
  step = λ tells m stands. still rules m n q r old new (made tells m stands);
}

-- ---- and one whose stamp is known

pub by_clock : {R F : Type 0} (told : Type 0) (rules : Rules) (m : Machine) (n : ℕ) (q : Request) (r : Reply) (old new : HubState R F) (before after : Option (List Stamp))
    → StepsByClock told rules n q r old new before after → told → StandsForMachine old m → MakesStep rules m n q r old new before after
by_clock told rules m n q r old new before after steps tells stands =
    let at = steps.step tells m stands in
    record { stamp = steps.stamp; left = at.left; ticks = steps.ticks; made = at.made; clock = steps.clock; stands = at.stands }

-- ---- the same for a request by another name

pub still_as : {R F : Type 0} (told : Type 0) (rules : Rules) (n : ℕ) (q asked : Request) (r : Reply) (old new : HubState R F) (before after : Option (List Stamp))
    → q ≡ asked → (told → (m : Machine) → StandsForMachine old m → (stamps : Option (List Stamp)) → MakesStep rules m n asked r old new stamps stamps) → after ≡ before
    → StepsByClock told rules n q r old new before after
still_as told rules n q asked r old new before after is made same =
    subst (λ (x : Request). StepsByClock told rules n x r old new before after) (sym is) (still_clock told rules n asked r old new before after made same)

pub by_clock_as : {R F : Type 0} (told : Type 0) (rules : Rules) (n : ℕ) (q asked : Request) (r : Reply) (old new : HubState R F) (before after : Option (List Stamp))
    → q ≡ asked → StepsByClock told rules n asked r old new before after → told → (m : Machine) → StandsForMachine old m → MakesStep rules m n q r old new before after
by_clock_as told rules n q asked r old new before after is steps tells m stands =
    subst (λ (x : Request). MakesStep rules m n x r old new before after) (sym is) (by_clock told rules m n asked r old new before after steps tells stands)
