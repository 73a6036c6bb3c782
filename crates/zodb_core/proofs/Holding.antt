-- What was decided is voted.
use Rattle.std.proofs.Common.{◌≡◌, ℕ, ◌+◌, ◌-◌, ◌^◌, ◌<◌, ◌≤◌, List, [], ◌∷◌, Option, Some, None, Ok, Bool, true, false, if◌then◌else◌, length, map, refl, sym, ap, subst, ◌∙◌, arith, IsTrue}
use Rattle.std.specs.Prelude.{IfSome, nat_lt, slice_get}
use Rattle.std.specs.Option.{ForSome, is_some, option_map}
use Rattle.std.proofs.lemmas.Bool.{lt-ltb, le-ltb, eq-eqb}
use Rattle.std.proofs.lemmas.List.{length-map}
use Rattle.std.proofs.lemmas.Option.{same_Some}
use Rattle.zb_ids.specs.declared.stamp.Stamp.{Stamp}
use Rattle.zb_ids.specs.Tids.{stamp_number, tid_after}
use Rattle.zb_outside.specs.Stamps.{stamps_after}
use Rattle.zb_model.specs.declared.data.Change.{Change}
use Rattle.zb_model.specs.declared.data.Transaction.{Transaction}
use Rattle.zb_model.specs.declared.new_transaction.NewChange.{NewChange}
use Rattle.zb_model.specs.declared.new_transaction.NewTransaction.{NewTransaction}
use Rattle.zb_model.specs.declared.refusal.Refusal.TheVariants as refusal
use Rattle.zb_model.specs.declared.store_error.StoreError.{StoreError}
use Rattle.zb_model.specs.declared.store_error.StoreError.TheVariants as store_error
use Rattle.zb_model.specs.Database.{newest_tid}
use Rattle.zb_model.specs.Stores.{CountsStand, KeepsBegun, MayRefuse, RefusalKeepsRest, StoreState}
use Rattle.zb_model.specs.Queries.{oids_of}
use Rattle.zb_model.specs.Voting.{voted_change, voted_of}
use Rattle.zodb_core.specs.declared.journal.JournalEntry.{JournalEntry}
use Rattle.zodb_core.specs.declared.open_pack.HubPack.{HubPack}
use Rattle.zodb_core.specs.declared.reply.Reply.{Reply}
use Rattle.zodb_core.specs.declared.reply.Reply.TheVariants as reply
use Rattle.zodb_core.specs.declared.request.Request.{Request}
use Rattle.zodb_core.specs.declared.texts.Texts.{Texts}
use Rattle.zodb_core.specs.declared.vote.HubVote.{HubVote}
use Rattle.zodb_core.specs.declared.vote.VotedEntry.{VotedEntry}
use Rattle.zodb_core.specs.Holding.{IsNextTid, VotesFor, tid_if_left}
use Rattle.zodb_core.specs.HubState.{HubState, IsEntryOf, HubKeeps, IsClockRead, MakesStep, MakesStepAt, StandsForMachine, StepsSafely, counts_of, vote_of_hub, sessions_with}
use Rattle.zodb_core.specs.Machine.{Machine, MachineSession, MachineVote, Rules, switches_of}
use Rattle.zodb_core.specs.Outcomes.{Answered, AreLaterCounts, FaultCounts, failed, holds_writes, machine_left, outcome_of, unanswered}
use Rattle.zodb_core.specs.Replies.{fault_reply}
use Rattle.zodb_core.specs.Steps.{Stepped, changes_in_journal, journal_limit, replied_refusal, replied, step_of, transaction_with, vote_at, vote_counted, vote_step, with_vote}
use Rattle.zodb_core.proofs.Stepping.{answered, ends_answered, pack_of_store, pack_same, sessions_whole, stands_read, stands_unanswered}
use Rattle.zodb_core.proofs.Keeping.{keeps_same, within_same}
use Rattle.zodb_core.proofs.Votes.{dropped_failed}

-- ---- steps with and without the clock

answered_still : {R F : Type 0} (rules : Rules) (m : Machine) (n : ℕ) (q : Request) (r : Reply) (left : Machine) (old new : HubState R F) (before after : Option (List Stamp))
    → AreLaterCounts (counts_of old.store) (counts_of new.store) → outcome_of r ≡ Answered → step_of rules m n q 0 ≡ replied left r → after ≡ before → StandsForMachine new left
    → MakesStep rules m n q r old new before after
answered_still rules m n q r left old new before after later is gives same stands =
    subst (λ (s : Option (List Stamp)). MakesStep rules m n q r old new before s) (sym same) (answered rules m n q r left old new before later is gives stands)

ticked : {R F : Type 0} (rules : Rules) (m : Machine) (n : ℕ) (q : Request) (r : Reply) (left : Machine) (stamp : ℕ) (old new : HubState R F)
    → AreLaterCounts (counts_of old.store) (counts_of new.store) → outcome_of r ≡ Answered → step_of rules m n q stamp ≡ record { reply = r; machine = left; ticks = true } → StandsForMachine new left
    → MakesStepAt stamp true rules m n q r old new
ticked rules m n q r left stamp old new later is gives stands = record {
  left = left;
  made = record {
    later = later;
    cause = ends_answered rules m n q stamp (record { reply = r; machine = left; ticks = true }) (counts_of old.store) (counts_of new.store) (outcome_of r) is (sym gives);
    left = sym (ap (machine_left rules m n q stamp) is ∙ ap (λ (s : Stepped). s.machine) gives);
    ticks = λ yes. subst (λ (b : Bool). IsTrue b) (sym (ap (λ (s : Stepped). s.ticks) gives)) yes;
    failed_ticks = λ fault. sym (ap (λ (s : Stepped). s.ticks) gives);
  };
  stands = stands;
}

-- ---- the clock

is_read : (stamp : Stamp) (before after : Option (List Stamp)) → IfSome before (λ told. slice_get told 0 ≡ Some stamp) → after ≡ option_map stamps_after before → IsClockRead (stamp_number stamp) before after
is_read stamp None after first left = ((stamp, refl), left)
is_read stamp (Some []) after first left = absurd cc
is_read stamp (Some (s ∷ stamps)) after first left = (sym (ap stamp_number (same_Some s stamp first)), left)

pub tick_left : (newest tid : ℕ) (stamp : Stamp) (before after : Option (List Stamp)) → IfSome before (λ told. slice_get told 0 ≡ Some stamp) → after ≡ option_map stamps_after before
    → tid ≡ tid_after newest (stamp_number stamp) → tid < 2 ^ 64 - 1 → newest < tid → IsNextTid newest before after (Some tid)
tick_left newest tid stamp before after first left is below above = record {
  stamp = stamp_number stamp;
  clock = is_read stamp before after first left;
  tid = sym (ap tid_if_left (sym is) ∙ ap (λ (b : Bool). if b then Some tid else None) (lt-ltb tid (2 ^ 64 - 1) below));
  above = above;
}

pub tick_spent : (newest tid : ℕ) (stamp : Stamp) (before after : Option (List Stamp)) → IfSome before (λ told. slice_get told 0 ≡ Some stamp) → after ≡ option_map stamps_after before
    → tid ≡ tid_after newest (stamp_number stamp) → 2 ^ 64 - 1 ≤ tid → IsNextTid newest before after None
tick_spent newest tid stamp before after first left is above = record {
  stamp = stamp_number stamp;
  clock = is_read stamp before after first left;
  tid = sym (ap tid_if_left (sym is) ∙ ap (λ (b : Bool). if b then Some tid else None) (le-ltb tid (2 ^ 64 - 1) above));
  above = tt;
}

-- ---- where nothing is to be written

nothing_decided : (m : Machine) (n : ℕ) (texts : Texts) (stamp : ℕ) (changes : List Change) → changes ≡ [] → vote_step m n texts stamp (Ok changes) ≡ replied (with_vote m n None) reply.Voted
nothing_decided m n texts stamp changes none = ap (λ (cs : List Change). vote_step m n texts stamp (Ok cs)) none

pub hold_empty : {R F : Type 0} (rules : Rules) (m : Machine) (n : ℕ) (q : Request) (texts : Texts) (changes : List NewChange) (old new : HubState R F) (before after : Option (List Stamp))
    → StandsForMachine old m → old.store.broken ≡ false → VotesFor rules m n q texts (Ok (map (voted_change m.list) changes)) → changes ≡ [] → old.store.voted ≡ None
    → new.store ≡ old.store → new.journal ≡ old.journal → new.greatest ≡ old.greatest → new.sessions ≡ old.sessions → new.vote ≡ Some (record { session = n; writes = None }) → new.pack ≡ old.pack → after ≡ before
    → MakesStep rules m n q reply.Voted old new before after
hold_empty rules m n q texts changes old new before after stands whole votes none voted store entries greatest sessions vote pack same =
    answered_still rules m n q reply.Voted (with_vote m n None) old new before after
    (record { reads = subst (λ (s : StoreState). old.store.read_faults ≤ s.read_faults) (sym store) (omega arith); others = subst (λ (s : StoreState). old.store.faults ≤ s.faults) (sym store) (omega arith) })
    refl
    (votes.step 0 ∙ nothing_decided m n texts 0 (map (voted_change m.list) changes) (ap (map (voted_change m.list)) none))
    same
    (record {
      journal = stands.journal ∙ sym entries;
      greatest = stands.greatest ∙ sym greatest;
      sessions = sessions_whole m old stands whole ∙ sym (ap (λ (s : StoreState). sessions_with s.broken new.sessions) store ∙ ap (λ (b : Bool). sessions_with b new.sessions) whole ∙ sessions);
      pack = stands.pack ∙ pack_of_store old.store new.store (length old.journal) (length new.journal) old.pack new.pack store (ap length entries) pack;
      failed = stands.failed ∙ sym (ap (λ (s : StoreState). s.broken) store);
      list = λ _. stands.list whole ∙ sym (ap (λ (s : StoreState). s.list) store);
      vote = λ _. sym (ap (option_map (vote_of_hub new.store.voted)) vote
          ∙ ap (λ (w : Option Transaction). let x : MachineVote = record { session = n; writes = w } in Some x) (ap (λ (s : StoreState). s.voted) store ∙ voted));
    })

-- ---- where the journal is full

full_decided : (m : Machine) (n : ℕ) (texts : Texts) (stamp count : ℕ) (changes : List Change) → (changes ≡ [] → ⊥) → changes_in_journal m.journal + length changes ≡ count → journal_limit < count
    → vote_step m n texts stamp (Ok changes) ≡ replied_refusal m (refusal.JournalFull count)
full_decided m n texts stamp count [] some is above = absurd (some refl)
full_decided m n texts stamp count (c ∷ changes) some is above =
    ap (vote_counted m n texts (c ∷ changes) stamp) is
    ∙ ap (λ (b : Bool). if b then replied_refusal m (refusal.JournalFull count) else vote_at m n texts (c ∷ changes) (tid_after (newest_tid m.list) stamp)) (lt-ltb journal_limit count above)

not_nothing : (list : List Transaction) (changes : List NewChange) → (changes ≡ [] → ⊥) → map (voted_change list) changes ≡ [] → ⊥
not_nothing list [] some is = some refl
not_nothing list (c ∷ changes) some is = absurd cc

counted : {R F : Type 0} (m : Machine) (hub : HubState R F) (changes : List NewChange) (kept : ℕ) → StandsForMachine hub m → kept ≡ changes_in_journal hub.journal
    → changes_in_journal m.journal + length (map (voted_change m.list) changes) ≡ kept + length changes
counted m hub changes kept stands is =
    ap (λ (k : ℕ). k + length (map (voted_change m.list) changes)) (ap changes_in_journal stands.journal ∙ sym is) ∙ ap (λ (k : ℕ). kept + k) (length-map changes (voted_change m.list))

pub hold_full : {R F : Type 0} (rules : Rules) (m : Machine) (n : ℕ) (q : Request) (texts : Texts) (changes : List NewChange) (kept count : ℕ) (old new : HubState R F) (before after : Option (List Stamp))
    → StandsForMachine old m → VotesFor rules m n q texts (Ok (map (voted_change m.list) changes)) → (changes ≡ [] → ⊥) → kept ≡ changes_in_journal old.journal
    → count ≡ kept + length changes → journal_limit < count
    → AreLaterCounts (counts_of old.store) (counts_of new.store) → StandsForMachine new m → after ≡ before
    → MakesStep rules m n q (reply.Refused (refusal.JournalFull count)) old new before after
hold_full rules m n q texts changes kept count old new before after stands votes some is sum above later left same =
    answered_still rules m n q (reply.Refused (refusal.JournalFull count)) m old new before after later refl
    (votes.step 0 ∙ full_decided m n texts 0 count (map (voted_change m.list) changes) (not_nothing m.list changes some) (counted m old changes kept stands is ∙ sym sum) above)
    same left

-- ---- where memory runs out

pub hold_starved : {R F : Type 0} (rules : Rules) (m : Machine) (n : ℕ) (q : Request) (texts : Texts) (changes : List NewChange) (old new : HubState R F) (before after : Option (List Stamp))
    → VotesFor rules m n q texts (Ok (map (voted_change m.list) changes))
    → AreLaterCounts (counts_of old.store) (counts_of new.store) → StandsForMachine new m → after ≡ before
    → MakesStep rules m n q (reply.Refused refusal.Memory) old new before after
hold_starved rules m n q texts changes old new before after votes later left same = record {
  stamp = 0;
  left = unanswered q m;
  ticks = false;
  clock = same;
  stands = stands_unanswered m q new votes.packs left;
  made = record { later = later; cause = record { allowed = votes.early; one = votes.memory }; left = refl; ticks = λ never. absurd cc; failed_ticks = λ never. absurd cc };
}

-- ---- where the clock is read

reached : (m : Machine) (n : ℕ) (texts : Texts) (stamp count : ℕ) (changes : List Change) → (changes ≡ [] → ⊥) → changes_in_journal m.journal + length changes ≡ count → count ≤ journal_limit
    → vote_step m n texts stamp (Ok changes) ≡ vote_at m n texts changes (tid_after (newest_tid m.list) stamp)
reached m n texts stamp count [] some is within = absurd (some refl)
reached m n texts stamp count (c ∷ changes) some is within =
    ap (vote_counted m n texts (c ∷ changes) stamp) is
    ∙ ap (λ (b : Bool). if b then replied_refusal m (refusal.JournalFull count) else vote_at m n texts (c ∷ changes) (tid_after (newest_tid m.list) stamp)) (le-ltb journal_limit count within)

spent_at : (m : Machine) (n : ℕ) (texts : Texts) (changes : List Change) (tid : ℕ) (b : Bool) → nat_lt tid (2 ^ 64 - 1) ≡ b → None ≡ (if b then Some tid else None)
    → vote_at m n texts changes tid ≡ record { reply = reply.Refused refusal.TidsSpent; machine = m; ticks = true }
spent_at m n texts changes tid true is none = absurd cc
spent_at m n texts changes tid false is none = rw is refl

voted_at : (m : Machine) (n : ℕ) (texts : Texts) (changes : List Change) (tid given : ℕ) (b : Bool) → nat_lt tid (2 ^ 64 - 1) ≡ b → Some given ≡ (if b then Some tid else None)
    → vote_at m n texts changes tid ≡ record { reply = reply.Voted; machine = with_vote m n (Some (transaction_with given texts changes)); ticks = true }
voted_at m n texts changes tid given false is some = absurd cc
voted_at m n texts changes tid given true is some =
    ap (λ (c : Bool). if c then (let made : Stepped = record { reply = reply.Voted; machine = with_vote m n (Some (transaction_with tid texts changes)); ticks = true } in made) else record { reply = reply.Refused refusal.TidsSpent; machine = m; ticks = true }) is
    ∙ ap (λ (t : ℕ). let made : Stepped = record { reply = reply.Voted; machine = with_vote m n (Some (transaction_with t texts changes)); ticks = true } in made) (sym (same_Some given tid some))

pub hold_spent : {R F : Type 0} (rules : Rules) (m : Machine) (n : ℕ) (q : Request) (texts : Texts) (changes : List NewChange) (kept newest : ℕ) (old new : HubState R F) (before after : Option (List Stamp))
    → StandsForMachine old m → VotesFor rules m n q texts (Ok (map (voted_change m.list) changes)) → (changes ≡ [] → ⊥) → kept ≡ changes_in_journal old.journal → kept + length changes ≤ journal_limit
    → newest ≡ newest_tid m.list → (next : IsNextTid newest before after None)
    → AreLaterCounts (counts_of old.store) (counts_of new.store) → StandsForMachine new m
    → MakesStepAt next.stamp true rules m n q (reply.Refused refusal.TidsSpent) old new
hold_spent rules m n q texts changes kept newest old new before after stands votes some is within front next later left =
    ticked rules m n q (reply.Refused refusal.TidsSpent) m next.stamp old new later refl
    (votes.step next.stamp
    ∙ reached m n texts next.stamp (kept + length changes) (map (voted_change m.list) changes) (not_nothing m.list changes some) (counted m old changes kept stands is) within
    ∙ spent_at m n texts (map (voted_change m.list) changes) (tid_after (newest_tid m.list) next.stamp) (nat_lt (tid_after (newest_tid m.list) next.stamp) (2 ^ 64 - 1)) refl
    (next.tid ∙ ap (λ (k : ℕ). tid_if_left (tid_after k next.stamp)) front))
    left

-- the machine's step, where a tid is left
holds : {R F : Type 0} (rules : Rules) (m : Machine) (n : ℕ) (q : Request) (texts : Texts) (changes : List NewChange) (kept newest tid : ℕ) (old : HubState R F) (before after : Option (List Stamp))
    → StandsForMachine old m → VotesFor rules m n q texts (Ok (map (voted_change m.list) changes)) → (changes ≡ [] → ⊥) → kept ≡ changes_in_journal old.journal → kept + length changes ≤ journal_limit
    → newest ≡ newest_tid m.list → (next : IsNextTid newest before after (Some tid))
    → step_of rules m n q next.stamp ≡ record { reply = reply.Voted; machine = with_vote m n (Some (transaction_with tid texts (map (voted_change m.list) changes))); ticks = true }
holds rules m n q texts changes kept newest tid old before after stands votes some is within front next =
    votes.step next.stamp
    ∙ reached m n texts next.stamp (kept + length changes) (map (voted_change m.list) changes) (not_nothing m.list changes some) (counted m old changes kept stands is) within
    ∙ voted_at m n texts (map (voted_change m.list) changes) (tid_after (newest_tid m.list) next.stamp) tid (nat_lt (tid_after (newest_tid m.list) next.stamp) (2 ^ 64 - 1)) refl
    (next.tid ∙ ap (λ (k : ℕ). tid_if_left (tid_after k next.stamp)) front)

pub hold_voted : {R F : Type 0} (rules : Rules) (m : Machine) (n : ℕ) (q : Request) (texts : Texts) (changes : List NewChange) (kept newest tid : ℕ) (entry : VotedEntry) (old new : HubState R F) (before after : Option (List Stamp))
    → StandsForMachine old m → old.store.broken ≡ false → VotesFor rules m n q texts (Ok (map (voted_change m.list) changes)) → (changes ≡ [] → ⊥) → kept ≡ changes_in_journal old.journal
    → kept + length changes ≤ journal_limit → newest ≡ newest_tid m.list → (next : IsNextTid newest before after (Some tid))
    → AreLaterCounts (counts_of old.store) (counts_of new.store) → new.store.broken ≡ false → new.store.list ≡ old.store.list
    → new.store.voted ≡ Some (voted_of old.store.list (record { tid = tid; user = texts.user; description = texts.description; extension = texts.extension; changes = changes }))
    → new.journal ≡ old.journal → new.greatest ≡ old.greatest → new.sessions ≡ old.sessions → new.vote ≡ Some (record { session = n; writes = Some entry })
    → new.store.begun ≡ old.store.begun → new.pack ≡ old.pack
    → MakesStepAt next.stamp true rules m n q reply.Voted old new
hold_voted rules m n q texts changes kept newest tid entry old new before after stands whole votes some is within front next later still list voted entries greatest sessions vote begun pack =
    ticked rules m n q reply.Voted (with_vote m n (Some (transaction_with tid texts (map (voted_change m.list) changes)))) next.stamp old new later refl
    (holds rules m n q texts changes kept newest tid old before after stands votes some is within front next)
    (record {
      journal = stands.journal ∙ sym entries;
      greatest = stands.greatest ∙ sym greatest;
      sessions = sessions_whole m old stands whole ∙ sym (ap (λ (b : Bool). sessions_with b new.sessions) still ∙ sessions);
      pack = stands.pack ∙ pack_same old.store new.store (length old.journal) (length new.journal) old.pack new.pack (still ∙ sym whole) list begun (ap length entries) pack;
      failed = stands.failed ∙ whole ∙ sym still;
      list = λ _. stands.list whole ∙ sym list;
      vote = λ _. sym (ap (option_map (vote_of_hub new.store.voted)) vote
          ∙ ap (λ (w : Option Transaction). let x : MachineVote = record { session = n; writes = w } in Some x)
          (voted ∙ ap (λ (l : List Transaction). Some (transaction_with tid texts (map (voted_change l) changes))) (sym (stands.list whole))));
    })

-- the store refused it
pub hold_failed : {R F : Type 0} (rules : Rules) (m : Machine) (n : ℕ) (q : Request) (texts : Texts) (changes : List NewChange) (kept newest tid : ℕ) (e : StoreError) (old new : HubState R F) (before after : Option (List Stamp))
    → StandsForMachine old m → old.store.broken ≡ false → VotesFor rules m n q texts (Ok (map (voted_change m.list) changes)) → (changes ≡ [] → ⊥) → kept ≡ changes_in_journal old.journal
    → kept + length changes ≤ journal_limit → newest ≡ newest_tid m.list → (next : IsNextTid newest before after (Some tid))
    → AreLaterCounts (counts_of old.store) (counts_of new.store) → MayRefuse old.store new.store e → (e ≡ store_error.StoreFault → new.store.broken ≡ true) → RefusalKeepsRest old.store new.store e
    → new.journal ≡ old.journal → new.greatest ≡ old.greatest → new.sessions ≡ old.sessions → new.vote ≡ old.vote → new.pack ≡ old.pack
    → MakesStepAt next.stamp true rules m n q (fault_reply e) old new
hold_failed rules m n q texts changes kept newest tid store_error.StoreFault old new before after stands whole votes some is within front next later may broke keeps entries greatest sessions vote pack =
    let gives = holds rules m n q texts changes kept newest tid old before after stands votes some is within front next in
    record {
      left = failed m;
      stands = dropped_failed m old new stands whole (broke refl) entries greatest sessions;
      made = record {
        later = later;
        cause = (
          record {
            allowed = votes.early;
            one = votes.changes (step_of rules m n q next.stamp) ∙ ap (λ (s : Stepped). holds_writes n s.machine.vote) gives
                ∙ ap (λ (b : Bool). if b then true else false) (eq-eqb n n refl);
          },
          may,
        );
        left = refl;
        ticks = λ yes. subst (λ (b : Bool). IsTrue b) (sym (ap (λ (s : Stepped). s.ticks) gives)) yes;
        failed_ticks = λ fault. sym (ap (λ (s : Stepped). s.ticks) gives);
      };
    }
hold_failed rules m n q texts changes kept newest tid store_error.ReadFault old new before after stands whole votes some is within front next later may broke keeps entries greatest sessions vote pack =
    let gives = holds rules m n q texts changes kept newest tid old before after stands votes some is within front next in
    record {
      left = unanswered q m;
      stands = stands_unanswered m q new votes.packs (stands_read m old new stands keeps entries greatest sessions vote pack);
      made = record {
        later = later;
        cause = (record { allowed = votes.early; one = votes.reads }, may);
        left = refl;
        ticks = λ yes. subst (λ (b : Bool). IsTrue b) (sym (ap (λ (s : Stepped). s.ticks) gives)) yes;
        failed_ticks = λ never. absurd cc;
      };
    }
hold_failed rules m n q texts changes kept newest tid store_error.Memory old new before after stands whole votes some is within front next later may broke keeps entries greatest sessions vote pack =
    let gives = holds rules m n q texts changes kept newest tid old before after stands votes some is within front next in
    record {
      left = unanswered q m;
      stands = stands_unanswered m q new votes.packs (stands_read m old new stands keeps entries greatest sessions vote pack);
      made = record {
        later = later;
        cause = record { allowed = votes.early; one = votes.memory };
        left = refl;
        ticks = λ yes. subst (λ (b : Bool). IsTrue b) (sym (ap (λ (s : Stepped). s.ticks) gives)) yes;
        failed_ticks = λ never. absurd cc;
      };
    }

-- where neither count has moved
pub counts_same : (old new : StoreState) → CountsStand old new → counts_of new ≡ counts_of old
counts_same old new same =
    ap (λ (k : ℕ). let c : FaultCounts = record { reads = k; others = new.faults } in c) same.reads
    ∙ ap (λ (k : ℕ). let c : FaultCounts = record { reads = old.read_faults; others = k } in c) same.faults

-- the same, whatever the store tells
pub hold_fails_safely : {R F : Type 0} (e : StoreError) (old new : HubState R F) → AreLaterCounts (counts_of old.store) (counts_of new.store) → MayRefuse old.store new.store e
    → (e ≡ store_error.StoreFault → new.store.broken ≡ true) → RefusalKeepsRest old.store new.store e → new.resolver ≡ old.resolver → new.refs ≡ old.refs → new.sessions ≡ old.sessions
    → StepsSafely false (fault_reply e) old new
hold_fails_safely store_error.StoreFault old new later may broke keeps resolver refs sessions = record {
  resolver = resolver;
  refs = refs;
  sessions = ap length sessions;
  later = later;
  cause = may;
  others = λ never. absurd cc;
  broken = λ _. broke refl;
  log = λ never. absurd cc;
}
hold_fails_safely store_error.ReadFault old new later may broke keeps resolver refs sessions = record {
  resolver = resolver;
  refs = refs;
  sessions = ap length sessions;
  later = later;
  cause = may;
  others = λ _. ap (λ (s : StoreState). s.faults) keeps;
  broken = λ whole. ap (λ (s : StoreState). s.broken) keeps ∙ whole;
  log = λ _. ap (λ (s : StoreState). s.log) keeps;
}
hold_fails_safely store_error.Memory old new later may broke keeps resolver refs sessions = record {
  resolver = resolver;
  refs = refs;
  sessions = ap length sessions;
  later = later;
  cause = counts_same old.store new.store may;
  others = λ _. may.faults;
  broken = λ whole. ap (λ (s : StoreState). s.broken) keeps ∙ whole;
  log = λ _. ap (λ (s : StoreState). s.log) keeps;
}

-- ---- what is kept of it

changed_in : (list : List Transaction) (changes : List NewChange) → map (λ c. c.oid) (map (voted_change list) changes) ≡ map (λ c. c.oid) changes
changed_in list [] = refl
changed_in list (c ∷ changes) = ap (λ (oids : List ℕ). c.oid ∷ oids) (changed_in list changes)

-- the objects that a voted transaction changes are those of the new one
pub voted_oids : (list : List Transaction) (new : NewTransaction) → map (λ c. c.oid) new.changes ≡ oids_of (voted_of list new)
voted_oids list new = sym (changed_in list new.changes)

entry_same : (e : VotedEntry) (list : List Transaction) (new : NewTransaction) (voted : Option Transaction) → voted ≡ Some (voted_of list new) → e.tid ≡ new.tid → e.oids ≡ map (λ c. c.oid) new.changes → IsEntryOf (Some e) voted
entry_same e list new voted is tid oids = subst (IsEntryOf (Some e)) (sym is) (tid, oids ∙ voted_oids list new)

-- what a hub keeps, once a transaction is voted
pub kept_voted : (told : Type 0) (s t : StoreState) (one entries : List JournalEntry) (before capacity changes switches : ℕ) (sessions : List MachineSession) (vote : Option HubVote) (pack : Option HubPack) (has_failed : Bool) (named : List ℕ → Option (List ℕ)) (n : ℕ) (e : VotedEntry) (new : NewTransaction)
    → HubKeeps told s one before changes switches sessions vote pack has_failed named → entries ≡ one → s.broken ≡ false → t.broken ≡ false → length entries < capacity → changes + length new.changes ≤ journal_limit
    → is_some t.voted ≡ true → e.tid ≡ new.tid → e.oids ≡ map (λ c. c.oid) new.changes → (told → t.voted ≡ Some (voted_of s.list new))
    → KeepsBegun told s t → (told → t.list ≡ s.list) → t.newest ≡ s.newest → ForSome t.voted (λ x. x.tid ≡ new.tid) → s.newest < new.tid
    → HubKeeps told t entries capacity changes switches sessions (Some (record { session = n; writes = Some e })) pack has_failed named
kept_voted told s t one entries before capacity changes switches sessions vote pack has_failed named n e new kept same whole still room within some tid oids voted begun list newest numbered above = record {
  failed = kept.failed ∙ whole ∙ sym still;
  few = kept.few;
  counted = kept.counted ∙ sym (ap changes_in_journal same);
  bounded = kept.bounded;
  switched = kept.switched ∙ sym (ap switches_of same);
  room = (room, subst (λ (k : ℕ). changes + k ≤ journal_limit) (sym (ap length oids ∙ length-map new.changes (λ c. c.oid))) within);
  voted = λ _. some;
  entry = λ tells _. entry_same e s.list new t.voted (voted tells) tid oids;
  later = λ _ x there. omega (arith, newest, numbered x there, above);
  within = within_same pack (length one) (length entries) (ap length same) kept.within;
  open_pack = λ _. keeps_same told named s t (length one) (length entries) pack (kept.open_pack whole) list begun newest (ap length same);
}
