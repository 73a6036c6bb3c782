-- What steps of a hub keep of a client that may be at a session of it, whichever session makes them. For the proofs of those who let clients take their turns.
use Rattle.std.proofs.Common.{◌≡◌, ℕ, ◌<◌, ◌≤◌, ◌^◌, ◌+◌, Bool, true, false, cond, filter, List, [], ◌∷◌, Option, Some, None, refl, sym, ap, subst, ◌∙◌, arith}
use Rattle.std.specs.Prelude.{IfSome, length}
use Rattle.std.specs.List.{last_or}
use Rattle.std.specs.Option.{option_and_then, option_map}
use Rattle.std.proofs.lemmas.Bool.{le-ltb, true≢false}
use Rattle.std.proofs.lemmas.Option.{same_Some}
use Rattle.zb_ids.specs.declared.stamp.Stamp.{Stamp}
use Rattle.zb_model.specs.declared.data.Content.{Content}
use Rattle.zb_model.specs.declared.data.Content.TheVariants.{Held, Absent}
use Rattle.zb_model.specs.declared.data.Transaction.{Transaction}
use Rattle.zb_model.specs.Database.{IsDatabase, ObjectRevision, is_below, newest_tid, revision_below, revisions}
use Rattle.zb_model.specs.Packing.{packed_by}
use Rattle.zb_model.specs.Rules.{MergeRules}
use Rattle.zodb_core.specs.declared.journal.JournalEntry.{JournalEntry}
use Rattle.zodb_core.specs.declared.reply.Reply.{Reply}
use Rattle.zodb_core.specs.declared.request.Request.{Request}
use Rattle.zodb_core.specs.HubState.{HubState, StandsForMachine, pack_with, rules_of, sessions_with, vote_of_hub}
use Rattle.zodb_core.specs.Machine.{Machine, MachineVote, Rules, front_of, holds_vote, switches_of}
use Rattle.zodb_core.specs.Outcomes.{StepOutcome, machine_left, outcome_of}
use Rattle.zodb_core.specs.Sound.{GoesOnTo, GrowsByOne, IsPackWithin, VotesLater}
use Rattle.zodb_core.specs.SoundLaws.{front_later, grows_to, left_goes_on, left_within, revision_grown}
use Rattle.zodb_core.specs.StepCases.{StepCases, by_ending}
use Rattle.zodb_core.specs.SwitchLaws.{record_becomes}
use Rattle.connection_view.specs.Views.{Later, Server, View, read_as, read_below, read_from, view_of}
use Rattle.local_loads.specs.declared.told.Told.{Told}
use Rattle.local_loads.specs.Local.{MayBeTold, WritesLater, first_view, lost_server, server_of, server_unless}
use Rattle.local_loads.specs.Making.{IsHubStep}

-- ---- views

pub later_self : (v : View) → Later v v
later_self v = record { front = omega arith; switches = omega arith; held = λ oid front d low is. is; same = λ still oid front low. refl }

-- what stands for a store that failed is later than each view
pub later_lost : (v : View) → v.front < 2 ^ 64 → v.switches < 2 ^ 64 → Later v (view_of lost_server)
later_lost v front switches = record {
  front = omega (arith, front);
  switches = omega (arith, switches);
  held = λ oid f d low is. absurd cc;
  same = λ still oid f low. absurd (omega (arith, still, switches));
}

-- the view of a machine's list
abbrev pub view_at : Machine → View
view_at m = record { front = newest_tid m.list + 1; list = m.list; switches = switches_of m.journal }

-- a record that a list has there, as its revision
held_content : (serial : ℕ) (content : Content) (d : ℕ × List ℕ) → read_as serial content ≡ Some d → ◌≡◌ {A = Option ObjectRevision} (Some (record { serial = serial; content = content })) (Some (record { serial = d.0; content = Held d.1 }))
held_content serial Absent d is = absurd cc
held_content serial (Held bytes) d is =
    let made : ℕ × List ℕ = (serial, bytes) in
    ap (λ (g : ℕ × List ℕ). let r : ObjectRevision = record { serial = g.0; content = Held g.1 } in Some r) (same_Some made d is)

held_revision : (o : Option ObjectRevision) (d : ℕ × List ℕ) → option_and_then read_from o ≡ Some d → o ≡ Some (record { serial = d.0; content = Held d.1 })
held_revision None d is = absurd cc
held_revision (Some r) d is = held_content r.serial r.content d is

grown_read : (oid front : ℕ) (before now : List Transaction) → front ≤ front_of before → GrowsByOne before now → read_below oid front now ≡ read_below oid front before
grown_read oid front before now within grows = ap (option_and_then read_from) (revision_grown oid front before now (grows_to before now grows) within)

-- a machine's list stays later than a view, behind each step
pub later_on : (v : View) (m now : Machine) → IsDatabase m.list → GoesOnTo m now → Later v (view_at m) → Later v (view_at now)
later_on v m now is goes later =
    let within = later.front in
    let counted = later.switches in
    record {
      front = omega (arith, within, front_later m.list now.list goes.becomes);
      switches = omega (arith, counted, goes.switches);
      held = λ oid front d low found. later.held oid front d low
          (ap (option_and_then read_from) (record_becomes oid front d.0 d.1 m.list now.list is goes.becomes (omega (arith, low, within)) (held_revision (revision_below oid front now.list) d found)));
      same = λ unpacked oid front low.
          let still : switches_of now.journal ≡ switches_of m.journal = omega (arith, unpacked, counted, goes.switches) in
          grown_read oid front m.list now.list (omega (arith, low, within)) (goes.grows still) ∙ later.same (unpacked ∙ still) oid front low;
    }

-- ---- votes

pub votes_later : (list : List Transaction) (vote : Option MachineVote) → WritesLater list vote → VotesLater list vote
votes_later list None writes v t is of = absurd cc
votes_later list (Some u) writes v t is of =
    subst (λ (w : Option Transaction). IfSome w (λ x. newest_tid list < x.tid)) (ap (λ (x : MachineVote). x.writes) (same_Some u v is) ∙ of) writes

vote_dropped : (list : List Transaction) (vote : Option MachineVote) (b : Bool) → WritesLater list vote → WritesLater list (cond b None vote)
vote_dropped list vote true writes = tt
vote_dropped list vote false writes = writes

writes_cases : (m : Machine) (n : ℕ) (q : Request) → WritesLater m.list m.vote → StepCases (λ s. WritesLater s.machine.list s.machine.vote) m n q
writes_cases m n q writes = record {
  refused = λ r is. writes;
  full = λ count. writes;
  spent = writes;
  told = writes;
  found = λ oid f. writes;
  numbers = λ count. writes;
  nothing = tt;
  written = λ texts changes tid each later bounded. later;
  emptied = tt;
  committed = λ v t is of. tt;
  dropped = vote_dropped m.list m.vote (holds_vote n m.vote) writes;
  listed = λ revisions. writes;
  logged = λ lines. writes;
  begun = λ is t collects none below. writes;
  marking = λ is p count there. writes;
  marked = λ is p keep there. writes;
  copying = λ is p k copied count there copying. writes;
  copied = λ is p k copied count there copying. writes;
  lost = λ is r answers. writes;
  packed = λ is t keep free below. subst (WritesLater (packed_by t keep m.list)) (sym free) tt;
  last = writes;
  since = λ tid changes. writes;
  closed = vote_dropped m.list m.vote (holds_vote n m.vote) writes;
}

-- what is voted behind a step is later than the list there
pub left_writes : (rules : Rules) (m : Machine) (n : ℕ) (q : Request) (stamp : ℕ) (o : StepOutcome) → WritesLater m.list m.vote → WritesLater (machine_left rules m n q stamp o).list (machine_left rules m n q stamp o).vote
left_writes rules m n q stamp o writes = by_ending (λ x. WritesLater x.list x.vote) rules m n q stamp o writes writes tt (writes_cases m n q writes)

-- ---- hubs

-- the machine that a hub stands for, where its store has not failed
abbrev pub machine_of : {R F : Type 0} → HubState R F → Machine
machine_of hub = record {
  list = hub.store.list;
  journal = hub.journal;
  greatest = hub.greatest;
  sessions = sessions_with hub.store.broken hub.sessions;
  vote = option_map (vote_of_hub hub.store.voted) hub.vote;
  pack = pack_with hub.store (length hub.journal) hub.pack;
  failed = hub.store.broken;
}

pub stands_for : {R F : Type 0} (hub : HubState R F) → StandsForMachine hub (machine_of hub)
stands_for hub = record { journal = refl; greatest = refl; sessions = refl; pack = refl; failed = refl; list = λ whole. refl; vote = λ whole. refl }

-- what stands in a hub whose store has not failed
pub server_whole : {R F : Type 0} (hub : HubState R F) (m : Machine) → StandsForMachine hub m → hub.store.broken ≡ false → server_of hub ≡ record { list = m.list; switches = switches_of m.journal; greatest = m.greatest }
server_whole hub m stands whole =
    ap (λ (b : Bool). server_unless b hub.store.list hub.journal hub.greatest) whole
    ∙ ap (λ (l : List Transaction). let s : Server = record { list = l; switches = switches_of hub.journal; greatest = hub.greatest } in s) (sym (stands.list whole))
    ∙ ap (λ (j : List JournalEntry). let s : Server = record { list = m.list; switches = switches_of j; greatest = hub.greatest } in s) (sym stands.journal)
    ∙ ap (λ (g : ℕ). let s : Server = record { list = m.list; switches = switches_of m.journal; greatest = g } in s) (sym stands.greatest)

pub view_whole : {R F : Type 0} (hub : HubState R F) (m : Machine) → StandsForMachine hub m → hub.store.broken ≡ false → view_of (server_of hub) ≡ view_at m
view_whole hub m stands whole = ap view_of (server_whole hub m stands whole)

-- ---- a step

module _ {R F : Type 0} (told lasts : Type 0) (stands : List ℕ → List Transaction → Type 0) (rules : R → MergeRules) (named : F → List ℕ → Option (List ℕ)) (n : ℕ) (q : Request) (r : Reply) (old new : HubState R F) (before after : Option (List Stamp)) (tells : told) (step : IsHubStep told lasts stands rules named n q r old new before after) where
  -- a client that may be at a session before a step may be there behind it
  pub kept_behind : (last : Option Told) (v known : View) → MayBeTold last old v known → MayBeTold last new v known
  kept_behind last v known may = by_old old.store.broken refl
    where
      behind : old.store.broken ≡ false → new.store.broken ≡ false → (w : View) → Later w (view_of (server_of old)) → Later w (view_of (server_of new))
      behind whole still w later =
          let made = step.step tells (machine_of old) (stands_for old) in
          let writes : WritesLater old.store.list (machine_of old).vote = may.votes whole in
          let goes : GoesOnTo (machine_of old) made.left =
          subst (GoesOnTo (machine_of old)) (sym made.made.left) (left_goes_on (rules_of rules named old) (machine_of old) n q made.stamp (outcome_of r) (votes_later old.store.list (machine_of old).vote writes) (may.within whole)) in
          subst (Later w) (sym (view_whole new made.left made.stands still))
          (later_on w (machine_of old) made.left (step.database tells whole) goes (subst (Later w) (view_whole old (machine_of old) (stands_for old) whole) later))

      votes : old.store.broken ≡ false → new.store.broken ≡ false → WritesLater new.store.list (machine_of new).vote
      votes whole still =
          let made = step.step tells (machine_of old) (stands_for old) in
          let left : WritesLater made.left.list made.left.vote =
          subst (λ (x : Machine). WritesLater x.list x.vote) (sym made.made.left) (left_writes (rules_of rules named old) (machine_of old) n q made.stamp (outcome_of r) (may.votes whole)) in
          subst (λ (l : List Transaction). WritesLater l (machine_of new).vote) (made.stands.list still)
          (subst (WritesLater made.left.list) (made.stands.vote still) left)

      within : old.store.broken ≡ false → new.store.broken ≡ false → IsPackWithin new.store.list (machine_of new).pack
      within whole still =
          let made = step.step tells (machine_of old) (stands_for old) in
          let later : VotesLater (machine_of old).list (machine_of old).vote = votes_later old.store.list (machine_of old).vote (may.votes whole) in
          let left : IsPackWithin made.left.list made.left.pack =
          subst (λ (x : Machine). IsPackWithin x.list x.pack) (sym made.made.left) (left_within (rules_of rules named old) (machine_of old) n q made.stamp (outcome_of r) later (may.within whole)) in
          subst (λ (l : List Transaction). IsPackWithin l (machine_of new).pack) (made.stands.list still)
          (subst (IsPackWithin made.left.list) made.stands.pack left)

      by_new : (b : Bool) → new.store.broken ≡ b → old.store.broken ≡ false → MayBeTold last new v known
      by_new true broke whole = record {
        last = may.last;
        front = may.front;
        switches = may.switches;
        later = subst (λ (b : Bool). Later v (view_of (server_unless b new.store.list new.journal new.greatest))) (sym broke) (later_lost v may.front may.switches);
        known = λ still. absurd (true≢false (sym broke ∙ still));
        votes = λ still. absurd (true≢false (sym broke ∙ still));
        within = λ still. absurd (true≢false (sym broke ∙ still));
      }
      by_new false still whole = record {
        last = may.last;
        front = may.front;
        switches = may.switches;
        later = behind whole still v may.later;
        known = λ _. behind whole still known (may.known whole);
        votes = λ _. votes whole still;
        within = λ _. within whole still;
      }

      by_old : (b : Bool) → old.store.broken ≡ b → MayBeTold last new v known
      by_old true broke = subst (λ (h : HubState R F). MayBeTold last h v known) (sym (step.failed broke).1) may
      by_old false whole = by_new new.store.broken refl whole

-- ---- a session that has just been opened

none_at_zero : (rs : List ObjectRevision) → filter (is_below 0) rs ≡ []
none_at_zero [] = refl
none_at_zero (r ∷ rs) = rw (le-ltb r.serial 0 (omega arith)) (none_at_zero rs)

read_at_zero : (oid front : ℕ) (list : List Transaction) → front ≤ 0 → read_below oid front list ≡ None
read_at_zero oid front list low =
    let zero_is : front ≡ 0 = omega (arith, low) in
    ap (λ (f : ℕ). read_below oid f list) zero_is ∙ ap (λ (rs : List ObjectRevision). option_and_then read_from (last_or None rs)) (none_at_zero (revisions oid list))

none_some : (d : ℕ × List ℕ) → None ≡ Some d → ⊥
none_some d is = absurd cc

-- each view is later than that of a client that was told nothing
pub later_first : (w : View) → Later first_view w
later_first w = record {
  front = omega arith;
  switches = omega arith;
  held = λ oid front d low is. absurd (none_some d (sym (read_at_zero oid front w.list low) ∙ is));
  same = λ still oid front low. read_at_zero oid front w.list low ∙ sym (read_at_zero oid front [] low);
}

-- a client that was told nothing yet may be at a session, where a client may be at another one, or nothing is voted that isn't later than the list and no
-- pack is open that goes over its newest transaction
pub opened_may : {R F : Type 0} (hub : HubState R F) → (hub.store.broken ≡ false → WritesLater hub.store.list (option_map (vote_of_hub hub.store.voted) hub.vote))
    → (hub.store.broken ≡ false → IsPackWithin hub.store.list (pack_with hub.store (length hub.journal) hub.pack)) → MayBeTold None hub first_view (view_of (server_of hub))
opened_may hub votes within = record {
  last = tt;
  front = omega arith;
  switches = omega arith;
  later = later_first (view_of (server_of hub));
  known = λ _. later_self (view_of (server_of hub));
  votes = votes;
  within = within;
}
