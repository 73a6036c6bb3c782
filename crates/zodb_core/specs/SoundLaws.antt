-- Steps and histories keep a machine sound, and its list only grows and is packed. For the proofs of those who follow the machine.
use Rattle.std.proofs.Common.{◌≡◌, ℕ, ◌+◌, ◌<◌, ◌≤◌, ◌⊎◌, inl, inr, max, Bool, true, false, cond, List, [], ◌∷◌, ◌++◌, length, map, Option, Some, None, refl, sym, ap, subst, ◌∙◌, arith}
use Rattle.std.specs.Prelude.{slice_set}
use Rattle.std.specs.List.{AllByRecursion, flat_map, last_or}
use Rattle.std.specs.Option.{option_map_or}
use Rattle.std.specs.Ordering.{nat_cmp}
use Rattle.std.specs.FinSet.{FinSet, len}
use Rattle.std.proofs.lemmas.Bool.{true≢false}
use Rattle.std.proofs.lemmas.Grind.{flat_map-append}
use Rattle.std.proofs.lemmas.List.{append-nil, append_assoc, length-append}
use Rattle.std.proofs.lemmas.List.Sums.{sum_by-append}
use Rattle.std.proofs.lemmas.List.Elements.{All-from_recursion, All-set, recursion_from_All}
use Rattle.zb_base.specs.Lists.{each_more, last_or_append}
use Rattle.zb_model.specs.declared.data.Transaction.{Transaction}
use Rattle.zb_model.specs.Database.{IsDatabase, content_below, newest_tid, revision_below}
use Rattle.zb_model.specs.Packing.{packed_by}
use Rattle.zb_model.specs.PackingLaws.{packed_database}
use Rattle.zb_model.specs.Queries.{greatest_of, greatest_oid, oids_of}
use Rattle.zb_model.specs.QueryLaws.{greatest-append}
use Rattle.zb_model.specs.VotingLaws.{database-push, newest-push}
use Rattle.zodb_core.specs.declared.journal.JournalEntry.{JournalEntry}
use Rattle.zodb_core.specs.declared.journal.JournalEntry.TheVariants as journal
use Rattle.zodb_core.specs.declared.request.Request.{Request}
use Rattle.zodb_core.specs.GrowthLaws.{content_kept, revision_kept}
use Rattle.zodb_core.specs.History.{Entry, Made, Opened, machine_after, machine_behind, stamp_of_step}
use Rattle.zodb_core.specs.Machine.{Machine, MachineSession, MachineVote, OpenPack, Rules, front_of, has_pack, holds_vote, is_switch, machine_over, new_session, switches_of, with_session}
use Rattle.zodb_core.specs.Outcomes.{StepOutcome, closed_session, failed, is_pack, machine_left, outcome_of, FaultCounts, IsStepMade}
use Rattle.zodb_core.specs.PackLaws.{greatest_packed, newest_packed}
use Rattle.zodb_core.specs.Sound.{AreWellFormedRequests, Becomes, GoesOnTo, GrowsByOne, GrowsTo, HasNoPack, HasOneMore, IsWellFormedEntry, IsWellFormedRequest, IsNextIfSome, IsNextTransaction, IsNoPack, IsPackOf, IsPackWithin, IsSoundMachine, IsSoundVote, IsToldWithin, ComesTo, VotesLater, moved, unmoved}
use Rattle.zodb_core.specs.StepCases.{StepCases, by_ending, by_step, within_of}
use Rattle.zodb_core.specs.Steps.{Stepped, entry_of, step_of, with_commit, with_pack, with_switch, without_pack, without_vote}

-- ---- a machine that is sound

pub over_sound : (list : List Transaction) → IsDatabase list → IsSoundMachine (machine_over list)
over_sound list is = record { database = is; next = tt; numbered = omega arith; told = tt; within = tt }

-- a session told all, in the place of another
told_set : (happened : ℕ) (sessions : List MachineSession) (n : ℕ) (x : MachineSession) → x.told ≤ happened → AllByRecursion (IsToldWithin happened) sessions → AllByRecursion (IsToldWithin happened) (slice_set sessions n x)
told_set happened sessions n x one all =
    recursion_from_All (IsToldWithin happened) (slice_set sessions n x) (All-set (IsToldWithin happened) sessions n x one (All-from_recursion (IsToldWithin happened) sessions all))

told_more : (happened more : ℕ) (sessions : List MachineSession) → happened ≤ more → AllByRecursion (IsToldWithin happened) sessions → AllByRecursion (IsToldWithin more) sessions
told_more happened more [] up all = tt
told_more happened more (x ∷ sessions) up all = (omega (arith, up, all.0), told_more happened more sessions up all.1)

told_closed : (happened : ℕ) (sessions : List MachineSession) → AllByRecursion (IsToldWithin happened) sessions → AllByRecursion (IsToldWithin happened) (map closed_session sessions)
told_closed happened [] all = tt
told_closed happened (x ∷ sessions) all = (all.0, told_closed happened sessions all.1)

next_dropped : (list : List Transaction) (vote : Option MachineVote) (b : Bool) → IsSoundVote list vote → IsSoundVote list (cond b None vote)
next_dropped list vote true next = tt
next_dropped list vote false next = next

pack_dropped_within : (list : List Transaction) (pack : Option OpenPack) (b : Bool) → IsPackWithin list pack → IsPackWithin list (cond b None pack)
pack_dropped_within list pack true within = tt
pack_dropped_within list pack false within = within

-- a list whose newest transaction is no earlier
pub within_later : (list now : List Transaction) (pack : Option OpenPack) → newest_tid list ≤ newest_tid now → IsPackWithin list pack → IsPackWithin now pack
within_later list now None later within = tt
within_later list now (Some p) later within = omega (arith, later, within)

pub opened_sound : (m : Machine) → IsSoundMachine m → IsSoundMachine (with_session m)
opened_sound m sound = record {
  database = sound.database;
  next = sound.next;
  numbered = sound.numbered;
  told = each_more (IsToldWithin (length m.journal)) m.sessions (new_session m) sound.told (omega arith);
  within = sound.within;
}

pub failed_sound : (m : Machine) → IsSoundMachine m → IsSoundMachine (failed m)
failed_sound m sound = record { database = sound.database; next = tt; numbered = sound.numbered; told = told_closed (length m.journal) m.sessions sound.told; within = tt }

-- the pack is dropped, whatever was open
pub unpacked_sound : (m : Machine) → IsSoundMachine m → IsSoundMachine (without_pack m)
unpacked_sound m sound = record { database = sound.database; next = sound.next; numbered = sound.numbered; told = sound.told; within = tt }

-- a pack is open that leaves the newest transaction whole
packing_sound : (m : Machine) (p : OpenPack) → IsSoundMachine m → p.tid < newest_tid m.list → IsSoundMachine (with_pack m p)
packing_sound m p sound within = record { database = sound.database; next = sound.next; numbered = sound.numbered; told = sound.told; within = within }

dropped_sound : (m : Machine) (n : ℕ) → IsSoundMachine m → IsSoundMachine (without_vote m n)
dropped_sound m n sound = record { database = sound.database; next = next_dropped m.list m.vote (holds_vote n m.vote) sound.next; numbered = sound.numbered; told = sound.told; within = sound.within }

-- what a vote will write may be the next
pub next_of : (list : List Transaction) (vote : Option MachineVote) (v : MachineVote) (t : Transaction) → IsSoundVote list vote → vote ≡ Some v → v.writes ≡ Some t → IsNextTransaction list t
next_of list vote v t next is writes = subst (IsNextIfSome list) writes (subst (IsSoundVote list) is next)

greatest_push : (list : List Transaction) (t : Transaction) → greatest_oid (list ++ t ∷ []) ≡ max (greatest_oid list) (greatest_of (oids_of t))
greatest_push list t =
    ap greatest_of (flat_map-append oids_of list (t ∷ []))
    ∙ greatest-append (flat_map oids_of list) (oids_of t ++ [])
    ∙ ap (λ (ns : List ℕ). max (greatest_oid list) (greatest_of ns)) (append-nil (oids_of t))

committed_sound : (m : Machine) (n : ℕ) (v : MachineVote) (t : Transaction) → IsSoundMachine m → m.vote ≡ Some v → v.writes ≡ Some t → IsSoundMachine (with_commit m n t)
committed_sound m n v t sound is writes =
    let next : IsNextTransaction m.list t = next_of m.list m.vote v t sound.next is writes in
    record {
      database = database-push m.list t sound.database next.later next.bounded next.sound.distinct next.sound.filled;
      next = tt;
      numbered = omega (arith, greatest_push m.list t, sound.numbered);
      told = told_more (length m.journal) (length (m.journal ++ entry_of n t ∷ [])) m.sessions (omega (arith, length-append m.journal (entry_of n t ∷ []))) sound.told;
      within = within_later m.list (m.list ++ t ∷ []) m.pack (omega (arith, newest-push m.list t, next.later)) sound.within;
    }

-- a packed list, where no vote is held
packed_sound : (m : Machine) (t : ℕ) (keep : FinSet nat_cmp) → IsSoundMachine m → m.vote ≡ None → t < newest_tid m.list → IsSoundMachine (with_switch m t (packed_by t keep m.list))
packed_sound m t keep sound free below = record {
  database = packed_database t keep m.list sound.database;
  next = subst (IsSoundVote (packed_by t keep m.list)) (sym free) tt;
  numbered = omega (arith, greatest_packed t keep m.list, sound.numbered);
  told = told_more (length m.journal) (length (m.journal ++ journal.Packed t ∷ [])) m.sessions (omega (arith, length-append m.journal (journal.Packed t ∷ []))) sound.told;
  within = tt;
}

sound_cases : (m : Machine) (n : ℕ) (q : Request) → IsSoundMachine m → IsWellFormedRequest q → StepCases (λ s. IsSoundMachine s.machine) m n q
sound_cases m n q sound formed = record {
  refused = λ r is. sound;
  full = λ count. sound;
  spent = sound;
  told = record { database = sound.database; next = sound.next; numbered = sound.numbered; told = told_set (length m.journal) m.sessions n (record { is_open = true; told = length m.journal }) (omega arith) sound.told; within = sound.within };
  found = λ oid f. sound;
  numbers = λ count. record { database = sound.database; next = sound.next; numbered = omega (arith, sound.numbered); told = sound.told; within = sound.within };
  nothing = record { database = sound.database; next = tt; numbered = sound.numbered; told = sound.told; within = sound.within };
  written = λ texts changes tid each later bounded.
      record { database = sound.database; next = record { later = later; bounded = bounded; sound = each (sound.database, formed); unpacked = refl }; numbered = sound.numbered; told = sound.told; within = sound.within };
  emptied = record { database = sound.database; next = tt; numbered = sound.numbered; told = sound.told; within = sound.within };
  committed = λ v t is writes. committed_sound m n v t sound is writes;
  dropped = dropped_sound m n sound;
  listed = λ revisions. sound;
  logged = λ lines. sound;
  begun = λ is t collects none below. packing_sound m (record { session = n; tid = t; collects = collects; marked = 0; copying = None }) sound below;
  marking = λ is p count there. packing_sound m (record p { marked = count }) sound (within_of m.list m.pack p there sound.within);
  marked = λ is p keep there.
      packing_sound m (record p { marked = len keep; copying = Some (record { kept = keep; began = length m.list; copied = 0; is_whole = false }) }) sound (within_of m.list m.pack p there sound.within);
  copying = λ is p k copied count there copying.
      packing_sound m (record p { copying = Some (record k { copied = copied; is_whole = false }) }) sound (within_of m.list m.pack p there sound.within);
  copied = λ is p k copied count there copying.
      packing_sound m (record p { copying = Some (record k { copied = copied; is_whole = true }) }) sound (within_of m.list m.pack p there sound.within);
  lost = λ is r answers. unpacked_sound m sound;
  packed = λ is t keep free below. packed_sound m t keep sound free (below sound.within);
  last = sound;
  since = λ tid changes. sound;
  closed = record {
    database = sound.database;
    next = next_dropped m.list m.vote (holds_vote n m.vote) sound.next;
    numbered = sound.numbered;
    told = told_set (length m.journal) m.sessions n (record { is_open = false; told = length m.journal }) (omega arith) sound.told;
    within = pack_dropped_within m.list m.pack (has_pack n m.pack) sound.within;
  };
}

pub step_sound : (rules : Rules) (m : Machine) (n : ℕ) (q : Request) (stamp : ℕ) → IsSoundMachine m → IsWellFormedRequest q → IsSoundMachine (step_of rules m n q stamp).machine
step_sound rules m n q stamp sound formed = by_step (λ s. IsSoundMachine s.machine) rules m n q stamp (sound_cases m n q sound formed)

pub left_sound : (rules : Rules) (m : Machine) (n : ℕ) (q : Request) (stamp : ℕ) (outcome : StepOutcome) → IsSoundMachine m → IsWellFormedRequest q → IsSoundMachine (machine_left rules m n q stamp outcome)
left_sound rules m n q stamp outcome sound formed =
    by_ending IsSoundMachine rules m n q stamp outcome sound (unpacked_sound m sound) (failed_sound m sound) (sound_cases m n q sound formed)

-- and so a step that was made
pub made_sound : (rules : Rules) (m : Machine) (n : ℕ) (q : Request) (stamp : ℕ) (made : Stepped) (before now : FaultCounts)
    → IsStepMade rules m n q stamp made before now → IsSoundMachine m → IsWellFormedRequest q → IsSoundMachine made.machine
made_sound rules m n q stamp made before now step sound formed = subst IsSoundMachine (sym step.left) (left_sound rules m n q stamp (outcome_of made.reply) sound formed)

pub behind_sound : (rules : Rules) (m : Machine) (e : Entry) → IsSoundMachine m → IsWellFormedEntry e → IsSoundMachine (machine_behind rules m e)
behind_sound rules m (Opened n) sound formed = opened_sound m sound
behind_sound rules m (Made e) sound formed = left_sound rules m e.session e.request (stamp_of_step e) (outcome_of e.reply) sound formed

pub history_sound : (rules : Rules) (m : Machine) (entries : List Entry) → IsSoundMachine m → AreWellFormedRequests entries → IsSoundMachine (machine_after rules m entries)
history_sound rules m [] sound formed = sound
history_sound rules m (e ∷ entries) sound formed = history_sound rules (machine_behind rules m e) entries (behind_sound rules m e sound formed.0) formed.1

-- ---- a list that grows or is packed

pub one_more : (list : List Transaction) (t : Transaction) → newest_tid list < t.tid → HasOneMore list (list ++ t ∷ [])
one_more list t later = record { newest = t; behind = refl; later = later }

-- the list, unless a request to pack was made, is as it was or has one transaction more
abbrev BecomesFor : Bool → List Transaction → List Transaction → Type 0
BecomesFor packs list now = GrowsByOne list now ⊎ ((packs ≡ true) × IsPackOf list now)

become_cases : (m : Machine) (n : ℕ) (q : Request) → IsSoundMachine m → StepCases (λ s. BecomesFor (is_pack q) m.list s.machine.list) m n q
become_cases m n q sound = record {
  refused = λ r is. inl (inl refl);
  full = λ count. inl (inl refl);
  spent = inl (inl refl);
  told = inl (inl refl);
  found = λ oid f. inl (inl refl);
  numbers = λ count. inl (inl refl);
  nothing = inl (inl refl);
  written = λ texts changes tid each later bounded. inl (inl refl);
  emptied = inl (inl refl);
  committed = λ v t is writes. inl (inr (one_more m.list t (next_of m.list m.vote v t sound.next is writes).later));
  dropped = inl (inl refl);
  listed = λ revisions. inl (inl refl);
  logged = λ lines. inl (inl refl);
  begun = λ is t collects none below. inl (inl refl);
  marking = λ is p count there. inl (inl refl);
  marked = λ is p keep there. inl (inl refl);
  copying = λ is p k copied count there copying. inl (inl refl);
  copied = λ is p k copied count there copying. inl (inl refl);
  lost = λ is r answers. inl (inl refl);
  packed = λ is t keep free below. inr (is, record { tid = t; keep = keep; below = below sound.within; is = refl });
  last = inl (inl refl);
  since = λ tid changes. inl (inl refl);
  closed = inl (inl refl);
}

becomes_of : (packs : Bool) (list now : List Transaction) → BecomesFor packs list now → Becomes list now
becomes_of packs list now (inl grows) = inl grows
becomes_of packs list now (inr pack) = inr pack.1

grows_of : (packs : Bool) (list now : List Transaction) → packs ≡ false → BecomesFor packs list now → GrowsByOne list now
grows_of packs list now not (inl grows) = grows
grows_of packs list now not (inr pack) = absurd (true≢false (sym pack.0 ∙ not))

left_becomes_for : (rules : Rules) (m : Machine) (n : ℕ) (q : Request) (stamp : ℕ) (outcome : StepOutcome) → IsSoundMachine m → BecomesFor (is_pack q) m.list (machine_left rules m n q stamp outcome).list
left_becomes_for rules m n q stamp outcome sound = by_ending (λ x. BecomesFor (is_pack q) m.list x.list) rules m n q stamp outcome (inl (inl refl)) (inl (inl refl)) (inl (inl refl)) (become_cases m n q sound)

-- a step leaves the list, puts one transaction behind it, or packs it, however it ends
pub left_becomes : (rules : Rules) (m : Machine) (n : ℕ) (q : Request) (stamp : ℕ) (outcome : StepOutcome) → IsSoundMachine m → Becomes m.list (machine_left rules m n q stamp outcome).list
left_becomes rules m n q stamp outcome sound = becomes_of (is_pack q) m.list (machine_left rules m n q stamp outcome).list (left_becomes_for rules m n q stamp outcome sound)

-- and one that is no pack never packs it
pub left_grows : (rules : Rules) (m : Machine) (n : ℕ) (q : Request) (stamp : ℕ) (outcome : StepOutcome) → is_pack q ≡ false → IsSoundMachine m → GrowsByOne m.list (machine_left rules m n q stamp outcome).list
left_grows rules m n q stamp outcome not sound = grows_of (is_pack q) m.list (machine_left rules m n q stamp outcome).list not (left_becomes_for rules m n q stamp outcome sound)

pub made_becomes : (rules : Rules) (m : Machine) (n : ℕ) (q : Request) (stamp : ℕ) (made : Stepped) (before now : FaultCounts)
    → IsStepMade rules m n q stamp made before now → IsSoundMachine m → Becomes m.list made.machine.list
made_becomes rules m n q stamp made before now step sound = subst (λ (x : Machine). Becomes m.list x.list) (sym step.left) (left_becomes rules m n q stamp (outcome_of made.reply) sound)

pub made_grows : (rules : Rules) (m : Machine) (n : ℕ) (q : Request) (stamp : ℕ) (made : Stepped) (before now : FaultCounts)
    → IsStepMade rules m n q stamp made before now → is_pack q ≡ false → IsSoundMachine m → GrowsByOne m.list made.machine.list
made_grows rules m n q stamp made before now step not sound = subst (λ (x : Machine). GrowsByOne m.list x.list) (sym step.left) (left_grows rules m n q stamp (outcome_of made.reply) not sound)

pub behind_becomes : (rules : Rules) (m : Machine) (e : Entry) → IsSoundMachine m → Becomes m.list (machine_behind rules m e).list
behind_becomes rules m (Opened n) sound = inl (inl refl)
behind_becomes rules m (Made e) sound = left_becomes rules m e.session e.request (stamp_of_step e) (outcome_of e.reply) sound

-- ---- packs are counted

-- an entry of a commit is no switch, and one of a pack is
pub no_switch : (entries : List JournalEntry) (n tid : ℕ) (oids : List ℕ) → switches_of (entries ++ journal.Commit n tid oids ∷ []) ≡ switches_of entries
no_switch entries n tid oids = omega (arith, sum_by-append (λ (e : JournalEntry). cond (is_switch e) 1 0) entries (journal.Commit n tid oids ∷ []))

pub one_switch : (entries : List JournalEntry) (t : ℕ) → switches_of (entries ++ journal.Packed t ∷ []) ≡ switches_of entries + 1
one_switch entries t = omega (arith, sum_by-append (λ (e : JournalEntry). cond (is_switch e) 1 0) entries (journal.Packed t ∷ []))

-- a machine with the same list and journal
pub goes_same : (m now : Machine) → now.list ≡ m.list → now.journal ≡ m.journal → GoesOnTo m now
goes_same m now list entries = record { becomes = inl (inl list); switches = omega (arith, ap switches_of entries); grows = λ _. inl list }

goes_cases : (m : Machine) (n : ℕ) (q : Request) → VotesLater m.list m.vote → IsPackWithin m.list m.pack → StepCases (λ s. GoesOnTo m s.machine) m n q
goes_cases m n q later within = record {
  refused = λ r is. goes_same m m refl refl;
  full = λ count. goes_same m m refl refl;
  spent = goes_same m m refl refl;
  told = goes_same m _ refl refl;
  found = λ oid f. goes_same m m refl refl;
  numbers = λ count. goes_same m _ refl refl;
  nothing = goes_same m _ refl refl;
  written = λ texts changes tid each above bounded. goes_same m _ refl refl;
  emptied = goes_same m _ refl refl;
  committed = λ v t is writes. record {
    becomes = inl (inr (one_more m.list t (later v t is writes)));
    switches = omega (arith, no_switch m.journal n t.tid (oids_of t));
    grows = λ _. inr (one_more m.list t (later v t is writes));
  };
  dropped = goes_same m _ refl refl;
  listed = λ revisions. goes_same m m refl refl;
  logged = λ lines. goes_same m m refl refl;
  begun = λ is t collects none below. goes_same m _ refl refl;
  marking = λ is p count there. goes_same m _ refl refl;
  marked = λ is p keep there. goes_same m _ refl refl;
  copying = λ is p k copied count there copying. goes_same m _ refl refl;
  copied = λ is p k copied count there copying. goes_same m _ refl refl;
  lost = λ is r answers. goes_same m _ refl refl;
  packed = λ is t keep free below. record {
    becomes = inr (record { tid = t; keep = keep; below = below within; is = refl });
    switches = omega (arith, one_switch m.journal t);
    grows = λ unpacked. absurd (omega (arith, unpacked, one_switch m.journal t));
  };
  last = goes_same m m refl refl;
  since = λ tid changes. goes_same m m refl refl;
  closed = goes_same m _ refl refl;
}

-- a step counts a pack, and else its list only grows, however it ends
pub left_goes_on : (rules : Rules) (m : Machine) (n : ℕ) (q : Request) (stamp : ℕ) (outcome : StepOutcome) → VotesLater m.list m.vote → IsPackWithin m.list m.pack → GoesOnTo m (machine_left rules m n q stamp outcome)
left_goes_on rules m n q stamp outcome later within =
    by_ending (GoesOnTo m) rules m n q stamp outcome (goes_same m m refl refl) (goes_same m _ refl refl) (goes_same m _ refl refl) (goes_cases m n q later within)

-- and the open pack still leaves the newest transaction whole
within_cases : (m : Machine) (n : ℕ) (q : Request) → VotesLater m.list m.vote → IsPackWithin m.list m.pack → StepCases (λ s. IsPackWithin s.machine.list s.machine.pack) m n q
within_cases m n q later within = record {
  refused = λ r is. within;
  full = λ count. within;
  spent = within;
  told = within;
  found = λ oid f. within;
  numbers = λ count. within;
  nothing = within;
  written = λ texts changes tid each above bounded. within;
  emptied = within;
  committed = λ v t is writes. within_later m.list (m.list ++ t ∷ []) m.pack (omega (arith, newest-push m.list t, later v t is writes)) within;
  dropped = within;
  listed = λ revisions. within;
  logged = λ lines. within;
  begun = λ is t collects none below. below;
  marking = λ is p count there. within_of m.list m.pack p there within;
  marked = λ is p keep there. within_of m.list m.pack p there within;
  copying = λ is p k copied count there copying. within_of m.list m.pack p there within;
  copied = λ is p k copied count there copying. within_of m.list m.pack p there within;
  lost = λ is r answers. tt;
  packed = λ is t keep free below. tt;
  last = within;
  since = λ tid changes. within;
  closed = pack_dropped_within m.list m.pack (has_pack n m.pack) within;
}

pub left_within : (rules : Rules) (m : Machine) (n : ℕ) (q : Request) (stamp : ℕ) (outcome : StepOutcome) → VotesLater m.list m.vote → IsPackWithin m.list m.pack
    → IsPackWithin (machine_left rules m n q stamp outcome).list (machine_left rules m n q stamp outcome).pack
left_within rules m n q stamp outcome later within = by_ending (λ x. IsPackWithin x.list x.pack) rules m n q stamp outcome within tt tt (within_cases m n q later within)

-- what a sound machine has voted is later
pub sound_later : (m : Machine) → IsSoundMachine m → VotesLater m.list m.vote
sound_later m sound v t is writes = (next_of m.list m.vote v t sound.next is writes).later

-- the newest is no older, and the front no lower
pub grown_later : (list grown : List Transaction) → GrowsByOne list grown → newest_tid list ≤ newest_tid grown
grown_later list grown (inl same) = omega (arith, ap newest_tid same)
grown_later list grown (inr more) = omega (arith, ap newest_tid more.behind, newest-push list more.newest, more.later)

pub newest_later : (list now : List Transaction) → Becomes list now → newest_tid list ≤ newest_tid now
newest_later list now (inl grows) = grown_later list now grows
newest_later list now (inr pack) = omega (arith, ap newest_tid pack.is, newest_packed pack.tid pack.keep list pack.below)

pub front_later : (list now : List Transaction) → Becomes list now → front_of list ≤ front_of now
front_later list now becomes = omega (arith, newest_later list now becomes)

-- ---- a list that histories lead to

comes_on : (list mid now : List Transaction) → ComesTo list mid → ComesTo mid now → ComesTo list now
comes_on list mid _ first unmoved = first
comes_on list mid _ first (moved half now before is becomes) = moved half now (comes_on list mid half first before) is becomes

-- one step, and then others
pub comes_from : (list mid now : List Transaction) → IsDatabase list → Becomes list mid → ComesTo mid now → ComesTo list now
comes_from list mid now is becomes on = comes_on list mid now (moved list mid unmoved is becomes) on

pub comes_twice : (list mid now : List Transaction) → ComesTo list mid → ComesTo mid now → ComesTo list now
comes_twice list mid now first on = comes_on list mid now first on

pub history_comes : (rules : Rules) (m : Machine) (entries : List Entry) → IsSoundMachine m → AreWellFormedRequests entries → ComesTo m.list (machine_after rules m entries).list
history_comes rules m [] sound formed = unmoved
history_comes rules m (e ∷ entries) sound formed =
    comes_from m.list (machine_behind rules m e).list (machine_after rules m (e ∷ entries)).list sound.database (behind_becomes rules m e sound)
    (history_comes rules (machine_behind rules m e) entries (behind_sound rules m e sound formed.0) formed.1)

-- the newest is no older, and the front no lower
pub newest_come : (list now : List Transaction) → ComesTo list now → newest_tid list ≤ newest_tid now
newest_come list _ unmoved = omega arith
newest_come list _ (moved mid now before is becomes) = omega (arith, newest_come list mid before, newest_later mid now becomes)

pub front_come : (list now : List Transaction) → ComesTo list now → front_of list ≤ front_of now
front_come list now leads = omega (arith, newest_come list now leads)

pub history_newest : (rules : Rules) (m : Machine) (entries : List Entry) → IsSoundMachine m → AreWellFormedRequests entries → newest_tid m.list ≤ newest_tid (machine_after rules m entries).list
history_newest rules m entries sound formed = newest_come m.list (machine_after rules m entries).list (history_comes rules m entries sound formed)

-- ---- a list that grew over a history

later_all : (low newest : ℕ) (more : List Transaction) → low ≤ newest → AllByRecursion (λ t. newest < t.tid) more → AllByRecursion (λ t. low < t.tid) more
later_all low newest [] up all = tt
later_all low newest (t ∷ more) up all = (omega (arith, up, all.0), later_all low newest more up all.1)

grows_on : (list mid grown : List Transaction) → GrowsByOne list mid → GrowsTo mid grown → GrowsTo list grown
grows_on list mid grown (inl same) on = subst (λ (l : List Transaction). GrowsTo l grown) same on
grows_on list mid grown (inr more) on = record {
  more = more.newest ∷ on.more;
  behind = on.behind ∙ ap (λ (l : List Transaction). l ++ on.more) more.behind ∙ append_assoc list (more.newest ∷ []) on.more;
  later = (more.later, later_all (newest_tid list) (newest_tid mid) on.more (grown_later list mid (inr more)) on.later);
}

-- a list that didn't grow, and one that grew twice
pub grows_not : (list : List Transaction) → GrowsTo list list
grows_not list = record { more = []; behind = sym (append-nil list); later = tt }

later_both : (low : ℕ) (more further : List Transaction) → AllByRecursion (λ t. low < t.tid) more → AllByRecursion (λ t. low < t.tid) further → AllByRecursion (λ t. low < t.tid) (more ++ further)
later_both low [] further one two = two
later_both low (t ∷ more) further one two = (one.0, later_both low more further one.1 two)

behind_grows : (rules : Rules) (m : Machine) (e : Entry) → IsNoPack e → IsSoundMachine m → GrowsByOne m.list (machine_behind rules m e).list
behind_grows rules m (Opened n) not sound = inl refl
behind_grows rules m (Made e) not sound = left_grows rules m e.session e.request (stamp_of_step e) (outcome_of e.reply) not sound

pub history_grows : (rules : Rules) (m : Machine) (entries : List Entry) → IsSoundMachine m → AreWellFormedRequests entries → HasNoPack entries → GrowsTo m.list (machine_after rules m entries).list
history_grows rules m [] sound formed none = grows_not m.list
history_grows rules m (e ∷ entries) sound formed none =
    grows_on m.list (machine_behind rules m e).list (machine_after rules m (e ∷ entries)).list (behind_grows rules m e none.0 sound)
    (history_grows rules (machine_behind rules m e) entries (behind_sound rules m e sound formed.0) formed.1 none.1)

-- one transaction more is one of several
pub grows_to : (list grown : List Transaction) → GrowsByOne list grown → GrowsTo list grown
grows_to list grown grows = grows_on list grown grown grows (grows_not grown)

newest_last : (list : List Transaction) (low : ℕ) (o : Option Transaction) → low ≤ option_map_or (λ (t : Transaction). t.tid) o 0 → AllByRecursion (λ t. low < t.tid) list
    → low ≤ option_map_or (λ (t : Transaction). t.tid) (last_or o list) 0
newest_last [] low o first all = first
newest_last (t ∷ list) low o first all = newest_last list low (Some t) (omega (arith, all.0)) all.1

-- the newest of a list that grew is no older, and its front no lower
pub newest_grown : (list grown : List Transaction) → GrowsTo list grown → newest_tid list ≤ newest_tid grown
newest_grown list grown grows =
    let last : newest_tid list ≤ option_map_or (λ (t : Transaction). t.tid) (last_or (last_or None list) grows.more) 0 = newest_last grows.more (newest_tid list) (last_or None list) (omega arith) grows.later in
    omega (arith, last, ap newest_tid grows.behind, ap (λ (o : Option Transaction). option_map_or (λ (t : Transaction). t.tid) o 0) (last_or_append None list grows.more))

pub front_grown : (list grown : List Transaction) → GrowsTo list grown → front_of list ≤ front_of grown
front_grown list grown grows = omega (arith, newest_grown list grown grows)

-- each state below a front that the list had reached is as it was
pub revision_grown : (oid front : ℕ) (list grown : List Transaction) → GrowsTo list grown → front ≤ front_of list → revision_below oid front grown ≡ revision_below oid front list
revision_grown oid front list grown grows up = ap (revision_below oid front) grows.behind ∙ revision_kept oid front list grows.more up grows.later

pub content_grown : (oid front : ℕ) (list grown : List Transaction) → GrowsTo list grown → front ≤ front_of list → content_below oid front grown ≡ content_below oid front list
content_grown oid front list grown grows up = ap (content_below oid front) grows.behind ∙ content_kept oid front list grows.more up grows.later

pub grows_twice : (list mid grown : List Transaction) → GrowsTo list mid → GrowsTo mid grown → GrowsTo list grown
grows_twice list mid grown one two = record {
  more = one.more ++ two.more;
  behind = two.behind ∙ ap (λ (l : List Transaction). l ++ two.more) one.behind ∙ append_assoc list one.more two.more;
  later = later_both (newest_tid list) one.more two.more one.later (later_all (newest_tid list) (newest_tid mid) two.more (newest_grown list mid one) two.later);
}
