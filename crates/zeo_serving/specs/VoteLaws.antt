-- What votes and undos of its own, and what ends them, keep of a remote client. For the proofs of those who serve clients.
use Rattle.std.proofs.Common.{◌≡◌, ℕ, ◌<◌, ◌^◌, ◌+◌, ◌-◌, List, [], ◌∷◌, ◌++◌, map, Option, Some, None, Result, Ok, Err, Bool, true, false, cond, refl, ap, sym, ◌∙◌, subst}
use Rattle.std.specs.Prelude.{◌||◌, ◌==◌, length, nat_lt}
use Rattle.std.specs.List.{list_any}
use Rattle.std.specs.Option.{option_or}
use Rattle.std.proofs.lemmas.Bool.{true≢false}
use Rattle.std.proofs.lemmas.Option.{same_Some}
use Rattle.zb_ids.specs.Tids.{tid_after}
use Rattle.zb_model.specs.declared.data.Change.{Change}
use Rattle.zb_model.specs.declared.data.Content.{Content}
use Rattle.zb_model.specs.declared.data.Content.TheVariants.{Held, Absent}
use Rattle.zb_model.specs.declared.data.Transaction.{Transaction}
use Rattle.zb_model.specs.declared.pending.PendingStore.{PendingStore}
use Rattle.zb_model.specs.declared.pending.PendingCheck.{PendingCheck}
use Rattle.zb_model.specs.declared.refusal.Refusal.{Refusal}
use Rattle.zb_model.specs.declared.refusal.Why.{Why}
use Rattle.zb_model.specs.Database.{newest_tid, serial_of}
use Rattle.zb_model.specs.Queries.{oids_of}
use Rattle.zb_model.specs.Rules.{MergeRules}
use Rattle.commit_phases.specs.Decision.{ahead_of_changes, change_of_content, change_of_delete, change_of_store, change_or_conflict, changes_of_stores, current_record, failed_check, goes_in, too_long, unless_checks_fail, unless_refused, vote_decision}
use Rattle.commit_phases.specs.Pending.{PendingChanges}
use Rattle.zb_model.specs.declared.refusal.Refusal.TheVariants as refusal
use Rattle.zb_model.specs.declared.refusal.Why.TheVariants as why
use Rattle.undo_records.specs.Undone.{undone_of}
use Rattle.zodb_core.specs.declared.reply.Reply.{Reply}
use Rattle.zodb_core.specs.declared.reply.Reply.TheVariants as reply
use Rattle.zodb_core.specs.declared.request.Request.{Request}
use Rattle.zodb_core.specs.declared.request.Request.TheVariants as request
use Rattle.zodb_core.specs.declared.texts.Texts.{Texts}
use Rattle.zodb_core.specs.Laws.{left_by_refusal}
use Rattle.zodb_core.specs.Machine.{Machine, MachineVote, Rules, holds_vote, told_of}
use Rattle.zodb_core.specs.Outcomes.{Answered, NoMemory, ReadingFailed, StepOutcome, StoreFailed, failed, machine_left, unanswered}
use Rattle.zodb_core.specs.Sound.{IsSoundMachine}
use Rattle.zodb_core.specs.StepCases.{by_unanswered}
use Rattle.zodb_core.specs.Steps.{Stepped, changes_in_journal, changes_undone, early_refusal, finish_gives, finish_step, journal_limit, request_step, step_of, transaction_with, unless_early, vote_at, vote_counted, vote_step, with_vote, without_pack, without_vote}
use Rattle.connection_view.specs.Views.{Client, each_object, either, is_news_of, is_one_of, no_object, stored_in, unvoted, voting}
use Rattle.zeo_cache.specs.declared.interval.Interval.{Interval}
use Rattle.zeo_cache.specs.Intervals.{Intervals, interval_of}
use Rattle.zeo_serving.specs.declared.standing.MayChange.{MayChange}
use Rattle.zeo_serving.specs.declared.standing.Standing.{Standing}
use Rattle.zeo_serving.specs.FrontLaws.{both_false, left_false, right_false}
use Rattle.zeo_serving.specs.HoldLaws.{holds_on}
use Rattle.zeo_serving.specs.KnowLaws.{OtherMoves, eqb-same, know_on, packs, stays}
use Rattle.zeo_serving.specs.Laws.{EndsVote, LessServes, RefusalsServe, UndosServe, VotesEnd, VotesServe, asked_all, asked_also, nothing_asked}
use Rattle.zeo_serving.specs.OtherLaws.{IsOther, failed_other, none_held, packless, same, voteless}
use Rattle.zeo_serving.specs.Serving.{IsServed, VotesFor, asks_for, view_at}
use Rattle.zeo_serving.specs.ServingLaws.{becomes, served_on}
use Rattle.zodb_core.specs.Machine.{switches_of}

-- ---- a vote writes the objects of its stores

-- the changes have these objects, in their order
abbrev HaveOids : List ℕ → Result (List Change) Refusal → Type 0
HaveOids oids (Ok changes) = map (λ c. c.oid) changes ≡ oids
HaveOids oids (Err r) = Unit {0}

abbrev HasOid : ℕ → Result Change Refusal → Type 0
HasOid oid (Ok c) = c.oid ≡ oid
HasOid oid (Err r) = Unit {0}

conflict_oid : (list : List Transaction) (oid base : ℕ) (r : Result (List ℕ) Why) → HasOid oid (change_or_conflict list oid base r)
conflict_oid list oid base (Ok bytes) = refl
conflict_oid list oid base (Err reason) = tt

delete_oid : (list : List Transaction) (oid base : ℕ) (o : Option (List ℕ)) → HasOid oid (change_of_delete list oid base o)
delete_oid list oid base None = tt
delete_oid list oid base (Some held) = by_cases (base == serial_of oid list)
  where
    by_cases : (b : Bool) → HasOid oid (cond b (Ok (record { oid = oid; content = Absent })) (Err (refusal.Conflict oid base (serial_of oid list) why.NoRule)))
    by_cases true = refl
    by_cases false = tt

content_oid : (rules : MergeRules) (list : List Transaction) (oid base : ℕ) (content : Content) → HasOid oid (change_of_content rules list oid base content)
content_oid rules list oid base (Held bytes) = conflict_oid list oid base (goes_in rules list oid base bytes)
content_oid rules list oid base Absent = delete_oid list oid base (current_record oid list)

ahead_oids : (oid : ℕ) (oids : List ℕ) (one : Result Change Refusal) (rest : Result (List Change) Refusal) → HasOid oid one → HaveOids oids rest → HaveOids (oid ∷ oids) (ahead_of_changes one rest)
ahead_oids oid oids (Err r) rest one all = tt
ahead_oids oid oids (Ok c) (Err r) one all = tt
ahead_oids oid oids (Ok c) (Ok changes) one all = ap (λ (n : ℕ). n ∷ map (λ (x : Change). x.oid) changes) one ∙ ap (λ (ns : List ℕ). oid ∷ ns) all

stores_oids : (rules : MergeRules) (list : List Transaction) (stores : List PendingStore) → HaveOids (map (λ p. p.oid) stores) (changes_of_stores rules list stores)
stores_oids rules list [] = refl
stores_oids rules list (p ∷ stores) =
    ahead_oids p.oid (map (λ p. p.oid) stores) (change_of_store rules list p) (changes_of_stores rules list stores)
    (content_oid rules list p.oid p.base p.content) (stores_oids rules list stores)

refused_oids : (oids : List ℕ) (changes : List Change) (o : Option Refusal) → map (λ c. c.oid) changes ≡ oids → HaveOids oids (unless_refused changes o)
refused_oids oids changes None have = have
refused_oids oids changes (Some r) have = tt

checked_oids : (oids : List ℕ) (list : List Transaction) (checks : List PendingCheck) (r : Result (List Change) Refusal) → HaveOids oids r → HaveOids oids (unless_checks_fail list checks r)
checked_oids oids list checks (Err r) have = tt
checked_oids oids list checks (Ok changes) have = refused_oids oids changes (option_or (failed_check list checks) (too_long changes)) have

pub vote_oids : (rules : MergeRules) (list : List Transaction) (pending : PendingChanges) → HaveOids (map (λ p. p.oid) pending.stores) (vote_decision rules list pending)
unfolding vote_decision
vote_oids rules list pending = checked_oids (map (λ p. p.oid) pending.stores) list pending.checks (changes_of_stores rules list pending.stores) (stores_oids rules list pending.stores)

-- ---- objects

mapped_any : (f : ℕ → Bool) (stores : List PendingStore) → list_any f (map (λ p. p.oid) stores) ≡ list_any (λ (p : PendingStore). f p.oid) stores
mapped_any f [] = refl
mapped_any f (p ∷ stores) = ap (λ (b : Bool). f p.oid || b) (mapped_any f stores)

any_behind : (f : ℕ → Bool) (xs ys : List ℕ) → list_any f (xs ++ ys) ≡ (list_any f xs || list_any f ys)
any_behind f [] ys = refl
any_behind f (x ∷ xs) ys = ap (λ (b : Bool). f x || b) (any_behind f xs ys) ∙ or_assoc (f x) (list_any f xs) (list_any f ys)
  where
    or_assoc : (a b c : Bool) → (a || (b || c)) ≡ ((a || b) || c)
    or_assoc true b c = refl
    or_assoc false b c = refl

pub left_true : (a b : Bool) → a ≡ true → (a || b) ≡ true
left_true true b e = refl
left_true false b e = absurd (true≢false (sym e))

pub right_true : (a b : Bool) → b ≡ true → (a || b) ≡ true
right_true true b e = refl
right_true false b e = e

-- ---- what a step of its own that votes does

pub record IsAsked (m now : Machine) (n : ℕ) (objects : ℕ → Bool) : Type 0 where
  pub told : told_of n now.sessions ≡ told_of n m.sessions
  pub moves : OtherMoves m now n
  pub votes : (voted : ℕ → Bool) → VotesFor m n voted → VotesFor now n (either voted objects)

module _ (m : Machine) (n : ℕ) (objects : ℕ → Bool) where
  asked_as : (now : Machine) → IsOther m now n → IsAsked m now n objects
  asked_as now is = record { told = is.told; moves = is.moves; votes = λ voted may v t e s w oid h. left_true (voted oid) (objects oid) (may v t (is.vote v e s) s w oid h) }

  same_vote : (writes : Option Transaction) (v : MachineVote) → (let w : MachineVote = record { session = n; writes = writes } in Some w) ≡ Some v → writes ≡ v.writes
  same_vote writes v e = ap (λ (x : MachineVote). x.writes) (same_Some (record { session = n; writes = writes }) v e)

  no_write : (t : Transaction) → (let o : Option Transaction = None in o) ≡ Some t → ⊥
  no_write t e = absurd cc

  asked_nothing : IsAsked m (with_vote m n None) n objects
  asked_nothing = record { told = refl; moves = stays refl refl; votes = λ voted may v t e s w oid h. absurd (no_write t (same_vote None v e ∙ w)) }

  asked_write : (t : Transaction) → ((oid : ℕ) → is_one_of (oids_of t) oid ≡ true → objects oid ≡ true) → IsAsked m (with_vote m n (Some t)) n objects
  asked_write t within = record {
    told = refl;
    moves = stays refl refl;
    votes = λ voted may v u e s w oid h.
        let is : t ≡ u = same_Some t u (same_vote (Some t) v e ∙ w) in
        right_true (voted oid) (objects oid) (within oid (subst (λ (x : Transaction). is_one_of (oids_of x) oid ≡ true) (sym is) h));
  }

  asked_either : (b : Bool) (x y : Stepped) → IsAsked m x.machine n objects → IsAsked m y.machine n objects → IsAsked m (cond b x y).machine n objects
  asked_either true x y one two = one
  asked_either false x y one two = two

  asked_changes : (texts : Texts) (changes : List Change) (stamp count : ℕ) → ((oid : ℕ) → is_one_of (map (λ c. c.oid) changes) oid ≡ true → objects oid ≡ true) → IsAsked m (vote_counted m n texts changes stamp count).machine n objects
  asked_changes texts changes stamp count within =
      let tid : ℕ = tid_after (newest_tid m.list) stamp in
      asked_either (nat_lt journal_limit count) _ _ (asked_as m (same m n)) (asked_either (nat_lt tid (2 ^ 64 - 1)) _ _ (asked_write (transaction_with tid texts changes) within) (asked_as m (same m n)))

  -- what is decided names only these objects
  abbrev NamesWithin : Result (List Change) Refusal → Type 0
  NamesWithin (Ok changes) = (oid : ℕ) → is_one_of (map (λ c. c.oid) changes) oid ≡ true → objects oid ≡ true
  NamesWithin (Err r) = Unit {0}

  asked_step : (texts : Texts) (stamp : ℕ) (decided : Result (List Change) Refusal) → NamesWithin decided → IsAsked m (vote_step m n texts stamp decided).machine n objects
  asked_step texts stamp (Err r) within = asked_as m (same m n)
  asked_step texts stamp (Ok []) within = asked_nothing
  asked_step texts stamp (Ok (c ∷ changes)) within = asked_changes texts (c ∷ changes) stamp (changes_in_journal m.journal + length (c ∷ changes)) within

  asked_early : (early : Option Refusal) (made : Stepped) → IsAsked m made.machine n objects → IsAsked m (unless_early early m made).machine n objects
  asked_early None made is = is
  asked_early (Some r) made is = asked_as m (same m n)

-- however it ends
asked_vote : (m : Machine) (n : ℕ) (rules : Rules) (user description extension : List ℕ) (pending : PendingChanges) (stamp : ℕ) (o : StepOutcome)
    → IsAsked m (machine_left rules m n (request.Vote user description extension pending) stamp o) n (stored_in pending.stores)
asked_vote m n rules user description extension pending stamp Answered =
    asked_early m n (stored_in pending.stores) (early_refusal m n (request.Vote user description extension pending)) (request_step rules m n (request.Vote user description extension pending) stamp)
    (asked_step m n (stored_in pending.stores) (record { user = user; description = description; extension = extension }) stamp (vote_decision rules.merging m.list pending)
    (within (vote_decision rules.merging m.list pending) (vote_oids rules.merging m.list pending)))
  where
    within : (r : Result (List Change) Refusal) → HaveOids (map (λ p. p.oid) pending.stores) r → NamesWithin m n (stored_in pending.stores) r
    within (Err r) have = tt
    within (Ok changes) have = λ oid h. sym (mapped_any (λ o. oid == o) pending.stores) ∙ subst (λ (oids : List ℕ). is_one_of oids oid ≡ true) have h
asked_vote m n rules user description extension pending stamp ReadingFailed = asked_as m n (stored_in pending.stores) m (same m n)
asked_vote m n rules user description extension pending stamp NoMemory = asked_as m n (stored_in pending.stores) m (same m n)
asked_vote m n rules user description extension pending stamp StoreFailed = asked_as m n (stored_in pending.stores) (failed m) (failed_other m n)

asked_undo : (m : Machine) (n : ℕ) (rules : Rules) (user description tids : List ℕ) (stamp : ℕ) (o : StepOutcome) → IsAsked m (machine_left rules m n (request.Undo user description tids) stamp o) n each_object
asked_undo m n rules user description tids stamp Answered =
    asked_early m n each_object (early_refusal m n (request.Undo user description tids)) (request_step rules m n (request.Undo user description tids) stamp)
    (asked_step m n each_object (record { user = user; description = description; extension = [] }) stamp (changes_undone m.list (undone_of rules.merging m.list tids))
    (within (changes_undone m.list (undone_of rules.merging m.list tids))))
  where
    within : (r : Result (List Change) Refusal) → NamesWithin m n each_object r
    within (Err r) = tt
    within (Ok changes) = λ oid h. refl
asked_undo m n rules user description tids stamp ReadingFailed = asked_as m n each_object m (same m n)
asked_undo m n rules user description tids stamp NoMemory = asked_as m n each_object m (same m n)
asked_undo m n rules user description tids stamp StoreFailed = asked_as m n each_object (failed m) (failed_other m n)

-- ---- the client behind it

served_asked : (m now : Machine) (n : ℕ) (objects : ℕ → Bool) → IsSoundMachine m → IsAsked m now n objects → (z : Standing) (asked : MayChange) (entries : Intervals) (c : Client)
    → ((oid : ℕ) → asks_for asked oid ≡ false → (asks_for z.asked oid ≡ false) × (objects oid ≡ false)) → IsServed m n z entries c → IsServed now n (record z { asked = asked }) entries (voting objects c)
served_asked m now n objects sound is z asked entries c both x = record {
  knows = know_on m now n (λ oid. false) c.known sound.database is.told x.knows is.moves;
  front = x.front;
  switches = x.switches;
  told = x.told;
  quiet = x.quiet;
  votes = is.votes c.voted x.votes;
  asked = λ oid free. let parts = both oid free in both_false (c.voted oid) (objects oid) (x.asked oid parts.0) parts.1;
  each = λ oid e h. holds_on c.known m.list now.list (switches_of m.journal) (switches_of now.journal) oid e sound.database x.knows.later (becomes m now n is.moves) (x.each oid e h);
}

pub also_free : (stores : List PendingStore) (asked : MayChange) (oid : ℕ) → (asked.all || is_one_of (asked.oids ++ map (λ p. p.oid) stores) oid) ≡ false → ((asked.all || is_one_of asked.oids oid) ≡ false) × (stored_in stores oid ≡ false)
also_free stores asked oid free =
    let some : is_one_of (asked.oids ++ map (λ p. p.oid) stores) oid ≡ false = right_false asked.all (is_one_of (asked.oids ++ map (λ p. p.oid) stores) oid) free in
    let split : (is_one_of asked.oids oid || is_one_of (map (λ p. p.oid) stores) oid) ≡ false = sym (any_behind (λ o. oid == o) asked.oids (map (λ p. p.oid) stores)) ∙ some in (
      both_false asked.all (is_one_of asked.oids oid) (left_false asked.all (is_one_of (asked.oids ++ map (λ p. p.oid) stores) oid) free) (left_false (is_one_of asked.oids oid) (is_one_of (map (λ p. p.oid) stores) oid) split),
      sym (mapped_any (λ o. oid == o) stores) ∙ right_false (is_one_of asked.oids oid) (is_one_of (map (λ p. p.oid) stores) oid) split,
    )

-- a client asks for a vote, before any step is made
pub asks_more : (m : Machine) (n : ℕ) (objects : ℕ → Bool) → IsSoundMachine m → (z : Standing) (asked : MayChange) (entries : Intervals) (c : Client)
    → ((oid : ℕ) → asks_for asked oid ≡ false → (asks_for z.asked oid ≡ false) × (objects oid ≡ false)) → IsServed m n z entries c → IsServed m n (record z { asked = asked }) entries (voting objects c)
asks_more m n objects sound z asked entries c both x = served_asked m m n objects sound (asked_as m n objects m (same m n)) z asked entries c both x

voted_twice : (m : Machine) (n : ℕ) (objects : ℕ → Bool) (z : Standing) (entries : Intervals) (c : Client) → IsServed m n z entries (voting objects (voting objects c)) → IsServed m n z entries (voting objects c)
voted_twice m n objects z entries c x = record {
  knows = x.knows;
  front = x.front;
  switches = x.switches;
  told = x.told;
  quiet = x.quiet;
  votes = λ v t e s w oid h. twice (c.voted oid) (objects oid) (x.votes v t e s w oid h);
  asked = λ oid free. left_false (c.voted oid || objects oid) (objects oid) (x.asked oid free);
  each = x.each;
}
  where
    twice : (a b : Bool) → ((a || b) || b) ≡ true → (a || b) ≡ true
    twice true b e = refl
    twice false true e = refl
    twice false false e = e

-- once it has asked for it, a vote keeps the client, however it ends; and so an undo
pub vote_stays : (rules : Rules) (m : Machine) (n : ℕ) (user description extension : List ℕ) (pending : PendingChanges) (stamp : ℕ) (o : StepOutcome) → IsSoundMachine m → (z : Standing) (entries : Intervals) (c : Client)
    → ((oid : ℕ) → asks_for z.asked oid ≡ false → stored_in pending.stores oid ≡ false) → IsServed m n z entries (voting (stored_in pending.stores) c)
    → IsServed (machine_left rules m n (request.Vote user description extension pending) stamp o) n z entries (voting (stored_in pending.stores) c)
vote_stays rules m n user description extension pending stamp o sound z entries c covers x =
    voted_twice (machine_left rules m n (request.Vote user description extension pending) stamp o) n (stored_in pending.stores) z entries c
    (served_asked m (machine_left rules m n (request.Vote user description extension pending) stamp o) n (stored_in pending.stores) sound (asked_vote m n rules user description extension pending stamp o)
    z z.asked entries (voting (stored_in pending.stores) c) (λ oid free. (free, covers oid free)) x)

pub undo_stays : (rules : Rules) (m : Machine) (n : ℕ) (user description tids : List ℕ) (stamp : ℕ) (o : StepOutcome) → IsSoundMachine m → (z : Standing) (entries : Intervals) (c : Client)
    → z.asked.all ≡ true → IsServed m n z entries (voting each_object c) → IsServed (machine_left rules m n (request.Undo user description tids) stamp o) n z entries (voting each_object c)
undo_stays rules m n user description tids stamp o sound z entries c all x =
    voted_twice (machine_left rules m n (request.Undo user description tids) stamp o) n each_object z entries c
    (served_asked m (machine_left rules m n (request.Undo user description tids) stamp o) n each_object sound (asked_undo m n rules user description tids stamp o)
    z z.asked entries (voting each_object c) (λ oid free. absurd (true≢false (sym (left_true z.asked.all (is_one_of z.asked.oids oid) all) ∙ free))) x)

pub votes_serve : VotesServe
votes_serve rules m n user description extension pending stamp o sound z entries c x =
    served_asked m (machine_left rules m n (request.Vote user description extension pending) stamp o) n (stored_in pending.stores) sound (asked_vote m n rules user description extension pending stamp o)
    z _ entries c (also_free pending.stores z.asked) x

pub undos_serve : UndosServe
undos_serve rules m n user description tids stamp o sound z entries c x =
    served_asked m (machine_left rules m n (request.Undo user description tids) stamp o) n each_object sound (asked_undo m n rules user description tids stamp o)
    z _ entries c (λ oid free. absurd (true≢false free)) x

-- ---- the end of a vote

-- the session holds none
abbrev HoldsNone : Machine → ℕ → Type 0
HoldsNone m n = (v : MachineVote) → m.vote ≡ Some v → v.session ≡ n → ⊥

served_unvoted : (m now : Machine) (n : ℕ) → IsSoundMachine m → IsOther m now n → HoldsNone now n → (z : Standing) (entries : Intervals) (c : Client) → IsServed m n z entries c → IsServed now n (nothing_asked z) entries (unvoted c)
served_unvoted m now n sound is none z entries c x =
    let y = served_on m now n sound is z entries c x in
    record { knows = y.knows; front = y.front; switches = y.switches; told = y.told; quiet = y.quiet; votes = λ v t e s w oid h. absurd (none v e s); asked = λ oid free. refl; each = y.each }

held_is : (v w : MachineVote) (n : ℕ) → (let o : Option MachineVote = Some v in o) ≡ Some w → w.session ≡ n → v.session ≡ n
held_is v w n e s = ap (λ (x : MachineVote). x.session) (same_Some v w e) ∙ s

dropped_held : (b : Bool) (vote : Option MachineVote) (n : ℕ) → holds_vote n vote ≡ b → (v : MachineVote) → cond b None vote ≡ Some v → v.session ≡ n → ⊥
dropped_held true vote n is v e s = none_held v e
dropped_held false None n is v e s = none_held v e
dropped_held false (Some w) n is v e s = true≢false (sym (eqb-same w.session n (held_is w v n e s)) ∙ is)

emptied_none : (m : Machine) (n : ℕ) → HoldsNone (record m { vote = None }) n
emptied_none m n v e s = none_held v e

gives_empty : (m : Machine) (n : ℕ) (writes : Option Transaction) → (finish_gives m n writes).reply ≡ reply.Empty → IsOther m (finish_gives m n writes).machine n × HoldsNone (finish_gives m n writes).machine n
gives_empty m n None is = (voteless m n true, emptied_none m n)
gives_empty m n (Some t) is = absurd cc

finish_empty : (m : Machine) (n : ℕ) (vote : Option MachineVote) → (finish_step m n vote).reply ≡ reply.Empty → IsOther m (finish_step m n vote).machine n × HoldsNone (finish_step m n vote).machine n
finish_empty m n None is = absurd cc
finish_empty m n (Some v) is = gives_empty m n v.writes is

early_empty : (m : Machine) (n : ℕ) (early : Option Refusal) → (unless_early early m (finish_step m n m.vote)).reply ≡ reply.Empty
    → IsOther m (unless_early early m (finish_step m n m.vote)).machine n × HoldsNone (unless_early early m (finish_step m n m.vote)).machine n
early_empty m n None is = finish_empty m n m.vote is
early_empty m n (Some r) is = absurd cc

abbrev request_step_abort : Machine → ℕ → Stepped
request_step_abort m n = record { reply = reply.Aborted; machine = without_vote m n; ticks = false }

early_aborted : (m : Machine) (n : ℕ) (early : Option Refusal) → (unless_early early m (request_step_abort m n)).reply ≡ reply.Aborted
    → IsOther m (unless_early early m (request_step_abort m n)).machine n × HoldsNone (unless_early early m (request_step_abort m n)).machine n
early_aborted m n None is = (voteless m n (holds_vote n m.vote), dropped_held (holds_vote n m.vote) m.vote n refl)
early_aborted m n (Some r) is = absurd cc

pub votes_end : VotesEnd
votes_end rules m n request.Abort stamp sound ends z entries c x =
    let done = early_aborted m n (early_refusal m n request.Abort) ends in
    served_unvoted m (step_of rules m n request.Abort stamp).machine n sound done.0 done.1 z entries c x
votes_end rules m n request.Finish stamp sound ends z entries c x =
    let done = early_empty m n (early_refusal m n request.Finish) ends in
    served_unvoted m (step_of rules m n request.Finish stamp).machine n sound done.0 done.1 z entries c x
votes_end rules m n _ stamp sound ends z entries c x = absurd ends

-- ---- refusals, and less

pub refusals_serve : RefusalsServe
refusals_serve m n q r sound z entries c x = served_on m (left_by_refusal q r m) n sound (left r) z entries c x
  where
    left : (r : Refusal) → IsOther m (left_by_refusal q r m) n
    left (refusal.Unreadable oid tid) = packless m n
    left (refusal.Overtaken oid tid) = packless m n
    left refusal.ReadFault = by_unanswered (λ k. IsOther m k n) q m (same m n) (packless m n)
    left refusal.Memory = by_unanswered (λ k. IsOther m k n) q m (same m n) (packless m n)
    left refusal.StoreFault = failed_other m n
    left _ = same m n

pub less_serves : LessServes
less_serves m n z y entries before c less x = record {
  knows = x.knows;
  front = less.known ∙ x.front;
  switches = less.switches ∙ x.switches;
  told = x.told;
  quiet = λ oid named own. x.quiet oid (less.news oid named) own;
  votes = x.votes;
  asked = λ oid free. x.asked oid (less.asked oid free);
  each = λ oid e there. x.each oid e (less.entries oid e there);
}
