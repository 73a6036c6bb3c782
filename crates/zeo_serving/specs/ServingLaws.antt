-- What steps keep of a remote client, proved: each step of another session, each front of its own, and what its cache answers.
use Rattle.std.proofs.Common.{◌≡◌, ◌⊎◌, ℕ, ◌+◌, ◌<◌, ◌≤◌, inl, inr, List, [], ◌∷◌, ◌++◌, Option, Some, None, Bool, true, false, filter, refl, ap, sym, ◌∙◌, subst, arith}
use Rattle.std.specs.Prelude.{◌≢◌, ◌||◌, drop, length, not, nat_lt, slice_set, if◌then◌else◌}
use Rattle.std.specs.List.{list_any}
use Rattle.zb_model.specs.declared.data.Transaction.{Transaction}
use Rattle.zb_model.specs.declared.found.Found.{Found}
use Rattle.zb_model.specs.declared.found.Found.TheVariants as found
use Rattle.zb_model.specs.declared.refusal.Refusal.{Refusal}
use Rattle.zb_model.specs.Queries.{found_below}
use Rattle.zodb_core.specs.declared.reply.Reply.TheVariants as reply
use Rattle.zodb_core.specs.declared.request.Request.TheVariants as request
use Rattle.zb_model.specs.declared.refusal.Refusal.TheVariants as refusal
use Rattle.std.proofs.lemmas.Bool.{true≢false}
use Rattle.pack_reach.specs.Packed.{unread}
use Rattle.zodb_core.specs.Steps.{Stepped, early_refusal, loaded, replied, request_step, step_of, unless_early}
use Rattle.zeo_cache.specs.declared.interval.Interval.{Interval}
use Rattle.zb_model.specs.Database.{newest_tid}
use Rattle.zodb_core.specs.declared.request.Request.{Request}
use Rattle.std.proofs.lemmas.List.{drop_all}
use Rattle.zodb_core.specs.declared.journal.JournalEntry.{JournalEntry}
use Rattle.zeo_serving.specs.FrontLaws.{above_read, later_itself, none_there}
use Rattle.zodb_core.specs.Machine.{Machine, MachineVote, Rules, is_news_for, is_open_in, switches_of, told_of, untold}
use Rattle.zodb_core.specs.Outcomes.{Answered, NoMemory, ReadingFailed, StepOutcome, StoreFailed, is_pack, machine_left}
use Rattle.zodb_core.specs.Sound.{Becomes, IsPackWithin, IsSoundMachine, IsSoundVote}
use Rattle.connection_view.specs.Views.{Client, View}
use Rattle.zeo_cache.specs.Intervals.{Intervals, interval_of, kept_end}
use Rattle.zeo_serving.specs.declared.standing.Standing.{Standing}
use Rattle.zeo_serving.specs.HoldLaws.{entries_answer, holds_new, holds_on}
use Rattle.zeo_serving.specs.KnowLaws.{OtherMoves, commits, know_on, packs, stays}
use Rattle.zeo_serving.specs.Laws.{AnswersAreKept, EntriesAnswer, OpeningsServe, OthersKeep, OwnKeep, fresh_client, is_plain}
use Rattle.zeo_serving.specs.OtherLaws.{IsOther, as_it_was, failed_other, left_other, pack_cases, packless, same}
use Rattle.zodb_core.specs.StepCases.{by_pack_step, by_unanswered}
use Rattle.zeo_serving.specs.Serving.{AreBetween, Holds, IsServed, view_at}

pub becomes : (m now : Machine) (n : ℕ) → OtherMoves m now n → Becomes m.list now.list
becomes m now n (stays list entries) = inl (inl list)
becomes m now n (commits other t ne above list entries) = inl (inr (record { newest = t; behind = list; later = above }))
becomes m now n (packs t keep below list entries) = inr (record { tid = t; keep = keep; below = below; is = list })

pub served_on : (m now : Machine) (n : ℕ) → IsSoundMachine m → IsOther m now n → (z : Standing) (entries : Intervals) (c : Client) → IsServed m n z entries c → IsServed now n z entries c
served_on m now n sound other z entries c x = record {
  knows = know_on m now n (λ oid. false) c.known sound.database other.told x.knows other.moves;
  front = x.front;
  switches = x.switches;
  told = x.told;
  quiet = x.quiet;
  votes = λ v t e s w oid h. x.votes v t (other.vote v e s) s w oid h;
  asked = x.asked;
  each = λ oid e h. holds_on c.known m.list now.list (switches_of m.journal) (switches_of now.journal) oid e sound.database x.knows.later (becomes m now n other.moves) (x.each oid e h);
}

pub vote_later : (list : List Transaction) (vote : Option MachineVote) → IsSoundVote list vote → (v : MachineVote) (t : Transaction) → vote ≡ Some v → v.writes ≡ Some t → newest_tid list < t.tid
vote_later list vote sound v t is writes = by_writes v.writes writes (subst (λ (o : Option MachineVote). IsSoundVote list o) is sound)
  where
    by_writes : (o : Option Transaction) → o ≡ Some t → IsSoundVote list (Some (record { session = v.session; writes = o })) → newest_tid list < t.tid
    by_writes o w s = (subst (λ (p : Option Transaction). IsSoundVote list (Some (record { session = v.session; writes = p }))) w s).later

pub others_keep : OthersKeep
others_keep rules m n other q stamp o sound apart z entries c x = served_on m (machine_left rules m other q stamp o) n sound (left_other m n other apart rules q stamp o sound) z entries c x

pub entries_are_answers : EntriesAnswer
entries_are_answers m n z entries c oid front d x low is =
    entries_answer c.known (view_at m) entries oid front d x.each (let k = x.front in omega (arith, low, k)) is

-- ---- answers of the hub

loaded_is : (m : Machine) (oid serial upto : ℕ) (bytes : List ℕ) (end : Option ℕ) (f : Found) → loaded m oid f ≡ reply.Loaded serial bytes end upto → (f ≡ found.Held serial bytes end) × (upto ≡ newest_tid m.list + 1)
loaded_is m oid serial upto bytes end (found.Held s b e) is = (cc, cc)
loaded_is m oid serial upto bytes end (found.Absent s) is = absurd cc
loaded_is m oid serial upto bytes end found.Nothing is = absurd cc

answered_is : (m : Machine) (early : Option Refusal) (oid serial upto : ℕ) (bytes : List ℕ) (end : Option ℕ) (f : Found) → (unless_early early m (replied m (loaded m oid f))).reply ≡ reply.Loaded serial bytes end upto
    → (f ≡ found.Held serial bytes end) × (upto ≡ newest_tid m.list + 1)
answered_is m (Some r) oid serial upto bytes end f is = absurd cc
answered_is m None oid serial upto bytes end f is = loaded_is m oid serial upto bytes end f is

pub answers_are_kept : AnswersAreKept
answers_are_kept rules m n oid front stamp serial upto bytes end sound is z entries before c x low among =
    let found_is = answered_is m (early_refusal m n (request.LoadBefore oid front)) oid serial upto bytes end (found_below oid front m.list) is in
    let known_front = x.front in
    let new : Holds c.known (view_at m) oid (record { serial = serial; bytes = bytes; end = kept_end end upto z.known }) =
    subst (λ (u : ℕ). Holds c.known (view_at m) oid (record { serial = serial; bytes = bytes; end = kept_end end u z.known })) (sym found_is.1)
    (subst (λ (k : ℕ). Holds c.known (view_at m) oid (record { serial = serial; bytes = bytes; end = kept_end end (newest_tid m.list + 1) k })) (sym x.front)
    (holds_new c.known m.list (switches_of m.journal) oid front serial bytes end sound.database x.knows.later (omega (arith, low, known_front)) found_is.0)) in
    record {
      knows = x.knows;
      front = x.front;
      switches = x.switches;
      told = x.told;
      quiet = x.quiet;
      votes = x.votes;
      asked = x.asked;
      each = λ other e there. by_place other e new (among other e there);
    }
  where
    by_place : (other : ℕ) (e : Interval) → Holds c.known (view_at m) oid (record { serial = serial; bytes = bytes; end = kept_end end upto z.known })
        → (interval_of before other ≡ Some e) ⊎ ((other ≡ oid) × (e ≡ record { serial = serial; bytes = bytes; end = kept_end end upto z.known })) → Holds c.known (view_at m) other e
    by_place other e new (inl was) = x.each other e was
    by_place other e new (inr this) = subst (λ (o : ℕ). Holds c.known (view_at m) o e) (sym this.0) (subst (λ (i : Interval). Holds c.known (view_at m) oid i) (sym this.1) new)

-- ---- openings

pub drop_nothing : (m : Machine) (n : ℕ) → told_of n m.sessions ≡ length m.journal → untold m n ≡ []
drop_nothing m n told = ap (λ (k : ℕ). filter (is_news_for n) (drop k m.journal)) told ∙ ap (filter (is_news_for n)) (drop_all (length m.journal) m.journal (omega arith))

pub opening_is_served : OpeningsServe
opening_is_served m n z sound told front switches unvoted = record {
  knows = record {
    told = omega (arith, told);
    later = later_itself (view_at m);
    between = subst (λ (xs : List JournalEntry). AreBetween (newest_tid m.list + 1) (newest_tid m.list + 1) xs) (sym (drop_nothing m n told)) tt;
    quiet = λ oid f mine low until. above_read oid f m.list sound.database low;
    packs = λ none. refl;
  };
  front = front;
  switches = switches;
  told = later_itself (view_at m);
  quiet = λ oid named own. refl;
  votes = λ v t e s w oid h. absurd (unvoted v e s);
  asked = λ oid h. refl;
  each = λ oid e h. absurd (none_there oid e h);
}

-- ---- plain steps of its own

own_made : (m : Machine) (n : ℕ) (rules : Rules) (q : Request) (stamp : ℕ) → is_plain q ≡ true → is_pack q ≡ false → IsOther m (request_step rules m n q stamp).machine n
own_made m n rules (request.LoadBefore oid front) stamp plain unpacked = same m n
own_made m n rules (request.NewOids count) stamp plain unpacked = as_it_was m n _ (refl, refl, refl, refl)
own_made m n rules (request.History oid) stamp plain unpacked = same m n
own_made m n rules request.UndoLog stamp plain unpacked = same m n
own_made m n rules (request.Pack tid collect) stamp plain unpacked = absurd (true≢false unpacked)
own_made m n rules (request.PackBegin tid collect) stamp plain unpacked = absurd (true≢false unpacked)
own_made m n rules request.PackTurn stamp plain unpacked = absurd (true≢false unpacked)
own_made m n rules request.Last stamp plain unpacked = same m n
own_made m n rules (request.Since tid changes) stamp plain unpacked = same m n
own_made m n rules request.Front stamp plain unpacked = absurd (true≢false (sym plain))
own_made m n rules (request.Vote user description extension pending) stamp plain unpacked = absurd (true≢false (sym plain))
own_made m n rules (request.Undo user description tids) stamp plain unpacked = absurd (true≢false (sym plain))
own_made m n rules request.Finish stamp plain unpacked = absurd (true≢false (sym plain))
own_made m n rules request.Abort stamp plain unpacked = absurd (true≢false (sym plain))
own_made m n rules request.Close stamp plain unpacked = absurd (true≢false (sym plain))

pub own_early : (m : Machine) (n : ℕ) (early : Option Refusal) (made : Stepped) → IsOther m made.machine n → IsOther m (unless_early early m made).machine n
own_early m n None made is = is
own_early m n (Some r) made is = same m n

own_step : (m : Machine) (n : ℕ) (rules : Rules) (q : Request) (stamp : ℕ) → is_plain q ≡ true → IsPackWithin m.list m.pack → (b : Bool) → is_pack q ≡ b → IsOther m (step_of rules m n q stamp).machine n
own_step m n rules q stamp plain within true packing = by_pack_step (λ s. IsOther m s.machine n) rules m n q stamp packing (pack_cases m n n rules.named q within)
own_step m n rules q stamp plain within false packing = own_early m n (early_refusal m n q) (request_step rules m n q stamp) (own_made m n rules q stamp plain packing)

own_left : (m : Machine) (n : ℕ) (rules : Rules) (q : Request) (stamp : ℕ) (o : StepOutcome) → is_plain q ≡ true → IsPackWithin m.list m.pack → IsOther m (machine_left rules m n q stamp o) n
own_left m n rules q stamp Answered plain within = own_step m n rules q stamp plain within (is_pack q) refl
own_left m n rules q stamp ReadingFailed plain within = by_unanswered (λ x. IsOther m x n) q m (same m n) (packless m n)
own_left m n rules q stamp NoMemory plain within = by_unanswered (λ x. IsOther m x n) q m (same m n) (packless m n)
own_left m n rules q stamp StoreFailed plain within = failed_other m n

pub own_keep : OwnKeep
own_keep rules m n q stamp o sound plain z entries c x = served_on m (machine_left rules m n q stamp o) n sound (own_left m n rules q stamp o plain sound.within) z entries c x
