-- What a commit of its own and the fronts behind it leave of a remote client.
use Rattle.std.proofs.Common.{◌≡◌, ℕ, ◌+◌, ◌<◌, ◌≤◌, ◌^◌, max, Bool, true, false, cond, List, [], ◌++◌, Option, Some, None, refl, sym, ap, subst, ◌∙◌, arith}
use Rattle.std.specs.Prelude.{◌||◌}
use Rattle.std.specs.List.{AllByRecursion}
use Rattle.std.proofs.lemmas.Bool.{true≢false}
use Rattle.zb_model.specs.declared.news.News.{News}
use Rattle.zb_model.specs.declared.news.NewsCommit.{NewsCommit}
use Rattle.zb_model.specs.declared.refusal.Refusal.{Refusal}
use Rattle.zb_model.specs.declared.refusal.Refusal.TheVariants as refusal
use Rattle.zb_model.specs.Database.{newest_tid}
use Rattle.zodb_core.specs.declared.reply.Reply.TheVariants as reply
use Rattle.zodb_core.specs.declared.request.Request.TheVariants as request
use Rattle.zodb_core.specs.Machine.{Machine, Rules, news_of, switches_of, untold}
use Rattle.zodb_core.specs.Outcomes.{Answered, EndsFor, FaultCounts, IsStepMade, NoMemory, ReadingFailed, StepOutcome, StoreFailed, machine_left, outcome_of}
use Rattle.zodb_core.specs.Sound.{IsSoundMachine}
use Rattle.zodb_core.specs.SoundLaws.{left_sound}
use Rattle.zodb_core.specs.Steps.{Stepped, early_refusal, front_step, step_of, unless_early}
use Rattle.connection_view.specs.Views.{Client, are_changed, committed, is_news_of, view_of}
use Rattle.zeo_messages.specs.declared.answer.Answer.TheVariants as answers
use Rattle.zeo_messages.specs.declared.call.Call.TheVariants as calls
use Rattle.zeo_news.specs.Notices.{notices_of}
use Rattle.zeo_cache.specs.Intervals.{CachedIntervals, Intervals, interval_of}
use Rattle.zeo_serving.specs.declared.standing.Standing.{Standing}
use Rattle.zeo_serving.specs.CommitLaws.{commits_deliver, commits_serve}
use Rattle.zeo_serving.specs.Entries.{AreAmong}
use Rattle.zeo_serving.specs.FrontLaws.{both_false, changed_left, changed_right, fronts_deliver, left_false, right_false}
use Rattle.zeo_serving.specs.Laws.{AreDropped, TellsAll, nothing_asked}
use Rattle.zeo_serving.specs.MayLaws.{answered_step, server_whole, shut_step, step_failed}
use Rattle.zeo_serving.specs.Serving.{IsDelivered, IsServed, IsServedBehind, MayBeServed, asks_for, news_behind, server_at, told_client, view_at}
use Rattle.zeo_serving.specs.VoteLaws.{less_serves}
use Rattle.zeo_client.specs.Hearing.{Held, IsAnswerHeard}
use Rattle.zeo_client.specs.SyncLaws.{HearsAll, IsNewsHeard, behind_unnamed, front_parts, news_is_heard, told_below}
use Rattle.remote_loads.specs.Carrying.{IsMachineStep}
use Rattle.remote_loads.specs.KnownLaws.{whole_same}
use Rattle.remote_loads.proofs.Loading.{MayBeAt}

-- ---- a client behind its commit

-- and before it takes a front: the entries of what it asked for are dropped
pub record IsBehind (m : Machine) (n : ℕ) (h : Held) (c : Client) : Type 0 where
  pub whole : m.failed ≡ false
  pub sound : IsSoundMachine m
  pub before : Intervals
  pub served : IsServedBehind m n h.standing before c
  pub dropped : AreDropped h.standing h.cache.entries before
  pub low : h.standing.known ≤ newest_tid m.list + 1

-- One that is to take a front, and asks for nothing: what a front delivers to a standing and to entries that are no less than its own is what it knows.
pub record IsNearly (m : Machine) (n : ℕ) (h : Held) (c : Client) : Type 0 where
  pub whole : m.failed ≡ false
  pub sound : IsSoundMachine m
  pub standing : Standing
  pub entries : Intervals
  pub delivers : (rules : Rules) (stamp front switches : ℕ) (news : News) → (step_of rules m n request.Front stamp).reply ≡ reply.Front front news switches → (left : Intervals) → IsDelivered news left entries
      → IsServed (step_of rules m n request.Front stamp).machine n (told_client standing front switches news) left (committed (view_at m) c)
  pub below : AllByRecursion (λ k. k.tid < newest_tid m.list + 1) (news_of (untold m n)).commits
  pub low : h.standing.known ≤ newest_tid m.list + 1
  pub names : TellsAll h.standing.news standing.news
  pub asked : (oid : ℕ) → asks_for standing.asked oid ≡ false
  pub among : AreAmong h.cache.entries entries

-- the client asks for nothing
abbrev pub freed : Held → Held
freed h = record h { standing = nothing_asked h.standing }

-- ---- steps of a machine that is whole

-- a machine that is whole stays so in a step that is answered
pub answered_left : (m : Machine) (n : ℕ) (q : _) (rules : Rules) (stamp : ℕ) (made : Stepped) → m.failed ≡ false → made ≡ step_of rules m n q stamp → made.machine.failed ≡ false
answered_left m n q rules stamp made whole is = ap (λ (s : Stepped). s.machine.failed) is ∙ step_failed rules m n q stamp ∙ whole

front_not : (m : Machine) (n : ℕ) (why : Refusal) (early : Option Refusal) → (unless_early early m (front_step m n)).reply ≡ reply.Refused why → (unless_early early m (front_step m n)).machine ≡ m
front_not m n why None is = absurd cc
front_not m n why (Some r) is = refl

-- a front that is refused leaves it as it was
pub front_refused : (rules : Rules) (m : Machine) (n stamp : ℕ) (made : Stepped) (before after : FaultCounts) (why : Refusal) → IsStepMade rules m n request.Front stamp made before after → made.reply ≡ reply.Refused why → made.machine ≡ m
front_refused rules m n stamp made before after why step is = by_outcome (outcome_of made.reply) step.cause step.left
  where
    never : false ≡ true → ⊥
    never same = true≢false (sym same)

    by_outcome : (o : StepOutcome) → EndsFor rules m n request.Front stamp made before after o → made.machine ≡ machine_left rules m n request.Front stamp o → made.machine ≡ m
    by_outcome Answered cause left = left ∙ front_not m n why (early_refusal m n request.Front) (sym (ap (λ (s : Stepped). s.reply) cause) ∙ is)
    by_outcome ReadingFailed cause left = left
    by_outcome NoMemory cause left = left
    by_outcome StoreFailed cause left = absurd (never cause.0.one)

-- whoever is served at a machine that is whole may be the one there
pub served_may : (m : Machine) (n : ℕ) (z : Standing) (entries : Intervals) (c : Client) → m.failed ≡ false → IsSoundMachine m → c.known.front < 2 ^ 64 → c.known.switches < 2 ^ 64 → IsServed m n z entries c → MayBeServed m n z entries c
served_may m n z entries c whole sound front switches x =
    record { at = m; sound = sound; served = x; whole = λ is. refl; shut = λ broke. absurd (true≢false (sym broke ∙ whole)); front = front; switches = switches }

-- ---- the commit

module _ (m : Machine) (n tid : ℕ) (now : Machine) (old mid : Held) (c : Client) (step : IsMachineStep m n request.Finish (reply.Committed tid) now) (may : MayBeAt m n old c) (dropped : AreDropped old.standing mid.cache.entries old.cache.entries) (same : mid.standing ≡ old.standing) where
  abbrev made : Stepped
  made = record { reply = reply.Committed tid; machine = step.left; ticks = step.ticks }

  never : reply.Committed tid ≡ reply.Refused refusal.NotOpen → ⊥
  never is = absurd cc

  is_whole : m.failed ≡ false
  is_whole = by_failed m.failed refl
    where
      by_failed : (b : Bool) → m.failed ≡ b → m.failed ≡ false
      by_failed false is = is
      by_failed true broke = absurd (never (shut_step step.rules m n request.Finish step.stamp made step.before step.after (may.shut broke) step.made).reply)

  said : made ≡ step_of step.rules m n request.Finish step.stamp
  said = answered_step step.rules m n request.Finish step.stamp made step.before step.after (reply.Committed tid) step.made refl refl

  sound_at : IsSoundMachine m
  sound_at = subst (λ (k : Machine). IsSoundMachine k) (may.whole is_whole) may.sound

  served_at : IsServed m n old.standing old.cache.entries c
  served_at = subst (λ (k : Machine). IsServed k n old.standing old.cache.entries c) (may.whole is_whole) may.served

  behind_at : IsServedBehind (step_of step.rules m n request.Finish step.stamp).machine n old.standing old.cache.entries c
  behind_at = commits_serve step.rules m n tid step.stamp sound_at (sym (ap (λ (s : Stepped). s.reply) said)) old.standing old.cache.entries c served_at

  behind_step : IsBehind (step_of step.rules m n request.Finish step.stamp).machine n mid c
  behind_step = record {
    whole = step_failed step.rules m n request.Finish step.stamp ∙ is_whole;
    sound = left_sound step.rules m n request.Finish step.stamp Answered sound_at tt;
    before = old.cache.entries;
    served = subst (λ (z : Standing). IsServedBehind (step_of step.rules m n request.Finish step.stamp).machine n z old.cache.entries c) (sym same) behind_at;
    dropped = subst (λ (z : Standing). AreDropped z mid.cache.entries old.cache.entries) (sym same) dropped;
    low =
        let known : mid.standing.known ≡ c.known.front = ap (λ (z : Standing). z.known) same ∙ served_at.front in
        let later = behind_at.knows.later.front in
        omega (arith, known, later);
  }

  pub commit_leaves : IsBehind now n mid c
  commit_leaves =
      let left_is : step.left ≡ (step_of step.rules m n request.Finish step.stamp).machine = ap (λ (s : Stepped). s.machine) said in
      let whole_left : step.left.failed ≡ false = ap (λ (k : Machine). k.failed) left_is ∙ behind_step.whole in
      subst (λ (k : Machine). IsBehind k n mid c) (sym (whole_same step.left now step.known whole_left ∙ left_is)) behind_step

-- ---- news that was heard

-- the entries that a front delivers, no less than those that are left
pub record IsLeft (news : News) (now before : Intervals) : Type 0 where
  pub left : Intervals
  pub delivered : IsDelivered news left before
  pub among : AreAmong now left

pub heard_left : (front : ℕ) (news : News) (old new : Held) (entries : Intervals) → IsNewsHeard front news old new → AreAmong old.cache.entries entries → IsLeft news new.cache.entries entries
heard_left front news old new entries told among = by_gone (news.forget || news.packed) refl
  where
    by_gone : (b : Bool) → (news.forget || news.packed) ≡ b → IsLeft news new.cache.entries entries
    by_gone true gone = record { left = []; delivered = ((λ none. absurd (true≢false (sym gone ∙ none))), (λ some. refl)); among = told.emptied gone }
    by_gone false stay = record {
      left = new.cache.entries;
      delivered = (
        (λ none oid e there. let came = told.closed stay oid e there in record { was = came.was; there = among oid came.was came.there; is = came.is }),
        (λ some. absurd (true≢false (sym some ∙ stay))),
      );
      among = λ oid e there. there;
    }

changed_if : (b : Bool) (xs ys : List NewsCommit) (oid : ℕ) → b ≡ false → are_changed (cond b [] (xs ++ ys)) oid ≡ false → are_changed (xs ++ ys) oid ≡ false
changed_if true xs ys oid none is = absurd (true≢false none)
changed_if false xs ys oid none is = is

-- news that names more names more behind other news, too
behind_more : (a b k : News) → TellsAll a b → TellsAll (news_behind a k) (news_behind b k)
behind_more a b k more oid none =
    let first = left_false ((a.forget || k.forget) || (a.packed || k.packed)) (are_changed (news_behind a k).commits oid) none in
    let forget = left_false (a.forget || k.forget) (a.packed || k.packed) first in
    let packed = right_false (a.forget || k.forget) (a.packed || k.packed) first in
    let changed = changed_if (a.forget || k.forget) a.commits k.commits oid forget (right_false ((a.forget || k.forget) || (a.packed || k.packed)) (are_changed (news_behind a k).commits oid) none) in
    let of_a : is_news_of a oid ≡ false = both_false (a.forget || a.packed) (are_changed a.commits oid) (both_false a.forget a.packed (left_false a.forget k.forget forget) (left_false a.packed k.packed packed)) (changed_left a.commits k.commits oid changed) in
    behind_unnamed b k oid (right_false a.forget k.forget forget) (right_false a.packed k.packed packed) (more oid of_a) (changed_right a.commits k.commits oid changed)

-- ---- the front behind the commit, whose news is heard before the commit is answered

below_front : (m : Machine) (n front : ℕ) (news : News) (rules : Rules) (stamp switches : ℕ) → (step_of rules m n request.Front stamp).reply ≡ reply.Front front news switches
    → AllByRecursion (λ k. k.tid < newest_tid m.list + 1) (news_of (untold m n)).commits → (front ≡ newest_tid m.list + 1) × AllByRecursion (λ k. k.tid < front) news.commits
below_front m n front news rules stamp switches answer below =
    let parts = front_parts m n front switches news (early_refusal m n request.Front) answer in
    (parts.0, subst (λ (w : News). AllByRecursion (λ k. k.tid < front) w.commits) (sym parts.1) (subst (λ (f : ℕ). AllByRecursion (λ k. k.tid < f) (news_of (untold m n)).commits) (sym parts.0) below))

front_list : (m : Machine) (n front switches : ℕ) (news : News) (early : Option Refusal) → (unless_early early m (front_step m n)).reply ≡ reply.Front front news switches → (unless_early early m (front_step m n)).machine.list ≡ m.list
front_list m n front switches news (Some r) is = absurd cc
front_list m n front switches news None is = refl

front_journal : (m : Machine) (n front switches : ℕ) (news : News) (early : Option Refusal) → (unless_early early m (front_step m n)).reply ≡ reply.Front front news switches → (unless_early early m (front_step m n)).machine.journal ≡ m.journal
front_journal m n front switches news (Some r) is = absurd cc
front_journal m n front switches news None is = refl

module _ (m : Machine) (n : ℕ) (h : Held) (c : Client) (x : IsBehind m n h c) where
  below : AllByRecursion (λ k. k.tid < newest_tid m.list + 1) (news_of (untold m n)).commits
  below = told_below c.known.front (newest_tid m.list + 1) (untold m n) x.served.knows.between

  -- where no front was made
  pub behind_nearly : IsNearly m n (freed h) c
  behind_nearly = record {
    whole = x.whole;
    sound = x.sound;
    standing = nothing_asked h.standing;
    entries = h.cache.entries;
    delivers = λ rules stamp front switches news answer left delivered. commits_deliver rules m n front switches stamp news x.sound answer h.standing x.before h.cache.entries left c x.served x.dropped delivered;
    below = below;
    low = x.low;
    names = λ oid none. none;
    asked = λ oid. refl;
    among = λ oid e there. there;
  }

  -- and where it was, and its news was heard
  module _ (rules : Rules) (stamp front switches : ℕ) (news : News) (answer : (step_of rules m n request.Front stamp).reply ≡ reply.Front front news switches) (new : Held) (heard : HearsAll (notices_of front news) h new) where
    abbrev next : Machine
    next = (step_of rules m n request.Front stamp).machine

    high : front ≡ newest_tid m.list + 1
    high = (below_front m n front news rules stamp switches answer below).0

    told : IsNewsHeard front news h new
    told = let low = x.low in let f = high in news_is_heard front news h new (below_front m n front news rules stamp switches answer below).1 (omega (arith, low, f)) heard

    left_is : IsLeft news new.cache.entries h.cache.entries
    left_is = heard_left front news h new h.cache.entries told (λ oid e there. there)

    abbrev standing_told : Standing
    standing_told = told_client (nothing_asked h.standing) front switches news

    told_served : IsServed next n standing_told left_is.left (committed (view_at m) c)
    told_served = commits_deliver rules m n front switches stamp news x.sound answer h.standing x.before h.cache.entries left_is.left c x.served x.dropped left_is.delivered

    sound_next : IsSoundMachine next
    sound_next = left_sound rules m n request.Front stamp Answered x.sound tt

    pub front_nearly : IsNearly next n (freed new) c
    front_nearly = record {
      whole = step_failed rules m n request.Front stamp ∙ x.whole;
      sound = sound_next;
      standing = standing_told;
      entries = left_is.left;
      delivers = λ by at front switches news answer left delivered.
          fronts_deliver by next n front switches at news sound_next answer standing_told left_is.left left (committed (view_at m) c) told_served delivered;
      below = told_below (newest_tid m.list + 1) (newest_tid next.list + 1) (untold next n) told_served.knows.between;
      low =
          let same : newest_tid next.list ≡ newest_tid m.list = ap newest_tid (front_list m n front switches news (early_refusal m n request.Front) answer) in
          let known = told.known in
          let f = high in
          omega (arith, same, known, f);
      names = told.names;
      asked = λ oid. refl;
      among = left_is.among;
    }

-- ---- a front that is answered by itself

module _ (m : Machine) (n : ℕ) (now : Machine) (c : Client) (old mid new : Held) (front switches : ℕ) (news : News) (step : IsMachineStep m n request.Front (reply.Front front news switches) now) (x : IsNearly m n old c) (few : switches < 2 ^ 64) (heard : HearsAll (notices_of front news) old mid) (sync : IsAnswerHeard (Some calls.Sync) (answers.TidAndCount front switches) mid new) where
  abbrev asked_step : Stepped
  asked_step = record { reply = reply.Front front news switches; machine = step.left; ticks = step.ticks }

  is_step : asked_step ≡ step_of step.rules m n request.Front step.stamp
  is_step = answered_step step.rules m n request.Front step.stamp asked_step step.before step.after (reply.Front front news switches) step.made refl refl

  answer : (step_of step.rules m n request.Front step.stamp).reply ≡ reply.Front front news switches
  answer = sym (ap (λ (s : Stepped). s.reply) is_step)

  parts : (front ≡ newest_tid m.list + 1) × AllByRecursion (λ k. k.tid < front) news.commits
  parts = below_front m n front news step.rules step.stamp switches answer x.below

  packs : switches ≡ switches_of m.journal
  packs = by_early (early_refusal m n request.Front) answer
    where
      by_early : (early : Option Refusal) → (unless_early early m (front_step m n)).reply ≡ reply.Front front news switches → switches ≡ switches_of m.journal
      by_early (Some r) is = absurd cc
      by_early None is = cc

  heard_news : IsNewsHeard front news old mid
  heard_news = let low = x.low in let f = parts.0 in news_is_heard front news old mid parts.1 (omega (arith, low, f)) heard

  left_there : IsLeft news mid.cache.entries x.entries
  left_there = heard_left front news old mid x.entries heard_news x.among

  abbrev there : Machine
  there = (step_of step.rules m n request.Front step.stamp).machine

  served_there : IsServed there n new.standing new.cache.entries (committed (view_at m) c)
  served_there =
      let known : new.standing.known ≡ max mid.standing.known front = ap (λ (s : Standing). s.known) sync.1 in
      let top = heard_news.known in
      less_serves there n new.standing (told_client x.standing front switches news) new.cache.entries left_there.left (committed (view_at m) c) (record {
        known = omega (arith, known, top);
        switches = ap (λ (s : Standing). s.switches) sync.1;
        news = λ oid none. behind_more old.standing.news x.standing.news news x.names oid (heard_news.names oid (subst (λ (w : News). is_news_of w oid ≡ false) (ap (λ (s : Standing). s.news) sync.1) none));
        asked = λ oid none. x.asked oid;
        entries = λ oid e at. left_there.among oid e (subst (λ (k : CachedIntervals). interval_of k.entries oid ≡ Some e) sync.0 at);
      }) (x.delivers step.rules step.stamp front switches news answer left_there.left left_there.delivered)

  whole_there : there.failed ≡ false
  whole_there = step_failed step.rules m n request.Front step.stamp ∙ x.whole

  now_there : now ≡ there
  now_there =
      let left_same : step.left ≡ there = ap (λ (s : Stepped). s.machine) is_step in
      whole_same step.left now step.known (ap (λ (k : Machine). k.failed) left_same ∙ whole_there) ∙ left_same

  may_there : MayBeAt there n new (committed (view_at m) c)
  may_there =
      let b = x.sound.database.bounded in
      served_may there n new.standing new.cache.entries (committed (view_at m) c) whole_there (left_sound step.rules m n request.Front step.stamp Answered x.sound tt)
      (omega (arith, b)) (subst (λ (k : ℕ). k < 2 ^ 64) packs few) served_there

  view_there : view_of (server_at there) ≡ view_at m
  view_there =
      ap view_of (server_whole there whole_there)
      ∙ ap (λ (list : _). record { front = newest_tid list + 1; list = list; switches = switches_of there.journal }) (front_list m n front switches news (early_refusal m n request.Front) answer)
      ∙ ap (λ (journal : _). record { front = newest_tid m.list + 1; list = m.list; switches = switches_of journal }) (front_journal m n front switches news (early_refusal m n request.Front) answer)

  -- the client knows the list as it stands
  pub nearly_syncs : MayBeAt now n new (committed (view_of (server_at now)) c)
  nearly_syncs =
      subst (λ (k : Machine). MayBeAt k n new (committed (view_of (server_at k)) c)) (sym now_there)
      (subst (λ (v : _). MayBeAt there n new (committed v c)) (sym view_there) may_there)
