-- What a client that hears the news and the answer of a front knows from then on, and what it may keep. For the proofs of those who carry messages.
use Rattle.std.proofs.Common.{◌≡◌, ◌⊎◌, ℕ, ◌+◌, ◌<◌, ◌≤◌, max, inl, inr, List, [], ◌∷◌, ◌++◌, map, Option, Some, None, Bool, true, false, cond, refl, ap, sym, ◌∙◌, subst, arith, ⊎_elim}
use Rattle.std.specs.Prelude.{◌||◌, ◌-◌, ◌^◌, length, nat_eq, nat_le, nat_lt}
use Rattle.std.specs.List.{AllByRecursion, filter_map}
use Rattle.std.specs.Option.{option_map}
use Rattle.std.proofs.lemmas.Bool.{cases_Bool, eqb-false, eqb-true, true≢false, le-leb}
use Rattle.zb_model.specs.declared.data.Transaction.{Transaction}
use Rattle.zb_model.specs.declared.news.News.{News}
use Rattle.zb_model.specs.declared.news.NewsCommit.{NewsCommit}
use Rattle.zb_model.specs.declared.refusal.Refusal.{Refusal}
use Rattle.zb_model.specs.Database.{newest_tid}
use Rattle.zodb_core.specs.declared.journal.JournalEntry.{JournalEntry}
use Rattle.zodb_core.specs.declared.journal.JournalEntry.TheVariants as journal
use Rattle.zodb_core.specs.declared.reply.Reply.TheVariants as reply
use Rattle.zodb_core.specs.declared.request.Request.TheVariants as request
use Rattle.zodb_core.specs.Machine.{Machine, Rules, commit_in, news_limit, news_of, untold}
use Rattle.zodb_core.specs.Sound.{IsSoundMachine}
use Rattle.zodb_core.specs.Steps.{early_refusal, front_step, step_of, unless_early}
use Rattle.connection_view.specs.Views.{Client, View, are_changed, is_news_of, is_one_of}
use Rattle.zeo_messages.specs.declared.answer.Answer.TheVariants as answers
use Rattle.zeo_messages.specs.declared.call.Call.TheVariants as calls
use Rattle.zeo_messages.specs.declared.message.Notice.{Notice}
use Rattle.zeo_messages.specs.declared.message.Notice.TheVariants.{Invalidate, Forget, Packed}
use Rattle.zeo_news.specs.Notices.{commit_notice, first_notices, fits_frame, notices_of}
use Rattle.zeo_cache.specs.declared.interval.Interval.{Interval}
use Rattle.zeo_cache.specs.Intervals.{CachedIntervals, HoldsAlso, Intervals, interval_of, kept_end}
use Rattle.zeo_serving.specs.declared.standing.MayChange.{MayChange}
use Rattle.zeo_serving.specs.declared.standing.Standing.{Standing}
use Rattle.zeo_serving.specs.Entries.{AreAmong, AreAmongOr, CameBy, Changes}
use Rattle.zeo_serving.specs.FrontLaws.{both_false, changed_left, changed_right, fronts_deliver, left_false, right_false}
use Rattle.zeo_serving.specs.Laws.{IsLess, TellsAll}
use Rattle.zeo_serving.specs.Serving.{AreBetween, IsDelivered, IsServed, closed_by, news_behind, synced, told_client, view_at}
use Rattle.zeo_serving.specs.ServingLaws.{answers_are_kept}
use Rattle.zeo_serving.specs.VoteLaws.{less_serves}
use Rattle.zeo_client.specs.Hearing.{ChangedBy, Held, IsAnswerHeard, IsNewsKept, IsNoticed, closed_all, front_behind, news_told}

-- ---- the laws

-- notices that are heard, one after another
abbrev pub HearsAll : List Notice → Held → Held → Type 0
HearsAll [] old new = new ≡ old
HearsAll (notice ∷ notices) old new = (mid : Held) × IsNoticed notice old mid × HearsAll notices mid new

-- Behind a front of its session, whose news was heard and then its answer, the client knows the list as it stands.
abbrev pub SyncsServe : Type 0
SyncsServe =
    (rules : Rules) (m : Machine) (n front switches stamp : ℕ) (news : News) → IsSoundMachine m → (step_of rules m n request.Front stamp).reply ≡ reply.Front front news switches
    → (old mid new : Held) (c : Client) → IsServed m n old.standing old.cache.entries c → HearsAll (notices_of front news) old mid
    → IsAnswerHeard (Some calls.Sync) (answers.TidAndCount front switches) mid new
    → IsServed (step_of rules m n request.Front stamp).machine n new.standing new.cache.entries (synced (view_at m) c)

-- And where a revision was loaded below a known front and its answer was heard, the client is the one that it was.
abbrev pub LoadsServe : Type 0
LoadsServe =
    (rules : Rules) (m : Machine) (n oid front stamp serial upto : ℕ) (bytes : List ℕ) (end : Option ℕ) → IsSoundMachine m
    → (step_of rules m n (request.LoadBefore oid front) stamp).reply ≡ reply.Loaded serial bytes end upto
    → (old new : Held) (c : Client) → IsServed m n old.standing old.cache.entries c → front ≤ old.standing.known
    → IsAnswerHeard (Some (calls.LoadBefore oid front)) (answers.Loaded bytes serial end upto) old new → IsServed m n new.standing new.cache.entries c

-- ---- entries

none_there : (oid : ℕ) (e : Interval) → interval_of [] oid ≡ Some e → ⊥
none_there oid e is = absurd cc

mapped_none : (f : Interval → Interval) (e : Interval) → option_map f None ≡ Some e → ⊥
mapped_none f e is = absurd cc

came_option : (f : Interval → Interval) (o : Option Interval) (e : Interval) → option_map f o ≡ Some e → (was : Interval) × (o ≡ Some was) × (e ≡ f was)
came_option f None e is = absurd (mapped_none f e is)
came_option f (Some was) e is = let k : f was ≡ e = cc in (was, refl, sym k)

commits_close : (front : ℕ) (commits : List NewsCommit) (old new : Held) → HearsAll (map (commit_notice front) commits) old new → Changes (closed_by commits) new.cache.entries old.cache.entries
commits_close front [] old new is oid e there =
    record { was = e; there = subst (λ (h : Held). interval_of h.cache.entries oid ≡ Some e) is there; is = refl }
commits_close front (c ∷ commits) old new is oid e there = by_fits (fits_frame (Invalidate c.tid c.oids)) (λ mid heard. commits_close front commits mid new heard oid e there) is
  where
    by_fits : (b : Bool) → ((mid : Held) → HearsAll (map (commit_notice front) commits) mid new → CameBy (closed_by commits) mid.cache.entries oid e)
        → HearsAll (cond b (Invalidate c.tid c.oids) (Forget front) ∷ map (commit_notice front) commits) old new → CameBy (closed_by (c ∷ commits)) old.cache.entries oid e
    by_fits true later heard =
        let mid : Held = heard.0 in
        let rest : CameBy (closed_by commits) mid.cache.entries oid e = later mid heard.2 in
        let closed : ChangedBy (closed_all c.oids c.tid) old.cache.entries mid.cache.entries = heard.1.cache.0 in
        let came = came_option (closed_all c.oids c.tid oid) (interval_of old.cache.entries oid) rest.was (sym (closed.each oid) ∙ rest.there) in
        record { was = came.0; there = came.1; is = rest.is ∙ ap (closed_by commits oid) came.2 }
    by_fits false later heard =
        let mid : Held = heard.0 in
        let rest : CameBy (closed_by commits) mid.cache.entries oid e = later mid heard.2 in
        let empty : mid.cache.entries ≡ [] = heard.1.cache.0 in
        absurd (none_there oid rest.was (subst (λ (es : Intervals). interval_of es oid ≡ Some rest.was) empty rest.there))

emptied : (front : ℕ) (commits : List NewsCommit) (old new : Held) → old.cache.entries ≡ [] → HearsAll (map (commit_notice front) commits) old new → AreAmong new.cache.entries []
emptied front commits old new empty is oid e there =
    let came : CameBy (closed_by commits) old.cache.entries oid e = commits_close front commits old new is oid e there in
    absurd (none_there oid came.was (subst (λ (es : Intervals). interval_of es oid ≡ Some came.was) empty came.there))

-- ---- news

all_is_news : (news : News) (oid : ℕ) → news.forget ≡ true → is_news_of news oid ≡ false → ⊥
all_is_news news oid all is = true≢false (sym all ∙ left_false news.forget news.packed (left_false (news.forget || news.packed) (are_changed news.commits oid) is))

pack_is_news : (news : News) (oid : ℕ) → news.packed ≡ true → is_news_of news oid ≡ false → ⊥
pack_is_news news oid all is = true≢false (sym all ∙ right_false news.forget news.packed (left_false (news.forget || news.packed) (are_changed news.commits oid) is))

-- what isn't news behind a notice was none before it
told_before : (notice : Notice) (old : News) (oid : ℕ) → is_news_of (news_told notice old) oid ≡ false → is_news_of old oid ≡ false
told_before (Invalidate tid oids) old oid is = by_cases old.forget refl is
  where
    more : News
    more = record old { commits = old.commits ++ record { tid = tid; oids = oids } ∷ [] }

    by_cases : (b : Bool) → old.forget ≡ b → is_news_of (cond b old more) oid ≡ false → is_news_of old oid ≡ false
    by_cases true all none = none
    by_cases false all none =
        both_false (old.forget || old.packed) (are_changed old.commits oid)
        (left_false (old.forget || old.packed) (are_changed (old.commits ++ record { tid = tid; oids = oids } ∷ []) oid) none)
        (changed_left old.commits (record { tid = tid; oids = oids } ∷ []) oid (right_false (old.forget || old.packed) (are_changed (old.commits ++ record { tid = tid; oids = oids } ∷ []) oid) none))
told_before (Forget front) old oid is = absurd (all_is_news (record old { forget = true; commits = [] }) oid refl is)
told_before (Packed tid) old oid is = absurd (pack_is_news (record old { packed = true }) oid refl is)

-- and an object that a commit names is news
told_named : (tid : ℕ) (oids : List ℕ) (old : News) (oid : ℕ) → is_news_of (news_told (Invalidate tid oids) old) oid ≡ false → is_one_of oids oid ≡ false
told_named tid oids old oid is = by_cases old.forget refl is
  where
    more : News
    more = record old { commits = old.commits ++ record { tid = tid; oids = oids } ∷ [] }

    by_cases : (b : Bool) → old.forget ≡ b → is_news_of (cond b old more) oid ≡ false → is_one_of oids oid ≡ false
    by_cases true all none = absurd (all_is_news old oid all none)
    by_cases false all none =
        left_false (is_one_of oids oid) false
        (changed_right old.commits (record { tid = tid; oids = oids } ∷ []) oid (right_false (old.forget || old.packed) (are_changed (old.commits ++ record { tid = tid; oids = oids } ∷ []) oid) none))

kept_news : (told kept : News) (oid : ℕ) → IsNewsKept told kept → is_news_of kept oid ≡ false → is_news_of told oid ≡ false
kept_news told kept oid (inl same) is = subst (λ (w : News). is_news_of w oid ≡ false) same is
kept_news told kept oid (inr all) is = absurd (all_is_news kept oid (ap (λ (w : News). w.forget) all) is)

commits_told : (front : ℕ) (commits : List NewsCommit) (old new : Held) (oid : ℕ) → HearsAll (map (commit_notice front) commits) old new → is_news_of new.standing.news oid ≡ false
    → (is_news_of old.standing.news oid ≡ false) × (are_changed commits oid ≡ false)
commits_told front [] old new oid is none = (subst (λ (h : Held). is_news_of h.standing.news oid ≡ false) is none, refl)
commits_told front (c ∷ commits) old new oid is none = by_fits (fits_frame (Invalidate c.tid c.oids)) (λ mid heard. commits_told front commits mid new oid heard none) is
  where
    by_fits : (b : Bool) → ((mid : Held) → HearsAll (map (commit_notice front) commits) mid new → (is_news_of mid.standing.news oid ≡ false) × (are_changed commits oid ≡ false))
        → HearsAll (cond b (Invalidate c.tid c.oids) (Forget front) ∷ map (commit_notice front) commits) old new
        → (is_news_of old.standing.news oid ≡ false) × ((is_one_of c.oids oid || are_changed commits oid) ≡ false)
    by_fits true later heard =
        let mid : Held = heard.0 in
        let rest = later mid heard.2 in
        let told : is_news_of (news_told (Invalidate c.tid c.oids) old.standing.news) oid ≡ false = kept_news _ mid.standing.news oid heard.1.news rest.0 in
        (told_before (Invalidate c.tid c.oids) old.standing.news oid told, both_false (is_one_of c.oids oid) (are_changed commits oid) (told_named c.tid c.oids old.standing.news oid told) rest.1)
    by_fits false later heard =
        let mid : Held = heard.0 in
        let rest = later mid heard.2 in
        let told : is_news_of (news_told (Forget front) old.standing.news) oid ≡ false = kept_news _ mid.standing.news oid heard.1.news rest.0 in
        absurd (all_is_news (news_told (Forget front) old.standing.news) oid refl told)

-- ---- fronts

behind_most : (tid front : ℕ) → tid < front → front_behind tid ≤ front
behind_most tid front below = by_cases (nat_lt tid (2 ^ 64 - 1))
  where
    by_cases : (b : Bool) → cond b (tid + 1) tid ≤ front
    by_cases true = omega (arith, below)
    by_cases false = omega (arith, below)

commits_known : (front : ℕ) (commits : List NewsCommit) (old new : Held) → AllByRecursion (λ c. c.tid < front) commits → HearsAll (map (commit_notice front) commits) old new → old.standing.known ≤ front → new.standing.known ≤ front
commits_known front [] old new below is low = subst (λ (h : Held). h.standing.known ≤ front) (sym is) low
commits_known front (c ∷ commits) old new below is low = by_fits (fits_frame (Invalidate c.tid c.oids)) (λ mid heard up. commits_known front commits mid new below.1 heard up) is
  where
    by_fits : (b : Bool) → ((mid : Held) → HearsAll (map (commit_notice front) commits) mid new → mid.standing.known ≤ front → new.standing.known ≤ front) → HearsAll (cond b (Invalidate c.tid c.oids) (Forget front) ∷ map (commit_notice front) commits) old new → new.standing.known ≤ front
    by_fits true later heard =
        let k : heard.0.standing.known ≡ max old.standing.known (front_behind c.tid) = heard.1.known in
        let top = behind_most c.tid front below.0 in
        later heard.0 heard.2 (omega (arith, k, low, top))
    by_fits false later heard =
        let k : heard.0.standing.known ≡ max old.standing.known front = heard.1.known in
        later heard.0 heard.2 (omega (arith, k, low))

between_below : (low high : ℕ) (entries : List JournalEntry) → AreBetween low high entries → AllByRecursion (λ c. c.tid < high) (filter_map commit_in entries)
between_below low high [] is = tt
between_below low high (journal.Commit session tid oids ∷ rest) is = (is.1, between_below (tid + 1) high rest is.2)
between_below low high (journal.Packed tid ∷ rest) is = between_below low high rest is

-- ---- what was asked for

commits_asked : (front : ℕ) (commits : List NewsCommit) (old new : Held) → HearsAll (map (commit_notice front) commits) old new → new.standing.asked ≡ old.standing.asked
commits_asked front [] old new is = ap (λ (h : Held). h.standing.asked) is
commits_asked front (c ∷ commits) old new is = commits_asked front commits is.0 new is.2 ∙ is.1.asked

-- ---- all notices of a front

changed_both : (xs ys : List NewsCommit) (oid : ℕ) → are_changed xs oid ≡ false → are_changed ys oid ≡ false → are_changed (xs ++ ys) oid ≡ false
changed_both [] ys oid none more = more
changed_both (x ∷ xs) ys oid none more =
    both_false (is_one_of x.oids oid) (are_changed (xs ++ ys) oid) (left_false (is_one_of x.oids oid) (are_changed xs oid) none)
    (changed_both xs ys oid (right_false (is_one_of x.oids oid) (are_changed xs oid) none) more)

changed_unless : (b : Bool) (xs ys : List NewsCommit) (oid : ℕ) → are_changed xs oid ≡ false → are_changed ys oid ≡ false → are_changed (cond b [] (xs ++ ys)) oid ≡ false
changed_unless true xs ys oid none more = refl
changed_unless false xs ys oid none more = changed_both xs ys oid none more

pub behind_unnamed : (old news : News) (oid : ℕ) → news.forget ≡ false → news.packed ≡ false → is_news_of old oid ≡ false → are_changed news.commits oid ≡ false → is_news_of (news_behind old news) oid ≡ false
behind_unnamed old news oid all pack none more =
    let first = left_false (old.forget || old.packed) (are_changed old.commits oid) none in
    both_false ((old.forget || news.forget) || (old.packed || news.packed)) (are_changed (cond (old.forget || news.forget) [] (old.commits ++ news.commits)) oid)
    (both_false (old.forget || news.forget) (old.packed || news.packed)
    (both_false old.forget news.forget (left_false old.forget old.packed first) all)
    (both_false old.packed news.packed (right_false old.forget old.packed first) pack))
    (changed_unless (old.forget || news.forget) old.commits news.commits oid (right_false (old.forget || old.packed) (are_changed old.commits oid) none) more)

-- what a client has that heard the news of a front
pub record IsNewsHeard (front : ℕ) (news : News) (old new : Held) : Type 0 where
  pub known : new.standing.known ≤ front
  pub names : TellsAll new.standing.news (news_behind old.standing.news news)
  pub asked : new.standing.asked ≡ old.standing.asked
  pub emptied : news.forget || news.packed ≡ true → AreAmong new.cache.entries []
  pub closed : news.forget || news.packed ≡ false → Changes (closed_by news.commits) new.cache.entries old.cache.entries

or_true : (a b : Bool) → a ≡ true → (a || b) ≡ false → ⊥
or_true a b is none = true≢false (sym is ∙ left_false a b none)

or_right_true : (a b : Bool) → b ≡ true → (a || b) ≡ false → ⊥
or_right_true a b is none = true≢false (sym is ∙ right_false a b none)

pub news_is_heard : (front : ℕ) (news : News) (old new : Held) → AllByRecursion (λ c. c.tid < front) news.commits → old.standing.known ≤ front → HearsAll (notices_of front news) old new → IsNewsHeard front news old new
news_is_heard front news old new below low heard = by_forget news.forget refl heard
  where
    by_packed : (p : Bool) → news.forget ≡ false → news.packed ≡ p → HearsAll (cond p (Packed (front - 1) ∷ []) [] ++ map (commit_notice front) news.commits) old new → IsNewsHeard front news old new
    by_packed true few packed is = record {
      known = let k : is.0.standing.known ≡ old.standing.known = is.1.known in commits_known front news.commits is.0 new below is.2 (omega (arith, k, low));
      names = λ oid none.
          let told : is_news_of (news_told (Packed (front - 1)) old.standing.news) oid ≡ false = kept_news _ is.0.standing.news oid is.1.news (commits_told front news.commits is.0 new oid is.2 none).0 in
          absurd (pack_is_news (news_told (Packed (front - 1)) old.standing.news) oid refl told);
      asked = commits_asked front news.commits is.0 new is.2 ∙ is.1.asked;
      emptied = λ some. emptied front news.commits is.0 new is.1.cache.0 is.2;
      closed = λ none. absurd (or_right_true news.forget news.packed packed none);
    }
    by_packed false few packed is = record {
      known = commits_known front news.commits old new below is low;
      names = λ oid none. let parts = commits_told front news.commits old new oid is none in behind_unnamed old.standing.news news oid few packed parts.0 parts.1;
      asked = commits_asked front news.commits old new is;
      emptied = λ some. absurd (true≢false (sym some ∙ both_false news.forget news.packed few packed));
      closed = λ none. commits_close front news.commits old new is;
    }

    by_forget : (f : Bool) → news.forget ≡ f → HearsAll (cond f (Forget front ∷ []) (cond news.packed (Packed (front - 1) ∷ []) []) ++ map (commit_notice front) news.commits) old new → IsNewsHeard front news old new
    by_forget true all is = record {
      known = let k : is.0.standing.known ≡ max old.standing.known front = is.1.known in commits_known front news.commits is.0 new below is.2 (omega (arith, k, low));
      names = λ oid none.
          let told : is_news_of (news_told (Forget front) old.standing.news) oid ≡ false = kept_news _ is.0.standing.news oid is.1.news (commits_told front news.commits is.0 new oid is.2 none).0 in
          absurd (all_is_news (news_told (Forget front) old.standing.news) oid refl told);
      asked = commits_asked front news.commits is.0 new is.2 ∙ is.1.asked;
      emptied = λ some. emptied front news.commits is.0 new is.1.cache.0 is.2;
      closed = λ none. absurd (or_true news.forget news.packed all none);
    }
    by_forget false few is = by_packed news.packed few refl is

-- ---- a sync

pub front_parts : (m : Machine) (n front switches : ℕ) (news : News) (early : Option Refusal) → (unless_early early m (front_step m n)).reply ≡ reply.Front front news switches
    → (front ≡ newest_tid m.list + 1) × (news ≡ news_of (untold m n))
front_parts m n front switches news (Some r) is = absurd cc
front_parts m n front switches news None is = (cc, cc)

pub told_below : (low high : ℕ) (entries : List JournalEntry) → AreBetween low high entries → AllByRecursion (λ c. c.tid < high) (news_of entries).commits
told_below low high entries is = by_cases (nat_lt news_limit (length entries))
  where
    by_cases : (b : Bool) → AllByRecursion (λ c. c.tid < high) (cond b [] (filter_map commit_in entries))
    by_cases true = tt
    by_cases false = between_below low high entries is

module _ (rules : Rules) (m : Machine) (n front switches stamp : ℕ) (news : News) (sound : IsSoundMachine m) (answer : (step_of rules m n request.Front stamp).reply ≡ reply.Front front news switches) (old mid new : Held) (c : Client) (x : IsServed m n old.standing old.cache.entries c) (told : IsNewsHeard front news old mid) (sync : IsAnswerHeard (Some calls.Sync) (answers.TidAndCount front switches) mid new) where
  served : (left : Intervals) → IsDelivered news left old.cache.entries → AreAmong new.cache.entries left → IsServed (step_of rules m n request.Front stamp).machine n new.standing new.cache.entries (synced (view_at m) c)
  served left delivered among =
      let known : new.standing.known ≡ max mid.standing.known front = ap (λ (s : Standing). s.known) sync.1 in
      let top = told.known in
      less_serves (step_of rules m n request.Front stamp).machine n new.standing (told_client old.standing front switches news) new.cache.entries left (synced (view_at m) c) (record {
        known = omega (arith, known, top);
        switches = ap (λ (s : Standing). s.switches) sync.1;
        news = λ oid none. told.names oid (subst (λ (w : News). is_news_of w oid ≡ false) (ap (λ (s : Standing). s.news) sync.1) none);
        asked = λ oid none. subst (λ (a : MayChange). (a.all || is_one_of a.oids oid) ≡ false) (ap (λ (s : Standing). s.asked) sync.1 ∙ told.asked) none;
        entries = among;
      }) (fronts_deliver rules m n front switches stamp news sound answer old.standing old.cache.entries left c x delivered)

  same_entries : new.cache.entries ≡ mid.cache.entries
  same_entries = ap (λ (k : CachedIntervals). k.entries) sync.0

  synced_served : (b : Bool) → (news.forget || news.packed) ≡ b → IsServed (step_of rules m n request.Front stamp).machine n new.standing new.cache.entries (synced (view_at m) c)
  synced_served true gone =
      served [] ((λ none. absurd (true≢false (sym gone ∙ none))), (λ some. refl)) (λ oid e there. told.emptied gone oid e (subst (λ (es : Intervals). interval_of es oid ≡ Some e) same_entries there))
  synced_served false stay =
      served new.cache.entries ((λ none oid e there. told.closed stay oid e (subst (λ (es : Intervals). interval_of es oid ≡ Some e) same_entries there)), (λ some. absurd (true≢false (sym some ∙ stay)))) (λ oid e there. there)

pub syncs_serve : SyncsServe
syncs_serve rules m n front switches stamp news sound answer old mid new c x heard sync =
    let parts = front_parts m n front switches news (early_refusal m n request.Front) answer in
    let high = parts.0 in
    let later = x.knows.later.front in
    let same = x.front in
    let low : old.standing.known ≤ front = omega (arith, high, later, same) in
    let below : AllByRecursion (λ k. k.tid < newest_tid m.list + 1) (news_of (untold m n)).commits = told_below c.known.front (newest_tid m.list + 1) (untold m n) x.knows.between in
    let below_front : AllByRecursion (λ k. k.tid < front) news.commits =
    subst (λ (w : News). AllByRecursion (λ k. k.tid < front) w.commits) (sym parts.1) (subst (λ (f : ℕ). AllByRecursion (λ k. k.tid < f) (news_of (untold m n)).commits) (sym parts.0) below) in
    synced_served rules m n front switches stamp news sound answer old mid new c x (news_is_heard front news old mid below_front low heard) sync (news.forget || news.packed) refl

-- ---- a load

kept_among : (oid : ℕ) (kept : Interval) (old new : CachedIntervals) → (HoldsAlso old oid kept new × (new.capacity ≡ old.capacity)) ⊎ (new ≡ old) → AreAmongOr oid kept new.entries old.entries
kept_among oid kept old new (inr same) other e there = inl (subst (λ (k : CachedIntervals). interval_of k.entries other ≡ Some e) same there)
kept_among oid kept old new (inl also) other e there =
    ⊎_elim (λ (t : nat_eq other oid ≡ true).
    let same : other ≡ oid = eqb-true other oid t in
    let here : interval_of new.entries oid ≡ Some e = subst (λ (o : ℕ). interval_of new.entries o ≡ Some e) same there in
    let is : ◌≡◌ {A = Option Interval} (Some kept) (Some e) = sym also.0.one ∙ here in
    let k : kept ≡ e = cc in
    inr (same, sym k))
    (λ (t : nat_eq other oid ≡ false). by_room (also.0.others other (eqb-false other oid t)))
    (cases_Bool (nat_eq other oid))
  where
    by_room : (interval_of new.entries other ≡ interval_of old.entries other) ⊎ ((interval_of new.entries other ≡ None) × (old.capacity ≤ length old.entries)) → (interval_of old.entries other ≡ Some e) ⊎ ((other ≡ oid) × (e ≡ kept))
    by_room (inl same) = inl (sym same ∙ there)
    by_room (inr none) = let gone : interval_of new.entries other ≡ None = none.0 in absurd (no_entry (sym gone ∙ there))
      where
        no_entry : (let o : Option Interval = None in o) ≡ Some e → ⊥
        no_entry is = absurd cc

pub loads_serve : LoadsServe
loads_serve rules m n oid front stamp serial upto bytes end sound is old new c x low heard =
    let kept : Interval = record { serial = serial; bytes = bytes; end = kept_end end upto old.standing.known } in
    let entry : (HoldsAlso old.cache oid kept new.cache × (new.cache.capacity ≡ old.cache.capacity)) ⊎ (new.cache ≡ old.cache) = rw (le-leb front old.standing.known low) at heard.0 in
    subst (λ (s : Standing). IsServed m n s new.cache.entries c) (sym heard.1)
    (answers_are_kept rules m n oid front stamp serial upto bytes end sound is old.standing new.cache.entries old.cache.entries c x low (kept_among oid kept old.cache new.cache entry))
