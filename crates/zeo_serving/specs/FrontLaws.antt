-- What a front of its own session keeps of a remote client, proved.
use Rattle.std.proofs.Common.{◌≡◌, ℕ, zero, suc, ◌+◌, ◌<◌, ◌≤◌, List, [], ◌∷◌, ◌++◌, Option, Some, None, Bool, true, false, cond, filter, refl, ap, sym, ◌∙◌, subst, arith}
use Rattle.std.specs.Prelude.{◌||◌, drop, length, not, nat_lt, slice_get, slice_set, if◌then◌else◌}
use Rattle.std.specs.List.{filter_map, last_or, list_any}
use Rattle.std.specs.Option.{option_and_then, option_map_or, option_or}
use Rattle.std.proofs.lemmas.Bool.{true≢false}
use Rattle.std.proofs.lemmas.List.{drop_all}
use Rattle.zb_model.specs.declared.data.Transaction.{Transaction}
use Rattle.zb_model.specs.declared.news.News.{News}
use Rattle.zb_model.specs.declared.news.NewsCommit.{NewsCommit}
use Rattle.zb_model.specs.declared.refusal.Refusal.{Refusal}
use Rattle.zb_model.specs.declared.refusal.Refusal.TheVariants as refusal
use Rattle.zb_model.specs.Database.{IsDatabase, ObjectRevision, newest_tid, revision_below, revisions}
use Rattle.zb_model.specs.SerialLaws.{database_rises, last_is, last_of_rising}
use Rattle.zodb_core.specs.declared.journal.JournalEntry.{JournalEntry}
use Rattle.zodb_core.specs.declared.journal.JournalEntry.TheVariants as journal
use Rattle.zodb_core.specs.declared.reply.Reply.{Reply}
use Rattle.zodb_core.specs.declared.reply.Reply.TheVariants as reply
use Rattle.zodb_core.specs.declared.request.Request.TheVariants as request
use Rattle.zodb_core.specs.Machine.{Machine, MachineSession, Rules, commit_in, is_news_for, is_open_in, is_switch, news_limit, news_of, switches_of, told_of, untold}
use Rattle.zodb_core.specs.Sound.{IsSoundMachine}
use Rattle.zodb_core.specs.Steps.{Stepped, early_refusal, front_step, refuse_if, step_of, unless_early}
use Rattle.connection_view.specs.Views.{Client, Later, Quiet, View, are_changed, current, is_news_of, is_one_of, read_below, read_from}
use Rattle.zeo_cache.specs.declared.interval.Interval.{Interval}
use Rattle.zeo_cache.specs.Intervals.{Intervals, interval_of}
use Rattle.zeo_serving.specs.Entries.{Changes}
use Rattle.zeo_serving.specs.declared.standing.Standing.{Standing}
use Rattle.zeo_serving.specs.HoldLaws.{holds_front}
use Rattle.zeo_serving.specs.KnowLaws.{later_view}
use Rattle.zeo_serving.specs.Laws.{FrontsDeliver}
use Rattle.zeo_serving.specs.Serving.{AreBetween, EachHolds, Holds, IsDelivered, IsServed, IsUntil, Knows, VotesFor, asks_for, closed_by, news_behind, synced, told_client, view_at}

-- ---- truth values

pub left_false : (a b : Bool) → (a || b) ≡ false → a ≡ false
left_false false b e = refl
left_false true b e = e

pub right_false : (a b : Bool) → (a || b) ≡ false → b ≡ false
right_false false b e = e
right_false true b e = absurd (true≢false e)

pub both_false : (a b : Bool) → a ≡ false → b ≡ false → (a || b) ≡ false
both_false false b p q = q
both_false true b p q = absurd (true≢false p)

-- ---- news

pub changed_left : (xs ys : List NewsCommit) (oid : ℕ) → are_changed (xs ++ ys) oid ≡ false → are_changed xs oid ≡ false
changed_left [] ys oid e = refl
changed_left (x ∷ xs) ys oid e =
    both_false (is_one_of x.oids oid) (are_changed xs oid) (left_false (is_one_of x.oids oid) (are_changed (xs ++ ys) oid) e)
    (changed_left xs ys oid (right_false (is_one_of x.oids oid) (are_changed (xs ++ ys) oid) e))

pub changed_right : (xs ys : List NewsCommit) (oid : ℕ) → are_changed (xs ++ ys) oid ≡ false → are_changed ys oid ≡ false
changed_right [] ys oid e = e
changed_right (x ∷ xs) ys oid e = changed_right xs ys oid (right_false (is_one_of x.oids oid) (are_changed (xs ++ ys) oid) e)

-- news names what it names in parts
pub record IsUnnamed (news : News) (oid : ℕ) : Type 0 where
  pub forget : news.forget ≡ false
  pub packed : news.packed ≡ false
  pub commits : are_changed news.commits oid ≡ false

unnamed : (news : News) (oid : ℕ) → is_news_of news oid ≡ false → IsUnnamed news oid
unnamed news oid e =
    let first = left_false (news.forget || news.packed) (are_changed news.commits oid) e in
    record { forget = left_false news.forget news.packed first; packed = right_false news.forget news.packed first; commits = right_false (news.forget || news.packed) (are_changed news.commits oid) e }

named_not : (news : News) (oid : ℕ) → IsUnnamed news oid → is_news_of news oid ≡ false
named_not news oid x = both_false (news.forget || news.packed) (are_changed news.commits oid) (both_false news.forget news.packed x.forget x.packed) x.commits

parts_unnamed : (old news : News) (oid : ℕ) → is_news_of (news_behind old news) oid ≡ false → (is_news_of old oid ≡ false) × IsUnnamed news oid
parts_unnamed old news oid e =
    let x = unnamed (news_behind old news) oid e in
    let all : are_changed (old.commits ++ news.commits) oid ≡ false = subst (λ (b : Bool). are_changed (cond b [] (old.commits ++ news.commits)) oid ≡ false) x.forget x.commits in (
      named_not old oid (record { forget = left_false old.forget news.forget x.forget; packed = left_false old.packed news.packed x.packed; commits = changed_left old.commits news.commits oid all }),
      record { forget = right_false old.forget news.forget x.forget; packed = right_false old.packed news.packed x.packed; commits = changed_right old.commits news.commits oid all },
    )

-- entries that don't name an object leave it at every front
until_unnamed : (front oid : ℕ) (entries : List JournalEntry) → list_any is_switch entries ≡ false → are_changed (filter_map commit_in entries) oid ≡ false → IsUntil front oid entries
until_unnamed front oid [] still none = tt
until_unnamed front oid (journal.Commit session tid oids ∷ rest) still none = (
  (λ named. absurd (true≢false (sym named ∙ left_false (is_one_of oids oid) (are_changed (filter_map commit_in rest) oid) none))),
  until_unnamed front oid rest still (right_false (is_one_of oids oid) (are_changed (filter_map commit_in rest) oid) none),
)
until_unnamed front oid (journal.Packed tid ∷ rest) still none = absurd (true≢false still)

told_whole : (entries : List JournalEntry) → nat_lt news_limit (length entries) ≡ false → (news_of entries).commits ≡ filter_map commit_in entries
told_whole entries few = ap (λ (b : Bool). cond b [] (filter_map commit_in entries)) few

-- ---- the session

pub told_now : (xs : List MachineSession) (n : ℕ) (x : MachineSession) → is_open_in xs n ≡ true → told_of n (slice_set xs n x) ≡ x.told
told_now [] n x is = absurd (true≢false (sym is))
told_now (y ∷ xs) zero x is = refl
told_now (y ∷ xs) (suc n) x is = told_now xs n x is

open_is : (b : Bool) → refuse_if (not b) refusal.NotOpen ≡ None → b ≡ true
open_is true e = refl
open_is false e = absurd cc

-- ---- above the newest

pub above_read : (oid front : ℕ) (list : List Transaction) → IsDatabase list → newest_tid list + 1 ≤ front → read_below oid front list ≡ read_below oid (newest_tid list + 1) list
above_read oid front list is up = ap (option_and_then read_from) (last_of_rising oid 0 (newest_tid list) front list (database_rises list is) (omega (arith, up)) ∙ sym (last_is oid list is))

pub later_itself : (v : View) → Later v v
later_itself v = record { front = omega arith; switches = omega arith; held = λ oid front d low h. h; same = λ e oid front low. refl }

-- ---- a front

pub none_there : (oid : ℕ) (e : Interval) → interval_of [] oid ≡ Some e → ⊥
none_there oid e is = absurd cc

module _ (m : Machine) (n : ℕ) (is : IsDatabase m.list) (open_in : is_open_in m.sessions n ≡ true) (z : Standing) (before entries : Intervals) (c : Client) (own : ℕ → Bool) (before_knows : Knows m n own c.known) (before_told : Later c.told c.known) (before_quiet : Quiet c.told c.known z.news c.own) (before_each : EachHolds c.known (view_at m) before) (mine : (oid : ℕ) (e : Interval) → interval_of before oid ≡ Some e → own oid ≡ false) (delivered : IsDelivered (news_of (untold m n)) entries before) where
  abbrev told_machine : Machine
  told_machine = (front_step m n).machine

  abbrev news : News
  news = news_of (untold m n)

  session_told : told_of n told_machine.sessions ≡ length m.journal
  session_told = told_now m.sessions n _ open_in

  nothing_left : untold told_machine n ≡ []
  nothing_left = ap (λ (k : ℕ). filter (is_news_for n) (drop k m.journal)) session_told ∙ ap (filter (is_news_for n)) (drop_all (length m.journal) m.journal (omega arith))

  knows : Knows told_machine n (λ oid. false) (view_at m)
  knows = record {
    told = omega (arith, session_told);
    later = later_itself (view_at m);
    between = subst (λ (xs : List JournalEntry). AreBetween (newest_tid m.list + 1) (newest_tid m.list + 1) xs) (sym nothing_left) tt;
    quiet = λ oid front mine low until. above_read oid front m.list is low;
    packs = λ none. refl;
  }

  calm : (oid : ℕ) → is_news_of (news_behind z.news news) oid ≡ false → c.own oid ≡ false → own oid ≡ false → current (view_at m) oid ≡ current c.told oid
  calm oid named earlier now =
      let parts = parts_unnamed z.news news oid named in
      let few : nat_lt news_limit (length (untold m n)) ≡ false = parts.1.forget in
      let none : are_changed (filter_map commit_in (untold m n)) oid ≡ false = subst (λ (cs : List NewsCommit). are_changed cs oid ≡ false) (told_whole (untold m n) few) parts.1.commits in
      before_knows.quiet oid (newest_tid m.list + 1) now before_knows.later.front (until_unnamed (newest_tid m.list + 1) oid (untold m n) parts.1.packed none) ∙ before_quiet oid parts.0 earlier

  each_closed : (b : Bool) → (news.forget || news.packed) ≡ b → EachHolds (view_at m) (view_at m) entries
  each_closed true gone oid e there = absurd (none_there oid e (subst (λ (es : Intervals). interval_of es oid ≡ Some e) (delivered.1 gone) there))
  each_closed false stay oid e there =
      let came = delivered.0 stay oid e there in
      let few : nat_lt news_limit (length (untold m n)) ≡ false = left_false news.forget news.packed stay in
      subst (λ (i : Interval). Holds (view_at m) (view_at m) oid i) (sym (came.is ∙ ap (λ (cs : List NewsCommit). closed_by cs oid came.was) (told_whole (untold m n) few)))
      (holds_front m n c.known oid came.was own (mine oid came.was came.there) before_knows (before_each oid came.was came.there) (right_false news.forget news.packed stay))

  -- the client behind the front, with these own objects and these voted ones
  served : (owned voted : ℕ → Bool) → ((oid : ℕ) → owned oid ≡ false → (c.own oid ≡ false) × (own oid ≡ false)) → VotesFor m n voted → ((oid : ℕ) → asks_for z.asked oid ≡ false → voted oid ≡ false)
      → IsServed told_machine n (told_client z (newest_tid m.list + 1) (switches_of m.journal) news) entries (record { told = c.told; own = owned; voted = voted; known = view_at m })
  served owned voted parts votes asked = record {
    knows = knows;
    front = refl;
    switches = refl;
    told = later_view c.told c.known (view_at m) before_told before_knows.later;
    quiet = λ oid named free. let both = parts oid free in calm oid named both.0 both.1;
    votes = votes;
    asked = asked;
    each = each_closed (news.forget || news.packed) refl;
  }

  told_so : (owned voted : ℕ → Bool) → ((oid : ℕ) → owned oid ≡ false → (c.own oid ≡ false) × (own oid ≡ false)) → VotesFor m n voted → ((oid : ℕ) → asks_for z.asked oid ≡ false → voted oid ≡ false)
      → (front switches : ℕ) (said : News) → newest_tid m.list + 1 ≡ front → switches_of m.journal ≡ switches → news ≡ said
      → IsServed told_machine n (told_client z front switches said) entries (record { told = c.told; own = owned; voted = voted; known = view_at m })
  told_so owned voted parts votes asked front switches said f s w =
      subst (λ (k : ℕ). IsServed told_machine n (told_client z k switches said) entries (record { told = c.told; own = owned; voted = voted; known = view_at m })) f
      (subst (λ (k : ℕ). IsServed told_machine n (told_client z (newest_tid m.list + 1) k said) entries (record { told = c.told; own = owned; voted = voted; known = view_at m })) s
      (subst (λ (k : News). IsServed told_machine n (told_client z (newest_tid m.list + 1) (switches_of m.journal) k) entries (record { told = c.told; own = owned; voted = voted; known = view_at m })) w
      (served owned voted parts votes asked)))

-- the same of a front that was answered, whatever was refused before
pub front_answered : (m : Machine) (n front switches : ℕ) (news : News) (z : Standing) (before entries : Intervals) (c : Client) (own owned voted : ℕ → Bool) → IsDatabase m.list → Knows m n own c.known → Later c.told c.known
    → Quiet c.told c.known z.news c.own → EachHolds c.known (view_at m) before → ((oid : ℕ) (e : Interval) → interval_of before oid ≡ Some e → own oid ≡ false) → IsDelivered news entries before
    → ((oid : ℕ) → owned oid ≡ false → (c.own oid ≡ false) × (own oid ≡ false)) → VotesFor m n voted → ((oid : ℕ) → asks_for z.asked oid ≡ false → voted oid ≡ false)
    → (early : Option Refusal) → (early ≡ None → is_open_in m.sessions n ≡ true) → (unless_early early m (front_step m n)).reply ≡ reply.Front front news switches
    → IsServed (unless_early early m (front_step m n)).machine n (told_client z front switches news) entries (record { told = c.told; own = owned; voted = voted; known = view_at m })
front_answered m n front switches news z before entries c own owned voted is knows told quiet each mine delivered parts votes asked (Some r) may answer = absurd cc
front_answered m n front switches news z before entries c own owned voted is knows told quiet each mine delivered parts votes asked None may answer =
    let f : newest_tid m.list + 1 ≡ front = cc in
    let w : news_of (untold m n) ≡ news = cc in
    let s : switches_of m.journal ≡ switches = cc in
    told_so m n is (may refl) z before entries c own knows told quiet each mine (subst (λ (k : News). IsDelivered k entries before) (sym w) delivered) owned voted parts votes asked front switches news f s w

first_none : (o : Option Refusal) → option_or o None ≡ None → o ≡ None
first_none None e = refl
first_none (Some r) e = e

pub front_open : (m : Machine) (n : ℕ) → early_refusal m n request.Front ≡ None → is_open_in m.sessions n ≡ true
front_open m n none = open_is (is_open_in m.sessions n) (first_none (refuse_if (not (is_open_in m.sessions n)) refusal.NotOpen) none)

pub fronts_deliver : FrontsDeliver
fronts_deliver rules m n front switches stamp news sound answer z before entries c x delivered =
    front_answered m n front switches news z before entries c (λ oid. false) c.own c.voted sound.database x.knows x.told x.quiet x.each (λ oid e there. refl) delivered (λ oid free. (free, refl)) x.votes x.asked
    (early_refusal m n request.Front) (front_open m n) answer
