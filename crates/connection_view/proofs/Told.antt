-- A connection and its client, from call to call.
use Rattle.std.proofs.Common.{◌≡◌, ℕ, ◌≤◌, Bool, true, false, ◌||◌, List, [], Option, Some, None, Ok, refl, ◌∙◌, arith}
use Rattle.object_cache.specs.declared.cache.CachedRevision.{CachedRevision}
use Rattle.object_cache.specs.CachedLaws.{each_of_none}
use Rattle.connection_view.specs.declared.connection.Connection.{Connection}
use Rattle.connection_view.specs.declared.loads.FrontView.{FrontView}
use Rattle.connection_view.specs.declared.named.Named.{Named}
use Rattle.connection_view.specs.Views.{View, Client, committed, current, is_news_of, renewed, unvoted, voting}
use Rattle.connection_view.specs.Loading.{IsFront}
use Rattle.connection_view.specs.ViewLaws.{later_later, later_same}
use Rattle.connection_view.specs.Named.{CoversNamed, KeepsUnnamed, names}
use Rattle.connection_view.specs.Works.{Work}
use Rattle.connection_view.specs.Connections.{Between, CachesTold, CachesView, IsNewWork, IsInView, KeepsSight, SeesView, open_work}

or_both : (a b : Bool) → a ≡ false → b ≡ false → (a || b) ≡ false
or_both a b h k = rw (h, k) refl

-- a front is not below the known one
pub never_older : (c : Client) (w : View) (r : FrontView) → IsFront c w r → c.known.front ≤ r.front
never_older c w r f = let k = f.known.front in omega (arith, f.front)

-- ---- at the beginning

pub told_none : (c : Client) (stale : Named) → CachesTold c stale []
told_none c stale = each_of_none (λ oid serial bytes. names stale oid ≡ false → (c.own oid ≡ false) × (current c.told oid ≡ Some (serial, bytes)))

-- what is cached is as before once the connection is closed
pub told_closed : (k : Connection) (c : Client) → Between k c → Between (record k { is_open = false }) c
told_closed k c between = record { none = between.none; unvoted = between.unvoted; cached = between.cached }

-- ---- a front while no transaction is open, which applies the news

-- what is cached and not named any more is what the new view has
pub view_of_told : (c : Client) (w : View) (r : FrontView) (stale more : Named) (objects left : List (ℕ × CachedRevision)) → IsFront c w r → CoversNamed (is_news_of r.news) stale more
    → KeepsUnnamed more objects left → CachesTold c stale objects → CachesView w left
view_of_told c w r stale more objects left f covers keeps told = record {
  each = λ oid cached h.
      let un : names more oid ≡ false = keeps.unnamed oid cached h in
      let was = told.each oid cached (keeps.kept oid cached h) (covers.kept oid un) in
      f.quiet oid (covers.added oid un) was.0 ∙ was.1;
}

-- a transaction that begins sees the view that the front gave
pub begun_in : (w : View) (c : Client) (r : FrontView) (asked stale : Named) (objects : List (ℕ × CachedRevision)) → IsFront c w r → ((oid : ℕ) → c.voted oid ≡ false) → CachesView w objects
    → SeesView r.front r.switches asked stale objects w (renewed w c)
begun_in w c r asked stale objects f voted cached = record {
  front_is = f.front;
  switches_are = f.switches;
  later = later_same w;
  quiet = λ oid un. refl;
  own = λ oid. refl;
  asked_for = λ oid un. voted oid;
  cached = cached;
}

-- ---- a front whose news is kept

pub sees_delivered : (front switches : ℕ) (asked stale more : Named) (objects : List (ℕ × CachedRevision)) (u w : View) (c : Client) (r : FrontView) → IsFront c w r → CoversNamed (is_news_of r.news) stale more
    → SeesView front switches asked stale objects u c → SeesView front switches asked more objects u (renewed w c)
sees_delivered front switches asked stale more objects u w c r f covers s = record {
  front_is = s.front_is;
  switches_are = s.switches_are;
  later = later_later u c.told w s.later f.later;
  quiet = λ oid un. f.quiet oid (covers.added oid un) (s.own oid) ∙ s.quiet oid (covers.kept oid un);
  own = λ oid. refl;
  asked_for = s.asked_for;
  cached = s.cached;
}

pub told_delivered : (c : Client) (w : View) (r : FrontView) (stale more : Named) (objects : List (ℕ × CachedRevision)) → IsFront c w r → CoversNamed (is_news_of r.news) stale more
    → CachesTold c stale objects → CachesTold (renewed w c) more objects
told_delivered c w r stale more objects f covers told = record {
  each = λ oid cached h un.
      let was = told.each oid cached h (covers.kept oid un) in
      (refl, f.quiet oid (covers.added oid un) was.0 ∙ was.1);
}

-- ---- votes, and the end of a transaction

-- a vote was asked for
pub sees_voting : (front switches : ℕ) (asked more stale : Named) (objects : List (ℕ × CachedRevision)) (voted : ℕ → Bool) (u : View) (c : Client) → CoversNamed voted asked more
    → SeesView front switches asked stale objects u c → SeesView front switches more stale objects u (voting voted c)
sees_voting front switches asked more stale objects voted u c covers s = record {
  front_is = s.front_is;
  switches_are = s.switches_are;
  later = s.later;
  quiet = s.quiet;
  own = s.own;
  asked_for = λ oid un. or_both (c.voted oid) (voted oid) (s.asked_for oid (covers.kept oid un)) (covers.added oid un);
  cached = s.cached;
}

-- it ends without a commit
pub told_unvoted : (front switches : ℕ) (asked stale : Named) (objects : List (ℕ × CachedRevision)) (u : View) (c : Client) → SeesView front switches asked stale objects u c
    → CachesTold (unvoted c) stale objects
told_unvoted front switches asked stale objects u c s = record {
  each = λ oid cached h un. (s.own oid, s.quiet oid un ∙ s.cached.each oid cached h);
}

-- it ends with a commit, and what may have changed by it is dropped
pub told_committed : (front switches : ℕ) (asked stale : Named) (objects left : List (ℕ × CachedRevision)) (u w : View) (c : Client) → KeepsUnnamed asked objects left
    → SeesView front switches asked stale objects u c → CachesTold (committed w c) stale left
told_committed front switches asked stale objects left u w c keeps s = record {
  each = λ oid cached h un.
      (or_both (c.own oid) (c.voted oid) (s.own oid) (s.asked_for oid (keeps.unnamed oid cached h)), s.quiet oid un ∙ s.cached.each oid cached (keeps.kept oid cached h));
}

-- ---- by the open transaction, if there is one

pub begun_work : (is_open : Bool) (w : Work) (front : ℕ) → is_open ≡ true → IsNewWork front w → (x : Work) × (open_work is_open (Some w) ≡ Ok x) × IsNewWork front x
begun_work false w front h b = cc
begun_work true w front h b = (w, refl, b)

pub delivered_in : (work : Option Work) (asked stale more : Named) (objects : List (ℕ × CachedRevision)) (u w : View) (c : Client) (r : FrontView) → IsFront c w r → CoversNamed (is_news_of r.news) stale more
    → IsInView work asked stale objects u c → IsInView work asked more objects u (renewed w c)
delivered_in None asked stale more objects u w c r f covers i = i
delivered_in (Some k) asked stale more objects u w c r f covers i = sees_delivered k.front k.switches asked stale more objects u w c r f covers i

-- what keeps where the transaction sees from keeps what it sees
pub sight_kept : (old new : Option Work) (asked stale : Named) (objects : List (ℕ × CachedRevision)) (u : View) (c : Client) → KeepsSight old new → IsInView old asked stale objects u c → IsInView new asked stale objects u c
sight_kept None None asked stale objects u c k i = i
sight_kept None (Some w) asked stale objects u c k i = absurd k
sight_kept (Some v) None asked stale objects u c k i = absurd k
sight_kept (Some v) (Some w) asked stale objects u c k i = record {
  front_is = k.0 ∙ i.front_is;
  switches_are = k.1 ∙ i.switches_are;
  later = i.later;
  quiet = i.quiet;
  own = i.own;
  asked_for = i.asked_for;
  cached = i.cached;
}

pub none_kept : (old new : Option Work) → KeepsSight old new → old ≡ None → new ≡ None
none_kept None None k e = refl
none_kept None (Some w) k e = absurd k
none_kept (Some v) None k e = absurd k
none_kept (Some v) (Some w) k e = cc

pub voting_in : (work : Option Work) (asked more stale : Named) (objects : List (ℕ × CachedRevision)) (voted : ℕ → Bool) (u : View) (c : Client) → CoversNamed voted asked more
    → IsInView work asked stale objects u c → IsInView work more stale objects u (voting voted c)
voting_in None asked more stale objects voted u c covers i = i
voting_in (Some k) asked more stale objects voted u c covers i = sees_voting k.front k.switches asked more stale objects voted u c covers i

-- everything is named
pub all_covered : (old new : Named) → new.all ≡ true → CoversNamed (λ oid. true) old new
all_covered old new e = record {
  kept = λ oid h. let bad : true ≡ false = rw e at h in cc;
  added = λ oid h. let bad : true ≡ false = rw e at h in cc;
}
