-- What keeps the entries of a client cache. For the proofs of those who serve clients.
use Rattle.std.proofs.Common.{◌≡◌, ℕ, ◌+◌, ◌<◌, ◌≤◌, ◌⊎◌, inl, inr, ⊎_elim, List, [], ◌∷◌, ◌++◌, Option, Some, None, Bool, true, false, cond, filter, refl, ap, sym, ◌∙◌, subst, arith}
use Rattle.std.specs.Prelude.{◌||◌, ◌&&◌, nat_lt, if◌then◌else◌}
use Rattle.std.specs.List.{filter_map, find, last_or, list_any}
use Rattle.std.specs.Option.{option_and_then, option_map, option_map_or}
use Rattle.std.specs.Ordering.{nat_cmp}
use Rattle.std.specs.FinSet.{FinSet}
use Rattle.std.proofs.lemmas.Bool.{and_parts, cases_Bool, cases_lt, leb-true, le-ltb, lt-ltb, ltb-true}
use Rattle.std.proofs.lemmas.Option.{same_Some}
use Rattle.zb_base.specs.Lists.{last_or_append}
use Rattle.zb_model.specs.declared.data.Content.{Content}
use Rattle.zb_model.specs.declared.data.Content.TheVariants.{Held, Absent}
use Rattle.zb_model.specs.declared.data.Transaction.{Transaction}
use Rattle.zb_model.specs.declared.found.Found.TheVariants as found
use Rattle.zb_model.specs.declared.news.News.{News}
use Rattle.zb_model.specs.declared.news.NewsCommit.{NewsCommit}
use Rattle.zb_model.specs.Database.{IsDatabase, ObjectRevision, is_below, newest_tid, revision_below, revisions}
use Rattle.zb_model.specs.Packing.{packed_by}
use Rattle.zb_model.specs.PackingLaws.{packed_database}
use Rattle.zb_model.specs.Queries.{end_of, found_as, found_below, found_of, is_from}
use Rattle.zb_model.specs.SerialLaws.{SerialsTo, database_serials}
use Rattle.pack_reach.specs.KeepingLaws.{records_stand}
use Rattle.zodb_core.specs.declared.journal.JournalEntry.{JournalEntry}
use Rattle.zodb_core.specs.declared.journal.JournalEntry.TheVariants as journal
use Rattle.zodb_core.specs.GrowthLaws.{revision_kept_by_one}
use Rattle.zodb_core.specs.Machine.{Machine, commit_in, is_switch, switches_of, untold}
use Rattle.zodb_core.specs.PackLaws.{newest_packed}
use Rattle.zodb_core.specs.Sound.{Becomes, GrowsByOne, HasOneMore, IsPackOf}
use Rattle.connection_view.specs.Views.{Later, View, current, is_one_of, read_as, read_below, read_from}
use Rattle.zeo_cache.specs.declared.interval.Interval.{Interval}
use Rattle.zeo_cache.specs.Intervals.{Intervals, closed_at, end_at, found_in, interval_of, is_up_to, kept_end}
use Rattle.zeo_serving.specs.Entries.{IsUpTo}
use Rattle.zeo_serving.specs.IntervalLaws.{IsReadFrom, is_read, no_next_below, read_between, read_is}
use Rattle.zeo_serving.specs.Serving.{AreBetween, EachHolds, Holds, IsUntil, Knows, closed_by, view_at}

-- the view of a list that was packed so often
abbrev pub listed : List Transaction → ℕ → View
listed list switches = record { front = newest_tid list + 1; list = list; switches = switches }

-- ---- what the cache answers

up_to_true : (front : ℕ) (end : Option ℕ) → is_up_to front end ≡ true → IsUpTo front end
up_to_true front None is = tt
up_to_true front (Some end) is = leb-true front end is

found_one : (known now : View) (oid front : ℕ) (o : Option Interval) (d : ℕ × List ℕ) → ((e : Interval) → o ≡ Some e → Holds known now oid e) → front ≤ known.front → found_in o front ≡ Some d
    → read_below oid front known.list ≡ Some d
found_one known now oid front None d holds low is = absurd cc
found_one known now oid front (Some e) d holds low is = by_cases (nat_lt e.serial front && is_up_to front e.end) refl is
  where
    by_cases : (b : Bool) → (nat_lt e.serial front && is_up_to front e.end) ≡ b → cond b (Some (e.serial, e.bytes)) None ≡ Some d → read_below oid front known.list ≡ Some d
    by_cases true passes answer =
        let both = and_parts (nat_lt e.serial front) (is_up_to front e.end) passes in
        (holds e refl).in_view front (ltb-true e.serial front both.0) (up_to_true front e.end both.1) low ∙ answer
    by_cases false passes answer = absurd cc

pub entries_answer : (known now : View) (entries : Intervals) (oid front : ℕ) (d : ℕ × List ℕ) → EachHolds known now entries → front ≤ known.front → found_in (interval_of entries oid) front ≡ Some d
    → read_below oid front known.list ≡ Some d
entries_answer known now entries oid front d each low is = found_one known now oid front (interval_of entries oid) d (each oid) low is

-- ---- what is found in the list

-- a record that is found is read, and has this end
pub record IsFoundFrom (o : Option ObjectRevision) (end after : Option ℕ) (serial : ℕ) (bytes : List ℕ) : Type 0 where
  pub read : option_and_then read_from o ≡ Some (serial, bytes)
  pub ends : end ≡ after

found_content : (r : ObjectRevision) (c : Content) (end after : Option ℕ) (serial : ℕ) (bytes : List ℕ) → r.content ≡ c → found_as c r.serial end ≡ found.Held serial bytes after → IsFoundFrom (Some r) end after serial bytes
found_content r Absent end after serial bytes e is = absurd cc
found_content r (Held b) end after serial bytes e is =
    let s : r.serial ≡ serial = cc in
    let w : b ≡ bytes = cc in
    record { read = is_read (Some r) serial bytes (record { revision = r; is = refl; serial_is = s; content = e ∙ ap Held w }); ends = cc }

pub found_is : (o : Option ObjectRevision) (end after : Option ℕ) (serial : ℕ) (bytes : List ℕ) → found_of o end ≡ found.Held serial bytes after → IsFoundFrom o end after serial bytes
found_is None end after serial bytes is = absurd cc
found_is (Some r) end after serial bytes is = found_content r r.content end after serial bytes refl is

-- and what is read is found
pub is_found : (o : Option ObjectRevision) (end : Option ℕ) (serial : ℕ) (bytes : List ℕ) → option_and_then read_from o ≡ Some (serial, bytes) → found_of o end ≡ found.Held serial bytes end
is_found o end serial bytes e =
    let x = read_is o serial bytes e in
    ap (λ (p : Option ObjectRevision). found_of p end) x.is ∙ ap (λ (c : Content). found_as c x.revision.serial end) x.content ∙ ap (λ (k : ℕ). found.Held k bytes end) x.serial_is

-- ---- an answer of the hub

same_revision : (x y : ObjectRevision) → ◌≡◌ {A = Option ObjectRevision} (Some x) (Some y) → x ≡ y
same_revision x y is = cc

below_front : (front : ℕ) (o : Option ObjectRevision) (rs : List ObjectRevision) (r : ObjectRevision) → ((x : ObjectRevision) → o ≡ Some x → x.serial < front) → last_or o (filter (is_below front) rs) ≡ Some r → r.serial < front
below_front front o [] r low e = low r e
below_front front o (x ∷ rs) r low e =
    ⊎_elim (λ (b : x.serial < front).
    below_front front (Some x) rs r (λ y is. let k : x.serial ≡ y.serial = ap (λ (z : ObjectRevision). z.serial) (same_revision x y is) in omega (arith, b, k)) (rw (lt-ltb x.serial front b) at e))
    (λ (b : front ≤ x.serial). below_front front o rs r low (rw (le-ltb x.serial front b) at e))
    (cases_lt x.serial front)

none_some : (y : ObjectRevision) → ◌≡◌ {A = Option ObjectRevision} None (Some y) → ⊥
none_some y is = absurd cc

pub read_early : (oid front serial : ℕ) (bytes : List ℕ) (list : List Transaction) → read_below oid front list ≡ Some (serial, bytes) → serial < front
read_early oid front serial bytes list e =
    let x = read_is (revision_below oid front list) serial bytes e in
    let k : x.revision.serial < front = below_front front None (revisions oid list) x.revision (λ y is. absurd (none_some y is)) x.is in
    omega (arith, k, x.serial_is)

highest : (low high : ℕ) (rs : List ObjectRevision) → SerialsTo low high rs → low ≤ high
highest low high [] h = h
highest low high (r ∷ rs) h = omega (arith, h.0, highest r.serial high rs h.1)

next_within : (front low high : ℕ) (rs : List ObjectRevision) (end : ℕ) → SerialsTo low high rs → option_map (λ (r : ObjectRevision). r.serial) (find (is_from front) rs) ≡ Some end → end ≤ high
next_within front low high [] end h e = absurd cc
next_within front low high (r ∷ rs) end h e = by_cases (is_from front r) refl (next_within front r.serial high rs end h.1)
  where
    by_cases : (b : Bool) → is_from front r ≡ b → (option_map (λ (r : ObjectRevision). r.serial) (find (is_from front) rs) ≡ Some end → end ≤ high) → end ≤ high
    by_cases true is rest =
        let here : ◌≡◌ {A = Option ℕ} (Some r.serial) (Some end) = rw is at e in
        let k : r.serial ≡ end = cc in
        omega (arith, k, highest r.serial high rs h.1)
    by_cases false is rest = rest (rw is at e)

kept_is : (end : Option ℕ) (upto known : ℕ) → known ≤ upto → kept_end end upto known ≡ end
kept_is None upto known h = rw (le-ltb upto known h) refl
kept_is (Some end) upto known h = refl

-- what the hub answers below a known front may be kept
pub holds_new : (known : View) (list : List Transaction) (switches oid front serial : ℕ) (bytes : List ℕ) (end : Option ℕ) → IsDatabase list → Later known (listed list switches) → front ≤ known.front
    → found_below oid front list ≡ found.Held serial bytes end
    → Holds known (listed list switches) oid (record { serial = serial; bytes = bytes; end = kept_end end (newest_tid list + 1) known.front })
holds_new known list switches oid front serial bytes end is later low e =
    let x = found_is (revision_below oid front list) (end_of oid front list) end serial bytes e in
    rw (kept_is end (newest_tid list + 1) known.front later.front) (record {
      in_view = λ f lt up within. later.held oid f (serial, bytes) within (read_between oid front f serial bytes list is x.read lt (subst (λ (o : Option ℕ). IsUpTo f o) (sym x.ends) up));
      in_list = λ stands f lt up open_to. read_between oid front f serial bytes list is x.read lt (subst (λ (o : Option ℕ). IsUpTo f o) (sym x.ends) up);
      early = let k = read_early oid front serial bytes list x.read in omega (arith, k, low);
      within = λ y ends. let k = next_within front 0 (newest_tid list) (revisions oid list) y (database_serials oid list is) (x.ends ∙ ends) in omega (arith, k);
    })

-- ---- steps of others

-- a front of which an entry speaks is one of the list
fits : (known now : View) (oid : ℕ) (e : Interval) (front : ℕ) (end : Option ℕ) → known.front ≤ now.front → Holds known now oid e → e.end ≡ end → IsUpTo front end → (end ≡ None → front ≤ known.front) → front ≤ now.front
fits known now oid e front None later holds is up known_to = omega (arith, later, known_to refl)
fits known now oid e front (Some end) later holds is up known_to = omega (arith, up, holds.within end is)

up_of : (front : ℕ) (e : Interval) (end : Option ℕ) → e.end ≡ end → IsUpTo front e.end → IsUpTo front end
up_of front e end is up = subst (λ (o : Option ℕ). IsUpTo front o) is up

pub one_more_read : (oid front : ℕ) (list now : List Transaction) → front ≤ newest_tid list + 1 → HasOneMore list now → read_below oid front now ≡ read_below oid front list
one_more_read oid front list now low more =
    ap (read_below oid front) more.behind ∙ ap (option_and_then read_from) (revision_kept_by_one oid front list more.newest low more.later)

pub newest_more : (list now : List Transaction) → HasOneMore list now → newest_tid list ≤ newest_tid now
newest_more list now more =
    let k : newest_tid now ≡ more.newest.tid = ap newest_tid more.behind ∙ ap (λ (o : Option Transaction). option_map_or (λ (x : Transaction). x.tid) o 0) (last_or_append None list (more.newest ∷ [])) in
    omega (arith, k, more.later)

holds_more : (known : View) (list now : List Transaction) (before after oid : ℕ) (e : Interval) → Later known (listed list before) → HasOneMore list now → newest_tid list ≤ newest_tid now → Holds known (listed list before) oid e → Holds known (listed now after) oid e
holds_more known list now before after oid e later more up holds = record {
  in_view = holds.in_view;
  in_list = λ stands front lt upto open_to.
      let known_front = later.front in
      let early = holds.early in
      let there : read_below oid (e.serial + 1) list ≡ Some (e.serial, e.bytes) = sym (one_more_read oid (e.serial + 1) list now (omega (arith, early, known_front)) more) ∙ stands in
      let within : front ≤ newest_tid list + 1 = fits known (listed list before) oid e front e.end later.front holds refl upto open_to in
      one_more_read oid front list now within more ∙ holds.in_list there front lt upto open_to;
  early = holds.early;
  within = λ end is. omega (arith, holds.within end is, up);
}

holds_packed : (known : View) (list : List Transaction) (t before after oid : ℕ) (keep : FinSet nat_cmp) (e : Interval) → IsDatabase list → t < newest_tid list → Holds known (listed list before) oid e → Holds known (listed (packed_by t keep list) after) oid e
holds_packed known list t before after oid keep e is below holds = record {
  in_view = holds.in_view;
  in_list = λ stands front lt upto open_to.
      let packed : List Transaction = packed_by t keep list in
      let next : Option ℕ = end_of oid (e.serial + 1) packed in
      let here = is_found (revision_below oid (e.serial + 1) packed) next e.serial e.bytes stands in
      let there = found_is (revision_below oid (e.serial + 1) list) (end_of oid (e.serial + 1) list) next e.serial e.bytes (records_stand keep t oid (e.serial + 1) e.serial e.bytes next list is here) in
      let claim : read_below oid front list ≡ Some (e.serial, e.bytes) = holds.in_list there.read front lt upto open_to in
      read_between oid (e.serial + 1) front e.serial e.bytes packed (packed_database t keep list is) stands lt (up front next claim there.ends);
  early = holds.early;
  within = λ end ends. omega (arith, holds.within end ends, newest_packed t keep list below);
}
  where
    up : (front : ℕ) (next : Option ℕ) → read_below oid front list ≡ Some (e.serial, e.bytes) → end_of oid (e.serial + 1) list ≡ next → IsUpTo front next
    up front None claim ends = tt
    up front (Some end) claim ends = no_next_below oid front e.serial e.bytes end list is claim ends

-- what a step of anyone makes of the list
pub holds_on : (known : View) (list now : List Transaction) (before after oid : ℕ) (e : Interval) → IsDatabase list → Later known (listed list before) → Becomes list now → Holds known (listed list before) oid e → Holds known (listed now after) oid e
holds_on known list now before after oid e is later (inl (inl same)) holds =
    subst (λ (l : List Transaction). Holds known (listed l after) oid e) (sym same)
    (record { in_view = holds.in_view; in_list = holds.in_list; early = holds.early; within = holds.within })
holds_on known list now before after oid e is later (inl (inr more)) holds = holds_more known list now before after oid e later more (newest_more list now more) holds
holds_on known list now before after oid e is later (inr pack) holds =
    subst (λ (l : List Transaction). Holds known (listed l after) oid e) (sym pack.is) (holds_packed known list pack.tid before after oid pack.keep e is pack.below holds)

-- ---- news

abbrev told_commits : List JournalEntry → List NewsCommit
told_commits entries = filter_map commit_in entries

ended_stays : (commits : List NewsCommit) (oid : ℕ) (e : Interval) (end : ℕ) → e.end ≡ Some end → closed_by commits oid e ≡ e
ended_stays [] oid e end is = refl
ended_stays (c ∷ commits) oid e end is = by_cases (is_one_of c.oids oid) (ended_stays commits oid e end is)
  where
    same : closed_at c.tid e ≡ e
    same = ap (λ (o : Option ℕ). let x : Interval = record e { end = o } in x) (ap (end_at c.tid e.serial) is ∙ sym is)

    by_cases : (b : Bool) → closed_by commits oid e ≡ e → closed_by commits oid (cond b (closed_at c.tid e) e) ≡ e
    by_cases true rest = ap (closed_by commits oid) same ∙ rest
    by_cases false rest = rest

closed_serial : (commits : List NewsCommit) (oid : ℕ) (e : Interval) → (closed_by commits oid e).serial ≡ e.serial
closed_serial [] oid e = refl
closed_serial (c ∷ commits) oid e = by_cases (is_one_of c.oids oid) (closed_serial commits oid (closed_at c.tid e)) (closed_serial commits oid e)
  where
    by_cases : (b : Bool) → (closed_by commits oid (closed_at c.tid e)).serial ≡ e.serial → (closed_by commits oid e).serial ≡ e.serial → (closed_by commits oid (cond b (closed_at c.tid e) e)).serial ≡ e.serial
    by_cases true closed open_one = closed
    by_cases false closed open_one = open_one

closed_bytes : (commits : List NewsCommit) (oid : ℕ) (e : Interval) → (closed_by commits oid e).bytes ≡ e.bytes
closed_bytes [] oid e = refl
closed_bytes (c ∷ commits) oid e = by_cases (is_one_of c.oids oid) (closed_bytes commits oid (closed_at c.tid e)) (closed_bytes commits oid e)
  where
    by_cases : (b : Bool) → (closed_by commits oid (closed_at c.tid e)).bytes ≡ e.bytes → (closed_by commits oid e).bytes ≡ e.bytes → (closed_by commits oid (cond b (closed_at c.tid e) e)).bytes ≡ e.bytes
    by_cases true closed open_one = closed
    by_cases false closed open_one = open_one

-- commits that rise from a front on are at or behind it
between_until : (front low high oid : ℕ) (entries : List JournalEntry) → front ≤ low → AreBetween low high entries → list_any is_switch entries ≡ false → IsUntil front oid entries
between_until front low high oid [] l h unpacked = tt
between_until front low high oid (journal.Commit session tid oids ∷ rest) l h unpacked = (λ names. omega (arith, l, h.0), between_until front (tid + 1) high oid rest (omega (arith, l, h.0)) h.2 unpacked)
between_until front low high oid (journal.Packed tid ∷ rest) l h unpacked = let bad : true ≡ false = unpacked in absurd cc

-- up to the end that the news leaves an open entry, none of the commits that it wasn't told changed the object
open_until : (front low high oid : ℕ) (entries : List JournalEntry) (e : Interval) → e.serial < low → e.end ≡ None → AreBetween low high entries → list_any is_switch entries ≡ false
    → IsUpTo front (closed_by (told_commits entries) oid e).end → IsUntil front oid entries
open_until front low high oid [] e early is h unpacked up = tt
open_until front low high oid (journal.Commit session tid oids ∷ rest) e early is h unpacked up = by_cases (is_one_of oids oid) refl (open_until front (tid + 1) high oid rest e (omega (arith, early, h.0)) is h.2 unpacked) up
  where
    closes : (closed_at tid e).end ≡ Some tid
    closes = ap (end_at tid e.serial) is ∙ rw (lt-ltb e.serial tid (omega (arith, early, h.0))) refl

    by_cases : (b : Bool) → is_one_of oids oid ≡ b → (IsUpTo front (closed_by (told_commits rest) oid e).end → IsUntil front oid rest) → IsUpTo front (closed_by (told_commits rest) oid (cond b (closed_at tid e) e)).end → (is_one_of oids oid ≡ true → front ≤ tid) × IsUntil front oid rest
    by_cases true names again upto =
        let stays : closed_by (told_commits rest) oid (closed_at tid e) ≡ closed_at tid e = ended_stays (told_commits rest) oid (closed_at tid e) tid closes in
        let low_front : front ≤ tid = subst (λ (o : Option ℕ). IsUpTo front o) (ap (λ (x : Interval). x.end) stays ∙ closes) upto in
        (λ _. low_front, between_until front (tid + 1) high oid rest (omega (arith, low_front)) h.2 unpacked)
    by_cases false names again upto = (λ named. let bad : true ≡ false = sym named ∙ names in absurd cc, again upto)
open_until front low high oid (journal.Packed tid ∷ rest) e early is h unpacked up = let bad : true ≡ false = unpacked in absurd cc

end_early : (tid serial high : ℕ) → tid < high → (b : Bool) → (x : ℕ) → cond b (Some tid) None ≡ Some x → x ≤ high
end_early tid serial high low true x ends = let k : tid ≡ x = cc in omega (arith, k, low)
end_early tid serial high low false x ends = absurd cc

end_within : (tid serial high : ℕ) (o : Option ℕ) → tid < high → ((x : ℕ) → o ≡ Some x → x ≤ high) → (x : ℕ) → end_at tid serial o ≡ Some x → x ≤ high
end_within tid serial high (Some y) low all x ends = all x ends
end_within tid serial high None low all x ends = end_early tid serial high low (nat_lt serial tid) x ends

-- and that end is below the next front
ends_within : (low high oid : ℕ) (entries : List JournalEntry) (e : Interval) → AreBetween low high entries → ((end : ℕ) → e.end ≡ Some end → end ≤ high) → (end : ℕ) → (closed_by (told_commits entries) oid e).end ≡ Some end → end ≤ high
ends_within low high oid [] e h within end is = within end is
ends_within low high oid (journal.Commit session tid oids ∷ rest) e h within end is =
    by_cases (is_one_of oids oid) (ends_within (tid + 1) high oid rest (closed_at tid e) h.2 (end_within tid e.serial high e.end h.1 within) end) (ends_within (tid + 1) high oid rest e h.2 within end) is
  where
    by_cases : (b : Bool) → ((closed_by (told_commits rest) oid (closed_at tid e)).end ≡ Some end → end ≤ high) → ((closed_by (told_commits rest) oid e).end ≡ Some end → end ≤ high)
        → (closed_by (told_commits rest) oid (cond b (closed_at tid e) e)).end ≡ Some end → end ≤ high
    by_cases true closed open_one ends = closed ends
    by_cases false closed open_one ends = open_one ends
ends_within low high oid (journal.Packed tid ∷ rest) e h within end is = ends_within low high oid rest e h within end is

-- An entry that the news of a front leaves holds in the list of that front, where no pack is told.
module _ (m : Machine) (n : ℕ) (known : View) (oid : ℕ) (e : Interval) (own : ℕ → Bool) (mine : own oid ≡ false) (knows : Knows m n own known) (holds : Holds known (view_at m) oid e) (unpacked : list_any is_switch (untold m n) ≡ false) where
  abbrev left : Interval
  left = closed_by (told_commits (untold m n)) oid e

  -- its revision stands in the list
  stands : (front : ℕ) → e.serial < front → IsUpTo front e.end → read_below oid (e.serial + 1) m.list ≡ Some (e.serial, e.bytes)
  stands front lt up =
      let early = holds.early in
      knows.later.same (knows.packs unpacked) oid (e.serial + 1) (omega (arith, early)) ∙ holds.in_view (e.serial + 1) (omega arith) (below e.end up) (omega (arith, early))
    where
      below : (end : Option ℕ) → IsUpTo front end → IsUpTo (e.serial + 1) end
      below None up = tt
      below (Some end) up = omega (arith, up, lt)

  at_open : (front : ℕ) → e.serial < front → e.end ≡ None → IsUpTo front left.end → read_below oid front m.list ≡ Some (e.serial, e.bytes)
  at_open front lt is up =
      ⊎_elim (λ (b : known.front < front).
      knows.quiet oid front mine (omega (arith, b)) (open_until front known.front (newest_tid m.list + 1) oid (untold m n) e holds.early is knows.between unpacked up)
      ∙ holds.in_view known.front holds.early (subst (λ (o : Option ℕ). IsUpTo known.front o) (sym is) tt) (omega arith))
      (λ (b : front ≤ known.front).
      holds.in_list (stands front lt (subst (λ (o : Option ℕ). IsUpTo front o) (sym is) tt)) front lt (subst (λ (o : Option ℕ). IsUpTo front o) (sym is) tt) (λ _. b))
      (cases_lt known.front front)

  at_ended : (front end : ℕ) → e.serial < front → e.end ≡ Some end → IsUpTo front left.end → read_below oid front m.list ≡ Some (e.serial, e.bytes)
  at_ended front end lt is up =
      let upto : IsUpTo front e.end = subst (λ (x : Interval). IsUpTo front x.end) (ended_stays (told_commits (untold m n)) oid e end is) up in
      holds.in_list (stands front lt upto) front lt upto (λ none. let bad : ◌≡◌ {A = Option ℕ} None (Some end) = sym none ∙ is in absurd cc)

  at_front : (front : ℕ) (end : Option ℕ) → e.end ≡ end → e.serial < front → IsUpTo front left.end → read_below oid front m.list ≡ Some (e.serial, e.bytes)
  at_front front None is lt up = at_open front lt is up
  at_front front (Some end) is lt up = at_ended front end lt is up

  same_data : ◌≡◌ {A = Option (ℕ × List ℕ)} (Some (e.serial, e.bytes)) (Some (left.serial, left.bytes))
  same_data = pair (sym (closed_serial (told_commits (untold m n)) oid e)) (sym (closed_bytes (told_commits (untold m n)) oid e))
    where
      pair : {s t : ℕ} {v w : List ℕ} → s ≡ t → v ≡ w → ◌≡◌ {A = Option (ℕ × List ℕ)} (Some (s, v)) (Some (t, w))
      pair a b = cc

  pub holds_front : Holds (view_at m) (view_at m) oid left
  holds_front =
      let k : left.serial ≡ e.serial = closed_serial (told_commits (untold m n)) oid e in
      record {
        in_view = λ front lt up within. at_front front e.end refl (omega (arith, k, lt)) up ∙ same_data;
        in_list = λ stood front lt up within. at_front front e.end refl (omega (arith, k, lt)) up ∙ same_data;
        early = let a = holds.early in let b = knows.later.front in omega (arith, k, a, b);
        within = ends_within known.front (newest_tid m.list + 1) oid (untold m n) e knows.between holds.within;
      }
