-- What steps of others keep of a session and the view that its client knows. For the proofs of those who serve clients.
use Rattle.std.proofs.Common.{◌≡◌, ℕ, ◌+◌, ◌<◌, ◌≤◌, ◌⊎◌, inl, inr, ⊎_elim, List, [], ◌∷◌, ◌++◌, map, Option, Some, None, Bool, true, false, cond, eqb, filter, refl, ap, sym, ◌∙◌, subst, arith}
use Rattle.std.specs.Prelude.{not, ◌==◌, drop, length, slice_get, if◌then◌else◌, ◌||◌}
use Rattle.std.specs.List.{filter_map, last_or, list_any}
use Rattle.std.specs.Option.{option_and_then}
use Rattle.std.specs.Ordering.{nat_cmp}
use Rattle.std.specs.FinSet.{FinSet}
use Rattle.std.proofs.lemmas.Bool.{cases_Bool, eqb-true, eqb-false, true≢false}
use Rattle.std.proofs.lemmas.List.{append-nil, drop-append-le, length-append}
use Rattle.std.proofs.lemmas.List.Elements.{filter-append, filter_map-append}
use Rattle.std.proofs.lemmas.List.Sums.{sum_by-append}
use Rattle.zb_model.specs.declared.data.Change.{Change}
use Rattle.zb_model.specs.declared.data.Transaction.{Transaction}
use Rattle.zb_model.specs.Database.{IsDatabase, ObjectRevision, change_in, is_below, is_change_of, newest_tid, revision_below, revision_in, revisions}
use Rattle.zb_model.specs.Packing.{packed_by}
use Rattle.zb_model.specs.Queries.{end_of, oids_of}
use Rattle.zb_model.specs.VotingLaws.{newest-push}
use Rattle.pack_reach.specs.KeepingLaws.{records_stand}
use Rattle.zodb_core.specs.declared.journal.JournalEntry.{JournalEntry}
use Rattle.zodb_core.specs.declared.journal.JournalEntry.TheVariants as journal
use Rattle.zodb_core.specs.GrowthLaws.{revision_behind}
use Rattle.zodb_core.specs.Machine.{Machine, is_news_for, is_switch, switches_of, told_of, untold}
use Rattle.zodb_core.specs.PackLaws.{newest_packed}
use Rattle.zodb_core.specs.Sound.{HasOneMore}
use Rattle.connection_view.specs.Views.{Later, View, current, is_one_of, read_below, read_from}
use Rattle.zeo_serving.specs.HoldLaws.{found_is, is_found, newest_more, one_more_read}
use Rattle.zeo_serving.specs.Serving.{AreBetween, IsUntil, Knows, view_at}

-- ---- what isn't told yet

until_split : (front oid : ℕ) (xs ys : List JournalEntry) → IsUntil front oid (xs ++ ys) → IsUntil front oid xs × IsUntil front oid ys
until_split front oid [] ys h = (tt, h)
until_split front oid (journal.Commit session tid oids ∷ xs) ys h = let r = until_split front oid xs ys h.1 in ((h.0, r.0), r.1)
until_split front oid (journal.Packed tid ∷ xs) ys h = absurd h

switch_left : (xs ys : List JournalEntry) → list_any is_switch (xs ++ ys) ≡ false → list_any is_switch xs ≡ false
switch_left [] ys h = refl
switch_left (journal.Commit session tid oids ∷ xs) ys h = switch_left xs ys h
switch_left (journal.Packed tid ∷ xs) ys h = let bad : true ≡ false = h in absurd cc

switch_right : (xs ys : List JournalEntry) → list_any is_switch (xs ++ ys) ≡ false → list_any is_switch ys ≡ false
switch_right [] ys h = h
switch_right (journal.Commit session tid oids ∷ xs) ys h = switch_right xs ys h
switch_right (journal.Packed tid ∷ xs) ys h = let bad : true ≡ false = h in absurd cc

between_more : (low high tid session : ℕ) (oids : List ℕ) (xs : List JournalEntry) → low ≤ high → high ≤ tid → AreBetween low high xs → AreBetween low (tid + 1) (xs ++ journal.Commit session tid oids ∷ [])
between_more low high tid session oids [] l k h = (omega (arith, l, k), omega arith, tt)
between_more low high tid session oids (journal.Commit s t os ∷ xs) l k h = (h.0, omega (arith, h.1, k), between_more (t + 1) high tid session oids xs (omega (arith, h.1)) k h.2)
between_more low high tid session oids (journal.Packed t ∷ xs) l k h = between_more low high tid session oids xs l k h

between_packed : (low high tid : ℕ) (xs : List JournalEntry) → AreBetween low high xs → AreBetween low high (xs ++ journal.Packed tid ∷ [])
between_packed low high tid [] h = tt
between_packed low high tid (journal.Commit s t os ∷ xs) h = (h.0, h.1, between_packed (t + 1) high tid xs h.2)
between_packed low high tid (journal.Packed t ∷ xs) h = between_packed low high tid xs h

-- what a session is told of one more entry
untold_push : (m now : Machine) (n : ℕ) (entry : JournalEntry) → told_of n now.sessions ≡ told_of n m.sessions → now.journal ≡ m.journal ++ entry ∷ [] → told_of n m.sessions ≤ length m.journal
    → untold now n ≡ untold m n ++ filter (is_news_for n) (entry ∷ [])
untold_push m now n entry told grown within =
    ap (λ (k : ℕ). filter (is_news_for n) (drop k now.journal)) told
    ∙ ap (λ (j : List JournalEntry). filter (is_news_for n) (drop (told_of n m.sessions) j)) grown
    ∙ ap (filter (is_news_for n)) (drop-append-le (told_of n m.sessions) m.journal (entry ∷ []) within)
    ∙ filter-append (is_news_for n) (drop (told_of n m.sessions) m.journal) (entry ∷ [])

other_number : (a b : ℕ) → (a ≡ b → ⊥) → (a == b) ≡ false
other_number a b ne = ⊎_elim (λ (t : (a == b) ≡ true). absurd (ne (eqb-true a b t))) (λ (t : (a == b) ≡ false). t) (cases_Bool (a == b))

-- a commit of another session is news
commit_is_news : (n other tid : ℕ) (oids : List ℕ) → (other ≡ n → ⊥) → filter (is_news_for n) (journal.Commit other tid oids ∷ []) ≡ journal.Commit other tid oids ∷ []
commit_is_news n other tid oids ne = rw (other_number other n ne) refl

-- ---- an object that a transaction doesn't change

pub eqb-same : (a b : ℕ) → a ≡ b → (a == b) ≡ true
eqb-same a b q = ⊎_elim (λ (t : (a == b) ≡ true). t) (λ (t : (a == b) ≡ false). absurd (eqb-false a b t q)) (cases_Bool (a == b))

no_change : (oid : ℕ) (changes : List Change) → is_one_of (map (λ (c : Change). c.oid) changes) oid ≡ false → filter (is_change_of oid) changes ≡ []
no_change oid [] none = refl
no_change oid (c ∷ changes) none = by_cases (oid == c.oid) refl none (no_change oid changes)
  where
    by_cases : (b : Bool) → (oid == c.oid) ≡ b → (b || is_one_of (map (λ (c : Change). c.oid) changes) oid) ≡ false → (is_one_of (map (λ (c : Change). c.oid) changes) oid ≡ false → filter (is_change_of oid) changes ≡ [])
        → filter (is_change_of oid) (c ∷ changes) ≡ []
    by_cases true is names rest = absurd (true≢false names)
    by_cases false is names rest = rw (other_number c.oid oid (λ q. true≢false (sym (eqb-same oid c.oid (sym q)) ∙ is))) (rest names)

pub unchanged_read : (oid front : ℕ) (list : List Transaction) (t : Transaction) → is_one_of (oids_of t) oid ≡ false → read_below oid front (list ++ t ∷ []) ≡ read_below oid front list
unchanged_read oid front list t none =
    ap (λ (rs : List ObjectRevision). option_and_then read_from (last_or None (filter (is_below front) rs)))
    (filter_map-append (revision_in oid) list (t ∷ []) ∙ ap (λ (rs : List ObjectRevision). revisions oid list ++ rs) nothing ∙ append-nil (revisions oid list))
  where
    unmade : change_in oid t.changes ≡ None
    unmade = ap (last_or None) (no_change oid t.changes none)

    nothing : filter_map (revision_in oid) (t ∷ []) ≡ []
    nothing = rw unmade refl

-- ---- a commit of another session

pub later_view : (u v w : View) → Later u v → Later v w → Later u w
later_view u v w a b =
    let af = a.front in let bf = b.front in let asw = a.switches in let bsw = b.switches in
    record {
      front = omega arith;
      switches = omega arith;
      held = λ oid front d low h. a.held oid front d low (b.held oid front d (omega arith) h);
      same = λ e oid front low.
          let e1 : u.switches ≡ v.switches = omega arith in
          let e2 : v.switches ≡ w.switches = omega arith in
          b.same e2 oid front (omega arith) ∙ a.same e1 oid front low;
    }

later_more : (list now : List Transaction) (switches : ℕ) → HasOneMore list now → Later (record { front = newest_tid list + 1; list = list; switches = switches }) (record { front = newest_tid now + 1; list = now; switches = switches })
later_more list now switches more = record {
  front = omega (arith, newest_more list now more);
  switches = omega arith;
  held = λ oid front d low is. sym (one_more_read oid front list now low more) ∙ is;
  same = λ e oid front low. one_more_read oid front list now low more;
}

-- each record of the packed list is one of the list: with its bytes
packed_read : (oid front t : ℕ) (keep : FinSet nat_cmp) (list : List Transaction) (d : ℕ × List ℕ) → IsDatabase list → read_below oid front (packed_by t keep list) ≡ Some d → read_below oid front list ≡ Some d
packed_read oid front t keep list d is e =
    let packed : List Transaction = packed_by t keep list in
    let next : Option ℕ = end_of oid front packed in
    (found_is (revision_below oid front list) (end_of oid front list) next d.0 d.1
    (records_stand keep t oid front d.0 d.1 next list is (is_found (revision_below oid front packed) next d.0 d.1 e))).read

later_packed : (list : List Transaction) (t before after : ℕ) (keep : FinSet nat_cmp) → IsDatabase list → t < newest_tid list → before < after
    → Later (record { front = newest_tid list + 1; list = list; switches = before }) (record { front = newest_tid (packed_by t keep list) + 1; list = packed_by t keep list; switches = after })
later_packed list t before after keep is below more = record {
  front = omega (arith, newest_packed t keep list below);
  switches = omega (arith, more);
  held = λ oid front d low e. packed_read oid front t keep list d is e;
  same = λ e oid front low. absurd (omega (arith, e, more));
}

-- ---- what steps of others do to a machine

-- how a step of another session changes what a session of a machine sees: the session was told no more, and nothing was done to the list, or a commit of another session
-- stands behind it, or it was packed
pub data OtherMoves (m now : Machine) (n : ℕ) : Type 0 where
  stays : now.list ≡ m.list → now.journal ≡ m.journal → OtherMoves m now n
  commits : (other : ℕ) (t : Transaction) → (other ≡ n → ⊥) → newest_tid m.list < t.tid → now.list ≡ m.list ++ t ∷ [] → now.journal ≡ m.journal ++ journal.Commit other t.tid (oids_of t) ∷ [] → OtherMoves m now n
  packs : (t : ℕ) (keep : FinSet nat_cmp) → t < newest_tid m.list → now.list ≡ packed_by t keep m.list → now.journal ≡ m.journal ++ journal.Packed t ∷ [] → OtherMoves m now n

one_commit : (entries : List JournalEntry) (n tid : ℕ) (oids : List ℕ) → switches_of (entries ++ journal.Commit n tid oids ∷ []) ≡ switches_of entries
one_commit entries n tid oids = omega (arith, sum_by-append (λ (e : JournalEntry). cond (is_switch e) 1 0) entries (journal.Commit n tid oids ∷ []))

one_pack : (entries : List JournalEntry) (t : ℕ) → switches_of (entries ++ journal.Packed t ∷ []) ≡ switches_of entries + 1
one_pack entries t = omega (arith, sum_by-append (λ (e : JournalEntry). cond (is_switch e) 1 0) entries (journal.Packed t ∷ []))

module _ (m now : Machine) (n : ℕ) (own : ℕ → Bool) (known : View) (is : IsDatabase m.list) (told : told_of n now.sessions ≡ told_of n m.sessions) (knows : Knows m n own known) where
  know_stays : now.list ≡ m.list → now.journal ≡ m.journal → Knows now n own known
  know_stays list entries =
      let untold_is : untold now n ≡ untold m n = ap (λ (k : ℕ). filter (is_news_for n) (drop k now.journal)) told ∙ ap (λ (j : List JournalEntry). filter (is_news_for n) (drop (told_of n m.sessions) j)) entries in
      let view : view_at now ≡ view_at m =
      ap (λ (l : List Transaction). let v : View = record { front = newest_tid l + 1; list = l; switches = switches_of now.journal } in v) list
      ∙ ap (λ (j : List JournalEntry). let v : View = record { front = newest_tid m.list + 1; list = m.list; switches = switches_of j } in v) entries in
      record {
        told = omega (arith, told, knows.told, ap length entries);
        later = subst (λ (v : View). Later known v) (sym view) knows.later;
        between = subst (λ (xs : List JournalEntry). AreBetween known.front (newest_tid now.list + 1) xs) (sym untold_is) (subst (λ (l : List Transaction). AreBetween known.front (newest_tid l + 1) (untold m n)) (sym list) knows.between);
        quiet = λ oid front mine low until. ap (read_below oid front) list ∙ knows.quiet oid front mine low (subst (λ (xs : List JournalEntry). IsUntil front oid xs) untold_is until);
        packs = λ none. knows.packs (subst (λ (xs : List JournalEntry). list_any is_switch xs ≡ false) untold_is none) ∙ ap switches_of (sym entries);
      }

  know_commits : (other : ℕ) (t : Transaction) → (other ≡ n → ⊥) → newest_tid m.list < t.tid → now.list ≡ m.list ++ t ∷ [] → now.journal ≡ m.journal ++ journal.Commit other t.tid (oids_of t) ∷ [] → Knows now n own known
  know_commits other t ne above list entries =
      let entry : JournalEntry = journal.Commit other t.tid (oids_of t) in
      let more : HasOneMore m.list now.list = record { newest = t; behind = list; later = above } in
      let newest : newest_tid now.list ≡ t.tid = ap newest_tid list ∙ newest-push m.list t in
      let untold_is : untold now n ≡ untold m n ++ entry ∷ [] = untold_push m now n entry told entries knows.told ∙ ap (λ (xs : List JournalEntry). untold m n ++ xs) (commit_is_news n other t.tid (oids_of t) ne) in
      let same : switches_of now.journal ≡ switches_of m.journal = ap switches_of entries ∙ one_commit m.journal other t.tid (oids_of t) in
      let grown : Later (view_at m) (view_at now) =
      subst (λ (k : ℕ). Later (view_at m) (record { front = newest_tid now.list + 1; list = now.list; switches = k })) (sym same) (later_more m.list now.list (switches_of m.journal) more) in
      record {
        told = omega (arith, told, knows.told, ap length entries, length-append m.journal (entry ∷ []));
        later = later_view known (view_at m) (view_at now) knows.later grown;
        between = subst (λ (xs : List JournalEntry). AreBetween known.front (newest_tid now.list + 1) xs) (sym untold_is)
            (subst (λ (k : ℕ). AreBetween known.front (k + 1) (untold m n ++ entry ∷ [])) (sym newest)
            (between_more known.front (newest_tid m.list + 1) t.tid other (oids_of t) (untold m n) knows.later.front (omega (arith, above)) knows.between));
        quiet = λ oid front mine low until.
            let parts = until_split front oid (untold m n) (entry ∷ []) (subst (λ (xs : List JournalEntry). IsUntil front oid xs) untold_is until) in
            ap (read_below oid front) list ∙ behind oid front t (is_one_of (oids_of t) oid) refl parts.1.0 ∙ knows.quiet oid front mine low parts.0;
        packs = λ none. knows.packs (switch_left (untold m n) (entry ∷ []) (subst (λ (xs : List JournalEntry). list_any is_switch xs ≡ false) untold_is none)) ∙ sym same;
      }
    where
      behind : (oid front : ℕ) (x : Transaction) (b : Bool) → is_one_of (oids_of x) oid ≡ b → (is_one_of (oids_of x) oid ≡ true → front ≤ x.tid) → read_below oid front (m.list ++ x ∷ []) ≡ read_below oid front m.list
      behind oid front x true names low = ap (option_and_then read_from) (revision_behind oid front m.list (x ∷ []) (low names, tt))
      behind oid front x false names low = unchanged_read oid front m.list x names

  know_packs : (t : ℕ) (keep : FinSet nat_cmp) → t < newest_tid m.list → now.list ≡ packed_by t keep m.list → now.journal ≡ m.journal ++ journal.Packed t ∷ [] → Knows now n own known
  know_packs t keep below list entries =
      let untold_is : untold now n ≡ untold m n ++ journal.Packed t ∷ [] = untold_push m now n (journal.Packed t) told entries knows.told in
      let newest : newest_tid now.list ≡ newest_tid m.list = ap newest_tid list ∙ newest_packed t keep m.list below in
      let one : switches_of now.journal ≡ switches_of m.journal + 1 = ap switches_of entries ∙ one_pack m.journal t in
      let packed : Later (view_at m) (view_at now) =
      subst (λ (l : List Transaction). Later (view_at m) (record { front = newest_tid l + 1; list = l; switches = switches_of now.journal })) (sym list)
      (later_packed m.list t (switches_of m.journal) (switches_of now.journal) keep is below (omega (arith, one))) in
      record {
        told = omega (arith, told, knows.told, ap length entries, length-append m.journal (journal.Packed t ∷ []));
        later = later_view known (view_at m) (view_at now) knows.later packed;
        between = subst (λ (xs : List JournalEntry). AreBetween known.front (newest_tid now.list + 1) xs) (sym untold_is)
            (subst (λ (k : ℕ). AreBetween known.front (k + 1) (untold m n ++ journal.Packed t ∷ [])) (sym newest) (between_packed known.front (newest_tid m.list + 1) t (untold m n) knows.between));
        quiet = λ oid front mine low until.
            absurd ((until_split front oid (untold m n) (journal.Packed t ∷ []) (subst (λ (xs : List JournalEntry). IsUntil front oid xs) untold_is until)).1);
        packs = λ none.
            let bad : true ≡ false = switch_right (untold m n) (journal.Packed t ∷ []) (subst (λ (xs : List JournalEntry). list_any is_switch xs ≡ false) untold_is none) in
            absurd (true≢false bad);
      }

  pub know_on : OtherMoves m now n → Knows now n own known
  know_on (stays list entries) = know_stays list entries
  know_on (commits other t ne above list entries) = know_commits other t ne above list entries
  know_on (packs t keep below list entries) = know_packs t keep below list entries

-- ---- a commit of the session's own

between_raised : (low high more : ℕ) (xs : List JournalEntry) → high ≤ more → AreBetween low high xs → AreBetween low more xs
between_raised low high more [] l h = tt
between_raised low high more (journal.Commit s t os ∷ xs) l h = (h.0, omega (arith, h.1, l), between_raised (t + 1) high more xs l h.2)
between_raised low high more (journal.Packed t ∷ xs) l h = between_raised low high more xs l h

own_is_none : (n tid : ℕ) (oids : List ℕ) → filter (is_news_for n) (journal.Commit n tid oids ∷ []) ≡ []
own_is_none n tid oids = rw (eqb-same n n refl) refl

not_one : (names mine : Bool) → (names ≡ true → mine ≡ true) → mine ≡ false → names ≡ false
not_one true mine may free = absurd (true≢false (sym (may refl) ∙ free))
not_one false mine may free = refl

pub know_own : (m now : Machine) (n : ℕ) (own : ℕ → Bool) (known : View) (t : Transaction) → told_of n now.sessions ≡ told_of n m.sessions → Knows m n (λ oid. false) known → newest_tid m.list < t.tid
    → now.list ≡ m.list ++ t ∷ [] → now.journal ≡ m.journal ++ journal.Commit n t.tid (oids_of t) ∷ [] → ((oid : ℕ) → is_one_of (oids_of t) oid ≡ true → own oid ≡ true) → Knows now n own known
know_own m now n own known t told knows above list entries mine =
    let entry : JournalEntry = journal.Commit n t.tid (oids_of t) in
    let more : HasOneMore m.list now.list = record { newest = t; behind = list; later = above } in
    let untold_is : untold now n ≡ untold m n = untold_push m now n entry told entries knows.told ∙ ap (λ (xs : List JournalEntry). untold m n ++ xs) (own_is_none n t.tid (oids_of t)) ∙ append-nil (untold m n) in
    let kept : switches_of now.journal ≡ switches_of m.journal = ap switches_of entries ∙ one_commit m.journal n t.tid (oids_of t) in
    let grown : Later (view_at m) (view_at now) =
    subst (λ (k : ℕ). Later (view_at m) (record { front = newest_tid now.list + 1; list = now.list; switches = k })) (sym kept) (later_more m.list now.list (switches_of m.journal) more) in
    record {
      told = omega (arith, told, knows.told, ap length entries, length-append m.journal (entry ∷ []));
      later = later_view known (view_at m) (view_at now) knows.later grown;
      between = subst (λ (xs : List JournalEntry). AreBetween known.front (newest_tid now.list + 1) xs) (sym untold_is)
          (between_raised known.front (newest_tid m.list + 1) (newest_tid now.list + 1) (untold m n) (omega (arith, newest_more m.list now.list more)) knows.between);
      quiet = λ oid front free low until.
          ap (read_below oid front) list ∙ unchanged_read oid front m.list t (not_one (is_one_of (oids_of t) oid) (own oid) (mine oid) free)
          ∙ knows.quiet oid front refl low (subst (λ (xs : List JournalEntry). IsUntil front oid xs) untold_is until);
      packs = λ none. knows.packs (subst (λ (xs : List JournalEntry). list_any is_switch xs ≡ false) untold_is none) ∙ sym kept;
    }
