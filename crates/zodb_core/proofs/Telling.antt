-- What sessions are still to be told of the journal.
use Rattle.std.proofs.Common.{◌≡◌, ℕ, zero, suc, ◌+◌, ◌<◌, ◌≤◌, Bool, true, false, cond, not, ltb, leb, eqb, eq-eqb, ◌≢◌, ⊎_elim, ◌⊎◌, inl, inr, List, [], ◌∷◌, ◌++◌, Option, Some, None, Result, Ok, Err, map, filter, length, drop, take, set, refl, sym, ap, subst, ◌∙◌, arith, append-nil, append_assoc, length-append, get_or}
use Rattle.std.specs.Prelude.{◌==◌, ◌&&◌, ◌||◌, nat_lt, nat_le, slice_get, if◌then◌else◌, option_to_list, IfOk}
use Rattle.std.specs.List.{cons_option, filter_map, list_any}
use Rattle.std.proofs.lemmas.List.{length-set}
use Rattle.std.specs.Option.{option_map, option_map_or}
use Rattle.std.proofs.Math.Nat.{eq-or-lt_of_le}
use Rattle.std.proofs.lemmas.Bool.{cases_Bool, le-leb, lt-leb, lt-ltb, le-ltb, ltb-true, ltb-false, eqb-true}
use Rattle.std.proofs.lemmas.Option.{get_or_from_slice_get, slice_get_within, slice_get-map}
use Rattle.invalidation_queue.specs.Queued.{Queued, pushed, queued}
use Rattle.zb_model.specs.declared.news.News.{News}
use Rattle.zb_model.specs.declared.news.NewsCommit.{NewsCommit}
use Rattle.zodb_core.specs.declared.journal.JournalEntry.{JournalEntry}
use Rattle.zodb_core.specs.declared.journal.JournalEntry.TheVariants.{Commit, Packed}
use Rattle.zodb_core.specs.declared.session.HubSession.{HubSession}
use Rattle.zodb_core.specs.Machine.{MachineSession, commit_in, is_news_for, is_open_in, is_switch, news_limit, news_of, session_limit, told_of}
use Rattle.zodb_core.specs.Telling.{EachKeepsUntold, JournalKeeps, KeepsUntold, commit_at, commit_of_entry, noted, places_from, session_seen, switched_up_to, untold_places}

-- ---- queues

-- a number behind those of a queue is one more of them
pub pushed_queued : (capacity : ℕ) (xs : List ℕ) (x : ℕ) → pushed (queued capacity xs) x ≡ queued capacity (xs ++ x ∷ [])
pushed_queued capacity xs x = by_past (ltb capacity (length xs)) refl
  where
    more : length (xs ++ x ∷ []) ≡ length xs + 1
    more = length-append xs (x ∷ [])

    by_full : (b : Bool) → ltb (length xs) capacity ≡ b → ltb capacity (length xs) ≡ false → pushed (queued capacity xs) x ≡ queued capacity (xs ++ x ∷ [])
    by_full true less fits =
        let room = ltb-true (length xs) capacity less in
        let within : leb (length xs) capacity ≡ true = le-leb (length xs) capacity (omega (arith, room)) in
        let still : leb (length xs + 1) capacity ≡ true = le-leb (length xs + 1) capacity (omega (arith, room)) in
        let none : ltb capacity (length xs + 1) ≡ false = le-ltb capacity (length xs + 1) (omega (arith, room)) in
        rw more (rw within (rw fits (rw less (rw still (rw none refl)))))
    by_full false full fits =
        let at = ltb-false (length xs) capacity full in
        let below = ltb-false capacity (length xs) fits in
        let within : leb (length xs) capacity ≡ true = le-leb (length xs) capacity below in
        let past : leb (length xs + 1) capacity ≡ false = lt-leb (length xs + 1) capacity (omega (arith, at)) in
        let some : ltb capacity (length xs + 1) ≡ true = lt-ltb capacity (length xs + 1) (omega (arith, at)) in
        rw more (rw within (rw fits (rw full (rw past (rw some refl)))))

    by_past : (b : Bool) → ltb capacity (length xs) ≡ b → pushed (queued capacity xs) x ≡ queued capacity (xs ++ x ∷ [])
    by_past true past =
        let above = ltb-true capacity (length xs) past in
        let out : leb (length xs) capacity ≡ false = lt-leb (length xs) capacity above in
        let still : leb (length xs + 1) capacity ≡ false = lt-leb (length xs + 1) capacity (omega (arith, above)) in
        let some : ltb capacity (length xs + 1) ≡ true = lt-ltb capacity (length xs + 1) (omega (arith, above)) in
        rw more (rw out (rw past (rw still (rw some refl))))
    by_past false fits = by_full (ltb (length xs) capacity) refl fits

-- ---- places

pub places_count : (n place : ℕ) (entries : List JournalEntry) → length (places_from n place entries) ≡ length (filter (is_news_for n) entries)
places_count n place [] = refl
places_count n place (e ∷ entries) = by_news (is_news_for n e) refl (places_count n (suc place) entries)
  where
    by_news : (b : Bool) → is_news_for n e ≡ b → length (places_from n (suc place) entries) ≡ length (filter (is_news_for n) entries)
        → length (places_from n place (e ∷ entries)) ≡ length (filter (is_news_for n) (e ∷ entries))
    by_news true is again = rw is (ap suc again)
    by_news false is again = rw is again

-- one entry more
pub places_more : (n place : ℕ) (entries : List JournalEntry) (e : JournalEntry)
    → places_from n place (entries ++ e ∷ []) ≡ places_from n place entries ++ (if is_news_for n e then (place + length entries) ∷ [] else [])
places_more n place [] e = by_news (is_news_for n e) refl
  where
    by_news : (b : Bool) → is_news_for n e ≡ b → places_from n place (e ∷ []) ≡ [] ++ (if is_news_for n e then (place + 0) ∷ [] else [])
    by_news true is = rw is (ap (λ (k : ℕ). k ∷ []) (omega arith))
    by_news false is = rw is refl
places_more n place (first ∷ entries) e =
    by_news (is_news_for n first) refl
    (places_more n (suc place) entries e ∙ ap (λ (k : ℕ). places_from n (suc place) entries ++ (if is_news_for n e then k ∷ [] else [])) (omega arith))
  where
    last : List ℕ
    last = if is_news_for n e then (place + length (first ∷ entries)) ∷ [] else []

    by_news : (b : Bool) → is_news_for n first ≡ b → places_from n (suc place) (entries ++ e ∷ []) ≡ places_from n (suc place) entries ++ last
        → places_from n place ((first ∷ entries) ++ e ∷ []) ≡ places_from n place (first ∷ entries) ++ last
    by_news true is rest = rw is (ap (λ (ks : List ℕ). place ∷ ks) rest)
    by_news false is rest = rw is rest

drop_more : (told : ℕ) (entries : List JournalEntry) (e : JournalEntry) → told ≤ length entries → drop told (entries ++ e ∷ []) ≡ drop told entries ++ e ∷ []
drop_more zero entries e within = refl
drop_more (suc told) [] e within = absurd (omega (arith, within))
drop_more (suc told) (x ∷ entries) e within = drop_more told entries e (omega (arith, within))

length_left : (told : ℕ) (entries : List JournalEntry) → told ≤ length entries → told + length (drop told entries) ≡ length entries
length_left zero entries within = omega arith
length_left (suc told) [] within = absurd (omega (arith, within))
length_left (suc told) (x ∷ entries) within = omega (arith, length_left told entries (omega (arith, within)))

-- of one entry more an open session is to be told where it is news
pub untold_more : (n told : ℕ) (entries : List JournalEntry) (e : JournalEntry) → told ≤ length entries
    → untold_places n told (entries ++ e ∷ []) ≡ untold_places n told entries ++ (if is_news_for n e then length entries ∷ [] else [])
untold_more n told entries e within =
    ap (places_from n told) (drop_more told entries e within)
    ∙ (places_more n told (drop told entries) e ∙ ap (λ (k : ℕ). untold_places n told entries ++ (if is_news_for n e then k ∷ [] else [])) (length_left told entries within))

none_left : (entries : List JournalEntry) → drop (length entries) entries ≡ []
none_left [] = refl
none_left (x ∷ entries) = none_left entries

-- of what happened before it was told nothing is left
pub none_untold : (n : ℕ) (entries : List JournalEntry) → untold_places n (length entries) entries ≡ []
none_untold n entries = ap (places_from n (length entries)) (none_left entries)

-- ---- the last pack

none_switched : (entries : List JournalEntry) → list_any is_switch entries ≡ false → switched_up_to entries ≡ 0
none_switched [] none = refl
none_switched (e ∷ entries) none = rw none refl

any_tail : (b c : Bool) → b || c ≡ false → c ≡ false
any_tail true c none = cc
any_tail false c none = none

ltb_both : (a b : ℕ) → ltb (suc a) (suc b) ≡ ltb a b
ltb_both a b = by_less (ltb a b) refl
  where
    by_less : (c : Bool) → ltb a b ≡ c → ltb (suc a) (suc b) ≡ ltb a b
    by_less true less = lt-ltb (suc a) (suc b) (omega (arith, ltb-true a b less)) ∙ sym less
    by_less false more = le-ltb (suc a) (suc b) (omega (arith, ltb-false a b more)) ∙ sym more

-- there is a pack behind the first entries exactly where they don't reach up to the last one
pub switched_behind : (told : ℕ) (entries : List JournalEntry) → list_any is_switch (drop told entries) ≡ ltb told (switched_up_to entries)
switched_behind zero [] = refl
switched_behind zero (e ∷ entries) = by_any (list_any is_switch (e ∷ entries)) refl
  where
    by_any : (b : Bool) → list_any is_switch (e ∷ entries) ≡ b → list_any is_switch (e ∷ entries) ≡ ltb 0 (switched_up_to (e ∷ entries))
    by_any true is = rw is (sym (lt-ltb 0 (suc (switched_up_to entries)) (omega arith)))
    by_any false is = rw is refl
switched_behind (suc told) [] = sym (le-ltb (suc told) 0 (omega arith))
switched_behind (suc told) (e ∷ entries) = by_any (list_any is_switch (e ∷ entries)) refl (switched_behind told entries)
  where
    by_any : (b : Bool) → list_any is_switch (e ∷ entries) ≡ b → list_any is_switch (drop told entries) ≡ ltb told (switched_up_to entries)
        → list_any is_switch (drop told entries) ≡ ltb (suc told) (switched_up_to (e ∷ entries))
    by_any true is again = rw is (again ∙ sym (ltb_both told (switched_up_to entries)))
    by_any false is again =
        rw is (again ∙ (ap (ltb told) (none_switched entries (any_tail (is_switch e) (list_any is_switch entries) is)) ∙ (le-ltb told 0 (omega arith) ∙ sym (le-ltb (suc told) 0 (omega arith)))))

-- a pack is news for each session
switch_is_news : (n : ℕ) (e : JournalEntry) → is_switch e ≡ true → is_news_for n e ≡ true
switch_is_news n (Commit session tid oids) is = cc
switch_is_news n (Packed tid) is = refl

pub switch_told : (n : ℕ) (entries : List JournalEntry) → list_any is_switch (filter (is_news_for n) entries) ≡ list_any is_switch entries
switch_told n [] = refl
switch_told n (e ∷ entries) = by_news (is_news_for n e) refl (switch_told n entries)
  where
    no_switch : (b : Bool) → is_switch e ≡ b → is_news_for n e ≡ false → is_switch e ≡ false
    no_switch true is other = let both = sym (switch_is_news n e is) ∙ other in cc
    no_switch false is other = is

    by_news : (b : Bool) → is_news_for n e ≡ b → list_any is_switch (filter (is_news_for n) entries) ≡ list_any is_switch entries
        → list_any is_switch (filter (is_news_for n) (e ∷ entries)) ≡ list_any is_switch (e ∷ entries)
    by_news true is again = rw is (ap (λ (b : Bool). is_switch e || b) again)
    by_news false is again = rw is (rw (no_switch (is_switch e) refl is) again)

or_true : (b : Bool) → b || true ≡ true
or_true true = refl
or_true false = refl

or_false : (b : Bool) → b || false ≡ b
or_false true = refl
or_false false = refl

or_join : (a b c : Bool) → a || (b || c) ≡ (a || b) || c
or_join true b c = refl
or_join false b c = refl

any_push : (xs : List JournalEntry) (y : JournalEntry) → list_any is_switch (xs ++ y ∷ []) ≡ list_any is_switch xs || is_switch y
any_push [] y = or_false (is_switch y)
any_push (z ∷ xs) y = ap (λ (b : Bool). is_switch z || b) (any_push xs y) ∙ or_join (is_switch z) (list_any is_switch xs) (is_switch y)

-- one entry more
pub switched_more : (entries : List JournalEntry) (e : JournalEntry) → switched_up_to (entries ++ e ∷ []) ≡ (if is_switch e then suc (length entries) else switched_up_to entries)
switched_more [] e = by_switch (is_switch e) refl
  where
    by_switch : (b : Bool) → is_switch e ≡ b → switched_up_to (e ∷ []) ≡ (if is_switch e then 1 else 0)
    by_switch true is = rw is refl
    by_switch false is = rw is refl
switched_more (x ∷ entries) e = by_switch (is_switch e) refl (switched_more entries e)
  where
    any_is : (b : Bool) → is_switch e ≡ b → list_any is_switch (x ∷ (entries ++ e ∷ [])) ≡ (if b then true else list_any is_switch (x ∷ entries))
    any_is true is = ap (λ (b : Bool). is_switch x || b) (any_push entries e ∙ (ap (λ (b : Bool). list_any is_switch entries || b) is ∙ or_true (list_any is_switch entries))) ∙ or_true (is_switch x)
    any_is false is = ap (λ (b : Bool). is_switch x || b) (any_push entries e ∙ (ap (λ (b : Bool). list_any is_switch entries || b) is ∙ or_false (list_any is_switch entries)))

    by_switch : (b : Bool) → is_switch e ≡ b → switched_up_to (entries ++ e ∷ []) ≡ (if is_switch e then suc (length entries) else switched_up_to entries)
        → switched_up_to (x ∷ (entries ++ e ∷ [])) ≡ (if is_switch e then suc (suc (length entries)) else switched_up_to (x ∷ entries))
    by_switch true is again = rw (any_is true is) (rw is (ap suc (again ∙ rw is refl)))
    by_switch false is again =
        rw (any_is false is) (rw is (ap (λ (k : ℕ). if list_any is_switch (x ∷ entries) then suc k else 0) (again ∙ rw is refl)))

-- ---- what is told

entry_there : (front : List JournalEntry) (e : JournalEntry) (rest : List JournalEntry) → slice_get (front ++ e ∷ rest) (length front) ≡ Some e
entry_there [] e rest = refl
entry_there (x ∷ front) e rest = entry_there front e rest

commits_there : (n : ℕ) (front entries : List JournalEntry)
    → filter_map (commit_at (front ++ entries)) (places_from n (length front) entries) ≡ filter_map commit_in (filter (is_news_for n) entries)
commits_there n front [] = refl
commits_there n front (e ∷ entries) = by_news (is_news_for n e) refl (moved (commits_there n (front ++ e ∷ []) entries))
  where
    longer : (front ++ e ∷ []) ++ entries ≡ front ++ (e ∷ entries)
    longer = append_assoc front (e ∷ []) entries

    moved : filter_map (commit_at ((front ++ e ∷ []) ++ entries)) (places_from n (length (front ++ e ∷ [])) entries) ≡ filter_map commit_in (filter (is_news_for n) entries)
        → filter_map (commit_at (front ++ (e ∷ entries))) (places_from n (suc (length front)) entries) ≡ filter_map commit_in (filter (is_news_for n) entries)
    moved again =
        ap (λ (es : List JournalEntry). filter_map (commit_at es) (places_from n (suc (length front)) entries)) (sym longer)
        ∙ (ap (λ (k : ℕ). filter_map (commit_at ((front ++ e ∷ []) ++ entries)) (places_from n k entries)) (omega (arith, length-append front (e ∷ []))) ∙ again)

    here : commit_at (front ++ (e ∷ entries)) (length front) ≡ commit_in e
    here = ap commit_of_entry (entry_there front e entries)

    by_news : (b : Bool) → is_news_for n e ≡ b → filter_map (commit_at (front ++ (e ∷ entries))) (places_from n (suc (length front)) entries) ≡ filter_map commit_in (filter (is_news_for n) entries)
        → filter_map (commit_at (front ++ (e ∷ entries))) (places_from n (length front) (e ∷ entries)) ≡ filter_map commit_in (filter (is_news_for n) (e ∷ entries))
    by_news true is again =
        rw is
        (ap (λ (c : Option NewsCommit). cons_option c (filter_map (commit_at (front ++ (e ∷ entries))) (places_from n (suc (length front)) entries))) here
        ∙ ap (cons_option (commit_in e)) again)
    by_news false is again = rw is again

front_and_rest : (told : ℕ) (entries : List JournalEntry) → take told entries ++ drop told entries ≡ entries
front_and_rest zero entries = refl
front_and_rest (suc told) [] = refl
front_and_rest (suc told) (x ∷ entries) = ap (λ (es : List JournalEntry). x ∷ es) (front_and_rest told entries)

front_length : (told : ℕ) (entries : List JournalEntry) → told ≤ length entries → length (take told entries) ≡ told
front_length zero entries within = refl
front_length (suc told) [] within = absurd (omega (arith, within))
front_length (suc told) (x ∷ entries) within = ap suc (front_length told entries (omega (arith, within)))

commits_behind : (n told : ℕ) (entries : List JournalEntry) → told ≤ length entries
    → filter_map (commit_at entries) (untold_places n told entries) ≡ filter_map commit_in (filter (is_news_for n) (drop told entries))
commits_behind n told entries within =
    ap (λ (es : List JournalEntry). filter_map (commit_at es) (places_from n told (drop told entries))) (sym (front_and_rest told entries))
    ∙ (ap (λ (k : ℕ). filter_map (commit_at (take told entries ++ drop told entries)) (places_from n k (drop told entries))) (sym (front_length told entries within))
    ∙ commits_there n (take told entries) (drop told entries))

-- what a queue says of the entries that an open session wasn't told yet, and whether there is a pack among them, is its news
pub news_told : (n switched : ℕ) (entries : List JournalEntry) (s : HubSession) (news : News) → KeepsUntold n entries s → switched ≡ switched_up_to entries
    → news ≡ record { forget = s.untold.forgotten; packed = ltb s.told switched; commits = if s.untold.forgotten then [] else filter_map (commit_at entries) s.untold.numbers }
    → news ≡ news_of (filter (is_news_for n) (drop s.told entries))
news_told n switched entries s news keeps last is = is ∙ by_many (ltb news_limit (length untold)) refl
  where
    untold : List ℕ
    untold = untold_places n s.told entries

    news_for : List JournalEntry
    news_for = filter (is_news_for n) (drop s.told entries)

    count : length untold ≡ length news_for
    count = places_count n s.told (drop s.told entries)

    packed : ltb s.told switched ≡ list_any is_switch news_for
    packed = ap (ltb s.told) last ∙ (sym (switched_behind s.told entries) ∙ sym (switch_told n (drop s.told entries)))

    told_of_queue : Queued → News
    told_of_queue q = record { forget = q.forgotten; packed = ltb s.told switched; commits = if q.forgotten then [] else filter_map (commit_at entries) q.numbers }

    by_many : (b : Bool) → ltb news_limit (length untold) ≡ b → told_of_queue s.untold ≡ news_of news_for
    by_many true many =
        let over : ltb news_limit (length news_for) ≡ true = ap (ltb news_limit) (sym count) ∙ many in
        ap told_of_queue keeps.queue ∙ rw many (rw over (rw packed refl))
    by_many false few =
        let under : ltb news_limit (length news_for) ≡ false = ap (ltb news_limit) (sym count) ∙ few in
        let fits : leb (length untold) news_limit ≡ true = le-leb (length untold) news_limit (ltb-false news_limit (length untold) few) in
        let same = commits_behind n s.told entries keeps.within in
        ap told_of_queue keeps.queue ∙ rw few (rw fits (rw under (rw packed (ap (λ (cs : List NewsCommit). record { forget = false; packed = list_any is_switch news_for; commits = cs }) same))))

-- ---- what the hub keeps

pub keeps_none : JournalKeeps [] 0 []
keeps_none = record { few = omega arith; each = λ n s there is_open. let none : None ≡ Some s = there in absurd cc; last = refl }

-- a session that is told nothing yet
keeps_new : (n : ℕ) (entries : List JournalEntry) (s : HubSession) → s.told ≡ length entries → s.untold ≡ queued news_limit [] → s.newest ≤ length entries
    → list_any (is_news_for n) (drop s.newest entries) ≡ false → KeepsUntold n entries s
keeps_new n entries s told untold newest quiet = record {
  newest = newest;
  quiet = quiet;
  within = omega (arith, told);
  queue = untold ∙ ap (queued news_limit) (sym (none_untold n entries) ∙ ap (λ (k : ℕ). untold_places n k entries) (sym told));
}

get_more : (xs : List HubSession) (x y : HubSession) (k : ℕ) → slice_get (xs ++ x ∷ []) k ≡ Some y → (slice_get xs k ≡ Some y) ⊎ ((k ≡ length xs) × (x ≡ y))
get_more [] x y zero there = let same : x ≡ y = cc in inr (refl, same)
get_more [] x y (suc k) there = let none : None ≡ Some y = there in absurd cc
get_more (z ∷ xs) x y zero there = inl there
get_more (z ∷ xs) x y (suc k) there = ⊎_elim (λ (f : slice_get xs k ≡ Some y). inl f) (λ (f : (k ≡ length xs) × (x ≡ y)). inr (ap suc f.0, f.1)) (get_more xs x y k there)

-- behind all entries there is no news
none_behind : (n : ℕ) (entries : List JournalEntry) (newest : ℕ) → newest ≡ length entries → list_any (is_news_for n) (drop newest entries) ≡ false
none_behind n entries newest at = ap (λ (k : ℕ). list_any (is_news_for n) (drop k entries)) at ∙ ap (list_any (is_news_for n)) (none_left entries)

pub keeps_opened : (entries : List JournalEntry) (switched : ℕ) (kept : List HubSession) (s : HubSession) → JournalKeeps entries switched kept → length kept < session_limit
    → s.told ≡ length entries → s.untold ≡ queued news_limit [] → s.newest ≡ length entries → JournalKeeps entries switched (kept ++ s ∷ [])
keeps_opened entries switched kept s keeps few told untold newest = record {
  few = omega (arith, few, length-append kept (s ∷ []));
  each = λ n y there is_open.
      ⊎_elim (λ (f : slice_get kept n ≡ Some y). keeps.each n y f is_open)
      (λ (f : (n ≡ length kept) × (s ≡ y)). subst (KeepsUntold n entries) f.1 (keeps_new n entries s told untold (omega (arith, newest)) (none_behind n entries s.newest newest))) (get_more kept s y n there);
  last = keeps.last;
}

get_set : (xs : List HubSession) (at k : ℕ) (x y : HubSession) → slice_get (set xs at x) k ≡ Some y → ((k ≡ at) × (x ≡ y)) ⊎ (slice_get xs k ≡ Some y)
get_set [] at k x y there = inr there
get_set (z ∷ xs) zero zero x y there = let same : x ≡ y = cc in inl (refl, same)
get_set (z ∷ xs) zero (suc k) x y there = inr there
get_set (z ∷ xs) (suc at) zero x y there = inr there
get_set (z ∷ xs) (suc at) (suc k) x y there = ⊎_elim (λ (f : (k ≡ at) × (x ≡ y)). inl (ap suc f.0, f.1)) (λ (f : slice_get xs k ≡ Some y). inr f) (get_set xs at k x y there)

-- another session in the place of one
keeps_changed : (entries : List JournalEntry) (switched : ℕ) (kept : List HubSession) (at : ℕ) (s : HubSession) → JournalKeeps entries switched kept
    → (s.is_open ≡ true → KeepsUntold at entries s) → JournalKeeps entries switched (set kept at s)
keeps_changed entries switched kept at s keeps new = record {
  few = omega (arith, keeps.few, length-set kept at s);
  each = λ n y there is_open.
      ⊎_elim (λ (f : (n ≡ at) × (s ≡ y)).
      let is : s.is_open ≡ true = ap (λ (z : HubSession). z.is_open) f.1 ∙ is_open in
      subst (λ (m : ℕ). KeepsUntold m entries y) (sym f.0) (subst (KeepsUntold at entries) f.1 (new is)))
      (λ (f : slice_get kept n ≡ Some y). keeps.each n y f is_open) (get_set kept at n s y there);
  last = keeps.last;
}

pub keeps_told : (entries : List JournalEntry) (switched : ℕ) (kept : List HubSession) (at : ℕ) (old s : HubSession) → JournalKeeps entries switched kept
    → slice_get kept at ≡ Some old → old.is_open ≡ true → s.newest ≡ old.newest
    → s.told ≡ length entries → s.untold ≡ queued news_limit [] → JournalKeeps entries switched (set kept at s)
keeps_told entries switched kept at old s keeps there was_open newest told untold = keeps_changed entries switched kept at s keeps (λ is_open.
    let was = keeps.each at old there was_open in
    keeps_new at entries s told untold (omega (arith, newest, was.newest)) (ap (λ (k : ℕ). list_any (is_news_for at) (drop k entries)) newest ∙ was.quiet))

-- from how many entries on there is no news, there is none further on
pub quiet_behind : (n newest told : ℕ) (entries : List JournalEntry) → newest ≤ told → list_any (is_news_for n) (drop newest entries) ≡ false → list_any (is_news_for n) (drop told entries) ≡ false
quiet_behind n zero zero entries within quiet = quiet
quiet_behind n zero (suc told) [] within quiet = refl
quiet_behind n zero (suc told) (e ∷ entries) within quiet = quiet_behind n zero told entries (omega arith) (none_of (is_news_for n e) (list_any (is_news_for n) entries) quiet)
  where
    none_of : (a b : Bool) → (a || b) ≡ false → b ≡ false
    none_of true b e = let no : true ≡ false = e in absurd cc
    none_of false b e = e
quiet_behind n (suc newest) zero entries within quiet = absurd (omega (arith, within))
quiet_behind n (suc newest) (suc told) [] within quiet = refl
quiet_behind n (suc newest) (suc told) (e ∷ entries) within quiet = quiet_behind n newest told entries (omega (arith, within)) quiet

-- an entry more that is no news
quiet_more : (n newest : ℕ) (entries : List JournalEntry) (e : JournalEntry) → newest ≤ length entries → is_news_for n e ≡ false → list_any (is_news_for n) (drop newest entries) ≡ false
    → list_any (is_news_for n) (drop newest (entries ++ e ∷ [])) ≡ false
quiet_more n newest entries e within none quiet =
    ap (list_any (is_news_for n)) (drop_more newest entries e within) ∙ any_more (drop newest entries) quiet
  where
    any_more : (es : List JournalEntry) → list_any (is_news_for n) es ≡ false → list_any (is_news_for n) (es ++ e ∷ []) ≡ false
    any_more [] quiet = rw none refl
    any_more (x ∷ es) quiet = by_first (is_news_for n x) (any_more es) quiet
      where
        by_first : (b : Bool) → (list_any (is_news_for n) es ≡ false → list_any (is_news_for n) (es ++ e ∷ []) ≡ false) → (b || list_any (is_news_for n) es) ≡ false → (b || list_any (is_news_for n) (es ++ e ∷ [])) ≡ false
        by_first true rest q = let no : true ≡ false = q in absurd cc
        by_first false rest q = rest q

pub keeps_closed : (entries : List JournalEntry) (switched : ℕ) (kept : List HubSession) (at : ℕ) (s : HubSession) → JournalKeeps entries switched kept
    → s.is_open ≡ false → JournalKeeps entries switched (set kept at s)
keeps_closed entries switched kept at s keeps closed = keeps_changed entries switched kept at s keeps (λ is_open. let both = sym closed ∙ is_open in absurd cc)

-- ---- one entry more

-- what is noted of the sessions before one
abbrev pub noted_below : ℕ → ℕ → ℕ → JournalEntry → HubSession → HubSession
noted_below end n place e s = if ltb n end then noted n place e s else s

-- what is noted of an entry keeps what is seen of a session
noted_seen : (n place : ℕ) (e : JournalEntry) (s : HubSession) → session_seen (noted n place e s) ≡ session_seen s
noted_seen n place e s = by_news (s.is_open && is_news_for n e) refl
  where
    by_news : (b : Bool) → s.is_open && is_news_for n e ≡ b → session_seen (noted n place e s) ≡ session_seen s
    by_news true is = rw is refl
    by_news false is = rw is refl

shifted_seen : (f : ℕ → HubSession → HubSession) (xs ys : List HubSession) → ((n : ℕ) (s : HubSession) → session_seen (f n s) ≡ session_seen s)
    → ((k : ℕ) → slice_get ys k ≡ option_map (f k) (slice_get xs k)) → map session_seen ys ≡ map session_seen xs
shifted_seen f [] [] same each = refl
shifted_seen f [] (y ∷ ys) same each = let none : Some y ≡ None = each 0 in absurd cc
shifted_seen f (x ∷ xs) [] same each = let none : None ≡ Some (f 0 x) = each 0 in absurd cc
shifted_seen f (x ∷ xs) (y ∷ ys) same each =
    let first : Some y ≡ Some (f 0 x) = each 0 in
    let is : y ≡ f 0 x = cc in
    let here : session_seen y ≡ session_seen x = ap session_seen is ∙ same 0 x in
    let rest = shifted_seen (λ k. f (suc k)) xs ys (λ n s. same (suc n) s) (λ k. each (suc k)) in
    ap (λ (z : MachineSession). z ∷ map session_seen ys) here ∙ ap (λ (zs : List MachineSession). session_seen x ∷ zs) rest

pub seen_pushed : (place : ℕ) (e : JournalEntry) (old new : List HubSession) → ((k : ℕ) → slice_get new k ≡ option_map (noted k place e) (slice_get old k)) → map session_seen new ≡ map session_seen old
seen_pushed place e old new each = shifted_seen (λ k. noted k place e) old new (λ n s. noted_seen n place e s) each

keeps_noted : (n : ℕ) (entries : List JournalEntry) (e : JournalEntry) (s : HubSession) → s.is_open ≡ true → KeepsUntold n entries s → KeepsUntold n (entries ++ e ∷ []) (noted n (length entries) e s)
keeps_noted n entries e s is_open keeps = by_news (is_news_for n e) refl
  where
    more : length (entries ++ e ∷ []) ≡ length entries + 1
    more = length-append entries (e ∷ [])

    untold : untold_places n s.told (entries ++ e ∷ []) ≡ untold_places n s.told entries ++ (if is_news_for n e then length entries ∷ [] else [])
    untold = untold_more n s.told entries e keeps.within

    by_news : (b : Bool) → is_news_for n e ≡ b → KeepsUntold n (entries ++ e ∷ []) (noted n (length entries) e s)
    by_news true is =
        let pushes : noted n (length entries) e s ≡ record s { untold = pushed s.untold (length entries); newest = length entries + 1 } = rw is_open (rw is refl) in
        let all : untold_places n s.told (entries ++ e ∷ []) ≡ untold_places n s.told entries ++ length entries ∷ [] = untold ∙ rw is refl in
        subst (KeepsUntold n (entries ++ e ∷ [])) (sym pushes)
        (record {
          newest = omega (arith, more);
          quiet = none_behind n (entries ++ e ∷ []) (length entries + 1) (sym more);
          within = omega (arith, keeps.within, more);
          queue = ap (λ (q : Queued). pushed q (length entries)) keeps.queue ∙ (pushed_queued news_limit (untold_places n s.told entries) (length entries) ∙ ap (queued news_limit) (sym all));
        })
    by_news false is =
        let stays : noted n (length entries) e s ≡ s = rw is_open (rw is refl) in
        let all : untold_places n s.told (entries ++ e ∷ []) ≡ untold_places n s.told entries = untold ∙ (rw is (append-nil (untold_places n s.told entries))) in
        subst (KeepsUntold n (entries ++ e ∷ [])) (sym stays) (record { within = omega (arith, keeps.within, more); queue = keeps.queue ∙ ap (queued news_limit) (sym all); newest = omega (arith, keeps.newest, more); quiet = quiet_more n s.newest entries e keeps.newest is keeps.quiet })

noted_open : (n place : ℕ) (e : JournalEntry) (s : HubSession) → (noted n place e s).is_open ≡ s.is_open
noted_open n place e s = ap (λ (x : MachineSession). x.is_open) (noted_seen n place e s)

-- which session was at a place
was_there : (o : Option HubSession) (f : HubSession → HubSession) (y : HubSession) → option_map f o ≡ Some y → (x : HubSession) × (o ≡ Some x) × (f x ≡ y)
was_there None f y is = let none : None ≡ Some y = is in absurd cc
was_there (Some x) f y is = let same : f x ≡ y = cc in (x, refl, same)

pub keeps_pushed : (entries : List JournalEntry) (switched now place : ℕ) (e : JournalEntry) (old new : List HubSession) → JournalKeeps entries switched old → place ≡ length entries
    → ((k : ℕ) → slice_get new k ≡ option_map (noted k place e) (slice_get old k)) → length new ≡ length old → now ≡ (if is_switch e then place + 1 else switched)
    → JournalKeeps (entries ++ e ∷ []) now new
keeps_pushed entries switched now place e old new keeps at each count last = record {
  few = omega (arith, keeps.few, count);
  each = λ n y there is_open.
      let was = was_there (slice_get old n) (noted n place e) y (sym (each n) ∙ there) in
      let open_before : was.0.is_open ≡ true = sym (noted_open n place e was.0) ∙ (ap (λ (z : HubSession). z.is_open) was.2 ∙ is_open) in
      let noted_now = keeps_noted n entries e was.0 open_before (keeps.each n was.0 was.1 open_before) in
      subst (KeepsUntold n (entries ++ e ∷ [])) (ap (λ (k : ℕ). noted n k e was.0) (sym at) ∙ was.2) noted_now;
  last = last ∙ (by_switch (is_switch e) ∙ sym (switched_more entries e));
}
  where
    by_switch : (b : Bool) → (if b then place + 1 else switched) ≡ (if b then suc (length entries) else switched_up_to entries)
    by_switch true = omega (arith, at)
    by_switch false = keeps.last

-- ---- one session after another

pub none_noted : (place : ℕ) (e : JournalEntry) (xs : List HubSession) (k : ℕ) → slice_get xs k ≡ option_map (noted_below 0 k place e) (slice_get xs k)
none_noted place e xs k = by_place (slice_get xs k)
  where
    by_place : (o : Option HubSession) → o ≡ option_map (noted_below 0 k place e) o
    by_place None = refl
    by_place (Some x) = ap Some (sym (ap (λ (b : Bool). if b then noted k place e x else x) (le-ltb k 0 (omega arith))))

get_set_same : (xs : List HubSession) (at : ℕ) (x y : HubSession) → slice_get xs at ≡ Some y → slice_get (set xs at x) at ≡ Some x
get_set_same [] at x y there = let none : None ≡ Some y = there in absurd cc
get_set_same (z ∷ xs) zero x y there = refl
get_set_same (z ∷ xs) (suc at) x y there = get_set_same xs at x y there

get_set_other : (xs : List HubSession) (at k : ℕ) (x : HubSession) → k ≢ at → slice_get (set xs at x) k ≡ slice_get xs k
get_set_other [] at k x other = refl
get_set_other (z ∷ xs) zero zero x other = absurd (other refl)
get_set_other (z ∷ xs) zero (suc k) x other = refl
get_set_other (z ∷ xs) (suc at) zero x other = refl
get_set_other (z ∷ xs) (suc at) (suc k) x other = get_set_other xs at k x (λ (is : k ≡ at). other (ap suc is))

module _ (place : ℕ) (e : JournalEntry) (old now : List HubSession) (at : ℕ) (each : (k : ℕ) → slice_get now k ≡ option_map (noted_below at k place e) (slice_get old k)) where
  other_below : (k : ℕ) (s : HubSession) → k ≢ at → noted_below at k place e s ≡ noted_below (at + 1) k place e s
  other_below k s other = ap (λ (b : Bool). if b then noted k place e s else s) (by_less (ltb k at) refl)
    where
      by_less : (b : Bool) → ltb k at ≡ b → ltb k at ≡ ltb k (at + 1)
      by_less true less = less ∙ sym (lt-ltb k (at + 1) (omega (arith, ltb-true k at less)))
      by_less false more = more ∙ sym (le-ltb k (at + 1) (beyond (ltb-false k at more)))
        where
          beyond : at ≤ k → at + 1 ≤ k
          beyond within = ⊎_elim (λ (f : at ≡ k). absurd (other (sym f))) (λ (f : at < k). omega (arith, f)) (eq-or-lt_of_le within)

  same_below : (s : HubSession) → noted at place e s ≡ noted_below (at + 1) at place e s
  same_below s = sym (ap (λ (b : Bool). if b then noted at place e s else s) (lt-ltb at (at + 1) (omega arith)))

  here_before : (s : HubSession) → noted_below at at place e s ≡ s
  here_before s = ap (λ (b : Bool). if b then noted at place e s else s) (le-ltb at at (omega arith))

  -- the session at a place is noted
  pub one_noted : (x y : HubSession) → slice_get now at ≡ Some x → y ≡ noted at place e x → (k : ℕ) → slice_get (set now at y) k ≡ option_map (noted_below (at + 1) k place e) (slice_get old k)
  one_noted x y there is k = by_same (eqb k at) refl
    where
      by_old : (o : Option HubSession) → slice_get old at ≡ o → slice_get (set now at y) at ≡ option_map (noted_below (at + 1) at place e) o
      by_old None gone = let none : Some x ≡ None = sym there ∙ (each at ∙ ap (option_map (noted_below at at place e)) gone) in absurd cc
      by_old (Some s) was =
          let found : Some x ≡ Some (noted_below at at place e s) = sym there ∙ (each at ∙ ap (option_map (noted_below at at place e)) was) in
          let same : x ≡ noted_below at at place e s = cc in
          let before : x ≡ s = same ∙ here_before s in
          get_set_same now at y x there ∙ ap Some (is ∙ (ap (noted at place e) before ∙ same_below s))

      by_other : k ≢ at → (o : Option HubSession) → slice_get old k ≡ o → slice_get (set now at y) k ≡ option_map (noted_below (at + 1) k place e) o
      by_other other None gone = get_set_other now at k y other ∙ (each k ∙ ap (option_map (noted_below at k place e)) gone)
      by_other other (Some s) was = get_set_other now at k y other ∙ (each k ∙ (ap (option_map (noted_below at k place e)) was ∙ ap Some (other_below k s other)))

      by_same : (b : Bool) → eqb k at ≡ b → slice_get (set now at y) k ≡ option_map (noted_below (at + 1) k place e) (slice_get old k)
      by_same true same = subst (λ (j : ℕ). slice_get (set now at y) j ≡ option_map (noted_below (at + 1) j place e) (slice_get old j)) (sym (eqb-true k at same)) (by_old (slice_get old at) refl)
      by_same false differs = by_other (λ (is : k ≡ at). let both = sym (eq-eqb k at is) ∙ differs in absurd cc) (slice_get old k) refl

  -- all were
  pub all_noted : length now ≡ length old → length now ≤ at → (k : ℕ) → slice_get now k ≡ option_map (noted k place e) (slice_get old k)
  all_noted count end k = each k ∙ by_old (slice_get old k) refl
    where
      by_old : (o : Option HubSession) → slice_get old k ≡ o → option_map (noted_below at k place e) o ≡ option_map (noted k place e) o
      by_old None gone = refl
      by_old (Some s) was =
          let within = slice_get_within old k s was in
          ap Some (ap (λ (b : Bool). if b then noted k place e s else s) (lt-ltb k at (omega (arith, within, count, end))))

-- ---- the session of a number

-- the one that is seen as open
pub open_there : (kept : List HubSession) (n : ℕ) → is_open_in (map session_seen kept) n ≡ true → (s : HubSession) × (slice_get kept n ≡ Some s) × (s.is_open ≡ true)
open_there kept n is_open = by_found (slice_get kept n) refl
  where
    seen : slice_get (map session_seen kept) n ≡ option_map session_seen (slice_get kept n)
    seen = slice_get-map session_seen kept n

    by_found : (o : Option HubSession) → slice_get kept n ≡ o → (s : HubSession) × (slice_get kept n ≡ Some s) × (s.is_open ≡ true)
    by_found None gone =
        let closed : is_open_in (map session_seen kept) n ≡ false = ap (λ (x : Option MachineSession). option_map_or (λ (y : MachineSession). y.is_open) x false) (seen ∙ ap (option_map session_seen) gone) in
        let both = sym is_open ∙ closed in
        absurd cc
    by_found (Some s) there =
        (s, there, sym (ap (λ (x : Option MachineSession). option_map_or (λ (y : MachineSession). y.is_open) x false) (seen ∙ ap (option_map session_seen) there)) ∙ is_open)

-- it is the one that is read there
pub read_there : (kept : List HubSession) (n : ℕ) (s : HubSession) → is_open_in (map session_seen kept) n ≡ true → s ≡ get_or kept n s → (slice_get kept n ≡ Some s) × (s.is_open ≡ true)
read_there kept n s is_open read =
    let there = open_there kept n is_open in
    let same : s ≡ there.0 = read ∙ get_or_from_slice_get kept n there.0 s there.1 in
    (there.1 ∙ ap Some (sym same), ap (λ (x : HubSession). x.is_open) same ∙ there.2)

pub told_there : (kept : List HubSession) (n : ℕ) (s : HubSession) → slice_get kept n ≡ Some s → told_of n (map session_seen kept) ≡ s.told
told_there kept n s there = ap (λ (x : Option MachineSession). option_map_or (λ (y : MachineSession). y.told) x 0) (slice_get-map session_seen kept n ∙ ap (option_map session_seen) there)

-- its queue has room for 1,000
pub its_room : (entries : List JournalEntry) (switched : ℕ) (kept : List HubSession) (n : ℕ) (s : HubSession) → JournalKeeps entries switched kept → slice_get kept n ≡ Some s → s.is_open ≡ true
    → s.untold.capacity ≡ news_limit
its_room entries switched kept n s keeps there is_open = ap (λ (q : Queued). q.capacity) (keeps.each n s there is_open).queue

-- a slice that is written back whole
pub written_back : (kept new : List HubSession) (count : ℕ) → count ≡ length kept → length new ≡ length kept → take count (new ++ drop (length new) kept) ≡ new
written_back kept new count all same =
    let none : drop (length new) kept ≡ [] = ap (λ (k : ℕ). drop k kept) same ∙ none_left_of kept in
    let whole : take (length new) new ≡ new = take_whole new in
    ap (λ (xs : List HubSession). take count (new ++ xs)) none ∙ (ap (take count) (append-nil new) ∙ (ap (λ (k : ℕ). take k new) (all ∙ sym same) ∙ whole))
  where
    none_left_of : (xs : List HubSession) → drop (length xs) xs ≡ []
    none_left_of [] = refl
    none_left_of (x ∷ xs) = none_left_of xs

    take_whole : (xs : List HubSession) → take (length xs) xs ≡ xs
    take_whole [] = refl
    take_whole (x ∷ xs) = ap (λ (ys : List HubSession). x ∷ ys) (take_whole xs)

pub if_ok : {T E : Type 0} {P Q : T → Type 0} (r : Result T E) → IfOk r P → ((x : T) → P x → Q x) → IfOk r Q
if_ok (Ok x) p f = f x p
if_ok (Err e) p f = tt

-- ---- commits at places

option_in_front : (c : Option NewsCommit) (cs : List NewsCommit) → option_to_list c ++ cs ≡ cons_option c cs
option_in_front None cs = refl
option_in_front (Some x) cs = refl

next_place : (numbers : List ℕ) (i place : ℕ) → slice_get numbers i ≡ Some place → drop i numbers ≡ place ∷ drop (i + 1) numbers
next_place numbers i place there = let one : suc i ≡ i + 1 = omega arith in next_at numbers i there ∙ ap (λ (k : ℕ). place ∷ drop k numbers) one
  where
    next_at : (xs : List ℕ) (k : ℕ) → slice_get xs k ≡ Some place → drop k xs ≡ place ∷ drop (suc k) xs
    next_at [] k there = let none : None ≡ Some place = there in absurd cc
    next_at (x ∷ xs) zero there = let same : x ≡ place = cc in ap (λ (y : ℕ). y ∷ xs) same
    next_at (x ∷ xs) (suc k) there = next_at xs k there

pub one_commit : (commits more whole : List NewsCommit) (entries : List JournalEntry) (numbers : List ℕ) (i place : ℕ) → slice_get numbers i ≡ Some place
    → more ≡ commits ++ option_to_list (commit_at entries place) → commits ++ filter_map (commit_at entries) (drop i numbers) ≡ whole
    → more ++ filter_map (commit_at entries) (drop (i + 1) numbers) ≡ whole
one_commit commits more whole entries numbers i place there is all =
    let rest : List NewsCommit = filter_map (commit_at entries) (drop (i + 1) numbers) in
    ap (λ (cs : List NewsCommit). cs ++ rest) is
    ∙ (append_assoc commits (option_to_list (commit_at entries place)) rest
    ∙ (ap (λ (cs : List NewsCommit). commits ++ cs) (option_in_front (commit_at entries place) rest)
    ∙ (ap (λ (ks : List ℕ). commits ++ filter_map (commit_at entries) ks) (sym (next_place numbers i place there)) ∙ all)))
