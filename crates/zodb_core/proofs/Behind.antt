-- What is behind a tid is told transaction by transaction.
use Rattle.std.proofs.Common.{◌≡◌, ℕ, ◌<◌, ◌≤◌, ⊎_elim, true, false, leb, ltb, List, [], ◌∷◌, ◌++◌, map, filter, length, Option, Some, None, if◌then◌else◌, refl, sym, ap, subst, ◌∙◌, arith}
use Rattle.std.specs.Prelude.{nat_le}
use Rattle.std.specs.List.{sum_by}
use Rattle.std.proofs.lemmas.Bool.{cases_Bool, le-leb, ltb-true, lt-ltb, le-ltb}
use Rattle.std.proofs.lemmas.List.{append_assoc, append-nil, length-map}
use Rattle.zb_ids.specs.declared.stamp.Stamp.{Stamp}
use Rattle.zb_model.specs.declared.data.Transaction.{Transaction}
use Rattle.zb_model.specs.declared.news.NewsCommit.{NewsCommit}
use Rattle.zb_model.specs.Database.{IsDatabase, newest_tid}
use Rattle.zb_model.specs.Packs.{change_count}
use Rattle.zb_model.specs.Queries.{changes_up_to, first_after, is_above, is_up_to}
use Rattle.zb_model.specs.SerialLaws.{RisesTo, database_rises}
use Rattle.zb_model.specs.Stores.{ReadKeepsRest, StoreState}
use Rattle.zodb_core.specs.declared.reply.Reply.TheVariants as reply
use Rattle.zodb_core.specs.declared.request.Request.TheVariants as request
use Rattle.zodb_core.specs.HubState.{HubState, MakesStep, StandsForMachine, counts_of}
use Rattle.zodb_core.specs.Machine.{Machine, Rules, is_open_in, news_limit}
use Rattle.zodb_core.specs.Outcomes.{AreLaterCounts}
use Rattle.zodb_core.specs.Steps.{commit_of, replied}
use Rattle.zodb_core.proofs.Stepping.{answered, not_early, sessions_whole}

-- ---- transactions that rise

rises_within : (low high : ℕ) (list : List Transaction) → RisesTo low high list → low ≤ high
rises_within low high [] h = h
rises_within low high (x ∷ list) h = omega (arith, h.0, rises_within x.tid high list h.1)

-- all are above what is below the first
all_above : (s low high : ℕ) (list : List Transaction) → s ≤ low → RisesTo low high list → filter (is_above s) list ≡ list
all_above s low high [] l h = refl
all_above s low high (x ∷ list) l h =
    let above : ltb s x.tid ≡ true = lt-ltb s x.tid (omega (arith, l, h.0)) in
    rw above (ap (λ (xs : List Transaction). x ∷ xs) (all_above s x.tid high list (omega (arith, l, h.0)) h.1))

-- all are up to the bound
all_up_to : (low high : ℕ) (list : List Transaction) → RisesTo low high list → filter (is_up_to high) list ≡ list
all_up_to low high [] h = refl
all_up_to low high (x ∷ list) h =
    let within : leb x.tid high ≡ true = le-leb x.tid high (rises_within x.tid high list h.1) in
    rw within (ap (λ (xs : List Transaction). x ∷ xs) (all_up_to x.tid high list h.1))

-- ---- the first one above

first_is_above : (s low high : ℕ) (list : List Transaction) (x : Transaction) → RisesTo low high list → first_after s list ≡ Some x → low < x.tid
first_is_above s low high [] x h e = absurd (cc)
first_is_above s low high (y ∷ list) x h e =
    ⊎_elim (λ (a : ltb s y.tid ≡ true).
    let same : Some y ≡ Some x = rw a at e in
    let is : y ≡ x = cc in
    let tid : y.tid ≡ x.tid = ap (λ (z : Transaction). z.tid) is in
    omega (arith, h.0, tid))
    (λ (a : ltb s y.tid ≡ false).
    let rest : first_after s list ≡ Some x = rw a at e in
    omega (arith, h.0, first_is_above s y.tid high list x h.1 rest))
    (cases_Bool (ltb s y.tid))

-- behind it are those above it
next_behind : (s low high : ℕ) (list : List Transaction) (x : Transaction) → RisesTo low high list → first_after s list ≡ Some x → filter (is_above s) list ≡ x ∷ filter (is_above x.tid) list
next_behind s low high [] x h e = absurd (cc)
next_behind s low high (y ∷ list) x h e =
    ⊎_elim (λ (a : ltb s y.tid ≡ true).
    let same : Some y ≡ Some x = rw a at e in
    let is : y ≡ x = cc in
    let early : s ≤ y.tid = omega (arith, ltb-true s y.tid a) in
    let itself : ltb y.tid y.tid ≡ false = le-ltb y.tid y.tid (omega arith) in
    let here : filter (is_above s) (y ∷ list) ≡ y ∷ filter (is_above y.tid) (y ∷ list) = rw a (rw itself (ap (λ (xs : List Transaction). y ∷ xs) (all_above s y.tid high list early h.1 ∙ sym (all_above y.tid y.tid high list (omega arith) h.1)))) in
    subst (λ (z : Transaction). filter (is_above s) (y ∷ list) ≡ z ∷ filter (is_above z.tid) (y ∷ list)) is here)
    (λ (a : ltb s y.tid ≡ false).
    let rest : first_after s list ≡ Some x = rw a at e in
    let above : y.tid < x.tid = first_is_above s y.tid high list x h.1 rest in
    let before : ltb x.tid y.tid ≡ false = le-ltb x.tid y.tid (omega (arith, above)) in
    rw a (rw before (next_behind s y.tid high list x h.1 rest)))
    (cases_Bool (ltb s y.tid))

none_behind : (s : ℕ) (list : List Transaction) → first_after s list ≡ None → filter (is_above s) list ≡ []
none_behind s [] e = refl
none_behind s (y ∷ list) e =
    ⊎_elim (λ (a : ltb s y.tid ≡ true).
    let some : Some y ≡ None = rw a at e in
    absurd (cc))
    (λ (a : ltb s y.tid ≡ false).
    let rest : first_after s list ≡ None = rw a at e in
    rw a (none_behind s list rest))
    (cases_Bool (ltb s y.tid))

-- a store that was only read has the same one
pub first_kept : (old now : StoreState) (at : ℕ) (found o : Option Transaction) → ReadKeepsRest old now → found ≡ first_after at now.list → found ≡ o → first_after at old.list ≡ o
first_kept old now at found o same is gives =
    let list : now.list ≡ old.list = ap (λ (s : StoreState). s.list) same in
    sym (is ∙ ap (λ (l : List Transaction). first_after at l) list) ∙ gives

-- ---- the walk over what is behind a tid

-- these commits are told, and what is behind `at` is left
abbrev pub AreTold : List Transaction → ℕ → List NewsCommit → ℕ → Type 0
AreTold list tid commits at = map commit_of (filter (is_above tid) list) ≡ commits ++ map commit_of (filter (is_above at) list)

pub tells_next : (list : List Transaction) (tid at : ℕ) (commits : List NewsCommit) (x : Transaction) → IsDatabase list → AreTold list tid commits at → first_after at list ≡ Some x → AreTold list tid (commits ++ commit_of x ∷ []) x.tid
tells_next list tid at commits x is so e =
    so
    ∙ ap (λ (xs : List Transaction). commits ++ map commit_of xs) (next_behind at 0 (newest_tid list) list x (database_rises list is) e)
    ∙ sym (append_assoc commits (commit_of x ∷ []) (map commit_of (filter (is_above x.tid) list)))

-- what is told, unless it is too much
abbrev pub told_behind : List Transaction → ℕ → Option (List NewsCommit)
told_behind list tid = if nat_le (length (filter (is_above tid) list)) news_limit then Some (map commit_of (filter (is_above tid) list)) else None

-- nothing is left, and what was told isn't too much
pub all_told : (list : List Transaction) (tid at : ℕ) (commits : List NewsCommit) → AreTold list tid commits at → first_after at list ≡ None → length commits ≤ 1000 → Some commits ≡ told_behind list tid
all_told list tid at commits so e few =
    let none : filter (is_above at) list ≡ [] = none_behind at list e in
    let all : map commit_of (filter (is_above tid) list) ≡ commits = so ∙ ap (λ (xs : List Transaction). commits ++ map commit_of xs) none ∙ append-nil commits in
    let count : length (filter (is_above tid) list) ≡ length commits = sym (length-map (filter (is_above tid) list) commit_of) ∙ ap length all in
    let within : leb (length (filter (is_above tid) list)) 1000 ≡ true = le-leb (length (filter (is_above tid) list)) 1000 (omega (arith, count, few)) in
    rw within (ap (λ (xs : List NewsCommit). Some xs) (sym all))

-- ---- the answers

-- all changes stand up to the newest tid
newest_counted : (list : List Transaction) → IsDatabase list → changes_up_to (newest_tid list) list ≡ change_count list
newest_counted list is = ap (λ (xs : List Transaction). sum_by (λ (x : Transaction). length x.changes) xs) (all_up_to 0 (newest_tid list) list (database_rises list is))

pub last_answered : {R F : Type 0} (rules : Rules) (m : Machine) (n tid changes : ℕ) (hub : HubState R F) (stamps : Option (List Stamp))
    → AreLaterCounts (counts_of hub.store) (counts_of hub.store) → StandsForMachine hub m → hub.store.broken ≡ false → is_open_in hub.sessions n ≡ true → IsDatabase hub.store.list
    → tid ≡ newest_tid hub.store.list → changes ≡ changes_up_to tid hub.store.list
    → MakesStep rules m n request.Last (reply.Last tid changes) hub hub stamps stamps
last_answered rules m n tid changes hub stamps later stands whole is_open is newest count =
    answered rules m n request.Last (reply.Last tid changes) m hub hub stamps later refl
    (rw (not_early m n request.Last hub.sessions (sessions_whole m hub stands whole) is_open)
    (ap (replied m) (sym (ap (λ (t : ℕ). reply.Last t changes) tid_is ∙ ap (reply.Last (newest_tid m.list)) changes_are))))
    stands
  where
    list_is : hub.store.list ≡ m.list
    list_is = sym (stands.list whole)

    tid_is : tid ≡ newest_tid m.list
    tid_is = newest ∙ ap (λ (l : List Transaction). newest_tid l) list_is

    changes_are : changes ≡ change_count m.list
    changes_are = count ∙ ap (λ (t : ℕ). changes_up_to t hub.store.list) newest ∙ newest_counted hub.store.list is ∙ ap (λ (l : List Transaction). change_count l) list_is
