-- What stores become, one after the other, and how long the changes are.
use Rattle.std.proofs.Common.{◌≡◌, ℕ, ◌+◌, ◌*◌, ◌<◌, ◌≤◌, Bool, true, false, cond, ltb, List, [], ◌∷◌, ◌++◌, length, map, get_or, drop, Option, Some, None, Result, Ok, Err, refl, sym, ap, subst, ◌∙◌, arith}
use Rattle.std.specs.Prelude.{All, sum}
use Rattle.std.specs.Option.{option_map, option_or}
use Rattle.std.specs.List.{find, sum_by}
use Rattle.std.proofs.lemmas.List.Elements.{All-head, All-tail}
use Rattle.std.proofs.lemmas.List.Sums.{sum_by-cons, sum_by-drop_more, sum_by_push}
use Rattle.zb_model.specs.declared.data.Change.{Change}
use Rattle.zb_model.specs.declared.data.Content.{Content}
use Rattle.zb_model.specs.declared.data.Content.TheVariants.{Held, Absent}
use Rattle.zb_model.specs.declared.data.Transaction.{Transaction}
use Rattle.zb_model.specs.declared.new_transaction.NewChange.{NewChange}
use Rattle.zb_model.specs.declared.new_transaction.NewContent.{NewContent}
use Rattle.zb_model.specs.declared.new_transaction.NewContent.TheVariants as new_content
use Rattle.zb_model.specs.declared.pending.PendingCheck.{PendingCheck}
use Rattle.zb_model.specs.declared.pending.PendingStore.{PendingStore}
use Rattle.zb_model.specs.declared.refusal.Refusal.{Refusal}
use Rattle.zb_model.specs.declared.refusal.Refusal.TheVariants as refusal
use Rattle.zb_model.specs.Database.{IsRecord}
use Rattle.zb_model.specs.Rules.{MergeRules}
use Rattle.zb_model.specs.Stores.{StoreState, ReadKeepsRest}
use Rattle.zb_model.specs.Voting.{voted_change, voted_content}
use Rattle.commit_phases.specs.Decision.{ahead_of_changes, change_of_store, changes_of_stores, excess_of, failed_check, too_long, unless_checks_fail, unless_refused, vote_decision}
use Rattle.commit_phases.specs.Pending.{length_of_content, object_limit, transaction_limit, size_of_stores, AreStores, PendingChanges}
use Rattle.commit_phases.specs.Resolving.{behind_changes, held_count, length_of_new, record_count}
use Rattle.commit_phases.specs.Voted.{IsNewRecord}

-- ---- stores

pub nothing_behind : (r : Result (List Change) Refusal) → behind_changes [] r ≡ r
nothing_behind (Ok changes) = refl
nothing_behind (Err why) = refl

append_one : (xs : List Change) (x : Change) (ys : List Change) → xs ++ x ∷ ys ≡ (xs ++ x ∷ []) ++ ys
append_one [] x ys = refl
append_one (y ∷ xs) x ys = ap (λ (zs : List Change). y ∷ zs) (append_one xs x ys)

-- one store more goes in
pub settled_more : (rules : MergeRules) (list : List Transaction) (p : PendingStore) (rest : List PendingStore) (done : List Change) (change : Change) → change_of_store rules list p ≡ Ok change
    → behind_changes done (changes_of_stores rules list (p ∷ rest)) ≡ behind_changes (done ++ change ∷ []) (changes_of_stores rules list rest)
settled_more rules list p rest done change goes =
    ap (λ (r : Result Change Refusal). behind_changes done (ahead_of_changes r (changes_of_stores rules list rest))) goes ∙ by_cases (changes_of_stores rules list rest)
  where
    by_cases : (x : Result (List Change) Refusal) → behind_changes done (ahead_of_changes (Ok change) x) ≡ behind_changes (done ++ change ∷ []) x
    by_cases (Ok changes) = ap (λ (cs : List Change). Ok cs) (append_one done change changes)
    by_cases (Err why) = refl

-- a store that can't go in
pub settled_no_more : (rules : MergeRules) (list : List Transaction) (p : PendingStore) (rest : List PendingStore) (done : List Change) (why : Refusal) → change_of_store rules list p ≡ Err why
    → behind_changes done (changes_of_stores rules list (p ∷ rest)) ≡ Err why
settled_no_more rules list p rest done why goes = ap (λ (r : Result Change Refusal). behind_changes done (ahead_of_changes r (changes_of_stores rules list rest))) goes

pub map_push : {X Y : Type 0} (f : X → Y) (xs : List X) (x : X) → map f (xs ++ x ∷ []) ≡ map f xs ++ f x ∷ []
map_push f [] x = refl
map_push f (y ∷ xs) x = ap (λ zs. f y ∷ zs) (map_push f xs x)

-- ---- one turn of the loop over the stores

-- what two reads leave
pub kept_twice : (old mid new : StoreState) → ReadKeepsRest old mid → ReadKeepsRest mid new → ReadKeepsRest old new
kept_twice old mid new first next = next ∙ ap (λ (s : StoreState). record s { read_faults = new.read_faults }) first

pub oids_more : (done : List NewChange) (change : NewChange) (p : PendingStore) (left items stores : List PendingStore) → items ≡ p ∷ left → change.oid ≡ p.oid
    → map (λ c. c.oid) done ++ map (λ p. p.oid) items ≡ map (λ p. p.oid) stores
    → map (λ c. c.oid) (done ++ change ∷ []) ++ map (λ p. p.oid) left ≡ map (λ p. p.oid) stores
oids_more done change p left items stores is same before =
    ap (λ (ns : List ℕ). ns ++ map (λ p. p.oid) left) (map_push (λ (c : NewChange). c.oid) done change)
    ∙ sym (append_number (map (λ c. c.oid) done) change.oid (map (λ p. p.oid) left))
    ∙ ap (λ (n : ℕ). map (λ c. c.oid) done ++ n ∷ map (λ p. p.oid) left) same
    ∙ ap (λ (ps : List PendingStore). map (λ c. c.oid) done ++ map (λ p. p.oid) ps) (sym is)
    ∙ before
  where
    append_number : (xs : List ℕ) (x : ℕ) (ys : List ℕ) → xs ++ x ∷ ys ≡ (xs ++ x ∷ []) ++ ys
    append_number [] x ys = refl
    append_number (y ∷ xs) x ys = ap (λ (zs : List ℕ). y ∷ zs) (append_number xs x ys)

pub rest_more : (rules : MergeRules) (list seen : List Transaction) (p : PendingStore) (left items : List PendingStore) (done : List NewChange) (change : NewChange) (all : Result (List Change) Refusal) → seen ≡ list → items ≡ p ∷ left
    → change_of_store rules seen p ≡ Ok (voted_change seen change)
    → all ≡ behind_changes (map (voted_change list) done) (changes_of_stores rules list items)
    → all ≡ behind_changes (map (voted_change list) (done ++ change ∷ [])) (changes_of_stores rules list left)
rest_more rules list seen p left items done change all same is goes before =
    before
    ∙ ap (λ (ps : List PendingStore). behind_changes (map (voted_change list) done) (changes_of_stores rules list ps)) is
    ∙ settled_more rules list p left (map (voted_change list) done) (voted_change list change) (subst (λ (l : List Transaction). change_of_store rules l p ≡ Ok (voted_change l change)) same goes)
    ∙ ap (λ (cs : List Change). behind_changes cs (changes_of_stores rules list left)) (sym (map_push (voted_change list) done change))

-- ---- lengths

-- a record is as long in the change that it becomes
pub lengths_same : (list : List Transaction) (changes : List NewChange) → All (λ c. IsNewRecord c.content) changes
    → map (λ c. length_of_content c.content) (map (voted_change list) changes) ≡ map (λ c. length_of_new c.content) changes
lengths_same list [] all = refl
lengths_same list (c ∷ changes) all =
    by_content c.content (All-head (λ (c : NewChange). IsNewRecord c.content) c changes all) (lengths_same list changes (All-tail (λ (c : NewChange). IsNewRecord c.content) c changes all))
  where
    by_content : (x : NewContent) → IsNewRecord x
        → map (λ c. length_of_content c.content) (map (voted_change list) changes) ≡ map (λ c. length_of_new c.content) changes
        → length_of_content (voted_content list c.oid x) ∷ map (λ c. length_of_content c.content) (map (voted_change list) changes) ≡ length_of_new x ∷ map (λ c. length_of_new c.content) changes
    by_content (new_content.Bytes bytes) new rest = ap (λ (ns : List ℕ). length bytes ∷ ns) rest
    by_content new_content.Absent new rest = ap (λ (ns : List ℕ). 0 ∷ ns) rest
    by_content (new_content.AsOf serial) new rest = absurd new

-- the length that passes a limit, where those of the changes in front pass none and have this sum
abbrev pub excess_from : ℕ → List ℕ → Option ℕ
excess_from done lengths = option_or (find (ltb object_limit) lengths) (cond (ltb transaction_limit (done + sum lengths)) (Some (done + sum lengths)) None)

pub excess_more : (done n : ℕ) (ns : List ℕ) → ltb object_limit n ≡ false → excess_from done (n ∷ ns) ≡ excess_from (done + n) ns
excess_more done n ns short =
    let total : done + sum (n ∷ ns) ≡ done + n + sum ns = omega (arith, sum_by-cons (λ (k : ℕ). k) n ns) in
    ap (λ (b : Bool). option_or (cond b (Some n) (find (ltb object_limit) ns)) (cond (ltb transaction_limit (done + sum (n ∷ ns))) (Some (done + sum (n ∷ ns))) None)) short
    ∙ ap (λ (k : ℕ). option_or (find (ltb object_limit) ns) (cond (ltb transaction_limit k) (Some k) None)) total

pub excess_now : (done n : ℕ) (ns : List ℕ) → ltb object_limit n ≡ true → excess_from done (n ∷ ns) ≡ Some n
excess_now done n ns long =
    ap (λ (b : Bool). option_or (cond b (Some n) (find (ltb object_limit) ns)) (cond (ltb transaction_limit (done + sum (n ∷ ns))) (Some (done + sum (n ∷ ns))) None)) long

-- a content of its own bytes that is within the limit takes its share of the room
within_share : (x : NewContent) → length_of_new x ≤ object_limit → length_of_new x ≤ object_limit * record_count x
within_share (new_content.Bytes bytes) short = omega (arith, short)
within_share new_content.Absent short = omega arith
within_share (new_content.AsOf serial) short = omega arith

-- one change more within the limit of an object leaves room for those that are left
pub room_more : (changes : List NewChange) (i sum n : ℕ) (c : NewChange) → i < length changes → get_or changes i c ≡ c → n ≡ length_of_new c.content → n ≤ object_limit
    → sum + object_limit * sum_by (λ x. record_count x.content) (drop i changes) ≤ object_limit * transaction_limit
    → sum + n + object_limit * sum_by (λ x. record_count x.content) (drop (i + 1) changes) ≤ object_limit * transaction_limit
room_more changes i sum n c inside here is short room =
    let count : ℕ = sum_by (λ (x : NewChange). record_count x.content) (drop (i + 1) changes) in
    let split : sum_by (λ (x : NewChange). record_count x.content) (drop i changes) ≡ record_count c.content + count =
    sum_by-drop_more (λ (x : NewChange). record_count x.content) changes i c inside ∙ ap (λ (x : NewChange). record_count x.content + count) here in
    let share : n ≤ object_limit * record_count c.content = omega (arith, is, within_share c.content (omega (arith, is, short))) in
    omega (arith, split, share, room)

-- each record has a byte, so there are no more of them than bytes
held_few : (stores : List PendingStore) → All (λ p. IsRecord p.content) stores → sum_by (λ p. held_count p.content) stores ≤ size_of_stores stores
held_few [] filled = omega arith
held_few (p ∷ stores) filled = omega (
  arith,
  by_content p.content (All-head (λ (p : PendingStore). IsRecord p.content) p stores filled),
  held_few stores (All-tail (λ (p : PendingStore). IsRecord p.content) p stores filled),
  sum_by-cons (λ (p : PendingStore). held_count p.content) p stores,
  sum_by-cons (λ (p : PendingStore). length_of_content p.content) p stores,
)
  where
    by_content : (x : Content) → IsRecord x → held_count x ≤ length_of_content x
    by_content (Held bytes) filled = omega (arith, filled)
    by_content Absent filled = omega arith

-- so few changes have bytes
pub few_records : (changes shown : List NewChange) (stores : List PendingStore) → AreStores stores → shown ≡ changes
    → sum_by (λ c. record_count c.content) changes ≤ sum_by (λ p. held_count p.content) stores → sum_by (λ c. record_count c.content) shown ≤ transaction_limit
few_records changes shown stores are same few =
    let is : sum_by (λ c. record_count c.content) shown ≡ sum_by (λ c. record_count c.content) changes = ap (λ (cs : List NewChange). sum_by (λ c. record_count c.content) cs) same in
    omega (arith, is, few, held_few stores are.filled, are.within)

-- one more of them has bytes no more often than the stores so far
pub few_more : (done : List NewChange) (change : NewChange) (p : PendingStore) (left items : List PendingStore) (all : ℕ) → items ≡ p ∷ left → record_count change.content ≤ held_count p.content
    → sum_by (λ c. record_count c.content) done + sum_by (λ p. held_count p.content) items ≤ all
    → sum_by (λ c. record_count c.content) (done ++ change ∷ []) + sum_by (λ p. held_count p.content) left ≤ all
few_more done change p left items all is few before =
    let split : sum_by (λ p. held_count p.content) items ≡ sum_by (λ p. held_count p.content) (p ∷ left) = ap (λ (ps : List PendingStore). sum_by (λ p. held_count p.content) ps) is in
    omega (arith, few, before, split, sum_by-cons (λ (p : PendingStore). held_count p.content) p left, sum_by_push (λ (c : NewChange). record_count c.content) done change)

-- ---- the decision, where stores go in and no check fails

-- with the parts that a vote takes out of what is pending, and the list as it is seen behind the reads
pub decision_is : (rules : MergeRules) (list seen : List Transaction) (pending : PendingChanges) (stores : List PendingStore) (checks kept : List PendingCheck) (changes slice : List NewChange) (excess : Option ℕ)
    → stores ≡ pending.stores → checks ≡ pending.checks → kept ≡ checks → seen ≡ list → slice ≡ changes
    → changes_of_stores rules list stores ≡ Ok (map (voted_change list) changes) → failed_check seen kept ≡ None → All (λ c. IsNewRecord c.content) changes
    → excess ≡ excess_of (map (λ c. length_of_new c.content) slice)
    → vote_decision rules list pending ≡ unless_refused (map (voted_change list) changes) (option_map (λ n. refusal.TooLong n) excess)
unfolding vote_decision
decision_is rules list seen pending stores checks kept changes slice excess stores_are checks_are kept_are same shown goes passed new is =
    let none : failed_check list pending.checks ≡ None = subst (λ (l : List Transaction). failed_check l pending.checks ≡ None) same (subst (λ (ks : List PendingCheck). failed_check seen ks ≡ None) (kept_are ∙ checks_are) passed) in
    ap (λ (ps : List PendingStore). unless_checks_fail list pending.checks (changes_of_stores rules list ps)) (sym stores_are)
    ∙ ap (λ (r : Result (List Change) Refusal). unless_checks_fail list pending.checks r) goes
    ∙ ap (λ (o : Option Refusal). unless_refused (map (voted_change list) changes) (option_or o (too_long (map (voted_change list) changes)))) none
    ∙ ap (λ (ns : List ℕ). unless_refused (map (voted_change list) changes) (option_map (λ n. refusal.TooLong n) (excess_of ns))) (lengths_same list changes new)
    ∙ ap (λ (cs : List NewChange). unless_refused (map (voted_change list) changes) (option_map (λ n. refusal.TooLong n) (excess_of (map (λ c. length_of_new c.content) cs)))) (sym shown)
    ∙ ap (λ (o : Option ℕ). unless_refused (map (voted_change list) changes) (option_map (λ n. refusal.TooLong n) o)) (sym is)
