-- A vote of which all may go in is decided so. For the proofs of those who vote.
use Rattle.std.proofs.Common.{◌≡◌, ℕ, ◌≤◌, Bool, true, false, cond, eqb, ltb, List, [], ◌∷◌, map, Option, Some, None, Result, Ok, refl, ap, ◌∙◌, arith}
use Rattle.std.specs.Prelude.{All, sum}
use Rattle.std.specs.List.{find}
use Rattle.std.specs.Option.{option_map, option_or}
use Rattle.std.proofs.lemmas.Bool.{eq-eqb, le-ltb}
use Rattle.std.proofs.lemmas.List.Elements.{All-head, All-tail}
use Rattle.std.proofs.lemmas.List.Sums.{sum-map}
use Rattle.zb_model.specs.declared.data.Change.{Change}
use Rattle.zb_model.specs.declared.data.Content.{Content}
use Rattle.zb_model.specs.declared.data.Content.TheVariants.{Held, Absent}
use Rattle.zb_model.specs.declared.data.Transaction.{Transaction}
use Rattle.zb_model.specs.declared.pending.PendingCheck.{PendingCheck}
use Rattle.zb_model.specs.declared.pending.PendingStore.{PendingStore}
use Rattle.zb_model.specs.declared.refusal.Refusal.{Refusal}
use Rattle.zb_model.specs.declared.refusal.Refusal.TheVariants as refusal
use Rattle.zb_model.specs.Database.{serial_of}
use Rattle.zb_model.specs.Rules.{MergeRules}
use Rattle.commit_phases.specs.Decision.{ahead_of_changes, change_of_content, change_of_delete, change_of_store, changes_of_stores, current_record, excess_of, failed_check, too_long, unless_checks_fail, unless_refused, vote_decision}
use Rattle.commit_phases.specs.Pending.{AreStores, PendingChanges, length_of_content, object_limit, size_of_stores, transaction_limit}
use Rattle.commit_phases.specs.Voted.{MayBeDeleted, MayGoIn}

-- the change that writes what waits as it is
abbrev pub change_as_is : PendingStore → Change
change_as_is p = record { oid = p.oid; content = p.content }

stored_as_is : (rules : MergeRules) (list : List Transaction) (oid base : ℕ) (bytes : List ℕ) → eqb base (serial_of oid list) ≡ true → change_of_content rules list oid base (Held bytes) ≡ Ok (record { oid = oid; content = Held bytes })
stored_as_is rules list oid base bytes current = rw current refl

deleted_as_is : (list : List Transaction) (oid base : ℕ) (now : Option (List ℕ)) → eqb base (serial_of oid list) ≡ true → MayBeDeleted Absent now → change_of_delete list oid base now ≡ Ok (record { oid = oid; content = Absent })
deleted_as_is list oid base None current there = absurd there
deleted_as_is list oid base (Some held) current there = rw current refl

content_as_is : (rules : MergeRules) (list : List Transaction) (oid base : ℕ) (content : Content) → eqb base (serial_of oid list) ≡ true → MayBeDeleted content (current_record oid list)
    → change_of_content rules list oid base content ≡ Ok (record { oid = oid; content = content })
content_as_is rules list oid base (Held bytes) current there = stored_as_is rules list oid base bytes current
content_as_is rules list oid base Absent current there = deleted_as_is list oid base (current_record oid list) current there

-- stores and deletes that may go in do so as they are
pub stores_as_are : (rules : MergeRules) (list : List Transaction) (stores : List PendingStore) → All (λ p. p.base ≡ serial_of p.oid list) stores → All (λ p. MayBeDeleted p.content (current_record p.oid list)) stores
    → changes_of_stores rules list stores ≡ Ok (map change_as_is stores)
stores_as_are rules list [] current there = refl
stores_as_are rules list (p ∷ stores) current there =
    let now : p.base ≡ serial_of p.oid list = All-head (λ (q : PendingStore). q.base ≡ serial_of q.oid list) p stores current in
    let one : change_of_store rules list p ≡ Ok (change_as_is p) =
    content_as_is rules list p.oid p.base p.content (eq-eqb p.base (serial_of p.oid list) now) (All-head (λ (q : PendingStore). MayBeDeleted q.content (current_record q.oid list)) p stores there) in
    let rest : changes_of_stores rules list stores ≡ Ok (map change_as_is stores) =
    stores_as_are rules list stores (All-tail (λ (q : PendingStore). q.base ≡ serial_of q.oid list) p stores current) (All-tail (λ (q : PendingStore). MayBeDeleted q.content (current_record q.oid list)) p stores there) in
    ap (λ (r : Result Change Refusal). ahead_of_changes r (changes_of_stores rules list stores)) one ∙ ap (λ (r : Result (List Change) Refusal). ahead_of_changes (Ok (change_as_is p)) r) rest

-- and checks that hold refuse nothing
pub checks_hold : (list : List Transaction) (checks : List PendingCheck) → All (λ c. c.serial ≡ serial_of c.oid list) checks → failed_check list checks ≡ None
checks_hold list [] all = refl
checks_hold list (c ∷ checks) all =
    let here : eqb c.serial (serial_of c.oid list) ≡ true = eq-eqb c.serial (serial_of c.oid list) (All-head (λ (k : PendingCheck). k.serial ≡ serial_of k.oid list) c checks all) in
    rw here (checks_hold list checks (All-tail (λ (k : PendingCheck). k.serial ≡ serial_of k.oid list) c checks all))

lengths_as_are : (stores : List PendingStore) → map (λ c. length_of_content c.content) (map change_as_is stores) ≡ map (λ p. length_of_content p.content) stores
lengths_as_are [] = refl
lengths_as_are (p ∷ stores) = ap (λ (ns : List ℕ). length_of_content p.content ∷ ns) (lengths_as_are stores)

none_long : (stores : List PendingStore) → All (λ p. length_of_content p.content ≤ object_limit) stores → find (ltb object_limit) (map (λ p. length_of_content p.content) stores) ≡ None
none_long [] short = refl
none_long (p ∷ stores) short =
    let here : ltb object_limit (length_of_content p.content) ≡ false = le-ltb object_limit (length_of_content p.content) (All-head (λ (q : PendingStore). length_of_content q.content ≤ object_limit) p stores short) in
    rw here (none_long stores (All-tail (λ (q : PendingStore). length_of_content q.content ≤ object_limit) p stores short))

no_excess : (stores : List PendingStore) → AreStores stores → excess_of (map (λ p. length_of_content p.content) stores) ≡ None
no_excess stores are =
    let lengths : List ℕ = map (λ p. length_of_content p.content) stores in
    let total : sum lengths ≡ size_of_stores stores = sum-map (λ (p : PendingStore). length_of_content p.content) stores in
    let within : ltb transaction_limit (sum lengths) ≡ false = le-ltb transaction_limit (sum lengths) (omega (arith, total, are.within)) in
    ap (λ (o : Option ℕ). option_or o (cond (ltb transaction_limit (sum lengths)) (Some (sum lengths)) None)) (none_long stores are.short)
    ∙ ap (λ (b : Bool). cond b (Some (sum lengths)) None) within

-- nor are they too long
pub not_too_long : (stores : List PendingStore) → AreStores stores → too_long (map change_as_is stores) ≡ None
not_too_long stores are = ap (λ (ns : List ℕ). option_map (λ n. refusal.TooLong n) (excess_of ns)) (lengths_as_are stores) ∙ ap (λ (o : Option ℕ). option_map (λ n. refusal.TooLong n) o) (no_excess stores are)

-- so all goes in
pub goes_in_as_is : (rules : MergeRules) (list : List Transaction) (pending : PendingChanges) → AreStores pending.stores → MayGoIn list pending → vote_decision rules list pending ≡ Ok (map change_as_is pending.stores)
unfolding vote_decision
goes_in_as_is rules list pending are may =
    ap (λ (r : Result (List Change) Refusal). unless_checks_fail list pending.checks r) (stores_as_are rules list pending.stores may.current may.there)
    ∙ ap (λ (o : Option Refusal). unless_refused (map change_as_is pending.stores) (option_or o (too_long (map change_as_is pending.stores)))) (checks_hold list pending.checks may.checked)
    ∙ ap (λ (o : Option Refusal). unless_refused (map change_as_is pending.stores) o) (not_too_long pending.stores are)
