-- The changes of a transaction by its outline.
use Rattle.std.proofs.Common.{◌≡◌, ℕ, zero, suc, ◌+◌, ◌≤◌, Bool, cond, eqb, List, [], ◌∷◌, length, Option, Some, None, Result, Ok, Err, refl, sym, ap, subst, ◌∙◌}
use Rattle.std.specs.Prelude.{IfOk, IfSome, slice_get, option_and_then, option_map}
use Rattle.std.specs.Option.{ForSome}
use Rattle.std.proofs.lemmas.Bool.{eqb-true}
use Rattle.std.proofs.lemmas.Option.{slice_get-map}
use Rattle.std.proofs.lemmas.List.Elements.{All-head, All-tail}
use Rattle.zb_model.specs.declared.data.Change.{Change}
use Rattle.zb_model.specs.declared.data.Transaction.{Transaction}
use Rattle.zb_model.specs.Queries.{change_at, transaction_at}
use Rattle.fs_records.specs.Listed.{listed}
use Rattle.fs_reading.specs.declared.outline.Outline.{Outline}
use Rattle.fs_reading.specs.declared.outline.OutlinedChange.{OutlinedChange}
use Rattle.fs_reading.specs.declared.outline.Source.{Source}
use Rattle.fs_reading.specs.Cases.{by_bool}
use Rattle.fs_reading.specs.Outlines.{AllStandWithin, StandsWithin, outlined_change, outlined_transaction}
use Rattle.file_store.specs.Outlined.{AllWithin, IsOutlinedIn, outlined_at}

-- the transaction with a tid has it
pub has_its_tid : (tid : ℕ) (list : List Transaction) (t : Transaction) → transaction_at tid list ≡ Some t → t.tid ≡ tid
has_its_tid tid [] t is = absurd cc
has_its_tid tid (x ∷ xs) t is =
    let P : Bool → Type 0 = λ b. cond b (Some x) (transaction_at tid xs) ≡ Some t → t.tid ≡ tid in
    by_bool P (eqb x.tid tid) (λ e found. let same : x ≡ t = cc in ap (λ (y : Transaction). y.tid) (sym same) ∙ eqb-true x.tid tid e) (λ e found. has_its_tid tid xs t found) is

-- ---- the contents stand within

pub all_within : (bytes : List ℕ) (changes : List OutlinedChange) → AllStandWithin bytes changes → AllWithin bytes changes
all_within bytes [] all n c s is some = absurd cc
all_within bytes (x ∷ xs) all zero c s is some =
    let same : x ≡ c = cc in
    let here : StandsWithin bytes x.source = All-head (λ (y : OutlinedChange). StandsWithin bytes y.source) x xs all in
    subst (λ (o : Option Source). IfSome o (λ r. r.at + 42 + r.length ≤ length bytes)) (ap (λ (y : OutlinedChange). y.source) same ∙ some) here
all_within bytes (x ∷ xs) all (suc n) c s is some = all_within bytes xs (All-tail (λ (y : OutlinedChange). StandsWithin bytes y.source) x xs all) n c s is some

-- ---- an outline that was read

pub outlined_if : (bytes : List ℕ) (tid : ℕ) (found : Option Outline) → option_map (outlined_transaction bytes) found ≡ transaction_at tid (listed bytes)
    → IfSome found (λ o. AllStandWithin bytes o.changes) → ForSome found (λ o. IsOutlinedIn bytes o)
outlined_if bytes tid found is within o some =
    let here : transaction_at tid (listed bytes) ≡ Some (outlined_transaction bytes o) = sym is ∙ ap (option_map (outlined_transaction bytes)) some in
    let same : o.tid ≡ tid = has_its_tid tid (listed bytes) (outlined_transaction bytes o) here in
    record {
      is = ap (λ (n : ℕ). transaction_at n (listed bytes)) same ∙ here;
      within = all_within bytes o.changes (subst (λ (x : Option Outline). IfSome x (λ y. AllStandWithin bytes y.changes)) some within);
    }

pub outlined_if_ok : {E : Type 0} (bytes : List ℕ) (tid : ℕ) (r : Result (Option Outline) E) → IfOk r (λ found. option_map (outlined_transaction bytes) found ≡ transaction_at tid (listed bytes))
    → IfOk r (λ found. IfSome found (λ o. AllStandWithin bytes o.changes)) → IfOk r (λ found. ForSome found (λ o. IsOutlinedIn bytes o))
outlined_if_ok bytes tid (Ok found) is within = outlined_if bytes tid found is within
outlined_if_ok bytes tid (Err e) is within = tt

-- the one that is known is that of the tid
pub known_found : (bytes : List ℕ) (tid : ℕ) (o : Outline) → IsOutlinedIn bytes o → o.tid ≡ tid → Some (outlined_transaction bytes o) ≡ transaction_at tid (listed bytes)
known_found bytes tid o k same = sym (ap (λ (n : ℕ). transaction_at n (listed bytes)) (sym same) ∙ k.is)

-- ---- one change

-- the change at a place, by the outline of the transaction
pub change_found : (bytes : List ℕ) (tid number : ℕ) (found : Option Outline) → option_map (outlined_transaction bytes) found ≡ transaction_at tid (listed bytes) → option_map (outlined_change bytes) (outlined_at number found) ≡ change_at tid number (listed bytes)
change_found bytes tid number found is = by_found found ∙ ap (option_and_then (λ (t : Transaction). slice_get t.changes number)) is
  where
    by_found : (o : Option Outline) → option_map (outlined_change bytes) (outlined_at number o) ≡ option_and_then (λ (t : Transaction). slice_get t.changes number) (option_map (outlined_transaction bytes) o)
    by_found None = refl
    by_found (Some o) = sym (slice_get-map (outlined_change bytes) o.changes number)

pub none_found : (bytes : List ℕ) (tid number : ℕ) (found : Option Outline) (change : Option OutlinedChange) → option_map (outlined_transaction bytes) found ≡ transaction_at tid (listed bytes) → change ≡ outlined_at number found → change ≡ None → None ≡ change_at tid number (listed bytes)
none_found bytes tid number found change is at none = ap (option_map (outlined_change bytes)) (sym none ∙ at) ∙ change_found bytes tid number found is

pub some_found : (bytes : List ℕ) (tid number : ℕ) (found : Option Outline) (change : Option OutlinedChange) (c : OutlinedChange) (read : Change) → option_map (outlined_transaction bytes) found ≡ transaction_at tid (listed bytes) → change ≡ outlined_at number found → change ≡ Some c → read ≡ outlined_change bytes c → Some read ≡ change_at tid number (listed bytes)
some_found bytes tid number found change c read is at some value = ap Some value ∙ ap (option_map (outlined_change bytes)) (sym some ∙ at) ∙ change_found bytes tid number found is
