-- How contents are given back to stores.
use Rattle.std.proofs.Common.{◌≡◌, ℕ, zero, suc, Bool, true, false, cond, eqb, List, [], ◌∷◌, ◌++◌, Option, Some, None, refl, sym, ap, ◌∙◌}
use Rattle.std.specs.Prelude.{is_some, nat_eq, take}
use Rattle.std.specs.Option.{option_map}
use Rattle.std.specs.Map.{lookup}
use Rattle.zb_model.specs.declared.data.Content.{Content}
use Rattle.zb_model.specs.declared.pending.PendingStore.{PendingStore}
use Rattle.indexmap.specs.IndexMap.{insert_entry}
use Rattle.commit_phases.specs.declared.pending.Stored.{Stored}
use Rattle.commit_phases.specs.Earlier.{with_content, with_contents}
use Rattle.commit_phases.specs.Kept.{store_of, stores_of}
use Rattle.commit_phases.proofs.Storing.{kept_as}

base_of : Option Stored → Option ℕ
base_of found = option_map (λ (s : Stored). s.base) found

same_base : (a b : ℕ) → Some a ≡ Some b → b ≡ a
same_base a b e = cc

-- what has a base is there
pub is_there : (found : Option Stored) (base : ℕ) → Some base ≡ option_map (λ (s : Stored). s.base) found → is_some found ≡ true
is_there None base e = cc
is_there (Some s) base e = refl

-- a content with the base that stands is the content of the store
pub content_given : (es : List (ℕ × Stored)) (oid base : ℕ) (content : Content) → Some base ≡ option_map (λ (s : Stored). s.base) (lookup (nat_eq oid) es)
    → stores_of (insert_entry nat_eq es oid (kept_as base content)) ≡ with_content (stores_of es) oid content
content_given [] oid base content e = cc
content_given (e ∷ es) oid base content is = by_cases (eqb oid e.0) (λ there. content_given es oid base content there) is
  where
    by_cases : (b : Bool) → (Some base ≡ option_map (λ (s : Stored). s.base) (lookup (nat_eq oid) es) → stores_of (insert_entry nat_eq es oid (kept_as base content)) ≡ with_content (stores_of es) oid content)
        → Some base ≡ option_map (λ (s : Stored). s.base) (cond b (Some e.1) (lookup (nat_eq oid) es))
        → stores_of (cond b ((e.0, kept_as base content) ∷ es) (e ∷ insert_entry nat_eq es oid (kept_as base content)))
        ≡ cond b ((record { oid = e.0; base = e.1.base; content = content }) ∷ stores_of es) (store_of e ∷ with_content (stores_of es) oid content)
    by_cases true rest there = ap (λ (n : ℕ). store_of (e.0, kept_as n content) ∷ stores_of es) (same_base e.1.base base (sym there))
    by_cases false rest there = ap (λ (ps : List PendingStore). store_of e ∷ ps) (rest there)

-- an object without a store gets none
pub not_given : (es : List (ℕ × Stored)) (oid : ℕ) (content : Content) → None ≡ option_map (λ (s : Stored). s.base) (lookup (nat_eq oid) es) → stores_of es ≡ with_content (stores_of es) oid content
not_given [] oid content e = refl
not_given (e ∷ es) oid content is = by_cases (eqb oid e.0) (λ gone. not_given es oid content gone) is
  where
    by_cases : (b : Bool) → (None ≡ option_map (λ (s : Stored). s.base) (lookup (nat_eq oid) es) → stores_of es ≡ with_content (stores_of es) oid content)
        → None ≡ option_map (λ (s : Stored). s.base) (cond b (Some e.1) (lookup (nat_eq oid) es))
        → stores_of (e ∷ es) ≡ cond b ((record { oid = e.0; base = e.1.base; content = content }) ∷ stores_of es) (store_of e ∷ with_content (stores_of es) oid content)
    by_cases true rest gone = cc
    by_cases false rest gone = ap (λ (ps : List PendingStore). store_of e ∷ ps) (rest gone)

-- the last one of several is given first
pub given_last : (stores : List PendingStore) (es : List (ℕ × Content)) (e : ℕ × Content) → with_contents stores (es ++ e ∷ []) ≡ with_contents (with_content stores e.0 e.1) es
given_last stores [] e = refl
given_last stores (first ∷ es) e = ap (λ (ps : List PendingStore). with_content ps first.0 first.1) (given_last stores es e)

-- one more is given
pub given : (stores now : List PendingStore) (done left : List (ℕ × Content)) (e : ℕ × Content) (all : List PendingStore) → done ≡ left ++ e ∷ [] → now ≡ with_content stores e.0 e.1 → with_contents stores done ≡ all → with_contents now left ≡ all
given stores now done left e all is put same = ap (λ (ps : List PendingStore). with_contents ps left) put ∙ sym (given_last stores left e) ∙ ap (with_contents stores) (sym is) ∙ same

-- a front of the table has a front of the stores
pub front_of_stores : (es : List (ℕ × Stored)) (count : ℕ) → stores_of (take count es) ≡ take count (stores_of es)
front_of_stores es zero = refl
front_of_stores [] (suc n) = refl
front_of_stores (e ∷ es) (suc n) = ap (λ (ps : List PendingStore). store_of e ∷ ps) (front_of_stores es n)
