-- How the table of what is written stands for the changes.
use Rattle.std.proofs.Common.{◌≡◌, ℕ, Bool, true, false, cond, eqb, List, [], ◌∷◌, map, Some, refl, sym, ap}
use Rattle.std.specs.Prelude.{All, nat_eq, option_map}
use Rattle.std.specs.List.{AllByRecursion}
use Rattle.std.specs.Map.{keys_of, lookup}
use Rattle.std.proofs.lemmas.Bool.{eqb-true}
use Rattle.std.proofs.lemmas.List.Elements.{All-from_recursion, recursion_from_All}
use Rattle.indexmap.specs.IndexMap.{insert_entry}
use Rattle.zb_model.specs.declared.new_transaction.NewChange.{NewChange}
use Rattle.zb_model.specs.declared.new_transaction.NewContent.{NewContent}
use Rattle.zb_model.specs.Voting.{IsFilled}
use Rattle.undo_records.specs.Undone.{with_change, written_for}
use Rattle.undo_records.specs.Written.{changes_in, change_of_entry}

pub lookup_is : (oid : ℕ) (es : List (ℕ × NewContent)) → lookup (nat_eq oid) es ≡ option_map (λ (c : NewChange). c.content) (written_for oid (changes_in es))
lookup_is oid [] = refl
lookup_is oid (e ∷ es) = by_cases (eqb oid e.0) refl (lookup_is oid es)
  where
    by_cases : (b : Bool) → eqb oid e.0 ≡ b → lookup (nat_eq oid) es ≡ option_map (λ (c : NewChange). c.content) (written_for oid (changes_in es)) → cond b (Some e.1) (lookup (nat_eq oid) es) ≡ option_map (λ (c : NewChange). c.content) (cond b (Some (change_of_entry e)) (written_for oid (changes_in es)))
    by_cases true q rest = refl
    by_cases false q rest = rest

pub insert_is : (es : List (ℕ × NewContent)) (oid : ℕ) (content : NewContent) → changes_in (insert_entry nat_eq es oid content) ≡ with_change (changes_in es) (record { oid = oid; content = content })
insert_is [] oid content = refl
insert_is (e ∷ es) oid content = by_cases (eqb oid e.0) refl (insert_is es oid content)
  where
    by_cases : (b : Bool) → eqb oid e.0 ≡ b → changes_in (insert_entry nat_eq es oid content) ≡ with_change (changes_in es) (record { oid = oid; content = content })
        → changes_in (cond b ((e.0, content) ∷ es) (e ∷ insert_entry nat_eq es oid content)) ≡ cond b ((record { oid = oid; content = content }) ∷ changes_in es) (change_of_entry e ∷ with_change (changes_in es) (record { oid = oid; content = content }))
    by_cases true q rest = ap (λ (n : ℕ). (let c : NewChange = record { oid = n; content = content } in c) ∷ changes_in es) (sym (eqb-true oid e.0 q))
    by_cases false q rest = ap (λ (cs : List NewChange). change_of_entry e ∷ cs) rest

pub oids_are : (es : List (ℕ × NewContent)) → map (λ c. c.oid) (changes_in es) ≡ keys_of es
oids_are [] = refl
oids_are (e ∷ es) = ap (λ (ns : List ℕ). e.0 ∷ ns) (oids_are es)

-- what holds of each change, and of one more
pub each_with : (P : NewChange → Type 0) (written : List NewChange) (c : NewChange) → AllByRecursion P written → P c → AllByRecursion P (with_change written c)
each_with P [] c all one = (one, tt)
each_with P (d ∷ written) c all one = by_cases (eqb c.oid d.oid) refl (each_with P written c all.1 one)
  where
    by_cases : (b : Bool) → eqb c.oid d.oid ≡ b → AllByRecursion P (with_change written c) → AllByRecursion P (cond b (c ∷ written) (d ∷ with_change written c))
    by_cases true q rest = (one, all.1)
    by_cases false q rest = (all.0, rest)

pub filled_with : (written : List NewChange) (c : NewChange) → All (λ d. IsFilled d.content) written → IsFilled c.content → All (λ d. IsFilled d.content) (with_change written c)
filled_with written c all one =
    let P : NewChange → Type 0 = λ d. IsFilled d.content in
    All-from_recursion P (with_change written c) (each_with P written c (recursion_from_All P written all) one)
