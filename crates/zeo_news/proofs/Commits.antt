-- Commits that are told one after another.
use Rattle.std.proofs.Common.{◌≡◌, List, [], ◌∷◌, ◌++◌, map, ap, sym, ◌∙◌, append_assoc}

-- what is left to tell, once one more was told
pub commit_told : {T A B : Type 0} (f : A → B) (g : T → A) (old new all : List B) (left items : List T) (c : T) → items ≡ c ∷ left → new ≡ old ++ f (g c) ∷ []
    → old ++ map f (map g items) ≡ all → new ++ map f (map g left) ≡ all
commit_told f g old new all left items c is e so_far =
    ap (λ xs. xs ++ map f (map g left)) e ∙ append_assoc old (f (g c) ∷ []) (map f (map g left)) ∙ sym (ap (λ cs. old ++ map f (map g cs)) is) ∙ so_far
