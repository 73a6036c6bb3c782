-- Texts of children that go behind one another.
use Rattle.std.proofs.Common.{◌≡◌, ℕ, ◌+◌, ◌*◌, List, [], ◌∷◌, ◌++◌, length, Some, refl, sym, ◌∙◌, ap, arith, append_assoc}
use Rattle.btree_family.specs.Classes.{Class}
use Rattle.bucket_state.specs.declared.tree.Branch.{Branch}
use Rattle.bucket_state.specs.declared.tree.Inner.{Inner}
use Rattle.bucket_state.specs.Flat.{tuple_start, tuple_end, tuple_text, texts_of, link_text, next_text}
use Rattle.bucket_state.specs.InnerText.{child_texts, children_texts, inner_text}

-- a separator and a link more
pub child_step : (all key link rest keyed more : List ℕ) → keyed ≡ all ++ key → more ≡ keyed ++ link → more ++ rest ≡ all ++ (key ++ (link ++ rest))
child_step all key link rest keyed more e f =
    ap (λ (x : List ℕ). x ++ rest) (f ∙ ap (λ (x : List ℕ). x ++ link) e) ∙ append_assoc (all ++ key) link rest ∙ append_assoc all key (link ++ rest)

child_many : (child : Class) (branches : List Branch) → length (child_texts child branches) ≡ length branches * 2
child_many child [] = refl
child_many child (branch ∷ branches) = let rest = child_many child branches in omega (arith, rest)

pub inner_written : (child leaf : Class) (inner : Inner) (count : ℕ) (start head text children all : List ℕ) → count ≡ length inner.tail * 2 + 1 → start ≡ tuple_start count → head ≡ start ++ link_text inner.head child.module_name child.class_name → text ≡ head ++ texts_of (child_texts child inner.tail) → children ≡ text ++ tuple_end count → all ≡ children ++ next_text leaf (Some inner.first) → all ≡ inner_text child leaf inner
inner_written child leaf inner count start head text children all n a b c d e =
    let link : List ℕ = link_text inner.head child.module_name child.class_name in
    let rest : List ℕ = texts_of (child_texts child inner.tail) in
    let many = child_many child inner.tail in
    let size : count ≡ length (children_texts child inner) = omega (arith, n, many) in
    let members : text ≡ tuple_start count ++ (link ++ rest) = c ∙ ap (λ (x : List ℕ). x ++ rest) (b ∙ ap (λ (x : List ℕ). x ++ link) a) ∙ append_assoc (tuple_start count) link rest in
    let whole : children ≡ tuple_text (children_texts child inner) =
    d ∙ ap (λ (x : List ℕ). x ++ tuple_end count) members ∙ append_assoc (tuple_start count) (link ++ rest) (tuple_end count) ∙ ap (λ (k : ℕ). tuple_start k ++ ((link ++ rest) ++ tuple_end k)) size in
    e ∙ ap (λ (x : List ℕ). x ++ next_text leaf (Some inner.first)) whole
    ∙ sym (append_assoc (tuple_text (children_texts child inner)) (link_text inner.first leaf.module_name leaf.class_name ++ []) (0x86 ∷ []))
