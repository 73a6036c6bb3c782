-- Lists that are written item by item.
use Rattle.std.proofs.Common.{◌≡◌, ℕ, ◌+◌, ◌<◌, ◌≤◌, List, [], ◌∷◌, ◌++◌, length, map, drop, get_or, sym, ap, ◌∙◌, append_assoc}
use Rattle.std.proofs.lemmas.List.{drop_more, drop_all, length-map}
use Rattle.zeo_values.specs.Values.{ended, list_of, opening, closing}

-- what is still to be written of a list
abbrev pub list_rest : {T : Type 0} → (T → List ℕ) → ℕ → List T → List ℕ
list_rest text i items = ended (map text (drop i items)) (closing (length items))

-- the opening is written
pub list_begun : {T : Type 0} (text : T → List ℕ) (old new : List ℕ) (items : List T) → new ≡ old ++ 0x5d ∷ opening (length items)
    → new ++ list_rest text 0 items ≡ old ++ list_of text items
list_begun text old new items e =
    rw (length-map items text) (ap (λ (x : List ℕ). x ++ list_rest text 0 items) e ∙ append_assoc old (0x5d ∷ opening (length items)) (list_rest text 0 items))

-- an item is written
pub list_on : {T : Type 0} (text : T → List ℕ) (old new all : List ℕ) (items : List T) (i : ℕ) (item : T) → i < length items → item ≡ get_or items i item
    → new ≡ old ++ text item → old ++ list_rest text i items ≡ all → new ++ list_rest text (i + 1) items ≡ all
list_on text old new all items i item less is e so_far =
    let more : drop i items ≡ get_or items i item ∷ drop (i + 1) items = drop_more items i item less in
    let first : list_rest text i items ≡ text item ++ list_rest text (i + 1) items =
    ap (λ xs. ended (map text xs) (closing (length items))) more ∙ ap (λ (x : _). text x ++ list_rest text (i + 1) items) (sym is) in
    ap (λ (x : List ℕ). x ++ list_rest text (i + 1) items) e ∙ append_assoc old (text item) (list_rest text (i + 1) items)
    ∙ ap (λ (x : List ℕ). old ++ x) (sym first) ∙ so_far

-- all items are written
pub list_over : {T : Type 0} (text : T → List ℕ) (old all : List ℕ) (items : List T) (i : ℕ) → length items ≤ i → old ++ list_rest text i items ≡ all
    → old ++ closing (length items) ≡ all
list_over text old all items i less so_far =
    let none : drop i items ≡ [] = drop_all i items less in
    ap (λ xs. old ++ ended (map text xs) (closing (length items))) (sym none) ∙ so_far
