-- Items of nodes that hold the same, one by one.
use Rattle.std.proofs.Common.{◌≡◌, ℕ, Bool, true, false, List, [], ◌∷◌, Option, Some, None, refl, ap}
use Rattle.std.specs.Option.{option_map, option_and_then}
use Rattle.pickle_graph.specs.declared.node.Node.{Node}
use Rattle.btree_family.specs.declared.table.KeyKind.{KeyKind}
use Rattle.btree_family.specs.declared.table.ValueKind.{ValueKind}
use Rattle.btree_family.specs.Classes.{Class}
use Rattle.bucket_state.specs.declared.entries.Entry.{Entry}
use Rattle.bucket_state.specs.States.{found_both, found_all, key_at, family_value_at, has_values, single_entries, pair_entries, entries_in, entry_value, entry_item, standing_items, member_items, link_at}
use Rattle.bucket_state.specs.Trees.{child_at, branch_at, standing_branches, branches_in}

-- each of these numbers and the one in its place
abbrev pub EachPair : (ℕ → ℕ → Type 0) → List ℕ → List ℕ → Type 0
EachPair R [] [] = Unit {0}
EachPair R (x ∷ xs) (y ∷ ys) = R x y × EachPair R xs ys
EachPair R _ _ = ⊥

abbrev ValuesPair : (ℕ → ℕ → Type 0) → Option ℕ → Option ℕ → Type 0
ValuesPair R None None = Unit {0}
ValuesPair R (Some x) (Some y) = R x y
ValuesPair R _ _ = ⊥

abbrev EntriesPair : (ℕ → ℕ → Type 0) → List Entry → List Entry → Type 0
EntriesPair R [] [] = Unit {0}
EntriesPair R (d ∷ ds) (e ∷ es) = R d.key e.key × ValuesPair R d.value e.value × EntriesPair R ds es
EntriesPair R _ _ = ⊥

abbrev FoundPair : (ℕ → ℕ → Type 0) → Option (List Entry) → Option (List Entry) → Type 0
FoundPair R None None = Unit {0}
FoundPair R (Some ds) (Some es) = EntriesPair R ds es
FoundPair R _ _ = ⊥

singles_pair : (R : ℕ → ℕ → Type 0) (xs ys : List ℕ) → EachPair R xs ys → EntriesPair R (single_entries xs) (single_entries ys)
singles_pair R [] [] h = tt
singles_pair R (x ∷ xs) (y ∷ ys) h = (h.0, tt, singles_pair R xs ys h.1)
singles_pair R [] (y ∷ ys) h = absurd h
singles_pair R (x ∷ xs) [] h = absurd h

one_more : (R : ℕ → ℕ → Type 0) (k l v w : ℕ) (ds es : Option (List Entry)) → R k l → R v w → FoundPair R ds es →
    FoundPair R (option_map (λ entries. record { key = k; value = Some v } ∷ entries) ds) (option_map (λ entries. record { key = l; value = Some w } ∷ entries) es)
one_more R k l v w None None g f h = tt
one_more R k l v w (Some ds) (Some es) g f h = (g, f, h)
one_more R k l v w None (Some es) g f h = absurd h
one_more R k l v w (Some ds) None g f h = absurd h

pub pairs_pair : (R : ℕ → ℕ → Type 0) (xs ys : List ℕ) → EachPair R xs ys → FoundPair R (pair_entries xs) (pair_entries ys)
pairs_pair R [] [] h = tt
pairs_pair R (x ∷ []) (y ∷ []) h = tt
pairs_pair R (k ∷ v ∷ xs) (l ∷ w ∷ ys) h = one_more R k l v w (pair_entries xs) (pair_entries ys) h.0 h.1.0 (pairs_pair R xs ys h.1.1)
pairs_pair R [] (y ∷ ys) h = absurd h
pairs_pair R (x ∷ xs) [] h = absurd h
pairs_pair R (x ∷ []) (l ∷ w ∷ ys) h = absurd h.1
pairs_pair R (k ∷ v ∷ xs) (y ∷ []) h = absurd h.1

entries_pair : (R : ℕ → ℕ → Type 0) (values : Bool) (xs ys : List ℕ) → EachPair R xs ys → FoundPair R (entries_in values xs) (entries_in values ys)
entries_pair R true xs ys h = pairs_pair R xs ys h
entries_pair R false xs ys h = singles_pair R xs ys h

-- numbers in two lists of nodes that hold the same keys, values and links
module _ (cs ns : List Node) (R : ℕ → ℕ → Type 0) (keys : (kind : KeyKind) (x y : ℕ) → R x y → key_at kind cs x ≡ key_at kind ns y) where
  module _ (values : (kind : ValueKind) (x y : ℕ) → R x y → family_value_at kind cs x ≡ family_value_at kind ns y) where
    value_same : (kind : ValueKind) (v w : Option ℕ) → ValuesPair R v w → entry_value kind cs v ≡ entry_value kind ns w
    value_same kind None None h = refl
    value_same kind (Some v) (Some w) h = ap (option_map (λ (text : List ℕ). Some text)) (values kind v w h)
    value_same kind None (Some w) h = absurd h
    value_same kind (Some v) None h = absurd h

    items_same : (class : Class) (ds es : List Entry) → EntriesPair R ds es → found_all (entry_item class cs) ds ≡ found_all (entry_item class ns) es
    items_same class [] [] h = refl
    items_same class (d ∷ ds) (e ∷ es) h =
        let key = keys class.key d.key e.key h.0 in
        let value = value_same class.value d.value e.value h.1 in
        let rest = items_same class ds es h.2 in
        λ i. found_both (λ y ys. y ∷ ys) (found_both (λ k v. record { key = k; value = v }) (key i) (value i)) (rest i)
    items_same class [] (e ∷ es) h = absurd h
    items_same class (d ∷ ds) [] h = absurd h

    found_same : (class : Class) (ds es : Option (List Entry)) → FoundPair R ds es → option_and_then standing_items (option_and_then (found_all (entry_item class cs)) ds) ≡ option_and_then standing_items (option_and_then (found_all (entry_item class ns)) es)
    found_same class None None h = refl
    found_same class (Some ds) (Some es) h = ap (option_and_then standing_items) (items_same class ds es h)
    found_same class None (Some es) h = absurd h
    found_same class (Some ds) None h = absurd h

    pub members_same : (class : Class) (xs ys : List ℕ) → EachPair R xs ys → member_items class cs xs ≡ member_items class ns ys
    members_same class xs ys h = found_same class (entries_in (has_values class.kind) xs) (entries_in (has_values class.kind) ys) (entries_pair R (has_values class.kind) xs ys h)

  module _ (links : (x y : ℕ) → R x y → link_at cs x ≡ link_at ns y) where
    child_same : (v w : Option ℕ) → ValuesPair R v w → child_at cs v ≡ child_at ns w
    child_same None None h = refl
    child_same (Some v) (Some w) h = links v w h
    child_same None (Some w) h = absurd h
    child_same (Some v) None h = absurd h

    branches_same : (kind : KeyKind) (ds es : List Entry) → EntriesPair R ds es → found_all (branch_at kind cs) ds ≡ found_all (branch_at kind ns) es
    branches_same kind [] [] h = refl
    branches_same kind (d ∷ ds) (e ∷ es) h =
        let key = keys kind d.key e.key h.0 in
        let child = child_same d.value e.value h.1 in
        let rest = branches_same kind ds es h.2 in
        λ i. found_both (λ y ys. y ∷ ys) (found_both (λ k c. record { key = k; child = c }) (key i) (child i)) (rest i)
    branches_same kind [] (e ∷ es) h = absurd h
    branches_same kind (d ∷ ds) [] h = absurd h

    standing_same : (kind : KeyKind) (ds es : Option (List Entry)) → FoundPair R ds es → option_and_then standing_branches (option_and_then (found_all (branch_at kind cs)) ds) ≡ option_and_then standing_branches (option_and_then (found_all (branch_at kind ns)) es)
    standing_same kind None None h = refl
    standing_same kind (Some ds) (Some es) h = ap (option_and_then standing_branches) (branches_same kind ds es h)
    standing_same kind None (Some es) h = absurd h
    standing_same kind (Some ds) None h = absurd h

    pub tails_same : (kind : KeyKind) (xs ys : List ℕ) → EachPair R xs ys → branches_in kind cs xs ≡ branches_in kind ns ys
    tails_same kind xs ys h = standing_same kind (pair_entries xs) (pair_entries ys) (pairs_pair R xs ys h)
