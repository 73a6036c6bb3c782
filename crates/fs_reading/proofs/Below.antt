-- The undo list in pieces.
use Rattle.std.proofs.Common.{◌≡◌, ℕ, ◌≤◌, Bool, cond, ltb, List, [], ◌∷◌, ◌++◌, length, map, filter, take, drop, Option, refl, sym, ap, subst, ◌∙◌, take_all, arith}
use Rattle.std.specs.Prelude.{reverse}
use Rattle.std.specs.List.{filter_map}
use Rattle.std.proofs.lemmas.List.{reverse-append, take-append-drop, take_at}
use Rattle.std.proofs.lemmas.List.Elements.{filter_map-append}
use Rattle.zb_model.specs.declared.data.Transaction.{Transaction}
use Rattle.zb_model.specs.Lists.{is_before}
use Rattle.fs_index.specs.declared.place.Place.{Place}
use Rattle.fs_index.specs.Places.{is_place_below}
use Rattle.fs_reading.specs.Cases.{by_bool}
use Rattle.fs_reading.specs.Standing.{TransactionsStand}

-- the transactions below a tid stand at the places below it
pub below_stand : (below : ℕ) (bytes : List ℕ) (ps : List Place) (ts : List Transaction) → TransactionsStand bytes ps ts → TransactionsStand bytes (filter (is_place_below below) ps) (filter (is_before below) ts)
below_stand below bytes [] [] all = tt
below_stand below bytes [] (t ∷ ts) all = absurd all
below_stand below bytes (p ∷ ps) [] all = absurd all
below_stand below bytes (p ∷ ps) (t ∷ ts) all =
    let rest = below_stand below bytes ps ts all.1 in
    let qs : List Place = filter (is_place_below below) ps in
    let us : List Transaction = filter (is_before below) ts in
    let P : Bool → Type 0 = λ b. TransactionsStand bytes (cond b (p ∷ qs) qs) (cond b (t ∷ us) us) in
    let both : P (ltb t.tid below) = by_bool P (ltb t.tid below) (λ e. (all.0, rest)) (λ e. rest) in
    subst (λ (n : ℕ). TransactionsStand bytes (cond (ltb n below) (p ∷ qs) qs) (cond (ltb t.tid below) (t ∷ us) us)) (sym all.0.serial) both

-- what is said of items from the end on, where that is enough of them
pub enough_lines : {X Y : Type 0} (f : X → Option Y) (xs : List X) (left n : ℕ) (lines : List Y) → lines ≡ reverse (filter_map f (drop left xs)) → length lines ≤ n → n ≤ length lines → lines ≡ take n (reverse (filter_map f xs))
enough_lines f xs left n lines is most least =
    let whole : reverse (filter_map f xs) ≡ lines ++ reverse (filter_map f (take left xs)) =
    ap (λ l. reverse (filter_map f l)) (sym (take-append-drop left xs)) ∙ ap reverse (filter_map-append f (take left xs) (drop left xs)) ∙ reverse-append (filter_map f (take left xs)) (filter_map f (drop left xs)) ∙ ap (λ l. l ++ reverse (filter_map f (take left xs))) (sym is) in
    sym (ap (take n) whole ∙ take_at lines (reverse (filter_map f (take left xs))) n (omega (arith, most, least)))

-- or where they are all
pub all_lines : {X Y : Type 0} (f : X → Option Y) (xs : List X) (left n : ℕ) (lines : List Y) → lines ≡ reverse (filter_map f (drop left xs)) → length lines ≤ n → left ≡ 0 → lines ≡ take n (reverse (filter_map f xs))
all_lines f xs left n lines is most none =
    let whole : lines ≡ reverse (filter_map f xs) = is ∙ ap (λ (k : ℕ). reverse (filter_map f (drop k xs))) none in
    sym (ap (take n) (sym whole) ∙ take_all n lines most)
