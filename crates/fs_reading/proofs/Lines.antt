-- One line more of a list.
use Rattle.std.proofs.Common.{◌≡◌, ℕ, zero, suc, ◌+◌, ◌<◌, Bool, cond, List, [], ◌∷◌, ◌++◌, length, map, get_or, drop, Option, Some, None, refl, sym, ap, ◌∙◌, arith}
use Rattle.std.specs.Prelude.{reverse}
use Rattle.std.specs.List.{AllByRecursion, filter_map, cons_option}
use Rattle.std.specs.Option.{option_to_list}
use Rattle.std.proofs.lemmas.List.{append-nil, reverse-append, drop_more}
use Rattle.zb_model.specs.declared.lists.Revision.{Revision}
use Rattle.fs_index.specs.declared.place.Place.{Place}
use Rattle.fs_records.specs.Blocks.{Known}
use Rattle.fs_records.specs.Indexed.{place_of}
use Rattle.fs_reading.specs.Cases.{by_bool}
use Rattle.fs_reading.specs.Standing.{is_replaced, lasts}
use Rattle.fs_reading.specs.Sources.{is_same_transaction}

-- ---- lists that are gone through from their end

reverse_option : {X : Type 0} (o : Option X) (xs : List X) → reverse (cons_option o xs) ≡ reverse xs ++ option_to_list o
reverse_option None xs = sym (append-nil (reverse xs))
reverse_option {X} (Some x) xs = reverse-append (x ∷ []) xs

-- the items that something is said of
pub one_line : {X Y : Type 0} (f : X → Option Y) (xs : List X) (i : ℕ) (d : X) → i < length xs
    → reverse (filter_map f (drop (i + 1) xs)) ++ option_to_list (f (get_or xs i d)) ≡ reverse (filter_map f (drop i xs))
one_line {X} f xs i d within =
    sym (ap (λ (l : List X). reverse (filter_map f l)) (drop_more xs i d within) ∙ reverse_option (f (get_or xs i d)) (filter_map f (drop (i + 1) xs)))

-- ---- one item of a list and of its places

pub record AtIndex (P : Known → Type 0) (ks : List Known) (i : ℕ) (place : Place) : Type 0 where
  pub known : Known
  pub rest : drop i ks ≡ known ∷ drop (i + 1) ks
  pub is : place ≡ place_of known
  pub holds : P known

pub at_index : (P : Known → Type 0) (ks : List Known) (i : ℕ) (d place : Place) → AllByRecursion P ks → i < length ks → place ≡ get_or (map place_of ks) i d → AtIndex P ks i place
at_index P [] i d place all within is = absurd (omega arith)
at_index P (k ∷ ks) zero d place all within is = record { known = k; rest = refl; is = is; holds = all.0 }
at_index P (k ∷ ks) (suc i) d place all within is = let more = at_index P ks i d place all.1 (omega arith) is in record { known = more.known; rest = (let e : suc (i + 1) ≡ suc i + 1 = omega arith in more.rest ∙ ap (λ (n : ℕ). more.known ∷ drop n (k ∷ ks)) e); is = more.is; holds = more.holds }

drop_map : (ks : List Known) (n : ℕ) → drop n (map place_of ks) ≡ map place_of (drop n ks)
drop_map [] zero = refl
drop_map [] (suc n) = refl
drop_map (k ∷ ks) zero = refl
drop_map (k ∷ ks) (suc n) = drop_map ks n

pub later_places : (places : List Place) (ks : List Known) (n : ℕ) → places ≡ map place_of ks → drop n places ≡ map place_of (drop n ks)
later_places places ks n is = ap (drop n) is ∙ drop_map ks n

pub same_transaction : (k : Known) (ks : List Known) → is_same_transaction k.tid (map place_of ks) ≡ is_replaced k ks
same_transaction k [] = refl
same_transaction k (next ∷ rest) = refl

-- a history's line, for the last record of each transaction
pub one_revision : (f : Known → Revision) (ks : List Known) (i : ℕ) (k : Known) → drop i ks ≡ k ∷ drop (i + 1) ks
    → reverse (map f (lasts (drop (i + 1) ks))) ++ option_to_list (cond (is_replaced k (drop (i + 1) ks)) None (Some (f k))) ≡ reverse (map f (lasts (drop i ks)))
one_revision f ks i k is =
    let rest : List Known = drop (i + 1) ks in
    let P : Bool → Type 0 = λ b. reverse (map f (lasts rest)) ++ option_to_list (cond b None (Some (f k))) ≡ reverse (map f (cond b (lasts rest) (k ∷ lasts rest))) in
    by_bool P (is_replaced k rest) (λ e. append-nil (reverse (map f (lasts rest)))) (λ e. sym (reverse-append (f k ∷ []) (map f (lasts rest))))
    ∙ sym (ap (λ (x : List Known). reverse (map f (lasts x))) is)
