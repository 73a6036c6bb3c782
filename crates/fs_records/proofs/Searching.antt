-- The last of places that rise, and the last up to a transaction.
use Rattle.std.proofs.Common.{◌≡◌, ℕ, suc, ◌+◌, ◌-◌, ◌<◌, ◌≤◌, Bool, true, false, ltb, leb, List, length, get_or, take, filter, None, inl, inr, sym, ap, ◌∙◌, arith}
use Rattle.std.specs.List.{last_or}
use Rattle.std.specs.List.Sorted.{IsPartitionPoint}
use Rattle.std.proofs.lemmas.Bool.{cases_lt, le-leb, lt-leb, lt-ltb, le-ltb}
use Rattle.fs_index.specs.declared.place.Place.{Place}
use Rattle.fs_index.specs.Places.{last_below, is_place_below}
use Rattle.fs_records.specs.Writing.{at_or_0}
use Rattle.zb_base.specs.Lists.{filter_take, last_or_take}

-- up to a number is below the next
up_to : (n m : ℕ) → leb n m ≡ ltb n (m + 1)
up_to n m =
    elim (cases_lt n (m + 1)) [
      | inl lt ↦ le-leb n m (omega arith) ∙ sym (lt-ltb n (m + 1) lt)
      | inr le ↦ lt-leb n m (omega arith) ∙ sym (le-ltb n (m + 1) le)
    ]

abbrev pub is_up_to : ℕ → Place → Bool
is_up_to serial p = leb p.serial serial

abbrev Parts : ℕ → List Place → ℕ → Type 0
Parts serial xs n = IsPartitionPoint (λ p. is_up_to serial p ≡ true) (λ p. is_up_to serial p ≡ false) xs n

filtered : (serial : ℕ) (xs : List Place) (n : ℕ) → n ≤ length xs → Parts serial xs n → filter (is_place_below (serial + 1)) xs ≡ take n xs
filtered serial xs n h parts =
    filter_take (is_place_below (serial + 1)) xs n (λ k d l. sym (up_to (get_or xs k d).serial serial) ∙ parts.0 k d (omega arith) l) (λ k d m l. sym (up_to (get_or xs k d).serial serial) ∙ parts.1 k d m l) h

pub none_up_to : (serial : ℕ) (xs : List Place) (n : ℕ) → n ≤ length xs → Parts serial xs n → n ≡ 0 → 0 ≡ at_or_0 (last_below (serial + 1) xs)
unfolding last_below
none_up_to serial xs n h parts zero_is = sym (ap (λ (ps : List Place). at_or_0 (last_or None ps)) (filtered serial xs n h parts ∙ ap (λ k. take k xs) zero_is))

pub one_up_to : (serial : ℕ) (xs : List Place) (n : ℕ) (d : Place) → n ≤ length xs → Parts serial xs n → 0 < n → (get_or xs (n - 1) d).at ≡ at_or_0 (last_below (serial + 1) xs)
unfolding last_below
one_up_to serial xs n d h parts some =
    let n_is : n ≡ suc (n - 1) = omega arith in
    sym (ap (λ (ps : List Place). at_or_0 (last_or None ps)) (filtered serial xs n h parts ∙ ap (λ k. take k xs) n_is) ∙ ap at_or_0 (last_or_take None xs (n - 1) d (omega arith)))
