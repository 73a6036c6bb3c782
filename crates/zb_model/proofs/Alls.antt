-- What is true of each item, as a walk finds it.
use Rattle.std.proofs.Common.{◌≡◌, ℕ, ◌+◌, ◌<◌, ◌≤◌, List, length, get_or, take, sym, subst}
use Rattle.std.proofs.lemmas.List.{take_all}
use Rattle.std.specs.Prelude.{All}
use Rattle.std.proofs.lemmas.List.Elements.{All-more, All-get_or}

module _ {X : Type 0} (P : X → Type 0) (xs : List X) (i : ℕ) where
  -- of one more
  pub all_more : (x : X) → i < length xs → x ≡ get_or xs i x → All P (take i xs) → P x → All P (take (i + 1) xs)
  all_more x within at all this = All-more P xs i x within all (subst P at this)

  -- of all, once the walk is at the end
  pub all_done : length xs ≤ i → All P (take i xs) → All P xs
  all_done end all = subst (All P) (take_all i xs end) all

  -- of one of them
  pub all_at : (x : X) → i < length xs → x ≡ get_or xs i x → All P xs → P x
  all_at x within at all = subst P (sym at) (All-get_or P xs i x within all)
