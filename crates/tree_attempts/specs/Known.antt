-- What was read of objects so far. Own.
use Rattle.std.specs.Prelude.{◌≡◌, ℕ, List, Option, Some, nat_eq}
use Rattle.std.specs.Map.{lookup}
use Rattle.tree_attempts.specs.declared.known.Seen.{Seen}

-- what is known of an object: nothing, or that it has this, or no content
abbrev pub known_at : List (ℕ × Option Seen) → ℕ → Option (Option Seen)
known_at known oid = lookup (nat_eq oid) known

-- each object that is known has what is known of it
abbrev pub Agrees : List (ℕ × Option Seen) → (ℕ → Option Seen) → Type 0
Agrees known objects = (oid : ℕ) (x : Option Seen) → known_at known oid ≡ Some x → objects oid ≡ x
