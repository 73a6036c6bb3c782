-- What doors tell. Own.
use Rattle.std.specs.Prelude.{◌≡◌, ℕ, Option, Some, None, List, [], ◌∷◌, ◌++◌}

-- the port that the doors were bound with last, and the links that they gave, in order, each as the bytes that its source held
pub record Told : Type 0 where
  pub port : Option ℕ
  pub given : List (List ℕ)

-- the doors were bound with this port
abbrev pub bound_with : ℕ → Told → Told
bound_with port told = record told { port = Some port }

-- one link more was given, whose source held these bytes
abbrev pub with_link : List ℕ → Told → Told
with_link bytes told = record told { given = told.given ++ bytes ∷ [] }

-- A link was given whose source tells this. Doors that tell give sources that do, and the link is the last that they tell of.
abbrev pub Gives : Option Told → Option Told → Option (List ℕ) → Type 0
Gives None new left = new ≡ None
Gives (Some old) new left = (bytes : List ℕ) × (left ≡ Some bytes) × (new ≡ Some (with_link bytes old))
