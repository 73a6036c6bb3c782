-- The stamps that a clock gives. Own.
use Rattle.std.specs.Prelude.{List, [], ◌∷◌}
use Rattle.zb_ids.specs.declared.stamp.Stamp.{Stamp}

-- what is left of a clock's stamps once the first was given: the last one stays
abbrev pub stamps_after : List Stamp → List Stamp
stamps_after [] = []
stamps_after (last ∷ []) = last ∷ []
stamps_after (first ∷ next ∷ rest) = next ∷ rest
