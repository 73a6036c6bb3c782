-- The lines that stand beside replies. Own.
use Rattle.std.specs.Prelude.{ℕ, List, [], ◌∷◌, ◌++◌, Option, Some, None, codes, decimal}
use Rattle.std.specs.List.{flat_map}

abbrev pub line : List ℕ → List ℕ
line text = text ++ 10 ∷ []

-- lines, one behind another
abbrev pub joined : List (List ℕ) → List ℕ
joined lines = flat_map (λ l. l) lines

abbrev pub store_fault_line : List ℕ
store_fault_line = line (codes "store fault")

-- where opening the file cut a tail off, the first line says so
abbrev pub cut_lines : Option ℕ → List (List ℕ)
cut_lines None = []
cut_lines (Some at) = line (codes "cut " ++ decimal at) ∷ []
