-- Bytes that are a spelling.
use Rattle.std.proofs.Common.{◌≡◌, ℕ, Bool, true, false, List, [], ◌∷◌, Option, Some, None, Result, Ok, Err, refl, sym, ◌∙◌, ap}
use Rattle.std.specs.Prelude.{eqb, ◌&&◌, slice_get}
use Rattle.std.specs.Cmp.Lexicographic.{pointwise}
use Rattle.std.proofs.lemmas.Bool.{eqb-true}
use Rattle.pickle_graph.specs.Graph.{Graph, IsGraph}
use Rattle.pickle_writing.specs.Spelling.{Spelled, spelling_of}
use Rattle.btree_family.specs.Buckets.{IsSpelling}

both : (a b : Bool) → (a && b) ≡ true → (a ≡ true) × (b ≡ true)
both true true e = (refl, refl)
both true false e = cc
both false b e = cc

-- two texts that are the same byte for byte
same_bytes : (xs ys : List ℕ) → pointwise eqb xs ys ≡ true → xs ≡ ys
same_bytes [] [] e = refl
same_bytes [] (y ∷ ys) e = cc
same_bytes (x ∷ xs) [] e = cc
same_bytes (x ∷ xs) (y ∷ ys) e = let p = both (eqb x y) (pointwise eqb xs ys) e in ap (λ z. z ∷ xs) (eqb-true x y p.0) ∙ ap (λ zs. y ∷ zs) (same_bytes xs ys p.1)

pub spelled_is : (text spelled : List ℕ) (g : Graph) (n : ℕ) → IsGraph g.nodes g.root → n ≡ g.root → spelling_of g.nodes n ≡ Ok spelled → pointwise eqb spelled text ≡ true → IsSpelling text
spelled_is text spelled g n i r s e = record { graph = g; sound = i; spelled = ap (spelling_of g.nodes) (sym r) ∙ s ∙ ap Ok (same_bytes spelled text e) }
