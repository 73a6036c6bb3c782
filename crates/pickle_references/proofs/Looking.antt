-- What a reader of references goes on with shows what a reader of graphs goes on with.
use Rattle.std.proofs.Common.{◌≡◌, ℕ, List, [], ◌∷◌, drop, Ok, Err, refl, sym, ◌∙◌, ap}
use Rattle.pickle_references.specs.References.{Finding}
use Rattle.pickle_references.specs.Sights.{Sight}
use Rattle.pickle_reading.specs.declared.error.PickleError.{PickleError}
use Rattle.pickle_reading.specs.declared.state.Item.{Item}
use Rattle.pickle_reading.specs.declared.state.Item.TheVariants.{Value, Mark}
use Rattle.pickle_reading.specs.Reading.{read_from}
use Rattle.pickle_references.specs.References.{parts, root_at, left_of, left_with}
use Rattle.pickle_references.specs.Shown.{sight_of}
use Rattle.pickle_reading.specs.Sound.{IsSoundState}

-- what is kept at a place shows what was found there from a place on
pub record Looks (f : Finding) (at : ℕ) (input : List ℕ) (sight : Sight) (place : ℕ) : Type 0 where
  pub finding : Finding
  pub shows : sight ≡ sight_of finding
  pub sound : IsSoundState finding.state
  pub limit : finding.state.limit ≡ f.state.limit
  pub same : read_from parts 0 finding place (drop place input) ≡ read_from parts 0 f at (drop at input)

-- at the start
pub looks-first : (f : Finding) (at : ℕ) (input : List ℕ) (sight : Sight) → sight ≡ sight_of f → IsSoundState f.state → Looks f at input sight at
looks-first f at input sight e h = record { finding = f; shows = e; sound = h; limit = refl; same = refl }

root-of : (at next : ℕ) (f : Finding) (stack : List Item) (v : ℕ) → root_at at stack ≡ Ok v → left_of at next f stack ≡ Ok (left_with f v next)
root-of at next f (Value w ∷ below) v e = let same : w ≡ v = cc in ap (λ (x : ℕ). Ok (left_with f x next)) same
root-of at next f (Mark ∷ below) v e = absurd cc
root-of at next f [] v e = absurd cc

no-root : (at next : ℕ) (f : Finding) (stack : List Item) (d : PickleError) → root_at at stack ≡ Err d → left_of at next f stack ≡ Err d
no-root at next f (Value w ∷ below) d e = absurd cc
no-root at next f (Mark ∷ below) d e = cc
no-root at next f [] d e = cc

-- the root is that of what was found
pub root-found : (at next : ℕ) (f : Finding) (sight : Sight) (v : ℕ) → sight ≡ sight_of f → root_at at sight.state.stack ≡ Ok v → left_of at next f f.state.stack ≡ Ok (left_with f v next)
root-found at next f sight v e h = root-of at next f f.state.stack v (ap (λ (s : Sight). root_at at s.state.stack) (sym e) ∙ h)

pub root-refused : (at next : ℕ) (f : Finding) (sight : Sight) (d : PickleError) → sight ≡ sight_of f → root_at at sight.state.stack ≡ Err d → left_of at next f f.state.stack ≡ Err d
root-refused at next f sight d e h = no-root at next f f.state.stack d (ap (λ (s : Sight). root_at at s.state.stack) (sym e) ∙ h)
