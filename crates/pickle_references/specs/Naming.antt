-- What tokens name, whatever is kept of a node.
use Rattle.std.specs.Prelude.{ℕ, ℤ, List, [], ◌∷◌, ◌++◌, Option, Result, Ok, Err, slice_get}
use Rattle.pickle_ops.specs.declared.table.Op.{Op}
use Rattle.pickle_ops.specs.declared.table.Op.TheVariants as ops
use Rattle.pickle_reading.specs.declared.error.PickleError.{PickleError}
use Rattle.pickle_reading.specs.declared.error.PickleError.TheVariants as errors
use Rattle.pickle_reading.specs.declared.state.Item.{Item}
use Rattle.pickle_reading.specs.declared.state.Item.TheVariants.{Value}
use Rattle.pickle_reading.specs.declared.state.State.{State}
use Rattle.pickle_reading.specs.Steps.{Keeping, step}
use Rattle.pickle_references.specs.declared.finding.Finding.{Finding}
use Rattle.pickle_references.specs.declared.references.Named.{Named}
use Rattle.pickle_references.specs.declared.references.Named.TheVariants.{Strong, Weak, Bad}

-- what the value on the top names
abbrev pub named_on : {L : Type 0} → (List L → Option L → Named) → List L → List Item → Named
named_on name ns (Value v ∷ below) = name ns (slice_get ns v)
named_on name ns _ = Bad

-- only a persistent id's token names something
abbrev pub named_by_token : {L : Type 0} → (List L → Option L → Named) → Op → List L → List Item → Named
named_by_token name ops.BinPersid ns stack = named_on name ns stack
named_by_token name _ ns stack = Weak

-- the oids with what one more persistent id names
abbrev pub noted : {L : Type 0} → ℕ → State L → List ℕ → Named → Result (Finding L) PickleError
noted at s oids (Strong oid) = Ok (record { state = s; oids = oids ++ oid ∷ [] })
noted at s oids Weak = Ok (record { state = s; oids = oids })
noted at s oids Bad = Err (errors.BadReference at)

-- the oids behind a token that was done, or its refusal
abbrev pub noted_in : {L : Type 0} → ℕ → List ℕ → Named → Result (State L) PickleError → Result (Finding L) PickleError
noted_in at oids named (Ok s) = noted at s oids named
noted_in at oids named (Err e) = Err e

-- what a token does, and what its persistent id names
abbrev pub find : {L V A : Type 0} → Keeping L V A → (List L → Option L → Named) → Op → ℕ → ℤ → List ℕ → Finding L → Result (Finding L) PickleError
find k name op at number bytes f =
    noted_in at f.oids (named_by_token name op f.state.nodes f.state.stack) (step k op at number bytes f.state)
