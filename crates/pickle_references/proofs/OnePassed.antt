-- Values passed from the top.
use Rattle.std.proofs.Common.{◌≡◌, ℕ, zero, suc, ◌-◌, ◌<◌, List, ◌∷◌, sym, ◌∙◌, ap, arith}
use Rattle.pickle_reading.specs.declared.state.Item.{Item}
use Rattle.pickle_reading.specs.declared.state.Item.TheVariants.{Value}
use Rattle.pickle_references.specs.declared.passing.Passed.{Passed}
use Rattle.pickle_references.specs.Shapes.{PassedValues, one_passed, past_top}

one_less : (n v : ℕ) (below : List Item) (seen : Passed) → 0 < n → past_top n (Value v ∷ below) seen ≡ past_top (n - 1) below (one_passed seen v)
one_less zero v below seen h = absurd (omega arith)
one_less (suc n) v below seen h = ap (λ k. past_top k below (one_passed seen v)) (omega arith)

-- One more value is passed: what is left to pass gives what all of it gives.
pub passed_one : (n v : ℕ) (item : Item) (stack below : List Item) (old new : Passed) (whole : PassedValues) → 0 < n → stack ≡ item ∷ below → item ≡ Value v → new ≡ one_passed old v →
    past_top n stack old ≡ whole → past_top (n - 1) below new ≡ whole
passed_one n v item stack below old new whole some is value passed same =
    ap (past_top (n - 1) below) passed
    ∙ sym (one_less n v below old some)
    ∙ ap (λ s. past_top n s old) (sym (is ∙ ap (λ i. i ∷ below) value))
    ∙ same
