-- Values taken from the top.
use Rattle.std.proofs.Common.{◌≡◌, ℕ, zero, suc, ◌-◌, ◌<◌, List, [], ◌∷◌, ◌++◌, reverse, sym, ◌∙◌, ap, arith}
use Rattle.std.proofs.lemmas.List.{reverse-append}
use Rattle.pickle_reading.specs.declared.state.Item.{Item}
use Rattle.pickle_reading.specs.declared.state.Item.TheVariants.{Value}
use Rattle.pickle_reading.specs.Stacks.{TakenValues, top_values}

one_more : (n v : ℕ) (below : List Item) (values : List ℕ) → 0 < n → top_values n (Value v ∷ below) values ≡ top_values (n - 1) below (v ∷ values)
one_more zero v below values h = absurd (omega arith)
one_more (suc n) v below values h = ap (λ k. top_values k below (v ∷ values)) (omega arith)

-- One more value is taken: what is left to take gives what all of it gives.
pub took_one : (n v : ℕ) (item : Item) (stack below : List Item) (old new : List ℕ) (whole : TakenValues) → 0 < n → stack ≡ item ∷ below → item ≡ Value v → new ≡ old ++ v ∷ [] →
    top_values n stack (reverse old) ≡ whole → top_values (n - 1) below (reverse new) ≡ whole
took_one n v item stack below old new whole some is value pushed same =
    ap (top_values (n - 1) below) (ap reverse pushed ∙ reverse-append old (v ∷ []))
    ∙ sym (one_more n v below (reverse old) some)
    ∙ ap (λ s. top_values n s (reverse old)) (sym (is ∙ ap (λ i. i ∷ below) value))
    ∙ same
