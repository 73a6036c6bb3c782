-- The last line of a script that is made.
use Rattle.std.proofs.Common.{◌≡◌, ℕ, List, [], ◌∷◌, ◌++◌, Option, append-nil, append_assoc, inl, length, ap, sym, ◌∙◌}
use Rattle.std.specs.FinSet.{len}
use Rattle.zb_model.specs.Stores.{StoreState}
use Rattle.script_runs.specs.declared.status.Status.{Status}
use Rattle.script_runs.specs.declared.status.Status.TheVariants as status
use Rattle.script_runs.specs.declared.tally.Tally.{Tally}
use Rattle.script_runs.specs.Made.{IsLastOf, SaysLast, WritesLast}
use Rattle.script_runs.specs.Summary.{held_objects, numbers_line}

-- the summary was to be written
pub summed_up : (s : Status) (told : Type 0) (rounds : ℕ) (tally : Tally) (transactions objects : ℕ) (old new : StoreState) (taken taken' : Option (List ℕ)) (before now : ℕ) (text : List ℕ) → WritesLast s taken taken' before now text
    → text ≡ numbers_line rounds tally.committed tally.conflicts tally.refused transactions objects → (told → transactions ≡ length old.list) → (told → objects ≡ len (held_objects old.list)) → new.read_faults ≡ old.read_faults
    → SaysLast s told rounds tally old new taken taken' before now
summed_up s told rounds tally transactions objects old new taken taken' before now text wrote is has holds still = by_status s wrote
  where
    last : IsLastOf told rounds tally old.list old.read_faults new.read_faults text
    last = inl (
      still,
      λ here.
          is
          ∙ ap (λ (n : ℕ). numbers_line rounds tally.committed tally.conflicts tally.refused n objects) (has here)
          ∙ ap (λ (n : ℕ). numbers_line rounds tally.committed tally.conflicts tally.refused (length old.list) n) (holds here),
    )

    by_status : (s : Status) → WritesLast s taken taken' before now text → SaysLast s told rounds tally old new taken taken' before now
    by_status status.Done wrote = (text, last, wrote)
    by_status status.SinkFault wrote = (wrote.0, (text, last, wrote.1))
    by_status _ wrote = absurd wrote

-- a text that six pieces are put behind, and a newline
pub six_pieces : (t t₁ t₂ t₃ t₄ t₅ t₆ new a b c d e f : List ℕ) → t ≡ [] → t₁ ≡ t ++ a → t₂ ≡ t₁ ++ b → t₃ ≡ t₂ ++ c → t₄ ≡ t₃ ++ d → t₅ ≡ t₄ ++ e → t₆ ≡ t₅ ++ f → new ≡ t₆ ++ 10 ∷ []
    → new ≡ (a ++ (b ++ (c ++ (d ++ (e ++ (f ++ [])))))) ++ 10 ∷ []
six_pieces t t₁ t₂ t₃ t₄ t₅ t₆ new a b c d e f is is₁ is₂ is₃ is₄ is₅ is₆ last =
    last ∙ ap (λ (x : List ℕ). x ++ 10 ∷ [])
    (is₆ ∙ ap (λ (x : List ℕ). x ++ f) (is₅ ∙ ap (λ (x : List ℕ). x ++ e) (is₄ ∙ ap (λ (x : List ℕ). x ++ d) (is₃ ∙ ap (λ (x : List ℕ). x ++ c) (is₂ ∙ ap (λ (x : List ℕ). x ++ b) (is₁ ∙ ap (λ (x : List ℕ). x ++ a) is)))))
    ∙ append_assoc ((((a ++ b) ++ c) ++ d)) e f ∙ append_assoc ((a ++ b) ++ c) d (e ++ f) ∙ append_assoc (a ++ b) c (d ++ (e ++ f)) ∙ append_assoc a b (c ++ (d ++ (e ++ f)))
    ∙ ap (λ (x : List ℕ). a ++ (b ++ (c ++ (d ++ (e ++ x))))) (sym (append-nil f)))
