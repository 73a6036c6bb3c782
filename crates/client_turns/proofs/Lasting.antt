-- Which turns are the last of their clients, found from the end.
use Rattle.std.proofs.Common.{◌≡◌, ℕ, suc, ◌+◌, ◌<◌, ◌≤◌, Bool, true, false, not, ◌||◌, List, [], ◌∷◌, ◌++◌, length, get_or, drop, refl, sym, ap, subst, ◌∙◌, arith}
use Rattle.std.specs.Prelude.{bytes_eq, reverse}
use Rattle.std.specs.List.{list_any}
use Rattle.std.proofs.Math.Seq.{drop-length, drop-cons}
use Rattle.std.proofs.lemmas.List.{reverse-append}
use Rattle.std.proofs.lemmas.List.Folds.{list_any-append}
use Rattle.std.proofs.lemmas.Slice.Eq.{bytes_eq-Decides}
use Rattle.zb_script.specs.declared.line.Turn.{Turn}
use Rattle.client_turns.specs.Output.{has, is_last, is_turn_of, last_flags, with_name}

-- the names are those of the later turns, and the flags are theirs, the last first
pub record FoundFrom (turns : List Turn) (i : ℕ) (names : List (List ℕ)) (flags : List Bool) : Type 0 where
  pub within : i ≤ length turns
  pub named : (name : List ℕ) → has name names ≡ list_any (is_turn_of name) (drop i turns)
  pub found : reverse flags ≡ last_flags (drop i turns)

pub found_start : (turns : List Turn) → FoundFrom turns (length turns) [] []
found_start turns = record {
  within = omega arith;
  named = λ name. ap (list_any (is_turn_of name)) (sym (drop-length turns));
  found = ap last_flags (sym (drop-length turns));
}

-- either order, and nothing more
either_order : (a b : Bool) → (a || (b || false)) ≡ (b || a)
either_order true true = refl
either_order true false = refl
either_order false true = refl
either_order false false = refl

-- one that was found is there
there_already : (a b : Bool) → (b ≡ true → a ≡ true) → a ≡ (b || a)
there_already a true found = found refl
there_already a false found = refl

name_true : (n name : List ℕ) → bytes_eq n name ≡ true → n ≡ name
name_true n name is = (bytes_eq-Decides n name).0 is

named_more : (later : List Turn) (t : Turn) (names : List (List ℕ)) (b : Bool) → ((name : List ℕ) → has name names ≡ list_any (is_turn_of name) later) → b ≡ not (has t.client names)
    → (name : List ℕ) → has name (with_name names t.client b) ≡ list_any (is_turn_of name) (t ∷ later)
named_more later t names true named is name =
    list_any-append (λ (n : List ℕ). bytes_eq n name) names (t.client ∷ [])
    ∙ either_order (has name names) (bytes_eq t.client name)
    ∙ ap (λ (a : Bool). bytes_eq t.client name || a) (named name)
named_more later t names false named is name =
    there_already (has name names) (bytes_eq t.client name) (λ same. subst (λ (n : List ℕ). has n names ≡ true) (name_true t.client name same) (is_there (has t.client names) is))
    ∙ ap (λ (a : Bool). bytes_eq t.client name || a) (named name)
  where
    is_there : (a : Bool) → false ≡ not a → a ≡ true
    is_there true e = refl
    is_there false e = absurd cc

drops : (turns : List Turn) (i k : ℕ) (t d : Turn) → k ≡ i + 1 → i < length turns → t ≡ get_or turns i d → drop i turns ≡ t ∷ drop k turns
drops turns i k t d next within here =
    let after : suc i ≡ k = omega (arith, next) in
    drop-cons turns i d within ∙ ap (λ (x : Turn). x ∷ drop (suc i) turns) (sym here) ∙ ap (λ (n : ℕ). t ∷ drop n turns) after

pub found_more : (turns : List Turn) (i k : ℕ) (t d : Turn) (names : List (List ℕ)) (flags : List Bool) (b : Bool) → FoundFrom turns k names flags → k ≡ i + 1 → i < length turns → t ≡ get_or turns i d
    → b ≡ not (has t.client names) → FoundFrom turns i (with_name names t.client b) (flags ++ b ∷ [])
found_more turns i k t d names flags b so_far next within here is = record {
  within = omega (arith, within);
  named = λ name. named_more (drop k turns) t names b so_far.named is name ∙ ap (list_any (is_turn_of name)) (sym (drops turns i k t d next within here));
  found = reverse-append flags (b ∷ [])
      ∙ ap (λ (a : Bool). a ∷ reverse flags) (is ∙ ap not (so_far.named t.client))
      ∙ ap (λ (rest : List Bool). is_last t (drop k turns) ∷ rest) so_far.found
      ∙ ap last_flags (sym (drops turns i k t d next within here));
}

pub found_all : (turns : List Turn) (i : ℕ) (names : List (List ℕ)) (flags : List Bool) → FoundFrom turns i names flags → i ≡ 0 → reverse flags ≡ last_flags turns
found_all turns i names flags so_far none = so_far.found ∙ ap (λ (k : ℕ). last_flags (drop k turns)) none
