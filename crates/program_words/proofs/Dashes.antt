-- Words that begin with a dash.
use Rattle.std.proofs.Common.{◌≡◌, ℕ, Bool, true, false, cond, List, [], ◌∷◌, Option, Some, None, length, map, arith, refl, sym, ap, ◌∙◌}
use Rattle.std.specs.Prelude.{◌&&◌, ◌||◌}
use Rattle.std.specs.List.{AllByRecursion, IsFirstAndRest, list_any}
use Rattle.std.specs.Option.{option_and_then}
use Rattle.program_words.specs.declared.command.Command.{Command}
use Rattle.program_words.specs.Words.{command_of, is_dashed, is_path, named_command, named_of}

any_map : {X : Type 0} (f : X → List ℕ) (xs : List X) → list_any is_dashed (map f xs) ≡ list_any (λ x. is_dashed (f x)) xs
any_map f [] = refl
any_map f (x ∷ xs) = ap (λ (b : Bool). is_dashed (f x) || b) (any_map f xs)

head_plain : (a b : Bool) → false ≡ (a || b) → (a ≡ false) × (false ≡ b)
head_plain true b e = absurd cc
head_plain false b e = (refl, e)

-- none of the words does
pub no_dash : {X : Type 0} (f : X → List ℕ) (xs : List X) → false ≡ list_any (λ x. is_dashed (f x)) xs → AllByRecursion (λ word. is_dashed word ≡ false) (map f xs)
no_dash f [] none = tt
no_dash f (x ∷ xs) none = let both = head_plain (is_dashed (f x)) (list_any (λ y. is_dashed (f y)) xs) none in (both.0, no_dash f xs both.1)

neither : (b : Bool) (o : Option Command) → cond (b && false) o None ≡ None
neither true o = refl
neither false o = refl

-- no path, a word with a dash, and neither of them
pub no_path : (path : List ℕ) (words : List (List ℕ)) → is_path path ≡ false → None ≡ command_of (path ∷ words)
no_path path words e = sym (rw e refl)

pub dashed : {X : Type 0} (f : X → List ℕ) (path : List ℕ) (xs : List X) → list_any (λ x. is_dashed (f x)) xs ≡ true → None ≡ command_of (path ∷ map f xs)
dashed f path xs e = sym (rw (any_map f xs, e) (neither (is_path path) (option_and_then (λ p. named_command p.0 p.1 p.2) (named_of (map f xs)))))

pub plain : {X : Type 0} (f : X → List ℕ) (path : List ℕ) (xs : List X) → is_path path ≡ true → list_any (λ x. is_dashed (f x)) xs ≡ false → option_and_then (λ p. named_command p.0 p.1 p.2) (named_of (map f xs)) ≡ command_of (path ∷ map f xs)
plain f path xs is none = sym (rw (is, any_map f xs, none) refl)

-- the same of words that are parted into the first and the others
pub no_words : {X : Type 0} (f : X → List ℕ) (words : List X) → length words ≡ 0 → None ≡ command_of (map f words)
no_words f [] none = refl
no_words f (x ∷ words) none = absurd (omega (arith, none))

pub no_path_first : {X : Type 0} (f : X → List ℕ) (words : List X) (path : X) (rest : List X) → IsFirstAndRest words path rest → is_path (f path) ≡ false → None ≡ command_of (map f words)
no_path_first {X = X} f words path rest parts e = no_path (f path) (map f rest) e ∙ sym (ap (λ (ws : List X). command_of (map f ws)) parts.0)

pub dashed_rest : {X : Type 0} (f : X → List ℕ) (words : List X) (path : X) (rest : List X) → IsFirstAndRest words path rest → list_any (λ x. is_dashed (f x)) rest ≡ true → None ≡ command_of (map f words)
dashed_rest {X = X} f words path rest parts e = dashed f (f path) rest e ∙ sym (ap (λ (ws : List X). command_of (map f ws)) parts.0)

pub named_rest : {X : Type 0} (f : X → List ℕ) (words : List X) (path : X) (rest : List X) (r : Option Command) → IsFirstAndRest words path rest → is_path (f path) ≡ true → list_any (λ x. is_dashed (f x)) rest ≡ false
    → r ≡ option_and_then (λ p. named_command p.0 p.1 p.2) (named_of (map f rest)) → r ≡ command_of (map f words)
named_rest {X = X} f words path rest r parts is none e = e ∙ plain f (f path) rest is none ∙ sym (ap (λ (ws : List X). command_of (map f ws)) parts.0)

pub name_some : (named : Option (List ℕ × Option (List ℕ) × Option (List ℕ))) (name : List ℕ) (text more : Option (List ℕ)) (r : Option Command) → Some (name, text, more) ≡ named → r ≡ named_command name text more
    → r ≡ option_and_then (λ p. named_command p.0 p.1 p.2) named
name_some named name text more r is e = e ∙ ap (option_and_then (λ (p : List ℕ × Option (List ℕ) × Option (List ℕ)). named_command p.0 p.1 p.2)) is
