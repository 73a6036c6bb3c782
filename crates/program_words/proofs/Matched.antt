-- What clap's matches name.
use Rattle.std.proofs.Common.{◌≡◌, List, [], Option, Some, None, inl, inr, true, false, refl, sym, ap, ap₂, subst, ◌∙◌, codes}
use Rattle.std.specs.Prelude.{option_map}
use Rattle.std.proofs.lemmas.Option.{same_Some}
use Rattle.clap.specs.Words.{App, Row, Text, first_value, rows_of, subcommand_of, subcommand_rows_of, fault_of, is_simple, is_simple_and_free, HasKind, kind_of}
use Rattle.clap.specs.Matches.{subcommand_name_of}
use Rattle.clap.specs.declared.error.Error.{Error}
use Rattle.clap.specs.declared.parser.matches.ArgMatches.{ArgMatches}
use Rattle.clap.specs.declared.parser.matches.Found.{Found}
use Rattle.clap.proofs.WalkLemmas.{first_value-rows}
use Rattle.clap.proofs.OnLiterals.{clap_on_literals}
use Rattle.program_words.specs.Table.{is_starved, named_in, program_app}
use Rattle.program_words.specs.Words.{named_of}
use Rattle.program_words.proofs.Walks.{Reads, taken, refused}

is_first : {A B : Type 0} (o : Option (A × B)) (a : A) (b : B) → option_map (λ p. p.0) o ≡ Some a → option_map (λ p. p.1) o ≡ Some b → o ≡ Some (a, b)
is_first None a b e f = absurd cc
is_first {A = A} {B = B} (Some p) a b e f = ap₂ (λ (x : A) (y : B). Some (x, y)) (same_Some p.0 a e) (same_Some p.1 b f)

no_first : {A B : Type 0} (o : Option (A × B)) → option_map (λ p. p.0) o ≡ None → o ≡ None
no_first None e = refl
no_first (Some p) e = absurd cc

-- the name stands with the rows
names_rows : {X : Type 0} (o : Option X) (f : X → Text) (g : X → List Row) → option_map f o ≡ option_map (λ (p : Text × List Row). p.0) (option_map (λ (x : X). (f x, g x)) o)
names_rows None f g = refl
names_rows (Some x) f g = refl

name_of_rows : (m : ArgMatches) → subcommand_name_of m ≡ option_map (λ (p : Text × List Row). p.0) (subcommand_rows_of m)
name_of_rows m = names_rows _ _ _

pub entered_some : (m : ArgMatches) (name : Text) (inner : Found) (value more : Option Text) → Some name ≡ subcommand_name_of m → Some (rows_of inner) ≡ option_map (λ (p : Text × List Row). p.1) (subcommand_rows_of m)
    → value ≡ first_value inner (codes "position") → more ≡ first_value inner (codes "more") → Some (name, value, more) ≡ named_in (subcommand_rows_of m)
entered_some m name inner value more named rows is second =
    let all : subcommand_rows_of m ≡ Some (name, rows_of inner) = is_first (subcommand_rows_of m) name (rows_of inner) (sym (name_of_rows m) ∙ sym named) (sym rows) in
    ap₂ (λ (v w : Option Text). Some (name, v, w)) (is ∙ first_value-rows inner (codes "position")) (second ∙ first_value-rows inner (codes "more")) ∙ sym (ap named_in all)

pub entered_none : (m : ArgMatches) → None ≡ subcommand_name_of m → None ≡ named_in (subcommand_rows_of m)
entered_none m none = sym (ap named_in (no_first (subcommand_rows_of m) (sym (name_of_rows m) ∙ sym none)))

simple : is_simple program_app ≡ true
unfolding clap_on_literals
simple = refl

free : is_simple_and_free program_app ≡ true
unfolding clap_on_literals
free = refl

pub ok_named : (app : App) (words : List Text) (entered : Option (Text × List Row)) → app ≡ program_app → Reads words → (is_simple_and_free app ≡ true → fault_of app words ≡ [])
    → (is_simple app ≡ true → entered ≡ subcommand_of app words) → named_in entered ≡ named_of words
ok_named app words entered is (taken name argument more takes named) faultless enters =
    ap named_in (enters (ap is_simple is ∙ simple) ∙ ap (λ (a : App). subcommand_of a words) is) ∙ takes.entered ∙ sym named
ok_named app words entered is (refused refuses named) faultless enters =
    let none : fault_of program_app words ≡ [] = sym (ap (λ (a : App). fault_of a words) is) ∙ faultless (ap is_simple_and_free is ∙ free) in
    let never = sym refuses.fault ∙ none in absurd cc

pub err_named : (app : App) (words : List Text) (e : Error) → app ≡ program_app → Reads words → (is_simple_and_free app ≡ true → HasKind (fault_of app words) e) → is_starved (kind_of e) ≡ false → named_of words ≡ None
err_named app words e is (refused refuses named) fails other = named
err_named app words e is (taken name argument more takes named) fails other =
    absurd (elim (subst (λ (k : _). HasKind k e) (ap (λ (a : App). fault_of a words) is ∙ takes.fault) (fails (ap is_simple_and_free is ∙ free))) [ inl memory ↦ never_both (sym (ap is_starved memory) ∙ other) | inr never ↦ never ])
  where
    never_both : true ≡ false → ⊥
    never_both e = absurd cc
