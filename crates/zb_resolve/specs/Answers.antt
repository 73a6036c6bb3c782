-- Answers of merging.
use Rattle.std.specs.Prelude.{◌≡◌, Result, Ok, Err}
use Rattle.zb_model.specs.declared.refusal.Why.{Why}
use Rattle.zb_model.specs.declared.rules.ResolveError.{ResolveError}
use Rattle.zb_model.specs.declared.rules.ResolveError.TheVariants as errors

-- goes on with what was found
infixl 10 ◌>>=◌
abbrev pub ◌>>=◌ : {A B : Type 0} → Result A Why → (A → Result B Why) → Result B Why
(Ok x) >>= f = f x
(Err e) >>= f = Err e

-- the answer is what is found, or why nothing is; memory is free to run out
abbrev pub AnswersFor : {A : Type 0} → Result A ResolveError → Result A Why → Type 0
AnswersFor (Ok x) found = found ≡ Ok x
AnswersFor (Err (errors.Refused why)) found = found ≡ Err why
AnswersFor (Err errors.Memory) found = Unit {0}

-- the reason is the one that is found; memory is free to run out
abbrev pub RefusedFor : ResolveError → Why → Type 0
RefusedFor (errors.Refused why) found = found ≡ why
RefusedFor errors.Memory found = Unit {0}
