-- Answers of merging.
use Rattle.std.specs.Prelude.{Result, Ok, Err, ◌≡◌}
use Rattle.bucket_merge.specs.declared.refusal.MergeRefusal.{MergeRefusal}
use Rattle.bucket_merge.specs.declared.refusal.MergeRefusal.TheVariants.{Link, EmptySide, Key as BothChanged, FirstKey, Memory}

-- memory is free to run out; every other refusal is the one of the definition
abbrev pub RefusesFor : {X : Type 0} → MergeRefusal → Result X MergeRefusal → Type 0
RefusesFor Memory found = Unit {0}
RefusesFor Link found = found ≡ Err Link
RefusesFor EmptySide found = found ≡ Err EmptySide
RefusesFor (BothChanged key) found = found ≡ Err (BothChanged key)
RefusesFor FirstKey found = found ≡ Err FirstKey

-- the answer is the one of the definition
abbrev pub AnswersFor : {X : Type 0} → Result X MergeRefusal → Result X MergeRefusal → Type 0
AnswersFor (Ok x) found = found ≡ Ok x
AnswersFor (Err e) found = RefusesFor e found
