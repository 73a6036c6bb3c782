-- Answers of reading.
use Rattle.std.specs.Prelude.{Result, Ok, Err, ◌≡◌}
use Rattle.pickle_reading.specs.declared.error.PickleError.{PickleError}
use Rattle.pickle_reading.specs.declared.error.PickleError.TheVariants as pickles
use Rattle.zb_record.specs.declared.error.RecordError.{RecordError}
use Rattle.zb_record.specs.declared.error.RecordError.TheVariants as errors

-- the refusal of a pickle, where there is memory
abbrev pub refusal_of : PickleError → RecordError
refusal_of pickles.Memory = errors.Memory
refusal_of e = errors.Pickle e

-- memory is free to run out; every other refusal is the one of the definition
abbrev pub RefusesFor : {Y : Type 0} → RecordError → Result Y RecordError → Type 0
RefusesFor errors.Memory found = Unit {0}
RefusesFor (errors.Pickle e) found = found ≡ Err (errors.Pickle e)
RefusesFor (errors.Rest at) found = found ≡ Err (errors.Rest at)
RefusesFor errors.BadClass found = found ≡ Err errors.BadClass

-- the answer, as it is seen, is the one of the definition
abbrev pub AnswersFor : {X Y : Type 0} → (X → Y) → Result X RecordError → Result Y RecordError → Type 0
AnswersFor seen (Ok x) found = found ≡ Ok (seen x)
AnswersFor seen (Err e) found = RefusesFor e found
