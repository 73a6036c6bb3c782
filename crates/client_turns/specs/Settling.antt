-- What a line over a link is answered, by what went wrong in its steps. Own.
use Rattle.std.specs.Prelude.{Result, Ok, Err}
use Rattle.zb_model.specs.declared.refusal.Refusal.{Refusal}
use Rattle.zb_model.specs.declared.refusal.Refusal.TheVariants as refusal
use Rattle.zb_answers.specs.declared.answer.Answer.{Answer}
use Rattle.zb_answers.specs.declared.answer.Answer.TheVariants as answer
use Rattle.hub_carrier.specs.declared.trouble.Trouble.{Trouble}
use Rattle.hub_carrier.specs.declared.trouble.Trouble.TheVariants as trouble

-- a refusal of a line in whose steps nothing went wrong
abbrev pub calm : Refusal → Refusal
calm refusal.LinkFault = refusal.Memory
calm refusal.Closed = refusal.Memory
calm refusal.StoreFault = refusal.BadMessage
calm refusal.ReadFault = refusal.BadMessage
calm r = r

abbrev pub calm_answer : Answer → Answer
calm_answer (answer.Refused why) = answer.Refused (calm why)
calm_answer a = a

-- what went wrong, or else what the call said
abbrev pub settled : Answer → Trouble → Answer
settled a trouble.StoreFault = answer.Refused refusal.StoreFault
settled a trouble.ReadFault = answer.Refused refusal.ReadFault
settled a trouble.NoFault = calm_answer a

-- and so what a part of a line gives
abbrev pub calm_result : {T : Type 0} → Result T Refusal → Result T Refusal
calm_result (Ok x) = Ok x
calm_result (Err why) = Err (calm why)

abbrev pub settled_result : {T : Type 0} → Result T Refusal → Trouble → Result T Refusal
settled_result r trouble.StoreFault = Err refusal.StoreFault
settled_result r trouble.ReadFault = Err refusal.ReadFault
settled_result r trouble.NoFault = calm_result r
