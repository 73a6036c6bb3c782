use Rattle.std.proofs.Common.{◌∙◌, sym, subst}
use Rattle.std.proofs.lemmas.Int.{to_z-of_z}
use mir.Syntax.{w128}
use mir.Val.{SFits}
use Rattle.literal_reading.proofs.NumberLaws.{none_utf8, none_parsed, none_other, some_parsed}
use Rattle.literal_reading.proofs.numbers.number_of.Goals as goal

pub returns-in_default : goal.returns-in_default
returns-in_default c = none_utf8 c.args.word.now c.in_default.ensures.cases.0

pub returns-in_default-from_str_radix : goal.returns-in_default-from_str_radix
returns-in_default-from_str_radix c = none_parsed c.args.word.now c.in-Ok.text.now c.in-Ok.ensures.cases.0 c.in_default-from_str_radix.ensures.value

pub returns-then-not-is_literal_of : goal.returns-then-not-is_literal_of
returns-then-not-is_literal_of c =
    let value = c.in-Ok-from_str_radix.ensures.value in
    let same = to_z-of_z w128 c.in-Ok-from_str_radix.number (subst (SFits w128) (sym value.1) value.0.1) in
    none_other c.args.word.now c.in-Ok.text.now _ c.in-Ok.ensures.cases.0 (same ∙ value.1) (sym c.is_literal_of.ensures ∙ c.if-not-is_literal_of.true)

pub returns : goal.returns
returns c =
    let value = c.in-Ok-from_str_radix.ensures.value in
    let same = to_z-of_z w128 c.in-Ok-from_str_radix.number (subst (SFits w128) (sym value.1) value.0.1) in
    some_parsed c.args.word.now c.in-Ok.text.now _ c.in-Ok.ensures.cases.0 (same ∙ value.1) value.0.1 (sym c.is_literal_of.ensures ∙ c.if-not-is_literal_of.false)
