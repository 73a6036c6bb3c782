use Rattle.std.proofs.Common.{ap, subst, ◌∙◌, arith}
use Rattle.std.proofs.lemmas.Grind.{common_steps}
use Rattle.fs_records.specs.Numbers.{number}
use Rattle.fs_records.specs.Headers.{header_text, header_of}
use Rattle.fs_records.specs.declared.header.Header.{Header}
use Rattle.fs_records.specs.HeaderLaws.{IsHeader, header_same}
use Rattle.fs_records.proofs.header.write_header.Goals as goal

pub returns-clause-text : goal.returns-clause-text
unfolding header_text number
returns-clause-text c = grind (arith, common_steps)

pub returns-clause-value : goal.returns-clause-value
returns-clause-value c = ap header_of (returns-clause-text c) ∙ header_same c.args.header.now (subst (λ (h : Header). IsHeader h) c.header.view_is c.is_header.ensures)
