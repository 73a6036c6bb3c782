use Rattle.std.proofs.Common.{ap, subst, ◌∙◌, arith}
use Rattle.std.proofs.lemmas.Grind.{common_steps}
use Rattle.fs_records.specs.Numbers.{number}
use Rattle.fs_records.specs.Headers.{data_header_text, data_header_of}
use Rattle.fs_records.specs.declared.header.DataHeader.{DataHeader}
use Rattle.fs_records.specs.HeaderLaws.{IsDataHeader, data_header_same}
use Rattle.fs_records.proofs.header.write_data_header.Goals as goal

pub returns-clause-text : goal.returns-clause-text
unfolding data_header_text number
returns-clause-text c = grind (arith, common_steps)

pub returns-clause-value : goal.returns-clause-value
returns-clause-value c = ap data_header_of (returns-clause-text c) ∙ data_header_same c.args.header.now (subst (λ (h : DataHeader). IsDataHeader h) c.header.view_is c.is_data_header.ensures)
