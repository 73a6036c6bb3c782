use Rattle.std.proofs.Common.{◌≡◌, ◌++◌}
use Rattle.zeo_messages.specs.Answers.{revision_text}
use Rattle.zeo_values.specs.Values.{list_of}
use Rattle.zeo_values.specs.WrittenLaws.{list_rest}
use Rattle.zeo_messages.proofs.answer_text.put_revisions.Given as goal

abbrev pub invariant-loop-revision : goal.invariant-loop-revision
invariant-loop-revision l = l.text.items ++ list_rest revision_text l.revision-index l.revisions ≡ l.fn.text.items ++ list_of revision_text l.revisions
