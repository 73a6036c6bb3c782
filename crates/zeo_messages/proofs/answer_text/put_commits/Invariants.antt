use Rattle.std.proofs.Common.{◌≡◌, ◌++◌}
use Rattle.zeo_messages.specs.Answers.{commit_text}
use Rattle.zeo_values.specs.Values.{list_of}
use Rattle.zeo_values.specs.WrittenLaws.{list_rest}
use Rattle.zeo_messages.proofs.answer_text.put_commits.Given as goal

abbrev pub invariant-loop-commit : goal.invariant-loop-commit
invariant-loop-commit l = l.text.items ++ list_rest commit_text l.commit-index l.commits ≡ l.fn.text.items ++ list_of commit_text l.commits
