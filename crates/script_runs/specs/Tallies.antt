-- Replies that are counted one by one.
use Rattle.std.specs.Prelude.{◌+◌, if◌then◌else◌}
use Rattle.zb_answers.specs.declared.answer.Answer.{Answer}
use Rattle.zb_answers.specs.declared.answer.Answer.TheVariants as answer
use Rattle.script_runs.specs.declared.tally.Tally.{Tally}
use Rattle.script_runs.specs.Summary.{is_conflict}

abbrev pub no_replies : Tally
no_replies = record { committed = 0; conflicts = 0; refused = 0 }

abbrev pub tally_more : Tally → Answer → Tally
tally_more t (answer.Committed tid) = record { committed = t.committed + 1; conflicts = t.conflicts; refused = t.refused }
tally_more t (answer.Refused why) = record { committed = t.committed; conflicts = if is_conflict why then t.conflicts + 1 else t.conflicts; refused = t.refused + 1 }
tally_more t _ = t
