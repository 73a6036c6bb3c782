use Rattle.std.proofs.Common.{◌∙◌, ap}
use Rattle.client_turns.specs.OverQuestions.{question_answer}
use Rattle.client_turns.proofs.questions_over.question_over.Goals as goal

pub returns-clause-asked : goal.returns-clause-asked
returns-clause-asked g c = record { result = c.request.result; answer = c.question_answer.ensures ∙ ap question_answer c.question_heard.ensures; leaves = c.request.ensures.exact }
