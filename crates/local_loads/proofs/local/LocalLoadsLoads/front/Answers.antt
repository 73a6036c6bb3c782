use Rattle.std.proofs.Common.{Option, ap, ◌∙◌}
use Rattle.local_loads.specs.declared.told.Told.{Told}
use Rattle.local_loads.specs.Answers.{front_answer, told_after}
use Rattle.local_loads.proofs.Calls.{front_keeps, front_leaves, front_refused, front_says}
use Rattle.local_loads.proofs.local.LocalLoadsLoads.front.Goals as goal

pub returns-clause-front : goal.returns-clause-front
returns-clause-front g c =
    let r = c.step-reply.result in
    let t = c.args.self.now.told in
    front_says _ _ _ _ _ _ _ _ _ _ r t c.front_answer.result c.step-reply.ensures.made (c.front_answer.ensures.answer ∙ ap (λ (x : Option Told). front_answer x r) c.step-reply.ensures.told)

pub returns-clause-renewed : goal.returns-clause-renewed
returns-clause-renewed g c =
    let r = c.step-reply.result in
    let t = c.args.self.now.told in
    front_leaves _ _ _ _ _ _ _ _ _ _ r t c.front_answer.new.told c.front_answer.result c.step-reply.ensures.made (c.front_answer.ensures.answer ∙ ap (λ (x : Option Told). front_answer x r) c.step-reply.ensures.told)
    (c.front_answer.ensures.told ∙ ap (λ (x : Option Told). told_after x r) c.step-reply.ensures.told) c.front_answer.ensures.counted

pub returns-clause-same : goal.returns-clause-same
returns-clause-same g c =
    let r = c.step-reply.result in
    let t = c.args.self.now.told in
    front_keeps _ _ _ _ _ _ _ _ _ _ r t c.front_answer.new.told c.front_answer.result c.step-reply.ensures.made (c.front_answer.ensures.answer ∙ ap (λ (x : Option Told). front_answer x r) c.step-reply.ensures.told)
    (c.front_answer.ensures.told ∙ ap (λ (x : Option Told). told_after x r) c.step-reply.ensures.told)

pub returns-clause-refusal : goal.returns-clause-refusal
returns-clause-refusal g c = front_refused _ c.step-reply.result c.front_answer.result c.front_answer.ensures.answer

pub returns-clause-makes : goal.returns-clause-makes
returns-clause-makes g c =
    let r = c.step-reply.result in
    record {
      reply = r;
      step = c.step-reply.ensures.made;
      answer = c.front_answer.ensures.answer ∙ ap (λ (x : Option Told). front_answer x r) c.step-reply.ensures.told;
      last = c.front_answer.ensures.told ∙ ap (λ (x : Option Told). told_after x r) c.step-reply.ensures.told;
    }
