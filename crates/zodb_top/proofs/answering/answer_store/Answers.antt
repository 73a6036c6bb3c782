use Rattle.std.proofs.Common.{refl, rules, ◌∙◌}
use Rattle.zodb_top.proofs.Commands.{over_answer, store_same}
use Rattle.zodb_top.proofs.answering.answer_store.Goals as goal

pub returns-in_default-clause-leaves : goal.returns-in_default-clause-leaves
returns-in_default-clause-leaves g c = record {
  keeps = λ told. store_same (g.St.Store.state c.args.store) (g.C.Clock.stamps c.args.clock.now) c.requires.whole;
  images = λ lasts whole. g.met.St.Store.lasting c.args.store lasts whole;
  others = refl;
  later = search rules;
}

pub returns-clause-says : goal.returns-clause-says
returns-clause-says g c =
    over_answer _ c.args.asked g.St.Store.told c.args.cut _ _ _ _ _ _ (g.St.Store.state c.args.store) _ c.write_answer.ensures.says (c.as_slice.ensures ∙ c.in-Ok.ensures) c.store_lines-answer.ensures.lines c.store_lines-answer.ensures.failed
    c.store_lines-answer.ensures.calm
