use Rattle.std.proofs.Common.{◌≡◌, List, ◌++◌, sym, ap, subst, arith}
use Rattle.gen_script.specs.declared.line.GenLine.{GenLine}
use Rattle.gen_script.specs.Counting.{AreCounts}
use Rattle.gen_script.specs.Script.{gen_lines, rounds}
use Rattle.gen_script.proofs.Lefts.{AreFour, four_all}
use Rattle.gen_script.proofs.Texts.{AllSay, all_say}
use Rattle.gen_script.proofs.turns.GenTurns.new.Goals as goal

pub returns-clause-ready : goal.returns-clause-ready
returns-clause-ready c =
    let same : c.in_ok-block.block ++ rounds c.args.rounds 1 c.args.rounds ≡ gen_lines c.args.rounds = ap (λ (xs : List GenLine). xs ++ rounds c.args.rounds 1 c.args.rounds) c.in_ok-block.ensures in
    record {
      counts = subst (AreCounts c.counts_of.result) (sym same) c.counts_of.ensures;
      within = omega arith;
      clients = subst AreFour (sym same) (four_all c.args.rounds);
      texts = subst AllSay (sym same) (all_say c.args.rounds c.requires);
      number = omega (arith, c.requires);
      room = omega (arith, c.requires);
    }
