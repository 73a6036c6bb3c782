use Rattle.std.proofs.Common.{◌≡◌, ◌+◌, ◌-◌, ◌++◌, sym, subst, arith}
use Rattle.gen_script.specs.Counting.{AreCounts}
use Rattle.gen_script.specs.Left.{lines_left}
use Rattle.gen_script.specs.Script.{rounds}
use Rattle.gen_script.proofs.Lefts.{AreFour, filled}
use Rattle.gen_script.proofs.Texts.{AllSay}
use Rattle.gen_script.proofs.turns.GenTurns.fill.Goals as goal

pub returns-clause-lines : goal.returns-clause-lines
returns-clause-lines c = filled c.args.self.now c.in_ok-block.block c.in_ok-block.x c.requires.over c.requires.more c.in_ok-block.ensures.lines c.in_ok-block.ensures.number

pub returns-clause-ready : goal.returns-clause-ready
returns-clause-ready c =
    let same : c.in_ok-block.block ++ rounds (c.args.self.now.rounds_left - 1) (c.args.self.now.round + 1) c.in_ok-block.x ≡ lines_left c.args.self.now =
    filled c.args.self.now c.in_ok-block.block c.in_ok-block.x c.requires.over c.requires.more c.in_ok-block.ensures.lines c.in_ok-block.ensures.number in
    record {
      counts = subst (AreCounts c.args.self.now.counts) (sym same) c.requires.ready.counts;
      within = omega arith;
      clients = subst AreFour (sym same) c.requires.ready.clients;
      texts = subst AllSay (sym same) c.requires.ready.texts;
      number = c.in_ok-block.ensures.small;
      room = omega (arith, c.requires.ready.room, c.requires.more);
    }
