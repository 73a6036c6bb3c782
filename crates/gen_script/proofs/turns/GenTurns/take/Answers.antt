use Rattle.std.proofs.Common.{ℕ, List, sym, ap, subst, ◌∙◌, arith}
use Rattle.std.specs.Prelude.{◌==◌}
use Rattle.zb_script.specs.Spelling.{IsLineText}
use Rattle.gen_script.specs.Counting.{AreCounts}
use Rattle.gen_script.specs.Left.{SaysLine}
use Rattle.gen_script.proofs.Lefts.{behind_line, is_first}
use Rattle.gen_script.proofs.turns.GenTurns.take.Goals as goal

pub count_down-is_last-requires-clause-client : goal.count_down-is_last-requires-clause-client
count_down-is_last-requires-clause-client c = let first = is_first c.args.self.now c.as_slice.result.now c.line_at-first.result.now c.requires.ready c.as_slice.ensures c.line_at-first.ensures in first.small

pub count_down-is_last-requires-clause-some : goal.count_down-is_last-requires-clause-some
count_down-is_last-requires-clause-some c = let first = is_first c.args.self.now c.as_slice.result.now c.line_at-first.result.now c.requires.ready c.as_slice.ensures c.line_at-first.ensures in first.some

pub name_of-requires : goal.name_of-requires
name_of-requires c = let first = is_first c.args.self.now c.as_slice.result.now c.line_at-first.result.now c.requires.ready c.as_slice.ensures c.line_at-first.ensures in first.small

pub line_of-requires : goal.line_of-requires
line_of-requires c = let first = is_first c.args.self.now c.as_slice.result.now c.line_at-first.result.now c.requires.ready c.as_slice.ensures c.line_at-first.ensures in subst SaysLine (sym c.as_slice-2.ensures.value) first.says

pub returns-clause-taken : goal.returns-clause-taken
returns-clause-taken c =
    let first = is_first c.args.self.now c.as_slice.result.now c.line_at-first.result.now c.requires.ready c.as_slice.ensures c.line_at-first.ensures in (
      c.line_at-first.result.now,
      first.lines,
      record { client = c.name_of.ensures; says = subst (λ (text : List ℕ). IsLineText text c.in_ok-line.line) c.as_slice-2.ensures.value c.in_ok-line.ensures.found },
      c.count_down-is_last.ensures.none ∙ ap (λ (n : ℕ). n == 0) first.left,
    )

pub returns-clause-ready : goal.returns-clause-ready
returns-clause-ready c =
    let first = is_first c.args.self.now c.as_slice.result.now c.line_at-first.result.now c.requires.ready c.as_slice.ensures c.line_at-first.ensures in
    record {
      counts = subst (λ (counts : List ℕ). AreCounts counts (behind_line c.args.self.now)) (sym c.count_down-is_last.ensures.left) first.counts;
      within = omega (arith, c.requires.some);
      clients = first.four;
      texts = first.texts;
      number = c.requires.ready.number;
      room = c.requires.ready.room;
    }
