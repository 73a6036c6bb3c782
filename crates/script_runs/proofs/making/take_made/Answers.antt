use Rattle.std.proofs.Common.{◌≡◌, List, arith, refl, sym, subst, ◌∙◌}
use Rattle.std.specs.List.{AllByRecursion}
use Rattle.zb_volume.specs.declared.areas.Area.TheVariants.{Side}
use Rattle.zb_model.specs.StayLaws.{stays_same, stays_then}
use Rattle.gen_script.specs.declared.line.GenLine.{GenLine}
use Rattle.gen_script.specs.Left.{lines_left}
use Rattle.gen_script.specs.Script.{gen_lines}
use Rattle.script_runs.specs.declared.tally.Tally.{Tally}
use Rattle.script_runs.specs.Made.{MadeSoFar}
use Rattle.script_runs.specs.Tallies.{no_replies}
use Rattle.script_runs.proofs.MadeSides.{PacksNot, lines_so, quiet_rest, quiet_turn}
use Rattle.script_runs.proofs.MadeTurns.{MayCount, answered, broken_off, gives_none, gives_some, made_start, may_more, may_start, until_starved}
use Rattle.script_runs.proofs.Nexts.{answered_others}
use Rattle.script_runs.proofs.making.take_made.Goals as goal

pub returns-in_default-clause-err : goal.returns-in_default-clause-err
returns-in_default-clause-err g c = λ told m stands whole.
    let St = g.St.Store in
    let lines = gen_lines c.args.rounds in
    let left = g.C.Clock.stamps c.args.clock.now in
    let clients = c.args.clients.now in
    until_starved St.lasts St.stands m lines lines no_replies clients.hub.store.log clients left (made_start St.lasts St.stands m lines clients left stands whole c.requires.lasting)

pub returns-in_default-clause-side : goal.returns-in_default-clause-side
returns-in_default-clause-side g c = λ lasts few. stays_same Side c.args.clients.now.hub.store.log c.args.clients.now.hub.store.log refl

pub taking-init : goal.taking-init
taking-init g c =
    let St = g.St.Store in
    let lines = gen_lines c.args.rounds in
    let left = g.C.Clock.stamps c.args.clock.now in
    let clients = c.args.clients.now in
    let start : lines_left c.in-Ok.turns ≡ lines = c.in-Ok.ensures.lines in
    record {
      came = λ told m stands whole.
          subst (λ (ls : List GenLine). MadeSoFar St.lasts St.stands m lines ls c.no_replies-tally.result clients.hub.store.log clients left) (sym start)
          (subst (λ (t : Tally). MadeSoFar St.lasts St.stands m lines lines t clients.hub.store.log clients left) (sym c.no_replies-tally.ensures) (made_start St.lasts St.stands m lines clients left stands whole c.requires.lasting));
      ready = c.in-Ok.ensures.ready;
      may = may_start c.no_replies-tally.result (lines_left c.in-Ok.turns) c.args.rounds c.no_replies-tally.ensures start c.requires.rounds;
      whole = λ sound. sound;
      quiet = λ few. subst (λ (ls : List GenLine). AllByRecursion PacksNot ls) (sym start) (lines_so c.args.rounds few);
      side = λ lasts few. stays_same Side clients.hub.store.log clients.hub.store.log refl;
      read_counted = omega arith;
      counted = omega arith;
      others = refl;
    }

pub returns-in-Ok-None-clause-ok : goal.returns-in-Ok-None-clause-ok
returns-in-Ok-None-clause-ok g c = λ told m stands whole.
    let St = g.St.Store in
    subst (λ (ls : List GenLine). MadeSoFar St.lasts St.stands m (gen_lines c.args.rounds) ls c.taking.tally c.args.clients.now.hub.store.log c.taking.clients (g.C.Clock.stamps c.taking.clock))
    (gives_none (lines_left c.taking.turns) (lines_left c.next.new.self) c.in-Ok-None.field-0 c.in-Ok-None.field-0-is c.in-Ok-None.ensures.given) (c.taking.invariant.came told m stands whole)

pub returns-in-Ok-None-clause-whole : goal.returns-in-Ok-None-clause-whole
returns-in-Ok-None-clause-whole g c = c.taking.invariant.whole

pub returns-in-Ok-None-clause-side : goal.returns-in-Ok-None-clause-side
returns-in-Ok-None-clause-side g c = c.taking.invariant.side

pub returns-in-Err-clause-err : goal.returns-in-Err-clause-err
returns-in-Err-clause-err g c = λ told m stands whole.
    let St = g.St.Store in
    until_starved St.lasts St.stands m (gen_lines c.args.rounds) (lines_left c.taking.turns) c.taking.tally c.args.clients.now.hub.store.log c.taking.clients (g.C.Clock.stamps c.taking.clock) (c.taking.invariant.came told m stands whole)

pub returns-in-Err-clause-side : goal.returns-in-Err-clause-side
returns-in-Err-clause-side g c = c.taking.invariant.side

pub taking-preserved : goal.taking-preserved
taking-preserved g c =
    let St = g.St.Store in
    let C = g.C.Clock in
    let lines = gen_lines c.args.rounds in
    let old = lines_left c.taking.turns in
    let new = lines_left c.next.new.self in
    let log = c.args.clients.now.hub.store.log in
    let gives = gives_some old new c.in-Ok-Some.field-0 c.in-Ok-Some.turn c.in-Ok-Some.field-0-is c.in-Ok-Some.ensures.given in
    let inv = c.taking.invariant in
    let turn = c.take_turn-answer in
    record {
      came = λ told m stands whole.
          let came = inv.came told m stands whole in
          subst (λ (t : Tally). MadeSoFar St.lasts St.stands m lines new t log turn.new.self (C.stamps turn.new.clock)) (sym c.tally_more-tally.ensures)
          (answered St.lasts St.stands m lines old new c.in-Ok-Some.turn gives c.taking.tally log c.taking.clients turn.new.self (C.stamps c.taking.clock) (C.stamps turn.new.clock) came
          (λ lasts. turn.ensures.any_moment lasts told (sym came.stands_for.hub.failed ∙ came.whole) came.now came.stands_for) c.in-Ok-answer.answer (c.in-Ok-answer.ensures.turn told came.now came.stands_for));
      ready = c.in-Ok-Some.ensures.ready;
      may = subst (λ (t : Tally). MayCount t new) (sym c.tally_more-tally.ensures) (may_more c.taking.tally c.in-Ok-answer.answer old new c.in-Ok-Some.turn gives inv.may);
      whole = λ sound. c.in-Ok-answer.ensures.whole (inv.whole sound);
      quiet = λ few. quiet_rest old new c.in-Ok-Some.turn gives (inv.quiet few);
      side = λ lasts few. stays_then Side log c.taking.clients.hub.store.log turn.new.self.hub.store.log (inv.side lasts few) (turn.ensures.side lasts (quiet_turn old new c.in-Ok-Some.turn gives (inv.quiet few)));
      read_counted = omega (arith, inv.read_counted, turn.ensures.later.reads);
      counted = omega (arith, inv.counted, turn.ensures.later.others);
      others = answered_others c.taking.clients.hub.store turn.new.self.hub.store turn.result c.in-Ok-answer.answer c.in-Ok-answer.is turn.ensures.goes_on turn.ensures.counts ∙ inv.others;
    }

pub returns-in-Err-answer-clause-err : goal.returns-in-Err-answer-clause-err
returns-in-Err-answer-clause-err g c = λ told m stands whole.
    let St = g.St.Store in
    let C = g.C.Clock in
    let old = lines_left c.taking.turns in
    let new = lines_left c.next.new.self in
    let gives = gives_some old new c.in-Ok-Some.field-0 c.in-Ok-Some.turn c.in-Ok-Some.field-0-is c.in-Ok-Some.ensures.given in
    let turn = c.take_turn-answer in
    let came = c.taking.invariant.came told m stands whole in
    broken_off St.lasts St.stands m (gen_lines c.args.rounds) old new c.in-Ok-Some.turn gives c.taking.tally c.args.clients.now.hub.store.log c.taking.clients turn.new.self (C.stamps c.taking.clock) (C.stamps turn.new.clock) came
    (λ lasts. turn.ensures.any_moment lasts told (sym came.stands_for.hub.failed ∙ came.whole) came.now came.stands_for) c.in-Err-answer.why (c.in-Err-answer.ensures.turn told came.now came.stands_for)

pub returns-in-Err-answer-clause-side : goal.returns-in-Err-answer-clause-side
returns-in-Err-answer-clause-side g c = λ lasts few.
    let old = lines_left c.taking.turns in
    let new = lines_left c.next.new.self in
    let gives = gives_some old new c.in-Ok-Some.field-0 c.in-Ok-Some.turn c.in-Ok-Some.field-0-is c.in-Ok-Some.ensures.given in
    stays_then Side c.args.clients.now.hub.store.log c.taking.clients.hub.store.log c.take_turn-answer.new.self.hub.store.log (c.taking.invariant.side lasts few)
    (c.take_turn-answer.ensures.side lasts (quiet_turn old new c.in-Ok-Some.turn gives (c.taking.invariant.quiet few)))
