use Rattle.std.proofs.Common.{◌≡◌, Bool, List, Some, arith, ap, length, refl, sym, subst, ◌∙◌}
use Rattle.std.specs.Prelude.{slice_get}
use Rattle.zb_volume.specs.declared.areas.Area.TheVariants.{Side}
use Rattle.zb_model.specs.StayLaws.{stays_same, stays_then}
use Rattle.script_runs.proofs.Sides.{no_pack_at}
use Rattle.script_runs.proofs.Replies.{all_taken, flags_length, start_run, turn_last, turn_more}
use Rattle.script_runs.proofs.replying.take_turns.Goals as goal

pub loop-at-init : goal.loop-at-init
loop-at-init g c = record {
  runs = λ told m stands whole. start_run g.St.Store.lasts g.St.Store.stands m c.args.turns.now (g.K.Sink.taken c.args.sink.now) c.args.clients.now (g.C.Clock.stamps c.args.clock.now) stands whole c.requires.lasting;
  sink_counted = omega arith;
  read_counted = omega arith;
  counted = omega arith;
  others = refl;
  side = λ lasts none. stays_same Side c.args.clients.now.hub.store.log c.args.clients.now.hub.store.log refl;
}

pub flag_at-is_last-requires : goal.flag_at-is_last-requires
flag_at-is_last-requires g c = omega (arith, ap (length {A = Bool}) c.requires.flags, flags_length c.args.turns.now, c.loop-at-test.true)

pub loop-at-preserved : goal.loop-at-preserved
loop-at-preserved g c = record {
  runs = λ told m stands whole.
      let runs = c.loop-at.invariant.runs told m stands whole in
      turn_more g.St.Store.lasts g.St.Store.stands m c.args.turns.now c.loop-at.at c.index-turns-at.result c.flag_at-is_last.result (g.K.Sink.taken c.args.sink.now) (g.K.Sink.taken c.loop-at.sink) (g.K.Sink.taken c.reply.new.sink)
      c.args.clients.now.hub.store.log c.loop-at.clients c.reply.new.clients (g.C.Clock.stamps c.loop-at.clock) (g.C.Clock.stamps c.reply.new.clock) c.loop-at-test.true c.index-turns-at.is
      (subst (λ (fs : List Bool). slice_get fs c.loop-at.at ≡ Some c.flag_at-is_last.result) c.requires.flags c.flag_at-is_last.ensures) runs
      (λ lasts. c.reply.ensures.moments lasts told (sym runs.stands_for.hub.failed ∙ runs.whole) runs.now runs.stands_for) (c.in-Ok.ensures.ok told runs.now runs.stands_for);
  sink_counted = omega (arith, c.loop-at.invariant.sink_counted, c.reply.ensures.sink_counted);
  read_counted = omega (arith, c.loop-at.invariant.read_counted, c.reply.ensures.read_counted);
  counted = omega (arith, c.loop-at.invariant.counted, c.reply.ensures.counted);
  others = c.in-Ok.ensures.others (λ never. absurd cc) ∙ c.loop-at.invariant.others;
  side = λ lasts none. stays_then Side c.args.clients.now.hub.store.log c.loop-at.clients.hub.store.log c.reply.new.clients.hub.store.log (c.loop-at.invariant.side lasts none)
      (c.reply.ensures.side lasts (no_pack_at c.args.turns.now c.loop-at.at c.index-turns-at.result none c.loop-at-test.true c.index-turns-at.is));
}

pub returns-in-Err-clause-err : goal.returns-in-Err-clause-err
returns-in-Err-clause-err g c = λ told m stands whole.
    let runs = c.loop-at.invariant.runs told m stands whole in
    turn_last g.St.Store.lasts g.St.Store.stands m c.args.turns.now c.loop-at.at c.index-turns-at.result c.flag_at-is_last.result (g.K.Sink.taken c.args.sink.now) (g.K.Sink.taken c.loop-at.sink) (g.K.Sink.taken c.reply.new.sink)
    c.args.clients.now.hub.store.log c.loop-at.clients c.reply.new.clients (g.C.Clock.stamps c.loop-at.clock) (g.C.Clock.stamps c.reply.new.clock) c.in-Err.error c.loop-at-test.true c.index-turns-at.is
    (subst (λ (fs : List Bool). slice_get fs c.loop-at.at ≡ Some c.flag_at-is_last.result) c.requires.flags c.flag_at-is_last.ensures) runs
    (λ lasts. c.reply.ensures.moments lasts told (sym runs.stands_for.hub.failed ∙ runs.whole) runs.now runs.stands_for) (c.in-Err.ensures.err told runs.now runs.stands_for)

pub returns-clause-ok : goal.returns-clause-ok
returns-clause-ok g c = λ told m stands whole.
    all_taken g.St.Store.lasts g.St.Store.stands m c.args.turns.now c.loop-at.at (g.K.Sink.taken c.args.sink.now) (g.K.Sink.taken c.loop-at.sink) c.args.clients.now.hub.store.log c.loop-at.clients (g.C.Clock.stamps c.loop-at.clock)
    c.loop-at-test.false (c.loop-at.invariant.runs told m stands whole)

pub returns-in-Err-clause-others : goal.returns-in-Err-clause-others
returns-in-Err-clause-others g c = λ other. c.in-Err.ensures.others other ∙ c.loop-at.invariant.others

pub returns-in-Err-clause-side : goal.returns-in-Err-clause-side
returns-in-Err-clause-side g c = λ lasts none.
    stays_then Side c.args.clients.now.hub.store.log c.loop-at.clients.hub.store.log c.reply.new.clients.hub.store.log (c.loop-at.invariant.side lasts none)
    (c.reply.ensures.side lasts (no_pack_at c.args.turns.now c.loop-at.at c.index-turns-at.result none c.loop-at-test.true c.index-turns-at.is))
