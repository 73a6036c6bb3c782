use Rattle.std.proofs.Common.{List, subst, ◌∙◌}
use Rattle.side_by_side.specs.declared.turns.PlayedTurn.{PlayedTurn}
use Rattle.script_runs.specs.Running.{SaysEnded}
use Rattle.script_runs.proofs.Played.{nothing_packs, played_done, played_none, played_others, played_says}
use Rattle.script_runs.proofs.playing.play_over_store.Goals as goal

pub returns-in_default-clause-outcome : goal.returns-in_default-clause-outcome
returns-in_default-clause-outcome g c =
    played_none g.St.Store.told g.St.Store.lasts g.St.Store.stands (g.St.Store.state c.args.store) (g.C.Clock.stamps c.args.clock.now) c.args.cut c.args.turns.now (g.K.Sink.taken c.args.sink.now) (g.K.Sink.faults c.args.sink.now) (g.K.Sink.faults c.args.sink.now)
    (λ lasts. c.lasting.ensures.lasting lasts c.requires.whole)

pub returns-clause-outcome : goal.returns-clause-outcome
returns-clause-outcome g c =
    let St = g.St.Store in
    let K = g.K.Sink in
    let C = g.C.Clock in
    let played = c.play-store.result in
    let said = subst (λ (ps : List PlayedTurn). SaysEnded played.ended c.write_ended-status.result (K.taken c.args.sink.now) (K.taken c.write_ended-status.new.sink) (K.faults c.args.sink.now) (K.faults c.write_ended-status.new.sink) c.as_slice.result.now c.as_slice-2.result.now ps)
    c.as_slice-3.ensures.value c.write_ended-status.ensures.said in
    played_says St.told St.lasts St.stands (St.state c.args.store) (St.state played.store) (C.stamps c.args.clock.now) (C.stamps c.play-store.new.clock) c.args.cut c.args.turns.now c.in-Some.prepared.clients.items played.taken.items
    (K.taken c.args.sink.now) (K.taken c.write_ended-status.new.sink) (K.faults c.args.sink.now) (K.faults c.write_ended-status.new.sink)
    played.ended c.play-store.ensures c.in-Some.ensures.clients (λ lasts whole. c.lasting-2.ensures.lasting lasts whole) c.as_slice.result.now c.as_slice-2.result.now (c.as_slice.ensures ∙ c.in-Some.ensures.first) (c.as_slice-2.ensures.value ∙ c.in-Some.ensures.names) c.write_ended-status.result said

pub returns-clause-complete : goal.returns-clause-complete
returns-clause-complete g c = λ calm well.
    let St = g.St.Store in
    let K = g.K.Sink in
    let C = g.C.Clock in
    let played = c.play-store.result in
    let said = subst (λ (ps : List PlayedTurn). SaysEnded played.ended c.write_ended-status.result (K.taken c.args.sink.now) (K.taken c.write_ended-status.new.sink) (K.faults c.args.sink.now) (K.faults c.write_ended-status.new.sink) c.as_slice.result.now c.as_slice-2.result.now ps)
    c.as_slice-3.ensures.value c.write_ended-status.ensures.said in
    played_done St.told St.lasts St.stands (St.state c.args.store) (St.state played.store) (C.stamps c.args.clock.now) (C.stamps c.play-store.new.clock) c.args.cut c.args.turns.now c.in-Some.prepared.clients.items played.taken.items
    (K.taken c.args.sink.now) (K.taken c.write_ended-status.new.sink) (K.faults c.args.sink.now) (K.faults c.write_ended-status.new.sink)
    played.ended c.play-store.ensures c.as_slice.result.now c.as_slice-2.result.now c.write_ended-status.result said calm well

pub returns-clause-others : goal.returns-clause-others
returns-clause-others g c = λ other.
    let St = g.St.Store in
    let K = g.K.Sink in
    let C = g.C.Clock in
    let played = c.play-store.result in
    let said = subst (λ (ps : List PlayedTurn). SaysEnded played.ended c.write_ended-status.result (K.taken c.args.sink.now) (K.taken c.write_ended-status.new.sink) (K.faults c.args.sink.now) (K.faults c.write_ended-status.new.sink) c.as_slice.result.now c.as_slice-2.result.now ps)
    c.as_slice-3.ensures.value c.write_ended-status.ensures.said in
    played_others St.told St.lasts St.stands (St.state c.args.store) (St.state played.store) (C.stamps c.args.clock.now) (C.stamps c.play-store.new.clock) c.args.cut c.args.turns.now c.in-Some.prepared.clients.items played.taken.items
    (K.taken c.args.sink.now) (K.taken c.write_ended-status.new.sink) (K.faults c.args.sink.now) (K.faults c.write_ended-status.new.sink)
    played.ended c.play-store.ensures c.as_slice.result.now c.as_slice-2.result.now c.write_ended-status.result said other

pub returns-clause-side : goal.returns-clause-side
returns-clause-side g c = λ lasts none. c.play-store.ensures.side lasts (nothing_packs c.args.turns.now c.in-Some.prepared.clients.items c.in-Some.ensures.clients none)
