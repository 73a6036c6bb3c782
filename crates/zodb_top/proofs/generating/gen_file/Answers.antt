use Rattle.std.proofs.Common.{◌∙◌}
use Rattle.zb_model.specs.Stores.{StoreState}
use Rattle.zodb_top.specs.Outside.{Outside, outside}
use Rattle.zodb_top.proofs.Files.{opened_none, opens_as, unopened_done}
use Rattle.zodb_top.proofs.Nexts.{unopened_other}
use Rattle.zodb_top.proofs.Stores.{state_by}
use Rattle.zodb_top.proofs.Mades.{made_file, unopened}
use Rattle.zodb_top.proofs.Volumes.{bytes_unless}
use Rattle.zb_volume.specs.Runs.{along_now}
use Rattle.file_store.specs.Hinting.{LeavesHonest}
use Rattle.zodb_top.proofs.generating.gen_file.Goals as goal

pub returns-in-Ok-clause-outcome : goal.returns-in-Ok-clause-outcome
returns-in-Ok-clause-outcome g c =
    let V = g.V.Volume in
    let K = g.K.Sink in
    let C = g.C.Clock in
    let before : Outside = outside (K.taken c.args.sink.now) (K.faults c.args.sink.now) (C.stamps c.args.clock.now) (V.state c.args.volume) in
    let after : Outside = outside (K.taken c.gen_over_store-status.new.sink) (K.faults c.gen_over_store-status.new.sink) (C.stamps c.gen_over_store-status.new.clock) (V.state c.into_volume-volume.result) in
    let s = c.in-Ok.store in
    let t = c.gen_over_store-status.result.1 in
    let state : StoreState = state_by (V.state s.volume) s.index s.copy s.broken in
    let state' : StoreState = state_by (V.state t.volume) t.index t.copy t.broken in
    made_file c.gen_over_store-status.result.0 V.told c.args.rounds before after state state' (C.stamps c.create_or_open.new.clock) c.in-Ok.cut
    (λ told. record {
      opens = opens_as _ _ _ _ _ (λ some. ((c.in-Ok.ensures.store.main told).reopened some).opened) (λ empty. ((c.in-Ok.ensures.store.main told).anew empty).made) (c.in-Ok.ensures.clock.kept told) (c.in-Ok.ensures.clock.left told);
      keeps = (c.in-Ok.ensures.store.moments told).keeps;
      makes = λ empty. ((c.in-Ok.ensures.store.main told).anew empty).moments;
      shown = c.is_left.ensures.left told;
      bytes = λ some. ((c.in-Ok.ensures.store.main told).reopened some).content;
      new_file = λ empty. ((c.in-Ok.ensures.store.main told).anew empty).new_file;
    })
    c.in-Ok.ensures.store.faults c.in-Ok.ensures.store.read_faults c.into_volume-volume.ensures.log c.into_volume-volume.ensures.read_faults c.into_volume-volume.ensures.faults c.gen_over_store-status.ensures.outcome

pub returns-in-Ok-clause-damaged : goal.returns-in-Ok-clause-damaged
returns-in-Ok-clause-damaged g c = λ told reads writes none. opened_none g.V.Volume.told _ _ _ c.in-Ok.cut (λ here some. ((c.in-Ok.ensures.store.main here).reopened some).opened) told none

pub returns-in-Ok-clause-harmed : goal.returns-in-Ok-clause-harmed
returns-in-Ok-clause-harmed g c = λ told none. opened_none g.V.Volume.told _ _ _ c.in-Ok.cut (λ here some. ((c.in-Ok.ensures.store.main here).reopened some).opened) told none

pub returns-in-Err-clause-outcome : goal.returns-in-Err-clause-outcome
returns-in-Err-clause-outcome g c =
    unopened c.say_unopened.result c.in-Err.error c.args.rounds g.V.Volume.told _ _ c.say_unopened.ensures.said c.in-Err.ensures.refused.harm c.in-Err.ensures.refused.cause.fault c.in-Err.ensures.refused.untouched (λ other. let still = c.in-Err.ensures.refused.cause.unfailed other in (still.reads, still.writes))
    (record {
      stamps = c.in-Err.ensures.clock.given;
      kept = c.in-Err.ensures.clock.kept;
      bytes = λ told some. bytes_unless _ _ (c.in-Err.ensures.refused.unharmed told);
      side = c.in-Err.ensures.refused.side;
      keeps = λ told. (c.in-Err.ensures.refused.moments told).keeps;
      makes = λ told. (c.in-Err.ensures.refused.moments told).makes;
    })

pub returns-in-Err-clause-complete : goal.returns-in-Err-clause-complete
returns-in-Err-clause-complete g c = λ told reads writes sinks list cut stands.
    unopened_done c.say_unopened.result c.in-Err.error _ list cut _ _ _ _ _ _ _ _ c.say_unopened.ensures.said (c.in-Err.ensures.refused.harm told) c.in-Err.ensures.refused.cause.fault reads writes stands

pub returns-in-Ok-clause-others : goal.returns-in-Ok-clause-others
returns-in-Ok-clause-others g c = λ other. c.into_volume-volume.ensures.faults ∙ c.gen_over_store-status.ensures.others other ∙ c.in-Ok.ensures.store.faults

pub returns-in-Err-clause-others : goal.returns-in-Err-clause-others
returns-in-Err-clause-others g c = λ other. (c.in-Err.ensures.refused.cause.unfailed (unopened_other _ _ _ _ _ _ c.say_unopened.ensures.said other)).writes

pub returns-in-Ok-clause-hint : goal.returns-in-Ok-clause-hint
returns-in-Ok-clause-hint g c = λ told settled. c.into_volume-volume.ensures.hint told

pub returns-in-Err-clause-hint : goal.returns-in-Err-clause-hint
returns-in-Err-clause-hint g c = λ told settled. along_now LeavesHonest _ _ (c.in-Err.ensures.hint_left told settled)
