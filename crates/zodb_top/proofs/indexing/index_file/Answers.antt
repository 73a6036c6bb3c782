use Rattle.std.proofs.Common.{List, refl, subst, ◌∙◌}
use Rattle.file_store.specs.Hinting.{LeavesHonest}
use Rattle.file_store.specs.Kept.{StandsForList}
use Rattle.zb_model.specs.declared.data.Transaction.{Transaction}
use Rattle.zb_model.specs.Stores.{StoreState}
use Rattle.zb_volume.specs.declared.areas.Area.TheVariants.{Main}
use Rattle.zb_volume.specs.Disk.{seen}
use Rattle.zb_volume.specs.Runs.{along_now}
use Rattle.zodb_top.specs.Outside.{Outside, outside}
use Rattle.zodb_top.proofs.Files.{opened_none, opens_as}
use Rattle.zodb_top.proofs.Indexes.{IsHinting, index_left, indexes_file, unopened}
use Rattle.zodb_top.proofs.Nexts.{unopened_other}
use Rattle.zodb_top.proofs.Stores.{state_by}
use Rattle.zodb_top.proofs.Volumes.{bytes_unless}
use Rattle.zodb_top.proofs.indexing.index_file.Goals as goal

pub returns-in-Ok-clause-outcome : goal.returns-in-Ok-clause-outcome
returns-in-Ok-clause-outcome g c =
    let V = g.V.Volume in
    let K = g.K.Sink in
    let C = g.C.Clock in
    let before : Outside = outside (K.taken c.args.sink.now) (K.faults c.args.sink.now) (C.stamps c.args.clock.now) (V.state c.args.volume) in
    let after : Outside = outside (K.taken c.write_index-status.new.sink) (K.faults c.write_index-status.new.sink) (C.stamps c.create_or_open.new.clock) (V.state c.into_volume.result) in
    let s = c.in-Ok.store in
    let t = c.write_index-status.new.store in
    let state : StoreState = state_by (V.state s.volume) s.index s.copy s.broken in
    let state' : StoreState = state_by (V.state t.volume) t.index t.copy t.broken in
    let hinting : IsHinting V.told before after state state' (C.stamps c.create_or_open.new.clock) c.in-Ok.cut = record {
      file = λ told. record {
        opens = opens_as _ _ _ _ _ (λ some. ((c.in-Ok.ensures.store.main told).reopened some).opened) (λ empty. ((c.in-Ok.ensures.store.main told).anew empty).made) (c.in-Ok.ensures.clock.kept told) (c.in-Ok.ensures.clock.left told);
        keeps = (c.in-Ok.ensures.store.moments told).keeps;
        makes = λ empty. ((c.in-Ok.ensures.store.main told).anew empty).moments;
        shown = g.met.V.Volume.seen_is_left c.into_volume.result Main told;
        bytes = λ some. ((c.in-Ok.ensures.store.main told).reopened some).content;
        new_file = λ empty. ((c.in-Ok.ensures.store.main told).anew empty).new_file;
      };
      given = c.in-Ok.ensures.clock.given;
      kept = c.in-Ok.ensures.clock.kept;
      side = λ here some. ((c.in-Ok.ensures.store.main here).reopened some).side;
      others = c.write_index-status.ensures.stays;
      makes = λ told. (c.in-Ok.ensures.store.moments told).makes;
      stamps = refl;
      log = c.into_volume.ensures.log;
      first_reads = c.in-Ok.ensures.store.read_faults;
      first_writes = c.in-Ok.ensures.store.faults;
      reads = c.into_volume.ensures.read_faults;
      writes = c.into_volume.ensures.faults;
    } in
    indexes_file V.told before after state state' (C.stamps c.create_or_open.new.clock) c.in-Ok.cut hinting c.write_index-status.result
    (λ told other. subst (λ (list : List Transaction). StandsForList (seen (V.state c.into_volume.result).log Main) list) (c.write_index-status.ensures.list told) (c.into_volume.ensures.stands told (c.write_index-status.ensures.whole other)))
    c.write_index-status.ensures.says

pub returns-in-Ok-clause-left : goal.returns-in-Ok-clause-left
returns-in-Ok-clause-left g c = λ told.
    let V = g.V.Volume in
    let K = g.K.Sink in
    let C = g.C.Clock in
    let before : Outside = outside (K.taken c.args.sink.now) (K.faults c.args.sink.now) (C.stamps c.args.clock.now) (V.state c.args.volume) in
    let after : Outside = outside (K.taken c.write_index-status.new.sink) (K.faults c.write_index-status.new.sink) (C.stamps c.create_or_open.new.clock) (V.state c.into_volume.result) in
    let s = c.in-Ok.store in
    let t = c.write_index-status.new.store in
    let state : StoreState = state_by (V.state s.volume) s.index s.copy s.broken in
    let state' : StoreState = state_by (V.state t.volume) t.index t.copy t.broken in
    let hinting : IsHinting V.told before after state state' (C.stamps c.create_or_open.new.clock) c.in-Ok.cut = record {
      file = λ told. record {
        opens = opens_as _ _ _ _ _ (λ some. ((c.in-Ok.ensures.store.main told).reopened some).opened) (λ empty. ((c.in-Ok.ensures.store.main told).anew empty).made) (c.in-Ok.ensures.clock.kept told) (c.in-Ok.ensures.clock.left told);
        keeps = (c.in-Ok.ensures.store.moments told).keeps;
        makes = λ empty. ((c.in-Ok.ensures.store.main told).anew empty).moments;
        shown = g.met.V.Volume.seen_is_left c.into_volume.result Main told;
        bytes = λ some. ((c.in-Ok.ensures.store.main told).reopened some).content;
        new_file = λ empty. ((c.in-Ok.ensures.store.main told).anew empty).new_file;
      };
      given = c.in-Ok.ensures.clock.given;
      kept = c.in-Ok.ensures.clock.kept;
      side = λ here some. ((c.in-Ok.ensures.store.main here).reopened some).side;
      others = c.write_index-status.ensures.stays;
      makes = λ told. (c.in-Ok.ensures.store.moments told).makes;
      stamps = refl;
      log = c.into_volume.ensures.log;
      first_reads = c.in-Ok.ensures.store.read_faults;
      first_writes = c.in-Ok.ensures.store.faults;
      reads = c.into_volume.ensures.read_faults;
      writes = c.into_volume.ensures.faults;
    } in
    index_left V.told before after state state' (C.stamps c.create_or_open.new.clock) c.in-Ok.cut hinting

pub returns-in-Ok-clause-harmed : goal.returns-in-Ok-clause-harmed
returns-in-Ok-clause-harmed g c = λ told none. opened_none g.V.Volume.told _ _ _ c.in-Ok.cut (λ here some. ((c.in-Ok.ensures.store.main here).reopened some).opened) told none

pub returns-in-Ok-clause-hint : goal.returns-in-Ok-clause-hint
returns-in-Ok-clause-hint g c = λ told settled. c.into_volume.ensures.hint told

pub returns-in-Ok-clause-others : goal.returns-in-Ok-clause-others
returns-in-Ok-clause-others g c = λ other. c.into_volume.ensures.faults ∙ c.write_index-status.ensures.others other ∙ c.in-Ok.ensures.store.faults

pub returns-in-Err-clause-outcome : goal.returns-in-Err-clause-outcome
returns-in-Err-clause-outcome g c =
    unopened c.say_unopened.result c.in-Err.error g.V.Volume.told _ _ c.say_unopened.ensures.said c.in-Err.ensures.refused.harm c.in-Err.ensures.refused.cause.fault c.in-Err.ensures.refused.untouched (λ other. let still = c.in-Err.ensures.refused.cause.unfailed other in (still.reads, still.writes))
    (record {
      stamps = c.in-Err.ensures.clock.given;
      kept = c.in-Err.ensures.clock.kept;
      bytes = λ told some. bytes_unless _ _ (c.in-Err.ensures.refused.unharmed told);
      side = c.in-Err.ensures.refused.side;
      keeps = λ told. (c.in-Err.ensures.refused.moments told).keeps;
      makes = λ told. (c.in-Err.ensures.refused.moments told).makes;
    })

pub returns-in-Err-clause-left : goal.returns-in-Err-clause-left
returns-in-Err-clause-left g c = λ told. record {
  stamps = c.in-Err.ensures.clock.given;
  kept = c.in-Err.ensures.clock.kept;
  bytes = λ told some. bytes_unless _ _ (c.in-Err.ensures.refused.unharmed told);
  side = c.in-Err.ensures.refused.side;
  keeps = λ told. (c.in-Err.ensures.refused.moments told).keeps;
  makes = λ told. (c.in-Err.ensures.refused.moments told).makes;
}

pub returns-in-Err-clause-hint : goal.returns-in-Err-clause-hint
returns-in-Err-clause-hint g c = λ told settled. along_now LeavesHonest _ _ (c.in-Err.ensures.hint_left told settled)

pub returns-in-Err-clause-others : goal.returns-in-Err-clause-others
returns-in-Err-clause-others g c = λ other. (c.in-Err.ensures.refused.cause.unfailed (unopened_other _ _ _ _ _ _ c.say_unopened.ensures.said other)).writes
