use Rattle.std.proofs.Common.{ℕ, List, ◌++◌, length, map, take, refl, sym, ap, subst, ◌∙◌, arith}
use Rattle.std.specs.List.{AllByRecursion}
use Rattle.std.proofs.lemmas.List.{take_all}
use Rattle.zb_volume.specs.declared.areas.Area.TheVariants.{Main}
use Rattle.zb_volume.specs.Disk.{main_bytes}
use Rattle.fs_records.specs.Blocks.{record_text, records_text}
use Rattle.fs_records.specs.Writing.{HasRoom}
use Rattle.fs_reading.specs.declared.outline.OutlinedChange.{OutlinedChange}
use Rattle.fs_reading.specs.Outlines.{StandsWithin}
use Rattle.pack_copy.specs.Outlined.{record_in}
use Rattle.pack_copy.proofs.Appendings.{appended_is, appended_join, appended_none}
use Rattle.pack_copy.proofs.Stays.{others_join, others_same, seen_same}
use Rattle.pack_copy.proofs.Texts.{room_more, text_more}
use Rattle.pack_copy.proofs.writing.put_records.Goals as goal

pub record-init : goal.record-init
record-init g c = record {
  appended = λ told. appended_none (g.V.Volume.state c.args.volume.now).log c.args.buffer.now (c.requires.end told);
  room = λ told. tt;
  others = λ told. others_same _ _ refl;
  counts = record { reads = refl; writes = refl };
}

pub put_record-requires-clause-end : goal.put_record-requires-clause-end
put_record-requires-clause-end g c = λ told. (c.record.invariant.appended told).end

pub put_record-requires-clause-short : goal.put_record-requires-clause-short
put_record-requires-clause-short g c = λ told. omega (arith, c.requires.short told, ap (λ (xs : List ℕ). length xs) (seen_same Main _ _ (c.record.invariant.others told Main refl)))

pub put_record-requires-clause-within : goal.put_record-requires-clause-within
put_record-requires-clause-within g c = λ told.
    subst (λ (xs : List ℕ). StandsWithin xs c.change-item.result.source) (sym (seen_same Main _ _ (c.record.invariant.others told Main refl)))
    (subst (λ (x : OutlinedChange). StandsWithin (main_bytes (g.V.Volume.state c.args.volume.now).log) x.source) (sym c.change-item.is) (c.requires.within told c.record.change-index c.change-item.result c.record-test.true))

pub returns-in_err-put_record-clause-others : goal.returns-in_err-put_record-clause-others
returns-in_err-put_record-clause-others g c = λ told. others_join _ _ _ (c.record.invariant.others told) (c.put_record.ensures.others told)

pub record-preserved : goal.record-preserved
record-preserved g c =
    let main : List ℕ = main_bytes (g.V.Volume.state c.args.volume.now).log in
    let entries = c.args.places.now.entries in
    let cs : List OutlinedChange = c.args.changes.now in
    let one : OutlinedChange = c.change-item.result in
    record {
      appended = λ told.
          let same = seen_same Main _ _ (c.record.invariant.others told Main refl) in
          let text : List ℕ = records_text c.args.at c.args.tid (map (record_in entries main) (take c.record.change-index cs)) in
          let more = appended_is _ _ _ _ _ (record_text c.args.at c.args.tid (record_in entries main one)) (ap (λ (xs : List ℕ). record_text c.args.at c.args.tid (record_in entries xs one)) same) (c.in_ok-put_record.ensures.appended told) in
          appended_is _ _ _ _ (text ++ record_text c.args.at c.args.tid (record_in entries main one)) _ (text_more entries main c.args.at c.args.tid cs c.record.change-index one c.record-test.true c.change-item.is)
          (appended_join _ _ _ _ _ _ text _ (c.record.invariant.appended told) more);
      room = λ told.
          let same = seen_same Main _ _ (c.record.invariant.others told Main refl) in
          room_more entries main cs c.record.change-index one c.record-test.true c.change-item.is (c.record.invariant.room told) (subst (λ (xs : List ℕ). HasRoom (record_in entries xs one)) same (c.in_ok-put_record.ensures.room told));
      others = λ told. others_join _ _ _ (c.record.invariant.others told) (c.put_record.ensures.others told);
      counts = record {
        reads = c.in_ok-put_record.ensures.counts.reads ∙ c.record.invariant.counts.reads;
        writes = c.in_ok-put_record.ensures.counts.writes ∙ c.record.invariant.counts.writes;
      };
    }

pub returns-clause-appended : goal.returns-clause-appended
returns-clause-appended g c = λ told.
    let all = take_all c.record.change-index c.args.changes.now c.record-test.false in
    appended_is _ _ _ _ _ _ (ap (λ (cs : List OutlinedChange). records_text c.args.at c.args.tid (map (record_in c.args.places.now.entries (main_bytes (g.V.Volume.state c.args.volume.now).log)) cs)) all) (c.record.invariant.appended told)

pub returns-clause-room : goal.returns-clause-room
returns-clause-room g c = λ told.
    let all = take_all c.record.change-index c.args.changes.now c.record-test.false in
    subst (λ (cs : List OutlinedChange). AllByRecursion HasRoom (map (record_in c.args.places.now.entries (main_bytes (g.V.Volume.state c.args.volume.now).log)) cs)) all (c.record.invariant.room told)
