use Rattle.std.proofs.Common.{Some, sym, ap, refl, arith, ◌∙◌}
use Rattle.std.specs.Prelude.{string_bytes}
use Rattle.script_runs.specs.declared.manner.Manner.TheVariants.{InTurn, SideBySide}
use Rattle.zodb_top.proofs.Promises.{ask_kept, gen_in_range, gen_kept, index_kept, pack_kept, run_named, serve_kept, starved}
use Rattle.zodb_top.proofs.top.zodb_main.Goals as goal

pub returns-in_default : goal.returns-in_default
returns-in_default g c = record { promise = starved g.V.Volume.told _ _ c.requires.honest }

pub returns-in-Run : goal.returns-in-Run
returns-in-Run g c = let e = c.run_source.ensures in record {
  promise = run_named g.V.Volume.told _ InTurn c.run_source.result.0 _ _ (sym c.in-Ok.ensures ∙ c.in-Some.is ∙ ap Some c.in-Run.is)
      e.outcome e.at_end e.taken e.complete e.damaged e.bad_line e.limit e.harmed e.others e.side e.hint
      (record { source = e.source_counted; sink = e.sink_counted; reads = e.read_counted; writes = e.counted }) refl;
}

pub returns-in-Play : goal.returns-in-Play
returns-in-Play g c = let e = c.run_source-in-Play.ensures in record {
  promise = run_named g.V.Volume.told _ SideBySide c.run_source-in-Play.result.0 _ _ (sym c.in-Ok.ensures ∙ c.in-Some.is ∙ ap Some c.in-Play.is)
      e.outcome e.at_end e.taken e.complete e.damaged e.bad_line e.limit e.harmed e.others e.side e.hint
      (record { source = e.source_counted; sink = e.sink_counted; reads = e.read_counted; writes = e.counted }) refl;
}

pub returns-in-Ask : goal.returns-in-Ask
returns-in-Ask g c = let e = c.answer_file.ensures in record {
  promise = ask_kept g.V.Volume.told _ c.in-Ask.asked c.answer_file.result.0 _ _ (sym c.in-Ok.ensures ∙ c.in-Some.is ∙ ap Some c.in-Ask.is)
      e.outcome e.left e.harmed e.others refl e.hint
      (record { source = omega arith; sink = e.sink_counted; reads = e.read_counted; writes = e.counted }) refl;
}

pub returns-in-Pack : goal.returns-in-Pack
returns-in-Pack g c = let e = c.pack_file.ensures in record {
  promise = pack_kept g.V.Volume.told _ c.in-Pack.pack c.pack_file.result.0 _ _ (sym c.in-Ok.ensures ∙ c.in-Some.is ∙ ap Some c.in-Pack.is)
      e.outcome e.complete e.damaged e.harmed e.others refl e.hint
      (record { source = omega arith; sink = e.sink_counted; reads = e.read_counted; writes = e.counted }) refl;
}

pub returns-in-Index : goal.returns-in-Index
returns-in-Index g c = let e = c.index_file.ensures in record {
  promise = index_kept g.V.Volume.told _ c.index_file.result.0 _ _ (sym c.in-Ok.ensures ∙ c.in-Some.is ∙ ap Some c.in-Index.is)
      e.outcome e.left e.harmed e.others refl e.hint
      (record { source = omega arith; sink = e.sink_counted; reads = e.read_counted; writes = e.counted }) refl;
}

pub returns-in-Serve : goal.returns-in-Serve
returns-in-Serve g c = let e = c.serve_file.ensures in record {
  promise = serve_kept g.V.Volume.told _ c.in-Serve.request c.serve_file.result.0 _ _ (sym c.in-Ok.ensures ∙ c.in-Some.is ∙ ap Some c.in-Serve.is)
      e.outcome e.complete e.damaged e.harmed e.others refl e.hint
      (record { source = omega arith; sink = e.sink_counted; reads = e.read_counted; writes = e.counted }) (record { doors = e.doors_counted; spawner = e.spawner_counted });
}

pub gen_file-requires : goal.gen_file-requires
gen_file-requires g c = record {
  rounds = gen_in_range string_bytes c.args.words.now _ c.in-Gen.rounds c.in-Ok.ensures (c.in-Some.is ∙ ap Some c.in-Gen.is);
  honest = c.requires.honest;
}

pub returns-in-Gen : goal.returns-in-Gen
returns-in-Gen g c = let e = c.gen_file.ensures in record {
  promise = gen_kept g.V.Volume.told _ c.in-Gen.rounds c.gen_file.result.0 _ _ (sym c.in-Ok.ensures ∙ c.in-Some.is ∙ ap Some c.in-Gen.is)
      e.outcome e.complete e.damaged e.harmed e.others refl e.side e.hint
      (record { source = omega arith; sink = e.sink_counted; reads = e.read_counted; writes = e.counted }) refl;
}
