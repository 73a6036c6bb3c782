use Rattle.std.proofs.Common.{ℕ, List, [], Err, arith, ap, inl, refl, sym, subst, ◌∙◌}
use Rattle.std.specs.Io.KnownBytes.{Appends}
use Rattle.zb_base.specs.Counts.{Rose, rose_after}
use Rattle.zb_model.specs.Stores.{StoreState}
use Rattle.client_turns.specs.Output.{flagged}
use Rattle.script_runs.specs.Came.{began}
use Rattle.script_runs.specs.Running.{RunsOn, Stops, broke_of}
use Rattle.script_runs.specs.Texts.{joined}
use Rattle.script_runs.proofs.Nexts.{stopped_other}
use Rattle.script_runs.proofs.Stores.{cut_prefix, nothing_written, ran_all, stopped}
use Rattle.script_runs.proofs.running.run_over_store.Goals as goal

pub returns-in_default-clause-outcome : goal.returns-in_default-clause-outcome
returns-in_default-clause-outcome g c = λ told.
    inl (nothing_written g.St.Store.lasts g.St.Store.stands (g.St.Store.state c.args.store) (g.C.Clock.stamps c.args.clock.now) c.args.cut c.args.turns.now (g.K.Sink.taken c.args.sink.now)
    (λ lasts. g.met.St.Store.lasting c.args.store lasts c.requires.whole))

pub returns-in_default-last_turns-clause-outcome : goal.returns-in_default-last_turns-clause-outcome
returns-in_default-last_turns-clause-outcome g c = λ told.
    inl (nothing_written g.St.Store.lasts g.St.Store.stands (g.St.Store.state c.args.store) (g.C.Clock.stamps c.args.clock.now) c.args.cut c.args.turns.now (g.K.Sink.taken c.args.sink.now)
    (λ lasts. g.met.St.Store.lasting c.args.store lasts c.requires.whole))

pub returns-in-Err-clause-outcome : goal.returns-in-Err-clause-outcome
returns-in-Err-clause-outcome g c = (
  c.in-Err.ensures.failed,
  λ told.
      cut_prefix g.St.Store.lasts g.St.Store.stands (g.St.Store.state c.args.store) (g.C.Clock.stamps c.args.clock.now) c.args.cut c.args.turns.now (g.K.Sink.taken c.args.sink.now) (g.K.Sink.taken c.write_lines.new.sink)
      c.as_slice.result.now (c.as_slice.ensures ∙ c.in-Ok.ensures) c.in-Err.ensures.err (λ lasts. g.met.St.Store.lasting c.args.store lasts c.requires.whole),
)

pub returns-in-Ok-ran-clause-outcome : goal.returns-in-Ok-ran-clause-outcome
returns-in-Ok-ran-clause-outcome g c = λ told.
    let St = g.St.Store in
    let K = g.K.Sink in
    let C = g.C.Clock in
    let old = St.state c.args.store in
    let m = began old.list (C.stamps c.args.clock.now) old.read_faults old.faults in
    ran_all St.lasts St.stands m c.args.cut c.args.turns.now (K.taken c.args.sink.now) (K.taken c.write_lines.new.sink) (K.taken c.take_turns-ran.new.sink) old (St.state c.into_store-store.result) c.take_turns-ran.new.clients
    (C.stamps c.take_turns-ran.new.clock)
    (subst (λ (ls : List (List ℕ)). Appends (K.taken c.args.sink.now) (K.taken c.write_lines.new.sink) (joined ls)) (c.as_slice.ensures ∙ c.in-Ok.ensures) c.in-Ok-write_lines.ensures.ok)
    c.into_store-store.ensures.store (λ lasts whole. g.met.St.Store.lasting c.into_store-store.result lasts whole)
    (subst (λ (s : StoreState). RunsOn St.lasts St.stands m (flagged c.args.turns.now) [] (K.taken c.write_lines.new.sink) (K.taken c.take_turns-ran.new.sink) s.log c.take_turns-ran.new.clients (C.stamps c.take_turns-ran.new.clock))
    c.new-clients.ensures.store (c.in-Ok-ran.ensures.ok told m (c.new-clients.ensures.moment told (C.stamps c.args.clock.now)) refl))

pub returns-clause-outcome : goal.returns-clause-outcome
returns-clause-outcome g c =
    let St = g.St.Store in
    let K = g.K.Sink in
    let C = g.C.Clock in
    let old = St.state c.args.store in
    let m = began old.list (C.stamps c.args.clock.now) old.read_faults old.faults in
    stopped St.lasts St.stands m c.args.cut c.args.turns.now (K.taken c.args.sink.now) (K.taken c.write_lines.new.sink) (K.taken c.take_turns-ran.new.sink) old (St.state c.into_store-store.result) c.take_turns-ran.new.clients
    (C.stamps c.take_turns-ran.new.clock)
    (subst (λ (ls : List (List ℕ)). Appends (K.taken c.args.sink.now) (K.taken c.write_lines.new.sink) (joined ls)) (c.as_slice.ensures ∙ c.in-Ok.ensures) c.in-Ok-write_lines.ensures.ok)
    c.into_store-store.ensures.store (λ lasts whole. g.met.St.Store.lasting c.into_store-store.result lasts whole)
    c.in-Err-ran.error c.say_stopped.result St.told (K.taken c.say_stopped.new.sink) (K.faults c.args.sink.now) (K.faults c.take_turns-ran.new.sink) (K.faults c.say_stopped.new.sink) c.say_stopped.ensures.said
    (omega (arith, c.write_lines.ensures.counted, c.take_turns-ran.ensures.sink_counted)) c.say_stopped.ensures.counted
    (λ is. rose_after (K.faults c.args.sink.now) (K.faults c.write_lines.new.sink) (K.faults c.take_turns-ran.new.sink) c.write_lines.ensures.counted (c.take_turns-ran.ensures.sink_failed (c.in-Err-ran.is ∙ ap Err is)))
    (λ is. subst (λ (s : StoreState). Rose old.faults s.faults) (sym c.into_store-store.ensures.store)
    (subst (λ (s : StoreState). Rose s.faults c.take_turns-ran.new.clients.hub.store.faults) c.new-clients.ensures.store (c.take_turns-ran.ensures.store_failed (c.in-Err-ran.is ∙ ap Err is))))
    refl
    (λ told. subst (λ (s : StoreState). Stops St.lasts St.stands (broke_of c.in-Err-ran.error) m c.args.turns.now (K.taken c.write_lines.new.sink) (K.taken c.take_turns-ran.new.sink) s.log c.take_turns-ran.new.clients (C.stamps c.take_turns-ran.new.clock))
    c.new-clients.ensures.store (c.in-Err-ran.ensures.err told m (c.new-clients.ensures.moment told (C.stamps c.args.clock.now)) refl))

pub returns-in-Ok-ran-clause-others : goal.returns-in-Ok-ran-clause-others
returns-in-Ok-ran-clause-others g c = λ other.
    ap (λ (s : StoreState). s.faults) c.into_store-store.ensures.store ∙ c.in-Ok-ran.ensures.others (λ never. absurd cc) ∙ ap (λ (s : StoreState). s.faults) c.new-clients.ensures.store

pub returns-clause-others : goal.returns-clause-others
returns-clause-others g c = λ other.
    ap (λ (s : StoreState). s.faults) c.into_store-store.ensures.store ∙ c.in-Err-ran.ensures.others (λ is. stopped_other c.in-Err-ran.error c.say_stopped.result (g.K.Sink.taken c.take_turns-ran.new.sink) (g.K.Sink.taken c.say_stopped.new.sink) (g.K.Sink.faults c.take_turns-ran.new.sink) (g.K.Sink.faults c.say_stopped.new.sink) c.say_stopped.ensures.said other cc) ∙ ap (λ (s : StoreState). s.faults) c.new-clients.ensures.store
