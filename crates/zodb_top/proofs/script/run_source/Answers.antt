use Rattle.std.proofs.Common.{inr, refl}
use Rattle.zodb_top.proofs.Sides.{packs_none}
use Rattle.zodb_top.proofs.Sources.{of_any, run_silent, spread, unread_input}
use Rattle.zodb_top.proofs.script.run_source.Goals as goal

pub returns-in-Ok-turns_of-clause-outcome : goal.returns-in-Ok-turns_of-clause-outcome
returns-in-Ok-turns_of-clause-outcome g c =
    run_silent c.args.manner c.run_file.result.0 g.V.Volume.told _ (g.S.Source.left c.args.source.now) c.as_slice.result.now c.as_slice-in-Ok-turns_of.result.now _ _ (g.K.Sink.taken c.turns_of.new.sink) (g.K.Sink.faults c.turns_of.new.sink)
    c.in-Ok-turns_of.ensures.silent c.in-Ok-turns_of.ensures.still (rw c.as_slice.ensures.value c.in-Ok.ensures.whole) (rw c.as_slice-in-Ok-turns_of.ensures c.in-Ok-turns_of.ensures.script) c.run_file.ensures.outcome

pub returns-in-Ok-turns_of-clause-complete : goal.returns-in-Ok-turns_of-clause-complete
returns-in-Ok-turns_of-clause-complete g c = λ told.
    of_any (g.S.Source.left c.args.source.now) _ (λ input turns list cut is stands source sink reads writes. c.run_file.ensures.complete told reads writes (rw c.in-Ok-turns_of.ensures.still sink) list cut stands)

pub returns-in-Ok-turns_of-clause-damaged : goal.returns-in-Ok-turns_of-clause-damaged
returns-in-Ok-turns_of-clause-damaged g c = λ told.
    of_any (g.S.Source.left c.args.source.now) _ (λ input turns is none source reads writes. c.run_file.ensures.damaged told reads writes none)

pub returns-in-Ok-turns_of-clause-bad_line : goal.returns-in-Ok-turns_of-clause-bad_line
returns-in-Ok-turns_of-clause-bad_line g c =
    spread (g.S.Source.left c.args.source.now) c.as_slice.result.now _ (rw c.as_slice.ensures.value c.in-Ok.ensures.whole) (λ n within bad source. let never = c.in-Ok-turns_of.ensures.bad n within bad in absurd cc)

pub returns-in-Ok-turns_of-clause-limit : goal.returns-in-Ok-turns_of-clause-limit
returns-in-Ok-turns_of-clause-limit g c =
    spread (g.S.Source.left c.args.source.now) c.as_slice.result.now _ (rw c.as_slice.ensures.value c.in-Ok.ensures.whole) (λ l passed source. let never = c.in-Ok-turns_of.ensures.limited l passed in absurd cc)

pub returns-clause-outcome : goal.returns-clause-outcome
returns-clause-outcome g c =
    unread_input c.args.manner c.in-Err.status g.V.Volume.told _ (g.S.Source.left c.args.source.now) c.as_slice.result.now _ _ (rw c.as_slice.ensures.value c.in-Ok.ensures.whole)
    (record { stamps = refl; log = refl; read_faults = refl; write_faults = refl }) c.in-Err.ensures.outcome

pub returns-clause-complete : goal.returns-clause-complete
returns-clause-complete g c = λ told.
    spread (g.S.Source.left c.args.source.now) c.as_slice.result.now _ (rw c.as_slice.ensures.value c.in-Ok.ensures.whole) (λ turns list cut is stands source sink reads writes. inr (c.in-Err.ensures.complete turns is))

pub returns-clause-damaged : goal.returns-clause-damaged
returns-clause-damaged g c = λ told.
    spread (g.S.Source.left c.args.source.now) c.as_slice.result.now _ (rw c.as_slice.ensures.value c.in-Ok.ensures.whole) (λ turns is none source reads writes. inr (c.in-Err.ensures.complete turns is))

pub returns-in-Ok-turns_of-clause-side : goal.returns-in-Ok-turns_of-clause-side
returns-in-Ok-turns_of-clause-side g c = λ told nothing some.
    c.run_file.ensures.side told
    (packs_none (g.S.Source.left c.args.source.now) c.as_slice.result.now c.as_slice-in-Ok-turns_of.result.now (rw c.as_slice.ensures.value c.in-Ok.ensures.whole) (rw c.as_slice-in-Ok-turns_of.ensures c.in-Ok-turns_of.ensures.script) nothing) some
