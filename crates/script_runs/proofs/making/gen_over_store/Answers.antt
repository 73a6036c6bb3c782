use Rattle.std.proofs.Common.{List, ℕ, [], Err, ap, inl, refl, sym, subst, ◌∙◌}
use Rattle.std.specs.Io.KnownBytes.{Appends}
use Rattle.zb_base.specs.Counts.{Rose}
use Rattle.zb_model.specs.Stores.{StoreState}
use Rattle.zb_volume.specs.declared.areas.Area.TheVariants.{Side}
use Rattle.zb_volume.specs.Moments.{StaysAs}
use Rattle.gen_script.specs.Script.{gen_lines}
use Rattle.script_runs.specs.declared.replying.RunError.TheVariants as errors
use Rattle.script_runs.specs.Came.{began}
use Rattle.script_runs.specs.Made.{MadeSoFar, MadeUntil}
use Rattle.script_runs.specs.Texts.{joined}
use Rattle.script_runs.proofs.MadeOver.{made_prefix, made_silent, says_last, says_part}
use Rattle.script_runs.proofs.Nexts.{stopped_other}
use Rattle.script_runs.proofs.Sides.{ran_over}
use Rattle.script_runs.proofs.making.gen_over_store.Goals as goal

pub returns-in_default-clause-outcome : goal.returns-in_default-clause-outcome
returns-in_default-clause-outcome g c = λ told.
    inl (made_silent g.St.Store.lasts g.St.Store.stands (g.St.Store.state c.args.store) (g.C.Clock.stamps c.args.clock.now) c.args.cut c.args.rounds (λ lasts. g.met.St.Store.lasting c.args.store lasts c.requires.whole) (g.K.Sink.taken c.args.sink.now))

pub returns-in-Err-clause-outcome : goal.returns-in-Err-clause-outcome
returns-in-Err-clause-outcome g c = (
  c.in-Err.ensures.failed,
  λ told.
      inl (made_prefix g.St.Store.lasts g.St.Store.stands (g.St.Store.state c.args.store) (g.C.Clock.stamps c.args.clock.now) c.args.cut c.args.rounds (λ lasts. g.met.St.Store.lasting c.args.store lasts c.requires.whole) (g.K.Sink.taken c.args.sink.now)
      (g.K.Sink.taken c.write_lines.new.sink) c.as_slice.result.now (c.as_slice.ensures ∙ c.in-Ok.ensures) c.in-Err.ensures.err),
)

pub returns-in-Ok-taken-clause-outcome : goal.returns-in-Ok-taken-clause-outcome
returns-in-Ok-taken-clause-outcome g c =
    let St = g.St.Store in
    let K = g.K.Sink in
    let C = g.C.Clock in
    let old = St.state c.args.store in
    let m = began old.list (C.stamps c.args.clock.now) old.read_faults old.faults in
    says_last St.told St.lasts St.stands m c.args.cut c.args.rounds old (St.state c.into_store-store.result) (St.state c.say_last-status.new.store) c.take_made-taken.new.clients (C.stamps c.take_made-taken.new.clock) c.into_store-store.ensures.store
    (λ lasts whole. g.met.St.Store.lasting c.into_store-store.result lasts whole) c.say_last-status.ensures.same c.in-Ok-taken.tally
    (λ told. subst (λ (s : StoreState). MadeSoFar St.lasts St.stands m (gen_lines c.args.rounds) [] c.in-Ok-taken.tally s.log c.take_made-taken.new.clients (C.stamps c.take_made-taken.new.clock)) c.new-clients.ensures.store
    (c.in-Ok-taken.ensures.ok told m (c.new-clients.ensures.moment told (C.stamps c.args.clock.now)) refl))
    c.say_last-status.result (K.taken c.args.sink.now) (K.taken c.write_lines.new.sink) (K.taken c.say_last-status.new.sink) (K.faults c.args.sink.now) (K.faults c.write_lines.new.sink) (K.faults c.say_last-status.new.sink)
    (subst (λ (ls : List (List ℕ)). Appends (K.taken c.args.sink.now) (K.taken c.write_lines.new.sink) (joined ls)) (c.as_slice.ensures ∙ c.in-Ok.ensures) c.in-Ok-write_lines.ensures.ok)
    c.write_lines.ensures.counted c.say_last-status.ensures.says

pub returns-clause-outcome : goal.returns-clause-outcome
returns-clause-outcome g c =
    let St = g.St.Store in
    let K = g.K.Sink in
    let C = g.C.Clock in
    let old = St.state c.args.store in
    let m = began old.list (C.stamps c.args.clock.now) old.read_faults old.faults in
    says_part St.lasts St.stands m c.args.cut c.args.rounds old (St.state c.into_store-store.result) c.take_made-taken.new.clients (C.stamps c.take_made-taken.new.clock) c.into_store-store.ensures.store
    (λ lasts whole. g.met.St.Store.lasting c.into_store-store.result lasts whole) St.told c.in-Err-taken.why c.say_stopped.result (K.taken c.args.sink.now) (K.taken c.write_lines.new.sink) (K.taken c.say_stopped.new.sink) (K.faults c.args.sink.now)
    (K.faults c.write_lines.new.sink) (K.faults c.say_stopped.new.sink) refl
    (subst (λ (ls : List (List ℕ)). Appends (K.taken c.args.sink.now) (K.taken c.write_lines.new.sink) (joined ls)) (c.as_slice.ensures ∙ c.in-Ok.ensures) c.in-Ok-write_lines.ensures.ok)
    c.write_lines.ensures.counted c.say_stopped.ensures.said
    (λ is. subst (λ (s : StoreState). Rose old.faults s.faults) (sym c.into_store-store.ensures.store)
    (subst (λ (s : StoreState). Rose s.faults c.take_made-taken.new.clients.hub.store.faults) c.new-clients.ensures.store (c.take_made-taken.ensures.store_failed (c.in-Err-taken.is ∙ ap Err is))))
    (λ told. subst (λ (s : StoreState). MadeUntil St.lasts St.stands c.in-Err-taken.why m (gen_lines c.args.rounds) s.log c.take_made-taken.new.clients (C.stamps c.take_made-taken.new.clock)) c.new-clients.ensures.store
    (c.in-Err-taken.ensures.err told m (c.new-clients.ensures.moment told (C.stamps c.args.clock.now)) refl))

pub returns-in-Ok-taken-clause-others : goal.returns-in-Ok-taken-clause-others
returns-in-Ok-taken-clause-others g c = λ other.
    ap (λ (s : StoreState). s.faults) c.say_last-status.ensures.same ∙ ap (λ (s : StoreState). s.faults) c.into_store-store.ensures.store ∙ c.in-Ok-taken.ensures.others (λ never. absurd cc)
    ∙ ap (λ (s : StoreState). s.faults) c.new-clients.ensures.store

pub returns-clause-others : goal.returns-clause-others
returns-clause-others g c = λ other.
    ap (λ (s : StoreState). s.faults) c.into_store-store.ensures.store
    ∙ c.in-Err-taken.ensures.others (λ is. stopped_other (errors.Turn c.in-Err-taken.why) c.say_stopped.result (g.K.Sink.taken c.write_lines.new.sink) (g.K.Sink.taken c.say_stopped.new.sink) (g.K.Sink.faults c.write_lines.new.sink) (g.K.Sink.faults c.say_stopped.new.sink) c.say_stopped.ensures.said other cc)
    ∙ ap (λ (s : StoreState). s.faults) c.new-clients.ensures.store

pub returns-in-Ok-taken-clause-side : goal.returns-in-Ok-taken-clause-side
returns-in-Ok-taken-clause-side g c = λ lasts few.
    let old = g.St.Store.state c.args.store in
    subst (λ (s : StoreState). StaysAs Side old.log s.log) (sym c.say_last-status.ensures.same)
    (ran_over old (g.St.Store.state c.into_store-store.result) c.new-clients.result.hub.store c.take_made-taken.new.clients.hub.store c.new-clients.ensures.store c.into_store-store.ensures.store (c.take_made-taken.ensures.side lasts few))
