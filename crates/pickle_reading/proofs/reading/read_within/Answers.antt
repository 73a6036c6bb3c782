-- Each turn of the loop is a step of the definition, and a refusal of it is one of the definition.
use Rattle.std.proofs.Common.{◌+◌, ◌-◌, take, drop, sym, ◌∙◌, subst, arith}
use Rattle.std.proofs.lemmas.Result.{err_from_is_err_and}
use Rattle.pickle_reading.specs.Steps.{AnswersAs}
use Rattle.pickle_reading.specs.Reading.{graphs}
use Rattle.zb_base.specs.Bytes.{AreBytes-take, AreBytes-drop}
use Rattle.pickle_reading.specs.PlaceLaws.{read_on, read_refused, read_stop, refused, span_fits}
use Rattle.pickle_reading.specs.RunLaws.{read_from-fault}
use Rattle.pickle_reading.specs.SoundLaws.{SoundAfter, step-sound}
use Rattle.pickle_reading.proofs.reading.read_within.Goals as goal

pub loop-state-preserved : goal.loop-state-preserved
loop-state-preserved c =
    let w = c.in_ok-token.ensures.within in
    let t = c.in_ok-token.token in
    record {
      same = sym (read_on graphs _ _ _ _ _ _ c.in_ok-token.ensures.token w (cc) c.in_ok-take_step.ensures.ok) ∙ c.loop-state.invariant.same;
      sound = subst SoundAfter c.in_ok-take_step.ensures.ok
          (step-sound t.op c.loop-state.place t.number (take (t.start + t.length - t.start) (drop t.start c.args.input.now)) c.loop-state.state
          (AreBytes-take (t.start + t.length - t.start) (drop t.start c.args.input.now) (AreBytes-drop t.start c.args.input.now (λ k. omega (arith, c.type_inv.input k))))
          (span_fits t.op t.number c.args.input.now t.start t.length c.in_ok-token.ensures.fits) c.loop-state.invariant.sound);
      behind = omega (arith, c.loop-state.invariant.behind, w.opcode, w.last);
    }

pub returns-in_err-token-clause-graph : goal.returns-in_err-token-clause-graph
returns-in_err-token-clause-graph c =
    let p = err_from_is_err_and c.from_residual.result c.from_residual.ensures.1 in
    rw (p.1, p.2) (sym c.loop-state.invariant.same ∙ read_from-fault graphs _ _ _ _ (sym c.in_err-token.ensures.token))

pub returns-in_err-take_step-clause-graph : goal.returns-in_err-take_step-clause-graph
returns-in_err-take_step-clause-graph c =
    let p = err_from_is_err_and c.from_residual-in_err-take_step.result c.from_residual-in_err-take_step.ensures.1 in
    rw (p.1, p.2) (refused _ _ _ c.in_err-take_step.ensures.err
    (λ f e. sym c.loop-state.invariant.same ∙ read_refused graphs _ _ _ _ _ _ c.in_ok-token.ensures.token c.in_ok-token.ensures.within (cc) e))

pub returns-then-ends-clause-graph : goal.returns-then-ends-clause-graph
returns-then-ends-clause-graph c =
    subst (AnswersAs c.finish.result) (sym (read_stop graphs _ _ _ _ _ c.in_ok-token.ensures.token c.in_ok-token.ensures.within (cc)) ∙ c.loop-state.invariant.same) c.finish.ensures.graph
