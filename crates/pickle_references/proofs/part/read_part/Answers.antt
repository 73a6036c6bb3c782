-- Each turn of the loop is a step of the definition, and a refusal of it is one of the definition.
use Rattle.std.proofs.Common.{◌+◌, ◌-◌, take, drop, sym, ◌∙◌, subst, arith}
use Rattle.std.proofs.lemmas.Result.{err_from_is_err_and}
use Rattle.zb_base.specs.Bytes.{AreBytes-take, AreBytes-drop}
use Rattle.pickle_reading.specs.Steps.{AnswersAs}
use Rattle.pickle_references.specs.References.{parts, find}
use Rattle.pickle_reading.specs.PlaceLaws.{read_on, read_refused, read_stop, refused, span_fits}
use Rattle.pickle_reading.specs.RunLaws.{read_from-fault}
use Rattle.pickle_references.proofs.Shown.{find-sound, sound-on}
use Rattle.pickle_references.proofs.part.read_part.Goals as goal

pub returns-in_err-token-clause-part : goal.returns-in_err-token-clause-part
returns-in_err-token-clause-part c =
    let p = err_from_is_err_and c.from_residual.result c.from_residual.ensures.1 in
    rw (p.1, p.2) (sym c.loop-finding.invariant.same ∙ read_from-fault parts _ _ _ _ (sym c.in_err-token.ensures.token))

pub returns-then-ends-clause-part : goal.returns-then-ends-clause-part
returns-then-ends-clause-part c =
    subst (AnswersAs c.finish.result) (sym (read_stop parts _ _ _ _ _ c.in_ok-token.ensures.token c.in_ok-token.ensures.within (cc)) ∙ c.loop-finding.invariant.same) c.finish.ensures.part

pub returns-in_err-find-clause-part : goal.returns-in_err-find-clause-part
returns-in_err-find-clause-part c =
    let p = err_from_is_err_and c.from_residual-in_err-find.result c.from_residual-in_err-find.ensures.1 in
    rw (p.1, p.2) (refused _ _ _ c.in_err-find.ensures.err
    (λ f e. sym c.loop-finding.invariant.same ∙ read_refused parts _ _ _ _ _ _ c.in_ok-token.ensures.token c.in_ok-token.ensures.within (cc) e))

pub loop-finding-preserved : goal.loop-finding-preserved
loop-finding-preserved c =
    let w = c.in_ok-token.ensures.within in
    let t = c.in_ok-token.token in
    let i = c.loop-finding.invariant in
    let bytes = take (t.start + t.length - t.start) (drop t.start c.args.input.now) in
    let kept =
    sound-on c.loop-finding.finding.state.limit (find t.op c.loop-finding.place t.number bytes c.loop-finding.finding) _
    (find-sound t.op c.loop-finding.place t.number bytes c.loop-finding.finding
    (AreBytes-take (t.start + t.length - t.start) (drop t.start c.args.input.now) (AreBytes-drop t.start c.args.input.now (λ k. omega (arith, c.type_inv.input k))))
    (span_fits t.op t.number c.args.input.now t.start t.length c.in_ok-token.ensures.fits) i.sound) c.in_ok-find.ensures.ok in
    record {
      same = sym (read_on parts _ _ _ _ _ _ c.in_ok-token.ensures.token w (cc) c.in_ok-find.ensures.ok) ∙ i.same;
      sound = kept.0;
      limit = kept.1 ∙ i.limit;
      behind = omega (arith, i.behind, w.opcode, w.last);
    }
