-- Each turn of the loop is a step of the definition, and a refusal of it is one of the definition.
use Rattle.std.proofs.Common.{◌+◌, ◌-◌, take, drop, sym, ◌∙◌, arith}
use Rattle.std.proofs.lemmas.Result.{err_from_is_err_and}
use Rattle.zb_base.specs.Bytes.{AreBytes-take, AreBytes-drop}
use Rattle.pickle_references.specs.References.{parts}
use Rattle.pickle_references.proofs.Looking.{root-found, root-refused}
use Rattle.pickle_reading.specs.PlaceLaws.{read_on, read_refused, read_stop, refused, span_fits}
use Rattle.pickle_reading.specs.RunLaws.{read_from-fault}
use Rattle.pickle_references.proofs.Shown.{step-found, step-refused}
use Rattle.pickle_references.proofs.references.look_to_stop.Goals as goal

pub returns-in_err-token-clause-refused : goal.returns-in_err-token-clause-refused
returns-in_err-token-clause-refused c =
    let p = err_from_is_err_and c.from_residual.result c.from_residual.ensures.1 in
    rw (p.1, p.2) (λ f e s. sym (c.loop-token.invariant.looks f e s).same ∙ read_from-fault parts _ _ _ _ (sym c.in_err-token.ensures.token))

pub returns-in_err-root-clause-refused : goal.returns-in_err-root-clause-refused
returns-in_err-root-clause-refused c =
    let p = err_from_is_err_and c.from_residual-in_err-root.result c.from_residual-in_err-root.ensures.1 in
    rw (p.1, p.2) (λ f e s.
    let k = c.loop-token.invariant.looks f e s in
    refused _ _ _ c.in_err-root.ensures.root
    (λ d x. sym k.same ∙ read_stop parts _ _ _ _ _ c.in_ok-token.ensures.token c.in_ok-token.ensures.within (cc) ∙ root-refused c.loop-token.place c.in_ok-token.next k.finding c.loop-token.sight d k.shows x))

pub returns-then-ends-clause-seen : goal.returns-then-ends-clause-seen
returns-then-ends-clause-seen c f e s =
    let k = c.loop-token.invariant.looks f e s in
    record {
      finding = k.finding;
      shows = k.shows;
      sound = k.sound;
      limit = k.limit;
      reads = sym k.same ∙ read_stop parts _ _ _ _ _ c.in_ok-token.ensures.token c.in_ok-token.ensures.within (cc)
          ∙ root-found c.loop-token.place c.in_ok-token.next k.finding c.loop-token.sight c.in_ok-root.root k.shows c.in_ok-root.ensures.root;
    }

pub returns-in_err-find-clause-refused : goal.returns-in_err-find-clause-refused
returns-in_err-find-clause-refused c =
    let p = err_from_is_err_and c.from_residual-in_err-find.result c.from_residual-in_err-find.ensures.1 in
    let t = c.in_ok-token.token in
    rw (p.1, p.2) (λ f e s.
    let k = c.loop-token.invariant.looks f e s in
    refused _ _ _ c.in_err-find.ensures.err
    (λ d x. sym k.same ∙ read_refused parts _ _ _ _ _ _ c.in_ok-token.ensures.token c.in_ok-token.ensures.within (cc) (step-refused t.op c.loop-token.place t.number _ k.finding c.loop-token.sight d k.sound k.shows x)))

pub loop-token-preserved : goal.loop-token-preserved
loop-token-preserved c =
    let w = c.in_ok-token.ensures.within in
    let t = c.in_ok-token.token in
    let bytes = take (t.start + t.length - t.start) (drop t.start c.args.input.now) in
    record {
      looks = λ f e s.
          let k = c.loop-token.invariant.looks f e s in
          let found =
          step-found t.op c.loop-token.place t.number bytes k.finding c.loop-token.sight _
          (AreBytes-take (t.start + t.length - t.start) (drop t.start c.args.input.now) (AreBytes-drop t.start c.args.input.now (λ i. omega (arith, c.type_inv.input i))))
          (span_fits t.op t.number c.args.input.now t.start t.length c.in_ok-token.ensures.fits) k.sound k.shows c.in_ok-find.ensures.ok in
          record {
            finding = found.finding;
            shows = found.shows;
            sound = found.sound;
            limit = found.limit ∙ k.limit;
            same = sym (read_on parts _ _ _ _ _ _ c.in_ok-token.ensures.token w (cc) found.reads) ∙ k.same;
          };
      behind = omega (arith, c.loop-token.invariant.behind, w.opcode, w.last);
    }
