use Rattle.std.proofs.Common.{◌∙◌, refl, sym, ap, append-nil}
use Rattle.btree_shapes.specs.Nodes.{objects_of}
use Rattle.btree_shapes.specs.MetLaws.{first_all, up_to_start}
use Rattle.btree_setting.specs.Rungs.{settled}
use Rattle.btree_setting.proofs.Beside.{settle_start, settle_step, read_start, read_step, first_refused, first_step}
use Rattle.btree_setting.proofs.settling.settle.Goals as goal

pub down-init : goal.down-init
down-init g c = record {
  settled = settle_start _ _ _ _ _ _ c.new-known.ensures c.new-above.ensures;
  contents = refl;
  read = λ t. read_start _ _;
  met = λ t. up_to_start _ _;
  refusals = λ t. refl;
}

pub down-preserved : goal.down-preserved
down-preserved g c = record {
  settled =
      settle_step _ _ _ _ _ _ _ _ _ _ c.in-Some.rung c.in_ok-rung.rung c.down.invariant.settled c.in-Some.ensures c.in_ok-push.ensures.ok
      (ap (λ f. settled (objects_of f c.args.tree.now.root) c.args.fits c.args.key.now c.push.new.self c.in-Some.rung) (sym c.down.invariant.contents)
      ∙ ap (λ xs. settled (objects_of (g.S.Space.contents c.down.space) c.args.tree.now.root) c.args.fits c.args.key.now xs c.in-Some.rung) (sym c.as_slice.ensures)
      ∙ c.in_ok-rung.ensures.answer)
      c.in_ok-put_below.ensures;
  contents = c.in_ok-rung.ensures.contents ∙ c.down.invariant.contents;
  read = λ t. read_step _ _ _ _ _ _ c.in-Some.rung (c.down.invariant.read t) c.in-Some.ensures (c.in_ok-rung.ensures.log t);
  met = λ t. first_step _ _ _ c.args.rungs _ _ c.in-Some.rung (c.down.invariant.met t) c.in-Some.ensures (c.in_ok-rung.ensures.log t);
  refusals = λ t. c.in_ok-rung.ensures.refusals t ∙ append-nil _ ∙ c.down.invariant.refusals t;
}

pub returns-in_err-rung-clause-met : goal.returns-in_err-rung-clause-met
returns-in_err-rung-clause-met g c = λ t. first_refused _ _ _ c.args.rungs _ _ c.in-Some.rung (c.down.invariant.met t) c.in-Some.ensures (c.in_err-rung.ensures.met t)

pub returns-in_err-put_below-clause-met : goal.returns-in_err-put_below-clause-met
returns-in_err-put_below-clause-met g c = λ t.
    first_refused _ _ _ c.args.rungs _ _ c.in-Some.rung (c.down.invariant.met t) c.in-Some.ensures (first_all _ _ _ (c.in_ok-rung.ensures.log t))
