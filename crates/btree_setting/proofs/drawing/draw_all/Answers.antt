use Rattle.std.proofs.Common.{arith, ◌^◌, ◌++◌, ◌∙◌, sym, ap, append-nil}
use Rattle.std.specs.Prelude.{map}
use Rattle.btree_shapes.specs.declared.space.Call.TheVariants.{Drew}
use Rattle.btree_setting.proofs.Numbers.{drew_more}
use Rattle.btree_setting.proofs.Trying.{below_more, drawn_count}
use Rattle.btree_setting.proofs.drawing.draw_all.Goals as goal

pub draws-preserved : goal.draws-preserved
draws-preserved g c = record {
  numbers = below_more (2 ^ 64) _ _ _ c.draws.invariant.numbers c.in_ok-oid.ensures.number c.in_ok-push.ensures.ok;
  counted = drawn_count _ _ _ _ _ c.draws.invariant.counted (omega (arith, c.draws-test.true)) c.in_ok-push.ensures.ok;
  log = λ t. drew_more _ _ _ _ _ (c.draws.invariant.log t) (c.in_ok-oid.ensures.ok t) ∙ ap (λ xs. g.S.Space.log c.args.space.now ++ map Drew xs) (sym c.in_ok-push.ensures.ok);
  contents = c.in_ok-oid.ensures.contents ∙ c.draws.invariant.contents;
  refusals = λ t. c.in_ok-oid.ensures.refusals t ∙ append-nil _ ∙ c.draws.invariant.refusals t;
}
