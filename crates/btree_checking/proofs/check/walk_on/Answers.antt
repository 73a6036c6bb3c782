-- A walk to its end.
use Rattle.std.proofs.Common.{◌≡◌, ℕ, List, Option, ◌∙◌, refl, subst, append-nil}
use Rattle.btree_shapes.specs.Nodes.{objects_of}
use Rattle.btree_shapes.specs.Logs.{only_none, only_more}
use Rattle.btree_checking.specs.declared.walk.Walk.{Walk}
use Rattle.btree_checking.specs.Steps.{GoesOn, comes_to, entering}
use Rattle.btree_checking.proofs.Going.{rest_next, since_same, since_more, next_longer, next_gives, next_reads}
use Rattle.btree_checking.proofs.check.walk_on.Goals as goal

pub walk-init : goal.walk-init
walk-init g c = record {
  held = c.requires.held;
  small = c.requires.small;
  gives = refl;
  read = λ t. since_same _ _ _ refl;
  only = λ t. only_none _;
  contents = refl;
  refusals = λ t. refl;
}

pub returns-in_err-next-clause-only : goal.returns-in_err-next-clause-only
returns-in_err-next-clause-only g c = λ t. only_more _ _ _ (c.walk.invariant.only t) (c.in_err-next.ensures.only t)

pub returns-in-Stopped-clause-only : goal.returns-in-Stopped-clause-only
returns-in-Stopped-clause-only g c = λ t. only_more _ _ _ (c.walk.invariant.only t) (c.in_ok-next.ensures.only t)

pub walk-preserved-in-On : goal.walk-preserved-in-On
walk-preserved-in-On g c =
    let i = c.walk.invariant in
    let n = c.in_ok-next.ensures in
    let root = c.args.tree.now.root in
    let walk : Walk = record { survey = c.walk.walk.survey; todo = c.pop.new.self } in
    let longer = next_longer _ _ _ _ _ c.in-On.is (subst (λ (cs : ℕ → Option (List ℕ)). GoesOn (objects_of cs root) c.walk.walk.survey.visits c.in-Some.place.oid c.in_ok-next.field-0) i.contents n.on) in
    let gives = subst (λ (cs : ℕ → Option (List ℕ)). comes_to (objects_of cs root) walk c.in_ok-next.field-0 ≡ entering (objects_of cs root) walk c.in-Some.place) i.contents n.gives in
    record {
      held = longer.held;
      small = longer.small;
      gives = next_gives _ walk _ _ _ c.in-On.is gives ∙ rest_next _ _ _ _ _ c.in-Some.ensures ∙ i.gives;
      read = λ t. since_more _ _ _ _ _ _ _ (i.read t) longer.oids (next_reads _ _ _ _ _ c.in-On.is (n.read t));
      only = λ t. only_more _ _ _ (i.only t) (n.only t);
      contents = n.contents ∙ i.contents;
      refusals = λ t. n.refusals t ∙ append-nil _ ∙ i.refusals t;
    }

pub walk-preserved-in-On-2 : goal.walk-preserved-in-On-2
walk-preserved-in-On-2 g c =
    let i = c.walk.invariant in
    let n = c.in_ok-next.ensures in
    let root = c.args.tree.now.root in
    let walk : Walk = record { survey = c.walk.walk.survey; todo = c.pop.new.self } in
    let longer = next_longer _ _ _ _ _ c.in-On.is (subst (λ (cs : ℕ → Option (List ℕ)). GoesOn (objects_of cs root) c.walk.walk.survey.visits c.in-Some.place.oid c.in_ok-next.field-0) i.contents n.on) in
    let gives = subst (λ (cs : ℕ → Option (List ℕ)). comes_to (objects_of cs root) walk c.in_ok-next.field-0 ≡ entering (objects_of cs root) walk c.in-Some.place) i.contents n.gives in
    record {
      held = longer.held;
      small = longer.small;
      gives = next_gives _ walk _ _ _ c.in-On.is gives ∙ rest_next _ _ _ _ _ c.in-Some.ensures ∙ i.gives;
      read = λ t. since_more _ _ _ _ _ _ _ (i.read t) longer.oids (next_reads _ _ _ _ _ c.in-On.is (n.read t));
      only = λ t. only_more _ _ _ (i.only t) (n.only t);
      contents = n.contents ∙ i.contents;
      refusals = λ t. n.refusals t ∙ append-nil _ ∙ i.refusals t;
    }

pub walk-preserved-in-On-3 : goal.walk-preserved-in-On-3
walk-preserved-in-On-3 g c =
    let i = c.walk.invariant in
    let n = c.in_ok-next.ensures in
    let root = c.args.tree.now.root in
    let walk : Walk = record { survey = c.walk.walk.survey; todo = c.pop.new.self } in
    let longer = next_longer _ _ _ _ _ c.in-On.is (subst (λ (cs : ℕ → Option (List ℕ)). GoesOn (objects_of cs root) c.walk.walk.survey.visits c.in-Some.place.oid c.in_ok-next.field-0) i.contents n.on) in
    let gives = subst (λ (cs : ℕ → Option (List ℕ)). comes_to (objects_of cs root) walk c.in_ok-next.field-0 ≡ entering (objects_of cs root) walk c.in-Some.place) i.contents n.gives in
    record {
      held = longer.held;
      small = longer.small;
      gives = next_gives _ walk _ _ _ c.in-On.is gives ∙ rest_next _ _ _ _ _ c.in-Some.ensures ∙ i.gives;
      read = λ t. since_more _ _ _ _ _ _ _ (i.read t) longer.oids (next_reads _ _ _ _ _ c.in-On.is (n.read t));
      only = λ t. only_more _ _ _ (i.only t) (n.only t);
      contents = n.contents ∙ i.contents;
      refusals = λ t. n.refusals t ∙ append-nil _ ∙ i.refusals t;
    }

pub walk-preserved : goal.walk-preserved
walk-preserved g c =
    let i = c.walk.invariant in
    let n = c.in_ok-next.ensures in
    let root = c.args.tree.now.root in
    let walk : Walk = record { survey = c.walk.walk.survey; todo = c.pop.new.self } in
    let longer = next_longer _ _ _ _ _ c.in-On.is (subst (λ (cs : ℕ → Option (List ℕ)). GoesOn (objects_of cs root) c.walk.walk.survey.visits c.in-Some.place.oid c.in_ok-next.field-0) i.contents n.on) in
    let gives = subst (λ (cs : ℕ → Option (List ℕ)). comes_to (objects_of cs root) walk c.in_ok-next.field-0 ≡ entering (objects_of cs root) walk c.in-Some.place) i.contents n.gives in
    record {
      held = longer.held;
      small = longer.small;
      gives = next_gives _ walk _ _ _ c.in-On.is gives ∙ rest_next _ _ _ _ _ c.in-Some.ensures ∙ i.gives;
      read = λ t. since_more _ _ _ _ _ _ _ (i.read t) longer.oids (next_reads _ _ _ _ _ c.in-On.is (n.read t));
      only = λ t. only_more _ _ _ (i.only t) (n.only t);
      contents = n.contents ∙ i.contents;
      refusals = λ t. n.refusals t ∙ append-nil _ ∙ i.refusals t;
    }
