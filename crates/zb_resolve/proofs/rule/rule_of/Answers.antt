use Rattle.std.proofs.Common.{◌≡◌, ◌∙◌, ap, sym, Some}
use Rattle.zb_resolve.specs.Classes.{rule_in, rule_named, class_node}
use Rattle.pickle_graph.specs.declared.node.Node.TheVariants as nodes
use Rattle.zb_resolve.proofs.rule.rule_of.Goals as goal

pub returns-in-Some-Global-clause-rule : goal.returns-in-Some-Global-clause-rule
returns-in-Some-Global-clause-rule c =
    let there : Some (nodes.Global c.in-Some-Global.module c.in-Some-Global.name) ≡ class_node c.args.class.now = ap Some (sym c.in-Some-Global.field-0-is) ∙ c.in-Some-Global.ensures in
    c.rule_named.ensures.rule
    ∙ (λ i. rule_named (c.as_slice.ensures.value i) (c.as_slice-in-Some-Global.ensures.value i))
    ∙ ap rule_in there
