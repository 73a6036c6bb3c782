use Rattle.std.proofs.Common.{◌∙◌, None, ap}
use Rattle.btree_putting.specs.Items.{has_value}
use Rattle.btree_setting.proofs.Halves.{value_standing}
use Rattle.btree_setting.proofs.inserting.item_has.Goals as goal

pub returns : goal.returns
returns c =
    c.has_value.ensures ∙ ap (λ xs. has_value xs c.args.key.now c.args.value.now) c.standing.ensures ∙ value_standing None c.args.items.now c.args.key.now c.args.value.now c.requires.rises
