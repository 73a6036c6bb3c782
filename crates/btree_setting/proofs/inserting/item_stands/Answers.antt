use Rattle.std.proofs.Common.{◌∙◌, None, ap}
use Rattle.btree_putting.specs.Items.{has_key}
use Rattle.btree_setting.proofs.Halves.{key_standing}
use Rattle.btree_setting.proofs.inserting.item_stands.Goals as goal

pub returns : goal.returns
returns c = c.has_key.ensures ∙ ap (λ xs. has_key xs c.args.key.now) c.standing.ensures ∙ key_standing None c.args.items.now c.args.key.now c.requires.rises
