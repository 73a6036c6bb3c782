use Rattle.btree_maps.proofs.Reversed.{list_any_reversed}
use Rattle.btree_maps.proofs.children.Children.contains.Goals as goal

pub returns : goal.returns
returns c = rw (← c.self.view_is, list_any_reversed, ← c.as_slice.ensures.value) c.contains.ensures.value
