use Rattle.std.proofs.Common.{subst, arith}
use Rattle.fs_index.specs.Slots.{ObjectsKept}
use Rattle.fs_index.specs.Listed.{AreListed}
use Rattle.fs_index.proofs.Collecting.{slots_listed}
use Rattle.fs_index.proofs.several.Several.list.Goals as goal

pub returns-clause-listed : goal.returns-clause-listed
returns-clause-listed c =
    subst (λ (k : ObjectsKept). AreListed c.list_keys.new.oids.items k.entries) c.self.view_is
    (slots_listed c.self.inside.slots.items c.self.inside.others.entries c.list_keys.new.oids.items
    (λ o less. c.in_ok-list_keys.ensures.kept o (c.in_ok-list_first.ensures.first o (omega (arith, less, c.len.ensures)))) c.in_ok-list_keys.ensures.listed)
