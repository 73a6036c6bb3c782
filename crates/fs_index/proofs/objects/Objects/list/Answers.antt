use Rattle.std.proofs.Common.{subst, arith}
use Rattle.std.proofs.lemmas.List.{length-map}
use Rattle.fs_index.specs.Slots.{ObjectsKept, alone_kept, alone_of}
use Rattle.fs_index.specs.Listed.{AreListed}
use Rattle.fs_index.proofs.Collecting.{slots_listed}
use Rattle.fs_index.proofs.objects.Objects.list.Goals as goal

pub returns : goal.returns
returns c =
    subst (λ (k : ObjectsKept). AreListed c.list.new.oids.items k.entries) c.self.view_is
    (slots_listed (alone_kept c.self.inside.alone.items) c.self.inside.several.entries c.list.new.oids.items
    (λ o less. c.in_ok-list.ensures.kept o (c.in_ok-list_first.ensures.first o (omega (arith, less, c.len.ensures, length-map c.self.inside.alone.items alone_of)))) c.in_ok-list.ensures.listed)
