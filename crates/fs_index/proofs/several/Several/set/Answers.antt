use Rattle.std.proofs.Common.{ℕ, List, ap, ◌∙◌, ◌++◌, cond, eqb, Some, arith}
use Rattle.std.specs.Prelude.{nat_eq}
use Rattle.std.specs.Map.{lookup}
use Rattle.fs_index.specs.Places.{PlacesKept}
use Rattle.fs_index.specs.Slots.{ObjectsKept}
use Rattle.fs_index.proofs.Adding.{then_ok}
use Rattle.fs_index.proofs.Alone.{other_set}
use Rattle.fs_index.proofs.several.Several.set.Goals as goal

pub returns-clause-ok : goal.returns-clause-ok
returns-clause-ok c =
    let old_is = ap (λ (es : List (ℕ × PlacesKept)). es ++ c.self.inside.others.entries) c.reach.ensures ∙ ap (λ (k : ObjectsKept). k.entries) c.self.view_is in
    then_ok c.set_other.result c.set_other.ensures.ok
    (λ set o. other_set c.reach.new.slots.items c.self.inside.others.entries c.set_other.new.others.entries c.args.oid c.args.places (omega (arith, c.if-oid-len.false, c.len.ensures, c.oid.view_is)) set o
    ∙ ap (λ (es : List (ℕ × PlacesKept)). cond (eqb c.args.oid o) (Some c.args.places) (lookup (nat_eq o) es)) old_is)
