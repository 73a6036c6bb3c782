use Rattle.std.proofs.Common.{ℕ, List, ap, sym, subst, ◌∙◌}
use Rattle.std.specs.Prelude.{slice_get}
use Rattle.fs_index.specs.Places.{PlacesKept, places_in, HasRoomIn}
use Rattle.fs_index.specs.Slots.{ObjectsKept, if_held}
use Rattle.fs_index.proofs.Adding.{then_ok}
use Rattle.fs_index.proofs.Slots.{other_has, other_same, other_keeps}
use Rattle.fs_index.proofs.several.Several.reserve_one.Goals as goal

pub returns-clause-ok : goal.returns-clause-ok
returns-clause-ok c =
    let absent = ap (λ ks. if_held (slice_get ks c.args.oid)) (sym c.as_slice.ensures.value) ∙ c.is_held.ensures.absent c.if-is_held.false in
    then_ok c.reserve_other.result c.reserve_other.ensures.ok
    (λ room. other_has c.self.inside.slots.items c.reserve_other.new.others.entries c.args.oid absent room)

pub returns-clause-others : goal.returns-clause-others
returns-clause-others c = λ o had. other_keeps c.self.inside.slots.items c.self.inside.others.entries c.reserve_other.new.others.entries o (c.reserve_other.ensures.others o)
    (subst (λ (es : List (ℕ × PlacesKept)). HasRoomIn es o) (sym (ap (λ (k : ObjectsKept). k.entries) c.self.view_is)) had)

pub returns-clause-places : goal.returns-clause-places
returns-clause-places c = λ o. other_same c.self.inside.slots.items c.self.inside.others.entries c.reserve_other.new.others.entries c.reserve_other.ensures.places o
    ∙ ap (λ (k : ObjectsKept). places_in k.entries o) c.self.view_is
