use Rattle.std.proofs.Common.{ℕ, ◌<◌, ◌++◌, List, ap, sym, subst, ◌∙◌}
use Rattle.std.specs.Prelude.{slice_get}
use Rattle.fs_index.specs.Places.{PlacesKept, places_in, Added, HasRoomIn}
use Rattle.fs_index.specs.Slots.{ObjectsKept, slots_from, if_held}
use Rattle.fs_index.proofs.Adding.{then_ok, then_err}
use Rattle.fs_index.proofs.Slots.{other_added, other_same, other_had, other_keeps}
use Rattle.fs_index.proofs.several.Several.keep.Goals as goal

pub returns-clause-ok : goal.returns-clause-ok
returns-clause-ok c =
    let absent = ap (λ ks. if_held (slice_get ks c.args.oid)) (sym c.as_slice.ensures.value) ∙ c.is_held.ensures.absent c.if-is_held.false in
    let old_is = ap (λ (es : List (ℕ × PlacesKept)). es ++ c.self.inside.others.entries) c.lengthen.ensures ∙ ap (λ (k : ObjectsKept). k.entries) c.self.view_is in
    then_ok c.keep_other.result c.keep_other.ensures.ok
    (λ added. subst (λ (old : List (ℕ × PlacesKept)). Added old c.args.oid c.args.place (slots_from 0 c.lengthen.new.slots.items ++ c.keep_other.new.others.entries)) old_is
    (other_added c.lengthen.new.slots.items c.self.inside.others.entries c.keep_other.new.others.entries c.args.oid c.args.place absent added))

pub returns-clause-err : goal.returns-clause-err
returns-clause-err c =
    let old_is = ap (λ (es : List (ℕ × PlacesKept)). es ++ c.self.inside.others.entries) c.lengthen.ensures ∙ ap (λ (k : ObjectsKept). k.entries) c.self.view_is in
    then_err c.keep_other.result c.keep_other.ensures.err
    (λ same o. other_same c.lengthen.new.slots.items c.self.inside.others.entries c.keep_other.new.others.entries same o ∙ ap (λ (es : List (ℕ × PlacesKept)). places_in es o) old_is)

pub returns-clause-succeeds : goal.returns-clause-succeeds
returns-clause-succeeds c =
    let absent = ap (λ ks. if_held (slice_get ks c.args.oid)) (sym c.as_slice.ensures.value) ∙ c.is_held.ensures.absent c.if-is_held.false in
    let old_is = ap (λ (es : List (ℕ × PlacesKept)). es ++ c.self.inside.others.entries) c.lengthen.ensures ∙ ap (λ (k : ObjectsKept). k.entries) c.self.view_is in
    λ room has. c.keep_other.ensures.succeeds (subst (λ (n : ℕ). 0 < n) (sym (ap (λ (k : ObjectsKept). k.room) c.self.view_is)) room)
    (other_had c.lengthen.new.slots.items c.self.inside.others.entries c.args.oid absent (subst (λ (es : List (ℕ × PlacesKept)). HasRoomIn es c.args.oid) (sym old_is) has))

pub returns-clause-others : goal.returns-clause-others
returns-clause-others c =
    let old_is = ap (λ (es : List (ℕ × PlacesKept)). es ++ c.self.inside.others.entries) c.lengthen.ensures ∙ ap (λ (k : ObjectsKept). k.entries) c.self.view_is in
    λ o other had. other_keeps c.lengthen.new.slots.items c.self.inside.others.entries c.keep_other.new.others.entries o (c.keep_other.ensures.others o other)
    (subst (λ (es : List (ℕ × PlacesKept)). HasRoomIn es o) (sym old_is) had)
