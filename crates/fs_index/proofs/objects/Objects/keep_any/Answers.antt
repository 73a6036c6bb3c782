use Rattle.std.proofs.Common.{ℕ, [], ◌<◌, ◌∷◌, ◌++◌, List, ap, sym, subst, ◌∙◌}
use Rattle.std.specs.Prelude.{slice_get}
use Rattle.fs_index.specs.declared.place.Place.{Place}
use Rattle.fs_index.specs.Places.{PlacesKept, places_in, Added, HasRoomIn}
use Rattle.fs_index.specs.Slots.{ObjectsKept, slots_from, if_held, if_one, alone_kept}
use Rattle.fs_index.proofs.Adding.{then_ok, then_err, added_by}
use Rattle.fs_index.proofs.Alone.{no_room}
use Rattle.fs_index.proofs.Slots.{held_places, other_added, other_same, other_had, other_keeps}
use Rattle.fs_index.proofs.objects.Objects.keep_any.Goals as goal

pub returns-in_err-two-clause-succeeds : goal.returns-in_err-two-clause-succeeds
returns-in_err-two-clause-succeeds c =
    let held = ap (λ (ps : List Place). if_held (slice_get (alone_kept ps) c.args.oid)) (sym c.as_slice.ensures.value) ∙ c.one_of.ensures.held ∙ ap if_one c.in-Some.is in
    let old_is = ap (λ (es : List (ℕ × PlacesKept)). es ++ c.self.inside.several.entries) c.lengthen.ensures ∙ ap (λ (k : ObjectsKept). k.entries) c.self.view_is in
    λ room has. absurd (no_room (alone_kept c.lengthen.new.alone.items) c.self.inside.several.entries c.args.oid (c.in-Some.one ∷ []) held (subst (λ (es : List (ℕ × PlacesKept)). HasRoomIn es c.args.oid) (sym old_is) has))

pub returns-in-Some-clause-ok : goal.returns-in-Some-clause-ok
returns-in-Some-clause-ok c =
    let held = ap (λ (ps : List Place). if_held (slice_get (alone_kept ps) c.args.oid)) (sym c.as_slice.ensures.value) ∙ c.one_of.ensures.held ∙ ap if_one c.in-Some.is in
    let old_is = ap (λ (es : List (ℕ × PlacesKept)). es ++ c.self.inside.several.entries) c.lengthen.ensures ∙ ap (λ (k : ObjectsKept). k.entries) c.self.view_is in
    then_ok c.replace.result c.replace.ensures.ok
    (λ changes. subst (λ (old : List (ℕ × PlacesKept)). Added old c.args.oid c.args.place (slots_from 0 (alone_kept c.replace.new.alone.items) ++ c.replace.new.several.entries)) old_is
    (added_by (slots_from 0 (alone_kept c.lengthen.new.alone.items) ++ c.self.inside.several.entries) (slots_from 0 (alone_kept c.replace.new.alone.items) ++ c.replace.new.several.entries) c.args.oid c.args.place (c.in-Some.one ∷ []) c.in_ok-two.two
    (held_places (alone_kept c.lengthen.new.alone.items) c.self.inside.several.entries c.args.oid (record { places = c.in-Some.one ∷ []; room = 0 }) held) c.in_ok-two.ensures changes))

pub returns-in-Some-clause-succeeds : goal.returns-in-Some-clause-succeeds
returns-in-Some-clause-succeeds c =
    let held = ap (λ (ps : List Place). if_held (slice_get (alone_kept ps) c.args.oid)) (sym c.as_slice.ensures.value) ∙ c.one_of.ensures.held ∙ ap if_one c.in-Some.is in
    let old_is = ap (λ (es : List (ℕ × PlacesKept)). es ++ c.self.inside.several.entries) c.lengthen.ensures ∙ ap (λ (k : ObjectsKept). k.entries) c.self.view_is in
    λ room has. absurd (no_room (alone_kept c.lengthen.new.alone.items) c.self.inside.several.entries c.args.oid (c.in-Some.one ∷ []) held (subst (λ (es : List (ℕ × PlacesKept)). HasRoomIn es c.args.oid) (sym old_is) has))

pub returns-clause-ok : goal.returns-clause-ok
returns-clause-ok c =
    let absent = ap (λ (ps : List Place). if_held (slice_get (alone_kept ps) c.args.oid)) (sym c.as_slice.ensures.value) ∙ c.one_of.ensures.held ∙ ap if_one c.in_default.is in
    let old_is = ap (λ (es : List (ℕ × PlacesKept)). es ++ c.self.inside.several.entries) c.lengthen.ensures ∙ ap (λ (k : ObjectsKept). k.entries) c.self.view_is in
    then_ok c.keep.result c.keep.ensures.ok
    (λ added. subst (λ (old : List (ℕ × PlacesKept)). Added old c.args.oid c.args.place (slots_from 0 (alone_kept c.lengthen.new.alone.items) ++ c.keep.new.self.entries)) old_is
    (other_added (alone_kept c.lengthen.new.alone.items) c.self.inside.several.entries c.keep.new.self.entries c.args.oid c.args.place absent added))

pub returns-clause-err : goal.returns-clause-err
returns-clause-err c =
    let old_is = ap (λ (es : List (ℕ × PlacesKept)). es ++ c.self.inside.several.entries) c.lengthen.ensures ∙ ap (λ (k : ObjectsKept). k.entries) c.self.view_is in
    then_err c.keep.result c.keep.ensures.err
    (λ same o. other_same (alone_kept c.lengthen.new.alone.items) c.self.inside.several.entries c.keep.new.self.entries same o ∙ ap (λ (es : List (ℕ × PlacesKept)). places_in es o) old_is)

pub returns-clause-succeeds : goal.returns-clause-succeeds
returns-clause-succeeds c =
    let absent = ap (λ (ps : List Place). if_held (slice_get (alone_kept ps) c.args.oid)) (sym c.as_slice.ensures.value) ∙ c.one_of.ensures.held ∙ ap if_one c.in_default.is in
    let old_is = ap (λ (es : List (ℕ × PlacesKept)). es ++ c.self.inside.several.entries) c.lengthen.ensures ∙ ap (λ (k : ObjectsKept). k.entries) c.self.view_is in
    λ room has. c.keep.ensures.succeeds (subst (λ (n : ℕ). 0 < n) (sym (ap (λ (k : ObjectsKept). k.room) c.self.view_is)) room)
    (other_had (alone_kept c.lengthen.new.alone.items) c.self.inside.several.entries c.args.oid absent (subst (λ (es : List (ℕ × PlacesKept)). HasRoomIn es c.args.oid) (sym old_is) has))

pub returns-clause-others : goal.returns-clause-others
returns-clause-others c =
    let old_is = ap (λ (es : List (ℕ × PlacesKept)). es ++ c.self.inside.several.entries) c.lengthen.ensures ∙ ap (λ (k : ObjectsKept). k.entries) c.self.view_is in
    λ o other had. other_keeps (alone_kept c.lengthen.new.alone.items) c.self.inside.several.entries c.keep.new.self.entries o (c.keep.ensures.others o other)
    (subst (λ (es : List (ℕ × PlacesKept)). HasRoomIn es o) (sym old_is) had)
