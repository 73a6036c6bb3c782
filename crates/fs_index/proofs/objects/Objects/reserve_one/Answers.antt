use Rattle.std.proofs.Common.{ℕ, [], ◌∷◌, ◌++◌, List, Some, ap, sym, subst, ◌∙◌}
use Rattle.std.specs.Prelude.{slice_get}
use Rattle.fs_index.specs.declared.place.Place.{Place}
use Rattle.fs_index.specs.Places.{PlacesKept, places_in, HasRoomIn}
use Rattle.fs_index.specs.Slots.{ObjectsKept, slots_from, if_held, if_one, alone_kept}
use Rattle.fs_index.proofs.Adding.{then_ok, same_by}
use Rattle.fs_index.proofs.Alone.{either}
use Rattle.fs_index.proofs.Slots.{looked_up, other_has, other_same, other_keeps}
use Rattle.fs_index.proofs.objects.Objects.reserve_one.Goals as goal

pub returns-in-Some-clause-places : goal.returns-in-Some-clause-places
returns-in-Some-clause-places c =
    let held = ap (λ (ps : List Place). if_held (slice_get (alone_kept ps) c.args.oid)) (sym c.as_slice.ensures.value) ∙ c.one_of.ensures.held ∙ ap if_one c.in-Some.is in
    λ o. either c.replace.result c.replace.ensures.ok c.replace.ensures.err_alone
    (λ changes. same_by (slots_from 0 (alone_kept c.self.inside.alone.items) ++ c.self.inside.several.entries) (slots_from 0 (alone_kept c.replace.new.alone.items) ++ c.replace.new.several.entries) c.args.oid (record { places = c.in-Some.one ∷ []; room = 0 }) c.in_ok-roomy.roomy
    (looked_up (alone_kept c.self.inside.alone.items) c.self.inside.several.entries c.args.oid (Some (record { places = c.in-Some.one ∷ []; room = 0 })) held) c.in_ok-roomy.ensures.places changes o)
    (λ alone. either c.replace.result c.replace.ensures.ok c.replace.ensures.err_several
    (λ changes. same_by (slots_from 0 (alone_kept c.self.inside.alone.items) ++ c.self.inside.several.entries) (slots_from 0 (alone_kept c.replace.new.alone.items) ++ c.replace.new.several.entries) c.args.oid (record { places = c.in-Some.one ∷ []; room = 0 }) c.in_ok-roomy.roomy
    (looked_up (alone_kept c.self.inside.alone.items) c.self.inside.several.entries c.args.oid (Some (record { places = c.in-Some.one ∷ []; room = 0 })) held) c.in_ok-roomy.ensures.places changes o)
    (λ several. ap (λ (ps : List Place). places_in (slots_from 0 (alone_kept ps) ++ c.replace.new.several.entries) o) alone ∙ ap (λ (es : List (ℕ × PlacesKept)). places_in (slots_from 0 (alone_kept c.self.inside.alone.items) ++ es) o) several))
    ∙ ap (λ (k : ObjectsKept). places_in k.entries o) c.self.view_is

pub returns-clause-ok : goal.returns-clause-ok
returns-clause-ok c =
    let absent = ap (λ (ps : List Place). if_held (slice_get (alone_kept ps) c.args.oid)) (sym c.as_slice.ensures.value) ∙ c.one_of.ensures.held ∙ ap if_one c.in_default.is in
    then_ok c.reserve_one.result c.reserve_one.ensures.ok
    (λ room. other_has (alone_kept c.self.inside.alone.items) c.reserve_one.new.self.entries c.args.oid absent room)

pub returns-clause-others : goal.returns-clause-others
returns-clause-others c = λ o had. other_keeps (alone_kept c.self.inside.alone.items) c.self.inside.several.entries c.reserve_one.new.self.entries o (c.reserve_one.ensures.others o)
    (subst (λ (es : List (ℕ × PlacesKept)). HasRoomIn es o) (sym (ap (λ (k : ObjectsKept). k.entries) c.self.view_is)) had)

pub returns-clause-places : goal.returns-clause-places
returns-clause-places c = λ o. other_same (alone_kept c.self.inside.alone.items) c.self.inside.several.entries c.reserve_one.new.self.entries c.reserve_one.ensures.places o
    ∙ ap (λ (k : ObjectsKept). places_in k.entries o) c.self.view_is
