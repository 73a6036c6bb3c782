use Rattle.std.proofs.Common.{ap, sym, ◌∙◌, take, drop}
use Rattle.std.specs.Prelude.{slice_get}
use Rattle.fs_index.specs.Places.{places_in}
use Rattle.fs_index.specs.Slots.{ObjectsKept, if_held, if_one, alone_kept}
use Rattle.fs_index.proofs.Alone.{one_there}
use Rattle.fs_index.proofs.Slots.{held_places, other_places}
use Rattle.fs_index.proofs.objects.Objects.places.Goals as goal

pub returns-in-Some : goal.returns-in-Some
returns-in-Some c =
    let held = ap (λ ps. if_held (slice_get (alone_kept ps) c.args.oid)) (sym c.as_slice.ensures.value) ∙ c.one_of.ensures.held ∙ ap if_one c.in-Some.is in
    c.ones_at.ensures ∙ ap (λ ps. take 1 (drop c.args.oid ps)) c.as_slice-in-Some.ensures.value
    ∙ sym (held_places (alone_kept c.self.inside.alone.items) c.self.inside.several.entries c.args.oid (record { places = take 1 (drop c.args.oid c.self.inside.alone.items); room = 0 }) (one_there c.self.inside.alone.items c.args.oid _ held))
    ∙ ap (λ (k : ObjectsKept). places_in k.entries c.args.oid) c.self.view_is

pub returns : goal.returns
returns c =
    let absent = ap (λ ps. if_held (slice_get (alone_kept ps) c.args.oid)) (sym c.as_slice.ensures.value) ∙ c.one_of.ensures.held ∙ ap if_one c.in_default.is in
    c.places.ensures ∙ sym (other_places (alone_kept c.self.inside.alone.items) c.self.inside.several.entries c.args.oid absent)
    ∙ ap (λ (k : ObjectsKept). places_in k.entries c.args.oid) c.self.view_is
