use Rattle.std.proofs.Common.{[], ap, sym, ◌∙◌}
use Rattle.std.specs.Prelude.{option_copied, slice_get}
use Rattle.std.specs.Option.{option_map_or}
use Rattle.fs_index.specs.Places.{places_in}
use Rattle.fs_index.specs.Slots.{ObjectsKept, if_held}
use Rattle.fs_index.proofs.Slots.{held_places, other_places}
use Rattle.fs_index.proofs.several.Several.places.Goals as goal

pub returns-in-Some : goal.returns-in-Some
returns-in-Some c =
    let held = ap (λ ks. if_held (slice_get ks c.args.oid)) (sym c.as_slice.ensures.value) ∙ sym c.slot_of.ensures ∙ ap (λ o. option_copied o) c.in-Some.is in
    c.as_slice-in-Some.ensures ∙ sym (held_places c.self.inside.slots.items c.self.inside.others.entries c.args.oid c.in-Some.places.now held)
    ∙ ap (λ (k : ObjectsKept). places_in k.entries c.args.oid) c.self.view_is

pub returns-then-is_bare : goal.returns-then-is_bare
returns-then-is_bare c =
    let absent = ap (λ ks. if_held (slice_get ks c.args.oid)) (sym c.as_slice.ensures.value) ∙ sym c.slot_of.ensures ∙ ap (λ o. option_copied o) c.in_default.is in
    sym (other_places c.self.inside.slots.items c.self.inside.others.entries c.args.oid absent ∙ ap (λ o. option_map_or (λ k. k.places) o []) (c.is_bare.ensures c.args.oid c.if-is_bare.true))
    ∙ ap (λ (k : ObjectsKept). places_in k.entries c.args.oid) c.self.view_is

pub returns-in-None : goal.returns-in-None
returns-in-None c =
    let absent = ap (λ ks. if_held (slice_get ks c.args.oid)) (sym c.as_slice.ensures.value) ∙ sym c.slot_of.ensures ∙ ap (λ o. option_copied o) c.in_default.is in
    sym (other_places c.self.inside.slots.items c.self.inside.others.entries c.args.oid absent ∙ ap (λ o. option_map_or (λ k. k.places) o []) (sym c.looked_up.ensures ∙ ap (λ o. option_copied o) c.in-None.is))
    ∙ ap (λ (k : ObjectsKept). places_in k.entries c.args.oid) c.self.view_is

pub returns-in-Some-looked_up : goal.returns-in-Some-looked_up
returns-in-Some-looked_up c =
    let absent = ap (λ ks. if_held (slice_get ks c.args.oid)) (sym c.as_slice.ensures.value) ∙ sym c.slot_of.ensures ∙ ap (λ o. option_copied o) c.in_default.is in
    c.as_slice-in-Some-looked_up.ensures
    ∙ sym (other_places c.self.inside.slots.items c.self.inside.others.entries c.args.oid absent ∙ ap (λ o. option_map_or (λ k. k.places) o []) (sym c.looked_up.ensures ∙ ap (λ o. option_copied o) c.in-Some-looked_up.is))
    ∙ ap (λ (k : ObjectsKept). places_in k.entries c.args.oid) c.self.view_is
