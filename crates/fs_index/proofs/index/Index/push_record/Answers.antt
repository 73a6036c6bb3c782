use Rattle.std.proofs.Common.{◌∙◌, ℕ, List, All, ap, subst, sym}
use Rattle.fs_index.specs.Places.{Kept, PlacesKept, places_in, IsBefore, IsSoundIndex}
use Rattle.fs_index.specs.Slots.{ObjectsKept}
use Rattle.fs_index.proofs.Rising.{sound_after}
use Rattle.fs_index.proofs.index.Index.push_record.Goals as goal

pub invariant_of-self : goal.invariant_of-self
invariant_of-self c =
    let same = ap (λ (k : ObjectsKept). k.entries) c.make_room.ensures in
    sound_after c.keep.result c.make_room.new.self.entries c.keep.new.self.entries c.self.inside.transactions.items c.args.oid c.args.place
    (subst (λ (es : List (ℕ × PlacesKept)). IsSoundIndex es c.self.inside.transactions.items) (sym same) c.self.invariant)
    (subst (λ (es : List (ℕ × PlacesKept)). All (IsBefore c.args.place.serial c.args.place.at) (places_in es c.args.oid)) (sym (same ∙ ap (λ (k : Kept). k.entries) c.self.view_is)) c.requires.behind)
    c.keep.ensures.ok c.keep.ensures.err
