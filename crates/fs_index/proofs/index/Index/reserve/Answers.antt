use Rattle.std.proofs.Common.{◌∙◌, ap}
use Rattle.fs_index.specs.Places.{places_in}
use Rattle.fs_index.proofs.Rising.{sound_still}
use Rattle.fs_index.proofs.index.Index.reserve.Goals as goal

pub invariant_of-self-in_err-reserve_each : goal.invariant_of-self-in_err-reserve_each
invariant_of-self-in_err-reserve_each c = sound_still c.self.inside.objects.entries c.reserve_each.new.objects.entries c.self.inside.transactions.items c.reserve.new.self.items c.self.invariant c.reserve_each.ensures.places c.reserve.ensures.items

pub invariant_of-self-2 : goal.invariant_of-self-2
invariant_of-self-2 c =
    sound_still c.self.inside.objects.entries c.reserve-2.new.self.entries c.self.inside.transactions.items c.reserve.new.self.items c.self.invariant
    (λ o. ap (λ entries. places_in entries o) c.reserve-2.ensures.entries ∙ c.reserve_each.ensures.places o) c.reserve.ensures.items
