use Rattle.std.proofs.Common.{◌∙◌, ap, sym, subst, arith}
use Rattle.fs_index.specs.Places.{places_in, HasRoomIn}
use Rattle.fs_index.specs.Slots.{ObjectsKept}
use Rattle.fs_index.proofs.Keeping.{one_reserved, all_reserved}
use Rattle.fs_index.proofs.index.reserve_each.Goals as goal

pub each-preserved : goal.each-preserved
each-preserved c = record {
  room = one_reserved c.each.objects.entries c.reserve_one.new.self.entries c.args.placed.now c.each.one-index c.one-item.result c.each-test.true c.one-item.is c.each.invariant.room (λ o had. c.reserve_one.ensures.others o (subst (λ (k : ObjectsKept). HasRoomIn k.entries o) (sym c.make_room.ensures) had)) c.in_ok-reserve_one.ensures.ok;
  places = λ o. c.reserve_one.ensures.places o ∙ ap (λ (k : ObjectsKept). places_in k.entries o) c.make_room.ensures ∙ c.each.invariant.places o;
}

pub returns-clause-ok : goal.returns-clause-ok
returns-clause-ok c = all_reserved c.each.objects.entries c.args.placed.now c.each.one-index (omega (arith, c.each-test.false)) c.each.invariant.room
