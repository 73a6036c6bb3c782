use Rattle.std.proofs.Common.{◌≡◌, ℕ, All, take}
use Rattle.fs_index.specs.Places.{places_in, HasRoomIn}
use Rattle.fs_index.proofs.index.reserve_each.Given as goal

-- the first of them have room, and the places are as before
abbrev pub invariant-each : goal.invariant-each
invariant-each l = record {
  room : All (λ p. HasRoomIn l.objects.entries p.oid) (take l.one-index l.placed);
  places : (o : ℕ) → places_in l.objects.entries o ≡ places_in l.fn.objects.entries o;
}
