-- A history of no entries. For the proofs of those who share a hub. Own.
use Rattle.std.proofs.Common.{◌≡◌, ℕ, inl, false, true≢false, List, [], ◌∙◌, refl, sym, subst, arith}
use Rattle.zb_model.specs.declared.data.Transaction.{Transaction}
use Rattle.zb_volume.specs.declared.areas.Area.TheVariants.{Main}
use Rattle.zb_volume.specs.Moments.{Leaves, here}
use Rattle.zodb_core.specs.HubState.{HubState, StandsForMachine, counts_of}
use Rattle.zodb_core.specs.Machine.{Rules, machine_over}
use Rattle.hub_shared.specs.Seats.{HasLasted}

-- a history of no entries has done nothing
pub nothing_lasted : {R F : Type 0} (lasts told : Type 0) (stands : List ℕ → List Transaction → Type 0) (rules : Rules) (list : List Transaction) (hub : HubState R F)
    → (lasts → hub.store.broken ≡ false → Leaves Main (λ bytes. stands bytes hub.store.list) hub.store.log) → (told → StandsForMachine hub (machine_over list))
    → HasLasted lasts told stands rules list (counts_of hub.store) hub.store.log hub.store.broken [] hub
nothing_lasted lasts told stands rules list hub leaves is = record {
  later = record { reads = omega arith; others = omega arith };
  same = λ whole now. refl;
  broken = λ whole broken. absurd (true≢false (sym broken ∙ whole));
  moments = λ l t whole. here (λ image crash. record {
    front = [];
    begins = ([], refl);
    is = inl (subst (λ (xs : List Transaction). stands image xs) (sym ((is t).list whole)) (leaves l whole image crash));
  });
}
