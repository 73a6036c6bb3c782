-- That turns leave Side as it is.
use Rattle.std.proofs.Common.{◌≡◌, ℕ, zero, suc, ◌<◌, Bool, true, false, List, [], ◌∷◌, length, get_or, arith, refl, sym, subst}
use Rattle.std.specs.Prelude.{◌||◌}
use Rattle.zb_model.specs.Stores.{StoreState}
use Rattle.zb_volume.specs.declared.areas.Area.TheVariants.{Side}
use Rattle.zb_volume.specs.Moments.{StaysAs}
use Rattle.zb_script.specs.declared.line.Turn.{Turn}
use Rattle.client_turns.specs.Standing.{packs_list}
use Rattle.script_runs.specs.Outcomes.{has_pack}

-- over the clients of a store, which is then taken back
pub ran_over : (old new first last : StoreState) → first ≡ old → new ≡ last → StaysAs Side first.log last.log → StaysAs Side old.log new.log
ran_over old new first last begins ends stays =
    subst (λ (s : StoreState). StaysAs Side old.log s.log) (sym ends) (subst (λ (s : StoreState). StaysAs Side s.log last.log) begins stays)

-- ---- turns that don't pack

neither_first : (b c : Bool) → (b || c) ≡ false → b ≡ false
neither_first true c none = absurd cc
neither_first false c none = refl

neither_second : (b c : Bool) → (b || c) ≡ false → c ≡ false
neither_second true c none = absurd cc
neither_second false c none = none

pub no_pack_at : (turns : List Turn) (at : ℕ) (t : Turn) → has_pack turns ≡ false → at < length turns → t ≡ get_or turns at t → packs_list t.line ≡ false
no_pack_at [] at t none within is = absurd (omega (arith, within))
no_pack_at (first ∷ turns) zero t none within is = subst (λ (x : Turn). packs_list x.line ≡ false) (sym is) (neither_first (packs_list first.line) (has_pack turns) none)
no_pack_at (first ∷ turns) (suc at) t none within is = no_pack_at turns at t (neither_second (packs_list first.line) (has_pack turns) none) (omega (arith, within)) is
